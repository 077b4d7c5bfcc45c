-- The laws by which `lower` does what the definition says: the root by its mode, and the eight numbers. Assumes nothing.
use Prim.Native.Nat.{ℕ, zero, suc, ◌*◌, ◌/◌, ◌≤◌, ◌<◌}
use native.Mathlib.Omega.{arith}
use mathlib.Core.Path.{◌≡◌, refl, sym, ◌∙◌, ap}
use mathlib.Core.Logic.{◌⊎◌, inl, inr}
use mathlib.Core.Bool.{Bool, true, false}
use mathlib.Core.List.{List, ◌++◌}
use lib.Dec.{leb}
use lib.ListN.{length, get_or, take, drop}
use borrow.Author.Tests.{leb-true, ltb-true}
use Rattle.words.specs.Words.{words, tail, bytes_of}
use Rattle.words.proofs.Words.{length_words, bytes_words}
use Rattle.diagnostics.specs.declared.Refusal.{Refusal}
use Rattle.environment.specs.declared.RegisterSet.{RegisterSet}
use Rattle.environment.specs.Environment.{parameters}
use Rattle.lowering.specs.Checked.{Checked}
use Rattle.lowering.specs.declared.State.{State}
use Rattle.lowering.specs.Tree.{Tree, tree_of}
use Rattle.lowering.specs.Questions.{question2, question8, passed, refused, questions}
use Rattle.lowering.specs.Walk.{Made, made, Outcome, ends, stops, bind, ret, error}
use Rattle.lowering.specs.Steps.{free_temp, patch_marks}
use Rattle.lowering.specs.Result as definition
use Rattle.lowering.proofs.Questions.Checked.{and_right, questions_passed}
use Rattle.lowering.proofs.Bound.Lowering.{jump_false_at, jump_true_at}
use Rattle.lowering.proofs.Destinations.{patch_refusals}
use Rattle.steps.specs.Answers.{place_at, refusal_at, names_node, error_at, settled, seen, is_refusal, word_end}
use Rattle.steps.proofs.Chains.{seen_word, seen_refusal}
use Rattle.codegen.specs.Ready.{Ready}
use Rattle.result.specs.Numbers.{refused_result}
use Rattle.codegen.specs.Roots.{conditional}
use Rattle.codegen.proofs.Lent.{lent_words, lent_back}

-- the root, by its mode
module _ {t : Tree} (checked : Checked t) (root : ℕ) (m : Made) {r : Outcome ℕ} where
  pub mode_false : settled (conditional t false root m) ≡ r → settled (definition.lower_root free_temp t 1 root m) ≡ r
  unfolding definition.lower_root
  mode_false q = rw (jump_false_at checked root) q

  pub mode_true : (mode : ℕ) → 1 < mode → settled (conditional t true root m) ≡ r → settled (definition.lower_root free_temp t mode root m) ≡ r
  unfolding definition.lower_root
  mode_true zero h q = absurd (omega arith)
  mode_true (suc zero) h q = absurd (omega arith)
  mode_true (suc (suc mode)) h q = rw (jump_true_at t root) q

-- the arguments, patched or refused, and then the answer
module _ (t : Tree) (n : ℕ) (m m' : Made) (place : ℕ) where
  pub patched_done : patch_marks n 0 m ≡ ends tt m' → place < word_end → settled (bind (patch_marks n 0 m) (λ x. ret place)) ≡ seen t place_at m' place
  unfolding bind settled
  patched_done e few = rw e (sym (seen_word t place_at m' place few))

  pub patched_refused : {refusal : Refusal} {at : ℕ} → patch_marks n 0 m ≡ stops (error refusal at 0 0) m' → at < word_end →
      settled (bind (patch_marks n 0 m) (λ x. ret place)) ≡ seen t place_at m' (refusal_at refusal at)
  unfolding bind settled error_at names_node
  patched_refused {refusal} {at} e few =
      let none : names_node refusal ≡ false = no_node (patch_refusals n 0 m (error refusal at 0 0) m' e).refusal in
      rw e (sym (rw none at (seen_refusal t place_at m' refusal at few)))
    where
      no_node : (refusal ≡ Refusal.Destination) ⊎ (refusal ≡ Refusal.Sum) → names_node refusal ≡ false
      no_node (inl h) = rw h
      no_node (inr h) = rw h

-- the numbers and the buffers of a walk: the registers of a refusal do not show
pub numbered : (arity : ℕ) (o : Outcome ℕ) → definition.lowered_of arity (settled o) ≡ definition.lowered_of arity o
unfolding definition.lowered_of settled
numbered arity (ends p m) = refl
numbered arity (stops e m) = refl

-- the buffers are those that are seen
buffers : (arity : ℕ) (t : Tree) (m : Made) (a : ℕ) →
    ((definition.lowered_of arity (seen t place_at m a)).code ≡ m.code)
    × (((definition.lowered_of arity (seen t place_at m a)).constants ≡ m.constants) × ((definition.lowered_of arity (seen t place_at m a)).marks ≡ m.marks))
unfolding definition.lowered_of seen
buffers arity t m a = go (is_refusal a) refl
  where
    go : (b : Bool) → is_refusal a ≡ b →
        ((definition.lowered_of arity (seen t place_at m a)).code ≡ m.code)
        × (((definition.lowered_of arity (seen t place_at m a)).constants ≡ m.constants) × ((definition.lowered_of arity (seen t place_at m a)).marks ≡ m.marks))
    go true h = (rw h, (rw h, rw h))
    go false h = (rw h, (rw h, rw h))

-- a buffer s was lent up to n, and t came back
pub record Lent (s t : List ℕ) (n : ℕ) : Type 0 where
  pub size : n ≡ length s / 4 * 4
  pub same : length t ≡ length (take n s)
  pub byte : (i : ℕ) → get_or (t ++ drop n s) i 0 < 256

lent_is : {s t : List ℕ} {n : ℕ} → Lent s t n → words (take n s) ≡ words s
lent_is {s} {t} {n} l = lent_words s t n l.size

home : {s t : List ℕ} {n : ℕ} → Lent s t n → t ++ drop n s ≡ bytes_of (words t) ++ tail s
home {s} {t} {n} l = lent_back s t n l.size l.same l.byte

-- what the questions let through
module _ (nodes list names : List ℕ) (mode root : ℕ) where
  module _ (refusal : Refusal) (place : ℕ) (no : questions nodes list names mode root ≡ refused refusal place) (code constants marks : List ℕ) where
    -- nothing is done
    nothing : definition.lower nodes root mode list names (words code) (words constants) (words marks)
        ≡ definition.lowered (refused_result refusal place) (definition.begin (words code) (words constants) (words marks) 0 (length (words names)))
    unfolding definition.lower definition.lower_checked
    nothing = rw no

    pub not_lowered : {r : definition.Result} → ((i : ℕ) → get_or code i 0 < 256) → ((i : ℕ) → get_or constants i 0 < 256) → ((i : ℕ) → get_or marks i 0 < 256) →
        r ≡ refused_result refusal place →
        (r ≡ (definition.lower nodes root mode list names (words code) (words constants) (words marks)).result)
        × ((code ≡ bytes_of (definition.lower nodes root mode list names (words code) (words constants) (words marks)).code ++ tail code)
        × ((constants ≡ bytes_of (definition.lower nodes root mode list names (words code) (words constants) (words marks)).constants ++ tail constants)
        × (marks ≡ bytes_of (definition.lower nodes root mode list names (words code) (words constants) (words marks)).marks ++ tail marks)))
    unfolding definition.begin
    not_lowered c p m told = (rw nothing told, (rw nothing (sym (bytes_words code c)), (rw nothing (sym (bytes_words constants p)), rw nothing (sym (bytes_words marks m)))))

  module _ (yes : questions nodes list names mode root ≡ passed) where
    pub checked : Checked (tree_of nodes list names)
    checked = ((questions_passed nodes list names mode root).0 yes).checked

    pub few : length names / 4 ≤ 256
    unfolding question8
    few = rw (length_words names) at (leb-true (length (words names)) 256 ((questions_passed nodes list names mode root).0 yes).parameters)

    -- the root is a node, and there are few names
    pub ready : Ready nodes list names root
    unfolding question2 question8
    ready =
        let passes = (questions_passed nodes list names mode root).0 yes in
        (passes.checked, (leb-true (length (words names)) 256 passes.parameters, ltb-true root _ (and_right (leb mode 2) _ passes.start)))

    module _ {code c constants p marks m : List ℕ} {nc np nm : ℕ} (lc : Lent code c nc) (lp : Lent constants p np) (lm : Lent marks m nm)
        (arity : ℕ) (h : arity ≡ length names / 4) (registers : RegisterSet) (fresh : registers ≡ parameters arity) (s : State) (a : ℕ)
        (e : settled (definition.lower_root free_temp (tree_of nodes list names) mode root
        (made (words (take nc code)) (words (take np constants)) (words (take nm marks)) (record { registers = registers; counts = record { instructions = 0; constants = 0 }; marks = 0 })))
        ≡ seen (tree_of nodes list names) place_at (made (words c) (words p) (words m) s) a) where
      whole : definition.lower nodes root mode list names (words code) (words constants) (words marks)
          ≡ definition.lowered_of arity (seen (tree_of nodes list names) place_at (made (words c) (words p) (words m) s) a)
      unfolding definition.lower definition.lower_checked definition.begin
      whole =
          let count : length (words names) ≡ arity = length_words names ∙ sym h in
          let run = rw (lent_is lc, lent_is lp, lent_is lm, fresh) at e in
          rw (yes, count) (sym (numbered arity _) ∙ ap (definition.lowered_of arity) run)

      pub lowered_numbers : {r : definition.Result} → r ≡ (definition.lowered_of arity (seen (tree_of nodes list names) place_at (made (words c) (words p) (words m) s) a)).result →
          (r ≡ (definition.lower nodes root mode list names (words code) (words constants) (words marks)).result)
          × ((c ++ drop nc code ≡ bytes_of (definition.lower nodes root mode list names (words code) (words constants) (words marks)).code ++ tail code)
          × ((p ++ drop np constants ≡ bytes_of (definition.lower nodes root mode list names (words code) (words constants) (words marks)).constants ++ tail constants)
          × (m ++ drop nm marks ≡ bytes_of (definition.lower nodes root mode list names (words code) (words constants) (words marks)).marks ++ tail marks)))
      lowered_numbers told =
          let left = buffers arity (tree_of nodes list names) (made (words c) (words p) (words m) s) a in
          (rw whole told, (rw (whole, left.0) (home lc), (rw (whole, left.1.0) (home lp), rw (whole, left.1.1) (home lm))))
