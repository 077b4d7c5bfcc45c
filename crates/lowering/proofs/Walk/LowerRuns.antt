-- What comes back from lowering: a question before the walk answered no; or the tree is checked, and the walk ran by good steps to its end, or to a
-- refusal whose own condition holds where it stopped. From it: only 0 to 18 come back, 1 to 8 write nothing, and nothing is written beyond the
-- counts. Assumes nothing.
use Prim.Native.Nat.{ℕ, ◌≤◌}
use native.Mathlib.Omega.{arith}
use mathlib.Core.Path.{◌≡◌, refl, ap, subst}
use mathlib.Core.List.{List}
use lib.ListN.{length}
use borrow.Author.Tests.{leb-true}
use Rattle.diagnostics.specs.declared.Refusal.{Refusal}
use Rattle.diagnostics.specs.declared.Error.{Error}
use Rattle.diagnostics.specs.Refusal.{refusal_number}
use Rattle.words.specs.Words.{words}
use Rattle.environment.specs.Laws.{Sound}
use Rattle.environment.proofs.Laws.{parameters_sound}
use Rattle.lowering.specs.Tree.{Tree, tree_of}
use Rattle.lowering.specs.Questions.{Verdict, passed, refused, questions, question8}
use Rattle.lowering.specs.Checked.{Checked, AllYes, FirstNo, no_size, no_root, no_node, no_parameters, NodeNo, no_kind, no_unused, no_number, no_list, no_order}
use Rattle.lowering.specs.Walk.{Made, Outcome, ends, stops, Walk}
use Rattle.lowering.specs.Steps.{free_temp, free_held}
use Rattle.lowering.specs.Result.{Lowered, result, lowered, begin, lower_root, lowered_of, lower_checked, lower_by, lower}
use Rattle.lowering.specs.Trace.{Runs, step, returns, follows, halts, reads, counts, takes, gives, keeps as stays, emits, finds, pools, patches, marks as marking, moves, refuses, Own, undeclared, registers, without_else, no_value, code, constants, unmarked, marks, no_destination, sum, registers_of, instructions_of, constants_of, Marked}
use Rattle.lowering.specs.Answers.{nothing_made}
use Rattle.lowering.proofs.Questions.Checked.{questions_passed, questions_refused}
use Rattle.lowering.proofs.Walk.RootRuns.{root_runs, root_same}

-- the own condition, where an outcome is a refusal
abbrev OwnOf : Tree → ℕ → {A : Type 0} → Outcome A → Type 0
OwnOf t root (ends a m) = Unit {0}
OwnOf t root (stops e m) = Own t root e m

module _ {t : Tree} {root : ℕ} where
  own_of : {A : Type 0} {w : Walk A} {m : Made} {o : Outcome A} → Runs t root A w m o → OwnOf t root o
  own_of (step (takes k)) = tt
  own_of (step (gives r h)) = tt
  own_of (step (stays r)) = tt
  own_of (step (emits i f l h)) = tt
  own_of (step (finds c l e f)) = tt
  own_of (step (pools o f h)) = tt
  own_of (step (patches j l k)) = tt
  own_of (step (marking i start end z h)) = tt
  own_of (step (moves place l k b)) = tt
  own_of (step (refuses q o)) = o
  own_of returns = tt
  own_of (follows k a b) = own_of b
  own_of (halts k a) = own_of a
  own_of (reads k a) = own_of a
  own_of (counts a) = own_of a

  -- a refusal of the walk is one of 9 to 18
  pub own_number : {e : Error} {m : Made} → Own t root e m → (9 ≤ refusal_number e.refusal) × (refusal_number e.refusal ≤ 18)
  own_number (undeclared r e f) = (omega arith, omega arith)
  own_number (registers h) = (omega arith, omega arith)
  own_number (without_else r e) = (omega arith, omega arith)
  own_number (no_value k r e h n a) = (omega arith, omega arith)
  own_number (code h) = (omega arith, omega arith)
  own_number (constants o u h) = (omega arith, omega arith)
  own_number (unmarked r e z) = (omega arith, omega arith)
  own_number (marks h) = (omega arith, omega arith)
  own_number (no_destination k h f) = (omega arith, omega arith)
  own_number (sum k h f l) = (omega arith, omega arith)

-- a question before the walk is one of 1 to 8
node_number : {t : Tree} {i : ℕ} {r : Refusal} → NodeNo t i r → (1 ≤ refusal_number r) × (refusal_number r ≤ 8)
node_number (no_kind a) = (omega arith, omega arith)
node_number (no_unused a b) = (omega arith, omega arith)
node_number (no_number a b c) = (omega arith, omega arith)
node_number (no_list a b c d) = (omega arith, omega arith)
node_number (no_order a b c d e) = (omega arith, omega arith)

pub first_number : {nodes list names : List ℕ} {mode root : ℕ} {r : Refusal} {place : ℕ} → FirstNo nodes list names mode root r place →
    (1 ≤ refusal_number r) × (refusal_number r ≤ 8)
first_number (no_size a) = (omega arith, omega arith)
first_number (no_root a b) = (omega arith, omega arith)
first_number (no_node a b i l c h) = node_number h
first_number (no_parameters a b c d) = (omega arith, omega arith)

-- Own condition, of the walk from anything made whose registers are sound and whose marks name instructions.
pub walk_own : (t : Tree) (root : ℕ) → Checked t → length t.names ≤ 256 → (mode : ℕ) (m : Made) → Sound (registers_of m) → Marked m →
    {e : Error} {n : Made} → lower_root free_temp t mode root m ≡ stops e n → Own t root e n
walk_own t root checked few mode m s k {e} {n} h = own_of (subst (λ o. Runs t root ℕ (lower_root free_temp t mode root) m o) h (root_runs t root checked few mode m s k))

module _ (nodes : List ℕ) (root mode : ℕ) (list names code constants marks : List ℕ) where
  abbrev pub tree : Tree
  tree = tree_of nodes list names

  -- What comes back, and how it came to that.
  pub data Came : Lowered → Type 1 where
    -- a question before the walk is the first one answered no: nothing is done
    before : {r : Refusal} {place : ℕ} → FirstNo nodes list names mode root r place → Came (lowered (result (refusal_number r) place 0 0 0 0 0 0) (nothing_made nodes root mode list names code constants marks))
    -- every question is answered yes, and the walk ends: no question of it was answered no
    accepted : {place : ℕ} {m : Made} → AllYes nodes list names mode root → lower_root free_temp tree mode root (nothing_made nodes root mode list names code constants marks) ≡ ends place m →
        Runs tree root ℕ (lower_root free_temp tree mode root) (nothing_made nodes root mode list names code constants marks) (ends place m) →
        Came (lowered (result 0 place 0 0 (instructions_of m) (constants_of m) (registers_of m).frame_size (length (words names))) m)
    -- every question is answered yes, and the walk stops: the refusal's own condition holds of what was made there
    stopped : {e : Error} {m : Made} → AllYes nodes list names mode root → lower_root free_temp tree mode root (nothing_made nodes root mode list names code constants marks) ≡ stops e m →
        Runs tree root ℕ (lower_root free_temp tree mode root) (nothing_made nodes root mode list names code constants marks) (stops e m) → Own tree root e m →
        Came (lowered (result (refusal_number e.refusal) e.place e.start e.end (instructions_of m) (constants_of m) 0 0) m)

  pub few_names : AllYes nodes list names mode root → length (words names) ≤ 256
  unfolding question8
  few_names y = leb-true _ _ y.parameters

  start_sound : Sound (registers_of (nothing_made nodes root mode list names code constants marks))
  unfolding begin
  start_sound = parameters_sound (length (words names))

  start_marked : Marked (nothing_made nodes root mode list names code constants marks)
  unfolding begin
  start_marked k h = absurd (omega arith)

  -- Own condition: every answer of lowering is one of these.
  pub lower_came : Came (lower nodes root mode list names code constants marks)
  unfolding lower lower_checked lowered_of
  lower_came = go (questions nodes list names mode root) refl
    where
      walked : AllYes nodes list names mode root → (o : Outcome ℕ) → lower_root free_temp tree mode root (nothing_made nodes root mode list names code constants marks) ≡ o → Runs tree root ℕ (lower_root free_temp tree mode root) (nothing_made nodes root mode list names code constants marks) o →
          Came (lowered_of (length (words names)) o)
      walked y (ends place m) e r = accepted y e r
      walked y (stops f m) e r = stopped y e r (own_of r)

      go : (v : Verdict) → questions nodes list names mode root ≡ v → Came (lower_checked free_temp v tree mode root (nothing_made nodes root mode list names code constants marks))
      go passed e =
          let y : AllYes nodes list names mode root = (questions_passed nodes list names mode root).0 e in
          walked y (lower_root free_temp tree mode root (nothing_made nodes root mode list names code constants marks)) refl (root_runs tree root y.checked (few_names y) mode (nothing_made nodes root mode list names code constants marks) start_sound start_marked)
      go (refused r place) e = before ((questions_refused nodes list names mode root r place).0 e)

  -- No register is given back twice: for every input, refused or not, the lowering whose give-back stops where the register is not held is the lowering.
  pub given_back_once : lower_by free_held nodes root mode list names code constants marks ≡ lower nodes root mode list names code constants marks
  unfolding lower lower_checked
  given_back_once = go (questions nodes list names mode root) refl
    where
      go : (v : Verdict) → questions nodes list names mode root ≡ v → lower_checked free_held v tree mode root (nothing_made nodes root mode list names code constants marks) ≡ lower_checked free_temp v tree mode root (nothing_made nodes root mode list names code constants marks)
      go passed e =
          let y : AllYes nodes list names mode root = (questions_passed nodes list names mode root).0 e in
          ap (lowered_of (length (words names))) (root_same tree root y.checked (few_names y) mode (nothing_made nodes root mode list names code constants marks) start_sound start_marked)
      go (refused r place) e = refl
