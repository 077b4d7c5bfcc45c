-- What the questions say of the kinds: of the one that is read, of those past the last of the tables, of a call and a map, and of those that name no node, 0 to 4.
-- Assumes nothing.
use mathlib.Core.Path.{◌≡◌, refl}
use mathlib.Core.List.{List}
use mathlib.Core.Logic.{◌≢◌}
use mathlib.Core.Bool.{true, false}
use Prim.Native.Nat.{ℕ, zero, suc, ◌+◌, ◌*◌, ◌≤◌, ◌<◌}
use native.Mathlib.Omega.{arith}
use native.Mathlib.Decide.{dec_lt}
use lib.Dec.{leb}
use lib.ListN.{length, get_or, get_or-eq_default}
use borrow.Author.Tests.{leb-true, le-leb, lt-leb}
use Rattle.std.specs.Prelude.{Some, None}
use Rattle.syntax.specs.declared.kind.Kind.{Kind}
use Rattle.syntax.specs.declared.ast.Node.{Node}
use Rattle.syntax.specs.Ast.{node_kinds}
use Rattle.syntax.specs.Kinds.{kind_of}
use Rattle.syntax.proofs.KindWords.{kind_in, kind_out}
use Rattle.syntax.proofs.Tables.{five_past}
use Rattle.lowering.specs.Tree.{children}
use Rattle.lowering.specs.Questions.{used_words, question4, question6, all_below}
use Rattle.lowering.proofs.Questions.Checked.{and_left}

-- question 3, by the kind that is read of a word, or by none
pub kind_asked : (word : ℕ) {kind : Kind} → kind_of word ≡ Some kind → leb word 14 ≡ true
kind_asked word e = le-leb word 14 (kind_in e)

pub kind_none : (word : ℕ) → kind_of word ≡ None → leb word 14 ≡ false
kind_none word e = lt-leb word 14 (kind_out e)

-- question 4 is answered yes past the last kind
pub past_used_words : (kind a b c : ℕ) → 15 ≤ kind → question4 kind a b c ≡ true
unfolding question4
past_used_words kind a b c h =
    let out : length used_words ≤ kind = omega arith in
    rw (get_or-eq_default used_words (λ x y z. true) out)

-- what question 6 says of a call and of a map
pub call_inside : (size a b c : ℕ) → question6 size 12 a b c ≡ true → b + c ≤ size
unfolding question6
call_inside size a b c h = leb-true (b + c) size (and_left (leb (b + c) size) (leb c 255) h)

pub map_inside : (size a b c : ℕ) → question6 size 14 a b c ≡ true → a + 2 * b ≤ size
unfolding question6
map_inside size a b c h = leb-true (a + 2 * b) size h

module _ (list : List ℕ) (i a b c : ℕ) where
  kind_names_none : (kind : ℕ) → kind < 5 → all_below i (children list (get_or node_kinds kind (λ x y z. Node.Nil) a b c)) ≡ true
  unfolding all_below children
  kind_names_none zero h = refl
  kind_names_none (suc zero) h = refl
  kind_names_none (suc (suc zero)) h = refl
  kind_names_none (suc (suc (suc zero))) h = refl
  kind_names_none (suc (suc (suc (suc zero)))) h = refl
  kind_names_none (suc (suc (suc (suc (suc kind))))) h = absurd (omega arith)

  past_names_none : (kind : ℕ) → 15 ≤ kind → all_below i (children list (get_or node_kinds kind (λ x y z. Node.Nil) a b c)) ≡ true
  unfolding all_below children
  past_names_none kind h =
      let out : length node_kinds ≤ kind = omega arith in
      rw (get_or-eq_default node_kinds (λ x y z. Node.Nil) out)

  -- a kind that is none of those that name nodes
  pub other_names_none : {kind : ℕ} → kind ≢ 5 → kind ≢ 6 → kind ≢ 7 → kind ≢ 8 → kind ≢ 9 → kind ≢ 10 → kind ≢ 11 → kind ≢ 12 → kind ≢ 13 → kind ≢ 14
      → all_below i (children list (get_or node_kinds kind (λ x y z. Node.Nil) a b c)) ≡ true
  other_names_none {kind} h5 h6 h7 h8 h9 h10 h11 h12 h13 h14 = go (dec_lt kind 5)
    where
      go : Dec (kind < 5) → all_below i (children list (get_or node_kinds kind (λ x y z. Node.Nil) a b c)) ≡ true
      go (yes l) = kind_names_none kind l
      go (no l) = past_names_none kind (five_past 10 (five_past 5 (omega (arith, l)) h5 h6 h7 h8 h9) h10 h11 h12 h13 h14)
