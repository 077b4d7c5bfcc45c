-- The eight numbers, by the word of the walk's answer. Assumes nothing.
use Prim.Native.Nat.{ℕ, ◌≤◌, ◌<◌}
use native.Mathlib.Decide.{dec_lt}
use native.Mathlib.Omega.{arith}
use lib.Dec.{eqb}
use borrow.Author.Tests.{ne_eqb, eqb-true}
use Rattle.std.specs.Prelude.{min, max}
use Rattle.std.proofs.lemmas.Bool.{agree_below_at}
use mathlib.Core.Path.{◌≡◌, refl}
use mathlib.Core.Bool.{Bool, true, false, cond, ◌||◌}
use mathlib.Core.List.{[], ◌∷◌}
use lib.ListN.{get_or-eq_default}
use Rattle.diagnostics.specs.declared.Refusal.{Refusal}
use Rattle.diagnostics.specs.Refusal.{refusal_number}
use Rattle.lowering.specs.Tree.{Tree, span_start, span_end}
use Rattle.lowering.specs.Walk.{Made, stops, error}
use Rattle.lowering.specs.Result as definition
use Rattle.steps.specs.Answers.{place_at, refusal_of, names_node, error_at, settle, seen, is_refusal, value_of, number_of_refusal}

-- past the last number it is the last refusal
pub past : (n : ℕ) → 20 ≤ n → refusal_of n ≡ Refusal.Jump
unfolding refusal_of
past n h =
    get_or-eq_default
    (Refusal.Size ∷ Refusal.Size ∷ Refusal.Root ∷ Refusal.Kind ∷ Refusal.Unused ∷ Refusal.Number ∷ Refusal.List ∷ Refusal.Order ∷ Refusal.Parameters
    ∷ Refusal.Undeclared ∷ Refusal.Registers ∷ Refusal.Else ∷ Refusal.Key ∷ Refusal.Code ∷ Refusal.Constants ∷ Refusal.Unmarked ∷ Refusal.Marks
    ∷ Refusal.Destination ∷ Refusal.Sum ∷ Refusal.Jump ∷ [])
    Refusal.Jump h

-- 9, 11, 12 and 15 name a node
pub node_named : (n : ℕ) → names_node (refusal_of n) ≡ (((eqb n 9 || eqb n 11) || eqb n 12) || eqb n 15)
unfolding refusal_of names_node
node_named n = go (dec_lt n 20)
  where
    go : Dec (n < 20) → names_node (refusal_of n) ≡ (((eqb n 9 || eqb n 11) || eqb n 12) || eqb n 15)
    go (yes h) = agree_below_at (λ k. names_node (refusal_of k)) (λ k. ((eqb k 9 || eqb k 11) || eqb k 12) || eqb k 15) 20 n refl h
    go (no h) = rw (past n (omega arith), ne_eqb n 9 (omega arith), ne_eqb n 11 (omega arith), ne_eqb n 12 (omega arith), ne_eqb n 15 (omega arith))

-- 1 to 19 stand for themselves
pub number_clamped : (n : ℕ) → refusal_number (refusal_of n) ≡ min (max n 1) 19
unfolding refusal_of
number_clamped n = go (dec_lt n 20)
  where
    go : Dec (n < 20) → refusal_number (refusal_of n) ≡ min (max n 1) 19
    go (yes h) = eqb-true _ _ (agree_below_at (λ k. eqb (refusal_number (refusal_of k)) (min (max k 1) 19)) (λ k. true) 20 n refl h)
    go (no h) = rw (past n (omega arith)) (omega arith)

-- the eight numbers of a refusal, and of a place
module _ (arity : ℕ) (t : Tree) (m : Made) (a : ℕ) where
  pub result_refused : {number place start end : ℕ} → is_refusal a ≡ true → number ≡ refusal_number (refusal_of (number_of_refusal a)) → place ≡ value_of a →
      start ≡ cond (names_node (refusal_of (number_of_refusal a))) (span_start t (value_of a)) 0 → end ≡ cond (names_node (refusal_of (number_of_refusal a))) (span_end t (value_of a)) 0 →
      definition.result number place start end m.state.counts.instructions m.state.counts.constants 0 0 ≡ (definition.lowered_of arity (seen t place_at m a)).result
  unfolding definition.lowered_of seen error_at
  result_refused h n p s e = rw (h, n, p, s, e) (go (names_node (refusal_of (number_of_refusal a))))
    where
      go : (b : Bool) →
          definition.result (refusal_number (refusal_of (number_of_refusal a))) (value_of a) (cond b (span_start t (value_of a)) 0) (cond b (span_end t (value_of a)) 0) m.state.counts.instructions m.state.counts.constants 0 0
          ≡ (definition.lowered_of arity (stops (cond b (error (refusal_of (number_of_refusal a)) (value_of a) (span_start t (value_of a)) (span_end t (value_of a))) (error (refusal_of (number_of_refusal a)) (value_of a) 0 0)) (settle m))).result
      go true = refl
      go false = refl

  pub result_placed : {place : ℕ} → is_refusal a ≡ false → place ≡ value_of a →
      definition.result 0 place 0 0 m.state.counts.instructions m.state.counts.constants m.state.registers.frame_size arity ≡ (definition.lowered_of arity (seen t place_at m a)).result
  unfolding definition.lowered_of seen
  result_placed h p = rw (h, p)
