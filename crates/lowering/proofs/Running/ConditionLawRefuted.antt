-- The law of conditions can fail: it is false of words with one wrong kind, of the words of the other mode, and of another place for the jump. Assumes
-- nothing.
use Prim.Native.Nat.{ℕ, zero, suc, ◌≤◌}
use native.Mathlib.Omega.{arith}
use mathlib.Core.Path.{◌≡◌, refl}
use mathlib.Core.Bool.{Bool, true, false}
use mathlib.Core.List.{[], ◌∷◌}
use Rattle.words.specs.Records.{capacity, record_at}
use Rattle.syntax.specs.Ast.{node_word, node_at}
use Rattle.syntax.specs.Ops.{binary_op}
use Rattle.runtime.specs.Instruction.{decode, offset_word}
use Rattle.lowering.specs.Tree.{Tree}
use Rattle.lowering.specs.Steps.{put_offset}
use Rattle.lowering.specs.Result.{Lowered, can_patch, patch_jump}
use Rattle.lowering.specs.Meaning.{met, operate, last_named, node_value, value_below, value_at, condition_asks, node_asks, condition_asks_below, asks_below, OrderPremise, ConditionPremise}
use Rattle.lowering.specs.Machine.{record_in, fetch, target, action, Registers, Now, act, step_at, machine_step, after}
use Rattle.lowering.specs.Conditions.{Entry, Goal, test_of, run_to, LeftBy, ConditionOf}
use Rattle.lowering.specs.Instance.{unfailing}
use Rattle.lowering.specs.Examples.{one_jump, one_name, less_of_names}
use Rattle.lowering.proofs.Running.Instance.{unfailing_hypotheses}

-- the goal 2
ahead : Goal 0
unfolding target
ahead = record { offset = 2; place = 2; reached = refl }

apart : {p q : ℕ} {R Q : Registers unfailing} → ◌≡◌ {A = Now unfailing} (Now.at p R) (Now.at q Q) → p ≡ q
apart e = cc

-- all registers true
named : (sense : Bool) → Entry sense one_name 0
unfolding OrderPremise asks_below node_asks ConditionPremise condition_asks_below condition_asks node_at node_word
named true = record {
  operators = unfailing;
  hypotheses = unfailing_hypotheses;
  parameters = λ r. true;
  registers = λ r. true;
  filled = λ r l. refl;
  order = tt;
  own = tt;
}
named false = record {
  operators = unfailing;
  hypotheses = unfailing_hypotheses;
  parameters = λ r. true;
  registers = λ r. true;
  filled = λ r l. refl;
  order = tt;
  own = tt;
}

-- mode 2 of x with JumpIfFalse, as mode 1 has it
pub true_as_false : ConditionOf true one_name 0 (one_jump (42 ∷ 0 ∷ 0 ∷ 0 ∷ [])) → ⊥
unfolding ahead named value_at value_below node_value node_at node_word last_named patch_jump can_patch put_offset offset_word capacity record_at record_in fetch decode target action act step_at machine_step after
true_as_false c = let r = c.runs ahead (named true) in go r.0 r.1.steps r.1.left
  where
    go : (n : ℕ) → n ≤ 1 → LeftBy true one_name 0 (one_jump (42 ∷ 0 ∷ 0 ∷ 0 ∷ [])) ahead (named true) (test_of true one_name 0 (one_jump (42 ∷ 0 ∷ 0 ∷ 0 ∷ [])) (named true))
        (run_to true one_name 0 (one_jump (42 ∷ 0 ∷ 0 ∷ 0 ∷ [])) ahead (named true) n) → ⊥
    go zero h (R, z) = let q : ◌≡◌ {A = ℕ} 0 2 = apart z in omega arith
    go (suc zero) h (R, z) = let q : ◌≡◌ {A = ℕ} 1 2 = apart z in omega arith
    go (suc (suc n)) h l = omega arith

-- mode 1 of x with JumpIfTrue
pub false_as_true : ConditionOf false one_name 0 (one_jump (43 ∷ 0 ∷ 0 ∷ 0 ∷ [])) → ⊥
unfolding ahead named value_at value_below node_value node_at node_word last_named patch_jump can_patch put_offset offset_word capacity record_at record_in fetch decode target action act step_at machine_step after
false_as_true c = let r = c.runs ahead (named false) in go r.0 r.1.steps r.1.left
  where
    go : (n : ℕ) → n ≤ 1 → LeftBy false one_name 0 (one_jump (43 ∷ 0 ∷ 0 ∷ 0 ∷ [])) ahead (named false) (test_of false one_name 0 (one_jump (43 ∷ 0 ∷ 0 ∷ 0 ∷ [])) (named false))
        (run_to false one_name 0 (one_jump (43 ∷ 0 ∷ 0 ∷ 0 ∷ [])) ahead (named false) n) → ⊥
    go zero h (R, z) = let q : ◌≡◌ {A = ℕ} 0 1 = apart z in omega arith
    go (suc zero) h (R, z) = let q : ◌≡◌ {A = ℕ} 2 1 = apart z in omega arith
    go (suc (suc n)) h l = omega arith

ordered : Entry true less_of_names 2
unfolding OrderPremise asks_below node_asks value_below node_value node_at node_word last_named
ordered = record {
  operators = unfailing;
  hypotheses = unfailing_hypotheses;
  parameters = λ r. true;
  registers = λ r. true;
  filled = λ r l. refl;
  order = (tt, met tt);
  own = tt;
}

-- mode 2 of x < y with JumpIfLessEqual, the values the same
pub less_as_less_equal : ConditionOf true less_of_names 2 (one_jump (47 ∷ 0 ∷ 1 ∷ 0 ∷ [])) → ⊥
unfolding ahead ordered value_at value_below node_value operate node_at node_word binary_op last_named patch_jump can_patch put_offset offset_word capacity record_at record_in fetch decode target action act step_at machine_step after
less_as_less_equal c = let r = c.runs ahead ordered in go r.0 r.1.steps r.1.left
  where
    go : (n : ℕ) → n ≤ 1 → LeftBy true less_of_names 2 (one_jump (47 ∷ 0 ∷ 1 ∷ 0 ∷ [])) ahead ordered (test_of true less_of_names 2 (one_jump (47 ∷ 0 ∷ 1 ∷ 0 ∷ [])) ordered)
        (run_to true less_of_names 2 (one_jump (47 ∷ 0 ∷ 1 ∷ 0 ∷ [])) ahead ordered n) → ⊥
    go zero h (R, z) = let q : ◌≡◌ {A = ℕ} 0 1 = apart z in omega arith
    go (suc zero) h (R, z) = let q : ◌≡◌ {A = ℕ} 2 1 = apart z in omega arith
    go (suc (suc n)) h l = omega arith

-- another place for the jump
pub other_place : (sense : Bool) (t : Tree) (root : ℕ) (x : Lowered) → x.result.instructions ≡ 2 → x.result.place ≡ 0 → ConditionOf sense t root x → ⊥
other_place sense t root x two none c = let l = c.last in omega arith
