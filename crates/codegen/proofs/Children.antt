-- A child that is tried and, if it is not flat, walked: what it takes to try it and to walk it, and what the two together give. Assumes nothing.
use Rattle.std.specs.Prelude.{Option, Some, None}
use Prim.Native.Nat.{ℕ, ◌+◌, ◌*◌, ◌≤◌, ◌<◌}
use native.Mathlib.Omega.{arith}
use mathlib.Core.Path.{◌≡◌, refl, ap}
use mathlib.Core.Bool.{Bool, true, false, cond}
use mathlib.Core.List.{List}
use Rattle.environment.specs.declared.Register.{Register}
use Rattle.syntax.specs.Ast.{node_word}
use Rattle.lowering.specs.declared.State.{State}
use Rattle.lowering.specs.Tree.{Tree, node}
use Rattle.lowering.specs.Checked.{Checked}
use Rattle.lowering.specs.Walk.{Made, made}
use Rattle.lowering.specs.Steps.{free_temp}
use Rattle.lowering.specs.Lower.{lower_materializing, lower_expression}
use Rattle.steps.specs.declared.answer.Stepped.{Stepped}
use Rattle.steps.specs.Answers.{Aimed, register_at, operand_at, settled, seen, is_inner, value_of}
use Rattle.codegen.specs.Ready.{InArena}
use Rattle.codegen.specs.Kinds.{binary_kind}
use Rattle.codegen.proofs.Walk.{child_operand, child_register, child_into}

-- ---- what it takes

-- to try a node below i
pub child_in : (nodes : List ℕ) (i n : ℕ) → InArena nodes i → n < i → InArena nodes n
child_in nodes i n inside below = omega arith

-- to walk it, by a measure that falls: that of node i or more
pub walk_in : {i t : ℕ} (n : ℕ) (dest : Option ℕ) (a : ℕ) → n < i → 8 * i ≤ t → Aimed dest → (is_inner a ≡ true → value_of a ≤ n) →
    (cond (is_inner a) (8 * value_of a + 3) 0 < t) × (is_inner a ≡ true → (value_of a ≤ n) × Aimed dest)
walk_in {i} {t} n dest a below at few same = (go (is_inner a) refl, λ h. (same h, few))
  where
    go : (b : Bool) → is_inner a ≡ b → cond b (8 * value_of a + 3) 0 < t
    go true h = omega (arith, same h)
    go false h = omega arith

-- ---- what the trial (f) and the walk (r) together give

-- what the trial left is kept, or nothing was done
kept : {k k₁ p p₁ q q₁ : List ℕ} {f r : Stepped State} → (r ≡ f) × ((k₁ ≡ k) × ((p₁ ≡ p) × (q₁ ≡ q))) → (made k₁ p₁ q₁ r.after ≡ made k p q f.after) × (r.answer ≡ f.answer)
kept same = (rw (same.0, same.1.0, same.1.1.0, same.1.1.1), ap (λ x. x.answer) same.0)

untouched : {A : Type 0} {k k₁ p p₁ q q₁ : List ℕ} {s : State} → A × ((k₁ ≡ k) × ((p₁ ≡ p) × (q₁ ≡ q))) → made k₁ p₁ q₁ s ≡ made k p q s
untouched same = rw (same.1.0, same.1.1.0, same.1.1.1)

module _ {t : Tree} (checked : Checked t) {n : ℕ} {k k₁ k₂ p p₁ p₂ q q₁ q₂ : List ℕ} {s : State} {f r : Stepped State}
    (inner : is_inner f.answer ≡ true → ((f.after ≡ s) × ((k₁ ≡ k) × ((p₁ ≡ p) × (q₁ ≡ q)))) × ((value_of f.answer ≡ n) × (binary_kind ≤ node_word t.nodes n 0)))
    (walked : is_inner f.answer ≡ true →
    settled (lower_expression free_temp t (value_of f.answer) None (made k₁ p₁ q₁ s)) ≡ seen t (operand_at (node t (value_of f.answer))) (made k₂ p₂ q₂ r.after) r.answer)
    (done : is_inner f.answer ≡ false → (r ≡ f) × ((k₂ ≡ k₁) × ((p₂ ≡ p₁) × (q₂ ≡ q₁)))) where
  -- its operand
  pub operand_of : (is_inner f.answer ≡ false → settled (lower_expression free_temp t n None (made k p q s)) ≡ seen t (operand_at (node t n)) (made k₁ p₁ q₁ f.after) f.answer) →
      settled (lower_expression free_temp t n None (made k p q s)) ≡ seen t (operand_at (node t n)) (made k₂ p₂ q₂ r.after) r.answer
  operand_of tried =
      child_operand checked n _ _ _ _ _ _ (λ h. kept (done h)) (λ h. untouched (inner h).0) tried (λ h. (inner h).1.0) walked

  -- its value in a register
  pub register_of : (is_inner f.answer ≡ false → settled (lower_materializing (lower_expression free_temp t n) None (made k p q s)) ≡ seen t register_at (made k₁ p₁ q₁ f.after) f.answer) →
      settled (lower_materializing (lower_expression free_temp t n) None (made k p q s)) ≡ seen t register_at (made k₂ p₂ q₂ r.after) r.answer
  register_of tried =
      child_register checked n _ _ _ _ _ _ (λ h. kept (done h)) (λ h. untouched (inner h).0) tried (λ h. (inner h).1.0) (λ h. (inner h).1.1) walked

-- its value in d
pub into_of : {t : Tree} (checked : Checked t) {n : ℕ} (d : Register) {k k₁ k₂ p p₁ p₂ q q₁ q₂ : List ℕ} {s : State} {f r : Stepped State} →
    (is_inner f.answer ≡ true → ((f.after ≡ s) × ((k₁ ≡ k) × ((p₁ ≡ p) × (q₁ ≡ q)))) × ((value_of f.answer ≤ n) × (binary_kind ≤ node_word t.nodes (value_of f.answer) 0))) →
    ((e : Register) (m : Made) → is_inner f.answer ≡ true → lower_materializing (lower_expression free_temp t n) (Some e) m ≡ lower_materializing (lower_expression free_temp t (value_of f.answer)) (Some e) m) →
    (is_inner f.answer ≡ true →
    settled (lower_expression free_temp t (value_of f.answer) (Some d) (made k₁ p₁ q₁ s)) ≡ seen t (operand_at (node t (value_of f.answer))) (made k₂ p₂ q₂ r.after) r.answer) →
    (is_inner f.answer ≡ false → (r ≡ f) × ((k₂ ≡ k₁) × ((p₂ ≡ p₁) × (q₂ ≡ q₁)))) →
    (is_inner f.answer ≡ false → settled (lower_materializing (lower_expression free_temp t n) (Some d) (made k p q s)) ≡ seen t register_at (made k₁ p₁ q₁ f.after) f.answer) →
    settled (lower_materializing (lower_expression free_temp t n) (Some d) (made k p q s)) ≡ seen t register_at (made k₂ p₂ q₂ r.after) r.answer
into_of checked {n} d inner same walked done tried =
    child_into checked n _ _ _ _ _ _ (λ h. kept (done h)) (λ h. untouched (inner h).0) d tried (λ h. same _ _ h) (λ h. (inner h).1.1) walked
