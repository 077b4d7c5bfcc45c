-- The laws by which a function of the walk does what its clause of the definition says: what a node's kind gives, a child that was tried and then walked, a
-- register given back, and the end of an arm. Assumes nothing.
use Rattle.std.specs.Prelude.{Option, Some, None}
use Prim.Native.Nat.{ℕ, zero, suc, ◌-◌, ◌<◌, ◌≤◌}
use native.Mathlib.Omega.{arith}
use native.Mathlib.Decide.{ℕ_discrete}
use mathlib.Core.Path.{◌≡◌, refl, sym, ◌∙◌, ap, subst, fun_ext}
use mathlib.Core.Bool.{Bool, true, false}
use mathlib.Core.List.{List}
use lib.ListN.{get_or}
use borrow.Author.Tests.{eq-eqb, ne_eqb}
use Rattle.environment.specs.declared.Register.{Register}
use Rattle.environment.specs.declared.RegisterSet.{RegisterSet}
use Rattle.environment.specs.Registers.{given_back}
use Rattle.syntax.specs.declared.ast.Node.{Node}
use Rattle.syntax.specs.Ast.{node_kinds, node_word}
use Rattle.runtime.specs.declared.operand.Operand.{Operand}
use Rattle.lowering.specs.Tree.{Tree, tree_of, node}
use Rattle.lowering.specs.Checked.{Checked, Below}
use Rattle.lowering.specs.Walk.{Made, Outcome, ends, Walk, bind, ret}
use Rattle.lowering.specs.Steps.{free_temp, load_constant, with_registers, with_code, put_offset, patch_to_next}
use Rattle.lowering.specs.Literals.{is_literal, literal}
use Rattle.lowering.specs.Lower.{source, constant, materialized, lower_materializing, lower_node, expression_below, jump_below, lower_expression, lower_jump_if_false}
use Rattle.lowering.proofs.Questions.Checked.{kind_word, checked_at, checked_below}
use Rattle.lowering.proofs.Bound.Lowering.{expression_at}
use Rattle.lowering.proofs.Destinations.{only_answer, GivesRegister, expression_into, expression_register, literal_source, literal_of, literal_loaded, free_source, node_kind}
use Rattle.steps.specs.Answers.{any, register_at, literal_word, operand_at, source_at, settled, seen, is_refusal, is_inner, value_of}
use Rattle.steps.proofs.Chains.{got, then, stop, seen_given, seen_word}
use Rattle.steps.proofs.Words.{freed_word, freed_literal}
use Rattle.codegen.specs.Kinds.{name_kind, binary_kind, block_kind}
use Rattle.codegen.specs.Flat.{Falling}

-- ---- a node by its kind

-- the node of a kind with the words of node i
abbrev pub node_of_kind : Tree → ℕ → ℕ → Node
node_of_kind t i k = get_or node_kinds k (λ a b c. Node.Nil) (node_word t.nodes i 1) (node_word t.nodes i 2) (node_word t.nodes i 3)

module _ {t : Tree} (checked : Checked t) (i k : ℕ) (kind : node_word t.nodes i 0 ≡ k) where
  pub below_of : Below t i (node_of_kind t i k)
  below_of = subst (λ n. Below t i n) (node_kind t i k kind) (checked_below checked i)

  pub expression_of : (dest : Option Register) (m : Made) {r : Outcome Operand} →
      settled (lower_node free_temp t (lower_expression free_temp t) (lower_jump_if_false free_temp t) i (node_of_kind t i k) dest m) ≡ r → settled (lower_expression free_temp t i dest m) ≡ r
  expression_of dest m q = rw (expression_at checked i dest, node_kind t i k kind) q

-- what the flat nodes ask of the arena
pub falling : (nodes list names : List ℕ) → Checked (tree_of nodes list names) → Falling nodes
falling nodes list names checked =
    record {
      left = λ i h kind. (below_of checked i binary_kind kind).0;
      right = λ i h kind. (below_of checked i binary_kind kind).1;
      tail = λ i h kind. below_of checked i block_kind kind;
    }

-- a kind below the name's is a literal, and any other is none
literal_kind : (k a b c : ℕ) → k < name_kind → is_literal (get_or node_kinds k (λ x y z. Node.Nil) a b c) ≡ true
unfolding is_literal
literal_kind zero a b c h = refl
literal_kind (suc (zero)) a b c h = refl
literal_kind (suc (suc (zero))) a b c h = refl
literal_kind (suc (suc (suc (zero)))) a b c h = refl
literal_kind (suc (suc (suc (suc (k))))) a b c h = absurd (omega (arith, h))

later_kind : (k a b c : ℕ) → name_kind ≤ k → k ≤ 14 → is_literal (get_or node_kinds k (λ x y z. Node.Nil) a b c) ≡ false
unfolding is_literal
later_kind zero a b c h l = absurd (omega (arith, h))
later_kind (suc (zero)) a b c h l = absurd (omega (arith, h))
later_kind (suc (suc (zero))) a b c h l = absurd (omega (arith, h))
later_kind (suc (suc (suc (zero)))) a b c h l = absurd (omega (arith, h))
later_kind (suc (suc (suc (suc (zero))))) a b c h l = refl
later_kind (suc (suc (suc (suc (suc (zero)))))) a b c h l = refl
later_kind (suc (suc (suc (suc (suc (suc (zero))))))) a b c h l = refl
later_kind (suc (suc (suc (suc (suc (suc (suc (zero)))))))) a b c h l = refl
later_kind (suc (suc (suc (suc (suc (suc (suc (suc (zero))))))))) a b c h l = refl
later_kind (suc (suc (suc (suc (suc (suc (suc (suc (suc (zero)))))))))) a b c h l = refl
later_kind (suc (suc (suc (suc (suc (suc (suc (suc (suc (suc (zero))))))))))) a b c h l = refl
later_kind (suc (suc (suc (suc (suc (suc (suc (suc (suc (suc (suc (zero)))))))))))) a b c h l = refl
later_kind (suc (suc (suc (suc (suc (suc (suc (suc (suc (suc (suc (suc (zero))))))))))))) a b c h l = refl
later_kind (suc (suc (suc (suc (suc (suc (suc (suc (suc (suc (suc (suc (suc (zero)))))))))))))) a b c h l = refl
later_kind (suc (suc (suc (suc (suc (suc (suc (suc (suc (suc (suc (suc (suc (suc (zero))))))))))))))) a b c h l = refl
later_kind (suc (suc (suc (suc (suc (suc (suc (suc (suc (suc (suc (suc (suc (suc (suc (k)))))))))))))))) a b c h l = absurd (omega (arith, l))

pub is_literal_lem : (t : Tree) (i : ℕ) → node_word t.nodes i 0 < name_kind → is_literal (node t i) ≡ true
is_literal_lem t i h = rw (node_kind t i (node_word t.nodes i 0) refl) (literal_kind (node_word t.nodes i 0) _ _ _ h)

pub no_literal : {t : Tree} → Checked t → (i : ℕ) → name_kind ≤ node_word t.nodes i 0 → is_literal (node t i) ≡ false
no_literal {t} checked i h = rw (node_kind t i (node_word t.nodes i 0) refl) (later_kind (node_word t.nodes i 0) _ _ _ h (kind_word (checked_at checked i)))

-- a literal is its operand, and its value in a register is loaded
module _ (t : Tree) (i : ℕ) (l : is_literal (node t i) ≡ true) (dest : Option Register) where
  pub literal_expression : lower_expression free_temp t i dest ≡ ret (literal (node t i))
  unfolding lower_expression expression_below
  literal_expression = literal_of t (λ n e. expression_below free_temp t i n e) (λ n. jump_below free_temp t i n) i (node t i) l dest

  pub literal_materialized : lower_materializing (lower_expression free_temp t i) dest ≡ load_constant (literal (node t i)) dest
  unfolding lower_expression expression_below
  literal_materialized = fun_ext (λ m. literal_loaded t (λ n e. expression_below free_temp t i n e) (λ n. jump_below free_temp t i n) i (node t i) l dest m)

-- ---- a child

-- a constant is in no register
pub no_register : (x c : Operand) (m : Made) → source x ≡ constant c → GivesRegister (ends x m) → ⊥
unfolding source GivesRegister
no_register (Operand.Register r) c m e g = let z : ◌≡◌ {A = ℕ} 0 1 = cc in omega arith
no_register (Operand.Number x) c m e g = g
no_register (Operand.String symbol) c m e g = g
no_register (Operand.Boolean b) c m e g = g
no_register Operand.Nil c m e g = g

-- an operand in a register, by what is seen of its word
gives_register : (n : Node) (dest : Option Register) (w : ℕ) (m : Made) → GivesRegister (ends (operand_at n w) m) → settled (materialized (source (operand_at n w)) dest m) ≡ ends (register_at w) m
unfolding operand_at source materialized settled
gives_register n dest w m g = go (ℕ_discrete w literal_word)
  where
    go : Dec (w ≡ literal_word) → settled (materialized (source (operand_at n w)) dest m) ≡ ends (register_at w) m
    go (yes h) = absurd (no_register (literal n) (literal n) m (literal_source n) (rw (eq-eqb w literal_word h) at g))
    go (no h) = rw (ne_eqb w literal_word h)

pub in_register : (t : Tree) (n : Node) (dest : Option Register) (o : Outcome Operand) (m : Made) (a : ℕ) → GivesRegister o →
    settled o ≡ seen t (operand_at n) m a → settled (bind o (λ src. materialized (source src) dest)) ≡ seen t register_at m a
in_register t n dest o m a g e = go (is_refusal a) refl
  where
    go : (b : Bool) → is_refusal a ≡ b → settled (bind o (λ src. materialized (source src) dest)) ≡ seen t register_at m a
    go true h = stop t o (operand_at n) m a _ e register_at h
    go false h =
        let is : o ≡ ends (operand_at n (value_of a)) m = got o (operand_at n (value_of a)) m (e ∙ seen_given t (operand_at n) m a h) in
        then t o (operand_at n) m a _ e h (gives_register n dest (value_of a) m (subst GivesRegister is g) ∙ sym (seen_given t register_at m a h))

-- ---- a child that was tried and, if it was not flat, walked

-- from m the trial left m₁ and its answer a; the walk began at m₀, which is m if it began; now there is m₂ and the answer b
module _ {t : Tree} (checked : Checked t) (n : ℕ) (m m₀ m₁ m₂ : Made) (a b : ℕ) (done : is_inner a ≡ false → (m₂ ≡ m₁) × (b ≡ a)) (back : is_inner a ≡ true → m₀ ≡ m) where
  -- it was flat
  flat : {A : Type 0} (gives : ℕ → A) (o : Outcome A) → is_inner a ≡ false → settled o ≡ seen t gives m₁ a → settled o ≡ seen t gives m₂ b
  flat gives o h e = let same = done h in e ∙ rw (same.0, same.1)

  by_trial : {C : Type 0} → (is_inner a ≡ false → C) → (is_inner a ≡ true → C) → C
  by_trial {C = C} x y = go (is_inner a) refl
    where
      go : (c : Bool) → is_inner a ≡ c → C
      go false h = x h
      go true h = y h

  -- its operand
  pub child_operand : (is_inner a ≡ false → settled (lower_expression free_temp t n None m) ≡ seen t (operand_at (node t n)) m₁ a) → (is_inner a ≡ true → value_of a ≡ n) →
      (is_inner a ≡ true → settled (lower_expression free_temp t (value_of a) None m₀) ≡ seen t (operand_at (node t (value_of a))) m₂ b) →
      settled (lower_expression free_temp t n None m) ≡ seen t (operand_at (node t n)) m₂ b
  child_operand tried same walked =
      by_trial (λ h. flat (operand_at (node t n)) _ h (tried h)) (λ h. rw (same h, back h) at (walked h))

  -- its value in a register
  pub child_register : (is_inner a ≡ false → settled (lower_materializing (lower_expression free_temp t n) None m) ≡ seen t register_at m₁ a) → (is_inner a ≡ true → value_of a ≡ n) →
      (is_inner a ≡ true → binary_kind ≤ node_word t.nodes n 0) →
      (is_inner a ≡ true → settled (lower_expression free_temp t (value_of a) None m₀) ≡ seen t (operand_at (node t (value_of a))) m₂ b) →
      settled (lower_materializing (lower_expression free_temp t n) None m) ≡ seen t register_at m₂ b
  unfolding lower_materializing
  child_register tried same kind walked =
      by_trial
      (λ h. flat register_at _ h (tried h))
      (λ h.
      in_register t (node t n) None (lower_expression free_temp t n None m) m₂ b (expression_register t n (no_literal checked n (omega (arith, kind h))) None m)
      (rw (same h, back h) at (walked h)))

  -- its value in d
  pub child_into : (d : Register) → (is_inner a ≡ false → settled (lower_materializing (lower_expression free_temp t n) (Some d) m) ≡ seen t register_at m₁ a) →
      (is_inner a ≡ true → lower_materializing (lower_expression free_temp t n) (Some d) m ≡ lower_materializing (lower_expression free_temp t (value_of a)) (Some d) m) →
      (is_inner a ≡ true → binary_kind ≤ node_word t.nodes (value_of a) 0) →
      (is_inner a ≡ true → settled (lower_expression free_temp t (value_of a) (Some d) m₀) ≡ seen t (operand_at (node t (value_of a))) m₂ b) →
      settled (lower_materializing (lower_expression free_temp t n) (Some d) m) ≡ seen t register_at m₂ b
  unfolding lower_materializing
  child_into d tried same kind walked = by_trial (λ h. flat register_at _ h (tried h)) (λ h. ap settled (same h) ∙ into h)
    where
      into : is_inner a ≡ true → settled (lower_materializing (lower_expression free_temp t (value_of a)) (Some d) m) ≡ seen t register_at m₂ b
      into h =
          let l = no_literal checked (value_of a) (omega (arith, kind h)) in
          in_register t (node t (value_of a)) (Some d) (lower_expression free_temp t (value_of a) (Some d) m) m₂ b
          (expression_register t (value_of a) l (Some d) m) (rw (back h) at (walked h))

-- ---- what follows a child, and the end of an arm

module _ (t : Tree) {B : Type 0} (m : Made) (k : Register → Walk B) where
  -- a value in d: the rest takes d for the answer
  pub then_into : (n : ℕ) (d : Register) (m₂ : Made) (b : ℕ) {r : Outcome B} → settled (lower_materializing (lower_expression free_temp t n) (Some d) m) ≡ seen t register_at m₂ b →
      is_refusal b ≡ false → settled (k d m₂) ≡ r → settled (bind (lower_materializing (lower_expression free_temp t n) (Some d) m) k) ≡ r
  then_into n d m₂ b e h q =
      ap settled (only_answer d _ k (expression_into t n d m)) ∙ then t _ register_at m₂ b (λ y. k d) e h q

-- a register given back, and what a source held, by what `give_back` answers
pub then_freed : {B : Type 0} (m : Made) (w : ℕ) {registers : RegisterSet} (k : Unit {0} → Walk B) {r : Outcome B} → registers ≡ given_back m.state.registers w →
    settled (k tt (with_registers registers m)) ≡ r → settled (bind (free_temp (register_at w) m) k) ≡ r
unfolding free_temp bind
then_freed m w k same q = rw (freed_word m.state.registers w) (rw same at q)

pub then_freed_source : {B : Type 0} (m : Made) (c : Operand) (w : ℕ) {registers : RegisterSet} (k : Unit {0} → Walk B) {r : Outcome B} → registers ≡ given_back m.state.registers w →
    settled (k tt (with_registers registers m)) ≡ r → settled (bind (free_source (source_at c w) m) k) ≡ r
unfolding free_source source_at bind
then_freed_source m c w k {r} same q = go (ℕ_discrete w literal_word)
  where
    go : Dec (w ≡ literal_word) → settled (bind (free_source (source_at c w) m) k) ≡ r
    go (yes h) = rw (eq-eqb w literal_word h) (rw (same, h, freed_literal m.state.registers) at q)
    go (no h) = rw (ne_eqb w literal_word h) (then_freed m w k same q)

-- a jump patched to the next instruction
pub then_patched : {B : Type 0} (m : Made) (j : ℕ) (code : List ℕ) (k : Unit {0} → Walk B) {r : Outcome B} → code ≡ put_offset m.code j (m.state.counts.instructions - j) →
    settled (k tt (with_code code m.state.counts.instructions m)) ≡ r → settled (bind (patch_to_next j m) k) ≡ r
unfolding patch_to_next bind
then_patched m j code k same q = rw (← same) q

-- the answer d
pub ended : (t : Tree) (n : Node) (m : Made) (d : ℕ) → d < any → ends (Operand.Register (register_at d)) m ≡ seen t (operand_at n) m d
unfolding operand_at
ended t n m d few = sym (seen_word t (operand_at n) m d (omega (arith, few)) ∙ rw (ne_eqb d literal_word (omega (arith, few))))
