-- What a literal and a condition come to in the definition, and the kinds that a test leaves. Assumes nothing.
use Rattle.std.specs.Prelude.{Option, Some, None}
use Prim.Native.Nat.{ℕ, zero, suc, ◌+◌, ◌≤◌, ◌<◌}
use native.Mathlib.Omega.{arith}
use native.Mathlib.Decide.{ℕ_discrete}
use mathlib.Core.Path.{◌≡◌, refl, sym}
use mathlib.Core.Logic.{◌⊎◌, inl, inr}
use mathlib.Core.Bool.{Bool, true, false, ◌&&◌, false≢true}
use mathlib.Core.List.{List}
use lib.Dec.{leb, eqb}
use lib.ListN.{get_or}
use borrow.Author.Tests.{leb-true, leb-false, le-leb}
use Rattle.words.specs.Words.{words}
use Rattle.environment.specs.declared.Register.{Register}
use Rattle.syntax.specs.declared.ast.Node.{Node}
use Rattle.syntax.specs.declared.ops.Comparison.{Comparison}
use Rattle.syntax.specs.Ops.{binary_op}
use Rattle.syntax.specs.Ast.{node_kinds, node_word, node_at}
use Rattle.runtime.specs.declared.operand.Operand.{Operand}
use Rattle.lowering.specs.Tree.{Tree, node}
use Rattle.lowering.specs.Checked.{Checked}
use Rattle.lowering.specs.Walk.{Made, made, Outcome, Walk, bind}
use Rattle.lowering.specs.Steps.{free_temp, load_constant}
use Rattle.lowering.specs.Operators.{comparison}
use Rattle.lowering.specs.Literals.{literal}
use Rattle.lowering.specs.Lower.{source, lower_materializing, test, fuse, fused_sources, jump_node, lower_expression}
use Rattle.lowering.proofs.Destinations.{expression_register, node_kind}
use Rattle.operators.proofs.Compares.{compares_some, compares_none}
use Rattle.lowering.specs.declared.State.{State}
use Rattle.steps.specs.declared.answer.Stepped.{Stepped}
use Rattle.steps.specs.Answers.{register_at, literal_word, operand_at, source_at, settled, seen}
use Rattle.steps.proofs.Chains.{seen_word}
use Rattle.steps.proofs.Words.{source_operand}
use Rattle.codegen.specs.Kinds.{name_kind, binary_kind, and_kind, if_kind, is_compared}
use Rattle.codegen.proofs.Walk.{below_of, is_literal_lem, no_literal, literal_expression, literal_materialized, in_register}

-- ---- kinds by their numbers

both : (a b : Bool) → (a && b) ≡ true → (a ≡ true) × (b ≡ true)
both true b h = (refl, h)
both false b h = absurd (false≢true h)

module _ (k : ℕ) where
  -- and, or, if
  pub between : (leb and_kind k && leb k if_kind) ≡ true → (and_kind ≤ k) × (k ≤ if_kind)
  between h = let s = both (leb and_kind k) (leb k if_kind) h in (leb-true and_kind k s.0, leb-true k if_kind s.1)

  -- the kinds after these
  pub past : (leb and_kind k && leb k if_kind) ≡ false → and_kind ≤ k → if_kind < k
  past h l = leb-false k if_kind (rw (le-leb and_kind k l) at h)

  pub one_of_two : (a : ℕ) → a ≤ k → k ≤ a + 1 → (k ≡ a) ⊎ (k ≡ a + 1)
  one_of_two a l u = go (ℕ_discrete k a)
    where
      go : Dec (k ≡ a) → (k ≡ a) ⊎ (k ≡ a + 1)
      go (yes h) = inl h
      go (no h) = inr (omega arith)

-- ---- literals

module _ {t : Tree} (checked : Checked t) (i : ℕ) where
  -- a literal is LITERAL, and nothing is made
  pub literal_left : node_word t.nodes i 0 < name_kind → (dest : Option Register) (m : Made) → settled (lower_expression free_temp t i dest m) ≡ seen t (operand_at (node t i)) m literal_word
  unfolding settled operand_at
  literal_left h dest m =
      rw (literal_expression t i (is_literal_lem t i h) dest)
      (sym (seen_word t (operand_at (node t i)) m literal_word (omega arith)))

  -- its value in a register is loaded
  pub literal_value : node_word t.nodes i 0 < name_kind → (dest : Option Register) (m : Made) {r : Outcome Register} → settled (load_constant (literal (node t i)) dest m) ≡ r →
      settled (lower_materializing (lower_expression free_temp t i) dest m) ≡ r
  literal_value h dest m q = rw (literal_materialized t i (is_literal_lem t i h) dest) q

  -- that of any other node is in the register that it answers
  pub answered_value : name_kind ≤ node_word t.nodes i 0 → (dest : Option Register) (m m₁ : Made) (a : ℕ) →
      settled (lower_expression free_temp t i dest m) ≡ seen t (operand_at (node t i)) m₁ a → settled (lower_materializing (lower_expression free_temp t i) dest m) ≡ seen t register_at m₁ a
  unfolding lower_materializing
  answered_value h dest m m₁ a e =
      in_register t (node t i) dest (lower_expression free_temp t i dest m) m₁ a (expression_register t i (no_literal checked i h) dest m) e

-- what was made and answered where two ways meet, by the way that was gone
pub at_meeting : {A : Type 0} (t : Tree) (gives : ℕ → A) {code code₁ pool pool₁ marks marks₁ : List ℕ} {r r₁ : Stepped State} {o : Outcome A} →
    code ≡ code₁ → pool ≡ pool₁ → marks ≡ marks₁ → r ≡ r₁ → o ≡ seen t gives (made (words code₁) (words pool₁) (words marks₁) r₁.after) r₁.answer →
    o ≡ seen t gives (made (words code) (words pool) (words marks) r.after) r.answer
at_meeting t gives e f g h q = rw (e, f, g, h) q

-- ---- conditions

module _ (t : Tree) (E : ℕ → Option Register → Walk Operand) (sense : Bool) (own : Option Register → Walk Operand) where
  -- what is no comparison is tested
  pub not_compared : (n : Node) → is_compared n ≡ false → jump_node t E sense own n ≡ test t E sense own
  unfolding is_compared jump_node fuse
  not_compared (Node.Number low high) h = refl
  not_compared (Node.String symbol) h = refl
  not_compared (Node.Boolean b) h = refl
  not_compared Node.Nil h = refl
  not_compared (Node.Identifier symbol) h = refl
  not_compared (Node.Binary operator left right) h = rw (compares_none operator h)
  not_compared (Node.Unary operator operand) h = refl
  not_compared (Node.LogicalNot operand) h = refl
  not_compared (Node.LogicalAnd left right) h = refl
  not_compared (Node.LogicalOr left right) h = refl
  not_compared (Node.If condition then_branch else_branch) h = refl
  not_compared (Node.Block tail) h = refl
  not_compared (Node.FunctionCall callee first count) h = refl
  not_compared (Node.PropertyAccess object property) h = refl
  not_compared (Node.Map first count) h = refl

-- only an operator compares
compares_kind : (k a b c : ℕ) → is_compared (get_or node_kinds k (λ x y z. Node.Nil) a b c) ≡ true → k ≡ binary_kind
unfolding is_compared
compares_kind zero a b c h = absurd (false≢true h)
compares_kind (suc (zero)) a b c h = absurd (false≢true h)
compares_kind (suc (suc (zero))) a b c h = absurd (false≢true h)
compares_kind (suc (suc (suc (zero)))) a b c h = absurd (false≢true h)
compares_kind (suc (suc (suc (suc (zero))))) a b c h = absurd (false≢true h)
compares_kind (suc (suc (suc (suc (suc (zero)))))) a b c h = refl
compares_kind (suc (suc (suc (suc (suc (suc (zero))))))) a b c h = absurd (false≢true h)
compares_kind (suc (suc (suc (suc (suc (suc (suc (zero)))))))) a b c h = absurd (false≢true h)
compares_kind (suc (suc (suc (suc (suc (suc (suc (suc (zero))))))))) a b c h = absurd (false≢true h)
compares_kind (suc (suc (suc (suc (suc (suc (suc (suc (suc (zero)))))))))) a b c h = absurd (false≢true h)
compares_kind (suc (suc (suc (suc (suc (suc (suc (suc (suc (suc (zero))))))))))) a b c h = absurd (false≢true h)
compares_kind (suc (suc (suc (suc (suc (suc (suc (suc (suc (suc (suc (zero)))))))))))) a b c h = absurd (false≢true h)
compares_kind (suc (suc (suc (suc (suc (suc (suc (suc (suc (suc (suc (suc (zero))))))))))))) a b c h = absurd (false≢true h)
compares_kind (suc (suc (suc (suc (suc (suc (suc (suc (suc (suc (suc (suc (suc (zero)))))))))))))) a b c h = absurd (false≢true h)
compares_kind (suc (suc (suc (suc (suc (suc (suc (suc (suc (suc (suc (suc (suc (suc (zero))))))))))))))) a b c h = absurd (false≢true h)
compares_kind (suc (suc (suc (suc (suc (suc (suc (suc (suc (suc (suc (suc (suc (suc (suc (k)))))))))))))))) a b c h = absurd (false≢true h)

pub compared_kind : (nodes : List ℕ) (i : ℕ) → is_compared (node_at nodes i) ≡ true → node_word nodes i 0 ≡ binary_kind
unfolding node_at
compared_kind nodes i is = compares_kind (node_word nodes i 0) _ _ _ is

module _ (t : Tree) (i : ℕ) (is : is_compared (node t i) ≡ true) where
  -- its sides, by the words that name them
  module _ {left right : ℕ} (first : left ≡ node_word t.nodes i 2) (second : right ≡ node_word t.nodes i 3) where
    pub compared_below : Checked t → (left < i) × (right < i)
    compared_below checked = rw (first, second) (below_of checked i binary_kind (compared_kind t.nodes i is))

    module _ (E : ℕ → Option Register → Walk Operand) (sense : Bool) (own : Option Register → Walk Operand) (m : Made) {r : Outcome ℕ} where
      -- it is left, right, and the jump of both
      pub compared_jump : ((c : Comparison) → comparison (binary_op (node_word t.nodes i 1)) ≡ Some c →
          settled (bind (E left None m) (λ a m₁. bind (E right None m₁) (λ b. fused_sources t E sense own c (source a) (source b)))) ≡ r) →
          settled (jump_node t E sense own (node t i) m) ≡ r
      unfolding is_compared jump_node fuse
      compared_jump q =
          let e = node_kind t i binary_kind (compared_kind t.nodes i is) in
          let some_c = compares_some (binary_op (node_word t.nodes i 1)) (rw e at is) in
          rw (e, some_c.1) (rw (first, second) at (q some_c.0 some_c.1))

      module _ (c : Comparison) (a b : ℕ) where
        -- two literals are tested like anything else
        pub two_literals : (eqb a literal_word && eqb b literal_word) ≡ true → settled (test t E sense own m) ≡ r →
            settled (fused_sources t E sense own c (source (operand_at (node t left) a)) (source (operand_at (node t right) b)) m) ≡ r
        unfolding fused_sources source_at
        two_literals h q =
            let s = both (eqb a literal_word) (eqb b literal_word) h in
            rw (source_operand (node t left) a, source_operand (node t right) b, s.0, s.1) q

        -- any other two have their jump
        pub two_sources :
            settled (fused_sources t E sense own c (source_at (literal (node t (node_word t.nodes i 2))) a) (source_at (literal (node t (node_word t.nodes i 3))) b) m) ≡ r →
            settled (fused_sources t E sense own c (source (operand_at (node t left) a)) (source (operand_at (node t right) b)) m) ≡ r
        two_sources q = rw (source_operand (node t left) a, source_operand (node t right) b, first, second) q
