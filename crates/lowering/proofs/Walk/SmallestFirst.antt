-- Every register that the walk takes is the smallest free one, in every kind of node and for every literal that is loaded. Assumes nothing.
use Rattle.std.specs.Prelude.{Option, None, Result, Ok, Err}
use Rattle.diagnostics.specs.declared.Refusal.{Refusal}
use Prim.Native.Nat.{ℕ}
use native.Mathlib.Omega.{arith}
use mathlib.Core.Path.{◌≡◌, refl, sym, ap, ◌∙◌, subst}
use lib.ListN.{length}
use Rattle.environment.specs.declared.Register.{Register}
use Rattle.environment.specs.Environment.{allocated, lookup}
use Rattle.environment.proofs.Laws.{Allocates, allocates, lookup_found}
use Rattle.syntax.specs.declared.ast.Node.{Node}
use Rattle.syntax.specs.declared.ops.BinaryOp.{BinaryOp}
use Rattle.runtime.specs.declared.instruction.Instruction.{Instruction}
use Rattle.runtime.specs.declared.operand.Operand.{Operand}
use Rattle.runtime.specs.Operands.{reg_of}
use Rattle.lowering.specs.Tree.{Tree, node}
use Rattle.lowering.specs.Walk.{Made, Outcome, ends, stops, Walk, bind, ◌>>=◌, ◌>>◌, ret}
use Rattle.lowering.specs.Steps.{registered, with_registers, allocate_temp, destination, free_temp, emit, store, load_constant}
use Rattle.lowering.specs.Lower.{Source, register, constant, source, materialized, lower_materializing, moved, lower_name, binary_sources, lower_arguments, lower_node, lower_expression, lower_jump_if_false}
use Rattle.lowering.specs.Smallest.{SmallestFree, before_register, SmallestFirst}
use Rattle.lowering.specs.Checked.{Checked}
use Rattle.lowering.proofs.Bound.Lowering.{expression_at}
use Rattle.lowering.proofs.Walk.WhatIsMet.{stop_end}

-- ---- outcomes

-- two walks that end one after the other
record Split {A B : Type 0} (o : Outcome A) (k : A → Walk B) (b : B) (n : Made) : Type 0 where
  pub answer : A
  pub made : Made
  pub first : o ≡ ends answer made
  pub rest : k answer made ≡ ends b n

split : {A B : Type 0} (o : Outcome A) (k : A → Walk B) {b : B} {n : Made} → bind o k ≡ ends b n → Split o k b n
unfolding bind
split (ends a m) k e = record { answer = a; made = m; first = refl; rest = e }
split (stops f m) k e = absurd (stop_end e)

-- a walk whose answer is x wherever it ends
record Answers {A : Type 0} (x : A) (w : Walk A) : Type 0 where
  pub is : (m n : Made) (a : A) → w m ≡ ends a n → a ≡ x

answers_ret : {A : Type 0} (x : A) → Answers x (ret x)
answers_ret x = record { is = λ m n a e. cc }

answers_bind : {A B : Type 0} {x : B} (w : Walk A) {k : A → Walk B} → ((a : A) → Answers x (k a)) → Answers x (w >>= k)
answers_bind w {k} h = record { is = λ m n b e. let s = split (w m) k e in (h s.answer).is s.made n b s.rest }

-- ---- a register taken where none is asked for

temp_same : {a b : ℕ} → Register.Temp a ≡ Register.Temp b → a ≡ b
temp_same e = cc

local_temp : {a b : ℕ} → Register.Local a ≡ Register.Temp b → ⊥
local_temp e = let z : ◌≡◌ {A = ℕ} 0 1 = cc in omega arith

answer_of : {A : Type 0} {a b : A} {m n : Made} → ◌≡◌ {A = Outcome A} (ends a m) (ends b n) → a ≡ b
answer_of e = cc

take_smallest : (m n : Made) (r : ℕ) → destination None m ≡ ends (Register.Temp r) n → SmallestFree m.state.registers r
unfolding destination allocate_temp registered
take_smallest m n r e = go (allocated Register.Temp m.state.registers).register refl e
  where
    go : (f : Result Register Refusal) → (allocated Register.Temp m.state.registers).register ≡ f →
        registered f (with_registers (allocated Register.Temp m.state.registers).set m) ≡ ends (Register.Temp r) n → SmallestFree m.state.registers r
    go (Ok x) q z =
        let k : Allocates Register.Temp m.state.registers x (allocated Register.Temp m.state.registers).set = allocates Register.Temp m.state.registers x q in
        let answer : x ≡ Register.Temp r = cc in
        let same : k.number ≡ r = temp_same (sym k.of_kind ∙ answer) in
        subst (λ y. SmallestFree m.state.registers y) same
        (record { in_range = k.takes.in_range; is_free = k.takes.was_free; smaller_held = k.takes.smaller_held })
    go (Err refusal) q z = absurd (stop_end z)

-- the register that is answered is the one taken first
taken_first : {rest : Register → Walk Operand} (m n : Made) (r : ℕ) →
    bind (bind (destination None m) rest) (λ src. materialized (source src) None) ≡ ends (Register.Temp r) n → ((d : Register) → Answers (Operand.Register d) (rest d)) →
    SmallestFree m.state.registers r
unfolding source materialized
taken_first {rest} m n r e h =
    let a = split (bind (destination None m) rest) (λ src. materialized (source src) None) e in
    let b = split (destination None m) rest a.first in
    let given : a.answer ≡ Operand.Register b.answer = (h b.answer).is b.made a.made a.answer b.rest in
    let shown : ◌≡◌ {A = Outcome Register} (ends b.answer a.made) (ends (Register.Temp r) n) =
    subst (λ x. materialized (source x) None a.made ≡ ends (Register.Temp r) n) given a.rest in
    let same : b.answer ≡ Register.Temp r = cc in
    take_smallest m b.made r (subst (λ x. destination None m ≡ ends x b.made) same b.first)

-- or taken after what is done before it
taken_after : {B : Type 0} (pre : Walk B) {rest : B → Register → Walk Operand} (m n : Made) (r : ℕ) →
    bind (bind (pre m) (λ x. destination None >>= rest x)) (λ src. materialized (source src) None) ≡ ends (Register.Temp r) n →
    ((x : B) (d : Register) → Answers (Operand.Register d) (rest x d)) →
    (p : Made) × (◌≡◌ {A = Outcome (Unit {0})} (bind (pre m) (λ x. ret tt)) (ends tt p)) × SmallestFree p.state.registers r
unfolding bind
taken_after {B} pre {rest} m n r e h =
    let a = split (bind (pre m) (λ x. destination None >>= rest x)) (λ src. materialized (source src) None) e in
    let b = split (pre m) (λ x. destination None >>= rest x) a.first in
    let whole : bind (bind (destination None b.made) (rest b.answer)) (λ src. materialized (source src) None) ≡ ends (Register.Temp r) n =
    subst (λ o. bind o (λ src. materialized (source src) None) ≡ ends (Register.Temp r) n) (sym b.rest) a.rest in
    (b.made, ap (λ o. bind o (λ x. ret tt)) b.first, taken_first b.made n r whole (h b.answer))

-- a literal that is loaded
loads : (c : Operand) → Register → Walk Register
loads c d = do
  k ← store c
  emit (Instruction.LoadConst (reg_of d) k)
  ret d

loads_answer : (c : Operand) (d : Register) → Answers d (loads c d)
unfolding loads
loads_answer c d = answers_bind _ (λ k. answers_bind _ (λ p. answers_ret d))

loaded_first : (c : Operand) (m n : Made) (r : ℕ) → load_constant c None m ≡ ends (Register.Temp r) n → SmallestFree m.state.registers r
unfolding load_constant loads
loaded_first c m n r e =
    let a = split (destination None m) (loads c) e in
    let same : Register.Temp r ≡ a.answer = (loads_answer c a.answer).is a.made n (Register.Temp r) a.rest in
    take_smallest m a.made r (a.first ∙ ap (λ x. ends x a.made) (sym same))

literal_first : (c : Operand) → source c ≡ constant c → (m n : Made) (r : ℕ) →
    bind (ends c m) (λ src. materialized (source src) None) ≡ ends (Register.Temp r) n → SmallestFree m.state.registers r
unfolding bind materialized
literal_first c s m n r e = loaded_first c m n r (subst (λ x. materialized x None m ≡ ends (Register.Temp r) n) s e)

-- a name answers its own register, a local
name_local : (t : Tree) (i symbol : ℕ) (m n : Made) (r : ℕ) →
    bind (lower_name t i (lookup t.names (length t.names) symbol) None m) (λ src. materialized (source src) None) ≡ ends (Register.Temp r) n → ⊥
unfolding lower_name moved bind source materialized
name_local t i symbol m n r e = go (lookup t.names (length t.names) symbol) refl e
  where
    go : (f : Result Register Refusal) → lookup t.names (length t.names) symbol ≡ f →
        bind (lower_name t i f None m) (λ src. materialized (source src) None) ≡ ends (Register.Temp r) n → ⊥
    go (Ok x) q z = local_temp (sym (lookup_found t.names (length t.names) symbol x q).local ∙ answer_of z)
    go (Err refusal) q z = stop_end z

sources_answer : (t : Tree) (E : ℕ → Option Register → Walk Operand) (operator : BinaryOp) (left right : ℕ) (d : Register) (a b : Source) →
    Answers (Operand.Register d) (binary_sources free_temp t E operator left right d a b)
unfolding binary_sources
sources_answer t E operator left right d (constant a) (constant b) =
    answers_bind _ (λ x. answers_bind _ (λ y. answers_bind _ (λ z. answers_bind _ (λ u. answers_bind _ (λ v. answers_ret _)))))
sources_answer t E operator left right d (register a) (constant b) = answers_bind _ (λ x. answers_bind _ (λ y. answers_bind _ (λ z. answers_ret _)))
sources_answer t E operator left right d (constant a) (register b) = answers_bind _ (λ x. answers_bind _ (λ y. answers_bind _ (λ z. answers_ret _)))
sources_answer t E operator left right d (register a) (register b) = answers_bind _ (λ x. answers_bind _ (λ y. answers_bind _ (λ z. answers_ret _)))

module _ (t : Tree) (E : ℕ → Option Register → Walk Operand) (J : ℕ → Walk ℕ) where
  -- what is asked for of a node of each kind
  abbrev Due : ℕ → Node → ℕ → Made → Type 0
  Due i n r m = (p : Made) × (before_register t E J i n m ≡ ends tt p) × SmallestFree p.state.registers r

  node_first : (i : ℕ) (n : Node) (r : ℕ) (m o : Made) → lower_materializing (lower_node free_temp t E J i n) None m ≡ ends (Register.Temp r) o → Due i n r m
  unfolding lower_materializing lower_node before_register source
  node_first i (Node.Number low high) r m o e = (m, refl, literal_first _ refl m o r e)
  node_first i (Node.String symbol) r m o e = (m, refl, literal_first _ refl m o r e)
  node_first i (Node.Boolean b) r m o e = (m, refl, literal_first _ refl m o r e)
  node_first i Node.Nil r m o e = (m, refl, literal_first _ refl m o r e)
  node_first i (Node.Identifier symbol) r m o e = absurd (name_local t i symbol m o r e)
  node_first i (Node.Binary operator left right) r m o e =
      (m, refl, taken_first m o r e (λ d. answers_bind _ (λ a. answers_bind _ (λ b. sources_answer t E operator left right d (source a) (source b)))))
  node_first i (Node.Unary operator operand) r m o e =
      (m, refl, taken_first m o r e (λ d. answers_bind _ (λ a. answers_bind _ (λ b. answers_bind _ (λ c. answers_ret _)))))
  node_first i (Node.LogicalNot operand) r m o e =
      (m, refl, taken_first m o r e (λ d. answers_bind _ (λ a. answers_bind _ (λ b. answers_bind _ (λ c. answers_ret _)))))
  node_first i (Node.LogicalAnd left right) r m o e =
      (m, refl, taken_first m o r e (λ d. answers_bind _ (λ a. answers_bind _ (λ b. answers_bind _ (λ c. answers_bind _ (λ u. answers_ret _))))))
  node_first i (Node.LogicalOr left right) r m o e =
      (m, refl, taken_first m o r e (λ d. answers_bind _ (λ a. answers_bind _ (λ b. answers_bind _ (λ c. answers_bind _ (λ u. answers_ret _))))))
  node_first i (Node.If condition then_branch else_branch) r m o e =
      taken_after (J condition) m o r e
      (λ jump d. answers_bind _ (λ a. answers_bind _ (λ b. answers_bind _ (λ c. answers_bind _ (λ u. answers_bind _ (λ v. answers_ret _))))))
  node_first i (Node.Block tail) r m o e = (m, refl, taken_first m o r e (λ d. answers_bind _ (λ a. answers_ret _)))
  node_first i (Node.FunctionCall callee first count) r m o e =
      taken_after (lower_arguments t E i first count 0) m o r e (λ x d. answers_bind _ (λ a. answers_bind _ (λ b. answers_bind _ (λ c. answers_ret _))))
  node_first i (Node.PropertyAccess object property) r m o e =
      (m, refl, taken_first m o r e (λ d. answers_bind _ (λ a. answers_bind _ (λ b. answers_bind _ (λ c. answers_bind _ (λ u. answers_ret _))))))
  node_first i (Node.Map first count) r m o e = (m, refl, taken_first m o r e (λ d. answers_bind _ (λ a. answers_bind _ (λ b. answers_ret _))))

-- Smallest first: of a checked tree, every register that its lowering takes.
pub smallest_first : (t : Tree) → Checked t → SmallestFirst t (lower_expression free_temp t) (lower_jump_if_false free_temp t)
unfolding lower_materializing
smallest_first t checked i r m n e =
    let at : lower_expression free_temp t i None ≡ lower_node free_temp t (lower_expression free_temp t) (lower_jump_if_false free_temp t) i (node t i) None = expression_at checked i None in
    let k = node_first t (lower_expression free_temp t) (lower_jump_if_false free_temp t) i (node t i) r m n
    (subst (λ w. bind (w m) (λ src. materialized (source src) None) ≡ ends (Register.Temp r) n) at e) in
    record { when = k.0; before = k.1; smallest = k.2 }
