-- What a walk that lowers a child in place uses of the definition: where a node's value is, what a block and an operator come to, which node a kind's number is,
-- and what patching refuses. Assumes nothing.
use Rattle.std.specs.Prelude.{Option, Some, None, Result, Ok, Err}
use Prim.Native.Nat.{ℕ, zero, suc, ◌+◌, ◌*◌}
use mathlib.Core.Path.{◌≡◌, refl, sym, subst}
use mathlib.Core.Logic.{◌≢◌, ◌⊎◌, inl, inr}
use mathlib.Core.Bool.{Bool, true, false, cond, true≢false, false≢true}
use lib.Dec.{leb}
use lib.ListN.{length, get_or}
use borrow.Author.Tests.{ne_eqb}
use Rattle.diagnostics.specs.declared.Refusal.{Refusal}
use Rattle.diagnostics.specs.declared.Error.{Error}
use Rattle.environment.specs.declared.Register.{Register}
use Rattle.environment.specs.Environment.{freed, lookup}
use Rattle.syntax.specs.declared.ast.Node.{Node}
use Rattle.syntax.specs.declared.ops.BinaryOp.{BinaryOp}
use Rattle.syntax.specs.Ast.{absent, node_kinds, node_word, node_at}
use Rattle.runtime.specs.declared.instruction.Instruction.{Instruction}
use Rattle.runtime.specs.declared.operand.Operand.{Operand}
use Rattle.runtime.specs.Instruction.{instruction_width, has_destination}
use Rattle.runtime.specs.Operands.{reg_of}
use Rattle.lowering.specs.Tree.{Tree, node}
use Rattle.lowering.specs.Checked.{Checked}
use Rattle.lowering.specs.Walk.{Made, Outcome, ends, stops, Walk, bind, ret, error}
use Rattle.lowering.specs.Steps.{allocate_temp, free_temp, destination, store, emit, load_constant, patch_argument, patch_marks}
use Rattle.lowering.specs.Literals.{is_literal, literal}
use Rattle.lowering.specs.Lower.{Source, register, constant, source, same_register, materialized, lower_materializing, moved, lower_name, lower_tail, binary_sources, lower_node, expression_below, jump_below, lower_expression}
use Rattle.lowering.proofs.Bound.Lowering.{expression_at}
use Rattle.lowering.proofs.Running.Steps.{Holds, fine, void, chain}

-- ---- outcomes

-- an outcome that stops, or ends with x
unfoldable pub OnlyAnswer : {A : Type 0} → A → Outcome A → Type 0
OnlyAnswer x (ends y m) = y ≡ x
OnlyAnswer x (stops e m) = Unit {0}

-- so the rest may take x for the answer
pub only_answer : {A B : Type 0} (x : A) (o : Outcome A) (k : A → Walk B) → OnlyAnswer x o → bind o k ≡ bind o (λ y. k x)
unfolding OnlyAnswer bind
only_answer x (ends y m) k e = rw e
only_answer x (stops f m) k e = refl

-- an outcome that stops, or ends with a register
unfoldable pub GivesRegister : Outcome Operand → Type 0
GivesRegister (ends (Operand.Register r) m) = Unit {0}
GivesRegister (ends (Operand.Number x) m) = ⊥
GivesRegister (ends (Operand.String symbol) m) = ⊥
GivesRegister (ends (Operand.Boolean b) m) = ⊥
GivesRegister (ends Operand.Nil m) = ⊥
GivesRegister (stops e m) = Unit {0}

-- whatever a step comes to, the rest holds
past : {A B : Type 0} {Q : B → Made → Type 0} (o : Outcome A) {k : A → Walk B} → ((a : A) (m : Made) → Holds Q (k a m)) → Holds Q (bind o k)
unfolding bind
past (ends a m) f = f a m
past (stops e m) f = void

-- ---- literals

-- it is in no register
pub literal_source : (n : Node) → source (literal n) ≡ constant (literal n)
unfolding literal source
literal_source (Node.Number low high) = refl
literal_source (Node.String symbol) = refl
literal_source (Node.Boolean b) = refl
literal_source Node.Nil = refl
literal_source (Node.Identifier symbol) = refl
literal_source (Node.Binary operator left right) = refl
literal_source (Node.Unary operator operand) = refl
literal_source (Node.LogicalNot operand) = refl
literal_source (Node.LogicalAnd left right) = refl
literal_source (Node.LogicalOr left right) = refl
literal_source (Node.If condition then_branch else_branch) = refl
literal_source (Node.Block tail) = refl
literal_source (Node.FunctionCall callee first count) = refl
literal_source (Node.PropertyAccess object property) = refl
literal_source (Node.Map first count) = refl

-- ---- the register of a node's value

-- the register asked for, if one is
abbrev At : Option Register → Register → Type 0
At None r = Unit {0}
At (Some d) r = r ≡ d

-- an operand that is in a register, the one asked for
record Aimed (dest : Option Register) (x : Operand) (m : Made) : Type 0 where
  held : Register
  is : x ≡ Operand.Register held
  at : At dest held

aimed : {dest : Option Register} {m : Made} (d : Register) → At dest d → Holds (Aimed dest) (ends (Operand.Register d) m)
aimed d h = fine (record { held = d; is = refl; at = h })

destination_at : (dest : Option Register) (m : Made) → Holds (λ d n. At dest d) (destination dest m)
unfolding destination
destination_at (Some d) m = fine refl
destination_at None m = go (allocate_temp m)
  where
    go : (o : Outcome Register) → Holds (λ d n. Unit {0}) o
    go (ends d n) = fine tt
    go (stops e n) = void

aimed_gives : {dest : Option Register} (o : Outcome Operand) → Holds (Aimed dest) o → GivesRegister o
unfolding GivesRegister
aimed_gives o (fine {a = x} {m = m} a) = subst (λ x. GivesRegister (ends x m)) (sym a.is) tt
aimed_gives o void = tt

holds_with : {A : Type 0} {x : A} {o : Outcome A} → Holds (λ y m. y ≡ x) o → OnlyAnswer x o
unfolding OnlyAnswer
holds_with (fine e) = e
holds_with void = tt

-- what is in the register asked for stays there
kept_into : (d : Register) {o : Outcome Operand} → Holds (Aimed (Some d)) o → OnlyAnswer d (bind o (λ src. materialized (source src) (Some d)))
unfolding source materialized
kept_into d h = holds_with (chain h (λ x m a. rw a.is (fine a.at)))

-- a constant is loaded into it
loaded_into : (c : Operand) (d : Register) (m : Made) → OnlyAnswer d (load_constant c (Some d) m)
unfolding load_constant destination bind
loaded_into c d m = holds_with (past (store c m) (λ k m₁. past (emit _ m₁) (λ p m₂. fine refl)))

module _ (t : Tree) (E : ℕ → Option Register → Walk Operand) (J : ℕ → Walk ℕ) (i : ℕ) where
  moved_aimed : (r : Register) (dest : Option Register) (m : Made) → Holds (Aimed dest) (moved t r dest m)
  unfolding moved
  moved_aimed r None m = aimed r tt
  moved_aimed r (Some d) m = go (same_register d r)
    where
      go : (b : Bool) → Holds (Aimed (Some d)) (cond b (ret (Operand.Register d)) (λ n. bind (emit (Instruction.Move (reg_of d) (reg_of r)) n) (λ p. ret (Operand.Register d))) m)
      go true = aimed d refl
      go false = past _ (λ p n. aimed d refl)

  named_aimed : (f : Result Register Refusal) (dest : Option Register) (m : Made) → Holds (Aimed dest) (lower_name t i f dest m)
  unfolding lower_name
  named_aimed (Ok r) dest m = moved_aimed r dest m
  named_aimed (Err refusal) dest m = void

  binary_aimed : (operator : BinaryOp) (left right : ℕ) {dest : Option Register} (d : Register) → At dest d → (x y : Source) (m : Made) →
      Holds (Aimed dest) (binary_sources free_temp t E operator left right d x y m)
  unfolding binary_sources
  binary_aimed operator left right d h (constant a) (constant b) m = past _ (λ r m₁. past _ (λ s m₂. past _ (λ p m₃. past _ (λ u m₄. past _ (λ v m₅. aimed d h)))))
  binary_aimed operator left right d h (register a) (constant b) m = past _ (λ k m₁. past _ (λ p m₂. past _ (λ u m₃. aimed d h)))
  binary_aimed operator left right d h (constant a) (register b) m = past _ (λ k m₁. past _ (λ p m₂. past _ (λ u m₃. aimed d h)))
  binary_aimed operator left right d h (register a) (register b) m = past _ (λ p m₁. past _ (λ u m₂. past _ (λ v m₃. aimed d h)))

  -- a node that is no literal is in a register, the one asked for
  node_aimed : (n : Node) → is_literal n ≡ false → (dest : Option Register) (m : Made) → Holds (Aimed dest) (lower_node free_temp t E J i n dest m)
  unfolding is_literal lower_node
  node_aimed (Node.Number low high) l dest m = absurd (true≢false l)
  node_aimed (Node.String symbol) l dest m = absurd (true≢false l)
  node_aimed (Node.Boolean b) l dest m = absurd (true≢false l)
  node_aimed Node.Nil l dest m = absurd (true≢false l)
  node_aimed (Node.Identifier symbol) l dest m = named_aimed (lookup t.names (length t.names) symbol) dest m
  node_aimed (Node.Binary operator left right) l dest m =
      chain (destination_at dest m) (λ d m₁ h. past _ (λ a m₂. past _ (λ b m₃. binary_aimed operator left right d h (source a) (source b) m₃)))
  node_aimed (Node.Unary operator operand) l dest m =
      chain (destination_at dest m) (λ d m₁ h. past _ (λ src m₂. past _ (λ p m₃. past _ (λ u m₄. aimed d h))))
  node_aimed (Node.LogicalNot operand) l dest m =
      chain (destination_at dest m) (λ d m₁ h. past _ (λ src m₂. past _ (λ p m₃. past _ (λ u m₄. aimed d h))))
  node_aimed (Node.LogicalAnd left right) l dest m =
      chain (destination_at dest m) (λ d m₁ h. past _ (λ src m₂. past _ (λ jump m₃. past _ (λ r m₄. past _ (λ u m₅. aimed d h)))))
  node_aimed (Node.LogicalOr left right) l dest m =
      chain (destination_at dest m) (λ d m₁ h. past _ (λ src m₂. past _ (λ jump m₃. past _ (λ r m₄. past _ (λ u m₅. aimed d h)))))
  node_aimed (Node.If condition then_branch else_branch) l dest m =
      past _ (λ jump m₁. chain (destination_at dest m₁) (λ d m₂ h. past _ (λ r m₃. past _ (λ end m₄. past _ (λ u m₅. past _ (λ s m₆. past _ (λ v m₇. aimed d h)))))))
  node_aimed (Node.Block tail) l dest m = chain (destination_at dest m) (λ d m₁ h. past _ (λ r m₂. aimed d h))
  node_aimed (Node.FunctionCall callee first count) l dest m =
      past _ (λ u m₁. chain (destination_at dest m₁) (λ d m₂ h. past _ (λ src m₃. past _ (λ p m₄. past _ (λ v m₅. aimed d h)))))
  node_aimed (Node.PropertyAccess object property) l dest m =
      chain (destination_at dest m) (λ d m₁ h. past _ (λ src m₂. past _ (λ key m₃. past _ (λ p m₄. past _ (λ u m₅. aimed d h)))))
  node_aimed (Node.Map first count) l dest m = chain (destination_at dest m) (λ d m₁ h. past _ (λ p m₂. past _ (λ u m₃. aimed d h)))

  pub node_register : (n : Node) → is_literal n ≡ false → (dest : Option Register) (m : Made) → GivesRegister (lower_node free_temp t E J i n dest m)
  node_register n l dest m = aimed_gives _ (node_aimed n l dest m)

  -- a literal is its operand, and nothing is made
  pub literal_of : (n : Node) → is_literal n ≡ true → (dest : Option Register) → lower_node free_temp t E J i n dest ≡ ret (literal n)
  unfolding is_literal literal lower_node
  literal_of (Node.Number low high) l dest = refl
  literal_of (Node.String symbol) l dest = refl
  literal_of (Node.Boolean b) l dest = refl
  literal_of Node.Nil l dest = refl
  literal_of (Node.Identifier symbol) l dest = absurd (false≢true l)
  literal_of (Node.Binary operator left right) l dest = absurd (false≢true l)
  literal_of (Node.Unary operator operand) l dest = absurd (false≢true l)
  literal_of (Node.LogicalNot operand) l dest = absurd (false≢true l)
  literal_of (Node.LogicalAnd left right) l dest = absurd (false≢true l)
  literal_of (Node.LogicalOr left right) l dest = absurd (false≢true l)
  literal_of (Node.If condition then_branch else_branch) l dest = absurd (false≢true l)
  literal_of (Node.Block tail) l dest = absurd (false≢true l)
  literal_of (Node.FunctionCall callee first count) l dest = absurd (false≢true l)
  literal_of (Node.PropertyAccess object property) l dest = absurd (false≢true l)
  literal_of (Node.Map first count) l dest = absurd (false≢true l)

  -- a literal is loaded
  pub literal_loaded : (n : Node) → is_literal n ≡ true → (dest : Option Register) (m : Made) →
      lower_materializing (λ d. lower_node free_temp t E J i n d) dest m ≡ load_constant (literal n) dest m
  unfolding lower_materializing bind materialized
  literal_loaded n l dest m = rw (literal_of n l dest, literal_source n)

  -- with a destination given, that register is the answer
  pub materializing_into : (n : Node) (d : Register) (m : Made) → OnlyAnswer d (lower_materializing (λ dest. lower_node free_temp t E J i n dest) (Some d) m)
  unfolding lower_materializing
  materializing_into n d m = go (is_literal n) refl
    where
      go : (b : Bool) → is_literal n ≡ b → OnlyAnswer d (lower_materializing (λ dest. lower_node free_temp t E J i n dest) (Some d) m)
      go true l = rw (literal_loaded n l (Some d) m) (loaded_into (literal n) d m)
      go false l = kept_into d (node_aimed n l (Some d) m)

  -- with none given, an operator takes one, and then it is as if that one was given
  pub binary_any : (operator : BinaryOp) (left right : ℕ) (m : Made) →
      lower_node free_temp t E J i (Node.Binary operator left right) None m
      ≡ bind (allocate_temp m) (λ d. lower_node free_temp t E J i (Node.Binary operator left right) (Some d))
  unfolding lower_node destination bind
  binary_any operator left right m = refl

module _ (t : Tree) (i : ℕ) where
  -- so of `lower_expression` at a node: it answers the register given, and a register if the node is no literal
  pub expression_into : (d : Register) (m : Made) → OnlyAnswer d (lower_materializing (lower_expression free_temp t i) (Some d) m)
  unfolding lower_expression expression_below
  expression_into d m = materializing_into t (λ n e. expression_below free_temp t i n e) (λ n. jump_below free_temp t i n) i (node t i) d m

  pub expression_register : is_literal (node t i) ≡ false → (dest : Option Register) (m : Made) → GivesRegister (lower_expression free_temp t i dest m)
  unfolding lower_expression expression_below
  expression_register l dest m = node_register t (λ n e. expression_below free_temp t i n e) (λ n. jump_below free_temp t i n) i (node t i) l dest m

-- a value in the register asked for is answered by its register and found there again
answered_again : (d : Register) (o : Outcome Register) → OnlyAnswer d o →
    bind (bind o (λ r. ret (Operand.Register d))) (λ src. materialized (source src) (Some d)) ≡ o
unfolding OnlyAnswer bind source materialized
answered_again d (ends r m) e = rw e
answered_again d (stops f m) e = refl

-- a block with a destination given is its tail
pub block_into : {t : Tree} → Checked t → (i tail : ℕ) → node t i ≡ Node.Block tail → tail ≢ absent → (d : Register) (m : Made) →
    lower_materializing (lower_expression free_temp t i) (Some d) m ≡ lower_materializing (lower_expression free_temp t tail) (Some d) m
unfolding lower_materializing lower_node destination lower_tail bind
block_into {t} checked i tail e some d m =
    rw (expression_at checked i (Some d), e, ne_eqb tail absent some)
    (answered_again d (lower_materializing (lower_expression free_temp t tail) (Some d) m) (expression_into t tail d m))

-- ---- an operator's registers given back

-- two sources that are both constants
unfoldable pub are_constants : Source → Source → Bool
are_constants (constant a) (constant b) = true
are_constants (constant a) (register s) = false
are_constants (register r) (constant b) = false
are_constants (register r) (register s) = false

-- the register of a source given back
unfoldable pub free_source : Source → Walk Unit
free_source (register r) = free_temp r
free_source (constant c) = ret tt

-- a source that has nothing to give back: a constant or a local
unfoldable pub Stays : Source → Type 0
Stays (register (Register.Temp r)) = ⊥
Stays (register (Register.Local r)) = Unit {0}
Stays (constant c) = Unit {0}

-- a do-block in a do-block
pub bind_bind : {A B C : Type 0} (o : Outcome A) (k : A → Walk B) (l : B → Walk C) → bind (bind o k) l ≡ bind o (λ x m. bind (k x m) l)
unfolding bind
bind_bind (ends x m) k l = refl
bind_bind (stops e m) k l = refl

module _ (t : Tree) (E : ℕ → Option Register → Walk Operand) (operator : BinaryOp) (left right : ℕ) (d : Register) where
  -- an operator's instruction, and then its registers given back
  pub binary_given_back : (x y : Source) → are_constants x y ≡ false → (m : Made) →
      binary_sources free_temp t E operator left right d x y m
      ≡ bind (binary_sources (λ r. ret tt) t E operator left right d x y m) (λ o m₁. bind (free_source x m₁) (λ u m₂. bind (free_source y m₂) (λ v. ret (Operand.Register d))))
  unfolding are_constants binary_sources free_source bind
  binary_given_back (constant a) (constant b) n m = absurd (true≢false n)
  binary_given_back (register r) (constant b) n m = simp bind_bind
  binary_given_back (constant a) (register s) n m = simp bind_bind
  binary_given_back (register r) (register s) n m = simp bind_bind

  -- where neither source has one to give back, the instruction is all
  pub binary_locals : (x y : Source) → are_constants x y ≡ false → Stays x → Stays y → (m : Made) →
      binary_sources free_temp t E operator left right d x y m ≡ binary_sources (λ r. ret tt) t E operator left right d x y m
  unfolding are_constants Stays binary_sources free_temp freed
  binary_locals (constant a) (constant b) n h k m = absurd (true≢false n)
  binary_locals (register (Register.Local r)) (constant b) n h k m = refl
  binary_locals (constant a) (register (Register.Local s)) n h k m = refl
  binary_locals (register (Register.Local r)) (register (Register.Local s)) n h k m = refl
  binary_locals (register (Register.Temp r)) y n h k m = absurd h
  binary_locals (register (Register.Local r)) (register (Register.Temp s)) n h k m = absurd k
  binary_locals (constant a) (register (Register.Temp s)) n h k m = absurd k

-- ---- the words of a node

-- node i, by the number of its kind
pub node_kind : (t : Tree) (i k : ℕ) → node_word t.nodes i 0 ≡ k →
    node t i ≡ get_or node_kinds k (λ a b c. Node.Nil) (node_word t.nodes i 1) (node_word t.nodes i 2) (node_word t.nodes i 3)
unfolding node_at
node_kind t i k e = rw e

-- ---- patching

-- a refusal of patching: 17 or 18, with no span
pub record PatchRefusal (e : Error) : Type 0 where
  pub refusal : (e.refusal ≡ Refusal.Destination) ⊎ (e.refusal ≡ Refusal.Sum)
  pub start : e.start ≡ 0
  pub end : e.end ≡ 0

-- an outcome that ends, or stops with such a refusal
unfoldable Patches : Outcome Unit → Type 0
Patches (ends u m) = Unit {0}
Patches (stops e m) = PatchRefusal e

argument_patches : (place : ℕ) (m : Made) → Patches (patch_argument place m)
unfolding Patches patch_argument
argument_patches place m =
    let kind : ℕ = get_or m.code (instruction_width * place) 0 in
    let sum : ℕ = get_or m.code (instruction_width * place + 1) 0 + m.state.registers.frame_size in
    go (has_destination kind) (leb sum 255) _
  where
    go : (b c : Bool) (n : Made) →
        Patches (cond b (cond c (ends tt n) (stops (error Refusal.Sum place 0 0) m)) (stops (error Refusal.Destination place 0 0) m))
    go true true n = tt
    go true false n = record { refusal = inr refl; start = refl; end = refl }
    go false c n = record { refusal = inl refl; start = refl; end = refl }

then_patches : (o : Outcome Unit) (k : Unit → Walk Unit) → Patches o → ((u : Unit) (m : Made) → Patches (k u m)) → Patches (bind o k)
unfolding Patches bind
then_patches (ends u m) k h f = f u m
then_patches (stops e m) k h f = h

marks_patch : (n k : ℕ) (m : Made) → Patches (patch_marks n k m)
unfolding Patches patch_marks
marks_patch zero k m = tt
marks_patch (suc n) k m = then_patches _ _ (argument_patches (get_or m.marks k 0) m) (λ u m₁. marks_patch n (suc k) m₁)

-- patching stops with 17 or 18 only
pub patch_refusals : (n k : ℕ) (m : Made) (e : Error) (m' : Made) → patch_marks n k m ≡ stops e m' → PatchRefusal e
unfolding Patches
patch_refusals n k m e m' h = subst (λ o. Patches o) h (marks_patch n k m)
