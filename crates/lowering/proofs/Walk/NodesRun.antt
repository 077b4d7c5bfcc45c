-- Every node of a checked tree is lowered by good steps, as an expression and as a condition: one induction over the fifteen kinds. Assumes nothing.
use Rattle.std.specs.Prelude.{Option, Some, None, Result, Ok, Err}
use Prim.Native.Nat.{ℕ, zero, suc, ◌+◌, ◌*◌, ◌≤◌, ◌<◌}
use native.Mathlib.Omega.{arith}
use native.Mathlib.Nat.{lt_of_lt_of_le}
use mathlib.Core.Path.{◌≡◌, refl, sym, ap, ◌∙◌, subst}
use mathlib.Core.Logic.{◌≢◌}
use mathlib.Core.Bool.{Bool, true, false, cond}
use mathlib.Core.List.{List, [], ◌∷◌, ◌++◌}
use lib.Dec.{eqb}
use lib.ListN.{length, get_or, take, drop, length-take, length-drop}
use lib.Seq.{get_or-take, get_or-drop}
use borrow.Author.Tests.{eqb-true, eqb-false}
use Rattle.diagnostics.specs.declared.Refusal.{Refusal}
use Rattle.environment.specs.declared.Register.{Register}
use Rattle.environment.specs.Environment.{lookup}
use Rattle.environment.specs.Laws.{Sound, Last, Undeclared}
use Rattle.environment.proofs.Laws.{lookup_found, lookup_refused}
use Rattle.syntax.specs.declared.ast.Node.{Node}
use Rattle.syntax.specs.declared.ops.BinaryOp.{BinaryOp}
use Rattle.syntax.specs.declared.ops.Comparison.{Comparison}
use Rattle.syntax.specs.Ast.{absent}
use Rattle.runtime.specs.declared.instruction.Instruction.{Instruction}
use Rattle.runtime.specs.declared.operand.Operand.{Operand}
use Rattle.runtime.specs.Operands.{reg_of}
use Rattle.runtime.specs.Instruction.{words_of}
use Rattle.lowering.specs.Tree.{Tree, node, span_start, span_end, present, entry_nodes, children}
use Rattle.lowering.specs.Walk.{Made, stops, Walk, ◌>>=◌, ◌>>◌, ret, error}
use Rattle.lowering.specs.Steps.{destination, emit, load_constant, patch_to_next}
use Rattle.lowering.specs.Operators.{binary_rr, binary_rk, binary_kr, unary, comparison, jump_rr, jump_rk, jump_kr, jump_if}
use Rattle.lowering.specs.Lower.{Source, register, constant, source, same_register, name_of, materialized, lower_materializing, moved, lower_name, binary_sources, lower_arguments, store_named, store_keyed, lower_entry, lower_entries, lower_else, lower_tail, lower_node, test, fused_sources, fuse, jump_node}
use Rattle.lowering.specs.Meaning.{Named, first, later, Reaches}
use Rattle.lowering.specs.Fields.{Narrow}
use Rattle.lowering.specs.Trace.{Own, Owned, registers_of, instructions_of, constants_of, kind_at, JumpKind, constant_of_node}
use Rattle.lowering.proofs.Questions.Checked.{InRange}
use Rattle.lowering.proofs.Walk.StepsRun.{GiveBack, Good, chain, done, stopped, relax, Kept, kept_refl, kept_trans, RegisterReady, NotHeld, register_ready_later, register_ready_small, not_held_before, differ, MayStand, DestReady, dest_ready_later, may_stand_before, Settled, destination_good, give_good, emit_good, store_good, patch_good, mark_good}
use Rattle.lowering.proofs.Walk.InstructionsFit.{narrow_RR, narrow_RK, narrow_KR, narrow_unary, narrow_jump_RR, narrow_jump_RK, narrow_jump_KR, narrow_jump_if, kind_jump_RR, kind_jump_RK, kind_jump_KR, kind_jump_if}

-- ---- the nodes that a node names, by their places in the list

named_at : (l : List ℕ) (k : ℕ) → k < length l → Named (get_or l k 0) l
named_at [] k h = absurd (omega arith)
named_at (x ∷ l) zero h = first
named_at (x ∷ l) (suc k) h = later (named_at l k (omega arith))

named_present : (n : ℕ) → n ≢ absent → Named n (present n)
unfolding present
named_present n h = go (eqb n absent) refl
  where
    go : (b : Bool) → eqb n absent ≡ b → Named n (cond b [] (n ∷ []))
    go true e = absurd (h (eqb-true n absent e))
    go false e = first

named_before : {n : ℕ} {l : List ℕ} (k : List ℕ) → Named n l → Named n (l ++ k)
named_before k first = first
named_before k (later h) = later (named_before k h)

named_after : {n : ℕ} (l : List ℕ) {k : List ℕ} → Named n k → Named n (l ++ k)
named_after [] h = h
named_after (x ∷ l) h = later (named_after l h)

named_key : (l : List ℕ) (k : ℕ) → 2 * k + 1 < length l → Named (get_or l (2 * k) 0) (entry_nodes l)
unfolding entry_nodes
named_key [] k h = absurd (omega arith)
named_key (key ∷ []) k h = absurd (omega arith)
named_key (key ∷ value ∷ l) zero h = first
named_key (key ∷ value ∷ l) (suc k) h =
    let two : 2 * suc k ≡ suc (suc (2 * k)) = omega arith in
    rw two (later (named_after (present value) (named_key l k (omega arith))))

named_value : (l : List ℕ) (k : ℕ) → 2 * k + 1 < length l → get_or l (2 * k + 1) 0 ≢ absent → Named (get_or l (2 * k + 1) 0) (entry_nodes l)
unfolding entry_nodes
named_value [] k h p = absurd (omega arith)
named_value (key ∷ []) k h p = absurd (omega arith)
named_value (key ∷ value ∷ l) zero h p = later (named_before _ (named_present value p))
named_value (key ∷ value ∷ l) (suc k) h p =
    let two : 2 * suc k + 1 ≡ suc (suc (2 * k + 1)) = omega arith in
    rw two (later (named_after (present value) (named_value l k (omega arith) (rw two at p))))

-- a name's own constant is its name
none_some : {name : ℕ} → None ≡ Some name → ⊥
none_some e = let z : ◌≡◌ {A = ℕ} 0 1 = cc in omega arith

name_constant : (n : Node) (name : ℕ) → name_of n ≡ Some name → constant_of_node n ≡ Some (Operand.String name)
unfolding name_of constant_of_node
name_constant (Node.Number low high) name e = absurd (none_some e)
name_constant (Node.String symbol) name e = absurd (none_some e)
name_constant (Node.Boolean b) name e = absurd (none_some e)
name_constant Node.Nil name e = absurd (none_some e)
name_constant (Node.Identifier symbol) name e = cc
name_constant (Node.Binary op l r) name e = absurd (none_some e)
name_constant (Node.Unary op x) name e = absurd (none_some e)
name_constant (Node.LogicalNot x) name e = absurd (none_some e)
name_constant (Node.LogicalAnd l r) name e = absurd (none_some e)
name_constant (Node.LogicalOr l r) name e = absurd (none_some e)
name_constant (Node.If c a b) name e = absurd (none_some e)
name_constant (Node.Block tail) name e = absurd (none_some e)
name_constant (Node.FunctionCall c f n) name e = absurd (none_some e)
name_constant (Node.PropertyAccess x p) name e = absurd (none_some e)
name_constant (Node.Map f n) name e = absurd (none_some e)

module _ (t : Tree) (root : ℕ) where
  -- a lowered operand: in a register, or the constant of a node that is not pooled yet
  abbrev pub OperandStands : Made → Option Register → Made → Source → Type 0
  OperandStands m dest n (register r) = MayStand m dest r × RegisterReady n r
  OperandStands m dest n (constant c) = Owned t root c

  operand_later : (m : Made) {n o : Made} (dest : Option Register) (x : Source) → Kept n o → OperandStands m dest n x → OperandStands m dest o x
  operand_later m dest (register r) k a = (a.0, register_ready_later r k a.1)
  operand_later m dest (constant c) k a = a

  operand_before : {m n : Made} (o : Made) (dest : Option Register) (x : Source) → Kept m n → OperandStands n dest o x → OperandStands m dest o x
  operand_before o dest (register r) k a = (may_stand_before dest r k a.0, a.1)
  operand_before o dest (constant c) k a = a

  pub record LoweredOperand (m : Made) (dest : Option Register) (x : Operand) (n : Made) : Type 0 where
    pub kept : Kept m n
    pub answer : OperandStands m dest n (source x)

  -- a jump that is made
  pub record JumpMade (m : Made) (j : ℕ) (n : Made) : Type 0 where
    pub kept : Kept m n
    pub inside : j < instructions_of n
    pub kind : JumpKind (kind_at n j)

  settled_operand : {m n : Made} {dest : Option Register} {r : Register} → Settled m dest r n → LoweredOperand m dest (Operand.Register r) n
  unfolding source
  settled_operand s = record { kept = s.kept; answer = (s.spot, s.ready) }

  load_good : (c : Operand) → Owned t root c → (m : Made) (dest : Option Register) → DestReady m dest → Good t root (Settled m dest) (λ F. load_constant c dest) m
  unfolding load_constant words_of
  load_good c o m dest g =
      chain (destination_good m dest g) (λ d m1 a.
      chain (store_good c m1 o) (λ k m2 b.
      chain (emit_good (Instruction.LoadConst (reg_of d) k) m2 (register_ready_small m1 d a.ready, b.inside, omega arith)) (λ p m3 e.
      let k3 : Kept m1 m3 = kept_trans b.kept e.kept in
      done d (record { kept = kept_trans a.kept k3; spot = a.spot; ready = register_ready_later d k3 a.ready }))))

  materialized_good : (x : Source) {m n : Made} (dest : Option Register) → Kept m n → DestReady m dest → OperandStands m dest n x → Good t root (Settled m dest) (λ F. materialized x dest) n
  unfolding materialized
  materialized_good (register r) dest k g h = done r (record { kept = k; spot = h.0; ready = h.1 })
  materialized_good (constant c) {m} {n} dest k g h =
      relax (load_good c h n dest (dest_ready_later dest k g))
      (λ r o s. record { kept = kept_trans k s.kept; spot = may_stand_before dest r k s.spot; ready = s.ready })

  pub materializing_good : (own : GiveBack → Option Register → Walk Operand) (dest : Option Register) (m : Made) → DestReady m dest → Good t root (LoweredOperand m dest) (λ F. own F dest) m →
      Good t root (Settled m dest) (λ F. lower_materializing (own F) dest) m
  unfolding lower_materializing
  materializing_good own dest m g h = chain h (λ x n l. materialized_good (source x) dest l.kept g l.answer)

  -- one instruction after a destination, and the registers that it used given back
  one_good : (i : Instruction) {m m0 ma mb : Made} {dest : Option Register} (d src : Register) → Settled m dest d m0 → Kept m0 ma → NotHeld m0 src → RegisterReady ma src → Kept ma mb →
      Sound (registers_of m) → Narrow (constants_of mb) (words_of i) →
      Good t root (LoweredOperand m dest) (λ F. emit i >> (F src >> ret (Operand.Register d))) mb
  one_good i {m} {m0} {ma} {mb} {dest} d src s ka l r kb sound fits =
      chain (emit_good i mb fits) (λ p mc e.
      let kc : Kept ma mc = kept_trans kb e.kept in
      let k0 : Kept m0 mc = kept_trans ka kc in
      chain (give_good src l (register_ready_later src kc r) (k0.sound (s.kept.sound sound)) k0) (λ u n g.
      done (Operand.Register d) (settled_operand (record { kept = kept_trans s.kept g.kept; spot = s.spot; ready = register_ready_later d g.kept s.ready }))))

  two_good : (i : Instruction) {m m0 ma mb : Made} {dest : Option Register} (d src1 src2 : Register) → Settled m dest d m0 → Kept m0 ma → NotHeld m0 src1 → RegisterReady ma src1 →
      Kept ma mb → NotHeld ma src2 → RegisterReady mb src2 → Sound (registers_of m) → Narrow (constants_of mb) (words_of i) →
      Good t root (LoweredOperand m dest) (λ F. emit i >> (F src1 >> (F src2 >> ret (Operand.Register d)))) mb
  two_good i {m} {m0} {ma} {mb} {dest} d src1 src2 s ka l1 r1 kb l2 r2 sound fits =
      chain (emit_good i mb fits) (λ p mc e.
      let kc : Kept ma mc = kept_trans kb e.kept in
      let k0 : Kept m0 mc = kept_trans ka kc in
      chain (give_good src1 l1 (register_ready_later src1 kc r1) (k0.sound (s.kept.sound sound)) k0) (λ u n1 g1.
      let ready2 : RegisterReady n1 src2 = g1.still src2 (differ ma src1 src2 r1 l2) (register_ready_later src2 e.kept r2) in
      chain (give_good src2 (not_held_before src2 ka l2) ready2 g1.sound g1.kept) (λ v n2 g2.
      done (Operand.Register d) (settled_operand (record { kept = kept_trans s.kept g2.kept; spot = s.spot; ready = register_ready_later d g2.kept s.ready })))))

  -- ---- a name

  moved_good : (r : ℕ) → r < 256 → (dest : Option Register) (m : Made) → DestReady m dest → Good t root (LoweredOperand m dest) (λ F. moved t (Register.Local r) dest) m
  unfolding moved source words_of reg_of
  moved_good r h None m g = done (Operand.Register (Register.Local r)) (record { kept = kept_refl m; answer = (tt, h) })
  moved_good r h (Some d) m g = go (same_register d (Register.Local r))
    where
      go : (b : Bool) → Good t root (LoweredOperand m (Some d))
          (λ F. cond b (ret (Operand.Register d)) (emit (Instruction.Move (reg_of d) (reg_of (Register.Local r))) >> ret (Operand.Register d))) m
      go true = done (Operand.Register d) (record { kept = kept_refl m; answer = (refl, g) })
      go false =
          chain (emit_good (Instruction.Move (reg_of d) (reg_of (Register.Local r))) m (register_ready_small m d g, h, omega arith)) (λ p n e.
          done (Operand.Register d) (record { kept = e.kept; answer = (refl, register_ready_later d e.kept g) }))

  named_good : (i symbol : ℕ) → Reaches t root i → node t i ≡ Node.Identifier symbol → length t.names ≤ 256 → (dest : Option Register) (m : Made) → DestReady m dest →
      Good t root (LoweredOperand m dest) (λ F. lower_name t i (lookup t.names (length t.names) symbol) dest) m
  unfolding lower_name
  named_good i symbol reached e few dest m g = go (lookup t.names (length t.names) symbol) refl
    where
      go : (f : Result Register Refusal) → lookup t.names (length t.names) symbol ≡ f → Good t root (LoweredOperand m dest) (λ F. lower_name t i f dest) m
      go (Ok r) q =
          let k : Last t.names (length t.names) symbol r = lookup_found t.names (length t.names) symbol r q in
          subst (λ x. Good t root (LoweredOperand m dest) (λ F. moved t x dest) m) (sym k.local) (moved_good k.index (lt_of_lt_of_le k.in_range few) dest m g)
      go (Err refusal) q =
          let k : Undeclared t.names (length t.names) symbol refusal = lookup_refused t.names (length t.names) symbol refusal q in
          subst (λ x. Good t root (LoweredOperand m dest) (λ F y. stops (error x i (span_start t i) (span_end t i)) y) m) (sym k.reason)
          (stopped (error Refusal.Undeclared i (span_start t i) (span_end t i)) (Own.undeclared reached e k.none))

  -- ---- by walks on the children that run
  module _ (E : GiveBack → ℕ → Option Register → Walk Operand) (P : ℕ → Type 0) (reach : (i : ℕ) → P i → Reaches t root i)
      (good : (i : ℕ) → P i → (dest : Option Register) (m : Made) → Sound (registers_of m) → DestReady m dest → Good t root (LoweredOperand m dest) (λ F. E F i dest) m) where
    child_good : (i : ℕ) → P i → (dest : Option Register) (m : Made) → Sound (registers_of m) → DestReady m dest → Good t root (Settled m dest) (λ F. lower_materializing (E F i) dest) m
    child_good i p dest m s g = materializing_good (λ F. E F i) dest m g (good i p dest m s g)

    binary_good : (op : BinaryOp) (left right : ℕ) → P left → P right → {m m0 m1 m2 : Made} {dest : Option Register} (d : Register) (x y : Source) → Settled m dest d m0 →
        Kept m0 m1 → Kept m1 m2 → OperandStands m0 None m1 x → OperandStands m1 None m2 y → Sound (registers_of m) →
        Good t root (LoweredOperand m dest) (λ F. binary_sources F t (E F) op left right d x y) m2
    unfolding binary_sources
    binary_good op left right pl pr {m} {m0} {m1} {m2} d (constant a) (constant b) s k1 k2 ha hb sound =
        let k02 : Kept m0 m2 = kept_trans k1 k2 in
        let s2 : Sound (registers_of m2) = k02.sound (s.kept.sound sound) in
        chain (child_good left pl None m2 s2 tt) (λ src1 m3 a1.
        chain (child_good right pr None m3 (a1.kept.sound s2) tt) (λ src2 m4 a2.
        let k24 : Kept m2 m4 = kept_trans a1.kept a2.kept in
        two_good (binary_rr op (reg_of d) (reg_of src1) (reg_of src2)) d src1 src2 s (kept_trans k02 a1.kept) (not_held_before src1 k02 a1.spot) a1.ready
        a2.kept a2.spot a2.ready sound
        (narrow_RR (constants_of m4) (reg_of d) (reg_of src1) (reg_of src2) (register_ready_small m0 d s.ready) (register_ready_small m3 src1 a1.ready) (register_ready_small m4 src2 a2.ready) op)))
    binary_good op left right pl pr {m} {m0} {m1} {m2} d (register src1) (constant b) s k1 k2 ha hb sound =
        chain (store_good b m2 hb) (λ k m3 q.
        one_good (binary_rk op (reg_of d) (reg_of src1) k) d src1 s k1 ha.0 ha.1 (kept_trans k2 q.kept) sound
        (narrow_RK (constants_of m3) (reg_of d) (reg_of src1) k (register_ready_small m0 d s.ready) (register_ready_small m1 src1 ha.1) q.inside op))
    binary_good op left right pl pr {m} {m0} {m1} {m2} d (constant a) (register src2) s k1 k2 ha hb sound =
        chain (store_good a m2 ha) (λ k m3 q.
        one_good (binary_kr op (reg_of d) k (reg_of src2)) d src2 s (kept_trans k1 k2) (not_held_before src2 k1 hb.0) hb.1 q.kept sound
        (narrow_KR (constants_of m3) (reg_of d) (reg_of src2) k (register_ready_small m0 d s.ready) (register_ready_small m2 src2 hb.1) q.inside op))
    binary_good op left right pl pr {m} {m0} {m1} {m2} d (register src1) (register src2) s k1 k2 ha hb sound =
        two_good (binary_rr op (reg_of d) (reg_of src1) (reg_of src2)) d src1 src2 s k1 ha.0 ha.1 k2 hb.0 hb.1 sound
        (narrow_RR (constants_of m2) (reg_of d) (reg_of src1) (reg_of src2) (register_ready_small m0 d s.ready) (register_ready_small m1 src1 ha.1) (register_ready_small m2 src2 hb.1) op)

    -- n arguments of the call at node i, from argument k on
    arguments_good : (i : ℕ) {callee start count : ℕ} → Reaches t root i → node t i ≡ Node.FunctionCall callee start count → count ≤ 255 →
        ((k : ℕ) → k < count → P (get_or t.list (start + k) 0)) → (n k : ℕ) → k + n ≤ count → (m : Made) → Sound (registers_of m) →
        Good t root (λ u o. Kept m o) (λ F. lower_arguments t (E F) i start n k) m
    unfolding lower_arguments
    arguments_good i reached e few p zero k h m s = done tt (kept_refl m)
    arguments_good i {start = start} reached e few p (suc n) k h m s =
        chain (child_good (get_or t.list (start + k) 0) (p k (omega arith)) (Some (Register.Local k)) m s (omega arith)) (λ r m1 a.
        chain (mark_good i m1 reached e) (λ q m2 b.
        let k2 : Kept m m2 = kept_trans a.kept b.kept in
        relax (arguments_good i reached e few p n (suc k) (omega arith) m2 (k2.sound s)) (λ u o c. kept_trans k2 c)))

    named_entry : {m m1 : Made} (d : Register) (key : ℕ) (v : Source) → RegisterReady m1 d → key < constants_of m1 → Kept m m1 → OperandStands m None m1 v →
        Good t root (λ u o. Kept m o) (λ F. store_named t (E F) d key v) m1
    unfolding store_named words_of
    named_entry {m} {m1} d key (constant v) r h k a =
        chain (store_good v m1 a) (λ value m2 q.
        relax (emit_good (Instruction.SetPropertyKK (reg_of d) key value) m2 (register_ready_small m1 d r, lt_of_lt_of_le h q.kept.pooled, q.inside))
        (λ p o e. kept_trans k (kept_trans q.kept e.kept)))
    named_entry {m} {m1} d key (register v) r h k a =
        relax (emit_good (Instruction.SetPropertyKR (reg_of d) key (reg_of v)) m1 (register_ready_small m1 d r, h, register_ready_small m1 v a.1)) (λ p o e. kept_trans k e.kept)

    keyed_entry : {m m1 m2 : Made} (d : Register) (x y : Source) → RegisterReady m2 d → Kept m m1 → Kept m1 m2 → OperandStands m None m1 x → OperandStands m1 None m2 y →
        Good t root (λ u o. Kept m o) (λ F. store_keyed t (E F) d x y) m2
    unfolding store_keyed words_of
    keyed_entry {m} {m1} {m2} d (register key) (register v) r k1 k2 a b =
        relax (emit_good (Instruction.SetProperty (reg_of d) (reg_of key) (reg_of v)) m2 (register_ready_small m2 d r, register_ready_small m1 key a.1, register_ready_small m2 v b.1))
        (λ p o e. kept_trans k1 (kept_trans k2 e.kept))
    keyed_entry {m} {m1} {m2} d (register key) (constant v) r k1 k2 a b =
        chain (store_good v m2 b) (λ value m3 q.
        relax (emit_good (Instruction.SetPropertyRK (reg_of d) (reg_of key) value) m3 (register_ready_small m2 d r, register_ready_small m1 key a.1, q.inside))
        (λ p o e. kept_trans k1 (kept_trans k2 (kept_trans q.kept e.kept))))
    keyed_entry {m} {m1} {m2} d (constant k) (register v) r k1 k2 a b =
        chain (store_good k m2 a) (λ key m3 q.
        relax (emit_good (Instruction.SetPropertyKR (reg_of d) key (reg_of v)) m3 (register_ready_small m2 d r, q.inside, register_ready_small m2 v b.1))
        (λ p o e. kept_trans k1 (kept_trans k2 (kept_trans q.kept e.kept))))
    keyed_entry {m} {m1} {m2} d (constant k) (constant v) r k1 k2 a b =
        chain (store_good k m2 a) (λ key m3 q.
        chain (store_good v m3 b) (λ value m4 w.
        relax (emit_good (Instruction.SetPropertyKK (reg_of d) key value) m4 (register_ready_small m2 d r, lt_of_lt_of_le q.inside w.kept.pooled, w.inside))
        (λ p o e. kept_trans k1 (kept_trans k2 (kept_trans q.kept (kept_trans w.kept e.kept))))))

    -- entry k of the map at node i
    name_owned : (key name : ℕ) → Reaches t root key → name_of (node t key) ≡ Some name → Owned t root (Operand.String name)
    name_owned key name reached e = record { owner = key; reached = reached; its = name_constant (node t key) name e }

    entry_good : (i : ℕ) {start count : ℕ} (k : ℕ) → Reaches t root i → node t i ≡ Node.Map start count → k < count →
        P (get_or t.list (start + 2 * k) 0) →
        (get_or t.list (start + 2 * k + 1) 0 ≢ absent → P (get_or t.list (start + 2 * k + 1) 0)) → (d : Register) (m : Made) → Sound (registers_of m) → RegisterReady m d →
        Good t root (λ u o. Kept m o)
        (λ F. lower_entry t (E F) d (get_or t.list (start + 2 * k) 0) (get_or t.list (start + 2 * k + 1) 0) (name_of (node t (get_or t.list (start + 2 * k) 0)))) m
    unfolding lower_entry words_of
    entry_good i {start} {count} k reached e h pk pv d m s r = go (name_of (node t key)) refl (eqb value absent) refl
      where
        key : ℕ
        key = get_or t.list (start + 2 * k) 0

        value : ℕ
        value = get_or t.list (start + 2 * k + 1) 0

        go : (o : Option ℕ) → name_of (node t key) ≡ o → (b : Bool) → eqb value absent ≡ b → Good t root (λ u o. Kept m o) (λ F. lower_entry t (E F) d key value o) m
        go (Some name) q true z =
            rw z
            (chain (child_good key pk None m s tt) (λ src m1 a.
            chain (store_good (Operand.String name) m1 (name_owned key name (reach key pk) q)) (λ k m2 b.
            relax (emit_good (Instruction.SetPropertyKR (reg_of d) k (reg_of src)) m2
            (register_ready_small m d r, b.inside, register_ready_small m1 src a.ready))
            (λ p o e. kept_trans a.kept (kept_trans b.kept e.kept)))))
        go (Some name) q false z =
            rw z
            (chain (good value (pv (eqb-false value absent z)) None m s tt) (λ src m1 a.
            chain (store_good (Operand.String name) m1 (name_owned key name (reach key pk) q)) (λ k m2 b.
            let k2 : Kept m m2 = kept_trans a.kept b.kept in
            named_entry d k (source src) (register_ready_later d k2 r) b.inside k2 (operand_later m None (source src) b.kept a.answer))))
        go None q true z = rw z (stopped (error Refusal.Key key (span_start t key) (span_end t key)) (Own.no_value k reached e h q (eqb-true value absent z)))
        go None q false z =
            rw z
            (chain (good key pk None m s tt) (λ x m1 a.
            chain (good value (pv (eqb-false value absent z)) None m1 (a.kept.sound s) tt) (λ y m2 b.
            keyed_entry d (source x) (source y) (register_ready_later d (kept_trans a.kept b.kept) r) a.kept b.kept a.answer b.answer)))

    -- n entries of the map at node i, from entry k on
    entries_good : (i : ℕ) {start count : ℕ} → Reaches t root i → node t i ≡ Node.Map start count →
        ((k : ℕ) → k < count → P (get_or t.list (start + 2 * k) 0)) →
        ((k : ℕ) → k < count → get_or t.list (start + 2 * k + 1) 0 ≢ absent → P (get_or t.list (start + 2 * k + 1) 0)) →
        (d : Register) (n k : ℕ) → k + n ≤ count → (m : Made) → Sound (registers_of m) → RegisterReady m d →
        Good t root (λ u o. Kept m o) (λ F. lower_entries t (E F) d start n k) m
    unfolding lower_entries
    entries_good i reached e pk pv d zero k h m s r = done tt (kept_refl m)
    entries_good i reached e pk pv d (suc n) k h m s r =
        chain (entry_good i k reached e (omega arith) (pk k (omega arith)) (pv k (omega arith)) d m s r) (λ a m1 k1.
        relax (entries_good i reached e pk pv d n (suc k) (omega arith) m1 (k1.sound s) (register_ready_later d k1 r)) (λ u o c. kept_trans k1 c))

    else_good : (i c a branch : ℕ) → Reaches t root i → node t i ≡ Node.If c a branch → (branch ≢ absent → P branch) → (d : Register) (m : Made) →
        Sound (registers_of m) → RegisterReady m d → Good t root (Settled m (Some d)) (λ F. lower_else t (E F) i branch d) m
    unfolding lower_else
    else_good i c a branch reached e p d m s r = go (eqb branch absent) refl
      where
        go : (b : Bool) → eqb branch absent ≡ b →
            Good t root (Settled m (Some d)) (λ F. cond b (λ y. stops (error Refusal.Else i (span_start t i) (span_end t i)) y) (lower_materializing (E F branch) (Some d))) m
        go true z = stopped (error Refusal.Else i (span_start t i) (span_end t i)) (Own.without_else reached (e ∙ ap (λ x. Node.If c a x) (eqb-true branch absent z)))
        go false z = child_good branch (p (eqb-false branch absent z)) (Some d) m s r

    tail_good : (i tail : ℕ) → Reaches t root i → node t i ≡ Node.Block tail → (tail ≢ absent → P tail) → (d : Register) (m : Made) →
        Sound (registers_of m) → RegisterReady m d → Good t root (Settled m (Some d)) (λ F. lower_tail t (E F) tail d) m
    unfolding lower_tail constant_of_node
    tail_good i tail reached e p d m s r = go (eqb tail absent) refl
      where
        go : (b : Bool) → eqb tail absent ≡ b →
            Good t root (Settled m (Some d)) (λ F. cond b (load_constant Operand.Nil (Some d)) (lower_materializing (E F tail) (Some d))) m
        go true z = load_good Operand.Nil (record { owner = i; reached = reached; its = ap constant_of_node e ∙ rw z }) m (Some d) r
        go false z = child_good tail (p (eqb-false tail absent z)) (Some d) m s r

    -- and, or: by the jump between
    logical_good : (jump : ℕ → Instruction) → ((top a : ℕ) → a < 256 → Narrow top (words_of (jump a))) → ((a : ℕ) → JumpKind (get_or (words_of (jump a)) 0 0)) →
        (left right : ℕ) → P left → P right → (dest : Option Register) (m : Made) → Sound (registers_of m) → DestReady m dest →
        Good t root (LoweredOperand m dest)
        (λ F. destination dest >>= (λ d. lower_materializing (E F left) (Some d) >>= (λ src. emit (jump (reg_of src)) >>= (λ j.
        lower_materializing (E F right) (Some d) >> (patch_to_next j >> ret (Operand.Register d)))))) m
    logical_good jump fits jumps left right pl pr dest m s g =
        chain (destination_good m dest g) (λ d m0 a.
        let s0 : Sound (registers_of m0) = a.kept.sound s in
        chain (child_good left pl (Some d) m0 s0 a.ready) (λ src m1 b.
        chain (emit_good (jump (reg_of src)) m1 (fits (constants_of m1) (reg_of src) (register_ready_small m1 src b.ready))) (λ j m2 e.
        let k2 : Kept m0 m2 = kept_trans b.kept e.kept in
        chain (child_good right pr (Some d) m2 (k2.sound s0) (register_ready_later d k2 a.ready)) (λ r m3 c.
        let kind : kind_at m3 j ≡ get_or (words_of (jump (reg_of src))) 0 0 = c.kept.kinds j e.inside ∙ e.kind in
        chain (patch_good j m3 (lt_of_lt_of_le e.inside c.kept.more) (rw kind (jumps (reg_of src)))) (λ u m4 q.
        let k4 : Kept m0 m4 = kept_trans k2 (kept_trans c.kept q.kept) in
        done (Operand.Register d) (settled_operand (record { kept = kept_trans a.kept k4; spot = a.spot; ready = register_ready_later d k4 a.ready })))))))

    -- ---- a node
    module _ (J : GiveBack → ℕ → Walk ℕ) (jumps : (i : ℕ) → P i → (m : Made) → Sound (registers_of m) → Good t root (JumpMade m) (λ F. J F i) m) (few : length t.names ≤ 256) where
      literal : {m : Made} {dest : Option Register} (i : ℕ) (x c : Operand) → Reaches t root i → source x ≡ constant c → constant_of_node (node t i) ≡ Some c → LoweredOperand m dest x m
      literal {m} {dest} i x c reached e q = record { kept = kept_refl m; answer = subst (λ y. OperandStands m dest m y) (sym e) (record { owner = i; reached = reached; its = q }) }

      -- a destination, one operand and an instruction on it
      single_good : (f : ℕ → ℕ → Instruction) → ((top d a : ℕ) → d < 256 → a < 256 → Narrow top (words_of (f d a))) → (x : ℕ) → P x →
          (dest : Option Register) (m : Made) → Sound (registers_of m) → DestReady m dest →
          Good t root (LoweredOperand m dest)
          (λ F. destination dest >>= (λ d. lower_materializing (E F x) None >>= (λ src. emit (f (reg_of d) (reg_of src)) >> (F src >> ret (Operand.Register d))))) m
      single_good f fits x p dest m s g =
          chain (destination_good m dest g) (λ d m0 a.
          chain (child_good x p None m0 (a.kept.sound s) tt) (λ src m1 b.
          one_good (f (reg_of d) (reg_of src)) d src a b.kept b.spot b.ready (kept_refl m1) s
          (fits (constants_of m1) (reg_of d) (reg_of src) (register_ready_small m0 d a.ready) (register_ready_small m1 src b.ready))))

      if_good : (i c a branch : ℕ) → Reaches t root i → node t i ≡ Node.If c a branch → P c → P a → (branch ≢ absent → P branch) →
          (dest : Option Register) (m : Made) → Sound (registers_of m) → DestReady m dest → Good t root (LoweredOperand m dest) (λ F. lower_node F t (E F) (J F) i (Node.If c a branch) dest) m
      unfolding lower_node words_of
      if_good i c a branch reached e pc pa pb dest m s g =
          chain (jumps c pc m s) (λ j m1 jm.
          let s1 : Sound (registers_of m1) = jm.kept.sound s in
          chain (destination_good m1 dest (dest_ready_later dest jm.kept g)) (λ d m2 b.
          let s2 : Sound (registers_of m2) = b.kept.sound s1 in
          chain (child_good a pa (Some d) m2 s2 b.ready) (λ r m3 q.
          chain (emit_good (Instruction.Jump 0) m3 (omega arith, omega arith, omega arith)) (λ end m4 h.
          let k24 : Kept m2 m4 = kept_trans q.kept h.kept in
          let k14 : Kept m1 m4 = kept_trans b.kept k24 in
          let first_kind : kind_at m4 j ≡ kind_at m1 j = k14.kinds j jm.inside in
          chain (patch_good j m4 (lt_of_lt_of_le jm.inside k14.more) (rw first_kind jm.kind)) (λ u m5 p5.
          let k25 : Kept m2 m5 = kept_trans k24 p5.kept in
          chain (else_good i c a branch reached e pb d m5 (k25.sound s2) (register_ready_later d k25 b.ready)) (λ r2 m6 z.
          let k46 : Kept m4 m6 = kept_trans p5.kept z.kept in
          let end_kind : kind_at m6 end ≡ 41 = k46.kinds end h.inside ∙ h.kind in
          chain (patch_good end m6 (lt_of_lt_of_le h.inside k46.more) (rw end_kind (record { low = omega arith; high = omega arith }))) (λ v m7 p7.
          let k27 : Kept m2 m7 = kept_trans k24 (kept_trans k46 p7.kept) in
          done (Operand.Register d) (settled_operand (record {
            kept = kept_trans jm.kept (kept_trans b.kept k27);
            spot = may_stand_before dest d jm.kept b.spot;
            ready = register_ready_later d k27 b.ready;
          })))))))))

      call_good : (i callee start count : ℕ) → Reaches t root i → node t i ≡ Node.FunctionCall callee start count → count ≤ 255 → P callee →
          ((k : ℕ) → k < count → P (get_or t.list (start + k) 0)) → (dest : Option Register) (m : Made) → Sound (registers_of m) → DestReady m dest →
          Good t root (LoweredOperand m dest) (λ F. lower_node F t (E F) (J F) i (Node.FunctionCall callee start count) dest) m
      unfolding lower_node words_of
      call_good i callee start count reached e small pc pa dest m s g =
          chain (arguments_good i reached e small pa count 0 (omega arith) m s) (λ u m1 k1.
          relax (single_good (λ d a. Instruction.Call d a count) (λ top d a x y. (x, y, omega arith)) callee pc dest m1 (k1.sound s) (dest_ready_later dest k1 g))
          (λ x n l. record { kept = kept_trans k1 l.kept; answer = operand_before n dest (source x) k1 l.answer }))

      pub node_good : (i : ℕ) (n : Node) → Reaches t root i → node t i ≡ n → InRange (length t.list) n → ((c : ℕ) → Named c (children t.list n) → P c) →
          (dest : Option Register) (m : Made) → Sound (registers_of m) → DestReady m dest → Good t root (LoweredOperand m dest) (λ F. lower_node F t (E F) (J F) i n dest) m
      unfolding lower_node children constant_of_node source words_of
      node_good i (Node.Number low high) reached e f p dest m s g = done _ (literal i _ _ reached refl (ap constant_of_node e))
      node_good i (Node.String symbol) reached e f p dest m s g = done _ (literal i _ _ reached refl (ap constant_of_node e))
      node_good i (Node.Boolean b) reached e f p dest m s g = done _ (literal i _ _ reached refl (ap constant_of_node e))
      node_good i Node.Nil reached e f p dest m s g = done _ (literal i _ _ reached refl (ap constant_of_node e))
      node_good i (Node.Identifier symbol) reached e f p dest m s g = named_good i symbol reached e few dest m g
      node_good i (Node.Binary op left right) reached e f p dest m s g =
          chain (destination_good m dest g) (λ d m0 a.
          let s0 : Sound (registers_of m0) = a.kept.sound s in
          chain (good left (p left first) None m0 s0 tt) (λ x m1 b.
          chain (good right (p right (later first)) None m1 (b.kept.sound s0) tt) (λ y m2 c.
          binary_good op left right (p left first) (p right (later first)) d (source x) (source y) a b.kept c.kept b.answer c.answer s)))
      node_good i (Node.Unary op x) reached e f p dest m s g = single_good (unary op) (λ top d a h k. narrow_unary top d a a h k op) x (p x first) dest m s g
      node_good i (Node.LogicalNot x) reached e f p dest m s g = single_good (λ d a. Instruction.Not d a) (λ top d a h k. (h, k, omega arith)) x (p x first) dest m s g
      node_good i (Node.LogicalAnd left right) reached e f p dest m s g =
          logical_good (λ a. Instruction.JumpIfFalse a 0) (λ top a h. (h, omega arith, omega arith)) (λ a. record { low = omega arith; high = omega arith })
          left right (p left first) (p right (later first)) dest m s g
      node_good i (Node.LogicalOr left right) reached e f p dest m s g =
          logical_good (λ a. Instruction.JumpIfTrue a 0) (λ top a h. (h, omega arith, omega arith)) (λ a. record { low = omega arith; high = omega arith })
          left right (p left first) (p right (later first)) dest m s g
      node_good i (Node.If c a branch) reached e f p dest m s g =
          if_good i c a branch reached e (p c first) (p a (later first)) (λ h. p branch (later (later (named_present branch h)))) dest m s g
      node_good i (Node.Block tail) reached e f p dest m s g =
          chain (destination_good m dest g) (λ d m0 a.
          chain (tail_good i tail reached e (λ h. p tail (named_present tail h)) d m0 (a.kept.sound s) a.ready) (λ r m1 b.
          done (Operand.Register d) (settled_operand (record { kept = kept_trans a.kept b.kept; spot = a.spot; ready = register_ready_later d b.kept a.ready }))))
      node_good i (Node.FunctionCall callee start count) reached e f p dest m s g =
          call_good i callee start count reached e f.1 (p callee first) (λ k h. p _ (later (argument k h))) dest m s g
        where
          argument : (k : ℕ) → k < count → Named (get_or t.list (start + k) 0) (take count (drop start t.list))
          argument k h =
              let size : length (take count (drop start t.list)) ≡ count = simp (length-take, length-drop) (omega (arith, f.0)) in
              rw (get_or-take, get_or-drop) at (named_at (take count (drop start t.list)) k (omega arith))
      node_good i (Node.PropertyAccess x property) reached e f p dest m s g =
          chain (destination_good m dest g) (λ d m0 a.
          chain (child_good x (p x first) None m0 (a.kept.sound s) tt) (λ src m1 b.
          chain (store_good (Operand.String property) m1 (record { owner = i; reached = reached; its = ap constant_of_node e })) (λ k m2 q.
          one_good (Instruction.GetPropertyK (reg_of d) (reg_of src) k) d src a b.kept b.spot b.ready q.kept s
          (register_ready_small m0 d a.ready, register_ready_small m1 src b.ready, q.inside))))
      node_good i (Node.Map start count) reached e f p dest m s g =
          chain (destination_good m dest g) (λ d m0 a.
          chain (emit_good (Instruction.CreateMap (reg_of d)) m0 (register_ready_small m0 d a.ready, omega arith, omega arith)) (λ q m1 b.
          let k1 : Kept m m1 = kept_trans a.kept b.kept in
          chain (entries_good i reached e (λ k h. p _ (key k h)) (λ k h z. p _ (value k h z)) d count 0 (omega arith) m1 (k1.sound s) (register_ready_later d b.kept a.ready)) (λ u m2 c.
          let k2 : Kept m0 m2 = kept_trans b.kept c in
          done (Operand.Register d) (settled_operand (record { kept = kept_trans a.kept k2; spot = a.spot; ready = register_ready_later d k2 a.ready })))))
        where
          size : length (take (2 * count) (drop start t.list)) ≡ 2 * count
          size = simp (length-take, length-drop) (omega arith)

          key : (k : ℕ) → k < count → Named (get_or t.list (start + 2 * k) 0) (entry_nodes (take (2 * count) (drop start t.list)))
          key k h =
              let near : 2 * k < 2 * count = omega arith in
              subst (λ x. Named x (entry_nodes (take (2 * count) (drop start t.list))))
              (get_or-take (2 * count) (drop start t.list) (2 * k) 0 near ∙ get_or-drop start t.list (2 * k) 0)
              (named_key (take (2 * count) (drop start t.list)) k (omega (arith, size)))

          value : (k : ℕ) → k < count → get_or t.list (start + 2 * k + 1) 0 ≢ absent →
              Named (get_or t.list (start + 2 * k + 1) 0) (entry_nodes (take (2 * count) (drop start t.list)))
          value k h z =
              let near : 2 * k + 1 < 2 * count = omega arith in
              let place : start + (2 * k + 1) ≡ start + 2 * k + 1 = omega arith in
              let same : get_or (take (2 * count) (drop start t.list)) (2 * k + 1) 0 ≡ get_or t.list (start + 2 * k + 1) 0 =
              get_or-take (2 * count) (drop start t.list) (2 * k + 1) 0 near ∙ get_or-drop start t.list (2 * k + 1) 0 ∙ ap (λ x. get_or t.list x 0) place in
              subst (λ x. Named x (entry_nodes (take (2 * count) (drop start t.list)))) same
              (named_value (take (2 * count) (drop start t.list)) k (omega (arith, size)) (λ w. z (sym same ∙ w)))

    -- ---- a condition
    tested_good : (sense : Bool) (own : GiveBack → Option Register → Walk Operand) {m₀ : Made} (m : Made) → Kept m₀ m → Good t root (LoweredOperand m None) (λ F. own F None) m →
        Good t root (JumpMade m₀) (λ F. test t (E F) sense (own F)) m
    unfolding test
    tested_good sense own {m₀} m k h =
        chain (materializing_good own None m tt h) (λ src n a.
        relax (emit_good (jump_if sense (reg_of src)) n (narrow_jump_if (constants_of n) (reg_of src) (register_ready_small n src a.ready) sense))
        (λ j o e. record { kept = kept_trans k (kept_trans a.kept e.kept); inside = e.inside; kind = rw e.kind (kind_jump_if (reg_of src) sense) }))

    fused_sources_lem : (sense : Bool) (own : GiveBack → Option Register → Walk Operand) (c : Comparison) (x y : Source) {m₀ m1 m2 : Made} → Kept m₀ m1 → Kept m1 m2 →
        OperandStands m₀ None m1 x → OperandStands m1 None m2 y → Good t root (LoweredOperand m2 None) (λ F. own F None) m2 →
        Good t root (JumpMade m₀) (λ F. fused_sources t (E F) sense (own F) c x y) m2
    unfolding fused_sources
    fused_sources_lem sense own c (register a) (register b) {m₀} {m1} {m2} k1 k2 ha hb h =
        relax (emit_good (jump_rr sense c (reg_of a) (reg_of b)) m2
        (narrow_jump_RR (constants_of m2) (reg_of a) (reg_of b) (reg_of b) (register_ready_small m1 a ha.1) (register_ready_small m2 b hb.1) sense c))
        (λ j o e. record { kept = kept_trans k1 (kept_trans k2 e.kept); inside = e.inside; kind = rw e.kind (kind_jump_RR (reg_of a) (reg_of b) sense c) })
    fused_sources_lem sense own c (register a) (constant b) {m₀} {m1} {m2} k1 k2 ha hb h =
        chain (store_good b m2 hb) (λ k m3 q.
        relax (emit_good (jump_rk sense c (reg_of a) k) m3 (narrow_jump_RK (constants_of m3) (reg_of a) k (register_ready_small m1 a ha.1) q.inside sense c))
        (λ j o e. record { kept = kept_trans k1 (kept_trans k2 (kept_trans q.kept e.kept)); inside = e.inside; kind = rw e.kind (kind_jump_RK (reg_of a) k sense c) }))
    fused_sources_lem sense own c (constant a) (register b) {m₀} {m1} {m2} k1 k2 ha hb h =
        chain (store_good a m2 ha) (λ k m3 q.
        relax (emit_good (jump_kr sense c k (reg_of b)) m3 (narrow_jump_KR (constants_of m3) (reg_of b) k (register_ready_small m2 b hb.1) q.inside sense c))
        (λ j o e. record { kept = kept_trans k1 (kept_trans k2 (kept_trans q.kept e.kept)); inside = e.inside; kind = rw e.kind (kind_jump_KR k (reg_of b) sense c) }))
    fused_sources_lem sense own c (constant a) (constant b) {m2 = m2} k1 k2 ha hb h = tested_good sense own m2 (kept_trans k1 k2) h

    -- own: the condition's own lowering
    module _ (sense : Bool) (own : GiveBack → Option Register → Walk Operand) (owns : (m : Made) → Sound (registers_of m) → Good t root (LoweredOperand m None) (λ F. own F None) m) where
      fused_good : (c : Option Comparison) (left right : ℕ) → P left → P right → (m : Made) → Sound (registers_of m) →
          Good t root (JumpMade m) (λ F. fuse t (E F) sense (own F) c left right) m
      unfolding fuse
      fused_good None left right pl pr m s = tested_good sense own m (kept_refl m) (owns m s)
      fused_good (Some c) left right pl pr m s =
          chain (good left pl None m s tt) (λ x m1 a.
          let s1 : Sound (registers_of m1) = a.kept.sound s in
          chain (good right pr None m1 s1 tt) (λ y m2 b.
          fused_sources_lem sense own c (source x) (source y) a.kept b.kept a.answer b.answer (owns m2 (b.kept.sound s1))))

      pub jump_good : (n : Node) → ((c : ℕ) → Named c (children t.list n) → P c) → (m : Made) → Sound (registers_of m) →
          Good t root (JumpMade m) (λ F. jump_node t (E F) sense (own F) n) m
      unfolding jump_node children
      jump_good (Node.Number low high) p m s = tested_good sense own m (kept_refl m) (owns m s)
      jump_good (Node.String symbol) p m s = tested_good sense own m (kept_refl m) (owns m s)
      jump_good (Node.Boolean b) p m s = tested_good sense own m (kept_refl m) (owns m s)
      jump_good Node.Nil p m s = tested_good sense own m (kept_refl m) (owns m s)
      jump_good (Node.Identifier symbol) p m s = tested_good sense own m (kept_refl m) (owns m s)
      jump_good (Node.Binary op l r) p m s = fused_good (comparison op) l r (p l first) (p r (later first)) m s
      jump_good (Node.Unary op x) p m s = tested_good sense own m (kept_refl m) (owns m s)
      jump_good (Node.LogicalNot x) p m s = tested_good sense own m (kept_refl m) (owns m s)
      jump_good (Node.LogicalAnd l r) p m s = tested_good sense own m (kept_refl m) (owns m s)
      jump_good (Node.LogicalOr l r) p m s = tested_good sense own m (kept_refl m) (owns m s)
      jump_good (Node.If c a b) p m s = tested_good sense own m (kept_refl m) (owns m s)
      jump_good (Node.Block tail) p m s = tested_good sense own m (kept_refl m) (owns m s)
      jump_good (Node.FunctionCall c f n) p m s = tested_good sense own m (kept_refl m) (owns m s)
      jump_good (Node.PropertyAccess x symbol) p m s = tested_good sense own m (kept_refl m) (owns m s)
      jump_good (Node.Map f n) p m s = tested_good sense own m (kept_refl m) (owns m s)
