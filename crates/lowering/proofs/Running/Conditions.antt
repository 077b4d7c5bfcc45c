-- A condition, of either sense, and the if keep the promise, if their children do. Assumes nothing.
use Rattle.std.specs.Prelude.{Option, Some, None}
use Prim.Native.Nat.{ℕ, suc, ◌+◌, ◌-◌, ◌≤◌, ◌<◌}
use native.Mathlib.Omega.{arith}
use native.Mathlib.Nat.{le_refl}
use mathlib.Core.Path.{◌≡◌, refl, sym, ap, ◌∙◌, subst, subst₂}
use mathlib.Core.Bool.{Bool, true, false, cond, beq}
use mathlib.Core.List.{[], ◌∷◌}
use lib.Dec.{eqb}
use lib.ListN.{get_or}
use Rattle.diagnostics.specs.declared.Refusal.{Refusal}
use Rattle.environment.specs.declared.Register.{Register}
use Rattle.syntax.specs.declared.ast.Node.{Node}
use Rattle.syntax.specs.declared.ops.BinaryOp.{BinaryOp}
use Rattle.syntax.specs.declared.ops.Comparison.{Comparison}
use Rattle.syntax.specs.Ast.{absent}
use Rattle.runtime.specs.declared.instruction.Instruction.{Instruction}
use Rattle.runtime.specs.declared.operand.Operand.{Operand}
use Rattle.runtime.specs.Operands.{reg_of}
use Rattle.runtime.specs.Instruction.{words_of, decode, offset_word}
use Rattle.runtime.specs.Value.{constant_words}
use Rattle.lowering.specs.Tree.{Tree, present}
use Rattle.lowering.specs.Walk.{Made, Walk}
use Rattle.lowering.specs.Operators.{comparison, jump_rr, jump_rk, jump_kr, jump_if}
use Rattle.lowering.specs.Steps.{free_temp}
use Rattle.lowering.specs.Lower.{Source, source, lower_materializing, lower_else, lower_node, refuse, test, fused_sources, fuse}
use Rattle.lowering.specs.Meaning.{Operators, Hypotheses, truth, OrderAt, Evaluation, undefined, given, and_then, IfAny, operate, tests, Chosen, AtRoot, Named, first, total}
use Rattle.lowering.specs.Machine.{target, Ending, failed, Registers, action, act, onward, branch, step_at}
use Rattle.lowering.specs.Trace.{JumpKind}
use Rattle.lowering.proofs.Running.Decode.{constant_words_lem, aim}
use Rattle.lowering.proofs.Running.Steps.{Holds, fine, void, chain, weaken, count, instruction_at, Room, Grown, grown_refl, grown_trans, grown_at, InstructionPut, OffsetPut, emit_holds, patch_holds, pool_holds}
use Rattle.lowering.proofs.Walk.InstructionsFit.{kind_jump_RR, kind_jump_RK, kind_jump_KR, kind_jump_if}
use Rattle.lowering.proofs.Running.MachineRuns.{After, after_bind, ask_bind, after_map, after_ask, Known, known_bind, known_given, after_pair, sensed, after_sensed, premise_pair, premise_map, after_truth, after_given, World, up, Run, Onto, run_moved, step_words, target_forward, run_goes, run_jump, asked, OrderOf, Branches, sense_RR, sense_RK, sense_KR}
use Rattle.lowering.proofs.Running.Promise.{Final, earlier, past_patch, Spot, Target, Owns, grown_owns, Aimed, destination_good, Params, Keeps, Onward, params_kept, LoweredInto, Expr, literal, materialized_good}
use Rattle.lowering.proofs.Running.Nodes.{loose_back, Den, operand_ready, Couple, couple, Pools, resized, sense_tests, AsOperand, as_operand, good_M}

module _ (M : Operators) (args : ℕ → M.Value) (arity : ℕ) where
  -- a condition: a jump at place j, to be patched, goes to a goal where the test gives `sense`, else one on
  pub record Jumped (sense : Bool) (m : Made) (s : ℕ) (fair : Type 0) (ans : Evaluation M.Failure M.Value) (j : ℕ) (m' : Made) : Type 0 where
    pub grown : Grown (count m) m m'
    pub start : count m ≤ j
    pub level : count m' ≡ suc j
    pub short : count m' ≤ count m + s + 1
    pub known : Known ans
    pub jump : JumpKind (get_or (instruction_at m' j) 0 0)
    pub sim : (laws : Hypotheses M) (w : World M) (k goal : ℕ) → target (w.base + j) k ≡ Some goal → Final w (count m) j m' →
        w.code (w.base + j) ≡ decode (aim k (instruction_at m' j)) → w.base + j < w.limit → (R : Registers M) (e : Ending M) → Params M args arity R → fair →
        After (λ v. After (λ b. (R' : Registers M) → Keeps M args arity m None R R' → Onto M arity w (w.base + j) (cond (beq b sense) goal (w.base + suc j)) R' e)
        (λ x. e ≡ failed x) (given (M.test v))) (λ x. e ≡ failed x) ans →
        Run M arity w (w.base + count m) R e

target_later : (arity : ℕ) (dest : Option Register) {b : ℕ} {m m' : Made} → Grown b m m' → Target arity m dest → Target arity m' dest
target_later arity None g t = tt
target_later arity (Some d) g t = (t.0, g.held (reg_of d) t.1)

spot_back : (arity : ℕ) (dest : Option Register) {b : ℕ} {m m' : Made} (r : Register) → Grown b m m' → Spot arity dest m' r → Spot arity dest m r
spot_back arity None r g s = loose_back arity r g s
spot_back arity (Some d) r g s = s

by_bool : (b : Bool) (Q P : Bool → Type 0) → (Q true → P true) → (Q false → P false) → Q b → P b
by_bool true Q P f g h = f h
by_bool false Q P f g h = g h

module _ (M : Operators) (t : Tree) (args : ℕ → M.Value) (arity : ℕ) (sense : Bool) where
  -- a register tested
  pub tested_good : (E : ℕ → Option Register → Walk Operand) {m : Made} {s : ℕ} {fair C : Type 0} {ans : Evaluation M.Failure M.Value} (own : Option Register → Walk Operand) → Owns arity m →
      Holds (AsOperand M t args arity m None s fair ans) (own None m) → Holds (Jumped M args arity sense m s (fair × C) ans) (test t E sense own m)
  unfolding test lower_materializing
  tested_good E {m} {s} {fair} {C} {ans} own o h =
      chain (chain h (λ u m1 x. materialized_good M args arity {m = m} {dest = None} o tt x)) (λ r m2 q.
      weaken (emit_holds (jump_if sense (reg_of r)) m2) (λ j m3 g.
      let l1 = q.grown.kept.more in
      let l2 = q.short in
      let l3 = g.level in
      let jj = g.which in
      record {
        grown = grown_trans l1 q.grown g.grown;
        start = omega arith;
        level = omega arith;
        short = omega arith;
        known = q.known;
        jump = subst (λ x. JumpKind (get_or x 0 0)) (sym (g.there j jj)) (kind_jump_if (reg_of r) sense);
        sim = λ laws w k goal to f fj inside R e pr fa kk.
            let f2 : Final w (count m) (count m2) m2 = earlier (le_refl _) (omega arith) (le_refl _) g.grown.kept f in
            q.sim laws w f2 R e pr fa.0 (after_map kk
            (λ v kv R1 d1 p1. run_moved M arity w (omega arith)
            (run_goes M arity w (M.test v) (λ b. beq b sense) k (w.base + j) goal (w.base + suc j) R1
            (step_words M arity w (aim k (words_of (jump_if sense (reg_of r)))) (w.base + j) R1 (fj ∙ ap (λ x. decode (aim k x)) (g.there j jj))
            ∙ sense_tests M w.consts w.code sense (reg_of r) k (w.base + j) R1
            ∙ ap (λ x. onward M w.consts (M.test x) (λ b. branch M w.consts (beq b sense) k (w.base + j) R1)) d1)
            inside to (omega arith)
            (after_map kv (λ b kb. kb R1 p1)))));
      }))

  -- a fused jump, its operands ready and its constant pooled
  fused_jumped : (op : BinaryOp) (c : Comparison) (i : Instruction) →
      ((a b : M.Value) → operate M op a b ≡ truth M (asked M c a b)) → ((a b : M.Value) → OrderAt M t args op a b → OrderOf M c a b) →
      {m m2 m3 m4 : Made} {x y : Source} {s j : ℕ} {fair : Type 0} {r q : Evaluation M.Failure M.Value} →
      Couple M args arity m s fair r q x y m2 → Grown (count m2) m2 m3 → count m3 ≡ count m2 → InstructionPut i m3 j m4 →
      ((laws : Hypotheses M) (w : World M) (k p : ℕ) (R : Registers M) (a b : M.Value) → Pools M args arity w m3 → Den M args arity x w R a → Den M args arity y w R b →
      AtRoot sense (OrderOf M c a b) →
      Branches M w.consts w.code i k p R (sensed sense (asked M c a b))) →
      JumpKind (get_or (words_of i) 0 0) →
      Jumped M args arity sense m (1 + (s + 0)) (fair × AtRoot sense (IfAny (λ a. IfAny (λ b. OrderAt M t args op a b) q) r)) (and_then r (λ a. and_then q (λ b. given (operate M op a b)))) j m4
  fused_jumped op c i asks orders {m} {m2} {m3} {m4} {x} {y} {s} {j} {fair} {r} {q} cp g3 l3 g acts kind =
      let l1 = cp.grown.kept.more in
      let l2 = cp.short in
      let l4 = g.level in
      let jj = g.which in
      record {
        grown = grown_trans l1 cp.grown (grown_trans (omega arith) g3 g.grown);
        start = omega arith;
        level = omega arith;
        short = omega arith;
        known = known_bind r _ cp.known_left (λ u. known_bind q _ cp.known_right (λ v. known_given (operate M op u v)));
        jump = subst (λ x. JumpKind (get_or x 0 0)) (sym (g.there j jj)) kind;
        sim = λ laws w k goal to f fj inside R e pr fa kk.
            let f3 : Final w (count m) (count m3) m3 = earlier (le_refl _) (omega arith) (le_refl _) g.grown.kept f in
            let f2 : Final w (count m) (count m2) m2 = earlier (le_refl _) (omega arith) (le_refl _) g3.kept f3 in
            cp.sim laws w f2 R e pr fa.0
            (after_ask (after_pair r q (λ u v. given (operate M op u v)) kk) (premise_pair (λ a b. OrderAt M t args op a b) sense r q fa.1)
            (λ v kv ov R1 d1 p1. run_moved M arity w (omega arith)
            (run_goes M arity w (sensed sense (asked M c v.0 v.1)) (λ b. b) k (w.base + j) goal (w.base + suc j) R1
            (step_words M arity w (aim k (words_of i)) (w.base + j) R1 (fj ∙ ap (λ z. decode (aim k z)) (g.there j jj))
            ∙ acts laws w k (w.base + j) R1 v.0 v.1 f3.pools d1.0 d1.1 (premise_map sense (orders v.0 v.1) ov))
            inside to (omega arith)
            (after_sensed sense (λ n. Onto M arity w (w.base + j) n R1 e) goal (w.base + suc j) (asked M c v.0 v.1)
            (after_map (after_truth M (asked M c v.0 v.1) (rw (asks v.0 v.1) at kv))
            (λ b kb. after_given (laws.boolean_tests b) kb R1 p1))))));
      }

  module _ (E : ℕ → Option Register → Walk Operand) (W : ℕ → Evaluation M.Failure M.Value) (S : ℕ → ℕ) (A : ℕ → Type 0) (P : ℕ → Type 0)
      (good : (i : ℕ) → P i → (dest : Option Register) (m : Made) → Owns arity m → Target arity m dest → Holds (AsOperand M t args arity m dest (S i) (A i) (W i)) (E i dest m)) where
    -- what a binary condition promises
    abbrev TwoJumped : BinaryOp → ℕ → ℕ → Made → ℕ → Made → Type 0
    TwoJumped op l r m =
        Jumped M args arity sense m (1 + (S l + (S r + 0))) ((A l × IfAny (λ a. A r) (W l)) × AtRoot sense (IfAny (λ a. IfAny (λ b. OrderAt M t args op a b) (W r)) (W l)))
        (and_then (W l) (λ a. and_then (W r) (λ b. given (operate M op a b))))

    -- what its own lowering promises
    abbrev TwoLowered : BinaryOp → ℕ → ℕ → Made → Operand → Made → Type 0
    TwoLowered op l r m =
        AsOperand M t args arity m None (1 + (S l + (S r + 0))) (A l × IfAny (λ a. A r) (W l)) (and_then (W l) (λ a. and_then (W r) (λ b. given (operate M op a b))))

    resized_jump : {m m' : Made} {s z j : ℕ} {fair : Type 0} {ans : Evaluation M.Failure M.Value} → s ≤ z → Jumped M args arity sense m s fair ans j m' → Jumped M args arity sense m z fair ans j m'
    resized_jump l q =
        let s = q.short in
        record { grown = q.grown; start = q.start; level = q.level; short = omega arith; known = q.known; jump = q.jump; sim = q.sim }

    fused_sources_lem : (op : BinaryOp) (c : Comparison) → ((a b : M.Value) → operate M op a b ≡ truth M (asked M c a b)) →
        ((a b : M.Value) → OrderAt M t args op a b → OrderOf M c a b) → (l r : ℕ) (x y : Source) {m m1 m2 : Made} (own : Option Register → Walk Operand) → Owns arity m →
        Holds (TwoLowered op l r m) (own None m) →
        Expr M args arity m None (S l) (A l) (W l) x m1 → Expr M args arity m1 None (S r) (A r) (W r) y m2 →
        Holds (TwoJumped op l r m) (fused_sources t E sense own c x y m2)
    unfolding fused_sources
    fused_sources_lem op c asks orders l r (Source.register u) (Source.register v) {m} {m1} {m2} own o h ex ey =
        weaken (emit_holds (jump_rr sense c (reg_of u) (reg_of v)) m2) (λ j m4 g.
        resized_jump (omega arith) (fused_jumped op c (jump_rr sense c (reg_of u) (reg_of v)) asks orders
        (couple M args arity o (operand_ready M args arity ex) (operand_ready M args arity ey)) (grown_refl _ m2) refl g
        (λ laws w k p R a b pools da db ord.
        subst₂ (λ a b. AtRoot sense (OrderOf M c a b) → Branches M w.consts w.code (jump_rr sense c (reg_of u) (reg_of v)) k p R (sensed sense (asked M c a b))) da db
        (sense_RR M laws w.consts w.code sense c k p (reg_of u) (reg_of v) R) ord)
        (kind_jump_RR (reg_of u) (reg_of v) sense c)))
    fused_sources_lem op c asks orders l r (Source.register u) (Source.constant b) {m} {m1} {m2} own o h ex ey =
        let cp = couple M args arity o (operand_ready M args arity ex) (operand_ready M args arity ey) in
        chain (pool_holds b m2) (λ n m3 pb.
        weaken (emit_holds (jump_rk sense c (reg_of u) n) m3) (λ j m4 g.
        resized_jump (omega arith) (fused_jumped op c (jump_rk sense c (reg_of u) n) asks orders cp pb.grown pb.level g
        (λ laws w k p R a a' pools da db ord.
        subst₂ (λ a b. AtRoot sense (OrderOf M c a b) → Branches M w.consts w.code (jump_rk sense c (reg_of u) n) k p R (sensed sense (asked M c a b))) da db
        (sense_RK M laws w.consts w.code sense c k p (reg_of u) n R (pools n (constant_words b) pb.has ∙ constant_words_lem M b cp.usable_right)) ord)
        (kind_jump_RK (reg_of u) n sense c))))
    fused_sources_lem op c asks orders l r (Source.constant b) (Source.register v) {m} {m1} {m2} own o h ex ey =
        let cp = couple M args arity o (operand_ready M args arity ex) (operand_ready M args arity ey) in
        chain (pool_holds b m2) (λ n m3 pb.
        weaken (emit_holds (jump_kr sense c n (reg_of v)) m3) (λ j m4 g.
        resized_jump (omega arith) (fused_jumped op c (jump_kr sense c n (reg_of v)) asks orders cp pb.grown pb.level g
        (λ laws w k p R a a' pools da db ord.
        subst₂ (λ a b. AtRoot sense (OrderOf M c a b) → Branches M w.consts w.code (jump_kr sense c n (reg_of v)) k p R (sensed sense (asked M c a b))) da db
        (sense_KR M laws w.consts w.code sense c k p n (reg_of v) R (pools n (constant_words b) pb.has ∙ constant_words_lem M b cp.usable_left)) ord)
        (kind_jump_KR n (reg_of v) sense c))))
    fused_sources_lem op c asks orders l r (Source.constant b) (Source.constant b') {m} own o h (literal e p1 q1) (literal e' p2 q2) = tested_good E own o h

    fused_good : (op : BinaryOp) (c : Comparison) → ((a b : M.Value) → operate M op a b ≡ truth M (asked M c a b)) →
        ((a b : M.Value) → OrderAt M t args op a b → OrderOf M c a b) → (l r : ℕ) → P l → P r → (m : Made) (own : Option Register → Walk Operand) → Owns arity m →
        Holds (TwoLowered op l r m) (own None m) → Holds (TwoJumped op l r m) (fuse t E sense own (Some c) l r m)
    unfolding fuse
    fused_good op c asks orders l r pl pr m own o h =
        chain (good l pl None m o tt) (λ u m1 x.
        chain (good r pr None m1 (grown_owns arity (operand_ready M args arity x).grown o) tt) (λ v m2 y.
        fused_sources_lem op c asks orders l r (source u) (source v) own o h x y))

    pub binary_jumped : (op : BinaryOp) (l r : ℕ) → P l → P r → (m : Made) (own : Option Register → Walk Operand) → Owns arity m →
        Holds (TwoLowered op l r m) (own None m) → Holds (TwoJumped op l r m) (fuse t E sense own (comparison op) l r m)
    unfolding comparison fuse operate OrderAt
    binary_jumped BinaryOp.Add l r pl pr m own o h = tested_good E own o h
    binary_jumped BinaryOp.Subtract l r pl pr m own o h = tested_good E own o h
    binary_jumped BinaryOp.Multiply l r pl pr m own o h = tested_good E own o h
    binary_jumped BinaryOp.Divide l r pl pr m own o h = tested_good E own o h
    binary_jumped BinaryOp.Modulo l r pl pr m own o h = tested_good E own o h
    binary_jumped BinaryOp.Equal l r pl pr m own o h = fused_good BinaryOp.Equal Comparison.Equal (λ a b. refl) (λ a b x. x) l r pl pr m own o h
    binary_jumped BinaryOp.NotEqual l r pl pr m own o h = fused_good BinaryOp.NotEqual Comparison.NotEqual (λ a b. refl) (λ a b x. x) l r pl pr m own o h
    binary_jumped BinaryOp.Greater l r pl pr m own o h = fused_good BinaryOp.Greater Comparison.Greater (λ a b. refl) (λ a b x. x) l r pl pr m own o h
    binary_jumped BinaryOp.GreaterEqual l r pl pr m own o h = fused_good BinaryOp.GreaterEqual Comparison.GreaterEqual (λ a b. refl) (λ a b x. x) l r pl pr m own o h
    binary_jumped BinaryOp.Less l r pl pr m own o h = fused_good BinaryOp.Less Comparison.Less (λ a b. refl) (λ a b x. x) l r pl pr m own o h
    binary_jumped BinaryOp.LessEqual l r pl pr m own o h = fused_good BinaryOp.LessEqual Comparison.LessEqual (λ a b. refl) (λ a b x. x) l r pl pr m own o h

-- ---- the if

module _ (M : Operators) (t : Tree) (args : ℕ → M.Value) (arity : ℕ) where
  module _ (E : ℕ → Option Register → Walk Operand) (W : ℕ → Evaluation M.Failure M.Value) (S : ℕ → ℕ) (A : ℕ → Type 0) (P : ℕ → Type 0)
      (good : (i : ℕ) → P i → (dest : Option Register) (m : Made) → Owns arity m → Target arity m dest → Holds (AsOperand M t args arity m dest (S i) (A i) (W i)) (E i dest m)) where
    else_good : (el : ℕ) (b : Bool) → (Named el (cond b [] (el ∷ [])) → P el) → (i : ℕ) (d : Register) (m : Made) → Owns arity m → Target arity m (Some d) →
        Holds (LoweredInto M args arity m (Some d) (total S (cond b [] (el ∷ []))) (Chosen M t args b (Unit {0}) (A el)) (cond b undefined (W el)))
        (cond b (refuse t Refusal.Else i) (lower_materializing (E el) (Some d)) m)
    unfolding total
    else_good el true p i d m o g = void
    else_good el false p i d m o g = weaken (good_M M t args arity E W S A P good el (p first) (Some d) m o g) (λ r m' q. resized M args arity (omega arith) q)

    knows : (b : Bool) (x y : Evaluation M.Failure M.Value) → Known x → Known y → Known (cond b x y)
    knows true x y h k = h
    knows false x y h k = k

    -- the code of an if, made step by step
    if_lowered : {sc st se : ℕ} {Ac Cc At Ae : Type 0} {wc wt we : Evaluation M.Failure M.Value} {dest : Option Register} {m m1 m2 m3 m4 m5 m6 m7 : Made} {d r1 r2 : Register} {j k : ℕ} →
        Owns arity m → Room m4 → Room m6 →
        Jumped M args arity false m sc (Ac × Cc) wc j m1 →
        Aimed arity m1 dest d m2 →
        LoweredInto M args arity m2 (Some d) st At wt r1 m3 →
        InstructionPut (Instruction.Jump 0) m3 k m4 →
        OffsetPut j m4 m5 →
        LoweredInto M args arity m5 (Some d) se Ae we r2 m6 →
        OffsetPut k m6 m7 →
        LoweredInto M args arity m dest (2 + (sc + (st + se))) (Ac × Cc × IfAny (λ b. Chosen M t args b At Ae) (tests M wc))
        (and_then wc (λ a. and_then (given (M.test a)) (λ b. cond b wt we))) d m7
    unfolding action act decode words_of aim offset_word step_at
    if_lowered {sc} {st} {se} {Ac} {Cc} {At} {Ae} {wc} {wt} {we} {dest} {m} {m1} {m2} {m3} {m4} {m5} {m6} {m7} {d} {r1} {r2} {j} {k} o room4 room6 jm a qt g h5 qe h7 =
        let n0 = jm.start in
        let n1 = jm.level in
        let n2 = a.level in
        let n3 = qt.grown.kept.more in
        let n4 = g.level in
        let kk = g.which in
        let n5 = h5.level in
        let n6 = qe.grown.kept.more in
        let n7 = h7.level in
        let s1 = jm.short in
        let s3 = qt.short in
        let s6 = qe.short in
        let rm4 = room4.small in
        let rm6 = room6.small in
        let g25 : Grown j m2 m5 = grown_trans (le_refl _) (grown_at (omega arith) (grown_trans (omega arith) qt.grown g.grown)) h5.grown in
        let g57 : Grown k m5 m7 = grown_trans (le_refl _) (grown_at (omega arith) qe.grown) h7.grown in
        let g14 : Grown (count m1) m1 m4 = grown_trans (omega arith) a.grown (grown_trans (omega arith) qt.grown g.grown) in
        let g17 : Grown j m1 m7 = grown_trans (le_refl _) (grown_at (omega arith) g14) (grown_trans (omega arith) h5.grown g57) in
        record {
          grown = grown_trans n0 jm.grown g17;
          spot = spot_back arity dest d jm.grown a.spot;
          now = g57.held (reg_of d) (g25.held (reg_of d) a.now);
          short = omega arith;
          known = known_bind wc _ jm.known (λ v. known_bind (given (M.test v)) _ (known_given (M.test v)) (λ b. knows b wt we qt.known qe.known));
          sim = λ laws w f R e' pr fa k0.
              let f1 : Final w (count m) j m1 = earlier (le_refl _) (omega arith) (le_refl _) g17.kept f in
              let fj : w.code (w.base + j) ≡ decode (aim (count m4 - j) (instruction_at m1 j)) =
              f.codes j n0 (omega arith)
              ∙ ap decode (g57.kept.same j (omega arith) ∙ h5.there ∙ ap (aim (count m4 - j)) (g14.kept.same j (omega arith))) in
              let f6 : Final w (count m5) (count m6) m6 = past_patch (omega arith) (omega arith) (omega arith) h7 f in
              let f5 : Final w (count m2) (count m3) m5 = earlier (omega arith) (omega arith) (omega arith) g57.kept f in
              let f4 : Final w (count m2) (count m3) m4 = past_patch (le_refl _) (le_refl _) (omega arith) h5 f5 in
              let f3 : Final w (count m2) (count m3) m3 = earlier (le_refl _) (le_refl _) (le_refl _) g.grown.kept f4 in
              let fk : w.code (w.base + k) ≡ decode (aim (count m6 - k) (words_of (Instruction.Jump 0))) =
              f.codes k (omega arith) (omega arith)
              ∙ ap decode (h7.there ∙ ap (aim (count m6 - k)) (qe.grown.kept.same k (omega arith) ∙ h5.others k (λ z. omega arith) ∙ g.there k kk)) in
              let inside_j : w.base + j < w.limit = omega (arith, f.top) in
              let inside_k : w.base + k < w.limit = omega (arith, f.top) in
              jm.sim laws w (count m4 - j) (w.base + j + (count m4 - j)) (target_forward M arity w (w.base + j) (count m4 - j) (omega arith)) f1 fj inside_j R e' pr (fa.0, fa.1)
              (after_ask (after_bind wc _ k0) (ask_bind wc _ fa.2)
              (λ v kv fv. after_ask (after_bind (given (M.test v)) _ kv) fv
              (λ b kb fb R1 p1.
              let pr1 : Params M args arity R1 = params_kept M args arity m None o tt p1 pr in
              by_bool b
              (λ b. Onward M args arity w e' (w.base + count m7) m dest R (λ w R v. R (reg_of d) ≡ v) (cond b wt we) × Chosen M t args b At Ae)
              (λ b. Onto M arity w (w.base + j) (cond (beq b false) (w.base + j + (count m4 - j)) (w.base + suc j)) R1 e')
              (λ z. up (omega arith) (run_moved M arity w (omega arith) (qt.sim laws w f3 R1 e' pr1 z.1
              (after_map z.0
              (λ u ku R2 d2 p2. run_moved M arity w (omega arith)
              (run_jump M arity w (w.base + k) (w.base + count m7) (count m6 - k) R2
              (step_words M arity w (aim (count m6 - k) (words_of (Instruction.Jump 0))) (w.base + k) R2 fk)
              inside_k (omega arith) (omega arith) (omega arith)
              (ku R2 (ap (λ x. R2 (reg_of x)) (sym qt.spot) ∙ d2)
              (λ q x n. p2 q (a.grown.held q (jm.grown.held q x)) (a.fresh q (jm.grown.held q x) n) ∙ p1 q x tt))))))))
              (λ z. up (omega arith) (run_moved M arity w (omega arith) (qe.sim laws w f6 R1 e' pr1 z.1
              (after_map z.0
              (λ u ku R2 d2 p2. run_moved M arity w (omega arith) (ku R2 (ap (λ x. R2 (reg_of x)) (sym qe.spot) ∙ d2)
              (λ q x n. p2 q (g25.held q (a.grown.held q (jm.grown.held q x))) (a.fresh q (jm.grown.held q x) n) ∙ p1 q x tt)))))))
              (kb, fb))));
        }

    pub good_if : (J : ℕ → Walk ℕ) (C : ℕ → Type 0) → ((i : ℕ) → P i → (m : Made) → Owns arity m → Holds (Jumped M args arity false m (S i) (A i × C i) (W i)) (J i m)) →
        (c th el : ℕ) → P c → P th → (Named el (present el) → P el) → (i : ℕ) (dest : Option Register) (m : Made) → Owns arity m → Target arity m dest →
        Holds (AsOperand M t args arity m dest (2 + (S c + (S th + total S (present el)))) (A c × C c × IfAny (λ b. Chosen M t args b (A th) (Chosen M t args (eqb el absent) (Unit {0}) (A el))) (tests M (W c)))
        (and_then (W c) (λ a. and_then (given (M.test a)) (λ b. cond b (W th) (cond (eqb el absent) undefined (W el))))))
        (lower_node free_temp t E J i (Node.If c th el) dest m)
    unfolding lower_node lower_else present
    good_if J C good_j c th el pc pt pe i dest m o tg =
        chain (good_j c pc m o) (λ j m1 jm.
        let o1 : Owns arity m1 = grown_owns arity jm.grown o in
        chain (destination_good arity m1 dest o1 (target_later arity dest jm.grown tg)) (λ d m2 a.
        let o2 : Owns arity m2 = grown_owns arity a.grown o1 in
        chain (good_M M t args arity E W S A P good th pt (Some d) m2 o2 (a.high, a.now)) (λ r1 m3 qt.
        chain (emit_holds (Instruction.Jump 0) m3) (λ k m4 g.
        let n0 = jm.start in
        let n1 = jm.level in
        let n2 = a.level in
        let n3 = qt.grown.kept.more in
        let n4 = g.level in
        let kk = g.which in
        let g24 : Grown (count m2) m2 m4 = grown_trans n3 qt.grown g.grown in
        let o4 : Owns arity m4 = grown_owns arity g24 o2 in
        chain (patch_holds j m4 o4.room (omega arith)) (λ _ m5 h5.
        let n5 = h5.level in
        let o5 : Owns arity m5 = grown_owns arity h5.grown o4 in
        chain (else_good el (eqb el absent) pe i d m5 o5 (a.high, h5.grown.held (reg_of d) (g24.held (reg_of d) a.now))) (λ r2 m6 qe.
        let n6 = qe.grown.kept.more in
        let o6 : Owns arity m6 = grown_owns arity qe.grown o5 in
        chain (patch_holds k m6 o6.room (omega arith)) (λ _ m7 h7.
        fine (as_operand M t args arity {m = m} (le_refl _) (if_lowered o o4.room o6.room jm a qt g h5 qe h7)))))))))
