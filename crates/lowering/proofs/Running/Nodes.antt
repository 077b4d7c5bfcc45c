-- Each kind of node but the if keeps the promise, if its children do. Assumes nothing.
use Rattle.std.specs.Prelude.{Option, Some, None, Result, Ok, Err}
use Rattle.diagnostics.specs.declared.Refusal.{Refusal}
use Prim.Native.Nat.{ℕ, zero, suc, ◌+◌, ◌-◌, ◌≤◌, ◌<◌}
use native.Mathlib.Omega.{arith}
use native.Mathlib.Nat.{le_refl}
use mathlib.Core.Path.{◌≡◌, refl, sym, ap, ◌∙◌, subst, subst₂}
use mathlib.Core.Logic.{◌≢◌}
use mathlib.Core.Bool.{Bool, true, false, cond, not, beq}
use mathlib.Core.List.{List, [], ◌∷◌}
use lib.Dec.{eqb}
use lib.ListN.{length, get_or}
use borrow.Author.Tests.{eqb-true, eq-eqb, ne_eqb}
use Rattle.environment.specs.declared.Register.{Register}
use Rattle.environment.specs.Registers.{held}
use Rattle.environment.specs.Environment.{lookup}
use Rattle.environment.specs.Laws.{Last}
use Rattle.environment.proofs.Laws.{lookup_found}
use Rattle.syntax.specs.declared.ast.Node.{Node}
use Rattle.syntax.specs.declared.ops.BinaryOp.{BinaryOp}
use Rattle.syntax.specs.declared.ops.UnaryOp.{UnaryOp}
use Rattle.syntax.specs.Ast.{absent}
use Rattle.runtime.specs.declared.instruction.Instruction.{Instruction}
use Rattle.runtime.specs.declared.operand.Operand.{Operand}
use Rattle.runtime.specs.Operands.{reg_of}
use Rattle.runtime.specs.Instruction.{words_of, decode, offset_word}
use Rattle.runtime.specs.Value.{constant_words}
use Rattle.lowering.specs.Tree.{Tree, present}
use Rattle.lowering.specs.Walk.{Made, ends, Walk, ◌>>◌}
use Rattle.lowering.specs.Steps.{free_temp, emit, load_constant}
use Rattle.lowering.specs.Operators.{binary_rr, binary_rk, binary_kr, unary, jump_if}
use Rattle.lowering.specs.Lower.{Source, source, same_register, lower_materializing, moved, lower_name, binary_sources, lower_tail, lower_node}
use Rattle.lowering.specs.Meaning.{Answer, val, invert, property, Operators, Hypotheses, Evaluation, evaluates, given, and_then, IfAny, operate, unary_of, tests, last_named, parameter, Chosen, Named, first, total}
use Rattle.lowering.specs.Machine.{constant_of, Registers, action, act, fill, onward, branch, step_at}
use Rattle.lowering.specs.Trace.{registers_of, Held}
use Rattle.lowering.proofs.Running.Decode.{Proper, constant, constant_words_lem, aim}
use Rattle.lowering.proofs.Running.Steps.{had, Differ, differ, Holds, fine, void, chain, weaken, hit, miss, apart, count, Loose, Has, Room, CodeKept, code_kept_refl, code_kept_trans, Grown, grown_refl, grown_trans, grown_at, InstructionPut, OffsetPut, RegisterGiven, emit_holds, patch_holds, pool_holds, give_holds}
use Rattle.lowering.proofs.Running.MachineRuns.{worked, after_bind, ask_bind, after_map, after_ask, after_value, Known, known_bind, known_given, pair_of, after_pair, World, Run, run_moved as moved-run, step_words, step_instruction, run_fill, run_branch, Fills, two_RR, two_RK, two_KR}
use Rattle.lowering.proofs.Running.Promise.{Final, earlier, past_patch, Target, Owns, grown_owns, Aimed, destination_good, Keeps, Onward, params_kept, Sim, LoweredInto, Expr, literal, in_register, load_good, materialized_good}

module _ (arity : ℕ) where
  -- what is loose later was loose before
  pub loose_back : {b : ℕ} {m m' : Made} (r : Register) → Grown b m m' → Loose arity m' r → Loose arity m r
  loose_back {b} {m} {m'} (Register.Temp r) g h = go (held (registers_of m) r) refl
    where
      go : (t : Bool) → held (registers_of m) r ≡ t → held (registers_of m) r ≡ false
      go true e = absurd (apart (registers_of m') (g.held r e) h refl)
      go false e = e
  loose_back (Register.Local r) g h = h

module _ (M : Operators) (args : ℕ → M.Value) (arity : ℕ) where
  -- what an operand stands for
  abbrev pub Den : Source → World M → Registers M → M.Value → Type 0
  Den (Source.register r) w R v = R (reg_of r) ≡ v
  Den (Source.constant c) w R v = constant M c ≡ v

  abbrev pub HeldSource : Made → Source → Type 0
  HeldSource m (Source.register r) = Held m (reg_of r)
  HeldSource m (Source.constant c) = Unit {0}

  -- a register that may be given back; a constant that may be pooled
  abbrev pub Usable : Made → Source → Type 0
  Usable m (Source.register r) = Loose arity m r
  Usable m (Source.constant c) = Proper c

  usable_back : {b : ℕ} {m m' : Made} (x : Source) → Grown b m m' → Usable m' x → Usable m x
  usable_back (Source.register r) g h = loose_back arity r g h
  usable_back (Source.constant c) g h = h

  abbrev pub SourcesApart : Source → Source → Type 0
  SourcesApart (Source.register a) (Source.register b) = Differ a b
  SourcesApart (Source.register a) (Source.constant c) = Unit {0}
  SourcesApart (Source.constant c) y = Unit {0}

  apart_of : (m : Made) (x y : Source) → HeldSource m x → Usable m y → SourcesApart x y
  apart_of m (Source.register a) (Source.register b) h u = differ arity m a b h u
  apart_of m (Source.register a) (Source.constant c) h u = tt
  apart_of m (Source.constant c) y h u = tt

  held_later : {b : ℕ} {m m' : Made} (x : Source) → Grown b m m' → HeldSource m x → HeldSource m' x
  held_later (Source.register r) g h = g.held (reg_of r) h
  held_later (Source.constant c) g h = h

  den_kept : (x : Source) (m : Made) (w : World M) {R R' : Registers M} (v : M.Value) → HeldSource m x → Keeps M args arity m None R R' → Den x w R v → Den x w R' v
  den_kept (Source.register r) m w v h k d = k (reg_of r) h tt ∙ d
  den_kept (Source.constant c) m w v h k d = d

  -- an operand, literal or register alike
  pub record OperandReady (m : Made) (s : ℕ) (fair : Type 0) (ans : Evaluation M.Failure M.Value) (x : Source) (m' : Made) : Type 0 where
    pub grown : Grown (count m) m m'
    pub usable : Usable m x
    pub now : HeldSource m' x
    pub short : count m' ≤ count m + s
    pub known : Known ans
    pub sim : Sim M args arity m m' None fair ans (Den x)

  known_of : (ans : Evaluation M.Failure M.Value) {v : M.Value} → ans ≡ evaluates v → Known ans
  known_of ans e = rw e tt

  pub operand_ready : {m m' : Made} {s : ℕ} {fair : Type 0} {ans : Evaluation M.Failure M.Value} {x : Source} →
      Expr M args arity m None s fair ans x m' → OperandReady m s fair ans x m'
  operand_ready (in_register l) = record { grown = l.grown; usable = l.spot; now = l.now; short = l.short; known = l.known; sim = l.sim }
  operand_ready {m} {ans = ans} (literal e pc h) = record {
    grown = grown_refl _ m;
    usable = pc;
    now = tt;
    short = omega arith;
    known = known_of ans e;
    sim = λ laws w f R e' pa fa k. after_value e k R refl (λ q x y. refl);
  }

  -- two operands, left then right
  pub record Couple (m : Made) (s : ℕ) (fair : Type 0) (r q : Evaluation M.Failure M.Value) (x y : Source) (m' : Made) : Type 0 where
    pub grown : Grown (count m) m m'
    pub usable_left : Usable m x
    pub usable_right : Usable m y
    pub now_left : HeldSource m' x
    pub now_right : HeldSource m' y
    pub apart_both : SourcesApart x y
    pub short : count m' ≤ count m + s
    pub known_left : Known r
    pub known_right : Known q
    pub sim : Sim M args arity m m' None fair (pair_of r q) (λ w R v. Den x w R v.0 × Den y w R v.1)

  pub couple : {m m1 m2 : Made} {s t : ℕ} {A B : Type 0} {r q : Evaluation M.Failure M.Value} {x y : Source} → Owns arity m →
      OperandReady m s A r x m1 → OperandReady m1 t B q y m2 → Couple m (s + t) (A × IfAny (λ v. B) r) r q x y m2
  couple {m} {m1} {m2} {s} {t} {A} {B} {r} {q} {x} {y} o a b =
      let l1 = a.grown.kept.more in
      let l2 = b.grown.kept.more in
      let s1 = a.short in
      let s2 = b.short in
      record {
        grown = grown_trans l1 a.grown b.grown;
        usable_left = a.usable;
        usable_right = usable_back y a.grown b.usable;
        now_left = held_later x b.grown a.now;
        now_right = b.now;
        apart_both = apart_of m1 x y a.now b.usable;
        short = omega arith;
        known_left = a.known;
        known_right = b.known;
        sim = λ laws w f R e pa fa k.
            a.sim laws w (earlier (le_refl _) l2 (le_refl _) b.grown.kept f) R e pa fa.0
            (after_ask (after_bind r _ k) fa.1
            (λ u ku fb R1 d1 p1.
            b.sim laws w (earlier l1 (le_refl _) (le_refl _) (code_kept_refl _ m2) f) R1 e (params_kept M args arity m None o tt p1 pa) fb
            (after_map (after_bind q _ ku)
            (λ v kv R2 d2 p2. after_value refl kv R2 (den_kept x m1 w u a.now p2 d1, d2) (λ z h n. p2 z (a.grown.held z h) tt ∙ p1 z h tt)))));
      }

  -- what a fill keeps
  pub keeps_fill : {m m0 : Made} {dest : Option Register} {d : Register} {R R1 : Registers M} (v : M.Value) → Aimed arity m dest d m0 →
      Keeps M args arity m0 None R R1 → Keeps M args arity m dest R (fill M R1 (reg_of d) v)
  keeps_fill v a k q h n = miss q _ _ _ (a.fresh q h n) ∙ k q (a.grown.held q h) tt

  -- the final pool has m's constants
  abbrev pub Pools : World M → Made → Type 0
  Pools w m = (k : ℕ) (ws : List ℕ) → Has m k ws → w.consts k ≡ constant_of M ws

  -- one operand, then an instruction that fills the destination with what `op` answers of it, then registers given back
  pub one_lowered : (op : M.Value → Answer M.Failure M.Value) (i : Instruction) {m m0 m2 m3 m4 m6 : Made} {dest : Option Register} {d src : Register} {s n : ℕ}
      {fair : Type 0} {r : Evaluation M.Failure M.Value} →
      Aimed arity m dest d m0 → LoweredInto M args arity m0 None s fair r src m2 → Grown (count m2) m2 m3 → count m3 ≡ count m2 → InstructionPut i m3 n m4 →
      ((w : World M) (p : ℕ) (R : Registers M) (a : M.Value) → Pools w m3 → R (reg_of src) ≡ a →
      Fills M w.consts i p (reg_of d) R (op a)) →
      RegisterGiven (count m0) m0 m4 src m6 →
      LoweredInto M args arity m dest (1 + s) fair (and_then r (λ a. given (op a))) d m6
  one_lowered op i {m} {m0} {m2} {m3} {m4} {m6} {dest} {d} {src} {s} {n} {fair} {r} a q g3 l3 g acts h =
      let l0 = a.level in
      let l2 = q.grown.kept.more in
      let s2 = q.short in
      let l4 = g.level in
      let l6 = h.level in
      record {
        grown = grown_trans (omega arith) a.grown h.grown;
        spot = a.spot;
        now = h.grown.held (reg_of d) a.now;
        short = omega arith;
        known = known_bind r _ q.known (λ v. known_given (op v));
        sim = λ laws w f R e pr fa k.
            let f4 : Final w (count m) (count m4) m4 = earlier (le_refl _) (omega arith) (le_refl _) h.kept f in
            let f3 : Final w (count m0) (count m3) m3 = earlier (omega arith) (omega arith) (le_refl _) g.grown.kept f4 in
            let f2 : Final w (count m0) (count m2) m2 = earlier (le_refl _) (omega arith) (le_refl _) g3.kept f3 in
            let fetched : w.code (w.base + count m3) ≡ decode (words_of i) =
            f4.codes (count m3) (omega arith) (omega arith) ∙ ap decode (g.there (count m3) refl) in
            let inside : w.base + count m3 < w.limit = omega (arith, f4.top) in
            moved-run M arity w (omega arith) (q.sim laws w f2 R e pr fa
            (after_map (after_bind r _ k)
            (λ v kv R1 d1 p1. moved-run M arity w (omega arith)
            (run_fill M arity w (op v) (w.base + count m3) (w.base + count m6) (reg_of d) R1
            (step_instruction M arity w i (w.base + count m3) R1 fetched ∙ acts w (w.base + count m3) R1 v f3.pools d1)
            inside a.high (omega arith)
            (after_map kv (λ u ku. ku (fill M R1 (reg_of d) u) (hit (reg_of d) _ _) (keeps_fill u a p1)))))));
      }

  -- the same of two operands
  pub two_lowered : (op : M.Value → M.Value → Answer M.Failure M.Value) (i : Instruction) {m m0 m2 m3 m4 m6 : Made} {dest : Option Register} {d : Register}
      {x y : Source} {s n : ℕ} {fair : Type 0} {r q : Evaluation M.Failure M.Value} →
      Aimed arity m dest d m0 → Couple m0 s fair r q x y m2 → Grown (count m2) m2 m3 → count m3 ≡ count m2 → InstructionPut i m3 n m4 →
      ((laws : Hypotheses M) (w : World M) (p : ℕ) (R : Registers M) (a b : M.Value) → Pools w m3 → Den x w R a → Den y w R b →
      Fills M w.consts i p (reg_of d) R (op a b)) →
      count m6 ≡ count m4 → CodeKept (count m4) m4 m6 → Grown (count m0) m0 m6 →
      LoweredInto M args arity m dest (1 + s) fair (and_then r (λ a. and_then q (λ b. given (op a b)))) d m6
  two_lowered op i {m} {m0} {m2} {m3} {m4} {m6} {dest} {d} {x} {y} {s} {n} {fair} {r} {q} a c g3 l3 g acts l6 k6 g6 =
      let l0 = a.level in
      let l2 = c.grown.kept.more in
      let s2 = c.short in
      let l4 = g.level in
      record {
        grown = grown_trans (omega arith) a.grown g6;
        spot = a.spot;
        now = g6.held (reg_of d) a.now;
        short = omega arith;
        known = known_bind r _ c.known_left (λ u. known_bind q _ c.known_right (λ v. known_given (op u v)));
        sim = λ laws w f R e pr fa k.
            let f4 : Final w (count m) (count m4) m4 = earlier (le_refl _) (omega arith) (le_refl _) k6 f in
            let f3 : Final w (count m0) (count m3) m3 = earlier (omega arith) (omega arith) (le_refl _) g.grown.kept f4 in
            let f2 : Final w (count m0) (count m2) m2 = earlier (le_refl _) (omega arith) (le_refl _) g3.kept f3 in
            let fetched : w.code (w.base + count m3) ≡ decode (words_of i) =
            f4.codes (count m3) (omega arith) (omega arith) ∙ ap decode (g.there (count m3) refl) in
            let inside : w.base + count m3 < w.limit = omega (arith, f4.top) in
            moved-run M arity w (omega arith) (c.sim laws w f2 R e pr fa
            (after_map (after_pair r q (λ u v. given (op u v)) k)
            (λ v kv R1 d1 p1. moved-run M arity w (omega arith)
            (run_fill M arity w (op v.0 v.1) (w.base + count m3) (w.base + count m6) (reg_of d) R1
            (step_instruction M arity w i (w.base + count m3) R1 fetched ∙ acts laws w (w.base + count m3) R1 v.0 v.1 f3.pools d1.0 d1.1)
            inside a.high (omega arith)
            (after_map kv (λ u ku. ku (fill M R1 (reg_of d) u) (hit (reg_of d) _ _) (keeps_fill u a p1)))))));
      }

  -- a larger bound
  pub resized : {m m' : Made} {dest : Option Register} {s z : ℕ} {fair : Type 0} {ans : Evaluation M.Failure M.Value} {r : Register} → s ≤ z →
      LoweredInto M args arity m dest s fair ans r m' → LoweredInto M args arity m dest z fair ans r m'
  resized l q =
      let s = q.short in
      record { grown = q.grown; spot = q.spot; now = q.now; short = omega arith; known = q.known; sim = q.sim }

  -- lowered into the register that is aimed at
  pub aimed_lowered : {m m0 m1 : Made} {dest : Option Register} {s : ℕ} {fair : Type 0} {ans : Evaluation M.Failure M.Value} {d r : Register} →
      Aimed arity m dest d m0 → LoweredInto M args arity m0 (Some d) s fair ans r m1 → LoweredInto M args arity m dest s fair ans d m1
  aimed_lowered {m} {m0} {m1} {dest} {s} {fair} {ans} {d} {r} a q =
      let l0 = a.level in
      let ls = q.short in
      record {
        grown = grown_trans (omega arith) a.grown q.grown;
        spot = a.spot;
        now = q.grown.held (reg_of d) a.now;
        short = omega arith;
        known = q.known;
        sim = λ laws w f R e pr fa k.
            moved-run M arity w (omega arith) (q.sim laws w (earlier (omega arith) (le_refl _) (le_refl _) (code_kept_refl _ m1) f) R e pr fa
            (after_map k (λ v kv R1 d1 p1. kv R1 (ap (λ x. R1 (reg_of x)) (sym q.spot) ∙ d1) (λ z x n. p1 z (a.grown.held z x) (a.fresh z x n)))));
      }

by_sense : (sense b : Bool) (P : ℕ → Type 0) (Q : Bool → Type 0) {y n : ℕ} → (Q sense → P y) → (Q (not sense) → P n) → Q b → P (cond (beq b sense) y n)
by_sense true true P Q f g h = f h
by_sense true false P Q f g h = g h
by_sense false true P Q f g h = g h
by_sense false false P Q f g h = f h

-- an operator of one register
module _ (M : Operators) (consts : ℕ → Option M.Value) where
  unary_acts : (op : UnaryOp) (p d u : ℕ) (R : Registers M) {v : M.Value} → R u ≡ v →
      Fills M consts (unary op d u) p d R (M.unary (unary_of M op) v)
  unfolding act action unary unary_of
  unary_acts UnaryOp.Negate p d u R e = rw e
  unary_acts UnaryOp.Deref p d u R e = rw e

  not_acts : (p d u : ℕ) (R : Registers M) {v : M.Value} → R u ≡ v →
      Fills M consts (Instruction.Not d u) p d R (M.unary invert v)
  unfolding act action
  not_acts p d u R e = rw e

  property_acts : (p d u k : ℕ) (R : Registers M) {v c : M.Value} → R u ≡ v → consts k ≡ Some c →
      Fills M consts (Instruction.GetPropertyK d u k) p d R (M.binary property v c)
  unfolding act action
  property_acts p d u k R e h = rw (e, h)

-- a tested register
module _ (M : Operators) (consts : ℕ → Option M.Value) (code : ℕ → Option Instruction) (r n p : ℕ) (R : Registers M) where
  pub false_tests : step_at M consts code (decode (aim n (words_of (Instruction.JumpIfFalse r 0)))) p R ≡
      onward M consts (M.test (R r)) (λ b. branch M consts (beq b false) n p R)
  unfolding step_at act action decode words_of aim offset_word
  false_tests = refl

  pub true_tests : step_at M consts code (decode (aim n (words_of (Instruction.JumpIfTrue r 0)))) p R ≡
      onward M consts (M.test (R r)) (λ b. branch M consts (beq b true) n p R)
  unfolding step_at act action decode words_of aim offset_word
  true_tests = refl

-- and at a jump of either sense
pub sense_tests : (M : Operators) (consts : ℕ → Option M.Value) (code : ℕ → Option Instruction) (sense : Bool) (r n p : ℕ) (R : Registers M) →
    step_at M consts code (decode (aim n (words_of (jump_if sense r)))) p R ≡ onward M consts (M.test (R r)) (λ b. branch M consts (beq b sense) n p R)
unfolding jump_if
sense_tests M consts code false r n p R = false_tests M consts code r n p R
sense_tests M consts code true r n p R = true_tests M consts code r n p R

-- no name is x
none_of : (names : List ℕ) (x : ℕ) → ((j : ℕ) → j < length names → get_or names j 0 ≢ x) → last_named names x ≡ None
unfolding last_named
none_of [] x h = refl
none_of (n ∷ ns) x h = rw (none_of ns x (λ j b. h (suc j) (omega arith)), ne_eqb n x (h 0 (omega arith)))

-- the last name that is x is found
last_of : (names : List ℕ) (x i : ℕ) → i < length names → get_or names i 0 ≡ x → ((j : ℕ) → i < j → j < length names → get_or names j 0 ≢ x) → last_named names x ≡ Some i
unfolding last_named
last_of [] x i l e after = absurd (omega arith)
last_of (n ∷ ns) x (suc i) l e after = rw (last_of ns x i (omega arith) e (λ j a b. after (suc j) (omega arith) (omega arith)))
last_of (n ∷ ns) x zero l e after = rw (none_of ns x (λ j b. after (suc j) (omega arith) (omega arith)), eq-eqb n x e)

differs : (d : Register) (n : ℕ) → n < reg_of d → same_register d (Register.Local n) ≡ false
unfolding same_register reg_of
differs (Register.Temp a) n h = refl
differs (Register.Local a) n h = go (eqb a n) refl
  where
    go : (b : Bool) → eqb a n ≡ b → eqb a n ≡ false
    go true e = absurd (let q : a ≡ n = eqb-true a n e in omega arith)
    go false e = e

module _ (M : Operators) (t : Tree) (args : ℕ → M.Value) (arity : ℕ) where
  -- lowered as an operand
  abbrev pub AsOperand : Made → Option Register → ℕ → Type 0 → Evaluation M.Failure M.Value → Operand → Made → Type 0
  AsOperand m dest s fair ans o m' = Expr M args arity m dest s fair ans (source o) m'

  pub as_operand : {m m' : Made} {dest : Option Register} {s z : ℕ} {fair : Type 0} {ans : Evaluation M.Failure M.Value} {r : Register} → s ≤ z →
      LoweredInto M args arity m dest s fair ans r m' → AsOperand m dest z fair ans (Operand.Register r) m'
  unfolding source
  as_operand l q = in_register (resized M args arity l q)

  -- a parameter's register, or a Move
  moved_good : (n : ℕ) → n < arity → (dest : Option Register) (m : Made) → Owns arity m → Target arity m dest →
      Holds (AsOperand m dest 1 (Unit {0}) (evaluates (args n))) (moved t (Register.Local n) dest m)
  unfolding moved reg_of action act
  moved_good n h None m o g = fine (as_operand {m = m} (le_refl 1) (record {
    grown = grown_refl _ m;
    spot = h;
    now = o.params n h;
    short = omega arith;
    known = tt;
    sim = λ laws w f R e pr fa k. after_value refl k R (pr n h) (λ z x y. refl);
  }))
  moved_good n h (Some d) m o g =
      rw (differs d n (omega (arith, g.0)))
      (chain (emit_holds (Instruction.Move (reg_of d) n) m) (λ k m1 x.
      let l = x.level in
      fine (as_operand {m = m} (le_refl 1) (record {
        grown = x.grown;
        spot = refl;
        now = x.grown.held (reg_of d) g.1;
        short = omega arith;
        known = tt;
        sim = λ laws w f R e pr fa c.
            let inside : w.base + count m < w.limit = omega (arith, f.top) in
            run_fill M arity w (val (R n)) (w.base + count m) (w.base + count m1) (reg_of d) R
            (step_instruction M arity w (Instruction.Move (reg_of d) n) (w.base + count m) R
            (f.codes (count m) (le_refl _) (omega arith) ∙ ap decode (x.there (count m) refl)))
            inside g.0 (omega arith)
            (worked (after_value refl c _ (hit (reg_of d) _ _ ∙ pr n h) (λ z y q. miss z (reg_of d) _ _ q)));
      }))))

  pub named_good : arity ≡ length t.names → (i symbol : ℕ) (f : Result Register Refusal) → lookup t.names (length t.names) symbol ≡ f → (dest : Option Register) (m : Made) →
      Owns arity m → Target arity m dest → Holds (AsOperand m dest 1 (Unit {0}) (parameter M t args (last_named t.names symbol))) (lower_name t i f dest m)
  unfolding lower_name
  named_good ar i symbol (Err refusal) e dest m o g = void
  named_good ar i symbol (Ok r) e dest m o g =
      let k : Last t.names (length t.names) symbol r = lookup_found t.names (length t.names) symbol r e in
      rw (last_of t.names symbol k.index k.in_range k.named k.later)
      (subst (λ x. Holds (AsOperand m dest 1 (Unit {0}) (evaluates (args k.index))) (moved t x dest m)) (sym k.local)
      (moved_good k.index (omega (arith, k.in_range)) dest m o g))

  -- the walks on the children, and what is promised of them
  module _ (E : ℕ → Option Register → Walk Operand) (W : ℕ → Evaluation M.Failure M.Value) (S : ℕ → ℕ) (A : ℕ → Type 0) (P : ℕ → Type 0)
      (good : (i : ℕ) → P i → (dest : Option Register) (m : Made) → Owns arity m → Target arity m dest → Holds (AsOperand m dest (S i) (A i) (W i)) (E i dest m)) where
    pub good_M : (i : ℕ) → P i → (dest : Option Register) (m : Made) → Owns arity m → Target arity m dest →
        Holds (LoweredInto M args arity m dest (S i) (A i) (W i)) (lower_materializing (E i) dest m)
    unfolding lower_materializing
    good_M i p dest m o g = chain (good i p dest m o g) (λ x m' h. materialized_good M args arity o g h)

    -- ---- binary

    abbrev Two : BinaryOp → ℕ → ℕ → Made → Option Register → Operand → Made → Type 0
    Two op l r m dest =
        AsOperand m dest (1 + (S l + (S r + 0))) (A l × IfAny (λ a. A r) (W l)) (and_then (W l) (λ a. and_then (W r) (λ b. given (operate M op a b))))

    abbrev Both : ℕ → ℕ → Made → Source → Source → Made → Type 0
    Both l r m x y m' = Couple M args arity m (S l + S r) (A l × IfAny (λ a. A r) (W l)) (W l) (W r) x y m'

    -- two registers
    two_registers : (op : BinaryOp) (l r : ℕ) {m m0 m2 : Made} {dest : Option Register} {d u v : Register} → Owns arity m0 → Aimed arity m dest d m0 →
        Both l r m0 (Source.register u) (Source.register v) m2 →
        Holds (Two op l r m dest)
        ((do
          emit (binary_rr op (reg_of d) (reg_of u) (reg_of v))
          free_temp u
          free_temp v
          (λ m'. ends (Operand.Register d) m'))
        m2)
    two_registers op l r {m} {m0} {m2} {dest} {d} {u} {v} o a c =
        chain (emit_holds (binary_rr op (reg_of d) (reg_of u) (reg_of v)) m2) (λ n m4 g.
        let l2 = c.grown.kept.more in
        let l4 = g.level in
        let g4 : Grown (count m0) m0 m4 = grown_trans l2 c.grown g.grown in
        chain (give_holds arity {b = count m0} {m₀ = m0} {m = m4} u c.usable_left (had m4 u (g.grown.held (reg_of u) c.now_left)) (g4.sound o.sound) (omega arith) g4) (λ _ m5 h1.
        let l5 = h1.level in
        chain (give_holds arity {b = count m0} {m₀ = m0} {m = m5} v c.usable_right (h1.still v c.apart_both (had m4 v (g.grown.held (reg_of v) c.now_right))) (h1.grown.sound o.sound) (omega arith) h1.grown) (λ _ m6 h2.
        let l6 = h2.level in
        fine (as_operand (omega arith) (two_lowered M args arity (operate M op) (binary_rr op (reg_of d) (reg_of u) (reg_of v)) a c (grown_refl _ m2) refl g
        (λ laws w p R x y pools dx dy.
        subst₂ (λ x y. Fills M w.consts (binary_rr op (reg_of d) (reg_of u) (reg_of v)) p (reg_of d) R (operate M op x y)) dx dy
        (two_RR M laws w.consts op p (reg_of d) (reg_of u) (reg_of v) R))
        (omega arith) (code_kept_trans (omega arith) h1.kept h2.kept) h2.grown)))))

    two_sources : (op : BinaryOp) (l r : ℕ) → P l → P r → {m m0 m1 m2 : Made} {dest : Option Register} {d : Register} (x y : Source) → Owns arity m0 →
        Aimed arity m dest d m0 → Expr M args arity m0 None (S l) (A l) (W l) x m1 → Expr M args arity m1 None (S r) (A r) (W r) y m2 →
        Holds (Two op l r m dest) (binary_sources free_temp t E op l r d x y m2)
    unfolding binary_sources
    two_sources op l r pl pr {dest = dest} {d = d} (Source.register u) (Source.register v) o a ex ey =
        two_registers op l r o a (couple M args arity o (operand_ready M args arity ex) (operand_ready M args arity ey))
    two_sources op l r pl pr {m} {m0} {m1} {m2} {dest} {d} (Source.register u) (Source.constant b) o a ex ey =
        let c : Both l r m0 (Source.register u) (Source.constant b) m2 = couple M args arity o (operand_ready M args arity ex) (operand_ready M args arity ey) in
        chain (pool_holds b m2) (λ k m3 pb.
        chain (emit_holds (binary_rk op (reg_of d) (reg_of u) k) m3) (λ n m4 g.
        let l2 = c.grown.kept.more in
        let l3 = pb.level in
        let l4 = g.level in
        let g4 : Grown (count m0) m0 m4 = grown_trans l2 c.grown (grown_trans (omega arith) pb.grown g.grown) in
        chain (give_holds arity {b = count m0} {m₀ = m0} {m = m4} u c.usable_left (had m4 u (g.grown.held (reg_of u) (pb.grown.held (reg_of u) c.now_left))) (g4.sound o.sound) (omega arith) g4) (λ _ m6 h.
        let l6 = h.level in
        fine (as_operand (omega arith) (two_lowered M args arity (operate M op) (binary_rk op (reg_of d) (reg_of u) k) a c pb.grown l3 g
        (λ laws w p R x y pools dx dy.
        subst₂ (λ x y. Fills M w.consts (binary_rk op (reg_of d) (reg_of u) k) p (reg_of d) R (operate M op x y)) dx dy
        (two_RK M laws w.consts op p (reg_of d) (reg_of u) k R (pools k (constant_words b) pb.has ∙ constant_words_lem M b c.usable_right)))
        l6 h.kept h.grown)))))
    two_sources op l r pl pr {m} {m0} {m1} {m2} {dest} {d} (Source.constant b) (Source.register v) o a ex ey =
        let c : Both l r m0 (Source.constant b) (Source.register v) m2 = couple M args arity o (operand_ready M args arity ex) (operand_ready M args arity ey) in
        chain (pool_holds b m2) (λ k m3 pb.
        chain (emit_holds (binary_kr op (reg_of d) k (reg_of v)) m3) (λ n m4 g.
        let l2 = c.grown.kept.more in
        let l3 = pb.level in
        let l4 = g.level in
        let g4 : Grown (count m0) m0 m4 = grown_trans l2 c.grown (grown_trans (omega arith) pb.grown g.grown) in
        chain (give_holds arity {b = count m0} {m₀ = m0} {m = m4} v c.usable_right (had m4 v (g.grown.held (reg_of v) (pb.grown.held (reg_of v) c.now_right))) (g4.sound o.sound) (omega arith) g4) (λ _ m6 h.
        let l6 = h.level in
        fine (as_operand (omega arith) (two_lowered M args arity (operate M op) (binary_kr op (reg_of d) k (reg_of v)) a c pb.grown l3 g
        (λ laws w p R x y pools dx dy.
        subst₂ (λ x y. Fills M w.consts (binary_kr op (reg_of d) k (reg_of v)) p (reg_of d) R (operate M op x y)) dx dy
        (two_KR M laws w.consts op p (reg_of d) k (reg_of v) R (pools k (constant_words b) pb.has ∙ constant_words_lem M b c.usable_left)))
        l6 h.kept h.grown)))))
    two_sources op l r pl pr {m} {m0} {m1} {m2} {dest} {d} (Source.constant b) (Source.constant b') o a (literal e pc h) (literal e' pc' h') =
        chain (good_M l pl None m0 o tt) (λ u m3 lu.
        chain (good_M r pr None m3 (grown_owns arity lu.grown o) tt) (λ v m4 lv.
        two_registers op l r o a (couple M args arity o (operand_ready M args arity (in_register lu)) (operand_ready M args arity (in_register lv)))))

    pub good_binary : (op : BinaryOp) (l r : ℕ) → P l → P r → (J : ℕ → Walk ℕ) (i : ℕ) (dest : Option Register) (m : Made) → Owns arity m → Target arity m dest →
        Holds (Two op l r m dest) (lower_node free_temp t E J i (Node.Binary op l r) dest m)
    unfolding lower_node
    good_binary op l r pl pr J i dest m o g =
        chain (destination_good arity m dest o g) (λ d m0 a.
        let o0 : Owns arity m0 = grown_owns arity a.grown o in
        chain (good l pl None m0 o0 tt) (λ u m1 x.
        chain (good r pr None m1 (grown_owns arity (operand_ready M args arity x).grown o0) tt) (λ v m2 y.
        two_sources op l r pl pr (source u) (source v) o0 a x y)))

    -- ---- unary, not, property

    pub good_unary : (op : UnaryOp) (x : ℕ) → P x → (J : ℕ → Walk ℕ) (i : ℕ) (dest : Option Register) (m : Made) → Owns arity m → Target arity m dest →
        Holds (AsOperand m dest (1 + (S x + 0)) (A x) (and_then (W x) (λ a. given (M.unary (unary_of M op) a)))) (lower_node free_temp t E J i (Node.Unary op x) dest m)
    unfolding lower_node
    good_unary op x px J i dest m o g =
        chain (destination_good arity m dest o g) (λ d m0 a.
        let o0 : Owns arity m0 = grown_owns arity a.grown o in
        chain (good_M x px None m0 o0 tt) (λ u m2 q.
        chain (emit_holds (unary op (reg_of d) (reg_of u)) m2) (λ n m4 y.
        let l2 = q.grown.kept.more in
        let l4 = y.level in
        let g4 : Grown (count m0) m0 m4 = grown_trans l2 q.grown y.grown in
        chain (give_holds arity {b = count m0} {m₀ = m0} {m = m4} u q.spot (had m4 u (y.grown.held (reg_of u) q.now)) (g4.sound o0.sound) (omega arith) g4) (λ _ m6 h.
        fine (as_operand (omega arith) (one_lowered M args arity (λ v. M.unary (unary_of M op) v) (unary op (reg_of d) (reg_of u)) a q (grown_refl _ m2) refl y
        (λ w p R v pools e. unary_acts M w.consts op p (reg_of d) (reg_of u) R e) h))))))

    pub good_not : (x : ℕ) → P x → (J : ℕ → Walk ℕ) (i : ℕ) (dest : Option Register) (m : Made) → Owns arity m → Target arity m dest →
        Holds (AsOperand m dest (1 + (S x + 0)) (A x) (and_then (W x) (λ a. given (M.unary invert a)))) (lower_node free_temp t E J i (Node.LogicalNot x) dest m)
    unfolding lower_node
    good_not x px J i dest m o g =
        chain (destination_good arity m dest o g) (λ d m0 a.
        let o0 : Owns arity m0 = grown_owns arity a.grown o in
        chain (good_M x px None m0 o0 tt) (λ u m2 q.
        chain (emit_holds (Instruction.Not (reg_of d) (reg_of u)) m2) (λ n m4 y.
        let l2 = q.grown.kept.more in
        let l4 = y.level in
        let g4 : Grown (count m0) m0 m4 = grown_trans l2 q.grown y.grown in
        chain (give_holds arity {b = count m0} {m₀ = m0} {m = m4} u q.spot (had m4 u (y.grown.held (reg_of u) q.now)) (g4.sound o0.sound) (omega arith) g4) (λ _ m6 h.
        fine (as_operand (omega arith) (one_lowered M args arity (λ v. M.unary invert v) (Instruction.Not (reg_of d) (reg_of u)) a q (grown_refl _ m2) refl y
        (λ w p R v pools e. not_acts M w.consts p (reg_of d) (reg_of u) R e) h))))))

    pub good_property : (x symbol : ℕ) → P x → (J : ℕ → Walk ℕ) (i : ℕ) (dest : Option Register) (m : Made) → Owns arity m → Target arity m dest →
        Holds (AsOperand m dest (1 + (S x + 0)) (A x) (and_then (W x) (λ a. given (M.binary property a (M.string symbol)))))
        (lower_node free_temp t E J i (Node.PropertyAccess x symbol) dest m)
    unfolding lower_node Proper constant
    good_property x symbol px J i dest m o g =
        chain (destination_good arity m dest o g) (λ d m0 a.
        let o0 : Owns arity m0 = grown_owns arity a.grown o in
        chain (good_M x px None m0 o0 tt) (λ u m2 q.
        chain (pool_holds (Operand.String symbol) m2) (λ k m3 pb.
        chain (emit_holds (Instruction.GetPropertyK (reg_of d) (reg_of u) k) m3) (λ n m4 y.
        let l2 = q.grown.kept.more in
        let l3 = pb.level in
        let l4 = y.level in
        let g4 : Grown (count m0) m0 m4 = grown_trans l2 q.grown (grown_trans (omega arith) pb.grown y.grown) in
        chain (give_holds arity {b = count m0} {m₀ = m0} {m = m4} u q.spot (had m4 u (y.grown.held (reg_of u) (pb.grown.held (reg_of u) q.now))) (g4.sound o0.sound) (omega arith) g4) (λ _ m6 h.
        fine (as_operand (omega arith) (one_lowered M args arity (λ v. M.binary property v (M.string symbol)) (Instruction.GetPropertyK (reg_of d) (reg_of u) k) a q
        pb.grown l3 y
        (λ w p R v pools e. property_acts M w.consts p (reg_of d) (reg_of u) k R e
        (pools k (constant_words (Operand.String symbol)) pb.has ∙ constant_words_lem M (Operand.String symbol) tt)) h)))))))

    -- ---- and, or: the left value stays where it tests as `sense`; else the right is worked out into the same register

    good_short : (sense : Bool) (jmp : ℕ → Instruction) →
        ((w : World M) (r n p : ℕ) (R : Registers M) →
        step_at M w.consts w.code (decode (aim n (words_of (jmp r)))) p R ≡ onward M w.consts (M.test (R r)) (λ b. branch M w.consts (beq b sense) n p R)) →
        (l r : ℕ) (T : M.Value → Bool → Evaluation M.Failure M.Value) (X : Bool → Type 0) →
        ((a : M.Value) → T a sense ≡ evaluates a) → ((a : M.Value) → T a (not sense) ≡ W r) → ((a : M.Value) (b : Bool) → Known (W r) → Known (T a b)) →
        (X (not sense) → A r) →
        {dest : Option Register} {m m0 m1 m2 m3 m4 : Made} {d s r' : Register} {j : ℕ} → Owns arity m → Room m3 →
        Aimed arity m dest d m0 →
        LoweredInto M args arity m0 (Some d) (S l) (A l) (W l) s m1 →
        InstructionPut (jmp (reg_of s)) m1 j m2 →
        LoweredInto M args arity m2 (Some d) (S r) (A r) (W r) r' m3 →
        OffsetPut j m3 m4 →
        LoweredInto M args arity m dest (1 + (S l + (S r + 0))) (A l × IfAny X (tests M (W l))) (and_then (W l) (λ a. and_then (given (M.test a)) (T a))) d m4
    good_short sense jmp acts l r T X stay on knows fair {dest} {m} {m0} {m1} {m2} {m3} {m4} {d} {s} {r'} {j} o room a q1 g q2 h =
        let l0 = a.level in
        let l1 = q1.grown.kept.more in
        let l2 = g.level in
        let l3 = q2.grown.kept.more in
        let l4 = h.level in
        let s1 = q1.short in
        let s2 = q2.short in
        let jj = g.which in
        let rm = room.small in
        let g24 : Grown j m2 m4 = grown_trans (le_refl _) (grown_at (omega arith) q2.grown) h.grown in
        let g14 : Grown (count m1) m1 m4 = grown_trans (omega arith) g.grown g24 in
        record {
          grown = grown_trans (omega arith) a.grown (grown_trans (omega arith) q1.grown g14);
          spot = a.spot;
          now = g14.held (reg_of d) (q1.grown.held (reg_of d) a.now);
          short = omega arith;
          known = known_bind (W l) _ q1.known (λ v. known_bind (given (M.test v)) _ (known_given (M.test v)) (λ b. knows v b q2.known));
          sim = λ laws w f R e pr fa k.
              let f1 : Final w (count m0) (count m1) m1 = earlier (omega arith) (omega arith) (le_refl _) g14.kept f in
              let f3 : Final w (count m2) (count m3) m3 = past_patch (omega arith) (omega arith) (omega arith) h f in
              let fj : w.code (w.base + j) ≡ decode (aim (count m3 - j) (words_of (jmp (reg_of s)))) =
              f.codes j (omega arith) (omega arith)
              ∙ ap decode (h.there ∙ ap (aim (count m3 - j)) (q2.grown.kept.same j (omega arith) ∙ g.there j jj)) in
              let inside : w.base + j < w.limit = omega (arith, f.top) in
              moved-run M arity w (omega arith) (q1.sim laws w f1 R e pr fa.0
              (after_ask (after_bind (W l) _ k) (ask_bind (W l) _ fa.1)
              (λ v kv fv R1 d1 p1. moved-run M arity w (omega arith)
              (run_branch M arity w (M.test v) (λ b. beq b sense) (count m3 - j) (w.base + j) (w.base + count m4) (w.base + count m2) R1
              (step_words M arity w (aim (count m3 - j) (words_of (jmp (reg_of s)))) (w.base + j) R1 fj
              ∙ acts w (reg_of s) (count m3 - j) (w.base + j) R1
              ∙ ap (λ x. onward M w.consts (M.test x) (λ b. branch M w.consts (beq b sense) (count m3 - j) (w.base + j) R1)) d1)
              inside (omega arith) (omega arith) (omega arith) (omega arith)
              (after_ask (after_bind (given (M.test v)) (T v) kv) fv
              (λ b kb fb. by_sense sense b (λ n. Run M arity w n R1 e)
              (λ b. Onward M args arity w e (w.base + count m4) m dest R (λ w R v. R (reg_of d) ≡ v) (T v b) × X b)
              (λ z. after_value (stay v) z.0 R1 (ap (λ x. R1 (reg_of x)) (sym q1.spot) ∙ d1) (λ q x n. p1 q (a.grown.held q x) (a.fresh q x n)))
              (λ z. q2.sim laws w f3 R1 e (params_kept M args arity m0 (Some d) (grown_owns arity a.grown o) (a.high, a.now) p1 pr) (fair z.1)
              (after_map (rw (on v) at z.0)
              (λ u ku R2 d2 p2. moved-run M arity w (omega arith) (ku R2 (ap (λ x. R2 (reg_of x)) (sym q2.spot) ∙ d2)
              (λ q x n. p2 q (g.grown.held q (q1.grown.held q (a.grown.held q x))) (a.fresh q x n) ∙ p1 q (a.grown.held q x) (a.fresh q x n))))))
              (kb, fb)))))));
        }

    pub good_and : (l r : ℕ) → P l → P r → (J : ℕ → Walk ℕ) (i : ℕ) (dest : Option Register) (m : Made) → Owns arity m → Target arity m dest →
        Holds (AsOperand m dest (1 + (S l + (S r + 0))) (A l × IfAny (λ b. Chosen M t args b (A r) (Unit {0})) (tests M (W l)))
        (and_then (W l) (λ a. and_then (given (M.test a)) (λ b. cond b (W r) (evaluates a))))) (lower_node free_temp t E J i (Node.LogicalAnd l r) dest m)
    unfolding lower_node
    good_and l r pl pr J i dest m o x =
        chain (destination_good arity m dest o x) (λ d m0 a.
        let o0 : Owns arity m0 = grown_owns arity a.grown o in
        chain (good_M l pl (Some d) m0 o0 (a.high, a.now)) (λ s m1 q1.
        chain (emit_holds (Instruction.JumpIfFalse (reg_of s) 0) m1) (λ j m2 g.
        let g02 : Grown (count m0) m0 m2 = grown_trans q1.grown.kept.more q1.grown g.grown in
        let o2 : Owns arity m2 = grown_owns arity g02 o0 in
        chain (good_M r pr (Some d) m2 o2 (a.high, g02.held (reg_of d) a.now)) (λ r' m3 q2.
        let o3 : Owns arity m3 = grown_owns arity q2.grown o2 in
        chain (patch_holds j m3 o3.room (let l1 = g.which in let l2 = g.level in let l3 = q2.grown.kept.more in omega arith)) (λ _ m4 h.
        fine (as_operand {m = m} (le_refl _) (good_short false (λ n. Instruction.JumpIfFalse n 0) (λ w r n p R. false_tests M w.consts w.code r n p R) l r
        (λ a b. cond b (W r) (evaluates a)) (λ b. Chosen M t args b (A r) (Unit {0})) (λ a. refl) (λ a. refl) knows (λ z. z) o o3.room a q1 g q2 h)))))))
      where
        knows : (a : M.Value) (b : Bool) → Known (W r) → Known (cond b (W r) (evaluates a))
        knows a true k = k
        knows a false k = tt

    pub good_or : (l r : ℕ) → P l → P r → (J : ℕ → Walk ℕ) (i : ℕ) (dest : Option Register) (m : Made) → Owns arity m → Target arity m dest →
        Holds (AsOperand m dest (1 + (S l + (S r + 0))) (A l × IfAny (λ b. Chosen M t args b (Unit {0}) (A r)) (tests M (W l)))
        (and_then (W l) (λ a. and_then (given (M.test a)) (λ b. cond b (evaluates a) (W r))))) (lower_node free_temp t E J i (Node.LogicalOr l r) dest m)
    unfolding lower_node
    good_or l r pl pr J i dest m o x =
        chain (destination_good arity m dest o x) (λ d m0 a.
        let o0 : Owns arity m0 = grown_owns arity a.grown o in
        chain (good_M l pl (Some d) m0 o0 (a.high, a.now)) (λ s m1 q1.
        chain (emit_holds (Instruction.JumpIfTrue (reg_of s) 0) m1) (λ j m2 g.
        let g02 : Grown (count m0) m0 m2 = grown_trans q1.grown.kept.more q1.grown g.grown in
        let o2 : Owns arity m2 = grown_owns arity g02 o0 in
        chain (good_M r pr (Some d) m2 o2 (a.high, g02.held (reg_of d) a.now)) (λ r' m3 q2.
        let o3 : Owns arity m3 = grown_owns arity q2.grown o2 in
        chain (patch_holds j m3 o3.room (let l1 = g.which in let l2 = g.level in let l3 = q2.grown.kept.more in omega arith)) (λ _ m4 h.
        fine (as_operand {m = m} (le_refl _) (good_short true (λ n. Instruction.JumpIfTrue n 0) (λ w r n p R. true_tests M w.consts w.code r n p R) l r
        (λ a b. cond b (evaluates a) (W r)) (λ b. Chosen M t args b (Unit {0}) (A r)) (λ a. refl) (λ a. refl) knows (λ z. z) o o3.room a q1 g q2 h)))))))
      where
        knows : (a : M.Value) (b : Bool) → Known (W r) → Known (cond b (evaluates a) (W r))
        knows a true k = tt
        knows a false k = k

    -- ---- block: the tail or nil

    tail_good : (tail : ℕ) (b : Bool) → (Named tail (cond b [] (tail ∷ [])) → P tail) → (d : Register) (m : Made) → Owns arity m → Target arity m (Some d) →
        Holds (LoweredInto M args arity m (Some d) (1 + total S (cond b [] (tail ∷ []))) (Chosen M t args b (Unit {0}) (A tail)) (cond b (evaluates M.nil) (W tail)))
        (cond b (load_constant Operand.Nil (Some d)) (lower_materializing (E tail) (Some d)) m)
    unfolding total Proper constant
    tail_good tail true p d m o g = load_good M args arity Operand.Nil m (Some d) o g refl tt (le_refl 1)
    tail_good tail false p d m o g = weaken (good_M tail (p first) (Some d) m o g) (λ r m' q. resized M args arity (omega arith) q)

    pub good_block : (tail : ℕ) → (Named tail (present tail) → P tail) → (J : ℕ → Walk ℕ) (i : ℕ) (dest : Option Register) (m : Made) → Owns arity m → Target arity m dest →
        Holds (AsOperand m dest (1 + total S (present tail)) (Chosen M t args (eqb tail absent) (Unit {0}) (A tail)) (cond (eqb tail absent) (evaluates M.nil) (W tail)))
        (lower_node free_temp t E J i (Node.Block tail) dest m)
    unfolding lower_node lower_tail present
    good_block tail p J i dest m o g =
        chain (destination_good arity m dest o g) (λ d m0 a.
        chain (tail_good tail (eqb tail absent) p d m0 (grown_owns arity a.grown o) (a.high, a.now)) (λ r m1 q.
        fine (as_operand {m = m} (le_refl _) (aimed_lowered M args arity a q))))
