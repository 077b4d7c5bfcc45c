-- What a lowering promises of its code: the invariant of the induction. The code from m to m' is a run that works the answer out, in any final
-- code and pool that agree with what was made: it goes on at its end where the answer is a value, which then stands in the result's register, and
-- ends with the failure otherwise; registers that m held are left alone, but for the destination. Assumes nothing.
use Rattle.std.specs.Prelude.{Option, Some, None}
use Prim.Native.Nat.{ℕ, ◌+◌, ◌≤◌, ◌<◌}
use native.Mathlib.Omega.{arith}
use native.Mathlib.Decide.{dec_le}
use native.Mathlib.Nat.{lt_of_lt_of_le, le_refl, le_trans}
use mathlib.Core.Path.{◌≡◌, refl, sym, ap, ◌∙◌, subst}
use mathlib.Core.Logic.{◌≢◌}
use mathlib.Core.List.{List}
use Rattle.environment.specs.declared.Register.{Register}
use Rattle.environment.specs.Laws.{Sound}
use Rattle.runtime.specs.declared.instruction.Instruction.{Instruction}
use Rattle.runtime.specs.declared.operand.Operand.{Operand}
use Rattle.runtime.specs.Operands.{reg_of}
use Rattle.runtime.specs.Instruction.{words_of, decode}
use Rattle.runtime.specs.Value.{constant_words}
use Rattle.lowering.specs.Walk.{Made}
use Rattle.lowering.specs.Steps.{destination, load_constant}
use Rattle.lowering.specs.Lower.{Source, materialized}
use Rattle.lowering.specs.Meaning.{val, Operators, Hypotheses, Evaluation, evaluates}
use Rattle.lowering.specs.Machine.{constant_of, Ending, failed, Registers, action, act}
use Rattle.lowering.specs.Trace.{registers_of, Held, Free}
use Rattle.lowering.proofs.Running.Decode.{Proper, constant, constant_words_lem}
use Rattle.lowering.proofs.Running.Steps.{Holds, fine, chain, weaken, hit, miss, apart, count, instruction_at, Loose, Has, Room, CodeKept, Grown, grown_refl, grown_trans, InstructionPut, ConstantPooled, OffsetPut, emit_holds, pool_holds, take_holds}
use Rattle.lowering.proofs.Running.MachineRuns.{After, worked, after_value, Known, World, Run, step_instruction, run_fill}

-- the final code agrees with m at the places from lo to before hi, the final constants with m's, and the limit is past it
pub record Final {M : Operators} (w : World M) (lo hi : ℕ) (m : Made) : Type 0 where
  pub codes : (i : ℕ) → lo ≤ i → i < hi → w.code (w.base + i) ≡ decode (instruction_at m i)
  pub pools : (k : ℕ) (ws : List ℕ) → Has m k ws → w.consts k ≡ constant_of M ws
  pub top : w.base + hi ≤ w.limit

pub earlier : {M : Operators} {w : World M} {lo hi lo' hi' b : ℕ} {m m' : Made} →
    lo ≤ lo' → hi' ≤ hi → hi' ≤ b → CodeKept b m m' → Final w lo hi m' → Final w lo' hi' m
earlier l h q g f = record {
  codes = λ i a z. f.codes i (le_trans l a) (lt_of_lt_of_le z h) ∙ ap decode (g.same i (lt_of_lt_of_le z q));
  pools = λ k ws x. f.pools k ws (g.consts k ws x);
  top = omega (arith, f.top);
}

-- past the jump that is patched
pub past_patch : {M : Operators} {w : World M} {lo hi lo' hi' j : ℕ} {m m' : Made} →
    lo ≤ lo' → hi' ≤ hi → j < lo' → OffsetPut j m m' → Final w lo hi m' → Final w lo' hi' m
past_patch l h q g f = record {
  codes = λ i a z. f.codes i (le_trans l a) (lt_of_lt_of_le z h) ∙ ap decode (g.others i (λ e. omega arith));
  pools = λ k ws x. f.pools k ws (g.grown.kept.consts k ws x);
  top = omega (arith, f.top);
}

-- a register that is not the destination
abbrev pub Apart : Option Register → ℕ → Type 0
Apart None q = Unit {0}
Apart (Some d) q = q ≢ reg_of d

module _ (arity : ℕ) where
  -- where a result may stand: in a parameter's register or one that was free; in the destination, if one was given
  abbrev pub Spot : Option Register → Made → Register → Type 0
  Spot None m r = Loose arity m r
  Spot (Some d) m r = r ≡ d

  abbrev pub Target : Made → Option Register → Type 0
  Target m None = Unit {0}
  Target m (Some d) = (arity ≤ reg_of d) × Held m (reg_of d)

  -- the parameters' registers are held, and what was made is sound
  pub record Owns (m : Made) : Type 0 where
    pub params : (r : ℕ) → r < arity → Held m r
    pub sound : Sound (registers_of m)
    pub room : Room m

  pub grown_owns : {b : ℕ} {m m' : Made} → Grown b m m' → Owns m → Owns m'
  grown_owns g o = record { params = λ r h. g.held r (o.params r h); sound = g.sound o.sound; room = g.kept.room o.room }

  above : (m : Made) (d : ℕ) → Owns m → Free m d → arity ≤ d
  above m d o w = go (dec_le arity d)
    where
      go : Dec (arity ≤ d) → arity ≤ d
      go (yes h) = h
      go (no n) = absurd (apart (registers_of m) (o.params d (omega arith)) w refl)

  loose_temporary : (m : Made) (r : Register) → r ≡ Register.Temp (reg_of r) → Free m (reg_of r) → Loose arity m r
  loose_temporary m r e f = subst (λ x. Loose arity m x) (sym e) f

  -- a destination
  pub record Aimed (m : Made) (dest : Option Register) (d : Register) (m' : Made) : Type 0 where
    pub grown : Grown (count m) m m'
    pub level : count m' ≡ count m
    pub now : Held m' (reg_of d)
    pub high : arity ≤ reg_of d
    pub spot : Spot dest m d
    pub fresh : (q : ℕ) → Held m q → Apart dest q → q ≢ reg_of d

  pub destination_good : (m : Made) (dest : Option Register) → Owns m → Target m dest → Holds (Aimed m dest) (destination dest m)
  unfolding destination
  destination_good m (Some d) o t = fine (record { grown = grown_refl _ m; level = refl; now = t.1; high = t.0; spot = refl; fresh = λ q h n. n })
  destination_good m None o t =
      weaken (take_holds m) (λ d m' k. record {
        grown = k.grown;
        level = k.level;
        now = k.now;
        high = above m (reg_of d) o k.was;
        spot = loose_temporary m d k.temporary k.was;
        fresh = λ q h n. apart (registers_of m) h k.was;
      })

module _ (M : Operators) (args : ℕ → M.Value) (arity : ℕ) where
  abbrev pub Params : Registers M → Type 0
  Params R = (r : ℕ) → r < arity → R r ≡ args r

  abbrev pub Keeps : Made → Option Register → Registers M → Registers M → Type 0
  Keeps m dest R R' = (q : ℕ) → Held m q → Apart dest q → R' q ≡ R q

  pub params_kept : (m : Made) (dest : Option Register) {R R' : Registers M} → Owns arity m → Target arity m dest → Keeps m dest R R' → Params R → Params R'
  params_kept m None o t k a r h = k r (o.params r h) tt ∙ a r h
  params_kept m (Some d) o t k a r h = k r (o.params r h) (λ e. omega (arith, t.0)) ∙ a r h

  -- what a run with ending e needs once an answer is worked out: to go on from place p where the answer is a value, which D finds in the registers
  abbrev pub Onward : {A : Type 0} → World M → Ending M → ℕ → Made → Option Register → Registers M → (World M → Registers M → A → Type 0) → Evaluation M.Failure A → Type 0
  Onward w e p m dest R D ans = After (λ v. (R' : Registers M) → D w R' v → Keeps m dest R R' → Run M arity w p R' e) (λ x. e ≡ failed x) ans

  abbrev pub Sim : {A : Type 0} → Made → Made → Option Register → Type 0 → Evaluation M.Failure A → (World M → Registers M → A → Type 0) → Type 0
  Sim m m' dest fair ans D = (laws : Hypotheses M) (w : World M) → Final w (count m) (count m') m' →
      (R : Registers M) (e : Ending M) → Params R → fair →
      Onward w e (w.base + count m') m dest R D ans →
      Run M arity w (w.base + count m) R e

  -- lowered into a register
  pub record LoweredInto (m : Made) (dest : Option Register) (s : ℕ) (fair : Type 0) (ans : Evaluation M.Failure M.Value) (r : Register) (m' : Made) : Type 0 where
    pub grown : Grown (count m) m m'
    pub spot : Spot arity dest m r
    pub now : Held m' (reg_of r)
    pub short : count m' ≤ count m + s
    pub known : Known ans
    pub sim : Sim m m' dest fair ans (λ w R v. R (reg_of r) ≡ v)

  -- lowered as an operand: a literal, and nothing made; or a register
  pub data Expr (m : Made) (dest : Option Register) (s : ℕ) (fair : Type 0) (ans : Evaluation M.Failure M.Value) : Source → Made → Type 0 where
    literal : {c : Operand} → ans ≡ evaluates (constant M c) → Proper c → 1 ≤ s → Expr m dest s fair ans (Source.constant c) m
    in_register : {r : Register} {m' : Made} → LoweredInto m dest s fair ans r m' → Expr m dest s fair ans (Source.register r) m'

  known_value : {v : M.Value} (ans : Evaluation M.Failure M.Value) → ans ≡ evaluates v → Known ans
  known_value ans e = rw e tt

  -- a constant loaded into the destination
  pub loaded : (c : Operand) {m m1 m2 m3 : Made} {dest : Option Register} {s k n : ℕ} {d : Register} {fair : Type 0} {ans : Evaluation M.Failure M.Value} →
      ans ≡ evaluates (constant M c) → Proper c → 1 ≤ s → Aimed arity m dest d m1 → ConstantPooled (constant_words c) m1 k m2 →
      InstructionPut (Instruction.LoadConst (reg_of d) k) m2 n m3 → LoweredInto m dest s fair ans d m3
  unfolding action act
  loaded c {m} {m1} {m2} {m3} {dest} {s} {k} {n} {d} {fair} {ans} v pc h a b g =
      let l1 = a.level in
      let l2 = b.level in
      let l3 = g.level in
      record {
        grown = grown_trans (omega arith) a.grown (grown_trans (omega arith) b.grown g.grown);
        spot = a.spot;
        now = g.grown.held (reg_of d) (b.grown.held (reg_of d) a.now);
        short = omega arith;
        known = known_value ans v;
        sim = λ laws w f R e pa fa k1.
            let there : w.consts k ≡ Some (constant M c) = f.pools k (constant_words c) (g.grown.kept.consts k (constant_words c) b.has) ∙ constant_words_lem M c pc in
            let fetched : w.code (w.base + count m) ≡ decode (words_of (Instruction.LoadConst (reg_of d) k)) =
            f.codes (count m) (le_refl _) (omega arith) ∙ ap decode (g.there (count m) (omega arith)) in
            let inside : w.base + count m < w.limit = omega (arith, f.top) in
            run_fill M arity w (val (constant M c)) (w.base + count m) (w.base + count m3) (reg_of d) R
            (step_instruction M arity w (Instruction.LoadConst (reg_of d) k) (w.base + count m) R fetched ∙ rw there)
            inside a.high (omega arith)
            (worked (after_value v k1 _ (hit (reg_of d) _ _) (λ q x y. miss q (reg_of d) _ _ (a.fresh q x y))));
      }

  pub load_good : (c : Operand) (m : Made) (dest : Option Register) {s : ℕ} {fair : Type 0} {ans : Evaluation M.Failure M.Value} →
      Owns arity m → Target arity m dest → ans ≡ evaluates (constant M c) → Proper c → 1 ≤ s → Holds (LoweredInto m dest s fair ans) (load_constant c dest m)
  unfolding load_constant
  load_good c m dest o t e pc h =
      chain (destination_good arity m dest o t) (λ d m1 a.
      chain (pool_holds c m1) (λ k m2 b.
      chain (emit_holds (Instruction.LoadConst (reg_of d) k) m2) (λ n m3 g.
      fine (loaded c e pc h a b g))))

  pub materialized_good : {m m' : Made} {dest : Option Register} {s : ℕ} {fair : Type 0} {ans : Evaluation M.Failure M.Value} {x : Source} →
      Owns arity m → Target arity m dest → Expr m dest s fair ans x m' → Holds (LoweredInto m dest s fair ans) (materialized x dest m')
  unfolding materialized
  materialized_good o t (in_register l) = fine l
  materialized_good {m} {dest = dest} o t (literal {c = c} e pc h) = load_good c m dest o t e pc h
