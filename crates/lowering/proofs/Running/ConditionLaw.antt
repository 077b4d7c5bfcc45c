-- The law of conditions: a run of a condition's code, patched to a goal, read off the machine's own steps; and of `lower`. Assumes nothing.
use Rattle.std.specs.Prelude.{Option, Some, None}
use Prim.Native.Nat.{ℕ, zero, suc, ◌+◌, ◌≤◌, ◌<◌}
use native.Mathlib.Omega.{arith}
use native.Mathlib.Nat.{le_refl, zero-add}
use native.Mathlib.Decide.{dec_le}
use mathlib.Core.Path.{◌≡◌, refl, sym, ap, ◌∙◌, subst}
use mathlib.Core.List.{List}
use mathlib.Core.Bool.{Bool, true, false, cond, not, ◌&&◌, beq, false≢true}
use lib.Dec.{eqb}
use lib.ListN.{length}
use borrow.Author.Tests.{eqb-true, eq-eqb, le-ltb}
use Rattle.words.specs.Records.{record_at}
use Rattle.words.specs.Words.{words}
use Rattle.runtime.specs.declared.instruction.Instruction.{Instruction}
use Rattle.runtime.specs.Instruction.{instruction_width, decode}
use Rattle.lowering.specs.Tree.{Tree, tree_of}
use Rattle.lowering.specs.Checked.{AllYes}
use Rattle.lowering.specs.Walk.{Made, Outcome, ends, stops}
use Rattle.lowering.specs.Steps.{free_temp, put_offset}
use Rattle.lowering.specs.Questions.{Verdict, passed, refused, questions}
use Rattle.lowering.specs.Result.{Lowered, result, lowered, begin, lower_root, lowered_of, lower_checked, lower, patch_jump}
use Rattle.lowering.specs.Meaning.{val, fail, Operators, Evaluation, evaluates, fails, undefined, given, value_at}
use Rattle.lowering.specs.Machine.{record_in, fetch, constant_at, constant_of, target, Ending, returned, failed, lost, Registers, Now, ended, step_at, machine_step, after}
use Rattle.lowering.specs.Conditions.{mode_of, Entry, Goal, test_of, run_to, LeftBy, UpTo, Exactly, ConditionOf, ConditionLaw}
use Rattle.lowering.specs.Trace.{JumpKind}
use Rattle.lowering.specs.Answers.{MayPatch}
use Rattle.lowering.proofs.Running.Steps.{Holds, holds_ends, count, Room, kind_is, offset_there, offset_others, offset_capacity}
use Rattle.lowering.proofs.Running.MachineRuns.{After, worked, broke, after_bind, after_map, Known, known_bind, known_given, World, out, Run, leave, last, next}
use Rattle.lowering.proofs.Running.Promise.{Final}
use Rattle.lowering.proofs.Running.Induction.{RootJumped, root_false, root_true}
use Rattle.lowering.proofs.Running.Law.{after_first, after_later, one_ending, at_place, at_registers, not_both, begin_owns, begin_marks, begin_count, known_defined, fetch_record, constant_record, constant_inside}
use Rattle.lowering.proofs.Questions.Checked.{questions_passed, question2_parts, and_left, and_right}
use Rattle.lowering.proofs.Questions.Passed.{questions_fall, few_parameters}
use Rattle.lowering.proofs.Walk.Answers.{may_can}
use Rattle.lowering.proofs.Running.Accepted.{number_positive}

-- ---- a run up to where it ends or is left

module _ (M : Operators) (arity : ℕ) (w : World M) where
  abbrev went : ℕ → Now M → Now M
  went n s = after M w.consts w.code n s

  abbrev Same : Registers M → Registers M → Type 0
  Same Q R = (r : ℕ) → r < arity → Q r ≡ R r

  -- after n steps it has ended, or was left by the last one
  data End (R : Registers M) (e : Ending M) (s : Now M) (n : ℕ) (now : Now M) : Type 0 where
    ended_so : now ≡ ended e → End R e s n now
    left_at : (p q k : ℕ) (P Q : Registers M) → now ≡ Now.at q Q → n ≡ suc k → went k s ≡ Now.at p P → w.stop p q ≡ true → Same Q R → End R e s n now

  -- after k steps it is at a place, k further or more
  record Stands (p : ℕ) (R : Registers M) (k : ℕ) (now : Now M) : Type 0 where
    place : ℕ
    registers : Registers M
    is : now ≡ Now.at place registers
    on : p + k ≤ place
    below : place < w.limit
    kept : Same registers R

  record Arrives (p : ℕ) (R : Registers M) (e : Ending M) (n : ℕ) : Type 0 where
    end : End R e (Now.at p R) n (went n (Now.at p R))
    before : (k : ℕ) → k < n → Stands p R k (went k (Now.at p R))
    once : (j k a b : ℕ) (A B : Registers M) → j < k → k < n → went j (Now.at p R) ≡ Now.at a A → went k (Now.at p R) ≡ Now.at b B → a < b

  one_step : {p : ℕ} {R : Registers M} {e : Ending M} → p < w.limit → End R e (Now.at p R) 1 (went 1 (Now.at p R)) → Arrives p R e 1
  unfolding after
  one_step {p} {R} {e} l z = record { end = z; before = before; once = λ j k a b A B x y. absurd (omega arith) }
    where
      before : (k : ℕ) → k < 1 → Stands p R k (went k (Now.at p R))
      before zero h = record { place = p; registers = R; is = refl; on = omega arith; below = l; kept = λ r x. refl }
      before (suc k) h = absurd (omega arith)

  more : {p q n : ℕ} {R Q : Registers M} {e : Ending M} → p < w.limit → machine_step M w.consts w.code (Now.at p R) ≡ Now.at q Q → p < q → Same Q R →
      Arrives q Q e n → Arrives p R e (suc n)
  unfolding after
  more {p} {q} {n} {R} {Q} {e} l s h kp ih = record { end = over ih.end; before = before; once = once }
    where
      shift : (k : ℕ) → went (suc k) (Now.at p R) ≡ went k (Now.at q Q)
      shift k = after_first M w.consts w.code k (Now.at p R) ∙ ap (went k) s

      over : End Q e (Now.at q Q) n (went n (Now.at q Q)) → End R e (Now.at p R) (suc n) (went (suc n) (Now.at p R))
      over (ended_so z) = ended_so (shift n ∙ z)
      over (left_at a b i A B z c y x k) = left_at a b (suc i) A B (shift n ∙ z) (ap suc c) (shift i ∙ y) x (λ r l. k r l ∙ kp r l)

      before : (k : ℕ) → k < suc n → Stands p R k (went k (Now.at p R))
      before zero x = record { place = p; registers = R; is = refl; on = omega arith; below = l; kept = λ r x. refl }
      before (suc k) x =
          let b : Stands q Q k (went k (Now.at q Q)) = ih.before k (omega arith) in
          record {
            place = b.place;
            registers = b.registers;
            is = shift k ∙ b.is;
            on = omega (arith, b.on);
            below = b.below;
            kept = λ r z. b.kept r z ∙ kp r z;
          }

      once : (j k a b : ℕ) (A B : Registers M) → j < k → k < suc n → went j (Now.at p R) ≡ Now.at a A → went k (Now.at p R) ≡ Now.at b B → a < b
      once zero zero a b A B x y u v = absurd (omega arith)
      once (suc j) zero a b A B x y u v = absurd (omega arith)
      once zero (suc k) a b A B x y u v =
          let t : Stands q Q k (went k (Now.at q Q)) = ih.before k (omega arith) in
          let first : p ≡ a = at_place M arity w u in
          let second : t.place ≡ b = at_place M arity w (sym t.is ∙ sym (shift k) ∙ v) in
          omega (arith, t.on)
      once (suc j) (suc k) a b A B x y u v = ih.once j k a b A B (omega arith) (omega arith) (sym (shift j) ∙ u) (sym (shift k) ∙ v)

  arrives : {p : ℕ} {R : Registers M} {e : Ending M} → Run M arity w p R e → (n : ℕ) × Arrives p R e n
  unfolding after
  arrives (last l s) = (1, one_step l (ended_so s))
  arrives (leave {p = p} {q = q} {R = R} {Q = Q} l s x kp) = (1, one_step l (left_at p q 0 R Q s refl refl x kp))
  arrives (next l s h kp r) = let ih = arrives r in (suc ih.0, more l s h kp ih.1)

-- ---- an accepted condition

-- operators, for what does not depend on them
unit_operators : Operators
unit_operators = record {
  Value = Unit {0};
  Failure = Unit {0};
  number = λ x. tt;
  string = λ x. tt;
  boolean = λ x. tt;
  nil = tt;
  unary = λ o x. val tt;
  binary = λ o x y. val tt;
  compare = λ o x y. fail tt;
  test = λ x. fail tt;
}

unit_values : ℕ → unit_operators.Value
unfolding unit_operators
unit_values r = tt

-- nothing is fetched outside of the code
no_record : (w : ℕ) (ws : List ℕ) (n q : ℕ) → n ≤ q → record_in w ws n q ≡ None
unfolding record_in
no_record w ws n q h = rw (le-ltb q n h)

outside : (ws : List ℕ) (n q : ℕ) → n ≤ q → fetch ws n q ≡ None
unfolding fetch
outside ws n q h = ap (λ (o : Option (List ℕ)). elim o [ Some r ↦ decode r | None ↦ None ]) (no_record instruction_width ws n q h)

own_sense : (b : Bool) (y n : ℕ) → cond (beq b b) y n ≡ y
own_sense true y n = refl
own_sense false y n = refl

other_sense : (b : Bool) (y n : ℕ) → cond (beq (not b) b) y n ≡ n
other_sense true y n = refl
other_sense false y n = refl

-- two places apart tell the sense
sense_of : (b sense : Bool) (y n : ℕ) → n < y → cond (beq b sense) y n ≡ y → b ≡ sense
sense_of true true y n l e = refl
sense_of false false y n l e = refl
sense_of true false y n l e = absurd (omega arith)
sense_of false true y n l e = absurd (omega arith)

not_sense_of : (b sense : Bool) (y n : ℕ) → n < y → cond (beq b sense) y n ≡ n → b ≡ not sense
not_sense_of true true y n l e = absurd (omega arith)
not_sense_of false false y n l e = absurd (omega arith)
not_sense_of true false y n l e = refl
not_sense_of false true y n l e = refl

past_both : (b : Bool) (y n : ℕ) → n < y → n ≤ cond b y n
past_both true y n l = omega arith
past_both false y n l = omega arith

module _ (sense : Bool) (t : Tree) (root : ℕ) (m m' : Made) (j : ℕ) (empty : count m ≡ 0) (room : Room m')
    (good : (M : Operators) (args : ℕ → M.Value) → RootJumped M t args sense root m j m') where
  abbrev arity : ℕ
  arity = length t.names

  abbrev alone : Lowered
  alone = lowered (result 0 j 0 0 (count m') m'.state.counts.constants m'.state.registers.frame_size arity) m'

  level : count m' ≡ suc j
  level = (good unit_operators unit_values).level

  may : MayPatch m'.code (count m') j 0
  may =
      let l = level in
      record {
        below = omega arith;
        within_buffer = room.inside;
        jump = subst JumpKind (kind_is j 0 m' room (omega arith)) (good unit_operators unit_values).jump;
      }

  module _ (g : Goal j) where
    patched : patch_jump m'.code (count m') j g.offset ≡ record { number = 0; code = put_offset m'.code j g.offset }
    unfolding patch_jump
    patched = rw (may_can m'.code (count m') j 0 may)

    module _ (s : Entry sense t root) where
      abbrev M : Operators
      M = s.operators

      abbrev consts : ℕ → Option M.Value
      consts = constant_at M m'.constants m'.state.counts.constants

      abbrev code : ℕ → Option Instruction
      code = fetch (patch_jump m'.code (count m') j g.offset).code (count m')

      world : (ℕ → ℕ → Bool) → World M
      world stop = record { consts = consts; code = code; base = 0; limit = count m'; stop = stop }

      fetched : (i : ℕ) → i < count m' → code i ≡ decode (record_at instruction_width (put_offset m'.code j g.offset) i)
      fetched i h =
          let l = level in
          ap (λ p. fetch p.code (count m') i) patched
          ∙ fetch_record (put_offset m'.code j g.offset) (count m') i h
          (let c = offset_capacity j g.offset m' room (omega arith) in omega (arith, room.inside))

      final : (stop : ℕ → ℕ → Bool) → Final (world stop) (count m) j m'
      unfolding world
      final stop =
          let l = level in
          record {
            codes = λ i lo hi.
                ap code (zero-add i) ∙ fetched i (omega arith) ∙ ap decode (offset_others j g.offset m' room (omega arith) i (λ e. omega arith));
            pools = λ k ws h. constant_record M m'.constants m'.state.counts.constants k h.inside (constant_inside m'.constants k (ap length h.there ∙ h.whole)) ∙ ap (constant_of M) h.there;
            top = omega arith;
          }

      -- the run, if it may be left where the test sends it
      run_to_lem : (stop : ℕ → ℕ → Bool) (e : Ending M) →
          After (λ b. stop j (cond (beq b sense) g.place (count m')) ≡ true) (λ x. e ≡ failed x) (test_of sense t root alone s) →
          Run M arity (world stop) 0 s.registers e
      unfolding world
      run_to_lem stop e k =
          let l = level in
          let z : 0 + j ≡ j = zero-add j in
          let b : 0 + suc j ≡ count m' = omega arith in
          subst (λ p. Run M arity (world stop) p s.registers e) (omega arith)
          ((good M s.parameters).sim s.hypotheses (world stop) g.offset g.place (ap (λ p. target p g.offset) z ∙ g.reached) (final stop)
          (ap code z ∙ fetched j (omega arith) ∙ ap decode (offset_there j g.offset m' room (omega arith)))
          (omega arith) s.registers e s.filled (s.order, s.own)
          (after_map (after_bind (value_at M t s.parameters root) (λ a. given (M.test a)) k) (λ v kv. after_map kv
          (λ c x R' kp.
          out (ap (λ i. stop i (cond (beq c sense) g.place (0 + suc j))) z ∙ ap (λ n. stop j (cond (beq c sense) g.place n)) b ∙ x)))))

      abbrev run : ℕ → Now M
      run n = run_to sense t root alone g s n

      abbrev tested : Evaluation M.Failure Bool
      tested = test_of sense t root alone s

      abbrev Left : Evaluation M.Failure Bool → Now M → Type 0
      Left r now = LeftBy sense t root alone g s r now

      abbrev ByJump : ℕ → Type 0
      ByJump n = (b : Bool) → tested ≡ evaluates b → (k : ℕ) × (P : Registers M) × (n ≡ k + 1) × (run k ≡ Now.at j P)

      -- a run that arrives is one up to there
      up_to : (stop : ℕ → ℕ → Bool) (e : Ending M) (n : ℕ) → Arrives M arity (world stop) 0 s.registers e n → Left tested (run n) → ByJump n → UpTo sense t root alone g s n
      unfolding world
      up_to stop e n a left jumps = record { left = left; by_jump = jumps; steps = steps n (λ k h. a.before k h); inside = inside; once = a.once; parameters = parameters }
        where
          steps : (n : ℕ) → ((k : ℕ) → k < n → Stands M arity (world stop) 0 s.registers k (run k)) → n ≤ count m'
          steps zero f = omega arith
          steps (suc n) f = let b = f n (omega arith) in omega (arith, b.on, b.below)

          inside : (k : ℕ) → k < n → (p : ℕ) × (P : Registers M) × (run k ≡ Now.at p P) × (p < count m')
          inside k h = let b = a.before k h in (b.place, b.registers, b.is, b.below)

          same : (k p q : ℕ) (P Q : Registers M) → run k ≡ Now.at p P → run k ≡ Now.at q Q → Q ≡ P
          same k p q P Q h z = at_registers M arity (world stop) (sym z ∙ h)

          at_end : (p : ℕ) (P : Registers M) → End M arity (world stop) s.registers e (Now.at 0 s.registers) n (run n) → run n ≡ Now.at p P → (r : ℕ) → r < arity → P r ≡ s.parameters r
          at_end p P (ended_so z) h r l = absurd (not_both M arity (world stop) (sym z ∙ h))
          at_end p P (left_at i q k I Q z c y x kp) h r l = ap (λ f. f r) (sym (same n p q P Q h z)) ∙ kp r l ∙ s.filled r l

          parameters : (k p : ℕ) (P : Registers M) → k ≤ n → run k ≡ Now.at p P → (r : ℕ) → r < arity → P r ≡ s.parameters r
          parameters k p P le h r l = go (dec_le n k)
            where
              go : Dec (n ≤ k) → P r ≡ s.parameters r
              go (yes z) = let q : k ≡ n = omega arith in at_end p P a.end (ap run (sym q) ∙ h) r l
              go (no z) = let b = a.before k (omega arith) in ap (λ f. f r) (sym (same k p b.place P b.registers h b.is)) ∙ b.kept r l ∙ s.filled r l

      -- where the test sends it
      abbrev to : Bool → ℕ
      to b = cond (beq b sense) g.place (count m')

      stop_at : ℕ → ℕ → ℕ → Bool
      stop_at q p p' = eqb p j && eqb p' q

      arrived : (b : Bool) → tested ≡ evaluates b → (e : Ending M) → (n : ℕ) × Arrives M arity (world (stop_at (to b))) 0 s.registers e n
      unfolding stop_at
      arrived b q e =
          arrives M arity (world (stop_at (to b)))
          (run_to_lem (stop_at (to b)) e (subst (λ r. After (λ c. stop_at (to b) j (to c) ≡ true) (λ x. e ≡ failed x) r) (sym q) (worked (rw (eq-eqb j j refl, eq-eqb (to b) (to b) refl)))))

      -- it is left there: it cannot end in two ways
      goes : (b : Bool) → tested ≡ evaluates b → (n : ℕ) × UpTo sense t root alone g s n
      unfolding world stop_at
      goes b q =
          let one = arrived b q lost in
          let two = arrived b q (returned M.nil) in
          go one.0 two.0 one.1 two.1 one.1.end two.1.end
        where
          leaving : (n i x : ℕ) (Q : Registers M) → run n ≡ Now.at x Q → stop_at (to b) i x ≡ true → Left tested (run n)
          leaving n i x Q z h = subst (λ r. Left r (run n)) (sym q) (Q, z ∙ ap (λ y. Now.at y Q) (eqb-true x (to b) (and_right (eqb i j) (eqb x (to b)) h)))

          jumping : (n i x k : ℕ) (I : Registers M) → n ≡ suc k → run k ≡ Now.at i I → stop_at (to b) i x ≡ true → ByJump n
          jumping n i x k I c y h d q = (k, I, omega arith, y ∙ ap (λ p. Now.at p I) (eqb-true i j (and_left (eqb i j) (eqb x (to b)) h)))

          go : (n k : ℕ) → Arrives M arity (world (stop_at (to b))) 0 s.registers lost n → Arrives M arity (world (stop_at (to b))) 0 s.registers (returned M.nil) k →
              End M arity (world (stop_at (to b))) s.registers lost (Now.at 0 s.registers) n (run n) →
              End M arity (world (stop_at (to b))) s.registers (returned M.nil) (Now.at 0 s.registers) k (run k) →
              (n : ℕ) × UpTo sense t root alone g s n
          go n k a c (left_at i x l I Q z f y h kp) d = (n, up_to (stop_at (to b)) lost n a (leaving n i x Q z h) (jumping n i x l I f y h))
          go n k a c (ended_so z) (left_at i x l I Q v f y h kp) =
              (k, up_to (stop_at (to b)) (returned M.nil) k c (leaving k i x Q v h) (jumping k i x l I f y h))
          go n k a c (ended_so z) (ended_so y) =
              let both : ◌≡◌ {A = Now M} (ended lost) (ended (returned M.nil)) = one_ending M consts code n k (Now.at 0 s.registers) z y in
              let w : ◌≡◌ {A = ℕ} 0 1 = cc in
              absurd (omega arith)

      breaks : (y : M.Failure) → tested ≡ fails y → (n : ℕ) × UpTo sense t root alone g s n
      unfolding world
      breaks y q =
          let a = arrives M arity (world (λ p p'. false)) (run_to_lem (λ p p'. false) (failed y) (subst (λ r. After (λ c. false ≡ true) (λ x. ◌≡◌ {A = Ending M} (failed y) (failed x)) r) (sym q) (broke refl))) in
          (a.0, up_to (λ p p'. false) (failed y) a.0 a.1 (subst (λ r. Left r (run a.0)) (sym q) (go a.0 a.1.end)) (λ b z. absurd (fails_value (sym q ∙ z))))
        where
          fails_value : {b : Bool} → ◌≡◌ {A = Evaluation M.Failure Bool} (fails y) (evaluates b) → ⊥
          fails_value e = let z : ◌≡◌ {A = ℕ} 0 1 = cc in omega arith

          go : (n : ℕ) → End M arity (world (λ p p'. false)) s.registers (failed y) (Now.at 0 s.registers) n (run n) → run n ≡ ended (failed y)
          go n (ended_so z) = z
          go n (left_at i x k I Q z c y h kp) = absurd (false≢true h)

      runs : (n : ℕ) × UpTo sense t root alone g s n
      runs = go tested refl (known_bind (value_at M t s.parameters root) _ (good M s.parameters).known (λ v. known_given (M.test v)))
        where
          go : (r : Evaluation M.Failure Bool) → tested ≡ r → Known r → (n : ℕ) × UpTo sense t root alone g s n
          go (evaluates b) q k = goes b q
          go (fails y) q k = breaks y q
          go undefined q k = absurd k

      -- a goal past the place after the code
      module _ (ahead : count m' < g.place) (n : ℕ) (u : UpTo sense t root alone g s n) where
        abbrev go_on : Now M → Now M
        go_on now = machine_step M consts code now

        past : (q : ℕ) (Q : Registers M) → count m' ≤ q → go_on (Now.at q Q) ≡ ended lost
        unfolding machine_step step_at
        past q Q h = ap (λ i. step_at M consts code i q Q) (outside (patch_jump m'.code (count m') j g.offset).code (count m') q h)

        to_past : (b : Bool) → count m' ≤ to b
        to_past b = past_both (beq b sense) g.place (count m') ahead

        -- one step later it has ended
        after_that : (r : Evaluation M.Failure Bool) → Left r (run n) → (e : Ending M) × (run (suc n) ≡ ended e)
        unfolding after
        after_that (evaluates b) (R, z) = (lost, ap go_on z ∙ past (to b) R (to_past b))
        after_that (fails y) z = (failed y, after_later M consts code n (suc n) (Now.at 0 s.registers) (omega arith) z)
        after_that undefined z = absurd z

        no_more : (k p : ℕ) (P : Registers M) → run k ≡ Now.at p P → k ≤ n
        no_more k p P h = go (dec_le k n)
          where
            go : Dec (k ≤ n) → k ≤ n
            go (yes l) = l
            go (no l) =
                let e = after_that tested u.left in
                absurd (not_both M arity (world (λ p p'. false)) (sym (after_later M consts code (suc n) k (Now.at 0 s.registers) (omega arith) e.1) ∙ h))

        -- it is past the code only once
        only_there : (k p : ℕ) (P : Registers M) → count m' ≤ p → run k ≡ Now.at p P → k ≡ n
        only_there k p P l h = go (dec_le n k)
          where
            go : Dec (n ≤ k) → k ≡ n
            go (yes z) = let q = no_more k p P h in omega arith
            go (no z) =
                let i = u.inside k (omega arith) in
                let same : i.0 ≡ p = at_place M arity (world (λ p p'. false)) (sym i.2 ∙ h) in
                absurd (omega (arith, i.3))

        -- what is said of a place at which it is left
        at_left : (r : Evaluation M.Failure Bool) (p : ℕ) (P : Registers M) → Left r (run n) → run n ≡ Now.at p P → (b : Bool) × (r ≡ evaluates b) × (to b ≡ p)
        at_left (evaluates b) p P (R, z) h = (b, refl, at_place M arity (world (λ p p'. false)) (sym z ∙ h))
        at_left (fails y) p P z h = absurd (not_both M arity (world (λ p p'. false)) (sym z ∙ h))
        at_left undefined p P z h = absurd z

        left_of : (b : Bool) → tested ≡ evaluates b → (R : Registers M) × (run n ≡ Now.at (to b) R)
        left_of b q = subst (λ r. Left r (run n)) q u.left

        fails_back : (r : Evaluation M.Failure Bool) (y : M.Failure) (k : ℕ) → Left r (run n) → run k ≡ ended (failed y) → r ≡ fails y
        unfolding after
        fails_back (evaluates b) y k (R, z) h =
            let both : ◌≡◌ {A = Now M} (ended lost) (ended (failed y)) =
            one_ending M consts code (suc n) k (Now.at 0 s.registers) (ap go_on z ∙ past (to b) R (to_past b)) h in
            let w : ◌≡◌ {A = ℕ} 0 1 = cc in
            absurd (omega arith)
        fails_back (fails x) y k z h =
            let both : ◌≡◌ {A = Now M} (ended (failed x)) (ended (failed y)) = one_ending M consts code n k (Now.at 0 s.registers) z h in
            cc
        fails_back undefined y k z h = absurd z

        exactly : Exactly sense t root alone g s
        exactly = record {
          to_goal = (
            λ q. let z = left_of sense q in (n, z.0, z.1 ∙ ap (λ p. Now.at p z.0) (own_sense sense g.place (count m'))),
            λ h.
                let k : h.0 ≡ n = only_there h.0 g.place h.1 (omega arith) h.2 in
                let a = at_left tested g.place h.1 u.left (ap run (sym k) ∙ h.2) in
                a.1 ∙ ap evaluates (sense_of a.0 sense g.place (count m') ahead a.2),
          );
          to_behind = (
            λ q. let z = left_of (not sense) q in (n, z.0, z.1 ∙ ap (λ p. Now.at p z.0) (other_sense sense g.place (count m'))),
            λ h.
                let k : h.0 ≡ n = only_there h.0 (count m') h.1 (le_refl _) h.2 in
                let a = at_left tested (count m') h.1 u.left (ap run (sym k) ∙ h.2) in
                a.1 ∙ ap evaluates (not_sense_of a.0 sense g.place (count m') ahead a.2),
          );
          fails_alike = λ y. (λ q. (n, subst (λ r. Left r (run n)) q u.left), λ h. fails_back tested y h.0 u.left h.1);
          once = once;
          parameters = λ k p P h r l. u.parameters k p P (no_more k p P h) h r l;
        }
          where
            once : (j k p q : ℕ) (P Q : Registers M) → j < k → run j ≡ Now.at p P → run k ≡ Now.at q Q → p < q
            once j k p q P Q l h z = go (dec_le n k)
              where
                go : Dec (n ≤ k) → p < q
                go (no x) = u.once j k p q P Q l (omega arith) h z
                go (yes x) =
                    let most = no_more k q Q z in
                    let same : k ≡ n = omega arith in
                    let i = u.inside j (omega arith) in
                    let first : i.0 ≡ p = at_place M arity (world (λ p p'. false)) (sym i.2 ∙ h) in
                    let a = at_left tested q Q u.left (ap run (sym same) ∙ z) in
                    let far = to_past a.0 in
                    let there : to a.0 ≡ q = a.2 in
                    omega (arith, i.3)

  condition_of : ConditionOf sense t root alone
  condition_of =
      let l = level in
      record {
        last = omega arith;
        patchable = λ g. ap (λ p. p.number) (patched g);
        runs = runs;
        exactly = λ g s h. let r = runs g s in exactly g s h r.0 r.1;
        short = let z = (good unit_operators unit_values).short in omega arith;
        defined = λ M values. known_defined (value_at M t values root) (good M values).known;
      }

-- ---- of `lower`

pub condition_law : ConditionLaw
unfolding lower lower_checked lowered_of
condition_law sense nodes list names root code constants marks plain e = by_verdict (questions nodes list names (mode_of sense) root) refl e
  where
    t : Tree
    t = tree_of nodes list names

    start : Made
    start = begin code constants marks 0 (length (words names))

    jumped : (sense : Bool) → questions nodes list names (mode_of sense) root ≡ passed → (M : Operators) (args : ℕ → M.Value) →
        Holds (RootJumped M t args sense root start) (lower_root free_temp t (mode_of sense) root start)
    jumped false q M args =
        root_false M t args root plain start (begin_owns code constants marks 0 (length (words names)) (few_parameters nodes list names 1 root q))
        (begin_marks code constants marks 0 (length (words names)))
    jumped true q M args =
        let y : AllYes nodes list names 2 root = (questions_passed nodes list names 2 root).0 q in
        root_true M t args _ (questions_fall nodes list names 2 root q) root (question2_parts 2 root _ y.start).1 plain start
        (begin_owns code constants marks 0 (length (words names)) (few_parameters nodes list names 2 root q))
        (begin_marks code constants marks 0 (length (words names)))

    by_outcome : (o : Outcome ℕ) → lower_root free_temp t (mode_of sense) root start ≡ o → questions nodes list names (mode_of sense) root ≡ passed →
        (lowered_of (length (words names)) o).result.number ≡ 0 → ConditionOf sense t root (lowered_of (length (words names)) o)
    by_outcome (ends place m) q v z =
        let good : (M : Operators) (args : ℕ → M.Value) → RootJumped M t args sense root start place m =
        λ M args. holds_ends (subst (λ o. Holds (RootJumped M t args sense root start) o) q (jumped sense v M args)) in
        condition_of sense t root start m place (begin_count code constants marks 0 (length (words names)))
        ((good unit_operators unit_values).grown.kept.room
        (begin_owns code constants marks 0 (length (words names)) (few_parameters nodes list names (mode_of sense) root v)).room) good
    by_outcome (stops x m) q v z = absurd (number_positive x.refusal z)

    by_verdict : (v : Verdict) → questions nodes list names (mode_of sense) root ≡ v → (lower_checked free_temp v t (mode_of sense) root start).result.number ≡ 0 →
        ConditionOf sense t root (lower_checked free_temp v t (mode_of sense) root start)
    by_verdict passed q z = by_outcome (lower_root free_temp t (mode_of sense) root start) refl q z
    by_verdict (refused refusal place) q z = absurd (number_positive refusal z)
