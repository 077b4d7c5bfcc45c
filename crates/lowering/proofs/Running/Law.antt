-- The running law: its sentences, each a theorem about `after`. A run is first a relation, built by the induction over the tree; here it is read
-- off the machine's own steps. Assumes nothing.
use Rattle.std.specs.Prelude.{Option, Some, None}
use Prim.Native.Nat.{ℕ, zero, suc, ◌+◌, ◌-◌, ◌*◌, ◌≤◌, ◌<◌, min}
use native.Mathlib.Omega.{arith}
use native.Mathlib.Nat.{le_refl, zero-add, suc-add}
use native.Mathlib.Decide.{dec_le}
use mathlib.Core.Path.{◌≡◌, refl, sym, ap, ◌∙◌, subst}
use mathlib.Core.Logic.{◌≢◌}
use mathlib.Core.Bool.{true, false, false≢true}
use mathlib.Core.List.{List}
use lib.ListN.{length, length-take, length-drop}
use borrow.Author.Tests.{lt-ltb}
use Rattle.words.specs.Records.{capacity, record_at}
use Rattle.environment.proofs.Laws.{parameters_held, parameters_sound}
use Rattle.runtime.specs.declared.instruction.Instruction.{Instruction}
use Rattle.runtime.specs.Instruction.{instruction_width, decode}
use Rattle.runtime.specs.Value.{constant_width}
use Rattle.lowering.specs.Walk.{Made}
use Rattle.lowering.specs.Result.{begin}
use Rattle.lowering.specs.Meaning.{val, fail, Operators, Evaluation, evaluates, fails, undefined, value_at}
use Rattle.lowering.specs.Machine.{record_in, fetch, constant_at, constant_of, Ending, returned, failed, lost, Registers, Now, ended, machine_step, after}
use Rattle.lowering.specs.Law.{Accepted, arity, instructions, Setting, ran, tree_value, EndsWith, EndsWithValue, ValueExactly, Once, Parameters, Length, Defined}
use Rattle.lowering.proofs.Running.Steps.{Holds, holds_ends, count}
use Rattle.lowering.proofs.Running.MachineRuns.{After, worked, broke, Known, World, Run, leave, last, next}
use Rattle.lowering.proofs.Running.Promise.{Final, Owns}
use Rattle.lowering.proofs.Running.Induction.{Rooted, root_good}

-- ---- after

module _ (M : Operators) (consts : ℕ → Option M.Value) (code : ℕ → Option Instruction) where
  pub after_add : (a b : ℕ) (s : Now M) → after M consts code (a + b) s ≡ after M consts code a (after M consts code b s)
  unfolding after
  after_add zero b s = rw zero-add
  after_add (suc a) b s = rw suc-add (ap (machine_step M consts code) (after_add a b s))

  pub after_first : (n : ℕ) (s : Now M) → after M consts code (suc n) s ≡ after M consts code n (machine_step M consts code s)
  unfolding after
  after_first zero s = refl
  after_first (suc n) s = ap (machine_step M consts code) (after_first n s)

  pub after_ended : (n : ℕ) (e : Ending M) → after M consts code n (ended e) ≡ ended e
  unfolding after machine_step
  after_ended zero e = refl
  after_ended (suc n) e = ap (machine_step M consts code) (after_ended n e)

  pub after_later : (n k : ℕ) (s : Now M) {e : Ending M} → n ≤ k → after M consts code n s ≡ ended e → after M consts code k s ≡ ended e
  after_later n k s {e} l h =
      let q : k ≡ (k - n) + n = omega arith in
      ap (λ x. after M consts code x s) q ∙ after_add (k - n) n s ∙ ap (after M consts code (k - n)) h ∙ after_ended (k - n) e

  -- a run has one ending
  pub one_ending : (n k : ℕ) (s : Now M) {e e' : Ending M} → after M consts code n s ≡ ended e → after M consts code k s ≡ ended e' → ◌≡◌ {A = Now M} (ended e) (ended e')
  one_ending n k s {e} {e'} h h' = go (dec_le n k)
    where
      go : Dec (n ≤ k) → ◌≡◌ {A = Now M} (ended e) (ended e')
      go (yes l) = sym (after_later n k s l h) ∙ h'
      go (no l) = sym h ∙ after_later k n s (omega arith) h'

-- ---- a run, step by step

module _ (M : Operators) (arity : ℕ) (w : World M) where
  abbrev went : ℕ → Now M → Now M
  went n s = after M w.consts w.code n s

  -- it is left nowhere
  abbrev Unstopped : Type 0
  Unstopped = (p q : ℕ) → w.stop p q ≡ true → ⊥

  -- it ends, in as many steps as there are places left, or fewer
  run_ends : Unstopped → {p : ℕ} {R : Registers M} {e : Ending M} → Run M arity w p R e → (n : ℕ) × (p + n ≤ w.limit) × (went n (Now.at p R) ≡ ended e)
  unfolding after
  run_ends u (leave l s x k) = absurd (u _ _ x)
  run_ends u (last l s) = (1, omega arith, s)
  run_ends u (next {p = p} {q = q} {R = R} {Q = Q} l s h k r) =
      let ih = run_ends u r in
      (suc ih.0, omega (arith, ih.1), after_first M w.consts w.code ih.0 (Now.at p R) ∙ ap (went ih.0) s ∙ ih.2)

  -- a place that it comes to after k steps is k further or more; the run goes on from there, and the parameters are as they were
  record Along (p : ℕ) (R : Registers M) (e : Ending M) (k q : ℕ) (Q : Registers M) : Type 0 where
    on : p + k ≤ q
    run : Run M arity w q Q e
    kept : (r : ℕ) → r < arity → Q r ≡ R r

  pub at_place : {p q : ℕ} {R Q : Registers M} → ◌≡◌ {A = Now M} (Now.at p R) (Now.at q Q) → p ≡ q
  at_place e = cc

  pub at_registers : {p q : ℕ} {R Q : Registers M} → ◌≡◌ {A = Now M} (Now.at p R) (Now.at q Q) → R ≡ Q
  at_registers e = cc

  pub not_both : {q : ℕ} {Q : Registers M} {e : Ending M} → ◌≡◌ {A = Now M} (ended e) (Now.at q Q) → ⊥
  not_both e = let z : ◌≡◌ {A = ℕ} 0 1 = cc in omega arith

  along : Unstopped → (k : ℕ) {p q : ℕ} {R Q : Registers M} {e : Ending M} → Run M arity w p R e → went k (Now.at p R) ≡ Now.at q Q → Along p R e k q Q
  unfolding after
  along u zero {p} {q} {R} {Q} {e} r h =
      let same : p ≡ q = at_place h in
      let regs : R ≡ Q = at_registers h in
      record { on = omega arith; run = subst (λ x. Run M arity w q x e) regs (subst (λ x. Run M arity w x R e) same r); kept = λ i l. ap (λ f. f i) (sym regs) }
  along u (suc k) (leave l s x kp) h = absurd (u _ _ x)
  along u (suc k) {p} {q} {R} {Q} {e} (last l s) h =
      absurd (not_both (sym (after_ended M w.consts w.code k e) ∙ ap (went k) (sym s) ∙ sym (after_first M w.consts w.code k (Now.at p R)) ∙ h))
  along u (suc k) {p} {q} {R} {Q} {e} (next {q = q1} {Q = Q1} l s z kp r) h =
      let ih : Along q1 Q1 e k q Q = along u k r (ap (went k) (sym s) ∙ sym (after_first M w.consts w.code k (Now.at p R)) ∙ h) in
      record { on = omega (arith, ih.on); run = ih.run; kept = λ i z. ih.kept i z ∙ kp i z }

-- ---- an accepted tree in its setting

pub begin_owns : (code constants marks : List ℕ) (pooled arity : ℕ) → arity ≤ 256 → Owns arity (begin code constants marks pooled arity)
unfolding begin
begin_owns code constants marks pooled arity h = record {
  params = λ r l. parameters_held arity h r ∙ lt-ltb r arity l;
  sound = parameters_sound arity;
  room = record { inside = omega arith; small = omega arith };
}

pub begin_marks : (code constants marks : List ℕ) (pooled arity : ℕ) → (begin code constants marks pooled arity).state.marks ≡ 0
unfolding begin
begin_marks code constants marks pooled arity = refl

pub begin_count : (code constants marks : List ℕ) (pooled arity : ℕ) → count (begin code constants marks pooled arity) ≡ 0
unfolding begin
begin_count code constants marks pooled arity = refl

abbrev beginning : Accepted → Made
beginning a = begin a.code a.constants a.marks a.pooled (arity a)

rooted : (a : Accepted) (M : Operators) (parameters : ℕ → M.Value) → Rooted M a.tree parameters a.root (beginning a) a.left
rooted a M args =
    holds_ends (subst (λ o. Holds (λ x m'. Rooted M a.tree args a.root (beginning a) m') o) a.accepted
    (root_good M a.tree args a.root a.plain (beginning a) (begin_owns a.code a.constants a.marks a.pooled (arity a) a.few)
    (begin_marks a.code a.constants a.marks a.pooled (arity a))))

-- "the code has at most as many instructions as the tree has nodes and ifs together, each counted at every use, plus one"
pub short : Length
short a =
    let M : Operators = record {
      Value = Unit {0};
      Failure = Unit {0};
      number = λ x. tt;
      string = λ x. tt;
      boolean = λ x. tt;
      nil = tt;
      unary = λ o x. val tt;
      binary = λ o x y. val tt;
      compare = λ o x y. fail tt;
      test = λ x. fail tt;
    } in
    let q : Rooted M a.tree (λ r. tt) a.root (beginning a) a.left = rooted a M (λ r. tt) in
    let z : count (beginning a) ≡ 0 = begin_count a.code a.constants a.marks a.pooled (arity a) in
    omega (arith, q.short)

pub known_defined : {F A : Type 0} (r : Evaluation F A) → Known r → r ≢ undefined
known_defined (evaluates a) k e = let z : ◌≡◌ {A = ℕ} 0 1 = cc in omega arith
known_defined (fails x) k e = let z : ◌≡◌ {A = ℕ} 0 1 = cc in omega arith
known_defined undefined k e = k

-- no accepted tree is undefined, whatever the operators
pub defined : Defined
defined a M args = known_defined (value_at M a.tree args a.root) (rooted a M args).known

-- ---- whole records

record_in_lem : (w : ℕ) (ws : List ℕ) (count p : ℕ) → p < count → p < capacity w ws → record_in w ws count p ≡ Some (record_at w ws p)
unfolding record_in
record_in_lem w ws count p h l = rw (lt-ltb p count h, lt-ltb p (capacity w ws) l)

pub fetch_record : (ws : List ℕ) (count p : ℕ) → p < count → p < capacity instruction_width ws → fetch ws count p ≡ decode (record_at instruction_width ws p)
unfolding fetch
fetch_record ws count p h l = ap (λ (o : Option (List ℕ)). elim o [ Some r ↦ decode r | None ↦ None ]) (record_in_lem instruction_width ws count p h l)

pub constant_record : (M : Operators) (ws : List ℕ) (count p : ℕ) → p < count → p < capacity constant_width ws → constant_at M ws count p ≡ constant_of M (record_at constant_width ws p)
unfolding constant_at
constant_record M ws count p h l = ap (λ (o : Option (List ℕ)). elim o [ Some r ↦ constant_of M r | None ↦ None ]) (record_in_lem constant_width ws count p h l)

module _ (ws : List ℕ) (p : ℕ) where
  -- a record of full length is inside
  instruction_inside : length (record_at instruction_width ws p) ≡ instruction_width → p < capacity instruction_width ws
  unfolding record_at capacity
  instruction_inside e = let z : min instruction_width (length ws - instruction_width * p) ≡ instruction_width = (rw (length-take, length-drop) at e) in omega arith

  pub constant_inside : length (record_at constant_width ws p) ≡ constant_width → p < capacity constant_width ws
  unfolding record_at capacity
  constant_inside e = let z : min constant_width (length ws - constant_width * p) ≡ constant_width = (rw (length-take, length-drop) at e) in omega arith

  -- and inside it has full length
  inside_instruction : p < capacity instruction_width ws → length (record_at instruction_width ws p) ≡ instruction_width
  unfolding record_at capacity
  inside_instruction h = rw (length-take, length-drop) (omega arith)

module _ (a : Accepted) (s : Setting a) where
  world : World s.operators
  world = record {
    consts = constant_at s.operators s.pool s.pooled;
    code = fetch s.code s.count;
    base = s.base;
    limit = s.base + instructions a;
    stop = λ p q. false;
  }

  final : Final world (count (beginning a)) (instructions a) a.left
  unfolding world
  final = record {
    codes = λ i lo hi.
        let k = s.code_stands i hi in
        let whole : i < capacity instruction_width a.left.code = omega (arith, (rooted a s.operators s.parameters).room.inside) in
        fetch_record s.code s.count (s.base + i) k.0 (instruction_inside s.code (s.base + i) (ap length k.1 ∙ inside_instruction a.left.code i whole)) ∙ ap decode k.1;
    pools = λ k ws h.
        let p = s.pool_stands k h.inside in
        let e : 0 + k ≡ k = zero-add k in
        let there : record_at constant_width s.pool k ≡ ws = (rw e at p.1) ∙ h.there in
        constant_record s.operators s.pool s.pooled k (rw e at p.0) (constant_inside s.pool k (ap length there ∙ h.whole)) ∙ ap (constant_of s.operators) there;
    top = le_refl _;
  }

  unstopped : Unstopped s.operators (arity a) world
  unfolding world
  unstopped p q h = false≢true h

  runs_to : (e : Ending s.operators) → After (λ v. e ≡ returned v) (λ x. e ≡ failed x) (tree_value a s) → Run s.operators (arity a) world s.base s.registers e
  unfolding world
  runs_to e k =
      let z : count (beginning a) ≡ 0 = begin_count a.code a.constants a.marks a.pooled (arity a) in
      let q : s.base + count (beginning a) ≡ s.base = omega arith in
      subst (λ p. Run s.operators (arity a) world p s.registers e) q
      ((rooted a s.operators s.parameters).sim s.hypotheses world final s.registers e s.filled s.order k)

  -- how the run ends
  ends_as : (r : Evaluation s.operators.Failure s.operators.Value) → Known r → (e : Ending s.operators) × After (λ v. e ≡ returned v) (λ x. e ≡ failed x) r
  ends_as (evaluates v) k = (returned v, worked refl)
  ends_as (fails x) k = (failed x, broke refl)
  ends_as undefined k = absurd k

  tree_ends : (e : Ending s.operators) × After (λ v. e ≡ returned v) (λ x. e ≡ failed x) (tree_value a s)
  tree_ends = ends_as (tree_value a s) (rooted a s.operators s.parameters).known

  tree_run : Run s.operators (arity a) world s.base s.registers tree_ends.0
  tree_run = runs_to tree_ends.0 tree_ends.1

  ends_with : (r : Evaluation s.operators.Failure s.operators.Value) (e : Ending s.operators) (now : Now s.operators) →
      After (λ v. e ≡ returned v) (λ x. e ≡ failed x) r → now ≡ ended e → EndsWith s.operators r now
  ends_with (evaluates v) e now (worked k) h = h ∙ ap ended k
  ends_with (fails x) e now (broke k) h = h ∙ ap ended k
  ends_with undefined e now k h = elim k [ ]

-- "running its code returns the tree's value exactly when the tree has one, and otherwise ends with the tree's failure", in at most as many steps
-- as there are instructions
pub runs : EndsWithValue
unfolding world
runs a s =
    let r = run_ends s.operators (arity a) (world a s) (unstopped a s) (tree_run a s) in
    (r.0, omega (arith, r.1), ends_with a s (tree_value a s) (tree_ends a s).0 (ran a s r.0) (tree_ends a s).1 r.2)

-- "no instruction runs twice": the places strictly increase
pub once : Once
unfolding world
once a s j k p q P Q l h g =
    let M = s.operators in
    let w = world a s in
    let first = along M (arity a) w (unstopped a s) j (tree_run a s) h in
    let e : k ≡ (k - j) + j = omega arith in
    let there : after M w.consts w.code (k - j) (Now.at p P) ≡ Now.at q Q =
    ap (after M w.consts w.code (k - j)) (sym h) ∙ sym (after_add M w.consts w.code (k - j) j (Now.at s.base s.registers)) ∙ ap (λ n. ran a s n) (sym e) ∙ g in
    let second = along M (arity a) w (unstopped a s) (k - j) first.run there in
    omega (arith, second.on)

-- "every parameter keeps its value at each step"
pub parameters : Parameters
unfolding world
parameters a s k p P h r l = (along s.operators (arity a) (world a s) (unstopped a s) k (tree_run a s) h).kept r l ∙ s.filled r l

-- ---- "exactly when", both ways

module _ (a : Accepted) (s : Setting a) where
  abbrev Ended : ℕ → Ending s.operators → Type 0
  Ended n e = ran a s n ≡ ended e

  same_ending : (n k : ℕ) {e e' : Ending s.operators} → Ended n e → Ended k e' → e ≡ e'
  same_ending n k {e} {e'} h g =
      let q : ◌≡◌ {A = Now s.operators} (ended e) (ended e') =
      one_ending s.operators (constant_at s.operators s.pool s.pooled) (fetch s.code s.count) n k (Now.at s.base s.registers) h g in
      cc

  -- from an ending back to the value of the tree
  value_back : (r : Evaluation s.operators.Failure s.operators.Value) (n k : ℕ) {v : s.operators.Value} →
      EndsWith s.operators r (ran a s n) → Ended k (returned v) → r ≡ evaluates v
  value_back (evaluates u) n k {v} h g = let q : ◌≡◌ {A = Ending s.operators} (returned u) (returned v) = same_ending n k h g in cc
  value_back (fails x) n k {v} h g = let q : ◌≡◌ {A = Ending s.operators} (failed x) (returned v) = same_ending n k h g in cc
  value_back undefined n k h g = absurd h

  failure_back : (r : Evaluation s.operators.Failure s.operators.Value) (n k : ℕ) {x : s.operators.Failure} →
      EndsWith s.operators r (ran a s n) → Ended k (failed x) → r ≡ fails x
  failure_back (evaluates u) n k {x} h g = let q : ◌≡◌ {A = Ending s.operators} (returned u) (failed x) = same_ending n k h g in cc
  failure_back (fails y) n k {x} h g = let q : ◌≡◌ {A = Ending s.operators} (failed y) (failed x) = same_ending n k h g in cc
  failure_back undefined n k h g = absurd h

  never_lost : (r : Evaluation s.operators.Failure s.operators.Value) (n k : ℕ) → EndsWith s.operators r (ran a s n) → Ended k lost → ⊥
  never_lost (evaluates u) n k h g =
      let q : ◌≡◌ {A = Ending s.operators} (returned u) lost = same_ending n k h g in
      let z : ◌≡◌ {A = ℕ} 0 1 = cc in
      omega arith
  never_lost (fails y) n k h g =
      let q : ◌≡◌ {A = Ending s.operators} (failed y) lost = same_ending n k h g in
      let z : ◌≡◌ {A = ℕ} 0 1 = cc in
      omega arith
  never_lost undefined n k h g = h

-- "returns the tree's value exactly when the tree has one, and otherwise ends with the tree's failure"
pub exactly : ValueExactly
exactly a s =
    let r = runs a s in (
      λ v. (λ e. (r.0, subst (λ x. EndsWith s.operators x (ran a s r.0)) e r.2), λ h. value_back a s (tree_value a s) r.0 h.0 r.2 h.1),
      λ x. (λ e. (r.0, subst (λ y. EndsWith s.operators y (ran a s r.0)) e r.2), λ h. failure_back a s (tree_value a s) r.0 h.0 r.2 h.1),
      λ k h. never_lost a s (tree_value a s) r.0 k r.2 h,
    )
