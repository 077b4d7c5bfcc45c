-- Runs of the machine, built from their end: each step stays below a limit, goes to a higher place, or leaves the run, and keeps the parameters
-- as they were. And the tables of the operators' instructions and of the fused jumps. Assumes nothing.
use Rattle.std.specs.Prelude.{Option, Some}
use Prim.Native.Nat.{ℕ, suc, ◌+◌, ◌≤◌, ◌<◌}
use native.Mathlib.Omega.{arith}
use mathlib.Core.Path.{◌≡◌, refl, sym, ap, ◌∙◌, subst}
use mathlib.Core.Bool.{Bool, true, false, cond, beq}
use mathlib.Core.List.{List}
use borrow.Author.Tests.{lt-ltb}
use Rattle.syntax.specs.declared.ops.BinaryOp.{BinaryOp}
use Rattle.syntax.specs.declared.ops.Comparison.{Comparison}
use Rattle.runtime.specs.declared.instruction.Instruction.{Instruction}
use Rattle.runtime.specs.Instruction.{words_of, decode, offset_word}
use Rattle.lowering.specs.Operators.{binary_rr, binary_rk, binary_kr, jump_rr, jump_rk, jump_kr}
use Rattle.lowering.specs.Meaning.{Answer, val, fail, equal, unequal, less, less_equal, Operators, opposite, Hypotheses, Ordered, Evaluation, evaluates, fails, undefined, given, and_then, IfAny, met, unmet, unasked, truth, operate, AtRoot}
use Rattle.lowering.specs.Machine.{action, target, Ending, returned, failed, Registers, Now, ended, fill, onward, go_to, branch, act, step_at, machine_step}
use Rattle.runtime.proofs.Encoding.{decode_words_of}
use Rattle.lowering.proofs.Running.Decode.{aim}
use Rattle.lowering.proofs.Running.Steps.{miss}

-- ---- the value of a tree: K holds of it, or L of its failure; it is defined

pub data After {F A : Type 0} (K : A → Type 0) (L : F → Type 0) : Evaluation F A → Type 0 where
  worked : {a : A} → K a → After K L (evaluates a)
  broke : {x : F} → L x → After K L (fails x)

pub after_bind : {F A B : Type 0} (r : Evaluation F A) (k : A → Evaluation F B) {K : B → Type 0} {L : F → Type 0} →
    After K L (and_then r k) → After (λ a. After K L (k a)) L r
after_bind (evaluates a) k h = worked h
after_bind (fails x) k (broke l) = broke l
after_bind undefined k h = elim h [ ]

pub ask_bind : {F A B : Type 0} (r : Evaluation F A) (k : A → Evaluation F B) {K : B → Type 0} → IfAny K (and_then r k) → IfAny (λ a. IfAny K (k a)) r
ask_bind (evaluates a) k h = met h
ask_bind (fails x) k h = unmet
ask_bind undefined k h = unasked

pub after_map : {F A : Type 0} {K K' : A → Type 0} {L : F → Type 0} {r : Evaluation F A} → After K L r → ((a : A) → K a → K' a) → After K' L r
after_map (worked {a = a} k) f = worked (f a k)
after_map (broke l) f = broke l

pub after_ask : {F A : Type 0} {K K' K'' : A → Type 0} {L : F → Type 0} {r : Evaluation F A} →
    After K L r → IfAny K' r → ((a : A) → K a → K' a → K'' a) → After K'' L r
after_ask (worked {a = a} k) (met h) f = worked (f a k h)
after_ask (broke l) h f = broke l

pub after_value : {F A : Type 0} {K : A → Type 0} {L : F → Type 0} {r : Evaluation F A} {a : A} → r ≡ evaluates a → After K L r → K a
after_value {F} {A} {K} {L} {r} {a} e h = go (subst (λ x. After K L x) e h)
  where
    go : After K L (evaluates a) → K a
    go (worked k) = k

-- neither value nor failure
abbrev pub Known : {F A : Type 0} → Evaluation F A → Type 0
Known (evaluates a) = Unit {0}
Known (fails x) = Unit {0}
Known undefined = ⊥

pub known_bind : {F A B : Type 0} (r : Evaluation F A) (k : A → Evaluation F B) → Known r → ((a : A) → Known (k a)) → Known (and_then r k)
known_bind (evaluates a) k h f = f a
known_bind (fails x) k h f = tt
known_bind undefined k h f = absurd h

pub known_given : {F A : Type 0} (r : Answer F A) → Known (given r)
known_given (val a) = tt
known_given (fail x) = tt

-- two, left then right
abbrev pub pair_of : {F A B : Type 0} → Evaluation F A → Evaluation F B → Evaluation F (A × B)
pair_of r s = and_then r (λ a. and_then s (λ b. evaluates (a, b)))

pub after_pair : {F A B C : Type 0} (r : Evaluation F A) (s : Evaluation F B) (k : A → B → Evaluation F C) {K : C → Type 0} {L : F → Type 0} →
    After K L (and_then r (λ a. and_then s (λ b. k a b))) → After (λ v. After K L (k v.0 v.1)) L (pair_of r s)
after_pair (evaluates a) (evaluates b) k h = worked h
after_pair (evaluates a) (fails x) k (broke l) = broke l
after_pair (fails x) s k (broke l) = broke l
after_pair (evaluates a) undefined k h = elim h [ ]
after_pair undefined s k h = elim h [ ]

pub ask_pair : {F A B : Type 0} {P : A → B → Type 0} (r : Evaluation F A) (s : Evaluation F B) →
    IfAny (λ a. IfAny (λ b. P a b) s) r → IfAny (λ v. P v.0 v.1) (pair_of r s)
ask_pair (evaluates a) (evaluates b) (met (met h)) = met h
ask_pair (evaluates a) (fails x) h = unmet
ask_pair (evaluates a) undefined h = unasked
ask_pair (fails x) s h = unmet
ask_pair undefined s h = unasked

-- what is asked at a jump that is taken where an answer is `sense`
abbrev pub sensed : {F : Type 0} → Bool → Answer F Bool → Answer F Bool
sensed true r = r
sensed false r = opposite r

pub after_sensed : {F : Type 0} (sense : Bool) (P : ℕ → Type 0) {L : F → Type 0} (y n : ℕ) (r : Answer F Bool) →
    After (λ b. P (cond (beq b sense) y n)) L (given r) → After (λ b. P (cond b y n)) L (given (sensed sense r))
after_sensed true P y n (val true) (worked k) = worked k
after_sensed true P y n (val false) (worked k) = worked k
after_sensed true P y n (fail x) (broke l) = broke l
after_sensed false P y n (val true) (worked k) = worked k
after_sensed false P y n (val false) (worked k) = worked k
after_sensed false P y n (fail x) (broke l) = broke l

-- the order premise of two values, where it is asked
pub premise_pair : {F A B : Type 0} (P : A → B → Type 0) (sense : Bool) (r : Evaluation F A) (s : Evaluation F B) →
    AtRoot sense (IfAny (λ a. IfAny (λ b. P a b) s) r) → IfAny (λ v. AtRoot sense (P v.0 v.1)) (pair_of r s)
premise_pair P false r s h = ask_pair r s h
premise_pair P true (evaluates a) (evaluates b) h = met tt
premise_pair P true (evaluates a) (fails x) h = unmet
premise_pair P true (evaluates a) undefined h = unasked
premise_pair P true (fails x) s h = unmet
premise_pair P true undefined s h = unasked

pub premise_map : (sense : Bool) {A B : Type 0} → (A → B) → AtRoot sense A → AtRoot sense B
premise_map false f h = f h
premise_map true f h = tt

pub after_truth : (M : Operators) {K : M.Value → Type 0} {L : M.Failure → Type 0} (r : Answer M.Failure Bool) →
    After K L (given (truth M r)) → After (λ b. K (M.boolean b)) L (given r)
after_truth M (val b) (worked k) = worked k
after_truth M (fail x) (broke l) = broke l

pub after_given : {F A : Type 0} {K : A → Type 0} {L : F → Type 0} {r : Answer F A} {a : A} → r ≡ val a → After K L (given r) → K a
after_given e h = after_value (ap given e) h

-- ---- runs

-- where a run is: the constants and the code by place, the place of the lowered code's start, a place that the run stays below, and the steps by
-- which it is left, from a place to a place: none, but for the jump of a condition
pub record World (M : Operators) : Type 0 where
  pub consts : ℕ → Option M.Value
  pub code : ℕ → Option Instruction
  pub base : ℕ
  pub limit : ℕ
  pub stop : ℕ → ℕ → Bool

module _ (M : Operators) (arity : ℕ) (w : World M) where
  abbrev pub step_of : Now M → Now M
  step_of now = machine_step M w.consts w.code now

  -- it ends, or is left
  pub data Run : ℕ → Registers M → Ending M → Type 0 where
    leave : {p q : ℕ} {R Q : Registers M} {e : Ending M} → p < w.limit → step_of (Now.at p R) ≡ Now.at q Q → w.stop p q ≡ true →
        ((r : ℕ) → r < arity → Q r ≡ R r) → Run p R e
    last : {p : ℕ} {R : Registers M} {e : Ending M} → p < w.limit → step_of (Now.at p R) ≡ ended e → Run p R e
    next : {p q : ℕ} {R Q : Registers M} {e : Ending M} → p < w.limit → step_of (Now.at p R) ≡ Now.at q Q → p < q →
        ((r : ℕ) → r < arity → Q r ≡ R r) → Run q Q e → Run p R e

  -- from a place on: to a higher one, where the run goes on, or out of the run
  pub data Onto (p q : ℕ) (R : Registers M) (e : Ending M) : Type 0 where
    up : p < q → Run q R e → Onto p q R e
    out : w.stop p q ≡ true → Onto p q R e

  pub onto : {p q : ℕ} {R : Registers M} {e : Ending M} → p < w.limit → step_of (Now.at p R) ≡ Now.at q R → Onto p q R e → Run p R e
  onto l s (up h k) = next l s h (λ r z. refl) k
  onto l s (out x) = leave l s x (λ r z. refl)

  pub run_moved : {p q : ℕ} {R : Registers M} {e : Ending M} → p ≡ q → Run p R e → Run q R e
  run_moved {p} {q} {R} {e} s k = subst (λ x. Run x R e) s k

  -- a step at a place whose words are known
  pub step_words : (ws : List ℕ) (p : ℕ) (R : Registers M) → w.code p ≡ decode ws → step_of (Now.at p R) ≡ step_at M w.consts w.code (decode ws) p R
  unfolding machine_step
  step_words ws p R e = ap (λ i. step_at M w.consts w.code i p R) e

  pub step_instruction : (i : Instruction) (p : ℕ) (R : Registers M) → w.code p ≡ decode (words_of i) → step_of (Now.at p R) ≡ act M w.consts (action i) p R
  unfolding step_at
  step_instruction i p R e = step_words (words_of i) p R e ∙ ap (λ x. step_at M w.consts w.code x p R) (decode_words_of i)

  -- an answer fills a register above the parameters
  pub run_fill : (r : Answer M.Failure M.Value) (p to d : ℕ) (R : Registers M) {e : Ending M} →
      step_of (Now.at p R) ≡ onward M w.consts r (λ v. Now.at (suc p) (fill M R d v)) → p < w.limit → arity ≤ d → to ≡ suc p →
      After (λ v. Run to (fill M R d v) e) (λ x. e ≡ failed x) (given r) → Run p R e
  run_fill (val v) p to d R s l h q (worked k) = next l s (omega arith) (λ r b. miss r d v (R r) (λ z. omega arith)) (run_moved q k)
  run_fill (fail x) p to d R s l h q (broke f) = last l (s ∙ ap ended (sym f))

  pub target_forward : (p k : ℕ) → k < 2147483648 → target p k ≡ Some (p + k)
  unfolding target
  target_forward p k h = rw (lt-ltb k 2147483648 h)

  branch_goes : (t : Bool) (k p goal : ℕ) (R : Registers M) → target p k ≡ Some goal → branch M w.consts t k p R ≡ Now.at (cond t goal (suc p)) R
  branch_goes true k p goal R h = rw h
  branch_goes false k p goal R h = refl

  -- an answer decides whether to jump
  pub run_goes : {A : Type 0} (r : Answer M.Failure A) (f : A → Bool) (k p goal no_at : ℕ) (R : Registers M) {e : Ending M} →
      step_of (Now.at p R) ≡ onward M w.consts r (λ b. branch M w.consts (f b) k p R) → p < w.limit → target p k ≡ Some goal → no_at ≡ suc p →
      After (λ b. Onto p (cond (f b) goal no_at) R e) (λ x. e ≡ failed x) (given r) → Run p R e
  run_goes (val v) f k p goal n R {e} s l b c (worked g) =
      onto l (s ∙ branch_goes (f v) k p goal R b ∙ ap (λ x. Now.at (cond (f v) goal x) R) (sym c)) g
  run_goes (fail x) f k p goal n R s l b c (broke g) = last l (s ∙ ap ended (sym g))

  -- forward
  pub run_branch : {A : Type 0} (r : Answer M.Failure A) (f : A → Bool) (k p yes_at no_at : ℕ) (R : Registers M) {e : Ending M} →
      step_of (Now.at p R) ≡ onward M w.consts r (λ b. branch M w.consts (f b) k p R) → p < w.limit → 0 < k → k < 2147483648 →
      yes_at ≡ p + k → no_at ≡ suc p →
      After (λ b. Run (cond (f b) yes_at no_at) R e) (λ x. e ≡ failed x) (given r) → Run p R e
  run_branch r f k p y n R s l h b a c g = run_goes r f k p y n R s l (target_forward p k b ∙ ap Some (sym a)) c (after_map g (λ v x. up (later (f v)) x))
    where
      later : (t : Bool) → p < cond t y n
      later true = omega arith
      later false = omega arith

  pub run_jump : (p to k : ℕ) (R : Registers M) {e : Ending M} → step_of (Now.at p R) ≡ go_to M w.consts (target p k) R → p < w.limit →
      k < 2147483648 → to ≡ p + k → p < to → Run to R e → Run p R e
  run_jump p to k R s l b z h g = next l (s ∙ ap (λ x. go_to M w.consts x R) (target_forward p k b)) (omega arith) (λ r y. refl) (run_moved z g)

  pub run_return : (p r : ℕ) (R : Registers M) → step_of (Now.at p R) ≡ ended (returned (R r)) → p < w.limit → Run p R (returned (R r))
  run_return p r R s l = last l s

-- ---- tables

module _ (M : Operators) (consts : ℕ → Option M.Value) where
  -- at an instruction, register d is filled with an answer
  abbrev pub Fills : Instruction → ℕ → ℕ → Registers M → Answer M.Failure M.Value → Type 0
  Fills i p d R r = act M consts (action i) p R ≡ onward M consts r (λ v. Now.at (suc p) (fill M R d v))

  -- at a jump patched to go n further, an answer decides whether it does
  abbrev pub Branches : (ℕ → Option Instruction) → Instruction → ℕ → ℕ → Registers M → Answer M.Failure Bool → Type 0
  Branches code i n p R r = step_at M consts code (decode (aim n (words_of i))) p R ≡ onward M consts r (λ t. branch M consts t n p R)

module _ (M : Operators) where
  -- what a comparison asks
  abbrev pub asked : Comparison → M.Value → M.Value → Answer M.Failure Bool
  asked Comparison.Equal a b = M.compare equal a b
  asked Comparison.NotEqual a b = M.compare unequal a b
  asked Comparison.Greater a b = M.compare less b a
  asked Comparison.GreaterEqual a b = M.compare less_equal b a
  asked Comparison.Less a b = M.compare less a b
  asked Comparison.LessEqual a b = M.compare less_equal a b

  -- the order premise that it needs
  abbrev pub OrderOf : Comparison → M.Value → M.Value → Type 0
  OrderOf Comparison.Equal a b = Unit {0}
  OrderOf Comparison.NotEqual a b = Unit {0}
  OrderOf Comparison.Greater a b = Ordered M a b × Ordered M b a
  OrderOf Comparison.GreaterEqual a b = Ordered M a b × Ordered M b a
  OrderOf Comparison.Less a b = Ordered M a b × Ordered M b a
  OrderOf Comparison.LessEqual a b = Ordered M a b × Ordered M b a

  module _ (laws : Hypotheses M) (consts : ℕ → Option M.Value) where
    unequal_order : (a b : M.Value) → M.compare unequal a b ≡ M.compare unequal b a
    unequal_order a b = laws.unequal_opposite a b ∙ ap opposite (laws.equal_order a b) ∙ sym (laws.unequal_opposite b a)

    twice : (r : Answer M.Failure Bool) → r ≡ opposite (opposite r)
    twice (val true) = refl
    twice (val false) = refl
    twice (fail x) = refl

    equal_opposite : (a b : M.Value) → M.compare equal a b ≡ opposite (M.compare unequal a b)
    equal_opposite a b = twice (M.compare equal a b) ∙ ap opposite (sym (laws.unequal_opposite a b))

    turned : (a b : M.Value) → Ordered M a b → M.compare less a b ≡ opposite (M.compare less_equal b a)
    turned a b e = twice (M.compare less a b) ∙ ap opposite (sym e)

    -- eleven operators in three shapes
    pub two_RR : (op : BinaryOp) (p d a b : ℕ) (R : Registers M) → Fills M consts (binary_rr op d a b) p d R (operate M op (R a) (R b))
    unfolding act action binary_rr operate
    two_RR BinaryOp.Add p d a b R = refl
    two_RR BinaryOp.Subtract p d a b R = refl
    two_RR BinaryOp.Multiply p d a b R = refl
    two_RR BinaryOp.Divide p d a b R = refl
    two_RR BinaryOp.Modulo p d a b R = refl
    two_RR BinaryOp.Equal p d a b R = refl
    two_RR BinaryOp.NotEqual p d a b R = refl
    two_RR BinaryOp.Greater p d a b R = refl
    two_RR BinaryOp.GreaterEqual p d a b R = refl
    two_RR BinaryOp.Less p d a b R = refl
    two_RR BinaryOp.LessEqual p d a b R = refl

    pub two_RK : (op : BinaryOp) (p d a k : ℕ) (R : Registers M) {v : M.Value} → consts k ≡ Some v → Fills M consts (binary_rk op d a k) p d R (operate M op (R a) v)
    unfolding act action binary_rk operate
    two_RK BinaryOp.Add p d a k R e = rw e
    two_RK BinaryOp.Subtract p d a k R e = rw e
    two_RK BinaryOp.Multiply p d a k R e = rw e
    two_RK BinaryOp.Divide p d a k R e = rw e
    two_RK BinaryOp.Modulo p d a k R e = rw e
    two_RK BinaryOp.Equal p d a k R e = rw e
    two_RK BinaryOp.NotEqual p d a k R e = rw e
    two_RK BinaryOp.Greater p d a k R e = rw e
    two_RK BinaryOp.GreaterEqual p d a k R e = rw e
    two_RK BinaryOp.Less p d a k R e = rw e
    two_RK BinaryOp.LessEqual p d a k R e = rw e

    pub two_KR : (op : BinaryOp) (p d k b : ℕ) (R : Registers M) {v : M.Value} → consts k ≡ Some v → Fills M consts (binary_kr op d k b) p d R (operate M op v (R b))
    unfolding act action binary_kr operate
    two_KR BinaryOp.Add p d k b R e = rw (e, laws.add_order _ _)
    two_KR BinaryOp.Subtract p d k b R e = rw e
    two_KR BinaryOp.Multiply p d k b R e = rw (e, laws.multiply_order _ _)
    two_KR BinaryOp.Divide p d k b R e = rw e
    two_KR BinaryOp.Modulo p d k b R e = rw e
    two_KR BinaryOp.Equal p d k b R e = rw (e, laws.equal_order _ _)
    two_KR BinaryOp.NotEqual p d k b R e = rw (e, unequal_order _ _)
    two_KR BinaryOp.Greater p d k b R e = rw e
    two_KR BinaryOp.GreaterEqual p d k b R e = rw e
    two_KR BinaryOp.Less p d k b R e = rw e
    two_KR BinaryOp.LessEqual p d k b R e = rw e

    module _ (code : ℕ → Option Instruction) where
      -- six comparisons in three shapes: the jump is taken where the test is false
      jump_RR : (c : Comparison) (n p a b : ℕ) (R : Registers M) → OrderOf c (R a) (R b) → Branches M consts code (jump_rr false c a b) n p R (opposite (asked c (R a) (R b)))
      unfolding step_at act action jump_rr decode words_of aim offset_word
      jump_RR Comparison.Equal n p a b R o = ap (λ r. onward M consts r (λ t. branch M consts t n p R)) (laws.unequal_opposite _ _)
      jump_RR Comparison.NotEqual n p a b R o = ap (λ r. onward M consts r (λ t. branch M consts t n p R)) (equal_opposite _ _)
      jump_RR Comparison.Less n p a b R o = ap (λ r. onward M consts r (λ t. branch M consts t n p R)) o.0
      jump_RR Comparison.LessEqual n p a b R o = ap (λ r. onward M consts r (λ t. branch M consts t n p R)) (turned _ _ o.1)
      jump_RR Comparison.Greater n p a b R o = ap (λ r. onward M consts r (λ t. branch M consts t n p R)) o.1
      jump_RR Comparison.GreaterEqual n p a b R o = ap (λ r. onward M consts r (λ t. branch M consts t n p R)) (turned _ _ o.0)

      jump_RK : (c : Comparison) (n p a k : ℕ) (R : Registers M) {v : M.Value} → consts k ≡ Some v → OrderOf c (R a) v →
          Branches M consts code (jump_rk false c a k) n p R (opposite (asked c (R a) v))
      unfolding step_at act action jump_rk decode words_of aim offset_word
      jump_RK Comparison.Equal n p a k R e o = rw e (ap (λ r. onward M consts r (λ t. branch M consts t n p R)) (laws.unequal_opposite _ _))
      jump_RK Comparison.NotEqual n p a k R e o = rw e (ap (λ r. onward M consts r (λ t. branch M consts t n p R)) (equal_opposite _ _))
      jump_RK Comparison.Less n p a k R e o = rw e (ap (λ r. onward M consts r (λ t. branch M consts t n p R)) o.0)
      jump_RK Comparison.LessEqual n p a k R e o = rw e (ap (λ r. onward M consts r (λ t. branch M consts t n p R)) (turned _ _ o.1))
      jump_RK Comparison.Greater n p a k R e o = rw e (ap (λ r. onward M consts r (λ t. branch M consts t n p R)) o.1)
      jump_RK Comparison.GreaterEqual n p a k R e o = rw e (ap (λ r. onward M consts r (λ t. branch M consts t n p R)) (turned _ _ o.0))

      jump_KR : (c : Comparison) (n p k b : ℕ) (R : Registers M) {v : M.Value} → consts k ≡ Some v → OrderOf c v (R b) →
          Branches M consts code (jump_kr false c k b) n p R (opposite (asked c v (R b)))
      unfolding step_at act action jump_kr decode words_of aim offset_word
      jump_KR Comparison.Equal n p k b R e o = rw e (ap (λ r. onward M consts r (λ t. branch M consts t n p R)) (laws.unequal_opposite _ _ ∙ ap opposite (laws.equal_order _ _)))
      jump_KR Comparison.NotEqual n p k b R e o = rw e (ap (λ r. onward M consts r (λ t. branch M consts t n p R)) (equal_opposite _ _ ∙ ap opposite (unequal_order _ _)))
      jump_KR Comparison.Less n p k b R e o = rw e (ap (λ r. onward M consts r (λ t. branch M consts t n p R)) o.0)
      jump_KR Comparison.LessEqual n p k b R e o = rw e (ap (λ r. onward M consts r (λ t. branch M consts t n p R)) (turned _ _ o.1))
      jump_KR Comparison.Greater n p k b R e o = rw e (ap (λ r. onward M consts r (λ t. branch M consts t n p R)) o.1)
      jump_KR Comparison.GreaterEqual n p k b R e o = rw e (ap (λ r. onward M consts r (λ t. branch M consts t n p R)) (turned _ _ o.0))

      -- and of either sense: where it is the test's own, no order is asked
      pub sense_RR : (sense : Bool) (c : Comparison) (n p a b : ℕ) (R : Registers M) → AtRoot sense (OrderOf c (R a) (R b)) →
          Branches M consts code (jump_rr sense c a b) n p R (sensed sense (asked c (R a) (R b)))
      unfolding step_at act action jump_rr decode words_of aim offset_word
      sense_RR false c n p a b R o = jump_RR c n p a b R o
      sense_RR true Comparison.Equal n p a b R o = refl
      sense_RR true Comparison.NotEqual n p a b R o = refl
      sense_RR true Comparison.Less n p a b R o = refl
      sense_RR true Comparison.LessEqual n p a b R o = refl
      sense_RR true Comparison.Greater n p a b R o = refl
      sense_RR true Comparison.GreaterEqual n p a b R o = refl

      pub sense_RK : (sense : Bool) (c : Comparison) (n p a k : ℕ) (R : Registers M) {v : M.Value} → consts k ≡ Some v → AtRoot sense (OrderOf c (R a) v) →
          Branches M consts code (jump_rk sense c a k) n p R (sensed sense (asked c (R a) v))
      unfolding step_at act action jump_rk decode words_of aim offset_word
      sense_RK false c n p a k R e o = jump_RK c n p a k R e o
      sense_RK true Comparison.Equal n p a k R e o = rw e
      sense_RK true Comparison.NotEqual n p a k R e o = rw e
      sense_RK true Comparison.Less n p a k R e o = rw e
      sense_RK true Comparison.LessEqual n p a k R e o = rw e
      sense_RK true Comparison.Greater n p a k R e o = rw e
      sense_RK true Comparison.GreaterEqual n p a k R e o = rw e

      pub sense_KR : (sense : Bool) (c : Comparison) (n p k b : ℕ) (R : Registers M) {v : M.Value} → consts k ≡ Some v → AtRoot sense (OrderOf c v (R b)) →
          Branches M consts code (jump_kr sense c k b) n p R (sensed sense (asked c v (R b)))
      unfolding step_at act action jump_kr decode words_of aim offset_word
      sense_KR false c n p k b R e o = jump_KR c n p k b R e o
      sense_KR true Comparison.Equal n p k b R e o = rw (e, laws.equal_order _ _)
      sense_KR true Comparison.NotEqual n p k b R e o = rw (e, unequal_order _ _)
      sense_KR true Comparison.Less n p k b R e o = rw e
      sense_KR true Comparison.LessEqual n p k b R e o = rw e
      sense_KR true Comparison.Greater n p k b R e o = rw e
      sense_KR true Comparison.GreaterEqual n p k b R e o = rw e
