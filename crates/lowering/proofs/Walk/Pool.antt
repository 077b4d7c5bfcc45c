-- The pool over a run of lowering, from any starting pool: nothing pooled changes, no two constants are the same if none were before, and as many
-- constants are added as there are distinct nodes for them that the root reaches. (A constant's index is the first place with its words: the steps
-- `finds` and `pools` of a run.) Assumes nothing.
use Rattle.std.specs.Prelude.{Some, Result, Ok, Err}
use Rattle.diagnostics.specs.declared.Refusal.{Refusal}
use Prim.Native.Nat.{ℕ, zero, suc, ◌+◌, ◌-◌, ◌≤◌, ◌<◌}
use native.Mathlib.Omega.{arith}
use native.Mathlib.Decide.{dec_lt, ℕ_discrete}
use native.Mathlib.Nat.{le_refl, le_trans, ne_of_lt}
use mathlib.Core.Path.{◌≡◌, refl, sym, ap, ◌∙◌, subst}
use mathlib.Core.Logic.{◌≢◌, ◌⊎◌, inl, inr}
use mathlib.Core.Bool.{Bool, true, false, cond}
use mathlib.Core.List.{List}
use lib.Dec.{eqb}
use lib.ListN.{length, get_or}
use borrow.Author.Tests.{eqb-true, eqb-false}
use Rattle.words.specs.Records.{Buffer, record_at, put_record, capacity}
use Rattle.words.proofs.Records.{record_same, record_other}
use Rattle.runtime.specs.declared.operand.Operand.{Operand}
use Rattle.runtime.specs.Value.{constant_width, constant_words}
use Rattle.runtime.specs.Function.{store_constant}
use Rattle.runtime.proofs.Pool.{store_at}
use Rattle.lowering.specs.Tree.{Tree, node}
use Rattle.lowering.specs.Walk.{Made, Outcome, ends, Walk, made_of}
use Rattle.lowering.specs.Steps.{placed, with_constants, store}
use Rattle.lowering.specs.Meaning.{Named, first, later, Reaches}
use Rattle.lowering.specs.Trace.{Runs, Step, takes, gives, keeps, emits, finds, pools, patches, marks, moves, refuses, constant_of_node, constants_of}
use Rattle.lowering.specs.Pool.{constant_words_at}
use Rattle.lowering.proofs.Running.Decode.{constant_length}
use Rattle.lowering.proofs.Walk.StepLaws.{along}

-- no two constants are the same
abbrev pub Distinct : Made → Type 0
Distinct m = (q p : ℕ) → q < p → p < constants_of m → constant_words_at m q ≢ constant_words_at m p

-- A constant's index is the first place with its words.
pub constant_first : (c : Operand) (m n : Made) (p : ℕ) → store c m ≡ ends p n →
    (p < constants_of n) × (constant_words_at n p ≡ constant_words c) × ((q : ℕ) → q < p → q < capacity constant_width n.constants → constant_words_at n q ≢ constant_words c)
unfolding store placed
constant_first c m n p e = go after.answer.place refl e
  where
    after : Buffer
    after = store_constant m.constants (constants_of m) c

    go : (place : Result ℕ Refusal) → after.answer.place ≡ place → placed place (with_constants after.words after.answer.count m) ≡ ends p n →
        (p < constants_of n) × (constant_words_at n p ≡ constant_words c) × ((q : ℕ) → q < p → q < capacity constant_width n.constants → constant_words_at n q ≢ constant_words c)
    go (Ok k) q z =
        let same : k ≡ p = cc in
        let there : with_constants after.words after.answer.count m ≡ n = cc in
        let s = store_at m.constants (constants_of m) c k q in
        subst (λ x. (p < constants_of x) × (constant_words_at x p ≡ constant_words c) × ((q : ℕ) → q < p → q < capacity constant_width x.constants → constant_words_at x q ≢ constant_words c)) there
        (subst (λ j. (j < after.answer.count) × (record_at constant_width after.words j ≡ constant_words c) × ((q : ℕ) → q < j → q < capacity constant_width after.words → record_at constant_width after.words q ≢ constant_words c)) same
        (s.counted, s.holds, s.first))
    go (Err r) q z = let w : ◌≡◌ {A = ℕ} 0 1 = cc in absurd (omega arith)

one_constant : {c d : Operand} → Some c ≡ Some d → c ≡ d
one_constant e = cc

module _ (t : Tree) (root : ℕ) where
  -- a node that the root reaches, whose constant has these words
  pub record From (ws : List ℕ) : Type 0 where
    pub owner : ℕ
    pub reached : Reaches t root owner
    pub constant : Operand
    pub its : constant_of_node (node t owner) ≡ Some constant
    pub words : ws ≡ constant_words constant

  -- the pool, from m to n
  pub record Pooled (m n : Made) : Type 0 where
    -- only grows
    pub more : constants_of m ≤ constants_of n
    -- every constant that was there is as it was
    pub kept : (p : ℕ) → p < constants_of m → constant_words_at n p ≡ constant_words_at m p
    -- each one that is new is that of a node that the root reaches
    pub owned : (p : ℕ) → constants_of m ≤ p → p < constants_of n → From (constant_words_at n p)
    -- and no earlier one has its words
    pub new : (q p : ℕ) → q < p → constants_of m ≤ p → p < constants_of n → constant_words_at n q ≢ constant_words_at n p

  pooled_refl : (m : Made) → Pooled m m
  pooled_refl m = record { more = le_refl _; kept = λ p h. refl; owned = λ p a b. absurd (omega arith); new = λ q p l a b. absurd (omega arith) }

  pooled_trans : (m n o : Made) → Pooled m n → Pooled n o → Pooled m o
  pooled_trans m n o a b = record {
    more = le_trans a.more b.more;
    kept = λ p h. b.kept p (omega (arith, a.more)) ∙ a.kept p h;
    owned = λ p x y. owned p x y (dec_lt p (constants_of n));
    new = λ q p l x y. new q p l x y (dec_lt p (constants_of n));
  }
    where
      owned : (p : ℕ) → constants_of m ≤ p → p < constants_of o → Dec (p < constants_of n) → From (constant_words_at o p)
      owned p x y (yes l) = subst (λ ws. From ws) (sym (b.kept p l)) (a.owned p x l)
      owned p x y (no l) = b.owned p (omega arith) y

      new : (q p : ℕ) → q < p → constants_of m ≤ p → p < constants_of o → Dec (p < constants_of n) → constant_words_at o q ≢ constant_words_at o p
      new q p l x y (yes h) = λ e. a.new q p l x h (sym (b.kept q (omega arith)) ∙ e ∙ b.kept p h)
      new q p l x y (no h) = b.new q p l (omega arith) y

  same_pool : (m : Made) {n : Made} → (n.constants ≡ m.constants) → (constants_of n ≡ constants_of m) → Pooled m n
  same_pool m {n} e f = record {
    more = omega arith;
    kept = λ p h. ap (λ ws. record_at constant_width ws p) e;
    owned = λ p a b. absurd (omega arith);
    new = λ q p l a b. absurd (omega arith);
  }

  pooled_each : {A : Type 0} {w : Walk A} {m : Made} {o : Outcome A} → Step t root A w m o → Pooled m (made_of o)
  unfolding made_of
  pooled_each {m = m} (pools {c = c} own f h) = record {
    more = omega arith;
    kept = λ p l. record_other constant_width m.constants (constants_of m) (constant_words c) p (constant_length c) (ne_of_lt l);
    owned = λ p a b.
        let e : p ≡ constants_of m = omega arith in
        rw e (record { owner = own.owner; reached = own.reached; constant = _; its = own.its; words = there });
    new = λ q p l a b.
        let e : p ≡ constants_of m = omega arith in
        rw e (λ z. f q (omega arith) (omega arith) (sym (record_other constant_width m.constants (constants_of m) (constant_words c) q (constant_length c) (ne_of_lt (omega arith))) ∙ z ∙ there));
  }
    where
      there : record_at constant_width (put_record constant_width m.constants (constants_of m) (constant_words c)) (constants_of m) ≡ constant_words c
      there = record_same constant_width m.constants (constants_of m) (constant_words c) (constant_length c) h
  pooled_each {m = m} (takes k) = same_pool m refl refl
  pooled_each {m = m} (gives r h) = same_pool m refl refl
  pooled_each {m = m} (keeps r) = same_pool m refl refl
  pooled_each {m = m} (emits i f l h) = same_pool m refl refl
  pooled_each {m = m} (finds c l e f) = same_pool m refl refl
  pooled_each {m = m} (patches j l k) = same_pool m refl refl
  pooled_each {m = m} (marks i start end z h) = same_pool m refl refl
  pooled_each {m = m} (moves place l k b) = same_pool m refl refl
  pooled_each {m = m} (refuses q o) = same_pool m refl refl

  -- of any run
  pub runs_pool : {A : Type 0} {w : Walk A} {m : Made} {o : Outcome A} → Runs t root A w m o → Pooled m (made_of o)
  runs_pool r = along Pooled pooled_refl pooled_trans (λ A w m o s. pooled_each s) r

  -- no two are the same, if none were before
  pub distinct_kept : {m n : Made} → Pooled m n → Distinct m → Distinct n
  distinct_kept {m} {n} g d q p l h = go (dec_lt p (constants_of m))
    where
      go : Dec (p < constants_of m) → constant_words_at n q ≢ constant_words_at n p
      go (yes b) = λ e. d q p l b (sym (g.kept q (omega arith)) ∙ e ∙ g.kept p b)
      go (no b) = g.new q p l (omega arith) h

-- ---- as many different things below a bound are at most the bound

search : (f : ℕ → ℕ) (n k : ℕ) → ((p : ℕ) × (p < k) × (f p ≡ n)) ⊎ ((p : ℕ) → p < k → f p ≢ n)
search f n zero = inr (λ p h. absurd (omega arith))
search f n (suc k) = go (ℕ_discrete (f k) n) (search f n k)
  where
    go : Dec (f k ≡ n) → ((p : ℕ) × (p < k) × (f p ≡ n)) ⊎ ((p : ℕ) → p < k → f p ≢ n) → ((p : ℕ) × (p < suc k) × (f p ≡ n)) ⊎ ((p : ℕ) → p < suc k → f p ≢ n)
    go (yes e) s = inl (k, omega arith, e)
    go (no e) (inl (p, l, h)) = inl (p, omega arith, h)
    go (no e) (inr s) = inr (λ p l. last p l (ℕ_discrete p k))
      where
        last : (p : ℕ) → p < suc k → Dec (p ≡ k) → f p ≢ n
        last p l (yes q) = rw q e
        last p l (no q) = s p (omega arith)

-- k in place of p
swap : ℕ → ℕ → ℕ → ℕ
swap p k q = cond (eqb q p) k q

module _ (p k : ℕ) where
  swap_in : (q : ℕ) → q < k → (swap p k q < suc k) × (swap p k q ≢ p)
  unfolding swap
  swap_in q h = go (eqb q p) refl
    where
      go : (b : Bool) → eqb q p ≡ b → (cond b k q < suc k) × (cond b k q ≢ p)
      go true e = let z : q ≡ p = eqb-true q p e in (omega arith, λ x. omega arith)
      go false e = (omega arith, eqb-false q p e)

  swap_apart : (x y : ℕ) → x < y → y < k → swap p k x ≢ swap p k y
  unfolding swap
  swap_apart x y l h = go (eqb x p) refl (eqb y p) refl
    where
      go : (b : Bool) → eqb x p ≡ b → (c : Bool) → eqb y p ≡ c → cond b k x ≢ cond c k y
      go true e true f = let z : x ≡ p = eqb-true x p e in let w : y ≡ p = eqb-true y p f in λ q. omega arith
      go true e false f = λ q. omega arith
      go false e true f = λ q. omega arith
      go false e false f = λ q. omega arith

abbrev Apart : (ℕ → ℕ) → ℕ → Type 0
Apart f k = (p q : ℕ) → p < q → q < k → f p ≢ f q

apart_either : (f : ℕ → ℕ) (k : ℕ) → Apart f k → (p q : ℕ) → p < k → q < k → p ≢ q → f p ≢ f q
apart_either f k a p q x y n = go (dec_lt p q)
  where
    go : Dec (p < q) → f p ≢ f q
    go (yes l) = a p q l y
    go (no l) = λ e. a q p (omega arith) x (sym e)

pub pigeons : (n k : ℕ) (f : ℕ → ℕ) → ((p : ℕ) → p < k → f p < n) → Apart f k → k ≤ n
pigeons n zero f below a = omega arith
pigeons zero (suc k) f below a = absurd (omega (arith, below 0 (omega arith)))
pigeons (suc n) (suc k) f below a = go (search f n (suc k)) (λ g x y. pigeons n k g x y) (λ x. pigeons n (suc k) f x a)
  where
    go : ((p : ℕ) × (p < suc k) × (f p ≡ n)) ⊎ ((p : ℕ) → p < suc k → f p ≢ n) →
        ((g : ℕ → ℕ) → ((p : ℕ) → p < k → g p < n) → Apart g k → k ≤ n) → (((p : ℕ) → p < suc k → f p < n) → suc k ≤ n) → suc k ≤ suc n
    go (inr absent) fewer same = let h = same (λ p l. let x = below p l in let y = absent p l in omega arith) in omega arith
    go (inl (p, l, e)) fewer same =
        let h : k ≤ n = fewer (λ q. f (swap p k q)) small (λ x y h z. apart_either f (suc k) a (swap p k x) (swap p k y) (swap_in p k x (omega arith)).0 (swap_in p k y z).0 (swap_apart p k x y h z)) in
        omega arith
      where
        small : (q : ℕ) → q < k → f (swap p k q) < n
        small q h =
            let i = swap_in p k q h in
            let x : f (swap p k q) < suc n = below (swap p k q) i.0 in
            let y : f (swap p k q) ≢ f p = apart_either f (suc k) a (swap p k q) p i.0 l i.1 in
            let z : f (swap p k q) ≢ n = λ w. y (w ∙ sym e) in
            omega arith

-- where a number stands in a list that names it
place_of : {i : ℕ} {l : List ℕ} → Named i l → ℕ
place_of first = 0
place_of (later h) = suc (place_of h)

place_inside : {i : ℕ} {l : List ℕ} (h : Named i l) → place_of h < length l
unfolding place_of
place_inside first = omega arith
place_inside (later h) = omega (arith, place_inside h)

place_there : {i : ℕ} {l : List ℕ} (h : Named i l) → get_or l (place_of h) 0 ≡ i
unfolding place_of
place_there first = refl
place_there (later h) = place_there h

module _ (t : Tree) (root : ℕ) {m n : Made} (g : Pooled t root m n) where
  past : (k : ℕ) → constants_of m ≤ constants_of m + k
  past k = omega arith

  module _ (reached : List ℕ) (all : (i : ℕ) → Reaches t root i → Named i reached) where
    -- the place of a node for constant k of those added
    spot : (k : ℕ) → Dec (constants_of m + k < constants_of n) → ℕ
    spot k (yes l) = let o = g.owned (constants_of m + k) (past k) l in place_of (all o.owner o.reached)
    spot k (no l) = 0

    spot_inside : (k : ℕ) (d : Dec (constants_of m + k < constants_of n)) → constants_of m + k < constants_of n → spot k d < length reached
    unfolding spot
    spot_inside k (yes l) h = place_inside _
    spot_inside k (no l) h = absurd (l h)

    spot_apart : (p q : ℕ) (d : Dec (constants_of m + p < constants_of n)) (e : Dec (constants_of m + q < constants_of n)) → p < q →
        constants_of m + q < constants_of n → spot p d ≢ spot q e
    unfolding spot
    spot_apart p q (yes x) (yes y) l h = λ z.
        let a = g.owned (constants_of m + p) (past p) x in
        let b = g.owned (constants_of m + q) (past q) y in
        let same : a.owner ≡ b.owner =
        sym (place_there (all a.owner a.reached)) ∙ ap (λ k. get_or reached k 0) z ∙ place_there (all b.owner b.reached) in
        g.new (constants_of m + p) (constants_of m + q) (omega arith) (omega arith) h (a.words ∙ ap constant_words (one_constant (sym a.its ∙ ap (λ i. constant_of_node (node t i)) same ∙ b.its)) ∙ sym b.words)
    spot_apart p q (yes x) (no y) l h = absurd (y h)
    spot_apart p q (no x) e l h = absurd (x (omega arith))

    -- A lowering adds at most as many constants as there are distinct nodes that the root reaches: at most as many as any list that names all of
    -- them is long.
    pub added_at_most : constants_of n ≤ constants_of m + length reached
    added_at_most =
        let few : constants_of n - constants_of m ≤ length reached = pigeons (length reached) (constants_of n - constants_of m) (λ k. spot k (dec_lt (constants_of m + k) (constants_of n)))
        (λ p h. spot_inside p (dec_lt (constants_of m + p) (constants_of n)) (omega arith))
        (λ p q l h. spot_apart p q (dec_lt (constants_of m + p) (constants_of n)) (dec_lt (constants_of m + q) (constants_of n)) l (omega arith)) in
        omega arith
