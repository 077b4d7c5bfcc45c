-- The pool of `lower`: every constant for which the walk asks stands, where the walk ends, at the index that it was given and at no earlier one, and
-- there are at most as many as nodes that the root reaches. Assumes nothing.
use Prim.Native.Nat.{ℕ, ◌≤◌, ◌<◌}
use native.Mathlib.Omega.{arith}
use native.Mathlib.Decide.{dec_lt}
use mathlib.Core.Path.{◌≡◌, sym, ap, ◌∙◌, subst}
use mathlib.Core.Logic.{◌⊎◌, inl, inr}
use mathlib.Core.List.{List}
use Rattle.words.specs.Records.{record_at}
use Rattle.words.proofs.Records.{record_same}
use Rattle.runtime.specs.declared.operand.Operand.{Operand}
use Rattle.runtime.specs.Value.{constant_words}
use Rattle.lowering.specs.Tree.{Tree, tree_of}
use Rattle.lowering.specs.Checked.{AllYes}
use Rattle.lowering.specs.Reach.{reached_nodes}
use Rattle.lowering.specs.Walk.{Made, Outcome, Walk, made_of}
use Rattle.lowering.specs.Steps.{free_temp}
use Rattle.lowering.specs.Result.{Lowered, begin, lower_root, lower}
use Rattle.lowering.specs.Trace.{Runs, step, returns, follows, halts, reads, counts, takes, gives, keeps, emits, finds, pools, patches, marks, moves, refuses, constants_of}
use Rattle.lowering.specs.Answers.{nothing_made}
use Rattle.lowering.specs.Pool.{Fit, Stores, FirstPlace, Pool}
use Rattle.lowering.proofs.Running.Decode.{constant_length}
use Rattle.lowering.proofs.Walk.Pool.{runs_pool}
use Rattle.lowering.proofs.Walk.LowerRuns.{Came, before, accepted, stopped, lower_came, few_names, first_number}
use Rattle.lowering.proofs.Walk.PoolOfLower.{nothing_cut, pool_adds_reached}

-- a constant stands at an index of what was made
abbrev pub Stands : Made → Operand → ℕ → Type 0
Stands m c p = (p < constants_of m) × (record_at 3 m.constants p ≡ constant_words c)

module _ {t : Tree} {root : ℕ} where
  stays : {A : Type 0} {w : Walk A} {m : Made} {o : Outcome A} → Runs t root A w m o → (c : Operand) (p : ℕ) → Stands m c p → Stands (made_of o) c p
  stays r c p h = let g = runs_pool t root r in (omega (arith, g.more, h.0), g.kept p h.0 ∙ h.1)

  module _ (P : Operand → ℕ → Type 0) where
    -- which it is of each, if it is of all that stand at the end
    pub stored : {A : Type 0} {w : Walk A} {m : Made} {o : Outcome A} (r : Runs t root A w m o) → ((c : Operand) (p : ℕ) → Stands (made_of o) c p → P c p) → Stores P r
    unfolding made_of
    stored (step (finds c {p = p} l e f)) h = h c p (l, e)
    stored (step (pools {m = m} {c = c} o f l)) h =
        h c (constants_of m) (omega arith, record_same 3 m.constants (constants_of m) (constant_words c) (constant_length c) l)
    stored (step (takes k)) h = tt
    stored (step (gives r k)) h = tt
    stored (step (keeps r)) h = tt
    stored (step (emits i f l k)) h = tt
    stored (step (patches j l k)) h = tt
    stored (step (marks i start end z k)) h = tt
    stored (step (moves place l k b)) h = tt
    stored (step (refuses q o)) h = tt
    stored returns h = tt
    stored (follows k a b) h = (stored a (λ c p s. h c p (stays b c p s)), stored b h)
    stored (halts k a) h = stored a h
    stored (reads k a) h = stored a h
    stored (counts a) h = stored a h

    -- every constant that a run adds is one for which it asks
    pub each_stored : {A : Type 0} {w : Walk A} {m : Made} {o : Outcome A} (r : Runs t root A w m o) → Stores P r → (p : ℕ) → constants_of m ≤ p → p < constants_of (made_of o) →
        (c : Operand) × P c p × (record_at 3 (made_of o).constants p ≡ constant_words c)
    unfolding made_of
    each_stored (step (finds c l e f)) s p a b = absurd (omega arith)
    each_stored (step (pools {m = m} {c = c} o f l)) s p a b =
        let same : p ≡ constants_of m = omega arith in
        (c, subst (λ x. P c x) (sym same) s, rw same (record_same 3 m.constants (constants_of m) (constant_words c) (constant_length c) l))
    each_stored (step (takes k)) s p a b = absurd (omega arith)
    each_stored (step (gives r k)) s p a b = absurd (omega arith)
    each_stored (step (keeps r)) s p a b = absurd (omega arith)
    each_stored (step (emits i f l k)) s p a b = absurd (omega arith)
    each_stored (step (patches j l k)) s p a b = absurd (omega arith)
    each_stored (step (marks i start end z k)) s p a b = absurd (omega arith)
    each_stored (step (moves place l k h)) s p a b = absurd (omega arith)
    each_stored (step (refuses q o)) s p a b = absurd (omega arith)
    each_stored returns s p a b = absurd (omega arith)
    each_stored {o = o} (follows k {n = n} x y) s p a b = go (dec_lt p (constants_of n)) (λ l. each_stored x s.0 p a l) (λ l. each_stored y s.1 p l b)
      where
        go : Dec (p < constants_of n) → (p < constants_of n → (c : Operand) × P c p × (record_at 3 n.constants p ≡ constant_words c)) →
            (constants_of n ≤ p → (c : Operand) × P c p × (record_at 3 (made_of o).constants p ≡ constant_words c)) →
            (c : Operand) × P c p × (record_at 3 (made_of o).constants p ≡ constant_words c)
        go (yes l) f g = let h = f l in (h.0, h.1, (stays y h.0 p (l, h.2)).1)
        go (no l) f g = g (omega arith)
    each_stored (halts k x) s p a b = each_stored x s p a b
    each_stored (reads k x) s p a b = each_stored x s p a b
    each_stored (counts x) s p a b = each_stored x s p a b

-- ---- of `lower`

module _ (nodes : List ℕ) (root mode : ℕ) (list names code constants marks : List ℕ) where
  -- so every constant that the walk leaves stands at exit
  pub pool_shows : {l : Lowered} → Pool nodes root mode list names code constants marks l → (p : ℕ) →
      p < constants_of (made_of (lower_root free_temp (tree_of nodes list names) mode root (nothing_made nodes root mode list names code constants marks))) →
      record_at 3 l.constants p ≡ record_at 3 (made_of (lower_root free_temp (tree_of nodes list names) mode root (nothing_made nodes root mode list names code constants marks))).constants p
  unfolding begin
  pool_shows {l} x p h =
      let e = each_stored (FirstPlace l) x.run x.first_place p (omega arith) (subst (λ o. p < constants_of (made_of o)) x.is h) in
      e.1.1 ∙ sym e.2 ∙ ap (λ o. record_at 3 (made_of o).constants p) (sym x.is)

  first_of : {l : Lowered} → Fit nodes root mode list names code constants marks l → (c : Operand) (p : ℕ) → p < l.result.constants →
      record_at 3 l.constants p ≡ constant_words c → FirstPlace l c p
  first_of f c p h e = (h, e, λ q k z. f.distinct q p k h (z ∙ sym e))

  pooling : {l : Lowered} → Came nodes root mode list names code constants marks l → Fit nodes root mode list names code constants marks l →
      (l.result.number ≡ 0) ⊎ (9 ≤ l.result.number) → Pool nodes root mode list names code constants marks l
  unfolding made_of
  pooling (before h) f (inl e) = absurd (omega (arith, (first_number h).0))
  pooling (before h) f (inr e) = absurd (omega (arith, (first_number h).1))
  pooling {l = l} (accepted y q r) f e = record { outcome = _; is = q; run = r; first_place = stored (FirstPlace l) r (λ c p s. first_of f c p s.0 s.1) }
  pooling {l = l} (stopped y q r o) f e = record { outcome = _; is = q; run = r; first_place = stored (FirstPlace l) r (λ c p s. first_of f c p s.0 s.1) }

  pub pool_first : ((lower nodes root mode list names code constants marks).result.number ≡ 0) ⊎ (9 ≤ (lower nodes root mode list names code constants marks).result.number) →
      Pool nodes root mode list names code constants marks (lower nodes root mode list names code constants marks)
  pool_first = pooling (lower_came nodes root mode list names code constants marks) (nothing_cut nodes root mode list names code constants marks)

  -- At most as many constants as there are distinct nodes that the root reaches.
  walk_few : AllYes nodes list names mode root → (o : Outcome ℕ) → lower_root free_temp (tree_of nodes list names) mode root (nothing_made nodes root mode list names code constants marks) ≡ o →
      constants_of (made_of o) ≤ reached_nodes (tree_of nodes list names) root
  walk_few y o q =
      let few = few_names nodes root mode list names code constants marks y in
      rw (← q) (omega (arith, pool_adds_reached (tree_of nodes list names) root mode y.checked few code constants marks 0))

  pooled_few : {l : Lowered} → Came nodes root mode list names code constants marks l → l.result.constants ≤ reached_nodes (tree_of nodes list names) root
  unfolding made_of
  pooled_few (before h) = omega arith
  pooled_few (accepted y q r) = walk_few y _ q
  pooled_few (stopped y q r o) = walk_few y _ q

  pub pool_few : (lower nodes root mode list names code constants marks).result.constants ≤ reached_nodes (tree_of nodes list names) root
  pool_few = pooled_few (lower_came nodes root mode list names code constants marks)
