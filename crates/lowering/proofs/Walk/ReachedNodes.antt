-- The distinct nodes that a root reaches, counted: the test of the count finds exactly those nodes. Assumes nothing.
use Prim.Native.Nat.{ℕ, zero, suc, ◌+◌, ◌≤◌, ◌<◌}
use native.Mathlib.Omega.{arith}
use native.Mathlib.Nat.{le_refl}
use native.Mathlib.Decide.{ℕ_discrete}
use mathlib.Core.Path.{◌≡◌, refl, sym, ap, ◌∙◌}
use mathlib.Core.Logic.{◌⊎◌, inl, inr, ◌↔◌}
use mathlib.Core.Bool.{Bool, true, false, cond, ◌||◌, true≢false}
use lib.Dec.{eqb}
use borrow.Author.Tests.{eqb-true, eq-eqb}
use mathlib.Core.List.{List, [], ◌∷◌}
use lib.ListN.{length}
use Rattle.lowering.specs.Tree.{Tree, node, children}
use Rattle.lowering.specs.Questions.{question7}
use Rattle.lowering.specs.Checked.{Checked}
use Rattle.lowering.specs.Reach.{any_of, reaches_below, count_below}
use Rattle.lowering.specs.Meaning.{Named, first, later, Reaches, here, below}
use Rattle.lowering.proofs.Questions.Checked.{checked_at}
use Rattle.lowering.proofs.Walk.StepLaws.{below_named}

-- ---- of a checked tree: a node reaches none above itself

pub reaches_lower : {t : Tree} → Checked t → {i j : ℕ} → Reaches t i j → j ≤ i
unfolding question7
reaches_lower checked here = le_refl _
reaches_lower checked (below {i = i} {j = j} n r) =
    let l : j < i = below_named i n (checked_at checked i).order in
    omega (arith, reaches_lower checked r)

-- the numbers below n that pass a test
pub passing : (ℕ → Bool) → ℕ → List ℕ
passing test zero = []
passing test (suc n) = cond (test n) (n ∷ passing test n) (passing test n)

pub passing_length : (test : ℕ → Bool) (n : ℕ) → length (passing test n) ≡ count_below test n
unfolding passing count_below
passing_length test zero = refl
passing_length test (suc n) = go (test n) (passing_length test n)
  where
    go : (b : Bool) → length (passing test n) ≡ count_below test n → length (cond b (n ∷ passing test n) (passing test n)) ≡ cond b 1 0 + count_below test n
    go true e = omega arith
    go false e = omega arith

pub passing_names : (test : ℕ → Bool) (n i : ℕ) → i < n → test i ≡ true → Named i (passing test n)
unfolding passing
passing_names test zero i h t = absurd (omega arith)
passing_names test (suc n) i h t = go (ℕ_discrete i n) (test n) refl (λ l. passing_names test n i l t)
  where
    go : Dec (i ≡ n) → (b : Bool) → test n ≡ b → (i < n → Named i (passing test n)) → Named i (cond b (n ∷ passing test n) (passing test n))
    go (yes e) true q f = rw e first
    go (yes e) false q f = absurd (true≢false (sym t ∙ ap test e ∙ q))
    go (no e) true q f = later (f (omega arith))
    go (no e) false q f = f (omega arith)

pub count_few : (test : ℕ → Bool) (n : ℕ) → count_below test n ≤ n
unfolding count_below
count_few test zero = omega arith
count_few test (suc n) = go (test n) (count_few test n)
  where
    go : (b : Bool) → count_below test n ≤ n → cond b 1 0 + count_below test n ≤ suc n
    go true h = omega arith
    go false h = omega arith

-- ---- the test finds a node exactly where it is reached

or_right : (a b : Bool) → b ≡ true → (a || b) ≡ true
or_right true b e = refl
or_right false b e = e

or_left : (a b : Bool) → a ≡ true → (a || b) ≡ true
or_left true b e = refl
or_left false b e = absurd (true≢false (sym e))

or_either : (a b : Bool) → (a || b) ≡ true → (a ≡ true) ⊎ (b ≡ true)
or_either true b e = inl refl
or_either false b e = inr e

any_named : (test : ℕ → Bool) {c : ℕ} {l : List ℕ} → Named c l → test c ≡ true → any_of test l ≡ true
unfolding any_of
any_named test {c} (first {is = l}) e = or_left (test c) (any_of test l) e
any_named test (later {j = d} {is = l} n) e = or_right (test d) (any_of test l) (any_named test n e)

named_any : (test : ℕ → Bool) (l : List ℕ) → any_of test l ≡ true → (c : ℕ) × Named c l × (test c ≡ true)
unfolding any_of
named_any test [] e = absurd (true≢false (sym e))
named_any test (x ∷ l) e = go (or_either (test x) (any_of test l) e) (λ f. named_any test l f)
  where
    go : (test x ≡ true) ⊎ (any_of test l ≡ true) → (any_of test l ≡ true → (c : ℕ) × Named c l × (test c ≡ true)) → (c : ℕ) × Named c (x ∷ l) × (test c ≡ true)
    go (inl h) f = (x, first, h)
    go (inr h) f = let r = f h in (r.0, later r.1, r.2)

module _ (t : Tree) where
  reached_test : Checked t → {i j : ℕ} → Reaches t i j → (f : ℕ) → i < f → reaches_below t f j i ≡ true
  unfolding reaches_below question7
  reached_test checked here zero h = absurd (omega arith)
  reached_test checked (below n r) zero h = absurd (omega arith)
  reached_test checked (here {i = i}) (suc f) h = or_left (eqb i i) _ (eq-eqb i i refl)
  reached_test checked {i} {j} (below {j = c} n r) (suc f) h =
      let l : c < i = below_named i n (checked_at checked i).order in
      or_right (eqb i j) _ (any_named (λ k. reaches_below t f j k) n (reached_test checked r f (omega arith)))

  test_reached : (f i j : ℕ) → reaches_below t f j i ≡ true → Reaches t i j
  unfolding reaches_below
  test_reached zero i j e = absurd (true≢false (sym e))
  test_reached (suc f) i j e = go (or_either (eqb i j) _ e) (λ c h. test_reached f c j h)
    where
      go : (eqb i j ≡ true) ⊎ (any_of (λ c. reaches_below t f j c) (children t.list (node t i)) ≡ true) → ((c : ℕ) → reaches_below t f j c ≡ true → Reaches t c j) → Reaches t i j
      go (inl h) f' = rw (eqb-true i j h) here
      go (inr h) f' = let r = named_any (λ c. reaches_below t f j c) (children t.list (node t i)) h in below r.1 (f' r.0 r.2)

  -- the test of `reached_nodes`, of a checked tree: exactly the nodes that the root reaches, none above the root
  pub reaches_exactly : Checked t → (root j : ℕ) → (reaches_below t (suc root) j root ≡ true) ↔ Reaches t root j
  reaches_exactly checked root j = (test_reached (suc root) root j, λ r. reached_test checked r (suc root) (omega arith))
