-- The laws of the pool and of the fields, of `lower_root` from any starting pool and of `lower`: nothing pooled changes, no two constants are the same,
-- at most as many are added as nodes are reached, and no instruction has a field that the Rust would cut. Assumes nothing.
use Prim.Native.Nat.{ℕ, suc, ◌+◌, ◌≤◌, ◌<◌}
use native.Mathlib.Omega.{arith}
use mathlib.Core.Path.{◌≡◌, ap, subst}
use mathlib.Core.Logic.{◌≢◌}
use mathlib.Core.Bool.{Bool}
use mathlib.Core.List.{List}
use lib.ListN.{length}
use Rattle.words.specs.Records.{record_at}
use Rattle.runtime.specs.Value.{constant_width}
use Rattle.environment.specs.Laws.{Sound}
use Rattle.environment.proofs.Laws.{parameters_sound}
use Rattle.lowering.specs.Tree.{Tree, tree_of}
use Rattle.lowering.specs.Checked.{Checked, AllYes}
use Rattle.lowering.specs.Reach.{reaches_below, reached_nodes}
use Rattle.lowering.specs.Walk.{Made, made_of}
use Rattle.lowering.specs.Steps.{free_temp}
use Rattle.lowering.specs.Result.{Lowered, begin, lower_root, lower}
use Rattle.lowering.specs.Meaning.{Named, Reaches}
use Rattle.lowering.specs.Fields.{Narrow, words_at}
use Rattle.lowering.specs.Trace.{Runs, instructions_of, constants_of, registers_of, Marked}
use Rattle.lowering.specs.Answers.{nothing_made}
use Rattle.lowering.specs.Pool.{AllNarrow, made_from, Fit}
use Rattle.lowering.proofs.Questions.Checked.{question1_sizes, question2_parts}
use Rattle.lowering.proofs.Walk.RootRuns.{root_runs}
use Rattle.lowering.proofs.Walk.Pool.{Distinct, Pooled, runs_pool, distinct_kept, added_at_most}
use Rattle.lowering.proofs.Walk.NothingCut.{runs_uncut, narrow_more}
use Rattle.lowering.proofs.Walk.LowerRuns.{Came, before, accepted, stopped, lower_came, few_names}
use Rattle.lowering.proofs.Walk.ReachedNodes.{reaches_lower, passing, passing_length, passing_names, count_few, reaches_exactly}

module _ (t : Tree) (root mode : ℕ) (checked : Checked t) (few : length t.names ≤ 256) (code constants marks : List ℕ) (pooled : ℕ) where
  -- nothing made yet, from a pool that holds `pooled` constants already
  abbrev from : Made
  from = begin code constants marks pooled (length t.names)

  from_sound : Sound (registers_of from)
  unfolding begin
  from_sound = parameters_sound (length t.names)

  from_marked : Marked from
  unfolding begin
  from_marked k h = absurd (omega arith)

  run : Runs t root ℕ (lower_root free_temp t mode root) from (lower_root free_temp t mode root from)
  run = root_runs t root checked few mode from from_sound from_marked

  pool : Pooled t root from (made_from t root mode code constants marks pooled)
  pool = runs_pool t root run

  -- Nothing pooled ever changes.
  pub pooled_stays : (p : ℕ) → p < pooled → record_at constant_width (made_from t root mode code constants marks pooled).constants p ≡ record_at constant_width constants p
  unfolding begin
  pooled_stays p h = pool.kept p h

  -- No two constants are the same if none were before.
  pub pooled_distinct : ((q p : ℕ) → q < p → p < pooled → record_at constant_width constants q ≢ record_at constant_width constants p) →
      (q p : ℕ) → q < p → p < constants_of (made_from t root mode code constants marks pooled) → record_at constant_width (made_from t root mode code constants marks pooled).constants q ≢ record_at constant_width (made_from t root mode code constants marks pooled).constants p
  unfolding begin
  pooled_distinct d = distinct_kept t root pool d

  -- Lowering adds at most as many constants as there are distinct nodes that the root reaches: as any list that names all of them is long.
  pub pool_adds_at_most : (reached : List ℕ) → ((i : ℕ) → Reaches t root i → Named i reached) → constants_of (made_from t root mode code constants marks pooled) ≤ pooled + length reached
  unfolding begin
  pool_adds_at_most reached all = added_at_most t root pool reached all

  -- and so as their number
  pub pool_adds_reached : constants_of (made_from t root mode code constants marks pooled) ≤ pooled + reached_nodes t root
  unfolding reached_nodes
  pool_adds_reached =
      let test : ℕ → Bool = λ j. reaches_below t (suc root) j root in
      let h = pool_adds_at_most (passing test (suc root)) (λ i r. passing_names test (suc root) i (let l = reaches_lower checked r in omega arith) ((reaches_exactly t checked root i).1 r)) in
      omega (arith, passing_length test (suc root))

  -- which is at most one for each node up to the root
  pub pool_adds_nodes : constants_of (made_from t root mode code constants marks pooled) ≤ pooled + (root + 1)
  unfolding reached_nodes
  pool_adds_nodes = omega (arith, pool_adds_reached, count_few (λ j. reaches_below t (suc root) j root) (suc root))

  -- Every instruction made fits its fields, a constant's index being one of those pooled.
  pub instructions_fit : AllNarrow (made_from t root mode code constants marks pooled)
  unfolding begin
  instructions_fit = (runs_uncut run).narrow (omega arith, omega arith) (λ p h. absurd (omega arith))

-- ---- of `lower`

module _ (nodes : List ℕ) (root mode : ℕ) (list names code constants marks : List ℕ) where
  -- of what was made
  abbrev FitMade : Made → Type 0
  FitMade m = (constants_of m ≤ 4096) × ((p : ℕ) → p < instructions_of m → Narrow 65536 (words_at m.code p)) × Distinct m

  walk_fits : AllYes nodes list names mode root → FitMade (made_of (lower_root free_temp (tree_of nodes list names) mode root (nothing_made nodes root mode list names code constants marks)))
  walk_fits y =
      let few = few_names nodes root mode list names code constants marks y in
      let t : Tree = tree_of nodes list names in
      let small = (question2_parts mode root _ y.start).1 in
      let size = (question1_sizes nodes list names y.size).few_nodes in
      let bound = pool_adds_nodes t root mode y.checked few code constants marks 0 in
      let fit = instructions_fit t root mode y.checked few code constants marks 0 in (
        omega arith,
        (λ p h. narrow_more (words_at (made_of (lower_root free_temp t mode root (nothing_made nodes root mode list names code constants marks))).code p) (omega arith) (fit p h)),
        pooled_distinct t root mode y.checked few code constants marks 0 (λ q p a b. absurd (omega arith)),
      )

  made_fits : {m : Made} → AllYes nodes list names mode root → made_of (lower_root free_temp (tree_of nodes list names) mode root (nothing_made nodes root mode list names code constants marks)) ≡ m → FitMade m
  made_fits y e = subst (λ m. FitMade m) e (walk_fits y)

  fit : {l : Lowered} → Came nodes root mode list names code constants marks l → Fit nodes root mode list names code constants marks l
  unfolding made_of begin
  fit (before h) = record { few_constants = omega arith; fields_fit = λ p h. absurd (omega arith); distinct = λ q p a b. absurd (omega arith) }
  fit (accepted y e r) = let f = made_fits y (ap made_of e) in record { few_constants = f.0; fields_fit = f.1; distinct = f.2 }
  fit (stopped y e r o) = let f = made_fits y (ap made_of e) in record { few_constants = f.0; fields_fit = f.1; distinct = f.2 }

  pub nothing_cut : Fit nodes root mode list names code constants marks (lower nodes root mode list names code constants marks)
  nothing_cut = fit (lower_came nodes root mode list names code constants marks)
