-- Registers over a run of lowering: each give-back of the walk is of a held register and each take of the smallest free one (by the steps that make a
-- run, `gives` and `takes`); the frame size is one more than the highest taken, and the most held at one moment. Assumes nothing.
use Prim.Native.Nat.{ℕ, zero, suc, ◌+◌, ◌≤◌, ◌<◌, max}
use native.Mathlib.Omega.{arith}
use native.Mathlib.Decide.{dec_lt, ℕ_discrete}
use mathlib.Core.Path.{◌≡◌, refl, ap, ◌∙◌}
use mathlib.Core.Bool.{Bool, true, false, cond}
use mathlib.Core.List.{List}
use lib.ListN.{length}
use borrow.Author.Tests.{lt-ltb}
use Rattle.words.specs.Words.{words}
use Rattle.environment.specs.declared.RegisterSet.{RegisterSet}
use Rattle.environment.specs.Registers.{held, given_back}
use Rattle.environment.specs.Environment.{parameters}
use Rattle.environment.specs.Laws.{Sound, Takes}
use Rattle.environment.proofs.Laws.{take_sound, raised, gives as gives_back, give_sound, parameters_held, parameters_frame, parameters_sound}
use Rattle.lowering.specs.Tree.{Tree, tree_of}
use Rattle.lowering.specs.Walk.{Made, Outcome, ends, Walk, made_of}
use Rattle.lowering.specs.Steps.{with_registers}
use Rattle.lowering.specs.Result.{Lowered, begin, lower}
use Rattle.lowering.specs.Trace.{Runs, step, returns, follows, halts, reads, counts, takes, gives, keeps, emits, finds, pools, patches, marks, moves, refuses, registers_of, Held}
use Rattle.lowering.specs.Answers.{nothing_made}
use Rattle.lowering.specs.Frame.{held_among_first, held_count, frame_of, Smallest, highest, most_held, Every, Frames}
use Rattle.lowering.proofs.Walk.SmallestFirst.{smallest_first as first}
use Rattle.lowering.proofs.Walk.LowerRuns.{Came, before, accepted, stopped, lower_came, few_names, first_number, own_number}

-- at most f of them, if every held register is below f
held_most : (s : RegisterSet) (f : ℕ) → ((r : ℕ) → held s r ≡ true → r < f) → (n : ℕ) → (held_among_first s n ≤ f) × (held_among_first s n ≤ n)
unfolding held_among_first
held_most s f below zero = (omega arith, omega arith)
held_most s f below (suc n) = go (held s n) refl (held_most s f below n)
  where
    go : (b : Bool) → held s n ≡ b → (held_among_first s n ≤ f) × (held_among_first s n ≤ n) → (cond b 1 0 + held_among_first s n ≤ f) × (cond b 1 0 + held_among_first s n ≤ suc n)
    go true e h = let l : n < f = below n e in (omega (arith, h.1), omega (arith, h.1))
    go false e h = (omega (arith, h.0), omega (arith, h.1))

-- exactly f, if the held ones are those below f
held_least : (s : RegisterSet) (f : ℕ) → ((r : ℕ) → r < f → held s r ≡ true) → (n : ℕ) → n ≤ f → held_among_first s n ≡ n
unfolding held_among_first
held_least s f all zero h = refl
held_least s f all (suc n) h = rw (all n (omega arith)) (omega (arith, held_least s f all n (omega arith)))

held_grows : (s : RegisterSet) (n m : ℕ) → n ≤ m → held_among_first s n ≤ held_among_first s m
unfolding held_among_first
held_grows s n zero h = let e : n ≡ 0 = omega arith in rw e (omega arith)
held_grows s n (suc m) h = go (ℕ_discrete n (suc m)) (λ l. held_grows s n m l)
  where
    go : Dec (n ≡ suc m) → (n ≤ m → held_among_first s n ≤ held_among_first s m) → held_among_first s n ≤ cond (held s m) 1 0 + held_among_first s m
    go (yes e) f = rw e (omega arith)
    go (no e) f = omega (arith, f (omega arith))

few_held : (s : RegisterSet) → Sound s → held_among_first s 256 ≤ s.frame_size
few_held s sound = (held_most s s.frame_size sound.below 256).0

-- a step that leaves the frame size
framed_still : (m n : Made) → Sound (registers_of m) → Sound (registers_of n) → frame_of n ≡ frame_of m →
    frame_of n ≡ max (frame_of m) (max (held_count m) (held_count n))
framed_still m n a b e = omega (arith, few_held (registers_of m) a, few_held (registers_of n) b)

-- a take: where it raises the frame size, all below it are held
framed_take : (m : Made) (s : RegisterSet) (r : ℕ) → Takes (registers_of m) r s → Sound (registers_of m) →
    s.frame_size ≡ max (frame_of m) (max (held_count m) (held_among_first s 256))
framed_take m s r k sound = go (dec_lt (frame_of m) s.frame_size)
  where
    after : Sound s
    after = take_sound k sound

    go : Dec (frame_of m < s.frame_size) → s.frame_size ≡ max (frame_of m) (max (held_count m) (held_among_first s 256))
    go (yes l) =
        let f : ℕ = s.frame_size in
        let small : f ≤ 256 = omega (arith, k.frame, k.in_range) in
        let all : held_among_first s f ≡ f = held_least s f (λ j h. (raised k sound l j).0 h) f (omega arith) in
        let more : held_among_first s f ≤ held_among_first s 256 = held_grows s f 256 small in
        omega (arith, few_held (registers_of m) sound, few_held s after)
    go (no l) = omega (arith, k.frame, few_held (registers_of m) sound, few_held s after)

module _ {t : Tree} {root : ℕ} where
  -- what a run does to the registers
  record Framed {A : Type 0} {w : Walk A} {m : Made} {o : Outcome A} (r : Runs t root A w m o) : Type 0 where
    pub sound : Sound (registers_of (made_of o))
    pub by_highest : frame_of (made_of o) ≡ max (frame_of m) (highest r)
    pub by_most : frame_of (made_of o) ≡ max (frame_of m) (most_held r)
    pub at_least : held_count m ≤ most_held r

  -- for any run, from sound registers
  framed : {A : Type 0} {w : Walk A} {m : Made} {o : Outcome A} (r : Runs t root A w m o) → Sound (registers_of m) → Framed r
  unfolding highest most_held made_of
  framed {m = m} (step (takes {s = s} {r = r} k)) h =
      record { sound = take_sound k h; by_highest = k.frame; by_most = framed_take m s r k h; at_least = omega arith }
  framed {m = m} (step (gives r k)) h =
      let g = gives_back (registers_of m) r h k in
      record {
        sound = give_sound g h;
        by_highest = omega (arith, g.frame);
        by_most = framed_still m (with_registers (given_back (registers_of m) r) m) h (give_sound g h) g.frame;
        at_least = omega arith;
      }
  framed {m = m} (step (keeps r)) h = record { sound = h; by_highest = omega arith; by_most = framed_still m m h h refl; at_least = omega arith }
  framed {m = m} (step (emits i f l k)) h = record { sound = h; by_highest = omega arith; by_most = framed_still m m h h refl; at_least = omega arith }
  framed {m = m} (step (finds c l e f)) h = record { sound = h; by_highest = omega arith; by_most = framed_still m m h h refl; at_least = omega arith }
  framed {m = m} (step (pools o f k)) h = record { sound = h; by_highest = omega arith; by_most = framed_still m m h h refl; at_least = omega arith }
  framed {m = m} (step (patches j l k)) h = record { sound = h; by_highest = omega arith; by_most = framed_still m m h h refl; at_least = omega arith }
  framed {m = m} (step (marks i start end z k)) h = record { sound = h; by_highest = omega arith; by_most = framed_still m m h h refl; at_least = omega arith }
  framed {m = m} (step (moves place l k b)) h = record { sound = h; by_highest = omega arith; by_most = framed_still m m h h refl; at_least = omega arith }
  framed {m = m} (step (refuses q o)) h = record { sound = h; by_highest = omega arith; by_most = framed_still m m h h refl; at_least = omega arith }
  framed (returns {m = m}) h = record { sound = h; by_highest = omega arith; by_most = omega (arith, few_held (registers_of m) h); at_least = omega arith }
  framed (follows k a b) h =
      let x = framed a h in
      let y = framed b x.sound in
      record {
        sound = y.sound;
        by_highest = omega (arith, x.by_highest, y.by_highest);
        by_most = omega (arith, x.by_most, y.by_most);
        at_least = omega (arith, x.at_least);
      }
  framed (halts k a) h = let x = framed a h in record { sound = x.sound; by_highest = x.by_highest; by_most = x.by_most; at_least = x.at_least }
  framed (reads k a) h = let x = framed a h in record { sound = x.sound; by_highest = x.by_highest; by_most = x.by_most; at_least = x.at_least }
  framed (counts a) h = let x = framed a h in record { sound = x.sound; by_highest = x.by_highest; by_most = x.by_most; at_least = x.at_least }

  ended : {A : Type 0} {w : Walk A} {m n : Made} {a : A} (r : Runs t root A w m (ends a n)) → Sound (registers_of m) → Sound (registers_of n)
  unfolding made_of
  ended r h = (framed r h).sound

  module _ (G : Made → ℕ → Type 0) (T : Made → ℕ → RegisterSet → Type 0) (g : (m : Made) (r : ℕ) → Held m r → G m r)
      (u : (m : Made) (r : ℕ) (s : RegisterSet) → Sound (registers_of m) → Takes (registers_of m) r s → T m r s) where
    every : {A : Type 0} {w : Walk A} {m : Made} {o : Outcome A} (r : Runs t root A w m o) → Sound (registers_of m) → Every G T r
    every (step (takes {m = m} {s = s} {r = r} k)) h = u m r s h k
    every (step (gives {m = m} r k)) h = g m r k
    every (step (keeps r)) h = tt
    every (step (emits i f l k)) h = tt
    every (step (finds c l e f)) h = tt
    every (step (pools o f k)) h = tt
    every (step (patches j l k)) h = tt
    every (step (marks i start end z k)) h = tt
    every (step (moves place l k b)) h = tt
    every (step (refuses q o)) h = tt
    every returns h = tt
    every (follows k a b) h = (every a h, every b (ended a h))
    every (halts k a) h = every a h
    every (reads k a) h = every a h
    every (counts a) h = every a h

  -- No register is given back twice: at each give-back of a run the register is held. Smallest first: at each take the register is free, and every
  -- smaller one is held. Frame: where a take raises the frame size, exactly the registers below it are held.
  pub registers_in_order : {A : Type 0} {w : Walk A} {m : Made} {o : Outcome A} (r : Runs t root A w m o) → Sound (registers_of m) →
      Every (λ m r. Held m r) Smallest r
  registers_in_order r h = every (λ m r. Held m r) Smallest (λ m r k. k) (λ m r s z k. record { was_free = k.was_free; smaller_held = k.smaller_held; raises = raised k z }) r h

  -- Every held register is below the frame size.
  pub registers_sound : {A : Type 0} {w : Walk A} {m : Made} {o : Outcome A} (r : Runs t root A w m o) → Sound (registers_of m) → Sound (registers_of (made_of o))
  registers_sound r h = (framed r h).sound

  -- One more than the highest register taken, or the frame size before.
  pub frame_highest : {A : Type 0} {w : Walk A} {m : Made} {o : Outcome A} (r : Runs t root A w m o) → Sound (registers_of m) →
      frame_of (made_of o) ≡ max (frame_of m) (highest r)
  frame_highest r h = (framed r h).by_highest

  -- The most registers held at one moment, or the frame size before.
  pub frame_most : {A : Type 0} {w : Walk A} {m : Made} {o : Outcome A} (r : Runs t root A w m o) → Sound (registers_of m) →
      frame_of (made_of o) ≡ max (frame_of m) (most_held r)
  frame_most r h = (framed r h).by_most

module _ (nodes : List ℕ) (root mode : ℕ) (list names code constants marks : List ℕ) where
  abbrev from : Made
  from = nothing_made nodes root mode list names code constants marks

  -- the parameters take the registers below their number: as many are held, and that is the frame size
  start_frame : length (words names) ≤ 256 → (frame_of from ≡ length (words names)) × (held_count from ≡ length (words names)) × Sound (registers_of from)
  unfolding begin
  start_frame few =
      let n : ℕ = length (words names) in
      let s : RegisterSet = parameters n in
      let frame : s.frame_size ≡ n = parameters_frame n few in
      let sound : Sound s = parameters_sound n in
      let all : held_among_first s n ≡ n = held_least s n (λ r l. parameters_held n few r ∙ lt-ltb r n l) n (omega arith) in
      let more : held_among_first s n ≤ held_among_first s 256 = held_grows s n 256 few in
      let most : held_among_first s 256 ≤ s.frame_size = (held_most s s.frame_size sound.below 256).0 in
      (frame, omega arith, sound)

  frames : {l : Lowered} → Came nodes root mode list names code constants marks l → l.result.number ≡ 0 → Frames nodes root mode list names code constants marks l
  unfolding made_of
  frames (before h) e = absurd (omega (arith, (first_number h).0))
  frames (accepted {place = place} {m = m} y q r) e =
      let s = start_frame (few_names nodes root mode list names code constants marks y) in
      let x = framed r s.2 in
      record {
        answer = place;
        made = m;
        is = q;
        run = r;
        smallest_first = first (tree_of nodes list names) y.checked;
        below_frame = x.sound.below;
        size = refl;
        one_more = x.by_highest ∙ ap (λ n. max n (highest r)) s.0;
        held_most = omega (arith, x.by_most, x.at_least, s.0, s.1);
      }
  frames (stopped y q r o) e = absurd (omega (arith, (own_number o).0))

  pub frame_size_lem : (lower nodes root mode list names code constants marks).result.number ≡ 0 → Frames nodes root mode list names code constants marks (lower nodes root mode list names code constants marks)
  frame_size_lem = frames (lower_came nodes root mode list names code constants marks)
