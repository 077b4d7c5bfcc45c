-- Law 2, of registers: what is held, what a run takes and gives back, and the frame size.
use Rattle.std.specs.Prelude.{ℕ, zero, suc, ◌+◌, ◌<◌, max, ◌≡◌, ◌↔◌, true, cond, List, length}
use Rattle.words.specs.Words.{words}
use Rattle.environment.specs.declared.RegisterSet.{RegisterSet}
use Rattle.environment.specs.Registers.{register_count, held}
use Rattle.lowering.specs.Tree.{Tree, tree_of}
use Rattle.lowering.specs.Walk.{Made, Outcome, ends, Walk, made_of}
use Rattle.lowering.specs.Steps.{free_temp}
use Rattle.lowering.specs.Lower.{lower_expression, lower_jump_if_false}
use Rattle.lowering.specs.Smallest.{SmallestFirst}
use Rattle.lowering.specs.Result.{Lowered, lower_root}
use Rattle.lowering.specs.Trace.{Runs, step, returns, follows, halts, reads, counts, takes, gives, keeps, emits, finds, pools, patches, marks, moves, refuses, registers_of, Held, Free}
use Rattle.lowering.specs.Answers.{nothing_made}

-- how many of the first n registers are held
unfoldable pub held_among_first : RegisterSet → ℕ → ℕ
held_among_first s zero = 0
held_among_first s (suc n) = cond (held s n) 1 0 + held_among_first s n

abbrev pub held_count : Made → ℕ
held_count m = held_among_first (registers_of m) register_count

abbrev pub frame_of : Made → ℕ
frame_of m = (registers_of m).frame_size

-- register r is taken where m was made, which leaves the set s
pub record Smallest (m : Made) (r : ℕ) (s : RegisterSet) : Type 0 where
  -- it is free, while every smaller one is held
  pub was_free : Free m r
  pub smaller_held : (j : ℕ) → j < r → Held m j
  -- if that raises the frame size, exactly the registers below the new one are held now
  pub raises : frame_of m < s.frame_size → (j : ℕ) → (j < s.frame_size) ↔ (held s j ≡ true)

module _ {t : Tree} {root : ℕ} where
  -- one more than the highest register that a run takes, 0 where it takes none
  unfoldable pub highest : {A : Type 0} {w : Walk A} {m : Made} {o : Outcome A} → Runs t root A w m o → ℕ
  highest (step (takes {r = r} k)) = r + 1
  highest (step (gives r h)) = 0
  highest (step (keeps r)) = 0
  highest (step (emits i f l h)) = 0
  highest (step (finds c l e f)) = 0
  highest (step (pools o f h)) = 0
  highest (step (patches j l k)) = 0
  highest (step (marks i start end z h)) = 0
  highest (step (moves place l k b)) = 0
  highest (step (refuses q o)) = 0
  highest returns = 0
  highest (follows k a b) = max (highest a) (highest b)
  highest (halts k a) = highest a
  highest (reads k a) = highest a
  highest (counts a) = highest a

  -- the most registers held at one moment of a run, its start and end among them
  unfoldable pub most_held : {A : Type 0} {w : Walk A} {m : Made} {o : Outcome A} → Runs t root A w m o → ℕ
  most_held {m = m} {o = o} (step s) = max (held_count m) (held_count (made_of o))
  most_held (returns {m = m}) = held_count m
  most_held (follows k a b) = max (most_held a) (most_held b)
  most_held (halts k a) = most_held a
  most_held (reads k a) = most_held a
  most_held (counts a) = most_held a

  -- G holds at every give-back, for what was made and the register; T holds at every take, for the set afterwards too
  module _ (G : Made → ℕ → Type 0) (T : Made → ℕ → RegisterSet → Type 0) where
    abbrev pub Every : {A : Type 0} {w : Walk A} {m : Made} {o : Outcome A} → Runs t root A w m o → Type 0
    Every (step (takes {m = m} {s = s} {r = r} k)) = T m r s
    Every (step (gives {m = m} r h)) = G m r
    Every (step (keeps r)) = Unit {0}
    Every (step (emits i f l h)) = Unit {0}
    Every (step (finds c l e f)) = Unit {0}
    Every (step (pools o f h)) = Unit {0}
    Every (step (patches j l k)) = Unit {0}
    Every (step (marks i start end z h)) = Unit {0}
    Every (step (moves place l k b)) = Unit {0}
    Every (step (refuses q o)) = Unit {0}
    Every returns = Unit {0}
    Every (follows k a b) = Every a × Every b
    Every (halts k a) = Every a
    Every (reads k a) = Every a
    Every (counts a) = Every a

module _ (nodes : List ℕ) (root mode : ℕ) (list names code constants marks : List ℕ) where
  -- Where lowering accepts: a run from the parameters' registers, which takes the smallest free register each time; the frame size is
  -- one more than the highest register taken, the parameters' among them (0 where none was), and it is the most held at one moment. (That none is given
  -- back twice is `given_back_once`, in proofs/Walk/LowerRuns.)
  pub record Frames (l : Lowered) : Type 1 where
    pub answer : ℕ
    pub made : Made
    -- what the walk comes to
    pub is : lower_root free_temp (tree_of nodes list names) mode root (nothing_made nodes root mode list names code constants marks) ≡ ends answer made
    pub run : Runs (tree_of nodes list names) root ℕ (lower_root free_temp (tree_of nodes list names) mode root) (nothing_made nodes root mode list names code constants marks) (ends answer made)
    -- every register that the walk of this tree takes is the smallest free one
    pub smallest_first : SmallestFirst (tree_of nodes list names) (lower_expression free_temp (tree_of nodes list names)) (lower_jump_if_false free_temp (tree_of nodes list names))
    pub below_frame : (r : ℕ) → Held made r → r < frame_of made
    pub size : l.result.frame_size ≡ frame_of made
    pub one_more : l.result.frame_size ≡ max (length (words names)) (highest run)
    pub held_most : l.result.frame_size ≡ most_held run
