-- Law 2, of the constants and of what an instruction holds: a constant's index is the first place with its words, nothing pooled changes, and nothing
-- is cut.
use Rattle.std.specs.Prelude.{ℕ, ◌≤◌, ◌<◌, ◌≡◌, ◌≢◌, List, length}
use Rattle.words.specs.Records.{record_at}
use Rattle.runtime.specs.declared.operand.Operand.{Operand}
use Rattle.runtime.specs.Value.{constant_width, constant_words}
use Rattle.lowering.specs.Tree.{Tree, tree_of}
use Rattle.lowering.specs.Questions.{max_nodes}
use Rattle.lowering.specs.Walk.{Made, Outcome, Walk, made_of}
use Rattle.lowering.specs.Steps.{free_temp}
use Rattle.lowering.specs.Result.{Lowered, begin, lower_root}
use Rattle.lowering.specs.Fields.{index_end, Narrow, words_at}
use Rattle.lowering.specs.Trace.{Runs, takes, gives, keeps, emits, finds, pools, patches, marks, moves, refuses, constants_of, instructions_of, step, returns, follows, halts, reads, counts}
use Rattle.lowering.specs.Answers.{nothing_made}

-- the words of constant p
abbrev pub constant_words_at : Made → ℕ → List ℕ
constant_words_at m p = record_at constant_width m.constants p

-- every instruction made fits its fields
abbrev pub AllNarrow : Made → Type 0
AllNarrow m = (p : ℕ) → p < instructions_of m → Narrow (constants_of m) (words_at m.code p)

module _ (t : Tree) (root mode : ℕ) (code constants marks : List ℕ) (pooled : ℕ) where
  -- what lowering leaves, accepted or not, from a pool that holds `pooled` constants already
  abbrev pub made_from : Made
  made_from = made_of (lower_root free_temp t mode root (begin code constants marks pooled (length t.names)))

module _ {t : Tree} {root : ℕ} where
  -- P holds of every constant that a run pools, with the index that it gets
  abbrev pub Stores : (P : Operand → ℕ → Type 0) {A : Type 0} {w : Walk A} {m : Made} {o : Outcome A} → Runs t root A w m o → Type 0
  Stores P (step (finds c {p = p} l e f)) = P c p
  Stores P (step (pools {m = m} {c = c} o f h)) = P c (constants_of m)
  Stores P (step (takes k)) = Unit {0}
  Stores P (step (gives r h)) = Unit {0}
  Stores P (step (keeps r)) = Unit {0}
  Stores P (step (emits i f l h)) = Unit {0}
  Stores P (step (patches j l k)) = Unit {0}
  Stores P (step (marks i start end z h)) = Unit {0}
  Stores P (step (moves place l k b)) = Unit {0}
  Stores P (step (refuses q o)) = Unit {0}
  Stores P returns = Unit {0}
  Stores P (follows k a b) = Stores P a × Stores P b
  Stores P (halts k a) = Stores P a
  Stores P (reads k a) = Stores P a
  Stores P (counts a) = Stores P a

-- a constant stands at an index of what is left, and at no earlier one
abbrev pub FirstPlace : Lowered → Operand → ℕ → Type 0
FirstPlace l c p = (p < l.result.constants) × (record_at constant_width l.constants p ≡ constant_words c) × ((q : ℕ) → q < p → record_at constant_width l.constants q ≢ constant_words c)

module _ (nodes : List ℕ) (root mode : ℕ) (list names code constants marks : List ℕ) where
  -- Every constant that the walk pools: its index is the first place with its words, and there it stays.
  pub record Pool (l : Lowered) : Type 1 where
    pub outcome : Outcome ℕ
    -- what the walk comes to
    pub is : lower_root free_temp (tree_of nodes list names) mode root (nothing_made nodes root mode list names code constants marks) ≡ outcome
    pub run : Runs (tree_of nodes list names) root ℕ (lower_root free_temp (tree_of nodes list names) mode root) (nothing_made nodes root mode list names code constants marks) outcome
    pub first_place : Stores (FirstPlace l) run

  -- Nothing is cut: in whatever lowering leaves, registers and argument counts are below 256, constants' indexes below 65,536, offsets below 2^31.
  pub record Fit (l : Lowered) : Type 0 where
    pub few_constants : l.result.constants ≤ max_nodes
    pub fields_fit : (p : ℕ) → p < l.result.instructions → Narrow index_end (words_at l.code p)
    pub distinct : (q p : ℕ) → q < p → p < l.result.constants → record_at constant_width l.constants q ≢ record_at constant_width l.constants p
