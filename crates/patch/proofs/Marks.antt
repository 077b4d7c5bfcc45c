-- Marking, as the walk's definition has it and as the program's over the buffer has it: what the walk adds is the call's place and span.
-- Assumes nothing.
use Rattle.std.specs.Prelude.{Err}
use mathlib.Core.Path.{◌≡◌}
use mathlib.Core.List.{List}
use Prim.Native.Nat.{ℕ}
use borrow.Author.Tests.{eq-eqb, ne_eqb}
use Rattle.diagnostics.specs.declared.Refusal.{Refusal}
use Rattle.words.specs.Records.{Buffer, buffer}
use Rattle.lowering.specs.Walk.{Made, stops, error}
use Rattle.lowering.specs.Steps.{placed, with_marks, mark}
use Rattle.patch.specs.Arguments.{mark_argument}

pub unmarked : (marks : List ℕ) (count instructions : ℕ) → instructions ≡ 0
    → mark_argument marks count instructions ≡ buffer marks (record { count = count; place = Err Refusal.Unmarked })
unfolding mark_argument
unmarked marks count instructions e = rw (eq-eqb _ _ e)

module _ (call start end : ℕ) (m : Made) where
  abbrev marked : Buffer
  marked = mark_argument m.marks m.state.marks m.state.counts.instructions

  -- 15
  pub mark_none : m.state.counts.instructions ≡ 0 → mark call start end m ≡ stops (error Refusal.Unmarked call start end) m
  unfolding mark
  mark_none e = rw (eq-eqb _ _ e)

  -- the mark's place, or 16
  pub mark_some : (m.state.counts.instructions ≡ 0 → ⊥) → mark call start end m ≡ placed marked.answer.place (with_marks marked.words marked.answer.count m)
  unfolding mark mark_argument
  mark_some n = rw (ne_eqb _ _ n)
