-- Marking and patching arguments, as the program does them: over a buffer and counts, with an answer of its own.
use Rattle.std.specs.Prelude.{ℕ, ◌-◌, List, [], ◌∷◌, cond, eqb, Result, Ok, Err}
use Rattle.diagnostics.specs.declared.Refusal.{Refusal}
use Rattle.diagnostics.specs.declared.Refused.{Refused}
use Rattle.words.specs.Records.{Buffer, buffer, append, max_count}
use Rattle.lowering.specs.Walk.{Made, Outcome, ends, stops, error}

-- "the last instruction so far is marked (the mark word is its place)". 15: "Is any instruction there when an argument is marked?"; 16: "Is
-- there a word for the mark?" The walk adds the call's place and span at 15.
unfoldable pub mark_argument : List ℕ → ℕ → ℕ → Buffer
mark_argument marks count instructions =
    cond (eqb instructions 0)
    (buffer marks (record { count = count; place = Err Refusal.Unmarked }))
    (append marks count max_count ((instructions - 1) ∷ []) Refusal.Marks)

-- what the answer says of what was made: "mark by mark, place = instruction", with no span
unfoldable pub seen_done : Result Unit Refused → Made → Outcome Unit
seen_done (Ok done) m = ends tt m
seen_done (Err r) m = stops (error r.refusal r.place 0 0) m
