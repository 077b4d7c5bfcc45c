-- The eight numbers that the program gives, read as the definition's result.
use Rattle.std.specs.Prelude.{ℕ}
use Rattle.diagnostics.specs.declared.Refusal.{Refusal}
use Rattle.diagnostics.specs.Refusal.{refusal_number}
use Rattle.lowering.specs.Result as definition
use Rattle.result.specs.declared.Result.{Result}

-- "Result: number (0 accepted), place, span start, span end, instructions, constants, frame size, arity."
abbrev pub numbers : Result → definition.Result
numbers r = definition.result r.number r.place r.start r.end r.instructions r.constants r.frame_size r.arity

-- "Before the walk [..]; counts are 0"
abbrev pub refused_result : Refusal → ℕ → definition.Result
refused_result refusal place = definition.result (refusal_number refusal) place 0 0 0 0 0 0
