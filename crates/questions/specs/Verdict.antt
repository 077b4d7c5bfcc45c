-- What `check` answers, read as the verdict of the questions.
use Rattle.std.specs.Prelude.{Result, Ok, Err}
use Rattle.diagnostics.specs.declared.Refused.{Refused}
use Rattle.lowering.specs.Questions.{Verdict, passed, refused}

-- an answer, and what is asked after it
abbrev pub following : Result Unit Refused → Verdict → Verdict
following (Ok done) next = next
following (Err r) next = refused r.refusal r.place

-- the answer to all questions
abbrev pub verdict : Result Unit Refused → Verdict
verdict answer = following answer passed
