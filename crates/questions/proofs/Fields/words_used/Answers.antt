-- `questions::Fields::words_used` meets its contract: each arm answers what the table has at its place. Assumes nothing.
use Rattle.lowering.specs.Questions.{question4}
use Rattle.questions.proofs.Fields.words_used.Goals as goal

pub returns-in-Boolean : goal.returns-in-Boolean
unfolding question4
returns-in-Boolean c = rw c.in-Boolean.is
