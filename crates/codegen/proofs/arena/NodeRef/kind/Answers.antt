-- `codegen::node::kind` meets its contract: each node of a checked tree has a kind.
use Rattle.std.proofs.Common.{sym, ◌∙◌}
use Rattle.syntax.proofs.KindWords.{kind_number_of, kind_there}
use Rattle.lowering.proofs.Questions.Checked.{kind_word, checked_at}
use Rattle.codegen.proofs.arena.NodeRef.kind.Goals as goal

pub unreachable-requires : goal.unreachable-requires
unreachable-requires c = kind_there (kind_word (checked_at c.args.self.arena.now.checked c.args.self.index)) (rw c.word.ensures at (sym c.of.ensures ∙ c.in-None.is))

pub returns : goal.returns
returns c = rw c.word.ensures at (kind_number_of (sym c.of.ensures ∙ c.in-Some.is))
