-- `codegen::node::find` meets its contract: a lookup gives a local below the arity, or nothing.
use Rattle.std.proofs.Common.{ap, ◌∙◌, Ok}
use Rattle.words.proofs.Words.{length_words}
use Rattle.codegen.proofs.Reading.{found_temporary, found_local, found_none}
use Rattle.codegen.proofs.arena.NodeRef.find.Goals as goal

pub unreachable-requires : goal.unreachable-requires
unreachable-requires c = found_temporary _ _ _ c.lookup.ensures (c.in-Ok-Temp.is ∙ ap Ok c.in-Ok-Temp.field-0-is)

pub returns-in-Ok-Local-clause-found : goal.returns-in-Ok-Local-clause-found
returns-in-Ok-Local-clause-found c =
    let found = rw (← length_words c.args.self.arena.now.names.now, c.word.ensures) at c.lookup.ensures in
    rw c.local.ensures (found_local _ _ _ found (c.in-Ok-Local.is ∙ ap Ok c.in-Ok-Local.field-0-is) c.args.self.arena.now.few).0

pub returns-in-Err-clause-found : goal.returns-in-Err-clause-found
returns-in-Err-clause-found c = found_none _ _ _ (rw (← length_words c.args.self.arena.now.names.now, c.word.ensures) at c.lookup.ensures) c.in-Err.is
