use Rattle.codegen.proofs.Walk.{falling}
use Rattle.codegen.proofs.lower_lent.Goals as goal

pub invariant_of-arena : goal.invariant_of-arena
invariant_of-arena c = record { checked = c.requires.0; falling = falling _ _ _ c.requires.0; few = c.requires.1.0 }
