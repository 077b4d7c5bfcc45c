-- `codegen::lower_root` meets its contract. Assumes nothing.
use Rattle.std.proofs.Common.{rules}
use Rattle.codegen.proofs.Laws.{mode_false, mode_true}
use Rattle.codegen.proofs.arena.NodeRef.lower_root.Goals as goal

pub returns-in-1-clause-lowers : goal.returns-in-1-clause-lowers
returns-in-1-clause-lowers c = rw c.in-1.is (mode_false c.args.self.arena.now.checked _ _ c.lower_condition.ensures.lowers)

pub returns-in_default-clause-lowers : goal.returns-in_default-clause-lowers
returns-in_default-clause-lowers c = mode_true c.args.self.arena.now.checked _ _ _ (search rules) c.lower_condition-in_default.ensures.lowers
