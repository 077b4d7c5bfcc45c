-- `codegen::flat::fused_jump` meets its contract: the comparison of the node, on its sources.
use Rattle.words.specs.Words.{words}
use Rattle.codegen.specs.Walks.{arena_tree}
use Rattle.codegen.proofs.arena.NodeRef.fused_jump.Goals as goal

pub returns-clause-step : goal.returns-clause-step
returns-clause-step c =
    λ rs n E own comparison not_both compared.
    rw (c.sources-sources.ensures.first, c.sources-sources.ensures.second not_both) at
    (c.fused_sources.ensures.step (arena_tree c.args.self.arena.now) E own comparison rs n (words c.args.buffers.now.marks.now) (rw (c.of-operator.ensures, c.word.ensures) compared))
