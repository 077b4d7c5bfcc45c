-- `codegen::flat::binary_operation` meets its contract: the operator of the node, on its sources.
use Rattle.words.specs.Words.{words}
use Rattle.syntax.specs.Ast.{node_word}
use Rattle.codegen.specs.Walks.{arena_tree}
use Rattle.codegen.proofs.arena.NodeRef.binary_operation.Goals as goal

pub returns-clause-step : goal.returns-clause-step
returns-clause-step c =
    λ rs n E not_both.
    let nodes = words c.args.self.arena.now.nodes.now in
    rw (c.sources-sources.ensures.first, c.sources-sources.ensures.second not_both, c.of-operator.ensures, c.word.ensures) at
    (c.binary_sources.ensures.step (arena_tree c.args.self.arena.now) E (node_word nodes c.args.self.index 2) (node_word nodes c.args.self.index 3) rs n (words c.args.buffers.now.marks.now))
