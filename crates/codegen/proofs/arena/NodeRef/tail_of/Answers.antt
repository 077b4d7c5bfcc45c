-- `codegen::flat::tail_of` meets its contract.
use Rattle.std.proofs.Common.{refl, arith}
use Rattle.syntax.specs.declared.kind.Kind.{Kind}
use Rattle.codegen.proofs.Reading.{kind_same, node_there, tail_below, tail_comes}
use Rattle.codegen.proofs.arena.NodeRef.tail_of.Goals as goal

pub loop-node-init : goal.loop-node-init
loop-node-init c = ((c.args.self.inside, omega arith), (λ d m. refl))

pub loop-node-smaller : goal.loop-node-smaller
loop-node-smaller c =
    let block = kind_same _ Kind.Block c.kind.ensures c.ne.ensures c.if-ne.false in
    tail_below _ _ c.args.self.arena.now.checked c.args.self.arena.now.falling c.loop-node.invariant block (rw c.word.ensures at (node_there c.node_of.ensures c.in-Some.is))

pub loop-node-preserved : goal.loop-node-preserved
loop-node-preserved c =
    let block = kind_same _ Kind.Block c.kind.ensures c.ne.ensures c.if-ne.false in
    tail_comes _ _ c.args.self.arena.now.checked c.args.self.arena.now.falling c.loop-node.invariant block (rw c.word.ensures at (node_there c.node_of.ensures c.in-Some.is))
