-- The node comes to n, which is not above it. The measure is n, which falls.
use Rattle.codegen.proofs.Reading.{Comes}
use Rattle.codegen.proofs.arena.NodeRef.tail_of.Given as goal

abbrev pub invariant-loop-node : goal.invariant-loop-node
invariant-loop-node l = Comes l.self.arena.now.nodes.now l.self.arena.now.list.now l.self.arena.now.names.now l.self.index l.n

abbrev pub decreases-loop-node : goal.decreases-loop-node
decreases-loop-node l = l.n
