-- `codegen::node::word` meets its contract: the node's own bytes are a part of the arena's.
use Rattle.std.proofs.Common.{◌∙◌, arith}
use Rattle.questions.proofs.Part.{node_end, node_word_lem}
use Rattle.codegen.proofs.arena.NodeRef.word.Goals as goal

pub slice_bounds-word-end : goal.slice_bounds-word-end
slice_bounds-word-end c = omega (arith, node_end _ _ c.args.self.inside)

pub returns : goal.returns
returns c = c.word.ensures ∙ node_word_lem _ _ c.args.self.inside _ c.requires
