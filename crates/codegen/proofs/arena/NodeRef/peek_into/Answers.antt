-- `codegen::flat::peek_into` meets its contract: the node that the child comes to is flat, and its value is in d, or it is left to the walk.
use Rattle.std.proofs.Common.{refl, ◌∙◌, ap, arith, ◌<◌}
use Rattle.steps.specs.Answers.{word_end, settled}
use Rattle.codegen.proofs.Peek.{simple_kind, inner_only, was_flat, left_over, flat_into}
use Rattle.codegen.proofs.arena.NodeRef.peek_into.Goals as goal

pub returns-then-is_simple-clause-done : goal.returns-then-is_simple-clause-done
returns-then-is_simple-clause-done c =
    let tail = c.tail_of.ensures in
    let small : c.tail_of.result < word_end = omega (arith, c.tail_of.ensures.inside) in
    let tried = c.lower_flat-f.ensures in
    let simple = simple_kind _ c.is_simple.ensures c.if-is_simple.true in
    rw c.on.ensures
    (λ told.
    ap settled (tail.same _ _)
    ∙ flat_into c.args.self.arena.now.checked _ _ _ _ _ simple c.requires
    (tried.step c.args.state.registers c.args.state.marks (was_flat _ _ _ small tried.inner told)))

pub returns-then-is_simple-clause-inner : goal.returns-then-is_simple-clause-inner
returns-then-is_simple-clause-inner c =
    let tail = c.tail_of.ensures in
    let small : c.tail_of.result < word_end = omega (arith, c.tail_of.ensures.inside) in
    let tried = c.lower_flat-f.ensures in
    rw c.on.ensures
    (λ over. let left = left_over _ _ _ small tried.inner tried.word over in ((rw left.0 refl, left.1), (rw left.2 tail.inside, rw left.2 left.3)))

pub returns-then-is_simple-clause-same : goal.returns-then-is_simple-clause-same
returns-then-is_simple-clause-same c =
    let tail = c.tail_of.ensures in
    let small : c.tail_of.result < word_end = omega (arith, c.tail_of.ensures.inside) in
    let tried = c.lower_flat-f.ensures in
    rw c.on.ensures
    (λ e m over. let left = left_over _ _ _ small tried.inner tried.word over in rw left.2 (tail.same e m))

pub returns-clause-done : goal.returns-clause-done
returns-clause-done c =
    let small : c.tail_of.result < word_end = omega (arith, c.tail_of.ensures.inside) in
    λ told. absurd (inner_only _ _ (ap (λ x. x.answer) c.left_to_walk.ensures) small told)
