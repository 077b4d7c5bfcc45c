-- `codegen::flat::peek` meets its contract: the register that was taken is held if it is the answer.
use Rattle.std.proofs.Common.{refl, ap, arith, ◌<◌}
use mathlib.Core.Logic.{⊎_map}
use Rattle.steps.specs.Answers.{word_end}
use Rattle.steps.proofs.Words.{taken_number}
use Rattle.codegen.proofs.Peek.{simple_kind, inner_only, left_over, Held, held_taken, held_left, peeked_operand, peeked_register}
use Rattle.codegen.proofs.arena.NodeRef.peek.Goals as goal
use Rattle.codegen.proofs.arena.NodeRef.peek.Goals.{then-f-register, else-f-register}

pub lower_flat-f-requires : goal.lower_flat-f-requires
lower_flat-f-requires c = (
  ⊎_map (λ e. e) (λ l. omega (arith, l)) (taken_number _ c.take-taken.ensures c.number_at-register.ensures),
  λ into. absurd (c.requires into),
)

pub returns-then-is_simple-clause-operand : goal.returns-then-is_simple-clause-operand
returns-then-is_simple-clause-operand c =
    let small : c.args.self.index < word_end = omega arith in
    let simple = simple_kind _ c.is_simple.ensures c.if-is_simple.true in
    let tried = c.lower_flat-f.ensures in
    let held : Held c.args.state c.if-f-register.s c.take-taken.result.set c.number_at-register.result c.lower_flat-f.result.answer =
    elim c.if-f-register.branch [ then-f-register w ↦ held_taken _ _ w.s-is w.if-f-register.true | else-f-register w ↦ held_left _ _ w.s-is w.if-f-register.false ] in
    rw c.on.ensures
    (peeked_operand _ _ _ _ _ _ _ _ _ _ _ _ c.if-f-register.s _ c.take-taken.ensures c.number_at-register.ensures held simple small tried.inner tried.word c.args.self.arena.now.list.now c.args.self.arena.now.checked tried.step)

pub returns-then-is_simple-clause-register : goal.returns-then-is_simple-clause-register
returns-then-is_simple-clause-register c =
    let small : c.args.self.index < word_end = omega arith in
    let simple = simple_kind _ c.is_simple.ensures c.if-is_simple.true in
    let tried = c.lower_flat-f.ensures in
    let held : Held c.args.state c.if-f-register.s c.take-taken.result.set c.number_at-register.result c.lower_flat-f.result.answer =
    elim c.if-f-register.branch [ then-f-register w ↦ held_taken _ _ w.s-is w.if-f-register.true | else-f-register w ↦ held_left _ _ w.s-is w.if-f-register.false ] in
    rw c.on.ensures
    (peeked_register _ _ _ _ _ _ _ _ _ _ _ _ c.if-f-register.s _ c.take-taken.ensures c.number_at-register.ensures held simple small tried.inner tried.word c.args.self.arena.now.list.now c.args.self.arena.now.checked tried.step)

pub returns-then-is_simple-clause-inner : goal.returns-then-is_simple-clause-inner
returns-then-is_simple-clause-inner c =
    let small : c.args.self.index < word_end = omega arith in
    let tried = c.lower_flat-f.ensures in
    rw c.on.ensures
    (λ over.
    let left = left_over _ _ _ small tried.inner tried.word over in
    elim c.if-f-register.branch [
      | then-f-register w ↦ absurd (omega (arith, w.if-f-register.true, ap (λ x. x.answer) left.0))
      | else-f-register w ↦ ((rw (w.s-is, left.0) refl, left.1), (left.2, left.3))
    ])

pub returns-clause-operand : goal.returns-clause-operand
returns-clause-operand c =
    let small : c.args.self.index < word_end = omega arith in
    λ told. absurd (inner_only _ _ (ap (λ x. x.answer) c.left_to_walk.ensures) small told)

pub returns-clause-register : goal.returns-clause-register
returns-clause-register c =
    let small : c.args.self.index < word_end = omega arith in
    λ told. absurd (inner_only _ _ (ap (λ x. x.answer) c.left_to_walk.ensures) small told)
