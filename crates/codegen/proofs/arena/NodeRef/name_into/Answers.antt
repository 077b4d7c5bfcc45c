-- `codegen::flat::name_into` meets its contract.
use Rattle.std.proofs.Common.{sym, ◌∙◌, refl, arith}
use Rattle.runtime.specs.Instruction.{words_of}
use Rattle.steps.specs.Answers.{operand_at, place_at, settled}
use Rattle.steps.proofs.Chains.{then, stop_by}
use Rattle.codegen.specs.Walks.{arena_tree}
use Rattle.codegen.proofs.Walk.{ended}
use Rattle.codegen.proofs.Reading.{name_of, name_undeclared, name_free, name_own, name_moved, aimed_word}
use Rattle.codegen.proofs.arena.NodeRef.name_into.Goals as goal

pub returns-in_default-clause-step : goal.returns-in_default-clause-step
returns-in_default-clause-step c =
    rw c.refused.ensures
    (λ rs n.
    let t = arena_tree c.args.self.arena.now in
    name_of t _ _ _ c.requires.0 c.find.ensures.found
    (name_undeclared t _ _ _ (operand_at _) (omega arith) c.in_default.is))

pub returns-in_default-dest-clause-step : goal.returns-in_default-dest-clause-step
returns-in_default-dest-clause-step c =
    rw (c.answered.ensures, c.in_default-dest.is)
    (λ rs n.
    let t = arena_tree c.args.self.arena.now in
    name_of t _ _ _ c.requires.0 c.find.ensures.found
    (name_free t _ _ c.find.ensures.local c.in-Some.is _))

pub returns-then-d-register-clause-step : goal.returns-then-d-register-clause-step
returns-then-d-register-clause-step c =
    let few = aimed_word c.requires.1 c.in-Some-dest.is in
    rw (c.answered-then-d-register.ensures, c.in-Some-dest.is)
    (λ rs n.
    let t = arena_tree c.args.self.arena.now in
    name_of t _ _ _ c.requires.0 c.find.ensures.found
    (name_own t _ _ c.find.ensures.local c.in-Some.is few _ c.if-d-register.true))

pub returns-then-is_refusal-clause-step : goal.returns-then-is_refusal-clause-step
unfolding words_of
returns-then-is_refusal-clause-step c =
    let few = aimed_word c.requires.1 c.in-Some-dest.is in
    rw c.in-Some-dest.is
    (λ rs n.
    let t = arena_tree c.args.self.arena.now in
    name_of t _ _ _ c.requires.0 c.find.ensures.found
    (name_moved t _ _ c.find.ensures.local c.in-Some.is few c.if-d-register.false
    (stop_by t _ place_at _ _ _ (c.emit-e.ensures.step t _ rs n _ _ (rw (c.reg_of.ensures, c.reg_of-2.ensures) refl)) (operand_at _) c.is_refusal.ensures c.if-is_refusal.true)))

pub returns-clause-step : goal.returns-clause-step
unfolding words_of settled
returns-clause-step c =
    let few = aimed_word c.requires.1 c.in-Some-dest.is in
    rw (c.answered-2.ensures, c.in-Some-dest.is)
    (λ rs n.
    let t = arena_tree c.args.self.arena.now in
    name_of t _ _ _ c.requires.0 c.find.ensures.found
    (name_moved t _ _ c.find.ensures.local c.in-Some.is few c.if-d-register.false
    (then t _ place_at _ _ _ (c.emit-e.ensures.step t _ rs n _ _ (rw (c.reg_of.ensures, c.reg_of-2.ensures) refl)) (sym c.is_refusal.ensures ∙ c.if-is_refusal.false)
    (ended t _ _ _ few))))
