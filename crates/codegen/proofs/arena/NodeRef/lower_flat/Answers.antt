-- `codegen::flat::lower_flat` meets its contract: by the node's kind.
use Rattle.std.proofs.Common.{sym, ◌∙◌, ap, arith, ◌≡◌, true≢false, ltb-true}
use denote.Enum.Bare.{same_true, same_false}
use Rattle.syntax.specs.declared.kind.Kind.{Kind}
use Rattle.steps.specs.Answers.{dest_of, operand_at, settled}
use Rattle.steps.proofs.Chains.{seen_word}
use Rattle.codegen.specs.contracts.flat.Asked.{the_type}
use Rattle.codegen.specs.Flat.{name_dest}
use Rattle.codegen.proofs.FlatNodes.{loaded_operand, own_dest, into_dest, flat_leaf, flat_binary, literal_flat, literal_itself, name_flat, binary_flat}
use Rattle.codegen.proofs.Reading.{kind_is, kind_same}
use Rattle.codegen.proofs.arena.NodeRef.lower_flat.Goals as goal
use Rattle.codegen.proofs.arena.NodeRef.lower_flat.Goals.{then-eq-3, else-eq-3}

pub returns-then-eq-clause-step : goal.returns-then-eq-clause-step
unfolding operand_at settled
returns-then-eq-clause-step c =
    let kind = ltb-true _ _ (rw c.kind-kind.ensures at (sym c.is_literal.ensures ∙ c.if-is_literal.true)) in
    rw c.answered.ensures
    (λ rs n h. ap settled (literal_itself _ _ _ _ _ kind (same_true the_type tt _ _ (sym c.eq.ensures ∙ c.if-eq.true))) ∙ sym (seen_word _ (operand_at _) _ _ (omega arith)))

pub returns-then-is_literal-clause-step : goal.returns-then-is_literal-clause-step
returns-then-is_literal-clause-step c =
    let kind = ltb-true _ _ (rw c.kind-kind.ensures at (sym c.is_literal.ensures ∙ c.if-is_literal.true)) in
    λ rs n h.
    ap settled (literal_flat _ _ _ _ _ kind (same_false the_type _ _ (sym c.eq.ensures ∙ c.if-eq.false)))
    ∙ loaded_operand _ _ _ _ _ _ _ c.requires.0 c.literal_into.ensures.word (c.literal_into.ensures.step _ rs n)

pub returns-then-is_literal-clause-inner : goal.returns-then-is_literal-clause-inner
returns-then-is_literal-clause-inner c =
    let kind = ltb-true _ _ (rw c.kind-kind.ensures at (sym c.is_literal.ensures ∙ c.if-is_literal.true)) in
    λ h. absurd (true≢false (sym (flat_leaf _ _ (omega (arith, kind))) ∙ h))

pub returns-then-eq-2-clause-step : goal.returns-then-eq-2-clause-step
returns-then-eq-2-clause-step c =
    let kind = kind_is _ Kind.Identifier c.kind-kind.ensures c.eq-2.ensures c.if-eq-2.true in
    let dest : dest_of c.if-eq-3.dest ≡ name_dest c.args.asked c.args.d =
    elim c.if-eq-3.branch [
      | then-eq-3 w ↦ rw w.dest-is (sym (into_dest _ _ (same_true the_type tt _ _ (sym c.eq-then-eq-2.ensures ∙ w.if-eq-3.true))))
      | else-eq-3 w ↦ rw w.dest-is (sym (own_dest _ _ (same_false the_type _ _ (sym c.eq-then-eq-2.ensures ∙ w.if-eq-3.false))))
    ] in
    λ rs n h. ap settled (name_flat _ _ _ _ _ kind) ∙ (rw dest at (c.name_into.ensures.step rs n))

pub returns-clause-step : goal.returns-clause-step
returns-clause-step c =
    let kind = kind_same _ Kind.Binary c.kind-kind.ensures c.ne.ensures c.if-ne.false in
    λ rs n h. ap settled (binary_flat _ _ _ _ _ kind) ∙ c.binary_into.ensures.step rs n (sym (flat_binary _ _ kind) ∙ h)
