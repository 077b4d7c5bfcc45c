-- `vectors::replay` meets its contract: each way through the loop keeps `Replayed` (Laws), and what it is at the loop's end is what `outcome` says.
use Rattle.std.proofs.Common.{sym, ◌∙◌, arith}
use Rattle.vectors.specs.Answers.{agrees}
use Rattle.vectors.proofs.Laws.{agreed, differs, all_replayed, rest_cut}
use Rattle.vectors.proofs.replay.Goals as goal
use Rattle.vectors.proofs.replay.Goals.{then-agrees, else-agrees}

pub loop-preserved : goal.loop-preserved
unfolding agrees
loop-preserved c =
    let held = c.loop.invariant in
    let agrees_so = sym c.agrees.ensures in
    elim c.if-agrees.branch [
      | then-agrees w ↦
          rw (w.differing-is, w.agreeing-is) (agreed _ _ _ held c.loop-test.true c.case_at-c.ensures (omega arith) (agrees_so ∙ w.if-agrees.true))
      | else-agrees w ↦
          rw (w.differing-is, w.agreeing-is, w.or-differing.ensures) (differs _ _ _ held c.loop-test.true c.case_at-c.ensures (omega arith) (agrees_so ∙ w.if-agrees.false))
    ]

pub returns-after-loop : goal.returns-after-loop
returns-after-loop c =
    let comments = c.comments_end-comments.ensures in
    let first = rw comments at c.line_end-at.ensures.end in
    let gives = all_replayed _ _ _ (rw comments at c.number-cases.ensures) first c.line_end-at.ensures.within c.loop.invariant (omega arith) in
    record { outcome = gives.0; within = gives.1 }

pub returns-then-answers-c : goal.returns-then-answers-c
returns-then-answers-c c =
    let comments = c.comments_end-comments.ensures in
    let first = rw comments at c.line_end-at.ensures.end in
    let gives = rest_cut _ _ _ (rw comments at c.number-cases.ensures) first c.line_end-at.ensures.within c.loop.invariant c.case_at-c.ensures (omega arith) in
    record { outcome = gives.0; within = gives.1 }
