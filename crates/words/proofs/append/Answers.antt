-- `words::append` meets its contract: the record has place exactly where both tests pass. Assumes nothing.
use Rattle.std.proofs.Common.{length, sym, arith}
use Rattle.words.specs.Words.{words}
use Rattle.words.specs.Records.{put_record}
use Rattle.words.proofs.Words.{length_words}
use Rattle.words.proofs.Records.{room, append_room, append_full, append_limit}
use Rattle.words.proofs.append.Goals as goal
use Rattle.words.proofs.append.Goals.{else-count-limit-via-then-count-limit+else-at-capacity, else-count-limit-via-else-count-limit}

pub overflow_mul-width : goal.overflow_mul-width
overflow_mul-width c =
    let a = c.args in
    let h = room (length a.item.now) (words a.s.now) a.count (rw c.capacity.ensures at c.if-at-capacity.true) in
    omega (arith, h, length_words a.s.now)

pub put_record-requires : goal.put_record-requires
put_record-requires c = room _ _ _ (rw c.capacity.ensures at c.if-at-capacity.true)

pub returns-then-at-capacity-clause-words : goal.returns-then-at-capacity-clause-words
unfolding put_record
returns-then-at-capacity-clause-words c =
    let a = c.args in
    rw c.put_record.ensures.words (sym (append_room _ _ _ a.item.now a.refusal c.if-count-limit.true (rw c.capacity.ensures at c.if-at-capacity.true)))

pub returns-clause-words : goal.returns-clause-words
returns-clause-words c =
    let item = c.args.item.now in
    elim c.else-count-limit.branch [
      | else-count-limit-via-then-count-limit+else-at-capacity w ↦ sym (append_full _ _ _ item c.args.refusal (rw w.capacity.ensures at w.if-at-capacity.false))
      | else-count-limit-via-else-count-limit w ↦ sym (append_limit _ _ _ item c.args.refusal w.if-count-limit.false)
    ]
