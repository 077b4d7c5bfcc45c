-- `words::position` meets its contract. Assumes nothing.
use Rattle.std.proofs.Common.{◌∙◌, length, sym, arith}
use native.Mathlib.Decide.{dec_lt}
use Rattle.words.specs.Words.{words}
use Rattle.words.proofs.Words.{length_words}
use Rattle.words.proofs.Records.{room}
use Rattle.words.proofs.Search.{whole_is, search_start, search_found, search_more, search_end, search_past, first_some, first_none}
use Rattle.words.proofs.position.Goals as goal

pub loop-p-init : goal.loop-p-init
loop-p-init c =
    let records = c.capacity-records.ensures in
    record { before_end = omega arith; counted = omega arith; whole = omega arith; found = search_start _ _ _ }

pub overflow_mul-width : goal.overflow_mul-width
overflow_mul-width c =
    let a = c.args in
    let h = room (length a.item.now) (words a.s.now) c.loop-p.p (omega arith) in
    omega (arith, h, length_words a.s.now)

pub same_words-requires : goal.same_words-requires
same_words-requires c = room (length c.args.item.now) (words c.args.s.now) c.loop-p.p (omega arith)

pub returns-then-same_words : goal.returns-then-same_words
returns-then-same_words c =
    first_some _ _ _
    (search_found _ _ _ _ c.loop-p.invariant.found (omega arith) (whole_is _ _ _ (omega arith) ∙ sym c.same_words.ensures ∙ c.if-same_words.true))
    (omega arith)

pub loop-p-preserved : goal.loop-p-preserved
loop-p-preserved c =
    let inv = c.loop-p.invariant in
    record {
      before_end = omega arith;
      counted = inv.counted;
      whole = inv.whole;
      found = search_more _ _ _ _ inv.found (omega arith) (whole_is _ _ _ (omega arith) ∙ sym c.same_words.ensures ∙ c.if-same_words.false);
    }

pub returns : goal.returns
returns c =
    let inv = c.loop-p.invariant in
    elim (dec_lt c.loop-p.p c.args.count) [
      | yes l ↦ first_none _ _ _ (search_past _ _ _ _ inv.found (omega arith) (omega arith)) (omega arith)
      | no l ↦ first_none _ _ _ (search_end _ _ _ _ inv.found (omega arith) (omega arith)) (omega arith)
    ]
