-- `words::put_record` meets its contract.
use Rattle.std.proofs.Common.{refl, sym, ◌∙◌, arith, add-zero}
use Rattle.words.proofs.Words.{length_words}
use Rattle.words.proofs.Records.{sets_more, sets_end}
use Rattle.words.proofs.put_record.Goals as goal

pub loop-k-init : goal.loop-k-init
loop-k-init c = record { within = omega arith; words = rw add-zero; tail = refl }

pub overflow_add-at : goal.overflow_add-at
overflow_add-at c = omega (arith, length_words c.args.s.now)

pub put_whole-requires : goal.put_whole-requires
put_whole-requires c = omega (arith, length_words c.args.s.now, length_words c.loop-k.s)

pub loop-k-preserved : goal.loop-k-preserved
loop-k-preserved c =
    let inv = c.loop-k.invariant in
    let put = c.put_whole.ensures in
    record {
      within = omega arith;
      words = rw put.words (sym (sets_more _ _ c.loop-k.k c.args.xs.now (omega arith)) ∙ inv.words);
      tail = put.tail ∙ inv.tail;
    }

pub returns-clause-words : goal.returns-clause-words
returns-clause-words c = sym (sets_end _ _ c.loop-k.k c.args.xs.now (omega arith)) ∙ c.loop-k.invariant.words

pub returns-clause-tail : goal.returns-clause-tail
returns-clause-tail c = c.loop-k.invariant.tail
