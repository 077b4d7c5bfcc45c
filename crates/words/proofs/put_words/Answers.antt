-- `words::put_words` meets its contract: what fits is put, and the rest changes nothing. Assumes nothing.
use Rattle.std.proofs.Common.{◌∙◌, ◌-◌, ◌/◌, length, sym, arith, length-take}
use Rattle.words.specs.Words.{words}
use Rattle.words.proofs.Words.{length_words}
use Rattle.words.proofs.Records.{sets_out, sets_least}
use Rattle.words.proofs.put_words.Goals as goal

pub put_record-requires : goal.put_record-requires
put_record-requires c = simp length-take (omega (arith, length_words c.args.s.now))

pub returns-then-at-end-clause-words : goal.returns-then-at-end-clause-words
returns-then-at-end-clause-words c =
    let a = c.args in
    c.put_record.ensures.words ∙ sets_least (words a.s.now) a.at (length a.s.now / 4 - a.at) _ a.xs.now (omega (arith, length_words a.s.now)) (omega arith)

pub returns-else-at-end-clause-words : goal.returns-else-at-end-clause-words
returns-else-at-end-clause-words c =
    let a = c.args in
    sym (sets_out (words a.s.now) a.at a.xs.now (omega (arith, length_words a.s.now)))
