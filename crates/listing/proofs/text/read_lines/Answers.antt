use Rattle.words.specs.Words.{words}
use Rattle.listing.proofs.Lines.{lines_fault}
use Rattle.listing.proofs.text.read_lines.Goals as goal

pub returns-then-not-read_line-clause-words : goal.returns-then-not-read_line-clause-words
returns-then-not-read_line-clause-words c =
    let a = c.args in
    let l = c.loop-i in
    lines_fault a.s.now a.at a.width a.count (words l.out) l.i c.loop-i-test.true c.if-not-read_line.ensures.words l.invariant.1
