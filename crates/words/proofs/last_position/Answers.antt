-- `words::last_position` meets its contract.
use Rattle.std.proofs.Common.{sym, ◌∙◌, arith}
use Rattle.words.proofs.Words.{length_words}
use Rattle.words.proofs.Search.{last_found, last_more, last_end, last_zero, last_past}
use Rattle.words.proofs.last_position.Goals as goal
use Rattle.words.proofs.last_position.Goals.{then-words-end+else-x-eq0, else-words-end}

pub returns-then-x-eq0 : goal.returns-then-x-eq0
returns-then-x-eq0 c = rw c.if-x-eq0.true (last_zero _ _ (omega (arith, length_words c.args.s.now)))

pub loop-i-init : goal.loop-i-init
loop-i-init c =
    let whole = length_words c.args.s.now in
    elim c.if-words-end.branch [
      | then-words-end+else-x-eq0 w ↦ record {
        whole = omega arith;
        counted = omega arith;
        found = last_past _ _ _ _ w.if-x-eq0.false (omega arith) (omega arith);
      }
      | else-words-end w ↦ record { whole = omega arith; counted = omega arith; found = rw w.end-is }
    ]

pub returns-then-whole_word-x : goal.returns-then-whole_word-x
returns-then-whole_word-x c = last_found _ _ _ c.loop-i.invariant.found (omega arith) (sym c.whole_word.ensures ∙ c.if-whole_word-x.true)

pub loop-i-preserved : goal.loop-i-preserved
loop-i-preserved c = record {
  whole = omega arith;
  counted = omega arith;
  found = last_more _ _ _ c.loop-i.invariant.found (omega arith) (λ e. c.if-whole_word-x.false (c.whole_word.ensures ∙ e));
}

pub returns : goal.returns
returns c = last_end _ _ _ c.loop-i.invariant.found (omega arith)
