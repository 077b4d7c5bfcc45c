-- `words::same_words` meets its contract. Assumes nothing.
use Rattle.std.proofs.Common.{◌≡◌, ◌-◌, ◌+◌, ◌<◌, length, sym, ◌∙◌, arith}
use Rattle.words.specs.Words.{words}
use Rattle.words.proofs.Words.{length_words}
use Rattle.words.proofs.Search.{same_start, same_more, same_differs, same_from, same_end}
use Rattle.words.proofs.same_words.Goals as goal

pub loop-k-init : goal.loop-k-init
loop-k-init c = record { within = omega arith; same = same_end _ _ _ _ (omega arith) }

pub overflow_add-at : goal.overflow_add-at
overflow_add-at c = omega (arith, length_words c.args.s.now)

pub whole_word-requires : goal.whole_word-requires
whole_word-requires c = omega arith

pub returns-then-whole_word-item : goal.returns-then-whole_word-item
returns-then-whole_word-item c =
    let a = c.args in
    let k = c.loop-k.k - 1 in
    let inside : k < length a.item.now = omega arith in
    let differs = same_differs (words a.s.now) a.at a.item.now c.requires k inside (λ e. c.if-whole_word-item.true (c.whole_word.ensures ∙ e)) in
    sym (same_start _ _ _ ∙ same_from _ _ _ c.requires k (omega arith) differs)

pub loop-k-preserved : goal.loop-k-preserved
loop-k-preserved c =
    let a = c.args in
    let k = c.loop-k.k - 1 in
    let inside : k < length a.item.now = omega arith in
    let next : k + 1 ≡ c.loop-k.k = omega arith in
    let more = same_more (words a.s.now) a.at a.item.now c.requires k inside (sym c.whole_word.ensures ∙ c.if-whole_word-item.false) in
    record { within = omega arith; same = more ∙ rw next c.loop-k.invariant.same }

pub returns : goal.returns
returns c =
    let none : c.loop-k.k ≡ 0 = omega arith in
    sym (same_start _ _ _ ∙ (rw none at c.loop-k.invariant.same))
