-- The invariant: the words from k on are the same.
use Rattle.std.proofs.Common.{◌≡◌, ◌≤◌, length, true}
use Rattle.words.specs.Words.{words}
use Rattle.words.proofs.Search.{rest_same}
use Rattle.words.proofs.same_words.Given as goal

abbrev pub invariant-loop-k : goal.invariant-loop-k
invariant-loop-k l = record { within : l.k ≤ length l.item; same : rest_same (words l.s) l.at l.item l.k ≡ true }
