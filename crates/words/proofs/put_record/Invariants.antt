-- The invariant: what the rest of `xs` makes of the slice is what all of `xs` makes of it at entry.
use Rattle.std.proofs.Common.{length, ◌≡◌, ◌+◌, ◌≤◌, drop}
use Rattle.std.proofs.lemmas.List.Edits.{sets}
use Rattle.words.specs.Words.{words, tail}
use Rattle.words.proofs.put_record.Given as goal

abbrev pub invariant-loop-k : goal.invariant-loop-k
invariant-loop-k l = record {
  within : l.k ≤ length l.xs;
  words : sets (words l.s) (l.at + l.k) (drop l.k l.xs) ≡ sets (words l.initial.s) l.at l.xs;
  tail : tail l.s ≡ tail l.initial.s;
}
