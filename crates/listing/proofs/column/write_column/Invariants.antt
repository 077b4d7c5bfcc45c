-- What is left of the number, written before what is there, is all that is to be written.
use Rattle.std.proofs.Common.{◌≡◌, ◌-◌, ◌≤◌, length}
use Rattle.std.proofs.lemmas.List.Edits.{sets}
use Rattle.listing.specs.Column.{column_bytes, padded}
use Rattle.listing.proofs.column.write_column.Given as goal

abbrev pub invariant-loop-k : goal.invariant-loop-k
invariant-loop-k l =
    (l.at ≤ length l.initial.s) × (sets l.s l.at (padded l.k l.rest) ≡ sets l.initial.s l.at (padded (column_bytes - 1) l.initial.rest))
