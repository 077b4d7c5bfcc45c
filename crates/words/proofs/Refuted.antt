-- What a search says can fail: `First` is false of another place. Assumes nothing.
use Prim.Native.Nat.{ℕ}
use native.Mathlib.Omega.{arith}
use mathlib.Core.Bool.{true≢false, false≢true}
use mathlib.Core.List.{List, [], ◌∷◌}
use Rattle.words.specs.Records.{capacity, record_at, same_words, is_at, First}

-- records of one word, 5 7 7: the first 7 is record 1
abbrev three : List ℕ
three = 5 ∷ 7 ∷ 7 ∷ []

abbrev pub SevenAt : ℕ → Type 0
SevenAt q = First three (7 ∷ []) 3 0 q

-- not where 5 is, not at the second 7, and not past the end
pub other_refuted : SevenAt 0 → ⊥
unfolding capacity record_at same_words is_at
other_refuted f = false≢true (f.found (omega arith))

pub later_refuted : SevenAt 2 → ⊥
unfolding capacity record_at same_words is_at
later_refuted f = true≢false (f.before 1 (omega arith) (omega arith))

pub none_refuted : SevenAt 3 → ⊥
unfolding capacity record_at same_words is_at
none_refuted f = true≢false (f.before 1 (omega arith) (omega arith))
