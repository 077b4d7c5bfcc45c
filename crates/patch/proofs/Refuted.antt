-- What patching leaves can fail: `OneOffset` is false of bytes with another offset, and of a byte past the last whole word that changed. Assumes nothing.
use Prim.Native.Nat.{ℕ}
use native.Mathlib.Omega.{arith}
use mathlib.Core.Path.{◌≡◌, refl, ap}
use mathlib.Core.List.{List, [], ◌∷◌, ◌++◌}
use lib.ListN.{get_or, length}
use Rattle.words.specs.Words.{word_of, words, tail, bytes_of}
use Rattle.runtime.specs.Instruction.{offset_word}
use Rattle.patch.specs.Laws.{OneOffset}

-- a jump in 16 bytes, and a byte of no whole word; its offset is made 7
abbrev jump : ℕ → ℕ → List ℕ
jump offset last = 41 ∷ 0 ∷ 0 ∷ 0 ∷ offset ∷ 0 ∷ 0 ∷ 0 ∷ 0 ∷ 0 ∷ 0 ∷ 0 ∷ 0 ∷ 0 ∷ 0 ∷ 0 ∷ last ∷ []

abbrev pub PatchedTo : List ℕ → Type 0
PatchedTo exit = OneOffset (jump 0 5) 1 0 7 exit

-- another offset
other_offset : (left rest : List ℕ) → length left ≡ 4 → get_or left 1 0 ≡ 7 → jump 8 5 ≡ bytes_of left ++ rest → ⊥
unfolding bytes_of
other_offset [] rest size there e = omega arith
other_offset (x ∷ []) rest size there e = omega arith
other_offset (x ∷ y ∷ left) rest size there e = omega (arith, ap (λ l. get_or l 4 0) e)

pub offset_refuted : PatchedTo (jump 8 5) → ⊥
unfolding words word_of offset_word
offset_refuted o = other_offset o.left _ o.one.same_length o.one.set_there o.bytes

-- the last byte, which is of no whole word
last_byte : (left rest : List ℕ) → length left ≡ 4 → get_or rest 0 0 ≡ 5 → jump 7 6 ≡ bytes_of left ++ rest → ⊥
unfolding bytes_of
last_byte [] rest size there e = omega arith
last_byte (x ∷ []) rest size there e = omega arith
last_byte (x ∷ y ∷ []) rest size there e = omega arith
last_byte (x ∷ y ∷ z ∷ []) rest size there e = omega arith
last_byte (x ∷ y ∷ z ∷ w ∷ []) rest size there e = omega (arith, ap (λ l. get_or l 16 0) e)
last_byte (x ∷ y ∷ z ∷ w ∷ v ∷ left) rest size there e = omega arith

pub tail_refuted : PatchedTo (jump 7 6) → ⊥
unfolding words word_of tail
tail_refuted o = last_byte o.left _ o.one.same_length refl o.bytes
