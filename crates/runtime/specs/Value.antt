-- "Constant, three words: kind (0 nil, 1 boolean, 2 number, 3 string), low, high. A boolean's 0 or 1 and a string's symbol stand in low;
-- unused words are 0 here too."
use Rattle.std.specs.Prelude.{ℕ, ◌+◌, ◌*◌, ◌/◌, ◌%◌, ◌<◌, List, [], ◌∷◌, ◌≢◌, true, cond, not, T, pos, Float}
use Rattle.std.specs.Float.{fin, binary64}
use Rattle.std.specs.Float.Ieee.{fits, is_nan, of_bits, to_bits}
use Rattle.words.specs.Words.{word_end}
use Rattle.runtime.specs.declared.operand.Operand.{Operand}

-- the width of a constant record
abbrev pub constant_width : ℕ
constant_width = 3

-- 64 bits from two words
abbrev pub parts_bits : ℕ → ℕ → ℕ
parts_bits low high = word_end * high + low

-- a number: "low word, high word of the binary64 bits"
unfoldable pub number_of : ℕ → ℕ → Float
number_of low high = of_bits binary64 (parts_bits low high)

abbrev pub number_bits : Float → ℕ
number_bits x = to_bits binary64 x

-- the words of a constant; a register is none, and gets those of nil
unfoldable pub constant_words : Operand → List ℕ
constant_words Operand.Nil = 0 ∷ 0 ∷ 0 ∷ []
constant_words (Operand.Boolean b) = 1 ∷ cond b 1 0 ∷ 0 ∷ []
constant_words (Operand.Number x) = 2 ∷ number_bits x % word_end ∷ number_bits x / word_end ∷ []
constant_words (Operand.String symbol) = 3 ∷ symbol ∷ 0 ∷ []
constant_words (Operand.Register r) = 0 ∷ 0 ∷ 0 ∷ []

-- value.rs: `TAG_NIL` 0xFFFF_0001, `TAG_BOOL` 0xFFFF_0002, `TAG_STRING` 0xFFFF_0003
abbrev pub tag_nil : ℕ
tag_nil = 4294901761

abbrev pub tag_bool : ℕ
tag_bool = 4294901762

abbrev pub tag_string : ℕ
tag_string = 4294901763

-- value.rs: a constant's 64 bits, which its `eq` compares: the payload low and the tag high, or a number's own bits; a register is no constant,
-- and gets those of nil
unfoldable pub value_bits : Operand → ℕ
value_bits Operand.Nil = parts_bits 0 tag_nil
value_bits (Operand.Boolean b) = parts_bits (cond b 1 0) tag_bool
value_bits (Operand.Number x) = number_bits x
value_bits (Operand.String symbol) = parts_bits symbol tag_string
value_bits (Operand.Register r) = parts_bits 0 tag_nil

-- the constants that document 01 admits: a number of binary64, "neither NaN nor minus zero", a string whose symbol is a word, a boolean, nil
abbrev pub Admitted : Operand → Type 0
Admitted Operand.Nil = Unit
Admitted (Operand.Boolean b) = Unit
Admitted (Operand.Number x) = T (fits binary64 x) × T (not (is_nan x)) × (x ≢ fin true 0 (pos 0))
Admitted (Operand.String symbol) = symbol < word_end
Admitted (Operand.Register r) = ⊥
