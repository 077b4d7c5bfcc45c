-- "words are 32 bits, unsigned"; "byte slices (words little-endian)": the words of a list of bytes, and the bytes of a list of words.
use Rattle.std.specs.Prelude.{ℕ, ◌+◌, ◌*◌, ◌/◌, ◌%◌, List, [], ◌∷◌, length, drop}

-- how many bytes a word has
abbrev pub word_bytes : ℕ
word_bytes = 4

-- every byte is below it
abbrev pub byte_end : ℕ
byte_end = 256

-- and every word below it: "words are 32 bits, unsigned"
abbrev pub word_end : ℕ
word_end = 4294967296

-- the word of four bytes, the low one first
unfoldable pub word_of : ℕ → ℕ → ℕ → ℕ → ℕ
word_of a b c d = a + 256 * b + 65536 * c + 16777216 * d

-- the whole words of a list of bytes
unfoldable pub words : List ℕ → List ℕ
words [] = []
words (a ∷ []) = []
words (a ∷ b ∷ []) = []
words (a ∷ b ∷ c ∷ []) = []
words (a ∷ b ∷ c ∷ d ∷ s) = word_of a b c d ∷ words s

-- the bytes past the last whole word
unfoldable pub tail : List ℕ → List ℕ
tail s = drop (word_bytes * (length s / word_bytes)) s

-- the bytes of a list of words
unfoldable pub bytes_of : List ℕ → List ℕ
bytes_of [] = []
bytes_of (x ∷ ws) = x % 256 ∷ x / 256 % 256 ∷ x / 65536 % 256 ∷ x / 16777216 % 256 ∷ bytes_of ws
