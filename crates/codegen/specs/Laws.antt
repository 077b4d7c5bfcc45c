-- Law 1 of the program, in bytes: what holds of the bytes at entry, the numbers that come back and the bytes at exit.
use Rattle.std.specs.Prelude.{ℕ, ◌*◌, ◌≤◌, ◌<◌, ◌≡◌, List, length, get_or}
use Rattle.words.specs.Words.{words}
use Rattle.runtime.specs.Function.{max_instructions}
use Rattle.lowering.specs.Answers as answers
use Rattle.result.specs.declared.Result.{Result}

-- a slice's bytes are below 256
abbrev pub Bytes : List ℕ → Type 0
Bytes s = (i : ℕ) → get_or s i 0 < 256

-- "words are 32 bits, unsigned"
abbrev pub Words : List ℕ → Type 0
Words ws = (i : ℕ) → get_or ws i 0 < 4294967296

-- how many marks were made; none of the eight numbers says it
abbrev pub mark_count : (nodes : List ℕ) (root mode : ℕ) (list names code constants marks : List ℕ) → ℕ
mark_count nodes root mode list names code constants marks = answers.mark_count nodes root mode list names (words code) (words constants) (words marks)

module _ (nodes : List ℕ) (root mode : ℕ) (list names code constants marks : List ℕ) (r : Result) (code' constants' marks' : List ℕ) where
  -- Writes nothing: with 1 to 8 every byte of every buffer is as at entry, and the counts are 0.
  pub record Unwritten : Type 0 where
    pub code_same : code' ≡ code
    pub constants_same : constants' ≡ constants
    pub marks_same : marks' ≡ marks
    pub no_instructions : r.instructions ≡ 0
    pub no_constants : r.constants ≡ 0

  -- Nothing beyond: whatever comes back, every byte past the counts is as at entry, those past the last whole word among them, and the counts fit the
  -- buffers. An instruction has 16 bytes, a constant 12, a mark 4.
  pub record Beyond : Type 0 where
    pub code_length : length code' ≡ length code
    pub constants_length : length constants' ≡ length constants
    pub marks_length : length marks' ≡ length marks
    pub code_past : (i : ℕ) → 16 * r.instructions ≤ i → get_or code' i 0 ≡ get_or code i 0
    pub constants_past : (i : ℕ) → 12 * r.constants ≤ i → get_or constants' i 0 ≡ get_or constants i 0
    pub marks_past : (i : ℕ) → 4 * mark_count nodes root mode list names code constants marks ≤ i → get_or marks' i 0 ≡ get_or marks i 0
    pub code_fits : 16 * r.instructions ≤ length code
    pub code_few : r.instructions ≤ max_instructions
    pub constants_fit : 12 * r.constants ≤ length constants
    pub marks_fit : 4 * mark_count nodes root mode list names code constants marks ≤ length marks

-- the lifetimes of the six slices of `lower`; its contract asks nothing of them
abbrev pub Lifetimes : Type 0
Lifetimes = List ℕ × (List ℕ × (List ℕ × (List ℕ × (List ℕ × (List ℕ × Unit {0})))))
