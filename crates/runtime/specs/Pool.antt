-- What the laws of emitting and of the pool say, of a buffer before and after.
use Rattle.std.specs.Prelude.{ℕ, ◌+◌, ◌<◌, ◌≤◌, ◌≡◌, ◌≢◌, ◌⊎◌, List}
use Rattle.words.specs.Records.{Buffer, capacity, record_at}
use Rattle.runtime.specs.declared.instruction.Instruction.{Instruction}
use Rattle.runtime.specs.declared.operand.Operand.{Operand}
use Rattle.runtime.specs.Value.{constant_width, constant_words}
use Rattle.runtime.specs.Instruction.{instruction_width, words_of}

-- "a new constant": it is none of the first n records, as far as they are whole
abbrev pub Unpooled : List ℕ → Operand → ℕ → Type 0
Unpooled ws c n = (q : ℕ) → q < n → q < capacity constant_width ws → record_at constant_width ws q ≢ constant_words c

-- "emit appends": instruction i is at place p
pub record Emitted (ws : List ℕ) (count : ℕ) (i : Instruction) (after : Buffer) (p : ℕ) : Type 0 where
  -- it is put after the last
  pub last : p ≡ count
  -- and counted
  pub counted : after.answer.count ≡ p + 1
  -- its words are there
  pub holds : record_at instruction_width after.words p ≡ words_of i
  -- every other record is as it was
  pub kept : (q : ℕ) → q ≢ p → record_at instruction_width after.words q ≡ record_at instruction_width ws q

-- "the pool gives the first equal constant, else appends": constant c is at place p
pub record Stored (ws : List ℕ) (count : ℕ) (c : Operand) (after : Buffer) (p : ℕ) : Type 0 where
  -- it is one of those counted
  pub counted : p < after.answer.count
  -- its words are there
  pub holds : record_at constant_width after.words p ≡ constant_words c
  -- and at no place before
  pub first : Unpooled after.words c p
  -- every record but the one after the last is as it was
  pub kept : (q : ℕ) → q ≢ count → record_at constant_width after.words q ≡ record_at constant_width ws q
  -- if it was pooled already, nothing has changed; if not, there is one more
  pub grows : ((p < count) × (after.words ≡ ws) × (after.answer.count ≡ count)) ⊎ ((p ≡ count) × (after.answer.count ≡ count + 1) × Unpooled ws c count)

-- "Does the code buffer have place for the next instruction, with fewer than 1,048,576 made? [..] The constant buffer for a new constant?", answered no:
-- records of w words, and `limit` the most that may be made
pub record Full (w : ℕ) (ws : List ℕ) (count limit : ℕ) (after : Buffer) : Type 0 where
  -- nothing has changed
  pub kept : after.words ≡ ws
  pub counted : after.answer.count ≡ count
  -- the buffer has no whole record left, or the limit is reached
  pub full : (capacity w ws ≤ count) ⊎ (limit ≤ count)
