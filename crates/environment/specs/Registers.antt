-- "a register set holds its 256 members as bits of four 64-bit words. Taking or giving back a register hands the set back changed."
use Rattle.std.specs.Prelude.{ℕ, zero, suc, ◌+◌, ◌/◌, ◌%◌, max, List, [], ◌∷◌, Bool, cond, not, ◌&&◌, ltb, eqb, get_or, set, Ok, Err}
use Rattle.diagnostics.specs.declared.Refusal.{Refusal}
use Rattle.environment.specs.declared.RegisterSet.{RegisterSet}
use Rattle.environment.specs.declared.Taken.{Taken}
use Rattle.environment.specs.Bits.{bit, clear, flip}

-- "its 256 members", of which one word has 64
abbrev pub register_count : ℕ
register_count = 256

abbrev pub word_bits : ℕ
word_bits = 64

-- the highest register
abbrev pub max_register : ℕ
max_register = 255

-- a word of free registers: every bit is set
abbrev pub all_set : ℕ
all_set = 18446744073709551615

-- a free register is a set bit: bit r % 64 of word r / 64
unfoldable pub free : List ℕ → ℕ → Bool
free ws r = eqb (bit (get_or ws (r / word_bits) 0) (r % word_bits)) 1

-- register r no longer free: its bit is cleared
unfoldable pub take_out : List ℕ → ℕ → List ℕ
take_out ws r = set ws (r / word_bits) (clear (get_or ws (r / word_bits) 0) (r % word_bits))

-- register r turned over: its bit is set if it was clear, which says held, and cleared if it was set
unfoldable pub put_back : List ℕ → ℕ → List ℕ
put_back ws r = set ws (r / word_bits) (flip (get_or ws (r / word_bits) 0) (r % word_bits))

-- the smallest free one of n registers from r on, or r + n
unfoldable pub smallest_from : List ℕ → ℕ → ℕ → ℕ
smallest_from ws zero r = r
smallest_from ws (suc n) r = cond (free ws r) r (smallest_from ws n (suc r))

unfoldable pub smallest_free : List ℕ → ℕ
smallest_free ws = smallest_from ws register_count 0

-- nothing taken yet
unfoldable pub all_free : RegisterSet
all_free = record { words = all_set ∷ all_set ∷ all_set ∷ all_set ∷ []; frame_size = 0 }

-- whether a register is held; none past the 256 is
unfoldable pub held : RegisterSet → ℕ → Bool
held s r = ltb r register_count && not (free s.words r)

-- the set once register r is taken: "frame size is 1 + the highest taken"
unfoldable pub without : RegisterSet → ℕ → RegisterSet
without s r = record { words = take_out s.words r; frame_size = max s.frame_size (r + 1) }

-- "the smallest free register is taken"; "10: Is a register free?"
unfoldable pub taken : RegisterSet → Taken ℕ
taken s =
    cond (ltb (smallest_free s.words) register_count)
    (record { set = without s (smallest_free s.words); register = Ok (smallest_free s.words) })
    (record { set = s; register = Err Refusal.Registers })

-- register r given back: it is free if it was held, and the frame size stays. If it was free it is held afterwards, so that a second give-back shows. A number
-- past 255 changes nothing.
unfoldable pub given_back : RegisterSet → ℕ → RegisterSet
given_back s r = cond (ltb r register_count) (record { words = put_back s.words r; frame_size = s.frame_size }) s
