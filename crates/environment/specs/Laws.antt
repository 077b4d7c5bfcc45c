-- What the laws of registers and names say. A set is known by `held` and the frame size.
use Rattle.std.specs.Prelude.{ℕ, ◌+◌, ◌<◌, max, ◌≡◌, ◌≢◌, true, false, List, length, get_or}
use Rattle.diagnostics.specs.declared.Refusal.{Refusal}
use Rattle.environment.specs.declared.Register.{Register}
use Rattle.environment.specs.declared.RegisterSet.{RegisterSet}
use Rattle.environment.specs.Registers.{register_count, held}

-- "Every held register is below the frame size", of a set as the code makes it
pub record Sound (s : RegisterSet) : Type 0 where
  -- four words, so that each of the 256 registers has its bit
  pub whole : length s.words ≡ 4
  -- every held register is below the frame size
  pub below : (r : ℕ) → held s r ≡ true → r < s.frame_size

-- "a taken register is free and every smaller one is held": register r is taken from s, which leaves t
pub record Takes (s : RegisterSet) (r : ℕ) (t : RegisterSet) : Type 0 where
  -- it is one of the 256
  pub in_range : r < register_count
  -- it was not held
  pub was_free : held s r ≡ false
  -- every smaller one was
  pub smaller_held : (j : ℕ) → j < r → held s j ≡ true
  -- it is held now
  pub now_held : held t r ≡ true
  -- no other changes
  pub others : (j : ℕ) → j ≢ r → held t j ≡ held s j
  -- the frame size covers it
  pub frame : t.frame_size ≡ max s.frame_size (r + 1)
  -- there are as many words as before
  pub words : length t.words ≡ length s.words

-- "10: Is a register free?", answered no: none can be taken from s, which is left as t
pub record Refuses (s : RegisterSet) (refusal : Refusal) (t : RegisterSet) : Type 0 where
  -- the refusal is that of registers
  pub reason : refusal ≡ Refusal.Registers
  -- the set is as it was
  pub unchanged : t ≡ s
  -- all 256 are held
  pub all_held : (j : ℕ) → j < register_count → held s j ≡ true

-- "Taking or giving back a register hands the set back changed": register r, which is held, is given back to s, which leaves t
pub record Gives (s : RegisterSet) (r : ℕ) (t : RegisterSet) : Type 0 where
  -- it is not held now
  pub now_free : held t r ≡ false
  -- no other changes
  pub others : (j : ℕ) → j ≢ r → held t j ≡ held s j
  -- the frame size stays
  pub frame : t.frame_size ≡ s.frame_size
  -- there are as many words as before
  pub words : length t.words ≡ length s.words

-- "No register is ever given back twice": register r, which is not held, is given back to s all the same, which leaves t
pub record GivesFree (s : RegisterSet) (r : ℕ) (t : RegisterSet) : Type 0 where
  -- it is held now, though nothing took it: so the set shows a second give-back
  pub now_held : held t r ≡ true
  -- no other changes
  pub others : (j : ℕ) → j ≢ r → held t j ≡ held s j
  -- the frame size stays
  pub frame : t.frame_size ≡ s.frame_size
  -- there are as many words as before
  pub words : length t.words ≡ length s.words

-- "The last parameter of a name wins": the register of the last of the first n names that is x
pub record Last (names : List ℕ) (n x : ℕ) (register : Register) : Type 0 where
  -- the index of the name
  pub index : ℕ
  -- the register is the local of that number
  pub local : register ≡ Register.Local index
  -- the name is one of the first n
  pub in_range : index < n
  -- and is x
  pub named : get_or names index 0 ≡ x
  -- no later one is
  pub later : (j : ℕ) → index < j → j < n → get_or names j 0 ≢ x

-- "9: Is the name declared?", answered no: none of the first n names is x
pub record Undeclared (names : List ℕ) (n x : ℕ) (refusal : Refusal) : Type 0 where
  -- the refusal is that of a name
  pub reason : refusal ≡ Refusal.Undeclared
  -- no name is x
  pub none : (j : ℕ) → j < n → get_or names j 0 ≢ x
