-- What emitting and the pool say can fail: `Emitted`, `Stored` and `Full` are false of a wrong place, count or word. Assumes nothing.
use Rattle.std.specs.Prelude.{Ok}
use Prim.Native.Nat.{ℕ}
use native.Mathlib.Omega.{arith}
use mathlib.Core.Path.{refl, ap}
use mathlib.Core.Logic.{⊎_elim}
use mathlib.Core.List.{List, [], ◌∷◌, ◌++◌}
use lib.ListN.{get_or, set, replicate}
use Rattle.words.specs.Records.{Buffer, buffer, capacity, record_at}
use Rattle.runtime.specs.declared.instruction.Instruction.{Instruction}
use Rattle.runtime.specs.declared.operand.Operand.{Operand}
use Rattle.runtime.specs.Value.{constant_words}
use Rattle.runtime.specs.Instruction.{words_of}
use Rattle.runtime.specs.Pool.{Emitted, Stored, Full}

-- ---- Move 1 0 is put after one instruction, in a buffer of three whose words are 9

abbrev code : List ℕ
code = replicate 12 9

-- what is left: so many instructions, and the four words of record 1
abbrev left : ℕ → List ℕ → Buffer
left count words = buffer (replicate 4 9 ++ words ++ replicate 4 9) (record { count = count; place = Ok 1 })

abbrev pub MoveAt : Buffer → ℕ → Type 0
MoveAt after p = Emitted code 1 (Instruction.Move 1 0) after p

pub place_refuted : (after : Buffer) → MoveAt after 0 → ⊥
place_refuted after e = omega (arith, e.last)

pub count_refuted : MoveAt (left 1 (25 ∷ 1 ∷ 0 ∷ 0 ∷ [])) 1 → ⊥
count_refuted e = omega (arith, e.counted)

pub word_refuted : MoveAt (left 2 (25 ∷ 0 ∷ 1 ∷ 0 ∷ [])) 1 → ⊥
unfolding record_at words_of
word_refuted e = omega (arith, ap (λ ws. get_or ws 1 0) e.holds)

pub other_refuted : MoveAt (buffer (set (replicate 4 9 ++ (25 ∷ 1 ∷ 0 ∷ 0 ∷ []) ++ replicate 4 9) 3 8) (record { count = 2; place = Ok 1 })) 1 → ⊥
unfolding record_at
other_refuted e = omega (arith, ap (λ ws. get_or ws 3 0) (e.kept 0 (λ z. omega arith)))

-- ---- the string 5 is in a pool of two as its second constant, after nil

abbrev pool : List ℕ
pool = 0 ∷ 0 ∷ 0 ∷ 3 ∷ 5 ∷ 0 ∷ []

abbrev pub FiveAt : ℕ → ℕ → Type 0
FiveAt count p = Stored pool 2 (Operand.String 5) (buffer pool (record { count = count; place = Ok p })) p

-- not where nil is, and not a second time after the last
pub first_refuted : FiveAt 2 0 → ⊥
unfolding record_at constant_words
first_refuted s = omega (arith, ap (λ ws. get_or ws 0 0) s.holds)

pub again_refuted : FiveAt 3 2 → ⊥
unfolding capacity record_at constant_words
again_refuted s = s.first 1 (omega arith) (omega arith) refl

pub counted_refuted : FiveAt 3 1 → ⊥
counted_refuted s = ⊎_elim (λ h. omega (arith, h.2)) (λ h. omega (arith, h.0)) s.grows

-- ---- a buffer of three instructions, of which one is made, is not full

pub full_refuted : (after : Buffer) → Full 4 code 1 1048576 after → ⊥
unfolding capacity
full_refuted after f = ⊎_elim (λ h. omega (arith, h)) (λ h. omega (arith, h)) f.full
