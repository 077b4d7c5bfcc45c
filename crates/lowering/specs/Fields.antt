-- Nothing is cut: what field each word of an instruction is, and the limit that it is below.
use Rattle.std.specs.Prelude.{ℕ, ◌+◌, ◌*◌, ◌<◌, List, [], ◌∷◌, get_or}
use Rattle.words.specs.Words.{byte_end}
use Rattle.runtime.specs.Instruction.{instruction_width, offset_end}

-- the fields of the Rust's instructions: a register and a call's argument count have 8 bits, an offset has 31 and its sign, and a constant's index
-- is one of those pooled (`top` of them); a word that is no field is 0
pub data Field : Type 0 where
  reg : Field
  index : Field
  arguments : Field
  offset : Field
  unused : Field

-- an index of the Rust's has 16 bits: it is below this
abbrev pub index_end : ℕ
index_end = 65536

-- the limit that a field is below
abbrev pub limit : ℕ → Field → ℕ
limit top reg = byte_end
limit top index = top
limit top arguments = byte_end
limit top offset = offset_end
limit top unused = 1

-- the three words after the kind, by kind from 0 (Add) to 54 (CaptureValue). Lowering never makes 32, 34 to 37 and
-- 54; the row of 35 is narrower than the Rust's.
abbrev pub fields : List (List Field)
fields =
    (reg ∷ reg ∷ reg ∷ []) ∷
    (reg ∷ reg ∷ index ∷ []) ∷
    (reg ∷ reg ∷ reg ∷ []) ∷
    (reg ∷ reg ∷ index ∷ []) ∷
    (reg ∷ index ∷ reg ∷ []) ∷
    (reg ∷ reg ∷ reg ∷ []) ∷
    (reg ∷ reg ∷ index ∷ []) ∷
    (reg ∷ reg ∷ reg ∷ []) ∷
    (reg ∷ reg ∷ index ∷ []) ∷
    (reg ∷ index ∷ reg ∷ []) ∷
    (reg ∷ reg ∷ reg ∷ []) ∷
    (reg ∷ reg ∷ index ∷ []) ∷
    (reg ∷ index ∷ reg ∷ []) ∷
    (reg ∷ reg ∷ reg ∷ []) ∷
    (reg ∷ reg ∷ index ∷ []) ∷
    (reg ∷ reg ∷ reg ∷ []) ∷
    (reg ∷ reg ∷ index ∷ []) ∷
    (reg ∷ reg ∷ reg ∷ []) ∷
    (reg ∷ reg ∷ index ∷ []) ∷
    (reg ∷ index ∷ reg ∷ []) ∷
    (reg ∷ reg ∷ reg ∷ []) ∷
    (reg ∷ reg ∷ index ∷ []) ∷
    (reg ∷ index ∷ reg ∷ []) ∷
    (reg ∷ reg ∷ unused ∷ []) ∷
    (reg ∷ reg ∷ unused ∷ []) ∷
    (reg ∷ reg ∷ unused ∷ []) ∷
    (reg ∷ index ∷ unused ∷ []) ∷
    (reg ∷ unused ∷ unused ∷ []) ∷
    (reg ∷ reg ∷ reg ∷ []) ∷
    (reg ∷ reg ∷ index ∷ []) ∷
    (reg ∷ index ∷ reg ∷ []) ∷
    (reg ∷ index ∷ index ∷ []) ∷
    (reg ∷ reg ∷ reg ∷ []) ∷
    (reg ∷ reg ∷ index ∷ []) ∷
    (reg ∷ reg ∷ reg ∷ []) ∷
    (reg ∷ reg ∷ reg ∷ []) ∷
    (reg ∷ reg ∷ unused ∷ []) ∷
    (reg ∷ reg ∷ unused ∷ []) ∷
    (reg ∷ reg ∷ unused ∷ []) ∷
    (reg ∷ reg ∷ arguments ∷ []) ∷
    (reg ∷ unused ∷ unused ∷ []) ∷
    (offset ∷ unused ∷ unused ∷ []) ∷
    (reg ∷ offset ∷ unused ∷ []) ∷
    (reg ∷ offset ∷ unused ∷ []) ∷
    (reg ∷ reg ∷ offset ∷ []) ∷
    (reg ∷ index ∷ offset ∷ []) ∷
    (reg ∷ index ∷ offset ∷ []) ∷
    (reg ∷ reg ∷ offset ∷ []) ∷
    (reg ∷ index ∷ offset ∷ []) ∷
    (reg ∷ index ∷ offset ∷ []) ∷
    (reg ∷ reg ∷ offset ∷ []) ∷
    (reg ∷ index ∷ offset ∷ []) ∷
    (reg ∷ reg ∷ offset ∷ []) ∷
    (reg ∷ index ∷ offset ∷ []) ∷
    (reg ∷ unused ∷ unused ∷ []) ∷
    []

-- the field in word k + 1 of an instruction of a kind
abbrev pub field_at : ℕ → ℕ → Field
field_at kind k = get_or (get_or fields kind []) k unused

-- four words fit the fields of their kind
abbrev pub Narrow : ℕ → List ℕ → Type 0
Narrow top ws =
    (get_or ws 1 0 < limit top (field_at (get_or ws 0 0) 0)) ×
    (get_or ws 2 0 < limit top (field_at (get_or ws 0 0) 1)) ×
    (get_or ws 3 0 < limit top (field_at (get_or ws 0 0) 2))

-- the four words of instruction p
abbrev pub words_at : List ℕ → ℕ → List ℕ
words_at ws p = get_or ws (instruction_width * p) 0 ∷ get_or ws (instruction_width * p + 1) 0 ∷ get_or ws (instruction_width * p + 2) 0 ∷ get_or ws (instruction_width * p + 3) 0 ∷ []
