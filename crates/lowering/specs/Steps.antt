-- The steps that do not look at the tree: registers, code, constants, marks and patches.
use Rattle.std.specs.Prelude.{ℕ, zero, suc, ◌+◌, ◌*◌, ◌-◌, List, [], ◌∷◌, cond, leb, eqb, get_or, set, Option, Some, None, Result, Ok, Err}
use Rattle.diagnostics.specs.declared.Refusal.{Refusal}
use Rattle.words.specs.Records.{Buffer, append, max_count}
use Rattle.environment.specs.declared.Register.{Register}
use Rattle.environment.specs.declared.RegisterSet.{RegisterSet}
use Rattle.environment.specs.Registers.{max_register, held}
use Rattle.environment.specs.Environment.{allocated, freed}
use Rattle.runtime.specs.declared.instruction.Instruction.{Instruction}
use Rattle.runtime.specs.declared.operand.Operand.{Operand}
use Rattle.runtime.specs.Operands.{reg_of}
use Rattle.runtime.specs.Instruction.{instruction_width, has_destination, offset_word}
use Rattle.runtime.specs.Function.{emit_instruction, store_constant}
use Rattle.lowering.specs.Walk.{Made, made, ends, stops, Walk, ◌>>=◌, ◌>>◌, ret, error, unnamed}

-- an index or a register that may be refused, with what is left
unfoldable pub placed : Result ℕ Refusal → Walk ℕ
placed (Ok p) m = ends p m
placed (Err refusal) m = stops (unnamed refusal) m

unfoldable pub registered : Result Register Refusal → Walk Register
registered (Ok r) m = ends r m
registered (Err refusal) m = stops (unnamed refusal) m

-- what was made, with one part of it changed
abbrev pub with_registers : RegisterSet → Made → Made
with_registers registers m =
    made m.code m.constants m.marks
    (record { registers = registers; counts = m.state.counts; marks = m.state.marks })

abbrev pub with_code : List ℕ → ℕ → Made → Made
with_code code count m =
    made code m.constants m.marks
    (record { registers = m.state.registers; counts = record { instructions = count; constants = m.state.counts.constants }; marks = m.state.marks })

abbrev pub with_constants : List ℕ → ℕ → Made → Made
with_constants constants count m =
    made m.code constants m.marks
    (record { registers = m.state.registers; counts = record { instructions = m.state.counts.instructions; constants = count }; marks = m.state.marks })

abbrev pub with_marks : List ℕ → ℕ → Made → Made
with_marks marks count m =
    made m.code m.constants marks
    (record { registers = m.state.registers; counts = m.state.counts; marks = count })

-- `allocate_temp`: "10: Is a register free?"
unfoldable pub allocate_temp : Walk Register
allocate_temp m = registered (allocated Register.Temp m.state.registers).register (with_registers (allocated Register.Temp m.state.registers).set m)

-- `free_temp`
unfoldable pub free_temp : Register → Walk Unit
free_temp r m = ends tt (with_registers (freed m.state.registers r) m)

-- the same, but it stops where the temporary is not held, with a refusal that no lowering answers (19 is patching's)
unfoldable pub free_held : Register → Walk Unit
free_held (Register.Temp r) m = cond (held m.state.registers r) (free_temp (Register.Temp r) m) (stops (unnamed Refusal.Jump) m)
free_held (Register.Local r) m = free_temp (Register.Local r) m

-- the register asked for, else a temporary
unfoldable pub destination : Option Register → Walk Register
destination (Some r) = ret r
destination None = allocate_temp

-- `emit_instruction`: the place of the new instruction, or 13
unfoldable pub emit : Instruction → Walk ℕ
emit i m =
    let after : Buffer = emit_instruction m.code m.state.counts.instructions i in
    placed after.answer.place (with_code after.words after.answer.count m)

-- `store_constant`: the place of the constant, or 14
unfoldable pub store : Operand → Walk ℕ
store c m =
    let after : Buffer = store_constant m.constants m.state.counts.constants c in
    placed after.answer.place (with_constants after.words after.answer.count m)

-- a constant in a register: "destination, pool, LoadConst"
unfoldable pub load_constant : Operand → Option Register → Walk Register
load_constant c dest = do
  d ← destination dest
  k ← store c
  emit (Instruction.LoadConst (reg_of d) k)
  ret d

-- the offset of the jump at place j made o
unfoldable pub put_offset : List ℕ → ℕ → ℕ → List ℕ
put_offset code j o = set code (instruction_width * j + offset_word (get_or code (instruction_width * j) 0)) o

-- `patch_jump` of the walk: the jump at place j goes to the instruction that is emitted next
unfoldable pub patch_to_next : ℕ → Walk Unit
patch_to_next j m = ends tt (with_code (put_offset m.code j (m.state.counts.instructions - j)) m.state.counts.instructions m)

-- "the last instruction so far is marked (the mark word is its place)". 15: "Is any instruction there when an argument is marked? (the call)",
-- whose place and span are given; 16: "Is there a word for the mark?"
unfoldable pub mark : ℕ → ℕ → ℕ → Walk ℕ
mark call start end m =
    let after : Buffer = append m.marks m.state.marks max_count ((m.state.counts.instructions - 1) ∷ []) Refusal.Marks in
    cond (eqb m.state.counts.instructions 0) (stops (error Refusal.Unmarked call start end) m)
    (placed after.answer.place (with_marks after.words after.answer.count m))

-- one mark: "adds the frame size to its instruction's destination". 17: "Has it a destination that `patch_arguments` lists?"
-- 18: "Is the sum at most 255?" (place = instruction)
unfoldable pub patch_argument : ℕ → Walk Unit
patch_argument place m =
    let kind : ℕ = get_or m.code (instruction_width * place) 0 in
    let sum : ℕ = get_or m.code (instruction_width * place + 1) 0 + m.state.registers.frame_size in
    cond (has_destination kind)
    (cond (leb sum max_register)
    (ends tt (with_code (set m.code (instruction_width * place + 1) sum) m.state.counts.instructions m))
    (stops (error Refusal.Sum place 0 0) m))
    (stops (error Refusal.Destination place 0 0) m)

-- "At the end each mark, in order": n marks from mark k on
unfoldable pub patch_marks : ℕ → ℕ → Walk Unit
patch_marks zero k = ret tt
patch_marks (suc n) k = (λ m. patch_argument (get_or m.marks k 0) m) >> patch_marks n (suc k)

-- `patch_arguments`
unfoldable pub patch_arguments : Walk Unit
patch_arguments m = patch_marks m.state.marks 0 m
