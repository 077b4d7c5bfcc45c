-- "Instruction, four words: place in the order of `instruction.rs` from 0 (Add) to 54 (CaptureValue), then its fields in declared order."
use Rattle.std.specs.Prelude.{ℕ, List, [], ◌∷◌, Bool, true, false, cond, ltb, get_or, Option, Some, None}
use Rattle.runtime.specs.declared.instruction.Instruction.{Instruction}

-- the width of an instruction record
abbrev pub instruction_width : ℕ
instruction_width = 4

-- "the kind 41 to 53": the kinds of the first and of the last jump
abbrev pub first_jump : ℕ
first_jump = 41

abbrev pub last_jump : ℕ
last_jump = 53

-- "An offset is a two's-complement word": from here on it is negative
abbrev pub offset_end : ℕ
offset_end = 2147483648

-- the words of an instruction; unused words are 0, an offset is its two's-complement word
unfoldable pub words_of : Instruction → List ℕ
words_of (Instruction.Add dest src1 src2) = 0 ∷ dest ∷ src1 ∷ src2 ∷ []
words_of (Instruction.AddK dest src1 src2) = 1 ∷ dest ∷ src1 ∷ src2 ∷ []
words_of (Instruction.Subtract dest src1 src2) = 2 ∷ dest ∷ src1 ∷ src2 ∷ []
words_of (Instruction.SubtractRK dest src1 src2) = 3 ∷ dest ∷ src1 ∷ src2 ∷ []
words_of (Instruction.SubtractKR dest src1 src2) = 4 ∷ dest ∷ src1 ∷ src2 ∷ []
words_of (Instruction.Multiply dest src1 src2) = 5 ∷ dest ∷ src1 ∷ src2 ∷ []
words_of (Instruction.MultiplyK dest src1 src2) = 6 ∷ dest ∷ src1 ∷ src2 ∷ []
words_of (Instruction.Divide dest src1 src2) = 7 ∷ dest ∷ src1 ∷ src2 ∷ []
words_of (Instruction.DivideRK dest src1 src2) = 8 ∷ dest ∷ src1 ∷ src2 ∷ []
words_of (Instruction.DivideKR dest src1 src2) = 9 ∷ dest ∷ src1 ∷ src2 ∷ []
words_of (Instruction.Modulo dest src1 src2) = 10 ∷ dest ∷ src1 ∷ src2 ∷ []
words_of (Instruction.ModuloRK dest src1 src2) = 11 ∷ dest ∷ src1 ∷ src2 ∷ []
words_of (Instruction.ModuloKR dest src1 src2) = 12 ∷ dest ∷ src1 ∷ src2 ∷ []
words_of (Instruction.Equal dest src1 src2) = 13 ∷ dest ∷ src1 ∷ src2 ∷ []
words_of (Instruction.EqualK dest src1 src2) = 14 ∷ dest ∷ src1 ∷ src2 ∷ []
words_of (Instruction.NotEqual dest src1 src2) = 15 ∷ dest ∷ src1 ∷ src2 ∷ []
words_of (Instruction.NotEqualK dest src1 src2) = 16 ∷ dest ∷ src1 ∷ src2 ∷ []
words_of (Instruction.Less dest src1 src2) = 17 ∷ dest ∷ src1 ∷ src2 ∷ []
words_of (Instruction.LessRK dest src1 src2) = 18 ∷ dest ∷ src1 ∷ src2 ∷ []
words_of (Instruction.LessKR dest src1 src2) = 19 ∷ dest ∷ src1 ∷ src2 ∷ []
words_of (Instruction.LessEqual dest src1 src2) = 20 ∷ dest ∷ src1 ∷ src2 ∷ []
words_of (Instruction.LessEqualRK dest src1 src2) = 21 ∷ dest ∷ src1 ∷ src2 ∷ []
words_of (Instruction.LessEqualKR dest src1 src2) = 22 ∷ dest ∷ src1 ∷ src2 ∷ []
words_of (Instruction.Not dest src) = 23 ∷ dest ∷ src ∷ 0 ∷ []
words_of (Instruction.Negate dest src) = 24 ∷ dest ∷ src ∷ 0 ∷ []
words_of (Instruction.Move dest src) = 25 ∷ dest ∷ src ∷ 0 ∷ []
words_of (Instruction.LoadConst dest src) = 26 ∷ dest ∷ src ∷ 0 ∷ []
words_of (Instruction.CreateMap dest) = 27 ∷ dest ∷ 0 ∷ 0 ∷ []
words_of (Instruction.SetProperty object key value) = 28 ∷ object ∷ key ∷ value ∷ []
words_of (Instruction.SetPropertyRK object key value) = 29 ∷ object ∷ key ∷ value ∷ []
words_of (Instruction.SetPropertyKR object key value) = 30 ∷ object ∷ key ∷ value ∷ []
words_of (Instruction.SetPropertyKK object key value) = 31 ∷ object ∷ key ∷ value ∷ []
words_of (Instruction.GetProperty dest object key) = 32 ∷ dest ∷ object ∷ key ∷ []
words_of (Instruction.GetPropertyK dest object key) = 33 ∷ dest ∷ object ∷ key ∷ []
words_of (Instruction.SetElement object key value) = 34 ∷ object ∷ key ∷ value ∷ []
words_of (Instruction.CreateClosure dest captures src) = 35 ∷ dest ∷ captures ∷ src ∷ []
words_of (Instruction.CreateRef dest src) = 36 ∷ dest ∷ src ∷ 0 ∷ []
words_of (Instruction.DerefSet dest src) = 37 ∷ dest ∷ src ∷ 0 ∷ []
words_of (Instruction.Deref dest src) = 38 ∷ dest ∷ src ∷ 0 ∷ []
words_of (Instruction.Call dest src arity) = 39 ∷ dest ∷ src ∷ arity ∷ []
words_of (Instruction.Return src) = 40 ∷ src ∷ 0 ∷ 0 ∷ []
words_of (Instruction.Jump offset) = 41 ∷ offset ∷ 0 ∷ 0 ∷ []
words_of (Instruction.JumpIfFalse src offset) = 42 ∷ src ∷ offset ∷ 0 ∷ []
words_of (Instruction.JumpIfTrue src offset) = 43 ∷ src ∷ offset ∷ 0 ∷ []
words_of (Instruction.JumpIfLess src1 src2 offset) = 44 ∷ src1 ∷ src2 ∷ offset ∷ []
words_of (Instruction.JumpIfLessRK src1 src2 offset) = 45 ∷ src1 ∷ src2 ∷ offset ∷ []
words_of (Instruction.JumpIfLessKR src2 src1 offset) = 46 ∷ src2 ∷ src1 ∷ offset ∷ []
words_of (Instruction.JumpIfLessEqual src1 src2 offset) = 47 ∷ src1 ∷ src2 ∷ offset ∷ []
words_of (Instruction.JumpIfLessEqualRK src1 src2 offset) = 48 ∷ src1 ∷ src2 ∷ offset ∷ []
words_of (Instruction.JumpIfLessEqualKR src2 src1 offset) = 49 ∷ src2 ∷ src1 ∷ offset ∷ []
words_of (Instruction.JumpIfEqual src1 src2 offset) = 50 ∷ src1 ∷ src2 ∷ offset ∷ []
words_of (Instruction.JumpIfEqualK src1 src2 offset) = 51 ∷ src1 ∷ src2 ∷ offset ∷ []
words_of (Instruction.JumpIfNotEqual src1 src2 offset) = 52 ∷ src1 ∷ src2 ∷ offset ∷ []
words_of (Instruction.JumpIfNotEqualK src1 src2 offset) = 53 ∷ src1 ∷ src2 ∷ offset ∷ []
words_of (Instruction.CaptureValue src) = 54 ∷ src ∷ 0 ∷ 0 ∷ []

-- what each kind makes of the words after it
abbrev pub decoders : List (ℕ → ℕ → ℕ → Option Instruction)
decoders =
    (λ a b c. Some (Instruction.Add a b c)) ∷
    (λ a b c. Some (Instruction.AddK a b c)) ∷
    (λ a b c. Some (Instruction.Subtract a b c)) ∷
    (λ a b c. Some (Instruction.SubtractRK a b c)) ∷
    (λ a b c. Some (Instruction.SubtractKR a b c)) ∷
    (λ a b c. Some (Instruction.Multiply a b c)) ∷
    (λ a b c. Some (Instruction.MultiplyK a b c)) ∷
    (λ a b c. Some (Instruction.Divide a b c)) ∷
    (λ a b c. Some (Instruction.DivideRK a b c)) ∷
    (λ a b c. Some (Instruction.DivideKR a b c)) ∷
    (λ a b c. Some (Instruction.Modulo a b c)) ∷
    (λ a b c. Some (Instruction.ModuloRK a b c)) ∷
    (λ a b c. Some (Instruction.ModuloKR a b c)) ∷
    (λ a b c. Some (Instruction.Equal a b c)) ∷
    (λ a b c. Some (Instruction.EqualK a b c)) ∷
    (λ a b c. Some (Instruction.NotEqual a b c)) ∷
    (λ a b c. Some (Instruction.NotEqualK a b c)) ∷
    (λ a b c. Some (Instruction.Less a b c)) ∷
    (λ a b c. Some (Instruction.LessRK a b c)) ∷
    (λ a b c. Some (Instruction.LessKR a b c)) ∷
    (λ a b c. Some (Instruction.LessEqual a b c)) ∷
    (λ a b c. Some (Instruction.LessEqualRK a b c)) ∷
    (λ a b c. Some (Instruction.LessEqualKR a b c)) ∷
    (λ a b c. Some (Instruction.Not a b)) ∷
    (λ a b c. Some (Instruction.Negate a b)) ∷
    (λ a b c. Some (Instruction.Move a b)) ∷
    (λ a b c. Some (Instruction.LoadConst a b)) ∷
    (λ a b c. Some (Instruction.CreateMap a)) ∷
    (λ a b c. Some (Instruction.SetProperty a b c)) ∷
    (λ a b c. Some (Instruction.SetPropertyRK a b c)) ∷
    (λ a b c. Some (Instruction.SetPropertyKR a b c)) ∷
    (λ a b c. Some (Instruction.SetPropertyKK a b c)) ∷
    (λ a b c. Some (Instruction.GetProperty a b c)) ∷
    (λ a b c. Some (Instruction.GetPropertyK a b c)) ∷
    (λ a b c. Some (Instruction.SetElement a b c)) ∷
    (λ a b c. Some (Instruction.CreateClosure a b c)) ∷
    (λ a b c. Some (Instruction.CreateRef a b)) ∷
    (λ a b c. Some (Instruction.DerefSet a b)) ∷
    (λ a b c. Some (Instruction.Deref a b)) ∷
    (λ a b c. Some (Instruction.Call a b c)) ∷
    (λ a b c. Some (Instruction.Return a)) ∷
    (λ a b c. Some (Instruction.Jump a)) ∷
    (λ a b c. Some (Instruction.JumpIfFalse a b)) ∷
    (λ a b c. Some (Instruction.JumpIfTrue a b)) ∷
    (λ a b c. Some (Instruction.JumpIfLess a b c)) ∷
    (λ a b c. Some (Instruction.JumpIfLessRK a b c)) ∷
    (λ a b c. Some (Instruction.JumpIfLessKR a b c)) ∷
    (λ a b c. Some (Instruction.JumpIfLessEqual a b c)) ∷
    (λ a b c. Some (Instruction.JumpIfLessEqualRK a b c)) ∷
    (λ a b c. Some (Instruction.JumpIfLessEqualKR a b c)) ∷
    (λ a b c. Some (Instruction.JumpIfEqual a b c)) ∷
    (λ a b c. Some (Instruction.JumpIfEqualK a b c)) ∷
    (λ a b c. Some (Instruction.JumpIfNotEqual a b c)) ∷
    (λ a b c. Some (Instruction.JumpIfNotEqualK a b c)) ∷
    (λ a b c. Some (Instruction.CaptureValue a)) ∷
    []

-- the instruction that a record holds: none where the kind is above 54; a word after the last field is not looked at
unfoldable pub decode : List ℕ → Option Instruction
decode ws = get_or decoders (get_or ws 0 0) (λ a b c. None) (get_or ws 1 0) (get_or ws 2 0) (get_or ws 3 0)

-- "a destination that `patch_arguments` lists", by kind, in word 1: Add to CreateMap (0 to 27), GetProperty (32), CreateClosure and CreateRef
-- (35, 36), Deref and Call (38, 39)
unfoldable pub has_destination : ℕ → Bool
has_destination kind =
    cond (ltb kind 28) true
    (cond (ltb kind 32) false
    (cond (ltb kind 33) true
    (cond (ltb kind 35) false
    (cond (ltb kind 37) true
    (cond (ltb kind 38) false
    (ltb kind 40))))))

-- the word of a jump that is its offset: 1 in Jump (41), 2 in JumpIfFalse and JumpIfTrue (42, 43), 3 in the ten fused
-- jumps (44 to 53). A kind that is no jump has none: 0, the kind's own word.
unfoldable pub offset_word : ℕ → ℕ
offset_word kind =
    cond (ltb kind first_jump) 0
    (cond (ltb kind 42) 1
    (cond (ltb kind 44) 2
    (cond (ltb kind 54) 3
    0)))
