-- What the laws of the encoding say: the record of a kind with its fields, and an instruction with another offset or destination.
use Rattle.std.specs.Prelude.{ℕ, List, [], ◌∷◌, ◌++◌, get_or, replicate}
use Rattle.runtime.specs.declared.instruction.Instruction.{Instruction}
use Rattle.runtime.specs.Instruction.{words_of}

-- "Instruction, four words: place in the order of `instruction.rs`": the first of them
abbrev pub kind_of : Instruction → ℕ
kind_of i = get_or (words_of i) 0 0

-- the instruction with its destination d made f d, where `patch_arguments` lists it, and its offset o made g o, where it is a jump
unfoldable pub patched : (ℕ → ℕ) → (ℕ → ℕ) → Instruction → Instruction
patched f g (Instruction.Add dest src1 src2) = Instruction.Add (f dest) src1 src2
patched f g (Instruction.AddK dest src1 src2) = Instruction.AddK (f dest) src1 src2
patched f g (Instruction.Subtract dest src1 src2) = Instruction.Subtract (f dest) src1 src2
patched f g (Instruction.SubtractRK dest src1 src2) = Instruction.SubtractRK (f dest) src1 src2
patched f g (Instruction.SubtractKR dest src1 src2) = Instruction.SubtractKR (f dest) src1 src2
patched f g (Instruction.Multiply dest src1 src2) = Instruction.Multiply (f dest) src1 src2
patched f g (Instruction.MultiplyK dest src1 src2) = Instruction.MultiplyK (f dest) src1 src2
patched f g (Instruction.Divide dest src1 src2) = Instruction.Divide (f dest) src1 src2
patched f g (Instruction.DivideRK dest src1 src2) = Instruction.DivideRK (f dest) src1 src2
patched f g (Instruction.DivideKR dest src1 src2) = Instruction.DivideKR (f dest) src1 src2
patched f g (Instruction.Modulo dest src1 src2) = Instruction.Modulo (f dest) src1 src2
patched f g (Instruction.ModuloRK dest src1 src2) = Instruction.ModuloRK (f dest) src1 src2
patched f g (Instruction.ModuloKR dest src1 src2) = Instruction.ModuloKR (f dest) src1 src2
patched f g (Instruction.Equal dest src1 src2) = Instruction.Equal (f dest) src1 src2
patched f g (Instruction.EqualK dest src1 src2) = Instruction.EqualK (f dest) src1 src2
patched f g (Instruction.NotEqual dest src1 src2) = Instruction.NotEqual (f dest) src1 src2
patched f g (Instruction.NotEqualK dest src1 src2) = Instruction.NotEqualK (f dest) src1 src2
patched f g (Instruction.Less dest src1 src2) = Instruction.Less (f dest) src1 src2
patched f g (Instruction.LessRK dest src1 src2) = Instruction.LessRK (f dest) src1 src2
patched f g (Instruction.LessKR dest src1 src2) = Instruction.LessKR (f dest) src1 src2
patched f g (Instruction.LessEqual dest src1 src2) = Instruction.LessEqual (f dest) src1 src2
patched f g (Instruction.LessEqualRK dest src1 src2) = Instruction.LessEqualRK (f dest) src1 src2
patched f g (Instruction.LessEqualKR dest src1 src2) = Instruction.LessEqualKR (f dest) src1 src2
patched f g (Instruction.Not dest src) = Instruction.Not (f dest) src
patched f g (Instruction.Negate dest src) = Instruction.Negate (f dest) src
patched f g (Instruction.Move dest src) = Instruction.Move (f dest) src
patched f g (Instruction.LoadConst dest src) = Instruction.LoadConst (f dest) src
patched f g (Instruction.CreateMap dest) = Instruction.CreateMap (f dest)
patched f g (Instruction.SetProperty object key value) = Instruction.SetProperty object key value
patched f g (Instruction.SetPropertyRK object key value) = Instruction.SetPropertyRK object key value
patched f g (Instruction.SetPropertyKR object key value) = Instruction.SetPropertyKR object key value
patched f g (Instruction.SetPropertyKK object key value) = Instruction.SetPropertyKK object key value
patched f g (Instruction.GetProperty dest object key) = Instruction.GetProperty (f dest) object key
patched f g (Instruction.GetPropertyK dest object key) = Instruction.GetPropertyK dest object key
patched f g (Instruction.SetElement object key value) = Instruction.SetElement object key value
patched f g (Instruction.CreateClosure dest captures src) = Instruction.CreateClosure (f dest) captures src
patched f g (Instruction.CreateRef dest src) = Instruction.CreateRef (f dest) src
patched f g (Instruction.DerefSet dest src) = Instruction.DerefSet dest src
patched f g (Instruction.Deref dest src) = Instruction.Deref (f dest) src
patched f g (Instruction.Call dest src arity) = Instruction.Call (f dest) src arity
patched f g (Instruction.Return src) = Instruction.Return src
patched f g (Instruction.Jump offset) = Instruction.Jump (g offset)
patched f g (Instruction.JumpIfFalse src offset) = Instruction.JumpIfFalse src (g offset)
patched f g (Instruction.JumpIfTrue src offset) = Instruction.JumpIfTrue src (g offset)
patched f g (Instruction.JumpIfLess src1 src2 offset) = Instruction.JumpIfLess src1 src2 (g offset)
patched f g (Instruction.JumpIfLessRK src1 src2 offset) = Instruction.JumpIfLessRK src1 src2 (g offset)
patched f g (Instruction.JumpIfLessKR src2 src1 offset) = Instruction.JumpIfLessKR src2 src1 (g offset)
patched f g (Instruction.JumpIfLessEqual src1 src2 offset) = Instruction.JumpIfLessEqual src1 src2 (g offset)
patched f g (Instruction.JumpIfLessEqualRK src1 src2 offset) = Instruction.JumpIfLessEqualRK src1 src2 (g offset)
patched f g (Instruction.JumpIfLessEqualKR src2 src1 offset) = Instruction.JumpIfLessEqualKR src2 src1 (g offset)
patched f g (Instruction.JumpIfEqual src1 src2 offset) = Instruction.JumpIfEqual src1 src2 (g offset)
patched f g (Instruction.JumpIfEqualK src1 src2 offset) = Instruction.JumpIfEqualK src1 src2 (g offset)
patched f g (Instruction.JumpIfNotEqual src1 src2 offset) = Instruction.JumpIfNotEqual src1 src2 (g offset)
patched f g (Instruction.JumpIfNotEqualK src1 src2 offset) = Instruction.JumpIfNotEqualK src1 src2 (g offset)
patched f g (Instruction.CaptureValue src) = Instruction.CaptureValue src

-- "Only the offset word changes": the instruction with the offset o; one that is no jump stays as it is
abbrev pub with_offset : ℕ → Instruction → Instruction
with_offset o i = patched (λ d. d) (λ _. o) i

-- "a destination that `patch_arguments` lists": the instruction with the destination d; one that is not listed stays as it is
abbrev pub with_destination : ℕ → Instruction → Instruction
with_destination d i = patched (λ _. d) (λ o. o) i

-- how many fields an instruction has
pub data FieldCount : Type 0 where
  one two three : FieldCount

-- "then its fields in declared order"; "unused words are 0 here too": the record of kind k with these fields
abbrev pub record_of : FieldCount → ℕ → ℕ → ℕ → ℕ → List ℕ
record_of one k a b c = k ∷ a ∷ 0 ∷ 0 ∷ []
record_of two k a b c = k ∷ a ∷ b ∷ 0 ∷ []
record_of three k a b c = k ∷ a ∷ b ∷ c ∷ []

-- "place in the order of `instruction.rs` from 0 (Add) to 54 (CaptureValue)": the fields of each kind
abbrev pub field_counts : List FieldCount
field_counts =
    replicate 23 three ++ replicate 4 two ++ replicate 1 one ++ replicate 8 three ++ replicate 3 two ++ replicate 1 three ++ replicate 2 one
    ++ replicate 2 two ++ replicate 10 three ++ replicate 1 one

-- those of kind k
abbrev pub field_count_of : ℕ → FieldCount
field_count_of k = get_or field_counts k one
