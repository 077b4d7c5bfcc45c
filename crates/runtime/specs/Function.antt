-- "emit appends; the pool gives the first equal constant, else appends."
use Rattle.std.specs.Prelude.{ℕ, List, cond, ltb, Ok}
use Rattle.diagnostics.specs.declared.Refusal.{Refusal}
use Rattle.words.specs.Records.{Buffer, buffer, append, position, max_count}
use Rattle.runtime.specs.declared.instruction.Instruction.{Instruction}
use Rattle.runtime.specs.declared.operand.Operand.{Operand}
use Rattle.runtime.specs.Instruction.{words_of}
use Rattle.runtime.specs.Value.{constant_words}

-- "fewer than 1,048,576 made"
abbrev pub max_instructions : ℕ
max_instructions = 1048576

-- "13: Does the code buffer have place for the next instruction, with fewer than 1,048,576 made?"
unfoldable pub emit_instruction : List ℕ → ℕ → Instruction → Buffer
emit_instruction code count i = append code count max_instructions (words_of i) Refusal.Code

-- "14: The constant buffer for a new constant? (whole records; a constant already pooled needs none)". A count has 32 bits.
unfoldable pub store_constant : List ℕ → ℕ → Operand → Buffer
store_constant constants count c =
    let place : ℕ = position constants (constant_words c) count in
    cond (ltb place count)
    (buffer constants (record { count = count; place = Ok place }))
    (append constants count max_count (constant_words c) Refusal.Constants)
