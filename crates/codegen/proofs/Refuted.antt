-- The pool's law and nothing beyond, of the program, are false of the worked page with one wrong word or byte: what they say can fail. Assumes nothing.
use Prim.Native.Nat.{ℕ}
use native.Mathlib.Omega.{arith}
use mathlib.Core.Path.{◌≡◌, refl, ap}
use mathlib.Core.List.{List, [], ◌∷◌}
use lib.ListN.{get_or, set, replicate}
use lib.Ieee.{of_bits, to_bits, nan_bits}
use Rattle.words.specs.Records.{capacity, record_at, put_record, same_words, is_at, position_from, position, append}
use Rattle.words.specs.Words.{word_of, words, tail, bytes_of}
use Rattle.environment.specs.Bits.{bit, clear, flip}
use Rattle.environment.specs.Environment.{found, allocated, freed, parameters, lookup}
use Rattle.environment.specs.Registers.{free, take_out, put_back, smallest_from, smallest_free, all_free, without, taken, given_back}
use Rattle.syntax.specs.Ast.{node_word, node_at}
use Rattle.syntax.specs.Ops.{binary_op, unary_op}
use Rattle.runtime.specs.Function.{emit_instruction, store_constant}
use Rattle.runtime.specs.Instruction.{words_of, has_destination, offset_word}
use Rattle.runtime.specs.Operands.{reg_of}
use Rattle.runtime.specs.Value.{number_of, constant_words}
use Rattle.lowering.specs.Lower.{source, same_register, name_of, materialized, lower_materializing, moved, lower_name, binary_sources, lower_arguments, store_named, store_keyed, lower_entry, lower_entries, lower_else, lower_tail, lower_node, test, fused_sources, fuse, jump_node, lower_expression, lower_jump_if_false, lower_jump_if_true, expression_below, jump_below}
use Rattle.lowering.specs.Operators.{binary_rr, binary_rk, binary_kr, unary, comparison, jump_rr, jump_rk, jump_kr, jump_if}
use Rattle.lowering.specs.Questions.{whole, question1, question2, question3, question4, question5, question6, all_below, question7, question8, ask_node, ask_nodes, questions}
use Rattle.lowering.specs.Steps.{placed, registered, allocate_temp, free_temp, destination, emit, store, load_constant, put_offset, patch_to_next, mark, patch_argument, patch_marks, patch_arguments}
use Rattle.lowering.specs.Tree.{present, entry_nodes, children}
use Rattle.lowering.specs.Walk.{bind, made_of}
use Rattle.lowering.specs.Result.{Lowered, begin, lower_root, lowered_of, lower_checked, lower}
use Rattle.lowering.specs.Pool.{Pool}
use Rattle.lowering.specs.Examples.{page_nodes, page_with}
use Rattle.lowering.proofs.Walk.Refuted.{walked}
use Rattle.result.specs.declared.Result.{Result}
use Rattle.codegen.specs.Laws.{Beyond, Unwritten}
use Rattle.codegen.proofs.Stored.{pool_shows}

-- ---- Pool: word 5 of the constants is the high half of the number 1

abbrev pub PoolOf : Lowered → Type 1
PoolOf = Pool (bytes_of page_nodes) 5 0 [] (bytes_of (7 ∷ [])) (replicate 32 9) (replicate 12 9) (replicate 2 9)

abbrev wrong_pool : List ℕ
wrong_pool = 2 ∷ 0 ∷ 1074266112 ∷ 2 ∷ 0 ∷ 1072693249 ∷ 2 ∷ 0 ∷ 1073741824 ∷ replicate 3 9

page_pool : get_or (record_at 3 (made_of walked).constants 1) 2 0 ≡ 1072693248
unfolding made_of of_bits to_bits nan_bits capacity record_at put_record same_words is_at position_from position append word_of words tail bytes_of bit clear flip found allocated freed parameters lookup free take_out put_back smallest_from smallest_free all_free without taken given_back node_word node_at binary_op unary_op emit_instruction store_constant words_of has_destination offset_word reg_of number_of constant_words source same_register name_of materialized lower_materializing moved lower_name binary_sources lower_arguments store_named store_keyed lower_entry lower_entries lower_else lower_tail lower_node test fused_sources fuse jump_node lower_expression lower_jump_if_false lower_jump_if_true expression_below jump_below binary_rr binary_rk binary_kr unary comparison jump_rr jump_rk jump_kr jump_if whole question1 question2 question3 question4 question5 question6 all_below question7 question8 ask_node ask_nodes questions begin lower_root lowered_of lower_checked lower placed registered allocate_temp free_temp destination emit store load_constant put_offset patch_to_next mark patch_argument patch_marks patch_arguments present entry_nodes children bind
page_pool = refl

page_count : (made_of walked).state.counts.constants ≡ 3
unfolding made_of of_bits to_bits nan_bits capacity record_at put_record same_words is_at position_from position append word_of words tail bytes_of bit clear flip found allocated freed parameters lookup free take_out put_back smallest_from smallest_free all_free without taken given_back node_word node_at binary_op unary_op emit_instruction store_constant words_of has_destination offset_word reg_of number_of constant_words source same_register name_of materialized lower_materializing moved lower_name binary_sources lower_arguments store_named store_keyed lower_entry lower_entries lower_else lower_tail lower_node test fused_sources fuse jump_node lower_expression lower_jump_if_false lower_jump_if_true expression_below jump_below binary_rr binary_rk binary_kr unary comparison jump_rr jump_rk jump_kr jump_if whole question1 question2 question3 question4 question5 question6 all_below question7 question8 ask_node ask_nodes questions begin lower_root lowered_of lower_checked lower placed registered allocate_temp free_temp destination emit store load_constant put_offset patch_to_next mark patch_argument patch_marks patch_arguments present entry_nodes children bind
page_count = refl

wrong_word : get_or (record_at 3 wrong_pool 1) 2 0 ≡ 1072693249
unfolding record_at
wrong_word = refl

pub pool_refuted : (code : List ℕ) → PoolOf (page_with 5 3 2 code wrong_pool) → ⊥
pool_refuted code x =
    let same = ap (λ ws. get_or ws 2 0) (pool_shows (bytes_of page_nodes) 5 0 [] (bytes_of (7 ∷ [])) (replicate 32 9) (replicate 12 9) (replicate 2 9) x 1 (omega (arith, page_count))) in
    omega (arith, wrong_word, page_pool)

-- ---- Nothing beyond: five instructions have 80 bytes

abbrev numbers_of : ℕ → Result
numbers_of instructions = record { number = 0; place = 0; start = 0; end = 0; instructions = instructions; constants = 3; frame_size = 2; arity = 1 }

abbrev pub BeyondOf : ℕ → List ℕ → Type 0
BeyondOf instructions code =
    Beyond (bytes_of page_nodes) 5 0 [] (bytes_of (7 ∷ [])) (replicate 128 9) (replicate 48 9) (replicate 8 9) (numbers_of instructions) code (replicate 48 9) (replicate 8 9)

pub beyond_refuted : BeyondOf 5 (set (replicate 128 9) 80 8) → ⊥
beyond_refuted b = omega (arith, b.code_past 80 (omega arith))

pub beyond_count_refuted : (code : List ℕ) → BeyondOf 9 code → ⊥
beyond_count_refuted code b = omega (arith, b.code_fits)

pub unwritten_refuted : (code : List ℕ) →
    Unwritten (bytes_of page_nodes) 5 0 [] (bytes_of (7 ∷ [])) (replicate 128 9) (replicate 48 9) (replicate 8 9) (numbers_of 5) code (replicate 48 9) (replicate 8 9) → ⊥
unwritten_refuted code u = omega (arith, u.no_instructions)
