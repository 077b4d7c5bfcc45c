-- The table of worked cases (specs/Cases): the worked page of document 01, its starred cases, and more. Assumes nothing.
use mathlib.Core.Path.{◌≡◌, refl}
use mathlib.Core.List.{[], ◌∷◌, map}
use Prim.Native.Nat.{ℕ}
use lib.Ieee.{of_bits, to_bits, nan_bits}
use Rattle.words.specs.Records.{capacity, record_at, put_record, same_words, is_at, position_from, position, append}
use Rattle.words.specs.Words.{word_of, words, tail, bytes_of}
use Rattle.environment.specs.Bits.{bit, clear, flip}
use Rattle.environment.specs.Environment.{found, allocated, freed, parameters, lookup}
use Rattle.environment.specs.Registers.{free, take_out, put_back, smallest_from, smallest_free, all_free, without, taken, given_back}
use Rattle.syntax.specs.Ast.{node_word, node_at}
use Rattle.syntax.specs.Ops.{binary_op, unary_op}
use Rattle.runtime.specs.Function.{emit_instruction, store_constant}
use Rattle.runtime.specs.Instruction.{words_of, has_destination, offset_word}
use Rattle.runtime.specs.Operands.{reg_of}
use Rattle.runtime.specs.Value.{number_of, constant_words}
use Rattle.lowering.specs.Lower.{source, same_register, name_of, materialized, lower_materializing, moved, lower_name, binary_sources, lower_arguments, store_named, store_keyed, lower_entry, lower_entries, lower_else, lower_tail, lower_node, test, fused_sources, fuse, jump_node, lower_expression, lower_jump_if_false, lower_jump_if_true, expression_below, jump_below}
use Rattle.lowering.specs.Operators.{binary_rr, binary_rk, binary_kr, unary, comparison, jump_rr, jump_rk, jump_kr, jump_if}
use Rattle.lowering.specs.Questions.{whole, question1, question2, question3, question4, question5, question6, all_below, question7, question8, ask_node, ask_nodes, questions}
use Rattle.lowering.specs.Result.{result, numbers_of, begin, lower_root, lowered_of, lower_checked, lower}
use Rattle.lowering.specs.Steps.{placed, registered, allocate_temp, free_temp, destination, emit, store, load_constant, put_offset, patch_to_next, mark, patch_argument, patch_marks, patch_arguments}
use Rattle.lowering.specs.Tree.{present, entry_nodes, children}
use Rattle.lowering.specs.Walk.{bind}
use Rattle.lowering.specs.Cases.{filled, lowered_case, wanted, cases}

-- lowering gives what the table says, in each case
pub worked : map lowered_case cases ≡ map wanted cases
unfolding lowered_case wanted cases filled of_bits to_bits nan_bits capacity record_at put_record same_words is_at position_from position append word_of words tail bytes_of bit clear flip found allocated freed parameters lookup free take_out put_back smallest_from smallest_free all_free without taken given_back node_word node_at binary_op unary_op emit_instruction store_constant words_of has_destination offset_word reg_of number_of constant_words source same_register name_of materialized lower_materializing moved lower_name binary_sources lower_arguments store_named store_keyed lower_entry lower_entries lower_else lower_tail lower_node test fused_sources fuse jump_node lower_expression lower_jump_if_false lower_jump_if_true expression_below jump_below binary_rr binary_rk binary_kr unary comparison jump_rr jump_rk jump_kr jump_if whole question1 question2 question3 question4 question5 question6 all_below question7 question8 ask_node ask_nodes questions begin lower_root lowered_of lower_checked lower placed registered allocate_temp free_temp destination emit store load_constant put_offset patch_to_next mark patch_argument patch_marks patch_arguments present entry_nodes children bind
worked = refl

-- the eight numbers come in the order in which the table has them
pub numbers_in_order : (number place start end instructions constants frame_size arity : ℕ) →
    numbers_of (result number place start end instructions constants frame_size arity)
    ≡ number ∷ place ∷ start ∷ end ∷ instructions ∷ constants ∷ frame_size ∷ arity ∷ []
numbers_in_order number place start end instructions constants frame_size arity = refl
