-- The worked pages: the program prints the listing of each. One table with one theorem. Assumes nothing.
use Prim.Native.Nat.{ℕ}
use mathlib.Core.Path.{◌≡◌, refl, ap}
use mathlib.Core.List.{List, [], map}
use lib.ListN.{get_or}
use lib.Ieee.{of_bits, to_bits, nan_bits}
use Rattle.words.specs.Records.{capacity, record_at, put_record, same_words, is_at, position_from, position, append}
use Rattle.words.specs.Words.{word_of, words, tail, bytes_of}
use Rattle.environment.specs.Bits.{bit, clear, flip}
use Rattle.environment.specs.Environment.{found, allocated, freed, parameters, lookup}
use Rattle.environment.specs.Registers.{free, take_out, put_back, smallest_from, smallest_free, all_free, without, taken, given_back}
use Rattle.syntax.specs.Ast.{node_word, node_at}
use Rattle.syntax.specs.Ops.{binary_op, unary_op}
use Rattle.runtime.specs.Function.{emit_instruction, store_constant}
use Rattle.runtime.specs.Instruction.{words_of, has_destination, offset_word}
use Rattle.runtime.specs.Operands.{reg_of}
use Rattle.runtime.specs.Value.{number_of, constant_words}
use Rattle.lowering.specs.Lower.{source, same_register, name_of, materialized, lower_materializing, moved, lower_name, binary_sources, lower_arguments, store_named, store_keyed, lower_entry, lower_entries, lower_else, lower_tail, lower_node, test, fused_sources, fuse, jump_node, lower_expression, lower_jump_if_false, lower_jump_if_true, expression_below, jump_below}
use Rattle.lowering.specs.Operators.{binary_rr, binary_rk, binary_kr, unary, comparison, jump_rr, jump_rk, jump_kr, jump_if}
use Rattle.lowering.specs.Questions.{whole, question1, question2, question3, question4, question5, question6, all_below, question7, question8, ask_node, ask_nodes, questions}
use Rattle.lowering.specs.Result.{begin, lower_root, lowered_of, lower_checked, lower}
use Rattle.lowering.specs.Steps.{placed, registered, allocate_temp, free_temp, destination, emit, store, load_constant, put_offset, patch_to_next, mark, patch_argument, patch_marks, patch_arguments}
use Rattle.lowering.specs.Tree.{present, entry_nodes, children}
use Rattle.lowering.specs.Walk.{bind}
use Rattle.listing.specs.Column.{first, more, step, read_bytes, read_column, column_number, padding, padded, write_column}
use Rattle.listing.specs.Text.{behind, read_line, below, read_lines, header_of, headed, read_header, read_nodes, read_list, read_names, checked_head, read_text, text_tree, read_tree}
use Rattle.listing.specs.Output.{write_line, write_lines, printed, listing, lower_tree, print_tree, lowerlist}
use Rattle.listing.specs.Page.{codes, bytes_of_lines, page_text, page_listing, refused_text, refused_listing, Page, pages}

pub pages_print : map (λ (p : Page). lowerlist (bytes_of_lines p.text)) pages ≡ map (λ (p : Page). bytes_of_lines p.listing) pages
unfolding codes bytes_of_lines page_text page_listing refused_text refused_listing pages first more step read_bytes read_column column_number padding padded write_column behind read_line below read_lines header_of headed read_header read_nodes read_list read_names checked_head read_text text_tree read_tree write_line write_lines printed listing lower_tree print_tree lowerlist of_bits to_bits nan_bits capacity record_at put_record same_words is_at position_from position append word_of words tail bytes_of bit clear flip found allocated freed parameters lookup free take_out put_back smallest_from smallest_free all_free without taken given_back node_word node_at binary_op unary_op emit_instruction store_constant words_of has_destination offset_word reg_of number_of constant_words source same_register name_of materialized lower_materializing moved lower_name binary_sources lower_arguments store_named store_keyed lower_entry lower_entries lower_else lower_tail lower_node test fused_sources fuse jump_node lower_expression lower_jump_if_false lower_jump_if_true expression_below jump_below binary_rr binary_rk binary_kr unary comparison jump_rr jump_rk jump_kr jump_if whole question1 question2 question3 question4 question5 question6 all_below question7 question8 ask_node ask_nodes questions begin lower_root lowered_of lower_checked lower placed registered allocate_temp free_temp destination emit store load_constant put_offset patch_to_next mark patch_argument patch_marks patch_arguments present entry_nodes children bind
pages_print = refl

-- of document 01's page alone
pub page_prints : lowerlist (bytes_of_lines page_text) ≡ bytes_of_lines page_listing
unfolding pages
page_prints = ap (λ (ls : List (List ℕ)). get_or ls 0 []) pages_print

-- and of the refused one
pub refused_prints : lowerlist (bytes_of_lines refused_text) ≡ bytes_of_lines refused_listing
unfolding pages
refused_prints = ap (λ (ls : List (List ℕ)). get_or ls 1 []) pages_print
