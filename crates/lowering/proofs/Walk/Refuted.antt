-- Each law of the definition is false of the worked page with one wrong word or number: what it says can fail. Assumes nothing.
use Rattle.std.specs.Prelude.{Some}
use Prim.Native.Nat.{ℕ}
use native.Mathlib.Omega.{arith}
use mathlib.Core.Path.{◌≡◌, refl, sym, ap, ◌∙◌}
use mathlib.Core.Bool.{cond, false≢true}
use mathlib.Core.List.{[], ◌∷◌}
use lib.ListN.{get_or, set, replicate}
use lib.Ieee.{is_nan, eq, lt, le, of_bits, to_bits, nan_bits}
use Rattle.words.specs.Records.{capacity, record_at, put_record, same_words, is_at, position_from, position, append}
use Rattle.words.specs.Words.{word_of, words, tail, bytes_of}
use Rattle.diagnostics.specs.declared.Refusal.{Refusal}
use Rattle.diagnostics.specs.declared.Error.{Error}
use Rattle.environment.specs.declared.Register.{Register}
use Rattle.environment.specs.declared.RegisterSet.{RegisterSet}
use Rattle.environment.specs.Laws.{Sound}
use Rattle.environment.proofs.Laws.{gives, all_free_lem}
use Rattle.environment.specs.Bits.{bit, clear, flip}
use Rattle.environment.specs.Environment.{found, allocated, freed, parameters, lookup}
use Rattle.environment.specs.Registers.{free, take_out, put_back, smallest_from, smallest_free, all_free, held, without, taken, given_back}
use Rattle.syntax.specs.Ast.{node_word, node_at}
use Rattle.syntax.specs.Ops.{binary_op, unary_op}
use Rattle.runtime.specs.declared.operand.Operand.{Operand}
use Rattle.runtime.specs.Function.{emit_instruction, store_constant}
use Rattle.runtime.specs.Instruction.{words_of, has_destination, offset_word, decode}
use Rattle.runtime.specs.Operands.{reg_of}
use Rattle.runtime.specs.Value.{number_of, constant_words}
use Rattle.lowering.specs.Lower.{source, same_register, name_of, materialized, lower_materializing, moved, lower_name, binary_sources, lower_arguments, store_named, store_keyed, lower_entry, lower_entries, lower_else, lower_tail, lower_node, test, fused_sources, fuse, jump_node, lower_expression, lower_jump_if_false, lower_jump_if_true, expression_below, jump_below}
use Rattle.lowering.specs.Operators.{binary_rr, binary_rk, binary_kr, unary, comparison, jump_rr, jump_rk, jump_kr, jump_if}
use Rattle.lowering.specs.Questions.{whole, question1, question2, question3, question4, question5, question6, all_below, question7, question8, ask_node, ask_nodes, questions}
use Rattle.lowering.specs.Steps.{with_registers, free_held, placed, registered, allocate_temp, free_temp, destination, emit, store, load_constant, put_offset, patch_to_next, mark, patch_argument, patch_marks, patch_arguments}
use Rattle.lowering.specs.Tree.{tree_of, node, present, entry_nodes, children}
use Rattle.lowering.specs.Walk.{Made, made, Outcome, ends, stops, Walk, bind, ◌>>◌, unnamed, made_of}
use Rattle.lowering.specs.Result.{Lowered, begin, lower_root, lowered_of, lower_checked, lower}
use Rattle.lowering.specs.Frame.{Smallest}
use Rattle.lowering.specs.Smallest.{before_register, SmallestFirst}
use Rattle.lowering.specs.Meaning.{Evaluation, evaluates, fails, undefined, Named, first, later, Reaches, here, below}
use Rattle.lowering.specs.Machine.{record_in, fetch, constant_at, constant_of, target, action, act, step_at, machine_step, after}
use Rattle.lowering.specs.Law.{Start, LawOf}
use Rattle.lowering.specs.Trace.{registers_of, Held, constant_of_node, Owned}
use Rattle.lowering.specs.Answers.{nothing_made}
use Rattle.lowering.specs.Instance.{Datum, number, string, boolean, nil, Mismatch, ieee_compare, on_numbers, alike, ieee_test}
use Rattle.lowering.specs.Examples.{page_nodes, page_tree, one, two, page_code, page_constants, page_with, EndedOf, WithinOf, FramesOf, FitOf, no_else, no_else_code, no_else_with, StoppedOf, no_words, takes_one, sum_of_names}
use Rattle.lowering.proofs.Running.Instance.{page_start, page_value}

-- ---- the worked page

abbrev pub from_page : Made
from_page = nothing_made (bytes_of page_nodes) 5 0 [] (bytes_of (7 ∷ [])) (replicate 32 9) (replicate 12 9) (replicate 2 9)

-- the walk of it
abbrev pub walked : Outcome ℕ
walked = lower_root free_temp page_tree 0 5 from_page

-- what it leaves
page_right : lowered_of 1 walked ≡ page_with 5 3 2 page_code page_constants
unfolding of_bits to_bits nan_bits capacity record_at put_record same_words is_at position_from position append word_of words tail bytes_of bit clear flip found allocated freed parameters lookup free take_out put_back smallest_from smallest_free all_free without taken given_back node_word node_at binary_op unary_op emit_instruction store_constant words_of has_destination offset_word reg_of number_of constant_words source same_register name_of materialized lower_materializing moved lower_name binary_sources lower_arguments store_named store_keyed lower_entry lower_entries lower_else lower_tail lower_node test fused_sources fuse jump_node lower_expression lower_jump_if_false lower_jump_if_true expression_below jump_below binary_rr binary_rk binary_kr unary comparison jump_rr jump_rk jump_kr jump_if whole question1 question2 question3 question4 question5 question6 all_below question7 question8 ask_node ask_nodes questions begin lower_root lowered_of lower_checked lower placed registered allocate_temp free_temp destination emit store load_constant put_offset patch_to_next mark patch_argument patch_marks patch_arguments present entry_nodes children bind
page_right = refl

-- ---- Law 3: word 6 is the constant of the then-branch, 1 for the number 1. With 2 there the code returns 2, and the value of the tree is 1.

-- 1 of the number 1, and 0 of all else
is_one : Evaluation Mismatch Datum → ℕ
is_one (evaluates (number x)) = cond (eq x one) 1 0
is_one (evaluates (string s)) = 0
is_one (evaluates (boolean b)) = 0
is_one (evaluates nil) = 0
is_one (fails y) = 0
is_one undefined = 0

one_two : ◌≡◌ {A = Evaluation Mismatch Datum} (evaluates (number one)) (evaluates (number two)) → ⊥
unfolding is_one eq number_of of_bits to_bits nan_bits
one_two e = let z : ◌≡◌ {A = ℕ} 1 0 = ap is_one e in omega arith

at_two : Start page_tree 5
unfolding is_nan number_of of_bits
at_two = page_start two refl (λ r. number two) refl

value_one : LawOf page_tree 5 (page_with 5 3 2 (set page_code 6 2) page_constants) → ◌≡◌ {A = Evaluation Mismatch Datum} (evaluates (number one)) (evaluates (number two))
unfolding at_two page_start ieee_compare on_numbers alike ieee_test lt le eq record_in fetch constant_at constant_of target action act step_at machine_step after decode of_bits to_bits nan_bits capacity record_at put_record same_words is_at position_from position append word_of words tail bytes_of bit clear flip found allocated freed parameters lookup free take_out put_back smallest_from smallest_free all_free without taken given_back node_word node_at binary_op unary_op emit_instruction store_constant words_of has_destination offset_word reg_of number_of constant_words source same_register name_of materialized lower_materializing moved lower_name binary_sources lower_arguments store_named store_keyed lower_entry lower_entries lower_else lower_tail lower_node test fused_sources fuse jump_node lower_expression lower_jump_if_false lower_jump_if_true expression_below jump_below binary_rr binary_rk binary_kr unary comparison jump_rr jump_rk jump_kr jump_if whole question1 question2 question3 question4 question5 question6 all_below question7 question8 ask_node ask_nodes questions begin lower_root lowered_of lower_checked lower placed registered allocate_temp free_temp destination emit store load_constant put_offset patch_to_next mark patch_argument patch_marks patch_arguments present entry_nodes children bind
value_one law = sym (page_value two) ∙ (law.returns at_two (number two)).1 (4, refl)

pub law_refuted : LawOf page_tree 5 (page_with 5 3 2 (set page_code 6 2) page_constants) → ⊥
law_refuted law = one_two (value_one law)

-- ---- Law 2: the frame size is 2. A register above 255, an index above 65,535, and a constant twice.

page_frame : (made_of walked).state.registers.frame_size ≡ 2
unfolding made_of of_bits to_bits nan_bits capacity record_at put_record same_words is_at position_from position append word_of words tail bytes_of bit clear flip found allocated freed parameters lookup free take_out put_back smallest_from smallest_free all_free without taken given_back node_word node_at binary_op unary_op emit_instruction store_constant words_of has_destination offset_word reg_of number_of constant_words source same_register name_of materialized lower_materializing moved lower_name binary_sources lower_arguments store_named store_keyed lower_entry lower_entries lower_else lower_tail lower_node test fused_sources fuse jump_node lower_expression lower_jump_if_false lower_jump_if_true expression_below jump_below binary_rr binary_rk binary_kr unary comparison jump_rr jump_rk jump_kr jump_if whole question1 question2 question3 question4 question5 question6 all_below question7 question8 ask_node ask_nodes questions begin lower_root lowered_of lower_checked lower placed registered allocate_temp free_temp destination emit store load_constant put_offset patch_to_next mark patch_argument patch_marks patch_arguments present entry_nodes children bind
page_frame = refl

pub frames_refuted : FramesOf (page_with 5 3 3 page_code page_constants) → ⊥
unfolding made_of
frames_refuted f =
    let same : (made_of walked).state.registers.frame_size ≡ f.made.state.registers.frame_size = ap (λ o. (made_of o).state.registers.frame_size) f.is in
    omega (arith, f.size, page_frame)

pub fit_register_refuted : FitOf (page_with 5 3 2 (set page_code 5 256) page_constants) → ⊥
fit_register_refuted f = omega (arith, (f.fields_fit 1 (omega arith)).0)

pub fit_index_refuted : FitOf (page_with 5 3 2 (set page_code 6 65536) page_constants) → ⊥
fit_index_refuted f = omega (arith, (f.fields_fit 1 (omega arith)).1)

pub fit_offset_refuted : FitOf (page_with 5 3 2 (set page_code 9 2147483648) page_constants) → ⊥
fit_offset_refuted f = omega (arith, (f.fields_fit 2 (omega arith)).0)

pub fit_distinct_refuted : FitOf (page_with 5 3 2 page_code (set page_constants 5 1074266112)) → ⊥
unfolding record_at
fit_distinct_refuted f = f.distinct 0 1 (omega arith) (omega arith) refl

-- ---- Law 1: what came back, word for word; and nothing past the counts

page_word : get_or (made_of walked).code 3 0 ≡ 3
unfolding made_of of_bits to_bits nan_bits capacity record_at put_record same_words is_at position_from position append word_of words tail bytes_of bit clear flip found allocated freed parameters lookup free take_out put_back smallest_from smallest_free all_free without taken given_back node_word node_at binary_op unary_op emit_instruction store_constant words_of has_destination offset_word reg_of number_of constant_words source same_register name_of materialized lower_materializing moved lower_name binary_sources lower_arguments store_named store_keyed lower_entry lower_entries lower_else lower_tail lower_node test fused_sources fuse jump_node lower_expression lower_jump_if_false lower_jump_if_true expression_below jump_below binary_rr binary_rk binary_kr unary comparison jump_rr jump_rk jump_kr jump_if whole question1 question2 question3 question4 question5 question6 all_below question7 question8 ask_node ask_nodes questions begin lower_root lowered_of lower_checked lower placed registered allocate_temp free_temp destination emit store load_constant put_offset patch_to_next mark patch_argument patch_marks patch_arguments present entry_nodes children bind
page_word = refl

pub ended_refuted : EndedOf (page_with 5 3 2 (set page_code 3 4) page_constants) → ⊥
unfolding made_of
ended_refuted e =
    let shown : ◌≡◌ {A = ℕ} 4 (get_or e.made.code 3 0) = ap (λ x. get_or x.code 3 0) e.shown in
    let same : get_or (made_of walked).code 3 0 ≡ get_or e.made.code 3 0 = ap (λ o. get_or (made_of o).code 3 0) e.is in
    omega (arith, page_word)

pub within_refuted : WithinOf (page_with 5 3 2 (set page_code 20 8) page_constants) → ⊥
within_refuted w = omega (arith, w.code_past 20 (omega arith))

pub within_count_refuted : WithinOf (page_with 9 3 2 page_code page_constants) → ⊥
unfolding capacity
within_count_refuted w = omega (arith, w.code_fits)

-- ---- 11: `if x 1`, no else (x alone), its span 11 to 12

abbrev pub halted : Outcome ℕ
halted = lower_root free_temp (tree_of (bytes_of no_else) [] (bytes_of (7 ∷ []))) 0 2
    (nothing_made (bytes_of no_else) 2 0 [] (bytes_of (7 ∷ [])) (replicate 32 9) (replicate 12 9) (replicate 2 9))

pub no_else_right : lowered_of 1 halted ≡ no_else_with 11 2 12 no_else_code
unfolding of_bits to_bits nan_bits capacity record_at put_record same_words is_at position_from position append word_of words tail bytes_of bit clear flip found allocated freed parameters lookup free take_out put_back smallest_from smallest_free all_free without taken given_back node_word node_at binary_op unary_op emit_instruction store_constant words_of has_destination offset_word reg_of number_of constant_words source same_register name_of materialized lower_materializing moved lower_name binary_sources lower_arguments store_named store_keyed lower_entry lower_entries lower_else lower_tail lower_node test fused_sources fuse jump_node lower_expression lower_jump_if_false lower_jump_if_true expression_below jump_below binary_rr binary_rk binary_kr unary comparison jump_rr jump_rk jump_kr jump_if whole question1 question2 question3 question4 question5 question6 all_below question7 question8 ask_node ask_nodes questions begin lower_root lowered_of lower_checked lower placed registered allocate_temp free_temp destination emit store load_constant put_offset patch_to_next mark patch_argument patch_marks patch_arguments present entry_nodes children bind
no_else_right = refl

-- what comes back is what the walk stopped with
stopped_shows : {l : Lowered} → StoppedOf l → l ≡ no_else_with 11 2 12 no_else_code
unfolding lowered_of
stopped_shows s = s.shown ∙ sym (ap (lowered_of 1) s.is) ∙ no_else_right

pub stopped_number_refuted : StoppedOf (no_else_with 12 2 12 no_else_code) → ⊥
stopped_number_refuted s = omega (arith, ap (λ x. x.result.number) (stopped_shows s))

pub stopped_place_refuted : StoppedOf (no_else_with 11 1 12 no_else_code) → ⊥
stopped_place_refuted s = omega (arith, ap (λ x. x.result.place) (stopped_shows s))

pub stopped_span_refuted : StoppedOf (no_else_with 11 2 13 no_else_code) → ⊥
stopped_span_refuted s = omega (arith, ap (λ x. x.result.end) (stopped_shows s))

pub stopped_word_refuted : StoppedOf (no_else_with 11 2 12 (set no_else_code 2 2)) → ⊥
stopped_word_refuted s = omega (arith, ap (λ x. get_or x.code 2 0) (stopped_shows s))

-- ---- Given back once: of two give-backs of a held register `free_temp` makes both, and `free_held` stops at the second

is_stop : Outcome Unit → ℕ
is_stop (ends a n) = 0
is_stop (stops e n) = 1

stops_ends : {e : Error} {a b : Made} → ◌≡◌ {A = Outcome Unit} (stops e a) (ends tt b) → ⊥
unfolding is_stop
stops_ends z = let w : ◌≡◌ {A = ℕ} 1 0 = ap is_stop z in omega arith

module _ (m : Made) (r : ℕ) (sound : Sound (registers_of m)) (h : Held m r) where
  once : Made
  once = with_registers (given_back (registers_of m) r) m

  first_held : free_held (Register.Temp r) m ≡ ends tt once
  unfolding free_held free_temp freed once
  first_held = rw h

  second_stops : free_held (Register.Temp r) once ≡ stops (unnamed Refusal.Jump) once
  unfolding free_held once
  second_stops = rw (gives (registers_of m) r sound h).now_free

  twice_stops : (free_held (Register.Temp r) >> free_held (Register.Temp r)) m ≡ stops (unnamed Refusal.Jump) once
  unfolding bind
  twice_stops = ap (λ o. bind o (λ u. free_held (Register.Temp r))) first_held ∙ second_stops

  twice_ends : (free_temp (Register.Temp r) >> free_temp (Register.Temp r)) m ≡ ends tt (with_registers (given_back (registers_of once) r) once)
  unfolding free_temp freed once bind
  twice_ends = refl

  pub twice_refuted : (free_held (Register.Temp r) >> free_held (Register.Temp r)) m ≡ (free_temp (Register.Temp r) >> free_temp (Register.Temp r)) m → ⊥
  twice_refuted e = stops_ends (sym twice_stops ∙ e ∙ twice_ends)

-- ---- Smallest first: a walk that takes register 1 while 0 is free

abbrev unmade : Made
unmade = made [] [] [] (record { registers = all_free; counts = record { instructions = 0; constants = 0 }; marks = 0 })

pub smallest_first_refuted : (jump : ℕ → Walk ℕ) → SmallestFirst no_words takes_one jump → ⊥
unfolding lower_materializing materialized source bind before_register node_at node_word made_of
smallest_first_refuted jump f =
    let k = f 0 1 unmade (with_registers (without all_free 1) unmade) refl in
    let same : held all_free 0 ≡ held k.when.state.registers 0 = ap (λ o. held (made_of o).state.registers 0) k.before in
    false≢true (sym (all_free_lem 0) ∙ same ∙ k.smallest.smaller_held 0 (omega arith))

-- the same of a register that a run takes
pub smallest_refuted : (s : RegisterSet) → Smallest unmade 1 s → ⊥
smallest_refuted s k = false≢true (sym (all_free_lem 0) ∙ k.smaller_held 0 (omega arith))

-- ---- Pool: a constant is that of a node that the root reaches. Of x + y, whose nodes are names and an operator, nil is none.

-- not x, not y, and not their sum
x_nil : (k : ℕ) → Reaches sum_of_names 0 k → constant_of_node (node sum_of_names k) ≡ Some Operand.Nil → ⊥
unfolding node_at node_word children constant_of_node
x_nil k here e = let z : ◌≡◌ {A = ℕ} 0 1 = cc in omega arith
x_nil k (below n r) e = elim n [ ]

y_nil : (k : ℕ) → Reaches sum_of_names 1 k → constant_of_node (node sum_of_names k) ≡ Some Operand.Nil → ⊥
unfolding node_at node_word children constant_of_node
y_nil k here e = let z : ◌≡◌ {A = ℕ} 0 1 = cc in omega arith
y_nil k (below n r) e = elim n [ ]

right_nil : (i k : ℕ) → Named i (1 ∷ []) → Reaches sum_of_names i k → constant_of_node (node sum_of_names k) ≡ Some Operand.Nil → ⊥
right_nil i k first r e = y_nil k r e
right_nil i k (later n) r e = elim n [ ]

operand_nil : (i k : ℕ) → Named i (0 ∷ 1 ∷ []) → Reaches sum_of_names i k → constant_of_node (node sum_of_names k) ≡ Some Operand.Nil → ⊥
operand_nil i k first r e = x_nil k r e
operand_nil i k (later n) r e = right_nil i k n r e

sum_nil : (k : ℕ) → Reaches sum_of_names 2 k → constant_of_node (node sum_of_names k) ≡ Some Operand.Nil → ⊥
unfolding node_at node_word children constant_of_node
sum_nil k here e = let z : ◌≡◌ {A = ℕ} 0 1 = cc in omega arith
sum_nil k (below {j = i} n r) e = operand_nil i k n r e

pub owned_refuted : Owned sum_of_names 2 Operand.Nil → ⊥
owned_refuted o = sum_nil o.owner o.reached o.its
