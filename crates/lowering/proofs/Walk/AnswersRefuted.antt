-- Law 1 of the definition can fail: what it says of a refused tree and of patching is false with another number, place or word. Assumes nothing.
use Prim.Native.Nat.{ℕ}
use native.Mathlib.Omega.{arith}
use mathlib.Core.Path.{◌≡◌, refl, sym, ap, ◌∙◌}
use mathlib.Core.List.{List, [], ◌∷◌}
use lib.Ieee.{nan_bits}
use lib.ListN.{get_or, set, replicate}
use Rattle.diagnostics.specs.declared.Refusal.{Refusal}
use Rattle.diagnostics.specs.declared.Error.{Error}
use Rattle.diagnostics.specs.Refusal.{refusal_number}
use Rattle.words.specs.Records.{capacity}
use Rattle.words.specs.Words.{word_of, words, tail, bytes_of}
use Rattle.syntax.specs.Ast.{node_word, node_at}
use Rattle.syntax.specs.Ops.{binary_op, unary_op}
use Rattle.runtime.specs.Instruction.{offset_word}
use Rattle.lowering.specs.Questions.{whole, question1, question2, question3, question4, question5, question6, all_below, question7, question8, Verdict, passed, refused, ask_node, ask_nodes, questions}
use Rattle.lowering.specs.Tree.{present, entry_nodes, children}
use Rattle.lowering.specs.Walk.{error}
use Rattle.lowering.specs.Result.{lowered_of}
use Rattle.lowering.specs.Checked.{AllYes, FirstNo}
use Rattle.lowering.specs.Answers.{MayPatch, MayNot, index_past, count_past, kind_below, kind_past, OneWord}
use Rattle.lowering.proofs.Questions.Checked.{questions_passed, questions_refused}
use Rattle.lowering.specs.Examples.{page_nodes, page_names, wrong_kind, refused_with, UntouchedOf, StopsWithOf, TellsOf, jump_return}
use Rattle.lowering.proofs.Walk.Refuted.{no_else_right}

-- ---- 1 to 8: the worked page with kind 15 at node 1, which is 3 there

wrong_asked : questions wrong_kind [] page_names 0 5 ≡ refused Refusal.Kind 1
unfolding nan_bits capacity word_of words tail bytes_of node_word node_at binary_op unary_op whole question1 question2 question3 question4 question5 question6 all_below question7 question8 ask_node ask_nodes questions present entry_nodes children
wrong_asked = refl

page_asked : questions (bytes_of page_nodes) [] page_names 0 5 ≡ passed
unfolding nan_bits capacity word_of words tail bytes_of node_word node_at binary_op unary_op whole question1 question2 question3 question4 question5 question6 all_below question7 question8 ask_node ask_nodes questions present entry_nodes children
page_asked = refl

-- the number and the place of a verdict
verdict_number : Verdict → ℕ
verdict_number passed = 0
verdict_number (refused r place) = refusal_number r

verdict_place : Verdict → ℕ
verdict_place passed = 0
verdict_place (refused r place) = place

-- another refusal, and another place
pub first_no_number_refuted : FirstNo wrong_kind [] page_names 0 5 Refusal.Unused 1 → ⊥
unfolding verdict_number
first_no_number_refuted h = omega (arith, ap verdict_number (sym wrong_asked ∙ (questions_refused wrong_kind [] page_names 0 5 Refusal.Unused 1).1 h))

pub first_no_place_refuted : FirstNo wrong_kind [] page_names 0 5 Refusal.Kind 2 → ⊥
unfolding verdict_place
first_no_place_refuted h = omega (arith, ap verdict_place (sym wrong_asked ∙ (questions_refused wrong_kind [] page_names 0 5 Refusal.Kind 2).1 h))

-- the page itself is refused by no question
pub first_no_page_refuted : FirstNo (bytes_of page_nodes) [] page_names 0 5 Refusal.Kind 1 → ⊥
unfolding verdict_number
first_no_page_refuted h = omega (arith, ap verdict_number (sym page_asked ∙ (questions_refused (bytes_of page_nodes) [] page_names 0 5 Refusal.Kind 1).1 h))

pub all_yes_refuted : AllYes wrong_kind [] page_names 0 5 → ⊥
unfolding verdict_number
all_yes_refuted y = omega (arith, ap verdict_number (sym wrong_asked ∙ (questions_passed wrong_kind [] page_names 0 5).1 y))

-- writes nothing: one word of a buffer, or a count
pub untouched_code_refuted : UntouchedOf (refused_with 0 0 (set (replicate 32 9) 31 8) (replicate 12 9) (replicate 2 9)) → ⊥
untouched_code_refuted u = omega (arith, ap (λ ws. get_or ws 31 0) u.code_same)

pub untouched_constants_refuted : UntouchedOf (refused_with 0 0 (replicate 32 9) (set (replicate 12 9) 0 8) (replicate 2 9)) → ⊥
untouched_constants_refuted u = omega (arith, ap (λ ws. get_or ws 0 0) u.constants_same)

pub untouched_marks_refuted : UntouchedOf (refused_with 0 0 (replicate 32 9) (replicate 12 9) (set (replicate 2 9) 1 8)) → ⊥
untouched_marks_refuted u = omega (arith, ap (λ ws. get_or ws 1 0) u.marks_same)

pub untouched_count_refuted : UntouchedOf (refused_with 1 0 (replicate 32 9) (replicate 12 9) (replicate 2 9)) → ⊥
untouched_count_refuted u = omega (arith, u.no_instructions)

-- ---- 9 to 18: `if x 1`, no else, which is 11 at node 2, its span 11 to 12

-- what it stops with shows its number, place and span
stops_number : {e : Error} → StopsWithOf e → refusal_number e.refusal ≡ 11
unfolding lowered_of
stops_number s = ap (λ x. x.result.number) (sym (ap (lowered_of 1) s.is) ∙ no_else_right)

stops_place : {e : Error} → StopsWithOf e → e.place ≡ 2
unfolding lowered_of
stops_place s = ap (λ x. x.result.place) (sym (ap (lowered_of 1) s.is) ∙ no_else_right)

stops_end : {e : Error} → StopsWithOf e → e.end ≡ 12
unfolding lowered_of
stops_end s = ap (λ x. x.result.end) (sym (ap (lowered_of 1) s.is) ∙ no_else_right)

pub stops_number_refuted : StopsWithOf (error Refusal.Key 2 11 12) → ⊥
stops_number_refuted s = omega (arith, stops_number s)

pub stops_place_refuted : StopsWithOf (error Refusal.Else 1 11 12) → ⊥
stops_place_refuted s = omega (arith, stops_place s)

pub stops_span_refuted : StopsWithOf (error Refusal.Else 2 11 13) → ⊥
stops_span_refuted s = omega (arith, stops_end s)

pub tells_number_refuted : TellsOf (error Refusal.Key 2 11 12) → ⊥
tells_number_refuted k = omega (arith, k.number)

pub tells_place_refuted : TellsOf (error Refusal.Else 1 11 12) → ⊥
tells_place_refuted k = omega (arith, k.place)

pub tells_start_refuted : TellsOf (error Refusal.Else 2 10 12) → ⊥
tells_start_refuted k = omega (arith, k.start)

pub tells_end_refuted : TellsOf (error Refusal.Else 2 11 13) → ⊥
tells_end_refuted k = omega (arith, k.end)

-- ---- patching: a jump at 0, whose offset is word 1, and a Return at 1

-- the Return may not be patched, nor the jump where none of the code is given, or more than there is
pub may_patch_return_refuted : MayPatch jump_return 2 1 7 → ⊥
may_patch_return_refuted p = omega (arith, p.jump.low)

pub may_patch_index_refuted : MayPatch jump_return 0 0 7 → ⊥
may_patch_index_refuted p = omega (arith, p.below)

pub may_patch_count_refuted : MayPatch jump_return 3 0 7 → ⊥
unfolding capacity
may_patch_count_refuted p = omega (arith, p.within_buffer)

-- the jump may
pub may_not_refuted : MayNot jump_return 2 0 7 → ⊥
unfolding capacity
may_not_refuted (index_past l) = omega arith
may_not_refuted (count_past l) = omega arith
may_not_refuted (kind_below l) = omega arith
may_not_refuted (kind_past l) = omega arith

-- one word: a second one changed, another one instead, or the offset as it was
pub one_word_two_refuted : OneWord jump_return 2 0 7 (41 ∷ 7 ∷ 0 ∷ 0 ∷ 40 ∷ 2 ∷ 0 ∷ 0 ∷ []) → ⊥
unfolding offset_word
one_word_two_refuted o = omega (arith, o.others 5 (λ e. omega arith))

pub one_word_other_refuted : OneWord jump_return 2 0 7 (41 ∷ 0 ∷ 7 ∷ 0 ∷ 40 ∷ 1 ∷ 0 ∷ 0 ∷ []) → ⊥
unfolding offset_word
one_word_other_refuted o = omega (arith, o.set_there)

pub one_word_none_refuted : OneWord jump_return 2 0 7 jump_return → ⊥
unfolding offset_word
one_word_none_refuted o = omega (arith, o.set_there)

pub one_word_return_refuted : (after : List ℕ) → OneWord jump_return 2 1 7 after → ⊥
one_word_return_refuted after o = omega (arith, o.jump.low)
