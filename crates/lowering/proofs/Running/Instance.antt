-- The law is not empty: numbers, strings, booleans and nil with IEEE 754 arithmetic keep its hypotheses, two numbers other than NaN its order
-- premise, and the worked page runs under them; so do two values with no failure at all. With a NaN the premise fails, and the then-branch runs
-- where the test is false. At its edges the machine ends with neither value nor failure. Assumes nothing.
use Rattle.std.specs.Prelude.{Some, None}
use Prim.Native.Nat.{ℕ, zero, suc, ◌<◌}
use native.Mathlib.Omega.{arith}
use mathlib.Core.Path.{◌≡◌, refl, sym, ap, ◌∙◌}
use mathlib.Core.Bool.{Bool, true, false, cond, not, ◌&&◌, beq, false≢true}
use mathlib.Core.List.{List, [], ◌∷◌}
use lib.Dec.{eqb}
use lib.ListN.{replicate}
use lib.Ieee.{Float, nan, binary64, lt, le, eq, is_nan, of_bits, to_bits, nan_bits}
use borrow.Author.Tests.{eqb-true, eqb-false}
use Rattle.words.specs.Records.{capacity, record_at, put_record, same_words, is_at, position_from, position, append}
use Rattle.words.specs.Words.{word_of, words, tail, bytes_of}
use Rattle.environment.specs.Bits.{bit, clear, flip}
use Rattle.environment.specs.Environment.{found, allocated, freed, parameters, lookup}
use Rattle.environment.specs.Registers.{free, take_out, put_back, smallest_from, smallest_free, all_free, without, taken, given_back}
use Rattle.syntax.specs.Ast.{node_word, node_at}
use Rattle.syntax.specs.Ops.{binary_op, unary_op}
use Rattle.runtime.specs.Function.{emit_instruction, store_constant}
use Rattle.runtime.specs.Instruction.{words_of, has_destination, offset_word, decode}
use Rattle.runtime.specs.Operands.{reg_of}
use Rattle.runtime.specs.Value.{number_of, constant_words}
use Rattle.lowering.specs.Lower.{source, same_register, name_of, materialized, lower_materializing, moved, lower_name, binary_sources, lower_arguments, store_named, store_keyed, lower_entry, lower_entries, lower_else, lower_tail, lower_node, test, fused_sources, fuse, jump_node, lower_expression, lower_jump_if_false, lower_jump_if_true, expression_below, jump_below}
use Rattle.lowering.specs.Operators.{binary_rr, binary_rk, binary_kr, unary, comparison, jump_rr, jump_rk, jump_kr, jump_if}
use Rattle.lowering.specs.Questions.{whole, question1, question2, question3, question4, question5, question6, all_below, question7, question8, ask_node, ask_nodes, questions}
use Rattle.lowering.specs.Steps.{placed, registered, allocate_temp, free_temp, destination, emit, store, load_constant, put_offset, patch_to_next, mark, patch_argument, patch_marks, patch_arguments}
use Rattle.lowering.specs.Tree.{node, present, entry_nodes, children}
use Rattle.lowering.specs.Walk.{bind}
use Rattle.lowering.specs.Result.{begin, lower_root, lowered_of, lower_checked, lower}
use Rattle.lowering.specs.Meaning.{val, Operators, Hypotheses, Ordered, Evaluation, evaluates, IfAny, met, last_named, operate, node_value, value_below, value_at, OrderAt, condition_asks, node_asks, condition_asks_below, asks_below, OrderPremise, Chosen, Named, first, later, Reaches, here, below, Plain}
use Rattle.lowering.specs.Machine.{record_in, fetch, constant_at, constant_of, target, action, returned, lost, Registers, Now, ended, fill, act, step_at, machine_step, after}
use Rattle.lowering.specs.Law.{Start}
use Rattle.lowering.specs.Instance.{Datum, number, string, boolean, nil, Mismatch, on_numbers, ieee_binary, alike, ieee_compare, ieee_test, ieee, unfailing}
use Rattle.lowering.specs.Examples.{page_nodes, page_tree, page, page_run, one, two, three, five, rule_tree, rule, rule_run}
use Rattle.lowering.proofs.Running.Ieee.{add_order, mul_order, eq_order, order, nan_order}
use Rattle.lowering.proofs.Running.Accepted.{running_law}

-- ---- the operators

-- ---- they keep the hypotheses

numbers_order : {A : Type 0} (f : Float → Float → A) → ((x y : Float) → f x y ≡ f y x) → (a b : Datum) → on_numbers f a b ≡ on_numbers f b a
unfolding on_numbers
numbers_order f h (number x) (number y) = ap val (h x y)
numbers_order f h (number x) (string t) = refl
numbers_order f h (number x) (boolean c) = refl
numbers_order f h (number x) nil = refl
numbers_order f h (string s) (number y) = refl
numbers_order f h (string s) (string t) = refl
numbers_order f h (string s) (boolean c) = refl
numbers_order f h (string s) nil = refl
numbers_order f h (boolean b) (number y) = refl
numbers_order f h (boolean b) (string t) = refl
numbers_order f h (boolean b) (boolean c) = refl
numbers_order f h (boolean b) nil = refl
numbers_order f h nil (number y) = refl
numbers_order f h nil (string t) = refl
numbers_order f h nil (boolean c) = refl
numbers_order f h nil nil = refl

eqb_order : (a b : ℕ) → eqb a b ≡ eqb b a
eqb_order a b = go (eqb a b) refl (eqb b a) refl
  where
    go : (p : Bool) → eqb a b ≡ p → (q : Bool) → eqb b a ≡ q → p ≡ q
    go true e true k = refl
    go false e false k = refl
    go true e false k = let z : a ≡ b = eqb-true a b e in absurd (eqb-false b a k (sym z))
    go false e true k = let z : b ≡ a = eqb-true b a k in absurd (eqb-false a b e (sym z))

beq_order : (s t : Bool) → beq s t ≡ beq t s
beq_order true true = refl
beq_order true false = refl
beq_order false true = refl
beq_order false false = refl

alike_order : (a b : Datum) → alike a b ≡ alike b a
unfolding alike
alike_order (number x) (number y) = eq_order x y
alike_order (number x) (string t) = refl
alike_order (number x) (boolean c) = refl
alike_order (number x) nil = refl
alike_order (string s) (number y) = refl
alike_order (string s) (string t) = eqb_order s t
alike_order (string s) (boolean c) = refl
alike_order (string s) nil = refl
alike_order (boolean b) (number y) = refl
alike_order (boolean b) (string t) = refl
alike_order (boolean b) (boolean c) = beq_order b c
alike_order (boolean b) nil = refl
alike_order nil (number y) = refl
alike_order nil (string t) = refl
alike_order nil (boolean c) = refl
alike_order nil nil = refl

pub ieee_hypotheses : Hypotheses ieee
unfolding ieee_binary ieee_compare ieee_test
ieee_hypotheses = record {
  add_order = λ a b. numbers_order _ (λ x y. ap number (add_order binary64 x y)) a b;
  multiply_order = λ a b. numbers_order _ (λ x y. ap number (mul_order binary64 x y)) a b;
  equal_order = λ a b. ap val (alike_order a b);
  unequal_opposite = λ a b. refl;
  boolean_tests = λ b. refl;
}

-- "under IEEE 754, numbers other than NaN are so", either way round
pub numbers_ordered : (x y : Float) → is_nan x ≡ false → is_nan y ≡ false → Ordered ieee (number x) (number y) × Ordered ieee (number y) (number x)
unfolding ieee_compare on_numbers
numbers_ordered x y p q = (ap val (order x y p q), ap val (order y x q p))

-- a NaN and any number are not
pub nan_unordered : (x : Float) → Ordered ieee (number nan) (number x) → ⊥
unfolding ieee_compare on_numbers
nan_unordered x h =
    let both = nan_order x in
    let e : val (le x nan) ≡ val (not (lt nan x)) = h in
    let same : le x nan ≡ not (lt nan x) = cc in
    false≢true (sym both.1 ∙ same ∙ ap not both.0)

-- ---- the worked page: `if flow < 3 1 else 2`, flow = symbol 7

-- it is accepted
page_accepted : page.result.number ≡ 0
unfolding page of_bits to_bits nan_bits capacity record_at put_record same_words is_at position_from position append word_of words tail bytes_of bit clear flip found allocated freed parameters lookup free take_out put_back smallest_from smallest_free all_free without taken given_back node_word node_at binary_op unary_op emit_instruction store_constant words_of has_destination offset_word reg_of number_of constant_words source same_register name_of materialized lower_materializing moved lower_name binary_sources lower_arguments store_named store_keyed lower_entry lower_entries lower_else lower_tail lower_node test fused_sources fuse jump_node lower_expression lower_jump_if_false lower_jump_if_true expression_below jump_below binary_rr binary_rk binary_kr unary comparison jump_rr jump_rk jump_kr jump_if whole question1 question2 question3 question4 question5 question6 all_below question7 question8 ask_node ask_nodes questions begin lower_root lowered_of lower_checked lower placed registered allocate_temp free_temp destination emit store load_constant put_offset patch_to_next mark patch_argument patch_marks patch_arguments present entry_nodes children bind
page_accepted = refl

-- flow = 2 returns 1 after four steps, flow = 5 returns 2 after three
pub page_small : (rest : Registers ieee) → page_run two rest 4 ≡ ended (returned (ieee.number one))
unfolding page ieee_compare on_numbers alike ieee_test lt le eq record_in fetch constant_at constant_of target action act step_at machine_step after decode of_bits to_bits nan_bits capacity record_at put_record same_words is_at position_from position append word_of words tail bytes_of bit clear flip found allocated freed parameters lookup free take_out put_back smallest_from smallest_free all_free without taken given_back node_word node_at binary_op unary_op emit_instruction store_constant words_of has_destination offset_word reg_of number_of constant_words source same_register name_of materialized lower_materializing moved lower_name binary_sources lower_arguments store_named store_keyed lower_entry lower_entries lower_else lower_tail lower_node test fused_sources fuse jump_node lower_expression lower_jump_if_false lower_jump_if_true expression_below jump_below binary_rr binary_rk binary_kr unary comparison jump_rr jump_rk jump_kr jump_if whole question1 question2 question3 question4 question5 question6 all_below question7 question8 ask_node ask_nodes questions begin lower_root lowered_of lower_checked lower placed registered allocate_temp free_temp destination emit store load_constant put_offset patch_to_next mark patch_argument patch_marks patch_arguments present entry_nodes children bind
page_small rest = refl

pub page_large : (rest : Registers ieee) → page_run five rest 3 ≡ ended (returned (ieee.number two))
unfolding page ieee_compare on_numbers alike ieee_test lt le eq record_in fetch constant_at constant_of target action act step_at machine_step after decode of_bits to_bits nan_bits capacity record_at put_record same_words is_at position_from position append word_of words tail bytes_of bit clear flip found allocated freed parameters lookup free take_out put_back smallest_from smallest_free all_free without taken given_back node_word node_at binary_op unary_op emit_instruction store_constant words_of has_destination offset_word reg_of number_of constant_words source same_register name_of materialized lower_materializing moved lower_name binary_sources lower_arguments store_named store_keyed lower_entry lower_entries lower_else lower_tail lower_node test fused_sources fuse jump_node lower_expression lower_jump_if_false lower_jump_if_true expression_below jump_below binary_rr binary_rk binary_kr unary comparison jump_rr jump_rk jump_kr jump_if whole question1 question2 question3 question4 question5 question6 all_below question7 question8 ask_node ask_nodes questions begin lower_root lowered_of lower_checked lower placed registered allocate_temp free_temp destination emit store load_constant put_offset patch_to_next mark patch_argument patch_marks patch_arguments present entry_nodes children bind
page_large rest = refl

-- the law's own way there, for every flow that is not NaN

chosen : (b : Bool) → Chosen ieee page_tree (λ r. nil) b (Unit {0}) (Unit {0})
chosen true = tt
chosen false = tt

pub page_order : (x : Float) → is_nan x ≡ false → OrderPremise ieee page_tree (λ r. number x) 5
unfolding OrderPremise asks_below node_asks condition_asks_below condition_asks OrderAt value_below node_value last_named operate ieee_compare on_numbers ieee_test is_nan of_bits to_bits nan_bits capacity record_at put_record same_words is_at position_from position append word_of words tail bytes_of bit clear flip found allocated freed parameters lookup free take_out put_back smallest_from smallest_free all_free without taken given_back node_word node_at binary_op unary_op emit_instruction store_constant words_of has_destination offset_word reg_of number_of constant_words source same_register name_of materialized lower_materializing moved lower_name binary_sources lower_arguments store_named store_keyed lower_entry lower_entries lower_else lower_tail lower_node test fused_sources fuse jump_node lower_expression lower_jump_if_false lower_jump_if_true expression_below jump_below binary_rr binary_rk binary_kr unary comparison jump_rr jump_rk jump_kr jump_if whole question1 question2 question3 question4 question5 question6 all_below question7 question8 ask_node ask_nodes questions begin lower_root lowered_of lower_checked lower placed registered allocate_temp free_temp destination emit store load_constant put_offset patch_to_next mark patch_argument patch_marks patch_arguments present entry_nodes children bind
page_order x p =
    let o = numbers_ordered x three p refl in
    ((tt, met tt), met (met (o.0, o.1)), met (chosen (lt x three)))

-- the value of the page
pub page_value : (x : Float) → value_at ieee page_tree (λ r. number x) 5 ≡ evaluates (number (cond (lt x three) one two))
unfolding value_at value_below node_value last_named operate ieee_compare on_numbers ieee_test of_bits to_bits nan_bits capacity record_at put_record same_words is_at position_from position append word_of words tail bytes_of bit clear flip found allocated freed parameters lookup free take_out put_back smallest_from smallest_free all_free without taken given_back node_word node_at binary_op unary_op emit_instruction store_constant words_of has_destination offset_word reg_of number_of constant_words source same_register name_of materialized lower_materializing moved lower_name binary_sources lower_arguments store_named store_keyed lower_entry lower_entries lower_else lower_tail lower_node test fused_sources fuse jump_node lower_expression lower_jump_if_false lower_jump_if_true expression_below jump_below binary_rr binary_rk binary_kr unary comparison jump_rr jump_rk jump_kr jump_if whole question1 question2 question3 question4 question5 question6 all_below question7 question8 ask_node ask_nodes questions begin lower_root lowered_of lower_checked lower placed registered allocate_temp free_temp destination emit store load_constant put_offset patch_to_next mark patch_argument patch_marks patch_arguments present entry_nodes children bind
page_value x = go (lt x three)
  where
    go : (b : Bool) → ◌≡◌ {A = Evaluation Mismatch Datum} (cond b (evaluates (number one)) (evaluates (number two))) (evaluates (number (cond b one two)))
    go true = refl
    go false = refl

-- it has no call and no map: its six nodes name only one another
abbrev Under : ℕ → List ℕ → Type 0
Under n [] = Unit {0}
Under n (x ∷ xs) = (x < n) × Under n xs

named_under : (n : ℕ) {c : ℕ} {l : List ℕ} → Named c l → Under n l → c < n
named_under n first u = u.0
named_under n (later m) u = named_under n m u.1

page_closed : (i : ℕ) → i < 6 → Under 6 (children page_tree.list (node page_tree i))
unfolding of_bits to_bits nan_bits capacity record_at put_record same_words is_at position_from position append word_of words tail bytes_of bit clear flip found allocated freed parameters lookup free take_out put_back smallest_from smallest_free all_free without taken given_back node_word node_at binary_op unary_op emit_instruction store_constant words_of has_destination offset_word reg_of number_of constant_words source same_register name_of materialized lower_materializing moved lower_name binary_sources lower_arguments store_named store_keyed lower_entry lower_entries lower_else lower_tail lower_node test fused_sources fuse jump_node lower_expression lower_jump_if_false lower_jump_if_true expression_below jump_below binary_rr binary_rk binary_kr unary comparison jump_rr jump_rk jump_kr jump_if whole question1 question2 question3 question4 question5 question6 all_below question7 question8 ask_node ask_nodes questions begin lower_root lowered_of lower_checked lower placed registered allocate_temp free_temp destination emit store load_constant put_offset patch_to_next mark patch_argument patch_marks patch_arguments present entry_nodes children bind
page_closed zero h = tt
page_closed (suc zero) h = tt
page_closed (suc (suc zero)) h = (omega arith, (omega arith, tt))
page_closed (suc (suc (suc zero))) h = tt
page_closed (suc (suc (suc (suc zero)))) h = tt
page_closed (suc (suc (suc (suc (suc zero))))) h = (omega arith, (omega arith, (omega arith, tt)))
page_closed (suc (suc (suc (suc (suc (suc i)))))) h = absurd (omega arith)

page_reach : {i j : ℕ} → Reaches page_tree i j → i < 6 → j < 6
page_reach here h = h
page_reach (below {i = i} n r) h = page_reach r (named_under 6 n (page_closed i h))

page_kinds : (i : ℕ) → i < 6 → Plain (node page_tree i)
unfolding Plain of_bits to_bits nan_bits capacity record_at put_record same_words is_at position_from position append word_of words tail bytes_of bit clear flip found allocated freed parameters lookup free take_out put_back smallest_from smallest_free all_free without taken given_back node_word node_at binary_op unary_op emit_instruction store_constant words_of has_destination offset_word reg_of number_of constant_words source same_register name_of materialized lower_materializing moved lower_name binary_sources lower_arguments store_named store_keyed lower_entry lower_entries lower_else lower_tail lower_node test fused_sources fuse jump_node lower_expression lower_jump_if_false lower_jump_if_true expression_below jump_below binary_rr binary_rk binary_kr unary comparison jump_rr jump_rk jump_kr jump_if whole question1 question2 question3 question4 question5 question6 all_below question7 question8 ask_node ask_nodes questions begin lower_root lowered_of lower_checked lower placed registered allocate_temp free_temp destination emit store load_constant put_offset patch_to_next mark patch_argument patch_marks patch_arguments present entry_nodes children bind
page_kinds zero h = tt
page_kinds (suc zero) h = tt
page_kinds (suc (suc zero)) h = tt
page_kinds (suc (suc (suc zero))) h = tt
page_kinds (suc (suc (suc (suc zero)))) h = tt
page_kinds (suc (suc (suc (suc (suc zero))))) h = tt
page_kinds (suc (suc (suc (suc (suc (suc i)))))) h = absurd (omega arith)

page_plain : (i : ℕ) → Reaches page_tree 5 i → Plain (node page_tree i)
page_plain i r = page_kinds i (page_reach r (omega arith))

unfoldable pub page_start : (x : Float) → is_nan x ≡ false → (R : Registers ieee) → R 0 ≡ number x → Start page_tree 5
unfolding words bytes_of word_of
page_start x p R h = record {
  operators = ieee;
  hypotheses = ieee_hypotheses;
  parameters = λ r. number x;
  registers = R;
  filled = λ r l. (let z : r ≡ 0 = omega arith in rw z h);
  order = page_order x p;
}

-- the run returns 1 where flow < 3, and 2 otherwise
pub page_returns : (x : Float) → is_nan x ≡ false → (rest : Registers ieee) → (n : ℕ) × (page_run x rest n ≡ ended (returned (number (cond (lt x three) one two))))
unfolding page page_start
page_returns x p rest =
    ((running_law (bytes_of page_nodes) [] (bytes_of (7 ∷ [])) 5 (replicate 32 9) (replicate 12 9) (replicate 2 9) page_plain page_accepted
    ).returns (page_start x p (fill ieee rest 0 (number x)) refl) (number (cond (lt x three) one two))).0 (page_value x)

-- ---- NaN: `if x < 1 1 else 2`, x = symbol 7, the smallest rule that shows it

-- the test is false, so the value of the rule is 2
nan_value : value_at ieee rule_tree (λ r. number nan) 4 ≡ evaluates (number two)
unfolding value_at value_below node_value last_named operate ieee_compare on_numbers ieee_test lt of_bits to_bits nan_bits capacity record_at put_record same_words is_at position_from position append word_of words tail bytes_of bit clear flip found allocated freed parameters lookup free take_out put_back smallest_from smallest_free all_free without taken given_back node_word node_at binary_op unary_op emit_instruction store_constant words_of has_destination offset_word reg_of number_of constant_words source same_register name_of materialized lower_materializing moved lower_name binary_sources lower_arguments store_named store_keyed lower_entry lower_entries lower_else lower_tail lower_node test fused_sources fuse jump_node lower_expression lower_jump_if_false lower_jump_if_true expression_below jump_below binary_rr binary_rk binary_kr unary comparison jump_rr jump_rk jump_kr jump_if whole question1 question2 question3 question4 question5 question6 all_below question7 question8 ask_node ask_nodes questions begin lower_root lowered_of lower_checked lower placed registered allocate_temp free_temp destination emit store load_constant put_offset patch_to_next mark patch_argument patch_marks patch_arguments present entry_nodes children bind
nan_value = refl

-- the code returns 1
nan_then : (rest : Registers ieee) → rule_run nan rest 4 ≡ ended (returned (number one))
unfolding rule ieee_compare on_numbers alike ieee_test lt le eq record_in fetch constant_at constant_of target action act step_at machine_step after decode of_bits to_bits nan_bits capacity record_at put_record same_words is_at position_from position append word_of words tail bytes_of bit clear flip found allocated freed parameters lookup free take_out put_back smallest_from smallest_free all_free without taken given_back node_word node_at binary_op unary_op emit_instruction store_constant words_of has_destination offset_word reg_of number_of constant_words source same_register name_of materialized lower_materializing moved lower_name binary_sources lower_arguments store_named store_keyed lower_entry lower_entries lower_else lower_tail lower_node test fused_sources fuse jump_node lower_expression lower_jump_if_false lower_jump_if_true expression_below jump_below binary_rr binary_rk binary_kr unary comparison jump_rr jump_rk jump_kr jump_if whole question1 question2 question3 question4 question5 question6 all_below question7 question8 ask_node ask_nodes questions begin lower_root lowered_of lower_checked lower placed registered allocate_temp free_temp destination emit store load_constant put_offset patch_to_next mark patch_argument patch_marks patch_arguments present entry_nodes children bind
nan_then rest = refl

met_value : {F A : Type 0} {K : A → Type 0} {a : A} → IfAny {F = F} K (evaluates a) → K a
met_value (met k) = k

-- the order premise does not hold there
nan_premise : OrderPremise ieee rule_tree (λ r. number nan) 4 → ⊥
unfolding OrderPremise asks_below node_asks condition_asks_below condition_asks OrderAt value_below node_value last_named operate ieee_compare on_numbers ieee_test is_nan of_bits to_bits nan_bits capacity record_at put_record same_words is_at position_from position append word_of words tail bytes_of bit clear flip found allocated freed parameters lookup free take_out put_back smallest_from smallest_free all_free without taken given_back node_word node_at binary_op unary_op emit_instruction store_constant words_of has_destination offset_word reg_of number_of constant_words source same_register name_of materialized lower_materializing moved lower_name binary_sources lower_arguments store_named store_keyed lower_entry lower_entries lower_else lower_tail lower_node test fused_sources fuse jump_node lower_expression lower_jump_if_false lower_jump_if_true expression_below jump_below binary_rr binary_rk binary_kr unary comparison jump_rr jump_rk jump_kr jump_if whole question1 question2 question3 question4 question5 question6 all_below question7 question8 ask_node ask_nodes questions begin lower_root lowered_of lower_checked lower placed registered allocate_temp free_temp destination emit store load_constant put_offset patch_to_next mark patch_argument patch_marks patch_arguments present entry_nodes children bind
nan_premise h = nan_unordered one (met_value (met_value h.1)).0

-- "With a NaN the then-branch runs, where IEEE 754 says the test is false.": the value of the rule is 2 and its code returns 1, since the premise fails
pub nan_runs_then : (rest : Registers ieee) →
    (OrderPremise ieee rule_tree (λ r. number nan) 4 → ⊥)
    × (value_at ieee rule_tree (λ r. number nan) 4 ≡ evaluates (number two))
    × (rule_run nan rest 4 ≡ ended (returned (number one)))
nan_runs_then rest = (nan_premise, nan_value, nan_then rest)

-- ---- no failure at all: two values, and operators that always answer

and_order : (a b : Bool) → (a && b) ≡ (b && a)
and_order true true = refl
and_order true false = refl
and_order false true = refl
and_order false false = refl

pub unfailing_hypotheses : Hypotheses unfailing
unfailing_hypotheses = record {
  add_order = λ a b. ap val (and_order a b);
  multiply_order = λ a b. ap val (and_order a b);
  equal_order = λ a b. ap val (beq_order a b);
  unequal_opposite = λ a b. refl;
  boolean_tests = λ b. refl;
}

pub unfailing_ordered : (a b : Bool) → Ordered unfailing a b
unfailing_ordered true true = refl
unfailing_ordered true false = refl
unfailing_ordered false true = refl
unfailing_ordered false false = refl

-- ---- the machine at its edges

-- an offset from 2^31 on goes back; a place below 0 is none
pub back_one : target 5 4294967295 ≡ Some 4
unfolding target
back_one = refl

pub below_zero : target 0 4294967295 ≡ None
unfolding target
below_zero = refl

module _ (M : Operators) (pool : List ℕ) (count : ℕ) (R : Registers M) where
  -- where no instruction is, the run ends with neither value nor failure
  pub no_instruction : after M (constant_at M pool count) (fetch [] 7) 1 (Now.at 0 R) ≡ ended lost
  unfolding after machine_step step_at fetch record_in capacity
  no_instruction = refl

  -- so it does at a kind that is none, at a call, and at a constant that is not there
  pub no_kind : after M (constant_at M pool count) (fetch (55 ∷ 0 ∷ 0 ∷ 0 ∷ []) 1) 1 (Now.at 0 R) ≡ ended lost
  unfolding after machine_step step_at fetch record_in capacity record_at decode
  no_kind = refl

  pub no_call : after M (constant_at M pool count) (fetch (39 ∷ 0 ∷ 0 ∷ 0 ∷ []) 1) 1 (Now.at 0 R) ≡ ended lost
  unfolding after machine_step step_at fetch record_in capacity record_at decode action act
  no_call = refl

  pub no_constant : after M (constant_at M [] 7) (fetch (26 ∷ 0 ∷ 0 ∷ 0 ∷ []) 1) 1 (Now.at 0 R) ≡ ended lost
  unfolding after machine_step step_at fetch record_in capacity record_at decode action act constant_at
  no_constant = refl
