-- Examples that are run or refuted by name: the worked page of document 01, the smallest rule that shows what a NaN does, conditions of one jump, and what
-- lowering or patching leaves with any word or number put in its place.
use Rattle.std.specs.Prelude.{ℕ, List, [], ◌∷◌, Float, set, replicate, Option}
use Rattle.diagnostics.specs.declared.Error.{Error}
use Rattle.words.specs.Words.{bytes_of}
use Rattle.environment.specs.declared.Register.{Register}
use Rattle.environment.specs.Registers.{without}
use Rattle.runtime.specs.declared.operand.Operand.{Operand}
use Rattle.runtime.specs.Value.{number_of}
use Rattle.lowering.specs.Tree.{tree_of, Tree}
use Rattle.lowering.specs.Walk.{ends, Walk}
use Rattle.lowering.specs.Steps.{with_registers}
use Rattle.lowering.specs.Result.{Lowered, result, lower}
use Rattle.lowering.specs.Machine.{fetch, constant_at, Registers, Now, fill, after}
use Rattle.lowering.specs.Trace.{registers_of}
use Rattle.lowering.specs.Answers.{Untouched, Stopped, StopsWith, Tells, Ended, Within}
use Rattle.lowering.specs.Frame.{Frames}
use Rattle.lowering.specs.Pool.{Fit}
use Rattle.lowering.specs.Instance.{number, ieee}

-- ---- the worked page: `if flow < 3 1 else 2`, flow = symbol 7

abbrev pub page_nodes : List ℕ
page_nodes =
    4 ∷ 7 ∷ 0 ∷ 0 ∷ 0 ∷ 0
    ∷ 0 ∷ 0 ∷ 1074266112 ∷ 0 ∷ 0 ∷ 0
    ∷ 5 ∷ 9 ∷ 0 ∷ 1 ∷ 0 ∷ 0
    ∷ 0 ∷ 0 ∷ 1072693248 ∷ 0 ∷ 0 ∷ 0
    ∷ 0 ∷ 0 ∷ 1073741824 ∷ 0 ∷ 0 ∷ 0
    ∷ 10 ∷ 2 ∷ 3 ∷ 4 ∷ 0 ∷ 0 ∷ []

abbrev pub page_names : List ℕ
page_names = bytes_of (7 ∷ [])

abbrev pub page_tree : Tree
page_tree = tree_of (bytes_of page_nodes) [] page_names

-- what lowering leaves of it, in buffers of any words with room for eight instructions, four constants and two marks
unfoldable pub page : Lowered
page = lower (bytes_of page_nodes) 5 0 [] (bytes_of (7 ∷ [])) (replicate 32 9) (replicate 12 9) (replicate 2 9)

-- a run of it under IEEE 754, with flow and any other registers
abbrev pub page_run : Float → Registers ieee → ℕ → Now ieee
page_run x rest n =
    after ieee (constant_at ieee page.constants page.result.constants) (fetch page.code page.result.instructions) n
    (Now.at 0 (fill ieee rest 0 (ieee.number x)))

-- 1, 2, 3 and 5 by their bits
abbrev pub one : Float
one = number_of 0 1072693248

abbrev pub two : Float
two = number_of 0 1073741824

abbrev pub three : Float
three = number_of 0 1074266112

abbrev pub five : Float
five = number_of 0 1075052544

-- ---- NaN: `if x < 1 1 else 2`, x = symbol 7, the smallest rule that shows it

abbrev pub rule_nodes : List ℕ
rule_nodes =
    4 ∷ 7 ∷ 0 ∷ 0 ∷ 0 ∷ 0
    ∷ 0 ∷ 0 ∷ 1072693248 ∷ 0 ∷ 0 ∷ 0
    ∷ 5 ∷ 9 ∷ 0 ∷ 1 ∷ 0 ∷ 0
    ∷ 0 ∷ 0 ∷ 1073741824 ∷ 0 ∷ 0 ∷ 0
    ∷ 10 ∷ 2 ∷ 1 ∷ 3 ∷ 0 ∷ 0 ∷ []

abbrev pub rule_tree : Tree
rule_tree = tree_of (bytes_of rule_nodes) [] (bytes_of (7 ∷ []))

unfoldable pub rule : Lowered
rule = lower (bytes_of rule_nodes) 4 0 [] (bytes_of (7 ∷ [])) (replicate 32 9) (replicate 12 9) (replicate 2 9)

abbrev pub rule_run : Float → Registers ieee → ℕ → Now ieee
rule_run x rest n =
    after ieee (constant_at ieee rule.constants rule.result.constants) (fetch rule.code rule.result.instructions) n
    (Now.at 0 (fill ieee rest 0 (number x)))

-- ---- one jump

-- what is left by a rule whose code is one jump, at place 0; the place after the code is 1
abbrev pub one_jump : List ℕ → Lowered
one_jump code = record { result = result 0 0 0 0 1 0 2 2; code = code; constants = []; marks = [] }

-- x, and x < y: parameters 7 and 8
abbrev pub one_name : Tree
one_name = record { nodes = 4 ∷ 7 ∷ 0 ∷ 0 ∷ 0 ∷ 0 ∷ []; list = []; names = 7 ∷ 8 ∷ [] }

abbrev pub less_of_names : Tree
less_of_names = record { nodes = 4 ∷ 7 ∷ 0 ∷ 0 ∷ 0 ∷ 0 ∷ 4 ∷ 8 ∷ 0 ∷ 0 ∷ 0 ∷ 0 ∷ 5 ∷ 9 ∷ 0 ∷ 1 ∷ 0 ∷ 0 ∷ []; list = []; names = 7 ∷ 8 ∷ [] }

-- ---- what is left of the worked page, as `Cases` has it, in buffers whose words are 9

abbrev pub page_code : List ℕ
page_code = 49 ∷ 0 ∷ 0 ∷ 3 ∷ 26 ∷ 1 ∷ 1 ∷ 0 ∷ 41 ∷ 2 ∷ 0 ∷ 0 ∷ 26 ∷ 1 ∷ 2 ∷ 0 ∷ 40 ∷ 1 ∷ 0 ∷ 0 ∷ replicate 12 9

abbrev pub page_constants : List ℕ
page_constants = 2 ∷ 0 ∷ 1074266112 ∷ 2 ∷ 0 ∷ 1072693248 ∷ 2 ∷ 0 ∷ 1073741824 ∷ replicate 3 9

-- with any instructions, constants and frame size, and any words
abbrev pub page_with : ℕ → ℕ → ℕ → List ℕ → List ℕ → Lowered
page_with instructions constants frame_size code pool =
    record { result = result 0 0 0 0 instructions constants frame_size 1; code = code; constants = pool; marks = replicate 2 9 }

-- what the laws say of the page, by what is left
abbrev pub EndedOf : Lowered → Type 1
EndedOf = Ended (bytes_of page_nodes) 5 0 [] page_names (replicate 32 9) (replicate 12 9) (replicate 2 9)

abbrev pub WithinOf : Lowered → Type 0
WithinOf = Within (bytes_of page_nodes) 5 0 [] page_names (replicate 32 9) (replicate 12 9) (replicate 2 9)

abbrev pub FramesOf : Lowered → Type 1
FramesOf = Frames (bytes_of page_nodes) 5 0 [] page_names (replicate 32 9) (replicate 12 9) (replicate 2 9)

abbrev pub FitOf : Lowered → Type 0
FitOf = Fit (bytes_of page_nodes) 5 0 [] page_names (replicate 32 9) (replicate 12 9) (replicate 2 9)

-- ---- 3: the worked page with kind 15 at node 1

abbrev pub wrong_kind : List ℕ
wrong_kind = bytes_of (set page_nodes 6 15)

-- what is left of it, with any counts and words
abbrev pub refused_with : ℕ → ℕ → List ℕ → List ℕ → List ℕ → Lowered
refused_with instructions constants code pool marks = record { result = result 3 1 0 0 instructions constants 0 0; code = code; constants = pool; marks = marks }

abbrev pub UntouchedOf : Lowered → Type 0
UntouchedOf = Untouched wrong_kind 5 0 [] page_names (replicate 32 9) (replicate 12 9) (replicate 2 9)

-- ---- 11: `if x 1`, no else (x alone), node 2, its span 11 to 12

abbrev pub no_else : List ℕ
no_else = 4 ∷ 7 ∷ 0 ∷ 0 ∷ 0 ∷ 0 ∷ 0 ∷ 0 ∷ 1072693248 ∷ 0 ∷ 0 ∷ 0 ∷ 10 ∷ 0 ∷ 1 ∷ 4294967295 ∷ 11 ∷ 12 ∷ []

abbrev pub no_else_code : List ℕ
no_else_code = 42 ∷ 0 ∷ 3 ∷ 0 ∷ 26 ∷ 1 ∷ 0 ∷ 0 ∷ 41 ∷ 0 ∷ 0 ∷ 0 ∷ replicate 20 9

-- what is left of it, with any number, place, span end and code
abbrev pub no_else_with : ℕ → ℕ → ℕ → List ℕ → Lowered
no_else_with refusal place end code = record {
  result = result refusal place 11 end 3 1 0 0;
  code = code;
  constants = 2 ∷ 0 ∷ 1072693248 ∷ replicate 9 9;
  marks = replicate 2 9;
}

abbrev pub StoppedOf : Lowered → Type 0
StoppedOf = Stopped (bytes_of no_else) 2 0 [] page_names (replicate 32 9) (replicate 12 9) (replicate 2 9)

abbrev pub StopsWithOf : Error → Type 0
StopsWithOf = StopsWith (bytes_of no_else) 2 0 [] page_names (replicate 32 9) (replicate 12 9) (replicate 2 9)

-- its right numbers, and any refusal
abbrev pub TellsOf : Error → Type 0
TellsOf = Tells (bytes_of no_else) 2 0 [] page_names (replicate 32 9) (replicate 12 9) (replicate 2 9) (result 11 2 11 12 3 1 0 0)

-- ---- patching: a jump at 0, whose offset is word 1, and a Return at 1

abbrev pub jump_return : List ℕ
jump_return = 41 ∷ 0 ∷ 0 ∷ 0 ∷ 40 ∷ 1 ∷ 0 ∷ 0 ∷ []

-- ---- a walk that takes register 1 for a literal, whatever is free: node 0 of a tree of no words reads as the number 0

abbrev pub no_words : Tree
no_words = record { nodes = []; list = []; names = [] }

abbrev pub takes_one : ℕ → Option Register → Walk Operand
takes_one i dest m = ends (Operand.Register (Register.Temp 1)) (with_registers (without (registers_of m) 1) m)

-- ---- x + y: parameters 7 and 8

abbrev pub sum_of_names : Tree
sum_of_names = record {
  nodes = 4 ∷ 7 ∷ 0 ∷ 0 ∷ 0 ∷ 0 ∷ 4 ∷ 8 ∷ 0 ∷ 0 ∷ 0 ∷ 0 ∷ 5 ∷ 0 ∷ 0 ∷ 1 ∷ 0 ∷ 0 ∷ [];
  list = [];
  names = 7 ∷ 8 ∷ [];
}
