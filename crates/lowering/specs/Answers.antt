-- Law 1, of the definition: which numbers come back and where, and what is written with each; and of patching.
use Rattle.std.specs.Prelude.{ℕ, ◌≤◌, ◌+◌, ◌*◌, ◌<◌, ◌≡◌, ◌≢◌, List, length, get_or, Some}
use Rattle.diagnostics.specs.declared.Error.{Error}
use Rattle.diagnostics.specs.Refusal.{refusal_number}
use Rattle.words.specs.Words.{words}
use Rattle.words.specs.Records.{capacity}
use Rattle.syntax.specs.declared.ast.Node.{Node}
use Rattle.syntax.specs.Ast.{absent}
use Rattle.runtime.specs.Instruction.{instruction_width, first_jump, last_jump, offset_word}
use Rattle.runtime.specs.Value.{constant_width}
use Rattle.runtime.specs.Function.{max_instructions}
use Rattle.lowering.specs.Tree.{tree_of, node}
use Rattle.lowering.specs.Questions.{Verdict, passed, refused, questions}
use Rattle.lowering.specs.Checked.{AllYes}
use Rattle.lowering.specs.Walk.{Made, ends, stops, made_of}
use Rattle.lowering.specs.Steps.{free_temp}
use Rattle.lowering.specs.Lower.{name_of}
use Rattle.lowering.specs.Result.{Lowered, result, lowered, begin, lower_root, Result}
use Rattle.lowering.specs.Meets.{Meets}
use Rattle.lowering.specs.Trace.{Runs, Own, instructions_of, constants_of, JumpKind, marks_of}

module _ (nodes : List ℕ) (root mode : ℕ) (list names code constants marks : List ℕ) where
  -- nothing made yet but the parameters' registers
  abbrev pub nothing_made : Made
  nothing_made = begin code constants marks 0 (length (words names))

  -- "Refusals 1 to 8 [..] write nothing": every word is as at entry, and both counts are 0
  pub record Untouched (l : Lowered) : Type 0 where
    pub code_same : l.code ≡ code
    pub constants_same : l.constants ≡ constants
    pub marks_same : l.marks ≡ marks
    pub no_instructions : l.result.instructions ≡ 0
    pub no_constants : l.result.constants ≡ 0

  -- "9 to 18 leave what was made up to there": the walk stops with a refusal, under its own condition, and what comes back and what is left are what it had made
  pub record Stopped (l : Lowered) : Type 0 where
    pub error : Error
    pub made : Made
    -- what the walk comes to
    pub is : lower_root free_temp (tree_of nodes list names) mode root nothing_made ≡ stops error made
    pub own : Own (tree_of nodes list names) root error made
    pub shown : l ≡ lowered (result (refusal_number error.refusal) error.place error.start error.end (instructions_of made) (constants_of made) 0 0) made

  -- refusal e is due: every question before the walk is answered yes, and the walk stops with e
  pub record StopsWith (e : Error) : Type 0 where
    pub yes : AllYes nodes list names mode root
    pub made : Made
    pub is : lower_root free_temp (tree_of nodes list names) mode root nothing_made ≡ stops e made

  -- the result has the four numbers of refusal e
  pub record Tells (r : Result) (e : Error) : Type 0 where
    pub number : r.number ≡ refusal_number e.refusal
    pub place : r.place ≡ e.place
    pub start : r.start ≡ e.start
    pub end : r.end ≡ e.end

  -- with 0 no question was answered no: every one before the walk was answered yes, and the walk came to its end
  pub record Ended (l : Lowered) : Type 1 where
    pub yes : AllYes nodes list names mode root
    pub place : ℕ
    pub made : Made
    -- what the walk comes to
    pub is : lower_root free_temp (tree_of nodes list names) mode root nothing_made ≡ ends place made
    pub run : Runs (tree_of nodes list names) root ℕ
        (lower_root free_temp (tree_of nodes list names) mode root) nothing_made (ends place made)
    -- 9: every name that the walk met is a parameter's
    pub declared : (i symbol : ℕ) → Meets (tree_of nodes list names) root i → node (tree_of nodes list names) i ≡ Node.Identifier symbol →
        (j : ℕ) × (j < length (words names)) × (get_or (words names) j 0 ≡ symbol)
    -- 11: every if has an else
    pub has_else : (i c a b : ℕ) → Meets (tree_of nodes list names) root i → node (tree_of nodes list names) i ≡ Node.If c a b → b ≢ absent
    -- 12: every key without a value is a name
    pub has_name : (i first count : ℕ) → Meets (tree_of nodes list names) root i → node (tree_of nodes list names) i ≡ Node.Map first count → (k : ℕ) → k < count →
        get_or (words list) (first + 2 * k + 1) 0 ≡ absent → (name : ℕ) × (name_of (node (tree_of nodes list names) (get_or (words list) (first + 2 * k) 0)) ≡ Some name)
    pub shown : l ≡ lowered (result 0 place 0 0 (instructions_of made) (constants_of made) made.state.registers.frame_size (length (words names))) made

  -- how many marks were made (the result does not say it); 0 if the walk did not start
  abbrev pub marks_made : Verdict → ℕ
  marks_made passed = marks_of (made_of (lower_root free_temp (tree_of nodes list names) mode root nothing_made))
  marks_made (refused r place) = 0

  abbrev pub mark_count : ℕ
  mark_count = marks_made (questions nodes list names mode root)

  -- "and nothing beyond": every word past the counts is as at entry, and the counts fit the buffers
  pub record Within (l : Lowered) : Type 0 where
    pub code_length : length l.code ≡ length code
    pub constants_length : length l.constants ≡ length constants
    pub marks_length : length l.marks ≡ length marks
    pub code_past : (i : ℕ) → instruction_width * l.result.instructions ≤ i → get_or l.code i 0 ≡ get_or code i 0
    pub constants_past : (i : ℕ) → constant_width * l.result.constants ≤ i → get_or l.constants i 0 ≡ get_or constants i 0
    pub code_fits : l.result.instructions ≤ capacity instruction_width code
    pub code_few : l.result.instructions ≤ max_instructions
    pub constants_fit : l.result.constants ≤ capacity constant_width constants
    pub marks_past : (i : ℕ) → mark_count ≤ i → get_or l.marks i 0 ≡ get_or marks i 0
    pub marks_fit : mark_count ≤ capacity 1 marks

-- ---- Patching

module _ (words : List ℕ) (count index offset : ℕ) where
  abbrev pub kind : ℕ
  kind = get_or words (instruction_width * index) 0

  -- what is asked: an index below the count, a count within the buffer, a jump
  pub record MayPatch : Type 0 where
    pub below : index < count
    pub within_buffer : count ≤ capacity instruction_width words
    pub jump : JumpKind kind

  -- 19 exactly where the index is not below the count, the count is not within the buffer, or the kind is not 41 to 53
  pub data MayNot : Type 0 where
    index_past : count ≤ index → MayNot
    count_past : capacity instruction_width words < count → MayNot
    kind_below : kind < first_jump → MayNot
    kind_past : last_jump < kind → MayNot

  -- with 0 exactly one word changes, the offset of a jump
  pub record OneWord (after : List ℕ) : Type 0 where
    pub same_length : length after ≡ length words
    pub jump : JumpKind kind
    pub inside : instruction_width * index + offset_word kind < length words
    pub set_there : get_or after (instruction_width * index + offset_word kind) 0 ≡ offset
    pub others : (i : ℕ) → i ≢ instruction_width * index + offset_word kind → get_or after i 0 ≡ get_or words i 0
