-- The walk as a run of steps. A derivation of `Runs` follows the do-blocks of the definition: every step of them is one of the nine below, made
-- under its condition, or a refusal whose own condition holds where it stopped.
use Rattle.std.specs.Prelude.{ℕ, ◌+◌, ◌*◌, ◌-◌, ◌≤◌, ◌<◌, ◌≡◌, ◌≢◌, ◌⊎◌, true, false, cond, [], ◌∷◌, eqb, length, get_or, set, Option, Some, None}
use Rattle.diagnostics.specs.declared.Error.{Error}
use Rattle.diagnostics.specs.declared.Refusal.{Refusal}
use Rattle.words.specs.Records.{capacity, record_at, put_record, max_count}
use Rattle.environment.specs.declared.Register.{Register}
use Rattle.environment.specs.declared.RegisterSet.{RegisterSet}
use Rattle.environment.specs.Registers.{register_count, max_register, held, given_back}
use Rattle.environment.specs.Laws.{Takes}
use Rattle.syntax.specs.declared.ast.Node.{Node}
use Rattle.syntax.specs.Ast.{absent}
use Rattle.runtime.specs.declared.instruction.Instruction.{Instruction}
use Rattle.runtime.specs.declared.operand.Operand.{Operand}
use Rattle.runtime.specs.Value.{constant_width, constant_words, number_of}
use Rattle.runtime.specs.Instruction.{instruction_width, first_jump, last_jump, words_of, has_destination}
use Rattle.runtime.specs.Function.{max_instructions}
use Rattle.runtime.specs.Pool.{Unpooled}
use Rattle.lowering.specs.Tree.{Tree, node, span_start, span_end}
use Rattle.lowering.specs.Walk.{Made, Outcome, ends, stops, Walk, ◌>>=◌, ret, error, unnamed}
use Rattle.lowering.specs.Steps.{with_registers, with_code, with_constants, with_marks, put_offset, allocate_temp, free_temp, emit, store, patch_to_next, mark, patch_argument, patch_marks, patch_arguments}
use Rattle.lowering.specs.Lower.{name_of}
use Rattle.lowering.specs.Meaning.{Reaches}
use Rattle.lowering.specs.Fields.{Narrow}

-- how many instructions, constants and marks are made
abbrev pub instructions_of : Made → ℕ
instructions_of m = m.state.counts.instructions

abbrev pub constants_of : Made → ℕ
constants_of m = m.state.counts.constants

abbrev pub marks_of : Made → ℕ
marks_of m = m.state.marks

abbrev pub registers_of : Made → RegisterSet
registers_of m = m.state.registers

abbrev pub Held : Made → ℕ → Type 0
Held m r = held (registers_of m) r ≡ true

abbrev pub Free : Made → ℕ → Type 0
Free m r = held (registers_of m) r ≡ false

-- the kind of the instruction at a place, and its word 1
abbrev pub kind_at : Made → ℕ → ℕ
kind_at m p = get_or m.code (instruction_width * p) 0

abbrev pub first_field : Made → ℕ → ℕ
first_field m p = get_or m.code (instruction_width * p + 1) 0

-- "the kind 41 to 53": the kinds of jumps
pub record JumpKind (kind : ℕ) : Type 0 where
  pub low : first_jump ≤ kind
  pub high : kind ≤ last_jump

-- "the mark word is its place": every mark names an instruction that is made
abbrev pub Marked : Made → Type 0
Marked m = (k : ℕ) → k < marks_of m → get_or m.marks k 0 < instructions_of m

-- the constant that lowering a node may pool: a literal itself, the name of a name or of a property as a string, the nil of a block without a
-- tail; a node of another kind has none of its own
unfoldable pub constant_of_node : Node → Option Operand
constant_of_node (Node.Number low high) = Some (Operand.Number (number_of low high))
constant_of_node (Node.String symbol) = Some (Operand.String symbol)
constant_of_node (Node.Boolean b) = Some (Operand.Boolean b)
constant_of_node Node.Nil = Some Operand.Nil
constant_of_node (Node.Identifier symbol) = Some (Operand.String symbol)
constant_of_node (Node.Binary operator left right) = None
constant_of_node (Node.Unary operator operand) = None
constant_of_node (Node.LogicalNot operand) = None
constant_of_node (Node.LogicalAnd left right) = None
constant_of_node (Node.LogicalOr left right) = None
constant_of_node (Node.If condition then_branch else_branch) = None
constant_of_node (Node.Block tail) = cond (eqb tail absent) (Some Operand.Nil) None
constant_of_node (Node.FunctionCall callee start count) = None
constant_of_node (Node.PropertyAccess object property) = Some (Operand.String property)
constant_of_node (Node.Map start count) = None

module _ (t : Tree) (root : ℕ) where
  -- a refusal that names a node, with its span: "place, span: the name; likewise at 11, 12 and 15"
  abbrev pub at_node : Refusal → ℕ → Error
  at_node refusal i = error refusal i (span_start t i) (span_end t i)

  -- the constant of a node that the root reaches
  pub record Owned (c : Operand) : Type 0 where
    pub owner : ℕ
    pub reached : Reaches t root owner
    pub its : constant_of_node (node t owner) ≡ Some c

  -- Refusals 9 to 18, each with its place and span, under its own condition: the condition speaks of what was made when the walk stopped.
  pub data Own : Error → Made → Type 0 where
    -- 9: the node is a name that no parameter has
    undeclared : {m : Made} {i symbol : ℕ} → Reaches t root i → node t i ≡ Node.Identifier symbol →
        ((j : ℕ) → j < length t.names → get_or t.names j 0 ≢ symbol) → Own (at_node Refusal.Undeclared i) m
    -- 10: all 256 registers are held
    registers : {m : Made} → ((r : ℕ) → r < register_count → Held m r) → Own (unnamed Refusal.Registers) m
    -- 11: the if has no else
    without_else : {m : Made} {i condition then_branch : ℕ} → Reaches t root i → node t i ≡ Node.If condition then_branch absent → Own (at_node Refusal.Else i) m
    -- 12: the key of entry k of a map is no name, and the entry has no value
    no_value : {m : Made} {i start count : ℕ} (k : ℕ) → Reaches t root i → node t i ≡ Node.Map start count → k < count →
        name_of (node t (get_or t.list (start + 2 * k) 0)) ≡ None → get_or t.list (start + 2 * k + 1) 0 ≡ absent →
        Own (at_node Refusal.Key (get_or t.list (start + 2 * k) 0)) m
    -- 13: the code buffer has no whole record left, or 1,048,576 instructions are made
    code : {m : Made} → (capacity instruction_width m.code ≤ instructions_of m) ⊎ (max_instructions ≤ instructions_of m) → Own (unnamed Refusal.Code) m
    -- 14: a constant of a node is not among those pooled, and the constant buffer has no whole record left (or the pool has 4,294,967,295)
    constants : {m : Made} {c : Operand} → Owned c → Unpooled m.constants c (constants_of m) →
        (capacity constant_width m.constants ≤ constants_of m) ⊎ (max_count ≤ constants_of m) → Own (unnamed Refusal.Constants) m
    -- 15: no instruction is made, and an argument of the call is to be marked
    unmarked : {m : Made} {i callee start count : ℕ} → Reaches t root i → node t i ≡ Node.FunctionCall callee start count → instructions_of m ≡ 0 →
        Own (at_node Refusal.Unmarked i) m
    -- 16: the mark buffer has no word left (or there are 4,294,967,295 marks)
    marks : {m : Made} → (capacity 1 m.marks ≤ marks_of m) ⊎ (max_count ≤ marks_of m) → Own (unnamed Refusal.Marks) m
    -- 17: the instruction that mark k names has no destination that `patch_arguments` lists
    no_destination : {m : Made} (k : ℕ) → k < marks_of m → has_destination (kind_at m (get_or m.marks k 0)) ≡ false →
        Own (error Refusal.Destination (get_or m.marks k 0) 0 0) m
    -- 18: it has one, and its sum with the frame size is above 255
    sum : {m : Made} (k : ℕ) → k < marks_of m → has_destination (kind_at m (get_or m.marks k 0)) ≡ true →
        max_register < first_field m (get_or m.marks k 0) + (registers_of m).frame_size → Own (error Refusal.Sum (get_or m.marks k 0) 0 0) m

  -- What a step of the walk does to what was made, and when.
  pub data Step : (A : Type 0) → Walk A → Made → Outcome A → Type 1 where
    -- a register is taken: the smallest free one
    takes : {m : Made} {s : RegisterSet} {r : ℕ} → Takes (registers_of m) r s → Step Register allocate_temp m (ends (Register.Temp r) (with_registers s m))
    -- a temporary is given back, which is held
    gives : {m : Made} (r : ℕ) → Held m r → Step Unit (free_temp (Register.Temp r)) m (ends tt (with_registers (given_back (registers_of m) r) m))
    -- a local is not given back
    keeps : {m : Made} (r : ℕ) → Step Unit (free_temp (Register.Local r)) m (ends tt m)
    -- an instruction is put after the last, where there is room; its fields fit
    emits : {m : Made} (i : Instruction) → Narrow (constants_of m) (words_of i) → instructions_of m < max_instructions →
        instructions_of m < capacity instruction_width m.code →
        Step ℕ (emit i) m (ends (instructions_of m) (with_code (put_record instruction_width m.code (instructions_of m) (words_of i)) (instructions_of m + 1) m))
    -- a constant is found: the first place with its words is answered
    finds : {m : Made} (c : Operand) {p : ℕ} → p < constants_of m → record_at constant_width m.constants p ≡ constant_words c →
        Unpooled m.constants c p → Step ℕ (store c) m (ends p m)
    -- a constant of a node that is not pooled yet is put after the last, where there is room
    pools : {m : Made} {c : Operand} → Owned c → Unpooled m.constants c (constants_of m) → constants_of m < capacity constant_width m.constants →
        Step ℕ (store c) m
        (ends (constants_of m) (with_constants (put_record constant_width m.constants (constants_of m) (constant_words c)) (constants_of m + 1) m))
    -- a jump that is made gets its offset
    patches : {m : Made} (j : ℕ) → j < instructions_of m → JumpKind (kind_at m j) →
        Step Unit (patch_to_next j) m (ends tt (with_code (put_offset m.code j (instructions_of m - j)) (instructions_of m) m))
    -- the last instruction is marked, where there is one and a word for the mark
    marks : {m : Made} (i start end : ℕ) → 0 < instructions_of m → marks_of m < capacity 1 m.marks →
        Step ℕ (mark i start end) m (ends (marks_of m) (with_marks (put_record 1 m.marks (marks_of m) ((instructions_of m - 1) ∷ [])) (marks_of m + 1) m))
    -- an instruction that is made gets the frame size added to its destination, at most 255
    moves : {m : Made} (place : ℕ) → place < instructions_of m → has_destination (kind_at m place) ≡ true →
        first_field m place + (registers_of m).frame_size ≤ max_register →
        Step Unit (patch_argument place) m
        (ends tt (with_code (set m.code (instruction_width * place + 1) (first_field m place + (registers_of m).frame_size)) (instructions_of m) m))
    -- a refusal: the walk stops with it there, under its own condition, and changes nothing
    refuses : {A : Type 0} {w : Walk A} {m : Made} {e : Error} → w m ≡ stops e m → Own e m → Step A w m (stops e m)

  -- A walk from m that comes to an outcome by such steps, in the order of its do-block.
  pub data Runs : (A : Type 0) → Walk A → Made → Outcome A → Type 1 where
    step : {A : Type 0} {w : Walk A} {m : Made} {o : Outcome A} → Step A w m o → Runs A w m o
    returns : {A : Type 0} {a : A} {m : Made} → Runs A (ret a) m (ends a m)
    -- one walk ends, and the next goes on from there
    follows : {A B : Type 0} {w : Walk A} (k : A → Walk B) {m n : Made} {a : A} {o : Outcome B} → Runs A w m (ends a n) → Runs B (k a) n o → Runs B (w >>= k) m o
    -- or it stops, and with it the whole
    halts : {A B : Type 0} {w : Walk A} (k : A → Walk B) {m n : Made} {e : Error} → Runs A w m (stops e n) → Runs B (w >>= k) m (stops e n)
    -- mark k says which instruction is patched, and how many marks there are says how many are
    reads : {m : Made} (k : ℕ) {o : Outcome Unit} → Runs Unit (patch_argument (get_or m.marks k 0)) m o →
        Runs Unit (λ x. patch_argument (get_or x.marks k 0) x) m o
    counts : {m : Made} {o : Outcome Unit} → Runs Unit (patch_marks (marks_of m) 0) m o → Runs Unit patch_arguments m o
