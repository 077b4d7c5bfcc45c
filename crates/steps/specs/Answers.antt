-- What a word of the walk means: a register, a destination, an operand, an answer. A contract of the walk equates the definition's outcome with what `seen` makes
-- of the program's answer: whether it ended or stopped, with what, and all that is left.
use Rattle.std.specs.Prelude.{ℕ, ◌+◌, ◌*◌, ◌-◌, ◌/◌, ◌%◌, ◌≤◌, ◌<◌, ◌≡◌, ◌⊎◌, Bool, true, false, cond, [], ◌∷◌, leb, ltb, eqb, get_or, Option, Some, None, Result, Ok, Err}
use Rattle.diagnostics.specs.declared.Refusal.{Refusal}
use Rattle.diagnostics.specs.declared.Error.{Error}
use Rattle.diagnostics.specs.Refusal.{refusal_number}
pub use Rattle.words.specs.Words.{word_end}
use Rattle.environment.specs.declared.Register.{Register}
use Rattle.environment.specs.declared.RegisterSet.{RegisterSet}
use Rattle.environment.specs.Registers.{register_count, all_free}
use Rattle.syntax.specs.declared.ast.Node.{Node}
use Rattle.runtime.specs.declared.operand.Operand.{Operand}
use Rattle.lowering.specs.declared.State.{State}
use Rattle.lowering.specs.declared.Counts.{Counts}
use Rattle.steps.specs.declared.sources.Sources.{Sources}
use Rattle.lowering.specs.Tree.{Tree, span_start, span_end}
use Rattle.lowering.specs.Walk.{Made, Outcome, ends, stops, error}
use Rattle.lowering.specs.Steps.{with_registers}
use Rattle.lowering.specs.Literals.{literal}
use Rattle.lowering.specs.Lower.{Source, register, constant}

-- a register: a temporary's number, or a local's and 256 more
unfoldable pub register_at : ℕ → Register
register_at w = cond (ltb w register_count) (Register.Temp w) (Register.Local (w % register_count))

-- the word where there is no register; the words of the registers are those below `any`
abbrev pub none : ℕ
none = 4294967295

abbrev pub any : ℕ
any = 512

-- a destination: none is given, and any register will do; or the register of a word
abbrev pub dest_of : Option ℕ → Option Register
dest_of None = None
dest_of (Some w) = Some (register_at w)

-- the word of a destination that is given is a register's
abbrev pub Aimed : Option ℕ → Type 0
Aimed None = Unit
Aimed (Some w) = w < any

-- the number of a register that was taken, or `none`
unfoldable pub number_at : Result ℕ Refusal → ℕ
number_at (Ok r) = r
number_at (Err refusal) = none

-- the word of an operand that is in no register: the node is a literal, which is not pooled yet
abbrev pub literal_word : ℕ
literal_word = 1024

-- an operand of a node: its literal, or a register
unfoldable pub operand_at : Node → ℕ → Operand
operand_at n w = cond (eqb w literal_word) (literal n) (Operand.Register (register_at w))

-- where an operand is: the constant c, or a register
unfoldable pub source_at : Operand → ℕ → Source
source_at c w = cond (eqb w literal_word) (constant c) (register (register_at w))

-- the first and the second of the two sources of an operator
abbrev pub first_source : Sources → Source
first_source (Sources.RR a b) = register (register_at a)
first_source (Sources.RK a c) = register (register_at a)
first_source (Sources.KR c b) = constant c

abbrev pub second_source : Sources → Source
second_source (Sources.RR a b) = register (register_at b)
second_source (Sources.RK a c) = constant c
second_source (Sources.KR c b) = register (register_at b)

-- An answer of 64 bits: a word; from 2^63 on a refusal, with its number above the place
abbrev pub refusal_start : ℕ
refusal_start = 9223372036854775808

unfoldable pub refusal_at : Refusal → ℕ → ℕ
refusal_at refusal place = refusal_start + word_end * refusal_number refusal + place

unfoldable pub is_refusal : ℕ → Bool
is_refusal a = leb refusal_start a

abbrev pub value_of : ℕ → ℕ
value_of a = a % word_end

abbrev pub number_of_refusal : ℕ → ℕ
number_of_refusal a = (a - refusal_start) / word_end

-- the refusals by their numbers, from 1 on
unfoldable pub refusal_of : ℕ → Refusal
refusal_of n =
    get_or
    (Refusal.Size ∷ Refusal.Size ∷ Refusal.Root ∷ Refusal.Kind ∷ Refusal.Unused ∷ Refusal.Number ∷ Refusal.List ∷ Refusal.Order ∷ Refusal.Parameters
    ∷ Refusal.Undeclared ∷ Refusal.Registers ∷ Refusal.Else ∷ Refusal.Key ∷ Refusal.Code ∷ Refusal.Constants ∷ Refusal.Unmarked ∷ Refusal.Marks
    ∷ Refusal.Destination ∷ Refusal.Sum ∷ Refusal.Jump ∷ [])
    n Refusal.Jump

-- "place, span: the name; likewise at 11, 12 and 15": whether a refusal names a node
unfoldable pub names_node : Refusal → Bool
names_node Refusal.Size = false
names_node Refusal.Root = false
names_node Refusal.Kind = false
names_node Refusal.Unused = false
names_node Refusal.Number = false
names_node Refusal.List = false
names_node Refusal.Order = false
names_node Refusal.Parameters = false
names_node Refusal.Undeclared = true
names_node Refusal.Registers = false
names_node Refusal.Else = true
names_node Refusal.Key = true
names_node Refusal.Code = false
names_node Refusal.Constants = false
names_node Refusal.Unmarked = true
names_node Refusal.Marks = false
names_node Refusal.Destination = false
names_node Refusal.Sum = false
names_node Refusal.Jump = false

-- a refusal at a place, with the span of the node that it names
unfoldable pub error_at : Tree → Refusal → ℕ → Error
error_at t refusal place = cond (names_node refusal) (error refusal place (span_start t place) (span_end t place)) (error refusal place 0 0)

-- after a refusal it does not matter which registers are held: nothing is taken any more, and no number and no byte shows them
abbrev pub settle : Made → Made
settle m = with_registers all_free m

unfoldable pub settled : {A : Type 0} → Outcome A → Outcome A
settled (ends x m) = ends x m
settled (stops e m) = stops e (settle m)

-- an answer and what is left, as an outcome; `gives` reads the word. Numbers that are no `WalkAnswer` may be read alike.
unfoldable pub seen : {A : Type 0} → Tree → (ℕ → A) → Made → ℕ → Outcome A
seen t gives m a = cond (is_refusal a) (stops (error_at t (refusal_of (number_of_refusal a)) (value_of a)) (settle m)) (ends (gives (value_of a)) m)

-- the answers of a step, by the words that it may give: one of these, or a refusal at a place
pub data WalkAnswer (Given : ℕ → Type 0) : ℕ → Type 0 where
  word : {w : ℕ} → Given w → w < word_end → WalkAnswer Given w
  refusal : (why : Refusal) {place : ℕ} → place < word_end → WalkAnswer Given (refusal_at why place)

-- words that are told apart by what they give
abbrev pub ToldApart : {A : Type 0} → (ℕ → Type 0) → (ℕ → A) → Type 0
ToldApart Given gives = (v w : ℕ) → Given v → Given w → gives v ≡ gives w → v ≡ w

-- a place is the word itself; a step that gives nothing answers any word
abbrev pub place_at : ℕ → ℕ
place_at w = w

abbrev pub unit_at : ℕ → Unit {0}
unit_at w = tt

-- the node that is left to the walk, 2^32 and the node: nothing was done
unfoldable pub is_inner : ℕ → Bool
is_inner a = eqb (a / word_end) 1

-- the state with these counts of instructions and constants
abbrev pub state_of : RegisterSet → Counts → ℕ → State
state_of registers counts marks = record { registers = registers; counts = counts; marks = marks }

-- an answer that is a refusal, or the register d
abbrev pub DestOrRefusal : ℕ → ℕ → Type 0
DestOrRefusal d a = (refusal_start ≤ a) ⊎ (a ≡ d)

-- an answer that is a refusal, or a register
abbrev pub RegisterOrRefusal : ℕ → Type 0
RegisterOrRefusal a = (refusal_start ≤ a) ⊎ (a < any)

-- an answer that is a refusal, or a word
abbrev pub WordOrRefusal : ℕ → Type 0
WordOrRefusal a = (refusal_start ≤ a) ⊎ (a < word_end)
