-- The whole of lowering, and patching: what comes back, and what is left in the buffers.
use Rattle.std.specs.Prelude.{ℕ, zero, suc, ◌*◌, List, [], ◌∷◌, Bool, cond, ◌&&◌, leb, ltb, length, get_or, None}
use Rattle.diagnostics.specs.declared.Refusal.{Refusal}
use Rattle.diagnostics.specs.Refusal.{refusal_number}
use Rattle.words.specs.Records.{capacity}
use Rattle.environment.specs.declared.Register.{Register}
use Rattle.environment.specs.Environment.{parameters}
use Rattle.runtime.specs.declared.instruction.Instruction.{Instruction}
use Rattle.runtime.specs.Operands.{reg_of}
use Rattle.runtime.specs.Instruction.{instruction_width, first_jump, last_jump}
use Rattle.lowering.specs.Tree.{Tree, tree_of}
use Rattle.lowering.specs.Questions.{Verdict, passed, refused, questions}
use Rattle.lowering.specs.Walk.{Made, made, Outcome, ends, stops, Walk, ◌>>=◌, ◌>>◌, ret}
use Rattle.lowering.specs.Steps.{free_temp, emit, patch_arguments, put_offset}
use Rattle.lowering.specs.Lower.{lower_materializing, lower_expression, lower_jump_if_false, lower_jump_if_true}

-- "Result: number (0 accepted), place, span start, span end, instructions, constants, frame size, arity."
pub record Result : Type 0 where
  pub number : ℕ
  pub place : ℕ
  pub start : ℕ
  pub end : ℕ
  pub instructions : ℕ
  pub constants : ℕ
  pub frame_size : ℕ
  pub arity : ℕ

-- these numbers in this order: as they are printed, and as a caller in C finds them
abbrev pub numbers_of : Result → List ℕ
numbers_of r = r.number ∷ r.place ∷ r.start ∷ r.end ∷ r.instructions ∷ r.constants ∷ r.frame_size ∷ r.arity ∷ []

-- the eight numbers, and the words of the three buffers
pub record Lowered : Type 0 where
  pub result : Result
  pub code : List ℕ
  pub constants : List ℕ
  pub marks : List ℕ

-- nothing made yet but the parameters' registers; the pool may hold constants already
unfoldable pub begin : List ℕ → List ℕ → List ℕ → ℕ → ℕ → Made
begin code constants marks pooled arity = made code constants marks (record { registers = parameters arity; counts = record { instructions = 0; constants = pooled }; marks = 0 })

-- "Modes: 0 value, 1 jump if false, 2 jump if true." It answers the jump's place; in mode 0, which has no jump, 0. A mode past
-- 2, which question 2 refuses, reads as 2.
unfoldable pub lower_root : (Register → Walk Unit) → Tree → ℕ → ℕ → Walk ℕ
lower_root give_back t zero root = do
  src ← lower_materializing (lower_expression give_back t root) None
  emit (Instruction.Return (reg_of src))
  patch_arguments
  ret 0
lower_root give_back t (suc zero) root = do
  jump ← lower_jump_if_false give_back t root
  patch_arguments
  ret jump
lower_root give_back t (suc (suc mode)) root = do
  jump ← lower_jump_if_true give_back t root
  patch_arguments
  ret jump

abbrev pub result : ℕ → ℕ → ℕ → ℕ → ℕ → ℕ → ℕ → ℕ → Result
result number place start end instructions constants frame_size arity =
    record {
      number = number;
      place = place;
      start = start;
      end = end;
      instructions = instructions;
      constants = constants;
      frame_size = frame_size;
      arity = arity;
    }

abbrev pub lowered : Result → Made → Lowered
lowered r m = record { result = r; code = m.code; constants = m.constants; marks = m.marks }

-- "In modes 1 and 2 an accepted place is the jump's; otherwise 0." "On refusal the last two are 0."
unfoldable pub lowered_of : ℕ → Outcome ℕ → Lowered
lowered_of arity (ends place m) = lowered (result 0 place 0 0 m.state.counts.instructions m.state.counts.constants m.state.registers.frame_size arity) m
lowered_of arity (stops e m) = lowered (result (refusal_number e.refusal) e.place e.start e.end m.state.counts.instructions m.state.counts.constants 0 0) m

-- "Before the walk [..]; counts are 0": nothing is written
unfoldable pub lower_checked : (Register → Walk Unit) → Verdict → Tree → ℕ → ℕ → Made → Lowered
lower_checked give_back passed t mode root m = lowered_of (length t.names) (lower_root give_back t mode root m)
lower_checked give_back (refused refusal place) t mode root m = lowered (result (refusal_number refusal) place 0 0 0 0 0 0) m

-- Lowering. `give_back` gives a register back; the tree is given in bytes, the buffers in words.
abbrev pub lower_by : (Register → Walk Unit) → List ℕ → ℕ → ℕ → List ℕ → List ℕ → List ℕ → List ℕ → List ℕ → Lowered
lower_by give_back nodes root mode list names code constants marks =
    let t : Tree = tree_of nodes list names in
    lower_checked give_back (questions nodes list names mode root) t mode root (begin code constants marks 0 (length t.names))

-- Lowering.
unfoldable pub lower : List ℕ → ℕ → ℕ → List ℕ → List ℕ → List ℕ → List ℕ → List ℕ → Lowered
lower nodes root mode list names code constants marks = lower_by free_temp nodes root mode list names code constants marks

-- "Patching answers 0 or 19 alone. 19: Is the index below the count, the count within the buffer, the kind 41 to 53? Only the offset word changes."
unfoldable pub can_patch : List ℕ → ℕ → ℕ → Bool
can_patch code count index =
    ltb index count && leb count (capacity instruction_width code)
    && leb first_jump (get_or code (instruction_width * index) 0) && leb (get_or code (instruction_width * index) 0) last_jump

pub record JumpPatched : Type 0 where
  pub number : ℕ
  pub code : List ℕ

unfoldable pub patch_jump : List ℕ → ℕ → ℕ → ℕ → JumpPatched
patch_jump code count index offset =
    cond (can_patch code count index)
    (record { number = 0; code = put_offset code index offset })
    (record { number = refusal_number Refusal.Jump; code = code })
