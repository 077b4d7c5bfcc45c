-- "The machine is fed code, constants and parameters. The parameters fill registers 0 upward, anything the rest; its place starts at 0. Each
-- step runs the instruction there, then goes one on or jumps." It reads the words of the code and of the pool.
use Rattle.std.specs.Prelude.{ℕ, zero, suc, ◌+◌, ◌-◌, List, [], ◌∷◌, Bool, true, false, cond, not, ◌&&◌, leb, ltb, eqb, get_or, Option, Some, None}
use Rattle.std.specs.Bool.{beq}
use Rattle.words.specs.Words.{word_end}
use Rattle.words.specs.Records.{capacity, record_at}
use Rattle.runtime.specs.declared.instruction.Instruction.{Instruction}
use Rattle.runtime.specs.Instruction.{instruction_width, offset_end, decode}
use Rattle.runtime.specs.Value.{constant_width, number_of}
use Rattle.lowering.specs.Meaning.{Answer, val, fail, Unary, negate, deref, invert, Binary, add, subtract, multiply, divide, modulo, property, Compare, equal, unequal, less, less_equal, Operators, truth}

-- what an instruction reads: a register, or a constant of the pool
pub data Input : Type 0 where
  register : ℕ → Input
  pooled : ℕ → Input

-- what the machine does at an instruction
pub data Action : Type 0 where
  -- "LoadConst and Move fill their destination"
  copy : ℕ → Input → Action
  -- "an operator's instruction fills its own with the operator's answer for its operands, src1 before src2"
  change : ℕ → Unary → Input → Action
  combine : ℕ → Binary → Input → Input → Action
  decide : ℕ → Compare → Input → Input → Action
  jump : ℕ → Action
  -- "JumpIfFalse and JumpIfTrue test a register and jump on false or on true"
  jump_on : Bool → Input → ℕ → Action
  -- "a fused jump compares and jumps on true"
  compare_jump : Compare → Input → Input → ℕ → Action
  -- "Return ends the run with its register's value"
  return : ℕ → Action
  -- any other instruction
  other : Action

-- In RK and K instructions src2 is a constant, in KR instructions src1. "In the KR jumps `src2` is declared before `src1`."
unfoldable pub action : Instruction → Action
action (Instruction.Add dest src1 src2) = combine dest add (register src1) (register src2)
action (Instruction.AddK dest src1 src2) = combine dest add (register src1) (pooled src2)
action (Instruction.Subtract dest src1 src2) = combine dest subtract (register src1) (register src2)
action (Instruction.SubtractRK dest src1 src2) = combine dest subtract (register src1) (pooled src2)
action (Instruction.SubtractKR dest src1 src2) = combine dest subtract (pooled src1) (register src2)
action (Instruction.Multiply dest src1 src2) = combine dest multiply (register src1) (register src2)
action (Instruction.MultiplyK dest src1 src2) = combine dest multiply (register src1) (pooled src2)
action (Instruction.Divide dest src1 src2) = combine dest divide (register src1) (register src2)
action (Instruction.DivideRK dest src1 src2) = combine dest divide (register src1) (pooled src2)
action (Instruction.DivideKR dest src1 src2) = combine dest divide (pooled src1) (register src2)
action (Instruction.Modulo dest src1 src2) = combine dest modulo (register src1) (register src2)
action (Instruction.ModuloRK dest src1 src2) = combine dest modulo (register src1) (pooled src2)
action (Instruction.ModuloKR dest src1 src2) = combine dest modulo (pooled src1) (register src2)
action (Instruction.Equal dest src1 src2) = decide dest equal (register src1) (register src2)
action (Instruction.EqualK dest src1 src2) = decide dest equal (register src1) (pooled src2)
action (Instruction.NotEqual dest src1 src2) = decide dest unequal (register src1) (register src2)
action (Instruction.NotEqualK dest src1 src2) = decide dest unequal (register src1) (pooled src2)
action (Instruction.Less dest src1 src2) = decide dest less (register src1) (register src2)
action (Instruction.LessRK dest src1 src2) = decide dest less (register src1) (pooled src2)
action (Instruction.LessKR dest src1 src2) = decide dest less (pooled src1) (register src2)
action (Instruction.LessEqual dest src1 src2) = decide dest less_equal (register src1) (register src2)
action (Instruction.LessEqualRK dest src1 src2) = decide dest less_equal (register src1) (pooled src2)
action (Instruction.LessEqualKR dest src1 src2) = decide dest less_equal (pooled src1) (register src2)
action (Instruction.Not dest src) = change dest invert (register src)
action (Instruction.Negate dest src) = change dest negate (register src)
action (Instruction.Move dest src) = copy dest (register src)
action (Instruction.LoadConst dest src) = copy dest (pooled src)
action (Instruction.CreateMap dest) = other
action (Instruction.SetProperty object key value) = other
action (Instruction.SetPropertyRK object key value) = other
action (Instruction.SetPropertyKR object key value) = other
action (Instruction.SetPropertyKK object key value) = other
action (Instruction.GetProperty dest object key) = combine dest property (register object) (register key)
action (Instruction.GetPropertyK dest object key) = combine dest property (register object) (pooled key)
action (Instruction.SetElement object key value) = other
action (Instruction.CreateClosure dest captures src) = other
action (Instruction.CreateRef dest src) = other
action (Instruction.DerefSet dest src) = other
action (Instruction.Deref dest src) = change dest deref (register src)
action (Instruction.Call dest src arity) = other
action (Instruction.Return src) = return src
action (Instruction.Jump offset) = jump offset
action (Instruction.JumpIfFalse src offset) = jump_on false (register src) offset
action (Instruction.JumpIfTrue src offset) = jump_on true (register src) offset
action (Instruction.JumpIfLess src1 src2 offset) = compare_jump less (register src1) (register src2) offset
action (Instruction.JumpIfLessRK src1 src2 offset) = compare_jump less (register src1) (pooled src2) offset
action (Instruction.JumpIfLessKR src2 src1 offset) = compare_jump less (pooled src1) (register src2) offset
action (Instruction.JumpIfLessEqual src1 src2 offset) = compare_jump less_equal (register src1) (register src2) offset
action (Instruction.JumpIfLessEqualRK src1 src2 offset) = compare_jump less_equal (register src1) (pooled src2) offset
action (Instruction.JumpIfLessEqualKR src2 src1 offset) = compare_jump less_equal (pooled src1) (register src2) offset
action (Instruction.JumpIfEqual src1 src2 offset) = compare_jump equal (register src1) (register src2) offset
action (Instruction.JumpIfEqualK src1 src2 offset) = compare_jump equal (register src1) (pooled src2) offset
action (Instruction.JumpIfNotEqual src1 src2 offset) = compare_jump unequal (register src1) (register src2) offset
action (Instruction.JumpIfNotEqualK src1 src2 offset) = compare_jump unequal (register src1) (pooled src2) offset
action (Instruction.CaptureValue src) = other

-- "A jump goes to its own place plus its offset." "An offset is a two's-complement word": from 2^31 on it is negative, and a place below 0 is none.
unfoldable pub target : ℕ → ℕ → Option ℕ
target place offset =
    cond (ltb offset offset_end) (Some (place + offset))
    (cond (leb word_end (place + offset)) (Some (place + offset - word_end))
    None)

-- record `place` of w words in a buffer that has `count` of them; none outside
unfoldable pub record_in : ℕ → List ℕ → ℕ → ℕ → Option (List ℕ)
record_in w ws count place = cond (ltb place count && ltb place (capacity w ws)) (Some (record_at w ws place)) None

-- the instruction at a place of the code; none at a place outside, or where the words are no instruction
unfoldable pub fetch : List ℕ → ℕ → ℕ → Option Instruction
fetch code count place = elim (record_in instruction_width code count place) [ Some ws ↦ decode ws | None ↦ None ]

-- how a run ends: with a value, with a failure, or with neither
pub data Ending (M : Operators) : Type 0 where
  returned : M.Value → Ending M
  failed : M.Failure → Ending M
  lost : Ending M

abbrev pub Registers : Operators → Type 0
Registers M = ℕ → M.Value

-- where the machine is: at a place, with its registers, or at its end
pub data Now (M : Operators) : Type 0 where
  at : ℕ → Registers M → Now M
  ended : Ending M → Now M

module _ (M : Operators) where
  -- "Constant, three words: kind (0 nil, 1 boolean, 2 number, 3 string), low, high."
  abbrev pub constant_kinds : List (ℕ → ℕ → Option M.Value)
  constant_kinds =
      (λ low high. Some M.nil)
      ∷ (λ low high. Some (M.boolean (not (eqb low 0))))
      ∷ (λ low high. Some (M.number (number_of low high)))
      ∷ (λ low high. Some (M.string low))
      ∷ []

  unfoldable pub constant_of : List ℕ → Option M.Value
  constant_of ws = get_or constant_kinds (get_or ws 0 0) (λ low high. None) (get_or ws 1 0) (get_or ws 2 0)

  -- the constant at a place of the pool; none outside
  unfoldable pub constant_at : List ℕ → ℕ → ℕ → Option M.Value
  constant_at pool count place = elim (record_in constant_width pool count place) [ Some ws ↦ constant_of ws | None ↦ None ]

  abbrev pub fill : Registers M → ℕ → M.Value → Registers M
  fill R d v r = cond (eqb r d) v (R r)

  -- the constants by place
  module _ (constants : ℕ → Option M.Value) where
    abbrev pub read : Registers M → Input → Option M.Value
    read R (register r) = Some (R r)
    read R (pooled k) = constants k

    -- on with what was read; a constant that is not in the pool ends the run "with neither"
    abbrev pub reading : {A : Type 0} → Option A → (A → Now M) → Now M
    reading (Some v) k = k v
    reading None k = ended lost

    -- on with an operator's answer; "a failed operator [ends the run] with its failure"
    abbrev pub onward : {A : Type 0} → Answer M.Failure A → (A → Now M) → Now M
    onward (val a) k = k a
    onward (fail x) k = ended (failed x)

    abbrev pub go_to : Option ℕ → Registers M → Now M
    go_to (Some place) R = at place R
    go_to None R = ended lost

    -- to the target if the test says so, else one on
    abbrev pub branch : Bool → ℕ → ℕ → Registers M → Now M
    branch true offset place R = go_to (target place offset) R
    branch false offset place R = at (suc place) R

    unfoldable pub act : Action → ℕ → Registers M → Now M
    act (copy d s) place R = reading (read R s) (λ v. at (suc place) (fill R d v))
    act (change d o s) place R = reading (read R s) (λ v. onward (M.unary o v) (λ w. at (suc place) (fill R d w)))
    act (combine d o s t) place R = reading (read R s) (λ v. reading (read R t) (λ w. onward (M.binary o v w) (λ u. at (suc place) (fill R d u))))
    act (decide d o s t) place R =
        reading (read R s) (λ v. reading (read R t) (λ w. onward (truth M (M.compare o v w)) (λ u. at (suc place) (fill R d u))))
    act (jump offset) place R = go_to (target place offset) R
    act (jump_on sense s offset) place R = reading (read R s) (λ v. onward (M.test v) (λ b. branch (beq b sense) offset place R))
    act (compare_jump o s t offset) place R = reading (read R s) (λ v. reading (read R t) (λ w. onward (M.compare o v w) (λ b. branch b offset place R)))
    act (return r) place R = ended (returned (R r))
    act other place R = ended lost

    -- the code by place
    module _ (code : ℕ → Option Instruction) where
      unfoldable pub step_at : Option Instruction → ℕ → Registers M → Now M
      step_at (Some i) place R = act (action i) place R
      step_at None place R = ended lost

      unfoldable pub machine_step : Now M → Now M
      machine_step (at place R) = step_at (code place) place R
      machine_step (ended e) = ended e

      -- after n steps
      unfoldable pub after : ℕ → Now M → Now M
      after zero s = s
      after (suc n) s = machine_step (after n s)
