-- How many marks a walk makes: at most 255 for each instruction, and 255 more for each call that it is in when it stops. So the marks of a lowering are
-- far below what a count of 32 bits can say, and 16 is only answered where the mark buffer is full. Assumes nothing.
use Rattle.std.specs.Prelude.{Option, Some, None, Result, Ok, Err}
use Prim.Native.Nat.{ℕ, zero, suc, ◌+◌, ◌*◌, ◌-◌, ◌≤◌, ◌<◌}
use native.Mathlib.Omega.{arith}
use mathlib.Core.Bool.{Bool, true, false, cond, ◌&&◌}
use mathlib.Core.List.{[], ◌∷◌}
use lib.Dec.{eqb, leb, ltb}
use lib.ListN.{length, get_or, set}
use Rattle.diagnostics.specs.declared.Refusal.{Refusal}
use Rattle.diagnostics.specs.declared.Error.{Error}
use Rattle.environment.specs.declared.Register.{Register}
use Rattle.environment.specs.Environment.{allocated}
use Rattle.words.specs.Records.{append, Buffer, buffer, put_record, capacity, max_count}
use Rattle.syntax.specs.declared.ast.Node.{Node}
use Rattle.syntax.specs.declared.ops.BinaryOp.{BinaryOp}
use Rattle.syntax.specs.declared.ops.Comparison.{Comparison}
use Rattle.syntax.specs.Ast.{absent}
use Rattle.runtime.specs.declared.instruction.Instruction.{Instruction}
use Rattle.runtime.specs.declared.operand.Operand.{Operand}
use Rattle.runtime.specs.Instruction.{instruction_width, words_of, has_destination}
use Rattle.runtime.specs.Function.{emit_instruction, store_constant, max_instructions}
use Rattle.lowering.specs.Tree.{Tree, node, children}
use Rattle.lowering.specs.Questions.{question7}
use Rattle.lowering.specs.Checked.{Checked}
use Rattle.lowering.specs.Walk.{Made, Outcome, ends, stops, Walk, bind, ◌>>=◌, ◌>>◌, ret, error, made_of}
use Rattle.lowering.specs.Steps.{placed, registered, with_registers, with_code, with_constants, with_marks, allocate_temp, destination, free_temp, emit, store, load_constant, patch_to_next, mark, patch_argument, patch_marks, patch_arguments}
use Rattle.lowering.specs.Operators.{comparison}
use Rattle.lowering.specs.Lower.{Source, register, constant, source, same_register, materialized, lower_materializing, moved, lower_name, binary_sources, lower_arguments, store_named, store_keyed, lower_entry, lower_entries, lower_else, lower_tail, lower_node, test, fused_sources, fuse, jump_node, expression_below, jump_below, lower_expression, lower_jump_if_false, lower_jump_if_true}
use Rattle.lowering.specs.Result.{lower_root}
use Rattle.lowering.specs.Meaning.{Named, first, later}
use Rattle.lowering.specs.Trace.{instructions_of, marks_of}
use Rattle.lowering.proofs.Questions.Checked.{InRange, checked_fits, checked_at}
use Rattle.lowering.proofs.Walk.StepLaws.{below_named}

-- what an append leaves, by its answer
abbrev chosen : Made → Instruction → Bool → Buffer
chosen m i c =
    cond c (buffer (put_record (length (words_of i)) m.code m.state.counts.instructions (words_of i)) (record { count = m.state.counts.instructions + 1; place = Ok m.state.counts.instructions }))
    (buffer m.code (record { count = m.state.counts.instructions; place = Err Refusal.Code }))

abbrev marking : Made → Bool → Buffer
marking m c =
    cond c (buffer (put_record 1 m.marks m.state.marks ((m.state.counts.instructions - 1) ∷ [])) (record { count = m.state.marks + 1; place = Ok m.state.marks }))
    (buffer m.marks (record { count = m.state.marks; place = Err Refusal.Marks }))

-- Against 255 marks for each instruction made: where a walk ends, it is at least x marks behind, or at most y ahead; where it stops, at most b ahead.
abbrev PaceOf : {A : Type 0} → ℕ → ℕ → ℕ → Made → Outcome A → Type 0
PaceOf x y b m (ends a n) = marks_of n + 255 * instructions_of m + x ≤ marks_of m + 255 * instructions_of n + y
PaceOf x y b m (stops e n) = marks_of n + 255 * instructions_of m ≤ marks_of m + 255 * instructions_of n + b

record Pace {A : Type 0} (x y b : ℕ) (w : Walk A) : Type 0 where
  pub at : (m : Made) → PaceOf x y b m (w m)

-- neither ahead nor behind
abbrev Steady : {A : Type 0} → ℕ → Walk A → Type 0
Steady b w = Pace 0 0 b w

pace_bind : {A B : Type 0} (x y b x' y' b' X Y C : ℕ) (k : A → Walk B) → X + y + y' ≤ Y + x + x' → b ≤ C → b' + y ≤ C + x →
    ((a : A) → Pace x' y' b' (k a)) → (m : Made) (o : Outcome A) → PaceOf x y b m o → PaceOf X Y C m (bind o k)
unfolding bind
pace_bind x y b x' y' b' X Y C k h i j f m (stops e n) p = omega arith
pace_bind {A} {B} x y b x' y' b' X Y C k h i j f m (ends a n) p = go (k a n) ((f a).at n)
  where
    go : (o : Outcome B) → PaceOf x' y' b' n o → PaceOf X Y C m o
    go (ends c q) z = omega arith
    go (stops e q) z = omega arith

pace_chain : {A B : Type 0} {x y b x' y' b' : ℕ} (X Y C : ℕ) {w : Walk A} {k : A → Walk B} → X + y + y' ≤ Y + x + x' → b ≤ C → b' + y ≤ C + x →
    Pace x y b w → ((a : A) → Pace x' y' b' (k a)) → Pace X Y C (w >>= k)
pace_chain {x = x} {y = y} {b = b} {x' = x'} {y' = y'} {b' = b'} X Y C {w = w} {k = k} h i j p f =
    record { at = λ m. pace_bind x y b x' y' b' X Y C k h i j f m (w m) (p.at m) }

steady_chain : {A B : Type 0} {b : ℕ} {w : Walk A} {k : A → Walk B} → Steady b w → ((a : A) → Steady b (k a)) → Steady b (w >>= k)
steady_chain {b = b} p f = pace_chain 0 0 b (omega arith) (omega arith) (omega arith) p f

-- what leaves marks and code
steady_ret : {A : Type 0} {b : ℕ} (a : A) → Steady b (ret a)
steady_ret a = record { at = λ m. omega arith }

steady_stop : {A : Type 0} {b : ℕ} (e : Error) → Steady {A = A} b (λ m. stops e m)
steady_stop e = record { at = λ m. omega arith }

module _ (b : ℕ) where
  steady_free : (r : Register) → Steady b (free_temp r)
  unfolding free_temp
  steady_free r = record { at = λ m. omega arith }

  steady_patch : (j : ℕ) → Steady b (patch_to_next j)
  unfolding patch_to_next
  steady_patch j = record { at = λ m. omega arith }

  steady_take : Steady b allocate_temp
  unfolding allocate_temp registered
  steady_take = record { at = λ m. go m (allocated Register.Temp m.state.registers).register }
    where
      go : (m : Made) (f : Result Register Refusal) → PaceOf 0 0 b m (registered f (with_registers (allocated Register.Temp m.state.registers).set m))
      go m (Ok r) = omega arith
      go m (Err r) = omega arith

  steady_destination : (dest : Option Register) → Steady b (destination dest)
  unfolding destination
  steady_destination None = steady_take
  steady_destination (Some d) = steady_ret d

  steady_store : (c : Operand) → Steady b (store c)
  unfolding store placed
  steady_store c = record { at = λ m. go m (store_constant m.constants m.state.counts.constants c) }
    where
      go : (m : Made) (after : Buffer) → PaceOf 0 0 b m (placed after.answer.place (with_constants after.words after.answer.count m))
      go m after = place after.answer.place
        where
          place : (p : Result ℕ Refusal) → PaceOf 0 0 b m (placed p (with_constants after.words after.answer.count m))
          place (Ok p) = omega arith
          place (Err r) = omega arith

  -- an instruction: 255 behind
  paid_emit : (i : Instruction) → Pace 255 0 b (emit i)
  unfolding emit emit_instruction append placed
  paid_emit i = record { at = λ m. go m (ltb m.state.counts.instructions max_instructions && ltb m.state.counts.instructions (capacity (length (words_of i)) m.code)) }
    where
      go : (m : Made) (c : Bool) →
          PaceOf 255 0 b m (placed (chosen m i c).answer.place (with_code (chosen m i c).words (chosen m i c).answer.count m))
      go m true = omega arith
      go m false = omega arith

  steady_emit : (i : Instruction) → Steady b (emit i)
  steady_emit i = record { at = λ m. go m (emit i m) ((paid_emit i).at m) }
    where
      go : (m : Made) (o : Outcome ℕ) → PaceOf 255 0 b m o → PaceOf 0 0 b m o
      go m (ends a n) h = omega arith
      go m (stops e n) h = h

  steady_load : (c : Operand) (dest : Option Register) → Steady b (load_constant c dest)
  unfolding load_constant
  steady_load c dest = steady_chain (steady_destination dest) (λ d. steady_chain (steady_store c) (λ k. steady_chain (steady_emit _) (λ p. steady_ret d)))

  steady_materialized : (x : Source) (dest : Option Register) → Steady b (materialized x dest)
  unfolding materialized
  steady_materialized (register r) dest = steady_ret r
  steady_materialized (constant c) dest = steady_load c dest

  steady_materializing : (own : Option Register → Walk Operand) (dest : Option Register) → Steady b (own dest) → Steady b (lower_materializing own dest)
  unfolding lower_materializing
  steady_materializing own dest h = steady_chain h (λ x. steady_materialized (source x) dest)

  -- a mark: one ahead
  ahead_mark : (i start end : ℕ) → Pace 0 1 b (mark i start end)
  unfolding mark append placed
  ahead_mark i start end = record { at = λ m. go m (eqb m.state.counts.instructions 0) (ltb m.state.marks max_count && ltb m.state.marks (capacity 1 m.marks)) }
    where
      go : (m : Made) (z c : Bool) →
          PaceOf 0 1 b m (cond z (stops (error Refusal.Unmarked i start end) m)
          (placed (marking m c).answer.place (with_marks (marking m c).words (marking m c).answer.count m)))
      go m true c = omega arith
      go m false true = omega arith
      go m false false = omega arith

steady_more : {A : Type 0} {b c : ℕ} {w : Walk A} → b ≤ c → Steady b w → Steady c w
steady_more {A} {b} {c} {w} h p = record { at = λ m. go m (w m) (p.at m) }
  where
    go : (m : Made) (o : Outcome A) → PaceOf 0 0 b m o → PaceOf 0 0 c m o
    go m (ends a n) z = z
    go m (stops e n) z = omega arith

steady_cond : {A : Type 0} {b : ℕ} (c : Bool) {v w : Walk A} → Steady b v → Steady b w → Steady b (cond c v w)
steady_cond true p q = p
steady_cond false p q = q

module _ (t : Tree) (b : ℕ) where
  steady_moved : (r : Register) (dest : Option Register) → Steady b (moved t r dest)
  unfolding moved
  steady_moved r None = steady_ret _
  steady_moved r (Some d) = steady_cond (same_register d r) (steady_ret _) (steady_chain (steady_emit b _) (λ p. steady_ret _))

  steady_named : (i : ℕ) (f : Result Register Refusal) (dest : Option Register) → Steady b (lower_name t i f dest)
  unfolding lower_name
  steady_named i (Ok r) dest = steady_moved r dest
  steady_named i (Err refusal) dest = steady_stop _

  -- by walks on the children that keep the pace
  module _ (E : ℕ → Option Register → Walk Operand) (steady : (i : ℕ) (dest : Option Register) → Steady b (E i dest)) where
    child : (i : ℕ) (dest : Option Register) → Steady b (lower_materializing (E i) dest)
    child i dest = steady_materializing b (E i) dest (steady i dest)

    finish_one : (i : Instruction) (src d : Register) → Steady b (emit i >> (free_temp src >> ret (Operand.Register d)))
    finish_one i src d = steady_chain (steady_emit b i) (λ p. steady_chain (steady_free b src) (λ u. steady_ret _))

    finish_two : (i : Instruction) (src1 src2 d : Register) → Steady b (emit i >> (free_temp src1 >> (free_temp src2 >> ret (Operand.Register d))))
    finish_two i src1 src2 d = steady_chain (steady_emit b i) (λ p. steady_chain (steady_free b src1) (λ u. steady_chain (steady_free b src2) (λ v. steady_ret _)))

    steady_sources : (op : BinaryOp) (left right : ℕ) (d : Register) (x y : Source) → Steady b (binary_sources free_temp t E op left right d x y)
    unfolding binary_sources
    steady_sources op left right d (constant x) (constant y) = steady_chain (child left None) (λ r. steady_chain (child right None) (λ q. finish_two _ r q d))
    steady_sources op left right d (register x) (constant y) = steady_chain (steady_store b y) (λ k. finish_one _ x d)
    steady_sources op left right d (constant x) (register y) = steady_chain (steady_store b x) (λ k. finish_one _ y d)
    steady_sources op left right d (register x) (register y) = finish_two _ x y d

    steady_store_named : (d : Register) (key : ℕ) (v : Source) → Steady b (store_named t E d key v)
    unfolding store_named
    steady_store_named d key (constant v) = steady_chain (steady_store b v) (λ k. steady_emit b _)
    steady_store_named d key (register v) = steady_emit b _

    steady_store_keyed : (d : Register) (x y : Source) → Steady b (store_keyed t E d x y)
    unfolding store_keyed
    steady_store_keyed d (register x) (register y) = steady_emit b _
    steady_store_keyed d (register x) (constant y) = steady_chain (steady_store b y) (λ k. steady_emit b _)
    steady_store_keyed d (constant x) (register y) = steady_chain (steady_store b x) (λ k. steady_emit b _)
    steady_store_keyed d (constant x) (constant y) = steady_chain (steady_store b x) (λ k. steady_chain (steady_store b y) (λ v. steady_emit b _))

    steady_entry : (d : Register) (key value : ℕ) (name : Option ℕ) → Steady b (lower_entry t E d key value name)
    unfolding lower_entry
    steady_entry d key value (Some name) =
        steady_cond (eqb value absent)
        (steady_chain (child key None) (λ src. steady_chain (steady_store b (Operand.String name)) (λ k. steady_emit b _)))
        (steady_chain (steady value None) (λ src. steady_chain (steady_store b (Operand.String name)) (λ k. steady_store_named d k (source src))))
    steady_entry d key value None =
        steady_cond (eqb value absent) (steady_stop _)
        (steady_chain (steady key None) (λ k. steady_chain (steady value None) (λ v. steady_store_keyed d (source k) (source v))))

    steady_entries : (d : Register) (start n k : ℕ) → Steady b (lower_entries t E d start n k)
    unfolding lower_entries
    steady_entries d start zero k = steady_ret tt
    steady_entries d start (suc n) k = steady_chain (steady_entry d _ _ _) (λ a. steady_entries d start n (suc k))

    -- n arguments: as many ahead
    ahead_arguments : (i start n k : ℕ) → Pace 0 n (b + n) (lower_arguments t E i start n k)
    unfolding lower_arguments
    ahead_arguments i start zero k = record { at = λ m. omega arith }
    ahead_arguments i start (suc n) k =
        pace_chain 0 (suc n) (b + suc n) (omega arith) (omega arith) (omega arith) (child _ _)
        (λ r. pace_chain 0 (suc n) (b + suc n) (omega arith) (omega arith) (omega arith) (ahead_mark b _ _ _) (λ q. ahead_arguments i start n (suc k)))

    module _ (J : ℕ → Walk ℕ) (jumps : (i : ℕ) → Steady b (J i)) where
      steady_call : (i callee start count : ℕ) (dest : Option Register) → count ≤ 255 → Steady (b + 255) (lower_node free_temp t E J i (Node.FunctionCall callee start count) dest)
      unfolding lower_node
      steady_call i callee start count dest h =
          pace_chain 0 0 (b + 255) (omega arith) (omega arith) (omega arith) (ahead_arguments i start count 0)
          (λ u. pace_chain 255 0 b (omega arith) (omega arith) (omega arith) (steady_destination b dest)
          (λ d. pace_chain 255 0 b (omega arith) (omega arith) (omega arith) (child callee None)
          (λ src. pace_chain 255 0 b (omega arith) (omega arith) (omega arith) (paid_emit b _)
          (λ p. steady_chain (steady_free b src) (λ v. steady_ret (Operand.Register d))))))

      steady_node : (i : ℕ) (n : Node) (dest : Option Register) → InRange (length t.list) n → Steady (b + 255) (lower_node free_temp t E J i n dest)
      unfolding lower_node lower_else lower_tail
      steady_node i (Node.Number low high) dest f = steady_ret _
      steady_node i (Node.String symbol) dest f = steady_ret _
      steady_node i (Node.Boolean v) dest f = steady_ret _
      steady_node i Node.Nil dest f = steady_ret _
      steady_node i (Node.Identifier symbol) dest f = steady_more (omega arith) (steady_named i _ dest)
      steady_node i (Node.Binary op l r) dest f =
          steady_more (omega arith) (steady_chain (steady_destination b dest) (λ d. steady_chain (steady l None) (λ x. steady_chain (steady r None) (λ y. steady_sources op l r d (source x) (source y)))))
      steady_node i (Node.Unary op x) dest f =
          steady_more (omega arith) (steady_chain (steady_destination b dest) (λ d. steady_chain (child x None) (λ src. finish_one _ src d)))
      steady_node i (Node.LogicalNot x) dest f =
          steady_more (omega arith) (steady_chain (steady_destination b dest) (λ d. steady_chain (child x None) (λ src. finish_one _ src d)))
      steady_node i (Node.LogicalAnd l r) dest f =
          steady_more (omega arith) (steady_chain (steady_destination b dest) (λ d. steady_chain (child l (Some d)) (λ src. steady_chain (steady_emit b _) (λ j.
          steady_chain (child r (Some d)) (λ q. steady_chain (steady_patch b j) (λ u. steady_ret _))))))
      steady_node i (Node.LogicalOr l r) dest f =
          steady_more (omega arith) (steady_chain (steady_destination b dest) (λ d. steady_chain (child l (Some d)) (λ src. steady_chain (steady_emit b _) (λ j.
          steady_chain (child r (Some d)) (λ q. steady_chain (steady_patch b j) (λ u. steady_ret _))))))
      steady_node i (Node.If c a e) dest f =
          steady_more (omega arith) (steady_chain (jumps c) (λ j. steady_chain (steady_destination b dest) (λ d. steady_chain (child a (Some d)) (λ r.
          steady_chain (steady_emit b _) (λ end. steady_chain (steady_patch b j) (λ u.
          steady_chain (steady_cond (eqb e absent) (steady_stop _) (child e (Some d))) (λ q. steady_chain (steady_patch b end) (λ v. steady_ret _))))))))
      steady_node i (Node.Block tail) dest f =
          steady_more (omega arith) (steady_chain (steady_destination b dest) (λ d.
          steady_chain (steady_cond (eqb tail absent) (steady_load b Operand.Nil (Some d)) (child tail (Some d))) (λ r. steady_ret _)))
      steady_node i (Node.FunctionCall callee start count) dest f = steady_call i callee start count dest f.1
      steady_node i (Node.PropertyAccess x property) dest f =
          steady_more (omega arith) (steady_chain (steady_destination b dest) (λ d. steady_chain (child x None) (λ src.
          steady_chain (steady_store b (Operand.String property)) (λ k. finish_one _ src d))))
      steady_node i (Node.Map start count) dest f =
          steady_more (omega arith) (steady_chain (steady_destination b dest) (λ d. steady_chain (steady_emit b _) (λ p.
          steady_chain (steady_entries d start count 0) (λ u. steady_ret _))))

-- a condition, by walks on the children that keep the pace where they hold P
module _ (t : Tree) (b : ℕ) (E : ℕ → Option Register → Walk Operand) (P : ℕ → Type 0) (steady : (i : ℕ) → P i → (dest : Option Register) → Steady b (E i dest))
    (sense : Bool) (own : Option Register → Walk Operand) (owns : (dest : Option Register) → Steady b (own dest)) where
  steady_tested : Steady b (test t E sense own)
  unfolding test
  steady_tested = steady_chain (steady_materializing b own None (owns None)) (λ src. steady_emit b _)

  steady_fused_sources : (c : Comparison) (x y : Source) → Steady b (fused_sources t E sense own c x y)
  unfolding fused_sources
  steady_fused_sources c (register x) (register y) = steady_emit b _
  steady_fused_sources c (register x) (constant y) = steady_chain (steady_store b y) (λ k. steady_emit b _)
  steady_fused_sources c (constant x) (register y) = steady_chain (steady_store b x) (λ k. steady_emit b _)
  steady_fused_sources c (constant x) (constant y) = steady_tested

  steady_fused : (c : Option Comparison) (left right : ℕ) → P left → P right → Steady b (fuse t E sense own c left right)
  unfolding fuse
  steady_fused None left right p q = steady_tested
  steady_fused (Some c) left right p q =
      steady_chain (steady left p None) (λ x. steady_chain (steady right q None) (λ y. steady_fused_sources c (source x) (source y)))

  steady_jump : (n : Node) → ((c : ℕ) → Named c (children t.list n) → P c) → Steady b (jump_node t E sense own n)
  unfolding jump_node children
  steady_jump (Node.Number low high) p = steady_tested
  steady_jump (Node.String symbol) p = steady_tested
  steady_jump (Node.Boolean v) p = steady_tested
  steady_jump Node.Nil p = steady_tested
  steady_jump (Node.Identifier symbol) p = steady_tested
  steady_jump (Node.Binary op l r) p = steady_fused (comparison op) l r (p l first) (p r (later first))
  steady_jump (Node.Unary op x) p = steady_tested
  steady_jump (Node.LogicalNot x) p = steady_tested
  steady_jump (Node.LogicalAnd l r) p = steady_tested
  steady_jump (Node.LogicalOr l r) p = steady_tested
  steady_jump (Node.If c a e) p = steady_tested
  steady_jump (Node.Block tail) p = steady_tested
  steady_jump (Node.FunctionCall c f n) p = steady_tested
  steady_jump (Node.PropertyAccess x q) p = steady_tested
  steady_jump (Node.Map f n) p = steady_tested

module _ (t : Tree) (checked : Checked t) where
  -- below a bound, a walk is in at most as many calls
  mutual
    unfolding expression_below jump_below

    expression_pace : (f i : ℕ) (dest : Option Register) → Steady (255 * f) (expression_below free_temp t f i dest)
    expression_pace zero i dest = steady_stop _
    expression_pace (suc f) i dest =
        steady_more (omega arith)
        (steady_node t (255 * f) (expression_below free_temp t f) (λ j d. expression_pace f j d) (jump_below free_temp t f) (λ j. jump_pace f j) i (node t i) dest (checked_fits checked i))

    jump_pace : (f i : ℕ) → Steady (255 * f) (jump_below free_temp t f i)
    jump_pace zero i = steady_stop _
    jump_pace (suc f) i =
        steady_jump t (255 * suc f) (expression_below free_temp t f) (λ j. Unit {0}) (λ j u d. steady_more (omega arith) (expression_pace f j d)) false
        (λ d. lower_node free_temp t (expression_below free_temp t f) (jump_below free_temp t f) i (node t i) d)
        (λ d. steady_more (omega arith) (steady_node t (255 * f) (expression_below free_temp t f) (λ j e. expression_pace f j e) (jump_below free_temp t f) (λ j. jump_pace f j) i (node t i) d (checked_fits checked i)))
        (node t i) (λ c n. tt)

  steady_argument : (b place : ℕ) → Steady b (patch_argument place)
  unfolding patch_argument
  steady_argument b place = record { at = λ m. go m (has_destination (get_or m.code (instruction_width * place) 0)) (leb (get_or m.code (instruction_width * place + 1) 0 + m.state.registers.frame_size) 255) }
    where
      go : (m : Made) (c d : Bool) → PaceOf {A = Unit {0}} 0 0 b m
          (cond c (cond d (ends (tt {0}) (with_code (set m.code (instruction_width * place + 1) (get_or m.code (instruction_width * place + 1) 0 + m.state.registers.frame_size)) m.state.counts.instructions m))
          (stops (error Refusal.Sum place 0 0) m)) (stops (error Refusal.Destination place 0 0) m))
      go m true true = omega arith
      go m true false = omega arith
      go m false d = omega arith

  steady_marks : (b n k : ℕ) → Steady b (patch_marks n k)
  unfolding patch_marks
  steady_marks b zero k = steady_ret tt
  steady_marks b (suc n) k = steady_chain (record { at = λ m. (steady_argument b (get_or m.marks k 0)).at m }) (λ u. steady_marks b n (suc k))

  steady_arguments : (b : ℕ) → Steady b patch_arguments
  unfolding patch_arguments
  steady_arguments b = record { at = λ m. (steady_marks b m.state.marks 0).at m }

  root_pace : (mode root : ℕ) → Steady (255 * suc root) (lower_root free_temp t mode root)
  unfolding lower_root lower_expression lower_jump_if_false lower_jump_if_true question7
  root_pace zero root =
      let b : ℕ = 255 * suc root in
      steady_chain (steady_materializing b (expression_below free_temp t (suc root) root) None (expression_pace (suc root) root None)) (λ src.
      steady_chain (steady_emit b _) (λ p. steady_chain (steady_arguments b) (λ u. steady_ret 0)))
  root_pace (suc zero) root = steady_chain (jump_pace (suc root) root) (λ j. steady_chain (steady_arguments (255 * suc root)) (λ u. steady_ret j))
  root_pace (suc (suc mode)) root =
      steady_chain
      (steady_jump t (255 * suc root) (λ n. expression_below free_temp t (suc n) n) (λ n. n < root) (λ n l d. steady_more (omega arith) (expression_pace (suc n) n d)) true
      (expression_below free_temp t (suc root) root) (expression_pace (suc root) root) (node t root) (λ c n. below_named root n (checked_at checked root).order))
      (λ j. steady_chain (steady_arguments (255 * suc root)) (λ u. steady_ret j))

  -- At most 255 marks for each instruction and for each node up to the root, whatever lowering comes to.
  pub marks_few : (mode root : ℕ) (m : Made) → marks_of (made_of (lower_root free_temp t mode root m)) ≤ marks_of m + 255 * instructions_of (made_of (lower_root free_temp t mode root m)) + 255 * (root + 1)
  unfolding made_of
  marks_few mode root m = go (lower_root free_temp t mode root m) ((root_pace mode root).at m)
    where
      go : (o : Outcome ℕ) → PaceOf 0 0 (255 * suc root) m o → marks_of (made_of o) ≤ marks_of m + 255 * instructions_of (made_of o) + 255 * (root + 1)
      go (ends a n) h = omega arith
      go (stops e n) h = omega arith
