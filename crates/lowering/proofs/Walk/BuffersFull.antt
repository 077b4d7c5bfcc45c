-- 14 and 16 of `lower`: the count of constants and that of marks stay far below what 32 bits can say, so the buffer is full. Assumes nothing.
use Prim.Native.Nat.{ℕ, ◌+◌, ◌*◌, ◌≤◌, ◌<◌}
use native.Mathlib.Omega.{arith}
use mathlib.Core.Path.{◌≡◌, sym, ap, subst}
use mathlib.Core.Logic.{inl, inr}
use mathlib.Core.List.{List}
use lib.ListN.{length}
use Rattle.diagnostics.specs.declared.Error.{Error}
use Rattle.diagnostics.specs.Refusal.{refusal_number}
use Rattle.words.specs.Records.{capacity, max_count}
use Rattle.runtime.specs.Value.{constant_width}
use Rattle.runtime.specs.Function.{max_instructions}
use Rattle.lowering.specs.Tree.{Tree, tree_of}
use Rattle.lowering.specs.Walk.{Made, made_of}
use Rattle.lowering.specs.Result.{Lowered, begin, lower}
use Rattle.lowering.specs.Trace.{Own, undeclared, registers, without_else, no_value, code as code-own, constants as constants-own, unmarked, marks as marks-own, no_destination, sum, instructions_of, constants_of, marks_of}
use Rattle.lowering.specs.Answers.{nothing_made, mark_count}
use Rattle.lowering.specs.Pool.{Fit}
use Rattle.lowering.proofs.Questions.Checked.{question1_sizes, question2_parts}
use Rattle.lowering.proofs.Walk.NothingBeyond.{Grows, runs_grow}
use Rattle.lowering.proofs.Walk.LowerRuns.{Came, before, accepted, stopped, lower_came, first_number}
use Rattle.lowering.proofs.Walk.Answers.{walk_marks}
use Rattle.lowering.proofs.Walk.PoolOfLower.{nothing_cut}
use Rattle.lowering.proofs.Walk.MarksMade.{marks_few}

-- what 14 and 16 say of a buffer
module _ {t : Tree} {root : ℕ} where
  own_constants : {e : Error} {m : Made} → Own t root e m → refusal_number e.refusal ≡ 14 → constants_of m ≤ 4096 → capacity constant_width m.constants ≤ constants_of m
  own_constants (constants-own o u (inl h)) z f = h
  own_constants (constants-own o u (inr h)) z f = absurd (omega arith)
  own_constants (undeclared r e f) z g = absurd (omega arith)
  own_constants (registers h) z g = absurd (omega arith)
  own_constants (without_else r e) z g = absurd (omega arith)
  own_constants (no_value k r e h n a) z g = absurd (omega arith)
  own_constants (code-own h) z g = absurd (omega arith)
  own_constants (unmarked r e x) z g = absurd (omega arith)
  own_constants (marks-own h) z g = absurd (omega arith)
  own_constants (no_destination k h f) z g = absurd (omega arith)
  own_constants (sum k h f l) z g = absurd (omega arith)

  own_marks : {e : Error} {m : Made} → Own t root e m → refusal_number e.refusal ≡ 16 → marks_of m < max_count → capacity 1 m.marks ≤ marks_of m
  own_marks (marks-own (inl h)) z f = h
  own_marks (marks-own (inr h)) z f = absurd (omega arith)
  own_marks (undeclared r e f) z g = absurd (omega arith)
  own_marks (registers h) z g = absurd (omega arith)
  own_marks (without_else r e) z g = absurd (omega arith)
  own_marks (no_value k r e h n a) z g = absurd (omega arith)
  own_marks (code-own h) z g = absurd (omega arith)
  own_marks (constants-own o u h) z g = absurd (omega arith)
  own_marks (unmarked r e x) z g = absurd (omega arith)
  own_marks (no_destination k h f) z g = absurd (omega arith)
  own_marks (sum k h f l) z g = absurd (omega arith)

module _ (nodes : List ℕ) (root mode : ℕ) (list names code constants marks : List ℕ) where
  abbrev from : Made
  from = nothing_made nodes root mode list names code constants marks

  same_capacity : (w : ℕ) (xs ys : List ℕ) → length xs ≡ length ys → capacity w xs ≡ capacity w ys
  unfolding capacity
  same_capacity w xs ys e = rw e

  -- 14: no whole record is left for a constant
  full_constants : {l : Lowered} → Came nodes root mode list names code constants marks l → l.result.number ≡ 14 → Fit nodes root mode list names code constants marks l →
      capacity constant_width constants ≤ l.result.constants
  unfolding made_of begin
  full_constants (before h) e f = absurd (omega (arith, (first_number h).1))
  full_constants (accepted y q r) e f = absurd (omega arith)
  full_constants (stopped {m = m} y q r o) e f =
      let g : Grows from m = runs_grow r in
      rw (sym (same_capacity constant_width m.constants constants g.in_constants.same_length)) (own_constants o e f.few_constants)

  pub constants_full : (lower nodes root mode list names code constants marks).result.number ≡ 14 →
      capacity constant_width constants ≤ (lower nodes root mode list names code constants marks).result.constants
  constants_full e = full_constants (lower_came nodes root mode list names code constants marks) e (nothing_cut nodes root mode list names code constants marks)

  -- 16: no word is left for a mark
  full_marks : {l : Lowered} → Came nodes root mode list names code constants marks l → l.result.number ≡ 16 →
      capacity 1 marks ≤ mark_count nodes root mode list names code constants marks
  unfolding made_of begin
  full_marks (before h) e = absurd (omega (arith, (first_number h).1))
  full_marks (accepted y q r) e = absurd (omega arith)
  full_marks (stopped {e = f} {m = m} y q r o) e =
      let g : Grows from m = runs_grow r in
      let few : instructions_of m ≤ max_instructions = g.code_few (omega arith) in
      let small = (question2_parts mode root _ y.start).1 in
      let size = (question1_sizes nodes list names y.size).few_nodes in
      let bound : marks_of m ≤ 0 + 255 * instructions_of m + 255 * (root + 1) =
      subst (λ n. marks_of n ≤ 0 + 255 * instructions_of n + 255 * (root + 1)) (ap made_of q) (marks_few (tree_of nodes list names) y.checked mode root from) in
      let full : capacity 1 marks ≤ marks_of m = rw (sym (same_capacity 1 m.marks marks g.in_marks.same_length)) (own_marks o e (omega arith)) in
      omega (arith, walk_marks nodes root mode list names code constants marks y m (ap made_of q))

  pub marks_full : (lower nodes root mode list names code constants marks).result.number ≡ 16 → capacity 1 marks ≤ mark_count nodes root mode list names code constants marks
  marks_full = full_marks (lower_came nodes root mode list names code constants marks)
