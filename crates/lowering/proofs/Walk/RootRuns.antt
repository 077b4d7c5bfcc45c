-- Lowering a root, in each mode, is a run of good steps, its marks patched at the end. Assumes nothing.
use Rattle.std.specs.Prelude.{None}
use Prim.Native.Nat.{ℕ, zero, suc, ◌+◌, ◌*◌, ◌≤◌, ◌<◌}
use native.Mathlib.Omega.{arith}
use mathlib.Core.Path.{◌≡◌, refl, sym, subst}
use mathlib.Core.Bool.{Bool, true, false}
use lib.Dec.{leb}
use lib.ListN.{length, get_or, set}
use borrow.Author.Tests.{leb-true, leb-false}
use Rattle.diagnostics.specs.declared.Refusal.{Refusal}
use Rattle.environment.specs.Laws.{Sound}
use Rattle.runtime.specs.declared.instruction.Instruction.{Instruction}
use Rattle.runtime.specs.Operands.{reg_of}
use Rattle.runtime.specs.Instruction.{instruction_width, words_of, has_destination}
use Rattle.lowering.specs.Tree.{Tree}
use Rattle.lowering.specs.Checked.{Checked}
use Rattle.lowering.specs.Walk.{Made, Outcome, ends, stops, Walk, error, made_of}
use Rattle.lowering.specs.Steps.{free_temp, free_held, with_code, patch_argument, patch_marks, patch_arguments}
use Rattle.lowering.specs.Lower.{lower_expression, lower_jump_if_false, expression_below}
use Rattle.lowering.specs.Result.{lower_root}
use Rattle.lowering.specs.Meaning.{here}
use Rattle.lowering.specs.Trace.{Runs, step, reads, counts, moves, refuses, Own, registers_of, instructions_of, marks_of, kind_at, first_field, Marked}
use Rattle.lowering.proofs.Running.Steps.{Holds, fine, void}
use Rattle.lowering.proofs.Walk.StepsRun.{GiveBack, Good, chain, done, register_ready_small, emit_good}
use Rattle.lowering.proofs.Walk.NodesRun.{materializing_good}
use Rattle.lowering.proofs.Walk.StepLaws.{expression_runs, jump_runs, jump_true_runs}
use Rattle.lowering.proofs.Walk.NothingBeyond.{Grows, runs_grow}

module _ {t : Tree} {root : ℕ} where
  -- what a good walk leaves where it ends
  grown : {A : Type 0} {P : A → Made → Type 0} {w : GiveBack → Walk A} {m : Made} → Good t root P w m → Good t root (λ a n. P a n × Grows m n) w m
  unfolding made_of
  grown {A} {P} {w} {m} g = record { runs = g.runs; holds = go g.runs g.holds; same = g.same }
    where
      go : {o : Outcome A} → Runs t root A (w free_temp) m o → Holds P o → Holds (λ a n. P a n × Grows m n) o
      go r (fine p) = fine (p, runs_grow r)
      go r void = void

  -- mark k, of marks that name instructions
  argument_good : (k : ℕ) (m : Made) → k < marks_of m → Marked m → Good t root (λ u n. (marks_of n ≡ marks_of m) × Marked n) (λ F x. patch_argument (get_or x.marks k 0) x) m
  unfolding patch_argument
  argument_good k m h good = go (has_destination (kind_at m place)) refl (leb (first_field m place + (registers_of m).frame_size) 255) refl
    where
      place : ℕ
      place = get_or m.marks k 0

      sum : ℕ
      sum = first_field m place + (registers_of m).frame_size

      moved : Outcome Unit
      moved = ends tt (with_code (set m.code (instruction_width * place + 1) sum) (instructions_of m) m)

      made : has_destination (kind_at m place) ≡ true → leb sum 255 ≡ true → patch_argument place m ≡ moved
      made e f = rw (e, f)

      large : has_destination (kind_at m place) ≡ true → leb sum 255 ≡ false → patch_argument place m ≡ stops (error Refusal.Sum place 0 0) m
      large e f = rw (e, f)

      none : has_destination (kind_at m place) ≡ false → patch_argument place m ≡ stops (error Refusal.Destination place 0 0) m
      none e = rw e

      by : (o : Outcome Unit) → patch_argument place m ≡ o → Runs t root Unit (patch_argument place) m o → Holds (λ u n. (marks_of n ≡ marks_of m) × Marked n) o →
          Good t root (λ u n. (marks_of n ≡ marks_of m) × Marked n) (λ F x. patch_argument (get_or x.marks k 0) x) m
      by o e r q = record {
        runs = reads k (subst (λ o. Runs t root Unit (patch_argument place) m o) (sym e) r);
        holds = subst (λ o. Holds (λ u n. (marks_of n ≡ marks_of m) × Marked n) o) (sym e) q;
        same = refl;
      }

      go : (b : Bool) → has_destination (kind_at m place) ≡ b → (c : Bool) → leb sum 255 ≡ c →
          Good t root (λ u n. (marks_of n ≡ marks_of m) × Marked n) (λ F x. patch_argument (get_or x.marks k 0) x) m
      go true e true f = by moved (made e f) (step (moves place (good k h) e (leb-true _ _ f))) (fine (refl, good))
      go true e false f = by (stops (error Refusal.Sum place 0 0) m) (large e f) (step (refuses (large e f) (Own.sum k h e (leb-false _ _ f)))) void
      go false e c f = by (stops (error Refusal.Destination place 0 0) m) (none e) (step (refuses (none e) (Own.no_destination k h e))) void

  -- n marks from mark k on
  marks_good : (n k : ℕ) (m : Made) → k + n ≤ marks_of m → Marked m → Good t root (λ u o. Unit {0}) (λ F. patch_marks n k) m
  unfolding patch_marks
  marks_good zero k m h good = done tt tt
  marks_good (suc n) k m h good =
      chain (argument_good k m (omega arith) good) (λ u m1 q. marks_good n (suc k) m1 (omega (arith, q.0)) q.1)

  arguments_good : (m : Made) → Marked m → Good t root (λ u o. Unit {0}) (λ F. patch_arguments) m
  unfolding patch_arguments
  arguments_good m good =
      let g = marks_good (marks_of m) 0 m (omega arith) good in
      record { runs = counts g.runs; holds = g.holds; same = refl }

module _ (t : Tree) (root : ℕ) (checked : Checked t) (few : length t.names ≤ 256) where
  -- Lowering, in each mode, from anything made whose registers are sound and whose marks name instructions: a run of good steps.
  root_good : (mode : ℕ) (m : Made) → Sound (registers_of m) → Marked m → Good t root (λ a n. Unit {0}) (λ F. lower_root F t mode root) m
  unfolding lower_root lower_expression lower_jump_if_false words_of
  root_good zero m s good =
      chain (grown (materializing_good t root (λ F. expression_below F t (suc root) root) None m tt
      (expression_runs t root checked few (suc root) root (omega arith, here) None m s tt))) (λ src m1 a.
      chain (grown (emit_good (Instruction.Return (reg_of src)) m1 (register_ready_small m1 src a.0.ready, omega arith, omega arith))) (λ p m2 b.
      chain (arguments_good m2 (b.1.marked (a.1.marked good))) (λ u m3 q. done 0 tt)))
  root_good (suc zero) m s good =
      chain (grown (jump_runs t root checked few (suc root) root (omega arith, here) m s)) (λ j m1 a.
      chain (arguments_good m1 (a.1.marked good)) (λ u m2 q. done j tt))
  root_good (suc (suc mode)) m s good =
      chain (grown (jump_true_runs t root checked few m s)) (λ j m1 a.
      chain (arguments_good m1 (a.1.marked good)) (λ u m2 q. done j tt))

  pub root_runs : (mode : ℕ) (m : Made) → Sound (registers_of m) → Marked m → Runs t root ℕ (lower_root free_temp t mode root) m (lower_root free_temp t mode root m)
  root_runs mode m s good = (root_good mode m s good).runs

  -- No register is given back that is not held: it comes to the same if a give-back of such a one stops.
  pub root_same : (mode : ℕ) (m : Made) → Sound (registers_of m) → Marked m → lower_root free_held t mode root m ≡ lower_root free_temp t mode root m
  root_same mode m s good = (root_good mode m s good).same
