-- The running law of `lower`: an accepted answer of `lower` is an accepted walk, so the law's sentences hold of the words and counts that it
-- leaves. Assumes nothing.
use Prim.Native.Nat.{ℕ, ◌+◌, ◌≤◌}
use native.Mathlib.Omega.{arith}
use native.Mathlib.Nat.{zero-add}
use mathlib.Core.Path.{◌≡◌, refl}
use mathlib.Core.Logic.{◌≢◌}
use mathlib.Core.List.{List}
use lib.ListN.{length}
use Rattle.diagnostics.specs.declared.Refusal.{Refusal}
use Rattle.diagnostics.specs.Refusal.{refusal_number}
use Rattle.words.specs.Words.{words}
use Rattle.lowering.specs.Tree.{tree_of, Tree}
use Rattle.lowering.specs.Questions.{Verdict, passed, refused, questions}
use Rattle.lowering.specs.Walk.{Made, Outcome, ends, stops}
use Rattle.lowering.specs.Steps.{free_temp}
use Rattle.lowering.specs.Result.{begin, lower_root, lowered_of, lower_checked, lower}
use Rattle.lowering.specs.Law.{Accepted, instructions, StandsIn, Setting, Start, LawOf, RunningLaw, as_lowered}
use Rattle.lowering.proofs.Questions.Passed.{few_parameters}
use Rattle.lowering.proofs.Running.Law.{runs, exactly, once, parameters, short, defined}

-- records stand in themselves, from 0 on
pub stands_itself : (w n : ℕ) (ws : List ℕ) → StandsIn w ws n ws n 0
stands_itself w n ws i h = let e : 0 + i ≡ i = zero-add i in (omega arith, rw e)

-- no refusal has number 0
pub number_positive : (r : Refusal) → refusal_number r ≢ 0
number_positive Refusal.Size e = omega arith
number_positive Refusal.Root e = omega arith
number_positive Refusal.Kind e = omega arith
number_positive Refusal.Unused e = omega arith
number_positive Refusal.Number e = omega arith
number_positive Refusal.List e = omega arith
number_positive Refusal.Order e = omega arith
number_positive Refusal.Parameters e = omega arith
number_positive Refusal.Undeclared e = omega arith
number_positive Refusal.Registers e = omega arith
number_positive Refusal.Else e = omega arith
number_positive Refusal.Key e = omega arith
number_positive Refusal.Code e = omega arith
number_positive Refusal.Constants e = omega arith
number_positive Refusal.Unmarked e = omega arith
number_positive Refusal.Marks e = omega arith
number_positive Refusal.Destination e = omega arith
number_positive Refusal.Sum e = omega arith
number_positive Refusal.Jump e = omega arith

-- the law of an accepted walk, from place 0 and with the pool that it left
module _ (a : Accepted) where
  setting : Start a.tree a.root → Setting a
  setting s = record {
    code = a.left.code;
    count = instructions a;
    base = 0;
    code_stands = stands_itself _ (instructions a) a.left.code;
    pool = a.left.constants;
    pooled = a.left.state.counts.constants;
    pool_stands = stands_itself _ a.left.state.counts.constants a.left.constants;
    operators = s.operators;
    hypotheses = s.hypotheses;
    parameters = s.parameters;
    registers = s.registers;
    filled = s.filled;
    order = s.order;
  }

  pub alone_holds : LawOf a.tree a.root (as_lowered a)
  unfolding setting
  alone_holds = record {
    runs = λ s. runs a (setting s);
    returns = λ s. (exactly a (setting s)).0;
    fails_alike = λ s. (exactly a (setting s)).1;
    never_lost = λ s. (exactly a (setting s)).2;
    once = λ s. once a (setting s);
    parameters = λ s. parameters a (setting s);
    short = short a;
    defined = defined a;
  }

-- what was accepted, and what it left
pub running_law : RunningLaw
unfolding lower lower_checked lowered_of
running_law nodes list names root code constants marks plain e =
    by_verdict (questions nodes list names 0 root) refl e
  where
    t : Tree
    t = tree_of nodes list names

    start : Made
    start = begin code constants marks 0 (length (words names))

    by_outcome : (o : Outcome ℕ) → lower_root free_temp t 0 root start ≡ o → length (words names) ≤ 256 → (lowered_of (length (words names)) o).result.number ≡ 0 →
        LawOf t root (lowered_of (length (words names)) o)
    by_outcome (ends place m) q few z = alone_holds (record {
      tree = t;
      root = root;
      plain = plain;
      few = few;
      code = code;
      constants = constants;
      marks = marks;
      pooled = 0;
      answer = place;
      left = m;
      accepted = q;
    })
    by_outcome (stops x m) q few z = absurd (number_positive x.refusal z)

    by_verdict : (v : Verdict) → questions nodes list names 0 root ≡ v → (lower_checked free_temp v t 0 root start).result.number ≡ 0 → LawOf t root (lower_checked free_temp v t 0 root start)
    by_verdict passed q z = by_outcome (lower_root free_temp t 0 root start) refl (few_parameters nodes list names 0 root q) z
    by_verdict (refused refusal place) q z = absurd (number_positive refusal z)
