-- `patch::patch_arguments` meets its contract. The invariant: what the marks from mark i on make of the code as it is, all the marks
-- make of it at entry. Assumes nothing.
use Rattle.std.proofs.Common.{◌-◌, ◌≡◌, List, ℕ}
use Rattle.words.specs.Words.{words, tail}
use Rattle.lowering.specs.declared.State.{State}
use Rattle.lowering.specs.Walk.{made}
use Rattle.lowering.specs.Steps.{patch_marks}
use Rattle.patch.proofs.patch_arguments.Given as goal

abbrev pub invariant-loop-i : goal.invariant-loop-i
invariant-loop-i l = record {
  same_tail : tail l.code ≡ tail l.initial.code;
  patched : (constants : List ℕ) (s : State) → s.registers.frame_size ≡ l.frame_size
      → patch_marks (l.count - l.i) l.i (made (words l.code) constants (words l.marks) s) ≡ patch_marks l.count 0 (made (words l.initial.code) constants (words l.marks) s);
}
