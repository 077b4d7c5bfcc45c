-- The laws of patching: every byte of a buffer from its words and its tail; what one argument and a run of marked arguments give, in the terms of the
-- code. Assumes nothing.
use mathlib.Core.Path.{◌≡◌, sym}
use mathlib.Core.List.{List, ◌++◌}
use mathlib.Core.Bool.{true, false}
use Prim.Native.Nat.{ℕ, suc, ◌+◌, ◌*◌, ◌-◌, ◌≤◌, ◌<◌}
use native.Mathlib.Omega.{arith}
use native.Mathlib.Numerals.{add-one}
use lib.ListN.{get_or, set}
use borrow.Author.Tests.{le-leb, lt-leb}
use Rattle.diagnostics.specs.declared.Refusal.{Refusal}
use Rattle.diagnostics.specs.declared.Error.{Error}
use Rattle.words.specs.Words.{words, tail, bytes_of}
use Rattle.words.proofs.Words.{bytes_words}
use Rattle.runtime.specs.Instruction.{instruction_width, has_destination}
use Rattle.lowering.specs.declared.State.{State}
use Rattle.lowering.specs.Walk.{Made, made, ends, stops, error, bind}
use Rattle.lowering.specs.Steps.{patch_argument, patch_marks}

-- words and tail are every byte
pub bytes_are : (entry exit ws : List ℕ) → words exit ≡ ws → tail exit ≡ tail entry → ((i : ℕ) → get_or exit i 0 < 256) → exit ≡ bytes_of ws ++ tail entry
bytes_are entry exit ws w t h = rw (← w, ← t) (sym (bytes_words exit h))

-- one argument, by its instruction's kind and destination
module _ (code constants marks : List ℕ) (s : State) (place frame kind : ℕ)
    (f : s.registers.frame_size ≡ frame) (k : kind ≡ get_or code (instruction_width * place) 0) where
  pub argument_none : has_destination kind ≡ false
      → patch_argument place (made code constants marks s) ≡ stops (error Refusal.Destination place 0 0) (made code constants marks s)
  unfolding patch_argument
  argument_none none = rw (← k, none)

  module _ (dest : ℕ) (yes : has_destination kind ≡ true) (d : dest ≡ get_or code (instruction_width * place + 1) 0) where
    pub argument_done : dest + frame ≤ 255
        → patch_argument place (made code constants marks s) ≡ ends tt (made (set code (instruction_width * place + 1) (dest + frame)) constants marks s)
    unfolding patch_argument
    argument_done h = rw (← k, yes, ← d, f, le-leb _ _ h)

    pub argument_over : 255 < dest + frame
        → patch_argument place (made code constants marks s) ≡ stops (error Refusal.Sum place 0 0) (made code constants marks s)
    unfolding patch_argument
    argument_over h = rw (← k, yes, ← d, f, lt-leb _ _ h)

-- the marks from mark i on: none left, one patched, one refused
module _ (count i : ℕ) (m : Made) where
  pub marks_none : count ≤ i → patch_marks (count - i) i m ≡ ends tt m
  unfolding patch_marks
  marks_none h = let n : count - i ≡ 0 = omega arith in rw n

  module _ (h : i < count) where
    left : count - i ≡ suc (count - (i + 1))
    left = omega arith

    module _ {place : ℕ} (read : place ≡ get_or m.marks i 0) where
      pub marks_done : (after : Made) → patch_argument place m ≡ ends tt after → patch_marks (count - i) i m ≡ patch_marks (count - (i + 1)) (i + 1) after
      unfolding patch_marks bind
      marks_done after e = rw (left, ← read, e, add-one)

      pub marks_refused : (e : Error) (after : Made) → patch_argument place m ≡ stops e after → patch_marks (count - i) i m ≡ stops e after
      unfolding patch_marks bind
      marks_refused e after p = rw (left, ← read, p)
