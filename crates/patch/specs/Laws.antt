-- Law 1 of patching, of the program's bytes.
use Rattle.std.specs.Prelude.{ℕ, ◌≡◌, List, ◌++◌, Result, Ok, Err}
use Rattle.diagnostics.specs.declared.Refusal.{Refusal}
use Rattle.diagnostics.specs.Refusal.{refusal_number}
use Rattle.words.specs.Words.{words, tail, bytes_of}
use Rattle.lowering.specs.Answers.{OneWord}

-- "Patching answers 0 or 19 alone.": the number of what the program answers
abbrev pub number_of : Result Unit Refusal → ℕ
number_of (Ok done) = 0
number_of (Err r) = refusal_number r

-- "Only the offset word changes": with 0 one word differs from what it was at entry, the offset of a jump, and the bytes past the last whole word are as at entry
pub record OneOffset (entry : List ℕ) (count index offset : ℕ) (exit : List ℕ) : Type 0 where
  pub left : List ℕ
  pub bytes : exit ≡ bytes_of left ++ tail entry
  pub one : OneWord (words entry) count index offset left

-- the lifetime of the slice that `patch_jump` is lent
abbrev pub Lifetimes : Type 0
Lifetimes = List ℕ × Unit {0}
