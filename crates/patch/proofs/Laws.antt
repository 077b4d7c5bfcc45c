-- Law 1 of patching, of the program: what the number of `patch_jump` and the bytes that it leaves say. One hypothesis, `contract`, is the contract itself as any caller of
-- `patch_jump` learns it (`Learnt`); where a law needs that the bytes at entry are below 256, as those of a slice are, it asks it. Assumes nothing.
use Prim.Native.Nat.{ℕ, ◌<◌}
use mathlib.Core.Path.{◌≡◌, sym, ◌∙◌}
use mathlib.Core.Logic.{◌⊎◌, ◌↔◌}
use mathlib.Core.List.{List, ◌++◌}
use lib.ListN.{get_or}
use denote.MutBor.{MutBor}
use Rattle.std.specs.Prelude.{Result}
use Rattle.diagnostics.specs.declared.Refusal.{Refusal}
use Rattle.words.specs.Words.{words, tail, bytes_of}
use Rattle.words.proofs.Words.{bytes_words}
use Rattle.lowering.specs.Result.{patch_jump}
use Rattle.lowering.specs.Answers.{MayPatch, MayNot}
use Rattle.lowering.proofs.Walk.Answers.{only_patching, patched_exactly, refused_exactly, patch_writes_nothing, patch_writes_one}
use Rattle.patch.specs.Laws.{number_of, OneOffset, Lifetimes}
use Rattle.patch.proofs.patch_jump.Reads as reads

-- The contract of `patch_jump`, as its caller learns it: the code, which comes back changed, three numbers, and what comes back.
module _ (lifetimes : Lifetimes) (code_at code_then : MutBor (List ℕ)) (count index offset : ℕ) (r : Result Unit Refusal)
    (contract : reads.Learnt lifetimes (code_at, (count, (index, (offset, tt)))) r (code_then, (count, (index, (offset, tt))))) where
  -- the bytes at entry and at exit
  abbrev pub entry : List ℕ
  entry = code_at.now

  abbrev pub exit : List ℕ
  exit = code_then.now

  contract_number : number_of r ≡ (patch_jump (words entry) count index offset).number
  contract_number = contract.0

  contract_bytes : exit ≡ bytes_of (patch_jump (words entry) count index offset).code ++ tail entry
  contract_bytes = contract.1

  -- only 0 and 19, each under its own condition
  pub only : (number_of r ≡ 0) ⊎ (number_of r ≡ 19)
  only = rw contract_number (only_patching (words entry) count index offset)

  pub zero_exactly : (number_of r ≡ 0) ↔ MayPatch (words entry) count index offset
  zero_exactly = rw contract_number (patched_exactly (words entry) count index offset)

  pub nineteen_exactly : (number_of r ≡ 19) ↔ MayNot (words entry) count index offset
  nineteen_exactly = rw contract_number (refused_exactly (words entry) count index offset)

  -- with 19 every byte is as at entry
  pub writes_nothing : ((i : ℕ) → get_or entry i 0 < 256) → number_of r ≡ 19 → exit ≡ entry
  writes_nothing bytes h = contract_bytes ∙ rw (patch_writes_nothing (words entry) count index offset (sym contract_number ∙ h)) (bytes_words entry bytes)

  -- with 0 one word is other than at entry
  pub writes_one : number_of r ≡ 0 → OneOffset entry count index offset exit
  writes_one h = record {
    left = (patch_jump (words entry) count index offset).code;
    bytes = contract_bytes;
    one = patch_writes_one (words entry) count index offset (sym contract_number ∙ h);
  }
