-- Of records, an append's answer and a constant's words, what the index needs beside the laws of those. Assumes nothing.
use Rattle.std.specs.Prelude.{Ok, Err}
use mathlib.Core.Path.{◌≡◌, refl}
use mathlib.Core.List.{List, [], ◌∷◌}
use mathlib.Core.Bool.{Bool, true, false, cond}
use Prim.Native.Nat.{ℕ, ◌+◌, ◌*◌, ◌≤◌, ◌<◌}
use native.Mathlib.Omega.{arith}
use native.Mathlib.Decide.{ℕ_discrete}
use lib.Dec.{eqb}
use lib.ListN.{length, get_or, drop, length-drop}
use lib.Seq.{length-take-le}
use borrow.Author.Tests.{le-ltb, eq-eqb, ne_eqb}
use Rattle.diagnostics.specs.declared.Refusal.{Refusal}
use Rattle.words.specs.declared.Appended.{Appended}
use Rattle.words.specs.Records.{capacity, record_at, is_at}
use Rattle.pool_index.specs.Index.{full, appended}
use Rattle.words.proofs.Records.{room}
use Rattle.runtime.specs.declared.operand.Operand.{Operand}
use Rattle.runtime.specs.Value.{constant_words}

-- a whole record has w words
pub record_long : (w : ℕ) (ws : List ℕ) (p : ℕ) → p < capacity w ws → length (record_at w ws p) ≡ w
unfolding record_at
record_long w ws p h = length-take-le w (drop (w * p) ws) (omega (arith, length-drop (w * p) ws, room w ws p h))

-- a place that is not the count counts nothing
pub appended_kept : (count place : ℕ) (refusal : Refusal) → (place ≡ count → ⊥) → count ≡ (appended count place refusal).count
unfolding appended
appended_kept count place refusal h = rw (ne_eqb place count h) (go (eqb place full))
  where
    go : (b : Bool) → count ≡ (cond {A = Appended} b (record { count = count; place = Err refusal }) (record { count = count; place = Ok place })).count
    go true = refl
    go false = refl

-- an append's answer by one number: a new record, one that was found, or none
module _ (count : ℕ) (refusal : Refusal) where
  pub appended_new : count < full → appended count count refusal ≡ record { count = count + 1; place = Ok count }
  unfolding appended
  appended_new h = rw (ne_eqb count full (λ e. absurd (omega arith)), eq-eqb count count refl)

  pub appended_found : (place : ℕ) → place < count → place < full → appended count place refusal ≡ record { count = count; place = Ok place }
  unfolding appended
  appended_found place l h = rw (ne_eqb place full (λ e. absurd (omega arith)), ne_eqb place count (λ e. absurd (omega arith)))

  pub appended_full : appended count full refusal ≡ record { count = count; place = Err refusal }
  unfolding appended
  appended_full = refl

-- and that number, by the answer
module _ (count place : ℕ) (refusal : Refusal) where
  pub answered_at : {p : ℕ} → (appended count place refusal).place ≡ Ok p → place ≡ p
  unfolding appended
  answered_at {p} e = go (ℕ_discrete place full)
    where
      go : Dec (place ≡ full) → place ≡ p
      go (yes f) =
          let no_place : Err refusal ≡ Ok p = rw (eq-eqb place full f) at e in
          let z : ◌≡◌ {A = ℕ} 0 1 = cc in
          absurd (omega arith)
      go (no f) = let same : Ok place ≡ Ok p = rw (ne_eqb place full f) at e in cc

  pub answered_full : (appended count place refusal).place ≡ Err refusal → place ≡ full
  unfolding appended
  answered_full e = go (ℕ_discrete place full)
    where
      go : Dec (place ≡ full) → place ≡ full
      go (yes f) = f
      go (no f) =
          let no_refusal : Ok place ≡ Err refusal = rw (ne_eqb place full f) at e in
          let z : ◌≡◌ {A = ℕ} 0 1 = cc in
          absurd (omega arith)

-- past the last whole record none is found
pub past_is : (ws r : List ℕ) (p : ℕ) → capacity (length r) ws ≤ p → is_at ws r p ≡ false
unfolding is_at
past_is ws r p h = rw (le-ltb p (capacity (length r) ws) h)

-- a constant's words, one by one
pub three_words : (c : Operand) → constant_words c ≡ get_or (constant_words c) 0 0 ∷ get_or (constant_words c) 1 0 ∷ get_or (constant_words c) 2 0 ∷ []
unfolding constant_words
three_words Operand.Nil = refl
three_words (Operand.Boolean b) = refl
three_words (Operand.Number x) = refl
three_words (Operand.String symbol) = refl
three_words (Operand.Register r) = refl
