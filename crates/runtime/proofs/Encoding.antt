-- Instructions and their records: decoding is the inverse of `words_of`, both ways where the words after the last field are 0, and an offset or a
-- destination is one word of the record. Assumes nothing.
use Rattle.std.specs.Prelude.{Option, Some, None, option_map}
use mathlib.Core.Path.{◌≡◌, refl, sym, ap, ◌∙◌}
use mathlib.Core.List.{List, [], ◌∷◌, map}
use mathlib.Core.Logic.{◌↔◌, ◌≢◌, ◌⊎◌, inl, inr}
use mathlib.Core.Bool.{Bool, true, false, cond}
use Prim.Native.Nat.{ℕ, zero, suc, ◌+◌, ◌≤◌, ◌<◌}
use native.Mathlib.Omega.{arith}
use native.Mathlib.Decide.{dec_lt}
use lib.ListN.{length, get_or, set, get_or-eq_default, get_or-map}
use lib.Dec.{ltb}
use borrow.Author.Tests.{ltb-true, ltb-false, lt-ltb, le-ltb}
use Rattle.runtime.specs.declared.instruction.Instruction.{Instruction}
use Rattle.runtime.specs.Instruction.{instruction_width, words_of, decoders, decode, has_destination, offset_word}
use Rattle.runtime.specs.Encoding.{kind_of, patched, with_offset, with_destination, FieldCount, one, record_of, field_counts, field_count_of}

-- a record with its offset, word w, made o; there is none where w is 0, the kind's own word
abbrev set_offset : ℕ → ℕ → List ℕ → List ℕ
set_offset zero o ws = ws
set_offset (suc w) o ws = set ws (suc w) o

-- what the words of an instruction compute to: their number, what they decode to, and what another offset and another destination make of them
record Encoded (i : Instruction) : Type 0 where
  width : length (words_of i) ≡ instruction_width
  decoded : decode (words_of i) ≡ Some i
  offset : (o : ℕ) → words_of (with_offset o i) ≡ set_offset (offset_word (kind_of i)) o (words_of i)
  destination : (d : ℕ) → words_of (with_destination d i) ≡ cond (has_destination (kind_of i)) (set (words_of i) 1 d) (words_of i)

encoded : (i : Instruction) → Encoded i
unfolding words_of decode offset_word has_destination patched
encoded (Instruction.Add dest src1 src2) = record { width = refl; decoded = refl; offset = λ o. refl; destination = λ d. refl }
encoded (Instruction.AddK dest src1 src2) = record { width = refl; decoded = refl; offset = λ o. refl; destination = λ d. refl }
encoded (Instruction.Subtract dest src1 src2) = record { width = refl; decoded = refl; offset = λ o. refl; destination = λ d. refl }
encoded (Instruction.SubtractRK dest src1 src2) = record { width = refl; decoded = refl; offset = λ o. refl; destination = λ d. refl }
encoded (Instruction.SubtractKR dest src1 src2) = record { width = refl; decoded = refl; offset = λ o. refl; destination = λ d. refl }
encoded (Instruction.Multiply dest src1 src2) = record { width = refl; decoded = refl; offset = λ o. refl; destination = λ d. refl }
encoded (Instruction.MultiplyK dest src1 src2) = record { width = refl; decoded = refl; offset = λ o. refl; destination = λ d. refl }
encoded (Instruction.Divide dest src1 src2) = record { width = refl; decoded = refl; offset = λ o. refl; destination = λ d. refl }
encoded (Instruction.DivideRK dest src1 src2) = record { width = refl; decoded = refl; offset = λ o. refl; destination = λ d. refl }
encoded (Instruction.DivideKR dest src1 src2) = record { width = refl; decoded = refl; offset = λ o. refl; destination = λ d. refl }
encoded (Instruction.Modulo dest src1 src2) = record { width = refl; decoded = refl; offset = λ o. refl; destination = λ d. refl }
encoded (Instruction.ModuloRK dest src1 src2) = record { width = refl; decoded = refl; offset = λ o. refl; destination = λ d. refl }
encoded (Instruction.ModuloKR dest src1 src2) = record { width = refl; decoded = refl; offset = λ o. refl; destination = λ d. refl }
encoded (Instruction.Equal dest src1 src2) = record { width = refl; decoded = refl; offset = λ o. refl; destination = λ d. refl }
encoded (Instruction.EqualK dest src1 src2) = record { width = refl; decoded = refl; offset = λ o. refl; destination = λ d. refl }
encoded (Instruction.NotEqual dest src1 src2) = record { width = refl; decoded = refl; offset = λ o. refl; destination = λ d. refl }
encoded (Instruction.NotEqualK dest src1 src2) = record { width = refl; decoded = refl; offset = λ o. refl; destination = λ d. refl }
encoded (Instruction.Less dest src1 src2) = record { width = refl; decoded = refl; offset = λ o. refl; destination = λ d. refl }
encoded (Instruction.LessRK dest src1 src2) = record { width = refl; decoded = refl; offset = λ o. refl; destination = λ d. refl }
encoded (Instruction.LessKR dest src1 src2) = record { width = refl; decoded = refl; offset = λ o. refl; destination = λ d. refl }
encoded (Instruction.LessEqual dest src1 src2) = record { width = refl; decoded = refl; offset = λ o. refl; destination = λ d. refl }
encoded (Instruction.LessEqualRK dest src1 src2) = record { width = refl; decoded = refl; offset = λ o. refl; destination = λ d. refl }
encoded (Instruction.LessEqualKR dest src1 src2) = record { width = refl; decoded = refl; offset = λ o. refl; destination = λ d. refl }
encoded (Instruction.Not dest src) = record { width = refl; decoded = refl; offset = λ o. refl; destination = λ d. refl }
encoded (Instruction.Negate dest src) = record { width = refl; decoded = refl; offset = λ o. refl; destination = λ d. refl }
encoded (Instruction.Move dest src) = record { width = refl; decoded = refl; offset = λ o. refl; destination = λ d. refl }
encoded (Instruction.LoadConst dest src) = record { width = refl; decoded = refl; offset = λ o. refl; destination = λ d. refl }
encoded (Instruction.CreateMap dest) = record { width = refl; decoded = refl; offset = λ o. refl; destination = λ d. refl }
encoded (Instruction.SetProperty object key value) = record { width = refl; decoded = refl; offset = λ o. refl; destination = λ d. refl }
encoded (Instruction.SetPropertyRK object key value) = record { width = refl; decoded = refl; offset = λ o. refl; destination = λ d. refl }
encoded (Instruction.SetPropertyKR object key value) = record { width = refl; decoded = refl; offset = λ o. refl; destination = λ d. refl }
encoded (Instruction.SetPropertyKK object key value) = record { width = refl; decoded = refl; offset = λ o. refl; destination = λ d. refl }
encoded (Instruction.GetProperty dest object key) = record { width = refl; decoded = refl; offset = λ o. refl; destination = λ d. refl }
encoded (Instruction.GetPropertyK dest object key) = record { width = refl; decoded = refl; offset = λ o. refl; destination = λ d. refl }
encoded (Instruction.SetElement object key value) = record { width = refl; decoded = refl; offset = λ o. refl; destination = λ d. refl }
encoded (Instruction.CreateClosure dest captures src) = record { width = refl; decoded = refl; offset = λ o. refl; destination = λ d. refl }
encoded (Instruction.CreateRef dest src) = record { width = refl; decoded = refl; offset = λ o. refl; destination = λ d. refl }
encoded (Instruction.DerefSet dest src) = record { width = refl; decoded = refl; offset = λ o. refl; destination = λ d. refl }
encoded (Instruction.Deref dest src) = record { width = refl; decoded = refl; offset = λ o. refl; destination = λ d. refl }
encoded (Instruction.Call dest src arity) = record { width = refl; decoded = refl; offset = λ o. refl; destination = λ d. refl }
encoded (Instruction.Return src) = record { width = refl; decoded = refl; offset = λ o. refl; destination = λ d. refl }
encoded (Instruction.Jump offset) = record { width = refl; decoded = refl; offset = λ o. refl; destination = λ d. refl }
encoded (Instruction.JumpIfFalse src offset) = record { width = refl; decoded = refl; offset = λ o. refl; destination = λ d. refl }
encoded (Instruction.JumpIfTrue src offset) = record { width = refl; decoded = refl; offset = λ o. refl; destination = λ d. refl }
encoded (Instruction.JumpIfLess src1 src2 offset) = record { width = refl; decoded = refl; offset = λ o. refl; destination = λ d. refl }
encoded (Instruction.JumpIfLessRK src1 src2 offset) = record { width = refl; decoded = refl; offset = λ o. refl; destination = λ d. refl }
encoded (Instruction.JumpIfLessKR src2 src1 offset) = record { width = refl; decoded = refl; offset = λ o. refl; destination = λ d. refl }
encoded (Instruction.JumpIfLessEqual src1 src2 offset) = record { width = refl; decoded = refl; offset = λ o. refl; destination = λ d. refl }
encoded (Instruction.JumpIfLessEqualRK src1 src2 offset) = record { width = refl; decoded = refl; offset = λ o. refl; destination = λ d. refl }
encoded (Instruction.JumpIfLessEqualKR src2 src1 offset) = record { width = refl; decoded = refl; offset = λ o. refl; destination = λ d. refl }
encoded (Instruction.JumpIfEqual src1 src2 offset) = record { width = refl; decoded = refl; offset = λ o. refl; destination = λ d. refl }
encoded (Instruction.JumpIfEqualK src1 src2 offset) = record { width = refl; decoded = refl; offset = λ o. refl; destination = λ d. refl }
encoded (Instruction.JumpIfNotEqual src1 src2 offset) = record { width = refl; decoded = refl; offset = λ o. refl; destination = λ d. refl }
encoded (Instruction.JumpIfNotEqualK src1 src2 offset) = record { width = refl; decoded = refl; offset = λ o. refl; destination = λ d. refl }
encoded (Instruction.CaptureValue src) = record { width = refl; decoded = refl; offset = λ o. refl; destination = λ d. refl }

module _ (i : Instruction) where
  -- an instruction is four words
  pub length_words_of : length (words_of i) ≡ instruction_width
  length_words_of = (encoded i).width

  -- decoding is the inverse of encoding
  pub decode_words_of : decode (words_of i) ≡ Some i
  decode_words_of = (encoded i).decoded

-- a kind above 54 is no instruction's
pub decode_above : (ws : List ℕ) → 54 < get_or ws 0 0 → decode ws ≡ None
unfolding decode
decode_above ws h = rw (get_or-eq_default decoders (λ a b c. None) {n = get_or ws 0 0} (omega arith))

-- and every instruction's kind is up to 54
pub kind_le : (i : Instruction) → kind_of i ≤ 54
kind_le i = go (dec_lt 54 (kind_of i))
  where
    go : Dec (54 < kind_of i) → kind_of i ≤ 54
    go (yes h) = let z : ◌≡◌ {A = ℕ} 0 1 = cc (decode_above (words_of i) h, decode_words_of i) in omega arith
    go (no h) = omega arith

-- two instructions with the same words are the same
pub words_of_injective : (i j : Instruction) → words_of i ≡ words_of j → i ≡ j
words_of_injective i j e = cc (decode_words_of i, decode_words_of j)

-- ---- the other direction

-- the table of these records, from kind k on
abbrev records : ℕ → List FieldCount → List (ℕ → ℕ → ℕ → Option (List ℕ))
records k [] = []
records k (n ∷ ns) = (λ a b c. Some (record_of n k a b c)) ∷ records (suc k) ns

get_or_records : (k : ℕ) (ns : List FieldCount) (j : ℕ) (none' : ℕ → ℕ → ℕ → Option (List ℕ)) → j < length ns →
    get_or (records k ns) j none' ≡ (λ a b c. Some (record_of (get_or ns j one) (k + j) a b c))
get_or_records k [] j d h = absurd (omega arith)
get_or_records k (n ∷ ns) zero d h = let e : k + zero ≡ k = omega arith in rw e
get_or_records k (n ∷ ns) (suc j) d h = let e : k + suc j ≡ suc k + j = omega arith in rw e (get_or_records (suc k) ns j d (omega arith))

abbrev recoded : (ℕ → ℕ → ℕ → Option Instruction) → ℕ → ℕ → ℕ → Option (List ℕ)
recoded f a b c = option_map words_of (f a b c)

-- the whole table at once: what each kind decodes to has the words that were decoded, with 0 after the last field
recoded_decoders : map recoded decoders ≡ records 0 field_counts
unfolding words_of
recoded_decoders = refl

-- what a record of a kind up to 54 decodes to has its words, with 0 after the last field
pub words_of_decode : (k a b c : ℕ) → k ≤ 54 → option_map words_of (decode (k ∷ a ∷ b ∷ c ∷ [])) ≡ Some (record_of (field_count_of k) k a b c)
unfolding decode
words_of_decode k a b c h =
    ap (λ row. row a b c)
    (sym (get_or-map recoded decoders k (λ a b c. None))
    ∙ ap (λ rows. get_or rows k (λ a b c. None)) recoded_decoders
    ∙ get_or_records 0 field_counts k (λ a b c. None) (omega arith)
    ∙ ap (λ n a b c. Some (record_of (field_count_of k) n a b c)) (omega arith))

module _ (k a b c : ℕ) where
  -- a kind up to 54 decodes
  pub decode_below : k ≤ 54 → (i : Instruction) × (decode (k ∷ a ∷ b ∷ c ∷ []) ≡ Some i)
  decode_below h = go (decode (k ∷ a ∷ b ∷ c ∷ [])) refl (words_of_decode k a b c h)
    where
      go : (o : Option Instruction) → decode (k ∷ a ∷ b ∷ c ∷ []) ≡ o → option_map words_of o ≡ Some (record_of (field_count_of k) k a b c) →
          (i : Instruction) × (decode (k ∷ a ∷ b ∷ c ∷ []) ≡ Some i)
      go (Some i) e h = (i, e)
      go None e h = let z : ◌≡◌ {A = ℕ} 0 1 = cc in absurd (omega arith)

  -- what is decoded has the words of the record, with 0 after the last field: those after it are not looked at
  pub decoded_words : (i : Instruction) → decode (k ∷ a ∷ b ∷ c ∷ []) ≡ Some i → words_of i ≡ record_of (field_count_of k) k a b c
  decoded_words i e = go (dec_lt 54 k)
    where
      go : Dec (54 < k) → words_of i ≡ record_of (field_count_of k) k a b c
      go (yes h) = let z : ◌≡◌ {A = ℕ} 0 1 = cc (decode_above (k ∷ a ∷ b ∷ c ∷ []) h) in absurd (omega arith)
      go (no h) = let same : Some (words_of i) ≡ Some (record_of (field_count_of k) k a b c) = rw e at (words_of_decode k a b c (omega arith)) in cc

  -- so of records with 0 there decoding is the inverse both ways
  pub decode_iff : (i : Instruction) → record_of (field_count_of k) k a b c ≡ k ∷ a ∷ b ∷ c ∷ [] →
      (decode (k ∷ a ∷ b ∷ c ∷ []) ≡ Some i) ↔ (words_of i ≡ k ∷ a ∷ b ∷ c ∷ [])
  decode_iff i z = (λ e. decoded_words i e ∙ z, λ e. rw e at (decode_words_of i))

-- ---- offsets

-- the kinds that have an offset are 41 to 53
pub offset_word_zero : (k : ℕ) → (offset_word k ≡ 0) ↔ ((k < 41) ⊎ (53 < k))
unfolding offset_word
offset_word_zero k = (only (ltb k 41) (ltb k 42) (ltb k 44) (ltb k 54) refl refl, there)
  where
    only : (a b c d : Bool) → ltb k 41 ≡ a → ltb k 54 ≡ d → ◌≡◌ {A = ℕ} (cond a 0 (cond b 1 (cond c 2 (cond d 3 0)))) 0 → (k < 41) ⊎ (53 < k)
    only true b c d low high e = inl (ltb-true k 41 low)
    only false true c d low high e = absurd (omega arith)
    only false false true d low high e = absurd (omega arith)
    only false false false true low high e = absurd (omega arith)
    only false false false false low high e = inr (ltb-false k 54 high)

    there : (k < 41) ⊎ (53 < k) → offset_word k ≡ 0
    there (inl h) = rw (lt-ltb k 41 h)
    there (inr h) = rw (le-ltb k 41 (omega arith), le-ltb k 42 (omega arith), le-ltb k 44 (omega arith), le-ltb k 54 (omega arith))

put_offset_lem : (w o : ℕ) (ws : List ℕ) → w ≢ 0 → set_offset w o ws ≡ set ws w o
put_offset_lem zero o ws h = absurd (h refl)
put_offset_lem (suc w) o ws h = refl

module _ (i : Instruction) (o : ℕ) where
  -- in a jump, another offset is another offset word and nothing else
  pub words_of_offset : offset_word (kind_of i) ≢ 0 → words_of (with_offset o i) ≡ set (words_of i) (offset_word (kind_of i)) o
  words_of_offset h = (encoded i).offset o ∙ put_offset_lem _ o _ h

  pub decode_offset : offset_word (kind_of i) ≢ 0 → decode (set (words_of i) (offset_word (kind_of i)) o) ≡ Some (with_offset o i)
  decode_offset h = rw (← words_of_offset h) (decode_words_of (with_offset o i))

  -- what is no jump has no offset to change
  pub offset_none : offset_word (kind_of i) ≡ 0 → with_offset o i ≡ i
  offset_none h = words_of_injective _ _ (rw h at ((encoded i).offset o))

-- ---- destinations

module _ (i : Instruction) (d : ℕ) where
  -- where `patch_arguments` lists the kind, word 1 is the destination
  pub words_of_destination : has_destination (kind_of i) ≡ true → words_of (with_destination d i) ≡ set (words_of i) 1 d
  words_of_destination h = rw h at ((encoded i).destination d)

  pub decode_destination : has_destination (kind_of i) ≡ true → decode (set (words_of i) 1 d) ≡ Some (with_destination d i)
  decode_destination h = rw (← words_of_destination h) (decode_words_of (with_destination d i))

  -- another kind has none to change
  pub destination_none : has_destination (kind_of i) ≡ false → with_destination d i ≡ i
  destination_none h = words_of_injective _ _ (rw h at ((encoded i).destination d))
