-- Nothing is cut: every instruction made fits the fields of the Rust's, whatever was patched into it. Assumes nothing.
use Prim.Native.Nat.{ℕ, zero, suc, ◌+◌, ◌*◌, ◌-◌, ◌≤◌, ◌<◌}
use native.Mathlib.Omega.{arith}
use native.Mathlib.Nat.{lt_of_lt_of_le, le_refl, add-zero}
use native.Mathlib.Decide.{ℕ_discrete}
use mathlib.Core.Path.{◌≡◌, refl, sym, ◌∙◌, subst}
use mathlib.Core.Logic.{◌≢◌}
use mathlib.Core.Bool.{Bool, true, false, cond, false≢true}
use mathlib.Core.List.{List, [], ◌∷◌}
use lib.Dec.{ltb}
use lib.ListN.{length, get_or, set, length-set}
use lib.Seq.{ext_get_or, get_or-set_same, get_or-set_other}
use borrow.Author.Tests.{ltb-true}
use Rattle.words.specs.Records.{put_record, capacity}
use Rattle.words.proofs.Records.{room, put_same, put_other}
use Rattle.runtime.specs.declared.instruction.Instruction.{Instruction}
use Rattle.runtime.specs.Instruction.{instruction_width, words_of, has_destination, offset_word}
use Rattle.runtime.specs.Function.{max_instructions}
use Rattle.lowering.specs.Tree.{Tree}
use Rattle.lowering.specs.Walk.{Made, Outcome, Walk, made_of}
use Rattle.lowering.specs.Steps.{put_offset}
use Rattle.lowering.specs.Fields.{Field, reg, index, arguments, offset, unused, limit, fields, field_at, Narrow, words_at}
use Rattle.lowering.specs.Trace.{Runs, Step, takes, gives, keeps, emits, finds, pools, patches, marks, moves, refuses, JumpKind, instructions_of, constants_of, registers_of}
use Rattle.lowering.specs.Pool.{AllNarrow}
use Rattle.runtime.proofs.Encoding.{length_words_of}
use Rattle.lowering.proofs.Running.Decode.{offset_small}
use Rattle.lowering.proofs.Walk.StepLaws.{along}
use Rattle.lowering.proofs.Walk.NothingBeyond.{Grows, grows_refl, grows_trans, grows_each}

-- the code is inside its buffer and below its limit
abbrev pub Room : Made → Type 0
Room m = (instructions_of m ≤ capacity instruction_width m.code) × (instructions_of m ≤ max_instructions)

-- ---- more constants leave what fits

limit_more : {a b : ℕ} → a ≤ b → (f : Field) → limit a f ≤ limit b f
limit_more h reg = le_refl _
limit_more h index = h
limit_more h arguments = le_refl _
limit_more h offset = le_refl _
limit_more h unused = le_refl _

pub narrow_more : {a b : ℕ} (ws : List ℕ) → a ≤ b → Narrow a ws → Narrow b ws
narrow_more ws h n = (
  lt_of_lt_of_le n.0 (limit_more h (field_at (get_or ws 0 0) 0)),
  lt_of_lt_of_le n.1 (limit_more h (field_at (get_or ws 0 0) 1)),
  lt_of_lt_of_le n.2 (limit_more h (field_at (get_or ws 0 0) 2)),
)

-- ---- a jump's offset

-- P of n numbers from k on
abbrev Span : (ℕ → Type 0) → ℕ → ℕ → Type 0
Span P k zero = Unit {0}
Span P k (suc n) = P k × Span P (suc k) n

span_at : (P : ℕ → Type 0) (n k : ℕ) → Span P k n → (j : ℕ) → k ≤ j → j < k + n → P j
span_at P zero k s j a b = absurd (omega arith)
span_at P (suc n) k s j a b = go (ℕ_discrete j k) (λ x. span_at P n (suc k) s.1 j x (omega arith))
  where
    go : Dec (j ≡ k) → (suc k ≤ j → P j) → P j
    go (yes e) f = rw e s.0
    go (no e) f = f (omega arith)

patch_narrow : (top a b c v : ℕ) → v < 2147483648 → (kind : ℕ) → JumpKind kind → Narrow top (kind ∷ a ∷ b ∷ c ∷ []) →
    Narrow top (set (kind ∷ a ∷ b ∷ c ∷ []) (offset_word kind) v)
unfolding offset_word
patch_narrow top a b c v h kind k =
    span_at (λ kind. Narrow top (kind ∷ a ∷ b ∷ c ∷ []) → Narrow top (set (kind ∷ a ∷ b ∷ c ∷ []) (offset_word kind) v)) 13 41
    ((λ n. (h, n.1, n.2)), ((λ n. (n.0, h, n.2)), ((λ n. (n.0, h, n.2)), ((λ n. (n.0, n.1, h)), ((λ n. (n.0, n.1, h)), ((λ n. (n.0, n.1, h)), ((λ n. (n.0, n.1, h)), ((λ n. (n.0, n.1, h)), ((λ n. (n.0, n.1, h)), ((λ n. (n.0, n.1, h)), ((λ n. (n.0, n.1, h)), ((λ n. (n.0, n.1, h)), ((λ n. (n.0, n.1, h)), tt)))))))))))))
    kind k.low (omega (arith, k.high))

-- ---- a destination: the first field of every kind up to 40 is a register

abbrev Starts : List (List Field) → ℕ → Type 0
Starts l zero = Unit {0}
Starts [] (suc n) = ⊥
Starts (x ∷ l) (suc n) = (get_or x 0 unused ≡ reg) × Starts l n

starts_at : (l : List (List Field)) (n : ℕ) → Starts l n → (k : ℕ) → k < n → get_or (get_or l k []) 0 unused ≡ reg
starts_at l zero s k h = absurd (omega arith)
starts_at [] (suc n) s k h = absurd s
starts_at (x ∷ l) (suc n) s zero h = s.0
starts_at (x ∷ l) (suc n) s (suc k) h = starts_at l n s.1 k (omega arith)

all_start : Starts fields 41
all_start = (refl, (refl, (refl, (refl, (refl, (refl, (refl, (refl, (refl, (refl, (refl, (refl, (refl, (refl, (refl, (refl, (refl, (refl, (refl, (refl, (refl, (refl, (refl, (refl, (refl, (refl, (refl, (refl, (refl, (refl, (refl, (refl, (refl, (refl, (refl, (refl, (refl, (refl, (refl, (refl, (refl, tt)))))))))))))))))))))))))))))))))))))))))

destination_first : (kind : ℕ) → has_destination kind ≡ true → field_at kind 0 ≡ reg
unfolding has_destination
destination_first kind h = starts_at fields 41 all_start kind (small (ltb kind 28) refl (ltb kind 32) (ltb kind 33) refl (ltb kind 35) (ltb kind 37) refl (ltb kind 38) h)
  where
    small : (a : Bool) → ltb kind 28 ≡ a → (b c : Bool) → ltb kind 33 ≡ c → (d e : Bool) → ltb kind 37 ≡ e → (f : Bool) →
        cond a true (cond b false (cond c true (cond d false (cond e true (cond f false (ltb kind 40)))))) ≡ true → kind < 41
    small true x b c y d e z f h = omega (arith, ltb-true kind 28 x)
    small false x true c y d e z f h = absurd (false≢true h)
    small false x false true y d e z f h = omega (arith, ltb-true kind 33 y)
    small false x false false y true e z f h = absurd (false≢true h)
    small false x false false y false true z f h = omega (arith, ltb-true kind 37 z)
    small false x false false y false false z true h = absurd (false≢true h)
    small false x false false y false false z false h = omega (arith, ltb-true kind 40 h)

-- ---- the words of an instruction, after a store

-- word k of the instruction at p
word_at : (ws : List ℕ) (p k : ℕ) → k < instruction_width → get_or (words_at ws p) k 0 ≡ get_or ws (instruction_width * p + k) 0
word_at ws p zero h = rw (add-zero (instruction_width * p))
word_at ws p (suc zero) h = refl
word_at ws p (suc (suc zero)) h = refl
word_at ws p (suc (suc (suc zero))) h = refl
word_at ws p (suc (suc (suc (suc k)))) h = absurd (omega arith)

words_are : (ws : List ℕ) (p : ℕ) (l : List ℕ) → length l ≡ instruction_width → ((k : ℕ) → k < instruction_width → get_or ws (instruction_width * p + k) 0 ≡ get_or l k 0) → words_at ws p ≡ l
words_are ws p l e f = ext_get_or 0 (words_at ws p) l (sym e) (λ k h. word_at ws p k h ∙ f k h)

-- a word that is changed, in its own instruction and in any other
words_set : (ws : List ℕ) (p v : ℕ) → instruction_width * p + instruction_width ≤ length ws → (o : ℕ) → o < instruction_width
    → words_at (set ws (instruction_width * p + o) v) p ≡ set (words_at ws p) o v
words_set ws p v fits o l =
    words_are (set ws (instruction_width * p + o) v) p (set (words_at ws p) o v) (length-set (words_at ws p) o v) (λ k h. go k h (ℕ_discrete k o))
  where
    go : (k : ℕ) → k < instruction_width → Dec (k ≡ o) → get_or (set ws (instruction_width * p + o) v) (instruction_width * p + k) 0 ≡ get_or (set (words_at ws p) o v) k 0
    go k h (yes e) = rw e (get_or-set_same ws (instruction_width * p + o) v 0 (omega arith) ∙ sym (get_or-set_same (words_at ws p) o v 0 l))
    go k h (no n) =
        get_or-set_other ws (instruction_width * p + o) (instruction_width * p + k) v 0 (λ e. n (omega arith))
        ∙ sym (word_at ws p k h)
        ∙ sym (get_or-set_other (words_at ws p) o k v 0 n)

words_other : (ws : List ℕ) (p q o v : ℕ) → o < instruction_width → q ≢ p → words_at (set ws (instruction_width * p + o) v) q ≡ words_at ws q
words_other ws p q o v h n =
    words_are (set ws (instruction_width * p + o) v) q (words_at ws q) refl
    (λ k l. get_or-set_other ws (instruction_width * p + o) (instruction_width * q + k) v 0 (λ e. n (omega arith)) ∙ sym (word_at ws q k l))

-- an instruction that is put, and the others
module _ (ws : List ℕ) (p : ℕ) (i : Instruction) where
  abbrev put : List ℕ
  put = put_record instruction_width ws p (words_of i)

  words_put : p < capacity instruction_width ws → words_at put p ≡ words_of i
  words_put h = words_are put p (words_of i) (length_words_of i) (λ k l. put_same instruction_width ws p (words_of i) (length_words_of i) k l h)

  words_put_other : (q : ℕ) → q ≢ p → words_at put q ≡ words_at ws q
  words_put_other q n = words_are put q (words_at ws q) refl (λ k l. put_other instruction_width ws p (words_of i) (length_words_of i) k l q n ∙ sym (word_at ws q k l))

-- ---- a run

pub record Uncut (m n : Made) : Type 0 where
  pub grows : Grows m n
  pub narrow : Room m → AllNarrow m → AllNarrow n

uncut_refl : (m : Made) → Uncut m m
uncut_refl m = record { grows = grows_refl m; narrow = λ r a. a }

uncut_trans : (m n o : Made) → Uncut m n → Uncut n o → Uncut m o
uncut_trans m n o a b = record {
  grows = grows_trans m n o a.grows b.grows;
  narrow = λ r x. b.narrow (a.grows.in_code.fits r.0, a.grows.code_few r.1) (a.narrow r x);
}

module _ {t : Tree} {root : ℕ} where
  narrow_each : {A : Type 0} {w : Walk A} {m : Made} {o : Outcome A} → Step t root A w m o → Room m → AllNarrow m → AllNarrow (made_of o)
  unfolding made_of put_offset
  narrow_each (takes k) r a = a
  narrow_each (gives x k) r a = a
  narrow_each (keeps x) r a = a
  narrow_each {m = m} (emits i f l h) r a = λ p z. go p z (ℕ_discrete p (instructions_of m))
    where
      go : (p : ℕ) → p < instructions_of m + 1 → Dec (p ≡ instructions_of m) →
          Narrow (constants_of m) (words_at (put_record instruction_width m.code (instructions_of m) (words_of i)) p)
      go p z (yes e) = rw e (subst (λ ws. Narrow (constants_of m) ws) (sym (words_put m.code (instructions_of m) i h)) f)
      go p z (no e) = subst (λ ws. Narrow (constants_of m) ws) (sym (words_put_other m.code (instructions_of m) i p e)) (a p (omega arith))
  narrow_each (finds c l e f) r a = a
  narrow_each {m = m} (pools o f h) r a = λ p z. narrow_more (words_at m.code p) (omega arith) (a p z)
  narrow_each {m = m} (patches j l k) r a = λ p z. go p z (ℕ_discrete p j)
    where
      kind : ℕ
      kind = get_or m.code (instruction_width * j) 0

      inside : instruction_width * j + instruction_width ≤ length m.code
      inside = room instruction_width m.code j (omega (arith, r.0))

      go : (p : ℕ) → p < instructions_of m → Dec (p ≡ j) → Narrow (constants_of m) (words_at (set m.code (instruction_width * j + offset_word kind) (instructions_of m - j)) p)
      go p z (yes e) =
          rw e (subst (λ ws. Narrow (constants_of m) ws) (sym (words_set m.code j (instructions_of m - j) inside (offset_word kind) (offset_small kind)))
          (patch_narrow (constants_of m) (get_or m.code (instruction_width * j + 1) 0) (get_or m.code (instruction_width * j + 2) 0) (get_or m.code (instruction_width * j + 3) 0) (instructions_of m - j)
          (omega (arith, r.1)) kind k (a j l)))
      go p z (no e) = subst (λ ws. Narrow (constants_of m) ws) (sym (words_other m.code j p (offset_word kind) (instructions_of m - j) (offset_small kind) e)) (a p z)
  narrow_each (marks i start end z h) r a = a
  narrow_each {m = m} (moves place l k b) r a = λ p z. go p z (ℕ_discrete p place)
    where
      sum : ℕ
      sum = get_or m.code (instruction_width * place + 1) 0 + (registers_of m).frame_size

      inside : instruction_width * place + instruction_width ≤ length m.code
      inside = room instruction_width m.code place (omega (arith, r.0))

      first : sum < limit (constants_of m) (field_at (get_or m.code (instruction_width * place) 0) 0)
      first = rw (destination_first (get_or m.code (instruction_width * place) 0) k) (omega arith)

      go : (p : ℕ) → p < instructions_of m → Dec (p ≡ place) → Narrow (constants_of m) (words_at (set m.code (instruction_width * place + 1) sum) p)
      go p z (yes e) =
          rw e (subst (λ ws. Narrow (constants_of m) ws) (sym (words_set m.code place sum inside 1 (omega arith))) (let n = a place l in (first, n.1, n.2)))
      go p z (no e) = subst (λ ws. Narrow (constants_of m) ws) (sym (words_other m.code place p 1 sum (omega arith) e)) (a p z)
  narrow_each (refuses q o) r a = a

  -- of any run
  pub runs_uncut : {A : Type 0} {w : Walk A} {m : Made} {o : Outcome A} → Runs t root A w m o → Uncut m (made_of o)
  runs_uncut r = along Uncut uncut_refl uncut_trans (λ A w m o s. record { grows = grows_each s; narrow = narrow_each s }) r
