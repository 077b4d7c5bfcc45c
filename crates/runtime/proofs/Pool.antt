-- What an emitted instruction and a stored constant leave: the place that is answered holds them, and every other record is as it was; for the
-- pool, that place is the first with the constant's words. Assumes nothing.
use Rattle.std.specs.Prelude.{Ok, Err}
use mathlib.Core.Path.{◌≡◌, refl, sym, ◌∙◌}
use mathlib.Core.List.{List}
use mathlib.Core.Logic.{◌⊎◌, inl, inr}
use mathlib.Core.Bool.{true}
use Prim.Native.Nat.{ℕ, ◌+◌, ◌<◌, ◌≤◌}
use native.Mathlib.Omega.{arith}
use native.Mathlib.Decide.{dec_lt}
use lib.ListN.{length}
use borrow.Author.Tests.{lt-ltb, le-ltb}
use Rattle.diagnostics.specs.declared.Refusal.{Refusal}
use Rattle.words.specs.Records.{Buffer, buffer, capacity, record_at, put_record, is_at, append, position, max_count, First}
use Rattle.words.proofs.Records.{record_same, record_other, record_capacity, append_room, append_full, append_limit}
use Rattle.words.proofs.Search.{position_first, is_record, record_is}
use Rattle.runtime.specs.declared.instruction.Instruction.{Instruction}
use Rattle.runtime.specs.declared.operand.Operand.{Operand}
use Rattle.runtime.specs.Instruction.{instruction_width, words_of}
use Rattle.runtime.specs.Value.{constant_width, constant_words}
use Rattle.runtime.specs.Function.{emit_instruction, store_constant, max_instructions}
use Rattle.runtime.specs.Pool.{Unpooled, Emitted, Stored, Full}
use Rattle.runtime.proofs.Encoding.{length_words_of}
use Rattle.runtime.proofs.Constants.{constant_width_lem}

-- ---- the pool, by what it asks first: a constant that is pooled already, or a new one

module _ (constants : List ℕ) (count : ℕ) (c : Operand) where
  pub store_pooled : position constants (constant_words c) count < count →
      store_constant constants count c ≡ buffer constants (record { count = count; place = Ok (position constants (constant_words c) count) })
  unfolding store_constant
  store_pooled h = rw (lt-ltb _ _ h)

  pub store_new : count ≤ position constants (constant_words c) count →
      store_constant constants count c ≡ append constants count max_count (constant_words c) Refusal.Constants
  unfolding store_constant
  store_new h = rw (le-ltb _ _ h)

-- ---- the ways it goes

-- an append: made, or refused
data Appending (w : ℕ) (ws : List ℕ) (count limit : ℕ) (r : List ℕ) (refusal : Refusal) : Buffer → Type 0 where
  made : count < limit → count < capacity w ws →
      Appending w ws count limit r refusal (buffer (put_record w ws count r) (record { count = count + 1; place = Ok count }))
  full : (capacity w ws ≤ count) ⊎ (limit ≤ count) →
      Appending w ws count limit r refusal (buffer ws (record { count = count; place = Err refusal }))

appending : (w : ℕ) (ws : List ℕ) (count limit : ℕ) (r : List ℕ) (refusal : Refusal) → length r ≡ w →
    Appending w ws count limit r refusal (append ws count limit r refusal)
appending w ws count limit r refusal e = go (dec_lt count limit) (dec_lt count (capacity w ws))
  where
    go : Dec (count < limit) → Dec (count < capacity w ws) → Appending w ws count limit r refusal (append ws count limit r refusal)
    go (yes l) (yes h) = rw (append_room ws count limit r refusal l (rw e h), e) (made l h)
    go (yes l) (no h) = rw (append_full ws count limit r refusal (rw e (omega arith))) (full (inl (omega arith)))
    go (no l) _ = rw (append_limit ws count limit r refusal (omega arith)) (full (inr (omega arith)))

-- a constant: pooled already, or appended
data Storing (ws : List ℕ) (count : ℕ) (c : Operand) : Buffer → Type 0 where
  pooled : (p : ℕ) → p < count → p < capacity constant_width ws → record_at constant_width ws p ≡ constant_words c → Unpooled ws c p →
      Storing ws count c (buffer ws (record { count = count; place = Ok p }))
  new : {b : Buffer} → Unpooled ws c count → Appending constant_width ws count max_count (constant_words c) Refusal.Constants b → Storing ws count c b

storing : (ws : List ℕ) (count : ℕ) (c : Operand) → Storing ws count c (store_constant ws count c)
storing ws count c = go (dec_lt place count)
  where
    place : ℕ
    place = position ws (constant_words c) count

    search : First ws (constant_words c) count 0 place
    search = position_first ws (constant_words c) count

    unpooled : Unpooled ws c place
    unpooled q h whole e =
        let there : is_at ws (constant_words c) q ≡ true = record_is ws (constant_words c) q (rw (constant_width_lem c) whole) (rw (constant_width_lem c) e) in
        let z : ◌≡◌ {A = ℕ} 0 1 = cc (search.before q (omega arith) h) in
        omega arith

    go : Dec (place < count) → Storing ws count c (store_constant ws count c)
    go (yes h) =
        let at = rw (constant_width_lem c) at (is_record ws (constant_words c) place (search.found (omega arith))) in
        rw (store_pooled ws count c h) (pooled place h at.0 at.1 unpooled)
    go (no h) =
        let e : place ≡ count = omega (arith, search.within) in
        rw (store_new ws count c (omega arith))
        (new (λ q l. unpooled q (omega arith)) (appending constant_width ws count max_count (constant_words c) Refusal.Constants (constant_width_lem c)))

-- ---- what they leave

module _ (ws : List ℕ) (count : ℕ) (i : Instruction) where
  emitting : Appending instruction_width ws count max_instructions (words_of i) Refusal.Code (emit_instruction ws count i)
  unfolding emit_instruction
  emitting = appending instruction_width ws count max_instructions (words_of i) Refusal.Code (length_words_of i)

  pub emit_at : (p : ℕ) → (emit_instruction ws count i).answer.place ≡ Ok p → Emitted ws count i (emit_instruction ws count i) p
  emit_at p = go emitting
    where
      go : {b : Buffer} → Appending instruction_width ws count max_instructions (words_of i) Refusal.Code b → b.answer.place ≡ Ok p → Emitted ws count i b p
      go (made l h) e =
          let same : p ≡ count = cc in
          rw same
          (record {
            last = refl;
            counted = refl;
            holds = record_same instruction_width ws count (words_of i) (length_words_of i) h;
            kept = λ q. record_other instruction_width ws count (words_of i) q (length_words_of i);
          })
      go (full h) e = let z : ◌≡◌ {A = ℕ} 0 1 = cc in absurd (omega arith)

  -- "13"
  pub emit_refused : (refusal : Refusal) → (emit_instruction ws count i).answer.place ≡ Err refusal →
      (refusal ≡ Refusal.Code) × Full instruction_width ws count max_instructions (emit_instruction ws count i)
  emit_refused refusal = go emitting
    where
      go : {b : Buffer} → Appending instruction_width ws count max_instructions (words_of i) Refusal.Code b → b.answer.place ≡ Err refusal →
          (refusal ≡ Refusal.Code) × Full instruction_width ws count max_instructions b
      go (made l h) e = let z : ◌≡◌ {A = ℕ} 0 1 = cc in absurd (omega arith)
      go (full h) e = (cc, record { kept = refl; counted = refl; full = h })

module _ (ws : List ℕ) (count : ℕ) (c : Operand) where
  pub store_at : (p : ℕ) → (store_constant ws count c).answer.place ≡ Ok p → Stored ws count c (store_constant ws count c) p
  store_at p = go (storing ws count c)
    where
      go : {b : Buffer} → Storing ws count c b → b.answer.place ≡ Ok p → Stored ws count c b p
      go (pooled place h whole at before) e =
          let same : p ≡ place = cc in
          rw same (record { counted = h; holds = at; first = before; kept = λ q n. refl; grows = inl (h, refl, refl) })
      go (new unpooled (made l h)) e =
          let same : p ≡ count = cc in
          let width = constant_width_lem c in
          rw same
          (record {
            counted = omega arith;
            holds = record_same constant_width ws count (constant_words c) width h;
            first = λ q l whole f. unpooled q l
                (rw (record_capacity constant_width ws count (constant_words c) constant_width) at whole)
                (sym (record_other constant_width ws count (constant_words c) q width (λ z. omega arith)) ∙ f);
            kept = λ q. record_other constant_width ws count (constant_words c) q width;
            grows = inr (refl, refl, unpooled);
          })
      go (new unpooled (full h)) e = let z : ◌≡◌ {A = ℕ} 0 1 = cc in absurd (omega arith)

  -- "14"; "a constant already pooled needs none"
  pub store_refused : (refusal : Refusal) → (store_constant ws count c).answer.place ≡ Err refusal →
      (refusal ≡ Refusal.Constants) × Full constant_width ws count max_count (store_constant ws count c) × Unpooled ws c count
  store_refused refusal = go (storing ws count c)
    where
      go : {b : Buffer} → Storing ws count c b → b.answer.place ≡ Err refusal →
          (refusal ≡ Refusal.Constants) × Full constant_width ws count max_count b × Unpooled ws c count
      go (pooled place h whole at before) e = let z : ◌≡◌ {A = ℕ} 0 1 = cc in absurd (omega arith)
      go (new unpooled (made l h)) e = let z : ◌≡◌ {A = ℕ} 0 1 = cc in absurd (omega arith)
      go (new unpooled (full h)) e = (cc, record { kept = refl; counted = refl; full = h }, unpooled)
