-- A step of a do-block, by the word that the program has of it: it stops with the refusal, or goes on with what the word gives. From
-- `e : settled o ≡ seen t gives m a`, which is what a function of the walk ensures. Assumes nothing.
use Rattle.std.specs.Prelude.{Result, Ok, Err}
use mathlib.Core.Path.{◌≡◌, refl, sym, ◌∙◌, ap}
use mathlib.Core.Logic.{◌≢◌, inl, inr}
use mathlib.Core.Bool.{Bool, true, false, false≢true}
use mathlib.Core.List.{List, [], ◌∷◌}
use Prim.Native.Nat.{ℕ, ◌-◌, ◌<◌, ◌≤◌}
use native.Mathlib.Omega.{arith}
use borrow.Author.Tests.{ne_eqb}
use Rattle.diagnostics.specs.declared.Refusal.{Refusal}
use Rattle.diagnostics.specs.declared.Error.{Error}
use Rattle.words.specs.declared.Appended.{Appended}
use Rattle.words.specs.Records.{Buffer, buffer, append, max_count}
use Rattle.words.proofs.Records.{append_refused}
use Rattle.runtime.specs.Pool.{Stored}
use Rattle.runtime.proofs.Pool.{store_at, store_refused}
use Rattle.environment.specs.declared.Register.{Register}
use Rattle.environment.specs.declared.Taken.{Taken}
use Rattle.environment.specs.Registers.{taken}
use Rattle.environment.specs.Environment.{found, allocated}
use Rattle.environment.proofs.Laws.{register_takes, take_refused}
use Rattle.runtime.specs.declared.instruction.Instruction.{Instruction}
use Rattle.runtime.specs.declared.operand.Operand.{Operand}
use Rattle.runtime.specs.Instruction.{words_of}
use Rattle.runtime.specs.Function.{emit_instruction, store_constant, max_instructions}
use Rattle.lowering.specs.Tree.{Tree}
use Rattle.lowering.specs.Walk.{Made, Outcome, ends, stops, Walk, bind, ret, unnamed}
use Rattle.lowering.specs.Steps.{with_registers, with_code, with_constants, with_marks, placed, registered, allocate_temp, emit, store, mark}
use Rattle.steps.specs.Answers.{register_at, none, number_at, settle, settled, seen, is_refusal, value_of, number_of_refusal, refusal_at, refusal_of, word_end, names_node, error_at}
use Rattle.steps.proofs.Words.{register_at_temporary, is_refusal_refusal, value_of_refusal, number_of_refusal_refusal, refusal_number_lem, is_refusal_word, value_of_word}

-- whether an outcome stopped
unfoldable pub stopped : {A : Type 0} → Outcome A → Bool
stopped (ends x m) = false
stopped (stops e m) = true

-- what settled is, if it ended
pub got : {A : Type 0} (o : Outcome A) (x : A) (m : Made) → settled o ≡ ends x m → o ≡ ends x m
unfolding settled stopped
got (ends y n) x m e = e
got (stops f n) x m e = absurd (false≢true (sym (ap stopped e)))

-- a refusal, as an outcome of another kind
unfoldable carried : {A B : Type 0} → Outcome B → Outcome A → Outcome B
carried other (ends x m) = other
carried other (stops e m) = stops e m

-- a stop is the block's
over : {A B : Type 0} (o : Outcome A) (k : A → Walk B) (f : Error) (m : Made) → settled o ≡ stops f m → settled (bind o k) ≡ stops f m
unfolding settled stopped bind carried
over (ends y n) k f m e = absurd (false≢true (ap stopped e))
over (stops g n) k f m e = ap (carried (stops g (settle n))) e

-- a step that always ends
pub then_done : {B : Type 0} {o : Outcome Unit} {m : Made} (k : Unit → Walk B) {r : Outcome B} → o ≡ ends tt m → settled (k tt m) ≡ r → settled (bind o k) ≡ r
unfolding bind
then_done k e q = rw e q

-- the last step of a block
pub last : {A : Type 0} (o : Outcome A) {r : Outcome A} → settled (bind o (λ x. ret x)) ≡ r → settled o ≡ r
unfolding bind
last (ends x m) q = q
last (stops e m) q = q

-- a block in a block
pub nested : {A B C : Type 0} (o : Outcome A) (k : A → Walk B) (l : B → Walk C) {r : Outcome C} → settled (bind o (λ x m. bind (k x m) l)) ≡ r → settled (bind (bind o k) l) ≡ r
unfolding bind
nested (ends x m) k l q = q
nested (stops e m) k l q = q

module _ (t : Tree) where
  -- what is seen of a word, and of a refusal
  pub seen_given : {A : Type 0} (gives : ℕ → A) (m : Made) (a : ℕ) → is_refusal a ≡ false → seen t gives m a ≡ ends (gives (value_of a)) m
  unfolding seen
  seen_given gives m a h = rw h

  pub seen_stopped : {A : Type 0} (gives : ℕ → A) (m : Made) (a : ℕ) → is_refusal a ≡ true →
      seen t gives m a ≡ stops (error_at t (refusal_of (number_of_refusal a)) (value_of a)) (settle m)
  unfolding seen
  seen_stopped gives m a h = rw h

  -- a word of 32 bits is no refusal
  pub seen_word : {A : Type 0} (gives : ℕ → A) (m : Made) (w : ℕ) → w < word_end → seen t gives m w ≡ ends (gives w) m
  seen_word gives m w h = rw (value_of_word w h) at (seen_given gives m w (is_refusal_word w h))

  pub seen_refusal : {A : Type 0} (gives : ℕ → A) (m : Made) (refusal : Refusal) (place : ℕ) → place < word_end →
      seen t gives m (refusal_at refusal place) ≡ stops (error_at t refusal place) (settle m)
  seen_refusal gives m refusal place h =
      rw (number_of_refusal_refusal refusal place h, refusal_number_lem, value_of_refusal refusal place h) at
      (seen_stopped gives m (refusal_at refusal place) (is_refusal_refusal refusal place))

  module _ {A B : Type 0} (o : Outcome A) (gives : ℕ → A) (m : Made) (a : ℕ) (k : A → Walk B) (e : settled o ≡ seen t gives m a) where
    -- a step that gave: the rest, with what the word gives
    pub then : {r : Outcome B} → is_refusal a ≡ false → settled (k (gives (value_of a)) m) ≡ r → settled (bind o k) ≡ r
    unfolding bind
    then h q = rw (got o (gives (value_of a)) m (e ∙ seen_given gives m a h)) q

    -- a step that refused ends the block
    pub stop : (gives' : ℕ → B) → is_refusal a ≡ true → settled (bind o k) ≡ seen t gives' m a
    stop gives' h = over o k _ _ (e ∙ seen_stopped gives m a h) ∙ sym (seen_stopped gives' m a h)

    -- the same, by what the program asked and read
    pub then_by : {r : Outcome B} {b : Bool} {x : ℕ} → b ≡ is_refusal a → b ≡ false → x ≡ value_of a → settled (k (gives x) m) ≡ r → settled (bind o k) ≡ r
    then_by told left read q = then (sym told ∙ left) (rw read at q)

    pub stop_by : (gives' : ℕ → B) {b : Bool} → b ≡ is_refusal a → b ≡ true → settled (bind o k) ≡ seen t gives' m a
    stop_by gives' told taken = stop gives' (sym told ∙ taken)

  -- a record appended, by what the program has of it: its place, or why there is none. `put` is what was made, by the words and the count of the buffer: each of the
  -- three buffers has one.
  module _ {B : Type 0} (put : List ℕ → ℕ → Made) (after : Buffer) (ws : List ℕ) (a : Appended) (k : ℕ → Walk B) (left : buffer ws a ≡ after) where
    then_appended : {n : ℕ} {r : Outcome B} → a.place ≡ Ok n → settled (k n (put ws a.count)) ≡ r →
        settled (bind (placed after.answer.place (put after.words after.answer.count)) k) ≡ r
    unfolding placed bind
    then_appended h q = rw (← left, h) q

    stop_appended : (count : ℕ) (refusal : Refusal) {e : Refusal} (gives : ℕ → B) → a.place ≡ Err e → (e ≡ refusal) × (a.count ≡ count) → names_node refusal ≡ false →
        settled (bind (placed after.answer.place (put after.words after.answer.count)) k) ≡ seen t gives (put ws count) (refusal_at e 0)
    unfolding placed bind settled error_at
    stop_appended count refusal gives h same u = rw (← left, h, same.0, same.1) (sym (rw u at (seen_refusal gives (put ws count) refusal 0 (omega arith))))

  module _ {B : Type 0} (m : Made) (a : Appended) (k : ℕ → Walk B) where
    -- an instruction emitted
    module _ (i : Instruction) {op x y z : ℕ} {code : List ℕ} (told : words_of i ≡ op ∷ x ∷ y ∷ z ∷ [])
        (left : buffer code a ≡ append m.code m.state.counts.instructions max_instructions (op ∷ x ∷ y ∷ z ∷ []) Refusal.Code) where
      pub then_emitted : {n : ℕ} {r : Outcome B} → a.place ≡ Ok n → settled (k n (with_code code a.count m)) ≡ r → settled (bind (emit i m) k) ≡ r
      unfolding emit emit_instruction
      then_emitted h q = rw told (then_appended (λ ws count. with_code ws count m) _ code a k left h q)

      pub stop_emitted : {e : Refusal} (gives : ℕ → B) → a.place ≡ Err e →
          settled (bind (emit i m) k) ≡ seen t gives (with_code code m.state.counts.instructions m) (refusal_at e 0)
      unfolding emit emit_instruction names_node
      stop_emitted gives h = rw told (stop_appended (λ ws count. with_code ws count m) _ code a k left _ Refusal.Code gives h (append_refused _ _ _ _ _ left h) refl)

    -- a constant pooled
    module _ (c : Operand) {pool : List ℕ} (left : buffer pool a ≡ store_constant m.constants m.state.counts.constants c) where
      pub then_stored : {n : ℕ} {r : Outcome B} → a.place ≡ Ok n → settled (k n (with_constants pool a.count m)) ≡ r → settled (bind (store c m) k) ≡ r
      unfolding store
      then_stored = then_appended (λ ws count. with_constants ws count m) _ pool a k left

      pub stop_stored : {e : Refusal} (gives : ℕ → B) → a.place ≡ Err e →
          settled (bind (store c m) k) ≡ seen t gives (with_constants pool m.state.counts.constants m) (refusal_at e 0)
      unfolding store names_node
      stop_stored {e} gives h =
          let refused = store_refused m.constants m.state.counts.constants c e (rw (← left) h) in
          stop_appended (λ ws count. with_constants ws count m) _ pool a k left _ Refusal.Constants gives h
          (refused.0, ap (λ b. b.answer.count) left ∙ refused.1.counted) refl

    -- the last instruction marked, where there is one
    module _ (call start end : ℕ) {marks : List ℕ} (there : m.state.counts.instructions ≢ 0)
        (left : buffer marks a ≡ append m.marks m.state.marks max_count ((m.state.counts.instructions - 1) ∷ []) Refusal.Marks) where
      pub then_marked : {n : ℕ} {r : Outcome B} → a.place ≡ Ok n → settled (k n (with_marks marks a.count m)) ≡ r → settled (bind (mark call start end m) k) ≡ r
      unfolding mark
      then_marked h q = rw (ne_eqb m.state.counts.instructions 0 there) (then_appended (λ ws count. with_marks ws count m) _ marks a k left h q)

      pub stop_marked : {e : Refusal} (gives : ℕ → B) → a.place ≡ Err e →
          settled (bind (mark call start end m) k) ≡ seen t gives (with_marks marks m.state.marks m) (refusal_at e 0)
      unfolding mark names_node
      stop_marked gives h =
          rw (ne_eqb m.state.counts.instructions 0 there)
          (stop_appended (λ ws count. with_marks ws count m) _ marks a k left _ Refusal.Marks gives h (append_refused _ _ _ _ _ left h) refl)

-- the place of a constant is none above the count
pub stored_place : (constants : List ℕ) (count : ℕ) (c : Operand) {pool : List ℕ} {a : Appended} {n : ℕ} → buffer pool a ≡ store_constant constants count c → a.place ≡ Ok n → n ≤ count
stored_place constants count c {n = n} left h = low (store_at constants count c n (rw (← left) h))
  where
    low : Stored constants count c (store_constant constants count c) n → n ≤ count
    low stored = elim stored.grows [ inl l ↦ omega (arith, l.0) | inr e ↦ omega (arith, e.0) ]

-- a temporary taken, by what the program has of it: its number, or `none` where no register is free
module _ (m : Made) {after : Taken ℕ} {w : ℕ} (took : after ≡ taken m.state.registers) (number : w ≡ number_at after.register) where
  same : (taken m.state.registers).register ≡ after.register
  same = sym (ap (λ x. x.register) took)

  pub some_allocated : w ≢ none → allocate_temp m ≡ ends (register_at w) (with_registers after.set m)
  unfolding allocate_temp allocated found registered number_at
  some_allocated h = rw (← took, number) (go after.register same (rw number at h))
    where
      go : (p : Result ℕ Refusal) → (taken m.state.registers).register ≡ p → number_at p ≢ none →
          registered (found Register.Temp p) (with_registers after.set m) ≡ ends (register_at (number_at p)) (with_registers after.set m)
      go (Ok r) e h = rw (register_at_temporary r (register_takes m.state.registers r e).in_range)
      go (Err refusal) e h = absurd (h refl)

  pub none_allocated : (t : Tree) → w ≡ none → settled (allocate_temp m) ≡ seen t register_at m (refusal_at Refusal.Registers 0)
  unfolding allocate_temp allocated found registered number_at settled error_at names_node
  none_allocated t h = rw (← took) (go after.register same (sym number ∙ h)) ∙ sym (seen_refusal t register_at m Refusal.Registers 0 (omega arith))
    where
      go : (p : Result ℕ Refusal) → (taken m.state.registers).register ≡ p → number_at p ≡ none →
          settled (registered (found Register.Temp p) (with_registers after.set m)) ≡ stops (unnamed Refusal.Registers) (settle m)
      go (Ok r) e h = absurd (omega (arith, (register_takes m.state.registers r e).in_range))
      go (Err refusal) e h = rw (take_refused m.state.registers refusal e).reason
