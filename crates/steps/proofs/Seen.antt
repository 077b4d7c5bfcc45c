-- Two answers that are seen alike are the same answer: a contract of the walk, which says what is seen of an answer, leaves no bit of it open. Assumes nothing.
use Prim.Native.Nat.{ℕ, ◌%◌, ◌<◌}
use native.Mathlib.Omega.{arith}
use native.Mathlib.Decide.{dec_lt}
use mathlib.Core.Path.{◌≡◌, refl, sym, ap, ◌∙◌}
use mathlib.Core.Bool.{Bool, true, false, false≢true, cond}
use Rattle.diagnostics.specs.declared.Refusal.{Refusal}
use Rattle.diagnostics.specs.declared.Error.{Error}
use Rattle.environment.specs.declared.Register.{Register}
use Rattle.environment.specs.Registers.{register_count}
use Rattle.runtime.specs.Operands.{reg_of}
use Rattle.lowering.specs.Tree.{Tree, span_start, span_end}
use Rattle.lowering.specs.Walk.{Made, Outcome, ends, stops, error}
use Rattle.steps.specs.Answers.{register_at, any, word_end, refusal_at, names_node, error_at, seen, place_at, WalkAnswer, word, refusal, ToldApart}
use Rattle.steps.proofs.Words.{register_at_temporary, register_at_past, reg_of_register_at}
use Rattle.steps.proofs.Chains.{stopped, seen_word, seen_refusal}

-- a refusal at a place has both, whether it names a node or not
module _ (t : Tree) (why : Refusal) (place : ℕ) where
  error_parts : ((error_at t why place).refusal ≡ why) × ((error_at t why place).place ≡ place)
  unfolding error_at
  error_parts = go (names_node why)
    where
      told : Bool → Error
      told names = cond names (error why place (span_start t place) (span_end t place)) (error why place 0 0)

      go : (names : Bool) → ((told names).refusal ≡ why) × ((told names).place ≡ place)
      go true = (refl, refl)
      go false = (refl, refl)

-- what an outcome ended with, and why it stopped; the other if it did not
unfoldable ended_with : {A : Type 0} → A → Outcome A → A
ended_with other (ends x m) = x
ended_with other (stops e m) = other

unfoldable stopped_with : {A : Type 0} → Error → Outcome A → Error
stopped_with other (ends x m) = other
stopped_with other (stops e m) = e

module _ {A : Type 0} (t : Tree) (gives : ℕ → A) (m : Made) {Given : ℕ → Type 0} (apart : ToldApart Given gives) where
  never_both : (v place : ℕ) (why : Refusal) → v < word_end → place < word_end → seen t gives m v ≡ seen t gives m (refusal_at why place) → ⊥
  unfolding stopped
  never_both v place why h k e = false≢true (ap stopped (sym (seen_word t gives m v h) ∙ e ∙ seen_refusal t gives m why place k))

  pub same_answer : {a b : ℕ} → WalkAnswer Given a → WalkAnswer Given b → seen t gives m a ≡ seen t gives m b → a ≡ b
  unfolding ended_with stopped_with
  same_answer {a} {b} (word g h) (word g' h') e =
      apart a b g g' (ap (ended_with (gives a)) (sym (seen_word t gives m a h) ∙ e ∙ seen_word t gives m b h'))
  same_answer {a} (word g h) (refusal why {place = place} k) e = absurd (never_both a place why h k e)
  same_answer {b = b} (refusal why {place = place} k) (word g h) e = absurd (never_both b place why h k (sym e))
  same_answer (refusal why {place = place} k) (refusal why' {place = place'} k') e =
      let alike : error_at t why place ≡ error_at t why' place' =
      ap (stopped_with (error_at t why place)) (sym (seen_refusal t gives m why place k) ∙ e ∙ seen_refusal t gives m why' place' k') in
      let one = error_parts t why place in
      let other = error_parts t why' place' in
      let reason : why ≡ why' = sym one.0 ∙ ap (λ x. x.refusal) alike ∙ other.0 in
      let there : place ≡ place' = sym one.1 ∙ ap (λ x. x.place) alike ∙ other.1 in
      rw (reason, there)

-- places are told apart, and so are registers
pub places_apart : ToldApart (λ w. w < word_end) place_at
places_apart v w h k e = e

unfoldable is_temporary : Register → Bool
is_temporary (Register.Temp r) = true
is_temporary (Register.Local r) = false

pub registers_apart : ToldApart (λ w. w < any) register_at
unfolding is_temporary
registers_apart v w h k e = go (dec_lt v register_count) (dec_lt w register_count)
  where
    number : v % register_count ≡ w % register_count
    number = reg_of_register_at v ∙ ap reg_of e ∙ sym (reg_of_register_at w)

    go : Dec (v < register_count) → Dec (w < register_count) → v ≡ w
    go (yes a) (yes b) = omega (arith, number)
    go (yes a) (no b) = absurd (false≢true (sym (ap is_temporary (sym (register_at_temporary v a) ∙ e ∙ register_at_past w (omega arith)))))
    go (no a) (yes b) = absurd (false≢true (ap is_temporary (sym (register_at_past v (omega arith)) ∙ e ∙ register_at_temporary w b)))
    go (no a) (no b) = omega (arith, number)

-- words past the registers' are not: register_count and any are both read as local 0
pub all_words_refuted : ToldApart (λ w. w < word_end) register_at → ⊥
all_words_refuted apart =
    let one : register_count ≡ any =
    apart register_count any (omega arith) (omega arith) (register_at_past register_count (omega arith) ∙ sym (register_at_past any (omega arith))) in
    omega (arith, one)
