-- The laws of registers, parameters and names. Crates above cite these and do not look into the definitions: a set is known by `held` and the frame
-- size. Assumes nothing.
use Rattle.std.specs.Prelude.{Result, Ok, Err}
use mathlib.Core.Path.{◌≡◌, refl, sym, ap, ◌∙◌, subst}
use mathlib.Core.Logic.{◌≢◌, ◌↔◌}
use mathlib.Core.List.{List}
use mathlib.Core.Bool.{Bool, true, false, cond, ◌&&◌, true≢false}
use Prim.Native.Nat.{ℕ, zero, suc, ◌/◌, ◌<◌, ◌≤◌}
use native.Mathlib.Omega.{arith}
use native.Mathlib.Decide.{ℕ_discrete, dec_lt}
use lib.Dec.{ltb, eqb}
use lib.ListN.{length, get_or}
use borrow.Author.Tests.{lt-ltb, le-ltb, ltb-true, ltb-false, eqb-true, eqb-false, not-false}
use Rattle.diagnostics.specs.declared.Refusal.{Refusal}
use Rattle.environment.specs.declared.Register.{Register}
use Rattle.environment.specs.declared.RegisterSet.{RegisterSet}
use Rattle.environment.specs.declared.Taken.{Taken}
use Rattle.environment.specs.Registers.{all_free, free, smallest_free, put_back, without, taken, given_back, held}
use Rattle.environment.specs.Environment.{found, allocated, freed, parameters, lookup}
use Rattle.environment.specs.Laws.{Sound, Takes, Refuses, Gives, GivesFree, Last, Undeclared}
use Rattle.environment.proofs.Parameters.{lowest, held_lower, free_upper, smallest_free_lem, parameters_lowest}
use Rattle.environment.proofs.Free.{word_of_free, length_take_out, length_put_back, take_out_same, take_out_other, put_back_same, put_back_taken, put_back_other, smallest_free_free, smallest_free_before, smallest_free_none}

-- `held` and `free` say the opposite of a register below 256
module _ (s : RegisterSet) (r : ℕ) where
  held_of_free : free s.words r ≡ true → held s r ≡ false
  unfolding held
  held_of_free h = rw h (go (ltb r 256))
    where
      go : (b : Bool) → (b && false) ≡ false
      go true = refl
      go false = refl

  held_of_not_free : r < 256 → free s.words r ≡ false → held s r ≡ true
  unfolding held
  held_of_not_free l h = rw (lt-ltb r 256 l, h)

  free_of_held : r < 256 → held s r ≡ false → free s.words r ≡ true
  unfolding held
  free_of_held l h = not-false (free s.words r) (rw (lt-ltb r 256 l) at h)

  -- none past the 256 is held
  pub not_held_past : 256 ≤ r → held s r ≡ false
  unfolding held
  not_held_past l = rw (le-ltb r 256 l)

-- `held` follows from the free registers
held_of_same_free : (s t : RegisterSet) (j : ℕ) → free t.words j ≡ free s.words j → held t j ≡ held s j
unfolding held
held_of_same_free s t j h = rw h

-- what `taken` is, by the smallest free register
abbrev taken_at : RegisterSet → Taken ℕ
taken_at s = record { set = without s (smallest_free s.words); register = Ok (smallest_free s.words) }

abbrev taken_none : RegisterSet → Taken ℕ
taken_none s = record { set = s; register = Err Refusal.Registers }

module _ (s : RegisterSet) where
  smallest_takes : smallest_free s.words < 256 → Takes s (smallest_free s.words) (without s (smallest_free s.words))
  unfolding without
  smallest_takes h =
      let m : ℕ = smallest_free s.words in
      let is_free : free s.words m ≡ true = smallest_free_free s.words h in
      let there : m / 64 < length s.words = word_of_free s.words m is_free in
      record {
        in_range = h;
        was_free = held_of_free s m is_free;
        smaller_held = λ j l. held_of_not_free s j (omega arith) (smallest_free_before s.words j l);
        now_held = held_of_not_free _ m h (take_out_same s.words m there);
        others = λ j ne. held_of_same_free s _ j (take_out_other s.words m there j ne);
        frame = refl;
        words = length_take_out s.words m;
      }

  -- a register answered is the smallest that was not held, and is held now
  pub takes : (r : ℕ) (t : RegisterSet) → taken s ≡ record { set = t; register = Ok r } → Takes s r t
  unfolding taken
  takes r t h = go (ltb (smallest_free s.words) 256) refl h
    where
      go : (b : Bool) → ltb (smallest_free s.words) 256 ≡ b → cond b (taken_at s) (taken_none s) ≡ record { set = t; register = Ok r } → Takes s r t
      go true q p =
          let registers : Ok (smallest_free s.words) ≡ Ok r = ap (λ (x : Taken ℕ). x.register) p in
          let same : smallest_free s.words ≡ r = cc in
          let sets : without s (smallest_free s.words) ≡ t = ap (λ (x : Taken ℕ). x.set) p in
          subst (λ k. Takes s k t) same (subst (λ u. Takes s (smallest_free s.words) u) sets (smallest_takes (ltb-true _ _ q)))
      go false q p =
          let registers : Err Refusal.Registers ≡ Ok r = ap (λ (x : Taken ℕ). x.register) p in
          let z : ◌≡◌ {A = ℕ} 0 1 = cc in
          absurd (omega arith)

  -- the same, of the parts of the answer
  pub register_takes : (r : ℕ) → (taken s).register ≡ Ok r → Takes s r (taken s).set
  register_takes r h = takes r (taken s).set (ap (λ (p : Result ℕ Refusal). record { set = (taken s).set; register = p }) h)

  -- a refusal is that of registers, leaves the set, and is answered only where all 256 are held
  pub take_refused : (refusal : Refusal) → (taken s).register ≡ Err refusal → Refuses s refusal (taken s).set
  unfolding taken
  take_refused refusal h = go (ltb (smallest_free s.words) 256) refl h
    where
      go : (b : Bool) → ltb (smallest_free s.words) 256 ≡ b → (cond b (taken_at s) (taken_none s)).register ≡ Err refusal →
          Refuses s refusal (cond b (taken_at s) (taken_none s)).set
      go true q p = let z : ◌≡◌ {A = ℕ} 0 1 = cc in absurd (omega arith)
      go false q p = record {
        reason = cc;
        unchanged = refl;
        all_held = λ j l. held_of_not_free s j l (smallest_free_before s.words j (omega (arith, ltb-false (smallest_free s.words) 256 q)));
      }

  -- and it is answered wherever all 256 are held
  pub take_full : ((j : ℕ) → j < 256 → held s j ≡ true) → taken s ≡ record { set = s; register = Err Refusal.Registers }
  unfolding taken
  take_full h = rw (smallest_free_none s.words (λ j l. not_free j l (free s.words j) refl))
    where
      not_free : (j : ℕ) → j < 256 → (b : Bool) → free s.words j ≡ b → b ≡ false
      not_free j l true e = absurd (true≢false (sym (h j l) ∙ held_of_free s j e))
      not_free j l false e = refl

  -- where some register is not held, one is answered
  pub take_answered : (r : ℕ) → r < 256 → held s r ≡ false → (q : ℕ) × ((taken s).register ≡ Ok q)
  take_answered r l h = go (taken s).register refl
    where
      go : (p : Result ℕ Refusal) → (taken s).register ≡ p → (q : ℕ) × ((taken s).register ≡ Ok q)
      go (Ok q) e = (q, e)
      go (Err refusal) e = absurd (true≢false (sym ((take_refused refusal e).all_held r l) ∙ h))

-- a take from a sound set
module _ {s t : RegisterSet} {r : ℕ} (k : Takes s r t) (sound : Sound s) where
  -- leaves a sound set: every held register stays below the frame size
  pub take_sound : Sound t
  take_sound = record { whole = k.words ∙ sound.whole; below = λ j h. go j h (ℕ_discrete j r) }
    where
      go : (j : ℕ) → held t j ≡ true → Dec (j ≡ r) → j < t.frame_size
      go j h (yes q) = omega (arith, k.frame)
      go j h (no q) = omega (arith, k.frame, sound.below j (sym (k.others j q) ∙ h))

  -- and where it raises the frame size, exactly the registers below it are held
  pub raised : s.frame_size < t.frame_size → (j : ℕ) → (j < t.frame_size) ↔ (held t j ≡ true)
  raised l j = (λ h. go h (ℕ_discrete j r), take_sound.below j)
    where
      go : j < t.frame_size → Dec (j ≡ r) → held t j ≡ true
      go h (yes q) = rw q k.now_held
      go h (no q) = k.others j q ∙ k.smaller_held j (omega (arith, k.frame))

-- the set of any answer is sound, a refusal's too
pub taken_sound : (s : RegisterSet) → Sound s → Sound (taken s).set
taken_sound s sound = go (taken s).register refl
  where
    go : (p : Result ℕ Refusal) → (taken s).register ≡ p → Sound (taken s).set
    go (Ok r) e = take_sound (register_takes s r e) sound
    go (Err refusal) e = rw (take_refused s refusal e).unchanged sound

-- a held register given back to a sound set is not held, and nothing else changes
pub gives : (s : RegisterSet) (r : ℕ) → Sound s → held s r ≡ true → Gives s r (given_back s r)
unfolding given_back
gives s r sound h = go (dec_lt r 256)
  where
    go : Dec (r < 256) → Gives s r (cond (ltb r 256) (record { words = put_back s.words r; frame_size = s.frame_size }) s)
    go (yes l) =
        let there : r / 64 < length s.words = omega (arith, sound.whole) in
        rw (lt-ltb r 256 l)
        (record {
          now_free = held_of_free _ r (put_back_same s.words r there (not_free (free s.words r) refl));
          others = λ j ne. held_of_same_free s _ j (put_back_other s.words r there j ne);
          frame = refl;
          words = length_put_back s.words r;
        })
      where
        not_free : (b : Bool) → free s.words r ≡ b → free s.words r ≡ false
        not_free true e = absurd (true≢false (sym h ∙ held_of_free s r e))
        not_free false e = e
    go (no l) =
        let past : 256 ≤ r = omega arith in
        rw (le-ltb r 256 past) (record { now_free = not_held_past s r past; others = λ j ne. refl; frame = refl; words = refl })

-- one that is not held is held afterwards, and nothing else changes: two give-backs are not one
pub give_free : (s : RegisterSet) (r : ℕ) → Sound s → r < 256 → held s r ≡ false → GivesFree s r (given_back s r)
unfolding given_back
give_free s r sound l h =
    let there : r / 64 < length s.words = omega (arith, sound.whole) in
    rw (lt-ltb r 256 l)
    (record {
      now_held = held_of_not_free _ r l (put_back_taken s.words r there (free_of_held s r l h));
      others = λ j ne. held_of_same_free s _ j (put_back_other s.words r there j ne);
      frame = refl;
      words = length_put_back s.words r;
    })

-- giving back leaves a sound set
pub give_sound : {s t : RegisterSet} {r : ℕ} → Gives s r t → Sound s → Sound t
give_sound {s} {t} {r} k sound = record { whole = k.words ∙ sound.whole; below = λ j h. go j h (ℕ_discrete j r) }
  where
    go : (j : ℕ) → held t j ≡ true → Dec (j ≡ r) → j < t.frame_size
    go j h (yes q) = absurd (true≢false (sym h ∙ ap (held t) q ∙ k.now_free))
    go j h (no q) = omega (arith, k.frame, sound.below j (sym (k.others j q) ∙ h))

module _ (s : RegisterSet) (r : ℕ) where
  -- a number past the last register changes nothing
  pub give_past : 256 ≤ r → given_back s r ≡ s
  unfolding given_back
  give_past l = rw (le-ltb r 256 l)

  -- a temporary is given back
  pub free_temporary : Sound s → held s r ≡ true → Gives s r (freed s (Register.Temp r))
  unfolding freed
  free_temporary sound h = gives s r sound h

  -- a local is not
  pub free_local : freed s (Register.Local r) ≡ s
  unfolding freed
  free_local = refl

-- a register of the kind is allocated from s, which leaves t
pub record Allocates (kind : ℕ → Register) (s : RegisterSet) (register : Register) (t : RegisterSet) : Type 0 where
  -- the register's number
  pub number : ℕ
  -- the register is of the kind
  pub of_kind : register ≡ kind number
  -- its number is taken
  pub takes : Takes s number t

module _ (kind : ℕ → Register) (s : RegisterSet) where
  -- a register answered is taken
  pub allocates : (register : Register) → (allocated kind s).register ≡ Ok register → Allocates kind s register (allocated kind s).set
  unfolding allocated found
  allocates register h = go (taken s).register refl h
    where
      go : (p : Result ℕ Refusal) → (taken s).register ≡ p → found kind p ≡ Ok register → Allocates kind s register (taken s).set
      go (Ok r) e q = record { number = r; of_kind = cc; takes = register_takes s r e }
      go (Err refusal) e q = let z : ◌≡◌ {A = ℕ} 0 1 = cc in absurd (omega arith)

  -- a refusal is that of the take
  pub allocation_refused : (refusal : Refusal) → (allocated kind s).register ≡ Err refusal → Refuses s refusal (allocated kind s).set
  unfolding allocated found
  allocation_refused refusal h = go (taken s).register refl h
    where
      go : (p : Result ℕ Refusal) → (taken s).register ≡ p → found kind p ≡ Err refusal → Refuses s refusal (taken s).set
      go (Ok r) e q = let z : ◌≡◌ {A = ℕ} 0 1 = cc in absurd (omega arith)
      go (Err other) e q = let same : other ≡ refusal = cc in rw same at (take_refused s other e)

  -- the set is sound, whatever is answered
  pub allocated_sound : Sound s → Sound (allocated kind s).set
  unfolding allocated
  allocated_sound sound = taken_sound s sound

-- "parameters take registers 0 upward"
module _ (n : ℕ) where
  -- exactly the first n registers are held
  pub parameters_held : n ≤ 256 → (j : ℕ) → held (parameters n) j ≡ ltb j n
  parameters_held h j = rw (parameters_lowest n) (go (dec_lt j n) (dec_lt j 256))
    where
      go : Dec (j < n) → Dec (j < 256) → held (lowest n) j ≡ ltb j n
      go (yes l) m = held_of_not_free (lowest n) j (omega arith) (held_lower n j (omega arith) l) ∙ sym (lt-ltb j n l)
      go (no l) (yes m) = held_of_free (lowest n) j (free_upper n j m (omega arith)) ∙ sym (le-ltb j n (omega arith))
      go (no l) (no m) = not_held_past (lowest n) j (omega arith) ∙ sym (le-ltb j n (omega arith))

  -- the frame size is n
  pub parameters_frame : n ≤ 256 → (parameters n).frame_size ≡ n
  parameters_frame h = rw (parameters_lowest n) (omega arith)

  -- the next parameter takes register n
  pub parameters_next : n < 256 → (allocated Register.Local (parameters n)).register ≡ Ok (Register.Local n)
  unfolding allocated found taken
  parameters_next l = rw (parameters_lowest n, smallest_free_lem n l, lt-ltb n 256 l)

-- nothing is held in the first set
pub all_free_lem : (r : ℕ) → held all_free r ≡ false
unfolding parameters
all_free_lem r = parameters_held 0 (omega arith) r ∙ le-ltb r 0 (omega arith)

-- and it is sound
pub all_free_sound : Sound all_free
unfolding all_free
all_free_sound = record { whole = refl; below = λ r h. absurd (true≢false (sym h ∙ all_free_lem r)) }

-- the parameters' set is sound, also past the 256 that have a register
pub parameters_sound : (n : ℕ) → Sound (parameters n)
unfolding parameters
parameters_sound zero = all_free_sound
parameters_sound (suc n) = allocated_sound Register.Local (parameters n) (parameters_sound n)

module _ (names : List ℕ) where
  -- one more name, which is not x, changes neither
  last_more : (n x : ℕ) (register : Register) → get_or names n 0 ≢ x → Last names n x register → Last names (suc n) x register
  last_more n x register ne k = record {
    index = k.index;
    local = k.local;
    in_range = omega (arith, k.in_range);
    named = k.named;
    later = λ j a b. go j a b (ℕ_discrete j n);
  }
    where
      go : (j : ℕ) → k.index < j → j < suc n → Dec (j ≡ n) → get_or names j 0 ≢ x
      go j a b (yes q) = rw q ne
      go j a b (no q) = k.later j a (omega arith)

  undeclared_more : (n x : ℕ) (refusal : Refusal) → get_or names n 0 ≢ x → Undeclared names n x refusal → Undeclared names (suc n) x refusal
  undeclared_more n x refusal ne k = record { reason = k.reason; none = λ j l. go j l (ℕ_discrete j n) }
    where
      go : (j : ℕ) → j < suc n → Dec (j ≡ n) → get_or names j 0 ≢ x
      go j l (yes q) = rw q ne
      go j l (no q) = k.none j (omega arith)

  -- a name found is the last of that name
  pub lookup_found : (n x : ℕ) (register : Register) → lookup names n x ≡ Ok register → Last names n x register
  unfolding lookup
  lookup_found zero x register h = let z : ◌≡◌ {A = ℕ} 0 1 = cc in absurd (omega arith)
  lookup_found (suc n) x register h = go (eqb (get_or names n 0) x) refl h (lookup_found n x register)
    where
      go : (b : Bool) → eqb (get_or names n 0) x ≡ b → cond b (Ok (Register.Local n)) (lookup names n x) ≡ Ok register →
          (lookup names n x ≡ Ok register → Last names n x register) → Last names (suc n) x register
      go true e p before = record { index = n; local = cc; in_range = omega arith; named = eqb-true _ _ e; later = λ j a b. absurd (omega arith) }
      go false e p before = last_more n x register (eqb-false _ _ e) (before p)

  -- a name refused is not there
  pub lookup_refused : (n x : ℕ) (refusal : Refusal) → lookup names n x ≡ Err refusal → Undeclared names n x refusal
  unfolding lookup
  lookup_refused zero x refusal h = record { reason = cc; none = λ j l. absurd (omega arith) }
  lookup_refused (suc n) x refusal h = go (eqb (get_or names n 0) x) refl h (lookup_refused n x refusal)
    where
      go : (b : Bool) → eqb (get_or names n 0) x ≡ b → cond b (Ok (Register.Local n)) (lookup names n x) ≡ Err refusal →
          (lookup names n x ≡ Err refusal → Undeclared names n x refusal) → Undeclared names (suc n) x refusal
      go true e p before = let z : ◌≡◌ {A = ℕ} 0 1 = cc in absurd (omega arith)
      go false e p before = undeclared_more n x refusal (eqb-false _ _ e) (before p)

  module _ (n x i : ℕ) (in_range : i < n) (named : get_or names i 0 ≡ x) where
    -- a name that is there is found
    pub lookup_declared : (register : Register) × (lookup names n x ≡ Ok register)
    lookup_declared = go (lookup names n x) refl
      where
        go : (f : Result Register Refusal) → lookup names n x ≡ f → (register : Register) × (lookup names n x ≡ Ok register)
        go (Ok register) e = (register, e)
        go (Err refusal) e = absurd ((lookup_refused n x refusal e).none i in_range named)

    -- and the last one of the name is what is found
    pub lookup_last : ((j : ℕ) → i < j → j < n → get_or names j 0 ≢ x) → lookup names n x ≡ Ok (Register.Local i)
    lookup_last later = go lookup_declared
      where
        go : (register : Register) × (lookup names n x ≡ Ok register) → lookup names n x ≡ Ok (Register.Local i)
        go (register, e) =
            let k : Last names n x register = lookup_found n x register e in
            e ∙ ap Ok (k.local ∙ ap Register.Local (same k (dec_lt k.index i) (dec_lt i k.index)))
          where
            same : (k : Last names n x register) → Dec (k.index < i) → Dec (i < k.index) → k.index ≡ i
            same k (yes a) b = absurd (k.later i a in_range named)
            same k (no a) (yes b) = absurd (later k.index b k.in_range k.named)
            same k (no a) (no b) = omega arith
