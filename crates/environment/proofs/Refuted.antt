-- What the laws of registers and names say can fail: each of their records is false of small sets, or of two names, with one thing wrong.
-- Assumes nothing.
use Prim.Native.Nat.{ℕ}
use native.Mathlib.Omega.{arith}
use mathlib.Core.Path.{◌≡◌, refl, sym, ap}
use mathlib.Core.Bool.{true≢false}
use mathlib.Core.List.{[], ◌∷◌}
use lib.ListN.{get_or}
use Rattle.diagnostics.specs.declared.Refusal.{Refusal}
use Rattle.environment.specs.declared.Register.{Register}
use Rattle.environment.specs.declared.RegisterSet.{RegisterSet}
use Rattle.environment.specs.Bits.{bit}
use Rattle.environment.specs.Registers.{free, held}
use Rattle.environment.specs.Laws.{Sound, Takes, Refuses, Gives, GivesFree, Last, Undeclared}

-- a word of which no register is held, and one of which the first is, or the first two are
abbrev none_held : ℕ
none_held = 18446744073709551615

abbrev one_held : ℕ
one_held = 18446744073709551614

abbrev two_held : ℕ
two_held = 18446744073709551612

-- a set with this first word, and none held in the others
abbrev set : ℕ → ℕ → RegisterSet
set word frame = record { words = word ∷ none_held ∷ none_held ∷ none_held ∷ []; frame_size = frame }

-- the same with a fifth word
abbrev longer : ℕ → ℕ → RegisterSet
longer word frame = record { words = word ∷ none_held ∷ none_held ∷ none_held ∷ none_held ∷ []; frame_size = frame }

-- a set of which all 256 are held but for the first word, which is this
abbrev filled : ℕ → RegisterSet
filled word = record { words = word ∷ 0 ∷ 0 ∷ 0 ∷ []; frame_size = 256 }

-- Sound: register 0 is held, and the frame size is 0
pub below_refuted : Sound (set one_held 0) → ⊥
unfolding held free bit
below_refuted p = omega (arith, p.below 0 refl)

-- there are three words
pub whole_refuted : Sound (record { words = none_held ∷ none_held ∷ none_held ∷ []; frame_size = 0 }) → ⊥
whole_refuted p = omega (arith, p.whole)

-- Takes: register 1 where 0 is free
pub smallest_refuted : Takes (set none_held 0) 1 (set 18446744073709551613 2) → ⊥
unfolding held free bit
smallest_refuted p = true≢false (sym (p.smaller_held 0 (omega arith)))

-- the register stays free
pub taken_refuted : Takes (set none_held 0) 0 (set none_held 1) → ⊥
unfolding held free bit
taken_refuted p = true≢false (sym p.now_held)

-- another is taken with it
pub alone_refuted : Takes (set none_held 0) 0 (set two_held 1) → ⊥
unfolding held free bit
alone_refuted p = true≢false (p.others 1 (λ e. omega arith))

-- the frame size is not raised
pub frame_refuted : Takes (set none_held 0) 0 (set one_held 0) → ⊥
frame_refuted p = omega (arith, p.frame)

-- the register is held already
pub held_refuted : Takes (set one_held 1) 0 (set one_held 1) → ⊥
unfolding held free bit
held_refuted p = true≢false p.was_free

-- there is no such register
pub range_refuted : (s t : RegisterSet) → Takes s 256 t → ⊥
range_refuted s t p = omega (arith, p.in_range)

-- a word is added
pub taken_words_refuted : Takes (set none_held 0) 0 (longer one_held 1) → ⊥
taken_words_refuted p = omega (arith, p.words)

-- Refuses: register 0 is free
pub full_refuted : Refuses (filled 1) Refusal.Registers (filled 1) → ⊥
unfolding held free bit
full_refuted p = true≢false (sym (p.all_held 0 (omega arith)))

-- another refusal
pub reason_refuted : Refuses (filled 0) Refusal.Undeclared (filled 0) → ⊥
reason_refuted p = let e : Refusal.Undeclared ≡ Refusal.Registers = p.reason in let z : ◌≡◌ {A = ℕ} 0 1 = cc in omega arith

-- the set is changed
pub unchanged_refuted : Refuses (filled 0) Refusal.Registers (filled 1) → ⊥
unchanged_refuted p = omega (arith, ap (λ (s : RegisterSet). get_or s.words 0 0) p.unchanged)

-- Gives: the register stays held
pub given_refuted : Gives (set two_held 2) 1 (set two_held 2) → ⊥
unfolding held free bit
given_refuted p = true≢false p.now_free

-- another is given back with it
pub others_refuted : Gives (set two_held 2) 1 (set none_held 2) → ⊥
unfolding held free bit
others_refuted p = true≢false (sym (p.others 0 (λ e. omega arith)))

-- the frame size falls
pub stays_refuted : Gives (set two_held 2) 1 (set one_held 1) → ⊥
stays_refuted p = omega (arith, p.frame)

-- a word is added
pub given_words_refuted : Gives (set two_held 2) 1 (longer one_held 2) → ⊥
given_words_refuted p = omega (arith, p.words)

-- GivesFree: nothing changes
pub shown_refuted : GivesFree (set none_held 1) 0 (set none_held 1) → ⊥
unfolding held free bit
shown_refuted p = true≢false (sym p.now_held)

-- another is held with it
pub free_others_refuted : GivesFree (set none_held 2) 0 (set two_held 2) → ⊥
unfolding held free bit
free_others_refuted p = true≢false (p.others 1 (λ e. omega arith))

-- the frame size falls
pub free_stays_refuted : GivesFree (set none_held 1) 0 (set one_held 0) → ⊥
free_stays_refuted p = omega (arith, p.frame)

-- a word is added
pub free_words_refuted : GivesFree (set none_held 1) 0 (longer one_held 1) → ⊥
free_words_refuted p = omega (arith, p.words)

-- Last: the first of two parameters of a name
pub first_refuted : Last (7 ∷ 7 ∷ []) 2 7 (Register.Local 0) → ⊥
first_refuted p =
    let e : Register.Local 0 ≡ Register.Local p.index = p.local in
    let i : 0 ≡ p.index = cc in
    p.later 1 (omega arith) (omega arith) refl

-- a parameter of another name
pub name_refuted : Last (7 ∷ 8 ∷ []) 2 7 (Register.Local 1) → ⊥
name_refuted p =
    let e : Register.Local 1 ≡ Register.Local p.index = p.local in
    let i : p.index ≡ 1 = cc in
    omega (arith, rw i at p.named)

-- one that is no parameter
pub parameter_refuted : Last (7 ∷ 7 ∷ []) 1 7 (Register.Local 1) → ⊥
parameter_refuted p =
    let e : Register.Local 1 ≡ Register.Local p.index = p.local in
    let i : 1 ≡ p.index = cc in
    omega (arith, p.in_range)

-- a temporary
pub local_refuted : Last (7 ∷ []) 1 7 (Register.Temp 0) → ⊥
local_refuted p =
    let e : Register.Temp 0 ≡ Register.Local p.index = p.local in
    let z : ◌≡◌ {A = ℕ} 0 1 = cc in
    omega arith

-- Undeclared: a parameter has the name
pub declared_refuted : Undeclared (8 ∷ 7 ∷ []) 2 7 Refusal.Undeclared → ⊥
declared_refuted p = p.none 1 (omega arith) refl

-- another refusal
pub refusal_refuted : Undeclared (8 ∷ []) 1 7 Refusal.Registers → ⊥
refusal_refuted p = let e : Refusal.Registers ≡ Refusal.Undeclared = p.reason in let z : ◌≡◌ {A = ℕ} 0 1 = cc in omega arith
