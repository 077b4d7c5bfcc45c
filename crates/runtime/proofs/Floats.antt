-- What a float's own tests say of NaN. Assumes nothing.
use mathlib.Core.Path.{◌≡◌, refl, sym, ◌∙◌}
use mathlib.Core.Bool.{Bool, true, false, not, ◌&&◌, ◌||◌, beq, false≢true}
use Prim.Native.Nat.{ℕ, ◌*◌}
use lib.Dec.{T, eqb}
use lib.Ieee.{Float, nan, inf, fin, Format, eq, is_nan, of_bits, nan_bits, up, down}
use lib.Ieee.Bits.{nan_bits_is}
use borrow.Author.Tests.{eq-eqb}

beq_refl : (b : Bool) → beq b b ≡ true
beq_refl true = refl
beq_refl false = refl

-- a number equals itself, and is no NaN
pub equal_number : (x : Float) → eq x x ≡ true → T (not (is_nan x))
unfolding eq is_nan
equal_number nan h = absurd (false≢true h)
equal_number (inf s) h = tt
equal_number (fin s m e) h = tt

-- what does not equal itself is NaN
pub unequal_nan : (x : Float) → eq x x ≡ false → x ≡ nan
unfolding eq
unequal_nan nan h = refl
unequal_nan (inf s) h = absurd (false≢true (sym h ∙ beq_refl s))
unequal_nan (fin s m e) h =
    let whole : ℕ = m * up e * down e in
    let t : (eqb whole whole && (beq s s || eqb whole 0)) ≡ true = rw (eq-eqb whole whole refl, beq_refl s) in
    absurd (false≢true (sym h ∙ t))

-- what is a NaN is `nan`
pub is_nan_lem : (x : Float) → is_nan x ≡ true → x ≡ nan
unfolding is_nan
is_nan_lem nan h = refl
is_nan_lem (inf s) h = absurd (false≢true h)
is_nan_lem (fin s m e) h = absurd (false≢true h)

-- bits of a NaN make it
pub nan_of_bits : (f : Format) (n : ℕ) → nan_bits f n ≡ true → of_bits f n ≡ nan
nan_of_bits f n h = is_nan_lem (of_bits f n) (sym (nan_bits_is f n) ∙ h)

pub not_nan : (b : Bool) → b ≡ false → T (not b)
not_nan false h = tt
not_nan true h = absurd (false≢true (sym h))
