-- The laws of columns: a column read and written byte by byte, and that what is written is read back. Assumes nothing.
use Rattle.std.specs.Prelude.{Some}
use Rattle.std.specs.List.{fold}
use Rattle.std.proofs.lemmas.Bool.{and_parts}
use Rattle.std.proofs.lemmas.List.Sums.{fold-append}
use mathlib.Core.Path.{◌≡◌, refl, sym, ap, ap₂, ◌∙◌}
use mathlib.Core.List.{List, [], ◌∷◌, ◌++◌}
use mathlib.Core.Logic.{◌≢◌}
use mathlib.Core.Bool.{true}
use Prim.Native.Nat.{ℕ, zero, suc, ◌+◌, ◌*◌, ◌-◌, ◌/◌, ◌%◌, ◌^◌, ◌≤◌, ◌<◌}
use native.Mathlib.Omega.{arith}
use native.Mathlib.Nat.{add-zero}
use lib.Dec.{leb}
use lib.ListN.{length, get_or, set, take, drop, length-append, length-drop, take-append-drop}
use lib.Seq.{sets, drop-cons, length-take-le, set_comm}
use borrow.Author.Tests.{lt-ltb, le-leb, leb-true, ne_eqb}
use Rattle.listing.specs.declared.column.Column.{Column}
use Rattle.listing.specs.Column.{column_bytes, space, digit_zero, digit_nine, max_word, is_digit_byte, first, more, step, read_bytes, read_column, column_number, padding, padded, write_column}

pub digit_bounds : (b : ℕ) → is_digit_byte b ≡ true → (digit_zero ≤ b) × (b ≤ digit_nine)
digit_bounds b e =
    let both = and_parts (leb digit_zero b) (leb b digit_nine) e in
    (leb-true digit_zero b both.0, leb-true b digit_nine both.1)

-- reading: a text that is too short, one byte more
pub read_short : (n : ℕ) (c : Column) (s : List ℕ) → length s < n → read_bytes n c s ≡ Column.Bad
unfolding read_bytes
read_short zero c s h = absurd (omega arith)
read_short (suc n) c [] h = refl
read_short (suc n) c (b ∷ s) h = read_short n (step c b) s (omega arith)

pub read_more : (n : ℕ) (c : Column) (s : List ℕ) (i : ℕ) → i < length s → read_bytes (suc n) c (drop i s) ≡ read_bytes n (step c (get_or s i 0)) (drop (suc i) s)
unfolding read_bytes
read_more n c s i h = rw (drop-cons s i 0 h)

-- the bytes of a column, one after the other
pub read_steps : (c : Column) (bs s : List ℕ) → read_bytes (length bs) c (bs ++ s) ≡ fold step c bs
unfolding read_bytes
read_steps c [] s = refl
read_steps c (b ∷ bs) s = read_steps (step c b) bs s

-- a digit, after spaces and after a number
module _ (d : ℕ) (h : d < 10) where
  is_digit : is_digit_byte (digit_zero + d) ≡ true
  is_digit = rw (le-leb 48 (48 + d) (omega arith), le-leb (48 + d) 57 (omega arith))

  first_digit : step Column.Blank (digit_zero + d) ≡ Column.Number d
  unfolding step first
  first_digit =
      let n : digit_zero + d - digit_zero ≡ d = omega arith in
      let apart : digit_zero + d ≡ space → ⊥ = λ e. absurd (omega arith) in
      rw (ne_eqb _ _ apart, is_digit, n)

  more_digit : (x : ℕ) → 0 < x → 10 * x + d ≤ max_word → step (Column.Number x) (digit_zero + d) ≡ Column.Number (10 * x + d)
  unfolding step more
  more_digit x p m =
      let n : digit_zero + d - digit_zero ≡ d = omega arith in
      rw (is_digit, n, lt-ltb 0 x p, le-leb (10 * x + d) max_word m)

-- what is left of a number, read: nothing but spaces, or the number
unfoldable left : ℕ → Column
left zero = Column.Blank
left (suc x) = Column.Number (suc x)

-- one digit after what is left
left_digit : (x : ℕ) → x ≤ max_word → step (left (x / 10)) (digit_zero + x % 10) ≡ Column.Number x
unfolding left
left_digit x h = go (x / 10) refl
  where
    go : (q : ℕ) → x / 10 ≡ q → step (left q) (digit_zero + x % 10) ≡ Column.Number x
    go zero e = let n : x % 10 ≡ x = omega arith in first_digit (x % 10) (omega arith) ∙ ap Column.Number n
    go (suc q) e = let n : 10 * suc q + x % 10 ≡ x = omega arith in more_digit (x % 10) (omega arith) (suc q) (omega arith) (omega arith) ∙ ap Column.Number n

left_padding : (x : ℕ) → x ≤ max_word → step (left (x / 10)) (padding x) ≡ left x
unfolding padding left step first
left_padding zero h = refl
left_padding (suc x) h = rw (ne_eqb (suc x) 0 (λ e. absurd (omega arith))) (left_digit (suc x) h)

padded_read : (n x : ℕ) → x < 10 ^ n → x ≤ max_word → fold step Column.Blank (padded n x) ≡ left x
unfolding padded left
padded_read zero x f h = let e : x ≡ 0 = omega arith in rw e
padded_read (suc n) x f h =
    let ih : fold step Column.Blank (padded n (x / 10)) ≡ left (x / 10) = padded_read n (x / 10) (omega arith) (omega arith) in
    fold-append step Column.Blank (padded n (x / 10)) (padding x ∷ []) ∙ rw ih (left_padding x h)

pub length_padded : (n x : ℕ) → length (padded n x) ≡ n
unfolding padded
length_padded zero x = refl
length_padded (suc n) x = omega (arith, length-append (padded n (x / 10)) (padding x ∷ []), length_padded n (x / 10))

pub length_column : (x : ℕ) → length (write_column x) ≡ column_bytes
unfolding write_column
length_column x = omega (arith, length-append (padded 10 (x / 10)) ((digit_zero + x % 10) ∷ []), length_padded 10 (x / 10))

steps_column : (x : ℕ) → x ≤ max_word → fold step Column.Blank (write_column x) ≡ Column.Number x
unfolding write_column
steps_column x h =
    let small : x / 10 < 10 ^ 10 = omega arith in
    fold-append step Column.Blank (padded 10 (x / 10)) ((digit_zero + x % 10) ∷ []) ∙ rw (padded_read 10 (x / 10) small (omega arith)) (left_digit x h)

-- A number that is written is read back.
pub column_back : (x : ℕ) (s : List ℕ) → x ≤ max_word → read_column (write_column x ++ s) ≡ Column.Number x
unfolding read_column
column_back x s h =
    ap (λ (n : ℕ). read_bytes n Column.Blank (write_column x ++ s)) (sym (length_column x))
    ∙ read_steps Column.Blank (write_column x) s ∙ steps_column x h

pub number_back : (x : ℕ) (s : List ℕ) → x ≤ max_word → column_number (read_column (write_column x ++ s)) ≡ Some x
unfolding column_number
number_back x s h = ap column_number (column_back x s h)

-- a column is what its bytes say, one after the other; a text that is too short has none
pub column_folded : (s : List ℕ) {column : List ℕ} → column_bytes ≤ length s → column ≡ take column_bytes s → read_column s ≡ fold step Column.Blank column
unfolding read_column
column_folded s {column} h e =
    rw e (ap₂ (λ (n : ℕ) (l : List ℕ). read_bytes n Column.Blank l) (sym (length-take-le column_bytes s h)) (sym (take-append-drop column_bytes s))
    ∙ read_steps Column.Blank (take column_bytes s) (drop column_bytes s))

pub column_short : (s : List ℕ) (at : ℕ) → length s < at + column_bytes → read_column (drop at s) ≡ Column.Bad
unfolding read_column
column_short s at h = rw (read_short column_bytes Column.Blank (drop at s) (omega (arith, length-drop at s)))

-- writing: the last of a run of stores may be the first
sets_last : (l : List ℕ) (i : ℕ) (vs : List ℕ) (v : ℕ) → sets l i (vs ++ (v ∷ [])) ≡ sets (set l (i + length vs) v) i vs
sets_last l i [] v = rw (add-zero i)
sets_last l i (u ∷ vs) v =
    let e : suc i + length vs ≡ i + suc (length vs) = omega arith in
    let apart : i ≢ i + suc (length vs) = λ q. absurd (omega arith) in
    sets_last (set l i u) (suc i) vs v
    ∙ ap (λ (n : ℕ). sets (set (set l i u) n v) (suc i) vs) e
    ∙ ap (λ (x : List ℕ). sets x (suc i) vs) (set_comm l i (i + suc (length vs)) u v apart)

-- what is left of a number, in n bytes from `at` on
module _ (l : List ℕ) (at : ℕ) where
  pub padded_more : (n x : ℕ) → sets l at (padded (suc n) x) ≡ sets (set l (at + n) (padding x)) at (padded n (x / 10))
  unfolding padded
  padded_more n x =
      sets_last l at (padded n (x / 10)) (padding x)
      ∙ ap (λ (m : ℕ). sets (set l (at + m) (padding x)) at (padded n (x / 10))) (length_padded n (x / 10))

  pub column_last : (x : ℕ) → sets (set l (at + (column_bytes - 1)) (digit_zero + x % 10)) at (padded (column_bytes - 1) (x / 10)) ≡ sets l at (write_column x)
  unfolding write_column
  column_last x =
      sym (sets_last l at (padded 10 (x / 10)) (digit_zero + x % 10)
      ∙ ap (λ (m : ℕ). sets (set l (at + m) (digit_zero + x % 10)) at (padded 10 (x / 10))) (length_padded 10 (x / 10)))
