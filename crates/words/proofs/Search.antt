-- The laws of a search: the same words, and the first record that is a given one. Assumes nothing.
use Rattle.std.specs.Prelude.{Option, Some, None}
use mathlib.Core.Path.{◌≡◌, refl, sym, ap₂, ◌∙◌}
use mathlib.Core.List.{List, [], ◌∷◌}
use mathlib.Core.Bool.{Bool, true, false, cond, ◌&&◌}
use Prim.Native.Nat.{ℕ, zero, suc, ◌+◌, ◌*◌, ◌-◌, ◌≤◌, ◌<◌}
use native.Mathlib.Omega.{arith}
use native.Mathlib.Nat.{add-zero, sub-zero}
use native.Mathlib.Numerals.{add-one}
use native.Mathlib.Decide.{ℕ_discrete, dec_lt}
use lib.ListN.{length, get_or, take, drop, drop_of_length-le, get_or-eq_default}
use lib.Seq.{drop-cons}
use lib.Dec.{ltb, eqb}
use borrow.Author.Tests.{eq-eqb, ne_eqb, lt-ltb, le-ltb, eqb-true, ltb-true}
use Rattle.words.specs.Records.{capacity, record_at, same_words, is_at, position_from, position, first_position, last_position, First}

false≢true : false ≡ true → ⊥
false≢true e = let z : ◌≡◌ {A = ℕ} 0 1 = cc in omega arith

and_true : (a b : Bool) → (a && b) ≡ true → (a ≡ true) × (b ≡ true)
and_true true b e = (refl, e)
and_true false b e = absurd (false≢true e)

and_false : (a : Bool) → (a && false) ≡ false
and_false true = refl
and_false false = refl

-- the same words are equal lists, and equal lists the same words
pub same_equal : (xs ys : List ℕ) → same_words xs ys ≡ true → xs ≡ ys
unfolding same_words
same_equal [] [] e = refl
same_equal [] (y ∷ ys) e = absurd (false≢true e)
same_equal (x ∷ xs) [] e = absurd (false≢true e)
same_equal (x ∷ xs) (y ∷ ys) e =
    let both = and_true (eqb x y) (same_words xs ys) e in
    ap₂ ◌∷◌ (eqb-true x y both.0) (same_equal xs ys both.1)

pub equal_same : (xs : List ℕ) → same_words xs xs ≡ true
unfolding same_words
equal_same [] = refl
equal_same (x ∷ xs) = rw (eq-eqb x x refl) (equal_same xs)

-- whoever says true of equal lists, and of no others, says what `same_words` does
pub same_words_lem : (s t : List ℕ) (r : Bool) → (r ≡ true → s ≡ t) → (s ≡ t → r ≡ true) → r ≡ same_words s t
same_words_lem s t true only all = sym (rw (only refl) (equal_same t))
same_words_lem s t false only all = go (same_words s t) refl
  where
    go : (b : Bool) → same_words s t ≡ b → false ≡ same_words s t
    go true e = absurd (false≢true (all (same_equal s t e)))
    go false e = sym e

-- the words from `at` on against r, of which k are passed
module _ (ws : List ℕ) (at : ℕ) (r : List ℕ) where
  unfoldable pub rest_same : ℕ → Bool
  rest_same k = same_words (take (length r - k) (drop (at + k) ws)) (drop k r)

  pub same_start : same_words (take (length r) (drop at ws)) r ≡ rest_same 0
  unfolding rest_same
  same_start = rw (sub-zero, add-zero)

  module _ (fits : at + length r ≤ length ws) (k : ℕ) (h : k < length r) where
    next : rest_same k ≡ (eqb (get_or ws (at + k) 0) (get_or r k 0) && rest_same (k + 1))
    unfolding same_words rest_same
    next =
        let n : length r - k ≡ suc (length r - suc k) = omega arith in
        let inside : at + k < length ws = omega arith in
        let e : at + (k + 1) ≡ suc (at + k) = omega arith in
        rw (n, e, add-one k, drop-cons ws (at + k) 0 inside, drop-cons r k 0 h)

    pub same_more : get_or ws (at + k) 0 ≡ get_or r k 0 → rest_same k ≡ rest_same (k + 1)
    same_more e = next ∙ rw (eq-eqb _ _ e)

    pub same_differs : (get_or ws (at + k) 0 ≡ get_or r k 0 → ⊥) → rest_same k ≡ false
    same_differs e = next ∙ rw (ne_eqb _ _ e)

  -- words that differ from some place on differ
  pub same_from : at + length r ≤ length ws → (k : ℕ) → k ≤ length r → rest_same k ≡ false → rest_same 0 ≡ false
  same_from fits zero h e = e
  same_from fits (suc k) h e =
      let n : k + 1 ≡ suc k = omega arith in
      same_from fits k (omega arith) (next fits k (omega arith) ∙ rw (n, e) (and_false (eqb (get_or ws (at + k) 0) (get_or r k 0))))

  pub same_end : (k : ℕ) → length r ≤ k → rest_same k ≡ true
  unfolding same_words rest_same
  same_end k h =
      let n : length r - k ≡ 0 = omega arith in
      rw (n, drop_of_length-le r h)

-- what a search from any place on gives
pub first : (ws r : List ℕ) (n p : ℕ) → First ws r n p (position_from ws r n p)
unfolding position_from
first ws r zero p = record { start = omega arith; within = omega arith; found = λ h. absurd (omega arith); before = λ j a b. absurd (omega arith) }
first ws r (suc n) p = go (is_at ws r p) refl (first ws r n (suc p))
  where
    go : (b : Bool) → is_at ws r p ≡ b → First ws r n (suc p) (position_from ws r n (suc p)) → First ws r (suc n) p (cond b p (position_from ws r n (suc p)))
    go true e ih = record { start = omega arith; within = omega arith; found = λ h. e; before = λ j a b. absurd (omega arith) }
    go false e ih =
        record {
          start = omega (arith, ih.start);
          within = omega (arith, ih.within);
          found = λ h. ih.found (omega arith);
          before = λ j a b. near j a b (ℕ_discrete p j);
        }
      where
        near : (j : ℕ) → p ≤ j → j < position_from ws r n (suc p) → Dec (p ≡ j) → is_at ws r j ≡ false
        near j a b (yes q) = rw q at e
        near j a b (no q) = ih.before j (omega arith) b

pub position_first : (ws r : List ℕ) (n : ℕ) → First ws r n 0 (position ws r n)
unfolding position
position_first ws r n = first ws r n 0

-- a record that is found is whole, and is r
pub is_record : (ws r : List ℕ) (p : ℕ) → is_at ws r p ≡ true → (p < capacity (length r) ws) × (record_at (length r) ws p ≡ r)
unfolding is_at
is_record ws r p e =
    let both = and_true (ltb p (capacity (length r) ws)) (same_words (record_at (length r) ws p) r) e in
    (ltb-true _ _ both.0, same_equal _ _ both.1)

-- a whole record that is r is found
pub record_is : (ws r : List ℕ) (p : ℕ) → p < capacity (length r) ws → record_at (length r) ws p ≡ r → is_at ws r p ≡ true
unfolding is_at
record_is ws r p h e = rw (lt-ltb p (capacity (length r) ws) h, e) (equal_same r)

-- of a whole record, its words are asked
pub whole_is : (ws r : List ℕ) (p : ℕ) → p < capacity (length r) ws → is_at ws r p ≡ same_words (take (length r) (drop (length r * p) ws)) r
unfolding is_at record_at
whole_is ws r p h = rw (lt-ltb p (capacity (length r) ws) h)

-- a search starts, goes on, and ends
pub search_start : (ws r : List ℕ) (count : ℕ) → position_from ws r (count - 0) 0 ≡ position ws r count
unfolding position
search_start ws r count = rw sub-zero

module _ (ws r : List ℕ) (count p : ℕ) {q : ℕ} (i : position_from ws r (count - p) p ≡ q) where
  pub search_found : p < count → is_at ws r p ≡ true → p ≡ q
  unfolding position_from
  search_found h t = let e : count - p ≡ suc (count - suc p) = omega arith in rw (e, t) at i

  pub search_more : p < count → is_at ws r p ≡ false → position_from ws r (count - (p + 1)) (p + 1) ≡ q
  unfolding position_from
  search_more h t =
      let e : count - p ≡ suc (count - suc p) = omega arith in
      let n : p + 1 ≡ suc p = omega arith in
      rw n (rw (e, t) at i)

  pub search_end : p ≤ count → count ≤ p → count ≡ q
  unfolding position_from
  search_end l h =
      let e : count - p ≡ 0 = omega arith in
      let same : count ≡ p = omega arith in
      same ∙ (rw e at i)

-- past the last whole record nothing is found
past_none : (ws r : List ℕ) (n p : ℕ) → capacity (length r) ws ≤ p → position_from ws r n p ≡ p + n
unfolding position_from is_at
past_none ws r zero p h = omega arith
past_none ws r (suc n) p h = rw (le-ltb p (capacity (length r) ws) h) (past_none ws r n (suc p) (omega arith) ∙ omega arith)

pub search_past : (ws r : List ℕ) (count p : ℕ) {q : ℕ} → position_from ws r (count - p) p ≡ q → p < count → capacity (length r) ws ≤ p → count ≡ q
search_past ws r count p i l h = let e : p + (count - p) ≡ count = omega arith in sym e ∙ sym (past_none ws r (count - p) p h) ∙ i

-- what the search for a record answers, by the place where it ends
module _ (ws r : List ℕ) (count : ℕ) {p : ℕ} (e : p ≡ position ws r count) where
  pub first_some : p < count → Some p ≡ first_position ws r count
  unfolding first_position
  first_some h = rw (← e, lt-ltb p count h)

  pub first_none : count ≤ p → None ≡ first_position ws r count
  unfolding first_position
  first_none h = rw (← e, le-ltb p count h)

-- and what that answer says of the place
module _ (ws r : List ℕ) (count : ℕ) where
  pub first_is : {p : ℕ} → Some p ≡ first_position ws r count → (position ws r count ≡ p) × (p < count)
  unfolding first_position
  first_is {p} e = go (ltb (position ws r count) count) refl e
    where
      go : (b : Bool) → ltb (position ws r count) count ≡ b → Some p ≡ cond b (Some (position ws r count)) None → (position ws r count ≡ p) × (p < count)
      go true t e = let same : position ws r count ≡ p = cc in (same, rw same at (ltb-true _ _ t))
      go false t e = let z : ◌≡◌ {A = ℕ} 0 1 = cc in absurd (omega arith)

  pub first_is_none : None ≡ first_position ws r count → ltb (position ws r count) count ≡ false
  unfolding first_position
  first_is_none e = go (ltb (position ws r count) count) refl e
    where
      go : (b : Bool) → ltb (position ws r count) count ≡ b → None ≡ cond b (Some (position ws r count)) None → b ≡ false
      go true t e = let z : ◌≡◌ {A = ℕ} 0 1 = cc in absurd (omega arith)
      go false t e = refl

-- the search from the end: the word is found, the search goes on, and it ends
module _ (ws : List ℕ) (x i : ℕ) {q : Option ℕ} (e : last_position ws i x ≡ q) where
  pub last_found : 0 < i → get_or ws (i - 1) 0 ≡ x → Some (i - 1) ≡ q
  unfolding last_position
  last_found h t = let n : i ≡ suc (i - 1) = omega arith in rw (eq-eqb _ _ t) at (rw n at e)

  pub last_more : 0 < i → (get_or ws (i - 1) 0 ≡ x → ⊥) → last_position ws (i - 1) x ≡ q
  unfolding last_position
  last_more h t = let n : i ≡ suc (i - 1) = omega arith in rw (ne_eqb _ _ t) at (rw n at e)

  pub last_end : i ≡ 0 → None ≡ q
  unfolding last_position
  last_end z = rw z at e

-- past the last word all are 0
pub last_zero : (ws : List ℕ) (n : ℕ) → length ws < n → Some (n - 1) ≡ last_position ws n 0
last_zero ws n h = last_found ws 0 n refl (omega arith) (get_or-eq_default ws 0 (omega arith))

-- and none is another
pub last_past : (ws : List ℕ) (x i n : ℕ) → (x ≡ 0 → ⊥) → length ws ≤ i → i ≤ n → last_position ws i x ≡ last_position ws n x
unfolding last_position
last_past ws x i zero o h l = let e : i ≡ 0 = omega arith in rw e
last_past ws x i (suc n) o h l = go (dec_lt n i) (last_past ws x i n o h)
  where
    go : Dec (n < i) → (i ≤ n → last_position ws i x ≡ last_position ws n x) → last_position ws i x ≡ last_position ws (suc n) x
    go (yes b) ih = let e : i ≡ suc n = omega arith in rw e
    go (no b) ih =
        let below : i ≤ n = omega arith in
        let past : length ws ≤ n = omega arith in
        ih below ∙ rw (get_or-eq_default ws 0 past, ne_eqb 0 x (λ e. o (sym e)))
