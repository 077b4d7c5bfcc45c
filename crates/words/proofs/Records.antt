-- The laws of records, once, over the width w. Each follows from what `sets` leaves at an index: before the run, in it and past it.
-- Assumes nothing.
use Rattle.std.specs.Prelude.{Ok, Err, min}
use Rattle.std.proofs.lemmas.List.{take_all}
use mathlib.Core.Path.{◌≡◌, refl, sym, ap, ◌∙◌}
use mathlib.Core.List.{List, [], ◌∷◌, ◌++◌, append_assoc}
use mathlib.Core.Logic.{◌≢◌}
use Prim.Native.Nat.{ℕ, zero, suc, ◌+◌, ◌*◌, ◌-◌, ◌≤◌, ◌<◌}
use native.Mathlib.Omega.{arith}
use native.Mathlib.Nat.{add-zero, mul-suc, mul-le-mul_left, mul_comm, le-div_iff_mul-le, div-zero}
use native.Mathlib.Decide.{dec_lt}
use native.Mathlib.Numerals.{add-one}
use lib.ListN.{length, get_or, set, take, drop, length-set, drop_of_length-le}
use lib.Seq.{take-nil, set_comm, get_or-set_same, ext_get_or, sets, length-sets, sets-eq, take-set-le, drop-set-lt, set_out, drop-cons, get_or-take, get_or-drop, take_at, drop_at, length-take-le}
use borrow.Author.Tests.{lt-ltb, le-ltb, ltb-true}
use mathlib.Core.Bool.{Bool, cond, ◌&&◌, true, false}
use lib.Dec.{ltb}
use Rattle.diagnostics.specs.declared.Refusal.{Refusal}
use Rattle.words.specs.declared.Appended.{Appended}
use Rattle.words.specs.Records.{capacity, record_at, put_record, append, Buffer, buffer}

-- a run of stores that starts past the end changes nothing
pub sets_out : (l : List ℕ) (i : ℕ) (vs : List ℕ) → length l ≤ i → sets l i vs ≡ l
sets_out l i [] h = refl
sets_out l i (v ∷ vs) h =
    let n : length (set l i v) ≤ suc i = omega (arith, length-set l i v) in
    sets_out (set l i v) (suc i) vs n ∙ set_out l i v h

-- a run of stores that reaches the end is its part up to there
pub sets_fitting : (l : List ℕ) (i n : ℕ) (vs : List ℕ) → length l ≤ i + n → sets l i (take n vs) ≡ sets l i vs
sets_fitting l i n [] h = rw (take-nil n)
sets_fitting l i zero (v ∷ vs) h = sym (sets_out l i (v ∷ vs) (omega arith))
sets_fitting l i (suc n) (v ∷ vs) h = sets_fitting (set l i v) (suc i) n vs (omega (arith, length-set l i v))

-- and so is the part that fits, which is all of it where it does not reach the end
pub sets_least : (l : List ℕ) (i n k : ℕ) (vs : List ℕ) → length l ≤ i + n → k ≡ min (length vs) n → sets l i (take k vs) ≡ sets l i vs
sets_least l i n k vs h e = go (dec_lt k (length vs))
  where
    go : Dec (k < length vs) → sets l i (take k vs) ≡ sets l i vs
    go (yes b) = sets_fitting l i k vs (omega arith)
    go (no b) = ap (sets l i) (take_all k vs (omega arith))

-- a run of stores, from index i + k on: one more, and none left
module _ (l : List ℕ) (i k : ℕ) (vs : List ℕ) where
  pub sets_more : k < length vs → sets l (i + k) (drop k vs) ≡ sets (set l (i + k) (get_or vs k 0)) (i + (k + 1)) (drop (k + 1) vs)
  sets_more h =
      let e : i + (k + 1) ≡ suc (i + k) = omega arith in
      rw (e, add-one k, drop-cons vs k 0 h)

  pub sets_end : length vs ≤ k → sets l (i + k) (drop k vs) ≡ l
  sets_end h = rw (drop_of_length-le vs h)

take_sets : (n : ℕ) (l : List ℕ) (i : ℕ) (vs : List ℕ) → n ≤ i → take n (sets l i vs) ≡ take n l
take_sets n l i [] h = refl
take_sets n l i (v ∷ vs) h = take_sets n (set l i v) (suc i) vs (omega arith) ∙ take-set-le n l i v h

drop_sets : (n : ℕ) (l : List ℕ) (i : ℕ) (vs : List ℕ) → i + length vs ≤ n → drop n (sets l i vs) ≡ drop n l
drop_sets n l i [] h = refl
drop_sets n l i (v ∷ vs) h = drop_sets n (set l i v) (suc i) vs (omega arith) ∙ drop-set-lt n l i v (omega arith)

-- what a run of stores leaves at an index
module _ (l : List ℕ) (i : ℕ) (vs : List ℕ) where
  get_or_sets_before : (j : ℕ) → j < i → get_or (sets l i vs) j 0 ≡ get_or l j 0
  get_or_sets_before j h = sym (get_or-take i (sets l i vs) j 0 h) ∙ ap (λ (x : List ℕ). get_or x j 0) (take_sets i l i vs (omega arith)) ∙ get_or-take i l j 0 h

  get_or_sets_past : (j : ℕ) → i + length vs ≤ j → get_or (sets l i vs) j 0 ≡ get_or l j 0
  get_or_sets_past j h =
      rw (← add-zero j)
      (sym (get_or-drop j (sets l i vs) 0 0) ∙ ap (λ (x : List ℕ). get_or x 0 0) (drop_sets j l i vs h) ∙ get_or-drop j l 0 0)

get_or_sets_in : (l : List ℕ) (i : ℕ) (vs : List ℕ) (k : ℕ) → k < length vs → i + k < length l → get_or (sets l i vs) (i + k) 0 ≡ get_or vs k 0
get_or_sets_in l i [] k h g = absurd (omega arith)
get_or_sets_in l i (v ∷ vs) zero h g =
    rw (add-zero i) (get_or_sets_before (set l i v) (suc i) vs i (omega arith) ∙ get_or-set_same l i v 0 (omega arith))
get_or_sets_in l i (v ∷ vs) (suc k) h g =
    let e : i + suc k ≡ suc i + k = omega arith in
    rw e (get_or_sets_in (set l i v) (suc i) vs k (omega arith) (omega (arith, length-set l i v)))

-- a later run of stores over an earlier one of its length
sets_sets : (l : List ℕ) (i : ℕ) (vs us : List ℕ) → length vs ≡ length us → sets (sets l i vs) i us ≡ sets l i us
sets_sets l i vs us e =
    ext_get_or 0 (sets (sets l i vs) i us) (sets l i us)
    (length-sets (sets l i vs) i us ∙ length-sets l i vs ∙ sym (length-sets l i us))
    (λ j h. at j (omega (arith, h, length-sets (sets l i vs) i us, length-sets l i vs)) (dec_lt j i) (dec_lt j (i + length us)))
  where
    at : (j : ℕ) → j < length l → Dec (j < i) → Dec (j < i + length us) → get_or (sets (sets l i vs) i us) j 0 ≡ get_or (sets l i us) j 0
    at j h (yes b) d = get_or_sets_before (sets l i vs) i us j b ∙ get_or_sets_before l i vs j b ∙ sym (get_or_sets_before l i us j b)
    at j h (no b) (yes d) =
        let s : i + (j - i) ≡ j = omega arith in
        let k : j - i < length us = omega arith in
        let g : i + (j - i) < length l = omega arith in
        let f : i + (j - i) < length (sets l i vs) = omega (arith, length-sets l i vs) in
        rw (← s) (get_or_sets_in (sets l i vs) i us (j - i) k f ∙ sym (get_or_sets_in l i us (j - i) k g))
    at j h (no b) (no d) = get_or_sets_past (sets l i vs) i us j (omega arith) ∙ get_or_sets_past l i vs j (omega arith) ∙ sym (get_or_sets_past l i us j (omega arith))

-- stores before a run stay out of its way, and so do runs of stores
set_sets : (l : List ℕ) (i : ℕ) (v : ℕ) (k : ℕ) (us : List ℕ) → i < k → sets (set l i v) k us ≡ set (sets l k us) i v
set_sets l i v k [] h = refl
set_sets l i v k (u ∷ us) h =
    let apart : i ≢ k = λ e. absurd (omega arith) in
    ap (λ (x : List ℕ). sets x (suc k) us) (set_comm l i k v u apart) ∙ set_sets (set l k u) i v (suc k) us (omega arith)

sets_comm : (l : List ℕ) (i : ℕ) (vs : List ℕ) (k : ℕ) (us : List ℕ) → i + length vs ≤ k → sets (sets l i vs) k us ≡ sets (sets l k us) i vs
sets_comm l i [] k us h = refl
sets_comm l i (v ∷ vs) k us h =
    sets_comm (set l i v) (suc i) vs k us (omega arith)
    ∙ ap (λ (x : List ℕ). sets x (suc i) vs) (set_sets l i v k us (omega arith))

take_drop : (w n : ℕ) (l : List ℕ) → take w (drop n l) ≡ drop n (take (n + w) l)
take_drop w zero l = let e : zero + w ≡ w = omega arith in rw e
take_drop zero (suc n) [] = let e : suc n + zero ≡ suc n = omega arith in rw e
take_drop (suc w) (suc n) [] = let e : suc n + suc w ≡ suc (n + suc w) = omega arith in rw e
take_drop w (suc n) (x ∷ l) = let e : suc n + w ≡ suc (n + w) = omega arith in rw e (take_drop w n l)

-- records q and p, q first: q ends where p starts, or before
pub ends_before : (w : ℕ) {q p : ℕ} → q < p → w * q + w ≤ w * p
ends_before w {q} {p} h = rw (← mul-suc w q) (mul-le-mul_left w h)

-- a record has place exactly where its index is below the capacity
pub room : (w : ℕ) (ws : List ℕ) (p : ℕ) → p < capacity w ws → w * p + w ≤ length ws
unfolding capacity
room zero ws p h = absurd (omega (arith, div-zero (length ws)))
room (suc w) ws p h =
    let e : suc p * suc w ≤ length ws = (le-div_iff_mul-le {k = suc w} (omega arith)).0 h in
    rw (← mul-suc (suc w) p, mul_comm (suc w) (suc p)) e

module _ (w : ℕ) (ws : List ℕ) (p : ℕ) (r : List ℕ) where
  pub record_length : length (put_record w ws p r) ≡ length ws
  unfolding put_record
  record_length = length-sets ws (w * p) r

  pub record_capacity : (v : ℕ) → capacity v (put_record w ws p r) ≡ capacity v ws
  unfolding capacity
  record_capacity v = rw record_length

  pub record_same : length r ≡ w → p < capacity w ws → record_at w (put_record w ws p r) p ≡ r
  unfolding put_record record_at
  record_same e h =
      let fits : w * p + length r ≤ length ws = omega (arith, room w ws p h) in
      let start : length (take (w * p) ws) ≡ w * p = length-take-le (w * p) ws (omega arith) in
      ap (λ l. take w (drop (w * p) l)) (sets-eq r ws (w * p) fits ∙ append_assoc (take (w * p) ws) r (drop (w * p + length r) ws))
      ∙ ap (take w) (drop_at (take (w * p) ws) (r ++ drop (w * p + length r) ws) (w * p) start)
      ∙ take_at r (drop (w * p + length r) ws) w e

  pub record_other : (q : ℕ) → length r ≡ w → q ≢ p → record_at w (put_record w ws p r) q ≡ record_at w ws q
  unfolding put_record record_at
  record_other q e ne = go (dec_lt q p)
    where
      go : Dec (q < p) → take w (drop (w * q) (sets ws (w * p) r)) ≡ take w (drop (w * q) ws)
      go (yes l) =
          rw (take_drop w (w * q) (sets ws (w * p) r), take_drop w (w * q) ws)
          (ap (drop (w * q)) (take_sets (w * q + w) ws (w * p) r (ends_before w l)))
      go (no l) =
          let b : w * p + length r ≤ w * q = omega (arith, ends_before w {q = p} {p = q} (omega arith)) in
          ap (take w) (drop_sets (w * q) ws (w * p) r b)

  -- every word before the record that is put, and past it, is as it was
  pub put_before : (i : ℕ) → i < w * p → get_or (put_record w ws p r) i 0 ≡ get_or ws i 0
  unfolding put_record
  put_before i h = get_or_sets_before ws (w * p) r i h

  pub put_past : length r ≡ w → (i : ℕ) → w * p + w ≤ i → get_or (put_record w ws p r) i 0 ≡ get_or ws i 0
  unfolding put_record
  put_past e i h = get_or_sets_past ws (w * p) r i (omega arith)

  -- put after put: at the same place the later one stays; at two places the order does not matter
  pub record_put_same : (r' : List ℕ) → length r ≡ length r' → put_record w (put_record w ws p r) p r' ≡ put_record w ws p r'
  unfolding put_record
  record_put_same r' e = sets_sets ws (w * p) r r' e

  pub record_put_other : (q : ℕ) (r' : List ℕ) → length r ≡ w → length r' ≡ w → p ≢ q →
      put_record w (put_record w ws p r) q r' ≡ put_record w (put_record w ws q r') p r
  unfolding put_record
  record_put_other q r' e e' ne = go (dec_lt p q)
    where
      go : Dec (p < q) → sets (sets ws (w * p) r) (w * q) r' ≡ sets (sets ws (w * q) r') (w * p) r
      go (yes l) = sets_comm ws (w * p) r (w * q) r' (omega (arith, ends_before w l))
      go (no l) = sym (sets_comm ws (w * q) r' (w * p) r (omega (arith, ends_before w {q = q} {p = p} (omega arith))))

-- word k of a record
pub record_word : (w : ℕ) (ws : List ℕ) (p k : ℕ) → k < w → get_or (record_at w ws p) k 0 ≡ get_or ws (w * p + k) 0
unfolding record_at
record_word w ws p k h = rw (get_or-take, get_or-drop)

-- word k of the record that is put, and of any other
module _ (w : ℕ) (ws : List ℕ) (p : ℕ) (r : List ℕ) (e : length r ≡ w) (k : ℕ) (l : k < w) where
  pub put_same : p < capacity w ws → get_or (put_record w ws p r) (w * p + k) 0 ≡ get_or r k 0
  put_same h = sym (record_word w (put_record w ws p r) p k l) ∙ ap (λ x. get_or x k 0) (record_same w ws p r e h)

  pub put_other : (q : ℕ) → q ≢ p → get_or (put_record w ws p r) (w * q + k) 0 ≡ get_or ws (w * q + k) 0
  put_other q n = sym (record_word w (put_record w ws p r) q k l) ∙ ap (λ x. get_or x k 0) (record_other w ws p r q e n) ∙ record_word w ws q k l

-- an append, by what it asks
module _ (ws : List ℕ) (count limit : ℕ) (r : List ℕ) (refusal : Refusal) where
  pub append_room : count < limit → count < capacity (length r) ws →
      append ws count limit r refusal ≡ buffer (put_record (length r) ws count r) (record { count = count + 1; place = Ok count })
  unfolding append
  append_room l h = rw (lt-ltb count limit l, lt-ltb count (capacity (length r) ws) h)

  pub append_full : capacity (length r) ws ≤ count → append ws count limit r refusal ≡ buffer ws (record { count = count; place = Err refusal })
  unfolding append
  append_full h = rw (le-ltb count (capacity (length r) ws) h) (go (ltb count limit))
    where
      go : (b : Bool) → cond (b && false)
          (buffer (put_record (length r) ws count r) (record { count = count + 1; place = Ok count }))
          (buffer ws (record { count = count; place = Err refusal })) ≡ buffer ws (record { count = count; place = Err refusal })
      go true = refl
      go false = refl

  pub append_limit : limit ≤ count → append ws count limit r refusal ≡ buffer ws (record { count = count; place = Err refusal })
  unfolding append
  append_limit h = rw (le-ltb count limit h)

-- an append by its answer
module _ (ws : List ℕ) (count limit : ℕ) (r : List ℕ) (refusal : Refusal) {ws' : List ℕ} {a : Appended} (left : buffer ws' a ≡ append ws count limit r refusal) where
  -- the answer, by whether there is place
  abbrev answers : Bool → Appended
  answers b =
      (cond {A = Buffer} b
      (buffer (put_record (length r) ws count r) (record { count = count + 1; place = Ok count }))
      (buffer ws (record { count = count; place = Err refusal }))).answer

  -- a place that is answered is below the limit
  pub append_placed : {n : ℕ} → a.place ≡ Ok n → n < limit
  unfolding append
  append_placed {n} h = go (ltb count limit) (ltb count (capacity (length r) ws)) refl (ap (λ b. b.answer) left)
    where
      go : (b c : Bool) → ltb count limit ≡ b → a ≡ answers (b && c) → n < limit
      go true true l same = let is : n ≡ count = cc in rw is (ltb-true _ _ l)
      go true false l same = let z : ◌≡◌ {A = ℕ} 0 1 = cc in absurd (omega arith)
      go false c l same = let z : ◌≡◌ {A = ℕ} 0 1 = cc in absurd (omega arith)

  -- where none is, the refusal is that of the append, and nothing is counted
  pub append_refused : {e : Refusal} → a.place ≡ Err e → (e ≡ refusal) × (a.count ≡ count)
  unfolding append
  append_refused {e} h = go (ltb count limit && ltb count (capacity (length r) ws)) (ap (λ b. b.answer) left)
    where
      go : (b : Bool) → a ≡ answers b → (e ≡ refusal) × (a.count ≡ count)
      go true same = let z : ◌≡◌ {A = ℕ} 0 1 = cc in absurd (omega arith)
      go false same = (cc, ap (λ (x : Appended). x.count) same)
