-- What a search finds among records of which some are hidden, and what a record put after them leaves. Assumes nothing.
use Prim.Native.Nat.{ℕ, zero, suc, ◌≤◌, ◌<◌}
use native.Mathlib.Omega.{arith}
use native.Mathlib.Decide.{ℕ_discrete, dec_lt}
use mathlib.Core.Path.{◌≡◌, refl, sym, ◌∙◌, ap}
use mathlib.Core.Logic.{◌≢◌}
use mathlib.Core.Bool.{Bool, true, false, cond, false≢true}
use mathlib.Core.List.{List}
use lib.Dec.{eqb}
use lib.ListN.{length}
use borrow.Author.Tests.{eqb-true, eq-eqb, ne_eqb}
use Rattle.words.specs.Records.{capacity, record_at, put_record, same_words, is_at, position, First}
use Rattle.pool_index.specs.Hidden.{hide, findable}
use Rattle.words.proofs.Records.{record_capacity, record_same, record_other, record_put_other}
use Rattle.words.proofs.Search.{same_equal, equal_same, position_first, is_record, record_is}
use Rattle.pool_index.proofs.Records.{record_long}

module _ (w : ℕ) (sees : ℕ → Bool) (blank : List ℕ) (fits : length blank ≡ w) where
  pub hide_capacity : (n : ℕ) (ws : List ℕ) (v : ℕ) → capacity v (hide w sees blank n ws) ≡ capacity v ws
  unfolding hide
  hide_capacity zero ws v = refl
  hide_capacity (suc n) ws v = go (hide_capacity n ws v) (sees n)
    where
      go : capacity v (hide w sees blank n ws) ≡ capacity v ws → (b : Bool) → capacity v (cond b (hide w sees blank n ws) (put_record w (hide w sees blank n ws) n blank)) ≡ capacity v ws
      go same true = same
      go same false = record_capacity w (hide w sees blank n ws) n blank v ∙ same

  -- a record that is seen, or past the n, is as it was
  pub hide_past : (n : ℕ) (ws : List ℕ) (q : ℕ) → n ≤ q → record_at w (hide w sees blank n ws) q ≡ record_at w ws q
  unfolding hide
  hide_past zero ws q h = refl
  hide_past (suc n) ws q h = go (hide_past n ws q (omega arith)) (sees n)
    where
      go : record_at w (hide w sees blank n ws) q ≡ record_at w ws q → (b : Bool) → record_at w (cond b (hide w sees blank n ws) (put_record w (hide w sees blank n ws) n blank)) q ≡ record_at w ws q
      go same true = same
      go same false = record_other w (hide w sees blank n ws) n blank q fits (omega (arith, h)) ∙ same

  pub hide_seen : (n : ℕ) (ws : List ℕ) (q : ℕ) → sees q ≡ true → record_at w (hide w sees blank n ws) q ≡ record_at w ws q
  unfolding hide
  hide_seen zero ws q h = refl
  hide_seen (suc n) ws q h = go (hide_seen n ws q h) (sees n) refl
    where
      go : record_at w (hide w sees blank n ws) q ≡ record_at w ws q → (b : Bool) → sees n ≡ b → record_at w (cond b (hide w sees blank n ws) (put_record w (hide w sees blank n ws) n blank)) q ≡ record_at w ws q
      go same true e = same
      go same false e = record_other w (hide w sees blank n ws) n blank q fits (λ s. false≢true (sym e ∙ rw s at h)) ∙ same

  -- one that is not seen is blank
  pub hide_blank : (n : ℕ) (ws : List ℕ) (q : ℕ) → q < n → q < capacity w ws → sees q ≡ false → record_at w (hide w sees blank n ws) q ≡ blank
  unfolding hide
  hide_blank zero ws q l c h = absurd (omega (arith, l))
  hide_blank (suc n) ws q l c h = go (λ m. hide_blank n ws q m c h) (sees n) refl (ℕ_discrete q n)
    where
      go : (q < n → record_at w (hide w sees blank n ws) q ≡ blank) → (b : Bool) → sees n ≡ b → Dec (q ≡ n) → record_at w (cond b (hide w sees blank n ws) (put_record w (hide w sees blank n ws) n blank)) q ≡ blank
      go below true e (yes s) = absurd (false≢true (sym h ∙ rw s e))
      go below true e (no s) = below (omega (arith, s, l))
      go below false e (yes s) = rw s (record_same w (hide w sees blank n ws) n blank fits (rw (hide_capacity n ws w) (rw s at c)))
      go below false e (no s) = record_other w (hide w sees blank n ws) n blank q fits s ∙ below (omega (arith, s, l))

  -- a record put past the n
  pub hide_put : (n : ℕ) (ws : List ℕ) (p : ℕ) (r : List ℕ) → length r ≡ w → n ≤ p → hide w sees blank n (put_record w ws p r) ≡ put_record w (hide w sees blank n ws) p r
  unfolding hide
  hide_put zero ws p r e h = refl
  hide_put (suc n) ws p r e h = go (hide_put n ws p r e (omega arith)) (sees n)
    where
      go : hide w sees blank n (put_record w ws p r) ≡ put_record w (hide w sees blank n ws) p r → (b : Bool) → cond b (hide w sees blank n (put_record w ws p r)) (put_record w (hide w sees blank n (put_record w ws p r)) n blank)
          ≡ put_record w (cond b (hide w sees blank n ws) (put_record w (hide w sees blank n ws) n blank)) p r
      go same true = same
      go same false = ap (λ l. put_record w l n blank) same ∙ record_put_other w (hide w sees blank n ws) p r n blank e fits (omega (arith, h))

-- the same, seen alike
pub hide_alike : (w : ℕ) (sees sees' : ℕ → Bool) (blank : List ℕ) (n : ℕ) (ws : List ℕ) → ((q : ℕ) → q < n → sees q ≡ sees' q) → hide w sees blank n ws ≡ hide w sees' blank n ws
unfolding hide
hide_alike w sees sees' blank zero ws h = refl
hide_alike w sees sees' blank (suc n) ws h = rw (h n (omega arith), hide_alike w sees sees' blank n ws (λ q l. h q (omega (arith, l))))

-- where none is blank, all are seen, and nothing is changed
module _ (w : ℕ) (sees : ℕ → Bool) (blank : List ℕ) (fits : length blank ≡ w) where
  all_seen : (n : ℕ) (ws : List ℕ) → hide w (λ q. true) blank n ws ≡ ws
  unfolding hide
  all_seen zero ws = refl
  all_seen (suc n) ws = all_seen n ws

  pub none_hidden : (n : ℕ) (ws : List ℕ) → n ≤ capacity w ws → ((q : ℕ) → q < n → record_at w (hide w sees blank n ws) q ≢ blank) → hide w sees blank n ws ≡ ws
  none_hidden n ws room shown = hide_alike w sees (λ q. true) blank n ws (λ q l. seen q l (sees q) refl) ∙ all_seen n ws
    where
      seen : (q : ℕ) → q < n → (b : Bool) → sees q ≡ b → b ≡ true
      seen q l true e = refl
      seen q l false e = absurd (shown q l (hide_blank w sees blank fits n ws q l (omega (arith, l, room)) e))

-- where the only record of the first n that is r and is seen stands at q, a search finds q
module _ (w : ℕ) (sees : ℕ → Bool) (blank : List ℕ) (fits : length blank ≡ w) (n : ℕ) (ws r : List ℕ) (long : length r ≡ w) (differs : r ≢ blank) where
  hidden : (q : ℕ) → q < n → sees q ≡ false → is_at (hide w sees blank n ws) r q ≡ false
  hidden q l h = go (is_at (hide w sees blank n ws) r q) refl
    where
      go : (b : Bool) → is_at (hide w sees blank n ws) r q ≡ b → b ≡ false
      go false e = refl
      go true e =
          let found = is_record (hide w sees blank n ws) r q e in
          absurd (differs (sym (rw long at found.1) ∙ hide_blank w sees blank fits n ws q l (rw (hide_capacity w sees blank fits n ws w) at (rw long at found.0)) h))

-- records that are hidden where the search for their own words gives another place: then that search finds what it would find among all
module _ (w : ℕ) (blank : List ℕ) (fits : length blank ≡ w) (find : List ℕ → ℕ) (n : ℕ) (ws : List ℕ) where
  abbrev seen : List ℕ
  seen = findable w blank find n ws

  module _ (r : List ℕ) (long : length r ≡ w) (differs : r ≢ blank) where
    -- what is there and is r was found
    there : (q : ℕ) → q < n → is_at seen r q ≡ true → find r ≡ q
    there q l e = go (eqb (find (record_at w ws q)) q) refl
      where
        go : (b : Bool) → eqb (find (record_at w ws q)) q ≡ b → find r ≡ q
        go false h = absurd (false≢true (sym (hidden w _ blank fits n ws r long differs q l h) ∙ e))
        go true h =
            let is : record_at w seen q ≡ r = rw long at (is_record seen r q e).1 in
            let same : record_at w ws q ≡ r = sym (hide_seen w _ blank fits n ws q h) ∙ is in
            eqb-true (find r) q (rw same at h)

    pub found_position : find r < n → is_at ws r (find r) ≡ true → position seen r n ≡ find r
    found_position l e = go (dec_lt (position seen r n) (find r)) (dec_lt (find r) (position seen r n))
      where
        first : First seen r n 0 (position seen r n)
        first = position_first seen r n

        here : is_at seen r (find r) ≡ true
        here =
            let found = is_record ws r (find r) e in
            let same : record_at w ws (find r) ≡ r = rw long at found.1 in
            let found_there : eqb (find (record_at w ws (find r))) (find r) ≡ true = rw same (eq-eqb (find r) (find r) refl) in
            record_is seen r (find r) (rw (long, hide_capacity w _ blank fits n ws w) (rw long at found.0)) (rw long (hide_seen w _ blank fits n ws (find r) found_there ∙ same))

        go : Dec (position seen r n < find r) → Dec (find r < position seen r n) → position seen r n ≡ find r
        go (yes h) k = sym (there (position seen r n) (omega (arith, h, l)) (first.found (omega (arith, h, l))))
        go (no h) (yes k) = absurd (false≢true (sym (first.before (find r) (omega arith) k) ∙ here))
        go (no h) (no k) = omega (arith, h, k)

    pub none_position : n ≤ find r → position seen r n ≡ n
    none_position h = go (dec_lt (position seen r n) n)
      where
        first : First seen r n 0 (position seen r n)
        first = position_first seen r n

        go : Dec (position seen r n < n) → position seen r n ≡ n
        go (yes l) = absurd (omega (arith, h, l, there (position seen r n) l (first.found (omega (arith, l)))))
        go (no l) = omega (arith, l, first.within)

-- a record put after the n, where the search finds it now and finds any other record as before
module _ (w : ℕ) (blank : List ℕ) (fits : length blank ≡ w) (find find' : List ℕ → ℕ) (n : ℕ) (ws r : List ℕ) (long : length r ≡ w) (room : n < capacity w ws) (absent : n ≤ find r)
    (now : find' r ≡ n) (others : (r' : List ℕ) → length r' ≡ w → r' ≢ r → (q : ℕ) → q < n → eqb (find' r') q ≡ eqb (find r') q) where
  alike : (q : ℕ) → q < n → eqb (find' (record_at w (put_record w ws n r) q)) q ≡ eqb (find (record_at w ws q)) q
  alike q l = rw (record_other w ws n r q long (omega (arith, l))) (go (same_words (record_at w ws q) r) refl)
    where
      go : (b : Bool) → same_words (record_at w ws q) r ≡ b → eqb (find' (record_at w ws q)) q ≡ eqb (find (record_at w ws q)) q
      go true e = rw (same_equal (record_at w ws q) r e) (rw (now, ne_eqb n q (omega (arith, l)), ne_eqb (find r) q (omega (arith, l, absent))))
      go false e = others (record_at w ws q) (record_long w ws q (omega (arith, l, room))) (λ s. false≢true (sym e ∙ rw s (equal_same r))) q l

  pub findable_put : findable w blank find' (suc n) (put_record w ws n r) ≡ put_record w (findable w blank find n ws) n r
  unfolding hide
  findable_put =
      let last : eqb (find' (record_at w (put_record w ws n r) n)) n ≡ true = rw (record_same w ws n r long room) (eq-eqb (find' r) n now) in
      rw last
      (hide_alike w _ _ blank n (put_record w ws n r) alike ∙ hide_put w _ blank fits n ws n r long (omega arith))
