-- What a search finds once a record is put. Assumes nothing.
use Prim.Native.Nat.{ℕ, zero, suc, ◌+◌, ◌≤◌, ◌<◌}
use native.Mathlib.Omega.{arith}
use mathlib.Core.Path.{◌≡◌, refl, sym, ◌∙◌}
use mathlib.Core.Logic.{◌≢◌}
use mathlib.Core.Bool.{Bool, true, false}
use mathlib.Core.List.{List}
use lib.ListN.{length}
use Rattle.words.specs.Records.{capacity, put_record, is_at, position_from}
use Rattle.words.proofs.Records.{record_capacity, record_same, record_other}
use Rattle.words.proofs.Search.{is_record, record_is}

module _ (w : ℕ) (ws : List ℕ) (n : ℕ) (c : List ℕ) (long : length c ≡ w) where
  abbrev put : List ℕ
  put = put_record w ws n c

  module _ (r : List ℕ) (same_width_lem : length r ≡ w) where
    pub put_at : (q : ℕ) → q ≢ n → is_at put r q ≡ is_at ws r q
    unfolding is_at
    put_at q l = rw (same_width_lem, record_capacity w ws n c w, record_other w ws n c q long l)

    -- before the new record
    pub put_kept : (k p : ℕ) → p + k ≤ n → position_from put r k p ≡ position_from ws r k p
    unfolding position_from
    put_kept zero p h = refl
    put_kept (suc k) p h = rw (put_at p (omega (arith, h)), put_kept k (suc p) (omega (arith, h)))

    module _ (room : n < capacity w ws) where
      pub put_here : r ≡ c → is_at put r n ≡ true
      put_here e = record_is put r n (rw (same_width_lem, record_capacity w ws n c w) room) (rw (same_width_lem, e) (record_same w ws n c long room))

      pub put_not_here : r ≢ c → is_at put r n ≡ false
      put_not_here e = go (is_at put r n) refl
        where
          go : (b : Bool) → is_at put r n ≡ b → b ≡ false
          go false k = refl
          go true k = absurd (e (sym (rw same_width_lem at (is_record put r n k).1) ∙ record_same w ws n c long room))

      -- up to it
      pub put_found : (k p : ℕ) → p + k ≡ n → position_from ws r k p < n → position_from put r (suc k) p ≡ position_from ws r k p
      unfolding position_from
      put_found zero p e l = absurd (omega (arith, e, l))
      put_found (suc k) p e l = go (put_found k (suc p) (omega (arith, e))) (is_at ws r p) refl
        where
          go : (position_from ws r k (suc p) < n → position_from put r (suc k) (suc p) ≡ position_from ws r k (suc p)) → (b : Bool) → is_at ws r p ≡ b →
              position_from put r (suc (suc k)) p ≡ position_from ws r (suc k) p
          go ih true h = rw (put_at p (omega (arith, e)), h)
          go ih false h = rw (put_at p (omega (arith, e)), h) (ih (rw h at l))

      pub put_none : (k p : ℕ) → p + k ≡ n → r ≢ c → n ≤ position_from ws r k p → position_from put r (suc k) p ≡ suc n
      unfolding position_from
      put_none zero p e d l = let s : p ≡ n = omega (arith, e) in rw (s, put_not_here d)
      put_none (suc k) p e d l = go (put_none k (suc p) (omega (arith, e)) d) (is_at ws r p) refl
        where
          go : (n ≤ position_from ws r k (suc p) → position_from put r (suc k) (suc p) ≡ suc n) → (b : Bool) → is_at ws r p ≡ b → position_from put r (suc (suc k)) p ≡ suc n
          go ih true h = absurd (omega (arith, e, rw h at l))
          go ih false h = rw (put_at p (omega (arith, e)), h) (ih (rw h at l))

      pub put_new : (k p : ℕ) → p + k ≡ n → r ≡ c → n ≤ position_from ws r k p → position_from put r (suc k) p ≡ n
      unfolding position_from
      put_new zero p e d l = let s : p ≡ n = omega (arith, e) in rw (s, put_here d)
      put_new (suc k) p e d l = go (put_new k (suc p) (omega (arith, e)) d) (is_at ws r p) refl
        where
          go : (n ≤ position_from ws r k (suc p) → position_from put r (suc k) (suc p) ≡ n) → (b : Bool) → is_at ws r p ≡ b → position_from put r (suc (suc k)) p ≡ n
          go ih true h = absurd (omega (arith, e, rw h at l))
          go ih false h = rw (put_at p (omega (arith, e)), h) (ih (rw h at l))
