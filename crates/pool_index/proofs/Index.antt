-- What the pool's index does: a constant that is put into it is found, any other is found as before, and so the pool, as its searches see it, is as if it had
-- no index. Assumes nothing.
use Rattle.std.specs.Prelude.{Ok, Err}
use Prim.Native.Nat.{ℕ, zero, suc, ◌+◌, ◌*◌, ◌-◌, ◌≤◌, ◌<◌}
use native.Mathlib.Omega.{arith}
use native.Mathlib.Decide.{ℕ_discrete, dec_lt}
use native.Mathlib.Nat.{mod-lt}
use native.Mathlib.Numerals.{add-one}
use mathlib.Core.Path.{◌≡◌, refl, sym, ◌∙◌, ap}
use mathlib.Core.Logic.{◌≢◌, ◌⊎◌, inl, inr}
use mathlib.Core.Bool.{Bool, true, false, cond, ◌&&◌}
use mathlib.Core.List.{List, [], ◌∷◌}
use lib.Dec.{leb, ltb, eqb}
use lib.ListN.{length, get_or, set, length-set}
use lib.Seq.{get_or-set_same, get_or-set_other}
use borrow.Author.Tests.{ltb-true, leb-true, lt-ltb, le-ltb, le-leb, lt-leb, eq-eqb, ne_eqb}
use Rattle.std.proofs.lemmas.Bool.{and_parts}
use Rattle.diagnostics.specs.declared.Refusal.{Refusal}
use Rattle.words.specs.Words.{words}
use Rattle.words.specs.declared.Appended.{Appended}
use Rattle.words.specs.Records.{max_count, capacity, record_at, put_record, is_at, position_from, position, buffer, append}
use Rattle.pool_index.specs.Hidden.{hide}
use Rattle.words.proofs.Search.{first}
use Rattle.words.proofs.Records.{record_same, record_other, record_word, append_room, append_full, append_limit}
use Rattle.pool_index.proofs.Records.{appended_found, appended_new, appended_full, answered_at, answered_full}
use Rattle.pool_index.proofs.Hiding.{none_hidden, hide_capacity, found_position, none_position, findable_put}
use Rattle.pool_index.proofs.Positions.{put_at, put_here, put_not_here, put_found, put_none, put_new}
use Rattle.runtime.specs.declared.operand.Operand.{Operand}
use Rattle.runtime.specs.Value.{constant_width, constant_words}
use Rattle.runtime.specs.Function.{store_constant}
use Rattle.pool_index.specs.Index.{full, appended, slots, links, slot_of, chained, linked, find, indexed, indexed_by, blank, pool_of}
use Rattle.runtime.proofs.Constants.{constant_width_lem}
use Rattle.runtime.proofs.Pool.{store_pooled, store_new}

-- a slot is one of the first places of the index
pub slot_below : (r : List ℕ) → slot_of r < slots
unfolding slot_of
slot_below r = mod-lt _ (omega arith)

-- it is known by the last two words
pub slot_words : (r : List ℕ) → slot_of (0 ∷ get_or r 1 0 ∷ get_or r 2 0 ∷ []) ≡ slot_of r
unfolding slot_of
slot_words r = refl

-- ---- a chain

-- a chain below `bound` looks at the records and links there only
module _ (ws ws' index index' : List ℕ) (r : List ℕ) (n : ℕ) (at : (q : ℕ) → q < n → is_at ws' r q ≡ is_at ws r q)
    (records : (q : ℕ) → q < n → record_at constant_width ws' q ≡ record_at constant_width ws q) (next_of : (q : ℕ) → q < n → get_or index' (slots + q) 0 ≡ get_or index (slots + q) 0) where
  chain_kept : (fuel bound next : ℕ) → bound ≤ n → chained ws' index' r fuel bound next ≡ chained ws index r fuel bound next
  unfolding chained
  chain_kept zero bound next h = refl
  chain_kept (suc fuel) bound next h = go (λ b k. chain_kept fuel b (get_or index (slots + (next - 1)) 0) k) (dec_lt 0 next) (dec_lt bound next)
    where
      go : ((b : ℕ) → b ≤ n → chained ws' index' r fuel b (get_or index (slots + (next - 1)) 0) ≡ chained ws index r fuel b (get_or index (slots + (next - 1)) 0)) →
          Dec (0 < next) → Dec (bound < next) → chained ws' index' r (suc fuel) bound next ≡ chained ws index r (suc fuel) bound next
      go ih (no a) k = rw (le-ltb 0 next (omega (arith, a)))
      go ih (yes a) (yes k) = rw (lt-ltb 0 next a, lt-leb next bound k)
      go ih (yes a) (no k) =
          let below : next - 1 < n = omega (arith, a, k, h) in
          rw (lt-ltb 0 next a, le-leb next bound (omega (arith, k)), at (next - 1) below, records (next - 1) below, next_of (next - 1) below, ih (next - 1) (omega (arith, below)))

module _ (ws index r : List ℕ) where
  -- where it goes on, and where it ends
  pub chain_end : (fuel bound next : ℕ) → (next ≡ 0) ⊎ (bound < next) → chained ws index r fuel bound next ≡ full
  unfolding chained
  chain_end zero bound next h = refl
  chain_end (suc fuel) bound next (inl h) = rw (le-ltb 0 next (omega (arith, h)))
  chain_end (suc fuel) bound next (inr h) = go (dec_lt 0 next)
    where
      go : Dec (0 < next) → chained ws index r (suc fuel) bound next ≡ full
      go (yes a) = rw (lt-ltb 0 next a, lt-leb next bound h)
      go (no a) = rw (le-ltb 0 next (omega (arith, a)))

  module _ (fuel bound next : ℕ) (some : 0 < next) (within : next ≤ bound) where
    pub chain_here : is_at ws r (next - 1) ≡ true → chained ws index r (suc fuel) bound next ≡ next - 1
    unfolding chained
    chain_here e = rw (lt-ltb 0 next some, le-leb next bound within, e)

    module _ (e : is_at ws r (next - 1) ≡ false) where
      pub chain_on : slot_of (record_at constant_width ws (next - 1)) ≡ slot_of r → chained ws index r (suc fuel) bound next ≡ chained ws index r fuel (next - 1) (get_or index (slots + (next - 1)) 0)
      unfolding chained
      chain_on s = rw (lt-ltb 0 next some, le-leb next bound within, e, eq-eqb _ _ s)

      pub chain_off : slot_of (record_at constant_width ws (next - 1)) ≢ slot_of r → chained ws index r (suc fuel) bound next ≡ full
      unfolding chained
      chain_off s = rw (lt-ltb 0 next some, le-leb next bound within, e, ne_eqb _ _ s)

  -- more steps than places are as good
  chain_more : (fuel bound next : ℕ) → bound ≤ fuel → chained ws index r (suc fuel) bound next ≡ chained ws index r fuel bound next
  unfolding chained
  chain_more zero bound next h = chain_end (suc zero) bound next (go (dec_lt 0 next))
    where
      go : Dec (0 < next) → (next ≡ 0) ⊎ (bound < next)
      go (yes a) = inr (omega (arith, a, h))
      go (no a) = inl (omega (arith, a))
  chain_more (suc fuel) bound next h = go (λ k. chain_more fuel (next - 1) (get_or index (slots + (next - 1)) 0) k) (dec_lt bound next)
    where
      go : (next - 1 ≤ fuel → chained ws index r (suc fuel) (next - 1) (get_or index (slots + (next - 1)) 0) ≡ chained ws index r fuel (next - 1) (get_or index (slots + (next - 1)) 0)) →
          Dec (bound < next) → chained ws index r (suc (suc fuel)) bound next ≡ chained ws index r (suc fuel) bound next
      go ih (yes k) = chain_end (suc (suc fuel)) bound next (inr k) ∙ sym (chain_end (suc fuel) bound next (inr k))
      go ih (no k) = rw (ih (omega (arith, k, h)))

  pub chain_steps : (fuel bound next : ℕ) → bound ≤ fuel → chained ws index r fuel bound next ≡ chained ws index r bound bound next
  chain_steps zero bound next h = let e : bound ≡ 0 = omega (arith, h) in rw e
  chain_steps (suc fuel) bound next h = go (dec_lt fuel bound) (chain_steps fuel bound next)
    where
      go : Dec (fuel < bound) → (bound ≤ fuel → chained ws index r fuel bound next ≡ chained ws index r bound bound next) → chained ws index r (suc fuel) bound next ≡ chained ws index r bound bound next
      go (yes l) ih = let e : suc fuel ≡ bound = omega (arith, l, h) in rw e
      go (no l) ih = chain_more fuel bound next (omega (arith, l)) ∙ ih (omega (arith, l))

  -- a bound past the first place is as good
  pub chain_bound : (fuel bound bound' next : ℕ) → next ≤ bound → next ≤ bound' → chained ws index r fuel bound next ≡ chained ws index r fuel bound' next
  unfolding chained
  chain_bound zero bound bound' next h h' = refl
  chain_bound (suc fuel) bound bound' next h h' = rw (le-leb next bound h, le-leb next bound' h')

  -- what it gives is there, below the bound
  abbrev Chained : ℕ → ℕ → Type 0
  Chained bound p = (p ≡ full) ⊎ ((p < bound) × (is_at ws r p ≡ true))

  chain_gives : (fuel bound next : ℕ) → Chained bound (chained ws index r fuel bound next)
  unfolding chained
  chain_gives zero bound next = inl refl
  chain_gives (suc fuel) bound next = go (chain_gives fuel (next - 1) (get_or index (slots + (next - 1)) 0)) (dec_lt 0 next) (dec_lt bound next)
    where
      there : 0 < next → next ≤ bound → (b : Bool) → is_at ws r (next - 1) ≡ b → (s : Bool) →
          Chained (next - 1) (chained ws index r fuel (next - 1) (get_or index (slots + (next - 1)) 0)) →
          Chained bound (cond b (next - 1) (cond s (chained ws index r fuel (next - 1) (get_or index (slots + (next - 1)) 0)) full))
      there a k true e s g = inr (omega (arith, a, k), e)
      there a k false e false g = inl refl
      there a k false e true (inl g) = inl g
      there a k false e true (inr g) = inr (omega (arith, k, g.0), g.1)

      go : Chained (next - 1) (chained ws index r fuel (next - 1) (get_or index (slots + (next - 1)) 0)) → Dec (0 < next) → Dec (bound < next) →
          Chained bound (chained ws index r (suc fuel) bound next)
      go ih (no a) k = rw (le-ltb 0 next (omega (arith, a))) (inl refl)
      go ih (yes a) (yes k) = rw (lt-ltb 0 next a, lt-leb next bound k) (inl refl)
      go ih (yes a) (no k) =
          rw (lt-ltb 0 next a, le-leb next bound (omega (arith, k)))
          (there a (omega (arith, k)) (is_at ws r (next - 1)) refl (eqb (slot_of (record_at constant_width ws (next - 1))) (slot_of r)) ih)

-- a chain, as a program that walks it tests it
pub in_chain : (next bound : ℕ) → (ltb 0 next && leb next bound) ≡ true → (0 < next) × (next ≤ bound)
in_chain next bound test = let both = and_parts (ltb 0 next) (leb next bound) test in (ltb-true 0 next both.0, leb-true next bound both.1)

pub in_links : (next bound : ℕ) → (ltb 0 next && leb next bound) ≡ true → bound ≤ links → next - 1 < links
in_links next bound test few = omega (arith, (in_chain next bound test).0, (in_chain next bound test).1, few)

module _ (ws index r : List ℕ) (bound next : ℕ) where
  abbrev rest : ℕ
  rest = chained ws index r bound bound next

  pub walk_end : (ltb 0 next && leb next bound) ≡ false → full ≡ rest
  unfolding chained
  walk_end test = go bound
    where
      go : (fuel : ℕ) → full ≡ chained ws index r fuel bound next
      go zero = refl
      go (suc fuel) = rw test

  module _ (test : (ltb 0 next && leb next bound) ≡ true) where
    some : 0 < next
    some = (in_chain next bound test).0

    within : next ≤ bound
    within = (in_chain next bound test).1

    stepped : chained ws index r (suc (bound - 1)) bound next ≡ rest
    stepped =
        let e : suc (bound - 1) ≡ bound = omega (arith, some, within) in
        ap (λ fuel. chained ws index r fuel bound next) e

    pub walk_here : is_at ws r (next - 1) ≡ true → next - 1 ≡ rest
    walk_here e = sym (chain_here ws index r (bound - 1) bound next some within e) ∙ stepped

    -- the slot of the constant here, by its words
    module _ (e : is_at ws r (next - 1) ≡ false) {low high slot : ℕ} (l : low ≡ get_or ws (constant_width * (next - 1) + 1) 0) (h : high ≡ get_or ws (constant_width * (next - 1) + 2) 0)
        (s : slot ≡ slot_of (0 ∷ low ∷ high ∷ [])) where
      slot_here : slot ≡ slot_of (record_at constant_width ws (next - 1))
      slot_here =
          s
          ∙ rw (l, h, ← record_word constant_width ws (next - 1) 1 (omega arith), ← record_word constant_width ws (next - 1) 2 (omega arith))
          (slot_words (record_at constant_width ws (next - 1)))

      pub walk_on : slot ≡ slot_of r → chained ws index r (next - 1) (next - 1) (get_or index (slots + (next - 1)) 0) ≡ rest
      walk_on o =
          sym (chain_steps ws index r (bound - 1) (next - 1) (get_or index (slots + (next - 1)) 0) (omega (arith, within)))
          ∙ sym (chain_on ws index r (bound - 1) bound next some within e (sym slot_here ∙ o))
          ∙ stepped

      pub walk_off : slot ≢ slot_of r → full ≡ rest
      walk_off o = sym (chain_off ws index r (bound - 1) bound next some within e (λ x. o (slot_here ∙ x))) ∙ stepped

-- ---- a search

pub linked_within : (n : ℕ) → linked n ≤ links
linked_within n = go (dec_lt n links)
  where
    go : Dec (n < links) → linked n ≤ links
    go (yes l) = rw (lt-ltb n links l) (omega (arith, l))
    go (no l) = rw (le-ltb n links (omega (arith, l))) (omega arith)

linked_least : (n count : ℕ) → n ≤ count → n ≤ links → n ≤ linked count
linked_least n count h l = go (dec_lt count links)
  where
    go : Dec (count < links) → n ≤ linked count
    go (yes c) = rw (lt-ltb count links c) h
    go (no c) = rw (le-ltb count links (omega (arith, c))) l

linked_low : (n : ℕ) → n ≤ links → linked n ≡ n
linked_low n h = go (dec_lt n links)
  where
    go : Dec (n < links) → linked n ≡ n
    go (yes l) = rw (lt-ltb n links l)
    go (no l) = rw (le-ltb n links (omega (arith, l))) (omega (arith, l, h))

no_search : (ws r : List ℕ) → position_from ws r 0 links ≡ links
unfolding position_from
no_search ws r = refl

linked_high : (n : ℕ) → links ≤ n → linked n ≡ links
linked_high n h = rw (le-ltb n links h)

-- the first place of a chain, as a program that looks there tests it
pub in_head : (next count : ℕ) → (ltb 0 next && leb next count && leb next links) ≡ true → (0 < next) × (next ≤ count) × (next ≤ links)
in_head next count test =
    let outer = and_parts (ltb 0 next && leb next count) (leb next links) test in
    let inner = and_parts (ltb 0 next) (leb next count) outer.0 in
    (ltb-true 0 next inner.0, leb-true next count inner.1, leb-true next links outer.1)

module _ (ws index r : List ℕ) (count : ℕ) where
  abbrev near : ℕ
  near = chained ws index r (linked count) (linked count) (get_or index (slot_of r) 0)

  abbrev past : ℕ
  past = position_from ws r (count - links) links

  pub find_near : near < count → find ws index count r ≡ near
  unfolding find
  find_near h = rw (lt-ltb near count h)

  pub find_past : count ≤ near → find ws index count r ≡ past
  unfolding find
  find_past h = rw (le-ltb near count h)

  -- the first of a chain is found at once
  module _ (next : ℕ) (test : (ltb 0 next && leb next count && leb next links) ≡ true) where
    pub find_head : next ≡ get_or index (slot_of r) 0 → is_at ws r (next - 1) ≡ true → next - 1 ≡ find ws index count r
    find_head is e =
        let some : 0 < next = (in_head next count test).0 in
        let few : next ≤ count = (in_head next count test).1 in
        let within : next ≤ linked count = linked_least next count few (in_head next count test).2 in
        let here : next - 1 ≡ near = walk_here ws index r (linked count) next (rw (lt-ltb 0 next some, le-leb next (linked count) within)) e ∙ rw is in
        here ∙ sym (find_near (omega (arith, here, some, few)))

  -- what is found is there
  pub find_is : count ≤ full → find ws index count r < count → is_at ws r (find ws index count r) ≡ true
  find_is few h = go (dec_lt near count) (chain_gives ws index r (linked count) (linked count) (get_or index (slot_of r) 0))
    where
      go : Dec (near < count) → Chained ws index r (linked count) near → is_at ws r (find ws index count r) ≡ true
      go (yes l) (inl e) = absurd (omega (arith, l, e, few))
      go (yes l) (inr e) = rw (find_near l) e.1
      go (no l) e =
          let is : find ws index count r ≡ past = find_past (omega (arith, l)) in
          let below : past < count = rw is at h in
          let search = first ws r (count - links) links in
          rw is (search.found (omega (arith, below, search.start)))

-- ---- a constant put

-- c put at place n
module _ (ws index c : List ℕ) (n : ℕ) (long : length c ≡ constant_width) (room : n < capacity constant_width ws) (size : slots + links ≤ length index) where
  abbrev slot : ℕ
  slot = slot_of c

  abbrev put : List ℕ
  put = put_record constant_width ws n c

  abbrev after : List ℕ
  after = indexed index n slot

  placed : record_at constant_width put n ≡ c
  placed = record_same constant_width ws n c long room

  others_kept : (q : ℕ) → q < n → record_at constant_width put q ≡ record_at constant_width ws q
  others_kept q l = record_other constant_width ws n c q long (omega (arith, l))

  -- a place that is in a chain
  module _ (low : n < links) where
    after_is : after ≡ set (set index (slots + n) (get_or index slot 0)) slot (n + 1)
    unfolding indexed
    after_is = rw (lt-ltb n links low)

    abbrev inner : List ℕ
    inner = set index (slots + n) (get_or index slot 0)

    inner_long : length inner ≡ length index
    inner_long = length-set index (slots + n) (get_or index slot 0)

    head : get_or after slot 0 ≡ n + 1
    head = rw after_is (get_or-set_same inner slot (n + 1) 0 (omega (arith, slot_below c, size, inner_long)))

    other_head : (g : ℕ) → g < slots → g ≢ slot → get_or after g 0 ≡ get_or index g 0
    other_head g l e = rw after_is (get_or-set_other inner slot g (n + 1) 0 e ∙ get_or-set_other index (slots + n) g (get_or index slot 0) 0 (omega (arith, l)))

    next_here : get_or after (slots + n) 0 ≡ get_or index slot 0
    next_here =
        rw after_is
        (get_or-set_other inner slot (slots + n) (n + 1) 0 (omega (arith, slot_below c))
        ∙ get_or-set_same index (slots + n) (get_or index slot 0) 0 (omega (arith, low, size)))

    next_kept : (q : ℕ) → q < n → get_or after (slots + q) 0 ≡ get_or index (slots + q) 0
    next_kept q l =
        rw after_is
        (get_or-set_other inner slot (slots + q) (n + 1) 0 (omega (arith, slot_below c))
        ∙ get_or-set_other index (slots + n) (slots + q) (get_or index slot 0) 0 (omega (arith, l)))

    back : n + 1 - 1 ≡ n
    back = omega arith

    -- it is found
    chain_found : chained put after c (suc n) (suc n) (get_or after slot 0) ≡ n
    chain_found =
        let here : is_at put c n ≡ true = put_here constant_width ws n c long c long room refl in
        rw head (chain_here put after c n (suc n) (n + 1) (omega arith) (omega arith) (rw back here) ∙ back)

    -- any other is found as before
    module _ (r : List ℕ) (same : length r ≡ constant_width) (differs : r ≢ c) where
      at_kept : (q : ℕ) → q < n → is_at put r q ≡ is_at ws r q
      at_kept q l = put_at constant_width ws n c long r same q (omega (arith, l))

      not_here : is_at put r (n + 1 - 1) ≡ false
      not_here = rw back (put_not_here constant_width ws n c long r same room differs)

      kept : (fuel bound next : ℕ) → bound ≤ n → chained put after r fuel bound next ≡ chained ws index r fuel bound next
      kept = chain_kept ws put index after r n at_kept others_kept next_kept

      -- in the same chain: the new one is passed over
      same_chain : slot_of r ≡ slot → chained put after r (suc n) (suc n) (n + 1) ≡ chained ws index r n n (get_or index slot 0)
      same_chain s =
          let own : slot_of (record_at constant_width put (n + 1 - 1)) ≡ slot_of r = rw (back, placed) (sym s) in
          chain_on put after r n (suc n) (n + 1) (omega arith) (omega arith) not_here own ∙ rw (back, next_here) (kept n n (get_or index slot 0) (omega arith))

      -- in another one: the new one is not looked at, or ends it
      other_chain : (next : ℕ) → slot_of r ≢ slot → chained put after r (suc n) (suc n) next ≡ chained ws index r n n next
      other_chain next s = go (ℕ_discrete next (n + 1)) (dec_lt n next)
        where
          go : Dec (next ≡ n + 1) → Dec (n < next) → chained put after r (suc n) (suc n) next ≡ chained ws index r n n next
          go (yes x) d =
              let other : slot_of (record_at constant_width put (n + 1 - 1)) ≢ slot_of r = λ e. s (sym e ∙ rw (back, placed)) in
              rw x (chain_off put after r n (suc n) (n + 1) (omega arith) (omega arith) not_here other ∙ sym (chain_end ws index r n n (n + 1) (inr (omega arith))))
          go (no x) (yes d) = chain_end put after r (suc n) (suc n) next (inr (omega (arith, x, d))) ∙ sym (chain_end ws index r n n next (inr d))
          go (no x) (no d) = chain_bound put after r (suc n) (suc n) n next (omega (arith, d)) (omega (arith, d)) ∙ chain_steps put after r (suc n) n next (omega arith) ∙ kept n n next (omega arith)

      chain_others : chained put after r (suc n) (suc n) (get_or after (slot_of r) 0) ≡ chained ws index r n n (get_or index (slot_of r) 0)
      chain_others = go (ℕ_discrete (slot_of r) slot)
        where
          go : Dec (slot_of r ≡ slot) → chained put after r (suc n) (suc n) (get_or after (slot_of r) 0) ≡ chained ws index r n n (get_or index (slot_of r) 0)
          go (yes s) = rw (s, head) (same_chain s)
          go (no s) = rw (other_head (slot_of r) (slot_below r) s) (other_chain (get_or index (slot_of r) 0) s)

  -- a place past those in chains
  module _ (high : links ≤ n) where
    after_same : after ≡ index
    unfolding indexed
    after_same = rw (le-ltb n links high)

    -- what a chain gives is as before
    near_kept : (r : List ℕ) → length r ≡ constant_width → near put after r (suc n) ≡ near ws index r n
    near_kept r same =
        rw (after_same, linked_high n high, linked_high (suc n) (omega (arith, high)))
        (chain_kept ws put index index r links (λ q l. put_at constant_width ws n c long r same q (omega (arith, l, high))) (λ q l. others_kept q (omega (arith, l, high))) (λ q l. refl)
        links links (get_or index (slot_of r) 0) (omega arith))

    more : suc n - links ≡ suc (n - links)
    more = omega (arith, high)

    up_to : links + (n - links) ≡ n
    up_to = omega (arith, high)

  module _ (few : n < full) where
    -- it is found, if it was not there
    pub find_new : n ≤ find ws index n c → find put after (suc n) c ≡ n
    find_new absent = go (dec_lt n links)
      where
        go : Dec (n < links) → find put after (suc n) c ≡ n
        go (yes low) =
            let is : near put after c (suc n) ≡ n = rw (linked_low (suc n) (omega (arith, low))) (chain_found low) in
            find_near put after c (suc n) (omega (arith, is)) ∙ is
        go (no l) = by (dec_lt (near ws index c n) n)
          where
            high : links ≤ n
            high = omega (arith, l)

            by : Dec (near ws index c n < n) → find put after (suc n) c ≡ n
            by (yes b) = absurd (omega (arith, b, absent, find_near ws index c n b))
            by (no b) =
                let is : near put after c (suc n) ≡ near ws index c n = near_kept high c long in
                let none : near ws index c n ≡ full = unchained (omega (arith, b)) in
                find_past put after c (suc n) (omega (arith, is, none, few))
                ∙ rw (more high) (put_new constant_width ws n c long c long room (n - links) links (up_to high) refl (omega (arith, absent, find_past ws index c n (omega (arith, b)))))
              where
                unchained : n ≤ near ws index c n → near ws index c n ≡ full
                unchained o = which (chain_gives ws index c (linked n) (linked n) (get_or index slot 0))
                  where
                    which : Chained ws index c (linked n) (near ws index c n) → near ws index c n ≡ full
                    which (inl e) = e
                    which (inr e) = absurd (omega (arith, o, e.0, linked_high n high, high))

    -- any other is found as before
    pub find_others : (r : List ℕ) → length r ≡ constant_width → r ≢ c → (q : ℕ) → q < n → eqb (find put after (suc n) r) q ≡ eqb (find ws index n r) q
    find_others r same differs q l = go (dec_lt n links) (dec_lt (near ws index r n) n)
      where
        none : n ≤ near ws index r n → Chained ws index r (linked n) (near ws index r n) → linked n ≤ n → near ws index r n ≡ full
        none o (inl e) m = e
        none o (inr e) m = absurd (omega (arith, o, e.0, m))

        gives : Chained ws index r (linked n) (near ws index r n)
        gives = chain_gives ws index r (linked n) (linked n) (get_or index (slot_of r) 0)

        low_kept : n < links → near put after r (suc n) ≡ near ws index r n
        low_kept low = rw (linked_low (suc n) (omega (arith, low)), linked_low n (omega (arith, low))) (chain_others low r same differs)

        both_near : near put after r (suc n) ≡ near ws index r n → near ws index r n < n → eqb (find put after (suc n) r) q ≡ eqb (find ws index n r) q
        both_near is b = rw (find_near ws index r n b, find_near put after r (suc n) (omega (arith, is, b)), is)

        go : Dec (n < links) → Dec (near ws index r n < n) → eqb (find put after (suc n) r) q ≡ eqb (find ws index n r) q
        go (yes low) (yes b) = both_near (low_kept low) b
        go (yes low) (no b) =
            let is = none (omega (arith, b)) gives (omega (arith, linked_low n (omega (arith, low)))) in
            let none_before : n - links ≡ 0 = omega (arith, low) in
            let none_after : suc n - links ≡ 0 = omega (arith, low) in
            rw (
              find_past ws index r n (omega (arith, b)),
              find_past put after r (suc n) (omega (arith, low_kept low, is, few)),
              none_before,
              none_after,
              no_search ws r,
              no_search put r,
            )
        go (no o) (yes b) = both_near (near_kept (omega (arith, o)) r same) b
        go (no o) (no b) =
            let is = none (omega (arith, b)) gives (omega (arith, linked_high n (omega (arith, o)), o)) in
            rw (find_past ws index r n (omega (arith, b)), find_past put after r (suc n) (omega (arith, near_kept (omega (arith, o)) r same, is, few)), more (omega (arith, o)))
            (by (dec_lt (position_from ws r (n - links) links) n))
          where
            by : Dec (position_from ws r (n - links) links < n) → eqb (position_from put r (suc (n - links)) links) q ≡ eqb (position_from ws r (n - links) links) q
            by (yes d) = rw (put_found constant_width ws n c long r same room (n - links) links (up_to (omega (arith, o))) d)
            by (no d) =
                rw (
                  put_none constant_width ws n c long r same room (n - links) links (up_to (omega (arith, o))) differs (omega (arith, d)),
                  ne_eqb (suc n) q (omega (arith, l)),
                  ne_eqb (position_from ws r (n - links) links) q (omega (arith, l, d)),
                )

-- ---- the pool, as its searches see it

module _ (constants index : List ℕ) (count : ℕ) where
  pub pool_empty : pool_of constants index 0 ≡ words constants
  unfolding pool_of hide
  pool_empty = refl

  pub pool_capacity : (w : ℕ) → capacity w (pool_of constants index count) ≡ capacity w (words constants)
  unfolding pool_of
  pool_capacity = hide_capacity constant_width _ blank refl count (words constants)

  -- where none is blank it is what the bytes say
  pub pool_shown : count ≤ capacity constant_width (words constants) → ((q : ℕ) → q < count → record_at constant_width (pool_of constants index count) q ≢ blank) → pool_of constants index count ≡ words constants
  unfolding pool_of
  pool_shown = none_hidden constant_width _ blank refl count (words constants)

  module _ (r : List ℕ) (long : length r ≡ constant_width) (shown : r ≢ blank) where
    pub pool_found : count ≤ full → find (words constants) index count r < count → position (pool_of constants index count) r count ≡ find (words constants) index count r
    unfolding pool_of
    pool_found few h = found_position constant_width blank refl (find (words constants) index count) count (words constants) r long shown h (find_is (words constants) index r count few h)

    pub pool_none : count ≤ find (words constants) index count r → position (pool_of constants index count) r count ≡ count
    unfolding pool_of
    pool_none = none_position constant_width blank refl (find (words constants) index count) count (words constants) r long shown

    pub pool_put : (constants' : List ℕ) → count < full → count < capacity constant_width (words constants) → slots + links ≤ length index → words constants' ≡ put_record constant_width (words constants) count r →
        count ≤ find (words constants) index count r → pool_of constants' (indexed index count (slot_of r)) (suc count) ≡ put_record constant_width (pool_of constants index count) count r
    unfolding pool_of
    pool_put constants' few room size is absent =
        rw is
        (findable_put constant_width blank refl (find (words constants) index count) (find _ (indexed index count (slot_of r)) (suc count)) count (words constants) r long room absent
        (find_new (words constants) index r count long room size few absent) (find_others (words constants) index r count long room size few))

-- a constant is not what stands for a hidden one
pub constant_shown : (c : Operand) → constant_words c ≢ blank
unfolding constant_words
constant_shown Operand.Nil e = omega (arith, ap (λ ws. get_or ws 0 0) e)
constant_shown (Operand.Boolean b) e = omega (arith, ap (λ ws. get_or ws 0 0) e)
constant_shown (Operand.Number x) e = omega (arith, ap (λ ws. get_or ws 0 0) e)
constant_shown (Operand.String symbol) e = omega (arith, ap (λ ws. get_or ws 0 0) e)
constant_shown (Operand.Register r) e = omega (arith, ap (λ ws. get_or ws 0 0) e)

-- what the program leaves is what the pool stores
module _ (constants index : List ℕ) (count : ℕ) (few : count ≤ full) (c : Operand) {r : List ℕ} (is : constant_words c ≡ r) where
  abbrev pool : List ℕ
  pool = pool_of constants index count

  long : length r ≡ constant_width
  long = rw is at (constant_width_lem c)

  shown : r ≢ blank
  shown e = constant_shown c (is ∙ e)

  -- a constant that is found
  pub pool_stored : {p : ℕ} → p ≡ find (words constants) index count r → p < count →
      buffer (pool_of constants index (appended count p Refusal.Constants).count) (appended count p Refusal.Constants) ≡ store_constant pool count c
  pool_stored {p} e h =
      let found : position pool (constant_words c) count ≡ p = rw is (pool_found constants index count r long shown few (rw e at h) ∙ sym e) in
      rw (appended_found count Refusal.Constants p h (omega (arith, h, few))) (sym (store_pooled pool count c (omega (arith, found, h)) ∙ rw found))

  -- a constant that is not, by what the append leaves
  module _ (absent : count ≤ find (words constants) index count r) (size : slots + links ≤ length index) (constants' : List ℕ) (p : ℕ)
      (left : buffer (words constants') (appended count p Refusal.Constants) ≡ append (words constants) count max_count r Refusal.Constants) where
    abbrev Left : Type 0
    Left = buffer (pool_of constants' (indexed index p (slot_of r)) (appended count p Refusal.Constants).count) (appended count p Refusal.Constants) ≡ store_constant pool count c

    stored : store_constant pool count c ≡ append pool count max_count r Refusal.Constants
    stored =
        let none : position pool (constant_words c) count ≡ count = rw is (pool_none constants index count r long shown absent) in
        store_new pool count c (omega (arith, none)) ∙ rw is

    made : count < max_count → count < capacity constant_width (words constants) → Left
    made l h =
        let done : buffer (words constants') (appended count p Refusal.Constants) ≡ buffer (put_record constant_width (words constants) count r) (record { count = count + 1; place = Ok count })
        = left ∙ rw long at (append_room (words constants) count max_count r Refusal.Constants l (rw long h)) in
        let answer : appended count p Refusal.Constants ≡ record { count = count + 1; place = Ok count } = ap (λ b. b.answer) done in
        let here : p ≡ count = answered_at count p Refusal.Constants (ap (λ a. a.place) answer) in
        let put : pool_of constants' (indexed index count (slot_of r)) (count + 1) ≡ put_record constant_width pool count r
        = rw (add-one count) (pool_put constants index count r long shown constants' l h size (ap (λ b. b.words) done) absent) in
        let room : count < capacity (length r) pool = rw (long, pool_capacity constants index count constant_width) h in
        rw (answer, here, put) (sym (stored ∙ rw long at (append_room pool count max_count r Refusal.Constants l room)))

    refused : append (words constants) count max_count r Refusal.Constants ≡ buffer (words constants) (record { count = count; place = Err Refusal.Constants }) →
        append pool count max_count r Refusal.Constants ≡ buffer pool (record { count = count; place = Err Refusal.Constants }) → Left
    unfolding pool_of indexed
    refused a b =
        let answer : appended count p Refusal.Constants ≡ record { count = count; place = Err Refusal.Constants } = ap (λ x. x.answer) (left ∙ a) in
        let same : words constants' ≡ words constants = ap (λ x. x.words) (left ∙ a) in
        rw (answer, answered_full count p Refusal.Constants (ap (λ x. x.place) answer), same) (sym (stored ∙ b))

    pub pool_appended : Left
    pool_appended = go (dec_lt count max_count) (dec_lt count (capacity constant_width (words constants)))
      where
        go : Dec (count < max_count) → Dec (count < capacity constant_width (words constants)) → Left
        go (yes l) (yes h) = made l h
        go (yes l) (no h) =
            let same : capacity constant_width pool ≡ capacity constant_width (words constants) = pool_capacity constants index count constant_width in
            refused
            (append_full (words constants) count max_count r Refusal.Constants (rw long (omega (arith, h))))
            (append_full pool count max_count r Refusal.Constants (rw (long, same) (omega (arith, h))))
        go (no l) d = refused (append_limit (words constants) count max_count r Refusal.Constants (omega (arith, l))) (append_limit pool count max_count r Refusal.Constants (omega (arith, l)))

  -- the same by the program's own answers: that the constant was found,
  pub pool_kept : {p : ℕ} → p ≡ find (words constants) index count r → p < count → buffer (pool_of constants index count) (record { count = count; place = Ok p }) ≡ store_constant pool count c
  pool_kept {p} e h = rw (appended_found count Refusal.Constants p h (omega (arith, h, few))) at (pool_stored e h)

  -- and not that it was counted again,
  pub kept_counted_refuted : {p : ℕ} → p ≡ find (words constants) index count r → p < count → buffer (pool_of constants index count) (record { count = count + 1; place = Ok p }) ≢ store_constant pool count c
  kept_counted_refuted {p} e h wrong =
      let same : count + 1 ≡ count = ap (λ b. b.answer.count) (wrong ∙ sym (pool_kept e h)) in
      omega (arith, same)

  -- or what `append` answers by its contract
  module _ (absent : count ≤ find (words constants) index count r) (size : slots + links ≤ length index) (constants' : List ℕ) (answer : Appended)
      (left : buffer (words constants') answer ≡ append (words constants) count max_count r Refusal.Constants) where
    abbrev LeftBy : Type 0
    LeftBy = buffer (pool_of constants' (indexed_by index answer.place (slot_of r)) answer.count) answer ≡ store_constant pool count c

    -- by the number that stands for the answer
    by_number : (p : ℕ) → appended count p Refusal.Constants ≡ answer → indexed index p (slot_of r) ≡ indexed_by index answer.place (slot_of r) → LeftBy
    by_number p is_answer index_same = rw (is_answer, index_same) at (pool_appended absent size constants' p (rw is_answer left))

    no_room : append (words constants) count max_count r Refusal.Constants ≡ buffer (words constants) (record { count = count; place = Err Refusal.Constants }) → LeftBy
    unfolding indexed
    no_room a =
        let is_answer : answer ≡ record { count = count; place = Err Refusal.Constants } = ap (λ b. b.answer) (left ∙ a) in
        by_number full (rw is_answer (appended_full count Refusal.Constants)) (rw is_answer)

    pub pool_left : LeftBy
    pool_left = go (dec_lt count max_count) (dec_lt count (capacity constant_width (words constants)))
      where
        go : Dec (count < max_count) → Dec (count < capacity constant_width (words constants)) → LeftBy
        go (yes l) (yes h) =
            let is_answer : answer ≡ record { count = count + 1; place = Ok count } = ap (λ b. b.answer) (left ∙ append_room (words constants) count max_count r Refusal.Constants l (rw long h)) in
            by_number count (rw is_answer (appended_new count Refusal.Constants l)) (rw is_answer)
        go (yes l) (no h) = no_room (append_full (words constants) count max_count r Refusal.Constants (rw long (omega (arith, h))))
        go (no l) d = no_room (append_limit (words constants) count max_count r Refusal.Constants (omega (arith, l)))
