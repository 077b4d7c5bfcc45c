-- Laws of a record of answers, as the replay's loops need them: where a line and the comments end, and one case more.
-- Assumes nothing.
use Rattle.std.specs.Prelude.{Option, Some, None}
use Rattle.std.specs.Option.{MatchOption, option_or}
use Rattle.std.specs.List.{position, position_or_len}
use Prim.Native.Nat.{ℕ, zero, suc, ◌+◌, ◌-◌, ◌≤◌, ◌<◌}
use native.Mathlib.Omega.{arith}
use native.Mathlib.Decide.{dec_le}
use native.Mathlib.Numerals.{add-one, unary_clauses}
use mathlib.Core.Path.{◌≡◌, refl, sym, ap, ◌∙◌}
use mathlib.Core.List.{List, [], ◌∷◌}
use mathlib.Core.Bool.{Bool, true, false, not, cond}
use lib.Dec.{ltb, eqb}
use lib.ListN.{length, get_or, drop, drop_of_length-le}
use lib.Seq.{drop-cons, drop-drop}
use borrow.Author.Tests.{ltb-true, ltb-false, ne_eqb, le-leb, lt-leb}
use Rattle.listing.specs.Text.{line_feed}
use Rattle.vectors.specs.declared.Case.{Case}
use Rattle.vectors.specs.Answers.{hash, line_length, line_end, comments_length, comments_end, case_at, cases_told, first_at, cases_from, agrees, agreeing, differing, end_of, outcome}

-- ---- lines

-- the bytes before the first line feed, or all
abbrev before_feed : List ℕ → ℕ
before_feed = position_or_len (λ b. eqb b line_feed)

line_length_lem : (s : List ℕ) → (before_feed s < length s → line_length s ≡ before_feed s + 1) × (length s ≤ before_feed s → line_length s ≡ length s)
unfolding line_length
line_length_lem [] = (λ h. absurd (omega arith), λ h. refl)
line_length_lem (b ∷ s) = go (eqb b line_feed) (line_length_lem s)
  where
    go : (feed : Bool) → (before_feed s < length s → line_length s ≡ before_feed s + 1) × (length s ≤ before_feed s → line_length s ≡ length s)
        → (cond (not feed) (1 + before_feed s) 0 < suc (length s) → cond feed 1 (suc (line_length s)) ≡ cond (not feed) (1 + before_feed s) 0 + 1)
        × (suc (length s) ≤ cond (not feed) (1 + before_feed s) 0 → cond feed 1 (suc (line_length s)) ≡ suc (length s))
    go true e = (λ h. refl, λ h. absurd (omega arith))
    go false e = (λ h. omega (arith, e.0 (omega arith)), λ h. omega (arith, e.1 (omega arith)))

-- by what a search for a line feed finds
pub line_found : (s : List ℕ) (r : Option ℕ) → r ≡ position (λ b. eqb b line_feed) s → MatchOption r (line_length s ≡ length s) (λ i. line_length s ≡ i + 1)
line_found s r e = rw e (go (ltb (before_feed s) (length s)) refl)
  where
    go : (here : Bool) → ltb (before_feed s) (length s) ≡ here
        → MatchOption (cond here (Some (before_feed s)) None) (line_length s ≡ length s) (λ i. line_length s ≡ i + 1)
    go true l = (line_length_lem s).0 (ltb-true _ _ l)
    go false l = (line_length_lem s).1 (ltb-false _ _ l)

module _ (s : List ℕ) (i : ℕ) where
  pub line_end_out : length s ≤ i → line_end s i ≡ i
  unfolding line_length
  line_end_out l = rw (drop_of_length-le s l) (omega arith)

  pub line_end_feed : i < length s → get_or s i 0 ≡ line_feed → line_end s i ≡ i + 1
  unfolding line_length
  line_end_feed l e = rw (drop-cons s i 0 l, e)

  pub line_end_more : i < length s → (get_or s i 0 ≡ line_feed → ⊥) → line_end s i ≡ line_end s (i + 1)
  unfolding line_length
  line_end_more l n = rw (drop-cons s i 0 l, ne_eqb (get_or s i 0) line_feed n, add-one i) (omega arith)

-- ---- comments

comments_length_lem : (begins : Bool) (s : List ℕ) → comments_length begins s ≤ length s
unfolding comments_length
comments_length_lem begins [] = omega arith
comments_length_lem true (b ∷ s) = go (eqb b hash) (comments_length_lem false s)
  where
    go : (comment : Bool) → comments_length false s ≤ length s → cond comment (suc (comments_length false s)) 0 ≤ suc (length s)
    go true l = omega arith
    go false l = omega arith
comments_length_lem false (b ∷ s) = omega (arith, comments_length_lem (eqb b line_feed) s)

pub comments_within : (s : List ℕ) → comments_end s ≤ length s
comments_within s = comments_length_lem true s

-- inside a line: its end, and the lines after it
comments_line : (s : List ℕ) → comments_length false s ≡ line_length s + comments_length true (drop (line_length s) s)
unfolding line_length comments_length
comments_line [] = refl
comments_line (b ∷ s) = go (eqb b line_feed) (comments_line s)
  where
    go : (feed : Bool) → comments_length false s ≡ line_length s + comments_length true (drop (line_length s) s)
        → suc (comments_length feed s) ≡ cond feed 1 (suc (line_length s)) + comments_length true (drop (cond feed 1 (suc (line_length s))) (b ∷ s))
    go true e = omega arith
    go false e = omega arith

-- where the comments end that begin at `at`, where a line begins
abbrev pub comments_from : List ℕ → ℕ → ℕ
comments_from s at = at + comments_length true (drop at s)

module _ (s : List ℕ) (at : ℕ) where
  pub comments_out : length s ≤ at → comments_from s at ≡ at
  unfolding comments_length
  comments_out l = rw (drop_of_length-le s l) (omega arith)

  pub comments_none : at < length s → (get_or s at 0 ≡ hash → ⊥) → comments_from s at ≡ at
  unfolding comments_length
  comments_none l n = rw (drop-cons s at 0 l, ne_eqb (get_or s at 0) hash n) (omega arith)

  comments_hash : (t : List ℕ) → comments_length true (hash ∷ t) ≡ line_length (hash ∷ t) + comments_length true (drop (line_length (hash ∷ t)) (hash ∷ t))
  unfolding line_length comments_length
  comments_hash t = omega (arith, comments_line t)

  pub comments_more : at < length s → get_or s at 0 ≡ hash → comments_from s at ≡ comments_from s (line_end s at)
  comments_more l e =
      let line : drop at s ≡ hash ∷ drop (suc at) s = rw (drop-cons s at 0 l, e) in
      let here : comments_length true (drop at s) ≡ line_length (drop at s) + comments_length true (drop (line_length (drop at s)) (drop at s)) =
      rw line (comments_hash (drop (suc at) s)) in
      rw (← drop-drop (line_length (drop at s)) at s) (omega arith)

  pub line_end_past : at < length s → at < line_end s at
  unfolding line_length
  line_end_past l = rw (drop-cons s at 0 l) (go (eqb (get_or s at 0) line_feed))
    where
      go : (feed : Bool) → at < at + cond feed 1 (suc (line_length (drop (suc at) s)))
      go true = omega arith
      go false = omega arith

-- ---- cases

module _ (s : List ℕ) (at : ℕ) where
  pub case_ordered : {c : Case} → c ≡ case_at s at → (c.text ≤ c.answer) × (c.answer ≤ c.next)
  unfolding case_at
  case_ordered is = rw is (omega arith, omega arith)

  pub cases_more : (n : ℕ) → (case_at s at).next ≤ length s → cases_from (suc n) s at ≡ at ∷ cases_from n s (case_at s at).next
  unfolding cases_from
  cases_more n l = rw (le-leb (case_at s at).next (length s) l)

  pub cases_cut : (n : ℕ) → length s < (case_at s at).next → cases_from n s at ≡ []
  unfolding cases_from
  cases_cut zero l = refl
  cases_cut (suc n) l = rw (lt-leb (case_at s at).next (length s) l)

-- ---- the replay

module _ (s : List ℕ) (at : ℕ) (rest : List ℕ) where
  agreeing_more : agrees s (case_at s at) ≡ true → agreeing s (at ∷ rest) ≡ suc (agreeing s rest)
  unfolding agreeing
  agreeing_more e = rw e

  agreeing_same : agrees s (case_at s at) ≡ false → agreeing s (at ∷ rest) ≡ agreeing s rest
  unfolding agreeing
  agreeing_same e = rw e

  differing_later : agrees s (case_at s at) ≡ true → differing s (at ∷ rest) ≡ differing s rest
  unfolding differing
  differing_later e = rw e

  differing_here : agrees s (case_at s at) ≡ false → differing s (at ∷ rest) ≡ Some at
  unfolding differing
  differing_here e = rw e

  end_more : end_of s at (at ∷ rest) ≡ end_of s (case_at s at).next rest
  unfolding end_of
  end_more = refl

-- a place that is found is within the record
abbrev pub Within : List ℕ → Option ℕ → Type 0
Within s found = (place : ℕ) → found ≡ Some place → place ≤ length s

within_none : (s : List ℕ) → Within s None
within_none s place e = let z : ◌≡◌ {A = ℕ} 0 1 = cc in absurd (omega arith)

pub differing_within : (n : ℕ) (s : List ℕ) (at : ℕ) → at ≤ length s → Within s (differing s (cases_from n s at))
unfolding cases_from differing
differing_within zero s at l = within_none s
differing_within (suc n) s at l = go (dec_le (case_at s at).next (length s)) (λ m. differing_within n s (case_at s at).next m)
  where
    go : Dec ((case_at s at).next ≤ length s) → ((case_at s at).next ≤ length s → Within s (differing s (cases_from n s (case_at s at).next)))
        → Within s (differing s (cases_from (suc n) s at))
    go (yes m) below = rw (cases_more s at n m) (or_here (agrees s (case_at s at)) (below m))
      where
        or_here : (b : Bool) → Within s (differing s (cases_from n s (case_at s at).next)) → Within s (cond b (differing s (cases_from n s (case_at s at).next)) (Some at))
        or_here true h = h
        or_here false h = λ place e. let z : at ≡ place = cc in rw z at l
    go (no m) below = rw (cases_cut s at (suc n) (omega arith)) (within_none s)

-- what was found stays the first, whatever is found after it
or_first : (found : Option ℕ) (at : ℕ) (later : Option ℕ) → option_or (option_or found (Some at)) later ≡ option_or found (Some at)
or_first None at later = refl
or_first (Some p) at later = refl

or_none : (found : Option ℕ) → option_or found None ≡ found
or_none None = refl
or_none (Some p) = refl

-- all cases: `told` of them, the first at `first`
module _ (s : List ℕ) (told first : ℕ) where
  abbrev all : List ℕ
  all = cases_from told s first

  -- those from `at` on, after i
  abbrev left : ℕ → ℕ → List ℕ
  left at i = cases_from (told - i) s at

  -- What holds after i cases, of which `count` agree, with the next at `at`, and the first that differs at `found`: these with what is left give what
  -- all cases give.
  pub record Replayed (at : ℕ) (found : Option ℕ) (count i : ℕ) : Type 0 where
    pub within : at ≤ length s
    pub few : count ≤ i
    pub counts : count + agreeing s (left at i) ≡ agreeing s all
    pub ends : end_of s at (left at i) ≡ end_of s first all
    -- the first that differs is the one found, or the first of those left
    pub finds : option_or found (differing s (left at i)) ≡ differing s all

  pub start : first ≤ length s → Replayed first None 0 0
  start l = record { within = l; few = omega arith; counts = simp unary_clauses (omega arith); ends = simp unary_clauses; finds = simp unary_clauses }

  -- one case more, c at `at`
  module _ {at count i : ℕ} {found : Option ℕ} (r : Replayed at found count i) (more : i < told) {c : Case} (is : c ≡ case_at s at) (fits : c.next ≤ length s) where
    split : left at i ≡ at ∷ left (case_at s at).next (i + 1)
    split =
        let n : told - i ≡ suc (told - (i + 1)) = omega arith in
        rw n (cases_more s at (told - (i + 1)) (rw is at fits))

    ended : end_of s (case_at s at).next (left (case_at s at).next (i + 1)) ≡ end_of s first all
    ended = sym (ap (end_of s at) split ∙ end_more s at (left (case_at s at).next (i + 1))) ∙ r.ends

    pub agreed : agrees s c ≡ true → Replayed c.next found (count + 1) (i + 1)
    agreed e =
        let e' : agrees s (case_at s at) ≡ true = rw is at e in
        let rest = left (case_at s at).next (i + 1) in
        rw is (record {
          within = rw is at fits;
          few = omega (arith, r.few);
          counts = omega (arith, r.counts, ap (agreeing s) split, agreeing_more s at rest e');
          ends = ended;
          finds = ap (option_or found) (sym (ap (differing s) split ∙ differing_later s at rest e')) ∙ r.finds;
        })

    pub differs : agrees s c ≡ false → Replayed c.next (option_or found (Some at)) count (i + 1)
    differs e =
        let e' : agrees s (case_at s at) ≡ false = rw is at e in
        let rest = left (case_at s at).next (i + 1) in
        rw is (record {
          within = rw is at fits;
          few = omega (arith, r.few);
          counts = omega (arith, r.counts, ap (agreeing s) split, agreeing_same s at rest e');
          ends = ended;
          finds = or_first found at (differing s rest) ∙ ap (option_or found) (sym (ap (differing s) split ∙ differing_here s at rest e')) ∙ r.finds;
        })

  -- none is left
  none_left : (at i : ℕ) → told ≤ i → left at i ≡ []
  unfolding cases_from
  none_left at i l = let z : told - i ≡ 0 = omega arith in rw z

  -- what a replay that ends there gives is what the record's cases give
  abbrev pub ReplayGives : ℕ → Option ℕ → ℕ → Type 0
  ReplayGives at found count = (record { cases = told; agreeing = count; differing = found; end = at } ≡ outcome s) × Within s found

  -- so it is where nothing is left to be replayed
  module _ (told_so : told ≡ cases_told s) (first_so : first ≡ first_at s) (begins : first ≤ length s) {at count i : ℕ} {found : Option ℕ} (r : Replayed at found count i) where
    finished : left at i ≡ [] → ReplayGives at found count
    unfolding agreeing differing end_of outcome
    finished empty =
        let counted : count ≡ agreeing s all = let z : agreeing s (left at i) ≡ 0 = rw empty in omega (arith, r.counts) in
        let ended : at ≡ end_of s first all = let z : at ≡ end_of s at (left at i) = rw empty in z ∙ r.ends in
        let none : differing s (left at i) ≡ None = rw empty in
        let first_found : found ≡ differing s all = sym (or_none found) ∙ ap (option_or found) (sym none) ∙ r.finds in
        (rw (counted, ended, first_found, told_so, first_so), rw first_found (differing_within told s first begins))

    pub all_replayed : told ≤ i → ReplayGives at found count
    all_replayed l = finished (none_left at i l)

    pub rest_cut : {c : Case} → c ≡ case_at s at → length s < c.next → ReplayGives at found count
    rest_cut is l = finished (cases_cut s at (told - i) (rw is at l))
