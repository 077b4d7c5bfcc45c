-- Question 7, as the code asks it: of one, two and three nodes, and of what is left of a call's arguments or of a map's entries. Assumes nothing.
use mathlib.Core.Path.{◌≡◌, refl}
use mathlib.Core.List.{List, [], ◌∷◌, ◌++◌}
use mathlib.Core.Bool.{Bool, true, false, cond, ◌&&◌, ◌||◌}
use Prim.Native.Nat.{ℕ, suc, ◌+◌, ◌*◌, ◌-◌, ◌≤◌, ◌<◌}
use native.Mathlib.Omega.{arith}
use lib.Dec.{ltb, eqb}
use lib.ListN.{length, get_or, take, drop}
use lib.Seq.{drop-cons}
use borrow.Author.Tests.{lt-ltb, le-ltb}
use Rattle.syntax.specs.Ast.{absent}
use Rattle.lowering.specs.Tree.{present, entry_nodes}
use Rattle.lowering.specs.Questions.{all_below}

and_true : (a : Bool) → (a && true) ≡ a
and_true true = refl
and_true false = refl

and_assoc : (a b c : Bool) → (a && (b && c)) ≡ (a && b && c)
and_assoc true b c = refl
and_assoc false b c = refl

module _ (i : ℕ) where
  pub below_one : (n : ℕ) → all_below i (n ∷ []) ≡ ltb n i
  unfolding all_below
  below_one n = and_true (ltb n i)

  pub below_two : (m n : ℕ) → all_below i (m ∷ n ∷ []) ≡ (ltb m i && ltb n i)
  unfolding all_below
  below_two m n = rw (and_true (ltb n i))

  pub below_two_more : (m n : ℕ) (ns : List ℕ) → all_below i (m ∷ n ∷ ns) ≡ (ltb m i && ltb n i && all_below i ns)
  unfolding all_below
  below_two_more m n ns = and_assoc (ltb m i) (ltb n i) (all_below i ns)

  pub below_present : (n : ℕ) → all_below i (present n) ≡ (eqb n absent || ltb n i)
  unfolding present all_below
  below_present n = go (eqb n absent)
    where
      go : (b : Bool) → all_below i (cond b [] (n ∷ [])) ≡ (b || ltb n i)
      go true = refl
      go false = below_one n

  below_append : (ms ns : List ℕ) → all_below i (ms ++ ns) ≡ (all_below i ms && all_below i ns)
  unfolding all_below
  below_append [] ns = refl
  below_append (m ∷ ms) ns = rw (below_append ms ns) (and_assoc (ltb m i) (all_below i ms) (all_below i ns))

-- the arguments from k on, of `count` from `first` on in the list
unfoldable pub arguments_from : List ℕ → ℕ → ℕ → ℕ → List ℕ
arguments_from list first count k = take (count - k) (drop (first + k) list)

-- the nodes of the entries from k on
unfoldable pub entries_from : List ℕ → ℕ → ℕ → ℕ → List ℕ
entries_from list first count k = entry_nodes (take (2 * (count - k)) (drop (first + 2 * k) list))

module _ (list : List ℕ) (i first count : ℕ) where
  pub arguments_start : all_below i (arguments_from list first count 0) ≡ all_below i (take count (drop first list))
  unfolding arguments_from
  arguments_start = let e : first + 0 ≡ first = omega arith in let d : count - 0 ≡ count = omega arith in rw (e, d)

  pub arguments_end : (k : ℕ) → count ≤ k → all_below i (arguments_from list first count k) ≡ true
  unfolding arguments_from all_below
  arguments_end k h = let e : count - k ≡ 0 = omega arith in rw e

  pub entries_start : all_below i (entries_from list first count 0) ≡ all_below i (entry_nodes (take (2 * count) (drop first list)))
  unfolding entries_from
  entries_start = let e : first + 2 * 0 ≡ first = omega arith in let d : count - 0 ≡ count = omega arith in rw (e, d)

  pub entries_end : (k : ℕ) → count ≤ k → all_below i (entries_from list first count k) ≡ true
  unfolding entries_from entry_nodes all_below
  entries_end k h = let e : 2 * (count - k) ≡ 0 = omega arith in rw e

  -- argument k, and those after it
  module _ (inside : first + count ≤ length list) (k : ℕ) (l : k < count) where
    arguments_next : arguments_from list first count k ≡ get_or list (first + k) 0 ∷ arguments_from list first count (k + 1)
    unfolding arguments_from
    arguments_next =
        let e : count - k ≡ suc (count - (k + 1)) = omega arith in
        let d : first + (k + 1) ≡ suc (first + k) = omega arith in
        let h : first + k < length list = omega arith in
        rw (e, d, drop-cons list (first + k) 0 h)

    pub arguments_more : get_or list (first + k) 0 < i → all_below i (arguments_from list first count k) ≡ all_below i (arguments_from list first count (k + 1))
    unfolding all_below
    arguments_more h = rw (arguments_next, lt-ltb (get_or list (first + k) 0) i h)

    pub arguments_not : i ≤ get_or list (first + k) 0 → all_below i (arguments_from list first count k) ≡ false
    unfolding all_below
    arguments_not h = rw (arguments_next, le-ltb (get_or list (first + k) 0) i h)

  -- entry k, and those after it
  module _ (inside : first + 2 * count ≤ length list) (k : ℕ) (l : k < count) where
    entries_next : entries_from list first count k
        ≡ get_or list (first + 2 * k) 0 ∷ (present (get_or list (first + 2 * k + 1) 0) ++ entries_from list first count (k + 1))
    unfolding entries_from entry_nodes
    entries_next =
        let e : 2 * (count - k) ≡ suc (suc (2 * (count - (k + 1)))) = omega arith in
        let d : first + 2 * (k + 1) ≡ suc (suc (first + 2 * k)) = omega arith in
        let v : first + 2 * k + 1 ≡ suc (first + 2 * k) = omega arith in
        let h : first + 2 * k < length list = omega arith in
        let g : suc (first + 2 * k) < length list = omega arith in
        rw (e, d, v, drop-cons list (first + 2 * k) 0 h, drop-cons list (suc (first + 2 * k)) 0 g)

    entries_parts : all_below i (entries_from list first count k)
        ≡ (ltb (get_or list (first + 2 * k) 0) i && (all_below i (present (get_or list (first + 2 * k + 1) 0)) && all_below i (entries_from list first count (k + 1))))
    unfolding all_below
    entries_parts = rw (entries_next, below_append i (present (get_or list (first + 2 * k + 1) 0)) (entries_from list first count (k + 1)))

    pub entries_more : get_or list (first + 2 * k) 0 < i → all_below i (present (get_or list (first + 2 * k + 1) 0)) ≡ true
        → all_below i (entries_from list first count k) ≡ all_below i (entries_from list first count (k + 1))
    entries_more h p = rw (entries_parts, lt-ltb (get_or list (first + 2 * k) 0) i h, p)

    pub entries_not_key : i ≤ get_or list (first + 2 * k) 0 → all_below i (entries_from list first count k) ≡ false
    entries_not_key h = rw (entries_parts, le-ltb (get_or list (first + 2 * k) 0) i h)

    pub entries_not_value : get_or list (first + 2 * k) 0 < i → all_below i (present (get_or list (first + 2 * k + 1) 0)) ≡ false
        → all_below i (entries_from list first count k) ≡ false
    entries_not_value h p = rw (entries_parts, lt-ltb (get_or list (first + 2 * k) 0) i h, p)
