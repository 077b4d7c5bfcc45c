-- The laws of lines: a line and a run of lines read into a buffer, column by column and line by line. Assumes nothing.
use Rattle.std.specs.Prelude.{Option, Some, None}
use mathlib.Core.Path.{◌≡◌, refl, sym, ap, ◌∙◌}
use mathlib.Core.List.{List, [], ◌∷◌, ◌++◌}
use mathlib.Core.Bool.{true, false}
use Prim.Native.Nat.{ℕ, zero, suc, ◌+◌, ◌*◌, ◌-◌, ◌≤◌, ◌<◌}
use native.Mathlib.Omega.{arith}
use native.Mathlib.Nat.{add-zero, mul-zero, sub-zero}
use lib.Dec.{eqb}
use lib.ListN.{length, get_or, set, drop, drop_of_length-le}
use lib.Seq.{sets, drop-drop, get_or-drop}
use borrow.Author.Tests.{ne_eqb}
use Rattle.listing.specs.Column.{column_bytes, read_bytes, read_column, column_number}
use Rattle.listing.specs.Text.{line_feed, line_bytes, Read, read_as, behind, read_line, below, read_lines, fill}

-- past the end of a text there is no line, and so many lines as there are none of
pub line_past : (w : ℕ) → read_line w [] ≡ read_as [] false
unfolding read_line read_column read_bytes column_number behind
line_past zero = refl
line_past (suc w) = refl

pub lines_past : (w n : ℕ) → read_lines w n [] ≡ read_as [] (eqb n 0)
unfolding read_lines below
lines_past w zero = refl
lines_past w (suc n) = rw (line_past w, ne_eqb (suc n) 0 (λ e. absurd (omega arith)))

-- the line of w columns at `at`, read into the words from `first` on, of which k are passed
module _ (s : List ℕ) (at w first : ℕ) where
  unfoldable pub line_left : List ℕ → ℕ → Read
  line_left ws k = fill ws (first + k) (read_line (w - k) (drop (at + column_bytes * k) s))

  pub line_start : (ws : List ℕ) → line_left ws 0 ≡ fill ws first (read_line w (drop at s))
  unfolding line_left
  line_start ws = let z : at + column_bytes * 0 ≡ at = omega arith in rw (sub-zero, add-zero first, z)

  next : (ws : List ℕ) (k : ℕ) → k < w →
      line_left ws k ≡ fill ws (first + k) (behind (column_number (read_column (drop (at + column_bytes * k) s))) (read_line (w - (k + 1)) (drop (at + column_bytes * (k + 1)) s)))
  unfolding line_left read_line
  next ws k h =
      let n : w - k ≡ suc (w - (k + 1)) = omega arith in
      let e : at + column_bytes * (k + 1) ≡ at + column_bytes * k + column_bytes = omega arith in
      rw (n, e, drop-drop column_bytes (at + column_bytes * k) s)

  pub line_more : (ws : List ℕ) (k x : ℕ) {q : Read} → k < w → column_number (read_column (drop (at + column_bytes * k) s)) ≡ Some x
      → line_left ws k ≡ q → line_left (set ws (first + k) x) (k + 1) ≡ q
  unfolding line_left fill behind
  line_more ws k x h c i =
      let e : first + (k + 1) ≡ suc (first + k) = omega arith in
      rw e (sym (rw c at (next ws k h)) ∙ i)

  pub line_fault : (ws : List ℕ) (k : ℕ) {q : Read} → k < w → column_number (read_column (drop (at + column_bytes * k) s)) ≡ None
      → line_left ws k ≡ q → read_as ws false ≡ q
  unfolding fill behind
  line_fault ws k h c i = sym (rw c at (next ws k h)) ∙ i

  pub line_end_lem : (ws : List ℕ) (k : ℕ) {q : Read} → w ≤ k → line_left ws k ≡ q → read_as ws (eqb (get_or s (at + column_bytes * k) 0) line_feed) ≡ q
  unfolding line_left read_line fill
  line_end_lem ws k h i =
      let n : w - k ≡ 0 = omega arith in
      let m : ℕ = at + column_bytes * k in
      let g : get_or (drop m s) 0 0 ≡ get_or s m 0 = get_or-drop m s 0 0 ∙ ap (λ (j : ℕ). get_or s j 0) (add-zero m) in
      rw (← g) (rw n at i)

  pub line_out : (ws : List ℕ) → length s < at → read_as ws false ≡ fill ws first (read_line w (drop at s))
  unfolding fill
  line_out ws h = sym (rw (drop_of_length-le s {i = at} (omega arith), line_past w))

-- a good line has as many words as columns
behind_width : (number : Option ℕ) (rest : Read) (w : ℕ) → (rest.good ≡ true → length rest.words ≡ w) → (behind number rest).good ≡ true
    → length (behind number rest).words ≡ suc w
unfolding behind
behind_width None rest w h g = cc
behind_width (Some x) rest w h g = ap suc (h g)

pub line_width : (w : ℕ) (s : List ℕ) → (read_line w s).good ≡ true → length (read_line w s).words ≡ w
unfolding read_line
line_width zero s g = refl
line_width (suc w) s g = behind_width (column_number (read_column s)) (read_line w (drop column_bytes s)) w (line_width w (drop column_bytes s)) g

-- a run of stores, and another after it
pub sets_append : (l : List ℕ) (i : ℕ) (xs ys : List ℕ) → sets l i (xs ++ ys) ≡ sets (sets l i xs) (i + length xs) ys
sets_append l i [] ys = rw (add-zero i)
sets_append l i (x ∷ xs) ys = let e : i + suc (length xs) ≡ suc i + length xs = omega arith in rw e (sets_append (set l i x) (suc i) xs ys)

-- a good line and a bad one, and the lines below it
below_good : (ws : List ℕ) (at : ℕ) (line rest : Read) → line.good ≡ true →
    fill ws at (below line rest) ≡ fill (sets ws at line.words) (at + length line.words) rest
unfolding fill below
below_good ws at line rest g = rw (g, sets_append ws at line.words rest.words)

below_bad : (ws : List ℕ) (at : ℕ) (line rest : Read) → line.good ≡ false → fill ws at (below line rest) ≡ fill ws at line
unfolding fill below
below_bad ws at line rest g = rw g

-- the n lines of w columns from `at` on, read into the words from the first on, of which i are passed
module _ (s : List ℕ) (at w n : ℕ) where
  unfoldable pub lines_left : List ℕ → ℕ → Read
  lines_left ws i = fill ws (w * i) (read_lines w (n - i) (drop (at + line_bytes w * i) s))

  pub lines_start : (ws : List ℕ) → lines_left ws 0 ≡ fill ws 0 (read_lines w n (drop at s))
  unfolding lines_left
  lines_start ws = let z : at + line_bytes w * 0 ≡ at = omega arith in rw (sub-zero, mul-zero w, z)

  module _ (ws : List ℕ) (i : ℕ) (h : i < n) where
    here : Read
    here = read_line w (drop (at + line_bytes w * i) s)

    rest : Read
    rest = read_lines w (n - (i + 1)) (drop (at + line_bytes w * (i + 1)) s)

    this_line : lines_left ws i ≡ fill ws (w * i) (below here rest)
    unfolding lines_left read_lines here rest
    this_line =
        let m : n - i ≡ suc (n - (i + 1)) = omega arith in
        let e : at + line_bytes w * (i + 1) ≡ at + line_bytes w * i + line_bytes w = omega arith in
        rw (m, e, drop-drop (line_bytes w) (at + line_bytes w * i) s)

    module _ {vs : List ℕ} {q : Read} where
      pub lines_more : read_as vs true ≡ fill ws (w * i) (read_line w (drop (at + line_bytes w * i) s)) → lines_left ws i ≡ q → lines_left vs (i + 1) ≡ q
      unfolding lines_left fill here rest
      lines_more l k =
          let g : here.good ≡ true = sym (ap (λ (r : Read). r.good) l) in
          let e : w * (i + 1) ≡ w * i + length here.words = omega (arith, line_width w (drop (at + line_bytes w * i) s) g) in
          let v : vs ≡ sets ws (w * i) here.words = ap (λ (r : Read). r.words) l in
          ap (λ (x : List ℕ). fill x (w * (i + 1)) rest) v
          ∙ ap (λ (j : ℕ). fill (sets ws (w * i) here.words) j rest) e
          ∙ sym (below_good ws (w * i) here rest g) ∙ sym this_line ∙ k

      pub lines_fault : read_as vs false ≡ fill ws (w * i) (read_line w (drop (at + line_bytes w * i) s)) → lines_left ws i ≡ q → read_as vs false ≡ q
      unfolding fill here
      lines_fault l k = l ∙ sym (below_bad ws (w * i) here rest (sym (ap (λ (r : Read). r.good) l))) ∙ sym this_line ∙ k

  pub lines_end : (ws : List ℕ) (i : ℕ) {q : Read} → n ≤ i → lines_left ws i ≡ q → read_as ws true ≡ q
  unfolding lines_left read_lines fill
  lines_end ws i h k = let m : n - i ≡ 0 = omega arith in rw m at k

  pub lines_out : (ws : List ℕ) → length s < at → read_as ws (eqb n 0) ≡ fill ws 0 (read_lines w n (drop at s))
  unfolding fill
  lines_out ws h = sym (rw (drop_of_length-le s {i = at} (omega arith), lines_past w n))
