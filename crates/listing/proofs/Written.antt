-- The laws of what is written: lines, column by column and line by line, and their lengths. Assumes nothing.
use mathlib.Core.Path.{◌≡◌, refl, sym, ap, ◌∙◌}
use mathlib.Core.List.{List, ◌++◌}
use Prim.Native.Nat.{ℕ, zero, suc, ◌+◌, ◌*◌, ◌-◌, ◌≤◌, ◌<◌}
use native.Mathlib.Omega.{arith}
use native.Mathlib.Nat.{add-zero, mul-zero, sub-zero}
use lib.ListN.{length, get_or, set, drop, length-append}
use lib.Seq.{sets, drop-drop, get_or-drop}
use Rattle.listing.specs.Column.{column_bytes, write_column}
use Rattle.listing.specs.Text.{line_feed, line_bytes}
use Rattle.runtime.specs.Instruction.{instruction_width}
use Rattle.runtime.specs.Value.{constant_width}
use Rattle.listing.specs.Output.{write_line, write_lines, result_width, printed}
use Rattle.listing.proofs.Columns.{length_column}
use Rattle.listing.proofs.Lines.{sets_append}

pub length_line : (w : ℕ) (ws : List ℕ) → length (write_line w ws) ≡ line_bytes w
unfolding write_line
length_line zero ws = refl
length_line (suc w) ws =
    omega (arith, length-append (write_column (get_or ws 0 0)) (write_line w (drop 1 ws)), length_column (get_or ws 0 0), length_line w (drop 1 ws))

pub length_lines : (w n : ℕ) (ws : List ℕ) → length (write_lines w n ws) ≡ line_bytes w * n
unfolding write_lines
length_lines w zero ws = omega arith
length_lines w (suc n) ws = omega (arith, length-append (write_line w ws) (write_lines w n (drop w ws)), length_line w ws, length_lines w n (drop w ws))

get_or_first : (ws : List ℕ) (n : ℕ) → get_or (drop n ws) 0 0 ≡ get_or ws n 0
get_or_first ws n = get_or-drop n ws 0 0 ∙ ap (λ (j : ℕ). get_or ws j 0) (add-zero n)

-- the line of the w words from `first` on, written from `at` on, of which k words are written
module _ (at w first : ℕ) (ws : List ℕ) where
  unfoldable pub line_to_write : List ℕ → ℕ → List ℕ
  line_to_write out k = sets out (at + column_bytes * k) (write_line (w - k) (drop (first + k) ws))

  pub write_line_start : (out : List ℕ) → line_to_write out 0 ≡ sets out at (write_line w (drop first ws))
  unfolding line_to_write
  write_line_start out = let z : at + column_bytes * 0 ≡ at = omega arith in rw (sub-zero, add-zero first, z)

  pub write_line_more : (out : List ℕ) (k : ℕ) → k < w →
      line_to_write out k ≡ line_to_write (sets out (at + column_bytes * k) (write_column (get_or ws (first + k) 0))) (k + 1)
  unfolding line_to_write write_line
  write_line_more out k h =
      let n : w - k ≡ suc (w - (k + 1)) = omega arith in
      let x : ℕ = get_or ws (first + k) 0 in
      let e : at + column_bytes * k + length (write_column x) ≡ at + column_bytes * (k + 1) = omega (arith, length_column x) in
      let f : first + (k + 1) ≡ first + k + 1 = omega arith in
      rw (n, f, get_or_first ws (first + k), drop-drop 1 (first + k) ws)
      (sets_append out (at + column_bytes * k) (write_column x) (write_line (w - (k + 1)) (drop (first + k + 1) ws))
      ∙ ap (λ (p : ℕ). sets (sets out (at + column_bytes * k) (write_column x)) p (write_line (w - (k + 1)) (drop (first + k + 1) ws))) e)

  pub write_line_end : (out : List ℕ) (k : ℕ) → w ≤ k → line_to_write out k ≡ set out (at + column_bytes * k) line_feed
  unfolding line_to_write write_line
  write_line_end out k h = let n : w - k ≡ 0 = omega arith in rw n

-- the first n lines of w words, written from `at` on, of which i are written
module _ (at w n : ℕ) (ws : List ℕ) where
  unfoldable pub lines_to_write : List ℕ → ℕ → List ℕ
  lines_to_write out i = sets out (at + line_bytes w * i) (write_lines w (n - i) (drop (w * i) ws))

  pub write_lines_start : (out : List ℕ) → lines_to_write out 0 ≡ sets out at (write_lines w n ws)
  unfolding lines_to_write
  write_lines_start out = let z : at + line_bytes w * 0 ≡ at = omega arith in rw (sub-zero, mul-zero w, z)

  pub write_lines_more : (out : List ℕ) (i : ℕ) → i < n →
      lines_to_write out i ≡ lines_to_write (sets out (at + line_bytes w * i) (write_line w (drop (w * i) ws))) (i + 1)
  unfolding lines_to_write write_lines
  write_lines_more out i h =
      let m : n - i ≡ suc (n - (i + 1)) = omega arith in
      let line : List ℕ = write_line w (drop (w * i) ws) in
      let e : at + line_bytes w * i + length line ≡ at + line_bytes w * (i + 1) = omega (arith, length_line w (drop (w * i) ws)) in
      let f : w * (i + 1) ≡ w * i + w = omega arith in
      rw (m, f, drop-drop w (w * i) ws)
      (sets_append out (at + line_bytes w * i) line (write_lines w (n - (i + 1)) (drop (w * i + w) ws))
      ∙ ap (λ (p : ℕ). sets (sets out (at + line_bytes w * i) line) p (write_lines w (n - (i + 1)) (drop (w * i + w) ws))) e)

  pub write_lines_end : (out : List ℕ) (i : ℕ) → n ≤ i → lines_to_write out i ≡ out
  unfolding lines_to_write write_lines
  write_lines_end out i h = let m : n - i ≡ 0 = omega arith in rw m

-- three runs of stores, each after the one before
sets_three : (out xs ys zs : List ℕ) (i j : ℕ) → length xs ≡ i → i + length ys ≡ j → sets (sets (sets out 0 xs) i ys) j zs ≡ sets out 0 (xs ++ ys ++ zs)
sets_three out xs ys zs i j e f =
    let z : 0 + length xs ≡ i = omega arith in
    let y : 0 + length (xs ++ ys) ≡ j = omega (arith, length-append xs ys) in
    sym (sets_append out 0 (xs ++ ys) zs ∙ rw (y, sets_append out 0 xs ys, z))

-- the listing: its three parts, and its length
module _ (numbers code constants : List ℕ) where
  abbrev pub instructions_end : ℕ
  instructions_end = line_bytes result_width + line_bytes instruction_width * get_or numbers 4 0

  pub printed_parts : (out : List ℕ) →
      sets (sets (sets out 0 (write_line result_width numbers)) (line_bytes result_width) (write_lines instruction_width (get_or numbers 4 0) code))
      instructions_end (write_lines constant_width (get_or numbers 5 0) constants)
      ≡ sets out 0 (printed numbers code constants)
  unfolding printed
  printed_parts out =
      sets_three out (write_line result_width numbers) (write_lines instruction_width (get_or numbers 4 0) code) (write_lines constant_width (get_or numbers 5 0) constants)
      (line_bytes result_width) instructions_end
      (length_line result_width numbers)
      (ap (λ (n : ℕ). line_bytes result_width + n) (length_lines instruction_width (get_or numbers 4 0) code))

  pub printed_length : instructions_end + line_bytes constant_width * get_or numbers 5 0 ≡ length (printed numbers code constants)
  unfolding printed
  printed_length =
      let first : List ℕ = write_line result_width numbers in
      let second : List ℕ = write_lines instruction_width (get_or numbers 4 0) code in
      let third : List ℕ = write_lines constant_width (get_or numbers 5 0) constants in
      let n = length_lines instruction_width (get_or numbers 4 0) code in
      let m = length_lines constant_width (get_or numbers 5 0) constants in
      omega (arith, length-append (first ++ second) third, length-append first second, length_line result_width numbers, n, m)
