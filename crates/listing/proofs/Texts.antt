-- The laws of a text's header and of its parts: what is read, by its words and its bytes. Assumes nothing.
use Rattle.std.specs.Prelude.{Some, None}
use Rattle.std.specs.Bool.{then_some}
use mathlib.Core.Path.{◌≡◌, refl, sym, ap, ◌∙◌}
use mathlib.Core.List.{List, ◌++◌, append-nil}
use mathlib.Core.Bool.{Bool, true, false, ◌&&◌}
use Prim.Native.Nat.{ℕ, ◌+◌, ◌*◌, ◌≤◌, ◌<◌}
use native.Mathlib.Omega.{arith}
use lib.ListN.{length, get_or, drop, drop_of_length-le}
use lib.Seq.{sets, sets-eq}
use lib.Dec.{eqb}
use Rattle.words.specs.Words.{words, tail}
use Rattle.words.proofs.Words.{bytes_words}
use Rattle.listing.specs.declared.text.Header.{Header}
use Rattle.listing.specs.Text.{Read, read_as, read_line, fill, header_width, header_of, within, text_bytes, headed, read_header, read_nodes, read_list, read_names, checked_head, read_text, filled}
use Rattle.listing.proofs.Lines.{line_width}

-- a run of stores over all of a list
pub sets_all : (l vs : List ℕ) → length l ≡ length vs → sets l 0 vs ≡ vs
sets_all l vs e =
    let fits : 0 + length vs ≤ length l = omega arith in
    let over : length l ≤ 0 + length vs = omega arith in
    sets-eq vs l 0 fits ∙ ap (λ (x : List ℕ). vs ++ x) (drop_of_length-le l over) ∙ append-nil vs

-- the line of a header, read into a buffer for it, and what the header is
module _ (s zs vs : List ℕ) (b : Bool) (e : read_as vs b ≡ fill zs (header_width * 0) (read_line header_width (drop 0 s))) where
  pub header_line : (read_line header_width s).good ≡ b
  unfolding fill
  header_line = sym (ap (λ (r : Read). r.good) e)

  pub header_words_lem : length zs ≡ header_width → b ≡ true → vs ≡ (read_line header_width s).words
  unfolding fill
  header_words_lem n g =
      let w : length (read_line header_width s).words ≡ header_width = line_width header_width s (header_line ∙ g) in
      ap (λ (r : Read). r.words) e ∙ sets_all zs (read_line header_width s).words (n ∙ sym w)

pub header_read : (s zs vs : List ℕ) (b : Bool) → read_as vs b ≡ fill zs (header_width * 0) (read_line header_width (drop 0 s)) → length zs ≡ header_width
    → {h : Header} → h ≡ header_of vs → then_some (b && within h && eqb (length s) (text_bytes h)) h ≡ read_header s
unfolding read_header headed
header_read s zs vs true e n is = rw (header_line s zs vs true e, ← header_words_lem s zs vs true e n refl, ← is)
header_read s zs vs false e n is = rw (header_line s zs vs false e)

-- what is read into a buffer from its start on, by its parts
module _ (vs ws : List ℕ) (b : Bool) (r : Read) (e : read_as vs b ≡ fill ws 0 r) where
  pub fill_good : b ≡ r.good
  unfolding fill
  fill_good = ap (λ (x : Read). x.good) e

  pub fill_words : vs ≡ sets ws 0 r.words
  unfolding fill
  fill_words = ap (λ (x : Read). x.words) e

-- one part of a text, read into a buffer, by its bytes
pub part_filled : (reads : Header → List ℕ → Read) (h : Header) (s vs bytes : List ℕ) {b : Bool} → ((i : ℕ) → get_or vs i 0 < 256)
    → read_as (words vs) b ≡ fill (words bytes) 0 (reads h s) → tail vs ≡ tail bytes → vs ≡ filled reads (Some h) s bytes
unfolding filled
part_filled reads h s vs bytes {b} f w r = sym (bytes_words vs f) ∙ rw (fill_words (words vs) (words bytes) b (reads h s) w, r)

-- a text of which the header is good
module _ (s : List ℕ) (h : Header) (e : read_header s ≡ Some h) {b : Bool} (g : b ≡ ((read_nodes h s).good && (read_list h s).good && (read_names h s).good)) where
  pub text_good : b ≡ true → Some h ≡ read_text s
  unfolding read_text checked_head
  text_good t = rw (e, ← g, t)

  pub text_fault : b ≡ false → None ≡ read_text s
  unfolding read_text checked_head
  text_fault t = rw (e, ← g, t)

-- and of which it is bad
module _ (s : List ℕ) (e : read_header s ≡ None) where
  pub text_bad : None ≡ read_text s
  unfolding read_text checked_head
  text_bad = rw e

  pub text_unread : (reads : Header → List ℕ → Read) (bytes : List ℕ) → bytes ≡ filled reads (read_header s) s bytes
  unfolding filled
  text_unread reads bytes = rw e
