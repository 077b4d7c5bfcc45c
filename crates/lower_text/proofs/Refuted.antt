-- `Prints` is false of the worked page with one wrong byte, or with a wrong number: what it says can fail. Assumes nothing.
use Prim.Native.Nat.{ℕ}
use native.Mathlib.Omega.{arith}
use mathlib.Core.Path.{ap}
use mathlib.Core.List.{List, [], ◌∷◌, ◌++◌}
use lib.ListN.{get_or, set, replicate}
use Rattle.listing.specs.Text.{line_feed}
use Rattle.listing.specs.Page.{codes, bytes_of_lines, page_listing}
use Rattle.lower_text.specs.Prints.{Prints}

-- the page has 416 bytes, of which byte 10 is the digit 0 (48), the number of an accepted rule
abbrev pub page_bytes : List ℕ
page_bytes = bytes_of_lines page_listing

abbrev pub PageOf : List ℕ → List ℕ → ℕ → Type 0
PageOf out out' size = Prints page_bytes out out' size

pub byte_refuted : PageOf (replicate 416 0) (set page_bytes 10 49) 416 → ⊥
unfolding codes bytes_of_lines page_listing
byte_refuted p = omega (arith, ap (λ l. get_or l 10 0) p.begins)

pub count_refuted : (out out' : List ℕ) → PageOf out out' 415 → ⊥
unfolding codes bytes_of_lines page_listing
count_refuted out out' p = omega (arith, p.count)

-- a byte too many is written
pub behind_refuted : PageOf (replicate 417 0) (page_bytes ++ (line_feed ∷ [])) 416 → ⊥
unfolding codes bytes_of_lines page_listing
behind_refuted p = omega (arith, ap (λ l. get_or l 0 0) p.behind)

-- a buffer of eleven bytes, too short for the listing, with nothing written
pub cut_refuted : PageOf (replicate 11 0) (replicate 11 0) 416 → ⊥
unfolding codes bytes_of_lines page_listing
cut_refuted p = omega (arith, ap (λ l. get_or l 10 0) p.begins)
