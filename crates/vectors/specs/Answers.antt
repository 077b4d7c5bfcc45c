-- A record of answers: how it is laid out, which cases it has, and what their replay gives. `at`, and each name that ends in At or End, is an offset in bytes from
-- the start of the record s.
use Rattle.std.specs.Prelude.{ℕ, zero, suc, ◌+◌, ◌-◌, ◌*◌, List, [], ◌∷◌, Bool, true, false, cond, leb, eqb, length, take, drop, Option, Some, None}
use Rattle.std.specs.Option.{unwrap_or}
use Rattle.std.specs.Str.{bytes_eq}
use Rattle.listing.specs.Column.{column_bytes, read_column, column_number}
use Rattle.listing.specs.Text.{line_feed}
use Rattle.listing.specs.Output.{lowerlist}
use Rattle.vectors.specs.declared.Case.{Case}
use Rattle.vectors.specs.declared.Outcome.{Outcome}

-- ---- the layout: lines that begin with '#'; a line with the number of cases; the cases

-- '#'
abbrev pub hash : ℕ
hash = 35

-- how many bytes the line at the start of s has, with its line feed
unfoldable pub line_length : List ℕ → ℕ
line_length [] = 0
line_length (b ∷ s) = cond (eqb b line_feed) 1 (suc (line_length s))

-- where the line ends that begins at `at`
abbrev pub line_end : List ℕ → ℕ → ℕ
line_end s at = at + line_length (drop at s)

-- how many bytes the lines at the start of s have that begin with '#'; `begins` says whether s begins with a line or inside one
unfoldable pub comments_length : Bool → List ℕ → ℕ
comments_length begins [] = 0
comments_length true (b ∷ s) = cond (eqb b hash) (suc (comments_length false s)) 0
comments_length false (b ∷ s) = suc (comments_length (eqb b line_feed) s)

-- where they end
abbrev pub comments_end : List ℕ → ℕ
comments_end s = comments_length true s

-- the number in the column that begins at `at`; 0 where it has none
abbrev pub number : List ℕ → ℕ → ℕ
number s at = unwrap_or (column_number (read_column (drop at s))) 0

-- the columns of a case's line that have the lengths of its text and of its answer
abbrev pub text_column : ℕ
text_column = 2

abbrev pub answer_column : ℕ
answer_column = 3

-- the case whose line begins at `at`: its text follows the line, its answer the text, and the next case the answer
abbrev pub text_at : List ℕ → ℕ → ℕ
text_at s at = line_end s at

abbrev pub answer_at : List ℕ → ℕ → ℕ
answer_at s at = text_at s at + number s (at + column_bytes * text_column)

abbrev pub next_at : List ℕ → ℕ → ℕ
next_at s at = answer_at s at + number s (at + column_bytes * answer_column)

unfoldable pub case_at : List ℕ → ℕ → Case
case_at s at = record { text = text_at s at; answer = answer_at s at; next = next_at s at }

-- ---- the cases

-- how many cases the record says that it has
abbrev pub cases_told : List ℕ → ℕ
cases_told s = number s (comments_end s)

-- where the line of the first begins
abbrev pub first_at : List ℕ → ℕ
first_at s = line_end s (comments_end s)

-- where the lines of the next n cases begin, the first at `at`; up to a case that is not whole
unfoldable pub cases_from : ℕ → List ℕ → ℕ → List ℕ
cases_from zero s at = []
cases_from (suc n) s at = cond (leb (case_at s at).next (length s)) (at ∷ cases_from n s (case_at s at).next) []

-- where the lines of the record's cases begin
abbrev pub case_starts : List ℕ → List ℕ
case_starts s = cases_from (cases_told s) s (first_at s)

-- ---- the replay

-- the bytes of s from one place up to another
abbrev pub part : List ℕ → ℕ → ℕ → List ℕ
part s from to = take (to - from) (drop from s)

-- whether the answer of a case is what its text prints
unfoldable pub agrees : List ℕ → Case → Bool
agrees s c = bytes_eq (lowerlist (part s c.text c.answer)) (part s c.answer c.next)

-- of cases, given by where their lines begin: how many agree
unfoldable pub agreeing : List ℕ → List ℕ → ℕ
agreeing s [] = 0
agreeing s (at ∷ rest) = cond (agrees s (case_at s at)) (suc (agreeing s rest)) (agreeing s rest)

-- where the line of the first begins that does not agree; None if all agree
unfoldable pub differing : List ℕ → List ℕ → Option ℕ
differing s [] = None
differing s (at ∷ rest) = cond (agrees s (case_at s at)) (differing s rest) (Some at)

-- where the last of them ends; `at` if there is none
unfoldable pub end_of : List ℕ → ℕ → List ℕ → ℕ
end_of s at [] = at
end_of s at (first ∷ rest) = end_of s (case_at s first).next rest

unfoldable pub outcome : List ℕ → Outcome
outcome s =
    record {
      cases = cases_told s;
      agreeing = agreeing s (case_starts s);
      differing = differing s (case_starts s);
      end = end_of s (first_at s) (case_starts s);
    }
