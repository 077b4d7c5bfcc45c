-- "numbers right-justified in columns of 11 [..]; no leading zeros, nothing above 4294967295": the bytes of a column, read and written.
use Rattle.std.specs.Prelude.{ℕ, zero, suc, ◌+◌, ◌*◌, ◌-◌, ◌/◌, ◌%◌, List, [], ◌∷◌, ◌++◌, Bool, cond, ◌&&◌, ltb, leb, eqb, Option, Some, None}
use Rattle.listing.specs.declared.column.Column.{Column}

-- "columns of 11"
abbrev pub column_bytes : ℕ
column_bytes = 11

abbrev pub space : ℕ
space = 32

abbrev pub digit_zero : ℕ
digit_zero = 48

abbrev pub digit_nine : ℕ
digit_nine = 57

-- "nothing above 4294967295"
abbrev pub max_word : ℕ
max_word = 4294967295

abbrev pub is_digit_byte : ℕ → Bool
is_digit_byte b = leb digit_zero b && leb b digit_nine

-- a byte after spaces alone: one more, or the first digit
unfoldable pub first : ℕ → Column
first b = cond (eqb b space) Column.Blank (cond (is_digit_byte b) (Column.Number (b - digit_zero)) Column.Bad)

-- a byte after the number x: one more digit, where x is no leading zero and the number stays a word
unfoldable pub more : ℕ → ℕ → Column
more x b = cond (is_digit_byte b && ltb 0 x && leb (10 * x + (b - digit_zero)) max_word) (Column.Number (10 * x + (b - digit_zero))) Column.Bad

unfoldable pub step : Column → ℕ → Column
step Column.Blank b = first b
step (Column.Number x) b = more x b
step Column.Bad b = Column.Bad

-- n bytes more
unfoldable pub read_bytes : ℕ → Column → List ℕ → Column
read_bytes zero c s = c
read_bytes (suc n) c [] = Column.Bad
read_bytes (suc n) c (b ∷ s) = read_bytes n (step c b) s

-- the column at the start of s: a number, or `Bad`; spaces alone are no column
unfoldable pub read_column : List ℕ → Column
read_column s = read_bytes column_bytes Column.Blank s

-- the number of a column; none if it has none
unfoldable pub column_number : Column → Option ℕ
column_number Column.Blank = None
column_number (Column.Number x) = Some x
column_number Column.Bad = None

-- the last digit of what is left of a number; a space where nothing is left
unfoldable pub padding : ℕ → ℕ
padding x = cond (eqb x 0) space (digit_zero + x % 10)

-- what is left of a number, in n bytes, right-justified
unfoldable pub padded : ℕ → ℕ → List ℕ
padded zero x = []
padded (suc n) x = padded n (x / 10) ++ (padding x ∷ [])

-- the column of x: its last digit, and what is before it
unfoldable pub write_column : ℕ → List ℕ
write_column x = padded (column_bytes - 1) (x / 10) ++ ((digit_zero + x % 10) ∷ [])
