-- Worked pages: texts, and what is printed of each. One is document 01's, as the document prints it; the answer of the other is kaori's own (`answer` of
-- the oracle).
use Rattle.std.specs.Prelude.{ℕ, List, [], ◌∷◌, ◌++◌}
use Prim.Native.Char.{code}
use Prim.Native.String.{String}
use Rattle.listing.specs.Text.{line_feed}

-- the bytes of a text in ASCII
unfoldable pub codes : String → List ℕ
codes String.[] = []
codes (String.◌∷◌ c s) = code c ∷ codes s

-- and of lines, each with its line feed
unfoldable pub bytes_of_lines : List String → List ℕ
bytes_of_lines [] = []
bytes_of_lines (l ∷ ls) = codes l ++ (line_feed ∷ bytes_of_lines ls)

-- `if flow < 3 1 else 2`, flow = symbol 7
unfoldable pub page_text : List String
page_text =
    "          0          5          6          0          1"
    ∷ "          4          7          0          0          0          0"
    ∷ "          0          0 1074266112          0          0          0"
    ∷ "          5          9          0          1          0          0"
    ∷ "          0          0 1072693248          0          0          0"
    ∷ "          0          0 1073741824          0          0          0"
    ∷ "         10          2          3          4          0          0"
    ∷ "          7"
    ∷ []

unfoldable pub page_listing : List String
page_listing =
    "          0          0          0          0          5          3          2          1"
    ∷ "         49          0          0          3"
    ∷ "         26          1          1          0"
    ∷ "         41          2          0          0"
    ∷ "         26          1          2          0"
    ∷ "         40          1          0          0"
    ∷ "          2          0 1074266112"
    ∷ "          2          0 1072693248"
    ∷ "          2          0 1073741824"
    ∷ []

-- The same rule without its else, each node with a span of its own: number 11 at node 5, the span of that node, and what was made before.
unfoldable pub refused_text : List String
refused_text =
    "          0          5          6          0          1"
    ∷ "          4          7          0          0         11         12"
    ∷ "          0          0 1074266112          0         13         14"
    ∷ "          5          9          0          1         15         16"
    ∷ "          0          0 1072693248          0         17         18"
    ∷ "          0          0 1073741824          0         19         20"
    ∷ "         10          2          3 4294967295          3          9"
    ∷ "          7"
    ∷ []

unfoldable pub refused_listing : List String
refused_listing =
    "         11          5          3          9          3          2          0          0"
    ∷ "         49          0          0          3"
    ∷ "         26          1          1          0"
    ∷ "         41          0          0          0"
    ∷ "          2          0 1074266112"
    ∷ "          2          0 1072693248"
    ∷ []

-- a text, and what is printed of it
pub record Page : Type 0 where
  pub text : List String
  pub listing : List String

unfoldable pub pages : List Page
pages = record { text = page_text; listing = page_listing } ∷ record { text = refused_text; listing = refused_listing } ∷ []

-- "Text laid out otherwise or past them prints number 1 and zeros."
unfoldable pub one_and_zeros : List String
one_and_zeros = "          1          0          0          0          0          0          0          0" ∷ []
