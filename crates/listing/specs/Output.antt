-- "Output: the eight result numbers, instructions, constants": what is printed of what lowering leaves, and the program, from text to output.
use Rattle.std.specs.Prelude.{ℕ, zero, suc, ◌+◌, ◌*◌, ◌/◌, ◌≤◌, ◌≡◌, List, [], ◌∷◌, ◌++◌, length, get_or, drop, replicate, Option, Some, None}
use Rattle.std.proofs.lemmas.List.Edits.{sets}
use Rattle.diagnostics.specs.declared.Refusal.{Refusal}
use Rattle.diagnostics.specs.Refusal.{refusal_number}
use Rattle.words.specs.Words.{bytes_of}
use Rattle.syntax.specs.Ast.{node_width}
use Rattle.runtime.specs.Instruction.{instruction_width}
use Rattle.runtime.specs.Value.{constant_width}
use Rattle.lowering.specs.Result.{result, numbers_of, Lowered, lower}
use Rattle.listing.specs.Column.{max_word, write_column}
use Rattle.listing.specs.Text.{line_feed, line_bytes, header_width, list_width, name_width, nodes_bound, list_words_bound, parameters_bound, TextTree, read_tree}

-- a line of w columns: the first w words of ws, 0 past the last, and a line feed
unfoldable pub write_line : ℕ → List ℕ → List ℕ
write_line zero ws = line_feed ∷ []
write_line (suc w) ws = write_column (get_or ws 0 0) ++ write_line w (drop 1 ws)

-- n lines of w columns
unfoldable pub write_lines : ℕ → ℕ → List ℕ → List ℕ
write_lines w zero ws = []
write_lines w (suc n) ws = write_line w ws ++ write_lines w n (drop w ws)

abbrev pub result_width : ℕ
result_width = 8

-- the eight numbers, and as many instructions and constants as the fifth and the sixth say
unfoldable pub printed : List ℕ → List ℕ → List ℕ → List ℕ
printed numbers code constants =
    write_line result_width numbers ++ write_lines instruction_width (get_or numbers 4 0) code ++ write_lines constant_width (get_or numbers 5 0) constants

-- What printing leaves: a buffer that had the bytes `out` has `out'`, the printed bytes from its start on, those past its end left out; and `size` comes back.
pub record Leaves (bytes out out' : List ℕ) (size : ℕ) : Type 0 where
  pub stored : out' ≡ sets out 0 bytes
  -- how many bytes were to be printed, whether the buffer holds them or not
  pub count : size ≡ length bytes

unfoldable pub listing : Lowered → List ℕ
listing l = printed (numbers_of l.result) l.code l.constants

-- "Bounds: [..] 2,048 instructions, 512 constants, 512 marks": the program's buffers, all zeros at first
abbrev pub instructions_bound : ℕ
instructions_bound = 2048

abbrev pub constants_bound : ℕ
constants_bound = 512

abbrev pub marks_bound : ℕ
marks_bound = 512

-- the bytes of the longest listing: the eight numbers, and as many instructions and constants as the buffers hold, one a line
abbrev pub longest_listing : ℕ
longest_listing = line_bytes result_width + line_bytes instruction_width * instructions_bound + line_bytes constant_width * constants_bound

unfoldable pub lower_tree : TextTree → Lowered
lower_tree t =
    lower (bytes_of t.nodes) t.root t.mode (bytes_of t.list) (bytes_of t.names)
    (replicate (instruction_width * instructions_bound) 0) (replicate (constant_width * constants_bound) 0) (replicate marks_bound 0)

-- "Text laid out otherwise or past them prints number 1 and zeros."
unfoldable pub print_tree : Option TextTree → List ℕ
print_tree None = printed (numbers_of (result (refusal_number Refusal.Size) 0 0 0 0 0 0 0)) [] []
print_tree (Some t) = listing (lower_tree t)

-- the program: from the bytes of its standard input to those of its standard output
unfoldable pub lowerlist : List ℕ → List ℕ
lowerlist s = print_tree (read_tree s)

-- a tree in columns: the text that gives it
abbrev pub header_words : TextTree → List ℕ
header_words t = t.mode ∷ t.root ∷ length t.nodes / node_width ∷ length t.list ∷ length t.names ∷ []

unfoldable pub write_tree : TextTree → List ℕ
write_tree t =
    write_line header_width (header_words t)
    ++ write_lines node_width (length t.nodes / node_width) t.nodes
    ++ write_lines list_width (length t.list) t.list
    ++ write_lines name_width (length t.names) t.names

-- a list of words: "nothing above 4294967295"
abbrev pub Words : List ℕ → Type 0
Words ws = (i : ℕ) → get_or ws i 0 ≤ max_word

-- a tree that a text can give: whole nodes, within the bounds, and words
pub record Fits (t : TextTree) : Type 0 where
  pub whole : length t.nodes ≡ node_width * (length t.nodes / node_width)
  pub few_nodes : length t.nodes / node_width ≤ nodes_bound
  pub few_words : length t.list ≤ list_words_bound
  pub few_names : length t.names ≤ parameters_bound
  pub mode : t.mode ≤ max_word
  pub root : t.root ≤ max_word
  pub nodes : Words t.nodes
  pub list : Words t.list
  pub names : Words t.names
