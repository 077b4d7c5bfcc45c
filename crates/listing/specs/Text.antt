-- "one record a line, each line ended by a line feed; [..] nothing after the last line. Header: mode, root, nodes, list words, parameters. Then nodes, list
-- words, parameters. Bounds: 512 nodes, 512 list words, 256 parameters": a text read, line by line, and the tree that it gives.
use Rattle.std.specs.Prelude.{ℕ, zero, suc, ◌+◌, ◌*◌, List, [], ◌∷◌, ◌++◌, Bool, true, false, cond, ◌&&◌, leb, eqb, length, get_or, drop, Option, Some, None}
use Rattle.std.specs.Bool.{then_some}
use Rattle.std.proofs.lemmas.List.Edits.{sets}
use Rattle.words.specs.Words.{words, tail, bytes_of}
use Rattle.syntax.specs.Ast.{node_width}
use Rattle.listing.specs.declared.text.Header.{Header}
use Rattle.listing.specs.Column.{column_bytes, read_column, column_number}

abbrev pub line_feed : ℕ
line_feed = 10

-- the bytes of a line of w columns
abbrev pub line_bytes : ℕ → ℕ
line_bytes w = column_bytes * w + 1

-- what reading gives: the words up to the first fault, and whether there is none
pub record Read : Type 0 where
  pub words : List ℕ
  pub good : Bool

abbrev pub read_as : List ℕ → Bool → Read
read_as ws good = record { words = ws; good = good }

-- a column's number, and what follows it in its line; no number is a fault
unfoldable pub behind : Option ℕ → Read → Read
behind None rest = read_as [] false
behind (Some x) rest = read_as (x ∷ rest.words) rest.good

-- the line of w columns at the start of s: its columns, one after the other, and a line feed
unfoldable pub read_line : ℕ → List ℕ → Read
read_line zero s = read_as [] (eqb (get_or s 0 0) line_feed)
read_line (suc w) s = behind (column_number (read_column s)) (read_line w (drop column_bytes s))

-- a line, and the lines below it
unfoldable pub below : Read → Read → Read
below line rest = cond line.good (read_as (line.words ++ rest.words) rest.good) line

-- the n lines of w columns at the start of s
unfoldable pub read_lines : ℕ → ℕ → List ℕ → Read
read_lines w zero s = read_as [] true
read_lines w (suc n) s = below (read_line w s) (read_lines w n (drop (line_bytes w) s))

abbrev pub header_width : ℕ
header_width = 5

abbrev pub list_width : ℕ
list_width = 1

abbrev pub name_width : ℕ
name_width = 1

-- "Header: mode, root, nodes, list words, parameters."
unfoldable pub header_of : List ℕ → Header
header_of ws = record { mode = get_or ws 0 0; root = get_or ws 1 0; nodes = get_or ws 2 0; list = get_or ws 3 0; names = get_or ws 4 0 }

-- "Then nodes, list words, parameters": where each begins, and where the last ends
abbrev pub nodes_at : ℕ
nodes_at = line_bytes header_width

abbrev pub list_at : Header → ℕ
list_at h = nodes_at + line_bytes node_width * h.nodes

abbrev pub names_at : Header → ℕ
names_at h = list_at h + line_bytes list_width * h.list

abbrev pub text_bytes : Header → ℕ
text_bytes h = names_at h + line_bytes name_width * h.names

-- "Bounds: 512 nodes, 512 list words, 256 parameters"
abbrev pub nodes_bound : ℕ
nodes_bound = 512

abbrev pub list_words_bound : ℕ
list_words_bound = 512

abbrev pub parameters_bound : ℕ
parameters_bound = 256

-- the bytes of the longest text that is within the bounds: a header, and as many nodes, list words and parameters as there may be, one a line
abbrev pub longest_text : ℕ
longest_text = nodes_at + line_bytes node_width * nodes_bound + line_bytes list_width * list_words_bound + line_bytes name_width * parameters_bound

abbrev pub within : Header → Bool
within h = leb h.nodes nodes_bound && leb h.list list_words_bound && leb h.names parameters_bound

-- a header in its bounds, with a text as long as it says: "nothing after the last line"
unfoldable pub headed : Read → ℕ → Option Header
headed r size = then_some (r.good && within (header_of r.words) && eqb size (text_bytes (header_of r.words))) (header_of r.words)

unfoldable pub read_header : List ℕ → Option Header
read_header s = headed (read_line header_width s) (length s)

unfoldable pub read_nodes : Header → List ℕ → Read
read_nodes h s = read_lines node_width h.nodes (drop nodes_at s)

unfoldable pub read_list : Header → List ℕ → Read
read_list h s = read_lines list_width h.list (drop (list_at h) s)

unfoldable pub read_names : Header → List ℕ → Read
read_names h s = read_lines name_width h.names (drop (names_at h) s)

-- the header of a text all of whose lines are good
unfoldable pub checked_head : Option Header → List ℕ → Option Header
checked_head None s = None
checked_head (Some h) s = then_some ((read_nodes h s).good && (read_list h s).good && (read_names h s).good) h

unfoldable pub read_text : List ℕ → Option Header
read_text s = checked_head (read_header s) s

-- the tree of a text: mode and root, and the words of its nodes, of its list and of its parameters' names
pub record TextTree : Type 0 where
  pub mode : ℕ
  pub root : ℕ
  pub nodes : List ℕ
  pub list : List ℕ
  pub names : List ℕ

unfoldable pub text_tree : Option Header → List ℕ → Option TextTree
text_tree None s = None
text_tree (Some h) s =
    Some (record {
      mode = h.mode;
      root = h.root;
      nodes = (read_nodes h s).words;
      list = (read_list h s).words;
      names = (read_names h s).words;
    })

-- the tree of a text, or none: "Text laid out otherwise or past them prints number 1 and zeros."
unfoldable pub read_tree : List ℕ → Option TextTree
read_tree s = text_tree (read_text s) s

-- what reading leaves in a buffer: the words from `at` on, up to the first fault, and whether there is none
unfoldable pub fill : List ℕ → ℕ → Read → Read
fill ws at r = read_as (sets ws at r.words) r.good

-- what a text leaves in a buffer, by its bytes: the words of one part at its start, up to the first fault; nothing where the header is bad
unfoldable pub filled : (Header → List ℕ → Read) → Option Header → List ℕ → List ℕ → List ℕ
filled reads None s bytes = bytes
filled reads (Some h) s bytes = bytes_of (sets (words bytes) 0 (reads h s).words) ++ tail bytes
