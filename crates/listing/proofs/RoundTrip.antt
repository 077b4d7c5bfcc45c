-- What is written is read back: a line, a run of lines, and a whole tree. So no good text is refused. Assumes nothing.
use Rattle.std.specs.Prelude.{Some}
use mathlib.Core.Path.{◌≡◌, refl, ap, ◌∙◌}
use mathlib.Core.List.{List, [], ◌∷◌, ◌++◌, append_assoc, append-nil}
use mathlib.Core.Bool.{true}
use Prim.Native.Nat.{ℕ, zero, suc, ◌+◌, ◌*◌, ◌/◌, ◌≤◌}
use native.Mathlib.Omega.{arith}
use native.Mathlib.Nat.{mul-zero}
use lib.ListN.{length, take, drop, length-append, length-drop, take-append-drop}
use lib.Seq.{drop_at, get_or-drop}
use borrow.Author.Tests.{le-leb, eq-eqb}
use Rattle.syntax.specs.Ast.{node_width}
use Rattle.listing.specs.declared.text.Header.{Header}
use Rattle.listing.specs.Column.{column_bytes, write_column}
use Rattle.listing.specs.Text.{nodes_bound, list_words_bound, parameters_bound, line_bytes, read_as, behind, read_line, below, read_lines, header_width, list_width, name_width, header_of, nodes_at, list_at, names_at, text_bytes, headed, read_header, read_nodes, read_list, read_names, checked_head, read_text, TextTree, text_tree, read_tree}
use Rattle.listing.specs.Output.{write_line, write_lines, header_words, write_tree, Words, Fits}
use Rattle.listing.proofs.Columns.{number_back, length_column}
use Rattle.listing.proofs.Written.{length_line, length_lines}

drop_words : (n : ℕ) (ws : List ℕ) → Words ws → Words (drop n ws)
drop_words n ws h i = omega (arith, get_or-drop n ws i 0, h (n + i))

pub line_back : (w : ℕ) (ws s : List ℕ) → w ≤ length ws → Words ws → read_line w (write_line w ws ++ s) ≡ read_as (take w ws) true
unfolding read_line write_line behind
line_back zero ws s l h = refl
line_back (suc w) [] s l h = absurd (omega arith)
line_back (suc w) (x ∷ ws) s l h =
    let rest : List ℕ = write_line w ws ++ s in
    rw (append_assoc (write_column x) (write_line w ws) s, number_back x rest (h 0), drop_at (write_column x) rest column_bytes (length_column x))
    (ap (behind (Some x)) (line_back w ws s (omega arith) (λ i. h (suc i))))

pub lines_back : (w n : ℕ) (ws s : List ℕ) → length ws ≡ w * n → Words ws → read_lines w n (write_lines w n ws ++ s) ≡ read_as ws true
unfolding read_lines write_lines below
lines_back w zero [] s l h = refl
lines_back w zero (x ∷ ws) s l h = absurd (omega (arith, mul-zero w))
lines_back w (suc n) ws s l h =
    let line : List ℕ = write_line w ws in
    let rest : List ℕ = write_lines w n (drop w ws) ++ s in
    let more : length (drop w ws) ≡ w * n = omega (arith, length-drop w ws) in
    let long : w ≤ length ws = omega arith in
    let others : read_lines w n rest ≡ read_as (drop w ws) true = lines_back w n (drop w ws) s more (drop_words w ws h) in
    rw (append_assoc line (write_lines w n (drop w ws)) s, line_back w ws rest long h, drop_at line rest (line_bytes w) (length_line w ws))
    (rw (others, take-append-drop w ws))

module _ (t : TextTree) where
  abbrev count : ℕ
  count = length t.nodes / node_width

  -- the four parts of the text, and the header that the first says
  unfoldable header_part : List ℕ
  header_part = write_line header_width (header_words t)

  unfoldable nodes_part : List ℕ
  nodes_part = write_lines node_width count t.nodes

  unfoldable list_part : List ℕ
  list_part = write_lines list_width (length t.list) t.list

  unfoldable names_part : List ℕ
  names_part = write_lines name_width (length t.names) t.names

  abbrev header : Header
  header = record { mode = t.mode; root = t.root; nodes = count; list = length t.list; names = length t.names }

  parts : write_tree t ≡ header_part ++ nodes_part ++ list_part ++ names_part
  unfolding write_tree header_part nodes_part list_part names_part
  parts = refl

  -- how long each part is, and where it begins
  length_header : length header_part ≡ nodes_at
  unfolding header_part
  length_header = length_line header_width (header_words t)

  length_nodes : length (header_part ++ nodes_part) ≡ list_at header
  unfolding nodes_part
  length_nodes = omega (arith, length-append header_part nodes_part, length_header, length_lines node_width count t.nodes)

  length_list : length (header_part ++ nodes_part ++ list_part) ≡ names_at header
  unfolding list_part
  length_list = omega (arith, length-append (header_part ++ nodes_part) list_part, length_nodes, length_lines list_width (length t.list) t.list)

  length_names : length (header_part ++ nodes_part ++ list_part ++ names_part) ≡ text_bytes header
  unfolding names_part
  length_names = omega (arith, length-append (header_part ++ nodes_part ++ list_part) names_part, length_list, length_lines name_width (length t.names) t.names)

  -- the text, from each part on
  from_list : header_part ++ nodes_part ++ list_part ++ names_part ≡ header_part ++ nodes_part ++ (list_part ++ names_part)
  from_list = append_assoc (header_part ++ nodes_part) list_part names_part

  from_nodes : header_part ++ nodes_part ++ list_part ++ names_part ≡ header_part ++ (nodes_part ++ (list_part ++ names_part))
  from_nodes = from_list ∙ append_assoc header_part nodes_part (list_part ++ names_part)

  module _ (f : Fits t) where
    header_read : read_line header_width (write_tree t) ≡ read_as (header_words t) true
    unfolding header_part
    header_read = rw (parts, from_nodes) (line_back header_width (header_words t) (nodes_part ++ (list_part ++ names_part)) (omega arith) fits)
      where
        fits : Words (header_words t)
        fits zero = f.mode
        fits (suc zero) = f.root
        fits (suc (suc zero)) = omega (arith, f.few_nodes)
        fits (suc (suc (suc zero))) = omega (arith, f.few_words)
        fits (suc (suc (suc (suc zero)))) = omega (arith, f.few_names)
        fits (suc (suc (suc (suc (suc i))))) = omega arith

    nodes_read : read_nodes header (write_tree t) ≡ read_as t.nodes true
    unfolding read_nodes nodes_part
    nodes_read =
        rw (parts, from_nodes, drop_at header_part (nodes_part ++ (list_part ++ names_part)) nodes_at length_header)
        (lines_back node_width count t.nodes (list_part ++ names_part) f.whole f.nodes)

    list_read : read_list header (write_tree t) ≡ read_as t.list true
    unfolding read_list list_part
    list_read =
        rw (parts, from_list, drop_at (header_part ++ nodes_part) (list_part ++ names_part) (list_at header) length_nodes)
        (lines_back list_width (length t.list) t.list names_part (omega arith) f.list)

    names_read : read_names header (write_tree t) ≡ read_as t.names true
    unfolding read_names names_part
    names_read =
        rw (parts, drop_at (header_part ++ nodes_part ++ list_part) names_part (names_at header) length_list, ← append-nil names_part)
        (lines_back name_width (length t.names) t.names [] (omega arith) f.names)

    good_header : read_header (write_tree t) ≡ Some header
    unfolding read_header headed header_of
    good_header =
        let nodes = le-leb count nodes_bound f.few_nodes in
        let list = le-leb (length t.list) list_words_bound f.few_words in
        let names = le-leb (length t.names) parameters_bound f.few_names in
        rw (header_read, nodes, list, names, eq-eqb (length (write_tree t)) (text_bytes header) (ap length parts ∙ length_names))

    good_text : read_text (write_tree t) ≡ Some header
    unfolding read_text checked_head
    good_text = rw (good_header, nodes_read, list_read, names_read)

    -- A tree that is written in columns is read back.
    pub tree_back : read_tree (write_tree t) ≡ Some t
    unfolding read_tree text_tree
    tree_back = rw (good_text, nodes_read, list_read, names_read)
