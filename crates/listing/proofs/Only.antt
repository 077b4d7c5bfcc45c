-- Only what is written is read: a column, a line, a run of lines and a text that are good are the writing of what they give. So a text that is
-- laid out otherwise is refused. Assumes nothing.
use Rattle.std.specs.Prelude.{Option, Some, None}
use Rattle.std.specs.Bool.{then_some}
use Rattle.std.specs.List.{fold}
use Rattle.std.proofs.lemmas.Bool.{and_parts}
use Rattle.std.proofs.lemmas.List.Sums.{fold-append}
use mathlib.Core.Path.{◌≡◌, refl, sym, ap, ap₂, ◌∙◌, subst}
use mathlib.Core.List.{List, [], ◌∷◌, ◌++◌}
use mathlib.Core.Bool.{Bool, true, false, cond, ◌&&◌}
use Prim.Native.Nat.{ℕ, zero, suc, ◌+◌, ◌*◌, ◌-◌, ◌/◌, ◌%◌, ◌≤◌, ◌<◌}
use native.Mathlib.Omega.{arith}
use native.Mathlib.Decide.{dec_lt}
use lib.Dec.{ltb, leb, eqb}
use lib.ListN.{length, get_or, take, drop, length-append}
use lib.Seq.{take-suc, take-add, take_all, length-take-le, drop_at}
use borrow.Author.Tests.{ltb-true, leb-true, eqb-true, ne_eqb}
use Rattle.syntax.specs.Ast.{node_width}
use Rattle.listing.specs.declared.column.Column.{Column}
use Rattle.listing.specs.declared.text.Header.{Header}
use Rattle.listing.specs.Column.{column_bytes, space, digit_zero, max_word, is_digit_byte, first, more, step, read_column, column_number, padding, padded, write_column}
use Rattle.listing.specs.Text.{nodes_bound, list_words_bound, parameters_bound, line_feed, line_bytes, Read, read_as, behind, read_line, below, read_lines, header_width, list_width, name_width, header_of, nodes_at, list_at, names_at, text_bytes, within, headed, read_header, read_nodes, read_list, read_names, checked_head, read_text, TextTree, text_tree, read_tree}
use Rattle.listing.specs.Output.{write_line, write_lines, header_words, write_tree, Words, Fits}
use Rattle.listing.proofs.Columns.{digit_bounds, read_short, column_folded}
use Rattle.listing.proofs.Lines.{line_width}

-- what n bytes are, by what they say: spaces alone, or a number, right-justified
unfoldable Said : List ℕ → ℕ → Column → Type 0
Said bs n Column.Blank = bs ≡ padded n 0
Said bs n (Column.Number x) = (m : ℕ) × (n ≡ suc m) × (bs ≡ padded m (x / 10) ++ ((digit_zero + x % 10) ∷ [])) × (x ≤ max_word)
Said bs n Column.Bad = Unit {0}

said_first : (bs : List ℕ) (n b : ℕ) (p q : Bool) → eqb b space ≡ p → is_digit_byte b ≡ q → bs ≡ padded n 0
    → Said (bs ++ (b ∷ [])) (suc n) (cond p Column.Blank (cond q (Column.Number (b - digit_zero)) Column.Bad))
unfolding Said padded padding
said_first bs n b true q e d h = rw (h, eqb-true b space e)
said_first bs n b false true e d h =
    let k = digit_bounds b d in
    let z : (b - digit_zero) / 10 ≡ 0 = omega (arith, k.0, k.1) in
    let u : digit_zero + (b - digit_zero) % 10 ≡ b = omega (arith, k.0, k.1) in
    (n, refl, rw (z, u, h), omega (arith, k.1))
said_first bs n b false false e d h = tt

said_more : (bs : List ℕ) (n x b : ℕ) (p : Bool) → (is_digit_byte b && ltb 0 x && leb (10 * x + (b - digit_zero)) max_word) ≡ p → Said bs n (Column.Number x)
    → Said (bs ++ (b ∷ [])) (suc n) (cond p (Column.Number (10 * x + (b - digit_zero))) Column.Bad)
unfolding Said padded padding
said_more bs n x b true e (m, s, h, l) =
    let outer = and_parts (is_digit_byte b && ltb 0 x) (leb (10 * x + (b - digit_zero)) max_word) e in
    let inner = and_parts (is_digit_byte b) (ltb 0 x) outer.0 in
    let k = digit_bounds b inner.0 in
    let pos : 0 < x = ltb-true 0 x inner.1 in
    let y : ℕ = 10 * x + (b - digit_zero) in
    let z : y / 10 ≡ x = omega (arith, k.0, k.1) in
    let u : digit_zero + y % 10 ≡ b = omega (arith, k.0, k.1) in
    let v : eqb x 0 ≡ false = ne_eqb x 0 (λ q. absurd (omega arith)) in
    (n, refl, rw (z, u, s, h, v), leb-true y max_word outer.1)
said_more bs n x b false e h = tt

said_step : (bs : List ℕ) (n : ℕ) (c : Column) (b : ℕ) → Said bs n c → Said (bs ++ (b ∷ [])) (suc n) (step c b)
unfolding step first more Said
said_step bs n Column.Blank b h = said_first bs n b (eqb b space) (is_digit_byte b) refl refl h
said_step bs n (Column.Number x) b h = said_more bs n x b (is_digit_byte b && ltb 0 x && leb (10 * x + (b - digit_zero)) max_word) refl h
said_step bs n Column.Bad b h = tt

said_bytes : (n : ℕ) (s : List ℕ) → n ≤ length s → Said (take n s) n (fold step Column.Blank (take n s))
unfolding Said padded
said_bytes zero s h = refl
said_bytes (suc n) s h =
    rw (take-suc s n 0 h, fold-append step Column.Blank (take n s) (get_or s n 0 ∷ []))
    (said_step (take n s) n (fold step Column.Blank (take n s)) (get_or s n 0) (said_bytes n s (omega arith)))

-- a column that has a number is that number
numbered : (c : Column) {x : ℕ} → column_number c ≡ Some x → c ≡ Column.Number x
unfolding column_number
numbered Column.Blank e = cc
numbered (Column.Number y) e = cc
numbered Column.Bad e = cc

column_long : (s : List ℕ) (x : ℕ) → read_column s ≡ Column.Number x → column_bytes ≤ length s
unfolding read_column
column_long s x e = go (dec_lt (length s) column_bytes)
  where
    go : Dec (length s < column_bytes) → column_bytes ≤ length s
    go (yes h) = let bad = read_short column_bytes Column.Blank s h in cc
    go (no h) = omega arith

pub column_only : (s : List ℕ) (x : ℕ) → read_column s ≡ Column.Number x → (take column_bytes s ≡ write_column x) × (x ≤ max_word)
unfolding write_column Said
column_only s x e =
    let long : column_bytes ≤ length s = column_long s x e in
    let n : length (take column_bytes s) ≡ column_bytes = length-take-le column_bytes s long in
    number (rw (sym (column_folded s long refl) ∙ e) at (said_bytes column_bytes s long))
  where
    number : Said (take column_bytes s) column_bytes (Column.Number x) → (take column_bytes s ≡ padded 10 (x / 10) ++ ((digit_zero + x % 10) ∷ [])) × (x ≤ max_word)
    number (m, k, h, l) = let t : m ≡ 10 = omega arith in (rw t at h, l)

cons_words : (x : ℕ) (ws : List ℕ) → x ≤ max_word → Words ws → Words (x ∷ ws)
cons_words x ws h f zero = h
cons_words x ws h f (suc i) = f i

append_words : (xs ys : List ℕ) → Words xs → Words ys → Words (xs ++ ys)
append_words [] ys f g = g
append_words (x ∷ xs) ys f g = cons_words x (xs ++ ys) (f 0) (append_words xs ys (λ i. f (suc i)) g)

-- bytes are the line of w words that reading gives
abbrev LineOf : ℕ → List ℕ → List ℕ → Type 0
LineOf w s ws = (take (line_bytes w) s ≡ write_line w ws) × Words ws

behind_only : (w : ℕ) (s : List ℕ) (number : Option ℕ) (rest : Read) → column_number (read_column s) ≡ number → (rest.good ≡ true → LineOf w (drop column_bytes s) rest.words)
    → (behind number rest).good ≡ true → LineOf (suc w) s (behind number rest).words
unfolding behind write_line
behind_only w s None rest e ih g = cc
behind_only w s (Some x) rest e ih g =
    let column = column_only s x (numbered (read_column s) e) in
    let line = ih g in
    let n : line_bytes (suc w) ≡ column_bytes + line_bytes w = omega arith in
    (rw n (take-add column_bytes (line_bytes w) s ∙ ap₂ ◌++◌ column.0 line.0), cons_words x rest.words column.1 line.1)

pub line_only : (w : ℕ) (s : List ℕ) → (read_line w s).good ≡ true → LineOf w s (read_line w s).words
unfolding read_line write_line
line_only zero [] g = cc
line_only zero (b ∷ s) g = (ap (λ (k : ℕ). k ∷ []) (eqb-true b line_feed g), λ i. omega arith)
line_only (suc w) s g = behind_only w s (column_number (read_column s)) (read_line w (drop column_bytes s)) refl (line_only w (drop column_bytes s)) g

-- a line looks at no word past its own
line_prefix : (w : ℕ) (xs ys : List ℕ) → w ≤ length xs → write_line w (xs ++ ys) ≡ write_line w xs
unfolding write_line
line_prefix zero xs ys h = refl
line_prefix (suc w) [] ys h = absurd (omega arith)
line_prefix (suc w) (x ∷ xs) ys h = ap (λ (l : List ℕ). write_column x ++ l) (line_prefix w xs ys (omega arith))

-- bytes are the n lines of w words that reading gives
abbrev LinesOf : ℕ → ℕ → List ℕ → List ℕ → Type 0
LinesOf w n s ws = (take (line_bytes w * n) s ≡ write_lines w n ws) × Words ws × (length ws ≡ w * n)

below_only : (w n : ℕ) (s : List ℕ) (line rest : Read) (b : Bool) → line.good ≡ b → (line.good ≡ true → LineOf w s line.words)
    → (line.good ≡ true → length line.words ≡ w) → (rest.good ≡ true → LinesOf w n (drop (line_bytes w) s) rest.words)
    → (cond b (read_as (line.words ++ rest.words) rest.good) line).good ≡ true
    → LinesOf w (suc n) s (cond b (read_as (line.words ++ rest.words) rest.good) line).words
unfolding write_lines
below_only w n s line rest true e one width others g =
    let here = one e in
    let long : length line.words ≡ w = width e in
    let there = others g in
    let m : line_bytes w * suc n ≡ line_bytes w + line_bytes w * n = omega arith in (
      rw (m, line_prefix w line.words rest.words (omega arith), drop_at line.words rest.words w long)
          (take-add (line_bytes w) (line_bytes w * n) s ∙ ap₂ ◌++◌ here.0 there.0),
      append_words line.words rest.words here.1 there.1,
      omega (arith, length-append line.words rest.words, there.2),
    )
below_only w n s line rest false e one width others g = cc

pub lines_only : (w n : ℕ) (s : List ℕ) → (read_lines w n s).good ≡ true → LinesOf w n s (read_lines w n s).words
unfolding read_lines write_lines below
lines_only w zero s g = let z : line_bytes w * 0 ≡ 0 = omega arith in (rw z, λ i. omega arith, omega arith)
lines_only w (suc n) s g =
    below_only w n s (read_line w s) (read_lines w n (drop (line_bytes w) s)) (read_line w s).good refl
    (line_only w s) (line_width w s) (lines_only w n (drop (line_bytes w) s)) g

-- what a good header shows
pub record GoodHeader (s : List ℕ) (h : Header) : Type 0 where
  pub line : (read_line header_width s).good ≡ true
  pub says : h ≡ header_of (read_line header_width s).words
  pub bounds : within h ≡ true
  pub size : length s ≡ text_bytes h

pub header_only : (s : List ℕ) (h : Header) → read_header s ≡ Some h → GoodHeader s h
unfolding read_header headed
header_only s h e = go (read_line header_width s).good (header_of (read_line header_width s).words) refl refl e
  where
    known : (line : Bool) (k : Header) (b : Bool) → (read_line header_width s).good ≡ line → header_of (read_line header_width s).words ≡ k
        → (line && within k && eqb (length s) (text_bytes k)) ≡ b → then_some b k ≡ Some h → GoodHeader s h
    known line k true g w t e =
        let outer = and_parts (line && within k) (eqb (length s) (text_bytes k)) t in
        let inner = and_parts line (within k) outer.0 in
        let same : k ≡ h = cc in
        let size : length s ≡ text_bytes k = eqb-true (length s) (text_bytes k) outer.1 in
        record {
          line = g ∙ inner.0;
          says = sym (w ∙ same);
          bounds = subst (λ (x : Header). within x ≡ true) same inner.1;
          size = size ∙ ap text_bytes same;
        }
    known line k false g w t e = cc

    go : (line : Bool) (k : Header) → (read_line header_width s).good ≡ line → header_of (read_line header_width s).words ≡ k
        → then_some (line && within k && eqb (length s) (text_bytes k)) k ≡ Some h → GoodHeader s h
    go line k g w e = known line k (line && within k && eqb (length s) (text_bytes k)) g w refl e

-- what a good text shows
pub record GoodText (s : List ℕ) (h : Header) : Type 0 where
  pub head : read_header s ≡ Some h
  pub header : GoodHeader s h
  pub nodes : (read_nodes h s).good ≡ true
  pub list : (read_list h s).good ≡ true
  pub names : (read_names h s).good ≡ true

pub text_only : (s : List ℕ) (h : Header) → read_text s ≡ Some h → GoodText s h
unfolding read_text checked_head
text_only s h e = go (read_header s) refl e
  where
    tables : (k : Header) (b : Bool) → read_header s ≡ Some k → ((read_nodes k s).good && (read_list k s).good && (read_names k s).good) ≡ b
        → then_some b k ≡ Some h → GoodText s h
    tables k true r t e =
        let same : k ≡ h = cc in
        let outer = and_parts ((read_nodes h s).good && (read_list h s).good) (read_names h s).good (rw same at t) in
        let inner = and_parts (read_nodes h s).good (read_list h s).good outer.0 in
        record { head = r ∙ ap Some same; header = header_only s h (r ∙ ap Some same); nodes = inner.0; list = inner.1; names = outer.1 }
    tables k false r t e = cc

    go : (k : Option Header) → read_header s ≡ k → checked_head k s ≡ Some h → GoodText s h
    go None r e = cc
    go (Some k) r e = tables k ((read_nodes k s).good && (read_list k s).good && (read_names k s).good) r refl e

five : (ws : List ℕ) → length ws ≡ 5 → get_or ws 0 0 ∷ get_or ws 1 0 ∷ get_or ws 2 0 ∷ get_or ws 3 0 ∷ get_or ws 4 0 ∷ [] ≡ ws
five [] h = absurd (omega arith)
five (a ∷ []) h = absurd (omega arith)
five (a ∷ b ∷ []) h = absurd (omega arith)
five (a ∷ b ∷ c ∷ []) h = absurd (omega arith)
five (a ∷ b ∷ c ∷ d ∷ []) h = absurd (omega arith)
five (a ∷ b ∷ c ∷ d ∷ e ∷ []) h = refl
five (a ∷ b ∷ c ∷ d ∷ e ∷ f ∷ ws) h = absurd (omega arith)

-- a good text is the writing of its tree
module _ (s : List ℕ) (h : Header) (g : GoodText s h) where
  abbrev given : TextTree
  given = record { mode = h.mode; root = h.root; nodes = (read_nodes h s).words; list = (read_list h s).words; names = (read_names h s).words }

  abbrev said : List ℕ
  said = (read_line header_width s).words

  pub nodes_only : LinesOf node_width h.nodes (drop nodes_at s) (read_nodes h s).words
  unfolding read_nodes
  nodes_only = lines_only node_width h.nodes (drop nodes_at s) g.nodes

  pub list_only : LinesOf list_width h.list (drop (list_at h) s) (read_list h s).words
  unfolding read_list
  list_only = lines_only list_width h.list (drop (list_at h) s) g.list

  pub names_only : LinesOf name_width h.names (drop (names_at h) s) (read_names h s).words
  unfolding read_names
  names_only = lines_only name_width h.names (drop (names_at h) s) g.names

  header_words_only : header_words given ≡ said
  unfolding header_of
  header_words_only =
      let n : length (read_nodes h s).words / node_width ≡ h.nodes = omega (arith, nodes_only.2) in
      let l : length (read_list h s).words ≡ h.list = omega (arith, list_only.2) in
      let p : length (read_names h s).words ≡ h.names = omega (arith, names_only.2) in
      rw (n, l, p) (rw g.header.says (five said (line_width header_width s g.header.line)))

  text_parts : s ≡ take nodes_at s ++ take (line_bytes node_width * h.nodes) (drop nodes_at s)
      ++ take (line_bytes list_width * h.list) (drop (list_at h) s)
      ++ take (line_bytes name_width * h.names) (drop (names_at h) s)
  text_parts =
      let whole : take (text_bytes h) s ≡ s = take_all (text_bytes h) s (omega (arith, g.header.size)) in
      sym whole
      ∙ take-add (names_at h) (line_bytes name_width * h.names) s
      ∙ ap (λ (l : List ℕ). l ++ take (line_bytes name_width * h.names) (drop (names_at h) s))
      (take-add (list_at h) (line_bytes list_width * h.list) s
      ∙ ap (λ (l : List ℕ). l ++ take (line_bytes list_width * h.list) (drop (list_at h) s)) (take-add nodes_at (line_bytes node_width * h.nodes) s))

  written_only : s ≡ write_tree given
  unfolding write_tree
  written_only =
      let n : length (read_nodes h s).words / node_width ≡ h.nodes = omega (arith, nodes_only.2) in
      let l : length (read_list h s).words ≡ h.list = omega (arith, list_only.2) in
      let p : length (read_names h s).words ≡ h.names = omega (arith, names_only.2) in
      text_parts
      ∙ ap₂ ◌++◌ (ap₂ ◌++◌ (ap₂ ◌++◌
      ((line_only header_width s g.header.line).0 ∙ ap (write_line header_width) (sym header_words_only))
      (nodes_only.0 ∙ ap (λ (k : ℕ). write_lines node_width k (read_nodes h s).words) (sym n)))
      (list_only.0 ∙ ap (λ (k : ℕ). write_lines list_width k (read_list h s).words) (sym l)))
      (names_only.0 ∙ ap (λ (k : ℕ). write_lines name_width k (read_names h s).words) (sym p))

  fits_only : Fits given
  unfolding header_of
  fits_only =
      let outer = and_parts (leb h.nodes nodes_bound && leb h.list list_words_bound) (leb h.names parameters_bound) g.header.bounds in
      let inner = and_parts (leb h.nodes nodes_bound) (leb h.list list_words_bound) outer.0 in
      let words = (line_only header_width s g.header.line).1 in
      let few : h.nodes ≤ nodes_bound = leb-true h.nodes nodes_bound inner.0 in
      let short : h.list ≤ list_words_bound = leb-true h.list list_words_bound inner.1 in
      let named : h.names ≤ parameters_bound = leb-true h.names parameters_bound outer.1 in
      record {
        whole = omega (arith, nodes_only.2);
        few_nodes = omega (arith, nodes_only.2);
        few_words = omega (arith, list_only.2);
        few_names = omega (arith, names_only.2);
        mode = rw g.header.says (words 0);
        root = rw g.header.says (words 1);
        nodes = nodes_only.1;
        list = list_only.1;
        names = names_only.1;
      }

-- A text that gives a tree is that tree, written in columns, and the tree is within the bounds.
pub tree_only : (s : List ℕ) (t : TextTree) → read_tree s ≡ Some t → (s ≡ write_tree t) × Fits t
unfolding read_tree text_tree
tree_only s t e = go (read_text s) refl e
  where
    go : (k : Option Header) → read_text s ≡ k → text_tree k s ≡ Some t → (s ≡ write_tree t) × Fits t
    go None r e = cc
    go (Some h) r e =
        let g : GoodText s h = text_only s h r in
        let same : given s h g ≡ t = cc in
        (written_only s h g ∙ ap write_tree same, subst Fits same (fits_only s h g))
