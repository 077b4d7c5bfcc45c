-- The laws of texts and listings, of the program `list`: what the bytes that it leaves and the number that comes back say. One hypothesis, `contract`, is
-- the contract itself as any caller of `list` learns it (`Learnt`). Assumes nothing.
use Rattle.std.specs.Prelude.{Option, Some, None}
use Prim.Native.Nat.{ℕ, ◌+◌, ◌≤◌, ◌<◌}
use native.Mathlib.Omega.{arith}
use native.Mathlib.Decide.{dec_lt}
use mathlib.Core.Path.{◌≡◌, refl, sym, ap, ◌∙◌, subst}
use mathlib.Core.List.{List, [], ◌∷◌, ◌++◌}
use lib.ListN.{length, take, drop, take-append-drop, drop_of_length-le}
use lib.Seq.{sets, sets-eq, length-sets, length-take-le, take_all, take_at, drop_at}
use denote.MutBor.{MutBor}
use denote.Ref.{Bor}
use Rattle.words.proofs.Records.{sets_out}
use Rattle.listing.specs.declared.text.Header.{Header}
use Rattle.listing.specs.Column.{padding, padded, write_column}
use Rattle.listing.specs.Text.{longest_text, read_nodes, read_list, read_names, read_text, TextTree, text_tree, read_tree}
use Rattle.listing.specs.Output.{longest_listing, write_line, write_lines, printed, listing, lower_tree, print_tree, lowerlist, write_tree, Fits}
use Rattle.listing.specs.Page.{codes, bytes_of_lines, page_text, page_listing, refused_text, refused_listing, one_and_zeros}
use Rattle.listing.proofs.Lines.{sets_append}
use Rattle.listing.proofs.Texts.{sets_all}
use Rattle.listing.proofs.RoundTrip.{tree_back}
use Rattle.listing.proofs.Only.{tree_only}
use Rattle.listing.proofs.Program.{bad_prints}
use Rattle.listing.proofs.Page.{page_prints, refused_prints}
use Rattle.lower_text.specs.Prints.{Prints}
use Rattle.lower_text.proofs.list.Reads as reads
use Rattle.lower_text.proofs.Laws.{length_lowerlist, cut_text}

-- ---- bytes stored from the start of a buffer

-- as many of them as it holds
stored_cut : (bytes out : List ℕ) → length out ≤ length bytes → sets out 0 bytes ≡ take (length out) bytes
stored_cut bytes out l =
    let front : List ℕ = take (length out) bytes in
    let size : length front ≡ length out = length-take-le (length out) bytes l in
    ap (sets out 0) (sym (take-append-drop (length out) bytes))
    ∙ sets_append out 0 front (drop (length out) bytes)
    ∙ sets_out (sets out 0 front) (0 + length front) (drop (length out) bytes) (omega (arith, length-sets out 0 front, size))
    ∙ sets_all out front (sym size)

stored : (bytes out out' : List ℕ) (r : ℕ) → out' ≡ sets out 0 bytes → r ≡ length bytes → length bytes ≤ longest_listing → Prints bytes out out' r
stored bytes out out' r e n few = go (dec_lt (length out) (length bytes))
  where
    go : Dec (length out < length bytes) → Prints bytes out out' r
    go (yes h) =
        let cut : out' ≡ take (length out) bytes = e ∙ stored_cut bytes out (omega arith) in
        let size : length out' ≡ length out = ap length cut ∙ length-take-le (length out) bytes (omega arith) in
        record {
          count = n;
          begins = take_all r out' (omega arith) ∙ cut;
          whole = λ l. absurd (omega arith);
          behind = drop_of_length-le out' {i = r} (omega arith) ∙ sym (drop_of_length-le out {i = r} (omega arith));
        }
    go (no h) =
        let rest : List ℕ = drop (0 + length bytes) out in
        let all : out' ≡ bytes ++ rest = e ∙ sets-eq bytes out 0 (omega arith) in
        let front : take r out' ≡ bytes = ap (take r) all ∙ take_at bytes rest r (sym n) in
        let same : 0 + length bytes ≡ r = omega arith in
        record {
          count = n;
          begins = front ∙ sym (take_all (length out) bytes (omega arith));
          whole = λ l. front;
          behind = ap (drop r) all ∙ drop_at bytes rest r (sym n) ∙ ap (λ k. drop k out) same;
        }

-- ---- texts that no tree within the bounds is written as

one_and_zeros_lem : printed (1 ∷ 0 ∷ 0 ∷ 0 ∷ 0 ∷ 0 ∷ 0 ∷ 0 ∷ []) [] [] ≡ bytes_of_lines one_and_zeros
unfolding one_and_zeros codes bytes_of_lines padding padded write_column write_line write_lines printed
one_and_zeros_lem = refl

unwritten : (s : List ℕ) → ((t : TextTree) → Fits t → s ≡ write_tree t → ⊥) → read_text s ≡ None
unfolding read_tree text_tree
unwritten s none = go (read_text s) refl
  where
    go : (head : Option Header) → read_text s ≡ head → read_text s ≡ None
    go None e = e
    go (Some h) e =
        let t : TextTree = record { mode = h.mode; root = h.root; nodes = (read_nodes h s).words; list = (read_list h s).words; names = (read_names h s).words } in
        let only = tree_only s t (rw e) in
        absurd (none t only.1 only.0)

-- The contract of `list`, as its caller learns it: two slices, of which the second comes back changed, and the number that comes back.
module _ (lifetimes : List ℕ × (List ℕ × Unit {0})) (text_at : Bor (List ℕ)) (out_at out_then : MutBor (List ℕ)) (r : ℕ)
    (contract : reads.Learnt lifetimes (text_at, (out_at, tt)) r (text_at, (out_then, tt))) where
  -- the bytes of the text, and those of the buffer at entry and at exit
  abbrev pub text : List ℕ
  text = text_at.now

  abbrev pub out : List ℕ
  out = out_at.now

  abbrev pub out' : List ℕ
  out' = out_then.now

  -- What is printed is the listing of the text, whatever its bytes are.
  pub prints : Prints (lowerlist text) out out' r
  prints = stored (lowerlist text) out out' r contract.stored contract.count (length_lowerlist text)

  -- No listing is longer than the longest.
  pub short : r ≤ longest_listing
  short = subst (λ n. n ≤ longest_listing) (sym prints.count) (length_lowerlist text)

  instead : (l : List ℕ) → lowerlist text ≡ l → Prints l out out' r
  instead l e = subst (λ x. Prints x out out' r) e prints

  -- A tree within the bounds, written in columns, prints the listing of its lowering.
  pub good : (t : TextTree) → Fits t → text ≡ write_tree t → Prints (listing (lower_tree t)) out out' r
  unfolding lowerlist print_tree
  good t f e = instead (listing (lower_tree t)) (ap lowerlist e ∙ ap print_tree (tree_back t f))

  -- Any other text prints number 1 and zeros.
  pub otherwise : ((t : TextTree) → Fits t → text ≡ write_tree t → ⊥) → Prints (bytes_of_lines one_and_zeros) out out' r
  otherwise none = instead (bytes_of_lines one_and_zeros) (bad_prints text [] [] (unwritten text none) ∙ one_and_zeros_lem)

  -- A text that is cut, after the length of the longest that is within the bounds, prints what the whole text does.
  pub cut : (s : List ℕ) (n : ℕ) → longest_text < n → text ≡ take n s → Prints (lowerlist s) out out' r
  cut s n l e = instead (lowerlist s) (ap lowerlist e ∙ cut_text s n l)

  -- Document 01's worked page prints as the document has it; and the page without its else, as kaori does.
  pub page : text ≡ bytes_of_lines page_text → Prints (bytes_of_lines page_listing) out out' r
  page e = instead (bytes_of_lines page_listing) (ap lowerlist e ∙ page_prints)

  pub refused_page : text ≡ bytes_of_lines refused_text → Prints (bytes_of_lines refused_listing) out out' r
  refused_page e = instead (bytes_of_lines refused_listing) (ap lowerlist e ∙ refused_prints)
