-- What the program needs of a text that was read: the bytes of its tree in the buffers, and what is printed of a good text and of a bad one.
-- Assumes nothing.
use Rattle.std.specs.Prelude.{Some, None}
use Rattle.std.proofs.lemmas.Bool.{and_parts}
use mathlib.Core.Path.{◌≡◌, refl, sym, ap, ◌∙◌}
use mathlib.Core.List.{List, [], ◌∷◌, ◌++◌, append_assoc}
use mathlib.Core.Bool.{◌&&◌}
use Prim.Native.Nat.{ℕ, zero, suc, ◌+◌, ◌*◌, ◌≤◌}
use native.Mathlib.Omega.{arith}
use lib.Dec.{leb}
use lib.ListN.{length, take, drop, replicate, length-replicate}
use lib.Seq.{sets, sets-eq, take_at}
use borrow.Author.Tests.{leb-true}
use Rattle.words.specs.Words.{word_bytes, word_of, words, tail, bytes_of}
use Rattle.syntax.specs.Ast.{node_width}
use Rattle.runtime.specs.Instruction.{instruction_width}
use Rattle.runtime.specs.Value.{constant_width}
use Rattle.lowering.specs.Result.{Lowered, lower}
use Rattle.listing.specs.declared.text.Header.{Header}
use Rattle.listing.specs.Text.{nodes_bound, list_words_bound, parameters_bound, Read, list_width, name_width, read_header, read_nodes, read_list, read_names, read_text, text_tree, read_tree, filled}
use Rattle.listing.specs.Output.{instructions_bound, constants_bound, marks_bound, write_lines, printed, listing, lower_tree, print_tree, lowerlist}
use Rattle.listing.proofs.Only.{text_only, nodes_only, list_only, names_only}

bytes_append : (xs ys : List ℕ) → bytes_of (xs ++ ys) ≡ bytes_of xs ++ bytes_of ys
unfolding bytes_of
bytes_append [] ys = refl
bytes_append (x ∷ xs) ys = rw (bytes_append xs ys)

length_bytes : (ws : List ℕ) → length (bytes_of ws) ≡ word_bytes * length ws
unfolding bytes_of
length_bytes [] = refl
length_bytes (x ∷ ws) = omega (arith, length_bytes ws)

-- the words of a buffer of zeros
pub zero_words : (n : ℕ) → words (replicate (word_bytes * n) 0) ≡ replicate n 0
unfolding words word_of
zero_words zero = refl
zero_words (suc n) = let e : word_bytes * suc n ≡ suc (suc (suc (suc (word_bytes * n)))) = omega arith in rw e (ap (λ (l : List ℕ). 0 ∷ l) (zero_words n))

pub length_zeros : (n : ℕ) → length (words (replicate (word_bytes * n) 0)) ≡ n
length_zeros n = ap length (zero_words n) ∙ length-replicate {A = ℕ} n 0

-- words stored at the start of a buffer are its first bytes
stored_bytes : (vs ws rest : List ℕ) → length ws ≤ length vs → take (word_bytes * length ws) (bytes_of (sets vs 0 ws) ++ rest) ≡ bytes_of ws
stored_bytes vs ws rest l =
    let behind : List ℕ = drop (0 + length ws) vs in
    let split : bytes_of (sets vs 0 ws) ≡ bytes_of ws ++ bytes_of behind = ap bytes_of (sets-eq ws vs 0 (omega arith)) ∙ bytes_append ws behind in
    rw (split, append_assoc (bytes_of ws) (bytes_of behind) rest) (take_at (bytes_of ws) (bytes_of behind ++ rest) (word_bytes * length ws) (length_bytes ws))

module _ (s : List ℕ) (h : Header) (e : read_text s ≡ Some h) where
  pub text_bounds : (h.nodes ≤ nodes_bound) × (h.list ≤ list_words_bound) × (h.names ≤ parameters_bound)
  text_bounds =
      let outer = and_parts (leb h.nodes nodes_bound && leb h.list list_words_bound) (leb h.names parameters_bound) (text_only s h e).header.bounds in
      let inner = and_parts (leb h.nodes nodes_bound) (leb h.list list_words_bound) outer.0 in
      (leb-true h.nodes nodes_bound inner.0, leb-true h.list list_words_bound inner.1, leb-true h.names parameters_bound outer.1)

  -- what reading leaves in a buffer that has place for it: the bytes of the part's words
  part_bytes : (reads : Header → List ℕ → Read) (w n : ℕ) → length (reads h s).words ≡ w * n → {vs : List ℕ} (bytes : List ℕ)
      → vs ≡ filled reads (read_header s) s bytes → w * n ≤ length (words bytes) → take (word_bytes * w * n) vs ≡ bytes_of (reads h s).words
  unfolding filled
  part_bytes reads w n l bytes v p =
      let k : word_bytes * w * n ≡ word_bytes * length (reads h s).words = omega arith in
      rw (v, (text_only s h e).head, k) (stored_bytes (words bytes) (reads h s).words (tail bytes) (omega arith))

  module _ {vs : List ℕ} (bytes : List ℕ) where
    pub nodes_bytes_lem : vs ≡ filled read_nodes (read_header s) s bytes → node_width * h.nodes ≤ length (words bytes)
        → take (word_bytes * node_width * h.nodes) vs ≡ bytes_of (read_nodes h s).words
    nodes_bytes_lem = part_bytes read_nodes node_width h.nodes (nodes_only s h (text_only s h e)).2 bytes

    pub list_bytes_lem : vs ≡ filled read_list (read_header s) s bytes → list_width * h.list ≤ length (words bytes)
        → take (word_bytes * list_width * h.list) vs ≡ bytes_of (read_list h s).words
    list_bytes_lem = part_bytes read_list list_width h.list (list_only s h (text_only s h e)).2 bytes

    pub names_bytes_lem : vs ≡ filled read_names (read_header s) s bytes → name_width * h.names ≤ length (words bytes)
        → take (word_bytes * name_width * h.names) vs ≡ bytes_of (read_names h s).words
    names_bytes_lem = part_bytes read_names name_width h.names (names_only s h (text_only s h e)).2 bytes

  -- a good text prints the listing of its tree's lowering
  pub good_prints : lowerlist s ≡ listing
      (lower (bytes_of (read_nodes h s).words) h.root h.mode (bytes_of (read_list h s).words) (bytes_of (read_names h s).words)
      (replicate (instruction_width * instructions_bound) 0) (replicate (constant_width * constants_bound) 0) (replicate marks_bound 0))
  unfolding lowerlist read_tree text_tree print_tree lower_tree
  good_prints = rw e

  -- and so does what lowering leaves, of those bytes and of buffers of zeros
  module _ {nodes list names code constants marks : List ℕ} where
    pub lowered_prints : nodes ≡ bytes_of (read_nodes h s).words → list ≡ bytes_of (read_list h s).words → names ≡ bytes_of (read_names h s).words
        → code ≡ replicate (instruction_width * instructions_bound) 0 → constants ≡ replicate (constant_width * constants_bound) 0 → marks ≡ replicate marks_bound 0
        → {l : Lowered} → l ≡ lower nodes h.root h.mode list names code constants marks → listing l ≡ lowerlist s
    lowered_prints a b c k p m e = ap listing (e ∙ rw (a, b, c, k, p, m)) ∙ sym good_prints

-- a bad text prints number 1 and zeros, whatever the buffers hold
pub bad_prints : (s code constants : List ℕ) → read_text s ≡ None → lowerlist s ≡ printed (1 ∷ 0 ∷ 0 ∷ 0 ∷ 0 ∷ 0 ∷ 0 ∷ 0 ∷ []) code constants
unfolding lowerlist read_tree text_tree print_tree printed write_lines
bad_prints s code constants e = rw e
