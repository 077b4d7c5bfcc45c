-- What the program prints: of a tree in slices, by what lowering leaves; of a good text, by the bytes that reading leaves; that its output buffer holds
-- every listing; and that a text cut after the length of the longest good one prints what the whole text does. Assumes nothing.
use Rattle.std.specs.Prelude.{Option, Some, None}
use mathlib.Core.Path.{◌≡◌, refl, sym, ap, ◌∙◌}
use mathlib.Core.List.{List, [], ◌∷◌, ◌++◌}
use Prim.Native.Nat.{ℕ, zero, suc, ◌+◌, ◌*◌, ◌≤◌, ◌<◌}
use native.Mathlib.Omega.{arith}
use native.Mathlib.Nat.{mul-le-mul_left, mul-div_right}
use native.Mathlib.Decide.{dec_lt}
use lib.ListN.{length, take, drop, replicate, length-replicate}
use lib.Seq.{sets, sets-eq, take_at, take_all, length-take-le}
use Rattle.words.specs.Words.{word_bytes, words, tail, bytes_of}
use Rattle.words.specs.Records.{capacity}
use Rattle.syntax.specs.Ast.{node_width}
use Rattle.runtime.specs.Instruction.{instruction_width}
use Rattle.runtime.specs.Value.{constant_width}
use Rattle.lowering.specs.Result.{numbers_of, Lowered, lower}
use Rattle.lowering.proofs.Walk.Answers.{nothing_beyond}
use Rattle.result.specs.declared.Result.{Result}
use Rattle.result.specs.Numbers.{numbers}
use Rattle.codegen.specs.Laws.{Bytes}
use Rattle.codegen.proofs.Width.{exact_words}
use Rattle.listing.specs.declared.text.Header.{Header}
use Rattle.listing.specs.Text.{line_bytes, nodes_bound, list_words_bound, parameters_bound, longest_text, list_width, name_width, read_header, read_nodes, read_list, read_names, read_text, filled}
use Rattle.listing.specs.Output.{result_width, instructions_bound, constants_bound, marks_bound, longest_listing, printed, listing, print_tree, lowerlist}
use Rattle.listing.proofs.Written.{printed_length}
use Rattle.listing.proofs.Only.{text_only}
use Rattle.listing.proofs.Program.{zero_words, length_zeros, text_bounds, nodes_bytes_lem, list_bytes_lem, names_bytes_lem, lowered_prints, good_prints, bad_prints}
use Rattle.lower_text.specs.Prints.{nodes_bytes, list_bytes, names_bytes, tree_listing}

zero_bytes : (n : ℕ) → Bytes (replicate n 0)
zero_bytes zero zero = omega arith
zero_bytes zero (suc i) = omega arith
zero_bytes (suc n) zero = omega arith
zero_bytes (suc n) (suc i) = zero_bytes n i

-- a buffer of zeros, for n words
abbrev zeros : ℕ → List ℕ
zeros n = replicate (word_bytes * n) 0

-- ---- a tree

module _ (nodes : List ℕ) (bytes : Bytes nodes) (root mode : ℕ) (list names : List ℕ) where
  abbrev left : ℕ → ℕ → ℕ → Lowered
  left i k m = lower nodes root mode list names (words (zeros i)) (words (zeros k)) (words (zeros m))

  abbrev came : Result → List ℕ → List ℕ → List ℕ → Lowered
  came r code constants marks = record { result = numbers r; code = words code; constants = words constants; marks = words marks }

  -- the numbers and the bytes that lowering leaves in buffers of zeros print the listing
  lowered_listing : (i k m : ℕ) (r : Result) {code constants marks : List ℕ} → numbers r ≡ (left i k m).result
      → code ≡ bytes_of (left i k m).code ++ tail (zeros i) → constants ≡ bytes_of (left i k m).constants ++ tail (zeros k) → marks ≡ bytes_of (left i k m).marks ++ tail (zeros m)
      → printed (numbers_of (numbers r)) (words code) (words constants) ≡ listing (lower nodes root mode list names (replicate i 0) (replicate k 0) (replicate m 0))
  unfolding listing
  lowered_listing i k m r {code} {constants} {marks} a b c d =
      let same : came r code constants marks ≡ left i k m =
      exact_words nodes root mode list names (zeros i) (zeros k) (zeros m) bytes (zero_bytes (word_bytes * i)) (zero_bytes (word_bytes * k)) (zero_bytes (word_bytes * m)) (numbers r) code constants marks a b c d in
      let zero : left i k m ≡ lower nodes root mode list names (replicate i 0) (replicate k 0) (replicate m 0) = rw (zero_words i, zero_words k, zero_words m) in
      ap listing (same ∙ zero)

  abbrev bounded : Lowered
  bounded = left (instruction_width * instructions_bound) (constant_width * constants_bound) marks_bound

  pub tree_listing_lem : (r : Result) {code constants marks : List ℕ} → numbers r ≡ bounded.result
      → code ≡ bytes_of bounded.code ++ tail (zeros (instruction_width * instructions_bound))
      → constants ≡ bytes_of bounded.constants ++ tail (zeros (constant_width * constants_bound))
      → marks ≡ bytes_of bounded.marks ++ tail (zeros marks_bound)
      → printed (numbers_of (numbers r)) (words code) (words constants) ≡ tree_listing nodes root mode list names
  unfolding tree_listing
  tree_listing_lem r a b c d = lowered_listing (instruction_width * instructions_bound) (constant_width * constants_bound) marks_bound r a b c d

-- ---- a text

module _ (s : List ℕ) (h : Header) (e : read_text s ≡ Some h) where
  -- the tree that the header tells of has place in buffers of a, b and c bytes
  pub record HasPlace (a b c : ℕ) : Type 0 where
    pub nodes_fit : nodes_bytes h ≤ a
    pub list_fits : list_bytes h ≤ b
    pub names_fit : names_bytes h ≤ c

  pub fits : {a b c : ℕ} → a ≡ word_bytes * node_width * nodes_bound → b ≡ word_bytes * list_width * list_words_bound → c ≡ word_bytes * name_width * parameters_bound → HasPlace a b c
  fits p q r =
      let t = text_bounds s h e in
      record { nodes_fit = omega (arith, t.0); list_fits = omega (arith, t.1); names_fit = omega (arith, t.2) }

  -- n records of w words have place in a buffer of zeros for as many as there may be
  room : (w n most : ℕ) → n ≤ most → w * n ≤ length (words (zeros (w * most)))
  room w n most l = rw (length_zeros (w * most)) (mul-le-mul_left w l)

  pub good_listing : {nodes list names : List ℕ}
      → nodes ≡ filled read_nodes (read_header s) s (zeros (node_width * nodes_bound))
      → list ≡ filled read_list (read_header s) s (zeros (list_width * list_words_bound))
      → names ≡ filled read_names (read_header s) s (zeros (name_width * parameters_bound))
      → tree_listing (take (nodes_bytes h) nodes) h.root h.mode (take (list_bytes h) list) (take (names_bytes h) names) ≡ lowerlist s
  unfolding tree_listing
  good_listing a b c =
      let t = text_bounds s h e in
      let first = nodes_bytes_lem s h e _ a (room node_width h.nodes nodes_bound t.0) in
      let second = list_bytes_lem s h e _ b (room list_width h.list list_words_bound t.1) in
      let third = names_bytes_lem s h e _ c (room name_width h.names parameters_bound t.2) in
      lowered_prints s h e first second third refl refl refl refl

pub bad_listing : (s : List ℕ) → read_text s ≡ None → print_tree None ≡ lowerlist s
unfolding print_tree
bad_listing s e = sym (bad_prints s [] [] e)

-- ---- the output

module _ (nodes : List ℕ) (root mode : ℕ) (list names code constants marks : List ℕ) where
  length_listing : length (listing (lower nodes root mode list names code constants marks)) ≤ line_bytes result_width + line_bytes instruction_width * capacity instruction_width code + line_bytes constant_width * capacity constant_width constants
  unfolding listing
  length_listing =
      let l = lower nodes root mode list names code constants marks in
      let w = nothing_beyond nodes root mode list names code constants marks in
      omega (arith, w.code_fits, w.constants_fit, printed_length (numbers_of l.result) l.code l.constants)

-- a buffer of zeros holds the records that it is for
zeros_capacity : (w : ℕ) → 0 < w → (n : ℕ) → capacity w (replicate (w * n) 0) ≡ n
unfolding capacity
zeros_capacity w h n = rw (length-replicate {A = ℕ} (w * n) 0) (mul-div_right n h)

pub length_lowerlist : (s : List ℕ) → length (lowerlist s) ≤ longest_listing
length_lowerlist s = go (read_text s) refl
  where
    go : (head : Option Header) → read_text s ≡ head → length (lowerlist s) ≤ longest_listing
    go None e = rw (bad_prints s [] [] e) (omega (arith, printed_length (1 ∷ 0 ∷ 0 ∷ 0 ∷ 0 ∷ 0 ∷ 0 ∷ 0 ∷ []) [] []))
    go (Some h) e =
        rw (good_prints s h e)
        (omega (
          arith,
          length_listing (bytes_of (read_nodes h s).words) h.root h.mode (bytes_of (read_list h s).words) (bytes_of (read_names h s).words)
              (replicate (instruction_width * instructions_bound) 0) (replicate (constant_width * constants_bound) 0) (replicate marks_bound 0),
          zeros_capacity instruction_width (omega arith) instructions_bound,
          zeros_capacity constant_width (omega arith) constants_bound,
        ))

-- a count of bytes that were printed, and a buffer of so many bytes
pub listing_room : (s : List ℕ) {r n : ℕ} → r ≡ length (lowerlist s) → n ≡ longest_listing → r ≤ n
listing_room s e f = omega (arith, length_lowerlist s)

-- the bytes at the start of such a buffer are the whole listing
pub listed : (s out : List ℕ) {r : ℕ} {printed : List ℕ} → r ≡ length (lowerlist s) → printed ≡ sets out 0 (lowerlist s) → length out ≡ longest_listing
    → take r printed ≡ lowerlist s
listed s out e f size =
    let split = sets-eq (lowerlist s) out 0 (omega (arith, length_lowerlist s)) in
    rw (f, split) (take_at (lowerlist s) (drop (0 + length (lowerlist s)) out) _ (sym e))

-- ---- the input

pub long_bad : (s : List ℕ) → longest_text < length s → read_text s ≡ None
long_bad s l = go (read_text s) refl
  where
    go : (head : Option Header) → read_text s ≡ head → read_text s ≡ None
    go None e = e
    go (Some h) e = let t = text_bounds s h e in absurd (omega (arith, t.0, t.1, t.2, (text_only s h e).header.size))

-- a text cut anywhere after that is as bad as it was whole
pub cut_text : (s : List ℕ) (n : ℕ) → longest_text < n → lowerlist (take n s) ≡ lowerlist s
cut_text s n l = go (dec_lt n (length s))
  where
    go : Dec (n < length s) → lowerlist (take n s) ≡ lowerlist s
    go (yes h) =
        let size = length-take-le n s (omega arith) in
        bad_prints (take n s) [] [] (long_bad (take n s) (omega (arith, size))) ∙ sym (bad_prints s [] [] (long_bad s (omega arith)))
    go (no h) = ap lowerlist (take_all n s (omega arith))
