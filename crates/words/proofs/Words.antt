-- The laws of words and bytes. A list of four bytes or more is taken four at a time, as `words` takes it. Assumes nothing.
use mathlib.Core.Path.{◌≡◌, refl, sym, ap, ◌∙◌}
use mathlib.Core.List.{List, [], ◌∷◌, ◌++◌}
use Prim.Native.Nat.{ℕ, zero, suc, ◌+◌, ◌*◌, ◌/◌, ◌%◌, ◌≤◌, ◌<◌}
use native.Mathlib.Omega.{arith}
use lib.ListN.{length, get_or, set, drop, length-drop, get_or-eq_default}
use lib.Seq.{set_out, length-take-le}
use borrow.Rule.Slice.PartMut.{mid_of, put_mid, same_len_mid}
use Rattle.std.proofs.Common.{w32}
use Rattle.std.specs.Int.{to_le_bytes}
use Rattle.std.proofs.lemmas.Slice.{drop-put_mid}
use Rattle.words.specs.Words.{word_of, words, tail, bytes_of}

-- index 4 * suc i + k is four places past 4 * i + k
module _ (i : ℕ) where
  past_0 : 4 * suc i ≡ suc (suc (suc (suc (4 * i))))
  past_0 = omega arith

  past_1 : 4 * suc i + 1 ≡ suc (suc (suc (suc (4 * i + 1))))
  past_1 = omega arith

  past_2 : 4 * suc i + 2 ≡ suc (suc (suc (suc (4 * i + 2))))
  past_2 = omega arith

  past_3 : 4 * suc i + 3 ≡ suc (suc (suc (suc (4 * i + 3))))
  past_3 = omega arith

pub length_words : (s : List ℕ) → length (words s) ≡ length s / 4
unfolding words
length_words [] = refl
length_words (a ∷ []) = refl
length_words (a ∷ b ∷ []) = refl
length_words (a ∷ b ∷ c ∷ []) = refl
length_words (a ∷ b ∷ c ∷ d ∷ s) = omega (arith, length_words s)

words_at_lem : (s : List ℕ) (i : ℕ) → i < length s / 4 →
    get_or (words s) i 0 ≡ word_of (get_or s (4 * i) 0) (get_or s (4 * i + 1) 0) (get_or s (4 * i + 2) 0) (get_or s (4 * i + 3) 0)
unfolding words
words_at_lem [] i h = absurd (omega arith)
words_at_lem (a ∷ []) i h = absurd (omega arith)
words_at_lem (a ∷ b ∷ []) i h = absurd (omega arith)
words_at_lem (a ∷ b ∷ c ∷ []) i h = absurd (omega arith)
words_at_lem (a ∷ b ∷ c ∷ d ∷ s) zero h = refl
words_at_lem (a ∷ b ∷ c ∷ d ∷ s) (suc i) h =
    let h' : i < length s / 4 = omega arith in
    rw (past_1 i, past_2 i, past_3 i, past_0 i) (words_at_lem s i h')

-- four bytes in the place of those of word i
words_put : (s : List ℕ) (i x y z t : ℕ) → i < length s / 4 → words (put_mid (4 * i) 4 s (x ∷ y ∷ z ∷ t ∷ [])) ≡ set (words s) i (word_of x y z t)
unfolding words
words_put [] i x y z t h = absurd (omega arith)
words_put (a ∷ []) i x y z t h = absurd (omega arith)
words_put (a ∷ b ∷ []) i x y z t h = absurd (omega arith)
words_put (a ∷ b ∷ c ∷ []) i x y z t h = absurd (omega arith)
words_put (a ∷ b ∷ c ∷ d ∷ s) zero x y z t h = refl
words_put (a ∷ b ∷ c ∷ d ∷ s) (suc i) x y z t h =
    let h' : i < length s / 4 = omega arith in
    rw (past_0 i, words_put s i x y z t h') refl

byte_0 : (a b c d : ℕ) → a < 256 → word_of a b c d % 256 ≡ a
unfolding word_of
byte_0 a b c d h = omega arith

rest : (a b c d : ℕ) → a < 256 → word_of a b c d / 256 ≡ word_of b c d 0
unfolding word_of
rest a b c d h = omega arith

module _ (a b c d : ℕ) (ha : a < 256) (hb : b < 256) (hc : c < 256) (hd : d < 256) where
  byte_1 : word_of a b c d / 256 % 256 ≡ b
  byte_1 = rw (rest a b c d ha) (byte_0 b c d 0 hb)

  byte_2 : word_of a b c d / 65536 % 256 ≡ c
  byte_2 =
      let e : word_of a b c d / 65536 ≡ word_of b c d 0 / 256 = omega (arith, rest a b c d ha) in
      rw (e, rest b c d 0 hb) (byte_0 c d 0 0 hc)

  byte_3 : word_of a b c d / 16777216 % 256 ≡ d
  byte_3 =
      let e : word_of a b c d / 16777216 ≡ word_of c d 0 0 / 256 = omega (arith, rest a b c d ha, rest b c d 0 hb) in
      rw (e, rest c d 0 0 hc) (byte_0 d 0 0 0 hd)

-- Words and tail together are every byte: a list of bytes is the bytes of its words, and its tail.
pub bytes_words : (s : List ℕ) → ((i : ℕ) → get_or s i 0 < 256) → bytes_of (words s) ++ tail s ≡ s
unfolding words bytes_of tail
bytes_words [] h = refl
bytes_words (a ∷ []) h = refl
bytes_words (a ∷ b ∷ []) h = refl
bytes_words (a ∷ b ∷ c ∷ []) h = refl
bytes_words (a ∷ b ∷ c ∷ d ∷ s) h =
    let four : 4 * (suc (suc (suc (suc (length s)))) / 4) ≡ suc (suc (suc (suc (4 * (length s / 4))))) = omega arith in
    let more : bytes_of (words s) ++ drop (4 * (length s / 4)) s ≡ s = bytes_words s (λ i. h (suc (suc (suc (suc i))))) in
    rw (four, byte_0 a b c d (h 0), byte_1 a b c d (h 0) (h 1) (h 2) (h 3), byte_2 a b c d (h 0) (h 1) (h 2) (h 3), byte_3 a b c d (h 0) (h 1) (h 2) (h 3), more)

word_bytes : (x : ℕ) → x < 4294967296 → word_of (x % 256) (x / 256 % 256) (x / 65536 % 256) (x / 16777216 % 256) ≡ x
unfolding word_of
word_bytes x h = omega arith

-- and back: the words of the bytes of words
pub words_bytes : (ws : List ℕ) → ((i : ℕ) → get_or ws i 0 < 4294967296) → words (bytes_of ws) ≡ ws
unfolding words bytes_of
words_bytes [] h = refl
words_bytes (x ∷ ws) h =
    let f : x < 4294967296 = h 0 in
    let more : words (bytes_of ws) ≡ ws = words_bytes ws (λ i. h (suc i)) in
    rw (word_bytes x f, more)

-- what `word` answers
pub word_in : (s : List ℕ) (i : ℕ) {r : ℕ} → i < length s / 4
    → r ≡ get_or s (4 * i) 0 + 256 * get_or s (4 * i + 1) 0 + 65536 * get_or s (4 * i + 2) 0 + 16777216 * get_or s (4 * i + 3) 0 → r ≡ get_or (words s) i 0
unfolding word_of
word_in s i h e = rw (words_at_lem s i h) e

pub word_out : (s : List ℕ) (i : ℕ) → length s / 4 ≤ i → 0 ≡ get_or (words s) i 0
word_out s i h = sym (get_or-eq_default (words s) 0 (omega (arith, length_words s)))

-- what `put_word` leaves
pub tail_in : (s : List ℕ) (at k : ℕ) (ys : List ℕ) → at + k ≤ 4 * (length s / 4) → length ys ≡ k → tail (put_mid at k s ys) ≡ tail s
unfolding tail
tail_in s at k ys h e =
    let part : length (mid_of at k s) ≡ k = length-take-le k (drop at s) (omega (arith, length-drop at s)) in
    rw (same_len_mid at k s ys (e ∙ sym part)) (drop-put_mid at k s ys (4 * (length s / 4)) h (omega arith) e)

module _ (s : List ℕ) (i x : ℕ) where
  pub words_in : {at k : ℕ} {ys : List ℕ} → i < length s / 4 → at ≡ 4 * i → k ≡ 4 → ys ≡ to_le_bytes w32 x → x < 4294967296 → words (put_mid at k s ys) ≡ set (words s) i x
  words_in h a b e f = rw (a, b, e) (words_put s i _ _ _ _ h ∙ ap (set (words s) i) (word_bytes x f))

  pub put_out : length s / 4 ≤ i → (words s ≡ set (words s) i x) × (tail s ≡ tail s)
  put_out h = (sym (set_out (words s) i x (omega (arith, length_words s))), refl)
