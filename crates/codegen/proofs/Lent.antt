-- A buffer whose whole words are lent to the walk: they are the buffer's words, and with the bytes past them they are every byte again. Assumes nothing.
use mathlib.Core.Path.{◌≡◌, refl, sym, ap, ◌∙◌}
use mathlib.Core.List.{List, [], ◌∷◌, ◌++◌, append-nil}
use Prim.Native.Nat.{ℕ, suc, ◌*◌, ◌/◌, ◌≤◌, ◌<◌}
use native.Mathlib.Omega.{arith}
use native.Mathlib.Decide.{dec_lt}
use lib.ListN.{length, get_or, take, drop, get_or-append, get_or-eq_default}
use lib.Seq.{length-take-le, drop-length}
use Rattle.words.specs.Words.{word_of, words, tail, bytes_of}
use Rattle.words.proofs.Words.{bytes_words}

words_front : (s : List ℕ) → words (take (length s / 4 * 4) s) ≡ words s
unfolding words
words_front [] = refl
words_front (a ∷ []) = refl
words_front (a ∷ b ∷ []) = refl
words_front (a ∷ b ∷ c ∷ []) = refl
words_front (a ∷ b ∷ c ∷ d ∷ s) =
    let e : suc (suc (suc (suc (length s)))) / 4 * 4 ≡ suc (suc (suc (suc (length s / 4 * 4)))) = omega arith in
    rw e (ap (λ l. word_of a b c d ∷ l) (words_front s))

-- n bytes of s were lent, and t came back
module _ (s t : List ℕ) (n : ℕ) (e : n ≡ length s / 4 * 4) where
  pub lent_words : words (take n s) ≡ words s
  lent_words = rw e (words_front s)

  -- by the bytes of the whole buffer at exit
  module _ (l : length t ≡ length (take n s)) (h : (i : ℕ) → get_or (t ++ drop n s) i 0 < 256) where
    lent_length : length t ≡ n
    lent_length = l ∙ length-take-le n s (omega arith)

    lent_byte : (i : ℕ) → get_or t i 0 < 256
    lent_byte i = go (dec_lt i (length t))
      where
        go : Dec (i < length t) → get_or t i 0 < 256
        go (yes b) = rw (get_or-append t (drop n s) 0 i b) at (h i)
        go (no b) = let o : length t ≤ i = omega arith in rw (get_or-eq_default t 0 o) (omega arith)

    -- no byte stands past the last whole word
    no_tail : tail t ≡ []
    unfolding tail
    no_tail = let z : 4 * (length t / 4) ≡ length t = omega (arith, lent_length, e) in rw z (drop-length t)

    whole_bytes : bytes_of (words t) ≡ t
    whole_bytes = sym (append-nil (bytes_of (words t))) ∙ ap (λ x. bytes_of (words t) ++ x) (sym no_tail) ∙ bytes_words t lent_byte

    pub lent_back : t ++ drop n s ≡ bytes_of (words t) ++ tail s
    unfolding tail
    lent_back =
        let z : 4 * (length s / 4) ≡ n = omega (arith, e) in
        rw (z, whole_bytes)
