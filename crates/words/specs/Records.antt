-- Records of w words, one after the other: "Node, six words", "Instruction, four words", "Constant, three words"; a list word, a name and a
-- mark are records of one.
use Rattle.std.specs.Prelude.{ℕ, zero, suc, ◌+◌, ◌*◌, ◌/◌, ◌≤◌, ◌<◌, ◌≡◌, List, [], ◌∷◌, Bool, true, false, cond, ◌&&◌, ltb, eqb, length, get_or, take, drop, Option, Some, None, Ok, Err}
use Rattle.std.proofs.lemmas.List.Edits.{sets}
use Rattle.diagnostics.specs.declared.Refusal.{Refusal}
use Rattle.words.specs.declared.Appended.{Appended}

-- "whole records": how many a buffer holds
unfoldable pub capacity : ℕ → List ℕ → ℕ
capacity w ws = length ws / w

-- the words of record p
unfoldable pub record_at : ℕ → List ℕ → ℕ → List ℕ
record_at w ws p = take w (drop (w * p) ws)

-- the buffer with record p made r
unfoldable pub put_record : ℕ → List ℕ → ℕ → List ℕ → List ℕ
put_record w ws p r = sets ws (w * p) r

-- whether two lists are the same
unfoldable pub same_words : List ℕ → List ℕ → Bool
same_words [] [] = true
same_words [] (y ∷ ys) = false
same_words (x ∷ xs) [] = false
same_words (x ∷ xs) (y ∷ ys) = eqb x y && same_words xs ys

-- whether the buffer has a whole record p, and its words are r
unfoldable pub is_at : List ℕ → List ℕ → ℕ → Bool
is_at ws r p = ltb p (capacity (length r) ws) && same_words (record_at (length r) ws p) r

-- the first of the n records from p on that is r, or p + n
unfoldable pub position_from : List ℕ → List ℕ → ℕ → ℕ → ℕ
position_from ws r zero p = p
position_from ws r (suc n) p = cond (is_at ws r p) p (position_from ws r n (suc p))

-- the place of the first of the first `count` records that is r, or `count`
unfoldable pub position : List ℕ → List ℕ → ℕ → ℕ
position ws r count = position_from ws r count 0

-- the same, none where none is
unfoldable pub first_position : List ℕ → List ℕ → ℕ → Option ℕ
first_position ws r count = cond (ltb (position ws r count) count) (Some (position ws r count)) None

-- the place of the last of the first n words that is x
unfoldable pub last_position : List ℕ → ℕ → ℕ → Option ℕ
last_position ws zero x = None
last_position ws (suc n) x = cond (eqb (get_or ws n 0) x) (Some n) (last_position ws n x)

-- the most records that a count of 32 bits can say
abbrev pub max_count : ℕ
max_count = 4294967295

-- what an append leaves: the words of the buffer, and the answer
pub record Buffer : Type 0 where
  pub words : List ℕ
  pub answer : Appended

abbrev pub buffer : List ℕ → Appended → Buffer
buffer ws a = record { words = ws; answer = a }

-- a record put after the first `count` ones, "with fewer than" `limit` "made" and "place for the next"; otherwise the buffer as it was, and the refusal
unfoldable pub append : List ℕ → ℕ → ℕ → List ℕ → Refusal → Buffer
append ws count limit r refusal =
    cond (ltb count limit && ltb count (capacity (length r) ws))
    (buffer (put_record (length r) ws count r) (record { count = count + 1; place = Ok count }))
    (buffer ws (record { count = count; place = Err refusal }))

-- "the pool gives the first equal constant", for records of any width. q is what a search gives that looks for r among the n records from p on: the place of
-- the first that is r, or p + n where none is
pub record First (ws r : List ℕ) (n p q : ℕ) : Type 0 where
  pub start : p ≤ q
  pub within : q ≤ p + n
  pub found : q < p + n → is_at ws r q ≡ true
  pub before : (j : ℕ) → p ≤ j → j < q → is_at ws r j ≡ false
