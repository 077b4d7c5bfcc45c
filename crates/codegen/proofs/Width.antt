-- Every word that the definition leaves is below 2^32 where those at entry are, so that the words of the buffers at exit are the definition's; and the
-- bytes at exit past any word from which on nothing changed are those at entry. Assumes nothing.
use Rattle.std.specs.Prelude.{Some, None}
use Prim.Native.Nat.{ℕ, zero, suc, ◌+◌, ◌*◌, ◌-◌, ◌/◌, ◌%◌, ◌≤◌, ◌<◌}
use native.Mathlib.Omega.{arith}
use native.Mathlib.Nat.{lt_of_lt_of_le}
use native.Mathlib.Decide.{dec_lt, ℕ_discrete}
use lib.Dec.{eqb}
use mathlib.Core.Path.{◌≡◌, refl, sym, ap, ◌∙◌, subst}
use mathlib.Core.Bool.{Bool, true, false, cond}
use mathlib.Core.List.{List, [], ◌∷◌, ◌++◌}
use lib.Ieee.{binary64}
use lib.Ieee.Bits.{of_bits-fits, to_bits-lt}
use lib.ListN.{length, get_or, set, drop, length-drop, get_or-eq_default}
use lib.Seq.{sets, set_out, get_or-set_same, get_or-set_other, ext_get_or, get_or-drop}
use Rattle.words.specs.Words.{word_of, words, tail, bytes_of}
use Rattle.words.specs.Records.{put_record}
use Rattle.words.proofs.Words.{bytes_words}
use Rattle.syntax.specs.declared.ast.Node.{Node}
use Rattle.syntax.specs.Ast.{node_word, node_at, node_kinds, absent}
use Rattle.runtime.specs.declared.instruction.Instruction.{Instruction}
use Rattle.runtime.specs.declared.operand.Operand.{Operand}
use Rattle.runtime.specs.Instruction.{words_of}
use Rattle.runtime.specs.Value.{number_of, number_bits, constant_words}
use Rattle.runtime.specs.Function.{max_instructions}
use Rattle.runtime.proofs.Encoding.{kind_le, length_words_of}
use Rattle.lowering.specs.Tree.{Tree}
use Rattle.lowering.specs.Walk.{Made, Outcome, Walk, made_of}
use Rattle.lowering.specs.Steps.{put_offset}
use Rattle.lowering.specs.Result.{Result, Lowered, begin, lower}
use Rattle.lowering.specs.Fields.{Field, reg, index, arguments, offset, unused, limit, Narrow, field_at}
use Rattle.lowering.specs.Trace.{Runs, Step, takes, gives, keeps, emits, finds, pools, patches, marks, moves, refuses, constant_of_node, instructions_of, constants_of}
use Rattle.lowering.proofs.Walk.StepLaws.{along}
use Rattle.lowering.proofs.Walk.NothingBeyond.{Grows, grows_refl, grows_trans, grows_each}
use Rattle.lowering.proofs.Walk.LowerRuns.{Came, before, accepted, stopped, lower_came}
use Rattle.lowering.proofs.Walk.Answers.{nothing_beyond}
use Rattle.lowering.proofs.Walk.PoolOfLower.{nothing_cut}
use Rattle.codegen.specs.Laws.{Bytes, Words}

-- ---- bytes and words

no_words : Words []
no_words zero = omega arith
no_words (suc i) = omega arith

one_more : (x : ℕ) (ws : List ℕ) → x < 4294967296 → Words ws → Words (x ∷ ws)
one_more x ws h k zero = h
one_more x ws h k (suc i) = k i

three : (a b c : ℕ) → a < 4294967296 → b < 4294967296 → c < 4294967296 → Words (a ∷ b ∷ c ∷ [])
three a b c x y z = one_more a (b ∷ c ∷ []) x (one_more b (c ∷ []) y (one_more c [] z no_words))

-- the words of bytes
pub words_small : (s : List ℕ) → Bytes s → Words (words s)
unfolding words word_of
words_small [] h = no_words
words_small (a ∷ []) h = no_words
words_small (a ∷ b ∷ []) h = no_words
words_small (a ∷ b ∷ c ∷ []) h = no_words
words_small (a ∷ b ∷ c ∷ d ∷ s) h =
    let ha : a < 256 = h 0 in
    let hb : b < 256 = h 1 in
    let hc : c < 256 = h 2 in
    let hd : d < 256 = h 3 in
    one_more (word_of a b c d) (words s) (omega arith) (words_small s (λ i. h (suc (suc (suc (suc i))))))

tail_short : (s : List ℕ) → length (tail s) < 4
unfolding tail
tail_short s = omega (arith, length-drop (4 * (length s / 4)) s)

no_word : (t : List ℕ) → length t < 4 → words t ≡ []
unfolding words
no_word [] h = refl
no_word (a ∷ []) h = refl
no_word (a ∷ b ∷ []) h = refl
no_word (a ∷ b ∷ c ∷ []) h = refl
no_word (a ∷ b ∷ c ∷ d ∷ t) h = absurd (omega arith)

-- words are read back from their bytes, with fewer than four behind them
back : (t : List ℕ) → length t < 4 → (ws : List ℕ) → Words ws → words (bytes_of ws ++ t) ≡ ws
unfolding words bytes_of word_of
back t short [] h = no_word t short
back t short (x ∷ ws) h =
    let f : x < 4294967296 = h 0 in
    let top : x / 16777216 % 256 ≡ x / 16777216 = omega arith in
    let e : x % 256 + 256 * (x / 256 % 256) + 65536 * (x / 65536 % 256) + 16777216 * (x / 16777216) ≡ x = omega arith in
    rw (top, e, back t short ws (λ i. h (suc i)))

-- the words of a buffer at exit
pub words_exit : (s ws : List ℕ) → Words ws → words (bytes_of ws ++ tail s) ≡ ws
words_exit s ws h = back (tail s) (tail_short s) ws h

-- the bytes past n words
past_bytes : (n : ℕ) (ws t : List ℕ) → n ≤ length ws → drop (4 * n) (bytes_of ws ++ t) ≡ bytes_of (drop n ws) ++ t
unfolding bytes_of
past_bytes zero ws t h = refl
past_bytes (suc n) [] t h = absurd (omega arith)
past_bytes (suc n) (x ∷ ws) t h = let four : 4 * suc n ≡ suc (suc (suc (suc (4 * n)))) = omega arith in rw four (past_bytes n ws t (omega arith))

length_bytes : (ws t : List ℕ) → length (bytes_of ws ++ t) ≡ 4 * length ws + length t
unfolding bytes_of
length_bytes [] t = omega arith
length_bytes (x ∷ ws) t = omega (arith, length_bytes ws t)

-- a buffer whose words at exit are as many as at entry, and the same from n on
module _ (s ws : List ℕ) (h : Bytes s) (e : length ws ≡ length (words s)) where
  pub length_exit : length (bytes_of ws ++ tail s) ≡ length s
  length_exit = length_bytes ws (tail s) ∙ ap (λ n. 4 * n + length (tail s)) e ∙ sym (length_bytes (words s) (tail s)) ∙ ap length (bytes_words s h)

  module _ (n : ℕ) (l : n ≤ length ws) (same : (i : ℕ) → n ≤ i → get_or ws i 0 ≡ get_or (words s) i 0) where
    past_words : drop n ws ≡ drop n (words s)
    past_words =
        ext_get_or 0 (drop n ws) (drop n (words s)) (length-drop n ws ∙ ap (λ k. k - n) e ∙ sym (length-drop n (words s)))
        (λ j b. get_or-drop n ws j 0 ∙ same (n + j) (omega arith) ∙ sym (get_or-drop n (words s) j 0))

    past_drop : drop (4 * n) (bytes_of ws ++ tail s) ≡ drop (4 * n) s
    past_drop =
        past_bytes n ws (tail s) l ∙ ap (λ x. bytes_of x ++ tail s) past_words ∙ sym (past_bytes n (words s) (tail s) (omega arith))
        ∙ ap (λ x. drop (4 * n) x) (bytes_words s h)

    -- every byte from there on is as at entry
    pub past_exit : (i : ℕ) → 4 * n ≤ i → get_or (bytes_of ws ++ tail s) i 0 ≡ get_or s i 0
    past_exit i b =
        let k : 4 * n + (i - 4 * n) ≡ i = omega arith in
        subst (λ j. get_or (bytes_of ws ++ tail s) j 0 ≡ get_or s j 0) k
        (sym (get_or-drop (4 * n) (bytes_of ws ++ tail s) (i - 4 * n) 0) ∙ ap (λ (x : List ℕ). get_or x (i - 4 * n) 0) past_drop ∙ get_or-drop (4 * n) s (i - 4 * n) 0)

-- ---- stores

set_words : (ws : List ℕ) (i v : ℕ) → Words ws → v < 4294967296 → Words (set ws i v)
set_words ws i v h l j = go (ℕ_discrete j i) (dec_lt i (length ws))
  where
    go : Dec (j ≡ i) → Dec (i < length ws) → get_or (set ws i v) j 0 < 4294967296
    go (no e) d = rw (get_or-set_other ws i j v 0 e) (h j)
    go (yes e) (yes b) = rw (e, get_or-set_same ws i v 0 b) l
    go (yes e) (no b) = rw (set_out ws i v (omega arith)) (h j)

sets_words : (ws : List ℕ) (i : ℕ) (vs : List ℕ) → Words ws → Words vs → Words (sets ws i vs)
sets_words ws i [] h k = h
sets_words ws i (v ∷ vs) h k = sets_words (set ws i v) (suc i) vs (set_words ws i v h (k 0)) (λ j. k (suc j))

put_words : (w : ℕ) (ws : List ℕ) (p : ℕ) (vs : List ℕ) → Words ws → Words vs → Words (put_record w ws p vs)
unfolding put_record
put_words w ws p vs = sets_words ws (w * p) vs

-- ---- instructions: the kind is at most 54, and the fields fit

limit_small : (top : ℕ) → top ≤ 4096 → (f : Field) → limit top f ≤ 4294967296
limit_small top h reg = omega arith
limit_small top h index = omega arith
limit_small top h arguments = omega arith
limit_small top h offset = omega arith
limit_small top h unused = omega arith

instruction_words : (i : Instruction) (top : ℕ) → top ≤ 4096 → Narrow top (words_of i) → Words (words_of i)
instruction_words i top h n zero = omega (arith, kind_le i)
instruction_words i top h n (suc zero) = lt_of_lt_of_le n.0 (limit_small top h (field_at (get_or (words_of i) 0 0) 0))
instruction_words i top h n (suc (suc zero)) = lt_of_lt_of_le n.1 (limit_small top h (field_at (get_or (words_of i) 0 0) 1))
instruction_words i top h n (suc (suc (suc zero))) = lt_of_lt_of_le n.2 (limit_small top h (field_at (get_or (words_of i) 0 0) 2))
instruction_words i top h n (suc (suc (suc (suc k)))) =
    rw (get_or-eq_default (words_of i) 0 {n = suc (suc (suc (suc k)))} (omega (arith, length_words_of i))) (omega arith)

-- ---- constants: a number's bits, a symbol of the tree

number_words : (low high : ℕ) → Words (constant_words (Operand.Number (number_of low high)))
unfolding constant_words number_of
number_words low high =
    let bits : ℕ = number_bits (number_of low high) in
    let wide : bits < 18446744073709551616 = to_bits-lt binary64 (number_of low high) (of_bits-fits binary64 (4294967296 * high + low)) in
    three _ _ _ (omega arith) (omega arith) (omega arith)

string_words : (symbol : ℕ) → symbol < 4294967296 → Words (constant_words (Operand.String symbol))
unfolding constant_words
string_words symbol h = three 3 symbol 0 (omega arith) h (omega arith)

nil_words : Words (constant_words Operand.Nil)
unfolding constant_words
nil_words = three _ _ _ (omega arith) (omega arith) (omega arith)

abbrev Fine : Node → Type 0
Fine n = (c : Operand) → constant_of_node n ≡ Some c → Words (constant_words c)

-- the constant of a node that has one, and a node that has none
fine_some : {x : Operand} → Words (constant_words x) → (c : Operand) → Some x ≡ Some c → Words (constant_words c)
fine_some {x} h c e = let same : x ≡ c = cc in subst (λ y. Words (constant_words y)) same h

fine_none : (c : Operand) → None ≡ Some c → Words (constant_words c)
fine_none c e = let z : ◌≡◌ {A = ℕ} 0 1 = cc in absurd (omega arith)

fine_tail : (b : Bool) (c : Operand) → cond b (Some Operand.Nil) None ≡ Some c → Words (constant_words c)
fine_tail true c e = fine_some nil_words c e
fine_tail false c e = fine_none c e

module _ (a b c : ℕ) where
  abbrev AllFine : List (ℕ → ℕ → ℕ → Node) → Type 0
  AllFine [] = Unit {0}
  AllFine (f ∷ l) = Fine (f a b c) × AllFine l

  fine_at : (l : List (ℕ → ℕ → ℕ → Node)) → AllFine l → (k : ℕ) → Fine (get_or l k (λ a b c. Node.Nil) a b c)
  unfolding constant_of_node
  fine_at [] h zero = fine_some nil_words
  fine_at [] h (suc k) = fine_some nil_words
  fine_at (f ∷ l) h zero = h.0
  fine_at (f ∷ l) h (suc k) = fine_at l h.1 k

boolean_words : (b : Bool) → Words (constant_words (Operand.Boolean b))
unfolding constant_words
boolean_words true = three 1 1 0 (omega arith) (omega arith) (omega arith)
boolean_words false = three 1 0 0 (omega arith) (omega arith) (omega arith)

node_words : (nodes : List ℕ) → Words nodes → (i : ℕ) → Fine (node_at nodes i)
unfolding constant_of_node node_at node_word
node_words nodes h i =
    fine_at (node_word nodes i 1) (node_word nodes i 2) (node_word nodes i 3) node_kinds
    (fine_some (number_words _ _), (fine_some (string_words _ (h _)), (fine_some (boolean_words _), (fine_some nil_words, (fine_some (string_words _ (h _)), (fine_none, (fine_none, (fine_none, (fine_none, (fine_none, (fine_none, (fine_tail (eqb (node_word nodes i 1) absent), (fine_none, (fine_some (string_words _ (h _)), (fine_none, tt)))))))))))))))
    (node_word nodes i 0)

-- ---- a run

-- the words of the three buffers
abbrev AllWords : Made → Type 0
AllWords m = Words m.code × Words m.constants × Words m.marks

record WordsKept (m n : Made) : Type 0 where
  pub grows : Grows m n
  pub words : constants_of n ≤ 4096 → instructions_of n ≤ max_instructions → AllWords m → AllWords n

words_kept_refl : (m : Made) → WordsKept m m
words_kept_refl m = record { grows = grows_refl m; words = λ a b h. h }

words_kept_trans : (m n o : Made) → WordsKept m n → WordsKept n o → WordsKept m o
words_kept_trans m n o a b = record {
  grows = grows_trans m n o a.grows b.grows;
  words = λ x y h. b.words x y (a.words (omega (arith, b.grows.constants)) (omega (arith, b.grows.instructions)) h);
}

module _ {t : Tree} {root : ℕ} (tree : Words t.nodes) where
  kept_each : {A : Type 0} {w : Walk A} {m : Made} {o : Outcome A} → Step t root A w m o → constants_of (made_of o) ≤ 4096 → instructions_of (made_of o) ≤ max_instructions →
      AllWords m → AllWords (made_of o)
  unfolding made_of put_offset
  kept_each (takes k) x y h = h
  kept_each (gives r k) x y h = h
  kept_each (keeps r) x y h = h
  kept_each {m = m} (emits i f l k) x y h = (put_words 4 m.code (instructions_of m) (words_of i) h.0 (instruction_words i (constants_of m) x f), h.1, h.2)
  kept_each (finds c l e f) x y h = h
  kept_each {m = m} (pools {c = c} o f k) x y h =
      (h.0, put_words 3 m.constants (constants_of m) (constant_words c) h.1 (node_words t.nodes tree o.owner c o.its), h.2)
  kept_each {m = m} (patches j l k) x y h = (set_words m.code _ (instructions_of m - j) h.0 (omega arith), h.1, h.2)
  kept_each {m = m} (marks i start end z k) x y h =
      (h.0, h.1, put_words 1 m.marks _ ((instructions_of m - 1) ∷ []) h.2 (one_more (instructions_of m - 1) [] (omega arith) no_words))
  kept_each {m = m} (moves place l k b) x y h = (set_words m.code _ _ h.0 (omega arith), h.1, h.2)
  kept_each (refuses q o) x y h = h

  kept : {A : Type 0} {w : Walk A} {m : Made} {o : Outcome A} → Runs t root A w m o → WordsKept m (made_of o)
  kept r = along WordsKept words_kept_refl words_kept_trans (λ A w m o s. record { grows = grows_each s; words = kept_each s }) r

-- ---- of `lower`

module _ (nodes : List ℕ) (root mode : ℕ) (list names code constants marks : List ℕ) (tree : Words (words nodes)) (c : Words code) (p : Words constants) (m : Words marks) where
  came_words : {l : Lowered} → Came nodes root mode list names code constants marks l → l.result.constants ≤ 4096 → l.result.instructions ≤ max_instructions →
      Words l.code × Words l.constants × Words l.marks
  unfolding made_of begin
  came_words (before h) x y = (c, p, m)
  came_words (accepted a e r) x y = (kept tree r).words x y (c, p, m)
  came_words (stopped a e r o) x y = (kept tree r).words x y (c, p, m)

  pub lower_words : Words (lower nodes root mode list names code constants marks).code × Words (lower nodes root mode list names code constants marks).constants
      × Words (lower nodes root mode list names code constants marks).marks
  lower_words =
      came_words (lower_came nodes root mode list names code constants marks)
      (nothing_cut nodes root mode list names code constants marks).few_constants (nothing_beyond nodes root mode list names code constants marks).code_few

-- Exact: numbers and bytes that are the definition's give its words.
module _ (nodes : List ℕ) (root mode : ℕ) (list names code constants marks : List ℕ) (nodes_bytes_lem : Bytes nodes) (code_bytes : Bytes code)
    (constants_bytes : Bytes constants) (marks_bytes : Bytes marks) where
  abbrev defined : Lowered
  defined = lower nodes root mode list names (words code) (words constants) (words marks)

  pub exact_words : (r : Result) (code' constants' marks' : List ℕ) → r ≡ defined.result → code' ≡ bytes_of defined.code ++ tail code →
      constants' ≡ bytes_of defined.constants ++ tail constants → marks' ≡ bytes_of defined.marks ++ tail marks →
      record { result = r; code = words code'; constants = words constants'; marks = words marks' } ≡ defined
  exact_words r code' constants' marks' numbers-same code_same constants_same marks_same =
      let w = lower_words nodes root mode list names (words code) (words constants) (words marks)
      (words_small nodes nodes_bytes_lem) (words_small code code_bytes) (words_small constants constants_bytes) (words_small marks marks_bytes) in
      rw (code_same, constants_same, marks_same, words_exit code defined.code w.0, words_exit constants defined.constants w.1, words_exit marks defined.marks w.2)
      (ap (λ x. record { result = x; code = defined.code; constants = defined.constants; marks = defined.marks }) numbers-same)
