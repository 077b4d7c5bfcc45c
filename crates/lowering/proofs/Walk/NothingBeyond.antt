-- Nothing beyond: what any run of lowering leaves of the words past its counts, of the constants and marks made before, and how its counts fit the
-- buffers. Once, over the width of a buffer's records. Assumes nothing.
use Prim.Native.Nat.{ℕ, ◌+◌, ◌*◌, ◌-◌, ◌≤◌, ◌<◌}
use native.Mathlib.Omega.{arith}
use native.Mathlib.Nat.{le_refl, le_trans, mul-le-mul_left}
use native.Mathlib.Decide.{ℕ_discrete}
use mathlib.Core.Path.{◌≡◌, refl, ◌∙◌, subst}
use mathlib.Core.List.{List, [], ◌∷◌}
use lib.ListN.{length, get_or, set, length-set}
use lib.Seq.{get_or-set_other}
use Rattle.words.specs.Records.{put_record, capacity}
use Rattle.words.proofs.Records.{ends_before, record_length, record_capacity, put_before, put_past, put_same}
use Rattle.environment.specs.declared.RegisterSet.{RegisterSet}
use Rattle.runtime.specs.Instruction.{instruction_width, words_of, offset_word}
use Rattle.runtime.specs.Value.{constant_width, constant_words}
use Rattle.runtime.specs.Function.{max_instructions}
use Rattle.lowering.specs.Tree.{Tree}
use Rattle.lowering.specs.Walk.{Made, Outcome, Walk, made_of}
use Rattle.lowering.specs.Steps.{with_registers, with_code, put_offset}
use Rattle.lowering.specs.Trace.{Runs, Step, takes, gives, keeps, emits, finds, pools, patches, marks, moves, refuses, instructions_of, constants_of, marks_of, kind_at, first_field, registers_of, Marked}
use Rattle.runtime.proofs.Encoding.{length_words_of}
use Rattle.lowering.proofs.Running.Decode.{constant_length, offset_small}
use Rattle.lowering.proofs.Walk.StepLaws.{along}

-- ---- a buffer

-- a buffer of records of w words, of which n are made before, and k after
pub record Grown (w : ℕ) (before after : List ℕ) (n k : ℕ) : Type 0 where
  -- it does not change its length
  pub same_length : length after ≡ length before
  -- every word past the count is as it was
  pub past : (i : ℕ) → w * k ≤ i → get_or after i 0 ≡ get_or before i 0
  -- the count fits the buffer, if it did
  pub fits : n ≤ capacity w before → k ≤ capacity w after

-- every word of the n records made before is as it was
abbrev pub Kept : ℕ → List ℕ → List ℕ → ℕ → Type 0
Kept w before after n = (i : ℕ) → i < w * n → get_or after i 0 ≡ get_or before i 0

grown_none : (w : ℕ) (ws : List ℕ) (n : ℕ) → Grown w ws ws n n
grown_none w ws n = record { same_length = refl; past = λ i h. refl; fits = λ h. h }

grown_trans : {w : ℕ} {a b c : List ℕ} {n k j : ℕ} → k ≤ j → Grown w a b n k → Grown w b c k j → Grown w a c n j
grown_trans {w} more x y =
    record {
      same_length = y.same_length ∙ x.same_length;
      past = λ i h. y.past i h ∙ x.past i (le_trans (mul-le-mul_left w more) h);
      fits = λ h. y.fits (x.fits h);
    }

kept_trans : (w : ℕ) (a b c : List ℕ) {n k : ℕ} → n ≤ k → Kept w a b n → Kept w b c k → Kept w a c n
kept_trans w a b c more x y i h = y i (omega (arith, mul-le-mul_left w more)) ∙ x i h

-- a record put behind the last, where it has place
grown_put : (w : ℕ) (ws : List ℕ) (p : ℕ) (r : List ℕ) → length r ≡ w → p < capacity w ws → Grown w ws (put_record w ws p r) p (p + 1)
grown_put w ws p r e h =
    record {
      same_length = record_length w ws p r;
      past = λ i q. put_past w ws p r e i (omega (arith, ends_before w {q = p} {p = p + 1} (omega arith)));
      fits = λ x. rw (record_capacity w ws p r w) (omega arith);
    }

set_capacity : (w : ℕ) (ws : List ℕ) (i v : ℕ) → capacity w (set ws i v) ≡ capacity w ws
unfolding capacity
set_capacity w ws i v = rw (length-set ws i v)

-- word k of a record that is made, changed
grown_set : (w : ℕ) (ws : List ℕ) (p k v n : ℕ) → p < n → k < w → Grown w ws (set ws (w * p + k) v) n n
grown_set w ws p k v n l h =
    record {
      same_length = length-set ws (w * p + k) v;
      past = λ i q. get_or-set_other ws (w * p + k) i v 0 (λ z. omega (arith, ends_before w l));
      fits = λ x. rw (set_capacity w ws (w * p + k) v) x;
    }

-- ---- what was made

-- from m to n
pub record Grows (m n : Made) : Type 0 where
  -- counts only grow
  pub instructions : instructions_of m ≤ instructions_of n
  pub constants : constants_of m ≤ constants_of n
  pub marks : marks_of m ≤ marks_of n
  -- and so do the buffers
  pub in_code : Grown instruction_width m.code n.code (instructions_of m) (instructions_of n)
  pub in_constants : Grown constant_width m.constants n.constants (constants_of m) (constants_of n)
  pub in_marks : Grown 1 m.marks n.marks (marks_of m) (marks_of n)
  -- the constants and marks made before stay
  pub constants_kept : Kept constant_width m.constants n.constants (constants_of m)
  pub marks_kept : Kept 1 m.marks n.marks (marks_of m)
  -- there are not too many instructions, if there were not
  pub code_few : instructions_of m ≤ max_instructions → instructions_of n ≤ max_instructions
  -- and marks name instructions, if they did
  pub marked : Marked m → Marked n

-- a step that changes the code alone
grows_code : (m : Made) (code : List ℕ) (n : ℕ) → instructions_of m ≤ n → (instructions_of m ≤ max_instructions → n ≤ max_instructions)
    → Grown instruction_width m.code code (instructions_of m) n → Grows m (with_code code n m)
grows_code m code n more few grown = record {
  instructions = more;
  constants = le_refl _;
  marks = le_refl _;
  in_code = grown;
  in_constants = grown_none constant_width m.constants (constants_of m);
  in_marks = grown_none 1 m.marks (marks_of m);
  constants_kept = λ i h. refl;
  marks_kept = λ i h. refl;
  code_few = few;
  marked = λ x k q. let z = x k q in omega arith;
}

-- one that changes the registers alone, or nothing
grows_registers : (m : Made) (s : RegisterSet) → Grows m (with_registers s m)
grows_registers m s = record {
  instructions = le_refl _;
  constants = le_refl _;
  marks = le_refl _;
  in_code = grown_none instruction_width m.code (instructions_of m);
  in_constants = grown_none constant_width m.constants (constants_of m);
  in_marks = grown_none 1 m.marks (marks_of m);
  constants_kept = λ i h. refl;
  marks_kept = λ i h. refl;
  code_few = λ h. h;
  marked = λ h. h;
}

pub grows_refl : (m : Made) → Grows m m
grows_refl m = grows_registers m (registers_of m)

pub grows_trans : (m n o : Made) → Grows m n → Grows n o → Grows m o
grows_trans m n o a b = record {
  instructions = le_trans a.instructions b.instructions;
  constants = le_trans a.constants b.constants;
  marks = le_trans a.marks b.marks;
  in_code = grown_trans b.instructions a.in_code b.in_code;
  in_constants = grown_trans b.constants a.in_constants b.in_constants;
  in_marks = grown_trans b.marks a.in_marks b.in_marks;
  constants_kept = kept_trans constant_width m.constants n.constants o.constants a.constants a.constants_kept b.constants_kept;
  marks_kept = kept_trans 1 m.marks n.marks o.marks a.marks a.marks_kept b.marks_kept;
  code_few = λ h. b.code_few (a.code_few h);
  marked = λ h. b.marked (a.marked h);
}

-- ---- each step

-- the mark that is put
mark_same : (ws : List ℕ) (p v : ℕ) → p < capacity 1 ws → get_or (put_record 1 ws p (v ∷ [])) p 0 ≡ v
mark_same ws p v h =
    let place : 1 * p + 0 ≡ p = omega arith in
    subst (λ i. get_or (put_record 1 ws p (v ∷ [])) i 0 ≡ v) place (put_same 1 ws p (v ∷ []) refl 0 (omega arith) h)

module _ {t : Tree} {root : ℕ} where
  pub grows_each : {A : Type 0} {w : Walk A} {m : Made} {o : Outcome A} → Step t root A w m o → Grows m (made_of o)
  unfolding made_of put_offset
  grows_each {m = m} (takes {s = s} k) = grows_registers m s
  grows_each {m = m} (gives r k) = grows_registers m _
  grows_each {m = m} (keeps r) = grows_refl m
  grows_each {m = m} (emits i fits l h) =
      grows_code m _ (instructions_of m + 1) (omega arith) (λ x. omega arith) (grown_put instruction_width m.code (instructions_of m) (words_of i) (length_words_of i) h)
  grows_each {m = m} (finds c l e f) = grows_refl m
  grows_each {m = m} (pools {c = c} owned f h) = record {
    instructions = le_refl _;
    constants = omega arith;
    marks = le_refl _;
    in_code = grown_none instruction_width m.code (instructions_of m);
    in_constants = grown_put constant_width m.constants (constants_of m) (constant_words c) (constant_length c) h;
    in_marks = grown_none 1 m.marks (marks_of m);
    constants_kept = put_before constant_width m.constants (constants_of m) (constant_words c);
    marks_kept = λ i h. refl;
    code_few = λ h. h;
    marked = λ h. h;
  }
  grows_each {m = m} (patches j l k) =
      grows_code m _ (instructions_of m) (le_refl _) (λ x. x)
      (grown_set instruction_width m.code j (offset_word (kind_at m j)) (instructions_of m - j) (instructions_of m) l (offset_small (kind_at m j)))
  grows_each {m = m} (marks i start end z h) = record {
    instructions = le_refl _;
    constants = le_refl _;
    marks = omega arith;
    in_code = grown_none instruction_width m.code (instructions_of m);
    in_constants = grown_none constant_width m.constants (constants_of m);
    in_marks = grown_put 1 m.marks (marks_of m) mark refl h;
    constants_kept = λ i h. refl;
    marks_kept = put_before 1 m.marks (marks_of m) mark;
    code_few = λ h. h;
    marked = λ x k q. marked_more x k q (ℕ_discrete k (marks_of m));
  }
    where
      mark : List ℕ
      mark = (instructions_of m - 1) ∷ []

      marked_more : Marked m → (k : ℕ) → k < marks_of m + 1 → Dec (k ≡ marks_of m) → get_or (put_record 1 m.marks (marks_of m) mark) k 0 < instructions_of m
      marked_more x k q (yes e) = rw e (rw (mark_same m.marks (marks_of m) (instructions_of m - 1) h) (omega arith))
      marked_more x k q (no e) = rw (put_before 1 m.marks (marks_of m) mark k (omega arith)) (x k (omega arith))
  grows_each {m = m} (moves place l k b) =
      grows_code m _ (instructions_of m) (le_refl _) (λ x. x)
      (grown_set instruction_width m.code place 1 (first_field m place + (registers_of m).frame_size) (instructions_of m) l (omega arith))
  grows_each {m = m} (refuses q o) = grows_refl m

  -- of any run
  pub runs_grow : {A : Type 0} {w : Walk A} {m : Made} {o : Outcome A} → Runs t root A w m o → Grows m (made_of o)
  runs_grow r = along Grows grows_refl grows_trans (λ A w m o s. grows_each s) r
