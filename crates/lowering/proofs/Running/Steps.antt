-- What each step of the walk does: the facts that the running law's induction uses. Only this file looks into how code, pool and registers are
-- kept. Assumes nothing.
use Rattle.std.specs.Prelude.{Result, Ok, Err}
use Prim.Native.Nat.{ℕ, suc, ◌+◌, ◌*◌, ◌-◌, ◌≤◌, ◌<◌}
use native.Mathlib.Omega.{arith}
use native.Mathlib.Nat.{lt_of_lt_of_le, le_refl, le_trans, ne_of_lt, add-zero}
use mathlib.Core.Path.{◌≡◌, refl, sym, ap, ◌∙◌, subst}
use mathlib.Core.Logic.{◌≢◌}
use mathlib.Core.Bool.{Bool, true, false, cond, ◌&&◌, true≢false, false≢true}
use mathlib.Core.List.{List}
use lib.Dec.{eqb, ltb}
use lib.ListN.{length, get_or, set, length-set}
use borrow.Author.Tests.{ltb-true, eq-eqb, ne_eqb}
use Rattle.diagnostics.specs.declared.Refusal.{Refusal}
use Rattle.diagnostics.specs.declared.Error.{Error}
use Rattle.words.specs.Records.{Buffer, buffer, append, capacity, record_at, put_record, position}
use Rattle.words.proofs.Records.{room, record_capacity, record_same, record_other, record_word}
use Rattle.words.proofs.Search.{position_first, is_record}
use Rattle.environment.specs.declared.Register.{Register}
use Rattle.environment.specs.declared.RegisterSet.{RegisterSet}
use Rattle.environment.specs.Registers.{held}
use Rattle.environment.specs.Environment.{allocated, freed}
use Rattle.environment.specs.Laws.{Sound, Takes, Gives}
use Rattle.environment.proofs.Laws.{Allocates, allocates, allocated_sound, free_temporary, free_local, give_sound}
use Rattle.runtime.specs.declared.instruction.Instruction.{Instruction}
use Rattle.runtime.specs.declared.operand.Operand.{Operand}
use Rattle.runtime.specs.Operands.{reg_of}
use Rattle.runtime.specs.Instruction.{instruction_width, words_of, offset_word}
use Rattle.runtime.specs.Value.{constant_width, constant_words}
use Rattle.runtime.specs.Function.{emit_instruction, store_constant}
use Rattle.lowering.specs.Walk.{Made, Outcome, ends, stops, Walk, bind}
use Rattle.lowering.specs.Steps.{placed, registered, with_registers, with_code, with_constants, allocate_temp, free_temp, emit, store, put_offset, patch_to_next}
use Rattle.lowering.specs.Trace.{registers_of, Held, Free}
use Rattle.runtime.proofs.Encoding.{length_words_of}
use Rattle.lowering.proofs.Running.Decode.{aim, offset_small, record_set_same, record_set_other, constant_length}

-- the outcome, if it is an answer, satisfies Q
pub data Holds {A : Type 0} (Q : A → Made → Type 0) : Outcome A → Type 0 where
  fine : {a : A} {m : Made} → Q a m → Holds Q (ends a m)
  void : {e : Error} {m : Made} → Holds Q (stops e m)

pub chain : {A B : Type 0} {P : A → Made → Type 0} {Q : B → Made → Type 0} {o : Outcome A} {k : A → Walk B} →
    Holds P o → ((a : A) (m : Made) → P a m → Holds Q (k a m)) → Holds Q (bind o k)
unfolding bind
chain (fine {a = a} {m = m} q) f = f a m q
chain void f = void

pub weaken : {A : Type 0} {P Q : A → Made → Type 0} {o : Outcome A} → Holds P o → ((a : A) (m : Made) → P a m → Q a m) → Holds Q o
weaken (fine {a = a} {m = m} q) f = fine (f a m q)
weaken void f = void

pub holds_ends : {A : Type 0} {Q : A → Made → Type 0} {a : A} {m : Made} → Holds Q (ends a m) → Q a m
holds_ends (fine q) = q

-- a test of two numbers
pub hit : {A : Type 0} (k : ℕ) (a b : A) → cond (eqb k k) a b ≡ a
hit k a b = rw (eq-eqb k k refl)

pub miss : {A : Type 0} (k r : ℕ) (a b : A) → k ≢ r → cond (eqb k r) a b ≡ b
miss k r a b n = rw (ne_eqb k r n)

and_true : (a b : Bool) → (a && b) ≡ true → (a ≡ true) × (b ≡ true)
and_true true b e = (refl, e)
and_true false b e = absurd (false≢true e)

abbrev pub count : Made → ℕ
count m = m.state.counts.instructions

-- the words of the instruction at a place
abbrev pub instruction_at : Made → ℕ → List ℕ
instruction_at m i = record_at instruction_width m.code i

pub apart : (s : RegisterSet) {k r : ℕ} → held s k ≡ true → held s r ≡ false → k ≢ r
apart s p q e = let z : ◌≡◌ {A = Bool} true false = cc in true≢false z

-- a register that may be given back with no harm to what m holds: a temporary that is free in m; a local, which is a parameter's, stays
abbrev pub Loose : ℕ → Made → Register → Type 0
Loose arity m (Register.Temp r) = Free m r
Loose arity m (Register.Local r) = r < arity

-- the constant of these words stands at place k of the pool
pub record Has (m : Made) (k : ℕ) (ws : List ℕ) : Type 0 where
  pub inside : k < m.state.counts.constants
  pub there : record_at constant_width m.constants k ≡ ws
  pub whole : length ws ≡ constant_width

-- the code is inside its buffer and below its limit
pub record Room (m : Made) : Type 0 where
  pub inside : count m ≤ capacity instruction_width m.code
  pub small : count m ≤ 1048576

-- what is kept from m to m': the code below place b, the constants, and how many marks there are
pub record CodeKept (b : ℕ) (m m' : Made) : Type 0 where
  pub more : count m ≤ count m'
  pub same : (i : ℕ) → i < b → instruction_at m' i ≡ instruction_at m i
  pub consts : (k : ℕ) (ws : List ℕ) → Has m k ws → Has m' k ws
  pub room : Room m → Room m'
  pub marks : m'.state.marks ≡ m.state.marks

-- and the held registers
pub record Grown (b : ℕ) (m m' : Made) : Type 0 where
  pub kept : CodeKept b m m'
  pub held : (r : ℕ) → Held m r → Held m' r
  pub sound : Sound (registers_of m) → Sound (registers_of m')

pub code_kept_refl : (b : ℕ) (m : Made) → CodeKept b m m
code_kept_refl b m = record { more = le_refl _; same = λ i h. refl; consts = λ k ws h. h; room = λ h. h; marks = refl }

pub code_kept_trans : {b c : ℕ} {m m' m'' : Made} → b ≤ c → CodeKept b m m' → CodeKept c m' m'' → CodeKept b m m''
code_kept_trans l g h = record {
  more = le_trans g.more h.more;
  same = λ i q. h.same i (lt_of_lt_of_le q l) ∙ g.same i q;
  consts = λ k ws x. h.consts k ws (g.consts k ws x);
  room = λ x. h.room (g.room x);
  marks = h.marks ∙ g.marks;
}

pub grown_refl : (b : ℕ) (m : Made) → Grown b m m
grown_refl b m = record { kept = code_kept_refl b m; held = λ r h. h; sound = λ h. h }

pub grown_trans : {b c : ℕ} {m m' m'' : Made} → b ≤ c → Grown b m m' → Grown c m' m'' → Grown b m m''
grown_trans l g h = record {
  kept = code_kept_trans l g.kept h.kept;
  held = λ r x. h.held r (g.held r x);
  sound = λ x. h.sound (g.sound x);
}

pub grown_at : {b c : ℕ} {m m' : Made} → b ≤ c → Grown c m m' → Grown b m m'
grown_at {b} {c} {m} {m'} h g = grown_trans h (grown_refl b m) g

-- other registers: the code and the pool as they were
kept_registers : (b : ℕ) (m : Made) (s : RegisterSet) → CodeKept b m (with_registers s m)
kept_registers b m s = record {
  more = le_refl _;
  same = λ i h. refl;
  consts = λ k ws h. record { inside = h.inside; there = h.there; whole = h.whole };
  room = λ h. record { inside = h.inside; small = h.small };
  marks = refl;
}

-- ---- a register is taken

pub record RegisterTaken (m : Made) (r : Register) (m' : Made) : Type 0 where
  pub temporary : r ≡ Register.Temp (reg_of r)
  pub was : Free m (reg_of r)
  pub now : Held m' (reg_of r)
  pub level : count m' ≡ count m
  pub grown : Grown (count m) m m'

took : (m : Made) (r : Register) (n : ℕ) (s : RegisterSet) → r ≡ Register.Temp n → Takes (registers_of m) n s → (Sound (registers_of m) → Sound s) →
    RegisterTaken m r (with_registers s m)
unfolding reg_of
took m r n s e t sound =
    let same : reg_of r ≡ n = ap reg_of e in
    record {
      temporary = e ∙ ap Register.Temp (sym same);
      was = rw same t.was_free;
      now = rw same t.now_held;
      level = refl;
      grown = record {
        kept = kept_registers _ m s;
        held = λ k h. t.others k (apart (registers_of m) h t.was_free) ∙ h;
        sound = sound;
      };
    }

pub take_holds : (m : Made) → Holds (RegisterTaken m) (allocate_temp m)
unfolding allocate_temp registered
take_holds m = go (allocated Register.Temp (registers_of m)).register refl
  where
    go : (f : Result Register Refusal) → (allocated Register.Temp (registers_of m)).register ≡ f →
        Holds (RegisterTaken m) (registered f (with_registers (allocated Register.Temp (registers_of m)).set m))
    go (Ok r) e =
        let k : Allocates Register.Temp (registers_of m) r (allocated Register.Temp (registers_of m)).set = allocates Register.Temp (registers_of m) r e in
        fine (took m r k.number _ k.of_kind k.takes (allocated_sound Register.Temp (registers_of m)))
    go (Err refusal) e = void

-- ---- a register is given back that an earlier state held loosely

-- a temporary that is held
abbrev pub Had : Made → Register → Type 0
Had m (Register.Temp r) = Held m r
Had m (Register.Local r) = Unit {0}

pub had : (m : Made) (r : Register) → Held m (reg_of r) → Had m r
unfolding reg_of
had m (Register.Temp r) h = h
had m (Register.Local r) h = tt

-- two registers that are not the same temporary
abbrev pub Differ : Register → Register → Type 0
Differ (Register.Temp a) (Register.Temp b) = b ≢ a
Differ (Register.Temp a) (Register.Local b) = Unit {0}
Differ (Register.Local a) (Register.Temp b) = Unit {0}
Differ (Register.Local a) (Register.Local b) = Unit {0}

pub differ : (arity : ℕ) (m : Made) (a b : Register) → Held m (reg_of a) → Loose arity m b → Differ a b
unfolding reg_of
differ arity m (Register.Temp a) (Register.Temp b) h f = λ e. apart (registers_of m) h f (sym e)
differ arity m (Register.Temp a) (Register.Local b) h f = tt
differ arity m (Register.Local a) (Register.Temp b) h f = tt
differ arity m (Register.Local a) (Register.Local b) h f = tt

pub record RegisterGiven (b : ℕ) (m₀ m : Made) (r : Register) (m' : Made) : Type 0 where
  pub level : count m' ≡ count m
  pub kept : CodeKept (count m) m m'
  pub grown : Grown b m₀ m'
  pub still : (x : Register) → Differ r x → Had m x → Had m' x

pub give_holds : (arity : ℕ) {b : ℕ} {m₀ m : Made} (r : Register) → Loose arity m₀ r → Had m r → Sound (registers_of m) → b ≤ count m → Grown b m₀ m →
    Holds (λ u m'. RegisterGiven b m₀ m r m') (free_temp r m)
unfolding free_temp
give_holds arity {b} {m₀} {m} (Register.Temp r) l h sound le g =
    let k : Gives (registers_of m) r (freed (registers_of m) (Register.Temp r)) = free_temporary (registers_of m) r sound h in
    fine (record {
      level = refl;
      kept = kept_registers _ m (freed (registers_of m) (Register.Temp r));
      grown = record {
        kept = code_kept_trans le g.kept (kept_registers _ m (freed (registers_of m) (Register.Temp r)));
        held = λ q x. k.others q (apart (registers_of m₀) x l) ∙ g.held q x;
        sound = λ x. give_sound k (g.sound x);
      };
      still = λ x. still k x;
    })
  where
    still : Gives (registers_of m) r (freed (registers_of m) (Register.Temp r)) → (x : Register) → Differ (Register.Temp r) x → Had m x →
        Had (with_registers (freed (registers_of m) (Register.Temp r)) m) x
    still k (Register.Temp q) d y = k.others q d ∙ y
    still k (Register.Local q) d y = tt
give_holds arity {b} {m₀} {m} (Register.Local r) l h sound le g =
    fine (record {
      level = refl;
      kept = kept_registers _ m (freed (registers_of m) (Register.Local r));
      grown = record {
        kept = code_kept_trans le g.kept (kept_registers _ m (freed (registers_of m) (Register.Local r)));
        held = λ q x. rw (free_local (registers_of m) r) (g.held q x);
        sound = λ x. rw (free_local (registers_of m) r) (g.sound x);
      };
      still = λ x. still x;
    })
  where
    still : (x : Register) → Differ (Register.Local r) x → Had m x → Had (with_registers (freed (registers_of m) (Register.Local r)) m) x
    still (Register.Temp q) d y = rw (free_local (registers_of m) r) y
    still (Register.Local q) d y = tt

-- ---- an instruction is emitted

pub record InstructionPut (i : Instruction) (m : Made) (k : ℕ) (m' : Made) : Type 0 where
  pub which : k ≡ count m
  pub level : count m' ≡ suc (count m)
  pub there : (n : ℕ) → n ≡ count m → instruction_at m' n ≡ words_of i
  pub grown : Grown (count m) m m'

module _ (m : Made) (r : List ℕ) (e : length r ≡ instruction_width) (l : count m < 1048576) (h : count m < capacity (length r) m.code) where
  put : Made
  put = with_code (put_record (length r) m.code (count m) r) (count m + 1) m

  put_there : record_at instruction_width (put_record (length r) m.code (count m) r) (count m) ≡ r
  put_there = subst (λ w. record_at w (put_record (length r) m.code (count m) r) (count m) ≡ r) e (record_same (length r) m.code (count m) r refl h)

  put_grown : Grown (count m) m put
  unfolding put
  put_grown = record {
    kept = record {
      more = omega arith;
      same = λ i q. subst (λ w. record_at w (put_record (length r) m.code (count m) r) i ≡ record_at w m.code i) e
          (record_other (length r) m.code (count m) r i refl (ne_of_lt q));
      consts = λ k ws x. record { inside = x.inside; there = x.there; whole = x.whole };
      room = λ x. record {
        inside =
            let c : capacity instruction_width (put_record (length r) m.code (count m) r) ≡ capacity instruction_width m.code = record_capacity (length r) m.code (count m) r instruction_width in
            let d : count m < capacity instruction_width m.code = rw e at h in
            rw c (omega arith);
        small = omega arith;
      };
      marks = refl;
    };
    held = λ q x. x;
    sound = λ x. x;
  }

put_emitted : (i : Instruction) (m : Made) → count m < 1048576 → count m < capacity (length (words_of i)) m.code →
    InstructionPut i m (count m) (with_code (put_record (length (words_of i)) m.code (count m) (words_of i)) (count m + 1) m)
unfolding put
put_emitted i m l h = record {
  which = refl;
  level = omega arith;
  there = λ n q. rw q (put_there m (words_of i) (length_words_of i) l h);
  grown = put_grown m (words_of i) (length_words_of i) l h;
}

pub emit_holds : (i : Instruction) (m : Made) → Holds (InstructionPut i m) (emit i m)
unfolding emit emit_instruction append placed
emit_holds i m = go (ltb (count m) 1048576 && ltb (count m) (capacity (length (words_of i)) m.code)) refl
  where
    full : Buffer
    full = buffer (put_record (length (words_of i)) m.code (count m) (words_of i)) (record { count = count m + 1; place = Ok (count m) })

    none : Buffer
    none = buffer m.code (record { count = count m; place = Err Refusal.Code })

    go : (b : Bool) → (ltb (count m) 1048576 && ltb (count m) (capacity (length (words_of i)) m.code)) ≡ b →
        Holds (InstructionPut i m) (placed (cond b full none).answer.place (with_code (cond b full none).words (cond b full none).answer.count m))
    go true e =
        let both = and_true (ltb (count m) 1048576) (ltb (count m) (capacity (length (words_of i)) m.code)) e in
        let l : count m < 1048576 = ltb-true _ _ both.0 in
        let h : count m < capacity (length (words_of i)) m.code = ltb-true _ _ both.1 in
        fine (put_emitted i m l h)
    go false e = void

-- ---- a jump is patched

pub record OffsetPut (j : ℕ) (m m' : Made) : Type 0 where
  pub level : count m' ≡ count m
  pub there : instruction_at m' j ≡ aim (count m - j) (instruction_at m j)
  pub others : (i : ℕ) → i ≢ j → instruction_at m' i ≡ instruction_at m i
  pub grown : Grown j m m'

set_capacity : (ws : List ℕ) (i v : ℕ) → capacity instruction_width (set ws i v) ≡ capacity instruction_width ws
unfolding capacity
set_capacity ws i v = rw (length-set ws i v)

-- the words with another offset
module _ (j o : ℕ) (m : Made) (r : Room m) (h : j < count m) where
  pub kind_is : get_or (instruction_at m j) 0 0 ≡ get_or m.code (instruction_width * j) 0
  kind_is = record_word instruction_width m.code j 0 (omega arith) ∙ ap (λ n. get_or m.code n 0) (add-zero (instruction_width * j))

  pub offset_there : record_at instruction_width (put_offset m.code j o) j ≡ aim o (instruction_at m j)
  unfolding put_offset aim
  offset_there =
      rw kind_is
      (record_set_same m.code j (offset_word (get_or m.code (instruction_width * j) 0)) o (offset_small _)
      (room instruction_width m.code j (omega (arith, r.inside))))

  pub offset_others : (i : ℕ) → i ≢ j → record_at instruction_width (put_offset m.code j o) i ≡ instruction_at m i
  unfolding put_offset
  offset_others i n = record_set_other m.code j (offset_word (get_or m.code (instruction_width * j) 0)) o (offset_small _) i n

  pub offset_capacity : capacity instruction_width (put_offset m.code j o) ≡ capacity instruction_width m.code
  unfolding put_offset
  offset_capacity = set_capacity m.code (instruction_width * j + offset_word (get_or m.code (instruction_width * j) 0)) o

pub patch_holds : (j : ℕ) (m : Made) → Room m → j < count m → Holds (λ u m'. OffsetPut j m m') (patch_to_next j m)
unfolding patch_to_next
patch_holds j m r h = fine good
  where
    m' : Made
    m' = with_code (put_offset m.code j (count m - j)) (count m) m

    good : OffsetPut j m m'
    good = record {
      level = refl;
      there = offset_there j (count m - j) m r h;
      others = offset_others j (count m - j) m r h;
      grown = record {
        kept = record {
          more = le_refl _;
          same = λ i l. offset_others j (count m - j) m r h i (ne_of_lt l);
          consts = λ k ws x. record { inside = x.inside; there = x.there; whole = x.whole };
          room = λ x. record { inside = rw (offset_capacity j (count m - j) m r h) x.inside; small = x.small };
          marks = refl;
        };
        held = λ q x. x;
        sound = λ x. x;
      };
    }

-- ---- a constant is pooled

pub record ConstantPooled (ws : List ℕ) (m : Made) (k : ℕ) (m' : Made) : Type 0 where
  pub has : Has m' k ws
  pub level : count m' ≡ count m
  pub grown : Grown (count m) m m'

pool_new : (m : Made) (r : List ℕ) → length r ≡ constant_width → m.state.counts.constants < capacity (length r) m.constants →
    ConstantPooled r m m.state.counts.constants (with_constants (put_record (length r) m.constants m.state.counts.constants r) (m.state.counts.constants + 1) m)
pool_new m r e h =
    let n : ℕ = m.state.counts.constants in
    record {
      has = record {
        inside = omega arith;
        there = subst (λ w. record_at w (put_record (length r) m.constants n r) n ≡ r) e (record_same (length r) m.constants n r refl h);
        whole = e;
      };
      level = refl;
      grown = record {
        kept = record {
          more = le_refl _;
          same = λ i q. refl;
          consts = λ k ws x. record {
            inside = omega (arith, x.inside);
            there = subst (λ w. record_at w (put_record (length r) m.constants n r) k ≡ record_at w m.constants k) e
                (record_other (length r) m.constants n r k refl (ne_of_lt x.inside))
                ∙ x.there;
            whole = x.whole;
          };
          room = λ x. record { inside = x.inside; small = x.small };
          marks = refl;
        };
        held = λ q x. x;
        sound = λ x. x;
      };
    }

pool_old : (m : Made) (r : List ℕ) (k : ℕ) → length r ≡ constant_width → k < m.state.counts.constants → record_at (length r) m.constants k ≡ r →
    ConstantPooled r m k (with_constants m.constants m.state.counts.constants m)
pool_old m r k e l q = record {
  has = record { inside = l; there = rw e at q; whole = e };
  level = refl;
  grown = record {
    kept = record {
      more = le_refl _;
      same = λ i h. refl;
      consts = λ j ws x. record { inside = x.inside; there = x.there; whole = x.whole };
      room = λ x. record { inside = x.inside; small = x.small };
      marks = refl;
    };
    held = λ q x. x;
    sound = λ x. x;
  };
}

pub pool_holds : (c : Operand) (m : Made) → Holds (ConstantPooled (constant_words c) m) (store c m)
unfolding store store_constant append placed
pool_holds c m = go (ltb place n) refl
  where
    n : ℕ
    n = m.state.counts.constants

    r : List ℕ
    r = constant_words c

    place : ℕ
    place = position m.constants r n

    old : Buffer
    old = buffer m.constants (record { count = n; place = Ok place })

    full : Buffer
    full = buffer (put_record (length r) m.constants n r) (record { count = n + 1; place = Ok n })

    none : Buffer
    none = buffer m.constants (record { count = n; place = Err Refusal.Constants })

    leave : Buffer → Outcome ℕ
    leave b = placed b.answer.place (with_constants b.words b.answer.count m)

    new : (b : Bool) → (ltb n 4294967295 && ltb n (capacity (length r) m.constants)) ≡ b → Holds (ConstantPooled r m) (leave (cond b full none))
    new true e = fine (pool_new m r (constant_length c) (ltb-true _ _ (and_true (ltb n 4294967295) (ltb n (capacity (length r) m.constants)) e).1))
    new false e = void

    go : (b : Bool) → ltb place n ≡ b → Holds (ConstantPooled r m) (leave (cond b old (cond (ltb n 4294967295 && ltb n (capacity (length r) m.constants)) full none)))
    go true e =
        let l : place < n = ltb-true _ _ e in
        fine (pool_old m r place (constant_length c) l (is_record m.constants r place ((position_first m.constants r n).found (omega arith))).1)
    go false e = new (ltb n 4294967295 && ltb n (capacity (length r) m.constants)) refl
