-- How runs are made: each step of the walk runs, and a do-block runs if its parts do. Assumes nothing.
use Rattle.std.specs.Prelude.{Option, Some, None, Result, Ok, Err}
use Prim.Native.Nat.{ℕ, ◌+◌, ◌*◌, ◌-◌, ◌≤◌, ◌<◌}
use native.Mathlib.Omega.{arith}
use native.Mathlib.Decide.{dec_lt, ℕ_discrete}
use native.Mathlib.Nat.{le_refl, le_trans, lt_of_lt_of_le, ne_of_lt, add-zero}
use mathlib.Core.Path.{◌≡◌, refl, sym, ap, ◌∙◌, subst}
use mathlib.Core.Logic.{◌≢◌, inl, inr}
use mathlib.Core.Bool.{Bool, true, false, cond, ◌&&◌, true≢false}
use mathlib.Core.List.{List, [], ◌∷◌}
use lib.Dec.{ltb}
use lib.ListN.{length, get_or}
use lib.Seq.{get_or-set_other}
use borrow.Author.Tests.{ltb-true, ltb-false, eq-eqb, ne_eqb}
use Rattle.diagnostics.specs.declared.Refusal.{Refusal}
use Rattle.diagnostics.specs.declared.Error.{Error}
use Rattle.words.specs.Records.{buffer, append, capacity, record_at, put_record, position, max_count, First}
use Rattle.words.proofs.Records.{record_same, record_other, record_word, append_room, append_full, append_limit}
use Rattle.words.proofs.Search.{position_first, is_record, record_is}
use Rattle.environment.specs.declared.Register.{Register}
use Rattle.environment.specs.declared.RegisterSet.{RegisterSet}
use Rattle.environment.specs.Registers.{held, given_back}
use Rattle.environment.specs.Environment.{allocated, freed}
use Rattle.environment.specs.Laws.{Sound, Gives, Refuses}
use Rattle.environment.proofs.Laws.{Allocates, allocates, allocation_refused, take_sound, gives as gives_back, give_sound}
use Rattle.runtime.specs.declared.instruction.Instruction.{Instruction}
use Rattle.runtime.specs.declared.operand.Operand.{Operand}
use Rattle.runtime.specs.Operands.{reg_of}
use Rattle.runtime.specs.Instruction.{instruction_width, words_of, offset_word}
use Rattle.runtime.specs.Value.{constant_width, constant_words}
use Rattle.runtime.specs.Function.{emit_instruction, max_instructions}
use Rattle.runtime.specs.Pool.{Unpooled}
use Rattle.runtime.proofs.Pool.{store_pooled, store_new}
use Rattle.syntax.specs.declared.ast.Node.{Node}
use Rattle.lowering.specs.Tree.{Tree, node, span_start, span_end}
use Rattle.lowering.specs.Walk.{Made, Outcome, ends, stops, Walk, bind, ◌>>=◌, ret, error, unnamed}
use Rattle.lowering.specs.Steps.{placed, registered, with_registers, with_code, with_constants, with_marks, put_offset, allocate_temp, destination, free_temp, free_held, emit, store, patch_to_next, mark}
use Rattle.lowering.specs.Meaning.{Reaches}
use Rattle.lowering.specs.Fields.{Narrow}
use Rattle.lowering.specs.Trace.{Runs, step, returns, follows, halts, Step, takes, gives, keeps, emits, finds, pools, patches, marks, refuses, Own, Owned, registers_of, Held, Free, instructions_of, constants_of, marks_of, kind_at, JumpKind}
use Rattle.runtime.proofs.Encoding.{length_words_of}
use Rattle.lowering.proofs.Running.Decode.{constant_length, offset_small}
use Rattle.lowering.proofs.Running.Steps.{Holds, fine, void, apart, Differ}

-- what gives a register back
abbrev pub GiveBack : Type 0
GiveBack = Register → Walk Unit

-- The walk w, by what gives registers back, runs from m; where it ends, Q holds of the answer and of what is made; and it comes to the same if a
-- give-back stops where the register is not held.
pub record Good (t : Tree) (root : ℕ) {A : Type 0} (Q : A → Made → Type 0) (w : GiveBack → Walk A) (m : Made) : Type 1 where
  pub runs : Runs t root A (w free_temp) m (w free_temp m)
  pub holds : Holds Q (w free_temp m)
  pub same : w free_held m ≡ w free_temp m

module _ {t : Tree} {root : ℕ} where
  chain_at : {A B : Type 0} {P : A → Made → Type 0} {Q : B → Made → Type 0} {w : Walk A} {k : GiveBack → A → Walk B} {m : Made} {o : Outcome A} →
      Runs t root A w m o → Holds P o → ((a : A) (n : Made) → P a n → Good t root Q (λ F. k F a) n) →
      Runs t root B (w >>= k free_temp) m (bind o (k free_temp)) × Holds Q (bind o (k free_temp)) × (bind o (k free_held) ≡ bind o (k free_temp))
  unfolding bind
  chain_at {k = k} r (fine {a = a} {m = n} p) f = (follows (k free_temp) r (f a n p).runs, (f a n p).holds, (f a n p).same)
  chain_at {k = k} r void f = (halts (k free_temp) r, void, refl)

  pub chain : {A B : Type 0} {P : A → Made → Type 0} {Q : B → Made → Type 0} {w : GiveBack → Walk A} {k : GiveBack → A → Walk B} {m : Made} →
      Good t root P w m → ((a : A) (n : Made) → P a n → Good t root Q (λ F. k F a) n) → Good t root Q (λ F. w F >>= k F) m
  chain {k = k} g f =
      let all = chain_at {k = k} g.runs g.holds f in
      record { runs = all.0; holds = all.1; same = ap (λ o. bind o (k free_held)) g.same ∙ all.2 }

  pub done : {A : Type 0} {Q : A → Made → Type 0} (a : A) {m : Made} → Q a m → Good t root Q (λ F. ret a) m
  done a q = record { runs = returns; holds = fine q; same = refl }

  pub stopped : {A : Type 0} {Q : A → Made → Type 0} {m : Made} (e : Error) → Own t root e m → Good t root Q (λ F x. stops e x) m
  stopped e o = record { runs = step (refuses refl o); holds = void; same = refl }

  pub relax : {A : Type 0} {P Q : A → Made → Type 0} {w : GiveBack → Walk A} {m : Made} → Good t root P w m → ((a : A) (n : Made) → P a n → Q a n) → Good t root Q w m
  relax {A} {P} {Q} {w} {m} g f = record { runs = g.runs; holds = go g.holds; same = g.same }
    where
      go : {o : Outcome A} → Holds P o → Holds Q o
      go (fine {a = a} {m = n} p) = fine (f a n p)
      go void = void

  -- a walk that comes to o in one step, and gives nothing back
  one : {A : Type 0} {Q : A → Made → Type 0} {w : Walk A} {m : Made} {o : Outcome A} → w m ≡ o → Step t root A w m o → Holds Q o → Good t root Q (λ F. w) m
  one {A} {Q} {w} {m} e s h = record { runs = subst (λ o. Runs t root A w m o) (sym e) (step s); holds = subst (λ o. Holds Q o) (sym e) h; same = refl }

  -- a walk that stops, under the refusal's own condition
  refusing : {A : Type 0} {Q : A → Made → Type 0} {w : Walk A} {m : Made} {e : Error} → w m ≡ stops e m → Own t root e m → Good t root Q (λ F. w) m
  refusing q o = one q (refuses q o) void

-- what every part of the walk keeps: registers stay sound, those held stay held, nothing is taken back, and no instruction changes its kind
pub record Kept (m n : Made) : Type 0 where
  pub sound : Sound (registers_of m) → Sound (registers_of n)
  pub held : (r : ℕ) → Held m r → Held n r
  pub more : instructions_of m ≤ instructions_of n
  pub pooled : constants_of m ≤ constants_of n
  pub kinds : (p : ℕ) → p < instructions_of m → kind_at n p ≡ kind_at m p

pub kept_refl : (m : Made) → Kept m m
kept_refl m = record { sound = λ s. s; held = λ r h. h; more = le_refl _; pooled = le_refl _; kinds = λ p h. refl }

pub kept_trans : {m n o : Made} → Kept m n → Kept n o → Kept m o
kept_trans a b = record {
  sound = λ s. b.sound (a.sound s);
  held = λ r h. b.held r (a.held r h);
  more = le_trans a.more b.more;
  pooled = le_trans a.pooled b.pooled;
  kinds = λ p h. b.kinds p (lt_of_lt_of_le h a.more) ∙ a.kinds p h;
}

-- a register that an instruction may use: a temporary that is held, or a local of the 256
abbrev pub RegisterReady : Made → Register → Type 0
RegisterReady m (Register.Temp r) = Held m r
RegisterReady m (Register.Local r) = r < 256

-- a register that m does not hold, if it is a temporary
abbrev pub NotHeld : Made → Register → Type 0
NotHeld m (Register.Temp r) = Free m r
NotHeld m (Register.Local r) = Unit {0}

pub register_ready_later : {m n : Made} (r : Register) → Kept m n → RegisterReady m r → RegisterReady n r
register_ready_later (Register.Temp r) k h = k.held r h
register_ready_later (Register.Local r) k h = h

held_small : (s : RegisterSet) (r : ℕ) → held s r ≡ true → r < 256
unfolding held
held_small s r h = go (ltb r 256) _ refl h
  where
    go : (b c : Bool) → ltb r 256 ≡ b → (b && c) ≡ true → r < 256
    go true c e h = ltb-true r 256 e
    go false c e h = absurd (true≢false (sym h))

pub register_ready_small : (m : Made) (r : Register) → RegisterReady m r → reg_of r < 256
unfolding reg_of
register_ready_small m (Register.Temp r) h = held_small (registers_of m) r h
register_ready_small m (Register.Local r) h = h

pub not_held_before : {m n : Made} (r : Register) → Kept m n → NotHeld n r → NotHeld m r
not_held_before {m} {n} (Register.Temp r) k f = go (held (registers_of m) r) refl
  where
    go : (b : Bool) → held (registers_of m) r ≡ b → held (registers_of m) r ≡ false
    go true e = absurd (true≢false (sym (k.held r e) ∙ f))
    go false e = e
not_held_before (Register.Local r) k f = tt

pub differ : (m : Made) (a b : Register) → RegisterReady m a → NotHeld m b → Differ a b
differ m (Register.Temp a) (Register.Temp b) h f = λ e. true≢false (sym h ∙ ap (λ r. held (registers_of m) r) (sym e) ∙ f)
differ m (Register.Temp a) (Register.Local b) h f = tt
differ m (Register.Local a) (Register.Temp b) h f = tt
differ m (Register.Local a) (Register.Local b) h f = tt

-- where an answer may stand: in a register that was not held, or in the one that was asked for
abbrev pub MayStand : Made → Option Register → Register → Type 0
MayStand m None r = NotHeld m r
MayStand m (Some d) r = r ≡ d

abbrev pub DestReady : Made → Option Register → Type 0
DestReady m None = Unit {0}
DestReady m (Some d) = RegisterReady m d

pub dest_ready_later : {m n : Made} (dest : Option Register) → Kept m n → DestReady m dest → DestReady n dest
dest_ready_later None k h = tt
dest_ready_later (Some d) k h = register_ready_later d k h

pub may_stand_before : {m n : Made} (dest : Option Register) (r : Register) → Kept m n → MayStand n dest r → MayStand m dest r
may_stand_before None r k h = not_held_before r k h
may_stand_before (Some d) r k h = h

-- a register that holds an answer
pub record Settled (m : Made) (dest : Option Register) (r : Register) (n : Made) : Type 0 where
  pub kept : Kept m n
  pub spot : MayStand m dest r
  pub ready : RegisterReady n r

pub record EmitKeeps (i : Instruction) (m : Made) (p : ℕ) (n : Made) : Type 0 where
  pub kept : Kept m n
  pub inside : p < instructions_of n
  pub kind : kind_at n p ≡ get_or (words_of i) 0 0
  pub registers : registers_of n ≡ registers_of m

pub record StoreKeeps (m : Made) (k : ℕ) (n : Made) : Type 0 where
  pub kept : Kept m n
  pub inside : k < constants_of n
  pub registers : registers_of n ≡ registers_of m

pub record GiveKeeps (m₀ m : Made) (r : Register) (n : Made) : Type 0 where
  pub kept : Kept m₀ n
  pub still : (x : Register) → Differ r x → RegisterReady m x → RegisterReady n x
  pub sound : Sound (registers_of n)

-- word 0 of a record
kind_word : (ws : List ℕ) (p : ℕ) → get_or ws (instruction_width * p) 0 ≡ get_or (record_at instruction_width ws p) 0 0
kind_word ws p = ap (λ i. get_or ws i 0) (sym (add-zero (instruction_width * p))) ∙ sym (record_word instruction_width ws p 0 (omega arith))

pub record PatchKeeps (m n : Made) : Type 0 where
  pub kept : Kept m n
  pub registers : registers_of n ≡ registers_of m

offset_past : (kind : ℕ) → JumpKind kind → 0 < offset_word kind
unfolding offset_word
offset_past kind j = go (ltb kind 41) (ltb kind 42) (ltb kind 44) (ltb kind 54) refl refl
  where
    go : (a b c d : Bool) → ltb kind 41 ≡ a → ltb kind 54 ≡ d → 0 < cond a 0 (cond b 1 (cond c 2 (cond d 3 0)))
    go true b c d e f = absurd (omega (arith, ltb-true kind 41 e, j.low))
    go false true c d e f = omega arith
    go false false true d e f = omega arith
    go false false false true e f = omega arith
    go false false false false e f = absurd (omega (arith, ltb-false kind 54 f, j.high))

module _ {t : Tree} {root : ℕ} where
  take_good : (m : Made) → Good t root (Settled m None) (λ F. allocate_temp) m
  unfolding allocate_temp registered
  take_good m = go (allocated Register.Temp (registers_of m)).register refl
    where
      result : (f : Result Register Refusal) → (allocated Register.Temp (registers_of m)).register ≡ f → allocate_temp m ≡ registered f (with_registers (allocated Register.Temp (registers_of m)).set m)
      result f e = rw e

      go : (f : Result Register Refusal) → (allocated Register.Temp (registers_of m)).register ≡ f → Good t root (Settled m None) (λ F. allocate_temp) m
      go (Ok r) e =
          let k : Allocates Register.Temp (registers_of m) r (allocated Register.Temp (registers_of m)).set = allocates Register.Temp (registers_of m) r e in
          let s : RegisterSet = (allocated Register.Temp (registers_of m)).set in
          one {o = ends (Register.Temp k.number) (with_registers s m)} (result (Ok r) e ∙ ap (λ x. ends x (with_registers s m)) k.of_kind) (takes k.takes)
          (fine (record {
            kept = record {
              sound = λ h. take_sound k.takes h;
              held = λ j h. k.takes.others j (apart (registers_of m) h k.takes.was_free) ∙ h;
              more = le_refl _;
              pooled = le_refl _;
              kinds = λ p h. refl;
            };
            spot = k.takes.was_free;
            ready = k.takes.now_held;
          }))
      go (Err refusal) e =
          let k : Refuses (registers_of m) refusal (allocated Register.Temp (registers_of m)).set = allocation_refused Register.Temp (registers_of m) refusal e in
          refusing
          (result (Err refusal) e ∙ ap (λ x. stops (unnamed x) (with_registers (allocated Register.Temp (registers_of m)).set m)) k.reason ∙ ap (λ x. stops (unnamed Refusal.Registers) (with_registers x m)) k.unchanged)
          (Own.registers k.all_held)

  pub destination_good : (m : Made) (dest : Option Register) → DestReady m dest → Good t root (Settled m dest) (λ F. destination dest) m
  unfolding destination
  destination_good m (Some d) h = done d (record { kept = kept_refl m; spot = refl; ready = h })
  destination_good m None h = take_good m

  -- a register that an earlier state did not hold, given back
  pub give_good : {m₀ m : Made} (r : Register) → NotHeld m₀ r → RegisterReady m r → Sound (registers_of m) → Kept m₀ m → Good t root (λ u n. GiveKeeps m₀ m r n) (λ F. F r) m
  unfolding free_temp free_held freed
  give_good {m₀} {m} (Register.Temp r) l h sound k =
      let g : Gives (registers_of m) r (given_back (registers_of m) r) = gives_back (registers_of m) r sound h in
      record {
        runs = step (gives r h);
        holds = fine (record {
          kept = record {
            sound = λ s. give_sound g (k.sound s);
            held = λ j x. g.others j (apart (registers_of m₀) x l) ∙ k.held j x;
            more = k.more;
            pooled = k.pooled;
            kinds = k.kinds;
          };
          still = λ x. still g x;
          sound = give_sound g sound;
        });
        same = rw h;
      }
    where
      still : Gives (registers_of m) r (given_back (registers_of m) r) → (x : Register) → Differ (Register.Temp r) x → RegisterReady m x → RegisterReady (with_registers (given_back (registers_of m) r) m) x
      still g (Register.Temp q) d y = g.others q d ∙ y
      still g (Register.Local q) d y = y
  give_good {m₀} {m} (Register.Local r) l h sound k =
      record { runs = step (keeps r); holds = fine (record { kept = k; still = λ x d y. y; sound = sound }); same = refl }

  -- ---- code

  pub emit_good : (i : Instruction) (m : Made) → Narrow (constants_of m) (words_of i) → Good t root (EmitKeeps i m) (λ F. emit i) m
  unfolding emit emit_instruction placed
  emit_good i m narrow = go (dec_lt (instructions_of m) max_instructions) (dec_lt (instructions_of m) (capacity instruction_width m.code))
    where
      put : List ℕ
      put = put_record instruction_width m.code (instructions_of m) (words_of i)

      made : instructions_of m < max_instructions → instructions_of m < capacity instruction_width m.code → emit i m ≡ ends (instructions_of m) (with_code put (instructions_of m + 1) m)
      made l h =
          let fits : instructions_of m < capacity (length (words_of i)) m.code = rw (length_words_of i) h in
          rw (append_room m.code (instructions_of m) max_instructions (words_of i) Refusal.Code l fits, length_words_of i)

      refused : append m.code (instructions_of m) max_instructions (words_of i) Refusal.Code ≡ buffer m.code (record { count = instructions_of m; place = Err Refusal.Code }) →
          emit i m ≡ stops (unnamed Refusal.Code) m
      refused e = rw e

      go : Dec (instructions_of m < max_instructions) → Dec (instructions_of m < capacity instruction_width m.code) → Good t root (EmitKeeps i m) (λ F. emit i) m
      go (yes l) (yes h) =
          one {o = ends (instructions_of m) (with_code put (instructions_of m + 1) m)} (made l h) (emits i narrow l h)
          (fine (record {
            kept = record {
              sound = λ s. s;
              held = λ r x. x;
              more = omega arith;
              pooled = le_refl _;
              kinds = λ p q. kind_word put p ∙ ap (λ x. get_or x 0 0) (record_other instruction_width m.code (instructions_of m) (words_of i) p (length_words_of i) (ne_of_lt q)) ∙ sym (kind_word m.code p);
            };
            inside = omega arith;
            kind = kind_word put (instructions_of m) ∙ ap (λ x. get_or x 0 0) (record_same instruction_width m.code (instructions_of m) (words_of i) (length_words_of i) h);
            registers = refl;
          }))
      go (yes l) (no h) =
          refusing (refused (append_full m.code (instructions_of m) max_instructions (words_of i) Refusal.Code (rw (length_words_of i) (omega arith))))
          (Own.code (inl (omega arith)))
      go (no l) h =
          refusing (refused (append_limit m.code (instructions_of m) max_instructions (words_of i) Refusal.Code (omega arith)))
          (Own.code (inr (omega arith)))

  -- ---- the pool

  pub store_good : (c : Operand) (m : Made) → Owned t root c → Good t root (StoreKeeps m) (λ F. store c) m
  unfolding store placed
  store_good c m owned = go (dec_lt place n)
    where
      n : ℕ
      n = constants_of m

      place : ℕ
      place = position m.constants (constant_words c) (constants_of m)

      put : List ℕ
      put = put_record constant_width m.constants (constants_of m) (constant_words c)

      unpooled : Unpooled m.constants c place
      unpooled q h whole e =
          let there = record_is m.constants (constant_words c) q (rw (constant_length c) whole) (rw (constant_length c) e) in
          let search : First m.constants (constant_words c) (constants_of m) 0 place = position_first m.constants (constant_words c) (constants_of m) in
          let z : ◌≡◌ {A = ℕ} 0 1 = cc (search.before q (omega arith) h) in
          omega arith

      old : place < n → store c m ≡ ends place m
      old l = rw (store_pooled m.constants (constants_of m) c l)

      made : n ≤ place → n < max_count → n < capacity constant_width m.constants → store c m ≡ ends n (with_constants put (n + 1) m)
      made o l h =
          let fits : constants_of m < capacity (length (constant_words c)) m.constants = rw (constant_length c) h in
          rw (store_new m.constants (constants_of m) c o, append_room m.constants (constants_of m) max_count (constant_words c) Refusal.Constants l fits, constant_length c)

      refused : n ≤ place → append m.constants n max_count (constant_words c) Refusal.Constants ≡ buffer m.constants (record { count = n; place = Err Refusal.Constants }) →
          store c m ≡ stops (unnamed Refusal.Constants) m
      refused o e = rw (store_new m.constants (constants_of m) c o, e)

      new : n ≤ place → Dec (n < max_count) → Dec (n < capacity constant_width m.constants) → Good t root (StoreKeeps m) (λ F. store c) m
      new o (yes l) (yes h) =
          one {o = ends n (with_constants put (n + 1) m)} (made o l h) (pools owned (λ q x. unpooled q (omega arith)) h)
          (fine (record { kept = record { sound = λ s. s; held = λ r x. x; more = le_refl _; pooled = omega arith; kinds = λ p q. refl }; inside = omega arith; registers = refl }))
      new o (yes l) (no h) =
          refusing (refused o (append_full m.constants n max_count (constant_words c) Refusal.Constants (rw (constant_length c) (omega arith))))
          (Own.constants owned (λ q x. unpooled q (omega arith)) (inl (omega arith)))
      new o (no l) h =
          refusing (refused o (append_limit m.constants n max_count (constant_words c) Refusal.Constants (omega arith)))
          (Own.constants owned (λ q x. unpooled q (omega arith)) (inr (omega arith)))

      go : Dec (place < n) → Good t root (StoreKeeps m) (λ F. store c) m
      go (yes l) =
          let search : First m.constants (constant_words c) (constants_of m) 0 place = found_first in
          let there : record_at constant_width m.constants place ≡ constant_words c = rw (constant_length c) at (is_record m.constants (constant_words c) place (search.found (omega arith))).1 in
          one {o = ends place m} (old l) (finds c l there unpooled) (fine (record { kept = kept_refl m; inside = l; registers = refl }))
        where
          found_first : First m.constants (constant_words c) (constants_of m) 0 place
          found_first = position_first m.constants (constant_words c) (constants_of m)
      go (no l) = new (omega arith) (dec_lt n max_count) (dec_lt n (capacity constant_width m.constants))

  -- ---- jumps

  pub patch_good : (j : ℕ) (m : Made) → j < instructions_of m → JumpKind (kind_at m j) → Good t root (λ u n. PatchKeeps m n) (λ F. patch_to_next j) m
  unfolding patch_to_next put_offset
  patch_good j m l k = one {o = ends tt (with_code (put_offset m.code j (instructions_of m - j)) (instructions_of m) m)} made (patches j l k)
      (fine (record { kept = record { sound = λ s. s; held = λ r x. x; more = le_refl _; pooled = le_refl _; kinds = other }; registers = refl }))
    where
      made : patch_to_next j m ≡ ends tt (with_code (put_offset m.code j (instructions_of m - j)) (instructions_of m) m)
      made = refl

      other : (p : ℕ) → p < instructions_of m → get_or (put_offset m.code j (instructions_of m - j)) (instruction_width * p) 0 ≡ kind_at m p
      other p h =
          let o : ℕ = offset_word (kind_at m j) in
          let a : 0 < o = offset_past (kind_at m j) k in
          let b : o < 4 = offset_small (kind_at m j) in
          get_or-set_other m.code (instruction_width * j + o) (instruction_width * p) (instructions_of m - j) 0 (λ e. omega arith)

  -- ---- marks

  pub mark_good : (i : ℕ) {callee first count : ℕ} (m : Made) → Reaches t root i → node t i ≡ Node.FunctionCall callee first count →
      Good t root (λ k n. PatchKeeps m n) (λ F. mark i (span_start t i) (span_end t i)) m
  unfolding mark placed
  mark_good i m r e = go (ℕ_discrete (instructions_of m) 0) (dec_lt (marks_of m) max_count) (dec_lt (marks_of m) (capacity 1 m.marks))
    where
      word : List ℕ
      word = (instructions_of m - 1) ∷ []

      none : instructions_of m ≡ 0 → mark i (span_start t i) (span_end t i) m ≡ stops (error Refusal.Unmarked i (span_start t i) (span_end t i)) m
      none z = rw (eq-eqb (instructions_of m) 0 z)

      made : instructions_of m ≢ 0 → marks_of m < max_count → marks_of m < capacity 1 m.marks →
          mark i (span_start t i) (span_end t i) m ≡ ends (marks_of m) (with_marks (put_record 1 m.marks (marks_of m) ((instructions_of m - 1) ∷ [])) (marks_of m + 1) m)
      made z l h = rw (ne_eqb (instructions_of m) 0 z, append_room m.marks (marks_of m) max_count ((instructions_of m - 1) ∷ []) Refusal.Marks l h)

      refused : instructions_of m ≢ 0 → append m.marks (marks_of m) max_count ((instructions_of m - 1) ∷ []) Refusal.Marks ≡ buffer m.marks (record { count = marks_of m; place = Err Refusal.Marks }) →
          mark i (span_start t i) (span_end t i) m ≡ stops (unnamed Refusal.Marks) m
      refused z e = rw (ne_eqb (instructions_of m) 0 z, e)

      go : Dec (instructions_of m ≡ 0) → Dec (marks_of m < max_count) → Dec (marks_of m < capacity 1 m.marks) →
          Good t root (λ k n. PatchKeeps m n) (λ F. mark i (span_start t i) (span_end t i)) m
      go (yes z) a b = refusing (none z) (Own.unmarked r e z)
      go (no z) (yes l) (yes h) =
          one {o = ends (marks_of m) (with_marks (put_record 1 m.marks (marks_of m) ((instructions_of m - 1) ∷ [])) (marks_of m + 1) m)} (made z l h)
          (marks i (span_start t i) (span_end t i) (omega arith) h)
          (fine (record { kept = record { sound = λ s. s; held = λ r x. x; more = le_refl _; pooled = le_refl _; kinds = λ p q. refl }; registers = refl }))
      go (no z) (yes l) (no h) =
          refusing (refused z (append_full m.marks (marks_of m) max_count ((instructions_of m - 1) ∷ []) Refusal.Marks (omega arith)))
          (Own.marks (inl (omega arith)))
      go (no z) (no l) h =
          refusing (refused z (append_limit m.marks (marks_of m) max_count ((instructions_of m - 1) ∷ []) Refusal.Marks (omega arith)))
          (Own.marks (inr (omega arith)))
