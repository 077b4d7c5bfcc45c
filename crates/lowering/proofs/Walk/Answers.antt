-- Law 1 of the definition: which numbers come back and where, what is written with each, and patching. Assumes nothing.
use Prim.Native.Nat.{ℕ, ◌+◌, ◌*◌, ◌≤◌, ◌<◌}
use native.Mathlib.Omega.{arith}
use native.Mathlib.Decide.{dec_lt, dec_le}
use mathlib.Core.Path.{◌≡◌, refl, sym, ap, ◌∙◌, subst}
use mathlib.Core.Logic.{◌⊎◌, inl, inr, ◌↔◌}
use mathlib.Core.Bool.{Bool, true, false, cond, ◌&&◌}
use mathlib.Core.List.{List, [], ◌∷◌}
use lib.Dec.{leb, ltb}
use lib.ListN.{length, get_or, length-set}
use lib.Seq.{get_or-set_same, get_or-set_other}
use borrow.Author.Tests.{leb-true, ltb-true, lt-ltb, le-leb}
use Rattle.diagnostics.specs.declared.Refusal.{Refusal}
use Rattle.diagnostics.specs.declared.Error.{Error}
use Rattle.diagnostics.specs.Refusal.{refusal_number}
use Rattle.words.specs.Records.{capacity}
use Rattle.words.proofs.Records.{room}
use Rattle.runtime.specs.Instruction.{instruction_width, first_jump, last_jump, offset_word}
use Rattle.runtime.specs.Value.{constant_width}
use Rattle.lowering.specs.Tree.{Tree, tree_of}
use Rattle.lowering.specs.Checked.{AllYes, FirstNo}
use Rattle.lowering.specs.Walk.{Made, stops, made_of}
use Rattle.lowering.specs.Steps.{free_temp, put_offset}
use Rattle.lowering.specs.Result.{Result, Lowered, lowered, begin, lower_root, lowered_of, lower_checked, lower, can_patch, JumpPatched, patch_jump}
use Rattle.lowering.specs.Trace.{instructions_of, constants_of, marks_of}
use Rattle.lowering.specs.Answers.{nothing_made, Untouched, Stopped, StopsWith, Tells, Ended, marks_made, mark_count, Within, kind, MayPatch, MayNot, index_past, count_past, kind_below, kind_past, OneWord}
use Rattle.lowering.proofs.Running.Decode.{offset_small}
use Rattle.lowering.proofs.Questions.Checked.{questions_passed, questions_refused, and_left, and_right}
use Rattle.lowering.proofs.Walk.NothingBeyond.{Grows, runs_grow}
use Rattle.lowering.proofs.Walk.WhatIsMet.{met_declared, met_else, met_key}
use Rattle.lowering.proofs.Walk.LowerRuns.{Came, before, accepted, stopped, lower_came, own_number, first_number}

-- ---- a refusal by its number

refusal_of : ℕ → Refusal
refusal_of n = get_or
    (Refusal.Size ∷ Refusal.Size ∷ Refusal.Root ∷ Refusal.Kind ∷ Refusal.Unused ∷ Refusal.Number ∷ Refusal.List ∷ Refusal.Order ∷ Refusal.Parameters ∷
    Refusal.Undeclared ∷ Refusal.Registers ∷ Refusal.Else ∷ Refusal.Key ∷ Refusal.Code ∷ Refusal.Constants ∷ Refusal.Unmarked ∷ Refusal.Marks ∷
    Refusal.Destination ∷ Refusal.Sum ∷ Refusal.Jump ∷ []) n Refusal.Size

refusal_of_number : (r : Refusal) → refusal_of (refusal_number r) ≡ r
unfolding refusal_of
refusal_of_number Refusal.Size = refl
refusal_of_number Refusal.Root = refl
refusal_of_number Refusal.Kind = refl
refusal_of_number Refusal.Unused = refl
refusal_of_number Refusal.Number = refl
refusal_of_number Refusal.List = refl
refusal_of_number Refusal.Order = refl
refusal_of_number Refusal.Parameters = refl
refusal_of_number Refusal.Undeclared = refl
refusal_of_number Refusal.Registers = refl
refusal_of_number Refusal.Else = refl
refusal_of_number Refusal.Key = refl
refusal_of_number Refusal.Code = refl
refusal_of_number Refusal.Constants = refl
refusal_of_number Refusal.Unmarked = refl
refusal_of_number Refusal.Marks = refl
refusal_of_number Refusal.Destination = refl
refusal_of_number Refusal.Sum = refl
refusal_of_number Refusal.Jump = refl

module _ (nodes : List ℕ) (root mode : ℕ) (list names code constants marks : List ℕ) where
  -- ---- Only: from lowering, 0 to 18

  number_only : {l : Lowered} → Came nodes root mode list names code constants marks l → l.result.number ≤ 18
  number_only (before h) = omega (arith, (first_number h).1)
  number_only (accepted y e r) = omega arith
  number_only (stopped y e r o) = (own_number o).1

  pub only_lowering : (lower nodes root mode list names code constants marks).result.number ≤ 18
  only_lowering = number_only (lower_came nodes root mode list names code constants marks)

  -- ---- Writes nothing: with 1 to 8 every word is as at entry, and every count is 0

  untouched : {l : Lowered} → Came nodes root mode list names code constants marks l → 1 ≤ l.result.number → l.result.number ≤ 8 → Untouched nodes root mode list names code constants marks l
  unfolding begin
  untouched (before h) a b = record { code_same = refl; constants_same = refl; marks_same = refl; no_instructions = refl; no_constants = refl }
  untouched (accepted y e r) a b = absurd (omega arith)
  untouched (stopped y e r o) a b = absurd (omega (arith, (own_number o).0))

  pub writes_nothing : 1 ≤ (lower nodes root mode list names code constants marks).result.number → (lower nodes root mode list names code constants marks).result.number ≤ 8 → Untouched nodes root mode list names code constants marks (lower nodes root mode list names code constants marks)
  writes_nothing = untouched (lower_came nodes root mode list names code constants marks)

  -- ---- Own condition of 1 to 8: the number and the place come back exactly where that question is the first one answered no, there

  own_first : {l : Lowered} → Came nodes root mode list names code constants marks l → (r : Refusal) (place : ℕ) → refusal_number r ≤ 8 → 1 ≤ refusal_number r →
      l.result.number ≡ refusal_number r → l.result.place ≡ place → FirstNo nodes list names mode root r place
  own_first (before {r = q} {place = p} h) r place a b e f =
      let same : q ≡ r = sym (refusal_of_number q) ∙ ap refusal_of e ∙ refusal_of_number r in
      subst (λ x. FirstNo nodes list names mode root x place) same (subst (λ x. FirstNo nodes list names mode root q x) f h)
  own_first (accepted y e' r') r place a b e f = absurd (omega arith)
  own_first (stopped y e' r' o) r place a b e f = absurd (omega (arith, (own_number o).0))

  pub own_condition_before : (r : Refusal) (place : ℕ) → 1 ≤ refusal_number r → refusal_number r ≤ 8 →
      (((lower nodes root mode list names code constants marks).result.number ≡ refusal_number r) × ((lower nodes root mode list names code constants marks).result.place ≡ place)) ↔ FirstNo nodes list names mode root r place
  unfolding lower lower_checked
  own_condition_before r place a b = (
    λ h. own_first (lower_came nodes root mode list names code constants marks) r place b a h.0 h.1,
    λ h. rw ((questions_refused nodes list names mode root r place).1 h) (refl, refl),
  )

  -- ---- Own condition of 9 to 18, with place and span: the walk stopped there, under that refusal's condition

  own_later : {l : Lowered} → Came nodes root mode list names code constants marks l → 9 ≤ l.result.number → Stopped nodes root mode list names code constants marks l
  own_later (before h) a = absurd (omega (arith, (first_number h).1))
  own_later (accepted y e r) a = absurd (omega arith)
  own_later (stopped {e = e} {m = m} y q r o) a = record { error = e; made = m; is = q; own = o; shown = refl }

  pub own_condition_walk : 9 ≤ (lower nodes root mode list names code constants marks).result.number → Stopped nodes root mode list names code constants marks (lower nodes root mode list names code constants marks)
  own_condition_walk = own_later (lower_came nodes root mode list names code constants marks)

  told_stops : {l : Lowered} → Came nodes root mode list names code constants marks l → (e : Error) → 9 ≤ refusal_number e.refusal → Tells nodes root mode list names code constants marks l.result e → StopsWith nodes root mode list names code constants marks e
  told_stops (before h) e a k = absurd (omega (arith, (first_number h).1, k.number))
  told_stops (accepted y q r) e a k = absurd (omega (arith, k.number))
  told_stops (stopped {e = f} {m = m} y q r o) e a k =
      let same : f.refusal ≡ e.refusal = sym (refusal_of_number f.refusal) ∙ ap refusal_of k.number ∙ refusal_of_number e.refusal in
      record { yes = y; made = m; is = q ∙ (λ i. stops (record { refusal = same i; place = k.place i; start = k.start i; end = k.end i }) m) }

  pub own_condition_exactly : (e : Error) → 9 ≤ refusal_number e.refusal → Tells nodes root mode list names code constants marks (lower nodes root mode list names code constants marks).result e ↔ StopsWith nodes root mode list names code constants marks e
  unfolding lower lower_checked lowered_of
  own_condition_exactly e a = (
    told_stops (lower_came nodes root mode list names code constants marks) e a,
    λ h. rw ((questions_passed nodes list names mode root).1 h.yes, h.is) (record { number = refl; place = refl; start = refl; end = refl }),
  )

  ended : {l : Lowered} → Came nodes root mode list names code constants marks l → l.result.number ≡ 0 → Ended nodes root mode list names code constants marks l
  ended (before h) e = absurd (omega (arith, (first_number h).0))
  ended (accepted {place = place} {m = m} y q r) e =
      let t : Tree = tree_of nodes list names in
      let from : Made = nothing_made nodes root mode list names code constants marks in
      record {
        yes = y;
        place = place;
        made = m;
        is = q;
        run = r;
        declared = λ i symbol x n. met_declared t root mode from q x n;
        has_else = λ i c a b x n. met_else t root mode from q x n;
        has_name = λ i first count x n. met_key t root mode from q x n;
        shown = refl;
      }
  ended (stopped y q r o) e = absurd (omega (arith, (own_number o).0))

  pub accepted_walk : (lower nodes root mode list names code constants marks).result.number ≡ 0 → Ended nodes root mode list names code constants marks (lower nodes root mode list names code constants marks)
  accepted_walk = ended (lower_came nodes root mode list names code constants marks)

  -- ---- Nothing beyond: every word past the counts is as at entry, and the counts fit the buffers

  same_capacity : (w : ℕ) (xs ys : List ℕ) → length xs ≡ length ys → capacity w xs ≡ capacity w ys
  unfolding capacity
  same_capacity w xs ys e = rw e

  grown_within : (r : Result) (m : Made) → Grows (nothing_made nodes root mode list names code constants marks) m → r.instructions ≡ instructions_of m → r.constants ≡ constants_of m →
      mark_count nodes root mode list names code constants marks ≡ marks_of m → Within nodes root mode list names code constants marks (lowered r m)
  unfolding begin
  grown_within r m g e f k = record {
    code_length = g.in_code.same_length;
    constants_length = g.in_constants.same_length;
    marks_length = g.in_marks.same_length;
    code_past = λ i h. g.in_code.past i (rw e at h);
    constants_past = λ i h. g.in_constants.past i (rw f at h);
    code_fits = rw (e, sym (same_capacity instruction_width m.code code g.in_code.same_length)) (g.in_code.fits (omega arith));
    code_few = rw e (g.code_few (omega arith));
    constants_fit = rw (f, sym (same_capacity constant_width m.constants constants g.in_constants.same_length)) (g.in_constants.fits (omega arith));
    marks_past = λ i h. g.in_marks.past i (omega (arith, k));
    marks_fit = subst (λ n. n ≤ capacity 1 marks) (sym k) (rw (sym (same_capacity 1 m.marks marks g.in_marks.same_length)) (g.in_marks.fits (omega arith)));
  }

  no_marks : (r : Refusal) (place : ℕ) → FirstNo nodes list names mode root r place → mark_count nodes root mode list names code constants marks ≡ 0
  no_marks r place h = ap (marks_made nodes root mode list names code constants marks) ((questions_refused nodes list names mode root r place).1 h)

  pub walk_marks : AllYes nodes list names mode root → (m : Made) →
      made_of (lower_root free_temp (tree_of nodes list names) mode root (nothing_made nodes root mode list names code constants marks)) ≡ m → mark_count nodes root mode list names code constants marks ≡ marks_of m
  walk_marks y m e = ap (marks_made nodes root mode list names code constants marks) ((questions_passed nodes list names mode root).1 y) ∙ ap (λ n. marks_of n) e

  within : {l : Lowered} → Came nodes root mode list names code constants marks l → Within nodes root mode list names code constants marks l
  unfolding begin made_of
  within (before {r = r} {place = place} h) = record {
    code_length = refl;
    constants_length = refl;
    marks_length = refl;
    code_past = λ i h. refl;
    constants_past = λ i h. refl;
    code_fits = omega arith;
    code_few = omega arith;
    constants_fit = omega arith;
    marks_past = λ i h. refl;
    marks_fit = omega (arith, no_marks r place h);
  }
  within (accepted {m = m} y e r) = grown_within _ m (runs_grow r) refl refl (walk_marks y m (ap made_of e))
  within (stopped {m = m} y e r o) = grown_within _ m (runs_grow r) refl refl (walk_marks y m (ap made_of e))

  pub nothing_beyond : Within nodes root mode list names code constants marks (lower nodes root mode list names code constants marks)
  nothing_beyond = within (lower_came nodes root mode list names code constants marks)

-- ---- Patching

module _ (words : List ℕ) (count index offset : ℕ) where
  abbrev chosen : Bool → JumpPatched
  chosen b = cond b (record { number = 0; code = put_offset words index offset }) (record { number = refusal_number Refusal.Jump; code = words })

  can_may : can_patch words count index ≡ true → MayPatch words count index offset
  unfolding can_patch
  can_may h =
      let a : Bool = ltb index count in
      let b : Bool = leb count (capacity instruction_width words) in
      let c : Bool = leb first_jump (kind words count index offset) in
      let d : Bool = leb (kind words count index offset) last_jump in
      let h3 : (a && b && c) ≡ true = and_left (a && b && c) d h in
      let h2 : (a && b) ≡ true = and_left (a && b) c h3 in
      record {
        below = ltb-true _ _ (and_left a b h2);
        within_buffer = leb-true _ _ (and_right a b h2);
        jump = record { low = leb-true _ _ (and_right (a && b) c h3); high = leb-true _ _ (and_right (a && b && c) d h) };
      }

  pub may_can : MayPatch words count index offset → can_patch words count index ≡ true
  unfolding can_patch
  may_can h = rw (lt-ltb index count h.below, le-leb count (capacity instruction_width words) h.within_buffer, le-leb first_jump (kind words count index offset) h.jump.low, le-leb (kind words count index offset) last_jump h.jump.high)

  -- Only: from patching, 0 or 19
  pub only_patching : ((patch_jump words count index offset).number ≡ 0) ⊎ ((patch_jump words count index offset).number ≡ 19)
  unfolding patch_jump
  only_patching = go (can_patch words count index)
    where
      go : (b : Bool) → ((chosen b).number ≡ 0) ⊎
          ((chosen b).number ≡ 19)
      go true = inl refl
      go false = inr refl

  -- 0 exactly where it may be patched
  pub patched_exactly : ((patch_jump words count index offset).number ≡ 0) ↔ MayPatch words count index offset
  unfolding patch_jump
  patched_exactly = (λ h. can_may (yes_of (can_patch words count index) h), λ h. rw (may_can h))
    where
      yes_of : (b : Bool) → (chosen b).number ≡ 0 → b ≡ true
      yes_of true h = refl
      yes_of false h = absurd (omega arith)

  pub refused_exactly : ((patch_jump words count index offset).number ≡ 19) ↔ MayNot words count index offset
  refused_exactly = (λ h. why h (dec_lt index count) (dec_le count (capacity instruction_width words)) (dec_le first_jump (kind words count index offset)) (dec_le (kind words count index offset) last_jump), λ h. refuses h only_patching)
    where
      why : (patch_jump words count index offset).number ≡ 19 → Dec (index < count) → Dec (count ≤ capacity instruction_width words) → Dec (first_jump ≤ kind words count index offset) → Dec (kind words count index offset ≤ last_jump) → MayNot words count index offset
      why h (no a) b c d = index_past (omega arith)
      why h (yes a) (no b) c d = count_past (omega arith)
      why h (yes a) (yes b) (no c) d = kind_below (omega arith)
      why h (yes a) (yes b) (yes c) (no d) = kind_past (omega arith)
      why h (yes a) (yes b) (yes c) (yes d) =
          let z = patched_exactly.1 (record { below = a; within_buffer = b; jump = record { low = c; high = d } }) in
          absurd (omega arith)

      not_both : MayNot words count index offset → MayPatch words count index offset → ⊥
      not_both (index_past l) p = omega (arith, p.below)
      not_both (count_past l) p = omega (arith, p.within_buffer)
      not_both (kind_below l) p = omega (arith, p.jump.low)
      not_both (kind_past l) p = omega (arith, p.jump.high)

      refuses : MayNot words count index offset → ((patch_jump words count index offset).number ≡ 0) ⊎ ((patch_jump words count index offset).number ≡ 19) → (patch_jump words count index offset).number ≡ 19
      refuses h (inl e) = absurd (not_both h (patched_exactly.0 e))
      refuses h (inr e) = e

  -- with 19 nothing is written
  pub patch_writes_nothing : (patch_jump words count index offset).number ≡ 19 → (patch_jump words count index offset).code ≡ words
  unfolding patch_jump
  patch_writes_nothing h = go (can_patch words count index) h
    where
      go : (b : Bool) → (chosen b).number ≡ 19 →
          (chosen b).code ≡ words
      go true e = absurd (omega arith)
      go false e = refl

  pub patch_writes_one : (patch_jump words count index offset).number ≡ 0 → OneWord words count index offset (patch_jump words count index offset).code
  unfolding patch_jump put_offset
  patch_writes_one h =
      let p : MayPatch words count index offset = patched_exactly.0 h in
      let small : offset_word (kind words count index offset) < 4 = offset_small (kind words count index offset) in
      let fits : instruction_width * index + instruction_width ≤ length words = room instruction_width words index (omega (arith, p.below, p.within_buffer)) in
      rw (may_can p)
      (record {
        same_length = length-set words (instruction_width * index + offset_word (kind words count index offset)) offset;
        jump = p.jump;
        inside = omega arith;
        set_there = get_or-set_same words (instruction_width * index + offset_word (kind words count index offset)) offset 0 (omega arith);
        others = λ i n. get_or-set_other words (instruction_width * index + offset_word (kind words count index offset)) i offset 0 n;
      })
