-- `RegisterSet::take` meets its contract: the smallest free register's bit is set, so turning it over clears it. Assumes nothing.
use Rattle.std.proofs.Common.{◌≡◌, refl, sym, ◌∙◌, Bool, true, false, cond, ltb, ℕ, ◌+◌, ◌<◌, max, arith, Option, Some, None, Ok, Err}
use borrow.Author.Tests.{ltb-true}
use Rattle.diagnostics.specs.declared.Refusal.{Refusal}
use Rattle.environment.specs.declared.RegisterSet.{RegisterSet}
use Rattle.environment.specs.declared.Taken.{Taken}
use Rattle.environment.specs.Registers.{free, smallest_free, without, taken, given_back}
use Rattle.environment.proofs.Free.{smallest_free_free, put_back_free}
use Rattle.environment.proofs.RegisterSet.take.Goals as goal

-- what it answers at the smallest free register r, which t has turned over, with frame f, and where there is none
module _ (s : RegisterSet) {o : Option ℕ} (is : o ≡ cond (ltb (smallest_free s.words) 256) (Some (smallest_free s.words)) None) where
  taken_at : {t : RegisterSet} {r f : ℕ} → o ≡ Some r → t ≡ given_back s r → f ≡ max s.frame_size (r + 1) →
      ◌≡◌ {A = Taken ℕ} (record { set = record { words = t.words; frame_size = f }; register = Ok r }) (taken s)
  unfolding taken without given_back
  taken_at {t} {r} {f} e q m = go (ltb (smallest_free s.words) 256) refl (sym e ∙ is)
    where
      go : (b : Bool) → ltb (smallest_free s.words) 256 ≡ b → Some r ≡ cond b (Some (smallest_free s.words)) None →
          ◌≡◌ {A = Taken ℕ} (record { set = record { words = t.words; frame_size = f }; register = Ok r }) (taken s)
      go true h p =
          let l : smallest_free s.words < 256 = ltb-true _ _ h in
          let z : r ≡ smallest_free s.words = cc in
          let there : free s.words (smallest_free s.words) ≡ true = smallest_free_free s.words l in
          rw (q, m, z, h, put_back_free s.words (smallest_free s.words) there)
      go false h p = let z : ◌≡◌ {A = ℕ} 0 1 = cc in absurd (omega arith)

  taken_none : o ≡ None → ◌≡◌ {A = Taken ℕ} (record { set = s; register = Err Refusal.Registers }) (taken s)
  unfolding taken
  taken_none e = go (ltb (smallest_free s.words) 256) refl (sym e ∙ is)
    where
      go : (b : Bool) → ltb (smallest_free s.words) 256 ≡ b → None ≡ cond b (Some (smallest_free s.words)) None →
          ◌≡◌ {A = Taken ℕ} (record { set = s; register = Err Refusal.Registers }) (taken s)
      go true h p = let z : ◌≡◌ {A = ℕ} 0 1 = cc in absurd (omega arith)
      go false h p = rw h

pub returns : goal.returns
returns c = taken_at c.args.self c.smallest_free.ensures c.in-Some.is c.give_back-flipped.ensures (omega arith)

pub returns-in_default : goal.returns-in_default
returns-in_default c = taken_none c.args.self c.smallest_free.ensures c.in_default.is
