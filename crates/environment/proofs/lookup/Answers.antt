-- `lookup` meets its contract: the place of the last name that is the one says which register. Assumes nothing.
use Rattle.std.proofs.Common.{◌≡◌, refl, sym, ◌∙◌, Bool, true, false, cond, List, ℕ, zero, suc, eqb, get_or, Option, Some, None, Result, Ok, Err}
use Rattle.std.specs.Option.{MatchOption, IsSomeAnd, ok_or}
use Rattle.words.specs.Words.{words}
use Rattle.words.specs.Records.{last_position}
use Rattle.diagnostics.specs.declared.Refusal.{Refusal}
use Rattle.environment.specs.declared.Register.{Register}
use Rattle.environment.specs.Environment.{lookup}
use Rattle.environment.proofs.lookup.Goals as goal

-- the register of a place
abbrev local : Option ℕ → Result Register Refusal
local (Some place) = Ok (Register.Local place)
local None = Err Refusal.Undeclared

lookup_place : (names : List ℕ) (n x : ℕ) → lookup names n x ≡ local (last_position names n x)
unfolding lookup last_position
lookup_place names zero x = refl
lookup_place names (suc n) x = go (eqb (get_or names n 0) x) (lookup_place names n x)
  where
    go : (b : Bool) → lookup names n x ≡ local (last_position names n x) →
        cond b (Ok (Register.Local n)) (lookup names n x) ≡ local (cond b (Some n) (last_position names n x))
    go true ih = refl
    go false ih = ih

answer : (o : Option ℕ) (m : Option Register) → MatchOption o (m ≡ None) (λ x. IsSomeAnd m (λ r. r ≡ Register.Local x)) → ok_or m Refusal.Undeclared ≡ local o
answer (Some x) (Some r) h = rw h
answer (Some x) None h = elim h [ ]
answer None m h = rw h

pub returns : goal.returns
returns c =
    let names = words c.args.names.now in
    let place : c.ok_or.result ≡ local c.last_position.result = c.ok_or.ensures.value ∙ answer _ _ c.map.ensures.cases in
    place ∙ rw c.last_position.ensures (sym (lookup_place names c.args.arity c.args.name))
