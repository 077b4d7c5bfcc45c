-- A kind and its word: each gives the other, and a test of kinds is a test of their words. Assumes nothing.
use mathlib.Core.Path.{◌≡◌, refl, sym, ◌∙◌, ap}
use mathlib.Core.Bool.{not}
use Prim.Native.Nat.{ℕ, zero, suc, ◌≤◌, ◌<◌}
use native.Mathlib.Decide.{dec_lt}
use native.Mathlib.Omega.{arith}
use lib.Dec.{eqb}
use lib.ListN.{get_or-eq_default}
use denote.Enum.Bare.{sameb}
use denote.Enum.Declared.{tag_of}
use Rattle.std.specs.Prelude.{Some, None}
use Rattle.syntax.specs.declared.kind.Kind.{Kind}
use Rattle.syntax.specs.contracts.kind.Kind.{the_type}
use Rattle.syntax.specs.Kinds.{kind_number, kind_of, kinds}

pub number_kind : (k : Kind) → kind_of (kind_number k) ≡ Some k
unfolding kind_of
number_kind Kind.Number = refl
number_kind Kind.String = refl
number_kind Kind.Boolean = refl
number_kind Kind.Nil = refl
number_kind Kind.Identifier = refl
number_kind Kind.Binary = refl
number_kind Kind.Unary = refl
number_kind Kind.LogicalNot = refl
number_kind Kind.LogicalAnd = refl
number_kind Kind.LogicalOr = refl
number_kind Kind.If = refl
number_kind Kind.Block = refl
number_kind Kind.FunctionCall = refl
number_kind Kind.PropertyAccess = refl
number_kind Kind.Map = refl

pub number_one : (k K : Kind) → kind_number k ≡ kind_number K → k ≡ K
number_one k K e = let same : Some k ≡ Some K = sym (number_kind k) ∙ ap kind_of e ∙ number_kind K in cc

-- a word up to the last kind's is that of a kind, and one past it of none
pub kind_known : (w : ℕ) → w ≤ 14 → (k : Kind) × ((kind_of w ≡ Some k) × (kind_number k ≡ w))
unfolding kind_of
kind_known zero h = (Kind.Number, (refl, refl))
kind_known (suc zero) h = (Kind.String, (refl, refl))
kind_known (suc (suc zero)) h = (Kind.Boolean, (refl, refl))
kind_known (suc (suc (suc zero))) h = (Kind.Nil, (refl, refl))
kind_known (suc (suc (suc (suc zero)))) h = (Kind.Identifier, (refl, refl))
kind_known (suc (suc (suc (suc (suc zero))))) h = (Kind.Binary, (refl, refl))
kind_known (suc (suc (suc (suc (suc (suc zero)))))) h = (Kind.Unary, (refl, refl))
kind_known (suc (suc (suc (suc (suc (suc (suc zero))))))) h = (Kind.LogicalNot, (refl, refl))
kind_known (suc (suc (suc (suc (suc (suc (suc (suc zero)))))))) h = (Kind.LogicalAnd, (refl, refl))
kind_known (suc (suc (suc (suc (suc (suc (suc (suc (suc zero))))))))) h = (Kind.LogicalOr, (refl, refl))
kind_known (suc (suc (suc (suc (suc (suc (suc (suc (suc (suc zero)))))))))) h = (Kind.If, (refl, refl))
kind_known (suc (suc (suc (suc (suc (suc (suc (suc (suc (suc (suc zero))))))))))) h = (Kind.Block, (refl, refl))
kind_known (suc (suc (suc (suc (suc (suc (suc (suc (suc (suc (suc (suc zero)))))))))))) h = (Kind.FunctionCall, (refl, refl))
kind_known (suc (suc (suc (suc (suc (suc (suc (suc (suc (suc (suc (suc (suc zero))))))))))))) h = (Kind.PropertyAccess, (refl, refl))
kind_known (suc (suc (suc (suc (suc (suc (suc (suc (suc (suc (suc (suc (suc (suc zero)))))))))))))) h = (Kind.Map, (refl, refl))
kind_known (suc (suc (suc (suc (suc (suc (suc (suc (suc (suc (suc (suc (suc (suc (suc w))))))))))))))) h = absurd (omega arith)

pub kind_past : (w : ℕ) → 15 ≤ w → kind_of w ≡ None
unfolding kind_of
kind_past w h = get_or-eq_default kinds None h

-- a word, by the kind that is read of it, or by none
module _ {w : ℕ} where
  pub kind_there : w ≤ 14 → kind_of w ≡ None → ⊥
  kind_there h e = let known = kind_known w h in let never : Some known.0 ≡ None = sym known.1.0 ∙ e in cc

  pub kind_out : kind_of w ≡ None → 15 ≤ w
  kind_out e = go (dec_lt 14 w)
    where
      go : Dec (14 < w) → 15 ≤ w
      go (yes h) = h
      go (no h) = absurd (kind_there (omega arith) e)

  module _ {k : Kind} (e : kind_of w ≡ Some k) where
    pub kind_in : w ≤ 14
    kind_in = go (dec_lt 14 w)
      where
        go : Dec (14 < w) → w ≤ 14
        go (yes h) = let never : None ≡ Some k = sym (kind_past w h) ∙ e in cc
        go (no h) = omega arith

    pub kind_number_of : kind_number k ≡ w
    kind_number_of =
        let known = kind_known w kind_in in
        let read : kind_of w ≡ Some known.0 = known.1.0 in
        let word : kind_number known.0 ≡ w = known.1.1 in
        cc

tag_number : (k : Kind) → tag_of the_type k ≡ kind_number k
tag_number Kind.Number = refl
tag_number Kind.String = refl
tag_number Kind.Boolean = refl
tag_number Kind.Nil = refl
tag_number Kind.Identifier = refl
tag_number Kind.Binary = refl
tag_number Kind.Unary = refl
tag_number Kind.LogicalNot = refl
tag_number Kind.LogicalAnd = refl
tag_number Kind.LogicalOr = refl
tag_number Kind.If = refl
tag_number Kind.Block = refl
tag_number Kind.FunctionCall = refl
tag_number Kind.PropertyAccess = refl
tag_number Kind.Map = refl

-- a kind whose word is w, and a test of it
module _ {w : ℕ} (k K : Kind) (e : kind_number k ≡ w) where
  pub same_number : sameb the_type k K ≡ eqb w (kind_number K)
  same_number = rw (tag_number k, tag_number K, e)

  pub differs_number : not (sameb the_type k K) ≡ not (eqb w (kind_number K))
  differs_number = ap not same_number

  -- what the arms of a match after that of K know of the word
  pub number_is_not : (k ≡ K → ⊥) → w ≡ kind_number K → ⊥
  number_is_not f q = f (number_one k K (e ∙ q))
