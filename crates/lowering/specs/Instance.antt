-- Two sets of operators: numbers, strings, booleans and nil with IEEE 754 arithmetic, where an operator without an answer for its operands fails; and two
-- values, with no failure at all.
use Rattle.std.specs.Prelude.{ℕ, Bool, true, false, not, ◌&&◌, ◌||◌, eqb, Float}
use Rattle.std.specs.Bool.{beq}
use Rattle.std.specs.Float.{binary64}
use Rattle.std.specs.Float.Ieee.{add, sub, mul, div, rem, neg, lt, le, eq}
use Rattle.lowering.specs.Meaning.{Answer, val, fail, Unary, negate, deref, invert, Binary, subtract, multiply, divide, modulo, property, Compare, equal, unequal, less, less_equal, Operators}

pub data Datum : Type 0 where
  number : Float → Datum
  string : ℕ → Datum
  boolean : Bool → Datum
  nil : Datum

-- an operator that has no answer for its operands
pub data Mismatch : Type 0 where
  mismatch : Mismatch

unfoldable pub ieee_unary : Unary → Datum → Answer Mismatch Datum
ieee_unary negate (number x) = val (number (neg x))
ieee_unary negate (string s) = fail mismatch
ieee_unary negate (boolean b) = fail mismatch
ieee_unary negate nil = fail mismatch
ieee_unary deref v = fail mismatch
ieee_unary invert (number x) = fail mismatch
ieee_unary invert (string s) = fail mismatch
ieee_unary invert (boolean b) = val (boolean (not b))
ieee_unary invert nil = fail mismatch

-- both numbers, or a mismatch
unfoldable pub on_numbers : {A : Type 0} → (Float → Float → A) → Datum → Datum → Answer Mismatch A
on_numbers f (number x) (number y) = val (f x y)
on_numbers f (number x) (string t) = fail mismatch
on_numbers f (number x) (boolean c) = fail mismatch
on_numbers f (number x) nil = fail mismatch
on_numbers f (string s) v = fail mismatch
on_numbers f (boolean b) v = fail mismatch
on_numbers f nil v = fail mismatch

unfoldable pub ieee_binary : Binary → Datum → Datum → Answer Mismatch Datum
ieee_binary Binary.add a b = on_numbers (λ x y. number (add binary64 x y)) a b
ieee_binary subtract a b = on_numbers (λ x y. number (sub binary64 x y)) a b
ieee_binary multiply a b = on_numbers (λ x y. number (mul binary64 x y)) a b
ieee_binary divide a b = on_numbers (λ x y. number (div binary64 x y)) a b
ieee_binary modulo a b = on_numbers (λ x y. number (rem binary64 x y)) a b
ieee_binary property a b = fail mismatch

-- numbers are compared as IEEE 754 does; values of different kinds are not equal
unfoldable pub alike : Datum → Datum → Bool
alike (number x) (number y) = eq x y
alike (number x) (string t) = false
alike (number x) (boolean c) = false
alike (number x) nil = false
alike (string s) (number y) = false
alike (string s) (string t) = eqb s t
alike (string s) (boolean c) = false
alike (string s) nil = false
alike (boolean b) (number y) = false
alike (boolean b) (string t) = false
alike (boolean b) (boolean c) = beq b c
alike (boolean b) nil = false
alike nil (number y) = false
alike nil (string t) = false
alike nil (boolean c) = false
alike nil nil = true

unfoldable pub ieee_compare : Compare → Datum → Datum → Answer Mismatch Bool
ieee_compare equal a b = val (alike a b)
ieee_compare unequal a b = val (not (alike a b))
ieee_compare less a b = on_numbers lt a b
ieee_compare less_equal a b = on_numbers le a b

unfoldable pub ieee_test : Datum → Answer Mismatch Bool
ieee_test (number x) = fail mismatch
ieee_test (string s) = fail mismatch
ieee_test (boolean b) = val b
ieee_test nil = fail mismatch

abbrev pub ieee : Operators
ieee = record {
  Value = Datum;
  Failure = Mismatch;
  number = number;
  string = string;
  boolean = boolean;
  nil = nil;
  unary = ieee_unary;
  binary = ieee_binary;
  compare = ieee_compare;
  test = ieee_test;
}

abbrev pub unfailing : Operators
unfailing = record {
  Value = Bool;
  Failure = ⊥;
  number = λ x. true;
  string = λ s. true;
  boolean = λ b. b;
  nil = false;
  unary = λ o a. val (not a);
  binary = λ o a b. val (a && b);
  compare = λ o a b. elim o [ equal ↦ val (beq a b) | unequal ↦ val (not (beq a b)) | less ↦ val (not a && b) | less_equal ↦ val (not a || b) ];
  test = λ a. val a;
}
