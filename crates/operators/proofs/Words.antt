-- What the word of an operator says: the operator at its place, and past the order the last one. Assumes nothing.
use Rattle.std.specs.Prelude.{Some}
use mathlib.Core.Path.{◌≡◌, refl, ◌∙◌}
use mathlib.Core.Bool.{◌||◌}
use mathlib.Core.Logic.{◌⊎◌, inl, inr}
use Prim.Native.Nat.{ℕ, zero, suc, ◌+◌, ◌≤◌, ◌<◌}
use native.Mathlib.Omega.{arith}
use native.Mathlib.Decide.{ℕ_discrete}
use lib.Dec.{leb, eqb}
use borrow.Author.Tests.{leb-true, le-leb, ne_eqb}
use Rattle.syntax.specs.declared.ops.BinaryOp.{BinaryOp}
use Rattle.syntax.specs.declared.ops.Comparison.{Comparison}
use Rattle.syntax.specs.Ops.{binary_ops, binary_op}
use Rattle.syntax.proofs.Tables.{get_or_past, five_past}
use Rattle.lowering.specs.Operators.{comparison}
use Rattle.operators.specs.Opcodes.{swaps, is_comparison}
use Rattle.operators.proofs.Compares.{some_compares}

-- past Less stands LessEqual
pub past : (w : ℕ) → 10 ≤ w → binary_op w ≡ BinaryOp.LessEqual
unfolding binary_op
past w h = get_or_past binary_ops BinaryOp.LessEqual 10 w refl (omega arith) h

-- what holds of each word and its operator
by_word : (P : ℕ → BinaryOp → Type 0) → P 0 BinaryOp.Add → P 1 BinaryOp.Subtract → P 2 BinaryOp.Multiply → P 3 BinaryOp.Divide → P 4 BinaryOp.Modulo
    → P 5 BinaryOp.Equal → P 6 BinaryOp.NotEqual → P 7 BinaryOp.Greater → P 8 BinaryOp.GreaterEqual → P 9 BinaryOp.Less
    → ((w : ℕ) → 10 ≤ w → P w BinaryOp.LessEqual) → (w : ℕ) → P w (binary_op w)
unfolding binary_op
by_word P a b c d e f g h i j k zero = a
by_word P a b c d e f g h i j k (suc zero) = b
by_word P a b c d e f g h i j k (suc (suc zero)) = c
by_word P a b c d e f g h i j k (suc (suc (suc zero))) = d
by_word P a b c d e f g h i j k (suc (suc (suc (suc zero)))) = e
by_word P a b c d e f g h i j k (suc (suc (suc (suc (suc zero))))) = f
by_word P a b c d e f g h i j k (suc (suc (suc (suc (suc (suc zero)))))) = g
by_word P a b c d e f g h i j k (suc (suc (suc (suc (suc (suc (suc zero))))))) = h
by_word P a b c d e f g h i j k (suc (suc (suc (suc (suc (suc (suc (suc zero)))))))) = i
by_word P a b c d e f g h i j k (suc (suc (suc (suc (suc (suc (suc (suc (suc zero))))))))) = j
by_word P a b c d e f g h i j k (suc (suc (suc (suc (suc (suc (suc (suc (suc (suc w)))))))))) =
    rw (past (suc (suc (suc (suc (suc (suc (suc (suc (suc (suc w)))))))))) (omega arith)) (k _ (omega arith))

pub swaps_word : (w : ℕ) → (eqb w 7 || eqb w 8) ≡ swaps (binary_op w)
unfolding swaps
swaps_word =
    by_word (λ w op. (eqb w 7 || eqb w 8) ≡ swaps op) refl refl refl refl refl refl refl refl refl refl
    (λ w h. rw (ne_eqb w 7 (omega arith), ne_eqb w 8 (omega arith)))

pub compares_word : (w : ℕ) → leb 5 w ≡ is_comparison (binary_op w)
unfolding is_comparison
compares_word = by_word (λ w op. leb 5 w ≡ is_comparison op) refl refl refl refl refl refl refl refl refl refl (λ w h. le-leb 5 w (omega arith))

-- a number is n, or what follows where it is not
or_else : (w n : ℕ) {B : Type 0} → ((w ≡ n → ⊥) → B) → (w ≡ n) ⊎ B
or_else w n {B} f = go (ℕ_discrete w n)
  where
    go : Dec (w ≡ n) → (w ≡ n) ⊎ B
    go (yes e) = inl e
    go (no e) = inr (f e)

-- n or the next
pub this_or_next : (n w : ℕ) → n ≤ w → w < n + 2 → (w ≡ n) ⊎ (w ≡ n + 1)
this_or_next n w h l = or_else w n (λ e. omega arith)

-- Subtract, Divide or Modulo
pub no_add_or_multiply : (w : ℕ) → w < 5 → ((w ≡ 0) ⊎ (w ≡ 2) → ⊥) → (w ≡ 1) ⊎ ((w ≡ 3) ⊎ (w ≡ 4))
no_add_or_multiply w l n =
    let add : (w ≡ 0 → ⊥) = λ q. n (inl q) in
    let multiply : (w ≡ 2 → ⊥) = λ q. n (inr q) in
    or_else w 1 (λ e. this_or_next 3 w (omega arith) l)

-- Less or LessEqual
pub less_or_past : (w : ℕ) → 9 ≤ w → (w ≡ 9) ⊎ (binary_op w ≡ BinaryOp.LessEqual)
less_or_past w h = or_else w 9 (λ e. past w (omega arith))

-- GreaterEqual or LessEqual
pub greater_equal_or_past : (w : ℕ) → 5 ≤ w → (w ≡ 5 → ⊥) → (w ≡ 6 → ⊥) → ((w ≡ 7) ⊎ (w ≡ 9) → ⊥) → (w ≡ 8) ⊎ (binary_op w ≡ BinaryOp.LessEqual)
greater_equal_or_past w h equal not_equal o = or_else w 8 (λ e. past w (five_past 5 h equal not_equal (λ q. o (inl q)) e (λ q. o (inr q))))

-- the comparisons start at Equal
pub first_comparison : (w : ℕ) {c : Comparison} → comparison (binary_op w) ≡ Some c → 5 ≤ w
first_comparison w e = leb-true 5 w (compares_word w ∙ some_compares (binary_op w) e)

-- an operator has one comparison
pub same : {c d : Comparison} → Some c ≡ Some d → d ≡ c
same e = cc
