-- Under IEEE 754, as the language accounts for it: addition, multiplication and equality ignore operand order, inequality is equality's opposite,
-- all of them also with a NaN; and of two numbers other than NaN exactly one of a < b and b <= a is true. Assumes nothing.
use Prim.Native.Nat.{ℕ, ◌+◌, ◌-◌, ◌*◌, ◌<◌}
use native.Mathlib.Omega.{arith}
use native.Mathlib.Nat.{add_comm, mul_comm}
use native.Mathlib.Decide.{dec_lt}
use mathlib.Core.Path.{◌≡◌, refl, ap, ap₂, ◌∙◌}
use mathlib.Core.Bool.{Bool, true, false, cond, not, ◌&&◌, ◌||◌, beq, true≢false}
use lib.Dec.{ltb, eqb}
use lib.Ieee.{Float, nan, inf, fin, Format, add, mul, sum, round, lt, le, eq, ne, is_nan, below, level, unlike, up, down}
use borrow.Author.Tests.{lt-ltb, le-ltb, eq-eqb, ne_eqb}

beq_order : (s t : Bool) → beq s t ≡ beq t s
beq_order true true = refl
beq_order true false = refl
beq_order false true = refl
beq_order false false = refl

-- two numbers, by their order
data Trio (a b : ℕ) : Type 0 where
  before : a < b → ltb a b ≡ true → ltb b a ≡ false → eqb a b ≡ false → eqb b a ≡ false → Trio a b
  same : a ≡ b → ltb a b ≡ false → ltb b a ≡ false → eqb a b ≡ true → eqb b a ≡ true → Trio a b
  behind : b < a → ltb a b ≡ false → ltb b a ≡ true → eqb a b ≡ false → eqb b a ≡ false → Trio a b

trio : (a b : ℕ) → Trio a b
trio a b = go (dec_lt a b) (dec_lt b a)
  where
    go : Dec (a < b) → Dec (b < a) → Trio a b
    go (yes h) k = before h (lt-ltb a b h) (le-ltb b a (omega arith)) (ne_eqb a b (λ e. omega arith)) (ne_eqb b a (λ e. omega arith))
    go (no h) (yes k) = behind k (le-ltb a b (omega arith)) (lt-ltb b a k) (ne_eqb a b (λ e. omega arith)) (ne_eqb b a (λ e. omega arith))
    go (no h) (no k) = same (omega arith) (le-ltb a b (omega arith)) (le-ltb b a (omega arith)) (eq-eqb a b (omega arith)) (eq-eqb b a (omega arith))

-- ---- addition

sum_order : (f : Format) (s : Bool) (a : ℕ) (t : Bool) (b c : ℕ) → sum f s a t b c ≡ sum f t b s a c
unfolding sum
sum_order f true a true b c = rw (add_comm a b)
sum_order f false a false b c = rw (add_comm a b)
sum_order f true a false b c = go (trio a b)
  where
    go : Trio a b → cond (ltb a b) (round f false (b - a) c) (round f (ltb b a) (a - b) c) ≡ cond (ltb b a) (round f true (a - b) c) (round f false (b - a) c)
    go (before h l g e q) = rw (l, g)
    go (same h l g e q) = let z : a - b ≡ b - a = omega arith in rw (l, g, z)
    go (behind h l g e q) = rw (l, g)
sum_order f false a true b c = go (trio a b)
  where
    go : Trio a b → cond (ltb a b) (round f true (b - a) c) (round f false (a - b) c) ≡ cond (ltb b a) (round f false (a - b) c) (round f (ltb a b) (b - a) c)
    go (before h l g e q) = rw (l, g)
    go (same h l g e q) = let z : a - b ≡ b - a = omega arith in rw (l, g, z)
    go (behind h l g e q) = rw (l, g)

pub add_order : (f : Format) (x y : Float) → add f x y ≡ add f y x
unfolding add
add_order f nan nan = refl
add_order f nan (inf t) = refl
add_order f nan (fin t n d) = refl
add_order f (inf s) nan = refl
add_order f (inf true) (inf true) = refl
add_order f (inf true) (inf false) = refl
add_order f (inf false) (inf true) = refl
add_order f (inf false) (inf false) = refl
add_order f (inf s) (fin t n d) = refl
add_order f (fin s m e) nan = refl
add_order f (fin s m e) (inf t) = refl
add_order f (fin s m e) (fin t n d) =
    sum_order f s (m * up e * down d) t (n * up d * down e) (down e * down d) ∙ ap (sum f t (n * up d * down e) s (m * up e * down d)) (mul_comm (down e) (down d))

-- ---- multiplication

unlike_order : (s t : Bool) → unlike s t ≡ unlike t s
unlike_order s t = ap not (beq_order s t)

pub mul_order : (f : Format) (x y : Float) → mul f x y ≡ mul f y x
unfolding mul
mul_order f nan nan = refl
mul_order f nan (inf t) = refl
mul_order f nan (fin t n d) = refl
mul_order f (inf s) nan = refl
mul_order f (inf s) (inf t) = ap inf (unlike_order s t)
mul_order f (inf s) (fin t n d) = ap (λ b. cond (eqb n 0) nan (inf b)) (unlike_order s t)
mul_order f (fin s m e) nan = refl
mul_order f (fin s m e) (inf t) = ap (λ b. cond (eqb m 0) nan (inf b)) (unlike_order s t)
mul_order f (fin s m e) (fin t n d) =
    ap (λ b. round f b (m * up e * (n * up d)) (down e * down d)) (unlike_order s t)
    ∙ ap₂ (round f (unlike t s)) (mul_comm (m * up e) (n * up d)) (mul_comm (down e) (down d))

-- ---- equality

level_order : (s : Bool) (a : ℕ) (t : Bool) (b : ℕ) → level s a t b ≡ level t b s a
level_order s a t b = go (trio a b)
  where
    go : Trio a b → (eqb a b && (beq s t || eqb a 0)) ≡ (eqb b a && (beq t s || eqb b 0))
    go (before h l g e q) = rw (e, q)
    go (same h l g e q) = rw (e, q, h, beq_order s t)
    go (behind h l g e q) = rw (e, q)

pub eq_order : (x y : Float) → eq x y ≡ eq y x
unfolding eq
eq_order nan nan = refl
eq_order nan (inf t) = refl
eq_order nan (fin t n d) = refl
eq_order (inf s) nan = refl
eq_order (inf s) (inf t) = beq_order s t
eq_order (inf s) (fin t n d) = refl
eq_order (fin s m e) nan = refl
eq_order (fin s m e) (inf t) = refl
eq_order (fin s m e) (fin t n d) = level_order s (m * up e * down d) t (n * up d * down e)

pub ne_opposite : (x y : Float) → ne x y ≡ not (eq x y)
unfolding ne
ne_opposite x y = refl

-- ---- order

positive_sum : (a b : ℕ) → Trio 0 (b + a) → (ltb 0 (b + a) || (eqb b a && eqb b 0)) ≡ true
positive_sum a b (before h l g e q) = rw l
positive_sum a b (same h l g e q) =
    let x : b ≡ 0 = omega arith in
    let y : a ≡ 0 = omega arith in
    rw (x, y)
positive_sum a b (behind h l g e q) = absurd (omega arith)

no_sum : (a b : ℕ) → Trio 0 (a + b) → (eqb b a && eqb b 0) ≡ not (ltb 0 (a + b))
no_sum a b (before h l g e q) = rw l (go (trio b a) (trio b 0))
  where
    go : Trio b a → Trio b 0 → (eqb b a && eqb b 0) ≡ false
    go (before x x1 x2 x3 x4) y = rw x3
    go (behind x x1 x2 x3 x4) y = rw x3
    go (same x x1 x2 x3 x4) (before y y1 y2 y3 y4) = absurd (omega arith)
    go (same x x1 x2 x3 x4) (same y y1 y2 y3 y4) = absurd (omega arith)
    go (same x x1 x2 x3 x4) (behind y y1 y2 y3 y4) = rw (x3, y3)
no_sum a b (same h l g e q) =
    let x : b ≡ 0 = omega arith in
    let y : a ≡ 0 = omega arith in
    rw (x, y)
no_sum a b (behind h l g e q) = absurd (omega arith)

finite_order : (s : Bool) (a : ℕ) (t : Bool) (b : ℕ) → (below t b s a || level t b s a) ≡ not (below s a t b)
finite_order false a false b = go (trio a b)
  where
    go : Trio a b → (ltb b a || (eqb b a && true)) ≡ not (ltb a b)
    go (before h l g e q) = rw (l, g, q)
    go (same h l g e q) = rw (l, g, q)
    go (behind h l g e q) = rw (l, g)
finite_order true a true b = go (trio a b)
  where
    go : Trio a b → (ltb a b || (eqb b a && true)) ≡ not (ltb b a)
    go (before h l g e q) = rw (l, g)
    go (same h l g e q) = rw (l, g, q)
    go (behind h l g e q) = rw (l, g, q)
finite_order false a true b = positive_sum a b (trio 0 (b + a))
finite_order true a false b = no_sum a b (trio 0 (a + b))

or_false : (b : Bool) → (b || false) ≡ b
or_false true = refl
or_false false = refl

not_not : (b : Bool) → b ≡ not (not b)
not_not true = refl
not_not false = refl

-- of two numbers other than NaN, one of x < y and y <= x is true and the other false
pub order : (x y : Float) → is_nan x ≡ false → is_nan y ≡ false → le y x ≡ not (lt x y)
unfolding le lt eq is_nan
order nan y p q = absurd (true≢false p)
order (inf s) nan p q = absurd (true≢false q)
order (inf true) (inf true) p q = refl
order (inf true) (inf false) p q = refl
order (inf false) (inf true) p q = refl
order (inf false) (inf false) p q = refl
order (inf s) (fin t n d) p q = or_false (not s)
order (fin s m e) nan p q = absurd (true≢false q)
order (fin s m e) (inf t) p q = or_false t ∙ not_not t
order (fin s m e) (fin t n d) p q = finite_order s (m * up e * down d) t (n * up d * down e)

-- with a NaN both are false
pub nan_order : (x : Float) → (lt nan x ≡ false) × (le x nan ≡ false)
unfolding le lt eq
nan_order nan = (refl, refl)
nan_order (inf s) = (refl, refl)
nan_order (fin s m e) = (refl, refl)
