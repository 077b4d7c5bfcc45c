-- A walk that ends has met no name that is not declared, no if without an else, and no key without a value that is no name: the walk of a node that
-- meets one never ends. Assumes nothing.
use Rattle.std.specs.Prelude.{Option, Some, None, Result, Ok, Err}
use Rattle.diagnostics.specs.declared.Refusal.{Refusal}
use Prim.Native.Nat.{ℕ, zero, suc, ◌+◌, ◌*◌, ◌≤◌, ◌<◌}
use native.Mathlib.Omega.{arith}
use native.Mathlib.Decide.{ℕ_discrete}
use mathlib.Core.Path.{◌≡◌, refl, sym, ap, ◌∙◌, subst}
use mathlib.Core.Logic.{◌≢◌, ◌⊎◌, inl, inr}
use mathlib.Core.Bool.{Bool, true, false}
use lib.Dec.{eqb}
use lib.ListN.{length, get_or}
use borrow.Author.Tests.{eq-eqb, ne_eqb}
use Rattle.diagnostics.specs.declared.Error.{Error}
use Rattle.environment.specs.declared.Register.{Register}
use Rattle.environment.specs.Environment.{lookup}
use Rattle.environment.specs.Laws.{Last}
use Rattle.environment.proofs.Laws.{lookup_found}
use Rattle.syntax.specs.declared.ast.Node.{Node}
use Rattle.syntax.specs.declared.ops.Comparison.{Comparison}
use Rattle.syntax.specs.Ast.{absent}
use Rattle.runtime.specs.declared.operand.Operand.{Operand}
use Rattle.lowering.specs.Tree.{Tree, node}
use Rattle.lowering.specs.Walk.{Made, Outcome, ends, stops, Walk, bind, ◌>>=◌}
use Rattle.lowering.specs.Steps.{free_temp}
use Rattle.lowering.specs.Operators.{comparison}
use Rattle.lowering.specs.Lower.{name_of, lower_materializing, lower_name, lower_arguments, lower_entry, lower_entries, lower_else, lower_tail, lower_node, test, fuse, jump_node, expression_below, jump_below, lower_expression, lower_jump_if_false, lower_jump_if_true}
use Rattle.lowering.specs.Result.{lower_root}
use Rattle.lowering.specs.Meets.{Part, left, right, operand, negated, and_left, and_right, or_left, or_right, condition, then_part, else_part, tail, argument, called, object, key, value, Meets, here, below}

-- a walk that never ends
record Never {A : Type 0} (w : Walk A) : Type 0 where
  pub never : (m n : Made) (a : A) → w m ≢ ends a n

ended : {A : Type 0} → Outcome A → ℕ
ended (ends a m) = 1
ended (stops e m) = 0

pub stop_end : {A : Type 0} {e : Error} {m n : Made} {a : A} → ◌≡◌ {A = Outcome A} (stops e m) (ends a n) → ⊥
unfolding ended
stop_end {A} z = let w : ◌≡◌ {A = ℕ} 0 1 = ap ended z in omega arith

refused : {A : Type 0} {e : Error} → Never {A = A} (λ m. stops e m)
refused = record { never = λ m n a z. stop_end z }

never_left : {A B : Type 0} {w : Walk A} (k : A → Walk B) → Never w → Never (w >>= k)
unfolding bind
never_left {A} {B} {w} k h = record { never = λ m n b e. go m n b (w m) refl e }
  where
    go : (m n : Made) (b : B) (o : Outcome A) → w m ≡ o → bind o k ≡ ends b n → ⊥
    go m n b (ends a m1) q z = h.never m m1 a q
    go m n b (stops f m1) q z = stop_end z

never_right : {A B : Type 0} (w : Walk A) {k : A → Walk B} → ((a : A) → Never (k a)) → Never (w >>= k)
unfolding bind
never_right {A} {B} w {k} h = record { never = λ m n b e. go n b (w m) e }
  where
    go : (n : Made) (b : B) (o : Outcome A) → bind o k ≡ ends b n → ⊥
    go n b (ends a m1) z = (h a).never m1 n b z
    go n b (stops f m1) z = stop_end z

-- what is met and may not be
pub data Bad (t : Tree) : Node → Type 0 where
  undeclared : {symbol : ℕ} → ((j : ℕ) → j < length t.names → get_or t.names j 0 ≢ symbol) → Bad t (Node.Identifier symbol)
  without_else : {c a : ℕ} → Bad t (Node.If c a absent)
  no_value : {first count : ℕ} (k : ℕ) → k < count → name_of (node t (get_or t.list (first + 2 * k) 0)) ≡ None →
      get_or t.list (first + 2 * k + 1) 0 ≡ absent → Bad t (Node.Map first count)

module _ (t : Tree) (E : ℕ → Option Register → Walk Operand) where
  never_entries : (d : Register) (first j : ℕ) →
      Never (lower_entry t E d (get_or t.list (first + 2 * j) 0) (get_or t.list (first + 2 * j + 1) 0) (name_of (node t (get_or t.list (first + 2 * j) 0)))) →
      (n k : ℕ) → k ≤ j → j < k + n → Never (lower_entries t E d first n k)
  unfolding lower_entries
  never_entries d first j h zero k a b = absurd (omega arith)
  never_entries d first j h (suc n) k a b = go (ℕ_discrete j k) (λ x y. never_entries d first j h n (suc k) x y)
    where
      go : Dec (j ≡ k) → (suc k ≤ j → j < suc k + n → Never (lower_entries t E d first n (suc k))) → Never (lower_entries t E d first (suc n) k)
      go (yes e) f = never_left _ (subst
          (λ x. Never (lower_entry t E d (get_or t.list (first + 2 * x) 0) (get_or t.list (first + 2 * x + 1) 0) (name_of (node t (get_or t.list (first + 2 * x) 0))))) e h)
      go (no e) f = never_right _ (λ x. f (omega arith) (omega arith))

  -- the node itself
  never_bad : {n : Node} → Bad t n → (J : ℕ → Walk ℕ) (i : ℕ) (dest : Option Register) → Never (lower_node free_temp t E J i n dest)
  unfolding lower_node lower_name lower_else lower_entry
  never_bad (undeclared {symbol = symbol} h) J i dest = go (lookup t.names (length t.names) symbol) refl
    where
      go : (f : Result Register Refusal) → lookup t.names (length t.names) symbol ≡ f → Never (lower_name t i f dest)
      go (Ok r) e = let k : Last t.names (length t.names) symbol r = lookup_found t.names (length t.names) symbol r e in absurd (h k.index k.in_range k.named)
      go (Err refusal) e = refused
  never_bad without_else J i dest = never_right _ (λ j. never_right _ (λ d. never_right _ (λ r. never_right _ (λ e. never_right _ (λ u. never_left _ refused)))))
  never_bad (no_value {first = first} {count = count} k h e f) J i dest =
      never_right _ (λ d. never_right _ (λ p. never_left _ (never_entries d first k (entry d) count 0 (omega arith) (omega arith))))
    where
      entry : (d : Register) → Never (lower_entry t E d (get_or t.list (first + 2 * k) 0) (get_or t.list (first + 2 * k + 1) 0) (name_of (node t (get_or t.list (first + 2 * k) 0))))
      entry d = rw (e, eq-eqb (get_or t.list (first + 2 * k + 1) 0) absent f) refused

  -- a part of it, whose walk never ends
  module _ (c : ℕ) (h : (d : Option Register) → Never (E c d)) where
    never_made : (d : Option Register) → Never (lower_materializing (E c) d)
    unfolding lower_materializing
    never_made d = never_left _ (h d)

    never_arguments : (i first j : ℕ) → get_or t.list (first + j) 0 ≡ c → (n k : ℕ) → k ≤ j → j < k + n → Never (lower_arguments t E i first n k)
    unfolding lower_arguments
    never_arguments i first j e zero k a b = absurd (omega arith)
    never_arguments i first j e (suc n) k a b = go (ℕ_discrete j k) (λ x y. never_arguments i first j e n (suc k) x y)
      where
        go : Dec (j ≡ k) → (suc k ≤ j → j < suc k + n → Never (lower_arguments t E i first n (suc k))) → Never (lower_arguments t E i first (suc n) k)
        go (yes q) f = never_left _ (subst (λ x. Never (lower_materializing (E x) (Some (Register.Local k)))) (sym e ∙ ap (λ x. get_or t.list (first + x) 0) q) (never_made (Some (Register.Local k))))
        go (no q) f = never_right _ (λ x. never_right _ (λ y. f (omega arith) (omega arith)))

    never_key : (d : Register) (v : ℕ) (o : Option ℕ) → (o ≡ None) ⊎ (v ≡ absent) → Never (lower_entry t E d c v o)
    unfolding lower_entry
    never_key d v None q = go (eqb v absent) refl
      where
        go : (b : Bool) → eqb v absent ≡ b → Never (lower_entry t E d c v None)
        go true e = rw e refused
        go false e = rw e (never_left _ (h None))
    never_key d v (Some name) (inl e) = let z : ◌≡◌ {A = ℕ} 0 1 = cc in absurd (omega arith)
    never_key d v (Some name) (inr e) = rw (eq-eqb v absent e) (never_left _ (never_made None))

    never_value : (d : Register) (k : ℕ) (o : Option ℕ) → c ≢ absent → Never (lower_entry t E d k c o)
    unfolding lower_entry
    never_value d k None e = rw (ne_eqb c absent e) (never_right _ (λ x. never_left _ (h None)))
    never_value d k (Some name) e = rw (ne_eqb c absent e) (never_left _ (h None))

  never_part : {n : Node} {c : ℕ} → Part t n c → ((d : Option Register) → Never (E c d)) → (J : ℕ → Walk ℕ) → Never (J c) → (i : ℕ) (dest : Option Register) →
      Never (lower_node free_temp t E J i n dest)
  unfolding lower_node lower_else lower_tail
  never_part left h J j i dest = never_right _ (λ d. never_left _ (h None))
  never_part right h J j i dest = never_right _ (λ d. never_right _ (λ x. never_left _ (h None)))
  never_part {c = c} operand h J j i dest = never_right _ (λ d. never_left _ (never_made c h None))
  never_part {c = c} negated h J j i dest = never_right _ (λ d. never_left _ (never_made c h None))
  never_part {c = c} and_left h J j i dest = never_right _ (λ d. never_left _ (never_made c h (Some d)))
  never_part {c = c} and_right h J j i dest = never_right _ (λ d. never_right _ (λ x. never_right _ (λ y. never_left _ (never_made c h (Some d)))))
  never_part {c = c} or_left h J j i dest = never_right _ (λ d. never_left _ (never_made c h (Some d)))
  never_part {c = c} or_right h J j i dest = never_right _ (λ d. never_right _ (λ x. never_right _ (λ y. never_left _ (never_made c h (Some d)))))
  never_part condition h J j i dest = never_left _ j
  never_part {c = c} then_part h J j i dest = never_right _ (λ x. never_right _ (λ d. never_left _ (never_made c h (Some d))))
  never_part {c = c} (else_part e) h J j i dest =
      rw (ne_eqb c absent e) (never_right _ (λ x. never_right _ (λ d. never_right _ (λ r. never_right _ (λ p. never_right _ (λ u. never_left _ (never_made c h (Some d))))))))
  never_part {c = c} (tail e) h J j i dest = rw (ne_eqb c absent e) (never_right _ (λ d. never_left _ (never_made c h (Some d))))
  never_part {c = c} (argument {first = first} {count = count} k l) h J j i dest =
      never_left _ (never_arguments c h i first k refl count 0 (omega arith) (omega arith))
  never_part {c = c} called h J j i dest = never_right _ (λ u. never_right _ (λ d. never_left _ (never_made c h None)))
  never_part {c = c} object h J j i dest = never_right _ (λ d. never_left _ (never_made c h None))
  never_part {c = c} (key {first = first} {count = count} k l q) h J j i dest =
      never_right _ (λ d. never_right _ (λ p. never_left _ (never_entries d first k (never_key c h d _ _ q) count 0 (omega arith) (omega arith))))
  never_part {c = c} (value {first = first} {count = count} k l q) h J j i dest =
      never_right _ (λ d. never_right _ (λ p. never_left _ (never_entries d first k (never_value c h d _ _ q) count 0 (omega arith) (omega arith))))

  -- as a condition
  module _ (sense : Bool) (own : Option Register → Walk Operand) (o : (d : Option Register) → Never (own d)) where
    never_tested : Never (test t E sense own)
    unfolding test lower_materializing
    never_tested = never_left _ (never_left _ (o None))

    never_fused : (c : Option Comparison) (l r : ℕ) → ((d : Option Register) → Never (E l d)) ⊎ ((d : Option Register) → Never (E r d)) → Never (fuse t E sense own c l r)
    unfolding fuse
    never_fused None l r h = never_tested
    never_fused (Some c) l r (inl h) = never_left _ (h None)
    never_fused (Some c) l r (inr h) = never_right _ (λ x. never_left _ (h None))

    never_jump_bad : {n : Node} → Bad t n → Never (jump_node t E sense own n)
    unfolding jump_node
    never_jump_bad (undeclared h) = never_tested
    never_jump_bad without_else = never_tested
    never_jump_bad (no_value k h e f) = never_tested

    never_jump : {n : Node} {c : ℕ} → Part t n c → ((d : Option Register) → Never (E c d)) → Never (jump_node t E sense own n)
    unfolding jump_node
    never_jump (left {operator = operator} {l = l} {r = r}) h = never_fused (comparison operator) l r (inl h)
    never_jump (right {operator = operator} {l = l} {r = r}) h = never_fused (comparison operator) l r (inr h)
    never_jump operand h = never_tested
    never_jump negated h = never_tested
    never_jump and_left h = never_tested
    never_jump and_right h = never_tested
    never_jump or_left h = never_tested
    never_jump or_right h = never_tested
    never_jump condition h = never_tested
    never_jump then_part h = never_tested
    never_jump (else_part e) h = never_tested
    never_jump (tail e) h = never_tested
    never_jump (argument k l) h = never_tested
    never_jump called h = never_tested
    never_jump object h = never_tested
    never_jump (key k l q) h = never_tested
    never_jump (value k l q) h = never_tested

module _ (t : Tree) where
  mutual
    unfolding expression_below jump_below

    never_below : {i j : ℕ} → Meets t i j → Bad t (node t j) → (f : ℕ) (dest : Option Register) → Never (expression_below free_temp t f i dest)
    never_below m b zero dest = refused
    never_below {i = i} here b (suc f) dest = never_bad t (expression_below free_temp t f) b (jump_below free_temp t f) i dest
    never_below {i = i} (below p m) b (suc f) dest =
        never_part t (expression_below free_temp t f) p (λ d. never_below m b f d) (jump_below free_temp t f) (never_jump_below m b f) i dest

    never_jump_below : {i j : ℕ} → Meets t i j → Bad t (node t j) → (f : ℕ) → Never (jump_below free_temp t f i)
    never_jump_below m b zero = refused
    never_jump_below {i = i} here b (suc f) =
        never_jump_bad t (expression_below free_temp t f) false (λ d. lower_node free_temp t (expression_below free_temp t f) (jump_below free_temp t f) i (node t i) d)
        (λ d. never_bad t (expression_below free_temp t f) b (jump_below free_temp t f) i d) b
    never_jump_below {i = i} (below p m) b (suc f) =
        never_jump t (expression_below free_temp t f) false (λ d. lower_node free_temp t (expression_below free_temp t f) (jump_below free_temp t f) i (node t i) d)
        (λ d. never_part t (expression_below free_temp t f) p (λ e. never_below m b f e) (jump_below free_temp t f) (never_jump_below m b f) i d) p (λ e. never_below m b f e)

  never_root : {root j : ℕ} → Meets t root j → Bad t (node t j) → (mode : ℕ) → Never (lower_root free_temp t mode root)
  unfolding lower_root lower_expression lower_jump_if_false lower_jump_if_true lower_materializing
  never_root {root = root} m b zero = never_left _ (never_left _ (never_below m b (suc root) None))
  never_root {root = root} m b (suc zero) = never_left _ (never_jump_below m b (suc root))
  never_root {root = root} here b (suc (suc mode)) =
      never_left _ (never_jump_bad t (λ n d. expression_below free_temp t (suc n) n d) true (λ d. expression_below free_temp t (suc root) root d) (λ d. never_below here b (suc root) d) b)
  never_root {root = root} (below {j = c} p m) b (suc (suc mode)) =
      never_left _ (never_jump t (λ n d. expression_below free_temp t (suc n) n d) true (λ d. expression_below free_temp t (suc root) root d)
      (λ d. never_below (below p m) b (suc root) d) p (λ d. never_below m b (suc c) d))

  -- What a walk that ends has met: 9, 11 and 12 were answered yes.
  module _ (root mode : ℕ) (from : Made) {to : Made} {place : ℕ} (e : lower_root free_temp t mode root from ≡ ends place to) where
    pub met_fine : {i : ℕ} → Meets t root i → Bad t (node t i) → ⊥
    met_fine m b = (never_root m b mode).never from to place e

    pub met_declared : {i symbol : ℕ} → Meets t root i → node t i ≡ Node.Identifier symbol → (j : ℕ) × (j < length t.names) × (get_or t.names j 0 ≡ symbol)
    met_declared {symbol = symbol} m q = go (search (length t.names))
      where
        search : (n : ℕ) → ((j : ℕ) × (j < n) × (get_or t.names j 0 ≡ symbol)) ⊎ ((j : ℕ) → j < n → get_or t.names j 0 ≢ symbol)
        search zero = inr (λ j l. absurd (omega arith))
        search (suc n) = one (ℕ_discrete (get_or t.names n 0) symbol) (search n)
          where
            one : Dec (get_or t.names n 0 ≡ symbol) → ((j : ℕ) × (j < n) × (get_or t.names j 0 ≡ symbol)) ⊎ ((j : ℕ) → j < n → get_or t.names j 0 ≢ symbol) →
                ((j : ℕ) × (j < suc n) × (get_or t.names j 0 ≡ symbol)) ⊎ ((j : ℕ) → j < suc n → get_or t.names j 0 ≢ symbol)
            one (yes x) s = inl (n, omega arith, x)
            one (no x) (inl (j, l, y)) = inl (j, omega arith, y)
            one (no x) (inr f) = inr (λ j l. last j l (ℕ_discrete j n))
              where
                last : (j : ℕ) → j < suc n → Dec (j ≡ n) → get_or t.names j 0 ≢ symbol
                last j l (yes y) = rw y x
                last j l (no y) = f j (omega arith)

        go : ((j : ℕ) × (j < length t.names) × (get_or t.names j 0 ≡ symbol)) ⊎ ((j : ℕ) → j < length t.names → get_or t.names j 0 ≢ symbol) →
            (j : ℕ) × (j < length t.names) × (get_or t.names j 0 ≡ symbol)
        go (inl x) = x
        go (inr f) = absurd (met_fine m (rw q (undeclared f)))

    pub met_else : {i c a b : ℕ} → Meets t root i → node t i ≡ Node.If c a b → b ≢ absent
    met_else {c = c} {a = a} m q z = met_fine m (rw (q, z) without_else)

    pub met_key : {i first count : ℕ} → Meets t root i → node t i ≡ Node.Map first count → (k : ℕ) → k < count → get_or t.list (first + 2 * k + 1) 0 ≡ absent →
        (name : ℕ) × (name_of (node t (get_or t.list (first + 2 * k) 0)) ≡ Some name)
    met_key {first = first} m q k l z = go (name_of (node t (get_or t.list (first + 2 * k) 0))) refl
      where
        go : (o : Option ℕ) → name_of (node t (get_or t.list (first + 2 * k) 0)) ≡ o → (name : ℕ) × (name_of (node t (get_or t.list (first + 2 * k) 0)) ≡ Some name)
        go (Some name) e = (name, e)
        go None e = absurd (met_fine m (rw q (no_value k l e z)))
