-- Where every node names lower ones only, as question 7 asks, the bound in the meaning of a tree makes no difference: the value of a node, its
-- size and what is asked on its way are those of its kind, by the same of the nodes that it names. Assumes nothing.
use Prim.Native.Nat.{ℕ, zero, suc, ◌+◌, ◌<◌}
use native.Mathlib.Omega.{arith}
use mathlib.Core.Path.{◌≡◌, refl, ap, ap₂}
use mathlib.Core.Bool.{Bool, true, false, cond}
use mathlib.Core.List.{List, [], ◌∷◌}
use lib.Dec.{eqb}
use Rattle.syntax.specs.declared.ast.Node.{Node}
use Rattle.syntax.specs.Ast.{absent}
use Rattle.lowering.specs.Tree.{Tree, node, present, children}
use Rattle.lowering.specs.Checked.{Falls}
use Rattle.lowering.specs.Meaning.{Operators, evaluates, undefined, Evaluations, node_value, value_below, value_at, Chosen, condition_asks, node_asks, condition_asks_below, asks_below, OrderPremise, Named, first, later, node_size, total, size_below, size_at}

-- a node that may be absent
present_same : {A : Type 0} (i : ℕ) (x u v : A) → (Named i (present i) → u ≡ v) → cond (eqb i absent) x u ≡ cond (eqb i absent) x v
unfolding present
present_same {A} i x u v h = go (eqb i absent) h
  where
    go : (b : Bool) → (Named i (cond b [] (i ∷ [])) → u ≡ v) → cond b x u ≡ cond b x v
    go true h = refl
    go false h = h first

module _ (M : Operators) (t : Tree) (args : ℕ → M.Value) where
  value_same : (W X : Evaluations M) (n : Node) → ((c : ℕ) → Named c (children t.list n) → W c ≡ X c) → node_value M t args W n ≡ node_value M t args X n
  unfolding node_value children
  value_same W X (Node.Number low high) h = refl
  value_same W X (Node.String symbol) h = refl
  value_same W X (Node.Boolean b) h = refl
  value_same W X Node.Nil h = refl
  value_same W X (Node.Identifier symbol) h = refl
  value_same W X (Node.Binary op l r) h = rw (h l first, h r (later first))
  value_same W X (Node.Unary op x) h = rw (h x first)
  value_same W X (Node.LogicalNot x) h = rw (h x first)
  value_same W X (Node.LogicalAnd l r) h = rw (h l first, h r (later first))
  value_same W X (Node.LogicalOr l r) h = rw (h l first, h r (later first))
  value_same W X (Node.If c th el) h =
      rw (h c first, h th (later first), present_same el undefined (W el) (X el) (λ n. h el (later (later n))))
  value_same W X (Node.Block tail) h = present_same tail (evaluates M.nil) (W tail) (X tail) (h tail)
  value_same W X (Node.FunctionCall callee start count) h = refl
  value_same W X (Node.PropertyAccess x symbol) h = rw (h x first)
  value_same W X (Node.Map start count) h = refl

  value_bound : (n : ℕ) → Falls n t → (f g i : ℕ) → i < n → i < f → i < g → value_below M t args f i ≡ value_below M t args g i
  unfolding value_below
  value_bound n falls zero g i o a b = absurd (omega arith)
  value_bound n falls (suc f) zero i o a b = absurd (omega arith)
  value_bound n falls (suc f) (suc g) i o a b =
      value_same (λ n. value_below M t args f n) (λ n. value_below M t args g n) (node t i)
      (λ c x. let l : c < i = falls i c o x in value_bound n falls f g c (omega arith) (omega arith) (omega arith))

  -- the value of a node, by the nodes that it names
  pub value_at_lem : (n : ℕ) → Falls n t → (i : ℕ) → i < n → value_at M t args i ≡ node_value M t args (value_at M t args) (node t i)
  unfolding value_at value_below
  value_at_lem n falls i o =
      value_same (λ n. value_below M t args i n) (λ n. value_below M t args (suc n) n) (node t i)
      (λ c x. let l : c < i = falls i c o x in value_bound n falls i (suc c) c (omega arith) l (omega arith))

  chosen_present : (i : ℕ) {A B : Type 0} → (Named i (present i) → A ≡ B) → Chosen M t args (eqb i absent) (Unit {0}) A ≡ Chosen M t args (eqb i absent) (Unit {0}) B
  unfolding present
  chosen_present i {A} {B} h = go (eqb i absent) h
    where
      go : (b : Bool) → (Named i (cond b [] (i ∷ [])) → A ≡ B) → Chosen M t args b (Unit {0}) A ≡ Chosen M t args b (Unit {0}) B
      go true h = refl
      go false h = h first

  condition_same : (W X : Evaluations M) (n : Node) → ((c : ℕ) → Named c (children t.list n) → W c ≡ X c) → condition_asks M t args W n ≡ condition_asks M t args X n
  unfolding condition_asks children
  condition_same W X (Node.Number low high) h = refl
  condition_same W X (Node.String symbol) h = refl
  condition_same W X (Node.Boolean b) h = refl
  condition_same W X Node.Nil h = refl
  condition_same W X (Node.Identifier symbol) h = refl
  condition_same W X (Node.Binary op l r) h = rw (h l first, h r (later first))
  condition_same W X (Node.Unary op x) h = refl
  condition_same W X (Node.LogicalNot x) h = refl
  condition_same W X (Node.LogicalAnd l r) h = refl
  condition_same W X (Node.LogicalOr l r) h = refl
  condition_same W X (Node.If c th el) h = refl
  condition_same W X (Node.Block tail) h = refl
  condition_same W X (Node.FunctionCall callee start count) h = refl
  condition_same W X (Node.PropertyAccess x symbol) h = refl
  condition_same W X (Node.Map start count) h = refl

  module _ (W X : Evaluations M) (A B C D : ℕ → Type 0) where
    asks_same : (n : Node) → ((c : ℕ) → Named c (children t.list n) → W c ≡ X c) → ((c : ℕ) → Named c (children t.list n) → A c ≡ B c) →
        ((c : ℕ) → Named c (children t.list n) → C c ≡ D c) → node_asks M t args W A C n ≡ node_asks M t args X B D n
    unfolding node_asks children
    asks_same (Node.Number low high) h a k = refl
    asks_same (Node.String symbol) h a k = refl
    asks_same (Node.Boolean b) h a k = refl
    asks_same Node.Nil h a k = refl
    asks_same (Node.Identifier symbol) h a k = refl
    asks_same (Node.Binary op l r) h a k = rw (h l first, a l first, a r (later first))
    asks_same (Node.Unary op x) h a k = a x first
    asks_same (Node.LogicalNot x) h a k = a x first
    asks_same (Node.LogicalAnd l r) h a k = rw (h l first, a l first, a r (later first))
    asks_same (Node.LogicalOr l r) h a k = rw (h l first, a l first, a r (later first))
    asks_same (Node.If c th el) h a k =
        rw (h c first, a c first, k c first, a th (later first), chosen_present el {A = A el} {B = B el} (λ n. a el (later (later n))))
    asks_same (Node.Block tail) h a k = chosen_present tail (a tail)
    asks_same (Node.FunctionCall callee start count) h a k = refl
    asks_same (Node.PropertyAccess x symbol) h a k = a x first
    asks_same (Node.Map start count) h a k = refl

  condition_bound : (n : ℕ) → Falls n t → (f g i : ℕ) → i < n → i < f → i < g → condition_asks_below M t args f i ≡ condition_asks_below M t args g i
  unfolding condition_asks_below
  condition_bound n falls zero g i o a b = absurd (omega arith)
  condition_bound n falls (suc f) zero i o a b = absurd (omega arith)
  condition_bound n falls (suc f) (suc g) i o a b =
      condition_same (λ n. value_below M t args f n) (λ n. value_below M t args g n) (node t i)
      (λ c x. let l : c < i = falls i c o x in value_bound n falls f g c (omega arith) (omega arith) (omega arith))

  asks_bound : (n : ℕ) → Falls n t → (f g i : ℕ) → i < n → i < f → i < g → asks_below M t args f i ≡ asks_below M t args g i
  unfolding asks_below
  asks_bound n falls zero g i o a b = absurd (omega arith)
  asks_bound n falls (suc f) zero i o a b = absurd (omega arith)
  asks_bound n falls (suc f) (suc g) i o a b =
      asks_same (λ n. value_below M t args f n) (λ n. value_below M t args g n) (λ n. asks_below M t args f n) (λ n. asks_below M t args g n)
      (λ n. condition_asks_below M t args f n) (λ n. condition_asks_below M t args g n) (node t i)
      (λ c x. let l : c < i = falls i c o x in value_bound n falls f g c (omega arith) (omega arith) (omega arith))
      (λ c x. let l : c < i = falls i c o x in asks_bound n falls f g c (omega arith) (omega arith) (omega arith))
      (λ c x. let l : c < i = falls i c o x in condition_bound n falls f g c (omega arith) (omega arith) (omega arith))

  -- the order premise of a node, by those of the nodes that it names
  pub order_at : (n : ℕ) → Falls n t → (i : ℕ) → i < n →
      OrderPremise M t args i ≡ node_asks M t args (value_at M t args) (OrderPremise M t args) (λ c. condition_asks_below M t args (suc c) c) (node t i)
  unfolding OrderPremise asks_below value_at
  order_at n falls i o =
      asks_same (λ n. value_below M t args i n) (λ n. value_below M t args (suc n) n) (λ n. asks_below M t args i n) (λ n. asks_below M t args (suc n) n)
      (λ n. condition_asks_below M t args i n) (λ n. condition_asks_below M t args (suc n) n) (node t i)
      (λ c x. let l : c < i = falls i c o x in value_bound n falls i (suc c) c (omega arith) l (omega arith))
      (λ c x. let l : c < i = falls i c o x in asks_bound n falls i (suc c) c (omega arith) l (omega arith))
      (λ c x. let l : c < i = falls i c o x in condition_bound n falls i (suc c) c (omega arith) l (omega arith))

module _ (t : Tree) where
  total_same : (S R : ℕ → ℕ) (l : List ℕ) → ((c : ℕ) → Named c l → S c ≡ R c) → total S l ≡ total R l
  unfolding total
  total_same S R [] h = refl
  total_same S R (x ∷ l) h = ap₂ ◌+◌ (h x first) (total_same S R l (λ c n. h c (later n)))

  size_bound : (n : ℕ) → Falls n t → (f g i : ℕ) → i < n → i < f → i < g → size_below t f i ≡ size_below t g i
  unfolding size_below
  size_bound n falls zero g i o a b = absurd (omega arith)
  size_bound n falls (suc f) zero i o a b = absurd (omega arith)
  size_bound n falls (suc f) (suc g) i o a b =
      ap (λ n. node_size (node t i) + n)
      (total_same (λ n. size_below t f n) (λ n. size_below t g n) (children t.list (node t i))
      (λ c x. let l : c < i = falls i c o x in size_bound n falls f g c (omega arith) (omega arith) (omega arith)))

  -- the size of a node, by the nodes that it names
  pub size_at_lem : (n : ℕ) → Falls n t → (i : ℕ) → i < n → size_at t i ≡ node_size (node t i) + total (size_at t) (children t.list (node t i))
  unfolding size_at size_below
  size_at_lem n falls i o =
      ap (λ n. node_size (node t i) + n)
      (total_same (λ n. size_below t i n) (λ n. size_below t (suc n) n) (children t.list (node t i))
      (λ c x. let l : c < i = falls i c o x in size_bound n falls i (suc c) c (omega arith) l (omega arith)))
