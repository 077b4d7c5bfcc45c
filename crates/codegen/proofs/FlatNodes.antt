-- The laws of the flat nodes, by the words that the program has of them: a register that is needed, a name, a leaf, and an operator or a comparison of
-- leaves. Assumes nothing.
use Rattle.std.specs.Prelude.{Option, Some, None}
use Prim.Native.Nat.{ℕ, ◌/◌, ◌<◌, ◌≤◌}
use native.Mathlib.Omega.{arith}
use native.Mathlib.Decide.{ℕ_discrete}
use mathlib.Core.Path.{◌≡◌, refl, sym, ◌∙◌}
use mathlib.Core.Logic.{◌≢◌, ◌⊎◌, inl, inr}
use mathlib.Core.Bool.{Bool, true, false, cond, ◌&&◌, ◌||◌, and-false, false≢true}
use mathlib.Core.List.{List}
use lib.Dec.{eqb, leb}
use lib.ListN.{length}
use borrow.Author.Tests.{lt-ltb, le-ltb, le-leb, lt-leb, leb-true, eqb-true, eq-eqb, ne_eqb}
use Rattle.diagnostics.specs.declared.Refusal.{Refusal}
use Rattle.environment.specs.declared.Register.{Register}
use Rattle.environment.specs.Environment.{lookup}
use Rattle.syntax.specs.declared.ast.Node.{Node}
use Rattle.syntax.specs.declared.ops.BinaryOp.{BinaryOp}
use Rattle.syntax.specs.declared.ops.Comparison.{Comparison}
use Rattle.syntax.specs.Ast.{node_word}
use Rattle.syntax.specs.Ops.{binary_op}
use Rattle.runtime.specs.declared.operand.Operand.{Operand}
use Rattle.runtime.specs.Operands.{reg_of}
use Rattle.lowering.specs.Tree.{Tree, tree_of, node}
use Rattle.lowering.specs.Checked.{Checked}
use Rattle.lowering.specs.Walk.{Made, Outcome, ends, stops, Walk, bind, ◌>>=◌, ret, unnamed}
use Rattle.lowering.specs.Steps.{free_temp, destination, emit, load_constant}
use Rattle.lowering.specs.Operators.{comparison, jump_if}
use Rattle.lowering.specs.Literals.{literal}
use Rattle.lowering.specs.Lower.{Source, source, materialized, lower_materializing, moved, lower_name, test, binary_sources, fused_sources, fuse, jump_node}
use Rattle.lowering.specs.Lower.{lower_expression}
use Rattle.lowering.proofs.Destinations.{Stays, binary_locals, node_kind}
use Rattle.steps.specs.Answers.{none, register_at, literal_word, operand_at, source_at, word_end, refusal_start, refusal_at, is_refusal, error_at, names_node, settled, seen}
use Rattle.steps.specs.Answers.{is_inner, DestOrRefusal, WordOrRefusal}
use Rattle.steps.proofs.Words.{source_operand, is_inner_word}
use Rattle.steps.proofs.Chains.{then, stop, nested, seen_given, seen_stopped, seen_word, seen_refusal}
use Rattle.codegen.specs.declared.flat.Asked.{Asked}
use Rattle.codegen.specs.Ready.{node_word_of}
use Rattle.codegen.specs.Kinds.{name_kind, binary_kind}
use Rattle.codegen.specs.Flat.{Given, are_leaves, is_flat, found_at, LocalOr, needing, flat_literal, name_dest, flat_node}
use Rattle.codegen.proofs.Walk.{is_literal_lem, literal_expression}
use Rattle.codegen.proofs.Operands.{operator_of, both_constant}
use Rattle.codegen.proofs.Reading.{named_at, local_word}

-- ---- a register that is needed

module _ {A : Type 0} (d : ℕ) (w : Walk A) (m : Made) where
  pub needing_none : (t : Tree) (gives : ℕ → A) → d ≡ none → settled (needing d w m) ≡ seen t gives m (refusal_at Refusal.Registers 0)
  unfolding needing settled error_at names_node
  needing_none t gives h = rw (eq-eqb d none h) (sym (seen_refusal t gives m Refusal.Registers 0 (omega arith)))

  pub needing_given : {r : Outcome A} → d ≢ none → settled (w m) ≡ r → settled (needing d w m) ≡ r
  unfolding needing
  needing_given h q = rw (ne_eqb d none h) q

  needing_then : {B : Type 0} (k : A → Walk B) → needing d (w >>= k) m ≡ bind (needing d w m) k
  unfolding needing bind
  needing_then k = go (eqb d none)
    where
      go : (b : Bool) → cond b (λ n. stops (unnamed Refusal.Registers) n) (w >>= k) m ≡ bind (cond b (λ n. stops (unnamed Refusal.Registers) n) w m) k
      go true = refl
      go false = refl

-- ---- what is seen of a register

-- the register that a step gave, as an operand
as_operand : (t : Tree) (o : Outcome Register) (m : Made) (a : ℕ) → settled o ≡ seen t register_at m a →
    settled (bind o (λ r. ret (Operand.Register r))) ≡ seen t (λ w. Operand.Register (register_at w)) m a
unfolding settled
as_operand t o m a e = go (is_refusal a) refl
  where
    go : (b : Bool) → is_refusal a ≡ b → settled (bind o (λ r. ret (Operand.Register r))) ≡ seen t (λ w. Operand.Register (register_at w)) m a
    go true h = stop t o register_at m a _ e (λ w. Operand.Register (register_at w)) h
    go false h = then t o register_at m a _ e h (sym (seen_given t (λ w. Operand.Register (register_at w)) m a h))

-- a word or a refusal is no node that is left to the walk
pub no_inner : (a : ℕ) → WordOrRefusal a → is_inner a ≡ false
unfolding is_inner
no_inner a (inl h) = ne_eqb (a / word_end) 1 (λ e. omega arith)
no_inner a (inr h) = is_inner_word a h

-- the register that was given is a word
pub answer_word : (d a : ℕ) → Given d → DestOrRefusal d a → WordOrRefusal a
answer_word d a given (inl h) = inl h
answer_word d a (inl g) (inr e) = inr (omega arith)
answer_word d a (inr g) (inr e) = inr (omega arith)

-- and no literal's
pub given_operand : (t : Tree) (n : Node) (m : Made) (d a : ℕ) → Given d → DestOrRefusal d a →
    seen t (λ w. Operand.Register (register_at w)) m a ≡ seen t (operand_at n) m a
unfolding is_refusal operand_at
given_operand t n m d a given (inl h) =
    seen_stopped t (λ w. Operand.Register (register_at w)) m a (le-leb refusal_start a h) ∙ sym (seen_stopped t (operand_at n) m a (le-leb refusal_start a h))
given_operand t n m d a given (inr e) =
    let word = known given in
    rw e (seen_word t (λ w. Operand.Register (register_at w)) m d word.0 ∙ sym (seen_word t (operand_at n) m d word.0 ∙ rw (ne_eqb d literal_word word.1)))
  where
    known : Given d → (d < word_end) × (d ≢ literal_word)
    known (inl h) = (omega arith, (λ e. omega arith))
    known (inr h) = (omega arith, (λ e. omega arith))

-- a literal that is loaded into the register given, as an operand
pub loaded_operand : (t : Tree) (n : Node) (d : ℕ) (w : Walk Register) (m m₁ : Made) (a : ℕ) → Given d → DestOrRefusal d a →
    settled (needing d w m) ≡ seen t register_at m₁ a → settled (needing d (w >>= λ r. ret (Operand.Register r)) m) ≡ seen t (operand_at n) m₁ a
loaded_operand t n d w m m₁ a given word e =
    rw (needing_then d w m (λ r. ret (Operand.Register r))) (as_operand t (needing d w m) m₁ a e ∙ given_operand t n m₁ d a given word)

-- ---- a flat node by its kind

-- a literal whose operand is not what is asked is loaded
literal_put : (c : Operand) (asked : Asked) (d : ℕ) → asked ≢ Asked.Operand →
    flat_literal c asked d ≡ needing d (load_constant c (Some (register_at d)) >>= λ x. ret (Operand.Register x))
unfolding flat_literal
literal_put c Asked.Operand d h = absurd (h refl)
literal_put c Asked.Register d h = refl
literal_put c Asked.Into d h = refl

-- a name keeps its register unless another one is given
pub own_dest : (asked : Asked) (d : ℕ) → asked ≢ Asked.Into → name_dest asked d ≡ None
unfolding name_dest
own_dest Asked.Operand d h = refl
own_dest Asked.Register d h = refl
own_dest Asked.Into d h = absurd (h refl)

pub into_dest : (asked : Asked) (d : ℕ) → asked ≡ Asked.Into → name_dest asked d ≡ Some (register_at d)
unfolding name_dest
into_dest asked d h = rw h

-- how it is lowered
module _ (t : Tree) (asked : Asked) (d i : ℕ) (m : Made) where
  pub literal_flat : node_word t.nodes i 0 < name_kind → asked ≢ Asked.Operand →
      flat_node t asked d i m ≡ needing d (load_constant (literal (node t i)) (Some (register_at d)) >>= λ x. ret (Operand.Register x)) m
  unfolding flat_node
  literal_flat kind h = rw (lt-ltb (node_word t.nodes i 0) name_kind kind, literal_put (literal (node t i)) asked d h)

  pub literal_itself : node_word t.nodes i 0 < name_kind → asked ≡ Asked.Operand → flat_node t asked d i m ≡ ends (literal (node t i)) m
  unfolding flat_node flat_literal
  literal_itself kind h = rw (lt-ltb (node_word t.nodes i 0) name_kind kind, h)

  pub name_flat : node_word t.nodes i 0 ≡ name_kind → flat_node t asked d i m ≡ lower_expression free_temp t i (name_dest asked d) m
  unfolding flat_node
  name_flat kind = rw kind

  pub binary_flat : node_word t.nodes i 0 ≡ binary_kind → flat_node t asked d i m ≡ needing d (lower_expression free_temp t i (Some (register_at d))) m
  unfolding flat_node
  binary_flat kind = rw kind

-- ---- names

-- a name's word is no literal's
pub name_word : {o : Option ℕ} {w : ℕ} → LocalOr o → o ≡ Some w → w ≢ literal_word
name_word local h e = let word = local_word local h in omega arith

-- a name, by the word of its register
module _ (t : Tree) (i : ℕ) (kind : node_word t.nodes i 0 ≡ name_kind) (o : Option ℕ) (found : found_at o ≡ lookup t.names (length t.names) (node_word t.nodes i 1)) where
  name_declared : {w : ℕ} (dest : Option Register) (m : Made) → o ≡ Some w → lower_expression free_temp t i dest m ≡ moved t (register_at w) dest m
  unfolding lower_name found_at
  name_declared dest m h = named_at t i m dest kind found ∙ rw h

  pub stop_name : {B : Type 0} (dest : Option Register) (m : Made) (k : Operand → Walk B) (gives : ℕ → B) → o ≡ None → i < word_end →
      settled (bind (lower_expression free_temp t i dest m) k) ≡ seen t gives m (refusal_at Refusal.Undeclared i)
  unfolding lower_name found_at error_at names_node bind settled
  stop_name dest m k gives h small = rw (named_at t i m dest kind found, h) (sym (seen_refusal t gives m Refusal.Undeclared i small))

  pub then_name : {B : Type 0} {w : ℕ} (m : Made) (k : Operand → Walk B) {r : Outcome B} → o ≡ Some w → settled (k (Operand.Register (register_at w)) m) ≡ r →
      settled (bind (lower_expression free_temp t i None m) k) ≡ r
  unfolding moved bind
  then_name m k h q = rw (name_declared None m h) q

  -- as a condition: the test of its own register
  module _ (E : ℕ → Option Register → Walk Operand) (sense : Bool) (m : Made) where
    pub condition_name_undeclared : (gives : ℕ → ℕ) → o ≡ None → i < word_end →
        settled (jump_node t E sense (lower_expression free_temp t i) (node t i) m) ≡ seen t gives m (refusal_at Refusal.Undeclared i)
    unfolding jump_node test lower_materializing
    condition_name_undeclared gives h small = rw (node_kind t i name_kind kind) (nested _ _ _ (stop_name None m _ gives h small))

    pub condition_name : {w : ℕ} {r : Outcome ℕ} → o ≡ Some w → settled (emit (jump_if sense (reg_of (register_at w))) m) ≡ r →
        settled (jump_node t E sense (lower_expression free_temp t i) (node t i) m) ≡ r
    unfolding jump_node test lower_materializing moved source materialized bind
    condition_name h q = rw (node_kind t i name_kind kind, name_declared None m h) q

-- ---- leaves

-- the word of a leaf: its name's register, or that of a literal
abbrev pub Leaf : Tree → ℕ → Option ℕ → Type 0
Leaf t i o =
    (node_word t.nodes i 0 ≡ name_kind → (found_at o ≡ lookup t.names (length t.names) (node_word t.nodes i 1)) × LocalOr o)
    × (node_word t.nodes i 0 ≢ name_kind → o ≡ Some literal_word)

module _ (t : Tree) (i : ℕ) (o : Option ℕ) (leaf : Leaf t i o) where
  pub stop_leaf : {B : Type 0} (m : Made) (k : Operand → Walk B) (gives : ℕ → B) → o ≡ None → i < word_end →
      settled (bind (lower_expression free_temp t i None m) k) ≡ seen t gives m (refusal_at Refusal.Undeclared i)
  stop_leaf {B} m k gives h small = go (ℕ_discrete (node_word t.nodes i 0) name_kind)
    where
      go : Dec (node_word t.nodes i 0 ≡ name_kind) → settled (bind (lower_expression free_temp t i None m) k) ≡ seen t gives m (refusal_at Refusal.Undeclared i)
      go (yes e) = stop_name t i e o (leaf.0 e).0 None m k gives h small
      go (no e) = let never : ◌≡◌ {A = Option ℕ} (Some literal_word) None = sym (leaf.1 e) ∙ h in cc

  module _ {w : ℕ} (declared : o ≡ Some w) where
    -- a leaf that is no name
    no_name : node_word t.nodes i 0 ≢ name_kind → w ≡ literal_word
    no_name e = let same : Some w ≡ Some literal_word = sym declared ∙ leaf.1 e in cc

    pub then_leaf : {B : Type 0} (m : Made) (k : Operand → Walk B) {r : Outcome B} → node_word t.nodes i 0 ≤ name_kind → settled (k (operand_at (node t i) w) m) ≡ r →
        settled (bind (lower_expression free_temp t i None m) k) ≡ r
    unfolding bind operand_at
    then_leaf m k {r} few q = go (ℕ_discrete (node_word t.nodes i 0) name_kind)
      where
        go : Dec (node_word t.nodes i 0 ≡ name_kind) → settled (bind (lower_expression free_temp t i None m) k) ≡ r
        go (yes e) = then_name t i e o (leaf.0 e).0 m k declared (rw (ne_eqb w literal_word (name_word (leaf.0 e).1 declared)) at q)
        go (no e) =
            rw (literal_expression t i (is_literal_lem t i (omega arith)) None)
            (rw (eq-eqb w literal_word (no_name e)) at q)

    -- a local is not given back, and a literal neither
    stays : (c : Operand) → Stays (source_at c w)
    unfolding Stays source_at register_at
    stays c = go (ℕ_discrete (node_word t.nodes i 0) name_kind)
      where
        go : Dec (node_word t.nodes i 0 ≡ name_kind) → Stays (source_at c w)
        go (yes e) =
            let local = local_word (leaf.0 e).1 declared in
            rw (ne_eqb w literal_word (name_word (leaf.0 e).1 declared), le-ltb w 256 local.0) tt
        go (no e) = rw (eq-eqb w literal_word (no_name e)) tt

-- ---- an operator or a comparison of two leaves

-- three tests that are all passed
three : (a b c : Bool) → a && b && c ≡ true → (a ≡ true) × ((b ≡ true) × (c ≡ true))
three true true true h = (refl, (refl, refl))
three true true false h = absurd (false≢true h)
three true false c h = absurd (false≢true h)
three false b c h = absurd (false≢true h)

module _ (nodes : List ℕ) (left right : ℕ) (leaves : are_leaves nodes left right ≡ true) where
  -- what was asked of the two kinds
  asked : (leb (node_word_of nodes left 0) name_kind ≡ true)
      × ((leb (node_word_of nodes right 0) name_kind ≡ true) × (eqb (node_word_of nodes left 0) name_kind || eqb (node_word_of nodes right 0) name_kind ≡ true))
  unfolding are_leaves
  asked = three _ _ _ leaves

  pub left_leaf : node_word_of nodes left 0 ≤ name_kind
  left_leaf = leb-true (node_word_of nodes left 0) name_kind asked.0

  pub right_leaf : node_word_of nodes right 0 ≤ name_kind
  right_leaf = leb-true (node_word_of nodes right 0) name_kind asked.1.0

  module _ (list names : List ℕ) where
    abbrev tree : Tree
    tree = tree_of nodes list names

    -- the leaf whose name is not declared
    pub stop_leaves : {leaf : ℕ} → ((leaf ≡ left) × Leaf tree left None) ⊎ ((leaf ≡ right) × (((v : ℕ) × Leaf tree left (Some v)) × Leaf tree right None)) → left < word_end → right < word_end →
        {B : Type 0} (m : Made) (k : Operand → Operand → Walk B) (gives : ℕ → B) →
        settled (bind (lower_expression free_temp tree left None m) (λ a n. bind (lower_expression free_temp tree right None n) (k a))) ≡ seen tree gives m (refusal_at Refusal.Undeclared leaf)
    stop_leaves (inl l) small small' m k gives = rw l.0 (stop_leaf tree left None l.1 m _ gives refl small)
    stop_leaves (inr r) small small' m k gives =
        rw r.0 (then_leaf tree left (Some r.1.0.0) r.1.0.1 refl m _ left_leaf (stop_leaf tree right None r.1.1 m _ gives refl small'))

    -- both words
    module _ {v w : ℕ} (both : Leaf tree left (Some v) × Leaf tree right (Some w)) where
      pub then_leaves : {B : Type 0} (m : Made) (k : Operand → Operand → Walk B) {r : Outcome B} → settled (k (operand_at (node tree left) v) (operand_at (node tree right) w) m) ≡ r →
          settled (bind (lower_expression free_temp tree left None m) (λ a n. bind (lower_expression free_temp tree right None n) (k a))) ≡ r
      then_leaves m k q = then_leaf tree left (Some v) both.0 refl m _ left_leaf (then_leaf tree right (Some w) both.1 refl m _ right_leaf q)

      -- one of them is a name
      pub not_both : eqb v literal_word && eqb w literal_word ≡ false
      not_both = go (ℕ_discrete (node_word_of nodes left 0) name_kind)
        where
          go : Dec (node_word_of nodes left 0 ≡ name_kind) → eqb v literal_word && eqb w literal_word ≡ false
          go (yes e) = rw (ne_eqb v literal_word (name_word (both.0.0 e).1 refl))
          go (no e) =
              let named = eqb-true (node_word_of nodes right 0) name_kind (rw (ne_eqb (node_word_of nodes left 0) name_kind e) at asked.1.1) in
              rw (ne_eqb w literal_word (name_word (both.1.0 named).1 refl)) (and-false (eqb v literal_word))

      module _ (E : ℕ → Option Register → Walk Operand) (m : Made) where
        abbrev left_source : Source
        left_source = source_at (literal (node tree left)) v

        abbrev right_source : Source
        right_source = source_at (literal (node tree right)) w

        -- an operator: nothing is given back
        pub binary_leaves : (operator : BinaryOp) (d : Register) {r : Outcome Operand} → settled (binary_sources (λ x. ret tt) tree E operator left right d left_source right_source m) ≡ r →
            settled (binary_sources free_temp tree E operator left right d (source (operand_at (node tree left) v)) (source (operand_at (node tree right) w)) m) ≡ r
        binary_leaves operator d q =
            rw (
              source_operand (node tree left) v,
              source_operand (node tree right) w,
              binary_locals tree E operator left right d left_source right_source (both_constant (literal (node tree left)) (literal (node tree right)) v w ∙ not_both)
                  (stays tree left (Some v) both.0 refl (literal (node tree left))) (stays tree right (Some w) both.1 refl (literal (node tree right))) m,
            ) q

        -- a comparison's jump
        pub fused_leaves : (sense : Bool) (own : Option Register → Walk Operand) (op : Comparison) {r : Outcome ℕ} → settled (fused_sources tree E sense own op left_source right_source m) ≡ r →
            settled (fused_sources tree E sense own op (source (operand_at (node tree left) v)) (source (operand_at (node tree right) w)) m) ≡ r
        fused_leaves sense own op q = rw (source_operand (node tree left) v, source_operand (node tree right) w) q

-- ---- an operator by the words of its node

module _ (t : Tree) (i : ℕ) (operator : BinaryOp) (kind : node_word t.nodes i 0 ≡ binary_kind) (at_operator : operator ≡ binary_op (node_word t.nodes i 1)) (m : Made) where
  -- "destination first, left, right", where the destination is given
  pub binary_of : Checked t → (d : Register) {r : Outcome Operand} →
      settled (bind (lower_expression free_temp t (node_word t.nodes i 2) None m) (λ a n. bind (lower_expression free_temp t (node_word t.nodes i 3) None n)
      (λ b. binary_sources free_temp t (lower_expression free_temp t) operator (node_word t.nodes i 2) (node_word t.nodes i 3) d (source a) (source b)))) ≡ r →
      settled (lower_expression free_temp t i (Some d) m) ≡ r
  unfolding destination bind
  binary_of checked d q = operator_of checked i kind refl refl (Some d) m (rw at_operator at q)

  -- a comparison as a condition: "left, right, constants pooled, one fused jump"
  pub compared_of : (E : ℕ → Option Register → Walk Operand) (sense : Bool) (own : Option Register → Walk Operand) (op : Comparison) {r : Outcome ℕ} →
      comparison operator ≡ Some op →
      settled (bind (E (node_word t.nodes i 2) None m) (λ a n. bind (E (node_word t.nodes i 3) None n) (λ b. fused_sources t E sense own op (source a) (source b)))) ≡ r →
      settled (jump_node t E sense own (node t i) m) ≡ r
  unfolding jump_node fuse
  compared_of E sense own op compares q = rw (node_kind t i binary_kind kind, ← at_operator, compares) q

-- ---- whether a node is flat

module _ (nodes : List ℕ) (i : ℕ) where
  pub flat_leaf : node_word_of nodes i 0 ≤ name_kind → is_flat nodes i ≡ true
  unfolding is_flat
  flat_leaf h = rw (ne_eqb (node_word_of nodes i 0) binary_kind (λ e. omega arith)) (le-leb (node_word_of nodes i 0) name_kind h)

  pub flat_binary : node_word_of nodes i 0 ≡ binary_kind → is_flat nodes i ≡ are_leaves nodes (node_word_of nodes i 2) (node_word_of nodes i 3)
  unfolding is_flat
  flat_binary kind = rw (eq-eqb (node_word_of nodes i 0) binary_kind kind)

  pub flat_other : binary_kind < node_word_of nodes i 0 → is_flat nodes i ≡ false
  unfolding is_flat
  flat_other h = rw (ne_eqb (node_word_of nodes i 0) binary_kind (λ e. omega arith)) (lt-leb (node_word_of nodes i 0) name_kind (omega arith))
