-- The induction over the arena: every node keeps the promise, as an expression and as a condition, and so does the root with its Return or with
-- its jump.
-- Assumes nothing.
use Rattle.std.specs.Prelude.{Option, None}
use Rattle.environment.specs.declared.Register.{Register}
use Prim.Native.Nat.{ℕ, zero, suc, ◌+◌, ◌≤◌, ◌<◌}
use native.Mathlib.Omega.{arith}
use native.Mathlib.Nat.{le_refl}
use mathlib.Core.Path.{◌≡◌, refl, sym, ap, ◌∙◌, subst}
use mathlib.Core.Bool.{Bool, true, false}
use lib.ListN.{length}
use Rattle.environment.specs.Environment.{lookup}
use Rattle.syntax.specs.declared.ast.Node.{Node}
use Rattle.runtime.specs.declared.instruction.Instruction.{Instruction}
use Rattle.runtime.specs.declared.operand.Operand.{Operand}
use Rattle.runtime.specs.Operands.{reg_of}
use Rattle.runtime.specs.Instruction.{words_of, decode}
use Rattle.lowering.specs.Tree.{Tree, node, children}
use Rattle.lowering.specs.Checked.{Falls}
use Rattle.lowering.specs.Walk.{Made, ends, Walk, bind}
use Rattle.lowering.specs.Steps.{free_temp, patch_marks, patch_arguments}
use Rattle.lowering.specs.Lower.{source, lower_materializing, lower_node, jump_node, expression_below, jump_below, lower_expression, lower_jump_if_false, lower_jump_if_true}
use Rattle.lowering.specs.Result.{lower_root}
use Rattle.lowering.specs.Meaning.{Operators, Hypotheses, Evaluation, Evaluations, node_value, value_below, value_at, condition_asks, node_asks, condition_asks_below, asks_below, OrderPremise, ConditionPremise, AtRoot, Named, first, later, Reaches, here, below, Plain, node_size, total, size_below, size_at}
use Rattle.lowering.specs.Machine.{Ending, returned, failed, Registers, action, act}
use Rattle.lowering.proofs.Bound.Meaning.{value_at_lem, order_at, size_at_lem}
use Rattle.lowering.proofs.Running.Decode.{number_proper, Proper, constant}
use Rattle.lowering.proofs.Running.Steps.{Holds, fine, void, chain, count, emit_holds, Room}
use Rattle.lowering.proofs.Running.MachineRuns.{After, after_map, Known, World, Run, step_instruction, run_return}
use Rattle.lowering.proofs.Running.Promise.{Final, earlier, Owns, Target, Params, literal, materialized_good}
use Rattle.lowering.proofs.Running.Nodes.{AsOperand, named_good, good_binary, good_unary, good_not, good_property, good_and, good_or, good_block}
use Rattle.lowering.proofs.Running.Conditions.{Jumped, tested_good, binary_jumped, good_if}

module _ (M : Operators) (t : Tree) (args : ℕ → M.Value) where
  abbrev arity : ℕ
  arity = length t.names

  -- what is promised of a node by walks on its children that keep the promise, where those hold P
  module _ (E : ℕ → Option Register → Walk Operand) (J : ℕ → Walk ℕ) (W : Evaluations M) (S : ℕ → ℕ) (A C P : ℕ → Type 0)
      (good : (i : ℕ) → P i → (dest : Option Register) (m : Made) → Owns arity m → Target arity m dest → Holds (AsOperand M t args arity m dest (S i) (A i) (W i)) (E i dest m))
      (jumps : (i : ℕ) → P i → (m : Made) → Owns arity m → Holds (Jumped M args arity false m (S i) (A i × C i) (W i)) (J i m)) where
    node_good : (n : Node) → Plain n → ((c : ℕ) → Named c (children t.list n) → P c) → (i : ℕ) (dest : Option Register) (m : Made) → Owns arity m → Target arity m dest →
        Holds (AsOperand M t args arity m dest (node_size n + total S (children t.list n)) (node_asks M t args W A C n) (node_value M t args W n)) (lower_node free_temp t E J i n dest m)
    unfolding lower_node node_size total children node_asks node_value Plain source Proper constant
    node_good (Node.Number low high) pl p i dest m o g = fine (literal refl (number_proper low high) (le_refl 1))
    node_good (Node.String symbol) pl p i dest m o g = fine (literal refl tt (le_refl 1))
    node_good (Node.Boolean b) pl p i dest m o g = fine (literal refl tt (le_refl 1))
    node_good Node.Nil pl p i dest m o g = fine (literal refl tt (le_refl 1))
    node_good (Node.Identifier symbol) pl p i dest m o g = named_good M t args arity refl i symbol (lookup t.names (length t.names) symbol) refl dest m o g
    node_good (Node.Binary op l r) pl p i dest m o g = good_binary M t args arity E W S A P good op l r (p l first) (p r (later first)) J i dest m o g
    node_good (Node.Unary op x) pl p i dest m o g = good_unary M t args arity E W S A P good op x (p x first) J i dest m o g
    node_good (Node.LogicalNot x) pl p i dest m o g = good_not M t args arity E W S A P good x (p x first) J i dest m o g
    node_good (Node.LogicalAnd l r) pl p i dest m o g = good_and M t args arity E W S A P good l r (p l first) (p r (later first)) J i dest m o g
    node_good (Node.LogicalOr l r) pl p i dest m o g = good_or M t args arity E W S A P good l r (p l first) (p r (later first)) J i dest m o g
    node_good (Node.If c th el) pl p i dest m o g =
        good_if M t args arity E W S A P good J C jumps c th el (p c first) (p th (later first)) (λ x. p el (later (later x))) i dest m o g
    node_good (Node.Block tail) pl p i dest m o g = good_block M t args arity E W S A P good tail (p tail) J i dest m o g
    node_good (Node.FunctionCall callee start number) pl p i dest m o g = absurd pl
    node_good (Node.PropertyAccess x symbol) pl p i dest m o g = good_property M t args arity E W S A P good x symbol (p x first) J i dest m o g
    node_good (Node.Map start number) pl p i dest m o g = absurd pl

    jump_good : (sense : Bool) (n : Node) → ((c : ℕ) → Named c (children t.list n) → P c) → (m : Made) (own : Option Register → Walk Operand) → Owns arity m →
        Holds (AsOperand M t args arity m None (node_size n + total S (children t.list n)) (node_asks M t args W A C n) (node_value M t args W n)) (own None m) →
        Holds (Jumped M args arity sense m (node_size n + total S (children t.list n)) (node_asks M t args W A C n × AtRoot sense (condition_asks M t args W n)) (node_value M t args W n))
        (jump_node t E sense own n m)
    unfolding jump_node node_size total children node_asks node_value condition_asks
    jump_good sense (Node.Number low high) p m own o h = tested_good M t args arity sense E own o h
    jump_good sense (Node.String symbol) p m own o h = tested_good M t args arity sense E own o h
    jump_good sense (Node.Boolean b) p m own o h = tested_good M t args arity sense E own o h
    jump_good sense Node.Nil p m own o h = tested_good M t args arity sense E own o h
    jump_good sense (Node.Identifier symbol) p m own o h = tested_good M t args arity sense E own o h
    jump_good sense (Node.Binary op l r) p m own o h = binary_jumped M t args arity sense E W S A P good op l r (p l first) (p r (later first)) m own o h
    jump_good sense (Node.Unary op x) p m own o h = tested_good M t args arity sense E own o h
    jump_good sense (Node.LogicalNot x) p m own o h = tested_good M t args arity sense E own o h
    jump_good sense (Node.LogicalAnd l r) p m own o h = tested_good M t args arity sense E own o h
    jump_good sense (Node.LogicalOr l r) p m own o h = tested_good M t args arity sense E own o h
    jump_good sense (Node.If c th el) p m own o h = tested_good M t args arity sense E own o h
    jump_good sense (Node.Block tail) p m own o h = tested_good M t args arity sense E own o h
    jump_good sense (Node.FunctionCall callee start number) p m own o h = tested_good M t args arity sense E own o h
    jump_good sense (Node.PropertyAccess x symbol) p m own o h = tested_good M t args arity sense E own o h
    jump_good sense (Node.Map start number) p m own o h = tested_good M t args arity sense E own o h

  -- nothing that node i reaches is a call or a map
  abbrev pub PlainFrom : ℕ → Type 0
  PlainFrom i = (j : ℕ) → Reaches t i j → Plain (node t j)

  plain_child : (i c : ℕ) → PlainFrom i → Named c (children t.list (node t i)) → PlainFrom c
  plain_child i c p n j r = p j (below n r)

  mutual
    unfolding expression_below jump_below size_below asks_below value_below condition_asks_below

    expression_good : (f i : ℕ) → PlainFrom i → (dest : Option Register) (m : Made) → Owns arity m → Target arity m dest →
        Holds (AsOperand M t args arity m dest (size_below t f i) (asks_below M t args f i) (value_below M t args f i)) (expression_below free_temp t f i dest m)
    expression_good zero i p dest m o g = void
    expression_good (suc f) i p dest m o g =
        node_good (λ n d. expression_below free_temp t f n d) (λ n. jump_below free_temp t f n) (λ n. value_below M t args f n) (λ n. size_below t f n) (λ n. asks_below M t args f n)
        (λ n. condition_asks_below M t args f n) PlainFrom (λ n p d m o g. expression_good f n p d m o g) (λ n p m o. condition_good f n p m o)
        (node t i) (p i here) (λ c n. plain_child i c p n) i dest m o g

    condition_good : (f i : ℕ) → PlainFrom i → (m : Made) → Owns arity m →
        Holds (Jumped M args arity false m (size_below t f i) (asks_below M t args f i × condition_asks_below M t args f i) (value_below M t args f i)) (jump_below free_temp t f i m)
    condition_good zero i p m o = void
    condition_good (suc f) i p m o =
        jump_good (λ n d. expression_below free_temp t f n d) (λ n. jump_below free_temp t f n) (λ n. value_below M t args f n) (λ n. size_below t f n) (λ n. asks_below M t args f n)
        (λ n. condition_asks_below M t args f n) PlainFrom (λ n p d m o g. expression_good f n p d m o g) (λ n p m o. condition_good f n p m o)
        false (node t i) (λ c n. plain_child i c p n) m _ o
        (node_good (λ n d. expression_below free_temp t f n d) (λ n. jump_below free_temp t f n) (λ n. value_below M t args f n) (λ n. size_below t f n) (λ n. asks_below M t args f n)
        (λ n. condition_asks_below M t args f n) PlainFrom (λ n p d m o g. expression_good f n p d m o g) (λ n p m o. condition_good f n p m o)
        (node t i) (p i here) (λ c n. plain_child i c p n) i None m o tt)

  -- at a node, with no bound
  expression_at : (i : ℕ) → PlainFrom i → (dest : Option Register) (m : Made) → Owns arity m → Target arity m dest →
      Holds (AsOperand M t args arity m dest (size_at t i) (OrderPremise M t args i) (value_at M t args i)) (lower_expression free_temp t i dest m)
  unfolding lower_expression size_at OrderPremise value_at
  expression_at i p dest m o g = expression_good (suc i) i p dest m o g

  condition_at : (i : ℕ) → PlainFrom i → (m : Made) → Owns arity m →
      Holds (Jumped M args arity false m (size_at t i) (OrderPremise M t args i × condition_asks_below M t args (suc i) i) (value_at M t args i)) (lower_jump_if_false free_temp t i m)
  unfolding lower_jump_if_false size_at OrderPremise value_at
  condition_at i p m o = condition_good (suc i) i p m o

  -- the root, with its Return
  pub record Rooted (root : ℕ) (m m' : Made) : Type 0 where
    pub short : count m' ≤ count m + size_at t root + 1
    pub room : Room m'
    pub known : Known (value_at M t args root)
    pub sim : (laws : Hypotheses M) (w : World M) → Final w (count m) (count m') m' → (R : Registers M) (e : Ending M) → Params M args arity R →
        OrderPremise M t args root → After (λ v. e ≡ returned v) (λ x. e ≡ failed x) (value_at M t args root) → Run M arity w (w.base + count m) R e

  no_marks : (m : Made) → m.state.marks ≡ 0 → patch_arguments m ≡ ends tt m
  unfolding patch_arguments patch_marks
  no_marks m e = rw e

  pub root_good : (root : ℕ) → PlainFrom root → (m : Made) → Owns arity m → m.state.marks ≡ 0 → Holds (λ a m'. Rooted root m m') (lower_root free_temp t 0 root m)
  unfolding lower_root lower_materializing lower_expression size_at value_at OrderPremise action act bind
  root_good root p m o z =
      chain (chain (expression_good (suc root) root p None m o tt) (λ x m1 h. materialized_good M args arity {m = m} {dest = None} o tt h)) (λ r m2 q.
      chain (emit_holds (Instruction.Return (reg_of r)) m2) (λ n m3 g.
      let l1 = q.short in
      let l2 = g.level in
      let l3 = q.grown.kept.more in
      rw (no_marks m3 (g.grown.kept.marks ∙ q.grown.kept.marks ∙ z))
      (fine {a = 0} {m = m3} (record {
        short = omega arith;
        room = g.grown.kept.room (q.grown.kept.room o.room);
        known = q.known;
        sim = λ laws w f R e pr fa k.
            let fetched : w.code (w.base + count m2) ≡ decode (words_of (Instruction.Return (reg_of r))) =
            f.codes (count m2) l3 (omega arith) ∙ ap decode (g.there (count m2) refl) in
            let inside : w.base + count m2 < w.limit = omega (arith, f.top) in
            q.sim laws w (earlier (le_refl _) (omega arith) (le_refl _) g.grown.kept f) R e pr fa
            (after_map k (λ v ev R' d kp.
            subst (λ x. Run M arity w (w.base + count m2) R' x) (ap returned d ∙ sym ev)
            (run_return M arity w (w.base + count m2) (reg_of r) R'
            (step_instruction M arity w (Instruction.Return (reg_of r)) (w.base + count m2) R' fetched) inside)));
      }))))

  -- ---- the root as a condition

  -- what is promised of a root that jumps where it tests as `sense`
  abbrev pub RootJumped : Bool → ℕ → Made → ℕ → Made → Type 0
  RootJumped sense root m = Jumped M args arity sense m (size_at t root) (OrderPremise M t args root × AtRoot sense (ConditionPremise M t args root)) (value_at M t args root)

  pub root_false : (root : ℕ) → PlainFrom root → (m : Made) → Owns arity m → m.state.marks ≡ 0 → Holds (RootJumped false root m) (lower_root free_temp t 1 root m)
  unfolding lower_root lower_jump_if_false size_at value_at OrderPremise ConditionPremise bind
  root_false root p m o z =
      chain {P = RootJumped false root m} (condition_good (suc root) root p m o) (λ j m1 q. rw (no_marks m1 (q.grown.kept.marks ∙ z)) (fine q))

  module _ (n : ℕ) (falls : Falls n t) (root : ℕ) (inside : root < n) where
    abbrev here_node : Node
    here_node = node t root

    abbrev here_size : ℕ
    here_size = node_size here_node + total (size_at t) (children t.list here_node)

    abbrev here_asks : Type 0
    here_asks = node_asks M t args (value_at M t args) (OrderPremise M t args) (λ c. condition_asks_below M t args (suc c) c) here_node

    abbrev here_value : Evaluation M.Failure M.Value
    here_value = node_value M t args (value_at M t args) here_node

    own_good : PlainFrom root → (m : Made) → Owns arity m → Holds (AsOperand M t args arity m None here_size here_asks here_value) (lower_expression free_temp t root None m)
    unfolding lower_expression
    own_good p m o =
        subst (λ s. Holds (AsOperand M t args arity m None s here_asks here_value) (expression_below free_temp t (suc root) root None m)) (size_at_lem t n falls root inside)
        (subst (λ A. Holds (AsOperand M t args arity m None (size_at t root) A here_value) (expression_below free_temp t (suc root) root None m)) (order_at M t args n falls root inside)
        (subst (λ w. Holds (AsOperand M t args arity m None (size_at t root) (OrderPremise M t args root) w) (expression_below free_temp t (suc root) root None m)) (value_at_lem M t args n falls root inside)
        (expression_at root p None m o tt)))

    pub root_true : PlainFrom root → (m : Made) → Owns arity m → m.state.marks ≡ 0 → Holds (RootJumped true root m) (lower_root free_temp t 2 root m)
    unfolding lower_root lower_jump_if_true bind
    root_true p m o z =
        chain {P = RootJumped true root m}
        (subst (λ s. Holds (Jumped M args arity true m s (OrderPremise M t args root × Unit {0}) (value_at M t args root)) (lower_jump_if_true free_temp t root m)) (sym (size_at_lem t n falls root inside))
        (subst (λ A. Holds (Jumped M args arity true m here_size (A × Unit {0}) (value_at M t args root)) (lower_jump_if_true free_temp t root m)) (sym (order_at M t args n falls root inside))
        (subst (λ w. Holds (Jumped M args arity true m here_size (here_asks × Unit {0}) w) (lower_jump_if_true free_temp t root m)) (sym (value_at_lem M t args n falls root inside))
        (jump_good (λ n d. lower_expression free_temp t n d) (λ n. lower_jump_if_false free_temp t n) (value_at M t args) (size_at t) (OrderPremise M t args)
        (λ c. condition_asks_below M t args (suc c) c) PlainFrom (λ n p d m o g. expression_at n p d m o g) (λ n p m o. condition_at n p m o)
        true here_node (λ c x. plain_child root c p x) m (lower_expression free_temp t root) o (own_good p m o)))))
        (λ j m1 q. rw (no_marks m1 (q.grown.kept.marks ∙ z)) (fine q))
