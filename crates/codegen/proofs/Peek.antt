-- The laws by which a flat node that was tried is what the definition gives: with a register taken beforehand, which is kept only if it is the answer, and with the
-- register given. Assumes nothing.
use Rattle.std.specs.Prelude.{Some, None, Result, Ok, Err}
use Prim.Native.Nat.{ℕ, ◌+◌, ◌<◌, ◌≤◌}
use native.Mathlib.Omega.{arith}
use native.Mathlib.Decide.{dec_lt, ℕ_discrete}
use mathlib.Core.Path.{◌≡◌, refl, sym, ◌∙◌, ap, subst}
use mathlib.Core.Logic.{◌≢◌, ◌⊎◌, inl, inr}
use mathlib.Core.Bool.{Bool, true, false, cond, false≢true}
use mathlib.Core.List.{List}
use lib.Dec.{leb, eqb}
use lib.ListN.{length}
use borrow.Author.Tests.{lt-ltb, le-ltb, le-leb, eq-eqb, ne_eqb, leb-true, leb-false}
use Rattle.diagnostics.specs.declared.Refusal.{Refusal}
use Rattle.words.specs.Words.{words}
use Rattle.environment.specs.declared.Register.{Register}
use Rattle.environment.specs.declared.RegisterSet.{RegisterSet}
use Rattle.environment.specs.declared.Taken.{Taken}
use Rattle.environment.specs.Registers.{taken}
use Rattle.environment.specs.Environment.{lookup}
use Rattle.environment.proofs.Laws.{register_takes, take_refused, lookup_found}
use Rattle.syntax.specs.declared.ast.Node.{Node}
use Rattle.syntax.specs.Ast.{node_word, node_at}
use Rattle.runtime.specs.declared.operand.Operand.{Operand}
use Rattle.lowering.specs.declared.State.{State}
use Rattle.lowering.specs.Tree.{Tree, tree_of, node}
use Rattle.lowering.specs.Checked.{Checked}
use Rattle.lowering.specs.Walk.{Made, made, Outcome, ends, stops, Walk, bind, ret}
use Rattle.lowering.specs.Steps.{with_registers, allocate_temp, free_temp, destination, load_constant}
use Rattle.lowering.specs.Literals.{literal}
use Rattle.lowering.specs.Lower.{source, register, constant, materialized, moved, lower_name, lower_materializing, lower_node, lower_expression, lower_jump_if_false}
use Rattle.lowering.specs.Trace.{registers_of}
use Rattle.lowering.proofs.Bound.Lowering.{expression_at}
use Rattle.lowering.proofs.Running.Steps.{Holds, fine, void, holds_ends}
use Rattle.lowering.proofs.Destinations.{OnlyAnswer, GivesRegister, Stays, bind_bind, literal_source, binary_any, expression_into, expression_register, node_kind}
use Rattle.lowering.specs.declared.Counts.{Counts}
use Rattle.steps.specs.declared.answer.Stepped.{Stepped}
use Rattle.steps.specs.Answers.{none, any, register_at, number_at, literal_word, operand_at, source_at, word_end, refusal_start, is_refusal, value_of, is_inner, refusal_at, names_node, error_at, settled, seen, state_of, WordOrRefusal}
use Rattle.steps.proofs.Chains.{got, stop, seen_given, seen_stopped, seen_word, seen_refusal, some_allocated, none_allocated}
use Rattle.steps.proofs.Words.{register_at_temporary, taken_number, source_operand, is_refusal_refusal, is_inner_inner, value_of_inner}
use Rattle.codegen.specs.declared.flat.Asked.{Asked}
use Rattle.codegen.specs.Ready.{node_word_of}
use Rattle.codegen.specs.Kinds.{name_kind, binary_kind}
use Rattle.codegen.specs.Flat.{is_flat, needing, name_dest, flat_node}
use Rattle.codegen.proofs.Walk.{is_literal_lem, no_literal, literal_expression, literal_materialized, in_register}
use Rattle.codegen.proofs.FlatNodes.{no_inner, own_dest, literal_flat, literal_itself, name_flat, binary_flat}

-- ---- the word of an answer

-- the word of a temporary is its number
word_of : (n : Node) (w r : ℕ) → operand_at n w ≡ Operand.Register (Register.Temp r) → w ≡ r
unfolding source source_at register_at
word_of n w r e = go (ℕ_discrete w literal_word) (dec_lt w 256) (sym (source_operand n w) ∙ ap source e)
  where
    go : Dec (w ≡ literal_word) → Dec (w < 256) → source_at (literal n) w ≡ register (Register.Temp r) → w ≡ r
    go (yes h) l q = let p : constant (literal n) ≡ register (Register.Temp r) = rw (eq-eqb w literal_word h) at q in cc
    go (no h) (yes l) q = let p : register (Register.Temp w) ≡ register (Register.Temp r) = rw (ne_eqb w literal_word h, lt-ltb w 256 l) at q in cc
    go (no h) (no l) q = let p : register (Register.Local _) ≡ register (Register.Temp r) = rw (ne_eqb w literal_word h, le-ltb w 256 (omega arith)) at q in cc

-- an answer that is no refusal is its word
word_itself : (a : ℕ) → WordOrRefusal a → is_refusal a ≡ false → value_of a ≡ a
unfolding is_refusal
word_itself a (inl r) h = absurd (omega (arith, leb-false refusal_start a h))
word_itself a (inr l) h = omega arith

-- after a refusal it makes no difference which registers are held
any_registers : {A : Type 0} (t : Tree) (gives : ℕ → A) (m : Made) (a : ℕ) (rs rs' : RegisterSet) → is_refusal a ≡ true →
    seen t gives (with_registers rs m) a ≡ seen t gives (with_registers rs' m) a
any_registers t gives m a rs rs' h = seen_stopped t gives (with_registers rs m) a h ∙ sym (seen_stopped t gives (with_registers rs' m) a h)

-- ---- whether a node was flat

-- it may be, or is a later kind, by what `is_simple` says
module _ (k : ℕ) {b : Bool} (told : b ≡ leb k binary_kind) where
  pub simple_kind : b ≡ true → k ≤ binary_kind
  simple_kind taken = leb-true k binary_kind (sym told ∙ taken)

  pub not_simple : b ≡ false → binary_kind ≤ k
  not_simple left = omega (arith, leb-false k binary_kind (sym told ∙ left))

-- a node that is left to the walk, by the answer
module _ (a i : ℕ) (told : a ≡ word_end + i) (small : i < word_end) where
  pub inner_only : is_inner a ≡ false → ⊥
  inner_only h = false≢true (sym h ∙ rw told (is_inner_inner i small))

  pub inner_value : value_of a ≡ i
  inner_value = rw told (value_of_inner i small)

-- what `lower_flat` left, by the answer
module _ (nodes : List ℕ) (i : ℕ) (f : Stepped Counts) {counts : Counts} {A : Type 0} (small : i < word_end)
    (left : is_flat nodes i ≡ false → (f ≡ record { after = counts; answer = word_end + i }) × A) where
  pub was_flat : is_inner f.answer ≡ false → is_flat nodes i ≡ true
  was_flat h = go (is_flat nodes i) refl
    where
      go : (b : Bool) → is_flat nodes i ≡ b → is_flat nodes i ≡ true
      go true e = e
      go false e = absurd (inner_only f.answer i (ap (λ x. x.answer) (left e).0) small h)

  later_kind : is_flat nodes i ≡ false → binary_kind ≤ node_word_of nodes i 0
  unfolding is_flat
  later_kind e = go (dec_lt (node_word_of nodes i 0) binary_kind)
    where
      go : Dec (node_word_of nodes i 0 < binary_kind) → binary_kind ≤ node_word_of nodes i 0
      go (yes l) = absurd (false≢true (sym e ∙ rw (ne_eqb (node_word_of nodes i 0) binary_kind (omega arith), le-leb (node_word_of nodes i 0) name_kind (omega arith))))
      go (no h) = omega arith

  -- nothing was done, and the node is an operator or of a later kind
  pub left_over : (is_flat nodes i ≡ true → WordOrRefusal f.answer) → is_inner f.answer ≡ true →
      (f ≡ record { after = counts; answer = word_end + i }) × A × (value_of f.answer ≡ i) × (binary_kind ≤ node_word_of nodes i 0)
  left_over word h = go (is_flat nodes i) refl
    where
      go : (b : Bool) → is_flat nodes i ≡ b → (f ≡ record { after = counts; answer = word_end + i }) × A × (value_of f.answer ≡ i) × (binary_kind ≤ node_word_of nodes i 0)
      go true e = absurd (false≢true (sym (no_inner f.answer (word e)) ∙ h))
      go false e = let same = left e in (same.0, same.1, inner_value f.answer i (ap (λ x. x.answer) same.0) small, later_kind e)

-- ---- a register taken beforehand

-- the registers afterwards: with the one taken, if it is the answer
abbrev holding : (s set : RegisterSet) → ℕ → ℕ → RegisterSet
holding s set d a = cond (eqb a d) set s

-- the state afterwards
abbrev pub Held : (s s' : State) → RegisterSet → ℕ → ℕ → Type 0
Held s s' set d a = (s'.registers ≡ holding s.registers set d a) × (s'.marks ≡ s.marks)

module _ {a d : ℕ} (s : State) {s' : State} (set : RegisterSet) where
  pub held_taken : s' ≡ record { registers = set; counts = s.counts; marks = s.marks } → a ≡ d → Held s s' set d a
  held_taken is e = rw (is, eq-eqb a d e) (refl, refl)

  pub held_left : s' ≡ s → a ≢ d → Held s s' set d a
  held_left is n = rw (is, ne_eqb a d n) (refl, refl)

-- what was made afterwards: m', with the registers that were held in m and the one taken, if it is the answer
abbrev keeping : Made → RegisterSet → ℕ → ℕ → Made → Made
keeping m set d a m' = with_registers (holding (registers_of m) set d a) m'

-- d is the register taken beforehand; the trial answered a
module _ (t : Tree) (n : Node) (m m' : Made) (a d : ℕ) {after : Taken ℕ} (took : after ≡ taken (registers_of m)) (number : d ≡ number_at after.register) where
  -- where there is none, the registers stay
  none_held_lem : d ≡ none → holding (registers_of m) after.set d a ≡ registers_of m
  unfolding number_at
  none_held_lem h = rw (set_stays (taken (registers_of m)).register refl (sym (number ∙ rw took) ∙ h)) (either (eqb a d))
    where
      either : (b : Bool) → cond b (registers_of m) (registers_of m) ≡ registers_of m
      either true = refl
      either false = refl

      set_stays : (p : Result ℕ Refusal) → (taken (registers_of m)).register ≡ p → number_at p ≡ none → after.set ≡ registers_of m
      set_stays (Ok r) e z = absurd (omega (arith, (register_takes (registers_of m) r e).in_range))
      set_stays (Err refusal) e z = rw took (take_refused (registers_of m) refusal e).unchanged

  -- an answer that is no temporary takes none
  stays : (o : Outcome Operand) → Holds (λ x m₁. Stays (source x)) o → settled o ≡ seen t (operand_at n) (with_registers (registers_of m) m') a →
      settled o ≡ seen t (operand_at n) (keeping m after.set d a m') a
  unfolding Stays source_at
  stays o h e = e ∙ ap (λ rs. seen t (operand_at n) (with_registers rs m') a) (sym (go (taken_number (registers_of m) took number) (ℕ_discrete a d)))
    where
      no_temporary : (r : ℕ) → r < 256 → a ≡ r → ⊥
      no_temporary r l q =
          let is : o ≡ ends (operand_at n r) (with_registers (registers_of m) m') =
          got o (operand_at n r) _ (e ∙ rw q (seen_word t (operand_at n) (with_registers (registers_of m) m') r (omega arith))) in
          rw (source_operand n r, ne_eqb r literal_word (omega arith), register_at_temporary r l) at (holds_ends (subst (λ x. Holds (λ x m₁. Stays (source x)) x) is h))

      go : (d ≡ none) ⊎ (d < 256) → Dec (a ≡ d) → holding (registers_of m) after.set d a ≡ registers_of m
      go (inl z) q = none_held_lem z
      go (inr l) (yes q) = absurd (no_temporary d l q)
      go (inr l) (no q) = rw (ne_eqb a d q)

  -- a walk that ends in the register given, with the one taken
  takes : (w : Register → Walk Operand) → ((e : Register) (m₁ : Made) → OnlyAnswer (Operand.Register e) (w e m₁)) → WordOrRefusal a →
      ((rs : RegisterSet) → settled (needing d (w (register_at d)) (with_registers rs m)) ≡ seen t (operand_at n) (with_registers rs m') a) →
      settled (bind (allocate_temp m) w) ≡ seen t (operand_at n) (keeping m after.set d a m') a
  unfolding OnlyAnswer needing bind settled error_at names_node
  takes w into word tried = go (taken_number (registers_of m) took number)
    where
      after_taken : Outcome Operand
      after_taken = w (register_at d) (with_registers after.set m)

      is_answer : d < 256 → is_refusal a ≡ false → settled after_taken ≡ seen t (operand_at n) (with_registers after.set m') a → a ≡ d
      is_answer l h e =
          let is = got after_taken (operand_at n (value_of a)) (with_registers after.set m') (e ∙ seen_given t (operand_at n) (with_registers after.set m') a h) in
          let same = subst (OnlyAnswer (Operand.Register (register_at d))) is (into (register_at d) (with_registers after.set m)) in
          sym (word_itself a word h) ∙ word_of n (value_of a) d (rw (register_at_temporary d l) at same)

      kept : (b : Bool) → is_refusal a ≡ b → d < 256 → settled after_taken ≡ seen t (operand_at n) (with_registers after.set m') a →
          settled after_taken ≡ seen t (operand_at n) (keeping m after.set d a m') a
      kept true h l e = e ∙ any_registers t (operand_at n) m' a _ _ h
      kept false h l e = rw (eq-eqb a d (is_answer l h e)) e

      go : (d ≡ none) ⊎ (d < 256) → settled (bind (allocate_temp m) w) ≡ seen t (operand_at n) (keeping m after.set d a m') a
      go (inl z) =
          stop t (allocate_temp m) register_at m (refusal_at Refusal.Registers 0) w (none_allocated m took number t z) (operand_at n) (is_refusal_refusal Refusal.Registers 0)
          ∙ seen_refusal t (operand_at n) m Refusal.Registers 0 (omega arith)
          ∙ (rw (eq-eqb d none z) at (tried (registers_of m)))
          ∙ ap (λ rs. seen t (operand_at n) (with_registers rs m') a) (sym (none_held_lem z))
      go (inr l) = rw (some_allocated m took number (omega arith)) (kept (is_refusal a) refl l (rw (ne_eqb d none (omega arith)) at (tried after.set)))

-- ---- a flat node by its kind

-- what is in a register is found there again
loaded : (t : Tree) (n : Node) (o : Outcome Register) (m : Made) (a : ℕ) → settled (bind o (λ r. ret (Operand.Register r))) ≡ seen t (operand_at n) m a →
    settled o ≡ seen t register_at m a
unfolding bind source materialized GivesRegister
loaded t n o m a e = ap settled (sym (again o)) ∙ in_register t n None (bind o (λ r. ret (Operand.Register r))) m a (gives o) e
  where
    again : (o : Outcome Register) → bind (bind o (λ r. ret (Operand.Register r))) (λ src. materialized (source src) None) ≡ o
    again (ends r m) = refl
    again (stops f m) = refl

    gives : (o : Outcome Register) → GivesRegister (bind o (λ r. ret (Operand.Register r)))
    gives (ends r m) = tt
    gives (stops f m) = tt

-- the register given is the answer: of a value that was put into it, and of an operand that is in a register
answered_into : (e : Register) (o : Outcome Register) → OnlyAnswer e o → OnlyAnswer (Operand.Register e) (bind o (λ r. ret (Operand.Register r)))
unfolding OnlyAnswer bind
answered_into e (ends r m) h = ap Operand.Register h
answered_into e (stops f m) h = tt

operand_into : (e : Register) (o : Outcome Operand) → GivesRegister o → OnlyAnswer e (bind o (λ src. materialized (source src) (Some e))) → OnlyAnswer (Operand.Register e) o
unfolding GivesRegister OnlyAnswer bind source materialized
operand_into e (ends (Operand.Register r) m) g h = ap Operand.Register h
operand_into e (ends (Operand.Number x) m) g h = absurd g
operand_into e (ends (Operand.String symbol) m) g h = absurd g
operand_into e (ends (Operand.Boolean b) m) g h = absurd g
operand_into e (ends Operand.Nil m) g h = absurd g
operand_into e (stops f m) g h = tt

-- an operator takes a register, and then it is as if that one was given
binary_taken : {t : Tree} → Checked t → (i : ℕ) → node_word t.nodes i 0 ≡ binary_kind → (m : Made) →
    lower_expression free_temp t i None m ≡ bind (allocate_temp m) (λ e. lower_expression free_temp t i (Some e))
binary_taken {t} checked i kind m =
    rw (expression_at checked i None)
    (simp (expression_at checked i, node_kind t i binary_kind kind) (binary_any t (lower_expression free_temp t) (lower_jump_if_false free_temp t) i _ _ _ m))

-- in the register given
pub flat_into : {t : Tree} → Checked t → (i d : ℕ) (m m' : Made) (a : ℕ) → node_word t.nodes i 0 ≤ binary_kind → d < any →
    settled (flat_node t Asked.Into d i m) ≡ seen t (operand_at (node t i)) m' a →
    settled (lower_materializing (lower_expression free_temp t i) (Some (register_at d)) m) ≡ seen t register_at m' a
unfolding lower_materializing needing name_dest
flat_into {t} checked i d m m' a simple few tried = go (dec_lt (node_word t.nodes i 0) name_kind)
  where
    operand : name_kind ≤ node_word t.nodes i 0 → Dec (node_word t.nodes i 0 ≡ name_kind) →
        settled (lower_expression free_temp t i (Some (register_at d)) m) ≡ seen t (operand_at (node t i)) m' a
    operand later (yes e) = rw (name_flat t Asked.Into d i m e) at tried
    operand later (no h) = rw (binary_flat t Asked.Into d i m (omega arith), ne_eqb d none (omega arith)) at tried

    go : Dec (node_word t.nodes i 0 < name_kind) → settled (lower_materializing (lower_expression free_temp t i) (Some (register_at d)) m) ≡ seen t register_at m' a
    go (yes early) =
        ap (λ w. settled (w m)) (literal_materialized t i (is_literal_lem t i early) (Some (register_at d)))
        ∙ (loaded t (node t i) (load_constant (literal (node t i)) (Some (register_at d)) m) m' a
        (rw (literal_flat t Asked.Into d i m early (λ e. cc), ne_eqb d none (omega arith)) at tried))
    go (no h) =
        let later : name_kind ≤ node_word t.nodes i 0 = omega arith in
        in_register t (node t i) (Some (register_at d)) (lower_expression free_temp t i (Some (register_at d)) m) m' a
        (expression_register t i (no_literal checked i later) (Some (register_at d)) m) (operand later (ℕ_discrete (node_word t.nodes i 0) name_kind))

-- with no destination, where d is the register taken beforehand
module _ {t : Tree} (checked : Checked t) (i : ℕ) (asked : Asked) (m m' : Made) (a d : ℕ) {after : Taken ℕ} (took : after ≡ taken (registers_of m)) (number : d ≡ number_at after.register)
    (simple : node_word t.nodes i 0 ≤ binary_kind) (word : WordOrRefusal a)
    (tried : (rs : RegisterSet) → settled (flat_node t asked d i (with_registers rs m)) ≡ seen t (operand_at (node t i)) (with_registers rs m') a) where
  name_stays : node_word t.nodes i 0 ≡ name_kind → Holds (λ x m₁. Stays (source x)) (lower_expression free_temp t i None m)
  unfolding lower_node lower_name moved source Stays
  name_stays kind = rw (expression_at checked i None, node_kind t i name_kind kind) (go (lookup t.names (length t.names) (node_word t.nodes i 1)) refl)
    where
      go : (f : Result Register Refusal) → lookup t.names (length t.names) (node_word t.nodes i 1) ≡ f → Holds (λ x m₁. Stays (source x)) (lower_name t i f None m)
      go (Ok r) e = fine (subst (λ r. Stays (register r)) (sym (lookup_found t.names (length t.names) (node_word t.nodes i 1) r e).local) tt)
      go (Err refusal) e = void

  -- a name or an operator
  later_operand : name_kind ≤ node_word t.nodes i 0 → asked ≢ Asked.Into →
      settled (lower_expression free_temp t i None m) ≡ seen t (operand_at (node t i)) (keeping m after.set d a m') a
  unfolding lower_materializing
  later_operand later q = go (ℕ_discrete (node_word t.nodes i 0) name_kind)
    where
      go : Dec (node_word t.nodes i 0 ≡ name_kind) → settled (lower_expression free_temp t i None m) ≡ seen t (operand_at (node t i)) (keeping m after.set d a m') a
      go (yes e) =
          stays t (node t i) m m' a d took number (lower_expression free_temp t i None m) (name_stays e)
          (rw (name_flat t asked d i m e, own_dest asked d q) at (tried (registers_of m)))
      go (no h) =
          let kind : node_word t.nodes i 0 ≡ binary_kind = omega arith in
          let into : (e : Register) (m₁ : Made) → OnlyAnswer (Operand.Register e) (lower_expression free_temp t i (Some e) m₁) =
          λ e m₁. operand_into e (lower_expression free_temp t i (Some e) m₁) (expression_register t i (no_literal checked i later) (Some e) m₁) (expression_into t i e m₁) in
          rw (binary_taken checked i kind m)
          (takes t (node t i) m m' a d took number (λ e. lower_expression free_temp t i (Some e)) into word
          (λ rs. rw (binary_flat t asked d i (with_registers rs m) kind) at (tried rs)))

  -- a literal is its operand
  literal_operand : node_word t.nodes i 0 < name_kind → asked ≡ Asked.Operand →
      settled (lower_expression free_temp t i None m) ≡ seen t (operand_at (node t i)) (keeping m after.set d a m') a
  unfolding Stays settled
  literal_operand early q =
      rw (literal_expression t i (is_literal_lem t i early) None)
      (stays t (node t i) m m' a d took number (ends (literal (node t i)) m) (fine (rw (literal_source (node t i)) tt))
      (rw (literal_itself t asked d i m early q) at (tried (registers_of m))))

  -- or is loaded
  literal_register : node_word t.nodes i 0 < name_kind → asked ≢ Asked.Operand →
      settled (lower_materializing (lower_expression free_temp t i) None m) ≡ seen t register_at (keeping m after.set d a m') a
  unfolding load_constant destination bind
  literal_register early q =
      let load : Register → Walk Register = λ e. load_constant (literal (node t i)) (Some e) in
      let into : (e : Register) (m₁ : Made) → OnlyAnswer e (load e m₁) = λ e m₁. rw (literal_materialized t i (is_literal_lem t i early) (Some e)) at (expression_into t i e m₁) in
      rw (literal_materialized t i (is_literal_lem t i early) None)
      (loaded t (node t i) (bind (allocate_temp m) load) (keeping m after.set d a m') a
      (ap settled (bind_bind (allocate_temp m) load (λ r. ret (Operand.Register r)))
      ∙ takes t (node t i) m m' a d took number (λ e m₁. bind (load e m₁) (λ r. ret (Operand.Register r))) (λ e m₁. answered_into e (load e m₁) (into e m₁)) word
      (λ rs. rw (literal_flat t asked d i (with_registers rs m) early q) at (tried rs))))

  flat_operand : asked ≡ Asked.Operand →
      settled (lower_expression free_temp t i None m) ≡ seen t (operand_at (node t i)) (keeping m after.set d a m') a
  flat_operand q = go (dec_lt (node_word t.nodes i 0) name_kind)
    where
      go : Dec (node_word t.nodes i 0 < name_kind) → settled (lower_expression free_temp t i None m) ≡ seen t (operand_at (node t i)) (keeping m after.set d a m') a
      go (yes early) = literal_operand early q
      go (no h) = later_operand (omega arith) (λ e. cc)

  flat_register : asked ≡ Asked.Register →
      settled (lower_materializing (lower_expression free_temp t i) None m) ≡ seen t register_at (keeping m after.set d a m') a
  unfolding lower_materializing
  flat_register q = go (dec_lt (node_word t.nodes i 0) name_kind)
    where
      go : Dec (node_word t.nodes i 0 < name_kind) →
          settled (lower_materializing (lower_expression free_temp t i) None m) ≡ seen t register_at (keeping m after.set d a m') a
      go (yes early) = literal_register early (λ e. cc)
      go (no h) =
          let later : name_kind ≤ node_word t.nodes i 0 = omega arith in
          in_register t (node t i) None (lower_expression free_temp t i None m) (keeping m after.set d a m') a
          (expression_register t i (no_literal checked i later) None m) (later_operand later (λ e. cc))

-- the same, by what `lower_flat` ensures, and by the state afterwards
module _ (nodes names code code' pool pool' marks marks' : List ℕ) (i : ℕ) (asked : Asked) (d : ℕ) (s s' : State) (f : Stepped Counts) {after : Taken ℕ} {A : Type 0}
    (took : after ≡ taken s.registers) (number : d ≡ number_at after.register) (held : Held s s' after.set d f.answer)
    (simple : node_word_of nodes i 0 ≤ binary_kind) (small : i < word_end)
    (left : is_flat nodes i ≡ false → (f ≡ record { after = s.counts; answer = word_end + i }) × A)
    (word : is_flat nodes i ≡ true → WordOrRefusal f.answer)
    (list : List ℕ) (checked : Checked (tree_of nodes list names)) (tried : (rs : RegisterSet) (n : ℕ) → is_flat nodes i ≡ true →
    settled (flat_node (tree_of nodes list names) asked d i (made code pool marks (state_of rs s.counts n)))
    ≡ seen (tree_of nodes list names) (operand_at (node_at (words nodes) i)) (made code' pool' marks' (state_of rs f.after n)) f.answer)
    (told : is_inner f.answer ≡ false) where
  pub peeked_operand : asked ≡ Asked.Operand →
      settled (lower_expression free_temp (tree_of nodes list names) i None (made code pool marks s))
      ≡ seen (tree_of nodes list names) (operand_at (node_at (words nodes) i)) (made code' pool' marks' (state_of s'.registers f.after s'.marks)) f.answer
  peeked_operand q =
      let flat = was_flat nodes i f small left told in
      rw (held.0, held.1)
      (flat_operand checked i asked (made code pool marks s) (made code' pool' marks' (state_of s.registers f.after s.marks)) f.answer d took number simple (word flat)
      (λ rs. tried rs s.marks flat) q)

  pub peeked_register : asked ≡ Asked.Register →
      settled (lower_materializing (lower_expression free_temp (tree_of nodes list names) i) None (made code pool marks s))
      ≡ seen (tree_of nodes list names) register_at (made code' pool' marks' (state_of s'.registers f.after s'.marks)) f.answer
  peeked_register q =
      let flat = was_flat nodes i f small left told in
      rw (held.0, held.1)
      (flat_register checked i asked (made code pool marks s) (made code' pool' marks' (state_of s.registers f.after s.marks)) f.answer d took number simple (word flat)
      (λ rs. tried rs s.marks flat) q)
