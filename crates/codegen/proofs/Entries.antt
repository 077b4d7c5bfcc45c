-- The laws by which lower_map, entry, flat_entry and set_property do what the clauses of a map say: a property store by its two fields, an entry by its key, and the
-- entries one by one. Assumes nothing.
use Rattle.std.specs.Prelude.{Option, Some, None}
use Rattle.std.specs.Option.{is_some}
use Prim.Native.Nat.{ℕ, zero, suc, ◌+◌, ◌*◌, ◌-◌, ◌<◌, ◌≤◌}
use native.Mathlib.Omega.{arith}
use native.Mathlib.Decide.{ℕ_discrete}
use mathlib.Core.Path.{ap, ◌≡◌, refl, sym, ◌∙◌}
use mathlib.Core.Logic.{◌≢◌}
use mathlib.Core.Bool.{Bool, true, false, cond, not, not-not, ◌&&◌, ◌||◌, false≢true, true≢false}
use mathlib.Core.List.{List, [], ◌∷◌}
use lib.Dec.{eqb, leb}
use lib.ListN.{get_or}
use denote.Enum.Bare.{sameb}
use borrow.Author.Tests.{leb-true, eqb-true, eqb-false, eq-eqb, ne_eqb}
use Rattle.diagnostics.specs.declared.Refusal.{Refusal}
use Rattle.words.specs.Words.{words}
use Rattle.environment.specs.declared.Register.{Register}
use Rattle.environment.specs.declared.RegisterSet.{RegisterSet}
use Rattle.syntax.specs.declared.ast.Node.{Node}
use Rattle.syntax.specs.declared.kind.Kind.{Kind}
use Rattle.syntax.specs.contracts.kind.Kind.{the_type}
use Rattle.syntax.specs.Kinds.{kind_number}
use Rattle.syntax.specs.Ast.{absent, node_of, node_kinds, node_word}
use Rattle.syntax.proofs.KindWords.{differs_number}
use Rattle.runtime.specs.declared.instruction.Instruction.{Instruction}
use Rattle.runtime.specs.declared.opcode.Opcode.{Opcode}
use Rattle.runtime.specs.declared.operand.Operand.{Operand}
use Rattle.runtime.specs.Operands.{reg_of}
use Rattle.runtime.specs.Instruction.{words_of}
use Rattle.runtime.specs.Opcode.{opcode_number}
use Rattle.lowering.specs.declared.State.{State}
use Rattle.lowering.specs.Tree.{Tree, node}
use Rattle.lowering.specs.Walk.{Made, made, Outcome, ends, stops, Walk, bind, ◌>>=◌, ret}
use Rattle.lowering.specs.Steps.{free_temp, emit, store}
use Rattle.lowering.specs.Literals.{is_literal, literal}
use Rattle.lowering.specs.Lower.{Source, source, register, constant, name_of, materialized, lower_materializing, store_named, store_keyed, lower_entry, lower_entries, lower_expression}
use Rattle.lowering.proofs.Destinations.{GivesRegister, expression_register, node_kind}
use Rattle.lowering.specs.declared.Counts.{Counts}
use Rattle.steps.specs.declared.answer.Stepped.{Stepped}
use Rattle.steps.specs.Answers.{register_at, literal_word, operand_at, source_at, place_at, word_end, refusal_at, is_refusal, value_of, names_node, error_at, settled, seen, state_of}
use Rattle.steps.proofs.Chains.{got, stop_by, nested, seen_given, seen_word, seen_refusal}
use Rattle.steps.proofs.Words.{source_operand, reg_of_register_at}
use Rattle.codegen.specs.Ready.{InArena}
use Rattle.codegen.specs.Kinds.{name_kind, key_operand, set_opcode}
use Rattle.codegen.proofs.FlatNodes.{then_leaf}

-- ---- a property store

-- the field of a source: its register, or the place of its constant, which is pooled
unfoldable pub field_of : Source → Walk ℕ
field_of (register r) = ret (reg_of r)
field_of (constant c) = store c

-- the instruction, by where key and value are
unfoldable pub set_by : Source → Source → ℕ → ℕ → ℕ → Instruction
set_by (register k) (register v) d key value = Instruction.SetProperty d key value
set_by (register k) (constant v) d key value = Instruction.SetPropertyRK d key value
set_by (constant k) (register v) d key value = Instruction.SetPropertyKR d key value
set_by (constant k) (constant v) d key value = Instruction.SetPropertyKK d key value

-- a property store is its fields, key before value, and the instruction
pub by_fields : (t : Tree) (E : ℕ → Option Register → Walk Operand) (d : Register) (x y : Source) (m : Made) {r : Outcome ℕ} →
    settled (bind (field_of x m) (λ key m₁. bind (field_of y m₁) (λ value. emit (set_by x y (reg_of d) key value)))) ≡ r → settled (store_keyed t E d x y m) ≡ r
unfolding store_keyed field_of set_by bind
by_fields t E d (register k) (register v) m q = q
by_fields t E d (register k) (constant v) m q = q
by_fields t E d (constant k) (register v) m q = q
by_fields t E d (constant k) (constant v) m q = q

-- its words, by the words of the sources
pub set_words : (x y : Operand) (src1 src2 d key value : ℕ) → words_of (set_by (source_at x src1) (source_at y src2) d key value) ≡ opcode_number (set_opcode src1 src2) ∷ d ∷ key ∷ value ∷ []
unfolding source_at set_opcode set_by words_of
set_words x y src1 src2 d key value = go (eqb src1 literal_word) (eqb src2 literal_word)
  where
    go : (p q : Bool) →
        words_of (set_by (cond p (constant x) (register (register_at src1))) (cond q (constant y) (register (register_at src2))) d key value)
        ≡ opcode_number (cond p (cond q Opcode.SetPropertyKK Opcode.SetPropertyKR) (cond q Opcode.SetPropertyRK Opcode.SetProperty)) ∷ d ∷ key ∷ value ∷ []
    go true true = refl
    go true false = refl
    go false true = refl
    go false false = refl

-- a field, by what the program has of it
pub field_step : (t : Tree) (c : Operand) (src : ℕ) (code marks : List ℕ) {pool pool₁ : List ℕ} {counts : Counts} {r : Stepped Counts} (rs : RegisterSet) (n : ℕ) →
    (src ≡ literal_word → (t : Tree) (rs : RegisterSet) (n : ℕ) (k m : List ℕ) →
    settled (store c (made k pool m (state_of rs counts n))) ≡ seen t place_at (made k pool₁ m (state_of rs r.after n)) r.answer) →
    (src ≢ literal_word → (r ≡ record { after = counts; answer = reg_of (register_at src) }) × (pool₁ ≡ pool)) →
    settled (field_of (source_at c src) (made code pool marks (state_of rs counts n))) ≡ seen t place_at (made code pool₁ marks (state_of rs r.after n)) r.answer
unfolding source_at field_of settled
field_step t c src code marks {pool} {pool₁} {counts} {r} rs n pooled held = go (ℕ_discrete src literal_word)
  where
    go : Dec (src ≡ literal_word) →
        settled (field_of (source_at c src) (made code pool marks (state_of rs counts n))) ≡ seen t place_at (made code pool₁ marks (state_of rs r.after n)) r.answer
    go (yes l) = rw (eq-eqb src literal_word l) (pooled l t rs n code marks)
    go (no l) =
        let small : reg_of (register_at src) < word_end = omega (arith, reg_of_register_at src) in
        rw (ne_eqb src literal_word l, (held l).0, (held l).1) (sym (seen_word t place_at _ (reg_of (register_at src)) small))

-- ---- an entry by its key

-- the node whose value an entry gets is in the arena
pub child_inside : (nodes : List ℕ) (key value child : ℕ) → InArena nodes key → (value ≢ absent → InArena nodes value) → child ≡ cond (eqb value absent) key value → InArena nodes child
child_inside nodes key value child key_inside value_inside is = rw is (go (ℕ_discrete value absent))
  where
    go : Dec (value ≡ absent) → InArena nodes (cond (eqb value absent) key value)
    go (yes h) = rw (eq-eqb value absent h) key_inside
    go (no h) = rw (ne_eqb value absent h) (value_inside h)

-- it is the value, if there is one
pub valued : (key value : ℕ) → value ≢ absent → value ≡ cond (eqb value absent) key value
valued key value h = rw (ne_eqb value absent h)

-- there is one if it is below a node
pub below_absent : (i value : ℕ) → value < i → i < word_end → value ≢ absent
below_absent i value below small e = omega arith

pub past_name : {kind : ℕ} → name_kind < kind → kind ≢ name_kind
past_name past e = omega arith

-- what the program asks of an entry, by the kind of its key: whether a key alone is no name
module _ {kind : ℕ} (k : Kind) (value : ℕ) (n : Bool) {b : Bool} {o : Option ℕ} (read : kind_number k ≡ kind) (told : b ≡ not (sameb the_type k Kind.Identifier)) (asked : o ≡ node_of value)
    (none : is_some o ≡ not n) where
  no_value : n ≡ eqb value absent
  unfolding node_of
  no_value = sym (not-not n) ∙ ap not (sym none ∙ ap is_some asked) ∙ go (eqb value absent)
    where
      go : (c : Bool) → not (is_some (cond c None (Some value))) ≡ c
      go true = refl
      go false = refl

  both : b && n ≡ not (eqb kind name_kind) && eqb value absent
  both = rw (told, differs_number k Kind.Identifier read, no_value)

  pub alone : b && n ≡ true → (kind ≢ name_kind) × (value ≡ absent)
  alone h = go (ℕ_discrete kind name_kind)
    where
      go : Dec (kind ≡ name_kind) → (kind ≢ name_kind) × (value ≡ absent)
      go (yes e) = absurd (false≢true (rw (both, eq-eqb kind name_kind e) at h))
      go (no e) = (e, eqb-true value absent (rw (both, ne_eqb kind name_kind e) at h))

  pub not_alone : b && n ≡ false → kind ≢ name_kind → value ≢ absent
  not_alone h e = eqb-false value absent (rw (both, ne_eqb kind name_kind e) at h)

-- and whether the key and the node whose value it gets are leaves
module _ {kind other : ℕ} (k k' : Kind) {l l' : Bool} (read : kind_number k ≡ kind) (read' : kind_number k' ≡ other) (told : l ≡ leb (kind_number k) name_kind)
    (told' : l' ≡ leb (kind_number k') name_kind) where
  pub both_leaves : not l || not l' ≡ false → (kind ≤ name_kind) × (other ≤ name_kind)
  both_leaves h = go l l' (told ∙ rw read) (told' ∙ rw read') h
    where
      go : (a b : Bool) → a ≡ leb kind name_kind → b ≡ leb other name_kind → not a || not b ≡ false → (kind ≤ name_kind) × (other ≤ name_kind)
      go true true e e' h = (leb-true kind name_kind (sym e), leb-true other name_kind (sym e'))
      go true false e e' h = absurd (true≢false h)
      go false b e e' h = absurd (true≢false h)

  -- if not, there is a value
  pub has_value : {value : ℕ} → not l || not l' ≡ true → (value ≡ absent → other ≡ kind) → (kind ≢ name_kind → value ≢ absent) → value ≢ absent
  has_value deep same has e = has (λ n. false≢true (rw (told, told', read, read', same e, n) at deep)) e

module _ (t : Tree) (E : ℕ → Option Register → Walk Operand) (d : Register) where
  -- a name that is looked up is in a register
  looked_up : (name : ℕ) (o : Outcome Operand) → GivesRegister o →
      bind (bind o (λ src. materialized (source src) None)) (λ src m. bind (store (Operand.String name) m) (λ k. emit (Instruction.SetPropertyKR (reg_of d) k (reg_of src))))
      ≡ bind o (λ src. store_keyed t E d (constant (Operand.String name)) (source src))
  unfolding GivesRegister source materialized store_keyed bind
  looked_up name (ends (Operand.Register r) m) g = refl
  looked_up name (ends (Operand.Number x) m) g = absurd g
  looked_up name (ends (Operand.String symbol) m) g = absurd g
  looked_up name (ends (Operand.Boolean b) m) g = absurd g
  looked_up name (ends Operand.Nil m) g = absurd g
  looked_up name (stops e m) g = refl

  -- a name is a constant key
  constant_key : (name : ℕ) (x : Source) → (store (Operand.String name) >>= λ k. store_named t E d k x) ≡ store_keyed t E d (constant (Operand.String name)) x
  unfolding store_named store_keyed
  constant_key name (register r) = refl
  constant_key name (constant c) = refl

  -- so an entry whose key is a name: the value, or what the name gives, and then the store
  named_entry : (key value name : ℕ) (m : Made) → GivesRegister (E key None m) →
      lower_entry t E d key value (Some name) m
      ≡ bind (E (cond (eqb value absent) key value) None m) (λ src. store_keyed t E d (constant (Operand.String name)) (source src))
  unfolding lower_entry lower_materializing
  named_entry key value name m g = go (ℕ_discrete value absent)
    where
      go : Dec (value ≡ absent) →
          lower_entry t E d key value (Some name) m
          ≡ bind (E (cond (eqb value absent) key value) None m) (λ src. store_keyed t E d (constant (Operand.String name)) (source src))
      go (yes h) = rw (eq-eqb value absent h) (looked_up name (E key None m) g)
      go (no h) = rw (ne_eqb value absent h) (simp (constant_key name))

-- a name key: the node whose value it gets, and the store, with the name pooled
name_key : (t : Tree) (d : Register) (key value child : ℕ) (m : Made) {r : Outcome ℕ} → node_word t.nodes key 0 ≡ name_kind → child ≡ cond (eqb value absent) key value →
    settled (bind (lower_expression free_temp t child None m)
    (λ src. store_keyed t (lower_expression free_temp t) d (source_at (key_operand (node t key)) literal_word) (source src))) ≡ r →
    settled (lower_entry t (lower_expression free_temp t) d key value (name_of (node t key)) m) ≡ r
unfolding name_of key_operand source_at is_literal
name_key t d key value child m kind same q =
    let is = node_kind t key name_kind kind in
    rw (is, named_entry t (lower_expression free_temp t) d key value _ m (expression_register t key (rw is) None m)) (rw (same, is) at q)

-- a kind that is no name's
other_kind : (k a b c : ℕ) → k ≢ name_kind →
    (name_of (get_or node_kinds k (λ x y z. Node.Nil) a b c) ≡ None)
    × (key_operand (get_or node_kinds k (λ x y z. Node.Nil) a b c) ≡ literal (get_or node_kinds k (λ x y z. Node.Nil) a b c))
unfolding name_of key_operand literal
other_kind zero a b c h = (refl, refl)
other_kind (suc zero) a b c h = (refl, refl)
other_kind (suc (suc zero)) a b c h = (refl, refl)
other_kind (suc (suc (suc zero))) a b c h = (refl, refl)
other_kind (suc (suc (suc (suc zero)))) a b c h = absurd (h refl)
other_kind (suc (suc (suc (suc (suc zero))))) a b c h = (refl, refl)
other_kind (suc (suc (suc (suc (suc (suc zero)))))) a b c h = (refl, refl)
other_kind (suc (suc (suc (suc (suc (suc (suc zero))))))) a b c h = (refl, refl)
other_kind (suc (suc (suc (suc (suc (suc (suc (suc zero)))))))) a b c h = (refl, refl)
other_kind (suc (suc (suc (suc (suc (suc (suc (suc (suc zero))))))))) a b c h = (refl, refl)
other_kind (suc (suc (suc (suc (suc (suc (suc (suc (suc (suc zero)))))))))) a b c h = (refl, refl)
other_kind (suc (suc (suc (suc (suc (suc (suc (suc (suc (suc (suc zero))))))))))) a b c h = (refl, refl)
other_kind (suc (suc (suc (suc (suc (suc (suc (suc (suc (suc (suc (suc zero)))))))))))) a b c h = (refl, refl)
other_kind (suc (suc (suc (suc (suc (suc (suc (suc (suc (suc (suc (suc (suc zero))))))))))))) a b c h = (refl, refl)
other_kind (suc (suc (suc (suc (suc (suc (suc (suc (suc (suc (suc (suc (suc (suc zero)))))))))))))) a b c h = (refl, refl)
other_kind (suc (suc (suc (suc (suc (suc (suc (suc (suc (suc (suc (suc (suc (suc (suc k))))))))))))))) a b c h = (refl, refl)

-- any other key: without a value; with one, the two and the store, by what is seen of their words
module _ (t : Tree) (E : ℕ → Option Register → Walk Operand) (d : Register) (key value : ℕ) (m : Made) (kind : node_word t.nodes key 0 ≢ name_kind) where
  other_key : (name_of (node t key) ≡ None) × (key_operand (node t key) ≡ literal (node t key))
  other_key = rw (node_kind t key (node_word t.nodes key 0) refl) (other_kind (node_word t.nodes key 0) _ _ _ kind)

  pub key_alone : value ≡ absent → key < word_end → settled (lower_entry t E d key value (name_of (node t key)) m) ≡ seen t place_at m (refusal_at Refusal.Key key)
  unfolding lower_entry settled error_at names_node
  key_alone h few = rw (other_key.0, eq-eqb value absent h) (sym (seen_refusal t place_at m Refusal.Key key few))

  pub key_and_value : {r : Outcome ℕ} → value ≢ absent →
      settled (bind (E key None m) (λ k m₁. bind (E value None m₁) (λ v. store_keyed t E d (source k) (source v)))) ≡ r →
      settled (lower_entry t E d key value (name_of (node t key)) m) ≡ r
  unfolding lower_entry
  key_and_value h q = rw (other_key.0, ne_eqb value absent h) q

  pub store_both : (src1 src2 : ℕ) {r : Outcome ℕ} → settled (store_keyed t E d (source_at (key_operand (node t key)) src1) (source_at (literal (node t value)) src2) m) ≡ r →
      settled (store_keyed t E d (source (operand_at (node t key) src1)) (source (operand_at (node t value) src2)) m) ≡ r
  store_both src1 src2 q = rw (source_operand (node t key) src1, source_operand (node t value) src2) (rw other_key.1 at q)

-- a key that is a name or a literal: the node whose value it gets, and the store, with the key pooled
pub leaf_key : (t : Tree) (d : Register) (key value child : ℕ) (m : Made) {r : Outcome ℕ} → node_word t.nodes key 0 ≤ name_kind → (node_word t.nodes key 0 ≢ name_kind → value ≢ absent) →
    child ≡ cond (eqb value absent) key value →
    settled (bind (lower_expression free_temp t child None m)
    (λ src. store_keyed t (lower_expression free_temp t) d (source_at (key_operand (node t key)) literal_word) (source src))) ≡ r →
    settled (lower_entry t (lower_expression free_temp t) d key value (name_of (node t key)) m) ≡ r
leaf_key t d key value child m {r} few has same q = go (ℕ_discrete (node_word t.nodes key 0) name_kind)
  where
    go : Dec (node_word t.nodes key 0 ≡ name_kind) → settled (lower_entry t (lower_expression free_temp t) d key value (name_of (node t key)) m) ≡ r
    go (yes e) = name_key t d key value child m e same q
    go (no e) =
        let is : child ≡ value = same ∙ sym (valued key value (has e)) in
        key_and_value t (lower_expression free_temp t) d key value m e (has e)
        (then_leaf t key (Some literal_word) ((λ h. absurd (e h)), (λ h. refl)) refl m _ few
        (rw (source_operand (node t key) literal_word) (rw ((other_key t (lower_expression free_temp t) d key value m e).1, is) at q)))

-- ---- the entries of a map

-- of count, i are done, and the rest gives what the whole gives
module _ (t : Tree) (E : ℕ → Option Register → Walk Operand) (d : Register) (first count i : ℕ) (m₀ m : Made)
    (rest : lower_entries t E d first count 0 m₀ ≡ lower_entries t E d first (count - i) i m) where
  pub entries_none : count ≡ i → lower_entries t E d first count 0 m₀ ≡ ends tt m
  unfolding lower_entries
  entries_none h = let z : count - i ≡ 0 = omega arith in rest ∙ rw z

  -- an entry that was lowered
  module _ (key value : ℕ) (m₁ : Made) (a : ℕ) {b : Bool} (more : i < count) (is_key : key ≡ get_or t.list (first + 2 * i) 0) (is_value : value ≡ get_or t.list (first + 2 * i + 1) 0)
      (e : settled (lower_entry t E d key value (name_of (node t key)) m) ≡ seen t place_at m₁ a) (told : b ≡ is_refusal a) where
    next_entry : lower_entries t E d first count 0 m₀ ≡ bind (lower_entry t E d key value (name_of (node t key)) m) (λ x. lower_entries t E d first (count - (i + 1)) (i + 1))
    unfolding lower_entries
    next_entry =
        let z : count - i ≡ suc (count - (i + 1)) = omega arith in
        let next : i + 1 ≡ suc i = omega arith in
        rest ∙ rw (z, next, ← is_key, ← is_value)

    pub entries_again : b ≡ false → lower_entries t E d first count 0 m₀ ≡ lower_entries t E d first (count - (i + 1)) (i + 1) m₁
    unfolding bind
    entries_again left = next_entry ∙ rw (got _ (value_of a) m₁ (e ∙ seen_given t place_at m₁ a (sym told ∙ left)))

    pub entries_stop : {B : Type 0} (k : Unit {0} → Walk B) (gives : ℕ → B) → b ≡ true → settled (bind (lower_entries t E d first count 0 m₀) k) ≡ seen t gives m₁ a
    entries_stop k gives taken = rw next_entry (nested _ _ k (stop_by t _ place_at m₁ a _ e gives told taken))

-- where two ways meet, by the buffers' bytes and the state
pub at_next : (t : Tree) (E : ℕ → Option Register → Walk Operand) (d : Register) (first n i : ℕ) {code code₁ pool pool₁ marks marks₁ : List ℕ} {s s₁ : State} {o : Outcome Unit} →
    code ≡ code₁ → pool ≡ pool₁ → marks ≡ marks₁ → s ≡ s₁ →
    o ≡ lower_entries t E d first n i (made (words code₁) (words pool₁) (words marks₁) s₁) → o ≡ lower_entries t E d first n i (made (words code) (words pool) (words marks) s)
at_next t E d first n i e f g h q = rw (e, f, g, h) q
