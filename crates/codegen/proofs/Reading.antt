-- What is read of a node: what it is by the number of its kind, the node that a block comes to, and the register of a name. Assumes nothing.
use Rattle.std.specs.Prelude.{Option, Some, None, Result, Ok, Err}
use Rattle.std.proofs.lemmas.Bool.{not-false}
use Prim.Native.Nat.{ℕ, zero, suc, ◌+◌, ◌%◌, ◌<◌, ◌≤◌}
use native.Mathlib.Omega.{arith}
use native.Mathlib.Decide.{dec_lt, ℕ_discrete}
use mathlib.Core.Path.{◌≡◌, refl, sym, ◌∙◌, ap}
use mathlib.Core.Logic.{◌≢◌}
use mathlib.Core.Bool.{Bool, true, false, cond, not}
use mathlib.Core.List.{List}
use lib.Dec.{ltb, eqb}
use lib.ListN.{length, get_or}
use denote.Enum.Bare.{sameb}
use borrow.Author.Tests.{lt-ltb, le-ltb, leb-true, eqb-true, eqb-false, eq-eqb, ne_eqb}
use Rattle.diagnostics.specs.declared.Refusal.{Refusal}
use Rattle.environment.specs.declared.Register.{Register}
use Rattle.environment.specs.Environment.{lookup}
use Rattle.environment.specs.Laws.{Last}
use Rattle.environment.proofs.Laws.{lookup_found, lookup_refused}
use Rattle.syntax.specs.declared.ast.Node.{Node}
use Rattle.syntax.specs.declared.kind.Kind.{Kind}
use Rattle.syntax.specs.contracts.kind.Kind.{the_type}
use Rattle.syntax.specs.Kinds.{kind_number}
use Rattle.syntax.specs.Ast.{absent, node_of, node_kinds, node_word, node_at}
use Rattle.syntax.proofs.KindWords.{same_number, differs_number}
use Rattle.runtime.specs.declared.instruction.Instruction.{Instruction}
use Rattle.runtime.specs.declared.operand.Operand.{Operand}
use Rattle.runtime.specs.Operands.{reg_of}
use Rattle.lowering.specs.Tree.{Tree, tree_of}
use Rattle.lowering.specs.Checked.{Checked}
use Rattle.lowering.specs.Walk.{Made, Outcome, bind, ret}
use Rattle.lowering.specs.Steps.{free_temp, emit}
use Rattle.lowering.specs.Literals.{literal}
use Rattle.lowering.specs.Lower.{same_register, moved, lower_name, lower_materializing, lower_node, expression_below, lower_expression}
use Rattle.lowering.proofs.Destinations.{block_into, node_kind}
use Rattle.steps.specs.Answers.{any, Aimed, register_at, operand_at, word_end, refusal_start, refusal_at, is_refusal, names_node, error_at, settled, seen}
use Rattle.steps.proofs.Chains.{seen_refusal}
use Rattle.steps.proofs.Words.{register_at_local}
use Rattle.codegen.specs.Ready.{InArena, node_word_of}
use Rattle.codegen.specs.Kinds.{name_kind, binary_kind, block_kind, key_operand, is_compared}
use Rattle.codegen.specs.Flat.{Falling, found_at, LocalOr}
use Rattle.codegen.proofs.Walk.{ended}

-- ---- a kind, and a node that may be absent, by what is asked of them

-- w is the word of the kind k, and told what the program asked
module _ (k K : Kind) {w : ℕ} {b : Bool} (read : kind_number k ≡ w) where
  module _ (told : b ≡ sameb the_type k K) where
    pub kind_is : b ≡ true → w ≡ kind_number K
    kind_is h = eqb-true w (kind_number K) (sym (same_number k K read) ∙ (sym told ∙ h))

    pub kind_is_not : b ≡ false → w ≢ kind_number K
    kind_is_not h = eqb-false w (kind_number K) (sym (same_number k K read) ∙ (sym told ∙ h))

  -- it asked whether it is another
  pub kind_same : b ≡ not (sameb the_type k K) → b ≡ false → w ≡ kind_number K
  kind_same told h = eqb-true w (kind_number K) (not-false _ (sym (differs_number k K read) ∙ (sym told ∙ h)))

-- w is the word that is read
module _ {w : ℕ} {o : Option ℕ} (read : o ≡ node_of w) where
  pub node_there : {n : ℕ} → o ≡ Some n → (n ≡ w) × (w ≢ absent)
  unfolding node_of
  node_there {n} h = go (ℕ_discrete w absent)
    where
      go : Dec (w ≡ absent) → (n ≡ w) × (w ≢ absent)
      go (yes e) = let never : ◌≡◌ {A = Option ℕ} (Some n) None = sym h ∙ (read ∙ rw (eq-eqb w absent e)) in cc
      go (no e) = let same : ◌≡◌ {A = Option ℕ} (Some n) (Some w) = sym h ∙ (read ∙ rw (ne_eqb w absent e)) in (cc, e)

  pub node_absent : o ≡ None → w ≡ absent
  unfolding node_of
  node_absent h = go (ℕ_discrete w absent)
    where
      go : Dec (w ≡ absent) → w ≡ absent
      go (yes e) = e
      go (no e) = let never : ◌≡◌ {A = Option ℕ} None (Some w) = sym h ∙ (read ∙ rw (ne_eqb w absent e)) in cc

-- ---- a node by the number of its kind

-- what a node is not, where its kind is another
pub record Other (kind : ℕ) (n : Node) : Type 0 where
  pub nil : 3 ≤ kind → literal n ≡ Operand.Nil
  pub key : kind ≢ name_kind → key_operand n ≡ literal n
  pub compared : kind ≢ binary_kind → is_compared n ≡ false

plain : {kind : ℕ} {n : Node} → literal n ≡ Operand.Nil → key_operand n ≡ Operand.Nil → is_compared n ≡ false → Other kind n
plain l k q = record { nil = λ h. l; key = λ h. k ∙ sym l; compared = λ h. q }

other : (kind a b c : ℕ) → Other kind (get_or node_kinds kind (λ x y z. Node.Nil) a b c)
unfolding literal key_operand is_compared
other zero a b c = record { nil = λ h. absurd (omega (arith, h)); key = λ h. refl; compared = λ h. refl }
other (suc zero) a b c = record { nil = λ h. absurd (omega (arith, h)); key = λ h. refl; compared = λ h. refl }
other (suc (suc zero)) a b c = record { nil = λ h. absurd (omega (arith, h)); key = λ h. refl; compared = λ h. refl }
other (suc (suc (suc zero))) a b c = plain refl refl refl
other (suc (suc (suc (suc zero)))) a b c = record { nil = λ h. refl; key = λ h. absurd (h refl); compared = λ h. refl }
other (suc (suc (suc (suc (suc zero))))) a b c = record { nil = λ h. refl; key = λ h. refl; compared = λ h. absurd (h refl) }
other (suc (suc (suc (suc (suc (suc zero)))))) a b c = plain refl refl refl
other (suc (suc (suc (suc (suc (suc (suc zero))))))) a b c = plain refl refl refl
other (suc (suc (suc (suc (suc (suc (suc (suc zero)))))))) a b c = plain refl refl refl
other (suc (suc (suc (suc (suc (suc (suc (suc (suc zero))))))))) a b c = plain refl refl refl
other (suc (suc (suc (suc (suc (suc (suc (suc (suc (suc zero)))))))))) a b c = plain refl refl refl
other (suc (suc (suc (suc (suc (suc (suc (suc (suc (suc (suc zero))))))))))) a b c = plain refl refl refl
other (suc (suc (suc (suc (suc (suc (suc (suc (suc (suc (suc (suc zero)))))))))))) a b c = plain refl refl refl
other (suc (suc (suc (suc (suc (suc (suc (suc (suc (suc (suc (suc (suc zero))))))))))))) a b c = plain refl refl refl
other (suc (suc (suc (suc (suc (suc (suc (suc (suc (suc (suc (suc (suc (suc zero)))))))))))))) a b c = plain refl refl refl
other (suc (suc (suc (suc (suc (suc (suc (suc (suc (suc (suc (suc (suc (suc (suc kind))))))))))))))) a b c = plain refl refl refl

pub node_other : (nodes : List ℕ) (i : ℕ) → Other (node_word nodes i 0) (node_at nodes i)
unfolding node_at
node_other nodes i = other (node_word nodes i 0) _ _ _

-- ---- the node that a block comes to

-- where the destination is given, n is lowered as `node` is
abbrev pub Comes : (nodes list names : List ℕ) → ℕ → ℕ → Type 0
Comes nodes list names node n =
    (InArena nodes n × (n ≤ node))
    × ((d : Register) (m : Made) →
    lower_materializing (lower_expression free_temp (tree_of nodes list names) node) (Some d) m
    ≡ lower_materializing (lower_expression free_temp (tree_of nodes list names) n) (Some d) m)

module _ {nodes : List ℕ} (list names : List ℕ) (checked : Checked (tree_of nodes list names)) (falling : Falling nodes) {node n tail : ℕ} (comes : Comes nodes list names node n)
    (block : node_word_of nodes n 0 ≡ block_kind) (tail_there : (tail ≡ node_word_of nodes n 1) × (node_word_of nodes n 1 ≢ absent)) where
  pub tail_below : tail < n
  tail_below = rw tail_there.0 (falling.tail n comes.0.0 block tail_there.1)

  pub tail_comes : Comes nodes list names node tail
  tail_comes = (
    (omega (arith, tail_below), omega (arith, tail_below)),
    (λ d m.
        comes.1 d m
        ∙ block_into checked n tail (rw (← tail_there.0) at (node_kind (tree_of nodes list names) n block_kind block)) (rw (← tail_there.0) at tail_there.1) d m),
  )

-- ---- a name

-- what was found, as a word: a local's, if there is one
module _ (names : List ℕ) (n name : ℕ) {f : Result Register Refusal} (found : f ≡ lookup names n name) where
  last : {register : Register} → f ≡ Ok register → Last names n name register
  last e = lookup_found names n name _ (sym found ∙ e)

  pub found_temporary : {r : ℕ} → f ≡ Ok (Register.Temp r) → ⊥
  found_temporary e =
      let differ : ◌≡◌ {A = ℕ} 0 1 = cc (last e).local in
      omega arith

  pub found_local : {r : ℕ} → f ≡ Ok (Register.Local r) → n ≤ 256 → (found_at (Some (256 + r % 256)) ≡ lookup names n name) × LocalOr (Some (256 + r % 256))
  unfolding found_at
  found_local {r} e h =
      let same : r ≡ (last e).index = cc (last e).local in
      let below : r < 256 = omega (arith, (last e).in_range) in
      (rw (← found, e, register_at_local r below), (omega arith, omega arith))

  pub found_none : {refusal : Refusal} → f ≡ Err refusal → found_at None ≡ lookup names n name
  unfolding found_at
  found_none e = rw (← found, e, (lookup_refused names n name _ (sym found ∙ e)).reason)

-- a name that was found is in a local
pub local_word : {o : Option ℕ} {w : ℕ} → LocalOr o → o ≡ Some w → (256 ≤ w) × (w < any)
local_word l e = rw e at l

-- a destination that is given has a register's word
pub aimed_word : {o : Option ℕ} {d : ℕ} → Aimed o → o ≡ Some d → d < any
aimed_word a e = rw e at a

-- a destination is a local if its word is the local's
pub same_word : (a b : ℕ) → a < any → 256 ≤ b → b < any → same_register (register_at a) (register_at b) ≡ eqb a b
unfolding register_at same_register
same_word a b h low high = rw (le-ltb b 256 low) (go (dec_lt a 256))
  where
    bytes : 256 ≤ a → Dec (a ≡ b) → eqb (a % 256) (b % 256) ≡ eqb a b
    bytes l (yes e) = rw (eq-eqb a b e, eq-eqb (a % 256) (b % 256) (omega arith))
    bytes l (no e) = rw (ne_eqb a b e, ne_eqb (a % 256) (b % 256) (λ q. e (omega arith)))

    go : Dec (a < 256) → same_register (cond (ltb a 256) (Register.Temp a) (Register.Local (a % 256))) (Register.Local (b % 256)) ≡ eqb a b
    go (yes l) = rw (lt-ltb a 256 l, ne_eqb a b (omega arith))
    go (no l) = rw (le-ltb a 256 (omega (arith, l))) (bytes (omega (arith, l)) (ℕ_discrete a b))

module _ (t : Tree) (i : ℕ) (m : Made) where
  -- a name is lowered by what was found of it
  pub named_at : (dest : Option Register) {f : Result Register Refusal} → node_word t.nodes i 0 ≡ name_kind → f ≡ lookup t.names (length t.names) (node_word t.nodes i 1) →
      lower_expression free_temp t i dest m ≡ lower_name t i f dest m
  unfolding lower_expression expression_below lower_node
  named_at dest kind found = rw (node_kind t i name_kind kind, ← found)

  pub name_of : (dest : Option Register) {f : Result Register Refusal} {r : Outcome Operand} → node_word t.nodes i 0 ≡ name_kind → f ≡ lookup t.names (length t.names) (node_word t.nodes i 1) →
      settled (lower_name t i f dest m) ≡ r → settled (lower_expression free_temp t i dest m) ≡ r
  name_of dest kind found q = ap settled (named_at dest kind found) ∙ q

  -- it is not declared
  pub name_undeclared : (dest : Option Register) (gives : ℕ → Operand) {o : Option ℕ} → i < word_end → o ≡ None → settled (lower_name t i (found_at o) dest m) ≡ seen t gives m (refusal_at Refusal.Undeclared i)
  unfolding lower_name found_at settled error_at names_node
  name_undeclared dest gives h e = rw e (sym (seen_refusal t gives m Refusal.Undeclared i h))

  module _ {w : ℕ} {o : Option ℕ} (local : LocalOr o) (declared : o ≡ Some w) where
    -- any register will do
    pub name_free : (n : Node) → settled (lower_name t i (found_at o) None m) ≡ seen t (operand_at n) m w
    unfolding lower_name found_at moved settled
    name_free n = rw declared (ended t n m w (local_word local declared).1)

    module _ {d : ℕ} (few : d < any) where
      -- its own was asked for
      pub name_own : (n : Node) → d ≡ w → settled (lower_name t i (found_at o) (Some (register_at d)) m) ≡ seen t (operand_at n) m d
      unfolding lower_name found_at moved settled
      name_own n own =
          rw (declared, same_word d w few (local_word local declared).0 (local_word local declared).1, eq-eqb d w own, own)
          (ended t n m w (local_word local declared).1)

      -- another one was
      pub name_moved : {r : Outcome Operand} → d ≢ w →
          settled (bind (emit (Instruction.Move (reg_of (register_at d)) (reg_of (register_at w))) m) (λ p. ret (Operand.Register (register_at d)))) ≡ r →
          settled (lower_name t i (found_at o) (Some (register_at d)) m) ≡ r
      unfolding lower_name found_at moved
      name_moved another q = rw (declared, same_word d w few (local_word local declared).0 (local_word local declared).1, ne_eqb d w another) q

-- ---- an answer

-- it was found to be a refusal
pub refused_start : {b : Bool} (a : ℕ) → b ≡ is_refusal a → b ≡ true → refusal_start ≤ a
unfolding is_refusal
refused_start a told taken = leb-true refusal_start a (sym told ∙ taken)
