-- The questions before the walk: what a tree that passes them gives the walk, at every node, and which question refuses one that does not, and
-- where. Assumes nothing.
use Prim.Native.Nat.{ℕ, zero, suc, ◌+◌, ◌*◌, ◌%◌, ◌≤◌, ◌<◌}
use native.Mathlib.Omega.{arith}
use native.Mathlib.Decide.{ℕ_discrete, dec_lt}
use mathlib.Core.Path.{◌≡◌, refl, ◌∙◌}
use mathlib.Core.Logic.{◌≢◌, ◌↔◌}
use mathlib.Core.List.{List, [], ◌∷◌, ◌++◌}
use mathlib.Core.Bool.{Bool, true, false, cond, not, ◌&&◌, false≢true}
use lib.Dec.{leb, ltb, eqb}
use lib.Ieee.{binary64, nan_bits}
use lib.ListN.{length, get_or, take, drop, length-take, length-drop, get_or-eq_default}
use lib.Seq.{get_or-take, get_or-drop}
use borrow.Author.Tests.{ltb-true, leb-true, eqb-true, ne_eqb, not-true}
use Rattle.diagnostics.specs.declared.Refusal.{Refusal}
use Rattle.words.specs.Words.{word_bytes, words}
use Rattle.words.specs.Records.{capacity}
use Rattle.words.proofs.Words.{length_words}
use Rattle.syntax.specs.declared.ast.Node.{Node}
use Rattle.syntax.specs.Ast.{node_width, node_word, node_at, node_kinds, absent}
use Rattle.lowering.specs.Tree.{tree_of, Tree, node, present, entry_nodes, children}
use Rattle.lowering.specs.Questions.{max_nodes, max_list_words, whole, question1, question2, question3, question4, question5, question6, question7, all_below, Verdict, passed, refused, ask, ask_node, ask_nodes, questions}
use Rattle.lowering.specs.Checked.{CheckedNode, Checked, NodeNo, no_kind, no_unused, no_number, no_list, no_order, nodes_in, AllYes, FirstNo, no_size, no_root, no_node, no_parameters, Below}

-- a conjunction's parts
pub and_left : (a b : Bool) → (a && b) ≡ true → a ≡ true
and_left true b h = refl
and_left false b h = absurd (false≢true h)

pub and_right : (a b : Bool) → (a && b) ≡ true → b ≡ true
and_right true b h = h
and_right false b h = absurd (false≢true h)

module _ (i : ℕ) where
  below_head : (n : ℕ) (ns : List ℕ) → all_below i (n ∷ ns) ≡ true → n < i
  unfolding all_below
  below_head n ns h = ltb-true n i (and_left (ltb n i) (all_below i ns) h)

  below_rest : (n : ℕ) (ns : List ℕ) → all_below i (n ∷ ns) ≡ true → all_below i ns ≡ true
  unfolding all_below
  below_rest n ns h = and_right (ltb n i) (all_below i ns) h

  below_at : (ns : List ℕ) → all_below i ns ≡ true → (k : ℕ) → k < length ns → get_or ns k 0 < i
  below_at [] h k l = absurd (omega arith)
  below_at (n ∷ ns) h zero l = below_head n ns h
  below_at (n ∷ ns) h (suc k) l = below_at ns (below_rest n ns h) k (omega arith)

  -- a node that may be absent, alone and with what stands after it
  below_present : (n : ℕ) → all_below i (present n) ≡ true → n ≢ absent → n < i
  unfolding present
  below_present n h ne = below_head n [] (rw (ne_eqb n absent ne) at h)

  below_before : (n : ℕ) (ns : List ℕ) → all_below i (present n ++ ns) ≡ true → n ≢ absent → n < i
  unfolding present
  below_before n ns h ne = below_head n ns (rw (ne_eqb n absent ne) at h)

  below_after : (n : ℕ) (ns : List ℕ) → all_below i (present n ++ ns) ≡ true → all_below i ns ≡ true
  unfolding present
  below_after n ns h = go (eqb n absent) h
    where
      go : (b : Bool) → all_below i (cond b [] (n ∷ []) ++ ns) ≡ true → all_below i ns ≡ true
      go true p = p
      go false p = below_rest n ns p

  below_key : (ns : List ℕ) → all_below i (entry_nodes ns) ≡ true → (k : ℕ) → 2 * k + 1 < length ns → get_or ns (2 * k) 0 < i
  unfolding entry_nodes
  below_key [] h k l = absurd (omega arith)
  below_key (key ∷ []) h k l = absurd (omega arith)
  below_key (key ∷ value ∷ ns) h zero l = below_head key _ h
  below_key (key ∷ value ∷ ns) h (suc k) l =
      let two : 2 * suc k ≡ suc (suc (2 * k)) = omega arith in
      rw two (below_key ns (below_after value _ (below_rest key _ h)) k (omega arith))

  below_value : (ns : List ℕ) → all_below i (entry_nodes ns) ≡ true → (k : ℕ) → 2 * k + 1 < length ns →
      get_or ns (2 * k + 1) 0 ≢ absent → get_or ns (2 * k + 1) 0 < i
  unfolding entry_nodes
  below_value [] h k l = absurd (omega arith)
  below_value (key ∷ []) h k l = absurd (omega arith)
  below_value (key ∷ value ∷ ns) h zero l = below_before value _ (below_rest key _ h)
  below_value (key ∷ value ∷ ns) h (suc k) l =
      let two : 2 * suc k + 1 ≡ suc (suc (2 * k + 1)) = omega arith in
      rw two (below_value ns (below_after value _ (below_rest key _ h)) k (omega arith))

-- what questions 5 and 6 say of a node, by how many words the list has
abbrev pub InRange : ℕ → Node → Type 0
InRange size (Node.Number low high) = (nan_bits binary64 (4294967296 * high + low) ≡ false) × ((eqb low 0 && eqb high 2147483648) ≡ false)
InRange size (Node.String symbol) = Unit {0}
InRange size (Node.Boolean b) = Unit {0}
InRange size Node.Nil = Unit {0}
InRange size (Node.Identifier symbol) = Unit {0}
InRange size (Node.Binary operator left right) = Unit {0}
InRange size (Node.Unary operator operand) = Unit {0}
InRange size (Node.LogicalNot operand) = Unit {0}
InRange size (Node.LogicalAnd left right) = Unit {0}
InRange size (Node.LogicalOr left right) = Unit {0}
InRange size (Node.If condition then_branch else_branch) = Unit {0}
InRange size (Node.Block tail) = Unit {0}
InRange size (Node.FunctionCall callee first count) = (first + count ≤ size) × (count ≤ 255)
InRange size (Node.PropertyAccess object property) = Unit {0}
InRange size (Node.Map first count) = first + 2 * count ≤ size

-- a node by its words: kind, a, b and c
abbrev pub node_of : ℕ → ℕ → ℕ → ℕ → Node
node_of kind a b c = get_or node_kinds kind (λ x y z. Node.Nil) a b c

number_fits : (low high : ℕ) → question5 0 low high ≡ true →
    (nan_bits binary64 (4294967296 * high + low) ≡ false) × ((eqb low 0 && eqb high 2147483648) ≡ false)
unfolding question5
number_fits low high h =
    let minus : Bool = eqb low 0 && eqb high 2147483648 in
    let nan : Bool = nan_bits binary64 (4294967296 * high + low) in
    (not-true nan (and_left (not nan) (not minus) h), not-true minus (and_right (not nan) (not minus) h))

call_fits : (size callee first count : ℕ) → question6 size 12 callee first count ≡ true → (first + count ≤ size) × (count ≤ 255)
unfolding question6
call_fits size callee first count h =
    (leb-true _ _ (and_left (leb (first + count) size) (leb count 255) h), leb-true _ _ (and_right (leb (first + count) size) (leb count 255) h))

map_fits : (size first count c : ℕ) → question6 size 14 first count c ≡ true → first + 2 * count ≤ size
unfolding question6
map_fits size first count c h = leb-true _ _ h

-- kinds 0 to 14, and those past them
words_fit : (size kind a b c : ℕ) → question5 kind a b ≡ true → question6 size kind a b c ≡ true → InRange size (node_of kind a b c)
words_fit size zero a b c n l = number_fits a b n
words_fit size (suc zero) a b c n l = tt
words_fit size (suc (suc zero)) a b c n l = tt
words_fit size (suc (suc (suc zero))) a b c n l = tt
words_fit size (suc (suc (suc (suc zero)))) a b c n l = tt
words_fit size (suc (suc (suc (suc (suc zero))))) a b c n l = tt
words_fit size (suc (suc (suc (suc (suc (suc zero)))))) a b c n l = tt
words_fit size (suc (suc (suc (suc (suc (suc (suc zero))))))) a b c n l = tt
words_fit size (suc (suc (suc (suc (suc (suc (suc (suc zero)))))))) a b c n l = tt
words_fit size (suc (suc (suc (suc (suc (suc (suc (suc (suc zero))))))))) a b c n l = tt
words_fit size (suc (suc (suc (suc (suc (suc (suc (suc (suc (suc zero)))))))))) a b c n l = tt
words_fit size (suc (suc (suc (suc (suc (suc (suc (suc (suc (suc (suc zero))))))))))) a b c n l = tt
words_fit size (suc (suc (suc (suc (suc (suc (suc (suc (suc (suc (suc (suc zero)))))))))))) a b c n l = call_fits size a b c l
words_fit size (suc (suc (suc (suc (suc (suc (suc (suc (suc (suc (suc (suc (suc zero))))))))))))) a b c n l = tt
words_fit size (suc (suc (suc (suc (suc (suc (suc (suc (suc (suc (suc (suc (suc (suc zero)))))))))))))) a b c n l = map_fits size a b c l
words_fit size (suc (suc (suc (suc (suc (suc (suc (suc (suc (suc (suc (suc (suc (suc (suc kind))))))))))))))) a b c n l = tt

-- what question 7 adds
module _ (t : Tree) (i : ℕ) where
  node_below : (n : Node) → all_below i (children t.list n) ≡ true → InRange (length t.list) n → Below t i n
  unfolding children
  node_below (Node.Number low high) h f = tt
  node_below (Node.String symbol) h f = tt
  node_below (Node.Boolean b) h f = tt
  node_below Node.Nil h f = tt
  node_below (Node.Identifier symbol) h f = tt
  node_below (Node.Binary operator left right) h f = (below_head i left _ h, below_head i right _ (below_rest i left _ h))
  node_below (Node.Unary operator operand) h f = below_head i operand _ h
  node_below (Node.LogicalNot operand) h f = below_head i operand _ h
  node_below (Node.LogicalAnd left right) h f = (below_head i left _ h, below_head i right _ (below_rest i left _ h))
  node_below (Node.LogicalOr left right) h f = (below_head i left _ h, below_head i right _ (below_rest i left _ h))
  node_below (Node.If condition then_branch else_branch) h f =
      let others : all_below i (then_branch ∷ present else_branch) ≡ true = below_rest i condition _ h in
      record {
        condition = below_head i condition _ h;
        then = below_head i then_branch _ others;
        else = below_present i else_branch (below_rest i then_branch _ others);
      }
  node_below (Node.Block tail) h f = below_present i tail h
  node_below (Node.FunctionCall callee first count) h f =
      let size : length (take count (drop first t.list)) ≡ count = simp (length-take, length-drop) (omega (arith, f.0)) in
      record {
        callee = below_head i callee _ h;
        few = f.1;
        inside = f.0;
        argument = λ k l. rw (get_or-take, get_or-drop) at (below_at i _ (below_rest i callee _ h) k (omega arith));
      }
  node_below (Node.PropertyAccess object property) h f = below_head i object _ h
  node_below (Node.Map first count) h f =
      let size : length (take (2 * count) (drop first t.list)) ≡ 2 * count = simp (length-take, length-drop) (omega arith) in
      record {
        inside = f;
        key = λ k l.
            let near : 2 * k < 2 * count = omega arith in
            rw (get_or-take, get_or-drop) at (below_key i _ h k (omega arith));
        value = λ k l.
            let near : 2 * k + 1 < 2 * count = omega arith in
            let place : first + 2 * k + 1 ≡ first + (2 * k + 1) = omega arith in
            rw place (rw (get_or-take, get_or-drop) at (below_value i _ h k (omega arith)));
      }

module _ {t : Tree} where
  -- of a node whose questions are answered yes
  pub node_fits : {i : ℕ} → CheckedNode t i → InRange (length t.list) (node t i)
  unfolding node_at
  node_fits {i} c = words_fit (length t.list) (node_word t.nodes i 0) _ _ _ c.number c.list

  pub checked_node_below : {i : ℕ} → CheckedNode t i → Below t i (node t i)
  unfolding question7
  checked_node_below {i} c = node_below t i (node t i) c.order (node_fits c)

  -- the ranges of its words
  module _ {i : ℕ} (c : CheckedNode t i) where
    pub kind_word : node_word t.nodes i 0 ≤ 14
    unfolding question3
    kind_word = leb-true _ _ c.kind

  -- past the last node every word reads 0
  past_words : Checked t → (i : ℕ) → capacity node_width t.nodes ≤ i → (k : ℕ) → node_word t.nodes i k ≡ 0
  unfolding node_word capacity
  past_words c i h k = get_or-eq_default t.nodes 0 (omega (arith, c.whole))

  -- the questions of such a node, which is the number 0
  zero_words : (i : ℕ) → ((k : ℕ) → node_word t.nodes i k ≡ 0) → CheckedNode t i
  unfolding question3 question4 question5 question6 question7 node_at children all_below nan_bits
  zero_words i z = record {
    kind = rw (z 0);
    unused = rw (z 0, z 3);
    number = rw (z 0, z 1, z 2);
    list = rw (z 0);
    order = rw (z 0);
  }

  -- so every index may be asked
  pub checked_at : Checked t → (i : ℕ) → CheckedNode t i
  checked_at c i = go (dec_lt i (capacity node_width t.nodes))
    where
      go : Dec (i < capacity node_width t.nodes) → CheckedNode t i
      go (yes l) = c.each i l
      go (no l) = zero_words i (past_words c i (omega arith))

  pub checked_below : Checked t → (i : ℕ) → Below t i (node t i)
  checked_below c i = checked_node_below (checked_at c i)

  pub checked_fits : Checked t → (i : ℕ) → InRange (length t.list) (node t i)
  checked_fits c i = node_fits (checked_at c i)

-- question 1 answered yes, by its parts: of the bytes, and of the words
pub record Sizes (nodes list names : List ℕ) : Type 0 where
  pub nodes_whole : length nodes % (word_bytes * node_width) ≡ 0
  pub some_nodes : 1 ≤ capacity node_width (words nodes)
  pub few_nodes : capacity node_width (words nodes) ≤ max_nodes
  pub list_whole : length list % word_bytes ≡ 0
  pub list_short : length (words list) ≤ max_list_words
  pub names_whole : length names % word_bytes ≡ 0

pub question1_sizes : (nodes list names : List ℕ) → question1 nodes list names ≡ true → Sizes nodes list names
unfolding question1 whole
question1_sizes nodes list names h =
    let a : Bool = eqb (length nodes % (word_bytes * node_width)) 0 in
    let b : Bool = leb 1 (capacity node_width (words nodes)) in
    let c : Bool = leb (capacity node_width (words nodes)) max_nodes in
    let d : Bool = eqb (length list % word_bytes) 0 in
    let e : Bool = leb (length (words list)) max_list_words in
    let f : Bool = eqb (length names % word_bytes) 0 in
    let h5 : (a && b && c && d && e) ≡ true = and_left (a && b && c && d && e) f h in
    let h4 : (a && b && c && d) ≡ true = and_left (a && b && c && d) e h5 in
    let h3 : (a && b && c) ≡ true = and_left (a && b && c) d h4 in
    let h2 : (a && b) ≡ true = and_left (a && b) c h3 in
    record {
      nodes_whole = eqb-true _ _ (and_left a b h2);
      some_nodes = leb-true _ _ (and_right a b h2);
      few_nodes = leb-true _ _ (and_right (a && b) c h3);
      list_whole = eqb-true _ _ (and_right (a && b && c) d h4);
      list_short = leb-true _ _ (and_right (a && b && c && d) e h5);
      names_whole = eqb-true _ _ (and_right (a && b && c && d && e) f h);
    }

pub question2_parts : (mode root count : ℕ) → question2 mode root count ≡ true → (mode ≤ 2) × (root < count)
unfolding question2
question2_parts mode root count h =
    (leb-true mode 2 (and_left (leb mode 2) (ltb root count) h), ltb-true root count (and_right (leb mode 2) (ltb root count) h))

-- what a verdict says follows from what each answer says
module _ (P : Verdict → Type 0) where
  ask_cases : (answer : Bool) (r : Refusal) (place : ℕ) (next : Verdict) → (answer ≡ true → P next) → (answer ≡ false → P (refused r place)) →
      P (ask answer r place next)
  ask_cases true r place next y n = y refl
  ask_cases false r place next y n = n refl

  module _ (t : Tree) where
    ask_node_cases : (i : ℕ) (next : Verdict) → (CheckedNode t i → P next) → ((r : Refusal) → NodeNo t i r → P (refused r i)) → P (ask_node t i next)
    unfolding ask_node
    ask_node_cases i next y n =
        ask_cases _ Refusal.Kind i _
        (λ q3. ask_cases _ Refusal.Unused i _
        (λ q4. ask_cases _ Refusal.Number i _
        (λ q5. ask_cases _ Refusal.List i _
        (λ q6. ask_cases _ Refusal.Order i _
        (λ q7. y (record { kind = q3; unused = q4; number = q5; list = q6; order = q7 }))
        (λ a. n Refusal.Order (no_order q3 q4 q5 q6 a)))
        (λ a. n Refusal.List (no_list q3 q4 q5 a)))
        (λ a. n Refusal.Number (no_number q3 q4 a)))
        (λ a. n Refusal.Unused (no_unused q3 a)))
        (λ a. n Refusal.Kind (no_kind a))

    ask_nodes_cases : (n i : ℕ) (next : Verdict) → (((j : ℕ) → i ≤ j → j < i + n → CheckedNode t j) → P next) →
        ((j : ℕ) → i ≤ j → j < i + n → ((k : ℕ) → i ≤ k → k < j → CheckedNode t k) → (r : Refusal) → NodeNo t j r → P (refused r j)) →
        P (ask_nodes t n i next)
    unfolding ask_nodes
    ask_nodes_cases zero i next y n = y (λ j a b. absurd (omega arith))
    ask_nodes_cases (suc m) i next y n =
        ask_node_cases i (ask_nodes t m (suc i) next)
        (λ c. ask_nodes_cases m (suc i) next
        (λ all. y (λ j a b. more (suc i + m) c all j a (omega arith) (ℕ_discrete j i)))
        (λ j a b lower. n j (omega arith) (omega arith) (λ k d e. more j c lower k d e (ℕ_discrete k i))))
        (n i (omega arith) (omega arith) (λ k a b. absurd (omega arith)))
      where
        more : (end : ℕ) → CheckedNode t i → ((j : ℕ) → suc i ≤ j → j < end → CheckedNode t j) →
            (j : ℕ) → i ≤ j → j < end → Dec (j ≡ i) → CheckedNode t j
        more end c all j a b (yes q) = rw q c
        more end c all j a b (no q) = all j (omega arith) b

-- and back: a node with every answer yes asks on, one with a no ends
module _ (t : Tree) where
  ask_node_yes : (i : ℕ) (next : Verdict) → CheckedNode t i → ask_node t i next ≡ next
  unfolding ask_node
  ask_node_yes i next c = rw (c.kind, c.unused, c.number, c.list, c.order)

  ask_node_no : (i : ℕ) (next : Verdict) {r : Refusal} → NodeNo t i r → ask_node t i next ≡ refused r i
  unfolding ask_node
  ask_node_no i next (no_kind q3) = rw q3
  ask_node_no i next (no_unused q3 q4) = rw (q3, q4)
  ask_node_no i next (no_number q3 q4 q5) = rw (q3, q4, q5)
  ask_node_no i next (no_list q3 q4 q5 q6) = rw (q3, q4, q5, q6)
  ask_node_no i next (no_order q3 q4 q5 q6 q7) = rw (q3, q4, q5, q6, q7)

  ask_nodes_yes : (n i : ℕ) (next : Verdict) → ((j : ℕ) → i ≤ j → j < i + n → CheckedNode t j) → ask_nodes t n i next ≡ next
  unfolding ask_nodes
  ask_nodes_yes zero i next all = refl
  ask_nodes_yes (suc n) i next all =
      ask_node_yes i _ (all i (omega arith) (omega arith)) ∙ ask_nodes_yes n (suc i) next (λ j a b. all j (omega arith) (omega arith))

  ask_nodes_no : (n i : ℕ) (next : Verdict) (j : ℕ) → i ≤ j → j < i + n → ((k : ℕ) → i ≤ k → k < j → CheckedNode t k) →
      {r : Refusal} → NodeNo t j r → ask_nodes t n i next ≡ refused r j
  unfolding ask_nodes
  ask_nodes_no zero i next j a b lower h = absurd (omega arith)
  ask_nodes_no (suc n) i next j a b lower {r} h =
      go (ℕ_discrete i j) (λ l. ask_nodes_no n (suc i) next j l (omega arith) (λ k c d. lower k (omega arith) d) h)
    where
      go : Dec (i ≡ j) → (i < j → ask_nodes t n (suc i) next ≡ refused r j) → ask_node t i (ask_nodes t n (suc i) next) ≡ refused r j
      go (yes q) more = rw q (ask_node_no j _ h)
      go (no q) more = ask_node_yes i _ (lower i (omega arith) (omega arith)) ∙ more (omega arith)

module _ (nodes list names : List ℕ) (mode root : ℕ) where
  -- the nodes of question 1 are whole
  checked_of : question1 nodes list names ≡ true → ((i : ℕ) → i < nodes_in nodes → CheckedNode (tree_of nodes list names) i) →
      Checked (tree_of nodes list names)
  checked_of h each = record { whole = omega (arith, length_words nodes, (question1_sizes nodes list names h).nodes_whole); each = each }

  -- what a verdict says
  abbrev Says : Verdict → Type 0
  Says passed = AllYes nodes list names mode root
  Says (refused r place) = FirstNo nodes list names mode root r place

  questions_say : Says (questions nodes list names mode root)
  unfolding questions
  questions_say =
      ask_cases Says _ Refusal.Size 0 _
      (λ q1. ask_cases Says _ Refusal.Root 0 _
      (λ q2. ask_nodes_cases Says (tree_of nodes list names) (nodes_in nodes) 0 _
      (λ all. ask_cases Says _ Refusal.Parameters 0 _
      (λ q8. record { size = q1; start = q2; checked = checked_of q1 (λ i l. all i (omega arith) (omega arith)); parameters = q8 })
      (no_parameters q1 q2 (checked_of q1 (λ i l. all i (omega arith) (omega arith)))))
      (λ i a b lower r h. no_node q1 q2 i (omega arith) (λ j l. lower j (omega arith) l) h))
      (no_root q1))
      no_size

  yes_passed : AllYes nodes list names mode root → questions nodes list names mode root ≡ passed
  unfolding questions
  yes_passed y =
      let nodes_yes : (j : ℕ) → 0 ≤ j → j < 0 + nodes_in nodes → CheckedNode (tree_of nodes list names) j = λ j a b. y.checked.each j (omega arith) in
      rw (y.size, y.start, ask_nodes_yes (tree_of nodes list names) (nodes_in nodes) 0 _ nodes_yes, y.parameters)

  no_refused : {r : Refusal} {place : ℕ} → FirstNo nodes list names mode root r place → questions nodes list names mode root ≡ refused r place
  unfolding questions
  no_refused (no_size q1) = rw q1
  no_refused (no_root q1 q2) = rw (q1, q2)
  no_refused (no_node q1 q2 i l lower h) =
      rw (q1, q2) (ask_nodes_no (tree_of nodes list names) (nodes_in nodes) 0 _ i (omega arith) (omega arith) (λ j a b. lower j b) h)
  no_refused (no_parameters q1 q2 c q8) =
      rw (q1, q2, ask_nodes_yes (tree_of nodes list names) (nodes_in nodes) 0 _ (λ j a b. c.each j (omega arith)), q8)

  -- the questions are passed exactly where every one is answered yes
  pub questions_passed : (questions nodes list names mode root ≡ passed) ↔ AllYes nodes list names mode root
  questions_passed = (λ h. rw h at questions_say, yes_passed)

  -- and refuse with r at a place exactly where the first question answered no is that of r, there. No other refusal comes from them.
  pub questions_refused : (r : Refusal) (place : ℕ) →
      (questions nodes list names mode root ≡ refused r place) ↔ FirstNo nodes list names mode root r place
  questions_refused r place = (λ h. rw h at questions_say, no_refused)
