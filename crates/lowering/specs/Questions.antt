-- "Before the walk, in order": questions 1 to 8, each a test, and the first no.
use Rattle.std.specs.Prelude.{ℕ, zero, suc, ◌+◌, ◌*◌, ◌%◌, List, [], ◌∷◌, Bool, true, cond, not, ◌&&◌, ◌||◌, leb, ltb, eqb, length, get_or}
use Rattle.std.specs.Float.{binary64}
use Rattle.std.specs.Float.Ieee.{nan_bits}
use Rattle.diagnostics.specs.declared.Refusal.{Refusal}
use Rattle.words.specs.Words.{word_bytes, words}
use Rattle.words.specs.Records.{capacity}
use Rattle.syntax.specs.Ast.{node_width, node_word}
use Rattle.runtime.specs.Value.{parts_bits}
use Rattle.lowering.specs.Tree.{Tree, tree_of, node, children}

-- "1 to 4,096 whole nodes, at most 8,192 list words"; "arguments at most 255"; "at most 256 parameters"
abbrev pub max_nodes : ℕ
max_nodes = 4096

abbrev pub max_list_words : ℕ
max_list_words = 8192

abbrev pub max_arguments : ℕ
max_arguments = 255

abbrev pub max_parameters : ℕ
max_parameters = 256

-- the high word of minus zero, whose low word is 0
abbrev pub minus_zero_high : ℕ
minus_zero_high = 2147483648

-- whether bytes are whole records of w words
unfoldable pub whole : ℕ → List ℕ → Bool
whole w bytes = eqb (length bytes % (word_bytes * w)) 0

-- 1: "Are there 1 to 4,096 whole nodes, at most 8,192 list words, and are list and names whole words?" (of the bytes)
unfoldable pub question1 : List ℕ → List ℕ → List ℕ → Bool
question1 nodes list names =
    whole node_width nodes && leb 1 (capacity node_width (words nodes)) && leb (capacity node_width (words nodes)) max_nodes
    && whole 1 list && leb (length (words list)) max_list_words
    && whole 1 names

-- 2: "Is the mode 0 to 2, and the root one of the nodes?"
unfoldable pub question2 : ℕ → ℕ → ℕ → Bool
question2 mode root count = leb mode 2 && ltb root count

-- 3: "Is the kind 0 to 14?"
unfoldable pub question3 : ℕ → Bool
question3 kind = leb kind 14

-- 4: "Are the boolean and operator words in their ranges, unused words 0?" (of a, b and c, by kind)
abbrev pub used_words : List (ℕ → ℕ → ℕ → Bool)
used_words =
    (λ a b c. eqb c 0)
    ∷ (λ a b c. eqb b 0 && eqb c 0)
    ∷ (λ a b c. leb a 1 && eqb b 0 && eqb c 0)
    ∷ (λ a b c. eqb a 0 && eqb b 0 && eqb c 0)
    ∷ (λ a b c. eqb b 0 && eqb c 0)
    ∷ (λ a b c. leb a 10)
    ∷ (λ a b c. leb a 1 && eqb c 0)
    ∷ (λ a b c. eqb b 0 && eqb c 0)
    ∷ (λ a b c. eqb c 0)
    ∷ (λ a b c. eqb c 0)
    ∷ (λ a b c. true)
    ∷ (λ a b c. eqb b 0 && eqb c 0)
    ∷ (λ a b c. true)
    ∷ (λ a b c. eqb c 0)
    ∷ (λ a b c. eqb c 0)
    ∷ []

unfoldable pub question4 : ℕ → ℕ → ℕ → ℕ → Bool
question4 kind a b c = get_or used_words kind (λ a b c. true) a b c

-- 5: "Is a number neither NaN nor minus zero?"
unfoldable pub question5 : ℕ → ℕ → ℕ → Bool
question5 kind low high = not (eqb kind 0) || not (nan_bits binary64 (parts_bits low high)) && not (eqb low 0 && eqb high minus_zero_high)

-- 6: "Is its part of the list inside the list (first place plus length, two words an entry in a map, at most the list words, even for length 0),
-- arguments at most 255?"
unfoldable pub question6 : ℕ → ℕ → ℕ → ℕ → ℕ → Bool
question6 size kind a b c =
    cond (eqb kind 12) (leb (b + c) size && leb c max_arguments)
    (cond (eqb kind 14) (leb (a + 2 * b) size)
    true)

-- 7: "Is every node it names lower than itself?"
unfoldable pub all_below : ℕ → List ℕ → Bool
all_below i [] = true
all_below i (n ∷ ns) = ltb n i && all_below i ns

unfoldable pub question7 : Tree → ℕ → Bool
question7 t i = all_below i (children t.list (node t i))

-- 8: "Are there at most 256 parameters?"
unfoldable pub question8 : ℕ → Bool
question8 arity = leb arity max_parameters

-- all answered yes, or the first no with its place
pub data Verdict : Type 0 where
  passed : Verdict
  refused : Refusal → ℕ → Verdict

-- a question, and what is asked after it
abbrev pub ask : Bool → Refusal → ℕ → Verdict → Verdict
ask answer refusal place next = cond answer next (refused refusal place)

-- "For each node, lowest first, place = node": 3 to 7 of node i
unfoldable pub ask_node : Tree → ℕ → Verdict → Verdict
ask_node t i next =
    let kind : ℕ = node_word t.nodes i 0 in
    let a : ℕ = node_word t.nodes i 1 in
    let b : ℕ = node_word t.nodes i 2 in
    let c : ℕ = node_word t.nodes i 3 in
    ask (question3 kind) Refusal.Kind i
    (ask (question4 kind a b c) Refusal.Unused i
    (ask (question5 kind a b) Refusal.Number i
    (ask (question6 (length t.list) kind a b c) Refusal.List i
    (ask (question7 t i) Refusal.Order i
    next))))

-- n nodes from node i on
unfoldable pub ask_nodes : Tree → ℕ → ℕ → Verdict → Verdict
ask_nodes t zero i next = next
ask_nodes t (suc n) i next = ask_node t i (ask_nodes t n (suc i) next)

-- the questions of a tree, "in order", by the bytes of its three slices
unfoldable pub questions : List ℕ → List ℕ → List ℕ → ℕ → ℕ → Verdict
questions nodes list names mode root =
    let count : ℕ = capacity node_width (words nodes) in
    let t : Tree = tree_of nodes list names in
    ask (question1 nodes list names) Refusal.Size 0
    (ask (question2 mode root count) Refusal.Root 0
    (ask_nodes t count 0
    (ask (question8 (length t.names)) Refusal.Parameters 0
    passed)))
