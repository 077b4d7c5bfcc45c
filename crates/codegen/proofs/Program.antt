-- Laws 1, 2 and 3 of the program, and the law of conditions: what the numbers of `lower` and the bytes that it leaves say. One hypothesis, `contract`, is the contract itself as
-- any caller of `lower` learns it (`Learnt`); where a law needs that the bytes at entry are below 256, as those of a slice are, it asks it. Assumes
-- nothing.
use Prim.Native.Nat.{ℕ, ◌*◌, ◌≤◌}
use native.Mathlib.Omega.{arith}
use mathlib.Core.Path.{◌≡◌, sym, ap, ◌∙◌, subst}
use mathlib.Core.Logic.{◌⊎◌, ◌↔◌}
use mathlib.Core.Bool.{Bool}
use mathlib.Core.List.{List, ◌++◌}
use lib.ListN.{length}
use denote.Ref.{Bor}
use denote.MutBor.{MutBor}
use Rattle.diagnostics.specs.declared.Refusal.{Refusal}
use Rattle.diagnostics.specs.declared.Error.{Error}
use Rattle.diagnostics.specs.Refusal.{refusal_number}
use Rattle.words.specs.Words.{words, tail, bytes_of}
use Rattle.words.specs.Records.{capacity}
use Rattle.words.proofs.Words.{length_words, bytes_words}
use Rattle.lowering.specs.Tree.{tree_of, node}
use Rattle.lowering.specs.Checked.{FirstNo}
use Rattle.lowering.specs.Reach.{reached_nodes}
use Rattle.lowering.specs.Meaning.{Reaches, Plain}
use Rattle.lowering.specs.Law.{LawOf}
use Rattle.lowering.specs.Conditions.{mode_of, ConditionOf}
use Rattle.lowering.specs.Steps.{free_held}
use Rattle.lowering.specs.Result as definition
use Rattle.lowering.specs.Answers.{Stopped, StopsWith, Tells, Ended, Within}
use Rattle.lowering.specs.Frame.{Frames}
use Rattle.lowering.specs.Pool.{Pool, Fit}
use Rattle.lowering.proofs.Walk.LowerRuns as came
use Rattle.lowering.proofs.Walk.Answers as answers
use Rattle.lowering.proofs.Walk.BuffersFull as full
use Rattle.lowering.proofs.Walk.FrameSize as frame
use Rattle.lowering.proofs.Walk.PoolOfLower as reached
use Rattle.lowering.proofs.Running.Accepted as law
use Rattle.lowering.proofs.Running.ConditionLaw as conditions
use Rattle.result.specs.declared.Result.{Result}
use Rattle.result.specs.Numbers.{numbers}
use Rattle.codegen.specs.Laws.{Bytes, mark_count, Unwritten, Beyond, Lifetimes}
use Rattle.codegen.proofs.lower.Reads as reads
use Rattle.codegen.proofs.Stored as stored
use Rattle.codegen.proofs.Width.{length_exit, past_exit, exact_words}

-- The contract of `lower`, as its caller learns it: six slices, three of which come back changed, root and mode, and the numbers that come back.
module _ (lifetimes : Lifetimes) (nodes_at list_at names_at : Bor (List ℕ)) (code_at constants_at marks_at code_then constants_then marks_then : MutBor (List ℕ)) (root mode : ℕ) (r : Result)
    (contract : reads.Learnt lifetimes (nodes_at, (root, (mode, (list_at, (names_at, (code_at, (constants_at, (marks_at, tt)))))))) r
    (nodes_at, (root, (mode, (list_at, (names_at, (code_then, (constants_then, (marks_then, tt))))))))) where
  -- the bytes at entry, and those of the three buffers at exit
  abbrev pub nodes : List ℕ
  nodes = nodes_at.now

  abbrev pub list : List ℕ
  list = list_at.now

  abbrev pub names : List ℕ
  names = names_at.now

  abbrev pub code : List ℕ
  code = code_at.now

  abbrev pub constants : List ℕ
  constants = constants_at.now

  abbrev pub marks : List ℕ
  marks = marks_at.now

  abbrev pub code' : List ℕ
  code' = code_then.now

  abbrev pub constants' : List ℕ
  constants' = constants_then.now

  abbrev pub marks' : List ℕ
  marks' = marks_then.now

  -- what the definition gives
  abbrev defined : definition.Lowered
  defined = definition.lower nodes root mode list names (words code) (words constants) (words marks)

  contract_result : numbers r ≡ defined.result
  contract_result = contract.0

  contract_code : code' ≡ bytes_of defined.code ++ tail code
  contract_code = contract.1.0

  contract_constants : constants' ≡ bytes_of defined.constants ++ tail constants
  contract_constants = contract.1.1.0

  contract_marks : marks' ≡ bytes_of defined.marks ++ tail marks
  contract_marks = contract.1.1.1

  -- the numbers, and the words of the three buffers at exit
  abbrev pub left : definition.Lowered
  left = record { result = numbers r; code = words code'; constants = words constants'; marks = words marks' }

  -- ---- Law 1

  -- Only 0 to 18 come back.
  pub only : r.number ≤ 18
  only = subst (λ x. x.number ≤ 18) (sym contract_result) (answers.only_lowering nodes root mode list names (words code) (words constants) (words marks))

  -- Own condition, of 1 to 8: the number and the place come back exactly where that question is the first one answered no, for the lowest such node.
  pub own_condition_before : (refusal : Refusal) (place : ℕ) → 1 ≤ refusal_number refusal → refusal_number refusal ≤ 8 →
      ((r.number ≡ refusal_number refusal) × (r.place ≡ place)) ↔ FirstNo nodes list names mode root refusal place
  own_condition_before refusal place a b =
      subst (λ x. ((x.number ≡ refusal_number refusal) × (x.place ≡ place)) ↔ FirstNo nodes list names mode root refusal place) (sym contract_result)
      (answers.own_condition_before nodes root mode list names (words code) (words constants) (words marks) refusal place a b)

  -- 14: no whole record is left for a constant.
  pub constants_full : r.number ≡ 14 → capacity 3 (words constants) ≤ r.constants
  constants_full =
      subst (λ x. x.number ≡ 14 → capacity 3 (words constants) ≤ x.constants) (sym contract_result)
      (full.constants_full nodes root mode list names (words code) (words constants) (words marks))

  -- 16: no word is left for a mark.
  pub marks_full : r.number ≡ 16 → capacity 1 (words marks) ≤ mark_count nodes root mode list names code constants marks
  marks_full =
      subst (λ x. x.number ≡ 16 → capacity 1 (words marks) ≤ mark_count nodes root mode list names code constants marks) (sym contract_result)
      (full.marks_full nodes root mode list names (words code) (words constants) (words marks))

  -- Own condition, of 9 to 18: number, place and span come back exactly where every question before the walk is answered yes and the walk stops with
  -- that refusal.
  pub own_condition_exactly : (e : Error) → 9 ≤ refusal_number e.refusal →
      Tells nodes root mode list names (words code) (words constants) (words marks) (numbers r) e
      ↔ StopsWith nodes root mode list names (words code) (words constants) (words marks) e
  own_condition_exactly e a =
      subst (λ x. Tells nodes root mode list names (words code) (words constants) (words marks) x e
      ↔ StopsWith nodes root mode list names (words code) (words constants) (words marks) e) (sym contract_result)
      (answers.own_condition_exactly nodes root mode list names (words code) (words constants) (words marks) e a)

  -- Pool (law 2): at most as many constants as there are distinct nodes that the root reaches.
  pub pool_adds_reached : r.constants ≤ reached_nodes (tree_of nodes list names) root
  pool_adds_reached =
      subst (λ x. x.constants ≤ reached_nodes (tree_of nodes list names) root) (sym contract_result)
      (stored.pool_few nodes root mode list names (words code) (words constants) (words marks))

  -- the buffers at entry are bytes, as those of a slice always are
  module _ (code_bytes : Bytes code) (constants_bytes : Bytes constants) (marks_bytes : Bytes marks) where
    -- Writes nothing.
    pub writes_nothing : 1 ≤ r.number → r.number ≤ 8 → Unwritten nodes root mode list names code constants marks r code' constants' marks'
    writes_nothing a b =
        let number : r.number ≡ defined.result.number = ap (λ x. x.number) contract_result in
        let u = answers.writes_nothing nodes root mode list names (words code) (words constants) (words marks) (omega arith) (omega arith) in
        record {
          code_same = contract_code ∙ rw u.code_same (bytes_words code code_bytes);
          constants_same = contract_constants ∙ rw u.constants_same (bytes_words constants constants_bytes);
          marks_same = contract_marks ∙ rw u.marks_same (bytes_words marks marks_bytes);
          no_instructions = ap (λ x. x.instructions) contract_result ∙ u.no_instructions;
          no_constants = ap (λ x. x.constants) contract_result ∙ u.no_constants;
        }

    -- Nothing beyond.
    pub nothing_beyond : Beyond nodes root mode list names code constants marks r code' constants' marks'
    unfolding capacity
    nothing_beyond =
        let w = answers.nothing_beyond nodes root mode list names (words code) (words constants) (words marks) in
        let instructions : r.instructions ≡ defined.result.instructions = ap (λ x. x.instructions) contract_result in
        let pooled : r.constants ≡ defined.result.constants = ap (λ x. x.constants) contract_result in
        let code_room : 4 * r.instructions ≤ length (words code) = omega (arith, w.code_fits) in
        let constants_room : 3 * r.constants ≤ length (words constants) = omega (arith, w.constants_fit) in
        let marks_room : mark_count nodes root mode list names code constants marks ≤ length (words marks) = omega (arith, w.marks_fit) in
        record {
          code_length = rw contract_code (length_exit code defined.code code_bytes w.code_length);
          constants_length = rw contract_constants (length_exit constants defined.constants constants_bytes w.constants_length);
          marks_length = rw contract_marks (length_exit marks defined.marks marks_bytes w.marks_length);
          code_past = λ i h.
              rw contract_code (past_exit code defined.code code_bytes w.code_length (4 * r.instructions) (omega (arith, w.code_length))
              (λ j k. w.code_past j (omega arith)) i (omega arith));
          constants_past = λ i h.
              rw contract_constants (past_exit constants defined.constants constants_bytes w.constants_length (3 * r.constants) (omega (arith, w.constants_length))
              (λ j k. w.constants_past j (omega arith)) i (omega arith));
          marks_past = λ i h.
              rw contract_marks (past_exit marks defined.marks marks_bytes w.marks_length (mark_count nodes root mode list names code constants marks) (omega (arith, w.marks_length)) w.marks_past i h);
          code_fits = omega (arith, length_words code);
          code_few = omega (arith, w.code_few);
          constants_fit = omega (arith, length_words constants);
          marks_fit = omega (arith, length_words marks);
        }

    -- and so are the nodes
    module _ (nodes_bytes_lem : Bytes nodes) where
      -- Exact: the numbers and the words at exit are the definition's.
      pub exact : left ≡ defined
      exact =
          exact_words nodes root mode list names code constants marks nodes_bytes_lem code_bytes constants_bytes marks_bytes (numbers r) code' constants' marks'
          contract_result contract_code contract_constants contract_marks

      -- Own condition, of 9 to 18: the walk stopped with that refusal, under its condition there, and the numbers and words are those of it.
      pub own_condition_walk : 9 ≤ r.number → Stopped nodes root mode list names (words code) (words constants) (words marks) left
      own_condition_walk =
          subst (λ l. 9 ≤ l.result.number → Stopped nodes root mode list names (words code) (words constants) (words marks) l) (sym exact)
          (answers.own_condition_walk nodes root mode list names (words code) (words constants) (words marks))

      -- With 0 no question was answered no: every one before the walk was answered yes, and the walk came to its end.
      pub accepted_walk : r.number ≡ 0 → Ended nodes root mode list names (words code) (words constants) (words marks) left
      accepted_walk =
          subst (λ l. l.result.number ≡ 0 → Ended nodes root mode list names (words code) (words constants) (words marks) l) (sym exact)
          (answers.accepted_walk nodes root mode list names (words code) (words constants) (words marks))

      -- Nothing beyond, by the words.
      pub words_beyond : Within nodes root mode list names (words code) (words constants) (words marks) left
      words_beyond =
          subst (λ l. Within nodes root mode list names (words code) (words constants) (words marks) l) (sym exact)
          (answers.nothing_beyond nodes root mode list names (words code) (words constants) (words marks))

      -- ---- Law 2

      -- Registers: where lowering accepts, each give-back of the walk is of a held register and each take of the smallest free one; the frame size is one
      -- more than the highest taken, 0 where none was, and the most held at one moment.
      pub registers : r.number ≡ 0 → Frames nodes root mode list names (words code) (words constants) (words marks) left
      registers =
          subst (λ l. l.result.number ≡ 0 → Frames nodes root mode list names (words code) (words constants) (words marks) l) (sym exact)
          (frame.frame_size_lem nodes root mode list names (words code) (words constants) (words marks))

      -- Given back once: whatever comes back, the numbers and words are those of the lowering whose give-back stops where the register is not held.
      pub given_back_once : left ≡ definition.lower_by free_held nodes root mode list names (words code) (words constants) (words marks)
      given_back_once = exact ∙ sym (came.given_back_once nodes root mode list names (words code) (words constants) (words marks))

      -- Nothing is cut: every field of every instruction in the code fits, and the constants are at most 4,096. Pool: no two of them are the same.
      pub nothing_cut : Fit nodes root mode list names (words code) (words constants) (words marks) left
      nothing_cut =
          subst (λ l. Fit nodes root mode list names (words code) (words constants) (words marks) l) (sym exact)
          (reached.nothing_cut nodes root mode list names (words code) (words constants) (words marks))

      -- Pool: where the walk ran, every constant for which it asked stands at exit at the index that it was given, which is the first place with its words.
      pub pool_first : (r.number ≡ 0) ⊎ (9 ≤ r.number) → Pool nodes root mode list names (words code) (words constants) (words marks) left
      pool_first =
          subst (λ l. (l.result.number ≡ 0) ⊎ (9 ≤ l.result.number) → Pool nodes root mode list names (words code) (words constants) (words marks) l) (sym exact)
          (stored.pool_first nodes root mode list names (words code) (words constants) (words marks))

      -- Law 3. For every tree without calls and maps that is accepted in value mode, the running law holds of the words that stand in the code and the
      -- constants at exit, and of the counts that come back.
      pub running_law : mode ≡ 0 → ((i : ℕ) → Reaches (tree_of nodes list names) root i → Plain (node (tree_of nodes list names) i)) → r.number ≡ 0 →
          LawOf (tree_of nodes list names) root left
      running_law value plain =
          let same : left ≡ definition.lower nodes root 0 list names (words code) (words constants) (words marks) =
          exact ∙ ap (λ k. definition.lower nodes root k list names (words code) (words constants) (words marks)) value in
          subst (λ l. l.result.number ≡ 0 → LawOf (tree_of nodes list names) root l) (sym same)
          (law.running_law nodes list names root (words code) (words constants) (words marks) plain)

      -- The law of conditions. The same of every tree without calls and maps that is accepted in mode 1 (2), and of the place that comes back.
      pub condition_law : (sense : Bool) → mode ≡ mode_of sense → ((i : ℕ) → Reaches (tree_of nodes list names) root i → Plain (node (tree_of nodes list names) i)) →
          r.number ≡ 0 → ConditionOf sense (tree_of nodes list names) root left
      condition_law sense jumps plain =
          let same : left ≡ definition.lower nodes root (mode_of sense) list names (words code) (words constants) (words marks) =
          exact ∙ ap (λ k. definition.lower nodes root k list names (words code) (words constants) (words marks)) jumps in
          subst (λ l. l.result.number ≡ 0 → ConditionOf sense (tree_of nodes list names) root l) (sym same)
          (conditions.condition_law sense nodes list names root (words code) (words constants) (words marks) plain)
