-- The line ends past the first line feed that `position` finds, or where it finds none at the end.
use Rattle.std.proofs.Common.{rules, tests, ◌==◌, ◌≡◌, ◌∙◌, ◌+◌, drop, length, le_refl, length-drop, ℕ, List, arith}
use Rattle.std.specs.Option.{MatchOption}
use Rattle.std.proofs.lemmas.Iterator.{YieldsList-from_slice}
use Rattle.std.proofs.lemmas.Iterator.Search.{position_from_yields_List}
use Rattle.std.proofs.lemmas.Slice.{between_to_end}
use Rattle.listing.specs.Text.{line_feed}
use Rattle.vectors.specs.Answers.{line_length}
use Rattle.vectors.proofs.Laws.{line_found}
use Rattle.vectors.proofs.line_end.Goals as goal
use Rattle.vectors.proofs.line_end.Goals.{After-position}

-- what the search looks at
abbrev rest : After-position → List ℕ
rest c = drop c.args.at c.args.s.now

line : (c : After-position) → MatchOption c.position.result (line_length (rest c) ≡ length (rest c)) (λ i. line_length (rest c) ≡ i + 1)
line c =
    let chain = YieldsList-from_slice (rest c) (c.iter.ensures.rest ∙ between_to_end c.args.s.now c.args.at _ (le_refl _)) in
    line_found (rest c) _ (position_from_yields_List (λ b. b == line_feed) _ _ _ c.position.ensures.ran chain (λ x b q k. search (rules, tests)))

pub returns-in-Some-clause-end : goal.returns-in-Some-clause-end
returns-in-Some-clause-end c = omega (arith, rw c.in-Some.is at (line (goal.at.returns-in-Some-clause-end c).After-position))

pub returns-in-None-clause-end : goal.returns-in-None-clause-end
returns-in-None-clause-end c = omega (arith, rw c.in-None.is at (line (goal.at.returns-in-None-clause-end c).After-position), length-drop {A = ℕ})
