-- `questions::Fields::children_below` meets its contract, kind by kind: a leaf names no node. Question 6 says that the part of the list that is read is inside it.
-- Assumes nothing.
use mathlib.Core.Logic.{inl, inr}
use Rattle.lowering.specs.Tree.{children}
use Rattle.lowering.specs.Questions.{all_below}
use Rattle.questions.proofs.Fields.children_below.Goals as goal

pub returns-in-Number : goal.returns-in-Number
unfolding children all_below
returns-in-Number c =
    elim c.in-Number.is [ inl e ↦ rw e | inr (inl e) ↦ rw e | inr (inr (inl e)) ↦ rw e | inr (inr (inr (inl e))) ↦ rw e | inr (inr (inr (inr e))) ↦ rw e ]
