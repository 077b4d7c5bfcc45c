-- `codegen::node::sources` meets its contract: by which word is a literal's.
use Rattle.std.proofs.Common.{eq-eqb, ne_eqb, false}
use lib.Dec.{eqb}
use mathlib.Core.Path.{◌≡◌}
use Rattle.steps.specs.Answers.{literal_word, source_at}
use Rattle.codegen.proofs.arena.NodeRef.sources.Goals as goal

pub returns-then-src1-eq-LITERAL-clause-first : goal.returns-then-src1-eq-LITERAL-clause-first
unfolding source_at
returns-then-src1-eq-LITERAL-clause-first c = rw (c.literal.ensures, c.word.ensures, eq-eqb _ _ c.if-src1-eq-LITERAL.true)

pub returns-then-src1-eq-LITERAL-clause-second : goal.returns-then-src1-eq-LITERAL-clause-second
unfolding source_at
returns-then-src1-eq-LITERAL-clause-second c not_both =
    let other : eqb c.args.src2 literal_word ≡ false = rw (eq-eqb c.args.src1 literal_word c.if-src1-eq-LITERAL.true) at not_both in
    rw other

pub returns-then-src2-eq-LITERAL-clause-first : goal.returns-then-src2-eq-LITERAL-clause-first
unfolding source_at
returns-then-src2-eq-LITERAL-clause-first c = rw (ne_eqb _ _ c.if-src1-eq-LITERAL.false)

pub returns-then-src2-eq-LITERAL-clause-second : goal.returns-then-src2-eq-LITERAL-clause-second
unfolding source_at
returns-then-src2-eq-LITERAL-clause-second c not_both = rw (c.literal-then-src2-eq-LITERAL.ensures, c.word-then-src2-eq-LITERAL.ensures, eq-eqb _ _ c.if-src2-eq-LITERAL.true)

pub returns-clause-first : goal.returns-clause-first
unfolding source_at
returns-clause-first c = rw (ne_eqb _ _ c.if-src1-eq-LITERAL.false)

pub returns-clause-second : goal.returns-clause-second
unfolding source_at
returns-clause-second c not_both = rw (ne_eqb _ _ c.if-src2-eq-LITERAL.false)
