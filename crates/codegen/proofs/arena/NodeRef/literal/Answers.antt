-- `codegen::node::literal` meets its contract, kind by kind.
use Rattle.std.proofs.Common.{sym, arith}
use Rattle.syntax.specs.declared.kind.Kind.{Kind}
use Rattle.syntax.specs.Ast.{node_at}
use Rattle.lowering.specs.Literals.{literal}
use Rattle.codegen.proofs.Reading.{kind_is, kind_is_not, node_other}
use Rattle.codegen.proofs.arena.NodeRef.literal.Goals as goal

pub returns-then-eq : goal.returns-then-eq
unfolding literal node_at
returns-then-eq c = rw (kind_is _ Kind.Number c.kind-kind.ensures c.eq.ensures c.if-eq.true, ← c.word-a.ensures, ← c.word-b.ensures, c.number.ensures)

pub returns-then-eq-2 : goal.returns-then-eq-2
unfolding literal node_at
returns-then-eq-2 c = rw (kind_is _ Kind.String c.kind-kind.ensures c.eq-2.ensures c.if-eq-2.true, ← c.word-a.ensures)

pub returns-then-eq-3 : goal.returns-then-eq-3
unfolding literal node_at
returns-then-eq-3 c = rw (kind_is _ Kind.Boolean c.kind-kind.ensures c.eq-3.ensures c.if-eq-3.true, ← c.word-a.ensures)

pub returns : goal.returns
returns c =
    let number = kind_is_not _ Kind.Number c.kind-kind.ensures c.eq.ensures c.if-eq.false in
    let string = kind_is_not _ Kind.String c.kind-kind.ensures c.eq-2.ensures c.if-eq-2.false in
    let boolean = kind_is_not _ Kind.Boolean c.kind-kind.ensures c.eq-3.ensures c.if-eq-3.false in
    sym ((node_other _ _).nil (omega (arith, number, string, boolean)))
