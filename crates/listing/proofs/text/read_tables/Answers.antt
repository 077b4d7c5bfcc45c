-- Each table by what `read_lines` ensures of it.
use Rattle.std.proofs.Common.{arith}
use Rattle.listing.specs.Text.{read_nodes, read_list, read_names}
use Rattle.listing.proofs.Texts.{fill_good, part_filled}
use Rattle.listing.proofs.text.read_tables.Goals as goal

pub returns-clause-good : goal.returns-clause-good
unfolding read_nodes read_list read_names
returns-clause-good c =
    rw (
      fill_good _ _ _ _ c.read_lines-a.ensures.words,
      fill_good _ _ _ _ c.read_lines-b.ensures.words,
      fill_good _ _ _ _ c.read_lines-c.ensures.words,
      c.list_at.ensures,
      c.names_at.ensures,
    )

pub returns-clause-nodes : goal.returns-clause-nodes
unfolding read_nodes
returns-clause-nodes c =
    let e = c.read_lines-a.ensures in
    part_filled read_nodes _ _ _ _ (λ i. omega (arith, c.type_inv.nodes i)) e.words e.tail

pub returns-clause-list : goal.returns-clause-list
unfolding read_list
returns-clause-list c =
    let e = c.read_lines-b.ensures in
    part_filled read_list _ _ _ _ (λ i. omega (arith, c.type_inv.list i)) (rw c.list_at.ensures at e.words) e.tail

pub returns-clause-names : goal.returns-clause-names
unfolding read_names
returns-clause-names c =
    let e = c.read_lines-c.ensures in
    part_filled read_names _ _ _ _ (λ i. omega (arith, c.type_inv.names i)) (rw c.names_at.ensures at e.words) e.tail
