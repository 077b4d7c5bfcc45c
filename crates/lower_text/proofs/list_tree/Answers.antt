-- What lowering leaves prints the listing.
use Rattle.std.proofs.Common.{arith}
use Rattle.lower_text.proofs.Laws.{tree_listing_lem}
use Rattle.lower_text.proofs.list_tree.Goals as goal

pub returns : goal.returns
returns c =
    let told = c.lower-r.ensures in
    let listed = tree_listing_lem _ (λ i. omega (arith, c.type_inv.nodes i)) _ _ _ _ c.lower-r.result told.result told.code told.constants told.marks in
    rw (← listed) c.write_listing.ensures
