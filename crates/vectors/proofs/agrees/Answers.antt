-- The buffer holds the whole listing, and the bytes compared are those of it.
use Rattle.std.proofs.Common.{sym, ◌∙◌}
use Rattle.std.proofs.Math.Seq.{length-take-le}
use Rattle.lower_text.proofs.Laws.{listing_room, listed}
use Rattle.vectors.proofs.agrees.Goals as goal

pub slice_bounds-out-end : goal.slice_bounds-out-end
slice_bounds-out-end c = listing_room _ c.list-printed.ensures.count (c.list-printed.auto.out ∙ sym c.listing_buffer-out.ensures.length)

pub slice_bounds-eq-end : goal.slice_bounds-eq-end
slice_bounds-eq-end c =
    sym (length-take-le _ _ (listing_room _ c.list-printed.ensures.count (c.list-printed.auto.out ∙ sym c.listing_buffer-out.ensures.length)))

pub returns : goal.returns
returns c = rw (listed _ _ c.list-printed.ensures.count c.list-printed.ensures.stored (sym c.listing_buffer-out.ensures.length)) at c.eq.ensures
