-- `lowerlist::list_input` meets its contract: the text that was read prints what the whole input does, and the buffer holds the whole listing.
use Rattle.std.proofs.Common.{refl, sym, ap, ◌∙◌, arith}
use Rattle.listing.specs.Output.{lowerlist}
use Rattle.lower_text.proofs.Laws.{listing_room, listed, cut_text}
use Rattle.lowerlist.proofs.list_input.Goals as goal

pub returns-clause-fits : goal.returns-clause-fits
returns-clause-fits c = listing_room _ c.list.ensures.count refl

pub returns-clause-bytes : goal.returns-clause-bytes
returns-clause-bytes c input e =
    listed _ _ c.list.ensures.count c.list.ensures.stored (sym c.requires.listing_room) ∙ ap lowerlist e ∙ cut_text input _ (omega arith)
