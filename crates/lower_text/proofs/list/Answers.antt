-- What the header of a good text describes has place in the buffers.
use Rattle.std.proofs.Common.{ℕ, ◌*◌, sym, ◌∙◌}
use lib.ListN.{length-replicate}
use Rattle.words.specs.Words.{word_bytes}
use Rattle.syntax.specs.Ast.{node_width}
use Rattle.listing.specs.Text.{list_width, name_width, nodes_bound, list_words_bound, parameters_bound}
use Rattle.lower_text.proofs.Laws.{fits}
use Rattle.lower_text.proofs.list.Goals as goal

pub list_good-requires : goal.list_good-requires
list_good-requires c =
    let read = c.read_text in
    let place = fits c.args.text.now _ (sym c.in-Some.ensures.head)
    (read.auto.nodes ∙ length-replicate {A = ℕ} (word_bytes * node_width * nodes_bound) 0)
    (read.auto.list ∙ length-replicate {A = ℕ} (word_bytes * list_width * list_words_bound) 0)
    (read.auto.names ∙ length-replicate {A = ℕ} (word_bytes * name_width * parameters_bound) 0) in
    record { nodes_within = place.nodes_fit; list_within = place.list_fits; names_within = place.names_fit }
