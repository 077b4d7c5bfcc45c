-- `listing::output::write_listing` meets its contract: three runs of stores, of the eight numbers and of the two tables that they count.
use Rattle.std.proofs.Common.{ℕ, List, ◌≡◌, ◌∙◌}
use Rattle.words.specs.Words.{words}
use Rattle.words.proofs.Words.{length_words}
use Rattle.lowering.specs.Result.{numbers_of}
use Rattle.result.specs.Numbers.{numbers}
use Rattle.listing.proofs.Texts.{sets_all}
use Rattle.listing.proofs.Written.{printed_parts, printed_length}
use Rattle.listing.proofs.output.write_listing.Goals as goal

pub returns : goal.returns
returns c =
    let eight : List ℕ = numbers_of (numbers c.args.r) in
    let line : words c.put_words.new.s ≡ eight = c.put_words.ensures.words ∙ rw c.numbers_of.ensures (sets_all _ eight (length_words _)) in
    record {
      stored = rw (c.write_lines-2.ensures, c.write_lines.ensures, c.write_line.ensures, line) (printed_parts eight _ _ c.args.out.now);
      count = printed_length eight _ _;
    }
