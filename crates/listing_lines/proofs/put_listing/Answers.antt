use Rattle.std.proofs.Common.{rules}
use Rattle.text.proofs.Laws.{and_then}
use Rattle.listing_lines.proofs.Laws.{whole_accepted, whole_failed}
use Rattle.listing_lines.proofs.put_listing.Goals as goal

pub returns-in-Ok : goal.returns-in-Ok
returns-in-Ok c =
    let all = and_then c.put_result.ensures (and_then c.put_counts.ensures (and_then c.put_words.ensures c.put_words-in-Ok.ensures)) in
    record {
      same_buffer = all.same_buffer;
      listing = whole_accepted _ _ c.in-Ok.is (search rules) (search rules) all;
    }

pub returns-in-Err : goal.returns-in-Err
returns-in-Err c = record { same_buffer = c.put_result-in-Err.ensures.same_buffer; listing = whole_failed _ _ c.in-Err.is (rw c.number.ensures at c.put_result-in-Err.ensures) }
