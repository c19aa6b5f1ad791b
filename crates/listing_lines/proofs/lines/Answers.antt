use native.Mathlib.Omega.{arith}
use Rattle.std.proofs.Common.{rules}
use Rattle.listing_lines.proofs.Laws.{whole}
use Rattle.listing_lines.proofs.lines.Goals as goal

pub returns : goal.returns
returns c = whole _ _ c.new-text.ensures.empty c.new-text.ensures.kept (omega arith) (search rules) c.put_listing.ensures.listing
