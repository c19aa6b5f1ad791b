use Rattle.std.proofs.Common.{take, drop}
use Rattle.compilation.specs.Listing.{word_lines}
use Rattle.text.proofs.Laws.{Left}
use Rattle.listing_lines.proofs.Laws.{words_from}
use Rattle.listing_lines.proofs.put_words.Given as goal

-- The invariant: what is written, with the lines of the words that are left, gives all the lines.
abbrev pub invariant-loop-at : goal.invariant-loop-at
invariant-loop-at l = Left l.initial.text l.text (words_from l.name l.image l.first l.count l.at) (word_lines l.name l.first (take l.count (drop l.first l.image)))
