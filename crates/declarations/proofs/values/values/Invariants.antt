use mathlib.Core.Path.{◌≡◌}
use mathlib.Core.List.{[]}
use Prim.Native.Nat.{◌-◌}
use lib.ListN.{length}
use Rattle.source.specs.Kinds
use Rattle.grammar.specs.Parse.{separated}
use Rattle.grammar.specs.Declarations.{parse_initial}
use Rattle.cells.specs.Answers.{live}
use Rattle.declarations.specs.Values.{Filled}
use Rattle.parser.proofs.ReadLaws.{Listing}
use Rattle.declarations.proofs.values.values.Given as goal

-- The invariant: from `from` on, with the values that are done, the definition reads what it reads from `at` on.
abbrev pub invariant-loop : goal.invariant-loop
invariant-loop l =
    Listing l.reader.source.now Kinds.comma (parse_initial l.reader.source.now (live l.reader) l.size) (separated l.reader.source.now Kinds.comma (parse_initial l.reader.source.now (live l.reader) l.size []) (parse_initial l.reader.source.now (live l.reader) l.size) l.at) (Filled l.first l.size l.initial.image l.count l.image) l.from (l.end - l.counter)
    × (length l.image ≡ length l.initial.image)
