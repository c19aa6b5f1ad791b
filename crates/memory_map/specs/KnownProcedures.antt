-- The procedures of a program, by their numbers.
use Rattle.std.specs.Prelude.{ℕ, ◌+◌, List, [], ◌∷◌}
use Rattle.tree.specs.Tree.{Declaration}
use Rattle.tree.specs.Symbols.{globals_of}
use Rattle.memory_map.specs.Laid.{Known}

-- each with its number, the latest first
unfoldable pub with_procedure : ℕ → Known → Declaration → Known
with_procedure n ps (Declaration.item name item) = ps
with_procedure n ps (Declaration.array name size checked values) = ps
with_procedure n ps (Declaration.procedure name accumulator locals body) = (n, body) ∷ ps
with_procedure n ps Declaration.next_sector = ps

unfoldable pub known_from : ℕ → Known → List Declaration → Known
known_from n ps [] = ps
known_from n ps (d ∷ ds) = known_from (n + globals_of d) (with_procedure n ps d) ds

abbrev pub known_of : List Declaration → Known
known_of ds = known_from 0 [] ds
