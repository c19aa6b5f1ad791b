use mathlib.Core.Path.{◌≡◌}
use Prim.Native.Nat.{◌-◌}
use lib.ListN.{length}
use Rattle.grammar.specs.Declarations.{more_declarations, parse_declarations}
use Rattle.declarations.specs.Allocations.{end_of, Declared}
use Rattle.parser.proofs.ReadLaws.{Turning}
use Rattle.declarations.proofs.program.declarations.Given as goal

-- The invariant: from `from` on, with the declarations that are done, the definition reads what it reads from `at` on.
abbrev pub invariant-loop : goal.invariant-loop
invariant-loop l =
    Turning (more_declarations l.source l.checked) (parse_declarations l.source l.checked l.at) (Declared (end_of l.plan) l.initial.current l.initial.table l.initial.image l.current l.table l.image) l.from (l.end - l.counter)
    × (length l.table ≡ length l.initial.table) × (length l.image ≡ length l.initial.image)
