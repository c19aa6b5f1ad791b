use mathlib.Core.Path.{◌≡◌}
use Prim.Native.Nat.{◌-◌}
use lib.ListN.{length}
use Rattle.grammar.specs.Declarations.{more_locals, parse_locals}
use Rattle.declarations.specs.Scopes.{scope_of, ItemsDeclared}
use Rattle.parser.proofs.ReadLaws.{Turning}
use Rattle.declarations.proofs.Scope.locals.Given as goal

-- The invariant: from `from` on, with the locals that are done, the definition reads what it reads from `at` on.
abbrev pub invariant-loop : goal.invariant-loop
invariant-loop l =
    Turning (more_locals l.source (scope_of l.initial.scope l.initial.table)) (parse_locals l.source (scope_of l.initial.scope l.initial.table) l.at) (ItemsDeclared l.initial.scope l.initial.table l.initial.image l.scope l.table l.image) l.from (l.end - l.counter)
    × (length l.table ≡ length l.initial.table) × (length l.image ≡ length l.initial.image)
