use mathlib.Core.Path.{◌≡◌}
use mathlib.Core.List.{[]}
use Prim.Native.Nat.{◌-◌}
use lib.ListN.{length}
use Rattle.source.specs.Kinds
use Rattle.grammar.specs.Parse.{separated}
use Rattle.declarations.specs.Allocations.{allocation_of, DeclaredAnyPlan}
use Rattle.declarations.specs.Forms.{array_in}
use Rattle.parser.proofs.ReadLaws.{Listing}
use Rattle.declarations.proofs.Allocation.array_list.Given as goal

-- The invariant: from `from` on, with the arrays that are done, the definition reads what it reads from `at` on.
abbrev pub invariant-loop : goal.invariant-loop
invariant-loop l =
    Listing l.source Kinds.comma (array_in l.source l.checked (allocation_of l.initial.allocation l.initial.table)) (separated l.source Kinds.comma (array_in l.source l.checked (allocation_of l.initial.allocation l.initial.table) []) (array_in l.source l.checked (allocation_of l.initial.allocation l.initial.table)) l.at) (DeclaredAnyPlan l.initial.allocation l.initial.table l.initial.image l.allocation l.table l.image) l.from (l.end - l.counter)
    × (length l.table ≡ length l.initial.table) × (length l.image ≡ length l.initial.image)
