use mathlib.Core.Path.{◌≡◌}
use mathlib.Core.List.{[]}
use Prim.Native.Nat.{◌-◌}
use lib.ListN.{length}
use Rattle.source.specs.Kinds
use Rattle.grammar.specs.Parse.{separated}
use Rattle.grammar.specs.Declarations.{parse_local}
use Rattle.declarations.specs.Scopes.{scope_of, tree_keyword, ItemsDeclared}
use Rattle.parser.proofs.ReadLaws.{Listing}
use Rattle.declarations.proofs.Scope.item_list.Given as goal

-- The invariant: from `from` on, with the items that are done, the definition reads what it reads from `at` on.
abbrev pub invariant-loop : goal.invariant-loop
invariant-loop l =
    Listing l.source Kinds.comma (parse_local l.source (scope_of l.initial.scope l.initial.table) (tree_keyword l.keyword)) (separated l.source Kinds.comma (parse_local l.source (scope_of l.initial.scope l.initial.table) (tree_keyword l.keyword) []) (parse_local l.source (scope_of l.initial.scope l.initial.table) (tree_keyword l.keyword)) l.at) (ItemsDeclared l.initial.scope l.initial.table l.initial.image l.scope l.table l.image) l.from (l.end - l.counter)
    × (length l.table ≡ length l.initial.table) × (length l.image ≡ length l.initial.image)
