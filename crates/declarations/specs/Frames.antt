-- What stands before a procedure's statements: its locals, and its link.
use Rattle.std.specs.Prelude.{ℕ, suc, ◌+◌, ◌*◌, ◌≡◌, set, take}
use mathlib.Core.List.{List, foldl}
use Rattle.tree.specs.Tree.{Name, Item}
use Rattle.tree.specs.Symbols.{declare_item, local_scope}
use Rattle.layout.specs.Allocation as layout
use Rattle.symbols.specs.Table.{live_names}
use Rattle.emitter.specs.Emitted as emitted
use Rattle.layout.specs.Emission as emission
use Rattle.layout.specs.Emission.{stored, local_values}
use Rattle.emitter.specs.declared.Output.{Output}
use Rattle.declarations.specs.declared.Scope.{Scope}
use Rattle.declarations.specs.declared.Allocation.{Allocation}
use Rattle.declarations.specs.Scopes.{scope_of, Room}
use Rattle.declarations.specs.Allocations.{allocation_of}
use Rattle.layout.specs.Addresses.{first_global}

-- what a procedure's locals are declared under: its name is taken, and not yet known
pub record InnerScope (s : Allocation) (table : List ℕ) (name : Name) (inner : Scope) (table' : List ℕ) : Type 0 where
  pub scope : scope_of inner table' ≡ local_scope (allocation_of s table).scope name
  pub room : Room inner table'
  pub names : inner.names ≡ s.names + 1
  pub base : inner.base ≡ s.output.next
  pub kept : take (7 * s.names) table' ≡ take (7 * s.names) table

-- what is emitted of a procedure before its statements: its locals, its word in sector 0, and its link (W16, A3)
abbrev pub framed : layout.Allocation → Name → List (Name × Item) → List ℕ → emission.Emitted
framed st name locals image =
    let link = layout.link_of st name locals in
    record { image = set (set (stored image st.next (local_values locals)) (first_global + st.scope.taken) link) link 0; next = suc link; pool = st.pool }

pub record FrameEmitted (s : Allocation) (table image : List ℕ) (name : Name) (names link : ℕ) (output : Output) (table' image' : List ℕ) (locals : List (Name × Item)) : Type 0 where
  pub linked : link ≡ layout.link_of (allocation_of s table) name locals
  pub alive : live_names names table' ≡ (foldl declare_item (local_scope (allocation_of s table).scope name) locals).names
  pub kept : take (7 * s.names) table' ≡ take (7 * s.names) table
  pub laid : emitted.emitted_by output image' ≡ framed (allocation_of s table) name locals image
