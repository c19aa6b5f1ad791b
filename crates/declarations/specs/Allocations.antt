-- The code's allocation as the definitions' allocation, and what a declaration does to it.
use Rattle.std.specs.Prelude.{ℕ, ◌+◌, ◌-◌, ◌*◌, ◌≤◌, ◌≡◌, leb, ltb, length, get_or, set, take, replicate}
use mathlib.Core.List.{List, ◌++◌, foldl}
use Rattle.prelude.specs.Choice.{whether}
use Rattle.tree.specs.Tree.{Declaration}
use Rattle.tree.specs.Symbols.{Level, most_names}
use Rattle.layout.specs.Allocation as layout
use Rattle.symbols.specs.Table.{live_names}
use Rattle.emitter.specs.Emitted as emitted
use Rattle.layout.specs.Emission.{emit_declarations}
use Rattle.emitter.specs.declared.Output.{Output}
use Rattle.declarations.specs.declared.SectorEnds.{SectorEnds}
use Rattle.declarations.specs.declared.Scope.{Scope}
use Rattle.declarations.specs.declared.Allocation.{Allocation}
use Rattle.layout.specs.Addresses.{sector_words, first_global, first_array, closed_sectors}

-- the code ends that count
abbrev pub ends_of : SectorEnds → List ℕ
ends_of sectors = take sectors.count sectors.ends

-- where a sector's code ends, by the sector's place
abbrev pub end_of : SectorEnds → ℕ → ℕ
end_of sectors k = get_or sectors.ends k 0

-- one end more, while there is room
unfoldable pub with_end : SectorEnds → ℕ → SectorEnds
with_end sectors end =
    whether (ltb sectors.count 32) (λ _. record { ends = set sectors.ends sectors.count end; count = sectors.count + 1 }) (λ _. sectors)

-- the ends of the closed sectors, and zeros after them, 32 words in all
pub record Closed (e : SectorEnds) : Type 0 where
  pub last : e.count ≤ closed_sectors
  pub long : length e.ends ≡ 32
  pub spare : e.ends ≡ ends_of e ++ replicate (32 - e.count) 0

abbrev pub pool_of : Allocation → List ℕ
pool_of s = emitted.literals_in s.output.pool

-- ABSTRACTION: the definitions' allocation that the code's stands for, with the symbol table in lent words
abbrev pub allocation_of : Allocation → List ℕ → layout.Allocation
allocation_of s table =
    record { scope = record { names = live_names s.names table; level = Level.outer; taken = s.taken }; next = s.output.next; pool = pool_of s; ends = ends_of s.sectors; array = s.array }

-- what a global is declared under: its word is from '200 on (A3)
abbrev pub global_scope : Allocation → Scope
global_scope s = record { names = s.names; level = 0; taken = s.taken; base = first_global }

-- one more global, with what is emitted then and element 0 of the next array
abbrev pub with_global : Allocation → Output → ℕ → Allocation
with_global s output array = record { names = s.names + 1; taken = s.taken + 1; output = output; sectors = s.sectors; array = array }

-- what holds between declarations: each word is a name's, code and pool fit the open sector, and each word of the pool has a word that uses it
pub record SoundAllocation (s : Allocation) : Type 0 where
  pub few : s.names ≤ most_names
  pub each : s.taken ≤ s.names
  pub closed : Closed s.sectors
  pub used : length (pool_of s) + sector_words * (s.sectors.count + 1) ≤ s.output.next
  pub fits : s.output.next + length (pool_of s) ≤ sector_words * (s.sectors.count + 2)
  pub top : s.array ≤ first_array

-- declarations, with the sectors' code ends: the allocation is the definition's, and their words are on the image
pub record Declared (ends : ℕ → ℕ) (s : Allocation) (table image : List ℕ) (s' : Allocation) (table' image' : List ℕ) (new : List Declaration) : Type 0 where
  pub allocation : allocation_of s' table' ≡ foldl layout.allocate (allocation_of s table) new
  pub sound : SoundAllocation s'
  pub laid : image' ≡ emit_declarations ends (allocation_of s table) new image

-- the same wherever the sectors' code ends
abbrev pub DeclaredAnyPlan : Allocation → List ℕ → List ℕ → Allocation → List ℕ → List ℕ → List Declaration → Type 0
DeclaredAnyPlan s table image s' table' image' new = (ends : ℕ → ℕ) → Declared ends s table image s' table' image' new

-- the same whatever the table
pub record SectorClosed (s : Allocation) (image : List ℕ) (s' : Allocation) (image' : List ℕ) (new : List Declaration) : Type 0 where
  pub at : (table : List ℕ) → DeclaredAnyPlan s table image s' table image' new

-- where code and pending pool end
abbrev pub pool_end : Output → ℕ
pool_end output = output.next + length (emitted.literals_in output.pool)

-- failure 13 by the words in use, an array's size and element 0 of the next array (F13)
unfoldable pub space_number : ℕ → ℕ → ℕ
space_number words array = whether (leb words array) (λ _. 0) (λ _. 13)

-- 12 by the place of the open sector, or 13 (F12, F13)
unfoldable pub sector_number : ℕ → ℕ → ℕ → ℕ
sector_number words closed array = whether (leb words (sector_words * (closed + 2))) (λ _. space_number words array) (λ _. 12)
