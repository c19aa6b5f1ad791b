-- The limits of names, sectors and space (F11 to F13): each function here gives the number of the failure, or `no_failure`. At which token each is judged, the grammar says (J7, J8).
use Rattle.std.specs.Prelude.{ℕ, zero, suc, ◌+◌, ◌*◌, length, leb, ltb}
use Rattle.prelude.specs.Choice.{whether}
use Rattle.tree.specs.Tree.{Stmts, Declaration}
use Rattle.tree.specs.Symbols.{Level, Scope}
use Rattle.layout.specs.Allocation.{Allocation, sector_of, allocate, finish}
use Rattle.layout.specs.Addresses.{sector_words, global_words, last_sector}

-- everything fits: the number that no failure has
abbrev pub no_failure : ℕ
no_failure = 0

-- 11 if the globals have taken all their words; locals take none of these (F11)
unfoldable pub word_limit : Level → ℕ → ℕ
word_limit Level.outer taken = whether (ltb taken global_words) (λ _. no_failure) (λ _. 11)
word_limit (Level.inner p) taken = no_failure

-- that of the next name in a scope that takes a word (F11)
unfoldable pub name_limit : Scope → ℕ
name_limit scope = word_limit scope.level scope.taken

-- 13 if the next address, plus the pool, plus the size of the array that is judged here (0 if none is), is above element 0 of the next array (F13, J8)
unfoldable pub space_limit : Allocation → ℕ → ℕ
space_limit st size = whether (leb (st.next + length st.pool + size) st.array) (λ _. no_failure) (λ _. 13)

-- 12 if code and pool do not fit in the sector being filled, else 13 by the arrays (F12, F13)
unfoldable pub sector_limit : Allocation → ℕ
sector_limit st = whether (leb (st.next + length st.pool) (sector_words * suc (sector_of st))) (λ _. space_limit st 0) (λ _. 12)

-- the failure that a limit has found, else 13 if there is no sector behind the one being filled (F13)
unfoldable pub follow_limit : Allocation → ℕ → ℕ
follow_limit st zero = whether (ltb (sector_of st) last_sector) (λ _. no_failure) (λ _. 13)
follow_limit st (suc n) = suc n

-- what is judged at a procedure's `.END`, its closing JMP counted, and at `.NEXTSECTOR`, which has not moved yet (J8). An item is judged at its name, an array at its `]`.
-- At a `.NEXTSECTOR` 12 never comes: only procedures add to a sector, and each was judged at its `.END` (`never_12` in memory_map/specs/MapLaws)
unfoldable pub declaration_limit : Allocation → Declaration → ℕ
declaration_limit st (Declaration.item name item) = no_failure
declaration_limit st (Declaration.array name size checked values) = no_failure
declaration_limit st (Declaration.procedure name accumulator locals body) = sector_limit (allocate st (Declaration.procedure name accumulator locals body))
declaration_limit st Declaration.next_sector = follow_limit st (sector_limit st)

-- and at the program's `.END`, its HLT counted (J8)
unfoldable pub main_limit : Allocation → Stmts → ℕ
main_limit st main = sector_limit (finish st main)
