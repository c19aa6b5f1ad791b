-- Every limit passes, or gives 11, 12 or 13.
use Prim.Native.Nat.{ℕ, zero, suc, ◌+◌, ◌*◌, ◌≤◌}
use mathlib.Core.Path.{refl}
use native.Mathlib.Omega.{arith}
use lib.Dec.{leb, ltb}
use lib.ListN.{length}
use Rattle.tree.specs.Tree.{Stmts, Declaration}
use Rattle.tree.specs.Symbols.{Level, Scope}
use Rattle.layout.specs.Allocation.{Allocation, sector_of, allocate, finish}
use Rattle.layout.specs.Limits.{word_limit, name_limit, space_limit, sector_limit, follow_limit, declaration_limit, main_limit}
use Rattle.parsing_laws.proofs.Parsed.Choices.{choice}
use Rattle.parsing_laws.proofs.Parsed.Parts.{Limit}

pub passed : Limit 0
passed n = absurd (n refl)

stopped : (n : ℕ) → 11 ≤ n → n ≤ 13 → Limit n
stopped n h k _ = (omega arith, omega arith)

word_limit_lem : (l : Level) (words : ℕ) → Limit (word_limit l words)
unfolding word_limit
word_limit_lem Level.outer words = choice Limit (ltb words 0o600) _ _ (λ e. passed) (λ e. stopped 11 (omega arith) (omega arith))
word_limit_lem (Level.inner p) words = passed

pub name_limit_lem : (sc : Scope) → Limit (name_limit sc)
unfolding name_limit
name_limit_lem sc = word_limit_lem sc.level sc.taken

pub array_limit : (st : Allocation) (size : ℕ) → Limit (space_limit st size)
unfolding space_limit
array_limit st size = choice Limit (leb (st.next + length st.pool + size) st.array) _ _ (λ e. passed) (λ e. stopped 13 (omega arith) (omega arith))

sector_limit_lem : (st : Allocation) → Limit (sector_limit st)
unfolding sector_limit space_limit
sector_limit_lem st =
    choice Limit (leb (st.next + length st.pool) (512 * suc (sector_of st))) _ _ (λ e. array_limit st 0) (λ e. stopped 12 (omega arith) (omega arith))

follow_limit_lem : (st : Allocation) (n : ℕ) → Limit n → Limit (follow_limit st n)
unfolding follow_limit
follow_limit_lem st zero l = choice Limit (ltb (sector_of st) 31) _ _ (λ e. passed) (λ e. stopped 13 (omega arith) (omega arith))
follow_limit_lem st (suc n) l = l

pub declaration_limit_lem : (st : Allocation) (d : Declaration) → Limit (declaration_limit st d)
unfolding declaration_limit
declaration_limit_lem st (Declaration.item name item) = passed
declaration_limit_lem st (Declaration.array name size checked values) = passed
declaration_limit_lem st (Declaration.procedure name accumulator locals body) = sector_limit_lem (allocate st (Declaration.procedure name accumulator locals body))
declaration_limit_lem st Declaration.next_sector = follow_limit_lem st (sector_limit st) (sector_limit_lem st)

pub main_limit_lem : (st : Allocation) (main : Stmts) → Limit (main_limit st main)
unfolding main_limit
main_limit_lem st main = sector_limit_lem (finish st main)
