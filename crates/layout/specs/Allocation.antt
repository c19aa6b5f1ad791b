-- The allocation of the fold over the declarations.
use Rattle.std.specs.Prelude.{ℕ, suc, ◌+◌, ◌-◌, ◌*◌, length}
use mathlib.Core.List.{List, [], ◌∷◌, ◌++◌, foldl}
use Rattle.tree.specs.Tree.{Name, Item, Stmts, Declaration}
use Rattle.tree.specs.Symbols.{Symbol, Level, Scope, declare, declare_item, local_scope}
use Rattle.layout.specs.Words.{Sym, after, procedure_words, main_words}
use Rattle.layout.specs.Pool.{literals_of, added_all}
use Rattle.layout.specs.Addresses.{sector_words, first_code, first_array}

pub record Allocation : Type 0 where
  -- the live names, and how many words the globals have taken
  pub scope : Scope
  -- the next address of code
  pub next : ℕ
  -- the pool of the sector being filled (A7)
  pub pool : List ℕ
  -- where the code of each sector before it ends (A8)
  pub ends : List ℕ
  -- element 0 of the next array (A5)
  pub array : ℕ

-- nothing yet: code begins at '1000, in sector 1, and element 0 of the first array is 16,383 (A4, A5)
abbrev pub start : Allocation
start = record { scope = record { names = []; level = Level.outer; taken = 0 }; next = first_code; pool = []; ends = []; array = first_array }

-- the number of the sector that is being filled
abbrev pub sector_of : Allocation → ℕ
sector_of st = suc (length st.ends)

-- how many locals of a procedure take a word (W16)
unfoldable pub local_words : Allocation → Name → List (Name × Item) → ℕ
local_words st name locals = (foldl declare_item (local_scope st.scope name) locals).taken

-- the link's address, behind them (W16)
abbrev pub link_of : Allocation → Name → List (Name × Item) → ℕ
link_of st name locals = st.next + local_words st name locals

-- with a body's words, behind the words of its locals and link, if it is a procedure's; its literals go to the pool (A7, W16)
abbrev pub with_code : Allocation → Scope → ℕ → List Sym → Allocation
with_code st scope front ws =
    record { scope = scope; next = after ws (st.next + front); pool = added_all st.pool (literals_of ws); ends = st.ends; array = st.array }

abbrev pub with_scope : Allocation → Scope → Allocation
with_scope st scope = record { scope = scope; next = st.next; pool = st.pool; ends = st.ends; array = st.array }

-- the allocation after a declaration. An item takes the next word of the globals, if it takes one (A3)
unfoldable pub allocate : Allocation → Declaration → Allocation
allocate st (Declaration.item name item) = with_scope st (declare_item st.scope (name, item))
-- an array takes a word there too, and the next one's element 0 is lower by its size (A5)
allocate st (Declaration.array name size checked values) =
    let scope = declare st.scope name (Symbol.array (record { number = st.scope.taken; size = size; checked = checked })) 1 in
    record { scope = scope; next = st.next; pool = st.pool; ends = st.ends; array = st.array - size }
-- a procedure as well; its locals, link and code are next (A4). After it its name is known and its locals are gone (D15)
allocate st (Declaration.procedure name accumulator locals body) =
    let scope = declare st.scope name (Symbol.procedure st.scope.taken accumulator) 1 in
    with_code st scope (suc (local_words st name locals)) (procedure_words body (link_of st name locals))
-- on to the first word of the sector behind the one being filled, whatever that holds, with an empty pool (A9)
allocate st Declaration.next_sector =
    record { scope = st.scope; next = sector_words * suc (sector_of st); pool = []; ends = st.ends ++ (st.next ∷ []); array = st.array }

unfoldable pub allocated : List Declaration → Allocation
allocated ds = foldl allocate start ds

-- the allocation after the main body, which comes last (A4)
unfoldable pub finish : Allocation → Stmts → Allocation
finish st main = with_code st st.scope 0 (main_words main st.next)
