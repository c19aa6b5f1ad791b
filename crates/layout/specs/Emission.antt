-- EMISSION IN ORDER: the image as the code makes it, one store after another, with a pool that grows. Nothing rests on it but the contracts of the code: that it comes to the image of the map is a theorem
-- (`EmittedImage` in memory_map).
use Rattle.std.specs.Prelude.{ℕ, zero, suc, ◌+◌, ◌-◌, ltb, length, set, take, replicate}
use mathlib.Core.List.{List, [], ◌∷◌, ◌++◌, foldl}
use Rattle.prelude.specs.Choice.{whether}
use Rattle.tree.specs.Tree.{Name, Item, Stmts, Declaration, Program}
use Rattle.tree.specs.Symbols.{words_taken, item_value}
use Rattle.layout.specs.Addresses.{sector_words, first_global, array_tag}
use Rattle.layout.specs.Words.{Sym, procedure_words, main_words}
use Rattle.layout.specs.Pool.{literal_of, added}
use Rattle.layout.specs.Allocation.{Allocation, start, link_of, allocate, allocated, finish}
use Rattle.layout.specs.Map.{Frame, word_of}

-- ---- One word more

-- the image, the address of the next word, and the literal pool as the code holds it, up to 512 words
pub record Emitted : Type 0 where
  pub image : List ℕ
  pub next : ℕ
  pub pool : List ℕ

-- an address counts up to the last that 16 bits hold, which is far above the memory
abbrev pub last_address : ℕ
last_address = 65535

unfoldable pub next_address : ℕ → ℕ
next_address at = whether (ltb at last_address) (λ _. suc at) (λ _. at)

-- with a word at the next address
unfoldable pub with_word : Emitted → ℕ → Emitted
with_word e w = record { image = set e.image e.next w; next = next_address e.next; pool = e.pool }

-- with a literal, once, as long as there is room
unfoldable pub with_literal : List ℕ → ℕ → List ℕ
with_literal pool v = take sector_words (added pool v)

unfoldable pub with_literals : List ℕ → List ℕ → List ℕ
with_literals pool vs = foldl with_literal pool vs

-- the address of the sector's pool, and of the procedure's first local
pub record Bases : Type 0 where
  pub pool_at : ℕ
  pub locals : ℕ

-- where words find what they name, with the pool as it is now: the index of a literal never changes
abbrev pub frame_of : Bases → List ℕ → Frame
frame_of b pool = record { pool = pool; pool_at = b.pool_at; locals = b.locals }

-- with a symbolic word: first its literal, then the word
unfoldable pub emit_word : Bases → Emitted → Sym → Emitted
emit_word b e w =
    let pool = with_literals e.pool (literal_of w []) in
    with_word (record { image = e.image; next = e.next; pool = pool }) (word_of (frame_of b pool) w)

unfoldable pub emit_all : Bases → Emitted → List Sym → Emitted
emit_all b e [] = e
emit_all b e (w ∷ ws) = emit_all b (emit_word b e w) ws

-- ---- A whole program

-- words stored from an address on
unfoldable pub stored : List ℕ → ℕ → List ℕ → List ℕ
stored image at [] = image
stored image at (w ∷ ws) = stored (set image at w) (suc at) ws

-- the words that an item takes
unfoldable pub item_values : Item → List ℕ
item_values item = replicate (words_taken item) (item_value item)

unfoldable pub local_values : List (Name × Item) → List ℕ
local_values [] = []
local_values (l ∷ ls) = item_values l.1 ++ local_values ls

-- the words of an array, its initial values first
unfoldable pub padded : ℕ → List ℕ → List ℕ
padded zero values = []
padded (suc n) [] = 0 ∷ padded n []
padded (suc n) (v ∷ vs) = v ∷ padded n vs

-- a declaration, under the allocation before it and the address of its sector's pool
unfoldable pub emit_declaration : ℕ → Allocation → Declaration → List ℕ → List ℕ
emit_declaration pool_at st (Declaration.item name item) image = stored image (first_global + st.scope.taken) (item_values item)
emit_declaration pool_at st (Declaration.array name size checked values) image =
    stored (set image (first_global + st.scope.taken) (array_tag + st.array)) (st.array - size) (padded size values)
emit_declaration pool_at st (Declaration.procedure name accumulator locals body) image =
    let link = link_of st name locals in
    let head = set (set (stored image st.next (local_values locals)) (first_global + st.scope.taken) link) link 0 in
    (emit_all (record { pool_at = pool_at; locals = st.next }) (record { image = head; next = suc link; pool = st.pool }) (procedure_words body link)).image
emit_declaration pool_at st Declaration.next_sector image = stored image st.next st.pool

-- each under the allocation after those before it, with the pool address of its sector
unfoldable pub emit_declarations : (ℕ → ℕ) → Allocation → List Declaration → List ℕ → List ℕ
emit_declarations pool_ats st [] image = image
emit_declarations pool_ats st (d ∷ ds) image = emit_declarations pool_ats (allocate st d) ds (emit_declaration (pool_ats (length st.ends)) st d image)

-- the main body and the last pool
unfoldable pub emit_main : ℕ → Allocation → Stmts → List ℕ → List ℕ
emit_main pool_at st main image =
    let e = emit_all (record { pool_at = pool_at; locals = st.next }) (record { image = image; next = st.next; pool = st.pool }) (main_words main st.next) in
    stored e.image (finish st main).next (finish st main).pool

unfoldable pub emit_program : (ℕ → ℕ) → Program → List ℕ → List ℕ
emit_program pool_ats p image =
    let st = allocated p.declarations in
    emit_main (pool_ats (length st.ends)) st p.main (emit_declarations pool_ats start p.declarations image)
