-- What a table below a place holds, and that each symbol's words give it back.
use Prim.Native.Nat.{ℕ, zero, suc, ◌+◌, ◌*◌, ◌/◌, ◌-◌, ◌≤◌, ◌<◌}
use mathlib.Core.Path.{◌≡◌, refl, sym, ap, ap₂, ◌∙◌}
use mathlib.Core.Bool.{Bool, true, false}
use mathlib.Core.List.{List, [], ◌∷◌}
use native.Mathlib.Omega.{arith}
use borrow.Author.Tests.{le-leb, lt-ltb, le-ltb}
use native.Mathlib.Numerals.{add-one}
use lib.ListN.{length, get_or, set, take, length-set}
use lib.Seq.{get_or-take, get_or-set_same, get_or-set_other, take-set-le}
use Rattle.tree.specs.Tree.{Array, Item}
use Rattle.tree.specs.Symbols.{Symbol, Level, Scope, next_id, item_symbol}
use Rattle.symbols.specs.declared.Packed.{Packed}
use mathlib.Core.Option.{some}
use Rattle.prelude.specs.Choice.{find}
use Rattle.source.specs.Bytes.{same_bytes}
use Rattle.symbols.specs.Packing.{unpack, same_packed, packed_at}
use Rattle.symbols.proofs.Packing.{same_unpacked}
use Rattle.symbols.specs.Table.{number_of, data_of, level_of, symbol_from, at_level, entry_of, entry_at, row_at, entries_of, live_names, with_words, with_row, table_with, Entered}

-- ---- Words of what is declared

-- a symbol's words give it back at their level
pub symbol_coded : (level : Level) (s : Symbol) → symbol_from level (data_of s) ≡ at_level level s
unfolding symbol_from data_of at_level
symbol_coded level (Symbol.integer i) = refl
symbol_coded level (Symbol.constant i v) = refl
symbol_coded level (Symbol.compconstant v) = refl
symbol_coded level (Symbol.array a) = array_coded a.number a.size a.checked
  where
    array_coded : (number size : ℕ) (checked : Bool) → let a : Array = record { number = number; size = size; checked = checked } in symbol_from level (data_of (Symbol.array a)) ≡ at_level level (Symbol.array a)
    array_coded number size true = refl
    array_coded number size false = refl
symbol_coded level (Symbol.procedure p true) = refl
symbol_coded level (Symbol.procedure p false) = refl
symbol_coded level Symbol.unknown = refl

next_number : (level : Level) (n : ℕ) → number_of (next_id level n) ≡ n
unfolding number_of next_id
next_number Level.outer n = refl
next_number (Level.inner p) n = refl

-- an item's symbol is of its scope's level, and does not turn on the names
pub item_level : (s u : Scope) (item : Item) → s.level ≡ u.level → s.taken ≡ u.taken → at_level u.level (item_symbol s item) ≡ item_symbol u item
unfolding at_level item_symbol
item_level s u Item.integer p q = rw (p, q, next_number u.level u.taken)
item_level s u (Item.constant v) p q = rw (p, q, next_number u.level u.taken)
item_level s u (Item.compconstant v) p q = refl

-- ---- Tables

-- tables that agree in an entry's words agree in the entry
row_same : (t u : List ℕ) (at : ℕ) → ((i : ℕ) → i < at + 7 → get_or t i 0 ≡ get_or u i 0) → row_at t at ≡ row_at u at
unfolding row_at entry_at
row_same t u at h =
    rw (
      h at (omega arith),
      h (at + 1) (omega arith),
      h (at + 2) (omega arith),
      h (at + 3) (omega arith),
      h (at + 4) (omega arith),
      h (at + 5) (omega arith),
      h (at + 6) (omega arith),
    )

entries_same : (n : ℕ) (t u : List ℕ) → ((i : ℕ) → i < 7 * n → get_or t i 0 ≡ get_or u i 0) → entries_of n t ≡ entries_of n u
unfolding entries_of
entries_same zero t u h = refl
entries_same (suc n) t u h =
    ap₂ (λ x y. x ∷ y) (row_same t u (7 * n) (λ i l. h i (omega arith))) (entries_same n t u (λ i l. h i (omega arith)))

-- THE ENTRIES BELOW A PLACE: what is declared above it leaves them
pub entries_kept : (n m : ℕ) (t u : List ℕ) → n ≤ m → take (7 * m) t ≡ take (7 * m) u → entries_of n t ≡ entries_of n u
entries_kept n m t u l h = entries_same n t u one
  where
    one : (i : ℕ) → i < 7 * n → get_or t i 0 ≡ get_or u i 0
    one i k = sym (get_or-take (7 * m) t i 0 (omega arith)) ∙ ap (λ x. get_or x i 0) h ∙ get_or-take (7 * m) u i 0 (omega arith)

-- whether too many names are alive is judged by the count (F10)
pub entries_length : (n : ℕ) (t : List ℕ) → length (entries_of n t) ≡ n
unfolding entries_of
entries_length zero t = refl
entries_length (suc n) t = ap suc (entries_length n t)

-- a table that is long enough holds its entries
pub held_all : (n : ℕ) (t : List ℕ) → 7 * n ≤ length t → live_names n t ≡ entries_of n t
unfolding live_names
held_all n t h = rw (le-leb n (length t / 7) (omega arith))

-- the newest row has the name
pub row_found : (t : List ℕ) (name : Packed) (n : ℕ) → 0 < n → same_packed name (packed_at t (7 * (n - 1))) ≡ true → find (same_bytes (unpack name)) (entries_of n t) ≡ some (row_at t (7 * (n - 1)))
unfolding entries_of find row_at
row_found t name zero h e = absurd (omega arith)
row_found t name (suc n) h e =
    let q : suc n - 1 ≡ n = omega arith in
    let s : same_bytes (unpack name) (unpack (packed_at t (7 * n))) ≡ true = sym (same_unpacked name (packed_at t (7 * n))) ∙ ap (λ k. same_packed name (packed_at t (7 * k))) (sym q) ∙ e in
    rw (q, s)

-- ---- An entry's words

words_below : (t : List ℕ) (at k : ℕ) (ws : List ℕ) (i : ℕ) → i < at + k → get_or (with_words t at k ws) i 0 ≡ get_or t i 0
unfolding with_words
words_below t at k [] i h = refl
words_below t at k (w ∷ ws) i h =
    words_below (set t (at + k) w) at (suc k) ws i (omega arith) ∙ get_or-set_other t (at + k) i w 0 (λ e. omega arith)

words_in : (t : List ℕ) (at k : ℕ) (ws : List ℕ) (i j : ℕ) → i ≡ at + (k + j) → j < length ws → at + (k + length ws) ≤ length t → get_or (with_words t at k ws) i 0 ≡ get_or ws j 0
unfolding with_words
words_in t at k [] i j e h l = absurd (omega arith)
words_in t at k (w ∷ ws) i zero e h l =
    let p : i ≡ at + k = omega arith in
    words_below (set t (at + k) w) at (suc k) ws i (omega arith) ∙ rw p (get_or-set_same t (at + k) w 0 (omega arith))
words_in t at k (w ∷ ws) i (suc j) e h l = words_in (set t (at + k) w) at (suc k) ws i j (omega arith) (omega arith) (simp length-set (omega arith))

words_take : (n : ℕ) (t : List ℕ) (at k : ℕ) (ws : List ℕ) → n ≤ at + k → take n (with_words t at k ws) ≡ take n t
unfolding with_words
words_take n t at k [] h = refl
words_take n t at k (w ∷ ws) h = words_take n (set t (at + k) w) at (suc k) ws (omega arith) ∙ take-set-le n t (at + k) w h

module _ (t : List ℕ) (at : ℕ) (name : Packed) (level : ℕ) (symbol : Symbol) where
  row_take : take at (with_row t at name level (data_of symbol)) ≡ take at t
  unfolding with_row
  row_take = words_take at (set t at name.one) at 1 _ (omega arith) ∙ take-set-le at t at name.one (omega arith)

  row_is : at + 7 ≤ length t → row_at (with_row t at name level (data_of symbol)) at ≡ (unpack name, entry_of level symbol)
  unfolding row_at entry_at entry_of with_row
  row_is h = rw (first, later 0 (omega arith), later 1 (omega arith), later 2 (omega arith), later 3 (omega arith), later 4 (omega arith), later 5 (omega arith), symbol_coded (level_of level) symbol)
    where
      t₁ : List ℕ
      t₁ = set t at name.one

      ws : List ℕ
      ws = name.two ∷ name.three ∷ level ∷ (data_of symbol).tag ∷ (data_of symbol).number ∷ (data_of symbol).value ∷ []

      first : get_or (with_words t₁ at 1 ws) at 0 ≡ name.one
      first = words_below t₁ at 1 ws at (omega arith) ∙ get_or-set_same t at name.one 0 (omega arith)

      later : (j : ℕ) → j < 6 → get_or (with_words t₁ at 1 ws) (at + suc j) 0 ≡ get_or ws j 0
      later j l = words_in t₁ at 1 ws (at + suc j) j (omega arith) l (simp length-set (omega arith))

-- DECLARING: a table with room has the new entry as its newest, and each table keeps the older ones
module _ (n : ℕ) (t : List ℕ) (name : Packed) (level : ℕ) (symbol : Symbol) where
  with_newest : 7 * n + 7 ≤ length t → entries_of (n + 1) (with_row t (7 * n) name level (data_of symbol)) ≡ (unpack name, entry_of level symbol) ∷ entries_of n t
  unfolding entries_of
  with_newest h =
      rw add-one (ap₂ (λ x y. x ∷ y) (row_is t (7 * n) name level symbol h) (entries_kept n n (with_row t (7 * n) name level (data_of symbol)) t (omega arith) (row_take t (7 * n) name level symbol)))

  pub declared_room : 7 * n + 7 ≤ length t → Entered n t name level symbol (with_row t (7 * n) name level (data_of symbol))
  unfolding table_with
  declared_room h = record { words = rw (lt-ltb n (length t / 7) (omega arith)); newest = λ _. with_newest h; kept = row_take t (7 * n) name level symbol }

  pub declared_full : length t / 7 ≤ n → Entered n t name level symbol t
  unfolding table_with
  declared_full h = record { words = rw (le-ltb n (length t / 7) h); newest = λ l. absurd (omega arith); kept = refl }

pub ruleset for_declare = (declared_room, declared_full)

pub ruleset for_newest = (held_all)
