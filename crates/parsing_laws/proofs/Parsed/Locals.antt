-- The names in reach of a procedure's body.
use Prim.Native.Nat.{ℕ, ◌+◌, ◌≤◌, ◌<◌}
use mathlib.Core.Path.{◌≡◌, refl}
use mathlib.Core.List.{List, [], ◌∷◌, foldl}
use native.Mathlib.Nat.{le_refl, le_trans, le-add_right}
use native.Mathlib.Omega.{arith}
use Rattle.tree.specs.Tree.{Name, Item}
use Rattle.tree.specs.Symbols.{Level, Scope, next_id, item_symbol, words_taken, declare, declare_item, local_scope}
use Rattle.parsing_laws.specs.WellFormed.{Kind, Context, IdOk, ValueOk, LocalsOk}
use Rattle.parsing_laws.proofs.Parsed.Choices.{row}
use Rattle.parsing_laws.proofs.Parsed.Names.{SymbolOk, NamesOk}
use Rattle.parsing_laws.proofs.Parsed.Scopes.{outer, own_names}

-- words only grow
words_grow : (sc : Scope) (items : List (Name × Item)) → sc.taken ≤ (foldl declare_item sc items).taken
unfolding declare_item declare
words_grow sc [] = le_refl sc.taken
words_grow sc (item ∷ items) = le_trans (le-add_right sc.taken (words_taken item.1)) (words_grow (declare_item sc item) items)

module _ (ks : List Kind) (p l : ℕ) where
  abbrev x : Context
  x = record { globals = ks; own = p; locals = l }

  next_local : (sc : Scope) → sc.level ≡ Level.inner p → sc.taken < l → IdOk x (next_id sc.level sc.taken)
  unfolding next_id
  next_local sc e h = rw e (refl, h)

  new_symbol : (sc : Scope) (item : Item) → ValueOk item → sc.level ≡ Level.inner p → sc.taken + words_taken item ≤ l → SymbolOk x (item_symbol sc item)
  unfolding item_symbol words_taken
  new_symbol sc Item.integer v e h = next_local sc e (omega arith)
  new_symbol sc (Item.constant w) v e h = (next_local sc e (omega arith), v)
  new_symbol sc (Item.compconstant w) v e h = v

  -- the names after some locals, whose words are not more than l
  local_names : (sc : Scope) (items : List (Name × Item)) → LocalsOk items → sc.level ≡ Level.inner p → NamesOk x sc.names
      → (foldl declare_item sc items).taken ≤ l → NamesOk x (foldl declare_item sc items).names
  unfolding declare_item declare
  local_names sc [] ok e ns h = ns
  local_names sc (item ∷ items) ok e ns h =
      local_names (declare_item sc item) items ok.1 e (row (new_symbol sc item.1 ok.0 e (le_trans (words_grow (declare_item sc item) items) h)) ns) h

-- in a procedure's scope, after some locals
pub body_names : (ks : List Kind) (sc : Scope) (name : Name) (items : List (Name × Item)) → NamesOk (outer ks) sc.names → LocalsOk items
    → NamesOk (record { globals = ks; own = sc.taken; locals = (foldl declare_item (local_scope sc name) items).taken }) (foldl declare_item (local_scope sc name) items).names
unfolding local_scope declare
body_names ks sc name items ns ok =
    let l = (foldl declare_item (local_scope sc name) items).taken in
    local_names ks sc.taken l (local_scope sc name) items ok refl (row tt (own_names ks sc.taken l ns)) (le_refl l)
