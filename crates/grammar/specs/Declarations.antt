-- Declarations: a fold over them, each read under the allocation after those before it.
use Rattle.std.specs.Prelude.{ℕ, ◌-◌, Bool, true, false, length, leb, ltb}
use mathlib.Core.List.{List, [], ◌∷◌, foldl}
use Rattle.std.proofs.Math.Option.{Option, none, some}
use Rattle.prelude.specs.Choice.{whether}
use Rattle.source.specs.Kinds
use Rattle.source.specs.declared.Token.{Token}
use Rattle.source.specs.Tokens.{token_at, name_of}
use Rattle.tree.specs.Tree.{Name, Item, Declaration}
use Rattle.tree.specs.Symbols.{Names, Scope, is_taken, declare_item, local_scope, most_names}
use Rattle.layout.specs.Allocation.{allocated}
use Rattle.layout.specs.Limits.{no_failure, name_limit, space_limit, declaration_limit}
use Rattle.grammar.specs.Parse.{Got, and_then, fail_at, within, is, expect, snoc, repeat, separated}
use Rattle.grammar.specs.Parse.Got.{got}
use Rattle.grammar.specs.Vocabulary.{as_one_of}
use Rattle.grammar.specs.Cells.{parse_constant, parse_in_range}
use Rattle.grammar.specs.Statements.{parse_outermost}

-- ---- Declared names

-- a new name: 8, 10 and the limit of its word, in this order, all judged before the next token is looked at (J7, F8, F10)
unfoldable pub new_name : List ℕ → Scope → ℕ → Token → Got Name
new_name source scope limit t =
    whether (is Kinds.name t)
    (λ _. whether (is_taken scope (name_of source t)) (λ _. fail_at t 8) λ _.
    whether (leb most_names (length scope.names)) (λ _. fail_at t 10) λ _.
    within limit t (got (name_of source t) t.next))
    (λ _. fail_at t 6)

-- ---- Integers, constants and compconstants, at both levels

-- `.INTEGER`, `.CONSTANT`, `.COMPCONSTANT`
pub data ItemKeyword : Type 0 where
  integer constant compconstant : ItemKeyword

-- all that a local may be (D11)
abbrev pub item_keywords : List (ℕ × ItemKeyword)
item_keywords = (Kinds.INTEGER, ItemKeyword.integer) ∷ (Kinds.CONSTANT, ItemKeyword.constant) ∷ (Kinds.COMPCONSTANT, ItemKeyword.compconstant) ∷ []

-- the limit at an item's name: a compconstant takes no word (D4, F11)
unfoldable pub item_limit : ItemKeyword → Scope → ℕ
item_limit ItemKeyword.integer scope = name_limit scope
item_limit ItemKeyword.constant scope = name_limit scope
item_limit ItemKeyword.compconstant scope = no_failure

-- the size that an array's constant gives: how far it is from 0, taken as signed (D6)
unfoldable pub size_of : ℕ → ℕ
size_of v = whether (leb v 32767) (λ _. v) (λ _. 65536 - v)

module _ (source : List ℕ) where
  -- `=` and a constant, after the name (D4)
  unfoldable pub parse_value : Scope → Name → (ℕ → Item) → ℕ → Got (Name × Item)
  parse_value scope name item at =
      and_then (expect Kinds.equal source at) (λ _ value_at.
      and_then (parse_constant source scope.names value_at) (λ value next.
      got (name, item value) next))

  -- an item from after its name: an integer has no more (D3), a constant and a compconstant have a value (D4)
  unfoldable pub item_from : ItemKeyword → Scope → Name → ℕ → Got (Name × Item)
  item_from ItemKeyword.integer scope name at = got (name, Item.integer) at
  item_from ItemKeyword.constant scope name at = parse_value scope name Item.constant at
  item_from ItemKeyword.compconstant scope name at = parse_value scope name Item.compconstant at

  -- a name and its item
  unfoldable pub parse_item : ItemKeyword → Scope → ℕ → Got (Name × Item)
  parse_item keyword scope at =
      and_then (new_name source scope (item_limit keyword scope) (token_at source at)) (item_from keyword scope)

  -- a list with commas (D3 to D5) and its closing `;` (D1), each of its items added to what is declared before it
  unfoldable pub parse_list : {A : Type 0} → (A → ℕ → Got A) → A → ℕ → Got A
  parse_list more done at =
      and_then (separated source Kinds.comma (more done) more at) (λ longer list_end.
      and_then (expect Kinds.semicolon source list_end) (λ _ next.
      got longer next))

  -- ---- Locals

  -- one more local, under the names of those before it (D11, D15)
  unfoldable pub parse_local : Scope → ItemKeyword → List (Name × Item) → ℕ → Got (List (Name × Item))
  parse_local scope keyword done at =
      and_then (parse_item keyword (foldl declare_item scope done) at) (λ item next. got (snoc done item) next)

  -- one list of locals more (D11)
  abbrev pub more_locals : Scope → List (Name × Item) → ℕ → Option (Got (List (Name × Item)))
  more_locals scope done n =
      let t = token_at source n in
      as_one_of item_keywords t (λ keyword. some (parse_list (parse_local scope keyword) done t.next)) (λ _. none)

  -- any lists of locals, each with its `;` (D9, D11)
  unfoldable pub parse_locals : Scope → ℕ → Got (List (Name × Item))
  parse_locals scope at = repeat source (more_locals scope) [] at

  -- ---- Declarations of the program

  -- one more integer, constant or compconstant (D3, D4, D15)
  unfoldable pub parse_global : ItemKeyword → List Declaration → ℕ → Got (List Declaration)
  parse_global keyword ds at =
      let scope = (allocated ds).scope in
      and_then (parse_item keyword scope at) (λ item next. got (snoc ds (Declaration.item item.0 item.1)) next)

  -- one more initial value; 14 at the first that the size has no room for (D7, J9, F14)
  unfoldable pub parse_initial : Names → ℕ → List ℕ → ℕ → Got (List ℕ)
  parse_initial names size values at =
      and_then (parse_constant source names at) (λ v next.
      whether (ltb (length values) size) (λ _. got (snoc values v) next) (λ _. fail_at (token_at source at) 14))

  -- the initial values in their brackets, or none (D5)
  unfoldable pub parse_initials : Names → ℕ → ℕ → Got (List ℕ)
  parse_initials names size at =
      let t = token_at source at in
      whether (is Kinds.left_parenthesis t)
      (λ _. and_then (separated source Kinds.comma (parse_initial names size []) (parse_initial names size) t.next) (λ values values_end.
      and_then (expect Kinds.right_parenthesis source values_end) (λ _ next. got values next)))
      (λ _. got [] at)

  -- an array (D5): its name, `[`, its size (D6), `]`, and initial values or none. Besides 4, 5 and 6, which any token may fail with (J3, J6):
  --     8, 10, 11  at the name (J7)
  --     5, 7       at the size, 5 if it is above 8,192 (D6); 7 at a value too
  --     13         at the `]`, this array counted as placed (J8)
  --     14         at the first value too many (J9)
  -- Its name is known at the end (D15). Whether its subscripts are tested is the program's (D17)
  unfoldable pub parse_array : Bool → List Declaration → ℕ → Got (List Declaration)
  parse_array checked ds at =
      let st = allocated ds in
      let names = st.scope.names in
      and_then (new_name source st.scope (name_limit st.scope) (token_at source at)) (λ name bracket_at.
      and_then (expect Kinds.left_bracket source bracket_at) (λ _ size_at.
      and_then (parse_in_range source names (λ v. leb (size_of v) 8192) size_at) (λ v size_end.
      and_then (expect Kinds.right_bracket source size_end) (λ bracket values_at.
      within (space_limit st (size_of v)) bracket (
      and_then (parse_initials names (size_of v) values_at) (λ values next.
      got (snoc ds (Declaration.array name (size_of v) checked values)) next))))))

  -- a declaration that is judged at its last token, then `;`: even if that is missing, and at a next sector before the move (J8)
  unfoldable pub parse_limited : List Declaration → Declaration → Token → Got (List Declaration)
  parse_limited ds d last =
      within (declaration_limit (allocated ds) d) last (
      and_then (expect Kinds.semicolon source last.next) (λ _ next.
      got (snoc ds d) next))

  -- a procedure, after `.PROCEDURE` (D9): its name, `;`, `.BEGIN`, its locals, its statements, `.END`, `;`. Besides 4, 5 and 6, which any token may fail with (J3, J6), and what its locals and statements do:
  --     8, 10, 11  at the name, which is taken from there on (J7)
  --     12, 13     at the `.END`, before the `;` is looked for (J8)
  -- The name is known after the `.END` (D15)
  unfoldable pub parse_procedure : List Declaration → Bool → ℕ → Got (List Declaration)
  parse_procedure ds accumulator at =
      let scope = (allocated ds).scope in
      and_then (new_name source scope (name_limit scope) (token_at source at)) (λ name name_end.
      and_then (expect Kinds.semicolon source name_end) (λ _ begin_at.
      and_then (expect Kinds.BEGIN source begin_at) (λ _ locals_at.
      and_then (parse_locals (local_scope scope name) locals_at) (λ locals body_at.
      and_then (parse_outermost source (foldl declare_item (local_scope scope name) locals).names body_at) (λ body body_end.
      and_then (expect Kinds.END source body_end) (λ end _.
      parse_limited ds (Declaration.procedure name accumulator locals body) end))))))

  -- an accumulator procedure, after `.ACCUMULATOR` (D10)
  unfoldable pub parse_accumulator : List Declaration → ℕ → Got (List Declaration)
  parse_accumulator ds at = and_then (expect Kinds.PROCEDURE source at) (λ _ n. parse_procedure ds true n)

  -- each declaration by the keyword that begins it (D1); a next sector has no name (D8)
  abbrev pub declaration_keywords : Bool → List (ℕ × (List Declaration → Token → Got (List Declaration)))
  declaration_keywords checked =
      (Kinds.INTEGER, λ ds t. parse_list (parse_global ItemKeyword.integer) ds t.next) ∷
      (Kinds.CONSTANT, λ ds t. parse_list (parse_global ItemKeyword.constant) ds t.next) ∷
      (Kinds.COMPCONSTANT, λ ds t. parse_list (parse_global ItemKeyword.compconstant) ds t.next) ∷
      (Kinds.ARRAY, λ ds t. parse_list (parse_array checked) ds t.next) ∷
      (Kinds.NEXTSECTOR, λ ds t. parse_limited ds Declaration.next_sector t) ∷
      (Kinds.PROCEDURE, λ ds t. parse_procedure ds false t.next) ∷
      (Kinds.ACCUMULATOR, λ ds t. parse_accumulator ds t.next) ∷ []

  -- whether `.CHECKED` and its `;` stand here, right behind the program's `.BEGIN` (D17). Nothing else looks for it, so anywhere else it is 6 (D2, J5)
  unfoldable pub parse_checked : ℕ → Got Bool
  parse_checked at =
      let t = token_at source at in
      whether (is Kinds.CHECKED t) (λ _. and_then (expect Kinds.semicolon source t.next) (λ _ next. got true next)) (λ _. got false at)

  -- one declaration more (D1)
  abbrev pub more_declarations : Bool → List Declaration → ℕ → Option (Got (List Declaration))
  more_declarations checked ds n =
      let t = token_at source n in
      as_one_of (declaration_keywords checked) t (λ parse. some (parse ds t)) (λ _. none)

  -- any declarations, each read under the allocation after those before it; the first token that begins none ends them (D1, D2)
  unfoldable pub parse_declarations : Bool → ℕ → Got (List Declaration)
  parse_declarations checked at = repeat source (more_declarations checked) [] at
