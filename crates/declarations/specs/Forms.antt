-- The definitions of declarations by the allocation before them instead of the declarations: each gives the new declarations.
use Rattle.source.specs.Kinds
use Rattle.std.specs.Prelude.{ℕ, Bool, leb, true, false}
use mathlib.Core.List.{List, [], ◌∷◌, foldl}
use Rattle.source.specs.declared.Token.{Token}
use Rattle.source.specs.Tokens.{token_at}
use Rattle.tree.specs.Tree.{Name, Item, Declaration, Stmts}
use Rattle.tree.specs.Symbols.{Scope, declare_item, local_scope}
use Rattle.layout.specs.Allocation.{Allocation, allocate}
use Rattle.layout.specs.Limits.{name_limit, space_limit, declaration_limit}
use Rattle.grammar.specs.Parse.{Got, and_then, within, expect, snoc, is}
use Rattle.grammar.specs.Parse.Got.{got}
use Rattle.grammar.specs.Cells.{parse_in_range}
use Rattle.grammar.specs.Declarations.{ItemKeyword, new_name, size_of, parse_local, parse_list, parse_initials, parse_locals}
use Rattle.prelude.specs.Choice.{whether, between}
use Rattle.grammar.specs.Statements.{parse_outermost}

unfoldable pub declarations_of : List (Name × Item) → List Declaration
declarations_of [] = []
declarations_of (x ∷ xs) = Declaration.item x.0 x.1 ∷ declarations_of xs

module _ (source : List ℕ) where
  -- a list of items
  unfoldable pub items_in : ItemKeyword → Allocation → ℕ → Got (List Declaration)
  items_in word st at = and_then (parse_list source (parse_local source st.scope word) [] at) (λ items n. got (declarations_of items) n)

  -- the new name of a global that takes a word
  abbrev pub global_name : Scope → ℕ → Got Name
  global_name scope at = new_name source scope (name_limit scope) (token_at source at)

  -- an array up to its `]`: its name and size
  unfoldable pub array_head : Allocation → ℕ → Got (Name × ℕ)
  array_head st at =
      and_then (global_name st.scope at) (λ name n.
      and_then (expect Kinds.left_bracket source n) (λ _ m.
      and_then (parse_in_range source st.scope.names (λ v. leb (size_of v) 8192) m) (λ v k.
      and_then (expect Kinds.right_bracket source k) (λ closing l.
      within (space_limit st (size_of v)) closing (got (name, size_of v) l)))))

  -- whether its subscripts are tested is the program's (D17)
  unfoldable pub one_array : Bool → Allocation → ℕ → Got Declaration
  one_array checked st at =
      and_then (array_head st at) (λ head n.
      and_then (parse_initials source st.scope.names head.1 n) (λ values next.
      got (Declaration.array head.0 head.1 checked values) next))

  unfoldable pub array_in : Bool → Allocation → List Declaration → ℕ → Got (List Declaration)
  array_in checked st new at = and_then (one_array checked (foldl allocate st new) at) (λ d next. got (snoc new d) next)

  unfoldable pub arrays_in : Bool → Allocation → ℕ → Got (List Declaration)
  arrays_in checked st at = parse_list source (array_in checked st) [] at

  -- a declaration that is judged at its last token
  unfoldable pub limited_in : Allocation → Declaration → Token → Got (List Declaration)
  limited_in st d last = within (declaration_limit st d) last (and_then (expect Kinds.semicolon source last.next) (λ _ next. got (d ∷ []) next))

-- whether a declaration begins with a token of a kind
abbrev pub begins : ℕ → Bool
begins kind = between Kinds.INTEGER Kinds.ACCUMULATOR kind

module _ (source : List ℕ) where
  -- a procedure up to its `.BEGIN`: its name
  unfoldable pub heading_in : Scope → ℕ → Got Name
  heading_in scope at =
      and_then (global_name source scope at) (λ name n.
      and_then (expect Kinds.semicolon source n) (λ _ m.
      and_then (expect Kinds.BEGIN source m) (λ _ k. got name k)))

  -- its locals and statements
  unfoldable pub body_in : Scope → Name → ℕ → Got (List (Name × Item) × Stmts)
  body_in scope name at =
      and_then (parse_locals source (local_scope scope name) at) (λ locals n.
      and_then (parse_outermost source (foldl declare_item (local_scope scope name) locals).names n) (λ body next.
      got (locals, body) next))

  unfoldable pub procedure_in : Allocation → Bool → ℕ → Got (List Declaration)
  procedure_in st accumulator at =
      and_then (heading_in st.scope at) (λ name n.
      and_then (body_in st.scope name n) (λ inside m.
      and_then (expect Kinds.END source m) (λ last _.
      limited_in source st (Declaration.procedure name accumulator inside.0 inside.1) last)))

  unfoldable pub accumulator_in : Allocation → ℕ → Got (List Declaration)
  accumulator_in st at = and_then (expect Kinds.PROCEDURE source at) (λ _ n. procedure_in st true n)

  -- the declaration that a token begins
  unfoldable pub declaration_in : Bool → Allocation → Token → Got (List Declaration)
  declaration_in checked st t =
      whether (is Kinds.INTEGER t) (λ _. items_in source ItemKeyword.integer st t.next) λ _.
      whether (is Kinds.CONSTANT t) (λ _. items_in source ItemKeyword.constant st t.next) λ _.
      whether (is Kinds.COMPCONSTANT t) (λ _. items_in source ItemKeyword.compconstant st t.next) λ _.
      whether (is Kinds.ARRAY t) (λ _. arrays_in source checked st t.next) λ _.
      whether (is Kinds.NEXTSECTOR t) (λ _. limited_in source st Declaration.next_sector t) λ _.
      whether (is Kinds.PROCEDURE t) (λ _. procedure_in st false t.next) λ _.
      accumulator_in st t.next
