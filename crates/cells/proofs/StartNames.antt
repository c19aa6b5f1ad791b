-- What a symbol decides of a definition.
use Prim.Native.Nat.{ℕ}
use mathlib.Core.Path.{◌≡◌, refl, sym, ap}
use mathlib.Core.Bool.{Bool, true, false}
use mathlib.Core.List.{List, [], ◌∷◌}
use mathlib.Core.Option.{Option, none, some}
use native.Mathlib.Omega.{arith}
use borrow.Author.Tests.{eqb-true}
use types.Run.{OneOf, miss}
use denote.Enum.Declared.{tag_of}
use Rattle.prelude.specs.Choice.{whether, given}
use Rattle.source.specs.Kinds.{kind_number}
use Rattle.source.specs.Kinds
use Rattle.source.specs.declared.Token.{Token}
use Rattle.source.specs.Tokens.{name_of}
use Rattle.tree.specs.Tree as tree
use Rattle.grammar.specs.Parse.{Got, and_then, is}
use Rattle.tree.specs.Symbols as symbols
use Rattle.tree.specs.Symbols.{Names, symbol_of, as_constant, as_integer, as_operand, as_array, as_procedure, as_function}
use Rattle.grammar.specs.Cells.{refuse, name_as, constant_of, operand_of, cell_start}
use Rattle.grammar.specs.Expressions.{TermStart}
use Rattle.grammar.specs.Statements.{StmtStart, stmt_start}
use Rattle.symbols.specs.declared.Symbol.{Symbol}
use Rattle.symbols.specs.Trees.{tree_symbol}
use Rattle.symbols.specs.contracts.Symbol.{the_type}
use Rattle.symbols.specs.Lookup.{symbol_by, symbol_at}
use Rattle.cells.specs.Starts.{operand_by, cell_by, term_by, opening}

module _ {A : Type 0} (kind : symbols.Symbol → Option A) (u : kind symbols.Symbol.unknown ≡ none) where
  -- no definition asks for a name that is unknown, or that a numeral may stand for: each asks for the symbol at a token
  pub name_as_lem : ((v : ℕ) → kind (symbols.Symbol.compconstant v) ≡ none) → (source : List ℕ) (names : Names) (t : Token) → name_as source names kind t ≡ kind (symbol_at source names t)
  unfolding name_as symbol_by
  name_as_lem n source names t = go (is Kinds.numeral t) (is Kinds.name t) (λ h. rw (eqb-true (kind_number t.kind) Kinds.numeral h))
    where
      go : (b c : Bool) → (b ≡ true → c ≡ false)
          → whether c (λ _. kind (symbol_of names (name_of source t))) (λ _. none)
          ≡ kind (whether b (λ _. symbols.Symbol.compconstant t.value) (λ _. whether c (λ _. symbol_of names (name_of source t)) (λ _. symbols.Symbol.unknown)))
      go true true h = let z : ◌≡◌ {A = ℕ} 0 1 = cc (h refl) in absurd (omega arith)
      go true false h = sym (n t.value)
      go false true h = refl
      go false false h = sym u

  -- a numeral, or a name that may stand for what a numeral does
  by_value : (value : ℕ → A) → ((v : ℕ) → kind (symbols.Symbol.compconstant v) ≡ some (value v)) → (source : List ℕ) (names : Names) (t : Token)
      → whether (is Kinds.numeral t) (λ _. Got.got (value t.value) t.next) (λ _. given (name_as source names kind t) (λ a. Got.got a t.next) (λ _. refuse t))
      ≡ given (kind (symbol_at source names t)) (λ a. Got.got a t.next) (λ _. refuse t)
  unfolding name_as symbol_by
  by_value value n source names t = go (is Kinds.numeral t) (is Kinds.name t)
    where
      use_of : Option A → Got A
      use_of o = given o (λ a. Got.got a t.next) (λ _. refuse t)

      go : (b c : Bool) → whether b (λ _. Got.got (value t.value) t.next) (λ _. use_of (whether c (λ _. kind (symbol_of names (name_of source t))) (λ _. none)))
          ≡ use_of (kind (whether b (λ _. symbols.Symbol.compconstant t.value) (λ _. whether c (λ _. symbol_of names (name_of source t)) (λ _. symbols.Symbol.unknown))))
      go true c = ap use_of (sym (n t.value))
      go false true = refl
      go false false = ap use_of (sym u)

module _ (source : List ℕ) (names : Names) (t : Token) where
  pub constant_is : constant_of source names t ≡ given (as_constant (symbol_at source names t)) (λ v. Got.got v t.next) (λ _. refuse t)
  unfolding constant_of as_constant
  constant_is = by_value as_constant refl (λ v. v) (λ v. refl) source names t

  pub operand_is : operand_of source names t ≡ operand_by (symbol_at source names t) t
  unfolding operand_of operand_by as_operand
  operand_is = by_value as_operand refl tree.Operand.literal (λ v. refl) source names t

  pub cell_is : cell_start source names t ≡ cell_by (symbol_at source names t) t
  unfolding cell_start cell_by as_array
  cell_is = rw (name_as_lem as_array refl (λ v. refl) source names t, operand_is)

  -- the end of `term_start`
  pub term_is :
      given (name_as source names as_function t) (λ p. Got.got (TermStart.call p) t.next) (λ _. and_then (cell_start source names t) (λ c next. Got.got (TermStart.cell c) next))
      ≡ term_by (symbol_at source names t) t
  unfolding term_by as_function
  term_is = rw (name_as_lem as_function refl (λ v. refl) source names t, cell_is)

  pub statement_is :
      stmt_start source names t
      ≡ given (as_integer (symbol_at source names t)) (λ i. Got.got (StmtStart.integer i) t.next) (λ _.
      given (as_array (symbol_at source names t)) (λ a. Got.got (StmtStart.element a) t.next) λ _.
      given (as_procedure (symbol_at source names t)) (λ p. Got.got (StmtStart.call p) t.next) λ _.
      opening t)
  unfolding stmt_start as_integer as_array as_procedure opening
  statement_is =
      rw (
        name_as_lem as_integer refl (λ v. refl) source names t,
        name_as_lem as_array refl (λ v. refl) source names t,
        name_as_lem as_procedure refl (λ v. refl) source names t,
      )

-- ---- Symbols of the last arm of a match: by the variants that are left

abbrev Left : List ℕ → Symbol → Type 0
Left keys s = OneOf keys (tag_of the_type s)

pub no_constant : (s : Symbol) → Left (0 ∷ 3 ∷ 4 ∷ 5 ∷ []) s → as_constant (tree_symbol s) ≡ none
unfolding as_constant tree_symbol
no_constant (Symbol.Integer i) h = refl
no_constant (Symbol.Constant i v) h = absurd (miss (0 ∷ 3 ∷ 4 ∷ 5 ∷ []) 1 tt h)
no_constant (Symbol.Compconstant v) h = absurd (miss (0 ∷ 3 ∷ 4 ∷ 5 ∷ []) 2 tt h)
no_constant (Symbol.Array a) h = refl
no_constant (Symbol.Procedure p accumulator) h = refl
no_constant Symbol.Unknown h = refl

pub no_operand : (s : Symbol) → Left (3 ∷ 4 ∷ 5 ∷ []) s → as_operand (tree_symbol s) ≡ none
unfolding as_operand tree_symbol
no_operand (Symbol.Integer i) h = absurd (miss (3 ∷ 4 ∷ 5 ∷ []) 0 tt h)
no_operand (Symbol.Constant i v) h = absurd (miss (3 ∷ 4 ∷ 5 ∷ []) 1 tt h)
no_operand (Symbol.Compconstant v) h = absurd (miss (3 ∷ 4 ∷ 5 ∷ []) 2 tt h)
no_operand (Symbol.Array a) h = refl
no_operand (Symbol.Procedure p accumulator) h = refl
no_operand Symbol.Unknown h = refl

pub no_array : (s : Symbol) → Left (0 ∷ 1 ∷ 2 ∷ 4 ∷ 5 ∷ []) s → as_array (tree_symbol s) ≡ none
unfolding as_array tree_symbol
no_array (Symbol.Integer i) h = refl
no_array (Symbol.Constant i v) h = refl
no_array (Symbol.Compconstant v) h = refl
no_array (Symbol.Array a) h = absurd (miss (0 ∷ 1 ∷ 2 ∷ 4 ∷ 5 ∷ []) 3 tt h)
no_array (Symbol.Procedure p accumulator) h = refl
no_array Symbol.Unknown h = refl

pub no_function : (s : Symbol) → Left (0 ∷ 1 ∷ 2 ∷ 3 ∷ 5 ∷ []) s → as_function (tree_symbol s) ≡ none
unfolding as_function tree_symbol
no_function (Symbol.Integer i) h = refl
no_function (Symbol.Constant i v) h = refl
no_function (Symbol.Compconstant v) h = refl
no_function (Symbol.Array a) h = refl
no_function (Symbol.Procedure p accumulator) h = absurd (miss (0 ∷ 1 ∷ 2 ∷ 3 ∷ 5 ∷ []) 4 tt h)
no_function Symbol.Unknown h = refl

-- no name that a statement begins with
pub no_start : (s : Symbol) → Left (1 ∷ 2 ∷ 5 ∷ []) s → {A : Type 0} (f : tree.Id → A) (g : tree.Array → A) (h : ℕ → A) (k : A)
    → given (as_integer (tree_symbol s)) f (λ _. given (as_array (tree_symbol s)) g (λ _. given (as_procedure (tree_symbol s)) h (λ _. k))) ≡ k
unfolding as_integer as_array as_procedure tree_symbol
no_start (Symbol.Integer i) l f g h k = absurd (miss (1 ∷ 2 ∷ 5 ∷ []) 0 tt l)
no_start (Symbol.Constant i v) l f g h k = refl
no_start (Symbol.Compconstant v) l f g h k = refl
no_start (Symbol.Array a) l f g h k = absurd (miss (1 ∷ 2 ∷ 5 ∷ []) 3 tt l)
no_start (Symbol.Procedure p accumulator) l f g h k = absurd (miss (1 ∷ 2 ∷ 5 ∷ []) 4 tt l)
no_start Symbol.Unknown l f g h k = refl

pub ruleset for_cell_start_of = (no_array)

pub ruleset for_inner_subscript_at = (operand_is)

pub ruleset for_operand_of = (no_operand)

pub ruleset for_term_start_at = (term_is)
