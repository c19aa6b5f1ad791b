-- Constants and cells.
use Rattle.std.specs.Prelude.{ℕ, Bool, List}
use Rattle.std.proofs.Math.Option.{Option, none}
use Rattle.prelude.specs.Choice.{whether, given}
use Rattle.source.specs.Kinds
use Rattle.source.specs.declared.Token.{Token}
use Rattle.source.specs.Tokens.{token_at, operator_at, name_of}
use Rattle.tree.specs.Tree.{Array, Operand, Subscript, Cell}
use Rattle.tree.specs.Symbols.{Symbol, Names, symbol_of, as_constant, as_operand, as_array}
use Rattle.grammar.specs.Parse.{Got, and_then, fail_at, is, expect}
use Rattle.grammar.specs.Parse.Got.{got}

-- a token that nothing allowed there begins with: a name is 7, any other token 6 (J5, F6, F7)
unfoldable pub refuse : {A : Type 0} → Token → Got A
refuse t = whether (is Kinds.name t) (λ _. fail_at t 7) (λ _. fail_at t 6)

-- how a cell begins: with an operand, which is all of it, or with an array's name, which a subscript follows (E2)
pub data CellStart : Type 0 where
  operand : Operand → CellStart
  element : Array → CellStart

module _ (source : List ℕ) (names : Names) where
  -- a token as a name that may be used so; this is judged before the source is read on (J5)
  unfoldable pub name_as : {A : Type 0} → (Symbol → Option A) → Token → Option A
  name_as kind t = whether (is Kinds.name t) (λ _. kind (symbol_of names (name_of source t))) (λ _. none)

  -- a constant: a numeral, or a name that has a value (D12)
  unfoldable pub constant_of : Token → Got ℕ
  constant_of t =
      whether (is Kinds.numeral t) (λ _. got t.value t.next) λ _.
      given (name_as as_constant t) (λ v. got v t.next) λ _.
      refuse t

  -- whoever wants a constant asks at an offset: there a minus is its sign (T11)
  unfoldable pub parse_constant : ℕ → Got ℕ
  parse_constant at = constant_of (token_at source at)

  -- a constant in a range, else 5 at its token, be it numeral or name (F5)
  unfoldable pub parse_in_range : (ℕ → Bool) → ℕ → Got ℕ
  parse_in_range in_range at =
      and_then (parse_constant at) (λ v next.
      whether (in_range v) (λ _. got v next) (λ _. fail_at (token_at source at) 5))

  -- an operand (E1)
  unfoldable pub operand_of : Token → Got Operand
  operand_of t =
      whether (is Kinds.numeral t) (λ _. got (Operand.literal t.value) t.next) λ _.
      given (name_as as_operand t) (λ o. got o t.next) λ _.
      refuse t

  -- a subscript: `#`, or an operand (E3)
  unfoldable pub subscript_of : Token → Got Subscript
  subscript_of t =
      whether (is Kinds.hash t) (λ _. got Subscript.hash t.next) λ _.
      and_then (operand_of t) (λ o next. got (Subscript.by o) next)

  -- a subscript with its brackets (E2)
  unfoldable pub parse_subscript : ℕ → Got Subscript
  parse_subscript at =
      and_then (expect Kinds.left_bracket source at) (λ _ n.
      and_then (subscript_of (token_at source n)) (λ subscript m.
      and_then (expect Kinds.right_bracket source m) (λ _ next. got subscript next)))

  -- the first token of a cell (E2)
  unfoldable pub cell_start : Token → Got CellStart
  cell_start t =
      given (name_as as_array t) (λ a. got (CellStart.element a) t.next) λ _.
      and_then (operand_of t) (λ o next. got (CellStart.operand o) next)

  -- a cell from after its first token (E2)
  unfoldable pub cell_from : CellStart → ℕ → Got Cell
  cell_from (CellStart.operand o) at = got (Cell.plain o) at
  cell_from (CellStart.element a) at = and_then (parse_subscript at) (λ subscript next. got (Cell.item a subscript) next)

  -- a cell at an offset (E2)
  unfoldable pub parse_cell : ℕ → Got Cell
  parse_cell at = and_then (cell_start (token_at source at)) cell_from

  -- a cell after which no operation may stand: a minus after it is still the operator, and not a numeral that could be out of range (T11)
  unfoldable pub parse_lone_cell : ℕ → Got Cell
  parse_lone_cell at =
      and_then (parse_cell at) (λ cell next.
      let t = operator_at source next in
      whether (is Kinds.minus t) (λ _. fail_at t 6) (λ _. got cell next))
