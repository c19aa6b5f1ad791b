-- What a token stands for, and what is promised of looking it up.
use Rattle.std.specs.Prelude.{ℕ, ◌≡◌, List, eqb}
use Rattle.prelude.specs.Choice.{whether}
use Rattle.source.specs.Kinds.{kind_number}
use Rattle.source.specs.Kinds
use Rattle.source.specs.declared.Token.{Token}
use Rattle.source.specs.Tokens.{token_at, name_of}
use Rattle.tree.specs.Tree.{Name}
use Rattle.tree.specs.Symbols.{Symbol, Names, symbol_of}
use Rattle.symbols.specs.Packing.{pack_of, unpack}

-- a token with the name that it is looked up by: a numeral stands for its value, as a compconstant's name does (D12, E1)
unfoldable pub symbol_by : Names → Token → Name → Symbol
symbol_by names t name =
    whether (eqb (kind_number t.kind) Kinds.numeral) (λ _. Symbol.compconstant t.value) λ _.
    whether (eqb (kind_number t.kind) Kinds.name) (λ _. symbol_of names name) λ _.
    Symbol.unknown

-- by its name in the source
abbrev pub symbol_at : List ℕ → Names → Token → Symbol
symbol_at source names t = symbol_by names t (name_of source t)

-- A TOKEN LOOKED UP, by its name as it is packed; for a token of the source that is its name there
pub record LooksUp (source : List ℕ) (names : Names) (t : Token) (s : Symbol) : Type 0 where
  pub packed : s ≡ symbol_by names t (unpack (pack_of (name_of source t)))
  pub of_source : (at : ℕ) → t ≡ token_at source at → s ≡ symbol_at source names t
