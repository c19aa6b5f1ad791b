-- Live names that stand for what is declared, and what their uses then name.
use Prim.Native.Nat.{ℕ}
use mathlib.Core.Bool.{true, false}
use mathlib.Core.List.{List}
use mathlib.Core.Option.{Option}
use Rattle.source.specs.Bytes.{same_bytes}
use Rattle.prelude.specs.Choice.{given}
use Rattle.source.specs.Kinds
use Rattle.source.specs.declared.Token.{Token}
use Rattle.source.specs.Tokens.{name_of}
use Rattle.tree.specs.Tree.{Name}
use Rattle.tree.specs.Symbols.{Symbol, Entry, Names, is_x, symbol_of, as_constant, as_integer, as_operand, as_array, as_procedure, as_function}
use Rattle.grammar.specs.Parse.{Got, is}
use Rattle.grammar.specs.Cells.{name_as}
use Rattle.parsing_laws.specs.WellFormed.{Context, IdOk, OperandOk, ArrayOk, ProcedureOk}
use Rattle.parsing_laws.proofs.Parsed.Choices.{choice, Some, there, nothing, if_some, Rows, if_found}
use Rattle.parsing_laws.proofs.Parsed.Words.{IsWord}
use Rattle.parsing_laws.proofs.Parsed.Parts.{Parsed}

-- what a name stands for is declared
abbrev pub SymbolOk : Context → Symbol → Type 0
SymbolOk x (Symbol.integer i) = IdOk x i
SymbolOk x (Symbol.constant i v) = IdOk x i × IsWord v
SymbolOk x (Symbol.compconstant v) = IsWord v
SymbolOk x (Symbol.array a) = ArrayOk x a
SymbolOk x (Symbol.procedure p accumulator) = ProcedureOk x p
SymbolOk x Symbol.unknown = Unit {0}

abbrev pub NamesOk : Context → Names → Type 0
NamesOk x names = Rows (λ (name : Name) (e : Entry). SymbolOk x e.symbol) names

-- what it may be used as is declared too
pub record Uses (x : Context) (s : Symbol) : Type 0 where
  pub constant : Some IsWord (as_constant s)
  pub integer : Some (IdOk x) (as_integer s)
  pub operand : Some (OperandOk x) (as_operand s)
  pub array : Some (ArrayOk x) (as_array s)
  pub procedure : Some (ProcedureOk x) (as_procedure s)
  pub function : Some (ProcedureOk x) (as_function s)

uses : (x : Context) (s : Symbol) → SymbolOk x s → Uses x s
unfolding as_constant as_integer as_operand as_array as_procedure as_function
uses x (Symbol.integer i) h = record { constant = nothing; integer = there h; operand = there h; array = nothing; procedure = nothing; function = nothing }
uses x (Symbol.constant i v) h = record { constant = there h.1; integer = nothing; operand = there h.0; array = nothing; procedure = nothing; function = nothing }
uses x (Symbol.compconstant v) h = record { constant = there h; integer = nothing; operand = there h; array = nothing; procedure = nothing; function = nothing }
uses x (Symbol.array a) h = record { constant = nothing; integer = nothing; operand = nothing; array = there h; procedure = nothing; function = nothing }
uses x (Symbol.procedure p true) h = record { constant = nothing; integer = nothing; operand = nothing; array = nothing; procedure = there h; function = there h }
uses x (Symbol.procedure p false) h = record { constant = nothing; integer = nothing; operand = nothing; array = nothing; procedure = there h; function = nothing }
uses x Symbol.unknown h = record { constant = nothing; integer = nothing; operand = nothing; array = nothing; procedure = nothing; function = nothing }

module _ (source : List ℕ) (x : Context) {names : Names} (known : NamesOk x names) where
  symbol_ok : (name : Name) → SymbolOk x (symbol_of names name)
  unfolding symbol_of
  symbol_ok name = choice (SymbolOk x) (is_x name) _ _ (λ e. tt) (λ e. if_found (SymbolOk x) (same_bytes name) _ _ known (λ n entry e p. p) tt)

  name_as_lem : {A : Type 0} {P : A → Type 0} (kind : Symbol → Option A) → ((s : Symbol) → Uses x s → Some P (kind s)) → (t : Token) → Some P (name_as source names kind t)
  unfolding name_as
  name_as_lem {P = P} kind h t =
      choice (Some P) (is Kinds.name t) _ _ (λ e. let s = symbol_of names (name_of source t) in h s (uses x s (symbol_ok (name_of source t)))) (λ e. nothing)

  -- a token that is a name which may be used so, or another
  pub named : {A B : Type 0} {P : A → Type 0} {Q : B → Type 0} (kind : Symbol → Option A) (t : Token) {f : A → Got B} {g : Got B} → ((s : Symbol) → Uses x s → Some P (kind s))
      → ((a : A) → P a → Parsed source Q (f a)) → Parsed source Q g → Parsed source Q (given (name_as source names kind t) f (λ _. g))
  named {Q = Q} kind t u h k = if_some (Parsed source Q) _ _ (name_as_lem kind u t) h k
