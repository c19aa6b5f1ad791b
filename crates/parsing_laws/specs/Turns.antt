-- A repetition ends where no more stands or where a part fails, and never because its turns are used up.
use Rattle.std.specs.Prelude.{ℕ, ◌≤◌, ◌≡◌, Bool, List, length}
use Rattle.std.proofs.Math.Option.{Option, none, some}
use Rattle.source.specs.Kinds
use Rattle.tree.specs.Symbols.{Names, Scope}
use Rattle.grammar.specs.Parse.{Got, repeat, more_separated}
use Rattle.grammar.specs.Parse.Got.{got, failed}
use Rattle.grammar.specs.Expressions.{more_unaries, more_operations}
use Rattle.grammar.specs.Statements.{parse_stmt, parse_another}
use Rattle.grammar.specs.Declarations.{ItemKeyword, parse_global, parse_array, parse_local, parse_initial, more_locals, more_declarations}

-- a repetition without a limit on its turns: what it answers from what is done, at an offset
pub data Repeats {A : Type 0} (more : A → ℕ → Option (Got A)) : A → ℕ → Got A → Type 0 where
  ends : {done : A} {at : ℕ} → more done at ≡ none → Repeats more done at (got done at)
  fails : {done : A} {at n k : ℕ} → more done at ≡ some (failed n k) → Repeats more done at (failed n k)
  goes_on : {done longer : A} {at next : ℕ} {g : Got A} → more done at ≡ some (got longer next) → Repeats more longer next g → Repeats more done at g

-- `repeat`, which has as many turns as the source has bytes, answers so from every offset of the source
abbrev pub Enough : {A : Type 0} → List ℕ → (A → ℕ → Option (Got A)) → Type 0
Enough {A = A} source more = (done : A) (at : ℕ) → at ≤ length source → Repeats more done at (repeat source more done at)

-- every repetition of the grammar, in any source, with any live names
pub record TurnsEnough : Type 0 where
  -- unary words and operations (E4)
  pub unaries : (source : List ℕ) (names : Names) → Enough source (more_unaries source names)
  pub operations : (source : List ℕ) (names : Names) → Enough source (more_operations source names)
  -- statements, with any number of levels left (S10)
  pub statements : (source : List ℕ) (names : Names) (left : ℕ) → Enough source (more_separated source Kinds.semicolon (parse_another source names (parse_stmt source names left)))
  -- the lists of a declaration (D3 to D5), the locals among them (D11), and initial values (D5)
  pub globals : (source : List ℕ) (keyword : ItemKeyword) → Enough source (more_separated source Kinds.comma (parse_global source keyword))
  pub arrays : (source : List ℕ) (checked : Bool) → Enough source (more_separated source Kinds.comma (parse_array source checked))
  pub items : (source : List ℕ) (scope : Scope) (keyword : ItemKeyword) → Enough source (more_separated source Kinds.comma (parse_local source scope keyword))
  pub initials : (source : List ℕ) (names : Names) (size : ℕ) → Enough source (more_separated source Kinds.comma (parse_initial source names size))
  -- any lists of locals (D9), and any declarations (D1)
  pub locals : (source : List ℕ) (scope : Scope) → Enough source (more_locals source scope)
  pub declarations : (source : List ℕ) (checked : Bool) → Enough source (more_declarations source checked)
