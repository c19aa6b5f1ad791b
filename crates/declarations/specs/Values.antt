-- Initial values read and stored.
use Rattle.std.specs.Prelude.{ℕ, ◌+◌, ◌≤◌, ◌<◌, ◌≡◌, List, ltb, length, set}
use Rattle.prelude.specs.Choice.{whether}
use Rattle.source.specs.Tokens.{token_at}
use Rattle.tree.specs.Symbols.{Names}
use Rattle.grammar.specs.Parse.{Got, and_then, fail_at}
use Rattle.grammar.specs.Parse.Got.{got}
use Rattle.grammar.specs.Cells.{parse_constant}
use Rattle.layout.specs.Emission.{stored}

-- an initial value after so many of them (F14)
unfoldable pub initial_value : List ℕ → Names → ℕ → ℕ → ℕ → Got ℕ
initial_value source names size count at =
    and_then (parse_constant source names at) (λ v next.
    whether (ltb count size) (λ _. got v next) (λ _. fail_at (token_at source at) 14))

pub record Filled (first size : ℕ) (image : List ℕ) (count : ℕ) (image' : List ℕ) (values : List ℕ) : Type 0 where
  pub laid : image' ≡ stored image first values
  pub counted : length values ≡ count
  pub few : count ≤ size

-- one of them, stored behind the others
pub record StoresValue (first size count : ℕ) (image image' : List ℕ) (value after : ℕ) : Type 0 where
  pub laid : image' ≡ set image (first + count) value
  pub counted : after ≡ count + 1
  pub few : count < size
