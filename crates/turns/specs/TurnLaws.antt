-- The laws of turns, over the definition that the function is proved to equal.
use Rattle.std.specs.Prelude.{ℕ, ◌*◌, ◌<◌, ◌≡◌, true, replicate}
use Rattle.machine.specs.Failure.{refused}
use Rattle.machine.specs.State.{State, Good}
use Rattle.machine.specs.Run.{run_from, run_def}
use Rattle.runs.specs.Runs.{Turn, runs_def}
use Rattle.turns.specs.Turns.{one_turn, turns_def}

-- a turn as a run of a list
abbrev pub listed : Turn
listed = record { request = one_turn }

-- turns come to the list of as many runs, though that goes on after a run that is not spent: no later one makes a step (R10)
pub record AsList (n : ℕ) (s : State) : Type 0 where
  pub state : (turns_def n s).state ≡ (runs_def (replicate n listed) s).state
  pub work : (turns_def n s).work ≡ (runs_def (replicate n listed) s).work

pub record TurnLaws : Type 0 where
  -- whatever the state, refused runs included
  pub list : (n : ℕ) (s : State) → AsList n s
  -- from an image of 16,384 words with P in it, turns are the steps of all of them in one, and end as those do
  pub as_one : (n : ℕ) (s : State) → 0 < n → Good s → turns_def n s ≡ run_from (n * 1000000) s
  -- where the first turn is refused, there is no other
  pub refusal : (n : ℕ) (s : State) → 0 < n → refused (run_def one_turn s).outcome ≡ true → turns_def n s ≡ run_def one_turn s
