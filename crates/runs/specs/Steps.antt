-- Steps made one after the other.
use Rattle.std.specs.Prelude.{ℕ, suc, ◌≡◌, false}
use Rattle.machine.specs.State.{State}
use Rattle.machine.specs.Step.{made, step_def}

-- n steps lead from s to u, each made from a state that was not halted
pub data Steps : ℕ → State → State → Type 0 where
  none : {s : State} → Steps 0 s s
  one : {n : ℕ} {s t u : State} → s.machine.halted ≡ false → step_def s ≡ made t → Steps n t u → Steps (suc n) s u
