-- Every row of the table holds, most by computation.
use Prim.Native.Nat.{ℕ, ◌+◌, ◌-◌, ◌%◌, ◌^◌, ◌<◌}
use mathlib.Core.Path.{◌≡◌, refl}
use mathlib.Core.Bool.{false}
use native.Mathlib.Omega.{arith}
use lib.ListN.{length}
use borrow.Author.Tests.{eq-eqb, lt-leb, le-ltb}
use Rattle.word.specs.Arithmetic.{sum_of, compare_of}
use Rattle.instruction.specs.Table.{generics}
use Rattle.instruction.specs.Decode.{find_word, generic_of, shift_of, memory_of, decode_def}
use Rattle.instruction.specs.Encode.{shift_word}
use Rattle.effect.specs.Effects.{operate_of, unary_of}
use Rattle.effect.specs.Skips.{skips_of}
use Rattle.machine.specs.declared.Request.{Request}
use Rattle.machine.specs.declared.Outcome.TheVariants.{Spent}
use Rattle.machine.specs.Address.{follow_of}
use Rattle.machine.specs.State.{State}
use Rattle.machine.specs.Step.{memory_def, generic_def, step_def}
use Rattle.machine.specs.Clock.{cooperatives, due_of}
use Rattle.machine.specs.Run.{idle, run_from, run_def}
use Rattle.machine.proofs.RunSteps.{run_spent}
use Rattle.compilation.specs.Computed.{computed}
use Rattle.proved_cases.specs.Samples.{absolute, greater, sums}
use Rattle.proved_cases.specs.Table.{table, TableHolds}

one_ahead : (n : ℕ) → due_of n ((n + 1) % 2 ^ 32) ≡ false
one_ahead n =
    let e : (n + 2 ^ 32 - (n + 1) % 2 ^ 32) % 2 ^ 32 ≡ 2 ^ 32 - 1 = omega arith in
    le-ltb ((n + 2 ^ 32 - (n + 1) % 2 ^ 32) % 2 ^ 32) (2 ^ 31) (omega arith)

nothing_spent : (q : Request) (s : State) → q.cooperative < cooperatives → q.budget ≡ 0 → length s.image ≡ 16384 → s.machine.p < 16384 → s.machine.halted ≡ false
    → run_def q s ≡ idle Spent s
unfolding run_def
nothing_spent q s c b l p h =
    rw (lt-leb _ _ c, eq-eqb _ _ l, le-ltb 16383 s.machine.p (omega arith), le-ltb 1000000 q.budget (omega arith)) (run_spent q.budget s h b)

pub cases_hold : TableHolds
unfolding TableHolds table computed sums absolute greater run_def run_from step_def decode_def shift_of generic_of find_word generics memory_of follow_of memory_def generic_def operate_of unary_of skips_of sum_of compare_of shift_word
cases_hold = (refl, (refl, (refl, (refl, (refl, (refl, (refl, (refl, (refl, (refl, (one_ahead, (nothing_spent, tt))))))))))))
