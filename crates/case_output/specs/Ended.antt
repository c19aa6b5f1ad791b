-- How a run ends, as it is printed.
use Rattle.machine.specs.Failure.{number_of}
use Rattle.machine.specs.declared.Outcome.{Outcome}
use Rattle.machine.specs.declared.Outcome.TheVariants.{Halted, Spent, Failed}
use Rattle.case_output.specs.declared.Ended.{Ended}
use Rattle.case_output.specs.declared.Ended.TheVariants as Ended

-- an outcome, with its failure's number
abbrev pub ended_of : Outcome → Ended
ended_of Halted = Ended.Halted
ended_of Spent = Ended.Spent
ended_of (Failed f) = Ended.Failed (number_of f)
