-- What is shown of a source.
use Rattle.std.specs.Prelude.{ℕ, ◌*◌, ◌≤◌, ◌≡◌, Bool, true, false, not, ◌&&◌, List, ◌++◌, eqb, length, get_or, replicate}
use Rattle.prelude.specs.Choice.{whether}
use Rattle.digits.specs.Digits.{decimal, signed, newline}
use Rattle.text.specs.Wrote.{Wrote}
use Rattle.text.specs.Adds.{Adds}
use Rattle.text.specs.declared.Text.{Text}
use Rattle.prelude.specs.Text.{bytes}
use Rattle.effect.specs.declared.Registers.{Registers}
use Rattle.effect.specs.declared.Switches.{Switches}
use Rattle.machine.specs.declared.Outcome.{Outcome}
use Rattle.machine.specs.Failure.{number_of}
use Rattle.machine.specs.State.{State, state}
use Rattle.machine.specs.Run.{Ran}
use Rattle.tree.specs.Tree.{Program}
use Rattle.layout.specs.Allocation.{start, allocated}
use Rattle.layout.specs.Map.{finished}
use Rattle.grammar.specs.Parse.{Got}
use Rattle.declarations.specs.Procedures.{program_in}
use Rattle.compilation.specs.Compile.{Compiled, Result}
use Rattle.compiler.specs.Compile.{result_on}
use Rattle.symbols.specs.Table.{entry_words, entries_of}
use Rattle.turns.specs.declared.Turned.{Turned}
use Rattle.turns.specs.Turns.{start_machine, turns_def, turned_of}
use Rattle.failure_report.specs.Failure.{words_of, failure_text}
use Rattle.report.specs.declared.run.ProgramFacts.{ProgramFacts}
use Rattle.report.specs.Globals.{globals_text}

-- how a run ended, a failure by its number and words (O4)
unfoldable pub outcome_text : Outcome → List ℕ
outcome_text Outcome.Halted = bytes "halted after "
outcome_text Outcome.Spent = bytes "spent: not halted after "
outcome_text (Outcome.Failed f) = let n = number_of f in bytes "failed with " ++ (decimal n ++ (bytes ", " ++ (words_of n ++ bytes ", after ")))

-- whether a run stopped at a subscript: with `.CHECKED` it halted, and P is not behind the main body's last HLT. By demand 3h and 3l it is then behind the HLT of a test (O11)
unfoldable pub stops_by : Bool → ℕ → Outcome → ℕ → Bool
stops_by checked end Outcome.Halted at = checked && not (eqb at end)
stops_by checked end Outcome.Spent at = false
stops_by checked end (Outcome.Failed f) at = false

abbrev pub stops_in : Program → Outcome → ℕ → Bool
stops_in p outcome at = stops_by p.checked (finished p).next outcome at

-- how a run ended, with X where it stopped at a subscript (O4, O11)
unfoldable pub end_text : Bool → Outcome → ℕ → List ℕ
end_text stopped outcome x = whether stopped (λ _. bytes "stopped: a subscript left its array, X = " ++ (signed x ++ bytes ", after ")) (λ _. outcome_text outcome)

-- the steps, and the end of the line (O4)
unfoldable pub steps_text : ℕ → List ℕ
steps_text n = decimal n ++ whether (eqb n 1) (λ _. bytes " step\n") (λ _. bytes " steps\n")

unfoldable pub bit_text : Bool → List ℕ
bit_text true = bytes "1"
bit_text false = bytes "0"

-- A, B and X signed; X is word 0 (O4)
unfoldable pub registers_text : Registers → ℕ → List ℕ
registers_text r x =
    bytes "registers: A = " ++ (signed r.a ++ (bytes ", B = " ++ (signed r.b ++ (bytes ", C = " ++ (bit_text r.c ++ (bytes ", X = " ++ (signed x ++ newline)))))))

-- A RUN of a program: how its turns ended, their steps, the registers and the globals (O4 to O6, O11)
unfoldable pub run_text : Program → Turned → List ℕ → List ℕ
run_text p t memory =
    end_text (stops_in p t.outcome t.machine.p) t.outcome (get_or memory 0 0) ++ (steps_text t.steps ++ (registers_text t.machine.registers (get_or memory 0 0) ++ globals_text memory start p.declarations))

-- what is read of the program that a source is parsed as: its names, so many in a table; whether its subscripts are tested; and the address behind its last HLT
pub record ProgramRead (source : List ℕ) (r : ProgramFacts) (table : List ℕ) : Type 0 where
  pub inside : entry_words * r.names ≤ length table
  pub names : (p : Program) (n : ℕ) → program_in source ≡ Got.got p n → entries_of r.names table ≡ (allocated p.declarations).scope.names
  pub checked : (p : Program) (n : ℕ) → program_in source ≡ Got.got p n → r.checked ≡ p.checked
  pub end : (p : Program) (n : ℕ) → program_in source ≡ Got.got p n → r.end ≡ (finished p).next

-- the program that a source is parsed as, added as it is shown after its turns
abbrev pub AddsRun : List ℕ → Turned → List ℕ → Text → Text → Type 0
AddsRun source t memory before after = (p : Program) (n : ℕ) → program_in source ≡ Got.got p n → Adds before after (run_text p t memory)

-- and as it stands in the buffer
abbrev pub ShowsRun : List ℕ → Turned → List ℕ → List ℕ → ℕ → List ℕ → Type 0
ShowsRun source t memory out r out' = (p : Program) (n : ℕ) → program_in source ≡ Got.got p n → Wrote out out' 0 r (run_text p t memory)

-- where a program starts, with the image as it is laid (O8)
abbrev pub start_of : Compiled → Switches → State
start_of c switches =
    state (start_machine c.entry switches) c.image

-- its run, for so many turns
abbrev pub ran_of : Compiled → ℕ → Switches → Ran
ran_of c turns switches = turns_def turns (start_of c switches)

-- WHAT IS SHOWN of a result: its failure, or its run (O8)
unfoldable pub shown_of : List ℕ → Result → ℕ → Switches → List ℕ
shown_of source (Result.accepted c) turns switches = let r = ran_of c turns switches in run_text c.program (turned_of r) r.state.image
shown_of source (Result.failed n at) turns switches = failure_text source n at

-- the image after it: as the run leaves it; of a failed compile as it was
unfoldable pub image_shown : Result → ℕ → Switches → List ℕ → List ℕ
image_shown (Result.accepted c) turns switches image = (ran_of c turns switches).state.image
image_shown (Result.failed n at) turns switches image = image

-- A CALL OF `show`: the text in the buffer, the image, and scratch all zeros
pub record Shows (source : List ℕ) (turns : ℕ) (switches : Switches) (image scratch out : List ℕ) (r : ℕ) (image' scratch' out' : List ℕ) : Type 0 where
  pub written : Wrote out out' 0 r (shown_of source (result_on source image scratch) turns switches)
  pub left : image' ≡ image_shown (result_on source image scratch) turns switches image
  pub cleared : scratch' ≡ replicate (length scratch) 0
