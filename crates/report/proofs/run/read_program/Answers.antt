use native.Mathlib.Omega.{arith}
use Rattle.report.proofs.Laws.{program_read, no_program}
use Rattle.report.proofs.run.read_program.Goals as goal

pub returns-in_default : goal.returns-in_default
returns-in_default c =
    let none = no_program _ _ c.program-read.ensures.0 c.requires c.in_default.is in
    record { inside = omega arith; names = λ p n e. absurd (none p n e); checked = λ p n e. absurd (none p n e); end = λ p n e. absurd (none p n e) }

pub returns : goal.returns
returns c = program_read _ _ c.program-read.ensures.0 c.requires c.in-Ok.is c.program-read.ensures.1.table_kept
