use Rattle.proved_cases.proofs.Rows.{cases_hold}
use Rattle.proved_cases.proofs.cases_hold.Statement.{statement}
use Rattle.proved_cases.proofs.cases_hold.Tie as tie

returns : tie.Need-returns
returns c = cases_hold

pub cases_hold_spec : {M : Type 1} → statement M
cases_hold_spec = tie.close (tie.spec returns)
