use Rattle.page.proofs.Shown.{made, failed}
use Rattle.page.proofs.page_laws.Goals as goal

pub returns : goal.returns
returns c = record { made = made; failed = failed }
