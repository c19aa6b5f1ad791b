use mathlib.Core.Path.{ap, ◌∙◌}
use native.Mathlib.Omega.{arith}
use mathlib.Core.List.{◌++◌}
use lib.ListN.{drop, replicate}
use Rattle.declarations.specs.Scopes.{table_words}
use Rattle.compiler.proofs.ReadingLaws.{failed_reading, accepted_reading}
use Rattle.compiler.proofs.read_twice.Goals as goal

pub returns-in_default : goal.returns-in_default
returns-in_default c =
    rw c.by_number.ensures (failed_reading _ c.requires.0 c.program-read.new.image _ c.args.scratch.now c.image-1.given.0 c.requires.2 c.program-read.ensures.0 c.unwrap_err.ensures)

pub returns : goal.returns
returns c = let scratch = c.args.scratch.now in
    rw c.counted.ensures (accepted_reading _ c.requires.0 _ scratch (c.program-read.new.table ++ drop table_words scratch) c.requires.2 c.program-read.ensures.0 c.in-Ok.is c.with_end-plan.ensures
    (c.clear.ensures ∙ ap (λ n. replicate n 0) (c.image-1.given.1 ∙ c.requires.1)) c.program-again.ensures.0
    (omega (arith, c.requires.2, c.scratch-1.given.1)))
