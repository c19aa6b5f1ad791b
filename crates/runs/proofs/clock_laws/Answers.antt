use lib.ListN.{get_or}
use mir.Syntax.{w32}
use mir.Val.{Fits}
use borrow.Author.Rules.{rules}
use Rattle.runs.proofs.ClockLaws.{clock_laws}
use Rattle.runs.proofs.clock_laws.Goals as goal

pub returns : goal.returns
returns c = let k = c.args.clock in
    clock_laws k (record {
      common = search rules;
      size = search rules;
      each = λ i. let count : Fits w32 (get_or k.counts i 0) = search rules in count.fits;
    })
