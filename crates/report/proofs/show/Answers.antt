use mathlib.Core.Path.{refl, ap, ◌∙◌}
use native.Mathlib.Omega.{arith}
use lib.ListN.{replicate}
use Rattle.std.proofs.Common.{rules}
use Rattle.report.proofs.Results.{run_shown, failure_shown, in_buffer}
use Rattle.report.proofs.show.Goals as goal

pub returns-in-Ok : goal.returns-in-Ok
returns-in-Ok c = let called = c.compile-answer.ensures in
    let shown = run_shown c.args.source.now c.args.image.now c.args.scratch.now c.args.out.now c.args.turns c.args.switches
    called.answered c.in-Ok.is refl called.laid c.start-first.ensures c.run_turns-ran.ensures
    (λ p n e. in_buffer c.new-text.ensures.empty c.new-text.ensures.kept (omega arith) (search rules) (c.put_run.ensures.run p n e)) in
    record {
      written = shown.0;
      left = shown.1;
      cleared = c.clear.ensures ∙ ap (λ n. replicate n 0) (c.scratch-in-Ok-1.given ∙ c.scratch-1.given);
    }

pub returns-in-Err : goal.returns-in-Err
returns-in-Err c = let called = c.compile-answer.ensures in
    let shown = failure_shown c.args.source.now c.args.image.now c.args.scratch.now c.args.out.now c.args.turns c.args.switches
    called.answered c.in-Err.is called.laid (in_buffer c.new-text.ensures.empty c.new-text.ensures.kept (omega arith) (search rules) (rw c.number.ensures at c.put_failure.ensures)) in
    record { written = shown.0; left = shown.1; cleared = called.cleared }
