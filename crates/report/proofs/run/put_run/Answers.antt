use mathlib.Core.Path.{ap, ◌∙◌}
use Rattle.text.proofs.Laws.{and_then, same_added}
use Rattle.report.specs.Shown.{run_text}
use Rattle.report.specs.Globals.{names_text}
use Rattle.report.proofs.Laws.{globals_are}
use Rattle.report.proofs.run.put_run.Goals as goal

pub returns : goal.returns
unfolding run_text
returns c =
    let all = and_then c.put_ending.ensures (and_then c.put_steps.ensures (and_then c.put_registers.ensures c.put_globals.ensures)) in
    record {
      same_buffer = all.same_buffer;
      run = λ p n e.
          let read = c.read_program-read.ensures in
          let names = ap (names_text c.args.image.now) (read.names p n e) ∙ globals_are c.args.image.now p.declarations in
          let ending = rw (c.stops.ensures, read.checked p n e, read.end p n e) at c.put_ending.ensures in
          rw c.word_at-x.ensures at (and_then ending (and_then c.put_steps.ensures (and_then c.put_registers.ensures (same_added names c.put_globals.ensures))));
    }
