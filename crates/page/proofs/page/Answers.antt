use mathlib.Core.Path.{sym, ◌∙◌}
use native.Mathlib.Omega.{arith}
use Rattle.std.proofs.Common.{rules}
use Rattle.page.proofs.Judging.{page_written}
use Rattle.page.proofs.page.Goals as goal

pub returns-then-made : goal.returns-then-made
returns-then-made c =
    record {
      answered = c.judge-answer.ensures;
      written = (search rules) ∙ page_written _ _ _ _ (sym c.is_ok-made.ensures.value ∙ c.if-made.true) c.judge-answer.ensures c.new.ensures.empty c.new.ensures.kept (omega arith) c.put_lines.ensures;
    }
