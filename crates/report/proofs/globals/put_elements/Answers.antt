use mathlib.Core.Path.{ap, ◌∙◌}
use lib.ListN.{get_or}
use Rattle.report.proofs.Laws.{next_place}
use Rattle.report.proofs.globals.put_elements.Goals as goal

pub loop-place-preserved : goal.loop-place-preserved
loop-place-preserved c =
    next_place _ _ _ _ _ c.loop-place-test.true (c.word_at-word.ensures ∙ ap (λ n. get_or c.args.image.now n 0) c.saturating_sub.ensures) c.loop-place.invariant c.put_element.ensures
