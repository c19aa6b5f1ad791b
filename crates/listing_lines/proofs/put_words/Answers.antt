use native.Mathlib.Omega.{arith}
use Rattle.listing_lines.proofs.Laws.{words_next, words_end}
use Rattle.listing_lines.proofs.put_words.Goals as goal

pub loop-at-preserved : goal.loop-at-preserved
loop-at-preserved c =
    words_next _ _ _ _ _ (omega (arith, c.loop-at-test.true, c.min-end.ensures, c.saturating_add.ensures)) (omega (arith, c.loop-at-test.true, c.min-end.ensures, c.saturating_add.ensures)) c.loop-at.invariant c.put_word.ensures

pub returns : goal.returns
returns c = words_end _ _ _ _ _ (omega (arith, c.loop-at-test.false, c.min-end.ensures, c.saturating_add.ensures)) (omega arith) c.loop-at.invariant
