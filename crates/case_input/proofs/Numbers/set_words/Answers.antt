use Rattle.std.proofs.Common.{rules, sym, ◌∙◌, arith}
use Rattle.case_input.proofs.Digits.{one_set}
use Rattle.case_input.proofs.Numbers.set_words.Goals as goal

pub loop-preserved : goal.loop-preserved
loop-preserved c =
    let text = c.loop.invariant.1 in
    let a = rw text at c.number-address.ensures.read in
    let kept = c.number-address.ensures.same ∙ text in
    let w = rw kept at c.word.ensures.read in
    (omega arith, c.word.ensures.same ∙ kept, search rules, sym (one_set _ _ _ _ _ c.loop-test.true a w) ∙ c.loop.invariant.3)
