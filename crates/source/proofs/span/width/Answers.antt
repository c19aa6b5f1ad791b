use Rattle.std.proofs.Common.{◌∙◌, rules, tests, arith}
use Rattle.std.proofs.lemmas.Iterator.{YieldsList-from_slice}
use Rattle.std.proofs.lemmas.Iterator.Consumers.{count_from_yields_List}
use Rattle.std.proofs.lemmas.Iterator.Search.{YieldsList-from_take_while}
use Rattle.std.proofs.lemmas.List.Folds.{length-prefix_len}
use Rattle.source.specs.Classes.{passes}
use Rattle.source.proofs.SpanLaws.{of_front, most}
use Rattle.source.proofs.span.width.Goals as goal

pub returns : goal.returns
returns c =
    let p = passes c.args.class in
    let bs = c.args.bytes.now in
    let is =
    of_front p bs _
    (count_from_yields_List c.take_while.result _ c.count.ensures.ran
    (YieldsList-from_take_while _ p (YieldsList-from_slice bs (cc)) c.take_while.ensures.closure c.take_while.ensures.done (λ x b q k. search (rules, tests)))
    ∙ length-prefix_len p bs) in
    (is, omega (arith, is, most p bs))
