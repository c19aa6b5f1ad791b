use Rattle.std.proofs.Common.{rules, tests, eqb, ap, ◌∙◌, take, arith}
use Rattle.std.proofs.lemmas.Iterator.{YieldsList-from_slice}
use Rattle.std.proofs.lemmas.Iterator.Search.{position_from_yields_List}
use Rattle.layout.specs.Pool.{index_of}
use Rattle.emitter.proofs.EmittedPools.{counted, placed, index_within}
use Rattle.emitter.specs.Emitted.{literals_in}
use Rattle.emitter.proofs.Pool.index_of.Goals as goal

pub returns : goal.returns
returns c =
    let value = c.args.value in
    let held = ap (λ k. take k c.args.self.words) c.held_count.ensures.0 ∙ counted c.args.self.count c.args.self.words in
    let found = position_from_yields_List (λ x. eqb x value) _ _ c.position.result c.position.ensures.ran (YieldsList-from_slice _ c.iter.ensures.rest) (λ x b q k. search (rules, tests)) in
    let is = c.unwrap_or.ensures ∙ placed _ value found ∙ ap (λ l. index_of l value) held in
    let within = index_within value (literals_in c.args.self) in
    (is, omega (arith, is, within, c.held_count.ensures.0, c.held_count.ensures.1))
