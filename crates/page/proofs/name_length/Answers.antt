use mathlib.Core.Path.{ap, ◌∙◌}
use native.Mathlib.Omega.{arith}
use lib.ListN.{length-drop}
use Rattle.std.proofs.lemmas.List.{take_all}
use Rattle.page.specs.Names.{names_of}
use Rattle.page.specs.Readings.{length_of, sized}
use Rattle.page.proofs.name_length.Goals as goal

pub returns : goal.returns
returns c = let l = length-drop c.args.from c.args.names.now in
    c.first_length.ensures ∙ ap (λ bs. sized (length_of (names_of bs))) (take_all _ _ (omega (arith, l)))
