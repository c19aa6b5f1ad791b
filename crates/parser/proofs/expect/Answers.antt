use mathlib.Core.Path.{◌≡◌, sym, ap, ◌∙◌}
use mathlib.Core.Bool.{true}
use lib.Dec.{eqb}
use borrow.Author.Tests.{eq-eqb}
use denote.Enum.Bare.{same_true}
use Rattle.std.proofs.Common.{rules}
use Rattle.source.specs.Kinds.{kind_number}
use Rattle.source.specs.contracts.kind.Kind.{the_type}
use Rattle.grammar.specs.Parse.{expect}
use Rattle.parser.proofs.expect.Goals as goal

pub returns-then-eq : goal.returns-then-eq
unfolding expect
returns-then-eq c =
    let same : c.token_at-t.result.kind ≡ c.args.kind = same_true the_type (search rules) _ _ (sym c.eq.ensures ∙ c.if-eq.true) in
    let passes : eqb (kind_number c.token_at-t.result.kind) (kind_number c.args.kind) ≡ true = eq-eqb _ _ (ap kind_number same) in
    rw (← c.token_at-t.ensures, passes)
