use mathlib.Core.Path.{sym, ◌∙◌}
use native.Mathlib.Omega.{arith}
use Rattle.source.specs.declared.kind.Kind.TheVariants as Kind
use Rattle.source.proofs.KindLaws.{not_unequal_kinds}
use Rattle.symbols.specs.Packing.{unpack}
use Rattle.declarations.proofs.NameLaws.{too_many}
use Rattle.declarations.proofs.Scope.name_failure.Goals as goal

pub returns-then-self-ge-LIVE_NAMES : goal.returns-then-self-ge-LIVE_NAMES
returns-then-self-ge-LIVE_NAMES c = λ number _.
    let scope = c.args.self in
    let full =
    too_many scope.names scope.level scope.taken c.args.table.now number c.args.t (unpack c.args.name) c.requires
    (not_unequal_kinds _ Kind.Name c.ne.ensures c.if-ne.false) (sym c.is_taken.ensures ∙ c.if-is_taken.false) c.if-self-ge-LIVE_NAMES.true in
    (full, omega (arith, full))
