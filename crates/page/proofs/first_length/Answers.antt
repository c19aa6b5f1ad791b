use mathlib.Core.Path.{◌≡◌, sym, ◌∙◌}
use native.Mathlib.Omega.{arith}
use Rattle.std.specs.Prelude.{None}
use Rattle.std.proofs.Common.{rules}
use Rattle.page.proofs.NameLaws.{no_other, newline_there, printable_before, other_there, good_length, no_bytes, many_bytes}
use Rattle.page.proofs.first_length.Goals as goal

pub returns-in_err-end : goal.returns-in_err-end
returns-in_err-end c = let none : c.from_residual.result ≡ None = search rules in
    none ∙ sym (no_other _ (sym c.first_other.ensures ∙ c.in_err-end.was))

pub returns-then-names-end-ne10 : goal.returns-then-names-end-ne10
returns-then-names-end-ne10 c = sym (other_there _ _ (sym c.first_other.ensures ∙ c.in_ok-end.was) c.if-names-end-ne10.true)

pub returns-then-end-eq0 : goal.returns-then-end-eq0
returns-then-end-eq0 c = sym (no_bytes _ _ (newline_there _ _ (sym c.first_other.ensures ∙ c.in_ok-end.was) c.if-names-end-ne10.false) c.if-end-eq0.true)

pub returns-then-end-gt-LONGEST_NAME : goal.returns-then-end-gt-LONGEST_NAME
returns-then-end-gt-LONGEST_NAME c = sym (many_bytes _ _ (newline_there _ _ (sym c.first_other.ensures ∙ c.in_ok-end.was) c.if-names-end-ne10.false) c.if-end-gt-LONGEST_NAME.true)

pub returns : goal.returns
returns c = let e = sym c.first_other.ensures ∙ c.in_ok-end.was in
    sym (good_length _ _ (newline_there _ _ e c.if-names-end-ne10.false) (omega arith) c.if-end-gt-LONGEST_NAME.false (printable_before _ _ e))
