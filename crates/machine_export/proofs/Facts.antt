-- Numbers that pass the test of a call's have what the test says.
use mathlib.Core.Path.{◌≡◌}
use mathlib.Core.Bool.{true, and-eq-true_iff}
use borrow.Author.Tests.{eqb-true, leb-true}
use Rattle.machine_export.specs.Export.{Numbers, fits_of, Fitting}

pub fitting : (n : Numbers) → fits_of n ≡ true → Fitting n
unfolding fits_of
fitting n e =
    let all = (and-eq-true_iff _ _).0 ((and-eq-true_iff _ _).0 e).0 in
    let sizes = (and-eq-true_iff _ _).0 all.0 in
    let three = (and-eq-true_iff _ _).0 sizes.0 in
    let two = (and-eq-true_iff _ _).0 three.0 in
    let words = (and-eq-true_iff _ _).0 all.1 in
    let registers = (and-eq-true_iff _ _).0 words.0 in
    record {
      machine = eqb-true _ _ two.0;
      clock = eqb-true _ _ two.1;
      request = eqb-true _ _ three.1;
      report = eqb-true _ _ sizes.1;
      words = record { a = leb-true _ _ registers.0; b = leb-true _ _ registers.1; p = leb-true _ _ words.1 };
    }
