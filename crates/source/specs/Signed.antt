-- Constants behind a sign: the minus and the quote of Tokens, in one form.
use Rattle.std.specs.Prelude.{ℕ, suc, ◌-◌, ◌%◌, Bool, true, false, List, take, eqb}
use Rattle.prelude.specs.Choice.{whether}
use Rattle.source.specs.Bytes.{span}
use Rattle.source.specs.Classes.{passes}
use Rattle.source.specs.Tokens.{token, number, constant_token}
use Rattle.source.specs.declared.Token.{Token}
use Rattle.source.specs.declared.constant.Sign.{Sign}

-- the 16 bits of a number, or of that number below 0
abbrev pub bits_of : Bool → ℕ → ℕ
bits_of true n = (65536 - n) % 65536
bits_of false n = n

-- digits of the sign's class, up to its limit; with no digit it is that sign alone (T8, T10)
abbrev pub signed_token : Sign → List ℕ → ℕ → Token
signed_token sign bs at =
    let width = span (passes sign.digits) bs in
    let n = number sign.base 0 (take width bs) in
    whether (eqb width 0) (λ _. token sign.kind 0 at 1) (λ _. constant_token n sign.limit (bits_of sign.negates n) at (suc width))
