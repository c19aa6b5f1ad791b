-- Worked examples, decided by computation.
use Rattle.std.specs.Prelude.{Option, Some, None, ◌≡◌, refl, Bool, true, false, [], ◌∷◌, map}
use Rattle.effect.specs.declared.Switches.{Switches}
use Rattle.prelude.specs.Text.{bytes, all}
use Rattle.source.specs.Tokens.{number}
use Rattle.arguments.specs.Arguments.{turns_of, switches_of}

-- the ends of the range, and zeros in front
counts :
    map turns_of (bytes "1" ∷ bytes "9" ∷ bytes "10" ∷ bytes "1000000" ∷ bytes "007" ∷ bytes "0000000000001000000" ∷ [])
    ≡ Some 1 ∷ Some 9 ∷ Some 10 ∷ Some 1000000 ∷ Some 7 ∷ Some 1000000 ∷ []
unfolding turns_of all number
counts = refl

-- too few, too many: one more, 2^32 + 1, 2^64 + 1, and 30 digits
out_of_range :
    map turns_of (bytes "" ∷ bytes "0" ∷ bytes "000" ∷ bytes "1000001" ∷ bytes "4294967297" ∷ bytes "18446744073709551617" ∷ bytes "100000000000000000000000000001" ∷ [])
    ≡ None ∷ None ∷ None ∷ None ∷ None ∷ None ∷ None ∷ []
unfolding turns_of all number
out_of_range = refl

-- other bytes: those beside the digits, and others before, among and after them
not_digits :
    map turns_of (bytes "12a" ∷ bytes "a12" ∷ bytes "1 2" ∷ bytes " 1" ∷ bytes "1\n" ∷ bytes "-1" ∷ bytes "+1" ∷ bytes "1/" ∷ bytes "1:" ∷ [])
    ≡ None ∷ None ∷ None ∷ None ∷ None ∷ None ∷ None ∷ None ∷ None ∷ []
unfolding turns_of all number
not_digits = refl

abbrev set : Bool → Bool → Bool → Bool → Option Switches
set one two three four = Some (record { one = one; two = two; three = three; four = four })

switches :
    map switches_of (bytes "0000" ∷ bytes "1000" ∷ bytes "0100" ∷ bytes "0010" ∷ bytes "0001" ∷ bytes "1010" ∷ bytes "1111" ∷ [])
    ≡ set false false false false ∷ set true false false false ∷ set false true false false ∷ set false false true false
    ∷ set false false false true ∷ set true false true false ∷ set true true true true ∷ []
unfolding switches_of all
switches = refl

no_switches :
    map switches_of (bytes "" ∷ bytes "000" ∷ bytes "00000" ∷ bytes "2000" ∷ bytes "0200" ∷ bytes "0020" ∷ bytes "0002" ∷ bytes "000/" ∷ bytes "000 " ∷ [])
    ≡ None ∷ None ∷ None ∷ None ∷ None ∷ None ∷ None ∷ None ∷ None ∷ []
unfolding switches_of all
no_switches = refl
