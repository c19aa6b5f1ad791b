-- Which generic instructions skip the next word (I10).
use Rattle.std.specs.Prelude.{ℕ, ◌%◌, Bool, true, false, cond, not, ◌||◌, eqb, ltb}
use Rattle.word.specs.Arithmetic.{SIGN, negative}
use Rattle.instruction.specs.Slot.{SKP, SLN, SLZ, SMI, SNZ, SPL, SRC, SS1, SS2, SS3, SS4, SSC, SSR, SSS, SZE}
use Rattle.effect.specs.declared.Registers.{Registers}
use Rattle.effect.specs.declared.Switches.{Switches}

-- whether a sense switch is set
abbrev pub any_switch : Switches → Bool
any_switch s = s.one || s.two || s.three || s.four

unfoldable pub skips_of : ℕ → Registers → Switches → Bool
skips_of slot r s =
    cond (eqb slot SKP) true
    (cond (eqb slot SRC) (not r.c)
    (cond (eqb slot SSC) r.c
    (cond (eqb slot SS1) s.one
    (cond (eqb slot SS2) s.two
    (cond (eqb slot SS3) s.three
    (cond (eqb slot SS4) s.four
    (cond (eqb slot SSS) (any_switch s)
    (cond (eqb slot SSR) (not (any_switch s))
    (cond (eqb slot SZE) (eqb r.a 0)
    (cond (eqb slot SNZ) (ltb 0 r.a)
    (cond (eqb slot SPL) (ltb r.a SIGN)
    (cond (eqb slot SMI) (negative r.a)
    (cond (eqb slot SLZ) (eqb (r.a % 2) 0)
    (cond (eqb slot SLN) (eqb (r.a % 2) 1)
    false))))))))))))))
