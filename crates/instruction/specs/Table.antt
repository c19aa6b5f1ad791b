-- The shifts by their kinds (I11, I18), and the generic instructions by their words (I10, I19).
use Rattle.std.specs.Prelude.{ℕ, List, [], ◌∷◌, replicate, set}
use Rattle.word.specs.Shift.{LGR, ARS, ARR, LGL, ALS, ALR, LRS, LLS}
use Rattle.instruction.specs.Slot.{ACA, AOA, CAL, CAR, CHS, CMA, CRA, CSA, HLT, IAB, ICA, ICL, ICR, NOP, SKP, SLN, SLZ, SMI, SNZ, SPL, SRC, SS1, SS2, SS3, SS4, SSC, SSM, SSP, SSR, SSS, SZE, TCA}

abbrev pub short_kinds : List ℕ
short_kinds = LGR ∷ ARS ∷ ARR ∷ LGL ∷ ALS ∷ ALR ∷ []

-- those of A and B, which go by 15 only (I18)
abbrev pub long_kinds : List ℕ
long_kinds = LRS ∷ LLS ∷ []

pub record Row : Type 0 where
  pub slot : ℕ
  pub word : ℕ

abbrev pub row : ℕ → ℕ → Row
row s w = record { slot = s; word = w }

unfoldable pub generics : List Row
generics =
    row HLT 0o000000 ∷ row SKP 0o100000 ∷ row NOP 0o101000 ∷ row SRC 0o100001 ∷ row SSC 0o101001 ∷ row SS1 0o101020 ∷
    row SS2 0o101010 ∷ row SS3 0o101004 ∷ row SS4 0o101002 ∷ row SSS 0o101036 ∷ row SSR 0o100036 ∷ row SZE 0o100040 ∷
    row SNZ 0o101040 ∷ row SPL 0o100400 ∷ row SMI 0o101400 ∷ row SLZ 0o100100 ∷ row SLN 0o101100 ∷ row CRA 0o140040 ∷
    row CMA 0o140401 ∷ row TCA 0o140407 ∷ row CHS 0o140024 ∷ row SSP 0o140100 ∷ row SSM 0o140500 ∷ row CSA 0o140320 ∷
    row CAR 0o141044 ∷ row CAL 0o141050 ∷ row ICL 0o141140 ∷ row AOA 0o141206 ∷ row ACA 0o141216 ∷ row ICR 0o141240 ∷
    row ICA 0o141340 ∷ row IAB 0o000201 ∷ []

-- each word at its slot; a slot that no instruction has holds 0, the word of HLT, which is looked for at its own slot
abbrev pub laid : List Row → List ℕ
laid [] = replicate 64 0
laid (r ∷ rs) = set (laid rs) r.slot r.word

-- the table that the decoder looks into
unfoldable pub table_of : List ℕ
unfolding generics
table_of = laid generics
