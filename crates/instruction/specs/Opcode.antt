-- The opcodes of the memory-reference instructions (I2, I16, I17).
use Rattle.std.specs.Prelude.{ℕ, List, [], ◌∷◌}

abbrev pub JMP : ℕ
JMP = 0o1

abbrev pub LDA : ℕ
LDA = 0o2

abbrev pub ANA : ℕ
ANA = 0o3

abbrev pub STA : ℕ
STA = 0o4

abbrev pub ERA : ℕ
ERA = 0o5

abbrev pub ADD : ℕ
ADD = 0o6

abbrev pub SUB : ℕ
SUB = 0o7

abbrev pub JST : ℕ
JST = 0o10

abbrev pub CAS : ℕ
CAS = 0o11

abbrev pub IRS : ℕ
IRS = 0o12

abbrev pub LDX : ℕ
LDX = 0o15

abbrev pub MPY : ℕ
MPY = 0o16

abbrev pub DIV : ℕ
DIV = 0o17

-- all but LDX, which goes with its tag only: these go with one and without (I2, I16, I17)
abbrev pub opcodes : List ℕ
opcodes =
    JMP ∷ LDA ∷ ANA ∷ STA ∷ ERA ∷
    ADD ∷ SUB ∷ JST ∷ CAS ∷ IRS ∷
    MPY ∷ DIV ∷ []
