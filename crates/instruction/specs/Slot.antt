-- A generic instruction is known by its slot in the table that the decoder looks into.
use Rattle.std.specs.Prelude.{ℕ, ◌*◌, ◌/◌, ◌%◌}

-- the slot of a word. The factor means nothing: under it no two words of the table share a slot
abbrev pub slot_of : ℕ → ℕ
slot_of w = w * 21093 / 1024 % 64

abbrev pub HLT : ℕ
HLT = slot_of 0o000000

abbrev pub SKP : ℕ
SKP = slot_of 0o100000

abbrev pub NOP : ℕ
NOP = slot_of 0o101000

abbrev pub SRC : ℕ
SRC = slot_of 0o100001

abbrev pub SSC : ℕ
SSC = slot_of 0o101001

abbrev pub SS1 : ℕ
SS1 = slot_of 0o101020

abbrev pub SS2 : ℕ
SS2 = slot_of 0o101010

abbrev pub SS3 : ℕ
SS3 = slot_of 0o101004

abbrev pub SS4 : ℕ
SS4 = slot_of 0o101002

abbrev pub SSS : ℕ
SSS = slot_of 0o101036

abbrev pub SSR : ℕ
SSR = slot_of 0o100036

abbrev pub SZE : ℕ
SZE = slot_of 0o100040

abbrev pub SNZ : ℕ
SNZ = slot_of 0o101040

abbrev pub SPL : ℕ
SPL = slot_of 0o100400

abbrev pub SMI : ℕ
SMI = slot_of 0o101400

abbrev pub SLZ : ℕ
SLZ = slot_of 0o100100

abbrev pub SLN : ℕ
SLN = slot_of 0o101100

abbrev pub CRA : ℕ
CRA = slot_of 0o140040

abbrev pub CMA : ℕ
CMA = slot_of 0o140401

abbrev pub TCA : ℕ
TCA = slot_of 0o140407

abbrev pub CHS : ℕ
CHS = slot_of 0o140024

abbrev pub SSP : ℕ
SSP = slot_of 0o140100

abbrev pub SSM : ℕ
SSM = slot_of 0o140500

abbrev pub CSA : ℕ
CSA = slot_of 0o140320

abbrev pub CAR : ℕ
CAR = slot_of 0o141044

abbrev pub CAL : ℕ
CAL = slot_of 0o141050

abbrev pub ICL : ℕ
ICL = slot_of 0o141140

abbrev pub AOA : ℕ
AOA = slot_of 0o141206

abbrev pub ACA : ℕ
ACA = slot_of 0o141216

abbrev pub ICR : ℕ
ICR = slot_of 0o141240

abbrev pub ICA : ℕ
ICA = slot_of 0o141340

abbrev pub IAB : ℕ
IAB = slot_of 0o000201
