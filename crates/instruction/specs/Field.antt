-- The fields of a memory-reference word (I1). The flags of an indirect word stand at the same places (I3). The tag is for X, the index register, which is word 0 of the image.
use Rattle.std.specs.Prelude.{ℕ, ◌/◌, ◌%◌, Bool, eqb, leb}

abbrev pub INDIRECT : ℕ
INDIRECT = 0o100000

abbrev pub TAG : ℕ
TAG = 0o40000

-- the lowest of the opcode's four bits
abbrev pub OPCODE : ℕ
OPCODE = 0o2000

abbrev pub SECTOR : ℕ
SECTOR = 0o1000

-- whether a bit of a word is set
abbrev pub flag_at : ℕ → ℕ → Bool
flag_at w bit = eqb (w / bit % 2) 1

abbrev pub indirect_of : ℕ → Bool
indirect_of w = leb INDIRECT w

abbrev pub tag_of : ℕ → Bool
tag_of w = flag_at w TAG

abbrev pub sector_of : ℕ → Bool
sector_of w = flag_at w SECTOR

abbrev pub opcode_of : ℕ → ℕ
opcode_of w = w / OPCODE % 16
