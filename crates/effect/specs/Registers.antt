-- The registers that instructions work on: A, B and C.
use Rattle.std.specs.Prelude.{ℕ}
use Rattle.word.specs.declared.Flagged.{Flagged}
use Rattle.effect.specs.declared.Registers.{Registers}

-- with another A; C stays, and B too (I13)
abbrev pub with_a : Registers → ℕ → Registers
with_a r a = record { a = a; b = r.b; c = r.c }

-- with another A and C; B stays (I13)
abbrev pub with_flagged : Registers → Flagged → Registers
with_flagged r f = record { a = f.word; b = r.b; c = f.flag }

-- A and B exchanged (I19)
abbrev pub swapped : Registers → Registers
swapped r = record { a = r.b; b = r.a; c = r.c }
