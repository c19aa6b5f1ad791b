-- Numbers and parts of a text of stored cases, and what a run starts with.
use Rattle.std.specs.Prelude.{ℕ, zero, suc, ◌+◌, ◌-◌, ◌*◌, ◌%◌, Bool, cond, List, [], ◌∷◌, leb, eqb, drop, set}
use Rattle.case_input.specs.declared.Number.{Number}
use Rattle.effect.specs.declared.Registers.{Registers}
use Rattle.effect.specs.declared.Switches.{Switches}

abbrev pub is_digit : ℕ → Bool
is_digit b = cond (leb 48 b) (leb b 57) (leb 48 b)

-- with a decimal digit more, in 32 bits
abbrev pub grown : ℕ → ℕ → ℕ
grown value b = (value * 10 + b % 16) % 4294967296

-- the number of these bytes, whose first is at an offset, and the offset after the byte that ends it
unfoldable pub number_from : List ℕ → ℕ → ℕ → Number
number_from [] value at = record { value = value; next = at }
number_from (b ∷ bs) value at = cond (is_digit b) (number_from bs (grown value b) (suc at)) (record { value = value; next = suc at })

-- the number at an offset of a text
abbrev pub number_at : List ℕ → ℕ → Number
number_at text at = number_from (drop at text) 0 at

abbrev pub word_of : Number → ℕ
word_of n = n.value % 65536

abbrev pub flag_of : Number → Bool
flag_of n = eqb (n.value % 2) 1

-- what stands at an offset of a text, and the offset after it
abbrev pub value_from : List ℕ → ℕ → ℕ × ℕ
value_from text at = let n = number_at text at in (n.value, n.next)

abbrev pub word_from : List ℕ → ℕ → ℕ × ℕ
word_from text at = let n = number_at text at in (word_of n, n.next)

abbrev pub flag_from : List ℕ → ℕ → Bool × ℕ
flag_from text at = let n = number_at text at in (flag_of n, n.next)

abbrev pub registers_from : List ℕ → ℕ → Registers × ℕ
registers_from text at =
    let a = number_at text at in
    let b = number_at text a.next in
    let c = number_at text b.next in
    (record { a = word_of a; b = word_of b; c = flag_of c }, c.next)

abbrev pub switches_from : List ℕ → ℕ → Switches × ℕ
switches_from text at =
    let one = number_at text at in
    let two = number_at text one.next in
    let three = number_at text two.next in
    let four = number_at text three.next in
    (record { one = flag_of one; two = flag_of two; three = flag_of three; four = flag_of four }, four.next)

-- an image with so many words of a text set, and the offset after them
unfoldable pub set_from : List ℕ → ℕ → ℕ → List ℕ → List ℕ × ℕ
set_from text zero at image = (image, at)
set_from text (suc n) at image =
    let address = number_at text at in
    let value = number_at text address.next in
    set_from text n value.next (set image (address.value % 16384) (word_of value))

-- their count stands before them
abbrev pub words_from : List ℕ → ℕ → List ℕ → List ℕ × ℕ
words_from text at image = let count = number_at text at in set_from text count.value count.next image

-- where a part of a text of a length ends, no further than the text
unfoldable pub part_end : ℕ → ℕ → ℕ → ℕ
part_end length at size = cond (leb length at) length (cond (leb (length - at) size) length (at + size))
