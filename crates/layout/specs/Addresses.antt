-- The numbers of the layout, each once. `src/addresses.rt` has them for the code.
use Rattle.std.specs.Prelude.{ℕ}

-- the words of a memory, and so of an image (A1)
abbrev pub memory_words : ℕ
memory_words = 16384

-- the words of a sector: what an instruction reaches without going through another word, besides sector 0 (A1)
abbrev pub sector_words : ℕ
sector_words = 512

-- the last sector of the memory; code begins in sector 1, so one less can be closed before it (A1)
abbrev pub last_sector : ℕ
last_sector = 31

abbrev pub closed_sectors : ℕ
closed_sectors = 30

-- the word that keeps A while a subscript is tested, in a program whose subscripts are (A12)
abbrev pub saved_word : ℕ
saved_word = 2

-- the first word of the globals (A3)
abbrev pub first_global : ℕ
first_global = 0o200

-- how many words they have, up to '777 (A3)
abbrev pub global_words : ℕ
global_words = 0o600

-- the first word of code, which is that of sector 1 (A4)
abbrev pub first_code : ℕ
first_code = 0o1000

-- element 0 of the first array: its body ends below it (A5)
abbrev pub first_array : ℕ
first_array = 16383

-- the tag of an array word, so that X is added (A3)
abbrev pub array_tag : ℕ
array_tag = 0o40000
