-- Worked examples, decided by computation.
use Rattle.std.specs.Prelude.{◌≡◌, refl, true, false, List, [], ◌∷◌, map, ℕ}
use Rattle.std.proofs.Math.Option.{none, some}
use Rattle.prelude.specs.Text.{bytes}
use Rattle.source.specs.Kinds.{kind_number}
use Rattle.source.specs.Bytes.{span, same_bytes}
use Rattle.prelude.specs.Choice.{find}
use Rattle.source.specs.Kinds
use Rattle.source.specs.declared.kind.Kind.TheVariants as Kind
use Rattle.source.specs.Tokens.{token, token_of, after_blanks, token_at, name_of}
use Rattle.tree.specs.Tree.{Id, Name}
use Rattle.tree.specs.Symbols.{Symbol, Level, next_id}
use Rattle.symbols.specs.declared.Packed.{Packed}
use Rattle.symbols.specs.Packing.{all_name_bytes, pack_of, same_packed, trimmed, before_trimmed, unpack}
use Rattle.symbols.specs.Table.{number_of, data_of, level_of, symbol_from, entry_at, row_at, entries_of, live_names, with_words, with_row, table_with}

packed : pack_of (bytes "TOTAL") ≡ record { one = 0o052117; two = 0o052101; three = 0o046000 }
unfolding pack_of
packed = refl

-- no more than six characters count (T7)
six : pack_of (name_of (bytes ".INTEGER LENGTH1;") (token Kind.Name 0 9 7)) ≡ pack_of (bytes "LENGTH")
unfolding pack_of name_of
six = refl

-- which pairs pack alike: the sixth character counts, the seventh does not, and a name that ends is unlike one that goes on (T14)
alike :
    map (λ (r : Name × Name). same_packed (pack_of r.0) (pack_of r.1))
    ((bytes "ABCDEF", bytes "ABCDEFG") ∷ (bytes "ABCDEF1", bytes "ABCDEF2") ∷ (bytes "ABCDE", bytes "ABCDEF") ∷ (bytes "ABCDEF", bytes "ABCDEG") ∷
    (bytes "ABCDEF", bytes "ABCXEF") ∷ (bytes "A", bytes "A0") ∷ (bytes "AB", bytes "BA") ∷ [])
    ≡ true ∷ true ∷ false ∷ false ∷ false ∷ false ∷ false ∷ []
unfolding pack_of same_packed
alike = refl

-- five names of a source, each by an offset from which its token is read
text : List ℕ
text = bytes "ABCDEF ABCDEFG ABCDE A A0"

packed_from : ℕ → ℕ × Packed
packed_from at = let t = token_at text at in (kind_number t.kind, pack_of (name_of text t))

of_tokens :
    map packed_from (0 ∷ 6 ∷ 14 ∷ 20 ∷ 22 ∷ [])
    ≡ (Kinds.name, record { one = 0o040502; two = 0o041504; three = 0o042506 })
    ∷ (Kinds.name, record { one = 0o040502; two = 0o041504; three = 0o042506 })
    ∷ (Kinds.name, record { one = 0o040502; two = 0o041504; three = 0o042400 })
    ∷ (Kinds.name, record { one = 0o040400; two = 0; three = 0 })
    ∷ (Kinds.name, record { one = 0o040460; two = 0; three = 0 })
    ∷ []
unfolding text packed_from pack_of name_of token_at after_blanks token_of span
of_tokens = refl

-- the characters that a name may have
characters : map all_name_bytes (bytes "Z9A0" ∷ bytes "A B" ∷ (65 ∷ 0 ∷ []) ∷ []) ≡ true ∷ false ∷ false ∷ []
unfolding all_name_bytes
characters = refl

-- a byte 0 packs as if no character were there: the laws need letters and digits
zero_byte : pack_of (65 ∷ 0 ∷ []) ≡ pack_of (65 ∷ [])
unfolding pack_of
zero_byte = refl

unpacked : unpack (record { one = 0o052117; two = 0o052101; three = 0o046000 }) ≡ bytes "TOTAL"
unfolding unpack trimmed before_trimmed
unpacked = refl

-- global 3, the integer A; then in procedure 4 the constant A of the value 9, local 0
table : List ℕ
table = 0o040400 ∷ 0 ∷ 0 ∷ 0 ∷ 1 ∷ 3 ∷ 0 ∷ 0o040400 ∷ 0 ∷ 0 ∷ 5 ∷ 2 ∷ 0 ∷ 9 ∷ []

held :
    entries_of 2 table
    ≡ (bytes "A", record { level = Level.inner 4; symbol = Symbol.constant (Id.local 4 0) 9 })
    ∷ (bytes "A", record { level = Level.outer; symbol = Symbol.integer (Id.global 3) })
    ∷ []
unfolding table entries_of row_at unpack trimmed before_trimmed entry_at level_of symbol_from next_id
held = refl

-- the local hides what its name stands for outside (D14)
newest : find (same_bytes (bytes "A")) (live_names 2 table) ≡ some (bytes "A", record { level = Level.inner 4; symbol = Symbol.constant (Id.local 4 0) 9 })
unfolding table live_names entries_of row_at unpack trimmed before_trimmed entry_at level_of symbol_from next_id find same_bytes
newest = refl

too_short : find (same_bytes (bytes "A")) (live_names 3 table) ≡ none
unfolding table live_names find
too_short = refl

-- the first entry of that table declared; without room nothing is stored
declared : table_with 0 (0 ∷ 0 ∷ 0 ∷ 0 ∷ 0 ∷ 0 ∷ 0 ∷ 1 ∷ []) (pack_of (bytes "A")) 0 (Symbol.integer (Id.global 3)) ≡ 0o040400 ∷ 0 ∷ 0 ∷ 0 ∷ 1 ∷ 3 ∷ 0 ∷ 1 ∷ []
unfolding table_with with_row with_words pack_of data_of number_of
declared = refl

no_room : table_with 1 (0 ∷ 0 ∷ 0 ∷ 0 ∷ 0 ∷ 0 ∷ 0 ∷ 1 ∷ []) (pack_of (bytes "A")) 0 (Symbol.integer (Id.global 3)) ≡ 0 ∷ 0 ∷ 0 ∷ 0 ∷ 0 ∷ 0 ∷ 0 ∷ 1 ∷ []
unfolding table_with
no_room = refl
