-- Names packed: two characters a word, 0 where there is none; which names pack alike.
use Rattle.std.specs.Prelude.{ℕ, ◌+◌, ◌*◌, ◌/◌, ◌%◌, ◌<◌, ◌≡◌, Bool, true, false, List, [], ◌∷◌, length, get_or, take, eqb}
use Rattle.prelude.specs.Choice.{whether}
use Rattle.source.specs.Kinds.{kind_number}
use Rattle.source.specs.Bytes.{is_letter_or_digit, same_bytes}
use Rattle.source.specs.Kinds
use Rattle.source.specs.Tokens.{token_at, spelling}
use Rattle.tree.specs.Tree.{Name}
use Rattle.symbols.specs.declared.Packed.{Packed}

-- letters and digits alone, of which names consist (T7)
unfoldable pub all_name_bytes : Name → Bool
all_name_bytes [] = true
all_name_bytes (b ∷ bs) = whether (is_letter_or_digit b) (λ _. all_name_bytes bs) (λ _. false)

-- a character and the next in one word, the first in the upper byte
abbrev pub pair : Name → ℕ → ℕ
pair name i = 256 * get_or name i 0 + get_or name (i + 1) 0

-- a name packed, by its first six characters (T14)
unfoldable pub pack_of : Name → Packed
pack_of name = record { one = pair name 0; two = pair name 2; three = pair name 4 }

-- the comparison that the search makes
unfoldable pub same_packed : Packed → Packed → Bool
same_packed p q =
    whether (eqb p.one q.one) (λ _. whether (eqb p.two q.two) (λ _. eqb p.three q.three) (λ _. false)) (λ _. false)

-- ---- Which names pack alike

-- of two names in full: their packed words are the same exactly if their first six characters are; `take 6` of a shorter name is all of it (T14, demand 2h)
pub record SixDecide (n m : Name) : Type 0 where
  pub alike : take 6 n ≡ take 6 m → pack_of n ≡ pack_of m
  pub agree : pack_of n ≡ pack_of m → take 6 n ≡ take 6 m
  -- so a name with fewer than six packs like itself only
  pub shorter : length n < 6 → pack_of n ≡ pack_of m → n ≡ m
  -- the search tells names apart by just these characters
  pub compared : same_packed (pack_of n) (pack_of m) ≡ same_bytes (take 6 n) (take 6 m)

-- NAMES THAT PACK ALIKE (T14, demand 2h)
pub record PackingLaws : Type 0 where
  -- of letters and digits alone: a byte 0 packs as if no character were there
  pub names : (n m : Name) → all_name_bytes n ≡ true → all_name_bytes m ≡ true → SixDecide n m
  -- the names that are read from any two offsets of a source, in full
  pub tokens : (source : List ℕ) (i j : ℕ) → kind_number (token_at source i).kind ≡ Kinds.name → kind_number (token_at source j).kind ≡ Kinds.name
      → SixDecide (spelling source (token_at source i)) (spelling source (token_at source j))
  -- of any bytes: to pack the characters that count (`name_of`) is to pack the whole name
  pub cut : (name : Name) → pack_of (take 6 name) ≡ pack_of name

-- ---- Back from words to names, for the table

-- a byte before bytes that end in no zero
unfoldable pub before_trimmed : ℕ → List ℕ → List ℕ
before_trimmed b [] = whether (eqb b 0) (λ _. []) (λ _. b ∷ [])
before_trimmed b (c ∷ cs) = b ∷ c ∷ cs

-- bytes without the zeros at their end
unfoldable pub trimmed : List ℕ → List ℕ
trimmed [] = []
trimmed (b ∷ bs) = before_trimmed b (trimmed bs)

-- the six bytes of three words
abbrev pub six_bytes : Packed → List ℕ
six_bytes p = p.one / 256 ∷ p.one % 256 ∷ p.two / 256 ∷ p.two % 256 ∷ p.three / 256 ∷ p.three % 256 ∷ []

-- the name that three words hold
unfoldable pub unpack : Packed → Name
unpack p = trimmed (six_bytes p)

-- the three words at an offset
abbrev pub packed_at : List ℕ → ℕ → Packed
packed_at table at = record { one = get_or table at 0; two = get_or table (at + 1) 0; three = get_or table (at + 2) 0 }
