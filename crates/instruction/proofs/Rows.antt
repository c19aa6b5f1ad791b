-- The decoder's table holds each generic instruction at its slot and nothing else: two tests that antt computes, and what follows for every word.
--
use mathlib.Core.Path.{◌≡◌, refl, ap, sym, ◌∙◌, subst}
use mathlib.Core.Bool.{Bool, true, false, cond}
use mathlib.Core.List.{List, [], ◌∷◌, Memᴰ}
use Prim.Native.Nat.{ℕ}
use native.Mathlib.Omega.{arith}
use lib.Dec.{T, eqb, eqb→eq}
use lib.ListN.{get_or}
use borrow.Author.Tests.{eqb-true, eqb-false, ne_eqb}
use Rattle.instruction.specs.declared.Instruction.{Instruction}
use Rattle.instruction.specs.declared.Instruction.TheVariants.{Memory, Shift, Generic, Unknown}
use Rattle.instruction.specs.Table.{Row, row, generics, table_of}
use Rattle.instruction.specs.Slot.{slot_of}
use Rattle.instruction.specs.Decode.{find_word, generic_of, generic_in, decode_def, decode_in}
use Rattle.instruction.proofs.Choice.{no}
use Rattle.instruction.proofs.Every.{both, both_left, both_right, passes, at}

-- whether an instruction is the generic one of a slot
unfoldable pub is_at : ℕ → Instruction → Bool
is_at i (Memory opcode indirect tag sector address) = false
is_at i (Shift kind n) = false
is_at i (Generic j) = eqb j i
is_at i Unknown = false

pub is_at_lem : (i : ℕ) (o : Instruction) → T (is_at i o) → o ≡ Generic i
unfolding is_at
is_at_lem i (Memory opcode indirect tag sector address) t = absurd t
is_at_lem i (Shift kind n) t = absurd t
is_at_lem i (Generic j) t = ap Generic (eqb→eq j i t)
is_at_lem i Unknown t = absurd t

-- each entry of the table is a generic instruction, at the slot where the decoder looks for it
entry_at : ℕ → ℕ → Bool
unfolding is_at find_word generics
entry_at k x = is_at (slot_of x) (find_word x generics)

entry : (w : ℕ) → get_or table_of (slot_of w) 0 ≡ w → find_word w generics ≡ Generic (slot_of w)
unfolding entry_at table_of is_at find_word generics
entry w e =
    is_at_lem (slot_of w) (find_word w generics)
    (subst (λ (x : ℕ). T (is_at (slot_of x) (find_word x generics))) e (at entry_at table_of tt (slot_of w) (omega arith)))

-- each generic instruction stands at its slot, which is that of its word: one test for all rows, and so for each
row_stands : Row → Bool
unfolding table_of generics
row_stands r = both (eqb (slot_of r.word) r.slot) (eqb (get_or table_of r.slot 0) r.word)

stands : (r : Row) → Memᴰ r generics → T (row_stands r)
unfolding row_stands table_of generics
stands r m = passes row_stands r generics tt m

pub slots : (slot word : ℕ) → Memᴰ (row slot word) generics → get_or table_of slot 0 ≡ word
unfolding row_stands
slots slot word m = eqb→eq _ _ (both_right (eqb (slot_of word) slot) _ (stands (row slot word) m))

slot_is : (slot word : ℕ) → Memᴰ (row slot word) generics → slot_of word ≡ slot
unfolding row_stands
slot_is slot word m = eqb→eq _ _ (both_left (eqb (slot_of word) slot) _ (stands (row slot word) m))

-- a word that does not stand at its slot is in no row
absent : (w : ℕ) (rows : List Row) → ((r : Row) → Memᴰ r rows → r.word ≡ w → ⊥) → find_word w rows ≡ Unknown
unfolding find_word
absent w [] none = refl
absent w (r ∷ rows) none =
    no _ _ (ne_eqb r.word w (none r (Memᴰ.head refl))) ∙ absent w rows (λ x m. none x (Memᴰ.tail m))

generic_by : (w : ℕ) (b : Bool) → eqb (get_or table_of (slot_of w) 0) w ≡ b → cond b (Generic (slot_of w)) Unknown ≡ find_word w generics
generic_by w true e = sym (entry w (eqb-true _ _ e))
generic_by w false e =
    sym (absent w generics (λ r m d. eqb-false _ _ e
    (ap (λ (x : ℕ). get_or table_of (slot_of x) 0) (sym d) ∙ ap (λ (i : ℕ). get_or table_of i 0) (slot_is r.slot r.word m) ∙ slots r.slot r.word m ∙ d)))

generic_same : (w : ℕ) → generic_in table_of w ≡ generic_of w
unfolding generic_in generic_of
generic_same w = generic_by w _ refl

-- with the table, the decoder is the definition
pub decode_same : (w : ℕ) → decode_in table_of w ≡ decode_def w
unfolding decode_in decode_def
decode_same w = rw (generic_same w)
