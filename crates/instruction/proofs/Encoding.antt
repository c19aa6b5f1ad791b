-- Decoding an encoded instruction gives it back, and a decoded one encodes its word.
use Prim.Native.Nat.{ℕ, ◌+◌, ◌-◌, ◌*◌, ◌/◌, ◌%◌, ◌≤◌, ◌<◌}
use mathlib.Core.Path.{◌≡◌, refl, ap, sym, subst, ◌∙◌}
use mathlib.Core.Logic.{◌⊎◌, inl, inr}
use mathlib.Core.Bool.{Bool, true, false, not, ◌&&◌, and-true, and-eq-true_iff}
use mathlib.Core.List.{List, [], ◌∷◌, Memᴰ}
use native.Mathlib.Omega.{arith}
use lib.Dec.{T, eqb, leb, ltb, leb→le, ltb→lt}
use borrow.Author.Tests.{leb-true, leb-false, eqb-true, eqb-false, le-leb, lt-leb, eq-eqb, ne_eqb}
use Rattle.word.specs.Arithmetic.{bit}
use Rattle.word.specs.Shift.{ALR, LRS}
use Rattle.instruction.specs.declared.Instruction.{Instruction}
use Rattle.instruction.specs.declared.Instruction.TheVariants.{Memory, Shift, Generic, Unknown}
use Rattle.instruction.specs.Field.{TAG, SECTOR, indirect_of, tag_of, sector_of, opcode_of}
use Rattle.instruction.specs.Opcode.{LDX, opcodes}
use Rattle.instruction.specs.Table.{short_kinds, long_kinds, Row, row, generics}
use Rattle.instruction.specs.Decode.{find_word, generic_of, is_in, is_shift, shift_of, is_memory, adds_x, memory_of, decode_def}
use Rattle.instruction.specs.Encode.{memory_word, shift_word, Encodes, memory, load_x, shift, long, generic}
use Rattle.instruction.specs.Agreement.{UnknownExactly, Agreement}
use Rattle.instruction.proofs.Every.{both, both_left, both_right, off, all, passes}
use Rattle.instruction.proofs.Choice.{cond_when, cond_all}
use Rattle.instruction.proofs.Members.{or_either, or_right, in_member, member_in}
use Rattle.instruction.proofs.Rows.{is_at, is_at_lem, decode_same, slots}

-- a flag and its bit
bit_below : (b : Bool) → bit b < 2
bit_below true = omega arith
bit_below false = omega arith

flag_is : (b : Bool) (n : ℕ) → n ≡ bit b → eqb n 1 ≡ b
flag_is true n e = eq-eqb n 1 e
flag_is false n e = ne_eqb n 1 (λ h. omega arith)

top_is : (b : Bool) (w : ℕ) → w / 32768 ≡ bit b → leb 32768 w ≡ b
top_is true w e = le-leb 32768 w (omega arith)
top_is false w e = lt-leb 32768 w (omega arith)

bit_of : (n : ℕ) → n < 2 → bit (eqb n 1) ≡ n
bit_of n h =
    cond_when (λ (k : ℕ). k ≡ n) (eqb n 1) 1 0 (λ e. sym (eqb-true n 1 e)) (λ e. let d = eqb-false n 1 e in omega arith)

bit_top : (w : ℕ) → w < 65536 → bit (leb 32768 w) ≡ w / 32768
bit_top w h =
    cond_when (λ (k : ℕ). k ≡ w / 32768) (leb 32768 w) 1 0 (λ e. omega (arith, leb-true 32768 w e)) (λ e. omega (arith, leb-false 32768 w e))

-- a memory-reference instruction's word, taken apart
record Parts (w opcode address : ℕ) (indirect tag sector : Bool) : Type 0 where
  code_part : opcode_of w ≡ opcode
  indirect_part : indirect_of w ≡ indirect
  tag_part : tag_of w ≡ tag
  sector_part : sector_of w ≡ sector
  address_part : w % 512 ≡ address

parts : (opcode address : ℕ) (indirect tag sector : Bool) → opcode < 16 → address < 512
    → Parts (memory_word opcode indirect tag sector address) opcode address indirect tag sector
unfolding memory_word
parts opcode address indirect tag sector coded nine =
    let w = memory_word opcode indirect tag sector address in
    let i = bit_below indirect in
    let t = bit_below tag in
    let s = bit_below sector in
    record {
      code_part = omega arith;
      indirect_part = top_is indirect w (omega arith);
      tag_part = flag_is tag (w / TAG % 2) (omega arith);
      sector_part = flag_is sector (w / SECTOR % 2) (omega arith);
      address_part = omega arith;
    }

-- what a decoder asks of an opcode on the list: one test for all
record Plain (opcode : ℕ) : Type 0 where
  some : eqb opcode 0 ≡ false
  below : opcode < 16
  not_index : eqb opcode LDX ≡ false

plain : {opcode : ℕ} → Memᴰ opcode opcodes → Plain opcode
plain {opcode} m = record {
  some = off (eqb opcode 0) (passes (λ (n : ℕ). not (eqb n 0)) opcode opcodes tt m);
  below = ltb→lt opcode 16 (passes (λ (n : ℕ). ltb n 16) opcode opcodes tt m);
  not_index = off (eqb opcode LDX) (passes (λ (n : ℕ). not (eqb n LDX)) opcode opcodes tt m);
}

pub not_load_x : {opcode : ℕ} → Memᴰ opcode opcodes → eqb opcode LDX ≡ false
not_load_x m = (plain m).not_index

decode_memory : (opcode address : ℕ) (indirect tag sector : Bool) → Memᴰ opcode opcodes → address < 512
    → decode_def (memory_word opcode indirect tag sector address) ≡ Memory opcode indirect tag sector address
unfolding decode_def memory_of
decode_memory opcode address indirect tag sector m nine =
    let o = plain m in
    let p = parts opcode address indirect tag sector o.below nine in
    simp (p.code_part, o.some, o.not_index, member_in opcode opcodes m, p.indirect_part, p.tag_part, p.sector_part, p.address_part, and-true tag)

decode_load_x : (address : ℕ) (indirect sector : Bool) → address < 512
    → decode_def (memory_word LDX indirect true sector address) ≡ Memory LDX indirect false sector address
unfolding decode_def memory_of
decode_load_x address indirect sector nine =
    let p = parts LDX address indirect true sector (omega arith) nine in
    simp (p.code_part, p.indirect_part, p.tag_part, p.sector_part, p.address_part)

-- the kinds of both lists stand from LRS to ALR
abbrev between : ℕ → Bool
between kind = both (leb LRS kind) (leb kind ALR)

kind_bounds : {kind : ℕ} {kinds : List ℕ} → Memᴰ kind kinds → T (all between kinds) → (LRS ≤ kind) × (kind ≤ ALR)
kind_bounds {kind} {kinds} m t =
    let b = passes between kind kinds t m in
    (leb→le _ _ (both_left (leb LRS kind) (leb kind ALR) b), leb→le _ _ (both_right (leb LRS kind) (leb kind ALR) b))

shift_word_lem : (kind n : ℕ) → kind ≤ ALR → n ≤ 15 → shift_word kind n ≡ kind * 64 + (64 - n)
unfolding shift_word
shift_word_lem kind n k h = let r : n % 64 ≡ n = omega arith in rw r (omega arith)

decode_shift : (kind n : ℕ) → (LRS ≤ kind) × (kind ≤ ALR) → 1 ≤ n → n ≤ 15 → is_shift kind (64 - n) ≡ true → decode_def (shift_word kind n) ≡ Shift kind n
unfolding decode_def shift_of
decode_shift kind n k l h i =
    let w = kind * 64 + (64 - n) in
    let u = shift_word_lem kind n k.1 h in
    let q : w / 1024 ≡ 16 = omega (arith, k.0, k.1) in
    let c : opcode_of w ≡ 0 = omega arith in
    let t : w / TAG ≡ 1 = omega arith in
    let r : w % 64 ≡ 64 - n = omega arith in
    let d : w / 64 ≡ kind = omega arith in
    let x : 64 - (64 - n) ≡ n = omega arith in
    simp (u, c, t, r, d, i, x)

decode_short : (kind n : ℕ) → Memᴰ kind short_kinds → 1 ≤ n → n ≤ 15 → decode_def (shift_word kind n) ≡ Shift kind n
decode_short kind n m l h =
    decode_shift kind n (kind_bounds m tt) l h (rw (le-leb 49 (64 - n) (omega arith), member_in kind short_kinds m) refl)

decode_long : (kind : ℕ) → Memᴰ kind long_kinds → decode_def (shift_word kind 15) ≡ Shift kind 15
decode_long kind m =
    decode_shift kind 15 (kind_bounds m tt) (omega arith) (omega arith) (or_right (is_in kind short_kinds) (member_in kind long_kinds m))

-- each row of the table decodes to its slot: one test
row_decodes : Row → Bool
unfolding is_at decode_def generic_of find_word generics shift_of memory_of
row_decodes r = is_at r.slot (decode_def r.word)

decode_generic : (slot word : ℕ) → Memᴰ (row slot word) generics → decode_def word ≡ Generic slot
unfolding row_decodes is_at decode_def generic_of find_word generics shift_of memory_of
decode_generic slot word m = is_at_lem slot (decode_def word) (passes row_decodes (row slot word) generics tt m)

pub encoded : {i : Instruction} {w : ℕ} → Encodes i w → decode_def w ≡ i
encoded (memory {opcode} {address} {indirect} {tag} {sector} m nine) = decode_memory opcode address indirect tag sector m nine
encoded (load_x {address} {indirect} {sector} nine) = decode_load_x address indirect sector nine
encoded (shift {kind} {amount} m l h) = decode_short kind amount m l h
encoded (long {kind} m) = decode_long kind m
encoded (generic {slot} {word} m) = decode_generic slot word m

-- a decoded instruction's word, put together again: the quotients by 512, 1024, 16384 and 32768
joined : (w a b c d r s t u i : ℕ) → w ≡ a * 512 + r → a ≡ b * 2 + s → b ≡ c * 16 + t → c ≡ d * 2 + u → i ≡ d
    → i * 32768 + u * 16384 + t * 1024 + s * 512 + r ≡ w
joined w a b c d r s t u i p q x y z = omega arith

memory_word_lem : (w : ℕ) (tag : Bool) → w < 65536 → bit tag ≡ w / TAG % 2
    → memory_word (opcode_of w) (indirect_of w) tag (sector_of w) (w % 512) ≡ w
unfolding memory_word
memory_word_lem w tag h t =
    let s = bit_of (w / SECTOR % 2) (omega arith) in
    let c : opcode_of w % 16 ≡ opcode_of w = omega arith in
    let a : w % 512 % 512 ≡ w % 512 = omega arith in
    let first : w ≡ w / 512 * 512 + w % 512 = omega arith in
    let second : w / 512 ≡ w / 1024 * 2 + w / 512 % 2 = omega arith in
    let third : w / 1024 ≡ w / 16384 * 16 + w / 1024 % 16 = omega arith in
    let fourth : w / 16384 ≡ w / 32768 * 2 + w / 16384 % 2 = omega arith in
    simp (s, c, a, t) (joined w _ _ _ _ _ _ _ _ _ first second third fourth (bit_top w h))

-- what w decodes to is no instruction, or one whose word is w
Decoded : ℕ → Instruction → Type 0
Decoded w i = (i ≡ Unknown) ⊎ Encodes i w

found : (w : ℕ) (rows : List Row) → ((r : Row) → Memᴰ r rows → Memᴰ r generics) → Decoded w (find_word w rows)
unfolding Decoded find_word
found w [] within = inl refl
found w (r ∷ rows) within =
    cond_when (Decoded w) (eqb r.word w) (Generic r.slot) (find_word w rows)
    (λ e. inr (generic (within (row r.slot w) (Memᴰ.head (ap (row r.slot) (sym (eqb-true r.word w e)))))))
    (λ e. found w rows (λ x m. within x (Memᴰ.tail m)))

generic_decoded : (w : ℕ) → Decoded w (generic_of w)
unfolding generic_of
generic_decoded w = found w generics (λ x m. m)

-- a shift by its word's parts, and by the word
shift_as : (w : ℕ) → w / 64 ≤ ALR → 49 ≤ w % 64 → Encodes (Shift (w / 64) (64 - w % 64)) (shift_word (w / 64) (64 - w % 64))
    → Encodes (Shift (w / 64) (64 - w % 64)) w
shift_as w k l e =
    let u = shift_word_lem (w / 64) (64 - w % 64) k (omega arith) in
    let q : w / 64 * 64 + (64 - (64 - w % 64)) ≡ w = omega arith in
    subst (Encodes (Shift (w / 64) (64 - w % 64))) (u ∙ q) e

shift_decoded : (w : ℕ) → Decoded w (shift_of w)
unfolding shift_of Decoded
shift_decoded w =
    cond_when (Decoded w) (is_shift (w / 64) (w % 64)) (Shift (w / 64) (64 - w % 64)) Unknown
    (λ e. inr (by (or_either (leb 49 (w % 64) && is_in (w / 64) short_kinds) _ e)))
    (λ e. inl refl)
  where
    by : ((leb 49 (w % 64) && is_in (w / 64) short_kinds) ≡ true) ⊎ ((eqb (w % 64) 49 && is_in (w / 64) long_kinds) ≡ true)
        → Encodes (Shift (w / 64) (64 - w % 64)) w
    by (inl e) =
        let both_true = (and-eq-true_iff (leb 49 (w % 64)) _).0 e in
        let l = leb-true 49 (w % 64) both_true.0 in
        let m = in_member (w / 64) short_kinds both_true.1 in
        shift_as w (kind_bounds m tt).1 l (shift m (omega arith) (omega arith))
    by (inr e) =
        let both_true = (and-eq-true_iff (eqb (w % 64) 49) _).0 e in
        let f = eqb-true (w % 64) 49 both_true.0 in
        let m = in_member (w / 64) long_kinds both_true.1 in
        shift_as w (kind_bounds m tt).1 (omega arith) (rw f (long m))

-- an instruction by its opcode and tag, and by the word's
memory_as : {opcode : ℕ} (tag : Bool) {adds : Bool} (w : ℕ) → w < 65536 → opcode_of w ≡ opcode → bit tag ≡ w / TAG % 2 → adds_x opcode (tag_of w) ≡ adds
    → Encodes (Memory opcode (indirect_of w) adds (sector_of w) (w % 512)) (memory_word opcode (indirect_of w) tag (sector_of w) (w % 512))
    → Encodes (Memory (opcode_of w) (indirect_of w) (adds_x (opcode_of w) (tag_of w)) (sector_of w) (w % 512)) w
memory_as {opcode} tag {adds} w h c t a e =
    subst (λ (k : ℕ). Encodes (Memory (opcode_of w) (indirect_of w) (adds_x (opcode_of w) (tag_of w)) (sector_of w) (w % 512)) k) (memory_word_lem w tag h t)
    (rw (c, a) e)

memory_decoded : (w : ℕ) → w < 65536 → Decoded w (memory_of w)
unfolding memory_of Decoded
memory_decoded w h =
    cond_when (Decoded w) (is_memory (opcode_of w) (tag_of w)) _ Unknown
    (λ e. by (or_either (is_in (opcode_of w) opcodes) (eqb (opcode_of w) LDX && tag_of w) e))
    (λ e. inl refl)
  where
    by : (is_in (opcode_of w) opcodes ≡ true) ⊎ ((eqb (opcode_of w) LDX && tag_of w) ≡ true)
        → Decoded w (Memory (opcode_of w) (indirect_of w) (adds_x (opcode_of w) (tag_of w)) (sector_of w) (w % 512))
    by (inl e) =
        let m = in_member (opcode_of w) opcodes e in
        inr (memory_as (tag_of w) w h refl (bit_of (w / TAG % 2) (omega arith)) (rw (not_load_x m) (and-true (tag_of w))) (memory m (omega arith)))
    by (inr e) =
        let both_true = (and-eq-true_iff (eqb (opcode_of w) LDX) (tag_of w)).0 e in
        let c = eqb-true (opcode_of w) LDX both_true.0 in
        let t = both_true.1 in
        inr (memory_as true w h c (sym (eqb-true (w / TAG % 2) 1 t)) (rw t refl) (load_x (omega arith)))

pub known : (w : ℕ) → w < 65536 → (decode_def w ≡ Unknown) ⊎ Encodes (decode_def w) w
unfolding decode_def Decoded
known w h =
    cond_all (Decoded w) (eqb (opcode_of w) 0)
    (cond_all (Decoded w) (eqb (w / TAG) 1) (shift_decoded w) (generic_decoded w))
    (memory_decoded w h)

not_unknown : {i : Instruction} {w : ℕ} → Encodes i w → i ≡ Unknown → ⊥
not_unknown (memory m nine) e = let z : ◌≡◌ {A = ℕ} 0 1 = cc in omega arith
not_unknown (load_x nine) e = let z : ◌≡◌ {A = ℕ} 0 1 = cc in omega arith
not_unknown (shift k l h) e = let z : ◌≡◌ {A = ℕ} 0 1 = cc in omega arith
not_unknown (long k) e = let z : ◌≡◌ {A = ℕ} 0 1 = cc in omega arith
not_unknown (generic m) e = let z : ◌≡◌ {A = ℕ} 0 1 = cc in omega arith

pub unknown_exactly : (w : ℕ) → w < 65536 → UnknownExactly w
unknown_exactly w h = record {
  no_instruction = λ u i e. not_unknown e (sym (encoded e) ∙ u);
  unknown = λ none. by none (known w h);
}
  where
    by : ((i : Instruction) → Encodes i w → ⊥) → (decode_def w ≡ Unknown) ⊎ Encodes (decode_def w) w → decode_def w ≡ Unknown
    by none (inl e) = e
    by none (inr e) = absurd (none (decode_def w) e)

pub agreement : Agreement
agreement = record { encoded = encoded; known = known; unknown_exactly = unknown_exactly; decoder = decode_same; slots = slots }

pub ruleset for_table_laws = (agreement)
