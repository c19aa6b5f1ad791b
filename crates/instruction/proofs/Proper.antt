-- What holds of every decoded instruction: an address has nine bits, and a shift's amount is 1 to 15.
use Prim.Native.Nat.{ℕ, ◌-◌, ◌<◌, ◌≤◌, ◌/◌, ◌%◌}
use mathlib.Core.Path.{◌≡◌}
use mathlib.Core.Logic.{⊎_elim}
use mathlib.Core.Bool.{true, ◌&&◌, and-eq-true_iff}
use mathlib.Core.List.{List, [], ◌∷◌}
use native.Mathlib.Omega.{arith}
use lib.Dec.{eqb, leb}
use borrow.Author.Tests.{leb-true, eqb-true}
use Rattle.instruction.specs.declared.Instruction.{Instruction}
use Rattle.instruction.specs.declared.Instruction.TheVariants.{Memory, Shift, Generic, Unknown}
use Rattle.instruction.specs.Field.{TAG, tag_of, opcode_of}
use Rattle.instruction.specs.Table.{short_kinds, Row, generics}
use Rattle.instruction.specs.Decode.{find_word, generic_of, is_in, is_shift, shift_of, is_memory, memory_of, decode_def}
use Rattle.instruction.proofs.Choice.{cond_when, cond_all}
use Rattle.instruction.proofs.Members.{or_either}

abbrev pub Proper : Instruction → Type 0
Proper (Memory opcode indirect tag sector address) = address < 512
Proper (Shift kind n) = (1 ≤ n) × (n ≤ 15)
Proper (Generic slot) = Unit {0}
Proper Unknown = Unit {0}

found_proper : (w : ℕ) (rows : List Row) → Proper (find_word w rows)
unfolding find_word
found_proper w [] = tt
found_proper w (r ∷ rs) = cond_all Proper (eqb r.word w) tt (found_proper w rs)

generic_proper : (w : ℕ) → Proper (generic_of w)
unfolding generic_of
generic_proper w = found_proper w generics

shift_field : (kind field : ℕ) → is_shift kind field ≡ true → 49 ≤ field
shift_field kind field e =
    ⊎_elim
    (λ h. leb-true 49 field ((and-eq-true_iff (leb 49 field) _).0 h).0)
    (λ h. omega (arith, eqb-true field 49 ((and-eq-true_iff (eqb field 49) _).0 h).0))
    (or_either (leb 49 field && is_in kind short_kinds) _ e)

shift_proper : (w : ℕ) → Proper (shift_of w)
unfolding shift_of
shift_proper w =
    cond_when Proper (is_shift (w / 64) (w % 64)) (Shift (w / 64) (64 - w % 64)) Unknown
    (λ h. omega (arith, shift_field (w / 64) (w % 64) h)) (λ h. tt)

memory_proper : (w : ℕ) → Proper (memory_of w)
unfolding memory_of
memory_proper w = cond_all Proper (is_memory (opcode_of w) (tag_of w)) (omega arith) tt

pub decode_proper : (w : ℕ) → Proper (decode_def w)
unfolding decode_def
decode_proper w =
    cond_all Proper (eqb (opcode_of w) 0)
    (cond_all Proper (eqb (w / TAG) 1) (shift_proper w) (generic_proper w))
    (memory_proper w)
