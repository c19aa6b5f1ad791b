-- The words of a body, as they stand in the map, are the instructions that the symbolic words say, and refer to what those name.
use Prim.Native.Nat.{ℕ, suc, ◌+◌, ◌*◌, ◌/◌, ◌%◌, ◌≤◌, ◌<◌}
use mathlib.Core.Path.{◌≡◌, refl, sym, subst, ◌∙◌}
use mathlib.Core.Bool.{Bool, true, false, cond}
use mathlib.Core.Logic.{inl, inr}
use mathlib.Core.List.{List, [], ◌∷◌, Memᴰ}
use native.Mathlib.Omega.{arith}
use lib.Dec.{leb}
use lib.ListN.{length, get_or}
use borrow.Author.Tests.{lt-leb, leb-false}
use Rattle.instruction.specs.Opcode.{JMP}
use Rattle.instruction.specs.Table.{table_of}
use Rattle.instruction.specs.Decode.{decode_def}
use Rattle.instruction.specs.Encode.{shift_word, memory, load_x}
use Rattle.instruction.specs.declared.Instruction.TheVariants.{Memory}
use Rattle.instruction.proofs.Rows.{is_at_lem}
use Rattle.instruction.proofs.Encoding.{not_load_x, encoded}
use Rattle.machine.specs.Address.{base_of}
use Rattle.tree.specs.Tree.{Operand}
use Rattle.layout.specs.Words.{Sym, after}
use Rattle.layout.specs.Pool.{literal_of, literals_of}
use Rattle.layout.specs.Map.{Frame, address_of, reference, word_of, role_of, Role}
use Rattle.layout.specs.Addresses.{saved_word}
use Rattle.memory_map.specs.Laid.{Map, Refers, Direct}
use Rattle.parsing_laws.specs.WellFormed.{Context, IdOk, OperandOk}
use Rattle.memory_map.proofs.LaidParts.{Stands, Covers}
use Rattle.memory_map.proofs.Encodable.{OpcodeOk, plain_code, WordOk, AllOk}
use Rattle.memory_map.proofs.Bodies.{Fixed, Near}

-- the word of a reference decodes to it
decodes : (code k : ℕ) (indirect : Bool) → OpcodeOk code → decode_def (reference code indirect k) ≡ Memory code indirect false (leb 512 k) (k % 512)
unfolding reference
decodes code k indirect (inl h) = rw (not_load_x h) (encoded (memory h (omega arith)))
decodes code k indirect (inr e) = rw e (encoded (load_x (omega arith)))

-- from the sector of a, its sector bit and address bits give k back
reaches : (a k : ℕ) → Near (a / 512) k → base_of a (leb 512 k) (k % 512) ≡ k
reaches a k (inl h) = rw (lt-leb 512 k h) (omega arith)
reaches a k (inr e) = by (leb 512 k) refl
  where
    by : (b : Bool) → leb 512 k ≡ b → cond b (a / 512 * 512 + k % 512) (k % 512) ≡ k
    by true h = omega arith
    by false h = let l = leb-false 512 k h in omega arith

pub refers : (M : Map) (a code k : ℕ) (indirect : Bool) → OpcodeOk code → suc a < 16384 → Near (a / 512) k → M a ≡ Role.fixed (reference code indirect k)
    → Refers M a code indirect k
refers M a code k indirect c below near e =
    record { sector = leb 512 k; address = k % 512; sits = record { below = below; word = reference code indirect k; here = e; decodes = decodes code k indirect c }; reaches = reaches a k near }

-- an address in the sector
in_sector : (s a lo hi : ℕ) → 512 * s ≤ lo → lo ≤ a → a ≤ hi → hi < 512 * suc s → a / 512 ≡ s
in_sector s a lo hi low l h high = omega arith

-- literals of a word, and of those after it
pub head_literal : (code v : ℕ) (vs : List ℕ) → Memᴰ v (literal_of (Sym.memory code (Operand.literal v)) vs)
unfolding literal_of
head_literal code v vs = Memᴰ.head refl

pub tail_literal : (w : Sym) (v : ℕ) (vs : List ℕ) → Memᴰ v vs → Memᴰ v (literal_of w vs)
unfolding literal_of
tail_literal (Sym.generic slot) v vs m = m
tail_literal (Sym.shift kind n) v vs m = m
tail_literal (Sym.memory code (Operand.named i)) v vs m = m
tail_literal (Sym.memory code (Operand.literal u)) v vs m = Memᴰ.tail m
tail_literal (Sym.through code n) v vs m = m
tail_literal (Sym.jump z) v vs m = m
tail_literal (Sym.return link) v vs m = m
tail_literal (Sym.saved code) v vs m = m
tail_literal Sym.stop v vs m = m

module _ (M : Map) (f : Frame) (x : Context) (s lo hi : ℕ) (low : 512 * s ≤ lo) (high : hi < 512 * suc s) (few : length x.globals ≤ 384)
    (ids : (i : _) → IdOk x i → Direct M (Operand.named i) (address_of f (Operand.named i)) × Near s (address_of f (Operand.named i))) where
  abbrev Literals : List ℕ → Type 0
  Literals vs = (v : ℕ) → Memᴰ v vs → v < 65536 → Direct M (Operand.literal v) (address_of f (Operand.literal v)) × Near s (address_of f (Operand.literal v))

  operand : (o : Operand) (code : ℕ) (vs : List ℕ) → OperandOk x o → Literals (literal_of (Sym.memory code o) vs)
      → Direct M o (address_of f o) × Near s (address_of f o)
  operand (Operand.named i) code vs h l = ids i h
  operand (Operand.literal v) code vs h l = l v (head_literal code v vs) h

  one : (w : Sym) (a : ℕ) (vs : List ℕ) → WordOk x lo hi w → Literals (literal_of w vs) → suc a < 16384 → lo ≤ a → a ≤ hi → M a ≡ role_of f w → Stands M a w
  unfolding role_of word_of
  one (Sym.generic slot) a vs h l below p q e = record { below = below; word = get_or table_of slot 0; here = e; decodes = is_at_lem slot (decode_def (get_or table_of slot 0)) h }
  one (Sym.shift kind n) a vs h l below p q e = record { below = below; word = shift_word kind n; here = e; decodes = encoded h }
  one (Sym.memory code o) a vs h l below p q e =
      let d = operand o code vs h.1 l in
      record { at = address_of f o; refers = refers M a code (address_of f o) false h.0 below (subst (λ (n : ℕ). Near n (address_of f o)) (sym (in_sector s a lo hi low p q high)) d.1) e; direct = d.0 }
  one (Sym.through code n) a vs h l below p q e = refers M a code (0o200 + n) true h.0 below (inl (near_global n h.1)) e
    where
      near_global : (n : ℕ) → n < length x.globals → 0o200 + n < 512
      near_global n h = omega arith
  one (Sym.jump z) a vs h l below p q e =
      refers M a JMP z false (plain_code JMP refl) below (inr (in_sector s z lo hi low h.0 h.1 high ∙ sym (in_sector s a lo hi low p q high))) e
  one (Sym.return link) a vs h l below p q e =
      refers M a JMP link true (plain_code JMP refl) below (inr (in_sector s link lo hi low h.0 h.1 high ∙ sym (in_sector s a lo hi low p q high))) e
  one (Sym.saved code) a vs h l below p q e = refers M a code saved_word false h below (inl (omega arith)) e
  one Sym.stop a vs h l below p q e = record { below = below; here = e }

  pub covers : (ws : List Sym) (a : ℕ) → AllOk x lo hi ws → Literals (literals_of ws) → Fixed M f a ws → lo ≤ a → after ws a ≤ suc hi → hi < 16383 → Covers M a ws
  unfolding literals_of
  covers [] a AllOk.none l Fixed.none p q t = Covers.none
  covers (w ∷ ws) a (AllOk.word h ok) l (Fixed.word e fs) p q t =
      let r : suc (a + length ws) ≤ suc hi = omega arith in
      Covers.word (one w a (literals_of ws) h l (omega arith) p (omega arith) e)
      (covers ws (suc a) ok (λ v m. l v (tail_literal w v (literals_of ws) m)) fs (omega arith) (omega arith) t)
