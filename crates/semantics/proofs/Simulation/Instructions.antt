-- What each kind of instruction does to the relation: one lemma for each way of addressing or of moving P.
use Prim.Native.Nat.{ℕ, suc, ◌+◌, ◌*◌, ◌/◌, ◌%◌, ◌<◌}
use mathlib.Core.Path.{◌≡◌, refl, ap, ap₂, ◌∙◌, subst}
use mathlib.Core.Bool.{Bool, true, false}
use mathlib.Core.List.{List}
use native.Mathlib.Nat.{mod-lt, le_refl}
use native.Mathlib.Omega.{arith}
use lib.Dec.{eqb}
use lib.ListN.{get_or, set, length-set}
use borrow.Author.Tests.{lt-leb}
use Rattle.word.specs.Arithmetic.{bit, compare_of}
use Rattle.effect.specs.Effects.{operate_of, unary_of}
use Rattle.effect.specs.Skips.{skips_of}
use Rattle.instruction.specs.Opcode.{JMP, LDA, STA, JST, CAS, IRS, LDX}
use Rattle.instruction.specs.Slot.{HLT}
use Rattle.instruction.specs.Table.{generics, table_of}
use Rattle.instruction.specs.Decode.{find_word, generic_of, decode_def}
use Rattle.instruction.specs.Field.{TAG, INDIRECT, indirect_of, tag_of}
use Rattle.instruction.specs.declared.Instruction.TheVariants.{Shift, Generic}
use Rattle.machine.specs.declared.Machine.{Machine}
use Rattle.machine.specs.State as machine
use Rattle.machine.specs.Address.{follow_of, reached}
use Rattle.machine.specs.Step.{past_of, onward, memory_def, generic_def, made, memory_step, step_def}
use Rattle.machine.proofs.Chains.{follow_end, follow_more, onwards}
use Rattle.machine.proofs.Good.{step_of}
use Rattle.runs.specs.Steps.{Steps}
use Rattle.tree.specs.Tree.{CellId, Array, Operand, is_inside}
use Rattle.layout.specs.Map.{Role, halt_word}
use Rattle.layout.specs.Addresses.{saved_word}
use Rattle.semantics.specs.Trace.{State}
use Rattle.semantics.specs.Acts.{with_registers, store, tick, x_cell, Place, place_of, value_of, index, load_x, generic, shifted}
use Rattle.memory_map.specs.Laid.{Map, Sound, Sits, Stops, Refers, Direct, ArrayWord, ProcedureWord, LaidJump}
use Rattle.semantics.proofs.Simulation.Relate.{Pending, Links, pend, machine_of, At, peek, stepped, stored, linked, kept}

-- ---- P after a step

pub next : (a : ℕ) → suc a < 16384 → past_of a 0 ≡ suc a
next a h = omega arith

pub over : (a : ℕ) → suc (suc a) < 16384 → past_of a 1 ≡ suc (suc a)
over a h = omega arith

past : (a k : ℕ) → k + suc a < 16384 → past_of a k ≡ k + suc a
past a k h = omega arith

-- ---- Addresses

-- the word e is where a place's value is
abbrev pub InPlace : Map → ℕ → Place → Type 0
InPlace M e (Place.held i) = (v : ℕ) × (M e ≡ Role.cell i v)
InPlace M e (Place.worth v) = M e ≡ Role.fixed v

-- an instruction's operand, by its indirect flag and address, is the word of a place
pub record Located (M : Map) (m : List ℕ) (indirect : Bool) (k : ℕ) (l : Place) : Type 0 where
  pub word : ℕ
  pub passed : ℕ
  pub found : follow_of m 16 indirect k ≡ reached word passed
  pub below : word < 16384
  pub here : InPlace M word l

-- an indirect word without flags
follow_link : (m : List ℕ) (k w : ℕ) → get_or m k 0 ≡ w → w < 16384 → follow_of m 16 true k ≡ reached w 1
follow_link m k w e b =
    let quotient : w / TAG ≡ 0 = omega arith in
    let remainder : w % 16384 ≡ w = omega arith in
    let flag : tag_of w ≡ false = rw quotient refl in
    let first : follow_of m 16 true k ≡ follow_of m 15 (indirect_of w) (onwards m w) = rw e at (follow_more m 16 k (omega arith)) in
    first ∙ rw (lt-leb INDIRECT w (omega arith), flag, remainder) (follow_end m 15 w (omega arith))

-- an indirect word with the tag
follow_array : (m : List ℕ) (k w x : ℕ) → get_or m k 0 ≡ w → indirect_of w ≡ false → tag_of w ≡ true → get_or m 0 0 ≡ x
    → follow_of m 16 true k ≡ reached ((w % 16384 + x) % 16384) 1
follow_array m k w x e straight tagged ex =
    let first : follow_of m 16 true k ≡ follow_of m 15 (indirect_of w) (onwards m w) = rw e at (follow_more m 16 k (omega arith)) in
    first ∙ rw (straight, tagged, ex) (follow_end m 15 ((w % 16384 + x) % 16384) (omega arith))

link_small : (old a : ℕ) → old < 16384 → suc a < 16384 → old / 16384 * 16384 + past_of a 0 ≡ suc a
link_small old a b c =
    let z : old / 16384 ≡ 0 = omega arith in
    rw (z, next a c) (omega arith)

-- an address has 14 bits, so that more than 16 of X are of no account
same_address : (base x : ℕ) → (base + x) % 16384 ≡ (base + x % 65536) % 16384
same_address base x = omega arith

halt_decodes : decode_def halt_word ≡ Generic HLT
unfolding decode_def generic_of find_word generics table_of
halt_decodes = refl

-- ---- Kinds of instructions

-- LDA, ANA, ERA, ADD and SUB
abbrev pub Reads : ℕ → Type 0
Reads code = (e : ℕ) (n : Machine) (image : List ℕ)
    → memory_def code e n image ≡ machine.state (onward (machine.with_registers n (operate_of code (get_or image e 0) n.registers)) 0) image

-- generic instructions that act on the registers, and those that skip or do not
abbrev pub ActsOn : ℕ → Type 0
ActsOn slot = (n : Machine) → generic_def slot n ≡ onward (machine.with_registers n (unary_of slot n.registers)) 0

abbrev pub Skips : ℕ → Type 0
Skips slot = (n : Machine) → generic_def slot n ≡ onward n (bit (skips_of slot n.registers n.switches))

module _ (M : Map) (sound : Sound M) (s₀ : machine.State) {κ : Links} {a : ℕ} {σ : State} {m : List ℕ} (h : At M sound s₀ κ a σ m) where
  -- ---- Instructions without an address

  pub do_generic : {slot : ℕ} → ActsOn slot → Sits M a (Generic slot) → At M sound s₀ κ (suc a) (generic slot σ) m
  do_generic {slot} acts s = record {
    made = stepped M sound s₀ h s (ap (λ (n : Machine). made (machine.state n m))
        (acts (machine_of σ a) ∙ ap (machine_of (generic slot σ)) (next a s.below)));
    size = h.size;
    serves = h.serves;
  }

  pub do_shift : {kind n : ℕ} → Sits M a (Shift kind n) → At M sound s₀ κ (suc a) (shifted kind n σ) m
  do_shift {kind} {n} s = record {
    made = stepped M sound s₀ h s (ap (λ (p : ℕ). made (machine.state (machine_of (shifted kind n σ) p) m)) (next a s.below));
    size = h.size;
    serves = h.serves;
  }

  -- a test that skips, or does not
  pub do_test : {slot p : ℕ} → Skips slot → Sits M a (Generic slot) → (b : Bool) → skips_of slot σ.registers σ.switches ≡ b → past_of a (bit b) ≡ p
      → At M sound s₀ κ p (tick σ) m
  do_test skips s b e q = record {
    made = stepped M sound s₀ h s (ap (λ (n : Machine). made (machine.state n m))
        (skips (machine_of σ a) ∙ ap (λ (c : Bool). machine_of σ (past_of a (bit c))) e ∙ ap (machine_of σ) q));
    size = h.size;
    serves = h.serves;
  }

  pub do_halt : Sits M a (Generic HLT) → step_def (machine.state (machine_of σ a) m) ≡ made (machine.state (machine.stopped (machine_of σ (suc a))) m)
  unfolding generic_def
  do_halt s =
      let w : get_or m a 0 ≡ s.word = peek M sound s₀ h a (Role.fixed s.word) (omega (arith, s.below)) s.here in
      step_of (machine_of σ a) m (ap decode_def w ∙ s.decodes)
      ∙ ap (λ (p : ℕ). made (machine.state (machine.stopped (machine_of σ p)) m)) (next a s.below)

  -- the HLT of a test
  pub do_stop : Stops M a → step_def (machine.state (machine_of σ a) m) ≡ made (machine.state (machine.stopped (machine_of σ (suc a))) m)
  unfolding generic_def
  do_stop s =
      let w : get_or m a 0 ≡ halt_word = peek M sound s₀ h a Role.stop (omega (arith, s.below)) s.here in
      step_of (machine_of σ a) m (ap decode_def w ∙ halt_decodes)
      ∙ ap (λ (p : ℕ). made (machine.state (machine.stopped (machine_of σ p)) m)) (next a s.below)

  -- ---- Memory references

  memory_made : {code k e n : ℕ} {indirect : Bool} {u : machine.State} → Refers M a code indirect k → follow_of m 16 indirect k ≡ reached e n
      → memory_def code e (machine_of σ a) m ≡ u → Steps (suc σ.steps) s₀ u
  memory_made {code} {k} {e} {n} {indirect} r f q =
      stepped M sound s₀ h r.sits
      (ap (λ (j : ℕ). memory_step code (machine_of σ a) m (follow_of m 16 indirect j)) r.reaches ∙ ap (memory_step code (machine_of σ a) m) f ∙ ap made q)

  value : (l : Place) (e : ℕ) → e < 16384 → InPlace M e l → get_or m e 0 ≡ value_of l σ
  unfolding value_of
  value (Place.held i) e b here = peek M sound s₀ h e (Role.cell i here.0) b here.1
  value (Place.worth v) e b here = peek M sound s₀ h e (Role.fixed v) b here

  value_at_lem : {indirect : Bool} {k : ℕ} {l : Place} (o : Located M m indirect k l) → get_or m o.word 0 ≡ value_of l σ
  value_at_lem {l = l} o = value l o.word o.below o.here

  -- the word at e is read
  read_at : {code k e n v : ℕ} {indirect : Bool} → Reads code → Refers M a code indirect k → follow_of m 16 indirect k ≡ reached e n → get_or m e 0 ≡ v
      → At M sound s₀ κ (suc a) (with_registers σ (operate_of code v σ.registers)) m
  read_at {code} {e = e} reads r found is = record {
    made = memory_made r found (reads e (machine_of σ a) m
        ∙ ap₂ (λ (v p : ℕ). machine.state (machine_of (with_registers σ (operate_of code v σ.registers)) p) m) is (next a r.sits.below));
    size = h.size;
    serves = h.serves;
  }

  pub do_read : {code k : ℕ} {indirect : Bool} {l : Place} → Reads code → Refers M a code indirect k → Located M m indirect k l
      → At M sound s₀ κ (suc a) (with_registers σ (operate_of code (value_of l σ) σ.registers)) m
  do_read reads r o = read_at reads r o.found (value_at_lem o)

  -- A is kept while a subscript is tested, and is back
  pub do_save : Refers M a STA false saved_word → M saved_word ≡ Role.saved → At M sound s₀ κ (suc a) (tick σ) (set m saved_word σ.registers.a)
  unfolding memory_def
  do_save r here = record {
    made = memory_made r (follow_end m 16 saved_word (le_refl 16)) (ap (λ (p : ℕ). machine.state (machine_of σ p) (set m saved_word σ.registers.a)) (next a r.sits.below));
    size = length-set m saved_word σ.registers.a ∙ h.size;
    serves = kept M sound s₀ h saved_word σ.registers.a (omega arith) here;
  }

  pub do_restore : {v : ℕ} → Reads LDA → Refers M a LDA false saved_word → get_or m saved_word 0 ≡ v
      → At M sound s₀ κ (suc a) (with_registers σ (operate_of LDA v σ.registers)) m
  do_restore reads r is = read_at reads r (follow_end m 16 saved_word (le_refl 16)) is

  pub do_store : {k : ℕ} {indirect : Bool} {i : CellId} → Refers M a STA indirect k → (o : Located M m indirect k (Place.held i))
      → At M sound s₀ κ (suc a) (store i σ.registers.a σ) (set m o.word σ.registers.a)
  unfolding memory_def
  do_store {i = i} r o = record {
    made = memory_made r o.found (ap (λ (p : ℕ). machine.state (machine_of σ p) (set m o.word σ.registers.a)) (next a r.sits.below));
    size = length-set m o.word σ.registers.a ∙ h.size;
    serves = stored M sound s₀ h o.word i σ.registers.a o.here.0 o.below o.here.1;
  }

  pub do_load_x : {k : ℕ} {indirect : Bool} {l : Place} → Refers M a LDX indirect k → Located M m indirect k l
      → At M sound s₀ κ (suc a) (load_x (value_of l σ) σ) (set m 0 (value_of l σ))
  unfolding memory_def
  do_load_x {l = l} r o = record {
    made = memory_made r o.found (ap₂ (λ (v p : ℕ). machine.state (machine_of σ p) (set m 0 v)) (value_at_lem o) (next a r.sits.below));
    size = length-set m 0 (value_of l σ) ∙ h.size;
    serves = stored M sound s₀ h 0 x_cell (value_of l σ) 0 (omega arith) sound.x_at;
  }

  pub do_jump : {z : ℕ} → LaidJump M a z → At M sound s₀ κ z (tick σ) m
  unfolding memory_def
  do_jump {z} (LaidJump.jump r) = record { made = memory_made r (follow_end m 16 z (le_refl 16)) refl; size = h.size; serves = h.serves }

  pub do_compare : {k : ℕ} {indirect : Bool} {l : Place} → Refers M a CAS indirect k → Located M m indirect k l
      → compare_of σ.registers.a (value_of l σ) + suc a < 16384 → At M sound s₀ κ (compare_of σ.registers.a (value_of l σ) + suc a) (tick σ) m
  unfolding memory_def
  do_compare {l = l} r o b = record {
    made = memory_made r o.found (ap (λ (v : ℕ). machine.state (machine_of σ (past_of a (compare_of σ.registers.a v))) m) (value_at_lem o)
        ∙ ap (λ (p : ℕ). machine.state (machine_of σ p) m) (past a (compare_of σ.registers.a (value_of l σ)) b));
    size = h.size;
    serves = h.serves;
  }

  -- IRS goes on to the next word, or skips it
  pub do_count : {k v p : ℕ} {i : CellId} → Refers M a IRS false k → k < 16384 → M k ≡ Role.cell i v → (b : Bool) → eqb ((σ.cells i + 1) % 65536) 0 ≡ b
      → past_of a (bit b) ≡ p → At M sound s₀ κ p (store i ((σ.cells i + 1) % 65536) σ) (set m k ((σ.cells i + 1) % 65536))
  unfolding memory_def
  do_count {k} {v} {p} {i} r kb here b e q =
      let u = (σ.cells i + 1) % 65536 in
      record {
        made = memory_made r (follow_end m 16 k (le_refl 16))
            (ap (λ (w : ℕ). machine.state (machine_of σ (past_of a (bit (eqb ((w + 1) % 65536) 0)))) (set m k ((w + 1) % 65536)))
            (peek M sound s₀ h k (Role.cell i v) kb here)
            ∙ ap (λ (c : Bool). machine.state (machine_of σ (past_of a (bit c))) (set m k u)) e
            ∙ ap (λ (j : ℕ). machine.state (machine_of σ j) (set m k u)) q);
        size = length-set m k u ∙ h.size;
        serves = stored M sound s₀ h k i u v kb here;
      }

  -- `JST*` through a procedure word, and `JMP*` through its link
  pub do_call : {k q : ℕ} → Refers M a JST true k → (w : ProcedureWord M q k)
      → At M sound s₀ (pend κ q (suc a)) (suc w.link) (tick σ) (set m w.link (suc a))
  unfolding memory_def
  do_call {k} {q} r w =
      let b : w.link < 16384 = omega (arith, w.small) in
      let f = follow_link m k w.link (peek M sound s₀ h k (Role.fixed w.link) w.below w.here) b in
      let old = link_small (get_or m w.link 0) a (peek M sound s₀ h w.link (Role.link q) b w.item).0 r.sits.below in
      record {
        made = memory_made r f (ap₂ (λ (v p : ℕ). machine.state (machine_of σ p) (set m w.link v)) old (next w.link w.small));
        size = length-set m w.link (suc a) ∙ h.size;
        serves = linked M sound s₀ h w.link q (suc a) b w.item r.sits.below;
      }

  pub do_return : {k q r : ℕ} → Refers M a JMP true k → k < 16384 → M k ≡ Role.link q → κ q ≡ Pending.busy r → At M sound s₀ κ r (tick σ) m
  unfolding memory_def
  do_return {k} {q} {r} s b here e =
      let w = peek M sound s₀ h k (Role.link q) b here in
      let v : get_or m k 0 ≡ r = rw e at w.1 in
      record { made = memory_made s (follow_link m k r v (subst (λ (n : ℕ). n < 16384) v w.0)) refl; size = h.size; serves = h.serves }

  -- ---- Operands

  pub located_direct : {o : Operand} {k : ℕ} → Direct M o k → Located M m false k (place_of o)
  unfolding place_of
  located_direct {k = k} (Direct.named {v = v} b e) = record { word = k; passed = 0; found = follow_end m 16 k (le_refl 16); below = b; here = (v, e) }
  located_direct {k = k} (Direct.literal b w e) = record { word = k; passed = 0; found = follow_end m 16 k (le_refl 16); below = b; here = e }

  -- an element of an array, by X
  pub located_element : {r : Array} {k : ℕ} → ArrayWord M r k → is_inside r (index σ) ≡ true
      → Located M m true k (Place.held (CellId.element r.number (index σ)))
  located_element {r} {k} w b = record {
    word = (w.word % 16384 + σ.cells x_cell) % 16384;
    passed = 1;
    found = follow_array m k w.word (σ.cells x_cell) (peek M sound s₀ h k (Role.fixed w.word) w.below w.here) w.straight w.tagged
        (peek M sound s₀ h 0 (Role.cell x_cell 0) (omega arith) sound.x_at);
    below = mod-lt _ (omega arith);
    here = (w.initial (index σ), ap M (same_address (w.word % 16384) (σ.cells x_cell)) ∙ w.elements (index σ) b);
  }
