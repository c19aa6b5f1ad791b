-- The machine follows the test of a subscript: ten words, of which 6 to 8 are done where X passes; where it does not, the machine comes to one of the two HLTs.
use Prim.Native.Nat.{ℕ, suc, ◌+◌, ◌-◌, ◌%◌, ◌≤◌, ◌<◌}
use mathlib.Core.Path.{◌≡◌, refl, sym, ap, subst, ◌∙◌}
use mathlib.Core.Bool.{Bool, true, false, cond, not}
use mathlib.Core.List.{List}
use native.Mathlib.Nat.{mod-lt}
use native.Mathlib.Omega.{arith}
use lib.Dec.{eqb, leb, ltb}
use lib.ListN.{set, get_or}
use lib.Seq.{get_or-set_same}
use borrow.Author.Tests.{lt-ltb, le-ltb, eq-eqb, ne_eqb, eqb-true, eqb-false, ltb-true, ltb-false, leb-false}
use Rattle.word.specs.Arithmetic.{bit, biased, compare_of}
use Rattle.effect.specs.Effects.{operate_of}
use Rattle.effect.specs.Skips.{skips_of}
use Rattle.instruction.specs.Opcode.{CAS}
use Rattle.machine.specs.State as machine
use Rattle.tree.specs.Tree.{Array, Operand, is_inside, lowest}
use Rattle.layout.specs.Map.{Role}
use Rattle.layout.specs.Addresses.{saved_word}
use Rattle.semantics.specs.Trace.{State}
use Rattle.semantics.specs.Acts.{with_registers, tick, ticks, x_cell, index, place_of, value_of, pass_steps, stop_steps, tested}
use Rattle.memory_map.specs.Laid.{Map, Sound, Refers, Direct, TestWords}
use Rattle.memory_map.proofs.FinishedMap.{inside_bounds}
use Rattle.semantics.proofs.Simulation.Relate.{Links, At, Stopping}
use Rattle.semantics.proofs.Simulation.Instructions.{next, over, do_test, do_read, do_save, do_restore, do_compare, located_direct}
use Rattle.semantics.proofs.Simulation.Classes.{load_reads, nop_skips, skp_skips}

-- ---- How X stands to -1 and to -size

greater : (a v : ℕ) → biased v < biased a → compare_of a v ≡ 0
unfolding compare_of
greater a v h = rw (lt-ltb (biased v) (biased a) h)

equal : (a v : ℕ) → biased a ≡ biased v → compare_of a v ≡ 1
unfolding compare_of
equal a v h = rw (le-ltb (biased v) (biased a) (omega arith), eq-eqb (biased a) (biased v) h)

less : (a v : ℕ) → biased a < biased v → compare_of a v ≡ 2
unfolding compare_of
less a v h = rw (le-ltb (biased v) (biased a) (omega arith), ne_eqb (biased a) (biased v) (λ e. omega arith))

module _ (x : ℕ) where
  above_high : x % 65536 < 32768 → compare_of x 65535 ≡ 0
  above_high h = greater x 65535 (omega arith)

  at_high : x % 65536 ≡ 65535 → compare_of x 65535 ≡ 1
  at_high h = equal x 65535 (omega arith)

  below_high : 32768 ≤ x % 65536 → (x % 65536 ≡ 65535 → ⊥) → compare_of x 65535 ≡ 2
  below_high h n = less x 65535 (omega arith)

module _ (r : Array) (small : r.size ≤ 8192) (x : ℕ) (negative : 32768 ≤ x % 65536) where
  above_low : 65536 - r.size < x % 65536 → compare_of x (lowest r) ≡ 0
  above_low h = greater x (lowest r) (omega arith)

  at_low : x % 65536 ≡ 65536 - r.size → compare_of x (lowest r) ≡ 1
  at_low h = equal x (lowest r) (omega arith)

  below_low : x % 65536 < 65536 - r.size → compare_of x (lowest r) ≡ 2
  below_low h = less x (lowest r) (omega arith)

-- X that is no subscript is below the lowest, as an unsigned number of 16 bits
outside : (r : Array) (v : ℕ) → v < 65536 → is_inside r v ≡ false → v < 65536 - r.size
unfolding is_inside
outside r v b h = go (leb (65536 - r.size) v) refl h
  where
    go : (c : Bool) → leb (65536 - r.size) v ≡ c → cond c (ltb v 65536) false ≡ false → v < 65536 - r.size
    go true e f = let z : true ≡ false = sym (lt-ltb v 65536 b) ∙ f in let y : ◌≡◌ {A = ℕ} 0 1 = cc in absurd (omega arith)
    go false e f = leb-false (65536 - r.size) v e

-- ---- What the meaning has of a test

pub untested : (r : Array) (σ : State) → r.checked ≡ false → tested r σ ≡ σ
unfolding tested
untested r σ e = ap (λ (b : Bool). cond b (ticks (pass_steps r (index σ)) σ) σ) e

pub ticked : (r : Array) (σ : State) → r.checked ≡ true → tested r σ ≡ ticks (pass_steps r (index σ)) σ
unfolding tested
ticked r σ e = ap (λ (b : Bool). cond b (ticks (pass_steps r (index σ)) σ) σ) e

-- ---- The ten words

module _ (M : Map) (sound : Sound M) (s₀ : machine.State) where
  -- a CAS of A with a literal goes on so many words behind it
  compared : {κ : Links} {a k v p : ℕ} {σ : State} {m : List ℕ} → At M sound s₀ κ a σ m → Refers M a CAS false k → Direct M (Operand.literal v) k
      → (c : ℕ) → compare_of σ.registers.a v ≡ c → c + suc a ≡ p → p < 16384 → At M sound s₀ κ p (tick σ) m
  unfolding value_of place_of
  compared {κ} {a} {k} {v} {p} {σ} {m} h r d c e q b =
      let there : compare_of σ.registers.a v + suc a ≡ p = rw e q in
      subst (λ (n : ℕ). At M sound s₀ κ n (tick σ) m) there (do_compare M sound s₀ h r (located_direct M sound s₀ h d) (omega arith))

  module _ {κ : Links} {r : Array} {a : ℕ} {σ : State} {m : List ℕ} (h : At M sound s₀ κ a σ m) (here : M saved_word ≡ Role.saved) (small : r.size ≤ 8192) (w : TestWords M r a) where
    abbrev x : ℕ
    x = σ.cells x_cell

    -- A is in word 2, and X in A
    abbrev memory : List ℕ
    memory = set m saved_word σ.registers.a

    abbrev asked : State
    asked = with_registers (tick σ) (record { a = x; b = σ.registers.b; c = σ.registers.c })

    loaded : At M sound s₀ κ (suc (suc a)) asked memory
    unfolding operate_of value_of place_of
    loaded =
        let one = do_save M sound s₀ h w.save here in
        do_read M sound s₀ one load_reads w.load (located_direct M sound s₀ one (Direct.named {v = 0} (omega arith) sound.x_at))

    saved : get_or memory saved_word 0 ≡ σ.registers.a
    saved = get_or-set_same m saved_word σ.registers.a 0 (omega (arith, h.size))

    -- ---- Up to the second CAS

    by_equal : x % 65536 ≡ 65535 → At M sound s₀ κ (suc (suc (suc (suc (suc a))))) (tick (tick asked)) memory
    unfolding skips_of
    by_equal e =
        let at_nop : At M sound s₀ κ (suc (suc (suc (suc a)))) (tick asked) memory = compared loaded w.compare_high w.at_high 1 (at_high x e) (omega arith) (omega (arith, w.nop_equal.below)) in
        do_test M sound s₀ at_nop nop_skips w.nop_equal false refl (next _ w.nop_equal.below)

    by_less : 32768 ≤ x % 65536 → (x % 65536 ≡ 65535 → ⊥) → At M sound s₀ κ (suc (suc (suc (suc (suc a))))) (tick asked) memory
    by_less l n = compared loaded w.compare_high w.at_high 2 (below_high x l n) (omega arith) (omega (arith, w.compare_low.sits.below))

    -- ---- From there on, with X in A

    module _ {τ : State} (k : At M sound s₀ κ (suc (suc (suc (suc (suc a))))) τ memory) (has : τ.registers.a ≡ x) (negative : 32768 ≤ x % 65536) where
      abbrev past : ℕ
      past = suc (suc (suc (suc (suc (suc (suc (suc (suc (suc a)))))))))

      -- SKP, and A is back
      ending : {υ : State} → At M sound s₀ κ (suc (suc (suc (suc (suc (suc (suc a))))))) υ memory
          → At M sound s₀ κ past (with_registers (tick υ) (record { a = σ.registers.a; b = υ.registers.b; c = υ.registers.c })) memory
      unfolding skips_of operate_of
      ending j =
          let at_restore = do_test M sound s₀ j skp_skips w.skip true refl (over _ w.stop_below.below) in
          do_restore M sound s₀ at_restore load_reads w.restore saved

      above : 65536 - r.size < x % 65536
          → At M sound s₀ κ past (with_registers (tick (tick (tick τ))) (record { a = σ.registers.a; b = τ.registers.b; c = τ.registers.c })) memory
      unfolding skips_of
      above l =
          let at_nop : At M sound s₀ κ (suc (suc (suc (suc (suc (suc a)))))) (tick τ) memory =
          compared k w.compare_low w.at_low 0 (rw has (above_low r small x negative l)) (omega arith) (omega (arith, w.nop_over.below)) in
          ending (do_test M sound s₀ at_nop nop_skips w.nop_over false refl (next _ w.nop_over.below))

      lowest_one : x % 65536 ≡ 65536 - r.size
          → At M sound s₀ κ past (with_registers (tick (tick τ)) (record { a = σ.registers.a; b = τ.registers.b; c = τ.registers.c })) memory
      lowest_one e = ending (compared k w.compare_low w.at_low 1 (rw has (at_low r small x negative e)) (omega arith) (omega (arith, w.skip.below)))

      under : x % 65536 < 65536 - r.size → At M sound s₀ κ (suc (suc (suc (suc (suc (suc (suc (suc a)))))))) (tick τ) memory
      under l = compared k w.compare_low w.at_low 2 (rw has (below_low r small x negative l)) (omega arith) (omega (arith, w.stop_below.below))

    -- ---- Passed, and stopped

    exactly : 65536 - r.size ≤ x % 65536 → x % 65536 ≡ lowest r → x % 65536 ≡ 65536 - r.size
    exactly l e = let b : x % 65536 < 65536 = mod-lt _ (omega arith) in omega arith

    strictly : 65536 - r.size ≤ x % 65536 → (x % 65536 ≡ lowest r → ⊥) → 65536 - r.size < x % 65536
    strictly l n = let b : x % 65536 < 65536 = mod-lt _ (omega arith) in omega arith

    -- by whether X is -1 and whether it is -size
    passes : 65536 - r.size ≤ x % 65536 → (b c : Bool) → eqb (x % 65536) 65535 ≡ b → eqb (x % 65536) (lowest r) ≡ c
        → At M sound s₀ κ (suc (suc (suc (suc (suc (suc (suc (suc (suc (suc a)))))))))) (ticks (6 + bit b + bit (not c)) σ) memory
    unfolding ticks
    passes l true true e f = let q = eqb-true _ _ e in lowest_one (by_equal q) refl (omega arith) (exactly l (eqb-true _ _ f))
    passes l true false e f = let q = eqb-true _ _ e in above (by_equal q) refl (omega arith) (strictly l (eqb-false _ _ f))
    passes l false true e f = let q = eqb-false _ _ e in lowest_one (by_less (omega arith) q) refl (omega arith) (exactly l (eqb-true _ _ f))
    passes l false false e f = let q = eqb-false _ _ e in above (by_less (omega arith) q) refl (omega arith) (strictly l (eqb-false _ _ f))

    pub pass : is_inside r (index σ) ≡ true → At M sound s₀ κ (suc (suc (suc (suc (suc (suc (suc (suc (suc (suc a)))))))))) (ticks (pass_steps r (index σ)) σ) memory
    unfolding pass_steps
    pass i = passes (inside_bounds r (index σ) i).0 (eqb (x % 65536) 65535) (eqb (x % 65536) (lowest r)) refl refl

    -- by whether X is 0 or more, and whether it is -1
    stops : x % 65536 < 65536 - r.size → (b c : Bool) → ltb (x % 65536) 32768 ≡ b → eqb (x % 65536) 65535 ≡ c
        → {n : ℕ} → n ≡ cond b 4 (5 + bit c) → stop_steps (index σ) ≡ n → Stopping M sound s₀ σ
    stops l true c e f q s = record {
      links = κ;
      p = suc (suc (suc a));
      now = tick asked;
      image = memory;
      stop = w.stop_above;
      at = compared loaded w.compare_high w.at_high 0 (above_high x (ltb-true _ _ e)) (omega arith) (omega (arith, w.stop_above.below));
      cells = refl;
      registers = refl;
      steps = omega arith;
      saved = saved;
    }
    stops l false true e f q s = record {
      links = κ;
      p = suc (suc (suc (suc (suc (suc (suc (suc a)))))));
      now = tick (tick (tick asked));
      image = memory;
      stop = w.stop_below;
      at = under (by_equal (eqb-true _ _ f)) refl (ltb-false _ _ e) l;
      cells = refl;
      registers = refl;
      steps = omega arith;
      saved = saved;
    }
    stops l false false e f q s = record {
      links = κ;
      p = suc (suc (suc (suc (suc (suc (suc (suc a)))))));
      now = tick (tick asked);
      image = memory;
      stop = w.stop_below;
      at = under (by_less (ltb-false _ _ e) (eqb-false _ _ f)) refl (ltb-false _ _ e) l;
      cells = refl;
      registers = refl;
      steps = omega arith;
      saved = saved;
    }

    pub stop : is_inside r (index σ) ≡ false → Stopping M sound s₀ σ
    unfolding stop_steps
    stop i = stops (outside r (index σ) (mod-lt _ (omega arith)) i) (ltb (x % 65536) 32768) (eqb (x % 65536) 65535) refl refl refl refl
