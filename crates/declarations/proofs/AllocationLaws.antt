-- States, and declarations one after another.
use Prim.Native.Nat.{ℕ, suc, ◌+◌, ◌*◌, ◌≤◌, ◌<◌}
use mathlib.Core.Path.{◌≡◌, refl, sym, ap, ap₂, ◌∙◌}
use mathlib.Core.List.{List, [], ◌∷◌, ◌++◌, foldl, foldl-append}
use native.Mathlib.Omega.{arith}
use native.Mathlib.Numerals.{add-one}
use lib.ListN.{length, get_or, set, take, replicate, length-replicate, replicate-append-replicate}
use lib.Seq.{take-suc, length-take-le}
use Rattle.tree.specs.Tree.{Declaration}
use Rattle.tree.specs.Symbols.{Level}
use Rattle.layout.specs.Allocation as layout
use Rattle.symbols.specs.Table.{live_names}
use Rattle.emitter.specs.Emitted as emitted
use Rattle.layout.specs.Emission.{stored, emit_declaration, emit_declarations}
use Rattle.declarations.specs.declared.SectorEnds.{SectorEnds}
use Rattle.declarations.specs.declared.Allocation.{Allocation}
use Rattle.emitter.specs.declared.Output.{Output}
use Rattle.declarations.specs.Allocations.{ends_of, with_end, pool_of, allocation_of, SoundAllocation, Declared, SectorClosed}
use Rattle.declarations.proofs.SectorLaws.{ends_length, one_count, one_end, one_closed}
use Rattle.declarations.proofs.ScopeLaws.{stored_append}

-- ---- Words stored one after another

pub stored_snoc : (image : List ℕ) (at : ℕ) (us : List ℕ) (v : ℕ) → stored image at (us ++ (v ∷ [])) ≡ set (stored image at us) (at + length us) v
unfolding stored
stored_snoc image at us v = stored_append image at us (v ∷ [])

-- one more, after those that are stored
module _ (image : List ℕ) (at : ℕ) {now after : List ℕ} where
  pub stored_more : (us : List ℕ) (v i : ℕ) → length us ≡ i → now ≡ stored image at us → after ≡ set now (at + i) v → after ≡ stored image at (us ++ (v ∷ []))
  stored_more us v i l e h = h ∙ ap (λ x. set x (at + i) v) e ∙ ap (λ k. set (stored image at us) (at + k) v) (sym l) ∙ sym (stored_snoc image at us v)

  pub stored_next : (us : List ℕ) (i : ℕ) → i < length us → now ≡ stored image at (take i us) → after ≡ set now (at + i) (get_or us i 0) → after ≡ stored image at (take (i + 1) us)
  stored_next us i l e h =
      stored_more (take i us) (get_or us i 0) i (length-take-le i us (omega arith)) e h ∙ ap (stored image at) (sym (take-suc us i 0 l)) ∙ ap (λ k. stored image at (take k us)) (sym (add-one i))

  pub stored_zero : (i : ℕ) → now ≡ stored image at (replicate i 0) → after ≡ set now (at + i) 0 → after ≡ stored image at (replicate (i + 1) 0)
  stored_zero i e h = stored_more (replicate i 0) 0 i (length-replicate i 0) e h ∙ ap (stored image at) (replicate-append-replicate i 1 0)

-- ---- One after another

pub emit_append : (ends : ℕ → ℕ) (st : layout.Allocation) (ds es : List Declaration) (image : List ℕ) → emit_declarations ends st (ds ++ es) image ≡ emit_declarations ends (foldl layout.allocate st ds) es (emit_declarations ends st ds image)
unfolding emit_declarations
emit_append ends st [] es image = refl
emit_append ends st (d ∷ ds) es image = emit_append ends (layout.allocate st d) ds es (emit_declaration (ends (length st.ends)) st d image)

pub none_declared : (ends : ℕ → ℕ) (s : Allocation) (t i : List ℕ) → SoundAllocation s → Declared ends s t i s t i []
unfolding emit_declarations
none_declared ends s t i h = record { allocation = refl; sound = h; laid = refl }

module _ {ends : ℕ → ℕ} {s s' s'' : Allocation} {t t' t'' i i' i'' : List ℕ} {xs ys : List Declaration} where
  pub more_declared : Declared ends s t i s' t' i' xs → Declared ends s' t' i' s'' t'' i'' ys → Declared ends s t i s'' t'' i'' (xs ++ ys)
  more_declared p q =
      record {
        allocation = q.allocation ∙ ap (λ x. foldl layout.allocate x ys) p.allocation ∙ sym (foldl-append layout.allocate (allocation_of s t) xs ys);
        sound = q.sound;
        laid = q.laid ∙ ap₂ (λ x y. emit_declarations ends x ys y) p.allocation p.laid ∙ sym (emit_append ends (allocation_of s t) xs ys i);
      }

-- ---- `.NEXTSECTOR`

pub next_closed : (s : Allocation) (image image' : List ℕ) (ends : SectorEnds) (output : Output) → SoundAllocation s → s.sectors.count + 1 ≤ 30 → ends ≡ with_end s.sectors s.output.next
    → output.next ≡ 512 * (s.sectors.count + 2) → emitted.literals_in output.pool ≡ [] → image' ≡ stored image s.output.next (pool_of s)
    → SectorClosed s image (record { names = s.names; taken = s.taken; output = output; sectors = ends; array = s.array }) image' (Declaration.next_sector ∷ [])
unfolding emit_declarations emit_declaration layout.allocate
next_closed s image image' ends output h few e code pool laid =
    let l = ends_length h.closed in
    let c : output.next ≡ 512 * suc (suc (length (ends_of s.sectors))) = omega (arith, code, l) in
    let n = ap length pool in
    let count : ends.count ≡ s.sectors.count + 1 = ap (λ x. x.count) e ∙ one_count h.closed s.output.next in
    record {
      at = λ table _. record {
        allocation = next_allocation table c pool (ap ends_of e ∙ one_end h.closed s.output.next);
        sound = record { few = h.few; each = h.each; closed = rw e (one_closed h.closed s.output.next few); used = omega (arith, n, code, count); fits = omega (arith, n, code, count); top = h.top };
        laid = laid;
      };
    }
  where
    next_allocation : (table : List ℕ) → output.next ≡ 512 * suc (suc (length (ends_of s.sectors))) → emitted.literals_in output.pool ≡ [] → ends_of ends ≡ ends_of s.sectors ++ (s.output.next ∷ [])
        → ◌≡◌ {A = layout.Allocation} (record { scope = record { names = live_names s.names table; level = Level.outer; taken = s.taken }; next = output.next; pool = emitted.literals_in output.pool; ends = ends_of ends; array = s.array })
        (record { scope = record { names = live_names s.names table; level = Level.outer; taken = s.taken }; next = 512 * suc (suc (length (ends_of s.sectors))); pool = []; ends = ends_of s.sectors ++ (s.output.next ∷ []); array = s.array })
    next_allocation table p q r = rw (p, q, r)

pub ruleset for_store_pool = (stored_next)

pub ruleset for_fill = (stored_zero)
