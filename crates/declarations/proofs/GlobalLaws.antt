-- Global items: a list of items as declarations.
use Prim.Native.Nat.{ℕ, ◌+◌}
use mathlib.Core.Path.{◌≡◌, refl, sym, ap, ◌∙◌}
use mathlib.Core.List.{List, [], ◌∷◌, foldl}
use native.Mathlib.Omega.{arith}
use lib.ListN.{length}
use Rattle.tree.specs.Tree.{Name, Item}
use Rattle.tree.specs.Symbols.{Level, Scope, declare, declare_item}
use Rattle.layout.specs.Allocation as layout
use Rattle.layout.specs.Allocation.{with_scope, allocate}
use Rattle.symbols.specs.Table as tables
use Rattle.layout.specs.Emission.{stored, item_values, local_values, emit_declaration, emit_declarations}
use Rattle.declarations.specs.declared.Allocation.{Allocation}
use Rattle.declarations.specs.declared.Scope as code
use Rattle.declarations.specs.Scopes.{ItemsDeclared}
use Rattle.declarations.specs.Allocations.{global_scope, allocation_of, SoundAllocation, DeclaredAnyPlan}
use Rattle.declarations.specs.Forms.{declarations_of}
use Rattle.declarations.proofs.ScopeLaws.{stored_append, item_words_lem}

pub items_allocation : (st : layout.Allocation) (a : List (Name × Item)) → foldl allocate st (declarations_of a) ≡ with_scope st (foldl declare_item st.scope a)
unfolding declarations_of allocate
items_allocation st [] = refl
items_allocation st (x ∷ xs) = items_allocation (with_scope st (declare_item st.scope x)) xs

one_words : (scope : Scope) (x : Name × Item) → (declare_item scope x).taken ≡ scope.taken + length (item_values x.1)
unfolding declare_item declare
one_words scope x = ap (λ w. scope.taken + w) (item_words_lem x.1)

items_emitted : (ends : ℕ → ℕ) (st : layout.Allocation) (items : List (Name × Item)) (image : List ℕ) → emit_declarations ends st (declarations_of items) image ≡ stored image (0o200 + st.scope.taken) (local_values items)
unfolding emit_declarations emit_declaration declarations_of local_values stored layout.allocate
items_emitted ends st [] image = refl
items_emitted ends st (x ∷ xs) image =
    let w = one_words st.scope x in
    let at : 0o200 + (declare_item st.scope x).taken ≡ 0o200 + st.scope.taken + length (item_values x.1) = omega (arith, w) in
    items_emitted ends (layout.with_scope st (declare_item st.scope x)) xs (stored image (0o200 + st.scope.taken) (item_values x.1))
    ∙ ap (λ a. stored (stored image (0o200 + st.scope.taken) (item_values x.1)) a (local_values xs)) at
    ∙ sym (stored_append image (0o200 + st.scope.taken) (item_values x.1) (local_values xs))

level_outer : (n : ℕ) → n ≡ 0 → Level.outer ≡ tables.level_of n
unfolding tables.level_of
level_outer n e = rw e

pub globals_declared : (s : Allocation) {t u image after : List ℕ} {inner : code.Scope} {items : List (Name × Item)} → SoundAllocation s → ItemsDeclared (global_scope s) t image inner u after items
    → DeclaredAnyPlan s t image (record { names = inner.names; taken = inner.taken; output = s.output; sectors = s.sectors; array = s.array }) u after (declarations_of items)
unfolding tables.level_of
globals_declared s {t} {u} {image} {after} {inner} {items} h p =
    let scope = ap (λ l. record { names = tables.live_names inner.names u; level = l; taken = inner.taken }) (level_outer inner.level p.level) ∙ p.scope in
    λ ends. record {
      allocation = ap (λ x. layout.with_scope (allocation_of s t) x) scope ∙ sym (items_allocation (allocation_of s t) items);
      sound = record { few = p.room.few; each = p.room.each; closed = h.closed; used = h.used; fits = h.fits; top = h.top };
      laid = p.laid ∙ sym (items_emitted ends (allocation_of s t) items image);
    }
