-- What stands before a procedure's statements.
use Prim.Native.Nat.{ℕ, suc, ◌+◌, ◌*◌, ◌≤◌}
use mathlib.Core.Path.{◌≡◌, refl, sym, ap, ap₂, ◌∙◌}
use mathlib.Core.List.{List, foldl}
use native.Mathlib.Numerals.{add-one}
use native.Mathlib.Omega.{arith}
use lib.ListN.{length, set}
use Rattle.tree.specs.Tree.{Name, Item}
use Rattle.tree.specs.Symbols.{Symbol, declare, declare_item, local_scope}
use Rattle.layout.specs.Allocation as layout
use Rattle.grammar.specs.Parse.{Got}
use Rattle.grammar.specs.Declarations.{parse_locals}
use Rattle.symbols.specs.declared.Packed.{Packed}
use Rattle.symbols.specs.Packing.{unpack}
use Rattle.symbols.specs.Table as tables
use Rattle.emitter.specs.Emitted as emitted
use Rattle.layout.specs.Emission as emission
use Rattle.layout.specs.Emission.{stored, local_values}
use Rattle.emitter.specs.declared.Output.{Output}
use Rattle.declarations.specs.declared.Allocation.{Allocation}
use Rattle.declarations.specs.declared.Scope as code
use Rattle.declarations.specs.Scopes.{scope_of, ItemsDeclared}
use Rattle.declarations.specs.Allocations.{pool_of, allocation_of}
use Rattle.declarations.specs.Frames.{InnerScope, FrameEmitted}
use Rattle.declarations.proofs.ScopeLaws.{held_more, take_less}

-- ---- The frame

-- the code's scope of the locals is the definition's
inner_scope : (s : Allocation) (t u : List ℕ) (name : Packed) → 3584 ≤ length t → s.names + 1 ≤ 512 → length u ≡ length t → tables.Entered s.names t name 0 Symbol.unknown u
    → scope_of (record { names = s.names + 1; level = s.taken + 1; taken = 0; base = s.output.next }) u ≡ local_scope (allocation_of s t).scope (unpack name)
unfolding local_scope declare tables.level_of tables.at_level tables.entry_of
inner_scope s t u name long few same d =
    let names = held_more s.names t u name 0 Symbol.unknown (omega arith) same d in
    ap₂ (λ x y. record { names = x; level = tables.level_of y; taken = 0 }) names (add-one s.taken)

pub inner_is : (s : Allocation) (t u : List ℕ) (name : Packed) → 3584 ≤ length t → s.names + 1 ≤ 512 → length u ≡ length t → tables.Entered s.names t name 0 Symbol.unknown u
    → InnerScope s t (unpack name) (record { names = s.names + 1; level = s.taken + 1; taken = 0; base = s.output.next }) u
inner_is s t u name long few same d =
    record { scope = inner_scope s t u name long few same d; room = record { long = omega arith; few = few; each = omega arith }; names = refl; base = refl; kept = d.kept }

-- so the locals are the definition's
pub frame_parsed : (source : List ℕ) {s : Allocation} {t u : List ℕ} {name : Name} {inner : code.Scope} (at : ℕ) → InnerScope s t name inner u
    → {g : Got (List (Name × Item))} → parse_locals source (scope_of inner u) at ≡ g → parse_locals source (local_scope (allocation_of s t).scope name) at ≡ g
frame_parsed source at i e = ap (λ x. parse_locals source x at) (sym i.scope) ∙ e

module _ {s : Allocation} {t u v image between : List ℕ} (after : List ℕ) {name : Name} {inner inner' : code.Scope} {locals : List (Name × Item)} (output : Output) where
  pub frame_framed : InnerScope s t name inner u → ItemsDeclared inner u image inner' v between locals
      → after ≡ set (set between (0o200 + s.taken) (s.output.next + inner'.taken)) (s.output.next + inner'.taken) 0
      → output.next ≡ s.output.next + inner'.taken + 1 → emitted.literals_in output.pool ≡ pool_of s
      → FrameEmitted s t image name inner'.names (s.output.next + inner'.taken) output v after locals
  unfolding layout.local_words local_scope
  frame_framed i p laid code pool =
      let S = local_scope (allocation_of s t).scope name in
      let inside = p.scope ∙ ap (λ x. foldl declare_item x locals) i.scope in
      let words : inner'.taken ≡ (foldl declare_item S locals).taken = ap (λ x. x.taken) inside in
      let link : s.output.next + inner'.taken ≡ layout.link_of (allocation_of s t) name locals = ap (λ x. s.output.next + x) words in
      let none : inner.taken ≡ 0 = ap (λ x. x.taken) i.scope in
      let base = i.base in
      let names = i.names in
      let start : inner.base + inner.taken ≡ s.output.next = omega (arith, base, none) in
      let image' = laid ∙ ap (λ x. set (set x (0o200 + s.taken) (s.output.next + inner'.taken)) (s.output.next + inner'.taken) 0) (p.laid ∙ ap (λ x. stored image x (local_values locals)) start)
      ∙ ap (λ x. set (set (stored image s.output.next (local_values locals)) (0o200 + s.taken) x) x 0) link in
      let last : output.next ≡ suc (layout.link_of (allocation_of s t) name locals) = omega (arith, code, link) in
      record {
        linked = link;
        alive = ap (λ x. x.names) inside;
        kept = take_less (7 * s.names) (7 * inner.names) v u (omega (arith, names)) p.kept ∙ i.kept;
        laid = emitted_is image' last pool;
      }
    where
      emitted_is : {i j p q : List ℕ} {c e : ℕ} → i ≡ j → c ≡ e → p ≡ q → ◌≡◌ {A = emission.Emitted} (record { image = i; next = c; pool = p }) (record { image = j; next = e; pool = q })
      emitted_is a b c = rw (a, b, c)
