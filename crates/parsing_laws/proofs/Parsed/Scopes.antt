-- What the allocation after some declarations has declared: names, kinds and words agree.
use Prim.Native.Nat.{ℕ, zero, suc, ◌+◌, ◌≤◌}
use mathlib.Core.Path.{◌≡◌, refl, ap, sym, ◌∙◌}
use mathlib.Core.Bool.{Bool}
use mathlib.Core.List.{List, [], ◌∷◌, ◌++◌, foldl-append, append_assoc}
use native.Mathlib.Omega.{arith}
use lib.ListN.{length, get_or, length-append}
use lib.Seq.{get_or-append_seam}
use Rattle.tree.specs.Tree.{Id, Name, Item, Declaration}
use Rattle.tree.specs.Symbols.{Symbol, Level, Scope, Names, next_id, item_symbol, words_taken, declare, declare_item}
use Rattle.layout.specs.Allocation.{start, allocate, allocated}
use Rattle.parsing_laws.specs.WellFormed.{Kind, Context, IdOk, item_kinds, kinds_of, DeclarationOk, DeclarationsOk, none, more}
use Rattle.parsing_laws.proofs.Parsed.Choices.{last, row}
use Rattle.parsing_laws.proofs.Parsed.Names.{SymbolOk, NamesOk}

-- ---- One declaration more

state_snoc : (ds : List Declaration) (d : Declaration) → allocated (ds ++ (d ∷ [])) ≡ allocate (allocated ds) d
unfolding allocated
state_snoc ds d = foldl-append allocate start ds (d ∷ [])

pub kinds_append : (ds es : List Declaration) → kinds_of (ds ++ es) ≡ kinds_of ds ++ kinds_of es
unfolding kinds_of
kinds_append [] es = refl
kinds_append (Declaration.item name item ∷ ds) es = ap (λ (l : List Kind). item_kinds item ++ l) (kinds_append ds es) ∙ sym (append_assoc (item_kinds item) (kinds_of ds) (kinds_of es))
kinds_append (Declaration.array name size checked values ∷ ds) es = ap (λ (l : List Kind). Kind.array size checked ∷ l) (kinds_append ds es)
kinds_append (Declaration.procedure name accumulator locals body ∷ ds) es = ap (λ (l : List Kind). Kind.procedure ∷ l) (kinds_append ds es)
kinds_append (Declaration.next_sector ∷ ds) es = kinds_append ds es

-- ---- Names in a wider context

-- what is declared stays
abbrev pub Extends : List Kind → List Kind → Type 0
Extends ks ls = (n : ℕ) (k : Kind) → (k ≡ Kind.none → ⊥) → get_or ks n Kind.none ≡ k → get_or ls n Kind.none ≡ k

pub append_extends : (ks ls : List Kind) → Extends ks (ks ++ ls)
append_extends [] ls n k some e = absurd (some (sym e))
append_extends (j ∷ ks) ls zero k some e = e
append_extends (j ∷ ks) ls (suc n) k some e = append_extends ks ls n k some e

-- what is declared by the first of some declarations is declared by all
pub kinds_extend : (ds es : List Declaration) → Extends (kinds_of ds) (kinds_of (ds ++ es))
kinds_extend ds es n k some e = ap (λ (l : List Kind). get_or l n Kind.none) (kinds_append ds es) ∙ append_extends (kinds_of ds) (kinds_of es) n k some e

abbrev pub outer : List Kind → Context
outer ks = record { globals = ks; own = 0; locals = 0 }

cell_some : Kind.cell ≡ Kind.none → ⊥
cell_some e = let z : ◌≡◌ {A = ℕ} 0 1 = cc in omega arith

pub array_some : (n : ℕ) (checked : Bool) → Kind.array n checked ≡ Kind.none → ⊥
array_some n checked e = let z : ◌≡◌ {A = ℕ} 0 1 = cc in omega arith

pub procedure_some : Kind.procedure ≡ Kind.none → ⊥
procedure_some e = let z : ◌≡◌ {A = ℕ} 0 1 = cc in omega arith

module _ (ks : List Kind) (y : Context) (extends : Extends ks y.globals) where
  id_wider : (i : Id) → IdOk (outer ks) i → IdOk y i
  id_wider Id.x h = tt
  id_wider (Id.global n) h = extends n Kind.cell cell_some h
  id_wider (Id.local p n) h = absurd (omega arith)

  symbol_wider : (s : Symbol) → SymbolOk (outer ks) s → SymbolOk y s
  symbol_wider (Symbol.integer i) h = id_wider i h
  symbol_wider (Symbol.constant i v) h = (id_wider i h.0, h.1)
  symbol_wider (Symbol.compconstant v) h = h
  symbol_wider (Symbol.array a) h = extends a.number (Kind.array a.size a.checked) (array_some a.size a.checked) h
  symbol_wider (Symbol.procedure p accumulator) h = extends p Kind.procedure procedure_some h
  symbol_wider Symbol.unknown h = tt

  names_wider : {names : Names} → NamesOk (outer ks) names → NamesOk y names
  names_wider last = last
  names_wider (row {a = e} h rest) = row (symbol_wider e.symbol h) (names_wider rest)

pub own_names : (ks : List Kind) (p l : ℕ) {names : Names} → NamesOk (outer ks) names → NamesOk (record { globals = ks; own = p; locals = l }) names
own_names ks p l h = names_wider ks (record { globals = ks; own = p; locals = l }) (λ n k some e. e) h

-- ---- The allocation after declarations

pub record Declared (ds : List Declaration) : Type 0 where
  pub level : (allocated ds).scope.level ≡ Level.outer
  pub taken : (allocated ds).scope.taken ≡ length (kinds_of ds)
  pub few : (allocated ds).scope.taken ≤ 384
  pub names : NamesOk (outer (kinds_of ds)) (allocated ds).scope.names

-- a name that takes the next word of a kind, or none
record Taken (sc : Scope) (ks : List Kind) (next : Scope) (new : List Kind) : Type 0 where
  level : next.level ≡ sc.level
  taken : next.taken ≡ sc.taken + length new
  few : sc.taken + length new ≤ 384
  names : NamesOk (outer ks) sc.names → NamesOk (outer (ks ++ new)) next.names

one_more : (ds : List Declaration) (d : Declaration) → Declared ds → Taken (allocated ds).scope (kinds_of ds) (allocate (allocated ds) d).scope (kinds_of (d ∷ []))
    → Declared (ds ++ (d ∷ []))
one_more ds d known t = record {
  level = rw state_snoc (t.level ∙ known.level);
  taken = rw (state_snoc, kinds_append, length-append) (omega arith);
  few = rw state_snoc (omega arith);
  names = rw (state_snoc, kinds_append) (t.names known.names);
}

-- the word that is next is of the kind that is added
next_kind : (ks : List Kind) (k : Kind) (n : ℕ) → n ≡ length ks → get_or (ks ++ (k ∷ [])) n Kind.none ≡ k
next_kind ks k n e = rw e (get_or-append_seam ks k [] Kind.none)

-- a name that is declared takes its words
name_taken : (sc : Scope) (ks new : List Kind) (name : Name) (s : Symbol) (taken : ℕ) → taken ≡ length new → sc.taken + length new ≤ 384
    → SymbolOk (outer (ks ++ new)) s → Taken sc ks (declare sc name s taken) new
unfolding declare
name_taken sc ks new name s taken w few p =
    record { level = refl; taken = rw w; few = few; names = λ ns. row p (names_wider ks (outer (ks ++ new)) (append_extends ks new) ns) }

module _ (ds : List Declaration) (known : Declared ds) where
  abbrev sc : Scope
  sc = (allocated ds).scope

  abbrev ks : List Kind
  ks = kinds_of ds

  cell_ok : IdOk (outer (ks ++ (Kind.cell ∷ []))) (next_id sc.level sc.taken)
  unfolding next_id
  cell_ok = rw known.level (next_kind ks Kind.cell sc.taken known.taken)

  taken : (d : Declaration) → DeclarationOk (allocated ds) ks d → Taken sc ks (allocate (allocated ds) d).scope (kinds_of (d ∷ []))
  unfolding allocate declare_item item_symbol words_taken kinds_of
  taken (Declaration.item name Item.integer) h = name_taken sc ks _ name _ _ refl h.1 cell_ok
  taken (Declaration.item name (Item.constant v)) h = name_taken sc ks _ name _ _ refl h.1 (cell_ok, h.0)
  taken (Declaration.item name (Item.compconstant v)) h = name_taken sc ks _ name _ _ refl h.1 h.0
  taken (Declaration.array name size checked values) h = name_taken sc ks _ name _ _ refl (omega arith) (next_kind ks (Kind.array size checked) sc.taken known.taken)
  taken (Declaration.procedure name accumulator locals body) h =
      name_taken sc ks _ name _ _ refl (omega arith) (next_kind ks Kind.procedure sc.taken known.taken)
  taken Declaration.next_sector h =
      record { level = refl; taken = omega arith; few = omega arith; names = λ ns. names_wider ks (outer (ks ++ [])) (append_extends ks []) ns }

pub declared : {ds : List Declaration} → DeclarationsOk ds → Declared ds
unfolding allocated kinds_of
declared none = record { level = refl; taken = refl; few = omega arith; names = last }
declared (more ds d h ok) = let k = declared h in one_more ds d k (taken ds k d ok)
