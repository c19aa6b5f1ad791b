-- Arrays: each definition case by case.
use Prim.Native.Nat.{ℕ, zero, suc, ◌+◌, ◌-◌, ◌≤◌, ◌<◌}
use mathlib.Core.Path.{◌≡◌, refl, sym, ap, ◌∙◌}
use mathlib.Core.Bool.{Bool, true, false}
use mathlib.Core.List.{List, [], ◌∷◌, ◌++◌}
use native.Mathlib.Omega.{arith}
use borrow.Author.Tests.{eq-eqb, ne_eqb, ltb-true}
use lib.Dec.{leb, ltb}
use lib.ListN.{length, set, replicate, length-append}
use Rattle.prelude.specs.Choice.{whether}
use Rattle.source.specs.Kinds.{kind_number}
use Rattle.source.specs.Kinds
use Rattle.source.specs.declared.Token.{Token}
use Rattle.source.specs.Tokens.{token_at}
use Rattle.tree.specs.Tree.{Name, Declaration}
use Rattle.tree.specs.Symbols.{Symbol, Level, Names, declare, words_taken}
use Rattle.layout.specs.Allocation as layout
use Rattle.layout.specs.Limits.{name_limit, space_limit}
use Rattle.grammar.specs.Parse.{Got, and_then, fail_at, within, is, expect, snoc, separated}
use Rattle.grammar.specs.Parse.Got.{got, failed}
use Rattle.grammar.specs.Cells.{parse_constant, parse_in_range}
use Rattle.grammar.specs.Declarations.{new_name, size_of, parse_initial, parse_initials}
use Rattle.symbols.specs.declared.Packed.{Packed}
use Rattle.symbols.specs.Packing.{unpack}
use Rattle.symbols.specs.Table as tables
use Rattle.layout.specs.Emission.{stored, padded, emit_declaration, emit_declarations}
use Rattle.declarations.specs.declared.Scope.{Scope}
use Rattle.declarations.specs.declared.Allocation.{Allocation}
use Rattle.declarations.specs.Declares.{Declares}
use Rattle.declarations.specs.Scopes.{scope_of}
use Rattle.declarations.specs.Allocations.{ends_of, pool_of, global_scope, with_global, allocation_of, SoundAllocation, DeclaredAnyPlan, space_number}
use Rattle.declarations.specs.Values.{initial_value, StoresValue, Filled}
use Rattle.declarations.specs.Clauses.{Answer, AllocatesOne, AllocatesAnyPlan, closing_at}
use Rattle.declarations.proofs.AllocationLaws.{stored_more, more_declared}
use Rattle.declarations.specs.Forms.{array_head, one_array, array_in}
use Rattle.parser.proofs.Answers.{then_got, then_failed}
use Rattle.parser.proofs.ReadLaws.{never, reads_as}
use Rattle.declarations.proofs.ParseLaws.{then_inv, within_on, within_failed, within_then}
use Rattle.declarations.proofs.NameLaws.{name_room}
use Rattle.declarations.proofs.ScopeLaws.{held_more, stored_append}
use Rattle.declarations.proofs.LimitLaws.{limit_case, space_number_lem, space_fits}

-- ---- An array's head

pub global_name_lem : (source : List ℕ) (s : Allocation) (table : List ℕ) (t : Token) {scope : Scope} → scope ≡ global_scope s
    → new_name source (scope_of scope table) (name_limit (scope_of scope [])) t ≡ new_name source (allocation_of s table).scope (name_limit (allocation_of s table).scope) t
unfolding tables.level_of name_limit
global_name_lem source s table t e = ap (λ z. new_name source (scope_of z table) (name_limit (scope_of z [])) t) e

then_assoc : {A B C : Type 0} (x : Got A) (f : A → ℕ → Got B) (g : B → ℕ → Got C) → and_then x (λ a n. and_then (f a n) g) ≡ and_then (and_then x f) g
unfolding and_then
then_assoc (got a n) f g = refl
then_assoc (failed k a) f g = refl

-- `]` is the token that stands there
closing_with : {A : Type 0} (source : List ℕ) (at limit : ℕ) (v : A) → and_then (expect Kinds.right_bracket source at) (λ t n. within limit t (got v n)) ≡ and_then (closing_at source limit at) (λ _ n. got v n)
unfolding and_then expect fail_at
closing_with source at limit v = go (is Kinds.right_bracket (token_at source at))
  where
    t : Token
    t = token_at source at

    go : (b : Bool) → and_then (whether b (λ _. got t t.next) (λ _. fail_at t 6)) (λ u n. within limit u (got v n)) ≡ and_then (and_then (whether b (λ _. got t t.next) (λ _. fail_at t 6)) (λ u _. within limit u (got u u.next))) (λ _ n. got v n)
    go true = sym (within_then limit t (got t t.next) (λ _ n. got v n))
    go false = refl

-- the rest of a head, after its name
head_rest : List ℕ → layout.Allocation → Name → ℕ → ℕ → Got (Name × ℕ)
head_rest source st name v k = and_then (expect Kinds.right_bracket source k) (λ closing l. within (space_limit st (size_of v)) closing (got (name, size_of v) l))

module _ (source : List ℕ) (st : layout.Allocation) (at : ℕ) where
  pub head_name : {k a : ℕ} → new_name source st.scope (name_limit st.scope) (token_at source at) ≡ failed k a → array_head source st at ≡ failed k a
  unfolding array_head
  head_name e = then_failed _ e

  module _ {name : Name} {n : ℕ} (e : new_name source st.scope (name_limit st.scope) (token_at source at) ≡ got name n) where
    head_on : array_head source st at ≡ and_then (and_then (expect Kinds.left_bracket source n) (λ _ m. parse_in_range source st.scope.names (λ v. leb (size_of v) 8192) m)) (head_rest source st name)
    unfolding array_head head_rest
    head_on = then_got _ e ∙ then_assoc (expect Kinds.left_bracket source n) _ (head_rest source st name)

    pub head_size : {k a : ℕ} → and_then (expect Kinds.left_bracket source n) (λ _ m. parse_in_range source st.scope.names (λ v. leb (size_of v) 8192) m) ≡ failed k a → array_head source st at ≡ failed k a
    head_size h = head_on ∙ then_failed _ h

    pub head_closing : {v k : ℕ} → and_then (expect Kinds.left_bracket source n) (λ _ m. parse_in_range source st.scope.names (λ v. leb (size_of v) 8192) m) ≡ got v k
        → array_head source st at ≡ and_then (closing_at source (space_number (st.next + length st.pool + size_of v) st.array) k) (λ _ l. got (name, size_of v) l)
    unfolding head_rest space_limit space_number
    head_closing {v} {k} h = head_on ∙ then_got _ h ∙ closing_with source k (space_number (st.next + length st.pool + size_of v) st.array) (name, size_of v)

-- a head that was read has room for its name and its words
pub record Roomy (st : layout.Allocation) (size : ℕ) : Type 0 where
  pub names : length st.scope.names < 512
  pub space : st.next + length st.pool + size ≤ st.array

pub head_room : (source : List ℕ) (st : layout.Allocation) (at : ℕ) {name : Name} {size n : ℕ} → array_head source st at ≡ got (name, size) n → Roomy st size
unfolding array_head space_limit fail_at
head_room source st at {name} {size} {n} e =
    let a = then_inv _ _ e in
    let b = then_inv _ _ a.3 in
    let d = then_inv _ _ b.3 in
    let f = then_inv _ _ d.3 in
    record { names = name_room source st.scope _ (token_at source at) a.2; space = last d.0 f.0 f.1 a.0 f.3 }
  where
    last : (v : ℕ) (t : Token) (l : ℕ) (name' : Name) → within {A = Name × ℕ} (space_limit st (size_of v)) t (got (name', size_of v) l) ≡ got (name, size) n → st.next + length st.pool + size ≤ st.array
    last v t l name' h = limit_case (space_limit st (size_of v)) (λ z. on z (sym (within_on (space_limit st (size_of v)) t _ z) ∙ h)) (λ z. absurd (off z))
      where
        on : space_limit st (size_of v) ≡ 0 → ◌≡◌ {A = Got (Name × ℕ)} (got (name', size_of v) l) (got (name, size) n) → st.next + length st.pool + size ≤ st.array
        on z q = let p : ◌≡◌ {A = Name × ℕ} (name', size_of v) (name, size) = cc in let w : size_of v ≡ size = ap (λ x. x.1) p in space_fits _ _ (ap (λ x. space_number (st.next + length st.pool + x) st.array) (sym w) ∙ sym (space_number_lem st (size_of v)) ∙ z)

        off : (space_limit st (size_of v) ≡ 0 → ⊥) → ⊥
        off z = never h (within_failed (space_limit st (size_of v)) t _ z)

-- ---- Initial values

module _ (source : List ℕ) (names : Names) (size at : ℕ) where
  pub value_room : (count : ℕ) {v n : ℕ} → initial_value source names size count at ≡ got v n → count < size
  unfolding initial_value fail_at
  value_room count {v} {n} e = let a = then_inv _ _ e in go (ltb count size) refl a.0 a.1 a.3
    where
      go : (b : Bool) → ltb count size ≡ b → (w m : ℕ) → whether b (λ _. got w m) (λ _. fail_at (token_at source at) 14) ≡ got v n → count < size
      go true q w m h = ltb-true count size q
      go false q w m h = absurd (never h refl)

  -- with the values before it
  module _ (values : List ℕ) {count : ℕ} (l : length values ≡ count) where
    more_values : parse_initial source names size values at ≡ and_then (initial_value source names size count at) (λ v n. got (snoc values v) n)
    unfolding parse_initial initial_value and_then fail_at
    more_values = rw (← l) (go (parse_constant source names at) (ltb (length values) size))
      where
        go : (g : Got ℕ) (b : Bool) → and_then g (λ v n. whether b (λ _. got (snoc values v) n) (λ _. fail_at (token_at source at) 14))
            ≡ and_then (and_then g (λ v n. whether b (λ _. got v n) (λ _. fail_at (token_at source at) 14))) (λ v n. got (snoc values v) n)
        go (got v n) true = refl
        go (got v n) false = refl
        go (failed k a) b = refl

padded_none : (size : ℕ) → padded size [] ≡ replicate size 0
unfolding padded
padded_none zero = refl
padded_none (suc n) = ap (λ l. 0 ∷ l) (padded_none n)

padded_is : (size : ℕ) (values : List ℕ) (rest : ℕ) → length values + rest ≡ size → padded size values ≡ values ++ replicate rest 0
unfolding padded
padded_is size [] rest e = let q : size ≡ rest = omega arith in padded_none size ∙ ap (λ k. replicate k 0) q
padded_is zero (v ∷ vs) rest e = absurd (omega arith)
padded_is (suc n) (v ∷ vs) rest e = ap (λ l. v ∷ l) (padded_is n vs rest (omega arith))

-- the rest of an array is zero
pub padded_stored : (image : List ℕ) {after : List ℕ} (first size count : ℕ) {middle : List ℕ} (values : List ℕ) → middle ≡ stored image first values → length values ≡ count → count ≤ size
    → after ≡ stored middle (first + count) (replicate (size - count) 0) → after ≡ stored image first (padded size values)
padded_stored image first size count values e l h i =
    i ∙ ap (λ x. stored x (first + count) (replicate (size - count) 0)) e ∙ ap (λ k. stored (stored image first values) (first + k) (replicate (size - count) 0)) (sym l)
    ∙ sym (stored_append image first values (replicate (size - count) 0)) ∙ ap (stored image first) (sym (padded_is size values (size - count) (omega arith)))

pub none_stored : (image : List ℕ) {after : List ℕ} (first size : ℕ) → after ≡ stored image first (replicate size 0) → after ≡ stored image first (padded size [])
none_stored image first size i = i ∙ ap (stored image first) (sym (padded_none size))

module _ (source : List ℕ) (names : Names) (size at : ℕ) {t : Token} (e : t ≡ token_at source at) where
  pub initials_none : (kind_number t.kind ≡ Kinds.left_parenthesis → ⊥) → parse_initials source names size at ≡ got [] at
  unfolding parse_initials
  initials_none k = rw (← e, ne_eqb _ _ k)

  pub initials_on : kind_number t.kind ≡ Kinds.left_parenthesis → parse_initials source names size at
      ≡ and_then (separated source Kinds.comma (parse_initial source names size []) (parse_initial source names size) t.next) (λ values n. and_then (expect Kinds.right_parenthesis source n) (λ _ next. got values next))
  unfolding parse_initials
  initials_on k = rw (← e, eq-eqb _ _ k)

-- ---- An array

module _ (source : List ℕ) (checked : Bool) (st : layout.Allocation) (at : ℕ) where
  pub array_head_lem : {k a : ℕ} → array_head source st at ≡ failed k a → one_array source checked st at ≡ failed k a
  unfolding one_array
  array_head_lem e = then_failed _ e

  module _ {name : Name} {size n : ℕ} (e : array_head source st at ≡ got (name, size) n) where
    pub array_values : {k a : ℕ} → parse_initials source st.scope.names size n ≡ failed k a → one_array source checked st at ≡ failed k a
    unfolding one_array
    array_values h = then_got _ e ∙ then_failed _ h

    pub array_on : {values : List ℕ} {m : ℕ} → parse_initials source st.scope.names size n ≡ got values m → one_array source checked st at ≡ got (Declaration.array name size checked values) m
    unfolding one_array
    array_on h = then_got _ e ∙ then_got _ h

-- an array after those that are done
pub array_next : (source : List ℕ) (checked : Bool) (at : ℕ) {s s' : Allocation} {t t' t'' i i' i'' : List ℕ} {done : List Declaration} {r : Answer Allocation} → DeclaredAnyPlan s t i s' t' i' done
    → AllocatesOne s' t' i' r t'' i'' (one_array source checked (allocation_of s' t') at) → AllocatesAnyPlan s t i r t'' i'' (array_in source checked (allocation_of s t) done at)
unfolding array_in
array_next source checked at {done = done} p r =
    reads_as (snoc done) r (ap (λ z. and_then (one_array source checked z at) (λ d n. got (snoc done d) n)) (sym (p (λ _. 0)).allocation)) (λ d x h ends. more_declared (p ends) (h ends)) (λ w. w)

-- declared
module _ (s : Allocation) (t u image between after : List ℕ) (name : Packed) (size : ℕ) (checked : Bool) (values : List ℕ) where
  pub array_declared : SoundAllocation s → 3584 ≤ length t → Roomy (allocation_of s t) size → length (tables.live_names s.names t) ≡ s.names → length u ≡ length t
      → tables.Entered s.names t name 0 (Symbol.array (record { number = s.taken; size = size; checked = checked })) u → between ≡ set image (0o200 + s.taken) (0o40000 + s.array)
      → after ≡ stored between (s.array - size) (padded size values)
      → DeclaredAnyPlan s t image (with_global s s.output (s.array - size)) u after (Declaration.array (unpack name) size checked values ∷ [])
  unfolding emit_declarations emit_declaration layout.allocate declare words_taken tables.level_of tables.at_level tables.entry_of
  array_declared h long room held same d e i =
      let few = room.names in
      let names = held_more s.names t u name 0 (Symbol.array (record { number = s.taken; size = size; checked = checked })) (omega arith) same d in
      λ _. record {
        allocation = ap (λ x. record { scope = record { names = x; level = Level.outer; taken = s.taken + 1 }; next = s.output.next; pool = pool_of s; ends = ends_of s.sectors; array = s.array - size }) names;
        sound = record { few = omega arith; each = omega (arith, h.each); closed = h.closed; used = h.used; fits = h.fits; top = omega (arith, h.top) };
        laid = i ∙ ap (λ x. stored x (s.array - size) (padded size values)) e;
      }

-- ---- Values stored

pub none_filled : (first size : ℕ) (image : List ℕ) → Filled first size image 0 image []
unfolding stored
none_filled first size image = record { laid = refl; counted = refl; few = omega arith }

more_filled : {first size count : ℕ} (v : ℕ) {image now after values : List ℕ} → Filled first size image count now values → count < size → after ≡ set now (first + count) v → Filled first size image (count + 1) after (snoc values v)
more_filled {first} {size} {count} v {image} {now} {after} {values} f h e =
    record { laid = stored_more image first values v count f.counted f.laid e; counted = length-append values (v ∷ []) ∙ ap (λ k. k + 1) f.counted; few = omega arith }

-- a value after those that are done
pub value_next : (source : List ℕ) (names : Names) (at : ℕ) {first size count : ℕ} {image now after values : List ℕ} {r : Answer ℕ} → Filled first size image count now values
    → Declares (StoresValue first size count now after) r (initial_value source names size count at) → Declares (λ vs n. Filled first size image n after vs) r (parse_initial source names size values at)
value_next source names at {values = values} f h = reads_as (snoc values) h (more_values source names _ at values f.counted) (λ v n s. rw s.counted (more_filled v f s.few s.laid)) (λ w. w)
