-- The definitions of declarations, with those before them and by the allocation after those.
use Prim.Native.Nat.{ℕ, ◌≤◌}
use mathlib.Core.Path.{◌≡◌, refl, sym, ap, ◌∙◌}
use mathlib.Core.Bool.{Bool, true, false, ◌&&◌}
use mathlib.Core.List.{List, [], ◌∷◌, ◌++◌, foldl, foldl-append, append_assoc, append-nil}
use mathlib.Core.Option.{none, some}
use native.Mathlib.Omega.{arith}
use borrow.Author.Tests.{eq-eqb, ne_eqb, eqb-true, eqb-false, leb-true, leb-false}
use lib.Dec.{eqb, leb}
use lib.ListN.{length}
use Rattle.prelude.specs.Choice.{whether, find}
use Rattle.source.specs.Kinds.{kind_number}
use Rattle.source.specs.Kinds
use Rattle.source.specs.declared.Token.{Token}
use Rattle.source.specs.Tokens.{token_at}
use Rattle.tree.specs.Tree.{Name, Item, Stmts, Declaration, Program}
use Rattle.tree.specs.Symbols.{declare_item, local_scope}
use Rattle.layout.specs.Allocation.{Allocation, start, allocate, allocated}
use Rattle.grammar.specs.Vocabulary.{as_one_of}
use Rattle.layout.specs.Limits.{name_limit, space_limit, declaration_limit, main_limit}
use Rattle.grammar.specs.Parse.{Got, and_then, fail_at, within, is, expect, snoc, repeat}
use Rattle.grammar.specs.Parse.Got.{got, failed}
use Rattle.grammar.specs.Cells.{parse_in_range}
use Rattle.grammar.specs.Statements.{parse_outermost}
use Rattle.grammar.specs.Declarations.{ItemKeyword, new_name, size_of, parse_item, parse_list, parse_local, parse_locals, parse_global, parse_initials, parse_array, parse_limited, parse_procedure, parse_accumulator, declaration_keywords, more_declarations, parse_declarations}
use Rattle.grammar.specs.Program.{parse_main}
use Rattle.declarations.specs.declared.Allocation as code
use Rattle.declarations.specs.declared.SectorEnds.{SectorEnds}
use Rattle.declarations.specs.Clauses.{Answer, Allocates}
use Rattle.declarations.specs.Allocations.{end_of, allocation_of, Declared}
use Rattle.declarations.specs.Forms.{declarations_of, items_in, array_head, one_array, array_in, arrays_in, limited_in}
use Rattle.declarations.specs.Forms.{begins, heading_in, body_in, procedure_in, accumulator_in, declaration_in}
use Rattle.declarations.specs.Scopes.{keyword_of}
use Rattle.declarations.specs.Procedures.{main_in}
use Rattle.declarations.proofs.ListLaws.{mapped, then_mapped, map_list}
use Rattle.parser.proofs.ReadLaws.{Turning, reads_as}
use Rattle.declarations.proofs.GlobalLaws.{items_allocation}
use Rattle.declarations.proofs.AllocationLaws.{more_declared}

-- ---- Results

-- parts put together
into : {A B C : Type 0} (x : Got A) (g : A → ℕ → Got B) (h : B → ℕ → Got C) (k : A → ℕ → Got C) → ((a : A) (n : ℕ) → k a n ≡ and_then (g a n) h) → and_then x k ≡ and_then (and_then x g) h
unfolding and_then
into (got a n) g h k e = e a n
into (failed k a) g h l e = refl

within_into : {B C : Type 0} (limit : ℕ) (t : Token) (x : Got B) (y : Got C) (h : B → ℕ → Got C) → y ≡ and_then x h → within limit t y ≡ and_then (within limit t x) h
unfolding within fail_at and_then
within_into limit t x y h e = go (eqb limit 0)
  where
    go : (b : Bool) → whether b (λ _. y) (λ _. fail_at t limit) ≡ and_then (whether b (λ _. x) (λ _. fail_at t limit)) h
    go true = e
    go false = refl

-- ---- The allocation after more declarations

pub after_more : (ds new : List Declaration) → foldl allocate (allocated ds) new ≡ allocated (ds ++ new)
unfolding allocated
after_more ds new = sym (foldl-append allocate start ds new)

declarations_append : (a b : List (Name × Item)) → declarations_of (a ++ b) ≡ declarations_of a ++ declarations_of b
unfolding declarations_of
declarations_append [] b = refl
declarations_append (x ∷ xs) b = ap (λ l. Declaration.item x.0 x.1 ∷ l) (declarations_append xs b)

module _ (source : List ℕ) (ds : List Declaration) where
  -- ---- Items

  module _ (word : ItemKeyword) where
    global_one : (a : List (Name × Item)) (n : ℕ) → parse_global source word (ds ++ declarations_of a) n ≡ mapped (λ x. ds ++ declarations_of x) (parse_local source (allocated ds).scope word a n)
    unfolding parse_global parse_local and_then declarations_of
    global_one a n =
        ap (λ st. and_then (parse_item source word st.scope n) (λ item next. got (snoc (ds ++ declarations_of a) (Declaration.item item.0 item.1)) next)) (sym (after_more ds (declarations_of a)) ∙ items_allocation (allocated ds) a)
        ∙ then_mapped (λ x. ds ++ declarations_of x) (parse_item source word (foldl declare_item (allocated ds).scope a) n) (λ item next. got (snoc a item) next)
        (λ item next. got (snoc (ds ++ declarations_of a) (Declaration.item item.0 item.1)) next)
        (λ x m. ap (λ l. got l m) (append_assoc ds (declarations_of a) (Declaration.item x.0 x.1 ∷ []) ∙ ap (λ l. ds ++ l) (sym (declarations_append a (x ∷ [])))))

    pub global_list : (at : ℕ) → parse_list source (parse_global source word) ds at ≡ mapped (λ new. ds ++ new) (items_in source word (allocated ds) at)
    unfolding items_in declarations_of and_then
    global_list at =
        ap (λ d. parse_list source (parse_global source word) d at) (sym (append-nil ds))
        ∙ map_list (λ x. ds ++ declarations_of x) source (parse_local source (allocated ds).scope word) (parse_global source word) global_one [] at
        ∙ into (parse_list source (parse_local source (allocated ds).scope word) [] at) (λ items n. got (declarations_of items) n) (λ new n. got (ds ++ new) n) (λ x n. got (ds ++ declarations_of x) n) (λ a n. refl)

  -- ---- Arrays

  module _ (checked : Bool) where
    array_def : (es : List Declaration) (at : ℕ) → parse_array source checked es at ≡ and_then (one_array source checked (allocated es) at) (λ d n. got (snoc es d) n)
    unfolding parse_array one_array array_head and_then
    array_def es at =
        let st = allocated es in
        let rest : Name × ℕ → ℕ → Got Declaration = λ head n. and_then (parse_initials source st.scope.names head.1 n) (λ values next. got (Declaration.array head.0 head.1 checked values) next) in
        let last : Declaration → ℕ → Got (List Declaration) = λ d n. got (snoc es d) n in
        let tail : Name × ℕ → ℕ → Got (List Declaration) = λ head n. and_then (rest head n) last in
        into (new_name source st.scope (name_limit st.scope) (token_at source at)) _ tail _ (λ name n.
        into (expect Kinds.left_bracket source n) _ tail _ (λ _ m.
        into (parse_in_range source st.scope.names (λ v. leb (size_of v) 8192) m) _ tail _ (λ v k.
        into (expect Kinds.right_bracket source k) _ tail _ (λ closing l.
        within_into (space_limit st (size_of v)) closing (got (name, size_of v) l) _ tail
        (into (parse_initials source st.scope.names (size_of v) l) (λ values next. got (Declaration.array name (size_of v) checked values) next) last _ (λ values next. refl))))))
        ∙ into (array_head source st at) rest last tail (λ head n. refl)

    array_one : (a : List Declaration) (n : ℕ) → parse_array source checked (ds ++ a) n ≡ mapped (λ x. ds ++ x) (array_in source checked (allocated ds) a n)
    unfolding array_in and_then
    array_one a n =
        array_def (ds ++ a) n
        ∙ ap (λ st. and_then (one_array source checked st n) (λ d next. got (snoc (ds ++ a) d) next)) (sym (after_more ds a))
        ∙ then_mapped (λ x. ds ++ x) (one_array source checked (foldl allocate (allocated ds) a) n) (λ d next. got (snoc a d) next) (λ d next. got (snoc (ds ++ a) d) next) (λ d m. ap (λ l. got l m) (append_assoc ds a (d ∷ [])))

    pub array_list : (at : ℕ) → parse_list source (parse_array source checked) ds at ≡ mapped (λ new. ds ++ new) (arrays_in source checked (allocated ds) at)
    unfolding arrays_in
    array_list at = ap (λ d. parse_list source (parse_array source checked) d at) (sym (append-nil ds)) ∙ map_list (λ x. ds ++ x) source (array_in source checked (allocated ds)) (parse_array source checked) array_one [] at

  -- ---- Judged

  pub limited_def : (d : Declaration) (last : Token) → parse_limited source ds d last ≡ mapped (λ new. ds ++ new) (limited_in source (allocated ds) d last)
  unfolding parse_limited limited_in and_then
  limited_def d last =
      within_into (declaration_limit (allocated ds) d) last (and_then (expect Kinds.semicolon source last.next) (λ _ next. got (d ∷ []) next)) _ (λ new n. got (ds ++ new) n)
      (into (expect Kinds.semicolon source last.next) (λ _ next. got (d ∷ []) next) (λ new n. got (ds ++ new) n) _ (λ _ n. refl))

  -- ---- Procedures

  pub procedure_def : (accumulator : Bool) (at : ℕ) → parse_procedure source ds accumulator at ≡ mapped (λ new. ds ++ new) (procedure_in source (allocated ds) accumulator at)
  unfolding parse_procedure procedure_in heading_in body_in and_then
  procedure_def accumulator at =
      let st = allocated ds in
      let scope = st.scope in
      let last : Name → List (Name × Item) × Stmts → ℕ → Got (List Declaration) = λ name inside m. and_then (expect Kinds.END source m) (λ t _. limited_in source st (Declaration.procedure name accumulator inside.0 inside.1) t) in
      let tail : Name → ℕ → Got (List Declaration) = λ name n. and_then (body_in source scope name n) (last name) in
      let done : List Declaration → ℕ → Got (List Declaration) = λ new n. got (ds ++ new) n in
      let tail' : Name → ℕ → Got (List Declaration) = λ name n. and_then (tail name n) done in
      let last' : Name → List (Name × Item) × Stmts → ℕ → Got (List Declaration) = λ name inside m. and_then (last name inside m) done in
      into (new_name source scope (name_limit scope) (token_at source at)) _ tail' _ (λ name n.
      into (expect Kinds.semicolon source n) _ tail' _ (λ _ m.
      into (expect Kinds.BEGIN source m) (λ _ k. got name k) tail' _ (λ _ k.
      (into (parse_locals source (local_scope scope name) k) _ (last' name) _ (λ locals l.
      into (parse_outermost source (foldl declare_item (local_scope scope name) locals).names l) (λ body j. got (locals, body) j) (last' name) _ (λ body j.
      into (expect Kinds.END source j) _ done _ (λ t _. limited_def (Declaration.procedure name accumulator locals body) t))))
      ∙ into (body_in source scope name k) (last name) done (last' name) (λ inside m. refl))))
      ∙ into (heading_in source scope at) tail done tail' (λ name n. refl)

  pub accumulator_def : (at : ℕ) → parse_accumulator source ds at ≡ mapped (λ new. ds ++ new) (accumulator_in source (allocated ds) at)
  unfolding parse_accumulator accumulator_in
  accumulator_def at = into (expect Kinds.PROCEDURE source at) (λ _ n. procedure_in source (allocated ds) true n) (λ new n. got (ds ++ new) n) (λ _ n. parse_procedure source ds true n) (λ _ n. procedure_def true n)

-- ---- The declaration that a token begins

outside : (k other : ℕ) → begins k ≡ false → 24 ≤ other → other ≤ 30 → k ≡ other → ⊥
outside k other h l m e = go (leb 24 k) (leb k 30) refl refl h
  where
    go : (a b : Bool) → leb 24 k ≡ a → leb k 30 ≡ b → (a && b) ≡ false → ⊥
    go true true p q z = let y : ◌≡◌ {A = ℕ} 0 1 = cc in omega arith
    go true false p q z = let w = leb-false k 30 q in omega (arith, w)
    go false b p q z = let w = leb-false 24 k p in omega (arith, w)

low : (k : ℕ) → begins k ≡ true → 24 ≤ k
low k h = go (leb 24 k) (leb k 30) refl h
  where
    go : (a b : Bool) → leb 24 k ≡ a → (a && b) ≡ true → 24 ≤ k
    go true b p z = leb-true 24 k p
    go false b p z = absurd (let y : ◌≡◌ {A = ℕ} 0 1 = cc in omega arith)

high : (k : ℕ) → begins k ≡ true → k ≤ 30
high k h = go (leb 24 k) (leb k 30) refl h
  where
    go : (a b : Bool) → leb k 30 ≡ b → (a && b) ≡ true → k ≤ 30
    go a true p z = leb-true k 30 p
    go true false p z = absurd (let y : ◌≡◌ {A = ℕ} 0 1 = cc in omega arith)
    go false false p z = absurd (let y : ◌≡◌ {A = ℕ} 0 1 = cc in omega arith)

-- which of the seven it is
seven : {C : Type 0} (k : ℕ) → begins k ≡ true → (k ≡ 24 → C) → (k ≡ 25 → C) → (k ≡ 26 → C) → (k ≡ 27 → C) → (k ≡ 28 → C) → (k ≡ 29 → C) → (k ≡ 30 → C) → C
seven {C} k h a b c d e f g = go (eqb k 24) (eqb k 25) (eqb k 26) (eqb k 27) (eqb k 28) (eqb k 29) refl refl refl refl refl refl
  where
    last : (k ≡ 24 → ⊥) → (k ≡ 25 → ⊥) → (k ≡ 26 → ⊥) → (k ≡ 27 → ⊥) → (k ≡ 28 → ⊥) → (k ≡ 29 → ⊥) → k ≡ 30
    last p q r s t u = let l = low k h in let m = high k h in omega arith

    go : (x y z v w o : Bool) → eqb k 24 ≡ x → eqb k 25 ≡ y → eqb k 26 ≡ z → eqb k 27 ≡ v → eqb k 28 ≡ w → eqb k 29 ≡ o → C
    go true y z v w o p q r s t u = a (eqb-true k 24 p)
    go false true z v w o p q r s t u = b (eqb-true k 25 q)
    go false false true v w o p q r s t u = c (eqb-true k 26 r)
    go false false false true w o p q r s t u = d (eqb-true k 27 s)
    go false false false false true o p q r s t u = e (eqb-true k 28 t)
    go false false false false false true p q r s t u = f (eqb-true k 29 u)
    go false false false false false false p q r s t u = g (last (eqb-false k 24 p) (eqb-false k 25 q) (eqb-false k 26 r) (eqb-false k 27 s) (eqb-false k 28 t) (eqb-false k 29 u))

pub declarations_first : (source : List ℕ) (checked : Bool) (at : ℕ) {held : List Declaration → Type 0} → held [] → Turning (more_declarations source checked) (parse_declarations source checked at) held at (length source)
unfolding parse_declarations repeat
declarations_first source checked at h = record { done = []; holds = h; same = refl }

token_none : (source : List ℕ) (checked : Bool) (ds : List Declaration) (t : Token) → begins (kind_number t.kind) ≡ false → as_one_of (declaration_keywords source checked) t (λ parse. some (parse ds t)) (λ _. none) ≡ none
unfolding find
token_none source checked ds t h =
    let o = outside (kind_number t.kind) in
    rw (
      ne_eqb _ 24 (o 24 h (omega arith) (omega arith)),
      ne_eqb _ 25 (o 25 h (omega arith) (omega arith)),
      ne_eqb _ 26 (o 26 h (omega arith) (omega arith)),
      ne_eqb _ 27 (o 27 h (omega arith) (omega arith)),
      ne_eqb _ 28 (o 28 h (omega arith) (omega arith)),
      ne_eqb _ 29 (o 29 h (omega arith) (omega arith)),
      ne_eqb _ 30 (o 30 h (omega arith) (omega arith)),
    )

module _ (source : List ℕ) (checked : Bool) (ds : List Declaration) (t : Token) where
  abbrev Some : Type 0
  Some = as_one_of (declaration_keywords source checked) t (λ parse. some (parse ds t)) (λ _. none) ≡ some (mapped (λ new. ds ++ new) (declaration_in source checked (allocated ds) t))

  some_integer : kind_number t.kind ≡ 24 → Some
  unfolding find declaration_in
  some_integer e = rw e (ap some (global_list source ds ItemKeyword.integer t.next))

  some_constant : kind_number t.kind ≡ 25 → Some
  unfolding find declaration_in
  some_constant e = rw e (ap some (global_list source ds ItemKeyword.constant t.next))

  some_compconstant : kind_number t.kind ≡ 26 → Some
  unfolding find declaration_in
  some_compconstant e = rw e (ap some (global_list source ds ItemKeyword.compconstant t.next))

  some_array : kind_number t.kind ≡ 27 → Some
  unfolding find declaration_in
  some_array e = rw e (ap some (array_list source ds checked t.next))

  some_sector : kind_number t.kind ≡ 28 → Some
  unfolding find declaration_in
  some_sector e =
      rw (
        ne_eqb (kind_number t.kind) 24 (λ q. omega arith),
        ne_eqb (kind_number t.kind) 25 (λ q. omega arith),
        ne_eqb (kind_number t.kind) 26 (λ q. omega arith),
        ne_eqb (kind_number t.kind) 27 (λ q. omega arith),
        eq-eqb (kind_number t.kind) 28 e,
      )
      (ap some (limited_def source ds Declaration.next_sector t))

  some_procedure : kind_number t.kind ≡ 29 → Some
  unfolding find declaration_in
  some_procedure e = rw e (ap some (procedure_def source ds false t.next))

  some_accumulator : kind_number t.kind ≡ 30 → Some
  unfolding find declaration_in
  some_accumulator e = rw e (ap some (accumulator_def source ds t.next))

  token_some : begins (kind_number t.kind) ≡ true → Some
  token_some h = seven (kind_number t.kind) h some_integer some_constant some_compconstant some_array some_sector some_procedure some_accumulator

module _ (source : List ℕ) (checked : Bool) (ds : List Declaration) (at : ℕ) {t : Token} (e : t ≡ token_at source at) where
  pub declaration_none : begins (kind_number t.kind) ≡ false → more_declarations source checked ds at ≡ none
  declaration_none h = rw (← e) (token_none source checked ds t h)

  pub declaration_some : begins (kind_number t.kind) ≡ true → more_declarations source checked ds at ≡ some (mapped (λ new. ds ++ new) (declaration_in source checked (allocated ds) t))
  declaration_some h = rw (← e) (token_some source checked ds t h)

-- with the allocation that the code has
pub declaration_next : (source : List ℕ) (checked : Bool) (u : Token) (plan : SectorEnds) {s s' : code.Allocation} {t t' t'' i i' i'' : List ℕ} {done : List Declaration} {r : Answer code.Allocation} → allocation_of s t ≡ start → Declared (end_of plan) s t i s' t' i' done
    → Allocates s' t' i' plan r t'' i'' (declaration_in source checked (allocation_of s' t') u) → Allocates s t i plan r t'' i'' (mapped (λ new. done ++ new) (declaration_in source checked (allocated done) u))
unfolding allocated
declaration_next source checked u plan {done = done} e p r =
    reads_as (λ new. done ++ new) r (ap (λ st. mapped (λ new. done ++ new) (declaration_in source checked st u)) (sym (p.allocation ∙ ap (λ x. foldl allocate x done) e))) (λ new x d. more_declared p d) (λ w. w)

keyword_none : {kind : ℕ} → (kind ≡ 24 → ⊥) → (kind ≡ 25 → ⊥) → (kind ≡ 26 → ⊥) → none ≡ keyword_of kind
unfolding keyword_of find
keyword_none n m l = rw (ne_eqb _ _ n, ne_eqb _ _ m, ne_eqb _ _ l)

-- ---- The forms, by the token

module _ (source : List ℕ) (checked : Bool) (st : Allocation) (t : Token) where
  pub in_array : kind_number t.kind ≡ Kinds.ARRAY → declaration_in source checked st t ≡ arrays_in source checked st t.next
  unfolding declaration_in
  in_array e = rw e

  pub in_sector : kind_number t.kind ≡ Kinds.NEXTSECTOR → declaration_in source checked st t ≡ limited_in source st Declaration.next_sector t
  unfolding declaration_in
  in_sector e = rw e

  pub in_procedure_lem : kind_number t.kind ≡ Kinds.PROCEDURE → declaration_in source checked st t ≡ procedure_in source st false t.next
  unfolding declaration_in
  in_procedure_lem e = rw e

  pub in_items : (word : ItemKeyword) → some word ≡ keyword_of (kind_number t.kind) → declaration_in source checked st t ≡ items_in source word st t.next
  unfolding declaration_in keyword_of find
  in_items word h = go (eqb (kind_number t.kind) 24) (eqb (kind_number t.kind) 25) (eqb (kind_number t.kind) 26) refl refl refl
    where
      known : (k : ℕ) (w : ItemKeyword) → kind_number t.kind ≡ k → some w ≡ keyword_of k → word ≡ w
      known k w e i = let q : some word ≡ some w = h ∙ ap keyword_of e ∙ sym i in cc

      go : (a b d : Bool) → eqb (kind_number t.kind) 24 ≡ a → eqb (kind_number t.kind) 25 ≡ b → eqb (kind_number t.kind) 26 ≡ d → declaration_in source checked st t ≡ items_in source word st t.next
      go true b d p q r = let e = eqb-true (kind_number t.kind) 24 p in rw (e, known 24 ItemKeyword.integer e refl)
      go false true d p q r = let e = eqb-true (kind_number t.kind) 25 q in rw (e, known 25 ItemKeyword.constant e refl)
      go false false true p q r = let e = eqb-true (kind_number t.kind) 26 r in rw (e, known 26 ItemKeyword.compconstant e refl)
      go false false false p q r = absurd (let w : keyword_of (kind_number t.kind) ≡ none = sym (keyword_none {kind = (kind_number t.kind)} (eqb-false (kind_number t.kind) 24 p) (eqb-false (kind_number t.kind) 25 q) (eqb-false (kind_number t.kind) 26 r)) in let i = h ∙ w in let z : ◌≡◌ {A = ℕ} 0 1 = cc in omega arith)

  pub in_accumulator : none ≡ keyword_of (kind_number t.kind) → (kind_number t.kind ≡ Kinds.ARRAY → ⊥) → (kind_number t.kind ≡ Kinds.NEXTSECTOR → ⊥) → (kind_number t.kind ≡ Kinds.PROCEDURE → ⊥) → declaration_in source checked st t ≡ accumulator_in source st t.next
  unfolding declaration_in keyword_of find
  in_accumulator h a b d =
      rw (ne_eqb (kind_number t.kind) 24 (no ItemKeyword.integer 24 refl), ne_eqb (kind_number t.kind) 25 (no ItemKeyword.constant 25 refl), ne_eqb (kind_number t.kind) 26 (no ItemKeyword.compconstant 26 refl), ne_eqb (kind_number t.kind) 27 a, ne_eqb (kind_number t.kind) 28 b, ne_eqb (kind_number t.kind) 29 d)
    where
      no : (w : ItemKeyword) (k : ℕ) → some w ≡ keyword_of k → kind_number t.kind ≡ k → ⊥
      no w k i e = let q : none ≡ some w = h ∙ ap keyword_of e ∙ sym i in let z : ◌≡◌ {A = ℕ} 0 1 = cc in omega arith

-- ---- The main body

expect_next : {B : Type 0} (kind : ℕ) (source : List ℕ) (at : ℕ) (f : Token → ℕ → Got B) → and_then (expect kind source at) f ≡ and_then (expect kind source at) (λ t _. f t t.next)
unfolding expect and_then fail_at
expect_next {B} kind source at f = go (is kind (token_at source at))
  where
    go : (b : Bool) → and_then (whether b (λ _. got (token_at source at) (token_at source at).next) (λ _. fail_at (token_at source at) 6)) f
        ≡ and_then (whether b (λ _. got (token_at source at) (token_at source at).next) (λ _. fail_at (token_at source at) 6)) (λ t _. f t t.next)
    go true = refl
    go false = refl

pub main_def : (source : List ℕ) (checked : Bool) (ds : List Declaration) (at : ℕ) → parse_main source checked ds at ≡ and_then (main_in source (allocated ds) at) (λ main n. got (record { checked = checked; declarations = ds; main = main }) n)
unfolding parse_main main_in and_then
main_def source checked ds at =
    let done : Stmts → ℕ → Got Program = λ main n. got (record { checked = checked; declarations = ds; main = main }) n in
    into (parse_outermost source (allocated ds).scope.names at) _ done _ (λ main n.
    expect_next Kinds.END source n _
    ∙ into (expect Kinds.END source n) _ done _ (λ last _.
    within_into (main_limit (allocated ds) main) last (and_then (expect Kinds.end_of_source source last.next) (λ _ next. got main next)) _ done
    (into (expect Kinds.end_of_source source last.next) (λ _ next. got main next) done _ (λ _ next. refl))))
