-- Declarations and the main body.
use Prim.Native.Nat.{ℕ, ◌+◌, ◌≤◌, ◌<◌}
use mathlib.Core.Path.{◌≡◌, refl}
use mathlib.Core.Bool.{Bool, true, false}
use mathlib.Core.List.{List, [], ◌∷◌, ◌++◌, foldl}
use native.Mathlib.Omega.{arith}
use lib.Dec.{leb, ltb}
use lib.ListN.{length, length-append}
use borrow.Author.Tests.{eqb-true, leb-true, ltb-true}
use Rattle.source.specs.Kinds.{kind_number}
use Rattle.source.specs.Kinds
use Rattle.source.specs.declared.Token.{Token}
use Rattle.source.specs.Tokens.{token_at, name_of}
use Rattle.tree.specs.Tree.{Name, Item, Declaration}
use Rattle.tree.specs.Symbols.{Level, Names, Scope, declare_item, local_scope, is_taken}
use Rattle.layout.specs.Allocation.{allocated, local_words}
use Rattle.layout.specs.Limits.{word_limit, name_limit, declaration_limit}
use Rattle.grammar.specs.Parse.{Got, is}
use Rattle.grammar.specs.Declarations.{new_name, ItemKeyword, item_keywords, item_limit, size_of, parse_value, item_from, parse_item, parse_list, parse_local, parse_locals, parse_global, parse_initial, parse_initials, parse_array, parse_limited, parse_procedure, parse_accumulator, declaration_keywords, parse_checked, parse_declarations}
use Rattle.grammar.specs.Program.{parse_main}
use Rattle.parsing_laws.specs.WellFormed.{All, Context, Kind, item_kinds, kinds_of, ValueOk, LocalsOk, WordsOk, DeclarationOk, DeclarationsOk, none, more, Flagged, WellFormed}
use Rattle.parsing_laws.proofs.Parsed.Choices.{choice, Some, there, nothing, Rows, last, row, one_of, row_of}
use Rattle.parsing_laws.proofs.Parsed.Words.{IsWord}
use Rattle.parsing_laws.proofs.Parsed.Parts.{Parsed, fine, Parses, Any, Limit, Ended, Held, token_held, begun, fails, not_allowed, either, and_then_lem, expected, skipped, limited, repeated, some_separated}
use Rattle.parsing_laws.proofs.Parsed.Limits.{passed, name_limit_lem, array_limit, declaration_limit_lem, main_limit_lem}
use Rattle.parsing_laws.proofs.Parsed.Names.{NamesOk}
use Rattle.parsing_laws.proofs.Parsed.Forms.{all_snoc, constants, judged, in_range}
use Rattle.parsing_laws.proofs.Parsed.Statements.{outermost}
use Rattle.parsing_laws.proofs.Parsed.Scopes.{outer, declared}
use Rattle.parsing_laws.proofs.Parsed.Locals.{body_names}

item_limit_lem : (word : ItemKeyword) (sc : Scope) → Limit (item_limit word sc)
unfolding item_limit
item_limit_lem ItemKeyword.integer sc = name_limit_lem sc
item_limit_lem ItemKeyword.constant sc = name_limit_lem sc
item_limit_lem ItemKeyword.compconstant sc = passed

-- 11 passes: there is a word left
room : (sc : Scope) → sc.level ≡ Level.outer → name_limit sc ≡ 0 → sc.taken < 384
unfolding name_limit word_limit
room sc e z =
    choice (λ (n : ℕ). n ≡ 0 → sc.taken < 384) (ltb sc.taken 384) 0 11 (λ h _. ltb-true sc.taken 384 h) (λ h y. absurd (omega arith)) (rw e at z)

-- an item of the declared sort, with its value, whose name is within the limit
abbrev ItemOk : Scope → Name × Item → Type 0
ItemOk sc item = ValueOk item.1 × (sc.level ≡ Level.outer → sc.taken ≤ 384 → sc.taken + length (item_kinds item.1) ≤ 384)

-- no more values than the size
abbrev ValuesOk : ℕ → List ℕ → Type 0
ValuesOk size values = (length values ≤ size) × WordsOk values

-- declarations that hold, and whose arrays have the program's flag
abbrev Read : Bool → List Declaration → Type 0
Read checked ds = DeclarationsOk ds × All (Flagged checked) ds

module _ (source : List ℕ) where
  -- a new name is within its limit
  new_name_lem : (sc : Scope) (limit : ℕ) → Limit limit → {t : Token} → Held source t → Parsed source (λ (n : Name). limit ≡ 0) (new_name source sc limit t)
  unfolding new_name
  new_name_lem sc limit l {t = t} i =
      either (is Kinds.name t)
      (λ e. let b = begun (eqb-true (kind_number t.kind) Kinds.name e) in
      either (is_taken sc (name_of source t)) (λ e. fails i 8 b (omega arith) (omega arith))
      (λ e. either (leb 512 (length sc.names)) (λ e. fails i 10 b (omega arith) (omega arith))
      (λ e. limited l i b (λ z. fine z i.after))))
      (λ e. not_allowed i)

  -- ---- Integers, constants and compconstants

  module _ (sc : Scope) (x : Context) (known : NamesOk x sc.names) where
    values : (name : Name) (item : ℕ → Item) → ((v : ℕ) → IsWord v → ItemOk sc (name, item v)) → Parses source (ItemOk sc) (parse_value source sc name item)
    unfolding parse_value
    values name item k at h = skipped Kinds.equal h (λ n h. and_then_lem (constants source x known n h) (λ v p m h. fine (k v p) h))

    items_from : (word : ItemKeyword) (name : Name) → item_limit word sc ≡ 0 → Parses source (ItemOk sc) (item_from source word sc name)
    unfolding item_from item_limit
    items_from ItemKeyword.integer name z at h = fine {t = (name, Item.integer)} (tt, λ e f. let r = room sc e z in omega arith) h
    items_from ItemKeyword.constant name z at h = values name Item.constant (λ v p. (p, λ e f. let r = room sc e z in omega arith)) at h
    items_from ItemKeyword.compconstant name z at h = values name Item.compconstant (λ v p. (p, λ e f. omega arith)) at h

    items : (word : ItemKeyword) → Parses source (ItemOk sc) (parse_item source word sc)
    unfolding parse_item
    items word at h = and_then_lem (new_name_lem sc (item_limit word sc) (item_limit_lem word sc) (token_held source h)) (items_from word)

  -- a list whose items each keep what holds of those before
  lists : {A : Type 0} {P : A → Type 0} {add : A → ℕ → Got A} → ((done : A) → P done → Parses source P (add done)) → (done : A) → P done → Parses source P (parse_list source add done)
  unfolding parse_list
  lists {add = add} k done p at h =
      and_then_lem (some_separated Kinds.comma (add done) add (k done p) k at h) (λ longer q n h. skipped Kinds.semicolon h (λ m h. fine q h))

  module _ (ks : List Kind) (sc : Scope) (name : Name) (known : NamesOk (outer ks) sc.names) where
    local_items_lem : (word : ItemKeyword) (done : List (Name × Item)) → LocalsOk done → Parses source LocalsOk (parse_local source (local_scope sc name) word done)
    unfolding parse_local
    local_items_lem word done p at h =
        and_then_lem (items (foldl declare_item (local_scope sc name) done) _ (body_names ks sc name done known p) word at h)
        (λ item q n h. fine (all_snoc _ done item p q.0) h)

    locals : Parses source LocalsOk (parse_locals source (local_scope sc name))
    unfolding parse_locals
    locals =
        repeated _ (λ done p n h. one_of (Some (Parsed source LocalsOk)) item_keywords (token_at source n) _ _
        (λ word. there (lists (local_items_lem word) done p (token_at source n).next (token_held source h).after)) nothing) [] tt

  -- ---- Declarations

  module _ (x : Context) {names : Names} (known : NamesOk x names) (size : ℕ) where
    initial : (values : List ℕ) → ValuesOk size values → Parses source (ValuesOk size) (parse_initial source names size values)
    unfolding parse_initial
    initial values p at h =
        judged source x known h (λ b v q n k. either (ltb (length values) size)
        (λ e. let l = ltb-true (length values) size e in fine (simp length-append (omega arith), all_snoc _ values v p.1 q) k)
        (λ e. fails (token_held source h) 14 b (omega arith) (omega arith)))

    initials : Parses source (ValuesOk size) (parse_initials source names size)
    unfolding parse_initials
    initials at h =
        let t = token_at source at in
        either (is Kinds.left_parenthesis t)
        (λ e. and_then_lem (some_separated Kinds.comma _ _ (initial [] (omega arith, tt)) initial t.next (token_held source h).after)
        (λ values p n h. skipped Kinds.right_parenthesis h (λ m h. fine p h)))
        (λ e. fine (omega arith, tt) h)

  -- `.CHECKED`, of which nothing need hold
  pub flags : Parses source Any (parse_checked source)
  unfolding parse_checked
  flags at h = let t = token_at source at in either (is Kinds.CHECKED t) (λ e. skipped Kinds.semicolon (token_held source h).after (λ n h. fine tt h)) (λ e. fine tt h)

  module _ (checked : Bool) where
    read_more : (ds : List Declaration) (d : Declaration) → Read checked ds → DeclarationOk (allocated ds) (kinds_of ds) d → Flagged checked d → Read checked (ds ++ (d ∷ []))
    read_more ds d r ok flag = (more ds d r.0 ok, all_snoc _ ds d r.1 flag)

    globals : (word : ItemKeyword) (ds : List Declaration) → Read checked ds → Parses source (Read checked) (parse_global source word ds)
    unfolding parse_global
    globals word ds d at h =
        let k = declared d.0 in
        and_then_lem (items (allocated ds).scope _ k.names word at h)
        (λ item p n h. fine (read_more ds (Declaration.item item.0 item.1) d (p.0, p.1 k.level k.few) tt) h)

    arrays : (ds : List Declaration) → Read checked ds → Parses source (Read checked) (parse_array source checked ds)
    unfolding parse_array
    arrays ds d at h =
        let k = declared d.0 in
        let st = allocated ds in
        and_then_lem (new_name_lem st.scope (name_limit st.scope) (name_limit_lem st.scope) (token_held source h)) (λ name z n h.
        skipped Kinds.left_bracket h (λ m h.
        and_then_lem (in_range source _ k.names (λ v. leb (size_of v) 8192) m h) (λ v q l h.
        expected Kinds.right_bracket h (λ t i e j h.
        limited (array_limit st (size_of v)) i (begun e) (λ y.
        and_then_lem (initials _ k.names (size_of v) j h) (λ values p r h.
        fine (read_more ds (Declaration.array name (size_of v) checked values) d (omega (arith, room st.scope k.level z), leb-true (size_of v) 8192 q, p.0, p.1, y) refl) h))))))

    -- a declaration that is judged at its last token
    judged_declaration : (ds : List Declaration) (d : Declaration) → Read checked ds → Flagged checked d
        → (declaration_limit (allocated ds) d ≡ 0 → DeclarationOk (allocated ds) (kinds_of ds) d) → {t : Token} → Held source t → (Ended t → ⊥) → Parsed source (Read checked) (parse_limited source ds d t)
    unfolding parse_limited
    judged_declaration ds d p flag k i b = limited (declaration_limit_lem (allocated ds) d) i b (λ z. skipped Kinds.semicolon i.after (λ n h. fine (read_more ds d p (k z) flag) h))

    procedures : (ds : List Declaration) (accumulator : Bool) → Read checked ds → Parses source (Read checked) (parse_procedure source ds accumulator)
    unfolding parse_procedure local_words
    procedures ds accumulator d at h =
        let k = declared d.0 in
        let sc = (allocated ds).scope in
        and_then_lem (new_name_lem sc (name_limit sc) (name_limit_lem sc) (token_held source h)) (λ name z n h.
        skipped Kinds.semicolon h (λ m h.
        skipped Kinds.BEGIN h (λ l h.
        and_then_lem (locals (kinds_of ds) sc name k.names l h) (λ ls p j h.
        and_then_lem (outermost source _ (body_names (kinds_of ds) sc name ls k.names p) j h) (λ body q r h.
        expected Kinds.END h (λ t i e _ _.
        judged_declaration ds (Declaration.procedure name accumulator ls body) d tt (λ y. (room sc k.level z, p, q, y)) i (begun e)))))))

    accumulators : (ds : List Declaration) → Read checked ds → Parses source (Read checked) (parse_accumulator source ds)
    unfolding parse_accumulator
    accumulators ds d at h = skipped Kinds.PROCEDURE h (procedures ds true d)

    -- what each declaration word begins, at a token of its kind
    abbrev ParserOk : ℕ → (List Declaration → Token → Got (List Declaration)) → Type 0
    ParserOk kind parse = (ds : List Declaration) → Read checked ds → (t : Token) → Held source t → kind_number t.kind ≡ kind → Parsed source (Read checked) (parse ds t)

    word_rows : Rows ParserOk (declaration_keywords source checked)
    word_rows =
        row (λ ds d t i e. lists (globals ItemKeyword.integer) ds d t.next i.after)
        (row (λ ds d t i e. lists (globals ItemKeyword.constant) ds d t.next i.after)
        (row (λ ds d t i e. lists (globals ItemKeyword.compconstant) ds d t.next i.after)
        (row (λ ds d t i e. lists arrays ds d t.next i.after)
        (row (λ ds d t i e. judged_declaration ds Declaration.next_sector d tt (λ z. z) i (begun e))
        (row (λ ds d t i e. procedures ds false d t.next i.after)
        (row (λ ds d t i e. accumulators ds d t.next i.after)
        last))))))

    pub declarations : Parses source (Read checked) (parse_declarations source checked)
    unfolding parse_declarations
    declarations =
        repeated _ (λ ds d n h. row_of (Some (Parsed source (Read checked))) (token_at source n) _ _ word_rows
        (λ parse p. there (p ds d (token_at source n) (token_held source h) refl)) nothing) [] (none, tt)

    pub mains : (ds : List Declaration) → Read checked ds → Parses source WellFormed (parse_main source checked ds)
    unfolding parse_main
    mains ds d at h =
        and_then_lem (outermost source _ (declared d.0).names at h) (λ main p n h.
        expected Kinds.END h (λ t i e m h.
        limited (main_limit_lem (allocated ds) main) i (begun e) (λ z.
        skipped Kinds.end_of_source h (λ l h. fine (record { declarations = d.0; flags = d.1; main = p; fits = z }) h))))
