-- Items declared and emitted, one after another.
use Prim.Native.Nat.{ℕ, suc, ◌+◌, ◌*◌, ◌≤◌, ◌<◌}
use mathlib.Core.Path.{◌≡◌, refl, sym, ap, ap₂, ◌∙◌}
use mathlib.Core.List.{List, [], ◌∷◌, ◌++◌, foldl, foldl-append, append_assoc, append-nil}
use native.Mathlib.Omega.{arith}
use lib.ListN.{length-replicate, length, set, take, length-append}
use lib.Seq.{take-take}
use Rattle.tree.specs.Tree.{Name, Item}
use Rattle.tree.specs.Symbols.{Symbol, Scope, words_taken, item_symbol, declare, declare_item, item_value}
use Rattle.source.specs.Tokens.{token_at}
use Rattle.grammar.specs.Parse.{and_then, snoc}
use Rattle.grammar.specs.Parse.Got.{got}
use Rattle.grammar.specs.Declarations.{ItemKeyword, new_name, item_limit, item_from, parse_item, parse_local}
use Rattle.symbols.specs.declared.Packed.{Packed}
use Rattle.symbols.specs.Packing.{unpack}
use Rattle.symbols.specs.Table.{level_of, entry_of, live_names, Entered}
use Rattle.symbols.proofs.Table.{item_level, held_all, entries_kept}
use Rattle.layout.specs.Emission.{stored, item_values, local_values}
use Rattle.declarations.specs.declared.Scope as code
use Rattle.declarations.specs.Scopes.{scope_of, Room, ItemsDeclared}
use Rattle.declarations.specs.Clauses.{Answer, DeclaresItem, DeclaresItems}
use Rattle.parser.proofs.ReadLaws.{reads_as}
use Rattle.declarations.proofs.ParseLaws.{then_inv}
use Rattle.declarations.proofs.NameLaws.{name_room, limit_same}

-- ---- Lists

pub take_less : (m n : ℕ) (a b : List ℕ) → m ≤ n → take n a ≡ take n b → take m a ≡ take m b
take_less m n a b h e = sym (take-take m n a h) ∙ ap (take m) e ∙ take-take m n b h

pub stored_append : (image : List ℕ) (at : ℕ) (us vs : List ℕ) → stored image at (us ++ vs) ≡ stored (stored image at us) (at + length us) vs
unfolding stored
stored_append image at [] vs = ap (λ a. stored image a vs) (omega arith)
stored_append image at (u ∷ us) vs =
    let q : suc at + length us ≡ at + length (u ∷ us) = omega arith in
    stored_append (set image at u) (suc at) us vs ∙ ap (λ a. stored (stored (set image at u) (suc at) us) a vs) q

pub values_append : (xs ys : List (Name × Item)) → local_values (xs ++ ys) ≡ local_values xs ++ local_values ys
unfolding local_values
values_append [] ys = refl
values_append (x ∷ xs) ys = ap (λ l. item_values x.1 ++ l) (values_append xs ys) ∙ sym (append_assoc (item_values x.1) (local_values xs) (local_values ys))

-- ---- Words that items take

pub item_words_lem : (item : Item) → words_taken item ≡ length (item_values item)
unfolding item_values
item_words_lem item = sym (length-replicate (words_taken item) (item_value item))

pub fold_words : (scope : Scope) (items : List (Name × Item)) → (foldl declare_item scope items).taken ≡ scope.taken + length (local_values items)
unfolding declare_item declare local_values
fold_words scope [] = omega arith
fold_words scope (x ∷ xs) =
    let h = fold_words (declare_item scope x) xs in
    let w = item_words_lem x.1 in
    let l = length-append (item_values x.1) (local_values xs) in
    omega (arith, h, w, l)

-- ---- Entries

pub held_more : (n : ℕ) (t u : List ℕ) (name : Packed) (level : ℕ) (symbol : Symbol) → 7 * n + 7 ≤ length t → length u ≡ length t → Entered n t name level symbol u
    → live_names (n + 1) u ≡ (unpack name, entry_of level symbol) ∷ live_names n t
held_more n t u name level symbol room long d =
    held_all (n + 1) u (omega arith) ∙ d.newest (omega arith) ∙ ap (λ l. (unpack name, entry_of level symbol) ∷ l) (sym (held_all n t (omega arith)))

-- the entries below a place that is kept
pub held_kept : (n m : ℕ) (t u : List ℕ) → n ≤ m → 7 * n ≤ length t → length u ≡ length t → take (7 * m) u ≡ take (7 * m) t → live_names n u ≡ live_names n t
held_kept n m t u l room long h = held_all n u (omega arith) ∙ entries_kept n m u t l h ∙ sym (held_all n t room)

-- ---- One item

module _ (s : code.Scope) (t u image after : List ℕ) (name : Packed) (item : Item) (taken : ℕ) where
  pub one_scoped : Room s t → s.names < 512 → length u ≡ length t → Entered s.names t name s.level (item_symbol (scope_of s []) item) u
      → taken ≡ length (item_values item) → taken ≤ 1 → after ≡ stored image (s.base + s.taken) (item_values item)
      → ItemsDeclared s t image (record { names = s.names + 1; level = s.level; taken = s.taken + taken; base = s.base }) u after ((unpack name, item) ∷ [])
  unfolding declare_item declare local_values entry_of
  one_scoped r few long d e small is =
      let S = scope_of s t in
      let room = r.long in
      let each = r.each in
      let names = held_more s.names t u name s.level (item_symbol (scope_of s []) item) (omega arith) long d
      ∙ ap (λ x. (unpack name, record { level = level_of s.level; symbol = x }) ∷ live_names s.names t) (item_level (scope_of s []) S item refl refl) in
      let words : s.taken + taken ≡ s.taken + words_taken item = ap (λ x. s.taken + x) (e ∙ sym (item_words_lem item)) in
      record {
        scope = ap₂ (λ x y. record { names = x; level = level_of s.level; taken = y }) names words;
        room = record { long = omega arith; few = omega arith; each = omega arith };
        level = refl;
        base = refl;
        grows = omega arith;
        kept = d.kept;
        laid = is ∙ ap (stored image (s.base + s.taken)) (sym (append-nil (item_values item)));
      }

-- ---- One after another

pub none_scoped : (s : code.Scope) (t image : List ℕ) → Room s t → ItemsDeclared s t image s t image []
unfolding local_values stored
none_scoped s t image r = record { scope = refl; room = r; level = refl; base = refl; grows = omega arith; kept = refl; laid = refl }

module _ {s s' s'' : code.Scope} {t t' t'' i i' i'' : List ℕ} {xs ys : List (Name × Item)} where
  pub more_scoped : ItemsDeclared s t i s' t' i' xs → ItemsDeclared s' t' i' s'' t'' i'' ys → ItemsDeclared s t i s'' t'' i'' (xs ++ ys)
  more_scoped p q =
      let g = p.grows in
      let h = q.grows in
      let b = p.base in
      let w = ap (λ x. x.taken) p.scope ∙ fold_words (scope_of s t) xs in
      let at : s'.base + s'.taken ≡ (s.base + s.taken) + length (local_values xs) = omega (arith, b, w) in
      record {
        scope = q.scope ∙ ap (λ x. foldl declare_item x ys) p.scope ∙ sym (foldl-append declare_item (scope_of s t) xs ys);
        room = q.room;
        level = q.level ∙ p.level;
        base = q.base ∙ p.base;
        grows = omega (arith, g, h);
        kept = take_less (7 * s.names) (7 * s'.names) t'' t' (omega (arith, g)) q.kept ∙ p.kept;
        laid = q.laid ∙ ap₂ (λ x a. stored x a (local_values ys)) p.laid at ∙ sym (stored_append i (s.base + s.taken) (local_values xs) (local_values ys)) ∙ ap (stored i (s.base + s.taken)) (sym (values_append xs ys));
      }

-- a local after those that are done
pub local_next : (source : List ℕ) (word : ItemKeyword) (at : ℕ) {s s' : code.Scope} {t t' t'' i i' i'' : List ℕ} {done : List (Name × Item)} {r : Answer code.Scope} → ItemsDeclared s t i s' t' i' done
    → DeclaresItem s' t' i' r t'' i'' (parse_item source word (scope_of s' t') at) → DeclaresItems s t i r t'' i'' (parse_local source (scope_of s t) word done at)
unfolding parse_local
local_next source word at {done = done} p r =
    reads_as (snoc done) r (ap (λ z. and_then (parse_item source word z at) (λ item n. got (snoc done item) n)) (sym p.scope)) (λ one x d. more_scoped p d) (λ w. w)

-- ---- A name and its item

pub named_by : (source : List ℕ) (word : ItemKeyword) (s : code.Scope) (table : List ℕ) (at : ℕ) → parse_item source word (scope_of s table) at
    ≡ and_then (new_name source (scope_of s table) (item_limit word (scope_of s [])) (token_at source at)) (item_from source word (scope_of s table))
unfolding parse_item
named_by source word s table at = ap (λ l. and_then (new_name source (scope_of s table) l (token_at source at)) (item_from source word (scope_of s table))) (limit_same word (scope_of s table) (scope_of s []) refl refl)

-- an item that was read had a name's room
pub item_room : (source : List ℕ) (word : ItemKeyword) (scope : Scope) (at : ℕ) {x : Name × Item} {n : ℕ} → parse_item source word scope at ≡ got x n → length scope.names < 512
unfolding parse_item
item_room source word scope at e = name_room source scope (item_limit word scope) (token_at source at) (then_inv _ _ e).2
