-- Lists read with what stands before them, and without; and lists of locals, one after another.
use Prim.Native.Nat.{ℕ, zero, suc}
use mathlib.Core.Path.{◌≡◌, refl, ap, ◌∙◌, sym}
use mathlib.Core.Bool.{Bool, true, false}
use mathlib.Core.List.{List, [], ◌∷◌, ◌++◌, foldl, foldl-append, append_assoc, append-nil}
use mathlib.Core.Option.{Option, none, some}
use lib.ListN.{length}
use lib.Dec.{eqb}
use Rattle.prelude.specs.Choice.{whether, given, find}
use Rattle.source.specs.Kinds.{kind_number}
use Rattle.source.specs.Kinds
use Rattle.source.specs.declared.Token.{Token}
use Rattle.source.specs.Tokens.{token_at}
use Rattle.grammar.specs.Parse.{Got, and_then, is, expect, repeat_by, repeat, more_separated, separated, snoc}
use Rattle.grammar.specs.Parse.Got.{got, failed}
use Rattle.grammar.specs.Declarations.{parse_list, ItemKeyword, item_keywords, parse_item, parse_local, more_locals, parse_locals}
use Rattle.parser.proofs.ReadLaws.{Turning, reads_as}
use Rattle.tree.specs.Tree.{Name, Item}
use Rattle.tree.specs.Symbols.{Scope, declare_item}
use Rattle.declarations.specs.declared.Scope as code
use Rattle.declarations.specs.Clauses.{Answer, DeclaresItems}
use Rattle.declarations.specs.Scopes.{scope_of, keyword_of, ItemsDeclared}
use Rattle.declarations.proofs.ScopeLaws.{more_scoped}

-- the same result, with what was read put otherwise
abbrev pub mapped : {A B : Type 0} → (A → B) → Got A → Got B
mapped f g = and_then g (λ x n. got (f x) n)

-- one step after another, each put otherwise
pub then_mapped : {A B C : Type 0} (f : B → C) (x : Got A) (g : A → ℕ → Got B) (g' : A → ℕ → Got C) → ((a : A) (n : ℕ) → g' a n ≡ mapped f (g a n)) → and_then x g' ≡ mapped f (and_then x g)
unfolding and_then
then_mapped f (got a n) g g' h = h a n
then_mapped f (failed k a) g g' h = refl

module _ {A B : Type 0} (f : A → B) where
  pub map_repeat : (m : A → ℕ → Option (Got A)) (m' : B → ℕ → Option (Got B)) → ((a : A) (n : ℕ) → m' (f a) n ≡ given (m a n) (λ g. some (mapped f g)) (λ _. none))
      → (k : ℕ) (a : A) (at : ℕ) → repeat_by m' k (f a) at ≡ mapped f (repeat_by m k a at)
  unfolding repeat_by and_then
  map_repeat m m' h zero a at = refl
  map_repeat m m' h (suc k) a at = ap (λ o. given o (λ g. and_then g (λ l n. repeat_by m' k l n)) (λ _. got (f a) at)) (h a at) ∙ go (map_repeat m m' h k) (m a at)
    where
      step : ((x : A) (n : ℕ) → repeat_by m' k (f x) n ≡ mapped f (repeat_by m k x n)) → (g : Got A) → and_then (mapped f g) (λ l n. repeat_by m' k l n) ≡ mapped f (and_then g (λ l n. repeat_by m k l n))
      step ih (got x n) = ih x n
      step ih (failed j b) = refl

      go : ((x : A) (n : ℕ) → repeat_by m' k (f x) n ≡ mapped f (repeat_by m k x n)) → (o : Option (Got A))
          → given (given o (λ g. some (mapped f g)) (λ _. none)) (λ g. and_then g (λ l n. repeat_by m' k l n)) (λ _. got (f a) at)
          ≡ mapped f (given o (λ g. and_then g (λ l n. repeat_by m k l n)) (λ _. got a at))
      go ih none = refl
      go ih (some g) = step ih g

  module _ (source : List ℕ) (more : A → ℕ → Got A) (more' : B → ℕ → Got B) (h : (a : A) (n : ℕ) → more' (f a) n ≡ mapped f (more a n)) where
    sep : (separator : ℕ) (a : A) (n : ℕ) → more_separated source separator more' (f a) n ≡ given (more_separated source separator more a n) (λ g. some (mapped f g)) (λ _. none)
    sep separator a n = go (is separator (token_at source n))
      where
        go : (b : Bool) → whether b (λ _. some (more' (f a) (token_at source n).next)) (λ _. none) ≡ given (whether b (λ _. some (more a (token_at source n).next)) (λ _. none)) (λ g. some (mapped f g)) (λ _. none)
        go true = ap some (h a (token_at source n).next)
        go false = refl

    pub map_separated : (separator : ℕ) (a : A) (at : ℕ) → separated source separator (more' (f a)) more' at ≡ mapped f (separated source separator (more a) more at)
    unfolding separated repeat and_then
    map_separated separator a at = ap (λ g. and_then g (λ one next. repeat_by (more_separated source separator more') (length source) one next)) (h a at) ∙ go (more a at)
      where
        go : (g : Got A) → and_then (mapped f g) (λ one next. repeat_by (more_separated source separator more') (length source) one next)
            ≡ mapped f (and_then g (λ one next. repeat_by (more_separated source separator more) (length source) one next))
        go (got x n) = map_repeat (more_separated source separator more) (more_separated source separator more') (sep separator) (length source) x n
        go (failed k b) = refl

    pub map_list : (a : A) (at : ℕ) → parse_list source more' (f a) at ≡ mapped f (parse_list source more a at)
    unfolding parse_list and_then
    map_list a at = ap (λ g. and_then g (λ longer n. and_then (expect Kinds.semicolon source n) (λ _ next. got longer next))) (map_separated Kinds.comma a at) ∙ go (separated source Kinds.comma (more a) more at)
      where
        last : (x : A) (e : Got Token) → and_then e (λ _ next. got (f x) next) ≡ mapped f (and_then e (λ _ next. got x next))
        last x (got t n) = refl
        last x (failed k b) = refl

        go : (g : Got A) → and_then (mapped f g) (λ longer n. and_then (expect Kinds.semicolon source n) (λ _ next. got longer next)) ≡ mapped f (and_then g (λ longer n. and_then (expect Kinds.semicolon source n) (λ _ next. got longer next)))
        go (got x n) = last x (expect Kinds.semicolon source n)
        go (failed k b) = refl

-- ---- The word of a token

as_word : {B : Type 0} (kind : ℕ) (f : ItemKeyword → B) (g : Unit {0} → B) → given (find (eqb kind) item_keywords) (λ row. f row.1) g ≡ given (keyword_of kind) f g
unfolding keyword_of
as_word {B} kind f g = go (find (eqb kind) item_keywords)
  where
    go : (o : Option (ℕ × ItemKeyword)) → given o (λ row. f row.1) g ≡ given (given o (λ row. some row.1) (λ _. none)) f g
    go none = refl
    go (some row) = refl

-- ---- Another list of locals

pub locals_first : (source : List ℕ) (scope : Scope) (at : ℕ) {held : List (Name × Item) → Type 0} → held [] → Turning (more_locals source scope) (parse_locals source scope at) held at (length source)
unfolding parse_locals repeat
locals_first source scope at h = record { done = []; holds = h; same = refl }

module _ (source : List ℕ) (scope : Scope) (done : List (Name × Item)) (at : ℕ) {t : Token} (e : t ≡ token_at source at) where
  pub local_none : none ≡ keyword_of (kind_number t.kind) → more_locals source scope done at ≡ none
  local_none h = as_word (kind_number (token_at source at).kind) _ _ ∙ rw (← e, ← h)

  pub local_some : {word : ItemKeyword} → some word ≡ keyword_of (kind_number t.kind) → more_locals source scope done at ≡ some (parse_list source (parse_local source scope word) done t.next)
  local_some h = as_word (kind_number (token_at source at).kind) _ _ ∙ rw (← e, ← h)

-- a list after those that are done
module _ (source : List ℕ) (scope : Scope) (word : ItemKeyword) (done : List (Name × Item)) where
  one_more : (a : List (Name × Item)) (n : ℕ) → parse_local source scope word (done ++ a) n ≡ mapped (λ items. done ++ items) (parse_local source (foldl declare_item scope done) word a n)
  unfolding parse_local and_then
  one_more a n =
      ap (λ s. and_then (parse_item source word s n) (λ item next. got (snoc (done ++ a) item) next)) (foldl-append declare_item scope done a)
      ∙ then_mapped (λ items. done ++ items) (parse_item source word (foldl declare_item (foldl declare_item scope done) a) n) (λ item next. got (snoc a item) next) (λ item next. got (snoc (done ++ a) item) next)
      (λ x m. ap (λ l. got l m) (append_assoc done a (x ∷ [])))

  list_more : (at : ℕ) → parse_list source (parse_local source scope word) done at ≡ mapped (λ items. done ++ items) (parse_list source (parse_local source (foldl declare_item scope done) word) [] at)
  list_more at =
      ap (λ d. parse_list source (parse_local source scope word) d at) (sym (append-nil done))
      ∙ map_list (λ items. done ++ items) source (parse_local source (foldl declare_item scope done) word) (parse_local source scope word) one_more [] at

pub locals_next : (source : List ℕ) (word : ItemKeyword) (at : ℕ) {s s' : code.Scope} {t t' t'' i i' i'' : List ℕ} {done : List (Name × Item)} {r : Answer code.Scope} → ItemsDeclared s t i s' t' i' done
    → DeclaresItems s' t' i' r t'' i'' (parse_list source (parse_local source (scope_of s' t') word) [] at) → DeclaresItems s t i r t'' i'' (parse_list source (parse_local source (scope_of s t) word) done at)
locals_next source word at {s} {t = t} {done = done} p r =
    reads_as (λ items. done ++ items) r (list_more source (scope_of s t) word done at ∙ ap (λ z. mapped (λ items. done ++ items) (parse_list source (parse_local source z word) [] at)) (sym p.scope)) (λ items x d. more_scoped p d) (λ w. w)
