-- New names: the failure's number, then the part.
use Prim.Native.Nat.{ℕ, ◌*◌, ◌≤◌, ◌<◌}
use mathlib.Core.Path.{◌≡◌, refl, sym, ap, ◌∙◌}
use mathlib.Core.Bool.{Bool, true, false}
use mathlib.Core.List.{List}
use borrow.Author.Tests.{eq-eqb, le-leb, leb-false}
use lib.Dec.{eqb, leb}
use lib.ListN.{length}
use Rattle.prelude.specs.Choice.{whether}
use Rattle.source.specs.Kinds.{kind_number}
use Rattle.source.specs.Kinds
use Rattle.source.specs.declared.Token.{Token}
use Rattle.source.specs.Tokens.{token_at, name_of}
use Rattle.tree.specs.Tree.{Name}
use Rattle.tree.specs.Symbols.{Scope, is_taken}
use Rattle.grammar.specs.Parse.{Got, and_then, fail_at, within, is}
use Rattle.grammar.specs.Parse.Got.{got}
use Rattle.layout.specs.Limits.{name_limit}
use Rattle.grammar.specs.Declarations.{ItemKeyword, new_name, item_limit}
use Rattle.symbols.specs.declared.Packed.{Packed}
use Rattle.symbols.specs.Packing.{pack_of, unpack}
use Rattle.symbols.specs.Table.{level_of, live_names}
use Rattle.symbols.proofs.Table.{held_all, entries_length}
use Rattle.symbols.proofs.PackedTokens.{name_unpacked}
use Rattle.declarations.specs.Scopes.{name_failure}
use Rattle.parser.proofs.ReadLaws.{never}
use Rattle.declarations.proofs.ParseLaws.{within_then}

-- ---- A new name's failure

pub held_length : (n : ℕ) (table : List ℕ) → 7 * n ≤ length table → length (live_names n table) ≡ n
held_length n table h = ap length (held_all n table h) ∙ entries_length n table

-- a name of the source that is not taken fails where as many are alive as may be
pub too_many :
    (n level taken : ℕ) (table : List ℕ) (number : ℕ) (t : Token) (name : Name) → 7 * n ≤ length table → kind_number t.kind ≡ Kinds.name
    → is_taken (record { names = live_names n table; level = level_of level; taken = 0 }) name ≡ false → 512 ≤ n
    → name_failure (record { names = live_names n table; level = level_of level; taken = taken }) number t name ≡ 10
unfolding name_failure is_taken
too_many n level taken table number t name h k u l = rw (eq-eqb (kind_number t.kind) Kinds.name k, u, held_length n table h, le-leb 512 n l)

-- ---- A new name

module _ (source : List ℕ) (scope : Scope) (limit : ℕ) where
  -- a new name, or its failure at its token
  abbrev judged : Token → Name → Got Name
  judged t name = within (name_failure scope limit t name) t (got name t.next)

  new_within : (t : Token) → new_name source scope limit t ≡ judged t (name_of source t)
  unfolding new_name name_failure within
  new_within t = go (is Kinds.name t) (is_taken scope (name_of source t)) (leb 512 (length scope.names))
    where
      end : Got Name
      end = got (name_of source t) t.next

      number : Bool → Bool → Bool → ℕ
      number a b c = whether a (λ _. whether b (λ _. 8) λ _. whether c (λ _. 10) λ _. limit) (λ _. 6)

      go : (a b c : Bool)
          → whether a (λ _. whether b (λ _. fail_at t 8) λ _. whether c (λ _. fail_at t 10) λ _. whether (eqb limit 0) (λ _. end) (λ _. fail_at t limit)) (λ _. fail_at t 6)
          ≡ whether (eqb (number a b c) 0) (λ _. end) (λ _. fail_at t (number a b c))
      go true true c = refl
      go true false true = refl
      go true false false = refl
      go false b c = refl

  -- what is no name fails with 6, whatever its characters
  is_six : (t : Token) → eqb (kind_number t.kind) Kinds.name ≡ false → (name other : Name) → judged t name ≡ judged t other
  unfolding within name_failure
  is_six t k name other = rw k

  pub new_is : (at : ℕ) {t : Token} {p : Packed} → t ≡ token_at source at → p ≡ pack_of (name_of source t)
      → new_name source scope limit (token_at source at) ≡ and_then (within (name_failure scope limit t (unpack p)) t (got t t.next)) (λ _ n. got (unpack p) n)
  unfolding and_then
  new_is at {t} {p} e q =
      let u = token_at source at in
      new_within u
      ∙ sym (go (eqb (kind_number u.kind) Kinds.name) refl)
      ∙ ap (λ x. judged x (unpack p)) (sym e)
      ∙ sym (within_then (name_failure scope limit t (unpack p)) t (got t t.next) (λ _ n. got (unpack p) n))
    where
      go : (b : Bool) → eqb (kind_number (token_at source at).kind) Kinds.name ≡ b → judged (token_at source at) (unpack p) ≡ judged (token_at source at) (name_of source (token_at source at))
      go true k = ap (judged (token_at source at)) (ap unpack (q ∙ ap (λ x. pack_of (name_of source x)) e) ∙ name_unpacked source at k)
      go false k = is_six (token_at source at) k _ _

  -- a name that was read is not the 513th, and has its word
  pub name_room : (t : Token) {v : Name} {n : ℕ} → new_name source scope limit t ≡ got v n → length scope.names < 512
  unfolding new_name fail_at
  name_room t {v} {n} h = go (is Kinds.name t) (is_taken scope (name_of source t)) (leb 512 (length scope.names)) refl h
    where
      go : (a b c : Bool) → leb 512 (length scope.names) ≡ c
          → whether a (λ _. whether b (λ _. fail_at t 8) λ _. whether c (λ _. fail_at t 10) λ _. within limit t (got (name_of source t) t.next)) (λ _. fail_at t 6) ≡ got v n
          → length scope.names < 512
      go true true c e k = absurd (never k refl)
      go true false true e k = absurd (never k refl)
      go true false false e k = leb-false _ _ e
      go false b c e k = absurd (never k refl)

-- it does not turn on the names
pub limit_same : (word : ItemKeyword) (s u : Scope) → s.level ≡ u.level → s.taken ≡ u.taken → item_limit word s ≡ item_limit word u
unfolding item_limit name_limit
limit_same ItemKeyword.integer s u p q = rw (p, q)
limit_same ItemKeyword.constant s u p q = rw (p, q)
limit_same ItemKeyword.compconstant s u p q = refl

pub ruleset for_name_failure = (held_length)
