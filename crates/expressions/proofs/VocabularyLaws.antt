-- Looking a token's kind up: what the answer says of the definitions' tables.
use Prim.Native.Nat.{ℕ, zero, suc, ◌+◌, ◌-◌, ◌<◌, ◌≤◌}
use mathlib.Core.Path.{◌≡◌, refl, sym, ap, ◌∙◌}
use mathlib.Core.Bool.{Bool, true, false}
use mathlib.Core.List.{List}
use mathlib.Core.Option.{Option as Found, none, some}
use native.Mathlib.Omega.{arith}
use borrow.Author.Tests.{ne_eqb}
use lib.Dec.{eqb}
use Rattle.std.specs.Prelude.{Option, Some, None}
use Rattle.prelude.specs.Choice.{find, given}
use Rattle.source.specs.Kinds.{kind_number}
use Rattle.source.specs.Kinds
use Rattle.source.specs.declared.Token.{Token}
use Rattle.grammar.specs.Vocabulary.{unaries, operators, shifts, relations, tests, bares, as_one_of}
use Rattle.layout.specs.Words.{operator_opcode, shift_kind, test_slot, bare_slot}
use Rattle.expressions.specs.Vocabulary.{looked_up, stands_in, last_slot}

-- ---- What an answer says

no_some : {A : Type 0} {x : A} → None ≡ Some x → ⊥
no_some e = let z : ◌≡◌ {A = ℕ} 0 1 = cc in omega (arith, z)

module _ {A : Type 0} (table : List (ℕ × A)) (number : A → ℕ) where
  -- the row that was found
  pub record Row (kind n : ℕ) : Type 0 where
    pub row : ℕ × A
    pub is : n ≡ number row.1
    pub found : find (eqb kind) table ≡ some row

  pub as_row : (kind : ℕ) {n : ℕ} {r : Option ℕ} → r ≡ looked_up table number kind → r ≡ Some n → Row kind n
  unfolding looked_up
  as_row kind {n} e h = go (find (eqb kind) table) refl (sym h ∙ e)
    where
      go : (o : Found (ℕ × A)) → find (eqb kind) table ≡ o → Some n ≡ given o (λ row. Some (number row.1)) (λ _. None) → Row kind n
      go none q k = absurd (no_some (sym k))
      go (some r) q k = record { row = r; is = cc; found = q }

  pub as_some : {B : Type 0} {n : ℕ} (t : Token) (f : A → B) (g : Unit {0} → B) (r : Row (kind_number t.kind) n) → as_one_of table t f g ≡ f r.row.1
  as_some t f g r = ap (λ o. given o (λ row. f row.1) g) r.found

  pub as_none : {B : Type 0} (t : Token) (f : A → B) (g : Unit {0} → B) {r : Option ℕ} → r ≡ looked_up table number (kind_number t.kind) → r ≡ None → as_one_of table t f g ≡ g tt
  unfolding looked_up
  as_none {B} t f g e h = go (find (eqb (kind_number t.kind)) table) (sym h ∙ e)
    where
      go : (o : Found (ℕ × A)) → None ≡ given o (λ row. Some (number row.1)) (λ _. None) → given o (λ row. f row.1) g ≡ g tt
      go none k = refl
      go (some r) k = absurd (no_some k)

module _ {A : Type 0} (table : List (ℕ × A)) where
  -- the row of a kind that stands in the table
  pub record Standing (kind : ℕ) : Type 0 where
    pub row : ℕ × A
    pub found : find (eqb kind) table ≡ some row

  pub standing : (kind : ℕ) {b : Bool} → b ≡ stands_in table kind → b ≡ true → Standing kind
  unfolding stands_in
  standing kind e h = go (find (eqb kind) table) refl (sym h ∙ e)
    where
      go : (o : Found (ℕ × A)) → find (eqb kind) table ≡ o → true ≡ given o (λ _. true) (λ _. false) → Standing kind
      go none q k = absurd (let z : ◌≡◌ {A = ℕ} 0 1 = cc in omega (arith, z))
      go (some r) q k = record { row = r; found = q }

  pub as_standing : {B : Type 0} (t : Token) (f : A → B) (g : Unit {0} → B) (r : Standing (kind_number t.kind)) → as_one_of table t f g ≡ f r.row.1
  as_standing t f g r = ap (λ o. given o (λ row. f row.1) g) r.found

  pub not_standing : {B : Type 0} (t : Token) (f : A → B) (g : Unit {0} → B) {b : Bool} → b ≡ stands_in table (kind_number t.kind) → b ≡ false → as_one_of table t f g ≡ g tt
  unfolding stands_in
  not_standing {B} t f g e h = go (find (eqb (kind_number t.kind)) table) (sym h ∙ e)
    where
      go : (o : Found (ℕ × A)) → false ≡ given o (λ _. true) (λ _. false) → given o (λ row. f row.1) g ≡ g tt
      go none k = refl
      go (some r) k = absurd (let z : ◌≡◌ {A = ℕ} 0 1 = cc in omega (arith, z))

-- ---- The code's tables

module _ (kind : ℕ) where
  -- at no row's
  pub no_unary :
      (kind ≡ Kinds.ADDC → ⊥) → (kind ≡ Kinds.INC → ⊥) → (kind ≡ Kinds.NEG → ⊥) → (kind ≡ Kinds.SSP → ⊥) → (kind ≡ Kinds.SSM → ⊥) → (kind ≡ Kinds.CHS → ⊥) → (kind ≡ Kinds.CSA → ⊥)
      → (kind ≡ Kinds.NOT → ⊥) → (kind ≡ Kinds.ICLEFT → ⊥) → (kind ≡ Kinds.CLEFT → ⊥) → (kind ≡ Kinds.SWOP → ⊥) → (kind ≡ Kinds.ICRIGHT → ⊥) → (kind ≡ Kinds.CRIGHT → ⊥) → (kind ≡ Kinds.ABS → ⊥)
      → None ≡ looked_up unaries last_slot kind
  unfolding looked_up find
  no_unary a b c d e f g h i j k l m n =
      simp (ne_eqb _ _ a, ne_eqb _ _ b, ne_eqb _ _ c, ne_eqb _ _ d, ne_eqb _ _ e, ne_eqb _ _ f, ne_eqb _ _ g, ne_eqb _ _ h, ne_eqb _ _ i, ne_eqb _ _ j, ne_eqb _ _ k, ne_eqb _ _ l, ne_eqb _ _ m, ne_eqb _ _ n)

  pub no_shift_word : (kind ≡ Kinds.LGR → ⊥) → (kind ≡ Kinds.ARS → ⊥) → (kind ≡ Kinds.ARR → ⊥) → (kind ≡ Kinds.LGL → ⊥) → (kind ≡ Kinds.ALS → ⊥) → (kind ≡ Kinds.ALR → ⊥) → None ≡ looked_up shifts shift_kind kind
  unfolding looked_up find
  no_shift_word a b c d e f = simp (ne_eqb _ _ a, ne_eqb _ _ b, ne_eqb _ _ c, ne_eqb _ _ d, ne_eqb _ _ e, ne_eqb _ _ f)

  pub no_bare :
      (kind ≡ Kinds.CSET → ⊥) → (kind ≡ Kinds.NOTC → ⊥) → (kind ≡ Kinds.SENSE1 → ⊥) → (kind ≡ Kinds.SENSE2 → ⊥) → (kind ≡ Kinds.SENSE3 → ⊥) → (kind ≡ Kinds.SENSE4 → ⊥) → (kind ≡ Kinds.ANYKEY → ⊥) → (kind ≡ Kinds.NOKEY → ⊥)
      → None ≡ looked_up bares bare_slot kind
  unfolding looked_up find
  no_bare a b c d e f g h = simp (ne_eqb _ _ a, ne_eqb _ _ b, ne_eqb _ _ c, ne_eqb _ _ d, ne_eqb _ _ e, ne_eqb _ _ f, ne_eqb _ _ g, ne_eqb _ _ h)

  pub no_test : (kind ≡ Kinds.ZERO → ⊥) → (kind ≡ Kinds.NONZERO → ⊥) → (kind ≡ Kinds.PLUS → ⊥) → (kind ≡ Kinds.MINUS → ⊥) → (kind ≡ Kinds.ODD → ⊥) → (kind ≡ Kinds.EVEN → ⊥) → None ≡ looked_up tests test_slot kind
  unfolding looked_up find
  no_test a b c d e f = simp (ne_eqb _ _ a, ne_eqb _ _ b, ne_eqb _ _ c, ne_eqb _ _ d, ne_eqb _ _ e, ne_eqb _ _ f)

  pub no_operator :
      (kind ≡ Kinds.plus → ⊥) → (kind ≡ Kinds.minus → ⊥) → (kind ≡ Kinds.AND → ⊥) → (kind ≡ Kinds.NEV → ⊥) → (kind ≡ Kinds.star → ⊥) → (kind ≡ Kinds.slash → ⊥) → (kind ≡ Kinds.MOD → ⊥)
      → None ≡ looked_up operators operator_opcode kind
  unfolding looked_up find
  no_operator a b c d e f g = simp (ne_eqb _ _ a, ne_eqb _ _ b, ne_eqb _ _ c, ne_eqb _ _ d, ne_eqb _ _ e, ne_eqb _ _ f, ne_eqb _ _ g)

  -- the relations are six consecutive kinds
  pub is_relation_lem : Kinds.equal ≤ kind → kind ≤ Kinds.at_least → true ≡ stands_in relations kind
  unfolding stands_in find
  is_relation_lem h l = go (kind - Kinds.equal) (omega (arith, h))
    where
      six : {k : ℕ} → kind ≡ k → true ≡ stands_in relations k → true ≡ stands_in relations kind
      six e q = rw e q

      go : (d : ℕ) → kind ≡ d + Kinds.equal → true ≡ stands_in relations kind
      go zero e = six {k = 7} (omega (arith, e)) refl
      go (suc zero) e = six {k = 8} (omega (arith, e)) refl
      go (suc (suc zero)) e = six {k = 9} (omega (arith, e)) refl
      go (suc (suc (suc zero))) e = six {k = 10} (omega (arith, e)) refl
      go (suc (suc (suc (suc zero)))) e = six {k = 11} (omega (arith, e)) refl
      go (suc (suc (suc (suc (suc zero))))) e = six {k = 12} (omega (arith, e)) refl
      go (suc (suc (suc (suc (suc (suc d)))))) e = absurd (omega (arith, e, l))

  pub no_relation_below : kind < Kinds.equal → false ≡ stands_in relations kind
  unfolding stands_in find
  no_relation_below h =
      rw (ne_eqb kind Kinds.equal (λ e. omega (arith, e, h)), ne_eqb kind Kinds.not_equal (λ e. omega (arith, e, h)), ne_eqb kind Kinds.less (λ e. omega (arith, e, h)), ne_eqb kind Kinds.greater (λ e. omega (arith, e, h)), ne_eqb kind Kinds.at_most (λ e. omega (arith, e, h)), ne_eqb kind Kinds.at_least (λ e. omega (arith, e, h))) refl

  pub no_relation_above : Kinds.at_least < kind → false ≡ stands_in relations kind
  unfolding stands_in find
  no_relation_above h =
      rw (ne_eqb kind Kinds.equal (λ e. omega (arith, e, h)), ne_eqb kind Kinds.not_equal (λ e. omega (arith, e, h)), ne_eqb kind Kinds.less (λ e. omega (arith, e, h)), ne_eqb kind Kinds.greater (λ e. omega (arith, e, h)), ne_eqb kind Kinds.at_most (λ e. omega (arith, e, h)), ne_eqb kind Kinds.at_least (λ e. omega (arith, e, h))) refl

pub ruleset for_unary = (no_unary)

pub ruleset for_shift_word = (no_shift_word)

pub ruleset for_bare = (no_bare)

pub ruleset for_test = (no_test)

pub ruleset for_operator = (no_operator)

pub ruleset for_is_relation = (is_relation_lem, no_relation_below, no_relation_above)
