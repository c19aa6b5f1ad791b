-- The tables that a token's kind is looked up in: the words that open a statement, and the unary words, whose kinds are consecutive.
use Prim.Native.Nat.{ℕ, suc, ◌+◌, ◌≤◌, ◌<◌}
use mathlib.Core.Path.{◌≡◌, refl, ◌∙◌}
use mathlib.Core.Bool.{Bool, true, false}
use mathlib.Core.List.{List, [], ◌∷◌}
use mathlib.Core.Option.{some}
use mathlib.Core.Logic.{◌⊎◌, inl, inr}
use native.Mathlib.Omega.{arith}
use lib.Dec.{eqb}
use lib.ListN.{length}
use borrow.Author.Tests.{eq-eqb, ne_eqb, eqb-false}
use Rattle.prelude.specs.Choice.{whether, given, find}
use Rattle.source.specs.Kinds.{kind_number}
use Rattle.source.specs.declared.kind.Kind.{Kind as TokenKind}
use Rattle.source.specs.declared.kind.Kind.TheVariants as Kind
use Rattle.source.proofs.KindLaws.{apart}
use Rattle.source.specs.Kinds
use Rattle.source.specs.declared.Token.{Token}
use Rattle.tree.specs.Symbols.{Names}
use Rattle.grammar.specs.Parse.{Got, and_then, fail_at}
use Rattle.parser.proofs.Answers.{refused_any}
use Rattle.grammar.specs.Vocabulary.{unaries}
use Rattle.grammar.specs.Cells.{refuse}
use Rattle.grammar.specs.Expressions.{term_start, too_deep_expr}
use Rattle.cells.specs.Starts.{opening}

pub no_opening :
    (t : Token) → (t.kind ≡ Kind.At → ⊥) → (t.kind ≡ Kind.Hash → ⊥) → (t.kind ≡ Kind.If → ⊥) → (t.kind ≡ Kind.When → ⊥)
    → (t.kind ≡ Kind.While → ⊥) → (t.kind ≡ Kind.For → ⊥) → (t.kind ≡ Kind.Begin → ⊥) → opening t ≡ refuse t
unfolding opening find
no_opening t a h i w l f b =
    simp (other Kind.At a, other Kind.Hash h, other Kind.If i, other Kind.When w, other Kind.While l, other Kind.For f, other Kind.Begin b)
  where
    other : (kind : TokenKind) → (t.kind ≡ kind → ⊥) → eqb (kind_number t.kind) (kind_number kind) ≡ false
    other kind n = ne_eqb _ _ (apart t.kind kind n)

-- so it fails as a token that nothing begins with
pub refused_opening :
    (t : Token) → {k at : ℕ} → refuse {A = ℕ} t ≡ Got.failed k at → (t.kind ≡ Kind.At → ⊥) → (t.kind ≡ Kind.Hash → ⊥) → (t.kind ≡ Kind.If → ⊥) → (t.kind ≡ Kind.When → ⊥)
    → (t.kind ≡ Kind.While → ⊥) → (t.kind ≡ Kind.For → ⊥) → (t.kind ≡ Kind.Begin → ⊥) → opening t ≡ Got.failed k at
refused_opening t e a h i w l f b = no_opening t a h i w l f b ∙ refused_any t e

-- ---- Rows whose keys count from a number on

data Counted {A : Type 0} : ℕ → List (ℕ × A) → Type 0 where
  none : {n : ℕ} → Counted n []
  more : {n : ℕ} {a : A} {rows : List (ℕ × A)} → Counted (suc n) rows → Counted n ((n, a) ∷ rows)

counted_unaries : Counted Kinds.ADDC unaries
counted_unaries = more (more (more (more (more (more (more (more (more (more (more (more (more (more none)))))))))))))

module _ {A B : Type 0} (x : B) (g : Unit {0} → B) (k : ℕ) where
  in_rows : {n : ℕ} {rows : List (ℕ × A)} → Counted n rows → n ≤ k → k < n + length rows → given (find (eqb k) rows) (λ _. x) g ≡ x
  unfolding find
  in_rows none l h = absurd (omega arith)
  in_rows {n} (more {a = a} {rows = rows} r) l h = go (eqb k n) refl (in_rows r)
    where
      go : (b : Bool) → eqb k n ≡ b → (suc n ≤ k → k < suc n + length rows → given (find (eqb k) rows) (λ _. x) g ≡ x)
          → given (whether b (λ _. some (n, a)) (λ _. find (eqb k) rows)) (λ _. x) g ≡ x
      go true e ih = refl
      go false e ih = let d : k ≡ n → ⊥ = eqb-false k n e in ih (omega arith) (omega arith)

  out_of_rows : {n : ℕ} {rows : List (ℕ × A)} → Counted n rows → (k < n) ⊎ (n + length rows ≤ k) → given (find (eqb k) rows) (λ _. x) g ≡ g tt
  unfolding find
  out_of_rows none o = refl
  out_of_rows {n} (more r) (inl l) = rw (ne_eqb k n (λ e. omega arith)) (out_of_rows r (inl (omega arith)))
  out_of_rows {n} (more r) (inr l) = rw (ne_eqb k n (λ e. omega arith)) (out_of_rows r (inr (omega arith)))

-- ---- A level too many

module _ (source : List ℕ) (names : Names) (t : Token) where
  pub deep_if : kind_number t.kind ≡ Kinds.IF → too_deep_expr source names t ≡ fail_at t 9
  unfolding too_deep_expr
  deep_if h = rw (eq-eqb (kind_number t.kind) Kinds.IF h)

  pub deep_unary : (kind_number t.kind ≡ Kinds.IF → ⊥) → Kinds.ADDC ≤ (kind_number t.kind) → (kind_number t.kind) < Kinds.ADDC + length unaries → too_deep_expr source names t ≡ fail_at t 9
  unfolding too_deep_expr
  deep_unary n l h = rw (ne_eqb (kind_number t.kind) Kinds.IF n) (in_rows _ _ (kind_number t.kind) counted_unaries l h)

  pub deep_term : (kind_number t.kind ≡ Kinds.IF → ⊥) → ((kind_number t.kind) < Kinds.ADDC) ⊎ (Kinds.ADDC + length unaries ≤ (kind_number t.kind)) → too_deep_expr source names t ≡ and_then (term_start source names t) (λ _ _. fail_at t 9)
  unfolding too_deep_expr
  deep_term n o = rw (ne_eqb (kind_number t.kind) Kinds.IF n) (out_of_rows _ _ (kind_number t.kind) counted_unaries o)
