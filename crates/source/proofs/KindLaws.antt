-- Kinds that differ have numbers that differ.
use mathlib.Core.Path.{◌≡◌, refl, sym, ap, ◌∙◌}
use mathlib.Core.Bool.{Bool, true, false, not}
use denote.Enum.Bare.{sameb, same_true, same_false, differs_true, differs_false}
use Rattle.std.proofs.Common.{rules}
use Rattle.source.specs.contracts.kind.Kind.{the_type}
use Rattle.source.specs.Kinds.{kind_number, kind_of}
use Rattle.source.specs.declared.kind.Kind.{Kind}
use Rattle.source.specs.declared.kind.Kind.TheVariants.{EndOfSource}

-- a kind is that of its number
back : (kind : Kind) → kind_of (kind_number kind) ≡ kind
unfolding kind_of
back EndOfSource = refl
back kind = refl

pub same_kind : (a b : Kind) → kind_number a ≡ kind_number b → a ≡ b
same_kind a b e = sym (back a) ∙ ap kind_of e ∙ back b

pub apart : (a b : Kind) → (a ≡ b → ⊥) → kind_number a ≡ kind_number b → ⊥
apart a b n e = n (same_kind a b e)

-- what `==` and `!=` of two kinds say
module _ (a b : Kind) {r : Bool} where
  pub equal_kinds : r ≡ sameb the_type a b → r ≡ true → kind_number a ≡ kind_number b
  equal_kinds q e = ap kind_number (same_true the_type (search rules) a b (sym q ∙ e))

  pub other_kinds : r ≡ sameb the_type a b → r ≡ false → kind_number a ≡ kind_number b → ⊥
  other_kinds q e = apart a b (same_false the_type a b (sym q ∙ e))

  pub unequal_kinds : r ≡ not (sameb the_type a b) → r ≡ true → kind_number a ≡ kind_number b → ⊥
  unequal_kinds q e = apart a b (differs_true the_type a b (sym q ∙ e))

  pub not_unequal_kinds : r ≡ not (sameb the_type a b) → r ≡ false → kind_number a ≡ kind_number b
  not_unequal_kinds q e = ap kind_number (differs_false the_type (search rules) a b (sym q ∙ e))
