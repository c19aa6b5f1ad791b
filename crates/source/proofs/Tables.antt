-- The code's tables are those of specs/, and the first row that passes is the same.
use mathlib.Core.Path.{◌≡◌, refl}
use Prim.Native.Nat.{ℕ}
use mathlib.Core.Bool.{Bool, true, false, cond}
use mathlib.Core.List.{List, [], ◌∷◌, map}
use lib.Dec.{eqb}
use denote.Ref.{Bor}
use Rattle.std.proofs.Common.{None, Some, Option as Found}
use Rattle.std.proofs.Math.Option.{some}
use Rattle.std.specs.List.{find as first}
use Rattle.std.specs.Option.{option_map, unwrap_or}
use Rattle.std.specs.Str.{bytes_eq}
use Rattle.prelude.specs.Choice.{whether, given, find}
use Rattle.source.specs.Bytes.{same_bytes}
use Rattle.source.specs.declared.kind.Kind.{Kind}
use Rattle.source.specs.declared.kind.Kind.TheVariants.{Unknown, Other}
use Rattle.source.specs.Keywords.{keywords, keyword_kind}
use Rattle.source.specs.Kinds.{kind_number, kinds, kind_of}
use Rattle.source.specs.Tables.{kind_among, kind_numbered}
use Rattle.source.proofs.Same.{same_is}

abbrev pub rows_of : List (Bor (List ℕ) × Kind) → List (List ℕ × Kind)
rows_of rows = map (λ row. (row.0.now, row.1)) rows

-- what the first row gives whose bytes pass
module _
    {A : Type 0} (p : List ℕ → Bool) (q : Bor (List ℕ) × Kind → Bool) (same : (row : Bor (List ℕ) × Kind) → q row ≡ p row.0.now)
    (f : List ℕ × Kind → A) (miss : A) where
  first_row : (rows : List (Bor (List ℕ) × Kind)) → unwrap_or (option_map (λ row. f (row.0.now, row.1)) (first q rows)) miss ≡ given (find p (rows_of rows)) f (λ _. miss)
  unfolding find
  first_row [] = refl
  first_row (row ∷ rows) = rw (same row) (go (p row.0.now) (first_row rows))
    where
      go :
          (t : Bool) → unwrap_or (option_map (λ row. f (row.0.now, row.1)) (first q rows)) miss ≡ given (find p (rows_of rows)) f (λ _. miss)
          → unwrap_or (option_map (λ (row : Bor (List ℕ) × Kind). f (row.0.now, row.1)) (cond t (Some row) (first q rows))) miss
          ≡ given (whether t (λ _. some (row.0.now, row.1)) (λ _. find p (rows_of rows))) f (λ _. miss)
      go true e = refl
      go false e = e

pub keyword_of_table : (rows : List (Bor (List ℕ) × Kind)) (keyword : List ℕ) (kind : Kind) → kind ≡ kind_among rows keyword → rows_of rows ≡ keywords → kind ≡ keyword_kind keyword
unfolding kind_among keyword_kind
keyword_of_table rows keyword kind q e =
    rw (q, ← e) (first_row (same_bytes keyword) (λ row. bytes_eq keyword row.0.now) (λ row. same_is keyword row.0.now) (λ row. row.1) Unknown rows)

pub kind_of_table : (number : ℕ) → kind_numbered kinds number ≡ kind_of number
unfolding kind_numbered kind_of
kind_of_table number = go (first (λ kind. eqb (kind_number kind) number) kinds)
  where
    go : (kind : Found Kind) → unwrap_or (option_map (λ (kind : Kind). kind) kind) Other ≡ unwrap_or kind Other
    go None = refl
    go (Some kind) = refl

pub ruleset for_from = (kind_of_table)
