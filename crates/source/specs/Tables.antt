-- The code's tables, rows of bytes and a kind.
use Rattle.std.specs.Prelude.{ℕ, ◌==◌, List}
use Rattle.std.specs.List.{find}
use Rattle.std.specs.Option.{option_map, unwrap_or}
use Rattle.std.specs.Str.{bytes_eq}
use Rattle.source.specs.Kinds.{kind_number}
use Rattle.source.specs.declared.kind.Kind.{Kind}
use Rattle.source.specs.declared.kind.Kind.TheVariants.{Unknown, Other}
use denote.Ref.{Bor}

-- the first kind that has a number
unfoldable pub kind_numbered : List Kind → ℕ → Kind
kind_numbered kinds number = unwrap_or (option_map (λ kind. kind) (find (λ kind. kind_number kind == number) kinds)) Other

-- the kind in the first row whose bytes these are
unfoldable pub kind_among : List (Bor (List ℕ) × Kind) → List ℕ → Kind
kind_among rows keyword = unwrap_or (option_map (λ row. row.1) (find (λ row. bytes_eq keyword row.0.now) rows)) Unknown
