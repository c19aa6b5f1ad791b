use mathlib.Core.Path.{refl}
use Rattle.source.proofs.Tables.{keyword_of_table}
use Rattle.source.proofs.keyword.keyword_kind.Goals as goal

pub returns : goal.returns
returns c = keyword_of_table _ _ _ c.kind_in.ensures refl
