-- A program.
use Rattle.std.specs.Prelude.{ℕ, Bool, List, length, leb}
use Rattle.prelude.specs.Choice.{whether}
use Rattle.source.specs.Kinds
use Rattle.tree.specs.Tree.{Declaration, Program}
use Rattle.layout.specs.Allocation.{allocated}
use Rattle.layout.specs.Limits.{main_limit}
use Rattle.grammar.specs.Parse.{Got, and_then, within, expect}
use Rattle.grammar.specs.Parse.Got.{got, failed}
use Rattle.grammar.specs.Statements.{parse_outermost}
use Rattle.grammar.specs.Declarations.{parse_checked, parse_declarations}

-- the main body, after the declarations (D1): its limits are judged at the `.END` (J8), and the source must end behind that (J11)
unfoldable pub parse_main : List ℕ → Bool → List Declaration → ℕ → Got Program
parse_main source checked ds at =
    and_then (parse_outermost source (allocated ds).scope.names at) (λ main main_end.
    and_then (expect Kinds.END source main_end) (λ end after_end.
    within (main_limit (allocated ds) main) end (
    and_then (expect Kinds.end_of_source source after_end) (λ _ next.
    got (record { checked = checked; declarations = ds; main = main }) next))))

-- a program (D1, D17); a source that is too long is 3 at 0, before anything is read (F3, J1)
unfoldable pub parse_program : List ℕ → Got Program
parse_program source =
    whether (leb (length source) 8192)
    (λ _.
    and_then (expect Kinds.BEGIN source 0) (λ _ checked_at.
    and_then (parse_checked source checked_at) (λ checked declarations_at.
    and_then (parse_declarations source checked declarations_at) (λ ds main_at.
    parse_main source checked ds main_at))))
    (λ _. failed 3 0)
