-- What a source compiles to.
use Rattle.std.specs.Prelude.{ℕ, ◌+◌, ◌-◌, List, length}
use Rattle.tree.specs.Tree.{Program}
use Rattle.grammar.specs.Parse.{Got}
use Rattle.grammar.specs.Program.{parse_program}
use Rattle.layout.specs.Map.{declared, finished, image_of}
use Rattle.layout.specs.Addresses.{first_code}

-- an accepted source: its program, its image, its entry, and the counts of words from '1000 and from '200 (A11)
pub record Compiled : Type 0 where
  pub program : Program
  pub image : List ℕ
  pub entry : ℕ
  pub words : ℕ
  pub globals : ℕ

-- accepted, or a failure with its number and offset
pub data Result : Type 0 where
  accepted : Compiled → Result
  failed : ℕ → ℕ → Result

-- the entry is where the main body begins (W17); the words end with the last pool (A11)
unfoldable pub compiled : Program → Compiled
compiled p =
    record { program = p; image = image_of p; entry = (declared p).next; words = (finished p).next + length (finished p).pool - first_code; globals = (declared p).scope.taken }

unfoldable pub result_of : Got Program → Result
result_of (Got.got p next) = Result.accepted (compiled p)
result_of (Got.failed n at) = Result.failed n at

-- what a source compiles to: the image, entry and counts of its program, or its failure (demand 2a, 2b)
unfoldable pub compile_def : List ℕ → Result
compile_def source = result_of (parse_program source)
