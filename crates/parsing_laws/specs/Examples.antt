-- Worked examples, decided by computation: a source that ends too early, and one that fails at its last byte.
use Rattle.std.specs.Prelude.{◌≡◌, refl}
use Rattle.prelude.specs.Text.{bytes}
use Rattle.compilation.specs.Compile.{Result, compile_def}
use Rattle.compilation.specs.Computed.{computed}

ended : compile_def (bytes ".BEGIN X=1") ≡ Result.failed 6 10
unfolding computed
ended = refl

last_byte : compile_def (bytes ".BEGIN X=Y") ≡ Result.failed 7 9
unfolding computed
last_byte = refl
