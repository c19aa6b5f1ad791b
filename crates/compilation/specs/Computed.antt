-- Every definition that a listing rests on, listed once: an example says `unfolding computed` and is then decided by computation.
use Rattle.std.specs.Prelude.{ℕ, List}
use Rattle.digits.specs.Digits.{octal_by, decimal_by}
use Rattle.grammar.specs.Computed as grammar
use Rattle.compilation.specs.Compile.{compiled, result_of, compile_def}
use Rattle.compilation.specs.Listing.{word_lines, listing_def}

unfoldable pub computed : List ℕ → List ℕ
unfolding grammar.computed compiled result_of compile_def octal_by decimal_by word_lines listing_def
computed source = listing_def (compile_def source)
