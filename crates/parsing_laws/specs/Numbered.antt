-- Every failure of a source has one of the numbers 3 to 14, at an offset in it (F3 to F14, J4, demand 1a).
use Rattle.std.specs.Prelude.{ℕ, ◌≤◌, ◌<◌, ◌≡◌, List, length}
use Rattle.compilation.specs.Compile.{Result, compile_def}

-- what the failure of a source that does not compile may be
pub record Numbered (source : List ℕ) (n at : ℕ) : Type 0 where
  -- 1 and 2 are judged on what is lent with the source, not here (J1)
  pub least : 3 ≤ n
  pub most : n ≤ 14
  -- a source that is too long is 3 at 0 before all else, and nothing else is 3 (F3, J1)
  pub long : 8192 < length source → (n ≡ 3) × (at ≡ 0)
  pub only_long : n ≡ 3 → 8192 < length source
  -- at a byte of the source, or at its length (J4); there it is 6, as the source has ended (T13, F6)
  pub inside : at ≤ length source
  pub ended : at ≡ length source → n ≡ 6

-- of every source that does not compile (demand 1a)
abbrev pub FailuresNumbered : Type 0
FailuresNumbered = (source : List ℕ) (n at : ℕ) → compile_def source ≡ Result.failed n at → Numbered source n at
