-- What is promised of a text that is written.
use Rattle.std.specs.Prelude.{ℕ, ◌+◌, ◌≤◌, min, ◌≡◌, List, length}
use Rattle.std.proofs.lemmas.List.Edits.{sets}

-- the largest offset there is
abbrev pub largest : ℕ
largest = 18446744073709551615

-- one more, or the largest
abbrev pub up_of : ℕ → ℕ
up_of n = min (n + 1) largest

-- A TEXT WRITTEN from an offset on, as far as the buffer goes; and the offset behind it, or the largest one
pub record Wrote (before after : List ℕ) (at next : ℕ) (text : List ℕ) : Type 0 where
  pub written : after ≡ sets before at text
  pub ends : next ≡ min (at + length text) largest
  -- no buffer is longer
  pub short : length before ≤ largest
