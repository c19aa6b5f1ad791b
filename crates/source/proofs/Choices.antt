-- The token after the blanks.
use mathlib.Core.Path.{◌≡◌}
use Prim.Native.Nat.{ℕ, ◌+◌}
use mathlib.Core.List.{List}
use lib.ListN.{drop}
use lib.Seq.{drop-drop}
use Rattle.source.specs.Bytes.{is_blank, span}
use Rattle.source.specs.declared.Token.{Token}
use Rattle.source.specs.Tokens.{token_of, operator_of, after_blanks, token_at, operator_at}

after : (f : List ℕ → ℕ → Token) (s : List ℕ) (at i : ℕ) → i ≡ at + span is_blank (drop at s) → f (drop i s) i ≡ after_blanks f s at
unfolding after_blanks
after f s at i e = rw (drop-drop, ← e)

module _ (s : List ℕ) (at i : ℕ) (e : i ≡ at + span is_blank (drop at s)) where
  pub next_token : token_of (drop i s) i ≡ token_at s at
  unfolding token_at
  next_token = after token_of s at i e

  pub next_operator : operator_of (drop i s) i ≡ operator_at s at
  unfolding operator_at
  next_operator = after operator_of s at i e

pub ruleset for_token_at = (next_token)

pub ruleset for_operator_at = (next_operator)
