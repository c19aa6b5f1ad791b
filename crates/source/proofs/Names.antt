-- Bytes of a name: its first six, in its token and in the source.
use mathlib.Core.Path.{◌≡◌, sym, ◌∙◌}
use Prim.Native.Nat.{ℕ, ◌+◌, ◌-◌, ◌≤◌, ◌<◌}
use mathlib.Core.List.{List}
use native.Mathlib.Omega.{arith}
use lib.ListN.{length, get_or, take, drop, length-take, get_or-eq_default}
use lib.Seq.{get_or-take, get_or-drop}
use Rattle.source.specs.declared.Token.{Token}
use Rattle.source.specs.Tokens.{spelling, name_of}

past : (n : ℕ) (l : List ℕ) (i : ℕ) → n ≤ i → 0 ≡ get_or (take n l) i 0
past n l i h = let k : length (take n l) ≤ i = omega (arith, length-take n l) in sym (get_or-eq_default (take n l) 0 k)

module _ (s : List ℕ) (t : Token) (i : ℕ) where
  pub seventh : 6 ≤ i → 0 ≡ get_or (name_of s t) i 0
  unfolding name_of
  seventh h = past 6 (spelling s t) i h

  pub past_end : i < 6 → t.next - t.at ≤ i → 0 ≡ get_or (name_of s t) i 0
  unfolding name_of
  past_end l h = past (t.next - t.at) (drop t.at s) i h ∙ sym (get_or-take 6 (spelling s t) i 0 l)

  pub byte_of : i < 6 → i < t.next - t.at → get_or s (t.at + i) 0 ≡ get_or (name_of s t) i 0
  unfolding name_of
  byte_of l h = rw (get_or-take 6 (spelling s t) i 0 l, get_or-take (t.next - t.at) (drop t.at s) i 0 h, get_or-drop)

pub ruleset for_name_byte = (seventh, past_end, byte_of)
