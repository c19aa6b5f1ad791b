-- A number in figures held up to a cap: what is capped on the way is what is capped at the end.
use mathlib.Core.Path.{◌≡◌, refl}
use Prim.Native.Nat.{ℕ, suc, ◌+◌, ◌-◌, ◌*◌, ◌≤◌, ◌<◌, min}
use mathlib.Core.Bool.{Bool, true, false}
use mathlib.Core.List.{List, [], ◌∷◌}
use native.Mathlib.Nat.{mul-le-mul_right}
use native.Mathlib.Numerals.{add-one}
use native.Mathlib.Omega.{arith}
use borrow.Author.Tests.{ltb-true, ltb-false}
use lib.Dec.{ltb}
use lib.ListN.{length, get_or, drop, drop_of_length-le}
use lib.Seq.{drop-cons}
use Rattle.source.specs.Tokens.{number}

module _ (base : ℕ) (some : 0 < base) where
  step : (x m n : ℕ) → min m 65536 ≡ min n 65536 → min (base * m + x) 65536 ≡ min (base * n + x) 65536
  step x m n e = go (ltb m 65536) refl
    where
      go : (t : Bool) → ltb m 65536 ≡ t → min (base * m + x) 65536 ≡ min (base * n + x) 65536
      go true h = let l = ltb-true m 65536 h in let same : m ≡ n = omega arith in rw same
      go false h =
          let l = ltb-false m 65536 h in
          omega (arith, mul-le-mul_right m some, mul-le-mul_right n some)

  pub capped : (ds : List ℕ) (m n : ℕ) → min m 65536 ≡ min n 65536 → min (number base m ds) 65536 ≡ min (number base n ds) 65536
  unfolding number
  capped [] m n e = e
  capped (d ∷ ds) m n e = capped ds (base * m + (d - 48)) (base * n + (d - 48)) (step (d - 48) m n e)

  -- one digit more
  pub next :
      (ds : List ℕ) (i n m : ℕ) → i < length ds → m ≡ min (base * n + (get_or ds i 0 - 48)) 65536
      → min (number base m (drop (i + 1) ds)) 65536 ≡ min (number base n (drop i ds)) 65536
  unfolding number
  next ds i n m h e = rw (add-one, drop-cons ds i 0 h) (capped (drop (suc i) ds) m (base * n + (get_or ds i 0 - 48)) (omega arith))

-- no digit is left
pub done : (base : ℕ) (ds : List ℕ) (i n : ℕ) → length ds ≤ i → number base n (drop i ds) ≡ n
unfolding number
done base ds i n h = rw (drop_of_length-le ds h)

pub ruleset for_number_of = (next, done)
