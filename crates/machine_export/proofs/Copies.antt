-- A clock record copied behind the number of the clock.
use Rattle.std.proofs.Common.{◌≡◌, ◌+◌, ◌-◌, ℕ, suc, List, [], ◌∷◌, ◌++◌, length, set, ap, ◌∙◌, append-nil, arith}
use lib.ListN.{drop_of_length-le}
use borrow.Rule.Slice.PartMut.{put_mid}

pub behind_first : (d s copy : List ℕ) (v : ℕ) → length d ≡ 1 + length s → copy ≡ s
    → put_mid 1 (length (set d 0 v) - 1) (set d 0 v) copy ≡ v ∷ s
behind_first [] s copy v h e = absurd (omega arith)
behind_first (x ∷ d) s copy v h e =
    ap (λ (r : List ℕ). v ∷ copy ++ r) (drop_of_length-le d {i = suc (length d) - 1} (omega arith)) ∙ ap (λ (r : List ℕ). v ∷ r) (append-nil copy ∙ e)
