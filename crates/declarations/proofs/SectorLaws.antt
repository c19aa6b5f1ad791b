-- The code ends: those that count, and zeros after them.
use Prim.Native.Nat.{ℕ, zero, suc, ◌+◌, ◌-◌, ◌≤◌}
use mathlib.Core.Path.{◌≡◌, refl, sym, ap, ap₂, ◌∙◌}
use mathlib.Core.List.{List, [], ◌∷◌, ◌++◌, append_assoc}
use native.Mathlib.Numerals.{add-one}
use native.Mathlib.Omega.{arith}
use borrow.Author.Tests.{lt-ltb}
use lib.ListN.{length, get_or, set, replicate, length-set}
use lib.Seq.{length-take-le, take-suc-set, set_at}
use Rattle.declarations.specs.declared.SectorEnds.{SectorEnds}
use Rattle.declarations.specs.Allocations.{ends_of, end_of, with_end, Closed}

-- zeros after a list are what stands past its end
zeros : (m k : ℕ) → ◌≡◌ {A = ℕ} (get_or (replicate m 0) k 0) 0
zeros zero k = refl
zeros (suc m) zero = refl
zeros (suc m) (suc k) = zeros m k

past : (xs : List ℕ) (m k : ℕ) → get_or (xs ++ replicate m 0) k 0 ≡ get_or xs k 0
past [] m k = zeros m k
past (x ∷ xs) m zero = refl
past (x ∷ xs) m (suc k) = past xs m k

module _ {e : SectorEnds} (h : Closed e) where
  pub ends_length : length (ends_of e) ≡ e.count
  ends_length = let l = h.long in let n = h.last in length-take-le e.count e.ends (omega (arith, l, n))

  module _ (code : ℕ) where
    with_one : with_end e code ≡ record { ends = set e.ends e.count code; count = e.count + 1 }
    unfolding with_end
    with_one = let n = h.last in rw (lt-ltb e.count 32 (omega (arith, n)))

    pub one_count : (with_end e code).count ≡ e.count + 1
    one_count = ap (λ x. x.count) with_one

    pub one_end : ends_of (with_end e code) ≡ ends_of e ++ (code ∷ [])
    one_end = let l = h.long in let n = h.last in ap ends_of with_one ∙ rw add-one (take-suc-set e.ends e.count code (omega (arith, l, n)))

    -- zeros after the new end too
    one_more : (with_end e code).ends ≡ (ends_of e ++ (code ∷ [])) ++ replicate (32 - (e.count + 1)) 0
    one_more =
        let n = h.last in
        let q : 32 - e.count ≡ suc (32 - (e.count + 1)) = omega (arith, n) in
        let so_far : e.ends ≡ ends_of e ++ (0 ∷ replicate (32 - (e.count + 1)) 0) = h.spare ∙ ap (λ m. ends_of e ++ replicate m 0) q in
        ap (λ x. x.ends) with_one ∙ ap (λ x. set x e.count code) so_far ∙ set_at (ends_of e) 0 (replicate (32 - (e.count + 1)) 0) code e.count ends_length
        ∙ sym (append_assoc (ends_of e) (code ∷ []) (replicate (32 - (e.count + 1)) 0))

    pub one_closed : e.count + 1 ≤ 30 → Closed (with_end e code)
    one_closed few =
        let c = one_count in
        record {
          last = omega (arith, few, c);
          long = ap (λ x. length x.ends) with_one ∙ length-set e.ends e.count code ∙ h.long;
          spare = one_more ∙ ap₂ (λ x m. x ++ replicate (32 - m) 0) (sym one_end) (sym c);
        }

    -- where each sector's code ends
    pub each_end : (k : ℕ) → end_of (with_end e code) k ≡ get_or (ends_of e ++ (code ∷ [])) k 0
    each_end k = ap (λ x. get_or x k 0) one_more ∙ past (ends_of e ++ (code ∷ [])) (32 - (e.count + 1)) k
