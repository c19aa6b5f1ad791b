-- What each line of a page shows.
use Prim.Native.Nat.{ℕ, zero, suc, ◌+◌, ◌*◌, ◌^◌, ◌<◌}
use mathlib.Core.Path.{◌≡◌, sym, ap, ◌∙◌}
use mathlib.Core.List.{List, [], ◌∷◌, ◌++◌, append_assoc}
use native.Mathlib.Nat.{add_assoc, suc-add}
use native.Mathlib.Omega.{arith}
use lib.ListN.{length, get_or, take, drop}
use lib.Seq.{take_at, drop_at, drop-drop}
use Rattle.prelude.specs.Sum.{sum}
use Rattle.page.specs.Names.{Name}
use Rattle.page.specs.Page.{farm_line, lines_from}
use Rattle.page.specs.PageLaws.{line_at, name_at}
use Rattle.page.specs.Readings.{Sound}
use Rattle.page.proofs.LineLaws.{Narrow, narrow, fewer, line_length_lem}

-- a line, with what it is made from
pub record Row (i total : ℕ) (ns : List Name) (ls page : List ℕ) : Type 0 where
  pub line : line_at i page ≡ farm_line (name_at i ns) (get_or ls i 0) (total + sum (take (i + 1) ls))
  pub narrow : Narrow (name_at i ns) (get_or ls i 0) (total + sum (take (i + 1) ls))

-- the line behind the first is the first of the others
behind : (i : ℕ) (u v : List ℕ) → length u ≡ 31 → line_at (suc i) (u ++ v) ≡ line_at i v
behind i u v e =
    let k : 31 * suc i ≡ 31 + 31 * i = omega arith in
    ap (λ m. take 31 (drop m (u ++ v))) k ∙ ap (take 31) (sym (drop-drop (31 * i) 31 (u ++ v)) ∙ ap (drop (31 * i)) (drop_at u v 31 e))

pub row : (i total : ℕ) (ns : List Name) (ls rest : List ℕ) → Sound ns ls → total + 32767 * length ls < 10 ^ 8 → i < length ls → Row i total ns ls (lines_from total ns ls ++ rest)
unfolding lines_from sum
row i total [] [] rest s h k = absurd (omega (arith, k))
row i total [] (l ∷ ls) rest s h k = absurd s
row i total (n ∷ ns) [] rest s h k = absurd s
row zero total (n ∷ ns) (l ∷ ls) rest s h k =
    let u = farm_line n.text l (total + l) in
    let v = lines_from (total + l) ns ls in
    let w = narrow total n ns l ls s h in
    let e : total + l ≡ total + (l + 0) = omega arith in
    record {
      line = ap (take 31) (append_assoc u v rest) ∙ take_at u (v ++ rest) 31 (line_length_lem n.text l (total + l) w) ∙ ap (farm_line n.text l) e;
      narrow = rw e at w;
    }
row (suc i) total (n ∷ ns) (l ∷ ls) rest s h k =
    let u = farm_line n.text l (total + l) in
    let v = lines_from (total + l) ns ls in
    let w = narrow total n ns l ls s h in
    let r = row i (total + l) ns ls rest s.2 (fewer total l ls s.1 h) (omega (arith, k)) in
    let e : total + l + sum (take (i + 1) ls) ≡ total + sum (take (suc i + 1) (l ∷ ls)) =
    add_assoc total l (sum (take (i + 1) ls)) ∙ ap (λ m. total + sum (take m (l ∷ ls))) (sym (suc-add i 1)) in
    record {
      line = ap (line_at (suc i)) (append_assoc u v rest) ∙ behind i u (v ++ rest) (line_length_lem n.text l (total + l) w) ∙ r.line ∙ ap (farm_line (name_at i ns) (get_or ls i 0)) e;
      narrow = rw e at r.narrow;
    }
