-- Lines: how long they are, and what is read back from their columns.
use Prim.Native.Nat.{ℕ, ◌+◌, ◌*◌, ◌^◌, ◌≤◌, ◌<◌}
use mathlib.Core.Path.{◌≡◌, refl, sym, ap, ◌∙◌}
use mathlib.Core.List.{List, [], ◌∷◌, ◌++◌}
use mathlib.Core.Option.{some}
use native.Mathlib.Omega.{arith}
use lib.ListN.{length, take, drop, length-append}
use lib.Seq.{take_at, drop_at, drop-drop}
use Rattle.digits.specs.Digits.{newline, left_in, right_in, shown}
use Rattle.digits.proofs.Widths.{left_width, right_width, right_shown}
use Rattle.page.specs.Names.{Name}
use Rattle.page.specs.Page.{space, farm_line, lines_from}
use Rattle.page.specs.Readings.{Sound}
use Rattle.page.proofs.FarmLaws.{good}

-- what a line is made from, so that it is as wide as its columns
pub record Narrow (name : List ℕ) (litres total : ℕ) : Type 0 where
  pub short : length name ≤ 14
  pub litres_fit : litres < 10 ^ 6
  pub total_fits : total < 10 ^ 8

module _ (name : List ℕ) (litres total : ℕ) (n : Narrow name litres total) where
  name_width : length (left_in 14 name) ≡ 14
  name_width = left_width 14 name n.short

  litres_width : length (right_in 6 litres) ≡ 6
  litres_width = right_width 6 litres (omega arith) n.litres_fit

  total_width : length (right_in 8 total) ≡ 8
  total_width = right_width 8 total (omega arith) n.total_fits

  pub line_length_lem : length (farm_line name litres total) ≡ 31
  unfolding farm_line
  line_length_lem =
      let a = name_width in
      let b = litres_width in
      let c = total_width in
      simp length-append (omega (arith, a, b, c))

  -- a line without its name and litres, and without its name
  abbrev last : List ℕ
  last = space ++ (right_in 8 total ++ newline)

  abbrev numbers : List ℕ
  numbers = space ++ (right_in 6 litres ++ last)

  pub line_name : take 14 (farm_line name litres total) ≡ left_in 14 name
  unfolding farm_line
  line_name = take_at (left_in 14 name) numbers 14 name_width

  behind_name : drop 14 (farm_line name litres total) ≡ numbers
  unfolding farm_line
  behind_name = drop_at (left_in 14 name) numbers 14 name_width

  behind_litres : drop 21 (farm_line name litres total) ≡ last
  behind_litres = sym (drop-drop 7 14 (farm_line name litres total)) ∙ ap (drop 7) behind_name ∙ drop_at (right_in 6 litres) last 6 litres_width

  pub line_litres : shown (take 6 (drop 15 (farm_line name litres total))) ≡ some litres
  line_litres =
      ap (λ t. shown (take 6 t)) (sym (drop-drop 1 14 (farm_line name litres total)) ∙ ap (drop 1) behind_name)
      ∙ ap shown (take_at (right_in 6 litres) last 6 litres_width)
      ∙ right_shown 6 litres (omega (arith, n.litres_fit))

  pub line_total : shown (take 8 (drop 22 (farm_line name litres total))) ≡ some total
  line_total =
      ap (λ t. shown (take 8 t)) (sym (drop-drop 1 21 (farm_line name litres total)) ∙ ap (drop 1) behind_litres)
      ∙ ap shown (take_at (right_in 8 total) newline 8 total_width)
      ∙ right_shown 8 total (omega (arith, n.total_fits))

-- ---- One line after another

-- a farm of those that have nothing wrong, behind so many litres
pub narrow : (total : ℕ) (n : Name) (ns : List Name) (l : ℕ) (ls : List ℕ) → Sound (n ∷ ns) (l ∷ ls) → total + 32767 * length (l ∷ ls) < 10 ^ 8 → Narrow n.text l (total + l)
narrow total n ns l ls s h = record { short = (good n s.0).few; litres_fit = omega (arith, s.1); total_fits = omega (arith, s.1, h) }

-- the litres behind it are fewer
pub fewer : (total l : ℕ) (ls : List ℕ) → l ≤ 32767 → total + 32767 * length (l ∷ ls) < 10 ^ 8 → total + l + 32767 * length ls < 10 ^ 8
fewer total l ls h k = omega (arith, h, k)

pub lines_length : (total : ℕ) (ns : List Name) (ls : List ℕ) → Sound ns ls → total + 32767 * length ls < 10 ^ 8 → length (lines_from total ns ls) ≡ 31 * length ls
unfolding lines_from
lines_length total [] [] s h = refl
lines_length total [] (l ∷ ls) s h = absurd s
lines_length total (n ∷ ns) [] s h = absurd s
lines_length total (n ∷ ns) (l ∷ ls) s h =
    let a = line_length_lem n.text l (total + l) (narrow total n ns l ls s h) in
    let b = lines_length (total + l) ns ls s.2 (fewer total l ls s.1 h) in
    length-append (farm_line n.text l (total + l)) (lines_from (total + l) ns ls) ∙ omega (arith, a, b)
