-- What a page that is made shows, and what one that fails leaves.
use Prim.Native.Nat.{ℕ, zero, suc, ◌+◌, ◌-◌, ◌≤◌, ◌<◌}
use mathlib.Core.Path.{◌≡◌, sym, ap, ◌∙◌}
use mathlib.Core.List.{List, [], ◌∷◌, ◌++◌}
use mathlib.Core.Option.{some}
use native.Mathlib.Nat.{zero-add, suc-add, add_assoc}
use native.Mathlib.Omega.{arith}
use lib.ListN.{length, get_or, take, drop}
use lib.Seq.{drop_at, take_all}
use Rattle.prelude.specs.Sum.{sum}
use Rattle.digits.specs.Digits.{left_in, shown}
use Rattle.page.specs.Names.{names_of}
use Rattle.page.specs.Page.{page_of, output_after, PageCalled}
use Rattle.page.specs.PageLaws.{litres_shown, total_shown, plus, PageMade}
use Rattle.std.specs.Prelude.{Ok, Err}
use Rattle.page.specs.Failures.{number_of}
use Rattle.page.specs.declared.failure.Failure.{Failure}
use Rattle.page.proofs.LineLaws.{line_name, line_litres, line_total}
use Rattle.page.proofs.Rows.{Row, row}
use Rattle.page.proofs.Judging.{Fit, fit, page_length, none_written, answer_number}

-- one more of the first litres
sum_next : (ls : List ℕ) (i : ℕ) → i < length ls → sum (take (i + 1) ls) ≡ sum (take i ls) + get_or ls i 0
unfolding sum
sum_next [] i h = absurd (omega (arith, h))
sum_next (l ∷ ls) zero h = omega arith
sum_next (l ∷ ls) (suc i) h =
    ap (λ m. sum (take m (l ∷ ls))) (suc-add i 1) ∙ ap (λ n. l + n) (sum_next ls i (omega (arith, h))) ∙ sym (add_assoc l (sum (take i ls)) (get_or ls i 0))

module _ (names litres output : List ℕ) (n : ℕ) (output' : List ℕ) (called : PageCalled names litres output (Ok n) output') where
  abbrev page : List ℕ
  page = page_of names litres

  fits : Fit names litres (length output) n
  fits = fit names litres (length output) n (sym called.answered)

  written : output' ≡ page ++ drop (length page) output
  unfolding output_after
  written = called.written ∙ rw fits.unfailing

  line : (i : ℕ) → i < length litres → Row i 0 (names_of names) litres output'
  line i h =
      let l = fits.limit in
      rw written (row i 0 (names_of names) litres (drop (length page) output) fits.farms (omega (arith, l)) h)

  litre : (i : ℕ) → i < length litres → litres_shown i output' ≡ some (get_or litres i 0)
  litre i h = let r = line i h in ap (λ l. shown (take 6 (drop 15 l))) r.line ∙ line_litres _ _ _ r.narrow

  total : (i : ℕ) → i < length litres → total_shown i output' ≡ some (sum (take (i + 1) litres))
  total i h = let r = line i h in ap (λ l. shown (take 8 (drop 22 l))) r.line ∙ line_total _ _ _ r.narrow ∙ ap some (zero-add _)

  carried : (i : ℕ) → i + 1 < length litres → total_shown (i + 1) output' ≡ plus (total_shown i output') (litres_shown (i + 1) output')
  carried i h =
      let k : i < length litres = omega (arith, h) in
      total (i + 1) h ∙ ap some (sum_next litres (i + 1) h) ∙ rw (total i k, litre (i + 1) h)

  pub made : PageMade names litres output n output'
  unfolding left_in
  made =
      record {
        size = fits.size ∙ page_length names litres fits.farms fits.limit;
        paired = fits.paired;
        limit = fits.limit;
        room = rw fits.size fits.inside;
        behind = ap (drop n) written ∙ drop_at page (drop (length page) output) n (sym fits.size) ∙ ap (λ m. drop m output) (sym fits.size);
        name = λ i h. let r = line i h in ap (take 14) r.line ∙ line_name _ _ _ r.narrow;
        litre = litre;
        total = total;
        carried = carried;
        last = λ h. let k : length litres - 1 < length litres = omega (arith, h) in
            let m : length litres ≤ length litres - 1 + 1 = omega (arith, h) in
            total (length litres - 1) k ∙ ap (λ ls. some (sum ls)) (take_all _ litres m);
      }

pub failed : (names litres output : List ℕ) (f : Failure) (output' : List ℕ) → PageCalled names litres output (Err f) output' → (24 ≤ number_of f) × (number_of f ≤ 26) × (output' ≡ output)
failed names litres output f output' called =
    let kept = called.written ∙ sym (none_written names litres output (number_of f) (sym called.answered)) in
    let number = answer_number names litres (length output) (number_of f) (sym called.answered) in
    (number.0, number.1, kept)
