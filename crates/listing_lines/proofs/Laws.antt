-- The lines of words, and the listing as `listing_def` has it.
use Prim.Native.Nat.{ℕ, zero, suc, ◌+◌, ◌*◌, ◌-◌, ◌≤◌, ◌<◌, min}
use mathlib.Core.Path.{◌≡◌, refl, sym, ap, ◌∙◌}
use mathlib.Core.Bool.{Bool, true, false}
use mathlib.Core.List.{List, [], ◌∷◌, ◌++◌, append_assoc}
use native.Mathlib.Numerals.{add-one}
use native.Mathlib.Omega.{arith}
use borrow.Author.Tests.{leb-true, leb-false}
use lib.Dec.{leb}
use lib.ListN.{length, take, drop, get_or, length-append, drop_of_length-le}
use lib.Seq.{sets, drop-cons, take-nil}
use Rattle.digits.specs.Digits.{octal_by}
use Rattle.text.specs.Wrote.{largest}
use Rattle.text.specs.Adds.{Adds}
use Rattle.text.specs.declared.Text.{Text}
use Rattle.text.proofs.Laws.{Left, begins, goes_on, is_whole, same_added, stands}
use Rattle.digits.proofs.Widths.{decimal_length}
use Rattle.prelude.specs.Text.{bytes}
use Rattle.tree.specs.Tree.{Program}
use Rattle.compilation.specs.Compile.{Result}
use Rattle.compilation.specs.Listing.{word_lines, listing_def}
use Rattle.std.specs.Prelude.{Ok, Err}
use Rattle.parser.proofs.Answers.{numbered}
use Rattle.parser.specs.Failures.{number_of}
use Rattle.parser.specs.declared.Failure.{Failure}
use Rattle.compiler.specs.declared.Program.{Program as Counts}
use Rattle.compiler.specs.Compile.{answer_of, image_after, Answer}
use Rattle.listing_lines.specs.Texts.{word_line, result_lines, count_lines, result_for, AddsListing, Listed}

-- ---- Words

module _ (name image : List ℕ) (i left : ℕ) where
  pub next_word : i < length image → 0 < left
      → word_lines name i (take left (drop i image)) ≡ word_line name i (get_or image i 0) ++ word_lines name (i + 1) (take (left - 1) (drop (i + 1) image))
  unfolding word_lines word_line
  next_word h l =
      let s : left ≡ suc (left - 1) = omega (arith, l) in
      ap (λ x. word_lines name i (take x (drop i image))) s
      ∙ ap (λ x. word_lines name i (take (suc (left - 1)) x)) (drop-cons image i 0 h)
      ∙ simp (append_assoc, add-one)

  no_word : length image ≤ i → word_lines name i (take left (drop i image)) ≡ []
  unfolding word_lines
  no_word h = rw (drop_of_length-le image h, take-nil)

  none_left : left ≤ 0 → word_lines name i (take left (drop i image)) ≡ []
  unfolding word_lines
  none_left h = let e : left ≡ 0 = omega (arith, h) in rw e

-- what is left to be written of the lines of so many words, before the word at an address
module _ (name image : List ℕ) (first count : ℕ) where
  abbrev pub words_from : ℕ → List ℕ
  words_from at = word_lines name at (take (first + count - at) (drop at image))

  pub words_start : (a : Text) → Left a a (words_from first) (word_lines name first (take count (drop first image)))
  words_start a = let e : first + count - first ≡ count = omega arith in rw e (begins a (word_lines name first (take count (drop first image))))

  pub words_next : {a b c : Text} {all : List ℕ} (at : ℕ) → at < length image → at < first + count → Left a b (words_from at) all → Adds b c (word_line name at (get_or image at 0))
      → Left a c (words_from (at + 1)) all
  words_next at h k p q =
      let e : first + count - at - 1 ≡ first + count - (at + 1) = omega arith in
      goes_on (word_line name at (get_or image at 0)) (words_from (at + 1))
      (next_word name image at (first + count - at) h (omega (arith, k)) ∙ ap (λ n. word_line name at (get_or image at 0) ++ word_lines name (at + 1) (take n (drop (at + 1) image))) e)
      p q

  pub words_end : {a b : Text} {all : List ℕ} (at : ℕ) → min (length image) (min (first + count) largest) ≤ at → length image ≤ largest → Left a b (words_from at) all → Adds a b all
  words_end {a} {b} {all} at h l p = go (leb (length image) at) refl
    where
      go : (t : Bool) → leb (length image) at ≡ t → Adds a b all
      go true q = is_whole (no_word name image at (first + count - at) (leb-true (length image) at q)) p
      go false q = let k = leb-false (length image) at q in is_whole (none_left name image at (first + count - at) (omega (arith, h, l, k))) p

-- 16 bytes each
pub words_length : (name : List ℕ) → length name ≡ 2 → (at n : ℕ) (ws : List ℕ) → length (word_lines name at (take n ws)) ≤ 16 * n
unfolding word_lines octal_by
words_length name two at zero ws = omega arith
words_length name two at (suc n) [] = omega arith
words_length name two at (suc n) (w ∷ ws) = simp length-append (omega (arith, two, words_length name two (suc at) n ws))

-- ---- The listing of what `compile` answers and leaves

pub same_lines : (result : Result) (image : List ℕ) (program : Program) → listing_def (result_for program (answer_of result) (image_after result image)) ≡ listing_def result
unfolding listing_def answer_of image_after
same_lines (Result.accepted c) image program = refl
same_lines (Result.failed n at) image program = ap (λ k. listing_def (Result.failed k at)) (numbered n)

-- ---- The whole, which is shorter than the largest offset

module _ {a b : Text} where
  short : {text all : List ℕ} → all ≡ text → Adds a b text → length text ≤ largest → Adds a b all × (length all ≤ largest)
  short e p h = (same_added (sym e) p, let l = ap length e in omega (arith, l, h))

  pub whole_accepted : (image : List ℕ) {o : Answer} (c : Counts) → o ≡ Ok c → c.words < 65536 → c.globals < 65536
      → Adds a b (result_lines 0 0 ++ (count_lines c.entry c.words c.globals ++ (word_lines (bytes "g=") 0o200 (take c.globals (drop 0o200 image)) ++ word_lines (bytes "w=") 0o1000 (take c.words (drop 0o1000 image)))))
      → AddsListing o image a b
  unfolding listing_def result_lines count_lines octal_by
  whole_accepted image c e h k p program =
      let g = words_length (bytes "g=") refl 0o200 c.globals (drop 0o200 image) in
      let w = words_length (bytes "w=") refl 0o1000 c.words (drop 0o1000 image) in
      short (ap (λ x. listing_def (result_for program x image)) e ∙ simp append_assoc) p
      (simp length-append (omega (arith, h, k, g, w, decimal_length 20 0, decimal_length 20 c.words, decimal_length 20 c.globals)))

  pub whole_failed : (image : List ℕ) {o : Answer} (f : Failure) → o ≡ Err f → Adds a b (result_lines (number_of f.cause) f.at) → AddsListing o image a b
  unfolding listing_def result_lines
  whole_failed image f e p program =
      short (ap (λ x. listing_def (result_for program x image)) e) p (simp length-append (omega (arith, decimal_length 20 (number_of f.cause), decimal_length 20 f.at)))

  pub whole : {out : List ℕ} (answer : Answer) (image : List ℕ) → a.len ≡ 0 → a.out.now ≡ out → length out ≤ largest → {after : List ℕ} → after ≡ b.out.now → AddsListing answer image a b
      → Listed answer image out after b.len
  whole {out = out} answer image e f l g p program =
      let all = listing_def (result_for program answer image) in
      let w = stands a b all (omega (arith, e)) (let k = ap length f in omega (arith, k, l)) (p program).0 in
      let n = w.ends in
      let k = (p program).1 in
      (g ∙ w.written ∙ ap (λ o. sets o a.len all) f ∙ ap (λ n. sets out n all) e, omega (arith, n, e, k))

pub ruleset for_put_words = (words_start)
