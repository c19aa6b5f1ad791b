-- The longest listing: how many words an accepted program has, and how many digits each count.
use Prim.Native.Nat.{ℕ, ◌≤◌, ◌<◌}
use mathlib.Core.Path.{◌≡◌, refl, sym, subst}
use mathlib.Core.Bool.{Bool, true, false}
use mathlib.Core.List.{List, [], append-nil}
use native.Mathlib.Omega.{arith}
use lib.Dec.{eqb, leb}
use borrow.Author.Tests.{leb-true, leb-false}
use lib.ListN.{length, drop, length-append}
use Rattle.digits.specs.Digits.{octal_by}
use Rattle.digits.proofs.Widths.{few_digits}
use Rattle.prelude.specs.Text.{bytes}
use Rattle.tree.specs.Tree.{Declaration, Program}
use Rattle.layout.specs.Addresses.{memory_words}
use Rattle.layout.specs.Allocation.{start, allocated, finish}
use Rattle.layout.specs.Map.{declared, finished, front}
use Rattle.compilation.specs.Compile.{Compiled, Result, compiled, compile_def}
use Rattle.compilation.specs.Listing.{listing_def}
use Rattle.parsing_laws.specs.WellFormed.{WellFormed}
use Rattle.parsing_laws.proofs.Parsed.Choices.{choice}
use Rattle.parsing_laws.proofs.Parsed.Programs.{numbered}
use Rattle.memory_map.proofs.Accepted.{accepted}
use Rattle.memory_map.proofs.AtDeclaration.{Here, begin, split}
use Rattle.compiler.specs.Compile.{scratch_words, result_on}
use Rattle.listing_lines.specs.Texts.{longest, ListingLaws}
use Rattle.listing_lines.proofs.Laws.{words_length, same_lines}

-- the counts of a listing that fits
record Counted (c : Compiled) : Type 0 where
  globals : c.globals ≤ 384
  words : c.words ≤ 15871

-- code and pool end below the arrays, and these end at 16,383
counted : (p : Program) → WellFormed p → Counted (compiled p)
unfolding compiled declared finished allocated finish
counted p w =
    let whole = subst (λ (ds : List Declaration). Here p start [] ds (front p)) (sym (append-nil p.declarations)) (begin p w) in
    let end = split p p.declarations start [] [] (front p) whole in
    let top = end.room.top in
    let space = end.last.space in
    record { globals = end.room.few; words = omega arith }

accepted_fits : (c : Compiled) → Counted c → length (listing_def (Result.accepted c)) ≤ longest
unfolding listing_def octal_by
accepted_fits c h =
    let g = words_length (bytes "g=") refl 0o200 c.globals (drop 0o200 c.image) in
    let w = words_length (bytes "w=") refl 0o1000 c.words (drop 0o1000 c.image) in
    let k = h.globals in
    let l = h.words in
    simp length-append (omega (arith, few_digits 20 1 0 (omega arith) (omega arith), few_digits 20 5 c.words (omega arith) (omega arith), few_digits 20 3 c.globals (omega arith) (omega arith)))

-- a number of at most two digits, and an offset of at most four
failed_fits : (n at : ℕ) → n < 100 → at < 10000 → length (listing_def (Result.failed n at)) ≤ longest
unfolding listing_def
failed_fits n at h k = simp length-append (omega (arith, few_digits 20 2 n (omega arith) h, few_digits 20 4 at (omega arith) k))

compile_fits : (source : List ℕ) (result : Result) → compile_def source ≡ result → length (listing_def result) ≤ longest
compile_fits source (Result.accepted c) e = let a = accepted source c e in accepted_fits c (subst Counted (sym a.is) (counted c.program a.well_formed))
compile_fits source (Result.failed n at) e =
    let f = numbered source n at e in
    let near : at < 10000 =
    choice (λ (b : Bool). at < 10000) (leb (length source) 8192) true false
    (λ e. omega (arith, leb-true (length source) 8192 e)) (λ e. omega (arith, (f.long (leb-false (length source) 8192 e)).1)) in
    failed_fits n at (omega arith) near

pub fits : (source image scratch : List ℕ) → length (listing_def (result_on source image scratch)) ≤ longest
unfolding result_on
fits source image scratch =
    choice (λ (r : Result). length (listing_def r) ≤ longest) (eqb (length image) memory_words) _ _
    (λ e. choice (λ (r : Result). length (listing_def r) ≤ longest) (leb scratch_words (length scratch)) _ _
    (λ e. compile_fits source (compile_def source) refl)
    (λ e. failed_fits 2 0 (omega arith) (omega arith)))
    (λ e. failed_fits 1 0 (omega arith) (omega arith))

pub listing_laws : ListingLaws
listing_laws = record { same = same_lines; fits = fits }

pub ruleset for_listing_laws = (listing_laws)
