-- The laws of scratch: a test of its length is all that a result has of it.
use Prim.Native.Nat.{ℕ, ◌≤◌, ◌<◌}
use mathlib.Core.Path.{◌≡◌, sym, ap, ◌∙◌}
use mathlib.Core.List.{List}
use native.Mathlib.Omega.{arith}
use borrow.Author.Tests.{le-leb}
use lib.ListN.{length}
use Rattle.compilation.specs.Compile.{Result}
use Rattle.parser.specs.declared.Failure.{Failure}
use Rattle.parser.specs.Failures.{number_of}
use Rattle.parser.proofs.Answers.{numbered}
use Rattle.compiler.specs.Compile.{failure_with, scratch_words, result_on, answer_of, image_after, Answer, failed_with}
use Rattle.compiler.specs.DemandOne.{CompileEnds}
use Rattle.compiler.specs.ScratchLaws.{ScratchLaws}
use Rattle.compiler.proofs.ReadingLaws.{compiles, short_scratch}
use Rattle.compiler.proofs.DemandOne.{demand1_called}
use Rattle.layout.specs.Addresses.{memory_words}

one_result : (source image scratch₁ scratch₂ : List ℕ) → scratch_words ≤ length scratch₁ → scratch_words ≤ length scratch₂
    → result_on source image scratch₁ ≡ result_on source image scratch₂
unfolding result_on
one_result source image scratch₁ scratch₂ l m = rw (le-leb _ _ l, le-leb _ _ m)

-- a failure's number is in its answer
same_number : {n m at at' : ℕ} → failed_with n at ≡ failed_with m at' → n ≡ m
same_number {n} {m} {at} {at'} e =
    let same : failure_with n at ≡ failure_with m at' = cc in
    sym (numbered n) ∙ ap (λ (f : Failure). number_of f.cause) same ∙ numbered m

-- how a call that answers 2 has ended
only_two : {source image scratch image' : List ℕ} {r : Answer} {at : ℕ} → CompileEnds source image scratch r image' → r ≡ failed_with 2 at
    → (length image ≡ memory_words) × (length scratch < scratch_words)
only_two (CompileEnds.wrong_image l e i) q = let z = same_number (sym e ∙ q) in absurd (omega (arith, z))
only_two (CompileEnds.short_scratch l s e i) q = (l, s)
only_two (CompileEnds.failed l s n at e h i) q = let z = same_number (sym e ∙ q) in absurd (omega (arith, h.least, z))
only_two (CompileEnds.accepted l s b entry words globals e i) q = let z : ◌≡◌ {A = ℕ} 0 1 = cc in absurd (omega arith)

pub scratch_laws : ScratchLaws
scratch_laws = record {
  same = λ {source} {image} {scratch₁} {scratch₂} call₁ call₂ l m.
      let e = one_result source image scratch₁ scratch₂ l m in
      (call₁.answered ∙ ap answer_of e ∙ sym call₂.answered, call₁.laid ∙ ap (λ (x : Result). image_after x image) e ∙ sym call₂.laid);
  own = λ {source} {image} {scratch} call h l.
      let e = compiles source image scratch h l in
      (call.answered ∙ ap answer_of e, call.laid ∙ ap (λ (x : Result). image_after x image) e);
  short = λ {source} {image} {scratch} call h l.
      let e = short_scratch source image scratch h l in
      (call.answered ∙ sym e.0, call.laid ∙ sym e.1);
  only_short = λ call q. only_two (demand1_called.compiles _ _ _ _ _ _ call).0 q;
}

pub ruleset for_scratch_laws = (scratch_laws)
