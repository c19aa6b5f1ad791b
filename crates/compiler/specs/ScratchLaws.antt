-- Demand 2i of docs/DEMANDS.md: what scratch decides of a call of `compile`, and what not.
use Rattle.std.specs.Prelude.{ℕ, ◌≤◌, ◌<◌, ◌≡◌, List, length}
use Rattle.compilation.specs.Compile.{compile_def}
use Rattle.compiler.specs.Compile.{scratch_words, Answers, CompileCalled, Answer, failed_with}
use Rattle.layout.specs.Addresses.{memory_words}

-- OF EVERY CALL of `compile`, by its contract (demand 2i)
pub record ScratchLaws : Type 0 where
  -- two calls with one source and one image, each with scratch enough: the same answer, and the same image after them (J15)
  pub same : {source image scratch₁ scratch₂ image₁' image₂' scratch₁' scratch₂' : List ℕ} {r₁ r₂ : Answer}
      → CompileCalled source image scratch₁ r₁ image₁' scratch₁' → CompileCalled source image scratch₂ r₂ image₂' scratch₂'
      → scratch_words ≤ length scratch₁ → scratch_words ≤ length scratch₂ → (r₁ ≡ r₂) × (image₁' ≡ image₂')
  -- where the image has its length, the answer is the source's own, and the image is the source's or, if it fails, as it was (J13, J15)
  pub own : {source image scratch image' scratch' : List ℕ} {r : Answer} → CompileCalled source image scratch r image' scratch'
      → length image ≡ memory_words → scratch_words ≤ length scratch → Answers (compile_def source) image r image'
  -- with fewer words it is 2 at 0 there, whatever the source, and the image is as it was (F2, J1, J13);
  pub short : {source image scratch image' scratch' : List ℕ} {r : Answer} → CompileCalled source image scratch r image' scratch'
      → length image ≡ memory_words → length scratch < scratch_words → (r ≡ failed_with 2 0) × (image' ≡ image)
  -- and nothing else is 2 (F2)
  pub only_short : {source image scratch image' scratch' : List ℕ} {r : Answer} → CompileCalled source image scratch r image' scratch'
      → {at : ℕ} → r ≡ failed_with 2 at → (length image ≡ memory_words) × (length scratch < scratch_words)
