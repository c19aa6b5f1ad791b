-- What the two readings come to: the definition's result.
use Prim.Native.Nat.{ℕ, ◌≤◌, ◌<◌}
use Rattle.std.specs.Prelude.{Ok, Err}
use Rattle.std.specs.Prelude.{Result as Answered}
use mathlib.Core.Path.{◌≡◌, refl, sym, ap, subst, ◌∙◌, fun_ext}
use mathlib.Core.List.{List, [], ◌∷◌, ◌++◌}
use native.Mathlib.Omega.{arith}
use borrow.Author.Tests.{le-leb, lt-leb, eq-eqb, ne_eqb}
use lib.ListN.{length, take, get_or, replicate}
use lib.Seq.{length-take-le}
use Rattle.parser.specs.declared.Part.{Part}
use Rattle.tree.specs.Tree.{Program}
use Rattle.layout.specs.Allocation as layout
use Rattle.grammar.specs.Parse.{Got}
use Rattle.grammar.specs.Parse.Got.{got}
use Rattle.grammar.specs.Program.{parse_program}
use Rattle.layout.specs.Map.{declared, finished, plan_of}
use Rattle.compilation.specs.Compile.{Result, result_of, compile_def, compiled}
use Rattle.layout.specs.Emission.{emit_program}
use Rattle.memory_map.specs.EmittedImage.{EmittedImage}
use Rattle.memory_map.proofs.EmittedImage.{emitted_image}
use Rattle.declarations.specs.declared.SectorEnds.{SectorEnds}
use Rattle.declarations.specs.declared.Reading.{Reading}
use Rattle.parser.specs.declared.Failure.{Failure}
use Rattle.parser.specs.Failures.{number_of}
use Rattle.parser.specs.Reads.{Reads}
use Rattle.declarations.specs.Allocations.{end_of, with_end}
use Rattle.declarations.specs.Scopes.{table_words}
use Rattle.declarations.specs.Procedures.{program_in, ProgramEmitted, program_on}
use Rattle.declarations.proofs.SectorLaws.{each_end}
use Rattle.parser.proofs.ReadLaws.{never, came, failed_as, reads_on}
use Rattle.compiler.specs.Compile.{scratch_words, result_on, answer_of, image_after, Answers, Answer, failed_with}
use Rattle.compiler.specs.Readings.{counted_of}
use Rattle.memory_map.proofs.Sectors.{pool_ends}
use Rattle.layout.specs.Addresses.{memory_words}

-- a second reading does what the first found
pub again : {A X : Type 0} {done : A → X → Type 0} {kept : Type 0} {r : Answered (Part X) Failure} {g : Got A} (t : A) (n : ℕ) → g ≡ got t n → Reads done kept r g → (x : X) × done t x
again {done = done} t n e (Reads.read {t = u} {x} q p d) = let same : u ≡ t = cc in (x, subst (λ y. done y x) same d)
again t n e (Reads.fails q p w) = absurd (never e q.0)

-- a table with room for 512 names
pub on_table : (source table : List ℕ) → table_words ≤ length table → program_on source table ≡ program_in source
unfolding program_on
on_table source table h = rw (le-leb _ _ h)

-- the part of scratch that is lent as the table is one
on_scratch : (source scratch : List ℕ) → table_words ≤ length scratch → program_on source (take table_words scratch) ≡ program_in source
on_scratch source scratch h = on_table source (take table_words scratch) (omega (arith, length-take-le table_words scratch h))

-- ---- The definition's result

module _ (source : List ℕ) (short : length source ≤ 8192) where
  same : parse_program source ≡ program_in source
  unfolding parse_program program_in
  same = rw (le-leb _ _ short)

  pub result : compile_def source ≡ result_of (program_in source)
  unfolding compile_def
  result = ap result_of same

  -- nothing was lent, so nothing is changed
  pub failed_reading : {done : Program → Reading → Type 0} {kept : Type 0} {r : Answered (Part Reading) Failure} {f : Failure} (lent image scratch : List ℕ) → length lent ≡ 0 → table_words ≤ length scratch
      → Reads done kept r (program_on source (take table_words scratch)) → r ≡ Err f → Answers (compile_def source) image (failed_with (number_of f.cause) f.at) (lent ++ image)
  unfolding result_of answer_of image_after
  failed_reading {f = f} [] image scratch h room r p =
      let e : compile_def source ≡ Result.failed (number_of f.cause) f.at = result ∙ ap result_of (sym (on_scratch source scratch room) ∙ (failed_as r p).0) in (rw e, rw e)
  failed_reading (x ∷ xs) image scratch h room r p = absurd (omega arith)

  module _ (p : Program) (n : ℕ) (is : program_in source ≡ got p n) where
    accepted : compile_def source ≡ Result.accepted (compiled p)
    unfolding result_of
    accepted = result ∙ ap result_of is

    module _ (r : Reading) {plan : SectorEnds} {image table image' : List ℕ} (c : ProgramEmitted plan image r.checked r.allocation r.end table image' p) where
      counted : Ok (counted_of r) ≡ answer_of (compile_def source)
      unfolding answer_of compiled declared finished
      counted =
          let entry : r.allocation.output.next ≡ (declared p).next = ap (λ st. st.next) c.allocation in
          let globals : r.allocation.taken ≡ (declared p).scope.taken = ap (λ st. st.scope.taken) c.allocation in
          rw (accepted, entry, globals, c.next, c.pool)

      -- the plan is the definition's
      ends : {plan' : SectorEnds} → plan' ≡ with_end r.allocation.sectors r.end.next → (k : ℕ) → end_of plan' k ≡ (plan_of p k).pool_at
      unfolding finished declared layout.finish
      ends l k =
          ap (λ e. end_of e k) l ∙ each_end c.sound.closed r.end.next k ∙ ap (λ x. get_or (x ++ (r.end.next ∷ [])) k 0) (ap (λ st. st.ends) c.allocation)
          ∙ ap (λ x. get_or ((layout.allocated p.declarations).ends ++ (x ∷ [])) k 0) c.next ∙ sym (pool_ends p k)

      laid : {plan' : SectorEnds} {table' cleared laid' : List ℕ} {kept : Type 0} {again' : Answered (Part Reading) Failure} (image₀ : List ℕ) → plan' ≡ with_end r.allocation.sectors r.end.next
          → cleared ≡ replicate 16384 0 → Reads (λ q x. ProgramEmitted plan' cleared x.checked x.allocation x.end table' laid' q) kept again' (program_in source) → laid' ≡ image_after (compile_def source) image₀
      unfolding image_after compiled EmittedImage
      laid {cleared = cleared} image₀ l z second =
          (again p n is second).1.laid ∙ ap (λ (f : ℕ → ℕ). emit_program f p cleared) (fun_ext (ends l)) ∙ ap (λ (i : List ℕ). emit_program (λ k. (plan_of p k).pool_at) p i) z
          ∙ emitted_image source p n (same ∙ is) ∙ sym (ap (λ e. image_after e image₀) accepted)

  pub accepted_reading : {plan plan' : SectorEnds} {image table image' table' cleared laid' : List ℕ} {kept kept' : Type 0} {read again' : Answered (Part Reading) Failure} {part : Part Reading}
      (image₀ scratch₀ scratch₁ : List ℕ) → table_words ≤ length scratch₀ → Reads (λ q x. ProgramEmitted plan image x.checked x.allocation x.end table image' q) kept read (program_on source (take table_words scratch₀)) → read ≡ Ok part
      → plan' ≡ with_end part.value.allocation.sectors part.value.end.next → cleared ≡ replicate 16384 0 → Reads (λ q x. ProgramEmitted plan' cleared x.checked x.allocation x.end table' laid' q) kept' again' (program_on source (take table_words scratch₁))
      → table_words ≤ length scratch₁ → Answers (compile_def source) image₀ (Ok (counted_of part.value)) laid'
  accepted_reading {part = part} image₀ scratch₀ scratch₁ room first q l z second room' =
      let one = came (reads_on (sym (on_scratch source scratch₀ room)) first) q in
      (counted one.tree part.next one.is part.value one.holds, laid one.tree part.next one.is part.value one.holds image₀ l z (reads_on (sym (on_scratch source scratch₁ room')) second))

-- ---- The lengths

module _ (source image scratch : List ℕ) where
  abbrev pub Done : Answer → List ℕ → Type 0
  Done r image' = Answers (result_on source image scratch) image r image'

  done : (e : Result) {r : Answer} {image' : List ℕ} → result_on source image scratch ≡ e → Answers e image r image' → Done r image'
  done e q h = rw q h

  pub wrong_image_lem : (length image ≡ memory_words → ⊥) → Done (failed_with 1 0) image
  unfolding result_on answer_of image_after
  wrong_image_lem h = done (Result.failed 1 0) (rw (ne_eqb _ _ h)) (refl, refl)

  pub short_scratch : length image ≡ memory_words → length scratch < scratch_words → Done (failed_with 2 0) image
  unfolding result_on answer_of image_after
  short_scratch h l = done (Result.failed 2 0) (rw (eq-eqb _ _ h, lt-leb _ _ l)) (refl, refl)

  pub compiles : length image ≡ memory_words → scratch_words ≤ length scratch → result_on source image scratch ≡ compile_def source
  unfolding result_on
  compiles h l = rw (eq-eqb _ _ h, le-leb _ _ l)

  pub long_source : length image ≡ memory_words → scratch_words ≤ length scratch → 8192 < length source → Done (failed_with 3 0) image
  unfolding compile_def parse_program result_of answer_of image_after
  long_source h l b = done (Result.failed 3 0) (compiles h l ∙ rw (lt-leb _ _ b)) (refl, refl)

  pub checked : length image ≡ memory_words → scratch_words ≤ length scratch → {r : Answer} {image' : List ℕ} → Answers (compile_def source) image r image' → Done r image'
  checked h l d = done (compile_def source) (compiles h l) d
