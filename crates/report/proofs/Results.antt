-- What an answer of `compile` says of the result, and the program behind it.
use Prim.Native.Nat.{ℕ, ◌≤◌}
use mathlib.Core.Path.{◌≡◌, refl, sym, ap, ◌∙◌}
use mathlib.Core.Bool.{Bool, true, false}
use mathlib.Core.List.{List}
use native.Mathlib.Omega.{arith}
use borrow.Author.Tests.{leb-true}
use lib.Dec.{eqb, leb}
use lib.ListN.{length}
use Rattle.prelude.specs.Choice.{whether}
use Rattle.tree.specs.Tree.{Program}
use Rattle.grammar.specs.Parse.{Got}
use Rattle.grammar.specs.Parse.Got.{got, failed}
use Rattle.grammar.specs.Program.{parse_program}
use Rattle.layout.specs.Addresses.{memory_words}
use Rattle.compilation.specs.Compile.{Compiled, Result, compiled, result_of, compile_def}
use Rattle.declarations.specs.Procedures.{program_in}
use Rattle.effect.specs.declared.Switches.{Switches}
use Rattle.machine.specs.declared.Machine.{Machine}
use Rattle.machine.specs.State.{state}
use Rattle.turns.specs.declared.Turned.{Turned}
use Rattle.turns.specs.Turns.{start_machine, turns_def, Answers}
use Rattle.text.specs.Wrote.{largest, Wrote}
use Rattle.text.specs.Adds.{Adds}
use Rattle.text.specs.declared.Text.{Text}
use Rattle.text.proofs.Laws.{stands}
use Rattle.failure_report.specs.Failure.{failure_text}
use Rattle.std.specs.Prelude.{Ok, Err}
use Rattle.parser.specs.declared.Failure.{Failure}
use Rattle.parser.specs.Failures.{number_of}
use Rattle.parser.proofs.Answers.{numbered}
use Rattle.compiler.specs.declared.Program.{Program as Counts}
use Rattle.compiler.specs.Compile.{Answer, failure_with, scratch_words, result_on, answer_of, image_after}
use Rattle.compiler.proofs.ReadingLaws.{result}
use Rattle.report.specs.Shown.{ShowsRun, start_of, shown_of, image_shown}

pub accepted_is : (e : Result) {p : Counts} → Ok p ≡ answer_of e → (c : Compiled) × (e ≡ Result.accepted c) × (p.entry ≡ c.entry)
unfolding answer_of
accepted_is (Result.accepted c) {p} q = let s : p ≡ record { entry = c.entry; words = c.words; globals = c.globals } = cc in (c, refl, ap (λ (x : Counts). x.entry) s)
accepted_is (Result.failed n at) q = absurd (let z : ◌≡◌ {A = ℕ} 0 1 = cc in omega arith)

pub failed_is : (e : Result) {f : Failure} → Err f ≡ answer_of e → e ≡ Result.failed (number_of f.cause) f.at
unfolding answer_of
failed_is (Result.accepted c) q = absurd (let z : ◌≡◌ {A = ℕ} 0 1 = cc in omega arith)
failed_is (Result.failed n at) {f} q = let s : f ≡ failure_with n at = cc in rw (s, numbered n)

module _ (source image scratch : List ℕ) {c : Compiled} (e : result_on source image scratch ≡ Result.accepted c) where
  lent : (scratch_words ≤ length scratch) × (compile_def source ≡ Result.accepted c)
  unfolding result_on
  lent = go (eqb (length image) memory_words) (leb scratch_words (length scratch)) refl e
    where
      go : (a b : Bool) → leb scratch_words (length scratch) ≡ b
          → whether a (λ _. whether b (λ _. compile_def source) (λ _. Result.failed 2 0)) (λ _. Result.failed 1 0) ≡ Result.accepted c
          → (scratch_words ≤ length scratch) × (compile_def source ≡ Result.accepted c)
      go true true q r = (leb-true _ _ q, r)
      go true false q r = absurd (let z : ◌≡◌ {A = ℕ} 0 1 = cc in omega arith)
      go false b q r = absurd (let z : ◌≡◌ {A = ℕ} 0 1 = cc in omega arith)

  pub long_enough : scratch_words ≤ length scratch
  long_enough = lent.0

  pub its_program : (n : ℕ) × (program_in source ≡ got c.program n)
  unfolding compile_def parse_program result_of compiled
  its_program = go (leb (length source) 8192) refl
    where
      of : (g : Got Program) → result_of g ≡ Result.accepted c → (n : ℕ) × (g ≡ got c.program n)
      of (got p n) q = (n, let same : compiled p ≡ c = cc in ap (λ x. got x.program n) same)
      of (failed n at) q = absurd (let z : ◌≡◌ {A = ℕ} 0 1 = cc in omega arith)

      go : (b : Bool) → leb (length source) 8192 ≡ b → (n : ℕ) × (program_in source ≡ got c.program n)
      go true q = of (program_in source) (sym (result source (leb-true _ _ q)) ∙ lent.1)
      go false q = absurd (let f : compile_def source ≡ Result.failed 3 0 = rw q in let g = sym f ∙ lent.1 in let z : ◌≡◌ {A = ℕ} 0 1 = cc in omega arith)

-- ---- What is shown

module _ (source image scratch out : List ℕ) (turns : ℕ) (switches : Switches) where
  abbrev Res : Result
  Res = result_on source image scratch

  run_of : (c : Compiled) {entry : ℕ} {m : Machine} {t : Turned} {image' image'' out' : List ℕ} {r : ℕ} → Res ≡ Result.accepted c → entry ≡ c.entry
      → image' ≡ image_after Res image → m ≡ start_machine entry switches → Answers (turns_def turns (state m image')) t image'' → ShowsRun source t image'' out r out'
      → Wrote out out' 0 r (shown_of source Res turns switches) × (image'' ≡ image_shown Res turns switches image)
  unfolding shown_of image_shown image_after
  run_of c {m = m} {image' = image'} e n laid first ran wrote =
      let at_start : state m image' ≡ start_of c switches =
      ap (λ x. state x image') first ∙ ap (λ k. state (start_machine k switches) image') n ∙ ap (state (start_machine c.entry switches)) (laid ∙ ap (λ x. image_after x image) e) in
      let its = its_program source image scratch e in
      let shown = wrote c.program its.0 its.1 in
      (rw e (rw (ran.0, ran.1, at_start) at shown), rw e (ran.1 ∙ ap (λ s. (turns_def turns s).state.image) at_start))

  pub run_shown : {answer : Answer} {p : Counts} {entry : ℕ} {m : Machine} {t : Turned} {image' image'' out' : List ℕ} {r : ℕ} → answer ≡ answer_of Res → answer ≡ Ok p → entry ≡ p.entry
      → image' ≡ image_after Res image → m ≡ start_machine entry switches → Answers (turns_def turns (state m image')) t image'' → ShowsRun source t image'' out r out'
      → Wrote out out' 0 r (shown_of source Res turns switches) × (image'' ≡ image_shown Res turns switches image)
  run_shown q a n laid first ran wrote = let is = accepted_is Res (sym a ∙ q) in run_of is.0 is.1 (n ∙ is.2) laid first ran wrote

  pub failure_shown : {answer : Answer} {f : Failure} {image' out' : List ℕ} {r : ℕ} → answer ≡ answer_of Res → answer ≡ Err f → image' ≡ image_after Res image
      → Wrote out out' 0 r (failure_text source (number_of f.cause) f.at) → Wrote out out' 0 r (shown_of source Res turns switches) × (image' ≡ image_shown Res turns switches image)
  unfolding shown_of image_shown image_after
  failure_shown q a laid wrote = let is = failed_is Res (sym a ∙ q) in (rw is wrote, rw is (rw is at laid))

-- in the buffer that was lent, from its start
pub in_buffer : {a b : Text} {out out' t : List ℕ} → a.len ≡ 0 → a.out.now ≡ out → length out ≤ largest → out' ≡ b.out.now → Adds a b t → Wrote out out' 0 b.len t
in_buffer {a} {b} {t = t} z k l o p = rw o (rw (k, z) at (stands a b t (omega (arith, z)) (let m = ap length k in omega (arith, m, l)) p))

pub ruleset for_show = (accepted_is, long_enough, run_shown, failure_shown)
