-- A part with a token after it, and words emitted after a part.
use Prim.Native.Nat.{ℕ}
use Rattle.std.specs.Prelude.{Result, Ok, Err}
use mathlib.Core.Path.{◌≡◌, refl, sym, subst, ◌∙◌}
use mathlib.Core.List.{List}
use Rattle.grammar.specs.Parse.{Got, and_then, expect}
use Rattle.grammar.specs.Parse.Got.{got, failed}
use Rattle.layout.specs.Words.{Sym, ◌⧺◌}
use Rattle.parser.specs.declared.Part.{Part}
use Rattle.parser.specs.declared.Failure.{Failure}
use Rattle.emitter.specs.declared.Output.{Output}
use Rattle.emitter.specs.Emitted.{emitted_by}
use Rattle.parser.specs.Reads.{Reads}
use Rattle.parser.specs.Reads.Reads.{read, fails}
use Rattle.parser.proofs.Answers.{then_got, then_failed, onward}
use Rattle.parser.proofs.ReadLaws.{then_then, came, failed_as, kept_as, reads_as}
use Rattle.layout.specs.Emission.{Emitted, Bases, emit_all}
use Rattle.emitter.specs.Lays.{WordsAt, Lays}
use Rattle.emitter.proofs.Lays as lays
use Rattle.expressions.specs.Compiles.{Compiles}
use Rattle.statements.specs.Forms.{followed, Follows}

-- a part and a token after it, then the rest
pub followed_then :
    {A B : Type 0} (source : List ℕ) (kind : ℕ) (g : Got A) (rest : A → ℕ → Got B)
    → and_then g (λ t n. and_then (expect kind source n) (λ _ m. rest t m)) ≡ and_then (followed source kind g) rest
unfolding and_then followed
followed_then source kind (got t n) rest = then_then (expect kind source n) (λ _ m. got t m) rest
followed_then source kind (failed k a) rest = refl

pub follow : {A X : Type 0} {done : A → X → Type 0} {kept kept' : Type 0} {r r' : Result (Part X) Failure} {g : Got A} (source : List ℕ) (kind : ℕ) → Reads done kept r g → Follows source kind r r'
    → ((t : A) (x : X) → done t x → kept') → (kept → kept') → Reads done kept' r' (followed source kind g)
unfolding followed
follow {done = done} {r = Ok p} {r' = Ok q} source kind h e k w =
    let c = came h refl in
    read (then_got _ c.is ∙ then_got _ e.2) refl (subst (λ x. done c.tree x) (sym e.0) c.holds)
follow {r = Ok p} {r' = Err f} source kind h e k w =
    let c = came h refl in
    fails (onward e (λ s. then_got _ c.is ∙ then_failed _ s)) refl (k c.tree p.value c.holds)
follow {r = Err f} source kind h e k w = fails (onward (failed_as h refl) (then_failed _)) e (w (kept_as h refl))

-- where the first part was read, the definition is the rest
pub from_got : {A B X : Type 0} {done : B → X → Type 0} {kept : Type 0} {r : Result (Part X) Failure} {g : Got A} {t : A} {n : ℕ} (rest : A → ℕ → Got B)
    → g ≡ got t n → Reads done kept r (rest t n) → Reads done kept r (and_then g rest)
from_got rest e c = rw (then_got rest e) c

-- a part that is all of a form, with the same words
pub as_form : {A B : Type 0} {f : Bases} {words : A → WordsAt} {words' : B → WordsAt} {a : Emitted} {after : List ℕ} {r : Result (Part Output) Failure} {g : Got A} (h : A → B)
    → ((t : A) (o : Output) → Lays f a (emitted_by o after) (words t) → Lays f a (emitted_by o after) (words' (h t))) → Compiles f words a after r g → Compiles f words' a after r (and_then g (λ t n. got (h t) n))
as_form h k c = reads_as h c refl k (λ w. w)

-- ---- Words emitted after a part

module _ {f : Bases} {a b c : Emitted} where
  -- words after others
  pub then_words : {u : WordsAt} (ws : List Sym) → Lays f a b u → c ≡ emit_all f b ws → Lays f a c (λ at. u at ⧺ ws)
  then_words ws l e = rw e (lays.sequence l (lays.words ws))

pub just_words : {f : Bases} {a b : Emitted} (ws : List Sym) → b ≡ emit_all f a ws → Lays f a b (λ _. ws)
just_words ws e = rw e (lays.words ws)

pub ruleset for_compound = (follow)

pub ruleset for_for_statement = (follow)
