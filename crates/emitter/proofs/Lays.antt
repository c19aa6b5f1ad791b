-- Emission of one part after another, and forward jumps filled in.
use Prim.Native.Nat.{ℕ, suc, ◌+◌, ◌≤◌, ◌<◌}
use mathlib.Core.Path.{◌≡◌, refl, sym, ap, ◌∙◌}
use mathlib.Core.Bool.{Bool, true, false}
use mathlib.Core.List.{List, [], ◌∷◌}
use native.Mathlib.Omega.{arith}
use borrow.Author.Tests.{lt-ltb, ltb-true, ltb-false}
use lib.ListN.{length, set, length-set}
use lib.Seq.{set-set, set_comm, sets, get_or-set_other}
use lib.Dec.{ltb}
use Rattle.prelude.specs.Choice.{whether}
use Rattle.instruction.specs.Opcode.{JMP}
use Rattle.layout.specs.Words.{Sym, ◌⧺◌}
use Rattle.layout.specs.Pool.{literal_of}
use Rattle.layout.specs.Map.{reference, word_of}
use Rattle.layout.specs.Emission.{Emitted, last_address, next_address, with_word, with_literals, Bases, frame_of, emit_word, emit_all}
use Rattle.emitter.specs.Lays.{WordsAt, Kept, KeptImage, Lays, ForwardJump, filled}

-- ---- Runs of words

pub append_assoc : (us vs ws : List Sym) → (us ⧺ vs) ⧺ ws ≡ us ⧺ vs ⧺ ws
unfolding ◌⧺◌
append_assoc [] vs ws = refl
append_assoc (u ∷ us) vs ws = ap (λ r. u ∷ r) (append_assoc us vs ws)

pub append_none : (us : List Sym) → us ⧺ [] ≡ us
unfolding ◌⧺◌
append_none [] = refl
append_none (u ∷ us) = ap (λ r. u ∷ r) (append_none us)

pub append_length : (us vs : List Sym) → length (us ⧺ vs) ≡ length us + length vs
unfolding ◌⧺◌
append_length [] vs = omega arith
append_length (u ∷ us) vs = let h = append_length us vs in omega (arith, h)

module _ (f : Bases) where
  pub emit_append : (e : Emitted) (us vs : List Sym) → emit_all f e (us ⧺ vs) ≡ emit_all f (emit_all f e us) vs
  unfolding emit_all ◌⧺◌
  emit_append e [] vs = refl
  emit_append e (u ∷ us) vs = emit_append (emit_word f e u) us vs

-- ---- Parts

pub next_below : (at : ℕ) → at < last_address → next_address at ≡ suc at
unfolding next_address
next_below at h = rw (lt-ltb at last_address h)

pub next_grows : (at : ℕ) → at ≤ next_address at
unfolding next_address
next_grows at = go (ltb at last_address)
  where
    go : (b : Bool) → at ≤ whether b (λ _. suc at) (λ _. at)
    go true = omega arith
    go false = omega arith

pub next_step : (at : ℕ) → next_address at ≤ suc at
unfolding next_address
next_step at = go (ltb at last_address)
  where
    go : (b : Bool) → whether b (λ _. suc at) (λ _. at) ≤ suc at
    go true = omega arith
    go false = omega arith

module _ (f : Bases) where
  word_next : (a : Emitted) (w : Sym) → (emit_word f a w).next ≡ next_address a.next
  unfolding emit_word with_word
  word_next a w = refl

  word_below : (a : Emitted) (w : Sym) → (emit_word f a w).next < last_address → (emit_word f a w).next ≡ a.next + 1
  word_below a w h =
      let d = word_next a w in
      let g = next_grows a.next in
      let e = next_below a.next (omega (arith, d, g, h)) in
      omega (arith, d, e)

-- ---- What is kept

pub kept_here : {a : Emitted} → Kept a a
kept_here = record { long = refl; below = λ k l. refl; grows = omega arith }

-- no store, at an address further on
pub kept_upto : {a : Emitted} {end : ℕ} → a.next ≤ end → Kept a (record { image = a.image; next = end; pool = a.pool })
kept_upto h = record { long = refl; below = λ k l. refl; grows = h }

pub kept_then : {a b c : Emitted} → Kept a b → Kept b c → Kept a c
kept_then p q =
    record {
      long = q.long ∙ p.long;
      below = λ k h. q.below k (omega (arith, p.grows, h)) ∙ p.below k h;
      grows = omega (arith, p.grows, q.grows);
    }

-- of a failed part's image: as it was, after a part that was kept, and after another
pub here : {a : Emitted} → KeptImage a a.image
here = record { long = refl; below = λ at l. refl }

pub of_kept : {a b : Emitted} → Kept a b → KeptImage a b.image
of_kept p = record { long = p.long; below = p.below }

pub kept_image : {a b : Emitted} {image : List ℕ} → Kept a b → KeptImage b image → KeptImage a image
kept_image p q =
    record { long = q.long ∙ p.long; below = λ at h. q.below at (omega (arith, p.grows, h)) ∙ p.below at h }

-- a store at the address or above
pub kept_set : {a b : Emitted} (i v : ℕ) → a.next ≤ i → Kept a b → Kept a (record { image = set b.image i v; next = b.next; pool = b.pool })
kept_set {a} {b} i v h p =
    record { long = simp length-set p.long; below = λ k l. get_or-set_other b.image i k v 0 (λ q. omega (arith, h, l, q)) ∙ p.below k l; grows = p.grows }

pub kept_sets : {a b : Emitted} (i : ℕ) (vs : List ℕ) → a.next ≤ i → Kept a b → Kept a (record { image = sets b.image i vs; next = b.next; pool = b.pool })
kept_sets i [] h p = p
kept_sets i (v ∷ vs) h p = kept_sets (suc i) vs (omega (arith, h)) (kept_set i v h p)

kept_word : (f : Bases) (a : Emitted) (w : Sym) → Kept a (emit_word f a w)
unfolding emit_word with_word
kept_word f a w =
    let k = kept_set {a = a} {b = a} a.next (word_of (frame_of f (with_literals a.pool (literal_of w []))) w) (omega arith) kept_here in
    record { long = k.long; below = k.below; grows = next_grows a.next }

module _ {f : Bases} where
  -- no words
  pub nothing : {a : Emitted} → Lays f a a (λ _. [])
  unfolding emit_all
  nothing = record { kept = kept_here; fits = λ _. refl; counts = λ _. omega arith; over = λ h. omega (arith, h) }

  -- one word
  pub word : {a : Emitted} (w : Sym) → Lays f a (emit_word f a w) (λ _. w ∷ [])
  unfolding emit_all
  word {a} w =
      let d = word_next f a w in
      let s = next_step a.next in
      record { kept = kept_word f a w; fits = λ _. refl; counts = word_below f a w; over = λ h. omega (arith, d, s, h) }

  -- one part after another
  pub sequence : {a b c : Emitted} {u v : WordsAt} → Lays f a b u → Lays f b c v → Lays f a c (λ at. u at ⧺ v (at + length (u at)))
  sequence {a} {b} {c} {u} {v} p q =
      record {
        kept = kept_then p.kept q.kept;
        fits = λ h. fits_both h (below h);
        counts = λ h. counts_both h (below h);
        over = λ h. over_both h;
      }
    where
      second : List Sym
      second = v (a.next + length (u a.next))

      below : c.next < last_address → b.next < last_address
      below h = let g = q.kept.grows in omega (arith, g, h)

      total : length (u a.next ⧺ second) ≡ length (u a.next) + length second
      total = append_length (u a.next) second

      moved : b.next < last_address → v b.next ≡ second
      moved h = ap v (p.counts h)

      fits_both : c.next < last_address → b.next < last_address → c ≡ emit_all f a (u a.next ⧺ second)
      fits_both h k = q.fits h ∙ ap (emit_all f b) (moved k) ∙ ap (λ e. emit_all f e second) (p.fits k) ∙ sym (emit_append f a (u a.next) second)

      counts_both : c.next < last_address → b.next < last_address → c.next ≡ a.next + length (u a.next ⧺ second)
      counts_both h k = let n = q.counts h in let m = p.counts k in let l = ap length (moved k) in omega (arith, n, m, l, total)

      over_both : last_address ≤ c.next → last_address ≤ a.next + length (u a.next ⧺ second)
      over_both h = go (ltb b.next last_address) refl
        where
          go : (t : Bool) → ltb b.next last_address ≡ t → last_address ≤ a.next + length (u a.next ⧺ second)
          go true e = let k : b.next < last_address = ltb-true _ _ e in let o = q.over h in let l = ap length (moved k) in let m = p.counts k in omega (arith, o, l, m, total)
          go false e = let k : last_address ≤ b.next = ltb-false _ _ e in let o = p.over k in omega (arith, o, total)

  -- the same words, put otherwise: where they stand, or wherever they stand
  pub same_here : {a b : Emitted} {u v : WordsAt} → u a.next ≡ v a.next → Lays f a b u → Lays f a b v
  same_here {a} {b} {u} {v} e p =
      let l = ap length e in
      record {
        kept = p.kept;
        fits = λ h. p.fits h ∙ ap (emit_all f a) e;
        counts = λ h. let n = p.counts h in omega (arith, n, l);
        over = λ h. let n = p.over h in omega (arith, n, l);
      }

  pub same : {a b : Emitted} {u v : WordsAt} → ((at : ℕ) → u at ≡ v at) → Lays f a b u → Lays f a b v
  same {a} {b} {u} {v} e p = same_here {u = u} {v = v} (e a.next) p

  -- words that do not depend on where they stand
  pub words : {a : Emitted} (ws : List Sym) → Lays f a (emit_all f a ws) (λ _. ws)
  unfolding emit_all ◌⧺◌
  words [] = nothing
  words {a = a} (w ∷ ws) = sequence (word w) (words {a = emit_word f a w} ws)

-- ---- Forward jumps

module _ (f : Bases) where
  -- a word below the next address can be stored before or after
  set_word : (e : Emitted) (i v : ℕ) (w : Sym) → i < e.next
      → emit_word f (record { image = set e.image i v; next = e.next; pool = e.pool }) w
      ≡ record { image = set (emit_word f e w).image i v; next = (emit_word f e w).next; pool = (emit_word f e w).pool }
  unfolding emit_word with_word
  set_word e i v w h = rw (set_comm e.image i e.next v _ (λ q. omega (arith, h, q)))

  set_all : (e : Emitted) (i v : ℕ) (ws : List Sym) → i < e.next
      → emit_all f (record { image = set e.image i v; next = e.next; pool = e.pool }) ws
      ≡ record { image = set (emit_all f e ws).image i v; next = (emit_all f e ws).next; pool = (emit_all f e ws).pool }
  unfolding emit_all
  set_all e i v [] h = refl
  set_all e i v (w ∷ ws) h =
      let g = next_grows e.next in
      let d = word_next f e w in
      ap (λ x. emit_all f x ws) (set_word e i v w h) ∙ set_all (emit_word f e w) i v ws (omega (arith, d, g, h))

  set_jump : (e : Emitted) (z : ℕ) → emit_word f e (Sym.jump z) ≡ record { image = set (emit_word f e (Sym.jump 0)).image e.next (reference JMP false z); next = (emit_word f e (Sym.jump 0)).next; pool = (emit_word f e (Sym.jump 0)).pool }
  unfolding emit_word with_word word_of with_literals literal_of
  set_jump e z = rw (set-set e.image e.next (reference JMP false 0) (reference JMP false z))

  jump_first : (e : Emitted) (z : ℕ) (ws : List Sym) → e.next < (emit_word f e (Sym.jump 0)).next
      → emit_all f e (Sym.jump z ∷ ws)
      ≡ record { image = filled (emit_all f e (Sym.jump 0 ∷ ws)).image e.next z; next = (emit_all f e (Sym.jump 0 ∷ ws)).next; pool = (emit_all f e (Sym.jump 0 ∷ ws)).pool }
  unfolding emit_all
  jump_first e z ws h = ap (λ x. emit_all f x ws) (set_jump e z) ∙ set_all (emit_word f e (Sym.jump 0)) e.next (reference JMP false z) ws h

-- the state with the jump filled in
abbrev pub filled_in : Emitted → ℕ → ℕ → Emitted
filled_in e hole z = record { image = filled e.image hole z; next = e.next; pool = e.pool }

module _ {f : Bases} where
  -- a jump that is filled in later
  pub jump_later : {a b : Emitted} {u : WordsAt} → Lays f a b u → ForwardJump f a (emit_word f b (Sym.jump 0)) (λ at z. u at ⧺ Sym.jump z ∷ []) b.next
  jump_later {a} {b} {u} p =
      record {
        before = u;
        rest = λ _. [];
        cut = λ at z. refl;
        lays = sequence p (word (Sym.jump 0));
        place = λ h. let g = (word {f = f} {a = b} (Sym.jump 0)).kept.grows in p.counts (omega (arith, g, h));
        inside = p.kept.grows;
      }

  -- what follows keeps it
  pub before_rest : {a b c : Emitted} {w : ℕ → ℕ → List Sym} {v : WordsAt} {hole : ℕ} → ForwardJump f a b w hole → Lays f b c v
      → ForwardJump f a c (λ at z. w at z ⧺ v (at + length (w at 0))) hole
  unfolding ◌⧺◌
  before_rest {w = w} {v = v} p q =
      record {
        before = p.before;
        rest = λ at. p.rest at ⧺ v (at + length (w at 0));
        cut = λ at z. ap (λ x. x ⧺ v (at + length (w at 0))) (p.cut at z) ∙ append_assoc (p.before at) (Sym.jump z ∷ p.rest at) (v (at + length (w at 0)));
        lays = sequence p.lays q;
        place = λ h. let g = q.kept.grows in p.place (omega (arith, g, h));
        inside = p.inside;
      }

  -- the same words, put otherwise
  pub same_forward : {a b : Emitted} {u v : ℕ → ℕ → List Sym} {hole : ℕ} → ((at z : ℕ) → u at z ≡ v at z) → ForwardJump f a b u hole → ForwardJump f a b v hole
  same_forward e p =
      record { before = p.before; rest = p.rest; cut = λ at z. sym (e at z) ∙ p.cut at z; lays = same (λ at. e at 0) p.lays; place = p.place; inside = p.inside }

  -- after other words
  pub after_words : {a b c : Emitted} {u : WordsAt} {w : ℕ → ℕ → List Sym} {hole : ℕ} → Lays f a b u → ForwardJump f b c w hole
      → ForwardJump f a c (λ at z. u at ⧺ w (at + length (u at)) z) hole
  after_words {a} {b} {c} {u} {w} {hole} p q =
      record {
        before = λ at. u at ⧺ q.before (at + length (u at));
        rest = λ at. q.rest (at + length (u at));
        cut = λ at z. ap (λ x. u at ⧺ x) (q.cut (at + length (u at)) z) ∙ sym (append_assoc (u at) (q.before (at + length (u at))) (Sym.jump z ∷ q.rest (at + length (u at))));
        lays = sequence p q.lays;
        place = placed;
        inside = omega (arith, p.kept.grows, q.inside);
      }
    where
      placed : c.next < last_address → hole ≡ a.next + length (u a.next ⧺ q.before (a.next + length (u a.next)))
      placed h =
          let g = q.lays.kept.grows in
          let n = p.counts (omega (arith, g, h)) in
          let m = q.place h in
          let l = ap (λ x. length (q.before x)) n in
          let t = append_length (u a.next) (q.before (a.next + length (u a.next))) in
          omega (arith, n, m, l, t)

  -- THE JUMP FILLED IN, with a target that the words' address gives
  pub fill : {a b : Emitted} {w : ℕ → ℕ → List Sym} {hole z : ℕ} → ForwardJump f a b w hole → (target : ℕ → ℕ) → (b.next < last_address → z ≡ target a.next)
      → Lays f a (filled_in b hole z) (λ at. w at (target at))
  fill {a} {b} {w} {hole} {z} p target e =
      record {
        kept = kept_set hole (reference JMP false z) p.inside p.lays.kept;
        fits = filled_fits;
        counts = λ h. let n = p.lays.counts h in omega (arith, n, long);
        over = λ h. let n = p.lays.over h in omega (arith, n, long);
      }
    where
      at : ℕ
      at = a.next

      first : Emitted
      first = emit_all f a (p.before at)

      size : (y : ℕ) → length (w at y) ≡ length (p.before at) + suc (length (p.rest at))
      size y = ap length (p.cut at y) ∙ append_length (p.before at) (Sym.jump y ∷ p.rest at)

      long : length (w at (target at)) ≡ length (w at 0)
      long = size (target at) ∙ sym (size 0)

      cut_all : (y : ℕ) → emit_all f a (w at y) ≡ emit_all f first (Sym.jump y ∷ p.rest at)
      cut_all y = ap (emit_all f a) (p.cut at y) ∙ emit_append f a (p.before at) (Sym.jump y ∷ p.rest at)

      filled_fits : b.next < last_address → filled_in b hole z ≡ emit_all f a (w at (target at))
      filled_fits h =
          let is = p.lays.fits h ∙ cut_all 0 in
          let all : Lays f first (emit_all f first (Sym.jump 0 ∷ p.rest at)) (λ _. Sym.jump 0 ∷ p.rest at) = words (Sym.jump 0 ∷ p.rest at) in
          let end = ap (λ x. x.next) is in
          let g = all.kept.grows in
          let n = all.counts (omega (arith, end, h)) in
          let m = (words {f = f} {a = a} (p.before at)).counts (omega (arith, end, g, h)) in
          let q = p.place h in
          let i : hole ≡ first.next = omega (arith, m, q) in
          let s = next_below first.next (omega (arith, end, g, n, h)) in
          let d = word_next f first (Sym.jump 0) in
          ap (λ x. filled_in x hole z) is
          ∙ ap (λ x. filled_in (emit_all f first (Sym.jump 0 ∷ p.rest at)) x z) i
          ∙ ap (λ x. filled_in (emit_all f first (Sym.jump 0 ∷ p.rest at)) first.next x) (e h)
          ∙ sym (jump_first f first (target at) (p.rest at) (omega (arith, s, d)))
          ∙ sym (cut_all (target at))
