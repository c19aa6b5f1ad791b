-- Farms, one after another: what is wrong with them, and what is not.
use Prim.Native.Nat.{ℕ, ◌+◌, ◌≤◌, ◌<◌}
use mathlib.Core.Path.{◌≡◌, refl, sym, ap, ◌∙◌}
use mathlib.Core.Bool.{Bool, true, false, ◌&&◌, false≢true}
use mathlib.Core.List.{List, [], ◌∷◌, ◌++◌}
use mathlib.Core.Option.{none, some, some-ne-none}
use native.Mathlib.Numerals.{add-one}
use native.Mathlib.Omega.{arith}
use borrow.Author.Tests.{leb-true, ltb-false, lt-ltb, le-ltb}
use lib.Dec.{leb, ltb}
use lib.ListN.{length, get_or, take, drop, length-drop}
use lib.Seq.{drop-cons, drop-drop}
use Rattle.prelude.specs.Choice.{whether, given}
use Rattle.prelude.specs.Text.{all}
use Rattle.page.specs.Names.{Name, names_of, is_printable, good_name}
use Rattle.page.specs.Page.{first_failure, farm_line, lines_from}
use Rattle.page.specs.Readings.{length_of, Sound}
use Rattle.page.proofs.NameLaws.{Splits, splits}

abbrev pub named : List ℕ → Bool → Name
named text ended = record { text = text; ended = ended }

-- ---- A good name

pub both : (a b : Bool) → (a && b) ≡ true → (a ≡ true) × (b ≡ true)
both true b e = (refl, e)
both false b e = absurd (false≢true e)

pub record Good (n : Name) : Type 0 where
  pub ended : n.ended ≡ true
  pub some : 1 ≤ length n.text
  pub few : length n.text ≤ 14

pub good : (n : Name) → good_name n ≡ true → Good n
good n e =
    let p = both n.ended _ e in
    let q = both (all is_printable n.text) _ p.1 in
    let r = both (leb 1 (length n.text)) _ q.1 in
    record { ended = p.0; some = leb-true _ _ r.0; few = leb-true _ _ r.1 }

-- the bytes of a good name that is the first one, and where the others begin
pub record First (bs : List ℕ) (ns : List Name) : Type 0 where
  pub split : ns ≡ named (take (length_of ns) bs) true ∷ names_of (drop (length_of ns + 1) bs)
  pub good : good_name (named (take (length_of ns) bs) true) ≡ true
  pub inside : length_of ns < length bs

first_good : (bs : List ℕ) (n : Name) (ns : List Name) → Splits bs (n ∷ ns) → good_name n ≡ true → First bs (n ∷ ns)
first_good bs n ns p q =
    let g = good n q in
    let s = p g.ended in
    let e : length_of (n ∷ ns) ≡ length n.text = rw q in
    let m : n ≡ named (take (length_of (n ∷ ns)) bs) true = ap (λ t. named t n.ended) (s.text ∙ ap (λ k. take k bs) (sym e)) ∙ ap (named _) g.ended in
    let j = s.inside in
    record {
      split = ap (λ x. x ∷ ns) m ∙ ap (λ x. named (take (length_of (n ∷ ns)) bs) true ∷ x) (s.others ∙ ap (λ k. names_of (drop (k + 1) bs)) (sym e));
      good = ap good_name (sym m) ∙ q;
      inside = omega (arith, e, j);
    }

pub first : (bs : List ℕ) (ns : List Name) → Splits bs ns → (length_of ns ≡ 0 → ⊥) → First bs ns
first bs [] p h = absurd (h refl)
first bs (n ∷ ns) p h = go (good_name n) refl
  where
    go : (b : Bool) → good_name n ≡ b → First bs (n ∷ ns)
    go true q = first_good bs n ns p q
    go false q = absurd (h (rw q))

-- ---- Failures

pub litres_failure : (bs : List ℕ) (ns : List Name) (l : ℕ) (ls : List ℕ) → Splits bs ns → 0 < length bs → 32767 < l → first_failure ns (l ∷ ls) ≡ some 24
unfolding first_failure
litres_failure bs [] l ls p h k = absurd (omega (arith, h, ap length p))
litres_failure bs (n ∷ ns) l ls p h k = rw (lt-ltb 32767 l k)

pub name_failure_lem : (bs : List ℕ) (ns : List Name) (l : ℕ) (ls : List ℕ) → Splits bs ns → 0 < length bs → l ≤ 32767 → length_of ns ≡ 0 → first_failure ns (l ∷ ls) ≡ some 25
unfolding first_failure
name_failure_lem bs [] l ls p h k z = absurd (omega (arith, h, ap length p))
name_failure_lem bs (n ∷ ns) l ls p h k z = rw (le-ltb 32767 l k) (go (good_name n) refl)
  where
    go : (b : Bool) → good_name n ≡ b → given (whether b (λ _. none) (λ _. some 25)) some (λ _. first_failure ns ls) ≡ some 25
    go false q = refl
    go true q =
        let g = (good n q).some in
        let e : length_of (n ∷ ns) ≡ length n.text = rw q in
        absurd (omega (arith, z, g, e))

pub no_failure_lem : (n : Name) (ns : List Name) (l : ℕ) (ls : List ℕ) → good_name n ≡ true → l ≤ 32767 → first_failure (n ∷ ns) (l ∷ ls) ≡ first_failure ns ls
unfolding first_failure
no_failure_lem n ns l ls g h = rw (le-ltb 32767 l h, g)

-- no farm has anything wrong, in lists that go equally far
pub sound : (ns : List Name) (ls : List ℕ) → first_failure ns ls ≡ none → length ns ≡ length ls → Sound ns ls
unfolding first_failure
sound [] [] e h = tt
sound [] (l ∷ ls) e h = absurd (omega (arith, h))
sound (n ∷ ns) [] e h = absurd (omega (arith, h))
sound (n ∷ ns) (l ∷ ls) e h = go (ltb 32767 l) (good_name n) refl refl e (λ q. sound ns ls q (omega (arith, h)))
  where
    go : (t g : Bool) → ltb 32767 l ≡ t → good_name n ≡ g
        → given (whether t (λ _. some 24) (λ _. whether g (λ _. none) (λ _. some 25))) some (λ _. first_failure ns ls) ≡ none
        → (first_failure ns ls ≡ none → Sound ns ls) → Sound (n ∷ ns) (l ∷ ls)
    go true g p q e rest = absurd (some-ne-none 24 e)
    go false false p q e rest = absurd (some-ne-none 25 e)
    go false true p q e rest = (q, ltb-false 32767 l p, rest e)

-- ---- The farm at an offset, where both lists go on

-- the name there is good: its bytes, and the names behind it
pub record Named (names : List ℕ) (from size : ℕ) : Type 0 where
  pub split : names_of (drop from names) ≡ named (take size (drop from names)) true ∷ names_of (drop (from + (size + 1)) names)
  pub good : good_name (named (take size (drop from names)) true) ≡ true
  pub inside : from + size < length names

module _ (names : List ℕ) (from : ℕ) where
  pub name_at_lem : (size : ℕ) → from ≤ length names → size ≡ length_of (names_of (drop from names)) → (size ≡ 0 → ⊥) → Named names from size
  name_at_lem size h e z =
      let f = first (drop from names) (names_of (drop from names)) (splits (drop from names)) (λ q. z (e ∙ q)) in
      let l = length-drop from names in
      let j = f.inside in
      record {
        split = rw e (f.split ∙ ap (λ ns. named (take (length_of (names_of (drop from names))) (drop from names)) true ∷ names_of ns) (drop-drop _ from names));
        good = rw e f.good;
        inside = omega (arith, l, j, e);
      }

-- ---- The farms that are left

no_zero : (ns : List Name) (l : ℕ) (ls : List ℕ) → Sound ns (l ∷ ls) → length_of ns ≡ 0 → ⊥
no_zero [] l ls s z = absurd s
no_zero (n ∷ ns) l ls s z =
    let g = (good n s.0).some in
    let e : length_of (n ∷ ns) ≡ length n.text = rw s.0 in
    omega (arith, z, g, e)

pub record Next (names litres : List ℕ) (from i size total : ℕ) : Type 0 where
  pub there : Named names from size
  pub few : get_or litres i 0 ≤ 32767
  pub others : Sound (names_of (drop (from + (size + 1)) names)) (drop (i + 1) litres)
  pub line : lines_from total (names_of (drop from names)) (drop i litres)
      ≡ farm_line (take size (drop from names)) (get_or litres i 0) (total + get_or litres i 0) ++ lines_from (total + get_or litres i 0) (names_of (drop (from + (size + 1)) names)) (drop (i + 1) litres)

pub next : {names litres : List ℕ} {from i : ℕ} (size total : ℕ) → from ≤ length names → i < length litres → size ≡ length_of (names_of (drop from names))
    → Sound (names_of (drop from names)) (drop i litres) → Next names litres from i size total
unfolding lines_from
next {names} {litres} {from} {i} size total h k e s =
    let d : drop i litres ≡ get_or litres i 0 ∷ drop (i + 1) litres = rw (add-one i, drop-cons litres i 0 k) in
    let t = rw d at s in
    let n = name_at_lem names from size h e (λ z. no_zero (names_of (drop from names)) (get_or litres i 0) (drop (i + 1) litres) t (sym e ∙ z)) in
    let u = rw n.split at t in
    record { there = n; few = u.1; others = u.2; line = rw (d, n.split) }

pub no_lines : (total : ℕ) (ns : List Name) (ls : List ℕ) → length ls ≤ 0 → lines_from total ns ls ≡ []
unfolding lines_from
no_lines total [] ls h = refl
no_lines total (n ∷ ns) [] h = refl
no_lines total (n ∷ ns) (l ∷ ls) h = absurd (omega (arith, h))

pub ruleset for_judge = (name_at_lem)
