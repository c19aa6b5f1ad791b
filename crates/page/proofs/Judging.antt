-- How a page is judged, farm by farm and then by its lists.
use Prim.Native.Nat.{ℕ, zero, suc, ◌+◌, ◌*◌, ◌≤◌, ◌<◌}
use mathlib.Core.Path.{◌≡◌, refl, sym, ap, ◌∙◌}
use mathlib.Core.Bool.{Bool, true, false, ◌&&◌, false≢true}
use mathlib.Core.List.{List, [], ◌∷◌, ◌++◌}
use mathlib.Core.Option.{Option, none, some, some-ne-none}
use native.Mathlib.Nat.{zero-add}
use native.Mathlib.Numerals.{add-one}
use native.Mathlib.Omega.{arith}
use borrow.Author.Tests.{eq-eqb, ne_eqb, eqb-true, leb-true, ltb-true, ltb-false}
use lib.Dec.{eqb, leb, ltb}
use lib.ListN.{length, get_or, drop, drop_of_length-le, length-drop}
use lib.Seq.{drop-cons, sets, sets-eq}
use Rattle.prelude.specs.Choice.{whether, given}
use Rattle.page.specs.Names.{Name, names_of, good_name}
use Rattle.page.specs.Page.{page_of, first_failure, failure_of, answer_of, output_after}
use Rattle.page.specs.Readings.{length_of, sized, name_of_size, farm_of, fitted_of, Sound}
use Rattle.std.specs.Prelude.{Result, Ok, Err}
use Rattle.std.specs.Result.{is_ok}
use Rattle.text.specs.Wrote.{largest}
use Rattle.text.specs.Adds.{Adds}
use Rattle.text.specs.declared.Text.{Text}
use Rattle.text.proofs.Laws.{stands}
use Rattle.page.specs.Failures.{numbered}
use Rattle.page.specs.declared.failure.Failure.{Failure}
use Rattle.page.proofs.NameLaws.{Splits, splits}
use Rattle.page.proofs.FarmLaws.{sound, litres_failure, name_failure_lem, no_failure_lem, Named}
use Rattle.page.proofs.LineLaws.{lines_length}

-- ---- What a result has

is_made : {A : Type 0} → Result A ℕ → Bool
is_made (Ok a) = true
is_made (Err f) = false

length_in : Result ℕ ℕ → ℕ
length_in (Ok n) = n
length_in (Err f) = 0

number_in : {A : Type 0} → Result A ℕ → ℕ
number_in (Ok a) = 0
number_in (Err f) = f

-- ---- A page of sound farms

pub page_length : (names litres : List ℕ) → Sound (names_of names) litres → length litres ≤ 1000 → length (page_of names litres) ≡ 31 * length litres
page_length names litres s h = lines_length 0 (names_of names) litres s (omega (arith, h))

module _ (names litres : List ℕ) (room : ℕ) where
  -- ---- The answer

  by_farm : (f : ℕ) → first_failure (names_of names) litres ≡ some f → answer_of names litres room ≡ Err f
  unfolding answer_of failure_of
  by_farm f e = rw e

  by_lists : first_failure (names_of names) litres ≡ none → (length (names_of names) ≡ length litres → ⊥) → answer_of names litres room ≡ Err 26
  unfolding answer_of failure_of
  by_lists e h = rw (e, ne_eqb _ _ h)

  by_room : first_failure (names_of names) litres ≡ none → length (names_of names) ≡ length litres → answer_of names litres room ≡ fitted_of (length litres) room
  unfolding answer_of failure_of
  by_room e h = rw (e, eq-eqb _ _ h, h) (go (leb (length litres) 1000) refl (leb (31 * length litres) room))
    where
      go : (a : Bool) → leb (length litres) 1000 ≡ a → (b : Bool)
          → given {A = ℕ} (whether {A = Option ℕ} (a && b) (λ _. none) (λ _. some 26)) Err (λ _. Ok (length (page_of names litres)))
          ≡ whether {A = Result ℕ ℕ} (a && b) (λ _. Ok (31 * length litres)) (λ _. Err 26)
      go false q b = refl
      go true q false = refl
      go true q true = ap Ok (page_length names litres (sound _ _ e h) (leb-true _ _ q))

-- ---- The loop, at an offset of the names and a place of the litres

pub record Judging (names litres : List ℕ) (from farms : ℕ) : Type 0 where
  pub inside : from ≤ length names
  pub few : farms ≤ length litres
  pub failures : first_failure (names_of names) litres ≡ first_failure (names_of (drop from names)) (drop farms litres)
  pub count : length (names_of names) ≡ farms + length (names_of (drop from names))

pub judging_starts : (names litres : List ℕ) → Judging names litres 0 0
judging_starts names litres = record { inside = omega arith; few = omega arith; failures = refl; count = sym (zero-add _) }

unpaired : (ns : List Name) → first_failure ns [] ≡ none
unfolding first_failure
unpaired [] = refl
unpaired (n ∷ ns) = refl

some_names : (bs : List ℕ) (ns : List Name) → Splits bs ns → 0 < length bs → 0 < length ns
some_names bs [] p h = absurd (omega (arith, h, ap length p))
some_names bs (n ∷ ns) p h = omega arith

pub record Passed (litres len size : ℕ) : Type 0 where
  pub few : litres ≤ 32767
  pub same : size ≡ len
  pub some_bytes : size ≡ 0 → ⊥

pub passed : (litres len : ℕ) {size : ℕ} → farm_of litres (sized len) ≡ Ok size → Passed litres len size
unfolding is_made length_in
passed litres len {size} e = go (ltb 32767 litres) len refl refl e
  where
    go : (t : Bool) (n : ℕ) → ltb 32767 litres ≡ t → len ≡ n → ◌≡◌ {A = Result ℕ ℕ} (whether t (λ _. Err 24) (λ _. name_of_size (sized n))) (Ok size) → Passed litres len size
    go true n p q e = absurd (false≢true (ap is_made e))
    go false zero p q e = absurd (false≢true (ap is_made e))
    go false (suc n) p q e = let s = ap length_in e in record { few = ltb-false _ _ p; same = sym s ∙ sym q; some_bytes = λ z. omega (arith, s, z) }

module _ {names litres : List ℕ} {from farms : ℕ} (j : Judging names litres from farms) where
  there : farms < length litres → drop farms litres ≡ get_or litres farms 0 ∷ drop (farms + 1) litres
  there h = rw (add-one farms, drop-cons litres farms 0 h)

  some_left : from < length names → 0 < length (drop from names)
  some_left h = let l = length-drop from names in omega (arith, l, h)

  pub farm_failed : (room f : ℕ) → from < length names → farms < length litres → farm_of (get_or litres farms 0) (sized (length_of (names_of (drop from names)))) ≡ Err f
      → answer_of names litres room ≡ Err f
  unfolding is_made number_in
  farm_failed room f h k z = go (ltb 32767 (get_or litres farms 0)) (length_of (names_of (drop from names))) refl refl z
    where
      l : ℕ
      l = get_or litres farms 0

      failure : (n : ℕ) → first_failure (names_of (drop from names)) (l ∷ drop (farms + 1) litres) ≡ some n → answer_of names litres room ≡ Err n
      failure n q = by_farm names litres room n (j.failures ∙ ap (first_failure (names_of (drop from names))) (there k) ∙ q)

      go : (t : Bool) (n : ℕ) → ltb 32767 l ≡ t → length_of (names_of (drop from names)) ≡ n → ◌≡◌ {A = Result ℕ ℕ} (whether t (λ _. Err 24) (λ _. name_of_size (sized n))) (Err f)
          → answer_of names litres room ≡ Err f
      go true n p q z = failure 24 (litres_failure (drop from names) _ _ _ (splits (drop from names)) (some_left h) (ltb-true _ _ p)) ∙ ap (λ n. Err n) (ap number_in z)
      go false zero p q z =
          failure 25 (name_failure_lem (drop from names) _ _ _ (splits (drop from names)) (some_left h) (ltb-false _ _ p) q) ∙ ap (λ n. Err n) (ap number_in z)
      go false (suc n) p q z = absurd (false≢true (sym (ap is_made z)))

  pub judging_on : (size : ℕ) → farms < length litres → get_or litres farms 0 ≤ 32767 → Named names from size → Judging names litres (from + (size + 1)) (farms + 1)
  judging_on size k b n =
      let i = n.inside in
      let s = ap length n.split in
      let c = j.count in
      record {
        inside = omega (arith, i);
        few = omega (arith, k);
        failures = j.failures ∙ ap (first_failure (names_of (drop from names))) (there k) ∙ ap (λ ns. first_failure ns (get_or litres farms 0 ∷ drop (farms + 1) litres)) n.split ∙ no_failure_lem _ _ _ _ n.good b;
        count = omega (arith, c, s);
      }

  -- ---- Where the loop ends

  names_over : length names ≤ from → names_of (drop from names) ≡ []
  unfolding names_of
  names_over h = ap names_of (drop_of_length-le names h)

  no_names : length names ≤ from → first_failure (names_of names) litres ≡ none
  unfolding first_failure
  no_names h = j.failures ∙ ap (λ ns. first_failure ns (drop farms litres)) (names_over h)

  no_litres : length litres ≤ farms → first_failure (names_of names) litres ≡ none
  no_litres h = j.failures ∙ ap (first_failure (names_of (drop from names))) (drop_of_length-le litres h) ∙ unpaired (names_of (drop from names))

  pub names_left : (room : ℕ) → from < length names → length litres ≤ farms → answer_of names litres room ≡ Err 26
  names_left room h k =
      let c = j.count in
      let s = some_names (drop from names) (names_of (drop from names)) (splits (drop from names)) (some_left h) in
      by_lists names litres room (no_litres k) (λ e. omega (arith, c, s, k, e))

  pub litres_left : (room : ℕ) → length names ≤ from → farms < length litres → answer_of names litres room ≡ Err 26
  litres_left room h k =
      let c = j.count in
      let o = ap length (names_over h) in
      by_lists names litres room (no_names h) (λ e. omega (arith, c, o, k, e))

  pub none_left : (room : ℕ) → length names ≤ from → length litres ≤ farms → answer_of names litres room ≡ fitted_of farms room
  none_left room h k =
      let c = j.count in
      let o = ap length (names_over h) in
      let f = j.few in
      let e : length litres ≡ farms = omega (arith, k, f) in
      by_room names litres room (no_names h) (omega (arith, c, o, k, f)) ∙ ap (λ n. fitted_of n room) e

-- ---- What a page that is made says of its farms

pub record Fit (names litres : List ℕ) (room n : ℕ) : Type 0 where
  pub unfailing : failure_of names litres room ≡ none
  pub farms : Sound (names_of names) litres
  pub paired : length (names_of names) ≡ length litres
  pub limit : length litres ≤ 1000
  pub size : n ≡ length (page_of names litres)
  pub inside : length (page_of names litres) ≤ room

module _ (names litres : List ℕ) (room n : ℕ) where
  unfailed : failure_of names litres room ≡ none → n ≡ length (page_of names litres) → Fit names litres room n
  unfolding failure_of
  unfailed e s = go (first_failure (names_of names) litres) (eqb (length (names_of names)) (length litres)) (leb (length (names_of names)) 1000) (leb (31 * length (names_of names)) room) refl refl refl refl e
    where
      go : (o : Option ℕ) (a b c : Bool) → first_failure (names_of names) litres ≡ o → eqb (length (names_of names)) (length litres) ≡ a → leb (length (names_of names)) 1000 ≡ b
          → leb (31 * length (names_of names)) room ≡ c → given o some (λ _. whether (a && (b && c)) (λ _. none) (λ _. some 26)) ≡ none → Fit names litres room n
      go (some f) a b c p q r t u = absurd (some-ne-none f u)
      go none false b c p q r t u = absurd (some-ne-none 26 u)
      go none true false c p q r t u = absurd (some-ne-none 26 u)
      go none true true false p q r t u = absurd (some-ne-none 26 u)
      go none true true true p q r t u =
          let m = eqb-true (length (names_of names)) (length litres) q in
          let l = leb-true (length (names_of names)) 1000 r in
          let i = leb-true (31 * length (names_of names)) room t in
          let d = sound (names_of names) litres p m in
          let w = page_length names litres d (omega (arith, m, l)) in
          record { unfailing = e; farms = d; paired = m; limit = omega (arith, m, l); size = s; inside = omega (arith, m, i, w) }

  pub fit : answer_of names litres room ≡ Ok n → Fit names litres room n
  unfolding answer_of is_made length_in
  fit e = go (failure_of names litres room) refl e
    where
      go : (o : Option ℕ) → failure_of names litres room ≡ o → given o Err (λ _. Ok (length (page_of names litres))) ≡ Ok n → Fit names litres room n
      go (some f) p q = absurd (false≢true (ap is_made q))
      go none p q = unfailed p (sym (ap length_in q))

-- ---- The output

pub lines_written : {names litres : List ℕ} (out : List ℕ) {out' : List ℕ} {n : ℕ} → Fit names litres (length out) n → out' ≡ sets out 0 (page_of names litres) → out' ≡ output_after names litres out
unfolding output_after
lines_written {names} {litres} out f w =
    let i = f.inside in
    w ∙ sets-eq (page_of names litres) out 0 (omega (arith, i)) ∙ rw (zero-add, f.unfailing)

pub none_written : (names litres out : List ℕ) (f : ℕ) → answer_of names litres (length out) ≡ Err f → out ≡ output_after names litres out
unfolding answer_of output_after is_made
none_written names litres out f e = go (failure_of names litres (length out)) e
  where
    page : List ℕ
    page = page_of names litres

    go : (o : Option ℕ) → given o Err (λ _. Ok (length page)) ≡ Err f → out ≡ given o (λ _. out) (λ _. page ++ drop (length page) out)
    go (some g) q = refl
    go none q = absurd (false≢true (sym (ap is_made q)))

pub page_written : {a b : Text} (names litres out : List ℕ) (r : Result ℕ Failure) → is_ok r ≡ true → numbered r ≡ answer_of names litres (length out)
    → a.len ≡ 0 → a.out.now ≡ out → length out ≤ largest → Adds a b (page_of names litres) → b.out.now ≡ output_after names litres out
page_written names litres out (Err f) o e z k l p = absurd (false≢true o)
page_written {a} {b} names litres out (Ok n) o e z k l p =
    let f = fit names litres (length out) n (sym e) in
    let w = stands a b (page_of names litres) (omega (arith, z)) (let m = ap length k in omega (arith, m, l)) p in
    lines_written out f (w.written ∙ ap (λ o. sets o a.len (page_of names litres)) k ∙ ap (λ n. sets out n (page_of names litres)) z)

-- ---- The numbers of the failures

abbrev Numbered : Option ℕ → Type 0
Numbered none = Unit
Numbered (some f) = (24 ≤ f) × (f ≤ 26)

farm_number : (ns : List Name) (ls : List ℕ) → Numbered (first_failure ns ls)
unfolding first_failure
farm_number [] ls = tt
farm_number (n ∷ ns) [] = tt
farm_number (n ∷ ns) (l ∷ ls) = go (ltb 32767 l) (good_name n) (farm_number ns ls)
  where
    go : (t g : Bool) → Numbered (first_failure ns ls) → Numbered (given (whether t (λ _. some 24) (λ _. whether g (λ _. none) (λ _. some 25))) some (λ _. first_failure ns ls))
    go true g rest = (omega arith, omega arith)
    go false false rest = (omega arith, omega arith)
    go false true rest = rest

failure_number : (names litres : List ℕ) (room : ℕ) → Numbered (failure_of names litres room)
unfolding failure_of
failure_number names litres room =
    go (first_failure (names_of names) litres) (eqb (length (names_of names)) (length litres) && (leb (length (names_of names)) 1000 && leb (31 * length (names_of names)) room)) (farm_number (names_of names) litres)
  where
    go : (o : Option ℕ) (b : Bool) → Numbered o → Numbered (given o some (λ _. whether b (λ _. none) (λ _. some 26)))
    go (some f) b h = h
    go none true h = tt
    go none false h = (omega arith, omega arith)

pub answer_number : (names litres : List ℕ) (room f : ℕ) → answer_of names litres room ≡ Err f → (24 ≤ f) × (f ≤ 26)
unfolding answer_of is_made number_in
answer_number names litres room f e = go (failure_of names litres room) (failure_number names litres room) e
  where
    go : (o : Option ℕ) → Numbered o → given o Err (λ _. Ok (length (page_of names litres))) ≡ Err f → (24 ≤ f) × (f ≤ 26)
    go (some g) h q = rw (ap number_in q) at h
    go none h q = absurd (false≢true (sym (ap is_made q)))

pub ruleset for_judge = (judging_starts, farm_failed, passed, judging_on, names_left, litres_left, none_left)

pub ruleset for_page = (fit, lines_written, none_written)
