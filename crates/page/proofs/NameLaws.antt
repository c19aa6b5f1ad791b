-- Names, byte by byte.
use Prim.Native.Nat.{ℕ, zero, suc, ◌+◌, ◌≤◌, ◌<◌}
use mathlib.Core.Path.{◌≡◌, refl, sym, ap, ◌∙◌}
use mathlib.Core.Bool.{Bool, true, false, cond, not, ◌&&◌, false≢true}
use mathlib.Core.List.{List, [], ◌∷◌}
use native.Mathlib.Nat.{suc-add}
use native.Mathlib.Numerals.{one-add}
use native.Mathlib.Omega.{arith}
use borrow.Author.Tests.{ltb-true, ltb-false, lt-ltb, ne_eqb, eqb-true, le-leb, lt-leb}
use lib.Dec.{eqb, ltb}
use lib.ListN.{length, get_or, take, drop}
use Rattle.std.specs.Prelude.{Option, Some, None}
use Rattle.std.specs.Option.{unwrap_or}
use Rattle.std.specs.List.{position, position_or_len, list_all}
use Rattle.std.proofs.lemmas.List.{length-take, get_or-take}
use Rattle.std.proofs.lemmas.List.Elements.{All-get_or, All-from_get_or}
use Rattle.std.proofs.lemmas.List.Quantifiers.{position-Some}
use Rattle.std.proofs.lemmas.List.Sums.{position_or_len_is, fails_before_first, AllPass-from_list_all, list_all-from_AllPass}
use Rattle.prelude.specs.Choice.{whether, between}
use Rattle.prelude.specs.Text.{all}
use Rattle.page.specs.Names.{Name, before, names_of, is_printable}
use Rattle.page.specs.Readings.{is_newline, is_other, length_of, sized}

-- ---- The first name, by the first newline

same_all : (p : ℕ → Bool) (s : List ℕ) → list_all p s ≡ all p s
unfolding all
same_all p [] = refl
same_all p (b ∷ bs) = ap (λ t. p b && t) (same_all p bs)

abbrev is_some : Option ℕ → Bool
is_some (Some n) = true
is_some None = false

-- an unended name, or none
abbrev Unended : List Name → Type 0
Unended [] = Unit
Unended (n ∷ ns) = n.ended ≡ false

unended : (bs : List ℕ) → length bs ≤ position_or_len is_newline bs → Unended (names_of bs)
unfolding names_of
unended [] h = tt
unended (b ∷ bs) h = go (is_newline b) h (unended bs)
  where
    go : (t : Bool) → suc (length bs) ≤ cond (not t) (1 + position_or_len is_newline bs) 0 → (length bs ≤ position_or_len is_newline bs → Unended (names_of bs))
        → Unended (whether t (λ _. record { text = []; ended = true } ∷ names_of bs) (λ _. before b (names_of bs)))
    go true k rest = absurd (omega (arith, k))
    go false k rest = in_front (names_of bs) (rest (omega (arith, k)))
      where
        in_front : (ns : List Name) → Unended ns → Unended (before b ns)
        in_front [] u = refl
        in_front (n ∷ ns) u = u

ended : (bs : List ℕ) → position_or_len is_newline bs < length bs → (ns : List Name) × (names_of bs ≡ record { text = take (position_or_len is_newline bs) bs; ended = true } ∷ ns)
unfolding names_of
ended [] h = absurd (omega (arith, h))
ended (b ∷ bs) h = go (is_newline b) h (ended bs)
  where
    k : ℕ
    k = position_or_len is_newline bs

    go : (t : Bool) → cond (not t) (1 + k) 0 < suc (length bs) → (k < length bs → (ns : List Name) × (names_of bs ≡ record { text = take k bs; ended = true } ∷ ns))
        → (ns : List Name) × (whether t (λ _. record { text = []; ended = true } ∷ names_of bs) (λ _. before b (names_of bs)) ≡ record { text = take (cond (not t) (1 + k) 0) (b ∷ bs); ended = true } ∷ ns)
    go true l rest = (names_of bs, refl)
    go false l rest = let r = rest (omega (arith, l)) in (r.0, ap (before b) r.1 ∙ ap (λ n. record { text = take n (b ∷ bs); ended = true } ∷ r.0) (sym (one-add k)))

-- what stands at the first newline, if there is one
module _ (bs : List ℕ) where
  pub no_end : position is_newline bs ≡ None → length_of (names_of bs) ≡ 0
  no_end e = go (ltb (position_or_len is_newline bs) (length bs)) refl e
    where
      none_good : (ns : List Name) → Unended ns → length_of ns ≡ 0
      none_good [] u = refl
      none_good (n ∷ ns) u = rw u

      go : (t : Bool) → ltb (position_or_len is_newline bs) (length bs) ≡ t → cond t (Some (position_or_len is_newline bs)) None ≡ None → length_of (names_of bs) ≡ 0
      go true q z = absurd (false≢true (sym (ap is_some z)))
      go false q z = none_good (names_of bs) (unended bs (ltb-false _ _ q))

  pub at_end : (k : ℕ) → position is_newline bs ≡ Some k → length_of (names_of bs) ≡ whether (list_all is_printable (take k bs) && between 1 14 k) (λ _. k) (λ _. 0)
  at_end k e = go (ltb (position_or_len is_newline bs) (length bs)) refl e
    where
      measured : (m : ℕ) (ns : List Name) → m ≡ k → m < length bs
          → length_of (record { text = take m bs; ended = true } ∷ ns) ≡ whether (list_all is_printable (take k bs) && between 1 14 k) (λ _. k) (λ _. 0)
      measured m ns e l =
          let f : length (take m bs) ≡ m = length-take m bs ∙ omega (arith, l) in
          ap (λ n. whether (all is_printable (take m bs) && between 1 14 n) (λ _. n) (λ _. 0)) f
          ∙ ap (λ t. whether (t && between 1 14 m) (λ _. m) (λ _. 0)) (sym (same_all is_printable (take m bs)))
          ∙ ap (λ n. whether (list_all is_printable (take n bs) && between 1 14 n) (λ _. n) (λ _. 0)) e

      go : (t : Bool) → ltb (position_or_len is_newline bs) (length bs) ≡ t → cond t (Some (position_or_len is_newline bs)) None ≡ Some k
          → length_of (names_of bs) ≡ whether (list_all is_printable (take k bs) && between 1 14 k) (λ _. k) (λ _. 0)
      go true q z =
          let l = ltb-true _ _ q in
          let r = ended bs l in
          ap length_of r.1 ∙ measured (position_or_len is_newline bs) r.0 (ap (λ o. unwrap_or o 0) z) l
      go false q z = absurd (false≢true (ap is_some z))

  module _ (k : ℕ) (e : position is_newline bs ≡ Some k) where
    pub good_length : 1 ≤ k → k ≤ 14 → list_all is_printable (take k bs) ≡ true → sized (length_of (names_of bs)) ≡ Some k
    good_length h l p =
        let q : whether (list_all is_printable (take k bs) && between 1 14 k) (λ _. k) (λ _. 0) ≡ k = rw (p, le-leb 1 k h, le-leb k 14 l) in
        ap sized (at_end k e ∙ q) ∙ one_more k h
      where
        one_more : (n : ℕ) → 1 ≤ n → sized n ≡ Some n
        one_more zero h = absurd (omega (arith, h))
        one_more (suc n) h = refl

    pub other_bytes : list_all is_printable (take k bs) ≡ false → sized (length_of (names_of bs)) ≡ None
    other_bytes p = let q : whether (list_all is_printable (take k bs) && between 1 14 k) (λ _. k) (λ _. 0) ≡ 0 = rw p in ap sized (at_end k e ∙ q)

    pub no_bytes : k ≡ 0 → sized (length_of (names_of bs)) ≡ None
    no_bytes z = ap sized (at_end k e ∙ go (list_all is_printable (take k bs)))
      where
        go : (t : Bool) → whether (t && between 1 14 k) (λ _. k) (λ _. 0) ≡ 0
        go true = rw z
        go false = refl

    pub many_bytes : 14 < k → sized (length_of (names_of bs)) ≡ None
    many_bytes h = ap sized (at_end k e ∙ go (list_all is_printable (take k bs)))
      where
        go : (t : Bool) → whether (t && between 1 14 k) (λ _. k) (λ _. 0) ≡ 0
        go true = rw (le-leb 1 k (omega (arith, h)), lt-leb k 14 h)
        go false = refl

-- ---- The first newline, by the first byte that no name may have

no_newline : (b : ℕ) → is_other b ≡ false → is_newline b ≡ false
no_newline b e = ne_eqb b 10 (λ q. false≢true (sym e ∙ ap is_other q))

printable : (b : ℕ) → is_other b ≡ false → is_printable b ≡ true
printable b e = go (is_printable b) e
  where
    go : (t : Bool) → not t ≡ false → t ≡ true
    go true q = refl
    go false q = absurd (false≢true (sym q))

unprintable : (b : ℕ) → is_other b ≡ true → is_printable b ≡ false
unprintable b e = go (is_printable b) e
  where
    go : (t : Bool) → not t ≡ true → t ≡ false
    go true q = absurd (false≢true q)
    go false q = refl

module _ (bs : List ℕ) where
  none_at : position is_other bs ≡ None → (j : ℕ) → j < length bs → is_other (get_or bs j 0) ≡ false
  none_at e j h = go (ltb (position_or_len is_other bs) (length bs)) refl e
    where
      go : (t : Bool) → ltb (position_or_len is_other bs) (length bs) ≡ t → cond t (Some (position_or_len is_other bs)) None ≡ None → is_other (get_or bs j 0) ≡ false
      go true q z = absurd (false≢true (sym (ap is_some z)))
      go false q z = let l = ltb-false _ _ q in fails_before_first is_other bs j 0 (omega (arith, l, h))

  pub no_other : position is_other bs ≡ None → sized (length_of (names_of bs)) ≡ None
  no_other e = go (position is_newline bs) refl
    where
      go : (o : Option ℕ) → position is_newline bs ≡ o → sized (length_of (names_of bs)) ≡ None
      go None q = ap sized (no_end bs q)
      go (Some m) q = let s = position-Some is_newline bs m 0 q in absurd (false≢true (sym (no_newline _ (none_at e m s.0)) ∙ s.1))

  module _ (k : ℕ) (e : position is_other bs ≡ Some k) where
    there : (k < length bs) × (is_other (get_or bs k 0) ≡ true) × ((j : ℕ) → j < k → is_other (get_or bs j 0) ≡ false)
    there = position-Some is_other bs k 0 e

    -- a newline is the first one, behind printable bytes
    pub newline_there : get_or bs k 0 ≡ 10 → position is_newline bs ≡ Some k
    newline_there q =
        let l = there.0 in
        let first : position_or_len is_newline bs ≡ k = position_or_len_is is_newline bs k 0 (omega (arith, l)) (λ j h. no_newline _ (there.2 j h)) (λ _. ap is_newline q) in
        ap (λ n. cond (ltb n (length bs)) (Some n) None) first ∙ ap (λ t. cond t (Some k) None) (lt-ltb k (length bs) l)

    pub printable_before : list_all is_printable (take k bs) ≡ true
    printable_before =
        let l = there.0 in
        let size : length (take k bs) ≡ k = length-take k bs ∙ omega (arith, l) in
        list_all-from_AllPass is_printable (take k bs) (All-from_get_or (λ b. is_printable b ≡ true) (take k bs) 0 λ j h.
        let h' : j < k = omega (arith, h, size) in
        ap is_printable (get_or-take k bs j 0 h') ∙ printable (get_or bs j 0) (there.2 j h'))

    -- another byte is one of the name's, or there is no newline
    pub other_there : (get_or bs k 0 ≡ 10 → ⊥) → sized (length_of (names_of bs)) ≡ None
    other_there h = go (position is_newline bs) refl
      where
        go : (o : Option ℕ) → position is_newline bs ≡ o → sized (length_of (names_of bs)) ≡ None
        go None q = ap sized (no_end bs q)
        go (Some m) q = behind (ltb m k) (ltb k m) refl refl
          where
            s : (m < length bs) × (is_newline (get_or bs m 0) ≡ true) × ((j : ℕ) → j < m → is_newline (get_or bs j 0) ≡ false)
            s = position-Some is_newline bs m 0 q

            in_name : k < m → (t : Bool) → list_all is_printable (take m bs) ≡ t → t ≡ false
            in_name l false p = refl
            in_name l true p =
                let j = s.0 in
                let size : length (take m bs) ≡ m = length-take m bs ∙ omega (arith, j) in
                let all : is_printable (get_or (take m bs) k 0) ≡ true = All-get_or (λ b. is_printable b ≡ true) (take m bs) k 0 (omega (arith, l, size)) (AllPass-from_list_all is_printable (take m bs) p) in
                absurd (false≢true (sym (unprintable (get_or bs k 0) there.1) ∙ sym (ap is_printable (get_or-take m bs k 0 l)) ∙ all))

            behind : (a b : Bool) → ltb m k ≡ a → ltb k m ≡ b → sized (length_of (names_of bs)) ≡ None
            behind true b p r = absurd (false≢true (sym (no_newline _ (there.2 m (ltb-true _ _ p))) ∙ s.1))
            behind false true p r = other_bytes bs m q (in_name (ltb-true _ _ r) (list_all is_printable (take m bs)) refl)
            behind false false p r =
                let a = ltb-false _ _ p in
                let b = ltb-false _ _ r in
                let same : k ≡ m = omega (arith, a, b) in
                absurd (h (ap (λ n. get_or bs n 0) same ∙ eqb-true _ _ s.1))

pub sized_back : (n : ℕ) → unwrap_or (sized n) 0 ≡ n
sized_back zero = refl
sized_back (suc n) = refl

-- ---- The first name and the others

-- an ended name in front of others, in the bytes that they are read from
pub record Split (bs : List ℕ) (n : Name) (ns : List Name) : Type 0 where
  pub text : n.text ≡ take (length n.text) bs
  pub others : ns ≡ names_of (drop (length n.text + 1) bs)
  pub inside : length n.text < length bs

abbrev pub Splits : List ℕ → List Name → Type 0
Splits bs [] = bs ≡ []
Splits bs (n ∷ ns) = n.ended ≡ true → Split bs n ns

byte_splits : (b : ℕ) (bs : List ℕ) (ns : List Name) → Splits bs ns → Splits (b ∷ bs) (before b ns)
byte_splits b bs [] p = λ e. absurd (false≢true e)
byte_splits b bs (n ∷ ns) p = λ e.
    let s = p e in
    let j = s.inside in
    record {
      text = ap (λ t. b ∷ t) s.text;
      others = s.others ∙ ap (λ m. names_of (drop m (b ∷ bs))) (sym (suc-add (length n.text) 1));
      inside = omega (arith, j);
    }

pub splits : (bs : List ℕ) → Splits bs (names_of bs)
unfolding names_of
splits [] = refl
splits (b ∷ bs) = go (eqb b 10) (splits bs)
  where
    go : (t : Bool) → Splits bs (names_of bs) → Splits (b ∷ bs) (whether t (λ _. record { text = []; ended = true } ∷ names_of bs) (λ _. before b (names_of bs)))
    go true p = λ e. record { text = refl; others = refl; inside = omega arith }
    go false p = byte_splits b bs (names_of bs) p
