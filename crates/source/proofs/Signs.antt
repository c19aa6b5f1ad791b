-- A sign lies in the source.
use mathlib.Core.Path.{◌≡◌, refl, sym, subst}
use Prim.Native.Nat.{ℕ, suc, ◌+◌, ◌≤◌, ◌<◌}
use mathlib.Core.Bool.{Bool, true, false, ◌&&◌}
use mathlib.Core.List.{List, [], ◌∷◌}
use native.Mathlib.Omega.{arith}
use borrow.Author.Tests.{ne_eqb}
use lib.Dec.{eqb, ltb, ltb→lt, T}
use lib.ListN.{length, get_or}
use Rattle.prelude.specs.Choice.{whether, given, find}
use Rattle.source.specs.Bytes.{starts_with}
use Rattle.source.specs.declared.kind.Kind.{Kind}
use Rattle.source.specs.declared.kind.Kind.TheVariants.{NotEqual, AtMost, AtLeast, Less, Greater, Equal, Semicolon, Comma, PlusSign, Star, Slash, LeftParenthesis, RightParenthesis, LeftBracket, RightBracket, At, Hash, Unknown}
use Rattle.source.specs.declared.Token.{Token}
use Rattle.source.specs.Tokens.{token, signs, sign_token}
use Rattle.source.proofs.Tests.{and_left, and_right}

-- no row is empty
abbrev all_some : List (List ℕ × Kind) → Bool
all_some [] = true
all_some (r ∷ rs) = ltb 0 (length r.0) && all_some rs

-- the token of the first of some signs that bytes start with
unfoldable sign_in : List (List ℕ × Kind) → List ℕ → ℕ → Token
sign_in rows bs at = given (find (λ sign. starts_with sign bs) rows) (λ row. token row.1 0 at (length row.0)) (λ _. token Unknown 0 at 1)

found : (row : List ℕ × Kind) (rows : List (List ℕ × Kind)) (bs : List ℕ) (at : ℕ) → starts_with row.0 bs ≡ true → sign_in (row ∷ rows) bs at ≡ token row.1 0 at (length row.0)
unfolding sign_in find
found row rows bs at e = rw e

other : (row : List ℕ × Kind) (rows : List (List ℕ × Kind)) (bs : List ℕ) (at : ℕ) → starts_with row.0 bs ≡ false → sign_in (row ∷ rows) bs at ≡ sign_in rows bs at
unfolding sign_in find
other row rows bs at e = rw e

no : false ≡ true → ⊥
no e = subst T (sym e) tt

longer : (key bs : List ℕ) → starts_with key bs ≡ true → length key ≤ length bs
unfolding starts_with
longer [] bs e = omega arith
longer (c ∷ cs) [] e = absurd (no e)
longer (c ∷ cs) (b ∷ bs) e = go (eqb c b) (longer cs bs) e
  where
    go : (t : Bool) → (starts_with cs bs ≡ true → length cs ≤ length bs) → whether t (λ _. starts_with cs bs) (λ _. false) ≡ true → suc (length cs) ≤ suc (length bs)
    go true f e = omega (arith, f e)
    go false f e = absurd (no e)

-- a token at an offset that is some bytes wide, up to a number
pub record Wide (at most : ℕ) (t : Token) : Type 0 where
  pub here : t.at ≡ at
  pub some : at < t.next
  pub fits : t.next ≤ at + most

wide_in : (rows : List (List ℕ × Kind)) → T (all_some rows) → (b : ℕ) (bs : List ℕ) (at : ℕ) → Wide at (suc (length bs)) (sign_in rows (b ∷ bs) at)
unfolding sign_in find
wide_in [] t b bs at = record { here = refl; some = omega arith; fits = omega arith }
wide_in (row ∷ rows) t b bs at = go (starts_with row.0 (b ∷ bs)) refl (wide_in rows (and_right (ltb 0 (length row.0)) (all_some rows) t) b bs at)
  where
    go : (u : Bool) → starts_with row.0 (b ∷ bs) ≡ u → Wide at (suc (length bs)) (sign_in rows (b ∷ bs) at) → Wide at (suc (length bs)) (sign_in (row ∷ rows) (b ∷ bs) at)
    go true e h =
        rw (found row rows (b ∷ bs) at e)
        (record {
          here = refl;
          some = omega (arith, ltb→lt 0 (length row.0) (and_left (ltb 0 (length row.0)) (all_some rows) t));
          fits = omega (arith, longer row.0 (b ∷ bs) e);
        })
    go false e h = rw (other row rows (b ∷ bs) at e) h

as_in : (bs : List ℕ) (at : ℕ) → sign_token bs at ≡ sign_in signs bs at
unfolding sign_token sign_in
as_in bs at = refl

pub sign_wide : (b : ℕ) (bs : List ℕ) (at : ℕ) → Wide at (suc (length bs)) (sign_token (b ∷ bs) at)
sign_wide b bs at = rw as_in (wide_in signs tt b bs at)

-- what the first byte decides, whatever follows it
first : (bs : List ℕ) (b at : ℕ) (t : Token) → ((rest : List ℕ) → t ≡ sign_token (b ∷ rest) at) → 0 < length bs → get_or bs 0 0 ≡ b → t ≡ sign_token bs at
first [] b at t f h e = absurd (omega arith)
first (c ∷ bs) b at t f h e = rw e (f bs)

module _ (bs : List ℕ) (at : ℕ) (some : 0 < length bs) where
  pub equal : get_or bs 0 0 ≡ 61 → token Equal 0 at 1 ≡ sign_token bs at
  unfolding sign_token find starts_with
  equal = first bs 61 at _ (λ rest. refl) some

  pub semicolon : get_or bs 0 0 ≡ 59 → token Semicolon 0 at 1 ≡ sign_token bs at
  unfolding sign_token find starts_with
  semicolon = first bs 59 at _ (λ rest. refl) some

  pub comma : get_or bs 0 0 ≡ 44 → token Comma 0 at 1 ≡ sign_token bs at
  unfolding sign_token find starts_with
  comma = first bs 44 at _ (λ rest. refl) some

  pub plus : get_or bs 0 0 ≡ 43 → token PlusSign 0 at 1 ≡ sign_token bs at
  unfolding sign_token find starts_with
  plus = first bs 43 at _ (λ rest. refl) some

  pub star : get_or bs 0 0 ≡ 42 → token Star 0 at 1 ≡ sign_token bs at
  unfolding sign_token find starts_with
  star = first bs 42 at _ (λ rest. refl) some

  pub slash : get_or bs 0 0 ≡ 47 → token Slash 0 at 1 ≡ sign_token bs at
  unfolding sign_token find starts_with
  slash = first bs 47 at _ (λ rest. refl) some

  pub left_parenthesis : get_or bs 0 0 ≡ 40 → token LeftParenthesis 0 at 1 ≡ sign_token bs at
  unfolding sign_token find starts_with
  left_parenthesis = first bs 40 at _ (λ rest. refl) some

  pub right_parenthesis : get_or bs 0 0 ≡ 41 → token RightParenthesis 0 at 1 ≡ sign_token bs at
  unfolding sign_token find starts_with
  right_parenthesis = first bs 41 at _ (λ rest. refl) some

  pub left_bracket : get_or bs 0 0 ≡ 91 → token LeftBracket 0 at 1 ≡ sign_token bs at
  unfolding sign_token find starts_with
  left_bracket = first bs 91 at _ (λ rest. refl) some

  pub right_bracket : get_or bs 0 0 ≡ 93 → token RightBracket 0 at 1 ≡ sign_token bs at
  unfolding sign_token find starts_with
  right_bracket = first bs 93 at _ (λ rest. refl) some

  pub at_sign : get_or bs 0 0 ≡ 64 → token At 0 at 1 ≡ sign_token bs at
  unfolding sign_token find starts_with
  at_sign = first bs 64 at _ (λ rest. refl) some

  pub hash : get_or bs 0 0 ≡ 35 → token Hash 0 at 1 ≡ sign_token bs at
  unfolding sign_token find starts_with
  hash = first bs 35 at _ (λ rest. refl) some

-- a byte that differs
differs : (x b : ℕ) → (b ≡ x → ⊥) → eqb x b ≡ false
differs x b n = ne_eqb x b (λ q. n (sym q))

-- what the second byte decides
pub not_equal : (bs : List ℕ) (at : ℕ) → 1 < length bs → get_or bs 0 0 ≡ 60 → get_or bs 1 0 ≡ 62 → token NotEqual 0 at 2 ≡ sign_token bs at
unfolding sign_token find starts_with
not_equal [] at h e f = absurd (omega arith)
not_equal (c ∷ []) at h e f = absurd (omega arith)
not_equal (c ∷ d ∷ bs) at h e f = rw (e, f) refl

pub at_most : (bs : List ℕ) (at : ℕ) → 1 < length bs → get_or bs 0 0 ≡ 60 → get_or bs 1 0 ≡ 61 → token AtMost 0 at 2 ≡ sign_token bs at
unfolding sign_token find starts_with
at_most [] at h e f = absurd (omega arith)
at_most (c ∷ []) at h e f = absurd (omega arith)
at_most (c ∷ d ∷ bs) at h e f = rw (e, f) refl

pub at_least : (bs : List ℕ) (at : ℕ) → 1 < length bs → get_or bs 0 0 ≡ 62 → get_or bs 1 0 ≡ 61 → token AtLeast 0 at 2 ≡ sign_token bs at
unfolding sign_token find starts_with
at_least [] at h e f = absurd (omega arith)
at_least (c ∷ []) at h e f = absurd (omega arith)
at_least (c ∷ d ∷ bs) at h e f = rw (e, f) refl

pub less_last : (bs : List ℕ) (at : ℕ) → 0 < length bs → length bs < 2 → get_or bs 0 0 ≡ 60 → token Less 0 at 1 ≡ sign_token bs at
unfolding sign_token find starts_with
less_last [] at g h e = absurd (omega arith)
less_last (c ∷ []) at g h e = rw e refl
less_last (c ∷ d ∷ bs) at g h e = absurd (omega arith)

pub less : (bs : List ℕ) (at : ℕ) → 1 < length bs → get_or bs 0 0 ≡ 60 → (get_or bs 1 0 ≡ 62 → ⊥) → (get_or bs 1 0 ≡ 61 → ⊥) → token Less 0 at 1 ≡ sign_token bs at
unfolding sign_token find starts_with
less [] at h e n m = absurd (omega arith)
less (c ∷ []) at h e n m = absurd (omega arith)
less (c ∷ d ∷ bs) at h e n m = rw (e, differs 62 d n, differs 61 d m) refl

pub greater_last : (bs : List ℕ) (at : ℕ) → 0 < length bs → length bs < 2 → get_or bs 0 0 ≡ 62 → token Greater 0 at 1 ≡ sign_token bs at
unfolding sign_token find starts_with
greater_last [] at g h e = absurd (omega arith)
greater_last (c ∷ []) at g h e = rw e refl
greater_last (c ∷ d ∷ bs) at g h e = absurd (omega arith)

pub greater : (bs : List ℕ) (at : ℕ) → 1 < length bs → get_or bs 0 0 ≡ 62 → (get_or bs 1 0 ≡ 61 → ⊥) → token Greater 0 at 1 ≡ sign_token bs at
unfolding sign_token find starts_with
greater [] at h e n = absurd (omega arith)
greater (c ∷ []) at h e n = absurd (omega arith)
greater (c ∷ d ∷ bs) at h e n = rw (e, differs 61 d n) refl

-- a byte that begins no sign
pub none :
    (bs : List ℕ) (at : ℕ) → 0 < length bs →
    (get_or bs 0 0 ≡ 60 → ⊥) → (get_or bs 0 0 ≡ 62 → ⊥) → (get_or bs 0 0 ≡ 61 → ⊥) → (get_or bs 0 0 ≡ 59 → ⊥) → (get_or bs 0 0 ≡ 44 → ⊥)
    → (get_or bs 0 0 ≡ 43 → ⊥) → (get_or bs 0 0 ≡ 42 → ⊥) → (get_or bs 0 0 ≡ 47 → ⊥) → (get_or bs 0 0 ≡ 40 → ⊥) → (get_or bs 0 0 ≡ 41 → ⊥)
    → (get_or bs 0 0 ≡ 91 → ⊥) → (get_or bs 0 0 ≡ 93 → ⊥) → (get_or bs 0 0 ≡ 64 → ⊥) → (get_or bs 0 0 ≡ 35 → ⊥)
    → token Unknown 0 at 1 ≡ sign_token bs at
unfolding sign_token find starts_with
none [] at h n1 n2 n3 n4 n5 n6 n7 n8 n9 n10 n11 n12 n13 n14 = absurd (omega arith)
none (b ∷ bs) at h n1 n2 n3 n4 n5 n6 n7 n8 n9 n10 n11 n12 n13 n14 =
    simp (differs 60 b n1, differs 62 b n2, differs 61 b n3, differs 59 b n4, differs 44 b n5, differs 43 b n6, differs 42 b n7, differs 47 b n8, differs 40 b n9, differs 41 b n10, differs 91 b n11, differs 93 b n12, differs 64 b n13, differs 35 b n14)

pub ruleset for_sign = (not_equal, at_most, at_least, less_last, less, greater_last, greater, none, equal, semicolon, comma, plus, star, slash, left_parenthesis, right_parenthesis, left_bracket, right_bracket, at_sign, hash)
