-- Words at home: where each cell and each link of a program belongs, which cells there are, and that placing words that belong there keeps all of a map at home.
use Prim.Native.Nat.{ℕ, zero, suc, ◌+◌, ◌-◌, ◌≤◌}
use mathlib.Core.Path.{◌≡◌, refl, sym, subst, ◌∙◌}
use mathlib.Core.Bool.{Bool, true, false}
use mathlib.Core.List.Memᴰ
use mathlib.Core.List.{List, [], ◌∷◌, ◌++◌, map, Memᴰ}
use native.Mathlib.Nat.{add-zero}
use native.Mathlib.Omega.{arith}
use lib.ListN.{length, get_or, take, drop, replicate, length-append, length-drop, length-replicate}
use lib.Seq.{length-take-le}
use Rattle.tree.specs.Tree.{Id, CellId, Item, Name}
use Rattle.layout.specs.Words.{Sym}
use Rattle.layout.specs.Map.{Frame, Role, role_of, fixed_words, saved_role, placed, item_words, local_items, elements}
use Rattle.tree.specs.Symbols.{item_value, words_taken}
use Rattle.tree.specs.Variables.{item_variables, item_constants, locals_by, elements_of}

-- for each number of a global: its array's element 0 or its procedure's first local; its procedure's link
abbrev pub Spots : Type 0
Spots = ℕ → ℕ × ℕ

abbrev pub home_of : Spots → CellId → ℕ
home_of f (CellId.named Id.x) = 0
home_of f (CellId.named (Id.global n)) = 0o200 + n
home_of f (CellId.named (Id.local q n)) = (f q).0 + n
home_of f (CellId.element a v) = (f a).0 - (65536 - v)

-- the cells that there may be, each with its value in the image
abbrev pub Cells : Type 1
Cells = CellId → ℕ → Type 0

abbrev pub AtHome : Cells → Spots → ℕ → Role → Type 0
AtHome P f k (Role.fixed w) = Unit {0}
AtHome P f k Role.stop = Unit {0}
AtHome P f k (Role.cell i v) = (k ≡ home_of f i) × P i v
AtHome P f k (Role.link n) = k ≡ (f n).1
AtHome P f k Role.saved = Unit {0}
AtHome P f k Role.free = Unit {0}

-- code is at home anywhere, and so is the word for A
code_home : (P : Cells) (f : Spots) (g : Frame) (w : Sym) (k : ℕ) → AtHome P f k (role_of g w)
unfolding role_of
code_home P f g (Sym.generic slot) k = tt
code_home P f g (Sym.shift kind n) k = tt
code_home P f g (Sym.memory code o) k = tt
code_home P f g (Sym.through code n) k = tt
code_home P f g (Sym.jump z) k = tt
code_home P f g (Sym.return link) k = tt
code_home P f g (Sym.saved code) k = tt
code_home P f g Sym.stop k = tt

pub saved_home : (P : Cells) (f : Spots) (checked : Bool) (k : ℕ) → AtHome P f k (saved_role checked)
unfolding saved_role
saved_home P f true k = tt
saved_home P f false k = tt

-- all words from k on
pub data Homes (P : Cells) (f : Spots) : ℕ → List Role → Type 0 where
  none : {k : ℕ} → Homes P f k []
  more : {k : ℕ} {w : Role} {ws : List Role} → AtHome P f k w → Homes P f (suc k) ws → Homes P f k (w ∷ ws)

shift : (a n : ℕ) → suc a + n ≡ a + suc n
shift a n = omega arith

module _ {P : Cells} {f : Spots} where
  pub at_home : {a : ℕ} {m : List Role} → Homes P f a m → (k : ℕ) → AtHome P f (a + k) (get_or m k Role.free)
  at_home none k = tt
  at_home {a} (more {w = w} h hs) zero = subst (λ (n : ℕ). AtHome P f n w) (sym (add-zero a)) h
  at_home {a} (more {ws = ws} h hs) (suc k) = subst (λ (n : ℕ). AtHome P f n (get_or ws k Role.free)) (shift a k) (at_home hs k)

  pub homes_append : {a b : ℕ} {ws vs : List Role} → Homes P f a ws → a + length ws ≡ b → Homes P f b vs → Homes P f a (ws ++ vs)
  homes_append {a} {vs = vs} none e k = subst (λ (n : ℕ). Homes P f n vs) (sym e ∙ add-zero a) k
  homes_append {a} (more {ws = ws} h hs) e k = more h (homes_append hs (shift a (length ws) ∙ e) k)

  homes_take : {a : ℕ} {m : List Role} (n : ℕ) → Homes P f a m → Homes P f a (take n m)
  homes_take zero h = none
  homes_take (suc n) none = none
  homes_take (suc n) (more h hs) = more h (homes_take n hs)

  homes_drop : {a : ℕ} {m : List Role} (n : ℕ) → Homes P f a m → Homes P f (a + n) (drop n m)
  homes_drop {a} {m} zero h = subst (λ (n : ℕ). Homes P f n m) (sym (add-zero a)) h
  homes_drop (suc n) none = none
  homes_drop {a} (suc n) (more {ws = ws} h hs) = subst (λ (k : ℕ). Homes P f k (drop n ws)) (shift a n) (homes_drop n hs)

  pub homes_pool : (vs : List ℕ) (k : ℕ) → Homes P f k (map Role.fixed vs)
  homes_pool [] k = none
  homes_pool (v ∷ vs) k = more tt (homes_pool vs (suc k))

  pub homes_code : (g : Frame) (ws : List Sym) (k : ℕ) → Homes P f k (fixed_words g ws)
  unfolding fixed_words
  homes_code g [] k = none
  homes_code g (w ∷ ws) k = more (code_home P f g w k) (homes_code g ws (suc k))

  pub homes_free : (n k : ℕ) → Homes P f k (replicate n Role.free)
  homes_free zero k = none
  homes_free (suc n) k = more tt (homes_free n (suc k))

-- ---- A map all at home, of n words at least

pub record Settled (P : Cells) (f : Spots) (n : ℕ) (m : List Role) : Type 0 where
  pub homes : Homes P f 0 m
  pub long : n ≤ length m

pub settle : {P : Cells} {f : Spots} {n : ℕ} {m : List Role} (at : ℕ) {ws : List Role} → at ≤ n → Settled P f n m → Homes P f at ws → Settled P f n (placed m at ws)
unfolding placed
settle {P = P} {f = f} {n = n} {m = m} at {ws} low s h =
    let l : n ≤ length m = s.long in
    let here : at ≤ length m = omega arith in
    let t : length (take at m) ≡ at = length-take-le at m here in
    let e : 0 + (at + length ws) ≡ at + length ws = omega arith in
    let z : 0 + length (take at m) ≡ at = omega arith in
    let rest : Homes P f (at + length ws) (drop (at + length ws) m) = subst (λ (k : ℕ). Homes P f k (drop (at + length ws) m)) e (homes_drop (at + length ws) s.homes) in
    record {
      homes = homes_append (homes_take at s.homes) z (homes_append h refl rest);
      long = omega (arith, length-append (take at m) (ws ++ drop (at + length ws) m), length-append ws (drop (at + length ws) m), length-drop (at + length ws) m);
    }

-- ---- The words of declarations

-- what is listed of variables, with any value, and of constants, is among the cells
abbrev pub Variables : Cells → List CellId → Type 0
Variables P cs = (c : CellId) → Memᴰ c cs → (v : ℕ) → P c v

abbrev pub Constants : Cells → List (CellId × ℕ) → Type 0
Constants P cs = (c : CellId × ℕ) → Memᴰ c cs → P c.0 c.1

pub item_home : {P : Cells} {f : Spots} (i : Id) (item : Item) (k : ℕ) → k ≡ home_of f (CellId.named i) → Variables P (item_variables i item) → Constants P (item_constants i item)
    → Homes P f k (item_words i item)
unfolding item_words words_taken item_value item_variables item_constants
item_home i Item.integer k e vs cs = more {w = Role.cell (CellId.named i) 0} (e, vs (CellId.named i) (Memᴰ.head refl) 0) none
item_home i (Item.constant v) k e vs cs = more {w = Role.cell (CellId.named i) v} (e, cs (CellId.named i, v) (Memᴰ.head refl)) none
item_home i (Item.compconstant v) k e vs cs = none

item_length : (i : Id) (item : Item) → length (item_words i item) ≡ words_taken item
unfolding item_words
item_length i item = length-replicate (words_taken item) (Role.cell (CellId.named i) (item_value item))

pub locals_home : {P : Cells} {f : Spots} (q n : ℕ) (ls : List (Name × Item)) (k : ℕ) → k ≡ (f q).0 + n
    → Variables P (locals_by item_variables q n ls) → Constants P (locals_by item_constants q n ls) → Homes P f k (local_items q n ls)
unfolding local_items locals_by
locals_home q n [] k e vs cs = none
locals_home {f = f} q n (l ∷ ls) k e vs cs =
    let i = Id.local q n in
    let c = length (item_words i l.1) in
    let z : n + words_taken l.1 ≡ n + c = omega (arith, item_length i l.1) in
    homes_append (item_home i l.1 k e (λ d m. vs d (Memᴰ.append_left _ m)) (λ d m. cs d (Memᴰ.append_left _ m))) refl
    (locals_home q (n + c) ls (k + c) (omega arith)
    (λ d m. vs d (Memᴰ.append_right (item_variables i l.1) (subst (λ (j : ℕ). Memᴰ d (locals_by item_variables q j ls)) (sym z) m)))
    (λ d m. cs d (Memᴰ.append_right (item_constants i l.1) (subst (λ (j : ℕ). Memᴰ d (locals_by item_constants q j ls)) (sym z) m))))

-- the subscripts left end at -1, and so do the addresses below element 0
pub elements_home : {P : Cells} {f : Spots} (a s n : ℕ) (vs : List ℕ) (k : ℕ) → s + n ≡ 65536 → k + n ≡ (f a).0 → Variables P (elements_of a s n) → Homes P f k (elements a s n vs)
unfolding elements elements_of
elements_home a s zero vs k e g known = none
elements_home {f = f} a s (suc n) [] k e g known =
    let h : k ≡ (f a).0 - (65536 - s) = omega arith in
    more {w = Role.cell (CellId.element a s) 0} (h, known _ (Memᴰ.head refl) 0) (elements_home a (suc s) n [] (suc k) (omega arith) (omega arith) (λ c m. known c (Memᴰ.tail m)))
elements_home {f = f} a s (suc n) (v ∷ vs) k e g known =
    let h : k ≡ (f a).0 - (65536 - s) = omega arith in
    more {w = Role.cell (CellId.element a s) v} (h, known _ (Memᴰ.head refl) v) (elements_home a (suc s) n vs (suc k) (omega arith) (omega arith) (λ c m. known c (Memᴰ.tail m)))
