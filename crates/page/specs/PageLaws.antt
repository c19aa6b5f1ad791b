-- What holds of every call of `page`: what a page shows, read from its bytes, and what a failure leaves.
use Rattle.std.specs.Prelude.{Ok, Err, ℕ, ◌+◌, ◌-◌, ◌*◌, ◌≤◌, ◌<◌, ◌≡◌, false, List, [], ◌++◌, length, get_or, take, drop, replicate}
use Rattle.std.proofs.Math.Option.{Option, none, some}
use Rattle.prelude.specs.Choice.{given}
use Rattle.prelude.specs.Sum.{sum}
use Rattle.digits.specs.Digits.{shown}
use Rattle.page.specs.Names.{Name, names_of}
use Rattle.page.specs.Page.{PageCalled}
use Rattle.page.specs.Failures.{number_of}
use Rattle.page.specs.declared.failure.Failure.{Failure}

-- ---- A page read back

-- the bytes of the i-th line, counted from 0
abbrev pub line_at : ℕ → List ℕ → List ℕ
line_at i page = take 31 (drop (31 * i) page)

-- what a line shows in its columns; a number only where they have spaces, if any, and then digits alone (B2)
abbrev pub name_shown : ℕ → List ℕ → List ℕ
name_shown i page = take 14 (line_at i page)

abbrev pub litres_shown : ℕ → List ℕ → Option ℕ
litres_shown i page = shown (take 6 (drop 15 (line_at i page)))

abbrev pub total_shown : ℕ → List ℕ → Option ℕ
total_shown i page = shown (take 8 (drop 22 (line_at i page)))

-- ---- What was handed in

-- the bytes of the i-th name
abbrev pub name_at : ℕ → List Name → List ℕ
name_at i names = (get_or names i (record { text = []; ended = false })).text

-- two numbers that are shown, added; none, where one of them is not shown
abbrev pub plus : Option ℕ → Option ℕ → Option ℕ
plus m n = given m (λ a. given n (λ b. some (a + b)) (λ _. none)) (λ _. none)

-- ---- The laws

-- A PAGE THAT IS MADE: its length, what stands behind it, and what each line shows (B2, B3, B5, demand 2e)
pub record PageMade (names litres output : List ℕ) (n : ℕ) (output' : List ℕ) : Type 0 where
  -- a line for each farm, as many names as litres
  pub size : n ≡ 31 * length litres
  pub paired : length (names_of names) ≡ length litres
  pub limit : length litres ≤ 1000
  -- it fits, and no byte behind it is written
  pub room : n ≤ length output
  pub behind : drop n output' ≡ drop n output
  -- no column is cut: each line shows the whole name, filled with spaces, its litres, and the sum of all litres up to it
  pub name : (i : ℕ) → i < length litres → name_shown i output' ≡ name_at i (names_of names) ++ replicate (14 - length (name_at i (names_of names))) 32
  pub litre : (i : ℕ) → i < length litres → litres_shown i output' ≡ some (get_or litres i 0)
  pub total : (i : ℕ) → i < length litres → total_shown i output' ≡ some (sum (take (i + 1) litres))
  -- so each total is the one before it plus its litres, and the last one is that of the whole list
  pub carried : (i : ℕ) → i + 1 < length litres → total_shown (i + 1) output' ≡ plus (total_shown i output') (litres_shown (i + 1) output')
  pub last : 0 < length litres → total_shown (length litres - 1) output' ≡ some (sum litres)

-- over calls of `page`, as a caller sees them (demand 1f)
pub record PageLaws : Type 0 where
  pub made : (names litres output : List ℕ) (n : ℕ) (output' : List ℕ) → PageCalled names litres output (Ok n) output' → PageMade names litres output n output'
  -- one that fails has one of its three numbers, and the output is as it was (demand 1g)
  pub failed : (names litres output : List ℕ) (f : Failure) (output' : List ℕ) → PageCalled names litres output (Err f) output' → (24 ≤ number_of f) × (number_of f ≤ 26) × (output' ≡ output)
