-- Worked examples of what a subscript is inside of, of the words that declarations take and of the cells that they declare, decided by computation.
use Rattle.std.specs.Prelude.{ℕ, ◌≡◌, refl, Bool, true, false, [], ◌∷◌, map}
use Rattle.tree.specs.Tree.{Id, CellId, Stmt, Stmts, Item, Declaration, Program, is_inside, lowest}
use Rattle.tree.specs.Symbols.{words_taken, globals_of}
use Rattle.tree.specs.Variables.{item_variables, item_constants, locals_by, elements_of, declared_by, variables_of, constants_of, arrays_of}

-- the subscripts of an array of three are -3, -2 and -1; an array of none has no subscript
inside_three : map {B = Bool} (is_inside (record { number = 0; size = 3; checked = false })) (65532 ∷ 65533 ∷ 65535 ∷ 0 ∷ 3 ∷ []) ≡ false ∷ true ∷ true ∷ false ∷ false ∷ []
unfolding is_inside
inside_three = refl

inside_none : map {B = Bool} (is_inside (record { number = 0; size = 0; checked = false })) (65535 ∷ 0 ∷ []) ≡ false ∷ false ∷ []
unfolding is_inside
inside_none = refl

-- -size as a word, of the sizes that arrays may have
lowest_words : map {B = ℕ} (λ n. lowest (record { number = 0; size = n; checked = true })) (0 ∷ 1 ∷ 3 ∷ 8192 ∷ []) ≡ 0 ∷ 65535 ∷ 65533 ∷ 57344 ∷ []
lowest_words = refl

-- a list of locals takes no word of sector 0, whatever it holds
words :
    map {B = ℕ} globals_of (Declaration.item [] Item.integer ∷ Declaration.item [] (Item.constant 5) ∷ Declaration.item [] (Item.compconstant 5) ∷ Declaration.array [] 9 false [] ∷
    Declaration.procedure [] false (([], Item.integer) ∷ ([], Item.integer) ∷ []) (Stmts.one Stmt.empty) ∷ Declaration.next_sector ∷ [])
    ≡ 1 ∷ 1 ∷ 0 ∷ 1 ∷ 1 ∷ 0 ∷ []
unfolding globals_of words_taken
words = refl

-- `.INTEGER I; .CONSTANT K=3; .COMPCONSTANT C=4; .ARRAY T[2]; .PROCEDURE P; .BEGIN .CONSTANT M=5; .INTEGER L; .END; .INTEGER J`
abbrev declaring : Program
declaring =
    record {
      checked = false;
      declarations =
          Declaration.item [] Item.integer ∷ Declaration.item [] (Item.constant 3) ∷ Declaration.item [] (Item.compconstant 4) ∷ Declaration.array [] 2 false [] ∷
          Declaration.procedure [] false (([], Item.constant 5) ∷ ([], Item.integer) ∷ []) (Stmts.one Stmt.empty) ∷ Declaration.item [] Item.integer ∷ [];
      main = Stmts.one Stmt.empty;
    }

-- X, an integer, an array's elements from the lowest, a procedure's local; a constant is no variable
variables :
    variables_of declaring
    ≡ CellId.named Id.x ∷ CellId.named (Id.global 0) ∷ CellId.element 2 65534 ∷ CellId.element 2 65535 ∷ CellId.named (Id.local 3 1) ∷ CellId.named (Id.global 4) ∷ []
unfolding variables_of declared_by locals_by words_taken item_variables elements_of
variables = refl

constants : constants_of declaring ≡ (CellId.named (Id.global 1), 3) ∷ (CellId.named (Id.local 3 0), 5) ∷ []
unfolding constants_of declared_by locals_by words_taken item_constants
constants = refl

-- an array has the number that its elements have, and the program's flag
arrays :
    arrays_of declaring ∷ arrays_of (record { checked = true; declarations = declaring.declarations; main = declaring.main }) ∷ []
    ≡ (record { number = 2; size = 2; checked = false } ∷ []) ∷ (record { number = 2; size = 2; checked = true } ∷ []) ∷ []
unfolding arrays_of declared_by locals_by words_taken
arrays = refl
