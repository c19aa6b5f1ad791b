-- Every definition that a memory map rests on, listed once: an example says `unfolding computed` and is then decided by computation.
use Rattle.std.specs.Prelude.{ℕ, List}
use Rattle.instruction.specs.Table.{table_of}
use Rattle.instruction.specs.Encode.{memory_word, shift_word}
use Rattle.source.specs.Bytes.{same_bytes}
use Rattle.prelude.specs.Choice.{find}
use Rattle.tree.specs.Tree.{Program}
use Rattle.tree.specs.Symbols.{is_x, symbol_of, as_constant, as_integer, as_operand, as_array, as_procedure, as_function, same_level, next_id, item_symbol, words_taken, item_value, declare, declare_item, local_scope, is_taken}
use Rattle.layout.specs.Words.{◌⧺◌, load_words, above_words, below_words, test_words, subscript_words, reach_words, instruction_word, cell_words, unary_words, unaries_words, operator_form, shift_kind, operation_words, operations_words, test_slot, bare_slot, controls, control_word, control_words, expr_end, target_cell, stmt_end, expr_words, stmt_words, procedure_words, main_words}
use Rattle.layout.specs.Pool.{literal_of, literals_of, index_of, added, added_all}
use Rattle.layout.specs.Allocation.{local_words, allocate, allocated, finish}
use Rattle.layout.specs.Limits.{word_limit, name_limit, space_limit, sector_limit, follow_limit, declaration_limit, main_limit}
use Rattle.layout.specs.Map.{address_of, reference, word_of, role_of, fixed_words, placed, saved_role, item_words, local_items, elements, place_declaration, place_all, plans_from, declared, finished, plan_of, front, map_of, image_of}

unfoldable pub computed : Program → List ℕ
unfolding same_bytes find is_x symbol_of as_constant as_integer as_operand as_array as_procedure as_function same_level next_id item_symbol words_taken item_value declare declare_item local_scope is_taken ◌⧺◌ load_words above_words below_words test_words subscript_words reach_words instruction_word cell_words unary_words unaries_words operator_form shift_kind operation_words operations_words test_slot bare_slot controls control_word control_words expr_end target_cell stmt_end expr_words stmt_words procedure_words main_words literal_of literals_of index_of added added_all local_words allocate allocated finish word_limit name_limit space_limit sector_limit follow_limit declaration_limit main_limit table_of memory_word shift_word address_of reference word_of role_of fixed_words placed saved_role item_words local_items elements place_declaration place_all plans_from declared finished plan_of front map_of image_of
computed p = image_of p
