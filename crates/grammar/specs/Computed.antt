-- Every definition that a parse rests on, listed once: an example says `unfolding computed` and is then decided by computation.
use Rattle.std.specs.Prelude.{ℕ, List}
use Rattle.source.specs.Bytes.{span, starts_with}
use Rattle.source.specs.Keywords.{keyword_length, keyword_kind}
use Rattle.source.specs.Tokens.{number, constant_token, decimal_token, negative_token, octal_token, keyword_token, sign_token, token_of, operator_of, after_blanks, token_at, operator_at, name_of, failure_at}
use Rattle.tree.specs.Tree.{Program}
use Rattle.layout.specs.Computed as layout
use Rattle.grammar.specs.Parse.{Got, and_then, fail_at, within, expect, repeat_by, repeat, separated}
use Rattle.grammar.specs.Cells.{refuse, name_as, constant_of, parse_constant, parse_in_range, operand_of, subscript_of, parse_subscript, cell_start, cell_from, parse_cell, parse_lone_cell}
use Rattle.grammar.specs.Expressions.{term_start, parse_bracketed, parse_call, term_from, parse_unaries, operation_of, parse_operations, parse_chain, cond_from, parse_cond, parse_choice, too_deep_expr, parse_expr}
use Rattle.grammar.specs.Statements.{stmt_start, parse_assigned, parse_element, parse_set_x, parse_guarded, parse_if, parse_when, parse_while, parse_body, parse_for_integer, parse_for_x, parse_for, parse_stmts, parse_compound, stmt_from, stmt_by, parse_stmt, parse_outermost}
use Rattle.grammar.specs.Declarations.{new_name, item_limit, size_of, parse_value, item_from, parse_item, parse_list, parse_local, parse_locals, parse_global, parse_initial, parse_initials, parse_array, parse_limited, parse_procedure, parse_accumulator, parse_checked, parse_declarations}
use Rattle.grammar.specs.Program.{parse_main, parse_program}

unfoldable pub computed : List ℕ → Got Program
unfolding layout.computed span starts_with keyword_length keyword_kind number constant_token decimal_token negative_token octal_token keyword_token sign_token token_of operator_of after_blanks token_at operator_at name_of failure_at and_then fail_at within expect repeat_by repeat separated refuse name_as constant_of parse_constant parse_in_range operand_of subscript_of parse_subscript cell_start cell_from parse_cell parse_lone_cell term_start parse_bracketed parse_call term_from parse_unaries operation_of parse_operations parse_chain cond_from parse_cond parse_choice too_deep_expr parse_expr stmt_start parse_assigned parse_element parse_set_x parse_guarded parse_if parse_when parse_while parse_body parse_for_integer parse_for_x parse_for parse_stmts parse_compound stmt_from stmt_by parse_stmt parse_outermost new_name item_limit size_of parse_value item_from parse_item parse_list parse_local parse_locals parse_global parse_initial parse_initials parse_array parse_limited parse_procedure parse_accumulator parse_checked parse_declarations parse_main parse_program
computed source = parse_program source
