use mathlib.Core.Path.{refl, ap}
use Rattle.source.specs.declared.kind.Kind.TheVariants as Kind
use Rattle.source.proofs.KindLaws.{equal_kinds, other_kinds, unequal_kinds, not_unequal_kinds}
use Rattle.grammar.specs.Expressions.{parse_bracketed}
use Rattle.emitter.specs.Emitted.{emitted_by}
use Rattle.expressions.proofs.Leaves.{hole_later}
use Rattle.expressions.proofs.Compiles.{failing}
use Rattle.expressions.proofs.ComparingLaws.{bare_read, value_failed, value_compared}
use Rattle.expressions.proofs.Forms.{close_missing, bracketed_closed, called_alone, call_failed, called_with, begins_cell, begins_zero, begins_bracket, begins_call, begins_accumulator, unaries_upto, start_failed, term_failed, chained, test_failed, then_missing, first_failed, chosen, from_state, else_missing, second_failed, second_read, deep_failed, is_choice, is_chain}
use Rattle.expressions.proofs.Body.+parts.Goals as goal

pub alternative-returns-in_default : goal.alternative-returns-in_default
alternative-returns-in_default t c = else_missing _ _ _ c.expect-otherwise.ensures c.unwrap_err.ensures

pub alternative-returns-in_default-two : goal.alternative-returns-in_default-two
alternative-returns-in_default-two t c = second_failed _ _ _ c.expect-otherwise.ensures c.in-Ok.is c.expression-two.ensures c.in_default-two.is

pub alternative-returns : goal.alternative-returns
alternative-returns t c = second_read _ _ _ c.expect-otherwise.ensures c.in-Ok.is c.expression-two.ensures c.in-Ok-two.is c.fill_jump.ensures

pub bracketed-returns-in_default : goal.bracketed-returns-in_default
unfolding parse_bracketed
bracketed-returns-in_default t c = failing _ c.expression-inner.ensures c.in_default.is refl (λ w. w)

pub bracketed-returns-in_default-close : goal.bracketed-returns-in_default-close
bracketed-returns-in_default-close t c = close_missing _ _ _ _ c.expression-inner.ensures c.in-Ok.is c.expect-close.ensures c.unwrap_err.ensures

pub bracketed-returns : goal.bracketed-returns
bracketed-returns t c = bracketed_closed _ _ _ _ c.expression-inner.ensures c.in-Ok.is c.expect-close.ensures c.in-Ok-close.is

pub call-returns-then-ne : goal.call-returns-then-ne
call-returns-then-ne t c = called_alone _ _ _ _ _ _ c.token_at-t.ensures (unequal_kinds _ Kind.LeftParenthesis c.ne.ensures c.if-ne.true) c.emit_through.ensures.emitted

pub call-returns-in_default : goal.call-returns-in_default
call-returns-in_default t c =
    call_failed _ _ _ _ _ _ c.token_at-t.ensures (not_unequal_kinds _ Kind.LeftParenthesis c.ne.ensures c.if-ne.false) c.bracketed-argument.ensures c.in_default.is

pub call-returns : goal.call-returns
call-returns t c =
    called_with _ _ _ _ _ _ c.token_at-t.ensures (not_unequal_kinds _ Kind.LeftParenthesis c.ne.ensures c.if-ne.false) c.bracketed-argument.ensures c.in-Ok.is c.emit_through-2.ensures.emitted

pub chain-returns-in_default : goal.chain-returns-in_default
chain-returns-in_default t c = start_failed _ _ _ _ _ (unaries_upto _ _ _ _ c.unaries_next-from.ensures) c.term_start_at-first.ensures c.unwrap_err.ensures

pub chain-returns-in_default-one : goal.chain-returns-in_default-one
chain-returns-in_default-one t c =
    term_failed _ _ _ _ _ (unaries_upto _ _ _ _ c.unaries_next-from.ensures) c.term_start_at-first.ensures c.in-Ok.is c.term-one.ensures c.in_default-one.is

pub chain-returns : goal.chain-returns
chain-returns t c =
    chained _ _ _ _ _ (unaries_upto _ _ _ _ c.unaries_next-from.ensures) c.term_start_at-first.ensures c.in-Ok.is c.term-one.ensures c.in-Ok-one.is c.emit_unaries-after_unaries.ensures c.operations.ensures

pub choice-returns-in_default : goal.choice-returns-in_default
choice-returns-in_default t c = test_failed _ _ _ _ c.condition-test.ensures c.unwrap_err.ensures

pub choice-returns-in_default-then : goal.choice-returns-in_default-then
choice-returns-in_default-then t c =
    then_missing _ _ _ _ c.condition-test.ensures c.in-Ok.is c.expect-then.ensures c.unwrap_err-in_default-then.ensures

pub choice-returns-in_default-one : goal.choice-returns-in_default-one
choice-returns-in_default-one t c =
    first_failed _ _ _ _ c.condition-test.ensures c.in-Ok.is c.expect-then.ensures c.in-Ok-then.is c.expression-one.ensures c.in_default-one.is

pub choice-returns : goal.choice-returns
choice-returns t c =
    chosen _ _ _ _ c.condition-test.ensures c.in-Ok.is c.expect-then.ensures c.in-Ok-then.is c.expression-one.ensures c.in-Ok-one.is (hole_later c.emit_hole-jump.ensures)
    (from_state (ap (emitted_by c.emit_hole-jump.result.output) c.fill_jump.ensures) c.alternative.ensures)

pub condition-returns-in-Some : goal.condition-returns-in-Some
condition-returns-in-Some t c = bare_read _ _ _ _ _ c.token_at-t.ensures c.bare.ensures c.in-Some.is c.emit_test.ensures

pub condition-returns-in_default-value : goal.condition-returns-in_default-value
condition-returns-in_default-value t c = value_failed _ _ _ _ _ c.token_at-t.ensures c.bare.ensures c.in_default.is c.expression-value.ensures c.unwrap_err.ensures

pub condition-returns : goal.condition-returns
condition-returns t c = value_compared _ _ _ _ _ c.token_at-t.ensures c.bare.ensures c.in_default.is c.expression-value.ensures c.in-Ok.is c.comparison.ensures

pub expression-returns-then-left-eq0 : goal.expression-returns-then-left-eq0
expression-returns-then-left-eq0 t c = deep_failed _ _ _ _ c.if-left-eq0.true c.too_deep_at.ensures

pub expression-returns-then-eq : goal.expression-returns-then-eq
expression-returns-then-eq t c =
    rw (is_choice _ _ _ _ c.token_at-t.ensures _ c.if-left-eq0.false (equal_kinds _ Kind.If c.eq.ensures c.if-eq.true)) c.choice.ensures

pub expression-returns : goal.expression-returns
expression-returns t c =
    rw (is_chain _ _ _ _ c.token_at-t.ensures _ c.if-left-eq0.false (other_kinds _ Kind.If c.eq.ensures c.if-eq.false)) c.chain.ensures

pub term-returns-in-Cell : goal.term-returns-in-Cell
term-returns-in-Cell t c = begins_cell _ _ _ _ c.in-Cell.is (c.emit_read.ensures _ c.cell_from-read.ensures)

pub term-returns-in-Accumulator : goal.term-returns-in-Accumulator
term-returns-in-Accumulator t c = begins_accumulator _ _ _ _ c.in-Accumulator.is

pub term-returns-in-Zero : goal.term-returns-in-Zero
term-returns-in-Zero t c = begins_zero _ _ _ _ c.in-Zero.is c.emit_generic.ensures.emitted

pub term-returns-in-Bracket : goal.term-returns-in-Bracket
term-returns-in-Bracket t c = begins_bracket _ _ _ _ c.in-Bracket.is c.bracketed.ensures

pub term-returns-in-Call : goal.term-returns-in-Call
term-returns-in-Call t c = begins_call _ _ _ _ c.in-Call.is c.call.ensures
