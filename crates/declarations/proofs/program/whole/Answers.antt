use mathlib.Core.Path.{refl, ap, ◌∙◌}
use mathlib.Core.List.{foldl}
use Rattle.layout.specs.Allocation.{allocate, allocated}
use Rattle.parser.specs.Reads.Reads.{read, fails}
use Rattle.parser.proofs.Answers.{then_got, then_failed, gives_read, gives_failed, onward}
use Rattle.parser.proofs.ReadLaws.{came, failed_as}
use Rattle.declarations.proofs.ProgramLaws.{program_begin, program_declarations, program_main, program_compiled}
use Rattle.declarations.proofs.program.whole.Goals as goal

pub returns-in_default : goal.returns-in_default
returns-in_default c = fails (onward (gives_failed (λ b. b) c.opening-opened.ensures c.unwrap_err.ensures) (program_begin _)) refl tt

pub returns-in_default-all : goal.returns-in_default-all
returns-in_default-all c = fails (onward (failed_as c.declarations-all.ensures c.unwrap_err-in_default-all.ensures) (program_declarations _ (gives_read (λ b. b) c.opening-opened.ensures c.in-Ok.is))) refl tt

pub returns-in_default-main : goal.returns-in_default-main
unfolding allocated
returns-in_default-main c = let r = came c.declarations-all.ensures c.in-Ok-all.is in
    let starts = c.start_allocation-start.ensures.allocation c.args.table.now in
    fails (onward (failed_as c.main_body-main.ensures c.unwrap_err-in_default-main.ensures) (λ e. program_main _ (gives_read (λ b. b) c.opening-opened.ensures c.in-Ok.is) r.is (r.holds.allocation ∙ ap (λ x. foldl allocate x r.tree) starts) ∙ then_failed _ e)) refl tt

pub returns : goal.returns
unfolding allocated
returns c = let r = came c.declarations-all.ensures c.in-Ok-all.is in
    let m = came c.main_body-main.ensures c.in-Ok-main.is in
    let starts = c.start_allocation-start.ensures.allocation c.args.table.now in
    read (program_main _ (gives_read (λ b. b) c.opening-opened.ensures c.in-Ok.is) r.is (r.holds.allocation ∙ ap (λ x. foldl allocate x r.tree) starts) ∙ then_got _ m.is) refl
    (program_compiled starts r.holds m.holds)
