use Rattle.prelude.specs.Choice.{find}
use mathlib.Core.Path.{sym}
use Rattle.failure_report.specs.Failure.{words_of}
use Rattle.failure_report.proofs.Laws.{no_words_lem}
use Rattle.failure_report.proofs.words.words.Goals as goal

pub returns-in-3 : goal.returns-in-3
unfolding words_of find
returns-in-3 c = rw c.in-3.is

pub returns-in-4 : goal.returns-in-4
unfolding words_of find
returns-in-4 c = rw c.in-4.is

pub returns-in-5 : goal.returns-in-5
unfolding words_of find
returns-in-5 c = rw c.in-5.is

pub returns-in-6 : goal.returns-in-6
unfolding words_of find
returns-in-6 c = rw c.in-6.is

pub returns-in-7 : goal.returns-in-7
unfolding words_of find
returns-in-7 c = rw c.in-7.is

pub returns-in-8 : goal.returns-in-8
unfolding words_of find
returns-in-8 c = rw c.in-8.is

pub returns-in-9 : goal.returns-in-9
unfolding words_of find
returns-in-9 c = rw c.in-9.is

pub returns-in-10 : goal.returns-in-10
unfolding words_of find
returns-in-10 c = rw c.in-10.is

pub returns-in-11 : goal.returns-in-11
unfolding words_of find
returns-in-11 c = rw c.in-11.is

pub returns-in-12 : goal.returns-in-12
unfolding words_of find
returns-in-12 c = rw c.in-12.is

pub returns-in-13 : goal.returns-in-13
unfolding words_of find
returns-in-13 c = rw c.in-13.is

pub returns-in-14 : goal.returns-in-14
unfolding words_of find
returns-in-14 c = rw c.in-14.is

pub returns-in-20 : goal.returns-in-20
unfolding words_of find
returns-in-20 c = rw c.in-20.is

pub returns-in-21 : goal.returns-in-21
unfolding words_of find
returns-in-21 c = rw c.in-21.is

pub returns-in-22 : goal.returns-in-22
unfolding words_of find
returns-in-22 c = rw c.in-22.is

pub returns-in-23 : goal.returns-in-23
unfolding words_of find
returns-in-23 c = rw c.in-23.is

pub returns-in-24 : goal.returns-in-24
unfolding words_of find
returns-in-24 c = rw c.in-24.is

pub returns-in-25 : goal.returns-in-25
unfolding words_of find
returns-in-25 c = rw c.in-25.is

pub returns-in-26 : goal.returns-in-26
unfolding words_of find
returns-in-26 c = rw c.in-26.is

pub returns-in-27 : goal.returns-in-27
unfolding words_of find
returns-in-27 c = rw c.in-27.is

pub returns-in_default : goal.returns-in_default
returns-in_default c = let n = c.in_default.in_default-own.rest in
    sym (no_words_lem _ (n.0.0.0.0.0.0.0.0.0.0.0.0.0.0.0.0.0.0.0.0.0.1, (n.0.0.0.0.0.0.0.0.0.0.0.0.0.0.0.0.0.0.0.0.1, (n.0.0.0.0.0.0.0.0.0.0.0.0.0.0.0.0.0.0.0.1, (n.0.0.0.0.0.0.0.0.0.0.0.0.0.0.0.0.0.0.1, (n.0.0.0.0.0.0.0.0.0.0.0.0.0.0.0.0.0.1, (n.0.0.0.0.0.0.0.0.0.0.0.0.0.0.0.0.1, (n.0.0.0.0.0.0.0.0.0.0.0.0.0.0.0.1, (n.0.0.0.0.0.0.0.0.0.0.0.0.0.0.1, (n.0.0.0.0.0.0.0.0.0.0.0.0.0.1, (n.0.0.0.0.0.0.0.0.0.0.0.0.1, (n.0.0.0.0.0.0.0.0.0.0.0.1, (n.0.0.0.0.0.0.0.0.0.0.1, (n.0.0.0.0.0.0.0.0.0.1, (n.0.0.0.0.0.0.0.0.1, (n.0.0.0.0.0.0.0.1, (n.0.0.0.0.0.0.1, (n.0.0.0.0.0.1, (n.0.0.0.0.1, (n.0.0.0.1, (n.0.0.1, (n.0.1, (n.1, tt)))))))))))))))))))))))
