-- Worked examples of the meaning from outside, decided by computation: sources that an independent implementation gave a meaning and ran, by the numbers of their cases (tests/runs_vectors.py).
-- The steps of the observations, and of an end, are those that it counted; A, B, C and the cells at the end are what its run left in the machine. In case 27, which goes on,
-- the place where our fuel is out is not from outside; where a case with `.CHECKED` breaks off, A is what the run left in word 2.
use Rattle.std.specs.Prelude.{ℕ, ◌≡◌, refl, Bool, true, false, List, [], ◌∷◌, map}
use Prim.Native.String.{String}
use Rattle.effect.specs.declared.Switches.{Switches}
use Rattle.prelude.specs.Text.{bytes}
use Rattle.tree.specs.Tree.{Id, CellId, Program}
use Rattle.grammar.specs.Parse.{Got}
use Rattle.grammar.specs.Program.{parse_program}
use Rattle.semantics.specs.Trace.{State}
use Rattle.semantics.specs.Acts.{updated, stop_steps}
use Rattle.semantics.specs.Meaning.{meaning}
use Rattle.semantics.specs.Examples.{Ending, computed, shown, at_end}

-- cells by the integers and constants of the source, locals with the number of their procedure, and by the elements of its arrays
abbrev x : CellId
x = CellId.named Id.x

abbrev global : ℕ → CellId
global n = CellId.named (Id.global n)

abbrev local : ℕ → ℕ → CellId
local p n = CellId.named (Id.local p n)

abbrev item : ℕ → ℕ → CellId
item a v = CellId.element a v

-- with these words in these cells
abbrev laid : (CellId → ℕ) → List (CellId × ℕ) → CellId → ℕ
laid cells [] = cells
laid cells (w ∷ ws) = updated (laid cells ws) w.0 w.1

abbrev sense : Bool → Bool → Bool → Bool → Switches
sense one two three four = record { one = one; two = two; three = three; four = four }

-- A, B, C, the sense switches, and words of cells
abbrev from : ℕ → ℕ → Bool → Switches → List (CellId × ℕ) → State
from a b c switches words = record { cells = laid (λ i. 0) words; registers = record { a = a; b = b; c = c }; switches = switches; steps = 0 }

-- A source and its case. The words at the start are those given to variables, and the values of the constants; `changed` has the cells that the run changed.
-- A meaning that goes on has the first of its numbers, as many as there is fuel for.
pub record Row : Type 0 where
  pub source : String
  pub start : List (CellId × ℕ) → State
  pub words : List (CellId × ℕ)
  pub fuel : ℕ
  pub numbers : List ℕ
  pub end : Ending
  pub b : ℕ
  pub carry : Bool
  pub changed : List (CellId × ℕ)

abbrev started : Row → State
started row = row.start row.words

-- B and C, and the words of all cells that had one at the start
abbrev left : Row → State → ℕ × Bool × List ℕ
left row σ = (σ.registers.b, σ.registers.c, map (λ w. σ.cells w.0) row.words)

abbrev left_by : Row → Got Program → ℕ × Bool × List ℕ
left_by row (Got.got p next) = left row (at_end (meaning row.fuel p (started row)))
left_by row (Got.failed n at) = (0, false, [])

abbrev rows : List Row
rows =
    -- case 37: an empty statement after declarations: two observations, no step
    record {
      source = ".BEGIN.INTEGER\nH1IY,T,VGE3OC3BJ;.INTEGER\nV,Y,ES;.END";
      start = from 51796 36890 true (sense false false true true);
      words = (x, 1) ∷ (global 0, 1330) ∷ (global 1, 64639) ∷ (global 2, 1) ∷ (global 3, 47658) ∷ (global 4, 65535) ∷ (global 5, 34606) ∷ [];
      fuel = 1;
      numbers = 0 ∷ 0 ∷ [];
      end = Ending.done 0 51796 1;
      b = 36890;
      carry = true;
      changed = [];
    } ∷
    -- case 12: an operation between a numeral and a variable, into X
    record {
      source = ".BEGIN.INTEGER  U44731K,J,MGG9POW;X=07.NEV\nJ.END";
      start = from 26480 15583 false (sense true false false false);
      words = (x, 32768) ∷ (global 0, 35705) ∷ (global 1, 17826) ∷ (global 2, 59557) ∷ [];
      fuel = 1;
      numbers = 0 ∷ 3 ∷ [];
      end = Ending.done 3 17829 17829;
      b = 15583;
      carry = false;
      changed = (x, 17829) ∷ [];
    } ∷
    -- case 34: brackets, unary words, a sum, a difference, a mask and a shift; C is cleared
    record {
      source = ".BEGIN\n .INTEGER B1;B1 =((.SSM\nB1)  )\n+B1.LGR011;\nB1= .CLEFT'1700 .AND '01700\n-B1.END";
      start = from 65532 37248 true (sense false true true true);
      words = (x, 65528) ∷ (global 0, 65529) ∷ [];
      fuel = 1;
      numbers = 0 ∷ 5 ∷ 10 ∷ [];
      end = Ending.done 10 161 65528;
      b = 37248;
      carry = false;
      changed = (global 0, 161) ∷ [];
    } ∷
    -- case 4: X as a subscript: stored inside the array, broken off outside it
    record {
      source = ".BEGIN .ARRAY T[2](1,2); # = -2; T[#] = 5; # = 1; T[#] = 6 .END";
      start = from 12167 46517 true (sense false true false false);
      words = (x, 3) ∷ (item 0 65534, 65535) ∷ (item 0 65535, 64981) ∷ [];
      fuel = 1;
      numbers = 0 ∷ 1 ∷ 3 ∷ 4 ∷ [];
      end = Ending.broken 5 6 1;
      b = 46517;
      carry = true;
      changed = (x, 1) ∷ (item 0 65534, 5) ∷ [];
    } ∷
    -- case 5: X loaded from the element that it names, until that is outside
    record {
      source = ".BEGIN .ARRAY T[2](1,2); # = -1; @ = T[#]; # = T[#]; # = T[#] .END";
      start = from 0 2293 true (sense true true false false);
      words = (x, 65530) ∷ (item 0 65534, 65529) ∷ (item 0 65535, 3) ∷ [];
      fuel = 1;
      numbers = 0 ∷ 1 ∷ 2 ∷ 3 ∷ [];
      end = Ending.broken 3 3 3;
      b = 2293;
      carry = true;
      changed = (x, 3) ∷ [];
    } ∷
    -- case 3: an array without elements
    record {
      source = ".BEGIN .ARRAY T[0]; @ = 9; @ = T[-1] .END";
      start = from 65530 23541 false (sense true false true false);
      words = (x, 65532) ∷ [];
      fuel = 1;
      numbers = 0 ∷ 1 ∷ [];
      end = Ending.broken 2 9 65535;
      b = 23541;
      carry = false;
      changed = (x, 65535) ∷ [];
    } ∷
    -- case 7: a sum that breaks off at its third term
    record {
      source = ".BEGIN .INTEGER I,S; .ARRAY T[2](1,2),U[2](3,4); I = -1; S = T[-2] + U[I] + T[5]; S = 1 .END";
      start = from 65529 13769 true (sense false false true false);
      words = (x, 65531) ∷ (global 0, 65530) ∷ (item 3 65534, 32768) ∷ (item 3 65535, 65535) ∷ (item 2 65534, 29873) ∷ (item 2 65535, 65528) ∷ [];
      fuel = 1;
      numbers = 0 ∷ 2 ∷ [];
      end = Ending.broken 7 29872 5;
      b = 13769;
      carry = false;
      changed = (x, 5) ∷ (global 0, 65535) ∷ [];
    } ∷
    -- case 9: a relation that breaks off at its right side
    record {
      source = ".BEGIN .INTEGER I; .ARRAY T[2](1,2); I = 32767; .WHEN T[-1] = T[I] .THEN @ = 3 .END";
      start = from 6482 53219 true (sense true false false false);
      words = (x, 65535) ∷ (global 0, 65528) ∷ (item 1 65534, 65529) ∷ (item 1 65535, 37079) ∷ [];
      fuel = 1;
      numbers = 0 ∷ 2 ∷ [];
      end = Ending.broken 5 37079 32767;
      b = 53219;
      carry = true;
      changed = (x, 32767) ∷ (global 0, 32767) ∷ [];
    } ∷
    -- case 6: a call in a loop that breaks off in the procedure, at a value that is not stored
    record {
      source = ".BEGIN .INTEGER I; .ARRAY T[4](1,2,3,4); .PROCEDURE P; .BEGIN T[I] = .INC T[I] .END; .FOR I = -6 .DO P .END";
      start = from 65528 56014 true (sense true true false false);
      words = (x, 33778) ∷ (global 0, 30808) ∷ (item 1 65532, 25204) ∷ (item 1 65533, 32769) ∷ (item 1 65534, 8386) ∷ (item 1 65535, 32767) ∷ [];
      fuel = 1;
      numbers = 0 ∷ [];
      end = Ending.broken 4 65530 65530;
      b = 56014;
      carry = true;
      changed = (x, 65530) ∷ (global 0, 65530) ∷ [];
    } ∷
    -- case 10: three passes of `.FOR` over the elements
    record {
      source = ".BEGIN .INTEGER I; .ARRAY T[3](1,2,3); .FOR I = -3 .DO @ = T[I] .END";
      start = from 34257 65338 false (sense true true false true);
      words = (x, 65280) ∷ (global 0, 57340) ∷ (item 1 65533, 19383) ∷ (item 1 65534, 65529) ∷ (item 1 65535, 0) ∷ [];
      fuel = 3;
      numbers = 0 ∷ 4 ∷ 8 ∷ 12 ∷ 13 ∷ [];
      end = Ending.done 13 0 65535;
      b = 65338;
      carry = false;
      changed = (x, 65535) ∷ (global 0, 0) ∷ [];
    } ∷
    -- case 0: `.WHILE` whose test fails at once, C being set
    record {
      source = ".BEGIN .INTEGER I; .ARRAY T[3](1,2,3); I = -3; .WHILE .NOTC .DO .BEGIN @ = T[I]; I = .INC I .END .END";
      start = from 30791 25131 true (sense true true false false);
      words = (x, 65534) ∷ (global 0, 45395) ∷ (item 1 65533, 65531) ∷ (item 1 65534, 255) ∷ (item 1 65535, 65532) ∷ [];
      fuel = 1;
      numbers = 0 ∷ 2 ∷ 4 ∷ [];
      end = Ending.done 4 65533 65534;
      b = 25131;
      carry = true;
      changed = (global 0, 65533) ∷ [];
    } ∷
    -- case 20: `.IF` with a relation, and in its second part `.WHILE` with a compound
    record {
      source = ".BEGIN  .INTEGER TUSE6FACO ,\nFTO9KO  ,\n B\n ; .CONSTANT\nYZ4O =  '1 ; .IF FTO9KOQ <=\n B .THEN\n@\n= FTO9KOH51 .ELSE .BEGIN FTO9KO  = '0177775  ; .WHILE  FTO9KO\n <\n0 .DO .BEGIN\n@\n = TUSE6FACO .NEV\n7\n-\nYZ4O ;\n FTO9KO\n =\n FTO9KO\n+ 1 .END .END ; B =\n TUSE6FACO\n.END";
      start = from 65532 32468 true (sense false true true true);
      words = (x, 3) ∷ (global 1, 2) ∷ (global 2, 65532) ∷ (global 3, 1) ∷ [];
      fuel = 4;
      numbers = 0 ∷ 5 ∷ 10 ∷ 13 ∷ 13 ∷ 19 ∷ 22 ∷ 22 ∷ 28 ∷ 31 ∷ 31 ∷ 35 ∷ 35 ∷ 35 ∷ 37 ∷ [];
      end = Ending.done 37 0 3;
      b = 32468;
      carry = false;
      changed = (global 1, 0) ∷ (global 2, 0) ∷ [];
    } ∷
    -- case 29: `.FOR` with X and with a variable, `.WHEN` in it
    record {
      source = ".BEGIN.INTEGER WI,W;.FOR#=-3.DO@=W.NEV WI\n +WI;.FOR W= -1.DO\n .WHEN\n W.LGL'4>=WI.THEN  WI=W.END";
      start = from 32769 8990 true (sense true false true false);
      words = (x, 1961) ∷ (global 0, 65532) ∷ (global 1, 65533) ∷ [];
      fuel = 3;
      numbers = 0 ∷ 4 ∷ 9 ∷ 14 ∷ 15 ∷ 21 ∷ 22 ∷ [];
      end = Ending.done 22 65520 0;
      b = 8990;
      carry = true;
      changed = (x, 0) ∷ (global 1, 0) ∷ [];
    } ∷
    -- case 36: `.WHEN` with a conditional expression in a conditional expression
    record {
      source = ".BEGIN.INTEGER  NT\n, GS ,\n WP; .INTEGER F4JTOY9QX  ;# = -032767 ;\n.BEGIN.WHEN  .IF1\n=\n'177771.THEN .IF WP\n.LGL 2\n<WP .THEN.INC.ABS'100001.LGL05  .ELSE\n 002140.LGR'4 .ELSE\n .CLEFT  NT  .MINUS.THEN GS=F4JTOYDCX; F4JTOY9QX  =F4JTOY.END .END";
      start = from 1 49166 true (sense true true true false);
      words = (x, 65532) ∷ (global 0, 65529) ∷ (global 1, 35998) ∷ (global 2, 4787) ∷ (global 3, 1) ∷ [];
      fuel = 1;
      numbers = 0 ∷ 1 ∷ 9 ∷ 11 ∷ 11 ∷ [];
      end = Ending.done 11 1 32769;
      b = 49166;
      carry = true;
      changed = (x, 32769) ∷ [];
    } ∷
    -- case 47: a call with an argument as a term; a local that hides a global, with the value given to it
    record {
      source = ".BEGIN\n .INTEGER\nNBLK5SK\n ; .ACCUMULATOR .PROCEDURE LV44 ;\n .BEGIN .COMPCONSTANT J7  =  0\n; .INTEGER  I0U4DIS , NBLK5S ,\n J0Q ; .BEGIN\n .WHEN  J7\n.ZERO .THEN NBLK5S =  ( .ICRIGHT  .CRIGHT '7\n )\n +\nI0U4DIS\n .END\n .END  ;\n .ACCUMULATOR\n.PROCEDURE O3U2QAC\n ; .BEGIN\n.INTEGER\nNBLK5S ; @\n =  X\n+ '007 + NBLK5S + NBLK5S  .END ; NBLK5S20  = (\n O3U2QA8 ( NBLK5S0H )\n ) .END";
      start = from 32769 55904 false (sense false true true false);
      words = (x, 65531) ∷ (global 0, 14406) ∷ (local 1 0, 42308) ∷ (local 1 1, 2) ∷ (local 1 2, 34339) ∷ (local 2 0, 21655) ∷ [];
      fuel = 1;
      numbers = 0 ∷ 6 ∷ 8 ∷ [];
      end = Ending.done 8 43312 65531;
      b = 55904;
      carry = true;
      changed = (global 0, 43312) ∷ [];
    } ∷
    -- case 35: tests that fail, a sense switch, a call as a term that changes X and a local
    record {
      source = ".BEGIN.INTEGER\n H1,Q6;.COMPCONSTANT HZOBC8C=00256;.ACCUMULATOR.PROCEDURE S;.BEGIN.INTEGER QRWWEM,HQA;X=.ZERO;QRWWEM=.ADDC@.ARS02-QRWWEM;Q6=HQA;.END;.BEGIN.WHEN H1.NONZERO.THEN.WHEN(Q6)<HZOBC869.THEN H1=.ABS-32767;.IF.SENSE2.THEN\n Q6 =  (.CRIGHT'4134).ELSE\n H1=.SSM S--8794.AND\n -32767;#=X.END;.BEGIN;H1 =H1;;@=HZOBC8C\n.END;H1=Q6+Q6.ALR11.ARR14;H1=H1+ -2.END";
      start = from 3 42150 true (sense true false false false);
      words = (x, 65529) ∷ (global 0, 65533) ∷ (global 1, 65533) ∷ (local 2 0, 65535) ∷ (local 2 1, 65530) ∷ [];
      fuel = 1;
      numbers = 0 ∷ 8 ∷ 8 ∷ 8 ∷ 13 ∷ 17 ∷ 19 ∷ 19 ∷ 24 ∷ 24 ∷ 25 ∷ 25 ∷ 25 ∷ 27 ∷ 27 ∷ 28 ∷ 28 ∷ 33 ∷ 36 ∷ [];
      end = Ending.done 36 40956 0;
      b = 42150;
      carry = false;
      changed = (x, 0) ∷ (global 0, 40956) ∷ (global 1, 65530) ∷ (local 2 0, 1) ∷ [];
    } ∷
    -- case 31: a procedure with a loop and nested choices
    record {
      source = ".BEGIN.INTEGER\n MZE5Z9KMQ,Z9;.ACCUMULATOR.PROCEDURE BBCK;.BEGIN.INTEGER DO;.COMPCONSTANT\nKBWTMF9O2=00255;.FOR#='0177773.DO  Z9=Z9;.WHEN.ICLEFT.NOT\n MZE5Z9V6<>DO.THEN.IF\n Z9.AND  KBWTMF9O2.NONZERO.THEN Z9=.SWOP  MZE5Z9KMQ.ELSE#=DO.END;.ARRAY XNO8H85[8](2140,'0,-001,006);.INTEGER SW;.CONSTANT IE=255,YN=7;SW=(.ABS BBCK(.INC SW)).END";
      start = from 32769 5876 false (sense false true true false);
      words = (x, 2) ∷ (global 0, 63931) ∷ (global 1, 65531) ∷ (global 4, 60265) ∷ (local 2 0, 65529) ∷ (item 3 65528, 65535) ∷ (item 3 65529, 65528) ∷ (item 3 65530, 65532) ∷ (item 3 65531, 32768) ∷ (item 3 65533, 54374) ∷ (item 3 65534, 35056) ∷ (item 3 65535, 65533) ∷ (global 5, 255) ∷ (global 6, 7) ∷ [];
      fuel = 5;
      numbers = 0 ∷ 6 ∷ 10 ∷ 14 ∷ 18 ∷ 22 ∷ 23 ∷ 34 ∷ 35 ∷ 35 ∷ 39 ∷ [];
      end = Ending.done 39 17415 0;
      b = 5876;
      carry = false;
      changed = (x, 0) ∷ (global 1, 48121) ∷ (global 4, 17415) ∷ [];
    } ∷
    -- case 27: `.WHILE` that goes on: the sense switches never change
    record {
      source = ".BEGIN.INTEGER VR;.INTEGER ORE1,HU,G;.INTEGER FQ;.ARRAY E1HM8BD[5];.COMPCONSTANT A7=2,CSGQHZ7ZS='1,L=A7;.ARRAY\nYJ3[A7],GHJG[A7](256,-32767);.PROCEDURE EA7BEWK;.BEGIN.COMPCONSTANT GHJG=00256;.INTEGER GP75UQ,IT;IT=.IF-0030586<>HU.THEN'001700.ELSE'77777;.END;.INTEGER V,ORG;.COMPCONSTANT AA=CSGQHZ7ZS;YJ3[-1]=-32767;.WHILE.ANYKEY.DO;;ORE1=.IF\nG>X.THEN@.AND0.ELSE08;FQ=@;.END";
      start = from 65535 50915 true (sense true true false false);
      words = (x, 65528) ∷ (global 0, 255) ∷ (global 1, 65531) ∷ (global 2, 65531) ∷ (global 3, 65530) ∷ (global 4, 65532) ∷ (global 9, 65535) ∷ (global 10, 39174) ∷ (local 8 0, 32767) ∷ (local 8 1, 23365) ∷ (item 7 65534, 6448) ∷ (item 7 65535, 65535) ∷ (item 6 65534, 3438) ∷ (item 6 65535, 44503) ∷ (item 5 65531, 65530) ∷ (item 5 65532, 65533) ∷ (item 5 65533, 65532) ∷ (item 5 65534, 1) ∷ (item 5 65535, 65534) ∷ [];
      fuel = 4;
      numbers = 0 ∷ 3 ∷ 4 ∷ 6 ∷ 8 ∷ 10 ∷ [];
      end = Ending.out 11 32769 65535;
      b = 50915;
      carry = true;
      changed = (x, 65535) ∷ (item 6 65535, 32769) ∷ [];
    } ∷
    -- case 51: a product, a quotient and a remainder from left to right, each with an element; the last statement breaks off at its product
    record {
      source = ".BEGIN .INTEGER I; .ARRAY T[2](3,0); I = -2; @ = 1000 * T[I] / T[I] .MOD T[-1] * T[I]; @ = 7 * T[0] .END";
      start = from 65532 59542 false (sense true false true false);
      words = (x, 65534) ∷ (global 0, 45395) ∷ (item 1 65534, 65531) ∷ (item 1 65535, 255) ∷ [];
      fuel = 1;
      numbers = 0 ∷ 2 ∷ 16 ∷ [];
      end = Ending.broken 18 7 0;
      b = 0;
      carry = false;
      changed = (x, 0) ∷ (global 0, 65534) ∷ [];
    } ∷
    -- case 52: a quotient that breaks off at its subscript: A, B and C stay
    record {
      source = ".BEGIN .INTEGER I; .ARRAY T[2](3,0); I = 3; @ = -7; @ = @ / T[I] .END";
      start = from 22916 29867 true (sense false true false true);
      words = (x, 32768) ∷ (global 0, 13735) ∷ (item 1 65534, 11119) ∷ (item 1 65535, 32768) ∷ [];
      fuel = 1;
      numbers = 0 ∷ 2 ∷ 3 ∷ [];
      end = Ending.broken 4 65529 3;
      b = 29867;
      carry = true;
      changed = (x, 3) ∷ (global 0, 3) ∷ [];
    } ∷
    -- case 53: a remainder that breaks off at its subscript
    record {
      source = ".BEGIN .INTEGER I; .ARRAY T[2](3,0); I = -3; @ = -7; @ = @ .MOD T[I] .END";
      start = from 65535 35941 false (sense true true false true);
      words = (x, 9266) ∷ (global 0, 51909) ∷ (item 1 65534, 30363) ∷ (item 1 65535, 65535) ∷ [];
      fuel = 1;
      numbers = 0 ∷ 2 ∷ 3 ∷ [];
      end = Ending.broken 4 65529 65533;
      b = 35941;
      carry = false;
      changed = (x, 65533) ∷ (global 0, 65533) ∷ [];
    } ∷
    -- case 57: a quotient of a bracket in a conditional expression; B is 0 since `.ICLEFT` gives the high byte of -7; with the low one it would be 6
    record {
      source = ".BEGIN.INTEGER\nWP24ZI,EG2K24IVI,GQF;EG2K24IVI=.IF\nWP24ZIT<>'10.THEN(.ICLEFT.SSM-7.NEV255)/WP24ZI7.ELSE.CRIGHT.CRIGHT  EG2K24IVI.MOD\nGQF.END";
      start = from 14887 63691 false (sense false false true false);
      words = (x, 36058) ∷ (global 0, 17212) ∷ (global 1, 65534) ∷ (global 2, 65280) ∷ [];
      fuel = 1;
      numbers = 0 ∷ 11 ∷ [];
      end = Ending.done 11 0 36058;
      b = 0;
      carry = false;
      changed = (global 1, 0) ∷ [];
    } ∷
    -- case 83: quotients in loops, of which the last are by 0, so that C is set
    record {
      source = ".BEGIN\n .INTEGER\n NUX ,  X9 , M3  ; M3  = X9\n / M3 ;  .FOR NUX\n =\n -002 .DO\n .FOR #  =\n -3 .DO\n M3 = (\n @ ) /\n M3 ;\nM3 =\n.ABS X9  .END";
      start = from 3 58465 false (sense false false false true);
      words = (x, 65535) ∷ (global 0, 32769) ∷ (global 1, 43667) ∷ (global 2, 65533) ∷ [];
      fuel = 3;
      numbers = 0 ∷ 4 ∷ 10 ∷ 15 ∷ 20 ∷ 21 ∷ 27 ∷ 32 ∷ 37 ∷ 38 ∷ 39 ∷ 43 ∷ [];
      end = Ending.done 43 21869 0;
      b = 0;
      carry = true;
      changed = (x, 0) ∷ (global 0, 0) ∷ (global 2, 21869) ∷ [];
    } ∷
    -- case 84: both letters of a word, the first by `.ICLEFT` and the second by `.CLEFT`
    record {
      source = ".BEGIN .INTEGER W,A,B; W = '041502; A = .ICLEFT W; B = .CLEFT W .END";
      start = from 65532 59542 false (sense true false true false);
      words = (x, 65534) ∷ (global 0, 45395) ∷ (global 1, 65531) ∷ (global 2, 255) ∷ [];
      fuel = 1;
      numbers = 0 ∷ 2 ∷ 5 ∷ 8 ∷ [];
      end = Ending.done 8 66 65534;
      b = 59542;
      carry = false;
      changed = (global 0, 17218) ∷ (global 1, 67) ∷ (global 2, 66) ∷ [];
    } ∷
    -- case 87: -size, and one below it
    record {
      source = ".BEGIN .CHECKED; .ARRAY T[3](7,8,9); @ = T[-3]; T[-4] = 1 .END";
      start = from 22916 29867 true (sense false true false true);
      words = (x, 32768) ∷ (item 0 65533, 13735) ∷ (item 0 65534, 11119) ∷ (item 0 65535, 32768) ∷ [];
      fuel = 1;
      numbers = 0 ∷ 8 ∷ [];
      end = Ending.broken 10 1 65532;
      b = 29867;
      carry = true;
      changed = (x, 65532) ∷ [];
    } ∷
    -- case 88: an array of one element: -1 passes, 0 does not
    record {
      source = ".BEGIN .CHECKED; .ARRAY T[1](5); @ = 9; @ = T[-1]; @ = T[0] .END";
      start = from 30363 24192 true (sense false false true true);
      words = (x, 9266) ∷ (item 0 65535, 51909) ∷ [];
      fuel = 1;
      numbers = 0 ∷ 1 ∷ 10 ∷ [];
      end = Ending.broken 11 51909 0;
      b = 24192;
      carry = true;
      changed = (x, 0) ∷ [];
    } ∷
    -- case 89: an array of none
    record {
      source = ".BEGIN .CHECKED; .ARRAY T[0]; @ = 9; @ = T[-1] .END";
      start = from 65530 23541 false (sense true false true false);
      words = (x, 65532) ∷ [];
      fuel = 1;
      numbers = 0 ∷ 1 ∷ [];
      end = Ending.broken 2 9 65535;
      b = 23541;
      carry = false;
      changed = (x, 65535) ∷ [];
    } ∷
    -- case 90: `#`: stored at -size, stopped above
    record {
      source = ".BEGIN .CHECKED; .ARRAY T[2](1,2); # = -2; T[#] = 5; # = 1; T[#] = 6 .END";
      start = from 12167 46517 true (sense false true false false);
      words = (x, 3) ∷ (item 0 65534, 65535) ∷ (item 0 65535, 64981) ∷ [];
      fuel = 1;
      numbers = 0 ∷ 1 ∷ 9 ∷ 10 ∷ [];
      end = Ending.broken 11 6 1;
      b = 46517;
      carry = true;
      changed = (x, 1) ∷ (item 0 65534, 5) ∷ [];
    } ∷
    -- case 91: `# =` of an element
    record {
      source = ".BEGIN .CHECKED; .ARRAY T[2](1,2); # = -1; @ = T[#]; # = T[#]; # = T[#] .END";
      start = from 0 2293 true (sense true true false false);
      words = (x, 65530) ∷ (item 0 65534, 65529) ∷ (item 0 65535, 3) ∷ [];
      fuel = 1;
      numbers = 0 ∷ 1 ∷ 10 ∷ 19 ∷ [];
      end = Ending.broken 19 3 3;
      b = 2293;
      carry = true;
      changed = (x, 3) ∷ [];
    } ∷
    -- case 93: two arrays in one expression
    record {
      source = ".BEGIN .CHECKED; .INTEGER I,S; .ARRAY T[2](1,2),U[2](3,4); I = -1; S = T[-2] + U[I] + T[5]; S = 1 .END";
      start = from 65529 13769 true (sense false false true false);
      words = (x, 65531) ∷ (global 0, 65530) ∷ (item 3 65534, 32768) ∷ (item 3 65535, 65535) ∷ (item 2 65534, 29873) ∷ (item 2 65535, 65528) ∷ [];
      fuel = 1;
      numbers = 0 ∷ 2 ∷ [];
      end = Ending.broken 21 29872 5;
      b = 13769;
      carry = false;
      changed = (x, 5) ∷ (global 0, 65535) ∷ [];
    } ∷
    -- case 95: in a relation, with the largest X
    record {
      source = ".BEGIN .CHECKED; .INTEGER I; .ARRAY T[2](1,2); I = 32767; .WHEN T[-1] = T[I] .THEN @ = 3 .END";
      start = from 6482 53219 true (sense true false false false);
      words = (x, 65535) ∷ (global 0, 65528) ∷ (item 1 65534, 65529) ∷ (item 1 65535, 37079) ∷ [];
      fuel = 1;
      numbers = 0 ∷ 2 ∷ [];
      end = Ending.broken 13 37079 32767;
      b = 53219;
      carry = true;
      changed = (x, 32767) ∷ (global 0, 32767) ∷ [];
    } ∷
    -- case 96: a loop over an array
    record {
      source = ".BEGIN .CHECKED; .INTEGER I; .ARRAY T[3](1,2,3); .FOR I = -3 .DO @ = T[I] .END";
      start = from 34257 65338 false (sense true true false true);
      words = (x, 65280) ∷ (global 0, 57340) ∷ (item 1 65533, 19383) ∷ (item 1 65534, 65529) ∷ (item 1 65535, 0) ∷ [];
      fuel = 5;
      numbers = 0 ∷ 10 ∷ 21 ∷ 33 ∷ 34 ∷ [];
      end = Ending.done 34 0 65535;
      b = 65338;
      carry = false;
      changed = (x, 65535) ∷ (global 0, 0) ∷ [];
    } ∷
    -- case 97: with `*`, `/` and `.MOD`
    record {
      source = ".BEGIN .CHECKED; .INTEGER I; .ARRAY T[2](3,0); I = -2; @ = 1000 * T[I] / T[I] .MOD T[-1] * T[I]; @ = 7 * T[0] .END";
      start = from 65534 48055 false (sense true false false true);
      words = (x, 3) ∷ (global 0, 15986) ∷ (item 1 65534, 32769) ∷ (item 1 65535, 53346) ∷ [];
      fuel = 1;
      numbers = 0 ∷ 2 ∷ 42 ∷ [];
      end = Ending.broken 44 7 0;
      b = 0;
      carry = false;
      changed = (x, 0) ∷ (global 0, 65534) ∷ [];
    } ∷
    -- case 98: ahead of the LRS, above
    record {
      source = ".BEGIN .CHECKED; .INTEGER I; .ARRAY T[2](3,0); I = 3; @ = -7; @ = @ / T[I] .END";
      start = from 3 23135 false (sense false false true false);
      words = (x, 38539) ∷ (global 0, 65533) ∷ (item 1 65534, 65532) ∷ (item 1 65535, 65532) ∷ [];
      fuel = 1;
      numbers = 0 ∷ 2 ∷ 3 ∷ [];
      end = Ending.broken 4 65529 3;
      b = 23135;
      carry = false;
      changed = (x, 3) ∷ (global 0, 3) ∷ [];
    } ∷
    -- case 99: ahead of the LRS, below
    record {
      source = ".BEGIN .CHECKED; .INTEGER I; .ARRAY T[2](3,0); I = -3; @ = -7; @ = @ .MOD T[I] .END";
      start = from 35373 42769 true (sense true false false false);
      words = (x, 18609) ∷ (global 0, 2) ∷ (item 1 65534, 1) ∷ (item 1 65535, 6163) ∷ [];
      fuel = 1;
      numbers = 0 ∷ 2 ∷ 3 ∷ [];
      end = Ending.broken 4 65529 65533;
      b = 42769;
      carry = true;
      changed = (x, 65533) ∷ (global 0, 65533) ∷ [];
    } ∷ []

abbrev tree : Row → Got Program
tree row = parse_program (bytes row.source)

examples : map (λ row. shown row.fuel (started row) (tree row)) rows ≡ map {B = List ℕ × Ending} (λ row. (row.numbers, row.end)) rows
unfolding computed
examples = refl

all_left : map (λ row. left_by row (tree row)) rows ≡ map {B = ℕ × Bool × List ℕ} (λ row. (row.b, row.carry, map (λ w. laid (started row).cells row.changed w.0) row.words)) rows
unfolding computed
all_left = refl

-- how many steps after its break-off each of the cases 87 to 95 and 97 to 99 stopped, by X, which the run left in A (M15)
stops :
    map {B = ℕ} stop_steps (65532 ∷ 0 ∷ 65535 ∷ 1 ∷ 3 ∷ 65530 ∷ 5 ∷ 32768 ∷ 32767 ∷ 0 ∷ 3 ∷ 65533 ∷ [])
    ≡ 5 ∷ 4 ∷ 6 ∷ 4 ∷ 4 ∷ 5 ∷ 4 ∷ 5 ∷ 4 ∷ 4 ∷ 4 ∷ 5 ∷ []
unfolding computed
stops = refl
