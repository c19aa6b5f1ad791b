-- The kinds of token by number, so that one test of two numbers tells any two apart. The kind of a keyword is named by its letters.
use Rattle.std.specs.Prelude.{ℕ, ◌==◌, List, [], ◌∷◌}
use Rattle.std.specs.List.{find}
use Rattle.std.specs.Option.{unwrap_or}
use Rattle.source.specs.declared.kind.Kind.{Kind}
use Rattle.source.specs.declared.kind.Kind.TheVariants.{EndOfSource, Unknown, OutOfRange, Name, Numeral, Semicolon, Comma, Equal, NotEqual, Less, Greater, AtMost, AtLeast, PlusSign, MinusSign, LeftParenthesis, RightParenthesis, LeftBracket, RightBracket, Quote, At, Hash, Begin, End, Integer, Constant, Compconstant, Array, Nextsector, Procedure, Accumulator, If, Then, Else, When, While, Do, For, Zero, And, Nev, Addc, Inc, Neg, Ssp, Ssm, Chs, Csa, Not, Icleft, Cleft, Swop, Icright, Cright, Abs, Lgr, Ars, Arr, Lgl, Als, Alr, Nonzero, Plus, Minus, Odd, Even, Cset, Notc, Sense1, Sense2, Sense3, Sense4, Anykey, Nokey, Mod, Checked, Star, Slash, Other}

-- the end of the source; unknown bytes, which carry failure 4; a numeral out of range, which carries failure 5; a name; a numeral
abbrev pub end_of_source : ℕ
end_of_source = 0

abbrev pub unknown : ℕ
unknown = 1

abbrev pub out_of_range : ℕ
out_of_range = 2

abbrev pub name : ℕ
name = 3

abbrev pub numeral : ℕ
numeral = 4

-- the signs `; , = <> < > <= >= + - ( ) [ ] ' @ #`; a quote or minus with digits is a numeral
abbrev pub semicolon : ℕ
semicolon = 5

abbrev pub comma : ℕ
comma = 6

abbrev pub equal : ℕ
equal = 7

abbrev pub not_equal : ℕ
not_equal = 8

abbrev pub less : ℕ
less = 9

abbrev pub greater : ℕ
greater = 10

abbrev pub at_most : ℕ
at_most = 11

abbrev pub at_least : ℕ
at_least = 12

abbrev pub plus : ℕ
plus = 13

abbrev pub minus : ℕ
minus = 14

abbrev pub left_parenthesis : ℕ
left_parenthesis = 15

abbrev pub right_parenthesis : ℕ
right_parenthesis = 16

abbrev pub left_bracket : ℕ
left_bracket = 17

abbrev pub right_bracket : ℕ
right_bracket = 18

abbrev pub quote : ℕ
quote = 19

abbrev pub at : ℕ
at = 20

abbrev pub hash : ℕ
hash = 21

-- keywords of a program and of declarations
abbrev pub BEGIN : ℕ
BEGIN = 22

abbrev pub END : ℕ
END = 23

abbrev pub INTEGER : ℕ
INTEGER = 24

abbrev pub CONSTANT : ℕ
CONSTANT = 25

abbrev pub COMPCONSTANT : ℕ
COMPCONSTANT = 26

abbrev pub ARRAY : ℕ
ARRAY = 27

abbrev pub NEXTSECTOR : ℕ
NEXTSECTOR = 28

abbrev pub PROCEDURE : ℕ
PROCEDURE = 29

abbrev pub ACCUMULATOR : ℕ
ACCUMULATOR = 30

-- of statements and conditional expressions
abbrev pub IF : ℕ
IF = 31

abbrev pub THEN : ℕ
THEN = 32

abbrev pub ELSE : ℕ
ELSE = 33

abbrev pub WHEN : ℕ
WHEN = 34

abbrev pub WHILE : ℕ
WHILE = 35

abbrev pub DO : ℕ
DO = 36

abbrev pub FOR : ℕ
FOR = 37

-- a term and a test; two operators
abbrev pub ZERO : ℕ
ZERO = 38

abbrev pub AND : ℕ
AND = 39

abbrev pub NEV : ℕ
NEV = 40

-- unary words
abbrev pub ADDC : ℕ
ADDC = 41

abbrev pub INC : ℕ
INC = 42

abbrev pub NEG : ℕ
NEG = 43

abbrev pub SSP : ℕ
SSP = 44

abbrev pub SSM : ℕ
SSM = 45

abbrev pub CHS : ℕ
CHS = 46

abbrev pub CSA : ℕ
CSA = 47

abbrev pub NOT : ℕ
NOT = 48

abbrev pub ICLEFT : ℕ
ICLEFT = 49

abbrev pub CLEFT : ℕ
CLEFT = 50

abbrev pub SWOP : ℕ
SWOP = 51

abbrev pub ICRIGHT : ℕ
ICRIGHT = 52

abbrev pub CRIGHT : ℕ
CRIGHT = 53

abbrev pub ABS : ℕ
ABS = 54

-- shift words
abbrev pub LGR : ℕ
LGR = 55

abbrev pub ARS : ℕ
ARS = 56

abbrev pub ARR : ℕ
ARR = 57

abbrev pub LGL : ℕ
LGL = 58

abbrev pub ALS : ℕ
ALS = 59

abbrev pub ALR : ℕ
ALR = 60

-- tests of A
abbrev pub NONZERO : ℕ
NONZERO = 61

abbrev pub PLUS : ℕ
PLUS = 62

abbrev pub MINUS : ℕ
MINUS = 63

abbrev pub ODD : ℕ
ODD = 64

abbrev pub EVEN : ℕ
EVEN = 65

-- tests that stand alone, of C and of the sense switches
abbrev pub CSET : ℕ
CSET = 66

abbrev pub NOTC : ℕ
NOTC = 67

abbrev pub SENSE1 : ℕ
SENSE1 = 68

abbrev pub SENSE2 : ℕ
SENSE2 = 69

abbrev pub SENSE3 : ℕ
SENSE3 = 70

abbrev pub SENSE4 : ℕ
SENSE4 = 71

abbrev pub ANYKEY : ℕ
ANYKEY = 72

abbrev pub NOKEY : ℕ
NOKEY = 73

-- one more operator
abbrev pub MOD : ℕ
MOD = 74

-- the word that has every subscript tested
abbrev pub CHECKED : ℕ
CHECKED = 75

-- the signs `*` and `/`; the numbers between are left to keywords, whose kinds follow one another
abbrev pub star : ℕ
star = 100

abbrev pub slash : ℕ
slash = 101

-- the number of each kind of the code; no token is of the last
abbrev pub kind_number : Kind → ℕ
kind_number EndOfSource = end_of_source
kind_number Unknown = unknown
kind_number OutOfRange = out_of_range
kind_number Name = name
kind_number Numeral = numeral
kind_number Semicolon = semicolon
kind_number Comma = comma
kind_number Equal = equal
kind_number NotEqual = not_equal
kind_number Less = less
kind_number Greater = greater
kind_number AtMost = at_most
kind_number AtLeast = at_least
kind_number PlusSign = plus
kind_number MinusSign = minus
kind_number LeftParenthesis = left_parenthesis
kind_number RightParenthesis = right_parenthesis
kind_number LeftBracket = left_bracket
kind_number RightBracket = right_bracket
kind_number Quote = quote
kind_number At = at
kind_number Hash = hash
kind_number Begin = BEGIN
kind_number End = END
kind_number Integer = INTEGER
kind_number Constant = CONSTANT
kind_number Compconstant = COMPCONSTANT
kind_number Array = ARRAY
kind_number Nextsector = NEXTSECTOR
kind_number Procedure = PROCEDURE
kind_number Accumulator = ACCUMULATOR
kind_number If = IF
kind_number Then = THEN
kind_number Else = ELSE
kind_number When = WHEN
kind_number While = WHILE
kind_number Do = DO
kind_number For = FOR
kind_number Zero = ZERO
kind_number And = AND
kind_number Nev = NEV
kind_number Addc = ADDC
kind_number Inc = INC
kind_number Neg = NEG
kind_number Ssp = SSP
kind_number Ssm = SSM
kind_number Chs = CHS
kind_number Csa = CSA
kind_number Not = NOT
kind_number Icleft = ICLEFT
kind_number Cleft = CLEFT
kind_number Swop = SWOP
kind_number Icright = ICRIGHT
kind_number Cright = CRIGHT
kind_number Abs = ABS
kind_number Lgr = LGR
kind_number Ars = ARS
kind_number Arr = ARR
kind_number Lgl = LGL
kind_number Als = ALS
kind_number Alr = ALR
kind_number Nonzero = NONZERO
kind_number Plus = PLUS
kind_number Minus = MINUS
kind_number Odd = ODD
kind_number Even = EVEN
kind_number Cset = CSET
kind_number Notc = NOTC
kind_number Sense1 = SENSE1
kind_number Sense2 = SENSE2
kind_number Sense3 = SENSE3
kind_number Sense4 = SENSE4
kind_number Anykey = ANYKEY
kind_number Nokey = NOKEY
kind_number Mod = MOD
kind_number Checked = CHECKED
kind_number Star = star
kind_number Slash = slash
kind_number Other = 65535

-- the kind of a number, or else the last
abbrev pub kinds : List Kind
kinds =
    EndOfSource ∷ Unknown ∷ OutOfRange ∷ Name ∷ Numeral ∷ Semicolon ∷ Comma ∷ Equal ∷ NotEqual ∷ Less ∷ Greater ∷ AtMost ∷ AtLeast ∷ PlusSign ∷ MinusSign ∷
    LeftParenthesis ∷ RightParenthesis ∷ LeftBracket ∷ RightBracket ∷ Quote ∷ At ∷ Hash ∷ Begin ∷ End ∷ Integer ∷ Constant ∷ Compconstant ∷ Array ∷ Nextsector ∷
    Procedure ∷ Accumulator ∷ If ∷ Then ∷ Else ∷ When ∷ While ∷ Do ∷ For ∷ Zero ∷ And ∷ Nev ∷ Addc ∷ Inc ∷ Neg ∷ Ssp ∷ Ssm ∷ Chs ∷ Csa ∷ Not ∷ Icleft ∷ Cleft ∷
    Swop ∷ Icright ∷ Cright ∷ Abs ∷ Lgr ∷ Ars ∷ Arr ∷ Lgl ∷ Als ∷ Alr ∷ Nonzero ∷ Plus ∷ Minus ∷ Odd ∷ Even ∷ Cset ∷ Notc ∷ Sense1 ∷ Sense2 ∷ Sense3 ∷ Sense4 ∷
    Anykey ∷ Nokey ∷ Mod ∷ Checked ∷ Star ∷ Slash ∷ []

unfoldable pub kind_of : ℕ → Kind
kind_of number = unwrap_or (find (λ kind. kind_number kind == number) kinds) Other
