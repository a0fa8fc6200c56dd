-- The numbers of the form that lines and replies have. Assumes nothing.
use Rattle.std.specs.Prelude.{ℕ}
use Rattle.text.specs.declared.order.Kind.{Kind}
use Rattle.text.specs.declared.order.Kind.TheVariants.{Load, Start, SetLines, Run, Show}

-- the codes of the kinds of line, with which their replies begin too
abbrev pub kind_code : Kind → ℕ
kind_code Load = 0x10
kind_code Start = 0x20
kind_code SetLines = 0x30
kind_code Run = 0x40
kind_code Show = 0x50

-- the code with which a denial begins
abbrev pub denial_code : ℕ
denial_code = 0xFF

-- how many digits a code has
abbrev pub code_width : ℕ
code_width = 2

-- how many digits an address has, and a word, and the number of a line
abbrev pub word_width : ℕ
word_width = 8

-- how many digits the lines have, the number of a register and that of a denial
abbrev pub byte_width : ℕ
byte_width = 2

-- how many digits the cycles that a run asks for have
abbrev pub run_width : ℕ
run_width = 4

-- how many digits a count of a run's reply has
abbrev pub count_width : ℕ
count_width = 16

-- single spaces separate the fields
abbrev pub space : ℕ
space = 0x20

-- the byte that ends a line, and a reply
abbrev pub line_end : ℕ
line_end = 0x0A

-- how many bytes the longest reply has, which tells three counts
abbrev pub longest_reply : ℕ
longest_reply = 54
