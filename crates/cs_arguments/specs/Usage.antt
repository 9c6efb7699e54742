-- The line that says how the program is called.
use Rattle.std.specs.Prelude.{ℕ, List, codes}

-- the usage line, without a line feed
abbrev pub usage_text : List ℕ
usage_text =
    codes "usage: csplay [-j N] [-o FILE] [-W] [-s] [-d] [-n] [-3] [--turns] [--pool] (ORC SCO | CSD | --demo N)"
