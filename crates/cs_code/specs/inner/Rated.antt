-- Statements that satisfy the rules of rates in some piece.
use Rattle.cs_typed.specs.TypedTree as typed
use Rattle.cs_typed.specs.{WellRated.IsRatedBlock, declared.setting.Setting.Setting}

-- the block satisfies the rules of rates in some piece
abbrev pub IsRatedSomewhere : typed.Block → Type 0
IsRatedSomewhere b = (s : Setting) × IsRatedBlock s b
