-- The settings in a piece's header.
use Rattle.std.specs.Prelude.{ℕ, ℤ}
use Rattle.cs_base.specs.declared.head.Head.{Head}

-- The settings that apply to an entire piece: frames per second, frames per control cycle, channels, and full
-- scale in 65,536ths. Their ranges are not stated here: the rules for texts are defined with this record.
pub record Header : Type 0 where
  pub sr : ℕ
  pub ksmps : ℕ
  pub nchnls : ℕ
  pub dbfs : ℤ

-- the header of a piece that is played, without the proofs of its ranges
abbrev pub header_of_head : Head → Header
header_of_head h = record { sr = h.sr; ksmps = h.ksmps; nchnls = h.nchnls; dbfs = h.dbfs }
