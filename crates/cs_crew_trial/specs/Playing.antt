-- A seat that is played call by call.
use Rattle.cs_board.specs.Board.{plan, name, view, IsSeatOf, IsIdle, IsClaimed, HasRun}
use Rattle.cs_board.specs.declared.{board.Board.Board, view.View.View}
use Rattle.cs_cells.specs.Meaning.{Meaning}
use Rattle.cs_crew_trial.specs.declared.{player.Phase.Phase, player.Player.Player}
use Rattle.cs_crew_trial.specs.declared.player.Phase.TheVariants.{Free, Claimed, Ran, Over}

module _ {J : Type 0} (M : Meaning J) where
  -- what the seat may do next
  abbrev pub IsInPhase : Phase → View J → Type 0
  IsInPhase Free v = IsIdle v
  IsInPhase Claimed v = IsClaimed M v
  IsInPhase Ran v = HasRun M v
  IsInPhase Over v = IsIdle v

  -- the player's seat belongs to the board and may make its next call
  pub record IsPlayer (board : Board J) (p : Player J) : Type 0 where
    pub seat : IsSeatOf M (plan board) (name board) p.seat
    pub phase : IsInPhase p.phase (view p.seat)
