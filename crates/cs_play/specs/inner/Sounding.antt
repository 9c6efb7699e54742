-- The results of a performance and its report, by the status with which they end.
use Rattle.std.specs.Prelude.{ℕ, ◌≡◌, ◌++◌, List, [], Result, Ok, Err, flat_map}
use Rattle.cs_arguments.specs.Orders.{asked_in}
use Rattle.cs_edge.specs.Moves.{SinkTold, WroteMore, WrotePart}
use Rattle.cs_perform.specs.Performances.{Lent, LentSight, PerformsPiece}
use Rattle.cs_perform.specs.declared.order.Outcome.{Outcome}
use Rattle.cs_piece.specs.Setups.{composition_of}
use Rattle.cs_play.specs.{Endings.request_in, declared.player.Played.Played, inner.Faulted.fault_status}
use Rattle.cs_play.specs.declared.preparing.Prepared.{Prepared}
use Rattle.cs_report.specs.{Report.counts_in, Report.line_room, Talk.Says, Talk.message_of}
use Rattle.cs_report.specs.{declared.counts.PerformanceCounts.PerformanceCounts, declared.status.Status.Status}
use Rattle.cs_play.specs.declared.player.Played.TheVariants as what
use Rattle.cs_report.specs.declared.status.Status.TheVariants as status

-- the counts that the performer returned
abbrev pub counts_told : Outcome → PerformanceCounts
counts_told o = record {
  frames = o.frames;
  cycles = o.cycles;
  started = o.started;
  not_started = o.not_started;
  out_of_range = o.out_of_range;
}

-- What was prepared was performed: a piece as the arguments ask for it, or nothing if there is no piece.
abbrev pub HasPlayed : {B K C : Type 0} → LentSight B K C → Result Prepared Status → Lent B K C → Lent B K C
    → Played → Type 0
HasPlayed see (Ok p) before now (what.Piece r) =
    PerformsPiece see (request_in (asked_in p.order) (composition_of p.setup) p.setup.orchestra.head) before now r
HasPlayed see (Err s) before now (what.Nothing t) = (t ≡ s) × (now ≡ before)
HasPlayed see _ before now _ = ⊥

-- `talk` has a report: the complete one at Ok, a prefix of it at TalkFault
abbrev pub HasReported : SinkTold → SinkTold → List ℕ → Status → Type 0
HasReported before now text status.Ok = WroteMore before now text
HasReported before now text status.TalkFault = WrotePart before now text
HasReported before now text _ = ⊥

-- The result of a performance was printed: the report, with the lines of these meters, or the line of the
-- status; if there is no piece, the line was printed before.
abbrev pub HasSaid : {T B : Type 0} → (T → SinkTold) → (B → ℕ → List ℕ) → Played → List B → T → T → Status → Type 0
HasSaid tells line (what.Piece (Ok o)) taps before now s = HasReported (tells before) (tells now)
    (counts_in (counts_told o) ++ flat_map (λ tap. line tap line_room) taps ++ o.turns) s
HasSaid tells line (what.Piece (Err f)) taps before now s =
    (s ≡ fault_status f) × Says (tells before) (tells now) (message_of (fault_status f) [])
HasSaid tells line (what.Nothing t) taps before now s = (s ≡ t) × (now ≡ before)
