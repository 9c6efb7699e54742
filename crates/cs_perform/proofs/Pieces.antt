-- A sink that is written piece by piece.
use Rattle.std.proofs.Common.{◌≡◌, ◌≤◌, ℕ, List, [], ◌++◌, refl}
use Rattle.cs_edge.specs.{declared.moves.Move.TheVariants.End, Told.Follows}
use Rattle.cs_edge.specs.Moves.{SinkTold, GrownBy, IsEnded, WroteMore, WrotePart, Wrote, Stopped}
use Rattle.cs_edge.proofs.Stories.{wrote_on, stopped_end, stopped_part, finished}
use Rattle.cs_perform.specs.inner.Ends.{Finishes, Stops}
use Rattle.cs_perform.proofs.Files.{front_all, keeps_part, keeps_still, wrote_keeps}

-- the file's first bytes were written in part
pub begun_in_part : (a b c : SinkTold) (name first : List ℕ) → Wrote a b name [] → WrotePart b c first → (rest : List ℕ)
    → Stopped a c name (first ++ rest)
begun_in_part a b c name first w p rest = stopped_part a b c name [] first (first ++ rest) w p (rest, refl)

-- the file's last bytes were written in part
pub ended_in_part : (a b : SinkTold) (last : List ℕ) → WrotePart a b last → Stops last a b
ended_in_part a b last p start name bytes w = (
  stopped_part start a b name bytes last (bytes ++ last) w p (front_all (bytes ++ last)),
  keeps_part start a b name bytes last (wrote_keeps start a name bytes bytes w (front_all bytes)) p,
)

pub ended : (a b c : SinkTold) (last : List ℕ) → WroteMore a b last → Follows b.held c.held IsEnded
    → Follows b.moves c.moves (GrownBy End) → c.faults ≡ b.faults → Finishes last a c
ended a b c last m held moves same start name bytes w =
    finished start b c name (bytes ++ last) (wrote_on start a b name bytes last w m) held moves same

pub end_failed : (a b c : SinkTold) (last : List ℕ) → WroteMore a b last
    → Follows b.held c.held (λ before now. now ≡ before)
    → Follows b.moves c.moves (GrownBy End) → b.faults ≤ c.faults → Stops last a c
end_failed a b c last m held moves later start name bytes w =
    let wrote = wrote_on start a b name bytes last w m in (
      stopped_end start b c name (bytes ++ last) wrote held moves later,
      keeps_still start b c name bytes (wrote_keeps start b name bytes (bytes ++ last) wrote (last, refl)) held,
    )
