-- What cycles do to the objects that are lent to a performance.
use Rattle.std.specs.Prelude.{ℕ, ◌<◌, ◌≤◌, ℤ, List}
use Rattle.cs_piece_meaning.specs.Heard.{frames_before, mix_in}
use Rattle.cs_edge.specs.Moves.{SinkTold, WroteMore, WrotePart}
use Rattle.cs_wav.specs.Wav.{samples_of}
use Rattle.cs_perform.specs.{Hearing.IfWritten, Hearing.Told, inner.Stands.CountsCycle}
use Rattle.cs_perform.specs.Performances.{Lent, LentSight, Performed, Request}

-- the samples for the values of a request's frames
abbrev pub samples_for : Request → List ℤ → List ℕ
samples_for request frames = samples_of request.order.width request.head.dbfs frames

module _ {T W C : Type 0} (see : LentSight T W C) (request : Request) where
  -- A cycle was passed to the taps and counted, and its samples were written in the given way, if the sink is
  -- written.
  pub record RunsCycle (Writes : SinkTold → SinkTold → List ℕ → Type 0) (n : ℕ) (before now : Lent T W C) : Type
      0 where
    pub told : Told see.stands before.taps now.taps (mix_in request.piece n)
    pub counted : CountsCycle see.counted request.piece n before.tally now.tally
    pub written : IfWritten see.wav request.order.output before.wav now.wav
        (λ x y. Writes x y (samples_for request (mix_in request.piece n)))

  -- a cycle whose samples were all written
  abbrev pub PlaysCycle : ℕ → Lent T W C → Lent T W C → Type 0
  PlaysCycle n before now = RunsCycle WroteMore n before now

  -- a cycle whose samples were written in part
  abbrev pub BreaksCycle : ℕ → Lent T W C → Lent T W C → Type 0
  BreaksCycle n before now = RunsCycle WrotePart n before now

  -- The first `n` cycles were passed to the taps and counted, and their samples were written, if the sink is
  -- written.
  pub record PlayedOn (n : ℕ) (before now : Lent T W C) : Type 0 where
    pub performed : Performed see request.piece n before now
    pub written : IfWritten see.wav request.order.output before.wav now.wav
        (λ x y. WroteMore x y (samples_for request (frames_before request.piece n)))

  -- Some number of the cycles were passed to the taps and counted, and their samples were written.
  pub record PausedOn (before now : Lent T W C) : Type 0 where
    pub cycles : ℕ
    pub within : cycles ≤ request.piece.cycles
    pub played : PlayedOn cycles before now

  -- Some number of the cycles were passed to the taps, counted and written, and then one more, whose samples
  -- were written in part.
  pub record BrokeOn (before now : Lent T W C) : Type 0 where
    pub cycles : ℕ
    pub within : cycles < request.piece.cycles
    pub between : Lent T W C
    pub played : PlayedOn cycles before between
    pub broke : BreaksCycle cycles between now
