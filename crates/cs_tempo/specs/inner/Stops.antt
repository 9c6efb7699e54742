-- The remaining stops of each instrument of a section.
use Rattle.std.specs.Prelude.{◌≡◌, ℕ, nat_eq, List, [], Option, Some, None, slice_get}
use Rattle.std.specs.{declared.hash.FoldHasher.FoldHasher, HashMap.get, HashMap.HashMap}
use Rattle.std.specs.declared.hash.BuildHasherDefault.{BuildHasherDefault}
use Rattle.cs_score.specs.{declared.statement.ScoreWhat.ScoreWhat, declared.statement.ScoreStmt.ScoreStmt}
use Rattle.cs_score.specs.declared.statement.ScoreWhat.TheVariants.{Hold}
use Rattle.cs_tempo.specs.{inner.Counted.sounding, inner.Counted.stops_of, inner.Queue.Queue}

-- a queue for each instrument
abbrev pub Queues : Type 0
Queues = HashMap ℕ Queue (BuildHasherDefault FoldHasher)

-- an instrument without remaining stops needs no queue
abbrev pub Shows : Option Queue → List ℕ → ℕ → Type 0
Shows None stops sounding = stops ≡ []
Shows (Some queue) stops sounding = (queue.stops ≡ stops) × (queue.sounding ≡ sounding)

-- each instrument's queue is right after the turns `earlier`, latest first, and before the turns `later`
abbrev pub AreQueues : Queues → List ScoreStmt → List ScoreStmt → Type 0
AreQueues queues earlier later =
    (n : ℕ) → Shows (get nat_eq queues n) (stops_of n later) (sounding n earlier)

-- the beat of the stop that ends this statement's note, from each instrument's remaining stops and number of
-- sounding notes; None unless the note is held
abbrev pub ending : ScoreWhat → (ℕ → List ℕ) → (ℕ → ℕ) → Option ℕ
ending (Hold instr at given more) stops sounding = slice_get (stops instr) (sounding instr)
ending _ stops sounding = None
