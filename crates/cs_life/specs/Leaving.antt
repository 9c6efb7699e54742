-- Which notes leave.
use Rattle.std.specs.Prelude.{Bool, not, nat_lt}
use Rattle.cs_piece_meaning.specs.{Course.still, Course.turned_off, Moments.Moment}
use Rattle.cs_voice.specs.VoiceData.{VoiceData}
use Rattle.cs_life.specs.declared.leaving.Leaving.{Leaving}
use Rattle.cs_life.specs.declared.leaving.Leaving.TheVariants as leaving

-- whether the note of a voice stays
abbrev pub stays : Leaving → VoiceData → Bool
stays (leaving.Over cycle) v = nat_lt cycle v.until
stays leaving.TurnedOff v = not v.ended

-- the moment after the notes that leave for this reason have left
abbrev pub without : Leaving → Moment → Moment
without (leaving.Over cycle) m = still cycle m
without leaving.TurnedOff m = turned_off m
