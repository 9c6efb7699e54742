-- The life of a note from its beginning on, and the effect of a call of a user-defined opcode on it.
use Rattle.std.specs.Prelude.{ℕ, List, [], ◌∷◌, ◌++◌, ◌≡◌, Some}
use Rattle.std.specs.List.{All}
use Rattle.cs_grammar.specs.Tree.{Definition, Instrument}
use Rattle.cs_typing.specs.Known.{Shared}
use Rattle.cs_base.specs.declared.spaces.Spaces.{Spaces}
use Rattle.cs_ir.specs.Worlds.{World}
use Rattle.cs_meaning.specs.Notes.{Note, Path, start, new_note, moved_to}
use Rattle.cs_meaning.specs.When.{beginning, cycle}
use Rattle.cs_udo_meaning.specs.Frames.{Framed, own_frame, new_framed, framed_in, Reading, actions_before, block_done}
use Rattle.cs_udo_meaning.specs.Frames.{frames_of_block, keepers_of_block, typed_keepers_of_block}
use Rattle.cs_udo_meaning.specs.{Numbered.Numbering, Numbered.Tells, Stands.Way, Stands.IsClear, Stands.StandsForFrames}
use Rattle.cs_typed.specs.TypedTree as typed
use Rattle.cs_meaning.specs.Core as core
use Rattle.cs_meaning.specs.Initialising as initial
use Rattle.cs_meaning.specs.Performing as performing

-- A control cycle of a note: the world in which it is performed, and the changes that others made to its
-- state before.
pub record Cycle (W : Type 0) : Type 0 where
  pub world : World W
  pub others : W → W

-- The states of the world after a note has begun and after each of its cycles.
abbrev pub goes_on : {W : Type 0} → core.Block → List (Cycle W) → Note W → List W
goes_on body [] t = t.world ∷ []
goes_on body (c ∷ more) t =
    t.world ∷ goes_on body more (performing.perf_block c.world start body (moved_to (c.others t.world) t))

-- the states of the world during a note's life, from its beginning on
abbrev pub life : {W : Type 0} → World W → core.Block → List (Cycle W) → W → List W
life o body cycles x = goes_on body cycles (initial.init_block o start body (new_note x))

-- An instrument with frames. It may call only opcodes that are defined before it.
abbrev pub begins : {W : Type 0} → Reading W → List Definition → Instrument → Framed W → Framed W
begins {W} m ds i u = block_done m (actions_before W i.line ds) beginning own_frame start i.body u

-- a control cycle of an instrument with frames
abbrev pub performs : {W : Type 0} → Reading W → List Definition → Instrument → Framed W → Framed W
performs {W} m ds i u = block_done m (actions_before W i.line ds) cycle own_frame start i.body u

-- the same instrument, read in another world
abbrev pub in_world : {W : Type 0} → World W → Reading W → Reading W
in_world o m = record { world = o; spaces = m.spaces; shared = m.shared; number = m.number }

-- the states of the world after a note with frames has begun, and after each of its cycles
abbrev pub goes_on_framed : {W : Type 0} → Reading W → List Definition → Instrument → List (Cycle W) → Framed W → List W
goes_on_framed m ds i [] u = u.world ∷ []
goes_on_framed m ds i (c ∷ more) u =
    u.world ∷ goes_on_framed m ds i more (performs (in_world c.world m) ds i (framed_in (c.others u.world) u))

-- the states of the world during the life of a note with frames
abbrev pub life_with_frames : {W : Type 0} → Reading W → List Definition → Instrument → List (Cycle W) → W → List W
life_with_frames m ds i cycles x = goes_on_framed m ds i cycles (begins m ds i (new_framed x))

-- the reading of an instrument in a world, with any numbers of local names
abbrev pub reading : {W : Type 0} → World W → Spaces → Shared → Numbering → Reading W
reading o spaces shared number = record { world = o; spaces = spaces; shared = shared; number = number }

-- An instrument of the expanded and typed orchestra has the meaning of the instrument with frames, in every
-- world and with any numbers of local names. A clear way leads from its numbers to the frames of the calls,
-- and from each part of the expanded text that may keep values to such a part of the original text. If two
-- notes correspond, they begin and go on in the same way, so their lives are the same, whatever others do
-- between the cycles, and even if each cycle has a different world.
pub record MeansFrames (W : Type 0) (ds : List Definition) (shared : Shared) (i : Instrument)
    (made : typed.Instrument) : Type 0 where
  pub line : made.line ≡ i.line
  pub numbers : made.numbers ≡ i.numbers
  pub register : Numbering
  pub apart : Tells register
  pub way : Way
  pub clear : IsClear way
  pub calls : All (λ p. (f : ℕ) × (way.frame f ≡ Some p))
      (frames_of_block (actions_before W i.line ds) start.path i.body)
  pub parts : All (λ q. (y : Path) → (p : Path) × (way.part p ≡ Some (y ++ q)))
      (keepers_of_block (actions_before W i.line ds) start.path i.body)
  pub leads : All (λ p. (y : Path) → (q : Path) × (way.part (y ++ p) ≡ Some q))
      (typed_keepers_of_block start.path made.body)
  pub begun : (o : World W) (spaces : Spaces) (own : Numbering) → Tells own → (t : Note W) (u : Framed W)
      → StandsForFrames way register own t u
      → StandsForFrames way register own (initial.init_block o start (core.core spaces made.body) t)
      (begins (reading o spaces shared own) ds i u)
  pub performed : (o : World W) (spaces : Spaces) (own : Numbering) → Tells own → (t : Note W) (u : Framed W)
      → StandsForFrames way register own t u
      → StandsForFrames way register own (performing.perf_block o start (core.core spaces made.body) t)
      (performs (reading o spaces shared own) ds i u)
  pub lived : (o : World W) (spaces : Spaces) (own : Numbering) → Tells own → (cycles : List (Cycle W)) (x : W)
      → life o (core.core spaces made.body) cycles x ≡ life_with_frames (reading o spaces shared own) ds i cycles x
