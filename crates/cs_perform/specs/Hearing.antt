-- The state of taps and of a sink after some calls.
use Rattle.std.specs.{Prelude.ℤ, Prelude.◌≡◌, Prelude.List, Prelude.◌++◌, List.AllZip}
use Rattle.cs_edge.specs.Moves.{SinkTold}
use Rattle.cs_perform.specs.declared.order.Output.{Output}
use Rattle.cs_perform.specs.declared.order.Output.TheVariants.{SoundFile, Nothing}

-- Each tap that had received some values has received the frames after them; there are as many taps as
-- before, in the same order.
abbrev pub Told : {T : Type 0} → (T → List ℤ → Type 0) → List T → List T → List ℤ → Type 0
Told stands_for before now frames =
    AllZip (λ b n. (heard : List ℤ) → stands_for b heard → stands_for n (heard ++ frames)) before now

-- P holds for what a sink tells, if it is written; otherwise it received no call.
abbrev pub IfWritten : {W : Type 0} → (W → SinkTold) → Output → W → W → (SinkTold → SinkTold → Type 0) → Type 0
IfWritten tells SoundFile before now P = P (tells before) (tells now)
IfWritten tells Nothing before now P = now ≡ before
