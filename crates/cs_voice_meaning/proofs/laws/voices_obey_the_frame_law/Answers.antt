use Rattle.cs_voice_meaning.proofs.{FrameLaw.voice_frames, OnAllCells.performed_on_all, OnAllCells.left_on_all}
use Rattle.cs_voice_meaning.proofs.laws.voices_obey_the_frame_law.Goals as goal

pub returns-clause-frames : goal.returns-clause-frames
returns-clause-frames c = voice_frames

pub returns-clause-voice : goal.returns-clause-voice
returns-clause-voice c = performed_on_all

pub returns-clause-cells : goal.returns-clause-cells
returns-clause-cells c = left_on_all
