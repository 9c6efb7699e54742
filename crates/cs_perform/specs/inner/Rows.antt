-- The notes of a cycle in rows.
use Rattle.cs_cells.specs.Meaning.{Meaning}
use Rattle.cs_row.specs.Heard.{HeardRow, heard_job}
use Rattle.cs_voice.specs.{Mixing.gives, Mixing.shape, VoiceData.VoiceData, VoiceMeaning.voice_job}

-- a row of voices as a job
abbrev pub rows_job : Meaning (HeardRow VoiceData)
rows_job = heard_job voice_job shape gives
