-- The stated limits of the profile by name: the greatest count that each allows, and its number. Also the
-- bounds of the language, which are rules: a text that exceeds one has a fault.
use Rattle.std.specs.Prelude.{ℕ}
use Rattle.cs_base.specs.declared.limit.Limit.{Limit}
use Rattle.cs_base.specs.declared.limit.Limit.TheVariants as limit

-- most bytes of an orchestra
abbrev pub most_orchestra_bytes : ℕ
most_orchestra_bytes = 1048576

-- most bytes of a score
abbrev pub most_score_bytes : ℕ
most_score_bytes = 4194304

-- most different instrument numbers of an orchestra
abbrev pub most_instruments : ℕ
most_instruments = 200

-- most statements of one instrument, including the statements in its `if`s
abbrev pub most_statements : ℕ
most_statements = 2000

-- most notes that are active in one control cycle
abbrev pub most_notes : ℕ
most_notes = 512

-- most different table numbers of a score
abbrev pub most_tables : ℕ
most_tables = 300

-- most `i` and `f` statements of a score, including stops and `f 0`
abbrev pub most_events : ℕ
most_events = 100000

-- most bytes of samples in a sound file
abbrev pub most_wav_bytes : ℕ
most_wav_bytes = 2147483648

-- most words of all shared resources together
abbrev pub most_words : ℕ
most_words = 65536

-- most samples of all delay lines of one note
abbrev pub most_delay_samples : ℕ
most_delay_samples = 262144

-- most shared resources
abbrev pub most_resources : ℕ
most_resources = 4096

-- most notes that a performance stores after other notes scheduled them
abbrev pub most_asks : ℕ
most_asks = 100000

-- most bytes of one file with orchestra and score
abbrev pub most_csd_bytes : ℕ
most_csd_bytes = 5242880

-- most `if`s around a statement
abbrev pub most_nested_ifs : ℕ
most_nested_ifs = 100

-- most tokens on a line of an orchestra
abbrev pub most_line_tokens : ℕ
most_line_tokens = 1000

-- the greatest instrument number
abbrev pub greatest_instrument : ℕ
greatest_instrument = 32767

-- the greatest p-field number in an orchestra, and the most fields of a statement in a score
abbrev pub greatest_field : ℕ
greatest_field = 100

-- the greatest size that `zakinit` accepts
abbrev pub greatest_zak_size : ℕ
greatest_zak_size = 1000

-- the greatest number of frames per second
abbrev pub greatest_sr : ℕ
greatest_sr = 192000

-- the greatest number of frames per control cycle
abbrev pub greatest_ksmps : ℕ
greatest_ksmps = 4096

-- most channels
abbrev pub most_channels : ℕ
most_channels = 16

-- the greatest table number
abbrev pub greatest_table : ℕ
greatest_table = 65535

-- the number of a limit, which is printed in a refusal
abbrev pub limit_number : Limit → ℕ
limit_number limit.OrchestraBytes = 1
limit_number limit.ScoreBytes = 2
limit_number limit.Instruments = 3
limit_number limit.Statements = 4
limit_number limit.Notes = 5
limit_number limit.Tables = 6
limit_number limit.Events = 7
limit_number limit.WavBytes = 8
limit_number limit.Words = 9
limit_number limit.DelaySamples = 10
limit_number limit.Resources = 11
limit_number limit.Asks = 12
limit_number limit.CsdBytes = 13

-- the greatest count that a limit allows
abbrev pub most_of : Limit → ℕ
most_of limit.OrchestraBytes = most_orchestra_bytes
most_of limit.ScoreBytes = most_score_bytes
most_of limit.Instruments = most_instruments
most_of limit.Statements = most_statements
most_of limit.Notes = most_notes
most_of limit.Tables = most_tables
most_of limit.Events = most_events
most_of limit.WavBytes = most_wav_bytes
most_of limit.Words = most_words
most_of limit.DelaySamples = most_delay_samples
most_of limit.Resources = most_resources
most_of limit.Asks = most_asks
most_of limit.CsdBytes = most_csd_bytes
