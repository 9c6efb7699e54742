-- The starter of a note, if there is one.
use Rattle.std.specs.Prelude.{List, [], Option, Some, None}
use Rattle.cs_ir.specs.declared.ask.Ask.{Ask}
use Rattle.cs_voice.specs.{Codes.Finding, declared.starter.Starter.Starter}

-- what the note finds, with which of its tables have been made by now; None in a control cycle
abbrev pub finding : Option Starter → Finding
finding None = None
finding (Some s) = Some (s.finds.now, s.made.now)

-- the notes that have been scheduled
abbrev pub asked : Option Starter → List Ask
asked None = []
asked (Some s) = s.asks.items
