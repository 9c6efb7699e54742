use Rattle.std.proofs.Common.{◌≡◌, ◌++◌}
use Rattle.cs_source.specs.DemoTexts.{note_lines}
use Rattle.cs_source.proofs.demo.add_notes.Given as goal

-- the lines of the notes so far have been added
abbrev pub invariant-loop-number : goal.invariant-loop-number
invariant-loop-number l = l.text.items ≡ l.initial.text.items ++ note_lines l.number
