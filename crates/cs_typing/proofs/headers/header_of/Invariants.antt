use Rattle.std.proofs.Common.{◌≡◌, drop}
use Rattle.cs_typing.specs.Settings.{header_of}
use Rattle.cs_typing.proofs.headers.header_of.Given as goal

abbrev pub invariant-loop-line : goal.invariant-loop-line
invariant-loop-line l =
    header_of l.name (drop l.line-index l.lines) ≡ header_of l.name l.lines
