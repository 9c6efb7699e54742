use Rattle.std.proofs.Common.{◌≡◌, drop, take, []}
use Rattle.cs_typing.specs.Settings.{headers_fault}
use Rattle.cs_typing.proofs.headers.headers_fault.Given as goal

abbrev pub invariant-loop-line : goal.invariant-loop-line
invariant-loop-line l =
    (l.n ≡ l.line-index) × (headers_fault (take l.line-index l.lines) (drop l.line-index l.lines) ≡ headers_fault []
    l.lines)
