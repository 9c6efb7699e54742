use Rattle.std.proofs.Common.{ℕ, ◌++◌, List, take}
use Rattle.std.specs.List.{AllZip}
use Rattle.cs_base.specs.declared.spaces.Spaces.{Spaces}
use Rattle.cs_typed.specs.TypedTree as typed
use Rattle.cs_code.specs.Lowered.{IsCodeOf, IsNumberedCode, numbered_with}
use Rattle.cs_code.proofs.orchestra.add_numbers.Given as goal

abbrev pub invariant-loop-number : goal.invariant-loop-number
invariant-loop-number l =
    (spaces : Spaces) (channels : ℕ) (t : typed.Block) (ps : List (ℕ × typed.Block))
    → IsCodeOf spaces channels t l.body.value.init.code l.body.value.perf.code
    → AllZip (IsNumberedCode spaces channels) ps l.initial.list.items
    → AllZip (IsNumberedCode spaces channels) (ps ++ numbered_with t (take l.number-index l.numbers)) l.list.items
