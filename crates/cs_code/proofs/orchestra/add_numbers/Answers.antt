use Rattle.std.proofs.Common.{ℕ, List, ◌++◌, ◌+◌, sym, subst, take}
use Rattle.std.specs.List.{AllZip}
use Rattle.cs_ir.specs.Instruments.{Numbered}
use Rattle.cs_code.specs.Lowered.{IsNumberedCode, numbered_with}
use Rattle.cs_code.proofs.Instruments.{one_numbered, code_same}
use Rattle.cs_code.proofs.orchestra.add_numbers.Goals as goal

pub loop-number-preserved : goal.loop-number-preserved
loop-number-preserved c = λ spaces channels t ps code zip.
    let ns : List ℕ = c.args.numbers.now in
    let i : ℕ = c.loop-number.number-index in
    let x : Numbered = c.in_ok-new.field-0 in
    subst (λ l. AllZip (IsNumberedCode spaces channels) (ps ++ numbered_with t (take (i + 1) ns)) l)
    (sym c.in_ok-push.ensures.items)
    (one_numbered spaces channels t ps ns i 0 c.loop-number.list.items x c.loop-number-test.true
    (c.loop-number.invariant spaces channels t ps code zip) c.in_ok-new.ensures.number
    (code_same spaces channels t x.init x.perf c.args.body.now.value.init.code c.args.body.now.value.perf.code
    c.in_ok-new.ensures.init c.in_ok-new.ensures.perf code))
