use Rattle.std.proofs.Common.{◌∙◌, ◌++◌, ◌∷◌, [], ap, arith, map, sym}
use Rattle.std.proofs.lemmas.List.{take_all}
use Rattle.cs_ir.proofs.RegisterKinds.{all_small}
use Rattle.cs_ir.specs.{Placed.regs_read, Validity.has_register, Waves.first_values}
use Rattle.cs_machine.specs.Registers.{values}
use Rattle.cs_machine.proofs.Gathered.{each_read, none_past}
use Rattle.cs_voice.proofs.Fitting.{one_read}
use Rattle.cs_voice.proofs.asks.gather.Goals as goal

pub get-requires : goal.get-requires
get-requires c = all_small c.args.regs.now.counts (regs_read c.args.from) c.requires

pub first-requires : goal.first-requires
first-requires c = each_read (has_register c.args.regs.now.counts) (regs_read c.args.from) c.loop-place.place
    c.in-Some.register c.requires (sym c.get.ensures ∙ c.in-Some.is)

pub loop-place-preserved : goal.loop-place-preserved
loop-place-preserved c = one_read (values c.args.regs.now) (regs_read c.args.from) c.loop-place.place
    c.in-Some.register c.loop-place.into.items _ (sym c.get.ensures ∙ c.in-Some.is) c.loop-place.invariant
    (c.in_ok-push.ensures.items ∙ ap (λ z. c.loop-place.into.items ++ z ∷ []) c.first.ensures)

pub unreachable-requires : goal.unreachable-requires
unreachable-requires c =
    let far = none_past (regs_read c.args.from) c.loop-place.place (sym c.get.ensures ∙ c.in_default.is) in
    absurd (omega (arith, far, c.loop-place-test.true, c.len-place-end.ensures))

pub returns : goal.returns
returns c = c.loop-place.invariant
    ∙ ap (λ l. first_values (map (values c.args.regs.now) l)) (take_all c.loop-place.place (regs_read c.args.from)
    (omega (arith, c.loop-place-test.false, c.len-place-end.ensures)))
