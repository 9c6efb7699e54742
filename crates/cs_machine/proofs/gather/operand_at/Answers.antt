use Rattle.std.proofs.Common.{◌∙◌, ap, arith, sym}
use Rattle.std.proofs.lemmas.Option.{get_or_from_slice_get}
use Rattle.cs_ir.proofs.RegisterKinds.{all_small}
use Rattle.cs_ir.specs.{Placed.regs_read, Validity.has_register}
use Rattle.cs_machine.specs.{Registers.values, inner.Gathered.no_register}
use Rattle.cs_machine.proofs.Gathered.{each_read, none_past}
use Rattle.cs_machine.proofs.gather.operand_at.Goals as goal

pub get-requires : goal.get-requires
get-requires c = all_small c.args.regs.now.counts (regs_read c.args.from) c.requires

pub operand-requires : goal.operand-requires
operand-requires c = each_read (has_register c.args.regs.now.counts) (regs_read c.args.from) c.args.place
    c.in-Some.register c.requires (sym c.get.ensures ∙ c.in-Some.is)

pub returns-in-Some-clause-stands : goal.returns-in-Some-clause-stands
returns-in-Some-clause-stands c = λ low frame. c.operand.ensures.value frame ∙ ap (λ q. values c.args.regs.now q frame)
    (sym (get_or_from_slice_get (regs_read c.args.from) c.args.place c.in-Some.register no_register
    (sym c.get.ensures ∙ c.in-Some.is)))

pub returns-in-None-clause-stands : goal.returns-in-None-clause-stands
returns-in-None-clause-stands c = λ low frame. absurd
    (let far = none_past (regs_read c.args.from) c.args.place (sym c.get.ensures ∙ c.in-None.is) in
    omega (arith, far, low))
