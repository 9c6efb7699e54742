use Rattle.std.proofs.Common.{◌∙◌, ap, arith, sym}
use Rattle.std.proofs.lemmas.Option.{get_or_from_slice_get}
use Rattle.cs_ir.proofs.RegisterKinds.{all_small}
use Rattle.cs_ir.specs.{Placed.regs_read, Validity.has_register}
use Rattle.cs_machine.specs.{Registers.values, inner.Gathered.no_register}
use Rattle.cs_machine.proofs.Gathered.{each_read, none_past}
use Rattle.cs_machine.proofs.gather.first_at.Goals as goal

pub get-requires : goal.get-requires
get-requires c = all_small c.args.regs.now.counts (regs_read c.args.from) c.requires

pub first-requires : goal.first-requires
first-requires c = each_read (has_register c.args.regs.now.counts) (regs_read c.args.from) c.args.place
    c.in-Some.register c.requires (sym c.get.ensures ∙ c.in-Some.is)

pub returns-in-Some : goal.returns-in-Some
returns-in-Some c = λ low. c.first.ensures ∙ ap (λ q. values c.args.regs.now q 0)
    (sym (get_or_from_slice_get (regs_read c.args.from) c.args.place c.in-Some.register no_register
    (sym c.get.ensures ∙ c.in-Some.is)))

pub returns-in-None : goal.returns-in-None
returns-in-None c = λ low. absurd
    (let far = none_past (regs_read c.args.from) c.args.place (sym c.get.ensures ∙ c.in-None.is) in
    omega (arith, far, low))
