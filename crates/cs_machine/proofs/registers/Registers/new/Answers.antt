use Rattle.std.proofs.Common.{◌∙◌, ap, pos, replicate}
use Rattle.cs_machine.proofs.Putting.{made_kept, made_silent, two_made}
use Rattle.cs_machine.proofs.registers.Registers.new.Goals as goal

pub returns-clause-values : goal.returns-clause-values
returns-clause-values c = made_silent c.args.counts c.args.ksmps _ _ c.in_ok-held_zeros.ensures
    (two_made c.args.counts c.args.ksmps _ _
    (c.in_ok-rows.ensures ∙ ap (λ n. replicate n (replicate c.args.ksmps (pos 0))) c.of.ensures)
    (c.in_ok-rows-2.ensures ∙ ap (λ n. replicate n (replicate c.args.ksmps (pos 0))) c.of-2.ensures))

pub invariant_of-result : goal.invariant_of-result
invariant_of-result c = made_kept c.args.counts c.args.ksmps _ _ c.in_ok-held_zeros.ensures
    (two_made c.args.counts c.args.ksmps _ _
    (c.in_ok-rows.ensures ∙ ap (λ n. replicate n (replicate c.args.ksmps (pos 0))) c.of.ensures)
    (c.in_ok-rows-2.ensures ∙ ap (λ n. replicate n (replicate c.args.ksmps (pos 0))) c.of-2.ensures))
