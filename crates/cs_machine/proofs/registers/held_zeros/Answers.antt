use Rattle.std.proofs.Common.{◌∙◌, ap, pos, replicate}
use Rattle.cs_machine.proofs.Putting.{five_made}
use Rattle.cs_machine.proofs.registers.held_zeros.Goals as goal

pub returns : goal.returns
returns c = five_made c.args.counts.now _ _ _ _ _ (c.in_ok-zeros.ensures ∙ ap (λ n. replicate n (pos 0)) c.of.ensures)
    (c.in_ok-zeros-2.ensures ∙ ap (λ n. replicate n (pos 0)) c.of-2.ensures)
    (c.in_ok-zeros-3.ensures ∙ ap (λ n. replicate n (pos 0)) c.of-3.ensures)
    (c.in_ok-zeros-4.ensures ∙ ap (λ n. replicate n (pos 0)) c.of-4.ensures)
    (c.in_ok-zeros-5.ensures ∙ ap (λ n. replicate n (pos 0)) c.of-5.ensures)
