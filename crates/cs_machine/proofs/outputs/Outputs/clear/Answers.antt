use Rattle.std.proofs.Common.{◌∙◌, ap, subst, sym, [], slice_index_or}
use Rattle.cs_machine.specs.{inner.Kept.AreRows, Rows.row_wave}
use Rattle.cs_machine.proofs.Frames.{all_written}
use Rattle.cs_machine.proofs.outputs.Outputs.clear.Goals as goal

pub invariant_of-self : goal.invariant_of-self
invariant_of-self c = subst (AreRows c.self.inside.ksmps)
    (sym (all_written c.self.inside.channels.len c.clear_all.new.channels c.self.inside.channels.items
    (c.clear_all.ensures.long ∙ c.deref_mut.ensures.len))) (c.clear_all.ensures.rows c.self.inside.ksmps
    (subst (AreRows c.self.inside.ksmps) (sym c.deref_mut.ensures.value) c.self.invariant))

pub returns-clause-outs : goal.returns-clause-outs
returns-clause-outs c = λ i n. (ap (λ rows. row_wave (slice_index_or rows n []))
    (all_written c.self.inside.channels.len c.clear_all.new.channels c.self.inside.channels.items
    (c.clear_all.ensures.long ∙ c.deref_mut.ensures.len)) ∙ c.clear_all.ensures.silent n) i
