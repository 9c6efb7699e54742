use Rattle.std.proofs.Common.{◌∙◌, map, None, ap}
use Rattle.cs_udo.specs.Refused.{faults_outside, faults_of_instruments}
use Rattle.cs_udo.specs.{Library.definitions_of, inner.Walks.after_faults}
use Rattle.cs_udo.proofs.Faulted.{whole_after}
use Rattle.cs_grammar.specs.Tree as tree
use Rattle.cs_udo.proofs.refuse.first_fault.Goals as goal

pub returns : goal.returns
returns c =
    let ds = definitions_of c.args.library.now in
    whole_after (tree.orchestra c.args.orc.now) ds c.after_outside-outside.result c.after_definitions-definitions.result
    c.after_instruments.result
    c.requires
    (c.after_outside-outside.ensures
    ∙ ap (λ xs. after_faults None (faults_outside ds (tree.block xs))) c.deref.ensures.value)
    c.after_definitions-definitions.ensures
    (c.after_instruments.ensures
    ∙ ap (λ xs. after_faults c.after_definitions-definitions.result (faults_of_instruments ds (map tree.instrument xs)))
    c.deref-2.ensures.value)
