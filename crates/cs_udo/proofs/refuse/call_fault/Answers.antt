use Rattle.std.proofs.Common.{◌∙◌, map, sym, ap}
use Rattle.cs_udo.specs.{Refused.at, Refused.call_faults, Library.definitions_of, Library.opcodes_of}
use Rattle.cs_grammar.specs.Tree as tree
use Rattle.cs_udo.proofs.refuse.call_fault.Goals as goal

pub returns-in-Some : goal.returns-in-Some
returns-in-Some c =
    c.fault_at.ensures
    ∙ ap (at c.args.line) (c.broken_rule.ensures
    (opcodes_of (definitions_of c.args.site.now.library.now) c.in-Some.found.place))
    ∙ sym (ap (call_faults c.args.site.now.inside c.args.line c.args.results.now (map tree.argument c.args.args.now))
    c.in-Some.ensures.defined.2)
