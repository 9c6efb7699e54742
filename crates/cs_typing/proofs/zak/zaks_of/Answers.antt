use Rattle.std.proofs.Common.{◌∙◌, ap}
use Rattle.cs_grammar.specs.Tree.{block}
use Rattle.cs_typing.specs.Settings.{zaks_of_block}
use Rattle.cs_typing.proofs.Zaks.{none_seen, fault_after, first_spaces}
use Rattle.cs_typing.proofs.zak.zaks_of.Goals as goal

pub returns-clause-fault : goal.returns-clause-fault
returns-clause-fault c =
    ap (λ s. s.fault) c.after_block.ensures ∙ fault_after none_seen (zaks_of_block (block c.args.outside.now))

pub returns-clause-spaces : goal.returns-clause-spaces
returns-clause-spaces c =
    ap (λ s. s.spaces) c.after_block.ensures ∙ first_spaces (zaks_of_block (block c.args.outside.now))
