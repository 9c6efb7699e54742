use Rattle.std.proofs.Common.{ℕ, List, ◌++◌, codes, ap, refl}
use Rattle.cs_report.specs.declared.status.Status.TheVariants.{Usage, ShelfFault, SinkFault, OutOfMemory}
use Rattle.cs_report.proofs.Saying.{says_message}
use Rattle.cs_report.proofs.talk.say_end.Goals as goal

pub returns-in-Usage-clause-line : goal.returns-in-Usage-clause-line
returns-in-Usage-clause-line g c =
    says_message _ _ c.args.status Usage c.args.name.now _ c.in-Usage.is
    (ap (λ (l : List ℕ). l ++ codes "\n") c.usage_line.ensures) c.say_line.ensures

pub returns-in-ShelfFault-clause-line : goal.returns-in-ShelfFault-clause-line
returns-in-ShelfFault-clause-line g c =
    says_message _ _ c.args.status ShelfFault c.args.name.now _ c.in-ShelfFault.is refl c.say_line-in-ShelfFault.ensures

pub returns-in-SinkFault-clause-line : goal.returns-in-SinkFault-clause-line
returns-in-SinkFault-clause-line g c =
    says_message _ _ c.args.status SinkFault c.args.name.now _ c.in-SinkFault.is refl c.say_line-in-SinkFault.ensures

pub returns-in-OutOfMemory-clause-line : goal.returns-in-OutOfMemory-clause-line
returns-in-OutOfMemory-clause-line g c =
    says_message _ _ c.args.status OutOfMemory c.args.name.now _ c.in-OutOfMemory.is refl
    c.say_line-in-OutOfMemory.ensures
