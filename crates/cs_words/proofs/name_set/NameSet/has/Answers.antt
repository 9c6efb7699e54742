use Rattle.std.proofs.Common.{◌∙◌, ap, map}
use Rattle.cs_words.specs.NameSets.{has}
use Rattle.cs_words.proofs.Different.{has_name, now}
use Rattle.cs_words.proofs.name_set.NameSet.has.Goals as goal

pub returns : goal.returns
returns c =
    c.contains_key.ensures
    ∙ has_name (map now c.self.inside.names.items) c.self.inside.places c.self.invariant c.args.name.now
    ∙ ap (λ ns. has ns c.args.name.now) c.self.view_is
