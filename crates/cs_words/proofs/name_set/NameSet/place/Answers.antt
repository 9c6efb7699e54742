use Rattle.std.proofs.Common.{rules}
use Rattle.cs_words.proofs.Different.{index_place}
use Rattle.cs_words.proofs.name_set.NameSet.place.Goals as goal

pub returns : goal.returns
returns c =
    search (
      rules,
      index_place c.self.inside.names.items c.self.inside.places c.self.invariant c.args.name.now
          c.args.self.now c.self.view_is,
    )
