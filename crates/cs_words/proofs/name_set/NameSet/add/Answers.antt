use Rattle.std.proofs.Common.{◌≡◌, ◌∙◌, ap, arith, false, map, sym}
use Rattle.cs_words.specs.NameSets.{has}
use Rattle.cs_words.proofs.Different.{indexed_more, name_seen, now, unless_failed}
use Rattle.cs_words.proofs.name_set.NameSet.add.Goals as goal

pub invariant_of-self-else-is_err : goal.invariant_of-self-else-is_err
invariant_of-self-else-is_err c =
    let new : has (map now c.self.inside.names.items) c.args.name.now ≡ false =
    ap (λ ns. has ns c.args.name.now) c.self.view_is ∙ sym c.has.ensures ∙ c.if-has.false in
    indexed_more c.self.inside.names.items c.push.new.self.items c.args.name c.self.inside.places c.insert.new.self
    c.len-place.result c.self.invariant new (omega (arith, c.len-place.ensures, c.self.inside.names.ok.0))
    c.in_ok-push.ensures.items
    (unless_failed c.insert.result (sym c.if-is_err.ensures.value) c.insert.ensures.updates)

pub returns-clause-ok : goal.returns-clause-ok
returns-clause-ok c =
    name_seen c.self.inside.names.items c.push.new.self.items c.args.name c.args.self.now c.self.view_is
    (sym c.has.ensures ∙ c.if-has.false) c.in_ok-push.ensures.items
