use Rattle.std.proofs.Common.{◌≡◌, true, false, not, ap, sym, ◌∙◌, subst}
use Rattle.std.specs.{List.All, Option.is_some, Option.option_or}
use Rattle.std.proofs.lemmas.List.Elements.{All-push}
use Rattle.cs_score.specs.Ranges.{IsInRange}
use Rattle.cs_score.proofs.Counts.{kept_more}
use Rattle.cs_score.proofs.kept.KeptStatements.take.Goals as goal

pub returns-in_ok-push-clause-keeps : goal.returns-in_ok-push-clause-keeps
returns-in_ok-push-clause-keeps c = λ all h.
    kept_more all c.args.statement c.args.self.now _ h (c.in_ok-see.ensures all h.tables) (c.see-2.ensures all h.events)
    c.in_ok-push.ensures.ok

pub returns-in_ok-push-clause-ranges : goal.returns-in_ok-push-clause-ranges
returns-in_ok-push-clause-ranges c = λ before this.
    subst (All IsInRange) (sym c.in_ok-push.ensures.ok)
    (All-push IsInRange c.args.self.now.statements c.args.statement before this)

pub returns-else-is_none-clause-keeps : goal.returns-else-is_none-clause-keeps
returns-else-is_none-clause-keeps c = λ all h. record {
  tables = c.in_ok-see.ensures all h.tables;
  events = c.see-2.ensures all h.events;
  all_kept = λ t e.
      let wrong : true ≡ false =
      sym (c.is_none.ensures ∙ ap not c.if-is_none.false)
      ∙ ap is_some (c.hit.ensures ∙ ap (λ x. option_or x c.see-2.new.self.hit) t ∙ e) in
      absurd cc;
}

pub returns-else-is_none-clause-ranges : goal.returns-else-is_none-clause-ranges
returns-else-is_none-clause-ranges c = λ before this. before
