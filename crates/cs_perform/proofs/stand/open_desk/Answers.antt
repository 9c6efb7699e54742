use Rattle.std.proofs.Common.{ap, pos, replicate, sym, ◌∙◌}
use Rattle.cs_cells.specs.Areas.{word_count}
use Rattle.cs_desk.specs.Desk.{Standing}
use Rattle.cs_perform.proofs.Standings.{allows_all}
use Rattle.cs_perform.proofs.stand.open_desk.Goals as goal

pub new-requires-clause-cells : goal.new-requires-clause-cells
new-requires-clause-cells g c =
    c.in_ok-desk.ensures.cells
    ∙ ap (λ n. replicate n (pos 0)) (ap word_count c.zones.ensures ∙ c.facts.ensures.zones.words)

pub new-requires-clause-access : goal.new-requires-clause-access
new-requires-clause-access g c =
    allows_all _ _ (sym (ap word_count (c.in_ok-desk.ensures.areas ∙ c.zones.ensures) ∙ c.facts.ensures.zones.words))

pub returns-clause-stands : goal.returns-clause-stands
returns-clause-stands g c = c.in_ok-life.ensures.stands

pub returns-clause-setup : goal.returns-clause-setup
returns-clause-setup g c = c.in_ok-life.ensures.setup

pub returns-clause-areas : goal.returns-clause-areas
returns-clause-areas g c =
    ap (λ (s : Standing). s.areas) c.in_ok-life.ensures.rest ∙ c.in_ok-desk.ensures.areas ∙ c.zones.ensures
