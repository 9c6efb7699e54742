use Rattle.std.proofs.Common.{◌≡◌, ℕ, pos, replicate, ap, ◌∙◌}
use Rattle.std.proofs.lemmas.Result.{IfOk-weaker}
use Rattle.cs_cells.specs.{Areas.word_count, Cells.values}
use Rattle.cs_desk.specs.Desk.{cells}
use Rattle.cs_perform.proofs.Standings.{zero_cells}
use Rattle.cs_perform.proofs.stand.first_desk.Goals as goal

pub returns-clause-cells : goal.returns-clause-cells
returns-clause-cells g c =
    let n : ℕ = word_count c.args.layout.now in
    let zeros : values c.deref.result.now ≡ replicate n (pos 0) =
    ap values (c.deref.ensures.value ∙ c.in_ok-words.ensures.items_if_clones_equal (λ y e. e))
    ∙ ap (λ (k : ℕ). values (replicate k 0)) c.words.ensures.words ∙ zero_cells n in
    IfOk-weaker c.new.result (λ d. cells d ≡ values c.deref.result.now) (λ d. cells d ≡ replicate n (pos 0))
    (λ d e. e ∙ zeros) c.new.ensures.cells
