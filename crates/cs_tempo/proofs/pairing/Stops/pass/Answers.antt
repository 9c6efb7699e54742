use Rattle.std.proofs.Common.{◌≡◌, ℕ, ◌+◌, min, drop, length, List, arith, ap, sym, ◌∙◌}
use Rattle.std.proofs.lemmas.List.{drop_min, drop-drop}
use Rattle.cs_tempo.specs.inner.Queue.{Queue}
use Rattle.cs_tempo.proofs.pairing.Stops.pass.Goals as goal

pub returns-clause-stops : goal.returns-clause-stops
returns-clause-stops c =
    let p : ℕ = c.self.inside.passed in
    let items : List ℕ = c.self.inside.beats.items in
    let m : c.min-self-inside.result ≡ min (p + 1) (length items) =
    omega (arith, c.min-self-inside.ensures, c.len.ensures, c.self.inside.beats.ok) in
    ap (λ n. drop n items) m ∙ drop_min (p + 1) items ∙ sym (drop-drop 1 p items)
    ∙ ap (λ (l : Queue). drop 1 l.stops) c.self.view_is
