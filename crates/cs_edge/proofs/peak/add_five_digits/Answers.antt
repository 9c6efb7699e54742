use Rattle.std.proofs.Common.{List, ℕ, ◌++◌, ◌-◌, ◌∙◌, ◌≡◌, ap, length, decimal, replicate, append_assoc, refl}
use Rattle.cs_edge.specs.Taps.{five_digits}
use Rattle.cs_edge.proofs.Lines.{shows_as}
use Rattle.cs_edge.proofs.peak.add_five_digits.Goals as goal

pub returns : goal.returns
returns c text h =
    let digits : c.as_bytes-digits.result.now ≡ decimal c.args.n =
    c.as_bytes-digits.ensures.value ∙ c.format.ensures.text in
    let zeros : c.zeros_before.result.now ≡ replicate (5 - length (decimal c.args.n)) 48 =
    c.zeros_before.ensures ∙ ap (λ (l : List ℕ). replicate (5 - length l) 48) digits in
    shows_as _ _ _ (text ++ five_digits c.args.n)
    (append_assoc text c.zeros_before.result.now c.as_bytes-digits.result.now ∙ rw (zeros, digits) refl)
    (c.add_piece.ensures (text ++ c.zeros_before.result.now) (c.add_piece-used.ensures text h))
