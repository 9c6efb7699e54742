use Rattle.std.proofs.Common.{ℕ, ◌≡◌, ◌+◌, ◌*◌, length, ap, ◌∙◌, subst, arith}
use Rattle.std.proofs.lemmas.List.FromFn.{length-map-range_with_len}
use Rattle.cs_base.specs.Heads.{header_of_head}
use Rattle.cs_signal.specs.{Linseg.pieces_of, Operands.argument, Pace.pace_of, Pace.steps_of, inner.Pieces.IsPlace}
use Rattle.cs_signal.proofs.linseg.Linseg.start.Goals as goal

pub invariant_of-result : goal.invariant_of-result
invariant_of-result c =
    let n : ℕ = pieces_of c.args.init.now in
    let values : length c.in_ok-values.values.items ≡ n + 1 =
    ap length c.in_ok-values.ensures
    ∙ length-map-range_with_len (λ (k : ℕ). argument c.args.init.now (2 * k)) 0 (n + 1) in
    let lengths : length c.in_ok-lengths.lengths.items ≡ n = ap length c.in_ok-lengths.ensures
    ∙ length-map-range_with_len
    (λ (k : ℕ). steps_of c.args.rate (pace_of (header_of_head c.args.head.now))
    (argument c.args.init.now (2 * k + 1))) 0 n in (
      omega arith,
      omega arith,
      subst (λ l. IsPlace l 0 c.place_of-place.result.piece c.place_of-place.result.begin) c.deref.ensures.value
          c.place_of-place.ensures,
    )
