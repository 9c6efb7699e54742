use Rattle.std.proofs.Common.{◌≡◌, ◌≤◌, ◌*◌, ap, ◌∙◌, arith}
use Rattle.cs_base.specs.{Limits.most_wav_bytes, declared.head.Head.Head}
use Rattle.cs_tempo.specs.declared.plot.Plot.{Plot}
use Rattle.cs_perform.proofs.Cycles.{frames_fit, some_width}
use Rattle.cs_perform.proofs.sizes.frames_in.Goals as goal

pub overflow_mul-result : goal.overflow_mul-result
overflow_mul-result c =
    let is : c.plot.result.now.cycles * c.head.result.now.ksmps ≡ c.args.setup.now.plot.cycles *
    c.args.setup.now.orchestra.head.ksmps =
    ap (λ (p : Plot). p.cycles * c.head.result.now.ksmps) c.plot.ensures
    ∙ ap (λ (h : Head). c.args.setup.now.plot.cycles * h.ksmps) c.head.ensures in
    let fits : c.args.setup.now.plot.cycles * c.args.setup.now.orchestra.head.ksmps ≤ most_wav_bytes =
    frames_fit _ _ _ _ c.requires.1 (some_width c.requires.0) c.args.setup.now.orchestra.head.nchnls_in_range.0 in
    omega (arith, is, fits)
