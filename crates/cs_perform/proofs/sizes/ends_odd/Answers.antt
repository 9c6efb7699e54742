use Rattle.std.proofs.Common.{◌≡◌, ◌≤◌, ◌*◌, ◌%◌, ◌==◌, ℕ, refl, ap, sym, subst, ◌∙◌, arith}
use Rattle.cs_base.specs.{Limits.most_wav_bytes, Widths.bytes_of, declared.head.Head.Head}
use Rattle.cs_piece.specs.Setups.{composition_of}
use Rattle.cs_perform.proofs.{Cycles.some_width, Cycles.values_fit, Wholes.values_are, Wholes.wav_ends}
use Rattle.cs_perform.proofs.sizes.ends_odd.Goals as goal

pub overflow_mul-values : goal.overflow_mul-values
overflow_mul-values c =
    let head : Head = c.args.setup.now.orchestra.head in
    let fits : c.args.setup.now.plot.cycles * head.ksmps * head.nchnls ≤ most_wav_bytes =
    values_fit _ _ _ _ c.requires.bytes (some_width c.args.width) in
    let is : c.args.frames * c.head.result.now.nchnls ≡ c.args.setup.now.plot.cycles * head.ksmps *
    head.nchnls =
    ap (λ (h : Head). c.args.frames * h.nchnls) c.head.ensures
    ∙ ap (λ (n : ℕ). n * head.nchnls) c.requires.frames in
    omega (arith, fits, is)

pub overflow_mul-size : goal.overflow_mul-size
overflow_mul-size c =
    let head : Head = c.args.setup.now.orchestra.head in
    let is : c.args.frames * c.head.result.now.nchnls ≡ c.args.setup.now.plot.cycles * head.ksmps *
    head.nchnls =
    ap (λ (h : Head). c.args.frames * h.nchnls) c.head.ensures
    ∙ ap (λ (n : ℕ). n * head.nchnls) c.requires.frames in
    let fits : c.args.frames * c.head.result.now.nchnls * bytes_of c.args.width ≤ most_wav_bytes =
    subst (λ (n : ℕ). n * bytes_of c.args.width ≤ most_wav_bytes) (sym is) c.requires.bytes in
    rw c.bytes.ensures (omega (arith, fits))

pub returns : goal.returns
returns c =
    let head : Head = c.args.setup.now.orchestra.head in
    wav_ends (composition_of c.args.setup.now) head c.args.width _ (c.args.frames * c.head.result.now.nchnls)
    (ap (λ (h : Head). c.args.frames * h.nchnls) c.head.ensures
    ∙ values_are (composition_of c.args.setup.now) c.args.frames head.nchnls c.requires.frames refl)
    (ap (λ (n : ℕ). c.args.frames * c.head.result.now.nchnls * n % 2 == 1) c.bytes.ensures)
