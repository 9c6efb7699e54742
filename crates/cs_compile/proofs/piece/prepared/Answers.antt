use Rattle.std.proofs.Common.{◌≡◌, ◌≤◌, ◌*◌, Ok, Err, sym, subst, ap, ◌∙◌}
use Rattle.cs_base.specs.{Faults.passed, Limits.most_wav_bytes, declared.refusal.Refusal.Refusal}
use Rattle.cs_piece.specs.{Compositions.composition, Setups.SetupData}
use Rattle.cs_tempo.specs.declared.plot.Plot.{Plot}
use Rattle.cs_typed.specs.declared.tree.TypedOrc.{TypedOrc}
use Rattle.cs_wav.specs.Wav.{size_of}
use Rattle.cs_compile.specs.Meaning.{piece_of}
use Rattle.cs_compile.proofs.Told.{fits, limited, short, told, too_long}
use Rattle.cs_base.specs.declared.limit.Limit.TheVariants as limit
use Rattle.cs_base.specs.declared.refusal.Refusal.TheVariants as why
use Rattle.cs_typed.specs.TypedTree as typed
use Rattle.cs_compile.proofs.piece.prepared.Goals as goal

pub returns-in_err-setup-clause-refused : goal.returns-in_err-setup-clause-refused
returns-in_err-setup-clause-refused c =
    let o = c.args.orchestra in
    let plot = c.args.plot in
    told why.Limit (λ w. piece_of c.args.width (typed.orchestra o) o.head plot ≡ Err w) c.from_residual.result
    c.in_err-setup.field-0.0 c.from_residual.ensures.1
    (λ hit is. limited c.args.width (typed.orchestra o) o.head plot hit
    (c.in_err-setup.ensures.limit hit (ap (λ (z : _). Err z) is)))

pub returns-then-too_long-clause-refused : goal.returns-then-too_long-clause-refused
returns-then-too_long-clause-refused c = λ r e.
    let o = c.args.orchestra in
    let plot = c.args.plot in
    let is : c.passed.result ≡ passed limit.WavBytes = c.passed.ensures in
    let same : passed limit.WavBytes ≡ r = cc in
    subst (λ (w : Refusal). piece_of c.args.width (typed.orchestra o) o.head plot ≡ Err w) same
    (too_long c.args.width (typed.orchestra o) o.head plot c.is_too_long-too_long.result c.is_too_long-too_long.ensures
    c.if-too_long.true c.in_ok-setup.ensures.within)

pub returns-clause-accepted : goal.returns-clause-accepted
returns-clause-accepted c =
    let o = c.args.orchestra in
    let plot = c.args.plot in
    let made : SetupData = c.in_ok-setup.setup in
    short c.args.width (typed.orchestra o) o.head plot c.is_too_long-too_long.result c.is_too_long-too_long.ensures
    c.if-too_long.false c.in_ok-setup.ensures.within
    ∙ ap (λ (x : TypedOrc). Ok (composition (typed.orchestra x) plot)) (sym c.in_ok-setup.ensures.orchestra)
    ∙ ap (λ (p : Plot). Ok (composition (typed.orchestra made.orchestra) p)) (sym c.in_ok-setup.ensures.plot)

pub returns-clause-fits : goal.returns-clause-fits
returns-clause-fits c =
    let o = c.args.orchestra in
    let made : SetupData = c.in_ok-setup.setup in
    subst (λ (x : TypedOrc). size_of c.args.width (made.plot.cycles * x.head.ksmps) x.head ≤ most_wav_bytes)
    (sym c.in_ok-setup.ensures.orchestra)
    (subst (λ (p : Plot). size_of c.args.width (p.cycles * o.head.ksmps) o.head ≤ most_wav_bytes)
    (sym c.in_ok-setup.ensures.plot)
    (fits c.args.width o.head c.args.plot c.is_too_long-too_long.result c.is_too_long-too_long.ensures
    c.if-too_long.false))
