use Rattle.std.proofs.Common.{◌≤◌, ◌*◌, ℕ, refl, ap, sym, subst, ◌∙◌}
use Rattle.cs_base.specs.{Widths.bytes_of, Limits.most_wav_bytes, declared.head.Head.Head}
use Rattle.cs_piece.specs.Setups.{composition_of}
use Rattle.cs_wav.specs.Wav.{header_bytes, size_of}
use Rattle.cs_perform.proofs.Wholes.{header_is}
use Rattle.cs_perform.proofs.sizes.first_bytes.Goals as goal

pub header-requires : goal.header-requires
header-requires c =
    let head : Head = c.args.setup.now.orchestra.head in
    let P : Head → Type 0 = λ h. size_of c.args.width c.args.frames h ≤ most_wav_bytes in
    let Q : ℕ → Type 0 = λ n. n * head.nchnls * bytes_of c.args.width ≤ most_wav_bytes in
    subst P (sym c.head.ensures) (subst Q (sym c.requires.frames) c.requires.bytes)

pub returns : goal.returns
returns c =
    header_is (composition_of c.args.setup.now) c.args.setup.now.orchestra.head c.args.width c.args.frames
    c.header.result c.requires.frames refl
    (c.header.ensures
    ∙ ap (λ (h : Head). header_bytes c.args.width (size_of c.args.width c.args.frames h) h)
    c.head.ensures)
