use Rattle.std.proofs.Common.{◌≡◌, Ok, slice_get, sym, ap, ◌∙◌}
use Rattle.cs_score.specs.{Carry.is_same, Notes.p2_by}
use Rattle.cs_score.specs.inner.State.{completed, continuing, fields_read, p1_before, p2_read}
use Rattle.cs_score.proofs.Carried.{kept_is}
use Rattle.cs_score.proofs.carry.note_with.Goals as goal

pub returns-clause-kept : goal.returns-clause-kept
returns-clause-kept c =
    let last = c.args.last in
    let goes_on : c.is_same-continuing.result ≡ continuing last c.args.written =
    c.is_same-continuing.ensures ∙ ap (λ r. is_same r (p1_before last.instr)) (sym c.requires.instr) in
    let fields : c.in_ok-carried.carried.fields ≡ fields_read last c.args.written =
    c.in_ok-carried.ensures ∙ ap (λ b. completed b c.args.written last.fields) goes_on in
    let p2 : p2_read last c.args.written ≡ Ok c.in_ok-p2.p2 =
    ap (λ fs. p2_by (continuing last c.args.written) last.p2 last.gap (slice_get fs 1)) (sym fields)
    ∙ ap (λ b. p2_by b last.p2 last.gap (slice_get c.in_ok-carried.carried.fields 1)) (sym goes_on)
    ∙ ap (p2_by c.is_same-continuing.result last.p2 last.gap) (sym c.field_at.ensures) ∙ sym c.in_ok-p2.ensures in
    kept_is c.note_of.result last c.args.written c.args.instr c.in_ok-p2.p2 c.in_ok-carried.carried.fields
    c.requires.instr fields p2 c.note_of.ensures.kept
