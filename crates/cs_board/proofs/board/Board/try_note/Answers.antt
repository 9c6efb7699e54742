use Rattle.std.proofs.Common.{ap, ◌∙◌, sym, subst}
use Rattle.cs_board.specs.{Board.IsIdle, inner.Sittings.seen, inner.Sittings.tried}
use Rattle.cs_board.proofs.board.Board.try_note.Goals as goal

pub returns-then-not-look_status-clause-me : goal.returns-then-not-look_status-clause-me
returns-then-not-look_status-clause-me g c = let s = c.args.sitting.now.me in
    c.look_status.ensures.me ∙ ap (λ b. (seen b s.0 c.args.note, s.1)) c.if-not-look_status.true

pub claim_note-requires-clause-idle : goal.claim_note-requires-clause-idle
claim_note-requires-clause-idle g c = let s = c.args.sitting.now.me in subst (λ z. IsIdle z.0) (sym
    (c.look_status.ensures.me ∙ ap (λ b. (seen b s.0 c.args.note, s.1)) c.if-not-look_status.false)) c.requires.idle

pub returns-clause-me : goal.returns-clause-me
returns-clause-me g c = let s = c.args.sitting.now.me in
    c.claim_note.ensures.me ∙ ap (λ z. (tried g.J.Job.means c.claim_note.result z.0 c.args.note, z.1))
    (c.look_status.ensures.me ∙ ap (λ b. (seen b s.0 c.args.note, s.1)) c.if-not-look_status.false)
