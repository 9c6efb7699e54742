use Rattle.std.proofs.Common.{◌<◌, ◌≤◌, sym, ◌∙◌, arith, inl, inr, ⊎_elim}
use Rattle.std.proofs.lemmas.Bool.{cases_lt}
use Rattle.cs_board.specs.{Board.plan, Board.IsIdle, inner.Sittings.AllTried}
use Rattle.cs_board.proofs.Trying.{all_join, if_none_map, at_none, not_none, tries_join}
use Rattle.cs_board.proofs.board.Board.try_round.Goals as goal

pub try_range-requires-clause-idle : goal.try_range-requires-clause-idle
try_range-requires-clause-idle g c = (at_none c.try_range-won.result (IsIdle c.try_range-won.new.sitting.me.0
    × AllTried c.args.sitting.now.me.0 c.try_range-won.new.sitting.me.0 c.args.from c.args.self.now.notes)
    (sym c.is_some.ensures ∙ c.if-is_some.false) c.try_range-won.ensures.none).0

pub returns-clause-none : goal.returns-clause-none
returns-clause-none g c =
    let n = c.args.self.now.notes in
    let u = c.args.sitting.now.me.0 in
    let v = c.try_range-won.new.sitting.me.0 in
    let w = c.try_range.new.sitting.me.0 in
    let first = at_none c.try_range-won.result (IsIdle v × AllTried u v c.args.from n)
    (sym c.is_some.ensures ∙ c.if-is_some.false) c.try_range-won.ensures.none in
    if_none_map c.try_range.result (IsIdle w × AllTried v w 0 c.args.from)
    (IsIdle w × AllTried u w 0 (plan c.args.self.now).notes)
    (λ h. (
      h.0,
      λ t low high. all_join u v w c.args.from n 0 c.args.from c.try_range-won.ensures.tries c.try_range.ensures.tries
          first.1 h.1 t (⊎_elim (λ (l : t < c.args.from). inr (low, l))
          (λ (l : c.args.from ≤ t). inl (l, omega (arith, high, c.args.self.now.built.notes)))
          (cases_lt t c.args.from)),
    ))
    c.try_range.ensures.none

pub returns-then-is_some-clause-none : goal.returns-then-is_some-clause-none
returns-then-is_some-clause-none g c =
    not_none c.try_range-won.result _ (sym c.is_some.ensures ∙ c.if-is_some.true)

pub returns-clause-tries : goal.returns-clause-tries
returns-clause-tries g c = tries_join _ _ _ c.try_range-won.ensures.tries c.try_range.ensures.tries
