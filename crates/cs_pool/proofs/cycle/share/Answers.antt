use Rattle.std.proofs.Common.{◌≡◌, ◌∙◌, ◌+◌, ◌-◌, ◌<◌, ap, arith, false, length, subst, suc, sym, true}
use Rattle.std.proofs.lemmas.Bool.Decides.{nat_tests}
use Rattle.cs_board.specs.Board.{view}
use Rattle.cs_pool.proofs.Parts.{changed, more_served, none_served, total_moved}
use Rattle.cs_pool.specs.{Mailboxes.served, Numbered.IsFirst, Numbered.down, Working.IsDone, Working.IsReady}
use Rattle.cs_pool.proofs.cycle.share.Goals as goal

pub work-requires : goal.work-requires
work-requires g c =
    subst (λ b. IsReady g.J.Job.means b c.lend_parts-parts.new.first) (sym c.deref.ensures)
    c.lend_parts-parts.ensures.lent.ready

pub loop-left-init : goal.loop-left-init
loop-left-init g c =
    let lent = c.lend_parts-parts.ensures.lent in
    let worked = c.work.ensures in record {
      out = lent.out;
      leads = record {
        first = worked.seat.first ∙ lent.leads.first;
        out = worked.seat.out ∙ lent.leads.out ∙ ap down lent.made;
      };
      done = subst (λ b. IsDone g.J.Job.means b c.work.new.seat) c.deref.ensures worked.done;
      few = omega (arith, c.lend_parts-parts.ensures.few, c.requires.few);
      begun = λ h. absurd (let wrong : false ≡ true = h in cc);
      missed = λ h. lent.served;
    }

pub bounds-lines-left : goal.bounds-lines-left
bounds-lines-left g c =
    omega (arith, c.loop-left-test.true, c.loop-left.invariant.few, c.loop-left.invariant.out.long)

pub take_in-one_began-requires : goal.take_in-one_began-requires
take_in-one_began-requires g c =
    let h = c.loop-left.invariant in record {
      away = (
        _,
        h.out.away (c.loop-left.left - 1) c.index-lines-left.result (omega (arith, c.loop-left-test.true)),
      );
      done = h.done;
      first = h.leads.first;
    }

pub loop-left-preserved : goal.loop-left-preserved
loop-left-preserved g c =
    let h = c.loop-left.invariant in
    let i = c.loop-left.left - 1 in
    let from = (view c.args.first.now).made in
    let home = c.take_in-one_began.ensures in
    let y = c.take_in-one_began.new.line in
    let some : 0 < c.loop-left.left = c.loop-left-test.true in
    let low : i < length c.loop-left.lines = omega (arith, some, h.few, h.out.long) in
    let up : from + c.loop-left.left ≡ suc (from + i) = omega (arith, some) in
    let moved = total_moved (λ line. served line.end) c.loop-left.lines i y c.index-lines-left.result low in record {
      out = changed _ from c.loop-left.left i _ _ i _ _ y c.index-lines-left.result low (omega arith)
          (omega (arith, some)) (omega arith) (λ less. absurd (omega (arith, less))) (λ more. home.idle) (omega arith)
          (omega (arith, home.given)) h.out;
      leads = home.leads (from + i) (h.out.away i c.index-lines-left.result (omega (arith, some)))
          (subst (λ n. IsFirst n (view c.loop-left.first)) up h.leads);
      done = home.done;
      few = omega (arith, h.few);
      begun = more_served c.loop-left.begun c.take_in-one_began.result _ _ _ _ _ moved home.served h.begun h.missed;
      missed = none_served c.loop-left.begun c.take_in-one_began.result _ _ _ _ _ moved home.served h.missed;
    }

pub returns : goal.returns
returns g c =
    let h = c.loop-left.invariant in
    let none : c.loop-left.left ≡ 0 = omega (arith, c.loop-left-test.false) in
    let lent = c.lend_parts-parts.ensures in
    let whole : (view c.args.first.now).made + c.loop-left.left ≡ (view c.args.first.now).made = omega (arith, none) in
    record {
      idle = λ k line low. h.out.home k line (omega (arith, none)) low;
      done = h.done;
      leads = subst (λ n. IsFirst n (view c.loop-left.first)) whole h.leads;
      begun = h.begun;
      missed = h.missed;
      most = omega (arith, h.out.given, lent.few);
      all = λ is.
          let every : c.lend_parts-parts.result ≡ c.args.others = grind (arith, nat_tests) in
          omega (arith, h.out.given, every);
    }
