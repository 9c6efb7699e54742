use Rattle.std.proofs.Common.{◌≡◌, ◌+◌, ◌<◌, ◌≤◌, ◌∙◌, true, false, ap, arith, length, refl, subst, sym}
use Rattle.std.proofs.lemmas.List.{with_items_is}
use Rattle.std.specs.{List.All, Vec.with_items}
use Rattle.cs_board.specs.Board.{view}
use Rattle.cs_pool.proofs.{Missed.learns, Seats.opened_ready, Seats.opened_leads}
use Rattle.cs_pool.specs.{Numbered.IsFirst, Pools.given_to, Pools.served_by, Working.IsDone, Working.IsReady}
use Rattle.cs_pool.specs.{declared.line.Line.Line, inner.Lines.IsIdle}
use Rattle.cs_pool.proofs.pool.Pool.play.Goals.{After-sole}
use Rattle.cs_pool.proofs.pool.Pool.play.Given.{Over}
use Rattle.cs_pool.proofs.pool.Pool.play.Goals as goal

pub share-shared-requires-clause-idle : goal.share-shared-requires-clause-idle
share-shared-requires-clause-idle g c =
    let P : Line g.row.J.Denot → Type 0 = λ line. IsIdle line in
    subst (All P) (sym c.as_mut_slice-lines.ensures.value) c.args.self.now.idle

pub share-shared-requires-clause-ready : goal.share-shared-requires-clause-ready
share-shared-requires-clause-ready g c = subst (λ b. IsReady g.J.Job.means b c.args.first) (sym c.in-Ok.ensures.ok)
    (opened_ready g.J.Job.means c.args.board c.args.first c.requires.first c.requires.opening)

pub share-shared-requires-clause-leads : goal.share-shared-requires-clause-leads
share-shared-requires-clause-leads g c = opened_leads (view c.args.first) _ c.requires.opening

pub share-shared-requires-clause-few : goal.share-shared-requires-clause-few
share-shared-requires-clause-few g c =
    omega (arith, c.requires.few, ap length c.as_mut_slice-lines.ensures.value)

-- the helpers' lines are those after the cycle
lines_are : (g : Over) (c : After-sole g)
    → (with_items c.args.self.now.lines c.share-shared.new.lines).items ≡ c.share-shared.new.lines
lines_are g c = with_items_is c.args.self.now.lines c.share-shared.new.lines
    (c.share-shared.auto.lines ∙ c.as_mut_slice-lines.ensures.len)

pub returns-in-Ok-clause-board : goal.returns-in-Ok-clause-board
returns-in-Ok-clause-board g c = c.sole.ensures ∙ c.in-Ok.ensures.ok

pub returns-in-Ok-clause-done : goal.returns-in-Ok-clause-done
returns-in-Ok-clause-done g c =
    subst (λ b. IsDone g.J.Job.means b c.share-shared.new.first) c.in-Ok.ensures.ok c.share-shared.ensures.done

pub returns-in-Ok-clause-alone : goal.returns-in-Ok-clause-alone
returns-in-Ok-clause-alone g c =
    subst (λ n. IsFirst n (view c.share-shared.new.first)) (ap (λ v. v.made) c.requires.opening)
    c.share-shared.ensures.leads

pub returns-in-Ok-clause-helpers : goal.returns-in-Ok-clause-helpers
returns-in-Ok-clause-helpers g c =
    ap length (lines_are g c) ∙ c.share-shared.auto.lines ∙ ap length c.as_mut_slice-lines.ensures.value

pub returns-in-Ok-clause-parts : goal.returns-in-Ok-clause-parts
returns-in-Ok-clause-parts g c =
    let was = c.as_mut_slice-lines.ensures.value in
    let told = c.share-shared.ensures in
    record {
      most = subst (λ l. given_to l ≤ given_to c.args.self.now.lines.items + c.args.others) (sym (lines_are g c))
          (subst (λ l. given_to c.share-shared.new.lines ≤ given_to l + c.args.others) was told.most);
      all = λ h. ap given_to (lines_are g c) ∙ told.all h ∙ ap (λ l. given_to l + c.args.others) was;
    }

pub returns-in-Ok-clause-learned : goal.returns-in-Ok-clause-learned
returns-in-Ok-clause-learned g c =
    let was = c.as_mut_slice-lines.ensures.value in
    let told = c.share-shared.ensures in
    learns c.args.self.now _ c.share-shared.result.begun
    (λ h. subst (λ l. served_by c.args.self.now.lines.items < served_by l) (sym (lines_are g c))
    (subst (λ l. served_by l < served_by c.share-shared.new.lines) was (told.begun h)))
    (λ h. ap served_by (lines_are g c) ∙ told.missed h ∙ ap served_by was)
    c.learn.ensures.begun c.learn.ensures.missed

pub invariant_of-self : goal.invariant_of-self
invariant_of-self g c =
    let P : Line g.row.J.Denot → Type 0 = λ line. IsIdle line in
    let is = with_items_is c.args.self.now.lines c.share-shared.new.lines
    (c.share-shared.auto.lines ∙ c.as_mut_slice-lines.ensures.len) in
    record {
      idle = subst (All P) (sym is) c.share-shared.ensures.idle;
      few = omega (
        arith,
        ap length is,
        c.share-shared.auto.lines,
        ap length c.as_mut_slice-lines.ensures.value,
        c.args.self.now.few,
      );
    }

pub work-requires : goal.work-requires
work-requires g c = subst (λ b. IsReady g.J.Job.means b c.args.first) (sym c.in-Err.ensures.value_returned)
    (opened_ready g.J.Job.means c.args.board c.args.first c.requires.first c.requires.opening)

pub returns-in-Err-clause-board : goal.returns-in-Err-clause-board
returns-in-Err-clause-board g c = c.in-Err.ensures.value_returned

pub returns-in-Err-clause-done : goal.returns-in-Err-clause-done
returns-in-Err-clause-done g c =
    subst (λ b. IsDone g.J.Job.means b c.work.new.seat) c.in-Err.ensures.value_returned c.work.ensures.done

pub returns-in-Err-clause-alone : goal.returns-in-Err-clause-alone
returns-in-Err-clause-alone g c = record {
  first = c.work.ensures.seat.first ∙ ap (λ v. v.first) c.requires.opening;
  out = c.work.ensures.seat.out ∙ ap (λ v. v.out) c.requires.opening;
}

pub returns-in-Err-clause-parts : goal.returns-in-Err-clause-parts
returns-in-Err-clause-parts g c = record {
  most = omega arith;
  all = λ h. absurd (let wrong : true ≡ false = h in cc);
}

pub returns-in-Err-clause-learned : goal.returns-in-Err-clause-learned
returns-in-Err-clause-learned g c =
    learns c.args.self.now _ false (λ h. absurd (let wrong : false ≡ true = h in cc)) (λ h. refl)
    c.learn-in-Err.ensures.begun c.learn-in-Err.ensures.missed
