use Rattle.std.proofs.Common.{◌≡◌, ◌+◌, ◌<◌, arith, length, refl, subst}
use Rattle.std.specs.Arc.{arc_value}
use Rattle.cs_pool.proofs.Parts.{one_lent}
use Rattle.cs_pool.specs.inner.Parts.{AreLent}
use Rattle.cs_pool.proofs.cycle.lend_parts.Goals as goal

pub loop-part-init : goal.loop-part-init
loop-part-init g c = record {
  out = record {
    away = λ i line low. absurd (omega (arith, low));
    home = λ i line high low. c.requires.idle i line low;
    long = refl;
    given = omega arith;
  };
  leads = c.requires.leads;
  ready = c.requires.ready;
  made = omega arith;
  served = refl;
}

pub bounds-lines-part : goal.bounds-lines-part
bounds-lines-part g c = omega (arith, c.loop-part-test.true, c.loop-part.invariant.out.long, c.requires.few)

pub lend-requires : goal.lend-requires
lend-requires g c =
    let h = c.loop-part.invariant in record {
      idle = h.out.home c.loop-part.part c.index-lines-part.result (omega arith)
          (omega (arith, c.loop-part-test.true, h.out.long, c.requires.few));
      ready = h.ready;
      leads = h.leads;
    }

pub returns-then-not-lend : goal.returns-then-not-lend
returns-then-not-lend g c =
    let i = c.loop-part.part in
    let h = c.loop-part.invariant in
    let low : i < length c.loop-part.lines = omega (arith, c.loop-part-test.true, h.out.long, c.requires.few) in
    record {
      few = omega (arith, c.loop-part-test.true);
      lent = one_lent g.J.Job.means _ i 0 i _ _ c.lend.new.line c.index-lines-part.result _ _ _ low (omega arith)
          c.if-not-lend.ensures h;
    }

pub loop-part-preserved : goal.loop-part-preserved
loop-part-preserved g c =
    let i = c.loop-part.part in
    let h = c.loop-part.invariant in
    let low : i < length c.loop-part.lines = omega (arith, c.loop-part-test.true, h.out.long, c.requires.few) in
    one_lent g.J.Job.means _ i 1 (i + 1) _ _ c.lend.new.line c.index-lines-part.result _ _ _ low refl
    c.if-not-lend.ensures h

pub returns : goal.returns
returns g c =
    let all : c.loop-part.part ≡ c.args.others = omega arith in record {
      few = omega arith;
      lent = subst (λ n. AreLent g.J.Job.means (arc_value c.args.board.now) n c.args.lines.now c.loop-part.lines
          c.args.first.now c.loop-part.first) all c.loop-part.invariant;
    }
