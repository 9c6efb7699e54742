use Rattle.std.proofs.Common.{sym, subst}
use Rattle.cs_ir.specs.declared.instrument.Body.{Body}
use Rattle.cs_typed.specs.TypedTree as typed
use Rattle.cs_code.specs.Lowered.{IsCodeOf}
use Rattle.cs_code.proofs.orchestra.body_of.Goals as goal

pub joined-body-requires : goal.joined-body-requires
joined-body-requires c = (
  c.args.orc.now.spaces,
  typed.block (typed.routines c.args.orc.now.routines.items) c.args.stmts.now,
  c.requires.rated,
  record {
    begins = c.in_ok-init.ensures.ops;
    performs = c.in_ok-perf.ensures.ops;
    extent = c.in_ok-init.ensures.extent;
  },
)

pub returns : goal.returns
returns c = λ s rated.
    let spaces = c.args.orc.now.spaces in
    let t = typed.block (typed.routines c.args.orc.now.routines.items) c.args.stmts.now in
    subst (λ (b : Body). IsCodeOf spaces s.channels t b.init.code b.perf.code) (sym c.in_ok-new.ensures.ok)
    (c.joined-body.ensures spaces s t rated (record {
      begins = c.in_ok-init.ensures.ops;
      performs = c.in_ok-perf.ensures.ops;
      extent = c.in_ok-init.ensures.extent;
    }))
