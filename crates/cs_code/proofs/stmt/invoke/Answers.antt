use Rattle.std.proofs.Common.{sym, ap₂, refl, subst, length}
use Rattle.cs_ir.proofs.Drafting.{grew_none}
use Rattle.cs_ir.specs.Drafts.{Grew, drafted, library_of}
use Rattle.cs_code.proofs.Invoked.{invoked_code, invoked_past, nothing_invoked, nothing_past}
use Rattle.cs_code.proofs.stmt.invoke.Goals as goal

pub returns : goal.returns
returns c = λ rs serve.
    let old = c.args.ops.now in
    record {
      ops = subst (Grew old c.invoke.new.self)
          (invoked_code c.args.context.pass c.args.context.spaces rs (library_of old) c.args.extents.now serve
          c.args.number (length (drafted old)) c.args.p c.args.base _ c.in_ok-narrow.ensures c.in_ok-narrowed.ensures
          refl refl) c.in_ok-invoke.ensures;
      next = invoked_past c.args.context.pass c.args.context.spaces rs (library_of old) c.args.extents.now serve
          c.args.number c.args.p c.in-Some.extent.now _ c.args.base c.in-Some.ensures.lookup.0
          c.in-Some.ensures.lookup.1
          (ap₂ (λ n m. record { part = n; unit = m }) c.in_ok-add.ensures c.in_ok-add-2.ensures);
    }

pub returns-in_default : goal.returns-in_default
returns-in_default c = λ rs serve.
    let old = c.args.ops.now in
    record {
      ops = subst (Grew old old)
          (sym (nothing_invoked c.args.context.pass c.args.context.spaces rs (library_of old) c.args.extents.now serve
          c.args.number (length (drafted old)) c.args.p c.args.base c.in_default.ensures.lookup.0)) (grew_none old);
      next = sym (nothing_past c.args.context.pass c.args.context.spaces rs (library_of old) c.args.extents.now serve
          c.args.number c.args.p c.args.base c.in_default.ensures.lookup.0);
    }
