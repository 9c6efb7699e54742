use Rattle.std.proofs.Common.{◌≤◌, ◌^◌, [], length, arith, sym, ap, subst}
use Rattle.std.specs.Global.{Vec}
use Rattle.cs_ir.specs.{Routines.AreRoutines, Routines.library_in, declared.routine.Routine.Routine}
use Rattle.cs_code.specs.inner.Served.{Serve}
use Rattle.cs_typed.specs.TypedTree as typed
use Rattle.cs_code.proofs.routines.routines_of.Goals as goal

pub add_routines-requires-clause-are : goal.add_routines-requires-clause-are
add_routines-requires-clause-are c = subst AreRoutines (sym c.in_ok-made.ensures.items) tt

pub add_routines-requires-clause-serve : goal.add_routines-requires-clause-serve
add_routines-requires-clause-serve c = (
  [],
  record {
    code = ap library_in c.in_ok-made.ensures.items;
    extents = c.in_ok-extents.ensures.items;
  },
)

pub returns : goal.returns
returns c =
    let way = c.args.context.pass in
    let sp = c.args.context.spaces in
    let empty : Serve way sp [] (library_in c.in_ok-made.made.items) c.in_ok-extents.extents.items = record {
      code = ap library_in c.in_ok-made.ensures.items;
      extents = c.in_ok-extents.ensures.items;
    } in
    let list = ap (λ (v : Vec Routine). v.items) c.in_ok-new.ensures.ok in
    let serve = c.in_ok-add_routines.ensures.serve [] empty in record {
      serve = subst (λ l. Serve way sp (typed.routines c.args.list.now) (library_in l) c.add_routines.new.extents.items)
          (sym list) serve;
      are = subst AreRoutines (sym list) c.in_ok-add_routines.ensures.are;
      few = subst (λ l. length l ≤ 2 ^ 31) (sym list) (omega (
        arith,
        c.in_ok-add_routines.ensures.count,
        ap length c.in_ok-made.ensures.items,
        c.if-list-gt-MOST.false,
      ));
    }
