use Rattle.std.proofs.Common.{◌≡◌, ◌∙◌, ◌+◌, ◌++◌, ◌∷◌, [], length, arith, ap, sym, subst}
use Rattle.std.proofs.lemmas.List.{drop_all, length-append}
use Rattle.cs_ir.proofs.Libraries.{one_more_routine}
use Rattle.cs_ir.specs.Routines.{AreRoutines, IsRoutineOf, library_in, ops_in}
use Rattle.cs_code.specs.{inner.Code.pass_block_code, inner.Kept.past_block, inner.Kept.start, inner.Served.Serve}
use Rattle.cs_code.specs.inner.Emitted.{block_in, scope_of}
use Rattle.cs_code.proofs.{Growing.serve_as, Lists.dropped, Invoked.serve_more}
use Rattle.cs_typed.specs.TypedTree as typed
use Rattle.cs_code.proofs.routines.add_routines.Goals as goal

pub code_of-requires-clause-are : goal.code_of-requires-clause-are
code_of-requires-clause-are c = subst AreRoutines (sym c.deref.ensures.value) c.loop-stmts.invariant.0

pub code_of-requires-clause-serve : goal.code_of-requires-clause-serve
code_of-requires-clause-serve c =
    let served = c.loop-stmts.invariant.2 c.requires.serve.0 c.requires.serve.1 in (
      served.0,
      serve_as c.args.context.pass c.args.context.spaces served.0 _ _ _ _ (ap library_in c.deref.ensures.value)
          c.deref-in-loop-stmts.ensures.value served.1,
    )

pub loop-stmts-preserved : goal.loop-stmts-preserved
loop-stmts-preserved c =
    let way = c.args.context.pass in
    let sp = c.args.context.spaces in
    let was = c.loop-stmts.invariant in
    let i = c.loop-stmts.stmts-index in
    let x = c.stmts-item.result in
    let made = c.loop-stmts.made.items in
    let extents = c.loop-stmts.extents.items in
    let r = c.in_ok-code.field-0.code in
    let e = c.in_ok-code.field-0.extent in
    let there : c.deref.result.now ≡ made = c.deref.ensures.value in
    let found : c.deref-in-loop-stmts.result.now ≡ extents = c.deref-in-loop-stmts.ensures.value in
    let body : c.deref-in-loop-stmts-2.result.now ≡ x.items = c.deref-in-loop-stmts-2.ensures.value in
    let is = subst (λ l. IsRoutineOf (library_in l) r) there c.in_ok-code.ensures.is in
    let grown : c.push.new.self.items ≡ made ++ r ∷ [] = c.in_ok-push.ensures.items in
    let longer : c.push-in-loop-stmts.new.self.items ≡ extents ++ e ∷ [] = c.in_ok-push-2.ensures.items in (
      subst AreRoutines (sym grown) (one_more_routine made r was.0 is),
      omega (arith, was.1, ap length grown, length-append made (r ∷ [])),
      λ rs serve. let seen = was.2 rs serve in
          let now = seen.0 in
          let b = typed.block now x.items in
          let serves = serve_as way sp now (library_in made) (library_in c.deref.result.now) extents
          c.deref-in-loop-stmts.result.now (ap library_in there) found seen.1 in
          let ops = ap (λ l. ops_in (library_in l) r) (sym there) ∙ c.in_ok-code.ensures.ops now serves
          ∙ ap (λ l. pass_block_code way 0 start (block_in (scope_of sp now) l)) body in
          let extent = c.in_ok-code.ensures.extent now serves
          ∙ ap (λ l. past_block start (block_in (scope_of sp now) l)) body in (
            now ++ b ∷ [],
            serve_as way sp (now ++ b ∷ []) (library_in (made ++ r ∷ [])) (library_in c.push.new.self.items)
                (extents ++ e ∷ []) c.push-in-loop-stmts.new.self.items (ap library_in grown) longer
                (serve_more way sp now b made r extents e seen.1 ops extent),
            sym (ap (typed.more_routines now)
                (dropped c.args.list.now i x (omega (arith, c.loop-stmts-test.true)) c.stmts-item.is)) ∙ seen.2,
          ),
    )

pub returns-clause-count : goal.returns-clause-count
returns-clause-count c = omega (arith, c.loop-stmts.invariant.1, c.loop-stmts-test.false)

pub returns-clause-serve : goal.returns-clause-serve
returns-clause-serve c = λ rs serve.
    let found = c.loop-stmts.invariant.2 rs serve in
    let none = drop_all c.loop-stmts.stmts-index c.args.list.now (omega (arith, c.loop-stmts-test.false)) in
    subst (λ l. Serve c.args.context.pass c.args.context.spaces l (library_in c.loop-stmts.made.items)
    c.loop-stmts.extents.items) (sym (ap (typed.more_routines found.0) none) ∙ found.2) found.1
