use Rattle.std.proofs.Common.{◌≡◌, refl, sym, ◌∙◌, ap, map, subst, Ok, Err, Result}
use Rattle.std.specs.Result.{IsErrAnd}
use Rattle.cs_base.specs.declared.fault.Or.{Or}
use Rattle.cs_base.specs.declared.fault.Or.TheVariants as or
use Rattle.cs_base.specs.declared.limit.LimitHit.{LimitHit}
use Rattle.cs_cells.specs.Areas.{limit_passed}
use Rattle.cs_layout.specs.Layouts.{areas_of}
use Rattle.cs_piece.specs.{Compositions.areas_in, Compositions.live_in, Tables.table_of, Tables.tables_in}
use Rattle.cs_piece.specs.Setups.{IsSetup, SetupData}
use Rattle.cs_typed.specs.declared.tree.TypedOrc.{TypedOrc}
use Rattle.cs_typed.specs.TypedTree as typed
use Rattle.cs_piece.proofs.setup.Setup.new.Goals as goal

-- a setup whose orchestra is this one
as_it_was : (s : SetupData) (o : TypedOrc) → s.orchestra ≡ o → IsSetup (record s { orchestra = o }) → IsSetup s
as_it_was s o e h = subst (λ (x : TypedOrc). IsSetup (record s { orchestra = x })) (sym e) h

pub shared_by-requires-clause-codes : goal.shared_by-requires-clause-codes
shared_by-requires-clause-codes c = (typed.orchestra c.args.orchestra, c.in_ok-lowered.ensures.instruments)

pub invariant_of-result : goal.invariant_of-result
invariant_of-result c =
    let o = typed.orchestra c.args.orchestra in
    let same : map table_of c.in_ok-shared.shared.tables.items ≡ tables_in o c.args.plot.events =
    c.in_ok-shared.ensures.tables o c.in_ok-lowered.ensures.instruments
    ∙ ap (λ es. tables_in o es) c.as_slice-events.ensures in
    as_it_was _ c.args.orchestra c.of-erased.ensures (record {
      head_is = refl;
      spaces_are = refl;
      performable = c.requires.performable;
      sizes = c.requires.sizes;
      asks = c.requires.asks;
      named = c.requires.named;
      tables_are = same;
      areas_are = c.in_ok-shared.ensures.layout
          ∙ ap (λ ns. areas_of c.args.orchestra.head.ksmps (typed.shared_names ns) o.spaces
          (live_in (map table_of c.in_ok-shared.shared.tables.items))) c.globals_of-globals.ensures
          ∙ ap (λ ts. areas_of c.args.orchestra.head.ksmps o.globals o.spaces (live_in ts)) same;
      within = c.in_ok-shared.ensures.within;
      zero_code = c.in_ok-lowered.ensures.zero;
      instruments = c.in_ok-lowered.ensures.instruments;
      zones_are = c.in_ok-shared.ensures.zones;
      zero_touches = c.in_ok-shared.ensures.outside;
      touch = c.in_ok-shared.ensures.feet;
    })

pub returns-clause-within : goal.returns-clause-within
returns-clause-within c =
    let o = typed.orchestra c.args.orchestra in
    sym (ap limit_passed (c.in_ok-shared.ensures.layout
    ∙ ap (λ ns. areas_of c.args.orchestra.head.ksmps (typed.shared_names ns) o.spaces
    (live_in (map table_of c.in_ok-shared.shared.tables.items))) c.globals_of-globals.ensures
    ∙ ap (λ ts. areas_of c.args.orchestra.head.ksmps o.globals o.spaces (live_in ts))
    (c.in_ok-shared.ensures.tables o c.in_ok-lowered.ensures.instruments
    ∙ ap (λ es. tables_in o es) c.as_slice-events.ensures))) ∙ c.in_ok-shared.ensures.within

-- a return by `?` has the fault of the call
left_with : {B : Type 0} (r : Result B (Or LimitHit)) (e : Or LimitHit) (hit : LimitHit) → IsErrAnd r (λ y. y ≡ e)
    → r ≡ Err (or.Fault hit) → e ≡ or.Fault hit
left_with (Ok b) e hit i is = elim i [ ]
left_with (Err g) e hit i is = let same : g ≡ or.Fault hit = cc in sym i ∙ same

pub returns-in_err-shared-clause-limit : goal.returns-in_err-shared-clause-limit
returns-in_err-shared-clause-limit c hit is =
    let o = typed.orchestra c.args.orchestra in
    sym (ap (λ ns. limit_passed (areas_of c.args.orchestra.head.ksmps (typed.shared_names ns) o.spaces
    (live_in (tables_in o c.as_slice-events.result.now)))) c.globals_of-globals.ensures
    ∙ ap (λ es. limit_passed (areas_in o es)) c.as_slice-events.ensures)
    ∙ c.in_err-shared.ensures.limit hit (ap (λ (z : _). Err z)
    (left_with c.from_residual-in_err-shared.result _ hit c.from_residual-in_err-shared.ensures.1 is)) o
    c.in_ok-lowered.ensures.instruments
