use Rattle.std.proofs.Common.{◌≡◌, ◌∙◌, ◌++◌, [], List, Some, ap, get_or, length, ltb-true, refl, rules, slice_get}
use Rattle.std.proofs.Common.{subst, sym}
use Rattle.std.proofs.lemmas.{Bool.ltb-false, Fn.dedup_same, List.append-nil, List.take_all}
use Rattle.std.proofs.lemmas.{List.Concat.flat_map-append, Option.slice_get_read}
use Rattle.cs_ir.specs.{Flat.flat, Flat.ops_at, Routines.library_in, Touched.named, Touched.resources}
use Rattle.cs_ir.specs.{Resources.NameTheSame, Resources.ops_touch, declared.op.Op.Op}
use Rattle.cs_ir.specs.inner.Naming.{access_of, kept, own_touches, routines_touch, step_touches}
use Rattle.cs_ir.proofs.Naming.{each_once, flat_next, none_added, routine_touches, same_added, same_all, same_given}
use Rattle.cs_ir.proofs.Naming.{same_is, same_key, same_next, same_then, touch_added, touch_passed}
use Rattle.cs_ir.proofs.touches.touched.Goals.{in-Some+in_ok-push, in_default}
use Rattle.cs_ir.proofs.touches.touched.Goals.{in-Some-get+in_ok-extend_from_slice, in-Use, in-Write, in_default-get}
use Rattle.cs_ir.proofs.touches.touched.Goals as goal

pub loop-step-preserved : goal.loop-step-preserved
loop-step-preserved c = λ stock.
    let t = access_of c.args.access in
    let step = c.step-item.result in
    let old = c.loop-step.touches.items in
    let so_far = ap (λ l. l ++ step_touches t stock step) (c.loop-step.invariant stock)
    ∙ flat_next (step_touches t stock) c.args.steps.now c.loop-step.step-index step c.loop-step-test.true
    c.step-item.is in
    let more = ap (λ l. named stock old ++ l) (c.own_touch.ensures stock) in
    elim c.match-own_touch.branch [
      | in-Some+in_ok-push w ↦ ap (λ v. named stock v.items) w.touches-is ∙ ap (named stock) w.in_ok-push.ensures.items
          ∙ touch_added stock old w.in-Some.touch c.own_touch.result w.in-Some.is ∙ more ∙ so_far
      | in_default w ↦ ap (λ v. named stock v.items) w.touches-is
          ∙ touch_passed stock (named stock old) c.own_touch.result w.in_default.not-Some ∙ more ∙ so_far
    ]

pub loop-number-init : goal.loop-number-init
loop-number-init c = λ stock.
    same_is (named stock c.loop-step.touches.items) (named stock c.loop-step.touches.items ++ [])
    (sym (append-nil (named stock c.loop-step.touches.items)))

pub loop-number-preserved : goal.loop-number-preserved
loop-number-preserved c = λ stock.
    let t = access_of c.args.access in
    let list = c.args.routines.now in
    let rs : List (List Op) = library_in list in
    let ns = c.args.invoked.now in
    let i = c.loop-number.number-index in
    let n = get_or ns i 0 in
    let now = c.loop-number.touches.items in
    let before = named stock c.loop-step.touches.items in
    let then_is = named stock c.match-get.touches.items in
    let new : NameTheSame then_is (named stock now ++ ops_touch t stock (ops_at rs n)) =
    elim c.match-get.branch [
      | in-Some-get+in_ok-extend_from_slice w ↦
          let r = w.in-Some-get.routine.now in
          let h = w.in-Some-get.ensures.lookup in
          let there : slice_get list n ≡ Some r =
          slice_get_read list (length list) n r refl (ltb-true n (length list) (sym h.0)) h.1 in
          let more : w.match-access.extend_from_slice.now ≡ kept t r.touches = elim w.match-access.branch [
            | in-Use v ↦ ap (λ s. s.now) v.extend_from_slice-is ∙ v.deref.ensures.value
                ∙ ap (λ a. kept (access_of a) r.touches) (sym v.in-Use.is)
            | in-Write v ↦ ap (λ s. s.now) v.extend_from_slice-is ∙ v.deref-in-Write.ensures.value
                ∙ ap (λ a. kept (access_of a) r.touches) (sym v.in-Write.is)
          ] in
          same_added (named stock now) then_is (named stock (kept t r.touches)) (ops_touch t stock (ops_at rs n))
          (ap (λ v. named stock v.items) w.touches-is
          ∙ ap (named stock) (w.in_ok-extend_from_slice.ensures.items ∙ ap (λ l. now ++ l) more)
          ∙ flat_map-append (resources stock) now (kept t r.touches))
          (routine_touches t list n r stock c.requires.routines there)
      | in_default-get w ↦ subst (λ l. NameTheSame l (named stock now ++ ops_touch t stock (ops_at rs n)))
          (sym (ap (λ v. named stock v.items) w.touches-is)) (none_added t stock list n (named stock now)
          (ltb-false n (length list) (sym w.in_default-get.ensures.lookup.0)))
    ] in
    same_next t stock rs ns i n before (named stock now) then_is c.loop-number-test.true refl
    (c.loop-number.invariant stock) new

pub returns : goal.returns
returns c stock =
    let t = access_of c.args.access in
    let rs : List (List Op) = library_in c.args.routines.now in
    let ss = c.args.steps.now in
    let ns = c.args.invoked.now in
    let own = named stock c.loop-step.touches.items in
    let all = named stock c.loop-number.touches.items in
    let once = c.shrink_to_fit.new.self.items in
    let left = dedup_same _ same_key _ (λ x y b f x' y' k. search rules) _ _ c.dedup_by_key.ensures.filtered in
    let own_is : own ≡ own_touches t stock ss =
    c.loop-step.invariant stock
    ∙ ap (own_touches t stock) (take_all c.loop-step.step-index ss c.loop-step-test.false) in
    let routines = subst (λ l. NameTheSame all (own ++ routines_touch t stock rs l))
    (take_all c.loop-number.number-index ns c.loop-number-test.false) (c.loop-number.invariant stock) in
    same_then (named stock once) all (ops_touch t stock (flat rs ss))
    (same_given (resources stock) once c.loop-number.touches.items
    (λ x. each_once c.loop-number.touches.items c.sort_unstable_by_key.new.self.items once x
    c.sort_unstable_by_key.ensures.permutation (c.shrink_to_fit.ensures.items ∙ left)))
    (same_all t stock rs ss ns own all own_is c.requires.invoked routines)
