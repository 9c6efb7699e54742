use Rattle.std.proofs.Common.{◌≡◌, ◌<◌, ◌-◌, ◌++◌, min, length, take, drop, get_or, arith, ap, ◌∙◌, subst}
use Rattle.std.proofs.lemmas.List.{get_or_default, take_rest, append_assoc}
use Rattle.cs_score.specs.declared.field.Field.{Field}
use Rattle.cs_score.specs.inner.State.{filled, filled_one}
use Rattle.cs_score.proofs.{Pairs.empty, Carried.filled_more, Carried.filled_end, Carried.now_at}
use Rattle.cs_score.proofs.carry.filled.Goals as goal

pub loop-k-preserved : goal.loop-k-preserved
loop-k-preserved c =
    let ws = c.args.written.now in
    let before = c.into_vec-fields.result.items in
    let k = c.loop-k.k in
    let here : Field = c.index.result.now in
    let l : k < length ws = omega arith in
    let m : k < length before = omega (arith, c.into_vec-fields.result.ok) in
    let at : here ≡ get_or before k empty =
    c.index.ensures ∙ now_at ws before c.loop-k.fields.items k here l m c.loop-k.invariant
    ∙ get_or_default before k here empty m in
    filled_more ws before c.loop-k.fields.items k c.filled_one.result empty l m
    (c.filled_one.ensures ∙ ap (λ f. filled_one (get_or ws k empty) f) at) c.loop-k.invariant

pub returns : goal.returns
returns c =
    let ws = c.args.written.now in
    let before = c.into_vec-fields.result.items in
    let n = c.min-count.result in
    let k = c.loop-k.k in
    let all : n ≡ min (length ws) (length before) = omega (arith, c.into_vec-fields.result.ok) in
    let end : k ≡ n = omega arith in
    let now : c.loop-k.fields.items ≡ take n (filled ws before) ++ drop n before =
    subst (λ i. c.loop-k.fields.items ≡ take i (filled ws before) ++ drop i before) end c.loop-k.invariant in
    c.from_vec.ensures ∙ c.in_ok-extend_from_slice.ensures.items ∙ ap (λ t. t ++ take (length ws - n) (drop n ws)) now
    ∙ ap (λ t. (take n (filled ws before) ++ drop n before) ++ t) (take_rest ws n)
    ∙ append_assoc (take n (filled ws before)) (drop n before) (drop n ws) ∙ filled_end n ws before all
    ∙ ap (λ b. filled ws b) c.into_vec-fields.ensures
