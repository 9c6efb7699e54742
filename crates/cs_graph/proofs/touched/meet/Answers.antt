use Rattle.std.proofs.Common.{◌≡◌, ◌≢◌, ◌∙◌, ℕ, Bool, [], ap, sym, arith}
use Rattle.std.proofs.lemmas.List.{get_or_default}
use Rattle.cs_graph.specs.{Conflict.foot, inner.Touched.lists, inner.Touched.uses_so_far, inner.Touched.writes_so_far}
use Rattle.cs_graph.proofs.TouchedLemmas.{others_same, clash-met, or_with, of_earlier, users_more, writers_more}
use Rattle.cs_graph.proofs.touched.meet.Goals as goal

pub returns-clause-met : goal.returns-clause-met
returns-clause-met c = λ p earlier.
    let apart : p ≢ c.args.note = omega arith in
    let feet = c.args.feet.now in
    let here : foot feet c.args.note ≡ c.index-feet-note.result =
    get_or_default feet c.args.note (record { uses = []; writes = [] }) c.index-feet-note.result c.requires.within
    ∙ sym c.index-feet-note.is in
    rw here (clash-met (foot feet p) c.index-feet-note.result
    (λ y. writes_so_far c.args.by_place.now y p) (λ y. uses_so_far c.touch_places.new.by_place y p)
    (λ y. of_earlier _ _ p c.args.note earlier (c.requires.by_place.writers y p))
    (λ y. others_same _ _ _ p c.args.note apart (c.in_ok-touch_places.ensures.users y p)
    ∙ of_earlier _ _ p c.args.note earlier (c.requires.by_place.users y p))
    _ _ _ c.as_slice.ensures c.as_slice-2.ensures
    (c.in_ok-touch_places-2.ensures.met p apart
    ∙ or_with _ _ _ (c.in_ok-touch_places.ensures.met p apart ∙ or_with _ _ _ (c.new-met.ensures p))))

pub returns-clause-by_place : goal.returns-clause-by_place
returns-clause-by_place c =
    let feet = c.args.feet.now in
    let t : ℕ = c.args.note in
    let here : foot feet t ≡ c.index-feet-note.result =
    get_or_default feet t (record { uses = []; writes = [] }) c.index-feet-note.result c.requires.within
    ∙ sym c.index-feet-note.is in
    let uses : (r p : ℕ) → p ≡ t → lists c.as_slice.result.now r ≡ lists (foot feet p).uses r =
    λ r p e. ap (λ l. lists l r) c.as_slice.ensures ∙ ap (λ f. lists f.uses r) (sym here ∙ ap (foot feet) (sym e)) in
    let writes : (r p : ℕ) → p ≡ t → lists c.as_slice-2.result.now r ≡ lists (foot feet p).writes r =
    λ r p e. ap (λ l. lists l r) c.as_slice-2.ensures
    ∙ ap (λ f. lists f.writes r) (sym here ∙ ap (foot feet) (sym e)) in
    let us : ℕ → Bool = lists c.as_slice.result.now in
    let ws : ℕ → Bool = lists c.as_slice-2.result.now in
    record {
      users = λ r p. users_more p t (lists (foot feet p).uses r) (lists (foot feet p).writes r) (us r) (ws r) _ _ _
          (writes r p) (uses r p) (c.requires.by_place.users r p) (c.in_ok-touch_places.ensures.users r p)
          (c.in_ok-touch_places-2.ensures.users r p);
      writers = λ r p. writers_more p t (lists (foot feet p).uses r) (lists (foot feet p).writes r) (us r) (ws r) _ _ _
          (writes r p) (c.requires.by_place.writers r p) (c.in_ok-touch_places.ensures.writers r p)
          (c.in_ok-touch_places-2.ensures.writers r p);
    }
