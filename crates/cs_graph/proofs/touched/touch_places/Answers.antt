use Rattle.std.proofs.Common.{arith, ℕ, get_or}
use Rattle.std.proofs.lemmas.Grind.{common_steps}
use Rattle.cs_graph.proofs.TouchedLemmas.{others_same, others_same_where, meets_same, met_more}
use Rattle.cs_graph.proofs.touched.touch_places.Goals as goal

pub loop-place-preserved : goal.loop-place-preserved
loop-place-preserved c = record {
  users = λ r p. grind (arith, common_steps, c.loop-place.invariant.users r p);
  writers = λ r p. grind (arith, common_steps, c.loop-place.invariant.writers r p);
  met = λ p apart.
      let i : ℕ = c.loop-place.place-index in
      let place : ℕ = get_or c.args.places.now i 0 in
      met_more _ c.args.places.now i _ _ _ _ (omega arith) (c.in_ok-touch_place.ensures.met p)
      (meets_same c.args.writes _ _ _ _ (others_same _ _ _ p c.args.note apart (c.loop-place.invariant.users place p))
      (others_same_where _ c.args.writes _ _ p c.args.note apart (c.loop-place.invariant.writers place p)))
      (c.loop-place.invariant.met p apart);
}
