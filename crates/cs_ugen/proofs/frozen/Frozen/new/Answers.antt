use Rattle.std.proofs.Common.{◌≡◌, true, take, ap, sym, ◌∙◌, subst}
use Rattle.cs_gen.specs.Tables.{curve_of}
use Rattle.cs_ugen.specs.Points.{AreShort, curve_len, is_len}
use Rattle.cs_ugen.proofs.Shorts.{curve_long}
use Rattle.cs_ugen.proofs.frozen.Frozen.new.Goals as goal

pub invariant_of-result : goal.invariant_of-result
invariant_of-result c =
    let points = c.args.table.now in
    let here = c.deref.ensures.value in
    let whole = c.deref-2.ensures.value in
    let known = c.table.invariant in
    let curve : c.deref-2.result.now ≡ curve_of points = whole ∙ known.1 ∙ ap curve_of c.table.view_is in
    record {
      power = subst (λ l. is_len (curve_len l) ≡ true) (sym curve)
          (ap is_len (curve_long points c.requires) ∙ c.requires);
      curve_is = whole ∙ known.1 ∙ ap (λ l. curve_of (take c.table.inside.size l)) (sym here);
      short_is = λ all. subst AreShort (sym whole) (known.2 all);
    }
