use Rattle.std.proofs.Common.{◌≡◌, ◌≤ℤ◌, of_z, to_z, w64, ap, refl, subst, sym, ◌∙◌}
use Rattle.std.proofs.lemmas.Int.{to_z-of_z}
use Rattle.cs_base.specs.Widths.{greatest_of, least_of}
use Rattle.cs_wav.specs.Wav.{level}
use Rattle.cs_wav.proofs.Scales.{end_in_range, level_in_range}
use Rattle.cs_wav.proofs.sample.Scale.put_value.Goals as goal

pub level-requires : goal.level-requires
level-requires c =
    let within = c.if-holds.ensures.within refl in record { low = within.0; high = within.1 }

pub put_sample-requires : goal.put_sample-requires
put_sample-requires c =
    let s = c.args.self.now in
    let value = to_z-of_z w64 c.args.value c.ranges.value in
    let within = rw value at c.if-holds.ensures.within refl in
    let range = level_in_range s.width s.dbfs c.args.value s.low within.0 within.1 in
    let is : to_z w64 (of_z w64 c.level.result) ≡ level s.width s.dbfs c.args.value =
    to_z-of_z w64 c.level.result (record { sfits = c.level.type_inv }) ∙ c.level.ensures
    ∙ ap (level s.width s.dbfs) value in
    record {
      least = subst (λ z. least_of s.width ≤ℤ z) (sym is) range.0;
      greatest = subst (λ z. z ≤ℤ greatest_of s.width) (sym is) range.1;
      room = c.requires;
    }

pub put_sample-requires-else-holds : goal.put_sample-requires-else-holds
put_sample-requires-else-holds c =
    let range = end_in_range c.args.self.now.width _ _
    (to_z-of_z w64 c.end_of_range.result (record { sfits = c.end_of_range.type_inv }) ∙ c.end_of_range.ensures) in
    record { least = range.0; greatest = range.1; room = c.requires }
