use Rattle.std.proofs.lemmas.{Grind.common_steps, List.with_items_is}
use Rattle.std.proofs.Common.{◌≡◌, ◌∙◌, ℕ, ℤ, List, ap, arith, length, subst, sym}
use Rattle.cs_cells.specs.Serial.{serial_jobs}
use Rattle.cs_row.specs.Heard.{AreSumsOf, HeardRow, IsHeardRow, sums, with_sums}
use Rattle.cs_row.specs.HeardFrames.{heard_frames}
use Rattle.cs_row.proofs.row.RowJob.run.Goals as goal

pub invariant_of-self : goal.invariant_of-self
invariant_of-self g c =
    let M = g.J.Job.means in
    let start = g.B.Bank.cells c.args.bank.now in
    let notes : List g.row.J.Denot = c.self.inside.room.notes.items in
    let block : List ℤ = c.self.inside.room.sum.items in
    let told = c.run_and_sum.ensures in
    let jobs_are : c.run_and_sum.new.notes ≡ serial_jobs M notes start =
    told.notes ∙ ap (λ (js : List g.row.J.Denot). serial_jobs M js start) c.deref_mut.ensures.value in
    let sum_is : c.run_and_sum.new.sum ≡ sums g.J.Heard.gives (length block) (serial_jobs M notes start) =
    told.sum ∙ ap (λ (l : List ℤ). sums g.J.Heard.gives (length l) c.run_and_sum.new.notes) c.deref_mut-2.ensures.value
    ∙ ap (sums g.J.Heard.gives (length block)) jobs_are in
    let here = with_items_is c.self.inside.room.notes c.run_and_sum.new.notes (told.long.0 ∙ c.deref_mut.ensures.len) in
    let summed = with_items_is c.self.inside.room.sum c.run_and_sum.new.sum (told.long.1 ∙ c.deref_mut-2.ensures.len) in
    let old : HeardRow g.row.J.Denot = record { jobs = notes; sum = block } in
    let new : HeardRow g.row.J.Denot = record { jobs = c.run_and_sum.new.notes; sum = c.run_and_sum.new.sum } in
    let ran : HeardRow g.row.J.Denot = with_sums g.J.Heard.gives (length block) (serial_jobs M notes start) in
    let is : new ≡ ran = λ i. record { jobs = jobs_are i; sum = sum_is i } in
    let valid : IsHeardRow M g.J.Heard.shape new =
    subst (IsHeardRow M g.J.Heard.shape) (sym is)
    ((heard_frames M g.J.Heard.shape g.J.Heard.gives g.met.J.Job.frames g.met.J.Heard.keeps).valid_after old start
    c.self.invariant.0) in
    let small : AreSumsOf (length new.jobs) new.sum =
    subst (λ (n : ℕ). AreSumsOf n c.run_and_sum.new.sum) (sym told.long.0) told.small in
    let places = c.self.invariant.2 in
    let long = told.long.0 in
    let many = ap length c.deref_mut.ensures.value in
    let same = ap length here in (
      subst (IsHeardRow M g.J.Heard.shape) (λ i. record { jobs = sym here i; sum = sym summed i }) valid,
      subst (λ (r : HeardRow g.row.J.Denot). AreSumsOf (length r.jobs) r.sum)
          (λ i. record { jobs = sym here i; sum = sym summed i }) small,
      omega (arith, places, long, many, same),
    )

pub returns-clause-job : goal.returns-clause-job
returns-clause-job g c = grind (arith, common_steps, with_items_is)
