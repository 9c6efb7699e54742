-- A note that a seat does, and the notes that seats finished.
use Rattle.std.proofs.Common.{◌≡◌, false, ⊎_elim, sym, subst, ap, ◌∙◌, arith}
use Rattle.std.proofs.lemmas.{Bool.both_ways, Bool.cases_Bool, Bool.cases_eq, List.length-map}
use Rattle.atomic_table.specs.Table.{State}
use Rattle.cs_cells.specs.Meaning.{Meaning, Frames}
use Rattle.cs_board.specs.{Counts.same, Laws.DoneOnce, Laws.EarlierDone, Laws.SeenBefore, Rule.Holds, Words.at}
use Rattle.cs_board.specs.{declared.view.Berth.Berth, declared.view.Plan.Plan, declared.view.View.View, Plans.writes_at}
use Rattle.cs_board.proofs.{Allowed.status_is, Does.busy, Does.apart, Stores.used_before}
use Rattle.cs_board.proofs.Conflicts.{alone_at, past, used_within}

module _ {J : Type 0} (M : Meaning J) (k : Plan J) (s : State (Berth J) (View J)) (h : Holds M k s) where
  pub done_once : DoneOnce k s
  done_once = record {
    doing = λ i j v w d e a b p q same_. ⊎_elim (λ y. y)
        (λ n. absurd (apart k h.parts.status s.views h.facts.doers i j v w d e n a b p q same_)) (cases_eq i j);
    mine = λ t low. h.facts.tallied.having t ∙ ap (λ x. same x 3) (sym (status_is M k s h t low));
  }

  pub earlier_done : EarlierDone k s M
  earlier_done id v d p e is c =
      let running : at h.parts.status d.note ≡ 2 = busy k h.parts.status s.views h.facts.doers id v d e is in
      status_is M k s h p (omega (arith, c.earlier, c.within, length-map k.jobs M.foot, h.plan.jobs))
      ∙ past M k h.plan h.parts.status h.parts.watch h.facts.gates p d.note c (λ z. omega arith)

  pub seen_before : Frames M → SeenBefore k s M
  seen_before F id v d a is doing used other =
      let running : at h.parts.status d.note ≡ 2 = busy k h.parts.status s.views h.facts.doers id v d is doing in
      let within = used_within M k h.plan d.note a used in
      sym ((h.facts.stored.images id v d is doing).seen a within.0 used)
      ∙ used_before M F k h.plan h.parts.status h.parts.watch h.parts.cells h.facts.gates d.note a within.1
      (λ z. omega (arith, running)) (λ z. omega (arith, running)) used
      (λ u l e. ⊎_elim
      (λ w. absurd (both_ways _ (subst (λ n. writes_at M k n a ≡ false)
      (sym (alone_at M k h.plan h.parts.status h.parts.watch h.facts.gates u d.note a w used e running)) other) w))
      (λ w. w) (cases_Bool (writes_at M k u a))) (h.facts.stored.values a within.0)
