-- The frame law of jobs that add to the first cell.
use Rattle.std.proofs.Common.{◌≡◌, ◌<◌, ◌≤◌, ◌∙◌, ℕ, ℤ, pos, ap, arith, length, refl, slice_set, subst, sym, ⊎_elim}
use Rattle.std.proofs.lemmas.List.{get_or-set_other, get_or-set_same, length-set, set_past}
use Rattle.std.proofs.lemmas.Bool.{cases_eq, cases_lt, or_left}
use Rattle.cs_base.specs.Numbers.{sum_of}
use Rattle.cs_cells.specs.{Cells.Agree, Cells.Cells, Cells.cell, Cells.covers}
use Rattle.cs_cells.specs.Meaning.{Frames, Uses, Writes}
use Rattle.cs_crew_trial.specs.Addings.{added, adding}
use Rattle.cs_crew_trial.specs.declared.adding.Adding.{Adding}

-- the same value is stored at one address of two rows that agree
set_agrees : (P : ℕ → Type 0) (c d : Cells) (a : ℕ) (z : ℤ) → Agree P c d → Agree P (slice_set c a z) (slice_set d a z)
set_agrees P c d a z same = record {
  long = length-set c a z ∙ same.long ∙ sym (length-set d a z);
  same = λ b p. ⊎_elim
      (λ equal. ⊎_elim
      (λ near. let far : a < length d = omega (arith, same.long) in
      ap (λ x. cell (slice_set c a z) x) equal ∙ get_or-set_same c a z (pos 0) near
      ∙ sym (get_or-set_same d a z (pos 0) far) ∙ ap (λ x. cell (slice_set d a z) x) (sym equal))
      (λ past. let gone : length d ≤ a = omega (arith, same.long) in
      ap (λ x. cell x b) (set_past c a z past) ∙ same.same b p ∙ sym (ap (λ x. cell x b) (set_past d a z gone)))
      (cases_lt a (length c)))
      (λ other. get_or-set_other c a b z (pos 0) other ∙ same.same b p ∙ sym (get_or-set_other d a b z (pos 0) other))
      (cases_eq b a);
}

added_agrees : (j : Adding) (c d : Cells) → adding.valid j → Agree (Uses adding j) c d
    → Agree (Uses adding j) (added c) (added d)
added_agrees j c d valid same =
    let used : Uses adding j 0 = or_left (covers j.layout.now j.foot.uses 0) (covers j.layout.now j.foot.writes 0) valid.0 in
    subst (λ z. Agree (Uses adding j) (added c) (slice_set d 0 (sum_of z (pos 1)))) (same.same 0 used)
    (set_agrees (Uses adding j) c d 0 (sum_of (cell c 0) (pos 1)) same)

pub adding_frames : Frames adding
adding_frames = record {
  job = λ j c d s same. refl;
  cells = added_agrees;
  others = λ j c a s out. get_or-set_other c 0 a (sum_of (cell c 0) (pos 1)) (pos 0)
      (λ e. out (subst (λ x. Writes adding j x) (sym e) s.1));
  long = λ j c. length-set c 0 (sum_of (cell c 0) (pos 1));
  valid_after = λ j c s. s;
  foot_after = λ j c. refl;
  areas_after = λ j c. refl;
}
