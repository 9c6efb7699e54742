-- The frame law of rows: consecutive jobs that touch the same resources are a function of what they use.
use Rattle.std.proofs.Common.{◌≡◌, ◌<◌, ℕ, List, [], ◌∷◌, ◌||◌, true, refl, sym, ap, ◌∙◌, subst}
use Rattle.std.specs.List.{All}
use Rattle.std.proofs.lemmas.List.Elements.{All-cons, All-head, All-tail}
use Rattle.cs_cells.specs.Cells.{Cells, cell, covers, Agree}
use Rattle.cs_cells.specs.{Meaning.Meaning, Meaning.Frames, Serial.serial_cells, Serial.serial_jobs}
use Rattle.cs_cells.specs.{declared.footprint.Area.Area, declared.footprint.Footprint.Footprint}
use Rattle.cs_cells.proofs.SerialRun.{length-serial_jobs, length-serial_cells}
use Rattle.cs_row.specs.Rows.{IsRow, Touches, row_areas, row_foot, row_job}

-- address a is one that a job with this footprint uses or writes
abbrev UsesHere : List Area → Footprint → ℕ → Type 0
UsesHere areas foot a = (covers areas foot.uses a || covers areas foot.writes a) ≡ true

abbrev WritesHere : List Area → Footprint → ℕ → Type 0
WritesHere areas foot a = covers areas foot.writes a ≡ true

module _ {J : Type 0} (M : Meaning J) (F : Frames M) where
  module _ (areas : List Area) (foot : Footprint) where
    -- one job, on cells that agree there
    one_job : (j : J) (c d : Cells) → Touches M areas foot j → Agree (UsesHere areas foot) c d
        → M.after j c ≡ M.after j d
    one_job j c d t same = F.job j c d t.valid
        (subst (λ f. Agree (UsesHere (M.areas j) f) c d) (sym t.foot_is)
        (subst (λ l. Agree (UsesHere l foot) c d) (sym t.areas_are) same))

    one_left : (j : J) (c d : Cells) → Touches M areas foot j → Agree (UsesHere areas foot) c d
        → Agree (UsesHere areas foot) (M.leaves j c) (M.leaves j d)
    one_left j c d t same =
        subst (λ l. Agree (UsesHere l foot) (M.leaves j c) (M.leaves j d)) t.areas_are
        (subst (λ f. Agree (UsesHere (M.areas j) f) (M.leaves j c) (M.leaves j d)) t.foot_is
        (F.cells j c d t.valid
        (subst (λ f. Agree (UsesHere (M.areas j) f) c d) (sym t.foot_is)
        (subst (λ l. Agree (UsesHere l foot) c d) (sym t.areas_are) same))))

    one_other : (j : J) (c : Cells) (a : ℕ) → Touches M areas foot j → ¬ (WritesHere areas foot a)
        → cell (M.leaves j c) a ≡ cell c a
    one_other j c a t outside = F.others j c a t.valid
        (λ w. outside (subst (λ l. WritesHere l foot a) t.areas_are
        (subst (λ f. WritesHere (M.areas j) f a) t.foot_is w)))

    one_after : (j : J) (c : Cells) → Touches M areas foot j → Touches M areas foot (M.after j c)
    one_after j c t = record {
      areas_are = F.areas_after j c ∙ t.areas_are;
      foot_is = F.foot_after j c ∙ t.foot_is;
      valid = F.valid_after j c t.valid;
    }

    -- all jobs, on cells that agree there
    all_jobs : (js : List J) (c d : Cells) → All (Touches M areas foot) js → Agree (UsesHere areas foot) c d
        → serial_jobs M js c ≡ serial_jobs M js d
    all_jobs [] c d all same = refl
    all_jobs (j ∷ js) c d all same =
        let here : Touches M areas foot j = All-head (Touches M areas foot) j js all in
        let rest : All (Touches M areas foot) js = All-tail (Touches M areas foot) j js all in
        ap (λ (x : J). x ∷ serial_jobs M js (M.leaves j c)) (one_job j c d here same)
        ∙ ap (λ (xs : List J). M.after j d ∷ xs)
        (all_jobs js (M.leaves j c) (M.leaves j d) rest (one_left j c d here same))

    all_left : (js : List J) (c d : Cells) → All (Touches M areas foot) js → Agree (UsesHere areas foot) c d
        → Agree (UsesHere areas foot) (serial_cells M js c) (serial_cells M js d)
    all_left [] c d all same = same
    all_left (j ∷ js) c d all same =
        all_left js (M.leaves j c) (M.leaves j d) (All-tail (Touches M areas foot) j js all)
        (one_left j c d (All-head (Touches M areas foot) j js all) same)

    all_others : (js : List J) (c : Cells) (a : ℕ) → All (Touches M areas foot) js → ¬ (WritesHere areas foot a)
        → cell (serial_cells M js c) a ≡ cell c a
    all_others [] c a all outside = refl
    all_others (j ∷ js) c a all outside =
        all_others js (M.leaves j c) a (All-tail (Touches M areas foot) j js all) outside
        ∙ one_other j c a (All-head (Touches M areas foot) j js all) outside

    all_after : (js : List J) (c : Cells) → All (Touches M areas foot) js
        → All (Touches M areas foot) (serial_jobs M js c)
    all_after [] c all = all
    all_after (j ∷ js) c all =
        All-cons (Touches M areas foot) (M.after j c) (serial_jobs M js (M.leaves j c))
        (one_after j c (All-head (Touches M areas foot) j js all))
        (all_after js (M.leaves j c) (All-tail (Touches M areas foot) j js all))

  row_foot_after : (js : List J) (c : Cells) → row_foot M (serial_jobs M js c) ≡ row_foot M js
  row_foot_after [] c = refl
  row_foot_after (j ∷ js) c = F.foot_after j c

  row_areas_after : (js : List J) (c : Cells) → row_areas M (serial_jobs M js c) ≡ row_areas M js
  row_areas_after [] c = refl
  row_areas_after (j ∷ js) c = F.areas_after j c

  row_after : (js : List J) (c : Cells) → IsRow M js → IsRow M (serial_jobs M js c)
  row_after js c row = record {
    some = subst (λ n. 0 < n) (sym (length-serial_jobs M js c)) row.some;
    alike = subst (λ f. All (Touches M (row_areas M (serial_jobs M js c)) f) (serial_jobs M js c))
        (sym (row_foot_after js c))
        (subst (λ l. All (Touches M l (row_foot M js)) (serial_jobs M js c)) (sym (row_areas_after js c))
        (all_after (row_areas M js) (row_foot M js) js c row.alike));
  }

  pub row_frames : Frames (row_job M)
  row_frames = record {
    job = λ js c d row same. all_jobs (row_areas M js) (row_foot M js) js c d row.alike same;
    cells = λ js c d row same. all_left (row_areas M js) (row_foot M js) js c d row.alike same;
    others = λ js c a row outside. all_others (row_areas M js) (row_foot M js) js c a row.alike outside;
    long = λ js c. length-serial_cells M F js c;
    valid_after = row_after;
    foot_after = row_foot_after;
    areas_after = row_areas_after;
  }
