-- Consequences of the frame law for any kind of job.
use Rattle.std.proofs.lemmas.Grind.{common_steps}
use Rattle.std.proofs.Common.{◌≡◌, ℕ, zero, suc, ◌+◌, ◌-◌, ◌<◌, ◌≤◌, List, [], ◌∷◌, map, length, slice_get, Some, refl}
use Rattle.std.proofs.Common.{sym, ◌∙◌, ap, subst, arith}
use Rattle.cs_cells.specs.Cells.{Cells, cell, Agree}
use Rattle.cs_cells.specs.Meaning.{Meaning, Frames, Uses, Writes}
use Rattle.cs_cells.specs.Serial.{serial_cells, serial_jobs, before, AllValid, IsQuiet, LastWriter, AsSerial}

module _ {J : Type 0} (M : Meaning J) where
  pub before-suc : (js : List J) (c : Cells) (t : ℕ) (j : J) → slice_get js t ≡ Some j
      → before M js c (suc t) ≡ M.leaves j (before M js c t)
  before-suc [] c t j at = cc
  before-suc (x ∷ js) c zero j at = cc
  before-suc (x ∷ js) c (suc t) j at = before-suc js (M.leaves x c) t j at

  pub job_at : (js : List J) (c : Cells) (t : ℕ) (j : J) → slice_get js t ≡ Some j
      → slice_get (serial_jobs M js c) t ≡ Some (M.after j (before M js c t))
  job_at [] c t j at = cc
  job_at (x ∷ js) c zero j at = cc
  job_at (x ∷ js) c (suc t) j at = job_at js (M.leaves x c) t j at

  pub before-all : (js : List J) (c : Cells) → before M js c (length js) ≡ serial_cells M js c
  before-all [] c = refl
  before-all (x ∷ js) c = before-all js (M.leaves x c)

  pub length-serial_jobs : (js : List J) (c : Cells) → length (serial_jobs M js c) ≡ length js
  length-serial_jobs [] c = refl
  length-serial_jobs (x ∷ js) c = ap suc (length-serial_jobs js (M.leaves x c))

module _ {J : Type 0} (M : Meaning J) (F : Frames M) where
  pub length-before : (js : List J) (c : Cells) (t : ℕ) → length (before M js c t) ≡ length c
  length-before js c zero = refl
  length-before [] c (suc t) = refl
  length-before (x ∷ js) c (suc t) = length-before js (M.leaves x c) t ∙ F.long x c

  -- a serial run changes neither the footprints and areas of its jobs nor the number of cells
  pub foot-serial_jobs : (js : List J) (c : Cells) → map M.foot (serial_jobs M js c) ≡ map M.foot js
  foot-serial_jobs [] c = refl
  foot-serial_jobs (x ∷ js) c = grind (arith, common_steps, foot-serial_jobs js (M.leaves x c))

  pub areas-serial_jobs : (js : List J) (c : Cells) → map M.areas (serial_jobs M js c) ≡ map M.areas js
  areas-serial_jobs [] c = refl
  areas-serial_jobs (x ∷ js) c = grind (arith, common_steps, areas-serial_jobs js (M.leaves x c))

  pub length-serial_cells : (js : List J) (c : Cells) → length (serial_cells M js c) ≡ length c
  length-serial_cells [] c = refl
  length-serial_cells (x ∷ js) c = length-serial_cells js (M.leaves x c) ∙ F.long x c

  -- a job that doesn't write a cell leaves it unchanged
  pub passed_by : (js : List J) (c : Cells) → AllValid M js → (t a : ℕ)
      → ((j : J) → slice_get js t ≡ Some j → ¬ (Writes M j a))
      → cell (before M js c (suc t)) a ≡ cell (before M js c t) a
  passed_by [] c s zero a q = refl
  passed_by [] c s (suc t) a q = refl
  passed_by (x ∷ js) c s zero a q = F.others x c a (s 0 x refl) (q x refl)
  passed_by (x ∷ js) c s (suc t) a q = passed_by js (M.leaves x c) (λ u. s (suc u)) t a q

  -- k jobs from index p on, none of which writes the cell, leave it unchanged
  pub passed_by_all : (js : List J) (c : Cells) → AllValid M js → (p a k t : ℕ) → t ≡ p + k → IsQuiet M js p t a
      → cell (before M js c t) a ≡ cell (before M js c p) a
  passed_by_all js c s p a zero t e q = let same : t ≡ p = omega arith in ap (λ u. cell (before M js c u) a) same
  passed_by_all js c s p a (suc k) t e q =
      let last : t ≡ suc (p + k) = omega arith in
      let low : p ≤ p + k = omega arith in
      let high : p + k < t = omega arith in
      ap (λ u. cell (before M js c u) a) last
      ∙ passed_by js c s (p + k) a (λ j at. q (p + k) j low high at)
      ∙ passed_by_all js c s p a k (p + k) refl (λ u x i l. q u x i (omega arith))

  pub last_writer : (js : List J) (c : Cells) → AllValid M js → LastWriter M js c
  last_writer js c s = record {
    written = λ p t a l q. passed_by_all js c s (suc p) a (t - suc p) t (omega arith) q;
    opening = λ t a q. passed_by_all js c s 0 a t t (omega arith) q;
  }

  pub as_serial : (js : List J) (c : Cells) (t : ℕ) (j : J) (d : Cells) → AllValid M js → slice_get js t ≡ Some j
      → Agree (Uses M j) d (before M js c t)
      → AsSerial M js c t j d
  as_serial js c t j d s at same = record {
    job = job_at M js c t j at ∙ ap Some (sym (F.job j d (before M js c t) (s t j at) same));
    cells = subst (λ e. Agree (Uses M j) (M.leaves j d) e) (sym (before-suc M js c t j at))
        (F.cells j d (before M js c t) (s t j at) same);
  }
