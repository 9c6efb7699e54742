-- The table of the quarter wave: its bound, proved by testing each entry.
use Rattle.std.proofs.Common.{◌≡◌, ℕ, zero, suc, ◌≤◌, Bool, true, List, [], ◌∷◌, get_or, slice_index, nat_le, refl}
use Rattle.std.proofs.Common.{arith}
use Rattle.std.specs.List.{list_all}
use Rattle.std.proofs.lemmas.Bool.Decides.{nat_tests}
use Rattle.cs_gen.specs.Points.{quarter}

-- if all entries and 0 pass a test, the entry at any place passes it
all_pass_at : (p : ℕ → Bool) (xs : List ℕ) (k : ℕ) → list_all p xs ≡ true → p 0 ≡ true → p (get_or xs k 0) ≡ true
all_pass_at p [] k h z = z
all_pass_at p (x ∷ xs) zero h z = grind arith
all_pass_at p (x ∷ xs) (suc k) h z = all_pass_at p xs k (grind arith) z

is_low : (n : ℕ) → nat_le n 32767 ≡ true → n ≤ 32767
is_low n h = grind (arith, nat_tests)

pub quarter_low : (k : ℕ) → slice_index quarter k ≤ 32767
unfolding quarter
quarter_low k = is_low (slice_index quarter k) (all_pass_at (λ n. nat_le n 32767) quarter k refl refl)
