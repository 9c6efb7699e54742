-- The moves of a shelf on which a source was read.
use Rattle.std.proofs.Common.{◌≡◌, ◌≤◌, ℕ, Bool, true, false, List, [], ◌∷◌, ◌++◌, Option, None, Some, refl, sym, subst}
use Rattle.std.proofs.Common.{append-nil, arith}
use Rattle.cs_edge.proofs.Chains.{follows_as, follows_on, follows_same, front_all, grown_on}
use Rattle.cs_edge.specs.{Files.ShelfTold, Told.Follows, declared.files.NamedBytes.NamedBytes, declared.moves.Move.Move}
use Rattle.cs_edge.specs.Moves.{Grown, IsFrontOf, IsRun}
use Rattle.cs_edge.specs.declared.moves.Move.TheVariants.{Begin, Read}
use Rattle.cs_arguments.specs.Reading.{one_file, two_files, demo}
use Rattle.cs_source.specs.Loaded.{AreReadings, IsLastBegun, IsScoreRun, WasRead, is_told_too_long}

abbrev AreBoth : Bool → List ℕ → List ℕ → List Move → Type 0
AreBoth long orc sco moves =
    (first second : List Move) × IsRun orc Read first × IsScoreRun long sco second × (moves ≡ first ++ second)

first_whole : (long : Bool) (orc sco : List ℕ) (x : List Move) → IsRun orc Read x → IsFrontOf (AreBoth long orc sco) x
first_whole true orc sco x p = (x ++ [], (x, [], p, refl, refl), ([], refl))
first_whole false orc sco x p = (x ++ Begin sco ∷ [], (x, Begin sco ∷ [], p, (0, refl), refl), (Begin sco ∷ [], refl))

-- only the orchestra
first_run : (files : Option (List NamedBytes)) (orc sco : List ℕ) (a b : Option (List Move))
    → Follows a b (Grown (IsRun orc Read))
    → Follows a b (Grown (IsFrontOf (AreReadings files (two_files orc sco))))
first_run files orc sco a b p =
    follows_as (Grown (IsRun orc Read)) (Grown (IsFrontOf (AreReadings files (two_files orc sco))))
    (λ x y g. (g.0, first_whole (is_told_too_long files orc) orc sco g.0 g.1, g.2)) a b p

both_whole : (long : Bool) (orc sco : List ℕ) → long ≡ false → (x y : List Move) → IsRun orc Read x → IsRun sco Read y
    → IsFrontOf (AreBoth long orc sco) (x ++ y)
both_whole long orc sco e x y p q =
    let P : Bool → Type 0 = λ b. IsFrontOf (AreBoth b orc sco) (x ++ y) in
    subst P (sym e) (x ++ y, (x, y, p, q, refl), front_all (x ++ y))

-- the orchestra and the score
both_runs : (files : Option (List NamedBytes)) (orc sco : List ℕ) (a b c : Option (List Move))
    → is_told_too_long files orc ≡ false
    → Follows a b (Grown (IsRun orc Read)) → Follows b c (Grown (IsRun sco Read))
    → Follows a c (Grown (IsFrontOf (AreReadings files (two_files orc sco))))
both_runs files orc sco a b c e p q =
    follows_on (Grown (IsRun orc Read)) (Grown (IsRun sco Read))
    (Grown (IsFrontOf (AreReadings files (two_files orc sco))))
    (grown_on (IsRun orc Read) (IsRun sco Read) (IsFrontOf (AreReadings files (two_files orc sco)))
    (both_whole (is_told_too_long files orc) orc sco e))
    a b c p q

pub first_read : (a b : ShelfTold) (orc sco : List ℕ) → a.faults ≤ b.faults
    → Follows a.moves b.moves (Grown (IsRun orc Read)) → WasRead a b (two_files orc sco)
first_read a b orc sco later moves =
    record { later = later; moves = first_run a.files orc sco a.moves b.moves moves; untouched = tt }

pub both_read : (a b c : ShelfTold) (orc sco : List ℕ) → is_told_too_long a.files orc ≡ false → a.faults ≤ b.faults
    → b.faults ≤ c.faults
    → Follows a.moves b.moves (Grown (IsRun orc Read)) → Follows b.moves c.moves (Grown (IsRun sco Read))
    → WasRead a c (two_files orc sco)
both_read a b c orc sco e p q first second = record {
  later = omega arith;
  moves = both_runs a.files orc sco a.moves b.moves c.moves e first second;
  untouched = tt;
}

-- one file
pub file_read : (a b : ShelfTold) (name : List ℕ) → a.faults ≤ b.faults
    → Follows a.moves b.moves (Grown (IsRun name Read)) → WasRead a b (one_file name)
file_read a b name later moves = record {
  later = later;
  moves = follows_as (Grown (IsRun name Read)) (Grown (IsFrontOf (AreReadings a.files (one_file name))))
      (λ x y g. (g.0, (g.0, g.1, front_all g.0), g.2))
      a.moves b.moves moves;
  untouched = tt;
}

-- the demo
pub none_read : (a : ShelfTold) (n : ℕ) → WasRead a a (demo n)
none_read a n = record {
  later = omega arith;
  moves = follows_same (Grown (IsFrontOf (AreReadings a.files (demo n))))
      (λ x. ([], ([], refl, ([], refl)), sym (append-nil x))) a.moves a.moves refl;
  untouched = refl;
}

-- the name of the last run is the one opened last
pub last_begun : (name : List ℕ) (a b : Option (List Move)) → Follows a b (Grown (IsRun name Read)) → IsLastBegun b name
last_begun name a None p = tt
last_begun name None (Some y) p = absurd p
last_begun name (Some x) (Some y) p = (x, p.0, p.1, p.2)
