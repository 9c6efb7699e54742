-- Areas one after the other.
use Rattle.std.proofs.Common.{◌≡◌, ℕ, zero, suc, ◌+◌, List, [], ◌∷◌, length, take, sum_by, arith, ap, sym, ◌∙◌, refl}
use Rattle.std.proofs.Common.{slice_get, Some}
use Rattle.std.specs.{List.list_any, Option.is_some}
use Rattle.std.proofs.lemmas.List.Sums.{sum_by-cons}
use Rattle.cs_base.specs.{Rates.same_res, declared.resource.Res.Res}
use Rattle.cs_base.proofs.{Rates.same_res_is, Tests.by_test, Tests.some_is}
use Rattle.cs_cells.specs.{Areas.word_count, declared.footprint.Area.Area}
use Rattle.cs_layout.specs.Layouts.{SharedCells, laid_from}
use Rattle.cs_voice_meaning.specs.Placing.{area_of}

abbrev pub laid : ℕ → SharedCells → Area
laid first s = record { res = s.res; first = first; length = s.cells }

-- an area belongs to the shared resource with its index
pub record IsLaidAt (first : ℕ) (ss : List SharedCells) (p : ℕ) (area : Area) : Type 0 where
  pub what : SharedCells
  pub there : slice_get ss p ≡ Some what
  pub res : area.res ≡ what.res
  pub long : area.length ≡ what.cells
  pub begins : area.first ≡ first + word_count (take p (laid_from first ss))

pub laid_at : (first : ℕ) (ss : List SharedCells) (p : ℕ) (area : Area) → slice_get (laid_from first ss) p ≡ Some area
    → IsLaidAt first ss p area
laid_at first [] p area e = absurd (cc (e))
laid_at first (s ∷ ss) zero area e =
    let is : area ≡ laid first s = some_is area (laid first s) (sym e) in
    record {
      what = s;
      there = refl;
      res = ap (λ a. a.res) is;
      long = ap (λ a. a.length) is;
      begins =
          omega (arith, ap (λ a. a.first) is);
    }
laid_at first (s ∷ ss) (suc p) area e =
    let more = laid_at (first + s.cells) ss p area e in
    record {
      what = more.what;
      there = more.there;
      res = more.res;
      long = more.long;
      begins =
          omega (
            arith,
            more.begins,
            sum_by-cons (λ a. a.length) (laid first s) (take p (laid_from (first + s.cells) ss)),
          );
    }

pub length-laid : (first : ℕ) (ss : List SharedCells) → length (laid_from first ss) ≡ length ss
length-laid first [] = refl
length-laid first (s ∷ ss) = ap suc (length-laid (first + s.cells) ss)

pub words-laid : (first : ℕ) (ss : List SharedCells) → word_count (laid_from first ss) ≡ sum_by (λ s. s.cells) ss
words-laid first [] = refl
words-laid first (s ∷ ss) =
    sum_by-cons (λ a. a.length) (laid first s) (laid_from (first + s.cells) ss)
    ∙ ap (λ n. s.cells + n) (words-laid (first + s.cells) ss)
    ∙ sym (sum_by-cons (λ x. x.cells) s ss)

-- a resource has an area if and only if it is shared
pub is_there : (first : ℕ) (ss : List SharedCells) (g : Res)
    → is_some (area_of (laid_from first ss) g) ≡ list_any (λ s. same_res s.res g) ss
is_there first [] g = refl
is_there first (s ∷ ss) g = by_test (same_res s.res g) (λ h. rw h refl) (λ h. rw h (is_there (first + s.cells) ss g))

-- the area that is found is at some index
pub record IsFoundAt (areas : List Area) (g : Res) (area : Area) : Type 0 where
  pub place : ℕ
  pub there : slice_get areas place ≡ Some area
  pub res : area.res ≡ g

pub found_at : (areas : List Area) (g : Res) (area : Area) → area_of areas g ≡ Some area → IsFoundAt areas g area
found_at [] g area e = absurd (cc (e))
found_at (a ∷ areas) g area e = by_test (same_res a.res g)
    (λ h. let is : a ≡ area =
    some_is a area (rw h at e) in record
    { place = 0; there = ap Some is; res = sym (ap (λ x. x.res) is) ∙ same_res_is a.res g h })
    (λ h. let more = found_at areas g area (rw h at e) in record
    { place = suc more.place; there = more.there; res = more.res })
