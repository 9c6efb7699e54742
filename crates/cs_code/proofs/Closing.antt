-- Setting the targets of a draft's jumps one after another, by their marks.
use Rattle.std.proofs.Common.{◌≡◌, ◌∙◌, ℕ, zero, suc, List, [], ◌∷◌, length, refl, ap}
use Rattle.std.specs.List.{AllZip}
use Rattle.cs_ir.specs.{Codes.aim, declared.op.Op.Op}
use Rattle.cs_ir.specs.Drafts.{Aimed, Draft, IsAt, drafted, library_of}
use Rattle.cs_code.specs.inner.Branches.{AllAimed, aim_all}
use Rattle.cs_code.proofs.Lists.{zip_still}

aim_long : (n to : ℕ) (ops : List Op) → length (aim n to ops) ≡ length ops
aim_long n to [] = refl
aim_long zero to (op ∷ ops) = refl
aim_long (suc n) to (op ∷ ops) = ap suc (aim_long n to ops)

-- The jumps with these marks remain; the targets of all others are set.
pub record Closing (start here : Draft) (marks places : List ℕ) : Type 0 where
  pub left : List ℕ
  pub marked : AllZip (IsAt here) marks left
  pub ops : aim_all left (length (drafted start)) (drafted here)
      ≡ aim_all places (length (drafted start)) (drafted start)
  pub long : length (drafted here) ≡ length (drafted start)
  pub routines : library_of here ≡ library_of start
  pub still : (mark place : ℕ) → IsAt start mark place → IsAt here mark place

pub closing_begins : (start : Draft) (marks places : List ℕ) → AllZip (IsAt start) marks places
    → Closing start start marks places
closing_begins start marks places marked = record {
  left = places;
  marked = marked;
  ops = refl;
  long = refl;
  routines = refl;
  still = λ mark place h. h;
}

pub closing_on : (start here next : Draft) (m : ℕ) (marks places : List ℕ) → Closing start here (m ∷ marks) places
    → ((place : ℕ) → IsAt here m place → Aimed here next place) → Closing start next marks places
closing_on start here next m marks places was aims = of was.left was.marked was.ops
  where
    of : (left : List ℕ) → AllZip (IsAt here) (m ∷ marks) left → aim_all left (length (drafted start)) (drafted here)
        ≡ aim_all places (length (drafted start)) (drafted start) → Closing start next marks places
    of [] marked ops = absurd marked
    of (n ∷ left) marked ops =
        let a : Aimed here next n = aims n marked.0 in record {
          left = left;
          marked = zip_still (IsAt here) (IsAt next) a.marks marks left marked.1;
          ops = ap (aim_all left (length (drafted start))) (a.ops ∙ ap (λ k. aim n k (drafted here)) was.long) ∙ ops;
          long = ap length a.ops ∙ aim_long n (length (drafted here)) (drafted here) ∙ was.long;
          routines = a.routines ∙ was.routines;
          still = λ mark place h. a.marks mark place (was.still mark place h);
        }

pub closing_ends : (start here : Draft) (places : List ℕ) → Closing start here [] places → AllAimed start here places
closing_ends start here places was = of was.left was.marked was.ops
  where
    of : (left : List ℕ) → AllZip (IsAt here) [] left → aim_all left (length (drafted start)) (drafted here)
        ≡ aim_all places (length (drafted start)) (drafted start) → AllAimed start here places
    of [] marked ops = record { ops = ops; routines = was.routines; marks = was.still }
    of (n ∷ left) marked ops = absurd marked
