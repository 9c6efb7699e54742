-- The notes of rows are appended one row after another.
use Rattle.std.proofs.lemmas.{Grind.common_steps, List.Elements.All-push, List.length-append, List.reverse-append}
use Rattle.std.proofs.Common.{◌≡◌, ◌≤◌, ◌+◌, List, [], ◌∷◌, ◌++◌, length, reverse, sym, ap, ◌∙◌, arith, append_assoc}
use Rattle.std.proofs.Common.{Bool, true, false, if◌then◌else◌}
use Rattle.std.specs.List.{All}
use Rattle.cs_row.specs.{Heard.HeardRow, Laws.all_notes}

module _ {J : Type 0} (rows left : List (HeardRow J)) (row : HeardRow J) (notes whole : List J)
    (last : rows ≡ left ++ row ∷ [])
    (so_far : notes ++ all_notes (reverse rows) ≡ whole) where
  parted : notes ++ (row.jobs ++ all_notes (reverse left)) ≡ whole
  parted = ap (λ (rs : List (HeardRow J)). notes ++ all_notes rs)
      (sym (reverse-append left (row ∷ [])) ∙ ap reverse (sym last)) ∙ so_far

  -- there is room for the notes of the next row
  pub room_left : length notes + length row.jobs ≤ length whole
  room_left = grind (arith, common_steps, length-append, parted, reverse)

  pub more_notes : (after : List J) → after ≡ notes ++ row.jobs → after ++ all_notes (reverse left) ≡ whole
  more_notes after is = grind (arith, common_steps, append_assoc, parted, reverse)

-- P holds for one more element, or for none
pub kept_or_not : {A : Type 0} (P : A → Type 0) (b : Bool) (xs : List A) (x : A) → All P xs → P x
    → All P (if b then xs ++ x ∷ [] else xs)
kept_or_not P true xs x all this = All-push P xs x all this
kept_or_not P false xs x all this = all
