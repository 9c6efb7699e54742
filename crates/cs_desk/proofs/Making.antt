-- A new desk.
use Rattle.std.proofs.lemmas.{Grind.common_steps, Bool.cases_lt, Bool.lt-ltb}
use Rattle.std.proofs.Common.{◌≡◌, ℕ, ◌+◌, ◌≤◌, List, [], ◌∷◌, ◌++◌, length, replicate, Some, None, nat_lt, refl, sym}
use Rattle.std.proofs.Common.{ap, ◌∙◌, subst, arith, is_some, length-append}
use Rattle.atomic_table.specs.{Seated.TableId, Table.opening, declared.shared.Seat.Seat}
use Rattle.cs_base.specs.Limits.{most_resources}
use Rattle.cs_board.specs.{Resting.still_in, Resting.wide, Rule.Always, Views.resting_view, Opening.each_below}
use Rattle.cs_board.specs.{declared.view.Berth.Berth, declared.view.Berth.TheVariants.Vacant, declared.view.View.View}
use Rattle.cs_desk.specs.inner.Resting.{IsResting, IsCleared}
use Rattle.cs_desk.proofs.Sole.{cleared_of}
use Rattle.cs_cells.specs.Areas.{IsLaid, limit_passed, word_count}
use Rattle.cs_cells.specs.{Meaning.Meaning, declared.footprint.Area.Area}
use Rattle.cs_board.proofs.{Opening.length-each_below, Rests.starts}
use Rattle.cs_base.specs.declared.limit.Limit.TheVariants as limit

few_areas : (areas : List Area) → limit_passed areas ≡ None → length areas ≤ most_resources
few_areas areas h = grind (arith, common_steps, cases_lt, lt-ltb, nat_lt)

pub desk_starts : {J : Type 0} (M : Meaning J) (areas : List Area) (ws ws' : List ℕ) (slots : List (Berth J)) (n n' : ℕ)
    → ws ≡ ws' → slots ≡ replicate n Vacant → n' ≡ n
    → Always M (opening ws slots (resting_view areas (record { words = ws'; homes = replicate n' (Some Vacant) })))
desk_starts M areas ws ws' slots n n' same_words vacant count =
    subst (λ z. Always M (opening z slots
    (resting_view areas (record { words = ws'; homes = replicate n' (Some Vacant) })))) (sym same_words)
    (subst (λ z. Always M (opening ws' z
    (resting_view areas (record { words = ws'; homes = replicate n' (Some Vacant) })))) (sym vacant)
    (subst (λ i. Always M (opening ws' (replicate n Vacant)
    (resting_view areas (record { words = ws'; homes = replicate i (Some Vacant) })))) (sym count)
    (starts M (resting_view areas (record { words = ws'; homes = replicate n (Some Vacant) })) ws' n refl refl)))

pub row_long : (areas : List Area) (cells : List ℕ) (n m : ℕ) → length cells ≡ word_count areas
    → length (0 ∷ cells ++ (each_below (λ r. 0) (length areas) ++ each_below (λ r. 0) (n + (n + m)))) ≡ wide areas n m
row_long areas cells n m long = grind (arith, common_steps, length-append, length-each_below)

pub desk_rests : {J : Type 0} (areas : List Area) (ws cells others : List ℕ) (n r c : ℕ) (id : TableId)
    (s : Seat (Berth J) (View J)) → s.table_id ≡ id
    → s.me ≡ (resting_view areas (record { words = ws; homes = replicate n (Some Vacant) }), []) → IsLaid areas
    → limit_passed areas ≡ None
    → r ≡ length areas → c ≡ word_count areas → ws ≡ 0 ∷ cells ++ (each_below (λ r. 0) (length areas) ++ others)
    → length cells ≡ word_count areas → id.words ≡ length ws → id.slots ≡ n → IsResting r c id s
desk_rests areas ws cells others n r c id s table me laid within r_is c_is words long count slots =
    record {
      sole = record {
        table = table;
        live = ap (λ z. z.0.spent) me;
        knows = ap (λ z. is_some z.0.rest) me;
        carries = ap (λ z. length z.1) me;
      };
      laid = subst (λ z. IsLaid z.0.plan.areas) (sym me) laid;
      few = subst (λ z. length z.0.plan.areas ≤ most_resources) (sym me) (few_areas areas within);
      areas = ap (λ z. length z.0.plan.areas) me ∙ sym r_is;
      cells = ap (λ z. word_count z.0.plan.areas) me ∙ sym c_is;
      cleared = subst (λ z. IsCleared z.0.plan.areas id.words id.slots (still_in z.0.rest)) (sym me)
          (cleared_of areas id.words id.slots (record { words = ws; homes = replicate n (Some Vacant) }) cells others
          words long (sym count) (ap (λ z. replicate z (Some Vacant)) (sym slots))).1;
    }
