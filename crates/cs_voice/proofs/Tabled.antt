-- The tables that a note finds, by their numbers.
use Rattle.std.proofs.Common.{◌≡◌, ℕ, ℤ, zero, suc, ◌+◌, ◌<◌, ◌==◌, Bool, true, false, not, ◌&&◌, List, [], ◌∷◌, length}
use Rattle.std.proofs.Common.{drop, get_or, unsigned_abs, Some, refl, sym, ◌∙◌, ap, arith}
use Rattle.std.specs.Int.{is_negative}
use Rattle.cs_meaning.specs.Pieces.{find_table}
use Rattle.cs_machine.proofs.Found.{if_false, if_true}
use Rattle.cs_voice.specs.{declared.stage.PieceTable.PieceTable, Tables.table_at, Tables.tables_of}

-- the tables from an index on
from_place : (tables : List PieceTable) (made : List Bool) (n : ℕ) (t : PieceTable) (m : Bool) → n < length tables
    → n < length made → t ≡ get_or tables n t → m ≡ get_or made n false
    → tables_of (drop n tables) (drop n made) ≡ table_at t m ∷ tables_of (drop (n + 1) tables) (drop (n + 1) made)
from_place [] made n t m h k e f = absurd (omega arith)
from_place (x ∷ tables) [] n t m h k e f = absurd (omega arith)
from_place (x ∷ tables) (y ∷ made) zero t m h k e f = λ i. table_at (sym e i) (sym f i) ∷ tables_of tables made
from_place (x ∷ tables) (y ∷ made) (suc n) t m h k e f =
    let more : suc (n + 1) ≡ suc n + 1 = omega arith in
    from_place tables made n t m (omega arith) (omega arith) e f
    ∙ ap (λ j. table_at t m ∷ tables_of (drop j (x ∷ tables)) (drop j (y ∷ made))) more

-- the table at an index is the one, if those before it aren't; or it is a later one
pub found_here : (tables : List PieceTable) (made : List Bool) (number : ℤ) (n : ℕ) (t : PieceTable) → n < length tables
    → length made ≡ length tables
    → t ≡ get_or tables n t → (not (is_negative number) && t.number == unsigned_abs number) ≡ true
    → find_table (tables_of tables made) number ≡ find_table (tables_of (drop n tables) (drop n made)) number
    → Some (table_at t (get_or made n false)) ≡ find_table (tables_of tables made) number
found_here tables made number n t h long e here before =
    let m : Bool = get_or made n false in
    sym (if_true (not (is_negative number) && t.number == unsigned_abs number) (Some (table_at t m))
    (find_table (tables_of (drop (n + 1) tables) (drop (n + 1) made)) number) here)
    ∙ sym (before ∙ ap (λ ts. find_table ts number) (from_place tables made n t m h (omega arith) e refl))

pub found_later : (tables : List PieceTable) (made : List Bool) (number : ℤ) (n : ℕ) (t : PieceTable)
    → n < length tables → length made ≡ length tables
    → t ≡ get_or tables n t → (not (is_negative number) && t.number == unsigned_abs number) ≡ false
    → find_table (tables_of tables made) number ≡ find_table (tables_of (drop n tables) (drop n made)) number
    → find_table (tables_of tables made) number ≡ find_table (tables_of (drop (n + 1) tables) (drop (n + 1) made))
    number
found_later tables made number n t h long e here before =
    let m : Bool = get_or made n false in
    before ∙ ap (λ ts. find_table ts number) (from_place tables made n t m h (omega arith) e refl)
    ∙ if_false (not (is_negative number) && t.number == unsigned_abs number) (Some (table_at t m))
    (find_table (tables_of (drop (n + 1) tables) (drop (n + 1) made)) number) here
