-- Reading the lines of a text one by one.
use Rattle.std.proofs.Common.{◌≡◌, ℕ, ◌+◌, ◌-◌, ◌<◌, Bool, true, false, List, [], ◌∷◌, ◌++◌, length, drop, take, map}
use Rattle.std.proofs.Common.{arith, ap, sym, ◌∙◌, refl, subst, if◌then◌else◌}
use Rattle.std.specs.List.{prefix_len}
use Rattle.std.proofs.lemmas.List.{drop-drop, length-drop}
use Rattle.cs_score.specs.{declared.row.Row.Row, Rows.row_at, Rows.row_of, Rows.rows_in, inner.Left.rows_from}
use Rattle.cs_base.specs.Lines.{Excerpt, Line, is_blank, is_feed, line, line_after, lines_from, next_len, with_byte}
use Rattle.cs_base.proofs.LineCuts.{Cut, cut_at, line_len}

-- a line without its line number
abbrev unnumbered : Line → ℕ × List ℕ
unnumbered l = (l.at, l.bytes)

abbrev row_there : Excerpt → ℕ × List ℕ → List Row
row_there source l = row_of source (line 1 l.0 l.1)

abbrev rows_there : Excerpt → List (ℕ × List ℕ) → List Row
rows_there source [] = []
rows_there source (l ∷ ls) = row_there source l ++ rows_there source ls

rows_by_place : (source : Excerpt) (ls : List Line) → rows_in source ls ≡ rows_there source (map unnumbered ls)
rows_by_place source [] = refl
rows_by_place source (l ∷ ls) = ap (λ rows. row_of source l ++ rows) (rows_by_place source ls)

abbrev with_first_byte : ℕ → ℕ → List (ℕ × List ℕ) → List (ℕ × List ℕ)
with_first_byte at b [] = (at, b ∷ []) ∷ []
with_first_byte at b (l ∷ ls) = (at, b ∷ l.1) ∷ ls

with_byte_there : (n at b : ℕ) (ls : List Line)
    → map unnumbered (with_byte n at b ls) ≡ with_first_byte at b (map unnumbered ls)
with_byte_there n at b [] = refl
with_byte_there n at b (l ∷ ls) = refl

-- places and bytes of lines don't depend on the number of the first line
same_places : (n m at : ℕ) (text : List ℕ)
    → map unnumbered (lines_from n at text) ≡ map unnumbered (lines_from m at text)
same_places n m at [] = refl
same_places n m at (b ∷ rest) =
    by (is_feed b) (same_places (n + 1) (m + 1) (at + 1) rest) (same_places n m (at + 1) rest)
  where
    by : (is : Bool) → map unnumbered (lines_from (n + 1) (at + 1) rest) ≡ map unnumbered
        (lines_from (m + 1) (at + 1) rest)
        → map unnumbered (lines_from n (at + 1) rest) ≡ map unnumbered (lines_from m (at + 1) rest)
        → map unnumbered (if is then line n at []
        ∷ lines_from (n + 1) (at + 1) rest else with_byte n at b (lines_from n (at + 1) rest))
        ≡ map unnumbered (if is then line m at []
        ∷ lines_from (m + 1) (at + 1) rest else with_byte m at b (lines_from m (at + 1) rest))
    by true feed more = ap (λ ls. (at, []) ∷ ls) feed
    by false feed more =
        with_byte_there n at b (lines_from n (at + 1) rest) ∙ ap (with_first_byte at b) more
        ∙ sym (with_byte_there m at b (lines_from m (at + 1) rest))

rows_renumbered : (source : Excerpt) (n m at : ℕ) (text : List ℕ)
    → rows_in source (lines_from n at text) ≡ rows_in source (lines_from m at text)
rows_renumbered source n m at text =
    rows_by_place source (lines_from n at text) ∙ ap (rows_there source) (same_places n m at text)
    ∙ sym (rows_by_place source (lines_from m at text))

-- the statement of a line, followed by the statements of the lines after it
pub row_read : (text : Excerpt) (plain : List ℕ) (at n indent m line : ℕ) (row : List Row) → at < length plain
    → n ≡ line_len (drop at plain)
    → indent ≡ prefix_len is_blank (take n (drop at plain)) → m ≡ next_len (drop at plain)
    → line ≡ line_after text.first_line (take (at + indent) text.bytes)
    → row ≡ row_at line (drop indent (take n (drop at plain)))
    → rows_from text plain at ≡ row ++ rows_from text plain (at + m)
row_read text plain at n indent m number row l is_n is_indent is_m is_line is_row =
    let first = text.first_line in
    let rest = drop at plain in
    let cut : Cut first at rest n m =
    subst (λ i. Cut first at rest i m) (sym is_n) (subst (Cut first at rest (line_len rest)) (sym is_m)
    (cut_at first at rest (omega (arith, length-drop at plain)))) in
    let here : row_of text (line first at (take n rest)) ≡ row =
    ap (λ k. row_at (line_after first (take (at + k) text.bytes)) (drop k (take n rest))) (sym is_indent)
    ∙ ap (λ k. row_at k (drop indent (take n rest))) (sym is_line) ∙ sym is_row in
    ap (rows_in text) cut ∙ ap (λ r. r ++ rows_in text (lines_from (first + 1) (at + m) (drop m rest))) here
    ∙ ap (λ t. row ++ rows_in text (lines_from (first + 1) (at + m) t)) (drop-drop m at plain)
    ∙ ap (λ rows. row ++ rows) (rows_renumbered text (first + 1) first (at + m) (drop (at + m) plain))
