-- The stored state agrees with looking back at all rows.
use Rattle.std.proofs.Common.{◌≡◌, ℕ, ℤ, Bool, true, false, ◌&&◌, List, [], ◌∷◌, ap, sym, ◌∙◌, refl, Option, Some, None}
use Rattle.std.proofs.Common.{Result, Ok, Err, slice_get, nat_eq, if◌then◌else◌, subst}
use Rattle.std.specs.{HashMap.get, Option.option_or}
use Rattle.cs_base.specs.{declared.fault.ScoreKind.ScoreKind, declared.fault.ScoreKind.TheVariants.NothingToCarry}
use Rattle.cs_score.specs.{declared.field.Field.Field, declared.field.Field.TheVariants.After}
use Rattle.cs_score.specs.declared.field.InstrumentNumber.{InstrumentNumber}
use Rattle.cs_gen.specs.Faults.{table_fault}
use Rattle.cs_score.specs.declared.last.LastNote.{LastNote}
use Rattle.cs_score.specs.{declared.past.Past.Past, declared.row.StatementLetter.StatementLetter, declared.row.Row.Row}
use Rattle.cs_score.specs.{declared.statement.ScoreWhat.ScoreWhat, inner.State.p1_before, inner.State.p2_read}
use Rattle.cs_score.specs.declared.statement.ScoreWhat.TheVariants.{Note, Table}
use Rattle.cs_score.specs.Carry.{and_then, continues, fields, is_note, is_note_letter, is_same, p1, p1_by}
use Rattle.cs_score.specs.Notes.{gap, gap_by, note, note_of, ok_or_zero, p2, p2_by}
use Rattle.cs_score.specs.Statements.{asked, asked_by, asked_of, base_after, base_of, first_size, refusal_of, size_in}
use Rattle.cs_score.specs.Statements.{size_by, table, table_refusal, is_other_size, unless, written_table}
use Rattle.cs_score.specs.inner.State.{IsKept, completed, continuing, fields_read, instr_read, note_read, note_with}
use Rattle.cs_score.specs.inner.Past.{Follows, Keeps, LastFollows, asked_after, table_read}
use Rattle.cs_score.proofs.Carried.{field_is, fields_next}
use Rattle.cs_score.specs.declared.row.StatementLetter.TheVariants as letter

-- ---- an `i` statement

instr_is : (above : List Row) (past : Past) (row : Row) → Keeps above past
    → instr_read past.last row.fields ≡ p1 (row ∷ above)
instr_is above past row k = ap (p1_by (slice_get row.fields 0)) k.instr

no_same : (r : Result InstrumentNumber ScoreKind) → is_same r (Err NothingToCarry) ≡ false
no_same (Ok a) = refl
no_same (Err e) = refl

same_by : (b : Bool) (r before last : Result InstrumentNumber ScoreKind)
    → last ≡ (if b then before else Err NothingToCarry) → is_same r last ≡ (b && is_same r before)
same_by true r before last e = ap (is_same r) e
same_by false r before last e = ap (is_same r) e ∙ no_same r

continuing_is : (above : List Row) (past : Past) (row : Row) → Keeps above past
    → continuing past.last row.fields ≡ continues (row ∷ above)
continuing_is above past row k =
    ap (λ r. is_same r (p1_before past.last.instr)) (instr_is above past row k)
    ∙ same_by (is_note above) (p1 (row ∷ above)) (p1 above) (p1_before past.last.instr) k.instr

and_first : (a b : Bool) → (a && b) ≡ true → a ≡ true
and_first true b h = refl
and_first false b h = h

completed_by : (b : Bool) (row xs ys : List Field) → (b ≡ true → xs ≡ ys) → completed b row xs ≡ completed b row ys
completed_by true row xs ys e = ap (completed true row) (e refl)
completed_by false row xs ys e = refl

fields_is : (above : List Row) (past : Past) (row : Row) → Keeps above past
    → fields_read past.last row.fields ≡ fields (row ∷ above)
fields_is above past row k =
    ap (λ b. completed b row.fields past.last.fields) (continuing_is above past row k)
    ∙ completed_by (continues (row ∷ above)) row.fields past.last.fields (fields above)
    (λ h. k.fields (and_first (is_note above) (is_same (p1 (row ∷ above)) (p1 above)) h)) ∙ sym (fields_next row above)

no_mark : (a b c d : ℕ) (f : Option Field) → p2_by false a b f ≡ p2_by false c d f
no_mark a b c d None = refl
no_mark a b c d (Some After) = refl
no_mark a b c d f = refl

p2_by_same : (continuing : Bool) (a b c d : ℕ) (f : Option Field) → (continuing ≡ true → a ≡ c)
    → (continuing ≡ true → b ≡ d) → p2_by continuing a b f ≡ p2_by continuing c d f
p2_by_same true a b c d f e g = ap (λ x. p2_by true x b f) (e refl) ∙ ap (λ x. p2_by true c x f) (g refl)
p2_by_same false a b c d f e g = no_mark a b c d f

p2_is : (above : List Row) (past : Past) (row : Row) → Keeps above past
    → p2_read past.last row.fields ≡ p2 (row ∷ above)
p2_is above past row k =
    let b = continues (row ∷ above) in
    let f = slice_get (fields_read past.last row.fields) 1 in
    let noted : b ≡ true → is_note above ≡ true =
    λ h. and_first (is_note above) (is_same (p1 (row ∷ above)) (p1 above)) h in
    ap (λ x. p2_by x past.last.p2 past.last.gap f) (continuing_is above past row k)
    ∙ p2_by_same b past.last.p2 past.last.gap (ok_or_zero (p2 above)) (gap above) f (λ h. k.p2 (noted h))
    (λ h. k.gap (noted h)) ∙ ap (p2_by b (ok_or_zero (p2 above)) (gap above))
    (ap (λ fs. slice_get fs 1) (fields_is above past row k) ∙ sym (field_is (row ∷ above) 1))

note_is : (above : List Row) (past : Past) (row : Row) → Keeps above past
    → note_read past.base past.last row.fields ≡ note (base_of above) (row ∷ above)
note_is above past row k =
    ap (λ r. and_then r (note_with past.base past.last row.fields)) (instr_is above past row k)
    ∙ ap (λ b. and_then (p1 (row ∷ above))
    (λ instr. note_of b instr (p2_read past.last row.fields) (fields_read past.last row.fields))) k.base
    ∙ ap (λ x. and_then (p1 (row ∷ above))
    (λ instr. note_of (base_of above) instr x (fields_read past.last row.fields))) (p2_is above past row k)
    ∙ ap (λ fs. and_then (p1 (row ∷ above)) (λ instr. note_of (base_of above) instr (p2 (row ∷ above)) fs))
    (fields_is above past row k)

-- ---- an `f`

refusal_is : (f g : ℕ → Option ℤ) (what : ScoreWhat) → ((n : ℕ) → f n ≡ g n) → refusal_of f what ≡ refusal_of g what
refusal_is f g (Table number at size gen args) e =
    ap (λ first. table_refusal (table_fault size gen args) (is_other_size first size)) (e number)
refusal_is f g _ e = refl

then_same : {A B E : Type 0} → (r : Result A E) (f g : A → Result B E) → ((x : A) → f x ≡ g x)
    → and_then r f ≡ and_then r g
then_same (Ok x) f g e = e x
then_same (Err k) f g e = refl

table_is : (above : List Row) (past : Past) (fs : List Field) → Keeps above past
    → table_read (get nat_eq past.sizes) fs ≡ table above fs
table_is above past fs k =
    then_same (written_table fs) (λ what. unless (refusal_of (get nat_eq past.sizes) what) what)
    (λ what. unless (refusal_of (first_size above) what) what)
    (λ what. ap (λ r. unless r what) (refusal_is (get nat_eq past.sizes) (first_size above) what k.sizes))

-- ---- any row

asked_by_is : (above : List Row) (past : Past) (row : Row) (l : StatementLetter) → Keeps above past
    → asked_after past row l ≡ asked_by above row l
asked_by_is above past row l k =
    λ i. asked_of (note_is above past row k i) (table_is above past row.fields k i) row.fields l

-- the content of a row from the stored state is its content after the rows above
pub asked_is : (above : List Row) (past : Past) (row : Row) → Keeps above past
    → asked_after past row row.letter ≡ asked above row
asked_is above past row k = asked_by_is above past row row.letter k

instr_more : (above : List Row) (past : Past) (row : Row) (next : LastNote) (l : StatementLetter) → Keeps above past
    → LastFollows past.last row next l
    → p1_before next.instr ≡ (if is_note_letter l then p1 (row ∷ above) else Err NothingToCarry)
instr_more above past row next letter.Note k h = sym h.is_instr ∙ instr_is above past row k
instr_more above past row next _ k h = ap p1_before h

-- the state of an `i` statement is stored
kept_by : (past : Past) (row : Row) (next : LastNote) (l : StatementLetter) → LastFollows past.last row next l
    → is_note_letter l ≡ true → IsKept past.last row.fields next
kept_by past row next letter.Note h e = h
kept_by past row next _ h e = absurd (let wrong : false ≡ true = e in cc)

fields_more : (above : List Row) (past : Past) (row : Row) (next : LastNote) → Keeps above past
    → IsKept past.last row.fields next → next.fields ≡ fields (row ∷ above)
fields_more above past row next k h = h.is_fields ∙ fields_is above past row k

gap_more : (above : List Row) (past : Past) (row : Row) (next : LastNote) → Keeps above past
    → IsKept past.last row.fields next → next.gap ≡ gap (row ∷ above)
gap_more above past row next k h =
    h.is_gap ∙ ap (λ r. gap_by r (slice_get next.fields 2)) (sym h.is_instr ∙ instr_is above past row k)
    ∙ ap (gap_by (p1 (row ∷ above)))
    (ap (λ fs. slice_get fs 2) (fields_more above past row next k h) ∙ sym (field_is (row ∷ above) 2))

-- the state after one more row
pub row_more : (above : List Row) (past : Past) (row : Row) (next : Past) → Keeps above past → Follows past row next
    → Keeps (row ∷ above) next
row_more above past row next k f = record {
  base = f.base ∙ ap (λ b. base_after row.fields b row.letter) k.base;
  sizes = λ n. f.sizes n ∙ ap (λ s. option_or s (size_in n row)) (k.sizes n);
  instr = instr_more above past row next.last row.letter k f.last;
  p2 = λ e. let h = kept_by past row next.last row.letter f.last e in ap ok_or_zero
      (sym h.is_p2 ∙ p2_is above past row k);
  gap = λ e. gap_more above past row next.last k (kept_by past row next.last row.letter f.last e);
  fields = λ e. fields_more above past row next.last k (kept_by past row next.last row.letter f.last e);
}

-- the state before the first row
pub nothing_kept : (past : Past) → past.base ≡ 0 → ((n : ℕ) → get nat_eq past.sizes n ≡ None) → past.last.instr ≡ None
    → Keeps [] past
nothing_kept past b s i = record {
  base = b;
  sizes = s;
  instr = ap p1_before i;
  p2 = λ e. absurd (let wrong : false ≡ true = e in cc);
  gap = λ e. absurd (let wrong : false ≡ true = e in cc);
  fields = λ e. absurd (let wrong : false ≡ true = e in cc);
}

-- ---- a row that sets no size

or_none : (x : Option ℤ) → x ≡ option_or x None
or_none None = refl
or_none (Some z) = refl

pub follows_by : (past : Past) (row : Row) (next : Past) (l : StatementLetter) → row.letter ≡ l
    → next.base ≡ base_after row.fields past.base l → ((n : ℕ) → get nat_eq next.sizes n ≡ get nat_eq past.sizes n)
    → ((n : ℕ) → size_by n row.fields l ≡ None) → LastFollows past.last row next.last l → Follows past row next
follows_by past row next l e b s z i = record {
  base = b ∙ ap (base_after row.fields past.base) (sym e);
  sizes = λ n. s n ∙ or_none (get nat_eq past.sizes n)
      ∙ ap (option_or (get nat_eq past.sizes n)) (sym (z n) ∙ ap (size_by n row.fields) (sym e));
  last = subst (LastFollows past.last row next.last) (sym e) i;
}
