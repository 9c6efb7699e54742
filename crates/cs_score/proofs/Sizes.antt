-- All tables with the same number have the same size, the size of the first of them.
use Rattle.std.proofs.Common.{◌≡◌, ℕ, ℤ, zero, suc, ◌<◌, ◌==◌, not, nat_lt, Bool, true, false, List, [], ◌∷◌, ◌++◌}
use Rattle.std.proofs.Common.{drop, length, slice_get, arith, ap, sym, ◌∙◌, refl, subst, Option, Some, None, Result, Ok}
use Rattle.std.proofs.Common.{Err, if◌then◌else◌}
use Rattle.std.specs.{List.All, Option.option_or, Ordering.int_eq}
use Rattle.std.proofs.lemmas.Bool.Decides.{Decides-int_eq, nat_tests}
use Rattle.cs_base.specs.{Lines.Excerpt, declared.fault.ScoreFault.ScoreFault, declared.fault.ScoreKind.ScoreKind}
use Rattle.cs_base.specs.declared.fault.ScoreKind.TheVariants.{BadStatement, MissingField, NotInProfile, NothingToCarry}
use Rattle.cs_score.specs.{declared.field.Field.Field, Fields.is_negative_time, Fields.raw_of, Fields.size_of}
use Rattle.cs_gen.specs.{declared.check.GenFault.GenFault, Faults.table_fault}
use Rattle.cs_score.specs.{declared.row.Row.Row, declared.statement.ScoreWhat.ScoreWhat}
use Rattle.cs_score.specs.{declared.statement.ScoreStmt.ScoreStmt, Rows.rows_of, Sizes.HaveOneSize, Sizes.IsOneSize}
use Rattle.cs_score.specs.declared.row.StatementLetter.{StatementLetter}
use Rattle.cs_score.specs.declared.statement.ScoreWhat.TheVariants.{Note, Hold, Stop, Table, Tempo, Section}
use Rattle.cs_score.specs.Carry.{and_then, fields, p1}
use Rattle.cs_score.specs.Notes.{counted, fewest, note, note_by, note_of, p2, times_of, valued_note, values_of}
use Rattle.cs_score.specs.Statements.{asked, asked_by, at_line, base_by, base_of, ended, first_size, is_other_size, one}
use Rattle.cs_score.specs.Statements.{points_of, refusal_of, score_of, size_by, size_for, stated, statements_of, table}
use Rattle.cs_score.specs.Statements.{table_refusal, tempo_of, unless, up_to_end, written_table}
use Rattle.cs_score.proofs.{Pairs.and_then_ok, Reading.score_is}
use Rattle.cs_gen.specs.declared.check.GenFault.TheVariants as gen
use Rattle.cs_score.specs.declared.row.StatementLetter.TheVariants as letter

-- ---- lists whose items all have a property

abbrev Each : {X : Type 0} → (X → Type 0) → List X → Type 0
Each P [] = Unit {0}
Each P (x ∷ xs) = P x × Each P xs

each_at : {X : Type 0} (P : X → Type 0) (xs : List X) → Each P xs → All P xs
each_at P [] e k d some = absurd (omega arith)
each_at P (x ∷ xs) e zero d some = e.0
each_at P (x ∷ xs) e (suc k) d some = each_at P xs e.1 k d (omega arith)

each_more : {X : Type 0} (P Q : X → Type 0) → ((x : X) → P x → Q x) → (xs : List X) → Each P xs → Each Q xs
each_more P Q weaker [] e = tt
each_more P Q weaker (x ∷ xs) e = (weaker x e.0, each_more P Q weaker xs e.1)

-- ---- an accepted table has the first size of its number

-- a table has the first size of its number
abbrev IsFirst : (ℕ → Option ℤ) → ScoreWhat → Type 0
IsFirst first (Table number at size gen args) = (z : ℤ) → first number ≡ Some z → size ≡ z
IsFirst first _ = Unit {0}

-- a statement that is a table sets the size of its number
abbrev IsOwn : (ℕ → Option ℤ) → ScoreWhat → Type 0
IsOwn own (Table number at size gen args) = own number ≡ Some size
IsOwn own _ = Unit {0}

abbrev IsAccepted : (ℕ → Option ℤ) → (ℕ → Option ℤ) → ScoreWhat → Type 0
IsAccepted first own what = IsFirst first what × IsOwn own what

not_resized : (fault : Option GenFault) (resized : Bool) → table_refusal fault resized ≡ None → resized ≡ false
not_resized None true h = absurd (cc)
not_resized None false h = refl
not_resized (Some gen.Size) resized h = absurd (cc)
not_resized (Some gen.Unknown) true h = absurd (cc)
not_resized (Some gen.Unknown) false h = refl
not_resized (Some gen.NegativeLength) true h = absurd (cc)
not_resized (Some gen.NegativeLength) false h = refl

not_false : (b : Bool) → not b ≡ false → b ≡ true
not_false true h = refl
not_false false h = absurd (cc)

first_kept : (first : Option ℤ) (size z : ℤ) → is_other_size first size ≡ false → first ≡ Some z → size ≡ z
first_kept None size z h e = absurd (cc)
first_kept (Some y) size z h e =
    let same : y ≡ z = cc in sym ((Decides-int_eq y size).0 (not_false (int_eq y size) h)) ∙ same

not_refused : (refused : Option ScoreKind) (what what' : ScoreWhat) → unless refused what ≡ Ok what'
    → (refused ≡ None) × (what ≡ what')
not_refused None what what' h = (refl, cc)
not_refused (Some k) what what' h = absurd (cc)

same_number : (n : ℕ) (z : ℤ) → (if n == n then Some z else None) ≡ Some z
same_number n z = let h : (n == n) ≡ true = grind (arith, nat_tests) in rw h refl

table_accepted : (above : List Row) (fs : List Field) (w : ScoreWhat) → written_table fs ≡ Ok w
    → refusal_of (first_size above) w ≡ None → IsAccepted (first_size above) (λ n. size_by n fs letter.Table) w
table_accepted above fs (Table number at size gen args) e h =
    let kept = not_resized (table_fault size gen args) (is_other_size (first_size above number) size) h in (
      λ z first. first_kept (first_size above number) size z kept first,
      ap (size_for number) e ∙ same_number number size,
    )
table_accepted above fs _ e h = (tt, tt)

-- ---- no other statement is a table

abbrev IsNoTable : ScoreWhat → Type 0
IsNoTable (Table number at size gen args) = ⊥
IsNoTable _ = Unit {0}

accepted_none : (first own : ℕ → Option ℤ) (w : ScoreWhat) → IsNoTable w → IsAccepted first own w
accepted_none first own (Table number at size gen args) h = absurd h
accepted_none first own _ h = (tt, tt)

chosen_note : (stop held : Bool) (n at : ℕ) (given : ℤ) (len : ℕ) (more : List ℤ)
    → IsNoTable (if stop then Stop n at else if held then Hold n at given more else Note n at len more)
chosen_note true held n at given len more = tt
chosen_note false true n at given len more = tt
chosen_note false false n at given len more = tt

counted_is : (few many : Bool) (what what' : ScoreWhat)
    → (if few then Err MissingField else if many then Err BadStatement else Ok what) ≡ Ok what' → what ≡ what'
counted_is true many what what' h = absurd (let wrong : Err MissingField ≡ Ok what' = h in cc)
counted_is false true what what' h = absurd (let wrong : Err BadStatement ≡ Ok what' = h in cc)
counted_is false false what what' h = cc

note_is_none : (base : ℕ) (rows : List Row) (w : ScoreWhat) → note base rows ≡ Ok w → IsNoTable w
note_is_none base rows w h =
    let a = and_then_ok (p1 rows) (λ instr. note_of base instr (p2 rows) (fields rows)) w h in
    let b = and_then_ok (p2 rows)
    (λ p2. and_then (times_of base a.0 p2 (slice_get (fields rows) 2)) (λ times. valued_note a.0 times (fields rows))) w
    a.2 in
    let c = and_then_ok (times_of base a.0 b.0 (slice_get (fields rows) 2))
    (λ times. valued_note a.0 times (fields rows)) w b.2 in
    let d = and_then_ok (values_of NothingToCarry (drop 3 (fields rows)))
    (λ more. counted a.0 (length (fields rows)) (note_by a.0 c.0.at c.0.p3 more)) w c.2 in
    let e : note_by a.0 c.0.at c.0.p3 d.0 ≡ w =
    counted_is (nat_lt (length (fields rows)) (fewest a.0)) (nat_lt 100 (length (fields rows)))
    (note_by a.0 c.0.at c.0.p3 d.0) w d.2 in
    subst IsNoTable e (chosen_note a.0.stop (is_negative_time c.0.p3) a.0.number c.0.at (raw_of c.0.p3) (size_of c.0.p3)
    d.0)

not_missing : (b : Bool) (r : Result ScoreWhat ScoreKind) (w : ScoreWhat) → (if b then Err MissingField else r) ≡ Ok w
    → r ≡ Ok w
not_missing true r w h = absurd (let wrong : Err MissingField ≡ Ok w = h in cc)
not_missing false r w h = h

tempo_is_none : (fs : List Field) (w : ScoreWhat) → tempo_of fs ≡ Ok w → IsNoTable w
tempo_is_none [] w h = absurd (let wrong : Err MissingField ≡ Ok w = h in cc)
tempo_is_none (f ∷ fs) w h =
    let a = and_then_ok (points_of None (f ∷ fs)) (λ points. Ok (Tempo points)) w
    (not_missing (length (f ∷ fs) == 0) _ w h) in
    let e : Tempo a.0 ≡ w = cc in subst IsNoTable e tt

-- ---- the statements of one row

-- at most one statement, which is accepted
abbrev Accepted : (ℕ → Option ℤ) → (ℕ → Option ℤ) → List ScoreStmt → Type 0
Accepted first own these = Each (λ (s : ScoreStmt). IsAccepted first own s.what) these × (length these < 2)

own_at : (first own : ℕ → Option ℤ) (line : ℕ) (these : List ScoreStmt) (w : ScoreWhat) → IsAccepted first own w
    → at_line line (w ∷ []) ≡ these → Accepted first own these
own_at first own line these w a e = subst (Accepted first own) e ((a, tt), omega arith)

same_list : (xs ys : List ScoreStmt) → ◌≡◌ {A = Result (List ScoreStmt) ScoreFault} (Ok xs) (Ok ys) → xs ≡ ys
same_list xs ys e = cc

no_list : (f : ScoreFault) (ys : List ScoreStmt) → ◌≡◌ {A = Result (List ScoreStmt) ScoreFault} (Err f) (Ok ys) → ⊥
no_list f ys e = cc

one_accepted : (first own : ℕ → Option ℤ) (line : ℕ) (r : Result ScoreWhat ScoreKind) (these : List ScoreStmt)
    → ((w : ScoreWhat) → r ≡ Ok w → IsAccepted first own w) → stated line (one r) ≡ Ok these → Accepted first own these
one_accepted first own line (Ok w) these a e =
    own_at first own line these w (a w refl) (same_list (at_line line (w ∷ [])) these e)
one_accepted first own line (Err k) these a e = absurd (no_list (record { line = line; kind = k }) these e)

none_accepted : (first own : ℕ → Option ℤ) (these : List ScoreStmt)
    → ◌≡◌ {A = Result (List ScoreStmt) ScoreFault} (Ok []) (Ok these) → Accepted first own these
none_accepted first own these e = subst (Accepted first own) (same_list [] these e) (tt, omega arith)

base_accepted : (first own : ℕ → Option ℤ) (line : ℕ) (r : Result ℕ ScoreKind) (these : List ScoreStmt)
    → stated line (and_then r (λ _. Ok [])) ≡ Ok these → Accepted first own these
base_accepted first own line (Ok n) these e = none_accepted first own these e
base_accepted first own line (Err k) these e = absurd (no_list (record { line = line; kind = k }) these e)

end_accepted : (first own : ℕ → Option ℤ) (line : ℕ) (fs : List Field) (these : List ScoreStmt)
    → stated line (ended fs) ≡ Ok these → Accepted first own these
end_accepted first own line [] these e = none_accepted first own these e
end_accepted first own line (f ∷ fs) these e = absurd (no_list (record { line = line; kind = NotInProfile }) these e)

these_accepted : (above : List Row) (row : Row) (these : List ScoreStmt) (l : StatementLetter)
    → stated row.line (asked_by above row l) ≡ Ok these →
    Accepted (first_size above) (λ n. size_by n row.fields l) these
these_accepted above row these letter.Note e =
    one_accepted (first_size above) (λ n. size_by n row.fields letter.Note) row.line
    (note (base_of above) (row ∷ above)) these
    (λ w h. accepted_none (first_size above) (λ n. size_by n row.fields letter.Note) w
    (note_is_none (base_of above) (row ∷ above) w h)) e
these_accepted above row these letter.Table e =
    one_accepted (first_size above) (λ n. size_by n row.fields letter.Table) row.line (table above row.fields) these
    (λ w h.
    let a = and_then_ok (written_table row.fields) (λ what. unless (refusal_of (first_size above) what) what) w h in
    let b = not_refused (refusal_of (first_size above) a.0) a.0 w a.2 in
    subst (IsAccepted (first_size above) (λ n. size_by n row.fields letter.Table)) b.1
    (table_accepted above row.fields a.0 a.1 b.0)) e
these_accepted above row these letter.Tempo e =
    one_accepted (first_size above) (λ n. size_by n row.fields letter.Tempo) row.line (tempo_of row.fields) these
    (λ w h. accepted_none (first_size above) (λ n. size_by n row.fields letter.Tempo) w (tempo_is_none row.fields w h))
    e
these_accepted above row these letter.Base e =
    base_accepted (first_size above) (λ n. size_by n row.fields letter.Base) row.line (base_by row.fields) these e
these_accepted above row these letter.Section e =
    own_at (first_size above) (λ n. size_by n row.fields letter.Section) row.line these Section (tt, tt)
    (same_list (at_line row.line (Section ∷ [])) these e)
these_accepted above row these letter.End e =
    end_accepted (first_size above) (λ n. size_by n row.fields letter.End) row.line row.fields these e
these_accepted above row these letter.Other e =
    absurd (no_list (record { line = row.line; kind = NotInProfile }) these e)
these_accepted above row these letter.Stray e =
    absurd (no_list (record { line = row.line; kind = BadStatement }) these e)

-- ---- the statements of all rows

-- if a number has a first size already, a later statement doesn't change it
or_first : (a b : Option ℤ) (z : ℤ) → a ≡ Some z → option_or a b ≡ Some z
or_first None b z h = absurd (cc)
or_first (Some x) b z h = h

or_own : (a b : Option ℤ) (z : ℤ) → ((y : ℤ) → a ≡ Some y → z ≡ y) → b ≡ Some z → option_or a b ≡ Some z
or_own None b z f h = h
or_own (Some x) b z f h = ap Some (sym (f x refl))

one_of : (first own : ℕ → Option ℤ) (w : ScoreWhat) → IsAccepted first own w → (u : ScoreWhat)
    → IsFirst (λ n. option_or (first n) (own n)) u → IsOneSize w u
one_of first own (Table m at size gen args) a (Table n at' size' gen' args') f = λ same.
    sym (f size (ap (λ k. option_or (first k) (own k)) (sym same) ∙ or_own (first m) (own m) size a.0 a.1))
one_of first own _ a u f = tt

first_back : (first own : ℕ → Option ℤ) (w : ScoreWhat) → IsFirst (λ n. option_or (first n) (own n)) w → IsFirst first w
first_back first own (Table number at size gen args) f = λ z h. f z (or_first (first number) (own number) z h)
first_back first own _ f = tt

abbrev AreFirst : (ℕ → Option ℤ) → List ScoreStmt → Type 0
AreFirst first = Each (λ (s : ScoreStmt). IsFirst first s.what)

-- some statements followed by others
before : (first own : ℕ → Option ℤ) (these more : List ScoreStmt)
    → Each (λ (s : ScoreStmt). IsAccepted first own s.what) these →
    AreFirst (λ n. option_or (first n) (own n)) more → HaveOneSize more → length these < 2
    → AreFirst first (these ++ more) × HaveOneSize (these ++ more)
before first own [] more a f h few = (each_more _ _ (λ s. first_back first own s.what) more f, h)
before first own (s ∷ []) more a f h few = (
  (a.0.0, each_more _ _ (λ s. first_back first own s.what) more f),
  (each_at _ more (each_more _ _ (λ u. one_of first own s.what a.0 u.what) more f), h),
)
before first own (s ∷ t ∷ these) more a f h few = absurd (omega arith)

sizes_of : (above rows : List Row) (out : List ScoreStmt) → statements_of above rows ≡ Ok out
    → AreFirst (first_size above) out × HaveOneSize out
sizes_of above [] out e = subst (λ out. AreFirst (first_size above) out × HaveOneSize out) (same_list [] out e) (tt, tt)
sizes_of above (row ∷ rows) out e =
    let a = and_then_ok (stated row.line (asked above row))
    (λ these. and_then (statements_of (row ∷ above) rows) (λ more. Ok (these ++ more))) out e in
    let b = and_then_ok (statements_of (row ∷ above) rows) (λ more. Ok (a.0 ++ more)) out a.2 in
    let rest = sizes_of (row ∷ above) rows b.0 b.1 in
    let these = these_accepted above row a.0 row.letter a.1 in
    subst (λ out. AreFirst (first_size above) out × HaveOneSize out) (same_list (a.0 ++ b.0) out b.2)
    (before (first_size above) (λ n. size_by n row.fields row.letter) a.0 b.0 these.0 rest.0 rest.1 these.1)

pub one_size : (text : Excerpt) (statements : List ScoreStmt) → score_of text ≡ Ok statements → HaveOneSize statements
one_size text statements e = (sizes_of [] (up_to_end (rows_of text)) statements (sym (score_is text) ∙ e)).1
