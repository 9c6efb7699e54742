-- The fields of a statement, filled in from the statement before.
use Rattle.std.proofs.Common.{◌≡◌, ℕ, ℤ, zero, suc, ◌+◌, ◌-◌, ◌<◌, ◌≤◌, min, max, Bool, true, false, List, [], ◌∷◌}
use Rattle.std.proofs.Common.{◌++◌, length, drop, take, map, set, get_or, arith, ap, sym, ◌∙◌, refl, append_assoc}
use Rattle.std.proofs.Common.{Option, Some, None, Result, Ok, Err, IfOk, IsSome, subst, slice_get, unwrap_or}
use Rattle.std.proofs.Common.{if◌then◌else◌}
use Rattle.std.specs.{List.range_with_len, Result.IsErrAnd}
use Rattle.std.proofs.lemmas.List.{drop_more, drop_all, get_or_at, take_more, set_at, append-nil, length-take-le}
use Rattle.std.proofs.lemmas.List.{same_lists, drop-drop, length-append, length-drop}
use Rattle.std.proofs.lemmas.List.FromFn.{length-map-range_with_len, get_or-map-range_with_len}
use Rattle.cs_base.specs.{declared.fault.ScoreKind.ScoreKind, declared.fault.ScoreKind.TheVariants.NothingToCarry}
use Rattle.cs_score.specs.{declared.field.Field.Field, declared.field.Signed.Signed, Fields.number_of, Fields.raw_of}
use Rattle.cs_score.specs.declared.field.InstrumentNumber.{InstrumentNumber}
use Rattle.cs_score.specs.declared.field.Field.TheVariants.{Number, Same}
use Rattle.cs_score.specs.{declared.last.LastNote.LastNote, declared.last.NoteRead.NoteRead, declared.row.Row.Row}
use Rattle.cs_score.specs.declared.statement_fault.StatementFault.{StatementFault}
use Rattle.cs_score.specs.{Notes.values_of, Notes.gap_by, inner.State.Answers, inner.State.IsKept}
use Rattle.cs_score.specs.{inner.State.IsLast, inner.Values.AreValues, inner.Values.IsTakenFrom}
use Rattle.cs_score.specs.Carry.{and_then, taken, field, count, fields, continues}
use Rattle.cs_score.specs.inner.State.{filled, filled_one, completed, fields_read, instr_read, p1_before, p2_read}
use Rattle.cs_score.specs.declared.statement_fault.StatementFault.TheVariants as fault

pub length-filled : (ws before : List Field) → length (filled ws before) ≡ max (length ws) (length before)
length-filled [] before = omega arith
length-filled (f ∷ fs) [] = omega arith
length-filled (f ∷ fs) (g ∷ gs) = let e = length-filled fs gs in omega (arith, e)

get_filled : (ws before : List Field) (k : ℕ) (d : Field) → k < length ws → k < length before
    → get_or (filled ws before) k d ≡ filled_one (get_or ws k d) (get_or before k d)
get_filled [] before k d l m = absurd (omega arith)
get_filled (f ∷ fs) [] k d l m = absurd (omega arith)
get_filled (f ∷ fs) (g ∷ gs) zero d l m = refl
get_filled (f ∷ fs) (g ∷ gs) (suc k) d l m = get_filled fs gs k d (omega arith) (omega arith)

-- the fields that both statements have, followed by the fields that only one of them has
pub filled_end : (n : ℕ) (ws before : List Field) → n ≡ min (length ws) (length before)
    → take n (filled ws before) ++ (drop n before ++ drop n ws) ≡ filled ws before
filled_end zero [] before e = append-nil before
filled_end zero (f ∷ fs) [] e = refl
filled_end zero (f ∷ fs) (g ∷ gs) e = absurd (omega arith)
filled_end (suc n) [] before e = absurd (omega arith)
filled_end (suc n) (f ∷ fs) [] e = absurd (omega arith)
filled_end (suc n) (f ∷ fs) (g ∷ gs) e = ap (λ t. filled_one f g ∷ t) (filled_end n fs gs (omega arith))

-- after the written fields, the previous statement's fields follow, unchanged
pub filled_rest : (n : ℕ) (ws before : List Field) → length ws ≤ n → drop n (filled ws before) ≡ drop n before
filled_rest n [] before l = refl
filled_rest zero (f ∷ fs) before l = absurd (omega arith)
filled_rest (suc n) (f ∷ fs) [] l = drop_all n fs (omega arith)
filled_rest (suc n) (f ∷ fs) (g ∷ gs) l = filled_rest n fs gs (omega arith)

tail_values : (r : Result Signed ScoreKind) (s : Result (List ℤ) ScoreKind) (zs : List ℤ)
    → and_then r (λ n. and_then s (λ ys. Ok (raw_of n ∷ ys))) ≡ Ok zs → s ≡ Ok (drop 1 zs)
tail_values (Ok n) (Ok ys) zs e = let h : raw_of n ∷ ys ≡ zs = cc in ap (λ t. Ok (drop 1 t)) h
tail_values (Ok n) (Err k) zs e = cc
tail_values (Err k) s zs e = cc

values_behind : (k : ℕ) (fs : List Field) (zs : List ℤ) → values_of NothingToCarry fs ≡ Ok zs
    → values_of NothingToCarry (drop k fs) ≡ Ok (drop k zs)
values_behind zero fs zs e = e
values_behind (suc k) [] [] e = refl
values_behind (suc k) [] (z ∷ zs) e = cc
values_behind (suc k) (f ∷ fs) zs e =
    let next : 1 + k ≡ suc k = omega arith in
    values_behind k fs (drop 1 zs) (tail_values (number_of NothingToCarry f) (values_of NothingToCarry fs) zs e)
    ∙ ap Ok (drop-drop k 1 zs ∙ ap (λ n. drop n zs) next)

-- after the written fields, the values are the previous statement's values
pub taken_behind : (ws before fields : List Field) (more : List ℤ) → AreValues before more → fields ≡ filled ws before
    → IsTakenFrom (length ws) fields more
taken_behind ws before fields more v e =
    let k = length ws - 3 in
    let same : drop k (drop 3 fields) ≡ drop k (drop 3 before) =
    ap (λ fs. drop k (drop 3 fs)) e ∙ drop-drop k 3 (filled ws before) ∙ filled_rest (3 + k) ws before (omega arith)
    ∙ sym (drop-drop k 3 before) in
    record {
      within = omega (arith, ap length e, length-filled ws before);
      values = ap (values_of NothingToCarry) same ∙ values_behind k (drop 3 before) more v.0;
      len = omega (arith, ap length same, v.1, length-drop {A = Field}, length-drop {A = ℤ});
    }

-- a statement of which all fields are written
pub all_written : (ws : List Field) → IsTakenFrom (length ws) ws []
all_written ws =
    let k = length ws - 3 in
    let none : drop k (drop 3 ws) ≡ [] = drop-drop k 3 ws ∙ drop_all (3 + k) ws (omega arith) in
    let zs : List ℤ = [] in
    let nil : drop k zs ≡ zs = drop_all k zs (omega arith) in
    record {
      within = omega arith;
      values = ap (values_of NothingToCarry) none ∙ ap Ok (sym nil);
      len = ap length nil ∙ sym (ap length none);
    }

parted_step : (r : Result Signed ScoreKind) (a b : Result (List ℤ) ScoreKind)
    → and_then r (λ n. and_then (and_then a (λ xs. and_then b (λ ys. Ok (xs ++ ys)))) (λ zs. Ok (raw_of n ∷ zs)))
    ≡ and_then (and_then r (λ n. and_then a (λ zs. Ok (raw_of n ∷ zs)))) (λ xs. and_then b (λ ys. Ok (xs ++ ys)))
parted_step (Err k) a b = refl
parted_step (Ok n) (Err k) b = refl
parted_step (Ok n) (Ok xs) (Err k) = refl
parted_step (Ok n) (Ok xs) (Ok ys) = refl

with_none : (r : Result (List ℤ) ScoreKind) → r ≡ and_then r (λ ys. Ok ys)
with_none (Ok ys) = refl
with_none (Err k) = refl

-- the values of the first k fields, followed by the values of the remaining ones
values_parted : (k : ℕ) (fs : List Field) → values_of NothingToCarry fs ≡
    and_then (values_of NothingToCarry (take k fs)) (λ xs. and_then (values_of NothingToCarry (drop k fs))
    (λ ys. Ok (xs ++ ys)))
values_parted zero fs = with_none (values_of NothingToCarry fs)
values_parted (suc k) [] = refl
values_parted (suc k) (f ∷ fs) =
    let v = values_of NothingToCarry in
    ap (λ s. and_then (number_of NothingToCarry f) (λ n. and_then s (λ zs. Ok (raw_of n ∷ zs)))) (values_parted k fs)
    ∙ parted_step (number_of NothingToCarry f) (v (take k fs)) (v (drop k fs))

-- a statement's own values replace the first values of the previous statement
pub own_values : (written : ℕ) (fields : List Field) (before own : List ℤ) → IsTakenFrom written fields before
    → values_of NothingToCarry (take (written - 3) (drop 3 fields)) ≡ Ok own → length own ≡ written - 3
    → AreValues fields (own ++ drop (length own) before)
own_values written fields before own t v l =
    let k = written - 3 in
    let rest = drop k (drop 3 fields) in (
      values_parted k (drop 3 fields)
          ∙ ap (λ r. and_then r (λ xs. and_then (values_of NothingToCarry rest) (λ ys. Ok (xs ++ ys)))) v
          ∙ ap (λ r. and_then r (λ ys. Ok (own ++ ys))) t.values ∙ ap (λ n. Ok (own ++ drop n before)) (sym l),
      let same : length (drop (length own) before) ≡ length rest = ap (λ n. length (drop n before)) l ∙ t.len in
          omega (
            arith,
            t.within,
            l,
            same,
            length-append own (drop (length own) before),
            length-drop k (drop 3 fields),
            length-drop 3 fields,
          ),
    )

-- the first fault in a statement's own fields is the first fault in all its fields
pub own_fault : (k : ℕ) (fs : List Field) (r : Result (List ℤ) StatementFault) (e : StatementFault)
    → IsErrAnd r (λ y. y ≡ e) → Answers {A = List ℤ} (Err e) (values_of NothingToCarry (take k fs))
    → Answers r (values_of NothingToCarry fs)
own_fault k fs (Ok x) e i h = elim i [ ]
own_fault k fs (Err (fault.Kind g)) (fault.Kind f) i h =
    let same : f ≡ g = cc in
    values_parted k fs
    ∙ ap (λ r. and_then r (λ xs. and_then (values_of NothingToCarry (drop k fs)) (λ ys. Ok (xs ++ ys)))) h
    ∙ ap (λ x. Err x) same
own_fault k fs (Err fault.OutOfMemory) e i h = tt
own_fault k fs (Err (fault.Kind g)) fault.OutOfMemory i h = cc

-- the stored state of a statement is the state that the next one may carry from
kept_one : (last next : LastNote) (written fields : List Field) (instr : InstrumentNumber) (p2 : ℕ)
    → instr_read last written ≡ Ok instr →
    fields ≡ fields_read last written → p2_read last written ≡ Ok p2 → IsLast instr p2 fields next
    → IsKept last written next
kept_one last next written fields instr p2 i f p l =
    let P : Option InstrumentNumber → Type 0 = λ o. IsSome o in
    record {
      is_instr = i ∙ sym (ap p1_before l.is_instr);
      stands = subst P (sym l.is_instr) refl;
      is_p2 = p ∙ ap Ok (sym l.is_p2);
      is_gap = l.is_gap ∙ ap (λ r. gap_by r (slice_get fields 2)) (sym (ap p1_before l.is_instr))
          ∙ ap (λ fs. gap_by (p1_before next.instr) (slice_get fs 2)) (sym l.is_fields);
      is_fields = l.is_fields ∙ f;
    }

pub kept_is : (r : Result NoteRead StatementFault) (last : LastNote) (written : List Field) (instr : InstrumentNumber)
    (p2 : ℕ) (fields : List Field) →
    instr_read last written ≡ Ok instr → fields ≡ fields_read last written → p2_read last written ≡ Ok p2 →
    IfOk r (λ read. IsLast instr p2 fields read.last) → IfOk r (λ read. IsKept last written read.last)
kept_is (Ok read) last written instr p2 fields i f p l = kept_one last read.last written fields instr p2 i f p l
kept_is (Err e) last written instr p2 fields i f p l = tt

-- one more field is filled in
pub filled_more : (ws before now : List Field) (k : ℕ) (v d : Field) → k < length ws → k < length before
    → v ≡ filled_one (get_or ws k d) (get_or before k d) → now ≡ take k (filled ws before) ++ drop k before
    → set now k v ≡ take (k + 1) (filled ws before) ++ drop (k + 1) before
filled_more ws before now k v d l m is e =
    let F = filled ws before in
    let front = take k F in
    let rest = drop (k + 1) before in
    let small : k < length F = omega (arith, length-filled ws before) in
    let split : now ≡ front ++ get_or before k d ∷ rest = e ∙ ap (λ t. front ++ t) (drop_more before k d m) in
    ap (λ t. set t k v) split ∙ set_at front (get_or before k d) rest v k (length-take-le k F (omega arith))
    ∙ ap (λ x. front ++ x ∷ rest) (is ∙ sym (get_filled ws before k d l m))
    ∙ sym (append_assoc front (get_or F k d ∷ []) rest) ∙ ap (λ t. t ++ rest) (sym (take_more F k d small))

pub now_at : (ws before now : List Field) (k : ℕ) (d : Field) → k < length ws → k < length before
    → now ≡ take k (filled ws before) ++ drop k before → get_or now k d ≡ get_or before k d
now_at ws before now k d l m e =
    let F = filled ws before in
    let small : k < length F = omega (arith, length-filled ws before) in
    ap (λ t. get_or t k d) (e ∙ ap (λ t. take k F ++ t) (drop_more before k d m))
    ∙ get_or_at (take k F) (get_or before k d) (drop (k + 1) before) d k (length-take-le k F (omega arith))

-- ---- each field by looking back

-- the code's method: the previous statement, with its omitted fields filled in
abbrev pub kept_fields : List Row → List Field
kept_fields [] = []
kept_fields (row ∷ above) = completed (continues (row ∷ above)) row.fields (kept_fields above)

taken_none : (f : Option Field) → taken f None ≡ f
taken_none None = refl
taken_none (Some Same) = refl
taken_none f = refl

taken_some : (f g : Field) → taken (Some f) (Some g) ≡ Some (filled_one f g)
taken_some (Number n) g = refl
taken_some f g = refl

get_of_filled : (ws before : List Field) (k : ℕ)
    → slice_get (filled ws before) k ≡ taken (slice_get ws k) (slice_get before k)
get_of_filled [] before k = refl
get_of_filled (f ∷ fs) [] k = sym (taken_none (slice_get (f ∷ fs) k))
get_of_filled (f ∷ fs) (g ∷ gs) zero = sym (taken_some f g)
get_of_filled (f ∷ fs) (g ∷ gs) (suc k) = get_of_filled fs gs k

by_choice : (b : Bool) (row : List Field) (before : List Field) (k : ℕ)
    → taken (slice_get row k) (if b then slice_get before k else None) ≡ slice_get (completed b row before) k
by_choice true row before k = sym (get_of_filled row before k)
by_choice false row before k = taken_none (slice_get row k)

pub field_is_kept : (rows : List Row) (k : ℕ) → field rows k ≡ slice_get (kept_fields rows) k
field_is_kept [] k = refl
field_is_kept (row ∷ above) k =
    let b = continues (row ∷ above) in
    ap (λ f. taken (slice_get row.fields k) (if b then f else None)) (field_is_kept above k)
    ∙ by_choice b row.fields (kept_fields above) k

count_choice : (b : Bool) (row before : List Field)
    → max (length row) (if b then length before else 0) ≡ length (completed b row before)
count_choice true row before = sym (length-filled row before)
count_choice false row before = omega arith

count_is_kept : (rows : List Row) → count rows ≡ length (kept_fields rows)
count_is_kept [] = refl
count_is_kept (row ∷ above) =
    let b = continues (row ∷ above) in
    ap (λ n. max (length row.fields) (if b then n else 0)) (count_is_kept above)
    ∙ count_choice b row.fields (kept_fields above)

get_or_is : (xs : List Field) (k : ℕ) (d : Field) → k < length xs → unwrap_or (slice_get xs k) Same ≡ get_or xs k d
get_or_is [] k d l = absurd (omega arith)
get_or_is (x ∷ xs) zero d l = refl
get_or_is (x ∷ xs) (suc k) d l = get_or_is xs k d (omega arith)

pub fields_are_kept : (rows : List Row) → fields rows ≡ kept_fields rows
fields_are_kept rows =
    let at : ℕ → Field = λ k. unwrap_or (field rows k) Same in
    let n = count rows in
    let len : length (map at (range_with_len 0 n)) ≡ n = length-map-range_with_len at 0 n in
    let same_count : n ≡ length (kept_fields rows) = count_is_kept rows in
    same_lists (fields rows) (kept_fields rows) (len ∙ same_count)
    (λ k d h. let l : k < n = omega arith in
    get_or-map-range_with_len at 0 n k k d l (omega arith) ∙ ap (λ f. unwrap_or f Same) (field_is_kept rows k)
    ∙ get_or_is (kept_fields rows) k d (omega arith))

-- all fields of a statement, from the fields of the previous one
pub fields_next : (row : Row) (above : List Row)
    → fields (row ∷ above) ≡ completed (continues (row ∷ above)) row.fields (fields above)
fields_next row above =
    fields_are_kept (row ∷ above) ∙ ap (completed (continues (row ∷ above)) row.fields) (sym (fields_are_kept above))

pub field_is : (rows : List Row) (k : ℕ) → field rows k ≡ slice_get (fields rows) k
field_is rows k = field_is_kept rows k ∙ ap (λ fs. slice_get fs k) (sym (fields_are_kept rows))
