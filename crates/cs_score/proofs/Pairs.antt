-- Reading the pairs of a tempo one by one, and their ranges.
use Rattle.std.proofs.Common.{◌≡◌, ℕ, ◌+◌, ◌<◌, ◌≤◌, ◌==◌, true, List, ◌∷◌, ◌++◌, length, drop, get_or, arith, ap, []}
use Rattle.std.proofs.Common.{sym, ◌∙◌, refl, subst, append_assoc, Option, Some, None, Result, Ok, Err, nat_le}
use Rattle.std.specs.Result.{IsErrAnd}
use Rattle.std.proofs.lemmas.{List.drop_more, List.drop_all, List.append-nil, Bool.Decides.nat_tests}
use Rattle.cs_base.specs.declared.fault.ScoreKind.{ScoreKind}
use Rattle.cs_base.specs.declared.fault.ScoreKind.TheVariants.{BadNumber, MissingField}
use Rattle.cs_score.specs.{declared.field.Signed.Signed, declared.field.Field.Field, Fields.number_of}
use Rattle.cs_score.specs.declared.field.Field.TheVariants.{Number}
use Rattle.cs_score.specs.{Carry.and_then, Notes.zero, inner.State.Answers}
use Rattle.cs_score.specs.declared.statement_fault.StatementFault.{StatementFault}
use Rattle.cs_score.specs.declared.statement.TempoPoint.{TempoPoint}
use Rattle.cs_score.specs.Ranges.{beats_end, AreRising, AreTempoPoints}
use Rattle.cs_score.specs.Statements.{follows, as_beat, as_tempo, points_of}
use Rattle.cs_score.specs.declared.statement_fault.StatementFault.TheVariants as fault

-- the fault that was found is the definition's fault
pub kind_is : {A : Type 0} → (r : Result A StatementFault) (meant : Result A ScoreKind) (k : ScoreKind)
    → IsErrAnd r (λ y. y ≡ fault.Kind k) → meant ≡ Err k → Answers r meant
kind_is (Ok x) meant k i e = elim i [ ]
kind_is (Err (fault.Kind g)) meant k i e = let same : g ≡ k = cc in e ∙ ap (λ x. Err x) (sym same)
kind_is (Err fault.OutOfMemory) meant k i e = tt

-- a reading that succeeded in two steps succeeded in each
pub and_then_ok : {A B E : Type 0} → (r : Result A E) (f : A → Result B E) (y : B) → and_then r f ≡ Ok y
    → (x : A) × (r ≡ Ok x) × (f x ≡ Ok y)
and_then_ok (Ok x) f y e = (x, refl, e)
and_then_ok (Err k) f y e = cc

-- two readings, of which the first succeeded
pub and_then_by : {A B E : Type 0} → (r : Result A E) (f : A → Result B E) (x : A) → r ≡ Ok x → and_then r f ≡ f x
and_then_by r f x e = ap (λ s. and_then s f) e

pub and_then_fault : {A B E : Type 0} → (r : Result A E) (f : A → Result B E) (k : E) → r ≡ Err k → and_then r f ≡ Err k
and_then_fault r f k e = ap (λ s. and_then s f) e

-- the value read beyond the end of a list
abbrev pub empty : Field
empty = Number zero

prepended : (points : List TempoPoint) (p : TempoPoint) (r : Result (List TempoPoint) ScoreKind)
    → and_then (and_then r (λ ps. Ok (p ∷ ps))) (λ ps. Ok (points ++ ps)) ≡ and_then r
    (λ ps. Ok ((points ++ p ∷ []) ++ ps))
prepended points p (Ok ps) = ap Ok (sym (append_assoc points (p ∷ []) ps))
prepended points p (Err k) = refl

abbrev pub point : ℕ → ℕ → TempoPoint
point beat tempo = record { beat = beat; tempo = tempo }

abbrev pub with_tempo : ℕ → List Field → ℕ → Result (List TempoPoint) ScoreKind
with_tempo beat fs tempo = and_then (points_of (Some beat) fs) (λ ps. Ok (point beat tempo ∷ ps))

abbrev pub with_beat : Field → List Field → ℕ → Result (List TempoPoint) ScoreKind
with_beat g fs beat = and_then (number_of BadNumber g) (λ m. and_then (as_tempo m) (with_tempo beat fs))

one_pair : (last : Option ℕ) (f g : Field) (fs : List Field) (n m : Signed) (beat tempo : ℕ)
    → number_of BadNumber f ≡ Ok n → as_beat last n ≡ Ok beat → number_of BadNumber g ≡ Ok m → as_tempo m ≡ Ok tempo
    → points_of last (f ∷ g ∷ fs) ≡ with_tempo beat fs tempo
one_pair last f g fs n m beat tempo a b c d =
    and_then_by (number_of BadNumber f) (λ n. and_then (as_beat last n) (with_beat g fs)) n a
    ∙ and_then_by (as_beat last n) (with_beat g fs) beat b
    ∙ and_then_by (number_of BadNumber g) (λ m. and_then (as_tempo m) (with_tempo beat fs)) m c
    ∙ and_then_by (as_tempo m) (with_tempo beat fs) tempo d

pub pair_split : (fs : List Field) (at : ℕ) → at + 1 < length fs
    → drop at fs ≡ get_or fs at empty ∷ get_or fs (at + 1) empty ∷ drop (at + 2) fs
pair_split fs at l =
    drop_more fs at empty (omega arith) ∙ ap (λ t. get_or fs at empty ∷ t) (drop_more fs (at + 1) empty l
    ∙ ap (λ n. get_or fs (at + 1) empty ∷ drop n fs) (let e : at + 1 + 1 ≡ at + 2 = omega arith in e))

pub pair_read : (fs : List Field) (at : ℕ) (last : Option ℕ) (points points' : List TempoPoint) (n m : Signed)
    (beat tempo : ℕ) (whole : Result (List TempoPoint) ScoreKind)
    → at + 1 < length fs → number_of BadNumber (get_or fs at empty) ≡ Ok n → as_beat last n ≡ Ok beat
    → number_of BadNumber (get_or fs (at + 1) empty) ≡ Ok m → as_tempo m ≡ Ok tempo
    → points' ≡ points ++ record { beat = beat; tempo = tempo } ∷ []
    → whole ≡ and_then (points_of last (drop at fs)) (λ ps. Ok (points ++ ps))
    → whole ≡ and_then (points_of (Some beat) (drop (at + 2) fs)) (λ ps. Ok (points' ++ ps))
pair_read fs at last points points' n m beat tempo whole l a b c d more read =
    let rest = drop (at + 2) fs in
    read ∙ ap (λ r. and_then r (λ ps. Ok (points ++ ps))) (ap (points_of last) (pair_split fs at l)
    ∙ one_pair last (get_or fs at empty) (get_or fs (at + 1) empty) rest n m beat tempo a b c d)
    ∙ prepended points (point beat tempo) (points_of (Some beat) rest)
    ∙ ap (λ p. and_then (points_of (Some beat) rest) (λ ps. Ok (p ++ ps))) (sym more)

-- ---- the ranges of points

beat_range : (last : Option ℕ) (n : Signed) (beat : ℕ) → as_beat last n ≡ Ok beat
    → (follows last beat ≡ true) × (beat < beats_end)
beat_range last n beat e = grind (arith, nat_tests)

tempo_range : (n : Signed) (tempo : ℕ) → as_tempo n ≡ Ok tempo → (1000000 ≤ tempo) × (tempo ≤ 60000000000)
tempo_range n tempo e = grind (arith, nat_tests)

-- ---- a fault in the beat of a pair

number_fault : (last : Option ℕ) (f : Field) (rest : List Field) (k : ScoreKind) → number_of BadNumber f ≡ Err k
    → points_of last (f ∷ rest) ≡ Err k
number_fault last f [] k e =
    and_then_fault (number_of BadNumber f) (λ n. and_then (as_beat last n) (λ _. Err MissingField)) k e
number_fault last f (g ∷ fs) k e =
    and_then_fault (number_of BadNumber f) (λ n. and_then (as_beat last n) (with_beat g fs)) k e

beat_fault : (last : Option ℕ) (f : Field) (rest : List Field) (n : Signed) (k : ScoreKind)
    → number_of BadNumber f ≡ Ok n → as_beat last n ≡ Err k → points_of last (f ∷ rest) ≡ Err k
beat_fault last f [] n k e g =
    and_then_by (number_of BadNumber f) (λ n. and_then (as_beat last n) (λ _. Err MissingField)) n e
    ∙ and_then_fault (as_beat last n) (λ _. Err MissingField) k g
beat_fault last f (h ∷ fs) n k e g =
    and_then_by (number_of BadNumber f) (λ n. and_then (as_beat last n) (with_beat h fs)) n e
    ∙ and_then_fault (as_beat last n) (with_beat h fs) k g

pub fault_read : (fs : List Field) (at : ℕ) (last : Option ℕ) (points : List TempoPoint) (k : ScoreKind)
    (whole : Result (List TempoPoint) ScoreKind)
    → at < length fs → points_of last (get_or fs at empty ∷ drop (at + 1) fs) ≡ Err k
    → whole ≡ and_then (points_of last (drop at fs)) (λ ps. Ok (points ++ ps)) → whole ≡ Err k
fault_read fs at last points k whole l e read =
    read ∙ ap (λ t. and_then (points_of last t) (λ ps. Ok (points ++ ps))) (drop_more fs at empty l)
    ∙ and_then_fault (points_of last (get_or fs at empty ∷ drop (at + 1) fs)) (λ ps. Ok (points ++ ps)) k e

pub number_fault_read : (fs : List Field) (at : ℕ) (last : Option ℕ) (points : List TempoPoint) (k : ScoreKind)
    (whole : Result (List TempoPoint) ScoreKind) → at < length fs → number_of BadNumber (get_or fs at empty) ≡ Err k
    → whole ≡ and_then (points_of last (drop at fs)) (λ ps. Ok (points ++ ps)) → whole ≡ Err k
number_fault_read fs at last points k whole l e read =
    fault_read fs at last points k whole l (number_fault last (get_or fs at empty) (drop (at + 1) fs) k e) read

pub beat_fault_read : (fs : List Field) (at : ℕ) (last : Option ℕ) (points : List TempoPoint) (n : Signed)
    (k : ScoreKind) (whole : Result (List TempoPoint) ScoreKind)
    → at < length fs → number_of BadNumber (get_or fs at empty) ≡ Ok n → as_beat last n ≡ Err k
    → whole ≡ and_then (points_of last (drop at fs)) (λ ps. Ok (points ++ ps)) → whole ≡ Err k
beat_fault_read fs at last points n k whole l e g read =
    fault_read fs at last points k whole l (beat_fault last (get_or fs at empty) (drop (at + 1) fs) n k e g) read

-- a beat without a tempo
pub odd_read : (fs : List Field) (at : ℕ) (last : Option ℕ) (points : List TempoPoint) (n : Signed) (beat : ℕ)
    (whole : Result (List TempoPoint) ScoreKind)
    → at < length fs → length fs ≤ at + 1 → number_of BadNumber (get_or fs at empty) ≡ Ok n → as_beat last n ≡ Ok beat
    → whole ≡ and_then (points_of last (drop at fs)) (λ ps. Ok (points ++ ps)) → whole ≡ Err MissingField
odd_read fs at last points n beat whole l m a b read =
    let f = get_or fs at empty in
    fault_read fs at last points MissingField whole l
    (ap (λ t. points_of last (f ∷ t)) (drop_all (at + 1) fs m)
    ∙ and_then_by (number_of BadNumber f) (λ n. and_then (as_beat last n) (λ _. Err MissingField)) n a
    ∙ and_then_by (as_beat last n) (λ _. Err MissingField) beat b) read

-- a fault in the tempo of a pair
pub tempo_fault_read : (fs : List Field) (at : ℕ) (last : Option ℕ) (points : List TempoPoint) (n : Signed) (beat : ℕ)
    (k : ScoreKind) (whole : Result (List TempoPoint) ScoreKind)
    → at + 1 < length fs → number_of BadNumber (get_or fs at empty) ≡ Ok n → as_beat last n ≡ Ok beat
    → with_beat (get_or fs (at + 1) empty) (drop (at + 2) fs) beat ≡ Err k
    → whole ≡ and_then (points_of last (drop at fs)) (λ ps. Ok (points ++ ps)) → whole ≡ Err k
tempo_fault_read fs at last points n beat k whole l a b e read =
    let g = get_or fs (at + 1) empty in
    let rest = drop (at + 2) fs in
    read ∙ ap (λ r. and_then r (λ ps. Ok (points ++ ps))) (ap (points_of last) (pair_split fs at l)
    ∙ and_then_by (number_of BadNumber (get_or fs at empty)) (λ n. and_then (as_beat last n) (with_beat g rest)) n a
    ∙ and_then_by (as_beat last n) (with_beat g rest) beat b ∙ e)

-- ---- all points

rising_by : (last beat tempo : ℕ) (rest ps : List TempoPoint) → point beat tempo ∷ rest ≡ ps → last ≤ beat
    → beat < beats_end → (1000000 ≤ tempo) × (tempo ≤ 60000000000) → AreRising beat rest → AreRising last ps
rising_by last beat tempo rest ps e l m t r =
    subst (AreRising last) e (l, record { beat = m; slow = t.0; fast = t.1 }, r)

tempo_by : (beat tempo : ℕ) (rest ps : List TempoPoint) → point beat tempo ∷ rest ≡ ps → beat ≡ 0 → beat < beats_end
    → (1000000 ≤ tempo) × (tempo ≤ 60000000000) → AreRising beat rest → AreTempoPoints ps
tempo_by beat tempo rest ps e z m t r =
    subst AreTempoPoints e (z, (omega arith, record { beat = m; slow = t.0; fast = t.1 }, r))

later_points : (last : ℕ) (fs : List Field) (ps : List TempoPoint) → points_of (Some last) fs ≡ Ok ps
    → AreRising last ps
later_points last [] ps e = subst (AreRising last) (let nil : [] ≡ ps = cc in nil) tt
later_points last (f ∷ []) ps e =
    let a = and_then_ok (number_of BadNumber f) (λ n. and_then (as_beat (Some last) n) (λ _. Err MissingField)) ps e in
    let b = and_then_ok (as_beat (Some last) a.0) (λ _. Err MissingField) ps a.2 in
    absurd (let wrong : Err MissingField ≡ Ok ps = b.2 in cc)
later_points last (f ∷ g ∷ fs) ps e =
    let a = and_then_ok (number_of BadNumber f) (λ n. and_then (as_beat (Some last) n) (with_beat g fs)) ps e in
    let b = and_then_ok (as_beat (Some last) a.0) (with_beat g fs) ps a.2 in
    let c = and_then_ok (number_of BadNumber g) (λ m. and_then (as_tempo m) (with_tempo b.0 fs)) ps b.2 in
    let d = and_then_ok (as_tempo c.0) (with_tempo b.0 fs) ps c.2 in
    let r = and_then_ok (points_of (Some b.0) fs) (λ ps. Ok (point b.0 d.0 ∷ ps)) ps d.2 in
    let all : point b.0 d.0 ∷ r.0 ≡ ps = cc in
    let beat = beat_range (Some last) a.0 b.0 b.1 in
    let tempo = tempo_range c.0 d.0 d.1 in
    rising_by last b.0 d.0 r.0 ps all (not_before last b.0 beat.0) beat.1 tempo (later_points b.0 fs r.0 r.1)
  where
    not_before : (m n : ℕ) → nat_le m n ≡ true → m ≤ n
    not_before m n h = grind (arith, nat_tests)

first_points : (fs : List Field) (ps : List TempoPoint) → 0 < length fs → points_of None fs ≡ Ok ps → AreTempoPoints ps
first_points [] ps l e = absurd (omega arith)
first_points (f ∷ []) ps l e =
    let a = and_then_ok (number_of BadNumber f) (λ n. and_then (as_beat None n) (λ _. Err MissingField)) ps e in
    let b = and_then_ok (as_beat None a.0) (λ _. Err MissingField) ps a.2 in
    absurd (let wrong : Err MissingField ≡ Ok ps = b.2 in cc)
first_points (f ∷ g ∷ fs) ps l e =
    let a = and_then_ok (number_of BadNumber f) (λ n. and_then (as_beat None n) (with_beat g fs)) ps e in
    let b = and_then_ok (as_beat None a.0) (with_beat g fs) ps a.2 in
    let c = and_then_ok (number_of BadNumber g) (λ m. and_then (as_tempo m) (with_tempo b.0 fs)) ps b.2 in
    let d = and_then_ok (as_tempo c.0) (with_tempo b.0 fs) ps c.2 in
    let r = and_then_ok (points_of (Some b.0) fs) (λ ps. Ok (point b.0 d.0 ∷ ps)) ps d.2 in
    let all : point b.0 d.0 ∷ r.0 ≡ ps = cc in
    let beat = beat_range None a.0 b.0 b.1 in
    let tempo = tempo_range c.0 d.0 d.1 in
    tempo_by b.0 d.0 r.0 ps all (at_start b.0 beat.0) beat.1 tempo (later_points b.0 fs r.0 r.1)
  where
    at_start : (n : ℕ) → (n == 0) ≡ true → n ≡ 0
    at_start n h = grind (arith, nat_tests)

pub all_points : (fs : List Field) (at : ℕ) (last : Option ℕ) (points : List TempoPoint) → 0 < length fs
    → length fs ≤ at
    → points_of None fs ≡ and_then (points_of last (drop at fs)) (λ ps. Ok (points ++ ps)) → AreTempoPoints points
all_points fs at last points some l read =
    first_points fs points some
    (read ∙ ap (λ t. and_then (points_of last t) (λ ps. Ok (points ++ ps))) (drop_all at fs l)
    ∙ ap Ok (append-nil points))
