-- The counts for the limits after one more statement.
use Rattle.std.proofs.Common.{◌≡◌, ℕ, ◌+◌, ◌≤◌, Bool, true, false, cond, ◌==◌, ◌||◌, Option, Some, None, List, [], ◌∷◌}
use Rattle.std.proofs.Common.{◌++◌, length, nat_lt, arith, refl, ap, sym, subst, ◌∙◌, ⊎_elim, append-nil, append_assoc}
use Rattle.std.proofs.Common.{if◌then◌else◌}
use Rattle.std.specs.{List.list_any, List.count_by, Option.is_some}
use Rattle.std.proofs.lemmas.{Bool.cases_Bool, Bool.Decides.nat_tests, List.length_push, List.Folds.list_any-append}
use Rattle.cs_base.specs.{declared.limit.Limit.Limit, declared.limit.LimitHit.LimitHit}
use Rattle.cs_base.proofs.Texts.{count_by-append}
use Rattle.cs_score.specs.{declared.kept.TableNumbers.TableNumbers, declared.kept.EventCount.EventCount}
use Rattle.cs_score.specs.{declared.statement.ScoreStmt.ScoreStmt, Limits.passes_events, Limits.passes_tables}
use Rattle.cs_score.specs.declared.kept.KeptStatements.{KeptStatements}
use Rattle.cs_score.specs.Limits.{at_statement, counts, different, first_at, is_counted, numbers_of, own_number}
use Rattle.cs_score.specs.inner.Counts.{HasCount, HasNumbers, Holds, IsSeen}
use Rattle.cs_base.specs.declared.limit.Limit.TheVariants as limit

-- ---- the first item that passes a test, after one more item

stays_by : {A : Type 0} (b : Bool) (x y : A) (now later : Option A) → (if b then Some y else now) ≡ Some x
    → (now ≡ Some x → later ≡ Some x) → (if b then Some y else later) ≡ Some x
stays_by true x y now later h more = h
stays_by false x y now later h more = more h

first_stays : {A : Type 0} (passes : List A → A → Bool) (before xs ys : List A) (x : A)
    → first_at passes before xs ≡ Some x → first_at passes before (xs ++ ys) ≡ Some x
unfolding first_at
first_stays passes before [] ys x h = absurd (cc)
first_stays passes before (y ∷ xs) ys x h =
    stays_by (passes (before ++ y ∷ []) y) x y (first_at passes (before ++ y ∷ []) xs)
    (first_at passes (before ++ y ∷ []) (xs ++ ys)) h (first_stays passes (before ++ y ∷ []) xs ys x)

more_by : {A : Type 0} (b : Bool) (y : A) (now later other : Option A) → (if b then Some y else now) ≡ None
    → (now ≡ None → later ≡ other) → (if b then Some y else later) ≡ other
more_by true y now later other h more = absurd (cc)
more_by false y now later other h more = more h

first_more : {A : Type 0} (passes : List A → A → Bool) (before xs : List A) (x : A) → first_at passes before xs ≡ None
    → first_at passes before (xs ++ x ∷ []) ≡ (if passes (before ++ (xs ++ x ∷ [])) x then Some x else None)
unfolding first_at
first_more passes before [] x h = refl
first_more passes before (y ∷ xs) x h =
    more_by (passes (before ++ y ∷ []) y) y (first_at passes (before ++ y ∷ []) xs)
    (first_at passes (before ++ y ∷ []) (xs ++ x ∷ []))
    (if passes (before ++ y ∷ (xs ++ x ∷ [])) x then Some x else None) h
    (λ none. first_more passes (before ++ y ∷ []) xs x none
    ∙ ap (λ l. if passes l x then Some x else None) (append_assoc before (y ∷ []) (xs ++ x ∷ [])))

-- the first limit hit stays the first
hit_stays : (which : Limit) (passes : List ScoreStmt → ScoreStmt → Bool) (all : List ScoreStmt) (s : ScoreStmt)
    (h : LimitHit) → Some h ≡ at_statement which (first_at passes [] all)
    → Some h ≡ at_statement which (first_at passes [] (all ++ s ∷ []))
hit_stays which passes all s h e = by_first (first_at passes [] all) refl e
  where
    by_first : (o : Option ScoreStmt) → first_at passes [] all ≡ o → Some h ≡ at_statement which o
        → Some h ≡ at_statement which (first_at passes [] (all ++ s ∷ []))
    by_first None e h = absurd (cc)
    by_first (Some x) e h = h ∙ ap (at_statement which) (sym (first_stays passes [] all (s ∷ []) x e))

none_first : (which : Limit) (o : Option ScoreStmt) → None ≡ at_statement which o → o ≡ None
none_first which None h = refl
none_first which (Some x) h = absurd (cc)

-- one more statement, if no limit was hit before
hit_more : (which : Limit) (passes : List ScoreStmt → ScoreStmt → Bool) (all : List ScoreStmt) (s : ScoreStmt)
    (b : Bool) → None ≡ at_statement which (first_at passes [] all) → b ≡ passes (all ++ s ∷ []) s →
    (if b then Some (record { limit = which; line = s.line }) else None) ≡ at_statement which
    (first_at passes [] (all ++ s ∷ []))
hit_more which passes all s b e t =
    at b ∙ ap (λ b. at_statement which (if b then Some s else None)) t
    ∙ ap (at_statement which) (sym (first_more passes [] all s (none_first which (first_at passes [] all) e)))
  where
    at : (b : Bool) → (if b then Some (record { limit = which; line = s.line }) else None) ≡ at_statement which
        (if b then Some s else None)
    at true = refl
    at false = refl

-- ---- table numbers

-- the number of different numbers after one more
one_more : (a b c : Bool) (d : ℕ) → (b ≡ true → a ≡ c) →
    cond (a || b) (d + cond c 0 1) (d + cond c 0 1 + 1) ≡ cond a d (d + 1) + cond (b || c) 0 1
one_more true true true d h = omega arith
one_more true true false d h = absurd (let e = h refl in cc)
one_more true false true d h = omega arith
one_more true false false d h = omega arith
one_more false true true d h = absurd (let e = h refl in cc)
one_more false true false d h = omega arith
one_more false false true d h = omega arith
one_more false false false d h = omega arith

same_any : (n m : ℕ) (xs : List ℕ) → (n == m) ≡ true → list_any (λ k. k == n) xs ≡ list_any (λ k. k == m) xs
same_any n m xs h = let e : n ≡ m = grind (arith, nat_tests) in ap (λ j. list_any (λ k. k == j) xs) e

or_false : (b : Bool) → (b || false) ≡ b
or_false true = refl
or_false false = refl

flipped : (m n : ℕ) → (m == n) ≡ (n == m)
flipped m n = grind (arith, nat_tests)

any_push : (xs : List ℕ) (m n : ℕ) → list_any (λ k. k == n) (xs ++ m ∷ []) ≡ (list_any (λ k. k == n) xs || (m == n))
any_push xs m n = list_any-append (λ k. k == n) xs (m ∷ [])
    ∙ ap (λ b. list_any (λ k. k == n) xs || b) (or_false (m == n))

counted_so : (b : Bool) (d e : ℕ) (b' : Bool) (d' : ℕ) → b ≡ b' → d ≡ d' → cond b d (d + 1) ≡ cond b' d' (d' + 1)
counted_so b d e b' d' p q = ap (λ x. cond x d (d + 1)) p ∙ ap (λ x. cond b' x (x + 1)) q

pub different_push : (xs : List ℕ) (m : ℕ)
    → different (xs ++ m ∷ []) ≡ different xs + cond (list_any (λ k. k == m) xs) 0 1
unfolding different
different_push [] m = refl
different_push (n ∷ xs) m =
    counted_so _ _ 0 (list_any (λ k. k == n) xs || (n == m)) (different xs + cond (list_any (λ k. k == m) xs) 0 1)
    (any_push xs m n ∙ ap (λ b. list_any (λ k. k == n) xs || b) (flipped m n)) (different_push xs m)
    ∙ one_more (list_any (λ k. k == n) xs) (n == m) (list_any (λ k. k == m) xs) (different xs) (same_any n m xs)

-- one more number, which was seen before or wasn't
or_true : (b : Bool) → (b || true) ≡ true
or_true true = refl
or_true false = refl

known_any : (xs : List ℕ) (m n : ℕ) → list_any (λ k. k == m) xs ≡ true
    → (list_any (λ k. k == n) xs || (m == n)) ≡ list_any (λ k. k == n) xs
known_any xs m n h =
    ⊎_elim
    (λ t. rw t (or_true _ ∙ sym (sym (same_any m n xs t) ∙ h)))
    (λ f. rw f (or_false _)) (cases_Bool (m == n))

pub seen_again : (seen numbers : List ℕ) (m : ℕ) → list_any (λ k. k == m) seen ≡ true → IsSeen seen numbers
    → IsSeen seen (numbers ++ m ∷ [])
seen_again seen numbers m h s =
    let known : list_any (λ k. k == m) numbers ≡ true = sym (s.each m) ∙ h in
    record {
      each = λ n. s.each n ∙ sym (known_any numbers m n known) ∙ sym (any_push numbers m n);
      count = omega (arith, s.count, different_push numbers m, ap {B = ℕ} (λ b. cond b 0 1) known);
    }

pub seen_new : (seen numbers : List ℕ) (m : ℕ) → list_any (λ k. k == m) seen ≡ false → IsSeen seen numbers
    → IsSeen (seen ++ m ∷ []) (numbers ++ m ∷ [])
seen_new seen numbers m h s =
    let known : list_any (λ k. k == m) numbers ≡ false = sym (s.each m) ∙ h in
    record {
      each = λ n. any_push seen m n ∙ ap (λ b. b || (m == n)) (s.each n) ∙ sym (any_push numbers m n);
      count = omega (arith, s.count, length_push seen m, different_push numbers m, ap {B = ℕ} (λ b. cond b 0 1) known);
    }

pub numbers_push : (xs : List ScoreStmt) (s : ScoreStmt)
    → numbers_of xs ++ own_number s.what ≡ numbers_of (xs ++ s ∷ [])
unfolding numbers_of
numbers_push [] s = sym (append-nil (own_number s.what))
numbers_push (x ∷ xs) s =
    append_assoc (own_number x.what) (numbers_of xs) (own_number s.what)
    ∙ ap (λ r. own_number x.what ++ r) (numbers_push xs s)

-- ---- the counts of no statement, of one more, and after a limit hit

some_of : (o : Option LimitHit) → is_some o ≡ true → (h : LimitHit) × (o ≡ Some h)
some_of None e = absurd (let wrong : false ≡ true = e in cc)
some_of (Some h) e = (h, refl)

pub none_of : (o : Option LimitHit) → is_some o ≡ false → o ≡ None
none_of None e = refl
none_of (Some h) e = absurd (let wrong : true ≡ false = e in cc)

no_hit : (b : Bool) (h : LimitHit) → (if b then Some h else None) ≡ None → b ≡ false
no_hit true h e = absurd (cc)
no_hit false h e = refl

is_few : (limit n : ℕ) → nat_lt limit n ≡ false → n ≤ limit
is_few limit n h = grind (arith, nat_tests)

pub no_numbers : (tables : TableNumbers) → tables.seen.items ≡ [] → tables.hit ≡ None → HasNumbers [] tables
unfolding first_at numbers_of different
no_numbers tables e h = record {
  hit = h;
  seen = λ _. record { each = λ m. ap (list_any (λ n. n == m)) e; count = ap length e };
}

pub no_count : (events : EventCount) → events.count ≡ 0 → events.hit ≡ None → HasCount [] events
unfolding first_at
no_count events e h = record { hit = h; count = λ _. e; few = λ _. omega (arith, e) }

pub numbers_stay : (all : List ScoreStmt) (s : ScoreStmt) (tables : TableNumbers) → is_some tables.hit ≡ true
    → HasNumbers all tables → HasNumbers (all ++ s ∷ []) tables
numbers_stay all s tables e n =
    let some = some_of tables.hit e in
    record {
      hit = some.1 ∙ hit_stays limit.Tables passes_tables all s some.0 (sym some.1 ∙ n.hit);
      seen = λ none. absurd (let wrong : Some some.0 ≡ None = sym some.1 ∙ none in cc);
    }

pub count_stays : (all : List ScoreStmt) (s : ScoreStmt) (events : EventCount) → is_some events.hit ≡ true
    → HasCount all events → HasCount (all ++ s ∷ []) events
count_stays all s events e n =
    let some = some_of events.hit e in
    record {
      hit = some.1 ∙ hit_stays limit.Events passes_events all s some.0 (sym some.1 ∙ n.hit);
      count = λ none. absurd (let wrong : Some some.0 ≡ None = sym some.1 ∙ none in cc);
      few = λ none. absurd (let wrong : Some some.0 ≡ None = sym some.1 ∙ none in cc);
    }

pub numbers_more : (all : List ScoreStmt) (s : ScoreStmt) (tables next : TableNumbers) (n : ℕ)
    → is_some tables.hit ≡ false → HasNumbers all tables →
    IsSeen next.seen.items (numbers_of all ++ own_number s.what) → n ≡ length next.seen.items →
    next.hit ≡ (if nat_lt 300 n then Some (record { limit = limit.Tables; line = s.line }) else None)
    → HasNumbers (all ++ s ∷ []) next
numbers_more all s tables next n e before seen len hit =
    let none = none_of tables.hit e in
    let now = subst (IsSeen next.seen.items) (numbers_push all s) seen in
    let test : nat_lt 300 n ≡ passes_tables (all ++ s ∷ []) s = ap (nat_lt 300) (len ∙ now.count) in
    record {
      hit = hit ∙ hit_more limit.Tables passes_tables all s (nat_lt 300 n) (sym none ∙ before.hit) test;
      seen = λ _. now;
    }

count_push : (all : List ScoreStmt) (s : ScoreStmt)
    → count_by counts (all ++ s ∷ []) ≡ count_by counts all + cond (is_counted s.what) 1 0
count_push all s = omega (arith, count_by-append counts all (s ∷ []))

pub one_at_most : (b : Bool) → cond b 1 0 ≤ 1
one_at_most true = omega arith
one_at_most false = omega arith

pub count_more : (all : List ScoreStmt) (s : ScoreStmt) (events next : EventCount) → is_some events.hit ≡ false
    → HasCount all events → (events.count ≤ 100000 → next.count ≡ events.count + cond (is_counted s.what) 1 0) →
    next.hit ≡ (if nat_lt 100000 next.count then Some (record { limit = limit.Events; line = s.line }) else None)
    → HasCount (all ++ s ∷ []) next
count_more all s events next e before add hit =
    let none = none_of events.hit e in
    let now : next.count ≡ count_by counts (all ++ s ∷ []) =
    omega (arith, add (before.few none), before.count none, count_push all s) in
    let test : nat_lt 100000 next.count ≡ passes_events (all ++ s ∷ []) s = ap (nat_lt 100000) now in
    record {
      hit = hit ∙ hit_more limit.Events passes_events all s (nat_lt 100000 next.count) (sym none ∙ before.hit) test;
      count = λ _. now;
      few = λ h. is_few 100000 next.count
          (no_hit (nat_lt 100000 next.count) (record { limit = limit.Events; line = s.line }) (sym hit ∙ h));
    }

-- ---- the stored statements

-- if no limit is hit after one more statement, none was hit before
none_before : (which : Limit) (passes : List ScoreStmt → ScoreStmt → Bool) (all : List ScoreStmt) (s : ScoreStmt) →
    None ≡ at_statement which (first_at passes [] (all ++ s ∷ [])) → at_statement which (first_at passes [] all) ≡ None
none_before which passes all s e = by_first (first_at passes [] all) refl
  where
    by_first : (o : Option ScoreStmt) → first_at passes [] all ≡ o → at_statement which o ≡ None
    by_first None h = refl
    by_first (Some x) h = absurd
        (let wrong = e ∙ ap (at_statement which) (first_stays passes [] all (s ∷ []) x h) in cc)

pub kept_more : (all : List ScoreStmt) (s : ScoreStmt) (kept next : KeptStatements) → Holds all kept
    → HasNumbers (all ++ s ∷ []) next.tables → HasCount (all ++ s ∷ []) next.events →
    next.statements ≡ kept.statements ++ s ∷ [] → Holds (all ++ s ∷ []) next
kept_more all s kept next before tables events pushed = record {
  tables = tables;
  events = events;
  all_kept = λ t e.
      let t' = before.tables.hit ∙ none_before limit.Tables passes_tables all s (sym t ∙ tables.hit) in
      let e' = before.events.hit ∙ none_before limit.Events passes_events all s (sym e ∙ events.hit) in
      pushed ∙ ap (λ xs. xs ++ s ∷ []) (before.all_kept t' e');
}
