-- The plot of a score within all limits can be performed.
use Rattle.std.proofs.Common.{◌≡◌, ℕ, zero, suc, ◌+◌, ◌<◌, ◌≤◌, ◌&&◌, nat_le, nat_lt, Bool, true, false, cond, List, []}
use Rattle.std.proofs.Common.{◌∷◌, ◌++◌, length, map, sum, take, get_or, Option, Some, None, IfOk, OnOk, Result, Ok}
use Rattle.std.proofs.Common.{Err, refl, ap, sym, subst, ◌∙◌, arith, append_assoc, add-one, if◌then◌else◌, ⊎_elim}
use Rattle.std.specs.List.{All, AllByRecursion as Each, count_by}
use Rattle.std.specs.{List.Sorted.IsNonDecreasingBy, Ordering.is_lt}
use Rattle.std.proofs.lemmas.{Bool.cases_Bool, Bool.Decides.nat_tests, List.length-append, List.take_all}
use Rattle.std.proofs.lemmas.List.Sums.{sum_by-cons, sum_by_more}
use Rattle.std.proofs.lemmas.List.Elements.{All-from_recursion, recursion_from_All}
use Rattle.cs_base.proofs.Tests.{both_none}
use Rattle.cs_base.specs.{Limits.most_events, declared.fault.Or.Or, declared.head.Head.Head, declared.limit.Limit.Limit}
use Rattle.cs_base.specs.declared.limit.LimitHit.{LimitHit}
use Rattle.cs_score.specs.{declared.statement.ScoreStmt.ScoreStmt, Ranges.HasRange, Ranges.IsInRange}
use Rattle.cs_score.specs.declared.statement.ScoreWhat.{ScoreWhat}
use Rattle.cs_score.specs.declared.statement.ScoreWhat.TheVariants.{Note, Hold, Table, Tempo, Section}
use Rattle.cs_score.specs.Limits.{at_statement, counts, first_at, is_counted, passes_events, passes_tables}
use Rattle.cs_tempo.specs.{declared.plot.Event.Event, declared.plot.EventAct.EventAct, declared.plot.Plot.Plot}
use Rattle.cs_tempo.specs.{Pairing.stop_of, Performable.IsActInRange, Performable.IsPerformable}
use Rattle.cs_tempo.specs.Limits.{cycles_in, is_active, limit_of, passes_notes}
use Rattle.cs_tempo.specs.Order.{has_turn, in_order, order_of, put}
use Rattle.cs_tempo.specs.Plot.{SectionSetting, acts_of, events_along, events_from, plot_of, setting_of}
use Rattle.cs_tempo.specs.Sections.{at_front, ends_section, length_of, sections_of}
use Rattle.cs_tempo.proofs.Climbs.{climb_far, from_climbs, from_within, one_act, sections_in_range}
use Rattle.cs_tempo.proofs.Shorts.{bytes_within, counts_within, notes_within}
use Rattle.cs_tempo.proofs.Elements.{each_append, each_more, in_order_each}
use Rattle.cs_base.specs.declared.limit.Limit.TheVariants as limit

-- ---- a test that no item of a list passes

one_not : {A : Type 0} (b : Bool) (x : A) (o : Option A) → (if b then Some x else o) ≡ None → (b ≡ false) × (o ≡ None)
one_not true x o e = absurd (cc)
one_not false x o e = (refl, e)

none_passes : {A : Type 0} (passes : List A → A → Bool) (before xs : List A) → first_at passes before xs ≡ None
    → (i : ℕ) (d : A) → i < length xs → passes (before ++ take (suc i) xs) (get_or xs i d) ≡ false
unfolding first_at
none_passes passes before [] e i d lt = absurd (omega arith)
none_passes passes before (x ∷ xs) e zero d lt =
    (one_not (passes (before ++ x ∷ []) x) x (first_at passes (before ++ x ∷ []) xs) e).0
none_passes passes before (x ∷ xs) e (suc i) d lt =
    ap (λ (l : List _). passes l (get_or xs i d)) (sym (append_assoc before (x ∷ []) (take (suc i) xs)))
    ∙ none_passes passes (before ++ x ∷ []) xs
    (one_not (passes (before ++ x ∷ []) x) x (first_at passes (before ++ x ∷ []) xs) e).1 i d (omega arith)

not_more : (m n : ℕ) → nat_lt m n ≡ false → n ≤ m
not_more m n e = grind (arith, nat_tests)

-- ---- the notes of a cycle

-- each event's cycle is at most the cycle of every later event
abbrev InOrder : List Event → Type 0
InOrder [] = Unit {0}
InOrder (e ∷ later) = Each (λ f. e.cycle ≤ f.cycle) later × InOrder later

ordered : (events : List Event) → IsNonDecreasingBy (λ (e : Event). e.cycle) events → InOrder events
ordered [] h = tt
ordered (e ∷ events) h = (
  recursion_from_All (λ f. e.cycle ≤ f.cycle) events (λ k d lt. h 0 (suc k) d (omega arith) (omega arith)),
  ordered events (λ i j d up lt. h (suc i) (suc j) d (omega arith) (omega arith)),
)

all_before : (xs : List Event) (n : ℕ) (d : Event) → InOrder xs → n < length xs
    → Each (λ e. e.cycle ≤ (get_or xs n d).cycle) (take (suc n) xs)
all_before [] n d order lt = absurd (omega arith)
all_before (x ∷ xs) zero d order lt = (omega arith, tt)
all_before (x ∷ xs) (suc n) d order lt =
    (All-from_recursion (λ f. x.cycle ≤ f.cycle) xs order.0 n d (omega arith), all_before xs n d order.1 (omega arith))

active_then : (c m : ℕ) (e : Event) → m ≤ c → e.cycle ≤ m → is_active c e ≡ true → is_active m e ≡ true
active_then c m e h k active = by e.cycle (e.cycle + cycles_in e.act) k active
  where
    by : (s end : ℕ) → s ≤ m → (nat_le s c && nat_lt c end) ≡ true → (nat_le s m && nat_lt m end) ≡ true
    by s end k active = grind (arith, nat_tests)

since_active : (s c end : ℕ) → (nat_le s c && nat_lt c end) ≡ true → s ≤ c
since_active s c end active = grind (arith, nat_tests)

one_le : (p q : Bool) → (p ≡ true → q ≡ true) → cond p 1 0 ≤ cond q 1 0
one_le true true h = omega arith
one_le true false h = absurd (let no_test : ◌≡◌ {A = Bool} false true = h refl in cc)
one_le false q h = omega arith

count_le : {X : Type 0} (p q : X → Bool) (xs : List X) → Each (λ x. p x ≡ true → q x ≡ true) xs
    → count_by p xs ≤ count_by q xs
count_le p q [] all = omega arith
count_le p q (x ∷ xs) all =
    omega (
      arith,
      sum_by-cons (λ y. cond (p y) 1 0) x xs,
      sum_by-cons (λ y. cond (q y) 1 0) x xs,
      one_le (p x) (q x) all.0,
      count_le p q xs all.1,
    )

-- if a further note is active, it is counted at its start
few_more : (c n : ℕ) (xs : List Event) (d : Event) → InOrder xs → n < length xs
    → nat_lt 512 (count_by (is_active (get_or xs n d).cycle) (take (suc n) xs)) ≡ false
    → (b : Bool) → is_active c (get_or xs n d) ≡ b → count_by (is_active c) (take n xs) ≤ 512
    → count_by (is_active c) (take (suc n) xs) ≤ 512
few_more c n xs d order lt passed true e before =
    let m = (get_or xs n d).cycle in
    let since : m ≤ c = since_active m c (m + cycles_in (get_or xs n d).act) e in
    let all : Each (λ f. f.cycle ≤ m) (take (suc n) xs) = all_before xs n d order lt in
    let all' = each_more (λ f. f.cycle ≤ m) (λ f. is_active c f ≡ true → is_active m f ≡ true) (take (suc n) xs)
    (λ f k. active_then c m f since k) all in
    let few : count_by (is_active m) (take (suc n) xs) ≤ 512 =
    not_more 512 (count_by (is_active m) (take (suc n) xs)) passed in
    omega (arith, few, count_le (is_active c) (is_active m) (take (suc n) xs) all')
few_more c n xs d order lt passed false e before =
    let P : ℕ → Type 0 = λ k. count_by (is_active c) (take k xs) ≤ 512 in
    subst P (add-one n) (rw (sum_by_more (λ f. cond (is_active c f) 1 0) xs n d lt, e)
    (let same : count_by (is_active c) (take n xs) + 0 ≤ 512 = omega arith in same))

few_upto : (c : ℕ) (xs : List Event) (d : Event) → InOrder xs → first_at passes_notes [] xs ≡ None → (n : ℕ)
    → n ≤ length xs → count_by (is_active c) (take n xs) ≤ 512
few_upto c xs d order none zero h = omega arith
few_upto c xs d order none (suc n) h =
    few_more c n xs d order (omega arith) (none_passes passes_notes [] xs none n d (omega arith))
    (is_active c (get_or xs n d)) refl (few_upto c xs d order none n (omega arith))

few_active : (c : ℕ) (xs : List Event) → InOrder xs → first_at passes_notes [] xs ≡ None
    → count_by (is_active c) xs ≤ 512
few_active c [] order none = omega arith
few_active c (x ∷ xs) order none =
    let P : List Event → Type 0 = λ l. count_by (is_active c) l ≤ 512 in
    subst P (take_all (length (x ∷ xs)) (x ∷ xs) (omega arith))
    (few_upto c (x ∷ xs) x order none (length (x ∷ xs)) (omega arith))

-- ---- at most as many events as statements

counts_few : (score : List ScoreStmt) → first_at passes_events [] score ≡ None → count_by counts score ≤ most_events
counts_few [] none = omega arith
counts_few (s ∷ later) none =
    let whole : take (suc (length later)) (s ∷ later) ≡ s ∷ later =
    take_all (suc (length later)) (s ∷ later) (omega arith) in
    not_more most_events (count_by counts (s ∷ later)) (ap (λ l. nat_lt most_events (count_by counts l)) (sym whole)
    ∙ none_passes passes_events [] (s ∷ later) none (length later) s (omega arith))

along_few : (set : SectionSetting) (earlier ss : List ScoreStmt) → length (events_along set earlier ss) ≤ length ss
unfolding events_along
along_few set earlier [] = omega arith
along_few set earlier (s ∷ ss) =
    let more = along_few set (s ∷ earlier) ss in
    ⊎_elim
    (λ e. rw e (omega (arith, more)))
    (λ e. rw e.1 (omega (arith, more))) (one_act set (stop_of earlier ss s) s.what)

put_longer : (s : ScoreStmt) (us : List ScoreStmt) → length (put s us) ≡ suc (length us)
unfolding put
put_longer s [] = refl
put_longer s (u ∷ us) =
    ⊎_elim (λ t. rw t (ap suc (put_longer s us))) (λ f. rw f refl) (cases_Bool (is_lt (order_of u.what s.what)))

turn_counts : (w : ScoreWhat) → has_turn w ≡ true → is_counted w ≡ true
turn_counts (Tempo points) h = h
turn_counts Section h = h
turn_counts _ h = refl

order_few : (section : List ScoreStmt) → length (in_order section) ≤ count_by counts section
unfolding in_order
order_few [] = omega arith
order_few (s ∷ later) =
    let more = order_few later in
    let one = sum_by-cons (λ u. cond (counts u) 1 0) s later in
    ⊎_elim
    (λ t. rw t (omega (
      arith,
      put_longer s (in_order later),
      more,
      one,
      ap {B = ℕ} (λ b. cond b 1 0) (turn_counts s.what t),
    )))
    (λ f. rw f (omega (arith, more, one))) (cases_Bool (has_turn s.what))

abbrev counted_in : List (List ScoreStmt) → ℕ
counted_in sections = sum (map (count_by counts) sections)

from_few : (head : Head) (offset : ℕ) (sections : List (List ScoreStmt))
    → length (events_from head offset sections) ≤ counted_in sections
unfolding events_from
from_few head offset [] = omega arith
from_few head offset (section ∷ others) =
    let set : SectionSetting = setting_of head offset section in
    omega (
      arith,
      length-append (events_along set [] (in_order section))
          (events_from head (offset + length_of head section) others),
      along_few set [] (in_order section),
      order_few section,
      from_few head (offset + length_of head section) others,
      sum_by-cons (λ (n : ℕ). n) (count_by counts section) (map (count_by counts) others),
    )

front_counts : (s : ScoreStmt) (sections : List (List ScoreStmt))
    → counted_in (at_front s sections) ≡ cond (counts s) 1 0 + counted_in sections
front_counts s [] = omega arith
front_counts s (first ∷ others) =
    omega (
      arith,
      sum_by-cons (λ u. cond (counts u) 1 0) s first,
      sum_by-cons (λ (n : ℕ). n) (count_by counts (s ∷ first)) (map (count_by counts) others),
      sum_by-cons (λ (n : ℕ). n) (count_by counts first) (map (count_by counts) others),
    )

sections_count : (score : List ScoreStmt) → counted_in (sections_of score) ≤ count_by counts score
unfolding sections_of
sections_count [] = omega arith
sections_count (s ∷ later) =
    let more = sections_count later in
    let one = sum_by-cons (λ u. cond (counts u) 1 0) s later in
    ⊎_elim
    (λ t. rw t (omega (
      arith,
      more,
      one,
      sum_by-cons (λ (n : ℕ). n) (count_by counts []) (map (count_by counts) (sections_of later)),
    )))
    (λ f. rw f (omega (arith, more, one, front_counts s (sections_of later)))) (cases_Bool (ends_section s.what))

-- ---- the actions of events

one_is : {x y : EventAct} → x ∷ [] ≡ y ∷ [] → x ≡ y
one_is e = cc

act_in_range : (set : SectionSetting) (stop : Option ℕ) (w : ScoreWhat) (a : EventAct) → HasRange w
    → acts_of set stop w ≡ a ∷ [] → IsActInRange a
unfolding acts_of
act_in_range set stop (Note instr at len more) a r e =
    subst IsActInRange (one_is e) (r.0, omega arith, omega (arith, r.2), refl)
act_in_range set stop (Hold instr at given more) a r e =
    subst IsActInRange (one_is e) (r.0, omega arith, omega (arith, r.3), refl)
act_in_range set stop (Table number at size gen args) a r e = subst IsActInRange (one_is e) (r.0, r.2)
act_in_range set stop _ a r e = absurd (cc)

along_in_range : (set : SectionSetting) (earlier ss : List ScoreStmt) → Each IsInRange ss
    → Each (λ (e : Event). IsActInRange e.act) (events_along set earlier ss)
unfolding events_along
along_in_range set earlier [] r = tt
along_in_range set earlier (s ∷ ss) r =
    ⊎_elim
    (λ e. rw e (along_in_range set (s ∷ earlier) ss r.1))
    (λ e. rw e.1 (act_in_range set (stop_of earlier ss s) s.what e.0 r.0 e.1, along_in_range set (s ∷ earlier) ss r.1))
    (one_act set (stop_of earlier ss s) s.what)

from_in_range : (head : Head) (offset : ℕ) (sections : List (List ScoreStmt)) → Each (All IsInRange) sections
    → Each (λ (e : Event). IsActInRange e.act) (events_from head offset sections)
unfolding events_from
from_in_range head offset [] r = tt
from_in_range head offset (section ∷ others) r =
    each_append _ _ _ (along_in_range (setting_of head offset section) [] (in_order section)
    (in_order_each IsInRange section (recursion_from_All IsInRange section r.0)))
    (from_in_range head (offset + length_of head section) others r.1)

-- ---- the plot

no_statement : (which : Limit) (o : Option ScoreStmt) → at_statement which o ≡ None → o ≡ None
no_statement which None e = refl
no_statement which (Some s) e = absurd (cc)

pub performable : (head : Head) (score : List ScoreStmt) → All IsInRange score → limit_of head score ≡ None
    → IsPerformable head (plot_of head score)
performable head score r h =
    let events = events_from head 0 (sections_of score) in
    let sections = sections_in_range score r in
    let rises = climb_far 0 _ (from_climbs head 0 (sections_of score) sections) in
    let none = no_statement limit.Events (first_at passes_events [] score)
    (both_none (at_statement limit.Tables (first_at passes_tables [] score)) _ (counts_within head score h)).1 in
    record {
      bytes = bytes_within head score h;
      in_order = rises;
      count = omega (arith, from_few head 0 (sections_of score), sections_count score, counts_few score none);
      few = λ c. few_active c events (ordered events rises) (notes_within head score h);
      within = λ k d some. omega (
        arith,
        All-from_recursion
            (λ (e : Event). e.cycle + cycles_in e.act ≤ 0 + sum (map (length_of head) (sections_of score))) _
            (from_within head 0 (sections_of score) sections) k d some,
      );
      each = All-from_recursion (λ (e : Event). IsActInRange e.act) events
          (from_in_range head 0 (sections_of score) sections);
    }

pub performable_if : (head : Head) (score : List ScoreStmt) (r : Result Plot (Or LimitHit)) → All IsInRange score →
    IfOk r (λ plot. plot ≡ plot_of head score) → OnOk r (limit_of head score ≡ None) → IfOk r (IsPerformable head)
performable_if head score (Ok plot) ranges e h = subst (IsPerformable head) (sym e) (performable head score ranges h)
performable_if head score (Err e) ranges p h = tt
