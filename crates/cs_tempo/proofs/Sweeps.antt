-- Active notes are counted as started notes minus ended notes.
use Rattle.std.proofs.Common.{◌≡◌, ℕ, ◌+◌, ◌<◌, ◌≤◌, Bool, true, false, cond, not, ◌==◌, ◌&&◌, nat_le, nat_lt, List, []}
use Rattle.std.proofs.Common.{◌∷◌, ◌++◌, length, get_or, drop, take, arith, refl, ap, sym, ◌∙◌, subst, append_assoc}
use Rattle.std.proofs.Common.{append-nil, zero-add}
use Rattle.std.specs.List.{AllByRecursion as Each, count_by}
use Rattle.std.specs.List.Sorted.{IsNonDecreasingBy, IsNonDecreasing, IsPermutation}
use Rattle.std.proofs.lemmas.{Bool.Decides.nat_tests, List.Sorted.sum_by-IsPermutation}
use Rattle.std.proofs.lemmas.List.{take_more, get_or-take, get_or-drop, get_or_default, length-take, length-drop}
use Rattle.std.proofs.lemmas.List.Sums.{sum_by-cons, sum_by-append, sum_by-take-drop}
use Rattle.std.proofs.lemmas.List.Elements.{recursion_from_All}
use Rattle.cs_tempo.specs.{declared.plot.Event.Event, Limits.cycles_in, Limits.is_active}
use Rattle.cs_tempo.specs.inner.Sweep.{is_note, own_end, ends_of, HaveEnded}
use Rattle.cs_tempo.proofs.Firsts.{count_more}

abbrev has_ended : ℕ → Event → Bool
has_ended c e = is_note e && nat_le (e.cycle + cycles_in e.act) c

-- one note that starts at cycle t and lasts n cycles
one_counted : (t n c : ℕ) → t ≤ c
    → cond (nat_le t c && nat_lt c (t + n)) 1 0 + cond (not (n == 0) && nat_le (t + n) c) 1 0 ≡ cond (not (n == 0)) 1 0
one_counted t n c h = grind (arith, nat_tests)

one_later : (t n c : ℕ) → c ≤ t → cond {A = ℕ} (not (n == 0) && nat_le (t + n) c) 1 0 ≡ 0
one_later t n c h = grind (arith, nat_tests)

all_counted : (c : ℕ) (xs : List Event) → Each (λ e. e.cycle ≤ c) xs
    → count_by (is_active c) xs + count_by (has_ended c) xs ≡ count_by is_note xs
all_counted c [] e = refl
all_counted c (x ∷ xs) e =
    omega (
      arith,
      sum_by-cons (λ y. cond (is_active c y) 1 0) x xs,
      sum_by-cons (λ y. cond (has_ended c y) 1 0) x xs,
      sum_by-cons (λ y. cond (is_note y) 1 0) x xs,
      one_counted x.cycle (cycles_in x.act) c e.0,
      all_counted c xs e.1,
    )

none_later : (c : ℕ) (xs : List Event) → Each (λ e. c ≤ e.cycle) xs → count_by (has_ended c) xs ≡ 0
none_later c [] e = refl
none_later c (x ∷ xs) e =
    omega (
      arith,
      sum_by-cons (λ y. cond (has_ended c y) 1 0) x xs,
      one_later x.cycle (cycles_in x.act) c e.0,
      none_later c xs e.1,
    )

own_counted : (b : Bool) (m c : ℕ) → cond (b && nat_le m c) 1 0 ≡ count_by (λ k. nat_le k c) (cond b (m ∷ []) [])
own_counted true m c = sym (zero-add _)
own_counted false m c = refl

ends_counted : (c : ℕ) (xs : List Event) → count_by (has_ended c) xs ≡ count_by (λ m. nat_le m c) (ends_of xs)
unfolding ends_of
ends_counted c [] = refl
ends_counted c (x ∷ xs) =
    omega (
      arith,
      sum_by-cons (λ y. cond (has_ended c y) 1 0) x xs,
      own_counted (is_note x) (x.cycle + cycles_in x.act) c,
      ends_counted c xs,
      sum_by-append (λ m. cond (nat_le m c) 1 0) (own_end x) (ends_of xs),
    )

all_at : (c : ℕ) (xs : List ℕ) → Each (λ m. m ≤ c) xs → count_by (λ m. nat_le m c) xs ≡ length xs
all_at c [] e = refl
all_at c (x ∷ xs) e =
    let one : cond {A = ℕ} (nat_le x c) 1 0 ≡ 1 = (let h = e.0 in grind (arith, nat_tests)) in
    omega (arith, sum_by-cons (λ m. cond (nat_le m c) 1 0) x xs, one, all_at c xs e.1)

none_at : (c : ℕ) (xs : List ℕ) → Each (λ m. c < m) xs → count_by (λ m. nat_le m c) xs ≡ 0
none_at c [] e = refl
none_at c (x ∷ xs) e =
    let none : cond {A = ℕ} (nat_le x c) 1 0 ≡ 0 = (let h = e.0 in grind (arith, nat_tests)) in
    omega (arith, sum_by-cons (λ m. cond (nat_le m c) 1 0) x xs, none, none_at c xs e.1)

default_at : (xs : List ℕ) (i d : ℕ) → i < length xs → get_or xs i d ≡ get_or xs i 0
default_at xs i d h = get_or_default xs i d 0 h

cycle_at_default : (xs : List Event) (i : ℕ) (d e : Event) → i < length xs
    → (get_or xs i d).cycle ≡ (get_or xs i e).cycle
cycle_at_default xs i d e h = ap (λ (x : Event). x.cycle) (get_or_default xs i d e h)

past_counted : (ends : List ℕ) (c j : ℕ) → IsNonDecreasing ends → HaveEnded ends c j
    → count_by (λ m. nat_le m c) ends ≡ j
past_counted ends c j up p =
    let low : Each (λ m. m ≤ c) (take j ends) = recursion_from_All _ (take j ends) (λ i d l.
    let l' : i < j = omega (arith, length-take j ends, p.within) in
    rw (get_or-take j ends i d l') (omega (arith, p.below i l', default_at ends i d (omega (arith, p.within))))) in
    let high : Each (λ m. c < m) (drop j ends) = recursion_from_All _ (drop j ends) (λ i d l.
    let l' : j + i < length ends = omega (arith, length-drop j ends) in
    rw (get_or-drop j ends i d)
    (omega (arith, p.above (omega arith), up j (j + i) 0 (omega arith) l', default_at ends (j + i) d l'))) in
    omega (
      arith,
      sum_by-take-drop (λ m. cond (nat_le m c) 1 0) ends j,
      all_at c (take j ends) low,
      none_at c (drop j ends) high,
      length-take j ends,
      p.within,
    )

-- the number of notes that are active at an event
pub active_count : (events : List Event) (ends : List ℕ) (k j : ℕ) (e : Event) → k < length events
    → e ≡ get_or events k e →
    IsNonDecreasingBy (λ (x : Event). x.cycle) events → IsPermutation (ends_of events) ends → IsNonDecreasing ends
    → HaveEnded ends e.cycle j →
    count_by (is_active e.cycle) (take (k + 1) events) + j ≡ count_by is_note (take (k + 1) events)
active_count events ends k j e some here up perm order past =
    let c : ℕ = e.cycle in
    let at : (get_or events k e).cycle ≡ c = ap (λ (x : Event). x.cycle) (sym here) in
    let low : Each (λ (x : Event). x.cycle ≤ c) (take (k + 1) events) =
    recursion_from_All _ (take (k + 1) events) (λ i d l.
    let l' : i < k + 1 = omega (arith, length-take (k + 1) events) in
    rw (get_or-take (k + 1) events i d l')
    (omega (arith, up i k d (omega arith) some, cycle_at_default events k d e some, at))) in
    let high : Each (λ (x : Event). c ≤ x.cycle) (drop (k + 1) events) =
    recursion_from_All _ (drop (k + 1) events) (λ i d l.
    let l' : (k + 1) + i < length events = omega (arith, length-drop (k + 1) events) in
    rw (get_or-drop (k + 1) events i d)
    (omega (arith, up k ((k + 1) + i) d (omega arith) l', cycle_at_default events k d e some, at))) in
    omega (
      arith,
      all_counted c (take (k + 1) events) low,
      none_later c (drop (k + 1) events) high,
      sum_by-take-drop (λ y. cond (has_ended c y) 1 0) events (k + 1),
      ends_counted c events,
      sum_by-IsPermutation (λ m. cond (nat_le m c) 1 0) (ends_of events) ends perm,
      past_counted ends c j order past,
    )

pub ends_push : (xs : List Event) (e : Event) → ends_of xs ++ own_end e ≡ ends_of (xs ++ e ∷ [])
unfolding ends_of
ends_push [] e = sym (append-nil (own_end e))
ends_push (x ∷ xs) e = append_assoc (own_end x) (ends_of xs) (own_end e) ∙ ap (λ r. own_end x ++ r) (ends_push xs e)

pub ends_more : (xs : List Event) (k : ℕ) (e : Event) → k < length xs → e ≡ get_or xs k e
    → ends_of (take k xs) ++ own_end e ≡ ends_of (take (k + 1) xs)
ends_more xs k e some here =
    ends_push (take k xs) e ∙ ap ends_of (ap (λ y. take k xs ++ y ∷ []) here ∙ sym (take_more xs k e some))

-- the number of notes that are active at an event, from the numbers that the walk stores
pub counted_here : (events : List Event) (ends seen : List ℕ) (k j : ℕ) (e : Event) (started notes c : ℕ)
    → k < length events → e ≡ get_or events k e →
    IsNonDecreasingBy (λ (x : Event). x.cycle) events → IsPermutation (ends_of events) ends → IsNonDecreasing ends →
    started ≡ count_by is_note (take k events) → notes ≡ cond (is_note e) 1 0 → seen ≡ ends → c ≡ e.cycle
    → HaveEnded seen c j → count_by (is_active e.cycle) (take (k + 1) events) + j ≡ started + notes
counted_here events ends seen k j e started notes c some here up perm order s n same at past =
    let past' : HaveEnded ends c j = subst (λ xs. HaveEnded xs c j) same past in
    let past'' : HaveEnded ends e.cycle j = subst (λ x. HaveEnded ends x j) at past' in
    omega (
      arith,
      active_count events ends k j e some here up perm order past'',
      count_more is_note events k e some here,
      s,
      n,
    )

-- an end that is passed at one event is passed at each later event
pub ended_later : (events : List Event) (ends seen : List ℕ) (k j : ℕ) (e : Event) (c : ℕ) → k < length events
    → e ≡ get_or events k e →
    IsNonDecreasingBy (λ (x : Event). x.cycle) events → seen ≡ ends → c ≡ e.cycle → HaveEnded seen c j →
    (i m : ℕ) (d : Event) → i < j → k + 1 ≤ m → m < length events → get_or ends i 0 ≤ (get_or events m d).cycle
ended_later events ends seen k j e c some here up same at past i m d low later within =
    let past' : HaveEnded ends c j = subst (λ xs. HaveEnded xs c j) same past in
    let cycle : (get_or events k d).cycle ≡ e.cycle =
    ap (λ (x : Event). x.cycle) (get_or_default events k d e some ∙ sym here) in
    omega (arith, past'.below i low, up k m d (omega arith) within, cycle, at)
