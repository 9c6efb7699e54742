-- Waiting notes stored by cycle, when one is added or taken out.
use Rattle.std.proofs.Common.{◌≡◌, ◌≢◌, ◌∙◌, ◌++◌, ◌+◌, ◌≤◌, ◌==◌, ℕ, Bool, true, false, List, [], ◌∷◌, refl, sym, ap}
use Rattle.std.proofs.Common.{subst, arith, append-nil, cond}
use Rattle.std.specs.Prelude.{if◌then◌else◌, Option, Some, None, option_to_list}
use Rattle.std.specs.BTreeMap.{BTreeMap, IsOrdered, UpdatesBy, get, is_at}
use Rattle.std.specs.{Cmp.eq_by_cmp_equiv, Cmp.nat_cmp_total, List.All, List.Sorted.IsStrictlySortedBy, Map.keys_of}
use Rattle.std.specs.{Map.lookup, Option.MatchOption, Option.unwrap_or, Ordering.nat_cmp}
use Rattle.std.proofs.lemmas.{Bool.eqb-true, Map.lookup-none, Map.Entries.none_past_head}
use Rattle.std.proofs.lemmas.List.Elements.{All-append, All-head, All-tail, filter-append}
use Rattle.std.proofs.lemmas.Map.Keys.{IsDistinct-from_sorted, sorted_tail}
use Rattle.cs_base.specs.Limits.{most_asks}
use Rattle.cs_sched.specs.Waiting.{IsTaken, those_in, waiting, with_answer}
use Rattle.cs_sched.specs.declared.due.Due.{Due}
use Rattle.cs_sched.specs.inner.ByCycle.{AreByCycle, Puts, all_dues, at_cycle}
use Rattle.cs_sched.specs.declared.pending.Added.TheVariants as added

abbrev pub Entries : Type 0
Entries = List (ℕ × List Due)

-- ---- the notes of one cycle among all

abbrev pub found : Entries → ℕ → List Due
found es c = unwrap_or (lookup (is_at (nat_cmp c)) es) []

apart : (c k : ℕ) → (c == k) ≡ false → is_at (nat_cmp c) k ≡ false
apart c k e = grind arith

same : (k c : ℕ) → k ≡ c → is_at (nat_cmp k) c ≡ true
same k c e = grind arith

same_self : (n : ℕ) → (n == n) ≡ true
same_self n = grind arith

is_other : (c k : ℕ) → c ≢ k → (c == k) ≡ false
is_other c k other = grind arith

flipped : (c k : ℕ) → (c == k) ≡ false → (k == c) ≡ false
flipped c k e = grind arith

neither : (b : Bool) → ◌≡◌ {A = List Due} [] (if b then [] else [])
neither true = refl
neither false = refl

is_own : (c k : ℕ) (ds : List Due) → All (λ d. d.cycle ≡ k) ds → those_in ds c ≡ (if c == k then ds else [])
is_own c k [] own = neither (c == k)
is_own c k (d ∷ ds) own =
    let here : d.cycle ≡ k = All-head (λ d. d.cycle ≡ k) d ds own in
    let rest = is_own c k ds (All-tail (λ d. d.cycle ≡ k) d ds own) in
    grind arith

-- the notes that begin in a cycle are the notes stored for it
pub those_at : (es : Entries) → IsStrictlySortedBy nat_cmp (keys_of es)
    → ((c : ℕ) → All (λ d. d.cycle ≡ c) (found es c)) → (c : ℕ) → those_in (all_dues es) c ≡ found es c
those_at [] ordered own c = refl
those_at ((k, ds) ∷ es) ordered own c =
    filter-append (λ d. d.cycle == c) ds (all_dues es)
    ∙ ap (λ xs. xs ++ those_in (all_dues es) c) (is_own c k ds here)
    ∙ ap (λ xs. (if c == k then ds else []) ++ xs) (those_at es (sorted_tail nat_cmp k (keys_of es) ordered) later c)
    ∙ both (c == k) refl
  where
    at_key : is_at (nat_cmp k) k ≡ true
    at_key = grind arith

    here : All (λ d. d.cycle ≡ k) ds
    here = subst (λ b. All (λ d. d.cycle ≡ k) (unwrap_or (cond b (Some ds) (lookup (is_at (nat_cmp k)) es)) []))
        at_key (own k)

    head : found ((k, ds) ∷ es) k ≡ ds
    head = ap (λ b. unwrap_or (cond b (Some ds) (lookup (is_at (nat_cmp k)) es)) []) at_key

    absent : found es k ≡ []
    absent = ap (λ o. unwrap_or o []) (lookup-none (is_at (nat_cmp k)) es
        (none_past_head (eq_by_cmp_equiv nat_cmp_total) k (k, ds) es
        (IsDistinct-from_sorted nat_cmp (keys_of ((k, ds) ∷ es)) ordered) at_key))

    later : (q : ℕ) → All (λ d. d.cycle ≡ q) (found es q)
    later q = by (q == k) refl
      where
        by : (b : Bool) → (q == k) ≡ b → All (λ d. d.cycle ≡ q) (found es q)
        by true e = rw (eqb-true q k e) (rw absent (λ j d lt. absurd (omega arith)))
        by false e =
            subst (λ b. All (λ d. d.cycle ≡ q) (unwrap_or (cond b (Some ds) (lookup (is_at (nat_cmp q)) es)) []))
            (apart q k e) (own q)

    both : (b : Bool) → (c == k) ≡ b → (if b then ds else []) ++ found es c ≡ found ((k, ds) ∷ es) c
    both true e =
        let is : c ≡ k = eqb-true c k e in
        ap (λ q. ds ++ found es q) is ∙ ap (λ xs. ds ++ xs) absent ∙ append-nil ds ∙ sym head
        ∙ ap (found ((k, ds) ∷ es)) (sym is)
    both false e = sym (ap (λ b. unwrap_or (cond b (Some ds) (lookup (is_at (nat_cmp c)) es)) []) (apart c k e))

-- ---- a change at one cycle

abbrev Map : Type 0
Map = BTreeMap ℕ (List Due)

pub puts : (m n : Map) (k : ℕ) (o : Option (List Due)) → UpdatesBy nat_cmp (nat_cmp k) m n o
    → Puts m n k (unwrap_or o [])
puts m n k o u c = ap (λ x. unwrap_or x []) (u.0 c) ∙ by (c == k) refl
  where
    by : (b : Bool) → (c == k) ≡ b
        → unwrap_or (cond (is_at (nat_cmp k) c) o (get nat_cmp m c)) [] ≡ (if b then unwrap_or o [] else at_cycle m c)
    by true e = ap (λ b. unwrap_or (cond b o (get nat_cmp m c)) []) (same k c (sym (eqb-true c k e)))
    by false e = ap (λ b. unwrap_or (cond b o (get nat_cmp m c)) []) (apart k c (flipped c k e))

-- a second change for the same cycle
pub puts_again : (m n o : Map) (k : ℕ) (ds es : List Due) → Puts m n k ds → Puts n o k es → Puts m o k es
puts_again m n o k ds es first second c = second c ∙ by (c == k) (first c)
  where
    by : (b : Bool) → at_cycle n c ≡ (if b then ds else at_cycle m c)
        → (if b then es else at_cycle n c) ≡ (if b then es else at_cycle m c)
    by true e = refl
    by false e = e

pub still_by_cycle : (m n : Map) (k kept more : ℕ) (ds : List Due) → AreByCycle m kept → Puts m n k ds
    → IsOrdered nat_cmp n → All (λ d. d.cycle ≡ k) ds → more ≤ most_asks → AreByCycle n more
still_by_cycle m n k kept more ds a u ordered own few = record {
  ordered = ordered;
  own = λ c. subst (All (λ d. d.cycle ≡ c)) (sym (u c)) (by c (c == k) refl);
  few = few;
}
  where
    by : (c : ℕ) (b : Bool) → (c == k) ≡ b → All (λ d. d.cycle ≡ c) (if b then ds else at_cycle m c)
    by c true e = rw (eqb-true c k e) own
    by c false e = a.own c

-- one more note, which begins in the cycle
pub own_more : (ds : List Due) (d : Due) → All (λ e. e.cycle ≡ d.cycle) ds
    → All (λ e. e.cycle ≡ d.cycle) (ds ++ d ∷ [])
own_more ds d own = All-append (λ e. e.cycle ≡ d.cycle) ds (d ∷ []) own
    (λ j e lt. let first : j ≡ 0 = omega arith in rw first refl)

-- the notes that stay when the first is taken out
own_rest : (k : ℕ) (r : Option Due) (ds rest : List Due) → ds ≡ option_to_list r ++ rest
    → All (λ e. e.cycle ≡ k) ds → All (λ e. e.cycle ≡ k) rest
own_rest k None ds rest is own = subst (All (λ e. e.cycle ≡ k)) is own
own_rest k (Some d) ds rest is own =
    All-tail (λ e. e.cycle ≡ k) d rest (subst (All (λ e. e.cycle ≡ k)) is own)

pub popped : (m n : Map) (kept k : ℕ) (r : Option Due) (q rest : List Due) → AreByCycle m kept → q ≡ at_cycle m k
    → q ≡ option_to_list r ++ rest → Puts m n k rest → IsOrdered nat_cmp n → AreByCycle n kept
popped m n kept k r q rest a at items u ordered =
    still_by_cycle m n k kept kept rest a u ordered
    (own_rest k r q rest items (subst (All (λ e. e.cycle ≡ k)) (sym at) (a.own k))) a.few

pub none_left : (r : Option Due) (ds : List Due) (B : Type 0) (C : Due → Type 0) → MatchOption r ((ds ≡ []) × B) C
    → r ≡ None → ds ≡ []
none_left None ds B C both e = both.0
none_left (Some d) ds B C both e = absurd (cc e)

-- maps with the same entries
pub same_by_cycle : (m n : Map) (kept : ℕ) → n.entries ≡ m.entries → AreByCycle m kept → AreByCycle n kept
same_by_cycle m n kept e a = record {
  ordered = subst (λ (es : Entries). IsStrictlySortedBy nat_cmp (keys_of es)) (sym e) a.ordered;
  own = λ c. subst (λ (es : Entries). All (λ d. d.cycle ≡ c) (found es c)) (sym e) (a.own c);
  few = a.few;
}

-- the notes of each cycle after a change for one
changed : (m n : Map) (k kept more : ℕ) (ds : List Due) → AreByCycle m kept → AreByCycle n more → Puts m n k ds
    → (c : ℕ) → those_in (all_dues n.entries) c ≡ (if c == k then ds else those_in (all_dues m.entries) c)
changed m n k kept more ds a b u c =
    those_at n.entries b.ordered b.own c ∙ u c
    ∙ ap (λ xs. if c == k then ds else xs) (sym (those_at m.entries a.ordered a.own c))

-- an added note waits after the others of its cycle
pub kept_waits : (m n : Map) (kept : ℕ) (d : Due) → AreByCycle m kept → AreByCycle n (kept + 1)
    → Puts m n d.cycle (at_cycle m d.cycle ++ d ∷ [])
    → waiting (record { dues = all_dues n.entries; kept = kept + 1 })
    ≡ with_answer added.Kept d (waiting (record { dues = all_dues m.entries; kept = kept }))
kept_waits m n kept d a b u = λ j. record { due = λ c. at c j; kept = kept + 1 }
  where
    at : (c : ℕ) → those_in (all_dues n.entries) c
        ≡ (if c == d.cycle then those_in (all_dues m.entries) c ++ d ∷ [] else those_in (all_dues m.entries) c)
    at c = changed m n d.cycle kept (kept + 1) (at_cycle m d.cycle ++ d ∷ []) a b u c ∙ by (c == d.cycle) refl
      where
        by : (t : Bool) → (c == d.cycle) ≡ t
            → (if t then at_cycle m d.cycle ++ d ∷ [] else those_in (all_dues m.entries) c)
            ≡ (if t then those_in (all_dues m.entries) c ++ d ∷ [] else those_in (all_dues m.entries) c)
        by true e = ap (λ ds. ds ++ d ∷ []) (ap (at_cycle m) (sym (eqb-true c d.cycle e))
            ∙ sym (those_at m.entries a.ordered a.own c))
        by false e = refl

-- the first note of a cycle is taken out, and all others stay
pub taken : (m n : Map) (kept k : ℕ) (r : Option Due) (rest : List Due) → AreByCycle m kept → AreByCycle n kept
    → Puts m n k rest → at_cycle m k ≡ option_to_list r ++ rest → (r ≡ None → at_cycle m k ≡ [])
    → IsTaken k (waiting (record { dues = all_dues m.entries; kept = kept })) r
    (waiting (record { dues = all_dues n.entries; kept = kept }))
taken m n kept k r rest a b u first none = record {
  first = here ∙ first ∙ ap (λ ds. option_to_list r ++ ds) (sym there);
  none = λ e. here ∙ none e;
  others = λ c other. each c
      ∙ ap (λ t. if t then rest else those_in (all_dues m.entries) c) (is_other c k other);
  kept = refl;
}
  where
    each : (c : ℕ) → those_in (all_dues n.entries) c ≡ (if c == k then rest else those_in (all_dues m.entries) c)
    each = changed m n k kept kept rest a b u

    here : those_in (all_dues m.entries) k ≡ at_cycle m k
    here = those_at m.entries a.ordered a.own k

    there : those_in (all_dues n.entries) k ≡ rest
    there = each k ∙ ap (λ t. if t then rest else those_in (all_dues m.entries) k) (same_self k)

-- no note is stored for a cycle
pub none_taken : (m : Map) (kept k : ℕ) → AreByCycle m kept → get nat_cmp m k ≡ None
    → IsTaken k (waiting (record { dues = all_dues m.entries; kept = kept })) None
    (waiting (record { dues = all_dues m.entries; kept = kept }))
none_taken m kept k a absent = record {
  first = refl;
  none = λ e. those_at m.entries a.ordered a.own k ∙ ap (λ o. unwrap_or o []) absent;
  others = λ c other. refl;
  kept = refl;
}
