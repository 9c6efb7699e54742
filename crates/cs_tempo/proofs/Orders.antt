-- The order of a section's turns: sorting them by their keys puts the statements in order.
use Rattle.std.proofs.Common.{◌≡◌, ℕ, ◌+◌, ◌<◌, ◌≤◌, true, false, List, [], ◌∷◌, ◌++◌, length, get_or, drop, take, map}
use Rattle.std.proofs.Common.{ℤ, arith, refl, ap, sym, ◌∙◌, ⊎_elim, append_assoc, append-nil}
use Rattle.std.specs.{Cmp.IsTotalOrder, declared.cmp.Ordering.Ordering, List.AllByRecursion as Each}
use Rattle.std.specs.Ordering.{is_lt, nat_cmp, int_cmp, ordering_then}
use Rattle.std.specs.declared.cmp.Ordering.TheVariants.{Less, Equal, Greater}
use Rattle.std.proofs.lemmas.Cmp.{nat_cmp_total, int_cmp_total, on_total, then_total, ranked, int_ranked}
use Rattle.std.proofs.lemmas.{Bool.cases_Bool, Bool.Decides.nat_tests, List.Elements.All-from_recursion}
use Rattle.std.proofs.lemmas.List.{at_drop_more, at_drop_all, drop_more, length-drop, map_push, map_more}
use Rattle.cs_score.specs.declared.statement.ScoreStmt.{ScoreStmt}
use Rattle.cs_tempo.specs.declared.order.SortKey.{SortKey}
use Rattle.cs_tempo.specs.Order.{has_turn, beat_of, p1_of, p3_of, order_of, put, in_order}
use Rattle.cs_tempo.specs.inner.Turns.{turn_of, own_turn, turns_from, turn_order, inserted, sorted}
use Rattle.cs_tempo.proofs.{Elements.each_more, Sorting.each_sorted}

pub turn_total : IsTotalOrder turn_order
turn_total =
    then_total (on_total (λ (t : SortKey). t.at) nat_cmp_total)
    (then_total (on_total (λ (t : SortKey). t.p1) int_cmp_total)
    (then_total (on_total (λ (t : SortKey). t.p3) int_cmp_total) (on_total (λ (t : SortKey). t.index) nat_cmp_total)))

both_equal : (o p : Ordering) → ordering_then o p ≡ Equal → (o ≡ Equal) × (p ≡ Equal)
both_equal Less p h = absurd (cc)
both_equal Equal p h = (refl, h)
both_equal Greater p h = absurd (cc)

abbrev turn_by : ℕ → ℤ → ℤ → ℕ → SortKey
turn_by at p1 p3 index = record { at = at; p1 = p1; p3 = p3; index = index }

pub turn_same : (t u : SortKey) → turn_order t u ≡ Equal → t ≡ u
turn_same t u h =
    let a = both_equal (nat_cmp t.at u.at) _ h in
    let b = both_equal (int_cmp t.p1 u.p1) _ a.1 in
    let c = both_equal (int_cmp t.p3 u.p3) (nat_cmp t.index u.index) b.1 in
    let at : t.at ≡ u.at = ranked t.at u.at Equal (sym a.0) in
    let p1 : t.p1 ≡ u.p1 = int_ranked t.p1 u.p1 Equal (sym b.0) in
    let p3 : t.p3 ≡ u.p3 = int_ranked t.p3 u.p3 Equal (sym c.0) in
    let index : t.index ≡ u.index = ranked t.index u.index Equal (sym c.1) in
    ap (λ n. turn_by n t.p1 t.p3 t.index) at ∙ ap (λ n. turn_by u.at n t.p3 t.index) p1
    ∙ ap (λ n. turn_by u.at u.p1 n t.index) p3 ∙ ap (λ n. turn_by u.at u.p1 u.p3 n) index

not_less : (m k : ℕ) → k < m → is_lt (nat_cmp m k) ≡ false
not_less m k h = grind (arith, nat_tests)

-- a later index decides nothing
later_place : (a b c : Ordering) (k m : ℕ) → k < m
    → is_lt (ordering_then a (ordering_then b (ordering_then c (nat_cmp m k)))) ≡ is_lt
    (ordering_then a (ordering_then b c))
later_place Less b c k m h = refl
later_place Greater b c k m h = refl
later_place Equal Less c k m h = refl
later_place Equal Greater c k m h = refl
later_place Equal Equal Less k m h = refl
later_place Equal Equal Greater k m h = refl
later_place Equal Equal Equal k m h = not_less m k h

module _ (section : List ScoreStmt) (d : ScoreStmt) where
  -- the statement of a turn
  abbrev pub stmt : SortKey → ScoreStmt
  stmt t = get_or section t.index d

  -- a turn of a statement whose index is at least k
  pub record IsFrom (k : ℕ) (t : SortKey) : Type 0 where
    pub after : k ≤ t.index
    pub within : t.index < length section
    pub is : t ≡ turn_of t.index (stmt t).what

  below : (k : ℕ) (s : ScoreStmt) (later : List ScoreStmt) → drop k section ≡ s ∷ later → k < length section
  below k s later e = omega (arith, length-drop k section, ap length e)

  here : (k : ℕ) (s : ScoreStmt) (later : List ScoreStmt) → drop k section ≡ s ∷ later → get_or section k d ≡ s
  here k s later e = ap (λ xs. get_or xs 0 s) (sym (drop_more section k d (below k s later e)) ∙ e)

  next : (k : ℕ) (s : ScoreStmt) (later : List ScoreStmt) → drop k section ≡ s ∷ later → drop (k + 1) section ≡ later
  next k s later e = ap (drop 1) (sym (drop_more section k d (below k s later e)) ∙ e)

  same_test : (k : ℕ) (s : ScoreStmt) (u : SortKey) → IsFrom (k + 1) u
      → is_lt (turn_order u (turn_of k s.what)) ≡ is_lt (order_of (stmt u).what s.what)
  same_test k s u f =
      ap (λ t. is_lt (turn_order t (turn_of k s.what))) f.is
      ∙ later_place (nat_cmp (beat_of (stmt u).what) (beat_of s.what)) (int_cmp (p1_of (stmt u).what) (p1_of s.what))
      (int_cmp (p3_of (stmt u).what) (p3_of s.what)) k u.index (omega (arith, f.after))

  put_is : (k : ℕ) (s : ScoreStmt) (us : List SortKey) → get_or section k d ≡ s → Each (IsFrom (k + 1)) us →
      map stmt (inserted turn_order (turn_of k s.what) us) ≡ put s (map stmt us)
  unfolding put
  put_is k s [] at e = ap (λ x. x ∷ []) at
  put_is k s (u ∷ us) at e =
      ⊎_elim
      (λ t. let t' : is_lt (order_of (stmt u).what s.what) ≡ true = sym (same_test k s u e.0) ∙ t in
      rw (t, t') (ap (λ r. stmt u ∷ r) (put_is k s us at e.1)))
      (λ f. let f' : is_lt (order_of (stmt u).what s.what) ≡ false = sym (same_test k s u e.0) ∙ f in
      rw (f, f') (ap (λ x. x ∷ stmt u ∷ map stmt us) at)) (cases_Bool (is_lt (turn_order u (turn_of k s.what))))

  more_from : (k : ℕ) (us : List SortKey) → Each (IsFrom (k + 1)) us → Each (IsFrom k) us
  more_from k us e = each_more _ _ us (λ u f. record { after = omega (arith, f.after); within = f.within; is = f.is }) e

  pub turns_are : (k : ℕ) (later : List ScoreStmt) → drop k section ≡ later → Each (IsFrom k) (turns_from k later)
  unfolding turns_from
  turns_are k [] e = tt
  turns_are k (s ∷ later) e =
      let rest = more_from k _ (turns_are (k + 1) later (next k s later e)) in
      ⊎_elim
      (λ t. rw t (
        record {
          after = omega arith;
          within = below k s later e;
          is =
              ap (λ x. turn_of k x.what) (sym (here k s later e));
        },
        rest,
      ))
      (λ f. rw f rest) (cases_Bool (has_turn s.what))

  -- the statements of the sorted turns are the statements in order
  pub order_is : (k : ℕ) (later : List ScoreStmt) → drop k section ≡ later
      → map stmt (sorted turn_order (turns_from k later)) ≡ in_order later
  unfolding turns_from in_order
  order_is k [] e = refl
  order_is k (s ∷ later) e =
      let more = turns_are (k + 1) later (next k s later e) in
      let ih = order_is (k + 1) later (next k s later e) in
      ⊎_elim
      (λ t. rw t (put_is k s (sorted turn_order (turns_from (k + 1) later)) (here k s later e)
      (each_sorted turn_order turn_total (IsFrom (k + 1)) _ more) ∙ ap (put s) ih))
      (λ f. rw f ih) (cases_Bool (has_turn s.what))

-- one step of a walk over a section: the turns so far, and the turns of the rest
pub turn_more : (section : List ScoreStmt) (k : ℕ) (s : ScoreStmt) (done : List SortKey) → k < length section
    → s ≡ get_or section k s →
    (done ++ own_turn k s.what) ++ turns_from (k + 1) (drop (k + 1) section) ≡ done ++ turns_from k (drop k section)
unfolding turns_from
turn_more section k s done some at =
    append_assoc done (own_turn k s.what) (turns_from (k + 1) (drop (k + 1) section)) ∙ ap (λ r. done ++ r)
    (sym (at_drop_more (turns_from k) section k s some ∙ ap (λ u. turns_from k (u ∷ drop (k + 1) section)) (sym at)))

pub turn_none : (section : List ScoreStmt) (k : ℕ) (done : List SortKey) → length section ≤ k
    → done ++ turns_from k (drop k section) ≡ done
unfolding turns_from
turn_none section k done all = ap (λ r. done ++ r) (at_drop_all (turns_from k) section k all) ∙ append-nil done

-- each sorted turn is a statement of the section
pub turns_within : (section : List ScoreStmt) (d : ScoreStmt) (k : ℕ) (e : SortKey)
    → k < length (sorted turn_order (turns_from 0 section)) →
    (get_or (sorted turn_order (turns_from 0 section)) k e).index < length section
turns_within section d k e some =
    (All-from_recursion (IsFrom section d 0) _
    (each_sorted turn_order turn_total (IsFrom section d 0) _ (turns_are section d 0 section refl)) k e some).within

-- one step of a walk that collects items
pub taken_more : {A B C : Type 0} (f : A → C) (g : B → C) (taken : List A) (a : A) (bs : List B) (k : ℕ) (e : B)
    → k < length bs → f a ≡ g (get_or bs k e) →
    map f taken ≡ map g (take k bs) → map f (taken ++ a ∷ []) ≡ map g (take (k + 1) bs)
taken_more f g taken a bs k e some at h =
    map_push f taken a ∙ ap (λ r. r ++ f a ∷ []) h ∙ ap (λ x. map g (take k bs) ++ x ∷ []) at
    ∙ sym (map_more g bs k e some)
