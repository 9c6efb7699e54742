-- The board keeps the rule when a cycle begins.
use Rattle.std.proofs.lemmas.{Grind.common_steps, Option.slice_get_within, Option.get_or_from_slice_get}
use Rattle.std.proofs.Common.{◌≡◌, ◌≢◌, ℕ, zero, suc, ◌+◌, ◌<◌, ◌≤◌, ◌⊎◌, inl, ⊎_elim, List, [], ◌∷◌, length, take}
use Rattle.std.proofs.Common.{Bool, true, false, cond, Some, refl, sym, ap, ◌∙◌, arith, ◌==◌, ◌||◌, slice_get, eq-eqb}
use Rattle.std.proofs.Common.{eqb-true, length-append}
use Rattle.std.proofs.lemmas.Bool.{cases_Bool, cases_eq, cases_lt, or_right}
use Rattle.std.proofs.lemmas.List.{length-map, get_or_past, get_or_append_left, get_or_at}
use mathlib.Core.Option.{some, some-injective}
use lib.ListN.{get_elem?}
use Rattle.cs_cells.specs.{Cells.values, Meaning.Meaning}
use Rattle.cs_graph.specs.Graph.{Edge}
use Rattle.cs_board.specs.Counts.{one, same, total, times, count_below}
use Rattle.cs_board.specs.{Facts.Waits, Facts.moves, Plans.leads_in, Plans.edge_count, Rule.Facts, Words.Words}
use Rattle.cs_board.specs.{Words.at, Words.IsSized, declared.view.Berth.Berth, declared.view.Berth.TheVariants.Full}
use Rattle.cs_board.specs.{declared.view.Plan.Plan, declared.view.View.View}
use Rattle.cs_board.specs.Opening.{each_below, first_status, first_watch, opening_words}
use Rattle.cs_board.specs.Views.{roots_below, opening_view, spent_view}
use Rattle.cs_board.proofs.Lists.{same_yes, same_no, total_only}
use mathlib.Core.Option as maybe

-- a list of a function's values below a number
pub length-each_below : (f : ℕ → ℕ) (n : ℕ) → length (each_below f n) ≡ n
length-each_below f zero = refl
length-each_below f (suc n) = let h : length (each_below f n) ≡ n =
    length-each_below f n in omega (arith, length-append (each_below f n) (f n ∷ []))

pub at_each_below : (f : ℕ → ℕ) (n i : ℕ) → i < n → at (each_below f n) i ≡ f i
at_each_below f zero i l = absurd (omega arith)
at_each_below f (suc n) i l = ⊎_elim
    (λ (e : i ≡ n). get_or_at (each_below f n) (f n) [] 0 i (length-each_below f n ∙ sym e) ∙ ap f (sym e))
    (λ (d : i ≢ n). get_or_append_left (each_below f n) (f n ∷ []) 0 i (omega (arith, length-each_below f n))
    ∙ at_each_below f n i (omega arith)) (cases_eq i n)

past_each_below : (f : ℕ → ℕ) (n i : ℕ) → n ≤ i → at (each_below f n) i ≡ 0
past_each_below f n i l = get_or_past (each_below f n) i 0 (omega (arith, length-each_below f n))

zeros : (n i : ℕ) → at (each_below (λ t. 0) n) i ≡ 0
zeros n i = grind (arith, common_steps, at_each_below, cases_lt, past_each_below)

-- an edge that leads to a note, and the first one
pub leads_by : (edges : List (ℕ × ℕ)) (e p t : ℕ) → Edge edges e p t → leads_in edges t ≡ true
leads_by [] e p t h = absurd (cc)
leads_by (x ∷ es) zero p t h = let i : x.1 ≡ t =
    (let z : Some x ≡ Some (p, t) = h in cc) in ap (λ b. b || leads_in es t) (eq-eqb x.1 t i)
leads_by (x ∷ es) (suc e) p t h = ap (λ b. x.1 == t || b) (leads_by es e p t h) ∙ or_right (x.1 == t) true refl

pub leads_by_earlier : (edges : List (ℕ × ℕ)) (n e p t : ℕ) → e < n → Edge edges e p t
    → leads_in (take n edges) t ≡ true
leads_by_earlier [] n e p t l h = absurd (cc)
leads_by_earlier (x ∷ es) zero e p t l h = absurd (omega arith)
leads_by_earlier (x ∷ es) (suc n) zero p t l h = let i : x.1 ≡ t =
    (let z : Some x ≡ Some (p, t) = h in cc) in ap (λ b. b || leads_in (take n es) t) (eq-eqb x.1 t i)
leads_by_earlier (x ∷ es) (suc n) (suc e) p t l h =
    ap (λ b. x.1 == t || b) (leads_by_earlier es n e p t (omega arith) h) ∙ or_right (x.1 == t) true refl

pub first_edge : (edges : List (ℕ × ℕ)) (t : ℕ) → leads_in edges t ≡ true
    → (e : ℕ) × (p : ℕ) × Edge edges e p t × (leads_in (take e edges) t ≡ false)
first_edge [] t h = absurd (cc)
first_edge (x ∷ es) t h = ⊎_elim
    (λ (b : (x.1 == t) ≡ true). let i : x.1 ≡ t = eqb-true x.1 t b in (0, x.0, ap (λ z. Some (x.0, z)) i, refl))
    (λ (b : (x.1 == t) ≡ false). let r =
    first_edge es t (ap (λ z. z || leads_in es t) (sym b)
    ∙ h) in (suc r.0, r.1, r.2, ap (λ z. z || leads_in (take r.0 es) t) b ∙ r.3)) (cases_Bool (x.1 == t))

-- a note is among those that wait for none if and only if no edge leads to it
root_in : (edges : List (ℕ × ℕ)) (n t : ℕ) → t < n → leads_in edges t ≡ false → 0 < times t (roots_below edges n)
root_in edges zero t l h = absurd (omega arith)
root_in edges (suc n) t l h = ⊎_elim
    (λ (e : t ≡ n). let s : same n t ≡ 1 = same_yes n t (sym e) in
    let c : times t (roots_below edges (suc n)) ≡ same n t + times t (roots_below edges n)
    = ap (λ b. times t (cond b (roots_below edges n) (n ∷ roots_below edges n)))
    (ap (leads_in edges) (sym e) ∙ h) in omega arith)
    (λ (d : t ≢ n). let r : 0 < times t (roots_below edges n) = root_in edges n t (omega arith) h in ⊎_elim
    (λ b. let c : times t (roots_below edges (suc n)) ≡ times t (roots_below edges n)
    = ap (λ z. times t (cond z (roots_below edges n) (n ∷ roots_below edges n))) b in omega arith)
    (λ b. let c : times t (roots_below edges (suc n)) ≡ same n t + times t (roots_below edges n)
    = ap (λ z. times t (cond z (roots_below edges n) (n ∷ roots_below edges n))) b in omega arith)
    (cases_Bool (leads_in edges n)))
    (cases_eq t n)

root_out : (edges : List (ℕ × ℕ)) (n t : ℕ) → n ≤ t → times t (roots_below edges n) ≡ 0
root_out edges zero t l = refl
root_out edges (suc n) t l = grind (arith, common_steps, cases_Bool, same_no, root_out edges n t (omega arith))

pub count_none : (P : ℕ → Bool) (n : ℕ) → ((u : ℕ) → P u ≡ false) → count_below P n ≡ 0
count_none P zero h = refl
count_none P (suc n) h = let a : count_below P n ≡ 0 = count_none P n h in let b : one (P n) ≡ 0 =
    ap one (h n) in omega arith

module _ {J : Type 0} (M : Meaning J) (k : Plan J) (ws spare : List ℕ) (same_values : values ws ≡ k.cells)
    (long : length spare ≡ k.spare) (hs : List (maybe.Option (Berth J)))
    (home : (t : ℕ) (j : J) → slice_get k.jobs t ≡ Some j → get_elem? hs t ≡ some (some (Full j)))
    (vs : List (View J)) (id : ℕ) (here : get_elem? vs id ≡ some (opening_view k))
    (others : (j : ℕ) (w : View J) → j ≢ id → get_elem? vs j ≡ some w → w ≡ spent_view) where
  abbrev begins : Words
  begins = opening_words k ws spare

  abbrev st : List ℕ
  st = each_below (first_status k.edges) k.notes

  abbrev wt : List ℕ
  wt = each_below (first_watch k.edges) (edge_count k)

  -- every other view is spent
  only : (g : View J → ℕ) → g spent_view ≡ 0 → total g vs ≡ g (opening_view k)
  only g none = total_only g vs id (opening_view k) here (λ j w n e. ap g (others j w n e) ∙ none)

  pub opening_sized : IsSized k begins
  opening_sized = grind (arith, common_steps, length-each_below, length-map)

  status_is : (t : ℕ) → (at st t ≡ 0) ⊎ ((at st t ≡ 1) × (t < k.notes) × (leads_in k.edges t ≡ false))
  status_is t = grind (arith, common_steps, at_each_below, cases_Bool, cases_lt, past_each_below)

  status_low : (t : ℕ) → at st t ≤ 1
  status_low t = ⊎_elim (λ a. omega (arith, a)) (λ a. omega (arith, a.0)) (status_is t)

  open_ : (t n : ℕ) → at st t ≡ n → 1 < n → ⊥
  open_ t n e l = omega (arith, status_low t)

  not_done : (t : ℕ) → (at st t == 3) ≡ false
  not_done t = ⊎_elim (λ b. absurd (open_ t 3 (eqb-true (at st t) 3 b) (omega arith))) (λ b. b)
      (cases_Bool (at st t == 3))

  same_none : (t n : ℕ) → 1 < n → same (at st t) n ≡ 0
  same_none t n l = same_no (at st t) n (λ e. open_ t n e l)

  watch_is : (e p t : ℕ) → Edge k.edges e p t → at wt e ≡ cond (leads_in (take e k.edges) t) 0 1
  watch_is e p t h = at_each_below (first_watch k.edges) (edge_count k) e (slice_get_within k.edges e (p, t) h)
      ∙ ap (λ z. cond (leads_in (take e k.edges) z.1) 0 1) (get_or_from_slice_get k.edges e (p, t) (0, 0) h)

  watch_low : (e : ℕ) → at wt e ≤ 1
  watch_low e = grind (arith, common_steps, at_each_below, cases_Bool, cases_lt, past_each_below)

  led : (t : ℕ) → t < k.notes → at st t ≡ 0 → leads_in k.edges t ≡ true
  led t low z = grind (arith, common_steps, at_each_below, cases_Bool)

  opening_waits : (t : ℕ) → t < k.notes → at st t ≡ 0 → Waits k wt vs t
  opening_waits t low z = let f = first_edge k.edges t (led t low z) in record {
    edge = f.0;
    before = λ e p h l. absurd (let b : true ≡ false = sym (leads_by_earlier k.edges f.0 e p t l h) ∙ f.3 in cc);
    after = λ e p h l o. let b : at wt e ≡ 0 =
        watch_is e p t h ∙ ap (λ y. cond y 0 1) (leads_by_earlier k.edges e f.0 f.1 t l f.2) in omega (arith, o);
    who = inl (f.1, f.2, watch_is f.0 f.1 t f.2 ∙ ap (λ y. cond y 0 1) f.3, only (moves t) refl);
    some_edge = (f.0, f.1, f.2);
  }

  pub opening_facts : Facts M k begins hs vs
  opening_facts =
      grind (
        arith,
        common_steps,
        cases_eq,
        cases_lt,
        count_none,
        leads_by,
        length-map,
        not_done,
        only,
        open_,
        opening_waits,
        root_in,
        root_out,
        same_none,
        some,
        some-injective,
        status_is,
        status_low,
        watch_low,
        zeros,
      )

pub status_waits : (edges : List (ℕ × ℕ)) (e p t : ℕ) → Edge edges e p t → 0 ≡ first_status edges t
status_waits edges e p t h = ap (λ b. cond b 0 1) (sym (leads_by edges e p t h))

pub status_free : (edges : List (ℕ × ℕ)) (t : ℕ) → ((e p : ℕ) → ¬ (Edge edges e p t)) → 1 ≡ first_status edges t
status_free edges t none = grind (arith, common_steps, cases_Bool, first_edge)

taken : (edges : List (ℕ × ℕ)) (e f : ℕ) (x : ℕ × ℕ) → slice_get (take e edges) f ≡ Some x
    → (f < e) × (slice_get edges f ≡ Some x)
taken edges zero f x h = absurd (cc)
taken [] (suc e) f x h = absurd (cc)
taken (y ∷ es) (suc e) zero x h = (omega arith, h)
taken (y ∷ es) (suc e) (suc f) x h = let r = taken es e f x h in (omega (arith, r.0), r.1)

pub watch_later : (edges : List (ℕ × ℕ)) (f e p q t : ℕ) → f < e → Edge edges f p t → Edge edges e q t
    → 0 ≡ first_watch edges e
watch_later edges f e p q t l h at_ = ap (λ b. cond b 0 1) (sym (leads_by_earlier edges e f p t l h)
    ∙ ap (λ z. leads_in (take e edges) z.1) (sym (get_or_from_slice_get edges e (q, t) (0, 0) at_)))

pub watch_first : (edges : List (ℕ × ℕ)) (e q t : ℕ) → Edge edges e q t → ((f p : ℕ) → f < e → ¬ (Edge edges f p t))
    → 1 ≡ first_watch edges e
watch_first edges e q t at_ none = ⊎_elim
    (λ b. absurd (let f = first_edge (take e edges) t b in let r =
    taken edges e f.0 (f.1, t) f.2 in none f.0 f.1 r.0 r.1))
    (λ b. ap (λ z. cond z 0 1)
    (sym b ∙ ap (λ z. leads_in (take e edges) z.1) (sym (get_or_from_slice_get edges e (q, t) (0, 0) at_))))
    (cases_Bool (leads_in (take e edges) t))

-- a note among those that wait for none belongs to the cycle
pub roots_within : (edges : List (ℕ × ℕ)) (n t : ℕ) → 0 < times t (roots_below edges n) → t < n
roots_within edges n t h = grind (arith, common_steps, cases_lt, root_out)
