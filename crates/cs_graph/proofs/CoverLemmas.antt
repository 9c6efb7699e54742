-- The division of the notes into chains, one by one, and how many may run at once.
use Rattle.std.proofs.lemmas.{Grind.common_steps, Option.get_or_from_slice_get, Option.same_Some}
use Rattle.std.proofs.Common.{◌≡◌, ◌≢◌, ℕ, ◌+◌, ◌<◌, ◌≤◌, Bool, true, false, List, length, get_or, set, replicate}
use Rattle.std.proofs.Common.{cond, eqb, refl, sym, ap, ◌∙◌, subst, inl, inr, ⊎_elim, arith, get_or-set_same}
use Rattle.std.proofs.Common.{get_or-set_other}
use Rattle.std.proofs.lemmas.Bool.{both_ways, cases_eq, cases_lt, eq-eqb, ne_eqb}
use Rattle.std.proofs.lemmas.List.{get_or-replicate, get_or_past, length-replicate}
use Rattle.cs_graph.specs.{Cover.IsCover, Cover.AreApart, inner.Index.AreInto}
use Rattle.cs_graph.specs.Graph.{Edge, Reaches, step, onward, LeadsForward}
use Rattle.cs_graph.specs.inner.Covering.{goes_on, IsCoveredTo, ArePartedTo, IsFree, AreTaken}
use Rattle.cs_graph.proofs.Pigeonhole.{pigeonhole}

-- f with the value c at k
unfoldable pub put : (ℕ → ℕ) → ℕ → ℕ → ℕ → ℕ
put f k c i = cond (eqb i k) c (f i)

put_here : (f : ℕ → ℕ) (k c i : ℕ) → i ≡ k → put f k c i ≡ c
unfolding put
put_here f k c i e = ap (λ b. cond b c (f i)) (eq-eqb i k e)

put_else : (f : ℕ → ℕ) (k c i : ℕ) → (i ≡ k → ⊥) → put f k c i ≡ f i
unfolding put
put_else f k c i n = ap (λ b. cond b c (f i)) (ne_eqb i k n)

none_goes_on : (n p : ℕ) → goes_on (replicate n false) p ≡ false
none_goes_on n p = grind (arith, common_steps, cases_lt, get_or-replicate, get_or_past, length-replicate, replicate)

pub covered_none : (edges : List (ℕ × ℕ)) (n : ℕ) → IsCoveredTo edges 0 (replicate n false) 0 (λ t. t)
covered_none edges n = grind (arith, common_steps, both_ways, none_goes_on)

module _ (edges : List (ℕ × ℕ)) (m count : ℕ) (continued : List Bool) (chain : ℕ → ℕ)
    (c : IsCoveredTo edges m continued count chain) where
  -- an earlier note stays in its chain
  stays : (x t : ℕ) → t < m → put chain m x t ≡ chain t
  stays x t l = put_else chain m x t (λ e. omega (arith, l, e))

  -- note m begins a chain: all notes from which edges lead to it have later notes in their chains
  pub covered_begin : ((e p : ℕ) → Edge edges e p m → goes_on continued p ≡ true)
      → IsCoveredTo edges (m + 1) continued (count + 1) (put chain m count)
  covered_begin taken = record {
    within = λ t l. ⊎_elim
        (λ (e : t ≡ m). omega (arith, put_here chain m count t e))
        (λ n. let low : t < m = omega (arith, l, n) in omega (arith, stays count t low, c.within t low))
        (cases_eq t m);
    filled = λ k l. ⊎_elim
        (λ (e : k ≡ count). (m, omega arith, put_here chain m count m refl ∙ sym e))
        (λ n. let w = c.filled k (omega (arith, l, n)) in (w.0, omega (arith, w.1), stays count w.0 w.1 ∙ w.2))
        (cases_eq k count);
    linked = λ p t l h same. ⊎_elim
        (λ (e : t ≡ m). let low : p < m = omega (arith, l, e) in absurd
        (omega (arith, stays count p low, put_here chain m count t e, same, c.within p low)))
        (λ n. let low : t < m = omega (arith, h, n) in let far : p < m =
        omega (arith, low, l) in c.linked p t l low (sym (stays count p far) ∙ same ∙ stays count t low))
        (cases_eq t m);
    last = λ p q l h free same. ⊎_elim
        (λ (e : p ≡ m). omega (arith, e, h))
        (λ n. let low : p < m = omega (arith, l, n) in ⊎_elim
        (λ (f : q ≡ m). absurd (omega (arith, stays count p low, put_here chain m count q f, same, c.within p low)))
        (λ o. let far : q < m = omega (arith, h, o) in c.last p q low far free
        (sym (stays count q far) ∙ same ∙ stays count p low))
        (cases_eq q m))
        (cases_eq p m);
    later = λ p goes. let w =
        c.later p goes in (
          w.0,
          w.1,
          omega (arith, w.2),
          stays count w.0 w.2 ∙ w.3
              ∙ sym (stays count p (omega (arith, w.1, w.2))),
        );
    joined = λ e p t l at_. ⊎_elim
        (λ (f : t ≡ m). inl (taken e p (subst (λ x. Edge edges e p x) f at_)))
        (λ n. let low : t < m = omega (arith, l, n) in ⊎_elim
        (λ k. inl k)
        (λ k. inr (k.0, k.1, stays count k.0 (omega (arith, k.1, low)) ∙ k.2 ∙ sym (stays count t low)))
        (c.joined e p t low at_))
        (cases_eq t m);
  }

  -- note m continues the chain of note p, which had no later note
  module _ (i p : ℕ) (edge : Edge edges i p m) (before : p < m) (inside : p < length continued)
      (free : goes_on continued p ≡ false) where
    now_goes_on : (a : ℕ) → a ≡ p → goes_on (set continued p true) a ≡ true
    now_goes_on a e = ap (λ x. goes_on (set continued p true) x) e ∙ get_or-set_same continued p true false inside

    as_before : (a : ℕ) → a ≢ p → goes_on (set continued p true) a ≡ goes_on continued a
    as_before a n = get_or-set_other continued p a true false n

    -- a note in the same chain is p itself, or p waits for it
    reaches : (q : ℕ) → q < m → chain q ≡ chain p → Reaches edges q m
    reaches q l same = ⊎_elim
        (λ (e : q ≡ p). subst (λ x. Reaches edges x m) (sym e) (step i p m edge))
        (λ n. onward i q p m (c.linked q p (let low : q ≤ p = c.last p q before l free same in omega (arith, low, n))
        before same) edge)
        (cases_eq q p)

    pub covered_on : IsCoveredTo edges (m + 1) (set continued p true) count (put chain m (chain p))
    covered_on =
        let x : ℕ = chain p in
        record {
          within = λ t l. ⊎_elim
              (λ (e : t ≡ m). omega (arith, put_here chain m x t e, c.within p before))
              (λ n. let low : t < m = omega (arith, l, n) in omega (arith, stays x t low, c.within t low))
              (cases_eq t m);
          filled = λ k l. let w = c.filled k l in (w.0, omega (arith, w.1), stays x w.0 w.1 ∙ w.2);
          linked = λ q t l h same. ⊎_elim
              (λ (e : t ≡ m). let low : q < m = omega (arith, l, e) in subst (λ z. Reaches edges q z) (sym e)
              (reaches q low (sym (stays x q low) ∙ same ∙ put_here chain m x t e)))
              (λ n. let low : t < m = omega (arith, h, n) in let far : q < m =
              omega (arith, low, l) in c.linked q t l low (sym (stays x q far) ∙ same ∙ stays x t low))
              (cases_eq t m);
          last = λ a q l h goes same. ⊎_elim
              (λ (e : a ≡ m). omega (arith, e, h))
              (λ n. let low : a < m = omega (arith, l, n) in
              let other : a ≢ p = λ f. both_ways _ goes (now_goes_on a f) in
              let was : goes_on continued a ≡ false = sym (as_before a other) ∙ goes in
              ⊎_elim
              (λ (f : q ≡ m). let one : chain p ≡ chain a = sym (put_here chain m x q f) ∙ same ∙ stays x a low in
              let up : p ≤ a = c.last a p low before was one in
              let down : a ≤ p = c.last p a before low free (sym one) in absurd (other (omega (arith, up, down))))
              (λ o. let far : q < m = omega (arith, h, o) in c.last a q low far was
              (sym (stays x q far) ∙ same ∙ stays x a low))
              (cases_eq q m))
              (cases_eq a m);
          later = λ a goes. ⊎_elim
              (λ (e : a ≡ p). (
                m,
                omega (arith, e, before),
                omega arith,
                put_here chain m x m refl
                    ∙ sym (stays x p before) ∙ ap (put chain m x) (sym e),
              ))
              (λ n. let w = c.later a (sym (as_before a n) ∙ goes) in (
                w.0,
                w.1,
                omega (arith, w.2),
                stays x w.0 w.2
                    ∙ w.3 ∙ sym (stays x a (omega (arith, w.1, w.2))),
              ))
              (cases_eq a p);
          joined = λ e a t l at_. ⊎_elim
              (λ (f : t ≡ m). inr (p, omega (arith, f, before), stays x p before ∙ sym (put_here chain m x t f)))
              (λ n. let low : t < m = omega (arith, l, n) in ⊎_elim
              (λ k. inl (⊎_elim (λ f. now_goes_on a f) (λ o. as_before a o ∙ k) (cases_eq a p)))
              (λ k. inr (k.0, k.1, stays x k.0 (omega (arith, k.1, low)) ∙ k.2 ∙ sym (stays x t low)))
              (c.joined e a t low at_))
              (cases_eq t m);
        }

-- note m, whose edges are in a range
module _ (edges : List (ℕ × ℕ)) (m count first end_ : ℕ) (into : AreInto edges m first end_) (continued : List Bool)
    (so_far : ArePartedTo edges m continued count) where
  pub parted_free : (p : ℕ) → LeadsForward edges (length continued) → IsFree edges continued first end_ p
      → ArePartedTo edges (m + 1) (set continued p true) count
  parted_free p forward f =
      let x = (into f.0).0 (f.2, f.3) in
      let same : f.1 ≡ m = ap (λ z. z.1) (same_Some (p, f.1) (x.0, m) (sym f.4 ∙ x.1)) in
      let edge : Edge edges f.0 p m = subst (λ b. Edge edges f.0 p b) same f.4 in
      let way = forward f.0 p m edge in
      let low : p < m = way.0 in (
        put so_far.0 m (so_far.0 p),
        covered_on edges m count continued so_far.0 so_far.1 f.0 p edge low (omega (arith, low, way.1)) f.5,
      )

  pub parted_taken : AreTaken edges continued first end_ → ArePartedTo edges (m + 1) continued (count + 1)
  parted_taken t = (
    put so_far.0 m count,
    covered_begin edges m count continued so_far.0 so_far.1
        (λ e p at_. let w = (into e).1 (p, at_) in t e p m w.0 w.1 at_),
  )

-- all notes are divided into chains
pub covers : (edges : List (ℕ × ℕ)) (n count : ℕ) (continued : List Bool) (chain : ℕ → ℕ) → LeadsForward edges n
    → IsCoveredTo edges n continued count chain → IsCover edges n count chain
covers edges n count continued chain forward c = grind (arith, common_steps)

-- notes that may run at once are in different chains
module _ (edges : List (ℕ × ℕ)) (n count : ℕ) (chain : ℕ → ℕ) (c : IsCover edges n count chain) (notes : List ℕ)
    (a : AreApart edges n notes) where
  abbrev place : ℕ → ℕ
  place i = chain (get_or notes i 0)

  never : (i j : ℕ) → i < j → j < length notes → place i ≡ place j → ⊥
  never i j l h same =
      let p : ℕ = get_or notes i 0 in
      let t : ℕ = get_or notes j 0 in
      let w = a.apart i j 0 l h in
      ⊎_elim
      (λ (up : p < t). w.1 (c.linked p t up (a.within j 0 h) same))
      (λ (down : t ≤ p). w.2 (c.linked t p (let ne : p ≢ t = w.0 in omega (arith, down, ne))
      (a.within i 0 (omega (arith, l, h))) (sym same)))
      (cases_lt p t)

  pub no_more_apart : length notes ≤ count
  no_more_apart = pigeonhole (length notes) count place
      (λ i l. c.within (get_or notes i 0) (a.within i 0 l))
      (λ i j l h same. ⊎_elim
      (λ (up : i < j). absurd (never i j up h same))
      (λ (down : j ≤ i). ⊎_elim
      (λ e. e)
      (λ ne. absurd (never j i (omega (arith, down, ne)) l (sym same)))
      (cases_eq i j))
      (cases_lt i j))

-- the source of one more edge has a later note in its chain
pub taken_more : (edges : List (ℕ × ℕ)) (continued : List Bool) (first e : ℕ) → e < length edges
    → goes_on continued (get_or edges e (0, 0)).0 ≡ true → AreTaken edges continued first e
    → AreTaken edges continued first (e + 1)
taken_more edges continued first e within taken so_far f p t low high at_ = ⊎_elim
    (λ (here : f ≡ e). let read : get_or edges e (0, 0) ≡ (p, t) =
    get_or_from_slice_get edges e (p, t) (0, 0) (rw (← here) at_) in
    subst (λ x. goes_on continued x.0 ≡ true) read taken)
    (λ apart. so_far f p t low (omega arith) at_)
    (cases_eq f e)
