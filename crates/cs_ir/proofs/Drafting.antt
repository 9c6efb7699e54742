-- Drafting: steps are appended one after another, and the targets of jumps are set.
use Rattle.std.proofs.Common.{◌≡◌, ◌∙◌, ◌+◌, ◌≤◌, ◌<◌, ◌++◌, ℕ, zero, suc, true, List, [], ◌∷◌, length, Some, eqb-true}
use Rattle.std.proofs.Common.{get_or, leb-true, nat_le, slice_get, set, arith, refl, sym, ap, subst}
use Rattle.std.proofs.lemmas.{Bool.and_from, Bool.and_parts, Bool.Decides.nat_tests, Option.slice_get_within}
use Rattle.std.proofs.lemmas.List.{append-nil, append_assoc, length-append}
use Rattle.cs_ir.proofs.Aiming.{aim_high}
use Rattle.cs_ir.proofs.Places.{place_more, step_long, steps_alike, steps_both, steps_long}
use Rattle.cs_ir.specs.{Codes.aim, Codes.aimed, Codes.is_unaimed, declared.op.Act.Act, declared.op.Op.Op}
use Rattle.cs_ir.specs.{declared.step.Call.Call, declared.step.Step.Step, inner.Steps.aim_step, inner.Steps.aimed_step}
use Rattle.cs_ir.specs.Drafts.{Aimed, Draft, Grew, IsAt, drafted, library_of}
use Rattle.cs_ir.specs.Flat.{are_within, flat, flat_from, flat_step, goes_within, is_within, moved_ops, ops_at}
use Rattle.cs_ir.specs.Flat.{place_of, placed, size, window_of}
use Rattle.cs_ir.specs.declared.op.Act.TheVariants as act
use Rattle.cs_ir.specs.declared.step.Step.TheVariants as step

-- ---- one more step

-- the ops of earlier steps are unchanged, because their jumps go at most to the end of these steps
pub one_more : (rs : List (List Op)) (ss : List Step) (s : Step) → are_within (length ss) ss ≡ true
    → flat rs (ss ++ s ∷ []) ≡ flat rs ss ++ flat_step rs (λ to. place_of rs to (ss ++ s ∷ [])) (length (flat rs ss)) s
one_more rs ss s within =
    let old : ℕ → ℕ = λ to. place_of rs to ss in
    let new : ℕ → ℕ = λ to. place_of rs to (ss ++ s ∷ []) in
    let end : 0 + place_of rs (length ss) ss ≡ length (flat rs ss) =
    (let e = steps_long rs old 0 ss in omega (arith, e)) in
    steps_both rs new 0 ss (s ∷ []) ∙ ap (λ l. l ++ flat_from rs new (0 + place_of rs (length ss) ss) (s ∷ []))
    (steps_alike rs new old (length ss) 0 ss (λ to low. place_more rs to ss (s ∷ []) low) within)
    ∙ ap (λ l. flat rs ss ++ l) (append-nil (flat_step rs new (0 + place_of rs (length ss) ss) s))
    ∙ ap (λ k. flat rs ss ++ flat_step rs new k s) end

unaimed_stays : (f : ℕ → ℕ) (a : Act) → f 0 ≡ 0 → is_unaimed a ≡ true → placed f a ≡ a
unaimed_stays f (act.Jump to) first un =
    let zero_is : to ≡ 0 = eqb-true to 0 un in
    ap act.Jump (ap f zero_is ∙ first ∙ sym zero_is)
unaimed_stays f (act.Unless to) first un =
    let zero_is : to ≡ 0 = eqb-true to 0 un in
    ap act.Unless (ap f zero_is ∙ first ∙ sym zero_is)
unaimed_stays f a first un = refl

-- one more op, which isn't a jump with a target
pub op_more : (rs : List (List Op)) (ss : List Step) (op : Op) → are_within (length ss) ss ≡ true
    → is_unaimed op.act ≡ true → flat rs (ss ++ step.Do op ∷ []) ≡ flat rs ss ++ op ∷ []
op_more rs ss op within un =
    one_more rs ss (step.Do op) within
    ∙ ap (λ (a : Act). flat rs ss ++ record op { act = a } ∷ [])
    (unaimed_stays (λ to. place_of rs to (ss ++ step.Do op ∷ [])) op.act refl un)

-- one more call
pub call_more : (rs : List (List Op)) (ss : List Step) (c : Call) → are_within (length ss) ss ≡ true
    → flat rs (ss ++ step.Invoke c ∷ [])
    ≡ flat rs ss ++ moved_ops (window_of c) (length (flat rs ss)) (ops_at rs c.routine)
call_more rs ss c within = one_more rs ss (step.Invoke c) within

-- ---- the places of marks

slice_get_more : {A : Type 0} (xs ys : List A) (n : ℕ) (x : A) → slice_get xs n ≡ Some x
    → slice_get (xs ++ ys) n ≡ Some x
slice_get_more [] ys n x is = absurd (cc)
slice_get_more (y ∷ xs) ys zero x is = is
slice_get_more (y ∷ xs) ys (suc n) x is = slice_get_more xs ys n x is

slice_get_end : {A : Type 0} (xs : List A) (x : A) → slice_get (xs ++ x ∷ []) (length xs) ≡ Some x
slice_get_end [] x = refl
slice_get_end (y ∷ xs) x = slice_get_end xs x

pub marks_stay : (d : Draft) (s : Step) (mark place : ℕ) → IsAt d mark place
    → IsAt (record d { steps = d.steps ++ s ∷ [] }) mark place
marks_stay d s mark place h = record {
  op = h.op;
  is = slice_get_more d.steps (s ∷ []) mark (step.Do h.op) h.is;
  stands = h.stands ∙ sym (place_more (library_of d) mark d.steps (s ∷ [])
      (let e = slice_get_within d.steps mark (step.Do h.op) h.is in omega (arith, e)));
}

pub mark_there : (d : Draft) (op : Op)
    → IsAt (record d { steps = d.steps ++ step.Do op ∷ [] }) (length d.steps) (length (drafted d))
mark_there d op = record {
  op = op;
  is = slice_get_end d.steps (step.Do op);
  stands = steps_long (library_of d) (λ to. place_of (library_of d) to d.steps) 0 d.steps
      ∙ sym (place_more (library_of d) (length d.steps) d.steps (step.Do op ∷ []) (omega arith));
}

pub grew_by : (d : Draft) (s : Step) (more : List Op) → flat (library_of d) (d.steps ++ s ∷ []) ≡ drafted d ++ more
    → Grew d (record d { steps = d.steps ++ s ∷ [] }) more
grew_by d s more is = record { ops = is; routines = refl; marks = marks_stay d s }

pub grew_none : (d : Draft) → Grew d d []
grew_none d = record { ops = sym (append-nil (drafted d)); routines = refl; marks = λ mark place h. h }

pub grew_on : (a b c : Draft) (xs ys : List Op) → Grew a b xs → Grew b c ys → Grew a c (xs ++ ys)
grew_on a b c xs ys one two = record {
  ops = two.ops ∙ ap (λ l. l ++ ys) one.ops ∙ append_assoc (drafted a) xs ys;
  routines = two.routines ∙ one.routines;
  marks = λ mark place h. two.marks mark place (one.marks mark place h);
}

-- ---- a jump whose target is set

aimed_placed : (f : ℕ → ℕ) (to : ℕ) (a : Act) → placed f (aimed to a) ≡ aimed (f to) (placed f a)
aimed_placed f to (act.Jump old) = refl
aimed_placed f to a = refl

-- ---- steps in which the target of one is set

pub step_set : (ss : List Step) (n to : ℕ) (s t : Step) → n < length ss → s ≡ get_or ss n s → t ≡ aimed_step to s
    → set ss n t ≡ aim_step n to ss
step_set [] n to s t low is new = absurd (omega (arith, low))
step_set (x ∷ ss) zero to s t low is new = ap (λ y. y ∷ ss) new ∙ ap (λ y. aimed_step to y ∷ ss) is
step_set (x ∷ ss) (suc n) to s t low is new = ap (λ l. x ∷ l) (step_set ss n to s t (omega (arith, low)) is new)

pub step_none : (ss : List Step) (n to : ℕ) → length ss ≤ n → aim_step n to ss ≡ ss
step_none [] n to far = refl
step_none (s ∷ ss) zero to far = absurd (omega (arith, far))
step_none (s ∷ ss) (suc n) to far = ap (λ l. s ∷ l) (step_none ss n to (omega (arith, far)))

pub steps_stay : (ss : List Step) (n to : ℕ) → length (aim_step n to ss) ≡ length ss
steps_stay [] n to = refl
steps_stay (s ∷ ss) zero to = refl
steps_stay (s ∷ ss) (suc n) to = ap suc (steps_stay ss n to)

module _ (rs : List (List Op)) where
  -- the step still expands to one op, so all places are unchanged
  pub places_stay : (to n : ℕ) (ss : List Step) (i : ℕ) → place_of rs n (aim_step i to ss) ≡ place_of rs n ss
  places_stay to (suc n) (step.Do op ∷ ss) zero = refl
  places_stay to (suc n) (s ∷ ss) (suc i) = ap (λ k. size rs s + k) (places_stay to n ss i)
  places_stay to n ss i = refl

  aim_from : (f : ℕ → ℕ) (to p : ℕ) (ss : List Step) (i : ℕ) (op : Op) → slice_get ss i ≡ Some (step.Do op)
      → flat_from rs f p (aim_step i to ss) ≡ aim (place_of rs i ss) (f to) (flat_from rs f p ss)
  aim_from f to p [] i op is = absurd (cc)
  aim_from f to p (step.Do x ∷ ss) zero op is =
      ap (λ (a : Act). record x { act = a } ∷ flat_from rs f (p + 1) ss) (aimed_placed f to x.act)
  aim_from f to p (step.Invoke c ∷ ss) zero op is = absurd (cc)
  aim_from f to p (s ∷ ss) (suc i) op is =
      let long = step_long rs f p s in
      ap (λ l. flat_step rs f p s ++ l) (aim_from f to (p + size rs s) ss i op is)
      ∙ sym (aim_high (flat_step rs f p s) (flat_from rs f (p + size rs s) ss) (place_of rs i ss) (f to))
      ∙ ap (λ k. aim (k + place_of rs i ss) (f to) (flat_step rs f p s ++ flat_from rs f (p + size rs s) ss)) long

  pub aimed_end : (ss : List Step) (i : ℕ) (op : Op) → slice_get ss i ≡ Some (step.Do op)
      → flat rs (aim_step i (length ss) ss) ≡ aim (place_of rs i ss) (length (flat rs ss)) (flat rs ss)
  aimed_end ss i op is =
      let f : ℕ → ℕ = λ to. place_of rs to ss in
      ap (λ (g : ℕ → ℕ). flat_from rs g 0 (aim_step i (length ss) ss))
      (λ j to. places_stay (length ss) to ss i j) ∙ aim_from f (length ss) 0 ss i op is
      ∙ ap (λ k. aim (place_of rs i ss) k (flat rs ss)) (sym (steps_long rs f 0 ss))

-- an op remains an op when the target of a jump is set
op_stays : (ss : List Step) (n to m : ℕ) (op : Op) → slice_get ss m ≡ Some (step.Do op)
    → (new : Op) × (slice_get (aim_step n to ss) m ≡ Some (step.Do new))
op_stays (step.Do x ∷ ss) zero to zero op is = (record x { act = aimed to x.act }, refl)
op_stays (s ∷ ss) (suc n) to (suc m) op is = op_stays ss n to m op is
op_stays ss n to m op is = (op, is)

pub aimed_so : (d : Draft) (mark place : ℕ) → IsAt d mark place
    → Aimed d (record d { steps = aim_step mark (length d.steps) d.steps }) place
aimed_so d mark place h = record {
  ops = aimed_end (library_of d) d.steps mark h.op h.is
      ∙ ap (λ k. aim k (length (drafted d)) (drafted d)) (sym h.stands);
  routines = refl;
  marks = λ m other k. let new = op_stays d.steps mark (length d.steps) m k.op k.is in record {
    op = new.0;
    is = new.1;
    stands = k.stands ∙ sym (places_stay (library_of d) (length d.steps) m d.steps mark);
  };
}

-- ---- jumps stay within the steps

le_true : (m n : ℕ) → m ≤ n → nat_le m n ≡ true
le_true m n low = grind (arith, nat_tests)

within_later : (n : ℕ) (ss : List Step) → are_within n ss ≡ true → are_within (suc n) ss ≡ true
within_later n [] h = refl
within_later n (s ∷ ss) h =
    let parts = and_parts (is_within n s) (are_within n ss) h in
    and_from _ _ (one s parts.0) (within_later n ss parts.1)
  where
    goes_later : (a : Act) → goes_within n a ≡ true → goes_within (suc n) a ≡ true
    goes_later (act.Jump to) low = le_true to (suc n) (let e = leb-true to n low in omega (arith, e))
    goes_later (act.Unless to) low = le_true to (suc n) (let e = leb-true to n low in omega (arith, e))
    goes_later a low = refl

    one : (s : Step) → is_within n s ≡ true → is_within (suc n) s ≡ true
    one (step.Do op) low = goes_later op.act low
    one (step.Invoke c) low = refl

within_both : (n : ℕ) (ss more : List Step) → are_within n ss ≡ true → are_within n more ≡ true
    → are_within n (ss ++ more) ≡ true
within_both n [] more h k = k
within_both n (s ∷ ss) more h k =
    let parts = and_parts (is_within n s) (are_within n ss) h in and_from _ _ parts.0 (within_both n ss more parts.1 k)

pub within_more : (ss : List Step) (s : Step) → are_within (length ss) ss ≡ true → is_within (length ss) s ≡ true
    → are_within (length (ss ++ s ∷ [])) (ss ++ s ∷ []) ≡ true
within_more ss s h here =
    let long : suc (length ss) ≡ length (ss ++ s ∷ []) =
    (let e = length-append ss (s ∷ []) in omega (arith, e)) in
    subst (λ n. are_within n (ss ++ s ∷ []) ≡ true) long
    (within_both (suc (length ss)) ss (s ∷ []) (within_later (length ss) ss h)
    (within_later (length ss) (s ∷ []) (and_from _ _ here refl)))

pub unaimed_within : (n : ℕ) (a : Act) → is_unaimed a ≡ true → goes_within n a ≡ true
unaimed_within n (act.Jump to) un = ap (λ k. nat_le k n) (eqb-true to 0 un) ∙ le_true 0 n (omega arith)
unaimed_within n (act.Unless to) un = ap (λ k. nat_le k n) (eqb-true to 0 un) ∙ le_true 0 n (omega arith)
unaimed_within n a un = refl

-- setting a target to a step, or to the end
pub aim_within : (k : ℕ) (ss : List Step) (n to : ℕ) → are_within k ss ≡ true → to ≤ k
    → are_within k (aim_step n to ss) ≡ true
aim_within k [] n to h low = refl
aim_within k (step.Do op ∷ ss) zero to h low =
    and_from _ _ (by op.act (and_parts (goes_within k op.act) (are_within k ss) h).0)
    (and_parts (goes_within k op.act) (are_within k ss) h).1
  where
    by : (a : Act) → goes_within k a ≡ true → goes_within k (aimed to a) ≡ true
    by (act.Jump old) g = le_true to k low
    by (act.Unless old) g = le_true to k low
    by a g = refl
aim_within k (step.Invoke c ∷ ss) zero to h low = h
aim_within k (s ∷ ss) (suc n) to h low =
    let parts = and_parts (is_within k s) (are_within k ss) h in
    and_from _ _ parts.0 (aim_within k ss n to parts.1 low)

-- ---- drafts, as the contracts speak of them

pub draft_op : (d : Draft) (op : Op) → are_within (length d.steps) d.steps ≡ true → is_unaimed op.act ≡ true
    → Grew d (record d { steps = d.steps ++ step.Do op ∷ [] }) (op ∷ [])
draft_op d op within un = grew_by d (step.Do op) (op ∷ []) (op_more (library_of d) d.steps op within un)

pub draft_call : (d : Draft) (c : Call) → are_within (length d.steps) d.steps ≡ true
    → Grew d (record d { steps = d.steps ++ step.Invoke c ∷ [] })
    (moved_ops (window_of c) (length (drafted d)) (ops_at (library_of d) c.routine))
draft_call d c within =
    grew_by d (step.Invoke c) (moved_ops (window_of c) (length (drafted d)) (ops_at (library_of d) c.routine))
    (call_more (library_of d) d.steps c within)
