-- The ops of a routine in a list of routines, at any place where it is invoked.
use Rattle.std.proofs.Common.{◌≡◌, ◌∙◌, ◌+◌, ◌<◌, ◌≤◌, ◌++◌, ℕ, zero, suc, List, [], ◌∷◌, length, map, take, drop, Some}
use Rattle.std.proofs.Common.{get_or, ltb-true, nat_lt, slice_get, true, arith, refl, sym, ap, subst}
use Rattle.std.proofs.lemmas.{Option.slice_get-get_or, List.take-append-drop}
use Rattle.std.proofs.lemmas.List.{get_or_append_left, length-append, length-map, length-take-le, map-append}
use Rattle.cs_ir.proofs.Twice.{call_twice}
use Rattle.cs_ir.specs.Flat.{flat, further, more_routines, moved_ops, ops_at, window_of}
use Rattle.cs_ir.specs.Routines.{AreRoutines, AreRoutinesFrom, IsRoutineOf, library_in, ops_in, steps_of}
use Rattle.cs_ir.specs.{declared.op.Op.Op, declared.step.Call.Call, declared.step.Step.Step}
use Rattle.cs_ir.specs.declared.routine.Routine.{Routine}
use Rattle.cs_ir.specs.declared.step.Step.TheVariants as step

-- ---- lists of ops, routine by routine

-- the ops of the first routines stay the first
pub more_both : (rs : List (List Op)) (xs ys : List (List Step))
    → more_routines rs (xs ++ ys) ≡ more_routines (more_routines rs xs) ys
more_both rs [] ys = refl
more_both rs (x ∷ xs) ys = more_both (rs ++ flat rs x ∷ []) xs ys

pub more_long : (rs : List (List Op)) (xs : List (List Step)) → length (more_routines rs xs) ≡ length rs + length xs
more_long rs [] = let e : length rs ≡ length rs + 0 = omega arith in e
more_long rs (x ∷ xs) =
    let rest = more_long (rs ++ flat rs x ∷ []) xs in
    let one = length-append rs (flat rs x ∷ []) in
    omega (arith, rest, one)

-- the ops of a routine that is among the first ones
pub more_first : (rs : List (List Op)) (xs : List (List Step)) (n : ℕ) → n < length rs
    → ops_at (more_routines rs xs) n ≡ ops_at rs n
more_first rs [] n low = refl
more_first rs (x ∷ xs) n low =
    more_first (rs ++ flat rs x ∷ []) xs n (let e = length-append rs (flat rs x ∷ []) in omega (arith, low, e))
    ∙ get_or_append_left rs (flat rs x ∷ []) [] n low

at_end : (rs : List (List Op)) (x : List Op) → ops_at (rs ++ x ∷ []) (length rs) ≡ x
at_end [] x = refl
at_end (r ∷ rs) x = at_end rs x

-- the routine with a number expands to its steps, which invoke earlier routines
pub more_at : (rs : List (List Op)) (list : List Routine) (n : ℕ) (r : Routine) → slice_get list n ≡ Some r
    → ops_at (more_routines rs (map steps_of list)) (length rs + n)
    ≡ ops_in (more_routines rs (map steps_of (take n list))) r
more_at rs [] n r is = absurd (cc)
more_at rs (x ∷ list) zero r is =
    let same : x ≡ r = cc in
    let here : length rs + 0 ≡ length rs = omega arith in
    let ops : List Op = flat rs (steps_of x) in
    ap (ops_at (more_routines (rs ++ ops ∷ []) (map steps_of list))) here
    ∙ more_first (rs ++ ops ∷ []) (map steps_of list) (length rs)
    (let e = length-append rs (ops ∷ []) in omega (arith, e)) ∙ at_end rs ops ∙ ap (ops_in rs) same
more_at rs (x ∷ list) (suc n) r is =
    let ops : List Op = flat rs (steps_of x) in
    let long : length (rs ++ ops ∷ []) + n ≡ length rs + suc n =
    (let e = length-append rs (ops ∷ []) in omega (arith, e)) in
    ap (ops_at (more_routines (rs ++ ops ∷ []) (map steps_of list))) (sym long) ∙ more_at (rs ++ ops ∷ []) list n r is

pub routine_at : (list : List Routine) (n : ℕ) (r : Routine) → slice_get list n ≡ Some r
    → ops_at (library_in list) n ≡ ops_in (library_in (take n list)) r
routine_at list n r is =
    let here : n ≡ 0 + n = omega arith in ap (ops_at (library_in list)) here ∙ more_at [] list n r is

-- a number that no routine has gives no ops
pub routine_none : (list : List Routine) (n : ℕ) → length list ≤ n → ops_at (library_in list) n ≡ []
routine_none list n far = past (library_in list) n (let e = more_long [] (map steps_of list) in
    let f = mapped list in omega (arith, far, e, f))
  where
    past : (rs : List (List Op)) (n : ℕ) → length rs ≤ n → ops_at rs n ≡ []
    past [] n far = refl
    past (r ∷ rs) zero far = absurd (omega (arith, far))
    past (r ∷ rs) (suc n) far = past rs n (omega (arith, far))

    mapped : (list : List Routine) → length (map steps_of list) ≡ length list
    mapped [] = refl
    mapped (r ∷ list) = ap suc (mapped list)

pub routine_empty : (list : List Routine) (n : ℕ) (r : Routine) → slice_get list n ≡ Some r → steps_of r ≡ []
    → ops_at (library_in list) n ≡ []
routine_empty list n r is none = routine_at list n r is ∙ ap (flat (library_in (take n list))) none

-- a routine as the code finds it
pub found : (list : List Routine) (n : ℕ) (r : Routine) → true ≡ nat_lt n (length list) → r ≡ get_or list n r
    → slice_get list n ≡ Some r
found list n r there is = slice_get-get_or list n r (ltb-true n (length list) (sym there)) ∙ ap Some (sym is)

-- ---- the stored data of routines

-- one of the routines, given the ones before it
pub each_from : (before : List (List Op)) (list : List Routine) (n : ℕ) (r : Routine) → AreRoutinesFrom before list
    → slice_get list n ≡ Some r → IsRoutineOf (more_routines before (map steps_of (take n list))) r
each_from before [] n r h is = absurd (cc)
each_from before (x ∷ list) zero r h is = let same : x ≡ r = cc in subst (IsRoutineOf before) same h.0
each_from before (x ∷ list) (suc n) r h is = each_from (before ++ ops_in before x ∷ []) list n r h.1 is

pub each_routine : (list : List Routine) (n : ℕ) (r : Routine) → AreRoutines list → slice_get list n ≡ Some r
    → IsRoutineOf (library_in (take n list)) r
each_routine list n r h is = each_from [] list n r h is

-- one more routine
more_from : (before : List (List Op)) (list : List Routine) (r : Routine) → AreRoutinesFrom before list
    → IsRoutineOf (more_routines before (map steps_of list)) r → AreRoutinesFrom before (list ++ r ∷ [])
more_from before [] r h is = (is, tt)
more_from before (x ∷ list) r h is = (h.0, more_from (before ++ ops_in before x ∷ []) list r h.1 is)

pub one_more_routine : (list : List Routine) (r : Routine) → AreRoutines list → IsRoutineOf (library_in list) r
    → AreRoutines (list ++ r ∷ [])
one_more_routine list r h is = more_from [] list r h is

pub library_more : (list : List Routine) (r : Routine)
    → library_in (list ++ r ∷ []) ≡ library_in list ++ ops_in (library_in list) r ∷ []
library_more list r =
    ap (more_routines []) (map-append steps_of list (r ∷ [])) ∙ more_both [] (map steps_of list) (steps_of r ∷ [])

-- a routine among the first ones
pub library_first : (list : List Routine) (n k : ℕ) → k < n → n ≤ length list
    → ops_at (library_in list) k ≡ ops_at (library_in (take n list)) k
library_first list n k low all =
    let first = take n list in
    let both : map steps_of list ≡ map steps_of first ++ map steps_of (drop n list) =
    ap (map steps_of) (sym (take-append-drop n list)) ∙ map-append steps_of first (drop n list) in
    let long : length (library_in first) ≡ n =
    (let e = more_long [] (map steps_of first) in
    let f = length-map first steps_of in
    let g = length-take-le n list all in omega (arith, e, f, g)) in
    ap (λ l. ops_at (more_routines [] l) k) both
    ∙ ap (λ l. ops_at l k) (more_both [] (map steps_of first) (map steps_of (drop n list)))
    ∙ more_first (library_in first) (map steps_of (drop n list)) k (omega (arith, low, long))

-- steps that are one call
pub one_call : (steps : List Step) (first : Step) (call : Call) → 1 ≤ length steps → length steps < 2
    → get_or steps 0 first ≡ step.Invoke call → steps ≡ step.Invoke call ∷ []
one_call [] first call some few is = absurd (omega (arith, some))
one_call (s ∷ []) first call some few is = ap (λ x. x ∷ []) is
one_call (s ∷ r ∷ rest) first call some few is = absurd (omega (arith, few))

-- a routine that only calls an earlier one has the ops of that one, in the windows of both calls
pub called_once : (list : List Routine) (n : ℕ) (r : Routine) (call inner : Call) → slice_get list n ≡ Some r
    → n ≤ length list → steps_of r ≡ step.Invoke inner ∷ [] → inner.routine < n → (place : ℕ)
    → moved_ops (further (window_of call) (window_of inner)) place (ops_at (library_in list) inner.routine)
    ≡ moved_ops (window_of call) place (ops_at (library_in list) n)
called_once list n r call inner is all only earlier place =
    call_twice (window_of call) (window_of inner) place (ops_at (library_in list) inner.routine)
    ∙ ap (λ ops. moved_ops (window_of call) place (moved_ops (window_of inner) 0 ops ++ []))
    (library_first list n inner.routine earlier all)
    ∙ ap (λ steps. moved_ops (window_of call) place (flat (library_in (take n list)) steps)) (sym only)
    ∙ ap (moved_ops (window_of call) place) (sym (routine_at list n r is))
