-- Lists that name the same resources; and the resources that steps touch, directly and through routines.
use Rattle.std.proofs.Common.{◌≡◌, ◌∙◌, ◌+◌, ◌<◌, ◌≤◌, ◌++◌, ◌↔◌, ℕ, zero, suc, List, [], ◌∷◌, length, map, take, Bool}
use Rattle.std.proofs.Common.{true, Some, ◌&&◌, eqb-true, get_or, slice_get, arith, refl, sym, ap, subst, nat_eq}
use Rattle.std.proofs.Common.{⊎_elim, None, Option}
use Rattle.std.specs.{Cmp.IsEquivalence, List.Sorted.IsPermutation}
use Rattle.std.proofs.lemmas.{Cmp.and_equiv, Cmp.nat_eq_equiv, Cmp.on_equiv, Bool.and_parts, List.append-nil}
use Rattle.std.proofs.lemmas.{List.append_assoc, List.get_or_default, List.take_more, List.Concat.flat_map-append}
use Rattle.std.proofs.lemmas.{List.Elements.Contains-push, List.Elements.Contains-push_cases}
use Rattle.std.proofs.lemmas.{List.Sorted.Contains-permutation, List.Sorted.IsPermutation-sym}
use Rattle.std.specs.List.{Contains, dedup, flat_map}
use Rattle.std.proofs.lemmas.List.Elements.{Contains-append_cases, Contains-append_left, Contains-append_right}
use Rattle.std.proofs.lemmas.List.Kept.{Contains-dedup, Contains-dedup_nat, Contains-from_dedup}
use Rattle.cs_base.specs.declared.resource.Res.{Res}
use Rattle.cs_words.specs.declared.catalogue.Space.{Space}
use Rattle.cs_ir.proofs.Libraries.{each_routine, routine_at, routine_none}
use Rattle.cs_ir.specs.Flat.{Begins, flat, flat_from, moved_act, moved_ops, ops_at, place_of, placed, window_of}
use Rattle.cs_ir.specs.Resources.{Access, NameTheSame, Stock, act_touches, may_use, may_write, ops_touch}
use Rattle.cs_ir.specs.{Routines.AreRoutines, Routines.library_in, Routines.ops_in, Touched.named, Touched.named_by}
use Rattle.cs_ir.specs.Touched.{resources}
use Rattle.cs_ir.specs.{declared.op.Act.Act, declared.op.Op.Op, declared.op.Reach.Reach}
use Rattle.cs_ir.specs.{declared.routine.Routine.Routine, declared.step.Step.Step, declared.touches.Touch.Touch}
use Rattle.cs_ir.specs.inner.Naming.{invoked, kept, key_of, own_touches, routines_touch}
use Rattle.cs_base.specs.declared.resource.Res.TheVariants as res
use Rattle.cs_words.specs.declared.catalogue.Space.TheVariants as space
use Rattle.cs_ir.specs.declared.op.Act.TheVariants as act
use Rattle.cs_ir.specs.declared.op.Reach.TheVariants as reach
use Rattle.cs_ir.specs.declared.step.Step.TheVariants as step
use Rattle.cs_ir.specs.declared.touches.Touch.TheVariants as touch

-- ---- lists that name the same resources

pub same_itself : (xs : List Res) → NameTheSame xs xs
same_itself xs g = (λ c. c, λ c. c)

pub same_is : (xs ys : List Res) → xs ≡ ys → NameTheSame xs ys
same_is xs ys e = subst (NameTheSame xs) e (same_itself xs)

pub same_then : (xs ys zs : List Res) → NameTheSame xs ys → NameTheSame ys zs → NameTheSame xs zs
same_then xs ys zs h k g = (λ c. (k g).0 ((h g).0 c), λ c. (h g).1 ((k g).1 c))

pub same_both : (xs ys us vs : List Res) → NameTheSame xs ys → NameTheSame us vs → NameTheSame (xs ++ us) (ys ++ vs)
same_both xs ys us vs h k g = (
  λ c. ⊎_elim (λ a. Contains-append_left ys vs g ((h g).0 a)) (λ b. Contains-append_right ys vs g ((k g).0 b))
      (Contains-append_cases xs us g c),
  λ c. ⊎_elim (λ a. Contains-append_left xs us g ((h g).1 a)) (λ b. Contains-append_right xs us g ((k g).1 b))
      (Contains-append_cases ys vs g c),
)

turned : (xs ys zs : List Res) (g : Res) → Contains (xs ++ (ys ++ zs)) g → Contains (ys ++ (xs ++ zs)) g
turned xs ys zs g c =
    ⊎_elim (λ a. Contains-append_right ys (xs ++ zs) g (Contains-append_left xs zs g a))
    (λ d. ⊎_elim (λ a. Contains-append_left ys (xs ++ zs) g a)
    (λ b. Contains-append_right ys (xs ++ zs) g (Contains-append_right xs zs g b)) (Contains-append_cases ys zs g d))
    (Contains-append_cases xs (ys ++ zs) g c)

-- the first two of three lists can be exchanged
pub same_turned : (xs ys zs : List Res) → NameTheSame (xs ++ (ys ++ zs)) (ys ++ (xs ++ zs))
same_turned xs ys zs g = (turned xs ys zs g, turned ys xs zs g)

-- ---- the resources that lists of elements name

module _ {X : Type 0} (f : X → List Res) where
  first_is : (y x : X) → Contains (y ∷ []) x → y ≡ x
  first_is y x c = ⊎_elim (λ none. absurd (omega (arith, none.1))) (λ e. e) (Contains-push_cases [] y x c)

  given_by : (xs : List X) (g : Res) → Contains (flat_map f xs) g → (x : X) × Contains xs x × Contains (f x) g
  given_by [] g c = absurd (omega (arith, c.1))
  given_by (y ∷ ys) g c =
      ⊎_elim (λ a. (y, Contains-append_left (y ∷ []) ys y (Contains-push [] y), a))
      (λ b. let r = given_by ys g b in (r.0, Contains-append_right (y ∷ []) ys r.0 r.1, r.2))
      (Contains-append_cases (f y) (flat_map f ys) g c)

  gives : (xs : List X) (x : X) (g : Res) → Contains xs x → Contains (f x) g → Contains (flat_map f xs) g
  gives [] x g c d = absurd (omega (arith, c.1))
  gives (y ∷ ys) x g c d =
      ⊎_elim (λ a. Contains-append_left (f y) (flat_map f ys) g
      (subst (λ z. Contains (f z) g) (sym (first_is y x a)) d))
      (λ b. Contains-append_right (f y) (flat_map f ys) g (gives ys x g b d)) (Contains-append_cases (y ∷ []) ys x c)

  given : (xs ys : List X) → ((x : X) → Contains xs x → Contains ys x) → (g : Res) → Contains (flat_map f xs) g
      → Contains (flat_map f ys) g
  given xs ys h g c = let r = given_by xs g c in gives ys r.0 g (h r.0 r.1) r.2

  -- lists of the same elements, repeated any number of times, name the same resources
  pub same_given : (xs ys : List X) → ((x : X) → Contains xs x ↔ Contains ys x)
      → NameTheSame (flat_map f xs) (flat_map f ys)
  same_given xs ys h g = (given xs ys (λ x. (h x).0) g, given ys xs (λ x. (h x).1) g)

module _ {X Y : Type 0} (f : X → List Y) where
  -- one more element of a loop
  pub flat_next : (xs : List X) (i : ℕ) (x : X) → i < length xs → x ≡ get_or xs i x
      → flat_map f (take i xs) ++ f x ≡ flat_map f (take (i + 1) xs)
  flat_next xs i x low is =
      ap (λ l. flat_map f (take i xs) ++ l) (sym (append-nil (f x))) ∙ sym (flat_map-append f (take i xs) (x ∷ []))
      ∙ ap (flat_map f) (ap (λ y. take i xs ++ y ∷ []) is ∙ sym (take_more xs i x low))

-- ---- a touch, if there is one

pub touch_added : (stock : Stock) (old : List Touch) (t : Touch) (found : Option Touch) → found ≡ Some t
    → named stock (old ++ t ∷ []) ≡ named stock old ++ named_by stock found
touch_added stock old t found is =
    flat_map-append (resources stock) old (t ∷ [])
    ∙ ap (λ l. named stock old ++ l) (append-nil (resources stock t) ∙ ap (named_by stock) (sym is))

pub touch_passed : (stock : Stock) (old : List Res) (found : Option Touch)
    → ((t : Touch) → found ≡ Some t → ⊥) → old ≡ old ++ named_by stock found
touch_passed stock old None h = sym (append-nil old)
touch_passed stock old (Some t) h = absurd (h t refl)

-- ---- ops that are moved

module _ (t : Access) (stock : Stock) where
  placed_touch : (f : ℕ → ℕ) (a : Act) → act_touches t stock (placed f a) ≡ act_touches t stock a
  placed_touch f (act.Const v) = refl
  placed_touch f a = refl

  moved_touch : (w : Begins) (p : ℕ) (a : Act) → act_touches t stock (moved_act w p a) ≡ act_touches t stock a
  moved_touch w p (act.Const v) = refl
  moved_touch w p a = refl

  moved_touches : (w : Begins) (p : ℕ) (ops : List Op) → ops_touch t stock (moved_ops w p ops) ≡ ops_touch t stock ops
  moved_touches w p [] = refl
  moved_touches w p (op ∷ ops) =
      let one = moved_touch w p op.act in let rest = moved_touches w p ops in λ i. one i ++ rest i

-- ---- steps

module _ (t : Access) (stock : Stock) (rs : List (List Op)) where
  -- the resources that steps touch themselves, followed by the resources that routines touch
  pub steps_name_from : (f : ℕ → ℕ) (p : ℕ) (ss : List Step)
      → NameTheSame (own_touches t stock ss ++ routines_touch t stock rs (invoked ss))
      (ops_touch t stock (flat_from rs f p ss))
  steps_name_from f p [] = same_itself []
  steps_name_from f p (step.Do op ∷ ss) =
      let own = own_touches t stock ss in
      let rest = ops_touch t stock (flat_from rs f (p + 1) ss) in
      let routines = routines_touch t stock rs (invoked ss) in
      same_then ((act_touches t stock op.act ++ own) ++ routines) (act_touches t stock op.act ++ (own ++ routines))
      (act_touches t stock (placed f op.act) ++ rest)
      (same_is ((act_touches t stock op.act ++ own) ++ routines) (act_touches t stock op.act ++ (own ++ routines))
      (append_assoc (act_touches t stock op.act) own routines))
      (same_both (act_touches t stock op.act) (act_touches t stock (placed f op.act)) (own ++ routines) rest
      (same_is (act_touches t stock op.act) (act_touches t stock (placed f op.act))
      (sym (placed_touch t stock f op.act))) (steps_name_from f (p + 1) ss))
  steps_name_from f p (step.Invoke c ∷ ss) =
      let own = own_touches t stock ss in
      let ops = ops_at rs c.routine in
      let q = p + length ops in
      let rest = flat_from rs f q ss in
      let routines = routines_touch t stock rs (invoked ss) in
      same_then (own ++ (ops_touch t stock ops ++ routines)) (ops_touch t stock ops ++ (own ++ routines))
      (ops_touch t stock (moved_ops (window_of c) p ops ++ rest)) (same_turned own (ops_touch t stock ops) routines)
      (same_then (ops_touch t stock ops ++ (own ++ routines)) (ops_touch t stock ops ++ ops_touch t stock rest)
      (ops_touch t stock (moved_ops (window_of c) p ops ++ rest))
      (same_both (ops_touch t stock ops) (ops_touch t stock ops) (own ++ routines) (ops_touch t stock rest)
      (same_itself (ops_touch t stock ops)) (steps_name_from f q ss))
      (same_is (ops_touch t stock ops ++ ops_touch t stock rest)
      (ops_touch t stock (moved_ops (window_of c) p ops ++ rest))
      (ap (λ l. l ++ ops_touch t stock rest) (sym (moved_touches t stock (window_of c) p ops))
      ∙ sym (flat_map-append (λ (o : Op). act_touches t stock o.act) (moved_ops (window_of c) p ops) rest))))

  pub steps_name : (ss : List Step)
      → NameTheSame (own_touches t stock ss ++ routines_touch t stock rs (invoked ss)) (ops_touch t stock (flat rs ss))
  steps_name ss = steps_name_from (λ to. place_of rs to ss) 0 ss

-- ---- routines

-- the stored touches of a routine are the touches of its ops, at any place where it is invoked
pub routine_touches : (t : Access) (list : List Routine) (n : ℕ) (r : Routine) (stock : Stock) → AreRoutines list
    → slice_get list n ≡ Some r
    → NameTheSame (named stock (kept t r.touches)) (ops_touch t stock (ops_at (library_in list) n))
routine_touches t list n r stock are is =
    subst (λ ops. NameTheSame (named stock (kept t r.touches)) (ops_touch t stock ops)) (sym (routine_at list n r is))
    (by t)
  where
    by : (t : Access) → NameTheSame (named stock (kept t r.touches))
        (ops_touch t stock (ops_in (library_in (take n list)) r))
    by may_use = (each_routine list n r are is).used stock
    by may_write = (each_routine list n r are is).written stock

-- a routine that doesn't exist touches nothing
pub none_added : (t : Access) (stock : Stock) (list : List Routine) (n : ℕ) (now : List Res) → length list ≤ n
    → NameTheSame now (now ++ ops_touch t stock (ops_at (library_in list) n))
none_added t stock list n now far =
    same_is now (now ++ ops_touch t stock (ops_at (library_in list) n))
    (sym (append-nil now) ∙ ap (λ ops. now ++ ops_touch t stock ops) (sym (routine_none list n far)))

-- adding lists that name the same resources
pub same_added : (before now more touched : List Res) → now ≡ before ++ more → NameTheSame more touched
    → NameTheSame now (before ++ touched)
same_added before now more touched is same =
    subst (λ l. NameTheSame l (before ++ touched)) (sym is)
    (same_both before before more touched (same_itself before) same)

-- one more routine of a loop
pub same_next : (t : Access) (stock : Stock) (rs : List (List Op)) (ns : List ℕ) (i n : ℕ) (before now then : List Res)
    → i < length ns → n ≡ get_or ns i 0 → NameTheSame now (before ++ routines_touch t stock rs (take i ns))
    → NameTheSame then (now ++ ops_touch t stock (ops_at rs n))
    → NameTheSame then (before ++ routines_touch t stock rs (take (i + 1) ns))
same_next t stock rs ns i n before now then low is old new =
    let ops = ops_touch t stock (ops_at rs n) in
    let past = routines_touch t stock rs (take i ns) in
    let next = routines_touch t stock rs (take (i + 1) ns) in
    let here : n ≡ get_or ns i n = is ∙ get_or_default ns i 0 n low in
    same_then then (now ++ ops) (before ++ next) new (same_then (now ++ ops) ((before ++ past) ++ ops) (before ++ next)
    (same_both now (before ++ past) ops ops old (same_itself ops)) (same_is ((before ++ past) ++ ops) (before ++ next)
    (append_assoc before past ops
    ∙ ap (λ l. before ++ l) (flat_next (λ k. ops_touch t stock (ops_at rs k)) ns i n low here))))

-- the resources of the steps' own ops and of routines, listed in any order and with any repetitions
pub same_all : (t : Access) (stock : Stock) (rs : List (List Op)) (ss : List Step) (ns : List ℕ) (own now : List Res)
    → own ≡ own_touches t stock ss → ((n : ℕ) → Contains ns n ↔ Contains (invoked ss) n)
    → NameTheSame now (own ++ routines_touch t stock rs ns) → NameTheSame now (ops_touch t stock (flat rs ss))
same_all t stock rs ss ns own now is numbers same =
    let routines = routines_touch t stock rs (invoked ss) in
    same_then now (own ++ routines_touch t stock rs ns) (ops_touch t stock (flat rs ss)) same
    (same_then (own ++ routines_touch t stock rs ns) (own_touches t stock ss ++ routines)
    (ops_touch t stock (flat rs ss)) (same_both own (own_touches t stock ss) (routines_touch t stock rs ns) routines
    (same_is own (own_touches t stock ss) is)
    (same_given (λ k. ops_touch t stock (ops_at rs k)) ns (invoked ss) numbers)) (steps_name t stock rs ss))

-- ---- a touch is determined by its key

reach_at : ℕ → ℕ → ℕ → Reach
reach_at zero a b = reach.Nothing
reach_at (suc zero) a b = reach.Span a b
reach_at (suc (suc k)) a b = reach.Any

res_at : ℕ → ℕ → Res
res_at zero n = res.Gi n
res_at (suc zero) n = res.Gk n
res_at (suc (suc zero)) n = res.Ga n
res_at (suc (suc (suc zero))) n = res.ZakK n
res_at (suc (suc (suc (suc zero)))) n = res.ZakA n
res_at (suc (suc (suc (suc (suc zero))))) n = res.Control n
res_at (suc (suc (suc (suc (suc (suc zero)))))) n = res.Sound n
res_at (suc (suc (suc (suc (suc (suc (suc k))))))) n = res.Table n

touch_at : ℕ × ℕ × ℕ × ℕ → Touch
touch_at (zero, a, b, c) = touch.One (res_at a b)
touch_at (suc zero, a, b, c) = touch.Tables (reach_at a b c)
touch_at (suc (suc zero), a, b, c) = touch.Places space.Control (reach_at a b c)
touch_at (suc (suc (suc k)), a, b, c) = touch.Places space.Audio (reach_at a b c)

known : (t : Touch) → touch_at (key_of t) ≡ t
unfolding reach_at res_at touch_at
known (touch.One (res.Gi n)) = refl
known (touch.Tables reach.Nothing) = refl
known (touch.Places space.Control reach.Nothing) = refl
known (touch.Places space.Audio reach.Nothing) = refl
known t = refl

-- whether two touches have the same key
abbrev pub same_key : Touch → Touch → Bool
same_key s t =
    ((nat_eq (key_of s).0 (key_of t).0 && nat_eq (key_of s).1 (key_of t).1) && nat_eq (key_of s).2 (key_of t).2)
    && nat_eq (key_of s).3 (key_of t).3

same_key_is : (s t : Touch) → same_key s t ≡ true → s ≡ t
same_key_is s t h =
    let last = and_parts ((nat_eq (key_of s).0 (key_of t).0 && nat_eq (key_of s).1 (key_of t).1)
    && nat_eq (key_of s).2 (key_of t).2) (nat_eq (key_of s).3 (key_of t).3) h in
    let third = and_parts (nat_eq (key_of s).0 (key_of t).0 && nat_eq (key_of s).1 (key_of t).1)
    (nat_eq (key_of s).2 (key_of t).2) last.0 in
    let first = and_parts (nat_eq (key_of s).0 (key_of t).0) (nat_eq (key_of s).1 (key_of t).1) third.0 in
    let a = eqb-true (key_of s).0 (key_of t).0 first.0 in
    let b = eqb-true (key_of s).1 (key_of t).1 first.1 in
    let c = eqb-true (key_of s).2 (key_of t).2 third.1 in
    let d = eqb-true (key_of s).3 (key_of t).3 last.1 in
    sym (known s) ∙ (λ i. touch_at (a i, b i, c i, d i)) ∙ known t

same_key_laws : IsEquivalence same_key
same_key_laws =
    and_equiv (and_equiv (and_equiv (on_equiv (λ (s : Touch). (key_of s).0) nat_eq_equiv)
    (on_equiv (λ (s : Touch). (key_of s).1) nat_eq_equiv))
    (on_equiv (λ (s : Touch). (key_of s).2) nat_eq_equiv)) (on_equiv (λ (s : Touch). (key_of s).3) nat_eq_equiv)

-- each touch occurs in a list if and only if it occurs in the reordered list without repetitions
pub each_once : (xs ys zs : List Touch) (t : Touch) → IsPermutation xs ys → zs ≡ dedup same_key ys
    → Contains zs t ↔ Contains xs t
each_once xs ys zs t moved left = (
  λ c. Contains-permutation ys xs t (IsPermutation-sym xs ys moved)
      (Contains-from_dedup same_key ys t (subst (λ l. Contains l t) left c)),
  λ c. subst (λ l. Contains l t) (sym left)
      (Contains-dedup same_key_laws same_key_is ys t (Contains-permutation xs ys t moved c)),
)

pub each_number_once : (xs ys zs : List ℕ) (n : ℕ) → IsPermutation xs ys → zs ≡ dedup nat_eq ys
    → Contains zs n ↔ Contains xs n
each_number_once xs ys zs n moved left = (
  λ c. Contains-permutation ys xs n (IsPermutation-sym xs ys moved)
      (Contains-from_dedup nat_eq ys n (subst (λ l. Contains l n) left c)),
  λ c. subst (λ l. Contains l n) (sym left) (Contains-dedup_nat ys n (Contains-permutation xs ys n moved c)),
)
