-- A table that is filled place by place.
use Rattle.std.proofs.Common.{◌≡◌, ℕ, length, get_or, ◌-◌, ◌%◌, ◌<◌, zero-add, take, sym, subst, ◌≤ℤ◌, ◌+◌, ◌≤◌, List}
use Rattle.std.proofs.Common.{[], ◌∷◌, ◌++◌, map, Bool, true, false, ◌||◌, ℤ, pos, unsigned_abs, ◌∙◌, ap, refl, Some}
use Rattle.std.proofs.Common.{None, nat_le, ◌&&◌, ◌==◌, int_lt, if◌then◌else◌, arith}
use Rattle.std.specs.{List.range_with_len, List.list_any, List.list_all, Ordering.int_eq}
use Rattle.std.proofs.lemmas.List.FromFn.{map-range_with_len_more, length-map-range_with_len, get_or-map-range_with_len}
use Rattle.std.proofs.lemmas.List.{get_or-take, get_or_append_left, get_or_at, length-append, length-take-le}
use Rattle.std.proofs.lemmas.{Int.ints, Bool.Decides.Decides-int_eq, Bool.Decides.nat_tests}
use Rattle.cs_gen.specs.Faults.{lengths, is_size, is_gen, has_negative_length, table_fault}
use Rattle.cs_gen.specs.Points.{plain_point, greatest, normalised, point, points_of, guard_place, len_of}
use Rattle.cs_gen.specs.Tables.{IsMade}
use Rattle.cs_gen.specs.declared.check.GenFault.TheVariants.{Size, Unknown, NegativeLength}

-- the list after one more place
pub map-range-push : {X : Type 0} (f : ℕ → X) (items more : List X) (j : ℕ) (x : X) → items ≡ map f (range_with_len 0 j)
    → more ≡ items ++ x ∷ [] → x ≡ f j → more ≡ map f (range_with_len 0 (j + 1))
map-range-push f items more j x e m p = let step = map-range_with_len_more f 0 j j (omega arith) in rw step cc

-- a function mapped over a list that was built place by place can be applied at each place
pub map-map : {X Y Z : Type 0} (g : Y → Z) (f : X → Y) (xs : List X) → map g (map f xs) ≡ map (λ x. g (f x)) xs
map-map g f [] = refl
map-map g f (x ∷ xs) = ap (λ zs. g (f x) ∷ zs) (map-map g f xs)

or_cases : {P : Type 0} (a b c : Bool) → ((a || b) || c) ≡ true → (a ≡ true → P) → (b ≡ true → P) → (c ≡ true → P) → P
or_cases true b c h p q r = p refl
or_cases false true c h p q r = q refl
or_cases false false c h p q r = r h

bounds_of : (x : ℕ) (r : Bool) → ((nat_le 2 x && nat_le x 65536) && r) ≡ true → (2 ≤ x) × (x ≤ 65536) × (r ≡ true)
bounds_of x r h = (grind (arith, nat_tests), grind (arith, nat_tests), grind (arith, nat_tests))

-- the bounds of a size, which isn't negative
abbrev Sized : ℤ → Type 0
Sized size = (2 ≤ unsigned_abs size) × (unsigned_abs size ≤ 65537) × (pos (unsigned_abs size) ≡ size)

sized : (size : ℤ) (n : ℕ) → int_eq size (pos n) ≡ true → 2 ≤ n → n ≤ 65537 → Sized size
sized size n h low high =
    let is : size ≡ pos n = (Decides-int_eq size (pos n)).0 h in
    let e = ap unsigned_abs is in (omega (arith, e), omega (arith, e), ap (λ z. pos (unsigned_abs z)) is ∙ sym is)

any_in_range : (size : ℤ) (xs : List ℕ) → list_all (λ len. nat_le 2 len && nat_le len 65536) xs ≡ true →
    list_any (λ len. int_eq size (pos len) || int_eq size (pos (len + 1))) xs ≡ true → Sized size
any_in_range size [] all any = absurd cc
any_in_range size (x ∷ xs) all any =
    let b = bounds_of x (list_all (λ len. nat_le 2 len && nat_le len 65536) xs) all in
    let low = b.0 in let high = b.1 in
    or_cases (int_eq size (pos x)) (int_eq size (pos (x + 1)))
    (list_any (λ len. int_eq size (pos len) || int_eq size (pos (len + 1))) xs) any
    (λ e. sized size x e low (omega arith)) (λ e. sized size (x + 1) e (omega arith) (omega arith))
    (λ e. any_in_range size xs b.2 e)

-- an accepted size is in its range
is_size-range : (size : ℤ) → is_size size ≡ true → Sized size
unfolding is_size lengths
is_size-range size h = any_in_range size lengths refl h

some_is_none : {A : Type 0} (a : A) → Some a ≡ None → ⊥
some_is_none a h = cc

sized_none : (a b c : Bool)
    → (if a then if b then if c then Some NegativeLength else None else Some Unknown else Some Size) ≡ None → a ≡ true
sized_none true b c h = refl
sized_none false b c h = absurd (some_is_none Size h)

-- an accepted table has a size in its range
pub accepted : (size gen : ℤ) (args : List ℤ) → table_fault size gen args ≡ None → Sized size
unfolding table_fault
accepted size gen args h =
    is_size-range size (sized_none (is_size size) (is_gen gen) ((unsigned_abs gen == 7) && has_negative_length args) h)

-- an accepted table has a size in its range, if s and g are the size and the GEN as a call passes them
pub accepted-range : (size gen : ℤ) (args : List ℤ) (s g : ℤ) → s ≡ size → g ≡ gen → table_fault s g args ≡ None
    → Sized size
accepted-range size gen args s g es eg h = subst Sized es (accepted s g args h)

pub accepted-bounds : (size gen : ℤ) (args : List ℤ) → table_fault size gen args ≡ None
    → (pos 2 ≤ℤ size) × (size ≤ℤ pos 65537)
accepted-bounds size gen args h =
    let r = accepted size gen args h in let low = r.0 in let high = r.1 in let is = r.2 in
    (omega (arith, ints), omega (arith, ints))

chosen : (t : Bool) (plain : ℕ → ℤ) (places : List ℕ) →
    (if t then map (normalised (greatest (map plain places))) (map plain places) else map plain places)
    ≡ map (λ j. if t then normalised (greatest (map plain places)) (plain j) else plain j) places
chosen true plain places = map-map (normalised (greatest (map plain places))) plain places
chosen false plain places = refl

guard_below : (n : ℕ) (odd : Bool) → 2 ≤ n → (if odd then n - 1 else 0) < n
guard_below n true h = omega arith
guard_below n false h = omega arith

guard_kept : (n : ℕ) → 2 ≤ n → guard_place n < n
guard_kept n h = guard_below n (n % 2 == 1) h

-- the points of a table are its points before normalising, normalised if the GEN is positive
pub points_of-normalised : (size gen : ℤ) (args kept : List ℤ) →
    kept ≡ map (plain_point (unsigned_abs size) (unsigned_abs gen) args) (range_with_len 0 (unsigned_abs size)) →
    (if int_lt (pos 0) gen then map (normalised (greatest kept)) kept else kept) ≡ points_of size gen args
unfolding points_of point
points_of-normalised size gen args kept e =
    ap (λ ks. if int_lt (pos 0) gen then map (normalised (greatest ks)) ks else ks) e
    ∙ chosen (int_lt (pos 0) gen) (plain_point (unsigned_abs size) (unsigned_abs gen) args)
    (range_with_len 0 (unsigned_abs size))

-- the length of a table is at most its size
len_le : (n : ℕ) → len_of n ≤ n
len_le n = omega arith

pub is_made : (size gen : ℤ) (args points : List ℤ) → Sized size → points ≡ points_of size gen args
    → IsMade size gen args points
unfolding points_of
is_made size gen args points sized e =
    let n : ℕ = unsigned_abs size in
    let kept : length points ≡ n = ap length e ∙ length-map-range_with_len (point size gen args) 0 n in
    let few = sized.0 in
    let high = sized.1 in
    let len : ℕ = len_of (length points) in
    let below : len ≤ length points = len_le (length points) in
    let front : length (take len points) ≡ len = length-take-le len points below in
    let each : (j : ℕ) → j < length points → get_or points j (pos 0) ≡ point size gen args j =
    λ j h. ap (λ ps. get_or ps j (pos 0)) e
    ∙ get_or-map-range_with_len (point size gen args) 0 n j j (pos 0) (omega arith) (zero-add j) in
    let guard : ℤ = get_or points (guard_place (length points)) (pos 0) in
    record {
      count = ap pos kept ∙ sized.2;
      fewest = omega arith;
      most = omega arith;
      all = e;
      each = each;
      long = omega (arith, length-append (take len points) (guard ∷ []), front);
      curve = λ j h. get_or_append_left (take len points) (guard ∷ []) (pos 0) j (omega (arith, front))
          ∙ get_or-take len points j (pos 0) h ∙ each j (omega arith);
      guard = get_or_at (take len points) guard [] (pos 0) len front
          ∙ each (guard_place (length points)) (guard_kept (length points) (omega arith));
    }
