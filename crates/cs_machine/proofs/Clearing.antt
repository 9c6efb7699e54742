-- Zak places that are cleared one by one.
use Rattle.std.proofs.Common.{◌≡◌, ℕ, ℤ, pos, negsuc, suc, ◌+◌, ◌<◌, ◌≤◌, ◌/◌, ◌==◌, Bool, true, false, not, ◌&&◌, ◌||◌}
use Rattle.std.proofs.Common.{List, [], ◌∷◌, slice_get, Option, Some, None, nat_lt, nat_le, int_lt, if◌then◌else◌, refl}
use Rattle.std.proofs.Common.{sym, ◌∙◌, ap, subst, arith, ltb-true}
use Rattle.std.specs.{List.list_any, Option.is_some}
use Rattle.std.proofs.Math.Bool.{and-false, and-true, and-or_distrib_left}
use Rattle.std.proofs.lemmas.{Bool.eqb-true, Bool.Decides.nat_tests}
use Rattle.cs_base.specs.Numbers.{floor_div, one}
use Rattle.cs_base.specs.{Rates.same_res, declared.resource.Res.Res, declared.spaces.Spaces.Spaces}
use Rattle.cs_base.proofs.{Rates.same_res_is, Tests.by_test, Tests.some_is}
use Rattle.cs_words.specs.declared.catalogue.Space.{Space}
use Rattle.cs_ir.specs.Resources.{places_of, reaches, zak_place}
use Rattle.cs_ir.specs.{Waves.silence, declared.op.Reach.Reach}
use Rattle.cs_cells.specs.{Areas.IsLaid, Cells.in_area, declared.footprint.Area.Area}
use Rattle.cs_meaning.specs.Pieces.{Piece, has_place, index, is_between, is_cleared}
use Rattle.cs_voice_meaning.specs.{Placing.HasArea, Placing.area_of, Placing.with_wave, VoiceWorld.lies_cleared}
use Rattle.cs_machine.specs.Access.{AreSpaces, spaces_of}
use Rattle.cs_machine.specs.inner.Numbers.{cleared_in, clears, end_of, from_of}
use Rattle.cs_machine.proofs.Found.{own}
use Rattle.cs_base.specs.declared.resource.Res.TheVariants as res
use Rattle.cs_words.specs.declared.catalogue.Space.TheVariants as space

-- ---- truth values

or_four : (a b c d : Bool) → ((a || b) || (c || d)) ≡ ((a || c) || (b || d))
or_four true b c d = refl
or_four false true true d = refl
or_four false true false d = refl
or_four false false c d = refl

or_nothing : (x b : Bool) → x ≡ (x || (b && false))
or_nothing true b = refl
or_nothing false b = sym (and-false b)

here_alone : (b : Bool) → (b && true) ≡ ((b && false) || (b && true))
here_alone true = refl
here_alone false = refl

both_cleared : (p q : Bool) (z : ℤ) → (if q then pos 0 else (if p then pos 0 else z)) ≡ (if p || q then pos 0 else z)
both_cleared true true z = refl
both_cleared true false z = refl
both_cleared false true z = refl
both_cleared false false z = refl

-- ---- tests over lists

module _ {X : Type 0} where
  -- tests that agree on each element
  any_same : (P Q : X → Bool) (xs : List X) → ((k : ℕ) (x : X) → slice_get xs k ≡ Some x → P x ≡ Q x)
      → list_any P xs ≡ list_any Q xs
  any_same P Q [] h = refl
  any_same P Q (x ∷ xs) h = λ i. h 0 x refl i || any_same P Q xs (λ k y e. h (suc k) y e) i

  any_none : (P : X → Bool) (xs : List X) → ((x : X) → P x ≡ false) → list_any P xs ≡ false
  any_none P [] h = refl
  any_none P (x ∷ xs) h = λ i. h x i || any_none P xs h i

  any_or : (P Q R : X → Bool) (xs : List X) → ((x : X) → R x ≡ (P x || Q x))
      → list_any R xs ≡ (list_any P xs || list_any Q xs)
  any_or P Q R [] h = refl
  any_or P Q R (x ∷ xs) h = (λ i. h x i || any_or P Q R xs h i) ∙ or_four (P x) (Q x) (list_any P xs) (list_any Q xs)

  any_and : (b : Bool) (P : X → Bool) (xs : List X) → list_any (λ x. b && P x) xs ≡ (b && list_any P xs)
  any_and true P xs = refl
  any_and false P xs = any_none (λ x. false && P x) xs (λ x. refl)

-- ---- cells

-- if nothing is to be cleared, all cells stay the same
pub nothing_cleared : (areas : List Area) (test : Res → Bool) (cells : ℕ → ℤ) → ((g : Res) → test g ≡ false)
    → cells ≡ cleared_in areas test cells
nothing_cleared areas test cells none = λ i a. sym (at a) i
  where
    at : (a : ℕ) → cleared_in areas test cells a ≡ cells a
    at a = ap (λ b. if b then pos 0 else cells a) (any_none (λ (x : Area). in_area (Some x) a && test x.res) areas
        (λ x. ap (λ b. in_area (Some x) a && b) (none x.res) ∙ and-false (in_area (Some x) a)))

-- clearing by one test and then by another is clearing by both
pub cleared_twice : (areas : List Area) (p q r : Res → Bool) (cells : ℕ → ℤ) → ((g : Res) → r g ≡ (p g || q g))
    → cleared_in areas q (cleared_in areas p cells) ≡ cleared_in areas r cells
cleared_twice areas p q r cells same = λ i a. at a i
  where
    lies : (a : ℕ) → lies_cleared areas r a ≡ (lies_cleared areas p a || lies_cleared areas q a)
    lies a = any_or (λ (x : Area). in_area (Some x) a && p x.res) (λ (x : Area). in_area (Some x) a && q x.res)
        (λ (x : Area). in_area (Some x) a && r x.res) areas (λ x. ap (λ b. in_area (Some x) a && b) (same x.res)
        ∙ and-or_distrib_left (in_area (Some x) a) (p x.res) (q x.res))

    at : (a : ℕ) → cleared_in areas q (cleared_in areas p cells) a ≡ cleared_in areas r cells a
    at a = both_cleared (lies_cleared areas p a) (lies_cleared areas q a) (cells a)
        ∙ sym (ap (λ b. if b then pos 0 else cells a) (lies a))

-- the area of a resource is among the areas
some_one : (areas : List Area) (g : Res) (x : Area) → area_of areas g ≡ Some x
    → list_any (λ (y : Area). same_res y.res g) areas ≡ true
some_one [] g x e = absurd cc
some_one (y ∷ areas) g x e = by_test (same_res y.res g)
    (λ here. ap (λ b. b || list_any (λ (z : Area). same_res z.res g) areas) here)
    (λ later. ap (λ b. b || list_any (λ (z : Area). same_res z.res g) areas) later
    ∙ some_one areas g x (sym (ap (λ b. if b then Some y else area_of areas g) later) ∙ e))

-- the area of one resource was cleared
pub one_cleared : (areas : List Area) (g : Res) (x : Area) (cells : ℕ → ℤ) → IsLaid areas → area_of areas g ≡ Some x
    → with_wave (Some x) silence cells ≡ cleared_in areas (λ r. same_res r g) cells
one_cleared areas g x cells laid found = λ i a. at a i
  where
    alone : (a k : ℕ) (y : Area) → slice_get areas k ≡ Some y
        → (in_area (Some y) a && same_res y.res g) ≡ (in_area (Some x) a && same_res y.res g)
    alone a k y at = by_test (same_res y.res g)
        (λ here. let same : y ≡ x = some_is y x (sym (own areas k y laid at)
        ∙ ap (area_of areas) (same_res_is y.res g here) ∙ found) in
        ap (λ (z : Area). in_area (Some z) a && same_res y.res g) same)
        (λ other. ap (λ b. in_area (Some y) a && b) other ∙ and-false (in_area (Some y) a)
        ∙ sym (ap (λ b. in_area (Some x) a && b) other ∙ and-false (in_area (Some x) a)))

    lies : (a : ℕ) → lies_cleared areas (λ r. same_res r g) a ≡ in_area (Some x) a
    lies a = any_same (λ (y : Area). in_area (Some y) a && same_res y.res g)
        (λ (y : Area). in_area (Some x) a && same_res y.res g) areas (alone a)
        ∙ any_and (in_area (Some x) a) (λ (y : Area). same_res y.res g) areas
        ∙ ap (λ b. in_area (Some x) a && b) (some_one areas g x found) ∙ and-true (in_area (Some x) a)

    at : (a : ℕ) → with_wave (Some x) silence cells a ≡ cleared_in areas (λ r. same_res r g) cells a
    at a = sym (ap (λ b. if b then pos 0 else cells a) (lies a))

-- ---- places by their numbers

-- each place of a space has an area
pub has_area : (areas : List Area) (spaces : Spaces) (s : Space) (n : ℕ) → AreSpaces areas → spaces_of areas ≡ spaces
    → n < places_of spaces s → HasArea areas (zak_place s n)
has_area areas spaces s n are zak low = some_area (area_of areas (zak_place s n)) refl
    (are s n ∙ ap (λ (sp : Spaces). nat_lt n (places_of sp s)) zak ∙ below)
  where
    below : nat_lt n (places_of spaces s) ≡ true
    below = grind (arith, nat_tests)

    some_area : (o : Option Area) → area_of areas (zak_place s n) ≡ o → is_some (area_of areas (zak_place s n)) ≡ true
        → HasArea areas (zak_place s n)
    some_area None e h = absurd (let no : false ≡ true = sym (ap is_some e) ∙ h in cc)
    some_area (Some x) e h = (x, e)

-- no number is from m on and below n
none_between : (m n : ℕ) → (nat_le m n && nat_lt n m) ≡ false
none_between m n = by_test (nat_lt n m)
    (λ less. let before : nat_le m n ≡ false = grind (arith, nat_tests) in λ i. before i && less i)
    (λ more. ap (λ b. nat_le m n && b) more ∙ and-false (nat_le m n))

pub none_cleared : (s : Space) (r : Reach) (m : ℕ) (g : Res) → clears s r m m g ≡ false
none_cleared space.Control r m (res.ZakK n) = ap (λ b. reaches r n && b) (none_between m n) ∙ and-false (reaches r n)
none_cleared space.Audio r m (res.ZakA n) = ap (λ b. reaches r n && b) (none_between m n) ∙ and-false (reaches r n)
none_cleared s r m g = refl

-- one more number
number_more : (test : ℕ → Bool) (m n i : ℕ) → m ≤ n → (test i && (nat_le m i && nat_lt i (n + 1)))
    ≡ ((test i && (nat_le m i && nat_lt i n)) || (test n && (i == n)))
number_more test m n i low = by_test (i == n) (λ yes. subst (λ k. (test k && (nat_le m k && nat_lt k (n + 1)))
    ≡ ((test k && (nat_le m k && nat_lt k n)) || (test n && (k == n)))) (sym (eqb-true i n yes)) here)
    (λ no. let same : nat_lt i (n + 1) ≡ nat_lt i n = other no in
    ap (λ b. test i && (nat_le m i && b)) same ∙ or_nothing (test i && (nat_le m i && nat_lt i n)) (test n)
    ∙ sym (ap (λ b. (test i && (nat_le m i && nat_lt i n)) || (test n && b)) no))
  where
    here : (test n && (nat_le m n && nat_lt n (n + 1)))
        ≡ ((test n && (nat_le m n && nat_lt n n)) || (test n && (n == n)))
    here =
        let from : nat_le m n ≡ true = grind (arith, nat_tests) in
        let next : nat_lt n (n + 1) ≡ true = grind (arith, nat_tests) in
        let itself : nat_lt n n ≡ false = grind (arith, nat_tests) in
        let same : (n == n) ≡ true = grind (arith, nat_tests) in
        (λ i. test n && (from i && next i)) ∙ here_alone (test n)
        ∙ sym (λ i. (test n && (from i && itself i)) || (test n && same i))

    other : (i == n) ≡ false → nat_lt i (n + 1) ≡ nat_lt i n
    other apart = by_test (nat_lt i n)
        (λ less. let more : nat_lt i (n + 1) ≡ true = grind (arith, nat_tests) in more ∙ sym less)
        (λ past. let not_more : nat_lt i (n + 1) ≡ false = grind (arith, nat_tests) in not_more ∙ sym past)

-- one more place
pub clears_more : (s : Space) (r : Reach) (m n : ℕ) → m ≤ n → (g : Res)
    → clears s r m (n + 1) g ≡ (clears s r m n g || (reaches r n && same_res g (zak_place s n)))
clears_more space.Control r m n low (res.ZakK i) = number_more (reaches r) m n i low
clears_more space.Audio r m n low (res.ZakA i) = number_more (reaches r) m n i low
clears_more s r m n low g = sym (and-false (reaches r n))

-- ---- the numbers that are cleared are those between the two values

-- whether a number is between two values, by their integer parts
lies_between : Option ℕ → Option ℕ → ℕ → Bool
lies_between None None n = false
lies_between (Some m) None n = false
lies_between None (Some k) n = nat_le n k
lies_between (Some m) (Some k) n = nat_le m n && nat_le n k

not_less_is : (m n : ℕ) → not (nat_lt n m) ≡ nat_le m n
not_less_is m n = by_test (nat_lt n m)
    (λ yes. let before : nat_le m n ≡ false = grind (arith, nat_tests) in ap not yes ∙ sym before)
    (λ no. let after : nat_le m n ≡ true = grind (arith, nat_tests) in ap not no ∙ sym after)

index_pos : (x : ℕ) → index (pos x) ≡ Some (x / 65536)
index_pos x =
    let more : nat_lt x 0 ≡ false = grind (arith, nat_tests) in ap (λ b. if b then None else Some (x / 65536)) more

between_is : (first last : ℤ) (n : ℕ) → is_between first last n ≡ lies_between (index first) (index last) n
unfolding lies_between
between_is (pos x) (pos y) n =
    (λ i. not_less_is (x / 65536) n i && not_less_is n (y / 65536) i)
    ∙ sym (λ i. lies_between (index_pos x i) (index_pos y i) n)
between_is (pos x) (negsuc y) n =
    and-false (not (int_lt (pos n) (floor_div (pos x) one))) ∙ sym (ap (λ o. lies_between o None n) (index_pos x))
between_is (negsuc x) (pos y) n = not_less_is n (y / 65536) ∙ sym (ap (λ o. lies_between None o n) (index_pos y))
between_is (negsuc x) (negsuc y) n = refl

-- a number below the count is before the end if and only if it isn't above the last
before_end : (count k n : ℕ) → n < count → nat_lt n (end_of count (Some k)) ≡ nat_le n k
before_end count k n low = by_test (nat_lt k count) (λ yes. ap (λ b. nat_lt n (if b then k + 1 else count)) yes ∙ next)
    (λ no. ap (λ b. nat_lt n (if b then k + 1 else count)) no ∙ all no)
  where
    next : nat_lt n (k + 1) ≡ nat_le n k
    next = by_test (nat_le n k)
        (λ yes. let less : nat_lt n (k + 1) ≡ true = grind (arith, nat_tests) in less ∙ sym yes)
        (λ no. let more : nat_lt n (k + 1) ≡ false = grind (arith, nat_tests) in more ∙ sym no)

    all : nat_lt k count ≡ false → nat_lt n count ≡ nat_le n k
    all past =
        let less : nat_lt n count ≡ true = grind (arith, nat_tests) in
        let under : nat_le n k ≡ true = grind (arith, nat_tests) in less ∙ sym under

after_from : (end m n : ℕ) → nat_lt n end ≡ true → nat_le (from_of end (Some m)) n ≡ nat_le m n
after_from end m n low = by_test (nat_lt m end) (λ yes. ap (λ b. nat_le (if b then m else end) n) yes)
    (λ no. ap (λ b. nat_le (if b then m else end) n) no
    ∙ (let past : nat_le end n ≡ false = grind (arith, nat_tests) in
    let far : nat_le m n ≡ false = grind (arith, nat_tests) in past ∙ sym far))

within_is : (count : ℕ) (first last : Option ℕ) (n : ℕ) → n < count
    → (nat_le (from_of (end_of count last) first) n && nat_lt n (end_of count last)) ≡ lies_between first last n
unfolding lies_between
within_is count None None n low = let none : nat_lt n 0 ≡ false = grind (arith, nat_tests) in
    ap (λ b. nat_le 0 n && b) none ∙ and-false (nat_le 0 n)
within_is count (Some m) None n low = let none : nat_lt n 0 ≡ false = grind (arith, nat_tests) in
    ap (λ b. nat_le (from_of 0 (Some m)) n && b) none ∙ and-false (nat_le (from_of 0 (Some m)) n)
within_is count None (Some k) n low = let first : nat_le 0 n ≡ true = grind (arith, nat_tests) in
    ap (λ b. b && nat_lt n (end_of count (Some k))) first ∙ before_end count k n low
within_is count (Some m) (Some k) n low = by_test (nat_lt n (end_of count (Some k)))
    (λ yes. (λ i. after_from (end_of count (Some k)) m n yes i && before_end count k n low i))
    (λ no. ap (λ b. nat_le (from_of (end_of count (Some k)) (Some m)) n && b) no
    ∙ and-false (nat_le (from_of (end_of count (Some k)) (Some m)) n)
    ∙ sym (ap (λ b. nat_le m n && b) (sym (before_end count k n low) ∙ no) ∙ and-false (nat_le m n)))

-- a place with an area is one of its space
module _ (areas : List Area) (piece : Piece) (spaces : Spaces) (are : AreSpaces areas) (zak : spaces_of areas ≡ spaces)
    (same : piece.spaces ≡ spaces) where
  abbrev end : Space → ℤ → ℕ
  end s last = end_of (places_of spaces s) (index last)

  abbrev from : Space → ℤ → ℤ → ℕ
  from s first last = from_of (end_of (places_of spaces s) (index last)) (index first)

  counted : (s : Space) (n : ℕ) (a : Area) → area_of areas (zak_place s n) ≡ Some a
      → nat_lt n (places_of spaces s) ≡ true
  counted s n a at = ap (λ (sp : Spaces). nat_lt n (places_of sp s)) (sym zak) ∙ sym (are s n) ∙ ap is_some at

  cleared_place : (s : Space) (r : Reach) (first last : ℤ) (n : ℕ) (a : Area) → area_of areas (zak_place s n) ≡ Some a
      → (has_place piece s r n && is_between first last n)
      ≡ (reaches r n && (nat_le (from s first last) n && nat_lt n (end s last)))
  cleared_place s r first last n a at =
      let there : nat_lt n (places_of piece.spaces s) ≡ true =
      ap (λ (sp : Spaces). nat_lt n (places_of sp s)) same ∙ counted s n a at in
      (λ i. (there i && reaches r n) && between_is first last n i) ∙ ap (λ b. reaches r n && b)
      (sym (within_is (places_of spaces s) (index first) (index last) n
      (ltb-true n (places_of spaces s) (counted s n a at))))

  cleared_is : (s : Space) (r : Reach) (first last : ℤ) (g : Res) (a : Area) → area_of areas g ≡ Some a
      → clears s r (from s first last) (end s last) g ≡ is_cleared piece s r first last g
  cleared_is space.Control r first last (res.ZakK n) a at = sym (cleared_place space.Control r first last n a at)
  cleared_is space.Audio r first last (res.ZakA n) a at = sym (cleared_place space.Audio r first last n a at)
  cleared_is s r first last g a at = refl

  -- the cells after all places were cleared
  pub all_cleared : (s : Space) (r : Reach) (first last : ℤ) (cells : ℕ → ℤ) → IsLaid areas
      → cleared_in areas (clears s r (from s first last) (end s last)) cells
      ≡ (λ a. if lies_cleared areas (is_cleared piece s r first last) a then pos 0 else cells a)
  all_cleared s r first last cells laid = λ i a. if lies a i then pos 0 else cells a
    where
      lies : (a : ℕ) → lies_cleared areas (clears s r (from s first last) (end s last)) a
          ≡ lies_cleared areas (is_cleared piece s r first last) a
      lies a = any_same (λ (x : Area). in_area (Some x) a && clears s r (from s first last) (end s last) x.res)
          (λ (x : Area). in_area (Some x) a && is_cleared piece s r first last x.res) areas
          (λ k x at. ap (λ b. in_area (Some x) a && b) (cleared_is s r first last x.res x (own areas k x laid at)))
