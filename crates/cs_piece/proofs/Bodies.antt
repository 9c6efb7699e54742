-- The instrument with a number: among the codes and in the text.
use Rattle.std.proofs.Common.{◌≡◌, ℕ, ℤ, pos, zero, suc, ◌<◌, ⊎_elim, Bool, true, false, List, [], ◌∷◌, ◌++◌, length}
use Rattle.std.proofs.Common.{get_or, slice_get, Some, None, if◌then◌else◌, refl, sym, ◌∙◌, ap, subst, arith}
use Rattle.std.specs.{List.All, List.AllZip, Ordering.int_eq}
use Rattle.std.specs.List.Sorted.{IsPermutation, IsStrictlyIncreasing}
use Rattle.std.proofs.lemmas.{Bool.cases_order, Bool.Decides.Decides-int_eq, List.Elements.All-head}
use Rattle.std.proofs.lemmas.{List.Elements.All-tail, List.Kept.AllPairs-from_increasing, Option.slice_get-get_or}
use Rattle.std.proofs.lemmas.List.Sorted.{All-permutation, IsPermutation-sym}
use Rattle.cs_base.proofs.Tests.{by_test, some_is}
use Rattle.cs_code.specs.Lowered.{AreInstrumentsOf, IsCodeOf, IsNumberedCode, bodies, numbered_with}
use Rattle.cs_ir.specs.Instruments.{Numbered, numbers_of}
use Rattle.cs_base.specs.declared.spaces.Spaces.{Spaces}
use Rattle.cs_piece.specs.Compositions.{body_of}
use Rattle.cs_typed.specs.TypedTree as typed

-- an instrument occurs in a list
abbrev pub IsIn : List Numbered → Numbered → Type 0
IsIn l i = (k : ℕ) × (slice_get l k ≡ Some i)

-- the first body with a number, with the codes of an instrument with that number
pub record HasFirst (spaces : Spaces) (channels : ℕ) (ps : List (ℕ × typed.Block)) (is : List Numbered) (z : ℤ) : Type
    0 where
  pub body : typed.Block
  pub j : Numbered
  pub here : body_of ps z ≡ Some body
  pub among : IsIn is j
  pub number : pos j.number ≡ z
  pub code : IsCodeOf spaces channels body j.init j.perf

eq_test : (x y : ℤ) → x ≡ y → int_eq x y ≡ true
eq_test x y e = (Decides-int_eq x y).1 e

test_eq : (x y : ℤ) → int_eq x y ≡ true → x ≡ y
test_eq x y e = (Decides-int_eq x y).0 e

if_yes : {A : Type 0} (b : Bool) (x y : A) → b ≡ true → (if b then x else y) ≡ x
if_yes true x y e = refl
if_yes false x y e = absurd cc

if_no : {A : Type 0} (b : Bool) (x y : A) → b ≡ false → (if b then x else y) ≡ y
if_no true x y e = absurd cc
if_no false x y e = refl

differs : (b : Bool) → b ≡ true → b ≡ false → ⊥
differs b holds fails = absurd cc

module _ (spaces : Spaces) (channels : ℕ) (z : ℤ) where
  pub first_of : (ps : List (ℕ × typed.Block)) (is : List Numbered) → AllZip (IsNumberedCode spaces channels) ps is
      → (k : ℕ) (i : Numbered) → slice_get is k ≡ Some i → pos i.number ≡ z → HasFirst spaces channels ps is z
  first_of [] [] h k i at n = absurd cc
  first_of [] (x ∷ is) h k i at n = absurd h
  first_of (p ∷ ps) [] h k i at n = absurd h
  first_of (p ∷ ps) (x ∷ is) h k i at n = by_test (int_eq z (pos p.0))
      (λ e. record {
        body = p.1;
        j = x;
        here = if_yes (int_eq z (pos p.0)) (Some p.1) (body_of ps z) e;
        among = (zero, refl);
        number = ap pos h.0.0 ∙ sym (test_eq z (pos p.0) e);
        code = h.0.1;
      })
      (λ e. later (λ m a. first_of ps is h.1 m i a n) e k at)
    where
      same_number : x ≡ i → z ≡ pos p.0
      same_number s = sym n ∙ ap (λ (y : Numbered). pos y.number) (sym s) ∙ ap pos h.0.0

      later : ((m : ℕ) → slice_get is m ≡ Some i → HasFirst spaces channels ps is z) → int_eq z (pos p.0) ≡ false
          → (m : ℕ) → slice_get (x ∷ is) m ≡ Some i → HasFirst spaces channels (p ∷ ps) (x ∷ is) z
      later rest e zero a = absurd (differs (int_eq z (pos p.0)) (eq_test z (pos p.0) (same_number (some_is x i a))) e)
      later rest e (suc m) a =
          let r = rest m a in
          record {
            body = r.body;
            j = r.j;
            here = if_no (int_eq z (pos p.0)) (Some p.1) (body_of ps z) e ∙ r.here;
            among = (suc r.among.0, r.among.1);
            number = r.number;
            code = r.code;
          }

  pub none_of : (ps : List (ℕ × typed.Block)) (is : List Numbered) → AllZip (IsNumberedCode spaces channels) ps is
      → ((k : ℕ) (i : Numbered) → slice_get is k ≡ Some i → pos i.number ≡ z → ⊥) → body_of ps z ≡ None
  none_of [] is h fails = refl
  none_of (p ∷ ps) [] h fails = absurd h
  none_of (p ∷ ps) (x ∷ is) h fails = by_test (int_eq z (pos p.0))
      (λ e. absurd (fails zero x refl (ap pos h.0.0 ∙ sym (test_eq z (pos p.0) e))))
      (λ e. if_no (int_eq z (pos p.0)) (Some p.1) (body_of ps z) e ∙ none_of ps is h.1 (λ k. fails (suc k)))

-- instruments in another order
all_in : (l : List Numbered) → All (IsIn l) l
all_in l k d w = (k, slice_get-get_or l k d w)

at_all : (P : Numbered → Type 0) (l : List Numbered) (k : ℕ) (i : Numbered) → All P l → slice_get l k ≡ Some i → P i
at_all P [] k i h e = absurd cc
at_all P (x ∷ l) zero i h e = subst P (some_is x i e) (All-head P x l h)
at_all P (x ∷ l) (suc k) i h e = at_all P l k i (All-tail P x l h) e

pub moved : (xs ys : List Numbered) → IsPermutation xs ys → (k : ℕ) (i : Numbered) → slice_get xs k ≡ Some i → IsIn ys i
moved xs ys p k i at = at_all (IsIn ys) xs k i (All-permutation (IsIn ys) ys xs (IsPermutation-sym xs ys p) (all_in ys))
    at

-- no two instruments have the same number
record NumberedAt (l : List Numbered) (k n : ℕ) : Type 0 where
  pub within : k < length (numbers_of l)
  pub is : get_or (numbers_of l) k 0 ≡ n

number_at : (l : List Numbered) (k : ℕ) (i : Numbered) → slice_get l k ≡ Some i → NumberedAt l k i.number
number_at [] k i e = absurd cc
number_at (x ∷ l) zero i e = record { within = omega arith; is = ap (λ (y : Numbered). y.number) (some_is x i e) }
number_at (x ∷ l) (suc k) i e = let r =
    number_at l k i e in record { within = (let w = r.within in omega arith); is = r.is }

pub one_of_number : (l : List Numbered) → IsStrictlyIncreasing (numbers_of l) → (k m : ℕ) (i j : Numbered)
    → slice_get l k ≡ Some i → slice_get l m ≡ Some j → i.number ≡ j.number → i ≡ j
one_of_number l up k m i j a b same =
    let p = number_at l k i a in
    let q = number_at l m j b in
    ⊎_elim
    (λ (e : k ≡ m). some_is i j (sym a ∙ ap (slice_get l) e ∙ b))
    (λ o. ⊎_elim
    (λ (lt : k < m). absurd (let r =
    AllPairs-from_increasing (numbers_of l) up k m 0 lt q.within in omega (arith, r, p.is, q.is)))
    (λ (gt : m < k). absurd (let r =
    AllPairs-from_increasing (numbers_of l) up m k 0 gt p.within in omega (arith, r, p.is, q.is))) o) (cases_order k m)

-- the body of an instrument that is found
pub record HasBody (o : typed.Orchestra) (i : Numbered) (z : ℤ) : Type 0 where
  pub body : typed.Block
  pub here : body_of (bodies o.instrs) z ≡ Some body
  pub code : IsCodeOf o.spaces o.head.nchnls body i.init i.perf

pos_is : (m n : ℕ) → pos m ≡ pos n → m ≡ n
pos_is m n e = cc

pub body_for : (o : typed.Orchestra) (l : List Numbered) (k : ℕ) (i : Numbered) (z : ℤ) → AreInstrumentsOf o l
    → slice_get l k ≡ Some i → pos i.number ≡ z → HasBody o i z
body_for o l k i z are at n =
    let text = moved l are.in_text (IsPermutation-sym are.in_text l are.same) k i at in
    let r = first_of o.spaces o.head.nchnls z (bodies o.instrs) are.in_text are.each text.0 i text.1 n in
    let back = moved are.in_text l are.same r.among.0 r.j r.among.1 in
    let one : r.j ≡ i = one_of_number l are.ascending back.0 k r.j i back.1 at
    (pos_is r.j.number i.number (r.number ∙ sym n)) in
    record {
      body = r.body;
      here = r.here;
      code =
          subst (λ (x : Numbered). IsCodeOf o.spaces o.head.nchnls r.body x.init x.perf) one r.code;
    }

pub no_body : (o : typed.Orchestra) (l : List Numbered) (z : ℤ) → AreInstrumentsOf o l
    → ((k : ℕ) (i : Numbered) → slice_get l k ≡ Some i → pos i.number ≡ z → ⊥) → body_of (bodies o.instrs) z ≡ None
no_body o l z are fails =
    none_of o.spaces o.head.nchnls z (bodies o.instrs) are.in_text are.each
    (λ k i at n. let there = moved are.in_text l are.same k i at in fails there.0 i there.1 n)

-- what holds for the body of each instrument holds for the body of each number
module _ (P : typed.Block → Type 0) where
  abbrev AllBodies : List (ℕ × typed.Block) → Type 0
  AllBodies [] = Unit {0}
  AllBodies (p ∷ ps) = P p.1 × AllBodies ps

  bodies_with : (body : typed.Block) (ns : List ℕ) (ps : List (ℕ × typed.Block)) → P body → AllBodies ps
      → AllBodies (numbered_with body ns ++ ps)
  bodies_with body [] ps h rest = rest
  bodies_with body (n ∷ ns) ps h rest = (h, bodies_with body ns ps h rest)

  all_bodies : (is : List typed.Instrument) → All (λ (i : typed.Instrument). P i.body) is → AllBodies (bodies is)
  all_bodies [] h = tt
  all_bodies (i ∷ is) h = bodies_with i.body i.numbers (bodies is)
      (All-head (λ (x : typed.Instrument). P x.body) i is h)
      (all_bodies is (All-tail (λ (x : typed.Instrument). P x.body) i is h))

  at_body : (ps : List (ℕ × typed.Block)) (z : ℤ) (b : typed.Block) → AllBodies ps → body_of ps z ≡ Some b → P b
  at_body [] z b h e = absurd cc
  at_body (p ∷ ps) z b h e = by (int_eq z (pos p.0)) (at_body ps z b h.1) e
    where
      by : (t : Bool) → (body_of ps z ≡ Some b → P b) → (if t then Some p.1 else body_of ps z) ≡ Some b → P b
      by true later f = subst P (some_is p.1 b f) h.0
      by false later f = later f

  pub holds_of_body : (is : List typed.Instrument) (z : ℤ) (b : typed.Block)
      → All (λ (i : typed.Instrument). P i.body) is → body_of (bodies is) z ≡ Some b → P b
  holds_of_body is z b h e = at_body (bodies is) z b (all_bodies is h) e
