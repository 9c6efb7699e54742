-- Paths that lead inward: different parts have nothing in common. And lists of different paths.
use Rattle.std.proofs.Common.{◌≡◌, ◌≢◌, ◌∙◌, ℕ, zero, suc, ◌+◌, ◌≤◌, List, ◌∷◌, ◌++◌, length, Some, arith, refl, sym}
use Rattle.std.proofs.Common.{[], ap, subst, append-nil}
use Rattle.std.specs.List.{All, AllPairs, slice_get}
use Rattle.std.proofs.lemmas.{List.length-append, List.Kept.AllPairs-cons, Option.none-some}
use Rattle.std.proofs.lemmas.List.Elements.{All-cons, All-nil}
use Rattle.cs_base.proofs.Tests.{some_is}
use Rattle.cs_meaning.specs.Notes.{Path}

-- the next number after both lists
pub further : {A : Type 0} (n : ℕ) (xs ys : List A) → (n + length xs) + length ys ≡ n + length (xs ++ ys)
further n xs ys = omega (arith, length-append xs ys)

-- A path extended by further steps inward; with an empty path, it reverses the direction: it then leads
-- inward, from the body on.
abbrev pub inward : Path → Path → Path
inward [] p = p
inward (k ∷ q) p = inward q (k ∷ p)

pub inward_twice : (q p r : Path) → inward (inward q p) r ≡ inward p (q ++ r)
inward_twice [] p r = refl
inward_twice (k ∷ q) p r = inward_twice q (k ∷ p) r

pub outward_again : (p : Path) → inward (inward p []) [] ≡ p
outward_again p = inward_twice p [] [] ∙ append-nil p

pub same_inward : (p q : Path) → inward p [] ≡ inward q [] → p ≡ q
same_inward p q e = sym (outward_again p) ∙ ap (λ r. inward r []) e ∙ outward_again q

abbrev first_step : Path → ℕ
first_step [] = 0
first_step (k ∷ p) = k

abbrev more_steps : Path → Path
more_steps [] = []
more_steps (k ∷ p) = p

same_behind : (p a b : Path) → inward p a ≡ inward p b → a ≡ b
same_behind [] a b e = e
same_behind (k ∷ p) a b e = ap more_steps (same_behind p (k ∷ a) (k ∷ b) e)

-- steps inward from one path that end at the same path are the same
pub same_steps : (p a b : Path) → inward a p ≡ inward b p → a ≡ b
same_steps p a b e =
    let both : inward p (a ++ []) ≡ inward p (b ++ []) =
    sym (inward_twice a p []) ∙ ap (λ q. inward q []) e ∙ inward_twice b p [] in
    sym (append-nil a) ∙ same_behind p (a ++ []) (b ++ []) both ∙ append-nil b

longer : (p q : Path) → length q ≤ length (inward p q)
longer [] q = omega arith
longer (k ∷ p) q = omega (arith, longer p (k ∷ q))

-- a path inside a part isn't the path of the complete text
pub never_whole : (k : ℕ) (s r : Path) → [] ≡ inward s (k ∷ r) → ⊥
never_whole k s r e = omega (arith, ap length e, longer s (k ∷ r))

-- ---- paths inside a part

-- a path, or a path inside it
pub record Inside (q x : Path) : Type 0 where
  pub steps : Path
  pub is : x ≡ inward steps q

-- a path at or inside one of the parts with index k or later
pub record Beyond (k : ℕ) (r x : Path) : Type 0 where
  pub part : ℕ
  pub low : k ≤ part
  pub inside : Inside (part ∷ r) x

pub inside_whole : (k : ℕ) (r x : Path) → Inside (k ∷ r) x → Inside r x
inside_whole k r x h = record { steps = k ∷ h.steps; is = h.is }

pub beyond_whole : (k : ℕ) (r x : Path) → Beyond k r x → Inside r x
beyond_whole k r x h = inside_whole h.part r x h.inside

pub first_beyond : (k : ℕ) (r x : Path) → Inside (k ∷ r) x → Beyond k r x
first_beyond k r x h = record { part = k; low = omega arith; inside = h }

pub next_beyond : (k : ℕ) (r x : Path) → Beyond (suc k) r x → Beyond k r x
next_beyond k r x h = record { part = h.part; low = omega (arith, h.low); inside = h.inside }

same_part : (i j : ℕ) (r x : Path) → Inside (i ∷ r) x → Inside (j ∷ r) x → i ≡ j
same_part i j r x a b = ap first_step (same_steps r (i ∷ a.steps) (j ∷ b.steps) (sym a.is ∙ b.is))

pub next_apart : (k : ℕ) (r x : Path) → Inside (k ∷ r) x → Beyond (suc k) r x → ⊥
next_apart k r x a b = omega (arith, same_part k b.part r x a b.inside, b.low)

pub not_inside_itself : (k : ℕ) (p : Path) → Inside (k ∷ p) p → ⊥
not_inside_itself k p h = omega (arith, ap length (same_steps p [] (k ∷ h.steps) h.is))

-- ---- lists of paths

abbrev pub Each : (Path → Type 0) → List Path → Type 0
Each P [] = Unit {0}
Each P (x ∷ xs) = P x × Each P xs

abbrev pub Differ : List Path → Type 0
Differ [] = Unit {0}
Differ (x ∷ xs) = Each (λ y. x ≢ y) xs × Differ xs

pub each_first : (P : Path → Type 0) (xs ys : List Path) → Each P (xs ++ ys) → Each P xs
each_first P [] ys h = tt
each_first P (x ∷ xs) ys h = (h.0, each_first P xs ys h.1)

pub each_rest : (P : Path → Type 0) (xs ys : List Path) → Each P (xs ++ ys) → Each P ys
each_rest P [] ys h = h
each_rest P (x ∷ xs) ys h = each_rest P xs ys h.1

pub each_of : (P Q : Path → Type 0) → ((x : Path) → P x → Q x) → (xs : List Path) → Each P xs → Each Q xs
each_of P Q f [] h = tt
each_of P Q f (x ∷ xs) h = (f x h.0, each_of P Q f xs h.1)

pub each_joined : (P : Path → Type 0) (xs ys : List Path) → Each P xs → Each P ys → Each P (xs ++ ys)
each_joined P [] ys h k = k
each_joined P (x ∷ xs) ys h k = (h.0, each_joined P xs ys h.1 k)

differ_joined : (P Q : Path → Type 0) → ((x : Path) → P x → Q x → ⊥) → (xs ys : List Path) → Each P xs → Each Q ys
    → Differ xs → Differ ys → Differ (xs ++ ys)
differ_joined P Q apart [] ys p q h k = k
differ_joined P Q apart (x ∷ xs) ys p q h k = (
  each_joined (λ y. x ≢ y) xs ys h.0 (each_of Q (λ y. x ≢ y) (λ y b e. apart y (subst P e p.0) b) ys q),
  differ_joined P Q apart xs ys p.1 q h.1 k,
)

-- different paths, each of which satisfies P
pub record Lie (P : Path → Type 0) (xs : List Path) : Type 0 where
  pub each : Each P xs
  pub differ : Differ xs

pub none_lie : (P : Path → Type 0) → Lie P []
none_lie P = record { each = tt; differ = tt }

pub lie_wider : (P Q : Path → Type 0) → ((x : Path) → P x → Q x) → (xs : List Path) → Lie P xs → Lie Q xs
lie_wider P Q f xs h = record { each = each_of P Q f xs h.each; differ = h.differ }

-- the paths inside one part, followed by the paths inside later parts
pub joined_lie : (k : ℕ) (r : Path) (xs ys : List Path) → Lie (Inside (k ∷ r)) xs → Lie (Beyond (suc k) r) ys
    → Lie (Beyond k r) (xs ++ ys)
joined_lie k r xs ys h g = record {
  each = each_joined _ _ _ (each_of _ _ (first_beyond _ _) _ h.each) (each_of _ _ (next_beyond _ _) _ g.each);
  differ = differ_joined _ _ (next_apart _ _) _ _ h.each g.each h.differ g.differ;
}

-- a path, followed by paths inside a part of it
pub with_parts : (k : ℕ) (p : Path) (xs : List Path) → Lie (Inside (k ∷ p)) xs → Lie (Inside p) (p ∷ xs)
with_parts k p xs h = record {
  each = (record { steps = []; is = refl }, each_of _ _ (inside_whole _ _) _ h.each);
  differ = (each_of _ _ (λ y b e. not_inside_itself k p (subst (Inside (k ∷ p)) (sym e) b)) _ h.each, h.differ);
}

pub of_all : (P : Path → Type 0) (xs : List Path) → All P xs → Each P xs
of_all P [] h = tt
of_all P (x ∷ xs) h = (h 0 x (omega arith), of_all P xs (λ k d below. h (suc k) d (omega (arith, below))))

pub all_of : (P : Path → Type 0) (xs : List Path) → Each P xs → All P xs
all_of P [] h = All-nil P
all_of P (x ∷ xs) h = All-cons P x xs h.0 (all_of P xs h.1)

pub pairs_differ : (xs : List Path) → Differ xs → AllPairs (λ f g. f ≢ g) xs
pairs_differ [] h = λ i j d p q. absurd (omega (arith, q))
pairs_differ (x ∷ xs) h = AllPairs-cons (λ f g. f ≢ g) x xs (all_of (λ y. x ≢ y) xs h.0) (pairs_differ xs h.1)

each_got : (P : Path → Type 0) (xs : List Path) → Each P xs → (i : ℕ) (x : Path) → slice_get xs i ≡ Some x → P x
each_got P [] h i x e = absurd (none-some x e)
each_got P (y ∷ xs) h zero x e = subst P (some_is y x e) h.0
each_got P (y ∷ xs) h (suc i) x e = each_got P xs h.1 i x e

-- a path occurs only once in a list of different paths
pub one_place : (xs : List Path) → Differ xs → (i j : ℕ) (x : Path) → slice_get xs i ≡ Some x → slice_get xs j ≡ Some x
    → i ≡ j
one_place [] h i j x e f = absurd (none-some x e)
one_place (y ∷ xs) h zero zero x e f = refl
one_place (y ∷ xs) h zero (suc j) x e f = absurd (each_got (λ z. y ≢ z) xs h.0 j x f (some_is y x e))
one_place (y ∷ xs) h (suc i) zero x e f = absurd (each_got (λ z. y ≢ z) xs h.0 i x e (some_is y x f))
one_place (y ∷ xs) h (suc i) (suc j) x e f = ap suc (one_place xs h.1 i j x e f)
