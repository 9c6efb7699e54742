-- Known names remain known, each with its number.
use Rattle.std.proofs.Common.{◌≡◌, ◌∙◌, ℕ, ◌+◌, Bool, cond, true, false, not, ◌||◌, if◌then◌else◌, List, [], ◌∷◌, ◌++◌}
use Rattle.std.proofs.Common.{append_assoc, refl, sym, ap}
use Rattle.std.specs.Str.{bytes_eq}
use Rattle.std.proofs.lemmas.{List.append-nil, List.Folds.list_any-append}
use Rattle.cs_base.specs.declared.resource.Rate.{Rate}
use Rattle.cs_words.specs.{NameSets.has, NameSets.place_of, NameSets.seen, Names.name_rate}
use Rattle.cs_words.proofs.Places.{new_place, past_all, seen_is_there}
use Rattle.cs_typing.specs.Known.{RateNames, of_rate, with_name, in_table, place_in, added}
use Rattle.cs_base.specs.declared.resource.Rate.TheVariants as rate

-- a list is a prefix of another
pub record GoesOn (xs ys : List (List ℕ)) : Type 0 where
  pub rest : List (List ℕ)
  pub is : ys ≡ xs ++ rest

pub stays : (xs : List (List ℕ)) → GoesOn xs xs
stays xs = record { rest = []; is = sym (append-nil xs) }

pub goes_further : (xs ys zs : List (List ℕ)) → GoesOn xs ys → GoesOn ys zs → GoesOn xs zs
goes_further xs ys zs a b = record {
  rest = a.rest ++ b.rest;
  is = b.is ∙ ap (λ l. l ++ b.rest) a.is ∙ append_assoc xs a.rest b.rest;
}

has_before : (xs rest : List (List ℕ)) (x : List ℕ) → has xs x ≡ true → has (xs ++ rest) x ≡ true
has_before xs rest x h = list_any-append (bytes_eq x) xs rest ∙ ap (λ b. b || has rest x) h

place_before : (xs rest : List (List ℕ)) (x : List ℕ) → has xs x ≡ true → place_of (xs ++ rest) x ≡ place_of xs x
place_before [] rest x h = absurd (cc h)
place_before (y ∷ xs) rest x h = by (bytes_eq x y) h (place_before xs rest x)
  where
    by : (b : Bool) → (b || has xs x) ≡ true → (has xs x ≡ true → place_of (xs ++ rest) x ≡ place_of xs x)
        → cond (not b) (1 + place_of (xs ++ rest) x) 0 ≡ cond (not b) (1 + place_of xs x) 0
    by true k f = refl
    by false k f = ap (λ n. 1 + n) (f k)

pub has_on : (xs ys : List (List ℕ)) (x : List ℕ) → GoesOn xs ys → has xs x ≡ true → has ys x ≡ true
has_on xs ys x g h = ap (λ l. has l x) g.is ∙ has_before xs g.rest x h

pub place_on : (xs ys : List (List ℕ)) (x : List ℕ) → GoesOn xs ys → has xs x ≡ true → place_of ys x ≡ place_of xs x
place_on xs ys x g h = ap (λ l. place_of l x) g.is ∙ place_before xs g.rest x h

pub seen_on : (xs : List (List ℕ)) (x : List ℕ) → GoesOn xs (seen xs x)
seen_on xs x = by (has xs x)
  where
    by : (b : Bool) → GoesOn xs (if b then xs else xs ++ x ∷ [])
    by true = stays xs
    by false = record { rest = x ∷ []; is = refl }

pub seen_place : (xs : List (List ℕ)) (x : List ℕ) → place_of (seen xs x) x ≡ place_of xs x
seen_place xs x = by (has xs x) refl
  where
    by : (b : Bool) → has xs x ≡ b → place_of (seen xs x) x ≡ place_of xs x
    by true e = ap (λ b. place_of (if b then xs else xs ++ x ∷ []) x) e
    by false e = new_place xs x e ∙ sym (past_all xs x e)

-- ---- names by rate

pub record TableGoesOn (t u : RateNames) : Type 0 where
  pub each : (r : Rate) → GoesOn (of_rate r t) (of_rate r u)

pub table_stays : (t : RateNames) → TableGoesOn t t
table_stays t = record { each = λ r. stays (of_rate r t) }

pub table_further : (t u v : RateNames) → TableGoesOn t u → TableGoesOn u v → TableGoesOn t v
table_further t u v a b =
    record { each = λ r. goes_further (of_rate r t) (of_rate r u) (of_rate r v) (a.each r) (b.each r) }

with_name_on : (q : Rate) (t : RateNames) (x : List ℕ) (r : Rate) → GoesOn (of_rate r t) (of_rate r (with_name q t x))
with_name_on rate.Init t x rate.Init = seen_on t.init x
with_name_on rate.Control t x rate.Control = seen_on t.control x
with_name_on rate.Audio t x rate.Audio = seen_on t.audio x
with_name_on q t x r = stays (of_rate r t)

pub added_on : (t : RateNames) (x : List ℕ) → TableGoesOn t (added t x)
added_on t x = record { each = with_name_on (name_rate x) t x }

with_name_has : (q : Rate) (t : RateNames) (x : List ℕ) → has (of_rate q (with_name q t x)) x ≡ true
with_name_has rate.Init t x = seen_is_there t.init x
with_name_has rate.Control t x = seen_is_there t.control x
with_name_has rate.Audio t x = seen_is_there t.audio x

with_name_place : (q : Rate) (t : RateNames) (x : List ℕ)
    → place_of (of_rate q (with_name q t x)) x ≡ place_of (of_rate q t) x
with_name_place rate.Init t x = seen_place t.init x
with_name_place rate.Control t x = seen_place t.control x
with_name_place rate.Audio t x = seen_place t.audio x

pub added_in : (t : RateNames) (x : List ℕ) → in_table (added t x) x ≡ true
added_in t x = with_name_has (name_rate x) t x

pub added_place : (t : RateNames) (x : List ℕ) → place_in (added t x) x ≡ place_in t x
added_place t x = with_name_place (name_rate x) t x

pub in_on : (t u : RateNames) (x : List ℕ) → TableGoesOn t u → in_table t x ≡ true → in_table u x ≡ true
in_on t u x g h = has_on (of_rate (name_rate x) t) (of_rate (name_rate x) u) x (g.each (name_rate x)) h

pub place_in_on : (t u : RateNames) (x : List ℕ) → TableGoesOn t u → in_table t x ≡ true → place_in u x ≡ place_in t x
place_in_on t u x g h = place_on (of_rate (name_rate x) t) (of_rate (name_rate x) u) x (g.each (name_rate x)) h
