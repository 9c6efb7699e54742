-- A body typed where it is called, under the names that its variables have there, and typed separately: the
-- same names are known in both, and the numbers differ by base numbers.
use Rattle.std.proofs.Common.{◌≡◌, ◌∙◌, ℕ, suc, ◌+◌, ◌≤◌, ◌<◌, Bool, true, false, if◌then◌else◌, List, [], ◌∷◌, map}
use Rattle.std.proofs.Common.{Option, Some, None, arith, refl, sym, ap, subst}
use Rattle.std.specs.{Option.is_some, Option.unwrap_or, Str.bytes_eq}
use Rattle.std.proofs.lemmas.Slice.Eq.{bytes_eq-Decides}
use Rattle.cs_base.specs.{Rates.at_rate, declared.per_rate.PerRate.PerRate, declared.resource.Rate.Rate}
use Rattle.cs_words.specs.Names.{name_rate, is_global}
use Rattle.cs_grammar.specs.WellFormed.{HasNoStop}
use Rattle.cs_typed.specs.{TypedTree.counts_with, TypedTree.moved_variable, declared.tree.Var.Var}
use Rattle.cs_typed.proofs.Moved.{at_with}
use Rattle.cs_udo.specs.Names.{fresh, in_frame, as_it_is}
use Rattle.cs_udo.proofs.Fresh.{fresh_apart, stopped, framed_shared, framed_fresh, framed_rate, framed_global}
use Rattle.cs_typing.specs.Known.{RateNames, counts_of, in_table, place_in, added, Shared, KnownHere, known_with, knows}
use Rattle.cs_typing.specs.Known.{after_giving, given, given_all, global, variable}
use Rattle.cs_typing.specs.inner.Routines.{Locals, has_local, number_in, counted, with_local, given_in, all_given_in}
use Rattle.cs_typing.specs.inner.Routines.{KnownInBody, known_in, knows_in, variable_in}
use Rattle.cs_typing.proofs.Added.{added_other, added_there, added_new, place_new}
use Rattle.cs_typing.proofs.{KnownLater.Later, KnownLater.given_later, Named.NamedAll}
use Rattle.cs_typing.proofs.Later.{added_on, added_in, added_place, place_in_on}
use Rattle.cs_base.specs.declared.resource.Rate.TheVariants as rate
use Rattle.cs_typed.specs.declared.tree.Var.TheVariants as variant

-- every name
abbrev pub Any : List ℕ → Type 0
Any x = Unit {0}

pub any : (x : List ℕ) → Any x
any x = tt

-- ---- the names of a body where it is called

-- The names that the variables of a body have, for the names that satisfy P; the calls in it have frames from
-- number f on.
pub record Owns (P : List ℕ → Type 0) (own : List ℕ → List ℕ) (f : ℕ) : Type 0 where
  pub rate : (x : List ℕ) → name_rate (own x) ≡ name_rate x
  pub local : (x : List ℕ) → is_global (own x) ≡ is_global x
  pub shared : (x : List ℕ) → is_global x ≡ true → own x ≡ x
  pub apart : (x y : List ℕ) → P x → P y → is_global x ≡ false → is_global y ≡ false → own x ≡ own y → x ≡ y
  pub below : (x y : List ℕ) (g : ℕ) → P x → is_global x ≡ false → f ≤ g → own x ≡ fresh g y → ⊥

pub owns_later : (P : List ℕ → Type 0) (own : List ℕ → List ℕ) (f g : ℕ) → f ≤ g → Owns P own f → Owns P own g
owns_later P own f g le o = record {
  rate = o.rate;
  local = o.local;
  shared = o.shared;
  apart = o.apart;
  below = λ x y h p e more. o.below x y h p e (omega (arith, le, more));
}

pub as_it_is_owns : (f : ℕ) → Owns HasNoStop as_it_is f
as_it_is_owns f = record {
  rate = λ x. refl;
  local = λ x. refl;
  shared = λ x e. refl;
  apart = λ x y p q a b e. e;
  below = λ x y g p e le same. stopped g x y p same;
}

pub frame_owns : (f g : ℕ) → f < g → Owns Any (in_frame f) g
frame_owns f g lt = record {
  rate = framed_rate f;
  local = framed_global f;
  shared = framed_shared f;
  apart = λ x y p q a b e. (fresh_apart f f x y (sym (framed_fresh f x a) ∙ e ∙ framed_fresh f y b)).1;
  below = λ x y h p a le e. by h le (fresh_apart f h x y (sym (framed_fresh f x a) ∙ e)).0;
}
  where
    by : (h : ℕ) → g ≤ h → f ≡ h → ⊥
    by h le e = omega (arith, lt, le, e)

-- ---- the names known in both

-- The assigned variables of the body are known where it is called, each with its number increased by the
-- base.
pub record Sees (P : List ℕ → Type 0) (own : List ℕ → List ℕ) (base : PerRate ℕ) (n : KnownHere)
    (k : KnownInBody) : Type 0 where
  pub shared : n.shared ≡ k.shared
  pub has : (x : List ℕ) → P x → is_global x ≡ false → in_table n.locals (own x) ≡ has_local k.locals x
  pub place : (x : List ℕ) → P x → is_global x ≡ false → has_local k.locals x ≡ true
      → place_in n.locals (own x) ≡ at_rate base (name_rate x) + number_in k.locals x

-- In addition, the next variable has the next number, and no name of a frame from number f on is assigned.
pub record Mirrors (P : List ℕ → Type 0) (own : List ℕ → List ℕ) (f : ℕ) (base : PerRate ℕ) (n : KnownHere)
    (k : KnownInBody) : Type 0 where
  pub sees : Sees P own base n k
  pub counts : counts_of n.locals ≡ counts_with base k.locals.counts
  pub free : (g : ℕ) (x : List ℕ) → f ≤ g → in_table n.locals (fresh g x) ≡ false

module _ {P : List ℕ → Type 0} {own : List ℕ → List ℕ} {f : ℕ} (o : Owns P own f) (base : PerRate ℕ) (n : KnownHere)
    (k : KnownInBody) where
  pub knows_same : Sees P own base n k → (x : List ℕ) → P x → knows n (own x) ≡ knows_in k x
  knows_same s x p =
      ap (λ b. if b then in_table n.shared.globals (own x) else in_table n.locals (own x)) (o.local x)
      ∙ by (is_global x) refl
    where
      by : (b : Bool) → is_global x ≡ b → (if b then in_table n.shared.globals (own x) else in_table n.locals (own x))
          ≡ (if b then in_table k.shared.globals x else has_local k.locals x)
      by true e = λ i. in_table (s.shared i).globals (o.shared x e i)
      by false e = s.has x p e

  abbrev over : KnownHere → List ℕ → Var
  over m y = variant.Global (global (name_rate y) (place_in m.shared.globals y))

  abbrev in_body : List ℕ → Var
  in_body y = variant.Local (name_rate y) (place_in n.locals y)

  variable_at : n.shared ≡ k.shared → (x : List ℕ)
      → (is_global x ≡ false → place_in n.locals (own x) ≡ at_rate base (name_rate x) + number_in k.locals x)
      → variable n (own x) ≡ moved_variable base (variable_in k x)
  variable_at shared x place =
      ap (λ b. if b then over n (own x) else in_body (own x)) (o.local x) ∙ by (is_global x) refl
    where
      by : (b : Bool) → is_global x ≡ b → (if b then over n (own x) else in_body (own x)) ≡ moved_variable base
          (if b then variant.Global (global (name_rate x) (place_in k.shared.globals x))
          else variant.Local (name_rate x) (number_in k.locals x))
      by true e = λ i. variant.Global
          (global (name_rate (o.shared x e i)) (place_in (shared i).globals (o.shared x e i)))
      by false e = λ i. variant.Local (o.rate x i) (place e i)

  pub variable_same : Sees P own base n k → (x : List ℕ) → P x → knows_in k x ≡ true
      → variable n (own x) ≡ moved_variable base (variable_in k x)
  variable_same s x p h =
      variable_at s.shared x
      (λ e. s.place x p e (sym (ap (λ b. if b then in_table k.shared.globals x else has_local k.locals x) e) ∙ h))

-- ---- numbers

none_there : {A : Type 0} (a : Option A) (d : A) → is_some a ≡ false → unwrap_or a d ≡ d
none_there None d h = refl
none_there (Some x) d h = absurd (cc h)

pub some_there : {A : Type 0} (a : Option A) (d e : A) → is_some a ≡ true → unwrap_or a d ≡ unwrap_or a e
some_there None d e h = absurd (cc h)
some_there (Some x) d e h = refl

pub number_new : (l : Locals) (x : List ℕ) → has_local l x ≡ false → number_in l x ≡ at_rate l.counts (name_rate x)
number_new l x h = none_there (l.number x) (at_rate l.counts (name_rate x)) h

one_further : (x y : ℕ) → suc (x + y) ≡ x + suc y
one_further x y = omega arith

counted_with : (q : Rate) (a b : PerRate ℕ) → counted q (counts_with a b) ≡ counts_with a (counted q b)
counted_with rate.Init a b =
    λ i. record { init = one_further a.init b.init i; control = a.control + b.control; audio = a.audio + b.audio }
counted_with rate.Control a b =
    λ i. record { init = a.init + b.init; control = one_further a.control b.control i; audio = a.audio + b.audio }
counted_with rate.Audio a b =
    λ i. record { init = a.init + b.init; control = a.control + b.control; audio = one_further a.audio b.audio i }

module _ {P : List ℕ → Type 0} {own : List ℕ → List ℕ} {f : ℕ} (o : Owns P own f) (base : PerRate ℕ) (n : KnownHere)
    (k : KnownInBody) (m : Mirrors P own f base n k) where
  place_fresh : (x : List ℕ) → P x → is_global x ≡ false → has_local k.locals x ≡ false
      → place_in n.locals (own x) ≡ at_rate base (name_rate x) + at_rate k.locals.counts (name_rate x)
  place_fresh x p e h =
      place_new n.locals (own x) (m.sees.has x p e ∙ h) ∙ (λ i. at_rate (m.counts i) (o.rate x i))
      ∙ at_with base k.locals.counts (name_rate x)

  pub place_same : (x : List ℕ) → P x → is_global x ≡ false
      → place_in n.locals (own x) ≡ at_rate base (name_rate x) + number_in k.locals x
  place_same x p e = by (has_local k.locals x) refl
    where
      by : (b : Bool) → has_local k.locals x ≡ b
          → place_in n.locals (own x) ≡ at_rate base (name_rate x) + number_in k.locals x
      by true h = m.sees.place x p e h
      by false h = place_fresh x p e h ∙ ap (λ j. at_rate base (name_rate x) + j) (sym (number_new k.locals x h))

  -- an assigned variable, whether or not it was known before
  pub variable_given : (x : List ℕ) → P x → variable n (own x) ≡ moved_variable base (variable_in k x)
  variable_given x p = variable_at o base n k m.sees.shared x (place_same x p)

  -- ---- one more variable

  new_has : (x y : List ℕ) → P x → P y → is_global x ≡ false → is_global y ≡ false
      → in_table (added n.locals (own x)) (own y) ≡ has_local (with_local k.locals x) y
  new_has x y p q e d = by (bytes_eq x y) refl
    where
      by : (b : Bool) → bytes_eq x y ≡ b → in_table (added n.locals (own x)) (own y)
          ≡ is_some (if b then Some (at_rate k.locals.counts (name_rate x)) else k.locals.number y)
      by true h =
          subst (λ z. in_table (added n.locals (own x)) (own z) ≡ true) ((bytes_eq-Decides x y).0 h)
          (added_in n.locals (own x))
      by false h = added_other n.locals (own x) (own y) (λ same. isnt h (o.apart y x q p d e same)) ∙ m.sees.has y q d
        where
          isnt : bytes_eq x y ≡ false → y ≡ x → ⊥
          isnt g same = absurd (cc (sym g ∙ (bytes_eq-Decides x y).1 (sym same)))

  new_place : (x y : List ℕ) → P x → P y → is_global x ≡ false → is_global y ≡ false → has_local k.locals x ≡ false
      → has_local (with_local k.locals x) y ≡ true
      → place_in (added n.locals (own x)) (own y) ≡ at_rate base (name_rate y) + number_in (with_local k.locals x) y
  new_place x y p q e d new h = by (bytes_eq x y) refl h
    where
      c : ℕ
      c = at_rate k.locals.counts (name_rate x)

      by : (b : Bool) → bytes_eq x y ≡ b → is_some (if b then Some c else k.locals.number y) ≡ true
          → place_in (added n.locals (own x)) (own y) ≡ at_rate base (name_rate y)
          + unwrap_or (if b then Some c else k.locals.number y)
          (at_rate (counted (name_rate x) k.locals.counts) (name_rate y))
      by true g there =
          subst (λ z. place_in (added n.locals (own x)) (own z) ≡ at_rate base (name_rate z) + c)
          ((bytes_eq-Decides x y).0 g) (added_place n.locals (own x) ∙ place_fresh x p e new)
      by false g there =
          place_in_on n.locals (added n.locals (own x)) (own y) (added_on n.locals (own x)) (m.sees.has y q d ∙ there)
          ∙ m.sees.place y q d there ∙ ap (λ j. at_rate base (name_rate y) + j)
          (some_there (k.locals.number y) (at_rate k.locals.counts (name_rate y))
          (at_rate (counted (name_rate x) k.locals.counts) (name_rate y)) there)

  one_more : (x : List ℕ) → P x → is_global x ≡ false → has_local k.locals x ≡ false
      → Mirrors P own f base (known_with n.shared (added n.locals (own x))) (known_in k.shared (with_local k.locals x))
  one_more x p e new = record {
    sees = record {
      shared = m.sees.shared;
      has = λ y q d. new_has x y p q e d;
      place = λ y q d h. new_place x y p q e d new h;
    };
    counts = added_new n.locals (own x) (m.sees.has x p e ∙ new) ∙ (λ i. counted (o.rate x i) (m.counts i))
        ∙ counted_with (name_rate x) base k.locals.counts;
    free = λ g y le. added_other n.locals (own x) (fresh g y) (λ same. o.below x y g p e le (sym same)) ∙ m.free g y le;
  }

  pub mirrors_given : (x : List ℕ) → P x
      → Mirrors P own f base (given n (own x)) (known_in k.shared (given_in k.locals x))
  mirrors_given x p =
      subst (λ b. Mirrors P own f base (known_with n.shared (if b then n.locals else added n.locals (own x)))
      (known_in k.shared (given_in k.locals x))) (sym (o.local x)) (by (is_global x) (has_local k.locals x) refl refl)
    where
      by : (b c : Bool) → is_global x ≡ b → has_local k.locals x ≡ c
          → Mirrors P own f base (known_with n.shared (if b then n.locals else added n.locals (own x)))
          (known_in k.shared (if b then k.locals else (if c then k.locals else with_local k.locals x)))
      by true c e h = m
      by false true e h =
          subst (λ t. Mirrors P own f base (known_with n.shared t) k)
          (sym (added_there n.locals (own x) (m.sees.has x p e ∙ h))) m
      by false false e h = one_more x p e h

pub mirrors_all_given : (P : List ℕ → Type 0) (own : List ℕ → List ℕ) (f : ℕ) → Owns P own f → (base : PerRate ℕ)
    (n : KnownHere) (k : KnownInBody) → Mirrors P own f base n k → (xs : List (List ℕ)) → NamedAll P xs
    → Mirrors P own f base (given_all n (map own xs)) (known_in k.shared (all_given_in k.locals xs))
mirrors_all_given P own f o base n k m [] p = m
mirrors_all_given P own f o base n k m (x ∷ xs) p =
    mirrors_all_given P own f o base (given n (own x)) (known_in k.shared (given_in k.locals x))
    (mirrors_given o base n k m x p.0) xs p.1

-- the shared names change in both
pub with_shared : (P : List ℕ → Type 0) (own : List ℕ → List ℕ) (f : ℕ) (base : PerRate ℕ) (n : KnownHere)
    (k : KnownInBody) → Mirrors P own f base n k → (g h : Shared) → g ≡ h
    → Mirrors P own f base (known_with g n.locals) (known_in h k.locals)
with_shared P own f base n k m g h e = record {
  sees = record { shared = e; has = m.sees.has; place = m.sees.place };
  counts = m.counts;
  free = m.free;
}

-- ---- names of other bodies

-- The facts still hold later, if none of the body's names is assigned in between.
pub sees_later : (P : List ℕ → Type 0) (own : List ℕ → List ℕ) (base : PerRate ℕ) (n m : KnownHere) (k : KnownInBody)
    (g : Shared) → Sees P own base n k → Later n m → m.shared ≡ g
    → ((x : List ℕ) → P x → is_global x ≡ false → in_table m.locals (own x) ≡ in_table n.locals (own x))
    → Sees P own base m (known_in g k.locals)
sees_later P own base n m k g s l e stays = record {
  shared = e;
  has = λ x p d. stays x p d ∙ s.has x p d;
  place = λ x p d h.
      place_in_on n.locals m.locals (own x) l.locals (s.has x p d ∙ h) ∙ s.place x p d h;
}

-- assigning another name changes nothing for a name
pub given_other : (t : RateNames) (x y : List ℕ) → (y ≡ x → ⊥) → in_table (after_giving t x) y ≡ in_table t y
given_other t x y h = by (is_global x)
  where
    by : (b : Bool) → in_table (if b then t else added t x) y ≡ in_table t y
    by true = refl
    by false = added_other t x y h

pub sees_other : (P : List ℕ → Type 0) (own : List ℕ → List ℕ) (base : PerRate ℕ) (n : KnownHere) (k : KnownInBody)
    → Sees P own base n k → (z : List ℕ) → ((x : List ℕ) → P x → is_global x ≡ false → own x ≡ z → ⊥)
    → Sees P own base (given n z) k
sees_other P own base n k s z h =
    sees_later P own base n (given n z) k k.shared s (given_later n z) s.shared
    (λ x p e. given_other n.locals z (own x) (h x p e))
