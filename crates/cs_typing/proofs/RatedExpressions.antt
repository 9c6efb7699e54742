-- The typed form of a value or of a condition agrees with the rules of rates.
use Rattle.std.proofs.Common.{◌≡◌, ◌∙◌, ℕ, Bool, true, false, not, ◌&&◌, ◌||◌, if◌then◌else◌, List, refl, sym, ap}
use Rattle.std.proofs.lemmas.Bool.{and_parts}
use Rattle.cs_base.proofs.Tests.{by_test}
use Rattle.cs_base.specs.{Rates.faster, Rates.is_audio, Rates.res_rate, declared.resource.Rate.Rate}
use Rattle.cs_words.specs.{Signs.is_arithmetic, Signs.is_logic, Names.name_rate, Names.is_global}
use Rattle.cs_grammar.specs.Tree.{Expression, number, var, field, head, neg, pair, pick, apply}
use Rattle.cs_typing.specs.Expressions.{is_control_name, is_value, is_condition, rate_of, typed_expression}
use Rattle.cs_typing.specs.Known.{KnownHere, variable, global, place_in}
use Rattle.cs_typed.specs.WellRated.{var_rate, is_variable, node_rate, is_read_once, IsRated}
use Rattle.cs_base.specs.declared.resource.Rate.TheVariants as rate
use Rattle.cs_words.specs.declared.word.Func.TheVariants as func
use Rattle.cs_typed.specs.declared.tree.Var.TheVariants as variable_of

-- the rate in the typed form is the rate of the expression
pub node_is : (n : KnownHere) (e : Expression) → node_rate (typed_expression n e) ≡ rate_of e
node_is n (number v) = refl
node_is n e = refl

global_rate : (r : Rate) (k : ℕ) → (res_rate (global r k) ≡ r) × (is_variable (variable_of.Global (global r k)) ≡ true)
global_rate rate.Init k = (refl, refl)
global_rate rate.Control k = (refl, refl)
global_rate rate.Audio k = (refl, refl)

either_rate : (b : Bool) (r : Rate) (j k : ℕ)
    → (var_rate (if b then variable_of.Global (global r j) else variable_of.Local r k) ≡ r) ×
    (is_variable (if b then variable_of.Global (global r j) else variable_of.Local r k) ≡ true)
either_rate true r j k = global_rate r j
either_rate false r j k = (refl, refl)

-- a variable has the rate of its name
pub variable_rate : (n : KnownHere) (name : List ℕ)
    → (var_rate (variable n name) ≡ name_rate name) × (is_variable (variable n name) ≡ true)
variable_rate n name = either_rate (is_global name) (name_rate name) (place_in n.shared.globals name)
    (place_in n.locals name)

pub not_true : (b : Bool) → not b ≡ true → b ≡ false
not_true true h = absurd (cc h)
not_true false h = refl

then_part : (b x y : Bool) → b ≡ true → (if b then x else y) ≡ true → x ≡ true
then_part true x y e h = h
then_part false x y e h = absurd (cc e)

else_part : (b x y : Bool) → b ≡ false → (if b then x else y) ≡ true → y ≡ true
else_part false x y e h = h
else_part true x y e h = absurd (cc e)

or_true : (x y : Bool) → x ≡ true → (x || y) ≡ true
or_true true y h = refl
or_true false y h = absurd (cc h)

or_not : (x y : Bool) → y ≡ false → (x || not y) ≡ true
or_not true y h = refl
or_not false false h = refl
or_not false true h = absurd (cc h)

not_faster : (r s : Rate) → is_audio r ≡ false → is_audio s ≡ false → is_audio (faster r s) ≡ false
not_faster rate.Init rate.Audio h k = absurd (cc k)
not_faster rate.Control rate.Audio h k = absurd (cc k)
not_faster rate.Audio s h k = absurd (cc h)
not_faster r s h k = refl

-- a condition is not a-rate
pub no_sound : (c : Expression) → is_condition c ≡ true → is_audio (rate_of c) ≡ false
no_sound (pair o a b) h =
    let fast = is_audio (faster (rate_of a) (rate_of b)) in
    let both = is_condition a && is_condition b in
    let other = not (is_arithmetic o) && (is_value a && is_value b && not fast) in
    by_test (is_logic o)
    (λ yes.
    let parts = and_parts (is_condition a) (is_condition b) (then_part (is_logic o) both other yes h) in
    not_faster (rate_of a) (rate_of b) (no_sound a parts.0) (no_sound b parts.1))
    (λ no.
    let parts = and_parts (not (is_arithmetic o)) (is_value a && is_value b && not fast)
    (else_part (is_logic o) both other no h) in
    not_true fast (and_parts (is_value a && is_value b) (not fast) parts.1).1)
no_sound (number v) h = absurd (cc h)
no_sound (var name) h = absurd (cc h)
no_sound (field k) h = absurd (cc h)
no_sound (head k) h = absurd (cc h)
no_sound (neg a) h = absurd (cc h)
no_sound (pick c a b) h = absurd (cc h)
no_sound (apply f a) h = absurd (cc h)

fast_is : (n : KnownHere) (a b : Expression)
    → faster (rate_of a) (rate_of b) ≡ faster (node_rate (typed_expression n a)) (node_rate (typed_expression n b))
fast_is n a b =
    ap (λ r. faster r (rate_of b)) (sym (node_is n a))
    ∙ ap (λ r. faster (node_rate (typed_expression n a)) r) (sym (node_is n b))

fastest_is : (n : KnownHere) (c a b : Expression)
    → faster (rate_of c) (faster (rate_of a) (rate_of b)) ≡ faster (node_rate (typed_expression n c))
    (faster (node_rate (typed_expression n a)) (node_rate (typed_expression n b)))
fastest_is n c a b =
    ap (λ r. faster r (faster (rate_of a) (rate_of b))) (sym (node_is n c))
    ∙ ap (λ r. faster (node_rate (typed_expression n c)) r) (fast_is n a b)

read_once : (n : KnownHere) (a : Expression) → is_control_name a ≡ true
    → (is_read_once (typed_expression n a) ≡ true) × IsRated (typed_expression n a)
read_once n (var name) h = (h, (sym (variable_rate n name).0, (variable_rate n name).1))
read_once n (number v) h = absurd (cc h)
read_once n (field k) h = absurd (cc h)
read_once n (head k) h = absurd (cc h)
read_once n (neg a) h = absurd (cc h)
read_once n (pair o a b) h = absurd (cc h)
read_once n (pick c a b) h = absurd (cc h)
read_once n (apply f a) h = absurd (cc h)

mutual
  pub value_rated : (n : KnownHere) (e : Expression) → is_value e ≡ true → IsRated (typed_expression n e)
  value_rated n (number v) h = refl
  value_rated n (var name) h = (sym (variable_rate n name).0, (variable_rate n name).1)
  value_rated n (field k) h = refl
  value_rated n (head k) h = refl
  value_rated n (neg a) h = (sym (node_is n a), value_rated n a h)
  value_rated n (pair o a b) h =
      let parts = and_parts (is_arithmetic o && is_value a) (is_value b) h in
      let first = and_parts (is_arithmetic o) (is_value a) parts.0 in (
        fast_is n a b,
        or_true (is_arithmetic o) (not (is_audio (faster (rate_of a) (rate_of b)))) first.0,
        value_rated n a first.1,
        value_rated n b parts.1,
      )
  value_rated n (pick c a b) h =
      let parts = and_parts (is_condition c && is_value a) (is_value b) h in
      let first = and_parts (is_condition c) (is_value a) parts.0 in (
        fastest_is n c a b,
        ap is_audio (node_is n c) ∙ no_sound c first.0,
        condition_rated n c first.0,
        value_rated n a first.1,
        value_rated n b parts.1,
      )
  value_rated n (apply func.I a) h = (refl, (read_once n a h).0, (read_once n a h).1)
  value_rated n (apply func.Cpspch a) h =
      let parts = and_parts (is_value a) (not (is_audio (rate_of a))) h in
      (sym (node_is n a), not_true (is_audio (rate_of a)) parts.1, value_rated n a parts.0)
  value_rated n (apply func.Int a) h = (sym (node_is n a), value_rated n a h)
  value_rated n (apply func.Frac a) h = (sym (node_is n a), value_rated n a h)
  value_rated n (apply func.Abs a) h = (sym (node_is n a), value_rated n a h)
  value_rated n (apply func.Floor a) h = (sym (node_is n a), value_rated n a h)

  pub condition_rated : (n : KnownHere) (c : Expression) → is_condition c ≡ true → IsRated (typed_expression n c)
  condition_rated n (pair o a b) h =
      let fast = is_audio (faster (rate_of a) (rate_of b)) in
      let both = is_condition a && is_condition b in
      let other = not (is_arithmetic o) && (is_value a && is_value b && not fast) in
      let under : IsRated (typed_expression n a) × IsRated (typed_expression n b) =
      by_test (is_logic o)
      (λ yes.
      let parts = and_parts (is_condition a) (is_condition b) (then_part (is_logic o) both other yes h) in
      (condition_rated n a parts.0, condition_rated n b parts.1))
      (λ no.
      let parts = and_parts (not (is_arithmetic o)) (is_value a && is_value b && not fast)
      (else_part (is_logic o) both other no h) in
      let first = and_parts (is_value a && is_value b) (not fast) parts.1 in
      let values = and_parts (is_value a) (is_value b) first.0 in
      (value_rated n a values.0, value_rated n b values.1))
      in (fast_is n a b, or_not (is_arithmetic o) fast (no_sound (pair o a b) h), under.0, under.1)
  condition_rated n (number v) h = absurd (cc h)
  condition_rated n (var name) h = absurd (cc h)
  condition_rated n (field k) h = absurd (cc h)
  condition_rated n (head k) h = absurd (cc h)
  condition_rated n (neg a) h = absurd (cc h)
  condition_rated n (pick c a b) h = absurd (cc h)
  condition_rated n (apply f a) h = absurd (cc h)
