-- A chain of steps has at most one result if each of its steps has.
use Rattle.std.proofs.Common.{◌≡◌, Result, Ok, Err, refl, sym, subst, ◌∙◌}
use Rattle.cs_compile.specs.Then.{GoesOn, Is, Then}

-- a step has at most one result
abbrev pub HasOne : {A E : Type 0} → (Result A E → Type 0) → Type 0
HasOne {A} {E} P = (r s : Result A E) → P r → P s → r ≡ s

after_one : {A B E : Type 0} (Q : A → Result B E → Type 0) → ((a : A) → HasOne (Q a))
    → (first : Result A E) (r s : Result B E)
    → GoesOn Q first r → GoesOn Q first s → r ≡ s
after_one Q one (Ok a) r s h k = one a r s h k
after_one Q one (Err e) r s h k = h ∙ sym k

pub then_one : {A B E : Type 0} (P : Result A E → Type 0) (Q : A → Result B E → Type 0) → HasOne P
    → ((a : A) → HasOne (Q a)) → HasOne (Then P Q)
then_one P Q p q r s h k =
    after_one Q q k.first r s (subst (λ x. GoesOn Q x r) (p h.first k.first h.first_is k.first_is) h.after) k.after

pub is_one : {A E : Type 0} (answer : Result A E) → HasOne (Is answer)
is_one answer r s h k = h ∙ sym k

-- a chain is a value, or the refusal of a step
pub goes_on : {A B E : Type 0} (P : Result A E → Type 0) (Q : A → Result B E → Type 0) (a : A) (r : Result B E)
    → P (Ok a) → Q a r → Then P Q r
goes_on P Q a r p q = record { first = Ok a; first_is = p; after = q }

pub refuses : {A B E : Type 0} (P : Result A E → Type 0) (Q : A → Result B E → Type 0) (e : E) → P (Err e)
    → Then P Q (Err e)
refuses P Q e p = record { first = Err e; first_is = p; after = refl }

-- each result of its first step leads to one of the chain
pub then_some : {A B E : Type 0} (P : Result A E → Type 0) (Q : A → Result B E → Type 0) (first : Result A E) → P first
    → ((a : A) → P (Ok a) → (r : Result B E) × Q a r) → (r : Result B E) × Then P Q r
then_some P Q (Ok a) p q = let more = q a p in (more.0, goes_on P Q a more.0 p more.1)
then_some P Q (Err e) p q = (Err e, refuses P Q e p)
