use Rattle.std.proofs.Common.{arith, ◌≡◌, ℕ, List, [], ◌∷◌, ◌++◌, Option, None, Some, Result, Ok, Err, OnOk, OnErr}
use Rattle.std.proofs.Common.{refl, ap, subst, sym, ◌∙◌, append_assoc, append-nil, ◌+◌}
use Rattle.std.proofs.lemmas.{Grind.common_steps, List.replicate-append-replicate}
use Rattle.std.specs.Prelude.{IfOk, IsOk}
use Rattle.cs_edge.specs.{declared.moves.Move.Move, declared.moves.Move.TheVariants.Begin, Told.Follows, Told.IsFront}
use Rattle.cs_edge.specs.Moves.{GrownBy, Grown, AreAll, IsRun}

-- two calls, one after the other
pub follows_on : {A : Type 0} (P Q R : A → A → Type 0) → ((x y z : A) → P x y → Q y z → R x z)
    → (a b c : Option A) → Follows a b P → Follows b c Q → Follows a c R
follows_on P Q R join a b None p q = tt
follows_on P Q R join a None (Some z) p q = absurd q
follows_on P Q R join None (Some y) (Some z) p q = absurd p
follows_on P Q R join (Some x) (Some y) (Some z) p q = join x y z p q

-- two states that satisfy P satisfy every consequence of P
pub follows_as : {A : Type 0} (P Q : A → A → Type 0) → ((x y : A) → P x y → Q x y)
    → (a b : Option A) → Follows a b P → Follows a b Q
follows_as P Q weaker a None p = tt
follows_as P Q weaker None (Some y) p = absurd p
follows_as P Q weaker (Some x) (Some y) p = weaker x y p

itself : {A : Type 0} (P : A → A → Type 0) → ((x : A) → P x x) → (a : Option A) → Follows a a P
itself P same None = tt
itself P same (Some x) = same x

-- no call at all
pub follows_same : {A : Type 0} (P : A → A → Type 0) → ((x : A) → P x x) → (a b : Option A) → b ≡ a → Follows a b P
follows_same P same a b e = let Q : Option _ → Type 0 = λ o. Follows a o P in subst Q (sym e) (itself P same a)

-- calls of one kind, followed by calls of another
pub grown_on : (P Q R : List Move → Type 0) → ((x y : List Move) → P x → Q y → R (x ++ y))
    → (a b c : List Move) → Grown P a b → Grown Q b c → Grown R a c
grown_on P Q R join a b c p q =
    (p.0 ++ q.0, join p.0 q.0 p.1 q.1, q.2 ∙ (ap (λ (l : List Move). l ++ q.0) p.2 ∙ append_assoc a p.0 q.0))

-- one call as a list of calls
pub grown_by : (move : Move) (a b : List Move) → GrownBy move a b → Grown (λ more. more ≡ move ∷ []) a b
grown_by move a b e = (move ∷ [], refl, e)

-- no call is zero repetitions of a call, and one more call is one more repetition
pub all_none : (move : Move) (a : List Move) → Grown (AreAll move) a a
all_none move a = ([], (0, refl), sym (append-nil a))

pub all_more : (move : Move) (x y : List Move) → AreAll move x → y ≡ move ∷ [] → AreAll move (x ++ y)
all_more move x y p e = (p.0 + 1, rw (p.1, e) (replicate-append-replicate p.0 1 move))

-- any number of repetitions of a call, followed by one more
pub all_on : (move : Move) (a b c : Option (List Move)) → Follows a b (Grown (AreAll move))
    → Follows b c (GrownBy move) → Follows a c (Grown (AreAll move))
all_on move a b c p q = grind (arith, common_steps, all_more, follows_on, grown_by, grown_on)

-- a `begin` begins a run, which continues with the run's calls
pub run_begun : (name : List ℕ) (move : Move) (a b : Option (List Move)) → Follows a b (GrownBy (Begin name))
    → Follows a b (Grown (IsRun name move))
run_begun name move a b p =
    follows_as (GrownBy (Begin name)) (Grown (IsRun name move)) (λ x y e. (Begin name ∷ [], (0, refl), e)) a b p

pub run_on : (name : List ℕ) (move : Move) (x y : List Move) → IsRun name move x → AreAll move y
    → IsRun name move (x ++ y)
run_on name move x y p q =
    (p.0 + q.0, rw (p.1, q.1) (ap (λ (l : List Move). Begin name ∷ l) (replicate-append-replicate p.0 q.0 move)))

-- a prefix of a list is a prefix of a longer list
pub front_all : {A : Type 0} (l : List A) → IsFront l l
front_all l = ([], sym (append-nil l))

pub front_more : {A : Type 0} (front whole more : List A) → IsFront front whole → IsFront front (whole ++ more)
front_more front whole more f = (f.0 ++ more, ap (λ (l : List _). l ++ more) f.1 ∙ append_assoc front f.0 more)

pub front_of_front : {A : Type 0} (a b c : List A) → IsFront a b → IsFront b c → IsFront a c
front_of_front a b c f g =
    (f.0 ++ g.0, g.1 ∙ ap (λ (l : List _). l ++ g.0) f.1 ∙ append_assoc a f.0 g.0)

-- consequences of the promise of a successful call
pub ok_then : {T E P Q : Type 0} (r : Result T E) → OnOk r P → (P → Q) → OnOk r Q
ok_then (Ok x) p f = f p
ok_then (Err e) p f = tt

-- consequences of that promise together with the promise about the fault count
pub ok_with : {T E P Q S : Type 0} (r : Result T E) → OnOk r P → (IsOk r → S) → (P → S → Q) → OnOk r Q
ok_with (Ok x) p s f = f p (s refl)
ok_with (Err e) p s f = tt

pub err_then : {T E P Q : Type 0} (r : Result T E) → OnErr r P → (P → Q) → OnErr r Q
err_then (Ok x) p f = tt
err_then (Err e) p f = f p

-- facts that hold for every result
pub if_any : {T E : Type 0} (P : T → Type 0) → ((x : T) → P x) → (r : Result T E) → IfOk r P
if_any P always (Ok x) = always x
if_any P always (Err e) = tt

pub ok_any : {T E P : Type 0} (r : Result T E) → P → OnOk r P
ok_any (Ok x) p = p
ok_any (Err e) p = tt

pub err_any : {T E P : Type 0} (r : Result T E) → P → OnErr r P
err_any (Ok x) p = tt
err_any (Err e) p = p
