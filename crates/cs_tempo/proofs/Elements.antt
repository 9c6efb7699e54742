-- Facts about each element of a list, and about each statement of a score in its sections and in their order.
use Rattle.std.proofs.Common.{ℕ, zero, suc, List, [], ◌∷◌, ◌++◌, drop, ⊎_elim}
use Rattle.std.specs.{List.AllByRecursion as Each, Ordering.is_lt}
use Rattle.std.proofs.lemmas.Bool.{cases_Bool}
use Rattle.cs_score.specs.declared.statement.ScoreStmt.{ScoreStmt}
use Rattle.cs_tempo.specs.Order.{has_turn, in_order, order_of, put}
use Rattle.cs_tempo.specs.Sections.{at_front, ends_section, sections_of}

pub each_more : {X : Type 0} (P Q : X → Type 0) (xs : List X) → ((x : X) → P x → Q x) → Each P xs → Each Q xs
each_more P Q [] h e = tt
each_more P Q (x ∷ xs) h e = (h x e.0, each_more P Q xs h e.1)

pub each_append : {X : Type 0} (P : X → Type 0) (xs ys : List X) → Each P xs → Each P ys → Each P (xs ++ ys)
each_append P [] ys e f = f
each_append P (x ∷ xs) ys e f = (e.0, each_append P xs ys e.1 f)

pub each_drop : {X : Type 0} (P : X → Type 0) (xs : List X) (k : ℕ) → Each P xs → Each P (drop k xs)
each_drop P xs zero e = e
each_drop P [] (suc k) e = tt
each_drop P (x ∷ xs) (suc k) e = each_drop P xs k e.1

-- ---- the statements of a score

front_each : (P : ScoreStmt → Type 0) (s : ScoreStmt) (sections : List (List ScoreStmt)) → P s
    → Each (Each P) sections → Each (Each P) (at_front s sections)
front_each P s [] p e = ((p, tt), tt)
front_each P s (first ∷ others) p e = ((p, e.0), e.1)

pub sections_each : (P : ScoreStmt → Type 0) (score : List ScoreStmt) → Each P score → Each (Each P) (sections_of score)
unfolding sections_of
sections_each P [] e = (tt, tt)
sections_each P (s ∷ later) e =
    ⊎_elim
    (λ t. rw t (tt, sections_each P later e.1))
    (λ f. rw f (front_each P s (sections_of later) e.0 (sections_each P later e.1))) (cases_Bool (ends_section s.what))

pub put_each : (P : ScoreStmt → Type 0) (s : ScoreStmt) (us : List ScoreStmt) → P s → Each P us → Each P (put s us)
unfolding put
put_each P s [] p e = (p, tt)
put_each P s (u ∷ us) p e =
    ⊎_elim (λ t. rw t (e.0, put_each P s us p e.1)) (λ f. rw f (p, e)) (cases_Bool (is_lt (order_of u.what s.what)))

pub in_order_each : (P : ScoreStmt → Type 0) (section : List ScoreStmt) → Each P section → Each P (in_order section)
unfolding in_order
in_order_each P [] e = tt
in_order_each P (s ∷ later) e =
    ⊎_elim
    (λ t. rw t (put_each P s (in_order later) e.0 (in_order_each P later e.1)))
    (λ f. rw f (in_order_each P later e.1)) (cases_Bool (has_turn s.what))
