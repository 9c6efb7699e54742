-- The stop that ends a held note, found by the notes that sound, and found by counting.
use Rattle.std.proofs.Common.{◌≡◌, ℕ, zero, suc, ◌<◌, Bool, true, false, cond, ◌==◌, ◌&&◌, List, [], ◌∷◌, ◌++◌, length}
use Rattle.std.proofs.Common.{drop, Option, Some, None, slice_get, ℤ, arith, refl, ap, ◌∙◌, ⊎_elim, append_assoc}
use Rattle.std.proofs.lemmas.{Bool.cases_Bool, Bool.Decides.nat_tests, List.length_push}
use Rattle.cs_score.specs.{declared.statement.ScoreWhat.ScoreWhat, declared.statement.ScoreStmt.ScoreStmt}
use Rattle.cs_score.specs.declared.statement.ScoreWhat.TheVariants.{Hold, Stop}
use Rattle.cs_tempo.specs.inner.Counted.{sounding_after, sounding, own_stop, stops_of, stop_after}
use Rattle.cs_tempo.specs.Pairing.{held_after, held, ends_here, or_later, ending_stop}
use Rattle.std.specs.List.{AllByRecursion as Each}
use Rattle.cs_tempo.proofs.Elements.{each_more}

-- one more turn changes the list of sounding notes and their number in the same way
one_more : (n index : ℕ) (w : ScoreWhat) (h : List ℕ) → length (held_after n index w h) ≡ sounding_after n w (length h)
one_more n index (Hold instr at given more) h =
    ⊎_elim (λ t. rw t (length_push h index)) (λ f. rw f refl) (cases_Bool (n == instr))
one_more n index (Stop instr at) [] = ⊎_elim (λ t. rw t refl) (λ f. rw f refl) (cases_Bool (n == instr))
one_more n index (Stop instr at) (p ∷ h) = ⊎_elim (λ t. rw t (omega arith)) (λ f. rw f refl) (cases_Bool (n == instr))
one_more n index _ h = refl

-- the list of sounding notes has as many items as the count says
held_counted : (n : ℕ) (earlier : List ScoreStmt) → length (held n earlier) ≡ sounding n earlier
unfolding held sounding
held_counted n [] = refl
held_counted n (s ∷ earlier) =
    one_more n (length earlier) s.what (held n earlier) ∙ ap (sounding_after n s.what) (held_counted n earlier)

push_each : (P : ℕ → Type 0) (xs : List ℕ) (x : ℕ) → Each P xs → P x → Each P (xs ++ x ∷ [])
push_each P [] x e p = (p, tt)
push_each P (y ∷ ys) x e p = (e.0, push_each P ys x e.1 p)

drop_one : (P : ℕ → Type 0) (xs : List ℕ) → Each P xs → Each P (drop 1 xs)
drop_one P [] e = tt
drop_one P (x ∷ xs) e = e.1

lower_after : (n k : ℕ) (w : ScoreWhat) (h : List ℕ) → Each (λ p. p < k) h → Each (λ p. p < suc k) (held_after n k w h)
lower_after n k (Hold instr at given more) h e =
    let up = each_more (λ p. p < k) (λ p. p < suc k) h (λ p l. omega arith) e in
    ⊎_elim (λ t. rw t (push_each (λ p. p < suc k) h k up (omega arith))) (λ f. rw f up) (cases_Bool (n == instr))
lower_after n k (Stop instr at) h e =
    let up = each_more (λ p. p < k) (λ p. p < suc k) h (λ p l. omega arith) e in
    ⊎_elim (λ t. rw t (drop_one (λ p. p < suc k) h up)) (λ f. rw f up) (cases_Bool (n == instr))
lower_after n k _ h e = each_more (λ p. p < k) (λ p. p < suc k) h (λ p l. omega arith) e

-- every index of a sounding note belongs to an earlier turn
held_lower : (n : ℕ) (earlier : List ScoreStmt) → Each (λ p. p < length earlier) (held n earlier)
unfolding held
held_lower n [] = tt
held_lower n (s ∷ earlier) = lower_after n (length earlier) s.what (held n earlier) (held_lower n earlier)

none_there : (xs : List ℕ) (k : ℕ) → xs ≡ [] → None ≡ slice_get xs k
none_there [] zero e = refl
none_there [] (suc k) e = refl
none_there (x ∷ xs) k e = absurd (cc)

ended : (b c : Bool) (at : ℕ) (rest : Option ℕ) (later : List ℕ) → b ≡ true → c ≡ true →
    or_later (cond (b && c) (Some at) None) rest ≡ slice_get (cond b (at ∷ []) [] ++ later) 0
ended true true at rest later p q = refl
ended true false at rest later p q = absurd (cc)
ended false c at rest later p q = absurd (cc)

sounds_on : (b c : Bool) (at k : ℕ) (rest : Option ℕ) (later : List ℕ) → b ≡ true → c ≡ false → rest ≡ slice_get later k
    → or_later (cond (b && c) (Some at) None) rest ≡ slice_get (cond b (at ∷ []) [] ++ later) (suc k)
sounds_on true true at k rest later p q h = absurd (cc)
sounds_on true false at k rest later p q h = h
sounds_on false c at k rest later p q h = absurd (cc)

another : (b c : Bool) (at k : ℕ) (rest : Option ℕ) (later : List ℕ) → b ≡ false → rest ≡ slice_get later k →
    or_later (cond (b && c) (Some at) None) rest ≡ slice_get (cond b (at ∷ []) [] ++ later) k
another true c at k rest later p h = absurd (cc)
another false c at k rest later p h = h

apart : (a index : ℕ) → a < index → (index == a) ≡ false
apart a index h = grind (arith, nat_tests)

-- one turn: a stop ends the note, or the note sounds on, as do the notes before it that still sound
module _ (n index : ℕ) where
  step : (k : ℕ) (w : ScoreWhat) (ahead behind : List ℕ) (rest : Option ℕ) (later : List ℕ)
      → Each (λ p. p < index) ahead →
      ((front back : List ℕ) → held_after n k w (ahead ++ index ∷ behind) ≡ front ++ index ∷ back
      → Each (λ p. p < index) front → rest ≡ slice_get later (length front)) →
      or_later (ends_here n index (ahead ++ index ∷ behind) w) rest ≡ slice_get (own_stop n w ++ later) (length ahead)
  step k (Hold instr at given more) ahead behind rest later low go =
      ⊎_elim
      (λ t. go ahead (behind ++ k ∷ []) (rw t (append_assoc ahead (index ∷ behind) (k ∷ []))) low)
      (λ f. go ahead behind (rw f refl) low) (cases_Bool (n == instr))
  step k (Stop instr at) [] behind rest later low go =
      ⊎_elim
      (λ t. ended (n == instr) (index == index) at rest later t (grind (arith, nat_tests)))
      (λ f. another (n == instr) (index == index) at 0 rest later f (go [] behind (rw f refl) low))
      (cases_Bool (n == instr))
  step k (Stop instr at) (a ∷ ahead) behind rest later low go =
      ⊎_elim
      (λ t. sounds_on (n == instr) (index == a) at (length ahead) rest later t (apart a index low.0)
      (go ahead behind (rw t refl) low.1))
      (λ f. another (n == instr) (index == a) at (suc (length ahead)) rest later f
      (go (a ∷ ahead) behind (rw f refl) low)) (cases_Bool (n == instr))
  step k _ ahead behind rest later low go = go ahead behind refl low

  counted : (ahead behind : List ℕ) (earlier later : List ScoreStmt) → held n earlier ≡ ahead ++ index ∷ behind
      → Each (λ p. p < index) ahead → ending_stop n index earlier later ≡ slice_get (stops_of n later) (length ahead)
  unfolding ending_stop stops_of held
  counted ahead behind earlier [] e low = none_there [] (length ahead) refl
  counted ahead behind earlier (s ∷ later) e low =
      ap (λ h. or_later (ends_here n index h s.what) (ending_stop n index (s ∷ earlier) later)) e
      ∙ step (length earlier) s.what ahead behind (ending_stop n index (s ∷ earlier) later) (stops_of n later) low
      (λ front back e' low'. counted front back (s ∷ earlier) later (ap (held_after n (length earlier) s.what) e ∙ e')
      low')

held_now : (n at : ℕ) (given : ℤ) (more : List ℤ) (k : ℕ) (h : List ℕ)
    → held_after n k (Hold n at given more) h ≡ h ++ k ∷ []
held_now n at given more k h = let same : (n == n) ≡ true = grind (arith, nat_tests) in rw same refl

-- the stop that ends a held note, which is the last of the sounding notes when it starts
pub first_ended : (h : ScoreStmt) (n at : ℕ) (given : ℤ) (more : List ℤ) (earlier later : List ScoreStmt)
    → h.what ≡ Hold n at given more → ending_stop n (length earlier) (h ∷ earlier) later ≡ stop_after n earlier later
unfolding held
first_ended h n at given more earlier later e =
    counted n (length earlier) (held n earlier) [] (h ∷ earlier) later
    (ap (λ w. held_after n (length earlier) w (held n earlier)) e
    ∙ held_now n at given more (length earlier) (held n earlier)) (held_lower n earlier)
    ∙ ap (slice_get (stops_of n later)) (held_counted n earlier)
