-- Each kind of step on a mailbox preserves its rule, and lets the end that makes it know what it promises.
use Rattle.std.proofs.lemmas.{Grind.common_steps, Bool.cases_eq, List.set-get_or}
use Rattle.atomic_table.proofs.Lists.{set_again}
use Rattle.std.proofs.Common.{◌≡◌, ◌≢◌, ◌⊎◌, ℕ, inl, inr, ⊎_elim, List, [], ◌∷◌, Option, Some, None, refl, sym, ap, ◌∙◌}
use Rattle.std.proofs.Common.{subst, arith, slice_index, slice_set, eqb, eq-eqb, ne_eqb}
use Rattle.std.specs.{Prelude.MatchOption, Arc.arc_value}
use mathlib.Core.Option.{some, none}
use prog.Atomic.{either}
use lib.ListN.{get_elem?}
use Rattle.atomic_table.specs.Table.{State, Act, keeps, takes, gives, stepped, step, Valid, carried_after, rest, Allows}
use Rattle.atomic_table.specs.Table.{Splits, opening}
use Rattle.cs_board.specs.declared.board.BoardSeat.{BoardSeat}
use Rattle.cs_cells.specs.Meaning.{Meaning}
use Rattle.cs_pool.specs.{Working.IsDone, Working.IsThrough, declared.letter.Task.Task, declared.view.Errand.Errand}
use Rattle.cs_pool.specs.{declared.view.Knows.Knows, declared.view.Tasks.Tasks}
use Rattle.cs_pool.specs.Letters.{errand_of, caller, helper, no_tasks, one_given, one_served}
use Rattle.cs_pool.specs.inner.Exchange.{beginning, IsGiven, IsBack, IsHome, IsAbroad, Facts, Always}
use Rattle.cs_pool.specs.inner.Telling.{Sat, fetched, gave, gave_back, closed, took, collected, withdrew}
use Rattle.cs_pool.specs.declared.letter.MailboxLetter.{MailboxLetter}
use Rattle.cs_pool.specs.declared.letter.TheConstants.{EMPTY, GIVEN, TAKEN, BACK, OVER}
use Rattle.cs_pool.specs.declared.view.Role.TheVariants.{Maker, Holder}
use Rattle.cs_pool.proofs.Ends.{OfCaller, OfHelper, of_caller, of_helper, of_maker, of_holder}
use mathlib.Core.Option as maybe
use Rattle.cs_pool.specs.declared.letter.MailboxLetter.TheVariants as letter

-- the two cases of an exchange
exchanged : (n old new : ℕ) (P : ℕ → Type 0) → (n ≡ old → P new) → (n ≢ old → P n) → P (either (eqb n old) new n)
exchanged n old new P hit miss = grind (arith, common_steps, cases_eq, either, eq-eqb, ne_eqb)

module _ {J : Type 0} (M : Meaning J) where
  -- a helper that isn't on duty, at a step of the caller
  still_free : (o : Option (Errand J)) (w w' : ℕ) (c c' : Option (Errand J)) → w ≢ TAKEN → w' ≢ TAKEN
      → MatchOption o (w ≢ TAKEN) (λ e. (w ≡ TAKEN) × (c ≡ Some e))
      → MatchOption o (w' ≢ TAKEN) (λ e. (w' ≡ TAKEN) × (c' ≡ Some e))
  still_free None w w' c c' n n' d = n'
  still_free (Some e) w w' c c' n n' d = absurd (n d.0)

  -- for what is out: at GIVEN the task is in the slot, at BACK the answer
  given_abroad : (w : ℕ) (h : maybe.Option (MailboxLetter J)) (e : Errand J) → w ≡ GIVEN → IsAbroad M w h e
      → IsGiven M w h e
  given_abroad w h e is =
      ⊎_elim (λ g. g) (⊎_elim (λ t. absurd (omega (arith, is, t.word))) (λ b. absurd (omega (arith, is, b.word))))

  back_abroad : (w : ℕ) (h : maybe.Option (MailboxLetter J)) (e : Errand J) → w ≡ BACK → IsAbroad M w h e
      → IsBack M w h e
  back_abroad w h e is =
      ⊎_elim (λ g. absurd (omega (arith, is, g.word))) (⊎_elim (λ t. absurd (omega (arith, is, t.word))) (λ b. b))

  -- at GIVEN something is out, and it is in the slot
  given_out : (o : Option (Errand J)) (w : ℕ) (h : maybe.Option (MailboxLetter J)) → w ≡ GIVEN
      → MatchOption o (IsHome M w h) (IsAbroad M w h) → (e : Errand J) × (o ≡ Some e) × IsGiven M w h e
  given_out None w h is m = absurd (⊎_elim (λ z. omega (arith, z, is)) (λ z. omega (arith, z, is)) m.word)
  given_out (Some e) w h is m = (e, refl, given_abroad w h e is m)

  module _ (s : State (MailboxLetter J) (Knows J)) (id : ℕ) where
    -- the rule after a step of the caller, and of the helper
    caller_stepped : (v : Knows J) (c : OfCaller M s id v) (ws : List ℕ) (hs : List (maybe.Option (MailboxLetter J)))
        (w : ℕ) (h : maybe.Option (MailboxLetter J)) (v' : Knows J) → ws ≡ w ∷ [] → hs ≡ h ∷ [] → Facts M w h v' c.other
        → Always M (record { words = ws; homes = hs; views = slice_set s.views id v' })
    caller_stepped v c ws hs w h v' words homes facts = grind (arith, common_steps)

    helper_stepped : (v : Knows J) (c : OfHelper M s id v) (ws : List ℕ) (hs : List (maybe.Option (MailboxLetter J)))
        (w : ℕ) (h : maybe.Option (MailboxLetter J)) (v' : Knows J) → ws ≡ w ∷ [] → hs ≡ h ∷ [] → Facts M w h c.other v'
        → Always M (record { words = ws; homes = hs; views = slice_set s.views id v' })
    helper_stepped v c ws hs w h v' words homes facts = grind (arith, common_steps)

  -- the first end takes the content of the slot
  pub fetches : (n id : ℕ)
      → Allows (Always M) n id (beginning Maker, []) 0 (λ y. y) (fetched (step n 0 0 0 none) (beginning Maker, []))
  fetches n id s a long here fits =
      let b = of_maker M s id (beginning Maker) refl a here in (
        beginning Holder,
        takes 0 letter.Nothing,
        ap (λ hs. get_elem? hs 0) b.1.homes,
        inr (inl (record {
          words = ap (λ ws. slice_set ws 0 (slice_index ws 0)) b.1.words;
          homes = ap (λ hs. slice_set hs 0 none) b.1.homes;
          views = ap (λ i. slice_set s.views i (beginning Holder)) b.0
              ∙ ap (λ vs. slice_set vs 0 (beginning Holder)) b.1.views;
        })),
        refl,
      )

  -- the helper's end is split off
  pub parts : (id : ℕ) → Splits (Always M) id (beginning Holder) (caller no_tasks None) (helper None)
  parts id s a here = grind (arith, common_steps, none, of_holder)

  -- a task is handed out
  pub hands_out : (n id : ℕ) (k : Tasks) (t : Task J) → IsDone M (arc_value t.board) t.seat
      → Allows (Always M) n id (caller k None, (0, letter.Task t) ∷ []) 0 (λ _. GIVEN)
      (λ _. gave (step n 0 GIVEN 0 none) (caller k None, (0, letter.Task t) ∷ []) GIVEN)
  hands_out n id k t done s a long here fits =
      let c = of_caller M s id (caller k None) refl a here in
      let v' : Knows J = caller (one_given k) (Some (errand_of t)) in (
        v',
        gives,
        tt,
        caller_stepped s id (caller k None) c (slice_set s.words 0 GIVEN) (slice_set s.homes 0 (some (letter.Task t)))
            GIVEN (some (letter.Task t)) v'
            (ap (λ ws. slice_set ws 0 GIVEN) c.words) (ap (λ hs. slice_set hs 0 (some (letter.Task t))) c.homes)
            (record {
              roles = (refl, c.facts.roles.1);
              out = inl (record { word = refl; task = t; home = refl; same = refl; ready = done });
              duty = still_free c.other.out c.word GIVEN None (Some (errand_of t))
                  (λ e. ⊎_elim (λ z. omega (arith, z, e)) (λ z. omega (arith, z, e)) c.facts.out.word)
                  (λ e. omega (arith, e)) c.facts.duty;
            }),
        refl,
      )

  -- nothing changes
  stays : (s : State (MailboxLetter J) (Knows J)) (id : ℕ) (v : Knows J) → Always M s → get_elem? s.views id ≡ some v
      → Always M (record {
        words = slice_set s.words 0 (slice_index s.words 0);
        homes = s.homes;
        views = slice_set s.views id v;
      })
  stays s id v a here =
      subst (λ ws. Always M (record { words = ws; homes = s.homes; views = slice_set s.views id v }))
      (sym (set-get_or s.words 0 _))
      (subst (λ vs. Always M (record { words = s.words; homes = s.homes; views = vs }))
      (sym (set_again s.views id v here)) a)

  -- a task is taken, or there is none
  pub takes_task : (n id : ℕ) → Allows (Always M) n id (helper None, []) 0 (λ y. either (eqb y GIVEN) TAKEN y)
      (took M (step n 0 GIVEN TAKEN none) (helper None, []))
  takes_task n id s a long here fits =
      exchanged x GIVEN TAKEN (λ y. (w : Knows J) × (b : Act (MailboxLetter J)) × Valid s.homes [] b
      × Always M (stepped s 0 y id [] w b)
      × took M (step n 0 GIVEN TAKEN none) (helper None, []) x (w, carried_after [] b))
      (λ hit.
      let g = given_out c.other.out c.word c.home (word_is ∙ hit) c.facts.out in
      let t : Task J = g.2.task in
      let v' : Knows J = helper (Some (errand_of t)) in (
        v',
        takes 0 (letter.Task t),
        ap (λ hs. get_elem? hs 0) c.homes ∙ ap some g.2.home,
        helper_stepped s id (helper None) c (slice_set s.words 0 TAKEN) (slice_set s.homes 0 none) TAKEN none v'
            (ap (λ ws. slice_set ws 0 TAKEN) c.words) (ap (λ hs. slice_set hs 0 none) c.homes) (record {
              roles = (c.facts.roles.0, refl);
              out = subst (λ o. MatchOption o (IsHome M TAKEN none) (IsAbroad M TAKEN none)) (sym g.1)
                  (inr (inl (record { word = refl; home = refl })));
              duty = (refl, g.1 ∙ ap Some (sym g.2.same));
            }),
        ((λ y. (t, refl, subst (λ e. IsDone M e.board e.seat) (sym g.2.same) g.2.ready)), (λ y. absurd (y hit))),
      ))
      (λ miss. (helper None, keeps, tt, stays s id (helper None) a here, ((λ y. absurd (miss y)), (λ y. refl))))
    where
      x : ℕ
      x = slice_index s.words 0

      c : OfHelper M s id (helper None)
      c = of_helper M s id (helper None) refl a here

      word_is : c.word ≡ x
      word_is = sym (ap (λ ws. slice_index ws 0) c.words)

  -- the helper gives its seat back
  pub brings_back : (n id : ℕ) (e : Errand J) (r : BoardSeat J) → IsThrough M e.board e.seat r
      → Allows (Always M) n id (helper (Some e), (0, letter.Answer r) ∷ []) 0 (λ _. BACK)
      (λ _. gave_back (step n 0 BACK 0 none) (helper (Some e), (0, letter.Answer r) ∷ []) BACK)
  brings_back n id e r through s a long here fits =
      let c = of_helper M s id (helper (Some e)) refl a here in (
        helper None,
        gives,
        tt,
        helper_stepped s id (helper (Some e)) c (slice_set s.words 0 BACK)
            (slice_set s.homes 0 (some (letter.Answer r))) BACK (some (letter.Answer r)) (helper None)
            (ap (λ ws. slice_set ws 0 BACK) c.words) (ap (λ hs. slice_set hs 0 (some (letter.Answer r))) c.homes)
            (record {
              roles = (c.facts.roles.0, refl);
              out = subst (λ o. MatchOption o (IsHome M BACK (some (letter.Answer r)))
                  (IsAbroad M BACK (some (letter.Answer r)))) (sym c.facts.duty.1)
                  (inr (inr (record { word = refl; answer = r; home = refl; through = through })));
              duty = λ z. omega (arith, z);
            }),
        refl,
      )

  -- nothing is out any more
  is_home : (w : ℕ) → (w ≡ EMPTY) ⊎ (w ≡ OVER) → IsHome M w none
  is_home w is = record { word = is; home = refl }

  -- If the caller finds the word that it looks for, it takes the content of the slot, and nothing is out any
  -- more; otherwise nothing changes.
  takes_back : (n id : ℕ) (k k' : Tasks) (old : ℕ) (e : Errand J) (told : ℕ → Sat J → Type 0) → old ≢ TAKEN
      → ((w : ℕ) (h : maybe.Option (MailboxLetter J)) → w ≡ old → IsAbroad M w h e
      → (l : MailboxLetter J) × (h ≡ some l) × told w (caller k' None, (0, l) ∷ []))
      → ((w : ℕ) → w ≢ old → told w (caller k (Some e), []))
      → Allows (Always M) n id (caller k (Some e), []) 0 (λ y. either (eqb y old) EMPTY y) told
  takes_back n id k k' old e told free found missed s a long here fits =
      exchanged x old EMPTY (λ y. (w : Knows J) × (b : Act (MailboxLetter J)) × Valid s.homes [] b
      × Always M (stepped s 0 y id [] w b) × told x (w, carried_after [] b))
      (λ hit.
      let f = found c.word c.home (word_is ∙ hit) c.facts.out in (
        caller k' None,
        takes 0 f.0,
        ap (λ hs. get_elem? hs 0) c.homes ∙ ap some f.1,
        caller_stepped s id (caller k (Some e)) c (slice_set s.words 0 EMPTY) (slice_set s.homes 0 none) EMPTY none
            (caller k' None) (ap (λ ws. slice_set ws 0 EMPTY) c.words) (ap (λ hs. slice_set hs 0 none) c.homes)
            (record {
              roles = (refl, c.facts.roles.1);
              out = is_home EMPTY (inl refl);
              duty = still_free c.other.out c.word EMPTY (Some e) None (λ z. free (sym (word_is ∙ hit) ∙ z))
                  (λ z. omega (arith, z)) c.facts.duty;
            }),
        subst (λ y. told y (caller k' None, (0, f.0) ∷ [])) word_is f.2,
      ))
      (λ miss. (caller k (Some e), keeps, tt, stays s id (caller k (Some e)) a here, missed x miss))
    where
      x : ℕ
      x = slice_index s.words 0

      c : OfCaller M s id (caller k (Some e))
      c = of_caller M s id (caller k (Some e)) refl a here

      word_is : c.word ≡ x
      word_is = sym (ap (λ ws. slice_index ws 0) c.words)

  -- the answer is taken, or there is none
  pub collects : (n id : ℕ) (k : Tasks) (e : Errand J)
      → Allows (Always M) n id (caller k (Some e), []) 0 (λ y. either (eqb y BACK) EMPTY y)
      (collected M (step n 0 BACK EMPTY none) (caller k (Some e), []))
  collects n id k e =
      takes_back n id k (one_served k) BACK e (collected M (step n 0 BACK EMPTY none) (caller k (Some e), []))
      (λ z. omega (arith, z))
      (λ w h is out. let b = back_abroad w h e is out in
      (letter.Answer b.answer, b.home, ((λ y. (b.answer, refl, b.through)), (λ y. absurd (y is)))))
      (λ w miss. ((λ y. absurd (miss y)), (λ y. refl)))

  -- the task is taken back, or the helper has it
  pub withdraws : (n id : ℕ) (k : Tasks) (e : Errand J)
      → Allows (Always M) n id (caller k (Some e), []) 0 (λ y. either (eqb y GIVEN) EMPTY y)
      (withdrew M (step n 0 GIVEN EMPTY none) (caller k (Some e), []))
  withdraws n id k e =
      takes_back n id k k GIVEN e (withdrew M (step n 0 GIVEN EMPTY none) (caller k (Some e), []))
      (λ z. omega (arith, z))
      (λ w h is out. let g = given_abroad w h e is out in (
        letter.Task g.task,
        g.home,
        ((λ y. (g.task, refl, (ap (λ z. z.seat) g.same, g.ready))), (λ y. absurd (y is))),
      ))
      (λ w miss. ((λ y. absurd (miss y)), (λ y. refl)))

  -- there will be no further task
  pub ends : (n id : ℕ) (k : Tasks) (l : List (ℕ × MailboxLetter J))
      → Allows (Always M) n id (caller k None, l) 0 (λ _. OVER)
      (λ _. closed (step n 0 OVER 0 none) (caller k None, l) OVER)
  ends n id k l s a long here fits =
      let c = of_caller M s id (caller k None) refl a here in (
        caller k None,
        keeps,
        tt,
        caller_stepped s id (caller k None) c (slice_set s.words 0 OVER) s.homes OVER c.home (caller k None)
            (ap (λ ws. slice_set ws 0 OVER) c.words) c.homes (record {
              roles = (refl, c.facts.roles.1);
              out = record { word = inr refl; home = c.facts.out.home };
              duty = still_free c.other.out c.word OVER None None
                  (λ e. ⊎_elim (λ z. omega (arith, z, e)) (λ z. omega (arith, z, e)) c.facts.out.word)
                  (λ e. omega (arith, e)) c.facts.duty;
            }),
        refl,
      )

  -- a new mailbox
  pub opens : Always M (opening (EMPTY ∷ []) (letter.Nothing ∷ []) (beginning Maker))
  opens = inl (record { words = refl; homes = refl; views = refl })

-- a seat that comes back the way it was given
pub untouched : {J : Type 0} (M : Meaning J) (e : Errand J) (r : BoardSeat J) → r ≡ e.seat → IsDone M e.board e.seat
    → IsThrough M e.board e.seat r
untouched M e r is done = grind (arith, common_steps)

module _ {J : Type 0} where
  abbrev letter_in : List (ℕ × MailboxLetter J) → MailboxLetter J
  letter_in [] = letter.Nothing
  letter_in (x ∷ xs) = x.1

  -- an end that has taken the slot may write into it
  pub has_slot : (m : Sat J) (v : Knows J) (x : MailboxLetter J) → m ≡ (v, (0, x) ∷ [])
      → (y : MailboxLetter J) × (m.1 ≡ (0, y) ∷ rest m.1)
  has_slot m v x e = (x, ap (λ z. z.1) e ∙ ap (λ l. (0, x) ∷ l) (sym (ap (λ z. rest z.1) e)))

  -- the content that it finds in the slot, and what it knows after that
  pub found : (m : Sat J) (v : Knows J) (x y : MailboxLetter J) → m ≡ (v, (0, x) ∷ []) → m.1 ≡ (0, y) ∷ rest m.1 → y ≡ x
  found m v x y e z = ap letter_in (sym z) ∙ ap (λ q. letter_in q.1) e

  pub written : (m n : Sat J) (v : Knows J) (x y : MailboxLetter J) → m ≡ (v, (0, x) ∷ [])
      → n ≡ (m.0, (0, y) ∷ rest m.1) → n ≡ (v, (0, y) ∷ [])
  written m n v x y e z = z ∙ ap (λ q. (q.0, (0, y) ∷ rest q.1)) e
