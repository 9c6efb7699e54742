-- An argument with flags, in clap's walk and in the reading.
use Rattle.std.proofs.Common.{arith, ◌≡◌, ◌==◌, ◌∙◌, ◌++◌, ◌∷◌, ℕ, Bool, true, false, cond, List, Option, Some}
use Rattle.std.proofs.Common.{None, [], refl, sym, ap, subst, codes, true≢false, length, IsUtf8, chars, slice_get}
use Rattle.std.proofs.lemmas.{Grind.common_steps, Bool.and_left}
use Rattle.std.specs.Bool.{⊤}
use Rattle.clap.specs.Kinds.{Kinds, or_else}
use Rattle.clap.specs.Faults.{react_fault, option_fault, bundle_step_fault, flags_fault, long_fault}
use Rattle.clap.specs.Walk.{Held, Outcome, Rule, done, waits, reacted, option_met, bundle_step, bundle_met}
use Rattle.clap.specs.Walk.{long_met, attached_value, arg_by_long}
use Rattle.cs_arguments.specs.Reading.{Text, Use, Said, used, valued, lettered, titled, is_flag_letter, is_value_letter}
use Rattle.cs_arguments.specs.Reading.{is_flag_name, is_value_name}
use Rattle.cs_arguments.specs.{Command.option_rule, Taken.good, Taken.rows}
use Rattle.cs_arguments.proofs.Chars.{low_flag, low_value, low_first, low_rest, low_tail, no_letter}
use Rattle.cs_arguments.proofs.Walking.{clear, clear_nil, clear_or, bad_more, Does, Judges, option_does, flag_does}
use Rattle.cs_arguments.proofs.Walking.{held, with_open, IsOpen, settle_clear, settled_held, react_clear, react_held}
use Rattle.cs_arguments.proofs.Rules.{IsCommand}

-- what was said between two arguments, if no value is missing
abbrev pub state : List Use → Said
state us = record { uses = us; wants = None; only_names = false }

abbrev pub pending_for : Option Text → Option (Text × List Text)
pending_for None = None
pending_for (Some key) = Some (key, [])

abbrev pub now_held : Said → Held
now_held s = record { rows = rows s.uses; pending = pending_for s.wants; skip = 0 }

abbrev pub outcome_for : Option Text → Outcome
outcome_for None = done
outcome_for (Some key) = waits key

-- clap's walk over an argument agrees with what is said after it
abbrev pub Met : Option Said → Kinds → Held × Outcome → Type 0
Met None fault met = clear fault ≡ false
Met (Some s) fault met = (clear fault ≡ good s.uses) × (good s.uses ≡ true → met ≡ (now_held s, outcome_for s.wants))

-- uses that aren't valid never become valid
abbrev pub Bad : Option Said → Type 0
Bad None = ⊤
Bad (Some s) = good s.uses ≡ false

pub met_bad : (o : Option Said) (fault : Kinds) (met : Held × Outcome) → Bad o → clear fault ≡ false → Met o fault met
met_bad None fault met bad e = e
met_bad (Some s) fault met bad e = (e ∙ sym bad, λ fine. absurd (true≢false (sym fine ∙ bad)))

valued_bad : (key rest : Text) (s : Said) → good s.uses ≡ false → good (valued key rest s).uses ≡ false
valued_bad key [] s bad = bad
valued_bad key (x ∷ rest) s bad = bad_more s.uses _ bad

pub lettered_bad : (flags : Text) (s : Said) → good s.uses ≡ false → Bad (lettered flags s)
lettered_bad [] s bad = bad
lettered_bad (x ∷ rest) s bad = grind (
  arith,
  common_steps,
  bad_more,
  codes,
  valued_bad,
  lettered_bad rest (used (x ∷ []) (codes "true") s) (bad_more s.uses _ bad),
)

pub titled_bad : (name : Text) (value : Option Text) (s : Said) → good s.uses ≡ false → Bad (titled name value s)
titled_bad name None s bad = grind (arith, common_steps, bad_more, codes)
titled_bad name (Some value) s bad = grind (arith, common_steps, bad_more)

-- ---- one flag or option

value_then : (c : List Rule) (key : Text) (long : Option Text) (short index : Option ℕ) (value : Text) (us : List Use)
    (p : Option Use) → Judges key → IsOpen c p → good us ≡ true → Met (Some (used key value (state (with_open us p))))
    (option_fault c false (option_rule key long short index) (Some value) (held us p))
    (option_met c (option_rule key long short index) (Some value) (held us p))
value_then c key long short index value us p reads opened fine =
    let does = option_does _ long short index _ reads in (
      react_clear _ _ _ _ _ _ does opened fine,
      λ ok. ap (λ h. (h, done)) (react_held _ _ _ _ _ _ does opened ok),
    )

wait_then : (c : List Rule) (key : Text) (long : Option Text) (short index : Option ℕ) (us : List Use) (p : Option Use)
    → IsOpen c p → good us ≡ true → Met (Some (record (state (with_open us p)) { wants = Some key }))
    (option_fault c false (option_rule key long short index) None (held us p))
    (option_met c (option_rule key long short index) None (held us p))
wait_then c key long short index us p opened fine = grind (arith, common_steps, settle_clear, settled_held)

flag_alone : (c : List Rule) (a : Rule) (u : Use) (us : List Use) (p : Option Use) → Does a [] u → IsOpen c p
    → good us ≡ true → Met (Some (used u.0 u.1 (state (with_open us p)))) (react_fault c false a [] (held us p))
    (reacted c a [] (held us p), done)
flag_alone c a u us p does opened fine = (
  react_clear c a [] us p u does opened fine,
  λ ok. ap (λ h. (h, done)) (react_held c a [] us p u does opened ok),
)

-- the result of the flags after one
abbrev Goes : List Rule → Text → Type 0
Goes c rest = (us : List Use) → IsUtf8 rest → good us ≡ true
    → Met (lettered rest (state us)) (flags_fault c false (length rest) rest 0 (held us None))
    (bundle_met c (length rest) rest 0 done (held us None))

flag_then : (c : List Rule) (a : Rule) (u : Use) (us : List Use) (p : Option Use) (rest : Text) → Does a [] u
    → IsOpen c p → good us ≡ true → IsUtf8 rest → Goes c rest
    → Met (lettered rest (state (with_open us p ++ u ∷ []))) (or_else (react_fault c false a [] (held us p))
    (flags_fault c false (length rest) rest 0 (reacted c a [] (held us p))))
    (bundle_met c (length rest) rest 0 done (reacted c a [] (held us p)))
flag_then c a u us p rest does opened fine utf8 goes = go (good (with_open us p ++ u ∷ [])) refl
  where
    go : (b : Bool) → good (with_open us p ++ u ∷ []) ≡ b → Met (lettered rest (state (with_open us p ++ u ∷ [])))
        (or_else (react_fault c false a [] (held us p))
        (flags_fault c false (length rest) rest 0 (reacted c a [] (held us p))))
        (bundle_met c (length rest) rest 0 done (reacted c a [] (held us p)))
    go true e =
        rw (
          clear_nil (react_fault c false a [] (held us p)) (react_clear c a [] us p u does opened fine ∙ e),
          react_held c a [] us p u does opened e,
        ) (goes (with_open us p ++ u ∷ []) utf8 e)
    go false e = met_bad _ _ _
        (lettered_bad rest _ e) (clear_or _ _ ∙ and_left _ _ (react_clear _ _ [] us p u does opened fine ∙ e))

-- ---- the letters of an argument

attached : (y : ℕ) (ys : Text) → attached_value (y ∷ ys) ≡ Some (cond (y == 61) ys (y ∷ ys))
attached y ys = grind (arith, common_steps)

value_letter : (c : List Rule) (is : IsCommand c) (x : ℕ) (rest : Text) (us : List Use) (p : Option Use)
    → is_value_letter x ≡ true → IsOpen c p → good us ≡ true
    → Met (Some (valued (x ∷ []) rest (state (with_open us p))))
    (option_fault c false (option_rule (x ∷ []) None (Some x) None) (attached_value rest) (held us p))
    (option_met c (option_rule (x ∷ []) None (Some x) None) (attached_value rest) (held us p))
value_letter c is x [] us p value opened fine = wait_then c (x ∷ []) None (Some x) None us p opened fine
value_letter c is x (y ∷ ys) us p value opened fine =
    subst (λ v. Met (Some (valued (x ∷ []) (y ∷ ys) (state (with_open us p))))
    (option_fault c false (option_rule (x ∷ []) None (Some x) None) v (held us p))
    (option_met c (option_rule (x ∷ []) None (Some x) None) v (held us p))) (sym (attached _ _))
    (value_then _ _ None (Some x) None _ _ _ (is.value_letter_key x value).reads opened fine)

one_letter : (c : List Rule) (is : IsCommand c) (x : ℕ) (rest : Text) (us : List Use) (p : Option Use)
    (so_far : Outcome) → IsUtf8 (x ∷ rest) → IsOpen c p → good us ≡ true → Goes c rest
    → Met (lettered (x ∷ rest) (state (with_open us p)))
    (bundle_step_fault c false (slice_get (chars (x ∷ rest)) 0) (x ∷ rest) 0 (held us p)
    (flags_fault c false (length rest)))
    (bundle_step c (slice_get (chars (x ∷ rest)) 0) (x ∷ rest) 0 so_far (held us p) (bundle_met c (length rest)))
one_letter c is x rest us p so_far utf8 opened fine goes = go (is_flag_letter x) refl (is_value_letter x) refl
  where
    go : (f : Bool) → is_flag_letter x ≡ f → (v : Bool) → is_value_letter x ≡ v
        → Met (lettered (x ∷ rest) (state (with_open us p)))
        (bundle_step_fault c false (slice_get (chars (x ∷ rest)) 0) (x ∷ rest) 0 (held us p)
        (flags_fault c false (length rest)))
        (bundle_step c (slice_get (chars (x ∷ rest)) 0) (x ∷ rest) 0 so_far (held us p) (bundle_met c (length rest)))
    go true f v e =
        let low = low_flag _ f in
        rw (f, low_first x rest low utf8, low_rest x rest low, is.flag_letter x f) (flag_then _ _ _ _ _ _
        (flag_does (x ∷ []) None (Some x) (is.flag_letter_key x f)) opened fine (low_tail _ _ low utf8) goes)
    go false f true e =
        let low = low_value x e in
        rw (f, e, low_first x rest low utf8, low_rest x rest low, is.value_letter x e)
        (value_letter c is x rest us p e opened fine)
    go false f false e =
        let first = no_letter x rest utf8 f e in rw (f, e, first.1, is.no_letter first.0 first.2 first.3) refl

abbrev IsReady : Text → Option Use → Outcome → Type 0
IsReady (x ∷ rest) p so_far = ⊤
IsReady [] None so_far = so_far ≡ done
IsReady [] (Some u) so_far = ⊥

ready : (rest : Text) → IsReady rest None done
ready [] = refl
ready (x ∷ rest) = tt

no_letters : (c : List Rule) (us : List Use) (p : Option Use) (so_far : Outcome) → good us ≡ true → IsReady [] p so_far
    → Met (Some (state (with_open us p))) [] (held us p, so_far)
no_letters c us None so_far fine is_ready = (sym fine, λ _. ap (λ o. (held us None, o)) is_ready)
no_letters c us (Some u) so_far fine is_ready = absurd is_ready

pub letters : (c : List Rule) (is : IsCommand c) (flags : Text) (us : List Use) (p : Option Use) (so_far : Outcome)
    → IsUtf8 flags → IsOpen c p → good us ≡ true → IsReady flags p so_far
    → Met (lettered flags (state (with_open us p))) (flags_fault c false (length flags) flags 0 (held us p))
    (bundle_met c (length flags) flags 0 so_far (held us p))
unfolding flags_fault bundle_met
letters c is [] us p so_far utf8 opened fine is_ready = no_letters c us p so_far fine is_ready
letters c is (x ∷ rest) us p so_far utf8 opened fine is_ready =
    one_letter c is x rest us p so_far utf8 opened fine
    (λ us2 utf8_rest fine2. letters c is rest us2 None done utf8_rest tt fine2 (ready rest))

-- ---- a long name

pub titles : (c : List Rule) (is : IsCommand c) (name : Text) (value : Option Text) (us : List Use) (p : Option Use)
    → IsOpen c p → good us ≡ true
    → Met (titled name value (state (with_open us p))) (long_fault c false (arg_by_long c name) value (held us p))
    (long_met c (arg_by_long c name) value (held us p))
titles c is name None us p opened fine = go (is_value_name name) refl (is_flag_name name) refl
  where
    go : (v : Bool) → is_value_name name ≡ v → (f : Bool) → is_flag_name name ≡ f
        → Met (titled name None (state (with_open us p))) (long_fault c false (arg_by_long c name) None (held us p))
        (long_met c (arg_by_long c name) None (held us p))
    go true v f e = rw (v, is.value_name name v) (wait_then c name (Some name) None None us p opened fine)
    go false v true e = rw (v, e, is.flag_name name e)
        (flag_alone _ _ _ _ _ (flag_does name (Some name) None (is.flag_name_key name e).0) opened fine)
    go false v false e = rw (v, e, is.no_name name e v) refl
titles c is name (Some value) us p opened fine = go (is_value_name name) refl (is_flag_name name) refl
  where
    go : (v : Bool) → is_value_name name ≡ v → (f : Bool) → is_flag_name name ≡ f
        → Met (titled name (Some value) (state (with_open us p)))
        (long_fault c false (arg_by_long c name) (Some value) (held us p))
        (long_met c (arg_by_long c name) (Some value) (held us p))
    go true v f e = rw (v, is.value_name name v)
        (value_then c name (Some name) None None value us p (is.value_name_key name v).0.reads opened fine)
    go false v true e = rw (v, is.flag_name name e) refl
    go false v false e = rw (v, is.no_name name e v) refl
