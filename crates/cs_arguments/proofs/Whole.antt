-- All arguments: clap accepts them if and only if their uses are valid together, and its rows are these uses.
use Rattle.std.proofs.Common.{arith, ◌≡◌, ◌==◌, ◌&&◌, ◌||◌, ◌∙◌, ◌++◌, ◌∷◌, ◌+◌, ℕ, Bool, true, false, not, cond, List}
use Rattle.std.proofs.Common.{[], Option, Some, None, is_some, option_and_then, refl, sym, ap, codes, bytes_eq}
use Rattle.std.proofs.Common.{length, All, fold, IsUtf8, true≢false, min, nat_lt}
use Rattle.std.specs.{Bool.⊤, List.list_any, List.before_first, List.after_first, Option.option_map_or}
use Rattle.std.proofs.lemmas.{Bool.and_left, Bool.and_right, Bool.or_right, List.Elements.All-head}
use Rattle.std.proofs.lemmas.{List.Elements.All-tail, Slice.Eq.bytes_eq-Decides, Grind.common_steps}
use Rattle.clap.specs.{Kinds.Kinds, Kinds.or_else, Faults.positional_fault, Faults.stray_fault, Faults.use_fault}
use Rattle.clap.specs.{Walk.long_met, Walk.settled, Walk.to_positional, Walk.walked, Walk.option_word, Lexer.usize_max}
use Rattle.clap.specs.Faults.{settle_fault, step_fault, turn_fault, walk_fault, long_fault, flags_fault}
use Rattle.clap.specs.Walk.{Held, Outcome, Row, Rule, Waiting, Walk, idle, option as wait_for_option, plain as no_flag}
use Rattle.clap.specs.Walk.{value as to_place, after_flag, after_step, arg_by_id, arg_by_index, arg_by_long, bundle_met}
use Rattle.cs_arguments.specs.Reading.{Text, Use, Said, has_use, used, named, plain, unless_wanting, dashed, worded}
use Rattle.cs_arguments.specs.Reading.{lettered, titled, valued, is_flag_letter, is_value_letter, is_flag_name}
use Rattle.cs_arguments.specs.Reading.{is_value_name, is_equals, title, after, said, is_value}
use Rattle.cs_arguments.specs.Command.{option_rule, shape}
use Rattle.cs_arguments.specs.Taken.{accepted, good, rows, uses_or}
use Rattle.cs_arguments.proofs.Walking.{clear, clear_nil, clear_or, good_more, bad_more, has_more, held, with_open}
use Rattle.cs_arguments.proofs.Walking.{IsKey, IsOpen, settle_clear, settled_held}
use Rattle.cs_arguments.proofs.Rules.{IsCommand, IsOptionKey, letter_key, keeps_name}
use Rattle.cs_arguments.proofs.Letters.{state, outcome_for, Met, Bad, lettered_bad, titled_bad, letters}
use Rattle.cs_arguments.proofs.{Letters.titles, Letters.pending_for, Turns.wants_letters}
use Rattle.cs_arguments.proofs.Forms.{Form, a_name, a_stop, a_title, some_letters, form_of}
use Rattle.cs_arguments.proofs.Turns.{walk_at, none, one, turn_is, walk_is, turn_trailing, walk_trailing, wants_long}

-- ---- uses that aren't valid stay invalid, whatever follows

plain_bad : (w : Option Text) (word : Text) (s : Said) → good s.uses ≡ false → good (plain w word s).uses ≡ false
plain_bad None word s bad = bad_more s.uses _ bad
plain_bad (Some key) word s bad = bad_more s.uses _ bad

unless_bad : (w : Option Text) (o : Option Said) → Bad o → Bad (unless_wanting w o)
unless_bad None o bad = bad
unless_bad (Some key) o bad = tt

title_bad : (text : Text) (s : Said) → good s.uses ≡ false → Bad (title text s)
title_bad text s bad = titled_bad (before_first is_equals text)
    (cond (list_any is_equals text) (Some (after_first is_equals text)) None) s bad

dashed_bad : (word rest : Text) (s : Said) → good s.uses ≡ false → Bad (dashed word rest s)
dashed_bad word [] s bad = plain_bad s.wants word s bad
dashed_bad word (x ∷ rest) s bad =
    unless_bad s.wants _ (go (x == 45) (bytes_eq rest []) (title_bad rest s bad) (lettered_bad (x ∷ rest) s bad))
  where
    go : (b d : Bool) → Bad (title rest s) → Bad (lettered (x ∷ rest) s)
        → Bad (cond b (cond d (Some (record s { only_names = true })) (title rest s)) (lettered (x ∷ rest) s))
    go true true t l = bad
    go true false t l = t
    go false d t l = l

worded_bad : (word : Text) (s : Said) → good s.uses ≡ false → Bad (worded word s)
worded_bad [] s bad = plain_bad s.wants [] s bad
worded_bad (x ∷ rest) s bad = grind (arith, common_steps, dashed_bad, plain_bad)

after_bad : (s : Said) (word : Text) → good s.uses ≡ false → Bad (after s word)
unfolding after
after_bad s word bad = go s.only_names (worded_bad word s bad)
  where
    go : (b : Bool) → Bad (worded word s) → Bad (cond b (Some (named word s)) (worded word s))
    go true w = bad_more s.uses _ bad
    go false w = w

said_bad : (words : List Text) (s : Said) → good s.uses ≡ false → accepted (said s words) ≡ false
unfolding said
said_bad [] s bad = grind (arith, common_steps, is_some)
said_bad (word ∷ rest) s bad = go (after s word) (after_bad s word bad) (λ t b. said_bad rest t b)
  where
    go : (o : Option Said) → Bad o → ((t : Said) → good t.uses ≡ false → accepted (said t rest) ≡ false)
        → accepted (option_and_then (λ t. said t rest) o) ≡ false
    go None b f = refl
    go (Some t) b f = f t b

-- ---- names, counted

pub data Count : Type 0 where
  no_name : Count
  one_name : Count
  two_names : Count

abbrev pub HasCount : Count → List Use → Type 0
HasCount no_name us = has_use (codes "ORC") us ≡ false
HasCount one_name us = has_use (codes "ORC") us ≡ true
HasCount two_names us = (has_use (codes "ORC") us ≡ true) × (has_use (codes "SCO") us ≡ true)

abbrev pub place : Count → ℕ
place no_name = 1
place one_name = 2
place two_names = 3

-- ---- what an argument with flags doesn't change

abbrev pub WantsKey : List Rule → Option Text → Type 0
WantsKey c None = ⊤
WantsKey c (Some key) = IsKey c key × IsOptionKey key

pub record Leaves (c : List Rule) (us : List Use) (t : Said) : Type 0 where
  pub orc : has_use (codes "ORC") t.uses ≡ has_use (codes "ORC") us
  pub sco : has_use (codes "SCO") t.uses ≡ has_use (codes "SCO") us
  pub only : t.only_names ≡ false
  pub wants : WantsKey c t.wants

abbrev LeavesIf : List Rule → List Use → Option Said → Type 0
LeavesIf c us None = ⊤
LeavesIf c us (Some t) = Leaves c us t

still_count : (n : Count) (c : List Rule) (us : List Use) (t : Said) → Leaves c us t → HasCount n us → HasCount n t.uses
still_count no_name c us t l h = l.orc ∙ h
still_count one_name c us t l h = l.orc ∙ h
still_count two_names c us t l h = (l.orc ∙ h.0, l.sco ∙ h.1)

one_used : (c : List Rule) (us : List Use) (u : Use) → IsOptionKey u.0 → Leaves c us (state (us ++ u ∷ []))
one_used c us u is = record
    { orc = keeps_name (codes "ORC") us u is.0; sco = keeps_name (codes "SCO") us u is.1; only = refl; wants = tt }

now_wants : (c : List Rule) (us : List Use) (key : Text) → IsKey c key → IsOptionKey key
    → Leaves c us (record (state us) { wants = Some key })
now_wants c us key is plain_key = record { orc = refl; sco = refl; only = refl; wants = (is, plain_key) }

leaves_more : (c : List Rule) (us : List Use) (u : Use) → IsOptionKey u.0 → (o : Option Said)
    → LeavesIf c (us ++ u ∷ []) o → LeavesIf c us o
leaves_more c us u is None l = tt
leaves_more c us u is (Some t) l = grind (arith, common_steps, codes, keeps_name)

letters_leave : (c : List Rule) → IsCommand c → (flags : Text) (us : List Use)
    → LeavesIf c us (lettered flags (state us))
letters_leave c is [] us = record { orc = refl; sco = refl; only = refl; wants = tt }
letters_leave c is (x ∷ rest) us = go (is_flag_letter x) (is_value_letter x) refl (letters_leave c is rest _)
  where
    value : (rest : Text) → is_value_letter x ≡ true → Leaves c us (valued (x ∷ []) rest (state us))
    value [] v = now_wants c us (x ∷ []) (is.value_letter_key x v) (letter_key x)
    value (y ∷ ys) v = one_used c us (x ∷ [], cond (y == 61) ys (y ∷ ys)) (letter_key x)

    go : (f v : Bool) → is_value_letter x ≡ v
        → LeavesIf c (us ++ (x ∷ [], codes "true") ∷ []) (lettered rest (state (us ++ (x ∷ [], codes "true") ∷ [])))
        → LeavesIf c us (cond f (lettered rest (state (us ++ (x ∷ [], codes "true") ∷ [])))
        (cond v (Some (valued (x ∷ []) rest (state us))) None))
    go true v e l = leaves_more c us (x ∷ [], codes "true") (letter_key x) _ l
    go false true e l = value rest e
    go false false e l = tt

title_leaves : (c : List Rule) → IsCommand c → (name : Text) (value : Option Text) (us : List Use)
    → LeavesIf c us (titled name value (state us))
title_leaves c is name None us = go (is_value_name name) refl (is_flag_name name) refl
  where
    go : (v : Bool) → is_value_name name ≡ v → (f : Bool) → is_flag_name name ≡ f
        → LeavesIf c us (cond v (Some (record (state us) { wants = Some name }))
        (cond f (Some (used name (codes "true") (state us))) None))
    go true v f e = let key = is.value_name_key name v in now_wants c us name key.0 key.1
    go false v true e = one_used c us (name, codes "true") (is.flag_name_key name e).1
    go false v false e = tt
title_leaves c is name (Some value) us = go (is_value_name name) refl
  where
    go : (v : Bool) → is_value_name name ≡ v → LeavesIf c us (cond v (Some (used name value (state us))) None)
    go true v = one_used c us (name, value) (is.value_name_key name v).1
    go false v = tt

-- ---- between two arguments

pub data At : Type 0 where
  open_at : List Use → Option Use → Bool → Count → At
  wait_for : List Use → Text → Count → At

-- what was said between two arguments, and the state of clap's walk
abbrev pub said_at : At → Said
said_at (open_at us p only n) = record { uses = with_open us p; wants = None; only_names = only }
said_at (wait_for us key n) = record { uses = us; wants = Some key; only_names = false }

abbrev held_for : List Use → Text → Held
held_for us key = record { rows = rows us; pending = Some (key, []); skip = 0 }

abbrev pub clap_at : At → Walk
clap_at (open_at us p only n) = walk_at (held us p) idle (place n) only
clap_at (wait_for us key n) = walk_at (held_for us key) (wait_for_option key) (place n) false

abbrev pub IsFine : List Rule → At → Type 0
IsFine c (open_at us p only n) = (good us ≡ true) × IsOpen c p × HasCount n (with_open us p)
IsFine c (wait_for us key n) = (good us ≡ true) × (IsKey c key × IsOptionKey key) × HasCount n us

abbrev pub walk_end : List Rule → Walk → List Text → Held
walk_end c w words = (fold (walked c []) w words).held

abbrev pub all_faults : List Rule → Walk → List Text → Kinds
all_faults c w words = or_else (walk_fault (shape c) [] w words) (settle_fault c false (walk_end c w words))

abbrev AgreesBy : Option Said → Kinds → List Row → Type 0
AgreesBy o faults ends = (clear faults ≡ accepted o) × (accepted o ≡ true → ends ≡ rows (uses_or o))

abbrev pub Agrees : List Rule → Option Said → Walk → List Text → Type 0
Agrees c o w words = AgreesBy o (all_faults c w words) (settled c (walk_end c w words)).rows

abbrev Ahead : List Rule → List Text → Type 0
Ahead c rest = (at : At) → IsFine c at → Agrees c (said (said_at at) rest) (clap_at at) rest

-- ---- one argument

agrees_bad : (c : List Rule) (s : Said) (w : Walk) (word : Text) (rest : List Text)
    → accepted (said s (word ∷ rest)) ≡ false → clear (turn_fault (shape c) [] w word) ≡ false
    → Agrees c (said s (word ∷ rest)) w (word ∷ rest)
unfolding walk_fault
agrees_bad c s w word rest bad faulty = grind (arith, common_steps, and_left, clear, clear_or)

goes_on : (c : List Rule) (s : Said) (w : Walk) (word : Text) (rest : List Text) (at : At)
    → after s word ≡ Some (said_at at) → clear (turn_fault (shape c) [] w word) ≡ true
    → walked c [] w word ≡ clap_at at → IsFine c at → Ahead c rest → Agrees c (said s (word ∷ rest)) w (word ∷ rest)
unfolding said walk_fault
goes_on c s w word rest at says fine walks is ahead =
    grind (arith, common_steps, clear_nil, fold, held, none, option_and_then)

said_after : (s : Said) (word : Text) (rest : List Text) (o : Option Said) → after s word ≡ o
    → said s (word ∷ rest) ≡ option_and_then (λ t. said t rest) o
unfolding said
said_after s word rest o e = ap (option_and_then (λ t. said t rest)) e

no_reading : (s : Said) (word : Text) (rest : List Text) → after s word ≡ None → accepted (said s (word ∷ rest)) ≡ false
no_reading s word rest e = ap accepted (said_after s word rest None e)

bad_reading : (s : Said) (word : Text) (rest : List Text) (t : Said) → after s word ≡ Some t → good t.uses ≡ false
    → accepted (said s (word ∷ rest)) ≡ false
bad_reading s word rest t e bad = ap accepted (said_after s word rest (Some t) e) ∙ said_bad rest t bad

after_only : (us : List Use) (word : Text) → after (record { uses = us; wants = None; only_names = true }) word ≡ Some
    (named word (record { uses = us; wants = None; only_names = true }))
unfolding after
after_only us word = refl

after_words : (us : List Use) (w : Option Text) (word : Text) (o : Option Said)
    → worded word (record { uses = us; wants = w; only_names = false }) ≡ o
    → after (record { uses = us; wants = w; only_names = false }) word ≡ o
unfolding after
after_words us w word o e = e

-- ---- an argument that is a name

named_as : (us : List Use) (only : Bool) (word : Text) (b : Bool) → has_use (codes "ORC") us ≡ b
    → named word (record { uses = us; wants = None; only_names = only }) ≡ record
    { uses = us ++ (cond b (codes "SCO") (codes "ORC"), word) ∷ []; wants = None; only_names = only }
named_as us only word b e =
    ap (λ d. record { uses = us ++ (cond d (codes "SCO") (codes "ORC"), word) ∷ []; wants = None; only_names = only }) e

abbrev name_fault : List Rule → ℕ → Held → Kinds
name_fault c position h = step_fault (shape c) position h to_place

abbrev name_walk : List Rule → ℕ → Bool → Text → Held → Walk
name_walk c position only word h = to_positional c (arg_by_index c position) word (walk_at h idle position only) h

-- the fault and the walk of a name that finds its position
place_fault : (c : List Rule) (position : ℕ) (h : Held) (key : Text) (index : Option ℕ)
    → arg_by_index c position ≡ Some (option_rule key None None index)
    → name_fault c position h ≡ settle_fault c false h
place_fault c position h key index found = grind (arith, common_steps, and_right)

place_walk : (c : List Rule) (position : ℕ) (only : Bool) (word : Text) (us : List Use) (p : Option Use) (key : Text)
    (index : Option ℕ) → arg_by_index c position ≡ Some (option_rule key None None index)
    → settled c (held us p) ≡ held (with_open us p) None
    → name_walk c position only word (held us p) ≡ walk_at (held (with_open us p) (Some (key, word))) idle
    (min (position + 1) usize_max) only
place_walk c position only word us p key index found settles =
    grind (arith, common_steps, and_right, held, min, walk_at)

-- a name after the uses `us`, with p open
name_on : (c : List Rule) → IsCommand c → (us : List Use) (p : Option Use) (only : Bool) (n : Count) (word : Text)
    (rest : List Text) → IsFine c (open_at us p only n)
    → after (said_at (open_at us p only n)) word ≡ Some (named word (said_at (open_at us p only n)))
    → turn_fault (shape c) [] (clap_at (open_at us p only n)) word ≡ name_fault c (place n) (held us p)
    → walked c [] (clap_at (open_at us p only n)) word ≡ name_walk c (place n) only word (held us p) → Ahead c rest
    → Agrees c (said (said_at (open_at us p only n)) (word ∷ rest)) (clap_at (open_at us p only n)) (word ∷ rest)
name_on c is us p only n word rest fine says faults walks ahead = count n fine says faults walks
  where
    -- the name is stored at its position
    placed : (n m : Count) (key : Text) (b : Bool) (index : Option ℕ) → IsFine c (open_at us p only n)
        → has_use (codes "ORC") (with_open us p) ≡ b → cond b (codes "SCO") (codes "ORC") ≡ key → IsKey c key
        → arg_by_index c (place n) ≡ Some (option_rule key None None index) → min (place n + 1) usize_max ≡ place m
        → HasCount m (with_open us p ++ (key, word) ∷ [])
        → after (said_at (open_at us p only n)) word ≡ Some (named word (said_at (open_at us p only n)))
        → turn_fault (shape c) [] (clap_at (open_at us p only n)) word ≡ name_fault c (place n) (held us p)
        → walked c [] (clap_at (open_at us p only n)) word ≡ name_walk c (place n) only word (held us p)
        → Agrees c (said (said_at (open_at us p only n)) (word ∷ rest)) (clap_at (open_at us p only n)) (word ∷ rest)
    placed n m key b index fine has name is_key found moves counted says faults walks = go (good (with_open us p)) refl
      where
        says_so : after (said_at (open_at us p only n)) word ≡ Some
            (record { uses = with_open us p ++ (key, word) ∷ []; wants = None; only_names = only })
        says_so = says ∙ ap Some (named_as (with_open us p) only word b has
            ∙ ap (λ k. record { uses = with_open us p ++ (k, word) ∷ []; wants = None; only_names = only }) name)

        fault_clear : clear (turn_fault (shape c) [] (clap_at (open_at us p only n)) word) ≡ good (with_open us p)
        fault_clear = ap clear (faults ∙ place_fault c (place n) (held us p) key index found)
            ∙ settle_clear c us p fine.1 fine.0

        go : (g : Bool) → good (with_open us p) ≡ g
            → Agrees c (said (said_at (open_at us p only n)) (word ∷ rest)) (clap_at (open_at us p only n))
            (word ∷ rest)
        go true e = goes_on c (said_at (open_at us p only n)) (clap_at (open_at us p only n)) word rest
            (open_at (with_open us p) (Some (key, word)) only m) says_so (fault_clear ∙ e)
            (walks ∙ place_walk c (place n) only word us p key index found (settled_held c us p fine.1 e)
            ∙ ap (λ q. walk_at (held (with_open us p) (Some (key, word))) idle q only) moves) (e, is_key, counted) ahead
        go false e = agrees_bad c (said_at (open_at us p only n)) (clap_at (open_at us p only n)) word rest
            (bad_reading (said_at (open_at us p only n)) word rest _ says_so (bad_more (with_open us p) (key, word) e))
            (fault_clear ∙ e)

    count : (n : Count) → IsFine c (open_at us p only n)
        → after (said_at (open_at us p only n)) word ≡ Some (named word (said_at (open_at us p only n)))
        → turn_fault (shape c) [] (clap_at (open_at us p only n)) word ≡ name_fault c (place n) (held us p)
        → walked c [] (clap_at (open_at us p only n)) word ≡ name_walk c (place n) only word (held us p)
        → Agrees c (said (said_at (open_at us p only n)) (word ∷ rest)) (clap_at (open_at us p only n)) (word ∷ rest)
    count no_name fine says faults walks =
        placed no_name one_name (codes "ORC") false (Some 1) fine fine.2 refl is.orc_key is.first refl
        (has_more (codes "ORC") (with_open us p) (codes "ORC", word) ∙ ap (λ b. b || true) fine.2) says faults walks
    count one_name fine says faults walks =
        placed one_name two_names (codes "SCO") true (Some 2) fine fine.2 refl is.sco_key is.second refl (
          has_more (codes "ORC") (with_open us p) (codes "SCO", word) ∙ ap (λ b. b || false) fine.2,
          has_more (codes "SCO") (with_open us p) (codes "SCO", word)
              ∙ or_right (has_use (codes "SCO") (with_open us p)) true refl,
        ) says faults walks
    count two_names fine says faults walks =
        agrees_bad c (said_at (open_at us p only two_names)) (clap_at (open_at us p only two_names)) word rest
        (bad_reading (said_at (open_at us p only two_names)) word rest _
        (says ∙ ap Some (named_as (with_open us p) only word true fine.2.0))
        (good_more (with_open us p) (codes "SCO", word)
        ∙ and_right (good (with_open us p)) _ (ap (λ b. not b && is_value (codes "SCO", word)) fine.2.1)))
        (ap clear (faults ∙ ap (λ o. option_map_or (λ a. positional_fault c false a (held us p)) o
        (stray_fault (shape c))) is.third))

-- ---- an argument with flags

flags_on : (c : List Rule) (us : List Use) (p : Option Use) (n : Count) (word : Text) (rest : List Text)
    (o : Option Said) (fault : Kinds) (met : Held × Outcome) → HasCount n (with_open us p)
    → after (state (with_open us p)) word ≡ o → turn_fault (shape c) [] (clap_at (open_at us p false n)) word
    ≡ or_else fault (step_fault (shape c) (place n) (after_flag c idle word met.0 met.1).0
    (after_flag c idle word met.0 met.1).1) → walked c [] (clap_at (open_at us p false n)) word
    ≡ after_step c word (clap_at (open_at us p false n)) (after_flag c idle word met.0 met.1).0
    (after_flag c idle word met.0 met.1).1 → Met o fault met → LeavesIf c (with_open us p) o → Ahead c rest
    → Agrees c (said (state (with_open us p)) (word ∷ rest)) (clap_at (open_at us p false n)) (word ∷ rest)
flags_on c us p n word rest None fault met counted says faults walks is_met leaves ahead =
    grind (arith, common_steps, agrees_bad, and_left, clear, clear_or, no_reading, state, with_open)
flags_on c us p n word rest (Some t) fault met counted says faults walks is_met leaves ahead = go (good t.uses) refl
  where
    onward : (w : Option Text) → WantsKey c w → good t.uses ≡ true
        → after (state (with_open us p)) word ≡ Some (record { uses = t.uses; wants = w; only_names = false })
        → met ≡ (record { rows = rows t.uses; pending = pending_for w; skip = 0 }, outcome_for w)
        → Agrees c (said (state (with_open us p)) (word ∷ rest)) (clap_at (open_at us p false n)) (word ∷ rest)
    onward None key fine s m =
        goes_on c (state (with_open us p)) (clap_at (open_at us p false n)) word rest (open_at t.uses None false n) s
        (ap clear (rw m at faults) ∙ clear_or fault [] ∙ ap (λ b. b && true) (is_met.0 ∙ fine)) (rw m at walks)
        (fine, tt, still_count n c (with_open us p) t leaves counted) ahead
    onward (Some k) key fine s m =
        goes_on c (state (with_open us p)) (clap_at (open_at us p false n)) word rest (wait_for t.uses k n) s
        (ap clear (rw m at faults) ∙ clear_or fault [] ∙ ap (λ b. b && true) (is_met.0 ∙ fine)) (rw m at walks)
        (fine, key, still_count n c (with_open us p) t leaves counted) ahead

    go : (g : Bool) → good t.uses ≡ g
        → Agrees c (said (state (with_open us p)) (word ∷ rest)) (clap_at (open_at us p false n)) (word ∷ rest)
    go true e =
        onward t.wants leaves.wants e
        (says ∙ ap (λ b. Some (record { uses = t.uses; wants = t.wants; only_names = b })) leaves.only) (is_met.1 e)
    go false e = agrees_bad _ _ _ _ _ (bad_reading _ _ _ _ says e)
        (ap clear faults ∙ clear_or _ _ ∙ and_left _ _ (is_met.0 ∙ e))

-- ---- an argument when a value is missing

wants_settle : (c : List Rule) (us : List Use) (key : Text) → IsKey c key
    → clear (settle_fault c false (held_for us key)) ≡ false
wants_settle c us key is = ap (λ o. clear (option_map_or (λ a. use_fault false a [] (rows us)) o [])) is.found

value_on : (c : List Rule) → IsCommand c → (us : List Use) (key : Text) (n : Count) (word : Text) (rest : List Text)
    → IsFine c (wait_for us key n)
    → after (said_at (wait_for us key n)) word ≡ Some (plain (Some key) word (said_at (wait_for us key n)))
    → turn_fault (shape c) [] (clap_at (wait_for us key n)) word ≡ [] → walked c [] (clap_at (wait_for us key n)) word
    ≡ record (clap_at (wait_for us key n)) {
      held = (option_word (arg_by_id c key) key word (held_for us key)).0;
      waiting = (option_word (arg_by_id c key) key word (held_for us key)).1;
    } → Ahead c rest
    → Agrees c (said (said_at (wait_for us key n)) (word ∷ rest)) (clap_at (wait_for us key n)) (word ∷ rest)
value_on c is us key n word rest fine says faults walks ahead =
    let k = fine.1.0 in
    let same : bytes_eq key key ≡ true = (bytes_eq-Decides key key).1 refl in
    let waits : (option_word (arg_by_id c key) key word (held_for us key)) ≡ (held us (Some (key, word)), idle) =
    ap (λ o. option_word o key word (held_for us key)) k.found
    ∙ ap (λ b. (held us (Some (key, word)), cond (nat_lt (cond b 1 0) 1) (wait_for_option key) idle)) same in
    goes_on c (said_at (wait_for us key n)) (clap_at (wait_for us key n)) word rest
    (open_at us (Some (key, word)) false n) says (ap clear faults)
    (walks ∙ ap (λ (q : Held × Waiting). record (clap_at (wait_for us key n)) { held = q.0; waiting = q.1 }) waits)
    (fine.0, k, still_count _ c _ _ (one_used _ _ _ fine.1.1) fine.2) ahead

-- `--` instead of a value: clap goes on, and fails later
doomed : (c : List Rule) → IsCommand c → (us : List Use) (key : Text) (n : Count) → IsKey c key → (rest : List Text)
    → clear (all_faults c (walk_at (held_for us key) (wait_for_option key) (place n) true) rest) ≡ false
unfolding walk_fault
doomed c is us key n k [] = wants_settle c us key k
doomed c is us key n k (word ∷ rest) = clear_or _ _ ∙ and_left _ _ (clear_or _ _ ∙ and_left _ _ (go n))
  where
    go : (n : Count) → clear (name_fault c (place n) (held_for us key)) ≡ false
    go no_name = ap clear (place_fault c 1 (held_for us key) (codes "ORC") (Some 1) is.first) ∙ wants_settle c us key k
    go one_name = ap clear (place_fault c 2 (held_for us key) (codes "SCO") (Some 2) is.second) ∙ wants_settle _ _ _ k
    go two_names = ap (λ o. clear
        (option_map_or (λ a. positional_fault c false a (held_for us key)) o (stray_fault (shape c)))) is.third

stop_on : (c : List Rule) → IsCommand c → (us : List Use) (key : Text) (n : Count) (word : Text) (rest : List Text)
    → IsKey c key → after (said_at (wait_for us key n)) word ≡ None
    → turn_fault (shape c) [] (clap_at (wait_for us key n)) word ≡ []
    → walked c [] (clap_at (wait_for us key n)) word ≡ walk_at (held_for us key) (wait_for_option key) (place n) true
    → Agrees c (said (said_at (wait_for us key n)) (word ∷ rest)) (clap_at (wait_for us key n)) (word ∷ rest)
unfolding walk_fault
stop_on c is us key n word rest k says faults walks =
    grind (arith, common_steps, clear, doomed, fold, held, no_reading, none)

-- ---- any argument, and all of them

step_open : (c : List Rule) (is : IsCommand c) (us : List Use) (p : Option Use) (n : Count) (word : Text)
    (rest : List Text) → Form word → IsFine c (open_at us p false n) → Ahead c rest
    → Agrees c (said (said_at (open_at us p false n)) (word ∷ rest)) (clap_at (open_at us p false n)) (word ∷ rest)
step_open c is us p n word rest (a_name e f g says) fine ahead =
    name_on c is us p false n word rest fine (after_words (with_open us p) None word _ (says (state (with_open us p))))
    (turn_is c idle none (place n) word (held us p) false None None e f g)
    (walk_is c idle none (place n) word (held us p) false None None e f g) ahead
step_open c is us p n word rest (a_stop e says) fine ahead =
    goes_on c (state (with_open us p)) (clap_at (open_at us p false n)) word rest (open_at us p true n)
    (after_words (with_open us p) None word _ (says (state (with_open us p))))
    (ap clear (turn_is c idle none (place n) word (held us p) true _ _ e refl refl))
    (walk_is c idle none (place n) word (held us p) true _ _ e refl refl) fine ahead
step_open c is us p n word rest (a_title name value e f says) fine ahead =
    flags_on c us p n word rest (titled name value (state (with_open us p)))
    (long_fault c false (arg_by_long c name) value (held us p)) (long_met c (arg_by_long c name) value (held us p))
    fine.2 (after_words (with_open us p) None word _ (says (state (with_open us p))))
    (turn_is c idle none (place n) word (held us p) false (Some (name, value)) _ e f refl)
    (walk_is c idle none (place n) word (held us p) false (Some (name, value)) _ e f refl)
    (titles c is name value us p fine.1 fine.0) (title_leaves c is name value (with_open us p)) ahead
step_open c is us p n word rest (some_letters x flags utf8 e f g says) fine ahead =
    flags_on c us p n word rest (lettered (x ∷ flags) (state (with_open us p)))
    (flags_fault c false (length (x ∷ flags)) (x ∷ flags) 0 (held us p))
    (bundle_met c (length (x ∷ flags)) (x ∷ flags) 0 no_flag (held us p)) fine.2
    (after_words (with_open us p) None word _ (says (state (with_open us p))))
    (turn_is c idle none (place n) word (held us p) false None (Some (x ∷ flags)) e f g)
    (walk_is c idle none (place n) word (held us p) false None (Some (x ∷ flags)) e f g)
    (letters c is (x ∷ flags) us p no_flag utf8 fine.1 fine.0 tt) (letters_leave c is (x ∷ flags) (with_open us p))
    ahead

step_wait : (c : List Rule) (is : IsCommand c) (us : List Use) (key : Text) (n : Count) (word : Text) (rest : List Text)
    → Form word → IsFine c (wait_for us key n) → Ahead c rest
    → Agrees c (said (said_at (wait_for us key n)) (word ∷ rest)) (clap_at (wait_for us key n)) (word ∷ rest)
step_wait c is us key n word rest (a_name e f g says) fine ahead =
    value_on _ is _ _ _ _ _ fine (after_words _ _ _ _ (says (said_at (wait_for us key n))))
    (turn_is c _ (one key) (place n) word (held_for us key) _ _ _ e f g) (walk_is _ _ (one _) _ _ _ _ _ _ e f g) ahead
step_wait c is us key n word rest (a_stop e says) fine ahead =
    stop_on c is us key n word rest fine.1.0 (after_words us (Some key) word _ (says (said_at (wait_for us key n))))
    (turn_is c (wait_for_option key) (one key) (place n) word (held_for us key) true _ _ e refl refl)
    (walk_is c (wait_for_option key) (one key) (place n) word (held_for us key) true _ _ e refl refl)
step_wait c is us key n word rest (a_title name value e f says) fine ahead =
    agrees_bad c _ _ word rest (no_reading _ _ _ (after_words _ _ _ _ (says (said_at (wait_for us key n)))))
    (ap clear (turn_is c _ (one key) (place n) word (held_for us key) _ _ _ e
    f refl) ∙ clear_or (long_fault c false (arg_by_long c name) value (held_for us key)) _
    ∙ and_left _ _ (wants_long c (held_for us key) (wants_settle _ us _ fine.1.0) (arg_by_long c name) value))
step_wait c is us key n word rest (some_letters x flags utf8 e f g says) fine ahead =
    agrees_bad _ _ _ _ _ (no_reading _ _ _ (after_words _ _ _ _ (says (said_at (wait_for us key n)))))
    (ap clear (turn_is c _ (one key) (place n) word _ _ _ _ e f g) ∙ clear_or _ _
    ∙ and_left _ _ (wants_letters _ (held_for us key) (wants_settle _ us _ fine.1.0) _ _ utf8))

step : (c : List Rule) (is : IsCommand c) (word : Text) (rest : List Text) (at : At) → IsUtf8 word → IsFine c at
    → Ahead c rest → Agrees c (said (said_at at) (word ∷ rest)) (clap_at at) (word ∷ rest)
step c is word rest (open_at us p true n) utf8 fine ahead =
    name_on c is us p true n word rest fine (after_only (with_open us p) word)
    (turn_trailing c idle (place n) word (held us p)) (walk_trailing c idle (place n) word (held us p)) ahead
step c is word rest (open_at us p false n) utf8 fine ahead =
    step_open c is us p n word rest (form_of word utf8) fine ahead
step c is word rest (wait_for us key n) utf8 fine ahead =
    step_wait c is us key n word rest (form_of word utf8) fine ahead

at_end : (c : List Rule) (at : At) → IsFine c at → Agrees c (said (said_at at) []) (clap_at at) []
unfolding said walk_fault
at_end c (open_at us p only n) fine =
    (settle_clear c us p fine.1 fine.0, λ ok. ap (λ (h : Held). h.rows) (settled_held c us p fine.1 ok))
at_end c (wait_for us key n) fine = (wants_settle c us key fine.1.0, λ ok. absurd (true≢false (sym ok)))

pub whole : (c : List Rule) (is : IsCommand c) (words : List Text) → All IsUtf8 words → (at : At) → IsFine c at
    → Agrees c (said (said_at at) words) (clap_at at) words
whole c is [] utf8 at fine = at_end c at fine
whole c is (word ∷ rest) utf8 at fine =
    step c is word rest at (All-head IsUtf8 word rest utf8) fine (whole c is rest (All-tail IsUtf8 word rest utf8))
