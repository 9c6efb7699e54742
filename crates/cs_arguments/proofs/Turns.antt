-- clap's step at one argument, by the argument's form.
use Rattle.std.proofs.Common.{arith, ◌≡◌, ◌∙◌, ◌∷◌, ℕ, Bool, true, false, cond, List, [], Option, Some, None, refl, ap}
use Rattle.std.proofs.Common.{bytes_eq, length, IsUtf8}
use Rattle.std.proofs.lemmas.{Grind.common_steps, Bool.and_left}
use Rattle.std.specs.Option.{option_map_or}
use Rattle.clap.specs.{Lexer.long_of, Lexer.short_of, Kinds.Kinds, Kinds.or_else}
use Rattle.clap.specs.Faults.{settle_fault, react_fault, option_fault, long_fault, short_fault, bundle_step_fault}
use Rattle.clap.specs.Faults.{flags_fault, bundle_fault, word_fault, step_fault, turn_fault, flag_word_fault}
use Rattle.clap.specs.Walk.{Held, Rule, Step, Waiting, Walk, idle, option as wait_for_option, trailing, value}
use Rattle.clap.specs.Walk.{after_step, arg_by_long, arg_by_short, long_word, long_or_other, short_or_plain, walked}
use Rattle.clap.specs.Walk.{word_met, to_positional, arg_by_index}
use Rattle.cs_arguments.specs.{Reading.Text, Command.shape}
use Rattle.cs_arguments.proofs.{Chars.first_of, Walking.clear, Walking.clear_or, Forms.dashes}

-- the state of the walk
abbrev pub walk_at : Held → Waiting → ℕ → Bool → Walk
walk_at h waiting position only =
    record { held = h; waiting = waiting; position = position; is_trailing = only; stopped = None }

-- the step at an argument whose three forms are known
abbrev met_long : List Rule → Waiting → Text → Held → Option (Text × Option Text) → Option Text → Held × Step
met_long c waiting word h (Some p) letters = long_word c waiting word p.0 p.1 h
met_long c waiting word h None letters = short_or_plain c waiting word letters h

abbrev met_for : List Rule → Waiting → ℕ → Text → Held → Bool → Option (Text × Option Text) → Option Text → Held × Step
met_for c waiting position word h stop long letters =
    cond stop (h, trailing position) (met_long c waiting word h long letters)

abbrev fault_long : List Rule → Held → Option (Text × Option Text) → Option Text → Kinds
fault_long c h (Some p) letters = long_fault c false (arg_by_long c p.0) p.1 h
fault_long c h None letters = option_map_or (λ flags. bundle_fault c false flags h) letters []

abbrev turn_by : List Rule → Waiting → ℕ → Text → Held → Bool → Option (Text × Option Text) → Option Text → Kinds
turn_by c waiting position word h stop long letters =
    or_else (cond stop [] (fault_long c h long letters))
    (step_fault (shape c) position (met_for c waiting position word h stop long letters).0
    (met_for c waiting position word h stop long letters).1)

abbrev walk_by : List Rule → Waiting → ℕ → Text → Held → Bool → Option (Text × Option Text) → Option Text → Walk
walk_by c waiting position word h stop long letters =
    after_step c word (walk_at h waiting position false) (met_for c waiting position word h stop long letters).0
    (met_for c waiting position word h stop long letters).1

met_longer : (c : List Rule) (waiting : Waiting) (word : Text) (h : Held) (long : Option (Text × Option Text))
    → long_or_other c waiting word long h ≡ met_long c waiting word h long (short_of word)
met_longer c waiting word h None = refl
met_longer c waiting word h (Some p) = refl

fault_longer : (c : List Rule) (word : Text) (h : Held) (long : Option (Text × Option Text))
    → flag_word_fault c false long word h ≡ fault_long c h long (short_of word)
fault_longer c word h None = refl
fault_longer c word h (Some p) = refl

-- what may wait between two arguments of this command
pub data IsWaiting : Waiting → Type 0 where
  none : IsWaiting idle
  one : (key : Text) → IsWaiting (wait_for_option key)

met_is : (c : List Rule) (waiting : Waiting) → IsWaiting waiting → (position : ℕ) (word : Text) (h : Held)
    → word_met c [] false waiting position word h ≡ met_for c waiting position word h (bytes_eq word dashes)
    (long_of word) (short_of word)
met_is c waiting none position word h =
    ap (λ m. cond (bytes_eq word dashes) (h, trailing position) m) (met_longer c idle word h (long_of word))
met_is c waiting (one key) position word h = grind (arith, common_steps, bytes_eq, dashes, met_longer)

fault_is : (c : List Rule) (waiting : Waiting) → IsWaiting waiting → (word : Text) (h : Held)
    → word_fault (shape c) [] false waiting word h ≡ cond (bytes_eq word dashes) []
    (fault_long c h (long_of word) (short_of word))
fault_is c waiting none word h = ap (λ k. cond (bytes_eq word dashes) [] k) (fault_longer c word h (long_of word))
fault_is c waiting (one key) word h = ap (λ k. cond (bytes_eq word dashes) [] k) (fault_longer c word h (long_of word))

pub turn_is : (c : List Rule) (waiting : Waiting) → IsWaiting waiting
    → (position : ℕ) (word : Text) (h : Held) (stop : Bool) (long : Option (Text × Option Text)) (letters : Option Text)
    → bytes_eq word dashes ≡ stop → long_of word ≡ long → short_of word ≡ letters
    → turn_fault (shape c) [] (walk_at h waiting position false) word ≡ turn_by c waiting position word h stop long
    letters
turn_is c waiting is position word h stop long letters e f g = grind (arith, common_steps, fault_is, met_is)

pub walk_is : (c : List Rule) (waiting : Waiting) → IsWaiting waiting
    → (position : ℕ) (word : Text) (h : Held) (stop : Bool) (long : Option (Text × Option Text)) (letters : Option Text)
    → bytes_eq word dashes ≡ stop → long_of word ≡ long → short_of word ≡ letters
    → walked c [] (walk_at h waiting position false) word ≡ walk_by c waiting position word h stop long letters
unfolding walked
walk_is c waiting is position word h stop long letters e f g = grind (arith, common_steps, met_is)

-- after `--` each argument is a name
pub turn_trailing : (c : List Rule) (waiting : Waiting) (position : ℕ) (word : Text) (h : Held)
    → turn_fault (shape c) [] (walk_at h waiting position true) word ≡ step_fault (shape c) position h value
turn_trailing c waiting position word h = refl

pub walk_trailing : (c : List Rule) (waiting : Waiting) (position : ℕ) (word : Text) (h : Held)
    → walked c [] (walk_at h waiting position true) word
    ≡ to_positional c (arg_by_index c position) word (walk_at h waiting position true) h
unfolding walked
walk_trailing c waiting position word h = refl

-- ---- an option whose value is still missing refuses each flag

wants_first : (c : List Rule) (h : Held) → clear (settle_fault c false h) ≡ false → (a : Rule) (values : List Text)
    → clear (react_fault c false a values h) ≡ false
wants_first c h e a values = clear_or (settle_fault c false h) _ ∙ and_left _ _ e

wants_option : (c : List Rule) (h : Held) → clear (settle_fault c false h) ≡ false → (a : Rule) (v : Option Text)
    → clear (option_fault c false a v h) ≡ false
wants_option c h e a None = e
wants_option c h e a (Some v) = wants_first c h e a (v ∷ [])

pub wants_long : (c : List Rule) (h : Held) → clear (settle_fault c false h) ≡ false
    → (o : Option Rule) (v : Option Text) → clear (long_fault c false o v h) ≡ false
wants_long c h e None v = refl
wants_long c h e (Some a) v = grind (arith, common_steps, clear, wants_first, wants_option)

wants_short : (c : List Rule) (h : Held) → clear (settle_fault c false h) ≡ false
    → (o : Option Rule) (rest : Text) (after : Held → Kinds) → clear (short_fault c false o rest h after) ≡ false
wants_short c h e None rest after = refl
wants_short c h e (Some a) rest after =
    grind (arith, common_steps, and_left, clear, clear_or, wants_first, wants_option)

pub wants_letters : (c : List Rule) (h : Held) → clear (settle_fault c false h) ≡ false → (x : ℕ) (rest : Text)
    → IsUtf8 (x ∷ rest) → clear (flags_fault c false (length (x ∷ rest)) (x ∷ rest) 0 h) ≡ false
unfolding flags_fault
wants_letters c h e x rest utf8 =
    let first = first_of x rest utf8 in
    ap (λ o. clear (bundle_step_fault c false o (x ∷ rest) 0 h (flags_fault c false (length rest)))) first.1
    ∙ wants_short c h e (arg_by_short c first.0) _ _
