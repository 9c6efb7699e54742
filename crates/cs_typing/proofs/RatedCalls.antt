-- The typed form of a call without a fault agrees with the row of its opcode.
use Rattle.std.proofs.Common.{◌≡◌, ◌∙◌, ℕ, zero, suc, ◌+◌, ◌-◌, ◌%◌, ◌==◌, Bool, true, false, not, ◌&&◌, ◌||◌, nat_lt}
use Rattle.std.proofs.Common.{nat_le, if◌then◌else◌, List, [], ◌∷◌, length, map, slice_get, Option, Some, None, arith}
use Rattle.std.proofs.{Common.refl, Common.sym, Common.ap, Math.Numerals.add-one}
use Rattle.std.specs.{List.All, List.list_any, List.list_all, Option.unwrap_or}
use Rattle.std.proofs.lemmas.{Bool.and_parts, Bool.and_from, Bool.Decides.nat_tests, List.length-map}
use Rattle.std.proofs.lemmas.List.Elements.{All-cons, All-nil}
use Rattle.cs_base.specs.{Rates.same_rate, Rates.is_init, Rates.is_audio, declared.resource.Rate.Rate}
use Rattle.cs_words.specs.Catalogue.{Row, row_of, letter_at, further, takes_count, result_count, takes, is_text}
use Rattle.cs_words.specs.{Names.name_rate, declared.catalogue.Letter.Letter, declared.catalogue.More.More}
use Rattle.cs_words.specs.{declared.catalogue.Opcode.Opcode, declared.catalogue.Shape.Shape}
use Rattle.cs_grammar.specs.{Tree.Argument, Tree.value, Tree.text, declared.tree.Callee.Callee}
use Rattle.cs_typed.specs.{Places.is_starting, Places.is_writing, declared.setting.Setting.Setting}
use Rattle.cs_typing.specs.{declared.known.Channel.Channel, Calls.typed_call}
use Rattle.cs_typing.specs.Calls.{fits, all_fit, bound_of, may_result, is_sound, is_even, kind_of, any_sound}
use Rattle.cs_typing.specs.Calls.{channel_use, is_too_wide, row_fault, call_fault, is_still, call_rate, typed_arguments}
use Rattle.cs_typing.specs.Expressions.{is_value, rate_of, typed_expression}
use Rattle.cs_typing.specs.Known.{KnownHere, Shared, knows, variable, channel_of}
use Rattle.cs_typed.specs.WellRated.{var_rate, is_variable, is_channel, node_rate, IsRatedArgument, row_left}
use Rattle.cs_typed.specs.WellRated.{fits_letter, fit_letters, bound_by, may_give, goes_beyond, stores_evenly}
use Rattle.cs_typed.specs.WellRated.{suits_channel, keeps_still, is_of_sound, done_at, IsRatedCall, IsRatedStatement}
use Rattle.cs_typing.proofs.{ChannelTexts.no_third, Rules.keeps_rules}
use Rattle.cs_typing.proofs.RatedExpressions.{node_is, variable_rate, not_true, value_rated}
use Rattle.cs_base.specs.declared.resource.Rate.TheVariants as rate
use Rattle.cs_words.specs.declared.catalogue.More.TheVariants as more
use Rattle.cs_words.specs.declared.catalogue.Opcode.TheVariants as op
use Rattle.cs_words.specs.declared.catalogue.Shape.TheVariants as shape
use Rattle.cs_grammar.specs.declared.tree.Callee.TheVariants as callee
use Rattle.cs_typing.specs.declared.known.Channel.TheVariants as channel
use Rattle.cs_typed.specs.TypedTree as typed

-- ---- letters that accept no text

at_fixed : (ls : List Letter) (l : Letter) (j : ℕ) → list_all (λ m. not (is_text m)) ls ≡ true → is_text l ≡ false
    → is_text (unwrap_or (slice_get ls j) l) ≡ false
at_fixed [] l j h k = k
at_fixed (m ∷ ls) l zero h k =
    not_true (is_text m) (and_parts (not (is_text m)) (list_all (λ p. not (is_text p)) ls) h).0
at_fixed (m ∷ ls) l (suc j) h k =
    at_fixed ls l j (and_parts (not (is_text m)) (list_all (λ p. not (is_text p)) ls) h).1 k

abbrev no_text_after : More → Bool
no_text_after more.Nothing = true
no_text_after (more.Perhaps l) = not (is_text l)
no_text_after (more.Each l) = not (is_text l)
no_text_after (more.Pairs l m) = not (is_text l) && not (is_text m)

one_of : (b : Bool) (l m : Letter) → is_text l ≡ false → is_text m ≡ false → is_text (if b then l else m) ≡ false
one_of true l m h k = h
one_of false l m h k = k

at_further : (mo : More) (j : ℕ) → no_text_after mo ≡ true → is_text (further mo j) ≡ false
at_further more.Nothing j h = refl
at_further (more.Perhaps l) j h = not_true (is_text l) h
at_further (more.Each l) j h = not_true (is_text l) h
at_further (more.Pairs l m) j h =
    let parts = and_parts (not (is_text l)) (not (is_text m)) h in
    one_of (j % 2 == 0) l m (not_true (is_text l) parts.0) (not_true (is_text m) parts.1)

no_text : (row : Row) → list_all (λ m. not (is_text m)) row.fixed ≡ true → no_text_after row.more ≡ true → (j : ℕ)
    → is_text (letter_at row j) ≡ false
no_text row h k j = at_fixed row.fixed (further row.more (j - length row.fixed)) j h
    (at_further row.more (j - length row.fixed) k)

-- ---- arguments whose texts are left out

fits_value : (n : KnownHere) (l m : Letter) (b : Rate) (e : _) → l ≡ m → takes l b (rate_of e) ≡ true
    → takes m b (node_rate (typed_expression n e)) ≡ true
fits_value n l m b e same h =
    ap (λ p. takes p b (node_rate (typed_expression n e))) (sym same) ∙ ap (λ r. takes l b r) (node_is n e) ∙ h

-- the letters of a row, from an index on, are the letters of another row
plain_letters : (n : KnownHere) (row left : Row) (b : Rate) (d : ℕ)
    → ((j : ℕ) → letter_at row (j + d) ≡ letter_at left j)
    → ((j : ℕ) → is_text (letter_at left j) ≡ false) → (args : List Argument) (m k : ℕ) → m ≡ k + d
    → all_fit row b m args ≡ true
    → (fit_letters left b k (typed_arguments n None args) ≡ true) × (length (typed_arguments n None args) ≡ length args)
plain_letters n row left b d same none [] m k e h = (refl, refl)
plain_letters n row left b d same none (value x ∷ rest) m k e h =
    let parts = and_parts (fits (letter_at row m) b (value x)) (all_fit row b (m + 1) rest) h in
    let first = and_parts (is_value x) (takes (letter_at row m) b (rate_of x)) parts.0 in
    let after = plain_letters n row left b d same none rest (m + 1) (k + 1) (omega (arith, e)) parts.1 in
    let letter = ap (λ j. letter_at row j) e ∙ same k in (
      and_from (fits_letter (letter_at left k) b (typed.value (typed_expression n x)))
          (fit_letters left b (k + 1) (typed_arguments n None rest))
          (fits_value n (letter_at row m) (letter_at left k) b x letter first.1) after.0,
      ap (λ j. suc j) after.1,
    )
plain_letters n row left b d same none (text name ∷ rest) m k e h =
    let parts = and_parts (fits (letter_at row m) b (text name)) (all_fit row b (m + 1) rest) h in
    let letter = ap (λ j. letter_at row j) e ∙ same k in
    let never : false ≡ true = sym (none k) ∙ sym (ap is_text letter) ∙ parts.0 in
    absurd (cc never)

and_none : (j : ℕ) → j + 0 ≡ j
and_none j = omega arith

plain_row : (n : KnownHere) (row : Row) (b : Rate) (args : List Argument)
    → list_all (λ m. not (is_text m)) row.fixed ≡ true → no_text_after row.more ≡ true → all_fit row b 0 args ≡ true
    → (fit_letters row b 0 (typed_arguments n None args) ≡ true) × (length (typed_arguments n None args) ≡ length args)
plain_row n row b args f g h =
    plain_letters n row row b 0 (λ j. ap (λ i. letter_at row i) (and_none j)) (no_text row f g) args 0 0 refl h

-- ---- arguments with a text that is a channel

kept_letters : (n : KnownHere) (kind : Channel) (row : Row) (b : Rate) (args : List Argument) (k : ℕ)
    → all_fit row b k args ≡ true → (fit_letters row b k (typed_arguments n (Some kind) args) ≡ true)
    × (length (typed_arguments n (Some kind) args) ≡ length args)
kept_letters n kind row b [] k h = (refl, refl)
kept_letters n kind row b (value x ∷ rest) k h =
    let parts = and_parts (fits (letter_at row k) b (value x)) (all_fit row b (k + 1) rest) h in
    let first = and_parts (is_value x) (takes (letter_at row k) b (rate_of x)) parts.0 in
    let after = kept_letters n kind row b rest (k + 1) parts.1 in (
      and_from (fits_letter (letter_at row k) b (typed.value (typed_expression n x)))
          (fit_letters row b (k + 1) (typed_arguments n (Some kind) rest))
          (fits_value n (letter_at row k) (letter_at row k) b x refl first.1) after.0,
      ap (λ j. suc j) after.1,
    )
kept_letters n kind row b (text name ∷ rest) k h =
    let parts = and_parts (fits (letter_at row k) b (text name)) (all_fit row b (k + 1) rest) h in
    let after = kept_letters n kind row b rest (k + 1) parts.1 in (
      and_from (fits_letter (letter_at row k) b (typed.text (channel_of n.shared kind name)))
          (fit_letters row b (k + 1) (typed_arguments n (Some kind) rest)) parts.0 after.0,
      ap (λ j. suc j) after.1,
    )

-- ---- the text of `event_i`

asked : (j : ℕ) → letter_at (row_of op.EventI) (j + 1) ≡ letter_at (row_of op.Schedule) j
asked j = ap (λ i. letter_at (row_of op.EventI) i) (add-one j) ∙ asked_next j
  where
    asked_next : (i : ℕ) → letter_at (row_of op.EventI) (suc i) ≡ letter_at (row_of op.Schedule) i
    asked_next i = refl

at_least : (m : ℕ) → nat_le 4 (suc m) ≡ true → nat_le 3 m ≡ true
at_least m h = grind (arith, nat_tests)

one_less : (m : ℕ) → takes_count (row_of op.EventI) (suc m) ≡ true → takes_count (row_of op.Schedule) m ≡ true
one_less m h = and_from (nat_le 3 m) true (at_least m (and_parts (nat_le 4 (suc m)) true h).0) refl

event_letters : (n : KnownHere) (b : Rate) (args : List Argument) → takes_count (row_of op.EventI) (length args) ≡ true
    → all_fit (row_of op.EventI) b 0 args ≡ true
    → (fit_letters (row_of op.Schedule) b 0 (typed_arguments n None args) ≡ true) ×
    (takes_count (row_of op.Schedule) (length (typed_arguments n None args)) ≡ true)
event_letters n b [] c h = absurd (cc c)
event_letters n b (value x ∷ rest) c h =
    let parts = and_parts (is_value x && false) (all_fit (row_of op.EventI) b 1 rest) h in
    absurd (cc (and_parts (is_value x) false parts.0).1)
event_letters n b (text name ∷ rest) c h =
    let after = plain_letters n (row_of op.EventI) (row_of op.Schedule) b 1 asked
    (no_text (row_of op.Schedule) refl refl) rest 1 0 refl h in
    (after.0, ap (λ m. takes_count (row_of op.Schedule) m) after.1 ∙ one_less (length rest) c)

-- ---- any opcode

plain : (n : KnownHere) (row : Row) (b : Rate) (args : List Argument) → list_all (λ m. not (is_text m)) row.fixed ≡ true
    → no_text_after row.more ≡ true → takes_count row (length args) ≡ true → all_fit row b 0 args ≡ true
    → (fit_letters row b 0 (typed_arguments n None args) ≡ true)
    × (takes_count row (length (typed_arguments n None args)) ≡ true)
plain n row b args f g c h =
    let made = plain_row n row b args f g h in (made.0, ap (λ m. takes_count row m) made.1 ∙ c)

kept : (n : KnownHere) (kind : Channel) (row : Row) (b : Rate) (args : List Argument)
    → takes_count row (length args) ≡ true → all_fit row b 0 args ≡ true
    → (fit_letters row b 0 (typed_arguments n (Some kind) args) ≡ true)
    × (takes_count row (length (typed_arguments n (Some kind) args)) ≡ true)
kept n kind row b args c h =
    let made = kept_letters n kind row b args 0 h in (made.0, ap (λ m. takes_count row m) made.1 ∙ c)

letters_right : (n : KnownHere) (o : Opcode) (b : Rate) (results : List (List ℕ)) (args : List Argument)
    → takes_count (row_of o) (length args) ≡ true → all_fit (row_of o) b 0 args ≡ true
    → (fit_letters (row_left o) b 0 (typed_arguments n (channel_use (row_of o).shape results args) args) ≡ true) ×
    (takes_count (row_left o) (length (typed_arguments n (channel_use (row_of o).shape results args) args)) ≡ true)
letters_right n op.Chnget b results args c h =
    kept n (kind_of (is_audio (bound_of results))) (row_of op.Chnget) b args c h
letters_right n op.Chnset b results args c h = kept n (kind_of (any_sound args)) (row_of op.Chnset) b args c h
letters_right n op.Chnmix b results args c h = kept n channel.Sound (row_of op.Chnmix) b args c h
letters_right n op.Chnclear b results args c h = kept n channel.Sound (row_of op.Chnclear) b args c h
letters_right n op.EventI b results args c h = event_letters n b args c h
letters_right n o b results args c h = plain n (row_of o) b args refl refl c h

channels_right : (n : KnownHere) (s : Setting) (o : Opcode) (b : Rate) (results : List (List ℕ)) (args : List Argument)
    → all_fit (row_of o) b 0 args ≡ true → is_too_wide s (row_of o).shape args ≡ false
    → goes_beyond s (row_of o).shape (typed_arguments n (channel_use (row_of o).shape results args) args) ≡ false
channels_right n s op.Out b results args h wide =
    ap (λ m. nat_lt s.channels m) (plain_row n (row_of op.Out) b args refl refl h).1 ∙ wide
channels_right n s op.Outs b results args h wide =
    ap (λ m. nat_lt s.channels m) (plain_row n (row_of op.Outs) b args refl refl h).1 ∙ wide
channels_right n s o b results args h wide = refl

even_right : (n : KnownHere) (b : Rate) (args : List Argument) → all_fit (row_of op.Tablew) b 0 args ≡ true
    → is_even shape.Store args ≡ true → stores_evenly shape.Store (typed_arguments n None args) ≡ true
even_right n b [] h e = refl
even_right n b (text name ∷ rest) h e = absurd (cc (and_parts false (all_fit (row_of op.Tablew) b 1 rest) h).0)
even_right n b (value x ∷ []) h e = refl
even_right n b (value x ∷ text name ∷ rest) h e =
    let parts = and_parts (is_value x && true) (all_fit (row_of op.Tablew) b 1 (text name ∷ rest)) h in
    absurd (cc (and_parts false (all_fit (row_of op.Tablew) b 2 rest) parts.1).0)
even_right n b (value x ∷ value y ∷ rest) h e =
    let other = is_audio (node_rate (typed_expression n y)) in
    ap (λ r. if is_audio r then other else not other) (node_is n x)
    ∙ ap (λ r. if is_audio (rate_of x) then is_audio r else not (is_audio r)) (node_is n y) ∙ e

stores_right : (n : KnownHere) (o : Opcode) (b : Rate) (results : List (List ℕ)) (args : List Argument)
    → all_fit (row_of o) b 0 args ≡ true → is_even (row_of o).shape args ≡ true
    → stores_evenly (row_of o).shape (typed_arguments n (channel_use (row_of o).shape results args) args) ≡ true
stores_right n op.Tablew b results args h e = even_right n b args h e
stores_right n o b results args h e = refl

channel_made : (s : Shared) (kind : Channel) (name : List ℕ) → is_channel (channel_of s kind name) ≡ true
channel_made s channel.Control name = refl
channel_made s channel.Sound name = refl

parts_rated : (n : KnownHere) (role : Option Channel) (row : Row) (b : Rate) (args : List Argument) (k : ℕ)
    → all_fit row b k args ≡ true → All IsRatedArgument (typed_arguments n role args)
parts_rated n role row b [] k h = All-nil IsRatedArgument
parts_rated n role row b (value x ∷ rest) k h =
    let parts = and_parts (fits (letter_at row k) b (value x)) (all_fit row b (k + 1) rest) h in
    let first = and_parts (is_value x) (takes (letter_at row k) b (rate_of x)) parts.0 in
    All-cons IsRatedArgument (typed.value (typed_expression n x)) (typed_arguments n role rest)
    (value_rated n x first.0) (parts_rated n role row b rest (k + 1) parts.1)
parts_rated n None row b (text name ∷ rest) k h =
    parts_rated n None row b rest (k + 1)
    (and_parts (fits (letter_at row k) b (text name)) (all_fit row b (k + 1) rest) h).1
parts_rated n (Some kind) row b (text name ∷ rest) k h =
    All-cons IsRatedArgument (typed.text (channel_of n.shared kind name)) (typed_arguments n (Some kind) rest)
    (channel_made n.shared kind name) (parts_rated n (Some kind) row b rest (k + 1)
    (and_parts (fits (letter_at row k) b (text name)) (all_fit row b (k + 1) rest) h).1)

given_right : (n : KnownHere) (row : Row) (results : List (List ℕ)) → list_all (may_result row) results ≡ true
    → list_all (may_give row) (map (variable n) results) ≡ true
given_right n row [] h = refl
given_right n row (name ∷ rest) h =
    let parts = and_parts (may_result row name) (list_all (may_result row) rest) h in
    let v = variable n name in
    let one = and_from (is_variable v) (list_any (same_rate (var_rate v)) row.results) (variable_rate n name).1
    (ap (λ r. list_any (same_rate r) row.results) (variable_rate n name).0 ∙ parts.0) in
    and_from (may_give row v) (list_all (may_give row) (map (variable n) rest)) one (given_right n row rest parts.1)

bound_right : (n : KnownHere) (results : List (List ℕ)) → bound_of results ≡ bound_by (map (variable n) results)
bound_right n [] = refl
bound_right n (name ∷ rest) = sym (variable_rate n name).0

still_right : (n : KnownHere) (role : Option Channel) (args : List Argument)
    → list_all keeps_still (typed_arguments n role args) ≡ list_all is_still args
still_right n role [] = refl
still_right n role (value x ∷ rest) =
    ap (λ r. is_init r && list_all keeps_still (typed_arguments n role rest)) (node_is n x)
    ∙ ap (λ b. is_init (rate_of x) && b) (still_right n role rest)
still_right n None (text name ∷ rest) = still_right n None rest
still_right n (Some kind) (text name ∷ rest) = still_right n (Some kind) rest

sound_right : (n : KnownHere) (role : Option Channel) (args : List Argument)
    → list_any is_of_sound (typed_arguments n role args) ≡ list_any is_sound args
sound_right n role [] = refl
sound_right n role (value x ∷ rest) =
    ap (λ r. is_audio r || list_any is_of_sound (typed_arguments n role rest)) (node_is n x)
    ∙ ap (λ b. is_audio (rate_of x) || b) (sound_right n role rest)
sound_right n None (text name ∷ rest) = sound_right n None rest
sound_right n (Some kind) (text name ∷ rest) = sound_right n (Some kind) rest

done_right : (n : KnownHere) (role : Option Channel) (sh : Shape) (results : List (List ℕ)) (args : List Argument)
    → call_rate sh results args ≡ done_at sh (map (variable n) results) (typed_arguments n role args)
done_right n role sh [] args =
    let made = typed_arguments n role args in
    sym (ap (λ b. if is_starting sh then rate.Init else
    (if is_writing sh && b then rate.Init else (if list_any is_of_sound made then rate.Audio else rate.Control)))
    (still_right n role args) ∙ ap (λ b. if is_starting sh then rate.Init else
    (if is_writing sh && list_all is_still args then rate.Init else (if b then rate.Audio else rate.Control)))
    (sound_right n role args))
done_right n role sh (name ∷ rest) args =
    ap (λ r. if is_starting sh then rate.Init else r) (sym (variable_rate n name).0)

-- ---- a channel fits its use

sound_agrees : (a b : Bool) → b ≡ a → (if a then b else not b) ≡ true
sound_agrees true b h = h
sound_agrees false b h = ap not h

channel_rate : (s : Shared) (b : Bool) (name : List ℕ) → is_audio (var_rate (channel_of s (kind_of b) name)) ≡ b
channel_rate s true name = refl
channel_rate s false name = refl

or_none : (b : Bool) → (b || (false || false)) ≡ b
or_none true = refl
or_none false = refl

suits_right : (n : KnownHere) (o : Opcode) (results : List (List ℕ)) (args : List Argument)
    → takes_count (row_of o) (length args) ≡ true → suits_channel (row_of o).shape (map (variable n) results)
    (typed_arguments n (channel_use (row_of o).shape results args) args) ≡ true
suits_right n op.Chnget (name ∷ names) (text t ∷ rest) c =
    let sound = is_audio (name_rate name) in
    sound_agrees (is_audio (var_rate (variable n name))) (is_audio (var_rate (channel_of n.shared (kind_of sound) t)))
    (channel_rate n.shared sound t ∙ sym (ap is_audio (variable_rate n name).0))
suits_right n op.Chnset results (value x ∷ text t ∷ []) c =
    let sound = any_sound (value x ∷ text t ∷ []) in
    sound_agrees (is_audio (node_rate (typed_expression n x)))
    (is_audio (var_rate (channel_of n.shared (kind_of sound) t)))
    (channel_rate n.shared sound t ∙ or_none (is_audio (rate_of x)) ∙ sym (ap is_audio (node_is n x)))
suits_right n op.Chnset results (value x ∷ text t ∷ a ∷ rest) c = no_third (length rest) c
suits_right n op.Chnmix results (value x ∷ text t ∷ rest) c = refl
suits_right n op.Chnclear results (text t ∷ rest) c = refl
suits_right n o results args c = refl

-- ---- a call without a fault

equal : (i j : ℕ) → (i == j) ≡ true → i ≡ j
equal i j h = grind (arith, nat_tests)

row_rated : (s : Setting) (n : KnownHere) (o : Opcode) (results : List (List ℕ)) (args : List Argument)
    → row_fault s n (row_of o) results args ≡ None
    → IsRatedCall s (call_rate (row_of o).shape results args) (map (variable n) results) o
    (typed_arguments n (channel_use (row_of o).shape results args) args)
row_rated s n o results args h =
    let row = row_of o in
    let role = channel_use row.shape results args in
    let keeps = keeps_rules s n.shared (knows n) row results args h in
    let letters = letters_right n o (bound_of results) results args keeps.args_count keeps.fit in
    record {
      done = done_right n role row.shape results args;
      results = length-map results (variable n) ∙ equal (length results) (result_count row) keeps.results_count;
      given = given_right n row results keeps.may;
      count = letters.1;
      letters = ap (λ b. fit_letters (row_left o) b 0 (typed_arguments n role args)) (sym (bound_right n results))
          ∙ letters.0;
      parts = parts_rated n role row (bound_of results) args 0 keeps.fit;
      channels = channels_right n s o (bound_of results) results args keeps.fit keeps.width;
      suits = suits_right n o results args keeps.args_count;
      even = stores_right n o (bound_of results) results args keeps.fit keeps.even;
      place = keeps.place;
    }

pub call_rated : (s : Setting) (n : KnownHere) (line : ℕ) (c : Callee) (results : List (List ℕ)) (args : List Argument)
    → call_fault s n c results args ≡ None → IsRatedStatement s (typed_call line n c results args)
call_rated s n line (callee.Opcode o) results args h = row_rated s n o results args h
call_rated s n line (callee.Name name) results args h = absurd (cc h)
