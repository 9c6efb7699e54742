-- Facts about the core statements of a block, from the rules of rates.
use Rattle.std.proofs.Common.{ap₂, ◌≡◌, ℕ, zero, suc, ◌+◌, ◌-◌, ◌%◌, ◌<◌, ◌≤◌, Bool, true, false, not, ◌&&◌, ◌==◌, List}
use Rattle.std.proofs.Common.{[], ◌∷◌, length, nat_le, if◌then◌else◌, refl, sym, ◌∙◌, ap, subst, arith, leb-true}
use Rattle.std.proofs.Common.{eqb-true, eq-eqb, ne_eqb, ltb-false}
use Rattle.std.specs.List.{All, list_all, list_any}
use Rattle.std.proofs.lemmas.Bool.{and_parts}
use Rattle.cs_base.proofs.Rates.{within_faster, within_chain}
use Rattle.cs_base.specs.Rates.{is_init, is_control, is_audio, same_rate, within, faster, res_rate}
use Rattle.cs_base.specs.{declared.resource.Rate.Rate, declared.spaces.Spaces.Spaces}
use Rattle.cs_words.specs.Catalogue.{Row, row_of, letter_at, takes, is_text, is_settled, takes_count, moving_letters}
use Rattle.cs_words.specs.{declared.catalogue.Letter.Letter, declared.catalogue.Shape.Shape}
use Rattle.cs_words.specs.declared.catalogue.Opcode.{Opcode}
use Rattle.cs_ir.specs.{Units.is_unit, Validity.take_all, Validity.bound_at}
use Rattle.cs_meaning.specs.Core.{ask, core, core_stmt, core_arms, core_call, values_of, settled, moving}
use Rattle.cs_typed.specs.TypedTree.{Expression, var, neg, pair, pick, apply}
use Rattle.cs_typed.specs.WellRated.{node_rate, var_rate, is_variable, is_channel, is_read_once, both_sound, may_give}
use Rattle.cs_typed.specs.WellRated.{IsRated, IsRatedArgument, IsRatedSet, IsRatedCall, IsRatedStatement, IsRatedBlock}
use Rattle.cs_typed.specs.WellRated.{IsRatedArms, fits_letter, fit_letters, bound_by, goes_beyond, done_at}
use Rattle.cs_typed.specs.{Places.is_starting, declared.setting.Setting.Setting, declared.tree.Var.Var as Variable}
use Rattle.cs_typed.specs.declared.tree.Var.TheVariants.{Local, Global}
use Rattle.cs_code.proofs.Letters.{take_rates, stills, is_run, run_fits, may_run, same_bound, store_fits}
use Rattle.cs_code.proofs.Named.{Narrow, NarrowBlock, NarrowArms}
use Rattle.cs_ir.proofs.RegisterKinds.{local_rate}
use Rattle.cs_code.proofs.Ranked.{holds_value, Ranked, AllRanked, AllInit, AllSound, Paired, rated, RankedSet, GivenTo}
use Rattle.cs_code.proofs.Ranked.{RankedRun, RankedUnit, RankedStore, RankedStmt, RankedBlock, RankedArms}
use Rattle.cs_code.proofs.{Rated.init_is, Valid.within_self, Valid.init_within, Valid.two}
use Rattle.cs_base.specs.declared.resource.Rate.TheVariants as rate
use Rattle.cs_base.specs.declared.resource.Res.TheVariants as res
use Rattle.cs_words.specs.declared.catalogue.Letter.TheVariants as letter
use Rattle.cs_words.specs.declared.catalogue.Opcode.TheVariants as op
use Rattle.cs_words.specs.declared.catalogue.Shape.TheVariants as shape
use Rattle.cs_words.specs.declared.word.Func.TheVariants as func
use Rattle.cs_typed.specs.TypedTree as typed

-- ---- expressions

audio_above : (r : Rate) → within r rate.Audio ≡ true
audio_above rate.Init = refl
audio_above a = refl

no_true : (b : Bool) → not b ≡ true → b ≡ false
no_true true h = cc
no_true false h = refl

within_same : (a r : Rate) → r ≡ a → within a r ≡ true
within_same a r h = ap (within a) h ∙ within_self a

read_once : (e : Expression) → is_read_once e ≡ true → is_control (node_rate e) ≡ true
read_once (var r v) h = h
read_once a h = cc

-- a name's variable has a value
variable_holds : (v : Variable) → is_variable v ≡ true → holds_value v ≡ true
variable_holds (Global (res.Table n)) h = absurd (cc)
variable_holds a h = refl

channel_holds : (v : Variable) → is_channel v ≡ true → holds_value v ≡ true
channel_holds (Local q n) h = absurd (cc)
channel_holds (Global (res.Table n)) h = absurd (cc)
channel_holds a h = refl

given_holds : (row : Row) (v : Variable) (vs : List Variable) → list_all (may_give row) (v ∷ vs) ≡ true
    → holds_value v ≡ true
given_holds row v vs h =
    let all = and_parts (may_give row v) (list_all (may_give row) vs) h in
    variable_holds v (and_parts (is_variable v) (list_any (same_rate (var_rate v)) row.results) all.0).0

-- a variable with a value can be read at this rate
takes_it : (r : Rate) (v : Variable) → holds_value v ≡ true → within r (var_rate v) ≡ true
    → (holds_value v && within r (var_rate v)) ≡ true
takes_it r v h k = two (holds_value v) (within r (var_rate v)) h k

ranked_var : (r : Rate) (v : Variable) → holds_value v ≡ true → r ≡ var_rate v → Ranked (var r v)
ranked_var r (Local q n) k h = sym h
ranked_var r (Global g) k h = takes_it r (Global g) k (ap (λ y. within y (res_rate g)) h ∙ within_self (res_rate g))

ranked : (e : Expression) → IsRated e → Ranked e
ranked (var r v) h = ranked_var r v (variable_holds v h.1) h.0
ranked (neg r a) h = (within_same (node_rate a) r h.0, ranked a h.1)
ranked (pair r o a b) h =
    let parts = within_faster (node_rate a) (node_rate b) in
    (ap (within (node_rate a)) h.0 ∙ parts.0, ap (within (node_rate b)) h.0 ∙ parts.1, h.1, ranked a h.2, ranked b h.3)
ranked (pick r c a b) h =
    let inner : Rate = faster (node_rate a) (node_rate b) in
    let parts = within_faster (node_rate a) (node_rate b) in
    let above = within_faster (node_rate c) inner in (
      h.1,
      ap (within (node_rate c)) h.0 ∙ above.0,
      ap (within (node_rate a)) h.0 ∙ within_chain (node_rate a) inner (faster (node_rate c) inner) parts.0 above.1,
      ap (within (node_rate b)) h.0 ∙ within_chain (node_rate b) inner (faster (node_rate c) inner) parts.1 above.1,
      ranked c h.2,
      ranked a h.3,
      ranked b h.4,
    )
ranked (apply r func.I a) h =
    (two (is_init r) (is_control (node_rate a)) (ap is_init h.0) (read_once a h.1), ranked a h.2)
ranked (apply r func.Cpspch a) h =
    (two (within (node_rate a) r) (not (is_audio r)) (within_same (node_rate a) r h.0) (ap not h.1), ranked a h.2)
ranked (apply r func.Int a) h = (within_same (node_rate a) r h.0, ranked a h.1)
ranked (apply r func.Frac a) h = (within_same (node_rate a) r h.0, ranked a h.1)
ranked (apply r func.Abs a) h = (within_same (node_rate a) r h.0, ranked a h.1)
ranked (apply r func.Floor a) h = (within_same (node_rate a) r h.0, ranked a h.1)
ranked e h = tt

-- ---- arguments

abbrev RankedArgs : List typed.Argument → Type 0
RankedArgs [] = Unit {0}
RankedArgs (typed.value e ∷ rest) = Ranked e × RankedArgs rest
RankedArgs (typed.text v ∷ rest) = (is_channel v ≡ true) × RankedArgs rest

args_ranked : (args : List typed.Argument) → All IsRatedArgument args → RankedArgs args
args_ranked [] h = tt
args_ranked (typed.value e ∷ rest) h =
    let first : IsRated e = h 0 (typed.value e) (omega arith) in
    (ranked e first, args_ranked rest (λ k d low. h (suc k) d (omega arith)))
args_ranked (typed.text v ∷ rest) h =
    let first : is_channel v ≡ true = h 0 (typed.text v) (omega arith) in
    (first, args_ranked rest (λ k d low. h (suc k) d (omega arith)))

values_ranked : (args : List typed.Argument) → RankedArgs args → AllRanked (values_of args)
values_ranked [] h = tt
values_ranked (typed.value e ∷ rest) h = (h.0, values_ranked rest h.1)
values_ranked (typed.text v ∷ rest) h = values_ranked rest h.1

either_ranked : (b : Bool) (xs ys : List Expression) → AllRanked xs → AllRanked ys → AllRanked (if b then xs else ys)
either_ranked true xs ys h k = h
either_ranked false xs ys h k = k

settled_ranked : (row : Row) (n : ℕ) (args : List typed.Argument) → RankedArgs args → AllRanked (settled row n args)
settled_ranked row n [] h = tt
settled_ranked row n (typed.value e ∷ rest) h =
    let more = settled_ranked row (n + 1) rest h.1 in
    either_ranked (is_settled (letter_at row n)) (e ∷ settled row (n + 1) rest) (settled row (n + 1) rest) (h.0, more)
    more
settled_ranked row n (typed.text v ∷ rest) h = settled_ranked row (n + 1) rest h.1

moving_ranked : (row : Row) (n : ℕ) (args : List typed.Argument) → RankedArgs args → AllRanked (moving row n args)
moving_ranked row n [] h = tt
moving_ranked row n (typed.value e ∷ rest) h =
    let more = moving_ranked row (n + 1) rest h.1 in
    either_ranked (is_settled (letter_at row n)) (moving row (n + 1) rest) (e ∷ moving row (n + 1) rest) more
    (h.0, more)
moving_ranked row n (typed.text v ∷ rest) h = moving_ranked row (n + 1) rest h.1

-- ---- values that are output, and scheduled notes

sounds : (row : Row) (bound : Rate) (n : ℕ) (args : List typed.Argument)
    → ((k : ℕ) → k < n + length args → letter_at row k ≡ letter.Audio)
    → fit_letters row bound n args ≡ true → AllSound (values_of args)
sounds row bound n [] at h = tt
sounds row bound n (typed.value e ∷ rest) at h =
    let parts = and_parts (fits_letter (letter_at row n) bound (typed.value e)) (fit_letters row bound (n + 1) rest)
    h in (
      ap (λ l. takes l bound (node_rate e)) (sym (at n (omega arith))) ∙ parts.0,
      sounds row bound (n + 1) rest (λ k low. at k (omega arith)) parts.1,
    )
sounds row bound n (typed.text v ∷ rest) at h =
    let parts = and_parts (fits_letter (letter_at row n) bound (typed.text v)) (fit_letters row bound (n + 1) rest) h in
    absurd (let no : false ≡ true = ap is_text (sym (at n (omega arith))) ∙ parts.0 in cc)

out_letter : (k : ℕ) → letter_at (row_of op.Out) k ≡ letter.Audio
out_letter zero = refl
out_letter (suc k) = refl

outs_letter : (k : ℕ) → k < 2 → letter_at (row_of op.Outs) k ≡ letter.Audio
outs_letter (suc (suc k)) h = absurd (omega arith)
outs_letter a h = refl

asked : (row : Row) (bound : Rate) (n : ℕ) (args : List typed.Argument) → ((k : ℕ) → letter_at row k ≡ letter.Init)
    → fit_letters row bound n args ≡ true → AllInit (values_of args) × (length (values_of args) ≡ length args)
asked row bound n [] at h = (tt, refl)
asked row bound n (typed.value e ∷ rest) at h =
    let parts = and_parts (fits_letter (letter_at row n) bound (typed.value e)) (fit_letters row bound (n + 1) rest)
    h in
    let more = asked row bound (n + 1) rest at parts.1 in
    let here : is_init (node_rate e) ≡ true = ap (λ l. takes l bound (node_rate e)) (sym (at n)) ∙ parts.0 in
    ((init_is (node_rate e) here, more.0), ap suc more.1)
asked row bound n (typed.text v ∷ rest) at h =
    let parts = and_parts (fits_letter (letter_at row n) bound (typed.text v)) (fit_letters row bound (n + 1) rest) h in
    absurd (let no : false ≡ true = ap is_text (sym (at n)) ∙ parts.0 in cc)

ask_letter : (k : ℕ) → letter_at (row_of op.Schedule) k ≡ letter.Init
ask_letter (suc (suc (suc k))) = refl
ask_letter k = refl

ask_ranked : (bound : Rate) (args : List typed.Argument) → RankedArgs args
    → takes_count (row_of op.Schedule) (length args) ≡ true
    → fit_letters (row_of op.Schedule) bound 0 args ≡ true → RankedStmt (ask (values_of args))
ask_ranked bound args h count letters =
    let all = asked (row_of op.Schedule) bound 0 args ask_letter letters in
    let many : 3 ≤ length args = leb-true 3 (length args) (and_parts (nat_le 3 (length args)) true count).0 in
    let same = all.1 in
    (omega arith, all.0, values_ranked args h)

even_letter : (k : ℕ) → k % 2 ≡ 0 → letter_at (row_of op.Outch) k ≡ letter.Control
even_letter zero h = refl
even_letter (suc zero) h = absurd (cc)
even_letter (suc (suc k)) h =
    ap (λ b. if b then letter.Control else letter.Audio) (eq-eqb ((suc (suc k) - 2) % 2) 0 (omega arith))

odd_letter : (k : ℕ) → k % 2 ≡ 1 → letter_at (row_of op.Outch) k ≡ letter.Audio
odd_letter zero h = absurd (cc)
odd_letter (suc zero) h = refl
odd_letter (suc (suc k)) h =
    ap (λ b. if b then letter.Control else letter.Audio) (ne_eqb ((suc (suc k) - 2) % 2) 0 (λ e. absurd (omega arith)))

out_pairs : (bound : Rate) (n : ℕ) (args : List typed.Argument) → n % 2 ≡ 0
    → fit_letters (row_of op.Outch) bound n args ≡ true → Paired (values_of args)
out_pairs bound n (typed.text v ∷ rest) even h =
    let parts = and_parts (fits_letter (letter_at (row_of op.Outch) n) bound (typed.text v))
    (fit_letters (row_of op.Outch) bound (n + 1) rest) h in
    absurd (let no : false ≡ true = ap is_text (sym (even_letter n even)) ∙ parts.0 in cc)
out_pairs bound n (typed.value c ∷ (typed.text v ∷ rest)) even h =
    let parts = and_parts (fits_letter (letter_at (row_of op.Outch) n) bound (typed.value c))
    (fit_letters (row_of op.Outch) bound (n + 1) (typed.text v ∷ rest)) h in
    let more = and_parts (fits_letter (letter_at (row_of op.Outch) (n + 1)) bound (typed.text v))
    (fit_letters (row_of op.Outch) bound (n + 1 + 1) rest) parts.1 in
    absurd (let no : false ≡ true = ap is_text (sym (odd_letter (n + 1) (omega arith))) ∙ more.0 in cc)
out_pairs bound n (typed.value c ∷ (typed.value e ∷ rest)) even h =
    let parts = and_parts (fits_letter (letter_at (row_of op.Outch) n) bound (typed.value c))
    (fit_letters (row_of op.Outch) bound (n + 1) (typed.value e ∷ rest)) h in
    let more = and_parts (fits_letter (letter_at (row_of op.Outch) (n + 1)) bound (typed.value e))
    (fit_letters (row_of op.Outch) bound (n + 1 + 1) rest) parts.1 in
    let held : (within (node_rate c) bound && not (is_audio (node_rate c))) ≡ true =
    ap (λ l. takes l bound (node_rate c)) (sym (even_letter n even)) ∙ parts.0 in
    let sound : is_audio (node_rate e) ≡ true =
    ap (λ l. takes l bound (node_rate e)) (sym (odd_letter (n + 1) (omega arith))) ∙ more.0 in (
      no_true (is_audio (node_rate c)) (and_parts (within (node_rate c) bound) (not (is_audio (node_rate c))) held).1,
      sound,
      out_pairs bound (n + 1 + 1) rest (omega arith) more.1,
    )
out_pairs bound n a even h = tt

-- ---- channels

channel_within : (r : Rate) (c : Variable) → is_channel c ≡ true → both_sound r (var_rate c) ≡ true
    → within r (var_rate c) ≡ true
channel_within rate.Init (Global g) h k = init_within (res_rate g)
channel_within rate.Control (Global (res.Control n)) h k = refl
channel_within rate.Control (Global (res.Sound n)) h k = refl
channel_within rate.Audio (Global g) h k = sound_within (res_rate g) k
  where
    sound_within : (q : Rate) → is_audio q ≡ true → within rate.Audio q ≡ true
    sound_within rate.Audio h = refl
    sound_within q h = absurd (cc)
channel_within r c h k = absurd (cc)

channel_ranked : (r : Rate) (c : Variable) → is_channel c ≡ true → within r (var_rate c) ≡ true → Ranked (var r c)
channel_ranked r (Local q n) h k = absurd (cc)
channel_ranked r (Global g) h k = takes_it r (Global g) (channel_holds (Global g) h) k

sound_above : (q r : Rate) → is_audio q ≡ true → within r q ≡ true
sound_above rate.Audio r h = audio_above r
sound_above a r h = absurd (cc)

-- ---- calls

given_to : (b : Bool) (r q : Rate) → r ≡ (if b then rate.Init else q) → within r q ≡ true
given_to true r q h = ap (λ y. within y q) h ∙ init_within q
given_to false r q h = ap (λ y. within y q) h ∙ within_self q

unit_given : (row : Row) (r : Rate) (vs : List Variable) (args : List typed.Argument)
    → list_all (may_give row) vs ≡ true → r ≡ done_at row.shape vs args → GivenTo r vs
unit_given row r [] args k h = tt
unit_given row r (v ∷ vs) args k h =
    takes_it r v (given_holds row v vs k) (given_to (is_starting row.shape) r (var_rate v) h)

all_init : (es : List Expression) → stills es ≡ true → AllInit es
all_init [] h = tt
all_init (e ∷ es) h =
    let parts = and_parts (is_init (node_rate e)) (stills es) h in
    (init_is (node_rate e) parts.0, all_init es parts.1)

take_rated : (ls : List Letter) (bound : Rate) (es : List Expression)
    → take_all ls bound (rated es) ≡ take_rates ls bound es
take_rated [] bound [] = refl
take_rated [] bound (e ∷ es) = refl
take_rated (l ∷ ls) bound [] = refl
take_rated (l ∷ ls) bound (e ∷ es) = ap₂ ◌&&◌ (ap (takes l bound) (local_rate (node_rate e))) (take_rated ls bound es)

run_ranked : (s : Setting) (r : Rate) (vs : List Variable) (opcode : Opcode) (args : List typed.Argument)
    → is_run (row_of opcode).shape ≡ true
    → takes_count (row_of opcode) (length args) ≡ true → fit_letters (row_of opcode) (bound_by vs) 0 args ≡ true
    → IsRatedCall s r vs opcode args → RankedRun r vs opcode (moving (row_of opcode) 0 args)
run_ranked s r vs opcode args runs count letters h =
    let xs : List Expression = moving (row_of opcode) 0 args in
    let fits = run_fits opcode (bound_by vs) args runs count letters in
    let bound : bound_by vs ≡ bound_at (row_of opcode) r = same_bound s r vs opcode args h runs in
    record {
      moving = take_rated (moving_letters (row_of opcode)) (bound_at (row_of opcode) r) xs
          ∙ subst (λ b. take_rates (moving_letters (row_of opcode)) b xs ≡ true) bound fits.moving;
      runs = may_run s r vs opcode args h runs;
      given = unit_given (row_of opcode) r vs args h.given h.done;
      parts = moving_ranked (row_of opcode) 0 args (args_ranked args h.parts);
    }

unit_ranked : (s : Setting) (r : Rate) (vs : List Variable) (opcode : Opcode) (args : List typed.Argument)
    → is_unit (row_of opcode).shape ≡ true
    → is_run (row_of opcode).shape ≡ true → takes_count (row_of opcode) (length args) ≡ true
    → fit_letters (row_of opcode) (bound_by vs) 0 args ≡ true → IsRatedCall s r vs opcode args
    → RankedUnit r vs opcode (moving (row_of opcode) 0 args) (settled (row_of opcode) 0 args)
unit_ranked s r vs opcode args one runs count letters h =
    let fits = run_fits opcode (bound_by vs) args runs count letters in
    record {
      is_one = one;
      count = fits.count;
      settled = all_init (settled (row_of opcode) 0 args) fits.settled;
      run = run_ranked s r vs opcode args runs count letters h;
      settled_parts = settled_ranked (row_of opcode) 0 args (args_ranked args h.parts);
    }

store_ranked : (s : Setting) (r : Rate) (args : List typed.Argument) → IsRatedCall s r [] op.Tablew args
    → RankedStore r (values_of args) (settled (row_of op.Tablew) 0 args)
store_ranked s r args h =
    let fits = store_fits r args h.count h.letters h.even h.done in
    let parts = args_ranked args h.parts in
    record {
      stores = fits.stores;
      settled = all_init (settled (row_of op.Tablew) 0 args) fits.still;
      single = fits.single;
      parts = values_ranked args parts;
      settled_parts = settled_ranked (row_of op.Tablew) 0 args parts;
    }

none_given : (v : Variable) (vs : List Variable) → length (v ∷ vs) ≡ 0 → ⊥
none_given v vs h = omega arith

init_call : (spaces : Spaces) (s : Setting) (r : Rate) (v : Variable) (vs : List Variable) (args : List typed.Argument)
    → IsRatedCall s r (v ∷ vs) op.Init args → RankedStmt (core_call spaces r (v ∷ vs) op.Init shape.Init args)
init_call spaces s r v vs [] h = absurd (let no : false ≡ true = h.count in cc)
init_call spaces s r v vs (typed.text c ∷ rest) h = absurd (let no : false ≡ true = h.letters in cc)
init_call spaces s r v vs (typed.value e ∷ rest) h =
    let fits = and_parts (is_init (node_rate e)) (fit_letters (row_of op.Init) (bound_by (v ∷ vs)) 1 rest) h.letters in
    let low : within (node_rate e) (var_rate v) ≡ true =
    ap (λ y. within y (var_rate v)) (init_is (node_rate e) fits.0) ∙ init_within (var_rate v) in (
      takes_it (node_rate e) v (given_holds (row_of op.Init) v vs h.given) low,
      (args_ranked (typed.value e ∷ rest) h.parts).0,
    )

get_call : (spaces : Spaces) (s : Setting) (r : Rate) (v : Variable) (vs : List Variable) (args : List typed.Argument)
    → IsRatedCall s r (v ∷ vs) op.Chnget args → RankedStmt (core_call spaces r (v ∷ vs) op.Chnget shape.ChannelGet args)
get_call spaces s r v vs [] h = absurd (let no : false ≡ true = h.count in cc)
get_call spaces s r v vs (typed.value e ∷ rest) h = absurd (let no : false ≡ true = h.letters in cc)
get_call spaces s r v vs (typed.text c ∷ rest) h =
    let channel = (args_ranked (typed.text c ∷ rest) h.parts).0 in
    let is : r ≡ var_rate v = h.done in (
      takes_it r v (given_holds (row_of op.Chnget) v vs h.given)
          (ap (λ y. within y (var_rate v)) is ∙ within_self (var_rate v)),
      channel_ranked r c channel (channel_within r c channel (ap (λ y. both_sound y (var_rate c)) is ∙ h.suits)),
    )

put_call : (spaces : Spaces) (s : Setting) (r : Rate) (args : List typed.Argument) → IsRatedCall s r [] op.Chnset args
    → RankedStmt (core_call spaces r [] op.Chnset shape.ChannelPut args)
put_call spaces s r (typed.text c ∷ rest) h = absurd (let no : false ≡ true = h.letters in cc)
put_call spaces s r (typed.value e ∷ (typed.value d ∷ rest)) h = absurd (let no : false ≡ true = h.letters in cc)
put_call spaces s r (typed.value e ∷ (typed.text c ∷ rest)) h =
    let parts = args_ranked (typed.value e ∷ (typed.text c ∷ rest)) h.parts in
    (takes_it (node_rate e) c (channel_holds c parts.1.0) (channel_within (node_rate e) c parts.1.0 h.suits), parts.0)
put_call spaces s r a h = absurd (let no : false ≡ true = h.count in cc)

mix_call : (spaces : Spaces) (s : Setting) (r : Rate) (args : List typed.Argument) → IsRatedCall s r [] op.Chnmix args
    → RankedStmt (core_call spaces r [] op.Chnmix shape.ChannelMix args)
mix_call spaces s r (typed.text c ∷ rest) h = absurd (let no : false ≡ true = h.letters in cc)
mix_call spaces s r (typed.value e ∷ (typed.value d ∷ rest)) h =
    absurd (let no : false ≡ true = (and_parts (is_audio (node_rate e)) false h.letters).1 in cc)
mix_call spaces s r (typed.value e ∷ (typed.text c ∷ rest)) h =
    let parts = args_ranked (typed.value e ∷ (typed.text c ∷ rest)) h.parts in
    let above : within rate.Audio (var_rate c) ≡ true = sound_above (var_rate c) rate.Audio h.suits in (
      takes_it rate.Audio c (channel_holds c parts.1.0) above,
      (refl, audio_above (node_rate e), refl, channel_ranked rate.Audio c parts.1.0 above, parts.0),
    )
mix_call spaces s r a h = absurd (let no : false ≡ true = h.count in cc)

clear_call : (spaces : Spaces) (s : Setting) (r : Rate) (args : List typed.Argument)
    → IsRatedCall s r [] op.Chnclear args → RankedStmt (core_call spaces r [] op.Chnclear shape.ChannelClear args)
clear_call spaces s r [] h = absurd (let no : false ≡ true = h.count in cc)
clear_call spaces s r (typed.value e ∷ rest) h = absurd (let no : false ≡ true = h.letters in cc)
clear_call spaces s r (typed.text c ∷ rest) h =
    let channel = (args_ranked (typed.text c ∷ rest) h.parts).0 in
    (takes_it rate.Init c (channel_holds c channel) (init_within (var_rate c)), tt)

two_sounds : (n : ℕ) → takes_count (row_of op.Outs) n ≡ true → n ≤ 2
two_sounds n h =
    let parts = and_parts (nat_le 2 n) ((n - 2) == 0) h in
    let low = eqb-true (n - 2) 0 parts.1 in
    omega arith

call_ranked : (spaces : Spaces) (s : Setting) (r : Rate) (vs : List Variable) (opcode : Opcode)
    (args : List typed.Argument) → IsRatedCall s r vs opcode args
    → RankedStmt (core_call spaces r vs opcode (row_of opcode).shape args)
call_ranked spaces s r [] op.Init args h = absurd (let no : 0 ≡ 1 = h.results in omega arith)
call_ranked spaces s r (v ∷ vs) op.Init args h = init_call spaces s r v vs args h
call_ranked spaces s r [] op.Out args h = (
  sounds (row_of op.Out) rate.Audio 0 args (λ k low. out_letter k) h.letters,
  values_ranked args
      (args_ranked args h.parts),
)
call_ranked spaces s r (v ∷ vs) op.Out args h = absurd (none_given v vs h.results)
call_ranked spaces s r [] op.Outs args h =
    let few = two_sounds (length args) h.count in (
      sounds (row_of op.Outs) rate.Audio 0 args (λ k low. outs_letter k (omega arith)) h.letters,
      values_ranked args (args_ranked args h.parts),
    )
call_ranked spaces s r (v ∷ vs) op.Outs args h = absurd (none_given v vs h.results)
call_ranked spaces s r [] op.Outch args h =
    (out_pairs rate.Audio 0 args refl h.letters, values_ranked args (args_ranked args h.parts))
call_ranked spaces s r (v ∷ vs) op.Outch args h = absurd (none_given v vs h.results)
call_ranked spaces s r [] op.Turnoff args h = tt
call_ranked spaces s r (v ∷ vs) op.Turnoff args h = absurd (none_given v vs h.results)
call_ranked spaces s r [] op.Zakinit args h = tt
call_ranked spaces s r (v ∷ vs) op.Zakinit args h = absurd (none_given v vs h.results)
call_ranked spaces s r [] op.Chnget args h = absurd (let no : 0 ≡ 1 = h.results in omega arith)
call_ranked spaces s r (v ∷ vs) op.Chnget args h = get_call spaces s r v vs args h
call_ranked spaces s r [] op.Chnset args h = put_call spaces s r args h
call_ranked spaces s r (v ∷ vs) op.Chnset args h = absurd (none_given v vs h.results)
call_ranked spaces s r [] op.Chnmix args h = mix_call spaces s r args h
call_ranked spaces s r (v ∷ vs) op.Chnmix args h = absurd (none_given v vs h.results)
call_ranked spaces s r [] op.Chnclear args h = clear_call spaces s r args h
call_ranked spaces s r (v ∷ vs) op.Chnclear args h = absurd (none_given v vs h.results)
call_ranked spaces s r [] op.Schedule args h = ask_ranked rate.Audio args (args_ranked args h.parts) h.count h.letters
call_ranked spaces s r (v ∷ vs) op.Schedule args h = absurd (none_given v vs h.results)
call_ranked spaces s r [] op.EventI args h = ask_ranked rate.Audio args (args_ranked args h.parts) h.count h.letters
call_ranked spaces s r (v ∷ vs) op.EventI args h = absurd (none_given v vs h.results)
call_ranked spaces s r [] op.Tablew args h = store_ranked s r args h
call_ranked spaces s r (v ∷ vs) op.Tablew args h = absurd (none_given v vs h.results)
call_ranked spaces s r vs op.Zkr args h = (refl, run_ranked s r vs op.Zkr args refl h.count h.letters h)
call_ranked spaces s r vs op.Zar args h = (refl, run_ranked s r vs op.Zar args refl h.count h.letters h)
call_ranked spaces s r vs op.Zkw args h = (refl, run_ranked s r vs op.Zkw args refl h.count h.letters h)
call_ranked spaces s r vs op.Zaw args h = (refl, run_ranked s r vs op.Zaw args refl h.count h.letters h)
call_ranked spaces s r vs op.Zawm args h = (refl, run_ranked s r vs op.Zawm args refl h.count h.letters h)
call_ranked spaces s r vs op.Zkcl args h = (refl, run_ranked s r vs op.Zkcl args refl h.count h.letters h)
call_ranked spaces s r vs op.Zacl args h = (refl, run_ranked s r vs op.Zacl args refl h.count h.letters h)
call_ranked spaces s r vs opcode args h = unit_ranked s r vs opcode args refl refl h.count h.letters h

-- ---- statements

set_ranked : (s : Setting) (r : Rate) (v : Variable) (e : Expression) → IsRatedSet s r v e → RankedSet v e
set_ranked s r v e h =
    (takes_it (node_rate e) v (variable_holds v h.1) (ap (within (node_rate e)) (sym h.0) ∙ h.2), ranked e h.4)

mutual
  stmt_ranked : (spaces : Spaces) (s : Setting) (x : typed.Statement) → IsRatedStatement s x
      → RankedStmt (core_stmt spaces x)
  stmt_ranked spaces s (typed.set line r v e) h = set_ranked s r v e h
  stmt_ranked spaces s (typed.call line r vs opcode args) h = call_ranked spaces s r vs opcode args h
  stmt_ranked spaces s (typed.choose line r list) h = arms_ranked spaces s list h.1

  pub block_ranked : (spaces : Spaces) (s : Setting) (b : typed.Block) → IsRatedBlock s b → RankedBlock (core spaces b)
  block_ranked spaces s typed.no_stmt h = tt
  block_ranked spaces s (typed.andthen x rest) h = (stmt_ranked spaces s x h.0, block_ranked spaces s rest h.1)

  arms_ranked : (spaces : Spaces) (s : Setting) (list : typed.Arms) → IsRatedArms s list
      → RankedArms (core_arms spaces list)
  arms_ranked spaces s (typed.otherwise b) h = block_ranked spaces s b h
  arms_ranked spaces s (typed.arm c b rest) h =
      (h.1, ranked c h.0, block_ranked spaces s b h.3, arms_ranked spaces s rest h.4)

-- ---- channels

few_values : (args : List typed.Argument) → length (values_of args) ≤ length args
few_values [] = omega arith
few_values (typed.value e ∷ rest) = let h = few_values rest in omega arith
few_values (typed.text v ∷ rest) = let h = few_values rest in omega arith

narrow_call : (s : Setting) (spaces : Spaces) (r : Rate) (vs : List Variable) (opcode : Opcode) (sh : Shape)
    (args : List typed.Argument)
    → goes_beyond s sh args ≡ false → Narrow s.channels (core_call spaces r vs opcode sh args)
narrow_call s spaces r (v ∷ vs) opcode shape.Init (typed.value e ∷ args) h = tt
narrow_call s spaces r vs opcode shape.Out args h =
    let few = few_values args in
    let low = ltb-false s.channels (length args) h in
    omega arith
narrow_call s spaces r (v ∷ vs) opcode shape.ChannelGet (typed.text c ∷ args) h = tt
narrow_call s spaces r vs opcode shape.ChannelPut (typed.value e ∷ typed.text c ∷ args) h = tt
narrow_call s spaces r vs opcode shape.ChannelMix (typed.value e ∷ typed.text c ∷ args) h = tt
narrow_call s spaces r vs opcode shape.ChannelClear (typed.text c ∷ args) h = tt
narrow_call s spaces r vs opcode sh args h = tt

mutual
  narrow_stmt : (spaces : Spaces) (s : Setting) (x : typed.Statement) → IsRatedStatement s x
      → Narrow s.channels (core_stmt spaces x)
  narrow_stmt spaces s (typed.set line r v e) h = tt
  narrow_stmt spaces s (typed.call line r vs opcode args) h =
      narrow_call s spaces r vs opcode (row_of opcode).shape args h.channels
  narrow_stmt spaces s (typed.choose line r list) h = narrow_arms spaces s list h.1

  pub narrow_block : (spaces : Spaces) (s : Setting) (b : typed.Block) → IsRatedBlock s b
      → NarrowBlock s.channels (core spaces b)
  narrow_block spaces s typed.no_stmt h = tt
  narrow_block spaces s (typed.andthen x rest) h = (narrow_stmt spaces s x h.0, narrow_block spaces s rest h.1)

  narrow_arms : (spaces : Spaces) (s : Setting) (list : typed.Arms) → IsRatedArms s list
      → NarrowArms s.channels (core_arms spaces list)
  narrow_arms spaces s (typed.otherwise b) h = narrow_block spaces s b h
  narrow_arms spaces s (typed.arm c b rest) h = (narrow_block spaces s b h.3, narrow_arms spaces s rest h.4)
