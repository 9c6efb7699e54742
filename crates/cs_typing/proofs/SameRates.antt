-- Renaming to names of the same rates: rates, kinds and uses are unchanged, and typed forms differ only in
-- their variables.
use Rattle.std.proofs.Common.{◌≡◌, ◌∙◌, ℕ, ◌+◌, not, ◌&&◌, ◌||◌, if◌then◌else◌, List, [], ◌∷◌, ◌++◌, map, Option, Some}
use Rattle.std.proofs.Common.{None, ◌==◌, nat_lt, refl, ap}
use Rattle.std.proofs.lemmas.List.{length-map}
use Rattle.std.specs.List.{list_any, list_all}
use Rattle.cs_base.specs.Rates.{faster, same_rate, is_init, is_control, is_audio}
use Rattle.cs_base.specs.declared.resource.Rate.{Rate}
use Rattle.cs_words.specs.{Signs.is_arithmetic, Signs.is_logic, Names.name_rate, declared.catalogue.Letter.Letter}
use Rattle.cs_words.specs.{declared.catalogue.Shape.Shape, declared.catalogue.Opcode.Opcode}
use Rattle.cs_words.specs.Catalogue.{Row, letter_at, takes, row_of, takes_count, result_count}
use Rattle.cs_grammar.specs.Tree.{Expression, var, neg, pair, pick, apply, Argument, value, text}
use Rattle.cs_typed.specs.Places.{stands_outside, is_starting, is_writing}
use Rattle.cs_typed.specs.declared.setting.Setting.{Setting}
use Rattle.cs_typing.specs.Calls.{fits, all_fit, bound_of, may_result, is_sound, any_sound, is_even, kind_of}
use Rattle.cs_typing.specs.Calls.{channel_use, text_of, is_too_wide, rates_agree, counts_agree, is_still, plain_rate}
use Rattle.cs_typing.specs.Calls.{call_rate, argument_by, arguments_by, row_by, call_by}
use Rattle.cs_typing.specs.Expressions.{applied_rate, is_control_name, is_value, is_condition, rate_of, Variables}
use Rattle.cs_typing.specs.{Expressions.expression_by, declared.known.Channel.Channel, Known.Shared}
use Rattle.cs_grammar.specs.{Renaming.renamed_expression, Renaming.renamed_argument, declared.tree.Callee.Callee}
use Rattle.cs_base.specs.declared.resource.Rate.TheVariants as rate
use Rattle.cs_words.specs.declared.catalogue.Shape.TheVariants as shape
use Rattle.cs_words.specs.declared.word.Func.TheVariants as func
use Rattle.cs_grammar.specs.declared.tree.Callee.TheVariants as callee
use Rattle.cs_typed.specs.TypedTree as typed

-- a renaming to names of the same rates
pub record KeepsRates (own : List ℕ → List ℕ) : Type 0 where
  pub rate : (x : List ℕ) → name_rate (own x) ≡ name_rate x

module _ {own : List ℕ → List ℕ} (same : KeepsRates own) where
  pub rate_of_kept : (e : Expression) → rate_of (renamed_expression own e) ≡ rate_of e
  rate_of_kept (var name) = same.rate name
  rate_of_kept (neg a) = rate_of_kept a
  rate_of_kept (pair o a b) = λ i. faster (rate_of_kept a i) (rate_of_kept b i)
  rate_of_kept (pick c a b) =
      λ i. faster (rate_of_kept c i) (faster (rate_of_kept a i) (rate_of_kept b i))
  rate_of_kept (apply g a) = ap (applied_rate g) (rate_of_kept a)
  rate_of_kept e = refl

  pub control_name_kept : (e : Expression) → is_control_name (renamed_expression own e) ≡ is_control_name e
  control_name_kept (var name) = ap is_control (same.rate name)
  control_name_kept e = refl

  mutual
    pub value_kept : (e : Expression) → is_value (renamed_expression own e) ≡ is_value e
    value_kept (neg a) = value_kept a
    value_kept (pair o a b) = λ i. is_arithmetic o && value_kept a i && value_kept b i
    value_kept (pick c a b) = λ i. condition_kept c i && value_kept a i && value_kept b i
    value_kept (apply func.I a) = control_name_kept a
    value_kept (apply func.Cpspch a) = λ i. value_kept a i && not (is_audio (rate_of_kept a i))
    value_kept (apply g a) = value_kept a
    value_kept e = refl

    pub condition_kept : (e : Expression) → is_condition (renamed_expression own e) ≡ is_condition e
    condition_kept (pair o a b) = λ i. if is_logic o then condition_kept a i && condition_kept b i
        else not (is_arithmetic o) && (value_kept a i && value_kept b i
        && not (is_audio (faster (rate_of_kept a i) (rate_of_kept b i))))
    condition_kept e = refl

  pub fits_kept : (l : Letter) (q : Rate) (a : Argument) → fits l q (renamed_argument own a) ≡ fits l q a
  fits_kept l q (value e) = λ i. value_kept e i && takes l q (rate_of_kept e i)
  fits_kept l q (text name) = refl

  pub all_fit_kept : (row : Row) (q : Rate) (k : ℕ) (args : List Argument)
      → all_fit row q k (map (renamed_argument own) args) ≡ all_fit row q k args
  all_fit_kept row q k [] = refl
  all_fit_kept row q k (a ∷ args) =
      λ i. fits_kept (letter_at row k) q a i && all_fit_kept row q (k + 1) args i

  pub bound_kept : (results : List (List ℕ)) → bound_of (map own results) ≡ bound_of results
  bound_kept [] = refl
  bound_kept (x ∷ results) = same.rate x

  pub results_kept : (row : Row) (results : List (List ℕ))
      → list_all (may_result row) (map own results) ≡ list_all (may_result row) results
  results_kept row [] = refl
  results_kept row (x ∷ results) =
      λ i. list_any (same_rate (same.rate x i)) row.results && results_kept row results i

  pub sound_kept : (a : Argument) → is_sound (renamed_argument own a) ≡ is_sound a
  sound_kept (value e) = ap is_audio (rate_of_kept e)
  sound_kept (text name) = refl

  pub any_sound_kept : (args : List Argument) → any_sound (map (renamed_argument own) args) ≡ any_sound args
  any_sound_kept [] = refl
  any_sound_kept (a ∷ args) = λ i. sound_kept a i || any_sound_kept args i

  pub still_kept : (a : Argument) → is_still (renamed_argument own a) ≡ is_still a
  still_kept (value e) = ap is_init (rate_of_kept e)
  still_kept (text name) = refl

  pub all_still_kept : (args : List Argument)
      → list_all is_still (map (renamed_argument own) args) ≡ list_all is_still args
  all_still_kept [] = refl
  all_still_kept (a ∷ args) = λ i. still_kept a i && all_still_kept args i

  pub even_kept : (sh : Shape) (args : List Argument) → is_even sh (map (renamed_argument own) args) ≡ is_even sh args
  even_kept shape.Store (a ∷ b ∷ args) =
      λ i. if sound_kept a i then sound_kept b i else not (sound_kept b i)
  even_kept sh args = refl

  pub use_kept : (sh : Shape) (results : List (List ℕ)) (args : List Argument)
      → channel_use sh (map own results) (map (renamed_argument own) args) ≡ channel_use sh results args
  use_kept shape.ChannelGet results args = ap (λ q. Some (kind_of (is_audio q))) (bound_kept results)
  use_kept shape.ChannelPut results args = ap (λ b. Some (kind_of b)) (any_sound_kept args)
  use_kept sh results args = refl

  pub rates_kept : (s : Setting) (row : Row) (results : List (List ℕ)) (args : List Argument)
      → rates_agree s row (map own results) (map (renamed_argument own) args) ≡ rates_agree s row results args
  rates_kept s row results args =
      ap (λ q. all_fit row q 0 (map (renamed_argument own) args) && list_all (may_result row) (map own results)
      && is_even row.shape (map (renamed_argument own) args) && (s.inside || stands_outside row.shape))
      (bound_kept results) ∙ λ i. all_fit_kept row (bound_of results) 0 args i && results_kept row results i
      && even_kept row.shape args i && (s.inside || stands_outside row.shape)

  pub wide_kept : (s : Setting) (sh : Shape) (args : List Argument)
      → is_too_wide s sh (map (renamed_argument own) args) ≡ is_too_wide s sh args
  wide_kept s shape.Out args = ap (nat_lt s.channels) (length-map args (renamed_argument own))
  wide_kept s sh args = refl

  pub text_kept : (args : List Argument) → text_of (map (renamed_argument own) args) ≡ text_of args
  text_kept [] = refl
  text_kept (value e ∷ args) = text_kept args
  text_kept (text name ∷ args) = refl

  pub counts_kept : (row : Row) (results : List (List ℕ)) (args : List Argument)
      → counts_agree row (map own results) (map (renamed_argument own) args) ≡ counts_agree row results args
  counts_kept row results args =
      λ i. length-map results own i == result_count row && takes_count row (length-map args (renamed_argument own) i)

  pub plain_rate_kept : (sh : Shape) (args : List Argument)
      → plain_rate sh (map (renamed_argument own) args) ≡ plain_rate sh args
  plain_rate_kept sh args =
      λ i. if is_writing sh && all_still_kept args i then rate.Init else
      (if any_sound_kept args i then rate.Audio else rate.Control)

  pub call_rate_kept : (sh : Shape) (results : List (List ℕ)) (args : List Argument)
      → call_rate sh (map own results) (map (renamed_argument own) args) ≡ call_rate sh results args
  call_rate_kept sh [] args = ap (λ q. if is_starting sh then rate.Init else q) (plain_rate_kept sh args)
  call_rate_kept sh (x ∷ results) args = ap (λ q. if is_starting sh then rate.Init else q) (same.rate x)

  -- the typed form of renamed text is the typed form with the variables of the new names
  pub expression_renamed : (v : Variables) (e : Expression)
      → expression_by v (renamed_expression own e) ≡ expression_by (λ x. v (own x)) e
  expression_renamed v (var x) = ap (λ r. typed.var r (v (own x))) (same.rate x)
  expression_renamed v (neg a) = λ i. typed.neg (rate_of_kept (neg a) i) (expression_renamed v a i)
  expression_renamed v (pair o a b) =
      λ i. typed.pair (rate_of_kept (pair o a b) i) o (expression_renamed v a i) (expression_renamed v b i)
  expression_renamed v (pick c a b) =
      λ i. typed.pick (rate_of_kept (pick c a b) i) (expression_renamed v c i) (expression_renamed v a i)
      (expression_renamed v b i)
  expression_renamed v (apply g a) = λ i. typed.apply (rate_of_kept (apply g a) i) g (expression_renamed v a i)
  expression_renamed v e = refl

  argument_renamed : (shared : Shared) (v : Variables) (role : Option Channel) (a : Argument)
      → argument_by shared v role (renamed_argument own a) ≡ argument_by shared (λ x. v (own x)) role a
  argument_renamed shared v role (value e) = ap (λ x. typed.value x ∷ []) (expression_renamed v e)
  argument_renamed shared v None (text name) = refl
  argument_renamed shared v (Some kind) (text name) = refl

  arguments_renamed : (shared : Shared) (v : Variables) (role : Option Channel) (args : List Argument)
      → arguments_by shared v role (map (renamed_argument own) args) ≡ arguments_by shared (λ x. v (own x)) role args
  arguments_renamed shared v role [] = refl
  arguments_renamed shared v role (a ∷ args) =
      λ i. argument_renamed shared v role a i ++ arguments_renamed shared v role args i

  results_renamed : (v : Variables) (results : List (List ℕ)) → map v (map own results) ≡ map (λ x. v (own x)) results
  results_renamed v [] = refl
  results_renamed v (x ∷ results) = ap (λ l. v (own x) ∷ l) (results_renamed v results)

  row_renamed : (line : ℕ) (shared : Shared) (v : Variables) (o : Opcode) (row : Row) (results : List (List ℕ))
      (args : List Argument) → row_by line shared v o row (map own results) (map (renamed_argument own) args)
      ≡ row_by line shared (λ x. v (own x)) o row results args
  row_renamed line shared v o row results args =
      ap (λ role. typed.call line (call_rate row.shape (map own results) (map (renamed_argument own) args))
      (map v (map own results)) o
      (arguments_by shared v role (map (renamed_argument own) args))) (use_kept row.shape results args)
      ∙ λ i. typed.call line (call_rate_kept row.shape results args i) (results_renamed v results i) o
      (arguments_renamed shared v (channel_use row.shape results args) args i)

  pub call_renamed : (line : ℕ) (shared : Shared) (v : Variables) (c : Callee) (results : List (List ℕ))
      (args : List Argument) → call_by line shared v c (map own results) (map (renamed_argument own) args)
      ≡ call_by line shared (λ x. v (own x)) c results args
  call_renamed line shared v (callee.Opcode o) results args = row_renamed line shared v o (row_of o) results args
  call_renamed line shared v (callee.Name name) results args = refl
