-- A call that uses a channel has one text: the channel's name.
use Rattle.std.proofs.Common.{◌≡◌, ◌∙◌, ℕ, suc, ◌-◌, ◌==◌, Bool, true, false, ◌&&◌, List, [], ◌∷◌, length, nat_le}
use Rattle.std.proofs.Common.{Option, Some, None, arith, refl, sym, ap}
use Rattle.std.proofs.lemmas.{Bool.and_parts, Bool.Decides.nat_tests}
use Rattle.cs_base.specs.{Rates.is_audio, declared.resource.Rate.Rate}
use Rattle.cs_words.specs.{Catalogue.row_of, Catalogue.takes_count, declared.catalogue.Opcode.Opcode}
use Rattle.cs_grammar.specs.Tree.{Argument, value, text}
use Rattle.cs_typing.specs.Calls.{all_fit, channel_use, text_of, arguments_by}
use Rattle.cs_typing.specs.Expressions.{is_value, rate_of, Variables, expression_by}
use Rattle.cs_typing.specs.{Known.Shared, Known.channel_of, declared.known.Channel.Channel}
use Rattle.cs_words.specs.declared.catalogue.Opcode.TheVariants as op
use Rattle.cs_typed.specs.TypedTree as typed

-- each text among the arguments is t
abbrev pub TextsAre : List ℕ → List Argument → Type 0
TextsAre t [] = Unit {0}
TextsAre t (value e ∷ args) = TextsAre t args
TextsAre t (text u ∷ args) = (u ≡ t) × TextsAre t args

-- a call that uses a channel has one text
abbrev pub OneText : Option Channel → List Argument → Type 0
OneText None args = Unit {0}
OneText (Some kind) args = TextsAre (text_of args) args

past_one : (k : ℕ) → (suc (suc k) - 1 == 0) ≡ false
past_one k = grind (arith, nat_tests)

past_two : (k : ℕ) → (suc (suc (suc k)) - 2 == 0) ≡ false
past_two k = grind (arith, nat_tests)

no_second : {A : Type 0} (k : ℕ) → (nat_le 1 (suc (suc k)) && (suc (suc k) - 1 == 0)) ≡ true → A
no_second k h =
    let never : false ≡ true =
    sym (past_one k) ∙ (and_parts (nat_le 1 (suc (suc k))) (suc (suc k) - 1 == 0) h).1 in absurd (cc never)

pub no_third : {A : Type 0} (k : ℕ) → (nat_le 2 (suc (suc (suc k))) && (suc (suc (suc k)) - 2 == 0)) ≡ true → A
no_third k h =
    let never : false ≡ true =
    sym (past_two k) ∙ (and_parts (nat_le 2 (suc (suc (suc k)))) (suc (suc (suc k)) - 2 == 0) h).1 in absurd (cc never)

no_value : {A : Type 0} (a b : Bool) → ((a && false) && b) ≡ true → A
no_value true b h = absurd (cc h)
no_value false b h = absurd (cc h)

second_no_value : {A : Type 0} (a b c : Bool) → (a && ((b && false) && c)) ≡ true → A
second_no_value true b c h = no_value b c h
second_no_value false b c h = absurd (cc h)

pub one_text : (o : Opcode) (b : Rate) (results : List (List ℕ)) (args : List Argument)
    → takes_count (row_of o) (length args) ≡ true → all_fit (row_of o) b 0 args ≡ true
    → OneText (channel_use (row_of o).shape results args) args
one_text op.Chnget b results [] c f = absurd (cc c)
one_text op.Chnget b results (value e ∷ rest) c f = no_value (is_value e) (all_fit (row_of op.Chnget) b 1 rest) f
one_text op.Chnget b results (text t ∷ []) c f = (refl, tt)
one_text op.Chnget b results (text t ∷ a ∷ rest) c f = no_second (length rest) c
one_text op.Chnset b results [] c f = absurd (cc c)
one_text op.Chnset b results (text t ∷ rest) c f = absurd (cc f)
one_text op.Chnset b results (value e ∷ []) c f = absurd (cc c)
one_text op.Chnset b results (value e ∷ value d ∷ rest) c f =
    second_no_value (is_value e && true) (is_value d) (all_fit (row_of op.Chnset) b 2 rest) f
one_text op.Chnset b results (value e ∷ text t ∷ []) c f = (refl, tt)
one_text op.Chnset b results (value e ∷ text t ∷ a ∷ rest) c f = no_third (length rest) c
one_text op.Chnmix b results [] c f = absurd (cc c)
one_text op.Chnmix b results (text t ∷ rest) c f = absurd (cc f)
one_text op.Chnmix b results (value e ∷ []) c f = absurd (cc c)
one_text op.Chnmix b results (value e ∷ value d ∷ rest) c f =
    second_no_value (is_value e && is_audio (rate_of e)) (is_value d) (all_fit (row_of op.Chnmix) b 2 rest) f
one_text op.Chnmix b results (value e ∷ text t ∷ []) c f = (refl, tt)
one_text op.Chnmix b results (value e ∷ text t ∷ a ∷ rest) c f = no_third (length rest) c
one_text op.Chnclear b results [] c f = absurd (cc c)
one_text op.Chnclear b results (value e ∷ rest) c f = no_value (is_value e) (all_fit (row_of op.Chnclear) b 1 rest) f
one_text op.Chnclear b results (text t ∷ []) c f = (refl, tt)
one_text op.Chnclear b results (text t ∷ a ∷ rest) c f = no_second (length rest) c
one_text o b results args c f = tt

-- two lists of channels that have the same channel for a name yield the same arguments
pub texts_same : (g h : Shared) (v : Variables) (kind : Channel) (t : List ℕ)
    → channel_of h kind t ≡ channel_of g kind t
    → (args : List Argument) → TextsAre t args → arguments_by h v (Some kind) args ≡ arguments_by g v (Some kind) args
texts_same g h v kind t e [] one = refl
texts_same g h v kind t e (value a ∷ args) one =
    ap (λ rest. typed.value (expression_by v a) ∷ rest) (texts_same g h v kind t e args one)
texts_same g h v kind t e (text u ∷ args) one =
    let same = ap (channel_of h kind) one.0 ∙ e ∙ sym (ap (channel_of g kind) one.0) in
    λ i. typed.text (same i) ∷ texts_same g h v kind t e args one.1 i

pub plain_same : (g h : Shared) (v : Variables) (args : List Argument)
    → arguments_by h v None args ≡ arguments_by g v None args
plain_same g h v [] = refl
plain_same g h v (value a ∷ args) = ap (λ rest. typed.value (expression_by v a) ∷ rest) (plain_same g h v args)
plain_same g h v (text u ∷ args) = plain_same g h v args
