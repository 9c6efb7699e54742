-- Facts that hold if a call, an assignment or a condition breaks no rule.
use Rattle.std.proofs.Common.{◌≡◌, ◌==◌, ℕ, Bool, true, false, not, ◌&&◌, ◌||◌, if◌then◌else◌, List, length, Option}
use Rattle.std.proofs.Common.{Some, None, refl}
use Rattle.std.specs.List.{list_all}
use Rattle.std.proofs.lemmas.Bool.{and_parts}
use Rattle.cs_base.specs.{Rates.is_init, declared.fault.OrcKind.OrcKind}
use Rattle.cs_words.specs.Catalogue.{Row, takes_count, result_count}
use Rattle.cs_grammar.specs.Tree.{Argument, Expression}
use Rattle.cs_typed.specs.{Places.stands_outside, declared.setting.Setting.Setting}
use Rattle.cs_typing.specs.Calls.{all_fit, bound_of, may_result, is_even, channel_use, text_of, is_too_wide}
use Rattle.cs_typing.specs.Calls.{all_read_by, rates_agree, counts_agree, row_fault_by}
use Rattle.cs_typing.specs.Expressions.{is_condition, rate_of, reads_by}
use Rattle.cs_typing.specs.{Known.Shared, Known.clashes, Settings.at}
use Rattle.cs_typing.specs.Statements.{condition_fault_by, may_set, set_fault_by}
use Rattle.cs_base.specs.declared.fault.OrcKind.TheVariants as orc

pub record KeepsRules (s : Setting) (g : Shared) (is_known : List ℕ → Bool) (row : Row) (results : List (List ℕ))
    (args : List Argument) : Type 0 where
  pub results_count : (length results == result_count row) ≡ true
  pub args_count : takes_count row (length args) ≡ true
  pub known : all_read_by is_known args ≡ true
  pub fit : all_fit row (bound_of results) 0 args ≡ true
  pub may : list_all (may_result row) results ≡ true
  pub even : is_even row.shape args ≡ true
  pub place : (s.inside || stands_outside row.shape) ≡ true
  pub clash : clashes g (channel_use row.shape results args) (text_of args) ≡ false
  pub width : is_too_wide s row.shape args ≡ false

none_broken : (a b c d e : Bool) → (if not a then Some orc.ArgCount else (if not b then Some orc.Undefined else
    (if not c then Some orc.RateMismatch else
    (if d then Some orc.ChannelRate else (if e then Some orc.OutCount else None))))) ≡ None
    → (a ≡ true) × (b ≡ true) × (c ≡ true) × (d ≡ false) × (e ≡ false)
none_broken true true true false false h = (refl, refl, refl, refl, refl)
none_broken true true true false true h = absurd (cc h)
none_broken true true true true e h = absurd (cc h)
none_broken true true false d e h = absurd (cc h)
none_broken true false c d e h = absurd (cc h)
none_broken false b c d e h = absurd (cc h)

pub keeps_rules : (s : Setting) (g : Shared) (is_known : List ℕ → Bool) (row : Row) (results : List (List ℕ))
    (args : List Argument) → row_fault_by s g is_known row results args ≡ None
    → KeepsRules s g is_known row results args
keeps_rules s g is_known row results args h =
    let role = channel_use row.shape results args in
    let right = none_broken (counts_agree row results args) (all_read_by is_known args)
    (rates_agree s row results args) (clashes g role (text_of args)) (is_too_wide s row.shape args) h in
    let counts = and_parts (length results == result_count row) (takes_count row (length args)) right.0 in
    let fit = all_fit row (bound_of results) 0 args in
    let may = list_all (may_result row) results in
    let outer = and_parts (fit && may && is_even row.shape args) (s.inside || stands_outside row.shape) right.2 in
    let middle = and_parts (fit && may) (is_even row.shape args) outer.0 in
    let inner = and_parts fit may middle.0 in
    record {
      results_count = counts.0;
      args_count = counts.1;
      known = right.1;
      fit = inner.0;
      may = inner.1;
      even = middle.1;
      place = outer.1;
      clash = right.3;
      width = right.4;
    }

-- ---- an assignment, and a condition

pub at_none : (line : ℕ) (k : Option OrcKind) → at line k ≡ None → k ≡ None
at_none line None h = refl
at_none line (Some k) h = absurd (cc h)

two_rules : (b c : Bool)
    → (if not b then Some orc.Undefined else (if not c then Some orc.RateMismatch else None)) ≡ None
    → (b ≡ true) × (c ≡ true)
two_rules true true h = (refl, refl)
two_rules true false h = absurd (cc h)
two_rules false c h = absurd (cc h)

pub keeps_set : (s : Setting) (is_known : List ℕ → Bool) (line : ℕ) (x : List ℕ) (e : Expression)
    → at line (set_fault_by s is_known x e) ≡ None → (reads_by is_known e ≡ true) × (may_set s x e ≡ true)
keeps_set s is_known line x e h =
    two_rules (reads_by is_known e) (may_set s x e) (at_none line (set_fault_by s is_known x e) h)

pub keeps_condition : (s : Setting) (is_known : List ℕ → Bool) (line : ℕ) (e : Expression)
    → at line (condition_fault_by s is_known e) ≡ None
    → (reads_by is_known e ≡ true) × ((is_condition e && (s.inside || is_init (rate_of e))) ≡ true)
keeps_condition s is_known line e h =
    two_rules (reads_by is_known e) (is_condition e && (s.inside || is_init (rate_of e)))
    (at_none line (condition_fault_by s is_known e) h)
