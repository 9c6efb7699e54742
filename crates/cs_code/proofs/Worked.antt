-- The worked examples are the results of the definitions.
use Rattle.std.proofs.Common.{◌≡◌, ◌*ℤ◌, ℤ, pos, max, List, [], ◌∷◌, refl}
use Rattle.std.proofs.lemmas.List.Elements.{All-nil, All-cons}
use Rattle.std.specs.List.{All}
use Rattle.cs_base.specs.{Numbers.one, declared.spaces.Spaces.Spaces}
use Rattle.cs_ir.specs.{Limits.ops_limit, Registers.at_kind, declared.op.Code.Code, declared.register.Kind.Kind}
use Rattle.cs_typed.specs.{Places.inside, declared.tree.Var.TheVariants.Local}
use Rattle.cs_typed.specs.WellRated.{IsRatedBlock, IsRatedArgument}
use Rattle.cs_code.specs.Examples.{counter, counter_counts, counter_init, counter_perf, terms, terms_counts, terms_perf}
use Rattle.cs_code.specs.Examples.{tone, tone_counts, tone_init, tone_perf, IsMadeOf}
use Rattle.cs_code.specs.Lowered.{IsCodeOf}
use Rattle.cs_code.proofs.Instruments.{made_code}
use Rattle.cs_base.specs.declared.resource.Rate.TheVariants as rate
use Rattle.cs_ir.specs.declared.register.Kind.TheVariants as kind
use Rattle.cs_typed.specs.TypedTree as typed

-- ---- k1 = k1 + 1

counter_rated : IsRatedBlock (inside 1) counter
counter_rated = ((refl, refl, refl, refl, (refl, refl, (refl, refl), refl)), tt)

counter_reached : (k : Kind)
    → at_kind counter_counts.registers k ≡ max (ops_limit k counter_init) (ops_limit k counter_perf)
counter_reached kind.LocalInit = refl
counter_reached a = refl

pub counter_code : (spaces : Spaces) (init perf : Code) → IsMadeOf counter_init counter_counts init
    → IsMadeOf counter_perf counter_counts perf → IsCodeOf spaces 1 counter init perf
counter_code spaces init perf a b =
    made_code spaces (inside 1) counter counter_rated counter_counts counter_init counter_perf
    (record { init_is = refl; perf_is = refl; units_are = refl; reached = counter_reached }) init perf a.0 a.1 b.0 b.1

-- ---- k1 = k1 + k2 + k1 + k2

terms_rated : IsRatedBlock (inside 1) terms
terms_rated = (
  (
    refl,
    refl,
    refl,
    refl,
    (refl, refl, (refl, refl, (refl, refl, (refl, refl), (refl, refl)), (refl, refl)), (refl, refl)),
  ),
  tt,
)

terms_reached : (k : Kind) → at_kind terms_counts.registers k ≡ max (ops_limit k []) (ops_limit k terms_perf)
terms_reached kind.LocalInit = refl
terms_reached a = refl

pub terms_code : (spaces : Spaces) (init perf : Code) → IsMadeOf [] terms_counts init
    → IsMadeOf terms_perf terms_counts perf → IsCodeOf spaces 1 terms init perf
terms_code spaces init perf a b =
    made_code spaces (inside 1) terms terms_rated terms_counts [] terms_perf
    (record { init_is = refl; perf_is = refl; units_are = refl; reached = terms_reached }) init perf a.0 a.1 b.0 b.1

-- ---- a1 oscili k1, 440, 1 and out a1

abbrev sound : typed.Argument
sound = typed.value (typed.var rate.Audio (Local rate.Audio 0))

abbrev level : typed.Argument
level = typed.value (typed.var rate.Control (Local rate.Control 0))

abbrev literal : ℤ → typed.Argument
literal z = typed.value (typed.number rate.Init z)

abbrev inputs : List typed.Argument
inputs = level ∷ literal (pos 440 *ℤ one) ∷ literal one ∷ []

inputs_rated : All IsRatedArgument inputs
inputs_rated =
    All-cons IsRatedArgument level (literal (pos 440 *ℤ one) ∷ literal one ∷ []) (refl, refl)
    (All-cons IsRatedArgument (literal (pos 440 *ℤ one)) (literal one ∷ []) refl
    (All-cons IsRatedArgument (literal one) [] refl (All-nil IsRatedArgument)))

tone_rated : IsRatedBlock (inside 1) tone
tone_rated = (
  record {
    done = refl;
    results = refl;
    given = refl;
    count = refl;
    letters = refl;
    parts = inputs_rated;
    channels = refl;
    suits = refl;
    even = refl;
    place = refl;
  },
  (
    record {
      done = refl;
      results = refl;
      given = refl;
      count = refl;
      letters = refl;
      parts = All-cons IsRatedArgument sound [] (refl, refl) (All-nil IsRatedArgument);
      channels = refl;
      suits = refl;
      even = refl;
      place = refl;
    },
    tt,
  ),
)

tone_reached : (k : Kind) → at_kind tone_counts.registers k ≡ max (ops_limit k tone_init) (ops_limit k tone_perf)
tone_reached kind.LocalInit = refl
tone_reached a = refl

pub tone_code : (spaces : Spaces) (init perf : Code) → IsMadeOf tone_init tone_counts init
    → IsMadeOf tone_perf tone_counts perf → IsCodeOf spaces 1 tone init perf
tone_code spaces init perf a b =
    made_code spaces (inside 1) tone tone_rated tone_counts tone_init tone_perf
    (record { init_is = refl; perf_is = refl; units_are = refl; reached = tone_reached }) init perf a.0 a.1 b.0 b.1
