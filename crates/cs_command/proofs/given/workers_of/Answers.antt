use Rattle.std.proofs.Common.{◌∙◌, sym, ap, codes, arith}
use Rattle.std.specs.Option.{unwrap_or}
use Rattle.std.specs.Str.Parse.{ExplainsUnsignedError, HasUnsignedDigitsIfOk, ParsesUnsigned}
use Rattle.cs_command.proofs.Getters.{in_range, number_given, workers_counted}
use Rattle.cs_command.proofs.given.workers_of.Goals as goal

pub new-requires : goal.new-requires
new-requires c = (
  omega arith,
  in_range 32 (codes "j") workers_counted c.requires.0 c.args.matches.now c.requires.1 c.in-Some.number
      (sym c.in-Some.is ∙ number_given _
      (λ bs r. ParsesUnsigned 32 10 bs r × ExplainsUnsignedError 10 bs r × HasUnsignedDigitsIfOk bs r) 32 (codes "j")
      workers_counted (omega arith) (λ u x g. g.0)
      c.args.matches.now c.requires.0 c.requires.1 c.get_one.result c.get_one.ensures.none c.get_one.ensures.value),
)

pub returns-in-Some : goal.returns-in-Some
returns-in-Some c = λ uses h. c.new.ensures
    ∙ ap (λ o. unwrap_or o 1)
    (sym c.in-Some.is ∙ number_given _
    (λ bs r. ParsesUnsigned 32 10 bs r × ExplainsUnsignedError 10 bs r × HasUnsignedDigitsIfOk bs r) 32 (codes "j")
    workers_counted (omega arith) (λ u x g. g.0)
    c.args.matches.now uses h c.get_one.result c.get_one.ensures.none c.get_one.ensures.value)

pub returns-in-None : goal.returns-in-None
returns-in-None c = λ uses h. c.new-in-None.ensures
    ∙ ap (λ o. unwrap_or o 1)
    (sym c.in-None.is ∙ number_given _
    (λ bs r. ParsesUnsigned 32 10 bs r × ExplainsUnsignedError 10 bs r × HasUnsignedDigitsIfOk bs r) 32 (codes "j")
    workers_counted (omega arith) (λ u x g. g.0)
    c.args.matches.now uses h c.get_one.result c.get_one.ensures.none c.get_one.ensures.value)
