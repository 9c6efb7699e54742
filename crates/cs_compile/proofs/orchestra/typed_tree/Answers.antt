use Rattle.std.proofs.Common.{◌≡◌, ap, eqb, Err, Ok, subst, sym, ◌∙◌}
use Rattle.std.specs.List.{IsDistinct}
use Rattle.cs_code.specs.Lowered.{all_numbers}
use Rattle.cs_name_laws.specs.Names.{NamesWhatThereIs}
use Rattle.cs_typed.specs.WellRated.{IsWellRated}
use Rattle.cs_typing.specs.Typing.{typed_of}
use Rattle.cs_udo.specs.{Expanded.expanded_orchestra, Expanding.expanding}
use Rattle.cs_compile.specs.{Meaning.IsTypedAs, Meaning.typed_form, Then.Is}
use Rattle.cs_compile.proofs.{Chains.goes_on, Few.asks_few, Parts.mistyped, Parts.typed_as, Told.told}
use Rattle.cs_base.specs.declared.refusal.Refusal.TheVariants as why
use Rattle.cs_grammar.specs.Tree as tree
use Rattle.cs_typed.specs.TypedTree as typed
use Rattle.cs_compile.proofs.orchestra.typed_tree.Goals as goal

pub returns-in_err-typed-clause-refused : goal.returns-in_err-typed-clause-refused
returns-in_err-typed-clause-refused c =
    let t = tree.orchestra c.args.orc in
    let u = expanded_orchestra (tree.orchestra c.in_ok-expansion.expansion.orc.now) in
    told why.Orc (λ w. IsTypedAs t (Err w)) c.from_residual-in_err-typed.result c.in_err-typed.field-0.0
    c.from_residual-in_err-typed.ensures.1
    (λ f is. goes_on (Is (expanding t)) (λ x. Is (typed_form x)) (expanded_orchestra t) (Err (why.Orc f))
    (sym c.in_ok-expansion.ensures.expanded)
    (sym (mistyped u f (c.in_err-typed.ensures.fault f (ap (λ (z : _). Err z) is)))
    ∙ ap (λ x. typed_form (expanded_orchestra x)) c.in_ok-expansion.ensures.orchestra))

pub returns-clause-typed : goal.returns-clause-typed
returns-clause-typed c =
    let t = tree.orchestra c.args.orc in
    let u = expanded_orchestra (tree.orchestra c.in_ok-expansion.expansion.orc.now) in
    let o = typed.orchestra c.in_ok-typed.typed in
    goes_on (Is (expanding t)) (λ x. Is (typed_form x)) (expanded_orchestra t) (Ok o)
    (sym c.in_ok-expansion.ensures.expanded)
    (sym (typed_as u o c.in_ok-typed.ensures.right c.in_ok-typed.ensures.typed)
    ∙ ap (λ x. typed_form (expanded_orchestra x)) c.in_ok-expansion.ensures.orchestra)

pub returns-clause-rated : goal.returns-clause-rated
returns-clause-rated c =
    subst (λ (x : typed.Orchestra). IsWellRated x) (sym c.in_ok-typed.ensures.typed)
    (c.typing_is_well_rated.ensures
    (expanded_orchestra (tree.orchestra c.in_ok-expansion.expansion.orc.now)) c.in_ok-typed.ensures.right)

pub returns-clause-distinct : goal.returns-clause-distinct
returns-clause-distinct c =
    let t = tree.orchestra c.args.orc in
    subst (λ (x : typed.Orchestra). IsDistinct eqb (all_numbers x.instrs)) (sym c.in_ok-typed.ensures.typed)
    (subst (λ (o : tree.Orchestra). IsDistinct eqb (all_numbers (typed_of (expanded_orchestra o)).instrs))
    (sym c.in_ok-expansion.ensures.orchestra)
    (c.expansions_can_be_lowered.ensures.numbers t (expanded_orchestra t) c.requires
    c.in_ok-expansion.ensures.expanded))

pub returns-clause-named : goal.returns-clause-named
returns-clause-named c =
    subst (λ (x : typed.Orchestra). NamesWhatThereIs x) (sym c.in_ok-typed.ensures.typed)
    (c.typed_trees_name_what_there_is.ensures
    (expanded_orchestra (tree.orchestra c.in_ok-expansion.expansion.orc.now)) c.in_ok-typed.ensures.right)

pub returns-clause-asks : goal.returns-clause-asks
returns-clause-asks c =
    let t = tree.orchestra c.args.orc in
    let u = expanded_orchestra (tree.orchestra c.in_ok-expansion.expansion.orc.now) in
    let o = typed.orchestra c.in_ok-typed.typed in
    asks_few t (expanded_orchestra t) o c.in_ok-expansion.ensures.expanded
    (ap (λ x. typed_form (expanded_orchestra x)) (sym c.in_ok-expansion.ensures.orchestra)
    ∙ typed_as u o c.in_ok-typed.ensures.right c.in_ok-typed.ensures.typed)
