use Rattle.std.proofs.Common.{◌∙◌, ◌+◌, ◌++◌, arith, drop, map, sym, ap}
use Rattle.std.proofs.lemmas.List.{append_assoc}
use Rattle.cs_grammar.specs.Tree.{argument}
use Rattle.cs_typing.specs.{Calls.argument_by, Calls.arguments_by, inner.Held.known_of, inner.Routines.variable_in}
use Rattle.cs_udo.proofs.Places.{dropped}
use Rattle.cs_typed.specs.TypedTree as typed
use Rattle.cs_typing.proofs.call.typed_arguments.Goals as goal

pub loop-arg-preserved : goal.loop-arg-preserved
loop-arg-preserved c =
    let n = c.args.names.now in
    let role = c.args.role in
    let i = c.loop-arg.arg-index in
    let x = c.arg-item.result in
    let done = map typed.argument c.loop-arg.made.items in
    let rest = arguments_by n.shared (variable_in (known_of n)) role (map argument (drop (i + 1) c.args.args.now)) in
    ap (λ xs. xs ++ rest) c.in_ok-add_argument.ensures
    ∙ append_assoc done (argument_by n.shared (variable_in (known_of n)) role (argument x)) rest
    ∙ sym (ap (λ xs. done ++ arguments_by n.shared (variable_in (known_of n)) role (map argument xs))
    (dropped c.args.args.now i x (omega arith) c.arg-item.is)) ∙ c.loop-arg.invariant
