use Rattle.std.proofs.Common.{◌∙◌, sym}
use Rattle.cs_typing.specs.{inner.Held.known_of, inner.Settled.settings_of, inner.Walk.GivesOrc}
use Rattle.cs_typing.specs.inner.Parts.{statements_fault, typed_by}
use Rattle.cs_typing.proofs.{Answers.failed, Answers.same_fault, Ended.parts_break, Ended.parts_made}
use Rattle.cs_grammar.specs.Tree as tree
use Rattle.cs_typing.proofs.orc.Typing.typed.Goals as goal

pub add_parts-requires : goal.add_parts-requires
add_parts-requires c = record { sound = c.requires.begun.sound c.args.settings.head.nchnls }

pub returns-in_err-add_parts : goal.returns-in_err-add_parts
returns-in_err-add_parts c =
    let e = c.args.expansion.now in
    let ch = c.args.settings.head.nchnls in
    let k = known_of c.args.self.now.so_far.names in
    let zero = c.deref.result.now in
    let instrs = c.deref-2.result.now in
    let same = parts_break e c.requires.ready zero instrs c.deref.ensures.value c.deref-2.ensures.value ch k
    c.requires.begun.known in
    failed
    (λ r. GivesOrc r (statements_fault ch (tree.orchestra e.orc.now))
    (typed_by (settings_of c.args.settings) (tree.orchestra e.orc.now)))
    c.from_residual.result _ c.from_residual.ensures.1 (same_fault _ _ _ c.in_err-add_parts.ensures.fault same)

pub returns : goal.returns
returns c =
    let e = c.args.expansion.now in
    let ch = c.args.settings.head.nchnls in
    let self = c.args.self.now in
    let zero = c.deref.result.now in
    let instrs = c.deref-2.result.now in
    let z = c.deref.ensures.value in
    let s = c.deref-2.ensures.value in
    let k = known_of self.so_far.names in
    let added = c.in_ok-add_parts.ensures in
    let same = parts_break e c.requires.ready zero instrs z s ch k c.requires.begun.known in (
      sym same ∙ added.fault,
      c.in_ok-finished.ensures
          ∙ parts_made e c.requires.ready zero instrs z s ch self c.add_parts.new.self (settings_of c.args.settings)
          c.requires.begun.known c.requires.begun.made added.adds,
    )
