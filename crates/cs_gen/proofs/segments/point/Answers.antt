use Rattle.std.proofs.Common.{arith, rules, sym, ◌∙◌, to_z, of_z, w64}
use Rattle.std.proofs.lemmas.Int.{to_z-of_z}
use Rattle.cs_gen.proofs.Walks.{begins_before, ends_after, is_on_segment, at_end, past_end}
use Rattle.cs_gen.proofs.segments.point.Goals as goal

pub overflow_sub-into : goal.overflow_sub-into
overflow_sub-into c = begins_before c.args.args.now c.args.j c.args.walk.segment c.args.walk.begin
    c.requires.reached.come

pub on_line-requires-clause-inside : goal.on_line-requires-clause-inside
on_line-requires-clause-inside c =
    let lies = ends_after c.args.args.now c.args.j c.args.walk.segment c.args.walk.begin c.requires.reached
    (omega arith) in omega arith

pub returns-then-walk-segments_of : goal.returns-then-walk-segments_of
returns-then-walk-segments_of c =
    is_on_segment c.args.args.now c.args.j c.args.walk.segment c.args.walk.begin c.requires.reached (omega arith)
    (to_z w64 (of_z w64 c.raw.result)) (to_z w64 (of_z w64 c.raw-then-walk-segments_of.result)) c.on_line.result
    c.length_of.result (to_z-of_z w64 c.raw.result (search rules) ∙ c.raw.ensures.value ∙ c.argument-value.ensures)
    (to_z-of_z w64 c.raw-then-walk-segments_of.result (search rules) ∙ c.raw-then-walk-segments_of.ensures.value
    ∙ c.argument-next.ensures) c.length_of.ensures.value c.on_line.ensures

pub returns-then-into-eq0 : goal.returns-then-into-eq0
returns-then-into-eq0 c =
    c.argument-value.ensures
    ∙ sym (at_end c.args.args.now c.args.j c.args.walk.segment c.args.walk.begin c.requires.reached (omega arith)
    c.if-into-eq0.true)

pub returns-else-into-eq0 : goal.returns-else-into-eq0
returns-else-into-eq0 c =
    c.of_raw.ensures ∙ sym (past_end c.args.args.now c.args.j c.args.walk.segment c.args.walk.begin c.requires.reached
    (omega arith) c.if-into-eq0.false)
