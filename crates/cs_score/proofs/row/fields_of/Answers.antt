use Rattle.std.proofs.Common.{◌≡◌, ◌+◌, ◌-◌, drop, take, length, arith, ap, sym, ◌∙◌}
use Rattle.std.proofs.lemmas.List.{take_rest, length-take}
use Rattle.cs_score.specs.Fields.{field_of}
use Rattle.cs_score.proofs.Words.{word_read, word_len}
use Rattle.cs_score.proofs.row.fields_of.Goals as goal

pub loop-at-preserved : goal.loop-at-preserved
loop-at-preserved c =
    let line = c.args.line.now in
    let len = c.word_len-len.result in
    let span : c.loop-at.at + len - c.loop-at.at ≡ len = omega arith in
    record {
      within = omega (
        arith,
        length-take (length line - c.loop-at.at) (drop c.loop-at.at line),
        c.word_len-len.ensures.within,
      );
      read = word_read line c.loop-at.at len c.loop-at.fields _ c.of.result c.loop-at-test.true
          (sym c.if-is_blank.ensures) (c.word_len-len.ensures.value ∙ ap word_len (take_rest line c.loop-at.at))
          (c.of.ensures ∙ ap (λ n. field_of (take n (drop c.loop-at.at line))) span)
          c.in_ok-push.ensures.ok c.loop-at.invariant.read;
    }
