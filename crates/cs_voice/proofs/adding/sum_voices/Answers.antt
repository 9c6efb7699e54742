use Rattle.std.proofs.Common.{◌<◌, ℕ, ◌+◌, ◌+ℤ◌, arith, get_or, length, pos, sym, ◌∙◌, ap, subst}
use Rattle.cs_row.specs.Heard.{IsSumOf}
use Rattle.cs_machine.specs.Outputs.{outs}
use Rattle.cs_voice.specs.VoiceData.{VoiceData}
use Rattle.cs_voice.proofs.Sums.{one_more, sum_so_far}
use Rattle.cs_voice.proofs.adding.sum_voices.Goals as goal

pub loop-voice-preserved : goal.loop-voice-preserved
loop-voice-preserved c =
    let d : ℕ = c.args.channel in
    let k : ℕ = c.loop-voice.voice-index in
    let v : VoiceData = c.voice-item.result in
    let inv = c.loop-voice.invariant in
    record {
      sums = λ j low.
          c.add_voice.ensures.sums j (omega (arith, low, inv.long))
          ∙ (ap (λ z. z +ℤ outs v.outs d (c.args.from + j)) (inv.sums j low)
          ∙ sym (sum_so_far c.args.voices.now k v (c.args.from + j) d c.loop-voice-test.true c.voice-item.is));
      near = λ j low.
          let there : j < length c.loop-voice.sums = omega (arith, low, inv.long) in
          subst (IsSumOf (k + 1)) (sym (c.add_voice.ensures.sums j there))
          (one_more k (get_or c.loop-voice.sums j (pos 0)) (outs v.outs d (c.args.from + j)) (inv.near j low)
          (c.add_voice.ensures.raw j there));
      long = c.add_voice.ensures.long ∙ inv.long;
    }
