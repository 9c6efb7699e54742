use Rattle.std.proofs.Common.{◌≡◌, ◌∙◌, ◌≤◌, ℕ, length, pos, replicate, take, arith, rules}
use Rattle.std.proofs.lemmas.List.{length-take-le}
use Rattle.cs_row.specs.Heard.{IsSumOf}
use Rattle.cs_voice.specs.{Mixing.sum_at, inner.Places.place}
use Rattle.cs_voice.proofs.Columns.{from_frame, zeros_have}
use Rattle.cs_voice.proofs.adding.mix_part.Goals as goal

pub sum_voices-requires-clause-silent : goal.sum_voices-requires-clause-silent
sum_voices-requires-clause-silent c = zeros_have 32 c.min-count.result

pub returns-clause-small : goal.returns-clause-small
returns-clause-small c =
    let n : ℕ = c.min-count.result in
    let few : n ≤ 32 = search rules in
    let taken : length (take n (replicate 32 (pos 0))) ≡ n = length-take-le n (replicate 32 (pos 0)) few in
    from_frame (λ j. IsSumOf (length c.args.voices.now) (sum_at c.args.voices.now j c.args.channel)) c.args.from n
    (λ j low. c.sum_voices.ensures.small j (omega (arith, low, taken)))

pub returns-clause-sums : goal.returns-clause-sums
returns-clause-sums c =
    let n : ℕ = c.min-count.result in
    let few : n ≤ 32 = search rules in
    let taken : length (take n (replicate 32 (pos 0))) ≡ n = length-take-le n (replicate 32 (pos 0)) few in
    let long : length c.sum_voices.new.sums ≡ n = c.sum_voices.ensures.long ∙ taken in
    from_frame (λ j. place c.args.channels c.put.new.out j c.args.channel ≡ sum_at c.args.voices.now j c.args.channel)
    c.args.from n
    (λ j low. c.put.ensures.sums j (omega (arith, low, long)) ∙ c.sum_voices.ensures.sums j (omega (arith, low, taken)))
