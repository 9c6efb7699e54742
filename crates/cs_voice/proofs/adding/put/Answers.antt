use Rattle.std.proofs.Common.{◌≡◌, ℕ, ℤ, ◌+◌, ◌*◌, ◌<◌, get_or, of_z, pos, to_z, w64, length, arith, rules, List}
use Rattle.std.proofs.lemmas.Int.{to_z-of_z}
use mir.Val.{SFits}
use Rattle.cs_voice.proofs.Columns.{before_more, others_more, put_more, within}
use Rattle.cs_voice.proofs.adding.put.Goals as goal

pub loop-j-preserved : goal.loop-j-preserved
loop-j-preserved c =
    let n : ℕ = c.args.channels in
    let d : ℕ = c.args.channel in
    let j : ℕ = c.loop-j.j in
    let sums : List ℤ = c.args.sums.now in
    let before : List ℤ = c.args.out.now in
    let out : List ℤ = c.loop-j.out in
    let y : ℤ = get_or sums j (pos 0) in
    let z : ℤ = to_z w64 (of_z w64 y) in
    let fits : SFits w64 (get_or sums j (pos 0)) = search rules in
    let is : z ≡ y = to_z-of_z w64 y fits in
    let here : (c.args.from + j) * n + d < (c.args.from + length sums) * n =
    within n (c.args.from + length sums) (c.args.from + j) d (omega (arith, c.loop-j-test.true)) c.requires.channel in
    let inside : (c.args.from + j) * n + d < length out =
    omega (arith, here, c.loop-j.invariant.long, c.requires.long) in
    record {
      sums = put_more n d c.args.from sums before out j z c.requires.channel inside is c.loop-j.invariant.sums;
      before = before_more n d c.args.from sums before out j z c.requires.channel inside c.loop-j.invariant.before;
      others = others_more n d c.args.from sums before out j z c.requires.channel inside c.loop-j.invariant.others;
      long = search rules;
    }
