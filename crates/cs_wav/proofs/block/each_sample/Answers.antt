use Rattle.std.proofs.lemmas.{Grind.common_steps, Int.ints, List.length-take-le, List.take_all}
use Rattle.std.proofs.Common.{◌≡◌, ◌≤◌, ℕ, ◌+◌, ℤ, pos, Bool, true, false, length, take, get_or, sym, ◌∙◌, arith, to_z}
use Rattle.std.proofs.Common.{if◌then◌else◌}
use Rattle.std.proofs.{Common.of_z, Common.w64, Math.Nat.mul-le-mul_left}
use Rattle.std.proofs.lemmas.List.Sums.{count_by-le-length, sum_by_more}
use Rattle.cs_wav.specs.Wav.{is_out_of_range, samples_of}
use Rattle.cs_wav.proofs.Samples.{take-written}
use Rattle.cs_wav.proofs.block.each_sample.Goals as goal

pub loop-i-init : goal.loop-i-init
unfolding samples_of
loop-i-init c = grind (arith, common_steps)

pub put_value-brought_in-requires : goal.put_value-brought_in-requires
put_value-brought_in-requires c = grind (arith, common_steps, mul-le-mul_left)

one_at_most : (b : Bool) (n : ℕ) → n ≡ (if b then 1 else 0) → n ≤ 1
one_at_most true n e = omega (arith, e)
one_at_most false n e = omega (arith, e)

pub overflow_add-brought_in : goal.overflow_add-brought_in
overflow_add-brought_in c =
    let scale = c.args.scale in
    let outside = is_out_of_range scale.width scale.dbfs in
    let value : ℤ = get_or c.args.mix.now c.loop-i.i (pos 0) in
    let same : to_z w64 (of_z w64 value) ≡ value = omega (arith, ints) in
    let told = rw same at c.put_value-brought_in.ensures.out_of_range in
    let one = one_at_most (outside value) c.put_value-brought_in.result told in
    let few = count_by-le-length outside (take c.loop-i.i c.args.mix.now) in
    let front : length (take c.loop-i.i c.args.mix.now) ≡ c.loop-i.i =
    length-take-le c.loop-i.i c.args.mix.now (omega arith) in
    omega (arith, c.loop-i.invariant.counted, one)

pub loop-i-preserved : goal.loop-i-preserved
loop-i-preserved c =
    let scale = c.args.scale in
    let outside = is_out_of_range scale.width scale.dbfs in
    let value : ℤ = get_or c.args.mix.now c.loop-i.i (pos 0) in
    let same : to_z w64 (of_z w64 value) ≡ value = omega (arith, ints) in
    let written = rw (same, c.bytes-bytes.ensures) at c.put_value-brought_in.ensures.written in
    let told = rw same at c.put_value-brought_in.ensures.out_of_range in
    record {
      size = c.put_value-brought_in.auto.out ∙ c.loop-i.invariant.size;
      written = take-written scale.width scale.dbfs c.args.mix.now c.loop-i.out c.put_value-brought_in.new.out
          c.loop-i.i c.loop-i-test.true c.loop-i.invariant.size c.loop-i.invariant.written written;
      counted = (λ j. c.loop-i.invariant.counted j + told j)
          ∙ sym (sum_by_more (λ x. if outside x then 1 else 0) c.args.mix.now c.loop-i.i (pos 0) c.loop-i-test.true);
    }

pub returns-clause-bytes : goal.returns-clause-bytes
returns-clause-bytes c = grind (arith, common_steps, take_all)

pub returns-clause-out_of_range : goal.returns-clause-out_of_range
returns-clause-out_of_range c = grind (arith, common_steps, take_all)
