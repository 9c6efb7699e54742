use Rattle.std.proofs.Common.{◌≡◌, ◌+◌, ◌<◌, ℕ, ℤ, ◌+ℤ◌, pos, List, get_or, length, set, to_z, of_z, w64, arith, ap}
use Rattle.std.proofs.Common.{◌∙◌, add-one}
use Rattle.std.proofs.lemmas.{Int.ints, List.get_or_read}
use Rattle.cs_wav.specs.Wav.{TakesMore}
use Rattle.cs_wav.proofs.Sums.{get_or-part_added, set-part_added, part_added_all, raw_more}
use Rattle.cs_wav.proofs.mix.add_block.Goals as goal

pub loop-i-preserved : goal.loop-i-preserved
loop-i-preserved c =
    let i : ℕ = c.loop-i.i in
    let low : i < length c.args.part.now = c.loop-i-test.true in
    let x : ℤ = get_or c.args.mix.now i (pos 0) in
    let y : ℤ = get_or c.args.part.now i (pos 0) in
    let raw = c.raw.ensures.in_range in
    let is : c.raw.result ≡ y =
    c.raw.ensures.value ∙ get_or_read c.args.part.now i c.index-part-i.result low c.index-part-i.is (pos 0) in
    let first : get_or c.loop-i.mix i (pos 0) ≡ x =
    ap (λ (l : List ℤ). get_or l i (pos 0)) c.loop-i.invariant.sums
    ∙ get_or-part_added c.args.mix.now c.args.part.now i c.requires.same in
    let room : TakesMore x = c.requires.room i in
    let sum : to_z w64 (of_z w64
    (to_z w64 (of_z w64 (get_or c.loop-i.mix i (pos 0))) +ℤ to_z w64 (of_z w64 c.raw.result)))
    ≡ x +ℤ y = omega (arith, ints, first, is, room.0, room.1, raw.0, raw.1) in
    record {
      sums = rw (sum, add-one)
          (ap (λ (l : List ℤ). set l i (x +ℤ y)) c.loop-i.invariant.sums
          ∙ set-part_added c.args.mix.now c.args.part.now i c.requires.same (omega (arith, low, c.requires.same)));
      raw = raw_more c.args.part.now i c.raw.result is raw c.loop-i.invariant.raw;
    }

pub overflow_add-mix : goal.overflow_add-mix
overflow_add-mix c =
    let i : ℕ = c.loop-i.i in
    let first : get_or c.loop-i.mix i (pos 0) ≡ get_or c.args.mix.now i (pos 0) =
    ap (λ (l : List ℤ). get_or l i (pos 0)) c.loop-i.invariant.sums
    ∙ get_or-part_added c.args.mix.now c.args.part.now i c.requires.same in
    let room : TakesMore (get_or c.args.mix.now i (pos 0)) = c.requires.room i in
    let raw = c.raw.ensures.in_range in omega (arith, ints, first, room.0, room.1, raw.0, raw.1)

pub returns-clause-sums : goal.returns-clause-sums
returns-clause-sums c = c.loop-i.invariant.sums
    ∙ part_added_all c.args.mix.now c.args.part.now c.loop-i.i c.requires.same (omega arith)
