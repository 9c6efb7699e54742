use Rattle.std.proofs.Common.{◌≡◌, ◌<◌, ℕ, ℤ, ◌+ℤ◌, ◌-ℤ◌, ◌*ℤ◌, ◌≤ℤ◌, pos, negsuc, to_z, of_z, w64, arith}
use Rattle.std.proofs.lemmas.Int.{ints}
use Rattle.cs_base.specs.Numbers.{floor_div}
use Rattle.cs_gen.proofs.Quotients.{on_line}
use Rattle.cs_gen.proofs.sine.between.Goals as goal

within : (a b q : ℤ) (f : ℕ) → f < 65536 → negsuc 32766 ≤ℤ a → a ≤ℤ pos 32767 → negsuc 32766 ≤ℤ b → b ≤ℤ pos 32767
    → q ≡ floor_div (to_z w64 (of_z w64 (to_z w64 (of_z w64 b) -ℤ to_z w64 (of_z w64 a))) *ℤ pos f) (pos 65536)
    → (q ≡ floor_div ((b -ℤ a) *ℤ pos f) (pos 65536)) × (negsuc 32766 ≤ℤ (a +ℤ q)) × ((a +ℤ q) ≤ℤ pos 32767)
within a b q f small a_above a_below b_above b_below e =
    let rise : to_z w64 (of_z w64 (to_z w64 (of_z w64 b) -ℤ to_z w64 (of_z w64 a))) ≡ b -ℤ a = omega (arith, ints) in
    let line = on_line (negsuc 32766) (pos 32767) a b f 65536 small a_above b_above a_below b_below in
    let part = rw rise at e in (part, omega (arith, ints, part, line.0), omega (arith, ints, part, line.1))

pub overflow_sub-next : goal.overflow_sub-next
overflow_sub-next c = omega (arith, ints)

pub part-requires : goal.part-requires
part-requires c = record { fraction = c.requires.fraction; above = omega (arith, ints); below = omega (arith, ints) }

pub overflow_add-result : goal.overflow_add-result
overflow_add-result c =
    let r = c.requires in
    let line = within c.args.here c.args.next c.part.result c.args.fraction r.fraction r.here_above r.here_below
    r.next_above r.next_below c.part.ensures in omega (arith, ints, line.1)

pub returns : goal.returns
returns c =
    let r = c.requires in
    let line = within c.args.here c.args.next c.part.result c.args.fraction r.fraction r.here_above r.here_below
    r.next_above r.next_below c.part.ensures in
    record { value = omega (arith, ints, line); above = omega (arith, ints, line); below = omega (arith, ints, line) }
