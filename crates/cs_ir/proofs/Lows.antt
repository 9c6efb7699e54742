-- Windows that leave room for 32-bit numbers.
use Rattle.std.proofs.Common.{◌≡◌, ◌+◌, ◌*◌, ◌<◌, ◌≤◌, ◌^◌, ◌&&◌, ℕ, true, nat_le, arith, le-leb}
use Rattle.std.proofs.lemmas.Bool.{and_from}
use Rattle.cs_base.specs.{Rates.at_rate, declared.resource.Rate.Rate}
use Rattle.cs_ir.specs.Flat.{Begins, IsLow, further, leaves_room, no_window, sums}
use Rattle.cs_base.specs.declared.resource.Rate.TheVariants as rate

module _ (n : ℕ) (w : Begins) (low : IsLow n w) where
  pub room_in : leaves_room w ≡ true
  room_in =
      let init = low.locals rate.Init in
      let control = low.locals rate.Control in
      let audio = low.locals rate.Audio in
      let kept = low.kept in
      let unit = low.unit in
      and_from (nat_le w.locals.init (2 ^ 63) && nat_le w.locals.control (2 ^ 63) && nat_le w.locals.audio (2 ^ 63)
      && nat_le w.kept (2 ^ 63)) (nat_le w.unit (2 ^ 63))
      (and_from (nat_le w.locals.init (2 ^ 63) && nat_le w.locals.control (2 ^ 63) && nat_le w.locals.audio (2 ^ 63))
      (nat_le w.kept (2 ^ 63))
      (and_from (nat_le w.locals.init (2 ^ 63) && nat_le w.locals.control (2 ^ 63)) (nat_le w.locals.audio (2 ^ 63))
      (and_from (nat_le w.locals.init (2 ^ 63)) (nat_le w.locals.control (2 ^ 63))
      (le-leb w.locals.init (2 ^ 63) (omega (arith, init))) (le-leb w.locals.control (2 ^ 63) (omega (arith, control))))
      (le-leb w.locals.audio (2 ^ 63) (omega (arith, audio)))) (le-leb w.kept (2 ^ 63) (omega (arith, kept))))
      (le-leb w.unit (2 ^ 63) (omega (arith, unit)))

  -- a window that is further by 32-bit numbers may nest one level less
  pub further_low : (k : ℕ) (v : Begins) → k < n → v.locals.init < 2 ^ 32 → v.locals.control < 2 ^ 32
      → v.locals.audio < 2 ^ 32 → v.kept < 2 ^ 32 → v.unit < 2 ^ 32 → IsLow k (further w v)
  further_low k v less i c a kept unit = record {
    locals = by_rate;
    kept = (let old = low.kept in omega (arith, old, kept, less));
    unit = (let old = low.unit in omega (arith, old, unit, less));
  }
    where
      by_rate : (r : Rate) → at_rate (sums w.locals v.locals) r + k * 2 ^ 32 ≤ 2 ^ 63
      by_rate rate.Init = let old = low.locals rate.Init in omega (arith, old, i, less)
      by_rate rate.Control = let old = low.locals rate.Control in omega (arith, old, c, less)
      by_rate rate.Audio = let old = low.locals rate.Audio in omega (arith, old, a, less)

-- the window of a complete code, with as many routines as allowed
pub whole_low : (n : ℕ) → n ≤ 2 ^ 31 → IsLow n no_window
whole_low n few = record { locals = by_rate; kept = omega (arith, few); unit = omega (arith, few) }
  where
    by_rate : (r : Rate) → at_rate no_window.locals r + n * 2 ^ 32 ≤ 2 ^ 63
    by_rate rate.Init = omega (arith, few)
    by_rate a = omega (arith, few)
