-- A voice that joined represents a note that joined.
use Rattle.std.proofs.Common.{◌≡◌, ℕ, ℤ, pos, ◌≤◌, ◌<◌, Bool, true, false, not, List, length, get_or, ap, arith}
use Rattle.std.specs.List.{AllWithin, AllZip, insert}
use Rattle.std.proofs.lemmas.{Bool.Decides.nat_tests, Slice.Zip.AllZip-long}
use Rattle.cs_piece_meaning.specs.Moments.{Composition, Active, at_most, placed}
use Rattle.cs_piece_meaning.proofs.Standing.{zip_at}
use Rattle.cs_life.proofs.Places.{back, front}
use Rattle.cs_life.specs.Standing.{Plays}
use Rattle.cs_life.specs.inner.Roster.{Joined}
use Rattle.cs_voice.specs.{VoiceData.VoiceData, declared.stage.Stage.Stage}

no_lower : (x y : ℤ) (m n : ℕ) → x ≡ pos m → y ≡ pos n → m ≤ n → at_most x y ≡ true
no_lower x y m n e f le = rw (e, f) (grind (arith, nat_tests))

lower : (x y : ℤ) (m n : ℕ) → x ≡ pos m → y ≡ pos n → n < m → at_most x y ≡ false
lower x y m n e f lt = rw (e, f) (grind (arith, nat_tests))

module _ (c : Composition) (stage : Stage) (flags : List Bool) (voices : List VoiceData) (active : List Active)
    (v : VoiceData) (n : Active)
    (play : AllZip (Plays c stage flags) voices active) (number : n.number ≡ pos v.number) (after : List VoiceData)
    (j : Joined (λ (w : VoiceData). w.number) v voices after) where
  before : AllWithin (λ (a : Active). at_most a.number n.number ≡ true) active 0 j.place
  before k e from to =
      let long = AllZip-long (Plays c stage flags) voices active play in
      no_lower (get_or active k e).number n.number (get_or voices k v).number v.number
      (zip_at (Plays c stage flags) voices active k v e play (omega (arith, to, j.within))).number number
      (j.lower k v from to)

  behind : AllWithin (λ (a : Active). at_most a.number n.number ≡ false) active j.place (length active)
  behind k e from to =
      let long = AllZip-long (Plays c stage flags) voices active play in
      lower (get_or active k e).number n.number (get_or voices k v).number v.number
      (zip_at (Plays c stage flags) voices active k v e play (omega arith)).number number
      (j.higher k v from (omega arith))

  pub placed_is : placed n active ≡ insert active j.place n
  placed_is =
      let long = AllZip-long (Plays c stage flags) voices active play in
      let within : j.place ≤ length active = omega (arith, long, j.within) in
      let first = front (λ (a : Active). at_most a.number n.number) active j.place within before behind in
      let last = back (λ (a : Active). not (at_most a.number n.number)) active j.place within
      (λ k e from to. ap not (before k e from to)) (λ k e from to. ap not (behind k e from to)) in
      rw (first, last)
