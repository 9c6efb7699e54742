-- A start when as many notes play as allowed.
use Rattle.std.proofs.Common.{◌≡◌, ◌≢◌, ℕ, ◌==◌, false, nat_lt, length, Option, Some, None, refl, ap, arith}
use Rattle.std.proofs.Common.{if◌then◌else◌}
use Rattle.std.proofs.lemmas.Bool.Decides.{nat_tests}
use Rattle.cs_base.specs.Limits.{most_notes}
use Rattle.cs_meaning.specs.Core.{Block}
use Rattle.cs_piece_meaning.specs.Moments.{Composition, Moment}
use Rattle.cs_piece_meaning.specs.Starts.{Start, begun, has_room, in_vain, initialised, start_in, started}

lasts : (n : ℕ) → n ≢ 0 → (n == 0) ≡ false
lasts n h = grind (arith, nat_tests)

filled : (n : ℕ) → n ≡ most_notes → nat_lt n most_notes ≡ false
filled n h = grind (arith, nat_tests)

no_room : (s : Start) (m : Moment) → length m.active ≡ most_notes → s.cycles ≢ 0 → has_room s m ≡ false
no_room s m full some = rw (lasts s.cycles some) (filled (length m.active) full)

starts_none : (c : Composition) (now : ℕ) (s : Start) (m : Moment) (o : Option Block) → has_room s m ≡ false
    → started c now s o m ≡ in_vain m
starts_none c now s m None e = refl
starts_none c now s m (Some body) e =
    ap (λ b. if b then initialised c now s body (begun c m.made s body m) m else in_vain m) e

pub full_starts_none : (c : Composition) (now : ℕ) (s : Start) (m : Moment) → length m.active ≡ most_notes
    → s.cycles ≢ 0 → start_in c now s m ≡ in_vain m
full_starts_none c now s m full some = starts_none c now s m (c.instrument s.number) (no_room s m full some)
