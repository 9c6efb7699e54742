-- A code that outputs to a channel has an a-rate register, so all channels are available to it.
use Rattle.std.proofs.Common.{◌≡◌, ℕ, ◌+◌, ◌<◌, ◌==◌, Bool, true, false, not, List, [], ◌∷◌, nat_lt, if◌then◌else◌}
use Rattle.std.proofs.Common.{refl, sym, subst, arith, eqb-true}
use Rattle.std.specs.List.{list_all}
use Rattle.std.proofs.lemmas.Bool.{and_parts, ltb-true}
use Rattle.cs_base.specs.{Rates.is_audio, declared.resource.Rate.Rate}
use Rattle.cs_ir.specs.{Registers.at_kind, Registers.rate_at, Registers.rate_of, declared.op.Act.Act}
use Rattle.cs_ir.specs.{Validity.has_register, Validity.takes_from, declared.register.Counts.Counts}
use Rattle.cs_ir.specs.{declared.register.Kind.Kind, declared.register.Reg.Reg}
use Rattle.cs_voice_meaning.specs.{Room.channels_for, Voices.has_channel}
use Rattle.cs_ir.specs.declared.op.Act.TheVariants as act
use Rattle.cs_ir.specs.declared.register.Kind.TheVariants as kind

some_sounds : (counts : Counts) (k : Kind) (n : ℕ) → nat_lt n (at_kind counts.registers k) ≡ true
    → is_audio (rate_of k) ≡ true
    → 0 < at_kind counts.registers kind.LocalAudio + at_kind counts.registers kind.TemporaryAudio
some_sounds counts kind.LocalAudio n there sound =
    let low : n < at_kind counts.registers kind.LocalAudio = ltb-true _ _ there in omega (arith, low)
some_sounds counts kind.TemporaryAudio n there sound =
    let low : n < at_kind counts.registers kind.TemporaryAudio = ltb-true _ _ there in omega (arith, low)
some_sounds counts _ n there sound = absurd (cc)

all_of : (n sounds : ℕ) → 0 < sounds → (if sounds == 0 then 0 else n) ≡ n
all_of n sounds some = at (sounds == 0) refl
  where
    at : (b : Bool) → (sounds == 0) ≡ b → (if b then 0 else n) ≡ n
    at true e = let none : sounds ≡ 0 = eqb-true sounds 0 e in absurd (omega (arith, some, none))
    at false e = refl

-- if there is an a-rate register, all channels are available
pub all_channels : (counts : Counts) (q : Reg) (n : ℕ) → has_register counts q ≡ true → is_audio (rate_at q) ≡ true
    → channels_for counts n ≡ n
all_channels counts q n there sound = all_of n _ (some_sounds counts q.kind q.offset there sound)

-- an act with valid operands finds the channel that it names
pub channel_there : (counts : Counts) (n : ℕ) (a : Act) (r : Rate) (from : List Reg) → takes_from a r from ≡ true
    → list_all (has_register counts) from ≡ true → has_channel n a ≡ true → has_channel (channels_for counts n) a ≡ true
channel_there counts n (act.Out c) r (x ∷ []) takes there has =
    subst (λ k. nat_lt c k ≡ true) (sym (all_channels counts x n
    (and_parts (has_register counts x) (list_all (has_register counts) []) there).0 takes)) has
channel_there counts n (act.Out c) r _ takes there has = absurd (cc)
channel_there counts n _ r from takes there has = refl

-- an op that outputs to a numbered channel has an a-rate register
pub numbered_there : (counts : Counts) (n : ℕ) (r : Rate) (from : List Reg) → takes_from act.OutAt r from ≡ true
    → list_all (has_register counts) from ≡ true → channels_for counts n ≡ n
numbered_there counts n r (x ∷ y ∷ []) takes there =
    let rest = (and_parts (has_register counts x) (list_all (has_register counts) (y ∷ [])) there).1 in
    all_channels counts y n (and_parts (has_register counts y) (list_all (has_register counts) []) rest).0
    (and_parts (not (is_audio (rate_at x))) (is_audio (rate_at y)) takes).1
numbered_there counts n r _ takes there = absurd (cc)
