-- A voice has the same effect over cells that agree where it may use them.
use Rattle.std.proofs.lemmas.Grind.{common_steps}
use Rattle.std.proofs.Common.{arith, ◌≡◌, ℕ, ℤ, ◌-◌, true, List, Option, Some, None, if◌then◌else◌, ap, []}
use Rattle.cs_base.specs.declared.resource.Res.{Res}
use Rattle.cs_ir.specs.{Resources.Stock, Waves.Wave}
use Rattle.cs_cells.specs.{Cells.in_area, declared.footprint.Area.Area}
use Rattle.cs_meaning.specs.Pieces.{Piece}
use Rattle.cs_voice_meaning.specs.Placing.{area_of, with_wave, IsPlaced}
use Rattle.cs_voice_meaning.specs.VoiceWorld.{Playing, VoiceState, read_cells, voice_model, voice_world}
use Rattle.cs_voice_meaning.specs.Follows.{Kinds, AreRelated}
use Rattle.cs_voice_meaning.proofs.{Alikes.Follows, Placed.wave_same, Shared.roomy}
use Rattle.cs_voice_meaning.proofs.Models.{ModelFollows, models_follow, stores}

-- Two states of the voice's world whose cells are the same where P holds, and which are otherwise the same.
abbrev pub SameCells : (ℕ → Type 0) → (ℕ → ℤ) → (ℕ → ℤ) → Type 0
SameCells P c d = (a : ℕ) → P a → c a ≡ d a

abbrev pub SamePlaying : ℕ → Playing → Playing → Type 0
SamePlaying u p q = p ≡ q

abbrev pub SameSeen : (ℕ → Type 0) → VoiceState → VoiceState → Type 0
SameSeen P x y = AreRelated (SameCells P) SamePlaying [] x y

-- a resource has an area, all of whose cells are seen
abbrev pub IsSeen : (ℕ → Type 0) → List Area → Res → Type 0
IsSeen P areas g = (area : Area) × (area_of areas g ≡ Some area) × ((a : ℕ) → in_area (Some area) a ≡ true → P a)

module _ (areas : List Area) (stock : Stock) (piece : Piece) (kinds : Kinds) (P : ℕ → Type 0)
    (placed : IsPlaced areas stock piece) where
  load_seen : (g : Res) (c d : ℕ → ℤ) → IsSeen P areas g → SameCells P c d → read_cells areas g c ≡ read_cells areas g d
  load_seen g c d n s = grind (arith, common_steps, roomy, wave_same)

  wave_seen : (o : Option Area) (w : Wave) (c d : ℕ → ℤ) (a : ℕ) → c a ≡ d a → with_wave o w c a ≡ with_wave o w d a
  wave_seen None w c d a e = e
  wave_seen (Some area) w c d a e = ap (λ z. if in_area (Some area) a then w (a - area.first) else z) e

  -- the voice's world follows itself
  model_follows : ModelFollows areas stock piece kinds (IsSeen P areas) (SameCells P) SamePlaying
      (voice_model areas piece) (voice_model areas piece)
  model_follows = grind (arith, common_steps, load_seen, stores, wave_seen)

  pub same_follows : Follows stock kinds (IsSeen P areas) (voice_world areas piece) (voice_world areas piece)
      (SameSeen P)
  same_follows = models_follow areas stock piece kinds (IsSeen P areas) [] placed (SameCells P) SamePlaying
      (voice_model areas piece) (voice_model areas piece) model_follows
