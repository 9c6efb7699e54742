-- A voice that begins and runs is in the same state as the note of the plain world.
use Rattle.std.proofs.Common.{◌≡◌, ℕ, ℤ, List, refl, []}
use Rattle.cs_base.specs.{Rates.res_rate, declared.resource.Res.Res}
use Rattle.cs_signal.specs.Pace.{Pace}
use Rattle.cs_ir.specs.Waves.{Wave}
use Rattle.cs_cells.specs.declared.footprint.Area.{Area}
use Rattle.cs_meaning.specs.Plain.{plain, fresh}
use Rattle.cs_voice_meaning.specs.{Placing.area_of, Placing.HasArea, Placing.wave_of, VoiceWorld.fresh_voice}
use Rattle.cs_voice_meaning.specs.{VoiceWorld.voice_world, Follows.Kinds, Follows.SameState, Follows.DoAlike}
use Rattle.cs_ugen.specs.Generators.{pace_of}
use Rattle.cs_voice_meaning.proofs.{Alikes.run_alike, VoiceFollows.voice_follows}

-- a voice begins in the same state as a note, if its cells hold the shared resources
pub begins_same : (N : Res → Type 0) (areas : List Area) (kinds : Kinds) (pace : Pace) (cells : ℕ → ℤ)
    (shared : Res → Wave) → ((g : Res) → N g → wave_of (area_of areas g) (res_rate g) cells ≡ shared g)
    → SameState N areas kinds pace [] (fresh_voice cells) (fresh shared)
begins_same N areas kinds pace cells shared h =
    record { shared = h; units = λ u. tt; delays = refl; outs = refl; ended = refl; asks = refl; cause = refl }

pub do_alike : DoAlike
do_alike areas stock piece kinds earlier placed generators ops m n touches same =
    run_alike _ _ _ _ _ _ (voice_follows _ _ _ _ _ _ placed generators (λ g has. has)) _ _ _ _ touches same
