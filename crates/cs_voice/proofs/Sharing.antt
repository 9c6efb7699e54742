-- What notes share: reading an area into a register, and writing a register into an area.
use Rattle.std.proofs.Common.{◌≡◌, ℕ, ℤ, pos, ◌+◌, ◌<◌, true, false, List, length, nat_lt, Some, if◌then◌else◌, refl}
use Rattle.std.proofs.Common.{sym, ◌∙◌, ap, subst, arith}
use Rattle.std.proofs.lemmas.{Bool.false≢true, Bool.Decides.nat_tests}
use Rattle.cs_base.specs.{Rates.is_audio, declared.resource.Rate.Rate, declared.resource.Res.Res}
use Rattle.cs_ir.specs.{Registers.rate_at, Waves.Wave, Waves.constant, Waves.held, declared.register.Reg.Reg}
use Rattle.cs_cells.specs.declared.footprint.Area.{Area}
use Rattle.cs_machine.specs.Registers.{RegisterFile, IsWritten, values}
use Rattle.cs_machine.specs.Rows.{HasFrames, row_wave}
use Rattle.cs_machine.proofs.{Frames.held_row, Putting.wrote_first}
use Rattle.cs_voice_meaning.specs.Placing.{area_of, cell_count, wave_in, with_wave}
use Rattle.cs_base.specs.declared.resource.Rate.TheVariants as rate

is_sound : (q : Rate) → is_audio q ≡ true → q ≡ rate.Audio
is_sound rate.Audio h = refl
is_sound r h = absurd (false≢true h)

-- a row has the frames of an audio area
pub sound_frames : (r : Rate) (area : Area) (cells : ℕ → ℤ) (row : List ℤ) → is_audio r ≡ true
    → HasFrames (wave_in rate.Audio area cells) row → HasFrames (wave_in r area cells) row
sound_frames r area cells row sound = subst (λ q. HasFrames (wave_in q area cells) row) (sym (is_sound r sound))

-- a value that is held at either rate was read from the first cell
pub read_held : (f g : RegisterFile) (into : Reg) (r : Rate) (area : Area) (cells : ℕ → ℤ) (z : ℤ)
    → (is_audio r ≡ true → is_audio (rate_at into) ≡ false)
    → 0 < area.length → z ≡ cells area.first → IsWritten f into (constant z) g
    → IsWritten f into (wave_in r area cells) g
read_held f g into rate.Init area cells z slow some is wrote =
    subst (λ v. IsWritten f into (constant v) g) is wrote
read_held f g into rate.Control area cells z slow some is wrote =
    subst (λ v. IsWritten f into (constant v) g) is wrote
read_held f g into rate.Audio area cells z slow some is wrote =
    wrote_first f g into (wave_in rate.Audio area cells) z (slow refl) (is ∙ at_first) wrote
  where
    at_first : cells area.first ≡ wave_in rate.Audio area cells 0
    at_first =
        let low : nat_lt 0 area.length ≡ true = grind (arith, nat_tests) in
        ap cells (let e : area.first ≡ area.first + 0 = omega arith in e)
        ∙ sym (ap (λ b. if b then cells (area.first + 0) else pos 0) low)

-- an area has at least one cell
pub some_cell : (ksmps : ℕ) (r : Rate) (n : ℕ) → 0 < ksmps → n ≡ cell_count ksmps r → 0 < n
some_cell ksmps rate.Audio n frames e = omega (arith, e, frames)
some_cell ksmps r n frames e = omega (arith, e)

-- an audio area has a cell for each frame
pub sound_cells : (ksmps : ℕ) (r : Rate) → is_audio r ≡ true → cell_count ksmps r ≡ ksmps
sound_cells ksmps r sound = ap (cell_count ksmps) (is_sound r sound)

-- an audio register is its row, for a cycle
pub row_is : (f : RegisterFile) (x : Reg) (row : List ℤ) → length row ≡ f.ksmps → row_wave row ≡ values f x
    → row_wave row ≡ held f.ksmps rate.Audio (values f x)
row_is f x row long is = sym (held_row f.ksmps row long) ∙ ap (held f.ksmps rate.Audio) is

-- the cells after the act of saving
pub saved_here : (areas : List Area) (g : Res) (area : Area) (r : Rate) (w : Wave) (m n : ℕ) (before after : ℕ → ℤ)
    → area_of areas g ≡ Some area → m ≡ n → after ≡ with_wave (Some area) (held m r w) before
    → with_wave (area_of areas g) (held n r w) before ≡ after
saved_here areas g area r w m n before after found same is =
    ap (λ o. with_wave o (held n r w) before) found
    ∙ ap (λ k. with_wave (Some area) (held k r w) before) (sym same) ∙ sym is
