-- The sum of voices that represent a moment's notes is the sum of the notes.
use Rattle.std.proofs.Common.{◌≡◌, ℕ, ℤ, Bool, List, ◌∷◌, length, map, refl, sym, ◌∙◌, ap, []}
use Rattle.std.specs.List.{All, AllZip, flat_map, range_with_len}
use Rattle.std.proofs.lemmas.Slice.Zip.{AllZip-long}
use Rattle.cs_base.specs.Numbers.{total}
use Rattle.cs_cells.specs.Cells.{Cells}
use Rattle.cs_piece_meaning.specs.{Course.begins, Course.moment_at, Course.performed, Heard.mix_in}
use Rattle.cs_piece_meaning.specs.{Heard.sum_at as sum_of_notes, Moments.Composition, Moments.Active, Moments.Moment}
use Rattle.cs_voice.specs.Mixing.{mixed, shape, sum_at as sum_of_voices}
use Rattle.cs_machine.specs.Outputs.{outs}
use Rattle.cs_typed.specs.Places.{Header}
use Rattle.cs_voice.specs.{VoiceData.VoiceData, declared.stage.Stage.Stage}
use Rattle.cs_life.proofs.Places.{all_on_left}
use Rattle.cs_life.specs.{Standing.Plays, Standing.StandsFor, declared.life.Life.Life}

-- each voice has the output of its note
same_outs : (c : Composition) (stage : Stage) (flags : List Bool) (voices : List VoiceData) (active : List Active)
    → AllZip (Plays c stage flags) voices active → (frame channel : ℕ)
    → map (λ (v : VoiceData). outs v.outs channel frame) voices ≡ map (λ (a : Active). a.note.world.outs channel frame)
    active
same_outs c stage flags [] [] p frame channel = refl
same_outs c stage flags (v ∷ voices) (a ∷ active) p frame channel =
    λ i. p.0.note.outs i channel frame ∷ same_outs c stage flags voices active p.1 frame channel i
same_outs c stage flags _ _ p frame channel = absurd p

-- so the frames of a cycle are its notes' frames
pub heard : (c : Composition) (life : Life) (voices : List VoiceData) (cells : Cells) (n : ℕ)
    → StandsFor c life voices cells (performed c (begins c n (moment_at c n)))
    → mixed c.head.ksmps c.head.nchnls voices ≡ mix_in c n
heard c life voices cells n s =
    let m : Moment = performed c (begins c n (moment_at c n)) in
    let sums : (frame channel : ℕ) → sum_of_voices voices frame channel ≡ sum_of_notes m.active frame channel =
    λ frame channel. ap total (same_outs c life.stage life.made.items voices m.active s.stand.play frame channel) in
    ap (λ (f : ℕ → ℕ → ℤ). flat_map (λ frame. map (f frame) (range_with_len 0 c.head.nchnls))
    (range_with_len 0 c.head.ksmps))
    (λ i frame channel. sums frame channel i)

-- each voice has a number for each channel at each frame of the cycle
pub shapes : (c : Composition) (life : Life) (voices : List VoiceData) (cells : Cells) (m : Moment)
    → StandsFor c life voices cells m
    → All (λ (v : VoiceData). shape v ≡ (c.head.ksmps, c.head.nchnls)) voices
shapes c life voices cells m s =
    all_on_left (Plays c life.stage life.made.items) (λ v. shape v ≡ (c.head.ksmps, c.head.nchnls))
    (λ v a p.
    let head : v.head ≡ c.head = sym p.on.head ∙ s.stand.stage_is.head in
    let frames : v.outs.ksmps ≡ c.head.ksmps = p.valid.channel_frames ∙ ap (λ (h : Header). h.ksmps) head in
    λ i. (frames i, (head i).nchnls)) voices m.active s.stand.play

-- there are as many voices as notes
pub as_many : (c : Composition) (life : Life) (voices : List VoiceData) (cells : Cells) (m : Moment)
    → StandsFor c life voices cells m
    → length voices ≡ length m.active
as_many c life voices cells m s = sym (AllZip-long (Plays c life.stage life.made.items) voices m.active s.stand.play)
