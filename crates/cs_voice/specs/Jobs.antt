-- A cycle turns a voice into a voice, and the frame law holds.
use Rattle.std.proofs.Common.{◌≡◌, ◌≤◌, length, map, nat_lt, None, refl, sym, ◌∙◌, ap, subst}
use Rattle.std.specs.List.{range_with_len}
use Rattle.std.proofs.lemmas.{List.FromFn.length-map-range_with_len, List.get_or_past}
use Rattle.cs_ir.specs.{Registers.rate_at, Validity.has_register, Waves.held}
use Rattle.cs_cells.specs.{Cells.Cells, Meaning.Frames}
use Rattle.cs_machine.specs.{Outputs.outs, Outputs.refilled, Registers.filled, Registers.values, Rows.row_of}
use Rattle.cs_machine.proofs.Frames.{at_or_past}
use Rattle.cs_voice_meaning.specs.{Room.VoiceFits, Voices.Sheet, Voices.Sounding, Voices.performed}
use Rattle.cs_voice_meaning.proofs.{Fitting.goes_on_fitting, FrameLaw.voice_frames}
use Rattle.cs_voice.specs.VoiceData.{VoiceData, sheet_of, sounding, sounding_on, taking, units_in}
use Rattle.cs_voice.specs.VoiceMeaning.{IsVoice, after, voice_job}
use Rattle.cs_voice.specs.inner.Rooms.{filled_has, filled_past, filled_keeps, refilled_has, refilled_past}
use Rattle.cs_voice.specs.inner.Rooms.{refilled_keeps, refilled_long, units_have}
use Rattle.cs_base.specs.declared.resource.Rate.TheVariants as rate

-- a voice fits into the registers, units and channels that its code counts
pub fits : (d : VoiceData) → IsVoice d → VoiceFits d.code.counts (sounding d)
fits d h = record {
  regs = λ q no. sym (ap (λ f. values f q) h.all_registers)
      ∙ filled_past d.regs (values d.regs) q (ap (λ n. has_register n q) h.counts ∙ no);
  keeps = λ q. subst (λ n. held n (rate_at q) (values d.regs q) ≡ values d.regs q) h.frames
      (subst (λ f. held d.regs.ksmps (rate_at q) (values f q) ≡ values f q) h.all_registers
      (filled_keeps d.regs (values d.regs) q));
  units = λ u no. get_or_past d.units u None (subst (λ k. k ≤ u) (sym h.units) (at_or_past u d.code.counts.units no));
  outs = λ c no. sym (ap (λ f. outs f c) h.all_channels)
      ∙ refilled_past d.outs (outs d.outs) c (ap (λ n. nat_lt c n) h.channels ∙ no);
  frames = λ c. subst (λ n. held n rate.Audio (outs d.outs c) ≡ outs d.outs c) h.channel_frames
      (subst (λ f. held d.outs.ksmps rate.Audio (outs f c) ≡ outs f c) h.all_channels
      (refilled_keeps d.outs (outs d.outs) c));
}

-- a voice that takes fitting values has these values, and is a voice again
module _ (d : VoiceData) (h : IsVoice d) (v : Sounding)
    (f : VoiceFits d.code.counts (record v { sheet = sheet_of d })) where
  regs_taken : values (filled d.regs v.regs) ≡ v.regs
  regs_taken = filled_has d.regs v.regs
      (λ q no. f.regs q (sym (ap (λ n. has_register n q) h.counts) ∙ no))
      (λ q. subst (λ n. held n (rate_at q) (v.regs q) ≡ v.regs q) (sym h.frames) (f.keeps q))

  outs_taken : outs (refilled d.outs v.outs) ≡ v.outs
  outs_taken = refilled_has d.outs v.outs
      (λ c no. f.outs c (sym (ap (λ n. nat_lt c n) h.channels) ∙ no))
      (λ c. subst (λ n. held n rate.Audio (v.outs c) ≡ v.outs c) (sym h.channel_frames) (f.frames c))

  pub units_taken : units_in (taking d v).units ≡ v.units
  units_taken = units_have v.units (length d.units) (λ u no. f.units u (sym (ap (λ n. nat_lt u n) h.units) ∙ no))

  pub taken : (s : Sheet) → sounding_on s (taking d v) ≡ record v { sheet = s }
  taken s = λ t. record {
    sheet = s;
    regs = regs_taken t;
    units = units_taken t;
    delays = v.delays;
    outs =
        outs_taken t;
    ended = v.ended;
  }

  pub still_voice : IsVoice (taking d v)
  still_voice = record {
    playable = h.playable;
    code = h.code;
    counts = h.counts;
    frames = h.frames;
    units = length-map-range_with_len v.units 0 (length d.units) ∙ h.units;
    channels = refilled_long d.outs v.outs ∙ h.channels;
    channel_frames = h.channel_frames;
    all_registers = ap (filled d.regs) regs_taken;
    all_channels = ap (λ n. record d.outs
        { rows = map (λ c. row_of d.outs.ksmps (outs (refilled d.outs v.outs) c)) (range_with_len 0 n) })
        (refilled_long d.outs v.outs)
        ∙ ap (refilled d.outs) outs_taken;
  }

pub performed_fits : (d : VoiceData) (c : Cells) → IsVoice d → VoiceFits d.code.counts (performed (sounding d) c)
performed_fits d c h = goes_on_fitting (sounding d) d.code.counts c h.playable h.code (fits d h)

pub after_voice : (d : VoiceData) (c : Cells) → IsVoice d → IsVoice (after d c)
after_voice d c h = still_voice d h (performed (sounding d) c) (performed_fits d c h)

-- the frame law of voices as jobs
pub voice_job_frames : Frames voice_job
voice_job_frames = record {
  job = λ d c e h same. ap (taking d) (voice_frames.job (sounding d) c e h.playable same);
  cells = λ d c e h same. voice_frames.cells (sounding d) c e h.playable same;
  others = λ d c a h un. voice_frames.others (sounding d) c a h.playable un;
  long = λ d c. voice_frames.long (sounding d) c;
  valid_after = λ d c h. after_voice d c h;
  foot_after = λ d c. refl;
  areas_after = λ d c. refl;
}
