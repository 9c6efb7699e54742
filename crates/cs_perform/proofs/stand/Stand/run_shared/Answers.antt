use Rattle.std.proofs.Common.{◌≡◌, ◌≤◌, ℕ, pos, length, List, [], ◌∷◌, map, get_or, ap, refl, sym, subst, ◌∙◌, arith}
use Rattle.std.specs.Vec.{vec_capacity}
use Rattle.cs_base.specs.{Limits.most_notes, Numbers.total}
use Rattle.cs_desk.specs.Desk.{cells}
use Rattle.cs_piece_meaning.specs.Course.{begins, moment_at}
use Rattle.cs_row.specs.{Heard.HeardRow, Heard.sums, Laws.all_notes}
use Rattle.cs_perform.proofs.Ran.{block_of_rows}
use Rattle.cs_perform.proofs.Rows.{HaveRun, have_run, heard_of, rows_after, rows_cycle}
use Rattle.cs_perform.proofs.Standings.{areas_same, feet_in_areas, kept_course, ran_at}
use Rattle.cs_perform.specs.Counted.{CountsOn}
use Rattle.cs_piece.specs.Setups.{composition_of}
use Rattle.cs_voice.specs.{Mixing.gives, Mixing.shape, VoiceData.VoiceData, VoiceMeaning.voice_job}
use Rattle.cs_perform.proofs.stand.Stand.run_shared.Goals as goal

pub fill-filled-requires-clause-notes : goal.fill-filled-requires-clause-notes
fill-filled-requires-clause-notes g c =
    let at = c.requires.at.2 in
    let is = c.requires.ready.rows in
    let piece = composition_of c.requires.at.0 in record {
      cut = record { rows = is.rows; of = is.of; lengths = is.lengths };
      few = at.stands.stand.few;
      frames = piece.head.ksmps;
      channels = piece.head.nchnls;
      alike = c.voices_are_heard.ensures.shapes piece _ _ _ _ at.stands;
      size = at.block;
    }

pub by_crew-receipt-requires : goal.by_crew-receipt-requires
by_crew-receipt-requires g c =
    let s = c.requires.at.0 in
    let at = c.requires.at.2 in
    rows_cycle c.fill-filled.result.items c.fill-filled.ensures.rows c.args.self.desk c.args.self.course _
    c.fill-filled.ensures.lengths c.requires.ready.rows at.course
    (areas_same s c.args.self.life _ _ _ c.requires.at.1 at.setup at.areas at.stands
    (c.serial_runs_perform.ensures.layouts (composition_of s) c.args.self.life _ _ c.requires.at.1 at.stands))
    (feet_in_areas s c.args.self.life _ _ _ c.requires.at.1 at.setup at.areas at.stands
    (c.serial_runs_perform.ensures.footprints (composition_of s) c.args.self.life _ _ c.requires.at.1 at.stands))
    c.requires.ready.room

pub sum_rows-requires-clause-few : goal.sum_rows-requires-clause-few
sum_rows-requires-clause-few g c =
    let run = have_run c.fill-filled.ensures.rows c.by_crew-receipt.ensures.played c.row_laws.ensures.run in
    let few : length (all_notes c.by_crew-receipt.result.0) ≤ most_notes =
    subst (λ (n : ℕ). n ≤ most_notes) (sym run.count) c.requires.at.2.stands.stand.few in
    rw c.jobs.ensures few

pub sum_rows-requires-clause-long : goal.sum_rows-requires-clause-long
sum_rows-requires-clause-long g c =
    let run = have_run c.fill-filled.ensures.rows c.by_crew-receipt.ensures.played c.row_laws.ensures.run in
    rw c.jobs.ensures (rw c.requires.block (run.long c.args.self.rows.block c.fill-filled.ensures.sums))

pub returns-clause-performed : goal.returns-clause-performed
returns-clause-performed g c s m at =
    let run = have_run c.fill-filled.ensures.rows c.by_crew-receipt.ensures.played c.row_laws.ensures.run in
    let jobs = c.count.ensures.voices ∙ c.unrow.ensures.notes ∙ run.notes in record {
      setup = at.setup;
      stands = ran_at (composition_of s) c.args.self.life c.args.self.voices.items _ (cells c.args.self.desk) _ _ jobs
          run.left (c.serial_runs_perform.ensures.performed (composition_of s) c.args.self.life
          c.args.self.voices.items (cells c.args.self.desk) m at.stands);
      areas = c.by_crew-receipt.ensures.played.areas_are ∙ at.areas;
      block = c.unrow.ensures.same.block ∙ c.fill-filled.ensures.same.block ∙ at.block;
      course = kept_course c.args.self.course _ c.by_crew-receipt.ensures.graph refl at.course;
      turns = at.turns;
      current = λ h. rw (
        c.unrow.ensures.same.most ∙ c.fill-filled.ensures.same.most,
        c.unrow.ensures.same.lengths ∙ c.fill-filled.ensures.same.lengths,
      )
          (rows_after c.args.self.voices.items _ _ _ _ (cells c.args.self.desk) jobs (at.current h));
    }

pub returns-clause-heard : goal.returns-clause-heard
returns-clause-heard g c s n at =
    let piece = composition_of s in
    let size : ℕ = length c.args.block.now in
    let run = have_run c.fill-filled.ensures.rows c.by_crew-receipt.ensures.played c.row_laws.ensures.run in
    let notes : c.count.result.items ≡ all_notes c.by_crew-receipt.result.0 =
    c.count.ensures.voices ∙ c.unrow.ensures.notes in
    let after = ran_at piece c.args.self.life c.args.self.voices.items _ (cells c.args.self.desk) _ _
    (notes ∙ run.notes) run.left
    (c.serial_runs_perform.ensures.performed piece c.args.self.life c.args.self.voices.items
    (cells c.args.self.desk) (begins piece n (moment_at piece n)) at.stands) in
    let here : c.sum_rows.new.block ≡ sums gives size (all_notes c.by_crew-receipt.result.0) =
    block_of_rows voice_job shape gives size c.sum_rows.new.block c.by_crew-receipt.result.0 c.row_laws.ensures.sums
    c.sum_rows.ensures.long
    (rw c.requires.block (run.long c.args.self.rows.block c.fill-filled.ensures.sums)) run.summed
    (λ a low. c.sum_rows.ensures.sums a low ∙ ap (λ (l : List (HeardRow VoiceData)).
    total (map (λ (r : HeardRow VoiceData). get_or r.sum a (pos 0)) l)) c.jobs.ensures) in
    heard_of piece.head.ksmps piece.head.nchnls size c.count.result.items c.sum_rows.new.block _
    (c.voices_are_heard.ensures.shapes piece c.args.self.life _ _ _ after) (c.requires.block ∙ at.block)
    (here ∙ ap (λ (l : List VoiceData). sums gives size l) (sym notes))
    (c.voices_are_heard.ensures.heard piece c.args.self.life _ _ n after)

pub unrow-requires-clause-room : goal.unrow-requires-clause-room
unrow-requires-clause-room g c =
    let run : HaveRun c.args.self.voices.items c.fill-filled.result.items c.by_crew-receipt.result.0 c.args.self.desk
    c.by_crew-receipt.result.1 =
    have_run c.fill-filled.ensures.rows c.by_crew-receipt.ensures.played c.row_laws.ensures.run in
    let kept : vec_capacity c.fill-filled.new.notes ≡ vec_capacity c.args.self.voices = c.fill-filled.ensures.empty.1 in
    omega (arith, run.count, kept, c.args.self.voices.ok.0, c.args.self.voices.ok.1)

pub unrow-requires-clause-few : goal.unrow-requires-clause-few
unrow-requires-clause-few g c =
    let run = have_run c.fill-filled.ensures.rows c.by_crew-receipt.ensures.played c.row_laws.ensures.run in
    let many : length (all_notes c.by_crew-receipt.result.0) ≡ length c.args.self.voices.items = run.count in
    let few : length c.args.self.voices.items ≤ most_notes = c.requires.at.2.stands.stand.few in
    omega (arith, many, few)

pub unrow-requires-clause-sums : goal.unrow-requires-clause-sums
unrow-requires-clause-sums g c =
    let run = have_run c.fill-filled.ensures.rows c.by_crew-receipt.ensures.played c.row_laws.ensures.run in
    rw c.fill-filled.ensures.same.block (run.long c.args.self.rows.block c.fill-filled.ensures.sums)

pub count-requires : goal.count-requires
count-requires g c =
    let run = have_run c.fill-filled.ensures.rows c.by_crew-receipt.ensures.played c.row_laws.ensures.run in
    let heard : length c.unrow.result ≡ length c.args.self.voices.items = ap length c.unrow.ensures.notes ∙ run.count in
    let few : length c.args.self.voices.items ≤ most_notes = c.requires.at.2.stands.stand.few in
    record { room = omega (arith, heard, few, c.requires.room) }

pub returns-clause-room : goal.returns-clause-room
returns-clause-room g c =
    let run = have_run c.fill-filled.ensures.rows c.by_crew-receipt.ensures.played c.row_laws.ensures.run in
    let heard : length c.unrow.result ≡ length c.args.self.voices.items = ap length c.unrow.ensures.notes ∙ run.count in
    let few : length c.args.self.voices.items ≤ most_notes = c.requires.at.2.stands.stand.few in
    omega (arith, c.count.ensures.room, heard, few)

pub returns-clause-counted : goal.returns-clause-counted
returns-clause-counted g c =
    subst (λ (l : List VoiceData). CountsOn g.C.Counter.has_counted c.args.tally.now c.count.new.self (l ∷ []))
    (sym c.count.ensures.voices) c.count.ensures.counted
