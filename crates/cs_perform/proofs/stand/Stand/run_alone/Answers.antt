use Rattle.std.proofs.Common.{◌≡◌, ◌≤◌, List, [], ◌∷◌, Vec, Global, length, ap, sym, subst, ◌∙◌, arith}
use Rattle.std.specs.List.{All}
use Rattle.cs_base.specs.Limits.{most_notes}
use Rattle.cs_cells.specs.Serial.{serial_cells, serial_jobs}
use Rattle.cs_desk.specs.Desk.{cells}
use Rattle.cs_life.specs.Standing.{StandsFor}
use Rattle.cs_piece_meaning.specs.Course.{begins, moment_at, performed}
use Rattle.cs_row.specs.Heard.{sums}
use Rattle.cs_voice.specs.{Mixing.gives, Mixing.shape, VoiceData.VoiceData, VoiceMeaning.voice_job}
use Rattle.cs_perform.specs.Counted.{CountsOn}
use Rattle.cs_perform.proofs.{Rows.heard_of, Rows.rows_after, Standings.areas_same, Standings.ran_at}
use Rattle.cs_piece.specs.Setups.{composition_of}
use Rattle.cs_perform.proofs.stand.Stand.run_alone.Goals as goal

pub run_alone-receipt-requires-clause-notes : goal.run_alone-receipt-requires-clause-notes
run_alone-receipt-requires-clause-notes g c =
    let was : length c.replace-voices.result.items ≡ length c.args.self.now.voices.items =
    ap (λ (v : Vec VoiceData Global). length v.items) c.replace-voices.ensures.value in
    omega (arith, c.len-notes.ensures, was)

pub run_alone-receipt-requires-clause-over : goal.run_alone-receipt-requires-clause-over
run_alone-receipt-requires-clause-over g c =
    let at = c.requires.at.2 in
    rw c.replace-voices.ensures.value
    (areas_same c.requires.at.0 c.args.self.now.life _ _ _ c.requires.at.1 at.setup at.areas at.stands
    (c.serial_runs_perform.ensures.layouts (composition_of c.requires.at.0) c.args.self.now.life _ _ c.requires.at.1
    at.stands))

pub count-requires : goal.count-requires
count-requires g c =
    let was : length c.replace-voices.result.items ≡ length c.args.self.now.voices.items =
    ap (λ (v : Vec VoiceData Global). length v.items) c.replace-voices.ensures.value in
    let few : length c.args.self.now.voices.items ≤ most_notes = c.requires.at.2.stands.stand.few in
    record { room = omega (arith, c.run_alone-receipt.ensures.notes, was, few, c.requires.room) }

pub sum_notes-requires-clause-few : goal.sum_notes-requires-clause-few
sum_notes-requires-clause-few g c =
    let was : length c.replace-voices.result.items ≡ length c.args.self.now.voices.items =
    ap (λ (v : Vec VoiceData Global). length v.items) c.replace-voices.ensures.value in
    let few : length c.args.self.now.voices.items ≤ most_notes = c.requires.at.2.stands.stand.few in
    let heard : length c.deref.result.now ≡ length c.run_alone-receipt.result =
    ap length c.deref.ensures.value ∙ ap length c.count.ensures.voices in
    omega (arith, heard, c.run_alone-receipt.ensures.notes, was, few)

pub sum_notes-requires-clause-long : goal.sum_notes-requires-clause-long
sum_notes-requires-clause-long g c =
    let at = c.requires.at.2 in
    let piece = composition_of c.requires.at.0 in
    let was : c.replace-voices.result.items ≡ c.args.self.now.voices.items =
    ap (λ (v : Vec VoiceData Global). v.items) c.replace-voices.ensures.value in
    let after : StandsFor piece c.args.self.now.life c.count.result.items
    (cells c.run_alone-receipt.new.self) (performed piece c.requires.at.1) =
    ran_at piece c.args.self.now.life c.args.self.now.voices.items _ (cells c.args.self.now.desk) _ _
    (c.count.ensures.voices ∙ c.run_alone-receipt.ensures.jobs_are
    ∙ ap (λ (l : List VoiceData). serial_jobs voice_job l (cells c.args.self.now.desk)) was)
    (c.run_alone-receipt.ensures.cells_are
    ∙ ap (λ (l : List VoiceData). serial_cells voice_job l (cells c.args.self.now.desk)) was)
    (c.serial_runs_perform.ensures.performed piece c.args.self.now.life c.args.self.now.voices.items
    (cells c.args.self.now.desk) c.requires.at.1 at.stands) in (
      piece.head.ksmps,
      piece.head.nchnls,
      subst (λ (l : List VoiceData). All (λ (v : VoiceData). shape v ≡ (piece.head.ksmps, piece.head.nchnls)) l)
          (sym c.deref.ensures.value) (c.voices_are_heard.ensures.shapes piece c.args.self.now.life _ _ _ after),
      c.requires.block ∙ at.block,
    )

pub returns-clause-performed : goal.returns-clause-performed
returns-clause-performed g c s m at =
    let was : c.replace-voices.result.items ≡ c.args.self.now.voices.items =
    ap (λ (v : Vec VoiceData Global). v.items) c.replace-voices.ensures.value in
    let jobs : c.count.result.items ≡ serial_jobs voice_job c.args.self.now.voices.items (cells c.args.self.now.desk) =
    c.count.ensures.voices ∙ c.run_alone-receipt.ensures.jobs_are
    ∙ ap (λ (l : List VoiceData). serial_jobs voice_job l (cells c.args.self.now.desk)) was in
    record {
      setup = at.setup;
      stands = ran_at (composition_of s) c.args.self.now.life c.args.self.now.voices.items _
          (cells c.args.self.now.desk) _ _ jobs
          (c.run_alone-receipt.ensures.cells_are
          ∙ ap (λ (l : List VoiceData). serial_cells voice_job l (cells c.args.self.now.desk)) was)
          (c.serial_runs_perform.ensures.performed (composition_of s) c.args.self.now.life
          c.args.self.now.voices.items (cells c.args.self.now.desk) m at.stands);
      areas = c.run_alone-receipt.ensures.areas_are ∙ at.areas;
      block = at.block;
      course = at.course;
      turns = at.turns;
      current = λ h. rows_after c.args.self.now.voices.items _ _ _ _ (cells c.args.self.now.desk) jobs (at.current h);
    }

pub returns-clause-heard : goal.returns-clause-heard
returns-clause-heard g c s n at =
    let piece = composition_of s in
    let was : c.replace-voices.result.items ≡ c.args.self.now.voices.items =
    ap (λ (v : Vec VoiceData Global). v.items) c.replace-voices.ensures.value in
    let after = ran_at piece c.args.self.now.life c.args.self.now.voices.items _ (cells c.args.self.now.desk) _ _
    (c.count.ensures.voices ∙ c.run_alone-receipt.ensures.jobs_are
    ∙ ap (λ (l : List VoiceData). serial_jobs voice_job l (cells c.args.self.now.desk)) was)
    (c.run_alone-receipt.ensures.cells_are
    ∙ ap (λ (l : List VoiceData). serial_cells voice_job l (cells c.args.self.now.desk)) was)
    (c.serial_runs_perform.ensures.performed piece c.args.self.now.life c.args.self.now.voices.items
    (cells c.args.self.now.desk) (begins piece n (moment_at piece n)) at.stands) in
    heard_of piece.head.ksmps piece.head.nchnls _ c.count.result.items _ _
    (c.voices_are_heard.ensures.shapes piece c.args.self.now.life _ _ _ after) (c.requires.block ∙ at.block)
    (c.sum_notes.ensures ∙ ap (λ (l : List VoiceData). sums gives (length c.args.block.now) l) c.deref.ensures.value)
    (c.voices_are_heard.ensures.heard piece c.args.self.now.life _ _ n after)

pub returns-clause-counted : goal.returns-clause-counted
returns-clause-counted g c =
    subst (λ (l : List VoiceData). CountsOn g.C.Counter.has_counted c.args.tally.now c.count.new.self (l ∷ []))
    (sym c.count.ensures.voices) c.count.ensures.counted

pub returns-clause-room : goal.returns-clause-room
returns-clause-room g c =
    let was : length c.replace-voices.result.items ≡ length c.args.self.now.voices.items =
    ap (λ (v : Vec VoiceData Global). length v.items) c.replace-voices.ensures.value in
    let few : length c.args.self.now.voices.items ≤ most_notes = c.requires.at.2.stands.stand.few in
    omega (arith, c.count.ensures.room, c.run_alone-receipt.ensures.notes, was, few)
