use Rattle.std.proofs.Common.{◌≡◌, length, ap, arith, subst, ℕ}
use Rattle.std.specs.Global.{Vec}
use Rattle.cs_cells.specs.{Access.Allows, Access.full_access, Areas.word_count, Meaning.Uses, Meaning.Writes}
use Rattle.cs_desk.proofs.Reached.{allowed_over}
use Rattle.cs_voice.specs.VoiceMeaning.{voice_job}
use Rattle.cs_rows_trial.proofs.notes.run.Goals as goal

pub run-requires : goal.run-requires
run-requires c =
    let zones = c.args.setup.now.zones in
    let voice = c.args.voice.now in
    let long = ap (λ (v : Vec ℕ). length v.items) c.new-bank.ensures.words in
    let same : word_count zones ≡ length c.new-bank.result.words.now.items =
    omega (arith, long, c.requires.cells, c.facts.ensures.zones.words) in
    subst (λ n. Allows (full_access n) (Uses voice_job voice) (Writes voice_job voice)) same
    (allowed_over voice_job zones voice c.facts.ensures.zones.laid c.requires.zones)
