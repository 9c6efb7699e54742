use Rattle.std.proofs.Common.{◌∙◌, ap, refl, subst, sym}
use Rattle.std.specs.Option.{option_map}
use Rattle.cs_cells.specs.Cells.{cell}
use Rattle.cs_ir.specs.declared.op.Code.{Code}
use Rattle.cs_machine.specs.States.{IsStateIn}
use Rattle.cs_voice_meaning.specs.Voices.{initialised}
use Rattle.cs_voice.specs.{Starting.cause_of, Starts.IsLive, Starts.IsStarted, Starts.sheet_for}
use Rattle.cs_voice.proofs.Began.{as_found, asks_left, cause_left, cells_left, live, made_voice, refused_so}
use Rattle.cs_voice.proofs.Passed.{none_if}
use Rattle.cs_voice.proofs.note.start.Goals as goal

pub pass-requires : goal.pass-requires
pass-requires g c = as_found _ _ c.args.note.now c.args.fields.items c.in_ok-state.state (record {
  layout = refl;
  head = refl;
  zak = refl;
  given = c.deref.ensures.value;
  found = refl;
  playable = c.requires.playable;
  made = c.requires.made;
  tables = c.requires.tables;
  places = c.requires.places;
  spaces = c.requires.spaces;
  bank = c.requires.access;
  fresh = c.in_ok-state.ensures.machine;
  in_piece = λ areas piece kinds frames channels.
      subst (λ (code : Code). IsStateIn areas piece kinds code.counts c.in_ok-state.state) c.init-init.ensures.same
      (c.in_ok-state.ensures.state areas piece kinds frames channels);
})

pub returns-in-Some-clause-started : goal.returns-in-Some-clause-started
returns-in-Some-clause-started g c =
    let s = sheet_for c.args.note.now c.args.fields.items in
    let before = cell (g.B.Bank.cells c.args.bank.now) in
    subst (λ x. IsStarted s c.args.note.now.until (initialised s before) x) (sym c.refused.ensures)
    (refused_so s c.args.note.now.until (initialised s before) c.in-Some.refusal
    (cause_left c.in_ok-state.ensures.machine (c.in_ok-refusal.ensures.passes c.args.fields.items c.deref.ensures.value)
    ∙ ap (option_map cause_of) c.in-Some.is))

pub returns-in-Some-clause-cells : goal.returns-in-Some-clause-cells
returns-in-Some-clause-cells g c =
    cells_left c.in_ok-state.ensures.machine (c.in_ok-refusal.ensures.passes c.args.fields.items c.deref.ensures.value)

pub returns-in-Some-clause-asks : goal.returns-in-Some-clause-asks
returns-in-Some-clause-asks g c =
    asks_left c.in_ok-state.ensures.machine (c.in_ok-refusal.ensures.passes c.args.fields.items c.deref.ensures.value)

pub of-requires : goal.of-requires
of-requires g c =
    let s = sheet_for c.args.note.now c.args.fields.items in
    made_voice c.args.note.now c.number-number.result c.args.fields.items c.perf-perf.result.now
    c.in_ok-state.state.regs.counts c.pass.new.state c.requires.playable c.number-number.ensures
    c.perf-perf.ensures.same c.requires.made c.requires.places c.requires.spaces c.perf-perf.ensures.valid
    ((c.in_ok-state.ensures.state s.areas s.piece c.requires.playable.kinds refl refl).registers
    ∙ c.init-init.ensures.counts ∙ ap (λ (code : Code). code.counts) (sym c.perf-perf.ensures.same))
    (c.in_ok-refusal.ensures.passes c.args.fields.items c.deref.ensures.value).state

pub returns-clause-started : goal.returns-clause-started
unfolding made_voice
returns-clause-started g c =
    let s = sheet_for c.args.note.now c.args.fields.items in
    let before = cell (g.B.Bank.cells c.args.bank.now) in
    subst (λ v. IsLive s c.args.note.now.until (initialised s before) v) (sym c.in_ok-voice.ensures)
    (live c.in_ok-state.ensures.machine (c.in_ok-refusal.ensures.passes c.args.fields.items c.deref.ensures.value)
    c.number-number.result c.args.note.now.age c.args.note.now.until c.args.note.now.stage c.args.note.now.foot.now
    c.perf-perf.result.now c.args.fields.items (none_if c.in_ok-refusal.refusal c.in_default.not-Some)
    (made_voice c.args.note.now c.number-number.result c.args.fields.items c.perf-perf.result.now
    c.in_ok-state.state.regs.counts c.pass.new.state c.requires.playable c.number-number.ensures
    c.perf-perf.ensures.same c.requires.made c.requires.places c.requires.spaces c.perf-perf.ensures.valid
    ((c.in_ok-state.ensures.state s.areas s.piece c.requires.playable.kinds refl refl).registers
    ∙ c.init-init.ensures.counts ∙ ap (λ (code : Code). code.counts) (sym c.perf-perf.ensures.same))
    (c.in_ok-refusal.ensures.passes c.args.fields.items c.deref.ensures.value).state).parts)

pub returns-clause-cells : goal.returns-clause-cells
returns-clause-cells g c =
    cells_left c.in_ok-state.ensures.machine (c.in_ok-refusal.ensures.passes c.args.fields.items c.deref.ensures.value)

pub returns-clause-asks : goal.returns-clause-asks
returns-clause-asks g c =
    asks_left c.in_ok-state.ensures.machine (c.in_ok-refusal.ensures.passes c.args.fields.items c.deref.ensures.value)
