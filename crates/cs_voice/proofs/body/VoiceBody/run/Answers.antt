use Rattle.std.proofs.Common.{refl}
use Rattle.cs_cells.specs.Cells.{Cells}
use Rattle.cs_cells.proofs.Counted.{same_count}
use Rattle.cs_machine.specs.{declared.state.NoteSetting.NoteSetting, declared.state.State.State}
use Rattle.cs_voice.specs.declared.body.VoiceBody.{VoiceBody}
use Rattle.cs_voice.proofs.{Cycled.HasCycled, Cycled.able, Cycled.context, Cycled.cycled, body.VoiceBody.run.Given.Over}
use Rattle.cs_voice.proofs.body.VoiceBody.run.Goals as goal

pub perform-requires : goal.perform-requires
perform-requires g c =
    let b = c.args.self.now in
    let at : NoteSetting = record
    { head = b.stage.head; layout = b.stage.layout; spaces = b.stage.spaces; fields = c.deref.result } in (
      context b.number b.age b.until b.stage b.foot.now b.code.now b.fields.items b.state c.requires.body,
      able b.number b.age b.until b.stage b.foot.now b.code.now b.fields.items b.state c.requires.body c.begin.new.state
          c.begin.ensures.silent c.begin.ensures.channels c.begin.ensures.frames c.begin.ensures.same
          at refl refl refl c.deref.ensures.value _ c.requires.access,
    )

abbrev HasCycledFrom : VoiceBody → State → Cells → Cells → Type 0
HasCycledFrom b t c d = HasCycled b.number b.age b.until b.stage b.foot.now b.code.now b.fields.items b.state t c d

performed : (g : Over) (c : goal.After-len g)
    → HasCycledFrom c.args.self.now c.perform.new.state (g.B.Bank.cells c.args.bank.now)
    (g.B.Bank.cells c.perform.new.bank)
performed g c =
    let b = c.args.self.now in
    let at : NoteSetting = record
    { head = b.stage.head; layout = b.stage.layout; spaces = b.stage.spaces; fields = c.deref.result } in
    cycled b.number b.age b.until b.stage b.foot.now b.code.now b.fields.items b.state c.requires.body c.begin.new.state
    c.begin.ensures.silent c.begin.ensures.channels c.begin.ensures.frames c.begin.ensures.same
    at refl refl refl c.deref.ensures.value _ c.requires.access
    c.perform.new.state (g.B.Bank.cells c.args.bank.now) (g.B.Bank.cells c.perform.new.bank) c.perform.ensures.run
    c.counts.ensures.whole c.len.ensures.whole
    (same_count g.B.Bank.cells g.B.Bank.rest g.B.Bank.access g.met.B.Bank.counted c.perform.new.bank c.args.bank.now
    c.perform.ensures.rest)

pub returns-clause-job : goal.returns-clause-job
returns-clause-job g c = (performed g c).job

pub returns-clause-cells : goal.returns-clause-cells
returns-clause-cells g c = (performed g c).cells

pub returns-clause-body : goal.returns-clause-body
returns-clause-body g c = (performed g c).kept
