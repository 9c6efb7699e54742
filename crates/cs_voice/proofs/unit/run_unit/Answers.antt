use Rattle.std.proofs.Common.{◌≡◌, ◌∙◌, ap, map, refl, subst, sym, slice_index_or, slice_set, Some, None, List, Option}
use Rattle.std.proofs.lemmas.List.{get_or_read}
use Rattle.cs_cells.specs.Cells.{cell}
use Rattle.cs_ir.specs.{Placed.regs_read, Registers.rate_at, Waves.constant}
use Rattle.cs_machine.specs.{Players.PlayerData, Registers.IsWritten, Registers.values}
use Rattle.cs_voice.proofs.{Playing.plays_within, Playing.rests_beyond, Playing.rests_none, Ran.unit_done}
use Rattle.cs_voice.proofs.unit.run_unit.Goals as goal

pub play-requires-clause-unit : goal.play-requires-clause-unit
play-requires-clause-unit g c = (c.requires.unit c.in-Some.player (sym (get_or_read c.args.state.now.players.items _ _
    c.requires.number c.index_mut.ensures.value None) ∙ c.in-Some.is)).unit

pub play-requires-clause-count : goal.play-requires-clause-count
play-requires-clause-count g c = (c.requires.unit c.in-Some.player (sym (get_or_read c.args.state.now.players.items _ _
    c.requires.number c.index_mut.ensures.value None) ∙ c.in-Some.is)).operands

pub play-requires-clause-read : goal.play-requires-clause-read
play-requires-clause-read g c = (c.requires.unit c.in-Some.player (sym (get_or_read c.args.state.now.players.items _ _
    c.requires.number c.index_mut.ensures.value None) ∙ c.in-Some.is)).read
    (sym c.may_touch.ensures ∙ c.if-may_touch.true)

pub returns-then-may_touch-clause-does : goal.returns-then-may_touch-clause-does
returns-then-may_touch-clause-does g c =
    let old = c.args.state.now in
    let units : List (Option PlayerData) = old.players.items in
    let is : slice_index_or units c.args.number None ≡ Some c.in-Some.player =
    sym (get_or_read units _ _ c.requires.number c.index_mut.ensures.value None) ∙ c.in-Some.is in
    let ran = plays_within old.regs.ksmps (rate_at c.args.into) c.args.reach (map (values old.regs) (regs_read
    c.args.from)) (cell (g.B.Bank.cells c.args.bank.now)) (slice_index_or units c.args.number None) c.in-Some.player is
    (sym c.may_touch.ensures ∙ c.if-may_touch.true) in
    unit_done c.requires.number (ap cell c.play.ensures.same) (record {
      regs = subst (λ w. IsWritten old.regs c.args.into w c.play.new.regs) ran.1 c.play.ensures.values;
      players = ap (slice_set units c.args.number) (ap Some c.play.ensures.unit ∙ ran.0);
      outs = refl;
      delays = refl;
      ended = refl;
      row = c.play.ensures.row;
    })

pub returns-else-may_touch-clause-does : goal.returns-else-may_touch-clause-does
returns-else-may_touch-clause-does g c =
    let old = c.args.state.now in
    let units : List (Option PlayerData) = old.players.items in
    let is : slice_index_or units c.args.number None ≡ Some c.in-Some.player =
    sym (get_or_read units _ _ c.requires.number c.index_mut.ensures.value None) ∙ c.in-Some.is in
    let ran = rests_beyond old.regs.ksmps (rate_at c.args.into) c.args.reach (map (values old.regs) (regs_read
    c.args.from)) (cell (g.B.Bank.cells c.args.bank.now)) (slice_index_or units c.args.number None) c.in-Some.player is
    (sym c.may_touch.ensures ∙ c.if-may_touch.false) in
    unit_done c.requires.number refl (record {
      regs = subst (λ w. IsWritten old.regs c.args.into w c.hold.new.self) (ap constant c.exact.ensures ∙ ran.1)
          c.hold.ensures.values;
      players = ap (slice_set units c.args.number) ran.0;
      outs = refl;
      delays = refl;
      ended = refl;
      row = c.hold.ensures.row;
    })

pub returns-in-None-clause-does : goal.returns-in-None-clause-does
returns-in-None-clause-does g c =
    let old = c.args.state.now in
    let units : List (Option PlayerData) = old.players.items in
    let is : slice_index_or units c.args.number None ≡ None =
    sym (get_or_read units _ _ c.requires.number c.index_mut.ensures.value None) ∙ c.in-None.is in
    let ran = rests_none old.regs.ksmps (rate_at c.args.into) c.args.reach (map (values old.regs) (regs_read
    c.args.from)) (cell (g.B.Bank.cells c.args.bank.now)) (slice_index_or units c.args.number None) is in
    unit_done c.requires.number refl (record {
      regs = subst (λ w. IsWritten old.regs c.args.into w c.hold-in-None.new.self)
          (ap constant c.exact-in-None.ensures ∙ ran.1) c.hold-in-None.ensures.values;
      players = ap (slice_set units c.args.number) (c.in-None.is ∙ ran.0);
      outs = refl;
      delays = refl;
      ended = refl;
      row = c.hold-in-None.ensures.row;
    })
