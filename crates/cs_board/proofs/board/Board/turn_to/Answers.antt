use Rattle.std.proofs.Common.{◌≡◌, ◌+◌, ◌-◌, ℕ, List, arith}
use Rattle.cs_board.specs.{Board.plan, inner.Sittings.deed, Plans.places_written}
use Rattle.std.proofs.lemmas.Option.{slice_get_within, get_or_from_slice_get}
use Rattle.cs_board.proofs.Kept.{turns_on}
use Rattle.cs_board.proofs.board.Board.turn_to.Goals as goal

pub store-requires : goal.store-requires
store-requires g c =
    let d = deed c.args.sitting.now.me.0 in
    let W : List ℕ = places_written g.J.Job.means (plan c.args.self.now) d.note in
    let phase : d.phase ≡ d.phase - 1 + 1 = omega (arith, c.requires.begun) in (
      c.requires.sitting.table,
      omega (arith, c.turn_word-word.ensures, c.requires.area, c.args.self.now.built.words),
      rw c.turn_word-word.ensures (turns_on g.J.Job.means (plan c.args.self.now) g.met.J.Job.frames
          c.args.self.now.frame.table.shared.table_id.slots c.args.sitting.now.id c.args.sitting.now.me
          c.requires.sitting.knows.plan c.requires.sitting.knows.live c.requires.sitting.knows.playing d
          c.requires.doing c.requires.held (d.phase - 1) c.args.area c.args.value phase
          (slice_get_within W (d.phase - 1) c.args.area c.requires.next)
          (get_or_from_slice_get W (d.phase - 1) c.args.area 0 c.requires.next) c.requires.value),
    )
