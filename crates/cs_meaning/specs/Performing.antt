-- The actions of a note in a control cycle.
use Rattle.std.specs.Prelude.{◌∷◌, if◌then◌else◌}
use Rattle.cs_ir.specs.{Values.holds, Waves.if_init, Worlds.World}
use Rattle.cs_meaning.specs.Core.{Stmt, Block, Arms, set, unit, zak, store, out, out_at, ask, turnoff, nothing, choose}
use Rattle.cs_meaning.specs.{Core.no_stmt, Core.andthen, Core.otherwise, Core.arm, When.cycle}
use Rattle.cs_meaning.specs.Notes.{Note, StatementPlace, moved_to, inside, inside_arm, past_stmt, past_arm, assign}
use Rattle.cs_meaning.specs.Notes.{value, values, done, sent, sent_at}

-- Performance: every statement that isn't i-rate, in the order of the text. An `if` takes the first arm whose
-- condition holds.
abbrev mutual
  pub perf_stmt : {W : Type 0} → World W → StatementPlace → Stmt → Note W → Note W
  perf_stmt o p (set r v e) t = if_init r t (assign o v (value o t cycle (0 ∷ p.path) e) t)
  perf_stmt o p (unit r vs opcode reach xs is) t =
      if_init r t (done o r vs (o.does opcode r p.unit reach (values o t cycle (0 ∷ p.path) xs) t.world) t)
  perf_stmt o p (zak r vs opcode reach xs) t =
      if_init r t (done o r vs (o.zak opcode reach (values o t cycle (0 ∷ p.path) xs) t.world) t)
  perf_stmt o p (store r reach es is) t =
      if_init r t (moved_to (o.store r reach (values o t cycle (0 ∷ p.path) es) t.world) t)
  perf_stmt o p (out r es) t = moved_to (sent o 0 (values o t cycle (0 ∷ p.path) es) t.world) t
  perf_stmt o p (out_at r es) t = moved_to (sent_at o (values o t cycle (0 ∷ p.path) es) t.world) t
  perf_stmt o p (ask es) t = t
  perf_stmt o p (turnoff r) t = moved_to (o.turnoff t.world) t
  perf_stmt o p nothing t = t
  perf_stmt o p (choose r arms) t = perf_arms o (inside p) arms t

  pub perf_block : {W : Type 0} → World W → StatementPlace → Block → Note W → Note W
  perf_block o p no_stmt t = t
  perf_block o p (andthen s b) t = perf_block o (past_stmt p s) b (perf_stmt o p s t)

  pub perf_arms : {W : Type 0} → World W → StatementPlace → Arms → Note W → Note W
  perf_arms o p (otherwise b) t = perf_block o (inside p) b t
  perf_arms o p (arm c b rest) t =
      if holds (value o t cycle (0 ∷ p.path) c 0) then perf_block o (inside_arm p) b t
      else perf_arms o (past_arm p b) rest t
