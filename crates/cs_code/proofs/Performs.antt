-- The code of a control cycle has the same effect as the statements.
use Rattle.std.proofs.Common.{◌≡◌, ℕ, suc, ◌+◌, Bool, true, false, List, [], ◌∷◌, ◌++◌, length, map, Option}
use Rattle.std.proofs.Common.{if◌then◌else◌, refl, sym, ◌∙◌, ap, subst, arith, le_trans, length-append}
use Rattle.cs_base.specs.declared.resource.Rate.{Rate}
use Rattle.cs_ir.specs.{Machine.Machine, Machine.in_world, Machine.run, Values.holds, Waves.Wave, Waves.held}
use Rattle.cs_ir.specs.{Waves.if_init, Worlds.World, declared.op.Op.Op, declared.register.Reg.Reg}
use Rattle.cs_meaning.specs.Core.{Stmt, Block, Arms, set, unit, zak, store, out, out_at, ask, turnoff, nothing, choose}
use Rattle.cs_meaning.specs.Core.{no_stmt, andthen, otherwise, arm}
use Rattle.cs_meaning.specs.Notes.{Note, Path, next, inside, inside_arm, past_arm, moved_to, assign, given, done, value}
use Rattle.cs_meaning.specs.{Notes.values, Notes.sent, Notes.sent_at, When.cycle}
use Rattle.cs_code.specs.{declared.frame.Progress.Progress, Means.StandsInMachine}
use Rattle.cs_code.specs.inner.Kept.{past, past_parts, past_stmt, past_block, nowhere, parts, numbers, all_numbers}
use Rattle.cs_code.specs.inner.Kept.{stmt_numbers, block_numbers, arms_numbers}
use Rattle.cs_meaning.specs.Performing.{perf_stmt, perf_block, perf_arms}
use Rattle.cs_typed.specs.{TypedTree.Expression, declared.tree.Var.Var as Variable}
use Rattle.cs_typed.specs.declared.tree.Var.TheVariants.{Local, Global}
use Rattle.cs_code.specs.inner.Spots.{op_of, spot, spots, temp}
use Rattle.cs_code.specs.inner.Code.{operand_code, operands_code, set_code, unit_code, zak_code, store_code, out_ops}
use Rattle.cs_code.specs.inner.Code.{out_at_ops, arm_code, perf_code, perf_block_code, perf_arms_code}
use Rattle.cs_code.proofs.Arms.{Agrees, agrees_live, arm_runs}
use Rattle.cs_code.proofs.Expressions.{live_same, stands_same, operands_run, operand_runs}
use Rattle.cs_code.proofs.Inside.{AreApart, Lays, LaysOn, lays_on, stands_at, SuitsStmt, SuitsBlock, SuitsArms}
use Rattle.cs_code.proofs.{Numbers.stmt_unit, Numbers.block_unit, Runs.Live, Runs.run_append, Runs.live_step}
use Rattle.cs_code.proofs.Parts.{Quiet, Reached, moved_stands, set_runs, unit_runs, zak_runs, store_runs}
use Rattle.cs_base.specs.declared.resource.Rate.TheVariants as rate
use Rattle.cs_ir.specs.declared.op.Act.TheVariants as act
use Rattle.cs_meaning.specs.Notes as meaning

pub arm_length : (place : ℕ) (before : List Op) (q : Reg) (body rest : List Op)
    → place + length before + 1 + length body + 1 + length rest ≡ place + length (arm_code place before q body rest)
arm_length place before q body rest =
    let jump : Op = op_of (act.Jump (place + length before + 1 + length body + 1 + length rest)) q [] in
    let test : Op = op_of (act.Unless (place + length before + 1 + length body + 1)) q (q ∷ []) in
    let inner = length-append body (jump ∷ rest) in
    let outer = length-append before (test ∷ (body ++ (jump ∷ rest))) in
    omega arith

-- ---- performing refuses nothing

module _ {W : Type 0} (o : World W) (quiet : Quiet o) where
  assign_quiet : (v : Variable) (w : Wave) (t : Note W) → o.refused (assign o v w t).world ≡ o.refused t.world
  assign_quiet (Local r n) w t = refl
  assign_quiet (Global g) w t = quiet.save g _ t.world

  given_quiet : (vs : List Variable) (w : Wave) (t : Note W) → o.refused (given o vs w t).world ≡ o.refused t.world
  given_quiet [] w t = refl
  given_quiet (v ∷ vs) w t = assign_quiet v w t

  sent_quiet : (c : ℕ) (ws : List Wave) (x : W) → o.refused (sent o c ws x) ≡ o.refused x
  sent_quiet c [] x = refl
  sent_quiet c (w ∷ ws) x = sent_quiet (c + 1) ws (o.out c w x) ∙ quiet.out c w x

  sent_at_quiet : (ws : List Wave) (x : W) → o.refused (sent_at o ws x) ≡ o.refused x
  sent_at_quiet (k ∷ (w ∷ ws)) x = sent_at_quiet ws (o.out_at k w x) ∙ quiet.out_at k w x
  sent_at_quiet a x = refl

  init_quiet : (r : Rate) (t s : Note W) → o.refused s.world ≡ o.refused t.world
      → o.refused (if_init r t s).world ≡ o.refused t.world
  init_quiet rate.Init t s h = refl
  init_quiet a t s h = h

  if_quiet : (b : Bool) (t s u : Note W) → o.refused s.world ≡ o.refused t.world → o.refused u.world ≡ o.refused t.world
      → o.refused (if b then s else u).world ≡ o.refused t.world
  if_quiet true t s u h k = h
  if_quiet false t s u h k = k

  done_quiet : (r : Rate) (vs : List Variable) (p : W × Wave) (t : Note W) → o.refused p.0 ≡ o.refused t.world
      → o.refused (done o r vs p t).world ≡ o.refused t.world
  done_quiet r vs p t h = given_quiet vs (held o.ksmps r p.1) (moved_to p.0 t) ∙ h

  mutual
    pub stmt_quiet : (p : meaning.StatementPlace) (s : Stmt) (t : Note W)
        → o.refused (perf_stmt o p s t).world ≡ o.refused t.world
    stmt_quiet p (set r v e) t = init_quiet r t _ (assign_quiet v (value o t cycle (0 ∷ p.path) e) t)
    stmt_quiet p (unit r vs opcode reach xs is) t =
        let ws : List Wave = values o t cycle (0 ∷ p.path) xs in
        init_quiet r t _ (done_quiet r vs (o.does opcode r p.unit reach ws t.world) t
        (quiet.does opcode r p.unit reach ws t.world))
    stmt_quiet p (zak r vs opcode reach xs) t =
        let ws : List Wave = values o t cycle (0 ∷ p.path) xs in
        init_quiet r t _ (done_quiet r vs (o.zak opcode reach ws t.world) t (quiet.zak opcode reach ws t.world))
    stmt_quiet p (store r reach es is) t =
        let ws : List Wave = values o t cycle (0 ∷ p.path) es in
        init_quiet r t (moved_to (o.store r reach ws t.world) t) (quiet.store r reach ws t.world)
    stmt_quiet p (out r es) t = sent_quiet 0 (values o t cycle (0 ∷ p.path) es) t.world
    stmt_quiet p (out_at r es) t = sent_at_quiet (values o t cycle (0 ∷ p.path) es) t.world
    stmt_quiet p (turnoff r) t = quiet.turnoff t.world
    stmt_quiet p (choose r arms) t = arms_quiet (inside p) arms t
    stmt_quiet p a t = refl

    pub block_quiet : (p : meaning.StatementPlace) (b : Block) (t : Note W)
        → o.refused (perf_block o p b t).world ≡ o.refused t.world
    block_quiet p no_stmt t = refl
    block_quiet p (andthen s b) t = block_quiet (meaning.past_stmt p s) b (perf_stmt o p s t) ∙ stmt_quiet p s t

    pub arms_quiet : (p : meaning.StatementPlace) (arms : Arms) (t : Note W)
        → o.refused (perf_arms o p arms t).world ≡ o.refused t.world
    arms_quiet p (otherwise b) t = block_quiet (inside p) b t
    arms_quiet p (arm c b rest) t =
        if_quiet (holds (value o t cycle (0 ∷ p.path) c 0)) t (perf_block o (inside_arm p) b t)
        (perf_arms o (past_arm p b) rest t) (block_quiet (inside_arm p) b t) (arms_quiet (past_arm p b) rest t)

-- ---- output

module _ {W : Type 0} (o : World W) (quiet : Quiet o) where
  out_ops_run : (c : ℕ) (qs : List Reg) (place : ℕ) (m : Machine W) → Live o place m
      → run o place (out_ops c qs) m ≡ in_world (sent o c (map m.regs qs) m.world) m
  out_ops_run c [] place m l = refl
  out_ops_run c (q ∷ qs) place m l =
      let n : Machine W = in_world (o.out c (m.regs q) m.world) m in
      let live : Live o (place + 1) n =
      record { next = le_trans l.next (omega arith); going = quiet.out c (m.regs q) m.world ∙ l.going } in
      ap (run o (place + 1) (out_ops (c + 1) qs)) (live_step o place (op_of (act.Out c) q (q ∷ [])) m l)
      ∙ out_ops_run (c + 1) qs (place + 1) n live

  out_at_ops_run : (qs : List Reg) (place : ℕ) (m : Machine W) → Live o place m
      → run o place (out_at_ops qs) m ≡ in_world (sent_at o (map m.regs qs) m.world) m
  out_at_ops_run (k ∷ (q ∷ qs)) place m l =
      let n : Machine W = in_world (o.out_at (m.regs k) (m.regs q) m.world) m in
      let live : Live o (place + 1) n =
      record { next = le_trans l.next (omega arith); going = quiet.out_at (m.regs k) (m.regs q) m.world ∙ l.going } in
      ap (run o (place + 1) (out_at_ops qs)) (live_step o place (op_of act.OutAt q (k ∷ q ∷ [])) m l)
      ∙ out_at_ops_run qs (place + 1) n live
  out_at_ops_run a place m l = refl

module _ {W : Type 0} (o : World W) (quiet : Quiet o) (placed : Path → Option ℕ)
    (distinct : AreApart placed) where
  reached : (t s : Note W) (place : ℕ) (ops : List Op) (m n : Machine W) → Live o place m → Reached placed s m n
      → Agrees placed (place + length ops) s n
  reached t s place ops m n l h = record { stands = h.stands; next = (let e = h.next in let k = l.next in omega arith) }

  -- operands, followed by ops that only change the world
  sent_from : (es : List Expression) (last : List Op) (send : List Wave → W → W) (t : Note W) (at : ℕ) (path : Path)
      (place : ℕ) (m : Machine W) → ((n : Machine W) → Live o (place + length (operands_code cycle at es 0)) n
      → run o (place + length (operands_code cycle at es 0)) last n ≡ in_world
      (send (map n.regs (spots cycle at es 0)) n.world) n) → StandsInMachine placed t m → Live o place m
      → LaysOn placed path (all_numbers at es) → Reached placed (moved_to (send (values o t cycle path es) t.world) t) m
      (run o place (operands_code cycle at es 0 ++ last) m)
  sent_from es last send t at path place m does s l lays =
      let ops : List Op = operands_code cycle at es 0 in
      let n : Machine W = run o place ops m in
      let ready = operands_run o placed t es cycle at path 0 place m s l lays in
      let live : Live o (place + length ops) n = live_same o 0 place (length ops) m n l ready.same in
      let x : W = send (values o t cycle path es) t.world in
      let is : run o place (ops ++ last) m ≡ in_world x n =
      run_append o place ops last m ∙ does n live ∙ ap (λ ws. in_world (send ws n.world) n) ready.here
      ∙ ap (λ y. in_world (send (values o t cycle path es) y) n) (ready.same.world ∙ s.world) in
      subst (Reached placed (moved_to x t) m) (sym is) (record {
        stands = moved_stands o placed distinct t x m (in_world x n) s refl
            (λ p low. ready.same.regs p low);
        next = ready.same.next;
      })

  each_cycle : (r : Rate) (t s : Note W) (place : ℕ) (path : Path) (n : Path → Option ℕ) (ops : List Op) (m : Machine W)
      → Agrees placed place t m → Lays placed path (if_init r nowhere n)
      → (Lays placed path n → Agrees placed (place + length ops) s (run o place ops m))
      → Agrees placed (place + length (if_init r [] ops)) (if_init r t s) (run o place (if_init r [] ops) m)
  each_cycle rate.Init t s place path n ops m h lays does =
      record { stands = h.stands; next = le_trans h.next (omega arith) }
  each_cycle a t s place path n ops m h lays does = does lays

  mutual
    pub perf_runs : (s : Stmt) (path : Path) (p : Progress) (place : ℕ) (t : Note W) (m : Machine W)
        → Agrees placed place t m → o.refused t.world ≡ false → SuitsStmt s → Lays placed path (stmt_numbers p s)
        → Agrees placed (place + length (perf_code place p s)) (perf_stmt o (stands_at path p) s t)
        (run o place (perf_code place p s) m)
    perf_runs (set r v e) path p place t m h going suits lays =
        let ops : List Op = set_code cycle p.part v e in
        let live = agrees_live o placed place t m h going in
        let s : Note W = assign o v (value o t cycle (0 ∷ path) e) t in
        each_cycle r t s place path (parts (numbers p.part e) nowhere) ops m h lays (λ b.
        reached t s place ops m (run o place ops m) live
        (set_runs o placed distinct v cycle p.part (0 ∷ path) e t place m h.stands live
        (λ q. b (0 ∷ q))))
    perf_runs (unit r vs opcode reach xs is) path p place t m h going suits lays =
        let ops : List Op = unit_code cycle p.part r vs opcode p.unit reach xs in
        let live = agrees_live o placed place t m h going in
        let s : Note W = done o r vs (o.does opcode r p.unit reach (values o t cycle (0 ∷ path) xs) t.world) t in
        each_cycle r t s place path (all_numbers p.part xs) ops m h lays (λ b.
        reached t s place ops m (run o place ops m) live
        (unit_runs o placed distinct quiet cycle p.part (0 ∷ path) r vs opcode p.unit reach xs t place m h.stands live
        suits (lays_on placed path (all_numbers p.part xs) b)))
    perf_runs (zak r vs opcode reach xs) path p place t m h going suits lays =
        let ops : List Op = zak_code cycle p.part r vs opcode reach xs in
        let live = agrees_live o placed place t m h going in
        let s : Note W = done o r vs (o.zak opcode reach (values o t cycle (0 ∷ path) xs) t.world) t in
        each_cycle r t s place path (all_numbers p.part xs) ops m h lays (λ b.
        reached t s place ops m (run o place ops m) live
        (zak_runs o placed distinct quiet cycle p.part (0 ∷ path) r vs opcode reach xs t place m h.stands live suits
        (lays_on placed path (all_numbers p.part xs) b)))
    perf_runs (store r reach es is) path p place t m h going suits lays =
        let ops : List Op = store_code cycle p.part r reach es in
        let live = agrees_live o placed place t m h going in
        let s : Note W = moved_to (o.store r reach (values o t cycle (0 ∷ path) es) t.world) t in
        each_cycle r t s place path (all_numbers p.part es) ops m h lays (λ b.
        reached t s place ops m (run o place ops m) live
        (store_runs o placed distinct cycle p.part (0 ∷ path) r reach es t place m h.stands live
        (lays_on placed path (all_numbers p.part es) b)))
    perf_runs (out r es) path p place t m h going suits lays =
        let ops : List Op = operands_code cycle p.part es 0 in
        let last : List Op = out_ops 0 (spots cycle p.part es 0) in
        let live = agrees_live o placed place t m h going in
        reached t (moved_to (sent o 0 (values o t cycle (0 ∷ path) es) t.world) t) place (ops ++ last) m
        (run o place (ops ++ last) m) live (sent_from es last (sent o 0) t p.part (0 ∷ path) place m
        (λ n l. out_ops_run o quiet 0 (spots cycle p.part es 0) (place + length ops) n l) h.stands live
        (lays_on placed path (all_numbers p.part es) lays))
    perf_runs (out_at r es) path p place t m h going suits lays =
        let ops : List Op = operands_code cycle p.part es 0 in
        let last : List Op = out_at_ops (spots cycle p.part es 0) in
        let live = agrees_live o placed place t m h going in
        reached t (moved_to (sent_at o (values o t cycle (0 ∷ path) es) t.world) t) place (ops ++ last) m
        (run o place (ops ++ last) m) live (sent_from es last (sent_at o) t p.part (0 ∷ path) place m
        (λ n l. out_at_ops_run o quiet (spots cycle p.part es 0) (place + length ops) n l) h.stands live
        (lays_on placed path (all_numbers p.part es) lays))
    perf_runs (ask es) path p place t m h going suits lays =
        record { stands = h.stands; next = le_trans h.next (omega arith) }
    perf_runs (turnoff r) path p place t m h going suits lays =
        let op : Op = op_of act.Turnoff (temp rate.Init 0) [] in
        let live = agrees_live o placed place t m h going in
        let x : W = o.turnoff t.world in
        let is : run o place (op ∷ []) m ≡ in_world x m =
        live_step o place op m live ∙ ap (λ y. in_world (o.turnoff y) m) h.stands.world in
        subst (Agrees placed (place + 1) (moved_to x t)) (sym is) (record {
          stands = moved_stands o placed distinct t x m (in_world x m) h.stands refl (λ q low. refl);
          next = le_trans h.next (omega arith);
        })
    perf_runs nothing path p place t m h going suits lays =
        record { stands = h.stands; next = le_trans h.next (omega arith) }
    perf_runs (choose r arms) path p place t m h going suits lays =
        perf_arms_runs arms (0 ∷ path) p place t m h going suits.1 (lays_on placed path (arms_numbers p arms) lays)

    pub perf_block_runs : (b : Block) (path : Path) (p : Progress) (place : ℕ) (t : Note W) (m : Machine W)
        → Agrees placed place t m → o.refused t.world ≡ false → SuitsBlock b → LaysOn placed path (block_numbers p b)
        → Agrees placed (place + length (perf_block_code place p b)) (perf_block o (stands_at path p) b t)
        (run o place (perf_block_code place p b) m)
    perf_block_runs no_stmt path p place t m h going suits lays =
        record { stands = h.stands; next = le_trans h.next (omega arith) }
    perf_block_runs (andthen s b) path p place t m h going suits lays =
        let ops : List Op = perf_code place p s in
        let rest : List Op = perf_block_code (place + length ops) (past_stmt p s) b in
        let u : Note W = perf_stmt o (stands_at path p) s t in
        let first = perf_runs s path p place t m h going suits.0 (λ q. lays 0 q) in
        let more = perf_block_runs b (next path) (past_stmt p s) (place + length ops) u (run o place ops m) first
        (stmt_quiet o quiet (stands_at path p) s t ∙ going) suits.1 (λ k q. lays (suc k) q) in
        let far : place + length ops + length rest ≡ place + length (ops ++ rest) =
        (let l = length-append ops rest in omega arith) in
        subst (λ n. Agrees placed n (perf_block o (stands_at path p) (andthen s b) t) (run o place (ops ++ rest) m)) far
        (subst (Agrees placed (place + length ops + length rest) (perf_block o (stands_at path p) (andthen s b) t))
        (sym (run_append o place ops rest m)) (subst (λ (n : ℕ). Agrees placed (place + length ops + length rest)
        (perf_block o (record { path = next path; unit = n }) b u)
        (run o (place + length ops) rest (run o place ops m))) (stmt_unit p s) more))

    pub perf_arms_runs : (arms : Arms) (path : Path) (p : Progress) (place : ℕ) (t : Note W) (m : Machine W)
        → Agrees placed place t m
        → o.refused t.world ≡ false → SuitsArms arms → LaysOn placed path (arms_numbers p arms)
        → Agrees placed (place + length (perf_arms_code place p arms)) (perf_arms o (stands_at path p) arms t)
        (run o place (perf_arms_code place p arms) m)
    perf_arms_runs (otherwise b) path p place t m h going suits lays =
        perf_block_runs b (0 ∷ path) p place t m h going suits (lays_on placed path (block_numbers p b) (λ q. lays 0 q))
    perf_arms_runs (arm c b rest) path p place t m h going suits lays =
        let before : List Op = operand_code cycle p.part c 0 in
        let q : Progress = past_parts (past p.part c) p in
        let at : ℕ = place + length before + 1 in
        let body : List Op = perf_block_code at q b in
        let others : List Op = perf_arms_code (at + length body + 1) (past_block q b) rest in
        let holder : Reg = spot cycle p.part c 0 in
        let live = agrees_live o placed place t m h going in
        let ready = operand_runs o placed t c cycle p.part (0 ∷ path) 0 place m h.stands live
        (λ k. lays 0 (0 ∷ k)) in
        let n : Machine W = run o place before m in
        let there : Agrees placed (place + length before) t n = record {
          stands = stands_same o placed t 0 m n h.stands ready.same;
          next = (let e = ready.same.next in let k = h.next in omega arith);
        } in
        subst (λ far. Agrees placed far (perf_arms o (stands_at path p) (arm c b rest) t)
        (run o place (arm_code place before holder body others) m)) (arm_length place before holder body others)
        (arm_runs o placed place before holder body others t (perf_block o (stands_at (0 ∷ 1 ∷ path) q) b t)
        (perf_arms o (past_arm (stands_at path p) b) rest t) (value o t cycle (0 ∷ path) c) m there going ready.here
        (λ k a. perf_block_runs b (0 ∷ 1 ∷ path) q at t k a going suits.0
        (lays_on placed (1 ∷ path) (block_numbers q b) (λ j. lays 0 (1 ∷ j))))
        (λ k a. subst (λ (u : ℕ). Agrees placed (at + length body + 1 + length others)
        (perf_arms o (record { path = next path; unit = u }) rest t)
        (run o (at + length body + 1) others k)) (block_unit q b)
        (perf_arms_runs rest (next path) (past_block q b) (at + length body + 1) t k a going suits.1
        (λ i j. lays (suc i) j))))
