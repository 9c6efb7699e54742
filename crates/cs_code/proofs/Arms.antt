-- An arm of an `if`: its condition, followed by its body or the remaining arms.
use Rattle.std.proofs.Common.{◌≡◌, ℕ, ◌+◌, ◌≤◌, false, List, [], ◌∷◌, ◌++◌, length, Option, if◌then◌else◌, refl, sym}
use Rattle.std.proofs.Common.{◌∙◌, ap, subst, arith, le_trans}
use Rattle.cs_base.proofs.Tests.{by_test}
use Rattle.cs_ir.specs.Machine.{Machine, step, run}
use Rattle.cs_ir.specs.{Values.holds, Waves.Wave, Worlds.World, declared.op.Op.Op, declared.register.Reg.Reg}
use Rattle.cs_meaning.specs.Notes.{Note, Path}
use Rattle.cs_code.specs.{Means.StandsInMachine, inner.Spots.op_of, inner.Code.arm_code}
use Rattle.cs_code.proofs.Runs.{Live, run_append, live_step, skip_step, run_past, run_refused}
use Rattle.cs_ir.specs.declared.op.Act.TheVariants as act

-- A machine corresponds to a note, and continues at a place or before it.
pub record Agrees {W : Type 0} (placed : Path → Option ℕ) (place : ℕ) (t : Note W) (m : Machine W) : Type 0 where
  pub stands : StandsInMachine placed t m
  pub next : m.next ≤ place

module _ {W : Type 0} (o : World W) (placed : Path → Option ℕ) where
  pub agrees_live : (place : ℕ) (t : Note W) (m : Machine W) → Agrees placed place t m → o.refused t.world ≡ false
      → Live o place m
  agrees_live place t m a going = record { next = a.next; going = ap o.refused a.stands.world ∙ going }

  -- only the place of the next op changes
  agrees_at : (place to : ℕ) (t : Note W) (m : Machine W) → StandsInMachine placed t m → to ≤ place
      → Agrees placed place t (record m { next = to })
  agrees_at place to t m s le =
      record { stands = record { locals = s.locals; kept = s.kept; world = s.world }; next = le }

  pub agrees_later : (place later : ℕ) (t : Note W) (m : Machine W) → place ≤ later → Agrees placed place t m
      → Agrees placed later t m
  agrees_later place later t m le a = record { stands = a.stands; next = le_trans a.next le }

  -- After the body, the remaining arms are skipped, by the jump or because something was refused.
  leave_runs : (at : ℕ) (q : Reg) (rest : List Op) (t : Note W) (m : Machine W) → Agrees placed at t m
      → Agrees placed (at + 1 + length rest) t (run o at (op_of (act.Jump (at + 1 + length rest)) q [] ∷ rest) m)
  leave_runs at q rest t m a = by_test (o.refused m.world)
      (λ e.
      let is : run o at (op_of (act.Jump (at + 1 + length rest)) q [] ∷ rest) m ≡ m =
      run_refused o at (op_of (act.Jump (at + 1 + length rest)) q [] ∷ rest) m e in
      subst (Agrees placed (at + 1 + length rest) t) (sym is)
      (agrees_later at (at + 1 + length rest) t m (omega arith) a))
      (λ e.
      let jump : Op = op_of (act.Jump (at + 1 + length rest)) q [] in
      let n : Machine W = record m { next = at + 1 + length rest } in
      let live : Live o at m = record { next = a.next; going = e } in
      let is : run o at (jump ∷ rest) m ≡ n =
      ap (run o (at + 1) rest) (live_step o at jump m live) ∙ run_past o (at + 1) rest n (omega arith) in
      subst (Agrees placed (at + 1 + length rest) t) (sym is)
      (agrees_at (at + 1 + length rest) (at + 1 + length rest) t m a.stands (omega arith)))

  -- if the condition holds, the body runs, followed by a jump past the remaining arms
  taken_runs : (at : ℕ) (q : Reg) (body rest : List Op) (t : Note W) (m : Machine W)
      → Agrees placed (at + length body) t (run o at body m) → Agrees placed (at + length body + 1 + length rest) t
      (run o at (body ++ (op_of (act.Jump (at + length body + 1 + length rest)) q [] ∷ rest)) m)
  taken_runs at q body rest t m a =
      let jump : Op = op_of (act.Jump (at + length body + 1 + length rest)) q [] in
      subst (Agrees placed (at + length body + 1 + length rest) t) (sym (run_append o at body (jump ∷ rest) m))
      (leave_runs (at + length body) q rest t (run o at body m) a)

  -- if the condition doesn't hold, the body and its jump are skipped
  passed_runs : (at : ℕ) (jump : Op) (body rest : List Op) (t : Note W) (m : Machine W) → m.next ≡ at + length body + 1
      → Agrees placed (at + length body + 1 + length rest) t (run o (at + length body + 1) rest m)
      → Agrees placed (at + length body + 1 + length rest) t (run o at (body ++ (jump ∷ rest)) m)
  passed_runs at jump body rest t m next a =
      let past : run o at body m ≡ m = run_past o at body m (omega arith) in
      let over : step o (at + length body) jump m ≡ m = skip_step o (at + length body) jump m (omega arith) in
      let is : run o at (body ++ (jump ∷ rest)) m ≡ run o (at + length body + 1) rest m =
      run_append o at body (jump ∷ rest) m ∙ ap (run o (at + length body) (jump ∷ rest)) past
      ∙ ap (run o (at + length body + 1) rest) over in
      subst (Agrees placed (at + length body + 1 + length rest) t) (sym is) a

  -- The run of an arm, from the run of its condition, and the runs of its body and of the remaining arms on
  -- any machine that agrees there.
  pub arm_runs : (place : ℕ) (before : List Op) (q : Reg) (body rest : List Op) (s tb tr : Note W) (w : Wave)
      (m : Machine W) → Agrees placed (place + length before) s (run o place before m) → o.refused s.world ≡ false
      → (run o place before m).regs q ≡ w → ((n : Machine W) → Agrees placed (place + length before + 1) s n
      → Agrees placed (place + length before + 1 + length body) tb (run o (place + length before + 1) body n))
      → ((n : Machine W) → Agrees placed (place + length before + 1 + length body + 1) s n
      → Agrees placed (place + length before + 1 + length body + 1 + length rest) tr
      (run o (place + length before + 1 + length body + 1) rest n))
      → Agrees placed (place + length before + 1 + length body + 1 + length rest) (if holds (w 0) then tb else tr)
      (run o place (arm_code place before q body rest) m)
  arm_runs place before q body rest s tb tr w m a going is inner outer =
      let n : Machine W = run o place before m in
      let at : ℕ = place + length before + 1 in
      let else_at : ℕ = at + length body + 1 in
      let end : ℕ = else_at + length rest in
      let test : Op = op_of (act.Unless else_at) q (q ∷ []) in
      let jump : Op = op_of (act.Jump end) q [] in
      let tail : List Op = body ++ (jump ∷ rest) in
      let live : Live o (place + length before) n = agrees_live (place + length before) s n a going in
      let stepped : step o (place + length before) test n ≡ record n
      { next = if holds (w 0) then n.next else else_at } =
      live_step o (place + length before) test n live
      ∙ ap (λ v. record n { next = if holds (v 0) then n.next else else_at }) is in
      let gone : run o place (before ++ (test ∷ tail)) m ≡ run o at tail
      (record n { next = if holds (w 0) then n.next else else_at }) =
      run_append o place before (test ∷ tail) m ∙ ap (run o at tail) stepped in
      subst (Agrees placed end (if holds (w 0) then tb else tr)) (sym gone) (by_test (holds (w 0))
      (λ e. rw e (taken_runs at q body rest tb (record n { next = n.next })
      (inner (record n { next = n.next }) (agrees_at at n.next s n a.stands (le_trans a.next (omega arith))))))
      (λ e. rw e (passed_runs at jump body rest tr (record n { next = else_at }) refl
      (outer (record n { next = else_at }) (agrees_at else_at else_at s n a.stands (omega arith))))))
