-- The initialisation code has the same effect as statements at the note's beginning.
use Rattle.std.proofs.Common.{◌≡◌, ℕ, suc, ◌+◌, false, List, [], ◌∷◌, ◌++◌, length, Option, Some, refl, sym, ◌∙◌, ap}
use Rattle.std.proofs.Common.{subst, arith, length-append}
use Rattle.cs_base.proofs.Tests.{by_test}
use Rattle.cs_base.specs.declared.resource.Rate.{Rate}
use Rattle.cs_words.specs.declared.catalogue.Opcode.{Opcode}
use Rattle.cs_ir.specs.{Machine.Machine, Machine.run, Waves.constant, Waves.if_init, Waves.first_values, Worlds.World}
use Rattle.cs_ir.specs.{declared.op.Op.Op, declared.op.Reach.Reach, declared.register.Reg.Reg}
use Rattle.cs_meaning.specs.Core.{Stmt, Block, Arms, set, unit, zak, store, out, out_at, ask, turnoff, nothing, choose}
use Rattle.cs_meaning.specs.{Core.no_stmt, Core.andthen, Core.otherwise, Core.arm, When.beginning}
use Rattle.cs_meaning.specs.Initialising.{going, keep, keep_all, started, run_once, sought, stored_once, zak_once}
use Rattle.cs_meaning.specs.Initialising.{init_stmt, init_block, init_first, init_all}
use Rattle.cs_meaning.specs.Notes.{Note, Path, next, past_arm, moved_to, assign, value, values}
use Rattle.cs_code.specs.{declared.frame.Progress.Progress, inner.Spots.kept_reg}
use Rattle.cs_code.specs.inner.Kept.{past, past_parts, past_stmt, past_block, nowhere, parts, numbers, all_numbers}
use Rattle.cs_code.specs.inner.Kept.{stmt_numbers, block_numbers, arms_numbers}
use Rattle.cs_typed.specs.{TypedTree.Expression, declared.tree.Var.Var as Variable}
use Rattle.cs_code.specs.inner.Code.{keep_code, keep_all_code, set_code, start_code, unit_code, zak_code, seek_code}
use Rattle.cs_code.specs.inner.Code.{store_code, ask_code, arm_code, init_code, init_block_code, first_code, all_code}
use Rattle.cs_code.proofs.Arms.{Agrees, agrees_live, agrees_later, arm_runs}
use Rattle.cs_code.proofs.Inside.{AreApart, Lays, LaysOn, lays_on, stands_at, Takes, SuitsStmt, SuitsBlock, SuitsArms}
use Rattle.cs_code.proofs.{Inside.AllStill, Performs.arm_length, Runs.Live, Runs.run_append, Runs.run_refused}
use Rattle.cs_code.proofs.Numbers.{still_number, stmt_unit, block_unit}
use Rattle.cs_code.proofs.Parts.{Quiet, Reached, Kept, live_kept, keep_runs, keep_all_runs, start_runs, seek_runs}
use Rattle.cs_code.proofs.Parts.{store_runs, ask_runs, set_runs, unit_runs, zak_runs}
use Rattle.cs_base.specs.declared.resource.Rate.TheVariants as rate

module _ {W : Type 0} (o : World W) (quiet : Quiet o) (placed : Path → Option ℕ) (distinct : AreApart placed) where
  from_reached : (s : Note W) (place : ℕ) (ops : List Op) (m n : Machine W) → Live o place m → Reached placed s m n
      → Agrees placed (place + length ops) s n
  from_reached s place ops m n l h =
      record { stands = h.stands; next = (let e = h.next in let k = l.next in omega arith) }

  from_kept : (s : Note W) (place : ℕ) (ops : List Op) (m n : Machine W) → Live o place m → Kept placed s m n
      → Agrees placed (place + length ops) s n
  from_kept s place ops m n l h = record { stands = h.stands; next = (let e = h.next in let k = l.next in omega arith) }

  -- after something was refused, neither the code nor the meaning does anything more
  going_runs : (place : ℕ) (ops : List Op) (t s : Note W) (m : Machine W) → Agrees placed place t m
      → (o.refused t.world ≡ false → Agrees placed (place + length ops) s (run o place ops m))
      → Agrees placed (place + length ops) (going o t s) (run o place ops m)
  going_runs place ops t s m h does = by_test (o.refused t.world)
      (λ e.
      let is : run o place ops m ≡ m = run_refused o place ops m (ap o.refused h.stands.world ∙ e) in
      rw e (subst (Agrees placed (place + length ops) t) (sym is)
      (agrees_later o placed place (place + length ops) t m (omega arith) h)))
      (λ e. rw e (does e))

  -- one code after another
  seq_runs : (place : ℕ) (a b : List Op) (s u : Note W) (m : Machine W)
      → Agrees placed (place + length a) s (run o place a m) → (Agrees placed (place + length a) s (run o place a m)
      → Agrees placed (place + length a + length b) u (run o (place + length a) b (run o place a m)))
      → Agrees placed (place + length (a ++ b)) u (run o place (a ++ b) m)
  seq_runs place a b s u m h does =
      let far : place + length a + length b ≡ place + length (a ++ b) = (let l = length-append a b in omega arith) in
      subst (λ n. Agrees placed n u (run o place (a ++ b) m)) far
      (subst (Agrees placed (place + length a + length b) u) (sym (run_append o place a b m)) (does h))

  -- a statement that is performed once, or one whose parts are kept
  rate_agrees : (r : Rate) (place : ℕ) (path : Path) (x : Path → Option ℕ) (once each : List Op) (s u : Note W)
      (m : Machine W) → Lays placed path (if_init r nowhere x)
      → Agrees placed (place + length once) s (run o place once m)
      → (Lays placed path x → Agrees placed (place + length each) u (run o place each m))
      → Agrees placed (place + length (if_init r once each)) (if_init r s u) (run o place (if_init r once each) m)
  rate_agrees rate.Init place path x once each s u m lays first other = first
  rate_agrees a place path x once each s u m lays first other = other lays

  unit_once : (n : ℕ) (r : Rate) (vs : List Variable) (opcode : Opcode) (reach : Reach) (xs is : List Expression)
      (place : ℕ) (t : Note W) (m : Machine W) → Agrees placed place t m → o.refused t.world ≡ false → Takes opcode vs
      → Agrees placed (place + length (start_code r opcode n is ++ unit_code beginning 0 r vs opcode n reach xs))
      (let s = started o r opcode n is t in going o s (run_once o r vs opcode n reach xs s))
      (run o place (start_code r opcode n is ++ unit_code beginning 0 r vs opcode n reach xs) m)
  unit_once u r vs opcode reach xs is place t m h live takes =
      let first : List Op = start_code r opcode u is in
      let rest : List Op = unit_code beginning 0 r vs opcode u reach xs in
      let s : Note W = started o r opcode u is t in
      let v : Note W = run_once o r vs opcode u reach xs s in
      let n : Machine W = run o place first m in
      let l = agrees_live o placed place t m h live in
      seq_runs place first rest s (going o s v) m
      (from_reached s place first m n l (start_runs o placed distinct r opcode u is t place m h.stands l))
      (λ k. going_runs (place + length first) rest s v n k (λ e.
      let lk = agrees_live o placed (place + length first) s n k e in
      from_reached v (place + length first) rest n (run o (place + length first) rest n) lk
      (unit_runs o placed distinct quiet beginning 0 [] r vs opcode u reach xs s (place + length first) n k.stands lk
      takes tt)))

  unit_each : (u at : ℕ) (path : Path) (r : Rate) (opcode : Opcode) (xs is : List Expression) (place : ℕ) (t : Note W)
      (m : Machine W) → Agrees placed place t m → o.refused t.world ≡ false → LaysOn placed path (all_numbers at xs)
      → Agrees placed (place + length (keep_all_code at xs ++ start_code r opcode u is))
      (started o r opcode u is (keep_all o path xs t)) (run o place (keep_all_code at xs ++ start_code r opcode u is) m)
  unit_each u at path r opcode xs is place t m h live lays =
      let first : List Op = keep_all_code at xs in
      let rest : List Op = start_code r opcode u is in
      let s : Note W = keep_all o path xs t in
      let n : Machine W = run o place first m in
      let l = agrees_live o placed place t m h live in
      let kept = keep_all_runs o placed distinct xs t at path place m h.stands l lays in
      let lk : Live o (place + length first) n = live_kept o placed place (length first) s m n l kept in
      seq_runs place first rest s (started o r opcode u is s) m (from_kept s place first m n l kept)
      (λ k. from_reached (started o r opcode u is s) (place + length first) rest n (run o (place + length first) rest n)
      lk (start_runs o placed distinct r opcode u is s (place + length first) n k.stands lk))

  store_once : (r : Rate) (reach : Reach) (es is : List Expression) (place : ℕ) (t : Note W) (m : Machine W)
      → Agrees placed place t m → o.refused t.world ≡ false
      → Agrees placed (place + length (seek_code is ++ store_code beginning 0 r reach es))
      (let s = sought o is t in going o s (stored_once o r reach es s))
      (run o place (seek_code is ++ store_code beginning 0 r reach es) m)
  store_once r reach es is place t m h live =
      let first : List Op = seek_code is in
      let rest : List Op = store_code beginning 0 r reach es in
      let s : Note W = sought o is t in
      let u : Note W = stored_once o r reach es s in
      let n : Machine W = run o place first m in
      let l = agrees_live o placed place t m h live in
      seq_runs place first rest s (going o s u) m
      (from_reached s place first m n l (seek_runs o placed distinct is t place m h.stands l))
      (λ k. going_runs (place + length first) rest s u n k (λ e.
      let lk = agrees_live o placed (place + length first) s n k e in
      from_reached u (place + length first) rest n (run o (place + length first) rest n) lk
      (store_runs o placed distinct beginning 0 [] r reach es s (place + length first) n k.stands lk tt)))

  store_each : (at : ℕ) (path : Path) (es is : List Expression) (place : ℕ) (t : Note W) (m : Machine W)
      → Agrees placed place t m → o.refused t.world ≡ false → LaysOn placed path (all_numbers at es)
      → Agrees placed (place + length (keep_all_code at es ++ seek_code is))
      (sought o is (keep_all o path es t)) (run o place (keep_all_code at es ++ seek_code is) m)
  store_each at path es is place t m h live lays =
      let first : List Op = keep_all_code at es in
      let rest : List Op = seek_code is in
      let s : Note W = keep_all o path es t in
      let n : Machine W = run o place first m in
      let l = agrees_live o placed place t m h live in
      let kept = keep_all_runs o placed distinct es t at path place m h.stands l lays in
      let lk : Live o (place + length first) n = live_kept o placed place (length first) s m n l kept in
      seq_runs place first rest s (sought o is s) m (from_kept s place first m n l kept)
      (λ k. from_reached (sought o is s) (place + length first) rest n (run o (place + length first) rest n) lk
      (seek_runs o placed distinct is s (place + length first) n k.stands lk))

  -- the arms of an `if` that is decided once, or of any other `if`
  choose_runs : (r : Rate) (arms : Arms) (path : Path) (p : Progress) (place : ℕ) (t : Note W) (m : Machine W)
      → (r ≡ rate.Init → AllStill arms) → (AllStill arms
      → Agrees placed (place + length (first_code place p arms)) (init_first o (stands_at path p) arms t)
      (run o place (first_code place p arms) m))
      → Agrees placed (place + length (all_code place p arms)) (init_all o (stands_at path p) arms t)
      (run o place (all_code place p arms) m)
      → Agrees placed (place + length (if_init r (first_code place p arms) (all_code place p arms)))
      (if_init r (init_first o (stands_at path p) arms t) (init_all o (stands_at path p) arms t))
      (run o place (if_init r (first_code place p arms) (all_code place p arms)) m)
  choose_runs rate.Init arms path p place t m still first all = first (still refl)
  choose_runs a arms path p place t m still first all = all

  -- the parts of values that are output in each cycle are kept
  sent_runs : (es : List Expression) (path : Path) (p : Progress) (place : ℕ) (t : Note W) (m : Machine W)
      → Agrees placed place t m → Lays placed path (all_numbers p.part es)
      → Agrees placed (place + length (keep_all_code p.part es)) (going o t (keep_all o (0 ∷ path) es t))
      (run o place (keep_all_code p.part es) m)
  sent_runs es path p place t m h lays =
      let ops : List Op = keep_all_code p.part es in
      let s : Note W = keep_all o (0 ∷ path) es t in
      going_runs place ops t s m h (λ live.
      let l = agrees_live o placed place t m h live in
      from_kept s place ops m (run o place ops m) l
      (keep_all_runs o placed distinct es t p.part (0 ∷ path) place m h.stands l
      (lays_on placed path (all_numbers p.part es) lays)))

  mutual
    pub init_runs : (s : Stmt) (path : Path) (p : Progress) (place : ℕ) (t : Note W) (m : Machine W)
        → Agrees placed place t m → SuitsStmt s → Lays placed path (stmt_numbers p s)
        → Agrees placed (place + length (init_code place p s)) (init_stmt o (stands_at path p) s t)
        (run o place (init_code place p s) m)
    init_runs (set r v e) path p place t m h suits lays =
        let once : List Op = set_code beginning 0 v e in
        let each : List Op = keep_code p.part e in
        let a : Note W = assign o v (value o t beginning [] e) t in
        let b : Note W = keep o (0 ∷ path) e t in
        going_runs place (if_init r once each) t (if_init r a b) m h (λ live.
        let l = agrees_live o placed place t m h live in
        rate_agrees r place path (parts (numbers p.part e) nowhere) once each a b m lays
        (from_reached a place once m (run o place once m) l
        (set_runs o placed distinct v beginning 0 [] e t place m h.stands l tt))
        (λ known. from_kept b place each m (run o place each m) l
        (keep_runs o placed distinct e t p.part (0 ∷ path) place m h.stands l (λ q. known (0 ∷ q)))))
    init_runs (unit r vs opcode reach xs is) path p place t m h suits lays =
        let once : List Op = start_code r opcode p.unit is ++ unit_code beginning 0 r vs opcode p.unit reach xs in
        let each : List Op = keep_all_code p.part xs ++ start_code r opcode p.unit is in
        let s : Note W = started o r opcode p.unit is t in
        let a : Note W = going o s (run_once o r vs opcode p.unit reach xs s) in
        let b : Note W = started o r opcode p.unit is (keep_all o (0 ∷ path) xs t) in
        going_runs place (if_init r once each) t (if_init r a b) m h (λ live.
        rate_agrees r place path (all_numbers p.part xs) once each a b m lays
        (unit_once p.unit r vs opcode reach xs is place t m h live suits)
        (λ known. unit_each p.unit p.part (0 ∷ path) r opcode xs is place t m h live
        (lays_on placed path (all_numbers p.part xs) known)))
    init_runs (zak r vs opcode reach xs) path p place t m h suits lays =
        let once : List Op = zak_code beginning 0 r vs opcode reach xs in
        let each : List Op = keep_all_code p.part xs in
        let a : Note W = zak_once o r vs opcode reach xs t in
        let b : Note W = keep_all o (0 ∷ path) xs t in
        going_runs place (if_init r once each) t (if_init r a b) m h (λ live.
        let l = agrees_live o placed place t m h live in
        rate_agrees r place path (all_numbers p.part xs) once each a b m lays
        (from_reached a place once m (run o place once m) l
        (zak_runs o placed distinct quiet beginning 0 [] r vs opcode reach xs t place m h.stands l suits tt))
        (λ known. from_kept b place each m (run o place each m) l
        (keep_all_runs o placed distinct xs t p.part (0 ∷ path) place m h.stands l
        (lays_on placed path (all_numbers p.part xs) known))))
    init_runs (store r reach es is) path p place t m h suits lays =
        let once : List Op = seek_code is ++ store_code beginning 0 r reach es in
        let each : List Op = keep_all_code p.part es ++ seek_code is in
        let s : Note W = sought o is t in
        let a : Note W = going o s (stored_once o r reach es s) in
        let b : Note W = sought o is (keep_all o (0 ∷ path) es t) in
        going_runs place (if_init r once each) t (if_init r a b) m h (λ live.
        rate_agrees r place path (all_numbers p.part es) once each a b m lays
        (store_once r reach es is place t m h live)
        (λ known. store_each p.part (0 ∷ path) es is place t m h live
        (lays_on placed path (all_numbers p.part es) known)))
    init_runs (out r es) path p place t m h suits lays = sent_runs es path p place t m h lays
    init_runs (out_at r es) path p place t m h suits lays = sent_runs es path p place t m h lays
    init_runs (ask es) path p place t m h suits lays =
        let ops : List Op = ask_code es in
        let s : Note W = moved_to (o.ask (first_values (values o t beginning [] es)) t.world) t in
        going_runs place ops t s m h (λ live.
        let l = agrees_live o placed place t m h live in
        from_reached s place ops m (run o place ops m) l (ask_runs o placed distinct es t place m h.stands l))
    init_runs (turnoff r) path p place t m h suits lays =
        agrees_later o placed place (place + 0) t m (omega arith) h
    init_runs nothing path p place t m h suits lays = agrees_later o placed place (place + 0) t m (omega arith) h
    init_runs (choose r arms) path p place t m h suits lays =
        let known = lays_on placed path (arms_numbers p arms) lays in
        going_runs place (if_init r (first_code place p arms) (all_code place p arms)) t
        (if_init r (init_first o (stands_at (0 ∷ path) p) arms t) (init_all o (stands_at (0 ∷ path) p) arms t)) m h
        (λ live.
        choose_runs r arms (0 ∷ path) p place t m suits.0
        (λ still. first_runs arms (0 ∷ path) p place t m h live still suits.1 known)
        (all_runs arms (0 ∷ path) p place t m h suits.1 known))

    pub init_block_runs : (b : Block) (path : Path) (p : Progress) (place : ℕ) (t : Note W) (m : Machine W)
        → Agrees placed place t m → SuitsBlock b → LaysOn placed path (block_numbers p b)
        → Agrees placed (place + length (init_block_code place p b)) (init_block o (stands_at path p) b t)
        (run o place (init_block_code place p b) m)
    init_block_runs no_stmt path p place t m h suits lays =
        agrees_later o placed place (place + 0) t m (omega arith) h
    init_block_runs (andthen s b) path p place t m h suits lays =
        let ops : List Op = init_code place p s in
        let rest : List Op = init_block_code (place + length ops) (past_stmt p s) b in
        let u : Note W = init_stmt o (stands_at path p) s t in
        seq_runs place ops rest u (init_block o (stands_at path p) (andthen s b) t) m
        (init_runs s path p place t m h suits.0 (λ q. lays 0 q))
        (λ k. subst (λ (n : ℕ). Agrees placed (place + length ops + length rest)
        (init_block o (record { path = next path; unit = n }) b u)
        (run o (place + length ops) rest (run o place ops m))) (stmt_unit p s)
        (init_block_runs b (next path) (past_stmt p s) (place + length ops) u (run o place ops m) k suits.1
        (λ i q. lays (suc i) q)))

    first_runs : (arms : Arms) (path : Path) (p : Progress) (place : ℕ) (t : Note W) (m : Machine W)
        → Agrees placed place t m → o.refused t.world ≡ false → AllStill arms → SuitsArms arms
        → LaysOn placed path (arms_numbers p arms)
        → Agrees placed (place + length (first_code place p arms)) (init_first o (stands_at path p) arms t)
        (run o place (first_code place p arms) m)
    first_runs (otherwise b) path p place t m h live still suits lays =
        init_block_runs b (0 ∷ path) p place t m h suits (lays_on placed path (block_numbers p b) (λ q. lays 0 q))
    first_runs (arm c b rest) path p place t m h live still suits lays =
        let before : List Op = keep_code p.part c in
        let q : Progress = past_parts (past p.part c) p in
        let s : Note W = keep o (0 ∷ path) c t in
        let at : ℕ = place + length before + 1 in
        let body : List Op = init_block_code at q b in
        let others : List Op = first_code (at + length body + 1) (past_block q b) rest in
        let holder : Reg = kept_reg p.part in
        let n : Machine W = run o place before m in
        let l = agrees_live o placed place t m h live in
        let kept = keep_runs o placed distinct c t p.part (0 ∷ path) place m h.stands l
        (λ k. lays 0 (0 ∷ k)) in
        let there : placed (0 ∷ path) ≡ Some p.part = lays 0 (0 ∷ []) ∙ still_number p.part c still.0 in
        let calm : o.refused s.world ≡ false =
        ap o.refused (sym kept.stands.world ∙ kept.world ∙ h.stands.world) ∙ live in
        subst (λ far. Agrees placed far (init_first o (stands_at path p) (arm c b rest) t)
        (run o place (arm_code place before holder body others) m)) (arm_length place before holder body others)
        (arm_runs o placed place before holder body others s (init_block o (stands_at (0 ∷ 1 ∷ path) q) b s)
        (init_first o (past_arm (stands_at path p) b) rest s) (constant (s.kept (0 ∷ path))) m
        (from_kept s place before m n l kept) calm (kept.stands.kept (0 ∷ path) p.part there)
        (λ k a. init_block_runs b (0 ∷ 1 ∷ path) q at s k a suits.0
        (lays_on placed (1 ∷ path) (block_numbers q b) (λ j. lays 0 (1 ∷ j))))
        (λ k a. subst (λ (u : ℕ). Agrees placed (at + length body + 1 + length others)
        (init_first o (record { path = next path; unit = u }) rest s)
        (run o (at + length body + 1) others k)) (block_unit q b)
        (first_runs rest (next path) (past_block q b) (at + length body + 1) s k a calm still.1 suits.1
        (λ i j. lays (suc i) j))))

    all_runs : (arms : Arms) (path : Path) (p : Progress) (place : ℕ) (t : Note W) (m : Machine W)
        → Agrees placed place t m → SuitsArms arms → LaysOn placed path (arms_numbers p arms)
        → Agrees placed (place + length (all_code place p arms)) (init_all o (stands_at path p) arms t)
        (run o place (all_code place p arms) m)
    all_runs (otherwise b) path p place t m h suits lays =
        init_block_runs b (0 ∷ path) p place t m h suits (lays_on placed path (block_numbers p b) (λ q. lays 0 q))
    all_runs (arm c b rest) path p place t m h suits lays =
        let before : List Op = keep_code p.part c in
        let q : Progress = past_parts (past p.part c) p in
        let s : Note W = keep o (0 ∷ path) c t in
        let at : ℕ = place + length before in
        let body : List Op = init_block_code at q b in
        let others : List Op = all_code (at + length body) (past_block q b) rest in
        let u : Note W = init_block o (stands_at (0 ∷ 1 ∷ path) q) b s in
        let end : Note W = init_all o (past_arm (stands_at path p) b) rest u in
        let n : Machine W = run o place before m in
        going_runs place (before ++ (body ++ others)) t end m h (λ live.
        let l = agrees_live o placed place t m h live in
        seq_runs place before (body ++ others) s end m (from_kept s place before m n l
        (keep_runs o placed distinct c t p.part (0 ∷ path) place m h.stands l (λ k. lays 0 (0 ∷ k))))
        (λ k. seq_runs at body others u end n (init_block_runs b (0 ∷ 1 ∷ path) q at s n k suits.0
        (lays_on placed (1 ∷ path) (block_numbers q b) (λ j. lays 0 (1 ∷ j))))
        (λ j. subst (λ (v : ℕ). Agrees placed (at + length body + length others)
        (init_all o (record { path = next path; unit = v }) rest u)
        (run o (at + length body) others (run o at body n))) (block_unit q b)
        (all_runs rest (next path) (past_block q b) (at + length body) u (run o at body n) j suits.1
        (λ i x. lays (suc i) x)))))
