-- The code of assignments, kept parts and units has the effect of their meaning.
use Rattle.std.proofs.Common.{◌≡◌, ℕ, suc, ◌+◌, ◌≤◌, ℤ, Bool, true, false, List, [], ◌∷◌, ◌++◌, length, map, Option}
use Rattle.std.proofs.Common.{Some, if◌then◌else◌, refl, sym, ◌∙◌, ap, subst, arith, le_trans}
use Rattle.cs_base.proofs.{Rates.same_rate_is, Tests.by_test, Tests.some_is}
use Rattle.std.proofs.lemmas.Slice.Eq.{bytes_eq-Decides}
use Rattle.std.specs.Str.{bytes_eq as same_path}
use Rattle.cs_base.specs.{Rates.same_rate, Rates.res_rate, declared.resource.Rate.Rate, declared.resource.Res.Res}
use Rattle.cs_words.specs.declared.catalogue.Opcode.{Opcode}
use Rattle.cs_ir.specs.Machine.{Machine, same_reg, put, write, written, gives, in_world, acts, step, run}
use Rattle.cs_ir.specs.{Registers.rate_at, Worlds.World, declared.op.Act.Act, declared.op.Op.Op}
use Rattle.cs_ir.specs.{declared.op.Reach.Reach, declared.register.Reg.Reg}
use Rattle.cs_ir.specs.Waves.{Wave, held, constant, if_init, first_values}
use Rattle.cs_meaning.specs.Initialising.{put_kept, keep, keep_all, started, sought}
use Rattle.cs_meaning.specs.Notes.{Note, Path, next, reg, moved_to, assign, value, values, first_value, done}
use Rattle.cs_meaning.specs.When.{When, beginning}
use Rattle.cs_code.specs.inner.Kept.{past, itself, nowhere, numbers, all_numbers}
use Rattle.cs_typed.specs.TypedTree.{Expression, neg, pair, pick, apply}
use Rattle.cs_typed.specs.{WellRated.node_rate, declared.tree.Var.Var as Variable}
use Rattle.cs_typed.specs.declared.tree.Var.TheVariants.{Local, Global}
use Rattle.cs_code.specs.{Means.StandsInMachine, inner.Code.store_code, inner.Code.ask_code}
use Rattle.cs_code.specs.inner.Spots.{op_of, kept_reg, temp, spot, spots}
use Rattle.cs_code.specs.inner.Code.{code, operand_code, operands_code, kept_code, keep_code, keep_all_code, set_code}
use Rattle.cs_code.specs.inner.Code.{target, given_code, on_code, run_code, start_code, unit_code, zak_code, seek_code}
use Rattle.cs_code.proofs.Expressions.{Wrote, live_same, stands_same, operands_run, operand_runs, code_runs}
use Rattle.cs_code.proofs.{Named.target_rate, Inside.AreApart, Inside.Lays, Inside.LaysOn, Inside.Reads, Inside.Takes}
use Rattle.cs_ir.proofs.RegisterKinds.{local_rate, same_reg_is}
use Rattle.cs_code.proofs.Runs.{Live, run_append, live_step, run_snoc, apart, put_here, put_other, held_again, Under}
use Rattle.cs_code.proofs.Runs.{under_local, under_apart, local_not_kept, kept_not_local, temp_rate}
use Rattle.cs_base.specs.declared.resource.Rate.TheVariants as rate
use Rattle.cs_ir.specs.declared.op.Act.TheVariants as act

-- The actions of a note that a world never refuses. Only the start of a unit, the lookup of a table, and a
-- scheduled note may be refused.
pub record Quiet {W : Type 0} (o : World W) : Type 0 where
  pub save : (g : Res) (w : Wave) (x : W) → o.refused (o.save g w x) ≡ o.refused x
  pub does : (opcode : Opcode) (r : Rate) (u : ℕ) (reach : Reach) (ws : List Wave) (x : W)
      → o.refused (o.does opcode r u reach ws x).0 ≡ o.refused x
  pub store : (r : Rate) (reach : Reach) (ws : List Wave) (x : W) → o.refused (o.store r reach ws x) ≡ o.refused x
  pub zak : (opcode : Opcode) (reach : Reach) (ws : List Wave) (x : W)
      → o.refused (o.zak opcode reach ws x).0 ≡ o.refused x
  pub out : (c : ℕ) (w : Wave) (x : W) → o.refused (o.out c w x) ≡ o.refused x
  pub out_at : (k w : Wave) (x : W) → o.refused (o.out_at k w x) ≡ o.refused x
  pub turnoff : (x : W) → o.refused (o.turnoff x) ≡ o.refused x

-- A code has led to a note; and has done so without changing the world.
pub record Reached {W : Type 0} (placed : Path → Option ℕ) (s : Note W) (m n : Machine W) : Type 0 where
  pub stands : StandsInMachine placed s n
  pub next : n.next ≡ m.next

pub record Kept {W : Type 0} (placed : Path → Option ℕ) (s : Note W) (m n : Machine W) : Type 0 where
  pub stands : StandsInMachine placed s n
  pub next : n.next ≡ m.next
  pub world : n.world ≡ m.world

pub live_kept : {W : Type 0} (o : World W) (placed : Path → Option ℕ) (place more : ℕ) (s : Note W) (m n : Machine W)
    → Live o place m → Kept placed s m n → Live o (place + more) n
live_kept o placed place more s m n l k = record {
  next = (let e = k.next in let h = l.next in omega arith);
  going = ap o.refused k.world ∙ l.going;
}

module _ {W : Type 0} (o : World W) (placed : Path → Option ℕ) (distinct : AreApart placed) where
  -- ---- the effect on a note when a register is written and when the world changes

  pub local_wrote : (t : Note W) (r : Rate) (x : ℕ) (w : Wave) (m n : Machine W)
      → StandsInMachine placed t m → Wrote (reg r x) 0 w m n
      → StandsInMachine placed (record t { locals = put t.locals (reg r x) w }) n
  local_wrote t r x w m n s h = record {
    locals = λ q k. by_test (same_reg (reg q k) (reg r x))
        (λ e. subst (λ p. n.regs p ≡ w) (sym (same_reg_is (reg q k) (reg r x) e)) h.here ∙ rw e refl)
        (λ e. h.others (reg q k) e (under_local q k 0) ∙ s.locals q k
        ∙ sym (put_other t.locals (reg r x) w (reg q k) e));
    kept = λ p k is. h.others (kept_reg k) (kept_not_local r x k) tt ∙ s.kept p k is;
    world = h.world ∙ s.world;
  }

  kept_wrote : (t : Note W) (path : Path) (at : ℕ) (z : ℤ) (m n : Machine W) → StandsInMachine placed t m
      → placed path ≡ Some at → Wrote (kept_reg at) 0 (constant z) m n → Kept placed (put_kept path z t) m n
  kept_wrote t path at z m n s is h = record {
    stands = record {
      locals = λ q k. h.others (reg q k) (local_not_kept q k at) (under_local q k 0) ∙ s.locals q k;
      kept = λ p k there. by_test (same_path p path)
          (λ e.
          let here : p ≡ path = (bytes_eq-Decides p path).0 e in
          let same : at ≡ k = some_is at k (sym is ∙ ap placed (sym here) ∙ there) in
          subst (λ j. n.regs (kept_reg j) ≡ constant z) same h.here ∙ rw e refl)
          (λ e. h.others (kept_reg k) (apart (kept_reg k) (kept_reg at) (λ r same. absurd (
          let here : p ≡ path = distinct p path at (there ∙ ap (λ j. Some j) same) is in
          let never : true ≡ false = sym ((bytes_eq-Decides p path).1 here) ∙ e in cc))) tt
          ∙ s.kept p k there ∙ rw e refl);
      world = h.world ∙ s.world;
    };
    next = h.next;
    world = h.world;
  }

  pub moved_stands : (t : Note W) (x : W) (m n : Machine W) → StandsInMachine placed t m → n.world ≡ x
      → ((p : Reg) → Under 0 p → n.regs p ≡ m.regs p) → StandsInMachine placed (moved_to x t) n
  moved_stands t x m n s e same = record {
    locals = λ q k. same (reg q k) (under_local q k 0) ∙ s.locals q k;
    kept = λ p k is. same (kept_reg k) tt ∙ s.kept p k is;
    world = e;
  }

  -- a write to a register by the machine
  pub write_wrote : (q : Reg) (w : Wave) (m : Machine W)
      → Wrote q 0 (held o.ksmps (rate_at q) w) m (write o.ksmps q w m)
  write_wrote q w m = record {
    world = refl;
    next = refl;
    here = put_here m.regs q (held o.ksmps (rate_at q) w);
    others = λ p other low. put_other m.regs q (held o.ksmps (rate_at q) w) p other;
  }

  write_local : (r : Rate) (x : ℕ) (w : Wave) (m : Machine W)
      → Wrote (reg r x) 0 (held o.ksmps r w) m (write o.ksmps (reg r x) w m)
  write_local r x w m =
      subst (λ q. Wrote (reg r x) 0 (held o.ksmps q w) m (write o.ksmps (reg r x) w m)) (local_rate r)
      (write_wrote (reg r x) w m)

  -- a temporary that was written has its value
  temp_holds : (r : Rate) (w : Wave) (m : Machine W) → (write o.ksmps (temp r 0) w m).regs (temp r 0) ≡ held o.ksmps r w
  temp_holds r w m =
      put_here m.regs (temp r 0) (held o.ksmps (rate_at (temp r 0)) w) ∙ ap (λ q. held o.ksmps q w) (temp_rate r)

  -- ---- values that don't change are kept

  rate_runs : (r : Rate) (t s : Note W) (at : ℕ) (path : Path) (inner : Path → Option ℕ) (place : ℕ) (z : ℤ)
      (m : Machine W) (once each : List Op)
      → StandsInMachine placed t m → Lays placed path (if_init r (itself at) inner)
      → (r ≡ rate.Init → Wrote (kept_reg at) 0 (constant z) m (run o place once m))
      → (Lays placed path inner → Kept placed s m (run o place each m))
      → Kept placed (if_init r (put_kept path z t) s) m (run o place (if_init r once each) m)
  rate_runs rate.Init t s at path inner place z m once each stands lays first other =
      kept_wrote t path at z m (run o place once m) stands (lays []) (first refl)
  rate_runs a t s at path inner place z m once each stands lays first other = other lays

  once_wrote : (t : Note W) (e : Expression) (at place : ℕ) (m : Machine W) → StandsInMachine placed t m
      → Live o place m → node_rate e ≡ rate.Init
      → Wrote (kept_reg at) 0 (constant (first_value o t e)) m (run o place (kept_code at e) m)
  once_wrote t e at place m s l is =
      subst
      (λ r. Wrote (kept_reg at) 0 (held o.ksmps r (value o t beginning [] e)) m (run o place (kept_code at e) m)) is
      (code_runs o placed t e beginning 0 [] (kept_reg at) (sym is) 0 place m s l tt)

  kept_self : (t : Note W) (m : Machine W) → StandsInMachine placed t m → Kept placed t m m
  kept_self t m s = record { stands = s; next = refl; world = refl }

  kept_then : (t s : Note W) (place : ℕ) (a b : List Op) (m : Machine W) → Kept placed t m (run o place a m)
      → Kept placed s (run o place a m) (run o (place + length a) b (run o place a m))
      → Kept placed s m (run o place (a ++ b) m)
  kept_then t s place a b m h k =
      subst (Kept placed s m) (sym (run_append o place a b m))
      (record { stands = k.stands; next = k.next ∙ h.next; world = k.world ∙ h.world })

  pub keep_runs : (e : Expression) (t : Note W) (at : ℕ) (path : Path) (place : ℕ) (m : Machine W)
      → StandsInMachine placed t m → Live o place m → Lays placed path (numbers at e)
      → Kept placed (keep o path e t) m (run o place (keep_code at e) m)
  keep_runs (neg r a) t at path place m s l lays =
      rate_runs r t (keep o (0 ∷ path) a t) at path (all_numbers at (a ∷ [])) place (first_value o t (neg r a)) m
      (kept_code at (neg r a)) (keep_code at a) s lays (once_wrote t (neg r a) at place m s l)
      (λ b. keep_runs a t at (0 ∷ path) place m s l (λ q. b (0 ∷ q)))
  keep_runs (pair r p a b) t at path place m s l lays =
      rate_runs r t (keep o (1 ∷ path) b (keep o (0 ∷ path) a t)) at path (all_numbers at (a ∷ b ∷ [])) place
      (first_value o t (pair r p a b)) m
      (kept_code at (pair r p a b)) (keep_code at a ++ keep_code (past at a) b) s lays
      (once_wrote t (pair r p a b) at place m s l) (λ known.
      let t1 : Note W = keep o (0 ∷ path) a t in
      let first = keep_runs a t at (0 ∷ path) place m s l (λ q. known (0 ∷ q)) in
      let n : Machine W = run o place (keep_code at a) m in
      kept_then t1 (keep o (1 ∷ path) b t1) place (keep_code at a) (keep_code (past at a) b) m first
      (keep_runs b t1 (past at a) (1 ∷ path) (place + length (keep_code at a)) n first.stands
      (live_kept o placed place (length (keep_code at a)) t1 m n l first) (λ q. known (1 ∷ q))))
  keep_runs (pick r c a b) t at path place m s l lays =
      rate_runs r t (keep o (2 ∷ path) b (keep o (1 ∷ path) a (keep o (0 ∷ path) c t))) at path
      (all_numbers at (c ∷ a ∷ b ∷ [])) place (first_value o t (pick r c a b)) m (kept_code at (pick r c a b))
      (keep_code at c ++ (keep_code (past at c) a ++ keep_code (past (past at c) a) b)) s lays
      (once_wrote t (pick r c a b) at place m s l) (λ known.
      let t1 : Note W = keep o (0 ∷ path) c t in
      let t2 : Note W = keep o (1 ∷ path) a t1 in
      let ops : List Op = keep_code at c in
      let more : List Op = keep_code (past at c) a in
      let last : List Op = keep_code (past (past at c) a) b in
      let first = keep_runs c t at (0 ∷ path) place m s l (λ q. known (0 ∷ q)) in
      let n : Machine W = run o place ops m in
      let live : Live o (place + length ops) n = live_kept o placed place (length ops) t1 m n l first in
      let second = keep_runs a t1 (past at c) (1 ∷ path) (place + length ops) n first.stands live
      (λ q. known (1 ∷ q)) in
      let k : Machine W = run o (place + length ops) more n in
      kept_then t1 (keep o (2 ∷ path) b t2) place ops (more ++ last) m first
      (kept_then t2 (keep o (2 ∷ path) b t2) (place + length ops) more last n second
      (keep_runs b t2 (past (past at c) a) (2 ∷ path) (place + length ops + length more) k second.stands
      (live_kept o placed (place + length ops) (length more) t2 n k live second) (λ q. known (2 ∷ q)))))
  keep_runs (apply r g a) t at path place m s l lays =
      rate_runs r t (keep o (0 ∷ path) a t) at path (all_numbers at (a ∷ [])) place (first_value o t (apply r g a)) m
      (kept_code at (apply r g a)) (keep_code at a) s lays (once_wrote t (apply r g a) at place m s l)
      (λ b. keep_runs a t at (0 ∷ path) place m s l (λ q. b (0 ∷ q)))
  keep_runs w t at path place m s l lays =
      rate_runs (node_rate w) t t at path nowhere place (first_value o t w) m (kept_code at w) [] s lays
      (once_wrote t w at place m s l) (λ b. kept_self t m s)

  pub keep_all_runs : (es : List Expression) (t : Note W) (at : ℕ) (path : Path) (place : ℕ) (m : Machine W)
      → StandsInMachine placed t m → Live o place m → LaysOn placed path (all_numbers at es)
      → Kept placed (keep_all o path es t) m (run o place (keep_all_code at es) m)
  keep_all_runs [] t at path place m s l lays = kept_self t m s
  keep_all_runs (e ∷ es) t at path place m s l lays =
      let ops : List Op = keep_code at e in
      let t1 : Note W = keep o path e t in
      let n : Machine W = run o place ops m in
      let first = keep_runs e t at path place m s l (λ q. lays 0 q) in
      kept_then t1 (keep_all o (next path) es t1) place ops (keep_all_code (past at e) es) m first
      (keep_all_runs es t1 (past at e) (next path) (place + length ops) n first.stands
      (live_kept o placed place (length ops) t1 m n l first)
      (λ k q. lays (suc k) q))

  -- ---- an op on values that only changes the world

  pub on_runs : (when : When) (at : ℕ) (path : Path) (a : Act) (into : Reg) (es : List Expression)
      (move : List Wave → W → W) (t : Note W) (place : ℕ) (m : Machine W)
      → ((ws : List Wave) (n : Machine W) → acts o a into ws n ≡ in_world (move ws n.world) n)
      → StandsInMachine placed t m → Live o place m → Reads when (LaysOn placed path (all_numbers at es))
      → Reached placed (moved_to (move (values o t when path es) t.world) t) m
      (run o place (on_code when at a into es) m)
  on_runs when at path a into es move t place m moves s l known =
      let ops : List Op = operands_code when at es 0 in
      let last : Op = op_of a into (spots when at es 0) in
      let n : Machine W = run o place ops m in
      let ready = operands_run o placed t es when at path 0 place m s l known in
      let live : Live o (place + length ops) n = live_same o 0 place (length ops) m n l ready.same in
      let x : W = move (values o t when path es) t.world in
      let here : run o place (ops ++ (last ∷ [])) m ≡ in_world x n =
      run_snoc o place ops last m live ∙ moves (map n.regs (spots when at es 0)) n
      ∙ ap (λ ws. in_world (move ws n.world) n) ready.here
      ∙ ap (λ y. in_world (move (values o t when path es) y) n) (ready.same.world ∙ s.world) in
      subst (Reached placed (moved_to x t) m) (sym here) (record {
        stands = moved_stands t x m (in_world x n) s refl (λ p low. ready.same.regs p low);
        next = ready.same.next;
      })

  pub start_runs : (r : Rate) (opcode : Opcode) (u : ℕ) (is : List Expression) (t : Note W) (place : ℕ) (m : Machine W)
      → StandsInMachine placed t m → Live o place m
      → Reached placed (started o r opcode u is t) m (run o place (start_code r opcode u is) m)
  start_runs r opcode u is t place m s l =
      on_runs beginning 0 [] (act.Start opcode u) (temp r 0) is (λ ws x. o.start opcode r u (first_values ws) x) t place
      m (λ ws n. ap (λ q. in_world (o.start opcode q u (first_values ws) n.world) n) (temp_rate r)) s l tt

  pub seek_runs : (is : List Expression) (t : Note W) (place : ℕ) (m : Machine W)
      → StandsInMachine placed t m → Live o place m → Reached placed (sought o is t) m (run o place (seek_code is) m)
  seek_runs is t place m s l =
      on_runs beginning 0 [] act.Seek (temp rate.Init 0) is (λ ws x. o.seek (first_values ws) x) t place m
      (λ ws n. refl) s l tt

  pub store_runs : (when : When) (at : ℕ) (path : Path) (r : Rate) (reach : Reach)
      (es : List Expression) (t : Note W) (place : ℕ) (m : Machine W) → StandsInMachine placed t m → Live o place m
      → Reads when (LaysOn placed path (all_numbers at es))
      → Reached placed (moved_to (o.store r reach (values o t when path es) t.world) t) m
      (run o place (store_code when at r reach es) m)
  store_runs when at path r reach es t place m s l known =
      on_runs when at path (act.Store reach) (temp r 0) es (λ ws x. o.store r reach ws x) t place m
      (λ ws n. ap (λ q. in_world (o.store q reach ws n.world) n) (temp_rate r)) s l known

  pub ask_runs : (es : List Expression) (t : Note W) (place : ℕ) (m : Machine W)
      → StandsInMachine placed t m → Live o place m
      → Reached placed (moved_to (o.ask (first_values (values o t beginning [] es)) t.world) t) m
      (run o place (ask_code es) m)
  ask_runs es t place m s l =
      on_runs beginning 0 [] act.Ask (temp rate.Init 0) es (λ ws x. o.ask (first_values ws) x) t place m
      (λ ws n. refl) s l tt

  -- ---- the run of an opcode with a result: a unit, or an opcode on zak places

  -- the result is assigned to no variable
  none_given : (b : Bool) (r : Rate) (t : Note W) (x : W) (w : Wave) (m : Machine W) → StandsInMachine placed t m
      → Reached placed (moved_to x t) m (if b then write o.ksmps (temp r 0) w (in_world x m) else in_world x m)
  none_given true r t x w m s = record {
    stands = moved_stands t x m (write o.ksmps (temp r 0) w (in_world x m)) s refl
        (λ p low. put_other m.regs (temp r 0) (held o.ksmps (rate_at (temp r 0)) w) p (under_apart 0 r p low));
    next = refl;
  }
  none_given false r t x w m s =
      record { stands = moved_stands t x m (in_world x m) s refl (λ p low. refl); next = refl }

  temp_moved : (r : Rate) (t : Note W) (x : W) (w : Wave) (m : Machine W) → StandsInMachine placed t m
      → StandsInMachine placed (moved_to x t) (write o.ksmps (temp r 0) w (in_world x m))
  temp_moved r t x w m s = (none_given true r t x w m s).stands

  -- the result is assigned to a local variable, by the unit itself or by a copy
  local_given : (b : Bool) (r q : Rate) (y : ℕ) (t : Note W) (x : W) (w : Wave) (place : ℕ) (m : Machine W)
      → same_rate q r ≡ b → StandsInMachine placed t m → m.next ≤ place → o.refused x ≡ false
      → Reached placed (assign o (Local q y) (held o.ksmps r w) (moved_to x t)) m
      (run o place (if b then [] else op_of act.Copy (reg q y) (temp r 0 ∷ []) ∷ [])
      (write o.ksmps (if b then reg q y else temp r 0) w (in_world x m)))
  local_given true r q y t x w place m e s next going =
      let is : r ≡ q = sym (same_rate_is q r e) in
      let moved : StandsInMachine placed (moved_to x t) (in_world x m) =
      moved_stands t x m (in_world x m) s refl (λ p below. refl) in
      let twice : held o.ksmps q (held o.ksmps r w) ≡ held o.ksmps q w =
      subst (λ p. held o.ksmps q (held o.ksmps p w) ≡ held o.ksmps q w) (sym is) (held_again o.ksmps q w) in
      record {
        stands = subst (λ v. StandsInMachine placed
            (record (moved_to x t) { locals = put t.locals (reg q y) v }) (write o.ksmps (reg q y) w (in_world x m)))
            (sym twice)
            (local_wrote (moved_to x t) q y (held o.ksmps q w) (in_world x m) (write o.ksmps (reg q y) w (in_world x m))
            moved (write_local q y w (in_world x m)));
        next = refl;
      }
  local_given false r q y t x w place m e s next going =
      let n : Machine W = write o.ksmps (temp r 0) w (in_world x m) in
      let v : Wave = held o.ksmps r w in
      let live : Live o place n = record { next = next; going = going } in
      let is : run o place (op_of act.Copy (reg q y) (temp r 0 ∷ []) ∷ []) n ≡ write o.ksmps (reg q y) v n =
      live_step o place (op_of act.Copy (reg q y) (temp r 0 ∷ [])) n live
      ∙ ap (λ u. write o.ksmps (reg q y) u n) (temp_holds r w (in_world x m)) in
      subst (Reached placed (assign o (Local q y) v (moved_to x t)) m) (sym is) (record {
        stands = local_wrote (moved_to x t) q y (held o.ksmps q v) n (write o.ksmps (reg q y) v n)
            (temp_moved r t x w m s) (write_local q y v n);
        next = refl;
      })

  -- the result is assigned to a shared resource, by a store
  global_given : (r : Rate) (g : Res) (t : Note W) (x : W) (w : Wave) (place : ℕ) (m : Machine W)
      → StandsInMachine placed t m → m.next ≤ place → o.refused x ≡ false
      → Reached placed (assign o (Global g) (held o.ksmps r w) (moved_to x t)) m
      (run o place (op_of (act.Save g) (temp r 0) (temp r 0 ∷ []) ∷ []) (write o.ksmps (temp r 0) w (in_world x m)))
  global_given r g t x w place m s next going =
      let n : Machine W = write o.ksmps (temp r 0) w (in_world x m) in
      let v : Wave = held o.ksmps r w in
      let y : W = o.save g (held o.ksmps (res_rate g) v) x in
      let live : Live o place n = record { next = next; going = going } in
      let there : n.regs (temp r 0) ≡ v = temp_holds r w (in_world x m) in
      let is : run o place (op_of (act.Save g) (temp r 0) (temp r 0 ∷ []) ∷ []) n ≡ in_world y n =
      live_step o place (op_of (act.Save g) (temp r 0) (temp r 0 ∷ [])) n live
      ∙ ap (λ u. in_world (o.save g (held o.ksmps (res_rate g) u) x) n) there in
      subst (Reached placed (assign o (Global g) v (moved_to x t)) m) (sym is) (record {
        stands = moved_stands (moved_to x t) y n (in_world y n) (temp_moved r t x w m s) refl (λ p low. refl);
        next = refl;
      })

  given_runs : (r : Rate) (vs : List Variable) (opcode : Opcode) (p : W × Wave) (t : Note W) (place : ℕ) (m : Machine W)
      → StandsInMachine placed t m → m.next ≤ place → o.refused p.0 ≡ false → Takes opcode vs
      → Reached placed (done o r vs p t) m (run o place (given_code r vs) (written o.ksmps opcode (target r vs) p m))
  given_runs r [] opcode p t place m s next going takes = none_given (gives opcode) r t p.0 p.1 m s
  given_runs r (Local q y ∷ vs) opcode p t place m s next going takes =
      rw takes (local_given (same_rate q r) r q y t p.0 p.1 place m refl s next going)
  given_runs r (Global g ∷ vs) opcode p t place m s next going takes =
      rw takes (global_given r g t p.0 p.1 place m s next going)

  run_runs : (when : When) (at : ℕ) (path : Path) (a : Act) (r : Rate) (vs : List Variable) (opcode : Opcode)
      (xs : List Expression) (gives_it : List Wave → W → W × Wave) (t : Note W) (place : ℕ) (m : Machine W)
      → ((into : Reg) (ws : List Wave) (n : Machine W) → rate_at into ≡ r
      → acts o a into ws n ≡ written o.ksmps opcode into (gives_it ws n.world) n)
      → ((ws : List Wave) (x : W) → o.refused (gives_it ws x).0 ≡ o.refused x)
      → StandsInMachine placed t m → Live o place m → Takes opcode vs
      → Reads when (LaysOn placed path (all_numbers at xs))
      → Reached placed (done o r vs (gives_it (values o t when path xs) t.world) t) m
      (run o place (run_code when at a r vs xs) m)
  run_runs when at path a r vs opcode xs gives_it t place m acts_so calm s l takes known =
      let ops : List Op = operands_code when at xs 0 in
      let rest : List Op = given_code r vs in
      let into : Reg = target r vs in
      let op : Op = op_of a into (spots when at xs 0) in
      let n : Machine W = run o place ops m in
      let ready = operands_run o placed t xs when at path 0 place m s l known in
      let live : Live o (place + length ops) n = live_same o 0 place (length ops) m n l ready.same in
      let p : W × Wave = gives_it (values o t when path xs) t.world in
      let does : step o (place + length ops) op n ≡ written o.ksmps opcode into p n =
      live_step o (place + length ops) op n live ∙ acts_so into (map n.regs (spots when at xs 0)) n (target_rate r vs)
      ∙ ap (λ ws. written o.ksmps opcode into (gives_it ws n.world) n) ready.here
      ∙ ap (λ x. written o.ksmps opcode into (gives_it (values o t when path xs) x) n) (ready.same.world ∙ s.world) in
      let is : run o place (ops ++ (op ∷ rest)) m ≡ run o (place + length ops + 1) rest
      (written o.ksmps opcode into p n) =
      run_append o place ops (op ∷ rest) m ∙ ap (run o (place + length ops + 1) rest) does in
      let going : o.refused p.0 ≡ false =
      calm (values o t when path xs) t.world ∙ ap o.refused (sym s.world) ∙ l.going in
      let low : n.next ≤ place + length ops + 1 = le_trans live.next (omega arith) in
      let after = given_runs r vs opcode p t (place + length ops + 1) n
      (stands_same o placed t 0 m n s ready.same) low going takes in
      subst (Reached placed (done o r vs p t) m) (sym is)
      (record { stands = after.stands; next = after.next ∙ ready.same.next })

  pub unit_runs : Quiet o → (when : When) (at : ℕ) (path : Path) (r : Rate) (vs : List Variable) (opcode : Opcode)
      (u : ℕ) (reach : Reach) (xs : List Expression)
      (t : Note W) (place : ℕ) (m : Machine W) → StandsInMachine placed t m → Live o place m → Takes opcode vs
      → Reads when (LaysOn placed path (all_numbers at xs))
      → Reached placed (done o r vs (o.does opcode r u reach (values o t when path xs) t.world) t) m
      (run o place (unit_code when at r vs opcode u reach xs) m)
  unit_runs quiet when at path r vs opcode u reach xs t place m s l takes known =
      run_runs when at path (act.Unit opcode u reach) r vs opcode xs (o.does opcode r u reach) t place m
      (λ into ws n is. ap (λ y. written o.ksmps opcode into (o.does opcode y u reach ws n.world) n) is)
      (λ ws x. quiet.does opcode r u reach ws x) s l takes known

  pub zak_runs : Quiet o → (when : When) (at : ℕ) (path : Path) (r : Rate) (vs : List Variable) (opcode : Opcode)
      (reach : Reach) (xs : List Expression)
      (t : Note W) (place : ℕ) (m : Machine W) → StandsInMachine placed t m → Live o place m → Takes opcode vs
      → Reads when (LaysOn placed path (all_numbers at xs))
      → Reached placed (done o r vs (o.zak opcode reach (values o t when path xs) t.world) t) m
      (run o place (zak_code when at r vs opcode reach xs) m)
  zak_runs quiet when at path r vs opcode reach xs t place m s l takes known =
      run_runs when at path (act.Zak opcode reach) r vs opcode xs (o.zak opcode reach) t place m (λ into ws n is. refl)
      (λ ws x. quiet.zak opcode reach ws x) s l takes known

  -- ---- an assignment to a variable

  local_set : (b : Bool) (when : When) (at : ℕ) (path : Path) (q : Rate) (y : ℕ) (e : Expression) (t : Note W)
      (place : ℕ) (m : Machine W) → same_rate (node_rate e) q ≡ b → StandsInMachine placed t m → Live o place m
      → Reads when (Lays placed path (numbers at e)) → Reached placed (assign o (Local q y) (value o t when path e) t) m
      (run o place (if b then code when at e (reg q y) 0
      else operand_code when at e 0 ++ (op_of act.Copy (reg q y) (spot when at e 0 ∷ []) ∷ [])) m)
  local_set true when at path q y e t place m is s l known =
      let same : node_rate e ≡ q = same_rate_is (node_rate e) q is in
      let made : Machine W = run o place (code when at e (reg q y) 0) m in
      let wrote = subst (λ r. Wrote (reg q y) 0 (held o.ksmps r (value o t when path e)) m made) same
      (code_runs o placed t e when at path (reg q y) (local_rate q ∙ sym same) 0 place m s l known) in
      record {
        stands = local_wrote t q y (held o.ksmps q (value o t when path e)) m made s wrote;
        next = wrote.next;
      }
  local_set false when at path q y e t place m is s l known =
      let ops : List Op = operand_code when at e 0 in
      let n : Machine W = run o place ops m in
      let v : Wave = value o t when path e in
      let last : Op = op_of act.Copy (reg q y) (spot when at e 0 ∷ []) in
      let ready = operand_runs o placed t e when at path 0 place m s l known in
      let live : Live o (place + length ops) n = live_same o 0 place (length ops) m n l ready.same in
      let here : run o place (ops ++ (last ∷ [])) m ≡ write o.ksmps (reg q y) v n =
      run_snoc o place ops last m live ∙ ap (λ u. write o.ksmps (reg q y) u n) ready.here in
      subst (Reached placed (assign o (Local q y) v t) m) (sym here) (record {
        stands = local_wrote t q y (held o.ksmps q v) n (write o.ksmps (reg q y) v n)
            (stands_same o placed t 0 m n s ready.same) (write_local q y v n);
        next = ready.same.next;
      })

  pub set_runs : (v : Variable) (when : When) (at : ℕ) (path : Path) (e : Expression) (t : Note W) (place : ℕ)
      (m : Machine W) → StandsInMachine placed t m → Live o place m → Reads when (Lays placed path (numbers at e))
      → Reached placed (assign o v (value o t when path e) t) m (run o place (set_code when at v e) m)
  set_runs (Local q y) when at path e t place m s l known =
      local_set (same_rate (node_rate e) q) when at path q y e t place m refl s l known
  set_runs (Global g) when at path e t place m s l known =
      let ops : List Op = operand_code when at e 0 in
      let n : Machine W = run o place ops m in
      let v : Wave = value o t when path e in
      let last : Op = op_of (act.Save g) (spot when at e 0) (spot when at e 0 ∷ []) in
      let ready = operand_runs o placed t e when at path 0 place m s l known in
      let live : Live o (place + length ops) n = live_same o 0 place (length ops) m n l ready.same in
      let x : W = o.save g (held o.ksmps (res_rate g) v) t.world in
      let here : run o place (ops ++ (last ∷ [])) m ≡ in_world x n =
      run_snoc o place ops last m live
      ∙ ap (λ u. in_world (o.save g (held o.ksmps (res_rate g) u) n.world) n) ready.here
      ∙ ap (λ y. in_world (o.save g (held o.ksmps (res_rate g) v) y) n) (ready.same.world ∙ s.world) in
      subst (Reached placed (moved_to x t) m) (sym here) (record {
        stands = moved_stands t x m (in_world x n) s refl (λ p low. ready.same.regs p low);
        next = ready.same.next;
      })
