-- The code of an expression computes its value.
use Rattle.std.proofs.Common.{◌≡◌, ℕ, ◌+◌, false, List, [], ◌∷◌, ◌++◌, length, map, Option, Some, None, refl, sym, ◌∙◌}
use Rattle.std.proofs.Common.{ap, subst, arith, append-nil}
use Rattle.cs_base.proofs.Tests.{some_is}
use Rattle.cs_base.specs.declared.resource.Rate.{Rate}
use Rattle.cs_ir.specs.Machine.{Machine, same_reg, acts, write, run}
use Rattle.cs_ir.specs.{Registers.rate_at, Values.negated, Values.applied, Worlds.World, declared.op.Act.Act}
use Rattle.cs_ir.specs.{declared.op.Op.Op, declared.register.Reg.Reg}
use Rattle.cs_ir.specs.Waves.{Wave, held, constant, both, chosen, operand, if_init}
use Rattle.cs_meaning.specs.Notes.{Note, Path, next, reg, part, value, values}
use Rattle.cs_meaning.specs.When.{When, beginning, cycle}
use Rattle.cs_code.specs.inner.Kept.{past, itself, nowhere, numbers, all_numbers}
use Rattle.cs_typed.specs.TypedTree.{Expression, number, var, field, head, neg, pair, pick, apply}
use Rattle.cs_typed.specs.WellRated.{node_rate}
use Rattle.cs_typed.specs.declared.tree.Var.TheVariants.{Local, Global}
use Rattle.cs_code.specs.Means.{StandsInMachine}
use Rattle.cs_code.specs.inner.Spots.{op_of, kept_reg, temp, kept_or, direct, reg_or, spot, spots}
use Rattle.cs_code.specs.inner.Code.{unless_there, copied, own, code, operand_code, operands_code}
use Rattle.cs_code.proofs.Inside.{Lays, LaysOn, Reads, reads_on, reads_first, reads_rest}
use Rattle.cs_code.proofs.Runs.{Live, run_append, live_step, run_snoc, put_here, put_other, held_again, two_lists}
use Rattle.cs_code.proofs.Runs.{three_lists, Under, under_more, under_temp, under_local, under_apart, temp_rate}
use Rattle.cs_base.specs.declared.resource.Rate.TheVariants as rate
use Rattle.cs_ir.specs.declared.op.Act.TheVariants as act

-- ---- the parts of a machine that a run doesn't change

-- the world, the next place, and all registers except the temporaries from d on are unchanged
pub record Same {W : Type 0} (d : ℕ) (m n : Machine W) : Type 0 where
  pub world : n.world ≡ m.world
  pub next : n.next ≡ m.next
  pub regs : (p : Reg) → Under d p → n.regs p ≡ m.regs p

-- a register holds a value, and everything else of these is unchanged
pub record Wrote {W : Type 0} (q : Reg) (d : ℕ) (w : Wave) (m n : Machine W) : Type 0 where
  pub world : n.world ≡ m.world
  pub next : n.next ≡ m.next
  pub here : n.regs q ≡ w
  pub others : (p : Reg) → same_reg p q ≡ false → Under d p → n.regs p ≡ m.regs p

-- a register that is no temporary holds a value
pub record Stood {W : Type 0} (q : Reg) (w : Wave) (m : Machine W) : Type 0 where
  pub here : m.regs q ≡ w
  pub low : Under 0 q

-- an operand is ready in a register that no later operand writes
pub record Spotted {W : Type 0} (d : ℕ) (q : Reg) (w : Wave) (m n : Machine W) : Type 0 where
  pub here : n.regs q ≡ w
  pub low : Under (d + 1) q
  pub same : Same d m n

-- operands are ready
pub record Ready {W : Type 0} (d : ℕ) (qs : List Reg) (ws : List Wave) (m n : Machine W) : Type 0 where
  pub here : map n.regs qs ≡ ws
  pub same : Same d m n

pub same_self : {W : Type 0} (d : ℕ) (m : Machine W) → Same d m m
same_self d m = record { world = refl; next = refl; regs = λ p h. refl }

pub live_same : {W : Type 0} (o : World W) (d place more : ℕ) (m n : Machine W) → Live o place m
    → Same d m n → Live o (place + more) n
live_same o d place more m n l s = record {
  next = (let e = s.next in let h = l.next in omega arith);
  going = ap o.refused s.world ∙ l.going;
}

wrote_temp : {W : Type 0} (r : Rate) (d : ℕ) (w : Wave) (m n : Machine W) → Wrote (temp r d) d w m n → Same d m n
wrote_temp r d w m n h = record {
  world = h.world;
  next = h.next;
  regs = λ p low. h.others p (under_apart d r p low) low;
}

-- ---- parts

part_own : (when : When) (r : Rate) (at : ℕ) (own : Option Reg) (z : _) (w : Wave)
    → kept_or when r at own ≡ None → part when r z w ≡ w
part_own cycle rate.Init at own z w none = absurd (let h : Some (kept_reg at) ≡ None = none in cc)
part_own a e at own z w none = refl

reads_own : (when : When) (r : Rate) (at : ℕ) (placed : Path → Option ℕ) (path : Path)
    (n : Path → Option ℕ) (own : Option Reg)
    → kept_or when r at own ≡ None → Reads when (Lays placed path (if_init r (itself at) n))
    → Reads when (Lays placed path n)
reads_own beginning r at placed path n own none h = tt
reads_own cycle rate.Init at placed path n own none h =
    absurd (let h : Some (kept_reg at) ≡ None = none in cc)
reads_own cycle rate.Control at placed path n own none h = h
reads_own cycle rate.Audio at placed path n own none h = h

never_none : (when : When) (r : Rate) (at : ℕ) (q : Reg) → kept_or when r at (Some q) ≡ None → ⊥
never_none beginning r at q h = cc
never_none cycle rate.Init at q h = let h : Some (kept_reg at) ≡ None = h in cc
never_none cycle rate.Control at q h = let h : Some q ≡ None = h in cc
never_none cycle rate.Audio at q h = let h : Some q ≡ None = h in cc

-- ---- values that are in a register already, and values that aren't

still_part : (k : ℕ) (when : When) (r : Rate) (at : ℕ) (z : _) (w : Wave) → kept_or when r at None ≡ None
    → held k r (part when r z (held k r w)) ≡ part when r z (held k r w)
still_part k when r at z w none =
    let e = part_own when r at None z (held k r w) none in
    ap (held k r) e ∙ held_again k r w ∙ sym e

-- a value that isn't in a register yet is held at its rate
pub still : {W : Type 0} (o : World W) (t : Note W) (when : When) (at : ℕ) (path : Path) (e : Expression)
    → direct when at e ≡ None → held o.ksmps (node_rate e) (value o t when path e) ≡ value o t when path e
still o t when at path (number r n) none = still_part o.ksmps when r at (t.kept path) (constant n) none
still o t when at path (var r (Local q n)) none = absurd (never_none when r at (reg q n) none)
still o t when at path (var r (Global g)) none =
    still_part o.ksmps when r at (t.kept path) (o.load g t.world) none
still o t when at path (field r k) none = still_part o.ksmps when r at (t.kept path) (constant (o.field k)) none
still o t when at path (head r h) none = still_part o.ksmps when r at (t.kept path) (constant (o.head h)) none
still o t when at path (neg r a) none =
    still_part o.ksmps when r at (t.kept path) (λ j. negated (value o t when (0 ∷ path) a j)) none
still o t when at path (pair r b x y) none =
    still_part o.ksmps when r at (t.kept path) (both b (value o t when (0 ∷ path) x) (value o t when (1 ∷ path) y)) none
still o t when at path (pick r c x y) none =
    still_part o.ksmps when r at (t.kept path)
    (chosen (value o t when (0 ∷ path) c) (value o t when (1 ∷ path) x) (value o t when (2 ∷ path) y)) none
still o t when at path (apply r g x) none =
    still_part o.ksmps when r at (t.kept path) (λ j. applied g (value o t when (0 ∷ path) x j)) none

module _ {W : Type 0} (o : World W) (placed : Path → Option ℕ) (t : Note W) where
  -- the registers of kept values, if these are read
  abbrev KnownArgument : When → Path → (Path → Option ℕ) → Type 0
  KnownArgument when path n = Reads when (Lays placed path n)

  abbrev KnownOn : When → Path → (Path → Option ℕ) → Type 0
  KnownOn when path n = Reads when (LaysOn placed path n)

  pub stands_same : (d : ℕ) (m n : Machine W) → StandsInMachine placed t m → Same d m n → StandsInMachine placed t n
  stands_same d m n s h = record {
    locals = λ r k. h.regs (reg r k) (under_local r k d) ∙ s.locals r k;
    kept = λ p k is. h.regs (kept_reg k) tt ∙ s.kept p k is;
    world = h.world ∙ s.world;
  }

  stood : (m : Machine W) → StandsInMachine placed t m
      → (when : When) (r : Rate) (at : ℕ) (path : Path) (n : Path → Option ℕ) (own : Option Reg)
      (w : Wave) (q : Reg) → KnownArgument when path (if_init r (itself at) n) → kept_or when r at own ≡ Some q
      → (own ≡ Some q → Stood q w m) → Stood q (part when r (t.kept path) w) m
  stood m s cycle rate.Init at path n own w q known is right =
      let place : Stood (kept_reg at) (constant (t.kept path)) m =
      record { here = s.kept path at (known []); low = tt } in
      subst (λ x. Stood x (constant (t.kept path)) m) (some_is (kept_reg at) q is) place
  stood m s a e at path n own w q known is right = right is

  never_there : (m : Machine W) (q : Reg) (w : Wave) → None ≡ Some q → Stood q w m
  never_there m q w h = absurd (cc)

  -- a value that is in a register already is right, and the register is below all temporaries
  pub direct_right : (m : Machine W) → StandsInMachine placed t m
      → (when : When) (at : ℕ) (path : Path) (e : Expression) (q : Reg)
      → KnownArgument when path (numbers at e) → direct when at e ≡ Some q → Stood q (value o t when path e) m
  direct_right m s when at path (number r n) q known is =
      stood m s when r at path nowhere None (held o.ksmps r (constant n)) q known is
      (never_there m q (held o.ksmps r (constant n)))
  direct_right m s when at path (var r (Local x n)) q known is =
      stood m s when r at path nowhere (Some (reg x n)) (t.locals (reg x n)) q known is (λ e.
      subst (λ y. Stood y (t.locals (reg x n)) m) (some_is (reg x n) q e)
      (record { here = s.locals x n; low = under_local x n 0 }))
  direct_right m s when at path (var r (Global g)) q known is =
      stood m s when r at path nowhere None (held o.ksmps r (o.load g t.world)) q known is
      (never_there m q (held o.ksmps r (o.load g t.world)))
  direct_right m s when at path (field r k) q known is =
      stood m s when r at path nowhere None (held o.ksmps r (constant (o.field k))) q known is
      (never_there m q (held o.ksmps r (constant (o.field k))))
  direct_right m s when at path (head r h) q known is =
      stood m s when r at path nowhere None (held o.ksmps r (constant (o.head h))) q known is
      (never_there m q (held o.ksmps r (constant (o.head h))))
  direct_right m s when at path (neg r a) q known is =
      let w : Wave = held o.ksmps r (λ j. negated (value o t when (0 ∷ path) a j)) in
      stood m s when r at path (all_numbers at (a ∷ [])) None w q known is (never_there m q w)
  direct_right m s when at path (pair r b x y) q known is =
      let w : Wave = held o.ksmps r (both b (value o t when (0 ∷ path) x) (value o t when (1 ∷ path) y)) in
      stood m s when r at path (all_numbers at (x ∷ y ∷ [])) None w q known is (never_there m q w)
  direct_right m s when at path (pick r c x y) q known is =
      let w : Wave = held o.ksmps r
      (chosen (value o t when (0 ∷ path) c) (value o t when (1 ∷ path) x) (value o t when (2 ∷ path) y)) in
      stood m s when r at path (all_numbers at (c ∷ x ∷ y ∷ [])) None w q known is (never_there m q w)
  direct_right m s when at path (apply r g x) q known is =
      let w : Wave = held o.ksmps r (λ j. applied g (value o t when (0 ∷ path) x j)) in
      stood m s when r at path (all_numbers at (x ∷ [])) None w q known is (never_there m q w)

  -- the goal for an expression that isn't in a register yet: its code computes it, into any register of its
  -- rate
  pub record OwnRuns (e : Expression) : Type 0 where
    pub runs : (when : When) (at : ℕ) (path : Path) (x : Reg) → rate_at x ≡ node_rate e → (d place : ℕ)
        (m : Machine W) → StandsInMachine placed t m → Live o place m
        → KnownArgument when path (numbers at e) → direct when at e ≡ None
        → Wrote x d (value o t when path e) m (run o place (own when at e x d) m)

  abbrev pub AllRun : List Expression → Type 0
  AllRun [] = Unit {0}
  AllRun (e ∷ es) = OwnRuns e × AllRun es

  operand_from : (e : Expression) → OwnRuns e → (when : When) (at : ℕ) (path : Path) (d place : ℕ) (m : Machine W)
      → StandsInMachine placed t m → Live o place m → KnownArgument when path (numbers at e) → (there : Option Reg)
      → direct when at e ≡ there → Spotted d (reg_or there (temp (node_rate e) d)) (value o t when path e) m
      (run o place (unless_there there (own when at e (temp (node_rate e) d) d)) m)
  operand_from e h when at path d place m s l known (Some q) is =
      let right = direct_right m s when at path e q known is in
      record { here = right.here; low = under_more 0 (d + 1) q (omega arith) right.low; same = same_self d m }
  operand_from e h when at path d place m s l known None is =
      let r : Rate = node_rate e in
      let done = h.runs when at path (temp r d) (temp_rate r) d place m s l known is in
      record {
        here = done.here;
        low = under_temp r d (d + 1) (omega arith);
        same = wrote_temp r d (value o t when path e) m _ done;
      }

  ready_more : (e : Expression) (es : List Expression) (when : When) (at : ℕ) (path : Path) (d : ℕ) (m n k : Machine W)
      → Spotted d (spot when at e d) (value o t when path e) m n
      → Ready (d + 1) (spots when (past at e) es (d + 1)) (values o t when (next path) es) n k
      → Ready d (spots when at (e ∷ es) d) (values o t when path (e ∷ es)) m k
  ready_more e es when at path d m n k a b =
      let first : k.regs (spot when at e d) ≡ value o t when path e =
      b.same.regs (spot when at e d) a.low ∙ a.here in
      record {
        here = (let rest = b.here in cc);
        same = record {
          world = b.same.world ∙ a.same.world;
          next = b.same.next ∙ a.same.next;
          regs = λ p low. b.same.regs p (under_more d (d + 1) p (omega arith) low) ∙ a.same.regs p low;
        };
      }

  pub operands_from : (es : List Expression) → AllRun es
      → (when : When) (at : ℕ) (path : Path) (d place : ℕ) (m : Machine W) → StandsInMachine placed t m → Live o place m
      → KnownOn when path (all_numbers at es)
      → Ready d (spots when at es d) (values o t when path es) m (run o place (operands_code when at es d) m)
  operands_from [] h when at path d place m s l known = record { here = refl; same = same_self d m }
  operands_from (e ∷ es) h when at path d place m s l known =
      let first : List Op = operand_code when at e d in
      let rest : List Op = operands_code when (past at e) es (d + 1) in
      let n : Machine W = run o place first m in
      let known_first = reads_first when placed path (numbers at e) (all_numbers (past at e) es) known in
      let known_rest = reads_rest when placed path (numbers at e) (all_numbers (past at e) es) known in
      let a = operand_from e h.0 when at path d place m s l known_first (direct when at e) refl in
      let b = operands_from es h.1 when (past at e) (next path) (d + 1) (place + length first) n
      (stands_same d m n s a.same) (live_same o d place (length first) m n l a.same) known_rest in
      subst (Ready d (spots when at (e ∷ es) d) (values o t when path (e ∷ es)) m)
      (sym (run_append o place first rest m))
      (ready_more e es when at path d m n (run o (place + length first) rest n) a b)

  -- operands, followed by the op that computes a value from them
  node_from : (es : List Expression) → AllRun es
      → (a : Act) (r : Rate) (v : List Wave → Wave) (when : When) (at : ℕ) (path : Path) (x : Reg) → rate_at x ≡ r
      → (d place : ℕ) (m : Machine W)
      → ((n : Machine W) (ws : List Wave) → n.world ≡ t.world → acts o a x ws n ≡ write o.ksmps x (v ws) n)
      → StandsInMachine placed t m → Live o place m → KnownArgument when path (all_numbers at es)
      → Wrote x d (held o.ksmps r (v (values o t when (0 ∷ path) es))) m
      (run o place (operands_code when at es d ++ (op_of a x (spots when at es d) ∷ [])) m)
  node_from es h a r v when at path x rated d place m does s l known =
      let ops : List Op = operands_code when at es d in
      let n : Machine W = run o place ops m in
      let last : Op = op_of a x (spots when at es d) in
      let ws : List Wave = values o t when (0 ∷ path) es in
      let made : Wave = held o.ksmps (rate_at x) (v ws) in
      let ready = operands_from es h when at (0 ∷ path) d place m s l
      (reads_on when placed path (all_numbers at es) known) in
      let live : Live o (place + length ops) n = live_same o d place (length ops) m n l ready.same in
      let is : run o place (ops ++ (last ∷ [])) m ≡ write o.ksmps x (v ws) n =
      run_snoc o place ops last m live ∙ does n (map n.regs (spots when at es d)) (ready.same.world ∙ s.world)
      ∙ ap (λ us. write o.ksmps x (v us) n) ready.here in
      subst (λ q. Wrote x d (held o.ksmps q (v ws)) m (run o place (ops ++ (last ∷ [])) m)) rated
      (subst (Wrote x d made m) (sym is) (record {
        world = ready.same.world;
        next = ready.same.next;
        here = put_here n.regs x made;
        others = λ p other low. put_other n.regs x made p other ∙ ready.same.regs p low;
      }))

  -- a run of equal code, as a run of the expression's code
  as_own : (r : Rate) (when : When) (at : ℕ) (path : Path) (x : Reg) (d place : ℕ) (m : Machine W) (u : Wave)
      (made code : List Op) → kept_or when r at None ≡ None → made ≡ code → Wrote x d u m (run o place made m)
      → Wrote x d (part when r (t.kept path) u) m (run o place code m)
  as_own r when at path x d place m u made code none is h =
      subst (λ w. Wrote x d w m (run o place code m)) (sym (part_own when r at None (t.kept path) u none))
      (subst (λ c. Wrote x d u m (run o place c m)) is h)

  -- a leaf, whose op alone computes its value
  leaf_runs : (a : Act) (r : Rate) (w : Wave) (when : When) (at : ℕ) (path : Path) (x : Reg) → rate_at x ≡ r
      → (d place : ℕ) (m : Machine W)
      → ((n : Machine W) (ws : List Wave) → n.world ≡ t.world → acts o a x ws n ≡ write o.ksmps x w n)
      → StandsInMachine placed t m → Live o place m → KnownArgument when path (if_init r (itself at) nowhere)
      → kept_or when r at None ≡ None
      → Wrote x d (part when r (t.kept path) (held o.ksmps r w)) m (run o place (op_of a x [] ∷ []) m)
  leaf_runs a r w when at path x rated d place m does s l known none =
      as_own r when at path x d place m (held o.ksmps r w) (op_of a x [] ∷ []) (op_of a x [] ∷ []) none refl
      (node_from [] tt a r (λ ws. w) when at path x rated d place m does s l
      (reads_own when r at placed path nowhere None none known))

  pub own_runs : (e : Expression) → OwnRuns e
  own_runs (number r z) = record {
    runs = λ when at path x rated d place m s l known none.
        leaf_runs (act.Const z) r (constant z) when at path x rated d place m (λ n ws e. refl) s l known none;
  }
  own_runs (var r (Local q k)) =
      record { runs = λ when at path x rated d place m s l known none. absurd (never_none when r at (reg q k) none) }
  own_runs (var r (Global g)) = record {
    runs = λ when at path x rated d place m s l known none.
        leaf_runs (act.Load g) r (o.load g t.world) when at path x rated d place m
        (λ n ws e. ap (λ y. write o.ksmps x (o.load g y) n) e) s l known none;
  }
  own_runs (field r k) = record {
    runs = λ when at path x rated d place m s l known none.
        leaf_runs (act.Field k) r (constant (o.field k)) when at path x rated d place m (λ n ws e. refl) s l known none;
  }
  own_runs (head r h) = record {
    runs = λ when at path x rated d place m s l known none.
        leaf_runs (act.Head h) r (constant (o.head h)) when at path x rated d place m (λ n ws e. refl) s l known none;
  }
  own_runs (neg r a) = record {
    runs = λ when at path x rated d place m s l known none.
        as_own r when at path x d place m (held o.ksmps r (λ j. negated (value o t when (0 ∷ path) a j))) _ _ none
        (ap (λ c. c ++ (op_of act.Neg x (spot when at a d ∷ []) ∷ [])) (append-nil (operand_code when at a d)))
        (node_from (a ∷ []) (own_runs a, tt) act.Neg r (λ ws j. negated (operand 0 ws j)) when at path x rated d place m
        (λ n ws e. refl) s l (reads_own when r at placed path (all_numbers at (a ∷ [])) None none known));
  }
  own_runs (pair r b a c) = record {
    runs = λ when at path x rated d place m s l known none.
        as_own r when at path x d place m
        (held o.ksmps r (both b (value o t when (0 ∷ path) a) (value o t when (1 ∷ path) c))) _ _ none
        (two_lists (operand_code when at a d) (operand_code when (past at a) c (d + 1))
        (op_of (act.Pair b) x (spots when at (a ∷ c ∷ []) d) ∷ []))
        (node_from (a ∷ c ∷ []) (own_runs a, (own_runs c, tt)) (act.Pair b) r
        (λ ws. both b (operand 0 ws) (operand 1 ws)) when at path x rated d place m
        (λ n ws e. refl) s l (reads_own when r at placed path (all_numbers at (a ∷ c ∷ [])) None none known));
  }
  own_runs (pick r b a c) = record {
    runs = λ when at path x rated d place m s l known none.
        as_own r when at path x d place m
        (held o.ksmps r (chosen (value o t when (0 ∷ path) b) (value o t when (1 ∷ path) a)
        (value o t when (2 ∷ path) c))) _ _ none
        (three_lists (operand_code when at b d) (operand_code when (past at b) a (d + 1))
        (operand_code when (past (past at b) a) c (d + 1 + 1))
        (op_of act.Pick x (spots when at (b ∷ a ∷ c ∷ []) d) ∷ []))
        (node_from (b ∷ a ∷ c ∷ []) (own_runs b, (own_runs a, (own_runs c, tt))) act.Pick r
        (λ ws. chosen (operand 0 ws) (operand 1 ws) (operand 2 ws)) when at path x rated d place m (λ n ws e. refl) s l
        (reads_own when r at placed path (all_numbers at (b ∷ a ∷ c ∷ [])) None none known));
  }
  own_runs (apply r g a) = record {
    runs = λ when at path x rated d place m s l known none.
        as_own r when at path x d place m (held o.ksmps r (λ j. applied g (value o t when (0 ∷ path) a j))) _ _ none
        (ap (λ c. c ++ (op_of (act.Call g) x (spot when at a d ∷ []) ∷ [])) (append-nil (operand_code when at a d)))
        (node_from (a ∷ []) (own_runs a, tt) (act.Call g) r (λ ws j. applied g (operand 0 ws j)) when at path x rated d
        place m (λ n ws e. refl) s l (reads_own when r at placed path (all_numbers at (a ∷ [])) None none known));
  }

  all_run : (es : List Expression) → AllRun es
  all_run [] = tt
  all_run (e ∷ es) = (own_runs e, all_run es)

  pub operands_run : (es : List Expression) (when : When) (at : ℕ) (path : Path) (d place : ℕ) (m : Machine W)
      → StandsInMachine placed t m → Live o place m → KnownOn when path (all_numbers at es)
      → Ready d (spots when at es d) (values o t when path es) m (run o place (operands_code when at es d) m)
  operands_run es = operands_from es (all_run es)

  pub operand_runs : (e : Expression) (when : When) (at : ℕ) (path : Path) (d place : ℕ) (m : Machine W)
      → StandsInMachine placed t m → Live o place m → KnownArgument when path (numbers at e)
      → Spotted d (spot when at e d) (value o t when path e) m (run o place (operand_code when at e d) m)
  operand_runs e when at path d place m s l known =
      operand_from e (own_runs e) when at path d place m s l known (direct when at e) refl

  code_from : (e : Expression) (when : When) (at : ℕ) (path : Path) (x : Reg) → rate_at x ≡ node_rate e
      → (d place : ℕ) (m : Machine W) → StandsInMachine placed t m → Live o place m
      → KnownArgument when path (numbers at e) → (there : Option Reg) → direct when at e ≡ there
      → Wrote x d (held o.ksmps (node_rate e) (value o t when path e)) m
      (run o place (copied there x (own when at e x d)) m)
  code_from e when at path x rated d place m s l known (Some q) is =
      let right = direct_right m s when at path e q known is in
      let w : Wave = held o.ksmps (rate_at x) (value o t when path e) in
      let done : run o place (op_of act.Copy x (q ∷ []) ∷ []) m ≡ write o.ksmps x (value o t when path e) m =
      live_step o place (op_of act.Copy x (q ∷ [])) m l ∙ ap (λ v. write o.ksmps x v m) right.here in
      subst (λ r. Wrote x d (held o.ksmps r (value o t when path e)) m (run o place (op_of act.Copy x (q ∷ []) ∷ []) m))
      rated (subst (Wrote x d w m) (sym done) (record {
        world = refl;
        next = refl;
        here = put_here m.regs x w;
        others = λ p other low. put_other m.regs x w p other;
      }))
  code_from e when at path x rated d place m s l known None is =
      subst (λ w. Wrote x d w m (run o place (own when at e x d) m)) (sym (still o t when at path e is))
      ((own_runs e).runs when at path x rated d place m s l known is)

  pub code_runs : (e : Expression) (when : When) (at : ℕ) (path : Path) (x : Reg) → rate_at x ≡ node_rate e
      → (d place : ℕ) (m : Machine W) → StandsInMachine placed t m
      → Live o place m → KnownArgument when path (numbers at e)
      → Wrote x d (held o.ksmps (node_rate e) (value o t when path e)) m (run o place (code when at e x d) m)
  code_runs e when at path x rated d place m s l known =
      code_from e when at path x rated d place m s l known (direct when at e) refl
