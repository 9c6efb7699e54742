-- The changes that a note makes to its world as it begins, step by step through its statements.
use Rattle.std.proofs.Common.{◌≡◌, ◌≤◌, ◌+◌, ℕ, ℤ, Bool, true, false, List, [], ◌∷◌, arith, if◌then◌else◌}
use Rattle.cs_base.specs.{Rates.res_rate, declared.resource.Rate.Rate, declared.resource.Res.Res}
use Rattle.cs_typed.specs.TypedTree.{Expression, neg, pair, pick, apply}
use Rattle.cs_typed.specs.declared.tree.Var.{Var as Variable}
use Rattle.cs_typed.specs.declared.tree.Var.TheVariants.{Local, Global}
use Rattle.cs_words.specs.declared.catalogue.Opcode.{Opcode}
use Rattle.cs_ir.specs.{Worlds.World, declared.op.Reach.Reach}
use Rattle.cs_ir.specs.Waves.{Wave, held, if_init, first_values}
use Rattle.cs_meaning.specs.Core.{Stmt, Block, Arms, set, unit, zak, store, out, out_at, ask, choose, no_stmt, andthen}
use Rattle.cs_meaning.specs.{Core.otherwise, Core.arm, When.beginning}
use Rattle.cs_meaning.specs.Initialising.{going, keep, keep_all, init_stmt, init_block, init_first, init_all, run_once}
use Rattle.cs_meaning.specs.Initialising.{sought, started, stored_once, zak_once}
use Rattle.cs_meaning.specs.Notes.{Note, Path, StatementPlace, next, inside, inside_arm, past_arm, past_stmt, assign}
use Rattle.cs_meaning.specs.Notes.{given, moved_to, values}
use Rattle.cs_piece_meaning.specs.Bounded.{asks_in, asks_in_arms, asks_in_stmt}
use Rattle.cs_base.specs.declared.resource.Rate.TheVariants as rate
use Rattle.cs_meaning.specs.Initialising as initial

pub chosen_is : {A B : Type 0} (f : A → B) (b : Bool) (x y : A) (z : B) → f x ≡ z → f y ≡ z → f (if b then x else y) ≡ z
chosen_is f true x y z e g = e
chosen_is f false x y z e g = g

-- A relation between a world and a later one, indexed by the number of notes scheduled between them. It holds
-- for no step at all, for two steps together, for larger numbers, and for each step of an initialisation.
pub record Goes {W : Type 0} (o : World W) (S : ℕ → W → W → Type 0) : Type 0 where
  pub none : (x : W) → S 0 x x
  pub both : (m n : ℕ) (x y z : W) → S m x y → S n y z → S (m + n) x z
  pub more : (m n : ℕ) (x y : W) → m ≤ n → S m x y → S n x y
  pub save : (g : Res) (w : Wave) (x : W) → S 0 x (o.save g w x)
  pub start : (q : Opcode) (r : Rate) (u : ℕ) (is : List ℤ) (x : W) → S 0 x (o.start q r u is x)
  pub does : (q : Opcode) (r : Rate) (u : ℕ) (reach : Reach) (ws : List Wave) (x : W)
      → S 0 x (o.does q r u reach ws x).0
  pub seek : (is : List ℤ) (x : W) → S 0 x (o.seek is x)
  pub store : (r : Rate) (reach : Reach) (ws : List Wave) (x : W) → S 0 x (o.store r reach ws x)
  pub zak : (q : Opcode) (reach : Reach) (ws : List Wave) (x : W) → S 0 x (o.zak q reach ws x).0
  pub ask : (is : List ℤ) (x : W) → S 1 x (o.ask is x)

module _ {W : Type 0} (o : World W) (S : ℕ → W → W → Type 0) (goes : Goes o S) where
  -- the relation holds between the worlds of two notes
  pub record From (n : ℕ) (t u : Note W) : Type 0 where
    pub worlds : S n t.world u.world

  wider : {m n : ℕ} {t u : Note W} → From m t u → m ≤ n → From n t u
  wider {m} {n} {t} {u} p l = record { worlds = goes.more m n t.world u.world l p.worlds }

  both : {m n : ℕ} {t u v : Note W} → From m t u → From n u v → From (m + n) t v
  both {m} {n} {t} {u} {v} p q = record { worlds = goes.both m n t.world u.world v.world p.worlds q.worlds }

  after : {n : ℕ} {t u v : Note W} → From 0 t u → From n u v → From n t v
  after p q = wider (both p q) (omega arith)

  moves : {n : ℕ} {t : Note W} {x : W} → S n t.world x → From n t (moved_to x t)
  moves s = record { worlds = s }

  still : {n : ℕ} {t : Note W} → From n t t
  still {n} {t} = record { worlds = goes.more 0 n t.world t.world (omega arith) (goes.none t.world) }

  chosen_goes : {n : ℕ} {t x y : Note W} → (b : Bool) → From n t x → From n t y → From n t (if b then x else y)
  chosen_goes true p q = p
  chosen_goes false p q = q

  rate_goes : {n : ℕ} {t x y : Note W} → (r : Rate) → From n t x → From n t y → From n t (if_init r x y)
  rate_goes rate.Init p q = p
  rate_goes _ p q = q

  going_goes : {n : ℕ} {t next : Note W} → From n t next → From n t (going o t next)
  going_goes {n} {t} p = chosen_goes (o.refused t.world) still p

  kept_goes : {t s : Note W} → (p : Path) (r : Rate) (z : ℤ) → From 0 t s
      → From 0 t (if_init r (initial.put_kept p z t) s)
  kept_goes {t} p r z q = rate_goes r (record { worlds = goes.none t.world }) q

  keep_goes : (p : Path) (e : Expression) (t : Note W) → From 0 t (keep o p e t)
  keep_goes p (neg r a) t = kept_goes p r _ (keep_goes (0 ∷ p) a t)
  keep_goes p (pair r b x y) t = kept_goes p r _ (after (keep_goes (0 ∷ p) x t) (keep_goes (1 ∷ p) y _))
  keep_goes p (pick r c x y) t =
      kept_goes p r _ (after (keep_goes (0 ∷ p) c t) (after (keep_goes (1 ∷ p) x _) (keep_goes (2 ∷ p) y _)))
  keep_goes p (apply r q x) t = kept_goes p r _ (keep_goes (0 ∷ p) x t)
  keep_goes p _ t = kept_goes p _ _ still

  keep_all_goes : (p : Path) (es : List Expression) (t : Note W) → From 0 t (keep_all o p es t)
  keep_all_goes p [] t = still
  keep_all_goes p (e ∷ es) t = after (keep_goes p e t) (keep_all_goes (next p) es _)

  assign_goes : (v : Variable) (w : Wave) (t : Note W) → From 0 t (assign o v w t)
  assign_goes (Local r n) w t = record { worlds = goes.none t.world }
  assign_goes (Global g) w t = record { worlds = goes.save g (held o.ksmps (res_rate g) w) t.world }

  given_goes : (vs : List Variable) (w : Wave) (t : Note W) → From 0 t (given o vs w t)
  given_goes [] w t = still
  given_goes (v ∷ vs) w t = assign_goes v w t

  started_goes : (r : Rate) (q : Opcode) (u : ℕ) (is : List Expression) (t : Note W) → From 0 t (started o r q u is t)
  started_goes r q u is t = moves (goes.start q r u (first_values (values o t beginning [] is)) t.world)

  sought_goes : (is : List Expression) (t : Note W) → From 0 t (sought o is t)
  sought_goes is t = moves (goes.seek (first_values (values o t beginning [] is)) t.world)

  run_goes : (r : Rate) (vs : List Variable) (q : Opcode) (u : ℕ) (reach : Reach) (xs : List Expression) (t : Note W)
      → From 0 t (run_once o r vs q u reach xs t)
  run_goes r vs q u reach xs t =
      after (moves (goes.does q r u reach (values o t beginning [] xs) t.world)) (given_goes vs _ _)

  zak_goes : (r : Rate) (vs : List Variable) (q : Opcode) (reach : Reach) (xs : List Expression) (t : Note W)
      → From 0 t (zak_once o r vs q reach xs t)
  zak_goes r vs q reach xs t = after (moves (goes.zak q reach (values o t beginning [] xs) t.world)) (given_goes vs _ _)

  stored_goes : (r : Rate) (reach : Reach) (es : List Expression) (t : Note W) → From 0 t (stored_once o r reach es t)
  stored_goes r reach es t = moves (goes.store r reach (values o t beginning [] es) t.world)

  mutual
    pub stmt_goes : (s : Stmt) (p : StatementPlace) (t : Note W) → From (asks_in_stmt s) t (init_stmt o p s t)
    stmt_goes (set r v e) p t = going_goes (rate_goes r (assign_goes v _ t) (keep_goes (0 ∷ p.path) e t))
    stmt_goes (unit r vs q reach xs is) p t =
        going_goes (rate_goes r
        (after (started_goes r q p.unit is t) (going_goes (run_goes r vs q p.unit reach xs _)))
        (after (keep_all_goes (0 ∷ p.path) xs t) (started_goes r q p.unit is _)))
    stmt_goes (zak r vs q reach xs) p t =
        going_goes (rate_goes r (zak_goes r vs q reach xs t) (keep_all_goes (0 ∷ p.path) xs t))
    stmt_goes (store r reach es is) p t =
        going_goes (rate_goes r (after (sought_goes is t) (going_goes (stored_goes r reach es _)))
        (after (keep_all_goes (0 ∷ p.path) es t) (sought_goes is _)))
    stmt_goes (out r es) p t = going_goes (keep_all_goes (0 ∷ p.path) es t)
    stmt_goes (out_at r es) p t = going_goes (keep_all_goes (0 ∷ p.path) es t)
    stmt_goes (ask es) p t = going_goes (moves (goes.ask (first_values (values o t beginning [] es)) t.world))
    stmt_goes (choose r arms) p t = going_goes (rate_goes r (first_goes arms (inside p) t) (all_goes arms (inside p) t))
    stmt_goes _ p t = still

    pub block_goes : (b : Block) (p : StatementPlace) (t : Note W) → From (asks_in b) t (init_block o p b t)
    block_goes no_stmt p t = still
    block_goes (andthen s b) p t = both (stmt_goes s p t) (block_goes b (past_stmt p s) _)

    first_goes : (arms : Arms) (p : StatementPlace) (t : Note W) → From (asks_in_arms arms) t (init_first o p arms t)
    first_goes (otherwise b) p t = block_goes b (inside p) t
    first_goes (arm c b rest) p t =
        let kept = keep_goes (0 ∷ p.path) c t in
        chosen_goes _ (wider (after kept (block_goes b (inside_arm p) _)) (omega arith))
        (wider (after kept (first_goes rest (past_arm p b) _)) (omega arith))

    all_goes : (arms : Arms) (p : StatementPlace) (t : Note W) → From (asks_in_arms arms) t (init_all o p arms t)
    all_goes (otherwise b) p t = block_goes b (inside p) t
    all_goes (arm c b rest) p t =
        going_goes (both (after (keep_goes (0 ∷ p.path) c t) (block_goes b (inside_arm p) _))
        (all_goes rest (past_arm p b) _))
