-- The actions of a note as it begins.
use Rattle.std.specs.Prelude.{ℕ, ℤ, List, [], ◌∷◌, if◌then◌else◌}
use Rattle.std.specs.Str.{bytes_eq as same_path}
use Rattle.cs_base.specs.declared.resource.Rate.{Rate}
use Rattle.cs_words.specs.declared.catalogue.Opcode.{Opcode}
use Rattle.cs_typed.specs.TypedTree.{Expression, number, var, field, head, neg, pair, pick, apply}
use Rattle.cs_typed.specs.declared.tree.Var.{Var as Variable}
use Rattle.cs_ir.specs.{Values.holds, Waves.if_init, Waves.first_values, Worlds.World, declared.op.Reach.Reach}
use Rattle.cs_meaning.specs.Core.{Stmt, Block, Arms, set, unit, zak, store, out, out_at, ask, turnoff, nothing, choose}
use Rattle.cs_meaning.specs.{Core.no_stmt, Core.andthen, Core.otherwise, Core.arm, When.beginning}
use Rattle.cs_meaning.specs.Notes.{Note, Path, StatementPlace, moved_to, next, inside, inside_arm, past_stmt, past_arm}
use Rattle.cs_meaning.specs.Notes.{assign, value, values, first_value, done}

-- after something was refused, nothing more is done
abbrev pub going : {W : Type 0} → World W → Note W → Note W → Note W
going o t next = if o.refused t.world then t else next

-- a value is kept at a path
abbrev pub put_kept : {W : Type 0} → Path → ℤ → Note W → Note W
put_kept p z t = record t { kept = λ q. if same_path q p then z else t.kept q }

-- The outermost parts of an expression that don't change are evaluated and kept, in the order of the text.
abbrev pub keep : {W : Type 0} → World W → Path → Expression → Note W → Note W
keep o p (number r n) t = if_init r (put_kept p (first_value o t (number r n)) t) t
keep o p (var r v) t = if_init r (put_kept p (first_value o t (var r v)) t) t
keep o p (field r k) t = if_init r (put_kept p (first_value o t (field r k)) t) t
keep o p (head r h) t = if_init r (put_kept p (first_value o t (head r h)) t) t
keep o p (neg r a) t = if_init r (put_kept p (first_value o t (neg r a)) t) (keep o (0 ∷ p) a t)
keep o p (pair r b x y) t =
    if_init r (put_kept p (first_value o t (pair r b x y)) t) (keep o (1 ∷ p) y (keep o (0 ∷ p) x t))
keep o p (pick r c x y) t =
    if_init r (put_kept p (first_value o t (pick r c x y)) t)
    (keep o (2 ∷ p) y (keep o (1 ∷ p) x (keep o (0 ∷ p) c t)))
keep o p (apply r f x) t = if_init r (put_kept p (first_value o t (apply r f x)) t) (keep o (0 ∷ p) x t)

-- the kept parts of expressions are evaluated and kept; the first expression has path p
abbrev pub keep_all : {W : Type 0} → World W → Path → List Expression → Note W → Note W
keep_all o p [] t = t
keep_all o p (e ∷ es) t = keep_all o (next p) es (keep o p e t)

-- a unit is started with its settled arguments
abbrev pub started : {W : Type 0} → World W → Rate → Opcode → ℕ → List Expression → Note W → Note W
started o r opcode u is t = moved_to (o.start opcode r u (first_values (values o t beginning [] is)) t.world) t

-- a unit runs once, as the note begins
abbrev pub run_once : {W : Type 0} → World W → Rate → List Variable → Opcode → ℕ → Reach → List Expression → Note W
    → Note W
run_once o r vs opcode u reach xs t = done o r vs (o.does opcode r u reach (values o t beginning [] xs) t.world) t

-- a store looks up its table, and stores once
abbrev pub sought : {W : Type 0} → World W → List Expression → Note W → Note W
sought o is t = moved_to (o.seek (first_values (values o t beginning [] is)) t.world) t

-- a store stores once, as the note begins
abbrev pub stored_once : {W : Type 0} → World W → Rate → Reach → List Expression → Note W → Note W
stored_once o r reach es t = moved_to (o.store r reach (values o t beginning [] es) t.world) t

-- zak places are read or written once
abbrev pub zak_once : {W : Type 0} → World W → Rate → List Variable → Opcode → Reach → List Expression → Note W → Note W
zak_once o r vs opcode reach xs t = done o r vs (o.zak opcode reach (values o t beginning [] xs) t.world) t

-- Initialisation: every i-rate statement, the start of every unit, the lookup of the table of every
-- store, and the evaluation of the parts that are kept, in the order of the text.
abbrev mutual
  pub init_stmt : {W : Type 0} → World W → StatementPlace → Stmt → Note W → Note W
  init_stmt o p (set r v e) t =
      going o t (if_init r (assign o v (value o t beginning [] e) t) (keep o (0 ∷ p.path) e t))
  init_stmt o p (unit r vs opcode reach xs is) t =
      going o t (if_init r
      (let s = started o r opcode p.unit is t in going o s (run_once o r vs opcode p.unit reach xs s))
      (started o r opcode p.unit is (keep_all o (0 ∷ p.path) xs t)))
  init_stmt o p (zak r vs opcode reach xs) t =
      going o t (if_init r (zak_once o r vs opcode reach xs t) (keep_all o (0 ∷ p.path) xs t))
  init_stmt o p (store r reach es is) t =
      going o t (if_init r
      (let s = sought o is t in going o s (stored_once o r reach es s))
      (sought o is (keep_all o (0 ∷ p.path) es t)))
  init_stmt o p (out r es) t = going o t (keep_all o (0 ∷ p.path) es t)
  init_stmt o p (out_at r es) t = going o t (keep_all o (0 ∷ p.path) es t)
  init_stmt o p (ask es) t = going o t (moved_to (o.ask (first_values (values o t beginning [] es)) t.world) t)
  init_stmt o p (turnoff r) t = t
  init_stmt o p nothing t = t
  init_stmt o p (choose r arms) t =
      going o t (if_init r (init_first o (inside p) arms t) (init_all o (inside p) arms t))

  pub init_block : {W : Type 0} → World W → StatementPlace → Block → Note W → Note W
  init_block o p no_stmt t = t
  init_block o p (andthen s b) t = init_block o (past_stmt p s) b (init_stmt o p s t)

  -- an `if` that is decided once: the first arm whose condition holds is chosen, and the choice is kept for
  -- all cycles
  pub init_first : {W : Type 0} → World W → StatementPlace → Arms → Note W → Note W
  init_first o p (otherwise b) t = init_block o (inside p) b t
  init_first o p (arm c b rest) t =
      let s = keep o (0 ∷ p.path) c t in
      if holds (s.kept (0 ∷ p.path)) then init_block o (inside_arm p) b s else init_first o (past_arm p b) rest s

  -- any other `if` chooses no arm yet: all its arms are initialised
  pub init_all : {W : Type 0} → World W → StatementPlace → Arms → Note W → Note W
  init_all o p (otherwise b) t = init_block o (inside p) b t
  init_all o p (arm c b rest) t =
      going o t (init_all o (past_arm p b) rest (init_block o (inside_arm p) b (keep o (0 ∷ p.path) c t)))
