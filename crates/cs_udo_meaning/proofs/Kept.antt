-- Values are kept only at the parts listed by keepers_of_block.
use Rattle.std.proofs.Common.{◌≡◌, ◌≢◌, ◌∙◌, ℕ, suc, ℤ, Bool, true, false, if◌then◌else◌, List, ◌∷◌, ◌++◌, refl, ap, []}
use Rattle.cs_base.specs.{declared.resource.Rate.Rate, declared.spaces.Spaces.Spaces}
use Rattle.cs_typed.specs.TypedTree.{Expression, neg, pair, pick, apply}
use Rattle.cs_typed.specs.declared.tree.Var.{Var as Variable}
use Rattle.cs_typed.specs.declared.tree.Var.TheVariants.{Local, Global}
use Rattle.cs_ir.specs.{Waves.Wave, Waves.if_init, Waves.held, Worlds.World}
use Rattle.cs_meaning.specs.Core.{Stmt, Block, Arms, set, unit, zak, store, out, out_at, ask, choose, no_stmt, andthen}
use Rattle.cs_meaning.specs.Core.{otherwise, arm, core, core_stmt, core_arms}
use Rattle.cs_meaning.specs.Initialising.{going, put_kept, keep, keep_all}
use Rattle.cs_meaning.specs.Notes.{Note, Path, StatementPlace, next, inside, inside_arm, unit_past, unit_past_block}
use Rattle.cs_meaning.specs.Notes.{assign, done, moved_to, past_stmt, past_arm as text_past_arm}
use Rattle.cs_meaning.specs.When.{When, beginning, cycle}
use Rattle.cs_udo_meaning.specs.Frames.{seen_from, Reading, by_pass, stmt_done, typed_keepers, typed_keepers_of_block}
use Rattle.cs_udo_meaning.specs.Frames.{typed_keepers_of_arms}
use Rattle.cs_udo_meaning.proofs.{Alike.place, Untouched.differ, Untouched.Stays}
use Rattle.cs_udo_meaning.proofs.Paths.{Each, each_first, each_rest}
use Rattle.cs_base.specs.declared.resource.Rate.TheVariants as rate
use Rattle.cs_typed.specs.TypedTree as typed
use Rattle.cs_meaning.specs.Initialising as initial
use Rattle.cs_meaning.specs.Performing as performing

-- a path isn't inside another one
abbrev pub Off : Path → Path → Type 0
Off q k = (y : Path) → q ≢ y ++ k

further_in : (y : Path) (k : ℕ) (p : Path) → y ++ (k ∷ p) ≡ (y ++ (k ∷ [])) ++ p
further_in [] k p = refl
further_in (j ∷ y) k p = ap (λ l. j ∷ l) (further_in y k p)

inner : (q : Path) (k : ℕ) (p : Path) → Off q p → Off q (k ∷ p)
inner q k p off y e = off (y ++ (k ∷ [])) (e ∙ further_in y k p)

module _ {W : Type 0} (o : World W) (q : Path) where
  -- the value kept at this path is unchanged
  record Same (t u : Note W) : Type 0 where
    pub kept : u.kept q ≡ t.kept q

  same : {t : Note W} → Same t t
  same = record { kept = refl }

  moved : {t : Note W} {x : W} → Same t (moved_to x t)
  moved = record { kept = refl }

  after : {t u v : Note W} → Same t u → Same u v → Same t v
  after h k = record { kept = k.kept ∙ h.kept }

  chosen : {t x y : Note W} → (b : Bool) → Same t x → Same t y → Same t (if b then x else y)
  chosen true h k = h
  chosen false h k = k

  if_going : {t next : Note W} → Same t next → Same t (going o t next)
  if_going {t} h = chosen (o.refused t.world) same h

  either : {t a b : Note W} → (r : Rate) → Same t a → Same t b → Same t (if_init r a b)
  either rate.Init h k = h
  either _ h k = k

  put_off : (p : Path) (z : ℤ) (t : Note W) → Off q p → Same t (put_kept p z t)
  put_off p z t off = record { kept = ap (λ b. if b then z else t.kept q) (differ q p (off [])) }

  keep_off : (p : Path) (e : Expression) (t : Note W) → Off q p → Same t (keep o p e t)
  keep_off p (neg r a) t off = either r (put_off p _ t off) (keep_off (0 ∷ p) a t (inner q 0 p off))
  keep_off p (pair r b x y) t off =
      either r (put_off p _ t off)
      (after (keep_off (0 ∷ p) x t (inner q 0 p off)) (keep_off (1 ∷ p) y _ (inner q 1 p off)))
  keep_off p (pick r c x y) t off =
      either r (put_off p _ t off) (after (keep_off (0 ∷ p) c t (inner q 0 p off))
      (after (keep_off (1 ∷ p) x _ (inner q 1 p off)) (keep_off (2 ∷ p) y _ (inner q 2 p off))))
  keep_off p (apply r f x) t off = either r (put_off p _ t off) (keep_off (0 ∷ p) x t (inner q 0 p off))
  keep_off p _ t off = either _ (put_off p _ t off) same

  keep_all_off : (j : ℕ) (p : Path) (es : List Expression) (t : Note W) → Off q p → Same t (keep_all o (j ∷ p) es t)
  keep_all_off j p [] t off = same
  keep_all_off j p (e ∷ es) t off = after (keep_off (j ∷ p) e t (inner q j p off)) (keep_all_off (suc j) p es _ off)

  assign_off : (v : Variable) (w : Wave) (t : Note W) → Same t (assign o v w t)
  assign_off (Local r n) w t = record { kept = refl }
  assign_off (Global g) w t = record { kept = refl }

  done_off : (r : Rate) (vs : List Variable) (x : W × Wave) (t : Note W) → Same t (done o r vs x t)
  done_off r [] x t = record { kept = refl }
  done_off r (v ∷ vs) x t = record { kept = (assign_off v (held o.ksmps r x.1) (record t { world = x.0 })).kept }

  -- ---- a statement without calls of user-defined opcodes

  mutual
    init_off : (p : Path) (u : ℕ) (s : Stmt) (t : Note W) → Off q p → Same t (initial.init_stmt o (place p u) s t)
    init_off p u (set r v e) t off =
        if_going (either r (assign_off v _ t) (keep_off (0 ∷ p) e t (inner q 0 p off)))
    init_off p u (unit r vs opcode reach xs is) t off =
        if_going (either r (after moved (if_going (done_off r vs _ _))) (after (keep_all_off 0 p xs t off) moved))
    init_off p u (zak r vs opcode reach xs) t off =
        if_going (either r (done_off r vs _ t) (keep_all_off 0 p xs t off))
    init_off p u (store r reach es is) t off =
        if_going (either r (after moved (if_going moved)) (after (keep_all_off 0 p es t off) moved))
    init_off p u (out r es) t off = if_going (keep_all_off 0 p es t off)
    init_off p u (out_at r es) t off = if_going (keep_all_off 0 p es t off)
    init_off p u (ask es) t off = if_going moved
    init_off p u (choose r arms) t off =
        if_going (either r (init_first_off 0 p u arms t off) (init_all_off 0 p u arms t off))
    init_off p u _ t off = same

    init_block_off : (j : ℕ) (p : Path) (u : ℕ) (b : Block) (t : Note W) → Off q p
        → Same t (initial.init_block o (place (j ∷ p) u) b t)
    init_block_off j p u no_stmt t off = same
    init_block_off j p u (andthen s b) t off =
        after (init_off (j ∷ p) u s t (inner q j p off)) (init_block_off (suc j) p (unit_past u s) b _ off)

    init_first_off : (j : ℕ) (p : Path) (u : ℕ) (list : Arms) (t : Note W) → Off q p
        → Same t (initial.init_first o (place (j ∷ p) u) list t)
    init_first_off j p u (otherwise b) t off = init_block_off 0 (j ∷ p) u b t (inner q j p off)
    init_first_off j p u (arm c b rest) t off =
        let at = inner q j p off in
        after (keep_off (0 ∷ j ∷ p) c t (inner q 0 (j ∷ p) at))
        (chosen _ (init_block_off 0 (1 ∷ j ∷ p) u b _ (inner q 1 (j ∷ p) at))
        (init_first_off (suc j) p (unit_past_block u b) rest _ off))

    init_all_off : (j : ℕ) (p : Path) (u : ℕ) (list : Arms) (t : Note W) → Off q p
        → Same t (initial.init_all o (place (j ∷ p) u) list t)
    init_all_off j p u (otherwise b) t off = init_block_off 0 (j ∷ p) u b t (inner q j p off)
    init_all_off j p u (arm c b rest) t off =
        let at = inner q j p off in
        if_going (after (keep_off (0 ∷ j ∷ p) c t (inner q 0 (j ∷ p) at))
        (after (init_block_off 0 (1 ∷ j ∷ p) u b _ (inner q 1 (j ∷ p) at))
        (init_all_off (suc j) p (unit_past_block u b) rest _ off)))

  mutual
    perf_off : (p : StatementPlace) (s : Stmt) (t : Note W) → Same t (performing.perf_stmt o p s t)
    perf_off p (set r v e) t = either r same (assign_off v _ t)
    perf_off p (unit r vs opcode reach xs is) t = either r same (done_off r vs _ t)
    perf_off p (zak r vs opcode reach xs) t = either r same (done_off r vs _ t)
    perf_off p (store r reach es is) t = either r same moved
    perf_off p (choose r arms) t = perf_arms_off (inside p) arms t
    perf_off p _ t = record { kept = refl }

    perf_block_off : (p : StatementPlace) (b : Block) (t : Note W) → Same t (performing.perf_block o p b t)
    perf_block_off p no_stmt t = same
    perf_block_off p (andthen s b) t = after (perf_off p s t) (perf_block_off (past_stmt p s) b _)

    perf_arms_off : (p : StatementPlace) (list : Arms) (t : Note W) → Same t (performing.perf_arms o p list t)
    perf_arms_off p (otherwise b) t = perf_block_off (inside p) b t
    perf_arms_off p (arm c b rest) t =
        chosen _ (perf_block_off (inside_arm p) b t) (perf_arms_off (text_past_arm p b) rest t)

  -- a typed text without calls of user-defined opcodes
  mutual
    typed_off : (spaces : Spaces) (p : StatementPlace) (x : typed.Statement) (t : Note W)
        → Each (Off q) (typed_keepers p.path x) → Same t (initial.init_stmt o p (core_stmt spaces x) t)
    typed_off spaces p (typed.set line r v e) t off =
        if_going (either r (assign_off v _ t) (keep_off (0 ∷ p.path) e t off.0))
    typed_off spaces p (typed.call line r vs opcode args) t off =
        init_off p.path p.unit (core_stmt spaces (typed.call line r vs opcode args)) t off.0
    typed_off spaces p (typed.choose line r list) t off =
        if_going (either r (typed_first_off spaces (inside p) list t off) (typed_all_off spaces (inside p) list t off))

    typed_block_off : (spaces : Spaces) (p : StatementPlace) (b : typed.Block) (t : Note W)
        → Each (Off q) (typed_keepers_of_block p.path b) → Same t (initial.init_block o p (core spaces b) t)
    typed_block_off spaces p typed.no_stmt t off = same
    typed_block_off spaces p (typed.andthen x rest) t off =
        let one = typed_keepers p.path x in
        let two = typed_keepers_of_block (next p.path) rest in
        after (typed_off spaces p x t (each_first (Off q) one two off))
        (typed_block_off spaces (past_stmt p (core_stmt spaces x)) rest _ (each_rest (Off q) one two off))

    typed_first_off : (spaces : Spaces) (p : StatementPlace) (list : typed.Arms) (t : Note W)
        → Each (Off q) (typed_keepers_of_arms p.path list) → Same t (initial.init_first o p (core_arms spaces list) t)
    typed_first_off spaces p (typed.otherwise b) t off = typed_block_off spaces (inside p) b t off
    typed_first_off spaces p (typed.arm c b rest) t off =
        let own = (0 ∷ p.path) ∷ typed_keepers_of_block (0 ∷ 1 ∷ p.path) b in
        let more = typed_keepers_of_arms (next p.path) rest in
        let here = each_first (Off q) own more off in
        after (keep_off (0 ∷ p.path) c t here.0) (chosen _ (typed_block_off spaces (inside_arm p) b _ here.1)
        (typed_first_off spaces (text_past_arm p (core spaces b)) rest _ (each_rest (Off q) own more off)))

    typed_all_off : (spaces : Spaces) (p : StatementPlace) (list : typed.Arms) (t : Note W)
        → Each (Off q) (typed_keepers_of_arms p.path list) → Same t (initial.init_all o p (core_arms spaces list) t)
    typed_all_off spaces p (typed.otherwise b) t off = typed_block_off spaces (inside p) b t off
    typed_all_off spaces p (typed.arm c b rest) t off =
        let own = (0 ∷ p.path) ∷ typed_keepers_of_block (0 ∷ 1 ∷ p.path) b in
        let more = typed_keepers_of_arms (next p.path) rest in
        let here = each_first (Off q) own more off in
        if_going (after (keep_off (0 ∷ p.path) c t here.0) (after (typed_block_off spaces (inside_arm p) b _ here.1)
        (typed_all_off spaces (text_past_arm p (core spaces b)) rest _ (each_rest (Off q) own more off))))

  pub texts_off : (w : When) (spaces : Spaces) (p : StatementPlace) (b : typed.Block) (t : Note W)
      → Each (Off q) (typed_keepers_of_block p.path b)
      → (by_pass w (initial.init_block o p (core spaces b) t) (performing.perf_block o p (core spaces b) t)).kept q
      ≡ t.kept q
  texts_off beginning spaces p b t off = (typed_block_off spaces p b t off).kept
  texts_off cycle spaces p b t off = (perf_block_off p (core spaces b) t).kept

  stmt_off : (w : When) (p : StatementPlace) (s : Stmt) (t : Note W) → Off q p.path
      → (stmt_done w o p s t).kept q ≡ t.kept q
  stmt_off beginning p s t off = (init_off p.path p.unit s t off).kept
  stmt_off cycle p s t off = (perf_off p s t).kept

-- the values that a note with frames keeps
pub kept_stays : {W : Type 0} (m : Reading W) (q : Path) → Stays m (λ u. u.kept q) (λ f. Unit {0}) (Off q)
kept_stays m q = record {
  done = λ w f i p at s u. stmt_off m.world q w p s (seen_from f u) at;
  kept = λ f i p at e u. (keep_off m.world q p e (seen_from f u) at).kept;
  assigned = λ f i v x u. (assign_off m.world q v x (seen_from f u)).kept;
}
