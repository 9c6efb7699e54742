-- The invariant of the typed routines is kept, one statement after another.
use Rattle.std.proofs.Common.{◌≡◌, ◌∙◌, ◌++◌, ℕ, List, [], ◌∷◌, Option, Some, None, take, refl, sym, ap, subst}
use Rattle.std.specs.Option.{option_or}
use Rattle.std.proofs.lemmas.List.{append_assoc}
use Rattle.cs_base.specs.declared.fault.OrcFault.{OrcFault}
use Rattle.cs_grammar.specs.{Tree.Definition, Tree.Statement, Tree.Block, declared.tree.OrcStmt.OrcStmt}
use Rattle.cs_grammar.specs.declared.tree.Arm.{Arm, out-Arm}
use Rattle.cs_typed.specs.{Places.inside, declared.setting.Setting.Setting, declared.tree.TypedStmt.TypedStmt}
use Rattle.cs_typed.specs.declared.tree.TypedArm.{TypedArm, out-TypedArm}
use Rattle.cs_typing.specs.{Expressions.expression_by, Settings.at, Statements.condition_fault_by, Known.Shared}
use Rattle.cs_typing.specs.{declared.routines.RoutineTable.RoutineTable, declared.routines.Site.Site}
use Rattle.cs_typing.specs.{declared.routines.SoFar.SoFar, inner.Held.known_of, inner.Routines.variable_in}
use Rattle.cs_typing.specs.declared.routines.TypedDefinition.{TypedDefinition}
use Rattle.cs_typing.specs.inner.Listed.{Adds, AddsOver, AreTyped, IsAhead, IsLonger, IsSound, IsTyped, blocks_in}
use Rattle.cs_typing.specs.inner.Listed.{arm_fault_in, routines_at, routines_of}
use Rattle.cs_typing.specs.inner.Routines.{KnownInBody, Routines, block_fault_in, fault_in, known_after}
use Rattle.cs_typing.specs.inner.Routines.{known_after_block, no_routines, routine_of, shared_after, typed_block_in}
use Rattle.cs_typing.specs.inner.Routines.{typed_in, arms_fault_in, known_after_arms, knows_in, typed_arms_in}
use Rattle.cs_typing.proofs.{Joined.with_arms, Joined.one_more_arm, KnownLater.SharedGoesOn, Listed.one_more}
use Rattle.cs_typed.proofs.Moved.{then_again}
use Rattle.cs_typing.proofs.RoutineSteady.{AllSteady, Apart, Steady, again_from, all_steady, definition_steady}
use Rattle.cs_typing.proofs.RoutineSteady.{none_steady, stmt_apart, stmt_on}
use Rattle.cs_udo.specs.Library.{definitions_of}
use Rattle.cs_grammar.specs.Tree as tree
use Rattle.cs_typed.specs.TypedTree as typed

-- ---- with more shared names

pub first_steady : (ds : List Definition) (n : ℕ) → AllSteady (routines_of ds n)
first_steady ds n = all_steady no_routines none_steady (take n ds)

pub typed_later : (channels : ℕ) (ds : List Definition) (k : ℕ) (d : Definition) (g h : Shared) (it : TypedDefinition)
    (blocks : List typed.Block) → Apart h → SharedGoesOn g h
    → IsTyped channels g (routine_of (routines_of ds k) d) it blocks
    → IsTyped channels h (routine_of (routines_of ds k) d) it blocks
typed_later channels ds k d g h it blocks a on was =
    let r = routine_of (routines_of ds k) d in
    let m : Steady r = definition_steady (routines_of ds k) (first_steady ds k) d in
    let again = again_from r m (inside channels) g was.fault h a was.shared on in
    record {
      fault = again.sound;
      shared = again.same;
      within = was.within;
      block = again.form ∙ was.block;
      locals = was.locals;
      slots = was.slots;
    }

pub all_typed_later : (channels : ℕ) (ds : List Definition) (g h : Shared) (t : RoutineTable) → Apart h
    → SharedGoesOn g h → AreTyped channels ds g t → AreTyped channels ds h t
all_typed_later channels ds g h t a on was = record {
  fit = was.fit;
  marks = was.marks;
  each = λ k it d at here. typed_later channels ds k d g h it (blocks_in t) a on (was.each k it d at here);
  apart = a.sound;
}

-- ---- from one point of the text to the next

pub longer_same : (t : RoutineTable) → IsLonger t t
longer_same t = ([], sym (append_nothing (blocks_in t)))
  where
    append_nothing : (bs : List typed.Block) → bs ++ [] ≡ bs
    append_nothing [] = refl
    append_nothing (b ∷ bs) = ap (λ r. b ∷ r) (append_nothing bs)

pub longer_still : (a b c : RoutineTable) → IsLonger a b → IsLonger b c → IsLonger a c
longer_still a b c p q =
    (p.0 ++ q.0, q.1 ∙ ap (λ bs. bs ++ q.0) p.1 ∙ append_assoc (blocks_in a) p.0 q.0)

pub ahead_still : (s : Site) (a b c : SoFar) → IsAhead s a b → IsAhead s b c → IsAhead s a c
ahead_still s a b c p q = record {
  sound = q.sound;
  longer = longer_still a.routines b.routines c.routines p.longer q.longer;
}

-- a statement that invokes no routine
pub ahead_alone : (s : Site) (a b : SoFar) (x : Statement) → IsSound s a → b.routines ≡ a.routines
    → fault_in s.setting (routines_at s) (known_of a.names) x ≡ None
    → known_of b.names ≡ known_after (routines_at s) (known_of a.names) x → IsAhead s a b
ahead_alone s a b x was same none after =
    let ds = definitions_of s.library.now in
    let m = first_steady ds s.visible in
    let g = a.names.shared in
    let shared : b.names.shared ≡ shared_after (routines_at s) g x = ap (λ k. k.shared) after in
    let free : Apart g = record { sound = was.apart } in
    record {
      sound = subst (λ (t : RoutineTable). AreTyped s.setting.channels ds b.names.shared t) (sym same)
          (subst (λ (h : Shared). AreTyped s.setting.channels ds h a.routines) (sym shared)
          (all_typed_later s.setting.channels ds g (shared_after (routines_at s) g x) a.routines
          (stmt_apart (routines_at s) m s.setting g free (known_of a.names).locals x none)
          (stmt_on (routines_at s) m g x) was));
      longer = subst (λ (t : RoutineTable). IsLonger a.routines t) (sym same) (longer_same a.routines);
    }

-- ---- statements that are added

-- a typed statement whose form doesn't depend on the routines
pub one_added : (t : RoutineTable) (old new : List TypedStmt) (y : TypedStmt) (form : typed.Statement)
    → new ≡ old ++ y ∷ [] → ((rs : List typed.Block) → typed.statement rs y ≡ typed.alone form)
    → AddsOver t old new (typed.alone form)
one_added t old new y form pushed is more =
    let rs = blocks_in t ++ more in
    ap (typed.block rs) pushed ∙ one_more rs old y ∙ ap (λ b. typed.then_block (typed.block rs old) b) (is rs)

pub one_added_always : (old new : List TypedStmt) (y : TypedStmt) (form : typed.Statement)
    → new ≡ old ++ y ∷ [] → ((rs : List typed.Block) → typed.statement rs y ≡ typed.alone form)
    → Adds old new (typed.alone form)
one_added_always old new y form pushed is rs =
    ap (typed.block rs) pushed ∙ one_more rs old y ∙ ap (λ b. typed.then_block (typed.block rs old) b) (is rs)

-- some statements, followed by others
pub added_both : (rs : List typed.Block) (a b c : List TypedStmt) (x y : typed.Block)
    → typed.block rs b ≡ typed.then_block (typed.block rs a) x
    → typed.block rs c ≡ typed.then_block (typed.block rs b) y
    → typed.block rs c ≡ typed.then_block (typed.block rs a) (typed.then_block x y)
added_both rs a b c x y p q =
    q ∙ ap (λ z. typed.then_block z y) p ∙ then_again (typed.block rs a) x y

-- ---- one more statement: the rest has the same fault and form as the whole

pub rest_fault_in : (s : Setting) (rs : Routines) (k m : KnownInBody) (list rest : List OrcStmt) (x : OrcStmt)
    → list ≡ x ∷ rest → fault_in s rs k (tree.statement x) ≡ None → m ≡ known_after rs k (tree.statement x)
    → block_fault_in s rs m (tree.block rest) ≡ block_fault_in s rs k (tree.block list)
rest_fault_in s rs k m list rest x e none after =
    ap (λ n. block_fault_in s rs n (tree.block rest)) after
    ∙ sym (ap (λ f. option_or f (block_fault_in s rs (known_after rs k (tree.statement x)) (tree.block rest))) none)
    ∙ sym (ap (λ xs. block_fault_in s rs k (tree.block xs)) e)

pub rest_known_in : (rs : Routines) (k m : KnownInBody) (list rest : List OrcStmt) (x : OrcStmt) → list ≡ x ∷ rest
    → m ≡ known_after rs k (tree.statement x)
    → known_after_block rs m (tree.block rest) ≡ known_after_block rs k (tree.block list)
rest_known_in rs k m list rest x e after =
    ap (λ n. known_after_block rs n (tree.block rest)) after ∙ sym (ap (λ xs. known_after_block rs k (tree.block xs)) e)

pub rest_typed_in : (rs : Routines) (bs : List typed.Block) (k m : KnownInBody) (list rest : List OrcStmt) (x : OrcStmt)
    (done more : List TypedStmt) → list ≡ x ∷ rest
    → typed.block bs more ≡ typed.then_block (typed.block bs done) (typed_in rs k (tree.statement x))
    → m ≡ known_after rs k (tree.statement x)
    → typed.then_block (typed.block bs more) (typed_block_in rs m (tree.block rest))
    ≡ typed.then_block (typed.block bs done) (typed_block_in rs k (tree.block list))
rest_typed_in rs bs k m list rest x done more e made after =
    let tail = typed_block_in rs m (tree.block rest) in
    ap (λ b. typed.then_block b tail) made ∙ then_again (typed.block bs done) (typed_in rs k (tree.statement x)) tail
    ∙ ap (λ n. typed.then_block (typed.block bs done)
    (typed.then_block (typed_in rs k (tree.statement x)) (typed_block_in rs n (tree.block rest)))) after
    ∙ sym (ap (λ xs. typed.then_block (typed.block bs done) (typed_block_in rs k (tree.block xs))) e)

-- ---- arms

-- the mirror of an arm's condition
abbrev pub cond_of : Arm → tree.Expression
cond_of a = tree.expression (out-Arm a).cond

-- the mirror of an arm's statements
abbrev pub body_of : Arm → Block
body_of a = tree.block (out-Arm a).body.items

pub rest_arms_fault_in : (s : Setting) (rs : Routines) (k m : KnownInBody) (line : ℕ) (els : Block)
    (list rest : List Arm) (a : Arm) → list ≡ a ∷ rest → at line (condition_fault_by s (knows_in k) (cond_of a)) ≡ None
    → block_fault_in s rs k (body_of a) ≡ None → m ≡ known_after_block rs k (body_of a)
    → arms_fault_in s rs m line (tree.arms els rest) ≡ arms_fault_in s rs k line (tree.arms els list)
rest_arms_fault_in s rs k m line els list rest a e cond body after =
    let tail = arms_fault_in s rs (known_after_block rs k (body_of a)) line (tree.arms els rest) in
    ap (λ n. arms_fault_in s rs n line (tree.arms els rest)) after ∙ sym (ap (λ f. option_or f tail) body)
    ∙ sym (ap (λ f. option_or f (option_or (block_fault_in s rs k (body_of a)) tail)) cond)
    ∙ sym (ap (λ xs. arms_fault_in s rs k line (tree.arms els xs)) e)

pub rest_arms_known_in : (rs : Routines) (k m : KnownInBody) (els : Block) (list rest : List Arm) (a : Arm)
    → list ≡ a ∷ rest → m ≡ known_after_block rs k (body_of a)
    → known_after_arms rs m (tree.arms els rest) ≡ known_after_arms rs k (tree.arms els list)
rest_arms_known_in rs k m els list rest a e after =
    ap (λ n. known_after_arms rs n (tree.arms els rest)) after
    ∙ sym (ap (λ xs. known_after_arms rs k (tree.arms els xs)) e)

pub rest_arms_typed_in : (rs : Routines) (bs : List typed.Block) (k m : KnownInBody) (els : Block)
    (list rest : List Arm) (a : Arm) (done more : List TypedArm) (y : TypedArm) → list ≡ a ∷ rest
    → more ≡ done ++ y ∷ [] → typed.expression (out-TypedArm y).cond ≡ expression_by (variable_in k) (cond_of a)
    → typed.block bs (out-TypedArm y).body.items ≡ typed_block_in rs k (body_of a)
    → m ≡ known_after_block rs k (body_of a) → with_arms bs more (typed_arms_in rs m (tree.arms els rest))
    ≡ with_arms bs done (typed_arms_in rs k (tree.arms els list))
rest_arms_typed_in rs bs k m els list rest a done more y e pushed cond body after =
    let tail = typed_arms_in rs m (tree.arms els rest) in
    ap (λ ys. with_arms bs ys tail) pushed ∙ one_more_arm bs done y tail
    ∙ (λ i. with_arms bs done (typed.arm (cond i) (body i) (typed_arms_in rs (after i) (tree.arms els rest))))
    ∙ sym (ap (λ xs. with_arms bs done (typed_arms_in rs k (tree.arms els xs))) e)

-- a fault of the first two is a fault of the three
sooner : (a b c : Option OrcFault) (f : OrcFault) → option_or a b ≡ Some f → option_or a (option_or b c) ≡ Some f
sooner (Some g) b c f e = e
sooner None b c f e = ap (λ g. option_or g c) e

-- a fault of the first arm is the fault of all arms
pub first_arm_fault_in : (s : Setting) (rs : Routines) (k : KnownInBody) (line : ℕ) (els : Block)
    (list rest : List Arm) (a : Arm) (f : OrcFault) → list ≡ a ∷ rest → arm_fault_in s rs k line a ≡ Some f
    → arms_fault_in s rs k line (tree.arms els list) ≡ Some f
first_arm_fault_in s rs k line els list rest a f e here =
    ap (λ xs. arms_fault_in s rs k line (tree.arms els xs)) e
    ∙ sooner (at line (condition_fault_by s (knows_in k) (cond_of a))) (block_fault_in s rs k (body_of a))
    (arms_fault_in s rs (known_after_block rs k (body_of a)) line (tree.arms els rest)) f here
