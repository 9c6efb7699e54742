-- Expanded statements have the same effect as the original statements with frames.
use Rattle.std.proofs.Common.{◌≡◌, ◌∙◌, ℕ, zero, suc, ◌+◌, ◌≤◌, Bool, if◌then◌else◌, List, ◌∷◌, map, [], ◌++◌, length}
use Rattle.std.proofs.Common.{Option, Some, arith, refl, sym, ap, subst}
use Rattle.cs_base.specs.declared.resource.Rate.{Rate}
use Rattle.cs_words.specs.Names.{name_rate}
use Rattle.cs_grammar.specs.{declared.tree.Callee.Callee, Tree.joins, Tree.Arms, Tree.otherwise, Tree.arm}
use Rattle.cs_grammar.specs.Tree.{Expression, Argument, value, Statement, set, call, choose, Block, no_stmt, andthen}
use Rattle.cs_typed.specs.declared.tree.Var.{Var as Variable}
use Rattle.cs_typing.specs.{Known.channel_of, declared.known.Channel.Channel}
use Rattle.cs_ir.specs.{Values.holds, Waves.Wave, Waves.if_init}
use Rattle.cs_meaning.specs.{Initialising.going, Initialising.keep, When.When, When.beginning, When.cycle}
use Rattle.cs_meaning.specs.Notes.{Note, Path, StatementPlace, next, inside, inside_arm, past_stmt, unit_past_block}
use Rattle.cs_meaning.specs.Notes.{unit_past_arms, assign, past_arm as text_past_arm, value as value_of}
use Rattle.cs_udo.specs.Expanded.{Template, Opcodes, assignments, value_in, called, after, after_block, expanded}
use Rattle.cs_udo.specs.{Expanded.expanded_block, Expanded.expanded_arms, Names.in_frame}
use Rattle.cs_grammar.specs.Renaming.{renamed_expression, renamed_argument}
use Rattle.cs_udo_meaning.specs.Frames.{Framed, seen_from, put_back, Reading, variable_read, expression_read, read}
use Rattle.cs_udo_meaning.specs.Frames.{by_pass, stmt_done, going_on, copied, copy_done, copies_done, Action, Actions}
use Rattle.cs_udo_meaning.specs.Frames.{values_in, call_done, any_done, frames_of_call, frames_of, frames_of_block}
use Rattle.cs_udo_meaning.specs.Frames.{frames_of_arms, units_of_call, units_of, units_of_block, units_of_arms}
use Rattle.cs_udo_meaning.specs.Frames.{past_arm, framed_done, block_done, init_first, init_all, perf_arms}
use Rattle.cs_udo_meaning.specs.{Frames.typed_keepers_of_block, Numbered.arms_by}
use Rattle.cs_udo_meaning.specs.Numbered.{Numbering, Tells, Variables, numbered, expression_by, statement_by, block_by}
use Rattle.cs_udo_meaning.specs.Stands.{own_name, Fits, Way, IsClear, StandsForFrames}
use Rattle.cs_udo_meaning.proofs.Alike.{Alike, AlikeStmt, Agree, Reads, place, unit_behind, value_same, keep_same}
use Rattle.cs_udo_meaning.proofs.{Alike.init_same, Alike.perf_same, Fresh.own_rate, Paths.Each, Paths.further}
use Rattle.cs_udo_meaning.proofs.{OwnRates.own_rates, OwnRates.choice_kept, Ways.after_block_is}
use Rattle.cs_udo_meaning.proofs.Laid.{Holds, first_hold, rest_hold, LaysOn, lays_on}
use Rattle.cs_typing.proofs.Named.{Named, NamedAll, NamedArguments, NamedStmt, NamedBlock, NamedArms, any_names}
use Rattle.cs_typing.proofs.{Named.any_arguments, SameRates.expression_renamed}
use Rattle.cs_udo_meaning.proofs.Renamed.{set_renamed, call_renamed}
use Rattle.cs_udo_meaning.proofs.Standing.{SameVariable, both_shared, variable_alike, channel_alike, expression_alike}
use Rattle.cs_udo_meaning.proofs.Standing.{set_alike, call_alike, Follows, Seen, to_seen, from_seen, seen_agree}
use Rattle.cs_udo_meaning.proofs.Ways.{Leads, nowhere, alike, parts, copies_lead, Pair, PairIf, neither, both, AllPair}
use Rattle.cs_udo_meaning.proofs.Ways.{called_pair, call_leads, stmt_leads, block_leads, arms_lead, after_is}
use Rattle.std.proofs.lemmas.Grind.{common_steps}
use Rattle.cs_base.specs.declared.resource.Rate.TheVariants as rate
use Rattle.cs_grammar.specs.declared.tree.Callee.TheVariants as callee
use Rattle.cs_typed.specs.TypedTree as typed
use Rattle.cs_meaning.specs.Core as core
use Rattle.cs_meaning.specs.Initialising as initial
use Rattle.cs_meaning.specs.Performing as performing

-- ---- names of frames

pub fits_inner : (n : ℕ) → 1 ≤ n → (x : List ℕ) → Fits n x
fits_inner n h x = λ e. absurd (omega (arith, h, e))

pub inner_name : (n : ℕ) → 1 ≤ n → own_name n ≡ in_frame n
inner_name zero h = absurd (omega (arith, h))
inner_name (suc n) h = refl

results_in : (n : ℕ) (xs : List (List ℕ)) → map (value_in n) xs ≡ map (renamed_argument (in_frame n)) (values_in xs)
results_in n [] = refl
results_in n (x ∷ xs) = ap (λ l. value_in n x ∷ l) (results_in n xs)

-- An expanded text with numbers for its names, the original text and its reading, and a clear way from the
-- expanded text to the original one.
pub record Texts (W : Type 0) : Type 0 where
  pub reading : Reading W
  pub flat : Numbering
  pub flat_tells : Tells flat
  pub own_tells : Tells reading.number
  pub way : Way
  pub clear : IsClear way

module _ {W : Type 0} (texts : Texts W) where
  open texts use {reading as m, flat, flat_tells as tf, own_tells as to, way, clear}

  abbrev v : Variables
  v = numbered m.shared flat

  -- the expanded text, read with the numbers of its names
  abbrev pub flat_block : Block → core.Block
  flat_block b = core.core m.spaces (block_by m.shared (numbered m.shared flat) b)

  abbrev pub flat_stmt : Statement → core.Stmt
  flat_stmt x = core.core_stmt m.spaces (statement_by m.shared (numbered m.shared flat) x)

  abbrev pub flat_arms : Arms → core.Arms
  flat_arms list = core.core_arms m.spaces (arms_by m.shared (numbered m.shared flat) list)

  abbrev pub Stand : Note W → Framed W → Type 0
  Stand t u = StandsForFrames way flat m.number t u

  abbrev Same : ℕ → Variable → Variable → Type 0
  Same f = SameVariable flat m.number f

  -- ---- blocks one after another

  -- the place after statements of the expanded text
  abbrev pub past_text : StatementPlace → core.Block → StatementPlace
  past_text p core.no_stmt = p
  past_text p (core.andthen x rest) = past_text (past_stmt p x) rest

  text_units : (p : StatementPlace) (b : core.Block) → (past_text p b).unit ≡ unit_past_block p.unit b
  text_units p core.no_stmt = refl
  text_units p (core.andthen x rest) = text_units (past_stmt p x) rest

  past_joins : (p : StatementPlace) (a b : Block)
      → past_text p (flat_block (joins a b)) ≡ past_text (past_text p (flat_block a)) (flat_block b)
  past_joins p no_stmt b = refl
  past_joins p (andthen x rest) b = past_joins (past_stmt p (flat_stmt x)) rest b

  -- the effect of statements of the expanded text
  abbrev pub text_done : When → StatementPlace → core.Block → Note W → Note W
  text_done w p b t = by_pass w (initial.init_block m.world p b t) (performing.perf_block m.world p b t)

  text_none : (w : When) (p : StatementPlace) (t : Note W) → t ≡ text_done w p core.no_stmt t
  text_none beginning p t = refl
  text_none cycle p t = refl

  text_more : (w : When) (p : StatementPlace) (x : core.Stmt) (rest : core.Block) (t : Note W)
      → text_done w (past_stmt p x) rest (stmt_done w m.world p x t) ≡ text_done w p (core.andthen x rest) t
  text_more beginning p x rest t = refl
  text_more cycle p x rest t = refl

  text_joins : (w : When) (p : StatementPlace) (a b : Block) (t : Note W)
      → text_done w (past_text p (flat_block a)) (flat_block b) (text_done w p (flat_block a) t)
      ≡ text_done w p (flat_block (joins a b)) t
  text_joins w p no_stmt b t = ap (text_done w p (flat_block b)) (sym (text_none w p t))
  text_joins w p (andthen x rest) b t =
      let q = past_stmt p (flat_stmt x) in
      let now = stmt_done w m.world p (flat_stmt x) t in
      ap (text_done w (past_text q (flat_block rest)) (flat_block b))
      (sym (text_more w p (flat_stmt x) (flat_block rest) t)) ∙ text_joins w q rest b now
      ∙ text_more w p (flat_stmt x) (flat_block (joins rest b)) t

  -- ---- a statement without calls of user-defined opcodes

  abbrev there : ℕ → Variables
  there f x = v (own_name f x)

  alike_variable : (f : ℕ) (x : List ℕ) → Fits f x → Same f (v (own_name f x)) (variable_read m x)
  alike_variable f x fits = variable_alike m.shared flat m.number f x fits

  alike_expression : (f : ℕ) (e : Expression) → Named (Fits f) e
      → Alike (Same f) (expression_by v (renamed_expression (own_name f) e)) (expression_read m e)
  alike_expression f e n =
      subst (λ a. Alike (Same f) a (expression_read m e)) (sym (expression_renamed (own_rates f) v e))
      (expression_alike (λ x. v (own_name f x)) (numbered m.shared m.number) (alike_variable f) e n)

  alike_channel : (f : ℕ) (kind : Channel) (t : List ℕ)
      → Same f (channel_of m.shared kind t) (channel_of m.shared kind t)
  alike_channel f = channel_alike (Same f) both_shared m.shared

  alike_set : (f line : ℕ) (x : List ℕ) (e : Expression) → Fits f x → Named (Fits f) e
      → AlikeStmt (Same f) (flat_stmt (set line (own_name f x) (renamed_expression (own_name f) e)))
      (read m (set line x e))
  alike_set f line x e n k =
      subst (λ a. AlikeStmt (Same f) (core.core_stmt m.spaces a) (read m (set line x e)))
      (sym (set_renamed (own_rates f) m.shared v line x e))
      (set_alike _ _ (alike_variable _) m.shared m.shared (alike_channel _) m.spaces line _ _ n k)

  alike_call : (f line : ℕ) (xs : List (List ℕ)) (c : Callee) (args : List Argument) → NamedAll (Fits f) xs
      → NamedArguments (Fits f) args
      → AlikeStmt (Same f) (flat_stmt (call line (map (own_name f) xs) c (map (renamed_argument (own_name f)) args)))
      (read m (call line xs c args))
  alike_call f line xs c args n k =
      subst (λ a. AlikeStmt (Same f) (core.core_stmt m.spaces a) (read m (call line xs c args)))
      (sym (call_renamed (own_rates _) m.shared v line xs c args))
      (call_alike _ _ (alike_variable _) m.shared m.shared (alike_channel _) _ _ _ _ _ n k)

  -- ---- two notes at a statement

  agree : (f : ℕ) (p : Path) → way.frame f ≡ Some p → (u : Framed W)
      → Agree m.world m.world (Same f) (Follows way) (Seen way flat m.number f p u)
  agree f p at u = seen_agree m.world way clear flat m.number tf to f p at u

  plain_stands : (w : When) (f : ℕ) (fp : Path) → way.frame f ≡ Some fp → (p : StatementPlace) (q : Path)
      → Follows way p.path q → (x : core.Stmt) (y : core.Stmt) (t : Note W) (u : Framed W) → AlikeStmt (Same f) x y
      → Stand t u
      → Stand (stmt_done w m.world p x t) (put_back fp (stmt_done w m.world (place q p.unit) y (seen_from fp u)) u)
  plain_stands beginning f fp at p q leads x y t u a h =
      from_seen _ clear _ _ _ _ at _ _ _
      (init_same _ (λ r. r) _ _ _ (agree _ _ at _) _ _ (to_seen _ _ _ _ _ at _ _ h) a _ _ leads _)
  plain_stands cycle f fp at p q leads x y t u a h =
      from_seen _ clear _ _ _ _ at _ _ _
      (perf_same _ (λ r. r) _ _ _ (agree _ _ at _) _ _ (to_seen _ _ _ _ _ at _ _ h) a _ _ leads _)

  -- a single statement
  alone_stands : (w : When) (f : ℕ) (fp : Path) → way.frame f ≡ Some fp → (p : StatementPlace) (q : Path)
      → Follows way p.path q → (x : core.Stmt) (y : core.Stmt) (t : Note W) (u : Framed W) → AlikeStmt (Same f) x y
      → Stand t u → Stand (text_done w p (core.andthen x core.no_stmt) t)
      (put_back fp (stmt_done w m.world (place q p.unit) y (seen_from fp u)) u)
  alone_stands w f fp at p q leads x y t u a h =
      subst (λ z. Stand z (put_back fp (stmt_done w m.world (place q p.unit) y (seen_from fp u)) u))
      (text_none w (past_stmt p x) _ ∙ text_more w p x core.no_stmt t) (plain_stands _ _ _ at _ _ leads _ _ _ _ a h)

  -- ---- a value, its kept parts, and a variable that is assigned the value

  value_stands : (f : ℕ) (fp : Path) → way.frame f ≡ Some fp → (a b : typed.Expression) (t : Note W) (u : Framed W)
      → Alike (Same f) a b → Stand t u → (w : When) (p q : Path) → Reads w (Follows way p q)
      → value_of m.world t w p a ≡ value_of m.world (seen_from fp u) w q b
  value_stands f fp at a b t u k h w p q leads =
      value_same _ (λ r. r) _ _ _ (agree _ _ at _) _ _ (to_seen _ _ _ _ _ at _ _ h) k _ _ _ leads

  keep_stands : (f : ℕ) (fp : Path) → way.frame f ≡ Some fp → (a b : typed.Expression) (t : Note W) (u : Framed W)
      → Alike (Same f) a b → Stand t u → (p q : Path) → Follows way p q
      → Stand (keep m.world p a t) (put_back fp (keep m.world q b (seen_from fp u)) u)
  keep_stands f fp at a b t u k h p q leads =
      from_seen _ clear _ _ _ _ at _ _ _
      (keep_same _ (λ r. r) _ _ _ (agree _ _ at _) _ _ (to_seen _ _ _ _ _ at _ _ h) k _ _ leads)

  assign_stands : (g : ℕ) (gp : Path) → way.frame g ≡ Some gp → (x y : Variable) (t : Note W) (u : Framed W)
      → Same g x y → Stand t u → (a b : Wave) → a ≡ b
      → Stand (assign m.world x a t) (put_back gp (assign m.world y b (seen_from gp u)) u)
  assign_stands g gp at x y t u k h a b e =
      subst (λ w. Stand (assign m.world x a t) (put_back gp (assign m.world y w (seen_from gp u)) u)) e
      (from_seen way clear flat m.number g gp at (assign m.world x a t) (assign m.world y a (seen_from gp u)) u
      ((agree g gp at u).assigns t (seen_from gp u) (to_seen way flat m.number g gp at t u h) x y k a))

  either_stands : (r : Rate) (t q : Note W) (u w : Framed W) → Stand t u → Stand q w
      → Stand (if_init r t q) (if_init r u w)
  either_stands rate.Init t q u w h k = h
  either_stands _ t q u w h k = k

  going_stands : (t q : Note W) (u w : Framed W) → Stand t u → Stand q w
      → Stand (going m.world t q) (going_on m.world u w)
  going_stands t q u w h k = grind (arith, common_steps)

  -- the statement of the expanded text that assigns a value of frame f to a variable of frame g
  abbrev copy_of : ℕ → ℕ → ℕ → List ℕ → Expression → Statement
  copy_of line f g x e = set line (own_name g x) (renamed_expression (own_name f) e)

  copy_stands : (w : When) (line f g : ℕ) (fp gp : Path) → way.frame f ≡ Some fp → way.frame g ≡ Some gp
      → (p : StatementPlace) (q : Path) → Follows way (0 ∷ p.path) q
      → (x : List ℕ) (e : Expression) (t : Note W) (u : Framed W) → Fits g x → Named (Fits f) e → Stand t u
      → Stand (stmt_done w m.world p (flat_stmt (copy_of line f g x e)) t) (copy_done m w fp gp q x e u)
  copy_stands beginning line f g fp gp af ag p q leads x e t u fits n h =
      let b = expression_read m e in
      let k = alike_expression _ e n in
      subst (λ r. Stand (initial.init_stmt m.world p (flat_stmt (copy_of line f g x e)) t)
      (going_on m.world u (if_init r (copied m gp x (value_of m.world (seen_from fp u) beginning [] b) u)
      (put_back fp (keep m.world q b (seen_from fp u)) u)))) (own_rate g x)
      (going_stands _ _ _ _ h (either_stands (name_rate (own_name g x)) _ _ _ _
      (assign_stands g gp ag _ _ t u (alike_variable _ _ fits) h _ _
      (value_stands _ _ af _ _ _ _ k h beginning [] [] tt)) (keep_stands _ _ af _ _ _ _ k h _ _ leads)))
  copy_stands cycle line f g fp gp af ag p q leads x e t u fits n h =
      let b = expression_read m e in
      let k = alike_expression _ e n in
      subst (λ r. Stand (performing.perf_stmt m.world p (flat_stmt (copy_of line f g x e)) t)
      (if_init r u (copied m gp x (value_of m.world (seen_from fp u) cycle q b) u))) (own_rate g x)
      (either_stands _ _ _ _ _ h (assign_stands _ _ ag _ _ _ _ (alike_variable _ _ fits) h _ _
      (value_stands _ _ af _ _ _ _ k h cycle (0 ∷ p.path) q leads)))

  -- ---- copies, one after another

  abbrev pub copies_of : ℕ → ℕ → ℕ → List (List ℕ) → List Argument → Block
  copies_of line f g xs args = assignments line (map (own_name g) xs) (map (renamed_argument (own_name f)) args)

  copies_unit : (line f g : ℕ) (p : StatementPlace) (xs : List (List ℕ)) (args : List Argument)
      → (past_text p (flat_block (copies_of line f g xs args))).unit ≡ p.unit
  copies_unit line f g p (x ∷ xs) (value e ∷ args) = copies_unit line f g _ xs args
  copies_unit line f g p _ _ = refl

  pub copies_lay : (line f g : ℕ) (p : StatementPlace) (q : Path) (xs : List (List ℕ)) (args : List Argument)
      (n : Leads) → LaysOn way p.path (copies_lead q xs args n)
      → LaysOn way (past_text p (flat_block (copies_of line f g xs args))).path n
  copies_lay line f g p q (x ∷ xs) (value e ∷ args) n h = copies_lay line f g _ _ xs args n (λ k y. h (suc k) y)
  copies_lay line f g p q _ _ n h = h

  copies_stand : (w : When) (line f g : ℕ) (fp gp : Path) → way.frame f ≡ Some fp → way.frame g ≡ Some gp
      → (p : StatementPlace) (q : Path) (xs : List (List ℕ)) (args : List Argument) (n : Leads)
      → LaysOn way p.path (copies_lead q xs args n)
      → (t : Note W) (u : Framed W) → NamedAll (Fits g) xs → NamedArguments (Fits f) args → Stand t u
      → Stand (text_done w p (flat_block (copies_of line f g xs args)) t) (copies_done m w fp gp q xs args u)
  copies_stand w line f g fp gp af ag p q (x ∷ xs) (value e ∷ args) n lay t u fits k h =
      let copy = flat_stmt (copy_of line f g x e) in
      let now = stmt_done w m.world p copy t in
      subst (λ z. Stand z (copies_done m w fp gp q (x ∷ xs) (value e ∷ args) u))
      (text_more w p copy (flat_block (copies_of line f g xs args)) t)
      (copies_stand w line f g fp gp af ag (past_stmt p copy) (next q) xs args n (λ i y. lay (suc i) y) now
      (copy_done m w fp gp q x e u) fits.1 k.1
      (copy_stands w line f g fp gp af ag p q (λ y. lay 0 (0 ∷ y)) x e t u fits.0 k.0 h))
  copies_stand w line f g fp gp af ag p q _ _ n lay t u fits k h = subst (λ z. Stand z u) (text_none w p t) h

  -- ---- the effect of a user-defined opcode

  -- each part of what is at a path leads to a path
  abbrev pub Led : Path → Type 0
  Led p = (y : Path) → (q : Path) × (way.part (y ++ p) ≡ Some q)

  abbrev pub AllLed : Path → Block → Type 0
  AllLed p b = Each Led (typed_keepers_of_block p (block_by m.shared (numbered m.shared flat) b))

  pub record Acts (t : Template) (a : Action W) (k : Pair t a) : Type 0 where
    pub units : (n : ℕ) → 1 ≤ n → (p : StatementPlace)
        → (past_text p (flat_block (t.block n))).unit ≡ p.unit + length (a.units m p.unit)
    pub lays : (n : ℕ) → 1 ≤ n → (p : StatementPlace) (q : Path) (l : Leads) → LaysOn way p.path (k.leads q l)
        → LaysOn way (past_text p (flat_block (t.block n))).path l
    pub led : (n : ℕ) → 1 ≤ n → (p : StatementPlace) (q : Path) (l : Leads) → LaysOn way p.path (k.leads q l)
        → AllLed p.path (t.block n)
    pub does : (w : When) (n : ℕ) → 1 ≤ n → (p : StatementPlace) (q : Path) (l : Leads)
        → LaysOn way p.path (k.leads q l) → way.frame n ≡ Some q → Holds way (suc n) (a.calls q) → (s : Note W)
        (u : Framed W) → Stand s u → Stand (text_done w p (flat_block (t.block n)) s) (a.does m w (place q p.unit) u)

  abbrev pub ActsIf : {t : Option Template} {a : Option (Action W)} → PairIf t a → Type 0
  ActsIf neither = Unit {0}
  ActsIf (both t a k) = Acts t a k

  pub record Act (opcodes : Opcodes) (env : Actions W) (k : AllPair opcodes env) : Type 0 where
    pub each : (name : List ℕ) → ActsIf (k.each name)

  pub acts_called : (opcodes : Opcodes) (env : Actions W) (k : AllPair opcodes env) → Act opcodes env k → (c : Callee)
      → ActsIf (called_pair opcodes env k c)
  acts_called opcodes env k g (callee.Opcode o) = tt
  acts_called opcodes env k g (callee.Name name) = g.each name

  -- ---- a call

  pub called_is : (f n line : ℕ) (xs : List (List ℕ)) (c : Callee) (args : List Argument) (t : Template) (a : Action W)
      → 1 ≤ n → Pair t a → called (own_name f) n line xs c args (Some t)
      ≡ joins (copies_of line f n a.inputs args) (joins (t.block n) (copies_of line n f xs (values_in a.results)))
  called_is f n line xs c args t a h k = grind (arith, common_steps, inner_name, results_in)

  -- the place after a call
  call_past : (f n line : ℕ) (p : StatementPlace) (xs : List (List ℕ)) (c : Callee) (args : List Argument)
      (t : Template) (a : Action W) → 1 ≤ n → Pair t a
      → past_text p (flat_block (called (own_name f) n line xs c args (Some t)))
      ≡ past_text (past_text (past_text p (flat_block (copies_of line f n a.inputs args))) (flat_block (t.block n)))
      (flat_block (copies_of line n f xs (values_in a.results)))
  call_past f n line p xs c args t a h k =
      let one = copies_of line f n a.inputs args in
      let two = copies_of line n f xs (values_in a.results) in
      ap (λ b. past_text p (flat_block b)) (called_is f n line xs c args t a h k)
      ∙ past_joins p one (joins (t.block n) two) ∙ past_joins (past_text p (flat_block one)) (t.block n) two

  call_unit : (f n line : ℕ) (p : StatementPlace) (xs : List (List ℕ)) (c : Callee) (args : List Argument)
      (t : Template) (a : Action W) (k : Pair t a) → 1 ≤ n → Acts t a k
      → (past_text p (flat_block (called (own_name f) n line xs c args (Some t)))).unit
      ≡ p.unit + length (a.units m p.unit)
  call_unit f n line p xs c args t a k h acts =
      let ready = past_text p (flat_block (copies_of line f n a.inputs args)) in
      ap (λ (z : StatementPlace). z.unit) (call_past f n line p xs c args t a h k)
      ∙ copies_unit line n f (past_text ready (flat_block (t.block n))) xs (values_in a.results) ∙ acts.units n h ready
      ∙ ap (λ i. i + length (a.units m i)) (copies_unit line f n p a.inputs args)

  call_stands : (w : When) (f n line : ℕ) (fp : Path) → way.frame f ≡ Some fp → (p : StatementPlace) (q : Path)
      (xs : List (List ℕ)) (c : Callee) (args : List Argument) (t : Template) (a : Action W) (k : Pair t a) (l : Leads)
      → 1 ≤ n → Acts t a k → LaysOn way p.path (call_leads (both t a k) q xs args l) → Holds way n (q ∷ a.calls q)
      → NamedAll (Fits f) xs → NamedArguments (Fits f) args → (s : Note W) (u : Framed W) → Stand s u
      → Stand (text_done w p (flat_block (called (own_name f) n line xs c args (Some t))) s)
      (call_done m w fp (place q p.unit) a xs args u)
  call_stands w f n line fp af p q xs c args t a k l h acts lay hold fits named s u stand =
      let given_values = values_in a.results in
      let one = copies_of line f n a.inputs args in
      let two = copies_of line n f xs given_values in
      let last = copies_lead (0 ∷ 2 ∷ q) xs given_values l in
      let ready = past_text p (flat_block one) in
      let body = past_text ready (flat_block (t.block n)) in
      let lay1 = copies_lay line f n p (0 ∷ 0 ∷ q) a.inputs args (k.leads q last) lay in
      let lay2 = acts.lays n h ready q last lay1 in
      let s1 = text_done w p (flat_block one) s in
      let u1 = copies_done m w fp q (0 ∷ 0 ∷ q) a.inputs args u in
      let stand1 : Stand s1 u1 =
      copies_stand w line f n fp q af hold.0 p (0 ∷ 0 ∷ q) a.inputs args (k.leads q last) lay s u
      (any_names (Fits n) (fits_inner n h) a.inputs) named stand in
      let s2 = text_done w ready (flat_block (t.block n)) s1 in
      let u2 = a.does m w (place q p.unit) u1 in
      let stand2 : Stand s2 u2 =
      subst (λ i. Stand s2 (a.does m w (place q i) u1)) (copies_unit line f n p a.inputs args)
      (acts.does w n h ready q last lay1 hold.0 hold.1 s1 u1 stand1) in
      let framed = copies_done m w q fp (0 ∷ 2 ∷ q) xs given_values u2 in
      let done : Stand (text_done w body (flat_block two) s2) framed =
      copies_stand w line n f q fp hold.0 af body (0 ∷ 2 ∷ q) xs given_values l lay2 s2 u2 fits
      (any_arguments (Fits n) (fits_inner n h) given_values) stand2 in
      subst (λ b. Stand (text_done w p (flat_block b) s) framed) (sym (called_is f n line xs c args t a h k))
      (subst (λ z. Stand z framed)
      (text_joins w ready (t.block n) two s1 ∙ text_joins w p one (joins (t.block n) two) s) done)

  -- a call of a user-defined opcode, or of another opcode
  any_unit : (f n line : ℕ) (p : StatementPlace) (xs : List (List ℕ)) (c : Callee) (args : List Argument)
      {t : Option Template} {a : Option (Action W)} (k : PairIf t a) → 1 ≤ n → ActsIf k → NamedAll (Fits f) xs
      → NamedArguments (Fits f) args → (past_text p (flat_block (called (own_name f) n line xs c args t))).unit
      ≡ p.unit + length (units_of_call m p.unit (call line xs c args) a)
  any_unit f n line p xs c args neither h acts fits named = unit_behind (alike_call f line xs c args fits named) p.unit
  any_unit f n line p xs c args (both t a k) h acts fits named = call_unit f n line p xs c args t a k h acts

  any_lays : (f n line : ℕ) (p : StatementPlace) (q : Path) (xs : List (List ℕ)) (c : Callee) (args : List Argument)
      {t : Option Template} {a : Option (Action W)} (k : PairIf t a) (l : Leads) → 1 ≤ n → ActsIf k
      → LaysOn way p.path (call_leads k q xs args l)
      → LaysOn way (past_text p (flat_block (called (own_name f) n line xs c args t))).path l
  any_lays f n line p q xs c args neither l h acts lay = λ i y. lay (suc i) y
  any_lays f n line p q xs c args (both t a k) l h acts lay =
      let last = copies_lead (0 ∷ 2 ∷ q) xs (values_in a.results) l in
      let ready = past_text p (flat_block (copies_of line f n a.inputs args)) in
      subst (λ (z : StatementPlace). LaysOn way z.path l) (sym (call_past f n line p xs c args t a h k))
      (copies_lay line n f (past_text ready (flat_block (t.block n))) (0 ∷ 2 ∷ q) xs (values_in a.results) l
      (acts.lays n h ready q last (copies_lay line f n p (0 ∷ 0 ∷ q) a.inputs args (k.leads q last) lay)))

  any_stands : (w : When) (f n line : ℕ) (fp : Path) → way.frame f ≡ Some fp → (p : StatementPlace) (q : Path)
      (xs : List (List ℕ)) (c : Callee) (args : List Argument) {t : Option Template} {a : Option (Action W)}
      (k : PairIf t a) (l : Leads) → 1 ≤ n → ActsIf k → LaysOn way p.path (call_leads k q xs args l)
      → Holds way n (frames_of_call q a) → NamedAll (Fits f) xs → NamedArguments (Fits f) args → (s : Note W)
      (u : Framed W) → Stand s u → Stand (text_done w p (flat_block (called (own_name f) n line xs c args t)) s)
      (any_done m w fp (place q p.unit) (call line xs c args) xs args a u)
  any_stands w f n line fp af p q xs c args neither l h acts lay hold fits named s u stand =
      alone_stands w f fp af p q (λ y. lay 0 y) _ _ s u (alike_call f line xs c args fits named) stand
  any_stands w f n line fp af p q xs c args (both t a k) l h acts lay hold fits named s u stand =
      call_stands w f n line fp af p q xs c args t a k l h acts lay hold fits named s u stand

  -- ---- statements, in the order of the text

  passes_stand : (w : When) (t q : Note W) (x y : Framed W) → Stand t x → Stand q y
      → Stand (by_pass w t q) (by_pass w x y)
  passes_stand beginning t q x y h k = h
  passes_stand cycle t q x y h k = k

  choose_stands : (b c : Bool) → b ≡ c → (t q : Note W) (u w : Framed W) → Stand t u → Stand q w
      → Stand (if b then t else q) (if c then u else w)
  choose_stands b c e t q u w h k = grind (arith, common_steps)

  module _ (opcodes : Opcodes) (env : Actions W) (k : AllPair opcodes env) (g : Act opcodes env k) (f : ℕ) where
    abbrev text_of : ℕ → Statement → core.Block
    text_of n x = flat_block (expanded opcodes (own_name f) n x)

    abbrev texts_of : ℕ → Block → core.Block
    texts_of n b = flat_block (expanded_block opcodes (own_name f) n b)

    abbrev arms_of : ℕ → Arms → core.Arms
    arms_of n list = flat_arms (expanded_arms opcodes (own_name f) n list)

    pub at_least : (n : ℕ) (x : Statement) → 1 ≤ n → 1 ≤ after opcodes n x
    at_least n x h = omega (arith, h, after_is opcodes env k n [] x)

    pub block_at_least : (n : ℕ) (b : Block) → 1 ≤ n → 1 ≤ after_block opcodes n b
    block_at_least n b h = omega (arith, h, after_block_is opcodes env k n [] b)

    mutual
      unit_stands : (n : ℕ) → 1 ≤ n → (p : StatementPlace) (x : Statement) → NamedStmt (Fits f) x
          → (past_text p (text_of n x)).unit ≡ p.unit + length (units_of m env p.unit x)
      unit_stands n h p (set line x e) named = omega arith
      unit_stands n h p (call line xs c args) named =
          any_unit f n line p xs c args (called_pair opcodes env k c) h (acts_called opcodes env k g c) named.0 named.1
      unit_stands n h p (choose line list) named = arms_units n h p.unit list named

      pub block_unit : (n : ℕ) → 1 ≤ n → (p : StatementPlace) (b : Block) → NamedBlock (Fits f) b
          → (past_text p (texts_of n b)).unit ≡ p.unit + length (units_of_block m env p.unit b)
      block_unit n h p no_stmt named = omega arith
      block_unit n h p (andthen x rest) named =
          let i = after opcodes n x in
          let q = past_text p (text_of n x) in
          let one = units_of m env p.unit x in
          ap (λ (z : StatementPlace). z.unit)
          (past_joins p (expanded opcodes (own_name f) n x) (expanded_block opcodes (own_name f) i rest))
          ∙ block_unit i (at_least n x h) q rest named.1
          ∙ ap (λ j. j + length (units_of_block m env j rest)) (unit_stands n h p x named.0)
          ∙ further p.unit one (units_of_block m env (p.unit + length one) rest)

      arms_units : (n : ℕ) → 1 ≤ n → (j : ℕ) (list : Arms) → NamedArms (Fits f) list
          → unit_past_arms j (arms_of n list) ≡ j + length (units_of_arms m env j list)
      arms_units n h j (otherwise b) named =
          sym (text_units (place [] j) (texts_of n b)) ∙ block_unit n h (place [] j) b named
      arms_units n h j (arm c b rest) named =
          let i = after_block opcodes n b in
          let one = units_of_block m env j b in
          ap (λ z. unit_past_arms z (arms_of i rest))
          (sym (text_units (place [] j) (texts_of n b)) ∙ block_unit n h (place [] j) b named.1)
          ∙ arms_units i (block_at_least n b h) (j + length one) rest named.2
          ∙ further j one (units_of_arms m env (j + length one) rest)

    -- the place after an arm
    arm_behind : (n : ℕ) → 1 ≤ n → (p : StatementPlace) (q : Path) (b : Block) → NamedBlock (Fits f) b
        → place (next q) (text_past_arm p (texts_of n b)).unit ≡ past_arm m env (place q p.unit) b
    arm_behind n h p q b named =
        ap (place (next q)) (sym (text_units (place [] p.unit) (texts_of n b))
        ∙ block_unit n h (place [] p.unit) b named)

    mutual
      pub stmt_lays : (n : ℕ) → 1 ≤ n → (p : StatementPlace) (q : Path) (x : Statement) (l : Leads)
          → LaysOn way p.path (stmt_leads opcodes env k q x l) → LaysOn way (past_text p (text_of n x)).path l
      stmt_lays n h p q (call line xs c args) l lay =
          any_lays f n line p q xs c args (called_pair opcodes env k c) l h (acts_called opcodes env k g c) lay
      stmt_lays n h p q _ l lay = λ i y. lay (suc i) y

      pub block_lays : (n : ℕ) → 1 ≤ n → (p : StatementPlace) (q : Path) (b : Block) (l : Leads)
          → LaysOn way p.path (block_leads opcodes env k q b l) → LaysOn way (past_text p (texts_of n b)).path l
      block_lays n h p q no_stmt l lay = lay
      block_lays n h p q (andthen x rest) l lay =
          let i = after opcodes n x in
          subst (λ (z : StatementPlace). LaysOn way z.path l)
          (sym (past_joins p (expanded opcodes (own_name f) n x) (expanded_block opcodes (own_name f) i rest)))
          (block_lays i (at_least _ x h) (past_text p (text_of n x)) (next q) rest l (stmt_lays n h p q x _ lay))

    -- parts of an arm: its condition, and its statements
    pub condition_lays : (p q : Path) (b : Block) (rest : Leads)
        → LaysOn way p (parts (parts (alike (0 ∷ q)) (parts (block_leads opcodes env k (0 ∷ 1 ∷ q) b nowhere) nowhere))
        rest) → Follows way (0 ∷ p) (0 ∷ q)
    condition_lays p q b rest lay = λ y. lay 0 (0 ∷ y)

    pub arm_lays : (p q : Path) (b : Block) (rest : Leads)
        → LaysOn way p (parts (parts (alike (0 ∷ q)) (parts (block_leads opcodes env k (0 ∷ 1 ∷ q) b nowhere) nowhere))
        rest) → LaysOn way (0 ∷ 1 ∷ p) (block_leads opcodes env k (0 ∷ 1 ∷ q) b nowhere)
    arm_lays p q b rest lay = lays_on way (1 ∷ p) (block_leads opcodes env k (0 ∷ 1 ∷ q) b nowhere) (λ y. lay 0 (1 ∷ y))

    -- the arms of an `if`
    record ArmsStand (fp : Path) (n : ℕ) (p : StatementPlace) (q : Path) (list : Arms) : Type 0 where
      pub first : (t : Note W) (u : Framed W) → Stand t u
          → Stand (initial.init_first m.world p (arms_of n list) t) (init_first m env fp (place q p.unit) list u)
      pub all : (t : Note W) (u : Framed W) → Stand t u
          → Stand (initial.init_all m.world p (arms_of n list) t) (init_all m env fp (place q p.unit) list u)
      pub now : (t : Note W) (u : Framed W) → Stand t u
          → Stand (performing.perf_arms m.world p (arms_of n list) t) (perf_arms m env fp (place q p.unit) list u)

    module _ (fp : Path) (af : way.frame f ≡ Some fp) where
      mutual
        stands : (w : When) (n : ℕ) → 1 ≤ n → (p : StatementPlace) (q : Path) (x : Statement) (l : Leads)
            → LaysOn way p.path (stmt_leads opcodes env k q x l) → Holds way n (frames_of env q x)
            → NamedStmt (Fits f) x → (t : Note W) (u : Framed W) → Stand t u
            → Stand (text_done w p (text_of n x) t) (framed_done m env w fp (place q p.unit) x u)
        stands w n h p q (set line x e) l lay hold named t u stand =
            alone_stands w f fp af p q (λ y. lay 0 y) _ _ t u (alike_set f line x e named.0 named.1) stand
        stands w n h p q (call line xs c args) l lay hold named t u stand =
            any_stands w f n line fp af p q xs c args (called_pair opcodes env k c) l h
            (acts_called opcodes env k g c) lay hold named.0 named.1 t u stand
        stands w n h p q (choose line list) l lay hold named t u stand =
            let arms = arms_stand n h _ _ list (lays_on way p.path _ (λ y. lay 0 y)) hold named in
            let there = place (0 ∷ q) p.unit in
            passes_stand _ _ _ _ _ (subst (λ z. Stand (initial.init_block m.world p (text_of n (choose line list)) t)
            (going_on m.world u (if_init z (init_first m env fp there list u) (init_all m env fp there list u))))
            (choice_kept opcodes f n list) (going_stands _ _ _ _ stand
            (either_stands _ _ _ _ _ (arms.first t u stand) (arms.all t u stand)))) (arms.now t u stand)

        pub block_stands : (w : When) (n : ℕ) → 1 ≤ n → (p : StatementPlace) (q : Path) (b : Block) (l : Leads)
            → LaysOn way p.path (block_leads opcodes env k q b l) → Holds way n (frames_of_block env q b)
            → NamedBlock (Fits f) b → (t : Note W) (u : Framed W) → Stand t u
            → Stand (text_done w p (texts_of n b) t) (block_done m env w fp (place q p.unit) b u)
        block_stands w n h p q no_stmt l lay hold named t u stand = subst (λ z. Stand z u) (text_none w p t) stand
        block_stands w n h p q (andthen x rest) l lay hold named t u stand =
            let i = after opcodes n x in
            let first = expanded opcodes (own_name f) n x in
            let other = expanded_block opcodes (own_name f) i rest in
            let now = text_done w p (text_of n x) t in
            let next_u = framed_done m env w fp (place q p.unit) x u in
            let one = frames_of env q x in
            let two = frames_of_block env (next q) rest in
            let more = block_leads opcodes env k (next q) rest l in
            let behind_p = past_text p (text_of n x) in
            subst (λ z. Stand z (block_done m env w fp (place q p.unit) (andthen x rest) u))
            (text_joins w p first other t) (subst (λ j. Stand (text_done w behind_p (flat_block other) now)
            (block_done m env w fp (place (next q) j) rest next_u)) (unit_stands n h p x named.0)
            (block_stands w i (at_least n x h) behind_p (next q) rest l (stmt_lays n h p q x more lay)
            (rest_hold way n i one two (after_is opcodes env k n q x) hold) named.1 now next_u
            (stands w n h p q x more lay (first_hold way n one two hold) named.0 t u stand)))

        arms_stand : (n : ℕ) → 1 ≤ n → (p : StatementPlace) (q : Path) (list : Arms)
            → LaysOn way p.path (arms_lead opcodes env k q list) → Holds way n (frames_of_arms env q list)
            → NamedArms (Fits f) list → ArmsStand fp n p q list
        arms_stand n h p q (otherwise b) lay hold named =
            let body = λ (w : When). block_stands w n h (inside p) (0 ∷ q) b nowhere
            (lays_on way p.path (block_leads opcodes env k (0 ∷ q) b nowhere) (λ y. lay 0 y)) hold named in
            record { first = body beginning; all = body beginning; now = body cycle }
        arms_stand n h p q (arm c b rest) lay hold named =
            let flat_c = expression_by v (renamed_expression (own_name f) c) in
            let alike_c = alike_expression f c named.0 in
            let i = after_block opcodes n b in
            let body = frames_of_block env (0 ∷ 1 ∷ q) b in
            let others = frames_of_arms env (next q) rest in
            let more = arms_lead opcodes env k (next q) rest in
            let at = condition_lays p.path q b more lay in
            let kept = λ (t : Note W) (u : Framed W) (stand : Stand t u).
            keep_stands f fp af flat_c (expression_read m c) t u alike_c stand (0 ∷ p.path) (0 ∷ q) at in
            let now_t = λ (t : Note W). keep m.world (0 ∷ p.path) flat_c t in
            let now_u = λ (u : Framed W). put_back fp (keep m.world (0 ∷ q) (expression_read m c) (seen_from fp u)) u in
            let arm_stands = λ (w : When). block_stands w n h (inside_arm p) (0 ∷ 1 ∷ q) b nowhere
            (arm_lays p.path q b more lay) (first_hold way n body others hold) named.1 in
            let behind : ArmsStand fp i (text_past_arm p (texts_of n b)) (next q) rest = arms_stand i
            (block_at_least n b h) (text_past_arm p (texts_of n b)) (next q) rest (λ j y. lay (suc j) y)
            (rest_hold way n i body others (after_block_is opcodes env k n (0 ∷ 1 ∷ q) b) hold) named.2 in
            let there = arm_behind n h p q b named.1 in
            record {
              first = λ t u stand. choose_stands (holds ((now_t t).kept (0 ∷ p.path))) (holds ((now_u u).kept (0 ∷ q)))
                  (ap holds ((kept t u stand).kept (0 ∷ p.path) (0 ∷ q) (at []))) _ _ _ _
                  (arm_stands beginning (now_t t) (now_u u) (kept t u stand))
                  (subst (λ z. Stand (initial.init_first m.world (text_past_arm p (texts_of n b)) (arms_of i rest)
                  (now_t t))
                  (init_first m env fp z rest (now_u u))) there (behind.first (now_t t) (now_u u) (kept t u stand)));
              all = λ t u stand. going_stands t _ u _ stand
                  (subst (λ z. Stand (initial.init_all m.world (text_past_arm p (texts_of n b)) (arms_of i rest)
                  (initial.init_block m.world (inside_arm p) (texts_of n b) (now_t t))) (init_all m env fp z rest
                  (block_done m env beginning fp (place (0 ∷ 1 ∷ q) p.unit) b (now_u u)))) there
                  (behind.all _ _ (arm_stands beginning (now_t t) (now_u u) (kept t u stand))));
              now = λ t u stand. choose_stands (holds (value_of m.world t cycle (0 ∷ p.path) flat_c 0))
                  (holds (value_of m.world (seen_from fp u) cycle (0 ∷ q) (expression_read m c) 0))
                  (ap (λ w. holds (w 0))
                  (value_stands f fp af flat_c (expression_read m c) t u alike_c stand cycle (0 ∷ p.path) (0 ∷ q) at))
                  _ _ _ _ (arm_stands cycle t u stand)
                  (subst (λ z. Stand (performing.perf_arms m.world (text_past_arm p (texts_of n b)) (arms_of i rest) t)
                  (perf_arms m env fp z rest u)) there (behind.now t u stand));
            }
