-- Statements of a frame change no frame except their own and the frames of the calls in them. The frames of
-- different calls are different.
use Rattle.std.proofs.Common.{◌≡◌, ◌≢◌, ◌∙◌, ℕ, Bool, true, false, if◌then◌else◌, List, ◌∷◌, Option, Some, []}
use Rattle.std.proofs.Common.{None, refl, ap, arith}
use Rattle.std.specs.{List.AllPairs, Str.bytes_eq as same_path}
use Rattle.std.proofs.lemmas.{Slice.Eq.bytes_eq-Decides, Grind.common_steps}
use Rattle.cs_base.specs.declared.resource.Rate.{Rate}
use Rattle.cs_words.specs.Names.{name_rate}
use Rattle.cs_grammar.specs.Tree.{Expression, Argument, value, Statement, set, call, choose, Block, no_stmt, andthen}
use Rattle.cs_grammar.specs.Tree.{Arms, otherwise, arm, Definition}
use Rattle.cs_typed.specs.declared.tree.Var.{Var as Variable}
use Rattle.cs_ir.specs.{Values.holds, Waves.Wave, Waves.if_init}
use Rattle.cs_meaning.specs.{Core.Stmt, Initialising.keep, When.When, When.beginning, When.cycle}
use Rattle.cs_meaning.specs.Notes.{Note, Path, StatementPlace, next, inside, inside_arm, assign, value as value_of}
use Rattle.cs_udo.specs.Expanded.{whole_body}
use Rattle.cs_udo_meaning.specs.Frames.{Framed, own_frame, seen_from, put_back, Reading, variable_read, expression_read}
use Rattle.cs_udo_meaning.specs.Frames.{read, by_pass, stmt_done, going_on, copy_done, copies_done, Action, Actions}
use Rattle.cs_udo_meaning.specs.Frames.{action_of, any_done, frames_of_call, frames_of, frames_of_block, frames_of_arms}
use Rattle.cs_udo_meaning.specs.Frames.{keepers_of_copies, keepers_of_call, keepers_of, keepers_of_block}
use Rattle.cs_udo_meaning.specs.Frames.{keepers_of_arms, past, past_arm, framed_done, block_done, init_first, init_all}
use Rattle.cs_udo_meaning.specs.Frames.{perf_arms, actions_of, action, no_actions}
use Rattle.cs_udo.proofs.EachDefined.{Of, OfEach, of_called, of_none, all_more}
use Rattle.cs_udo_meaning.proofs.Paths.{Inside, Beyond, beyond_whole, first_beyond, Each, Differ, Lie, none_lie}
use Rattle.cs_udo_meaning.proofs.Paths.{lie_wider, joined_lie, with_parts, each_first, each_rest, each_of, never_whole}
use Rattle.cs_udo_meaning.proofs.Paths.{pairs_differ}
use Rattle.cs_base.specs.declared.resource.Rate.TheVariants as rate
use Rattle.cs_typed.specs.TypedTree as typed

pub differ : (p q : Path) → p ≢ q → same_path p q ≡ false
differ p q h = grind (arith, common_steps, bytes_eq-Decides)

-- ---- the frames of calls

-- the calls in the body of a user-defined opcode
abbrev pub CallsLie : {W : Type 0} → Action W → Type 0
CallsLie a = (p : Path) → Lie (Inside (1 ∷ p)) (a.calls p)

call_lies : {W : Type 0} (p : Path) (a : Option (Action W)) → Of CallsLie a → Lie (Inside p) (frames_of_call p a)
call_lies p None h = none_lie (Inside p)
call_lies p (Some a) h = with_parts 1 p (a.calls p) (h p)

module _ {W : Type 0} (env : Actions W) (k : OfEach CallsLie env) where
  mutual
    frames_lie : (p : Path) (x : Statement) → Lie (Inside p) (frames_of env p x)
    frames_lie p (set line x e) = none_lie (Inside p)
    frames_lie p (call line xs c args) = call_lies p (action_of env c) (of_called CallsLie env k c)
    frames_lie p (choose line list) = lie_wider _ _ (beyond_whole _ _) _ (arms_lie 0 p list)

    pub block_lies : (i : ℕ) (r : Path) (b : Block) → Lie (Beyond i r) (frames_of_block env (i ∷ r) b)
    block_lies i r no_stmt = none_lie (Beyond i r)
    block_lies i r (andthen x rest) = joined_lie _ _ _ _ (frames_lie _ x) (block_lies _ r rest)

    arms_lie : (i : ℕ) (r : Path) (list : Arms) → Lie (Beyond i r) (frames_of_arms env (i ∷ r) list)
    arms_lie i r (otherwise b) = lie_wider _ _ (λ x h. first_beyond i r x (beyond_whole _ _ _ h)) _ (block_lies 0 _ b)
    arms_lie i r (arm c b rest) =
        joined_lie _ _ _ _ (lie_wider _ _ (λ x h. beyond_whole 1 (i ∷ r) x (first_beyond _ _ _ (beyond_whole _ _ _ h)))
        _ (block_lies 0 (1 ∷ i ∷ r) b)) (arms_lie _ r rest)

  -- the instrument's own frame differs from the frames of its calls
  pub frames_differ : (i : ℕ) (r : Path) (b : Block) → Differ (own_frame ∷ frames_of_block env (i ∷ r) b)
  frames_differ i r b =
      let h = block_lies i r b in
      (each_of _ _ own _ h.each, h.differ)
    where
      own : (x : Path) → Beyond i r x → own_frame ≢ x
      own x h e = never_whole h.part h.inside.steps r (e ∙ h.inside.is)

pub all_lie : (W : Type 0) (ds : List Definition) → OfEach CallsLie (actions_of W ds)
all_lie W ds = all_more _ action (λ env k d p. lie_wider (Beyond 0 (1 ∷ p)) (Inside (1 ∷ p)) (beyond_whole _ _)
    (frames_of_block env (0 ∷ 1 ∷ p) (whole_body d)) (block_lies _ k _ _ (whole_body d))) _ (of_none CallsLie) ds

pub calls_differ : (W : Type 0) (ds : List Definition) (i : ℕ) (r : Path) (b : Block)
    → AllPairs (λ f g. f ≢ g) (own_frame ∷ frames_of_block (actions_of W ds) (i ∷ r) b)
calls_differ W ds i r b =
    pairs_differ (own_frame ∷ frames_of_block (actions_of W ds) (i ∷ r) b) (frames_differ _ (all_lie _ ds) i r b)

-- ---- unchanged parts

-- A part of a note is unchanged by actions in such frames and at such places.
pub record Stays {W A : Type 0} (m : Reading W) (seen : Framed W → A) (In At : Path → Type 0) : Type 0 where
  pub done : (w : When) (f : Path) → In f → (p : StatementPlace) → At p.path → (s : Stmt) (u : Framed W)
      → seen (put_back f (stmt_done w m.world p s (seen_from f u)) u) ≡ seen u
  pub kept : (f : Path) → In f → (p : Path) → At p → (e : typed.Expression) (u : Framed W)
      → seen (put_back f (keep m.world p e (seen_from f u)) u) ≡ seen u
  pub assigned : (f : Path) → In f → (v : Variable) (x : Wave) (u : Framed W)
      → seen (put_back f (assign m.world v x (seen_from f u)) u) ≡ seen u

module _ {W A : Type 0} (m : Reading W) (seen : Framed W → A) (In At : Path → Type 0) (s : Stays m seen In At) where
  chosen : (b : Bool) (y z : Framed W) (x : A) → seen y ≡ x → seen z ≡ x → seen (if b then y else z) ≡ x
  chosen true y z x h k = h
  chosen false y z x h k = k

  going : (u next : Framed W) → seen next ≡ seen u → seen (going_on m.world u next) ≡ seen u
  going u next h = chosen (m.world.refused u.world) u next (seen u) refl h

  either : (r : Rate) (y z : Framed W) (x : A) → seen y ≡ x → seen z ≡ x → seen (if_init r y z) ≡ x
  either rate.Init y z x h k = h
  either _ y z x h k = k

  passes : (w : When) (y z : Framed W) (x : A) → seen y ≡ x → seen z ≡ x → seen (by_pass w y z) ≡ x
  passes beginning y z x h k = h
  passes cycle y z x h k = k

  copy_stays : (w : When) (f h : Path) → In f → In h → (p : Path) → At p → (x : List ℕ) (e : Expression) (u : Framed W)
      → seen (copy_done m w f h p x e u) ≡ seen u
  copy_stays beginning f h own there p at x e u =
      going u _ (either (name_rate x) _ _ (seen u) (s.assigned h there (variable_read m x) _ u)
      (s.kept f own p at (expression_read m e) u))
  copy_stays cycle f h own there p at x e u = either _ _ _ _ refl (s.assigned h there (variable_read m x) _ u)

  copies_stay : (w : When) (f h : Path) → In f → In h → (p : Path) (xs : List (List ℕ)) (args : List Argument)
      (u : Framed W) → Each At (keepers_of_copies p xs args) → seen (copies_done m w f h p xs args u) ≡ seen u
  copies_stay w f h own there p (x ∷ xs) (value e ∷ args) u at =
      copies_stay w f h own there (next p) xs args (copy_done m w f h p x e u) at.1
      ∙ copy_stays w f h own there p at.0 x e u
  copies_stay w f h own there p _ _ u at = refl

  -- it is unchanged by a user-defined opcode
  abbrev pub StaysIn : Action W → Type 0
  StaysIn a = (w : When) (p : StatementPlace) (u : Framed W) → In p.path → Each In (a.calls p.path)
      → Each At (a.keepers p.path) → seen (a.does m w p u) ≡ seen u

  any_stays : (w : When) (f : Path) → In f → (p : StatementPlace) (x : Statement) (xs : List (List ℕ))
      (args : List Argument) (a : Option (Action W)) → Of StaysIn a → (u : Framed W) → Each In (frames_of_call p.path a)
      → Each At (keepers_of_call p.path xs args a) → seen (any_done m w f p x xs args a u) ≡ seen u
  any_stays w f own p x xs args None k u i at = s.done w f own p at.0 (read m x) u
  any_stays w f own p x xs args (Some a) k u i at = grind (arith, common_steps, copies_stay, each_first, each_rest)

  -- it is unchanged by the arms of an `if`
  record ArmsStay (env : Actions W) (f : Path) (p : StatementPlace) (list : Arms) : Type 0 where
    pub first : (u : Framed W) → seen (init_first m env f p list u) ≡ seen u
    pub all : (u : Framed W) → seen (init_all m env f p list u) ≡ seen u
    pub now : (u : Framed W) → seen (perf_arms m env f p list u) ≡ seen u

  module _ (env : Actions W) (k : OfEach StaysIn env) (f : Path) (own : In f) where
    mutual
      stays : (w : When) (p : StatementPlace) (x : Statement) (u : Framed W) → Each In (frames_of env p.path x)
          → Each At (keepers_of env p.path x) → seen (framed_done m env w f p x u) ≡ seen u
      stays w p (set line x e) u i at = s.done w f own p at.0 (read m (set line x e)) u
      stays w p (call line xs c args) u i at =
          any_stays w f own p (call line xs c args) xs args (action_of env c) (of_called StaysIn env k c) u i at
      stays w p (choose line list) u i at =
          let arms = arms_stay _ list i at in
          passes _ _ _ _ (going _ _ (either _ _ _ _ (arms.first u) (arms.all u))) (arms.now u)

      pub block_stays : (w : When) (p : StatementPlace) (b : Block) (u : Framed W)
          → Each In (frames_of_block env p.path b) → Each At (keepers_of_block env p.path b)
          → seen (block_done m env w f p b u) ≡ seen u
      block_stays w p no_stmt u i at = refl
      block_stays w p (andthen x rest) u i at =
          block_stays w (past m env p x) rest (framed_done m env w f p x u) (each_rest _ _ _ i)
          (each_rest _ _ _ at) ∙ stays w p x u (each_first _ _ _ i) (each_first _ _ _ at)

      arms_stay : (p : StatementPlace) (list : Arms) → Each In (frames_of_arms env p.path list)
          → Each At (keepers_of_arms env p.path list) → ArmsStay env f p list
      arms_stay p (otherwise b) i at = record {
        first = λ u. block_stays beginning (inside p) b u i at;
        all = λ u. block_stays beginning (inside p) b u i at;
        now = λ u. block_stays cycle (inside p) b u i at;
      }
      arms_stay p (arm c b rest) i at =
          let r = past_arm m env p b in
          let frames = frames_of_block env (0 ∷ 1 ∷ p.path) b in
          let others = frames_of_arms env r.path rest in
          let one = (0 ∷ p.path) ∷ keepers_of_block env (0 ∷ 1 ∷ p.path) b in
          let two = keepers_of_arms env r.path rest in
          let here = each_first At one two at in
          let more = arms_stay r rest (each_rest In frames others i) (each_rest At one two at) in
          let decided = λ (u : Framed W). put_back f
          (keep m.world (0 ∷ p.path) (expression_read m c) (seen_from f u)) u in
          let kept = s.kept f own (0 ∷ p.path) here.0 (expression_read m c) in
          let body = λ (w : When) (u : Framed W).
          block_stays w (inside_arm p) b u (each_first In frames others i) here.1 in
          record {
            first = λ u.
                chosen (holds ((decided u).kept (0 ∷ p.path))) _ _ (seen (decided u)) (body beginning (decided u))
                (more.first (decided u)) ∙ kept u;
            all = λ u. going u _ (more.all (block_done m env beginning f (inside_arm p) b (decided u))
                ∙ body beginning (decided u) ∙ kept u);
            now = λ u. chosen (holds (value_of m.world (seen_from f u) cycle (0 ∷ p.path) (expression_read m c) 0)) _ _
                (seen u) (body cycle u) (more.now u);
          }

  pub statements_stay : (ds : List Definition) (w : When) (f : Path) → In f
      → (p : StatementPlace) (b : Block) (u : Framed W) → Each In (frames_of_block (actions_of W ds) p.path b)
      → Each At (keepers_of_block (actions_of W ds) p.path b) → seen (block_done m (actions_of W ds) w f p b u) ≡ seen u
  statements_stay ds w f own p b u i at =
      block_stays (actions_of W ds)
      (all_more StaysIn action (λ env k d w p u own i at. block_stays env k p.path own w (inside_arm p)
      (whole_body d) u i at) no_actions (of_none StaysIn) ds) f own w p b u i at

-- every frame is unchanged except the frames of the statements
pub frame_stays : {W : Type 0} (m : Reading W) (g : Path) → Stays m (λ u. u.frames g) (λ f. g ≢ f) (λ p. Unit {0})
frame_stays {W} m g = record {
  done = λ w f h p at x u. elsewhere f h (stmt_done w m.world p x (seen_from f u)) u;
  kept = λ f h p at e u. elsewhere f h (keep m.world p e (seen_from f u)) u;
  assigned = λ f h v x u. elsewhere f h (assign m.world v x (seen_from f u)) u;
}
  where
    elsewhere : (f : Path) → g ≢ f → (t : Note W) (u : Framed W) → (put_back f t u).frames g ≡ u.frames g
    elsewhere f h t u = ap (λ b. if b then t.locals else u.frames g) (differ g f h)

pub anywhere : (xs : List Path) → Each (λ p. Unit {0}) xs
anywhere [] = tt
anywhere (x ∷ xs) = (tt, anywhere xs)
