-- The meaning of a call of a user-defined opcode: each place of a call has a separate frame with its local
-- variables.
use Rattle.std.specs.Prelude.{ℕ, ℤ, pos, ◌+◌, length, List, [], ◌∷◌, ◌++◌, map, Option, Some, None, if◌then◌else◌}
use Rattle.std.specs.Str.{bytes_eq as same_path}
use Rattle.cs_words.specs.Names.{name_rate}
use Rattle.cs_grammar.specs.declared.tree.Callee.{Callee}
use Rattle.cs_grammar.specs.Tree.{Expression, var, Argument, value, Statement, set, call, choose, Block, no_stmt}
use Rattle.cs_grammar.specs.Tree.{andthen, Arms, otherwise, arm, Definition}
use Rattle.cs_typed.specs.declared.tree.Var.{Var}
use Rattle.cs_typing.specs.{Known.Shared, Statements.choice_rate}
use Rattle.cs_base.specs.declared.spaces.Spaces.{Spaces}
use Rattle.cs_ir.specs.{Values.holds, Waves.Wave, Waves.if_init, Waves.silence, Worlds.World, declared.register.Reg.Reg}
use Rattle.cs_meaning.specs.{Core.Stmt, Core.unit, Core.core_stmt, Initialising.keep, Initialising.init_stmt}
use Rattle.cs_meaning.specs.{Performing.perf_stmt, When.When, When.beginning, When.cycle}
use Rattle.cs_meaning.specs.Notes.{Note, Path, StatementPlace, next, inside, inside_arm, assign, value as value_of}
use Rattle.cs_udo.specs.ByName.{ByName, item_of, with_item, with_items}
use Rattle.cs_udo.specs.{Expanded.before, Expanded.whole_body, Names.slots}
use Rattle.cs_udo_meaning.specs.Numbered.{Numbering, numbered, expression_by, statement_by}
use Rattle.cs_typed.specs.TypedTree as typed

-- A note with frames: the local variables of each frame, by the path of the call that has this frame; the
-- values kept from its initialisation, by their paths in the text; and the state of the world in which it
-- plays.
pub record Framed (W : Type 0) : Type 0 where
  pub frames : Path → Reg → Wave
  pub kept : Path → ℤ
  pub world : W

-- the frame of the instrument's own variables, whose path is empty
abbrev pub own_frame : Path
own_frame = []

-- a note with frames that begins; all variables of all frames are 0
abbrev pub new_framed : {W : Type 0} → W → Framed W
new_framed x = record { frames = λ f q. silence; kept = λ p. pos 0; world = x }

-- a note with frames in another state of the world
abbrev pub framed_in : {W : Type 0} → W → Framed W → Framed W
framed_in x u = record u { world = x }

-- The note as a frame sees it.
abbrev pub seen_from : {W : Type 0} → Path → Framed W → Note W
seen_from f u = record { locals = u.frames f; kept = u.kept; world = u.world }

-- a note with frames after the changes made to the note of one frame
abbrev pub put_back : {W : Type 0} → Path → Note W → Framed W → Framed W
put_back f t u =
    record { frames = λ g. if same_path g f then t.locals else u.frames g; kept = t.kept; world = t.world }

-- The reading of statements: in a world, with its zak spaces, with the names of shared resources and the
-- numbers of local variables.
pub record Reading (W : Type 0) : Type 0 where
  pub world : World W
  pub spaces : Spaces
  pub shared : Shared
  pub number : Numbering

-- the variable of a name
abbrev pub variable_read : {W : Type 0} → Reading W → List ℕ → Var
variable_read m x = numbered m.shared m.number x

-- an expression with a variable for each name
abbrev pub expression_read : {W : Type 0} → Reading W → Expression → typed.Expression
expression_read m e = expression_by (numbered m.shared m.number) e

-- the core statement of a statement
abbrev pub read : {W : Type 0} → Reading W → Statement → Stmt
read m x = core_stmt m.spaces (statement_by m.shared (numbered m.shared m.number) x)

-- The first argument as a note begins, the second in a control cycle.
abbrev pub by_pass : {A : Type 0} → When → A → A → A
by_pass beginning x y = x
by_pass cycle x y = y

-- the effect of a statement on a note
abbrev pub stmt_done : {W : Type 0} → When → World W → StatementPlace → Stmt → Note W → Note W
stmt_done w o p s t = by_pass w (init_stmt o p s t) (perf_stmt o p s t)

-- a statement without calls of user-defined opcodes has the same effect in its frame as in a note
abbrev pub plain_done : {W : Type 0} → Reading W → When → Path → StatementPlace → Statement → Framed W → Framed W
plain_done m w f p x u = put_back f (stmt_done w m.world p (read m x) (seen_from f u)) u

-- After something was refused, nothing more is done.
abbrev pub going_on : {W : Type 0} → World W → Framed W → Framed W → Framed W
going_on o u next = if o.refused u.world then u else next

-- a variable of frame g is assigned a value
abbrev pub copied : {W : Type 0} → Reading W → Path → List ℕ → Wave → Framed W → Framed W
copied m g x w u = put_back g (assign m.world (variable_read m x) w (seen_from g u)) u

-- A variable of frame g is assigned the value of an expression in frame f at path p: an i-rate variable as the
-- note begins, any other variable in each cycle.
abbrev pub copy_done : {W : Type 0} → Reading W → When → Path → Path → Path → List ℕ → Expression → Framed W → Framed W
copy_done m beginning f g p x e u = going_on m.world u (if_init (name_rate x)
    (copied m g x (value_of m.world (seen_from f u) beginning [] (expression_read m e)) u)
    (put_back f (keep m.world p (expression_read m e) (seen_from f u)) u))
copy_done m cycle f g p x e u =
    if_init (name_rate x) u (copied m g x (value_of m.world (seen_from f u) cycle p (expression_read m e)) u)

-- Variables of frame g are assigned the values of arguments in frame f, from left to right. The first
-- argument has this path, and each further one the next path.
abbrev pub copies_done : {W : Type 0} → Reading W → When → Path → Path → Path → List (List ℕ) → List Argument
    → Framed W → Framed W
copies_done m w f g p (x ∷ xs) (value e ∷ args) u =
    copies_done m w f g (next p) xs args (copy_done m w f g p x e u)
copies_done m w f g p xs args u = u

-- A user-defined opcode as its callers see it.
-- - The names of its inputs and of its results.
-- - For a call at a path: the frames of the calls in its body, and the paths of the parts that keep values
--   there.
-- - The numbers of the units in its body, from a first number on.
-- - The effect of its body for a call at a place, for any reading, as a note begins and in a cycle.
pub record Action (W : Type 0) : Type 0 where
  pub inputs : List (List ℕ)
  pub results : List (List ℕ)
  pub calls : Path → List Path
  pub keepers : Path → List Path
  pub units : Reading W → ℕ → List ℕ
  pub does : Reading W → When → StatementPlace → Framed W → Framed W

-- the user-defined opcodes that may be called, by name
abbrev pub Actions : Type 0 → Type 0
Actions W = ByName (Action W)

-- no user-defined opcodes
abbrev pub no_actions : {W : Type 0} → Actions W
no_actions name = None

-- the action of the called opcode, if it is user-defined
abbrev pub action_of : {W : Type 0} → Actions W → Callee → Option (Action W)
action_of env c = item_of env c

-- the values of variables, as arguments
abbrev pub values_in : List (List ℕ) → List Argument
values_in xs = map (λ x. value (var x)) xs

-- A call from frame f has the frame with its own path. Its parts are its arguments, its body, and the values
-- of `xout`. The inputs are assigned the values of the arguments; the body is performed; the results are
-- assigned the values of `xout`.
abbrev pub call_done : {W : Type 0} → Reading W → When → Path → StatementPlace → Action W → List (List ℕ)
    → List Argument
    → Framed W → Framed W
call_done m w f p a xs args u =
    copies_done m w p.path f (0 ∷ 2 ∷ p.path) xs (values_in a.results)
    (a.does m w p (copies_done m w f p.path (0 ∷ 0 ∷ p.path) a.inputs args u))

-- a call of a user-defined opcode, or otherwise of an opcode of the catalogue
abbrev pub any_done : {W : Type 0} → Reading W → When → Path → StatementPlace → Statement → List (List ℕ)
    → List Argument
    → Option (Action W) → Framed W → Framed W
any_done m w f p x xs args None u = plain_done m w f p x u
any_done m w f p x xs args (Some a) u = call_done m w f p a xs args u

-- The frames of the calls in statements, in the order of the text: the frame of a call comes before the
-- frames of the calls in its body.
abbrev pub frames_of_call : {W : Type 0} → Path → Option (Action W) → List Path
frames_of_call p None = []
frames_of_call p (Some a) = p ∷ a.calls p

abbrev mutual
  pub frames_of : {W : Type 0} → Actions W → Path → Statement → List Path
  frames_of env p (set line x e) = []
  frames_of env p (call line xs c args) = frames_of_call p (action_of env c)
  frames_of env p (choose line list) = frames_of_arms env (0 ∷ p) list

  pub frames_of_block : {W : Type 0} → Actions W → Path → Block → List Path
  frames_of_block env p no_stmt = []
  frames_of_block env p (andthen x rest) = frames_of env p x ++ frames_of_block env (next p) rest

  pub frames_of_arms : {W : Type 0} → Actions W → Path → Arms → List Path
  frames_of_arms env p (otherwise b) = frames_of_block env (0 ∷ p) b
  frames_of_arms env p (arm c b rest) = frames_of_block env (0 ∷ 1 ∷ p) b ++ frames_of_arms env (next p) rest

-- The paths of the parts of statements that may keep values, in the order of the text. They are statements
-- that aren't calls of user-defined opcodes, and the conditions of `if`. For a call they are the values that
-- its inputs are assigned, the parts of its body, and the values that its results are assigned.
abbrev pub keepers_of_copies : Path → List (List ℕ) → List Argument → List Path
keepers_of_copies p (x ∷ xs) (value e ∷ args) = p ∷ keepers_of_copies (next p) xs args
keepers_of_copies p xs args = []

-- the paths of the parts of a call that may keep values
abbrev pub keepers_of_call : {W : Type 0} → Path → List (List ℕ) → List Argument → Option (Action W) → List Path
keepers_of_call p xs args None = p ∷ []
keepers_of_call p xs args (Some a) =
    keepers_of_copies (0 ∷ 0 ∷ p) a.inputs args
    ++ (a.keepers p ++ keepers_of_copies (0 ∷ 2 ∷ p) xs (values_in a.results))

abbrev mutual
  pub keepers_of : {W : Type 0} → Actions W → Path → Statement → List Path
  keepers_of env p (set line x e) = p ∷ []
  keepers_of env p (call line xs c args) = keepers_of_call p xs args (action_of env c)
  keepers_of env p (choose line list) = keepers_of_arms env (0 ∷ p) list

  pub keepers_of_block : {W : Type 0} → Actions W → Path → Block → List Path
  keepers_of_block env p no_stmt = []
  keepers_of_block env p (andthen x rest) = keepers_of env p x ++ keepers_of_block env (next p) rest

  pub keepers_of_arms : {W : Type 0} → Actions W → Path → Arms → List Path
  keepers_of_arms env p (otherwise b) = keepers_of_block env (0 ∷ p) b
  keepers_of_arms env p (arm c b rest) =
      ((0 ∷ p) ∷ keepers_of_block env (0 ∷ 1 ∷ p) b) ++ keepers_of_arms env (next p) rest

-- The paths of the parts that may keep values in the expanded text, which calls no user-defined opcode. A
-- value that a call copies is the value of an assignment there.
abbrev mutual
  pub typed_keepers : Path → typed.Statement → List Path
  typed_keepers p (typed.set line r v e) = (0 ∷ p) ∷ []
  typed_keepers p (typed.call line r vs opcode args) = p ∷ []
  typed_keepers p (typed.choose line r list) = typed_keepers_of_arms (0 ∷ p) list

  pub typed_keepers_of_block : Path → typed.Block → List Path
  typed_keepers_of_block p typed.no_stmt = []
  typed_keepers_of_block p (typed.andthen x rest) = typed_keepers p x ++ typed_keepers_of_block (next p) rest

  pub typed_keepers_of_arms : Path → typed.Arms → List Path
  typed_keepers_of_arms p (typed.otherwise b) = typed_keepers_of_block (0 ∷ p) b
  typed_keepers_of_arms p (typed.arm c b rest) =
      ((0 ∷ p) ∷ typed_keepers_of_block (0 ∷ 1 ∷ p) b) ++ typed_keepers_of_arms (next p) rest

-- The numbers of the units in statements from a first number on, in the order of the text, including the
-- units in the bodies of calls. A unit records its inputs so far under its number.
abbrev pub unit_of : ℕ → Stmt → List ℕ
unit_of n (unit r vs opcode reach xs is) = n ∷ []
unit_of n _ = []

-- the numbers of the units in a call
abbrev pub units_of_call : {W : Type 0} → Reading W → ℕ → Statement → Option (Action W) → List ℕ
units_of_call m n x None = unit_of n (read m x)
units_of_call m n x (Some a) = a.units m n

abbrev mutual
  pub units_of : {W : Type 0} → Reading W → Actions W → ℕ → Statement → List ℕ
  units_of m env n (set line x e) = []
  units_of m env n (call line xs c args) = units_of_call m n (call line xs c args) (action_of env c)
  units_of m env n (choose line list) = units_of_arms m env n list

  pub units_of_block : {W : Type 0} → Reading W → Actions W → ℕ → Block → List ℕ
  units_of_block m env n no_stmt = []
  units_of_block m env n (andthen x rest) =
      let first = units_of m env n x in first ++ units_of_block m env (n + length first) rest

  pub units_of_arms : {W : Type 0} → Reading W → Actions W → ℕ → Arms → List ℕ
  units_of_arms m env n (otherwise b) = units_of_block m env n b
  units_of_arms m env n (arm c b rest) =
      let first = units_of_block m env n b in first ++ units_of_arms m env (n + length first) rest

-- the place after a statement
abbrev pub past : {W : Type 0} → Reading W → Actions W → StatementPlace → Statement → StatementPlace
past m env p x = record { path = next p.path; unit = p.unit + length (units_of m env p.unit x) }

-- the place after an arm with these statements
abbrev pub past_arm : {W : Type 0} → Reading W → Actions W → StatementPlace → Block → StatementPlace
past_arm m env p b = record { path = next p.path; unit = p.unit + length (units_of_block m env p.unit b) }

-- The effect of the statements of frame f. As the note begins, an `if` whose conditions are all known then is
-- decided once; all arms of any other `if` are initialised. In a control cycle an `if` takes the first arm
-- whose condition holds.
abbrev mutual
  pub framed_done : {W : Type 0} → Reading W → Actions W → When → Path → StatementPlace → Statement → Framed W
      → Framed W
  framed_done m env w f p (set line x e) u = plain_done m w f p (set line x e) u
  framed_done m env w f p (call line xs c args) u =
      any_done m w f p (call line xs c args) xs args (action_of env c) u
  framed_done m env w f p (choose line list) u =
      by_pass w
      (going_on m.world u
      (if_init (choice_rate list) (init_first m env f (inside p) list u) (init_all m env f (inside p) list u)))
      (perf_arms m env f (inside p) list u)

  pub block_done : {W : Type 0} → Reading W → Actions W → When → Path → StatementPlace → Block → Framed W → Framed W
  block_done m env w f p no_stmt u = u
  block_done m env w f p (andthen x rest) u =
      block_done m env w f (past m env p x) rest (framed_done m env w f p x u)

  pub init_first : {W : Type 0} → Reading W → Actions W → Path → StatementPlace → Arms → Framed W → Framed W
  init_first m env f p (otherwise b) u = block_done m env beginning f (inside p) b u
  init_first m env f p (arm c b rest) u =
      let now = put_back f (keep m.world (0 ∷ p.path) (expression_read m c) (seen_from f u)) u in
      if holds (now.kept (0 ∷ p.path)) then block_done m env beginning f (inside_arm p) b now
      else init_first m env f (past_arm m env p b) rest now

  pub init_all : {W : Type 0} → Reading W → Actions W → Path → StatementPlace → Arms → Framed W → Framed W
  init_all m env f p (otherwise b) u = block_done m env beginning f (inside p) b u
  init_all m env f p (arm c b rest) u =
      let now = put_back f (keep m.world (0 ∷ p.path) (expression_read m c) (seen_from f u)) u in
      going_on m.world u
      (init_all m env f (past_arm m env p b) rest (block_done m env beginning f (inside_arm p) b now))

  pub perf_arms : {W : Type 0} → Reading W → Actions W → Path → StatementPlace → Arms → Framed W → Framed W
  perf_arms m env f p (otherwise b) u = block_done m env cycle f (inside p) b u
  perf_arms m env f p (arm c b rest) u =
      if holds (value_of m.world (seen_from f u) cycle (0 ∷ p.path) (expression_read m c) 0)
      then block_done m env cycle f (inside_arm p) b u
      else perf_arms m env f (past_arm m env p b) rest u

-- The action of a definition for a call: its statements, then the values of `xout`, which are assigned to
-- variables of the call's frame.
abbrev pub action : {W : Type 0} → Actions W → Definition → Action W
action env d = record {
  inputs = d.names;
  results = slots 0 d.outs;
  calls = λ p. frames_of_block env (0 ∷ 1 ∷ p) (whole_body d);
  keepers = λ p. keepers_of_block env (0 ∷ 1 ∷ p) (whole_body d);
  units = λ m n. units_of_block m env n (whole_body d);
  does = λ m w p u. block_done m env w p.path (inside_arm p) (whole_body d) u;
}

-- the opcodes after one more definition, and after several more; each may call only earlier ones
abbrev pub acting : {W : Type 0} → Actions W → Definition → Actions W
acting env d = with_item action env d

-- the opcodes after several more definitions; each may call only earlier ones
abbrev pub acting_all : {W : Type 0} → Actions W → List Definition → Actions W
acting_all env ds = with_items action env ds

-- the opcodes of these definitions
abbrev pub actions_of : (W : Type 0) → List Definition → Actions W
actions_of W ds = acting_all no_actions ds

-- the opcodes that are defined before a line
abbrev pub actions_before : (W : Type 0) → ℕ → List Definition → Actions W
actions_before W line ds = actions_of W (before line ds)
