-- A note in its world, and the values of its expressions.
use Rattle.std.specs.Prelude.{ℕ, ℤ, pos, suc, ◌+◌, List, [], ◌∷◌}
use Rattle.cs_base.specs.{Rates.res_rate, declared.resource.Rate.Rate}
use Rattle.cs_typed.specs.TypedTree.{Expression, number, var, field, head, neg, pair, pick, apply}
use Rattle.cs_typed.specs.declared.tree.Var.{Var as Variable}
use Rattle.cs_typed.specs.declared.tree.Var.TheVariants.{Local, Global}
use Rattle.cs_ir.specs.{Registers.local, Machine.put, Worlds.World, declared.register.Reg.Reg}
use Rattle.cs_ir.specs.Values.{negated, applied}
use Rattle.cs_ir.specs.Waves.{Wave, held, constant, both, chosen, if_init, silence}
use Rattle.cs_meaning.specs.Core.{Stmt, Block, Arms, set, unit, zak, store, out, out_at, ask, turnoff, nothing, choose}
use Rattle.cs_meaning.specs.Core.{no_stmt, andthen, otherwise, arm}
use Rattle.cs_meaning.specs.When.{When, beginning, cycle}

-- The position of a part in a text, innermost first. It lists the index of the part within its parent,
-- counted from 0, then the index of the parent within its own parent, and so on up to the body. The parts of
-- a body are its statements.
abbrev pub Path : Type 0
Path = List ℕ

-- the path of the next part of the same parent
abbrev pub next : Path → Path
next [] = []
next (n ∷ p) = suc n ∷ p

-- A note: its local variables by rate and number, the values that it keeps from its initialisation by their
-- paths in the text, and the state of the world in which it plays.
pub record Note (W : Type 0) : Type 0 where
  pub locals : Reg → Wave
  pub kept : Path → ℤ
  pub world : W

-- the register of a local variable
abbrev pub reg : Rate → ℕ → Reg
reg r n = record { kind = local r; offset = n }

-- a note that begins; all its variables are 0
abbrev pub new_note : {W : Type 0} → W → Note W
new_note x = record { locals = λ q. silence; kept = λ p. pos 0; world = x }

-- a note in another state of the world
abbrev pub moved_to : {W : Type 0} → W → Note W → Note W
moved_to x t = record t { world = x }

-- Units are numbered in the order of the text. This is the number of the next unit after a statement, a
-- block, or the arms of an `if`.
abbrev mutual
  pub unit_past : ℕ → Stmt → ℕ
  unit_past u (unit r vs opcode reach xs is) = u + 1
  unit_past u (choose r arms) = unit_past_arms u arms
  unit_past u (set r v e) = u
  unit_past u (zak r vs opcode reach xs) = u
  unit_past u (store r reach es is) = u
  unit_past u (out r es) = u
  unit_past u (out_at r es) = u
  unit_past u (ask es) = u
  unit_past u (turnoff r) = u
  unit_past u nothing = u

  pub unit_past_block : ℕ → Block → ℕ
  unit_past_block u no_stmt = u
  unit_past_block u (andthen s b) = unit_past_block (unit_past u s) b

  pub unit_past_arms : ℕ → Arms → ℕ
  unit_past_arms u (otherwise b) = unit_past_block u b
  unit_past_arms u (arm c b rest) = unit_past_arms (unit_past_block u b) rest

-- The place of a statement or of an arm: its path, and the number of the first unit from there on.
pub record StatementPlace : Type 0 where
  pub path : Path
  pub unit : ℕ

-- the place of a body's first statement
abbrev pub start : StatementPlace
start = record { path = 0 ∷ []; unit = 0 }

-- The place after a statement.
abbrev pub past_stmt : StatementPlace → Stmt → StatementPlace
past_stmt p s = record { path = next p.path; unit = unit_past p.unit s }

-- the place after an arm with these statements
abbrev pub past_arm : StatementPlace → Block → StatementPlace
past_arm p b = record { path = next p.path; unit = unit_past_block p.unit b }

-- The place of the first part inside a place: for an `if` its first arm, for the last arm its first
-- statement. Any other arm has two parts, its condition and its statements.
abbrev pub inside : StatementPlace → StatementPlace
inside p = record { path = 0 ∷ p.path; unit = p.unit }

-- the place of the first statement of an arm that has a condition
abbrev pub inside_arm : StatementPlace → StatementPlace
inside_arm p = record { path = 0 ∷ 1 ∷ p.path; unit = p.unit }

-- the value of a variable, read at a rate
abbrev pub look : {W : Type 0} → World W → Note W → Rate → Variable → Wave
look o t r (Local q n) = t.locals (reg q n)
look o t r (Global g) = held o.ksmps r (o.load g t.world)

-- a variable is assigned a value, at its own rate
abbrev pub assign : {W : Type 0} → World W → Variable → Wave → Note W → Note W
assign o (Local r n) w t = record t { locals = put t.locals (reg r n) (held o.ksmps r w) }
assign o (Global g) w t = moved_to (o.save g (held o.ksmps (res_rate g) w) t.world) t

-- The value of a part of an expression: as the note begins, its own value; in a control cycle, the kept value
-- if the part is i-rate.
abbrev pub part : When → Rate → ℤ → Wave → Wave
part beginning r kept own = own
part cycle r kept own = if_init r (constant kept) own

-- The value of an expression at a path. As the note begins it is evaluated completely; in a control cycle its
-- kept parts are used.
abbrev pub value : {W : Type 0} → World W → Note W → When → Path → Expression → Wave
value o t w p (number r n) = part w r (t.kept p) (held o.ksmps r (constant n))
value o t w p (var r v) = part w r (t.kept p) (look o t r v)
value o t w p (field r k) = part w r (t.kept p) (held o.ksmps r (constant (o.field k)))
value o t w p (head r h) = part w r (t.kept p) (held o.ksmps r (constant (o.head h)))
value o t w p (neg r a) =
    part w r (t.kept p) (held o.ksmps r (λ j. negated (value o t w (0 ∷ p) a j)))
value o t w p (pair r b x y) =
    part w r (t.kept p) (held o.ksmps r (both b (value o t w (0 ∷ p) x) (value o t w (1 ∷ p) y)))
value o t w p (pick r c x y) =
    part w r (t.kept p)
    (held o.ksmps r (chosen (value o t w (0 ∷ p) c) (value o t w (1 ∷ p) x) (value o t w (2 ∷ p) y)))
value o t w p (apply r f x) =
    part w r (t.kept p) (held o.ksmps r (λ j. applied f (value o t w (0 ∷ p) x j)))

-- the values of expressions; the first has this path, and each further one the next path
abbrev pub values : {W : Type 0} → World W → Note W → When → Path → List Expression → List Wave
values o t w p [] = []
values o t w p (e ∷ es) = value o t w p e ∷ values o t w (next p) es

-- the value of an expression as the note begins
abbrev pub first_value : {W : Type 0} → World W → Note W → Expression → ℤ
first_value o t e = value o t beginning [] e 0

-- an opcode has run, and its result is assigned to the variable, if it has one
abbrev pub given : {W : Type 0} → World W → List Variable → Wave → Note W → Note W
given o [] w t = t
given o (v ∷ vs) w t = assign o v w t

-- an opcode has run: the new state of the world, and its result in the result variable
abbrev pub done : {W : Type 0} → World W → Rate → List Variable → W × Wave → Note W → Note W
done o r vs (x, w) t = given o vs (held o.ksmps r w) (moved_to x t)

-- values are output to the channels from `c` on
abbrev pub sent : {W : Type 0} → World W → ℕ → List Wave → W → W
sent o c [] x = x
sent o c (w ∷ ws) x = sent o (c + 1) ws (o.out c w x)

-- values are output in pairs of a channel's number and a value
abbrev pub sent_at : {W : Type 0} → World W → List Wave → W → W
sent_at o (k ∷ w ∷ ws) x = sent_at o ws (o.out_at k w x)
sent_at o _ x = x
