-- The register of each kept value: kept values are numbered in the order of the text.
use Rattle.std.specs.Prelude.{ℕ, zero, suc, ◌+◌, List, [], ◌∷◌, Option, Some, None}
use Rattle.cs_ir.specs.Waves.{if_init}
use Rattle.cs_meaning.specs.Core.{Stmt, Block, Arms, set, unit, zak, store, out, out_at, ask, turnoff, nothing, choose}
use Rattle.cs_meaning.specs.{Core.no_stmt, Core.andthen, Core.otherwise, Core.arm, Notes.Path}
use Rattle.cs_typed.specs.TypedTree.{Expression, number, var, field, head, neg, pair, pick, apply}
use Rattle.cs_code.specs.declared.frame.Progress.{Progress}

-- the progress at the beginning of a code
abbrev pub start : Progress
start = record { part = 0; unit = 0 }

-- In an expression that changes, the outermost parts that don't are kept, in the order of the text. This is
-- the number after the last of them.
abbrev pub past : ℕ → Expression → ℕ
past at (number r n) = if_init r (at + 1) at
past at (var r v) = if_init r (at + 1) at
past at (field r k) = if_init r (at + 1) at
past at (head r h) = if_init r (at + 1) at
past at (neg r a) = if_init r (at + 1) (past at a)
past at (pair r o a b) = if_init r (at + 1) (past (past at a) b)
past at (pick r c a b) = if_init r (at + 1) (past (past (past at c) a) b)
past at (apply r f a) = if_init r (at + 1) (past at a)

-- the number of the next kept value after these expressions
abbrev pub past_all : ℕ → List Expression → ℕ
past_all at [] = at
past_all at (e ∷ es) = past_all (past at e) es

-- the progress with n kept values
abbrev pub past_parts : ℕ → Progress → Progress
past_parts n p = record { part = n; unit = p.unit }

abbrev mutual
  pub past_stmt : Progress → Stmt → Progress
  past_stmt p (set r v e) = past_parts (if_init r p.part (past p.part e)) p
  past_stmt p (unit r vs opcode reach xs is) =
      record { part = if_init r p.part (past_all p.part xs); unit = p.unit + 1 }
  past_stmt p (zak r vs opcode reach xs) = past_parts (if_init r p.part (past_all p.part xs)) p
  past_stmt p (store r reach es is) = past_parts (if_init r p.part (past_all p.part es)) p
  past_stmt p (out r es) = past_parts (past_all p.part es) p
  past_stmt p (out_at r es) = past_parts (past_all p.part es) p
  past_stmt p (ask es) = p
  past_stmt p (turnoff r) = p
  past_stmt p nothing = p
  past_stmt p (choose r arms) = past_arms p arms

  pub past_block : Progress → Block → Progress
  past_block p no_stmt = p
  past_block p (andthen s b) = past_block (past_stmt p s) b

  pub past_arms : Progress → Arms → Progress
  past_arms p (otherwise b) = past_block p b
  past_arms p (arm c b rest) = past_arms (past_block (past_parts (past p.part c) p) b) rest

-- ---- the number of the value that is kept at a path; here a path leads inward

-- the number of a value that is kept completely, at the empty path only
abbrev pub itself : ℕ → Path → Option ℕ
itself at [] = Some at
itself at (k ∷ q) = None

-- no value is kept at any path
abbrev pub nowhere : Path → Option ℕ
nowhere q = None

-- the numbers of the values kept in the first part, and of those kept in the later parts
abbrev pub parts : (Path → Option ℕ) → (Path → Option ℕ) → Path → Option ℕ
parts first behind [] = None
parts first behind (zero ∷ q) = first q
parts first behind (suc k ∷ q) = behind (k ∷ q)

-- the number of the value that is kept at a path of an expression
abbrev pub numbers : ℕ → Expression → Path → Option ℕ
numbers at (number r n) = if_init r (itself at) nowhere
numbers at (var r v) = if_init r (itself at) nowhere
numbers at (field r k) = if_init r (itself at) nowhere
numbers at (head r h) = if_init r (itself at) nowhere
numbers at (neg r a) = if_init r (itself at) (parts (numbers at a) nowhere)
numbers at (pair r o a b) = if_init r (itself at) (parts (numbers at a) (parts (numbers (past at a) b) nowhere))
numbers at (pick r c a b) =
    if_init r (itself at)
    (parts (numbers at c) (parts (numbers (past at c) a) (parts (numbers (past (past at c) a) b) nowhere)))
numbers at (apply r f a) = if_init r (itself at) (parts (numbers at a) nowhere)

-- the number of the value that is kept at a path of expressions
abbrev pub all_numbers : ℕ → List Expression → Path → Option ℕ
all_numbers at [] = nowhere
all_numbers at (e ∷ es) = parts (numbers at e) (all_numbers (past at e) es)

abbrev mutual
  pub stmt_numbers : Progress → Stmt → Path → Option ℕ
  stmt_numbers p (set r v e) = if_init r nowhere (parts (numbers p.part e) nowhere)
  stmt_numbers p (unit r vs opcode reach xs is) = if_init r nowhere (all_numbers p.part xs)
  stmt_numbers p (zak r vs opcode reach xs) = if_init r nowhere (all_numbers p.part xs)
  stmt_numbers p (store r reach es is) = if_init r nowhere (all_numbers p.part es)
  stmt_numbers p (out r es) = all_numbers p.part es
  stmt_numbers p (out_at r es) = all_numbers p.part es
  stmt_numbers p (ask es) = nowhere
  stmt_numbers p (turnoff r) = nowhere
  stmt_numbers p nothing = nowhere
  stmt_numbers p (choose r arms) = arms_numbers p arms

  pub block_numbers : Progress → Block → Path → Option ℕ
  block_numbers p no_stmt = nowhere
  block_numbers p (andthen s b) = parts (stmt_numbers p s) (block_numbers (past_stmt p s) b)

  pub arms_numbers : Progress → Arms → Path → Option ℕ
  arms_numbers p (otherwise b) = parts (block_numbers p b) nowhere
  arms_numbers p (arm c b rest) = let q = past_parts (past p.part c) p in
      parts (parts (numbers p.part c) (parts (block_numbers q b) nowhere)) (arms_numbers (past_block q b) rest)

-- A path extended by further steps inward; with an empty path, it reverses the direction: it then leads
-- inward, from the body on.
abbrev pub inward : Path → Path → Path
inward [] p = p
inward (k ∷ q) p = inward q (k ∷ p)

-- the numbers of the values that a block keeps
abbrev pub registers : Block → Path → Option ℕ
registers b p = block_numbers start b (inward p [])
