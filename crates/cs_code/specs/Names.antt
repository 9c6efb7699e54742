-- The things that ops name in their piece: units by their place in the text, and output channels.
use Rattle.std.specs.Prelude.{ℕ, ◌≡◌, ◌<◌, ◌++◌, List, [], ◌∷◌, Some, slice_get}
use Rattle.std.specs.List.{All}
use Rattle.cs_base.specs.declared.resource.Rate.{Rate}
use Rattle.cs_words.specs.declared.catalogue.Opcode.{Opcode}
use Rattle.cs_ir.specs.{Registers.rate_at, declared.op.Act.Act, declared.op.Op.Op}
use Rattle.cs_meaning.specs.Core.{Stmt, Block, Arms, set, unit, zak, store, out, out_at, ask, turnoff, nothing, choose}
use Rattle.cs_meaning.specs.Core.{no_stmt, andthen, otherwise, arm}
use Rattle.cs_ir.specs.declared.op.Act.TheVariants as act

-- the kind of a unit: an opcode at a rate
pub record UnitKind : Type 0 where
  pub opcode : Opcode
  pub rate : Rate

-- the units of statements in the order of the text; a unit's number is its index here
abbrev mutual
  pub stmt_units : Stmt → List UnitKind
  stmt_units (unit r vs opcode reach xs is) = record { opcode = opcode; rate = r } ∷ []
  stmt_units (zak r vs opcode reach xs) = []
  stmt_units (store r reach es is) = []
  stmt_units (choose r arms) = arms_units arms
  stmt_units (set r v e) = []
  stmt_units (out r es) = []
  stmt_units (out_at r es) = []
  stmt_units (ask es) = []
  stmt_units (turnoff r) = []
  stmt_units nothing = []

  pub block_units : Block → List UnitKind
  block_units no_stmt = []
  block_units (andthen s b) = stmt_units s ++ block_units b

  pub arms_units : Arms → List UnitKind
  arms_units (otherwise b) = block_units b
  arms_units (arm c b rest) = block_units b ++ arms_units rest

-- An act names a unit with its opcode and rate, and an output channel that the piece has.
abbrev pub Names : ℕ → List UnitKind → Act → Rate → Type 0
Names channels units (act.Start opcode u) r = slice_get units u ≡ Some (record { opcode = opcode; rate = r })
Names channels units (act.Unit opcode u reach) r = slice_get units u ≡ Some (record { opcode = opcode; rate = r })
Names channels units (act.Out c) r = c < channels
Names channels units _ r = Unit {0}

-- Each op of a code names only existing things: each unit has one opcode and one rate, determined by its
-- place in the text.
abbrev pub AllNamed : ℕ → List UnitKind → List Op → Type 0
AllNamed channels units ops = All (λ o. Names channels units o.act (rate_at o.into)) ops
