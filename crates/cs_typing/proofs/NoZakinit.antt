-- The typed instruments of an orchestra that was read have no `zakinit`.
use Rattle.std.proofs.Common.{◌≢◌, ℕ, ◌+◌, List, [], ◌∷◌, ap}
use Rattle.std.specs.List.{All}
use Rattle.std.proofs.lemmas.List.Elements.{All-cons, All-nil, All-head, All-tail}
use Rattle.cs_grammar.specs.{declared.tree.Callee.Callee, Tree.Instrument, Tree.Orchestra, WellFormed.IsWellFormed}
use Rattle.cs_grammar.specs.Tree.{Argument, Statement, set, call, choose, Block, no_stmt, andthen, Arms, otherwise, arm}
use Rattle.cs_grammar.specs.WellFormed.{WellFormedStmt, WellFormedBlock, WellFormedArms, WellFormedInstrument}
use Rattle.cs_typing.specs.{Calls.typed_call, Known.KnownHere, Typing.typed_instruments, Typing.typed_of}
use Rattle.cs_typing.specs.Statements.{known, known_block, typed_statement, typed_block, typed_arms}
use Rattle.cs_typing.specs.Typing.{alone, body, items, before, from, entered, known_item, first_known, typed_instrument}
use Rattle.cs_typed.specs.WellRated.{HasNoZakinit, BlockHasNoZakinit, ArmsHaveNoZakinit}
use Rattle.cs_words.specs.declared.catalogue.Opcode.TheVariants as op
use Rattle.cs_grammar.specs.declared.scope.Place.TheVariants as place
use Rattle.cs_grammar.specs.declared.tree.Callee.TheVariants as callee

call_lacks : (line : ℕ) (n : KnownHere) (c : Callee) (results : List (List ℕ)) (args : List Argument)
    → c ≢ callee.Opcode op.Zakinit → HasNoZakinit (typed_call line n c results args)
call_lacks line n (callee.Opcode o) results args h = λ e. h (ap callee.Opcode e)
call_lacks line n (callee.Name name) results args h = tt

mutual
  stmt_lacks : (n : KnownHere) (depth : ℕ) (x : Statement) → WellFormedStmt place.Instrument [] depth x
      → HasNoZakinit (typed_statement n x)
  stmt_lacks n depth (set line name e) h = tt
  stmt_lacks n depth (call line results c args) h = call_lacks line n c results args h.1.1
  stmt_lacks n depth (choose line list) h = arms_lack n (depth + 1) list h.1

  block_lacks : (n : KnownHere) (depth : ℕ) (b : Block) → WellFormedBlock place.Instrument [] depth b
      → BlockHasNoZakinit (typed_block n b)
  block_lacks n depth no_stmt h = tt
  block_lacks n depth (andthen x rest) h = (stmt_lacks n depth x h.0, block_lacks (known n x) depth rest h.1)

  arms_lack : (n : KnownHere) (depth : ℕ) (list : Arms) → WellFormedArms place.Instrument [] depth list
      → ArmsHaveNoZakinit (typed_arms n list)
  arms_lack n depth (otherwise b) h = block_lacks n depth b h
  arms_lack n depth (arm c b rest) h = (block_lacks n depth b h.1, arms_lack (known_block n b) depth rest h.2)

instruments_lack : (n : KnownHere) (outside : Block) (list : List Instrument) → All WellFormedInstrument list
    → All (λ i. BlockHasNoZakinit i.body) (typed_instruments n (items outside list))
instruments_lack n outside [] h = All-nil (λ i. BlockHasNoZakinit i.body)
instruments_lack n outside (i ∷ rest) h =
    let m = known_item n (alone (before i.line outside)) in
    All-cons (λ x. BlockHasNoZakinit x.body) (typed_instrument m i)
    (typed_instruments (known_item m (body i)) (items (from i.line outside) rest))
    (block_lacks (entered m) 0 i.body (All-head WellFormedInstrument i rest h).body)
    (instruments_lack (known_item m (body i)) (from i.line outside) rest (All-tail WellFormedInstrument i rest h))

pub no_zakinit : (o : Orchestra) → IsWellFormed o → All (λ i. BlockHasNoZakinit i.body) (typed_of o).instrs
no_zakinit o h = instruments_lack (first_known o) o.zero o.instrs h.instruments
