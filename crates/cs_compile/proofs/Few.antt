-- An orchestra that texts mean schedules few notes: an instrument no more than it may have statements.
use Rattle.std.proofs.Common.{◌≡◌, ◌≤◌, ℕ, List, [], ◌∷◌, Ok, sym, subst, arith}
use Rattle.std.specs.List.{All, AllByRecursion as Each}
use Rattle.std.proofs.lemmas.List.Elements.{All-contains, All-from_recursion}
use Rattle.cs_base.specs.{Limits.most_statements, declared.resource.Rate.Rate, declared.spaces.Spaces.Spaces}
use Rattle.cs_code.specs.Lowered.{bodies}
use Rattle.cs_grammar.specs.declared.tree.Callee.{Callee}
use Rattle.cs_meaning.specs.Core.{Block, core, core_arms, core_call, core_stmt}
use Rattle.cs_piece.specs.{Compositions.body_of, Setups.AskForFew}
use Rattle.cs_piece_meaning.specs.Bounded.{asks_in, asks_in_arms, asks_in_stmt}
use Rattle.cs_typed.specs.declared.tree.Var.{Var as Variable}
use Rattle.cs_typing.specs.{Calls.typed_call, Known.KnownHere, Typing.typed_instruments, Typing.typed_of}
use Rattle.cs_typing.specs.Statements.{known, known_block, typed_arms, typed_block, typed_statement}
use Rattle.cs_typing.specs.Typing.{before, body, entered, first_known, from, items, known_item, type_fault}
use Rattle.cs_udo.specs.{Counted.size, Counted.size_of, Counted.size_of_arms, Expanding.expanding}
use Rattle.cs_words.specs.{Catalogue.row_of, declared.catalogue.Opcode.Opcode, declared.catalogue.Shape.Shape}
use Rattle.cs_udo.proofs.Few.{HasFew, few_of_expansion}
use Rattle.cs_compile.specs.Meaning.{typed_form}
use Rattle.cs_compile.proofs.{Calls.bodies_have, Calls.mapped, Calls.pairs_have, Some.judged_ok}
use Rattle.cs_grammar.specs.Tree as tree
use Rattle.cs_grammar.specs.declared.tree.Callee.TheVariants as callee
use Rattle.cs_typed.specs.TypedTree as typed
use Rattle.cs_words.specs.declared.catalogue.Shape.TheVariants as shape

-- A STATEMENT schedules at most one note, and an `if` at most one for each of its statements

module _ (spaces : Spaces) where
  call_asks : (r : Rate) (vs : List Variable) (o : Opcode) (sh : Shape) (args : List typed.Argument)
      → asks_in_stmt (core_call spaces r vs o sh args) ≤ 1
  call_asks r [] o shape.ChannelPut (typed.value e ∷ typed.value f ∷ args) = omega arith
  call_asks r [] o shape.ChannelMix (typed.value e ∷ typed.value f ∷ args) = omega arith
  call_asks r [] o shape.ChannelClear (typed.value e ∷ args) = omega arith
  call_asks r (v ∷ vs) o shape.Init (typed.value e ∷ args) = omega arith
  call_asks r (v ∷ vs) o shape.ChannelGet (typed.value e ∷ args) = omega arith
  call_asks r (v ∷ vs) o shape.ChannelPut (typed.value e ∷ typed.value f ∷ args) = omega arith
  call_asks r (v ∷ vs) o shape.ChannelMix (typed.value e ∷ typed.value f ∷ args) = omega arith
  call_asks r (v ∷ vs) o shape.ChannelClear (typed.value e ∷ args) = omega arith
  call_asks r vs o sh args = omega arith

  callee_asks : (n : KnownHere) (line : ℕ) (c : Callee) (xs : List (List ℕ)) (args : List tree.Argument)
      → asks_in_stmt (core_stmt spaces (typed_call line n c xs args)) ≤ 1
  callee_asks n line (callee.Opcode o) xs args = call_asks _ _ o (row_of o).shape _
  callee_asks n line (callee.Name name) xs args = omega arith

  mutual
    stmt_asks : (n : KnownHere) (x : tree.Statement) → asks_in_stmt (core_stmt spaces (typed_statement n x)) ≤ size x
    stmt_asks n (tree.set line name e) = omega arith
    stmt_asks n (tree.call line xs c args) = callee_asks n line c xs args
    stmt_asks n (tree.choose line list) = let few = arms_ask n list in omega (arith, few)

    block_asks : (n : KnownHere) (b : tree.Block) → asks_in (core spaces (typed_block n b)) ≤ size_of b
    block_asks n tree.no_stmt = omega arith
    block_asks n (tree.andthen x rest) =
        let first = stmt_asks n x in let others = block_asks (known n x) rest in omega (arith, first, others)

    arms_ask : (n : KnownHere) (list : tree.Arms)
        → asks_in_arms (core_arms spaces (typed_arms n list)) ≤ size_of_arms list
    arms_ask n (tree.otherwise b) = block_asks n b
    arms_ask n (tree.arm c b rest) =
        let first = block_asks n b in let others = arms_ask (known_block n b) rest in omega (arith, first, others)

  -- AN ORCHESTRA with few statements in each instrument
  abbrev AsksFew : typed.Instrument → Type 0
  AsksFew i = asks_in (core spaces i.body) ≤ most_statements

  typed_ask : (n : KnownHere) (outside : tree.Block) (list : List tree.Instrument) → Each HasFew list
      → Each AsksFew (typed_instruments n (items outside list))
  typed_ask n outside [] few = tt
  typed_ask n outside (i ∷ rest) few =
      let m : KnownHere = known_block n (before i.line outside) in
      let asks = block_asks (entered m) i.body in
      let own : size_of i.body ≤ most_statements = few.0 in
      (omega (arith, asks, own), typed_ask (known_item m (body i)) (from i.line outside) rest few.1)

few_typed : (t : tree.Orchestra) → Each HasFew t.instrs → AskForFew (typed_of t)
few_typed t few z found h =
    let o : typed.Orchestra = typed_of t in
    let b = mapped (core o.spaces) (body_of (bodies o.instrs) z) found h in
    let pair = pairs_have (bodies o.instrs) z b.0 b.1 in
    let made = bodies_have o.instrs pair.0 b.0 pair.2 in
    let all : All (AsksFew o.spaces) o.instrs =
    All-from_recursion (AsksFew o.spaces) o.instrs (typed_ask o.spaces (first_known t) t.zero t.instrs few) in
    let asks : asks_in (core o.spaces made.0.body) ≤ most_statements =
    All-contains (AsksFew o.spaces) o.instrs made.0 all made.1 in
    let same : asks_in (core o.spaces b.0) ≤ most_statements =
    subst (λ (x : typed.Block). asks_in (core o.spaces x) ≤ most_statements) made.3 asks in
    subst (λ (x : Block). asks_in x ≤ most_statements) (sym b.2) same

pub asks_few : (t made : tree.Orchestra) (o : typed.Orchestra) → expanding t ≡ Ok made → typed_form made ≡ Ok o
    → AskForFew o
asks_few t made o e h =
    let right = judged_ok (type_fault made) (typed_of made) o (sym h) in
    subst AskForFew right.1 (few_typed made (few_of_expansion t made e))
