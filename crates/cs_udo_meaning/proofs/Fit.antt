-- Expanded instruments call no `zakinit`, and each instrument number belongs to one instrument.
use Rattle.std.proofs.Common.{arith, ◌≡◌, ◌≢◌, ℕ, ◌+◌, eqb, Bool, true, false, if◌then◌else◌, nat_lt, List, ◌∷◌, ◌++◌}
use Rattle.std.proofs.Common.{map, [], Option, Some, None, Ok, refl, sym, ap, subst, ◌∙◌}
use Rattle.std.proofs.lemmas.{Grind.common_steps, Bool.eq-eqb, Bool.eqb-true, Map.Made.IsDistinct-from_AllPairs}
use Rattle.std.specs.List.{All, IsDistinct, flat_map}
use Rattle.std.proofs.lemmas.List.Elements.{All-cons, All-nil, All-head, All-tail}
use Rattle.cs_grammar.specs.{declared.scope.Place.Place, declared.tree.Callee.Callee}
use Rattle.cs_grammar.specs.Tree.{Argument, value, Statement, set, call, choose, Block, no_stmt, andthen, joins, Arms}
use Rattle.cs_grammar.specs.Tree.{otherwise, arm, Definition, Instrument, Orchestra}
use Rattle.cs_grammar.specs.WellFormed.{MayCall, WellFormedStmt, WellFormedBlock, WellFormedArms, WellFormedInstrument}
use Rattle.cs_grammar.specs.WellFormed.{WellFormedDefinition, IsWellFormed, all_numbers}
use Rattle.cs_typing.proofs.NumbersOnce.{numbers_kept}
use Rattle.cs_udo.specs.{Names.as_it_is, Names.in_frame, Expanding.expanding}
use Rattle.cs_udo.specs.Expanded.{Template, Opcodes, no_opcodes, defined, assignments, called, after_block}
use Rattle.cs_udo.specs.Expanded.{expanded, expanded_block, expanded_arms, whole_body, template, defining, defining_all}
use Rattle.cs_udo.specs.Expanded.{before, opcodes_before, expanded_instrument, expanded_orchestra}
use Rattle.cs_udo.proofs.EachDefined.{Of, OfEach, of_called, of_none, one_more}
use Rattle.cs_typing.specs.{Calls.typed_call, Known.KnownHere, Typing.typed_of, Typing.before as before_line}
use Rattle.cs_typing.specs.Statements.{known, known_block, typed_statement, typed_block, typed_arms}
use Rattle.cs_typing.specs.Typing.{alone, body, items, from, entered, known_item, first_known, typed_instruments}
use Rattle.cs_typed.specs.WellRated.{HasNoZakinit, BlockHasNoZakinit, ArmsHaveNoZakinit}
use Rattle.cs_words.specs.declared.catalogue.Opcode.TheVariants as op
use Rattle.cs_grammar.specs.declared.scope.Place.TheVariants as place
use Rattle.cs_grammar.specs.declared.tree.Callee.TheVariants as callee
use Rattle.cs_typed.specs.TypedTree as typed

-- ---- statements that call no `zakinit`

abbrev mutual
  pub Calm : Statement → Type 0
  Calm (set line x e) = Unit {0}
  Calm (call line xs c args) = c ≢ callee.Opcode op.Zakinit
  Calm (choose line list) = CalmArms list

  pub CalmBlock : Block → Type 0
  CalmBlock no_stmt = Unit {0}
  CalmBlock (andthen x rest) = Calm x × CalmBlock rest

  pub CalmArms : Arms → Type 0
  CalmArms (otherwise b) = CalmBlock b
  CalmArms (arm c b rest) = CalmBlock b × CalmArms rest

calm_joins : (a b : Block) → CalmBlock a → CalmBlock b → CalmBlock (joins a b)
calm_joins no_stmt b h k = k
calm_joins (andthen x rest) b h k = (h.0, calm_joins rest b h.1 k)

calm_assignments : (line : ℕ) (xs : List (List ℕ)) (args : List Argument) → CalmBlock (assignments line xs args)
calm_assignments line (x ∷ xs) (value e ∷ args) = (tt, calm_assignments line xs args)
calm_assignments line _ _ = tt

-- ---- well-formed statements

calm_call : (p : Place) (own : List ℕ) (c : Callee) → p ≢ place.Outside → MayCall p own c → c ≢ callee.Opcode op.Zakinit
calm_call place.Outside own c inner h = absurd (inner refl)
calm_call place.Instrument own c inner h = h
calm_call place.Definition own c inner h = h.0

module _ (p : Place) (own : List ℕ) (inner : p ≢ place.Outside) where
  mutual
    calm : (depth : ℕ) (x : Statement) → WellFormedStmt p own depth x → Calm x
    calm depth (set line x e) h = tt
    calm depth (call line xs c args) h = calm_call p own c inner h.1.1
    calm depth (choose line list) h = calm_arms (depth + 1) list h.1

    calm_block : (depth : ℕ) (b : Block) → WellFormedBlock p own depth b → CalmBlock b
    calm_block depth no_stmt h = tt
    calm_block depth (andthen x rest) h = (calm depth x h.0, calm_block depth rest h.1)

    calm_arms : (depth : ℕ) (list : Arms) → WellFormedArms p own depth list → CalmArms list
    calm_arms depth (otherwise b) h = calm_block depth b h
    calm_arms depth (arm c b rest) h = (calm_block depth b h.1, calm_arms depth rest h.2)

-- ---- their expansion

abbrev AlwaysCalm : Template → Type 0
AlwaysCalm t = (f : ℕ) → CalmBlock (t.block f)

abbrev AllCalm : Opcodes → Type 0
AllCalm opcodes = OfEach AlwaysCalm opcodes

calm_called : (own : List ℕ → List ℕ) (f line : ℕ) (xs : List (List ℕ)) (c : Callee) (args : List Argument)
    (found : Option Template)
    → c ≢ callee.Opcode op.Zakinit → Of AlwaysCalm found → CalmBlock (called own f line xs c args found)
calm_called own f line xs c args None h k = (h, tt)
calm_called own f line xs c args (Some t) h k = grind (arith, common_steps, calm_assignments, calm_joins)

mutual
  calm_expanded : (opcodes : Opcodes) → AllCalm opcodes → (own : List ℕ → List ℕ) (f : ℕ) (x : Statement) → Calm x
      → CalmBlock (expanded opcodes own f x)
  calm_expanded opcodes k own f (set line x e) h = (tt, tt)
  calm_expanded opcodes k own f (call line xs c args) h =
      calm_called own f line xs c args (defined opcodes c) h (of_called AlwaysCalm opcodes k c)
  calm_expanded opcodes k own f (choose line list) h = (calm_expanded_arms opcodes k own f list h, tt)

  calm_expanded_block : (opcodes : Opcodes) → AllCalm opcodes → (own : List ℕ → List ℕ) (f : ℕ) (b : Block)
      → CalmBlock b → CalmBlock (expanded_block opcodes own f b)
  calm_expanded_block opcodes k own f no_stmt h = tt
  calm_expanded_block opcodes k own f (andthen x rest) h =
      calm_joins _ _ (calm_expanded opcodes k own f x h.0) (calm_expanded_block opcodes k own _ rest h.1)

  calm_expanded_arms : (opcodes : Opcodes) → AllCalm opcodes → (own : List ℕ → List ℕ) (f : ℕ) (list : Arms)
      → CalmArms list → CalmArms (expanded_arms opcodes own f list)
  calm_expanded_arms opcodes k own f (otherwise b) h = calm_expanded_block opcodes k own f b h
  calm_expanded_arms opcodes k own f (arm c b rest) h =
      (calm_expanded_block opcodes k own f b h.0, calm_expanded_arms opcodes k own (after_block opcodes f b) rest h.1)

calm_whole : (d : Definition) → WellFormedDefinition d → CalmBlock (whole_body d)
calm_whole d h = calm_joins _ _ (calm_block _ _ (λ e. absurd (cc e)) _ _ h.body) (calm_assignments _ _ _)

calm_before : (opcodes : Opcodes) → AllCalm opcodes → (line : ℕ) (ds : List Definition) → All WellFormedDefinition ds
    → AllCalm (defining_all opcodes (before line ds))
calm_before opcodes k line [] h = k
calm_before opcodes k line (d ∷ ds) h =
    by (nat_lt d.line line) (calm_before (defining opcodes d)
    (one_more AlwaysCalm template opcodes k d (λ f. calm_expanded_block opcodes k (in_frame f) (f + 1) (whole_body d)
    (calm_whole d (All-head WellFormedDefinition d ds h)))) line ds (All-tail WellFormedDefinition d ds h))
  where
    by : (b : Bool) → AllCalm (defining_all (defining opcodes d) (before line ds))
        → AllCalm (defining_all opcodes (if b then d ∷ before line ds else []))
    by true rest = rest
    by false rest = k

calm_instruments : (ds : List Definition) → All WellFormedDefinition ds → (list : List Instrument)
    → All WellFormedInstrument list → All (λ (i : Instrument). CalmBlock i.body) (map (expanded_instrument ds) list)
calm_instruments ds k [] h = All-nil (λ (i : Instrument). CalmBlock i.body)
calm_instruments ds k (i ∷ rest) h =
    All-cons (λ (x : Instrument). CalmBlock x.body) (expanded_instrument ds i) (map (expanded_instrument ds) rest)
    (calm_expanded_block (opcodes_before i.line ds) (calm_before no_opcodes (of_none AlwaysCalm) i.line ds k) as_it_is 1
    i.body (calm_block place.Instrument [] (λ e. absurd (cc e)) 0 i.body (All-head WellFormedInstrument i rest h).body))
    (calm_instruments ds k rest (All-tail WellFormedInstrument i rest h))

-- ---- their typed form

call_lacks : (line : ℕ) (n : KnownHere) (c : Callee) (results : List (List ℕ)) (args : List Argument)
    → c ≢ callee.Opcode op.Zakinit → HasNoZakinit (typed_call line n c results args)
call_lacks line n (callee.Name name) results args h = tt
call_lacks line n (callee.Opcode o) results args h = λ e. h (ap callee.Opcode e)

mutual
  stmt_lacks : (n : KnownHere) (x : Statement) → Calm x → HasNoZakinit (typed_statement n x)
  stmt_lacks n (set line name e) h = tt
  stmt_lacks n (call line results c args) h = call_lacks line n c results args h
  stmt_lacks n (choose line list) h = arms_lack n list h

  block_lacks : (n : KnownHere) (b : Block) → CalmBlock b → BlockHasNoZakinit (typed_block n b)
  block_lacks n no_stmt h = tt
  block_lacks n (andthen x rest) h = (stmt_lacks n x h.0, block_lacks (known n x) rest h.1)

  arms_lack : (n : KnownHere) (list : Arms) → CalmArms list → ArmsHaveNoZakinit (typed_arms n list)
  arms_lack n (otherwise b) h = block_lacks n b h
  arms_lack n (arm c b rest) h = (block_lacks n b h.0, arms_lack (known_block n b) rest h.1)

instruments_lack : (n : KnownHere) (outside : Block) (list : List Instrument)
    → All (λ (i : Instrument). CalmBlock i.body) list
    → All (λ (i : typed.Instrument). BlockHasNoZakinit i.body) (typed_instruments n (items outside list))
instruments_lack n outside [] h = All-nil (λ (i : typed.Instrument). BlockHasNoZakinit i.body)
instruments_lack n outside (i ∷ rest) h =
    let m = known_item n (alone (before_line i.line outside)) in
    All-cons (λ (x : typed.Instrument). BlockHasNoZakinit x.body) _
    (typed_instruments (known_item m (body i)) (items (from i.line outside) rest))
    (block_lacks (entered m) i.body (All-head (λ (x : Instrument). CalmBlock x.body) i rest h))
    (instruments_lack (known_item m (body i)) (from i.line outside) rest
    (All-tail (λ (x : Instrument). CalmBlock x.body) i rest h))

-- ---- numbers

expanded_numbers : (ds : List Definition) (list : List Instrument)
    → all_numbers (map (expanded_instrument ds) list) ≡ all_numbers list
expanded_numbers ds [] = refl
expanded_numbers ds (i ∷ rest) = ap (λ ns. i.numbers ++ ns) (expanded_numbers ds rest)

-- ---- orchestras

pub expanded_is : (o made : Orchestra) → expanding o ≡ Ok made → made ≡ expanded_orchestra o
expanded_is o made h = grind (arith, common_steps)

pub expansion_lacks : (o p : Orchestra) → IsWellFormed o → expanding o ≡ Ok p
    → All (λ (i : typed.Instrument). BlockHasNoZakinit i.body) (typed_of p).instrs
expansion_lacks o p h e = grind (arith, common_steps, calm_instruments, expanded_is, instruments_lack)

pub expansion_once : (o p : Orchestra) → IsWellFormed o → expanding o ≡ Ok p
    → IsDistinct eqb (flat_map (λ (i : typed.Instrument). i.numbers) (typed_of p).instrs)
expansion_once o p h e =
    subst (λ (x : Orchestra). IsDistinct eqb (flat_map (λ (i : typed.Instrument). i.numbers) (typed_of x).instrs))
    (sym (expanded_is o p e)) (subst (IsDistinct eqb)
    (sym (numbers_kept (first_known (expanded_orchestra o)) o.zero (map (expanded_instrument o.opcodes) o.instrs)
    ∙ expanded_numbers o.opcodes o.instrs))
    (IsDistinct-from_AllPairs (λ a b. (eqb-true a b, eq-eqb a b)) (all_numbers o.instrs) h.numbers))
