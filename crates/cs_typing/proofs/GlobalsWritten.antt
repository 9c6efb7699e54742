-- The global variables that expanded statements assign are those that the statements as written assign.
use Rattle.std.proofs.Common.{◌≡◌, ◌∙◌, ◌++◌, ℕ, Bool, true, false, if◌then◌else◌, List, [], ◌∷◌, map, Option, Some}
use Rattle.std.proofs.Common.{None, ◌+◌, zero, suc, nat_lt, arith, refl, subst, sym, ap, take}
use Rattle.std.specs.List.{All, prefix_len}
use Rattle.std.proofs.lemmas.{List.append_assoc, List.Elements.All-head, List.Elements.All-tail}
use Rattle.cs_base.specs.declared.resource.Rate.{Rate}
use Rattle.cs_words.specs.Names.{is_global}
use Rattle.cs_grammar.specs.{declared.tree.Callee.Callee, Renaming.renamed_argument, WellFormed.WellFormedDefinition}
use Rattle.cs_grammar.specs.Tree.{Argument, value, text, Statement, set, call, choose, Block, no_stmt, andthen, joins}
use Rattle.cs_grammar.specs.Tree.{Arms, otherwise, arm, Definition, Instrument}
use Rattle.cs_udo.specs.Expanded.{Template, Opcodes, no_opcodes, defined, assignments, value_in, called, after}
use Rattle.cs_udo.specs.Expanded.{after_block, expanded, expanded_block, expanded_arms, template, whole_body, defining}
use Rattle.cs_udo.specs.Expanded.{defining_all, expanded_instrument, opcodes_before}
use Rattle.cs_udo.specs.{Library.opcodes_of, Names.as_it_is, Names.in_frame, Names.slots, Refused.faults_of_instruments}
use Rattle.cs_udo.proofs.{Places.opcodes_here, Plain.same_block, Fresh.slot_local}
use Rattle.cs_udo.specs.Refused.{call_faults, faults, faults_in, faults_in_arms, faults_of_definitions}
use Rattle.cs_typing.specs.{Known.RateNames, Known.added, Typing.globals_of_instruments}
use Rattle.cs_typing.specs.Typing.{given_global, given_globals, globals, globals_of_block, globals_of_arms}
use Rattle.cs_typing.specs.inner.Globals.{Givers, names_of, called_names, names_in, names_in_block, names_in_arms}
use Rattle.cs_typing.specs.inner.Globals.{names_given, with_giver, with_givers, givers_of, names_in_instruments}
use Rattle.cs_typing.proofs.BothDefined.{Both, both_more}
use Rattle.cs_typing.proofs.{RoutineCalls.ResultsFit, RoutineBlocks.call_fits, RoutineBlocks.no_first}
use Rattle.cs_typing.proofs.{RoutineLibrary.body_allowed, RoutineNames.frame_owns, RoutineOrchestra.none_called_block}
use Rattle.cs_typing.proofs.RoutineSlots.{AllLocal, inputs_local}
use Rattle.cs_grammar.specs.declared.tree.Callee.TheVariants as callee

-- ---- names, one after another

pub given_both : (t : RateNames) (xs ys : List (List ℕ))
    → given_globals t (xs ++ ys) ≡ given_globals (given_globals t xs) ys
given_both t [] ys = refl
given_both t (x ∷ xs) ys = given_both (given_global t x) xs ys

globals_joins : (t : RateNames) (a b : Block)
    → globals_of_block t (joins a b) ≡ globals_of_block (globals_of_block t a) b
globals_joins t no_stmt b = refl
globals_joins t (andthen x rest) b = globals_joins (globals t x) rest b

local_not_given : (t : RateNames) (x : List ℕ) → is_global x ≡ false → given_global t x ≡ t
local_not_given t x h = ap (λ b. if b then added t x else t) h

inputs_not_given : (t : RateNames) (line : ℕ) (xs : List (List ℕ)) (args : List Argument) → AllLocal xs
    → globals_of_block t (assignments line xs args) ≡ t
inputs_not_given t line (x ∷ xs) (value e ∷ args) h =
    ap (λ u. globals_of_block u (assignments line xs args)) (local_not_given t x h.0)
    ∙ inputs_not_given t line xs args h.1
inputs_not_given t line xs args h = refl

-- a renaming that keeps global names and maps local names to local names
pub record Keeps (own : List ℕ → List ℕ) : Type 0 where
  pub local : (x : List ℕ) → is_global (own x) ≡ is_global x
  pub shared : (x : List ℕ) → is_global x ≡ true → own x ≡ x

module _ {own : List ℕ → List ℕ} (o : Keeps own) where
  own_given : (t : RateNames) (x : List ℕ) → given_global t (own x) ≡ given_global t x
  own_given t x = by (is_global x) refl
    where
      by : (b : Bool) → is_global x ≡ b → given_global t (own x) ≡ given_global t x
      by true e = ap (given_global t) (o.shared x e)
      by false e = local_not_given t (own x) (o.local x ∙ e) ∙ sym (local_not_given t x e)

  all_own_given : (t : RateNames) (xs : List (List ℕ)) → given_globals t (map own xs) ≡ given_globals t xs
  all_own_given t [] = refl
  all_own_given t (x ∷ xs) =
      ap (λ u. given_globals u (map own xs)) (own_given t x) ∙ all_own_given (given_global t x) xs

  all_local : (xs : List (List ℕ)) → AllLocal xs → AllLocal (map own xs)
  all_local [] h = tt
  all_local (x ∷ xs) h = (o.local x ∙ h.0, all_local xs h.1)

  results_given : (t : RateNames) (line f : ℕ) (xs ys : List (List ℕ)) → ResultsFit xs ys
      → globals_of_block t (assignments line (map own xs) (map (value_in f) ys)) ≡ given_globals t xs
  results_given t line f [] [] h = refl
  results_given t line f [] (y ∷ ys) h = absurd h
  results_given t line f (x ∷ xs) [] h = absurd h
  results_given t line f (x ∷ xs) (y ∷ ys) h =
      ap (λ u. globals_of_block u (assignments line (map own xs) (map (value_in f) ys))) (own_given t x)
      ∙ results_given (given_global t x) line f xs ys h

-- ---- the called opcode

-- a user-defined opcode assigns these names, and its inputs are local
pub record Gives (t : Template) (xs : List (List ℕ)) : Type 0 where
  pub inputs : AllLocal t.inputs
  pub block : (g : RateNames) (f : ℕ) → globals_of_block g (t.block f) ≡ given_globals g xs

-- each of the opcodes assigns the names that are listed for it
abbrev pub AllGive : Opcodes → Givers → Type 0
AllGive opcodes givers = (name : List ℕ) → Both Gives (opcodes name) (givers name)

frame_keeps : (f : ℕ) → Keeps (in_frame f)
frame_keeps f = let o = frame_owns f (f + 1) (omega arith) in record { local = o.local; shared = o.shared }

call_given : {own : List ℕ → List ℕ} → Keeps own → (found : Option Template) (names : Option (List (List ℕ)))
    → Both Gives found names → (t : RateNames) (f line : ℕ) (xs : List (List ℕ)) (c : Callee) (args : List Argument)
    → call_faults true line xs args found ≡ []
    → globals_of_block t (called own f line xs c args found) ≡ given_globals t (names_of names ++ xs)
call_given o None None m t f line xs c args none = all_own_given o t xs
call_given o None (Some ys) m t f line xs c args none = absurd m
call_given o (Some d) None m t f line xs c args none = absurd m
call_given {own} o (Some d) (Some ys) m t f line xs c args none =
    let fits = call_fits line xs args d none in
    let first = assignments line (map (in_frame f) d.inputs) (map (renamed_argument own) args) in
    let last = assignments line (map own xs) (map (value_in f) d.results) in
    globals_joins t first (joins (d.block f) last) ∙ ap (λ u. globals_of_block u (joins (d.block f) last))
    (inputs_not_given t line (map (in_frame f) d.inputs) (map (renamed_argument own) args)
    (all_local (frame_keeps f) d.inputs m.inputs)) ∙ globals_joins t (d.block f) last
    ∙ ap (λ u. globals_of_block u last) (m.block t f) ∙ results_given o (given_globals t ys) line f xs d.results fits.1
    ∙ sym (given_both t ys xs)

module _ (opcodes : Opcodes) (givers : Givers) (m : AllGive opcodes givers) where
  callee_given : {own : List ℕ → List ℕ} → Keeps own → (t : RateNames) (f line : ℕ) (xs : List (List ℕ)) (c : Callee)
      (args : List Argument) → call_faults true line xs args (defined opcodes c) ≡ []
      → globals_of_block t (called own f line xs c args (defined opcodes c))
      ≡ given_globals t (called_names givers c ++ xs)
  callee_given o t f line xs (callee.Opcode n) args none = all_own_given o t xs
  callee_given o t f line xs (callee.Name name) args none =
      call_given o (opcodes name) (givers name) (m name) t f line xs (callee.Name name) args none

  mutual
    stmt_given : {own : List ℕ → List ℕ} → Keeps own → (t : RateNames) (f : ℕ) (x : Statement)
        → faults opcodes true x ≡ []
        → globals_of_block t (expanded opcodes own f x) ≡ given_globals t (names_in givers x)
    stmt_given o t f (set line x e) none = own_given o t x
    stmt_given o t f (call line xs c args) none = callee_given o t f line xs c args none
    stmt_given o t f (choose line list) none = arms_given o t f list none

    pub block_given : {own : List ℕ → List ℕ} → Keeps own → (t : RateNames) (f : ℕ) (b : Block)
        → faults_in opcodes true b ≡ []
        → globals_of_block t (expanded_block opcodes own f b) ≡ given_globals t (names_in_block givers b)
    block_given o t f no_stmt none = refl
    block_given {own} o t f (andthen x rest) none =
        let parts = no_first (faults opcodes true x) (faults_in opcodes true rest) none in
        let g = after opcodes f x in
        globals_joins t (expanded opcodes own f x) (expanded_block opcodes own g rest)
        ∙ ap (λ u. globals_of_block u (expanded_block opcodes own g rest)) (stmt_given o t f x parts.0)
        ∙ block_given o (given_globals t (names_in givers x)) g rest parts.1
        ∙ sym (given_both t (names_in givers x) (names_in_block givers rest))

    arms_given : {own : List ℕ → List ℕ} → Keeps own → (t : RateNames) (f : ℕ) (list : Arms)
        → faults_in_arms opcodes true list ≡ []
        → globals_of_arms t (expanded_arms opcodes own f list) ≡ given_globals t (names_in_arms givers list)
    arms_given o t f (otherwise b) none = block_given o t f b none
    arms_given {own} o t f (arm c b rest) none =
        let parts = no_first (faults_in opcodes true b) (faults_in_arms opcodes true rest) none in
        let g = after_block opcodes f b in
        ap (λ u. globals_of_arms u (expanded_arms opcodes own g rest)) (block_given o t f b parts.0)
        ∙ arms_given o (given_globals t (names_in_block givers b)) g rest parts.1
        ∙ sym (given_both t (names_in_block givers b) (names_in_arms givers rest))

-- ---- the names that definitions assign

names_joins : (givers : Givers) (a b : Block)
    → names_in_block givers (joins a b) ≡ names_in_block givers a ++ names_in_block givers b
names_joins givers no_stmt b = refl
names_joins givers (andthen x rest) b =
    ap (λ r. names_in givers x ++ r) (names_joins givers rest b)
    ∙ sym (append_assoc (names_in givers x) (names_in_block givers rest) (names_in_block givers b))

assigned_local : (givers : Givers) (line : ℕ) (xs : List (List ℕ)) (args : List Argument) → AllLocal xs
    → AllLocal (names_in_block givers (assignments line xs args))
assigned_local givers line [] args h = tt
assigned_local givers line (x ∷ xs) [] h = tt
assigned_local givers line (x ∷ xs) (text v ∷ args) h = tt
assigned_local givers line (x ∷ xs) (value e ∷ args) h = (h.0, assigned_local givers line xs args h.1)

local_not_given_all : (t : RateNames) (xs : List (List ℕ)) → AllLocal xs → given_globals t xs ≡ t
local_not_given_all t [] h = refl
local_not_given_all t (x ∷ xs) h =
    ap (λ u. given_globals u xs) (local_not_given t x h.0) ∙ local_not_given_all t xs h.1

slots_local : (n : ℕ) (rs : List Rate) → AllLocal (slots n rs)
slots_local n [] = tt
slots_local n (r ∷ rs) = (slot_local n r, slots_local (n + 1) rs)

-- a body with its slot assignments assigns the names of its statements, and slots
whole_given : (givers : Givers) (d : Definition) (t : RateNames)
    → given_globals t (names_in_block givers (whole_body d)) ≡ given_globals t (names_in_block givers d.body)
whole_given givers d t =
    let last = assignments d.line (slots 0 d.outs) d.result in
    ap (given_globals t) (names_joins givers d.body last)
    ∙ given_both t (names_in_block givers d.body) (names_in_block givers last)
    ∙ local_not_given_all (given_globals t (names_in_block givers d.body)) (names_in_block givers last)
    (assigned_local givers d.line (slots 0 d.outs) d.result (slots_local 0 d.outs))

gives_of : (opcodes : Opcodes) (givers : Givers) → AllGive opcodes givers → (d : Definition) → AllLocal d.names
    → faults_in opcodes true d.body ≡ [] → Gives (template opcodes d) (names_in_block givers d.body)
gives_of opcodes givers m d local none = record {
  inputs = local;
  block = λ g f. block_given opcodes givers m (frame_keeps f) g (f + 1) (whole_body d)
      (body_allowed opcodes d none) ∙ whole_given givers d g;
}

give_more : (opcodes : Opcodes) (givers : Givers) → AllGive opcodes givers → (d : Definition) → AllLocal d.names
    → faults_in opcodes true d.body ≡ [] → AllGive (defining opcodes d) (with_giver givers d)
give_more opcodes givers m d local none =
    both_more Gives template names_given opcodes givers m d (gives_of opcodes givers m d local none)

-- the inputs of each definition are local
abbrev pub AllLocalInputs : List Definition → Type 0
AllLocalInputs [] = Unit {0}
AllLocalInputs (d ∷ ds) = AllLocal d.names × AllLocalInputs ds

pub all_local_inputs : (ds : List Definition) → All WellFormedDefinition ds → AllLocalInputs ds
all_local_inputs [] h = tt
all_local_inputs (d ∷ ds) h = (
  inputs_local d.names (All-head WellFormedDefinition d ds h).local,
  all_local_inputs ds (All-tail WellFormedDefinition d ds h),
)

-- any number of the first definitions
give_first : (opcodes : Opcodes) (givers : Givers) → AllGive opcodes givers → (ds : List Definition) (n : ℕ)
    → AllLocalInputs ds → faults_of_definitions opcodes ds ≡ []
    → AllGive (defining_all opcodes (take n ds)) (with_givers givers (take n ds))
give_first opcodes givers m [] zero local none = m
give_first opcodes givers m [] (suc n) local none = m
give_first opcodes givers m (d ∷ ds) zero local none = m
give_first opcodes givers m (d ∷ ds) (suc n) local none =
    let parts = no_first (faults_in opcodes true d.body) (faults_of_definitions (defining opcodes d) ds) none in
    give_first (defining opcodes d) (with_giver givers d) (give_more opcodes givers m d local.0 parts.0) ds n local.1
    parts.1

pub all_give : (ds : List Definition) (n : ℕ) → AllLocalInputs ds → faults_of_definitions no_opcodes ds ≡ []
    → AllGive (opcodes_of ds n) (givers_of ds n)
all_give ds n local none = give_first no_opcodes (λ name. None) (λ name. tt) ds n local none

-- ---- the entire orchestra

plain_keeps : Keeps as_it_is
plain_keeps = record { local = λ x. refl; shared = λ x h. refl }

pub plain_block_given : (t : RateNames) (b : Block)
    → globals_of_block t b ≡ given_globals t (names_in_block (λ name. None) b)
plain_block_given t b =
    sym (ap (globals_of_block t) (same_block 1 b))
    ∙ block_given no_opcodes (λ name. None) (λ name. tt) plain_keeps t 1 b (none_called_block b)

-- an instrument, with the definitions before it
instrument_given : (ds : List Definition) → AllLocalInputs ds → faults_of_definitions no_opcodes ds ≡ []
    → (t : RateNames) (i : Instrument) → faults_in (opcodes_before i.line ds) true i.body ≡ []
    → globals_of_block t (expanded_block (opcodes_before i.line ds) as_it_is 1 i.body)
    ≡ given_globals t (names_in_block (givers_of ds (prefix_len (λ d. nat_lt d.line i.line) ds)) i.body)
instrument_given ds local fine t i none =
    let n = prefix_len (λ d. nat_lt d.line i.line) ds in
    let same : opcodes_of ds n ≡ opcodes_before i.line ds = opcodes_here i.line ds n refl in
    subst
    (λ (opcodes : Opcodes). faults_in opcodes true i.body ≡ []
    → globals_of_block t (expanded_block opcodes as_it_is 1 i.body)
    ≡ given_globals t (names_in_block (givers_of ds n) i.body)) same
    (λ h. block_given (opcodes_of ds n) (givers_of ds n) (all_give ds n local fine) plain_keeps t 1 i.body h) none

pub instruments_given : (ds : List Definition) → AllLocalInputs ds → faults_of_definitions no_opcodes ds ≡ []
    → (t : RateNames) (list : List Instrument) → faults_of_instruments ds list ≡ []
    → globals_of_instruments t (map (expanded_instrument ds) list) ≡ given_globals t (names_in_instruments ds list)
instruments_given ds local fine t [] none = refl
instruments_given ds local fine t (i ∷ list) none =
    let parts = no_first (faults_in (opcodes_before i.line ds) true i.body) (faults_of_instruments ds list) none in
    let names = names_in_block (givers_of ds (prefix_len (λ d. nat_lt d.line i.line) ds)) i.body in
    ap (λ u. globals_of_instruments u (map (expanded_instrument ds) list)) (instrument_given ds local fine t i parts.0)
    ∙ instruments_given ds local fine (given_globals t names) list parts.1
    ∙ sym (given_both t names (names_in_instruments ds list))
