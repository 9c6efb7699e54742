-- An orchestra as written and its expansion: they break the same rule first, and have the same typed form.
use Rattle.std.proofs.Common.{◌≡◌, ◌∙◌, ℕ, List, [], ◌∷◌, ◌++◌, map, nat_lt, Bool, true, false, if◌then◌else◌}
use Rattle.std.proofs.Common.{append_assoc, Option, Some, None, refl, sym, ap, subst}
use Rattle.std.specs.{List.All, Option.option_or}
use Rattle.std.proofs.lemmas.{List.append-nil, List.Elements.All-head, List.Elements.All-tail}
use Rattle.cs_base.proofs.Tests.{both_none}
use Rattle.cs_base.specs.declared.fault.OrcFault.{OrcFault}
use Rattle.cs_grammar.specs.WellFormed.{HasNoStop, WellFormedInstrument, IsWellFormed}
use Rattle.cs_grammar.specs.Tree.{Statement, set, call, choose, Block, no_stmt, andthen, Arms, otherwise, arm}
use Rattle.cs_grammar.specs.Tree.{Definition, Instrument, Orchestra}
use Rattle.cs_typed.specs.{Places.outside, Places.inside, TypedTree.no_counts, TypedTree.then_block}
use Rattle.cs_typed.proofs.Moved.{block_stays, then_again}
use Rattle.cs_udo.specs.Expanded.{no_opcodes, after, after_block, after_arms, expanded_instrument, expanded_orchestra}
use Rattle.cs_udo.specs.{Expanded.opcodes_before, Names.as_it_is}
use Rattle.cs_udo.specs.Refused.{faults, faults_in, faults_in_arms, faults_outside, faults_of_definitions}
use Rattle.cs_udo.specs.Refused.{faults_of_instruments, all_faults, uppermost, uppermost_of, first_fault}
use Rattle.cs_udo.proofs.Plain.{same_block}
use Rattle.cs_typing.specs.{Known.KnownHere, Typing.typed_of, inner.Parts.typed_by, inner.Settled.told}
use Rattle.cs_typing.specs.Settings.{header, settings_fault, zaks_of_block, zak_spaces}
use Rattle.cs_typing.specs.Statements.{known_block, typed_block}
use Rattle.cs_typing.specs.Typing.{Item, alone, body, items, known_item, known_items, items_fault, line_of, before}
use Rattle.cs_typing.specs.Typing.{from, first_known, type_fault, typed_outside, typed_instruments, shared_names}
use Rattle.cs_typing.specs.inner.Parts.{known_behind, known_behind_all, part_fault, parts_fault, instrument_in}
use Rattle.cs_typing.specs.inner.Parts.{MadeParts, made_with, nothing, after_part, after_parts, begun, statements_fault}
use Rattle.cs_typing.specs.inner.Routines.{KnownInBody, no_routines, known_after_block, block_fault_in, typed_block_in}
use Rattle.cs_typing.proofs.{Joined.then_nothing, Named.NamedBlock, Named.block_named, RoutineCalls.Meets}
use Rattle.cs_typing.proofs.RoutineBlocks.{no_first, block_meets}
use Rattle.cs_typing.proofs.RoutineLibrary.{none_match, body_begins, instrument_meets}
use Rattle.cs_typing.proofs.RoutineNames.{as_it_is_owns, Mirrors}
use Rattle.cs_grammar.specs.declared.scope.Place.TheVariants as place
use Rattle.cs_grammar.specs.declared.tree.Callee.TheVariants as callee

-- ---- no user-defined opcode is called outside instruments

mutual
  none_called : (x : Statement) → faults no_opcodes true x ≡ []
  none_called (set line x e) = refl
  none_called (call line xs (callee.Opcode o) args) = refl
  none_called (call line xs (callee.Name name) args) = refl
  none_called (choose line list) = none_called_arms list

  pub none_called_block : (b : Block) → faults_in no_opcodes true b ≡ []
  none_called_block no_stmt = refl
  none_called_block (andthen x rest) = λ i. none_called x i ++ none_called_block rest i

  none_called_arms : (list : Arms) → faults_in_arms no_opcodes true list ≡ []
  none_called_arms (otherwise b) = none_called_block b
  none_called_arms (arm c b rest) = λ i. none_called_block b i ++ none_called_arms rest i

-- the names known outside instruments, in the text and in the expansion
abbrev pub Stands : KnownHere → KnownInBody → Type 0
Stands n k = Mirrors HasNoStop as_it_is 1 no_counts n k

mutual
  no_frame_stmt : (f : ℕ) (x : Statement) → after no_opcodes f x ≡ f
  no_frame_stmt f (set line x e) = refl
  no_frame_stmt f (call line xs (callee.Opcode o) args) = refl
  no_frame_stmt f (call line xs (callee.Name name) args) = refl
  no_frame_stmt f (choose line list) = no_frame_arms f list

  no_frame : (f : ℕ) (b : Block) → after_block no_opcodes f b ≡ f
  no_frame f no_stmt = refl
  no_frame f (andthen x rest) = ap (λ g. after_block no_opcodes g rest) (no_frame_stmt f x) ∙ no_frame f rest

  no_frame_arms : (f : ℕ) (list : Arms) → after_arms no_opcodes f list ≡ f
  no_frame_arms f (otherwise b) = no_frame f b
  no_frame_arms f (arm c b rest) =
      ap (λ g. after_arms no_opcodes g rest) (no_frame f b) ∙ no_frame_arms f rest

outside_meets : (n : KnownHere) (k : KnownInBody) → Stands n k → (b : Block) → NamedBlock HasNoStop b
    → Meets HasNoStop as_it_is 1 no_counts n b (known_after_block no_routines k b)
    (λ q. block_fault_in q no_routines k b) (typed_block_in no_routines k b)
outside_meets n k s b named =
    subst (λ g. Meets HasNoStop as_it_is g no_counts n b (known_after_block no_routines k b)
    (λ q. block_fault_in q no_routines k b) (typed_block_in no_routines k b)) (no_frame 1 b)
    (subst (λ x. Meets HasNoStop as_it_is (after_block no_opcodes 1 b) no_counts n x (known_after_block no_routines k b)
    (λ q. block_fault_in q no_routines k b) (typed_block_in no_routines k b)) (same_block 1 b)
    (block_meets no_opcodes no_routines none_match no_counts 1 (as_it_is_owns 1) n k s b named (none_called_block b)))

-- ---- statements before a line and from it on

front_named : (P : List ℕ → Type 0) (line : ℕ) (b : Block) → NamedBlock P b → NamedBlock P (before line b)
front_named P line no_stmt h = tt
front_named P line (andthen x rest) h = by (front_named P line rest h.1) (nat_lt (line_of x) line)
  where
    by : NamedBlock P (before line rest) → (c : Bool)
        → NamedBlock P (if c then andthen x (before line rest) else no_stmt)
    by more true = (h.0, more)
    by more false = tt

rest_named : (P : List ℕ → Type 0) (line : ℕ) (b : Block) → NamedBlock P b → NamedBlock P (from line b)
rest_named P line no_stmt h = tt
rest_named P line (andthen x rest) h = by (rest_named P line rest h.1) (nat_lt (line_of x) line)
  where
    by : NamedBlock P (from line rest) → (c : Bool) → NamedBlock P (if c then from line rest else andthen x rest)
    by more true = more
    by more false = h

-- ---- the parts

-- after the parts, the same names are known, the same rule is broken first, and the typed forms are the same
record PartsMeet (ds : List Definition) (ch : ℕ) (n : KnownHere) (k : KnownInBody) (stmts : Block)
    (is : List Instrument) : Type 0 where
  known : Stands (known_items n (items stmts (map (expanded_instrument ds) is)))
      (known_behind_all ds k (items stmts is))
  fault : items_fault ch n (items stmts (map (expanded_instrument ds) is)) ≡ parts_fault ch ds k (items stmts is)
  form : (m : MadeParts) → parts_fault ch ds k (items stmts is) ≡ None
      → made_with (then_block m.zero (typed_outside n (items stmts (map (expanded_instrument ds) is))))
      (m.instrs ++ typed_instruments n (items stmts (map (expanded_instrument ds) is)))
      ≡ after_parts ds k m (items stmts is)

module _ (ds : List Definition) (ch : ℕ) (sound : faults_of_definitions no_opcodes ds ≡ []) where
  -- an instrument of the text whose calls are not refused
  abbrev Fits : Instrument → Type 0
  Fits i = (faults_in (opcodes_before i.line ds) true i.body ≡ []) × NamedBlock HasNoStop i.body

  abbrev AllFit : List Instrument → Type 0
  AllFit [] = Unit {0}
  AllFit (i ∷ is) = Fits i × AllFit is

  abbrev expanded_parts : Block → List Instrument → List Item
  expanded_parts stmts is = items stmts (map (expanded_instrument ds) is)

  parts_meet : (n : KnownHere) (k : KnownInBody) → Stands n k → (stmts : Block) → NamedBlock HasNoStop stmts
      → (is : List Instrument) → AllFit is → PartsMeet ds ch n k stmts is
  parts_meet n k s stmts z [] h =
      let all = outside_meets n k s stmts z in
      record {
        known = all.known;
        fault = ap (λ f. option_or f None) (all.fault (outside ch));
        form = λ m none.
            let here = (both_none (part_fault ch ds k (alone stmts)) None none).0 in
            let form = then_nothing (typed_block n stmts) ∙ all.form (outside ch) here
            ∙ block_stays (typed_block_in no_routines k stmts) in
            λ j. made_with (then_block m.zero (form j)) (append-nil m.instrs j);
      }
  parts_meet n k s stmts z (i ∷ is) h =
      let front = before i.line stmts in
      let back = from i.line stmts in
      let n1 = known_block n front in
      let k1 = known_after_block no_routines k front in
      let out = outside_meets n k s front (front_named HasNoStop i.line stmts z) in
      let own = instrument_meets ds i n1 k1.shared out.known.sees.shared sound h.0.0 h.0.1 in
      let n2 = known_item n1 (body (expanded_instrument ds i)) in
      let k2 = known_behind ds k1 (body i) in
      let stands : Stands n2 k2 = record {
        sees = record {
          shared = own.known.sees.shared;
          has = out.known.sees.has;
          place = out.known.sees.place;
        };
        counts = out.known.counts;
        free = out.known.free;
      } in
      let more = parts_meet n2 k2 stands back (rest_named HasNoStop i.line stmts z) is h.1 in
      record {
        known = more.known;
        fault = λ j. option_or (out.fault (outside ch) j) (option_or (own.fault (inside ch) j) (more.fault j));
        form = λ m none.
            let rest = parts_fault ch ds k2 (items back is) in
            let parts = both_none (part_fault ch ds k (alone front)) (option_or (part_fault ch ds k1 (body i)) rest)
            none in
            let inner = both_none (part_fault ch ds k1 (body i)) rest parts.1 in
            let made = after_part ds k1 (after_part ds k m (alone front)) (body i) in
            let outer = typed_outside n2 (expanded_parts back is) in
            let instrs = typed_instruments n2 (expanded_parts back is) in
            let first = out.form (outside ch) parts.0 ∙ block_stays (typed_block_in no_routines k front) in
            let form = own.form (inside ch) inner.0 ∙ block_stays (instrument_in ds k1 i).body in
            (λ j. made_with (then_block m.zero (then_block (first j) outer))
            (m.instrs ++ record { line = i.line; numbers = i.numbers; body = form j } ∷ instrs))
            ∙ (λ j. made_with (sym (then_again m.zero (typed_block_in no_routines k front) outer) j)
            (sym (append_assoc m.instrs (instrument_in ds k1 i ∷ []) instrs) j)) ∙ more.form made inner.1;
      }

-- ---- the entire orchestra

pub no_uppermost : (fs : List OrcFault) → uppermost fs ≡ None → fs ≡ []
no_uppermost [] h = refl
no_uppermost (f ∷ fs) h = by (uppermost fs) h
  where
    by : (u : Option OrcFault) → uppermost_of (Some f) u ≡ None → f ∷ fs ≡ []
    by None k = absurd (cc k)
    by (Some g) k = absurd (cc k)

instruments_fit : (ds : List Definition) (is : List Instrument) → faults_of_instruments ds is ≡ []
    → All WellFormedInstrument is → (c : ℕ) (sound : faults_of_definitions no_opcodes ds ≡ []) → AllFit ds c sound is
instruments_fit ds [] none w c sound = tt
instruments_fit ds (i ∷ is) none w c sound =
    let parts = no_first (faults_in (opcodes_before i.line ds) true i.body) (faults_of_instruments ds is) none in
    let it = All-head WellFormedInstrument i is w in (
      (parts.0, block_named HasNoStop (λ x h. h) place.Instrument [] 0 i.body it.body),
      instruments_fit ds is parts.1 (All-tail WellFormedInstrument i is w) c sound,
    )

module _ (o : Orchestra) (well : IsWellFormed o) (allowed : first_fault o ≡ None) where
  none_refused : all_faults o ≡ []
  none_refused = no_uppermost (all_faults o) allowed

  parted : (faults_of_definitions no_opcodes o.opcodes ≡ []) × (faults_of_instruments o.opcodes o.instrs ≡ [])
  parted =
      no_first (faults_of_definitions no_opcodes o.opcodes) (faults_of_instruments o.opcodes o.instrs)
      (no_first (faults_outside o.opcodes o.zero)
      (faults_of_definitions no_opcodes o.opcodes ++ faults_of_instruments o.opcodes o.instrs) none_refused).1

  abbrev channels : ℕ
  channels = (header o.head).nchnls

  outside_named : NamedBlock HasNoStop o.zero
  outside_named = block_named HasNoStop (λ x h. h) place.Outside [] 0 o.zero well.outside

  fit : AllFit o.opcodes channels parted.0 o.instrs
  fit = instruments_fit o.opcodes o.instrs parted.1 well.instruments channels parted.0

  abbrev first : KnownHere
  first = first_known (expanded_orchestra o)

  meets : PartsMeet o.opcodes channels first (begun o) o.zero o.instrs
  meets = parts_meet o.opcodes channels parted.0 first (begun o) (body_begins first.shared first.shared refl) o.zero
      outside_named o.instrs fit

  -- LEMMA: the first rule that the expansion breaks
  pub orchestra_breaks : type_fault (expanded_orchestra o)
      ≡ option_or (settings_fault o.head o.zero) (statements_fault channels o)
  orchestra_breaks = ap (option_or (settings_fault o.head o.zero)) meets.fault

  -- LEMMA: its typed form
  pub orchestra_forms : statements_fault channels o ≡ None → typed_of (expanded_orchestra o)
      ≡ typed_by (told (header o.head) (zak_spaces (zaks_of_block o.zero))) o
  orchestra_forms none =
      let made = meets.form nothing none in
      λ i. record {
        head = header o.head;
        spaces = zak_spaces (zaks_of_block o.zero);
        zero = (made i).zero;
        instrs = (made i).instrs;
        globals = shared_names (meets.known.sees.shared i);
      }
