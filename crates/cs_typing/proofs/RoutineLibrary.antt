-- Definitions and instruments: routines agree with the typed expansions.
use Rattle.std.proofs.Common.{◌≡◌, ◌∙◌, ℕ, ◌+◌, ◌≤◌, ◌<◌, Bool, true, false, if◌then◌else◌, List, [], ◌∷◌, ◌++◌, nat_lt}
use Rattle.std.proofs.Common.{append_assoc, arith, refl, sym, ap}
use Rattle.cs_base.specs.declared.resource.Rate.{Rate}
use Rattle.cs_words.specs.{NameSets.has, Names.name_rate}
use Rattle.cs_grammar.specs.WellFormed.{HasNoStop}
use Rattle.cs_grammar.specs.Tree.{Argument, value, Block, no_stmt, andthen, joins, Definition, Instrument}
use Rattle.cs_typed.specs.TypedTree.{no_counts}
use Rattle.cs_udo.specs.Expanded.{Opcodes, no_opcodes, assignments, after_block, whole_body, template}
use Rattle.cs_udo.specs.Expanded.{defining, defining_all, before, opcodes_before, expanded_instrument}
use Rattle.cs_udo.specs.Names.{fresh, in_frame, as_it_is, slots}
use Rattle.cs_udo.specs.Refused.{faults, faults_in, faults_of_definitions}
use Rattle.cs_udo.proofs.Fresh.{framed_fresh}
use Rattle.cs_typing.specs.Known.{no_names, of_rate, Shared, KnownHere, known_with}
use Rattle.cs_typing.specs.{Typing.entered, inner.Routines.routines_before}
use Rattle.cs_typing.specs.inner.Routines.{no_locals, known_in, Routines, no_routines, known_after_block}
use Rattle.cs_typing.specs.inner.Routines.{block_fault_in, typed_block_in, routine_of, with_routine, with_routines}
use Rattle.cs_typing.proofs.{BothDefined.both_more, Named.NamedBlock, Named.any_block, RoutineBlocks.Stranger}
use Rattle.cs_typing.proofs.RoutineBlocks.{AllMatch, no_first, block_grows, block_untouched, block_meets}
use Rattle.cs_typing.proofs.RoutineCalls.{Matches, Meets}
use Rattle.cs_typing.proofs.RoutineNames.{Any, any, as_it_is_owns, frame_owns, Mirrors}
use Rattle.cs_base.specs.declared.resource.Rate.TheVariants as rate

-- ---- a definition

faults_joins : (opcodes : Opcodes) (a b : Block)
    → faults_in opcodes true (joins a b) ≡ faults_in opcodes true a ++ faults_in opcodes true b
faults_joins opcodes no_stmt b = refl
faults_joins opcodes (andthen x rest) b =
    ap (λ l. faults opcodes true x ++ l) (faults_joins opcodes rest b)
    ∙ sym (append_assoc (faults opcodes true x) (faults_in opcodes true rest) (faults_in opcodes true b))

values_allowed : (opcodes : Opcodes) (line : ℕ) (xs : List (List ℕ)) (args : List Argument)
    → faults_in opcodes true (assignments line xs args) ≡ []
values_allowed opcodes line (x ∷ xs) (value e ∷ args) = values_allowed opcodes line xs args
values_allowed opcodes line xs args = refl

pub body_allowed : (opcodes : Opcodes) (d : Definition) → faults_in opcodes true d.body ≡ []
    → faults_in opcodes true (whole_body d) ≡ []
body_allowed opcodes d none =
    let last = assignments d.line (slots 0 d.outs) d.result in
    faults_joins opcodes d.body last ∙ λ i. none i ++ values_allowed opcodes d.line (slots 0 d.outs) d.result i

from_next : (f g : ℕ) → f + 1 ≤ g → f < g
from_next f g le = omega (arith, le)

frame_stranger : (f : ℕ) (y : List ℕ) → ((x : List ℕ) (g : ℕ) → f ≤ g → y ≡ fresh g x → ⊥)
    → Stranger Any (in_frame f) (f + 1) y
frame_stranger f y h = record {
  names = λ x p e same. h x f (omega arith) (same ∙ framed_fresh f x e);
  frames = λ x g le same. h x g (below g le) same;
}
  where
    below : (g : ℕ) → f + 1 ≤ g → f ≤ g
    below g le = omega (arith, le)

pub definition_matches : (opcodes : Opcodes) (rs : Routines) → AllMatch opcodes rs → (d : Definition)
    → faults_in opcodes true d.body ≡ [] → Matches (template opcodes d) (routine_of rs d)
definition_matches opcodes rs m d none =
    let b = whole_body d in
    let named = any_block Any any b in
    let allowed_calls = body_allowed opcodes d none in
    let first = (routine_of rs d).first in
    record {
      inputs = refl;
      results = refl;
      first = refl;
      grows = λ f. from_next f ((template opcodes d).after f) (block_grows opcodes rs m (f + 1) b);
      untouched = λ n f y h.
          block_untouched opcodes rs m y (f + 1) (frame_owns f (f + 1) (omega arith)) (frame_stranger f y h) n b named;
      body = λ f base n g s.
          block_meets opcodes rs m base (f + 1) (frame_owns f (f + 1) (omega arith)) n (known_in g first) s b named
          allowed_calls;
    }

-- ---- definitions

one_match : (opcodes : Opcodes) (rs : Routines) → AllMatch opcodes rs → (d : Definition)
    → faults_in opcodes true d.body ≡ [] → AllMatch (defining opcodes d) (with_routine rs d)
one_match opcodes rs m d none =
    both_more Matches template routine_of opcodes rs m d (definition_matches opcodes rs m d none)

pub all_match : (opcodes : Opcodes) (rs : Routines) → AllMatch opcodes rs → (ds : List Definition)
    → faults_of_definitions opcodes ds ≡ [] → AllMatch (defining_all opcodes ds) (with_routines rs ds)
all_match opcodes rs m [] none = m
all_match opcodes rs m (d ∷ ds) none =
    let parts = no_first (faults_in opcodes true d.body) (faults_of_definitions (defining opcodes d) ds) none in
    all_match (defining opcodes d) (with_routine rs d) (one_match opcodes rs m d parts.0) ds parts.1

pub none_match : AllMatch no_opcodes no_routines
none_match name = tt

-- no call in the definitions before a line is refused
front_allowed : (opcodes : Opcodes) (line : ℕ) (ds : List Definition) → faults_of_definitions opcodes ds ≡ []
    → faults_of_definitions opcodes (before line ds) ≡ []
front_allowed opcodes line [] none = refl
front_allowed opcodes line (d ∷ ds) none =
    let parts = no_first (faults_in opcodes true d.body) (faults_of_definitions (defining opcodes d) ds) none in
    by parts.0 (front_allowed (defining opcodes d) line ds parts.1) (nat_lt d.line line)
  where
    by : faults_in opcodes true d.body ≡ [] → faults_of_definitions (defining opcodes d) (before line ds) ≡ []
        → (b : Bool) → faults_of_definitions opcodes (if b then d ∷ before line ds else []) ≡ []
    by first rest true = λ i. first i ++ rest i
    by first rest false = refl

pub before_match : (line : ℕ) (ds : List Definition) → faults_of_definitions no_opcodes ds ≡ []
    → AllMatch (opcodes_before line ds) (routines_before line ds)
before_match line ds none =
    all_match no_opcodes no_routines none_match (before line ds) (front_allowed no_opcodes line ds none)

-- ---- an instrument

none_has : (r : Rate) (x : List ℕ) → has (of_rate r no_names) x ≡ false
none_has rate.Init x = refl
none_has rate.Control x = refl
none_has rate.Audio x = refl

-- a body begins without variables
pub body_begins : (h g : Shared) → h ≡ g
    → Mirrors HasNoStop as_it_is 1 no_counts (known_with h no_names) (known_in g no_locals)
body_begins h g e = record {
  sees = record {
    shared = e;
    has = λ x p i. none_has (name_rate x) x;
    place = λ x p i there. absurd (cc there);
  };
  counts = refl;
  free = λ j x le. none_has (name_rate (fresh j x)) (fresh j x);
}

pub instrument_meets : (ds : List Definition) (i : Instrument) (n : KnownHere) (g : Shared) → n.shared ≡ g
    → faults_of_definitions no_opcodes ds ≡ [] → faults_in (opcodes_before i.line ds) true i.body ≡ []
    → NamedBlock HasNoStop i.body
    → Meets HasNoStop as_it_is (after_block (opcodes_before i.line ds) 1 i.body) no_counts (entered n)
    (expanded_instrument ds i).body (known_after_block (routines_before i.line ds) (known_in g no_locals) i.body)
    (λ q. block_fault_in q (routines_before i.line ds) (known_in g no_locals) i.body)
    (typed_block_in (routines_before i.line ds) (known_in g no_locals) i.body)
instrument_meets ds i n g e sound allowed named =
    block_meets (opcodes_before i.line ds) (routines_before i.line ds) (before_match i.line ds sound) no_counts 1
    (as_it_is_owns 1) (entered n) (known_in g no_locals) (body_begins n.shared g e) i.body named allowed
