-- An instrument of an expanded and typed orchestra has the meaning of the instrument with frames.
use Rattle.std.proofs.Common.{◌≡◌, ◌∙◌, ℕ, suc, ◌+◌, ◌≤◌, List, ◌∷◌, ◌++◌, map, Some, None, Ok, arith, refl, sym, ap}
use Rattle.std.proofs.Common.{[], subst, add-one}
use Rattle.std.specs.List.{All, AllZip, slice_get}
use Rattle.std.proofs.lemmas.Option.{slice_get-get_or}
use Rattle.cs_grammar.specs.Tree.{Definition, Instrument, Orchestra}
use Rattle.cs_grammar.specs.WellFormed.{WellFormedInstrument, IsWellFormed}
use Rattle.cs_typing.specs.{Known.Shared, Typing.type_fault, Typing.typed_of}
use Rattle.cs_base.specs.declared.spaces.Spaces.{Spaces}
use Rattle.cs_ir.specs.Worlds.{World}
use Rattle.cs_meaning.specs.Notes.{Note, Path, start, new_note, moved_to}
use Rattle.cs_meaning.specs.When.{When, cycle}
use Rattle.cs_udo.specs.Expanded.{no_opcodes, before, opcodes_before, expanded_instrument}
use Rattle.cs_udo.specs.Expanding.{expanding}
use Rattle.cs_udo_meaning.specs.Frames.{Framed, own_frame, new_framed, framed_in, Reading, no_actions, actions_before}
use Rattle.cs_udo_meaning.specs.Frames.{block_done, by_pass, frames_of_block, keepers_of_block, typed_keepers_of_block}
use Rattle.cs_udo_meaning.specs.Lives.{Cycle, goes_on, begins, performs, goes_on_framed, in_world, reading, MeansFrames}
use Rattle.cs_udo_meaning.specs.Numbered.{Numbering, Tells, numbered, block_by}
use Rattle.cs_udo_meaning.specs.Stands.{Fits, Way, IsClear, StandsForFrames}
use Rattle.cs_udo_meaning.specs.Typed.{shared_of, IsNumberedInstrument}
use Rattle.cs_udo_meaning.proofs.{Expanding.Texts, Expanding.block_stands, Fit.expanded_is, Led.read_still}
use Rattle.cs_udo_meaning.proofs.{Led.block_led, Led.opcodes_act, Numbers.spelled_tells, TypedBy.all_numbered}
use Rattle.cs_udo_meaning.proofs.{Untouched.all_lie, Untouched.frames_differ, Ways.block_sharp, Ways.block_kept}
use Rattle.cs_udo_meaning.proofs.Laid.{Holds, holds_from, LaysOn, lays_on}
use Rattle.cs_typing.proofs.Named.{NamedBlock, block_named}
use Rattle.cs_udo_meaning.proofs.Paths.{inward, outward_again, same_inward, one_place, each_of, all_of}
use Rattle.cs_udo_meaning.proofs.Ways.{Leads, nowhere, Reaches, Whole, AllPair, all_pair, nothing_pairs, block_leads}
use Rattle.cs_grammar.specs.declared.scope.Place.TheVariants as place
use Rattle.cs_typed.specs.TypedTree as typed
use Rattle.cs_meaning.specs.Core as core
use Rattle.cs_meaning.specs.Initialising as initial
use Rattle.cs_meaning.specs.Performing as performing

at_first : 1 ≤ 1
at_first = omega arith

named_in : (i : Instrument) → WellFormedInstrument i → NamedBlock (Fits 0) i.body
named_in i well = block_named (Fits 0) (λ x h e. h) place.Instrument [] 0 i.body well.body

-- the definitions before an instrument, in both texts
abbrev pairs_before : (W : Type 0) (line : ℕ) (ds : List Definition)
    → AllPair (opcodes_before line ds) (actions_before W line ds)
pairs_before W line ds = all_pair no_opcodes no_actions nothing_pairs (before line ds)

-- the paths of an instrument's calls, and the paths of its parts
abbrev calls_of : (W : Type 0) → List Definition → Instrument → List Path
calls_of W ds i = frames_of_block (actions_before W i.line ds) start.path i.body

abbrev leads_of : (W : Type 0) → List Definition → Instrument → Leads
leads_of W ds i =
    block_leads (opcodes_before i.line ds) (actions_before W i.line ds) (pairs_before W i.line ds) start.path i.body
    nowhere

abbrev way_of : (W : Type 0) → List Definition → Instrument → Way
way_of W ds i = record { frame = slice_get (own_frame ∷ calls_of W ds i); part = λ p. leads_of W ds i (inward p []) }

module _ (W : Type 0) (ds : List Definition) (i : Instrument) where
  way_clear : IsClear (way_of W ds i)
  way_clear = record {
    own = refl;
    frames = λ f g p e h. one_place (own_frame ∷ calls_of W ds i)
        (frames_differ (actions_before W i.line ds) (all_lie W (before i.line ds)) 0 [] i.body) f g p e h;
    parts = λ p q r e h. same_inward p q
        (block_sharp (opcodes_before i.line ds) (actions_before W i.line ds) (pairs_before W i.line ds) 0 []
        i.body (inward p []) (inward q []) r e h);
  }

  way_lays : LaysOn (way_of W ds i) start.path (leads_of W ds i)
  way_lays = lays_on (way_of W ds i) [] (leads_of W ds i) (λ y. ap (leads_of W ds i) (outward_again y))

  way_holds : Holds (way_of W ds i) 1 (calls_of W ds i)
  way_holds = holds_from (way_of W ds i) _ _ (λ k j e. ap (slice_get (own_frame ∷ calls_of W ds i)) (e ∙ add-one k))

  way_calls : All (λ p. (f : ℕ) × ((way_of W ds i).frame f ≡ Some p)) (calls_of W ds i)
  way_calls k d below = (suc k, slice_get-get_or (calls_of W ds i) k d below)

  -- each part that is reached is reached from a path of the expanded text
  from_path : (x : Path) → Reaches (leads_of W ds i) x → (p : Path) × ((way_of W ds i).part p ≡ Some x)
  from_path x r = (inward (r.part ∷ r.steps) [], ap (leads_of W ds i) (outward_again (r.part ∷ r.steps)) ∙ r.is)

  abbrev Led : Path → Type 0
  Led q = (y : Path) → (p : Path) × ((way_of W ds i).part p ≡ Some (y ++ q))

  way_parts : All Led (keepers_of_block (actions_before W i.line ds) start.path i.body)
  way_parts =
      let keepers = keepers_of_block (actions_before W i.line ds) start.path i.body in
      all_of _ _ (each_of (Whole (leads_of W ds i)) Led (λ q w y. from_path (y ++ q) (w y)) keepers
      (block_kept (opcodes_before i.line ds) _ (pairs_before _ i.line ds) start.path i.body nowhere).each)

  abbrev texts_of : (m : Reading W) → Tells m.number → (flat : Numbering) → Tells flat → Texts W
  texts_of m to flat tf = record {
    reading = m;
    flat = flat;
    flat_tells = tf;
    own_tells = to;
    way = way_of W ds i;
    clear = way_clear;
  }

  -- the parts of the expanded text that keep values, for any numbers of its names
  way_leads : (g : Shared) (flat : Numbering) → Tells flat
      → All (λ p. (y : Path) → (q : Path) × ((way_of W ds i).part (y ++ p) ≡ Some q))
      (typed_keepers_of_block start.path (block_by g (numbered g flat) (expanded_instrument ds i).body))
  way_leads g flat tf =
      let texts = texts_of (read_still g) spelled_tells _ tf in
      all_of (λ p. (y : Path) → (q : Path) × ((way_of W ds i).part (y ++ p) ≡ Some q)) _
      (block_led texts _ _ _ (opcodes_act _ (before i.line ds)) 0 1 at_first start start.path i.body nowhere way_lays)

abbrev stands_done : {W : Type 0} → When → World W → core.Block → Note W → Note W
stands_done w o b t = by_pass w (initial.init_block o start b t) (performing.perf_block o start b t)

module _ {W : Type 0} (ds : List Definition) (i : Instrument) (well : WellFormedInstrument i) (flat : Numbering)
    (tf : Tells flat) where
  abbrev Stand : Numbering → Note W → Framed W → Type 0
  Stand own t u = StandsForFrames (way_of W ds i) flat own t u

  expanded_does : (w : When) (m : Reading W) → Tells m.number → (t : Note W) (u : Framed W) → Stand m.number t u
      → Stand m.number (stands_done w m.world
      (core.core m.spaces (block_by m.shared (numbered m.shared flat) (expanded_instrument ds i).body)) t)
      (block_done m (actions_before W i.line ds) w own_frame start i.body u)
  expanded_does w m to t u stand =
      let texts = texts_of _ ds i _ to _ tf in
      block_stands texts _ _ _ (opcodes_act _ (before i.line ds)) _ _ refl _ _ at_first start start.path _ nowhere
      (way_lays W ds i) (way_holds W ds i) (named_in _ well) _ _ stand

moved_stands : {W : Type 0} (way : Way) (flat own : Numbering) (t : Note W) (u : Framed W) (x y : W)
    → StandsForFrames way flat own t u → x ≡ y → StandsForFrames way flat own (moved_to x t) (framed_in y u)
moved_stands way flat own t u x y h e = record { locals = h.locals; kept = h.kept; world = e }

new_stands : {W : Type 0} (way : Way) (flat own : Numbering) (x : W)
    → StandsForFrames way flat own (new_note x) (new_framed x)
new_stands way flat own x = record { locals = λ f p at y e fits. refl; kept = λ p q at. refl; world = refl }

cycles_alike : {W : Type 0} (way : Way) (m : Reading W) (ds : List Definition) (i : Instrument) (flat : Numbering)
    (body : core.Block) → ((o : World W) (t : Note W) (u : Framed W) → StandsForFrames way flat m.number t u
    → StandsForFrames way flat m.number (performing.perf_block o start body t) (performs (in_world o m) ds i u))
    → (cycles : List (Cycle W)) (t : Note W) (u : Framed W) → StandsForFrames way flat m.number t u
    → goes_on body cycles t ≡ goes_on_framed m ds i cycles u
cycles_alike way m ds i flat body step [] t u stand = ap (λ x. x ∷ []) stand.world
cycles_alike way m ds i flat body step (c ∷ more) t u stand =
    let moved = moved_stands _ _ _ _ _ _ _ stand (ap c.others stand.world) in
    λ j. stand.world j ∷ cycles_alike way m ds i flat body step more _ _
    (step c.world (moved_to (c.others t.world) t) (framed_in (c.others u.world) u) moved) j

pub instrument_means : (W : Type 0) (ds : List Definition) (g : Shared) (i : Instrument) (made : typed.Instrument)
    → WellFormedInstrument i → IsNumberedInstrument g (expanded_instrument ds i) made → MeansFrames W ds g i made
instrument_means W ds g i made well h = record {
  line = h.line;
  numbers = h.numbers;
  register = flat;
  apart = h.body.apart;
  way = way_of W ds i;
  clear = way_clear W ds i;
  calls = way_calls W ds i;
  parts = way_parts W ds i;
  leads = subst (λ (b : typed.Block). All (λ p. (y : Path) → (q : Path) × ((way_of W ds i).part (y ++ p) ≡ Some q))
      (typed_keepers_of_block start.path b)) (sym h.body.is) (way_leads W ds i g _ h.body.apart);
  begun = does _;
  performed = does _;
  lived = λ o spaces own to cycles x.
      cycles_alike (way_of W ds i) (reading o spaces g own) ds i flat (core.core spaces made.body)
      (λ w. does cycle w spaces own to) cycles (initial.init_block o start (core.core spaces made.body) (new_note x))
      (begins (reading o spaces g own) ds i (new_framed x)) (does _ _ _ _ to _ _ (new_stands _ _ _ _));
}
  where
    flat : Numbering
    flat = h.body.number

    does : (w : When) (o : World W) (spaces : Spaces) (own : Numbering) → Tells own → (t : Note W) (u : Framed W)
        → StandsForFrames (way_of W ds i) flat own t u
        → StandsForFrames (way_of W ds i) flat own (stands_done w o (core.core spaces made.body) t)
        (block_done (reading o spaces g own) (actions_before W i.line ds) w own_frame start i.body u)
    does w o spaces own to t u stand =
        subst (λ b. StandsForFrames (way_of W ds i) flat own (stands_done w o (core.core spaces b) t)
        (block_done (reading o spaces g own) (actions_before W i.line ds) w own_frame start i.body u)) (sym h.body.is)
        (expanded_does ds i well flat h.body.apart w (reading o spaces g own) to t u stand)

first_of : (i : Instrument) (list : List Instrument) → All WellFormedInstrument (i ∷ list) → WellFormedInstrument i
first_of i list h = h 0 i (omega arith)

others_of : (i : Instrument) (list : List Instrument) → All WellFormedInstrument (i ∷ list)
    → All WellFormedInstrument list
others_of i list h = λ k d below. h (suc k) d (omega (arith, below))

each_means : (W : Type 0) (ds : List Definition) (g : Shared) (list : List Instrument) (made : List typed.Instrument)
    → All WellFormedInstrument list
    → AllZip (IsNumberedInstrument g) (map (expanded_instrument ds) list) made → AllZip (MeansFrames W ds g) list made
each_means W ds g (i ∷ list) (t ∷ made) well h =
    (instrument_means W ds g i t (first_of i list well) h.0, each_means W ds g list made (others_of i list well) h.1)
each_means W ds g _ _ well h = h

pub calls_mean_frames : (W : Type 0) (o made : Orchestra) → IsWellFormed o → expanding o ≡ Ok made
    → type_fault made ≡ None → AllZip (MeansFrames W o.opcodes (shared_of made)) o.instrs (typed_of made).instrs
calls_mean_frames W o made well h right =
    each_means W o.opcodes (shared_of made) o.instrs (typed_of made).instrs well.instruments
    (subst (λ list. AllZip (IsNumberedInstrument (shared_of made)) list (typed_of made).instrs)
    (ap (λ z. z.instrs) (expanded_is o made h)) (all_numbered made right))
