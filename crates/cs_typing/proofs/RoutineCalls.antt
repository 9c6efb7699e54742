-- A call of a user-defined opcode: its expansion, typed in the caller, and its routine.
use Rattle.std.proofs.Common.{◌≡◌, ◌∙◌, ℕ, ◌+◌, ◌≤◌, ◌<◌, Bool, true, false, if◌then◌else◌, List, [], ◌∷◌, map, Option}
use Rattle.std.proofs.Common.{Some, None, arith, refl, sym, ap, subst}
use Rattle.std.specs.{Option.is_some, Option.option_or, Option.unwrap_or, Str.bytes_eq}
use Rattle.std.proofs.lemmas.Slice.Eq.{bytes_eq-Decides}
use Rattle.cs_base.proofs.Tests.{both_none}
use Rattle.cs_base.specs.{Rates.at_rate, declared.fault.OrcFault.OrcFault, declared.per_rate.PerRate.PerRate}
use Rattle.cs_words.specs.Names.{name_rate, is_global}
use Rattle.cs_grammar.specs.Renaming.{renamed_argument}
use Rattle.cs_grammar.specs.Tree.{var, Argument, value, text, Block, joins}
use Rattle.cs_typed.specs.TypedTree.{counts_with, moved_variable, moved_block, then_block}
use Rattle.cs_typed.specs.declared.setting.Setting.{Setting}
use Rattle.cs_typed.proofs.Moved.{counts_again, counts_none, moved_then, variable_twice, block_twice}
use Rattle.cs_udo.specs.{Expanded.Template, Expanded.assignments, Expanded.value_in, Names.fresh, Names.in_frame}
use Rattle.cs_udo.proofs.Fresh.{fresh_local, framed_fresh, framed_shared, framed_rate}
use Rattle.cs_typing.specs.Known.{in_table, place_in, Shared, KnownHere, given, global}
use Rattle.cs_typing.specs.Settings.{at}
use Rattle.cs_typing.specs.Statements.{known_block, block_fault, typed_block, set_fault, set_fault_by}
use Rattle.cs_typing.specs.inner.Routines.{Locals, no_locals, has_local, number_in, with_local, given_in, all_given_in}
use Rattle.cs_typing.specs.inner.Routines.{past_call, KnownInBody, known_in, knows_in, variable_in, Routine}
use Rattle.cs_typing.specs.inner.Routines.{inputs_fault, inputs_set, results_fault, results_set}
use Rattle.cs_typing.proofs.Joins.{known_joins, fault_joins, typed_joins}
use Rattle.cs_typing.proofs.{KnownLater.known_block_later, Named.NamedAll, Named.NamedArguments, Rules.keeps_set}
use Rattle.cs_typing.proofs.RoutineExpressions.{typed_same, set_fault_same}
use Rattle.cs_typing.proofs.RoutineNames.{Any, Owns, owns_later, frame_owns, Sees, Mirrors, variable_same}
use Rattle.cs_typing.proofs.RoutineNames.{variable_given, some_there, mirrors_given, sees_later, sees_other}
use Rattle.cs_typed.specs.TypedTree as typed
use Rattle.cs_typed.specs.declared.tree.Var.TheVariants as variant

-- ---- expanded statements and statements of the text

-- After expanded statements the same names are known as after the statements of the text, both break the same
-- rule first, and if they break none, the typed form of the expansion is the typed form of the text, moved.
pub record Meets (P : List ℕ → Type 0) (own : List ℕ → List ℕ) (h : ℕ) (base : PerRate ℕ) (n : KnownHere) (b : Block)
    (k : KnownInBody) (rule : Setting → Option OrcFault) (made : typed.Block) : Type 0 where
  pub known : Mirrors P own h base (known_block n b) k
  pub fault : (s : Setting) → block_fault s n b ≡ rule s
  pub form : (s : Setting) → rule s ≡ None → typed_block n b ≡ moved_block base made

-- ---- an opcode's expansion and its routine

-- The expansion of an opcode, in any frame and after any variables of its caller, agrees with its routine.
pub record Matches (t : Template) (r : Routine) : Type 0 where
  pub inputs : t.inputs ≡ r.inputs
  pub results : t.results ≡ r.results
  pub first : r.first ≡ all_given_in no_locals r.inputs
  pub grows : (f : ℕ) → f < t.after f
  pub untouched : (n : KnownHere) (f : ℕ) (y : List ℕ) → ((x : List ℕ) (g : ℕ) → f ≤ g → y ≡ fresh g x → ⊥)
      → in_table (known_block n (t.block f)).locals y ≡ in_table n.locals y
  pub body : (f : ℕ) (base : PerRate ℕ) (n : KnownHere) (g : Shared)
      → Mirrors Any (in_frame f) (f + 1) base n (known_in g r.first)
      → Meets Any (in_frame f) (t.after f) base n (t.block f) (known_in (r.shared g) r.last) (λ s. r.fault s g)
      (r.block g)

-- one argument for each input
abbrev pub ArgumentsFit : List (List ℕ) → List Argument → Type 0
ArgumentsFit [] [] = Unit {0}
ArgumentsFit [] (a ∷ args) = ⊥
ArgumentsFit (x ∷ xs) [] = ⊥
ArgumentsFit (x ∷ xs) (value e ∷ args) = ArgumentsFit xs args
ArgumentsFit (x ∷ xs) (text t ∷ args) = ⊥

-- one variable for each result
abbrev pub ResultsFit : List (List ℕ) → List (List ℕ) → Type 0
ResultsFit [] [] = Unit {0}
ResultsFit [] (y ∷ ys) = ⊥
ResultsFit (x ∷ xs) [] = ⊥
ResultsFit (x ∷ xs) (y ∷ ys) = ResultsFit xs ys

-- ---- numbers are unchanged

pub number_kept : (l : Locals) (z x : List ℕ) → has_local l x ≡ true → (given_in l z).number x ≡ l.number x
number_kept l z x h = by (is_global z) (has_local l z) refl
  where
    same : has_local l z ≡ false → bytes_eq z x ≡ true → ⊥
    same new e =
        absurd (cc (sym new ∙ ap (has_local l) ((bytes_eq-Decides z x).0 e) ∙ h))

    isnt : (c : Bool) → (c ≡ true → ⊥) → (if c then Some (at_rate l.counts (name_rate z)) else l.number x) ≡ l.number x
    isnt true g = absurd (g refl)
    isnt false g = refl

    by : (b c : Bool) → has_local l z ≡ c → (if b then l else (if c then l else with_local l z)).number x ≡ l.number x
    by true c e = refl
    by false true e = refl
    by false false e = isnt (bytes_eq z x) (same e)

pub has_kept : (l : Locals) (z x : List ℕ) → has_local l x ≡ true → has_local (given_in l z) x ≡ true
has_kept l z x h = ap (λ o. is_some o) (number_kept l z x h) ∙ h

all_kept : (l : Locals) (zs : List (List ℕ)) (x : List ℕ) → has_local l x ≡ true
    → (all_given_in l zs).number x ≡ l.number x
all_kept l [] x h = refl
all_kept l (z ∷ zs) x h = all_kept (given_in l z) zs x (has_kept l z x h) ∙ number_kept l z x h

-- a local variable has its number after it is assigned
given_has : (l : Locals) (x : List ℕ) → is_global x ≡ false → (given_in l x).number x ≡ Some (number_in l x)
given_has l x e = by (is_global x) (has_local l x) e refl
  where
    is_there : (a : Option ℕ) (d : ℕ) → is_some a ≡ true → a ≡ Some (unwrap_or a d)
    is_there None d h = absurd (cc h)
    is_there (Some j) d h = refl

    isnt_there : (a : Option ℕ) (d : ℕ) → is_some a ≡ false → d ≡ unwrap_or a d
    isnt_there None d h = refl
    isnt_there (Some j) d h = absurd (cc h)

    d : ℕ
    d = at_rate l.counts (name_rate x)

    by : (b c : Bool) → b ≡ false → has_local l x ≡ c
        → (if b then l else (if c then l else with_local l x)).number x ≡ Some (number_in l x)
    by true c e h = absurd (cc e)
    by false true e h = is_there (l.number x) d h
    by false false e h =
        ap (λ q. if q then Some d else l.number x) ((bytes_eq-Decides x x).1 refl)
        ∙ ap (λ j. Some j) (isnt_there (l.number x) d h)

pub variable_stays : (g : Shared) (l : Locals) (x : List ℕ) (xs : List (List ℕ))
    → variable_in (known_in g l) x ≡ variable_in (known_in g (all_given_in (given_in l x) xs)) x
variable_stays g l x xs = by (is_global x) refl
  where
    last : Locals
    last = all_given_in (given_in l x) xs

    there : is_global x ≡ false → last.number x ≡ Some (number_in l x)
    there e =
        all_kept (given_in l x) xs x (ap (λ o. is_some o) (given_has l x e)) ∙ given_has l x e

    by : (b : Bool) → is_global x ≡ b → (if b then variant.Global (global (name_rate x) (place_in g.globals x))
        else variant.Local (name_rate x) (number_in l x))
        ≡ (if b then variant.Global (global (name_rate x) (place_in g.globals x))
        else variant.Local (name_rate x) (number_in last x))
    by true e = refl
    by false e =
        ap (variant.Local (name_rate x)) (sym (ap (λ o. unwrap_or o (at_rate last.counts (name_rate x))) (there e)))

-- ---- names of a frame differ from the caller's names

module _ {P : List ℕ → Type 0} {own : List ℕ → List ℕ} {f : ℕ} (o : Owns P own f) where
  pub frame_other : (x y : List ℕ) → P x → is_global x ≡ false → own x ≡ in_frame f y → ⊥
  frame_other x y p e same = by (is_global y) refl
    where
      by : (b : Bool) → is_global y ≡ b → ⊥
      by true d =
          absurd (cc (sym (o.local x ∙ e) ∙ ap is_global (same ∙ framed_shared f y d) ∙ d))
      by false d = o.below x y f p e (omega arith) (same ∙ framed_fresh f y d)

  -- ---- inputs

  module _ (base : PerRate ℕ) (k : KnownInBody) where
    pub inputs_seen : (n : KnownHere) → Sees P own base n k → (line : ℕ) (xs : List (List ℕ)) (args : List Argument)
        → Sees P own base (known_block n (assignments line (map (in_frame f) xs) args)) k
    inputs_seen n s line [] args = s
    inputs_seen n s line (x ∷ xs) [] = s
    inputs_seen n s line (x ∷ xs) (text t ∷ args) = s
    inputs_seen n s line (x ∷ xs) (value e ∷ args) =
        inputs_seen (given n (in_frame f x))
        (sees_other P own base n k s (in_frame f x) (λ y p d same. frame_other y x p d same)) line xs args

    pub inputs_fault_same : (q : Setting) (n : KnownHere) → Sees P own base n k → (line : ℕ) (xs : List (List ℕ))
        (args : List Argument) → NamedArguments P args
        → block_fault q n (assignments line (map (in_frame f) xs) (map (renamed_argument own) args))
        ≡ inputs_fault q k line xs args
    inputs_fault_same q n s line (x ∷ xs) (value e ∷ args) h =
        let next = sees_other P own base n k s (in_frame f x) (λ y p d same. frame_other y x p d same) in
        λ i. option_or (at line (set_fault_same o base n k s q (in_frame f x) x (framed_rate f x) e h.0 i))
        (inputs_fault_same q (given n (in_frame f x)) next line xs args h.1 i)
    inputs_fault_same q n s line xs args h = refl

    pub inputs_typed : (q : Setting) (n : KnownHere) → Sees P own base n k → (r : Routine) (l : Locals)
        → Mirrors Any (in_frame f) (f + 1) (counts_with base k.locals.counts) n (known_in k.shared l)
        → (line : ℕ) (xs : List (List ℕ)) (args : List Argument) → NamedArguments P args
        → r.first ≡ all_given_in l xs → inputs_fault q k line xs args ≡ None
        → typed_block n (assignments line (map (in_frame f) xs) (map (renamed_argument own) args))
        ≡ moved_block base (inputs_set k r line xs args)
    inputs_typed q n s r l m line (x ∷ xs) (value a ∷ args) h e none =
        let both = counts_with base k.locals.counts in
        let owned = frame_owns f (f + 1) (omega arith) in
        let parts = both_none (at line (set_fault_by q (knows_in k) x a)) (inputs_fault q k line xs args) none in
        let next = sees_other P own base n k s (in_frame f x) (λ y p d same. frame_other y x p d same) in
        let more = mirrors_given owned both n (known_in k.shared l) m x tt in
        let here = variable_given owned both n (known_in k.shared l) m x tt
        ∙ ap (moved_variable both) (variable_stays k.shared l x xs
        ∙ ap (λ z. variable_in (known_in k.shared z) x) (sym e))
        ∙ sym (variable_twice base k.locals.counts (variable_in (known_in k.shared r.first) x)) in
        let it = typed_same o base n k s a h.0 (keeps_set q (knows_in k) line x a parts.0).0 in
        λ i. typed.andthen (typed.set line (framed_rate f x i) (here i) (it i))
        (inputs_typed q (given n (in_frame f x)) next r (given_in l x) more line xs args h.1 e parts.1 i)
    inputs_typed q n s r l m line xs args h e none = refl

-- the routine's variables that are known after the inputs
pub inputs_known : (f : ℕ) (base : PerRate ℕ) (own : List ℕ → List ℕ) (n : KnownHere) (g : Shared) (l : Locals)
    → Mirrors Any (in_frame f) (f + 1) base n (known_in g l)
    → (line : ℕ) (xs : List (List ℕ)) (args : List Argument) → ArgumentsFit xs args
    → Mirrors Any (in_frame f) (f + 1) base
    (known_block n (assignments line (map (in_frame f) xs) (map (renamed_argument own) args)))
    (known_in g (all_given_in l xs))
inputs_known f base own n g l m line [] [] h = m
inputs_known f base own n g l m line [] (a ∷ args) h = absurd h
inputs_known f base own n g l m line (x ∷ xs) [] h = absurd h
inputs_known f base own n g l m line (x ∷ xs) (text t ∷ args) h = absurd h
inputs_known f base own n g l m line (x ∷ xs) (value e ∷ args) h =
    inputs_known f base own (given n (in_frame f x)) g (given_in l x)
    (mirrors_given (frame_owns f (f + 1) (omega arith)) base n (known_in g l) m x tt) line xs args h

-- ---- a frame begins, and the caller continues

pub begins : {P : List ℕ → Type 0} {own : List ℕ → List ℕ} (f : ℕ) (base : PerRate ℕ) (n : KnownHere) (k : KnownInBody)
    → Mirrors P own f base n k
    → Mirrors Any (in_frame f) (f + 1) (counts_with base k.locals.counts) n (known_in k.shared no_locals)
begins f base n k m = record {
  sees = record {
    shared = m.sees.shared;
    has = λ x p e. ap (in_table n.locals) (framed_fresh f x e) ∙ m.free f x (omega arith);
    place = λ x p e h. absurd (cc h);
  };
  counts = m.counts ∙ sym (counts_none (counts_with base k.locals.counts));
  free = λ g x le. m.free g x (omega (arith, le));
}

pub goes_on : {P : List ℕ → Type 0} {own : List ℕ → List ℕ} (f h : ℕ) (base : PerRate ℕ) (n : KnownHere) (g : Shared)
    (l last : Locals) → Sees P own base n (known_in g l)
    → Mirrors Any (in_frame f) h (counts_with base l.counts) n (known_in g last)
    → Mirrors P own h base n (known_in g (past_call l last.counts))
goes_on f h base n g l last s m = record {
  sees = record {
    shared = s.shared;
    has = s.has;
    place = λ x p e there.
        s.place x p e there ∙ ap (λ j. at_rate base (name_rate x) + j)
        (some_there (l.number x) (at_rate l.counts (name_rate x))
        (at_rate (counts_with l.counts last.counts) (name_rate x)) there);
  };
  counts = m.counts ∙ counts_again base l.counts last.counts;
  free = m.free;
}

-- ---- results

module _ {P : List ℕ → Type 0} {own : List ℕ → List ℕ} {f : ℕ} (o : Owns P own f) {h : ℕ} (later : Owns P own h)
    (base c : PerRate ℕ) (g : Shared) (r : Routine) where
  abbrev Inner : KnownHere → Type 0
  Inner n = Sees Any (in_frame f) (counts_with base c) n (known_in g r.last)

  frame : Owns Any (in_frame f) (f + 1)
  frame = frame_owns f (f + 1) (omega arith)

  -- assigning a variable of the caller changes nothing for the routine
  inner_given : (n : KnownHere) → Inner n → (x : List ℕ) → P x → Inner (given n (own x))
  inner_given n s x p =
      sees_other Any (in_frame f) (counts_with base c) n (known_in g r.last) s (own x) (λ y q d same. by y d same
      (is_global x) refl)
    where
      by : (y : List ℕ) → is_global y ≡ false → in_frame f y ≡ own x → (b : Bool) → is_global x ≡ b → ⊥
      by y d same true e =
          absurd (cc (sym (ap is_global (framed_fresh f y d) ∙ fresh_local f y) ∙ ap is_global same ∙ o.local x ∙ e))
      by y d same false e = frame_other o x y p e (sym same)

  slot_fault : (q : Setting) (n : KnownHere) → Inner n → (line : ℕ) (x y : List ℕ)
      → at line (set_fault q n (own x) (var (in_frame f y)))
      ≡ at line (set_fault_by q (knows_in (known_in g r.last)) x (var y))
  slot_fault q n s line x y =
      ap (at line) (set_fault_same frame (counts_with base c) n (known_in g r.last) s q (own x) x (o.rate x) (var y) tt)

  pub results_fault_same : (q : Setting) (n : KnownHere) → Inner n → (line : ℕ) (xs ys : List (List ℕ)) → NamedAll P xs
      → block_fault q n (assignments line (map own xs) (map (value_in f) ys)) ≡ results_fault q g r line xs ys
  results_fault_same q n s line (x ∷ xs) (y ∷ ys) p =
      λ i. option_or (slot_fault q n s line x y i)
      (results_fault_same q (given n (own x)) (inner_given n s x p.0) line xs ys p.1 i)
  results_fault_same q n s line xs ys p = refl

  pub results_known : (n : KnownHere) (l : Locals) → Mirrors P own h base n (known_in g l)
      → (line : ℕ) (xs ys : List (List ℕ)) → NamedAll P xs → ResultsFit xs ys
      → Mirrors P own h base (known_block n (assignments line (map own xs) (map (value_in f) ys)))
      (known_in g (all_given_in l xs))
  results_known n l m line [] [] p fit = m
  results_known n l m line [] (y ∷ ys) p fit = absurd fit
  results_known n l m line (x ∷ xs) [] p fit = absurd fit
  results_known n l m line (x ∷ xs) (y ∷ ys) p fit =
      results_known (given n (own x)) (given_in l x) (mirrors_given later base n (known_in g l) m x p.0) line xs ys p.1
      fit

  pub results_typed : (q : Setting) (n : KnownHere) (l : Locals) → Inner n → Mirrors P own h base n (known_in g l)
      → (line : ℕ) (xs ys : List (List ℕ)) → NamedAll P xs → results_fault q g r line xs ys ≡ None
      → typed_block n (assignments line (map own xs) (map (value_in f) ys))
      ≡ moved_block base (results_set (known_in g l) c r line xs ys)
  results_typed q n l s m line (x ∷ xs) (y ∷ ys) p none =
      let inside = known_in g r.last in
      let parts = both_none (at line (set_fault_by q (knows_in inside) x (var y))) (results_fault q g r line xs ys)
      none in
      let read = (keeps_set q (knows_in inside) line x (var y) parts.0).0 in
      let slot = variable_same frame (counts_with base c) n inside s y tt read
      ∙ sym (variable_twice base c (variable_in inside y)) in
      λ i. typed.andthen (typed.set line (later.rate x i) (variable_given later base n (known_in g l) m x p.0 i)
      (typed.var (framed_rate f y i) (slot i)))
      (results_typed q (given n (own x)) (given_in l x) (inner_given n s x p.0)
      (mirrors_given later base n (known_in g l) m x p.0) line xs ys p.1 parts.1 i)
  results_typed q n l s m line xs ys p none = refl

-- ---- the entire call

module _ {P : List ℕ → Type 0} {own : List ℕ → List ℕ} {f : ℕ} (o : Owns P own f) (base : PerRate ℕ) (n : KnownHere)
    (k : KnownInBody) (m : Mirrors P own f base n k) (t : Template) (r : Routine) (same : Matches t r) (line : ℕ)
    (xs : List (List ℕ)) (args : List Argument) (names : NamedAll P xs) (reads : NamedArguments P args)
    (fits : ArgumentsFit r.inputs args) (takes : ResultsFit xs r.results) where
  abbrev both : PerRate ℕ
  both = counts_with base k.locals.counts

  -- the three parts of the call
  abbrev given_in_frame : List (List ℕ) → Block
  given_in_frame ins = assignments line (map (in_frame f) ins) (map (renamed_argument own) args)

  abbrev taken : List (List ℕ) → Block
  taken outs = assignments line (map own xs) (map (value_in f) outs)

  abbrev whole : List (List ℕ) → List (List ℕ) → Block
  whole ins outs = joins (given_in_frame ins) (joins (t.block f) (taken outs))

  whole_is : whole t.inputs t.results ≡ whole r.inputs r.results
  whole_is = λ i. whole (same.inputs i) (same.results i)

  abbrev behind_inputs : KnownHere
  behind_inputs = known_block n (given_in_frame r.inputs)

  abbrev behind_body : KnownHere
  behind_body = known_block behind_inputs (t.block f)

  known_parts : known_block n (whole r.inputs r.results) ≡ known_block behind_body (taken r.results)
  known_parts =
      known_joins n (given_in_frame r.inputs) (joins (t.block f) (taken r.results))
      ∙ known_joins behind_inputs (t.block f) (taken r.results)

  -- the caller's and the routine's variables, part by part
  inner_first : Mirrors Any (in_frame f) (f + 1) both behind_inputs (known_in k.shared r.first)
  inner_first =
      subst (λ l. Mirrors Any (in_frame f) (f + 1) both behind_inputs (known_in k.shared l)) (sym same.first)
      (inputs_known f both own n k.shared no_locals (begins f base n k m) line r.inputs args fits)

  caller_first : Sees P own base behind_inputs k
  caller_first = inputs_seen o base k n m.sees line r.inputs (map (renamed_argument own) args)

  inner : Meets Any (in_frame f) (t.after f) both behind_inputs (t.block f) (known_in (r.shared k.shared) r.last)
      (λ q. r.fault q k.shared) (r.block k.shared)
  inner = same.body f both behind_inputs k.shared inner_first

  caller_last : Sees P own base behind_body (known_in (r.shared k.shared) k.locals)
  caller_last =
      sees_later P own base behind_inputs behind_body k (r.shared k.shared) caller_first
      (known_block_later behind_inputs (t.block f)) inner.known.sees.shared
      (λ x p e. same.untouched behind_inputs f (own x) (λ y g le it. o.below x y g p e le it))

  later : Owns P own (t.after f)
  later = owns_later P own f (t.after f) (by (same.grows f)) o
    where
      by : f < t.after f → f ≤ t.after f
      by lt = omega (arith, lt)

  caller_goes_on : Mirrors P own (t.after f) base behind_body
      (known_in (r.shared k.shared) (past_call k.locals r.last.counts))
  caller_goes_on =
      goes_on f (t.after f) base behind_body (r.shared k.shared) k.locals r.last caller_last inner.known

  -- the first rule that is broken
  fault_parts : (q : Setting) → block_fault q n (whole r.inputs r.results)
      ≡ option_or (block_fault q n (given_in_frame r.inputs))
      (option_or (block_fault q behind_inputs (t.block f)) (block_fault q behind_body (taken r.results)))
  fault_parts q =
      fault_joins q n (given_in_frame r.inputs) (joins (t.block f) (taken r.results))
      ∙ ap (option_or (block_fault q n (given_in_frame r.inputs)))
      (fault_joins q behind_inputs (t.block f) (taken r.results))

  -- the typed form
  form_parts : typed_block n (whole r.inputs r.results) ≡ then_block (typed_block n (given_in_frame r.inputs))
      (then_block (typed_block behind_inputs (t.block f)) (typed_block behind_body (taken r.results)))
  form_parts =
      typed_joins n (given_in_frame r.inputs) (joins (t.block f) (taken r.results))
      ∙ ap (then_block (typed_block n (given_in_frame r.inputs)))
      (typed_joins behind_inputs (t.block f) (taken r.results))

  abbrev first_form : typed.Block
  first_form = inputs_set k r line r.inputs args

  abbrev body_form : typed.Block
  body_form = moved_block k.locals.counts (r.block k.shared)

  abbrev last_form : typed.Block
  last_form =
      results_set (known_in (r.shared k.shared) (past_call k.locals r.last.counts)) k.locals.counts r line xs r.results

  form_moved : moved_block base (then_block first_form (then_block body_form last_form))
      ≡ then_block (moved_block base first_form)
      (then_block (moved_block both (r.block k.shared)) (moved_block base last_form))
  form_moved =
      moved_then base first_form (then_block body_form last_form)
      ∙ ap (then_block (moved_block base first_form)) (moved_then base body_form last_form)
      ∙ ap (λ b. then_block (moved_block base first_form) (then_block b (moved_block base last_form)))
      (block_twice base k.locals.counts (r.block k.shared))

  pub routine_meets : Meets P own (t.after f) base n (whole t.inputs t.results)
      (known_in (r.shared k.shared) (all_given_in (past_call k.locals r.last.counts) xs))
      (λ q. option_or (inputs_fault q k line r.inputs args)
      (option_or (r.fault q k.shared) (results_fault q (r.shared k.shared) r line xs r.results)))
      (then_block first_form (then_block body_form last_form))
  routine_meets = record {
    known = subst (λ z. Mirrors P own (t.after f) base z
        (known_in (r.shared k.shared) (all_given_in (past_call k.locals r.last.counts) xs)))
        (sym (ap (known_block n) whole_is ∙ known_parts))
        (results_known o later base k.locals.counts (r.shared k.shared) r behind_body
        (past_call k.locals r.last.counts) caller_goes_on line xs r.results names takes);
    fault = λ q. ap (block_fault q n) whole_is ∙ fault_parts q
        ∙ λ i. option_or (inputs_fault_same o base k q n m.sees line r.inputs args reads i) (option_or (inner.fault q i)
        (results_fault_same o later base k.locals.counts (r.shared k.shared) r q behind_body inner.known.sees line xs
        r.results names i));
    form = λ q none.
        let results_none = results_fault q (r.shared k.shared) r line xs r.results in
        let parts = both_none (inputs_fault q k line r.inputs args) (option_or (r.fault q k.shared) results_none)
        none in
        let more = both_none (r.fault q k.shared) results_none parts.1 in
        ap (typed_block n) whole_is ∙ form_parts ∙ (λ i. then_block
        (inputs_typed o base k q n m.sees r no_locals (begins f base n k m) line r.inputs args reads same.first parts.0
        i) (then_block (inner.form q more.0 i)
        (results_typed o later base k.locals.counts (r.shared k.shared) r q behind_body
        (past_call k.locals r.last.counts) inner.known.sees caller_goes_on line xs r.results names more.1 i)))
        ∙ sym form_moved;
  }
