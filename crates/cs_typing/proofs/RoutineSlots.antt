-- The assignments around the body of a routine, stated with numbers of variables: slots, inputs, results.
use Rattle.std.proofs.Common.{◌≡◌, ◌∙◌, ℕ, ◌+◌, ◌≤◌, Bool, true, false, not, ◌&&◌, ◌||◌, if◌then◌else◌, List, [], ◌∷◌}
use Rattle.std.proofs.Common.{length, map, Option, Some, None, arith, refl, sym, ap, subst}
use Rattle.std.specs.{List.All, Option.is_some, Option.option_or, Option.unwrap_or, Str.bytes_eq}
use Rattle.std.proofs.lemmas.{Slice.Eq.bytes_eq-Decides, List.Elements.All-head, List.Elements.All-tail}
use Rattle.cs_base.specs.Rates.{at_rate, is_init, within}
use Rattle.cs_base.specs.{declared.per_rate.PerRate.PerRate, declared.resource.Rate.Rate}
use Rattle.cs_words.specs.Names.{name_rate, is_global}
use Rattle.cs_grammar.specs.WellFormed.{HasNoStop, IsVariable, WellFormedValue, WellFormedDefinition}
use Rattle.cs_grammar.specs.Tree.{Expression, var, neg, pair, pick, apply, Argument, value, text, Statement, set, call}
use Rattle.cs_grammar.specs.Tree.{choose, Block, no_stmt, andthen, joins, Arms, otherwise, arm, Definition}
use Rattle.cs_typed.specs.{TypedTree.then_block, TypedTree.moved_variable, declared.setting.Setting.Setting}
use Rattle.cs_typed.proofs.Moved.{then_again}
use Rattle.cs_udo.specs.{Expanded.assignments, Names.slot, Names.slots}
use Rattle.cs_udo.proofs.Fresh.{slot_rate, slot_local, slot_apart, no_slot}
use Rattle.cs_typing.specs.Expressions.{Variables, expression_by, is_value, rate_of, reads_by}
use Rattle.cs_typing.specs.Known.{Shared, in_table, place_in, global, no_names}
use Rattle.cs_typing.specs.{Settings.at, Statements.set_fault_by}
use Rattle.cs_typing.specs.inner.Routines.{Locals, no_locals, has_local, number_in, counted, with_local, given_in}
use Rattle.cs_typing.specs.inner.Routines.{all_given_in, past_call, KnownInBody, known_in, knows_in, variable_in}
use Rattle.cs_typing.specs.inner.Routines.{Routine, Routines, routine_called, inputs_set, results_fault, results_set}
use Rattle.cs_typing.specs.inner.Routines.{locals_after_call, locals_after, locals_after_block, locals_after_arms}
use Rattle.cs_typing.specs.inner.Routines.{shared_after, shared_after_block, known_after, known_after_block, fault_in}
use Rattle.cs_typing.specs.inner.Routines.{block_fault_in, typed_in, typed_block_in, routine_of}
use Rattle.cs_typing.specs.inner.Slots.{one_counted, slots_fault, slots_set, slots_past, slot_numbers, given_set}
use Rattle.cs_typing.specs.inner.Slots.{taken_kind, taken_fault, taken_set}
use Rattle.cs_typing.proofs.{Added.differ, Joins.or_again, Named.block_named, RoutineNames.number_new}
use Rattle.cs_typing.proofs.Named.{Named, NamedAll, NamedArguments, NamedStmt, NamedBlock, NamedArms, expression_named}
use Rattle.cs_typing.proofs.RoutineCalls.{number_kept, has_kept}
use Rattle.cs_base.specs.declared.fault.OrcKind.TheVariants as orc
use Rattle.cs_grammar.specs.declared.scope.Place.TheVariants as place
use Rattle.cs_typed.specs.TypedTree as typed
use Rattle.cs_typed.specs.declared.tree.Var.TheVariants as variant

-- ---- statements after others

module _ (rs : Routines) where
  pub locals_joins : (l : Locals) (a b : Block)
      → locals_after_block rs l (joins a b) ≡ locals_after_block rs (locals_after_block rs l a) b
  locals_joins l no_stmt b = refl
  locals_joins l (andthen x rest) b = locals_joins (locals_after rs l x) rest b

  pub shared_joins : (g : Shared) (a b : Block)
      → shared_after_block rs g (joins a b) ≡ shared_after_block rs (shared_after_block rs g a) b
  shared_joins g no_stmt b = refl
  shared_joins g (andthen x rest) b = shared_joins (shared_after rs g x) rest b

  pub fault_joins_in : (s : Setting) (k : KnownInBody) (a b : Block) → block_fault_in s rs k (joins a b)
      ≡ option_or (block_fault_in s rs k a) (block_fault_in s rs (known_after_block rs k a) b)
  fault_joins_in s k no_stmt b = refl
  fault_joins_in s k (andthen x rest) b =
      let next = known_after rs k x in
      ap (option_or (fault_in s rs k x)) (fault_joins_in s next rest b)
      ∙ sym (or_again (fault_in s rs k x) (block_fault_in s rs next rest)
      (block_fault_in s rs (known_after_block rs next rest) b))

  pub typed_joins_in : (k : KnownInBody) (a b : Block) → typed_block_in rs k (joins a b)
      ≡ then_block (typed_block_in rs k a) (typed_block_in rs (known_after_block rs k a) b)
  typed_joins_in k no_stmt b = refl
  typed_joins_in k (andthen x rest) b =
      let next = known_after rs k x in
      ap (then_block (typed_in rs k x)) (typed_joins_in next rest b)
      ∙ sym (then_again (typed_in rs k x) (typed_block_in rs next rest)
      (typed_block_in rs (known_after_block rs next rest) b))

  -- ---- no slot is among the variables of a body

  abbrev pub NoSlots : Locals → Type 0
  NoSlots l = (n : ℕ) (r : Rate) → has_local l (slot n r) ≡ false

  given_no_slots : (l : Locals) → NoSlots l → (x : List ℕ) → HasNoStop x → NoSlots (given_in l x)
  given_no_slots l h x p n r = by (is_global x) (has_local l x)
    where
      by : (b c : Bool) → has_local (if b then l else (if c then l else with_local l x)) (slot n r) ≡ false
      by true c = h n r
      by false true = h n r
      by false false =
          ap (λ q. is_some (if q then Some (at_rate l.counts (name_rate x)) else l.number (slot n r)))
          (differ x (slot n r) (no_slot n r x p)) ∙ h n r

  all_given_no_slots : (l : Locals) → NoSlots l → (xs : List (List ℕ)) → NamedAll HasNoStop xs
      → NoSlots (all_given_in l xs)
  all_given_no_slots l h [] p = h
  all_given_no_slots l h (x ∷ xs) p = all_given_no_slots (given_in l x) (given_no_slots l h x p.0) xs p.1

  call_no_slots : (r : Option Routine) (l : Locals) → NoSlots l → (xs : List (List ℕ)) → NamedAll HasNoStop xs
      → NoSlots (locals_after_call l xs r)
  call_no_slots None l h xs p = all_given_no_slots l h xs p
  call_no_slots (Some r) l h xs p = all_given_no_slots (past_call l r.last.counts) h xs p

  mutual
    stmt_no_slots : (l : Locals) → NoSlots l → (x : Statement) → NamedStmt HasNoStop x → NoSlots (locals_after rs l x)
    stmt_no_slots l h (set line x e) p = given_no_slots l h x p.0
    stmt_no_slots l h (call line xs c args) p = call_no_slots (routine_called rs c) l h xs p.0
    stmt_no_slots l h (choose line list) p = arms_no_slots l h list p

    pub block_no_slots : (l : Locals) → NoSlots l → (b : Block) → NamedBlock HasNoStop b
        → NoSlots (locals_after_block rs l b)
    block_no_slots l h no_stmt p = h
    block_no_slots l h (andthen x rest) p =
        block_no_slots (locals_after rs l x) (stmt_no_slots l h x p.0) rest p.1

    arms_no_slots : (l : Locals) → NoSlots l → (list : Arms) → NamedArms HasNoStop list
        → NoSlots (locals_after_arms rs l list)
    arms_no_slots l h (otherwise b) p = block_no_slots l h b p
    arms_no_slots l h (arm c b rest) p =
        arms_no_slots (locals_after_block rs l b) (block_no_slots l h b p.1) rest p.2

-- ---- expressions that read only names from a text

module _ (P : List ℕ → Type 0) where
  reads_alike : (v w : List ℕ → Bool) → ((x : List ℕ) → P x → v x ≡ w x) → (e : Expression) → Named P e
      → reads_by v e ≡ reads_by w e
  reads_alike v w h (var x) p = h x p
  reads_alike v w h (neg a) p = reads_alike v w h a p
  reads_alike v w h (pair o a b) p = λ i. reads_alike v w h a p.0 i && reads_alike v w h b p.1 i
  reads_alike v w h (pick c a b) p =
      λ i. reads_alike v w h c p.0 i && reads_alike v w h a p.1 i && reads_alike v w h b p.2 i
  reads_alike v w h (apply f a) p = reads_alike v w h a p
  reads_alike v w h e p = refl

  expression_alike : (v w : Variables) → ((x : List ℕ) → P x → v x ≡ w x) → (e : Expression) → Named P e
      → expression_by v e ≡ expression_by w e
  expression_alike v w h (var x) p = ap (typed.var (name_rate x)) (h x p)
  expression_alike v w h (neg a) p = ap (typed.neg (rate_of (neg a))) (expression_alike v w h a p)
  expression_alike v w h (pair o a b) p =
      λ i. typed.pair (rate_of (pair o a b)) o (expression_alike v w h a p.0 i) (expression_alike v w h b p.1 i)
  expression_alike v w h (pick c a b) p =
      λ i. typed.pick (rate_of (pick c a b)) (expression_alike v w h c p.0 i) (expression_alike v w h a p.1 i)
      (expression_alike v w h b p.2 i)
  expression_alike v w h (apply f a) p = ap (typed.apply (rate_of (apply f a)) f) (expression_alike v w h a p)
  expression_alike v w h e p = refl

-- ---- slots by names and by numbers

-- the names from a text have the same numbers in both, the counts are equal, and no slot from index n on has
-- a number
record SlotsFrom (n : ℕ) (l m : Locals) : Type 0 where
  pub counts : l.counts ≡ m.counts
  pub number : (x : List ℕ) → HasNoStop x → l.number x ≡ m.number x
  pub free : (j : ℕ) (r : Rate) → n ≤ j → has_local l (slot j r) ≡ false

module _ (n : ℕ) (l m : Locals) (s : SlotsFrom n l m) where
  slot_given : (r : Rate) → given_in l (slot n r) ≡ with_local l (slot n r)
  slot_given r = λ i. if slot_local n r i then l else
      (if s.free n r (omega arith) i then l else with_local l (slot n r))

  slots_next : (r : Rate) → SlotsFrom (n + 1) (given_in l (slot n r)) (one_counted m r)
  slots_next r = record {
    counts = ap (λ z. z.counts) (slot_given r) ∙ λ i. counted (slot_rate n r i) (s.counts i);
    number = λ x p.
        ap (λ z. z.number x) (slot_given r)
        ∙ ap (λ b. if b then Some (at_rate l.counts (name_rate (slot n r))) else l.number x)
        (differ (slot n r) x (λ e. no_slot n r x p (sym e))) ∙ s.number x p;
    free = λ j q le.
        ap (λ z. has_local z (slot j q)) (slot_given r)
        ∙ ap (λ b. is_some (if b then Some (at_rate l.counts (name_rate (slot n r))) else l.number (slot j q)))
        (differ (slot n r) (slot j q) (λ e. apart j le (slot_apart n j r q e))) ∙ s.free j q (below j le);
  }
    where
      apart : (j : ℕ) → n + 1 ≤ j → n ≡ j → ⊥
      apart j le e = omega (arith, le, e)

      below : (j : ℕ) → n + 1 ≤ j → n ≤ j
      below j le = omega (arith, le)

  module _ (g : Shared) where
    knows_alike : (x : List ℕ) → HasNoStop x → knows_in (known_in g l) x ≡ knows_in (known_in g m) x
    knows_alike x p = ap (λ o. if is_global x then in_table g.globals x else is_some o) (s.number x p)

    variable_alike : (x : List ℕ) → HasNoStop x → variable_in (known_in g l) x ≡ variable_in (known_in g m) x
    variable_alike x p = λ i. if is_global x then variant.Global (global (name_rate x) (place_in g.globals x))
        else variant.Local (name_rate x) (unwrap_or (s.number x p i) (at_rate (s.counts i) (name_rate x)))

    slot_variable : (r : Rate) → variable_in (known_in g l) (slot n r) ≡ variant.Local r (at_rate m.counts r)
    slot_variable r =
        ap (λ b. if b then variant.Global (global (name_rate (slot n r)) (place_in g.globals (slot n r)))
        else variant.Local (name_rate (slot n r)) (number_in l (slot n r))) (slot_local n r)
        ∙ ap (variant.Local (name_rate (slot n r))) (number_new l (slot n r) (s.free n r (omega arith)))
        ∙ λ i. variant.Local (slot_rate n r i) (at_rate (s.counts i) (slot_rate n r i))

    slot_fault : (q : Setting) (line : ℕ) (r : Rate) (e : Expression) → Named HasNoStop e
        → at line (set_fault_by q (knows_in (known_in g l)) (slot n r) e)
        ≡ at line (set_fault_by q (knows_in (known_in g m)) (slot 0 r) e)
    slot_fault q line r e p =
        let rates = slot_rate n r ∙ sym (slot_rate 0 r) in
        let reads = reads_alike HasNoStop (knows_in (known_in g l)) (knows_in (known_in g m)) knows_alike e p in
        λ i. at line (if not (reads i) then Some orc.Undefined
        else (if not (is_value e && within (rate_of e) (rates i) && (q.inside || is_init (rates i)))
        then Some orc.RateMismatch else None))

-- there is a value for each slot
abbrev pub ValuesFit : List Rate → List Argument → Type 0
ValuesFit [] args = Unit {0}
ValuesFit (r ∷ outs) [] = ⊥
ValuesFit (r ∷ outs) (text t ∷ args) = ⊥
ValuesFit (r ∷ outs) (value e ∷ args) = ValuesFit outs args

-- each of these names has a number
abbrev pub AllHave : Locals → List (List ℕ) → Type 0
AllHave l [] = Unit {0}
AllHave l (y ∷ ys) = (has_local l y ≡ true) × AllHave l ys

itself : (x : List ℕ) → bytes_eq x x ≡ true
itself x = (bytes_eq-Decides x x).1 refl

-- after the assignments of slots, by names and by numbers: the same first broken rule, the same typed form,
-- the same counts, and a number for each slot
record SlotsMeet (rs : Routines) (g : Shared) (line n : ℕ) (l m : Locals) (outs : List Rate) (args : List Argument)
    : Type 0 where
  fault : (q : Setting) → block_fault_in q rs (known_in g l) (assignments line (slots n outs) args)
      ≡ slots_fault q (known_in g m) line outs args
  form : typed_block_in rs (known_in g l) (assignments line (slots n outs) args)
      ≡ slots_set (known_in g m) line outs args
  counts : (locals_after_block rs l (assignments line (slots n outs) args)).counts ≡ (slots_past m outs args).counts
  have : AllHave (locals_after_block rs l (assignments line (slots n outs) args)) (slots n outs)
  numbers : map (number_in (locals_after_block rs l (assignments line (slots n outs) args))) (slots n outs)
      ≡ slot_numbers m.counts outs args

module _ (rs : Routines) (g : Shared) (line : ℕ) where
  values_kept : (l : Locals) (x : List ℕ) → has_local l x ≡ true → (ys : List (List ℕ)) (args : List Argument)
      → (locals_after_block rs l (assignments line ys args)).number x ≡ l.number x
  values_kept l x h (y ∷ ys) (value e ∷ args) =
      values_kept (given_in l y) x (has_kept l y x h) ys args ∙ number_kept l y x h
  values_kept l x h ys args = refl

  slot_number : (n : ℕ) (l m : Locals) → SlotsFrom n l m → (r : Rate)
      → (given_in l (slot n r)).number (slot n r) ≡ Some (at_rate m.counts r)
  slot_number n l m s r =
      ap (λ z. z.number (slot n r)) (slot_given n l m s r)
      ∙ ap (λ b. if b then Some (at_rate l.counts (name_rate (slot n r))) else l.number (slot n r)) (itself (slot n r))
      ∙ λ i. Some (at_rate (s.counts i) (slot_rate n r i))

  slots_meet : (n : ℕ) (l m : Locals) → SlotsFrom n l m → (outs : List Rate) (args : List Argument)
      → NamedArguments HasNoStop args → ValuesFit outs args → SlotsMeet rs g line n l m outs args
  slots_meet n l m s [] args p fit =
      record { fault = λ q. refl; form = refl; counts = s.counts; have = tt; numbers = refl }
  slots_meet n l m s (r ∷ outs) [] p fit = absurd fit
  slots_meet n l m s (r ∷ outs) (text t ∷ args) p fit = absurd fit
  slots_meet n l m s (r ∷ outs) (value e ∷ args) p fit =
      let more = slots_meet (n + 1) (given_in l (slot n r)) (one_counted m r) (slots_next n l m s r) outs args p.1 fit
      in
      let last = locals_after_block rs (given_in l (slot n r)) (assignments line (slots (n + 1) outs) args) in
      let own = slot_number n l m s r in
      let here = values_kept (given_in l (slot n r)) (slot n r) (ap (λ o. is_some o) own) (slots (n + 1) outs) args
      ∙ own in
      let it = expression_alike HasNoStop (variable_in (known_in g l)) (variable_in (known_in g m))
      (variable_alike n l m s g) e p.0 in
      let number = ap (λ o. unwrap_or o (at_rate last.counts (name_rate (slot n r)))) here in
      record {
        fault = λ q i. option_or (slot_fault n l m s g q line r e p.0 i) (more.fault q i);
        form = λ i. typed.andthen (typed.set line (slot_rate n r i) (slot_variable n l m s g r i) (it i)) (more.form i);
        counts = more.counts;
        have = (ap (λ o. is_some o) here, more.have);
        numbers = λ i. number i ∷ more.numbers i;
      }

-- ---- results and inputs

-- all names are local
abbrev pub AllLocal : List (List ℕ) → Type 0
AllLocal [] = Unit {0}
AllLocal (x ∷ xs) = (is_global x ≡ false) × AllLocal xs

module _ (r : Routine) where
  pub results_taken : (s : Setting) (g : Shared) (line : ℕ) (xs : List (List ℕ)) (n : ℕ)
      (outs : List Rate) → AllHave r.last (slots n outs)
      → results_fault s g r line xs (slots n outs) ≡ taken_fault s line xs outs
  results_taken s g line (x ∷ xs) n (q ∷ outs) h =
      let known = ap (λ b. if b then in_table g.globals (slot n q) else has_local r.last (slot n q)) (slot_local n q)
      ∙ h.0 in
      λ i. option_or (at line (one known i)) (results_taken s g line xs (n + 1) outs h.1 i)
    where
      one : knows_in (known_in g r.last) (slot n q) ≡ true
          → set_fault_by s (knows_in (known_in g r.last)) x (var (slot n q)) ≡ taken_kind s x q
      one known = λ i. if not (known i) then Some orc.Undefined
          else (if not (within (slot_rate n q i) (name_rate x) && (s.inside || is_init (name_rate x)))
          then Some orc.RateMismatch else None)
  results_taken s g line xs n outs h = refl

  pub results_form : (k : KnownInBody) (base : PerRate ℕ) (line : ℕ) (xs : List (List ℕ)) (n : ℕ) (outs : List Rate)
      → results_set k base r line xs (slots n outs)
      ≡ taken_set k base line xs outs (map (number_in r.last) (slots n outs))
  results_form k base line (x ∷ xs) n (q ∷ outs) =
      let y = slot n q in
      let there = ap (λ b. moved_variable base
      (if b then variant.Global (global (name_rate y) (place_in k.shared.globals y))
      else variant.Local (name_rate y) (number_in r.last y))) (slot_local n q) in
      (λ i. typed.andthen (typed.set line (name_rate x) (variable_in k x) (typed.var (name_rate y) (there i)))
      (results_form (known_in k.shared (given_in k.locals x)) base line xs (n + 1) outs i))
      ∙ (λ i. typed.andthen (typed.set line (name_rate x) (variable_in k x) (typed.var (slot_rate n q i)
      (variant.Local (slot_rate n q i) (at_rate base (slot_rate n q i) + number_in r.last y))))
      (taken_set (known_in k.shared (given_in k.locals x)) base line xs outs
      (map (number_in r.last) (slots (n + 1) outs))))
  results_form k base line xs n outs = refl

  pub inputs_form : (k : KnownInBody) (line : ℕ) (xs : List (List ℕ)) (args : List Argument) → AllLocal xs
      → inputs_set k r line xs args ≡ given_set k r.first line xs args
  inputs_form k line (x ∷ xs) (value e ∷ args) h =
      let there = ap (λ b. moved_variable k.locals.counts
      (if b then variant.Global (global (name_rate x) (place_in k.shared.globals x))
      else variant.Local (name_rate x) (number_in r.first x))) h.0 in
      λ i. typed.andthen (typed.set line (name_rate x) (there i) (expression_by (variable_in k) e))
      (inputs_form k line xs args h.1 i)
  inputs_form k line xs args h = refl

-- ---- a definition from a text

values_named : (args : List Argument) → All WellFormedValue args → NamedArguments HasNoStop args
values_named [] h = tt
values_named (value e ∷ args) h = (
  expression_named HasNoStop (λ x p. p) e (All-head WellFormedValue (value e) args h),
  values_named args (All-tail WellFormedValue (value e) args h),
)
values_named (text t ∷ args) h = values_named args (All-tail WellFormedValue (text t) args h)

values_fit : (outs : List Rate) (args : List Argument) → length outs ≡ length args → All WellFormedValue args
    → ValuesFit outs args
values_fit [] args e h = tt
values_fit (r ∷ outs) [] e h = absurd (omega (arith, e))
values_fit (r ∷ outs) (text t ∷ args) e h = All-head WellFormedValue (text t) args h
values_fit (r ∷ outs) (value v ∷ args) e h =
    values_fit outs args (omega (arith, e)) (All-tail WellFormedValue (value v) args h)

pub inputs_local : (xs : List (List ℕ)) → All (λ x. IsVariable x × (is_global x ≡ false)) xs → AllLocal xs
inputs_local [] h = tt
inputs_local (x ∷ xs) h = (
  (All-head (λ y. IsVariable y × (is_global y ≡ false)) x xs h).1,
  inputs_local xs (All-tail (λ y. IsVariable y × (is_global y ≡ false)) x xs h),
)

inputs_named : (xs : List (List ℕ)) → All (λ x. IsVariable x × (is_global x ≡ false)) xs → NamedAll HasNoStop xs
inputs_named [] h = tt
inputs_named (x ∷ xs) h = (
  (All-head (λ y. IsVariable y × (is_global y ≡ false)) x xs h).0.1,
  inputs_named xs (All-tail (λ y. IsVariable y × (is_global y ≡ false)) x xs h),
)

values_assigned_shared : (rs : Routines) (g : Shared) (line : ℕ) (xs : List (List ℕ)) (args : List Argument)
    → shared_after_block rs g (assignments line xs args) ≡ g
values_assigned_shared rs g line (x ∷ xs) (value e ∷ args) = values_assigned_shared rs g line xs args
values_assigned_shared rs g line xs args = refl

abbrev nothing_shared : Shared
nothing_shared = record { globals = no_names; control = []; sound = [] }

module _ (rs : Routines) (d : Definition) (well : WellFormedDefinition d) where
  abbrev pub first_locals : Locals
  first_locals = all_given_in no_locals d.names

  abbrev pub body_locals : Locals
  body_locals = locals_after_block rs first_locals d.body

  abbrev last : Block
  last = assignments d.line (slots 0 d.outs) d.result

  begins : SlotsFrom 0 body_locals body_locals
  begins = record {
    counts = refl;
    number = λ x p. refl;
    free = λ j r le. block_no_slots rs first_locals
        (all_given_no_slots rs no_locals (λ n q. refl) d.names (inputs_named d.names well.local)) d.body
        (block_named HasNoStop (λ x h. h) place.Definition d.name 0 d.body well.body) j r;
  }

  abbrev pub behind_body : Shared → KnownInBody
  behind_body g = known_in (shared_after_block rs g d.body) body_locals

  -- its slots, after its body
  meet : (g : Shared) → SlotsMeet rs g d.line 0 body_locals body_locals d.outs d.result
  meet g =
      slots_meet rs g d.line 0 body_locals body_locals begins d.outs d.result (values_named d.result well.each_value)
      (values_fit d.outs d.result (sym well.values) well.each_value)

  pub body_fault : (s : Setting) (g : Shared) → (routine_of rs d).fault s g
      ≡ option_or (block_fault_in s rs (known_in g first_locals) d.body)
      (slots_fault s (behind_body g) d.line d.outs d.result)
  body_fault s g =
      fault_joins_in rs s (known_in g first_locals) d.body last
      ∙ ap (option_or (block_fault_in s rs (known_in g first_locals) d.body))
      ((meet (shared_after_block rs g d.body)).fault s)

  pub body_form : (g : Shared) → (routine_of rs d).block g
      ≡ then_block (typed_block_in rs (known_in g first_locals) d.body)
      (slots_set (behind_body g) d.line d.outs d.result)
  body_form g =
      typed_joins_in rs (known_in g first_locals) d.body last
      ∙ ap (then_block (typed_block_in rs (known_in g first_locals) d.body))
      (meet (shared_after_block rs g d.body)).form

  pub body_shared : (g : Shared) → (routine_of rs d).shared g ≡ shared_after_block rs g d.body
  body_shared g =
      shared_joins rs g d.body last
      ∙ values_assigned_shared rs (shared_after_block rs g d.body) d.line (slots 0 d.outs) d.result

  last_is : (routine_of rs d).last ≡ locals_after_block rs body_locals last
  last_is = locals_joins rs first_locals d.body last

  pub body_counts : (routine_of rs d).last.counts ≡ (slots_past body_locals d.outs d.result).counts
  body_counts = ap (λ z. z.counts) last_is ∙ (meet nothing_shared).counts

  pub body_numbers : map (number_in (routine_of rs d).last) (slots 0 d.outs)
      ≡ slot_numbers body_locals.counts d.outs d.result
  body_numbers = ap (λ z. map (number_in z) (slots 0 d.outs)) last_is ∙ (meet nothing_shared).numbers

  pub body_have : AllHave (routine_of rs d).last (slots 0 d.outs)
  body_have = subst (λ z. AllHave z (slots 0 d.outs)) (sym last_is) (meet nothing_shared).have

  -- the results of a call, by their numbers
  pub call_results_fault : (s : Setting) (g : Shared) (line : ℕ) (xs : List (List ℕ))
      → results_fault s g (routine_of rs d) line xs (slots 0 d.outs) ≡ taken_fault s line xs d.outs
  call_results_fault s g line xs = results_taken (routine_of rs d) s g line xs 0 d.outs body_have

  pub call_results_form : (k : KnownInBody) (base : PerRate ℕ) (line : ℕ) (xs : List (List ℕ))
      → results_set k base (routine_of rs d) line xs (slots 0 d.outs)
      ≡ taken_set k base line xs d.outs (slot_numbers body_locals.counts d.outs d.result)
  call_results_form k base line xs =
      results_form (routine_of rs d) k base line xs 0 d.outs ∙ ap (taken_set k base line xs d.outs) body_numbers

  pub call_inputs_form : (k : KnownInBody) (line : ℕ) (args : List Argument)
      → inputs_set k (routine_of rs d) line d.names args ≡ given_set k first_locals line d.names args
  call_inputs_form k line args = inputs_form (routine_of rs d) k line d.names args (inputs_local d.names well.local)
