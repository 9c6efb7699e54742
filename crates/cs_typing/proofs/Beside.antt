-- The assignments around the routine of a call, one after another: functions of two lists, names or rates
-- with arguments, and of the rests of both lists.
use Rattle.std.proofs.Common.{◌≡◌, ◌∙◌, ◌+◌, ◌<◌, ◌≤◌, ◌⊎◌, inl, inr, ◌++◌, ℕ, min, drop, get_or, List, [], ◌∷◌, length}
use Rattle.std.proofs.Common.{map, Option, None, arith, refl, sym, ap, subst}
use Rattle.std.specs.Option.{option_or}
use Rattle.std.proofs.lemmas.List.{append-nil, append_assoc, drop_all, drop_more, get_or_default}
use Rattle.cs_base.specs.{Rates.at_rate, declared.fault.OrcFault.OrcFault, declared.resource.Rate.Rate}
use Rattle.cs_base.specs.declared.fault.Or.{Or}
use Rattle.cs_base.specs.declared.per_rate.PerRate.{PerRate}
use Rattle.cs_grammar.specs.{declared.tree.Arg.Arg, declared.tree.Expr.Expr}
use Rattle.cs_grammar.specs.declared.tree.Arg.TheVariants.{Value, Text}
use Rattle.cs_grammar.specs.Tree.{expression, argument, Argument, value, text}
use Rattle.cs_typed.specs.{declared.setting.Setting.Setting, declared.tree.TypedStmt.TypedStmt}
use Rattle.cs_typed.specs.declared.tree.Var.TheVariants.{Local}
use Rattle.cs_typed.proofs.Moved.{then_again}
use Rattle.cs_typing.specs.{Expressions.expression_by, Settings.at, Statements.set_fault_by, inner.Listed.Adds}
use Rattle.cs_typing.specs.inner.Routines.{Locals, KnownInBody, all_given_in, given_in, inputs_fault, known_in}
use Rattle.cs_typing.specs.inner.Routines.{knows_in, variable_in}
use Rattle.cs_typing.specs.inner.Answers.{HasFault}
use Rattle.cs_typing.specs.inner.Slots.{given_set, one_counted, slot_numbers, slots_fault, slots_past, slots_set}
use Rattle.cs_typing.specs.inner.Slots.{taken_fault, taken_kind, taken_set}
use Rattle.cs_words.specs.Names.{name_rate}
use Rattle.cs_udo.specs.Names.{slot}
use Rattle.cs_udo.proofs.Places.{dropped}
use Rattle.cs_typing.proofs.{Answers.fault_on, Joined.then_nothing}
use Rattle.cs_typed.specs.TypedTree as typed

-- a function of names and arguments, applied to both rests if each has a next item
pub both_next : {X R : Type 0} (f : List X → List Argument → R) (xs : List X) (as' : List Arg) (i : ℕ) (x : X) (a : Arg)
    (e : Expr) → i < length xs → x ≡ get_or xs i x → i < length as' → a ≡ get_or as' i a → a ≡ Value e
    → f (drop i xs) (map argument (drop i as'))
    ≡ f (x ∷ drop (i + 1) xs) (value (expression e) ∷ map argument (drop (i + 1) as'))
both_next f xs as' i x a e l p m q k =
    ap (λ ys. f ys (map argument (drop i as'))) (dropped xs i x l p)
    ∙ ap (λ ys. f (x ∷ drop (i + 1) xs) (map argument ys)) (dropped as' i a m q)
    ∙ ap (λ y. f (x ∷ drop (i + 1) xs) (argument y ∷ map argument (drop (i + 1) as'))) k

-- A function that has the result r if no name is left, no argument is left, or the next argument is no value.
pub record Ends (X R : Type 0) (f : List X → List Argument → R) (r : R) : Type 0 where
  pub none : (as' : List Argument) → f [] as' ≡ r
  pub last : (x : X) (xs : List X) → f (x ∷ xs) [] ≡ r
  pub word : (x : X) (xs : List X) (t : List ℕ) (as' : List Argument) → f (x ∷ xs) (text t ∷ as') ≡ r

pub at_end : (X R : Type 0) (f : List X → List Argument → R) (r : R) → Ends X R f r → (xs : List X) (as' : List Arg)
    (i : ℕ) → min (length xs) (length as') ≤ i → f (drop i xs) (map argument (drop i as')) ≡ r
at_end X R f r ends xs as' i h = by (one_of (length xs) (length as') i h)
  where
    one_of : (m n i : ℕ) → min m n ≤ i → (m ≤ i) ⊎ (n ≤ i)
    one_of m n i h = grind (arith)

    no_value : (ys : List X) → f ys [] ≡ r
    no_value [] = ends.none []
    no_value (y ∷ ys) = ends.last y ys

    by : (length xs ≤ i) ⊎ (length as' ≤ i) → f (drop i xs) (map argument (drop i as')) ≡ r
    by (inl l) = ap (λ ys. f ys (map argument (drop i as'))) (drop_all i xs l) ∙ ends.none (map argument (drop i as'))
    by (inr l) = ap (λ ys. f (drop i xs) (map argument ys)) (drop_all i as' l) ∙ no_value (drop i xs)

pub at_word : (X R : Type 0) (f : List X → List Argument → R) (r : R) → Ends X R f r → (xs : List X) (as' : List Arg)
    (i : ℕ) (a : Arg) (t : List ℕ) → i < length as' → a ≡ get_or as' i a → a ≡ Text t
    → f (drop i xs) (map argument (drop i as')) ≡ r
at_word X R f r ends xs as' i a t m q k =
    ap (λ ys. f (drop i xs) (map argument ys)) (dropped as' i a m q)
    ∙ ap (λ y. f (drop i xs) (argument y ∷ map argument (drop (i + 1) as'))) k ∙ no_value (drop i xs)
  where
    no_value : (ys : List X) → f ys (text t ∷ map argument (drop (i + 1) as')) ≡ r
    no_value [] = ends.none (text t ∷ map argument (drop (i + 1) as'))
    no_value (y ∷ ys) = ends.word y ys t (map argument (drop (i + 1) as'))

-- an index within two lists, if a count runs up to the smaller length of their copies
pub in_both : {X Y : Type 0} {ys : List X} {n end : ℕ} (xs : List X) (as' : List Y) (i : ℕ) → end ≡ min (length ys) n
    → ys ≡ xs → n ≡ length as' → i < end → i < min (length xs) (length as')
in_both xs as' i e same count h = subst (λ m. i < m) (e ∙ λ j. min (length (same j)) (count j)) h

-- an index beyond the end of one of them
pub past_both : {X Y : Type 0} {ys : List X} {n end : ℕ} (xs : List X) (as' : List Y) (i : ℕ) → end ≡ min (length ys) n
    → ys ≡ xs → n ≡ length as' → end ≤ i → min (length xs) (length as') ≤ i
past_both xs as' i e same count h = subst (λ m. m ≤ i) (e ∙ λ j. min (length (same j)) (count j)) h

-- ---- the faults and typed forms of names or rates with arguments

-- the fault and the typed form of the inputs
abbrev pub InputsMade : Type 0
InputsMade = Option OrcFault × typed.Block

-- the fault and the typed form of the assignments to inputs
abbrev pub inputs_made : Setting → KnownInBody → Locals → ℕ → List (List ℕ) → List Argument → InputsMade
inputs_made s k first line xs as' = (inputs_fault s k line xs as', given_set k first line xs as')

pub inputs_end : (s : Setting) (k : KnownInBody) (first : Locals) (line : ℕ)
    → Ends (List ℕ) InputsMade (inputs_made s k first line) (None, typed.no_stmt)
inputs_end s k first line = record { none = λ as'. refl; last = λ x xs. refl; word = λ x xs t as'. refl }

-- the fault, the typed form, the local variables and the numbers of slots
abbrev pub SlotsMade : Type 0
SlotsMade = Option OrcFault × typed.Block × Locals × List ℕ

-- the results of the assignments to slots
abbrev pub slots_made : Setting → KnownInBody → ℕ → List Rate → List Argument → SlotsMade
slots_made s k line rs as' = (
  slots_fault s k line rs as',
  slots_set k line rs as',
  slots_past k.locals rs as',
  slot_numbers k.locals.counts rs as',
)

-- the results without slots
abbrev pub no_slots : KnownInBody → SlotsMade
no_slots k = (None, typed.no_stmt, k.locals, [])

pub slots_end : (s : Setting) (k : KnownInBody) (line : ℕ) → Ends Rate SlotsMade (slots_made s k line) (no_slots k)
slots_end s k line = record { none = λ as'. refl; last = λ x xs. refl; word = λ x xs t as'. refl }

-- ---- statements that were added

-- one statement was added: the remaining ones come after it
pub added_one : (rs : List typed.Block) (old new : List TypedStmt) (one rest : typed.Block)
    → typed.block rs new ≡ typed.then_block (typed.block rs old) one → typed.then_block (typed.block rs new) rest
    ≡ typed.then_block (typed.block rs old) (typed.then_block one rest)
added_one rs old new one rest is =
    ap (λ b. typed.then_block b rest) is ∙ then_again (typed.block rs old) one rest

-- no statement is left to add
pub none_left : (rs : List typed.Block) (new : List TypedStmt) (rest all : typed.Block) → rest ≡ typed.no_stmt
    → typed.then_block (typed.block rs new) rest ≡ all → typed.block rs new ≡ all
none_left rs new rest all none is =
    sym (then_nothing (typed.block rs new)) ∙ sym (ap (λ b. typed.then_block (typed.block rs new) b) none) ∙ is

-- ---- the rest has the same fault as the whole, if the first item breaks no rule

pub fault_next : (first here next whole : Option OrcFault) → here ≡ option_or first next → first ≡ None → here ≡ whole
    → next ≡ whole
fault_next first here next whole split none was = sym (ap (λ f. option_or f next) none) ∙ sym split ∙ was

-- the fault of the first item is the fault of the whole
pub fault_first : (e : Or OrcFault) (first here next whole : Option OrcFault) → HasFault e first
    → here ≡ option_or first next → here ≡ whole → HasFault e whole
fault_first e first here next whole is split was =
    fault_on e first whole is (λ f h. sym was ∙ split ∙ ap (λ o. option_or o next) h)

-- one statement was added: the first of those that were left to add
pub made_next : (rs : List typed.Block) (old new : List TypedStmt) (is form : typed.Statement)
    (here next whole : typed.Block) → Adds old new (typed.alone is) → is ≡ form → here ≡ typed.andthen form next
    → typed.then_block (typed.block rs old) here ≡ whole → typed.then_block (typed.block rs new) next ≡ whole
made_next rs old new is form here next whole added same split was =
    added_one rs old new (typed.alone is) next (added rs)
    ∙ ap (λ y. typed.then_block (typed.block rs old) (typed.andthen y next)) same
    ∙ sym (ap (λ b. typed.then_block (typed.block rs old) b) split) ∙ was

-- ---- slots

module _ (s : Setting) (line : ℕ) where
  abbrev pub Says : KnownInBody → List TypedStmt → List ℕ → List Rate → List Argument → Option OrcFault
      → (List typed.Block → typed.Block) → KnownInBody → List ℕ → Type 0
  Says n done slots rs as' fault made known numbers =
      (slots_fault s n line rs as' ≡ fault)
      × ((bs : List typed.Block) → typed.then_block (typed.block bs done) (slots_set n line rs as') ≡ made bs)
      × (known_in n.shared (slots_past n.locals rs as') ≡ known)
      × (slots ++ slot_numbers n.locals.counts rs as' ≡ numbers)

  -- no slot is left
  pub slots_done : (k : KnownInBody) (old : List TypedStmt) (before : List ℕ) (rs : List Rate) (as' : List Argument)
      → slots_made s k line rs as' ≡ no_slots k
      → (fault : Option OrcFault) (made : List typed.Block → typed.Block) (known : KnownInBody) (numbers : List ℕ)
      → Says k old before rs as' fault made known numbers
      → (fault ≡ None) × ((bs : List typed.Block) → typed.block bs old ≡ made bs) × (k ≡ known) × (before ≡ numbers)
  slots_done k old before rs as' none fault made known numbers was = (
    sym was.0 ∙ ap (λ x. x.0) none,
    λ bs. none_left bs old _ (made bs) (ap (λ x. x.1) none) (was.1 bs),
    sym (ap (λ x. known_in k.shared x.2) none) ∙ was.2,
    sym (append-nil before) ∙ sym (ap (λ x. before ++ x.3) none) ∙ was.3,
  )

-- the fault of one slot

pub slot_fault : (s : Setting) (k : KnownInBody) (line : ℕ) (outs rates : List Rate) (args : List Arg) (i : ℕ)
    (d : Rate) (a : Arg) (e : Expr) (x : Or OrcFault) (whole : Option OrcFault)
    → i < length outs → i < length args → rates ≡ outs → a ≡ get_or args i a → a ≡ Value e
    → HasFault x (at line (set_fault_by s (knows_in k) (slot 0 (get_or rates i d)) (expression e)))
    → slots_fault s k line (drop i outs) (map argument (drop i args)) ≡ whole → HasFault x whole
slot_fault s k line outs rates args i d a e x whole front back same q v is was =
    let low : i < length rates = subst (λ xs. i < length xs) (sym same) front in
    let p : get_or rates i d ≡ get_or outs i (get_or rates i d) =
    get_or_default rates i d (get_or rates i d) low ∙ ap (λ xs. get_or xs i (get_or rates i d)) same in
    fault_first x _ _ _ whole is (both_next (slots_fault s k line) outs args i (get_or rates i d) a e front p back q v)
    was

-- one more slot

module _ (s : Setting) (k m : KnownInBody) (line : ℕ) (outs rates : List Rate) (args : List Arg) (i : ℕ) (d : Rate)
    (a : Arg) (e : Expr) (old new : List TypedStmt) (before after : List ℕ) (number : ℕ) where
  abbrev r : Rate
  r = get_or rates i d

  abbrev rest : List Argument
  rest = map argument (drop (i + 1) args)

  abbrev form : typed.Statement
  form = typed.set line r (Local r (at_rate k.locals.counts r)) (expression_by (variable_in k) (expression e))

  pub slots_next : i < length outs → i < length args → rates ≡ outs → a ≡ get_or args i a → a ≡ Value e
      → at line (set_fault_by s (knows_in k) (slot 0 r) (expression e)) ≡ None → Adds old new (typed.alone form)
      → m ≡ known_in k.shared (one_counted k.locals r) → number ≡ at_rate k.locals.counts r
      → after ≡ before ++ number ∷ []
      → (fault : Option OrcFault) (made : List typed.Block → typed.Block) (known : KnownInBody) (numbers : List ℕ)
      → Says s line k old before (drop i outs) (map argument (drop i args)) fault made known numbers
      → Says s line m new after (drop (i + 1) outs) rest fault made known numbers
  slots_next front back same q v none added on num pushed fault made known numbers was =
      let low : i < length rates = subst (λ xs. i < length xs) (sym same) front in
      let p : r ≡ get_or outs i r = get_or_default rates i d r low ∙ ap (λ xs. get_or xs i r) same in
      let next = both_next (slots_made s k line) outs args i r a e front p back q v in (
        ap (λ n. slots_fault s n line (drop (i + 1) outs) rest) on
            ∙ fault_next (at line (set_fault_by s (knows_in k) (slot 0 r) (expression e))) _ _ fault
            (ap (λ x. x.0) next) none was.0,
        λ bs. ap (λ n. typed.then_block (typed.block bs new) (slots_set n line (drop (i + 1) outs) rest)) on
            ∙ made_next bs old new form form _ _ (made bs) added refl (ap (λ x. x.1) next) (was.1 bs),
        ap (λ n. known_in n.shared (slots_past n.locals (drop (i + 1) outs) rest)) on
            ∙ sym (ap (λ x. known_in k.shared x.2) next) ∙ was.2,
        ap (λ ns. ns ++ slot_numbers m.locals.counts (drop (i + 1) outs) rest) pushed
            ∙ append_assoc before (number ∷ []) (slot_numbers m.locals.counts (drop (i + 1) outs) rest)
            ∙ (λ j. before ++ num j ∷ slot_numbers (on j).locals.counts (drop (i + 1) outs) rest)
            ∙ sym (ap (λ x. before ++ x.3) next) ∙ was.3,
      )

-- the rest of a list that equals another list
pub shifted : (rates outs : List Rate) (i : ℕ) (d : Rate) → rates ≡ outs → i < length rates
    → drop i outs ≡ get_or rates i d ∷ drop (i + 1) outs
shifted rates outs i d same low =
    sym (ap (λ ys. drop i ys) same) ∙ drop_more rates i d low ∙ ap (λ ys. get_or rates i d ∷ drop (i + 1) ys) same

-- ---- one more result

nothing_judged : (s : Setting) (line : ℕ) (ys : List (List ℕ)) → taken_fault s line ys [] ≡ None
nothing_judged s line [] = refl
nothing_judged s line (y ∷ ys) = refl

nothing_taken : (k : KnownInBody) (base : PerRate ℕ) (line : ℕ) (ys : List (List ℕ)) (ns : List ℕ)
    → taken_set k base line ys [] ns ≡ typed.no_stmt
nothing_taken k base line [] ns = refl
nothing_taken k base line (y ∷ ys) ns = refl

module _ (s : Setting) (k m : KnownInBody) (base : PerRate ℕ) (line : ℕ) (xs : List (List ℕ)) (outs : List Rate)
    (slots : List ℕ) (i : ℕ) (x : List ℕ) (old new : List TypedStmt) where
  abbrev Left : KnownInBody → List TypedStmt → List (List ℕ) → List Rate → List ℕ → Option OrcFault
      → (List typed.Block → typed.Block) → KnownInBody → Type 0
  Left n done ys rs ns fault made known =
      (taken_fault s line ys rs ≡ fault)
      × ((bs : List typed.Block) → typed.then_block (typed.block bs done) (taken_set n base line ys rs ns) ≡ made bs)
      × (known_in n.shared (all_given_in n.locals ys) ≡ known)

  abbrev taken_form : Rate → ℕ → typed.Statement
  taken_form r n =
      typed.set line (name_rate x) (variable_in k x) (typed.var r (Local r (at_rate base r + n)))

  -- a result that has a slot
  pub one_taken : (r : Rate) (n : ℕ) → drop i xs ≡ x ∷ drop (i + 1) xs → drop i outs ≡ r ∷ drop (i + 1) outs
      → drop i slots ≡ n ∷ drop (i + 1) slots
      → at line (taken_kind s x r) ≡ None → Adds old new (typed.alone (taken_form r n))
      → m ≡ known_in k.shared (given_in k.locals x)
      → (fault : Option OrcFault) (made : List typed.Block → typed.Block) (known : KnownInBody)
      → Left k old (drop i xs) (drop i outs) (drop i slots) fault made known
      → Left m new (drop (i + 1) xs) (drop (i + 1) outs) (drop (i + 1) slots) fault made known
  one_taken r n p q t none added on fault made known was = (
    fault_next (at line (taken_kind s x r)) _ _ fault (λ j. taken_fault s line (p j) (q j)) none was.0,
    λ bs. ap (λ l. typed.then_block (typed.block bs new)
        (taken_set l base line (drop (i + 1) xs) (drop (i + 1) outs) (drop (i + 1) slots))) on
        ∙ made_next bs old new (taken_form r n) (taken_form r n) _ _ (made bs) added refl
        (λ j. taken_set k base line (p j) (q j) (t j)) (was.1 bs),
    ap (λ l. known_in l.shared (all_given_in l.locals (drop (i + 1) xs))) on
        ∙ sym (ap (λ ys. known_in k.shared (all_given_in k.locals ys)) p) ∙ was.2,
  )

  -- a result that has none
  pub none_taken : drop i xs ≡ x ∷ drop (i + 1) xs → length outs ≤ i → new ≡ old
      → m ≡ known_in k.shared (given_in k.locals x)
      → (fault : Option OrcFault) (made : List typed.Block → typed.Block) (known : KnownInBody)
      → Left k old (drop i xs) (drop i outs) (drop i slots) fault made known
      → Left m new (drop (i + 1) xs) (drop (i + 1) outs) (drop (i + 1) slots) fault made known
  none_taken p past same on fault made known was =
      let here : drop i outs ≡ [] = drop_all i outs past in
      let next : drop (i + 1) outs ≡ [] = drop_all (i + 1) outs (omega (arith, past)) in (
        ap (taken_fault s line (drop (i + 1) xs)) next ∙ nothing_judged s line (drop (i + 1) xs)
            ∙ sym (ap (taken_fault s line (drop i xs)) here ∙ nothing_judged s line (drop i xs)) ∙ was.0,
        λ bs. (λ j. typed.then_block (typed.block bs (same j))
            (taken_set m base line (drop (i + 1) xs) (next j) (drop (i + 1) slots)))
            ∙ ap (typed.then_block (typed.block bs old))
            (nothing_taken m base line (drop (i + 1) xs) (drop (i + 1) slots)
            ∙ sym (ap (λ rs. taken_set k base line (drop i xs) rs (drop i slots)) here
            ∙ nothing_taken k base line (drop i xs) (drop i slots))) ∙ was.1 bs,
        ap (λ l. known_in l.shared (all_given_in l.locals (drop (i + 1) xs))) on
            ∙ sym (ap (λ ys. known_in k.shared (all_given_in k.locals ys)) p) ∙ was.2,
      )
