-- A routine used again, after more names are shared: it breaks no rule, its typed form is the same, and it
-- adds no shared name.
use Rattle.std.proofs.Common.{◌≡◌, ◌∙◌, ℕ, Bool, true, false, not, if◌then◌else◌, List, [], ◌∷◌, map, Option, Some}
use Rattle.std.proofs.Common.{None, refl, sym, ap, subst}
use Rattle.std.specs.{Option.option_or, Str.bytes_eq}
use Rattle.std.proofs.lemmas.Slice.Eq.{bytes_eq-Decides}
use Rattle.cs_base.proofs.Tests.{both_none}
use Rattle.cs_base.specs.{declared.fault.OrcFault.OrcFault, declared.per_rate.PerRate.PerRate}
use Rattle.cs_words.specs.{Catalogue.Row, Catalogue.row_of, NameSets.has, NameSets.seen, Names.name_rate}
use Rattle.cs_words.specs.{Names.is_global, declared.catalogue.Opcode.Opcode}
use Rattle.cs_words.proofs.Places.{seen_is_there}
use Rattle.cs_grammar.specs.{declared.tree.Callee.Callee, Tree.otherwise, Tree.arm, Tree.Definition}
use Rattle.cs_grammar.specs.Tree.{var, Argument, value, Statement, set, call, choose, Block, no_stmt, andthen, Arms}
use Rattle.cs_typed.specs.TypedTree.{moved_variable, moved_block, then_block}
use Rattle.cs_typed.specs.declared.setting.Setting.{Setting}
use Rattle.cs_udo.specs.Expanded.{whole_body}
use Rattle.cs_typing.specs.Calls.{bound_of, channel_use, text_of, is_too_wide, all_read_by, rates_agree, counts_agree}
use Rattle.cs_typing.specs.Calls.{row_fault_by, call_fault_by, call_shared, call_rate, arguments_by, row_by, call_by}
use Rattle.cs_typing.specs.{Expressions.Variables, Expressions.expression_by, Settings.at}
use Rattle.cs_typing.specs.{declared.known.Channel.Channel, inner.Routines.with_routine, inner.Routines.with_routines}
use Rattle.cs_typing.specs.Known.{in_table, place_in, Shared, use_channel, clashes, global}
use Rattle.cs_typing.specs.Statements.{set_fault_by, condition_fault_by, choice_rate}
use Rattle.cs_typing.specs.inner.Routines.{Locals, has_local, number_in, given_in, past_call, known_in, knows_in}
use Rattle.cs_typing.specs.inner.Routines.{variable_in, Routine, Routines, no_routines, routine_called, inputs_fault}
use Rattle.cs_typing.specs.inner.Routines.{inputs_set, results_fault, results_set, locals_after, locals_after_block}
use Rattle.cs_typing.specs.inner.Routines.{shared_after_call, shared_after, shared_after_block, shared_after_arms}
use Rattle.cs_typing.specs.inner.Routines.{known_after, known_after_block, call_fault_in, fault_in, block_fault_in}
use Rattle.cs_typing.specs.inner.Routines.{arms_fault_in, call_in, typed_in, typed_block_in, typed_arms_in, routine_of}
use Rattle.cs_typing.proofs.{Added.seen_other, Added.seen_there, Later.has_on, Rules.at_none, Rules.keeps_rules}
use Rattle.cs_typing.proofs.ChannelTexts.{OneText, one_text, texts_same, plain_same}
use Rattle.cs_typing.proofs.KnownLater.{SharedGoesOn, shared_stays, shared_further, used_on, channel_same}
use Rattle.cs_base.specs.declared.fault.OrcKind.TheVariants as orc
use Rattle.cs_grammar.specs.declared.tree.Callee.TheVariants as callee
use Rattle.cs_typed.specs.TypedTree as typed
use Rattle.cs_typed.specs.declared.tree.Var.TheVariants as variant
use Rattle.cs_typing.specs.declared.known.Channel.TheVariants as channel

-- No name is a channel of both kinds.
pub record Apart (g : Shared) : Type 0 where
  pub sound : (t : List ℕ) → has g.control t ≡ true → has g.sound t ≡ false

control_free : (g : Shared) → Apart g → (t : List ℕ) → has g.sound t ≡ true → has g.control t ≡ false
control_free g a t h = by (has g.control t) refl
  where
    by : (b : Bool) → has g.control t ≡ b → b ≡ false
    by true e = absurd (cc (sym h ∙ a.sound t e))
    by false e = refl

-- Used again, with more shared names: no rule is broken, no shared name is added, and the typed form is
-- unchanged.
pub record Again {F : Type 0} (h : Shared) (fault : Option OrcFault) (shared : Shared) (now was : F) : Type 0 where
  pub sound : fault ≡ None
  pub same : shared ≡ h
  pub form : now ≡ was

-- a routine used again, with the shared names h after g
abbrev pub IsAgain : Routine → Setting → Shared → Shared → Type 0
IsAgain r s g h = Again h (r.fault s h) (r.shared h) (r.block h) (r.block g)

-- The behaviour of a routine when more names are shared.
pub record Steady (r : Routine) : Type 0 where
  pub on : (g : Shared) → SharedGoesOn g (r.shared g)
  pub apart : (s : Setting) (g : Shared) → Apart g → r.fault s g ≡ None → Apart (r.shared g)
  pub again : (s : Setting) (g h : Shared) → Apart h → SharedGoesOn (r.shared g) h → r.fault s g ≡ None
      → IsAgain r s g h

abbrev IsSteady : Option Routine → Type 0
IsSteady None = Unit {0}
IsSteady (Some r) = Steady r

-- each of the routines behaves in this way
abbrev pub AllSteady : Routines → Type 0
AllSteady rs = (name : List ℕ) → IsSteady (rs name)

at_callee : (rs : Routines) → AllSteady rs → (c : Callee) → IsSteady (routine_called rs c)
at_callee rs m (callee.Opcode o) = tt
at_callee rs m (callee.Name name) = m name

-- ---- only global variables are read

knows_again : (g h : Shared) (l : Locals) → h.globals ≡ g.globals → knows_in (known_in h l) ≡ knows_in (known_in g l)
knows_again g h l e = λ i x. if is_global x then in_table (e i) x else has_local l x

variable_again : (g h : Shared) (l : Locals) → h.globals ≡ g.globals
    → variable_in (known_in h l) ≡ variable_in (known_in g l)
variable_again g h l e = λ i x. if is_global x then variant.Global (global (name_rate x) (place_in (e i) x))
    else variant.Local (name_rate x) (number_in l x)

-- ---- a channel that is used again

clash_again : (g h : Shared) → Apart h → (role : Option Channel) (t : List ℕ) → SharedGoesOn (use_channel g role t) h
    → clashes h role t ≡ false
clash_again g h a None t on = refl
clash_again g h a (Some channel.Control) t on =
    a.sound t (has_on (seen g.control t) h.control t on.control (seen_is_there g.control t))
clash_again g h a (Some channel.Sound) t on =
    control_free h a t (has_on (seen g.sound t) h.sound t on.sound (seen_is_there g.sound t))

use_again : (g h : Shared) (role : Option Channel) (t : List ℕ) → SharedGoesOn (use_channel g role t) h
    → use_channel h role t ≡ h
use_again g h None t on = refl
use_again g h (Some channel.Control) t on =
    let there = seen_there h.control t (has_on (seen g.control t) h.control t on.control (seen_is_there g.control t)) in
    λ i. record { globals = h.globals; control = there i; sound = h.sound }
use_again g h (Some channel.Sound) t on =
    let there = seen_there h.sound t (has_on (seen g.sound t) h.sound t on.sound (seen_is_there g.sound t)) in
    λ i. record { globals = h.globals; control = h.control; sound = there i }

-- using a channel without a clash keeps the kinds separate
one_is : (xs : List (List ℕ)) (t u : List ℕ) (b : Bool) → bytes_eq u t ≡ b → has (seen xs t) u ≡ true
    → (has xs u ≡ true → false ≡ true) → u ≡ t
one_is xs t u true e h none = (bytes_eq-Decides u t).0 e
one_is xs t u false e h none = absurd (cc (none (sym (seen_other xs t u isnt) ∙ h)))
  where
    isnt : u ≡ t → ⊥
    isnt same = absurd (cc (sym e ∙ (bytes_eq-Decides u t).1 same))

used_apart : (g : Shared) → Apart g → (role : Option Channel) (t : List ℕ) → clashes g role t ≡ false
    → Apart (use_channel g role t)
used_apart g a None t c = a
used_apart g a (Some channel.Control) t c = record { sound = λ u h. by u (has g.control u) refl h }
  where
    by : (u : List ℕ) (b : Bool) → has g.control u ≡ b → has (seen g.control t) u ≡ true → has g.sound u ≡ false
    by u true e h = a.sound u e
    by u false e h =
        ap (has g.sound) (one_is g.control t u (bytes_eq u t) refl h (λ k. sym e ∙ k)) ∙ c
used_apart g a (Some channel.Sound) t c = record { sound = λ u h. by u (has (seen g.sound t) u) refl h }
  where
    by : (u : List ℕ) (b : Bool) → has (seen g.sound t) u ≡ b → has g.control u ≡ true → b ≡ false
    by u false e h = refl
    by u true e h =
        let is_t = one_is g.sound t u (bytes_eq u t) refl e (λ k. sym (a.sound u h) ∙ k) in
        absurd (cc (sym (sym (ap (has g.control) is_t) ∙ h) ∙ c))

-- ---- calls of the catalogue

module _ (s : Setting) (g h : Shared) (a : Apart h) (l : Locals) where
  row_again : (row : Row) (xs : List (List ℕ)) (args : List Argument) → h.globals ≡ g.globals
      → SharedGoesOn (use_channel g (channel_use row.shape xs args) (text_of args)) h
      → row_fault_by s g (knows_in (known_in g l)) row xs args ≡ None
      → row_fault_by s h (knows_in (known_in h l)) row xs args ≡ None
  row_again row xs args e on none =
      let keeps = keeps_rules s g (knows_in (known_in g l)) row xs args none in
      let clash : clashes h (channel_use row.shape xs args) (text_of args)
      ≡ clashes g (channel_use row.shape xs args) (text_of args) =
      clash_again g h a (channel_use row.shape xs args) (text_of args) on ∙ sym keeps.clash in
      (λ i. if not (counts_agree row xs args) then Some orc.ArgCount
      else (if not (all_read_by (knows_again g h l e i) args) then Some orc.Undefined
      else (if not (rates_agree s row xs args) then Some orc.RateMismatch else (if clash i then Some orc.ChannelRate
      else (if is_too_wide s row.shape args then Some orc.OutCount else None))))) ∙ none

  channels_again : (role : Option Channel) (args : List Argument) → OneText role args
      → SharedGoesOn (use_channel g role (text_of args)) h → (v : Variables)
      → arguments_by h v role args ≡ arguments_by g v role args
  channels_again None args one on v = plain_same g h v args
  channels_again (Some kind) args one on v =
      texts_same g h v kind (text_of args) (sym (channel_same g h kind (text_of args) on)) args one

  row_form_again : (line : ℕ) (o : Opcode) (xs : List (List ℕ)) (args : List Argument) → h.globals ≡ g.globals
      → SharedGoesOn (use_channel g (channel_use (row_of o).shape xs args) (text_of args)) h
      → row_fault_by s g (knows_in (known_in g l)) (row_of o) xs args ≡ None
      → row_by line h (variable_in (known_in h l)) o (row_of o) xs args
      ≡ row_by line g (variable_in (known_in g l)) o (row_of o) xs args
  row_form_again line o xs args e on none =
      let row = row_of o in
      let keeps = keeps_rules s g (knows_in (known_in g l)) row xs args none in
      let one = one_text o (bound_of xs) xs args keeps.args_count keeps.fit in
      let role = channel_use row.shape xs args in
      ap (λ v. row_by line h v o row xs args) (variable_again g h l e)
      ∙ ap (λ made. typed.call line (call_rate row.shape xs args) (map (variable_in (known_in g l)) xs) o made)
      (channels_again role args one on (variable_in (known_in g l)))

  catalogue_again : (line : ℕ) (c : Callee) (xs : List (List ℕ)) (args : List Argument) → h.globals ≡ g.globals
      → SharedGoesOn (call_shared g c xs args) h
      → at line (call_fault_by s g (knows_in (known_in g l)) c xs args) ≡ None
      → Again h (at line (call_fault_by s h (knows_in (known_in h l)) c xs args)) (call_shared h c xs args)
      (typed.alone (call_by line h (variable_in (known_in h l)) c xs args))
      (typed.alone (call_by line g (variable_in (known_in g l)) c xs args))
  catalogue_again line (callee.Opcode o) xs args e on none =
      let right = at_none line (row_fault_by s g (knows_in (known_in g l)) (row_of o) xs args) none in
      record {
        sound = ap (at line) (row_again (row_of o) xs args e on right);
        same = use_again g h (channel_use (row_of o).shape xs args) (text_of args) on;
        form = ap typed.alone (row_form_again line o xs args e on right);
      }
  catalogue_again line (callee.Name name) xs args e on none = absurd (cc none)

call_on : (g : Shared) (c : Callee) (xs : List (List ℕ)) (args : List Argument)
    → SharedGoesOn g (call_shared g c xs args)
call_on g (callee.Opcode o) xs args = used_on g (channel_use (row_of o).shape xs args) (text_of args)
call_on g (callee.Name name) xs args = shared_stays g

call_apart : (s : Setting) (g : Shared) → Apart g → (is_known : List ℕ → Bool) (line : ℕ) (c : Callee)
    (xs : List (List ℕ)) (args : List Argument) → at line (call_fault_by s g is_known c xs args) ≡ None
    → Apart (call_shared g c xs args)
call_apart s g a is_known line (callee.Opcode o) xs args none =
    let keeps = keeps_rules s g is_known (row_of o) xs args
    (at_none line (row_fault_by s g is_known (row_of o) xs args) none) in
    used_apart g a (channel_use (row_of o).shape xs args) (text_of args) keeps.clash
call_apart s g a is_known line (callee.Name name) xs args none = a

-- ---- calls of routines

inputs_again : (s : Setting) (g h : Shared) (l : Locals) (line : ℕ) → h.globals ≡ g.globals
    → (xs : List (List ℕ)) (args : List Argument)
    → inputs_fault s (known_in h l) line xs args ≡ inputs_fault s (known_in g l) line xs args
inputs_again s g h l line e (x ∷ xs) (value v ∷ args) =
    λ i. option_or (at line (set_fault_by s (knows_again g h l e i) x v)) (inputs_again s g h l line e xs args i)
inputs_again s g h l line e xs args = refl

inputs_form_again : (g h : Shared) (l : Locals) (r : Routine) (line : ℕ) → h.globals ≡ g.globals
    → (xs : List (List ℕ)) (args : List Argument)
    → inputs_set (known_in h l) r line xs args ≡ inputs_set (known_in g l) r line xs args
inputs_form_again g h l r line e (x ∷ xs) (value v ∷ args) =
    λ i. typed.andthen (typed.set line (name_rate x) (moved_variable l.counts (variable_again g h r.first e i x))
    (expression_by (variable_again g h l e i) v)) (inputs_form_again g h l r line e xs args i)
inputs_form_again g h l r line e xs args = refl

results_again : (s : Setting) (g h : Shared) (r : Routine) (line : ℕ) → h.globals ≡ g.globals
    → (xs ys : List (List ℕ)) → results_fault s h r line xs ys ≡ results_fault s g r line xs ys
results_again s g h r line e (x ∷ xs) (y ∷ ys) =
    λ i. option_or (at line (set_fault_by s (knows_again g h r.last e i) x (var y)))
    (results_again s g h r line e xs ys i)
results_again s g h r line e xs ys = refl

results_form_again : (g h : Shared) (l : Locals) (base : PerRate ℕ) (r : Routine) (line : ℕ) → h.globals ≡ g.globals
    → (xs ys : List (List ℕ))
    → results_set (known_in h l) base r line xs ys ≡ results_set (known_in g l) base r line xs ys
results_form_again g h l base r line e (x ∷ xs) (y ∷ ys) =
    λ i. typed.andthen (typed.set line (name_rate x) (variable_again g h l e i x)
    (typed.var (name_rate y) (moved_variable base (variable_again g h r.last e i y))))
    (results_form_again g h (given_in l x) base r line e xs ys i)
results_form_again g h l base r line e xs ys = refl

-- ---- any call

any_on : (g : Shared) (c : Callee) (xs : List (List ℕ)) (args : List Argument) (r : Option Routine) → IsSteady r
    → SharedGoesOn g (shared_after_call g c xs args r)
any_on g c xs args None m = call_on g c xs args
any_on g c xs args (Some r) m = m.on g

any_again : (s : Setting) (g h : Shared) → Apart h → (l : Locals) (line : ℕ) (c : Callee) (xs : List (List ℕ))
    (args : List Argument) (r : Option Routine) → IsSteady r → SharedGoesOn (shared_after_call g c xs args r) h
    → call_fault_in s (known_in g l) line xs c args r ≡ None
    → Again h (call_fault_in s (known_in h l) line xs c args r) (shared_after_call h c xs args r)
    (call_in (known_in h l) line xs c args r) (call_in (known_in g l) line xs c args r)
any_again s g h a l line c xs args None m on none =
    catalogue_again s g h a l line c xs args (on.globals ∙ (call_on g c xs args).globals) on none
any_again s g h a l line c xs args (Some r) m on none =
    let first = both_none (inputs_fault s (known_in g l) line r.inputs args)
    (option_or (r.fault s g) (results_fault s (r.shared g) r line xs r.results)) none in
    let rest = both_none (r.fault s g) (results_fault s (r.shared g) r line xs r.results) first.1 in
    let body = m.again s g h a on rest.0 in
    let e = on.globals ∙ (m.on g).globals in
    let last = ap (λ z. z.globals) body.same ∙ on.globals in
    record {
      sound = (λ i. option_or (inputs_again s g h l line e r.inputs args i)
          (option_or (body.sound i) (results_again s (r.shared g) (r.shared h) r line last xs r.results i)))
          ∙ (λ i. option_or (first.0 i) (option_or None (rest.1 i)));
      same = body.same;
      form = λ i. then_block (inputs_form_again g h l r line e r.inputs args i)
          (then_block (moved_block l.counts (body.form i))
          (results_form_again (r.shared g) (r.shared h) (past_call l r.last.counts) l.counts r line last xs r.results
          i));
    }

any_apart : (s : Setting) (g : Shared) → Apart g → (l : Locals) (line : ℕ) (c : Callee) (xs : List (List ℕ))
    (args : List Argument) (r : Option Routine) → IsSteady r → call_fault_in s (known_in g l) line xs c args r ≡ None
    → Apart (shared_after_call g c xs args r)
any_apart s g a l line c xs args None m none = call_apart s g a (knows_in (known_in g l)) line c xs args none
any_apart s g a l line c xs args (Some r) m none =
    let parts = both_none (inputs_fault s (known_in g l) line r.inputs args)
    (option_or (r.fault s g) (results_fault s (r.shared g) r line xs r.results)) none in
    let more = both_none (r.fault s g) (results_fault s (r.shared g) r line xs r.results) parts.1 in
    m.apart s g a more.0

-- ---- statements

module _ (rs : Routines) (m : AllSteady rs) where
  mutual
    pub stmt_on : (g : Shared) (x : Statement) → SharedGoesOn g (shared_after rs g x)
    stmt_on g (set line x e) = shared_stays g
    stmt_on g (call line xs c args) = any_on g c xs args (routine_called rs c) (at_callee rs m c)
    stmt_on g (choose line list) = arms_on g list

    pub block_on : (g : Shared) (b : Block) → SharedGoesOn g (shared_after_block rs g b)
    block_on g no_stmt = shared_stays g
    block_on g (andthen x rest) =
        let f = shared_after rs g x in
        shared_further g f (shared_after_block rs f rest) (stmt_on g x) (block_on f rest)

    arms_on : (g : Shared) (list : Arms) → SharedGoesOn g (shared_after_arms rs g list)
    arms_on g (otherwise b) = block_on g b
    arms_on g (arm c b rest) =
        let f = shared_after_block rs g b in
        shared_further g f (shared_after_arms rs f rest) (block_on g b) (arms_on f rest)

  module _ (s : Setting) where
    mutual
      pub stmt_apart : (g : Shared) → Apart g → (l : Locals) (x : Statement) → fault_in s rs (known_in g l) x ≡ None
          → Apart (shared_after rs g x)
      stmt_apart g a l (set line x e) none = a
      stmt_apart g a l (call line xs c args) none =
          any_apart s g a l line c xs args (routine_called rs c) (at_callee rs m c) none
      stmt_apart g a l (choose line list) none = arms_apart g a l line list none

      pub block_apart : (g : Shared) → Apart g → (l : Locals) (b : Block)
          → block_fault_in s rs (known_in g l) b ≡ None → Apart (shared_after_block rs g b)
      block_apart g a l no_stmt none = a
      block_apart g a l (andthen x rest) none =
          let k = known_in g l in
          let parts = both_none (fault_in s rs k x) (block_fault_in s rs (known_after rs k x) rest) none in
          block_apart (shared_after rs g x) (stmt_apart g a l x parts.0) (locals_after rs l x) rest parts.1

      arms_apart : (g : Shared) → Apart g → (l : Locals) (line : ℕ) (list : Arms)
          → arms_fault_in s rs (known_in g l) line list ≡ None → Apart (shared_after_arms rs g list)
      arms_apart g a l line (otherwise b) none = block_apart g a l b none
      arms_apart g a l line (arm c b rest) none =
          let k = known_in g l in
          let behind = arms_fault_in s rs (known_after_block rs k b) line rest in
          let parts = both_none (at line (condition_fault_by s (knows_in k) c))
          (option_or (block_fault_in s rs k b) behind) none in
          let more = both_none (block_fault_in s rs k b) behind parts.1 in
          arms_apart (shared_after_block rs g b) (block_apart g a l b more.0) (locals_after_block rs l b) line rest
          more.1

    -- with more shared names
    module _ (h : Shared) (a : Apart h) where
      mutual
        stmt_again : (g : Shared) (l : Locals) (x : Statement) → SharedGoesOn (shared_after rs g x) h
            → fault_in s rs (known_in g l) x ≡ None
            → Again h (fault_in s rs (known_in h l) x) (shared_after rs h x) (typed_in rs (known_in h l) x)
            (typed_in rs (known_in g l) x)
        stmt_again g l (set line x e) on none = record {
          sound = ap (λ known. at line (set_fault_by s known x e)) (knows_again g h l on.globals) ∙ none;
          same = refl;
          form = ap (λ (v : Variables). typed.alone (typed.set line (name_rate x) (v x) (expression_by v e)))
              (variable_again g h l on.globals);
        }
        stmt_again g l (call line xs c args) on none =
            any_again s g h a l line c xs args (routine_called rs c) (at_callee rs m c) on none
        stmt_again g l (choose line list) on none =
            let all = arms_again g l line list on none in
            record {
              sound = all.sound;
              same = all.same;
              form = ap (λ z. typed.alone (typed.choose line (choice_rate list) z)) all.form;
            }

        pub block_again : (g : Shared) (l : Locals) (b : Block) → SharedGoesOn (shared_after_block rs g b) h
            → block_fault_in s rs (known_in g l) b ≡ None
            → Again h (block_fault_in s rs (known_in h l) b) (shared_after_block rs h b)
            (typed_block_in rs (known_in h l) b) (typed_block_in rs (known_in g l) b)
        block_again g l no_stmt on none = record { sound = refl; same = refl; form = refl }
        block_again g l (andthen x rest) on none =
            let k = known_in g l in
            let f = shared_after rs g x in
            let j = locals_after rs l x in
            let parts = both_none (fault_in s rs k x) (block_fault_in s rs (known_after rs k x) rest) none in
            let here = shared_further f (shared_after_block rs f rest) h (block_on f rest) on in
            let first = stmt_again g l x here parts.0 in
            let last = block_again f j rest on parts.1 in
            record {
              sound = (λ i. option_or (first.sound i) (block_fault_in s rs (known_in (first.same i) j) rest))
                  ∙ last.sound;
              same = ap (λ z. shared_after_block rs z rest) first.same ∙ last.same;
              form = (λ i. then_block (first.form i) (typed_block_in rs (known_in (first.same i) j) rest))
                  ∙ ap (then_block (typed_in rs k x)) last.form;
            }

        arms_again : (g : Shared) (l : Locals) (line : ℕ) (list : Arms) → SharedGoesOn (shared_after_arms rs g list) h
            → arms_fault_in s rs (known_in g l) line list ≡ None
            → Again h (arms_fault_in s rs (known_in h l) line list) (shared_after_arms rs h list)
            (typed_arms_in rs (known_in h l) list) (typed_arms_in rs (known_in g l) list)
        arms_again g l line (otherwise b) on none =
            let all = block_again g l b on none in
            record { sound = all.sound; same = all.same; form = ap typed.otherwise all.form }
        arms_again g l line (arm c b rest) on none =
            let k = known_in g l in
            let f = shared_after_block rs g b in
            let j = locals_after_block rs l b in
            let behind = arms_fault_in s rs (known_after_block rs k b) line rest in
            let parts = both_none (at line (condition_fault_by s (knows_in k) c))
            (option_or (block_fault_in s rs k b) behind) none in
            let more = both_none (block_fault_in s rs k b) behind parts.1 in
            let here = shared_further f (shared_after_arms rs f rest) h (arms_on f rest) on in
            let e = here.globals ∙ (block_on g b).globals in
            let first = block_again g l b here more.0 in
            let last = arms_again f j line rest on more.1 in
            record {
              sound = (λ i. option_or (at line (condition_fault_by s (knows_again g h l e i) c))
                  (option_or (first.sound i) (arms_fault_in s rs (known_in (first.same i) j) line rest)))
                  ∙ (λ i. option_or (parts.0 i) (last.sound i));
              same = ap (λ z. shared_after_arms rs z rest) first.same ∙ last.same;
              form = (λ i. typed.arm (expression_by (variable_again g h l e i) c) (first.form i)
                  (typed_arms_in rs (known_in (first.same i) j) rest))
                  ∙ ap (typed.arm (expression_by (variable_in k) c) (typed_block_in rs k b)) last.form;
            }

-- ---- definitions

pub definition_steady : (rs : Routines) → AllSteady rs → (d : Definition) → Steady (routine_of rs d)
definition_steady rs m d =
    let l = (routine_of rs d).first in
    let b = whole_body d in
    record {
      on = λ g. block_on rs m g b;
      apart = λ s g a none. block_apart rs m s g a l b none;
      again = λ s g h a on none. block_again rs m s h a g l b on none;
    }

one_steady : (rs : Routines) → AllSteady rs → (d : Definition) → AllSteady (with_routine rs d)
one_steady rs m d name = by (rs name) (m name) (bytes_eq name d.name)
  where
    by : (r : Option Routine) → IsSteady r → (b : Bool)
        → IsSteady (option_or r (if b then Some (routine_of rs d) else None))
    by None h true = definition_steady rs m d
    by None h false = tt
    by (Some r) h b = h

pub all_steady : (rs : Routines) → AllSteady rs → (ds : List Definition) → AllSteady (with_routines rs ds)
all_steady rs m [] = m
all_steady rs m (d ∷ ds) = all_steady (with_routine rs d) (one_steady rs m d) ds

pub none_steady : AllSteady no_routines
none_steady name = tt

-- ---- a definition that has been typed, and one that is typed for the first time

-- if all its channels have been used before, then with more shared names it breaks no rule, does the same,
-- and uses no new channel
module _ (r : Routine) (m : Steady r) (s : Setting) (g : Shared) (none : r.fault s g ≡ None) where
  pub again_from : (h : Shared) → Apart h → r.shared g ≡ g → SharedGoesOn g h → IsAgain r s g h
  again_from h a e on = m.again s g h a (subst (λ z. SharedGoesOn z h) (sym e) on) none

  -- after its first call
  pub first_again : Apart g → IsAgain r s g (r.shared g)
  first_again a = m.again s g (r.shared g) (m.apart s g a none) (shared_stays (r.shared g)) none
