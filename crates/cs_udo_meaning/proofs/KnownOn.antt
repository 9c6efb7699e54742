-- Known names remain known, and the typed form of statements without a fault depends only on the names known
-- at the end.
use Rattle.std.proofs.Common.{◌≡◌, ◌∙◌, ℕ, suc, ◌==◌, Bool, true, false, not, ◌&&◌, if◌then◌else◌, List, ◌∷◌, []}
use Rattle.std.proofs.Common.{length, map, Option, Some, None, arith, refl, sym, ap}
use Rattle.std.proofs.lemmas.{Bool.and_parts, Bool.Decides.nat_tests, Grind.common_steps}
use Rattle.cs_base.proofs.Tests.{both_none}
use Rattle.cs_base.specs.{declared.fault.OrcKind.OrcKind, declared.resource.Rate.Rate}
use Rattle.cs_words.specs.Catalogue.{Row, row_of, takes_count, result_count}
use Rattle.cs_words.specs.{Names.name_rate, declared.catalogue.Opcode.Opcode}
use Rattle.cs_grammar.specs.declared.tree.Callee.{Callee}
use Rattle.cs_grammar.specs.Tree.{Expression, var, neg, pair, pick, apply, Argument, value, text, Statement, set, call}
use Rattle.cs_grammar.specs.Tree.{choose, Block, no_stmt, andthen, Arms, otherwise, arm}
use Rattle.cs_typed.specs.declared.setting.Setting.{Setting}
use Rattle.cs_typing.specs.Calls.{all_fit, channel_use, text_of, all_known, row_fault, call_fault, row_known}
use Rattle.cs_typing.specs.Calls.{call_known, typed_arguments, typed_row, typed_call}
use Rattle.cs_typing.specs.Expressions.{rate_of, reads_known, typed_expression}
use Rattle.cs_typing.specs.Known.{RateNames, in_table, place_in, KnownHere, knows, after_giving, given, given_all, used}
use Rattle.cs_typing.specs.Known.{use_channel, global, variable, channel_of}
use Rattle.cs_typing.specs.{Settings.at, declared.known.Channel.Channel}
use Rattle.cs_typing.specs.Statements.{set_fault, condition_fault, known, known_block, known_arms, fault, block_fault}
use Rattle.cs_typing.specs.Statements.{arms_fault, choice_rate, typed_statement, typed_block, typed_arms}
use Rattle.cs_udo_meaning.specs.Numbered.{Numbering, numbered, expression_by, arguments_by, row_by, call_by}
use Rattle.cs_udo_meaning.specs.Numbered.{statement_by, block_by, arms_by}
use Rattle.cs_typing.proofs.ChannelTexts.{TextsAre, OneText, one_text}
use Rattle.cs_typing.proofs.KnownLater.{channel_same, SharedGoesOn, Later, later_further, given_later, row_later}
use Rattle.cs_typing.proofs.KnownLater.{known_block_later, known_arms_later}
use Rattle.cs_typing.proofs.Later.{TableGoesOn, added_in, added_place, in_on, place_in_on}
use Rattle.cs_base.specs.declared.fault.OrcKind.TheVariants as orc
use Rattle.cs_grammar.specs.declared.tree.Callee.TheVariants as callee
use Rattle.cs_typed.specs.TypedTree as typed
use Rattle.cs_typed.specs.declared.tree.Var.TheVariants as variant

-- ---- variables

-- a numbering agrees with the places of a table
pub record HasPlaces (s : Numbering) (t : RateNames) : Type 0 where
  pub each : (x : List ℕ) → in_table t x ≡ true → s x ≡ place_in t x

shared_variable : (g h : RateNames) (x : List ℕ) → h ≡ g
    → variant.Global (global (name_rate x) (place_in g x)) ≡ variant.Global (global (name_rate x) (place_in h x))
shared_variable g h x e = ap (λ t. variant.Global (global (name_rate x) (place_in t x))) (sym e)

pub variable_known : (n m : KnownHere) (s : Numbering) (x : List ℕ) → Later n m → HasPlaces s m.locals
    → knows n x ≡ true → variable n x ≡ numbered m.shared s x
variable_known n m s x l p h = grind (arith, common_steps, in_on, place_in_on, shared_variable)

pub variable_given : (n m : KnownHere) (s : Numbering) (x : List ℕ) → m.shared.globals ≡ n.shared.globals
    → TableGoesOn (after_giving n.locals x) m.locals → HasPlaces s m.locals → variable n x ≡ numbered m.shared s x
variable_given n m s x e l p = grind (arith, common_steps, added_in, added_place, in_on, place_in_on, shared_variable)

pub expression_same : (n m : KnownHere) (s : Numbering) (e : Expression) → Later n m → HasPlaces s m.locals
    → reads_known n e ≡ true → typed_expression n e ≡ expression_by (numbered m.shared s) e
expression_same n m s (var x) l p h = ap (typed.var (name_rate x)) (variable_known n m s x l p h)
expression_same n m s (neg a) l p h = ap (typed.neg (rate_of (neg a))) (expression_same n m s a l p h)
expression_same n m s (pair o a b) l p h =
    let k = and_parts (reads_known n a) (reads_known n b) h in
    λ i. typed.pair (rate_of (pair o a b)) o (expression_same n m s a l p k.0 i) (expression_same n m s b l p k.1 i)
expression_same n m s (pick c a b) l p h =
    let j = and_parts (reads_known n c && reads_known n a) (reads_known n b) h in
    let k = and_parts (reads_known n c) (reads_known n a) j.0 in
    λ i. typed.pick (rate_of (pick c a b)) (expression_same n m s c l p k.0 i) (expression_same n m s a l p k.1 i)
    (expression_same n m s b l p j.1 i)
expression_same n m s (apply f a) l p h = ap (typed.apply (rate_of (apply f a)) f) (expression_same n m s a l p h)
expression_same n m s _ l p h = refl

-- ---- arguments

plain_same : (n m : KnownHere) (s : Numbering) (args : List Argument) → Later n m → HasPlaces s m.locals
    → all_known n args ≡ true → typed_arguments n None args ≡ arguments_by m.shared (numbered m.shared s) None args
plain_same n m s [] l p h = refl
plain_same n m s (value e ∷ rest) l p h =
    let k = and_parts (reads_known n e) (all_known n rest) h in
    λ i. typed.value (expression_same n m s e l p k.0 i) ∷ plain_same n m s rest l p k.1 i
plain_same n m s (text t ∷ rest) l p h = plain_same n m s rest l p h

texts_typed : (n m : KnownHere) (s : Numbering) (kind : Channel) (t : List ℕ) (args : List Argument) → Later n m
    → HasPlaces s m.locals → all_known n args ≡ true → TextsAre t args → SharedGoesOn (used n.shared kind t) m.shared
    → typed_arguments n (Some kind) args ≡ arguments_by m.shared (numbered m.shared s) (Some kind) args
texts_typed n m s kind t [] l p h one on = refl
texts_typed n m s kind t (value e ∷ rest) l p h one on =
    let k = and_parts (reads_known n e) (all_known n rest) h in
    λ i. typed.value (expression_same n m s e l p k.0 i) ∷ texts_typed n m s kind t rest l p k.1 one on i
texts_typed n m s kind t (text u ∷ rest) l p h one on =
    let same = ap (channel_of n.shared kind) one.0 ∙ channel_same n.shared m.shared kind t on
    ∙ sym (ap (channel_of m.shared kind) one.0) in
    λ i. typed.text (same i) ∷ texts_typed n m s kind t rest l p h one.1 on i

arguments_same : (n m : KnownHere) (s : Numbering) (o : Opcode) (b : Rate) (results : List (List ℕ))
    (args : List Argument) → Later n m → HasPlaces s m.locals → takes_count (row_of o) (length args) ≡ true
    → all_fit (row_of o) b 0 args ≡ true → all_known n args ≡ true
    → SharedGoesOn (use_channel n.shared (channel_use (row_of o).shape results args) (text_of args)) m.shared
    → typed_arguments n (channel_use (row_of o).shape results args) args
    ≡ arguments_by m.shared (numbered m.shared s) (channel_use (row_of o).shape results args) args
arguments_same n m s o b results args l p c f h on = by _ (one_text o b results args c f) on
  where
    by : (role : Option Channel) → OneText role args → SharedGoesOn (use_channel n.shared role (text_of args)) m.shared
        → typed_arguments n role args ≡ arguments_by m.shared (numbered m.shared s) role args
    by None one more = plain_same n m s args l p h
    by (Some kind) one more = texts_typed n m s kind (text_of args) args l p h one more

-- ---- results: none or one

equal : (i j : ℕ) → (i == j) ≡ true → i ≡ j
equal i j h = grind (arith, nat_tests)

one_at_most : {A : Type 0} (b : Bool) (k : ℕ) → (suc (suc k) == (if b then 0 else 1)) ≡ true → A
one_at_most true k h = absurd (omega (arith, equal (suc (suc k)) 0 h))
one_at_most false k h = absurd (omega (arith, equal (suc (suc k)) 1 h))

results_same : (n m : KnownHere) (s : Numbering) (row : Row) (results : List (List ℕ))
    → (length results == result_count row) ≡ true
    → m.shared.globals ≡ n.shared.globals → TableGoesOn (given_all n results).locals m.locals → HasPlaces s m.locals
    → map (variable n) results ≡ map (numbered m.shared s) results
results_same n m s row [] c e l p = refl
results_same n m s row (x ∷ []) c e l p = ap (λ v. v ∷ []) (variable_given n m s x e l p)
results_same n m s row (x ∷ y ∷ rest) c e l p = one_at_most (length row.results == 0) (length rest) c

-- ---- calls

no_rule_broken : (a b c d e : Bool) → (if not a then Some orc.ArgCount else (if not b then Some orc.Undefined else
    (if not c then Some orc.RateMismatch else
    (if d then Some orc.ChannelRate else (if e then Some orc.OutCount else None))))) ≡ None
    → (a ≡ true) × (b ≡ true) × (c ≡ true)
no_rule_broken true true true d e h = (refl, refl, refl)
no_rule_broken _ _ _ d e h = absurd (cc h)

row_same : (q : Setting) (n m : KnownHere) (s : Numbering) (line : ℕ) (o : Opcode) (results : List (List ℕ))
    (args : List Argument) → row_fault q n (row_of o) results args ≡ None
    → Later (row_known n (row_of o) results args) m → HasPlaces s m.locals
    → typed_row line n o (row_of o) results args ≡ row_by line m.shared (numbered m.shared s) o (row_of o) results args
row_same q n m s line o results args h l p =
    grind (arith, common_steps, and_parts, arguments_same, later_further, no_rule_broken, results_same, row_later)

call_same : (q : Setting) (n m : KnownHere) (s : Numbering) (line : ℕ) (c : Callee) (results : List (List ℕ))
    (args : List Argument)
    → call_fault q n c results args ≡ None → Later (call_known n c results args) m → HasPlaces s m.locals
    → typed_call line n c results args ≡ call_by line m.shared (numbered m.shared s) c results args
call_same q n m s line (callee.Name name) results args h l p = refl
call_same q n m s line (callee.Opcode o) results args h l p = row_same q n m s line o results args h l p

-- ---- statements

at_none : (line : ℕ) (k : Option OrcKind) → at line k ≡ None → k ≡ None
at_none line None h = refl
at_none line (Some k) h = absurd (cc h)

nothing_unknown : (b c : Bool)
    → (if not b then Some orc.Undefined else (if not c then Some orc.RateMismatch else None)) ≡ None → b ≡ true
nothing_unknown true c h = refl
nothing_unknown false c h = absurd (cc h)

set_known : (q : Setting) (n : KnownHere) (line : ℕ) (x : List ℕ) (e : Expression) → at line (set_fault q n x e) ≡ None
    → reads_known n e ≡ true
set_known q n line x e h = nothing_unknown _ _ (at_none _ _ h)

condition_known : (q : Setting) (n : KnownHere) (line : ℕ) (e : Expression) → at line (condition_fault q n e) ≡ None
    → reads_known n e ≡ true
condition_known q n line e h = nothing_unknown _ _ (at_none _ _ h)

mutual
  pub statement_same : (q : Setting) (n m : KnownHere) (s : Numbering) (x : Statement) → fault q n x ≡ None
      → Later (known n x) m → HasPlaces s m.locals → typed_statement n x ≡ statement_by m.shared (numbered m.shared s) x
  statement_same q n m s (set line x e) h l p =
      let whole : Later n m = later_further n (given n x) m (given_later n x) l in
      λ i. typed.set line (name_rate x) (variable_given n m s x whole.shared.globals l.locals p i)
      (expression_same n m s e whole p (set_known q n line x e h) i)
  statement_same q n m s (call line results c args) h l p = call_same _ _ _ _ _ _ _ _ (at_none _ _ h) l p
  statement_same q n m s (choose line list) h l p =
      ap (typed.choose line (choice_rate list)) (arms_same q n m s line list h l p)

  pub block_same : (q : Setting) (n m : KnownHere) (s : Numbering) (b : Block) → block_fault q n b ≡ None
      → Later (known_block n b) m → HasPlaces s m.locals → typed_block n b ≡ block_by m.shared (numbered m.shared s) b
  block_same q n m s no_stmt h l p = refl
  block_same q n m s (andthen x rest) h l p =
      let parts = both_none _ _ h in
      let after : Later (known n x) m = later_further _ _ _ (known_block_later _ rest) l in
      λ i. typed.andthen (statement_same q n m s x parts.0 after p i) (block_same q _ m s rest parts.1 l p i)

  pub arms_same : (q : Setting) (n m : KnownHere) (s : Numbering) (line : ℕ) (list : Arms)
      → arms_fault q n line list ≡ None → Later (known_arms n list) m → HasPlaces s m.locals
      → typed_arms n list ≡ arms_by m.shared (numbered m.shared s) list
  arms_same q n m s line (otherwise b) h l p = ap typed.otherwise (block_same q n m s b h l p)
  arms_same q n m s line (arm c b rest) h l p =
      let parts = both_none _ _ h in
      let more = both_none _ _ parts.1 in
      let after : Later (known_block n b) m = later_further _ _ _ (known_arms_later _ rest) l in
      let whole : Later n m = later_further _ _ _ (known_block_later _ b) after in
      λ i. typed.arm (expression_same _ _ _ c whole p (condition_known q n line c parts.0) i)
      (block_same q n m s b more.0 after p i) (arms_same q _ m s line rest more.1 l p i)
