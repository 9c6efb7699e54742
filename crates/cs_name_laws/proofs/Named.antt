-- The typed form of an orchestra without a fault names only variables and channels that are known at the end
-- of its text.
use Rattle.std.proofs.Common.{◌≡◌, ℕ, Bool, true, false, ◌&&◌, nat_lt, List, [], ◌∷◌, length, map, Option, Some, None}
use Rattle.std.proofs.Common.{arith, refl, sym, subst, if◌then◌else◌}
use Rattle.std.specs.{List.All, Option.option_or}
use Rattle.std.proofs.lemmas.{Bool.and_parts, Bool.Decides.nat_tests, Option.slice_get_within}
use Rattle.std.proofs.lemmas.List.Elements.{All-cons, All-nil, All-head, All-tail}
use Rattle.cs_base.proofs.Tests.{both_none}
use Rattle.cs_base.specs.declared.resource.Rate.{Rate}
use Rattle.cs_words.specs.{Catalogue.row_of, Names.name_rate, Names.is_global}
use Rattle.cs_words.specs.NameSets.{has, place_of, seen}
use Rattle.cs_words.proofs.Places.{found_place, seen_is_there}
use Rattle.cs_grammar.specs.Tree.{Expression, number, var, neg, pair, pick, apply, Argument, value, text, Statement}
use Rattle.cs_grammar.specs.Tree.{set, call, choose, Block, no_stmt, andthen, Arms, otherwise, arm, Orchestra}
use Rattle.cs_grammar.specs.declared.tree.Callee.{Callee}
use Rattle.cs_typed.specs.{Places.outside, Places.inside, declared.setting.Setting.Setting}
use Rattle.cs_typed.specs.Variables.{EachInExpression, EachInArgument, EachInStatement, EachInBlock, EachInArms}
use Rattle.cs_typed.specs.declared.tree.Var.{Var as Variable}
use Rattle.cs_typed.specs.declared.tree.Var.TheVariants.{Local, Global}
use Rattle.cs_typed.proofs.Variables.{each_then}
use Rattle.cs_typing.specs.Calls.{bound_of, channel_use, text_of, all_known, call_fault, call_known, typed_arguments}
use Rattle.cs_typing.specs.{Calls.typed_call, Expressions.reads_known, Expressions.typed_expression, Known.variable}
use Rattle.cs_typing.specs.{Known.channel_of, Typing.shared_names, Typing.typed_of, declared.known.Channel.Channel}
use Rattle.cs_typing.specs.Known.{Shared, KnownHere, of_rate, in_table, place_in, knows, used, use_channel, global}
use Rattle.cs_typing.specs.Settings.{at, header, settings_fault}
use Rattle.cs_typing.specs.Statements.{condition_fault, fault, block_fault, arms_fault, known, known_block, known_arms}
use Rattle.cs_typing.specs.Statements.{typed_statement, typed_block, typed_arms}
use Rattle.cs_typing.specs.Typing.{Item, alone, body, items, entered, known_item, known_items, item_fault, items_fault}
use Rattle.cs_typing.specs.Typing.{first_known, type_fault, typed_outside, typed_instrument, typed_instruments}
use Rattle.cs_typing.proofs.{ChannelTexts.OneText, ChannelTexts.TextsAre, ChannelTexts.one_text, Later.has_on}
use Rattle.cs_typing.proofs.KnownLater.{SharedGoesOn, channel_same, items_later, known_arms_later, known_block_later}
use Rattle.cs_typing.proofs.KnownLater.{row_later, shared_further, shared_stays}
use Rattle.cs_typing.proofs.Rules.{at_none, keeps_condition, keeps_rules, keeps_set}
use Rattle.cs_name_laws.specs.Names.{is_named, IsNamed, IsNamedBlock, NamesWhatThereIs}
use Rattle.cs_name_laws.proofs.Given.{IsGiven, Gives, BlockGives, ArmsGive, ItemsGive, parts_give}
use Rattle.cs_base.specs.declared.resource.Rate.TheVariants as rate
use Rattle.cs_grammar.specs.declared.tree.Callee.TheVariants as callee
use Rattle.cs_typed.specs.TypedTree as typed
use Rattle.cs_typing.specs.declared.known.Channel.TheVariants as channel

low : (names : List (List ℕ)) (name : List ℕ) → has names name ≡ true
    → nat_lt (place_of names name) (length names) ≡ true
low names name h =
    let here = slice_get_within names (place_of names name) name (found_place names name h) in grind (arith, nat_tests)

then_part : (b x y : Bool) → (if b then x else y) ≡ true → b ≡ true → x ≡ true
then_part true x y h e = h
then_part false x y h e = absurd (cc e)

-- all bodies know at most the names of t in the end
module _ (t : Shared) where
  abbrev P : Variable → Type 0
  P v = IsNamed (shared_names t) v

  abbrev IsEarlier : KnownHere → Type 0
  IsEarlier n = SharedGoesOn n.shared t

  block_before : (n : KnownHere) (b : Block) → IsEarlier (known_block n b) → IsEarlier n
  block_before n b h = shared_further n.shared (known_block n b).shared t (known_block_later n b).shared h

  -- ---- variables and channels

  global_named : (r : Rate) (name : List ℕ) → has (of_rate r t.globals) name ≡ true
      → is_named (shared_names t) (global r (place_of (of_rate r t.globals) name)) ≡ true
  global_named rate.Init name h = low t.globals.init name h
  global_named rate.Control name h = low t.globals.control name h
  global_named rate.Audio name h = low t.globals.audio name h

  variable_named : (n : KnownHere) (name : List ℕ) → IsEarlier n → IsGiven t.globals name → P (variable n name)
  variable_named n name e given = by (is_global name) given
    where
      by : (b : Bool) → (b ≡ true → in_table t.globals name ≡ true)
          → P (if b then Global (global (name_rate name) (place_in n.shared.globals name)) else Local (name_rate name)
          (place_in n.locals name))
      by true h =
          subst (λ g. is_named (shared_names t) (global (name_rate name) (place_in g name)) ≡ true) e.globals
          (global_named (name_rate name) name (h refl))
      by false h = tt

  channel_named : (s : Shared) (kind : Channel) (name : List ℕ) → SharedGoesOn (used s kind name) t
      → P (channel_of s kind name)
  channel_named s kind name on = subst P (sym (channel_same s t kind name on)) (by kind on)
    where
      by : (k : Channel) → SharedGoesOn (used s k name) t → P (channel_of t k name)
      by channel.Control h = low t.control name (has_on _ _ _ h.control (seen_is_there s.control name))
      by channel.Sound h = low t.sound name (has_on _ _ _ h.sound (seen_is_there s.sound name))

  -- ---- expressions and arguments

  named : (n : KnownHere) (e : Expression) → IsEarlier n → reads_known n e ≡ true
      → EachInExpression P (typed_expression n e)
  named n (var name) s h =
      variable_named n name s (λ e. subst (λ g. in_table g name ≡ true) (sym s.globals)
      (then_part (is_global name) (in_table n.shared.globals name) (in_table n.locals name) h e))
  named n (neg a) s h = named n a s h
  named n (pair o a b) s h =
      let parts = and_parts (reads_known n a) (reads_known n b) h in
      (named n a s parts.0, named n b s parts.1)
  named n (pick c a b) s h =
      let parts = and_parts (reads_known n c && reads_known n a) (reads_known n b) h in
      let first = and_parts (reads_known n c) (reads_known n a) parts.0 in
      (named n c s first.0, named n a s first.1, named n b s parts.1)
  named n (apply f a) s h = named n a s h
  named n e s h = tt

  abbrev ArgumentsNamed : KnownHere → Option Channel → List Argument → Type 0
  ArgumentsNamed n role args = All (EachInArgument P) (typed_arguments n role args)

  one_value : (n : KnownHere) (role : Option Channel) (e : Expression) (rest : List Argument) → IsEarlier n
      → all_known n (value e ∷ rest) ≡ true → (all_known n rest ≡ true → ArgumentsNamed n role rest)
      → ArgumentsNamed n role (value e ∷ rest)
  one_value n role e rest s h more =
      let parts = and_parts (reads_known n e) (all_known n rest) h in
      All-cons (EachInArgument P) (typed.value (typed_expression n e)) (typed_arguments n role rest)
      (named n e s parts.0) (more parts.1)

  -- no text argument leaves a trace in the typed form
  plain_named : (n : KnownHere) (args : List Argument) → IsEarlier n → all_known n args ≡ true
      → ArgumentsNamed n None args
  plain_named n [] s h = All-nil (EachInArgument P)
  plain_named n (value e ∷ rest) s h = one_value n None e rest s h (plain_named n rest s)
  plain_named n (text name ∷ rest) s h = plain_named n rest s (and_parts true (all_known n rest) h).1

  -- each text argument is the channel that is used
  texts_named : (n : KnownHere) (kind : Channel) (name : List ℕ) (args : List Argument) → TextsAre name args
      → IsEarlier n → SharedGoesOn (used n.shared kind name) t → all_known n args ≡ true
      → ArgumentsNamed n (Some kind) args
  texts_named n kind name [] one s on h = All-nil (EachInArgument P)
  texts_named n kind name (value e ∷ rest) one s on h =
      one_value n (Some kind) e rest s h (texts_named n kind name rest one s on)
  texts_named n kind name (text u ∷ rest) one s on h =
      All-cons (EachInArgument P) (typed.text (channel_of n.shared kind u)) (typed_arguments n (Some kind) rest)
      (subst (λ x. P (channel_of n.shared kind x)) (sym one.0) (channel_named n.shared kind name on))
      (texts_named n kind name rest one.1 s on (and_parts true (all_known n rest) h).1)

  arguments_named : (n : KnownHere) (role : Option Channel) (args : List Argument) → OneText role args → IsEarlier n
      → SharedGoesOn (use_channel n.shared role (text_of args)) t → all_known n args ≡ true → ArgumentsNamed n role args
  arguments_named n None args one s on h = plain_named n args s h
  arguments_named n (Some kind) args one s on h = texts_named n kind (text_of args) args one s on h

  -- ---- calls

  results_named : (n : KnownHere) (results : List (List ℕ)) → IsEarlier n → All (IsGiven t.globals) results
      → All P (map (variable n) results)
  results_named n [] s g = All-nil P
  results_named n (x ∷ rest) s g =
      All-cons P (variable n x) (map (variable n) rest) (variable_named n x s (All-head (IsGiven t.globals) x rest g))
      (results_named n rest s (All-tail (IsGiven t.globals) x rest g))

  call_named : (s : Setting) (n : KnownHere) (line : ℕ) (c : Callee) (results : List (List ℕ)) (args : List Argument)
      → call_fault s n c results args ≡ None → IsEarlier (call_known n c results args)
      → All (IsGiven t.globals) results → EachInStatement P (typed_call line n c results args)
  call_named s n line (callee.Name name) results args h after g = absurd (cc h)
  call_named s n line (callee.Opcode o) results args h after g =
      let row = row_of o in
      let keeps = keeps_rules s n.shared (knows n) row results args h in
      let early = shared_further _ _ _ (row_later n row results args).shared after in (
        results_named _ _ early g,
        arguments_named _ _ _ (one_text o (bound_of results) results args keeps.args_count keeps.fit) early after
            keeps.known,
      )

  -- ---- statements

  mutual
    stmt_named : (s : Setting) (n : KnownHere) (x : Statement) → fault s n x ≡ None → IsEarlier (known n x)
        → Gives t.globals x → EachInStatement P (typed_statement n x)
    stmt_named s n (set line name e) h after g =
        let right = (keeps_set s (knows n) line name e h).0 in
        (variable_named n name after g, named n e after right)
    stmt_named s n (call line results c args) h after g = call_named _ _ _ _ _ _ (at_none _ _ h) after g
    stmt_named s n (choose line list) h after g = arms_named s n line list h after g

    block_named : (s : Setting) (n : KnownHere) (b : Block) → block_fault s n b ≡ None → IsEarlier (known_block n b)
        → BlockGives t.globals b → EachInBlock P (typed_block n b)
    block_named s n no_stmt h after g = tt
    block_named s n (andthen x rest) h after g =
        let parts = both_none (fault s n x) (block_fault s (known n x) rest) h in (
          stmt_named s n x parts.0 (block_before (known n x) rest after) g.0,
          block_named s (known n x) rest parts.1 after g.1,
        )

    arms_named : (s : Setting) (n : KnownHere) (line : ℕ) (list : Arms) → arms_fault s n line list ≡ None
        → IsEarlier (known_arms n list) → ArmsGive t.globals list → EachInArms P (typed_arms n list)
    arms_named s n line (otherwise b) h after g = block_named s n b h after g
    arms_named s n line (arm c b rest) h after g =
        let next = known_block n b in
        let parts = both_none (at line (condition_fault s n c))
        (option_or (block_fault s n b) (arms_fault s next line rest)) h in
        let more = both_none (block_fault s n b) (arms_fault s next line rest) parts.1 in
        let right = (keeps_condition s (knows n) line c parts.0).0 in
        let first = shared_further next.shared (known_arms next rest).shared t (known_arms_later next rest).shared
        after in (
          named n c (block_before n b first) right,
          block_named s n b more.0 first g.0,
          arms_named s next line rest more.1 after g.1,
        )

  -- ---- the parts of an orchestra

  items_named : (channels : ℕ) (n : KnownHere) (list : List Item) → items_fault channels n list ≡ None
      → IsEarlier (known_items n list) → ItemsGive t.globals list → IsNamedBlock (shared_names t) (typed_outside n list)
      × All (λ i. IsNamedBlock (shared_names t) i.body) (typed_instruments n list)
  items_named channels n [] h last given = (tt, All-nil (λ i. IsNamedBlock (shared_names t) i.body))
  items_named channels n (alone b ∷ rest) h last given =
      let next = known_item n (alone b) in
      let parts = both_none _ _ h in
      let after = items_named channels next rest parts.1 last given.1 in
      let early = shared_further _ _ _ (items_later next rest).shared last in (
        each_then _ _ _ (block_named _ _ _ parts.0 early given.0) after.0,
        after.1,
      )
  items_named channels n (body i ∷ rest) h last given =
      let next = known_item n (body i) in
      let parts = both_none (item_fault channels n (body i)) (items_fault channels next rest) h in
      let after = items_named channels next rest parts.1 last given.1 in
      let early = shared_further next.shared (known_items next rest).shared t (items_later next rest).shared last in (
        after.0,
        All-cons (λ x. IsNamedBlock (shared_names t) x.body) (typed_instrument n i) (typed_instruments next rest)
            (block_named (inside channels) (entered n) i.body parts.0 early given.0) after.1,
      )

pub orchestra_named : (o : Orchestra) → type_fault o ≡ None → NamesWhatThereIs (typed_of o)
orchestra_named o h =
    let n = first_known o in
    let list = items o.zero o.instrs in
    let last = (known_items n list).shared in
    let right = both_none (settings_fault o.head o.zero) (items_fault (header o.head).nchnls n list) h in
    let given = subst (λ g. ItemsGive g list) (sym (items_later n list).shared.globals) (parts_give o) in
    let named = items_named last (header o.head).nchnls n list right.1 (shared_stays last) given in
    record { zero = named.0; instruments = named.1 }
