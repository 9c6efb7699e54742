-- The typed form of statements without a fault agrees with the rules of rates.
use Rattle.std.proofs.Common.{◌≡◌, ◌∙◌, ℕ, true, ◌&&◌, ◌||◌, if◌then◌else◌, List, [], ◌∷◌, None, refl, sym, ap}
use Rattle.std.specs.{List.All, Option.option_or}
use Rattle.std.proofs.lemmas.{Bool.and_parts, List.Elements.All-cons, List.Elements.All-nil}
use Rattle.cs_base.proofs.Tests.{both_none}
use Rattle.cs_base.specs.Rates.{within, is_init, is_audio}
use Rattle.cs_words.specs.Names.{name_rate}
use Rattle.cs_grammar.specs.Tree.{Expression, Statement, set, call, choose, Block, no_stmt, andthen, Arms, otherwise}
use Rattle.cs_grammar.specs.Tree.{arm}
use Rattle.cs_typed.specs.{Places.outside, Places.inside, declared.setting.Setting.Setting}
use Rattle.cs_typing.specs.{Calls.call_fault, Known.KnownHere, Known.knows, Known.variable, Settings.at}
use Rattle.cs_typing.specs.Expressions.{is_value, is_condition, rate_of, typed_expression}
use Rattle.cs_typing.specs.Statements.{condition_fault, fault, block_fault, arms_fault, known, known_block, all_init}
use Rattle.cs_typing.specs.Statements.{typed_statement, typed_block, typed_arms}
use Rattle.cs_typing.specs.Typing.{Item, alone, body, entered, known_item, item_fault, items_fault, typed_outside}
use Rattle.cs_typing.specs.Typing.{typed_instrument, typed_instruments}
use Rattle.cs_typed.specs.WellRated.{node_rate, IsRatedSet, all_still, IsRatedStatement, IsRatedBlock, IsRatedArms}
use Rattle.cs_typing.proofs.RatedExpressions.{node_is, variable_rate, no_sound, value_rated, condition_rated}
use Rattle.cs_typing.proofs.{RatedCalls.call_rated, Rules.at_none, Rules.keeps_condition, Rules.keeps_set}
use Rattle.cs_base.specs.declared.resource.Rate.TheVariants as rate
use Rattle.cs_typed.specs.TypedTree as typed

set_rated : (s : Setting) (n : KnownHere) (name : List ℕ) (e : Expression) → is_value e ≡ true
    → within (rate_of e) (name_rate name) ≡ true → (s.inside || is_init (name_rate name)) ≡ true
    → IsRatedSet s (name_rate name) (variable n name) (typed_expression n e)
set_rated s n name e v w p = (
  sym (variable_rate n name).0,
  (variable_rate n name).1,
  ap (λ r. within r (name_rate name)) (node_is n e) ∙ w,
  p,
  value_rated n e v,
)

still_arms : (n : KnownHere) (list : Arms) → all_init list ≡ all_still (typed_arms n list)
still_arms n (otherwise b) = refl
still_arms n (arm c b rest) =
    ap (λ r. is_init r && all_init rest) (sym (node_is n c))
    ∙ ap (λ x. is_init (node_rate (typed_expression n c)) && x) (still_arms (known_block n b) rest)

mutual
  pub stmt_rated : (s : Setting) (n : KnownHere) (x : Statement) → fault s n x ≡ None
      → IsRatedStatement s (typed_statement n x)
  stmt_rated s n (set line name e) h =
      let may = (keeps_set s (knows n) line name e h).1 in
      let parts = and_parts (is_value e && within (rate_of e) (name_rate name)) (s.inside || is_init (name_rate name))
      may in
      let first = and_parts (is_value e) (within (rate_of e) (name_rate name)) parts.0 in
      set_rated s n name e first.0 first.1 parts.1
  stmt_rated s n (call line results callee args) h =
      call_rated s n line callee results args (at_none line (call_fault s n callee results args) h)
  stmt_rated s n (choose line list) h =
      (ap (λ b. if b then rate.Init else rate.Control) (still_arms n list), arms_rated s n line list h)

  pub block_rated : (s : Setting) (n : KnownHere) (b : Block) → block_fault s n b ≡ None
      → IsRatedBlock s (typed_block n b)
  block_rated s n no_stmt h = tt
  block_rated s n (andthen x rest) h =
      let parts = both_none (fault s n x) (block_fault s (known n x) rest) h in
      (stmt_rated s n x parts.0, block_rated s (known n x) rest parts.1)

  arms_rated : (s : Setting) (n : KnownHere) (line : ℕ) (list : Arms) → arms_fault s n line list ≡ None
      → IsRatedArms s (typed_arms n list)
  arms_rated s n line (otherwise b) h = block_rated s n b h
  arms_rated s n line (arm c b rest) h =
      let parts = both_none (at line (condition_fault s n c))
      (option_or (block_fault s n b) (arms_fault s (known_block n b) line rest)) h in
      let more = both_none (block_fault s n b) (arms_fault s (known_block n b) line rest) parts.1 in
      let may = (keeps_condition s (knows n) line c parts.0).1 in
      let both = and_parts (is_condition c) (s.inside || is_init (rate_of c)) may in (
        condition_rated n c both.0,
        ap is_audio (node_is n c) ∙ no_sound c both.0,
        ap (λ r. s.inside || is_init r) (node_is n c) ∙ both.1,
        block_rated s n b more.0,
        arms_rated s (known_block n b) line rest more.1,
      )

then_rated : (s : Setting) (a b : typed.Block) → IsRatedBlock s a → IsRatedBlock s b
    → IsRatedBlock s (typed.then_block a b)
then_rated s typed.no_stmt b p q = q
then_rated s (typed.andthen x rest) b p q = (p.0, then_rated s rest b p.1 q)

pub items_rated : (channels : ℕ) (n : KnownHere) (list : List Item) → items_fault channels n list ≡ None
    → IsRatedBlock (outside channels) (typed_outside n list)
    × All (λ i. IsRatedBlock (inside channels) i.body) (typed_instruments n list)
items_rated channels n [] h = (tt, All-nil (λ i. IsRatedBlock (inside channels) i.body))
items_rated channels n (alone b ∷ rest) h =
    let parts = both_none (item_fault channels n (alone b)) (items_fault channels (known_item n (alone b)) rest) h in
    let after = items_rated channels (known_item n (alone b)) rest parts.1 in (
      then_rated (outside channels) (typed_block n b) (typed_outside (known_item n (alone b)) rest)
          (block_rated (outside channels) n b parts.0) after.0,
      after.1,
    )
items_rated channels n (body i ∷ rest) h =
    let parts = both_none (item_fault channels n (body i)) (items_fault channels (known_item n (body i)) rest) h in
    let after = items_rated channels (known_item n (body i)) rest parts.1 in (
      after.0,
      All-cons (λ x. IsRatedBlock (inside channels) x.body) (typed_instrument n i)
          (typed_instruments (known_item n (body i)) rest)
          (block_rated (inside channels) (entered n) i.body parts.0) after.1,
    )
