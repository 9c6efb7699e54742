-- Known names remain known.
use Rattle.std.proofs.Common.{◌≡◌, ◌∙◌, ℕ, Bool, true, false, if◌then◌else◌, List, [], ◌∷◌, Option, Some, None, refl}
use Rattle.std.proofs.Common.{sym, ap}
use Rattle.cs_words.specs.{Catalogue.Row, Catalogue.row_of, NameSets.seen, Names.is_global}
use Rattle.cs_words.proofs.Places.{seen_is_there}
use Rattle.cs_grammar.specs.declared.tree.Callee.{Callee}
use Rattle.cs_grammar.specs.Tree.{Argument, Statement, set, call, choose, Block, no_stmt, andthen, Arms, otherwise, arm}
use Rattle.cs_typing.specs.Calls.{channel_use, text_of, row_known, call_known}
use Rattle.cs_typing.specs.Known.{RateNames, added, Shared, KnownHere, after_giving, given, given_all, used}
use Rattle.cs_typing.specs.{Known.use_channel, Known.channel_of, declared.known.Channel.Channel}
use Rattle.cs_typing.specs.Statements.{known, known_block, known_arms}
use Rattle.cs_typing.specs.Typing.{Item, alone, body, entered, known_item, known_items}
use Rattle.cs_typing.proofs.Later.{GoesOn, stays, goes_further, place_on, seen_on, seen_place, TableGoesOn, table_stays}
use Rattle.cs_typing.proofs.Later.{table_further, added_on}
use Rattle.cs_base.specs.declared.resource.Res.TheVariants as res
use Rattle.cs_grammar.specs.declared.tree.Callee.TheVariants as callee
use Rattle.cs_typed.specs.declared.tree.Var.TheVariants as variant
use Rattle.cs_typing.specs.declared.known.Channel.TheVariants as channel

pub record SharedGoesOn (s r : Shared) : Type 0 where
  pub globals : r.globals ≡ s.globals
  pub control : GoesOn s.control r.control
  pub sound : GoesOn s.sound r.sound

pub record Later (n m : KnownHere) : Type 0 where
  pub shared : SharedGoesOn n.shared m.shared
  pub locals : TableGoesOn n.locals m.locals

pub shared_stays : (s : Shared) → SharedGoesOn s s
shared_stays s = record { globals = refl; control = stays s.control; sound = stays s.sound }

pub shared_further : (s r q : Shared) → SharedGoesOn s r → SharedGoesOn r q → SharedGoesOn s q
shared_further s r q a b = record {
  globals = b.globals ∙ a.globals;
  control = goes_further s.control r.control q.control a.control b.control;
  sound = goes_further s.sound r.sound q.sound a.sound b.sound;
}

pub later_same : (n : KnownHere) → Later n n
later_same n = record { shared = shared_stays n.shared; locals = table_stays n.locals }

pub later_further : (n m k : KnownHere) → Later n m → Later m k → Later n k
later_further n m k a b = record {
  shared = shared_further n.shared m.shared k.shared a.shared b.shared;
  locals = table_further n.locals m.locals k.locals a.locals b.locals;
}

pub giving_on : (t : RateNames) (x : List ℕ) → TableGoesOn t (after_giving t x)
giving_on t x = by (is_global x)
  where
    by : (b : Bool) → TableGoesOn t (if b then t else added t x)
    by true = table_stays t
    by false = added_on t x

pub given_later : (n : KnownHere) (x : List ℕ) → Later n (given n x)
given_later n x = record { shared = shared_stays n.shared; locals = giving_on n.locals x }

pub given_all_later : (n : KnownHere) (xs : List (List ℕ)) → Later n (given_all n xs)
given_all_later n [] = later_same n
given_all_later n (x ∷ xs) =
    later_further n (given n x) (given_all (given n x) xs) (given_later n x) (given_all_later (given n x) xs)

pub used_on : (s : Shared) (kind : Option Channel) (x : List ℕ) → SharedGoesOn s (use_channel s kind x)
used_on s None x = shared_stays s
used_on s (Some channel.Control) x = record { globals = refl; control = seen_on s.control x; sound = stays s.sound }
used_on s (Some channel.Sound) x = record { globals = refl; control = stays s.control; sound = seen_on s.sound x }

pub row_later : (n : KnownHere) (row : Row) (results : List (List ℕ)) (args : List Argument)
    → Later n (row_known n row results args)
row_later n row results args = record {
  shared = used_on n.shared (channel_use row.shape results args) (text_of args);
  locals = (given_all_later n results).locals;
}

call_later : (n : KnownHere) (c : Callee) (results : List (List ℕ)) (args : List Argument)
    → Later n (call_known n c results args)
call_later n (callee.Name name) results args = given_all_later n results
call_later n (callee.Opcode o) results args = row_later n (row_of o) results args

mutual
  pub known_later : (n : KnownHere) (x : Statement) → Later n (known n x)
  known_later n (set line name e) = given_later n name
  known_later n (call line results c args) = call_later n c results args
  known_later n (choose line list) = known_arms_later n list

  pub known_block_later : (n : KnownHere) (b : Block) → Later n (known_block n b)
  known_block_later n no_stmt = later_same n
  known_block_later n (andthen x rest) =
      later_further n (known n x) (known_block (known n x) rest) (known_later n x) (known_block_later (known n x) rest)

  pub known_arms_later : (n : KnownHere) (list : Arms) → Later n (known_arms n list)
  known_arms_later n (otherwise b) = known_block_later n b
  known_arms_later n (arm c b rest) =
      later_further n (known_block n b) (known_arms (known_block n b) rest) (known_block_later n b)
      (known_arms_later (known_block n b) rest)

item_later : (n : KnownHere) (x : Item) → Later n (known_item n x)
item_later n (alone b) = known_block_later n b
item_later n (body i) = record { shared = (known_block_later (entered n) i.body).shared; locals = table_stays n.locals }

pub items_later : (n : KnownHere) (list : List Item) → Later n (known_items n list)
items_later n [] = later_same n
items_later n (x ∷ rest) =
    later_further n (known_item n x) (known_items (known_item n x) rest) (item_later n x)
    (items_later (known_item n x) rest)

-- a channel keeps its number once it has been used
pub channel_same : (s r : Shared) (kind : Channel) (t : List ℕ) → SharedGoesOn (used s kind t) r
    → channel_of s kind t ≡ channel_of r kind t
channel_same s r channel.Control t l =
    ap (λ k. variant.Global (res.Control k))
    (sym (seen_place s.control t) ∙ sym (place_on (seen s.control t) r.control t l.control (seen_is_there s.control t)))
channel_same s r channel.Sound t l =
    ap (λ k. variant.Global (res.Sound k))
    (sym (seen_place s.sound t) ∙ sym (place_on (seen s.sound t) r.sound t l.sound (seen_is_there s.sound t)))
