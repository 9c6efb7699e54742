-- The typed form of an orchestra without a fault depends only on the names known at the end of its text.
use Rattle.std.proofs.Common.{◌≡◌, ◌∙◌, ℕ, nat_lt, List, ◌∷◌, None, refl, [], arith}
use Rattle.std.specs.List.{AllZip}
use Rattle.cs_base.proofs.Tests.{both_none}
use Rattle.cs_grammar.specs.Tree.{Block, no_stmt, andthen, Instrument, Orchestra}
use Rattle.cs_typed.specs.Places.{outside, inside}
use Rattle.cs_typing.specs.Known.{Shared, KnownHere}
use Rattle.cs_typing.specs.{Settings.header, Typing.typed_instruments, Typing.typed_of}
use Rattle.cs_typing.specs.Statements.{block_fault, known_block, typed_block}
use Rattle.cs_typing.specs.Typing.{before, from, Item, alone, body, items, entered, known_item, known_items, item_fault}
use Rattle.cs_typing.specs.Typing.{items_fault, first_known, type_fault, typed_outside, typed_instrument}
use Rattle.cs_udo_meaning.specs.Numbered.{Numbering, Variables, numbered, block_by}
use Rattle.cs_udo_meaning.specs.Typed.{shared_of, IsNumbered, IsNumberedInstrument}
use Rattle.cs_typing.proofs.{Joined.then_nothing, KnownLater.known_block_later, Later.table_stays}
use Rattle.cs_typing.proofs.KnownLater.{SharedGoesOn, shared_stays, shared_further, Later, later_same, later_further}
use Rattle.cs_udo_meaning.proofs.KnownOn.{HasPlaces, block_same}
use Rattle.cs_udo_meaning.proofs.Numbers.{number_in, number_places, number_tells}
use Rattle.std.proofs.lemmas.Grind.{common_steps}
use Rattle.cs_typed.specs.TypedTree as typed

item_later : (n : KnownHere) (x : Item) → Later n (known_item n x)
item_later n (alone b) = known_block_later n b
item_later n (body i) = record { shared = (known_block_later (entered n) i.body).shared; locals = table_stays n.locals }

pub items_later : (n : KnownHere) (list : List Item) → Later n (known_items n list)
items_later n [] = later_same n
items_later n (x ∷ rest) = later_further _ _ _ (item_later _ x) (items_later (known_item n x) rest)

-- ---- instruments

instrument_numbered : (channels : ℕ) (n : KnownHere) (i : Instrument) (g : Shared)
    → block_fault (inside channels) (entered n) i.body ≡ None
    → SharedGoesOn (known_block (entered n) i.body).shared g → IsNumberedInstrument g i (typed_instrument n i)
instrument_numbered channels n i g h l = record {
  line = refl;
  numbers = refl;
  body = record {
    number = number_in known.locals;
    apart = number_tells _;
    is = block_same _ _ _ _ _ h (record { shared = l; locals = table_stays _ }) (number_places _);
  };
}
  where
    known : KnownHere
    known = known_block (entered n) i.body

pub instruments_numbered : (channels : ℕ) (n : KnownHere) (b : Block) (list : List Instrument) (g : Shared)
    → items_fault channels n (items b list) ≡ None → SharedGoesOn (known_items n (items b list)).shared g
    → AllZip (IsNumberedInstrument g) list (typed_instruments n (items b list))
instruments_numbered channels n b [] g h l = tt
instruments_numbered channels n b (i ∷ rest) g h l =
    let first = before i.line b in
    let other = from i.line b in
    let m = known_block n first in
    let more = items other rest in
    let parts = both_none _ _ h in
    let halves = both_none _ _ parts.1 in
    let here : SharedGoesOn (known_block (entered m) i.body).shared g =
    shared_further _ _ _ (items_later (known_item m (body i)) more).shared l in (
      instrument_numbered _ m _ _ halves.0 here,
      instruments_numbered channels (known_item m (body i)) other rest g halves.1 l,
    )

-- ---- statements outside

cut : (g : Shared) (v : Variables) (line : ℕ) (b : Block)
    → typed.then_block (block_by g v (before line b)) (block_by g v (from line b)) ≡ block_by g v b
cut g v line no_stmt = refl
cut g v line (andthen x rest) = grind (arith, common_steps, nat_lt, cut g v line rest)

outside_same : (channels : ℕ) (n : KnownHere) (b : Block) (list : List Instrument) (m : KnownHere) (s : Numbering)
    → items_fault channels n (items b list) ≡ None → Later (known_items n (items b list)) m → HasPlaces s m.locals
    → typed_outside n (items b list) ≡ block_by m.shared (numbered m.shared s) b
outside_same channels n b [] m s h l p =
    let parts = both_none (item_fault channels n (alone b)) None h in
    then_nothing (typed_block n b) ∙ block_same (outside channels) n m s b parts.0 l p
outside_same channels n b (i ∷ rest) m s h l p =
    let first = before i.line b in
    let other = from i.line b in
    let k = known_block n first in
    let more = items other rest in
    let next = known_item k (body i) in
    let parts = both_none _ _ h in
    let halves = both_none _ _ parts.1 in
    let here : Later k m = later_further _ _ _ (item_later _ (body i)) (later_further _ _ _ (items_later _ more) l) in
    (λ j. typed.then_block (block_same (outside channels) n _ _ first parts.0 here p j)
    (outside_same channels next other rest m s halves.1 l p j)) ∙ cut _ _ i.line _

no_fault : (o : Orchestra) → type_fault o ≡ None
    → items_fault (header o.head).nchnls (first_known o) (items o.zero o.instrs) ≡ None
no_fault o h = (both_none _ _ h).1

pub outside_numbered : (o : Orchestra) → type_fault o ≡ None → IsNumbered (shared_of o) o.zero (typed_of o).zero
outside_numbered o h =
    let known = known_items (first_known o) (items o.zero o.instrs) in
    record {
      number = number_in known.locals;
      apart = number_tells _;
      is = outside_same (header o.head).nchnls _ _ _ _ _ (no_fault o h) (later_same _) (number_places _);
    }

pub all_numbered : (o : Orchestra) → type_fault o ≡ None
    → AllZip (IsNumberedInstrument (shared_of o)) o.instrs (typed_of o).instrs
all_numbered o h = instruments_numbered (header o.head).nchnls _ _ _ _ (no_fault o h) (shared_stays _)
