-- Each global variable that a statement of an orchestra assigns is among the orchestra's global variables.
use Rattle.std.proofs.Common.{◌≡◌, ℕ, Bool, true, false, List, [], ◌∷◌, nat_lt, if◌then◌else◌}
use Rattle.std.specs.List.{All}
use Rattle.std.proofs.lemmas.List.Elements.{All-weaker}
use Rattle.cs_words.specs.Names.{is_global}
use Rattle.cs_grammar.specs.Tree.{Statement, set, call, choose, Block, no_stmt, andthen, Arms, otherwise, arm}
use Rattle.cs_grammar.specs.Tree.{Instrument, Orchestra}
use Rattle.cs_typing.specs.Known.{RateNames, no_names, in_table}
use Rattle.cs_typing.specs.Typing.{given_global, given_globals, globals, globals_of_block, globals_of_arms}
use Rattle.cs_typing.specs.Typing.{globals_of_instruments, all_globals, line_of, before, from, Item, alone, body, items}
use Rattle.cs_typing.proofs.GlobalsHeld.{all_on, given_held, one_held, one_on}
use Rattle.cs_typing.proofs.Later.{in_on}

-- a name, if it is global, is among these
abbrev pub IsGiven : RateNames → List ℕ → Type 0
IsGiven g name = is_global name ≡ true → in_table g name ≡ true

-- each name that statements assign is among these, if it is global
abbrev mutual
  pub Gives : RateNames → Statement → Type 0
  Gives g (set line name e) = IsGiven g name
  Gives g (call line results c args) = All (λ x. IsGiven g x) results
  Gives g (choose line list) = ArmsGive g list

  pub BlockGives : RateNames → Block → Type 0
  BlockGives g no_stmt = Unit {0}
  BlockGives g (andthen x rest) = Gives g x × BlockGives g rest

  pub ArmsGive : RateNames → Arms → Type 0
  ArmsGive g (otherwise b) = BlockGives g b
  ArmsGive g (arm c b rest) = BlockGives g b × ArmsGive g rest

abbrev pub ItemsGive : RateNames → List Item → Type 0
ItemsGive g [] = Unit {0}
ItemsGive g (alone b ∷ rest) = BlockGives g b × ItemsGive g rest
ItemsGive g (body i ∷ rest) = BlockGives g i.body × ItemsGive g rest

abbrev InstrumentsGive : RateNames → List Instrument → Type 0
InstrumentsGive g [] = Unit {0}
InstrumentsGive g (i ∷ rest) = BlockGives g i.body × InstrumentsGive g rest

-- ---- a table that grows

abbrev IsWithin : RateNames → RateNames → Type 0
IsWithin t u = (m : List ℕ) → in_table t m ≡ true → in_table u m ≡ true

mutual
  stmt_keeps : (t : RateNames) (x : Statement) → IsWithin t (globals t x)
  stmt_keeps t (set line name e) m h = in_on t (given_global t name) m (one_on t name) h
  stmt_keeps t (call line results opcode args) m h = in_on t (given_globals t results) m (all_on t results) h
  stmt_keeps t (choose line list) m h = arms_keep t list m h

  block_keeps : (t : RateNames) (b : Block) → IsWithin t (globals_of_block t b)
  block_keeps t no_stmt m h = h
  block_keeps t (andthen x rest) m h = block_keeps (globals t x) rest m (stmt_keeps t x m h)

  arms_keep : (t : RateNames) (list : Arms) → IsWithin t (globals_of_arms t list)
  arms_keep t (otherwise b) m h = block_keeps t b m h
  arms_keep t (arm c b rest) m h = arms_keep (globals_of_block t b) rest m (block_keeps t b m h)

instruments_keep : (t : RateNames) (list : List Instrument) → IsWithin t (globals_of_instruments t list)
instruments_keep t [] m h = h
instruments_keep t (i ∷ rest) m h = instruments_keep (globals_of_block t i.body) rest m (block_keeps t i.body m h)

-- ---- assigned names are present

mutual
  gives : (t : RateNames) (x : Statement) (g : RateNames) → IsWithin (globals t x) g → Gives g x
  gives t (set line name e) g w = λ h. w name (one_held t name h)
  gives t (call line results opcode args) g w =
      All-weaker (IsGiven (given_globals t results)) (IsGiven g) (λ x h e. w x (h e)) results (given_held t results)
  gives t (choose line list) g w = arms_give t list g w

  block_gives : (t : RateNames) (b : Block) (g : RateNames) → IsWithin (globals_of_block t b) g → BlockGives g b
  block_gives t no_stmt g w = tt
  block_gives t (andthen x rest) g w = (gives t x g (λ m h. w m (block_keeps _ rest m h)), block_gives _ rest g w)

  arms_give : (t : RateNames) (list : Arms) (g : RateNames) → IsWithin (globals_of_arms t list) g → ArmsGive g list
  arms_give t (otherwise b) g w = block_gives t b g w
  arms_give t (arm c b rest) g w = (block_gives t b g (λ m h. w m (arms_keep _ rest m h)), arms_give _ rest g w)

instruments_give : (t : RateNames) (list : List Instrument) (g : RateNames) → IsWithin (globals_of_instruments t list) g
    → InstrumentsGive g list
instruments_give t [] g w = tt
instruments_give t (i ∷ rest) g w = (
  block_gives t i.body g (λ m h. w m (instruments_keep (globals_of_block t i.body) rest m h)),
  instruments_give (globals_of_block t i.body) rest g w,
)

-- ---- the parts in the order of the text

before_gives : (g : RateNames) (line : ℕ) (b : Block) → BlockGives g b → BlockGives g (before line b)
before_gives g line no_stmt h = tt
before_gives g line (andthen x rest) h = by (nat_lt (line_of x) line) (before_gives g line rest h.1)
  where
    by : (b : Bool) → BlockGives g (before line rest)
        → BlockGives g (if b then andthen x (before line rest) else no_stmt)
    by true more = (h.0, more)
    by false more = tt

from_gives : (g : RateNames) (line : ℕ) (b : Block) → BlockGives g b → BlockGives g (from line b)
from_gives g line no_stmt h = tt
from_gives g line (andthen x rest) h = by (nat_lt (line_of x) line) (from_gives g line rest h.1)
  where
    by : (b : Bool) → BlockGives g (from line rest) → BlockGives g (if b then from line rest else andthen x rest)
    by true more = more
    by false more = h

items_give : (g : RateNames) (outside : Block) (list : List Instrument) → BlockGives g outside
    → InstrumentsGive g list → ItemsGive g (items outside list)
items_give g outside [] h k = (h, tt)
items_give g outside (i ∷ rest) h k = (
  before_gives g i.line outside h,
  (k.0, items_give g (from i.line outside) rest (from_gives g i.line outside h) k.1),
)

pub parts_give : (o : Orchestra) → ItemsGive (all_globals o) (items o.zero o.instrs)
parts_give o =
    items_give _ _ _ (block_gives _ _ _ (λ m h. instruments_keep (globals_of_block no_names o.zero) o.instrs m h))
    (instruments_give _ _ _ (λ m h. h))
