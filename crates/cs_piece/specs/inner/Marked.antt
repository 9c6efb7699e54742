-- What the code finds out about tables on the way: how often each number is defined, the first definition of
-- each, and which may be written.
use Rattle.std.specs.Prelude.{ℕ, zero, suc, ◌≡◌, ◌<◌, ◌||◌, ◌&&◌, Bool, true, false, not, List, [], ◌∷◌, map}
use Rattle.std.specs.{Prelude.None, Prelude.slice_index_or, List.list_any}
use Rattle.cs_base.specs.Rates.{same_res}
use Rattle.cs_gen.specs.Faults.{table_fault}
use Rattle.cs_ir.specs.{Instruments.Numbered, Resources.act_writes, Touched.resources, declared.op.Act.Act}
use Rattle.cs_ir.specs.{declared.op.Op.Op, declared.touches.Touch.Touch}
use Rattle.cs_score.specs.Ranges.{IsTableNumber}
use Rattle.cs_meaning.specs.Plain.{Table}
use Rattle.cs_piece.specs.Tables.{Given, firsts, only, table_given, times_given}
use Rattle.cs_piece.specs.{declared.tables.GivenTable.GivenTable, declared.tables.Firsts.Firsts}
use Rattle.cs_piece.specs.declared.tables.Times.{Times}
use Rattle.cs_piece.specs.declared.tables.Times.TheVariants as times
use Rattle.cs_base.specs.declared.resource.Res.TheVariants as res

-- the exclusive upper bound of table numbers
abbrev pub numbers_end : ℕ
numbers_end = 65536

-- a count, as far as the code stores it
abbrev pub as_times : ℕ → Times
as_times zero = times.Never
as_times (suc zero) = times.Once
as_times (suc (suc n)) = times.Again

-- whether a number is defined exactly once
abbrev pub is_once : Times → Bool
is_once times.Once = true
is_once _ = false

-- the definition that a borrowed table represents
abbrev pub given_of : GivenTable → Given
given_of f = record { number = f.number; size = f.size; gen = f.gen_; args = f.args.now }

-- how often number n is defined
abbrev pub times_at : List Times → ℕ → Times
times_at ts n = slice_index_or ts n times.Never

-- a definition with a number that tables may have, and without a fault
pub record IsRight (g : Given) : Type 0 where
  pub number : IsTableNumber g.number
  pub fault : table_fault g.size g.gen g.args ≡ None

-- What the code found represents the definitions: the first one of each number, and how often each number is
-- defined.
pub record StandFor (gs : List Given) (f : Firsts) : Type 0 where
  pub firsts_are : map given_of f.items.items ≡ firsts gs
  pub times_are : (n : ℕ) → n < numbers_end → times_at f.times.items n ≡ as_times (times_given n gs)

-- whether an act may write a table
abbrev pub act_stores : ℕ → Act → Bool
act_stores n a = list_any (same_res (res.Table n)) (act_writes (only n) a)

-- whether any of some ops may write a table
abbrev pub ops_store : ℕ → List Op → Bool
ops_store n ops = list_any (λ o. act_stores n o.act) ops

-- whether a table is among what is touched
abbrev pub touch_stores : ℕ → Touch → Bool
touch_stores n t = list_any (same_res (res.Table n)) (resources (only n) t)

-- whether the codes of an instrument may write a table
abbrev pub codes_store : ℕ → Numbered → Bool
codes_store n i = ops_store n i.init.ops || ops_store n i.perf.ops

-- tables that are marked: all of them, or by their numbers
pub record Marks : Type 0 where
  pub any : Bool
  pub numbers : List Bool

-- whether a table is marked
abbrev pub is_marked : Marks → ℕ → Bool
is_marked w n = w.any || slice_index_or w.numbers n false

-- a table is frozen, by what the code found
abbrev pub frozen_by : List Times → Marks → ℕ → Bool
frozen_by ts w n = is_once (times_at ts n) && not (is_marked w n)

-- a table as it is defined, frozen or not by what the code found
abbrev pub table_by : List Times → Marks → Given → Table
table_by ts w g = table_given (frozen_by ts w g.number) g

-- no element has this number
abbrev pub NoneHas : {X : Type 0} → (X → ℕ) → ℕ → List X → Type 0
NoneHas f n [] = Unit {0}
NoneHas f n (x ∷ xs) = (f x ≡ n → ⊥) × NoneHas f n xs

-- no two elements of a list have the same number
abbrev pub Differ : {X : Type 0} → (X → ℕ) → List X → Type 0
Differ f [] = Unit {0}
Differ f (x ∷ xs) = NoneHas f (f x) xs × Differ f xs
