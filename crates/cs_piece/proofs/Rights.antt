-- The code finds the same tables from codes and events as the definitions.
use Rattle.std.proofs.Common.{◌≡◌, ℕ, zero, suc, ◌==◌, ◌<◌, ◌≤◌, Bool, true, false, not, ◌&&◌, ◌||◌, List, [], ◌∷◌}
use Rattle.std.proofs.Common.{◌++◌, map, cond, refl, sym, ◌∙◌, ap, arith}
use Rattle.std.specs.List.{All, AllByRecursion, AllZip, filter, list_any}
use Rattle.std.proofs.lemmas.{Bool.ne_eqb, List.Sorted.list_any-IsPermutation}
use Rattle.std.proofs.lemmas.List.Elements.{All-head, All-tail}
use Rattle.cs_base.specs.{Rates.same_res, declared.spaces.Spaces.Spaces}
use Rattle.cs_code.specs.Lowered.{AreInstrumentsOf, IsNumberedCode, bodies}
use Rattle.cs_ir.specs.{Instruments.Numbered, declared.op.Op.Op}
use Rattle.cs_ir.specs.Resources.{act_writes, may_write, ops_write}
use Rattle.cs_meaning.specs.{Uses.block_begin_writes, Uses.block_writes, Core.core}
use Rattle.cs_tempo.specs.{Performable.IsActInRange, declared.plot.Event.Event, declared.plot.EventAct.EventAct}
use Rattle.cs_rwset.proofs.Placed.{among_alike}
use Rattle.cs_piece.proofs.Marks.{any_of_parts}
use Rattle.cs_piece.specs.Tables.{Given, firsts, given_by, given_in, is_frozen, may_be_written, only, stores_into}
use Rattle.cs_piece.specs.Tables.{table_given, table_in, times_given}
use Rattle.cs_piece.specs.{declared.tables.GivenTable.GivenTable, declared.tables.Firsts.Firsts}
use Rattle.cs_piece.specs.inner.Marked.{IsRight, Marks, StandFor, as_times, codes_store, frozen_by, given_of, is_marked}
use Rattle.cs_piece.specs.inner.Marked.{is_once, numbers_end, ops_store, table_by}
use Rattle.cs_base.specs.declared.resource.Res.TheVariants as res
use Rattle.cs_tempo.specs.declared.plot.EventAct.TheVariants as act
use Rattle.cs_typed.specs.TypedTree as typed

-- each table that events define has a valid number and no fault
abbrev pub AreRight : List Given → Type 0
AreRight gs = AllByRecursion IsRight gs

right_more : (gs hs : List Given) → AreRight gs → AreRight hs → AreRight (gs ++ hs)
right_more [] hs h k = k
right_more (g ∷ gs) hs h k = (h.0, right_more gs hs h.1 k)

right_by : (a : EventAct) → IsActInRange a → AreRight (given_by a)
right_by (act.Start instr cycles fields) h = tt
right_by (act.Table number size gen args) h = (record { number = h.0; fault = h.1 }, tt)

pub right_in : (events : List Event) → All (λ e. IsActInRange e.act) events → AreRight (given_in events)
right_in [] h = tt
right_in (e ∷ events) h =
    right_more (given_by e.act) (given_in events) (right_by e.act (All-head (λ x. IsActInRange x.act) e events h))
    (right_in events (All-tail (λ x. IsActInRange x.act) e events h))

right_filter : (p : Given → Bool) (gs : List Given) → AreRight gs → AreRight (filter p gs)
right_filter p [] h = tt
right_filter p (g ∷ gs) h = by (p g) (right_filter p gs h.1)
  where
    by : (b : Bool) → AreRight (filter p gs) → AreRight (cond b (g ∷ filter p gs) (filter p gs))
    by true later = (h.0, later)
    by false later = later

pub right_firsts : (gs : List Given) → AreRight gs → AreRight (firsts gs)
right_firsts [] h = tt
right_firsts (g ∷ gs) h =
    (h.0, right_filter (λ (x : Given). not (x.number == g.number)) (firsts gs) (right_firsts gs h.1))

-- ops that may write a table
stores_as : (n : ℕ) (ops : List Op) → ops_store n ops ≡ list_any (same_res (res.Table n)) (ops_write (only n) ops)
stores_as n ops = any_of_parts (same_res (res.Table n)) (λ (o : Op). act_writes (only n) o.act) ops

store_alike : (n : ℕ) (spaces : Spaces) (channels : ℕ) (p : ℕ × typed.Block) (i : Numbered)
    → IsNumberedCode spaces channels p i → codes_store n i ≡ stores_into n (core spaces p.1)
store_alike n spaces channels p i h =
    ap (λ b. b || ops_store n i.perf.ops) (stores_as n i.init.ops
    ∙ among_alike (ops_write (only n) i.init.ops) (block_begin_writes (only n) (core spaces p.1))
    (h.1.touches.begins may_write (only n)) (res.Table n)) ∙ ap (λ b. first || b) (stores_as n i.perf.ops
    ∙ among_alike (ops_write (only n) i.perf.ops) (block_writes (only n) (core spaces p.1))
    (h.1.touches.cycles may_write (only n)) (res.Table n))
  where
    first : Bool
    first = list_any (same_res (res.Table n)) (block_begin_writes (only n) (core spaces p.1))

any_alike : (n : ℕ) (spaces : Spaces) (channels : ℕ) (ps : List (ℕ × typed.Block)) (is : List Numbered)
    → AllZip (IsNumberedCode spaces channels) ps is
    → list_any (codes_store n) is ≡ list_any (λ (p : ℕ × typed.Block). stores_into n (core spaces p.1)) ps
any_alike n spaces channels [] [] h = refl
any_alike n spaces channels (p ∷ ps) (i ∷ is) h =
    ap (λ b. b || list_any (codes_store n) is) (store_alike n spaces channels p i h.0)
    ∙ ap (λ b. stores_into n (core spaces p.1) || b) (any_alike n spaces channels ps is h.1)
any_alike n spaces channels _ _ h = absurd h

pub written_as : (o : typed.Orchestra) (l : List Numbered) (n : ℕ) → AreInstrumentsOf o l
    → list_any (codes_store n) l ≡ may_be_written o n
written_as o l n are =
    sym (list_any-IsPermutation (codes_store n) are.in_text l are.same)
    ∙ any_alike n o.spaces o.head.nchnls (bodies o.instrs) are.in_text are.each

-- tables, by what the code found
once_as : (m : ℕ) → is_once (as_times m) ≡ (m == 1)
once_as zero = refl
once_as (suc zero) = refl
once_as (suc (suc m)) = sym (ne_eqb (suc (suc m)) 1 (λ e. omega (arith, e)))

module _ (o : typed.Orchestra) (l : List Numbered) (gs : List Given) (given : Firsts) (w : Marks)
    (are : AreInstrumentsOf o l) (stand : StandFor gs given)
    (marked : (n : ℕ) → n < numbers_end → is_marked w n ≡ list_any (codes_store n) l) where
  frozen_as : (n : ℕ) → n < numbers_end → frozen_by given.times.items w n ≡ is_frozen o gs n
  frozen_as n low =
      ap (λ b. b && not (is_marked w n)) (ap is_once (stand.times_are n low) ∙ once_as (times_given n gs))
      ∙ ap (λ b. (times_given n gs == 1) && not b) (marked n low ∙ written_as o l n are)

  each_as : (g : Given) → IsRight g → table_by given.times.items w g ≡ table_in o gs g
  each_as g right = ap (λ b. table_given b g)
      (frozen_as g.number (let high : g.number ≤ 65535 = right.number.1 in omega arith))

  all_as : (xs : List GivenTable) → All (λ x. IsRight (given_of x)) xs
      → map (λ x. table_by given.times.items w (given_of x)) xs ≡ map (table_in o gs) (map given_of xs)
  all_as [] h = refl
  all_as (x ∷ xs) h = λ i. each_as (given_of x) (All-head (λ y. IsRight (given_of y)) x xs h) i
      ∷ all_as xs (All-tail (λ y. IsRight (given_of y)) x xs h) i

  pub tables_as : All (λ x. IsRight (given_of x)) given.items.items
      → map (λ x. table_by given.times.items w (given_of x)) given.items.items ≡ map (table_in o gs) (firsts gs)
  tables_as right = all_as given.items.items right ∙ ap (map (table_in o gs)) stand.firsts_are
