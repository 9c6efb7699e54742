-- Kept values have different numbers, and units are numbered by the units before them.
use Rattle.std.proofs.Common.{◌≡◌, ◌∙◌, ℕ, zero, suc, ◌+◌, ◌<◌, ◌≤◌, List, [], ◌∷◌, ◌++◌, Option, Some, refl, sym, ap}
use Rattle.std.proofs.Common.{arith, le_trans, add-zero, append-nil}
use Rattle.std.proofs.lemmas.Option.{none-some}
use Rattle.cs_base.proofs.Tests.{some_is}
use Rattle.cs_base.specs.declared.resource.Rate.{Rate}
use Rattle.cs_ir.specs.Waves.{if_init}
use Rattle.cs_meaning.specs.Core.{Stmt, Block, Arms, set, unit, zak, store, out, out_at, nothing, choose, no_stmt}
use Rattle.cs_meaning.specs.Core.{andthen, otherwise, arm}
use Rattle.cs_meaning.specs.Notes.{Path, next, unit_past, unit_past_block, unit_past_arms}
use Rattle.cs_typed.specs.TypedTree.{Expression, number, neg, pair, pick, apply}
use Rattle.cs_typed.specs.WellRated.{node_rate}
use Rattle.cs_code.specs.{declared.frame.Progress.Progress, inner.Kept.inward, inner.Kept.registers}
use Rattle.cs_code.specs.inner.Kept.{start, past, past_all, past_parts, past_stmt, past_block, past_arms, itself}
use Rattle.cs_code.specs.inner.Kept.{nowhere, parts, numbers, all_numbers, stmt_numbers, block_numbers, arms_numbers}
use Rattle.cs_code.proofs.Inside.{AreApart, LaysOn, behind, behind_is}
use Rattle.cs_base.specs.declared.resource.Rate.TheVariants as rate

-- ---- numbers grow

if_grows : (r : Rate) (at n : ℕ) → at ≤ n → at ≤ if_init r (at + 1) n
if_grows rate.Init at n h = omega arith
if_grows a at n h = h

pub past_grows : (at : ℕ) (e : Expression) → at ≤ past at e
past_grows at (neg r a) = if_grows r at (past at a) (past_grows at a)
past_grows at (pair r o a b) =
    if_grows r at (past (past at a) b) (le_trans (past_grows at a) (past_grows (past at a) b))
past_grows at (pick r c a b) =
    if_grows r at (past (past (past at c) a) b)
    (le_trans (past_grows at c) (le_trans (past_grows (past at c) a) (past_grows (past (past at c) a) b)))
past_grows at (apply r g a) = if_grows r at (past at a) (past_grows at a)
past_grows at w = if_grows (node_rate w) at at (omega arith)

pub past_all_grows : (at : ℕ) (es : List Expression) → at ≤ past_all at es
past_all_grows at [] = omega arith
past_all_grows at (e ∷ es) = le_trans (past_grows at e) (past_all_grows (past at e) es)

if_below : (r : Rate) (at n : ℕ) → at ≤ n → at ≤ if_init r at n
if_below rate.Init at n h = omega arith
if_below a at n h = h

mutual
  stmt_grows : (p : Progress) (s : Stmt) → p.part ≤ (past_stmt p s).part
  stmt_grows p (set r v e) = if_below r p.part (past p.part e) (past_grows p.part e)
  stmt_grows p (unit r vs opcode reach xs is) = if_below r p.part (past_all p.part xs) (past_all_grows p.part xs)
  stmt_grows p (zak r vs opcode reach xs) = if_below r p.part (past_all p.part xs) (past_all_grows p.part xs)
  stmt_grows p (store r reach es is) = if_below r p.part (past_all p.part es) (past_all_grows p.part es)
  stmt_grows p (out r es) = past_all_grows p.part es
  stmt_grows p (out_at r es) = past_all_grows p.part es
  stmt_grows p (choose r arms) = arms_grow p arms
  stmt_grows p a = omega arith

  pub block_grows : (p : Progress) (b : Block) → p.part ≤ (past_block p b).part
  block_grows p no_stmt = omega arith
  block_grows p (andthen s b) = le_trans (stmt_grows p s) (block_grows (past_stmt p s) b)

  pub arms_grow : (p : Progress) (arms : Arms) → p.part ≤ (past_arms p arms).part
  arms_grow p (otherwise b) = block_grows p b
  arms_grow p (arm c b rest) =
      le_trans (past_grows p.part c) (le_trans (block_grows (past_parts (past p.part c) p) b)
      (arms_grow (past_block (past_parts (past p.part c) p) b) rest))

-- ---- numbers of different paths differ

-- The numbers are at least `from` and below `end`, and each belongs to one path.
record Ranged (from end : ℕ) (n : Path → Option ℕ) : Type 0 where
  range : (q : Path) (k : ℕ) → n q ≡ Some k → (from ≤ k) × (k < end)
  apart : (q r : Path) (k : ℕ) → n q ≡ Some k → n r ≡ Some k → q ≡ r

itself_ranged : (at : ℕ) → Ranged at (at + 1) (itself at)
itself_ranged at = record { range = range; apart = apart }
  where
    range : (q : Path) (k : ℕ) → itself at q ≡ Some k → (at ≤ k) × (k < at + 1)
    range [] k e = let same : at ≡ k = some_is at k e in (omega arith, omega arith)
    range (j ∷ q) k e = absurd (none-some k e)

    apart : (q r : Path) (k : ℕ) → itself at q ≡ Some k → itself at r ≡ Some k → q ≡ r
    apart [] [] k e f = refl
    apart [] (i ∷ r) k e f = absurd (none-some k f)
    apart (j ∷ q) r k e f = absurd (none-some k e)

nowhere_ranged : (from end : ℕ) → Ranged from end nowhere
nowhere_ranged from end =
    record { range = λ q k e. absurd (none-some k e); apart = λ q r k e f. absurd (none-some k e) }

parts_ranged : (from mid end : ℕ) (n m : Path → Option ℕ) → from ≤ mid → mid ≤ end → Ranged from mid n
    → Ranged mid end m → Ranged from end (parts n m)
parts_ranged from mid end n m low high a b = record { range = range; apart = apart }
  where
    range : (q : Path) (k : ℕ) → parts n m q ≡ Some k → (from ≤ k) × (k < end)
    range [] k e = absurd (none-some k e)
    range (zero ∷ q) k e = let h = a.range q k e in let x = h.0 in let y = h.1 in (x, omega arith)
    range (suc j ∷ q) k e = let h = b.range (j ∷ q) k e in let x = h.0 in let y = h.1 in (omega arith, y)

    apart : (q r : Path) (k : ℕ) → parts n m q ≡ Some k → parts n m r ≡ Some k → q ≡ r
    apart [] r k e f = absurd (none-some k e)
    apart (j ∷ q) [] k e f = absurd (none-some k f)
    apart (zero ∷ q) (zero ∷ r) k e f = ap (λ p. 0 ∷ p) (a.apart q r k e f)
    apart (zero ∷ q) (suc i ∷ r) k e f =
        absurd (let x = (a.range q k e).1 in let y = (b.range (i ∷ r) k f).0 in omega arith)
    apart (suc j ∷ q) (zero ∷ r) k e f =
        absurd (let x = (a.range r k f).1 in let y = (b.range (j ∷ q) k e).0 in omega arith)
    apart (suc j ∷ q) (suc i ∷ r) k e f = ap next (b.apart (j ∷ q) (i ∷ r) k e f)

-- parts after which nothing more is kept
last_ranged : (from end : ℕ) (n : Path → Option ℕ) → from ≤ end → Ranged from end n → Ranged from end (parts n nowhere)
last_ranged from end n low h = parts_ranged from end end n nowhere low (omega arith) h (nowhere_ranged end end)

rate_ranged : (r : Rate) (at end : ℕ) (n : Path → Option ℕ) → Ranged at end n
    → Ranged at (if_init r (at + 1) end) (if_init r (itself at) n)
rate_ranged rate.Init at end n h = itself_ranged at
rate_ranged a at end n h = h

unless_ranged : (r : Rate) (at end : ℕ) (n : Path → Option ℕ) → Ranged at end n
    → Ranged at (if_init r at end) (if_init r nowhere n)
unless_ranged rate.Init at end n h = nowhere_ranged at at
unless_ranged a at end n h = h

one_ranged : (r : Rate) (at : ℕ) → Ranged at (if_init r (at + 1) at) (if_init r (itself at) nowhere)
one_ranged r at = rate_ranged r at at nowhere (nowhere_ranged at at)

ranged : (at : ℕ) (e : Expression) → Ranged at (past at e) (numbers at e)
ranged at (neg r a) = rate_ranged r at (past at a) _
    (last_ranged at (past at a) (numbers at a) (past_grows at a) (ranged at a))
ranged at (pair r o a b) =
    let mid : ℕ = past at a in
    let end : ℕ = past mid b in
    rate_ranged r at end _
    (parts_ranged at mid end (numbers at a) (parts (numbers mid b) nowhere) (past_grows at a) (past_grows mid b)
    (ranged at a) (last_ranged mid end (numbers mid b) (past_grows mid b) (ranged mid b)))
ranged at (pick r c a b) =
    let one : ℕ = past at c in
    let two : ℕ = past one a in
    let end : ℕ = past two b in
    rate_ranged r at end _
    (parts_ranged at one end (numbers at c) (parts (numbers one a) (parts (numbers two b) nowhere)) (past_grows at c)
    (le_trans (past_grows one a) (past_grows two b)) (ranged at c)
    (parts_ranged one two end (numbers one a) (parts (numbers two b) nowhere) (past_grows one a) (past_grows two b)
    (ranged one a) (last_ranged two end (numbers two b) (past_grows two b) (ranged two b))))
ranged at (apply r g a) =
    rate_ranged r at (past at a) _ (last_ranged at (past at a) (numbers at a) (past_grows at a) (ranged at a))
ranged at w = one_ranged (node_rate w) at

all_ranged : (at : ℕ) (es : List Expression) → Ranged at (past_all at es) (all_numbers at es)
all_ranged at [] = nowhere_ranged at at
all_ranged at (e ∷ es) =
    parts_ranged at (past at e) (past_all (past at e) es) (numbers at e) (all_numbers (past at e) es) (past_grows at e)
    (past_all_grows (past at e) es) (ranged at e) (all_ranged (past at e) es)

mutual
  stmt_ranged : (p : Progress) (s : Stmt) → Ranged p.part (past_stmt p s).part (stmt_numbers p s)
  stmt_ranged p (set r v e) =
      unless_ranged r p.part (past p.part e) (parts (numbers p.part e) nowhere)
      (last_ranged p.part (past p.part e) (numbers p.part e) (past_grows p.part e) (ranged p.part e))
  stmt_ranged p (unit r vs opcode reach xs is) =
      unless_ranged r p.part (past_all p.part xs) (all_numbers p.part xs) (all_ranged p.part xs)
  stmt_ranged p (zak r vs opcode reach xs) =
      unless_ranged r p.part (past_all p.part xs) (all_numbers p.part xs) (all_ranged p.part xs)
  stmt_ranged p (store r reach es is) =
      unless_ranged r p.part (past_all p.part es) (all_numbers p.part es) (all_ranged p.part es)
  stmt_ranged p (out r es) = all_ranged p.part es
  stmt_ranged p (out_at r es) = all_ranged p.part es
  stmt_ranged p (choose r arms) = arms_ranged p arms
  stmt_ranged p a = nowhere_ranged p.part p.part

  block_ranged : (p : Progress) (b : Block) → Ranged p.part (past_block p b).part (block_numbers p b)
  block_ranged p no_stmt = nowhere_ranged p.part p.part
  block_ranged p (andthen s b) =
      let q : Progress = past_stmt p s in
      parts_ranged p.part q.part (past_block q b).part (stmt_numbers p s) (block_numbers q b) (stmt_grows p s)
      (block_grows q b) (stmt_ranged p s) (block_ranged q b)

  arms_ranged : (p : Progress) (arms : Arms) → Ranged p.part (past_arms p arms).part (arms_numbers p arms)
  arms_ranged p (otherwise b) =
      last_ranged p.part (past_block p b).part (block_numbers p b) (block_grows p b) (block_ranged p b)
  arms_ranged p (arm c b rest) =
      let q : Progress = past_parts (past p.part c) p in
      let after : Progress = past_block q b in
      let end : ℕ = (past_arms after rest).part in
      parts_ranged p.part after.part end (parts (numbers p.part c) (parts (block_numbers q b) nowhere))
      (arms_numbers after rest) (le_trans (past_grows p.part c) (block_grows q b)) (arms_grow after rest)
      (parts_ranged p.part q.part after.part (numbers p.part c) (parts (block_numbers q b) nowhere)
      (past_grows p.part c) (block_grows q b)
      (ranged p.part c) (last_ranged q.part after.part (block_numbers q b) (block_grows q b) (block_ranged q b)))
      (arms_ranged after rest)

-- ---- paths inward and outward

inward_twice : (q p r : Path) → inward (inward q p) r ≡ inward p (q ++ r)
inward_twice [] p r = refl
inward_twice (k ∷ q) p r = inward_twice q (k ∷ p) r

outward_again : (p : Path) → inward (inward p []) [] ≡ p
outward_again p = inward_twice p [] [] ∙ append-nil p

same_inward : (p q : Path) → inward p [] ≡ inward q [] → p ≡ q
same_inward p q e = sym (outward_again p) ∙ ap (λ r. inward r []) e ∙ outward_again q

-- ---- the registers of a block

-- the values that a block keeps have their registers
pub registers_lay : (b : Block) → LaysOn (registers b) (0 ∷ []) (block_numbers start b)
registers_lay b k q =
    ap (block_numbers start b)
    (inward_twice q (behind k (0 ∷ [])) [] ∙ ap (inward (behind k (0 ∷ []))) (append-nil q) ∙ at_front k 0 q
    ∙ ap (λ j. j ∷ q) (add-zero k))
  where
    at_front : (k n : ℕ) (q : Path) → inward (behind k (n ∷ [])) q ≡ (k + n) ∷ q
    at_front k n q = ap (λ p. inward p q) (behind_is k n [])

-- no two values have the same register
pub registers_apart : (b : Block) → AreApart (registers b)
registers_apart b p q n e f = same_inward p q ((block_ranged start b).apart (inward p []) (inward q []) n e f)

-- ---- a condition that is kept completely

still_once : (at : ℕ) (r : Rate) (n : Path → Option ℕ) → r ≡ rate.Init → if_init r (itself at) n [] ≡ Some at
still_once at r n h = ap (λ q. if_init q (itself at) n []) h

pub still_number : (at : ℕ) (e : Expression) → node_rate e ≡ rate.Init → numbers at e [] ≡ Some at
still_number at (number r n) h = still_once at r _ h
still_number at w h = still_once at (node_rate w) _ h

-- ---- units

mutual
  pub stmt_unit : (p : Progress) (s : Stmt) → (past_stmt p s).unit ≡ unit_past p.unit s
  stmt_unit p (choose r arms) = arms_unit p arms
  stmt_unit p a = refl

  pub block_unit : (p : Progress) (b : Block) → (past_block p b).unit ≡ unit_past_block p.unit b
  block_unit p no_stmt = refl
  block_unit p (andthen s b) = block_unit (past_stmt p s) b ∙ ap (λ u. unit_past_block u b) (stmt_unit p s)

  arms_unit : (p : Progress) (arms : Arms) → (past_arms p arms).unit ≡ unit_past_arms p.unit arms
  arms_unit p (otherwise b) = block_unit p b
  arms_unit p (arm c b rest) =
      let q : Progress = past_parts (past p.part c) p in
      arms_unit (past_block q b) rest ∙ ap (λ u. unit_past_arms u rest) (block_unit q b)
