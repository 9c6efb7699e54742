-- Every text has exactly one reading as an expression of a level. A function with a number of steps computes
-- it: given enough steps, its result is the one that the relation states.
use Rattle.std.proofs.Common.{◌≡◌, ◌<◌, ◌≤◌, ◌+◌, ◌*◌, ◌&&◌, ◌∙◌, ℕ, zero, suc, Bool, true, false, List, [], ◌∷◌}
use Rattle.std.proofs.Common.{length, Option, Some, None, Ok, Err, refl, arith, sym, ap, subst}
use Rattle.cs_base.specs.declared.fault.OrcFault.{OrcFault}
use Rattle.cs_words.specs.declared.sign.BinOp.{BinOp}
use Rattle.cs_grammar.specs.{declared.expr.Level.Level, declared.expr.PartForm.PartForm}
use Rattle.cs_grammar.specs.Parts.{tighter, atom, no_part, operator, operator_of, part_form, rank, repeats, single}
use Rattle.cs_grammar.specs.Parts.{single_or}
use Rattle.cs_grammar.specs.Reading.{through, Left, Reading, Scope, both, left, mapped, meets, next_is, skip, three}
use Rattle.cs_grammar.specs.Grammar.{ReadsExpr, ReadsTail, binary, expr_stop, fact_alone, fact_call, fact_group}
use Rattle.cs_grammar.specs.Grammar.{fact_neg, fact_pick, no_more, one_alone, one_more}
use Rattle.cs_grammar.specs.Tree.{Expression, apply, neg, pair, pick}
use Rattle.cs_grammar.specs.{declared.symbol.Kind.Kind, Kinds.is_word}
use Rattle.cs_grammar.specs.Symbols.{Symbol, after, next}
use Rattle.cs_grammar.proofs.Sizes.{size, after_size, skip_size, mapped_size, both_size, three_size, choice_size}
use Rattle.cs_grammar.proofs.Sizes.{through_size}
use Rattle.cs_base.specs.declared.fault.OrcKind.TheVariants as orc
use Rattle.cs_words.specs.declared.sign.BinOp.TheVariants as b
use Rattle.cs_grammar.specs.declared.expr.Level.TheVariants as level
use Rattle.cs_grammar.specs.declared.symbol.Kind.TheVariants as kind
use Rattle.cs_grammar.specs.declared.expr.PartForm.TheVariants as part
use Rattle.cs_grammar.specs.declared.symbol.Expected.TheVariants as expected
use Rattle.cs_words.specs.declared.sign.Sign.TheVariants as sign

-- a request: an expression, or the operators after one
pub data Ask : Type 0 where
  expr : Level → Left → Ask
  tail : Level → Reading Expression → Ask

abbrev Answers : Type 0
Answers = Ask → Reading Expression

abbrev branch : Answers → Reading Expression → Reading Expression
branch R c = R (expr level.Expr (skip (left c)))

abbrev other : Scope → Answers → Reading Expression → Reading Expression
other s R a = R (expr level.Expr (left (through s expected.Colon a)))

abbrev grouped : Scope → Answers → Reading Expression → Bool → Reading Expression
grouped s R c true = through s expected.Close (three pick c (branch R c) (other s R (branch R c)))
grouped s R c false = through s expected.Close c

abbrev first : Answers → List Symbol → Reading Expression
first R ts = R (expr level.Expr (Ok (after ts)))

abbrev fact_by : Scope → Answers → List Symbol → PartForm → Reading Expression
fact_by s R ts part.Minus = mapped neg (R (expr level.Fact (Ok (after ts))))
fact_by s R ts (part.Function f) =
    through s expected.Close (mapped (apply f) (R (expr level.Expr (Ok (after (after ts))))))
fact_by s R ts part.Bracket = grouped s R (first R ts) (meets expected.Question (left (first R ts)))
fact_by s R ts part.Alone = atom s ts

abbrev fact_step : Scope → Answers → Left → Reading Expression
fact_step s R (Ok ts) = fact_by s R ts (part_form ts)
fact_step s R (Err f) = Err f

abbrev expr_step : Scope → Answers → Level → Left → Option Level → Reading Expression
expr_step s R l st (Some m) = R (tail l (R (expr m st)))
expr_step s R l st None = fact_step s R st

abbrev tail_on : Answers → Level → Bool → Reading Expression → Reading Expression
tail_on R l true o = R (tail l o)
tail_on R l false o = o

abbrev right_side : Answers → Reading Expression → Option Level → Reading Expression
right_side R o (Some m) = R (expr m (skip (left o)))
right_side R o None = o

abbrev tail_step : Answers → Level → Reading Expression → Option BinOp → Reading Expression
tail_step R l o None = o
tail_step R l o (Some op) = tail_on R l (repeats l) (both (pair op) o (right_side R o (tighter l)))

abbrev step : Scope → Answers → Answers
step s R (expr l st) = expr_step s R l st (tighter l)
step s R (tail l o) = tail_step R l o (operator l (left o))

pub run : Scope → ℕ → Answers
run s zero a = Err (record { line = 0; kind = orc.Unexpected })
run s (suc n) a = step s (run s n) a

-- a request whose result is the same for every number of steps from some number on
pub record Settles (s : Scope) (a : Ask) (o : Reading Expression) : Type 0 where
  pub steps : ℕ
  pub ends : (n : ℕ) → steps ≤ n → run s n a ≡ o

settle : {s : Scope} {a : Ask} {o : Reading Expression} (k : ℕ) → ((m : ℕ) → k ≤ m → step s (run s m) a ≡ o)
    → Settles s a o
unfolding run
settle {s} {a} {o} k f = record { steps = suc k; ends = by }
  where
    by : (n : ℕ) → suc k ≤ n → run s n a ≡ o
    by zero h = absurd (omega arith)
    by (suc m) h = f m (omega arith)

mutual
  settles : {s : Scope} {l : Level} {st : Left} {o : Reading Expression} → ReadsExpr s l st o → Settles s (expr l st) o
  settles {s} {l} {st} (binary e h t) =
      let i = settles h in
      let j = tail_settles t in
      settle (i.steps + j.steps)
      (λ m le. ap (expr_step s (run s m) l st) e ∙ ap (λ x. run s m (tail l x)) (i.ends m (omega arith))
      ∙ j.ends m (omega arith))
  settles expr_stop = settle 0 (λ m le. refl)
  settles {s} (fact_neg {ts} e h) =
      let i = settles h in
      settle i.steps (λ m le. ap (fact_by s (run s m) ts) e ∙ ap (mapped neg) (i.ends m le))
  settles {s} (fact_call {ts} {f} e h) =
      let i = settles h in
      settle i.steps (λ m le. ap (fact_by s (run s m) ts) e
      ∙ ap (λ x. through s expected.Close (mapped (apply f) x)) (i.ends m le))
  settles {s} (fact_group {ts} {o} e h q) =
      let i = settles h in
      settle i.steps (λ m le. ap (fact_by s (run s m) ts) e
      ∙ ap (λ x. grouped s (run s m) x (meets expected.Question (left x))) (i.ends m le)
      ∙ ap (grouped s (run s m) o) q)
  settles {s} (fact_pick {ts} {c} {a} {b} e h q g k) =
      let i = settles h in
      let i2 = settles g in
      let i3 = settles k in
      settle (i.steps + i2.steps + i3.steps) (λ m le.
      ap (fact_by s (run s m) ts) e
      ∙ ap (λ x. grouped s (run s m) x (meets expected.Question (left x))) (i.ends m (omega arith))
      ∙ ap (grouped s (run s m) c) q
      ∙ ap (λ x. through s expected.Close (three pick c x (other s (run s m) x))) (i2.ends m (omega arith))
      ∙ ap (λ x. through s expected.Close (three pick c a x)) (i3.ends m (omega arith)))
  settles {s} (fact_alone {ts} e) = settle 0 (λ m le. ap (fact_by s (run s m) ts) e)

  tail_settles : {s : Scope} {l : Level} {o out : Reading Expression} → ReadsTail s l o out → Settles s (tail l o) out
  tail_settles {s} {l} {o} (no_more e) = settle 0 (λ m le. ap (tail_step (run s m) l o) e)
  tail_settles {s} {l} {o} (one_more {op = op} {b = b} e r t h k) =
      let i = settles h in
      let j = tail_settles k in
      settle (i.steps + j.steps) (λ m le.
      ap (tail_step (run s m) l o) e
      ∙ ap (λ x. tail_on (run s m) l x (both (pair op) o (right_side (run s m) o (tighter l)))) r
      ∙ ap (λ x. run s m (tail l (both (pair op) o (right_side (run s m) o x)))) t
      ∙ ap (λ x. run s m (tail l (both (pair op) o x)))
      (i.ends m (omega arith)) ∙ j.ends m (omega arith))
  tail_settles {s} {l} {o} (one_alone {op = op} {b = b} e r t h) =
      let i = settles h in
      settle i.steps (λ m le.
      ap (tail_step (run s m) l o) e
      ∙ ap (λ x. tail_on (run s m) l x (both (pair op) o (right_side (run s m) o (tighter l)))) r
      ∙ ap (λ x. both (pair op) o (right_side (run s m) o x)) t ∙ ap (λ x. both (pair op) o x) (i.ends m le))

-- at most one reading
pub same_expr : {s : Scope} {l : Level} {st : Left} {o p : Reading Expression} → ReadsExpr s l st o → ReadsExpr s l st p
    → o ≡ p
same_expr h k =
    let i = settles h in
    let j = settles k in
    sym (i.ends (i.steps + j.steps) (omega arith)) ∙ j.ends (i.steps + j.steps) (omega arith)

-- at least one reading

abbrev rank_of : Option Level → ℕ
rank_of (Some m) = rank m + 2
rank_of None = 0

rank_less : (l : Level) → rank_of (tighter l) < rank l + 2
rank_less level.Expr = omega arith
rank_less l = omega arith

rank_within : (l : Level) → (2 ≤ rank l + 2) × (rank l + 2 < 8)
rank_within level.Expr = (omega arith, omega arith)
rank_within l = (omega arith, omega arith)

is_fact : (l : Level) → tighter l ≡ None → l ≡ level.Fact
is_fact level.Fact e = refl
is_fact _ e = cc

abbrev weight : Ask → ℕ
weight (expr l st) = 8 * size st + (rank l + 2)
weight (tail l o) = 8 * size (left o) + 1

abbrev Right : Scope → Ask → Reading Expression → Type 0
Right s (expr l st) o = ReadsExpr s l st o × (size (left o) ≤ size st)
Right s (tail l i) o = ReadsTail s l i o × (size (left o) ≤ size (left i))

form_less : (ts : List Symbol) (f : PartForm) → part_form ts ≡ f → (f ≡ part.Alone → ⊥) → length (after ts) < length ts
form_less [] f e k = absurd (k (sym e))
form_less (t ∷ ts) f e k = omega arith

operator_less : (l : Level) (op : BinOp) (st : Left) → operator l st ≡ Some op → size (skip st) < size st
operator_less l op (Err f) e = cc
operator_less l op (Ok []) e = cc
operator_less l op (Ok (t ∷ ts)) e = omega arith

no_op_at : (op o : BinOp) → operator_of level.Fact (kind.Sign (sign.Operator o)) ≡ Some op → ⊥
no_op_at op b.Or e = cc
no_op_at op _ e = cc

no_op : (op : BinOp) (k : Kind) → operator_of level.Fact k ≡ Some op → ⊥
no_op op (kind.Sign (sign.Operator o)) e = no_op_at op o e
no_op op _ e = cc

no_operator : (l : Level) (op : BinOp) (st : Left) → l ≡ level.Fact → operator l st ≡ Some op → ⊥
no_operator l op (Err f) h e = cc
no_operator l op (Ok ts) h e = no_op op (next ts).kind (subst (λ x. operator_of x (next ts).kind ≡ Some op) h e)

single_size : {A : Type 0} (o : Option A) (ts : List Symbol) (f : OrcFault)
    → size (left (single_or o ts f)) ≤ length ts + 1
single_size (Some e) ts f = omega arith
single_size None ts f = omega arith

atom_size : (s : Scope) (ts : List Symbol) → size (left (atom s ts)) ≤ length ts + 1
atom_size s ts =
    choice_size (is_word (next ts).kind && next_is expected.Open (after ts)) (Err (no_part s ts))
    (single_or (single s (next ts) (next ts).kind) (after ts) (no_part s ts)) (length ts + 1) (omega arith)
    (omega (arith, single_size (single s (next ts) (next ts).kind) (after ts) (no_part s ts), after_size ts))

module _ (s : Scope) (R : Answers) (n : ℕ) (ih : (b : Ask) → weight b < n → Right s b (R b)) where
  sound_group : (ts : List Symbol) → part_form ts ≡ part.Bracket → 8 * (length ts + 1) + 2 ≤ n → (b : Bool)
      → meets expected.Question (left (first R ts)) ≡ b
      → Right s (expr level.Fact (Ok ts)) (grouped s R (first R ts) b)
  sound_group ts e w true q =
      let less = form_less ts part.Bracket e (λ x. cc) in
      let h = ih (expr level.Expr (Ok (after ts))) (omega arith) in
      let c = first R ts in
      let k = ih (expr level.Expr (skip (left c))) (omega (arith, skip_size (left c), h.1)) in
      let a = branch R c in
      let g = ih (expr level.Expr (left (through s expected.Colon a)))
      (omega (arith, skip_size (left c), h.1, k.1, through_size s expected.Colon a)) in (
        fact_pick e h.0 q k.0 g.0,
        omega (
          arith,
          skip_size (left c),
          h.1,
          k.1,
          g.1,
          through_size s expected.Colon a,
          through_size s expected.Close
              (three pick c a (other s R a)),
          three_size pick c a (other s R a),
        ),
      )
  sound_group ts e w false q =
      let less = form_less ts part.Bracket e (λ x. cc) in
      let h = ih (expr level.Expr (Ok (after ts))) (omega arith) in
      (fact_group e h.0 q, omega (arith, h.1, through_size s expected.Close (first R ts)))

  sound_by : (ts : List Symbol) → 8 * (length ts + 1) + 2 ≤ n → (f : PartForm) → part_form ts ≡ f
      → Right s (expr level.Fact (Ok ts)) (fact_by s R ts f)
  sound_by ts w part.Minus e =
      let less = form_less ts part.Minus e (λ x. cc) in
      let h = ih (expr level.Fact (Ok (after ts))) (omega arith) in
      (fact_neg e h.0, omega (arith, h.1, mapped_size neg (R (expr level.Fact (Ok (after ts))))))
  sound_by ts w (part.Function f) e =
      let less = form_less ts (part.Function f) e (λ x. cc) in
      let h = ih (expr level.Expr (Ok (after (after ts)))) (omega (arith, after_size (after ts))) in
      let o = R (expr level.Expr (Ok (after (after ts)))) in (
        fact_call e h.0,
        omega (
          arith,
          h.1,
          after_size (after ts),
          mapped_size (apply f) o,
          through_size s expected.Close
              (mapped (apply f) o),
        ),
      )
  sound_by ts w part.Bracket e = sound_group ts e w (meets expected.Question (left (first R ts))) refl
  sound_by ts w part.Alone e = (fact_alone e, atom_size s ts)

  sound_fact : (st : Left) → 8 * size st + 2 ≤ n → Right s (expr level.Fact st) (fact_step s R st)
  sound_fact (Err f) w = (expr_stop, omega arith)
  sound_fact (Ok ts) w = sound_by ts w (part_form ts) refl

  sound_expr : (l : Level) (st : Left) → 8 * size st + (rank l + 2) ≤ n → (t : Option Level) → tighter l ≡ t
      → Right s (expr l st) (expr_step s R l st t)
  sound_expr l st w None e =
      let is : level.Fact ≡ l = sym (is_fact l e) in
      let w2 : 8 * size st + 2 ≤ n = omega (arith, ap rank is) in
      subst (λ x. Right s (expr x st) (fact_step s R st)) is (sound_fact st w2)
  sound_expr l st w (Some m) e =
      let low : rank m + 2 < rank l + 2 = subst (λ t. rank_of t < rank l + 2) e (rank_less l) in
      let h = ih (expr m st) (omega arith) in
      let k = ih (tail l (R (expr m st))) (omega (arith, h.1, (rank_within l).0)) in
      (binary e h.0 k.0, omega (arith, h.1, k.1))

  sound_on : (l m : Level) (o : Reading Expression) (op : BinOp) → 8 * size (left o) + 1 ≤ n
      → operator l (left o) ≡ Some op → tighter l ≡ Some m → (b : Bool)
      → repeats l ≡ b → Right s (tail l o) (tail_on R l b (both (pair op) o (R (expr m (skip (left o))))))
  sound_on l m o op w e t true r =
      let less = operator_less l op (left o) e in
      let h = ih (expr m (skip (left o))) (omega (arith, (rank_within m).1)) in
      let b = R (expr m (skip (left o))) in
      let k = ih (tail l (both (pair op) o b)) (omega (arith, h.1, both_size (pair op) o b)) in
      (one_more e r t h.0 k.0, omega (arith, h.1, k.1, both_size (pair op) o b))
  sound_on l m o op w e t false r =
      let less = operator_less l op (left o) e in
      let h = ih (expr m (skip (left o))) (omega (arith, (rank_within m).1)) in
      let b = R (expr m (skip (left o))) in
      (one_alone e r t h.0, omega (arith, h.1, both_size (pair op) o b))

  sound_op : (l : Level) (o : Reading Expression) (op : BinOp) → 8 * size (left o) + 1 ≤ n
      → operator l (left o) ≡ Some op → (t : Option Level)
      → tighter l ≡ t → Right s (tail l o) (tail_on R l (repeats l) (both (pair op) o (right_side R o t)))
  sound_op l o op w e None t = absurd (no_operator l op (left o) (is_fact l t) e)
  sound_op l o op w e (Some m) t = sound_on l m o op w e t (repeats l) refl

  sound_tail : (l : Level) (o : Reading Expression) → 8 * size (left o) + 1 ≤ n → (p : Option BinOp)
      → operator l (left o) ≡ p
      → Right s (tail l o) (tail_step R l o p)
  sound_tail l o w None e = (no_more e, omega arith)
  sound_tail l o w (Some op) e = sound_op l o op w e (tighter l) refl

  sound_step : (a : Ask) → weight a ≤ n → Right s a (step s R a)
  sound_step (expr l st) w = sound_expr l st w (tighter l) refl
  sound_step (tail l o) w = sound_tail l o w (operator l (left o)) refl

sound : (s : Scope) (n : ℕ) (a : Ask) → weight a < n → Right s a (run s n a)
unfolding run
sound s zero a h = absurd (omega arith)
sound s (suc n) a h = sound_step s (run s n) n (λ b k. sound s n b k) a (omega arith)

-- the reading of an expression
pub the_expr : Scope → Level → Left → Reading Expression
the_expr s l st = run s (suc (weight (expr l st))) (expr l st)

pub reads_expr : (s : Scope) (l : Level) (st : Left) → ReadsExpr s l st (the_expr s l st)
unfolding the_expr
reads_expr s l st = (sound s (suc (weight (expr l st))) (expr l st) (omega arith)).0

pub expr_size : (s : Scope) (l : Level) (st : Left) → size (left (the_expr s l st)) ≤ size st
unfolding the_expr
expr_size s l st = (sound s (suc (weight (expr l st))) (expr l st) (omega arith)).1

pub expr_is : {s : Scope} {l : Level} {st : Left} {o : Reading Expression} → ReadsExpr s l st o → the_expr s l st ≡ o
expr_is {s} {l} {st} h = same_expr (reads_expr s l st) h
