-- The rules of expressions, in the form in which the parser uses them: with the symbols that a call leaves.
use Rattle.std.proofs.Common.{◌≡◌, ◌∙◌, ◌≤◌, ◌+◌, ◌-◌, ℕ, zero, suc, Bool, true, false, List, Result, Ok, Err, Option}
use Rattle.std.proofs.Common.{Some, None, refl, arith, sym, ap, subst}
use Rattle.cs_base.specs.{declared.fault.Or.Or, declared.fault.OrcFault.OrcFault}
use Rattle.cs_words.specs.{declared.sign.BinOp.BinOp, declared.word.Func.Func}
use Rattle.cs_grammar.specs.declared.expr.Level.{Level}
use Rattle.cs_grammar.specs.Grammar.{fact_pick, no_more, one_alone, one_more, ReadsExpr, ReadsTail, binary, expr_stop}
use Rattle.cs_grammar.specs.Grammar.{fact_alone, fact_call, fact_group}
use Rattle.cs_grammar.specs.Tree.{Expression, apply, pick}
use Rattle.cs_grammar.specs.inner.Answers.{Gives, IsClosed, past}
use Rattle.cs_grammar.specs.Parts.{atom, operator_of, part_form, rank, repeats, tighter}
use Rattle.cs_grammar.specs.Reading.{Left, Reading, Scope, left, mapped, next_is, three, through}
use Rattle.cs_grammar.specs.declared.symbol.Expected.{Expected}
use Rattle.cs_grammar.specs.Symbols.{Symbol, after, next}
use Rattle.cs_grammar.proofs.Gives.{both_mapped, left_through, through_is, through_keeps, through_mapped, valued}
use Rattle.cs_base.specs.declared.fault.Or.TheVariants as or
use Rattle.cs_grammar.specs.declared.expr.Level.TheVariants as at
use Rattle.cs_grammar.specs.declared.expr.PartForm.TheVariants as part
use Rattle.cs_grammar.specs.declared.symbol.Expected.TheVariants as expected

-- ---- brackets

pub group_is : {s : Scope} {ts : List Symbol} (e : Expression) (mid : List Symbol) (st : Left)
    → part_form ts ≡ part.Bracket
    → ReadsExpr s at.Expr (Ok (after ts)) (Ok (e, mid)) → next_is expected.Question mid ≡ false
    → past s expected.Close mid ≡ st
    → ReadsExpr s at.Fact (Ok ts) (valued e st)
group_is {s} {ts} e mid st m h q p =
    subst (ReadsExpr s at.Fact (Ok ts)) (through_is s expected.Close e mid st p) (fact_group m h q)

-- an expression, and the symbol that must follow it
pub closed_is : {s : Scope} {ts : List Symbol} (end : Expected) (e : Expression) (mid : List Symbol) (st : Left)
    → ReadsExpr s at.Expr (Ok ts) (Ok (e, mid)) → past s end mid ≡ st → IsClosed s end ts (valued e st)
closed_is {s} {ts} end e mid st h p = (Ok (e, mid), h, sym (through_is s end e mid st p))

pub call_is : {s : Scope} {ts : List Symbol} (g : Func) (o : Reading Expression) → part_form ts ≡ part.Function g
    → IsClosed s expected.Close (after (after ts)) o → ReadsExpr s at.Fact (Ok ts) (mapped (apply g) o)
call_is {s} {ts} g o m (b, k, e) =
    subst (ReadsExpr s at.Fact (Ok ts)) (through_mapped s expected.Close (apply g) b ∙ ap (mapped (apply g)) (sym e))
    (fact_call m k)

-- ---- a fault is the reading at every level

pub stops : {s : Scope} {f : OrcFault} (l : Level) → ReadsExpr s l (Err f) (Err f)
stops at.Fact = expr_stop
stops at.Term = binary refl expr_stop (no_more refl)
stops at.Sum = binary refl (binary refl expr_stop (no_more refl)) (no_more refl)
stops at.Cmp = binary refl (binary refl (binary refl expr_stop (no_more refl)) (no_more refl)) (no_more refl)
stops at.And = binary refl
    (binary refl (binary refl (binary refl expr_stop (no_more refl)) (no_more refl)) (no_more refl)) (no_more refl)
stops at.Expr = binary refl
    (binary refl (binary refl (binary refl (binary refl expr_stop (no_more refl)) (no_more refl)) (no_more refl))
    (no_more refl))
    (no_more refl)

after_colon : (s : Scope) (y : Expression) (vs : List Symbol) (st : Left) (b : Reading Expression)
    → past s expected.Colon vs ≡ st → ReadsExpr s at.Expr st b
    → ReadsExpr s at.Expr (left (through s expected.Colon (Ok (y, vs)))) b
after_colon s y vs st b e k = subst (λ x. ReadsExpr s at.Expr x b) (sym (left_through s expected.Colon y vs ∙ e)) k

picked_through : (s : Scope) (c y : Expression) (us vs : List Symbol) (b : Reading Expression)
    → through s expected.Close (three pick (Ok (c, us)) (Ok (y, vs)) b) ≡ mapped (pick c y) (through s expected.Close b)
picked_through s c y us vs b =
    ap (through s expected.Close) (both_mapped (pick c) y vs b) ∙ through_mapped s expected.Close (pick c y) b

-- ---- a choice: `?` comes after its condition c, which leaves the symbols us

module _ {s : Scope} {ts : List Symbol} (c : Expression) (us : List Symbol) (m : part_form ts ≡ part.Bracket)
    (h : ReadsExpr s at.Expr (Ok (after ts)) (Ok (c, us))) (q : next_is expected.Question us ≡ true) where
  pub pick_unmet : (f : OrcFault) → IsClosed s expected.Colon (after us) (Err f) → ReadsExpr s at.Fact (Ok ts) (Err f)
  pick_unmet f (Err g, k, e) = fact_pick m h q (subst (ReadsExpr s at.Expr (Ok (after us))) (sym e) k) (stops at.Expr)
  pick_unmet f (Ok (y, vs), k, e) =
      fact_pick m h q k (after_colon s y vs (Err f) (Err f) (sym (left_through s expected.Colon y vs) ∙ ap left (sym e))
      (stops at.Expr))

  pub pick_is : (y : Expression) (ws : List Symbol) (o : Reading Expression)
      → IsClosed s expected.Colon (after us) (Ok (y, ws))
      → IsClosed s expected.Close ws o → ReadsExpr s at.Fact (Ok ts) (mapped (pick c y) o)
  pick_is y ws o (Err g, k, e) j = cc
  pick_is y ws o (Ok (z, vs), k, e) (b, i, d) =
      let same : z ≡ y = sym (through_keeps s expected.Colon y z ws vs e) in
      subst (λ x. ReadsExpr s at.Fact (Ok ts) (mapped (pick c x) o)) same
      (subst (ReadsExpr s at.Fact (Ok ts)) (picked_through s c z us vs b ∙ ap (mapped (pick c z)) (sym d))
      (fact_pick m h q k (after_colon s z vs (Ok ws) b (sym (left_through s expected.Colon z vs) ∙ ap left (sym e)) i)))

-- ---- levels

up : {s : Scope} {st : Left} {f : OrcFault} {l m : Level} → tighter l ≡ Some m → ReadsExpr s m st (Err f)
    → ReadsExpr s l st (Err f)
up e h = binary e h (no_more refl)

abbrev level_of : ℕ → Level
level_of zero = at.Fact
level_of (suc zero) = at.Term
level_of (suc (suc zero)) = at.Sum
level_of (suc (suc (suc zero))) = at.Cmp
level_of (suc (suc (suc (suc zero)))) = at.And
level_of _ = at.Expr

of_rank : (l : Level) → level_of (rank l) ≡ l
of_rank at.Fact = refl
of_rank l = refl

risen : {s : Scope} {st : Left} {f : OrcFault} (n : ℕ) (l m : Level) → rank l ≡ n + rank m → ReadsExpr s m st (Err f)
    → ReadsExpr s l st (Err f)
risen {s} {st} {f} zero l m e h =
    let same : rank m ≡ rank l = omega (arith, e) in
    subst (λ x. ReadsExpr s x st (Err f)) (sym (of_rank m) ∙ ap level_of same ∙ of_rank l) h
risen (suc n) at.Fact m e h = absurd (omega (arith, e))
risen (suc n) at.Term m e h = up refl (risen n at.Fact m (omega (arith, e)) h)
risen (suc n) at.Sum m e h = up refl (risen n at.Term m (omega (arith, e)) h)
risen (suc n) at.Cmp m e h = up refl (risen n at.Sum m (omega (arith, e)) h)
risen (suc n) at.And m e h = up refl (risen n at.Cmp m (omega (arith, e)) h)
risen (suc n) at.Expr m e h = up refl (risen n at.And m (omega (arith, e)) h)

-- a fault at a level is a fault at each lower precedence level
pub raised : {s : Scope} {st : Left} {f : OrcFault} (l m : Level) → rank m ≤ rank l → ReadsExpr s m st (Err f)
    → ReadsExpr s l st (Err f)
raised l m w h = risen (rank l - rank m) l m (omega (arith, w)) h

-- ---- operators

pub right_fails : {s : Scope} {l m : Level} {op : BinOp} {us : List Symbol} (a : Expression) (f : OrcFault)
    → operator_of l (next us).kind ≡ Some op
    → tighter l ≡ Some m → ReadsExpr s m (Ok (after us)) (Err f) → ReadsTail s l (Ok (a, us)) (Err f)
right_fails {s} {l} {us = us} a f e t h = by (repeats l) refl
  where
    by : (b : Bool) → repeats l ≡ b → ReadsTail s l (Ok (a, us)) (Err f)
    by true r = one_more e r t h (no_more refl)
    by false r = one_alone e r t h

-- ---- an operand of one symbol

pub alone : {T : Type 0} (see : T → Expression) (r : Result T (Or OrcFault)) (rest ts : List Symbol) (s : Scope)
    → part_form ts ≡ part.Alone
    → Gives see r rest (λ o. o ≡ atom s ts) → Gives see r rest (ReadsExpr s at.Fact (Ok ts))
alone see (Ok x) rest ts s m h = subst (ReadsExpr s at.Fact (Ok ts)) (sym h) (fact_alone m)
alone see (Err (or.Fault f)) rest ts s m h = subst (ReadsExpr s at.Fact (Ok ts)) (sym h) (fact_alone m)
alone see (Err or.OutOfMemory) rest ts s m h = tt

pub none_of : {A : Type 0} (o : Option A) → ((x : A) → o ≡ Some x → ⊥) → o ≡ None
none_of None h = refl
none_of (Some x) h = absurd (h x refl)
