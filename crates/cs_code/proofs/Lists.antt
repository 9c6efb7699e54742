-- Lists of expressions and arguments, and pairs of lists.
use Rattle.std.proofs.Common.{◌≡◌, ◌∙◌, ◌+◌, ◌<◌, ◌++◌, ◌∷◌, drop, get_or, ℕ, Bool, true, false, not, cond, List, []}
use Rattle.std.proofs.Common.{length, refl, sym, ap}
use Rattle.std.proofs.lemmas.List.{append_assoc, append-nil, drop_more}
use Rattle.std.specs.{Borrow.Bor, List.AllZip}
use Rattle.cs_meaning.specs.{Core.settled, Core.moving, Core.values_of, When.When}
use Rattle.cs_code.specs.{inner.Kept.past, inner.Spots.spot, inner.Spots.spots}
use Rattle.cs_typed.specs.TypedTree.{Argument, Expression, expression, text, value}
use Rattle.cs_typed.specs.declared.tree.TypedExpr.{TypedExpr}
use Rattle.cs_words.specs.Catalogue.{Row, letter_at, is_settled}
use Rattle.cs_ir.specs.declared.register.Reg.{Reg}
use Rattle.cs_code.specs.inner.Code.{operand_code, operands_code, keep_code, keep_all_code}
use Rattle.cs_code.specs.inner.Emitted.{expressions_of, taken}

pub append_nothing : {A : Type 0} (xs : List A) → xs ++ [] ≡ xs
append_nothing xs = append-nil xs

-- one more value
pub expressions_more : (es : List (Bor TypedExpr)) (e : Bor TypedExpr)
    → expressions_of (es ++ e ∷ []) ≡ expressions_of es ++ expression e.now ∷ []
expressions_more [] e = refl
expressions_more (x ∷ es) e = ap (λ l. expression x.now ∷ l) (expressions_more es e)

-- the first argument, followed by the later ones
taken_or : (b : Bool) (e : Expression) (xs : List Expression) → cond b (e ∷ xs) xs ≡ cond b (e ∷ []) [] ++ xs
taken_or true e xs = refl
taken_or false e xs = refl

left_or : (b : Bool) (e : Expression) (xs : List Expression) → cond b xs (e ∷ xs) ≡ cond (not b) (e ∷ []) [] ++ xs
left_or true e xs = refl
left_or false e xs = refl

settled_step : (row : Row) (n : ℕ) (a : Argument) (rest : List Argument) → settled row n (a ∷ rest)
    ≡ taken (is_settled (letter_at row n)) a ++ settled row (n + 1) rest
settled_step row n (value e) rest = taken_or (is_settled (letter_at row n)) e (settled row (n + 1) rest)
settled_step row n (text v) rest = refl

moving_step : (row : Row) (n : ℕ) (a : Argument) (rest : List Argument) → moving row n (a ∷ rest)
    ≡ taken (not (is_settled (letter_at row n))) a ++ moving row (n + 1) rest
moving_step row n (value e) rest = left_or (is_settled (letter_at row n)) e (moving row (n + 1) rest)
moving_step row n (text v) rest = refl

-- one more argument in the loop that divides arguments into settled and moving ones
pub settled_more : (row : Row) (args : List Argument) (n m : ℕ) (a : Argument) (rest : List Argument) (take : Bool)
    (es new total : List Expression)
    → args ≡ a ∷ rest → take ≡ is_settled (letter_at row n) → m ≡ n + 1 → new ≡ es ++ taken take a
    → es ++ settled row n args ≡ total → new ++ settled row m rest ≡ total
settled_more row args n m a rest take es new total split took on made was =
    ap (λ k. new ++ settled row k rest) on
    ∙ ap (λ k. k ++ settled row (n + 1) rest) (made ∙ ap (λ b. es ++ taken b a) took)
    ∙ append_assoc es (taken (is_settled (letter_at row n)) a) (settled row (n + 1) rest)
    ∙ ap (λ k. es ++ k) (sym (settled_step row n a rest)) ∙ ap (λ k. es ++ settled row n k) (sym split) ∙ was

pub moving_more : (row : Row) (args : List Argument) (n m : ℕ) (a : Argument) (rest : List Argument) (take : Bool)
    (es new total : List Expression)
    → args ≡ a ∷ rest → take ≡ is_settled (letter_at row n) → m ≡ n + 1 → new ≡ es ++ taken (not take) a
    → es ++ moving row n args ≡ total → new ++ moving row m rest ≡ total
moving_more row args n m a rest take es new total split took on made was =
    ap (λ k. new ++ moving row k rest) on
    ∙ ap (λ k. k ++ moving row (n + 1) rest) (made ∙ ap (λ b. es ++ taken (not b) a) took)
    ∙ append_assoc es (taken (not (is_settled (letter_at row n))) a) (moving row (n + 1) rest)
    ∙ ap (λ k. es ++ k) (sym (moving_step row n a rest)) ∙ ap (λ k. es ++ moving row n k) (sym split) ∙ was

values_step : (a : Argument) (rest : List Argument) → values_of (a ∷ rest) ≡ taken true a ++ values_of rest
values_step (value e) rest = refl
values_step (text v) rest = refl

pub values_more : (args : List Argument) (a : Argument) (rest : List Argument) (es new total : List Expression)
    → args ≡ a ∷ rest → new ≡ es ++ taken true a → es ++ values_of args ≡ total → new ++ values_of rest ≡ total
values_more args a rest es new total split made was =
    ap (λ k. k ++ values_of rest) made ∙ append_assoc es (taken true a) (values_of rest)
    ∙ ap (λ k. es ++ k) (sym (values_step a rest)) ∙ ap (λ k. es ++ values_of k) (sym split) ∙ was

-- one more value in the loops that emit code
pub operands_more : (when : When) (at now d next : ℕ) (es : List Expression) (e : Expression) (rest : List Expression)
    → es ≡ e ∷ rest → now ≡ past at e → next ≡ d + 1
    → operands_code when at es d ≡ operand_code when at e d ++ operands_code when now rest next
operands_more when at now d next es e rest split past_it on =
    ap (λ k. operands_code when at k d) split
    ∙ sym (ap (λ k. operand_code when at e d ++ operands_code when k rest (d + 1)) past_it)
    ∙ sym (ap (λ k. operand_code when at e d ++ operands_code when now rest k) on)

pub spots_more : (when : When) (regs new total : List Reg) (at now d next : ℕ) (es : List Expression)
    (e : Expression) (rest : List Expression)
    → es ≡ e ∷ rest → new ≡ regs ++ spot when at e d ∷ [] → now ≡ past at e → next ≡ d + 1
    → regs ++ spots when at es d ≡ total → new ++ spots when now rest next ≡ total
spots_more when regs new total at now d next es e rest split made past_it on was =
    ap (λ k. new ++ spots when k rest next) past_it ∙ ap (λ k. new ++ spots when (past at e) rest k) on
    ∙ ap (λ k. k ++ spots when (past at e) rest (d + 1)) made
    ∙ append_assoc regs (spot when at e d ∷ []) (spots when (past at e) rest (d + 1))
    ∙ ap (λ k. regs ++ spots when at k d) (sym split) ∙ was

pub keep_more : (at now : ℕ) (es : List Expression) (e : Expression) (rest : List Expression)
    → es ≡ e ∷ rest → now ≡ past at e → keep_all_code at es ≡ keep_code at e ++ keep_all_code now rest
keep_more at now es e rest split past_it =
    ap (keep_all_code at) split ∙ sym (ap (λ k. keep_code at e ++ keep_all_code k rest) past_it)

-- the rest of a list, and the rest after its first item
pub dropped : {A : Type 0} (xs : List A) (i : ℕ) (x : A) → i < length xs → x ≡ get_or xs i x
    → drop i xs ≡ x ∷ drop (i + 1) xs
dropped xs i x lt e = drop_more xs i x lt ∙ ap (λ y. y ∷ drop (i + 1) xs) (sym e)

-- ---- pairs of lists

module _ {A B : Type 0} (R : A → B → Type 0) where
  pub zip_append : (xs ys : List A) (us bs : List B) → AllZip R xs us → AllZip R ys bs → AllZip R (xs ++ ys) (us ++ bs)
  zip_append [] ys [] bs h k = k
  zip_append [] ys (a ∷ us) bs h k = absurd h
  zip_append (x ∷ xs) ys [] bs h k = absurd h
  zip_append (x ∷ xs) ys (a ∷ us) bs h k = (h.0, zip_append xs ys us bs h.1 k)

  pub zip_one : (xs : List A) (us : List B) (x : A) (a : B) → AllZip R xs us → R x a
      → AllZip R (xs ++ x ∷ []) (us ++ a ∷ [])
  zip_one xs us x a h k = zip_append xs (x ∷ []) us (a ∷ []) h (k, tt)

pub zip_still : {A B : Type 0} (R S : A → B → Type 0) → ((x : A) (a : B) → R x a → S x a) → (xs : List A)
    (us : List B) → AllZip R xs us → AllZip S xs us
zip_still R S still [] [] h = h
zip_still R S still [] (a ∷ us) h = absurd h
zip_still R S still (x ∷ xs) [] h = absurd h
zip_still R S still (x ∷ xs) (a ∷ us) h = (still x a h.0, zip_still R S still xs us h.1)
