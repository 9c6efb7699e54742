-- Lists that are read item by item: the items so far, and one more item.
use Rattle.std.proofs.Common.{◌≡◌, ◌∙◌, ◌++◌, ℕ, Bool, true, false, List, [], ◌∷◌, map, Option, Some, None, Ok, Err}
use Rattle.std.proofs.Common.{if◌then◌else◌, refl, sym, ap, subst}
use Rattle.std.proofs.lemmas.List.{append_assoc}
use Rattle.cs_base.specs.declared.fault.OrcFault.{OrcFault}
use Rattle.cs_grammar.specs.{declared.lists.Role.Role, declared.tree.Arg.Arg, Parts.is_variable, Tree.Argument}
use Rattle.cs_grammar.specs.{Tree.argument, inner.Rows.behind, inner.Rows.row}
use Rattle.cs_grammar.specs.Grammar.{ReadsArg, ReadsList, list_last, list_more}
use Rattle.cs_grammar.specs.Lines.{fresh, instrument_number, no_target, number_at, one_number, one_target}
use Rattle.cs_grammar.specs.Reading.{Reading, Scope, both, fault, has_number, mapped, misfit, next_is}
use Rattle.cs_grammar.specs.{declared.symbol.Kind.Kind, Kinds.is, Symbols.Symbol, Symbols.after}
use Rattle.cs_base.specs.declared.fault.OrcKind.TheVariants as orc
use Rattle.cs_grammar.specs.declared.symbol.Kind.TheVariants as kind
use Rattle.cs_grammar.specs.declared.symbol.Expected.TheVariants as expected

-- ---- a list with more items in front

-- a reading of a list with more items in front
abbrev pub prefixed : {A : Type 0} → List A → Reading (List A) → Reading (List A)
prefixed xs o = mapped (λ ys. xs ++ ys) o

pub prefixed_none : {A : Type 0} (o : Reading (List A)) → o ≡ prefixed [] o
prefixed_none (Ok (ys, ts)) = refl
prefixed_none (Err f) = refl

pub prefixed_more : {A : Type 0} (xs : List A) (x : A) (o : Reading (List A))
    → prefixed xs (mapped (λ ys. x ∷ ys) o) ≡ prefixed (xs ++ x ∷ []) o
prefixed_more xs x (Err f) = refl
prefixed_more xs x (Ok (ys, ts)) = ap (λ zs. Ok (zs, ts)) (sym (append_assoc xs (x ∷ []) ys))

-- ---- comma-separated items

-- an item is one symbol
abbrev pub TakesOne : {A : Type 0} → (List A → List Symbol → Reading A) → Type 0
TakesOne {A} one = (before : List A) (ts us : List Symbol) (x : A) → one before ts ≡ Ok (x, us)
    → (t : Symbol) × (ts ≡ t ∷ us)

module _ {A : Type 0} (one : List A → List Symbol → Reading A) where
  -- the symbols after an item: a comma and more items, or no more items
  abbrev pub row_behind : List A → List Symbol → Bool → Reading (List A)
  row_behind before ts true = row one before (after ts)
  row_behind before ts false = Ok ([], ts)

  row_at : (before : List A) (t : Symbol) (us : List Symbol) (x : A) → one before (t ∷ us) ≡ Ok (x, us)
      → row one before (t ∷ us) ≡ mapped (λ xs. x ∷ xs) (row_behind (before ++ x ∷ []) us (next_is expected.Comma us))
  row_at before t [] x e = ap (mapped (λ y. y ∷ [])) e
  row_at before t (c ∷ us) x e = by (is expected.Comma c.kind)
    where
      by : (b : Bool)
          → (if b then behind (one before (t ∷ c ∷ us)) (λ y. row one (before ++ y ∷ []) us)
          else mapped (λ y. y ∷ []) (one before (t ∷ c ∷ us)))
          ≡ mapped (λ xs. x ∷ xs) (row_behind (before ++ x ∷ []) (c ∷ us) b)
      by true = ap (λ o. behind o (λ y. row one (before ++ y ∷ []) us)) e
      by false = ap (mapped (λ y. y ∷ [])) e

  pub row_fail : (before : List A) (ts : List Symbol) (f : OrcFault) → one before ts ≡ Err f
      → row one before ts ≡ Err f
  row_fail before [] f e = ap (mapped (λ x. x ∷ [])) e
  row_fail before (t ∷ []) f e = ap (mapped (λ x. x ∷ [])) e
  row_fail before (t ∷ c ∷ us) f e = by (is expected.Comma c.kind)
    where
      by : (b : Bool)
          → (if b then behind (one before (t ∷ c ∷ us)) (λ y. row one (before ++ y ∷ []) us)
          else mapped (λ y. y ∷ []) (one before (t ∷ c ∷ us))) ≡ Err f
      by true = ap (λ o. behind o (λ y. row one (before ++ y ∷ []) us)) e
      by false = ap (mapped (λ y. y ∷ [])) e

  -- the items so far, followed by the items from here on, are the entire list
  abbrev pub RowSoFar : List A → List Symbol → List A → List A → List Symbol → Type 0
  RowSoFar first old xs before now = row one first old ≡ prefixed xs (row one before now)

  pub row_begun : (first : List A) (old : List Symbol) → RowSoFar first old [] first old
  row_begun first old = prefixed_none (row one first old)

  pub row_stop : (first before : List A) (old mid : List Symbol) (xs : List A) (f : OrcFault)
      → RowSoFar first old xs before mid → one before mid ≡ Err f → row one first old ≡ Err f
  row_stop first before old mid xs f h e = h ∙ ap (prefixed xs) (row_fail before mid f e)

module _ {A : Type 0} (one : List A → List Symbol → Reading A) (takes : TakesOne one) where
  pub row_step : (before : List A) (ts us : List Symbol) (x : A) (b : Bool) → one before ts ≡ Ok (x, us)
      → next_is expected.Comma us ≡ b
      → row one before ts ≡ mapped (λ xs. x ∷ xs) (row_behind one (before ++ x ∷ []) us b)
  row_step before ts us x b e c =
      let w = takes before ts us x e in
      subst (λ y. row one before y ≡ mapped (λ xs. x ∷ xs) (row_behind one (before ++ x ∷ []) us b)) (sym w.1)
      (row_at one before w.0 us x (subst (λ y. one before y ≡ Ok (x, us)) w.1 e)
      ∙ ap (λ d. mapped (λ xs. x ∷ xs) (row_behind one (before ++ x ∷ []) us d)) c)

  module _ (first before : List A) (old mid now : List Symbol) (xs : List A) (x : A)
      (h : RowSoFar one first old xs before mid) (e : one before mid ≡ Ok (x, now)) where
    pub row_more : next_is expected.Comma now ≡ true
        → RowSoFar one first old (xs ++ x ∷ []) (before ++ x ∷ []) (after now)
    row_more c = h ∙ ap (prefixed xs) (row_step before mid now x true e c)
        ∙ prefixed_more xs x (row one (before ++ x ∷ []) (after now))

    pub row_done : next_is expected.Comma now ≡ false → row one first old ≡ Ok (xs ++ x ∷ [], now)
    row_done c = h ∙ ap (prefixed xs) (row_step before mid now x false e c)

abbrev rest_of : {A : Type 0} → Reading A → List Symbol
rest_of (Ok (a, ts)) = ts
rest_of (Err f) = []

abbrev chosen : {A : Type 0} → Bool → A → List Symbol → OrcFault → Reading A
chosen b a ts f = if b then Ok (a, ts) else Err f

choice_rest : {A : Type 0} (b : Bool) (a n : A) (ts r : List Symbol) (f : OrcFault) → chosen b a ts f ≡ Ok (n, r)
    → ts ≡ r
choice_rest true a n ts r f e = ap rest_of e
choice_rest false a n ts r f e = cc

pub target_takes : (s : Scope) → TakesOne (one_target s)
target_takes s before [] us n e = cc
target_takes s before (t ∷ ts) us n e =
    (t, ap (λ r. t ∷ r) (choice_rest (is_variable s t) t.text n ts us (misfit s (no_target t.kind) (t ∷ ts)) e))

fresh_rest : (given : List ℕ) (t : Symbol) (ts r : List Symbol) (o : Option ℕ) (n : ℕ)
    → fresh given (t ∷ ts) o ≡ Ok (n, r) → ts ≡ r
fresh_rest given t ts r None n e = cc
fresh_rest given t ts r (Some m) n e = by (has_number given m) e
  where
    by : (b : Bool) → if◌then◌else◌ {A = Reading ℕ} b (Err (fault (t ∷ ts) orc.InstrTwice)) (Ok (m, ts)) ≡ Ok (n, r)
        → ts ≡ r
    by true e = cc
    by false e = ap rest_of e

number_rest : (s : Scope) (given : List ℕ) (t : Symbol) (ts r : List Symbol) (n : ℕ) (k : Kind)
    → number_at s given (t ∷ ts) k ≡ Ok (n, r) → ts ≡ r
number_rest s given t ts r n (kind.Number v) e = fresh_rest given t ts r (instrument_number v) n e
number_rest s given t ts r n _ e = cc

pub number_takes : (s : Scope) → TakesOne (one_number s)
number_takes s given [] us n e = cc
number_takes s given (t ∷ ts) us n e = (t, ap (λ r. t ∷ r) (number_rest s given t ts us n t.kind e))

-- ---- arguments

both_first : {A : Type 0} (x : A) (mid : List Symbol) (o : Reading (List A))
    → both ◌∷◌ (Ok (x, mid)) o ≡ mapped (λ ys. x ∷ ys) o
both_first x mid (Ok (ys, ts)) = refl
both_first x mid (Err f) = refl

-- every reading of the rest, with the items so far in front, is a reading of the entire list
abbrev pub ListSoFar : Scope → Role → List Symbol → List Argument → List Symbol → Type 0
ListSoFar s r old xs now =
    (out : Reading (List Argument)) → ReadsList s r (Ok now) out → ReadsList s r (Ok old) (prefixed xs out)

pub list_begun : (s : Scope) (r : Role) (old : List Symbol) → ListSoFar s r old [] old
list_begun s r old (Ok (ys, ts)) h = h
list_begun s r old (Err f) h = h

list_more_of : (s : Scope) (r : Role) (old mid now : List Symbol) (xs : List Argument) (x : Argument)
    → ListSoFar s r old xs mid
    → ReadsArg s r mid (Ok (x, now)) → next_is expected.Comma now ≡ true → ListSoFar s r old (xs ++ x ∷ []) (after now)
list_more_of s r old mid now xs x l h c out k =
    subst (ReadsList s r (Ok old)) (ap (prefixed xs) (both_first x now out) ∙ prefixed_more xs x out)
    (l (both ◌∷◌ (Ok (x, now)) out) (list_more h c k))

pub list_stop : (s : Scope) (r : Role) (old mid : List Symbol) (xs : List Argument) (f : OrcFault)
    → ListSoFar s r old xs mid
    → ReadsArg s r mid (Err f) → ReadsList s r (Ok old) (Err f)
list_stop s r old mid xs f l h = l (Err f) (list_last h refl)

-- ---- lists in the code's tree

map_snoc : (xs : List Arg) (x : Arg) → map argument (xs ++ x ∷ []) ≡ map argument xs ++ argument x ∷ []
map_snoc [] x = refl
map_snoc (y ∷ xs) x = ap (λ zs. argument y ∷ zs) (map_snoc xs x)

module _ (s : Scope) (r : Role) (old mid now : List Symbol) (xs : List Arg) (x : Arg)
    (l : ListSoFar s r old (map argument xs) mid)
    (h : ReadsArg s r mid (Ok (argument x, now))) where
  pub args_grown : next_is expected.Comma now ≡ true → ListSoFar s r old (map argument (xs ++ x ∷ [])) (after now)
  args_grown c =
      subst (λ zs. ListSoFar s r old zs (after now)) (sym (map_snoc xs x))
      (list_more_of s r old mid now (map argument xs) (argument x) l h c)

  pub args_done : next_is expected.Comma now ≡ false → ReadsList s r (Ok old) (Ok (map argument (xs ++ x ∷ []), now))
  args_done c =
      subst (λ zs. ReadsList s r (Ok old) (Ok (zs, now))) (sym (map_snoc xs x))
      (l (Ok (argument x ∷ [], now)) (list_last h c))
