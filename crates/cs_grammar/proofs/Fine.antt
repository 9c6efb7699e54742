-- Whatever is read is well formed, and the remaining symbols keep the property of all symbols: the parts of a
-- line.
use Rattle.std.proofs.Common.{◌≡◌, ◌≢◌, ◌∙◌, ◌&&◌, not, ℕ, Bool, true, false, List, [], ◌∷◌, Some, None, Ok, Err}
use Rattle.std.proofs.Common.{if◌then◌else◌, refl, sym, ap, subst}
use Rattle.std.specs.List.{All}
use Rattle.std.proofs.lemmas.{Bool.and_parts, List.Elements.All-nil, List.Elements.All-cons, Slice.Eq.bytes_eq-Decides}
use Rattle.cs_base.specs.declared.fault.OrcFault.{OrcFault}
use Rattle.cs_words.specs.declared.catalogue.Opcode.{Opcode}
use Rattle.cs_words.specs.{declared.word.Word.Word, Catalogue.row_of, Words.word_of, NameSets.has}
use Rattle.cs_words.proofs.{Fields.name_begins, Fields.field_numbers, Apart.opcode_read}
use Rattle.cs_grammar.specs.{declared.scope.Place.Place, declared.expr.Level.Level, declared.tree.Callee.Callee}
use Rattle.cs_grammar.specs.{declared.lists.Role.Role}
use Rattle.cs_grammar.specs.WellFormed.{MayCall, HasNoStop, IsCall, IsVariable, WellFormedExpr, WellFormedArg}
use Rattle.cs_grammar.specs.WellFormed.{WellFormedValue}
use Rattle.cs_grammar.specs.Tree.{Expression, var, neg, pair, pick, apply, Argument, value}
use Rattle.cs_grammar.specs.Reading.{Left, Reading, left, mapped, both, three, skip, next_is, Scope, fault, misfit}
use Rattle.cs_grammar.specs.Reading.{through, ended, line_end}
use Rattle.cs_grammar.specs.Parts.{is_variable, single, single_or, no_part, one_symbol, atom}
use Rattle.cs_grammar.specs.Lines.{no_target, target, ReadsRow, no_item, last_item, more_items, one_target, is_own}
use Rattle.cs_grammar.specs.Lines.{is_outside, is_other_text, by_opcode, called, operation_of, operation}
use Rattle.cs_grammar.specs.Grammar.{ReadsExpr, binary, expr_stop, fact_neg, fact_call, fact_group, fact_pick}
use Rattle.cs_grammar.specs.Grammar.{fact_alone, ReadsTail, no_more, one_more, one_alone, ReadsArg, arg_text}
use Rattle.cs_grammar.specs.Grammar.{text_result, arg_value, ReadsList, list_stop, list_last, list_more, ReadsArgs}
use Rattle.cs_grammar.specs.Grammar.{args_stop, args_none, args_some}
use Rattle.cs_grammar.specs.{declared.symbol.Kind.Kind, declared.symbol.Expected.Expected}
use Rattle.cs_grammar.specs.Symbols.{Symbol, next, after}
use Rattle.cs_grammar.specs.Kinds.{is_word, is_name_kind, may_be_opcode}
use Rattle.cs_base.specs.declared.fault.OrcKind.TheVariants as orc
use Rattle.cs_words.specs.declared.catalogue.Opcode.TheVariants as opcode
use Rattle.cs_words.specs.declared.word.Word.TheVariants as word
use Rattle.cs_grammar.specs.declared.symbol.Kind.TheVariants as kind
use Rattle.cs_grammar.specs.declared.symbol.Expected.TheVariants as expected
use Rattle.cs_grammar.specs.declared.scope.Place.TheVariants as place
use Rattle.cs_grammar.specs.declared.tree.Callee.TheVariants as callee
use Rattle.cs_grammar.specs.declared.lists.Role.TheVariants as role

-- a word's meaning is determined by its bytes
abbrev pub IsWord : Symbol → Type 0
IsWord t = (w : Word) → t.kind ≡ kind.Word w → (word_of t.text ≡ w) × HasNoStop t.text

-- a reading whose value satisfies S and whose remaining symbols satisfy Q; a fault satisfies both
abbrev pub Fine : {A : Type 0} → (List Symbol → Type 0) → (A → Type 0) → Reading A → Type 0
Fine Q S (Ok (a, ts)) = S a × Q ts
Fine Q S (Err f) = Unit {0}

-- the remaining symbols satisfy Q, unless a fault came before
abbrev pub Kept : (List Symbol → Type 0) → Left → Type 0
Kept Q (Ok ts) = Q ts
Kept Q (Err f) = Unit {0}

pub kept : {A : Type 0} (Q : List Symbol → Type 0) (S : A → Type 0) (o : Reading A) → Fine Q S o → Kept Q (left o)
kept Q S (Ok (a, ts)) h = h.1
kept Q S (Err f) h = tt

pub weakened : {A : Type 0} (Q R : List Symbol → Type 0) (S T : A → Type 0) → ((ts : List Symbol) → Q ts → R ts)
    → ((a : A) → S a → T a) → (o : Reading A)
    → Fine Q S o → Fine R T o
weakened Q R S T f g (Ok (a, ts)) h = (g a h.0, f ts h.1)
weakened Q R S T f g (Err e) h = tt

-- ---- words

name_kind : (k : Kind) → is_name_kind k ≡ true → k ≡ kind.Word word.Name
name_kind (kind.Word word.Name) e = refl
name_kind (kind.Word _) e = cc
name_kind _ e = cc

pub variable_named : (s : Scope) (t : Symbol) → IsWord t → is_variable s t ≡ true → IsVariable t.text
variable_named s t h e =
    let w = h word.Name (name_kind t.kind (and_parts (is_name_kind t.kind) (not (has s.defined t.text)) e).0) in
    (name_begins t.text w.0, w.1)

pub may_be_stopless : (t : Symbol) → IsWord t → may_be_opcode t.kind ≡ true → HasNoStop t.text
may_be_stopless t h e = by t.kind refl e
  where
    by : (k : Kind) → t.kind ≡ k → may_be_opcode k ≡ true → HasNoStop t.text
    by (kind.Word w) i e = (h w i).1
    by _ i e = cc

abbrev is_an_opcode : Word → Bool
is_an_opcode (word.Opcode o) = true
is_an_opcode _ = false

no_opcode_name : (text : List ℕ) (w : Word) → word_of text ≡ w → is_an_opcode w ≡ false → (o : Opcode)
    → text ≢ (row_of o).name
no_opcode_name text w h z o q =
    let k : true ≡ false = ap is_an_opcode (sym (opcode_read o) ∙ ap word_of (sym q) ∙ h) ∙ z in cc

abbrev is_zakinit : Opcode → Bool
is_zakinit opcode.Zakinit = true
is_zakinit _ = false

abbrev opcode_in : Callee → Opcode
opcode_in (callee.Opcode o) = o
opcode_in (callee.Name n) = opcode.Zakinit

abbrev name_in : Callee → List ℕ
name_in (callee.Opcode o) = []
name_in (callee.Name n) = n

opcode_may : (p : Place) (own : List ℕ) (o : Opcode) → is_zakinit o ≡ false → MayCall p own (callee.Opcode o)
opcode_may p own o z = by p
  where
    other : callee.Opcode o ≢ callee.Opcode opcode.Zakinit
    other e = let k : true ≡ false = ap (λ c. is_zakinit (opcode_in c)) (sym e) ∙ z in cc

    by : (p : Place) → MayCall p own (callee.Opcode o)
    by place.Outside = tt
    by place.Instrument = other
    by place.Definition = (other, (λ e. cc))

name_may : (p : Place) (own n : List ℕ) → (p ≡ place.Definition → n ≢ own) → MayCall p own (callee.Name n)
name_may place.Outside own n d = tt
name_may place.Instrument own n d = λ e. cc
name_may place.Definition own n d = ((λ e. cc), (λ e. d refl (ap name_in e)))

outside_calls : (p : Place) (own : List ℕ) (c : Callee) → is_outside p ≡ true → MayCall p own c
outside_calls place.Outside own c e = tt
outside_calls _ own c e = cc

not_own : (s : Scope) (name : List ℕ) → is_own s name s.place ≡ false → s.place ≡ place.Definition → name ≢ s.own
not_own s name e p q =
    let k : true ≡ false = sym ((bytes_eq-Decides s.own name).1 (sym q)) ∙ sym (ap (is_own s name) p) ∙ e in cc

-- ---- readings of symbols that satisfy Q

module _ (Q : List Symbol → Type 0) (closed : (ts : List Symbol) → Q ts → Q (after ts))
    (good : (ts : List Symbol) → Q ts → IsWord (next ts)) where
  pub kept_skip : (st : Left) → Kept Q st → Kept Q (skip st)
  kept_skip (Ok ts) q = closed ts q
  kept_skip (Err f) q = tt

  pub fine_mapped : {A B : Type 0} (S : A → Type 0) (T : B → Type 0) (f : A → B) → ((a : A) → S a → T (f a))
      → (o : Reading A) → Fine Q S o
      → Fine Q T (mapped f o)
  fine_mapped S T f g (Ok (a, ts)) h = (g a h.0, h.1)
  fine_mapped S T f g (Err e) h = tt

  pub fine_both : {A B C : Type 0} (S : A → Type 0) (T : B → Type 0) (U : C → Type 0) (f : A → B → C)
      → ((a : A) (b : B) → S a → T b → U (f a b))
      → (o : Reading A) (b : Reading B) → Fine Q S o → Fine Q T b → Fine Q U (both f o b)
  fine_both S T U f g (Ok (a, ts)) (Ok (b, us)) h k = (g a b h.0 k.0, k.1)
  fine_both S T U f g (Ok (a, ts)) (Err e) h k = tt
  fine_both S T U f g (Err e) b h k = tt

  pub fine_three : {A B C D : Type 0} (S : A → Type 0) (T : B → Type 0) (U : C → Type 0) (V : D → Type 0)
      (f : A → B → C → D)
      → ((a : A) (b : B) (c : C) → S a → T b → U c → V (f a b c)) → (o : Reading A) (b : Reading B) (c : Reading C)
      → Fine Q S o → Fine Q T b → Fine Q U c
      → Fine Q V (three f o b c)
  fine_three S T U V f g (Ok (a, ts)) b c h k l = fine_both T U V (f a) (λ x y p q. g a x y h.0 p q) b c k l
  fine_three S T U V f g (Err e) b c h k l = tt

  pub fine_through : {A : Type 0} (S : A → Type 0) (s : Scope) (e : Expected) (o : Reading A) → Fine Q S o
      → Fine Q S (through s e o)
  fine_through S s e (Err f) h = tt
  fine_through {A} S s e (Ok (a, ts)) h = by (next_is e ts)
    where
      by : (b : Bool) → Fine Q S (if b then Ok (a, after ts) else Err (misfit s orc.Unexpected ts))
      by true = (h.0, closed ts h.1)
      by false = tt

  pub fine_ended : {A : Type 0} (S : A → Type 0) (s : Scope) (o : Reading A) → Fine Q S o → Fine Q S (ended s o)
  fine_ended S s (Err f) h = tt
  fine_ended {A} S s (Ok (a, ts)) h = by (next ts).kind
    where
      by : (k : Kind) → Fine Q S (line_end s a k ts)
      by kind.NewLine = (h.0, closed ts h.1)
      by kind.End = h
      by _ = tt

  -- the end of a line, and the property of the symbols after it
  pub fine_line : {A : Type 0} (R : List Symbol → Type 0)
      → ((ts : List Symbol) → Q ts → (next ts).kind ≡ kind.NewLine → R (after ts))
      → ((ts : List Symbol) → Q ts → (next ts).kind ≡ kind.End → R ts)
      → (S : A → Type 0) (s : Scope) (o : Reading A) → Fine Q S o → Fine R S (ended s o)
  fine_line R feed stop S s (Err f) h = tt
  fine_line {A} R feed stop S s (Ok (a, ts)) h = by (next ts).kind refl
    where
      by : (k : Kind) → (next ts).kind ≡ k → Fine R S (line_end s a k ts)
      by kind.NewLine e = (h.0, feed ts h.1 e)
      by kind.End e = (h.0, stop ts h.1 e)
      by _ e = tt

  -- ---- expressions

  fine_named : (t : Symbol) (ts : List Symbol) (f : OrcFault) → IsVariable t.text → Q ts → (b : Bool)
      → Fine Q WellFormedExpr (single_or (if b then None else Some (var t.text)) ts f)
  fine_named t ts f n q true = tt
  fine_named t ts f n q false = (n, q)

  fine_single : (s : Scope) (t : Symbol) (ts : List Symbol) (f : OrcFault) → IsWord t → Q ts → (k : Kind) → t.kind ≡ k
      → Fine Q WellFormedExpr (single_or (single s t k) ts f)
  fine_single s t ts f h q (kind.Number v) i = (tt, q)
  fine_single s t ts f h q (kind.Word (word.Field k)) i = (field_numbers t.text k (h (word.Field k) i).0, q)
  fine_single s t ts f h q (kind.Word (word.Header n)) i = (tt, q)
  fine_single s t ts f h q (kind.Word word.Name) i =
      fine_named t ts f (name_begins t.text (h word.Name i).0, (h word.Name i).1) q (has s.defined t.text)
  fine_single s t ts f h q _ i = tt

  fine_atom : (s : Scope) (ts : List Symbol) → Q ts → Fine Q WellFormedExpr (atom s ts)
  fine_atom s ts q = by (is_word (next ts).kind && next_is expected.Open (after ts))
    where
      by : (b : Bool) → Fine Q WellFormedExpr (if b then Err (no_part s ts) else one_symbol s ts)
      by true = tt
      by false = fine_single s (next ts) (after ts) (no_part s ts) (good ts q) (closed ts q) (next ts).kind refl

  mutual
    pub fine_expr : {s : Scope} {l : Level} {st : Left} {o : Reading Expression} → ReadsExpr s l st o → Kept Q st
        → Fine Q WellFormedExpr o
    fine_expr (binary t h k) q = fine_tail k (fine_expr h q)
    fine_expr expr_stop q = tt
    fine_expr (fact_neg {ts} {o} e h) q =
        fine_mapped WellFormedExpr WellFormedExpr neg (λ a x. x) o (fine_expr h (closed ts q))
    fine_expr {s} (fact_call {ts} {f} {o} e h) q =
        fine_through WellFormedExpr s expected.Close (mapped (apply f) o)
        (fine_mapped WellFormedExpr WellFormedExpr (apply f) (λ a x. x) o
        (fine_expr h (closed (after ts) (closed ts q))))
    fine_expr {s} (fact_group {ts} {o} e h m) q =
        fine_through WellFormedExpr s expected.Close o (fine_expr h (closed ts q))
    fine_expr {s} (fact_pick {ts} {c} {a} {b} e h m g k) q =
        let fc = fine_expr h (closed ts q) in
        let fa = fine_expr g (kept_skip (left c) (kept Q WellFormedExpr c fc)) in
        let fb = fine_expr k (kept Q WellFormedExpr (through s expected.Colon a)
        (fine_through WellFormedExpr s expected.Colon a fa)) in
        fine_through WellFormedExpr s expected.Close (three pick c a b)
        (fine_three WellFormedExpr WellFormedExpr WellFormedExpr WellFormedExpr pick (λ x y z p r t. (p, r, t)) c a b fc
        fa fb)
    fine_expr {s} (fact_alone {ts} e) q = fine_atom s ts q

    fine_tail : {s : Scope} {l : Level} {o out : Reading Expression} → ReadsTail s l o out → Fine Q WellFormedExpr o
        → Fine Q WellFormedExpr out
    fine_tail (no_more e) h = h
    fine_tail {o = o} (one_more {op = op} {b = b} e r t g k) h =
        fine_tail k (fine_both WellFormedExpr WellFormedExpr WellFormedExpr (pair op) (λ x y p z. (p, z)) o b h
        (fine_expr g (kept_skip (left o) (kept Q WellFormedExpr o h))))
    fine_tail {o = o} (one_alone {op = op} {b = b} e r t g) h =
        fine_both WellFormedExpr WellFormedExpr WellFormedExpr (pair op) (λ x y p z. (p, z)) o b h
        (fine_expr g (kept_skip (left o) (kept Q WellFormedExpr o h)))

  -- ---- lists

  abbrev pub WellFormedFor : Role → Argument → Type 0
  WellFormedFor role.Argument a = WellFormedArg a
  WellFormedFor role.Result a = WellFormedValue a

  sound_value : (r : Role) (e : Expression) → WellFormedExpr e → WellFormedFor r (value e)
  sound_value role.Argument e h = h
  sound_value role.Result e h = h

  fine_arg : {s : Scope} {r : Role} {ts : List Symbol} {o : Reading Argument} → ReadsArg s r ts o → Q ts
      → Fine Q (WellFormedFor r) o
  fine_arg {ts = ts} (arg_text e) q = (tt, closed ts q)
  fine_arg (text_result e) q = tt
  fine_arg {r = r} (arg_value {o = o} e h) q =
      fine_mapped WellFormedExpr (WellFormedFor r) value (sound_value r) o (fine_expr h q)

  pub fine_list : {s : Scope} {r : Role} {st : Left} {o : Reading (List Argument)} → ReadsList s r st o → Kept Q st
      → Fine Q (All (WellFormedFor r)) o
  fine_list list_stop q = tt
  fine_list {r = r} (list_last {o = o} h e) q =
      fine_mapped (WellFormedFor r) (All (WellFormedFor r)) (λ a. a ∷ [])
      (λ a x. All-cons (WellFormedFor r) a [] x (All-nil (WellFormedFor r))) o
      (fine_arg h q)
  fine_list {r = r} (list_more {o = o} {out = out} h e k) q =
      let f = fine_arg h q in
      fine_both (WellFormedFor r) (All (WellFormedFor r)) (All (WellFormedFor r)) ◌∷◌
      (λ a others x y. All-cons (WellFormedFor r) a others x y) o out f
      (fine_list k (kept_skip (left o) (kept Q (WellFormedFor r) o f)))

  pub fine_args : {s : Scope} {st : Left} {o : Reading (List Argument)} → ReadsArgs s st o → Kept Q st
      → Fine Q (All WellFormedArg) o
  fine_args args_stop q = tt
  fine_args (args_none e) q = (All-nil WellFormedArg, q)
  fine_args (args_some e h) q = fine_list h q

  pub fine_target : (s : Scope) (ts : List Symbol) → Q ts → Fine Q IsVariable (target s ts)
  fine_target s ts q = by (is_variable s (next ts)) refl
    where
      by : (b : Bool) → is_variable s (next ts) ≡ b
          → Fine Q IsVariable (if b then Ok ((next ts).text, after ts) else Err
          (misfit s (no_target (next ts).kind) ts))
      by true e = (variable_named s (next ts) (good ts q) e, closed ts q)
      by false e = tt

  at_target : (s : Scope) (ts us : List Symbol) (n : List ℕ) → target s ts ≡ Ok (n, us) → Q ts → IsVariable n × Q us
  at_target s ts us n e q = subst (Fine Q IsVariable) e (fine_target s ts q)

  pub fine_targets : (s : Scope) {before : List (List ℕ)} {ts : List Symbol} {o : Reading (List (List ℕ))}
      → ReadsRow (one_target s) before ts o → Q ts → Fine Q (All IsVariable) o
  fine_targets s (no_item e) q = tt
  fine_targets s (last_item {ts = ts} {us = us} {x = n} e c) q =
      let h = at_target s ts us n e q in
      (All-cons IsVariable n [] h.0 (All-nil IsVariable), h.1)
  fine_targets s (more_items {ts = ts} {us = us} {x = n} {out = out} e c k) q =
      let h = at_target s ts us n e q in
      fine_mapped (All IsVariable) (All IsVariable) (λ ns. n ∷ ns) (λ ns x. All-cons IsVariable n ns h.0 x) out
      (fine_targets s k (closed us h.1))

  -- ---- the called opcode

  fine_called : (s : Scope) (ts : List Symbol) (w : Word) → Q ts → (next ts).kind ≡ kind.Word w → is_an_opcode w ≡ false
      → Fine Q (IsCall s.place s.own) (called s ts)
  fine_called s ts w q i z = by (is_own s (next ts).text s.place) refl
    where
      by : (b : Bool) → is_own s (next ts).text s.place ≡ b → Fine Q (IsCall s.place s.own)
          (if b then Err (fault ts orc.Recursion) else Ok (callee.Name (next ts).text, after ts))
      by true e = tt
      by false e = (
        (
          ((good ts q w i).1, no_opcode_name (next ts).text w (good ts q w i).0 z),
          name_may s.place s.own (next ts).text (not_own s (next ts).text e),
        ),
        closed ts q,
      )

  fine_space : (s : Scope) (ts : List Symbol) (b : Bool) → Q ts → is_outside s.place ≡ b
      → Fine Q (IsCall s.place s.own)
      (if b then Ok (callee.Opcode opcode.Zakinit, after ts) else Err (fault ts orc.Unexpected))
  fine_space s ts true q e = ((tt, outside_calls s.place s.own (callee.Opcode opcode.Zakinit) e), closed ts q)
  fine_space s ts false q e = tt

  fine_event : (s : Scope) (ts : List Symbol) (b : Bool) → Q ts
      → Fine Q (IsCall s.place s.own)
      (if b then Err (fault (after ts) orc.NotInProfile) else Ok (callee.Opcode opcode.EventI, after ts))
  fine_event s ts true q = tt
  fine_event s ts false q = ((tt, opcode_may s.place s.own opcode.EventI refl), closed ts q)

  fine_taken : (s : Scope) (ts : List Symbol) (o : Opcode) → Q ts → is_zakinit o ≡ false
      → Fine Q (IsCall s.place s.own) (Ok (callee.Opcode o, after ts))
  fine_taken s ts o q z = ((tt, opcode_may s.place s.own o z), closed ts q)

  fine_opcode : (s : Scope) (ts : List Symbol) → Q ts → (o : Opcode) → Fine Q (IsCall s.place s.own) (by_opcode s ts o)
  fine_opcode s ts q opcode.Zakinit = fine_space s ts (is_outside s.place) q refl
  fine_opcode s ts q opcode.EventI = fine_event s ts (is_other_text (next (after ts))) q
  fine_opcode s ts q _ = fine_taken s ts _ q refl

  fine_word : (s : Scope) (ts : List Symbol) → Q ts → (w : Word) → (next ts).kind ≡ kind.Word w
      → Fine Q (IsCall s.place s.own) (operation_of s ts (kind.Word w))
  fine_word s ts q (word.Opcode o) i = fine_opcode s ts q o
  fine_word s ts q (word.Keyword k) i = tt
  fine_word s ts q word.Foreign i = tt
  fine_word s ts q w i = fine_called s ts w q i refl

  pub fine_operation : (s : Scope) (st : Left) → Kept Q st → Fine Q (IsCall s.place s.own) (operation s st)
  fine_operation s (Err f) q = tt
  fine_operation s (Ok ts) q = by (next ts).kind refl
    where
      by : (k : Kind) → (next ts).kind ≡ k → Fine Q (IsCall s.place s.own) (operation_of s ts k)
      by (kind.Word w) i = fine_word s ts q w i
      by _ i = tt
