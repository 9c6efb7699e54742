-- The lines of the parts that were read increase, if the lines of the symbols do.
use Rattle.std.proofs.Common.{◌≡◌, ◌∙◌, ◌≤◌, ◌<◌, ◌++◌, ℕ, suc, Bool, true, false, List, ◌∷◌, Ok, Err, []}
use Rattle.std.proofs.Common.{if◌then◌else◌, refl, arith, sym, ap, subst}
use Rattle.std.specs.List.{All, AllPairs}
use Rattle.std.proofs.lemmas.List.Elements.{All-nil, All-cons, All-weaker}
use Rattle.std.proofs.lemmas.List.Kept.{AllPairs-cons}
use Rattle.cs_words.specs.declared.word.HeadName.{HeadName}
use Rattle.cs_grammar.specs.{declared.symbol.Kind.Kind, declared.symbol.Expected.Expected, Kinds.is}
use Rattle.cs_grammar.specs.Symbols.{Symbol, next, after}
use Rattle.cs_grammar.specs.{declared.stmt.LineForm.LineForm, declared.orc.ItemForm.ItemForm}
use Rattle.cs_grammar.specs.{declared.tree.HeadLine.HeadLine, Parts.is_opcode, Headings.Heading, Inputs.ReadsInputs}
use Rattle.cs_grammar.specs.Orchestra.{orc_instr, orc_udo, orc_stmt, instrument_of, ReadsInstr, instr, ReadsResult}
use Rattle.cs_grammar.specs.Orchestra.{definition_of, own_scope, ReadsDefinition, no_heading, udo, item_form}
use Rattle.cs_grammar.specs.Orchestra.{item_form_of, with_header, with_instr, with_definition, with_stmt, ReadsOrc}
use Rattle.cs_grammar.specs.Orchestra.{orc_stop, orc_end, orc_header}
use Rattle.cs_grammar.specs.WellFormed.{lines_of, orchestra_of, InOrder, IsVariable, WellFormedExpr, WellFormedArg}
use Rattle.cs_grammar.specs.WellFormed.{IsCall, stmt_lines, block_lines, arms_lines, Item, header_item, opcode_item}
use Rattle.cs_grammar.specs.WellFormed.{stmt_item, instr_item, item_lines}
use Rattle.cs_grammar.specs.Tree.{Expression, Argument, Statement, call, choose, Block, no_stmt, andthen, Arms}
use Rattle.cs_grammar.specs.Tree.{otherwise, arm, Instrument, Definition, Orchestra}
use Rattle.cs_grammar.specs.Reading.{Left, Reading, left, mapped, both, three, next_is, Scope, outside, in_instrument}
use Rattle.cs_grammar.specs.Reading.{in_definition, misfit, through, ended, line_end}
use Rattle.cs_grammar.specs.Lines.{word_form, line_form_of, line_form, target, operation, header_line}
use Rattle.cs_grammar.specs.Grammar.{assign, ReadsStmt, stmt_assign, stmt_results, stmt_bare, stmt_if, stmt_beyond}
use Rattle.cs_grammar.specs.Grammar.{stmt_misplaced, ReadsBlock, block_stop, block_end, block_more, ReadsArms, arm_more}
use Rattle.cs_grammar.specs.Grammar.{ReadsMore, more_stop, more_elseif, more_else, more_endif}
use Rattle.cs_base.specs.declared.resource.Rate.{Rate}
use Rattle.cs_grammar.proofs.Fine.{IsWord, Fine, Kept, kept, kept_skip, fine_both, fine_three, fine_through, fine_line}
use Rattle.cs_grammar.proofs.Fine.{fine_expr, fine_args, fine_target, fine_targets, fine_operation}
use Rattle.cs_grammar.proofs.FineStmt.{NumbersFrom, fine_numbers}
use Rattle.cs_grammar.proofs.FineOrc.{Words, words_after, words_next, NewHeading, NamesFit, ValuesFit, HeaderAt}
use Rattle.cs_grammar.proofs.FineOrc.{fine_heading, fine_inputs, fine_result, fine_header}
use Rattle.cs_base.specs.declared.fault.OrcKind.TheVariants as orc
use Rattle.cs_words.specs.declared.sign.Sign.TheVariants as sign
use Rattle.cs_grammar.specs.declared.symbol.Kind.TheVariants as kind
use Rattle.cs_grammar.specs.declared.symbol.Expected.TheVariants as expected
use Rattle.cs_grammar.specs.declared.stmt.LineForm.TheVariants as form
use Rattle.cs_grammar.specs.declared.orc.ItemForm.TheVariants as item

-- ---- symbols from a line on

-- all symbols except End are on line n or later
abbrev pub From : ℕ → List Symbol → Type 0
From n [] = Unit {0}
From n (t ∷ ts) = (is expected.End t.kind ≡ false → n ≤ t.line) × From n ts

-- the symbols after t: they are on no earlier line, after a NewLine on later ones, and after End there are
-- none
pub record Behind (t : Symbol) (ts : List Symbol) : Type 0 where
  pub same : From t.line ts
  pub feed : t.kind ≡ kind.NewLine → From (suc t.line) ts
  pub last : is expected.End t.kind ≡ true → (n : ℕ) → From n ts

-- the symbols are in the order of their lines
abbrev pub Sorted : List Symbol → Type 0
Sorted [] = Unit {0}
Sorted (t ∷ ts) = Behind t ts × Sorted ts

-- the property of symbols from line n on: their words, their order, and their lines
abbrev pub P : ℕ → List Symbol → Type 0
P n ts = Words ts × Sorted ts × From n ts

sorted_after : (ts : List Symbol) → Sorted ts → Sorted (after ts)
sorted_after [] h = tt
sorted_after (t ∷ ts) h = h.1

from_after : (n : ℕ) (ts : List Symbol) → From n ts → From n (after ts)
from_after n [] h = tt
from_after n (t ∷ ts) h = h.1

from_less : (m n : ℕ) (ts : List Symbol) → m ≤ n → From n ts → From m ts
from_less m n [] w h = tt
from_less m n (t ∷ ts) w h = ((λ e. let k : n ≤ t.line = h.0 e in omega (arith, w, k)), from_less m n ts w h.1)

closed : (n : ℕ) (ts : List Symbol) → P n ts → P n (after ts)
closed n ts (w, s, f) = (words_after ts w, sorted_after ts s, from_after n ts f)

good : (n : ℕ) (ts : List Symbol) → P n ts → IsWord (next ts)
good n ts (w, s, f) = words_next ts w

no_end : (k : Kind) → k ≡ kind.NewLine → is expected.End k ≡ false
no_end kind.End e = cc
no_end _ e = refl

feed_from : (n : ℕ) (ts : List Symbol) → Sorted ts → From n ts → (next ts).kind ≡ kind.NewLine → From (suc n) (after ts)
feed_from n [] s f e = cc
feed_from n (t ∷ ts) s f e =
    let k : n ≤ t.line = f.0 (no_end t.kind e) in
    from_less (suc n) (suc t.line) ts (omega (arith, k)) (s.0.feed e)

feed : (n : ℕ) (ts : List Symbol) → P n ts → (next ts).kind ≡ kind.NewLine → P (suc n) (after ts)
feed n ts (w, s, f) e = (words_after ts w, sorted_after ts s, feed_from n ts s f e)

end_true : (k : Kind) → k ≡ kind.End → is expected.End k ≡ true
end_true kind.End e = refl
end_true _ e = cc

stop_from : (n : ℕ) (ts : List Symbol) → Sorted ts → (next ts).kind ≡ kind.End → From n ts
stop_from n [] s e = tt
stop_from n (t ∷ ts) s e =
    ((λ x. let k : true ≡ false = sym (end_true t.kind e) ∙ x in absurd (no k)), s.0.last (end_true t.kind e) n)
  where
    no : true ≡ false → ⊥
    no k = cc

stop : (n : ℕ) (ts : List Symbol) → P n ts → (next ts).kind ≡ kind.End → P (suc n) ts
stop n ts (w, s, f) e = (w, s, stop_from (suc n) ts s e)

weaker : (n : ℕ) (ts : List Symbol) → P (suc n) ts → P n ts
weaker n ts (w, s, f) = (w, s, from_less n (suc n) ts (omega arith) f)

-- all symbols are from the line of the next symbol on
from_own : (ts : List Symbol) → Sorted ts → From (next ts).line ts
from_own [] s = tt
from_own (t ∷ ts) s = ((λ e. omega arith), s.0.same)

own : (n : ℕ) (ts : List Symbol) → P n ts → P (next ts).line ts
own n ts (w, s, f) = (w, s, from_own ts s)

from_next : (n : ℕ) (ts : List Symbol) → From n ts → is expected.End (next ts).kind ≡ false → n ≤ (next ts).line
from_next n [] f e = cc
from_next n (t ∷ ts) f e = f.0 e

below : (n : ℕ) (ts : List Symbol) → P n ts → is expected.End (next ts).kind ≡ false → n ≤ (next ts).line
below n ts (w, s, f) e = from_next n ts f e

-- ---- lines that increase, from one line on and below another

-- lines that increase, the first at least n, and all below k
abbrev pub Rises : ℕ → ℕ → List ℕ → Type 0
Rises n k [] = n ≤ k
Rises n k (l ∷ ls) = (n ≤ l) × Rises (suc l) k ls

rises_from : (m n k : ℕ) (ls : List ℕ) → m ≤ n → Rises n k ls → Rises m k ls
rises_from m n k [] w h = omega (arith, w, h)
rises_from m n k (l ∷ ls) w h = (omega (arith, w, h.0), h.1)

rises_append : (n k m : ℕ) (xs ys : List ℕ) → Rises n k xs → Rises k m ys → Rises n m (xs ++ ys)
rises_append n k m [] ys h g = rises_from n k m ys h g
rises_append n k m (x ∷ xs) ys h g = (h.0, rises_append (suc x) k m xs ys h.1 g)

all_from : (n k : ℕ) (ls : List ℕ) → Rises n k ls → All (λ l. n ≤ l) ls
all_from n k [] h = All-nil (λ l. n ≤ l)
all_from n k (l ∷ ls) h =
    let low : n ≤ l = h.0 in
    All-cons (λ l. n ≤ l) l ls low
    (All-weaker (λ m. suc l ≤ m) (λ m. n ≤ m) (λ m e. omega (arith, low, e)) ls (all_from (suc l) k ls h.1))

pub pairs : (n k : ℕ) (ls : List ℕ) → Rises n k ls → AllPairs (λ l m. l < m) ls
pairs n k [] h = λ i j d lt within. absurd (omega (arith, within))
pairs n k (l ∷ ls) h =
    AllPairs-cons (λ l m. l < m) l ls
    (All-weaker (λ m. suc l ≤ m) (λ m. l < m) (λ m e. omega (arith, e)) ls (all_from (suc l) k ls h.1))
    (pairs (suc l) k ls h.1)

-- the lines of the part that was read, and the line from which the rest continues
record PlacedAt (ls : List ℕ) (n : ℕ) (ts : List Symbol) : Type 0 where
  pub end : ℕ
  pub rises : Rises n end ls
  pub rest : P end ts

abbrev Placed : {A : Type 0} → (A → List ℕ) → ℕ → Reading A → Type 0
Placed lines n (Ok (a, ts)) = PlacedAt (lines a) n ts
Placed lines n (Err f) = Unit {0}

placed_mapped : {A B : Type 0} (k : A → List ℕ) (l : B → List ℕ) (n m : ℕ) (f : A → B)
    → ((a : A) (e : ℕ) → Rises n e (k a) → Rises m e (l (f a)))
    → (o : Reading A) → Placed k n o → Placed l m (mapped f o)
placed_mapped k l n m f g (Ok (a, ts)) h = record { end = h.end; rises = g a h.end h.rises; rest = h.rest }
placed_mapped k l n m f g (Err e) h = tt

placed_from : {A : Type 0} (k : A → List ℕ) (m n : ℕ) → m ≤ n → (o : Reading A) → Placed k n o → Placed k m o
placed_from k m n w (Ok (a, ts)) h = record { end = h.end; rises = rises_from m n h.end (k a) w h.rises; rest = h.rest }
placed_from k m n w (Err e) h = tt

placed_through : {A : Type 0} (k : A → List ℕ) (n : ℕ) (s : Scope) (e : Expected) (o : Reading A) → Placed k n o
    → Placed k n (through s e o)
placed_through k n s e (Err f) h = tt
placed_through {A} k n s e (Ok (a, ts)) h = by (next_is e ts)
  where
    by : (b : Bool) → Placed k n (if b then Ok (a, after ts) else Err (misfit s orc.Unexpected ts))
    by true = record { end = h.end; rises = h.rises; rest = closed h.end ts h.rest }
    by false = tt

placed_ended : {A : Type 0} (k : A → List ℕ) (n : ℕ) (s : Scope) (o : Reading A) → Placed k n o → Placed k n (ended s o)
placed_ended k n s (Err f) h = tt
placed_ended {A} k n s (Ok (a, ts)) h = by (next ts).kind
  where
    by : (q : Kind) → Placed k n (line_end s a q ts)
    by kind.NewLine = record { end = h.end; rises = h.rises; rest = closed h.end ts h.rest }
    by kind.End = h
    by _ = tt

placed_both : {A B C : Type 0} (k : A → List ℕ) (l : B → List ℕ) (r : C → List ℕ) (n : ℕ) (f : A → B → C)
    → ((a : A) (b : B) → r (f a b) ≡ k a ++ l b)
    → (o : Reading A) (b : Reading B) → Placed k n o → ((m : ℕ) → Kept (P m) (left o) → Placed l m b)
    → Placed r n (both f o b)
placed_both k l r n f g (Err e) b h p = tt
placed_both k l r n f g (Ok (a, ts)) (Err e) h p = tt
placed_both k l r n f g (Ok (a, ts)) (Ok (b, us)) h p =
    let q = p h.end h.rest in
    record {
      end = q.end;
      rises =
          subst (Rises n q.end) (sym (g a b)) (rises_append n h.end q.end (k a) (l b) h.rises q.rises);
      rest = q.rest;
    }

-- one line, and the next one after it
lined : {A : Type 0} (k : A → List ℕ) (n m : ℕ) → n ≤ m → (o : Reading A) → Fine (P (suc m)) (λ a. k a ≡ m ∷ []) o
    → Placed k n o
lined k n m w (Ok (a, ts)) h =
    record { end = suc m; rises = subst (Rises n (suc m)) (sym h.0) (w, omega arith); rest = h.1 }
lined k n m w (Err f) h = tt

-- ---- statements

abbrev is_misplaced : LineForm → Bool
is_misplaced form.Misplaced = true
is_misplaced _ = false

begun : (s : Scope) (k : Kind) (f : LineForm) → is_misplaced (line_form_of s k f) ≡ false → is expected.End k ≡ false
begun s kind.End f e = cc
begun s _ f e = refl

begins : (s : Scope) (ts : List Symbol) (f : LineForm) → line_form s ts ≡ f → is_misplaced f ≡ false
    → is expected.End (next ts).kind ≡ false
begins s ts f e m =
    begun s (next ts).kind (word_form (next (after ts)).kind (is_opcode s (next ts).text (next ts).kind))
    (ap is_misplaced e ∙ m)

one_line : (line : ℕ) (k : Kind) (n : List ℕ) (e : Expression) → stmt_lines (assign line k n e) ≡ line ∷ []
one_line line (kind.Sign sign.PlusEquals) n e = refl
one_line line _ n e = refl

abbrev any : {A : Type 0} → A → Type 0
any a = Unit {0}

arm_placed : (n : ℕ) (c : Reading Expression) (body : Reading Block) (rest : Reading Arms) → Placed block_lines n body
    → ((m : ℕ) → Kept (P m) (left body) → Placed arms_lines m rest) → Placed arms_lines n (three arm c body rest)
arm_placed n (Err f) body rest h p = tt
arm_placed n (Ok (c, ts)) body rest h p =
    placed_both block_lines arms_lines arms_lines n (arm c) (λ b r. refl) body rest h p

mutual
  stmt_placed : {s : Scope} {ts : List Symbol} {o : Reading Statement} → ReadsStmt s ts o → (n : ℕ) → P n ts
      → Placed stmt_lines n o
  stmt_placed {s} {ts} (stmt_assign {e = e} f h) n q =
      let m = (next ts).line in
      let t = fine_target (P m) (closed m) (good m) s ts (own n ts q) in
      let v = fine_expr (P m) (closed m) (good m) h
      (kept_skip (P m) (closed m) (good m) (left (target s ts)) (kept (P m) IsVariable (target s ts) t)) in
      let made = assign m (next (after ts)).kind in
      lined stmt_lines n m (below n ts q (begins s ts form.Assignment f refl)) (ended s (both made (target s ts) e))
      (fine_line (P m) (closed m) (good m) (P (suc m)) (feed m) (stop m) (λ x. stmt_lines x ≡ m ∷ []) s
      (both made (target s ts) e)
      (fine_both (P m) (closed m) (good m) IsVariable WellFormedExpr (λ x. stmt_lines x ≡ m ∷ []) made
      (λ x y z w. one_line m (next (after ts)).kind x y)
      (target s ts) e t v))
  stmt_placed {s} {ts} (stmt_results {names = names} {args = args} f k h) n q =
      let m = (next ts).line in
      let t = fine_targets (P m) (closed m) (good m) s k (own n ts q) in
      let p = operation s (left names) in
      let o = fine_operation (P m) (closed m) (good m) s (left names) (kept (P m) (All IsVariable) names t) in
      let a = fine_args (P m) (closed m) (good m) h (kept (P m) (IsCall s.place s.own) p o) in
      lined stmt_lines n m (below n ts q (begins s ts form.Results f refl)) (ended s (three (call m) names p args))
      (fine_line (P m) (closed m) (good m) (P (suc m)) (feed m) (stop m) (λ x. stmt_lines x ≡ m ∷ []) s
      (three (call m) names p args)
      (fine_three (P m) (closed m) (good m) (All IsVariable) (IsCall s.place s.own) (All WellFormedArg)
      (λ x. stmt_lines x ≡ m ∷ []) (call m)
      (λ x y z u v w. refl) names p args t o a))
  stmt_placed {s} {ts} (stmt_bare {args = args} f h) n q =
      let m = (next ts).line in
      let p = operation s (Ok ts) in
      let o = fine_operation (P m) (closed m) (good m) s (Ok ts) (own n ts q) in
      let a = fine_args (P m) (closed m) (good m) h (kept (P m) (IsCall s.place s.own) p o) in
      lined stmt_lines n m (below n ts q (begins s ts form.Bare f refl)) (ended s (both (call m []) p args))
      (fine_line (P m) (closed m) (good m) (P (suc m)) (feed m) (stop m) (λ x. stmt_lines x ≡ m ∷ []) s
      (both (call m []) p args)
      (fine_both (P m) (closed m) (good m) (IsCall s.place s.own) (All WellFormedArg) (λ x. stmt_lines x ≡ m ∷ [])
      (call m []) (λ x y u v. refl) p args o a))
  stmt_placed {s} {ts} (stmt_if {chain = chain} f h) n q =
      let m = (next ts).line in
      let w = below n ts q (begins s ts form.Conditional f refl) in
      placed_ended stmt_lines n s (mapped (choose m) chain)
      (placed_mapped arms_lines stmt_lines (suc m) n (choose m) (λ a e r. (w, r)) chain
      (arms_placed h m (closed m ts (own n ts q))))
  stmt_placed (stmt_beyond f) n q = tt
  stmt_placed (stmt_misplaced f) n q = tt

  block_placed : {s : Scope} {st : Left} {o : Reading Block} → ReadsBlock s st o → (n : ℕ) → Kept (P n) st
      → Placed block_lines n o
  block_placed block_stop n q = tt
  block_placed (block_end e) n q = record { end = n; rises = omega arith; rest = q }
  block_placed (block_more {o = o} {out = out} e h k) n q =
      placed_both stmt_lines block_lines block_lines n andthen (λ x b. refl) o out (stmt_placed h n q)
      (λ m r. block_placed k m r)

  arms_placed : {s : Scope} {st : Left} {o : Reading Arms} → ReadsArms s st o → (n : ℕ) → Kept (P n) st
      → Placed arms_lines (suc n) o
  arms_placed {s} (arm_more {c = c} {body = body} {rest = rest} h k g) n q =
      let fc = fine_expr (P n) (closed n) (good n) h q in
      let ft = fine_through (P n) (closed n) (good n) WellFormedExpr s expected.Then c fc in
      let fe = fine_line (P n) (closed n) (good n) (P (suc n)) (feed n) (stop n) WellFormedExpr s
      (through s expected.Then c) ft in
      arm_placed (suc n) c body rest
      (block_placed k (suc n) (kept (P (suc n)) WellFormedExpr (ended s (through s expected.Then c)) fe))
      (λ m r. more_placed g m r)

  more_placed : {s : Scope} {st : Left} {o : Reading Arms} → ReadsMore s st o → (n : ℕ) → Kept (P n) st
      → Placed arms_lines n o
  more_placed more_stop n q = tt
  more_placed (more_elseif {ts = ts} {out = out} e h) n q =
      placed_from arms_lines n (suc n) (omega arith) out (arms_placed h n (closed n ts q))
  more_placed {s} (more_else {ts = ts} {body = body} e f h) n q =
      let fe = fine_line (P n) (closed n) (good n) (P (suc n)) (feed n) (stop n) any s (Ok (no_stmt, after ts))
      (tt, closed n ts q) in
      let b = block_placed h (suc n) (kept (P (suc n)) any (ended s (Ok (no_stmt, after ts))) fe) in
      placed_through arms_lines n s expected.Endif (mapped otherwise body)
      (placed_mapped block_lines arms_lines (suc n) n otherwise
      (λ x e r. rises_from n (suc n) e (block_lines x) (omega arith) r) body b)
  more_placed {s} (more_endif {ts = ts} e f) n q =
      placed_through arms_lines n s expected.Endif (Ok (otherwise no_stmt, ts))
      (record { end = n; rises = omega arith; rest = q })

-- ---- instruments, definitions, header lines

instr_lines : Instrument → List ℕ
instr_lines i = i.line ∷ block_lines i.body

udo_lines : Definition → List ℕ
udo_lines d = d.line ∷ block_lines d.body

instr_both : (n m : ℕ) → n ≤ m → (ns : Reading (List ℕ)) (body : Reading Block) → Placed block_lines (suc m) body
    → Placed instr_lines n (both (instrument_of m) ns body)
unfolding instr_lines
instr_both n m w (Ok (a, ts)) (Ok (b, us)) h = record { end = h.end; rises = (w, h.rises); rest = h.rest }
instr_both n m w (Ok (a, ts)) (Err f) h = tt
instr_both n m w (Err f) body h = tt

instr_placed : {d : List (List ℕ)} {g : List ℕ} {ts : List Symbol} {o : Reading Instrument} → ReadsInstr d g ts o
    → (n : ℕ) → P n ts
    → is expected.End (next ts).kind ≡ false → Placed instr_lines n o
instr_placed {d} {g} {ts} (instr {ns = ns} {body = body} k h) n q e =
    let m = (next ts).line in
    let s = in_instrument d in
    let fn = fine_numbers (P m) (closed m) s k (closed m ts (own n ts q)) in
    let fe = fine_line (P m) (closed m) (good m) (P (suc m)) (feed m) (stop m) (NumbersFrom g) s ns fn in
    let b = block_placed h (suc m) (kept (P (suc m)) (NumbersFrom g) (ended s ns) fe) in
    let made = both (instrument_of m) ns body in
    placed_ended instr_lines n (outside d) (through s expected.Endin made)
    (placed_through instr_lines n s expected.Endin made (instr_both n m (below n ts q e) ns body b))

udo_three : (n m : ℕ) (h : Heading) → n ≤ m → h.line ≡ m
    → (names : Reading (List (List ℕ))) (body : Reading Block) (result : Reading (List Argument))
    (l : Placed block_lines (suc m) body)
    → ((k : ℕ) → Kept (P k) (left body) → Kept (P k) (left result))
    → Placed udo_lines n (three (definition_of h) names body result)
unfolding udo_lines
udo_three n m h w i (Ok (a, ts)) (Ok (b, us)) (Ok (c, vs)) l r = record {
  end = l.end;
  rises =
      (subst (λ x. n ≤ x) (sym i) w, subst (λ x. Rises (suc x) l.end (block_lines b)) (sym i) l.rises);
  rest = r l.end l.rest;
}
udo_three n m h w i (Ok (a, ts)) (Ok (b, us)) (Err f) l r = tt
udo_three n m h w i (Ok (a, ts)) (Err f) result l r = tt
udo_three n m h w i (Err f) body result l r = tt

inputs_fine : (n : ℕ) {s : Scope} {h : Heading} {ts : List Symbol} {o : Reading (List (List ℕ))} → ReadsInputs s h ts o
    → P n ts → Fine (P n) (NamesFit h.ins) o
inputs_fine n h q = fine_inputs (P n) (closed n) (good n) (P (suc n)) (feed n) (stop n) (weaker n) h q

result_fine : (n : ℕ) {s : Scope} {outs : List Rate} {st : Left} {o : Reading (List Argument)} → ReadsResult s outs st o
    → Kept (P n) st
    → Fine (P n) (ValuesFit outs) o
result_fine n h q = fine_result (P n) (closed n) (good n) (P (suc n)) (feed n) (stop n) (weaker n) h q

udo_placed : {d : List (List ℕ)} {ts : List Symbol} {o : Reading Definition} → ReadsDefinition d ts o → (n : ℕ) → P n ts
    → is expected.End (next ts).kind ≡ false → Placed udo_lines n o
udo_placed (no_heading x) n q e = tt
udo_placed {d} {ts} (udo {us = us} {h = h} {names = names} {body = body} {result = result} x i k r) n q e =
    let m = (next ts).line in
    let s = own_scope d h in
    let top : NewHeading m d h × P (suc m) us = subst (Fine (P (suc m)) (NewHeading m d)) x
    (fine_heading (P m) (closed m) (good m) (P (suc m)) (feed m) (stop m) (weaker m) (in_definition [] d) m (after ts)
    (closed m ts (own n ts q))) in
    let fn = inputs_fine (suc m) i top.1 in
    let b = block_placed k (suc m) (kept (P (suc m)) (NamesFit h.ins) names fn) in
    let made = three (definition_of h) names body result in
    placed_ended udo_lines n (outside d) (through s expected.Endop made)
    (placed_through udo_lines n s expected.Endop made
    (udo_three n m h (below n ts q e) top.0.1 names body result b
    (λ j z. kept (P j) (ValuesFit h.outs) result (result_fine j r z))))

headed : (m : ℕ) (o : Reading HeadLine) → Fine (P (suc m)) (HeaderAt m) o
    → Fine (P (suc m)) (λ x. x.line ∷ [] ≡ m ∷ []) o
headed m (Ok (h, ts)) f = (ap (λ l. l ∷ []) f.0, f.1)
headed m (Err e) f = tt

header_placed : (s : Scope) (h : HeadName) (n : ℕ) (ts : List Symbol) → P n ts → is expected.End (next ts).kind ≡ false
    → Placed (λ x. x.line ∷ []) n (header_line s h ts)
header_placed s h n ts q e =
    let m = (next ts).line in
    lined (λ x. x.line ∷ []) n m (below n ts q e) (header_line s h ts)
    (headed m (header_line s h ts)
    (fine_header (P m) (closed m) (good m) (P (suc m)) (feed m) (stop m) (weaker m) s h ts (own n ts q)))

-- ---- orchestras

record InOrderFrom (n : ℕ) (o : Orchestra) : Type 0 where
  pub items : List Item
  pub whole : o ≡ orchestra_of items
  pub end : ℕ
  pub rises : Rises n end (lines_of items)

abbrev Ordered : ℕ → Reading Orchestra → Type 0
Ordered n (Ok (o, ts)) = InOrderFrom n o
Ordered n (Err f) = Unit {0}

added : {A : Type 0} (lines : A → List ℕ) (item : A → Item) (add : A → Orchestra → Orchestra)
    → ((a : A) (o : Orchestra) (items : List Item) → o ≡ orchestra_of items → add a o ≡ orchestra_of (item a ∷ items))
    → ((a : A) → item_lines (item a) ≡ lines a) → (n : ℕ) (x : Reading A) (out : Reading Orchestra) → Placed lines n x
    → ((m : ℕ) → Kept (P m) (left x) → Ordered m out) → Ordered n (both add x out)
added lines item add g l n (Err f) out h k = tt
added lines item add g l n (Ok (a, ts)) (Err f) h k = tt
added lines item add g l n (Ok (a, ts)) (Ok (o, us)) h k =
    let i = k h.end h.rest in
    record {
      items = item a ∷ i.items;
      whole = g a o i.items i.whole;
      end = i.end;
      rises = rises_append n h.end i.end (item_lines (item a)) (lines_of i.items)
          (subst (Rises n h.end) (sym (l a)) h.rises) i.rises;
    }

abbrev is_end : ItemForm → Bool
is_end item.End = true
is_end _ = false

item_begun : (k : Kind) (b : Bool) → is_end (item_form_of k b) ≡ false → is expected.End k ≡ false
item_begun kind.End b e = cc
item_begun _ b e = refl

item_begins : (ts : List Symbol) (f : ItemForm) → item_form ts ≡ f → is_end f ≡ false
    → is expected.End (next ts).kind ≡ false
item_begins ts f e m = item_begun (next ts).kind (next_is expected.Equals (after ts)) (ap is_end e ∙ m)

ordered : {d : List (List ℕ)} {g : List ℕ} {st : Left} {out : Reading Orchestra} → ReadsOrc d g st out → (n : ℕ)
    → Kept (P n) st → Ordered n out
unfolding instr_lines udo_lines
ordered orc_stop n q = tt
ordered (orc_end e) n q = record { items = []; whole = refl; end = n; rises = omega arith }
ordered {d} {g} (orc_header {ts = ts} {h = h} {out = out} e k) n q =
    added (λ x. x.line ∷ []) header_item with_header (λ a o items i. ap (with_header a) i) (λ a. refl) n
    (header_line (outside d) h ts) out
    (header_placed (outside d) h n ts q (item_begins ts (item.Header h) e refl)) (λ m r. ordered k m r)
ordered {d} {g} (orc_instr {ts = ts} {o = o} {out = out} e h k) n q =
    added instr_lines instr_item with_instr (λ a o items i. ap (with_instr a) i) (λ a. refl) n o out
    (instr_placed h n q (item_begins ts item.Instr e refl)) (λ m r. ordered k m r)
ordered {d} {g} (orc_udo {ts = ts} {o = o} {out = out} e h k) n q =
    added udo_lines opcode_item with_definition (λ a o items i. ap (with_definition a) i) (λ a. refl) n o out
    (udo_placed h n q (item_begins ts item.Opcode e refl)) (λ m r. ordered k m r)
ordered {d} {g} (orc_stmt {ts = ts} {o = o} {out = out} e h k) n q =
    added stmt_lines stmt_item with_stmt (λ a o items i. ap (with_stmt a) i) (λ a. refl) n o out
    (stmt_placed h n q) (λ m r. ordered k m r)

pub in_order : {d : List (List ℕ)} {g : List ℕ} {ts rest : List Symbol} {o : Orchestra}
    → ReadsOrc d g (Ok ts) (Ok (o, rest)) → P 0 ts → InOrder o
in_order h q =
    let i = ordered h 0 q in
    record { items = i.items; whole = i.whole; ascend = pairs 0 i.end (lines_of i.items) i.rises }
