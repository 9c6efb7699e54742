-- Whatever is read is well formed: statements, numbers, the lines of a definition.
use Rattle.std.proofs.Common.{◌≡◌, ◌≢◌, ◌∙◌, ◌≤◌, ◌<◌, ◌++◌, ◌&&◌, ◌||◌, ◌==◌, ◌%◌, ◌/◌, ℕ, ℤ, pos, Bool, true, false}
use Rattle.std.proofs.Common.{List, [], ◌∷◌, Option, Some, None, Ok, Err, nat_lt, nat_le, if◌then◌else◌, refl, arith}
use Rattle.std.proofs.Common.{sym, ap, subst}
use Rattle.std.specs.List.{All}
use Rattle.std.proofs.lemmas.Bool.{and_parts, or_parts, ltb-true, leb-true}
use Rattle.std.proofs.lemmas.{Bool.Decides.Decides-eqb, List.Kept.AllPairs-cons}
use Rattle.std.proofs.lemmas.List.Elements.{All-nil, All-cons, All-weaker}
use Rattle.cs_base.specs.declared.fault.OrcFault.{OrcFault}
use Rattle.cs_grammar.specs.{declared.scope.Place.Place, declared.stmt.LineForm.LineForm, Parts.is_opcode}
use Rattle.cs_grammar.specs.{Inputs.AreDifferent}
use Rattle.cs_grammar.specs.Reading.{fault, through, ended, Left, Reading, left, mapped, both, three, Scope, deeper}
use Rattle.cs_grammar.specs.Reading.{has_number}
use Rattle.cs_grammar.specs.WellFormed.{WellFormedBlock, WellFormedArms, line_of, IsVariable, WellFormedExpr}
use Rattle.cs_grammar.specs.WellFormed.{WellFormedArg, IsCall, WellFormedStmt}
use Rattle.cs_grammar.specs.Tree.{Expression, Statement, call, choose, Block, no_stmt, andthen, Arms, otherwise, arm}
use Rattle.cs_grammar.specs.Lines.{word_form, line_form_of, line_form, target, operation, instrument_number, fresh}
use Rattle.cs_grammar.specs.Lines.{number_at, ReadsNumbers, no_item, last_item, more_items}
use Rattle.cs_grammar.specs.Grammar.{assign, ReadsStmt, stmt_assign, stmt_results, stmt_bare, stmt_if, stmt_beyond}
use Rattle.cs_grammar.specs.Grammar.{stmt_misplaced, ReadsBlock, block_stop, block_end, block_more, ReadsArms, arm_more}
use Rattle.cs_grammar.specs.Grammar.{ReadsMore, more_stop, more_elseif, more_else, more_endif}
use Rattle.cs_grammar.specs.declared.symbol.Kind.{Kind}
use Rattle.cs_grammar.specs.Symbols.{Symbol, next, after}
use Rattle.cs_grammar.proofs.Fine.{IsWord, Fine, Kept, kept, kept_skip, fine_mapped, fine_both, fine_three}
use Rattle.cs_grammar.proofs.Fine.{fine_through, fine_ended, fine_line, weakened, fine_expr, fine_args, fine_target}
use Rattle.cs_grammar.proofs.Fine.{fine_targets, fine_operation}
use Rattle.cs_base.specs.declared.fault.OrcKind.TheVariants as orc
use Rattle.cs_words.specs.declared.word.Keyword.TheVariants as key
use Rattle.cs_words.specs.declared.word.Word.TheVariants as word
use Rattle.cs_words.specs.declared.sign.Sign.TheVariants as sign
use Rattle.cs_grammar.specs.declared.symbol.Kind.TheVariants as kind
use Rattle.cs_grammar.specs.declared.symbol.Expected.TheVariants as expected
use Rattle.cs_grammar.specs.declared.stmt.LineForm.TheVariants as form

-- ---- an `if` is inside at most 99 others

no_if : (k : Kind) (b : Bool) → word_form k b ≡ form.Conditional → ⊥
no_if (kind.Sign sign.Colon) b e = cc
no_if _ true e = cc
no_if _ false e = cc

if_shallow : (s : Scope) (k : Kind) (f : LineForm) → (f ≡ form.Conditional → ⊥) → line_form_of s k f ≡ form.Conditional
    → s.depth < 100
if_shallow s (kind.Word (word.Keyword key.If)) f n e = by (nat_lt s.depth 100) refl e
  where
    by : (b : Bool) → nat_lt s.depth 100 ≡ b → (if b then form.Conditional else form.Beyond) ≡ form.Conditional
        → s.depth < 100
    by true h e = ltb-true s.depth 100 h
    by false h e = cc
if_shallow s (kind.Word (word.Keyword _)) f n e = cc
if_shallow s (kind.Word _) f n e = absurd (n e)
if_shallow s _ f n e = cc

pub shallow : (s : Scope) (ts : List Symbol) → line_form s ts ≡ form.Conditional → s.depth < 100
shallow s ts e =
    if_shallow s (next ts).kind (word_form (next (after ts)).kind (is_opcode s (next ts).text (next ts).kind))
    (no_if (next (after ts)).kind (is_opcode s (next ts).text (next ts).kind)) e

assigned : (p : Place) (own : List ℕ) (depth line : ℕ) (k : Kind) (n : List ℕ) (e : Expression) → IsVariable n
    → WellFormedExpr e
    → WellFormedStmt p own depth (assign line k n e)
assigned p own depth line (kind.Sign sign.PlusEquals) n e h g = (h, (h, g))
assigned p own depth line _ n e h g = (h, g)

assigned_at : (line : ℕ) (k : Kind) (n : List ℕ) (e : Expression) → line_of (assign line k n e) ≡ line
assigned_at line (kind.Sign sign.PlusEquals) n e = refl
assigned_at line _ n e = refl

module _ (Q : List Symbol → Type 0) (closed : (ts : List Symbol) → Q ts → Q (after ts))
    (good : (ts : List Symbol) → Q ts → IsWord (next ts))
    (R : List Symbol → Type 0) (feed : (ts : List Symbol) → Q ts → (next ts).kind ≡ kind.NewLine → R (after ts))
    (stop : (ts : List Symbol) → Q ts → (next ts).kind ≡ kind.End → R ts)
    (weaker : (ts : List Symbol) → R ts → Q ts) where
  abbrev Line : Scope → Statement → Type 0
  Line s x = WellFormedStmt s.place s.own s.depth x

  abbrev pub LineAt : Scope → ℕ → Statement → Type 0
  LineAt s line x = WellFormedStmt s.place s.own s.depth x × (line_of x ≡ line)

  abbrev Lines : Scope → Block → Type 0
  Lines s b = WellFormedBlock s.place s.own s.depth b

  abbrev Chain : Scope → Arms → Type 0
  Chain s a = WellFormedArms s.place s.own s.depth a

  mutual
    pub fine_stmt : {s : Scope} {ts : List Symbol} {o : Reading Statement} → ReadsStmt s ts o → Q ts
        → Fine R (LineAt s (next ts).line) o
    fine_stmt {s} {ts} (stmt_assign {e = e} f h) q =
        let t = fine_target Q closed good s ts q in
        let v = fine_expr Q closed good h
        (kept_skip Q closed good (left (target s ts)) (kept Q IsVariable (target s ts) t)) in
        let made = assign (next ts).line (next (after ts)).kind in
        fine_line Q closed good R feed stop (LineAt s (next ts).line) s (both made (target s ts) e)
        (fine_both Q closed good IsVariable WellFormedExpr (LineAt s (next ts).line) made (λ n x y z. (
          assigned s.place s.own s.depth (next ts).line (next (after ts)).kind n x y z,
          assigned_at (next ts).line
              (next (after ts)).kind n x,
        ))
        (target s ts) e t v)
    fine_stmt {s} {ts} (stmt_results {names = names} {args = args} f n h) q =
        let t = fine_targets Q closed good s n q in
        let p = operation s (left names) in
        let o = fine_operation Q closed good s (left names) (kept Q (All IsVariable) names t) in
        let a = fine_args Q closed good h (kept Q (IsCall s.place s.own) p o) in
        fine_line Q closed good R feed stop (LineAt s (next ts).line) s (three (call (next ts).line) names p args)
        (fine_three Q closed good (All IsVariable) (IsCall s.place s.own) (All WellFormedArg) (LineAt s (next ts).line)
        (call (next ts).line)
        (λ x y z u v w. ((u, v, w), refl)) names p args t o a)
    fine_stmt {s} {ts} (stmt_bare {args = args} f h) q =
        let p = operation s (Ok ts) in
        let o = fine_operation Q closed good s (Ok ts) q in
        let a = fine_args Q closed good h (kept Q (IsCall s.place s.own) p o) in
        fine_line Q closed good R feed stop (LineAt s (next ts).line) s (both (call (next ts).line []) p args)
        (fine_both Q closed good (IsCall s.place s.own) (All WellFormedArg) (LineAt s (next ts).line)
        (call (next ts).line [])
        (λ x y u v. ((All-nil IsVariable, u, v), refl)) p args o a)
    fine_stmt {s} {ts} (stmt_if {chain = chain} f h) q =
        fine_line Q closed good R feed stop (LineAt s (next ts).line) s (mapped (choose (next ts).line) chain)
        (fine_mapped Q closed good (Chain (deeper s)) (LineAt s (next ts).line) (choose (next ts).line)
        (λ a x. ((shallow s ts f, x), refl)) chain
        (fine_arms h (closed ts q)))
    fine_stmt (stmt_beyond f) q = tt
    fine_stmt (stmt_misplaced f) q = tt

    pub fine_block : {s : Scope} {st : Left} {o : Reading Block} → ReadsBlock s st o → Kept Q st → Fine Q (Lines s) o
    fine_block block_stop q = tt
    fine_block (block_end e) q = (tt, q)
    fine_block {s} (block_more {ts = ts} {o = o} {out = out} e h k) q =
        let f = weakened R Q (LineAt s (next ts).line) (Line s) weaker (λ x l. l.0) o (fine_stmt h q) in
        fine_both Q closed good (Line s) (Lines s) (Lines s) andthen (λ x b y z. (y, z)) o out f
        (fine_block k (kept Q (Line s) o f))

    fine_arms : {s : Scope} {st : Left} {o : Reading Arms} → ReadsArms s st o → Kept Q st → Fine Q (Chain s) o
    fine_arms {s} (arm_more {c = c} {body = body} {rest = rest} h k g) q =
        let fc = fine_expr Q closed good h q in
        let ft = fine_through Q closed good WellFormedExpr s expected.Then c fc in
        let fe = fine_ended Q closed good WellFormedExpr s (through s expected.Then c) ft in
        let fb = fine_block k (kept Q WellFormedExpr (ended s (through s expected.Then c)) fe) in
        let fr = fine_more g (kept Q (Lines s) body fb) in
        fine_three Q closed good WellFormedExpr (Lines s) (Chain s) (Chain s) arm (λ x y z u v w. (u, v, w)) c body rest
        fc fb fr

    fine_more : {s : Scope} {st : Left} {o : Reading Arms} → ReadsMore s st o → Kept Q st → Fine Q (Chain s) o
    fine_more more_stop q = tt
    fine_more (more_elseif {ts = ts} e h) q = fine_arms h (closed ts q)
    fine_more {s} (more_else {ts = ts} {body = body} e f h) q =
        let fe = fine_ended Q closed good (Lines s) s (Ok (no_stmt, after ts)) (tt, closed ts q) in
        let fb = fine_block h (kept Q (Lines s) (ended s (Ok (no_stmt, after ts))) fe) in
        fine_through Q closed good (Chain s) s expected.Endif (mapped otherwise body)
        (fine_mapped Q closed good (Lines s) (Chain s) otherwise (λ b x. x) body fb)
    fine_more {s} (more_endif {ts = ts} e f) q =
        fine_through Q closed good (Chain s) s expected.Endif (Ok (otherwise no_stmt, ts)) (tt, q)

-- ---- the numbers of an instrument

pub has_append : (xs ys : List ℕ) (n : ℕ) → has_number (xs ++ ys) n ≡ (has_number xs n || has_number ys n)
has_append [] ys n = refl
has_append (x ∷ xs) ys n = by (n == x) (has_append xs ys n)
  where
    by : (b : Bool) → has_number (xs ++ ys) n ≡ (has_number xs n || has_number ys n) → (b || has_number (xs ++ ys) n) ≡
        ((b || has_number xs n) || has_number ys n)
    by true h = refl
    by false h = h

abbrev IsNumber : ℕ → Type 0
IsNumber n = (1 ≤ n) × (n ≤ 32767)

number_range : (v : ℤ) (n : ℕ) → instrument_number v ≡ Some n → IsNumber n
number_range (pos raw) n e = by (raw % 65536 == 0 && nat_le 1 (raw / 65536) && nat_le (raw / 65536) 32767) refl e
  where
    at : (m : ℕ) → Some m ≡ Some n → IsNumber m → IsNumber n
    at m e h = subst IsNumber (some_is e) h
      where
        some_or : Option ℕ → ℕ
        some_or (Some k) = k
        some_or None = 0

        some_is : Some m ≡ Some n → m ≡ n
        some_is e = ap some_or e

    by : (b : Bool) → (raw % 65536 == 0 && nat_le 1 (raw / 65536) && nat_le (raw / 65536) 32767) ≡ b
        → (if b then Some (raw / 65536) else None) ≡ Some n
        → IsNumber n
    by true h e =
        let both = and_parts (raw % 65536 == 0 && nat_le 1 (raw / 65536)) (nat_le (raw / 65536) 32767) h in
        let first = and_parts (raw % 65536 == 0) (nat_le 1 (raw / 65536)) both.0 in
        at (raw / 65536) e (leb-true 1 (raw / 65536) first.1, leb-true (raw / 65536) 32767 both.1)
    by false h e = cc
number_range _ n e = cc

-- the numbers of an instrument: they differ, and none has been used before
pub record NumbersFrom (given ns : List ℕ) : Type 0 where
  pub range : All (λ n. (1 ≤ n) × (n ≤ 32767)) ns
  pub different : AreDifferent ns
  pub apart : All (λ n. has_number given n ≡ false) ns

record OneNumber (Q : List Symbol → Type 0) (given : List ℕ) (n : ℕ) (us : List Symbol) : Type 0 where
  pub range : (1 ≤ n) × (n ≤ 32767)
  pub apart : has_number given n ≡ false
  pub left_over : Q us

abbrev of_fresh : Bool → ℕ → List Symbol → OrcFault → Reading ℕ
of_fresh b m ts f = if b then Err f else Ok (m, ts)

abbrev number_in : ℕ → Reading ℕ → ℕ
number_in d (Ok (n, ts)) = n
number_in d (Err f) = d

abbrev rest_in : Reading ℕ → List Symbol → List Symbol
rest_in (Ok (n, ts)) d = ts
rest_in (Err f) d = d

fresh_number : (Q : List Symbol → Type 0) (given : List ℕ) (ts us : List Symbol) (o : Option ℕ) (n : ℕ) → Q (after ts)
    → ((m : ℕ) → o ≡ Some m → IsNumber m)
    → fresh given ts o ≡ Ok (n, us) → OneNumber Q given n us
fresh_number Q given ts us None n q r e = cc
fresh_number Q given ts us (Some m) n q r e = by (has_number given m) refl e
  where
    by : (b : Bool) → has_number given m ≡ b → of_fresh b m (after ts) (fault ts orc.InstrTwice) ≡ Ok (n, us)
        → OneNumber Q given n us
    by true h e = cc
    by false h e =
        let same : m ≡ n = ap (number_in 0) e in
        let rest : after ts ≡ us = ap (λ o. rest_in o []) e in
        record {
          range = subst IsNumber same (r m refl);
          apart =
              subst (λ k. has_number given k ≡ false) same h;
          left_over = subst Q rest q;
        }

number_found : (Q : List Symbol → Type 0) (s : Scope) (given : List ℕ) (ts us : List Symbol) (n : ℕ) (k : Kind)
    → Q (after ts)
    → number_at s given ts k ≡ Ok (n, us) → OneNumber Q given n us
number_found Q s given ts us n (kind.Number v) q e =
    fresh_number Q given ts us (instrument_number v) n q (number_range v) e
number_found Q s given ts us n _ q e = cc

differ : (xs ys : List ℕ) (x n : ℕ) → has_number (xs ++ x ∷ []) n ≡ false → (has_number xs n ≡ false) × (x ≢ n)
differ xs ys x n h =
    let parts = or_parts (has_number xs n) (n == x || false) (sym (has_append xs (x ∷ []) n) ∙ h) in
    let last = or_parts (n == x) false parts.1 in
    (parts.0, λ q. let k : true ≡ false = sym ((Decides-eqb n x).1 (sym q)) ∙ last.0 in cc)

module _ (Q : List Symbol → Type 0) (closed : (ts : List Symbol) → Q ts → Q (after ts)) where
  pub fine_numbers : (s : Scope) {given : List ℕ} {ts : List Symbol} {o : Reading (List ℕ)} → ReadsNumbers s given ts o
      → Q ts → Fine Q (NumbersFrom given) o
  fine_numbers s (no_item e) q = tt
  fine_numbers s (last_item {before = given} {ts = ts} {us = us} {x = n} e c) q =
      let h = number_found Q s given ts us n (next ts).kind (closed ts q) e in (
        record {
          range = All-cons (λ n. (1 ≤ n) × (n ≤ 32767)) n [] h.range (All-nil (λ n. (1 ≤ n) × (n ≤ 32767)));
          different = λ i j d lt within. absurd (omega (arith, lt, within));
          apart = All-cons (λ n. has_number given n ≡ false) n [] h.apart (All-nil (λ n. has_number given n ≡ false));
        },
        h.left_over,
      )
  fine_numbers s (more_items {before = given} {ts = ts} {us = us} {x = n} {out = out} e c k) q =
      let h = number_found Q s given ts us n (next ts).kind (closed ts q) e in
      more given n h.range h.apart out (fine_numbers s k (closed us h.left_over))
    where
      more : (given : List ℕ) (n : ℕ) → (1 ≤ n) × (n ≤ 32767) → has_number given n ≡ false → (out : Reading (List ℕ))
          → Fine Q (NumbersFrom (given ++ n ∷ [])) out
          → Fine Q (NumbersFrom given) (mapped (λ ns. n ∷ ns) out)
      more given n r a (Err f) h = tt
      more given n r a (Ok (ns, ts)) h = (
        record {
          range = All-cons (λ n. (1 ≤ n) × (n ≤ 32767)) n ns r h.0.range;
          different = AllPairs-cons (λ x y. x ≢ y) n ns
              (All-weaker (λ m. has_number (given ++ n ∷ []) m ≡ false) (λ m. n ≢ m)
              (λ m x. (differ given [] n m x).1) ns h.0.apart) h.0.different;
          apart = All-cons (λ m. has_number given m ≡ false) n ns a
              (All-weaker (λ m. has_number (given ++ n ∷ []) m ≡ false) (λ m. has_number given m ≡ false)
              (λ m x. (differ given [] n m x).0) ns h.0.apart);
        },
        h.1,
      )
