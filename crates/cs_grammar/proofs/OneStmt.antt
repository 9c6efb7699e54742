-- Every text has exactly one reading as a statement, as statements, and as arms.
use Rattle.std.proofs.Common.{◌≡◌, ◌<◌, ◌≤◌, ◌+◌, ◌*◌, ◌∙◌, ℕ, zero, suc, Bool, true, false, List, [], ◌∷◌, length, Ok}
use Rattle.std.proofs.Common.{Err, if◌then◌else◌, refl, arith, sym, ap}
use Rattle.cs_words.specs.{declared.catalogue.Opcode.Opcode, declared.word.Word.Word}
use Rattle.cs_grammar.specs.{declared.tree.Callee.Callee, declared.stmt.LineForm.LineForm, inner.Rows.targets}
use Rattle.cs_grammar.specs.Lines.{target, by_opcode, is_other_text, is_outside, is_own, line_form, operation}
use Rattle.cs_grammar.specs.Lines.{operation_of}
use Rattle.cs_grammar.specs.Grammar.{ReadsArms, ReadsBlock, ReadsMore, ReadsStmt, arm_more, assign, block_end}
use Rattle.cs_grammar.specs.Grammar.{block_more, block_stop, ends_block, more_else, more_elseif, more_endif, more_stop}
use Rattle.cs_grammar.specs.Grammar.{stmt_assign, stmt_bare, stmt_beyond, stmt_if, stmt_misplaced, stmt_results}
use Rattle.cs_grammar.specs.Reading.{Left, Reading, Scope, both, deeper, ended, fault, left, mapped, misfit, next_is}
use Rattle.cs_grammar.specs.Reading.{skip, three, through}
use Rattle.cs_grammar.specs.Tree.{Arms, Block, Expression, Statement, andthen, arm, call, choose, no_stmt, otherwise}
use Rattle.cs_grammar.specs.declared.symbol.Kind.{Kind}
use Rattle.cs_grammar.specs.Symbols.{Symbol, after, next}
use Rattle.cs_grammar.proofs.Sizes.{size, skip_size, mapped_size, both_size, three_size, through_size, ended_size}
use Rattle.cs_grammar.proofs.{Sizes.choice_size, OneExpr.the_expr, OneExpr.reads_expr, OneExpr.expr_size}
use Rattle.cs_grammar.proofs.{OneExpr.expr_is, OneList.the_args, OneList.reads_args, OneList.args_size, OneList.args_is}
use Rattle.cs_grammar.proofs.OneRow.{target_less, targets_less, reads_targets, targets_are}
use Rattle.cs_base.specs.declared.fault.OrcKind.TheVariants as orc
use Rattle.cs_words.specs.declared.catalogue.Opcode.TheVariants as opcode
use Rattle.cs_grammar.specs.declared.symbol.Kind.TheVariants as kind
use Rattle.cs_grammar.specs.declared.tree.Callee.TheVariants as callee
use Rattle.cs_grammar.specs.declared.expr.Level.TheVariants as level
use Rattle.cs_grammar.specs.declared.stmt.LineForm.TheVariants as form
use Rattle.cs_grammar.specs.declared.symbol.Expected.TheVariants as expected
use Rattle.cs_words.specs.declared.word.Word.TheVariants as word

-- ---- sizes of the parts of a line

abbrev plain : Scope → Symbol → List Symbol → Bool → Reading Callee
plain s t ts own = if own then Err (fault (t ∷ ts) orc.Recursion) else Ok (callee.Name t.text, ts)

plain_less : (s : Scope) (t : Symbol) (ts : List Symbol) (own : Bool) → size (left (plain s t ts own)) ≤ suc (length ts)
plain_less s t ts true = omega arith
plain_less s t ts false = omega arith

operation_opcode : (s : Scope) (t : Symbol) (ts : List Symbol) (o : Opcode)
    → size (left (by_opcode s (t ∷ ts) o)) ≤ suc (length ts)
operation_opcode s t ts opcode.Zakinit =
    choice_size (is_outside s.place) (Ok (callee.Opcode opcode.Zakinit, ts)) (Err (fault (t ∷ ts) orc.Unexpected))
    (suc (length ts))
    (omega arith) (omega arith)
operation_opcode s t ts opcode.EventI =
    choice_size (is_other_text (next ts)) (Err (fault ts orc.NotInProfile)) (Ok (callee.Opcode opcode.EventI, ts))
    (suc (length ts))
    (omega arith) (omega arith)
operation_opcode s t ts _ = omega arith

operation_word : (s : Scope) (t : Symbol) (ts : List Symbol) (w : Word)
    → size (left (operation_of s (t ∷ ts) (kind.Word w))) ≤ suc (length ts)
operation_word s t ts (word.Opcode o) = operation_opcode s t ts o
operation_word s t ts (word.Keyword k) = omega arith
operation_word s t ts word.Foreign = omega arith
operation_word s t ts _ = plain_less s t ts (is_own s t.text s.place)

operation_by : (s : Scope) (t : Symbol) (ts : List Symbol) (k : Kind)
    → size (left (operation_of s (t ∷ ts) k)) ≤ suc (length ts)
operation_by s t ts (kind.Word w) = operation_word s t ts w
operation_by s t ts _ = omega arith

pub operation_less : (s : Scope) (ts : List Symbol) → size (left (operation s (Ok ts))) ≤ length ts
operation_less s [] = omega arith
operation_less s (t ∷ ts) = operation_by s t ts t.kind

pub operation_size : (s : Scope) (st : Left) → size (left (operation s st)) ≤ size st
operation_size s (Err f) = omega arith
operation_size s (Ok ts) = omega (arith, operation_less s ts)

-- ---- the function

pub data Ask : Type 0 where
  stmt : Scope → List Symbol → Ask
  block : Scope → Left → Ask
  arms : Scope → Left → Ask
  more : Scope → Left → Ask

-- the type of the reading that answers a request
abbrev pub Answer : Ask → Type 0
Answer (stmt s ts) = Reading Statement
Answer (block s st) = Reading Block
Answer (arms s st) = Reading Arms
Answer (more s st) = Reading Arms

abbrev Answers : Type 0
Answers = (a : Ask) → Answer a

abbrev value : Scope → List Symbol → Reading Expression
value s ts = the_expr s level.Expr (skip (left (target s ts)))

abbrev stmt_by : Answers → Scope → List Symbol → LineForm → Reading Statement
stmt_by R s ts form.Assignment =
    ended s (both (assign (next ts).line (next (after ts)).kind) (target s ts) (value s ts))
stmt_by R s ts form.Results = ended s (three (call (next ts).line) (targets s ts) (operation s (left (targets s ts)))
    (the_args s (left (operation s (left (targets s ts))))))
stmt_by R s ts form.Bare =
    ended s (both (call (next ts).line []) (operation s (Ok ts)) (the_args s (left (operation s (Ok ts)))))
stmt_by R s ts form.Conditional = ended s (mapped (choose (next ts).line) (R (arms (deeper s) (Ok (after ts)))))
stmt_by R s ts form.Beyond = Err (fault ts orc.NotInProfile)
stmt_by R s ts form.Misplaced = Err (misfit s orc.Unexpected ts)

abbrev block_by : Answers → Scope → List Symbol → Bool → Reading Block
block_by R s ts true = Ok (no_stmt, ts)
block_by R s ts false = both andthen (R (stmt s ts)) (R (block s (left (R (stmt s ts)))))

abbrev line_of : Scope → Reading Expression → Left
line_of s c = left (ended s (through s expected.Then c))

abbrev arms_by : Answers → Scope → Reading Expression → Reading Arms
arms_by R s c = three arm c (R (block s (line_of s c))) (R (more s (left (R (block s (line_of s c))))))

abbrev else_line : Scope → List Symbol → Left
else_line s ts = left (ended s (Ok (no_stmt, after ts)))

abbrev more_by : Answers → Scope → List Symbol → Bool → Bool → Reading Arms
more_by R s ts true b = R (arms s (Ok (after ts)))
more_by R s ts false true = through s expected.Endif (mapped otherwise (R (block s (else_line s ts))))
more_by R s ts false false = through s expected.Endif (Ok (otherwise no_stmt, ts))

abbrev block_step : Answers → Scope → Left → Reading Block
block_step R s (Ok ts) = block_by R s ts (ends_block s (next ts).kind)
block_step R s (Err f) = Err f

abbrev more_step : Answers → Scope → Left → Reading Arms
more_step R s (Ok ts) = more_by R s ts (next_is expected.Elseif ts) (next_is expected.Else ts)
more_step R s (Err f) = Err f

abbrev step : Answers → Answers
step R (stmt s ts) = stmt_by R s ts (line_form s ts)
step R (block s st) = block_step R s st
step R (arms s st) = arms_by R s (the_expr s level.Expr st)
step R (more s st) = more_step R s st

-- the result if the steps run out
abbrev pub lost : (a : Ask) → Answer a
lost (stmt s ts) = Err (record { line = 0; kind = orc.Unexpected })
lost (block s st) = Err (record { line = 0; kind = orc.Unexpected })
lost (arms s st) = Err (record { line = 0; kind = orc.Unexpected })
lost (more s st) = Err (record { line = 0; kind = orc.Unexpected })

pub run : ℕ → Answers
run zero a = lost a
run (suc n) a = step (run n) a

pub record Settles (a : Ask) (o : Answer a) : Type 0 where
  pub steps : ℕ
  pub ends : (n : ℕ) → steps ≤ n → run n a ≡ o

settle : {a : Ask} {o : Answer a} (k : ℕ) → ((m : ℕ) → k ≤ m → step (run m) a ≡ o) → Settles a o
unfolding run
settle {a} {o} k f = record { steps = suc k; ends = by }
  where
    by : (n : ℕ) → suc k ≤ n → run n a ≡ o
    by zero h = absurd (omega arith)
    by (suc m) h = f m (omega arith)

mutual
  stmt_settles : {s : Scope} {ts : List Symbol} {o : Reading Statement} → ReadsStmt s ts o → Settles (stmt s ts) o
  stmt_settles {s} {ts} (stmt_assign e h) = settle 0 (λ m le. ap (stmt_by (run m) s ts) e ∙ ap
      (λ x. ended s (both (assign (next ts).line (next (after ts)).kind) (target s ts) x)) (expr_is h))
  stmt_settles {s} {ts} (stmt_results {names = names} e n h) = settle 0 (λ m le.
      ap (stmt_by (run m) s ts) e
      ∙ ap (λ y. ended s (three (call (next ts).line) y (operation s (left y))
      (the_args s (left (operation s (left y)))))) (targets_are s n)
      ∙ ap (λ x. ended s (three (call (next ts).line) names (operation s (left names)) x)) (args_is h))
  stmt_settles {s} {ts} (stmt_bare e h) = settle 0 (λ m le. ap (stmt_by (run m) s ts) e ∙ ap
      (λ x. ended s (both (call (next ts).line []) (operation s (Ok ts)) x)) (args_is h))
  stmt_settles {s} {ts} (stmt_if e h) =
      let i = arms_settles h in
      settle i.steps (λ m le. ap (stmt_by (run m) s ts) e
      ∙ ap (λ x. ended s (mapped (choose (next ts).line) x)) (i.ends m le))
  stmt_settles {s} {ts} (stmt_beyond e) = settle 0 (λ m le. ap (stmt_by (run m) s ts) e)
  stmt_settles {s} {ts} (stmt_misplaced e) = settle 0 (λ m le. ap (stmt_by (run m) s ts) e)

  block_settles : {s : Scope} {st : Left} {o : Reading Block} → ReadsBlock s st o → Settles (block s st) o
  block_settles block_stop = settle 0 (λ m le. refl)
  block_settles {s} (block_end {ts = ts} e) = settle 0 (λ m le. ap (block_by (run m) s ts) e)
  block_settles {s} (block_more {ts = ts} {o = o} e h k) =
      let i = stmt_settles h in
      let j = block_settles k in
      settle (i.steps + j.steps)
      (λ m le. ap (block_by (run m) s ts) e
      ∙ ap (λ x. both andthen x (run m (block s (left x)))) (i.ends m (omega arith))
      ∙ ap (both andthen o) (j.ends m (omega arith)))

  arms_settles : {s : Scope} {st : Left} {o : Reading Arms} → ReadsArms s st o → Settles (arms s st) o
  arms_settles {s} {st} (arm_more {c = c} {body = body} h k g) =
      let i = block_settles k in
      let j = more_settles g in
      settle (i.steps + j.steps)
      (λ m le. ap (arms_by (run m) s) (expr_is h)
      ∙ ap (λ x. three arm c x (run m (more s (left x)))) (i.ends m (omega arith))
      ∙ ap (three arm c body) (j.ends m (omega arith)))

  more_settles : {s : Scope} {st : Left} {o : Reading Arms} → ReadsMore s st o → Settles (more s st) o
  more_settles more_stop = settle 0 (λ m le. refl)
  more_settles {s} (more_elseif {ts = ts} e h) =
      let i = arms_settles h in
      settle i.steps (λ m le. ap (λ b. more_by (run m) s ts b (next_is expected.Else ts)) e ∙ i.ends m le)
  more_settles {s} (more_else {ts = ts} e f h) =
      let i = block_settles h in
      settle i.steps (λ m le. ap (λ b. more_by (run m) s ts b (next_is expected.Else ts)) e
      ∙ ap (more_by (run m) s ts false) f
      ∙ ap (λ x. through s expected.Endif (mapped otherwise x)) (i.ends m le))
  more_settles {s} (more_endif {ts = ts} e f) =
      settle 0 (λ m le. ap (λ b. more_by (run m) s ts b (next_is expected.Else ts)) e
      ∙ ap (more_by (run m) s ts false) f)

pub same_stmt : {s : Scope} {ts : List Symbol} {o p : Reading Statement} → ReadsStmt s ts o → ReadsStmt s ts p → o ≡ p
same_stmt h k =
    let i = stmt_settles h in
    let j = stmt_settles k in
    sym (i.ends (i.steps + j.steps) (omega arith)) ∙ j.ends (i.steps + j.steps) (omega arith)

pub same_block : {s : Scope} {st : Left} {o p : Reading Block} → ReadsBlock s st o → ReadsBlock s st p → o ≡ p
same_block h k =
    let i = block_settles h in
    let j = block_settles k in
    sym (i.ends (i.steps + j.steps) (omega arith)) ∙ j.ends (i.steps + j.steps) (omega arith)

-- ---- at least one reading

abbrev weight : Ask → ℕ
weight (stmt s ts) = 8 * (length ts + 1) + 1
weight (block s st) = 8 * size st + 2
weight (arms s st) = 8 * size st + 4
weight (more s st) = 8 * size st + 1

abbrev Right : (a : Ask) → Answer a → Type 0
Right (stmt s ts) o = ReadsStmt s ts o × (size (left o) ≤ length ts)
Right (block s st) o = ReadsBlock s st o × (size (left o) ≤ size st)
Right (arms s st) o = ReadsArms s st o × (size (left o) ≤ size st)
Right (more s st) o = ReadsMore s st o × (size (left o) ≤ size st)

module _ (R : Answers) (n : ℕ) (ih : (b : Ask) → weight b < n → Right b (R b)) where
  sound_stmt : (s : Scope) (ts : List Symbol) → 8 * (length ts + 1) + 1 ≤ n → (f : LineForm) → line_form s ts ≡ f
      → Right (stmt s ts) (stmt_by R s ts f)
  sound_stmt s ts w form.Assignment e =
      let v = value s ts in
      let made = assign (next ts).line (next (after ts)).kind in
      let o = both made (target s ts) v in (
        stmt_assign e (reads_expr s level.Expr (skip (left (target s ts)))),
        omega (
          arith,
          ended_size s o,
          both_size made (target s ts) v,
          expr_size s
              level.Expr (skip (left (target s ts))),
          skip_size (left (target s ts)),
          target_less s ts,
        ),
      )
  sound_stmt s ts w form.Results e =
      let p = operation s (left (targets s ts)) in
      let a = the_args s (left p) in
      let o = three (call (next ts).line) (targets s ts) p a in (
        stmt_results e (reads_targets s ts) (reads_args s (left p)),
        omega (
          arith,
          ended_size s o,
          three_size (call (next ts).line) (targets s ts) p a,
          args_size s (left p),
          operation_size s (left (targets s ts)),
          targets_less s ts,
        ),
      )
  sound_stmt s ts w form.Bare e =
      let p = operation s (Ok ts) in
      let a = the_args s (left p) in
      let o = both (call (next ts).line []) p a in (
        stmt_bare e (reads_args s (left p)),
        omega
            (arith, ended_size s o, both_size (call (next ts).line []) p a, args_size s (left p), operation_less s ts),
      )
  sound_stmt s ts w form.Beyond e = (stmt_beyond e, omega arith)
  sound_stmt s ts w form.Misplaced e = (stmt_misplaced e, omega arith)
  sound_stmt s [] w form.Conditional e = cc
  sound_stmt s (t ∷ ts) w form.Conditional e =
      let h = ih (arms (deeper s) (Ok ts)) (omega arith) in
      let o = mapped (choose t.line) (R (arms (deeper s) (Ok ts))) in
      (stmt_if e h.0, omega (arith, h.1, mapped_size (choose t.line) (R (arms (deeper s) (Ok ts))), ended_size s o))

  sound_block : (s : Scope) (ts : List Symbol) → 8 * (length ts + 1) + 2 ≤ n → (b : Bool)
      → ends_block s (next ts).kind ≡ b
      → Right (block s (Ok ts)) (block_by R s ts b)
  sound_block s ts w true e = (block_end e, omega arith)
  sound_block s ts w false e =
      let h = ih (stmt s ts) (omega arith) in
      let o = R (stmt s ts) in
      let k = ih (block s (left o)) (omega (arith, h.1)) in
      (block_more e h.0 k.0, omega (arith, h.1, k.1, both_size andthen o (R (block s (left o)))))

  sound_more : (s : Scope) (ts : List Symbol) → 8 * (length ts + 1) + 1 ≤ n → (a b : Bool)
      → next_is expected.Elseif ts ≡ a → next_is expected.Else ts ≡ b
      → Right (more s (Ok ts)) (more_by R s ts a b)
  sound_more s [] w true b e f = cc
  sound_more s (t ∷ ts) w true b e f =
      let h = ih (arms s (Ok ts)) (omega arith) in
      (more_elseif e h.0, omega (arith, h.1))
  sound_more s [] w false true e f = cc
  sound_more s (t ∷ ts) w false true e f =
      let st = else_line s (t ∷ ts) in
      let small : size st ≤ length ts + 1 = ended_size s (Ok (no_stmt, ts)) in
      let h = ih (block s st) (omega (arith, small)) in
      let o = mapped otherwise (R (block s st)) in (
        more_else e f h.0,
        omega
            (arith, h.1, small, mapped_size otherwise (R (block s st)), through_size s expected.Endif o),
      )
  sound_more s ts w false false e f = (more_endif e f, through_size s expected.Endif (Ok (otherwise no_stmt, ts)))

  sound_arms : (s : Scope) (st : Left) → 8 * size st + 4 ≤ n
      → Right (arms s st) (arms_by R s (the_expr s level.Expr st))
  sound_arms s st w =
      let c = the_expr s level.Expr st in
      let small : size (line_of s c) ≤ size st = omega (
        arith,
        ended_size s (through s expected.Then c),
        through_size s expected.Then c,
        expr_size s
            level.Expr st,
      ) in
      let h = ih (block s (line_of s c)) (omega (arith, small)) in
      let body = R (block s (line_of s c)) in
      let k = ih (more s (left body)) (omega (arith, small, h.1)) in (
        arm_more (reads_expr s level.Expr st) h.0 k.0,
        omega
            (arith, small, h.1, k.1, three_size arm c body (R (more s (left body)))),
      )

  sound_step : (a : Ask) → weight a ≤ n → Right a (step R a)
  sound_step (stmt s ts) w = sound_stmt s ts w (line_form s ts) refl
  sound_step (block s (Err f)) w = (block_stop, omega arith)
  sound_step (block s (Ok ts)) w = sound_block s ts w (ends_block s (next ts).kind) refl
  sound_step (arms s st) w = sound_arms s st w
  sound_step (more s (Err f)) w = (more_stop, omega arith)
  sound_step (more s (Ok ts)) w = sound_more s ts w (next_is expected.Elseif ts) (next_is expected.Else ts) refl refl

sound : (n : ℕ) (a : Ask) → weight a < n → Right a (run n a)
unfolding run
sound zero a h = absurd (omega arith)
sound (suc n) a h = sound_step (run n) n (λ b k. sound n b k) a (omega arith)

pub the_stmt : Scope → List Symbol → Reading Statement
the_stmt s ts = run (suc (weight (stmt s ts))) (stmt s ts)

pub reads_stmt : (s : Scope) (ts : List Symbol) → ReadsStmt s ts (the_stmt s ts)
unfolding the_stmt
reads_stmt s ts = (sound (suc (weight (stmt s ts))) (stmt s ts) (omega arith)).0

pub stmt_less : (s : Scope) (ts : List Symbol) → size (left (the_stmt s ts)) ≤ length ts
unfolding the_stmt
stmt_less s ts = (sound (suc (weight (stmt s ts))) (stmt s ts) (omega arith)).1

pub stmt_is : {s : Scope} {ts : List Symbol} {o : Reading Statement} → ReadsStmt s ts o → the_stmt s ts ≡ o
stmt_is {s} {ts} h = same_stmt (reads_stmt s ts) h

pub the_block : Scope → Left → Reading Block
the_block s st = run (suc (weight (block s st))) (block s st)

pub reads_block : (s : Scope) (st : Left) → ReadsBlock s st (the_block s st)
unfolding the_block
reads_block s st = (sound (suc (weight (block s st))) (block s st) (omega arith)).0

pub block_size : (s : Scope) (st : Left) → size (left (the_block s st)) ≤ size st
unfolding the_block
block_size s st = (sound (suc (weight (block s st))) (block s st) (omega arith)).1

pub block_is : {s : Scope} {st : Left} {o : Reading Block} → ReadsBlock s st o → the_block s st ≡ o
block_is {s} {st} h = same_block (reads_block s st) h
