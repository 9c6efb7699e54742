-- Every text has exactly one reading as arguments.
use Rattle.std.proofs.Common.{◌≡◌, ◌<◌, ◌≤◌, ◌+◌, ◌∙◌, ℕ, zero, suc, Bool, true, false, List, [], ◌∷◌, length, Ok, Err}
use Rattle.std.proofs.Common.{refl, arith, sym, ap}
use Rattle.cs_grammar.proofs.Sizes.{size, after_size, mapped_size, both_size}
use Rattle.cs_grammar.proofs.OneExpr.{the_expr, reads_expr, expr_size, expr_is}
use Rattle.cs_grammar.specs.{declared.lists.Role.Role, inner.Rows.quoted, Tree.Argument, Tree.value}
use Rattle.cs_grammar.specs.Grammar.{ReadsArg, ReadsArgs, ReadsList, arg_text, arg_value, args_none, args_some}
use Rattle.cs_grammar.specs.Grammar.{args_stop, list_last, list_more, list_stop, text_result}
use Rattle.cs_grammar.specs.Reading.{Left, Reading, Scope, both, left, mapped, meets, next_is, skip}
use Rattle.cs_grammar.specs.{Kinds.ends_line, Symbols.Symbol, Symbols.next}
use Rattle.cs_base.specs.declared.fault.OrcKind.TheVariants as orc
use Rattle.cs_grammar.specs.declared.expr.Level.TheVariants as level
use Rattle.cs_grammar.specs.declared.symbol.Expected.TheVariants as expected
use Rattle.cs_grammar.specs.declared.lists.Role.TheVariants as role

arg_by : Scope → Role → List Symbol → Bool → Reading Argument
arg_by s r ts true = quoted r ts
arg_by s r ts false = mapped value (the_expr s level.Expr (Ok ts))

pub the_arg : Scope → Role → List Symbol → Reading Argument
the_arg s r ts = arg_by s r ts (next_is expected.Text ts)

reads_arg_by : (s : Scope) (r : Role) (ts : List Symbol) (b : Bool) → next_is expected.Text ts ≡ b
    → ReadsArg s r ts (arg_by s r ts b) × (size (left (arg_by s r ts b)) ≤ length ts + 1)
unfolding arg_by
reads_arg_by s role.Argument ts true e = (arg_text e, omega (arith, after_size ts))
reads_arg_by s role.Result ts true e = (text_result e, omega arith)
reads_arg_by s r ts false e = (
  arg_value e (reads_expr s level.Expr (Ok ts)),
  omega
      (arith, mapped_size value (the_expr s level.Expr (Ok ts)), expr_size s level.Expr (Ok ts)),
)

pub reads_arg : (s : Scope) (r : Role) (ts : List Symbol) → ReadsArg s r ts (the_arg s r ts)
unfolding the_arg
reads_arg s r ts = (reads_arg_by s r ts (next_is expected.Text ts) refl).0

pub arg_size : (s : Scope) (r : Role) (ts : List Symbol) → size (left (the_arg s r ts)) ≤ length ts + 1
unfolding the_arg
arg_size s r ts = (reads_arg_by s r ts (next_is expected.Text ts) refl).1

pub arg_is : {s : Scope} {r : Role} {ts : List Symbol} {o : Reading Argument} → ReadsArg s r ts o → the_arg s r ts ≡ o
unfolding the_arg arg_by
arg_is {s} {ts = ts} (arg_text e) = ap (arg_by s role.Argument ts) e
arg_is {s} {ts = ts} (text_result e) = ap (arg_by s role.Result ts) e
arg_is {s} {r} {ts} (arg_value e h) = ap (arg_by s r ts) e ∙ ap (mapped value) (expr_is h)

-- ---- lists

abbrev Answers : Type 0
Answers = Left → Reading (List Argument)

abbrev list_on : Answers → Reading Argument → Bool → Reading (List Argument)
list_on R o true = both ◌∷◌ o (R (skip (left o)))
list_on R o false = mapped (λ a. a ∷ []) o

abbrev step : Scope → Role → Answers → Answers
step s r R (Ok ts) = list_on R (the_arg s r ts) (meets expected.Comma (left (the_arg s r ts)))
step s r R (Err f) = Err f

pub run : Scope → Role → ℕ → Answers
run s r zero st = Err (record { line = 0; kind = orc.Unexpected })
run s r (suc n) st = step s r (run s r n) st

pub record Settles (s : Scope) (r : Role) (st : Left) (o : Reading (List Argument)) : Type 0 where
  pub steps : ℕ
  pub ends : (n : ℕ) → steps ≤ n → run s r n st ≡ o

settle : {s : Scope} {r : Role} {st : Left} {o : Reading (List Argument)} (k : ℕ)
    → ((m : ℕ) → k ≤ m → step s r (run s r m) st ≡ o) → Settles s r st o
unfolding run
settle {s} {r} {st} {o} k f = record { steps = suc k; ends = by }
  where
    by : (n : ℕ) → suc k ≤ n → run s r n st ≡ o
    by zero h = absurd (omega arith)
    by (suc m) h = f m (omega arith)

settles : {s : Scope} {r : Role} {st : Left} {o : Reading (List Argument)} → ReadsList s r st o → Settles s r st o
settles list_stop = settle 0 (λ m le. refl)
settles {s} {r} (list_last {ts} {o} h e) =
    settle 0 (λ m le. ap (λ x. list_on (run s r m) x (meets expected.Comma (left x))) (arg_is h)
    ∙ ap (list_on (run s r m) o) e)
settles {s} {r} (list_more {ts} {o} h e k) =
    let i = settles k in
    settle i.steps (λ m le. ap (λ x. list_on (run s r m) x (meets expected.Comma (left x))) (arg_is h)
    ∙ ap (list_on (run s r m) o) e
    ∙ ap (both ◌∷◌ o) (i.ends m le))

same_list : {s : Scope} {r : Role} {st : Left} {o p : Reading (List Argument)} → ReadsList s r st o → ReadsList s r st p
    → o ≡ p
same_list h k =
    let i = settles h in
    let j = settles k in
    sym (i.ends (i.steps + j.steps) (omega arith)) ∙ j.ends (i.steps + j.steps) (omega arith)

abbrev Right : Scope → Role → Left → Reading (List Argument) → Type 0
Right s r st o = ReadsList s r st o × (size (left o) ≤ size st)

comma_less : (st : Left) → meets expected.Comma st ≡ true → size (skip st) < size st
comma_less (Err f) e = cc
comma_less (Ok []) e = cc
comma_less (Ok (t ∷ ts)) e = omega arith

sound_on : (s : Scope) (r : Role) (R : Answers) (n : ℕ) → ((st : Left) → size st < n → Right s r st (R st))
    → (ts : List Symbol) → length ts + 1 ≤ n
    → (b : Bool) → meets expected.Comma (left (the_arg s r ts)) ≡ b → Right s r (Ok ts) (list_on R (the_arg s r ts) b)
sound_on s r R n ih ts w true e =
    let o = the_arg s r ts in
    let less = comma_less (left o) e in
    let h = ih (skip (left o)) (omega (arith, less, arg_size s r ts)) in (
      list_more (reads_arg s r ts) e h.0,
      omega
          (arith, h.1, less, arg_size s r ts, both_size {C = List Argument} ◌∷◌ o (R (skip (left o)))),
    )
sound_on s r R n ih ts w false e =
    let o = the_arg s r ts in
    (list_last (reads_arg s r ts) e, omega (arith, arg_size s r ts, mapped_size {B = List Argument} (λ a. a ∷ []) o))

sound_step : (s : Scope) (r : Role) (R : Answers) (n : ℕ) → ((st : Left) → size st < n → Right s r st (R st))
    → (st : Left) → size st ≤ n
    → Right s r st (step s r R st)
sound_step s r R n ih (Err f) w = (list_stop, omega arith)
sound_step s r R n ih (Ok ts) w = sound_on s r R n ih ts w (meets expected.Comma (left (the_arg s r ts))) refl

sound : (s : Scope) (r : Role) (n : ℕ) (st : Left) → size st < n → Right s r st (run s r n st)
unfolding run
sound s r zero st h = absurd (omega arith)
sound s r (suc n) st h = sound_step s r (run s r n) n (λ b k. sound s r n b k) st (omega arith)

pub the_list : Scope → Role → Left → Reading (List Argument)
the_list s r st = run s r (suc (size st)) st

pub reads_list : (s : Scope) (r : Role) (st : Left) → ReadsList s r st (the_list s r st)
unfolding the_list
reads_list s r st = (sound s r (suc (size st)) st (omega arith)).0

pub list_size : (s : Scope) (r : Role) (st : Left) → size (left (the_list s r st)) ≤ size st
unfolding the_list
list_size s r st = (sound s r (suc (size st)) st (omega arith)).1

pub list_is : {s : Scope} {r : Role} {st : Left} {o : Reading (List Argument)} → ReadsList s r st o
    → the_list s r st ≡ o
list_is {s} {r} {st} h = same_list (reads_list s r st) h

-- ---- arguments up to the end of the line

args_by : Scope → List Symbol → Bool → Reading (List Argument)
args_by s ts true = Ok ([], ts)
args_by s ts false = the_list s role.Argument (Ok ts)

pub the_args : Scope → Left → Reading (List Argument)
the_args s (Ok ts) = args_by s ts (ends_line (next ts).kind)
the_args s (Err f) = Err f

args_right : (s : Scope) (ts : List Symbol) (b : Bool) → ends_line (next ts).kind ≡ b
    → ReadsArgs s (Ok ts) (args_by s ts b) ×
    (size (left (args_by s ts b)) ≤ length ts + 1)
unfolding args_by
args_right s ts true e = (args_none e, omega arith)
args_right s ts false e = (args_some e (reads_list s role.Argument (Ok ts)), list_size s role.Argument (Ok ts))

pub reads_args : (s : Scope) (st : Left) → ReadsArgs s st (the_args s st)
unfolding the_args
reads_args s (Err f) = args_stop
reads_args s (Ok ts) = (args_right s ts (ends_line (next ts).kind) refl).0

pub args_size : (s : Scope) (st : Left) → size (left (the_args s st)) ≤ size st
unfolding the_args
args_size s (Err f) = omega arith
args_size s (Ok ts) = (args_right s ts (ends_line (next ts).kind) refl).1

pub args_is : {s : Scope} {st : Left} {o : Reading (List Argument)} → ReadsArgs s st o → the_args s st ≡ o
unfolding the_args args_by
args_is args_stop = refl
args_is {s} (args_none {ts} e) = ap (args_by s ts) e
args_is {s} (args_some {ts} e h) = ap (args_by s ts) e ∙ list_is h
