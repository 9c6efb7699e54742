-- The grammar, with one case for each rule. Each relation is between the remaining symbols of a text and
-- their reading: a tree with the symbols that remain after it, or the first fault. After a fault, nothing
-- further is read.
use Rattle.std.specs.Prelude.{ℕ, Bool, true, false, List, [], ◌∷◌, ◌≡◌, ◌||◌, nat_lt, if◌then◌else◌, Some, None, Ok}
use Rattle.std.specs.Prelude.{Err}
use Rattle.cs_base.specs.declared.fault.OrcFault.{OrcFault}
use Rattle.cs_words.specs.{declared.sign.BinOp.BinOp, declared.word.Func.Func}
use Rattle.cs_grammar.specs.{declared.lists.Role.Role, declared.scope.Place.Place, declared.expr.Level.Level}
use Rattle.cs_grammar.specs.Tree.{Expression, var, neg, pair, pick, apply, Argument, value, text, Statement, set, call}
use Rattle.cs_grammar.specs.Tree.{choose, Block, no_stmt, andthen, Arms, otherwise, arm}
use Rattle.cs_grammar.specs.Reading.{Left, Reading, left, mapped, both, three, skip, next_is, meets, Scope, deeper}
use Rattle.cs_grammar.specs.Reading.{fault, misfit, through, ended}
use Rattle.cs_grammar.specs.Parts.{tighter, repeats, operator, part_form, atom}
use Rattle.cs_grammar.specs.Lines.{line_form, target, ReadsTargets, operation}
use Rattle.cs_grammar.specs.{declared.symbol.Kind.Kind, Kinds.is, Kinds.ends_line}
use Rattle.cs_grammar.specs.Symbols.{Symbol, next, after}
use Rattle.cs_base.specs.declared.fault.OrcKind.TheVariants as orc
use Rattle.cs_words.specs.declared.sign.BinOp.TheVariants as op
use Rattle.cs_words.specs.declared.sign.Sign.TheVariants as sign
use Rattle.cs_grammar.specs.declared.symbol.Kind.TheVariants as kind
use Rattle.cs_grammar.specs.declared.symbol.Expected.TheVariants as expected
use Rattle.cs_grammar.specs.declared.lists.Role.TheVariants as role
use Rattle.cs_grammar.specs.declared.scope.Place.TheVariants as place
use Rattle.cs_grammar.specs.declared.expr.Level.TheVariants as level
use Rattle.cs_grammar.specs.declared.expr.PartForm.TheVariants as part
use Rattle.cs_grammar.specs.declared.stmt.LineForm.TheVariants as form

-- An expression of a level: `expr`, `and`, `cmp`, `sum` and `term` by their operators, and `fact` by its
-- first symbols.
mutual
  pub data ReadsExpr (s : Scope) : Level → Left → Reading Expression → Type 0 where
    binary : {l m : Level} {st : Left} {o out : Reading Expression} → tighter l ≡ Some m
        → ReadsExpr s m st o → ReadsTail s l o out → ReadsExpr s l st out
    expr_stop : {f : OrcFault} → ReadsExpr s level.Fact (Err f) (Err f)
    fact_neg : {ts : List Symbol} {o : Reading Expression} → part_form ts ≡ part.Minus
        → ReadsExpr s level.Fact (Ok (after ts)) o → ReadsExpr s level.Fact (Ok ts) (mapped neg o)
    fact_call : {ts : List Symbol} {f : Func} {o : Reading Expression} → part_form ts ≡ part.Function f
        → ReadsExpr s level.Expr (Ok (after (after ts))) o
        → ReadsExpr s level.Fact (Ok ts) (through s expected.Close (mapped (apply f) o))
    fact_group : {ts : List Symbol} {o : Reading Expression} → part_form ts ≡ part.Bracket
        → ReadsExpr s level.Expr (Ok (after ts)) o → meets expected.Question (left o) ≡ false
        → ReadsExpr s level.Fact (Ok ts) (through s expected.Close o)
    fact_pick : {ts : List Symbol} {c a b : Reading Expression} → part_form ts ≡ part.Bracket
        → ReadsExpr s level.Expr (Ok (after ts)) c → meets expected.Question (left c) ≡ true
        → ReadsExpr s level.Expr (skip (left c)) a → ReadsExpr s level.Expr (left (through s expected.Colon a)) b
        → ReadsExpr s level.Fact (Ok ts) (through s expected.Close (three pick c a b))
    fact_alone : {ts : List Symbol} → part_form ts ≡ part.Alone → ReadsExpr s level.Fact (Ok ts) (atom s ts)

  -- the operators of a level and their right sides, grouped to the left
  pub data ReadsTail (s : Scope) : Level → Reading Expression → Reading Expression → Type 0 where
    no_more : {l : Level} {o : Reading Expression} → operator l (left o) ≡ None → ReadsTail s l o o
    one_more : {l m : Level} {op : BinOp} {o b out : Reading Expression} → operator l (left o) ≡ Some op
        → repeats l ≡ true → tighter l ≡ Some m → ReadsExpr s m (skip (left o)) b
        → ReadsTail s l (both (pair op) o b) out → ReadsTail s l o out
    one_alone : {l m : Level} {op : BinOp} {o b : Reading Expression} → operator l (left o) ≡ Some op
        → repeats l ≡ false → tighter l ≡ Some m → ReadsExpr s m (skip (left o)) b
        → ReadsTail s l o (both (pair op) o b)

-- arg: a text can't be a result of a definition
pub data ReadsArg (s : Scope) : Role → List Symbol → Reading Argument → Type 0 where
  arg_text : {ts : List Symbol} → next_is expected.Text ts ≡ true
      → ReadsArg s role.Argument ts (Ok (text (next ts).text, after ts))
  text_result : {ts : List Symbol} → next_is expected.Text ts ≡ true
      → ReadsArg s role.Result ts (Err (fault ts orc.XinXout))
  arg_value : {r : Role} {ts : List Symbol} {o : Reading Expression} → next_is expected.Text ts ≡ false
      → ReadsExpr s level.Expr (Ok ts) o → ReadsArg s r ts (mapped value o)

-- args: arguments or results, at least one
pub data ReadsList (s : Scope) (r : Role) : Left → Reading (List Argument) → Type 0 where
  list_stop : {f : OrcFault} → ReadsList s r (Err f) (Err f)
  list_last : {ts : List Symbol} {o : Reading Argument} → ReadsArg s r ts o → meets expected.Comma (left o) ≡ false
      → ReadsList s r (Ok ts) (mapped (λ a. a ∷ []) o)
  list_more : {ts : List Symbol} {o : Reading Argument} {out : Reading (List Argument)} → ReadsArg s r ts o
      → meets expected.Comma (left o) ≡ true → ReadsList s r (skip (left o)) out
      → ReadsList s r (Ok ts) (both ◌∷◌ o out)

-- [ args ]: the arguments up to the end of the line; there may be none
pub data ReadsArgs (s : Scope) : Left → Reading (List Argument) → Type 0 where
  args_stop : {f : OrcFault} → ReadsArgs s (Err f) (Err f)
  args_none : {ts : List Symbol} → ends_line (next ts).kind ≡ true → ReadsArgs s (Ok ts) (Ok ([], ts))
  args_some : {ts : List Symbol} {out : Reading (List Argument)} → ends_line (next ts).kind ≡ false
      → ReadsList s role.Argument (Ok ts) out → ReadsArgs s (Ok ts) out

-- whether a symbol ends the statements of an instrument or a definition
abbrev pub ends_part : Place → Kind → Bool
ends_part place.Outside k = false
ends_part place.Instrument k = is expected.Endin k
ends_part place.Definition k = is expected.Endop k || is expected.Xout k

-- whether a symbol ends the statements of an `if`, an instrument or a definition
abbrev pub ends_block : Scope → Kind → Bool
ends_block s k =
    if nat_lt 0 s.depth then is expected.Elseif k || is expected.Else k || is expected.Endif k else ends_part s.place k

-- `name = expr`; `name += expr` is `name = name + expr`
abbrev pub assign : ℕ → Kind → List ℕ → Expression → Statement
assign line (kind.Sign sign.PlusEquals) name e = set line name (pair op.Add (var name) e)
assign line _ name e = set line name e

-- stmt, and the statements and arms in it
mutual
  pub data ReadsStmt : Scope → List Symbol → Reading Statement → Type 0 where
    stmt_assign : {s : Scope} {ts : List Symbol} {e : Reading Expression} → line_form s ts ≡ form.Assignment
        → ReadsExpr s level.Expr (skip (left (target s ts))) e
        → ReadsStmt s ts (ended s (both (assign (next ts).line (next (after ts)).kind) (target s ts) e))
    stmt_results : {s : Scope} {ts : List Symbol} {names : Reading (List (List ℕ))} {args : Reading (List Argument)}
        → line_form s ts ≡ form.Results → ReadsTargets s ts names → ReadsArgs s (left (operation s (left names))) args
        → ReadsStmt s ts (ended s (three (call (next ts).line) names (operation s (left names)) args))
    stmt_bare : {s : Scope} {ts : List Symbol} {args : Reading (List Argument)} → line_form s ts ≡ form.Bare
        → ReadsArgs s (left (operation s (Ok ts))) args
        → ReadsStmt s ts (ended s (both (call (next ts).line []) (operation s (Ok ts)) args))
    stmt_if : {s : Scope} {ts : List Symbol} {chain : Reading Arms} → line_form s ts ≡ form.Conditional
        → ReadsArms (deeper s) (Ok (after ts)) chain
        → ReadsStmt s ts (ended s (mapped (choose (next ts).line) chain))
    stmt_beyond : {s : Scope} {ts : List Symbol} → line_form s ts ≡ form.Beyond
        → ReadsStmt s ts (Err (fault ts orc.NotInProfile))
    stmt_misplaced : {s : Scope} {ts : List Symbol} → line_form s ts ≡ form.Misplaced
        → ReadsStmt s ts (Err (misfit s orc.Unexpected ts))

  -- { stmt }: statements, up to the symbol that ends them
  pub data ReadsBlock : Scope → Left → Reading Block → Type 0 where
    block_stop : {s : Scope} {f : OrcFault} → ReadsBlock s (Err f) (Err f)
    block_end : {s : Scope} {ts : List Symbol} → ends_block s (next ts).kind ≡ true
        → ReadsBlock s (Ok ts) (Ok (no_stmt, ts))
    block_more : {s : Scope} {ts : List Symbol} {o : Reading Statement} {out : Reading Block}
        → ends_block s (next ts).kind ≡ false → ReadsStmt s ts o → ReadsBlock s (left o) out
        → ReadsBlock s (Ok ts) (both andthen o out)

  -- after `if` or `elseif`: expr "then" NewLine { stmt }, and the rest of the `if`
  pub data ReadsArms : Scope → Left → Reading Arms → Type 0 where
    arm_more : {s : Scope} {st : Left} {c : Reading Expression} {body : Reading Block} {rest : Reading Arms}
        → ReadsExpr s level.Expr st c → ReadsBlock s (left (ended s (through s expected.Then c))) body
        → ReadsMore s (left body) rest → ReadsArms s st (three arm c body rest)

  -- { "elseif" .. } [ "else" NewLine { stmt } ] "endif"
  pub data ReadsMore : Scope → Left → Reading Arms → Type 0 where
    more_stop : {s : Scope} {f : OrcFault} → ReadsMore s (Err f) (Err f)
    more_elseif : {s : Scope} {ts : List Symbol} {out : Reading Arms} → next_is expected.Elseif ts ≡ true
        → ReadsArms s (Ok (after ts)) out → ReadsMore s (Ok ts) out
    more_else : {s : Scope} {ts : List Symbol} {body : Reading Block} → next_is expected.Elseif ts ≡ false
        → next_is expected.Else ts ≡ true → ReadsBlock s (left (ended s (Ok (no_stmt, after ts)))) body
        → ReadsMore s (Ok ts) (through s expected.Endif (mapped otherwise body))
    more_endif : {s : Scope} {ts : List Symbol} → next_is expected.Elseif ts ≡ false
        → next_is expected.Else ts ≡ false
        → ReadsMore s (Ok ts) (through s expected.Endif (Ok (otherwise no_stmt, ts)))
