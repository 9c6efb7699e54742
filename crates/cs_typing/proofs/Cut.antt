-- Statements cut at the line of an instrument, and the parts of an orchestra, one after another.
use Rattle.std.proofs.Common.{◌≡◌, ◌∙◌, ◌+◌, ◌<◌, ℕ, suc, Bool, true, false, List, [], ◌∷◌, map, take, drop, cond}
use Rattle.std.proofs.Common.{length, nat_lt, get_or, if◌then◌else◌, refl, sym, ap, arith}
use Rattle.std.specs.List.{prefix_len}
use Rattle.cs_grammar.specs.{declared.tree.Instr.Instr, declared.tree.OrcStmt.OrcStmt, declared.tree.StmtWhat.StmtWhat}
use Rattle.cs_grammar.specs.declared.tree.StmtWhat.TheVariants.{Set, Call, Choose'}
use Rattle.cs_udo.proofs.Places.{dropped}
use Rattle.cs_typing.specs.Typing.{line_of, before, from, alone, body, items}
use Rattle.cs_grammar.specs.Tree as tree

line_of_what : (line : ℕ) (w : StmtWhat) → line_of (tree.of_what line w) ≡ line
line_of_what line (Set name e) = refl
line_of_what line (Call results opcode args) = refl
line_of_what line (Choose' s a t b) = refl

line_is : (s : OrcStmt) → line_of (tree.statement s) ≡ s.line
line_is s = line_of_what s.line s.what

abbrev in_front : ℕ → OrcStmt → Bool
in_front line s = nat_lt s.line line

before_is : (line : ℕ) (xs : List OrcStmt)
    → tree.block (take (prefix_len (in_front line) xs) xs) ≡ before line (tree.block xs)
before_is line [] = refl
before_is line (s ∷ ss) =
    by (nat_lt s.line line) (before_is line ss)
    ∙ sym (ap (λ k. if nat_lt k line then tree.andthen (tree.statement s) (before line (tree.block ss)) else
    tree.no_stmt) (line_is s))
  where
    by : (b : Bool) → tree.block (take (prefix_len (in_front line) ss) ss) ≡ before line (tree.block ss)
        → tree.block (take (cond b (1 + prefix_len (in_front line) ss) 0) (s ∷ ss))
        ≡ (if b then tree.andthen (tree.statement s) (before line (tree.block ss)) else tree.no_stmt)
    by true e =
        let more : 1 + prefix_len (in_front line) ss ≡ suc (prefix_len (in_front line) ss) = omega arith in
        ap (λ j. tree.block (take j (s ∷ ss))) more ∙ ap (λ r. tree.andthen (tree.statement s) r) e
    by false e = refl

from_is : (line : ℕ) (xs : List OrcStmt)
    → tree.block (drop (prefix_len (in_front line) xs) xs) ≡ from line (tree.block xs)
from_is line [] = refl
from_is line (s ∷ ss) =
    by (nat_lt s.line line) (from_is line ss)
    ∙ sym (ap (λ k. if nat_lt k line then from line (tree.block ss) else tree.andthen (tree.statement s)
    (tree.block ss)) (line_is s))
  where
    by : (b : Bool) → tree.block (drop (prefix_len (in_front line) ss) ss) ≡ from line (tree.block ss)
        → tree.block (drop (cond b (1 + prefix_len (in_front line) ss) 0) (s ∷ ss))
        ≡ (if b then from line (tree.block ss) else tree.andthen (tree.statement s) (tree.block ss))
    by true e =
        let more : 1 + prefix_len (in_front line) ss ≡ suc (prefix_len (in_front line) ss) = omega arith in
        ap (λ j. tree.block (drop j (s ∷ ss))) more ∙ e
    by false e = refl

-- the parts from an instrument on: the statements before it, the instrument, and the parts after it
pub cut : (stmts front back : List OrcStmt) (list : List Instr) (k : ℕ) (i : Instr) (n : ℕ) → k < length list
    → i ≡ get_or list k i
    → n ≡ prefix_len (λ s. nat_lt s.line i.line) stmts → front ≡ take n stmts → back ≡ drop n stmts
    → items (tree.block stmts) (map tree.instrument (drop k list)) ≡ alone (tree.block front)
    ∷ body (tree.instrument i) ∷ items (tree.block back) (map tree.instrument (drop (k + 1) list))
cut stmts front back list k i n low at count f b =
    let rest = map tree.instrument (drop (k + 1) list) in
    let head_is : tree.block front ≡ before i.line (tree.block stmts) =
    ap tree.block f ∙ ap (λ m. tree.block (take m stmts)) count ∙ before_is i.line stmts in
    let tail_is : tree.block back ≡ from i.line (tree.block stmts) =
    ap tree.block b ∙ ap (λ m. tree.block (drop m stmts)) count ∙ from_is i.line stmts in
    ap (λ xs. items (tree.block stmts) (map tree.instrument xs)) (dropped list k i low at)
    ∙ sym (ap (λ x. alone x ∷ body (tree.instrument i) ∷ items (from i.line (tree.block stmts)) rest) head_is)
    ∙ sym (ap (λ x. alone (tree.block front) ∷ body (tree.instrument i) ∷ items x rest) tail_is)

-- the last part
pub last : (stmts : List OrcStmt) (list : List Instr) → list ≡ []
    → items (tree.block stmts) (map tree.instrument list) ≡ alone (tree.block stmts) ∷ []
last stmts list e = ap (λ xs. items (tree.block stmts) (map tree.instrument xs)) e
