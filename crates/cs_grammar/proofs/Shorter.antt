-- Every item outside instruments and definitions uses at least one symbol.
use Rattle.std.proofs.Common.{◌≡◌, ◌<◌, ◌≤◌, ℕ, List, length, Ok, arith, subst, sym}
use Rattle.cs_words.specs.declared.word.HeadName.{HeadName}
use Rattle.cs_grammar.specs.{declared.tree.HeadLine.HeadLine, Grammar.ReadsStmt, Lines.header_line}
use Rattle.cs_grammar.specs.{Orchestra.ReadsDefinition, Orchestra.ReadsInstr, Reading.Scope, Reading.left}
use Rattle.cs_grammar.specs.Tree.{Definition, Instrument, Statement}
use Rattle.cs_grammar.specs.Symbols.{Symbol}
use Rattle.cs_grammar.proofs.{Sizes.size, OneStmt.stmt_less, OneStmt.stmt_is}
use Rattle.cs_grammar.proofs.OneOrc.{header_less, instr_less, instr_is, definition_less, definition_is}

pub header_shorter : (s : Scope) (h : HeadName) (ts : List Symbol) (x : HeadLine) (rest : List Symbol)
    → Ok (x, rest) ≡ header_line s h ts
    → length rest < length ts
header_shorter s h ts x rest e =
    let k : size (Ok rest) ≤ length ts = subst (λ o. size (left o) ≤ length ts) (sym e) (header_less s h ts) in
    omega (arith, k)

pub instr_shorter : (d : List (List ℕ)) (g : List ℕ) (ts : List Symbol) (x : Instrument) (rest : List Symbol)
    → ReadsInstr d g ts (Ok (x, rest))
    → length rest < length ts
instr_shorter d g ts x rest h =
    let k : size (Ok rest) ≤ length ts = subst (λ o. size (left o) ≤ length ts) (instr_is h) (instr_less d g ts) in
    omega (arith, k)

pub definition_shorter : (d : List (List ℕ)) (ts : List Symbol) (x : Definition) (rest : List Symbol)
    → ReadsDefinition d ts (Ok (x, rest))
    → length rest < length ts
definition_shorter d ts x rest h =
    let k : size (Ok rest) ≤ length ts =
    subst (λ o. size (left o) ≤ length ts) (definition_is h) (definition_less d ts) in
    omega (arith, k)

pub line_shorter : (s : Scope) (ts : List Symbol) (x : Statement) (rest : List Symbol) → ReadsStmt s ts (Ok (x, rest))
    → length rest < length ts
line_shorter s ts x rest h =
    let k : size (Ok rest) ≤ length ts = subst (λ o. size (left o) ≤ length ts) (stmt_is h) (stmt_less s ts) in
    omega (arith, k)
