use Rattle.std.proofs.Common.{arith, ◌≡◌, subst, List, Result, Err}
use Rattle.std.proofs.lemmas.Grind.{common_steps}
use Rattle.cs_base.specs.{Lines.excerpt, declared.fault.Or.Or, declared.fault.OrcFault.OrcFault}
use Rattle.cs_lex.specs.{declared.token.Token.Token, Lexed.LexFault}
use Rattle.cs_lex.proofs.Reading.{at_line, next_within, next_piece, next_fault}
use Rattle.cs_base.specs.declared.fault.Or.TheVariants as or
use Rattle.cs_lex.proofs.lexer.read.Goals as goal

abbrev refused : OrcFault → Result (List Token) (Or OrcFault)
refused f = Err (or.Fault f)

same_fault : (f g : OrcFault) → refused f ≡ refused g → f ≡ g
same_fault f g e = cc

pub loop-at-preserved : goal.loop-at-preserved
loop-at-preserved c = grind (arith, common_steps, at_line, next_piece, next_within)

pub returns-in-Err-clause-fault : goal.returns-in-Err-clause-fault
returns-in-Err-clause-fault c =
    let source = c.args.source.now in
    let first = c.args.first_line in
    λ f e. subst (λ g. LexFault (excerpt first source) g.line g.kind)
    (same_fault (record { line = c.loop-at.line; kind = c.in-Err.kind }) f e)
    (next_fault first source c.loop-at.at c.loop-at.line c.loop-at.fed c.loop-at.tokens c.in-Err.kind
    c.loop-at-test.true c.loop-at.invariant.read c.in-Err.ensures.value)
