use Rattle.std.proofs.Common.{Err, refl, sym, subst}
use Rattle.cs_grammar.proofs.Gives.{failed, followed, unpassed, valued}
use Rattle.cs_grammar.proofs.{StmtRules.stmts_in, OrcRules.instr_body_is, OrcRules.instr_body_open}
use Rattle.cs_grammar.specs.{Tree.block, declared.tree.OrcStmt.OrcStmt, inner.Answers.IsInstrBody}
use Rattle.std.specs.Global.{Vec}
use Rattle.cs_grammar.proofs.parser.Parser.instr_body.Goals as goal

pub returns-in_err-body : goal.returns-in_err-body
returns-in_err-body c =
    failed stmts_in stmts_in _ _ _ _ _ _ c.from_residual.ensures.1 c.in_err-body.ensures.reads (λ f h. (Err f, h, refl))

pub returns-in_err-body-2 : goal.returns-in_err-body-2
returns-in_err-body-2 c =
    unpassed (Vec OrcStmt) stmts_in _ _ _ _ _ _ c.from_residual-in_err-body-2.ensures.1 c.in_err-body-2.ensures.passes
    (λ f p. instr_body_open c.args.defined.now (block c.in_ok-body.body.items) c.block.new.self f
    c.in_ok-body.ensures.reads p)

pub returns : goal.returns
returns c =
    followed stmts_in c.ended.result c.in_ok-body-2.body _ _ _ c.ended.ensures.value c.ended.ensures.passes
    (λ st p. subst (λ v. IsInstrBody c.args.scope.now c.args.defined.now c.args.self.now (valued (stmts_in v) st))
    (sym c.in_ok-body-2.ensures.value)
    (instr_body_is c.args.defined.now (block c.in_ok-body.body.items) c.block.new.self c.followed.new.self st
    c.in_ok-body.ensures.reads
    c.in_ok-body-2.ensures.passes (rw c.outside.ensures at p)))
