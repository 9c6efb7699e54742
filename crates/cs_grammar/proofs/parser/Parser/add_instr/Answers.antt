use Rattle.cs_grammar.proofs.{OrcRules.failed_on, OrcRules.instr_fails, OrcRules.instr_added, Shorter.instr_shorter}
use Rattle.cs_grammar.specs.Tree.{instrument}
use Rattle.cs_grammar.proofs.parser.Parser.add_instr.Goals as goal

pub returns-in_err-instr-clause-reads : goal.returns-in_err-instr-clause-reads
returns-in_err-instr-clause-reads c = λ first s.
    failed_on instrument _ _ _ _ _ _ c.from_residual.ensures.1 c.in_err-instr.ensures.reads
    (λ f h. instr_fails first c.args.self.now c.args.draft.now.defined c.args.draft.now.given.keys
    c.args.draft.now.orc s f c.requires h)

pub returns-clause-reads : goal.returns-clause-reads
returns-clause-reads c = λ first s.
    instr_added first _ _ _ c.args.draft.now.orc s c.in_ok-instr.instr _ _ _ c.in_ok-push.ensures.items
    c.in_ok-instr.ensures.given c.requires c.in_ok-instr.ensures.reads

pub returns-clause-goes : goal.returns-clause-goes
returns-clause-goes c =
    instr_shorter c.args.draft.now.defined c.args.draft.now.given.keys c.args.self.now (instrument c.in_ok-instr.instr)
    c.instr.new.self c.in_ok-instr.ensures.reads
