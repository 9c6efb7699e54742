use Rattle.std.proofs.Common.{◌≡◌, ◌∙◌, false, sym}
use Rattle.cs_grammar.proofs.{Names.seen_new, Shorter.definition_shorter}
use Rattle.cs_grammar.proofs.OrcRules.{failed_on, no_definition, heading_read, definition_fails, definition_added}
use Rattle.cs_grammar.specs.{Headings.Heading, Tree.definition}
use Rattle.cs_words.specs.NameSets.{has}
use Rattle.cs_grammar.proofs.parser.Parser.add_definition.Goals as goal

pub returns-in_err-heading-clause-reads : goal.returns-in_err-heading-clause-reads
returns-in_err-heading-clause-reads c = λ first s.
    failed_on (λ (h : Heading). h) _ _ _ _ _ _ c.from_residual.ensures.1 c.in_err-heading.ensures.reads
    (λ f h. definition_fails first c.args.self.now c.args.draft.now.defined c.args.draft.now.given.keys
    c.args.draft.now.orc s f c.requires
    (no_definition c.args.draft.now.defined c.args.self.now c.in_definition.result f
    (rw c.as_slice.ensures at c.in_definition.ensures) h))

pub returns-in_err-udo-clause-reads : goal.returns-in_err-udo-clause-reads
returns-in_err-udo-clause-reads c = λ first s.
    failed_on definition _ _ _ _ _ _ c.from_residual-in_err-udo.ensures.1 c.in_err-udo.ensures.reads
    (λ f k. definition_fails first c.args.self.now c.args.draft.now.defined c.args.draft.now.given.keys
    c.args.draft.now.orc s f c.requires
    (k c.args.self.now (heading_read c.args.draft.now.defined c.args.self.now c.heading.new.self c.in_ok-heading.heading
    c.in_definition.result
    (rw c.as_slice.ensures at c.in_definition.ensures) c.in_ok-heading.ensures.reads)))

pub returns-clause-reads : goal.returns-clause-reads
returns-clause-reads c = λ first s.
    let reads = c.in_ok-udo.ensures.reads c.args.self.now
    (heading_read c.args.draft.now.defined c.args.self.now c.heading.new.self
    c.in_ok-heading.heading c.in_definition.result (rw c.as_slice.ensures at c.in_definition.ensures)
    c.in_ok-heading.ensures.reads) in
    let fresh : has c.args.draft.now.defined c.name-name.result.now ≡ false =
    rw c.name-name.ensures (rw c.in_definition.ensures at c.in_ok-heading.ensures.fresh) in
    let names = c.in_ok-add.ensures.ok
    ∙ seen_new c.args.draft.now.defined _ _ fresh (c.name-name.ensures ∙ sym c.in_ok-udo.ensures.name) in
    definition_added first _ _ _ c.args.draft.now.orc s c.in_ok-udo.udo _ _ _ c.in_ok-push.ensures.items names
    c.requires reads

pub returns-clause-goes : goal.returns-clause-goes
returns-clause-goes c =
    definition_shorter c.args.draft.now.defined c.args.self.now (definition c.in_ok-udo.udo) c.under.new.self
    (c.in_ok-udo.ensures.reads c.args.self.now (heading_read c.args.draft.now.defined c.args.self.now c.heading.new.self
    c.in_ok-heading.heading c.in_definition.result (rw c.as_slice.ensures at c.in_definition.ensures)
    c.in_ok-heading.ensures.reads))
