use Rattle.std.proofs.Common.{◌≡◌, ◌∙◌, true, arith, length, ap, sym}
use Rattle.cs_grammar.proofs.{Sizes.after_size, Steps.few_words, Steps.past_comma}
use Rattle.cs_grammar.specs.Reading.{next_is}
use Rattle.cs_grammar.specs.Symbols.{after}
use Rattle.cs_grammar.proofs.parser.Parser.+count_words.Goals as goal
use Rattle.cs_grammar.specs.declared.symbol.Expected.TheVariants as expected

pub count_words-requires : goal.count_words-requires
count_words-requires t c =
    let comma : next_is expected.Comma (after c.args.self.now) ≡ true =
    rw c.skip.ensures at (sym c.next_is-2.ensures ∙ c.if-not-next_is.false) in
    omega (
      arith,
      c.requires,
      ap length c.skip-2.ensures,
      ap (λ ts. length (after ts)) c.skip.ensures,
      past_comma c.args.self.now comma,
    )

pub plus_one-requires : goal.plus_one-requires
plus_one-requires t c =
    few_words c.args.scope.now c.skip-2.new.self c.count_words.result c.count_words.ensures
    (omega (
      arith,
      c.requires,
      ap length c.skip.ensures,
      ap length c.skip-2.ensures,
      after_size c.args.self.now,
      after_size c.skip.new.self,
    ))
