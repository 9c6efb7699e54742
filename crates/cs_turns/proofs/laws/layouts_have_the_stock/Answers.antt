use Rattle.cs_turns.specs.Turns.{live_tables}
use Rattle.cs_turns.proofs.Stocks.{stock_is}
use Rattle.cs_turns.proofs.laws.layouts_have_the_stock.Goals as goal

pub returns : goal.returns
returns c = λ o ksmps names. stock_is o ksmps names
    (c.layouts_are_complete.ensures.spaces ksmps names o.spaces (live_tables o.tables))
