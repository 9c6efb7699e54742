use Rattle.cs_ir.specs.Resources.{places_of}
use Rattle.cs_rwset.specs.{declared.runs.Runs.Runs, inner.Runs.AreInOrder, inner.Runs.Finds, inner.Runs.begin_of}
use Rattle.cs_rwset.proofs.{Footed.few_areas, Spans.of_each}
use Rattle.cs_rwset.proofs.runs.Runs.of.Goals as goal

pub returns : goal.returns
returns c =
    let spaces = c.spaces_of-spaces.result in
    let runs : Runs = record {
      spaces = spaces;
      tables = c.find_tables.result;
      control = c.find_places.result;
      audio = c.find_places-2.result;
    } in
    record {
      few = few_areas c.args.layout.now c.words.ensures.within;
      spaces = c.spaces_of-spaces.ensures;
      tables = c.find_tables.ensures;
      places = of_each (λ s. Finds (AreInOrder c.args.layout.now s (places_of spaces s)) (begin_of runs s))
          c.find_places.ensures c.find_places-2.ensures;
    }
