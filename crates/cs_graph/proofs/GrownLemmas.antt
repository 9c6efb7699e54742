-- The graph after all notes have been added.
use Rattle.std.proofs.Common.{List, length, ◌≤◌, arith}
use Rattle.cs_base.specs.Limits.{most_notes}
use Rattle.cs_cells.specs.declared.footprint.Footprint.{Footprint}
use Rattle.cs_graph.proofs.ConflictLemmas.{levelled_known, IsLevel-levelled, IsFit-drawn}
use Rattle.cs_graph.specs.Graph.{IsGraphOf, IsFit, IsLevelled}
use Rattle.cs_graph.specs.{inner.Growing.IsGrown, inner.Index.AreEnds, declared.growing.Growing.Growing}

module _ (feet : List Footprint) (g : Growing) (r : IsGrown feet (length feet) g) where
  pub grown_levelled : IsLevelled feet g.levels.items
  grown_levelled = levelled_known feet g.known.items g.levels.items r.known r.level

  pub grown_fit : IsFit feet g.edges.items
  grown_fit = IsFit-drawn feet (length feet) g.edges.items (omega arith) r.drawn

  pub grown_graph : IsGraphOf feet (record { edges = g.edges.items; levels = g.levels.items })
  grown_graph = record {
    notes = r.levels;
    near = λ p t. (λ h. (r.drawn.each p t h).1, λ n. r.drawn.near p t n.conflict.within n);
    ordered = r.ordered;
    level = λ t within. IsLevel-levelled feet g.levels.items grown_levelled t within;
  }

  pub grown_ends : length feet ≤ most_notes → AreEnds g.edges.items g.levels.items g.into.items
  grown_ends few = record {
    forward = λ e p t h. let w = r.drawn.each p t (e, h) in (w.1.conflict.earlier, omega (arith, w.0, r.levels));
    ordered = r.ordered;
    each = omega (arith, r.levels, r.into);
    ranges = λ t low. r.ranges t (omega (arith, low, r.into));
    notes = omega (arith, few, r.levels);
    few = omega (arith, r.few, few);
  }
