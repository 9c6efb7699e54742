-- Tables that the events of a plot define under one number have the same size, because the statements of its
-- score have.
use Rattle.std.proofs.Common.{◌≡◌, ℕ, ◌+◌, ℤ, List, [], ◌∷◌, ◌++◌, map, Option, refl, sym}
use Rattle.std.specs.List.{All, AllByRecursion as Each}
use Rattle.std.proofs.lemmas.List.Elements.{All-contains, All-from_recursion, recursion_from_All}
use Rattle.cs_base.specs.declared.head.Head.{Head}
use Rattle.cs_score.specs.{Sizes.HaveOneSize, Sizes.IsOneSize, declared.statement.ScoreStmt.ScoreStmt}
use Rattle.cs_score.specs.declared.statement.ScoreWhat.{ScoreWhat}
use Rattle.cs_score.specs.declared.statement.ScoreWhat.TheVariants.{Note, Hold, Stop, Table, Extend, Tempo, Section}
use Rattle.cs_piece.specs.{Compositions.Given, Compositions.given_by, Compositions.given_in, Setups.AreOfOneSize}
use Rattle.cs_tempo.specs.{declared.plot.Event.Event, Order.in_order, Pairing.stop_of}
use Rattle.cs_tempo.specs.Plot.{SectionSetting, acts_of, events_along, events_at, events_from, plot_of, setting_of}
use Rattle.cs_tempo.specs.Sections.{length_of, sections_of}
use Rattle.cs_tempo.proofs.Elements.{each_append, each_more, in_order_each, sections_each}

each_both : {X : Type 0} (P Q : X → Type 0) (xs : List X) → Each P xs → Each Q xs → Each (λ x. P x × Q x) xs
each_both P Q [] d e = tt
each_both P Q (x ∷ xs) d e = ((d.0, e.0), each_both P Q xs d.1 e.1)

each_parts : {X : Type 0} (P : X → Type 0) (xs ys : List X) → Each P (xs ++ ys) → Each P xs × Each P ys
each_parts P [] ys d = (tt, d)
each_parts P (x ∷ xs) ys d = let parts = each_parts P xs ys d.1 in ((d.0, parts.0), parts.1)

-- WHAT HOLDS FOR EACH STATEMENT holds for each table that an event defines

module _ (P : ScoreWhat → Type 0) (Q : Given → Type 0)
    (gives : (number at : ℕ) (size gen : ℤ) (args : List ℤ) → P (Table number at size gen args)
    → Q (record { number = number; size = size; gen = gen; args = args })) where
  -- the same for a turn with its events
  turn_each : (set : SectionSetting) (stop : Option ℕ) (at line : ℕ) (w : ScoreWhat) → P w
      → Each Q (given_in (map (λ what. record { cycle = at; line = line; act = what }) (acts_of set stop w)))
  unfolding acts_of
  turn_each set stop cycle line (Table number at size gen args) p = (gives number at size gen args p, tt)
  turn_each set stop cycle line _ p = tt

  given_append : (xs ys : List Event) → Each Q (given_in xs) → Each Q (given_in ys) → Each Q (given_in (xs ++ ys))
  given_append [] ys d e = e
  given_append (x ∷ xs) ys d e =
      let parts = each_parts Q (given_by x.act) (given_in xs) d in
      each_append Q (given_by x.act) (given_in (xs ++ ys)) parts.0 (given_append xs ys parts.1 e)

  along_each : (set : SectionSetting) (earlier ss : List ScoreStmt) → Each (λ (s : ScoreStmt). P s.what) ss
      → Each Q (given_in (events_along set earlier ss))
  unfolding events_along
  along_each set earlier [] e = tt
  along_each set earlier (s ∷ ss) e =
      given_append (events_at set (stop_of earlier ss s) s) (events_along set (s ∷ earlier) ss)
      (turn_each set (stop_of earlier ss s) _ s.line s.what e.0) (along_each set (s ∷ earlier) ss e.1)

  from_each : (head : Head) (offset : ℕ) (sections : List (List ScoreStmt))
      → Each (Each (λ (s : ScoreStmt). P s.what)) sections
      → Each Q (given_in (events_from head offset sections))
  unfolding events_from
  from_each head offset [] e = tt
  from_each head offset (section ∷ others) e =
      given_append (events_along (setting_of head offset section) [] (in_order section))
      (events_from head (offset + length_of head section) others)
      (along_each (setting_of head offset section) [] (in_order section)
      (in_order_each (λ (s : ScoreStmt). P s.what) section e.0))
      (from_each head (offset + length_of head section) others e.1)

  plot_each : (head : Head) (score : List ScoreStmt) → Each (λ (s : ScoreStmt). P s.what) score
      → All Q (given_in (plot_of head score).events)
  plot_each head score e =
      All-from_recursion Q (given_in (plot_of head score).events)
      (from_each head 0 (sections_of score) (sections_each (λ (s : ScoreStmt). P s.what) score e))

-- ANY TWO STATEMENTS of a score have the same size, whichever comes first

other_way : (v w : ScoreWhat) → IsOneSize w v → IsOneSize v w
other_way (Table number at size gen args) (Table number' at' size' gen' args') h = λ e. sym (h (sym e))
other_way _ _ h = tt

same_way : (w : ScoreWhat) → IsOneSize w w
same_way (Table number at size gen args) = λ e. refl
same_way _ = tt

-- a statement has the same size as all of these
abbrev Agrees : List ScoreStmt → ScoreWhat → Type 0
Agrees score w = Each (λ (u : ScoreStmt). IsOneSize w u.what) score

all_agree : (score : List ScoreStmt) → HaveOneSize score → Each (λ (s : ScoreStmt). Agrees score s.what) score
all_agree [] h = tt
all_agree (s ∷ later) h =
    let each : Agrees later s.what = recursion_from_All (λ (u : ScoreStmt). IsOneSize s.what u.what) later h.0 in (
      (same_way s.what, each),
      each_both (λ (u : ScoreStmt). IsOneSize u.what s.what) (λ (u : ScoreStmt). Agrees later u.what) later
          (each_more (λ (u : ScoreStmt). IsOneSize s.what u.what) (λ (u : ScoreStmt). IsOneSize u.what s.what) later
          (λ u. other_way u.what s.what) each)
          (all_agree later h.1),
    )

-- THE TABLES of a plot

-- a table as the statement that would define it
abbrev as_statement : Given → ScoreWhat
as_statement g = Table g.number 0 g.size g.gen g.args

pub sizes_kept : (head : Head) (score : List ScoreStmt) → HaveOneSize score → AreOfOneSize (plot_of head score).events
sizes_kept head score one g h in_g in_h =
    let agree : Agrees score (as_statement g) =
    All-contains (λ x. Agrees score (as_statement x)) (given_in (plot_of head score).events) g
    (plot_each (Agrees score) (λ x. Agrees score (as_statement x)) (λ number at size gen args a. a) head score
    (all_agree score one)) in_g in
    All-contains (λ (x : Given). g.number ≡ x.number → g.size ≡ x.size) (given_in (plot_of head score).events) h
    (plot_each (IsOneSize (as_statement g)) (λ (x : Given). g.number ≡ x.number → g.size ≡ x.size)
    (λ number at size gen args a. a) head score agree) in_h
