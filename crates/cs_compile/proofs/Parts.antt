-- The results of the single steps, and how they combine.
use Rattle.std.proofs.Common.{◌≡◌, ◌∙◌, List, Option, Some, None, Result, Ok, Err, IfOk, refl, sym, ap}
use Rattle.std.specs.{Option.option_or, Result.IsErrAnd}
use Rattle.cs_base.specs.{Lines.Excerpt, declared.fault.Or.Or, declared.fault.OrcFault.OrcFault}
use Rattle.cs_base.specs.{declared.head.Head.Head, declared.limit.LimitHit.LimitHit, declared.refusal.Refusal.Refusal}
use Rattle.cs_base.specs.declared.fault.ScoreFault.{ScoreFault}
use Rattle.cs_score.specs.Limits.{IsRefusedFor, Passes, limit_of_score}
use Rattle.cs_score.specs.{Statements.score_of, declared.statement.ScoreStmt.ScoreStmt}
use Rattle.cs_tempo.specs.Limits.{limit_of, limit_of_sections}
use Rattle.cs_tempo.specs.{Plot.plot_of, Sections.sections_of, declared.plot.Plot.Plot}
use Rattle.cs_typing.specs.Typing.{judged, type_fault, typed_of}
use Rattle.cs_base.specs.declared.width.SampleWidth.{SampleWidth}
use Rattle.cs_compile.specs.Then.{Is}
use Rattle.cs_piece_meaning.specs.Moments.{Composition}
use Rattle.cs_compile.specs.Meaning.{HasHead, IsPlayedAs, orchestra_means, orchestra_plays, piece_of, plotted}
use Rattle.cs_compile.specs.Meaning.{refused_as, score_means, short_texts_mean, typed_form, unless_passed}
use Rattle.cs_compile.proofs.Chains.{goes_on, refuses}
use Rattle.cs_base.specs.declared.fault.Or.TheVariants as or
use Rattle.cs_grammar.specs.Tree as tree
use Rattle.cs_typed.specs.TypedTree as typed
use Rattle.cs_base.specs.declared.refusal.Refusal.TheVariants as why

-- RESULTS

-- a return by `?` has the refusal of the call
pub left_with : {A B F : Type 0} (r : Result B (Or F)) (e : Or F) (x : F) → IsErrAnd r (λ y. y ≡ e)
    → r ≡ Err (or.Fault x) → ◌≡◌ {A = Result A (Or F)} (Err e) (Err (or.Fault x))
left_with (Ok b) e x i h = elim i [ ]
left_with (Err g) e x i h = let same : g ≡ or.Fault x = cc in ap (λ (z : Or _). Err z) (sym i ∙ same)

pub if_ok : {A E : Type 0} (P Q : A → Type 0) → ((a : A) → P a → Q a) → (r : Result A E) → IfOk r P → IfOk r Q
if_ok P Q weaker (Ok a) p = weaker a p
if_ok P Q weaker (Err e) p = tt

-- TREES

pub typed_as : (t : tree.Orchestra) (o : typed.Orchestra) → type_fault t ≡ None → o ≡ typed_of t → typed_form t ≡ Ok o
typed_as t o right is = ap (λ f. refused_as why.Orc (judged f (typed_of t))) right
    ∙ ap (λ (x : typed.Orchestra). Ok x) (sym is)

pub mistyped : (t : tree.Orchestra) (f : OrcFault) → type_fault t ≡ Some f → typed_form t ≡ Err (why.Orc f)
mistyped t f has = ap (λ x. refused_as why.Orc (judged x (typed_of t))) has

-- SCORES

-- a score that exceeds a limit while it is read
passed : (r : Result (List ScoreStmt) ScoreFault) (hit : LimitHit) → Passes hit r
    → (statements : List ScoreStmt) × (r ≡ Ok statements) × (limit_of_score statements ≡ Some hit)
passed (Ok statements) hit p = (statements, refl, p)
passed (Err fault) hit p = absurd p

pub plotted_as : (head : Head) (score : List ScoreStmt) (plot : Plot) → limit_of head score ≡ None
    → plot ≡ plot_of head score → plotted head score ≡ Ok plot
plotted_as head score plot within is =
    ap (λ o. unless_passed o (plot_of head score)) within ∙ ap (λ (x : Plot). Ok x) (sym is)

pub not_plotted : (head : Head) (score : List ScoreStmt) (hit : LimitHit) → limit_of head score ≡ Some hit
    → plotted head score ≡ Err (why.Limit hit)
not_plotted head score hit passes = ap (λ o. unless_passed o (plot_of head score)) passes

pub score_plotted : (head : Head) (text : Excerpt) (score : List ScoreStmt) (r : Result Plot Refusal)
    → score_of text ≡ Ok score → plotted head score ≡ r
    → score_means head text r
score_plotted head text score r read is =
    goes_on (Is (refused_as why.Score (score_of text))) (λ s. Is (plotted head s)) score r
    (sym (ap (refused_as why.Score) read)) (sym is)

pub score_refused : (head : Head) (text : Excerpt) (fault : ScoreFault) → score_of text ≡ Err fault
    → score_means head text (Err (why.Score fault))
score_refused head text fault read =
    refuses (Is (refused_as why.Score (score_of text))) (λ s. Is (plotted head s)) (why.Score fault)
    (sym (ap (refused_as why.Score) read))

pub score_passes : (head : Head) (text : Excerpt) (hit : LimitHit) → Passes hit (score_of text)
    → score_means head text (Err (why.Limit hit))
score_passes head text hit p =
    let at = passed (score_of text) hit p in
    score_plotted head text at.0 (Err (why.Limit hit)) at.1
    (not_plotted head at.0 hit
    (ap (λ (first : Option LimitHit). option_or first (limit_of_sections head (sections_of at.0))) at.2))

-- a score that is refused while it is read
pub score_refused_for : (head : Head) (text : Excerpt) (r : Refusal) → IsRefusedFor r (score_of text)
    → score_means head text (Err r)
score_refused_for head text (why.Score fault) read = score_refused head text fault read
score_refused_for head text (why.Limit hit) passes = score_passes head text hit passes
score_refused_for head text (why.Orc fault) never = absurd never
score_refused_for head text (why.Csd fault) never = absurd never

-- BOTH TEXTS

pub played : (width : SampleWidth) (orchestra text : Excerpt) (o : typed.Orchestra) (head : Head)
    (r : Result Composition Refusal)
    → orchestra_means orchestra (Ok o) → typed.header_of_head head ≡ o.head → IsPlayedAs width text o head r
    → short_texts_mean width orchestra text r
played width orchestra text o head r is has plays =
    goes_on (orchestra_means orchestra) (orchestra_plays width text) o r is
    (goes_on (HasHead o.head) (IsPlayedAs width text o) head r has plays)

pub plotted_plays : (width : SampleWidth) (text : Excerpt) (o : typed.Orchestra) (head : Head) (plot : Plot)
    (r : Result Composition Refusal)
    → score_means head text (Ok plot) → piece_of width o head plot ≡ r → IsPlayedAs width text o head r
plotted_plays width text o head plot r score piece =
    goes_on (score_means head text) (λ p. Is (piece_of width o head p)) plot r score (sym piece)

pub not_plotted_plays : (width : SampleWidth) (text : Excerpt) (o : typed.Orchestra) (head : Head) (refusal : Refusal)
    → score_means head text (Err refusal) → IsPlayedAs width text o head (Err refusal)
not_plotted_plays width text o head refusal score =
    refuses (score_means head text) (λ p. Is (piece_of width o head p)) refusal score
