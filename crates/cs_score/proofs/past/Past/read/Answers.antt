use Rattle.std.proofs.Common.{ℕ, List, [], Result, Ok, refl, ap, sym, ◌∙◌}
use Rattle.cs_base.specs.declared.fault.ScoreKind.{ScoreKind}
use Rattle.cs_score.specs.{declared.statement.ScoreWhat.ScoreWhat, Carry.and_then, Notes.ok_or_zero}
use Rattle.cs_score.specs.{Statements.base_by, Statements.one, Statements.tempo_of, inner.Past.asked_after}
use Rattle.cs_score.proofs.History.{follows_by}
use Rattle.cs_score.proofs.past.Past.read.Goals as goal
use Rattle.cs_score.specs.declared.row.StatementLetter.TheVariants as letter

abbrev nothing : ℕ → Result (List ScoreWhat) ScoreKind
nothing base = Ok []

pub returns-in_ok-what-in-Tempo-clause-value : goal.returns-in_ok-what-in-Tempo-clause-value
returns-in_ok-what-in-Tempo-clause-value c =
    ap (asked_after c.args.self.now c.args.row) c.in-Tempo.is ∙ ap (λ fs. one (tempo_of fs)) (sym c.as_slice.ensures)
    ∙ ap one c.in_ok-what-in-Tempo.ensures.value

pub returns-in_ok-what-in-Tempo-clause-follows : goal.returns-in_ok-what-in-Tempo-clause-follows
returns-in_ok-what-in-Tempo-clause-follows c =
    follows_by c.args.self.now c.args.row _ letter.Tempo c.in-Tempo.is refl (λ n. refl) (λ n. refl) refl

pub returns-in_ok-self-in-Base-clause-value : goal.returns-in_ok-self-in-Base-clause-value
returns-in_ok-self-in-Base-clause-value c =
    ap (asked_after c.args.self.now c.args.row) c.in-Base.is
    ∙ ap (λ fs. and_then (base_by fs) nothing) (sym c.as_slice-in-Base.ensures)
    ∙ ap (λ r. and_then r nothing) c.in_ok-self-in-Base.ensures.value

pub returns-in_ok-self-in-Base-clause-follows : goal.returns-in_ok-self-in-Base-clause-follows
returns-in_ok-self-in-Base-clause-follows c =
    follows_by c.args.self.now c.args.row _ letter.Base c.in-Base.is
    (sym (ap (λ fs. ok_or_zero (base_by fs)) (sym c.as_slice-in-Base.ensures)
    ∙ ap ok_or_zero c.in_ok-self-in-Base.ensures.value)) (λ n. refl) (λ n. refl) refl

pub returns-in-Section-clause-value : goal.returns-in-Section-clause-value
returns-in-Section-clause-value c = ap (asked_after c.args.self.now c.args.row) c.in-Section.is

pub returns-in-Section-clause-follows : goal.returns-in-Section-clause-follows
returns-in-Section-clause-follows c =
    follows_by c.args.self.now c.args.row _ letter.Section c.in-Section.is refl (λ n. refl) (λ n. refl) refl

pub returns-in-End-clause-follows : goal.returns-in-End-clause-follows
returns-in-End-clause-follows c =
    follows_by c.args.self.now c.args.row _ letter.End c.in-End.is refl (λ n. refl) (λ n. refl) refl
