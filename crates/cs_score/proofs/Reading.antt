-- One pass over the lines: the state so far, and one more line.
use Rattle.std.proofs.Common.{◌≡◌, ℕ, ◌≤◌, Bool, true, false, List, [], ◌∷◌, ◌++◌, length, ap, sym, ◌∙◌, refl, subst}
use Rattle.std.proofs.Common.{append_assoc, Option, Some, None, Result, Ok, Err, if◌then◌else◌}
use Rattle.std.specs.Option.{option_to_list}
use Rattle.std.proofs.lemmas.List.{append-nil, drop_all}
use Rattle.cs_base.specs.{declared.fault.ScoreFault.ScoreFault, Lines.Excerpt, Lines.lines_from}
use Rattle.cs_base.specs.{Faults.or_by, declared.fault.Or.Or, declared.refusal.Refusal.Refusal}
use Rattle.cs_score.specs.{declared.kept.KeptStatements.KeptStatements, Limits.IsRefusedFor}
use Rattle.cs_score.specs.{declared.past.Past.Past, declared.row.Row.Row, declared.statement.ScoreStmt.ScoreStmt}
use Rattle.cs_score.specs.{declared.statement.ScoreWhat.ScoreWhat, Carry.and_then, inner.Counts.Holds}
use Rattle.cs_score.specs.{inner.Counts.IsWhole, inner.Left.rows_from, Plain.plain_of, Rows.rows_in, Rows.rows_of}
use Rattle.cs_score.specs.inner.Past.{IsFaultOf, Keeps, LineTaken, RowRead, asked_after}
use Rattle.cs_score.specs.Statements.{asked, at_line, is_end, score_of, stated, statements_of, up_to_end}
use Rattle.cs_score.proofs.History.{asked_is, row_more}
use Rattle.cs_base.specs.declared.fault.Or.TheVariants as or
use Rattle.cs_base.specs.declared.refusal.Refusal.TheVariants as refusal

abbrev pub with_front : List ScoreStmt → Result (List ScoreStmt) ScoreFault → Result (List ScoreStmt) ScoreFault
with_front out r = and_then r (λ more. Ok (out ++ more))

pub score_is : (text : Excerpt) → score_of text ≡ statements_of [] (up_to_end (rows_of text))
unfolding score_of
score_is text = refl

-- the state at a place of the text: the rows above it, their statements, and the stored state of both
pub record Read (text : Excerpt) (plain : List ℕ) (at : ℕ) (past : Past) (kept : KeptStatements) : Type 0 where
  pub above : List Row
  pub all : List ScoreStmt
  pub keeps : Keeps above past
  pub holds : Holds all kept
  pub whole : score_of text ≡ with_front all (statements_of above (up_to_end (rows_from text plain at)))

with_nothing : (r : Result (List ScoreStmt) ScoreFault) → with_front [] r ≡ r
with_nothing (Ok xs) = refl
with_nothing (Err f) = refl

pub nothing_read : (text : Excerpt) (plain : List ℕ) (past : Past) (kept : KeptStatements) → plain ≡ plain_of text.bytes
    → Keeps [] past → Holds [] kept → Read text plain 0 past kept
nothing_read text plain past kept e k h = record {
  above = [];
  all = [];
  keeps = k;
  holds = h;
  whole = score_is text ∙ ap (λ t. statements_of [] (up_to_end (rows_in text (lines_from text.first_line 0 t)))) (sym e)
      ∙ sym (with_nothing (statements_of [] (up_to_end (rows_from text plain 0))));
}

-- a line without a statement
pub blank_read : (text : Excerpt) (plain : List ℕ) (at next : ℕ) (past : Past) (kept : KeptStatements)
    → rows_from text plain at ≡ rows_from text plain next
    → Read text plain at past kept → Read text plain next past kept
blank_read text plain at next past kept e r = record {
  above = r.above;
  all = r.all;
  keeps = r.keeps;
  holds = r.holds;
  whole = r.whole ∙ ap (λ rows. with_front r.all (statements_of r.above (up_to_end rows))) e;
}

-- one more statement
joined : (out these : List ScoreStmt) (r : Result (List ScoreStmt) ScoreFault)
    → with_front out (and_then r (λ more. Ok (these ++ more))) ≡ with_front (out ++ these) r
joined out these (Ok more) = ap Ok (sym (append_assoc out these more))
joined out these (Err f) = refl

first_row : (above : List Row) (row : Row) (rows : List Row) (these : List ScoreWhat) (out : List ScoreStmt)
    → asked above row ≡ Ok these
    → with_front out (statements_of above (row ∷ rows)) ≡ with_front (out ++ at_line row.line these)
    (statements_of (row ∷ above) rows)
first_row above row rows these out e =
    ap (λ r. with_front out (and_then (stated row.line r)
    (λ these. and_then (statements_of (row ∷ above) rows) (λ more. Ok (these ++ more))))) e
    ∙ joined out (at_line row.line these) (statements_of (row ∷ above) rows)

pub row_read : (text : Excerpt) (plain : List ℕ) (at next : ℕ) (past past' : Past) (kept kept' : KeptStatements)
    (row : Row) → rows_from text plain at ≡ row ∷ rows_from text plain next → is_end row.letter ≡ false
    → RowRead past kept row past' kept' → Read text plain at past kept → Read text plain next past' kept'
row_read text plain at next past past' kept kept' row e more one r =
    let rows = up_to_end (rows_from text plain next) in
    let asks : asked r.above row ≡ Ok one.these = sym (asked_is r.above past row r.keeps) ∙ one.asked in
    record {
      above = row ∷ r.above;
      all = r.all ++ at_line row.line one.these;
      keeps = row_more r.above past row past' r.keeps one.follows;
      holds = one.grown r.all r.holds;
      whole = r.whole ∙ ap (λ rows. with_front r.all (statements_of r.above (up_to_end rows))) e
          ∙ ap (λ b. with_front r.all (statements_of r.above (row ∷ (if b then [] else rows)))) more
          ∙ first_row r.above row rows one.these r.all asks;
    }

-- the last statement, which is an `e`
pub end_read : (text : Excerpt) (plain : List ℕ) (at next : ℕ) (past past' : Past) (kept kept' : KeptStatements)
    (row : Row) → rows_from text plain at ≡ row ∷ rows_from text plain next → is_end row.letter ≡ true
    → RowRead past kept row past' kept' → Read text plain at past kept → IsWhole text kept'
end_read text plain at next past past' kept kept' row e end one r =
    let rows = up_to_end (rows_from text plain next) in
    let asks : asked r.above row ≡ Ok one.these = sym (asked_is r.above past row r.keeps) ∙ one.asked in
    record {
      all = r.all ++ at_line row.line one.these;
      read = r.whole ∙ ap (λ rows. with_front r.all (statements_of r.above (up_to_end rows))) e
          ∙ ap (λ b. with_front r.all (statements_of r.above (row ∷ (if b then [] else rows)))) end
          ∙ first_row r.above row [] one.these r.all asks ∙ ap Ok (append-nil (r.all ++ at_line row.line one.these));
      holds = one.grown r.all r.holds;
    }

-- the end of the text
pub all_read : (text : Excerpt) (plain : List ℕ) (at : ℕ) (past : Past) (kept : KeptStatements) → length plain ≤ at
    → Read text plain at past kept → IsWhole text kept
all_read text plain at past kept l r = record {
  all = r.all;
  read = r.whole ∙ ap (λ t. with_front r.all
      (statements_of r.above (up_to_end (rows_in text (lines_from text.first_line at t)))))
      (drop_all at plain l) ∙ ap Ok (append-nil r.all);
  holds = r.holds;
}

-- a fault
pub fault_read : (text : Excerpt) (plain : List ℕ) (at next : ℕ) (past : Past) (kept : KeptStatements) (row : Row)
    (f : ScoreFault) → rows_from text plain at ≡ row ∷ rows_from text plain next → f.line ≡ row.line
    → asked_after past row row.letter ≡ Err f.kind → Read text plain at past kept → score_of text ≡ Err f
fault_read text plain at next past kept row f e line kind r =
    let rows = if is_end row.letter then [] else up_to_end (rows_from text plain next) in
    let asks : asked r.above row ≡ Err f.kind = sym (asked_is r.above past row r.keeps) ∙ kind in
    r.whole ∙ ap (λ rows. with_front r.all (statements_of r.above (up_to_end rows))) e ∙ ap (λ a. with_front r.all
    (and_then (stated row.line a)
    (λ these. and_then (statements_of (row ∷ r.above) rows) (λ more. Ok (these ++ more))))) asks
    ∙ ap (λ n. Err (record { line = n; kind = f.kind })) (sym line)

-- ---- a line, with a statement or without

pub line_read : (text : Excerpt) (plain : List ℕ) (at next : ℕ) (past past' : Past) (kept kept' : KeptStatements)
    (row : Option Row) (ends : Bool) → rows_from text plain at ≡ option_to_list row ++ rows_from text plain next
    → LineTaken past kept row ends past' kept' → ends ≡ false
    → Read text plain at past kept → Read text plain next past' kept'
line_read text plain at next past past' kept kept' None ends e t f r =
    subst (λ p. Read text plain next p kept') (sym t.0)
    (subst (Read text plain next past) (sym t.1) (blank_read text plain at next past kept e r))
line_read text plain at next past past' kept kept' (Some row) ends e t f r =
    row_read text plain at next past past' kept kept' row e (sym t.1 ∙ f) t.0 r

pub last_line_read : (text : Excerpt) (plain : List ℕ) (at next : ℕ) (past past' : Past) (kept kept' : KeptStatements)
    (row : Option Row) (ends : Bool) → rows_from text plain at ≡ option_to_list row ++ rows_from text plain next
    → LineTaken past kept row ends past' kept' → ends ≡ true → Read text plain at past kept → IsWhole text kept'
last_line_read text plain at next past past' kept kept' None ends e t f r =
    absurd (let wrong : false ≡ true = sym t.2 ∙ f in cc)
last_line_read text plain at next past past' kept kept' (Some row) ends e t f r =
    end_read text plain at next past past' kept kept' row e (sym t.1 ∙ f) t.0 r

pub line_fault_read : (text : Excerpt) (plain : List ℕ) (at next : ℕ) (past : Past) (kept : KeptStatements)
    (row : Option Row) (f : ScoreFault)
    → rows_from text plain at ≡ option_to_list row ++ rows_from text plain next → IsFaultOf past row f
    → Read text plain at past kept → score_of text ≡ Err f
line_fault_read text plain at next past kept None f e t r = absurd t
line_fault_read text plain at next past kept (Some row) f e t r =
    fault_read text plain at next past kept row f e t.0 t.1 r

-- a score is refused for its first fault
pub refused_by : (k : Or ScoreFault) (r : Refusal) (meant : Result (List ScoreStmt) ScoreFault)
    → or.Fault r ≡ or_by refusal.Score k → ((f : ScoreFault) → k ≡ or.Fault f → meant ≡ Err f) → IsRefusedFor r meant
refused_by (or.Fault f) r meant e h =
    let same : refusal.Score f ≡ r = cc in subst (λ x. IsRefusedFor x meant) same (h f refl)
refused_by or.OutOfMemory r meant e h = cc
