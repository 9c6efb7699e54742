-- The sections of a score, and the facts that are needed about them.
use Rattle.std.proofs.Common.{◌≡◌, ℕ, ◌+◌, ◌<◌, ◌≤◌, List, [], ◌∷◌, ◌++◌, drop, take, length, get_or, true, false, refl}
use Rattle.std.proofs.Common.{ap, sym, ◌∙◌, append-nil}
use Rattle.std.proofs.lemmas.List.{take_more, take_all, at_drop_more, at_drop_all}
use Rattle.cs_score.specs.{declared.statement.TempoPoint.TempoPoint, declared.statement.ScoreWhat.ScoreWhat}
use Rattle.cs_score.specs.{declared.statement.ScoreWhat.TheVariants.Section, declared.statement.ScoreStmt.ScoreStmt}
use Rattle.cs_tempo.specs.Sections.{ends_section, at_front, sections_of, own_points, or_else, tempo_of}

-- statements added at the beginning of the first section
abbrev pub in_front : List ScoreStmt → List (List ScoreStmt) → List (List ScoreStmt)
in_front [] sections = sections
in_front (s ∷ later) sections = at_front s (in_front later sections)

pub in_front_more : (xs : List ScoreStmt) (s : ScoreStmt) (sections : List (List ScoreStmt))
    → in_front (xs ++ s ∷ []) sections ≡ in_front xs (at_front s sections)
in_front_more [] s sections = refl
in_front_more (x ∷ xs) s sections = ap (at_front x) (in_front_more xs s sections)

pub in_front_of : (xs first : List ScoreStmt) (others : List (List ScoreStmt))
    → in_front xs (first ∷ others) ≡ (xs ++ first) ∷ others
in_front_of [] first others = refl
in_front_of (x ∷ xs) first others = ap (at_front x) (in_front_of xs first others)

pub goes_on : (s : ScoreStmt) (later : List ScoreStmt) → ends_section s.what ≡ false
    → sections_of (s ∷ later) ≡ at_front s (sections_of later)
unfolding sections_of
goes_on s later h = rw h refl

pub stops : (s : ScoreStmt) (later : List ScoreStmt) → s.what ≡ Section
    → sections_of (s ∷ later) ≡ [] ∷ sections_of later
unfolding sections_of
stops s later h = let e : ends_section s.what ≡ true = ap ends_section h in rw e refl

pub no_end : (w : ScoreWhat) → (w ≡ Section → ⊥) → ends_section w ≡ false
no_end Section h = absurd (h refl)
no_end _ h = refl

-- a walk over the statements of a score that has found no `s` so far
pub read_on : (score : List ScoreStmt) (k : ℕ) (s : ScoreStmt) → k < length score → s ≡ get_or score k s
    → (s.what ≡ Section → ⊥) → sections_of score ≡ in_front (take k score) (sections_of (drop k score)) →
    sections_of score ≡ in_front (take (k + 1) score) (sections_of (drop (k + 1) score))
read_on score k s some at goes h =
    let a = at_drop_more sections_of score k s some in
    let b = goes_on s (drop (k + 1) score) (no_end s.what goes) in
    let c = in_front_more (take k score) s (sections_of (drop (k + 1) score)) in
    let d = take_more score k s some in
    h ∙ ap (in_front (take k score)) (a ∙ ap (λ t. sections_of (t ∷ drop (k + 1) score)) (sym at) ∙ b) ∙ sym c
    ∙ ap (λ t. in_front t (sections_of (drop (k + 1) score))) (ap (λ t. take k score ++ t ∷ []) at ∙ sym d)

pub read_to : (score : List ScoreStmt) (k : ℕ) (s : ScoreStmt) → k < length score → s ≡ get_or score k s
    → s.what ≡ Section → sections_of score ≡ in_front (take k score) (sections_of (drop k score)) →
    sections_of score ≡ take k score ∷ sections_of (drop (k + 1) score)
read_to score k s some at end h =
    let a = at_drop_more sections_of score k s some in
    let b = stops s (drop (k + 1) score) end in
    h ∙ ap (in_front (take k score)) (a ∙ ap (λ t. sections_of (t ∷ drop (k + 1) score)) (sym at) ∙ b)
    ∙ in_front_of (take k score) [] (sections_of (drop (k + 1) score))
    ∙ ap (λ t. t ∷ sections_of (drop (k + 1) score)) (append-nil (take k score))

pub read_all : (score : List ScoreStmt) (k : ℕ) → length score ≤ k →
    sections_of score ≡ in_front (take k score) (sections_of (drop k score)) → sections_of score ≡ score ∷ []
unfolding sections_of
read_all score k all h =
    h ∙ ap (in_front (take k score)) (at_drop_all sections_of score k all) ∙ in_front_of (take k score) [] []
    ∙ ap (λ t. t ∷ []) (append-nil (take k score) ∙ take_all k score all)

-- combining the tempo so far with the tempo of the rest is associative
or_else_three : (a b c : List TempoPoint) → or_else (or_else a b) c ≡ or_else a (or_else b c)
or_else_three [] b c = refl
or_else_three (p ∷ a) b c = refl

pub tempo_more : (section : List ScoreStmt) (k : ℕ) (s : ScoreStmt) (t : List TempoPoint) → k < length section
    → s ≡ get_or section k s →
    or_else (tempo_of (drop k section)) t ≡ or_else (tempo_of (drop (k + 1) section)) (or_else (own_points s.what) t)
unfolding tempo_of
tempo_more section k s t some at =
    ap (λ r. or_else r t) (at_drop_more tempo_of section k s some
    ∙ ap (λ u. tempo_of (u ∷ drop (k + 1) section)) (sym at))
    ∙ or_else_three (tempo_of (drop (k + 1) section)) (own_points s.what) t

pub tempo_none : (section : List ScoreStmt) (k : ℕ) (t : List TempoPoint) → length section ≤ k
    → or_else (tempo_of (drop k section)) t ≡ t
unfolding tempo_of
tempo_none section k t all = ap (λ r. or_else r t) (at_drop_all tempo_of section k all)

pub or_nothing : (a : List TempoPoint) → or_else a [] ≡ a
or_nothing [] = refl
or_nothing (p ∷ a) = refl
