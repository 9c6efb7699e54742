-- Pairing: the stops of an instrument along a section's turns.
use Rattle.std.proofs.Common.{◌≡◌, ℕ, ◌+◌, ◌<◌, List, [], ◌∷◌, ◌++◌, take, map, length, get_or, ap, sym, ◌∙◌}
use Rattle.std.proofs.Common.{append_assoc, append-nil}
use Rattle.std.proofs.lemmas.List.{map_more}
use Rattle.cs_score.specs.declared.statement.ScoreStmt.{ScoreStmt}
use Rattle.cs_tempo.specs.inner.Counted.{own_stop, stops_of}

pub stops_more : (n : ℕ) (xs : List ScoreStmt) (s : ScoreStmt)
    → stops_of n xs ++ own_stop n s.what ≡ stops_of n (xs ++ s ∷ [])
unfolding stops_of
stops_more n [] s = sym (append-nil (own_stop n s.what))
stops_more n (x ∷ xs) s =
    append_assoc (own_stop n x.what) (stops_of n xs) (own_stop n s.what)
    ∙ ap (λ r. own_stop n x.what ++ r) (stops_more n xs s)

pub stops_step : {A : Type 0} (f : A → ScoreStmt) (n : ℕ) (order : List A) (k : ℕ) (s : A) → k < length order
    → s ≡ get_or order k s →
    stops_of n (map f (take k order)) ++ own_stop n (f s).what ≡ stops_of n (map f (take (k + 1) order))
stops_step f n order k s some at =
    stops_more n (map f (take k order)) (f s)
    ∙ ap (stops_of n) (ap (λ x. map f (take k order) ++ f x ∷ []) at ∙ sym (map_more f order k s some))
