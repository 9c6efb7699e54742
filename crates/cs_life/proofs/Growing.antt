-- A list with at least as many voices; and the voices that are left after some have left.
use Rattle.std.proofs.Common.{◌≡◌, ◌∙◌, suc, ◌+◌, ◌≤◌, Bool, true, false, not, cond, List, [], ◌∷◌, filter, length}
use Rattle.std.proofs.Common.{refl, ap, arith}
use Rattle.std.proofs.lemmas.List.Filters.{length-filter_both}
use Rattle.cs_life.specs.inner.Roster.{Grew}

module _ {V : Type 0} where
  grew_same : (voices more : List V) → more ≡ voices → Grew voices more
  grew_same voices more e = record { many = omega (arith, ap length e); same = λ h. e }

  pub grew_none : (voices : List V) → Grew voices voices
  grew_none voices = grew_same voices voices refl

  pub grew_longer : (voices more : List V) → length more ≡ length voices + 1 → Grew voices more
  grew_longer voices more e = record { many = omega (arith, e); same = λ h. absurd (omega (arith, e, h)) }

  -- a list that grew twice has grown
  pub grew_again : (voices more most : List V) → Grew voices more → Grew more most → Grew voices most
  grew_again voices more most p q = record {
    many = omega (arith, p.many, q.many);
    same = λ h. q.same (omega (arith, h, p.many, q.many)) ∙ p.same (omega (arith, h, p.many, q.many));
  }

  -- no more voices pass a test than there are
  pub fewer : (test : V → Bool) (voices : List V) → length (filter test voices) ≤ length voices
  fewer test voices = omega (arith, length-filter_both test (λ v. not (test v)) (λ v. refl) voices)

  -- if as many voices pass a test as there are, all of them do
  pub all_pass : (test : V → Bool) (voices : List V) → length (filter test voices) ≡ length voices
      → filter test voices ≡ voices
  all_pass test [] h = refl
  all_pass test (v ∷ voices) h = either_way (test v) (all_pass test voices) h
    where
      either_way : (b : Bool) → (length (filter test voices) ≡ length voices → filter test voices ≡ voices)
          → length (cond b (v ∷ filter test voices) (filter test voices)) ≡ suc (length voices)
          → cond b (v ∷ filter test voices) (filter test voices) ≡ v ∷ voices
      either_way true rest e = ap (λ xs. v ∷ xs) (rest (omega (arith, e)))
      either_way false rest e = absurd (omega (arith, e, fewer test voices))

  -- if as many voices stayed as played, and as many play after others have come, the list is the same
  pub all_stayed : (voices stayed mids after : List V)
      → (length stayed ≡ length voices → stayed ≡ voices) → Grew stayed mids → Grew mids after
      → length stayed ≡ length voices → length after ≡ length stayed → after ≡ voices
  all_stayed voices stayed mids after left p q e f = (grew_again stayed mids after p q).same f ∙ left e
