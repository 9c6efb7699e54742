-- Two texts have a meaning.
use Rattle.std.proofs.Common.{◌≡◌, ◌⊎◌, ℕ, Bool, List, [], Option, Some, None, Result, Ok, Err, refl, subst, ⊎_elim}
use Rattle.std.proofs.Common.{if◌then◌else◌, true, false}
use Rattle.cs_base.proofs.Tests.{both_none}
use Rattle.cs_base.specs.{Lines.Excerpt, declared.fault.OrcFault.OrcFault, declared.fault.OrcKind.OrcKind}
use Rattle.cs_base.specs.{declared.head.Head.Head, declared.refusal.Refusal.Refusal}
use Rattle.cs_lex.specs.declared.token.Token.{Token}
use Rattle.cs_score.specs.Statements.{score_of}
use Rattle.cs_typed.specs.Places.{Header}
use Rattle.cs_typing.specs.Settings.{earlier, header, headers_fault, settings_fault}
use Rattle.cs_typing.specs.Typing.{judged, type_fault, typed_of}
use Rattle.cs_typing.proofs.Ranges.{channels_within, cycle_within, frames_within, scale_within}
use Rattle.cs_base.specs.declared.width.SampleWidth.{SampleWidth}
use Rattle.cs_udo.specs.Expanding.{expanding}
use Rattle.cs_compile.specs.{Then.GoesOn, Then.Is, Meaning.score_means, Meaning.short_texts_mean, Meaning.typed_form}
use Rattle.cs_compile.specs.Meaning.{HasHead, HasTokens, HasTree, IsPlayedAs, IsRead, IsReadAs, IsTypedAs, means}
use Rattle.cs_compile.specs.Meaning.{no_longer_than, orchestra_means, orchestra_plays, piece_of, plotted, refused_as}
use Rattle.cs_compile.proofs.{Chains.then_some, Heads.made}
use Rattle.cs_base.specs.declared.limit.Limit.TheVariants as limit
use Rattle.cs_grammar.specs.Tree as tree
use Rattle.cs_typed.specs.TypedTree as typed
use Rattle.cs_base.specs.declared.refusal.Refusal.TheVariants as why

-- a result for which P holds
abbrev pub HasSome : {A E : Type 0} → (Result A E → Type 0) → Type 0
HasSome {A} {E} P = (r : Result A E) × P r

-- a part is read as a value or as a first fault
pub read_some : {A : Type 0} (V : A → Type 0) (F : ℕ → OrcKind → Type 0)
    → ((a : A) × V a) ⊎ ((l : ℕ) × (k : OrcKind) × F l k) → HasSome (IsRead V F)
read_some V F = ⊎_elim (λ v. (Ok v.0, v.1)) (λ f. (Err (why.Orc (record { line = f.0; kind = f.1 })), f.2))

-- THE HEAD of a typed orchestra exists: its numbers are in their ranges

earlier_none : (f g : Option OrcFault) → earlier f g ≡ None → f ≡ None
earlier_none None g h = refl
earlier_none (Some f) None h = absurd (cc)
earlier_none (Some f) (Some g) h = by_test _ h
  where
    by_test : (b : Bool) → ◌≡◌ {A = Option OrcFault} (if b then Some f else Some g) None
        → ◌≡◌ {A = Option OrcFault} (Some f) None
    by_test true h = absurd (cc)
    by_test false h = absurd (cc)

head_of : (e : tree.Orchestra) → type_fault e ≡ None → (head : Head) × (typed.header_of_head head ≡ header e.head)
head_of e none =
    let settings : settings_fault e.head e.zero ≡ None =
    (both_none (settings_fault e.head e.zero) _ none).0 in
    let lines : headers_fault [] e.head ≡ None = earlier_none (headers_fault [] e.head) _ (both_none _ _ settings).0 in
    let h : Header = header e.head in (
      made h.sr h.ksmps h.nchnls h.dbfs (frames_within e.head lines)
          (cycle_within e.head lines (both_none _ _ settings).1)
          (channels_within e.head lines) (scale_within e.head lines),
      refl,
    )

pub judged_ok : (f : Option OrcFault) (t o : typed.Orchestra) → Ok o ≡ refused_as why.Orc (judged f t)
    → (f ≡ None) × (t ≡ o)
judged_ok None t o h = (refl, cc)
judged_ok (Some g) t o h = absurd (cc)

typed_from : (first : Result tree.Orchestra Refusal) (o : typed.Orchestra)
    → GoesOn (λ e. Is (typed_form e)) first (Ok o)
    → (head : Head) × (typed.header_of_head head ≡ o.head)
typed_from (Ok e) o h =
    let is = judged_ok (type_fault e) (typed_of e) o h in
    subst (λ (x : typed.Orchestra). (head : Head) × (typed.header_of_head head ≡ x.head)) is.1 (head_of e is.0)
typed_from (Err r) o h = absurd (cc)

read_from : (first : Result tree.Orchestra Refusal) (o : typed.Orchestra) → GoesOn IsTypedAs first (Ok o)
    → (head : Head) × (typed.header_of_head head ≡ o.head)
read_from (Ok t) o h = typed_from h.first o h.after
read_from (Err r) o h = absurd (cc)

head_some : (text : Excerpt) (o : typed.Orchestra) → orchestra_means text (Ok o)
    → (head : Head) × HasHead o.head (Ok head)
head_some text o h = read_from h.first o h.after

-- THE CHAIN

typed_some : (t : tree.Orchestra) → HasSome (IsTypedAs t)
typed_some t = then_some (Is (expanding t)) (λ e. Is (typed_form e)) (expanding t) refl (λ e _. (typed_form e, refl))

score_some : (head : Head) (text : Excerpt) → HasSome (score_means head text)
score_some head text =
    then_some (Is (refused_as why.Score (score_of text))) (λ score. Is (plotted head score))
    (refused_as why.Score (score_of text)) refl
    (λ score _. (plotted head score, refl))

plays_some : (width : SampleWidth) (score : Excerpt) (o : typed.Orchestra) (head : Head)
    → HasSome (IsPlayedAs width score o head)
plays_some width score o head =
    let plot = score_some head score in
    then_some (score_means head score) (λ plot. Is (piece_of width o head plot)) plot.0 plot.1
    (λ p _. (piece_of width o head p, refl))

module _ (tokens : (text : Excerpt) → HasSome (HasTokens text))
    (trees : (text : Excerpt) (ts : List Token) → HasSome (HasTree text ts)) where
  tree_some : (text : Excerpt) → HasSome (IsReadAs text)
  tree_some text = let first =
      tokens text in then_some (HasTokens text) (HasTree text) first.0 first.1 (λ ts _. trees text ts)

  orchestra_some : (text : Excerpt) → HasSome (orchestra_means text)
  orchestra_some text = let first =
      tree_some text in then_some (IsReadAs text) IsTypedAs first.0 first.1 (λ t _. typed_some t)

  short_some : (width : SampleWidth) (orchestra score : Excerpt) → HasSome (short_texts_mean width orchestra score)
  short_some width orchestra score =
      let first = orchestra_some orchestra in
      then_some (orchestra_means orchestra) (orchestra_plays width score) first.0 first.1
      (λ o is. let head = head_some orchestra o is in
      then_some (HasHead o.head) (IsPlayedAs width score o) (Ok head.0) head.1 (λ h _. plays_some width score o h))

  pub means_some : (width : SampleWidth) (orchestra score : Excerpt) → HasSome (means width orchestra score)
  means_some width orchestra score =
      then_some (Is (no_longer_than limit.OrchestraBytes orchestra)) _ (no_longer_than limit.OrchestraBytes orchestra)
      refl
      (λ orc _. then_some (Is (no_longer_than limit.ScoreBytes score)) (λ sco. short_texts_mean width orc sco)
      (no_longer_than limit.ScoreBytes score) refl
      (λ sco _. short_some width orc sco))
