-- Two texts have one meaning.
use Rattle.std.proofs.Common.{◌≡◌, ℕ, List, Ok, Err, ap}
use Rattle.cs_base.specs.{Lines.Excerpt, declared.fault.OrcFault.OrcFault, declared.fault.OrcKind.OrcKind}
use Rattle.cs_base.specs.{declared.head.Head.Head, declared.width.SampleWidth.SampleWidth}
use Rattle.cs_lex.specs.declared.token.Token.{Token}
use Rattle.cs_score.specs.Statements.{score_of}
use Rattle.cs_udo.specs.Expanding.{expanding}
use Rattle.cs_compile.specs.{Then.Is, Meaning.score_means, Meaning.short_texts_mean, Meaning.typed_form}
use Rattle.cs_compile.specs.Meaning.{HasHead, HasTokens, HasTree, IsPlayedAs, IsRead, IsReadAs, IsTypedAs, means}
use Rattle.cs_compile.specs.Meaning.{no_longer_than, orchestra_means, orchestra_plays, piece_of, plotted, refused_as}
use Rattle.cs_compile.proofs.{Chains.HasOne, Chains.is_one, Chains.then_one, Heads.head_one}
use Rattle.cs_base.specs.declared.limit.Limit.TheVariants as limit
use Rattle.cs_typed.specs.TypedTree as typed
use Rattle.cs_base.specs.declared.refusal.Refusal.TheVariants as why

same_fault : (f g : OrcFault) → (f.line ≡ g.line) × (f.kind ≡ g.kind) → f ≡ g
same_fault f g e = same_parts f.line g.line f.kind g.kind e.0 e.1
  where
    same_parts : (l m : ℕ) (j k : OrcKind) → l ≡ m → j ≡ k
        → ◌≡◌ {A = OrcFault} (record { line = l; kind = j }) (record { line = m; kind = k })
    same_parts l m j k p q = cc

-- a part is read as one value or one first fault, if there is at most one of each and never both
pub read_one : {A : Type 0} (V : A → Type 0) (F : ℕ → OrcKind → Type 0) → ((a b : A) → V a → V b → a ≡ b)
    → ((l m : ℕ) (j k : OrcKind) → F l j → F m k → (l ≡ m) × (j ≡ k))
    → ((a : A) (l : ℕ) (k : OrcKind) → V a → F l k → ⊥) → HasOne (IsRead V F)
read_one V F v f n (Ok a) (Ok b) h k = ap (λ x. Ok x) (v a b h k)
read_one V F v f n (Ok a) (Err (why.Orc g)) h k = absurd (n a g.line g.kind h k)
read_one V F v f n (Err (why.Orc g)) (Ok a) h k = absurd (n a g.line g.kind k h)
read_one V F v f n (Err (why.Orc g)) (Err (why.Orc g')) h k =
    ap (λ (x : OrcFault). Err (why.Orc x)) (same_fault g g' (f g.line g'.line g.kind g'.kind h k))
read_one V F v f n (Err (why.Score g)) s h k = absurd h
read_one V F v f n (Err (why.Limit g)) s h k = absurd h
read_one V F v f n (Err (why.Csd g)) s h k = absurd h
read_one V F v f n _ _ h k = absurd k

-- a score in a piece with a head has at most one plot, and a piece one composition
score_one : (head : Head) (text : Excerpt) → HasOne (score_means head text)
score_one head text =
    then_one (Is (refused_as why.Score (score_of text))) (λ score. Is (plotted head score))
    (is_one (refused_as why.Score (score_of text)))
    (λ score. is_one (plotted head score))

plays_one : (width : SampleWidth) (score : Excerpt) (o : typed.Orchestra) → HasOne (orchestra_plays width score o)
plays_one width score o =
    then_one (HasHead o.head) (IsPlayedAs width score o) (head_one o.head)
    (λ head. then_one (score_means head score) (λ plot. Is (piece_of width o head plot)) (score_one head score)
    (λ plot. is_one (piece_of width o head plot)))

module _ (tokens : (text : Excerpt) → HasOne (HasTokens text))
    (trees : (text : Excerpt) (ts : List Token) → HasOne (HasTree text ts)) where
  -- an orchestra has at most one typed form
  orchestra_one : (text : Excerpt) → HasOne (orchestra_means text)
  orchestra_one text =
      then_one (IsReadAs text) IsTypedAs (then_one (HasTokens text) (HasTree text) (tokens text) (trees text))
      (λ t. then_one (Is (expanding t)) (λ e. Is (typed_form e)) (is_one (expanding t)) (λ e. is_one (typed_form e)))

  short_one : (width : SampleWidth) (orchestra score : Excerpt) → HasOne (short_texts_mean width orchestra score)
  short_one width orchestra score =
      then_one (orchestra_means orchestra) (orchestra_plays width score) (orchestra_one orchestra)
      (λ o. plays_one width score o)

  pub means_one : (width : SampleWidth) (orchestra score : Excerpt) → HasOne (means width orchestra score)
  means_one width orchestra score =
      then_one (Is (no_longer_than limit.OrchestraBytes orchestra)) _
      (is_one (no_longer_than limit.OrchestraBytes orchestra))
      (λ orc. then_one (Is (no_longer_than limit.ScoreBytes score)) (λ sco. short_texts_mean width orc sco)
      (is_one (no_longer_than limit.ScoreBytes score))
      (λ sco. short_one width orc sco))
