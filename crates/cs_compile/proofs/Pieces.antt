-- The parts of a piece that two texts mean.
use Rattle.std.proofs.Common.{◌≡◌, nat_lt, length, Option, Some, None, Result, Ok, Err, sym, subst, ap, ◌∙◌}
use Rattle.cs_base.specs.{Lines.Excerpt, Limits.most_of, declared.head.Head.Head, declared.limit.Limit.Limit}
use Rattle.cs_base.specs.{declared.limit.LimitHit.LimitHit, declared.width.SampleWidth.SampleWidth}
use Rattle.cs_piece.specs.Compositions.{composition}
use Rattle.cs_piece_meaning.specs.Moments.{Composition}
use Rattle.cs_tempo.specs.declared.plot.Plot.{Plot}
use Rattle.cs_typing.specs.Typing.{type_fault, typed_of}
use Rattle.cs_udo.specs.Expanding.{expanding}
use Rattle.cs_compile.specs.Meaning.{IsReadAs, IsTypedAs, limit_of_piece, means, no_longer_than, orchestra_means}
use Rattle.cs_compile.specs.Meaning.{orchestra_plays, passed_if, typed_form, unless_passed}
use Rattle.cs_compile.specs.Then.{GoesOn, Is, Then}
use Rattle.cs_compile.proofs.Some.{judged_ok}
use Rattle.cs_base.specs.declared.limit.Limit.TheVariants as limit
use Rattle.cs_grammar.specs.Tree as tree
use Rattle.cs_typed.specs.TypedTree as typed

-- A CHAIN that has a value: each of its steps has one too

steps_from : {A B E : Type 0} (P : Result A E → Type 0) (Q : A → Result B E → Type 0) (first : Result A E) (b : B)
    → P first
    → GoesOn Q first (Ok b) → (a : A) × P (Ok a) × Q a (Ok b)
steps_from P Q (Ok a) b p q = (a, p, q)
steps_from P Q (Err e) b p q = absurd (cc)

pub steps : {A B E : Type 0} (P : Result A E → Type 0) (Q : A → Result B E → Type 0) (b : B) → Then P Q (Ok b)
    → (a : A) × P (Ok a) × Q a (Ok b)
steps P Q b h = steps_from P Q h.first b h.first_is h.after

kept : {A : Type 0} (hit : Option LimitHit) (a b : A) → Ok b ≡ unless_passed hit a → b ≡ a
kept None a b e = cc
kept (Some hit) a b e = absurd (cc)

no_longer : (which : Limit) (text t : Excerpt) → Is (no_longer_than which text) (Ok t) → t ≡ text
no_longer which text t e = kept (passed_if which (nat_lt (most_of which) (length text.bytes))) text t e

-- what an orchestra's text means is the typed form of the expansion of a tree
pub record IsMadeOf (text : Excerpt) (o : typed.Orchestra) : Type 0 where
  pub whole : tree.Orchestra
  pub read : IsReadAs text (Ok whole)
  pub made : tree.Orchestra
  pub expanded : expanding whole ≡ Ok made
  pub right : type_fault made ≡ None
  pub typed_is : typed_of made ≡ o

pub made_of : (text : Excerpt) (o : typed.Orchestra) → orchestra_means text (Ok o) → IsMadeOf text o
made_of text o h =
    let first = steps (IsReadAs text) IsTypedAs o h in
    let second = steps (Is (expanding first.0)) (λ e. Is (typed_form e)) o first.2 in
    let typing = judged_ok (type_fault second.0) (typed_of second.0) o second.2 in
    record {
      whole = first.0;
      read = first.1;
      made = second.0;
      expanded = sym second.1;
      right = typing.0;
      typed_is =
          typing.1;
    }

-- a piece that two texts mean: its orchestra, the ranges of its head, and its plot
pub record IsPieceOf (text : Excerpt) (c : Composition) : Type 0 where
  pub typed_orchestra : typed.Orchestra
  pub means : orchestra_means text (Ok typed_orchestra)
  pub head : Head
  pub head_is : typed.header_of_head head ≡ typed_orchestra.head
  pub plot : Plot
  pub is : c ≡ composition typed_orchestra plot

module _ (width : SampleWidth) (orchestra score : Excerpt) (c : Composition) where
  pub piece_is : means width orchestra score (Ok c) → IsPieceOf orchestra c
  piece_is h =
      let orc = steps (Is (no_longer_than limit.OrchestraBytes orchestra)) _ c h in
      let sco = steps (Is (no_longer_than limit.ScoreBytes score)) _ c orc.2 in
      let o = steps (orchestra_means orc.0) (orchestra_plays width sco.0) c sco.2 in
      let head = steps _ _ c o.2 in
      let plot = steps _ _ c head.2 in
      record {
        typed_orchestra = o.0;
        means = subst (λ (t : Excerpt). orchestra_means t (Ok o.0))
            (no_longer limit.OrchestraBytes orchestra orc.0 orc.1) o.1;
        head = head.0;
        head_is = head.1;
        plot = plot.0;
        is = kept (limit_of_piece width o.0 head.0 plot.0) (composition o.0 plot.0) c plot.2;
      }

  -- its header has its numbers in the ranges of a head
  pub head_is_there : means width orchestra score (Ok c) → (head : Head) × (typed.header_of_head head ≡ c.head)
  head_is_there h =
      let piece = piece_is h in
      (piece.head, piece.head_is ∙ sym (ap (λ (x : Composition). x.head) piece.is))
