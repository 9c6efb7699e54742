-- The instruments of a piece mean the instruments of its text.
use Rattle.std.proofs.Common.{◌≡◌, ℕ, ℤ, pos, Bool, true, false, List, [], ◌∷◌, Option, Some, None, Ok, refl, sym}
use Rattle.std.proofs.Common.{subst, ap, ◌∙◌, ⊎_elim, if◌then◌else◌}
use Rattle.std.specs.{List.AllZip, List.Contains, Option.option_map, Ordering.int_eq}
use Rattle.std.proofs.lemmas.Bool.Decides.{Decides-int_eq}
use Rattle.cs_base.specs.{Lines.Excerpt, declared.width.SampleWidth.SampleWidth}
use Rattle.cs_code.specs.Lowered.{bodies, numbered_with}
use Rattle.cs_grammar.specs.{Orchestra.Tree, WellFormed.IsWellFormed}
use Rattle.cs_lex.specs.{Lexed.Lexed, declared.token.Token.Token}
use Rattle.cs_meaning.specs.Core.{Block, core}
use Rattle.cs_piece.specs.Compositions.{body_of, composition}
use Rattle.cs_piece_meaning.specs.Moments.{Composition}
use Rattle.cs_rwset.proofs.Holding.{each_of, of_each}
use Rattle.cs_rwset.proofs.Placed.{contains_cases, contains_first, contains_none, contains_rest}
use Rattle.cs_tempo.specs.declared.plot.Plot.{Plot}
use Rattle.cs_typing.specs.{Known.Shared, Typing.type_fault, Typing.typed_of}
use Rattle.cs_udo.specs.Expanding.{expanding}
use Rattle.cs_udo_meaning.specs.{Lives.MeansFrames, Typed.shared_of}
use Rattle.cs_compile.specs.Calls.{MeansCalls, MeansInstrument}
use Rattle.cs_compile.specs.Meaning.{HasTokens, HasTree, IsReadAs, means}
use Rattle.cs_compile.proofs.Pieces.{made_of, piece_is, steps}
use Rattle.cs_grammar.specs.Tree as tree
use Rattle.cs_typed.specs.TypedTree as typed

-- THE BODY of a number belongs to an instrument with this number

same_some : {A : Type 0} (a b : A) → Some a ≡ Some b → a ≡ b
same_some a b e = cc

abbrev Pairs : Type 0
Pairs = List (ℕ × typed.Block)

pub pairs_have : (ps : Pairs) (z : ℤ) (b : typed.Block) → body_of ps z ≡ Some b
    → (n : ℕ) × (z ≡ pos n) × Contains ps (n, b)
pairs_have [] z b h = absurd (cc)
pairs_have (p ∷ ps) z b h = by (int_eq z (pos p.0)) refl h (λ k. pairs_have ps z b k)
  where
    by : (t : Bool) → int_eq z (pos p.0) ≡ t → (if t then Some p.1 else body_of ps z) ≡ Some b
        → (body_of ps z ≡ Some b → (n : ℕ) × (z ≡ pos n) × Contains ps (n, b))
        → (n : ℕ) × (z ≡ pos n) × Contains (p ∷ ps) (n, b)
    by true e k rest =
        let first = subst (λ (x : typed.Block). Contains (p ∷ ps) (p.0, x)) (same_some p.1 b k) (contains_first p ps) in
        (p.0, (Decides-int_eq z (pos p.0)).0 e, first)
    by false e k rest = let more = rest k in (more.0, more.1, contains_rest p (more.0, b) ps more.2)

pairs_there : (ps : Pairs) (n : ℕ) (b : typed.Block) → Contains ps (n, b)
    → (x : typed.Block) × (body_of ps (pos n) ≡ Some x)
pairs_there [] n b h = absurd (contains_none (n, b) h)
pairs_there (p ∷ ps) n b h =
    ⊎_elim
    (λ same. by (int_eq (pos n) (pos p.0)) (here p (n, b) same))
    (λ later. unless (int_eq (pos n) (pos p.0)) (pairs_there ps n b later))
    (contains_cases p (n, b) ps h)
  where
    here : (p q : ℕ × typed.Block) → p ≡ q → int_eq (pos q.0) (pos p.0) ≡ true
    here p q e = subst (λ (x : ℕ × typed.Block). int_eq (pos x.0) (pos p.0) ≡ true) e
        ((Decides-int_eq (pos p.0) (pos p.0)).1 refl)

    by : (t : Bool) → t ≡ true → (x : typed.Block) × ((if t then Some p.1 else body_of ps (pos n)) ≡ Some x)
    by true e = (p.1, refl)
    by false e = absurd (cc)

    unless : (t : Bool) → (x : typed.Block) × (body_of ps (pos n) ≡ Some x)
        → (x : typed.Block) × ((if t then Some p.1 else body_of ps (pos n)) ≡ Some x)
    unless true m = (p.1, refl)
    unless false m = m

-- the pairs of one instrument
numbered_have : (body : typed.Block) (ns : List ℕ) (n : ℕ) (b : typed.Block) → Contains (numbered_with body ns) (n, b)
    → Contains ns n × (body ≡ b)
numbered_have body [] n b h = absurd (contains_none (n, b) h)
numbered_have body (m ∷ ns) n b h =
    ⊎_elim
    (λ same. let number = ap (λ (p : ℕ × typed.Block). p.0) same in
    (subst (λ (x : ℕ). Contains (m ∷ ns) x) number (contains_first m ns), ap (λ (p : ℕ × typed.Block). p.1) same))
    (λ later. let more = numbered_have body ns n b later in (contains_rest m n ns more.0, more.1))
    (contains_cases (m, body) (n, b) (numbered_with body ns) h)

numbered_there : (body : typed.Block) (ns : List ℕ) (n : ℕ) → Contains ns n → Contains (numbered_with body ns) (n, body)
numbered_there body [] n h = absurd (contains_none n h)
numbered_there body (m ∷ ns) n h =
    ⊎_elim
    (λ same. subst (λ (x : ℕ). Contains (numbered_with body (m ∷ ns)) (x, body)) same
    (contains_first (m, body) (numbered_with body ns)))
    (λ later. contains_rest (m, body) (n, body) (numbered_with body ns) (numbered_there body ns n later))
    (contains_cases m n ns h)

abbrev pairs_of : typed.Instrument → List (ℕ × typed.Block)
pairs_of i = numbered_with i.body i.numbers

pub bodies_have : (is : List typed.Instrument) (n : ℕ) (b : typed.Block) → Contains (bodies is) (n, b)
    → (i : typed.Instrument) × Contains is i × Contains i.numbers n × (i.body ≡ b)
bodies_have is n b h =
    let one = each_of pairs_of is (n, b) h in
    let pair = numbered_have one.0.body one.0.numbers n b one.2 in (one.0, one.1, pair.0, pair.1)

bodies_there : (is : List typed.Instrument) (i : typed.Instrument) (n : ℕ) → Contains is i → Contains i.numbers n
    → Contains (bodies is) (n, i.body)
bodies_there is i n h k = of_each pairs_of is i (n, i.body) h (numbered_there i.body i.numbers n k)

-- INSTRUMENTS AS WRITTEN next to the instruments of the piece

module _ {X Y : Type 0} (R : X → Y → Type 0) where
  zip_left : (xs : List X) (ys : List Y) (y : Y) → AllZip R xs ys → Contains ys y → (x : X) × Contains xs x × R x y
  zip_left [] [] y z h = absurd (contains_none y h)
  zip_left [] (w ∷ ys) y z h = absurd z
  zip_left (x ∷ xs) [] y z h = absurd z
  zip_left (x ∷ xs) (w ∷ ys) y z h =
      ⊎_elim (λ same. (x, contains_first x xs, subst (R x) same z.0))
      (λ later. let more = zip_left xs ys y z.1 later in (more.0, contains_rest x more.0 xs more.1, more.2))
      (contains_cases w y ys h)

  zip_right : (xs : List X) (ys : List Y) (x : X) → AllZip R xs ys → Contains xs x → (y : Y) × Contains ys y × R x y
  zip_right [] [] x z h = absurd (contains_none x h)
  zip_right [] (w ∷ ys) x z h = absurd z
  zip_right (v ∷ xs) [] x z h = absurd z
  zip_right (v ∷ xs) (w ∷ ys) x z h =
      ⊎_elim (λ same. (w, contains_first w ys, subst (λ u. R u w) same z.0))
      (λ later. let more = zip_right xs ys x z.1 later in (more.0, contains_rest w more.0 ys more.1, more.2))
      (contains_cases v x xs h)

pub mapped : {A B : Type 0} (f : A → B) (o : Option A) (b : B) → option_map f o ≡ Some b
    → (a : A) × (o ≡ Some a) × (b ≡ f a)
mapped f None b h = absurd (cc)
mapped f (Some a) b h = (a, refl, sym (same_some (f a) b h))

mapped_there : {A B : Type 0} (f : A → B) (o : Option A) → (a : A) × (o ≡ Some a) → (b : B) × (option_map f o ≡ Some b)
mapped_there f o h = (f h.0, ap (option_map f) h.1)

abbrev pub ExpansionMeans : Type 0 → Type 0
ExpansionMeans W = (o made : tree.Orchestra) → IsWellFormed o → expanding o ≡ Ok made → type_fault made ≡ None
    → AllZip (MeansFrames W o.opcodes (shared_of made)) o.instrs (typed_of made).instrs

abbrev pub AreWellFormed : Type 0
AreWellFormed = (text : Excerpt) (ts : List Token) (o : tree.Orchestra) → Lexed text ts → Tree text.bytes ts o
    → IsWellFormed o

well_formed : AreWellFormed → (text : Excerpt) (o : tree.Orchestra) → IsReadAs text (Ok o) → IsWellFormed o
well_formed well text o h = let first = steps (HasTokens text) (HasTree text) o h in well text first.0 o first.1 first.2

module _ (W : Type 0) (o : tree.Orchestra) (shared : Shared) (t : typed.Orchestra) (plot : Plot)
    (zipped : AllZip (MeansFrames W o.opcodes shared) o.instrs t.instrs) where
  instrument_there : (i : tree.Instrument) (n : ℕ) → Contains o.instrs i → Contains i.numbers n
      → (body : Block) × ((composition t plot).instrument (pos n) ≡ Some body)
  instrument_there i n h k =
      let made = zip_right (MeansFrames W o.opcodes shared) o.instrs t.instrs i zipped h in
      mapped_there (core t.spaces) (body_of (bodies t.instrs) (pos n))
      (pairs_there (bodies t.instrs) n made.0.body
      (bodies_there t.instrs made.0 n made.1 (subst (λ (ns : List ℕ). Contains ns n) (sym made.2.numbers) k)))

  instrument_means : (z : ℤ) (body : Block) → (composition t plot).instrument z ≡ Some body
      → (n : ℕ) × (z ≡ pos n) × MeansInstrument W o shared t.spaces n body
  instrument_means z body h =
      let b = mapped (core t.spaces) (body_of (bodies t.instrs) z) body h in
      let pair = pairs_have (bodies t.instrs) z b.0 b.1 in
      let made = bodies_have t.instrs pair.0 b.0 pair.2 in
      let written = zip_left (MeansFrames W o.opcodes shared) o.instrs t.instrs made.0 zipped made.1 in (
        pair.0,
        pair.1,
        record {
          written = written.0;
          stands = written.1;
          numbered = subst (λ (ns : List ℕ). Contains ns pair.0) written.2.numbers made.2;
          made = made.0;
          body_is = b.2 ∙ ap (core t.spaces) (sym made.3);
          means = written.2;
        },
      )

pub calls_mean : (W : Type 0) → ExpansionMeans W → AreWellFormed
    → (width : SampleWidth) (orchestra score : Excerpt) (c : Composition)
    → means width orchestra score (Ok c) → MeansCalls W orchestra c
calls_mean W frames well width orchestra score c h =
    let piece = piece_is width orchestra score c h in
    let o = made_of orchestra piece.typed_orchestra piece.means in
    let shared = shared_of o.made in
    let mean : AllZip (MeansFrames W o.whole.opcodes shared) o.whole.instrs piece.typed_orchestra.instrs =
    subst (λ (t : typed.Orchestra). AllZip (MeansFrames W o.whole.opcodes shared) o.whole.instrs t.instrs) o.typed_is
    (frames o.whole o.made (well_formed well orchestra o.whole o.read) o.expanded o.right) in
    subst (λ (x : Composition). MeansCalls W orchestra x) (sym piece.is) (record {
      orchestra = o.whole;
      read = o.read;
      expansion = o.made;
      expanded = o.expanded;
      there = instrument_there W o.whole shared piece.typed_orchestra piece.plot mean;
      each = instrument_means W o.whole shared piece.typed_orchestra piece.plot mean;
    })
