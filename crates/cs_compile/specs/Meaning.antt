-- What two texts mean: the composition that is performed, or the first refusal, in the order in which
-- refusals are looked for. Each refusal has its line in the file that contains its text.
use Rattle.std.specs.Prelude.{ℕ, ◌≡◌, ◌*◌, Bool, nat_lt, List, length, Option, Some, None, Result, Ok, Err}
use Rattle.std.specs.{Prelude.if◌then◌else◌, Option.option_or}
use Rattle.cs_base.specs.{Limits.most_of, Limits.most_wav_bytes, Lines.Excerpt, declared.fault.OrcKind.OrcKind}
use Rattle.cs_base.specs.{declared.head.Head.Head, declared.limit.Limit.Limit, declared.limit.LimitHit.LimitHit}
use Rattle.cs_base.specs.{declared.refusal.Refusal.Refusal, declared.width.SampleWidth.SampleWidth}
use Rattle.cs_cells.specs.Areas.{limit_passed}
use Rattle.cs_compile.specs.Then.{Is, Then}
use Rattle.cs_piece_meaning.specs.Moments.{Composition}
use Rattle.cs_grammar.specs.Orchestra.{ParseFault, Tree}
use Rattle.cs_lex.specs.{Lexed.LexFault, Lexed.Lexed, declared.token.Token.Token}
use Rattle.cs_score.specs.{Statements.score_of, declared.statement.ScoreStmt.ScoreStmt}
use Rattle.cs_piece.specs.Compositions.{areas_in, composition}
use Rattle.cs_tempo.specs.{Limits.limit_of, Plot.plot_of, declared.plot.Plot.Plot}
use Rattle.cs_typed.specs.Places.{Header}
use Rattle.cs_typing.specs.Typing.{typing}
use Rattle.cs_udo.specs.Expanding.{expanding}
use Rattle.cs_wav.specs.Wav.{size_of}
use Rattle.cs_base.specs.declared.limit.Limit.TheVariants as limit
use Rattle.cs_base.specs.declared.refusal.Refusal.TheVariants as why
use Rattle.cs_grammar.specs.Tree as tree
use Rattle.cs_typed.specs.TypedTree as typed

-- how a part of the orchestra is read: as a value, or as its first fault by line and kind
abbrev pub IsRead : {A : Type 0} → (A → Type 0) → (ℕ → OrcKind → Type 0) → Result A Refusal → Type 0
IsRead IsValue IsFault (Ok a) = IsValue a
IsRead IsValue IsFault (Err (why.Orc f)) = IsFault f.line f.kind
IsRead IsValue IsFault (Err (why.Score f)) = ⊥
IsRead IsValue IsFault (Err (why.Limit hit)) = ⊥
IsRead IsValue IsFault (Err (why.Csd f)) = ⊥

-- a result whose faults become refusals of this kind
abbrev pub refused_as : {A F : Type 0} → (F → Refusal) → Result A F → Result A Refusal
refused_as kind (Ok a) = Ok a
refused_as kind (Err f) = Err (kind f)

-- a value, unless a limit is exceeded
abbrev pub unless_passed : {A : Type 0} → Option LimitHit → A → Result A Refusal
unless_passed None a = Ok a
unless_passed (Some hit) a = Err (why.Limit hit)

-- a limit that no particular line exceeds, if b holds
abbrev pub passed_if : Limit → Bool → Option LimitHit
passed_if which b = if b then Some (record { limit = which; line = 0 }) else None

-- a text, unless it has more bytes than a limit allows
abbrev pub no_longer_than : Limit → Excerpt → Result Excerpt Refusal
no_longer_than which text = unless_passed (passed_if which (nat_lt (most_of which) (length text.bytes))) text

-- AN ORCHESTRA by itself: its tokens, their tree, the tree with the calls of user-defined opcodes expanded,
-- and its typed form

-- the tokens of a text, or the first fault
abbrev pub HasTokens : Excerpt → Result (List Token) Refusal → Type 0
HasTokens text = IsRead (Lexed text) (LexFault text)

-- the tree of the tokens, or the first fault
abbrev pub HasTree : Excerpt → List Token → Result tree.Orchestra Refusal → Type 0
HasTree text tokens = IsRead (Tree text.bytes tokens) (ParseFault text.bytes tokens)

-- the tree of an orchestra's text, or the first fault
abbrev pub IsReadAs : Excerpt → Result tree.Orchestra Refusal → Type 0
IsReadAs text = Then (HasTokens text) (HasTree text)

-- the typed form of a tree, or the refusal of the first broken rule
abbrev pub typed_form : tree.Orchestra → Result typed.Orchestra Refusal
typed_form t = refused_as why.Orc (typing t)

-- the typed form of a tree whose calls are expanded
abbrev pub IsTypedAs : tree.Orchestra → Result typed.Orchestra Refusal → Type 0
IsTypedAs t = Then (Is (expanding t)) (λ e. Is (typed_form e))

-- what an orchestra's text means by itself
abbrev pub orchestra_means : Excerpt → Result typed.Orchestra Refusal → Type 0
orchestra_means text = Then (IsReadAs text) IsTypedAs

-- A SCORE in a piece with this head: its statements, and their plot. All its faults come before its first
-- limit.

-- the plot of statements, or the first fault or limit
abbrev pub plotted : Head → List ScoreStmt → Result Plot Refusal
plotted head score = unless_passed (limit_of head score) (plot_of head score)

-- what a score's text means in a piece with this head
abbrev pub score_means : Head → Excerpt → Result Plot Refusal → Type 0
score_means head text = Then (Is (refused_as why.Score (score_of text))) (λ score. Is (plotted head score))

-- A PIECE of an orchestra and a plot, in samples of this width

-- the samples of these cycles have more bytes than a sound file may have
abbrev pub is_too_long : SampleWidth → Head → ℕ → Bool
is_too_long width head cycles = nat_lt most_wav_bytes (size_of width (cycles * head.ksmps) head)

-- the first limit that the piece exceeds: on resources, on their words, on the bytes of its samples
abbrev pub limit_of_piece : SampleWidth → typed.Orchestra → Head → Plot → Option LimitHit
limit_of_piece width o head plot =
    option_or (limit_passed (areas_in o plot.events)) (passed_if limit.WavBytes (is_too_long width head plot.cycles))

-- the composition of an orchestra and a plot, unless a limit is exceeded
abbrev pub piece_of : SampleWidth → typed.Orchestra → Head → Plot → Result Composition Refusal
piece_of width o head plot = unless_passed (limit_of_piece width o head plot) (composition o plot)

-- a header with the ranges of its numbers; the header of a typed orchestra has them
abbrev pub HasHead : Header → Result Head Refusal → Type 0
HasHead h (Ok head) = typed.header_of_head head ≡ h
HasHead h (Err r) = ⊥

-- a score that is played by this orchestra
abbrev pub IsPlayedAs : SampleWidth → Excerpt → typed.Orchestra → Head → Result Composition Refusal → Type 0
IsPlayedAs width score o head = Then (score_means head score) (λ plot. Is (piece_of width o head plot))

-- a score that is played by this orchestra, whose header has its ranges
abbrev pub orchestra_plays : SampleWidth → Excerpt → typed.Orchestra → Result Composition Refusal → Type 0
orchestra_plays width score o = Then (HasHead o.head) (IsPlayedAs width score o)

-- what two texts mean if neither is too long
abbrev pub short_texts_mean : SampleWidth → Excerpt → Excerpt → Result Composition Refusal → Type 0
short_texts_mean width orchestra score = Then (orchestra_means orchestra) (orchestra_plays width score)

-- TWO TEXTS mean a composition in samples of this width, or have this first refusal.
abbrev pub means : SampleWidth → Excerpt → Excerpt → Result Composition Refusal → Type 0
means width orchestra score =
    Then (Is (no_longer_than limit.OrchestraBytes orchestra)) (λ orc.
    Then (Is (no_longer_than limit.ScoreBytes score)) (λ sco.
    short_texts_mean width orc sco))
