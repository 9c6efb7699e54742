-- Every tree is well formed, and its lines increase.
use Rattle.std.proofs.Common.{◌≡◌, ◌≢◌, ◌∙◌, ◌≤◌, ◌<◌, ◌++◌, ◌+◌, ◌-◌, ◌&&◌, inl, inr, codes, Option, Some, None, take}
use Rattle.std.proofs.Common.{drop, ℕ, suc, Bool, true, false, [], List, ◌∷◌, length, nat_le, if◌then◌else◌, refl}
use Rattle.std.proofs.Common.{arith, sym, ap, subst}
use Rattle.std.specs.{Prelude.get_or, Prelude.slice_range, List.All, List.AllPairs, List.list_all, Str.byte}
use Rattle.std.proofs.lemmas.List.Elements.{All-nil, All-cons, All-append, All-head, All-tail}
use Rattle.cs_lex.specs.{declared.token.Mark.Mark, declared.token.Token.Token, Lexed.Lexed, Lexed.Precedes}
use Rattle.cs_lex.specs.{Lexed.IsEndedBy, Bytes.is_letter, Bytes.is_word_byte, Rows.Fits}
use Rattle.cs_lex.specs.Lexed.{TextPiece, text_of, AllFit, token_at, token_of, tokens_after, is_newline, merged, end_of}
use Rattle.cs_base.specs.Lines.{Excerpt, begins}
use Rattle.std.proofs.lemmas.{Bool.and_parts, List.append_assoc}
use Rattle.cs_grammar.specs.{Tree.Orchestra, Orchestra.Tree}
use Rattle.cs_grammar.specs.WellFormed.{HasNoStop, IsWellFormed, InOrder}
use Rattle.cs_grammar.specs.{declared.symbol.Kind.Kind, Kinds.is}
use Rattle.cs_grammar.specs.Symbols.{Symbol, symbols, symbols_from, kind_after, kind_of_mark, counted, bytes_of}
use Rattle.cs_grammar.proofs.FineOrc.{NoStops, Words, words_after, words_next, words_from, fine_orc}
use Rattle.cs_grammar.proofs.Order.{From, Sorted, in_order}
use Rattle.cs_lex.specs.declared.token.Mark.TheVariants as mark
use Rattle.cs_grammar.specs.declared.symbol.Kind.TheVariants as kind
use Rattle.cs_grammar.specs.declared.symbol.Expected.TheVariants as expected

-- ---- words have no full stop

stopless : (b : ℕ) → is_word_byte b ≡ true → b ≢ byte "."
stopless b e q = let k : true ≡ false = sym e ∙ ap is_word_byte q in cc

all_stopless : (bs : List ℕ) → list_all is_word_byte bs ≡ true → HasNoStop bs
all_stopless [] e = All-nil (λ b. b ≢ byte ".")
all_stopless (b ∷ bs) e =
    let parts = and_parts (is_word_byte b) (list_all is_word_byte bs) e in
    All-cons (λ b. b ≢ byte ".") b bs (stopless b parts.0) (all_stopless bs parts.1)

word_stopless : (span after : List ℕ) → Fits (Some mark.Word) span after → HasNoStop span
word_stopless span after (inl h) =
    all_stopless span (and_parts (begins is_letter span) (list_all is_word_byte span) h.fits).1
word_stopless span after (inr h) = subst HasNoStop (sym h.0) (all_stopless (codes "0dbfs") refl)

behind : (before rest : List ℕ) → drop (length before) (before ++ rest) ≡ rest
behind [] rest = refl
behind (b ∷ before) rest = behind before rest

front : (span rest : List ℕ) → take (length span) (span ++ rest) ≡ span
front [] rest = refl
front (b ∷ span) rest = ap (λ x. b ∷ x) (front span rest)

span_there : (before span rest : List ℕ)
    → slice_range (before ++ (span ++ rest)) (length before) (length before + length span) ≡ span
span_there before span rest =
    let n : length before + length span - length before ≡ length span = omega arith in
    ap (take (length before + length span - length before)) (behind before (span ++ rest))
    ∙ ap (λ k. take k (span ++ rest)) n ∙ front span rest

of_piece : (first : ℕ) (source before : List ℕ) (m : Option Mark) (span rest : List ℕ)
    → source ≡ before ++ (span ++ rest)
    → Fits m span rest
    → All (NoStops source) (token_of first m before span)
of_piece first source before None span rest i f = All-nil (NoStops source)
of_piece first source before (Some m) span rest i f =
    All-cons (NoStops source) (token_at first m before span) []
    (λ e. subst HasNoStop (sym
    (ap (λ x. slice_range x (length before) (length before + length span)) i ∙ span_there before span rest))
    (word_stopless span rest (subst (λ x. Fits (Some x) span rest) e f))) (All-nil (NoStops source))

of_pieces : (first : ℕ) (source before : List ℕ) (ps : List TextPiece) → source ≡ before ++ (text_of ps ++ [])
    → AllFit ps []
    → All (NoStops source) (tokens_after first before ps)
of_pieces first source before [] i f = All-nil (NoStops source)
of_pieces first source before (p ∷ ps) i f =
    let whole : source ≡ before ++ (p.span ++ (text_of ps ++ [])) =
    i ∙ ap (λ x. before ++ x) (append_assoc p.span (text_of ps) []) in
    All-append (NoStops source) (token_of first p.mark before p.span) (tokens_after first (before ++ p.span) ps)
    (of_piece first source before p.mark p.span (text_of ps ++ []) whole f.0)
    (of_pieces first source (before ++ p.span) ps (whole ∙ sym (append_assoc before p.span (text_of ps ++ []))) f.1)

of_merged : (source : List ℕ) (fed : Bool) (ts : List Token) → All (NoStops source) ts
    → All (NoStops source) (merged fed ts)
of_merged source fed [] h = All-nil (NoStops source)
of_merged source fed (t ∷ ts) h =
    by (fed && is_newline t) (merged (is_newline t) ts) (All-head (NoStops source) t ts h)
    (of_merged source (is_newline t) ts (All-tail (NoStops source) t ts h))
  where
    by : (b : Bool) (us : List Token) → NoStops source t → All (NoStops source) us
        → All (NoStops source) ((if b then [] else t ∷ []) ++ us)
    by true us h k = k
    by false us h k = All-cons (NoStops source) t us h k

words_have_no_stop : (text : Excerpt) (ts : List Token) → Lexed text ts → All (NoStops text.bytes) ts
words_have_no_stop text ts (ps, cut, is) =
    let source = text.bytes in
    let tokens = tokens_after text.first_line [] ps in
    subst (All (NoStops source)) (sym is)
    (All-append (NoStops source) (merged true tokens) (end_of text ∷ [])
    (of_merged source true tokens (of_pieces text.first_line source [] ps cut.whole cut.fit))
    (All-cons (NoStops source) (end_of text) [] (λ e. cc) (All-nil (NoStops source))))

-- ---- the laws

pub tree_is_well_formed : (text : Excerpt) (tokens : List Token) (o : Orchestra) → Lexed text tokens
    → Tree text.bytes tokens o → IsWellFormed o
tree_is_well_formed text tokens o l (rest, h) =
    let f = fine_orc Words words_after words_next Words (λ ts q e. words_after ts q) (λ ts q e. q) (λ ts q. q) h
    (words_from text.bytes 0 tokens (words_have_no_stop text tokens l)) in
    record {
      outside = f.outside_all;
      instruments = f.instruments;
      definitions = f.definitions;
      numbers =
          f.numbers;
      opcodes = f.opcodes;
    }

-- ---- symbols are on the lines of their tokens

abbrev or_beyond : Bool → Kind → Kind
or_beyond b k = if b then kind.Beyond else k

mark_feeds : (place : ℕ) (m : Mark) (bytes : List ℕ) → kind_after place m bytes ≡ kind.NewLine → m ≡ mark.NewLine
mark_feeds place mark.NewLine bytes e = refl
mark_feeds place mark.End bytes e = cc
mark_feeds place mark.Word bytes e = by (nat_le 1000 place) e
  where
    by : (b : Bool) → or_beyond b (kind_of_mark mark.Word bytes) ≡ kind.NewLine → mark.Word ≡ mark.NewLine
    by true e = cc
    by false e = cc
mark_feeds place (mark.Number v) bytes e = by (nat_le 1000 place) e
  where
    by : (b : Bool) → or_beyond b (kind.Number v) ≡ kind.NewLine → mark.Number v ≡ mark.NewLine
    by true e = cc
    by false e = cc
mark_feeds place mark.Text bytes e = by (nat_le 1000 place) e
  where
    by : (b : Bool) → or_beyond b kind.Text ≡ kind.NewLine → mark.Text ≡ mark.NewLine
    by true e = cc
    by false e = cc
mark_feeds place mark.Sign bytes e = by (nat_le 1000 place) e
  where
    by : (b : Bool) → or_beyond b (kind_of_mark mark.Sign bytes) ≡ kind.NewLine → mark.Sign ≡ mark.NewLine
    by true e = cc
    by false e = cc

mark_ends : (place : ℕ) (m : Mark) (bytes : List ℕ) → is expected.End (kind_after place m bytes) ≡ true → m ≡ mark.End
mark_ends place mark.NewLine bytes e = cc
mark_ends place mark.End bytes e = refl
mark_ends place mark.Word bytes e = by (nat_le 1000 place) e
  where
    by : (b : Bool) → is expected.End (or_beyond b (kind_of_mark mark.Word bytes)) ≡ true → mark.Word ≡ mark.End
    by true e = cc
    by false e = cc
mark_ends place (mark.Number v) bytes e = by (nat_le 1000 place) e
  where
    by : (b : Bool) → is expected.End (or_beyond b (kind.Number v)) ≡ true → mark.Number v ≡ mark.End
    by true e = cc
    by false e = cc
mark_ends place mark.Text bytes e = by (nat_le 1000 place) e
  where
    by : (b : Bool) → is expected.End (or_beyond b kind.Text) ≡ true → mark.Text ≡ mark.End
    by true e = cc
    by false e = cc
mark_ends place mark.Sign bytes e = by (nat_le 1000 place) e
  where
    by : (b : Bool) → is expected.End (or_beyond b (kind_of_mark mark.Sign bytes)) ≡ true → mark.Sign ≡ mark.End
    by true e = cc
    by false e = cc

end_is_end : (place : ℕ) (m : Mark) (bytes : List ℕ) → is expected.End (kind_after place m bytes) ≡ false → m ≢ mark.End
end_is_end place m bytes e q =
    let k : true ≡ false = ap (λ x. is expected.End (kind_after place x bytes)) (sym q) ∙ e in cc

from_all : (source : List ℕ) (place n : ℕ) (us : List Token) → All (λ u. u.mark ≢ mark.End → n ≤ u.line) us
    → From n (symbols_from source place us)
from_all source place n [] h = tt
from_all source place n (u ∷ us) h = (
  (λ e. All-head (λ u. u.mark ≢ mark.End → n ≤ u.line) u us h (end_is_end place u.mark (bytes_of source u) e)),
  from_all source (counted place u.mark) n us (All-tail (λ u. u.mark ≢ mark.End → n ≤ u.line) u us h),
)

-- End is the last token and appears only there
abbrev EndsLast : List Token → Type 0
EndsLast [] = Unit {0}
EndsLast (t ∷ ts) = (t.mark ≡ mark.End → ts ≡ []) × EndsLast ts

end_last : (front : List Token) (e : Token) → All (λ t. t.mark ≢ mark.End) front → EndsLast (front ++ e ∷ [])
end_last [] e h = ((λ x. refl), tt)
end_last (t ∷ front) e h = (
  (λ x. absurd (All-head (λ t. t.mark ≢ mark.End) t front h x)),
  end_last front e
      (All-tail (λ t. t.mark ≢ mark.End) t front h),
)

ends_last : (front ts : List Token) (e : Token) → ts ≡ front ++ e ∷ [] → All (λ t. t.mark ≢ mark.End) front
    → EndsLast ts
ends_last front ts e i h = subst EndsLast (sym i) (end_last front e h)

sorted_from : (source : List ℕ) (place : ℕ) (ts : List Token) → AllPairs Precedes ts → AllPairs IsEndedBy ts
    → EndsLast ts
    → Sorted (symbols_from source place ts)
sorted_from source place [] p q l = tt
sorted_from source place (t ∷ ts) p q l = (
  record {
    same = from_all source (counted place t.mark) t.line ts
        (λ k d lt n. (p 0 (suc k) d (omega arith) (omega (arith, lt))).1);
    feed = λ e. from_all source (counted place t.mark) (suc t.line) ts
        (λ k d lt n. let w : t.line < (get_or ts k d).line =
        q 0 (suc k) d (omega arith) (omega (arith, lt)) (mark_feeds place t.mark (bytes_of source t) e)
        n in omega (arith, w));
    last = λ e n. subst (λ us. From n (symbols_from source (counted place t.mark) us))
        (sym (l.0 (mark_ends place t.mark (bytes_of source t) e))) tt;
  },
  sorted_from source (counted place t.mark) ts
      (λ i j d lt w. p (suc i) (suc j) d (omega (arith, lt)) (omega (arith, w)))
      (λ i j d lt w. q (suc i) (suc j) d (omega (arith, lt)) (omega (arith, w))) l.1,
)

from_zero : (ts : List Symbol) → From 0 ts
from_zero [] = tt
from_zero (t ∷ ts) = ((λ e. omega arith), from_zero ts)

pub tree_in_order : (text : Excerpt) (tokens front : List Token) (e : Token) (o : Orchestra) → AllPairs Precedes tokens
    → AllPairs IsEndedBy tokens
    → tokens ≡ front ++ e ∷ [] → All (λ t. t.mark ≢ mark.End) front → Lexed text tokens
    → Tree text.bytes tokens o → InOrder o
tree_in_order text tokens front e o p q i h l (rest, k) =
    in_order k (
      words_from text.bytes 0 tokens (words_have_no_stop text tokens l),
      sorted_from text.bytes 0 tokens p q (ends_last front tokens e i h),
      from_zero
          (symbols text.bytes tokens),
    )
