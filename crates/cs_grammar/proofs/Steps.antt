-- The parser's steps through the tokens.
use Rattle.std.proofs.Common.{◌≡◌, ◌<◌, ◌≤◌, ◌+◌, ◌^◌, ◌∙◌, ℕ, suc, Bool, true, false, not, List, [], ◌∷◌, length}
use Rattle.std.proofs.Common.{Option, Some, None, if◌then◌else◌, refl, sym, ap, subst, arith}
use Rattle.std.specs.{List.All, Option.IfSome}
use Rattle.std.proofs.lemmas.List.Elements.{All-head, All-tail}
use Rattle.cs_lex.specs.declared.token.Token.{Token}
use Rattle.cs_grammar.specs.{Inputs.is_free, inner.Takes.plus_one, inner.Takes.input_count, Reading.next_is}
use Rattle.cs_grammar.specs.{Reading.Scope}
use Rattle.cs_grammar.specs.Kinds.{is}
use Rattle.cs_grammar.specs.Symbols.{Symbol, symbols_from, counted, Spanned, next, after}
use Rattle.cs_grammar.specs.declared.symbol.Expected.TheVariants as expected

-- the bytes of all tokens are within the text
pub spanned : (size : ℕ) (ts : List Token) → All (λ t. (t.from ≤ t.to) × (t.to ≤ size)) ts → Spanned size ts
spanned size [] h = tt
spanned size (t ∷ ts) h =
    let one = All-head (λ u. (u.from ≤ u.to) × (u.to ≤ size)) t ts h in
    (one.0, one.1, spanned size ts (All-tail (λ u. (u.from ≤ u.to) × (u.to ≤ size)) t ts h))

-- each token is one symbol
pub symbols_length : (source : List ℕ) (place : ℕ) (ts : List Token) → length (symbols_from source place ts) ≡ length ts
symbols_length source place [] = refl
symbols_length source place (t ∷ ts) = ap (λ n. suc n) (symbols_length source (counted place t.mark) ts)

pub short_left : (source : List ℕ) (place : ℕ) (ts : List Token) → place + length ts < 2 ^ 63
    → length (symbols_from source place ts) < 2 ^ 63
short_left source place ts h = omega (arith, symbols_length source place ts, h)

-- ---- the words before `xin`

abbrev counted_by : Bool → Bool → Bool → Option ℕ → Option ℕ
counted_by free xin comma more =
    if not free then None else (if xin then Some 1 else (if comma then plus_one more else None))

pub past_comma : (ts : List Symbol) → next_is expected.Comma (after ts) ≡ true → length (after (after ts)) < length ts
past_comma [] c = absurd (cc c)
past_comma (t ∷ []) c = absurd (cc c)
past_comma (t ∷ d ∷ us) c = omega arith

-- there is at least one word, and there are no more words than symbols
words_within : (s : Scope) (ts : List Symbol) → IfSome (input_count s ts) (λ n. (n ≤ length ts) × (1 ≤ n))
words_within s [] = tt
words_within s (t ∷ []) = tt
words_within s (t ∷ c ∷ us) =
    by (is_free s t) (is expected.Xin c.kind) (is expected.Comma c.kind) (input_count s us) (words_within s us)
  where
    by : (free xin comma : Bool) (o : Option ℕ) → IfSome o (λ n. (n ≤ length us) × (1 ≤ n))
        → IfSome (counted_by free xin comma o) (λ n. (n ≤ suc (suc (length us))) × (1 ≤ n))
    by false xin comma o h = tt
    by true true comma o h = (omega arith, omega arith)
    by true false true (Some n) h = (omega (arith, h.0), omega arith)
    by true false true None h = tt
    by true false false o h = tt

pub few_words : (s : Scope) (ts : List Symbol) (o : Option ℕ) → o ≡ input_count s ts → length ts < 2 ^ 63
    → IfSome o (λ n. n < 2 ^ 63)
few_words s ts o e l = by o (subst (λ q. IfSome q (λ n. (n ≤ length ts) × (1 ≤ n))) (sym e) (words_within s ts))
  where
    by : (q : Option ℕ) → IfSome q (λ n. (n ≤ length ts) × (1 ≤ n)) → IfSome q (λ n. n < 2 ^ 63)
    by None h = tt
    by (Some n) h = omega (arith, h.0, l)

pub some_word : (s : Scope) (ts : List Symbol) (o : Option ℕ) → o ≡ input_count s ts → IfSome o (λ n. 1 ≤ n)
some_word s ts o e = by o (subst (λ q. IfSome q (λ n. (n ≤ length ts) × (1 ≤ n))) (sym e) (words_within s ts))
  where
    by : (q : Option ℕ) → IfSome q (λ n. (n ≤ length ts) × (1 ≤ n)) → IfSome q (λ n. 1 ≤ n)
    by None h = tt
    by (Some n) h = h.1
