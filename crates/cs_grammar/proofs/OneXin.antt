-- Every text has exactly one reading as the first line of a definition: the steps find what the relation
-- states.
use Rattle.std.proofs.Common.{◌≡◌, ◌≢◌, ◌∙◌, ◌≤◌, ◌+◌, ◌++◌, ◌&&◌, ◌||◌, not, ℕ, zero, suc, Bool, true, false, List, []}
use Rattle.std.proofs.Common.{◌∷◌, length, map, Option, Some, None, Ok, Err, if◌then◌else◌, refl, arith, sym, ap, subst}
use Rattle.std.specs.{Prelude.slice_index_or, List.All, Str.bytes_eq}
use Rattle.std.proofs.lemmas.Bool.{and_parts, and_from, or_parts, not-true, not_from_false, false_from_ne_true}
use Rattle.std.proofs.lemmas.List.Elements.{All-nil, All-cons, All-head, All-tail, All-weaker}
use Rattle.std.proofs.lemmas.{List.Kept.AllPairs-cons, Slice.Eq.bytes_eq-Decides}
use Rattle.cs_base.specs.{declared.resource.Rate.Rate, Rates.same_rate}
use Rattle.cs_base.proofs.Rates.{same_rate_is, same_rate_here}
use Rattle.cs_words.specs.{declared.word.Word.Word, Names.name_rate, NameSets.has}
use Rattle.cs_grammar.specs.{Parts.is_opcode, Headings.Heading}
use Rattle.cs_grammar.specs.inner.Takes.{taken, inputs, plus_one, input_count, words, at_xin, is_input, are_inputs}
use Rattle.cs_grammar.specs.inner.Takes.{is_none, no_names}
use Rattle.cs_grammar.specs.Reading.{Reading, left, next_is, Scope, fault, ended}
use Rattle.cs_grammar.specs.Inputs.{is_free, XinLine, one_word, more_words, is_local, texts, AreDifferent, NameInputs}
use Rattle.cs_grammar.specs.Inputs.{ReadsInputs, named, misnamed, xin_alone, no_inputs, xin_missing}
use Rattle.cs_grammar.specs.{declared.symbol.Kind.Kind, Symbols.Symbol, Symbols.after, Kinds.is, Kinds.is_plain}
use Rattle.cs_grammar.proofs.Sizes.{size, after_size, ended_size, choice_size}
use Rattle.cs_base.specs.declared.fault.OrcKind.TheVariants as orc
use Rattle.cs_words.specs.declared.word.Word.TheVariants as word
use Rattle.cs_grammar.specs.declared.symbol.Kind.TheVariants as kind
use Rattle.cs_grammar.specs.declared.symbol.Expected.TheVariants as expected

count : List Symbol → ℕ
count [] = zero
count (w ∷ ws) = suc (count ws)

-- whether words name the inputs, following the names `before`
are_words : Scope → List (List ℕ) → List Rate → List Symbol → Bool
are_words s before [] [] = true
are_words s before (r ∷ rs) (w ∷ ws) = is_input s before r w && are_words s (before ++ w.text ∷ []) rs ws
are_words s before _ _ = false

-- ---- a line of `xin`, and the result of the steps for it

record Found (s : Scope) (ts ws xin : List Symbol) : Type 0 where
  pub counted : input_count s ts ≡ Some (count ws)
  pub some : (n : ℕ) × (count ws ≡ suc n)
  pub reached : at_xin (count ws) ts ≡ xin
  pub texts_are : words (count ws) ts ≡ texts ws
  pub fit : (before : List (List ℕ)) (ins : List Rate)
      → are_inputs s before ins (count ws) ts ≡ are_words s before ins ws

none_fit : (s : Scope) (before : List (List ℕ)) (rs : List Rate) (ts : List Symbol)
    → are_inputs s before rs zero ts ≡ are_words s before rs []
unfolding are_words
none_fit s before [] ts = refl
none_fit s before (r ∷ rs) ts = refl

comma_no_xin : (k : Kind) → is expected.Comma k ≡ true → is expected.Xin k ≡ false
comma_no_xin (kind.Sign g) e = refl
comma_no_xin _ e = cc

later : (k n : ℕ) (t c : Symbol) (ts : List Symbol) → k ≡ suc n → at_xin (suc k) (t ∷ c ∷ ts) ≡ at_xin k ts
later zero n t c ts e = absurd (omega (arith, e))
later (suc m) n t c ts e = refl

abbrev counted_by : Bool → Bool → Bool → Option ℕ → Option ℕ
counted_by free xin comma more =
    if not free then None else (if xin then Some 1 else (if comma then plus_one more else None))

found : {s : Scope} {ts ws xin : List Symbol} → XinLine s ts ws xin → Found s ts ws xin
unfolding count are_words
found (one_word {xin = []} f x) = cc
found {s} (one_word {t = t} {xin = c ∷ us} f x) = record {
  counted = ap (λ b. counted_by b (is expected.Xin c.kind) (is expected.Comma c.kind) (input_count s us)) f
      ∙ ap (λ b. counted_by true b (is expected.Comma c.kind) (input_count s us)) x;
  some = (zero, refl);
  reached = refl;
  texts_are = refl;
  fit = by;
}
  where
    by : (before : List (List ℕ)) (ins : List Rate)
        → are_inputs s before ins 1 (t ∷ c ∷ us) ≡ are_words s before ins (t ∷ [])
    by before [] = refl
    by before (r ∷ rs) = ap (λ b. is_input s before r t && b) (none_fit s (before ++ t.text ∷ []) rs us)
found {s} (more_words {t} {comma} {ts} {words = ws} f c h) =
    let i = found h in
    record {
      counted = ap (λ b. counted_by b (is expected.Xin comma.kind) (is expected.Comma comma.kind) (input_count s ts)) f
          ∙ ap (λ b. counted_by true b (is expected.Comma comma.kind) (input_count s ts)) (comma_no_xin comma.kind c)
          ∙ ap (λ b. counted_by true false b (input_count s ts)) c ∙ ap plus_one i.counted
          ∙ (let e : count ws + 1 ≡ suc (count ws) = omega arith in ap Some e);
      some = (count ws, refl);
      reached = later (count ws) i.some.0 t comma ts i.some.1 ∙ i.reached;
      texts_are = ap (λ ns. t.text ∷ ns) i.texts_are;
      fit = by i;
    }
  where
    by : {xin : List Symbol} → Found s ts ws xin → (before : List (List ℕ)) (ins : List Rate)
        → are_inputs s before ins (suc (count ws)) (t ∷ comma ∷ ts) ≡ are_words s before ins (t ∷ ws)
    by i before [] = refl
    by i before (r ∷ rs) = ap (λ b. is_input s before r t && b) (i.fit (before ++ t.text ∷ []) rs)

record Line (s : Scope) (ts : List Symbol) : Type 0 where
  pub words : List Symbol
  pub xin : List Symbol
  pub line : XinLine s ts words xin

line_at : (s : Scope) (ts : List Symbol) (n : ℕ) → input_count s ts ≡ Some n → Line s ts
line_at s [] n e = cc
line_at s (t ∷ []) n e = cc
line_at s (t ∷ c ∷ us) n e =
    by (λ m z. line_at s us m z) (is_free s t) (is expected.Xin c.kind) (is expected.Comma c.kind) (input_count s us)
    refl refl refl refl e
  where
    by : ((m : ℕ) → input_count s us ≡ Some m → Line s us) → (free xin comma : Bool) (o : Option ℕ) → is_free s t ≡ free
        → is expected.Xin c.kind ≡ xin
        → is expected.Comma c.kind ≡ comma → input_count s us ≡ o → counted_by free xin comma o ≡ Some n
        → Line s (t ∷ c ∷ us)
    by ih false xin comma o f x y z e = cc
    by ih true true comma o f x y z e = record { words = t ∷ []; xin = c ∷ us; line = one_word f x }
    by ih true false true (Some m) f x y z e =
        let i = ih m z in
        record { words = t ∷ i.words; xin = i.xin; line = more_words f y i.line }
    by ih true false true None f x y z e = cc
    by ih true false false o f x y z e = cc

no_line : (s : Scope) (ts : List Symbol) → input_count s ts ≡ None → (ws xin : List Symbol) → XinLine s ts ws xin → ⊥
no_line s ts e ws xin h = let k : None ≡ Some (count ws) = sym e ∙ (found h).counted in cc

none_counted : (s : Scope) (ts : List Symbol) → ((ws xin : List Symbol) → XinLine s ts ws xin → ⊥)
    → input_count s ts ≡ None
none_counted s ts h = by (input_count s ts) refl
  where
    by : (o : Option ℕ) → input_count s ts ≡ o → input_count s ts ≡ None
    by None e = e
    by (Some n) e = let i = line_at s ts n e in absurd (h i.words i.xin i.line)

plain_word : (w : Word) (b : Bool) → (is_plain (kind.Word w) && b) ≡ true → is expected.Xin (kind.Word w) ≡ false
plain_word (word.Keyword k) b e = cc
plain_word _ b e = refl

free_no_xin : (k : Kind) (b : Bool) → (is_plain k && b) ≡ true → is expected.Xin k ≡ false
free_no_xin (kind.Word w) b e = plain_word w b e
free_no_xin _ b e = refl

line_no_xin : {s : Scope} {ts ws xin : List Symbol} → XinLine s ts ws xin → next_is expected.Xin ts ≡ false
line_no_xin {s} (one_word {t} f x) = free_no_xin t.kind (not (is_opcode s t.text t.kind)) f
line_no_xin {s} (more_words {t} f c h) = free_no_xin t.kind (not (is_opcode s t.text t.kind)) f

-- ---- words that name the inputs

or_false : (b : Bool) → (b || false) ≡ b
or_false true = refl
or_false false = refl

pub has_snoc : (names : List (List ℕ)) (w n : List ℕ) → has (names ++ w ∷ []) n ≡ (has names n || bytes_eq n w)
has_snoc [] w n = or_false (bytes_eq n w)
has_snoc (x ∷ names) w n = by (bytes_eq n x) (has_snoc names w n)
  where
    by : (b : Bool) → has (names ++ w ∷ []) n ≡ (has names n || bytes_eq n w)
        → (b || has (names ++ w ∷ []) n) ≡ ((b || has names n) || bytes_eq n w)
    by true h = refl
    by false h = h

pub differs : (n w : List ℕ) → bytes_eq n w ≡ false → w ≢ n
differs n w e q = let k : true ≡ false = sym ((bytes_eq-Decides n w).1 (sym q)) ∙ e in cc

snoc_false : (names : List (List ℕ)) (w n : List ℕ) → has names n ≡ false → w ≢ n → has (names ++ w ∷ []) n ≡ false
snoc_false names w n h d =
    has_snoc names w n ∙ ap (λ b. b || bytes_eq n w) h
    ∙ false_from_ne_true (bytes_eq n w) (λ q. d (sym ((bytes_eq-Decides n w).0 q)))

-- the words name the inputs, and none of their names is among the names before
record Named (s : Scope) (before : List (List ℕ)) (ins : List Rate) (ws : List Symbol) : Type 0 where
  pub names : NameInputs s ins ws
  pub apart : All (λ n. has before n ≡ false) (texts ws)

abbrev names_of : (s : Scope) (ins : List Rate) (ws : List Symbol) → All (λ t. is_local s t ≡ true) ws
    → map name_rate (texts ws) ≡ ins
    → AreDifferent (texts ws) → NameInputs s ins ws
names_of s ins ws l r d = record { local = l; rates = r; different = d }

fits : (s : Scope) (before : List (List ℕ)) (ins : List Rate) (ws : List Symbol) → are_words s before ins ws ≡ true
    → Named s before ins ws
unfolding are_words
fits s before [] [] e = record {
  names = names_of s [] [] (All-nil (λ t. is_local s t ≡ true)) refl (λ i j d lt within. absurd (omega arith));
  apart = All-nil (λ n. has before n ≡ false);
}
fits s before [] (w ∷ ws) e = cc
fits s before (r ∷ rs) [] e = cc
fits s before (r ∷ rs) (w ∷ ws) e =
    let both = and_parts (is_input s before r w) (are_words s (before ++ w.text ∷ []) rs ws) e in
    let parts = and_parts (is_local s w && same_rate r (name_rate w.text)) (not (has before w.text)) both.0 in
    let first = and_parts (is_local s w) (same_rate r (name_rate w.text)) parts.0 in
    let i = fits s (before ++ w.text ∷ []) rs ws both.1 in
    let split = λ (n : List ℕ) (h : has (before ++ w.text ∷ []) n ≡ false). or_parts (has before n) (bytes_eq n w.text)
    (sym (has_snoc before w.text n) ∙ h) in
    let other = λ (n : List ℕ) (h : has (before ++ w.text ∷ []) n ≡ false). differs n w.text (split n h).1 in
    record {
      names = names_of s (r ∷ rs) (w ∷ ws) (All-cons (λ t. is_local s t ≡ true) w ws first.0 i.names.local)
          (ap (λ x. x ∷ map name_rate (texts ws)) (sym (same_rate_is r (name_rate w.text) first.1))
          ∙ ap (λ x. r ∷ x) i.names.rates)
          (AllPairs-cons (λ x y. x ≢ y) w.text (texts ws)
          (All-weaker (λ n. has (before ++ w.text ∷ []) n ≡ false) (λ n. w.text ≢ n) other (texts ws) i.apart)
          i.names.different);
      apart = All-cons (λ n. has before n ≡ false) w.text (texts ws) (not-true (has before w.text) parts.1)
          (All-weaker (λ n. has (before ++ w.text ∷ []) n ≡ false) (λ n. has before n ≡ false) (λ n h. (split n h).0)
          (texts ws) i.apart);
    }

fit_from : (s : Scope) (before : List (List ℕ)) (ws : List Symbol) → All (λ t. is_local s t ≡ true) ws
    → AreDifferent (texts ws)
    → All (λ n. has before n ≡ false) (texts ws) → are_words s before (map name_rate (texts ws)) ws ≡ true
unfolding are_words
fit_from s before [] l d a = refl
fit_from s before (w ∷ ws) l d a =
    let fresh = All-head (λ n. has before n ≡ false) w.text (texts ws) a in
    let rest = All-tail (λ n. has before n ≡ false) w.text (texts ws) a in
    let head : All (λ n. w.text ≢ n) (texts ws) = λ k e lt. d zero (suc k) e (omega arith) (omega (arith, lt)) in
    let tail : AreDifferent (texts ws) =
    λ i j e lt within. d (suc i) (suc j) e (omega (arith, lt)) (omega (arith, within)) in
    let apart : All (λ n. has (before ++ w.text ∷ []) n ≡ false) (texts ws) =
    λ k e lt. snoc_false before w.text (slice_index_or (texts ws) k e) (rest k e lt) (head k e lt) in
    and_from (is_input s before (name_rate w.text) w)
    (are_words s (before ++ w.text ∷ []) (map name_rate (texts ws)) ws)
    (and_from (is_local s w && same_rate (name_rate w.text) (name_rate w.text)) (not (has before w.text))
    (and_from (is_local s w) (same_rate (name_rate w.text) (name_rate w.text))
    (All-head (λ t. is_local s t ≡ true) w ws l) (same_rate_here (name_rate w.text)))
    (not_from_false (has before w.text) fresh))
    (fit_from s (before ++ w.text ∷ []) ws (All-tail (λ t. is_local s t ≡ true) w ws l) tail apart)

named_fit : (s : Scope) (ins : List Rate) (ws : List Symbol) → NameInputs s ins ws → are_words s [] ins ws ≡ true
named_fit s ins ws n = subst (λ x. are_words s [] x ws ≡ true) n.rates
    (fit_from s [] ws n.local n.different (λ k d lt. refl))

-- ---- the reading

abbrev chosen : Scope → List Symbol → List Symbol → Bool → Reading (List (List ℕ))
chosen s ws xin b = if b then ended s (Ok (texts ws, after xin)) else Err (fault xin orc.XinXout)

abbrev stepped : Scope → Heading → List Symbol → Bool → Option ℕ → Reading (List (List ℕ))
stepped s h ts b o = if b then Err (fault ts orc.XinXout) else taken s h ts o

value : (s : Scope) (h : Heading) {ts ws xin : List Symbol} → XinLine s ts ws xin
    → inputs s h ts ≡ chosen s ws xin (are_words s [] h.ins ws)
value s h {ts} {ws} {xin} l =
    let f = found l in
    ap (λ b. stepped s h ts b (input_count s ts)) (line_no_xin l) ∙ ap (stepped s h ts false) f.counted
    ∙ ap (λ b. if b then ended s (Ok (words (count ws) ts, after (at_xin (count ws) ts))) else Err
    (fault (at_xin (count ws) ts) orc.XinXout)) (f.fit [] h.ins)
    ∙ ap (λ ns. if are_words s [] h.ins ws then ended s (Ok (ns, after (at_xin (count ws) ts))) else Err
    (fault (at_xin (count ws) ts) orc.XinXout)) f.texts_are
    ∙ ap (λ us. chosen s ws us (are_words s [] h.ins ws)) f.reached

no_ins : (s : Scope) (h : Heading) (ts : List Symbol) → next_is expected.Xin ts ≡ false → input_count s ts ≡ None
    → inputs s h ts ≡ no_names h ts
no_ins s h ts e n = ap (λ b. stepped s h ts b (input_count s ts)) e ∙ ap (stepped s h ts false) n

some_ins : (ins : List Rate) → ins ≢ [] → is_none ins ≡ false
some_ins [] h = absurd (h refl)
some_ins (r ∷ rs) h = refl

abbrev named_or : Heading → List Symbol → Bool → Reading (List (List ℕ))
named_or h ts b = if b then Ok ([], ts) else Err (record { line = h.line; kind = orc.XinXout })

pub inputs_are : {s : Scope} {h : Heading} {ts : List Symbol} {o : Reading (List (List ℕ))} → ReadsInputs s h ts o
    → inputs s h ts ≡ o
inputs_are {s} {h} (named {words = ws} {xin} l n) = value s h l ∙ ap (chosen s ws xin) (named_fit s h.ins ws n)
inputs_are {s} {h} (misnamed {words = ws} {xin} l n) =
    value s h l ∙ ap (chosen s ws xin)
    (false_from_ne_true (are_words s [] h.ins ws) (λ e. n (fits s [] h.ins ws e).names))
inputs_are {s} {h} {ts} (xin_alone e) = ap (λ b. stepped s h ts b (input_count s ts)) e
inputs_are {s} {h} {ts} (no_inputs e n i) =
    no_ins s h ts e (none_counted s ts n) ∙ ap (λ x. named_or h ts (is_none x)) i
inputs_are {s} {h} {ts} (xin_missing e n i) =
    no_ins s h ts e (none_counted s ts n) ∙ ap (named_or h ts) (some_ins h.ins i)

pub reads_inputs : (s : Scope) (h : Heading) (ts : List Symbol) → ReadsInputs s h ts (inputs s h ts)
reads_inputs s h ts = by (next_is expected.Xin ts) (input_count s ts) refl refl
  where
    named_by : (ws xin : List Symbol) → XinLine s ts ws xin → (b : Bool) → are_words s [] h.ins ws ≡ b
        → ReadsInputs s h ts (chosen s ws xin b)
    named_by ws xin l true e = named l (fits s [] h.ins ws e).names
    named_by ws xin l false e = misnamed l (λ n. let k : true ≡ false = sym (named_fit s h.ins ws n) ∙ e in cc)

    ins_by : next_is expected.Xin ts ≡ false → input_count s ts ≡ None → (ins : List Rate) → h.ins ≡ ins
        → ReadsInputs s h ts (named_or h ts (is_none ins))
    ins_by e n [] i = no_inputs e (no_line s ts n) i
    ins_by e n (r ∷ rs) i = xin_missing e (no_line s ts n) (λ q. let k : r ∷ rs ≡ [] = sym i ∙ q in cc)

    by : (b : Bool) (o : Option ℕ) → next_is expected.Xin ts ≡ b → input_count s ts ≡ o
        → ReadsInputs s h ts (inputs s h ts)
    by true o e n = subst (ReadsInputs s h ts) (sym (ap (λ b. stepped s h ts b (input_count s ts)) e)) (xin_alone e)
    by false None e n = subst (ReadsInputs s h ts) (sym (no_ins s h ts e n)) (ins_by e n h.ins refl)
    by false (Some n) e c =
        let i = line_at s ts n c in
        subst (ReadsInputs s h ts) (sym (value s h i.line))
        (named_by i.words i.xin i.line (are_words s [] h.ins i.words) refl)

-- ---- the remaining symbols

at_xin_size : (n : ℕ) (ts : List Symbol) → length (at_xin n ts) ≤ length ts
at_xin_size zero ts = omega arith
at_xin_size (suc zero) ts = after_size ts
at_xin_size (suc (suc n)) ts =
    omega (arith, at_xin_size (suc n) (after (after ts)), after_size ts, after_size (after ts))

taken_size : (s : Scope) (h : Heading) (ts : List Symbol) (n : Option ℕ) → size (left (taken s h ts n)) ≤ length ts + 1
taken_size s h ts None =
    choice_size {A = List (List ℕ)} (is_none h.ins) (Ok ([], ts)) (Err (record { line = h.line; kind = orc.XinXout }))
    (length ts + 1)
    (omega arith) (omega arith)
taken_size s h ts (Some n) =
    choice_size (are_inputs s [] h.ins n ts) (ended s (Ok (words n ts, after (at_xin n ts))))
    (Err (fault (at_xin n ts) orc.XinXout)) (length ts + 1)
    (omega (arith, ended_size s (Ok (words n ts, after (at_xin n ts))), after_size (at_xin n ts), at_xin_size n ts))
    (omega arith)

pub inputs_size : (s : Scope) (h : Heading) (ts : List Symbol) → size (left (inputs s h ts)) ≤ length ts + 1
inputs_size s h ts =
    choice_size (next_is expected.Xin ts) (Err (fault ts orc.XinXout)) (taken s h ts (input_count s ts)) (length ts + 1)
    (omega arith)
    (taken_size s h ts (input_count s ts))
