-- Whatever is read is well formed: definitions, instruments, orchestras.
use Rattle.std.proofs.Common.{◌≡◌, ◌≢◌, ◌∙◌, ◌++◌, ◌==◌, not, ℕ, suc, Bool, true, false, List, [], ◌∷◌, length, map, Ok}
use Rattle.std.proofs.Common.{Err, nat_le, if◌then◌else◌, refl, arith, sym, ap, subst}
use Rattle.std.specs.{Prelude.slice_index_or, Str.bytes_eq, List.All, List.AllPairs}
use Rattle.std.proofs.lemmas.{Bool.Decides.Decides-eqb, List.Kept.AllPairs-cons}
use Rattle.std.proofs.lemmas.Bool.{and_parts, or_parts, not-true}
use Rattle.std.proofs.lemmas.List.Elements.{All-nil, All-cons, All-head, All-tail, All-append, All-weaker}
use Rattle.cs_base.specs.declared.resource.Rate.{Rate}
use Rattle.cs_lex.specs.{declared.token.Mark.Mark, declared.token.Token.Token}
use Rattle.cs_words.specs.{declared.word.Word.Word, NameSets.has, Words.word_of, declared.word.HeadName.HeadName}
use Rattle.cs_words.specs.Names.{is_global, name_rate, letter_rate}
use Rattle.cs_grammar.specs.{declared.tree.HeadLine.HeadLine, Parts.is_variable, Lines.header_of, Lines.header_line}
use Rattle.cs_grammar.specs.Headings.{types, Heading, heading_of, heading, new_name, no_name_kind, is_number_zero}
use Rattle.cs_grammar.specs.Headings.{is_letters}
use Rattle.cs_grammar.specs.Tree.{Argument, Statement, Block, Instrument, Definition, Orchestra}
use Rattle.cs_grammar.specs.Reading.{Left, Reading, left, both, three, Scope, outside, in_instrument, in_definition}
use Rattle.cs_grammar.specs.Reading.{has_number, fault, misfit, through, ended}
use Rattle.cs_grammar.specs.Inputs.{XinLine, one_word, more_words, is_local, texts, AreDifferent, ReadsInputs, named}
use Rattle.cs_grammar.specs.Inputs.{misnamed, xin_alone, no_inputs, xin_missing}
use Rattle.cs_grammar.specs.Orchestra.{instrument_of, ReadsInstr, instr, ReadsXout, xout, ReadsResult, result_stop}
use Rattle.cs_grammar.specs.Orchestra.{no_result, xout_missing, xout_broken, xout_uneven, xout_last, xout_not_last}
use Rattle.cs_grammar.specs.Orchestra.{definition_of, own_scope, ReadsDefinition, no_heading, udo, with_header}
use Rattle.cs_grammar.specs.Orchestra.{with_instr, with_definition, with_stmt, defined_by, given_by, ReadsOrc, orc_stop}
use Rattle.cs_grammar.specs.Orchestra.{orc_end, orc_header, orc_instr, orc_udo, orc_stmt}
use Rattle.cs_grammar.specs.WellFormed.{HasNoStop, IsVariable, line_of, WellFormedStmt, WellFormedBlock}
use Rattle.cs_grammar.specs.WellFormed.{WellFormedValue, WellFormedInstrument, WellFormedDefinition, all_numbers}
use Rattle.cs_grammar.specs.{declared.symbol.Kind.Kind, Kinds.is_word, Kinds.may_be_opcode}
use Rattle.cs_grammar.specs.Symbols.{Symbol, symbols_from, kind_after, kind_of_mark, unquoted, counted, bytes_of, next}
use Rattle.cs_grammar.specs.Symbols.{after}
use Rattle.cs_grammar.proofs.OneXin.{has_snoc, differs}
use Rattle.cs_grammar.proofs.Fine.{IsWord, Fine, Kept, kept, may_be_stopless, variable_named, fine_both, fine_three}
use Rattle.cs_grammar.proofs.Fine.{fine_through, fine_ended, fine_line, weakened, fine_list}
use Rattle.cs_grammar.proofs.FineStmt.{fine_stmt, fine_block, NumbersFrom, fine_numbers, has_append}
use Rattle.cs_base.specs.declared.fault.OrcKind.TheVariants as orc
use Rattle.cs_lex.specs.declared.token.Mark.TheVariants as mark
use Rattle.cs_grammar.specs.declared.symbol.Kind.TheVariants as kind
use Rattle.cs_grammar.specs.declared.symbol.Expected.TheVariants as expected
use Rattle.cs_grammar.specs.declared.scope.Place.TheVariants as place

-- ---- the kinds of symbols are determined by the bytes of their tokens

word_in : Word → Kind → Word
word_in d (kind.Word w) = w
word_in d _ = d

text_word : (place : ℕ) (m : Mark) (bytes : List ℕ) (w : Word) → (m ≡ mark.Word → HasNoStop bytes)
    → kind_after place m bytes ≡ kind.Word w
    → (word_of (unquoted m bytes) ≡ w) × HasNoStop (unquoted m bytes)
unfolding word_in
text_word place mark.Word bytes w n e = by (nat_le 1000 place) e
  where
    by : (b : Bool) → (if b then kind.Beyond else kind.Word (word_of bytes)) ≡ kind.Word w
        → (word_of bytes ≡ w) × HasNoStop bytes
    by true e = cc
    by false e = (ap (word_in w) e, n refl)
text_word place (mark.Number v) bytes w n e = by (nat_le 1000 place) e
  where
    by : (b : Bool) → (if b then kind.Beyond else kind.Number v) ≡ kind.Word w → (word_of bytes ≡ w) × HasNoStop bytes
    by true e = cc
    by false e = cc
text_word place mark.Text bytes w n e = by (nat_le 1000 place) e
  where
    by : (b : Bool) → (if b then kind.Beyond else kind.Text) ≡ kind.Word w
        → (word_of (unquoted mark.Text bytes) ≡ w) × HasNoStop (unquoted mark.Text bytes)
    by true e = cc
    by false e = cc
text_word place mark.Sign bytes w n e = by (nat_le 1000 place) e
  where
    by : (b : Bool) → (if b then kind.Beyond else kind_of_mark mark.Sign bytes) ≡ kind.Word w
        → (word_of bytes ≡ w) × HasNoStop bytes
    by true e = cc
    by false e = cc
text_word place mark.NewLine bytes w n e = cc
text_word place mark.End bytes w n e = cc

-- the meaning of every word among the symbols is determined by its bytes
abbrev pub Words : List Symbol → Type 0
Words [] = Unit {0}
Words (t ∷ ts) = IsWord t × Words ts

pub words_after : (ts : List Symbol) → Words ts → Words (after ts)
words_after [] h = tt
words_after (t ∷ ts) h = h.1

pub words_next : (ts : List Symbol) → Words ts → IsWord (next ts)
words_next [] h w e = cc
words_next (t ∷ ts) h w e = h.0 w e

-- words have no full stop
abbrev pub NoStops : List ℕ → Token → Type 0
NoStops source t = t.mark ≡ mark.Word → HasNoStop (bytes_of source t)

pub words_from : (source : List ℕ) (place : ℕ) (ts : List Token) → All (NoStops source) ts
    → Words (symbols_from source place ts)
words_from source place [] h = tt
words_from source place (t ∷ ts) h = (
  (λ w. text_word place t.mark (bytes_of source t) w (All-head (NoStops source) t ts h)),
  words_from source (counted place t.mark) ts (All-tail (NoStops source) t ts h),
)

-- ---- different numbers and names, one list after another

pairs_append : {A : Type 0} (R : A → A → Type 0) (xs ys : List A) → AllPairs R xs → AllPairs R ys
    → All (λ x. All (R x) ys) xs → AllPairs R (xs ++ ys)
pairs_append R [] ys p q h = q
pairs_append R (x ∷ xs) ys p q h =
    AllPairs-cons R x (xs ++ ys)
    (All-append (R x) xs ys (λ k e lt. p 0 (suc k) e (omega arith) (omega (arith, lt)))
    (All-head (λ x. All (R x) ys) x xs h))
    (pairs_append R xs ys (λ i j e lt within. p (suc i) (suc j) e (omega (arith, lt)) (omega (arith, within))) q
    (All-tail (λ x. All (R x) ys) x xs h))

unequal : (n x : ℕ) → (n == x) ≡ false → x ≢ n
unequal n x e q = let k : true ≡ false = sym ((Decides-eqb n x).1 (sym q)) ∙ e in cc

not_there : (xs : List ℕ) (n : ℕ) → has_number xs n ≡ false → All (λ x. x ≢ n) xs
not_there [] n h = All-nil (λ x. x ≢ n)
not_there (x ∷ xs) n h =
    let parts = or_parts (n == x) (has_number xs n) h in
    All-cons (λ x. x ≢ n) x xs (unequal n x parts.0) (not_there xs n parts.1)

apart_all : (xs ns : List ℕ) → All (λ n. has_number xs n ≡ false) ns → All (λ x. All (λ n. x ≢ n) ns) xs
apart_all xs ns h k d lt i e within = not_there xs (slice_index_or ns i e) (h i e within) k d lt

-- ---- the lines of a definition

-- a new name for an opcode
abbrev pub IsNew : List (List ℕ) → List ℕ → Type 0
IsNew d n = (has d n ≡ false) × HasNoStop n

-- any rates are well formed
abbrev pub AnyRates : List Rate → Type 0
AnyRates rs = Unit {0}

-- a heading on this line with a new name
abbrev pub NewHeading : ℕ → List (List ℕ) → Heading → Type 0
NewHeading line d h = IsNew d h.name × (h.line ≡ line)

-- the names of the inputs fit their rates
pub record NamesFit (ins : List Rate) (ns : List (List ℕ)) : Type 0 where
  pub local : All (λ n. IsVariable n × (is_global n ≡ false)) ns
  pub rates : map name_rate ns ≡ ins
  pub different : AreDifferent ns

pub record ValuesFit (outs : List Rate) (vs : List Argument) : Type 0 where
  pub number : length vs ≡ length outs
  pub each : All WellFormedValue vs

-- a well-formed definition with a new name
pub record NewDefinition (line : ℕ) (d : List (List ℕ)) (x : Definition) : Type 0 where
  pub sound : WellFormedDefinition x
  pub fresh : has d x.name ≡ false
  pub place_of : x.line ≡ line

pub record NewInstrument (line : ℕ) (g : List ℕ) (x : Instrument) : Type 0 where
  pub place_of : x.line ≡ line
  pub sound : WellFormedInstrument x
  pub numbers : NumbersFrom g x.numbers

-- a header line on this line
abbrev pub HeaderAt : ℕ → HeadLine → Type 0
HeaderAt line h = h.line ≡ line

pub record WellFormedFrom (d : List (List ℕ)) (g : List ℕ) (o : Orchestra) : Type 0 where
  pub outside_all : WellFormedBlock place.Outside [] 0 o.zero
  pub instruments : All WellFormedInstrument o.instrs
  pub definitions : All WellFormedDefinition o.opcodes
  pub numbers : AreDifferent (all_numbers o.instrs)
  pub numbers_apart : All (λ n. has_number g n ≡ false) (all_numbers o.instrs)
  pub opcodes : AreDifferent (map (λ x. x.name) o.opcodes)
  pub opcodes_apart : All (λ n. has d n ≡ false) (map (λ x. x.name) o.opcodes)

-- a reading of an orchestra that is well formed, unless it is a fault
abbrev pub FineOrc : List (List ℕ) → List ℕ → Reading Orchestra → Type 0
FineOrc d g (Ok (o, ts)) = WellFormedFrom d g o
FineOrc d g (Err f) = Unit {0}

module _ (Q : List Symbol → Type 0) (closed : (ts : List Symbol) → Q ts → Q (after ts))
    (good : (ts : List Symbol) → Q ts → IsWord (next ts))
    (R : List Symbol → Type 0) (feed : (ts : List Symbol) → Q ts → (next ts).kind ≡ kind.NewLine → R (after ts))
    (stop : (ts : List Symbol) → Q ts → (next ts).kind ≡ kind.End → R ts)
    (weaker : (ts : List Symbol) → R ts → Q ts) where
  fine_name : (s : Scope) (ts : List Symbol) → Q ts → Fine Q (IsNew s.defined) (new_name s ts)
  fine_name s ts q = by (may_be_opcode (next ts).kind) (has s.defined (next ts).text) refl refl
    where
      by : (b c : Bool) → may_be_opcode (next ts).kind ≡ b → has s.defined (next ts).text ≡ c
          → Fine Q (IsNew s.defined) (if not b then Err (fault ts (no_name_kind s (next ts).kind)) else
          (if c then Err (fault ts orc.OpcodeTwice) else Ok ((next ts).text, after ts)))
      by true true e f = tt
      by true false e f = ((f, may_be_stopless (next ts) (good ts q) e), closed ts q)
      by false c e f = tt

  fine_types : (s : Scope) (st : Left) → Kept Q st → Fine Q AnyRates (types s st)
  fine_types s (Err f) q = tt
  fine_types s (Ok ts) q = by (is_number_zero (next ts).kind) (is_letters (next ts))
    where
      by : (b c : Bool) → Fine Q AnyRates
          (if b then Ok ([], after ts) else (if c then Ok (map letter_rate (next ts).text, after ts) else Err
          (misfit s (if is_word (next ts).kind then orc.NotInProfile else orc.Unexpected) ts)))
      by true c = (tt, closed ts q)
      by false true = (tt, closed ts q)
      by false false = tt

  pub fine_heading : (s : Scope) (line : ℕ) (ts : List Symbol) → Q ts
      → Fine R (NewHeading line s.defined) (heading s line ts)
  fine_heading s line ts q =
      let name = new_name s ts in
      let outs = types s (left (through s expected.Comma name)) in
      let ins = types s (left (through s expected.Comma outs)) in
      let fn = fine_name s ts q in
      let fo = fine_types s (left (through s expected.Comma name))
      (kept Q (IsNew s.defined) (through s expected.Comma name)
      (fine_through Q closed good (IsNew s.defined) s expected.Comma name fn)) in
      let fi = fine_types s (left (through s expected.Comma outs)) (kept Q AnyRates (through s expected.Comma outs)
      (fine_through Q closed good AnyRates s expected.Comma outs fo)) in
      fine_line Q closed good R feed stop (NewHeading line s.defined) s (three (heading_of line) name outs ins)
      (fine_three Q closed good (IsNew s.defined) AnyRates AnyRates (NewHeading line s.defined) (heading_of line)
      (λ a b c x y z. (x, refl)) name outs ins fn
      fo fi)

  line_words : {s : Scope} {ts ws xin : List Symbol} → XinLine s ts ws xin → Q ts → All IsWord ws × Q xin
  line_words (one_word {t = t} {xin = xin} f x) q =
      (All-cons IsWord t [] (good (t ∷ xin) q) (All-nil IsWord), closed (t ∷ xin) q)
  line_words (more_words {t = t} {comma = comma} {ts = ts} {words = ws} f c h) q =
      let i = line_words h (closed (comma ∷ ts) (closed (t ∷ comma ∷ ts) q)) in
      (All-cons IsWord t ws (good (t ∷ comma ∷ ts) q) i.0, i.1)

  locals : (s : Scope) (ws : List Symbol) → All IsWord ws → All (λ t. is_local s t ≡ true) ws
      → All (λ n. IsVariable n × (is_global n ≡ false)) (texts ws)
  locals s [] w l = All-nil (λ n. IsVariable n × (is_global n ≡ false))
  locals s (t ∷ ws) w l =
      let parts = and_parts (is_variable s t) (not (is_global t.text)) (All-head (λ t. is_local s t ≡ true) t ws l) in
      All-cons (λ n. IsVariable n × (is_global n ≡ false)) t.text (texts ws)
      (variable_named s t (All-head IsWord t ws w) parts.0, not-true (is_global t.text) parts.1)
      (locals s ws (All-tail IsWord t ws w) (All-tail (λ t. is_local s t ≡ true) t ws l))

  pub fine_inputs : {s : Scope} {h : Heading} {ts : List Symbol} {o : Reading (List (List ℕ))} → ReadsInputs s h ts o
      → Q ts → Fine Q (NamesFit h.ins) o
  fine_inputs {s} {h} (named {words = ws} {xin = xin} l n) q =
      let i = line_words l q in
      fine_ended Q closed good (NamesFit h.ins) s (Ok (texts ws, after xin))
      (record { local = locals s ws i.0 n.local; rates = n.rates; different = n.different }, closed xin i.1)
  fine_inputs (misnamed l n) q = tt
  fine_inputs (xin_alone e) q = tt
  fine_inputs {h = h} (no_inputs e n i) q = (
    record {
      local = All-nil (λ n. IsVariable n × (is_global n ≡ false));
      rates = sym i;
      different = λ i j d lt within. absurd
          (omega (arith, within));
    },
    q,
  )
  fine_inputs (xin_missing e n i) q = tt

  fine_xout : {s : Scope} {ts : List Symbol} {o : Reading (List Argument)} → ReadsXout s ts o → Q ts
      → Fine Q (All WellFormedValue) o
  fine_xout {s} {ts} (xout {values = values} h) q =
      fine_ended Q closed good (All WellFormedValue) s values (fine_list Q closed good h (closed ts q))

  pub fine_result : {s : Scope} {outs : List Rate} {st : Left} {o : Reading (List Argument)} → ReadsResult s outs st o
      → Kept Q st → Fine Q (ValuesFit outs) o
  fine_result result_stop q = tt
  fine_result (no_result e i) q = (record { number = sym (ap length i); each = All-nil WellFormedValue }, q)
  fine_result (xout_missing e i) q = tt
  fine_result (xout_broken e h) q = tt
  fine_result (xout_uneven e h n) q = tt
  fine_result (xout_last e h n l) q = let f = fine_xout h q in (record { number = n; each = f.0 }, f.1)
  fine_result (xout_not_last e h n l) q = tt

  defined_so : (line : ℕ) (d : List (List ℕ)) (h : Heading) (a : List (List ℕ)) (b : Block) (c : List Argument)
      → NewHeading line d h → NamesFit h.ins a
      → WellFormedBlock place.Definition h.name 0 b → ValuesFit h.outs c → NewDefinition line d (definition_of h a b c)
  defined_so line d h a b c n x y z = record {
    sound = record {
      name = n.0.1;
      local = x.local;
      rates = x.rates;
      different = x.different;
      body = y;
      values =
          z.number;
      each_value = z.each;
    };
    fresh = n.0.0;
    place_of = n.1;
  }

  pub fine_definition : {d : List (List ℕ)} {ts : List Symbol} {o : Reading Definition} → ReadsDefinition d ts o → Q ts
      → Fine R (NewDefinition (next ts).line d) o
  fine_definition (no_heading e) q = tt
  fine_definition {d} {ts} (udo {us = us} {h = h} {names = names} {body = body} {result = result} e n k r) q =
      let top : NewHeading (next ts).line d h × R us = subst (Fine R (NewHeading (next ts).line d)) e
      (fine_heading (in_definition [] d) (next ts).line (after ts) (closed ts q)) in
      let s = own_scope d h in
      let fn = fine_inputs n (weaker us top.1) in
      let fb = fine_block Q closed good R feed stop weaker k (kept Q (NamesFit h.ins) names fn) in
      let fr = fine_result r (kept Q (WellFormedBlock place.Definition h.name 0) body fb) in
      let made = three (definition_of h) names body result in
      fine_line Q closed good R feed stop (NewDefinition (next ts).line d) (outside d) (through s expected.Endop made)
      (fine_through Q closed good (NewDefinition (next ts).line d) s expected.Endop made
      (fine_three Q closed good (NamesFit h.ins) (WellFormedBlock place.Definition h.name 0) (ValuesFit h.outs)
      (NewDefinition (next ts).line d)
      (definition_of h)
      (λ a b c x y z. defined_so (next ts).line d h a b c top.0 x y z) names body result fn fb fr))

  pub fine_instr : {d : List (List ℕ)} {g : List ℕ} {ts : List Symbol} {o : Reading Instrument} → ReadsInstr d g ts o
      → Q ts
      → Fine R (NewInstrument (next ts).line g) o
  fine_instr {d} {g} {ts} (instr {ns = ns} {body = body} n h) q =
      let s = in_instrument d in
      let fn = fine_numbers Q closed (in_instrument d) n (closed ts q) in
      let fe = fine_ended Q closed good (NumbersFrom g) s ns fn in
      let fb = fine_block Q closed good R feed stop weaker h (kept Q (NumbersFrom g) (ended s ns) fe) in
      let made = both (instrument_of (next ts).line) ns body in
      fine_line Q closed good R feed stop (NewInstrument (next ts).line g) (outside d) (through s expected.Endin made)
      (fine_through Q closed good (NewInstrument (next ts).line g) s expected.Endin made
      (fine_both Q closed good (NumbersFrom g) (WellFormedBlock place.Instrument [] 0) (NewInstrument (next ts).line g)
      (instrument_of (next ts).line)
      (λ a b x y. record { place_of = refl; sound = record { numbers = x.range; body = y }; numbers = x }) ns body fn
      fb))

  pub fine_header : (s : Scope) (h : HeadName) (ts : List Symbol) → Q ts
      → Fine R (HeaderAt (next ts).line) (header_line s h ts)
  fine_header s h ts q = by (next (after (after ts))).kind
    where
      by : (k : Kind) → Fine R (HeaderAt (next ts).line) (header_of s h (next ts).line (after (after ts)) k)
      by (kind.Number v) = fine_line Q closed good R feed stop (HeaderAt (next ts).line) s
          (Ok (record { line = (next ts).line; name = h; value = v }, after (after (after ts))))
          (refl, closed (after (after ts)) (closed (after ts) (closed ts q)))
      by _ = tt

  -- ---- orchestras

  add_header : (d : List (List ℕ)) (g : List ℕ) (h : Reading HeadLine) (out : Reading Orchestra) → FineOrc d g out
      → FineOrc d g (both with_header h out)
  add_header d g (Ok (h, ts)) (Ok (o, us)) f = record {
    outside_all = f.outside_all;
    instruments = f.instruments;
    definitions = f.definitions;
    numbers =
        f.numbers;
    numbers_apart = f.numbers_apart;
    opcodes = f.opcodes;
    opcodes_apart = f.opcodes_apart;
  }
  add_header d g (Ok (h, ts)) (Err e) f = tt
  add_header d g (Err e) out f = tt

  add_stmt : (d : List (List ℕ)) (g : List ℕ) (x : Reading Statement) (out : Reading Orchestra)
      → Fine R (WellFormedStmt place.Outside [] 0) x
      → FineOrc d g out → FineOrc d g (both with_stmt x out)
  add_stmt d g (Ok (x, ts)) (Ok (o, us)) h f = record {
    outside_all = (h.0, f.outside_all);
    instruments = f.instruments;
    definitions = f.definitions;
    numbers = f.numbers;
    numbers_apart = f.numbers_apart;
    opcodes = f.opcodes;
    opcodes_apart = f.opcodes_apart;
  }
  add_stmt d g (Ok (x, ts)) (Err e) h f = tt
  add_stmt d g (Err e) out h f = tt

  add_instr : (line : ℕ) (d : List (List ℕ)) (g : List ℕ) (x : Reading Instrument) (out : Reading Orchestra)
      → Fine R (NewInstrument line g) x
      → FineOrc d (given_by g x) out → FineOrc d g (both with_instr x out)
  add_instr line d g (Ok (x, ts)) (Ok (o, us)) h f =
      let ns = all_numbers o.instrs in
      let parts = λ (n : ℕ) (e : has_number (g ++ x.numbers) n ≡ false). or_parts (has_number g n)
      (has_number x.numbers n)
      (sym (has_append g x.numbers n) ∙ e) in
      record {
        outside_all = f.outside_all;
        instruments = All-cons WellFormedInstrument x o.instrs h.0.sound f.instruments;
        definitions = f.definitions;
        numbers = pairs_append (λ a b. a ≢ b) x.numbers ns h.0.numbers.different f.numbers
            (apart_all x.numbers ns (All-weaker (λ n. has_number (g ++ x.numbers) n ≡ false)
            (λ n. has_number x.numbers n ≡ false) (λ n e. (parts n e).1) ns
            f.numbers_apart));
        numbers_apart = All-append (λ n. has_number g n ≡ false) x.numbers ns h.0.numbers.apart
            (All-weaker (λ n. has_number (g ++ x.numbers) n ≡ false) (λ n. has_number g n ≡ false)
            (λ n e. (parts n e).0) ns f.numbers_apart);
        opcodes = f.opcodes;
        opcodes_apart = f.opcodes_apart;
      }
  add_instr line d g (Ok (x, ts)) (Err e) h f = tt
  add_instr line d g (Err e) out h f = tt

  add_udo : (line : ℕ) (d : List (List ℕ)) (g : List ℕ) (x : Reading Definition) (out : Reading Orchestra)
      → Fine R (NewDefinition line d) x
      → FineOrc (defined_by d x) g out → FineOrc d g (both with_definition x out)
  add_udo line d g (Ok (x, ts)) (Ok (o, us)) h f =
      let ns = map (λ (y : Definition). y.name) o.opcodes in
      let parts = λ (n : List ℕ) (e : has (d ++ x.name ∷ []) n ≡ false). or_parts (has d n) (bytes_eq n x.name)
      (sym (has_snoc d x.name n) ∙ e) in
      record {
        outside_all = f.outside_all;
        instruments = f.instruments;
        definitions = All-cons WellFormedDefinition x o.opcodes h.0.sound f.definitions;
        numbers = f.numbers;
        numbers_apart = f.numbers_apart;
        opcodes = AllPairs-cons (λ a b. a ≢ b) x.name ns
            (All-weaker (λ n. has (d ++ x.name ∷ []) n ≡ false) (λ n. x.name ≢ n)
            (λ n e. differs n x.name (parts n e).1) ns f.opcodes_apart) f.opcodes;
        opcodes_apart = All-cons (λ n. has d n ≡ false) x.name ns h.0.fresh
            (All-weaker (λ n. has (d ++ x.name ∷ []) n ≡ false) (λ n. has d n ≡ false) (λ n e. (parts n e).0) ns
            f.opcodes_apart);
      }
  add_udo line d g (Ok (x, ts)) (Err e) h f = tt
  add_udo line d g (Err e) out h f = tt

  line_kept : {A : Type 0} (o : Reading A) (S : A → Type 0) → Fine R S o → Kept Q (left o)
  line_kept (Ok (a, ts)) S h = weaker ts h.1
  line_kept (Err f) S h = tt

  pub fine_orc : {d : List (List ℕ)} {g : List ℕ} {st : Left} {out : Reading Orchestra} → ReadsOrc d g st out
      → Kept Q st → FineOrc d g out
  fine_orc orc_stop q = tt
  fine_orc {d} {g} (orc_end e) q = record {
    outside_all = tt;
    instruments = All-nil WellFormedInstrument;
    definitions = All-nil WellFormedDefinition;
    numbers = λ i j x lt within. absurd (omega (arith, within));
    numbers_apart = All-nil (λ n. has_number g n ≡ false);
    opcodes = λ i j x lt within. absurd (omega (arith, within));
    opcodes_apart = All-nil (λ n. has d n ≡ false);
  }
  fine_orc {d} {g} (orc_header {ts = ts} {h = h} {out = out} e k) q =
      add_header d g (header_line (outside d) h ts) out
      (fine_orc k (line_kept (header_line (outside d) h ts) (HeaderAt (next ts).line)
      (fine_header (outside d) h ts q)))
  fine_orc {d} {g} (orc_instr {ts = ts} {o = o} {out = out} e h k) q =
      let f = fine_instr h q in
      add_instr (next ts).line d g o out f (fine_orc k (line_kept o (NewInstrument (next ts).line g) f))
  fine_orc {d} {g} (orc_udo {ts = ts} {o = o} {out = out} e h k) q =
      let f = fine_definition h q in
      add_udo (next ts).line d g o out f (fine_orc k (line_kept o (NewDefinition (next ts).line d) f))
  fine_orc {d} {g} (orc_stmt {ts = ts} {o = o} {out = out} e h k) q =
      let f = fine_stmt Q closed good R feed stop weaker h q in
      add_stmt d g o out (weakened R R (λ x. WellFormedStmt place.Outside [] 0 x × (line_of x ≡ (next ts).line))
      (WellFormedStmt place.Outside [] 0)
      (λ us r. r) (λ x l. l.0) o f)
      (fine_orc k (line_kept o (λ x. WellFormedStmt place.Outside [] 0 x × (line_of x ≡ (next ts).line)) f))
