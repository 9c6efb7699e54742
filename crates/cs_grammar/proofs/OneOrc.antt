-- Every text has exactly one reading as an instrument, as a definition, and as an orchestra.
use Rattle.std.proofs.Common.{◌≡◌, ◌<◌, ◌≤◌, ◌+◌, ◌∙◌, ◌⊎◌, ◌==◌, ℕ, zero, suc, Bool, true, false, List, [], ◌∷◌}
use Rattle.std.proofs.Common.{length, not, if◌then◌else◌, Ok, Err, refl, arith, inl, inr, sym, ap, map}
use Rattle.cs_base.specs.{declared.fault.OrcFault.OrcFault, declared.fault.OrcKind.OrcKind, declared.resource.Rate.Rate}
use Rattle.cs_lex.specs.declared.token.Token.{Token}
use Rattle.cs_words.specs.{declared.word.HeadName.HeadName, NameSets.has, Names.letter_rate}
use Rattle.cs_grammar.specs.{declared.orc.ItemForm.ItemForm, Lines.header_line, Lines.header_of, inner.Rows.numbers}
use Rattle.cs_grammar.specs.Headings.{types, Heading, heading, heading_of, is_letters, is_number_zero, new_name}
use Rattle.cs_grammar.specs.Headings.{no_name_kind}
use Rattle.cs_grammar.specs.Tree.{Argument, Definition, Instrument, Orchestra}
use Rattle.cs_grammar.specs.Orchestra.{ParseFault, Parses, ReadsDefinition, ReadsInstr, ReadsOrc, ReadsResult}
use Rattle.cs_grammar.specs.Orchestra.{ReadsXout, Tree, behind_xout, defined_by, definition_of, given_by, instr}
use Rattle.cs_grammar.specs.Orchestra.{instrument_of, item_form, no_heading, no_result, nothing, orc_end, orc_header}
use Rattle.cs_grammar.specs.Orchestra.{orc_instr, orc_stmt, orc_stop, orc_udo, own_scope, result_stop, udo}
use Rattle.cs_grammar.specs.Orchestra.{with_definition, with_header, with_instr, with_stmt, xout, xout_broken}
use Rattle.cs_grammar.specs.Orchestra.{xout_last, xout_missing, xout_not_last, xout_uneven}
use Rattle.cs_grammar.specs.Reading.{Left, Reading, Scope, both, ended, fault, in_definition, in_instrument, left}
use Rattle.cs_grammar.specs.Reading.{misfit, next_is, outside, three, through}
use Rattle.cs_grammar.specs.inner.Takes.{inputs, is_none, last_line, no_results, results_of}
use Rattle.cs_grammar.specs.{declared.symbol.Kind.Kind, Kinds.is_word, Kinds.may_be_opcode}
use Rattle.cs_grammar.specs.Symbols.{Symbol, symbols, after, next}
use Rattle.cs_grammar.proofs.Sizes.{size, after_size, both_size, three_size, through_size, ended_size, choice_size}
use Rattle.cs_grammar.proofs.OneRow.{numbers_less, reads_numbers, numbers_are}
use Rattle.cs_grammar.proofs.{OneXin.reads_inputs, OneXin.inputs_are, OneXin.inputs_size, OneStmt.block_is}
use Rattle.cs_grammar.proofs.ResultRules.{none_given, given, some_missing, uneven, even}
use Rattle.cs_grammar.proofs.OneList.{the_list, reads_list, list_size, list_is}
use Rattle.cs_grammar.proofs.OneStmt.{the_stmt, reads_stmt, stmt_less, stmt_is, the_block, reads_block, block_size}
use Rattle.cs_base.specs.declared.fault.OrcKind.TheVariants as orc
use Rattle.cs_grammar.specs.declared.symbol.Kind.TheVariants as kind
use Rattle.cs_grammar.specs.declared.orc.ItemForm.TheVariants as item
use Rattle.cs_grammar.specs.declared.lists.Role.TheVariants as role
use Rattle.cs_grammar.specs.declared.symbol.Expected.TheVariants as expected

-- ---- sizes

abbrev named : List ℕ → List Symbol → Reading (List ℕ)
named n ts = Ok (n, ts)

abbrev typed : List Rate → List Symbol → Reading (List Rate)
typed rs ts = Ok (rs, after ts)

abbrev no_types : Scope → List Symbol → OrcFault
no_types s ts = misfit s (if is_word (next ts).kind then orc.NotInProfile else orc.Unexpected) ts

name_by : (s : Scope) (t : Symbol) (ts : List Symbol) (b c : Bool) →
    size (left (if b then Err (fault (t ∷ ts) (no_name_kind s t.kind)) else
    (if c then Err (fault (t ∷ ts) orc.OpcodeTwice) else named t.text ts))) ≤ suc
    (length ts)
name_by s t ts true c = omega arith
name_by s t ts false true = omega arith
name_by s t ts false false = omega arith

name_less : (s : Scope) (ts : List Symbol) → size (left (new_name s ts)) ≤ length ts
name_less s [] = omega arith
name_less s (t ∷ ts) = name_by s t ts (not (may_be_opcode t.kind)) (has s.defined t.text)

types_by : (s : Scope) (ts : List Symbol) (b c : Bool) →
    size (left (if b then typed [] ts else
    (if c then typed (map letter_rate (next ts).text) ts else Err (no_types s ts)))) ≤ length ts + 1
types_by s ts true c = omega (arith, after_size ts)
types_by s ts false true = omega (arith, after_size ts)
types_by s ts false false = omega arith

types_size : (s : Scope) (st : Left) → size (left (types s st)) ≤ size st
types_size s (Err f) = omega arith
types_size s (Ok ts) = types_by s ts (is_number_zero (next ts).kind) (is_letters (next ts))

heading_less : (s : Scope) (line : ℕ) (ts : List Symbol) → size (left (heading s line ts)) ≤ length ts
heading_less s line ts =
    let name = new_name s ts in
    let outs = types s (left (through s expected.Comma name)) in
    let ins = types s (left (through s expected.Comma outs)) in
    omega (
      arith,
      name_less s ts,
      through_size s expected.Comma name,
      types_size s (left (through s expected.Comma name)),
      through_size s expected.Comma outs,
      types_size s (left (through s expected.Comma outs)),
      three_size (heading_of line) name outs ins,
      ended_size s (three (heading_of line) name outs ins),
    )

header_by : (s : Scope) (h : HeadName) (line : ℕ) (ts : List Symbol) (k : Kind)
    → size (left (header_of s h line ts k)) ≤ length (after ts) + 1
header_by s h line ts (kind.Number v) = ended_size s (Ok (record { line = line; name = h; value = v }, after ts))
header_by s h line ts _ = omega arith

pub header_less : (s : Scope) (h : HeadName) (ts : List Symbol) → size (left (header_line s h ts)) ≤ length ts
header_less s h [] = omega arith
header_less s h (t ∷ ts) =
    omega (arith, header_by s h t.line (after ts) (next (after ts)).kind, after_size ts, after_size (after ts))

-- ---- instruments

the_numbers : List (List ℕ) → List ℕ → List Symbol → Reading (List ℕ)
the_numbers d g ts = numbers (in_instrument d) g (after ts)

pub the_instr : List (List ℕ) → List ℕ → List Symbol → Reading Instrument
unfolding the_numbers
the_instr d g ts = ended (outside d)
    (through (in_instrument d) expected.Endin (both (instrument_of (next ts).line) (the_numbers d g ts)
    (the_block (in_instrument d) (left (ended (in_instrument d) (the_numbers d g ts))))))

pub reads_instr : (d : List (List ℕ)) (g : List ℕ) (ts : List Symbol) → ReadsInstr d g ts (the_instr d g ts)
unfolding the_instr the_numbers
reads_instr d g ts = instr (reads_numbers (in_instrument d) g (after ts))
    (reads_block (in_instrument d) (left (ended (in_instrument d) (the_numbers d g ts))))

pub instr_less : (d : List (List ℕ)) (g : List ℕ) (ts : List Symbol) → size (left (the_instr d g ts)) ≤ length ts
unfolding the_instr the_numbers
instr_less d g ts =
    let s = in_instrument d in
    let ns = the_numbers d g ts in
    let st = left (ended s ns) in
    let o = both (instrument_of (next ts).line) ns (the_block s st) in
    omega (
      arith,
      after_size ts,
      numbers_less s g (after ts),
      ended_size s ns,
      block_size s st,
      both_size (instrument_of (next ts).line) ns (the_block s st),
      through_size s expected.Endin o,
      ended_size (outside d) (through s expected.Endin o),
    )

pub instr_is : {d : List (List ℕ)} {g : List ℕ} {ts : List Symbol} {o : Reading Instrument} → ReadsInstr d g ts o
    → the_instr d g ts ≡ o
unfolding the_instr the_numbers
instr_is {d} {g} {ts} (instr {ns = ns} n h) =
    ap (λ x. ended (outside d) (through (in_instrument d) expected.Endin (both (instrument_of (next ts).line) x
    (the_block (in_instrument d) (left (ended (in_instrument d) x)))))) (numbers_are (in_instrument d) n)
    ∙ ap (λ b. ended (outside d) (through (in_instrument d) expected.Endin (both (instrument_of (next ts).line) ns b)))
    (block_is h)

-- ---- definitions

last_size : {A : Type 0} (s : Scope) (a : A) (ts : List Symbol) → size (left (last_line s a ts)) ≤ length ts + 1
last_size s a ts = choice_size (next_is expected.Endop ts) (Ok (a, ts)) (Err (behind_xout s ts)) (length ts + 1)
    (omega arith) (omega arith)

results_size : (s : Scope) (line : ℕ) (outs : List Rate) (o : Reading (List Argument))
    → size (left (results_of s line outs o)) ≤ size (left o)
results_size s line outs (Err f) = omega arith
results_size s line outs (Ok (args, ts)) =
    choice_size (length args == length outs) (last_line s args ts) (Err (record { line = line; kind = orc.XinXout }))
    (length ts + 1) (last_size s args ts)
    (omega arith)

the_xout : Scope → List Symbol → Reading (List Argument)
the_xout s ts = ended s (the_list s role.Result (Ok (after ts)))

reads_xout : (s : Scope) (ts : List Symbol) → ReadsXout s ts (the_xout s ts)
unfolding the_xout
reads_xout s ts = xout (reads_list s role.Result (Ok (after ts)))

xout_size : (s : Scope) (ts : List Symbol) → size (left (the_xout s ts)) ≤ length ts + 1
unfolding the_xout
xout_size s ts = omega (
  arith,
  after_size ts,
  list_size s role.Result (Ok (after ts)),
  ended_size s
      (the_list s role.Result (Ok (after ts))),
)

xout_is : {s : Scope} {ts : List Symbol} {o : Reading (List Argument)} → ReadsXout s ts o → the_xout s ts ≡ o
unfolding the_xout
xout_is {s} (xout h) = ap (ended s) (list_is h)

result_by : Scope → List Rate → List Symbol → Bool → Reading (List Argument)
result_by s outs ts false = no_results outs ts
result_by s outs ts true = results_of s (next ts).line outs (the_xout s ts)

the_result : Scope → List Rate → Left → Reading (List Argument)
the_result s outs (Ok ts) = result_by s outs ts (next_is expected.Xout ts)
the_result s outs (Err f) = Err f

result_right : (s : Scope) (outs : List Rate) (ts : List Symbol) (b : Bool) → next_is expected.Xout ts ≡ b
    → ReadsResult s outs (Ok ts) (result_by s outs ts b) × (size (left (result_by s outs ts b)) ≤ length ts + 1)
unfolding result_by
result_right s outs ts false e = (
  none_given s outs ts e,
  choice_size {A = List Argument} (is_none outs) (Ok ([], ts)) (Err (fault ts orc.XinXout)) (length ts + 1)
      (omega arith)
      (omega arith),
)
result_right s outs ts true e = (
  given s outs ts (the_xout s ts) e (reads_xout s ts),
  omega
      (arith, xout_size s ts, results_size s (next ts).line outs (the_xout s ts)),
)

reads_result : (s : Scope) (outs : List Rate) (st : Left) → ReadsResult s outs st (the_result s outs st)
unfolding the_result
reads_result s outs (Err f) = result_stop
reads_result s outs (Ok ts) = (result_right s outs ts (next_is expected.Xout ts) refl).0

result_size : (s : Scope) (outs : List Rate) (st : Left) → size (left (the_result s outs st)) ≤ size st
unfolding the_result
result_size s outs (Err f) = omega arith
result_size s outs (Ok ts) = (result_right s outs ts (next_is expected.Xout ts) refl).1

result_is : {s : Scope} {outs : List Rate} {st : Left} {o : Reading (List Argument)} → ReadsResult s outs st o
    → the_result s outs st ≡ o
unfolding the_result result_by
result_is result_stop = refl
result_is {s} {outs} (no_result {ts} e o) = ap (result_by s outs ts) e ∙ ap (λ x. no_results x ts) o
result_is {s} {outs} (xout_missing {ts} e o) = ap (result_by s outs ts) e ∙ some_missing outs ts o
result_is {s} {outs} (xout_broken {ts} e h) =
    ap (result_by s outs ts) e ∙ ap (results_of s (next ts).line outs) (xout_is h)
result_is {s} {outs} (xout_uneven {ts} {us} {vs} e h n) =
    ap (result_by s outs ts) e ∙ ap (results_of s (next ts).line outs) (xout_is h)
    ∙ uneven s (next ts).line outs vs us n
result_is {s} {outs} (xout_last {ts} {us} {vs} e h n l) =
    ap (result_by s outs ts) e ∙ ap (results_of s (next ts).line outs) (xout_is h)
    ∙ even s (next ts).line outs vs us true n l
result_is {s} {outs} (xout_not_last {ts} {us} {vs} e h n l) =
    ap (result_by s outs ts) e ∙ ap (results_of s (next ts).line outs) (xout_is h)
    ∙ even s (next ts).line outs vs us false n l

abbrev definition_from : List (List ℕ) → Scope → Heading → Reading (List (List ℕ)) → Reading Definition
definition_from d s h names =
    ended (outside d) (through s expected.Endop (three (definition_of h) names (the_block s (left names))
    (the_result s h.outs (left (the_block s (left names))))))

definition_by : List (List ℕ) → Reading Heading → Reading Definition
definition_by d (Err f) = Err f
definition_by d (Ok (h, us)) =
    let s = own_scope d h in
    let names = inputs s h us in
    let body = the_block s (left names) in
    ended (outside d) (through s expected.Endop (three (definition_of h) names body (the_result s h.outs (left body))))

pub the_definition : List (List ℕ) → List Symbol → Reading Definition
the_definition d ts = definition_by d (heading (in_definition [] d) (next ts).line (after ts))

definition_right : (d : List (List ℕ)) (ts : List Symbol) (o : Reading Heading)
    → heading (in_definition [] d) (next ts).line (after ts) ≡ o
    → ReadsDefinition d ts (definition_by d o) × (size (left (definition_by d o)) ≤ size (left o))
unfolding definition_by
definition_right d ts (Err f) e = (no_heading e, omega arith)
definition_right d ts (Ok (h, us)) e =
    let s = own_scope d h in
    let names = inputs s h us in
    let body = the_block s (left names) in
    let res = the_result s h.outs (left body) in
    let o = three (definition_of h) names body res in (
      udo e (reads_inputs s h us) (reads_block s (left names)) (reads_result s h.outs (left body)),
      omega (
        arith,
        inputs_size s h us,
        block_size s (left names),
        result_size s h.outs (left body),
        three_size (definition_of h) names body res,
        through_size s
            expected.Endop o,
        ended_size (outside d) (through s expected.Endop o),
      ),
    )

pub reads_definition : (d : List (List ℕ)) (ts : List Symbol) → ReadsDefinition d ts (the_definition d ts)
unfolding the_definition
reads_definition d ts = (definition_right d ts (heading (in_definition [] d) (next ts).line (after ts)) refl).0

pub definition_less : (d : List (List ℕ)) (ts : List Symbol) → size (left (the_definition d ts)) ≤ length ts
unfolding the_definition
definition_less d ts =
    omega (
      arith,
      after_size ts,
      heading_less (in_definition [] d) (next ts).line (after ts),
      (definition_right d ts (heading (in_definition [] d) (next ts).line (after ts)) refl).1,
    )

pub definition_is : {d : List (List ℕ)} {ts : List Symbol} {o : Reading Definition} → ReadsDefinition d ts o
    → the_definition d ts ≡ o
unfolding the_definition definition_by
definition_is {d} (no_heading e) = ap (definition_by d) e
definition_is {d} (udo {us = us} {h = h} {names = names} {body = body} e n k r) =
    let s = own_scope d h in
    ap (definition_by d) e ∙ ap (definition_from d s h) (inputs_are n)
    ∙ ap (λ b. ended (outside d)
    (through s expected.Endop (three (definition_of h) names b (the_result s h.outs (left b))))) (block_is k)
    ∙ ap (λ x. ended (outside d) (through s expected.Endop (three (definition_of h) names body x))) (result_is r)

-- ---- orchestras

abbrev Answers : Type 0
Answers = List (List ℕ) → List ℕ → Left → Reading Orchestra

abbrev by_form : Answers → List (List ℕ) → List ℕ → List Symbol → ItemForm → Reading Orchestra
by_form R d g ts item.End = Ok (nothing, ts)
by_form R d g ts (item.Header h) =
    both with_header (header_line (outside d) h ts) (R d g (left (header_line (outside d) h ts)))
by_form R d g ts item.Instr =
    both with_instr (the_instr d g ts) (R d (given_by g (the_instr d g ts)) (left (the_instr d g ts)))
by_form R d g ts item.Opcode =
    both with_definition (the_definition d ts) (R (defined_by d (the_definition d ts)) g (left (the_definition d ts)))
by_form R d g ts item.Statement = both with_stmt (the_stmt (outside d) ts) (R d g (left (the_stmt (outside d) ts)))

abbrev step : Answers → Answers
step R d g (Ok ts) = by_form R d g ts (item_form ts)
step R d g (Err f) = Err f

pub run : ℕ → Answers
run zero d g st = Err (record { line = 0; kind = orc.Unexpected })
run (suc n) d g st = step (run n) d g st

pub record Settles (d : List (List ℕ)) (g : List ℕ) (st : Left) (o : Reading Orchestra) : Type 0 where
  pub steps : ℕ
  pub ends : (n : ℕ) → steps ≤ n → run n d g st ≡ o

settle : {d : List (List ℕ)} {g : List ℕ} {st : Left} {o : Reading Orchestra} (k : ℕ)
    → ((m : ℕ) → k ≤ m → step (run m) d g st ≡ o) → Settles d g st o
unfolding run
settle {d} {g} {st} {o} k f = record { steps = suc k; ends = by }
  where
    by : (n : ℕ) → suc k ≤ n → run n d g st ≡ o
    by zero h = absurd (omega arith)
    by (suc m) h = f m (omega arith)

settles : {d : List (List ℕ)} {g : List ℕ} {st : Left} {o : Reading Orchestra} → ReadsOrc d g st o → Settles d g st o
settles orc_stop = settle 0 (λ m le. refl)
settles {d} {g} (orc_end {ts = ts} e) = settle 0 (λ m le. ap (by_form (run m) d g ts) e)
settles {d} {g} (orc_header {ts = ts} {h = h} e k) =
    let i = settles k in
    settle i.steps (λ m le. ap (by_form (run m) d g ts) e
    ∙ ap (both with_header (header_line (outside d) h ts)) (i.ends m le))
settles {d} {g} (orc_instr {ts = ts} {o = o} e h k) =
    let i = settles k in
    settle i.steps (λ m le. ap (by_form (run m) d g ts) e
    ∙ ap (λ x. both with_instr x (run m d (given_by g x) (left x))) (instr_is h)
    ∙ ap (both with_instr o) (i.ends m le))
settles {d} {g} (orc_udo {ts = ts} {o = o} e h k) =
    let i = settles k in
    settle i.steps (λ m le. ap (by_form (run m) d g ts) e
    ∙ ap (λ x. both with_definition x (run m (defined_by d x) g (left x))) (definition_is h)
    ∙ ap (both with_definition o) (i.ends m le))
settles {d} {g} (orc_stmt {ts = ts} {o = o} e h k) =
    let i = settles k in
    settle i.steps (λ m le. ap (by_form (run m) d g ts) e ∙ ap (λ x. both with_stmt x (run m d g (left x))) (stmt_is h)
    ∙ ap (both with_stmt o) (i.ends m le))

pub same_orc : {d : List (List ℕ)} {g : List ℕ} {st : Left} {o p : Reading Orchestra} → ReadsOrc d g st o
    → ReadsOrc d g st p → o ≡ p
same_orc h k =
    let i = settles h in
    let j = settles k in
    sym (i.ends (i.steps + j.steps) (omega arith)) ∙ j.ends (i.steps + j.steps) (omega arith)

sound_by : (R : Answers) (n : ℕ)
    → ((d : List (List ℕ)) (g : List ℕ) (st : Left) → size st < n → ReadsOrc d g st (R d g st))
    → (d : List (List ℕ)) (g : List ℕ) (ts : List Symbol) → length ts + 1 ≤ n → (f : ItemForm) → item_form ts ≡ f
    → ReadsOrc d g (Ok ts) (by_form R d g ts f)
sound_by R n ih d g ts w item.End e = orc_end e
sound_by R n ih d g ts w (item.Header h) e =
    orc_header e (ih d g (left (header_line (outside d) h ts)) (omega (arith, header_less (outside d) h ts)))
sound_by R n ih d g ts w item.Instr e =
    orc_instr e (reads_instr d g ts) (ih d (given_by g (the_instr d g ts)) (left (the_instr d g ts))
    (omega (arith, instr_less d g ts)))
sound_by R n ih d g ts w item.Opcode e =
    orc_udo e (reads_definition d ts) (ih (defined_by d (the_definition d ts)) g (left (the_definition d ts))
    (omega (arith, definition_less d ts)))
sound_by R n ih d g ts w item.Statement e =
    orc_stmt e (reads_stmt (outside d) ts) (ih d g (left (the_stmt (outside d) ts))
    (omega (arith, stmt_less (outside d) ts)))

sound : (n : ℕ) (d : List (List ℕ)) (g : List ℕ) (st : Left) → size st < n → ReadsOrc d g st (run n d g st)
unfolding run
sound zero d g st h = absurd (omega arith)
sound (suc n) d g (Err f) h = orc_stop
sound (suc n) d g (Ok ts) h = sound_by (run n) n (sound n) d g ts (omega arith) (item_form ts) refl

-- ---- the laws

reading : (source : List ℕ) (tokens : List Token) → (out : Reading Orchestra) × Parses source tokens out
reading source tokens =
    let st : Left = Ok (symbols source tokens) in
    (run (suc (size st)) [] [] st, sound (suc (size st)) [] [] st (omega arith))

some_by : (source : List ℕ) (tokens : List Token) (out : Reading Orchestra) → Parses source tokens out
    → ((orc : Orchestra) × Tree source tokens orc)
    ⊎ ((line : ℕ) × (kind : OrcKind) × ParseFault source tokens line kind)
some_by source tokens (Ok (orc, rest)) h = inl (orc, (rest, h))
some_by source tokens (Err f) h = inr (f.line, f.kind, h)

pub some_reading : (source : List ℕ) (tokens : List Token) → ((orc : Orchestra) × Tree source tokens orc) ⊎
    ((line : ℕ) × (kind : OrcKind) × ParseFault source tokens line kind)
some_reading source tokens =
    let r = reading source tokens in
    some_by source tokens r.0 r.1

abbrev tree_in : Reading Orchestra → Orchestra
tree_in (Ok (o, rest)) = o
tree_in (Err f) = nothing

abbrev fault_in : Reading Orchestra → OrcFault
fault_in (Ok (o, rest)) = record { line = 0; kind = orc.Unexpected }
fault_in (Err f) = f

pub one_tree : (source : List ℕ) (tokens : List Token) (o p : Orchestra) → Tree source tokens o → Tree source tokens p
    → o ≡ p
one_tree source tokens o p (rest, h) (others, k) = ap tree_in (same_orc h k)

pub one_fault : (source : List ℕ) (tokens : List Token) (l m : ℕ) (j k : OrcKind) → ParseFault source tokens l j
    → ParseFault source tokens m k
    → (l ≡ m) × (j ≡ k)
one_fault source tokens l m j k g h =
    (ap (λ o. (fault_in o).line) (same_orc g h), ap (λ o. (fault_in o).kind) (same_orc g h))

abbrev is_tree : Reading Orchestra → Bool
is_tree (Ok r) = true
is_tree (Err f) = false

pub not_both : (source : List ℕ) (tokens : List Token) (o : Orchestra) (l : ℕ) (k : OrcKind) → Tree source tokens o
    → ParseFault source tokens l k → ⊥
not_both source tokens o l k (rest, h) g = let e : true ≡ false = ap is_tree (same_orc h g) in cc
