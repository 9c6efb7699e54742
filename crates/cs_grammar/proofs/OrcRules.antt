-- The rules of instruments, definitions and orchestras, in the form in which the parser uses them.
use Rattle.std.proofs.Common.{◌≡◌, ◌∙◌, ◌++◌, ℕ, List, ◌∷◌, map, Result, Ok, Err, refl, sym, ap, subst, []}
use Rattle.std.proofs.lemmas.List.{append_assoc, append-nil}
use Rattle.std.specs.Result.{IsErrAnd}
use Rattle.cs_base.specs.{declared.fault.Or.Or, declared.fault.OrcFault.OrcFault}
use Rattle.cs_words.specs.declared.word.HeadName.{HeadName}
use Rattle.cs_grammar.specs.{declared.tree.HeadLine.HeadLine, declared.tree.OrcStmt.OrcStmt, declared.tree.Instr.Instr}
use Rattle.cs_grammar.specs.{declared.tree.Udo.Udo, declared.tree.Orc.Orc, Headings.Heading, Headings.heading}
use Rattle.cs_grammar.specs.{Lines.header_line, inner.Rows.numbers, inner.Takes.inputs}
use Rattle.cs_grammar.specs.Grammar.{ReadsBlock, ReadsStmt, block_stop}
use Rattle.cs_grammar.specs.Orchestra.{with_header, with_instr, with_stmt, ReadsDefinition, ReadsInstr, ReadsOrc}
use Rattle.cs_grammar.specs.Orchestra.{ReadsResult, definition_of, instr, instrument_of, item_form, no_heading, nothing}
use Rattle.cs_grammar.specs.Orchestra.{orc_end, orc_header, orc_instr, orc_stmt, orc_stop, orc_udo, own_scope}
use Rattle.cs_grammar.specs.Orchestra.{result_stop, udo, with_definition}
use Rattle.cs_grammar.specs.Reading.{Left, Reading, Scope, both, ended, in_definition, in_instrument, left, mapped}
use Rattle.cs_grammar.specs.Reading.{outside, three, through}
use Rattle.cs_grammar.specs.Tree.{Argument, Block, Definition, Instrument, Orchestra, Statement, andthen, block}
use Rattle.cs_grammar.specs.Tree.{definition, instrument, joins, no_stmt, orchestra, statement}
use Rattle.cs_grammar.specs.inner.Answers.{Gives, IsInside, IsInstrBody, IsLines, OrcSoFar, Parts, ReadsOn, joined}
use Rattle.cs_grammar.specs.inner.Answers.{line_past, of_inside, past}
use Rattle.cs_grammar.specs.declared.symbol.Expected.{Expected}
use Rattle.cs_grammar.specs.Symbols.{Symbol, after, next}
use Rattle.cs_grammar.proofs.{OneRow.reads_numbers, OneXin.reads_inputs}
use Rattle.cs_grammar.proofs.Gives.{Same, both_mapped, closing_mapped, line_keeps, through_is, ended_is, valued}
use Rattle.cs_base.specs.declared.fault.Or.TheVariants as or
use Rattle.cs_grammar.specs.declared.orc.ItemForm.TheVariants as item
use Rattle.cs_grammar.specs.declared.symbol.Expected.TheVariants as expected

-- ---- instruments and definitions

module _ (d : List (List ℕ)) (g : List ℕ) (ts : List Symbol) where
  abbrev InstrRead : Reading Block → Reading (List ℕ) → Type 0
  InstrRead body n = ReadsBlock (in_instrument d) (left (ended (in_instrument d) n)) body → ReadsInstr d g ts
      (ended (outside d) (through (in_instrument d) expected.Endin (both (instrument_of (next ts).line) n body)))

  pub instr_is : (n : Reading (List ℕ)) (body : Reading Block) → numbers (in_instrument d) g (after ts) ≡ n
      → ReadsBlock (in_instrument d) (left (ended (in_instrument d) n)) body → ReadsInstr d g ts
      (ended (outside d) (through (in_instrument d) expected.Endin (both (instrument_of (next ts).line) n body)))
  instr_is n body e k =
      let start : InstrRead body (numbers (in_instrument d) g (after ts)) =
      instr (reads_numbers (in_instrument d) g (after ts)) in
      subst (InstrRead body) e start k

abbrev DefinitionRead : List (List ℕ) → List Symbol → Heading → Reading Block → Reading (List Argument)
    → Reading (List (List ℕ)) → Type 0
DefinitionRead d ts h body result n =
    ReadsBlock (own_scope d h) (left n) body → ReadsResult (own_scope d h) h.outs (left body) result
    → ReadsDefinition d ts (ended (outside d)
    (through (own_scope d h) expected.Endop (three (definition_of h) n body result)))

pub udo_is : (d : List (List ℕ)) (ts us : List Symbol) (h : Heading) (n : Reading (List (List ℕ)))
    (body : Reading Block) (result : Reading (List Argument))
    → heading (in_definition [] d) (next ts).line (after ts) ≡ Ok (h, us) → inputs (own_scope d h) h us ≡ n
    → ReadsBlock (own_scope d h) (left n) body
    → ReadsResult (own_scope d h) h.outs (left body) result → ReadsDefinition d ts (ended (outside d)
    (through (own_scope d h) expected.Endop (three (definition_of h) n body result)))
udo_is d ts us h n body result e i k r =
    let start : DefinitionRead d ts h body result (inputs (own_scope d h) h us) =
    udo e (reads_inputs (own_scope d h) h us) in
    subst (DefinitionRead d ts h body result) i start k r

-- a part that was read, a symbol that must come next, and the end of the line
pub closed : {A : Type 0} (s t : Scope) (a : A) (mid now : List Symbol) (st : Left) (p : Expected)
    → past s p mid ≡ Ok now
    → line_past t (next now).kind now ≡ st → ended t (through s p (Ok (a, mid))) ≡ valued a st
closed s t a mid now st p e l = ap (ended t) (through_is s p a mid (Ok now) e) ∙ ended_is t a now st l

pub unclosed : {A : Type 0} (s t : Scope) (a : A) (mid : List Symbol) (f : OrcFault) (p : Expected)
    → past s p mid ≡ Err f
    → ended t (through s p (Ok (a, mid))) ≡ Err f
unclosed s t a mid f p e = ap (ended t) (through_is s p a mid (Err f) e)

-- ---- orchestras

joins_none : (b : Block) → joins b no_stmt ≡ b
joins_none no_stmt = refl
joins_none (andthen x b) = ap (andthen x) (joins_none b)

joins_more : (xs : List OrcStmt) (x : OrcStmt) (b : Block)
    → joins (block (xs ++ x ∷ [])) b ≡ joins (block xs) (andthen (statement x) b)
joins_more [] x b = refl
joins_more (y ∷ xs) x b = ap (andthen (statement y)) (joins_more xs x b)

map_more : {A B : Type 0} (f : A → B) (xs : List A) (x : A) (ys : List B)
    → map f (xs ++ x ∷ []) ++ ys ≡ map f xs ++ (f x ∷ ys)
map_more f [] x ys = refl
map_more f (y ∷ xs) x ys = ap (λ zs. f y ∷ zs) (map_more f xs x ys)

pub orc_begun : (ts : List Symbol) → OrcSoFar ts nothing [] [] ts
orc_begun ts (Ok (o, rest)) h = h
orc_begun ts (Err f) h = h

pub orc_done : (first now : List Symbol) (o : Orchestra) (d : List (List ℕ)) (g : List ℕ) → OrcSoFar first o d g now
    → item_form now ≡ item.End
    → ReadsOrc [] [] (Ok first) (Ok (joined o nothing, now))
orc_done first now o d g h e = h (Ok (nothing, now)) (orc_end e)

added : {X : Type 0} (add : X → Orchestra → Orchestra) (x : X) (o p : Orchestra) (mid : List Symbol)
    → ((q : Orchestra) → joined o (add x q) ≡ joined p q)
    → (out : Reading Orchestra) → mapped (joined o) (both add (Ok (x, mid)) out) ≡ mapped (joined p) out
added add x o p mid e (Ok (q, ts)) = ap (λ r. Ok (r, ts)) (e q)
added add x o p mid e (Err f) = refl

abbrev orchestra_of : List HeadLine → List Definition → Block → List Instrument → Orchestra
orchestra_of h u z i = record { head = h; opcodes = u; zero = z; instrs = i }

-- an orchestra that was read so far, and then one more part, which goes to the end of its list
module _ (first old : List Symbol) (d : List (List ℕ)) (g : List ℕ) (o : Orc)
    (s : OrcSoFar first (orchestra o) d g old) where
  abbrev opcodes : List Definition
  opcodes = map definition o.opcodes.items

  abbrev zero : Block
  zero = block o.zero.items

  abbrev instrs : List Instrument
  instrs = map instrument o.instrs.items

  pub header_fails : (h : HeadName) (f : OrcFault) → item_form old ≡ item.Header h
      → header_line (outside d) h old ≡ Err f → ReadsOrc [] [] (Ok first) (Err f)
  header_fails h f e k =
      s (Err f) (subst (λ r. ReadsOrc d g (Ok old) (both with_header r (Err f))) k
      (orc_header e (subst (λ r. ReadsOrc d g (left r) (Err f)) (sym k) orc_stop)))

  pub header_added : (h : HeadName) (x : HeadLine) (now : List Symbol) (xs : List HeadLine)
      → xs ≡ o.head.items ++ x ∷ [] → item_form old ≡ item.Header h → header_line (outside d) h old ≡ Ok (x, now)
      → OrcSoFar first (orchestra_of xs opcodes zero instrs) d g now
  header_added h x now xs is e k out r =
      subst (ReadsOrc [] [] (Ok first))
      (added with_header x (orchestra o) (orchestra_of xs opcodes zero instrs) now
      (λ q. ap (λ t. orchestra_of t (opcodes ++ q.opcodes) (joins zero q.zero) (instrs ++ q.instrs))
      (sym (ap (λ t. t ++ q.head) is ∙ append_assoc o.head.items (x ∷ []) q.head))) out)
      (s (both with_header (Ok (x, now)) out)
      (subst (λ y. ReadsOrc d g (Ok old) (both with_header y out)) k
      (orc_header e (subst (λ y. ReadsOrc d g (left y) out) (sym k) r))))

  pub instr_fails : (f : OrcFault) → item_form old ≡ item.Instr → ReadsInstr d g old (Err f)
      → ReadsOrc [] [] (Ok first) (Err f)
  instr_fails f e k = s (Err f) (orc_instr e k orc_stop)

  pub instr_added : (x : Instr) (now : List Symbol) (xs : List Instr) (given : List ℕ)
      → xs ≡ o.instrs.items ++ x ∷ [] → given ≡ g ++ x.numbers
      → item_form old ≡ item.Instr → ReadsInstr d g old (Ok (instrument x, now))
      → OrcSoFar first (orchestra_of o.head.items opcodes zero (map instrument xs)) d given now
  instr_added x now xs given is more e k out r =
      subst (ReadsOrc [] [] (Ok first))
      (added with_instr (instrument x) (orchestra o) (orchestra_of o.head.items opcodes zero (map instrument xs)) now
      (λ q. ap (λ t. orchestra_of (o.head.items ++ q.head) (opcodes ++ q.opcodes) (joins zero q.zero) t)
      (sym (ap (λ t. map instrument t ++ q.instrs) is ∙ map_more instrument o.instrs.items x q.instrs))) out)
      (s (both with_instr (Ok (instrument x, now)) out)
      (orc_instr e k (subst (λ y. ReadsOrc d y (Ok now) out) more r)))

  pub definition_fails : (f : OrcFault) → item_form old ≡ item.Opcode → ReadsDefinition d old (Err f)
      → ReadsOrc [] [] (Ok first) (Err f)
  definition_fails f e k = s (Err f) (orc_udo e k orc_stop)

  pub definition_added : (x : Udo) (now : List Symbol) (xs : List Udo) (names : List (List ℕ))
      → xs ≡ o.opcodes.items ++ x ∷ [] → names ≡ d ++ x.name ∷ []
      → item_form old ≡ item.Opcode → ReadsDefinition d old (Ok (definition x, now))
      → OrcSoFar first (orchestra_of o.head.items (map definition xs) zero instrs) names g now
  definition_added x now xs names is more e k out r =
      let p = orchestra_of o.head.items (map definition xs) zero instrs in
      subst (ReadsOrc [] [] (Ok first)) (added with_definition (definition x) (orchestra o) p now
      (λ q. ap (λ t. orchestra_of (o.head.items ++ q.head) t (joins zero q.zero) (instrs ++ q.instrs))
      (sym (ap (λ t. map definition t ++ q.opcodes) is ∙ map_more definition o.opcodes.items x q.opcodes))) out)
      (s (both with_definition (Ok (definition x, now)) out)
      (orc_udo e k (subst (λ y. ReadsOrc y g (Ok now) out) more r)))

  pub stmt_fails : (f : OrcFault) → item_form old ≡ item.Statement → ReadsStmt (outside d) old (Err f)
      → ReadsOrc [] [] (Ok first) (Err f)
  stmt_fails f e k = s (Err f) (orc_stmt e k orc_stop)

  pub stmt_added : (x : OrcStmt) (now : List Symbol) (xs : List OrcStmt) → xs ≡ o.zero.items ++ x ∷ []
      → item_form old ≡ item.Statement → ReadsStmt (outside d) old (Ok (statement x, now))
      → OrcSoFar first (orchestra_of o.head.items opcodes (block xs) instrs) d g now
  stmt_added x now xs is e k out r =
      subst (ReadsOrc [] [] (Ok first))
      (added with_stmt (statement x) (orchestra o) (orchestra_of o.head.items opcodes (block xs) instrs) now
      (λ q. ap (λ t. orchestra_of (o.head.items ++ q.head) (opcodes ++ q.opcodes) t (instrs ++ q.instrs))
      (sym (ap (λ t. joins (block t) q.zero) is ∙ joins_more o.zero.items x q.zero))) out)
      (s (both with_stmt (Ok (statement x, now)) out) (orc_stmt e k r))

all_joined : (h : List HeadLine) (u : List Definition) (z : Block) (i : List Instrument)
    → joined (orchestra_of h u z i) nothing ≡ orchestra_of h u z i
all_joined h u z i =
    ap (λ k. orchestra_of k (u ++ []) (joins z no_stmt) (i ++ [])) (append-nil h)
    ∙ ap (λ k. orchestra_of h k (joins z no_stmt) (i ++ [])) (append-nil u)
    ∙ ap (λ k. orchestra_of h u k (i ++ [])) (joins_none z) ∙ ap (λ k. orchestra_of h u z k) (append-nil i)

orc_whole : (first now : List Symbol) (h : List HeadLine) (u : List Definition) (z : Block) (i : List Instrument)
    (d : List (List ℕ)) (g : List ℕ)
    → OrcSoFar first (orchestra_of h u z i) d g now → item_form now ≡ item.End
    → ReadsOrc [] [] (Ok first) (Ok (orchestra_of h u z i, now))
orc_whole first now h u z i d g s e =
    subst (λ o. ReadsOrc [] [] (Ok first) (Ok (o, now))) (all_joined h u z i)
    (orc_done first now (orchestra_of h u z i) d g s e)

pub orc_read : (first now : List Symbol) (o : Orchestra) (d : List (List ℕ)) (g : List ℕ) → OrcSoFar first o d g now
    → item_form now ≡ item.End
    → ReadsOrc [] [] (Ok first) (Ok (o, now))
orc_read first now o d g s e = orc_whole first now o.head o.opcodes o.zero o.instrs d g s e

-- ---- the exits of a `?` in a call that continues a reading

pub failed_on : {T U A : Type 0} (see : T → A) (r : Result U (Or OrcFault)) (e : Or OrcFault) (rest first : List Symbol)
    (P : Reading A → Type 0)
    (so_far : Type 0) → IsErrAnd r (Same e) → Gives see (Err e) rest P
    → ((f : OrcFault) → P (Err f) → ReadsOrc [] [] (Ok first) (Err f))
    → ReadsOn r first so_far
failed_on see (Ok x) e rest first P so_far i h k = elim i [ ]
failed_on {U = U} see (Err (or.Fault g)) (or.Fault f) rest first P so_far i h k =
    subst (λ y. ReadsOn {T = U} (Err y) first so_far) (sym i) (k f h)
failed_on see (Err or.OutOfMemory) e rest first P so_far i h k = tt
failed_on see (Err (or.Fault g)) or.OutOfMemory rest first P so_far i h k = cc

-- ---- an instrument, part by part

pub instr_body_is : {s : Scope} (d : List (List ℕ)) {ts : List Symbol} (b : Block) (mid now : List Symbol) (st : Left)
    → ReadsBlock s (Ok ts) (Ok (b, mid))
    → past s expected.Endin mid ≡ Ok now → line_past (outside d) (next now).kind now ≡ st
    → IsInstrBody s d ts (valued b st)
instr_body_is {s} d b mid now st k p l = (Ok (b, mid), k, sym (closed s (outside d) b mid now st expected.Endin p l))

pub instr_body_open : {s : Scope} (d : List (List ℕ)) {ts : List Symbol} (b : Block) (mid : List Symbol) (f : OrcFault)
    → ReadsBlock s (Ok ts) (Ok (b, mid))
    → past s expected.Endin mid ≡ Err f → IsInstrBody s d ts (Err f)
instr_body_open {s} d b mid f k p = (Ok (b, mid), k, sym (unclosed s (outside d) b mid f expected.Endin p))

module _ (d : List (List ℕ)) (g : List ℕ) (ts : List Symbol) where
  abbrev all_numbers : Reading (List ℕ)
  all_numbers = numbers (in_instrument d) g (after ts)

  no_line_of : (n : Reading (List ℕ)) (f : OrcFault) → all_numbers ≡ n → Err f ≡ ended (in_instrument d) n
      → ReadsInstr d g ts (Err f)
  no_line_of (Err h) f e l = let same : h ≡ f =
      cc in subst (λ x. ReadsInstr d g ts (Err x)) same (instr_is d g ts (Err h) (Err h) e block_stop)
  no_line_of (Ok (ns, mid)) f e l =
      instr_is d g ts (Ok (ns, mid)) (Err f) e (subst (λ x. ReadsBlock (in_instrument d) (left x) (Err f)) l block_stop)

  pub instr_no_line : (f : OrcFault) → Err f ≡ ended (in_instrument d) all_numbers → ReadsInstr d g ts (Err f)
  instr_no_line f l = no_line_of all_numbers f refl l

  with_line : (n : Reading (List ℕ)) (ns : List ℕ) (us : List Symbol) (o : Reading Block) → all_numbers ≡ n
      → Ok (ns, us) ≡ ended (in_instrument d) n
      → IsInstrBody (in_instrument d) d us o → ReadsInstr d g ts (mapped (instrument_of (next ts).line ns) o)
  with_line (Err h) ns us o e l k = cc
  with_line (Ok (ms, mid)) ns us o e l (b, k, i) =
      let same : ms ≡ ns = sym (line_keeps (in_instrument d) ns ms us mid l) in
      let way : Reading Block → Reading Instrument = (λ x. mapped (instrument_of (next ts).line ms) x) in
      let end : ended (outside d)
      (through (in_instrument d) expected.Endin (both (instrument_of (next ts).line) (Ok (ms, mid)) b)) ≡ way o =
      (ap (λ x. ended (outside d) (through (in_instrument d) expected.Endin x))
      (both_mapped (instrument_of (next ts).line) ms mid b)
      ∙ closing_mapped (in_instrument d) (outside d) expected.Endin (instrument_of (next ts).line ms) b
      ∙ ap way (sym i)) in
      subst (λ x. ReadsInstr d g ts (mapped (instrument_of (next ts).line x) o)) same (subst (ReadsInstr d g ts) end
      (instr_is d g ts (Ok (ms, mid)) b e (subst (λ st. ReadsBlock (in_instrument d) st b) (ap left l) k)))

  pub instr_reads : (ns : List ℕ) (us : List Symbol) (o : Reading Block)
      → Ok (ns, us) ≡ ended (in_instrument d) all_numbers
      → IsInstrBody (in_instrument d) d us o → ReadsInstr d g ts (mapped (instrument_of (next ts).line ns) o)
  instr_reads ns us o l k = with_line all_numbers ns us o refl l k

-- ---- a definition, part by part; `top` is the scope of its first line

pub no_definition : (d : List (List ℕ)) (ts : List Symbol) (top : Scope) (f : OrcFault) → top ≡ in_definition [] d
    → Err f ≡ heading top (next ts).line (after ts) → ReadsDefinition d ts (Err f)
no_definition d ts top f is e = no_heading (sym (e ∙ ap (λ x. heading x (next ts).line (after ts)) is))

pub heading_read : (d : List (List ℕ)) (ts us : List Symbol) (h : Heading) (top : Scope) → top ≡ in_definition [] d
    → Ok (h, us) ≡ heading top (next ts).line (after ts)
    → heading (in_definition [] d) (next ts).line (after ts) ≡ Ok (h, us)
heading_read d ts us h top is e = sym (e ∙ ap (λ x. heading x (next ts).line (after ts)) is)

module _ {s : Scope} (h : Heading) (ts : List Symbol) where
  pub inside_no_names : (f : OrcFault) → Err f ≡ inputs s h ts → IsInside s h ts (Err f)
  inside_no_names f e = (Err f, Err f, Err f, sym e, block_stop, result_stop, refl)

  pub inside_no_body : (n : List (List ℕ)) (us : List Symbol) (f : OrcFault) → Ok (n, us) ≡ inputs s h ts
      → ReadsBlock s (Ok us) (Err f)
      → IsInside s h ts (Err f)
  inside_no_body n us f e k = (Ok (n, us), Err f, Err f, sym e, k, result_stop, refl)

  pub inside_is : (n : List (List ℕ)) (us vs : List Symbol) (b : Block) (r : Reading (List Argument))
      → Ok (n, us) ≡ inputs s h ts
      → ReadsBlock s (Ok us) (Ok (b, vs)) → ReadsResult s h.outs (Ok vs) r
      → IsInside s h ts (both (λ y z. (n, y, z)) (Ok (b, vs)) r)
  inside_is n us vs b r e k i = (Ok (n, us), Ok (b, vs), r, sym e, k, i, refl)

module _ {s : Scope} (d : List (List ℕ)) (h : Heading) (ts : List Symbol) where
  pub lines_fail : (f : OrcFault) → IsInside s h ts (Err f) → IsLines s d h ts (Err f)
  lines_fail f k = (Err f, k, refl)

  pub lines_open : (p : Parts) (mid : List Symbol) (f : OrcFault) → IsInside s h ts (Ok (p, mid))
      → past s expected.Endop mid ≡ Err f → IsLines s d h ts (Err f)
  lines_open p mid f k q = (Ok (p, mid), k, sym (unclosed s (outside d) p mid f expected.Endop q))

  pub lines_are : (p : Parts) (mid now : List Symbol) (st : Left) → IsInside s h ts (Ok (p, mid))
      → past s expected.Endop mid ≡ Ok now
      → line_past (outside d) (next now).kind now ≡ st → IsLines s d h ts (valued p st)
  lines_are p mid now st k q l = (Ok (p, mid), k, sym (closed s (outside d) p mid now st expected.Endop q l))

three_inside : (h : Heading) (n : Reading (List (List ℕ))) (b : Reading Block) (r : Reading (List Argument))
    → three (definition_of h) n b r ≡ mapped (of_inside h) (three (λ x y z. (x, y, z)) n b r)
three_inside h (Err f) b r = refl
three_inside h (Ok (n, us)) (Err f) r = refl
three_inside h (Ok (n, us)) (Ok (b, vs)) (Err f) = refl
three_inside h (Ok (n, us)) (Ok (b, vs)) (Ok (r, ws)) = refl

pub definition_reads : (d : List (List ℕ)) (ts us : List Symbol) (h : Heading) (o : Reading Parts)
    → heading (in_definition [] d) (next ts).line (after ts) ≡ Ok (h, us) → IsLines (own_scope d h) d h us o
    → ReadsDefinition d ts (mapped (of_inside h) o)
definition_reads d ts us h o e (p, (n, b, r, i, k, j, w), l) =
    let s : Scope = own_scope d h in
    subst (ReadsDefinition d ts)
    (ap (λ x. ended (outside d) (through s expected.Endop x)) (three_inside h n b r ∙ ap (mapped (of_inside h)) (sym w))
    ∙ closing_mapped s (outside d) expected.Endop (of_inside h) p ∙ ap (mapped (of_inside h)) (sym l))
    (udo_is d ts us h n b r e i k j)

-- ---- the result of `parse`

pub failed_orc : (U : Type 0) (r : Result Orc (Or OrcFault)) (e : Or OrcFault) (rest first : List Symbol)
    (so_far : Type 0) → IsErrAnd r (Same e)
    → ReadsOn {T = U} (Err e) first so_far → Gives orchestra r rest (ReadsOrc [] [] (Ok first))
failed_orc U (Ok x) e rest first so_far i h = elim i [ ]
failed_orc U (Err (or.Fault g)) (or.Fault f) rest first so_far i h =
    subst (λ y. Gives orchestra (Err y) rest (ReadsOrc [] [] (Ok first))) (sym i) h
failed_orc U (Err or.OutOfMemory) e rest first so_far i h = tt
failed_orc U (Err (or.Fault g)) or.OutOfMemory rest first so_far i h = cc

-- such an exit in a call that continues a reading
pub failed_items : (T U : Type 0) (r : Result U (Or OrcFault)) (e : Or OrcFault) (first : List Symbol) (P Q : Type 0)
    → IsErrAnd r (Same e)
    → ReadsOn {T = T} (Err e) first P → ReadsOn r first Q
failed_items T U (Ok x) e first P Q i h = elim i [ ]
failed_items T U (Err (or.Fault g)) (or.Fault f) first P Q i h = subst (λ y. ReadsOn {T = U} (Err y) first Q) (sym i) h
failed_items T U (Err or.OutOfMemory) e first P Q i h = tt
failed_items T U (Err (or.Fault g)) or.OutOfMemory first P Q i h = cc
