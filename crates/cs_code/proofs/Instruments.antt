-- The codes of a block satisfy the contract of an instrument, and instruments are added in the order of the
-- text.
use Rattle.std.proofs.Common.{◌≡◌, ◌∙◌, ◌+◌, ◌<◌, ◌≤◌, ◌++◌, ℕ, true, List, [], ◌∷◌, length, map, max, take, get_or}
use Rattle.std.proofs.Common.{append_assoc, append-nil, arith, refl, sym, ap, ap₂, subst}
use Rattle.std.specs.List.{All, AllZip, Contains}
use Rattle.std.proofs.lemmas.{Grind.flat_map-append, List.map_more, List.map-append, List.get_or-map, List.length-map}
use Rattle.cs_base.specs.{declared.resource.Res.Res, declared.spaces.Spaces.Spaces}
use Rattle.cs_ir.specs.{Cycles.are_of_cycle, Limits.ops_limit, Registers.at_kind, Resources.NameTheSame}
use Rattle.cs_ir.specs.{Resources.ops_touch, Validity.fine_from, declared.op.Code.Code, declared.op.Op.Op}
use Rattle.cs_ir.specs.{declared.register.Counts.Counts, declared.register.Kind.Kind}
use Rattle.cs_ir.specs.declared.register.RegisterCounts.{RegisterCounts}
use Rattle.cs_ir.specs.Instruments.{Numbered, numbers_of}
use Rattle.cs_meaning.specs.{Core.core, Uses.block_touched, When.beginning, When.cycle}
use Rattle.cs_typed.specs.{WellRated.IsRatedBlock, declared.setting.Setting.Setting}
use Rattle.cs_typed.specs.declared.tree.TypedInstr.{TypedInstr}
use Rattle.cs_code.specs.Lowered.{IsCodeOf, IsNumberedCode, numbered_with, bodies, all_numbers}
use Rattle.cs_code.specs.{Means.Means, Names.block_units, Names.AllNamed, inner.Kept.start, inner.Kept.past_block}
use Rattle.cs_code.specs.{inner.Served.AreCodes, declared.codes.BlockOps.BlockOps}
use Rattle.cs_code.specs.inner.Code.{init_block_code, perf_block_code}
use Rattle.cs_code.proofs.FromRates.{block_ranked, narrow_block}
use Rattle.cs_code.proofs.{Lists.zip_one, Means.means_its_tree, Valid.names_of, Valid.perf_cycles}
use Rattle.cs_code.proofs.{Resources.block_touch, Validity.code_valid, Validity.units_counted}
use Rattle.cs_typed.specs.TypedTree as typed
use Rattle.cs_code.specs.declared.frame.Pass.TheVariants as pass

-- equal lists name the same resources
alike : (xs ys : List Res) → xs ≡ ys → NameTheSame xs ys
alike xs ys e g = (subst (λ l. Contains l g) e, subst (λ l. Contains l g) (sym e))

-- The facts about two generated codes of a block.
pub record Made (spaces : Spaces) (t : typed.Block) (counts : Counts) (init perf : List Op) : Type 0 where
  pub init_is : init ≡ init_block_code 0 start (core spaces t)
  pub perf_is : perf ≡ perf_block_code 0 start (core spaces t)
  pub units_are : counts.units ≡ (past_block start (core spaces t)).unit
  pub reached : (k : Kind) → at_kind counts.registers k ≡ max (ops_limit k init) (ops_limit k perf)

pub made_with : (spaces : Spaces) (t : typed.Block) (init perf : BlockOps) (one two all : RegisterCounts)
    → AreCodes spaces t init perf
    → ((k : Kind) → at_kind one k ≡ ops_limit k init.ops) → ((k : Kind) → at_kind two k ≡ ops_limit k perf.ops)
    → ((k : Kind) → at_kind all k ≡ max (at_kind one k) (at_kind two k))
    → Made spaces t (record { registers = all; units = init.extent.unit }) init.ops perf.ops
made_with spaces t init perf one two all codes ones twos greatest = record {
  init_is = codes.begins;
  perf_is = codes.performs;
  units_are = ap (λ p. p.unit) codes.extent;
  reached = λ k. greatest k ∙ (λ i. max (ones k i) (twos k i));
}

module _ (spaces : Spaces) (s : Setting) (t : typed.Block) (rated : IsRatedBlock s t) (counts : Counts)
    (init perf : List Op) (made : Made spaces t counts init perf) where
  units_reached : (past_block start (core spaces t)).unit ≤ counts.units
  units_reached = let e = made.units_are in omega arith

  pub made_init_valid : fine_from counts (length init) 0 init ≡ true
  made_init_valid =
      subst (λ ops. fine_from counts (length ops) 0 ops ≡ true) (sym made.init_is)
      (code_valid pass.Initialisation spaces s t rated counts units_reached
      (λ k. subst (λ ops. ops_limit k ops ≤ at_kind counts.registers k) made.init_is
      (let e = made.reached k in omega arith)))

  pub made_perf_valid : fine_from counts (length perf) 0 perf ≡ true
  made_perf_valid =
      subst (λ ops. fine_from counts (length ops) 0 ops ≡ true) (sym made.perf_is)
      (code_valid pass.Performance spaces s t rated counts units_reached
      (λ k. subst (λ ops. ops_limit k ops ≤ at_kind counts.registers k) made.perf_is
      (let e = made.reached k in omega arith)))

  made_means : Means (core spaces t) init perf
  made_means =
      subst (λ ops. Means (core spaces t) ops perf) (sym made.init_is)
      (subst (λ ops. Means (core spaces t) (init_block_code 0 start (core spaces t)) ops) (sym made.perf_is)
      (means_its_tree spaces s t rated))

  -- the contract of an instrument, for any two codes with these ops and counts
  pub made_code : (a b : Code) → a.ops ≡ init → a.counts ≡ counts
      → b.ops ≡ perf → b.counts ≡ counts → IsCodeOf spaces s.channels t a b
  made_code a b ops_a counts_a ops_b counts_b = record {
    means = subst (λ ops. Means (core spaces t) ops b.ops) (sym ops_a)
        (subst (λ ops. Means (core spaces t) init ops) (sym ops_b) made_means);
    runs = record {
      init_valid = ap (λ c. fine_from c (length a.ops) 0 a.ops) counts_a
          ∙ ap (λ ops. fine_from counts (length ops) 0 ops) ops_a ∙ made_init_valid;
      perf_valid = ap (λ c. fine_from c (length b.ops) 0 b.ops) counts_b
          ∙ ap (λ ops. fine_from counts (length ops) 0 ops) ops_b ∙ made_perf_valid;
      counts = counts_a ∙ sym counts_b;
      count = ap (λ (c : Counts). c.units) counts_a ∙ made.units_are ∙ units_counted (core spaces t);
      init_names = subst (AllNamed s.channels (block_units (core spaces t))) (sym (ops_a ∙ made.init_is))
          (names_of pass.Initialisation s.channels (core spaces t) (block_ranked spaces s t rated)
          (narrow_block spaces s t rated));
      perf_names = subst (AllNamed s.channels (block_units (core spaces t))) (sym (ops_b ∙ made.perf_is))
          (names_of pass.Performance s.channels (core spaces t) (block_ranked spaces s t rated)
          (narrow_block spaces s t rated));
      perf_cycle = ap are_of_cycle (ops_b ∙ made.perf_is)
          ∙ perf_cycles s.channels (core spaces t) (block_ranked spaces s t rated) (narrow_block spaces s t rated);
    };
    touches = record {
      begins = λ way stock. alike (ops_touch way stock a.ops) (block_touched way beginning stock (core spaces t))
          (ap (ops_touch way stock) (ops_a ∙ made.init_is)
          ∙ block_touch way stock pass.Initialisation 0 start (core spaces t));
      cycles = λ way stock. alike (ops_touch way stock b.ops) (block_touched way cycle stock (core spaces t))
          (ap (ops_touch way stock) (ops_b ∙ made.perf_is)
          ∙ block_touch way stock pass.Performance 0 start (core spaces t));
    };
  }

-- ---- instruments in the order of the text

-- equal codes
pub code_same : (spaces : Spaces) (channels : ℕ) (t : typed.Block) (a b init perf : Code) → a ≡ init → b ≡ perf
    → IsCodeOf spaces channels t init perf → IsCodeOf spaces channels t a b
code_same spaces channels t a b init perf e h code =
    subst (λ x. IsCodeOf spaces channels t x b) (sym e) (subst (λ x. IsCodeOf spaces channels t init x) (sym h) code)

-- a body under one more number
pub one_numbered : (spaces : Spaces) (channels : ℕ) (t : typed.Block) (ps : List (ℕ × typed.Block)) (ns : List ℕ)
    (i d : ℕ) (list : List Numbered) (x : Numbered)
    → i < length ns → AllZip (IsNumberedCode spaces channels) (ps ++ numbered_with t (take i ns)) list
    → x.number ≡ get_or ns i d → IsCodeOf spaces channels t x.init x.perf
    → AllZip (IsNumberedCode spaces channels) (ps ++ numbered_with t (take (i + 1) ns)) (list ++ x ∷ [])
one_numbered spaces channels t ps ns i d list x low h number code =
    let with : ℕ → ℕ × typed.Block = λ n. (n, t) in
    let more : ps ++ numbered_with t (take (i + 1) ns) ≡ (ps ++ numbered_with t (take i ns)) ++ with (get_or ns i d)
    ∷ [] =
    ap (λ l. ps ++ l) (map_more with ns i d low)
    ∙ sym (append_assoc ps (numbered_with t (take i ns)) (with (get_or ns i d) ∷ [])) in
    subst (λ l. AllZip (IsNumberedCode spaces channels) l (list ++ x ∷ [])) (sym more)
    (zip_one (IsNumberedCode spaces channels) (ps ++ numbered_with t (take i ns)) list (with (get_or ns i d)) x h
    (number, code))

-- the bodies of one more instrument
pub bodies_more : (rs : List typed.Block) (xs : List TypedInstr) (i : ℕ) (x : TypedInstr)
    → i < length xs → x ≡ get_or xs i x
    → bodies (map (typed.instrument rs) (take (i + 1) xs)) ≡ bodies (map (typed.instrument rs) (take i xs))
    ++ numbered_with (typed.block rs x.body.items) x.numbers
bodies_more rs xs i x low is =
    let of : typed.Instrument → List (ℕ × typed.Block) = λ (y : typed.Instrument). numbered_with y.body y.numbers in
    let before : List typed.Instrument = map (typed.instrument rs) (take i xs) in
    ap bodies (map_more (typed.instrument rs) xs i x low)
    ∙ flat_map-append of before (typed.instrument rs (get_or xs i x) ∷ [])
    ∙ ap (λ y. bodies before ++ (of (typed.instrument rs y) ++ [])) (sym is)
    ∙ ap (λ l. bodies before ++ l) (append-nil (of (typed.instrument rs x)))

-- a fact about all instruments holds for one of them
pub at_instrument : (rs : List typed.Block) (P : typed.Instrument → Type 0) (xs : List TypedInstr)
    (i : ℕ) (x : TypedInstr) → All P (map (typed.instrument rs) xs) → i < length xs
    → x ≡ get_or xs i x → P (typed.instrument rs x)
at_instrument rs P xs i x all low is =
    let long : length (map (typed.instrument rs) xs) ≡ length xs = length-map xs (typed.instrument rs) in
    subst P (get_or-map (typed.instrument rs) xs i x (typed.instrument rs x) low ∙ ap (typed.instrument rs) (sym is))
    (all i (typed.instrument rs x) (omega arith))

-- the numbers of instruments are the numbers in the text
zip_numbers : (spaces : Spaces) (channels : ℕ) (ps : List (ℕ × typed.Block)) (list : List Numbered)
    → AllZip (IsNumberedCode spaces channels) ps list → numbers_of list ≡ map (λ (p : ℕ × typed.Block). p.0) ps
zip_numbers spaces channels [] [] h = refl
zip_numbers spaces channels [] (x ∷ list) h = absurd h
zip_numbers spaces channels (p ∷ ps) [] h = absurd h
zip_numbers spaces channels (p ∷ ps) (x ∷ list) h = ap₂ ◌∷◌ h.0.0 (zip_numbers spaces channels ps list h.1)

numbers_with : (t : typed.Block) (ns : List ℕ) → map (λ (p : ℕ × typed.Block). p.0) (numbered_with t ns) ≡ ns
numbers_with t [] = refl
numbers_with t (n ∷ ns) = ap (λ l. n ∷ l) (numbers_with t ns)

bodies_numbers : (is : List typed.Instrument) → map (λ (p : ℕ × typed.Block). p.0) (bodies is) ≡ all_numbers is
bodies_numbers [] = refl
bodies_numbers (x ∷ is) =
    map-append (λ (p : ℕ × typed.Block). p.0) (numbered_with x.body x.numbers) (bodies is)
    ∙ ap₂ ◌++◌ (numbers_with x.body x.numbers) (bodies_numbers is)

pub same_numbers : (spaces : Spaces) (channels : ℕ) (is : List typed.Instrument) (list : List Numbered)
    → AllZip (IsNumberedCode spaces channels) (bodies is) list → numbers_of list ≡ all_numbers is
same_numbers spaces channels is list h = zip_numbers spaces channels (bodies is) list h ∙ bodies_numbers is
