-- Expressions, assignments and calls of the catalogue in a body that is typed where it is called, and typed
-- separately.
use Rattle.std.proofs.Common.{◌≡◌, ◌∙◌, ℕ, true, not, ◌&&◌, ◌||◌, if◌then◌else◌, List, [], ◌∷◌, map, Option, Some, None}
use Rattle.std.proofs.Common.{refl, ap}
use Rattle.std.proofs.lemmas.Bool.{and_parts}
use Rattle.cs_base.specs.{Rates.within, Rates.is_init, declared.per_rate.PerRate.PerRate}
use Rattle.cs_words.specs.{Catalogue.Row, Catalogue.row_of, Names.name_rate, declared.catalogue.Opcode.Opcode}
use Rattle.cs_grammar.specs.{Renaming.renamed_expression, Renaming.renamed_argument, declared.tree.Callee.Callee}
use Rattle.cs_grammar.specs.Tree.{Expression, var, neg, pair, pick, apply, Argument, value, text}
use Rattle.cs_typed.specs.TypedTree.{moved_variable, moved_expression, moved_argument, moved}
use Rattle.cs_typed.specs.declared.setting.Setting.{Setting}
use Rattle.cs_typing.specs.Calls.{channel_use, text_of, all_known, all_read_by, row_fault, row_fault_by, call_fault}
use Rattle.cs_typing.specs.Calls.{call_fault_by, call_known, call_shared, call_rate, arguments_by, row_by, call_by}
use Rattle.cs_typing.specs.{Calls.typed_row, Calls.typed_call, declared.known.Channel.Channel}
use Rattle.cs_typing.specs.Expressions.{reads_by, reads_known, expression_by, typed_expression}
use Rattle.cs_typing.specs.Known.{Shared, KnownHere, given_all, use_channel, clashes, variable, channel_of}
use Rattle.cs_typing.specs.Statements.{set_fault, set_fault_by, condition_fault, condition_fault_by}
use Rattle.cs_typing.specs.inner.Routines.{KnownInBody, known_in, knows_in, variable_in, all_given_in}
use Rattle.cs_typing.proofs.Named.{Named, NamedAll, NamedArguments}
use Rattle.cs_typing.proofs.RoutineNames.{Owns, Sees, Mirrors, knows_same, variable_same, variable_given, with_shared}
use Rattle.cs_typing.proofs.{RoutineNames.mirrors_all_given, Rules.keeps_rules}
use Rattle.cs_typing.proofs.SameRates.{KeepsRates, rate_of_kept, value_kept, condition_kept, use_kept, rates_kept}
use Rattle.cs_typing.proofs.SameRates.{wide_kept, text_kept, counts_kept, call_rate_kept}
use Rattle.cs_base.specs.declared.fault.OrcKind.TheVariants as orc
use Rattle.cs_grammar.specs.declared.tree.Callee.TheVariants as callee
use Rattle.cs_typed.specs.TypedTree as typed
use Rattle.cs_typing.specs.declared.known.Channel.TheVariants as channel

-- ---- in a body that knows the same names

module _ {P : List ℕ → Type 0} {own : List ℕ → List ℕ} {f : ℕ} (o : Owns P own f) (base : PerRate ℕ) (n : KnownHere)
    (k : KnownInBody) where
  kept : KeepsRates own
  kept = record { rate = o.rate }

  module _ (s : Sees P own base n k) where
    pub reads_same : (e : Expression) → Named P e → reads_known n (renamed_expression own e) ≡ reads_by (knows_in k) e
    reads_same (var x) h = knows_same o base n k s x h
    reads_same (neg a) h = reads_same a h
    reads_same (pair p a b) h = λ i. reads_same a h.0 i && reads_same b h.1 i
    reads_same (pick c a b) h = λ i. reads_same c h.0 i && reads_same a h.1 i && reads_same b h.2 i
    reads_same (apply p a) h = reads_same a h
    reads_same e h = refl

    pub typed_same : (e : Expression) → Named P e → reads_by (knows_in k) e ≡ true
        → typed_expression n (renamed_expression own e) ≡ moved_expression base (expression_by (variable_in k) e)
    typed_same (var x) h r = λ i. typed.var (o.rate x i) (variable_same o base n k s x h r i)
    typed_same (neg a) h r = λ i. typed.neg (rate_of_kept kept (neg a) i) (typed_same a h r i)
    typed_same (pair p a b) h r =
        let q = and_parts (reads_by (knows_in k) a) (reads_by (knows_in k) b) r in
        λ i. typed.pair (rate_of_kept kept (pair p a b) i) p (typed_same a h.0 q.0 i) (typed_same b h.1 q.1 i)
    typed_same (pick c a b) h r =
        let j = and_parts (reads_by (knows_in k) c && reads_by (knows_in k) a) (reads_by (knows_in k) b) r in
        let q = and_parts (reads_by (knows_in k) c) (reads_by (knows_in k) a) j.0 in
        λ i. typed.pick (rate_of_kept kept (pick c a b) i) (typed_same c h.0 q.0 i) (typed_same a h.1 q.1 i)
        (typed_same b h.2 j.1 i)
    typed_same (apply p a) h r = λ i. typed.apply (rate_of_kept kept (apply p a) i) p (typed_same a h r i)
    typed_same e h r = refl

    pub all_read_same : (args : List Argument) → NamedArguments P args
        → all_known n (map (renamed_argument own) args) ≡ all_read_by (knows_in k) args
    all_read_same [] h = refl
    all_read_same (value e ∷ args) h = λ i. reads_same e h.0 i && all_read_same args h.1 i
    all_read_same (text t ∷ args) h = ap (λ b. true && b) (all_read_same args h)

    channel_stays : (g : Shared) (kind : Channel) (t : List ℕ)
        → channel_of g kind t ≡ moved_variable base (channel_of g kind t)
    channel_stays g channel.Control t = refl
    channel_stays g channel.Sound t = refl

    arguments_same : (role : Option Channel) (args : List Argument) → NamedArguments P args
        → all_read_by (knows_in k) args ≡ true
        → arguments_by n.shared (variable n) role (map (renamed_argument own) args)
        ≡ map (moved_argument base) (arguments_by k.shared (variable_in k) role args)
    arguments_same role [] h r = refl
    arguments_same role (value e ∷ args) h r =
        let q = and_parts (reads_by (knows_in k) e) (all_read_by (knows_in k) args) r in
        λ i. typed.value (typed_same e h.0 q.0 i) ∷ arguments_same role args h.1 q.1 i
    arguments_same None (text t ∷ args) h r = arguments_same None args h r
    arguments_same (Some kind) (text t ∷ args) h r =
        let one = ap (λ g. channel_of g kind t) s.shared ∙ channel_stays k.shared kind t in
        λ i. typed.text (one i) ∷ arguments_same (Some kind) args h r i

    -- an assignment to a name with the rate of x
    pub set_fault_same : (q : Setting) (z x : List ℕ) → name_rate z ≡ name_rate x → (e : Expression) → Named P e
        → set_fault q n z (renamed_expression own e) ≡ set_fault_by q (knows_in k) x e
    set_fault_same q z x same e h = λ i.
        if not (reads_same e h i) then Some orc.Undefined
        else (if not (value_kept kept e i && within (rate_of_kept kept e i) (same i) && (q.inside || is_init (same i)))
        then Some orc.RateMismatch else None)

    pub condition_fault_same : (q : Setting) (e : Expression) → Named P e
        → condition_fault q n (renamed_expression own e) ≡ condition_fault_by q (knows_in k) e
    condition_fault_same q e h = λ i.
        if not (reads_same e h i) then Some orc.Undefined
        else (if not (condition_kept kept e i && (q.inside || is_init (rate_of_kept kept e i)))
        then Some orc.RateMismatch else None)

    row_fault_same : (q : Setting) (row : Row) (xs : List (List ℕ)) (args : List Argument) → NamedArguments P args
        → row_fault q n row (map own xs) (map (renamed_argument own) args)
        ≡ row_fault_by q k.shared (knows_in k) row xs args
    row_fault_same q row xs args h = λ i.
        if not (counts_kept kept row xs args i) then Some orc.ArgCount
        else (if not (all_read_same args h i) then Some orc.Undefined
        else (if not (rates_kept kept q row xs args i) then Some orc.RateMismatch
        else (if clashes (s.shared i) (use_kept kept row.shape xs args i) (text_kept kept args i)
        then Some orc.ChannelRate else (if wide_kept kept q row.shape args i then Some orc.OutCount else None))))

    pub call_fault_same : (q : Setting) (c : Callee) (xs : List (List ℕ)) (args : List Argument) → NamedArguments P args
        → call_fault q n c (map own xs) (map (renamed_argument own) args)
        ≡ call_fault_by q k.shared (knows_in k) c xs args
    call_fault_same q (callee.Opcode p) xs args h = row_fault_same q (row_of p) xs args h
    call_fault_same q (callee.Name name) xs args h = refl

  module _ (m : Mirrors P own f base n k) where
    results_same : (xs : List (List ℕ)) → NamedAll P xs
        → map (variable n) (map own xs) ≡ map (moved_variable base) (map (variable_in k) xs)
    results_same [] h = refl
    results_same (x ∷ xs) h = λ i. variable_given o base n k m x h.0 i ∷ results_same xs h.1 i

    row_same : (q : Setting) (line : ℕ) (p : Opcode) (row : Row) (xs : List (List ℕ)) (args : List Argument)
        → NamedAll P xs → NamedArguments P args → row_fault_by q k.shared (knows_in k) row xs args ≡ None
        → typed_row line n p row (map own xs) (map (renamed_argument own) args)
        ≡ moved base (row_by line k.shared (variable_in k) p row xs args)
    row_same q line p row xs args g h none =
        ap (λ role. typed.call line (call_rate row.shape (map own xs) (map (renamed_argument own) args))
        (map (variable n) (map own xs)) p (arguments_by n.shared (variable n) role (map (renamed_argument own) args)))
        (use_kept kept row.shape xs args)
        ∙ λ i. typed.call line (call_rate_kept kept row.shape xs args i) (results_same xs g i) p
        (arguments_same m.sees (channel_use row.shape xs args) args h
        (keeps_rules q k.shared (knows_in k) row xs args none).known i)

    pub call_same : (q : Setting) (line : ℕ) (c : Callee) (xs : List (List ℕ)) (args : List Argument)
        → NamedAll P xs → NamedArguments P args → call_fault_by q k.shared (knows_in k) c xs args ≡ None
        → typed_call line n c (map own xs) (map (renamed_argument own) args)
        ≡ moved base (call_by line k.shared (variable_in k) c xs args)
    call_same q line (callee.Opcode p) xs args g h none = row_same q line p (row_of p) xs args g h none
    call_same q line (callee.Name name) xs args g h none = refl

    pub call_mirrors : (c : Callee) (xs : List (List ℕ)) (args : List Argument) → NamedAll P xs
        → Mirrors P own f base (call_known n c (map own xs) (map (renamed_argument own) args))
        (known_in (call_shared k.shared c xs args) (all_given_in k.locals xs))
    call_mirrors (callee.Opcode p) xs args h =
        let sh = (row_of p).shape in
        with_shared P own f base (given_all n (map own xs)) (known_in k.shared (all_given_in k.locals xs))
        (mirrors_all_given P own f o base n k m xs h)
        (use_channel n.shared (channel_use sh (map own xs) (map (renamed_argument own) args))
        (text_of (map (renamed_argument own) args))) (use_channel k.shared (channel_use sh xs args) (text_of args))
        (λ i. use_channel (m.sees.shared i) (use_kept kept sh xs args i) (text_kept kept args i))
    call_mirrors (callee.Name name) xs args h = mirrors_all_given P own f o base n k m xs h
