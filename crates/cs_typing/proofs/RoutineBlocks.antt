-- Statements typed in their expansion, and typed with routines: the same names are known after them, they
-- break the same rule first, and their typed forms differ only by base numbers.
use Rattle.std.proofs.Common.{◌≡◌, ◌∙◌, ℕ, ◌≤◌, ◌<◌, ◌==◌, Bool, true, false, not, ◌&&◌, ◌||◌, if◌then◌else◌, List, []}
use Rattle.std.proofs.Common.{◌∷◌, ◌++◌, length, map, Option, Some, None, arith, refl, sym, ap, subst}
use Rattle.std.specs.Option.{option_or}
use Rattle.std.proofs.lemmas.{Bool.and_parts, Bool.Decides.nat_tests}
use Rattle.cs_base.proofs.Tests.{both_none}
use Rattle.cs_base.specs.{Rates.is_init, declared.fault.OrcFault.OrcFault, declared.fault.OrcKind.OrcKind}
use Rattle.cs_base.specs.declared.per_rate.PerRate.{PerRate}
use Rattle.cs_words.specs.Names.{is_global}
use Rattle.cs_grammar.specs.Renaming.{renamed_expression, renamed_argument}
use Rattle.cs_grammar.specs.{declared.tree.Callee.Callee, Tree.Arms, Tree.otherwise, Tree.arm}
use Rattle.cs_grammar.specs.Tree.{Argument, value, text, Statement, set, call, choose, Block, no_stmt, andthen, joins}
use Rattle.cs_typed.specs.{Calls.rate_of_choice, declared.setting.Setting.Setting}
use Rattle.cs_typed.specs.TypedTree.{moved_arms, then_block}
use Rattle.cs_typed.proofs.Moved.{moved_then}
use Rattle.cs_udo.specs.Expanded.{Template, Opcodes, defined, assignments, value_in, called, after_called, after}
use Rattle.cs_udo.specs.Expanded.{after_block, after_arms, expanded, expanded_block, expanded_arms}
use Rattle.cs_udo.specs.Names.{fresh, in_frame}
use Rattle.cs_udo.specs.Refused.{has_text, broken_rule, call_faults, faults, faults_in, faults_in_arms}
use Rattle.cs_udo.proofs.Fresh.{framed_fresh, framed_global}
use Rattle.cs_typing.specs.{Calls.call_fault_by, Calls.call_known, Settings.at, Statements.typed_arms}
use Rattle.cs_typing.specs.Known.{added, in_table, KnownHere, knows, given, given_all}
use Rattle.cs_typing.specs.Statements.{set_fault_by, condition_fault_by, known_block, known_arms, arms_fault, all_init}
use Rattle.cs_typing.specs.inner.Routines.{KnownInBody, known_in, knows_in, Routine, Routines, routine_called}
use Rattle.cs_typing.specs.inner.Routines.{known_after, known_after_block, known_after_arms, shared_after_call}
use Rattle.cs_typing.specs.inner.Routines.{locals_after_call, call_fault_in, fault_in, block_fault_in, arms_fault_in}
use Rattle.cs_typing.specs.inner.Routines.{call_in, typed_in, typed_block_in, typed_arms_in}
use Rattle.cs_typing.proofs.BothDefined.{Both}
use Rattle.cs_typing.proofs.{Added.added_other, Joins.or_none, Joins.known_joins, Joins.fault_joins, Joins.typed_joins}
use Rattle.cs_typing.proofs.{RoutineExpressions.call_same, RoutineExpressions.call_mirrors, Rules.at_none}
use Rattle.cs_typing.proofs.{Rules.keeps_condition, Rules.keeps_set, SameRates.KeepsRates, SameRates.rate_of_kept}
use Rattle.cs_typing.proofs.Named.{NamedAll, NamedArguments, NamedStmt, NamedBlock, NamedArms}
use Rattle.cs_typing.proofs.RoutineCalls.{ArgumentsFit, Matches, Meets, ResultsFit, routine_meets}
use Rattle.cs_typing.proofs.RoutineExpressions.{typed_same, set_fault_same, condition_fault_same, call_fault_same}
use Rattle.cs_typing.proofs.RoutineNames.{Owns, owns_later, Mirrors, variable_given, mirrors_given}
use Rattle.cs_base.specs.declared.fault.OrcKind.TheVariants as orc
use Rattle.cs_grammar.specs.declared.tree.Callee.TheVariants as callee
use Rattle.cs_typed.specs.TypedTree as typed
use Rattle.cs_udo.specs.Refused as refused

-- ---- calls that aren't refused

pub no_first : {A : Type 0} (xs ys : List A) → xs ++ ys ≡ [] → (xs ≡ []) × (ys ≡ [])
no_first [] ys e = (refl, e)
no_first (x ∷ xs) ys e = absurd (cc e)

no_rule : (line : ℕ) (k : Option OrcKind) → refused.at line k ≡ [] → k ≡ None
no_rule line None e = refl
no_rule line (Some k) e = absurd (cc e)

same_number : (a b : ℕ) → (a == b) ≡ true → a ≡ b
same_number a b h = grind (arith, nat_tests)

allowed : (counts texts : Bool)
    → (if not counts then Some orc.ArgCount else (if texts || not true then Some orc.RateMismatch else None)) ≡ None
    → (counts ≡ true) × (texts ≡ false)
allowed true true h = absurd (cc h)
allowed true false h = (refl, refl)
allowed false texts h = absurd (cc h)

arguments_fit : (xs : List (List ℕ)) (args : List Argument) → length args ≡ length xs → has_text args ≡ false
    → ArgumentsFit xs args
arguments_fit [] [] e h = tt
arguments_fit [] (a ∷ args) e h = absurd (omega (arith, e))
arguments_fit (x ∷ xs) [] e h = absurd (omega (arith, e))
arguments_fit (x ∷ xs) (value a ∷ args) e h = arguments_fit xs args (omega (arith, e)) h
arguments_fit (x ∷ xs) (text t ∷ args) e h = absurd (cc h)

results_fit : (xs ys : List (List ℕ)) → length xs ≡ length ys → ResultsFit xs ys
results_fit [] [] e = tt
results_fit [] (y ∷ ys) e = absurd (omega (arith, e))
results_fit (x ∷ xs) [] e = absurd (omega (arith, e))
results_fit (x ∷ xs) (y ∷ ys) e = results_fit xs ys (omega (arith, e))

pub call_fits : (line : ℕ) (xs : List (List ℕ)) (args : List Argument) (t : Template)
    → call_faults true line xs args (Some t) ≡ [] → ArgumentsFit t.inputs args × ResultsFit xs t.results
call_fits line xs args t e =
    let parts = allowed (length xs == length t.results && length args == length t.inputs) (has_text args)
    (no_rule line (broken_rule true xs args t) e) in
    let both = and_parts (length xs == length t.results) (length args == length t.inputs) parts.0 in (
      arguments_fit t.inputs args (same_number (length args) (length t.inputs) both.1) parts.1,
      results_fit xs t.results (same_number (length xs) (length t.results) both.0),
    )

-- ---- opcodes and their routines

-- the expansion of each opcode agrees with its routine
abbrev pub AllMatch : Opcodes → Routines → Type 0
AllMatch opcodes rs = (name : List ℕ) → Both Matches (opcodes name) (rs name)

at_callee : (opcodes : Opcodes) (rs : Routines) → AllMatch opcodes rs → (c : Callee)
    → Both Matches (defined opcodes c) (routine_called rs c)
at_callee opcodes rs m (callee.Opcode o) = tt
at_callee opcodes rs m (callee.Name name) = m name

-- ---- the numbers of frames increase

call_grows : (t : Option Template) (r : Option Routine) → Both Matches t r → (f : ℕ) → f ≤ after_called f t
call_grows None None h f = omega arith
call_grows None (Some r) h f = absurd h
call_grows (Some t) None h f = absurd h
call_grows (Some t) (Some r) h f = by (t.after f) (h.grows f)
  where
    by : (g : ℕ) → f < g → f ≤ g
    by g lt = omega (arith, lt)

further : (f g h : ℕ) → f ≤ g → g ≤ h → f ≤ h
further f g h a b = omega (arith, a, b)

module _ (opcodes : Opcodes) (rs : Routines) (m : AllMatch opcodes rs) where
  mutual
    stmt_grows : (f : ℕ) (x : Statement) → f ≤ after opcodes f x
    stmt_grows f (set line x e) = omega arith
    stmt_grows f (call line xs c args) =
        call_grows (defined opcodes c) (routine_called rs c) (at_callee opcodes rs m c) f
    stmt_grows f (choose line list) = arms_grow f list

    pub block_grows : (f : ℕ) (b : Block) → f ≤ after_block opcodes f b
    block_grows f no_stmt = omega arith
    block_grows f (andthen x rest) =
        further f (after opcodes f x) (after_block opcodes (after opcodes f x) rest) (stmt_grows f x)
        (block_grows (after opcodes f x) rest)

    arms_grow : (f : ℕ) (list : Arms) → f ≤ after_arms opcodes f list
    arms_grow f (otherwise b) = block_grows f b
    arms_grow f (arm c b rest) =
        further f (after_block opcodes f b) (after_arms opcodes (after_block opcodes f b) rest) (block_grows f b)
        (arms_grow (after_block opcodes f b) rest)

-- ---- names of other frames are not assigned

-- a name that belongs neither to the body nor to a frame from number f on
pub record Stranger (P : List ℕ → Type 0) (own : List ℕ → List ℕ) (f : ℕ) (y : List ℕ) : Type 0 where
  pub names : (x : List ℕ) → P x → is_global x ≡ false → y ≡ own x → ⊥
  pub frames : (x : List ℕ) (g : ℕ) → f ≤ g → y ≡ fresh g x → ⊥

given_untouched : (n : KnownHere) (z y : List ℕ) → (is_global z ≡ false → y ≡ z → ⊥)
    → in_table (given n z).locals y ≡ in_table n.locals y
given_untouched n z y h = by (is_global z) refl
  where
    by : (b : Bool) → is_global z ≡ b → in_table (if b then n.locals else added n.locals z) y ≡ in_table n.locals y
    by true e = refl
    by false e = added_other n.locals z y (h e)

framed_untouched : (f : ℕ) (y : List ℕ) → ((x : List ℕ) → y ≡ fresh f x → ⊥) → (n : KnownHere) (line : ℕ)
    (xs : List (List ℕ)) (args : List Argument)
    → in_table (known_block n (assignments line (map (in_frame f) xs) args)).locals y ≡ in_table n.locals y
framed_untouched f y h n line (x ∷ xs) (value e ∷ args) =
    framed_untouched f y h (given n (in_frame f x)) line xs args ∙ given_untouched n (in_frame f x) y
    (λ d same. h x (same ∙ framed_fresh f x (sym (framed_global f x) ∙ d)))
framed_untouched f y h n line xs args = refl

module _ {P : List ℕ → Type 0} {own : List ℕ → List ℕ} {f : ℕ} (o : Owns P own f) (y : List ℕ)
    (h : Stranger P own f y) where
  own_untouched : (n : KnownHere) (x : List ℕ) → P x → in_table (given n (own x)).locals y ≡ in_table n.locals y
  own_untouched n x p = given_untouched n (own x) y (λ d same. h.names x p (sym (o.local x) ∙ d) same)

  all_untouched : (n : KnownHere) (xs : List (List ℕ)) → NamedAll P xs
      → in_table (given_all n (map own xs)).locals y ≡ in_table n.locals y
  all_untouched n [] p = refl
  all_untouched n (x ∷ xs) p = all_untouched (given n (own x)) xs p.1 ∙ own_untouched n x p.0

  results_untouched : (n : KnownHere) (line : ℕ) (xs : List (List ℕ)) (args : List Argument) → NamedAll P xs
      → in_table (known_block n (assignments line (map own xs) args)).locals y ≡ in_table n.locals y
  results_untouched n line (x ∷ xs) (value e ∷ args) p =
      results_untouched (given n (own x)) line xs args p.1 ∙ own_untouched n x p.0
  results_untouched n line xs args p = refl

  row_untouched : (n : KnownHere) (c : Callee) (xs : List (List ℕ)) (args : List Argument) → NamedAll P xs
      → in_table (call_known n c (map own xs) args).locals y ≡ in_table n.locals y
  row_untouched n (callee.Opcode q) xs args p = all_untouched n xs p
  row_untouched n (callee.Name name) xs args p = all_untouched n xs p

  call_untouched : (t : Option Template) (r : Option Routine) → Both Matches t r → (n : KnownHere) (line : ℕ)
      (xs : List (List ℕ)) (c : Callee) (args : List Argument) → NamedAll P xs
      → in_table (known_block n (called own f line xs c args t)).locals y ≡ in_table n.locals y
  call_untouched None None m n line xs c args p = row_untouched n c xs (map (renamed_argument own) args) p
  call_untouched None (Some r) m n line xs c args p = absurd m
  call_untouched (Some t) None m n line xs c args p = absurd m
  call_untouched (Some t) (Some r) m n line xs c args p =
      let first = assignments line (map (in_frame f) t.inputs) (map (renamed_argument own) args) in
      let last = assignments line (map own xs) (map (value_in f) t.results) in
      let behind = known_block n first in
      ap (λ z. in_table z.locals y) (known_joins n first (joins (t.block f) last) ∙ known_joins behind (t.block f) last)
      ∙ results_untouched (known_block behind (t.block f)) line xs (map (value_in f) t.results) p
      ∙ m.untouched behind f y h.frames
      ∙ framed_untouched f y (λ x. h.frames x f (omega arith)) n line t.inputs (map (renamed_argument own) args)

stranger_later : (P : List ℕ → Type 0) (own : List ℕ → List ℕ) (f g : ℕ) (y : List ℕ) → f ≤ g → Stranger P own f y
    → Stranger P own g y
stranger_later P own f g y le h =
    record { names = h.names; frames = λ x j more. h.frames x j (further f g j le more) }

module _ (opcodes : Opcodes) (rs : Routines) (m : AllMatch opcodes rs) {P : List ℕ → Type 0}
    {own : List ℕ → List ℕ} (y : List ℕ) where
  mutual
    stmt_untouched : (f : ℕ) → Owns P own f → Stranger P own f y → (n : KnownHere) (x : Statement) → NamedStmt P x
        → in_table (known_block n (expanded opcodes own f x)).locals y ≡ in_table n.locals y
    stmt_untouched f o h n (set line x e) p = own_untouched o y h n x p.0
    stmt_untouched f o h n (call line xs c args) p =
        call_untouched o y h (defined opcodes c) (routine_called rs c) (at_callee opcodes rs m c) n line xs c args p.0
    stmt_untouched f o h n (choose line list) p = arms_untouched f o h n list p

    pub block_untouched : (f : ℕ) → Owns P own f → Stranger P own f y → (n : KnownHere) (b : Block) → NamedBlock P b
        → in_table (known_block n (expanded_block opcodes own f b)).locals y ≡ in_table n.locals y
    block_untouched f o h n no_stmt p = refl
    block_untouched f o h n (andthen x rest) p =
        let g = after opcodes f x in
        let le = stmt_grows opcodes rs m f x in
        ap (λ z. in_table z.locals y) (known_joins n (expanded opcodes own f x) (expanded_block opcodes own g rest))
        ∙ block_untouched g (owns_later P own f g le o) (stranger_later P own f g y le h)
        (known_block n (expanded opcodes own f x)) rest p.1 ∙ stmt_untouched f o h n x p.0

    arms_untouched : (f : ℕ) → Owns P own f → Stranger P own f y → (n : KnownHere) (list : Arms) → NamedArms P list
        → in_table (known_arms n (expanded_arms opcodes own f list)).locals y ≡ in_table n.locals y
    arms_untouched f o h n (otherwise b) p = block_untouched f o h n b p
    arms_untouched f o h n (arm c b rest) p =
        let g = after_block opcodes f b in
        let le = block_grows opcodes rs m f b in
        arms_untouched g (owns_later P own f g le o) (stranger_later P own f g y le h)
        (known_block n (expanded_block opcodes own f b)) rest p.2 ∙ block_untouched f o h n b p.1

-- ---- statements

-- the numbers of arguments and results in a call of a routine
routine_fits : (t : Template) (r : Routine) → Matches t r → (line : ℕ) (xs : List (List ℕ)) (args : List Argument)
    → call_faults true line xs args (Some t) ≡ [] → ArgumentsFit r.inputs args × ResultsFit xs r.results
routine_fits t r m line xs args none =
    let fits = call_fits line xs args t none in (
      subst (λ ins. ArgumentsFit ins args) m.inputs fits.0,
      subst (ResultsFit xs) m.results fits.1,
    )

module _ {P : List ℕ → Type 0} {own : List ℕ → List ℕ} (base : PerRate ℕ) where
  call_meets : (t : Option Template) (r : Option Routine) → Both Matches t r → (f : ℕ) → Owns P own f
      → (n : KnownHere) (k : KnownInBody) → Mirrors P own f base n k
      → (line : ℕ) (xs : List (List ℕ)) (c : Callee) (args : List Argument) → NamedAll P xs → NamedArguments P args
      → call_faults true line xs args t ≡ [] → Meets P own (after_called f t) base n (called own f line xs c args t)
      (known_in (shared_after_call k.shared c xs args r) (locals_after_call k.locals xs r))
      (λ q. call_fault_in q k line xs c args r) (call_in k line xs c args r)
  call_meets None None m f o n k s line xs c args p a none = record {
    known = call_mirrors o base n k s c xs args p;
    fault = λ q. or_none (at line (call_fault_by q n.shared (knows n) c (map own xs) (map (renamed_argument own) args)))
        ∙ ap (at line) (call_fault_same o base n k s.sees q c xs args a);
    form = λ q h. ap (λ x. typed.andthen x typed.no_stmt) (call_same o base n k s q line c xs args p a
        (at_none line (call_fault_by q k.shared (knows_in k) c xs args) h));
  }
  call_meets None (Some r) m f o n k s line xs c args p a none = absurd m
  call_meets (Some t) None m f o n k s line xs c args p a none = absurd m
  call_meets (Some t) (Some r) m f o n k s line xs c args p a none =
      let fits = routine_fits t r m line xs args none in
      routine_meets o base n k s t r m line xs args p a fits.0 fits.1

-- the same facts about the arms of an `if`
record ArmsMeet (P : List ℕ → Type 0) (own : List ℕ → List ℕ) (h : ℕ) (base : PerRate ℕ) (n : KnownHere) (line : ℕ)
    (list : Arms) (k : KnownInBody) (rule : Setting → Option OrcFault) (made : typed.Arms) : Type 0 where
  known : Mirrors P own h base (known_arms n list) k
  fault : (s : Setting) → arms_fault s n line list ≡ rule s
  form : (s : Setting) → rule s ≡ None → typed_arms n list ≡ moved_arms base made

module _ (opcodes : Opcodes) (rs : Routines) (m : AllMatch opcodes rs) {P : List ℕ → Type 0}
    {own : List ℕ → List ℕ} (base : PerRate ℕ) where
  all_init_same : (f g : ℕ) → Owns P own f → (list : Arms) → all_init (expanded_arms opcodes own g list) ≡ all_init list
  all_init_same f g o (otherwise b) = refl
  all_init_same f g o (arm c b rest) =
      let kept : KeepsRates own = record { rate = o.rate } in
      λ i. is_init (rate_of_kept kept c i) && all_init_same f (after_block opcodes g b) o rest i

  mutual
    stmt_meets : (f : ℕ) → Owns P own f → (n : KnownHere) (k : KnownInBody) → Mirrors P own f base n k
        → (x : Statement) → NamedStmt P x → faults opcodes true x ≡ []
        → Meets P own (after opcodes f x) base n (expanded opcodes own f x) (known_after rs k x)
        (λ q. fault_in q rs k x) (typed_in rs k x)
    stmt_meets f o n k s (set line x e) p none = record {
      known = mirrors_given o base n k s x p.0;
      fault = λ q. or_none (at line (set_fault_by q (knows n) (own x) (renamed_expression own e)))
          ∙ ap (at line) (set_fault_same o base n k s.sees q (own x) x (o.rate x) e p.1);
      form = λ q h.
          let it = typed_same o base n k s.sees e p.1 (keeps_set q (knows_in k) line x e h).0 in
          λ i. typed.andthen (typed.set line (o.rate x i) (variable_given o base n k s x p.0 i) (it i)) typed.no_stmt;
    }
    stmt_meets f o n k s (call line xs c args) p none =
        call_meets base (defined opcodes c) (routine_called rs c) (at_callee opcodes rs m c) f o n k s line xs c args
        p.0 p.1 none
    stmt_meets f o n k s (choose line list) p none =
        let all = arms_meet f o n k s line list p none in
        record {
          known = all.known;
          fault = λ q. or_none (arms_fault q n line (expanded_arms opcodes own f list)) ∙ all.fault q;
          form = λ q h i. typed.andthen
              (typed.choose line (rate_of_choice (all_init_same f f o list i)) (all.form q h i)) typed.no_stmt;
        }

    pub block_meets : (f : ℕ) → Owns P own f → (n : KnownHere) (k : KnownInBody) → Mirrors P own f base n k
        → (b : Block) → NamedBlock P b → faults_in opcodes true b ≡ []
        → Meets P own (after_block opcodes f b) base n (expanded_block opcodes own f b) (known_after_block rs k b)
        (λ q. block_fault_in q rs k b) (typed_block_in rs k b)
    block_meets f o n k s no_stmt p none = record { known = s; fault = λ q. refl; form = λ q h. refl }
    block_meets f o n k s (andthen x rest) p none =
        let g = after opcodes f x in
        let front = expanded opcodes own f x in
        let back = expanded_block opcodes own g rest in
        let later = known_after rs k x in
        let parts = no_first (faults opcodes true x) (faults_in opcodes true rest) none in
        let first = stmt_meets f o n k s x p.0 parts.0 in
        let last = block_meets g (owns_later P own f g (stmt_grows opcodes rs m f x) o) (known_block n front) later
        first.known rest p.1 parts.1 in
        record {
          known = subst (λ z. Mirrors P own (after_block opcodes g rest) base z (known_after_block rs later rest))
              (sym (known_joins n front back)) last.known;
          fault = λ q. fault_joins q n front back ∙ λ i. option_or (first.fault q i) (last.fault q i);
          form = λ q h.
              let sound = both_none (fault_in q rs k x) (block_fault_in q rs later rest) h in
              typed_joins n front back ∙ (λ i. then_block (first.form q sound.0 i) (last.form q sound.1 i))
              ∙ sym (moved_then base (typed_in rs k x) (typed_block_in rs later rest));
        }

    arms_meet : (f : ℕ) → Owns P own f → (n : KnownHere) (k : KnownInBody) → Mirrors P own f base n k
        → (line : ℕ) (list : Arms) → NamedArms P list → faults_in_arms opcodes true list ≡ []
        → ArmsMeet P own (after_arms opcodes f list) base n line (expanded_arms opcodes own f list)
        (known_after_arms rs k list) (λ q. arms_fault_in q rs k line list) (typed_arms_in rs k list)
    arms_meet f o n k s line (otherwise b) p none =
        let all = block_meets f o n k s b p none in
        record { known = all.known; fault = all.fault; form = λ q h. ap typed.otherwise (all.form q h) }
    arms_meet f o n k s line (arm c b rest) p none =
        let g = after_block opcodes f b in
        let later = known_after_block rs k b in
        let parts = no_first (faults_in opcodes true b) (faults_in_arms opcodes true rest) none in
        let first = block_meets f o n k s b p.1 parts.0 in
        let last = arms_meet g (owns_later P own f g (block_grows opcodes rs m f b) o)
        (known_block n (expanded_block opcodes own f b)) later first.known line rest p.2 parts.1 in
        record {
          known = last.known;
          fault = λ q i. option_or (at line (condition_fault_same o base n k s.sees q c p.0 i))
              (option_or (first.fault q i) (last.fault q i));
          form = λ q h.
              let sound = both_none (at line (condition_fault_by q (knows_in k) c))
              (option_or (block_fault_in q rs k b) (arms_fault_in q rs later line rest)) h in
              let inner = both_none (block_fault_in q rs k b) (arms_fault_in q rs later line rest) sound.1 in
              let it = typed_same o base n k s.sees c p.0 (keeps_condition q (knows_in k) line c sound.0).0 in
              λ i. typed.arm (it i) (first.form q inner.0 i) (last.form q inner.1 i);
        }
