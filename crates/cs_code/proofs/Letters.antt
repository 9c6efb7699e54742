-- The letters of a unit's arguments: as many settled values as its row takes, and moving values that its
-- letters accept.
use Rattle.std.proofs.Common.{◌≡◌, ◌∙◌, refl, sym, ap, subst, ℕ, zero, suc, ◌+◌, ◌-◌, ◌≤◌, ◌%◌, ◌==◌, Bool, true, false}
use Rattle.std.proofs.Common.{not, ◌&&◌, ◌||◌, List, [], ◌∷◌, ◌++◌, length, nat_le, slice_get, if◌then◌else◌, arith}
use Rattle.std.specs.{Prelude.filter, List.list_all, List.list_any, Option.unwrap_or}
use Rattle.std.proofs.lemmas.Bool.{and_parts, and_from, or_left, or_right}
use Rattle.std.proofs.lemmas.{Bool.Decides.nat_tests, List.append-nil, List.Elements.filter-append}
use Rattle.cs_base.specs.{Rates.is_init, Rates.is_audio, Rates.same_rate, declared.resource.Rate.Rate}
use Rattle.cs_words.specs.Catalogue.{Row, row_of, letter_at, further, takes, takes_count, may_follow, follows_settled}
use Rattle.cs_words.specs.Catalogue.{unit_takes, is_text, is_settled, is_moving, settled_letters, moving_letters}
use Rattle.cs_words.specs.{Catalogue.result_count, declared.catalogue.Letter.Letter, declared.catalogue.More.More}
use Rattle.cs_words.specs.{declared.catalogue.Opcode.Opcode, declared.catalogue.Shape.Shape}
use Rattle.cs_words.proofs.EachOpcode.{when_all}
use Rattle.cs_ir.specs.{Units.is_unit, Units.is_zak, Validity.may_run_at, Validity.bound_at, Validity.stores_with}
use Rattle.cs_meaning.specs.Core.{values_of, settled, moving}
use Rattle.cs_typed.specs.{Places.is_starting, TypedTree.Expression, WellRated.is_variable, WellRated.IsRatedCall}
use Rattle.cs_typed.specs.{declared.setting.Setting.Setting, declared.tree.Var.Var}
use Rattle.cs_typed.specs.WellRated.{node_rate, var_rate, fit_letters, bound_by, may_give, done_at, stores_evenly}
use Rattle.cs_ir.proofs.RegisterKinds.{local_rate}
use Rattle.cs_code.proofs.Ranked.{rated}
use Rattle.cs_base.specs.declared.resource.Rate.TheVariants as rate
use Rattle.cs_words.specs.declared.catalogue.Letter.TheVariants as letter
use Rattle.cs_words.specs.declared.catalogue.More.TheVariants as more
use Rattle.cs_words.specs.declared.catalogue.Opcode.TheVariants as op
use Rattle.cs_words.specs.declared.catalogue.Shape.TheVariants as shape
use Rattle.cs_typed.specs.TypedTree as typed

-- letters accept values of these rates, one each
abbrev pub take_rates : List Letter → Rate → List Expression → Bool
take_rates [] bound [] = true
take_rates (l ∷ ls) bound (e ∷ es) = takes l bound (node_rate e) && take_rates ls bound es
take_rates _ bound _ = false

-- all values are i-rate
abbrev pub stills : List Expression → Bool
stills [] = true
stills (e ∷ es) = is_init (node_rate e) && stills es

-- the letter of a place, and the letters of the first n places
abbrev letter_in : List Letter → More → ℕ → Letter
letter_in ls m n = unwrap_or (slice_get ls n) (further m (n - length ls))

abbrev letters : List Letter → More → ℕ → ℕ → List Letter
letters ls m n zero = []
letters ls m n (suc k) = letter_in ls m n ∷ letters ls m (n + 1) k

-- ---- one argument

value_moves : (l : Letter) (bound : Rate) (e : Expression) (ls : List Letter) (es : List Expression)
    → takes l bound (node_rate e) ≡ true → take_rates (filter is_moving ls) bound es ≡ true
    → take_rates (filter is_moving (l ∷ ls)) bound (if is_settled l then es else e ∷ es) ≡ true
value_moves letter.Init bound e ls es h ih = ih
value_moves letter.Table bound e ls es h ih = ih
value_moves letter.Text bound e ls es h ih = absurd (cc)
value_moves a bound e ls es h ih = and_from _ _ h ih

text_moves : (l : Letter) (bound : Rate) (ls : List Letter) (es : List Expression) → is_text l ≡ true
    → take_rates (filter is_moving ls) bound es ≡ true → take_rates (filter is_moving (l ∷ ls)) bound es ≡ true
text_moves letter.Text bound ls es h ih = ih
text_moves a bound ls es h ih = absurd (cc)

value_stays : (l : Letter) (bound : Rate) (e : Expression) (es : List Expression) → takes l bound (node_rate e) ≡ true
    → stills es ≡ true → stills (if is_settled l then e ∷ es else es) ≡ true
value_stays letter.Init bound e es h ih = and_from _ _ h ih
value_stays letter.Table bound e es h ih = and_from _ _ h ih
value_stays a bound e es h ih = ih

value_counts : (l : Letter) (e : Expression) (ls : List Letter) (es : List Expression)
    → length es ≡ length (filter is_settled ls)
    → length (if is_settled l then e ∷ es else es) ≡ length (filter is_settled (l ∷ ls))
value_counts letter.Init e ls es ih = ap suc ih
value_counts letter.Table e ls es ih = ap suc ih
value_counts a e ls es ih = ih

text_counts : (l : Letter) (ls : List Letter) (es : List Expression) → is_text l ≡ true
    → length es ≡ length (filter is_settled ls) → length es ≡ length (filter is_settled (l ∷ ls))
text_counts letter.Init ls es h ih = absurd (cc)
text_counts letter.Table ls es h ih = absurd (cc)
text_counts a ls es h ih = ih

-- ---- all arguments

moves : (row : Row) (bound : Rate) (n : ℕ) (args : List typed.Argument) → fit_letters row bound n args ≡ true
    → take_rates (filter is_moving (letters row.fixed row.more n (length args))) bound (moving row n args) ≡ true
moves row bound n [] h = refl
moves row bound n (typed.value e ∷ rest) h =
    let b = and_parts (takes (letter_at row n) bound (node_rate e)) (fit_letters row bound (n + 1) rest) h in
    value_moves (letter_at row n) bound e (letters row.fixed row.more (n + 1) (length rest)) (moving row (n + 1) rest)
    b.0 (moves row bound (n + 1) rest b.1)
moves row bound n (typed.text v ∷ rest) h =
    let b = and_parts (is_text (letter_at row n)) (fit_letters row bound (n + 1) rest) h in
    text_moves (letter_at row n) bound (letters row.fixed row.more (n + 1) (length rest)) (moving row (n + 1) rest) b.0
    (moves row bound (n + 1) rest b.1)

stays : (row : Row) (bound : Rate) (n : ℕ) (args : List typed.Argument) → fit_letters row bound n args ≡ true
    → stills (settled row n args) ≡ true
stays row bound n [] h = refl
stays row bound n (typed.value e ∷ rest) h =
    let b = and_parts (takes (letter_at row n) bound (node_rate e)) (fit_letters row bound (n + 1) rest) h in
    value_stays (letter_at row n) bound e (settled row (n + 1) rest) b.0 (stays row bound (n + 1) rest b.1)
stays row bound n (typed.text v ∷ rest) h =
    let b = and_parts (is_text (letter_at row n)) (fit_letters row bound (n + 1) rest) h in stays row bound (n + 1) rest
    b.1

counts : (row : Row) (bound : Rate) (n : ℕ) (args : List typed.Argument) → fit_letters row bound n args ≡ true
    → length (settled row n args) ≡ length (filter is_settled (letters row.fixed row.more n (length args)))
counts row bound n [] h = refl
counts row bound n (typed.value e ∷ rest) h =
    let b = and_parts (takes (letter_at row n) bound (node_rate e)) (fit_letters row bound (n + 1) rest) h in
    value_counts (letter_at row n) e (letters row.fixed row.more (n + 1) (length rest)) (settled row (n + 1) rest)
    (counts row bound (n + 1) rest b.1)
counts row bound n (typed.text v ∷ rest) h =
    let b = and_parts (is_text (letter_at row n)) (fit_letters row bound (n + 1) rest) h in
    text_counts (letter_at row n) (letters row.fixed row.more (n + 1) (length rest)) (settled row (n + 1) rest) b.0
    (counts row bound (n + 1) rest b.1)

-- ---- the required letters, followed by the repeated ones

shift : (l : Letter) (ls : List Letter) (m : More) (n k : ℕ) → letters (l ∷ ls) m (suc n) k ≡ letters ls m n k
shift l ls m n zero = refl
shift l ls m n (suc k) =
    let e : suc n - suc (length ls) ≡ n - length ls = omega arith in
    let s : suc n + 1 ≡ suc (n + 1) = omega arith in
    ap (λ j. unwrap_or (slice_get ls n) (further m j) ∷ letters (l ∷ ls) m (suc n + 1) k) e
    ∙ ap (λ j. letter_in ls m n ∷ letters (l ∷ ls) m j k) s ∙ ap (λ t. letter_in ls m n ∷ t) (shift l ls m (n + 1) k)

they_are : (ls : List Letter) (m : More) (k : ℕ) → length ls ≤ k
    → letters ls m 0 k ≡ ls ++ letters [] m 0 (k - length ls)
they_are [] m k h = ap (letters [] m 0) (omega arith)
they_are (l ∷ ls) m zero h = let no : ⊥ = omega arith in absurd no
they_are (l ∷ ls) m (suc k) h =
    let e : k - length ls ≡ suc k - suc (length ls) = omega arith in
    ap (λ t. l ∷ t) (shift l ls m 0 k ∙ they_are ls m k (omega arith) ∙ ap (λ j. ls ++ letters [] m 0 j) e)

no_move : (l : Letter) (ls : List Letter) → is_settled l ≡ true → filter is_moving (l ∷ ls) ≡ filter is_moving ls
no_move l ls h = rw h refl

one_more : (l : Letter) (ls : List Letter) → is_settled l ≡ true
    → length (filter is_settled (l ∷ ls)) ≡ suc (length (filter is_settled ls))
one_more l ls h = rw h refl

none_move : (m : More) → ((n : ℕ) → is_settled (further m n) ≡ true) → (n k : ℕ)
    → filter is_moving (letters [] m n k) ≡ []
none_move m h n zero = refl
none_move m h n (suc k) = no_move (letter_in [] m n) (letters [] m (n + 1) k) (h (n - 0)) ∙ none_move m h (n + 1) k

all_stay : (m : More) → ((n : ℕ) → is_settled (further m n) ≡ true) → (n k : ℕ)
    → length (filter is_settled (letters [] m n k)) ≡ k
all_stay m h n zero = refl
all_stay m h n (suc k) =
    one_more (letter_in [] m n) (letters [] m (n + 1) k) (h (n - 0)) ∙ ap suc (all_stay m h (n + 1) k)

either : (b : Bool) (l m : Letter) → is_settled l ≡ true → is_settled m ≡ true → is_settled (if b then l else m) ≡ true
either true l m h k = h
either false l m h k = k

equal : (m n : ℕ) → (m == n) ≡ true → m ≡ n
equal m n h = grind (arith, nat_tests)

within : (m n : ℕ) → nat_le m n ≡ true → m ≤ n
within m n h = grind (arith, nat_tests)

least : (m n : ℕ) → m ≤ n → nat_le m n ≡ true
least m n h = grind (arith, nat_tests)

abbrev Follow : More → ℕ → Type 0
Follow m k = (filter is_moving (letters [] m 0 k) ≡ []) × (length (filter is_settled (letters [] m 0 k)) ≡ k)

follow : (m : More) (k : ℕ) → follows_settled m ≡ true → may_follow m k ≡ true → Follow m k
follow more.Nothing zero h f = (refl, refl)
follow more.Nothing (suc k) h f = let e = equal (suc k) 0 f in let no : ⊥ = omega arith in absurd no
follow (more.Perhaps l) k h f = (none_move (more.Perhaps l) (λ n. h) 0 k, all_stay (more.Perhaps l) (λ n. h) 0 k)
follow (more.Each l) k h f = (none_move (more.Each l) (λ n. h) 0 k, all_stay (more.Each l) (λ n. h) 0 k)
follow (more.Pairs l m) k h f =
    let b = and_parts (is_settled l) (is_settled m) h in (
      none_move (more.Pairs l m) (λ n. either (n % 2 == 0) l m b.0 b.1) 0 k,
      all_stay (more.Pairs l m)
          (λ n. either (n % 2 == 0) l m b.0 b.1) 0 k,
    )

lengths : {A : Type 0} (xs ys : List A) → length (xs ++ ys) ≡ length xs + length ys
lengths [] ys = omega arith
lengths (x ∷ xs) ys = let e = lengths xs ys in omega (arith, e)

takes_so : (row : Row) (n j : ℕ) → follows_settled row.more ≡ true → may_follow row.more j ≡ true
    → n ≡ length (settled_letters row) + j → unit_takes row n ≡ true
takes_so row n j h f e =
    let d : j ≡ n - length (settled_letters row) = omega (arith, e) in
    and_from _ _ (least (length (settled_letters row)) n (omega (arith, e)))
    (rw h (subst (λ t. may_follow row.more t ≡ true) d f))

-- The arguments of a unit's call, if all arguments that may follow are settled.
pub record FitsUnit (row : Row) (bound : Rate) (args : List typed.Argument) : Type 0 where
  pub count : unit_takes row (length (settled row 0 args)) ≡ true
  pub settled : stills (settled row 0 args) ≡ true
  pub moving : take_rates (moving_letters row) bound (moving row 0 args) ≡ true

fit : (row : Row) (bound : Rate) (args : List typed.Argument) → follows_settled row.more ≡ true
    → takes_count row (length args) ≡ true → fit_letters row bound 0 args ≡ true → FitsUnit row bound args
fit row bound args h c l =
    let b = and_parts (nat_le (length row.fixed) (length args)) (may_follow row.more (length args - length row.fixed))
    c in
    let j = length args - length row.fixed in
    let all = they_are row.fixed row.more (length args) (within (length row.fixed) (length args) b.0) in
    let f = follow row.more j h b.1 in
    let count = counts row bound 0 args l ∙ ap (λ t. length (filter is_settled t)) all
    ∙ ap length (filter-append is_settled row.fixed (letters [] row.more 0 j))
    ∙ lengths (settled_letters row) (filter is_settled (letters [] row.more 0 j))
    ∙ ap (λ t. length (settled_letters row) + t) f.1 in
    let same = ap (filter is_moving) all ∙ filter-append is_moving row.fixed (letters [] row.more 0 j)
    ∙ ap (λ t. moving_letters row ++ t) f.0 ∙ append-nil (moving_letters row) in
    record {
      count = takes_so row (length (settled row 0 args)) j h b.1 count;
      settled = stays row bound 0 args l;
      moving = subst (λ t. take_rates t bound (moving row 0 args) ≡ true) same (moves row bound 0 args l);
    }

-- An opcode that runs with moving values is a unit, or reads or writes zak places. Arguments that may follow
-- are settled.
abbrev pub is_run : Shape → Bool
is_run sh = is_unit sh || is_zak sh

run_follows : (o : Opcode) → is_run (row_of o).shape ≡ true → follows_settled (row_of o).more ≡ true
run_follows o h = when_all (λ o. is_run (row_of o).shape) (λ o. follows_settled (row_of o).more) refl o h

pub run_fits : (o : Opcode) (bound : Rate) (args : List typed.Argument) → is_run (row_of o).shape ≡ true
    → takes_count (row_of o) (length args) ≡ true → fit_letters (row_of o) bound 0 args ≡ true
    → FitsUnit (row_of o) bound args
run_fits o bound args h c l = fit (row_of o) bound args (run_follows o h) c l

-- ---- the rate of a unit

not_starting : (sh : Shape) → is_run sh ≡ true → is_starting sh ≡ false
not_starting shape.Init h = absurd (cc)
not_starting shape.ZakInit h = absurd (cc)
not_starting shape.Ask h = absurd (cc)
not_starting _ h = refl

result_rate : (b : Bool) (r q : Rate) → b ≡ false → r ≡ (if b then rate.Init else q) → r ≡ q
result_rate true r q h e = absurd (cc)
result_rate false r q h e = e

-- the rate is one that its opcode's result may have
pub may_run : (s : Setting) (r : Rate) (vs : List Var) (o : Opcode) (args : List typed.Argument)
    → IsRatedCall s r vs o args → is_run (row_of o).shape ≡ true → may_run_at (row_of o) r ≡ true
may_run s r [] o args h u = or_left _ _ (subst (λ n. (n == 0) ≡ true) h.results refl)
may_run s r (v ∷ vs) o args h u =
    let g = and_parts (list_all (may_give (row_of o)) (v ∷ vs)) true (rw h.given refl) in
    let one = and_parts (may_give (row_of o) v) (list_all (may_give (row_of o)) vs) h.given in
    let any = and_parts (is_variable v) (list_any (same_rate (var_rate v)) (row_of o).results) one.0 in
    or_right _ _ (subst (λ q. list_any (same_rate q) (row_of o).results ≡ true)
    (sym (result_rate (is_starting (row_of o).shape) r (var_rate v) (not_starting (row_of o).shape u) h.done)) any.1)

unequal : (n m : ℕ) → suc n ≡ m → (m == 0) ≡ false
unequal n m e = grind (arith, nat_tests)

-- the rates of its arguments are bounded by its own rate
pub same_bound : (s : Setting) (r : Rate) (vs : List Var) (o : Opcode) (args : List typed.Argument)
    → IsRatedCall s r vs o args → is_run (row_of o).shape ≡ true → bound_by vs ≡ bound_at (row_of o) r
same_bound s r [] o args h u = let e : (result_count (row_of o) == 0) ≡ true =
    subst (λ n. (n == 0) ≡ true) h.results refl in rw e refl
same_bound s r (v ∷ vs) o args h u =
    rw (unequal (length vs) (result_count (row_of o)) h.results)
    (sym (result_rate (is_starting (row_of o).shape) r (var_rate v) (not_starting (row_of o).shape u) h.done))

-- ---- a store's rate fits its operands

even : (r p q t : Rate) → (if is_audio p then is_audio q else not (is_audio q)) ≡ true → is_init t ≡ true
    → r ≡ (if is_init p && (is_init q && (is_init t && true)) then rate.Init else
    (if is_audio p || (is_audio q || (is_audio t || false)) then rate.Audio else rate.Control))
    → ((if is_audio r then is_audio p else not (is_audio p)) && (if is_audio r then is_audio q else not (is_audio q))
    && is_init t) ≡ true
even r rate.Init rate.Init rate.Init h i e = rw e refl
even r rate.Init rate.Control rate.Init h i e = rw e refl
even r rate.Control rate.Init rate.Init h i e = rw e refl
even r rate.Control rate.Control rate.Init h i e = rw e refl
even r rate.Audio rate.Audio rate.Init h i e = rw e refl
even r p q t h i e = absurd (cc)

-- the arguments of a store's call
pub record FitsStore (r : Rate) (args : List typed.Argument) : Type 0 where
  pub stores : stores_with r (rated (values_of args)) ≡ true
  pub still : stills (settled (row_of op.Tablew) 0 args) ≡ true
  pub single : length (settled (row_of op.Tablew) 0 args) ≡ 1

pub store_fits : (r : Rate) (args : List typed.Argument) → takes_count (row_of op.Tablew) (length args) ≡ true
    → fit_letters (row_of op.Tablew) rate.Audio 0 args ≡ true → stores_evenly shape.Store args ≡ true
    → r ≡ done_at shape.Store [] args → FitsStore r args
store_fits r (typed.value x ∷ typed.value y ∷ typed.value z ∷ []) c l h e =
    let init : is_init (node_rate z) ≡ true = (and_parts (is_init (node_rate z)) true l).0 in
    record {
      stores = rw (local_rate (node_rate x), local_rate (node_rate y), local_rate (node_rate z))
          (even r (node_rate x) (node_rate y) (node_rate z) h init e);
      still = l;
      single = refl;
    }
store_fits r (a ∷ b ∷ c' ∷ d ∷ rest) c l h e =
    let p = and_parts (nat_le 3 (length (a ∷ b ∷ c' ∷ d ∷ rest))) (length (a ∷ b ∷ c' ∷ d ∷ rest) - 3 == 0) c in
    let n = equal (length (a ∷ b ∷ c' ∷ d ∷ rest) - 3) 0 p.1 in let no : ⊥ = omega (arith, n) in absurd no
store_fits r args c l h e = absurd (cc)
