-- Ops of steps are fine in a routine's window, at any place of a code.
use Rattle.std.proofs.Common.{◌≡◌, ◌∙◌, ◌+◌, ◌<◌, ◌≤◌, ◌++◌, ◌&&◌, ◌||◌, not, ℕ, suc, Bool, true, false, List, [], ◌∷◌}
use Rattle.std.proofs.Common.{drop, length, map, nat_le, nat_lt, slice_get, Some, arith, refl, sym, ap, ltb-true}
use Rattle.std.specs.List.{list_all}
use Rattle.std.proofs.lemmas.{Bool.Decides.nat_tests, List.drop_all, List.map-append, List.length-map}
use Rattle.std.proofs.lemmas.{List.Folds.list_all-map, Option.get_or_from_slice_get, Option.slice_get_within}
use Rattle.std.proofs.{Math.Bool.and-true, Math.Bool.and_assoc, Math.Seq.drop-cons}
use Rattle.cs_base.proofs.Tests.{by_test}
use Rattle.cs_base.specs.declared.resource.Rate.{Rate}
use Rattle.cs_words.specs.Catalogue.{Row, moving_letters, row_of, takes, unit_takes}
use Rattle.cs_words.specs.declared.catalogue.Letter.{Letter}
use Rattle.cs_ir.proofs.{Places.place_end, Places.place_later, Places.place_next, Places.steps_long, Twice.ops_twice}
use Rattle.cs_ir.specs.Flat.{Begins, flat, flat_from, further, moved_act, moved_op, moved_ops, moved_reg, ops_at}
use Rattle.cs_ir.specs.Flat.{place_of, placed, window_of}
use Rattle.cs_ir.specs.{Registers.rate_at, Units.is_unit, Units.is_zak, declared.op.Act.Act, declared.op.Op.Op}
use Rattle.cs_ir.specs.{declared.register.Counts.Counts, declared.register.Reg.Reg, declared.step.Call.Call}
use Rattle.cs_ir.specs.{declared.step.Step.Step, inner.Fine.finds_step, inner.Fine.suits}
use Rattle.cs_ir.specs.Validity.{bound_at, finds, fine_from, has_register, is_fine, is_still, may_run_at, runs_with}
use Rattle.cs_ir.specs.Validity.{starts_with, take_all, takes_from, writes}
use Rattle.cs_ir.specs.declared.op.Act.TheVariants as act
use Rattle.cs_ir.specs.declared.step.Step.TheVariants as step

-- ---- lists of ops

pub fine_both : (c : Counts) (end p : ℕ) (xs ys : List Op)
    → fine_from c end p (xs ++ ys) ≡ (fine_from c end p xs && fine_from c end (p + length xs) ys)
fine_both c end p [] ys = let e : p ≡ p + 0 = omega arith in ap (λ k. fine_from c end k ys) e
fine_both c end p (x ∷ xs) ys =
    let e : p + 1 + length xs ≡ p + suc (length xs) = omega arith in
    ap (λ b. is_fine c end p x && b) (fine_both c end (p + 1) xs ys)
    ∙ sym (and_assoc (is_fine c end p x) (fine_from c end (p + 1) xs) (fine_from c end (p + 1 + length xs) ys))
    ∙ ap (λ k. (is_fine c end p x && fine_from c end (p + 1) xs) && fine_from c end k ys) e

-- ---- jumps

module _ (rs : List (List Op)) (ss : List Step) (at : ℕ) (op : Op) (is : slice_get ss at ≡ Some (step.Do op)) where
  next : place_of rs (suc at) ss ≡ place_of rs at ss + 1
  next = place_next rs at ss (step.Do op) is

  -- a later step's ops come after the op
  pub later_place : (p to : ℕ) → nat_lt (p + place_of rs at ss) (p + place_of rs to ss) ≡ nat_lt at to
  later_place p to = by_test (nat_lt at to)
      (λ yes. let low : at < to = ltb-true at to yes in
      let far = place_later rs (suc at) to ss (omega (arith, low)) in
      (let all : nat_lt (p + place_of rs at ss) (p + place_of rs to ss) ≡ true =
      (let less : p + place_of rs at ss < p + place_of rs to ss = omega (arith, far, next) in grind (arith, nat_tests))
      in all) ∙ sym yes)
      (λ no. let high : to ≤ at = grind (arith, nat_tests) in
      let near = place_later rs to at ss high in
      (let none : nat_lt (p + place_of rs at ss) (p + place_of rs to ss) ≡ false =
      (let less : p + place_of rs to ss ≤ p + place_of rs at ss = omega (arith, near) in grind (arith, nat_tests))
      in none) ∙ sym no)

  pub within_end : (p end to : ℕ) → p + place_of rs (length ss) ss ≤ end → nat_le (p + place_of rs to ss) end ≡ true
  within_end p end to room =
      let last = place_end rs to ss in
      let low : p + place_of rs to ss ≤ end = omega (arith, last, room) in grind (arith, nat_tests)

-- ---- the operands that an act accepts don't depend on where registers begin

module _ (w : Begins) where
  writes_moved : (f : ℕ → ℕ) (p : ℕ) (a : Act) → writes (moved_act w p (placed f a)) ≡ writes a
  writes_moved f p (act.Const v) = refl
  writes_moved f p a = refl

  still_moved : (xs : List Reg) → list_all is_still (map (moved_reg w) xs) ≡ list_all is_still xs
  still_moved [] = refl
  still_moved (x ∷ xs) = ap (λ b. is_still x && b) (still_moved xs)

  taken_moved : (ls : List Letter) (bound : Rate) (xs : List Reg)
      → take_all ls bound (map (moved_reg w) xs) ≡ take_all ls bound xs
  taken_moved [] bound [] = refl
  taken_moved (l ∷ ls) bound (x ∷ xs) = ap (λ b. takes l bound (rate_at x) && b) (taken_moved ls bound xs)
  taken_moved ls bound xs = refl

  runs_moved : (row : Row) (r : Rate) (xs : List Reg) → runs_with row r (map (moved_reg w) xs) ≡ runs_with row r xs
  runs_moved row r xs = ap (λ b. b && may_run_at row r) (taken_moved (moving_letters row) (bound_at row r) xs)

  starts_moved : (row : Row) (r : Rate) (xs : List Reg)
      → starts_with row r (map (moved_reg w) xs) ≡ starts_with row r xs
  starts_moved row r xs =
      let long = length-map xs (moved_reg w) in
      let still = still_moved xs in
      λ i. is_unit row.shape && unit_takes row (long i) && still i && may_run_at row r

  takes_moved : (f : ℕ → ℕ) (xs : List Reg) (p : ℕ) (a : Act) (r : Rate)
      → takes_from (moved_act w p (placed f a)) r (map (moved_reg w) xs) ≡ takes_from a r xs
  takes_moved f (x ∷ y ∷ z ∷ q ∷ xs) p (act.Store h) r = refl
  takes_moved f xs p (act.Start o u) r = starts_moved (row_of o) r xs
  takes_moved f xs p (act.Unit o u h) r = ap (λ b. is_unit (row_of o).shape && b) (runs_moved (row_of o) r xs)
  takes_moved f xs p (act.Zak o h) r = ap (λ b. is_zak (row_of o).shape && b) (runs_moved (row_of o) r xs)
  takes_moved f xs p act.Ask r =
      let long = length-map xs (moved_reg w) in let still = still_moved xs in λ i. nat_le 3 (long i) && still i
  takes_moved f xs p a r = refl

-- ---- an op

module _ (rs : List (List Op)) (ss : List Step) (at : ℕ) (op : Op) (is : slice_get ss at ≡ Some (step.Do op))
    (w : Begins) (c : Counts) (p end : ℕ) (room : p + place_of rs (length ss) ss ≤ end) where
  f : ℕ → ℕ
  f to = place_of rs to ss

  finds_jump : (to : ℕ) → (nat_lt (p + f at) (p + f to) && nat_le (p + f to) end) ≡ nat_lt at to
  unfolding f
  finds_jump to =
      let later = later_place rs ss at op is p to in
      let within = within_end rs ss at op is p end to room in
      (λ i. later i && within i) ∙ and-true (nat_lt at to)

  finds_there : (a : Act) → finds c end (p + f at) (moved_act w p (placed f a)) ≡ finds_step c w at a
  finds_there (act.Jump to) = finds_jump to
  finds_there (act.Unless to) = finds_jump to
  finds_there a = refl

  pub op_fine : is_fine c end (p + place_of rs at ss)
      (moved_op w p (record op { act = placed (λ to. place_of rs to ss) op.act })) ≡ suits c w at op
  unfolding f
  op_fine =
      let does = writes_moved w f p op.act in
      let read = list_all-map (has_register c) (moved_reg w) op.from in
      let found = finds_there op.act in
      let takes = takes_moved w f op.from p op.act (rate_at op.into) in
      λ i. (not (does i) || has_register c (moved_reg w op.into)) && read i && found i && takes i

-- ---- the steps from an index on

-- whether the ops of the steps from index i on are fine at their places
abbrev pub fine_after : List (List Op) → List Step → Begins → Counts → ℕ → ℕ → ℕ → Bool
fine_after rs ss w c p end i =
    fine_from c end (p + place_of rs i ss)
    (moved_ops w p (flat_from rs (λ to. place_of rs to ss) (place_of rs i ss) (drop i ss)))

at_drop : (ss : List Step) (i : ℕ) (s : Step) → slice_get ss i ≡ Some s → drop i ss ≡ s ∷ drop (suc i) ss
at_drop ss i s is =
    drop-cons ss i s (slice_get_within ss i s is) ∙ ap (λ y. y ∷ drop (suc i) ss) (get_or_from_slice_get ss i s s is)

module _ (rs : List (List Op)) (ss : List Step) (w : Begins) (c : Counts) (p end : ℕ) where
  pub fine_first : fine_from c end p (moved_ops w p (flat rs ss)) ≡ fine_after rs ss w c p end 0
  fine_first =
      let here : p ≡ p + 0 = omega arith in ap (λ k. fine_from c end k (moved_ops w p (flat rs ss))) here

  pub fine_last : (i : ℕ) → length ss ≤ i → fine_after rs ss w c p end i ≡ true
  fine_last i far = ap (λ l. fine_from c end (p + place_of rs i ss)
      (moved_ops w p (flat_from rs (λ to. place_of rs to ss) (place_of rs i ss) l))) (drop_all i ss far)

  module _ (room : p + place_of rs (length ss) ss ≤ end) (i : ℕ) where
    after_op : (op : Op) → slice_get ss i ≡ Some (step.Do op) → fine_after rs ss w c p end i
        ≡ (suits c w i op && fine_after rs ss w c p end (suc i))
    after_op op is =
        let next : place_of rs i ss + 1 ≡ place_of rs (suc i) ss = sym (place_next rs i ss (step.Do op) is) in
        let far : p + place_of rs i ss + 1 ≡ p + place_of rs (suc i) ss = omega (arith, next) in
        let fine = op_fine rs ss i op is w c p end room in
        ap (λ l. fine_from c end (p + place_of rs i ss)
        (moved_ops w p (flat_from rs (λ to. place_of rs to ss) (place_of rs i ss) l))) (at_drop ss i (step.Do op) is)
        ∙ (λ j. fine j && fine_from c end (far j)
        (moved_ops w p (flat_from rs (λ to. place_of rs to ss) (next j) (drop (suc i) ss))))

    after_call : (call : Call) → slice_get ss i ≡ Some (step.Invoke call) → fine_after rs ss w c p end i
        ≡ (fine_from c end (p + place_of rs i ss)
        (moved_ops (further w (window_of call)) (p + place_of rs i ss) (ops_at rs call.routine))
        && fine_after rs ss w c p end (suc i))
    after_call call is =
        let q = place_of rs i ss in
        let ops = ops_at rs call.routine in
        let v = window_of call in
        let rest = flat_from rs (λ to. place_of rs to ss) (q + length ops) (drop (suc i) ss) in
        let next : q + length ops ≡ place_of rs (suc i) ss = sym (place_next rs i ss (step.Invoke call) is) in
        let long : length (moved_ops w p (moved_ops v q ops)) ≡ length ops =
        length-map (moved_ops v q ops) (moved_op w p) ∙ length-map ops (moved_op v q) in
        let far : p + q + length (moved_ops w p (moved_ops v q ops)) ≡ p + place_of rs (suc i) ss =
        omega (arith, next, long) in
        let both = ops_twice w v p q ops in
        ap (λ l. fine_from c end (p + q) (moved_ops w p (flat_from rs (λ to. place_of rs to ss) q l)))
        (at_drop ss i (step.Invoke call) is)
        ∙ ap (fine_from c end (p + q)) (map-append (moved_op w p) (moved_ops v q ops) rest)
        ∙ fine_both c end (p + q) (moved_ops w p (moved_ops v q ops)) (moved_ops w p rest)
        ∙ (λ j. fine_from c end (p + q) (both j) && fine_from c end (far j)
        (moved_ops w p (flat_from rs (λ to. place_of rs to ss) (next j) (drop (suc i) ss))))

-- ---- a loop over steps: the question about all steps is the question about the steps from index i on

-- the loop has passed the first i steps, for every end of the code and every place of the steps
abbrev pub HasPassed : List (List Op) → List Step → Begins → Counts → ℕ → Type 0
HasPassed rs ss w c i = (end p : ℕ) → p + length (flat rs ss) ≤ end
    → fine_from c end p (moved_ops w p (flat rs ss)) ≡ fine_after rs ss w c p end i

module _ (rs : List (List Op)) (ss : List Step) (w : Begins) (c : Counts) where
  room_of : (end p : ℕ) → p + length (flat rs ss) ≤ end → p + place_of rs (length ss) ss ≤ end
  room_of end p room = let long = steps_long rs (λ to. place_of rs to ss) 0 ss in omega (arith, long, room)

  pub passed_none : HasPassed rs ss w c 0
  passed_none end p room = fine_first rs ss w c p end

  pub passed_all : (i : ℕ) → length ss ≤ i → HasPassed rs ss w c i → (end p : ℕ) → p + length (flat rs ss) ≤ end
      → true ≡ fine_from c end p (moved_ops w p (flat rs ss))
  passed_all i far past end p room = sym (past end p room ∙ fine_last rs ss w c p end i far)

  -- whether the ops of step i are fine, for every end of the code and every place of the steps
  abbrev pub IsTurn : ℕ → Bool → Type 0
  IsTurn i answer = (end p : ℕ) → p + length (flat rs ss) ≤ end
      → fine_after rs ss w c p end i ≡ (answer && fine_after rs ss w c p end (suc i))

  pub op_turn : (i : ℕ) (op : Op) → slice_get ss i ≡ Some (step.Do op) → IsTurn i (suits c w i op)
  op_turn i op is end p room = after_op rs ss w c p end (room_of end p room) i op is

  pub call_turn : (i : ℕ) (call : Call) (answer : Bool) → slice_get ss i ≡ Some (step.Invoke call)
      → ((end p : ℕ) → p + length (ops_at rs call.routine) ≤ end
      → answer ≡ fine_from c end p (moved_ops (further w (window_of call)) p (ops_at rs call.routine)))
      → IsTurn i answer
  call_turn i call answer is told end p room =
      let all = room_of end p room in
      let next = place_next rs i ss (step.Invoke call) is in
      let last = place_end rs (suc i) ss in
      after_call rs ss w c p end all i call is ∙ ap (λ b. b && fine_after rs ss w c p end (suc i))
      (sym (told end (p + place_of rs i ss) (omega (arith, next, last, all))))

  pub passed : (i : ℕ) (answer : Bool) → HasPassed rs ss w c i → IsTurn i answer → answer ≡ true
      → HasPassed rs ss w c (i + 1)
  passed i answer past turn fine end p room =
      let next : suc i ≡ i + 1 = omega arith in
      past end p room ∙ turn end p room ∙ (λ j. fine j && fine_after rs ss w c p end (next j))

  pub stopped : (i : ℕ) (answer : Bool) → HasPassed rs ss w c i → IsTurn i answer → answer ≡ false
      → (end p : ℕ) → p + length (flat rs ss) ≤ end → false ≡ fine_from c end p (moved_ops w p (flat rs ss))
  stopped i answer past turn fails end p room =
      sym (past end p room ∙ turn end p room ∙ ap (λ b. b && fine_after rs ss w c p end (suc i)) fails)
