-- The number that expanded statements count as: the number of statements, plus one for each call of a
-- user-defined opcode.
use Rattle.std.proofs.Common.{◌≡◌, ◌∙◌, ◌+◌, ℕ, suc, min, List, [], ◌∷◌, map, length, Option, Some, None, arith, refl}
use Rattle.std.proofs.Common.{sym, ap}
use Rattle.std.specs.List.{prefix_len}
use Rattle.cs_base.specs.declared.resource.Rate.{Rate}
use Rattle.cs_grammar.specs.{declared.tree.Callee.Callee, Renaming.renamed_argument}
use Rattle.cs_grammar.specs.Tree.{Argument, value, Statement, set, call, choose, Block, no_stmt, andthen, joins, Arms}
use Rattle.cs_grammar.specs.Tree.{otherwise, arm, Definition}
use Rattle.cs_udo.specs.Names.{in_frame, as_it_is, slots}
use Rattle.cs_udo.specs.Expanded.{Template, Opcodes, no_opcodes, defined, assignments, value_in, called, calls_of}
use Rattle.cs_udo.specs.Expanded.{after_called, after, after_block, after_arms, expanded, expanded_block, expanded_arms}
use Rattle.cs_udo.specs.Expanded.{calls, calls_in, calls_in_arms, whole_body, template, defining_all}
use Rattle.cs_udo.specs.Counted.{size_of, size_of_arms, call_count, counts, counts_in, counts_in_arms}
use Rattle.cs_udo.specs.inner.Tallies.{total, is_value, weight}
use Rattle.cs_udo.proofs.EachDefined.{Of, OfEach, of_called, of_none, all_more}
use Rattle.cs_udo.proofs.Tallied.{total_both}

-- a template yields equally many statements in each frame, and uses one frame number for each call
pub record Fair (t : Template) : Type 0 where
  pub size : (f g : ℕ) → size_of (t.block f) ≡ size_of (t.block g)
  pub after : (f : ℕ) → t.after f ≡ f + 1 + t.calls

-- each of the opcodes is fair
abbrev pub AllFair : Opcodes → Type 0
AllFair opcodes = OfEach Fair opcodes

pub size_joins : (a b : Block) → size_of (joins a b) ≡ size_of a + size_of b
size_joins no_stmt b = omega arith
size_joins (andthen x rest) b = omega (arith, size_joins rest b)

-- ---- assignments

pub assigned_size : (line : ℕ) (xs : List (List ℕ)) (args : List Argument)
    → size_of (assignments line xs args) ≡ min (length xs) (prefix_len is_value args)
assigned_size line (x ∷ xs) (value e ∷ args) = omega (arith, assigned_size line xs args)
assigned_size line _ _ = omega arith

pub renamed_size : (line : ℕ) (f g : List ℕ → List ℕ) (xs : List (List ℕ)) (args : List Argument)
    → size_of (assignments line (map f xs) (map (renamed_argument g) args)) ≡ size_of (assignments line xs args)
renamed_size line f g (x ∷ xs) (value e ∷ args) = ap (λ n. 1 + n) (renamed_size line f g xs args)
renamed_size line f g _ _ = refl

pub results_size : (line f : ℕ) (own : List ℕ → List ℕ) (xs rs : List (List ℕ))
    → size_of (assignments line (map own xs) (map (value_in f) rs)) ≡ min (length xs) (length rs)
results_size line f own (x ∷ xs) (r ∷ rs) = omega (arith, results_size line f own xs rs)
results_size line f own _ _ = omega arith

pub length_slots : (k : ℕ) (rs : List Rate) → length (slots k rs) ≡ length rs
length_slots k [] = refl
length_slots k (r ∷ rs) = ap suc (length_slots (k + 1) rs)

-- ---- calls

pub call_parts : (own : List ℕ → List ℕ) (f line : ℕ) (xs : List (List ℕ)) (c : Callee) (args : List Argument)
    (t : Template) → Fair t → size_of (called own f line xs c args (Some t)) ≡ size_of (assignments line t.inputs args)
    + (size_of (t.block 1) + min (length xs) (length t.results))
call_parts own f line xs c args t fair =
    let given : Block = assignments line (map (in_frame f) t.inputs) (map (renamed_argument own) args) in
    let taken : Block = assignments line (map own xs) (map (value_in f) t.results) in
    omega (
      arith,
      size_joins given (joins (t.block f) taken),
      size_joins (t.block f) taken,
      renamed_size line (in_frame f) own t.inputs args,
      fair.size f 1,
      results_size line f own xs t.results,
    )

called_size : (own : List ℕ → List ℕ) (f line : ℕ) (xs : List (List ℕ)) (c : Callee) (args : List Argument)
    (found : Option Template) → Of Fair found
    → size_of (called own f line xs c args found) ≡ size_of (called as_it_is 1 line xs c args found)
called_size own f line xs c args None fair = refl
called_size own f line xs c args (Some t) fair =
    call_parts own f line xs c args t fair ∙ sym (call_parts as_it_is 1 line xs c args t fair)

-- the number that a call of a user-defined opcode counts as
pub call_weight : (line : ℕ) (xs : List (List ℕ)) (c : Callee) (args : List Argument) (t : Template) → Fair t
    → call_count line xs c args
    (Some t) ≡ (size_of (assignments line t.inputs args) + min (length xs) (length t.results)) + (weight t + 1)
call_weight line xs c args t fair = omega (arith, call_parts as_it_is 1 line xs c args t fair)

-- ---- all statements

mutual
  pub count_is : (opcodes : Opcodes) → AllFair opcodes → (own : List ℕ → List ℕ) (f : ℕ) (x : Statement)
      → total (counts opcodes x) ≡ size_of (expanded opcodes own f x) + calls opcodes x
  count_is opcodes fair own f (set line x e) = refl
  count_is opcodes fair own f (call line xs c args) =
      omega (arith, called_size own f line xs c args (defined opcodes c) (of_called Fair opcodes fair c))
  count_is opcodes fair own f (choose line list) = omega (arith, arms_counts opcodes fair own f list)

  pub block_counts : (opcodes : Opcodes) → AllFair opcodes → (own : List ℕ → List ℕ) (f : ℕ) (b : Block)
      → total (counts_in opcodes b) ≡ size_of (expanded_block opcodes own f b) + calls_in opcodes b
  block_counts opcodes fair own f no_stmt = refl
  block_counts opcodes fair own f (andthen x rest) =
      omega (
        arith,
        total_both (counts opcodes x) (counts_in opcodes rest),
        count_is opcodes fair own f x,
        block_counts opcodes fair own (after opcodes f x) rest,
        size_joins (expanded opcodes own f x) (expanded_block opcodes own (after opcodes f x) rest),
      )

  pub arms_counts : (opcodes : Opcodes) → AllFair opcodes → (own : List ℕ → List ℕ) (f : ℕ) (list : Arms)
      → total (counts_in_arms opcodes list) ≡ size_of_arms (expanded_arms opcodes own f list) + calls_in_arms opcodes
      list
  arms_counts opcodes fair own f (otherwise b) = block_counts opcodes fair own f b
  arms_counts opcodes fair own f (arm c b rest) =
      omega (
        arith,
        total_both (counts_in opcodes b) (counts_in_arms opcodes rest),
        block_counts opcodes fair own f b,
        arms_counts opcodes fair own (after_block opcodes f b) rest,
      )

-- ---- frames

after_call_is : (f : ℕ) (found : Option Template) → Of Fair found → after_called f found ≡ f + calls_of found
after_call_is f None fair = omega arith
after_call_is f (Some t) fair = omega (arith, fair.after f)

mutual
  pub after_is : (opcodes : Opcodes) → AllFair opcodes → (f : ℕ) (x : Statement)
      → after opcodes f x ≡ f + calls opcodes x
  after_is opcodes fair f (set line x e) = omega arith
  after_is opcodes fair f (call line xs c args) = after_call_is f (defined opcodes c) (of_called Fair opcodes fair c)
  after_is opcodes fair f (choose line list) = after_arms_is opcodes fair f list

  pub after_block_is : (opcodes : Opcodes) → AllFair opcodes → (f : ℕ) (b : Block)
      → after_block opcodes f b ≡ f + calls_in opcodes b
  after_block_is opcodes fair f no_stmt = omega arith
  after_block_is opcodes fair f (andthen x rest) =
      omega (arith, after_block_is opcodes fair (after opcodes f x) rest, after_is opcodes fair f x)

  pub after_arms_is : (opcodes : Opcodes) → AllFair opcodes → (f : ℕ) (list : Arms)
      → after_arms opcodes f list ≡ f + calls_in_arms opcodes list
  after_arms_is opcodes fair f (otherwise b) = after_block_is opcodes fair f b
  after_arms_is opcodes fair f (arm c b rest) =
      omega (arith, after_arms_is opcodes fair (after_block opcodes f b) rest, after_block_is opcodes fair f b)

-- ---- definitions

pub fair_template : (opcodes : Opcodes) → AllFair opcodes → (d : Definition) → Fair (template opcodes d)
fair_template opcodes fair d = record {
  size = λ f g. omega (
    arith,
    block_counts opcodes fair (in_frame f) (f + 1) (whole_body d),
    block_counts opcodes fair (in_frame g) (g + 1) (whole_body d),
  );
  after = λ f. after_block_is opcodes fair (f + 1) (whole_body d);
}

pub fair_all : (ds : List Definition) → AllFair (defining_all no_opcodes ds)
fair_all ds = all_more Fair template fair_template no_opcodes (of_none Fair) ds

-- ---- the number that a definition counts as

pub counts_joins : (opcodes : Opcodes) (a b : Block)
    → total (counts_in opcodes (joins a b)) ≡ total (counts_in opcodes a) + total (counts_in opcodes b)
counts_joins opcodes no_stmt b = omega arith
counts_joins opcodes (andthen x rest) b =
    omega (
      arith,
      total_both (counts opcodes x) (counts_in opcodes (joins rest b)),
      counts_joins opcodes rest b,
      total_both (counts opcodes x) (counts_in opcodes rest),
    )

pub counts_assignments : (opcodes : Opcodes) (line : ℕ) (xs : List (List ℕ)) (args : List Argument)
    → total (counts_in opcodes (assignments line xs args)) ≡ size_of (assignments line xs args)
counts_assignments opcodes line (x ∷ xs) (value e ∷ args) = ap (λ n. 1 + n) (counts_assignments opcodes line xs args)
counts_assignments opcodes line _ _ = refl

pub body_weight : (opcodes : Opcodes) → AllFair opcodes → (d : Definition)
    → weight (template opcodes d) ≡ total (counts_in opcodes d.body) + size_of
    (assignments d.line (slots 0 d.outs) d.result)
body_weight opcodes fair d =
    let given : Block = assignments d.line (slots 0 d.outs) d.result in
    omega (
      arith,
      block_counts opcodes fair (in_frame 1) (1 + 1) (whole_body d),
      counts_joins opcodes d.body given,
      counts_assignments opcodes d.line (slots 0 d.outs) d.result,
    )
