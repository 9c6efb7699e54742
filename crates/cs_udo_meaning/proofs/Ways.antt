-- The way from an expanded text back to the original text: the paths of its statements and their parts in the
-- original.
use Rattle.std.proofs.Common.{◌≡◌, ◌∙◌, ℕ, zero, suc, ◌+◌, Bool, true, false, if◌then◌else◌, List, ◌∷◌, ◌++◌, length}
use Rattle.std.proofs.Common.{[], Option, Some, None, ◌⊎◌, inl, inr, arith, refl, sym, ap, add-one}
use Rattle.std.specs.{Option.option_or, Str.bytes_eq}
use Rattle.std.proofs.Math.Logic.{⊎_elim}
use Rattle.std.proofs.lemmas.Option.{none-some}
use Rattle.cs_base.proofs.Tests.{some_is}
use Rattle.cs_grammar.specs.{declared.tree.Callee.Callee, Tree.otherwise, Tree.arm, Tree.Definition}
use Rattle.cs_grammar.specs.Tree.{Argument, value, Statement, set, call, choose, Block, no_stmt, andthen, Arms}
use Rattle.cs_meaning.specs.Notes.{Path, next}
use Rattle.cs_udo.specs.Expanded.{Template, Opcodes, no_opcodes, defined, after_called, after, after_block, after_arms}
use Rattle.cs_udo.specs.Expanded.{whole_body, template, defining, defining_all}
use Rattle.cs_udo_meaning.specs.Frames.{Action, Actions, no_actions, action_of, values_in, frames_of_call, frames_of}
use Rattle.cs_udo_meaning.specs.Frames.{frames_of_block, frames_of_arms, keepers_of_copies, keepers_of_call, keepers_of}
use Rattle.cs_udo_meaning.specs.Frames.{keepers_of_block, keepers_of_arms, action, acting, acting_all}
use Rattle.cs_udo_meaning.proofs.Paths.{inward, inward_twice, same_steps, Inside, Beyond, beyond_whole, first_beyond}
use Rattle.cs_udo_meaning.proofs.Paths.{next_beyond, next_apart, further, Each, each_of, each_joined}
use Rattle.cs_grammar.specs.declared.tree.Callee.TheVariants as callee

-- ---- the targets of paths that lead inward from a place of the expanded text

abbrev pub Leads : Type 0
Leads = Path → Option Path

abbrev pub nowhere : Leads
nowhere y = None

-- each part leads to the same part of path q
abbrev pub alike : Path → Leads
alike q y = Some (inward y q)

-- paths into the first part, and paths into the later parts
abbrev pub parts : Leads → Leads → Leads
parts first behind [] = None
parts first behind (zero ∷ y) = first y
parts first behind (suc k ∷ y) = behind (k ∷ y)

-- assignments of arguments; the first leads to path q
abbrev pub copies_lead : Path → List (List ℕ) → List Argument → Leads → Leads
copies_lead q (x ∷ xs) (value e ∷ args) behind = parts (parts (alike q) nowhere) (copies_lead (next q) xs args behind)
copies_lead q xs args behind = behind

-- ---- no two paths lead to the same path

-- some path leads to x
pub record Has (n : Leads) (x : Path) : Type 0 where
  pub steps : Path
  pub is : n steps ≡ Some x

abbrev pub Sharp : Leads → Type 0
Sharp n = (y z x : Path) → n y ≡ Some x → n z ≡ Some x → y ≡ z

pub record Within (P : Path → Type 0) (n : Leads) : Type 0 where
  pub range : (y x : Path) → n y ≡ Some x → P x
  pub sharp : Sharp n

-- Existing targets remain; the added targets satisfy P, and no two paths lead to the same one.
pub record Adds (P : Path → Type 0) (behind n : Leads) : Type 0 where
  pub from : (y x : Path) → n y ≡ Some x → P x ⊎ Has behind x
  pub sharp : Sharp behind → ((x : Path) → Has behind x → P x → ⊥) → Sharp n

alike_within : (q : Path) → Within (Inside q) (alike q)
alike_within q = record {
  range = λ y x e. record { steps = y; is = sym (some_is (inward y q) x e) };
  sharp = λ y z x e f. same_steps q y z (some_is (inward y q) x e ∙ sym (some_is (inward z q) x f));
}

within_wider : (P Q : Path → Type 0) → ((x : Path) → P x → Q x) → (n : Leads) → Within P n → Within Q n
within_wider P Q f n h = record { range = λ y x e. f x (h.range y x e); sharp = h.sharp }

pub adds_wider : (P Q : Path → Type 0) → ((x : Path) → P x → Q x) → (a b : Leads) → Adds P a b → Adds Q a b
adds_wider P Q f a b h = record {
  from = λ y x e. ⊎_elim (λ p. inl (f x p)) (λ k. inr k) (h.from y x e);
  sharp = λ s off. h.sharp s (λ x k p. off x k (f x p));
}

nothing_added : (P : Path → Type 0) (a : Leads) → Adds P a a
nothing_added P a = record { from = λ y x e. inr (record { steps = y; is = e }); sharp = λ s off. s }

part_added : (P : Path → Type 0) (n a : Leads) → Within P n → Adds P a (parts n a)
part_added P n a h = record { from = from; sharp = sharp }
  where
    from : (y x : Path) → parts n a y ≡ Some x → P x ⊎ Has a x
    from [] x e = absurd (none-some x e)
    from (zero ∷ y) x e = inl (h.range y x e)
    from (suc k ∷ y) x e = inr (record { steps = k ∷ y; is = e })

    sharp : Sharp a → ((x : Path) → Has a x → P x → ⊥) → Sharp (parts n a)
    sharp s off [] z x e f = absurd (none-some x e)
    sharp s off (j ∷ y) [] x e f = absurd (none-some x f)
    sharp s off (zero ∷ y) (zero ∷ z) x e f = ap (λ p. 0 ∷ p) (h.sharp y z x e f)
    sharp s off (zero ∷ y) (suc k ∷ z) x e f = absurd (off x (record { steps = k ∷ z; is = f }) (h.range y x e))
    sharp s off (suc j ∷ y) (zero ∷ z) x e f = absurd (off x (record { steps = j ∷ y; is = e }) (h.range z x f))
    sharp s off (suc j ∷ y) (suc k ∷ z) x e f = ap next (s (j ∷ y) (k ∷ z) x e f)

both_added : (P Q R : Path → Type 0) → ((x : Path) → P x → R x) → ((x : Path) → Q x → R x)
    → ((x : Path) → Q x → P x → ⊥) → (a b c : Leads) → Adds P a b → Adds Q b c → Adds R a c
both_added P Q R f g apart a b c h k = record {
  from = λ y x e. ⊎_elim (λ q. inl (g x q)) (λ t. ⊎_elim (λ p. inl (f x p)) (λ z. inr z) (h.from t.steps x t.is))
      (k.from y x e);
  sharp = λ s off. k.sharp (h.sharp s (λ x t p. off x t (f x p)))
      (λ x t q. ⊎_elim (λ p. apart x q p) (λ z. off x z (g x q)) (h.from t.steps x t.is));
}

-- the targets of one part, before the targets of the later parts
one_more : (k : ℕ) (r : Path) (a b c : Leads) → Adds (Beyond (suc k) r) a b → Adds (Inside (k ∷ r)) b c
    → Adds (Beyond k r) a c
one_more k r = both_added _ _ _ (next_beyond _ _) (first_beyond _ _) (next_apart _ _)

alone_within : (P : Path → Type 0) (n : Leads) → Adds P nowhere n → Within P n
alone_within P n h = record {
  range = λ y x e. ⊎_elim (λ p. p) (λ t. absurd (none-some x t.is)) (h.from y x e);
  sharp = h.sharp (λ y z x e f. absurd (none-some x e)) (λ x t p. none-some x t.is);
}

within_added : (P : Path → Type 0) (n : Leads) → Within P n → Adds P nowhere n
within_added P n h = record { from = λ y x e. inl (h.range y x e); sharp = λ s off. h.sharp }

last_within : (P : Path → Type 0) (n : Leads) → Within P n → Within P (parts n nowhere)
last_within P n h = alone_within P (parts n nowhere) (part_added P n nowhere h)

copies_add : (k : ℕ) (r : Path) (xs : List (List ℕ)) (args : List Argument) (behind : Leads)
    → Adds (Beyond k r) behind (copies_lead (k ∷ r) xs args behind)
copies_add k r (x ∷ xs) (value e ∷ args) behind =
    one_more _ _ _ _ _ (copies_add _ r xs args behind) (part_added _ _ _ (last_within _ _ (alike_within _)))
copies_add k r _ _ behind = nothing_added (Beyond k r) behind

-- ---- every part that keeps values is reached

-- a part that leads to x, and the steps inside this part
pub record Reaches (n : Leads) (x : Path) : Type 0 where
  pub part : ℕ
  pub steps : Path
  pub is : n (part ∷ steps) ≡ Some x

-- each part inside a path is reached, by a path that leads into a part
abbrev HasWhole : Leads → Path → Type 0
HasWhole n q = (y : Path) → Has n (y ++ q)

abbrev pub Whole : Leads → Path → Type 0
Whole n q = (y : Path) → Reaches n (y ++ q)

-- Parts that were reached still are, and each part of these paths is reached.
pub record Keeps (behind n : Leads) (qs : List Path) : Type 0 where
  pub stays : (x : Path) → Reaches behind x → Reaches n x
  pub each : Each (Whole n) qs

alike_whole : (q : Path) → HasWhole (alike q) q
alike_whole q y = record { steps = inward y []; is = ap (λ x. Some x) (inward_twice y [] q) }

reached_whole : (n : Leads) (qs : List Path) → Each (Whole n) qs → Each (HasWhole n) qs
reached_whole n qs h = each_of _ _ (λ q w y. record { steps = (w y).part ∷ (w y).steps; is = (w y).is }) _ h

nothing_kept : (a : Leads) → Keeps a a []
nothing_kept a = record { stays = λ x r. r; each = tt }

part_kept : (n a : Leads) (qs : List Path) → Each (HasWhole n) qs → Keeps a (parts n a) qs
part_kept n a qs h = record {
  stays = λ x r. record { part = suc r.part; steps = r.steps; is = r.is };
  each = each_of _ _ (λ q w y. record { part = 0; steps = (w y).steps; is = (w y).is }) _ h;
}

inner_kept : (n a : Leads) (qs : List Path) → Each (Whole n) qs → Keeps a (parts n a) qs
inner_kept n a qs h = part_kept n a qs (reached_whole n qs h)

-- the paths in one part, before the paths in the later parts
both_kept : (a b c : Leads) (xs ys : List Path) → Keeps b c xs → Keeps a b ys → Keeps a c (xs ++ ys)
both_kept a b c xs ys h k = record {
  stays = λ x r. h.stays x (k.stays x r);
  each = each_joined (Whole c) xs ys h.each (each_of (Whole b) (Whole c) (λ q w y. h.stays (y ++ q) (w y)) ys k.each);
}

alike_kept : (q : Path) (a : Leads) → Keeps a (parts (alike q) a) (q ∷ [])
alike_kept q a = part_kept (alike q) a (q ∷ []) (alike_whole q, tt)

copies_kept : (q : Path) (xs : List (List ℕ)) (args : List Argument) (behind : Leads)
    → Keeps behind (copies_lead q xs args behind) (keepers_of_copies q xs args)
copies_kept q (x ∷ xs) (value e ∷ args) behind =
    both_kept _ _ _ (q ∷ []) _ (inner_kept _ _ _ (alike_kept q nowhere).each) (copies_kept (next q) xs args behind)
copies_kept q _ _ behind = nothing_kept behind

-- ---- a user-defined opcode in both texts

-- Both have the same names and the same number of frames as calls. For a call at a path, the statements of
-- the expanded body lead to each part of the original body that keeps values.
pub record Pair {W : Type 0} (t : Template) (a : Action W) : Type 0 where
  pub inputs : t.inputs ≡ a.inputs
  pub results : t.results ≡ a.results
  pub after : (n : ℕ) (p : Path) → t.after n ≡ suc n + length (a.calls p)
  pub leads : Path → Leads → Leads
  pub adds : (p : Path) (behind : Leads) → Adds (Inside (1 ∷ p)) behind (leads p behind)
  pub keeps : (p : Path) (behind : Leads) → Keeps behind (leads p behind) (a.keepers p)

-- an opcode is defined in both texts, or in neither
pub data PairIf {W : Type 0} : Option Template → Option (Action W) → Type 0 where
  neither : PairIf None None
  both : (t : Template) (a : Action W) → Pair t a → PairIf (Some t) (Some a)

pub record AllPair {W : Type 0} (opcodes : Opcodes) (env : Actions W) : Type 0 where
  pub each : (name : List ℕ) → PairIf (opcodes name) (env name)

abbrev pub called_pair : {W : Type 0} (opcodes : Opcodes) (env : Actions W) → AllPair opcodes env → (c : Callee)
    → PairIf (defined opcodes c) (action_of env c)
called_pair opcodes env k (callee.Opcode o) = neither
called_pair opcodes env k (callee.Name name) = k.each name

abbrev pub call_leads : {W : Type 0} {t : Option Template} {a : Option (Action W)} → PairIf t a → Path
    → List (List ℕ) → List Argument → Leads → Leads
call_leads neither q xs args behind = parts (alike q) behind
call_leads (both t a h) q xs args behind =
    copies_lead (0 ∷ 0 ∷ q) a.inputs args (h.leads q (copies_lead (0 ∷ 2 ∷ q) xs (values_in a.results) behind))

call_adds : {W : Type 0} {t : Option Template} {a : Option (Action W)} (h : PairIf t a) (q : Path) (xs : List (List ℕ))
    (args : List Argument) (behind : Leads) → Adds (Inside q) behind (call_leads h q xs args behind)
call_adds neither q xs args behind = part_added (Inside q) (alike q) behind (alike_within q)
call_adds (both t a h) q xs args behind =
    let two = copies_lead (0 ∷ 2 ∷ q) xs (values_in a.results) behind in
    let given = adds_wider _ _ (λ x p. first_beyond 2 q x (beyond_whole _ _ _ p)) _ _ (copies_add _ _ _ _ _) in
    let inner = one_more _ _ _ _ _ given (h.adds q two) in
    let inputs = adds_wider _ _ (beyond_whole _ _) _ _ (copies_add _ _ _ _ _) in
    adds_wider _ _ (beyond_whole _ _) _ _ (one_more _ _ _ _ _ inner inputs)

call_kept : {W : Type 0} {t : Option Template} {a : Option (Action W)} (h : PairIf t a) (q : Path) (xs : List (List ℕ))
    (args : List Argument) (behind : Leads) → Keeps behind (call_leads h q xs args behind) (keepers_of_call q xs args a)
call_kept neither q xs args behind = alike_kept q behind
call_kept (both t a h) q xs args behind =
    let given = values_in a.results in
    let two = copies_lead (0 ∷ 2 ∷ q) xs given behind in
    both_kept _ _ _ _ _ (copies_kept _ _ _ _) (both_kept _ _ _ _ _ (h.keeps q two) (copies_kept _ _ _ _))

-- ---- statements

module _ {W : Type 0} (opcodes : Opcodes) (env : Actions W) (k : AllPair opcodes env) where
  abbrev mutual
    pub stmt_leads : Path → Statement → Leads → Leads
    stmt_leads q (set line x e) behind = parts (alike q) behind
    stmt_leads q (call line xs c args) behind = call_leads (called_pair opcodes env k c) q xs args behind
    stmt_leads q (choose line list) behind = parts (arms_lead (0 ∷ q) list) behind

    pub block_leads : Path → Block → Leads → Leads
    block_leads q no_stmt behind = behind
    block_leads q (andthen x rest) behind = stmt_leads q x (block_leads (next q) rest behind)

    pub arms_lead : Path → Arms → Leads
    arms_lead q (otherwise b) = parts (block_leads (0 ∷ q) b nowhere) nowhere
    arms_lead q (arm c b rest) =
        parts (parts (alike (0 ∷ q)) (parts (block_leads (0 ∷ 1 ∷ q) b nowhere) nowhere)) (arms_lead (next q) rest)

  mutual
    stmt_adds : (q : Path) (x : Statement) (behind : Leads) → Adds (Inside q) behind (stmt_leads q x behind)
    stmt_adds q (set line x e) behind = part_added (Inside q) (alike q) behind (alike_within q)
    stmt_adds q (call line xs c args) behind = call_adds (called_pair opcodes env k c) q xs args behind
    stmt_adds q (choose line list) behind =
        part_added _ _ _ (within_wider _ _ (beyond_whole _ _) _ (arms_within 0 q list))

    pub block_adds : (i : ℕ) (r : Path) (b : Block) (behind : Leads)
        → Adds (Beyond i r) behind (block_leads (i ∷ r) b behind)
    block_adds i r no_stmt behind = nothing_added (Beyond i r) behind
    block_adds i r (andthen x rest) behind =
        let more = block_leads (suc i ∷ r) rest behind in
        one_more _ _ _ _ _ (block_adds _ r rest behind) (stmt_adds _ x more)

    arms_within : (i : ℕ) (r : Path) (list : Arms) → Within (Beyond i r) (arms_lead (i ∷ r) list)
    arms_within i r (otherwise b) =
        last_within _ _ (within_wider _ _ (λ x p. first_beyond i r x (beyond_whole _ _ _ p)) _
        (alone_within _ _ (block_adds 0 _ b nowhere)))
    arms_within i r (arm c b rest) =
        let q = i ∷ r in
        let inner = last_within _ _ (within_wider _ _ (λ x p. first_beyond 1 q x (beyond_whole _ _ _ p)) _
        (alone_within _ _ (block_adds 0 (1 ∷ q) b nowhere))) in
        let whole = one_more _ _ _ _ _ (within_added _ _ inner) (part_added _ _ _ (alike_within _)) in
        let arm_within = within_wider _ _ (beyond_whole _ _) _ (alone_within _ _ whole) in
        alone_within _ _ (one_more _ _ _ _ _ (within_added _ _ (arms_within _ r rest)) (part_added _ _ _ arm_within))

  pub block_sharp : (i : ℕ) (r : Path) (b : Block) → Sharp (block_leads (i ∷ r) b nowhere)
  block_sharp i r b = (alone_within (Beyond i r) (block_leads (i ∷ r) b nowhere) (block_adds i r b nowhere)).sharp

  mutual
    stmt_kept : (q : Path) (x : Statement) (behind : Leads) → Keeps behind (stmt_leads q x behind) (keepers_of env q x)
    stmt_kept q (set line x e) behind = alike_kept q behind
    stmt_kept q (call line xs c args) behind = call_kept (called_pair opcodes env k c) q xs args behind
    stmt_kept q (choose line list) behind = inner_kept _ _ _ (arms_kept _ list).each

    pub block_kept : (q : Path) (b : Block) (behind : Leads)
        → Keeps behind (block_leads q b behind) (keepers_of_block env q b)
    block_kept q no_stmt behind = nothing_kept behind
    block_kept q (andthen x rest) behind =
        let more = block_leads (next q) rest behind in
        both_kept _ _ _ _ _ (stmt_kept q x more) (block_kept _ rest behind)

    arms_kept : (q : Path) (list : Arms) → Keeps nowhere (arms_lead q list) (keepers_of_arms env q list)
    arms_kept q (otherwise b) = inner_kept _ _ _ (block_kept _ b nowhere).each
    arms_kept q (arm c b rest) =
        let in_body = keepers_of_block env (0 ∷ 1 ∷ q) b in
        let first = (0 ∷ q) ∷ in_body in
        both_kept _ _ _ first _ (inner_kept _ _ _ (both_kept nowhere _ _ _ _ (alike_kept (0 ∷ q) _)
        (inner_kept _ _ _ (block_kept (0 ∷ 1 ∷ q) b nowhere).each)).each) (arms_kept _ rest)

  -- ---- the frame after statements

  call_after : {t : Option Template} {a : Option (Action W)} → PairIf t a → (n : ℕ) (p : Path)
      → after_called n t ≡ n + length (frames_of_call p a)
  call_after neither n p = omega arith
  call_after (both t a h) n p = omega (arith, h.after n p)

  mutual
    pub after_is : (n : ℕ) (p : Path) (x : Statement) → after opcodes n x ≡ n + length (frames_of env p x)
    after_is n p (set line x e) = omega arith
    after_is n p (call line xs c args) = call_after (called_pair opcodes env k c) n p
    after_is n p (choose line list) = after_arms_is n (0 ∷ p) list

    pub after_block_is : (n : ℕ) (p : Path) (b : Block) → after_block opcodes n b ≡ n + length (frames_of_block env p b)
    after_block_is n p no_stmt = omega arith
    after_block_is n p (andthen x rest) =
        ap (λ i. after_block opcodes i rest) (after_is n p x) ∙ after_block_is _ _ rest ∙ further _ _ _

    after_arms_is : (n : ℕ) (p : Path) (list : Arms)
        → after_arms opcodes n list ≡ n + length (frames_of_arms env p list)
    after_arms_is n p (otherwise b) = after_block_is n (0 ∷ p) b
    after_arms_is n p (arm c b rest) =
        ap (λ i. after_arms opcodes i rest) (after_block_is n _ b) ∙ after_arms_is _ _ rest ∙ further _ _ _

-- ---- definitions

abbrev pub template_pair : {W : Type 0} (opcodes : Opcodes) (env : Actions W) → AllPair opcodes env → (d : Definition)
    → Pair (template opcodes d) (action env d)
template_pair opcodes env k d = record {
  inputs = refl;
  results = refl;
  after = λ n p. ap (λ i. after_block opcodes i (whole_body d)) (add-one n)
      ∙ after_block_is _ _ k _ (0 ∷ 1 ∷ p) (whole_body d);
  leads = λ p behind. block_leads opcodes env k (0 ∷ 1 ∷ p) (whole_body d) behind;
  adds = λ p behind. adds_wider (Beyond 0 (1 ∷ p)) (Inside (1 ∷ p)) (beyond_whole _ _) behind
      (block_leads opcodes env k (0 ∷ 1 ∷ p) (whole_body d) behind) (block_adds opcodes env k _ _ _ _);
  keeps = λ p behind. block_kept opcodes env k (0 ∷ 1 ∷ p) (whole_body d) behind;
}

abbrev pub with_pair : {W : Type 0} (opcodes : Opcodes) (env : Actions W) (k : AllPair opcodes env) (d : Definition)
    {t : Option Template} {a : Option (Action W)} → PairIf t a → (b : Bool)
    → PairIf (option_or t (if b then Some (template opcodes d) else None))
    (option_or a (if b then Some (action env d) else None))
with_pair opcodes env k d neither true = both (template opcodes d) (action env d) (template_pair opcodes env k d)
with_pair opcodes env k d neither false = neither
with_pair opcodes env k d (both t a h) b = both t a h

abbrev pub defining_pairs : {W : Type 0} (opcodes : Opcodes) (env : Actions W) → AllPair opcodes env → (d : Definition)
    → AllPair (defining opcodes d) (acting env d)
defining_pairs opcodes env k d =
    record { each = λ name. with_pair opcodes env k d (k.each name) (bytes_eq name d.name) }

abbrev pub all_pair : {W : Type 0} (opcodes : Opcodes) (env : Actions W) → AllPair opcodes env → (ds : List Definition)
    → AllPair (defining_all opcodes ds) (acting_all env ds)
all_pair opcodes env k [] = k
all_pair opcodes env k (d ∷ ds) = all_pair (defining opcodes d) (acting env d) (defining_pairs opcodes env k d) ds

abbrev pub nothing_pairs : {W : Type 0} → AllPair no_opcodes (no_actions {W = W})
nothing_pairs = record { each = λ name. neither }
