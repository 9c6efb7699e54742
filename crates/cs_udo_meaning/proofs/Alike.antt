-- Two typed statements that differ only in their variables have the same effect on two notes, if each
-- variable has the same value as its counterpart. The notes may be in two worlds that differ in the numbers
-- of shared resources.
use Rattle.std.proofs.lemmas.Grind.{common_steps}
use Rattle.std.proofs.Common.{◌≡◌, ℕ, suc, ℤ, ◌+◌, Bool, true, false, if◌then◌else◌, List, ◌∷◌, length, arith, [], refl}
use Rattle.std.proofs.Common.{ap, subst}
use Rattle.cs_base.specs.{declared.resource.Rate.Rate, declared.resource.Res.Res, declared.spaces.Spaces.Spaces}
use Rattle.cs_words.specs.Catalogue.{Row, row_of, letter_at, is_settled, takes_table}
use Rattle.cs_words.specs.{declared.catalogue.Opcode.Opcode, declared.catalogue.Shape.Shape, declared.sign.BinOp.BinOp}
use Rattle.cs_words.specs.{declared.word.Func.Func, declared.word.HeadName.HeadName}
use Rattle.cs_typed.specs.TypedTree.{Expression, number, var, field, head, neg, pair, pick, apply}
use Rattle.cs_typed.specs.declared.tree.Var.{Var as Variable}
use Rattle.cs_ir.specs.{Resources.places_of, Values.negated, Values.applied, Worlds.World, declared.op.Reach.Reach}
use Rattle.cs_ir.specs.Waves.{Wave, held, constant, both, chosen, if_init, first_values}
use Rattle.cs_meaning.specs.Core.{Stmt, set, unit, zak, store, out, out_at, ask, turnoff, nothing, choose, no_stmt}
use Rattle.cs_meaning.specs.Core.{otherwise, values_of, settled, moving, table_reach, place_reach, span_reach}
use Rattle.cs_meaning.specs.Core.{unit_reach, zak_reach, unit_call, store_call, zak_call, core_call}
use Rattle.cs_meaning.specs.Initialising.{going, put_kept, keep, keep_all, started, sought, init_stmt}
use Rattle.cs_meaning.specs.Notes.{Note, Path, StatementPlace, unit_past, moved_to, look, assign, part, value, values}
use Rattle.cs_meaning.specs.Notes.{first_value, given, done, sent, sent_at}
use Rattle.cs_meaning.specs.{Performing.perf_stmt, When.When, When.beginning, When.cycle}
use Rattle.cs_udo_meaning.specs.{Frames.unit_of, Renumbered.renumbered}
use Rattle.cs_base.specs.declared.resource.Rate.TheVariants as rate
use Rattle.cs_words.specs.declared.catalogue.Shape.TheVariants as shape
use Rattle.cs_words.specs.declared.catalogue.Space.TheVariants as space
use Rattle.cs_words.specs.declared.sign.BinOp.TheVariants as op
use Rattle.cs_typed.specs.TypedTree as typed
use Rattle.cs_ir.specs.declared.op.Reach.TheVariants as reach

-- ---- equal except for their variables

pub data Alike (V : Variable → Variable → Type 0) : Expression → Expression → Type 0 where
  alike_number : (r : Rate) (z : ℤ) → Alike V (number r z) (number r z)
  alike_var : (r : Rate) (v w : Variable) → V v w → Alike V (var r v) (var r w)
  alike_field : (r : Rate) (k : ℕ) → Alike V (field r k) (field r k)
  alike_head : (r : Rate) (h : HeadName) → Alike V (head r h) (head r h)
  alike_neg : (r : Rate) (a b : Expression) → Alike V a b → Alike V (neg r a) (neg r b)
  alike_pair : (r : Rate) (o : BinOp) (a b c d : Expression) → Alike V a b → Alike V c d
      → Alike V (pair r o a c) (pair r o b d)
  alike_pick : (r : Rate) (a b c d e f : Expression) → Alike V a b → Alike V c d → Alike V e f
      → Alike V (pick r a c e) (pick r b d f)
  alike_apply : (r : Rate) (f : Func) (a b : Expression) → Alike V a b → Alike V (apply r f a) (apply r f b)

pub data AlikeAll (V : Variable → Variable → Type 0) : List Expression → List Expression → Type 0 where
  alike_none : AlikeAll V [] []
  alike_more : (a b : Expression) (xs ys : List Expression) → Alike V a b → AlikeAll V xs ys
      → AlikeAll V (a ∷ xs) (b ∷ ys)

pub data AlikeVariables (V : Variable → Variable → Type 0) : List Variable → List Variable → Type 0 where
  no_variable : AlikeVariables V [] []
  more_variables : (v w : Variable) (vs ws : List Variable) → V v w → AlikeVariables V vs ws
      → AlikeVariables V (v ∷ vs) (w ∷ ws)

pub data AlikeArguments (V : Variable → Variable → Type 0) : List typed.Argument → List typed.Argument → Type 0 where
  no_argument : AlikeArguments V [] []
  more_values : (a b : Expression) (xs ys : List typed.Argument) → Alike V a b → AlikeArguments V xs ys
      → AlikeArguments V (typed.value a ∷ xs) (typed.value b ∷ ys)
  more_texts : (v w : Variable) (xs ys : List typed.Argument) → V v w → AlikeArguments V xs ys
      → AlikeArguments V (typed.text v ∷ xs) (typed.text w ∷ ys)

-- statements without statements in them
pub data AlikeStmt (V : Variable → Variable → Type 0) : Stmt → Stmt → Type 0 where
  alike_set : (r : Rate) (v w : Variable) (a b : Expression) → V v w → Alike V a b → AlikeStmt V (set r v a) (set r w b)
  alike_unit : (r : Rate) (vs ws : List Variable) (o : Opcode) (k : Reach) (xs ys is js : List Expression)
      → AlikeVariables V vs ws → AlikeAll V xs ys → AlikeAll V is js
      → AlikeStmt V (unit r vs o k xs is) (unit r ws o k ys js)
  alike_zak : (r : Rate) (vs ws : List Variable) (o : Opcode) (k : Reach) (xs ys : List Expression)
      → AlikeVariables V vs ws → AlikeAll V xs ys → AlikeStmt V (zak r vs o k xs) (zak r ws o k ys)
  alike_store : (r : Rate) (k : Reach) (xs ys is js : List Expression) → AlikeAll V xs ys → AlikeAll V is js
      → AlikeStmt V (store r k xs is) (store r k ys js)
  alike_out : (r : Rate) (xs ys : List Expression) → AlikeAll V xs ys → AlikeStmt V (out r xs) (out r ys)
  alike_out_at : (r : Rate) (xs ys : List Expression) → AlikeAll V xs ys → AlikeStmt V (out_at r xs) (out_at r ys)
  alike_ask : (xs ys : List Expression) → AlikeAll V xs ys → AlikeStmt V (ask xs) (ask ys)
  alike_turnoff : (r : Rate) → AlikeStmt V (turnoff r) (turnoff r)
  alike_nothing : AlikeStmt V nothing nothing
  alike_empty : (r : Rate) → AlikeStmt V (choose r (otherwise no_stmt)) (choose r (otherwise no_stmt))

-- ---- the core statement of a call

values_alike : {V : Variable → Variable → Type 0} {xs ys : List typed.Argument} → AlikeArguments V xs ys
    → AlikeAll V (values_of xs) (values_of ys)
values_alike no_argument = alike_none
values_alike (more_values a b xs ys h more) = alike_more a b (values_of xs) (values_of ys) h (values_alike more)
values_alike (more_texts v w xs ys h more) = values_alike more

settled_alike : {V : Variable → Variable → Type 0} {xs ys : List typed.Argument} → (row : Row) (n : ℕ)
    → AlikeArguments V xs ys → AlikeAll V (settled row n xs) (settled row n ys)
settled_alike row n no_argument = alike_none
settled_alike {V} row n (more_values a b xs ys h more) =
    by (is_settled (letter_at row n)) (settled_alike row (n + 1) more)
  where
    by : (c : Bool) → AlikeAll V (settled row (n + 1) xs) (settled row (n + 1) ys)
        → AlikeAll V (if c then a ∷ settled row (n + 1) xs else settled row (n + 1) xs)
        (if c then b ∷ settled row (n + 1) ys else settled row (n + 1) ys)
    by true g = alike_more a b (settled row (n + 1) xs) (settled row (n + 1) ys) h g
    by false g = g
settled_alike row n (more_texts v w xs ys h more) = settled_alike row (n + 1) more

moving_alike : {V : Variable → Variable → Type 0} {xs ys : List typed.Argument} → (row : Row) (n : ℕ)
    → AlikeArguments V xs ys → AlikeAll V (moving row n xs) (moving row n ys)
moving_alike row n no_argument = alike_none
moving_alike {V} row n (more_values a b xs ys h more) =
    by (is_settled (letter_at row n)) (moving_alike row (n + 1) more)
  where
    by : (c : Bool) → AlikeAll V (moving row (n + 1) xs) (moving row (n + 1) ys)
        → AlikeAll V (if c then moving row (n + 1) xs else a ∷ moving row (n + 1) xs)
        (if c then moving row (n + 1) ys else b ∷ moving row (n + 1) ys)
    by true g = g
    by false g = alike_more a b (moving row (n + 1) xs) (moving row (n + 1) ys) h g
moving_alike row n (more_texts v w xs ys h more) = moving_alike row (n + 1) more

table_alike : {V : Variable → Variable → Type 0} {xs ys : List Expression} → AlikeAll V xs ys
    → table_reach xs ≡ table_reach ys
table_alike (alike_more _ _ xs ys (alike_number r z) more) = refl
table_alike _ = refl

place_alike : {V : Variable → Variable → Type 0} {a b : Expression} → (n : ℕ) → Alike V a b
    → place_reach n a ≡ place_reach n b
place_alike n (alike_number r z) = refl
place_alike n _ = refl

after_number : {V : Variable → Variable → Type 0} {a b : Expression} → (n : ℕ) (r : Rate) (z : ℤ) → Alike V a b
    → span_reach n (number r z) a ≡ span_reach n (number r z) b
after_number n q y (alike_number r z) = refl
after_number n q y _ = refl

span_alike : {V : Variable → Variable → Type 0} {a b x y : Expression} → (n : ℕ) → Alike V a b → Alike V x y
    → span_reach n a x ≡ span_reach n b y
span_alike n (alike_number r z) s = after_number n r z s
span_alike n _ s = refl

zak_reach_alike : {V : Variable → Variable → Type 0} {xs ys : List Expression} → (spaces : Spaces) (sh : Shape)
    → AlikeAll V xs ys → zak_reach spaces sh xs ≡ zak_reach spaces sh ys
zak_reach_alike spaces (shape.ZakGet s) (alike_more a b xs ys h more) = place_alike (places_of spaces s) h
zak_reach_alike spaces (shape.ZakPut s) (alike_more a b _ _ h (alike_more c d xs ys j more)) = place_alike _ j
zak_reach_alike spaces shape.ZakMix (alike_more a b _ _ h (alike_more c d xs ys j more)) = place_alike _ j
zak_reach_alike spaces (shape.ZakClear s) (alike_more a b _ _ h (alike_more c d xs ys j more)) = span_alike _ h j
zak_reach_alike spaces _ _ = refl

unit_alike : {V : Variable → Variable → Type 0} {vs ws : List Variable} {xs ys : List typed.Argument}
    → (r : Rate) (o : Opcode)
    → AlikeVariables V vs ws → AlikeArguments V xs ys → AlikeStmt V (unit_call r vs o xs) (unit_call r ws o ys)
unit_alike {V} {vs} {ws} {xs} {ys} r o given args =
    let row = row_of o in
    let m = moving_alike row 0 args in
    let s = settled_alike row 0 args in
    let made = unit_reach o (settled row 0 xs) in
    subst (λ k. AlikeStmt V (unit r vs o made (moving row 0 xs) (settled row 0 xs))
    (unit r ws o k (moving row 0 ys) (settled row 0 ys)))
    (ap (λ k. if takes_table o then k else reach.Nothing) (table_alike s)) (alike_unit _ _ _ _ _ _ _ _ _ given m s)

store_alike : {V : Variable → Variable → Type 0} {xs ys : List typed.Argument} → (r : Rate) (o : Opcode)
    → AlikeArguments V xs ys → AlikeStmt V (store_call r o xs) (store_call r o ys)
store_alike {V} {xs} {ys} r o args =
    let row = row_of o in
    let s = settled_alike row 0 args in
    let made = table_reach (settled row 0 xs) in
    subst (λ k. AlikeStmt V (store r made (values_of xs) (settled row 0 xs))
    (store r k (values_of ys) (settled row 0 ys))) (table_alike s) (alike_store _ _ _ _ _ _ (values_alike args) s)

zak_alike : {V : Variable → Variable → Type 0} {vs ws : List Variable} {xs ys : List typed.Argument}
    → (spaces : Spaces) (r : Rate) (o : Opcode) (sh : Shape) → AlikeVariables V vs ws → AlikeArguments V xs ys
    → AlikeStmt V (zak_call spaces r vs o sh xs) (zak_call spaces r ws o sh ys)
zak_alike {V} {vs} {ws} {xs} {ys} spaces r o sh given args =
    let row = row_of o in
    let m = moving_alike row 0 args in
    let made = zak_reach spaces sh (moving row 0 xs) in
    subst (λ k. AlikeStmt V (zak r vs o made (moving row 0 xs)) (zak r ws o k (moving row 0 ys)))
    (zak_reach_alike spaces sh m) (alike_zak r vs ws o made (moving row 0 xs) (moving row 0 ys) given m)

pub core_alike : {V : Variable → Variable → Type 0} {vs ws : List Variable} {xs ys : List typed.Argument}
    → (spaces : Spaces) (r : Rate) (o : Opcode) (sh : Shape) → AlikeVariables V vs ws → AlikeArguments V xs ys
    → AlikeStmt V (core_call spaces r vs o sh xs) (core_call spaces r ws o sh ys)
core_alike spaces r o shape.Init (more_variables x y vs ws g rest) (more_values a b xs ys h more) =
    alike_set rate.Init x y a b g h
core_alike spaces r o shape.ChannelGet (more_variables x y vs ws g rest) (more_texts v w xs ys h more) =
    alike_set r x y (var r v) (var r w) g (alike_var r v w h)
core_alike spaces r o shape.ChannelPut no_variable (more_values a b _ _ h (more_texts v w xs ys j more)) =
    alike_set r v w a b j h
core_alike spaces r o shape.ChannelPut given
    (more_values a b _ _ h (more_texts v w xs ys j more)) = alike_set r v w a b j h
core_alike spaces r o shape.ChannelMix no_variable (more_values a b _ _ h (more_texts v w xs ys j more)) =
    alike_set _ _ _ _ _ j (alike_pair _ _ _ _ _ _ (alike_var _ _ _ j) h)
core_alike spaces r o shape.ChannelMix given (more_values a b _ _ h (more_texts v w xs ys j more)) =
    alike_set _ _ _ _ _ j (alike_pair _ _ _ _ _ _ (alike_var _ _ _ j) h)
core_alike spaces r o shape.ChannelClear no_variable (more_texts v w xs ys h more) =
    alike_set r v w _ _ h (alike_number rate.Init _)
core_alike spaces r o shape.ChannelClear given (more_texts v w xs ys h more) = alike_set _ _ _ _ _ h (alike_number _ _)
core_alike spaces r o shape.Out no_variable args = alike_out r _ _ (values_alike args)
core_alike spaces r o shape.Out given args = alike_out r _ _ (values_alike args)
core_alike spaces r o shape.OutAt no_variable args = alike_out_at r _ _ (values_alike args)
core_alike spaces r o shape.OutAt given args = alike_out_at r _ _ (values_alike args)
core_alike spaces r o shape.Turnoff no_variable args = alike_turnoff r
core_alike spaces r o shape.Turnoff given args = alike_turnoff r
core_alike spaces r o shape.Ask no_variable args = alike_ask _ _ (values_alike args)
core_alike spaces r o shape.Ask given args = alike_ask _ _ (values_alike args)
core_alike spaces r o shape.Unit no_variable args = unit_alike r o no_variable args
core_alike spaces r o shape.Unit given args = unit_alike r o given args
core_alike spaces r o shape.Store no_variable args = store_alike r o args
core_alike spaces r o shape.Store given args = store_alike r o args
core_alike spaces r o (shape.ZakGet s) no_variable args = zak_alike spaces r o (shape.ZakGet s) no_variable args
core_alike spaces r o (shape.ZakGet s) given args = zak_alike spaces r o (shape.ZakGet s) given args
core_alike spaces r o (shape.ZakPut s) no_variable args = zak_alike spaces r o (shape.ZakPut s) no_variable args
core_alike spaces r o (shape.ZakPut s) given args = zak_alike spaces r o (shape.ZakPut s) given args
core_alike spaces r o shape.ZakMix no_variable args = zak_alike spaces r o shape.ZakMix no_variable args
core_alike spaces r o shape.ZakMix given args = zak_alike spaces r o shape.ZakMix given args
core_alike spaces r o (shape.ZakClear s) no_variable args = zak_alike spaces r o (shape.ZakClear s) no_variable args
core_alike spaces r o (shape.ZakClear s) given args = zak_alike spaces r o (shape.ZakClear s) given args
core_alike spaces r o shape.ZakInit no_variable args = alike_nothing
core_alike spaces r o shape.ZakInit given args = alike_nothing
core_alike spaces r o _ _ _ = alike_nothing

-- ---- numbers of units

pub units_alike : {V : Variable → Variable → Type 0} {x y : Stmt} → AlikeStmt V x y → (n : ℕ)
    → unit_past n x ≡ unit_past n y
units_alike (alike_set r v w a b g h) n = refl
units_alike _ n = refl

-- the number after the unit of one statement, computed from its counterpart
pub unit_behind : {V : Variable → Variable → Type 0} {x y : Stmt} → AlikeStmt V x y → (n : ℕ)
    → unit_past n x ≡ n + length (unit_of n y)
unit_behind (alike_set r v w a b g h) n = omega arith
unit_behind _ n = omega arith

-- ---- two notes that agree

-- A relation between notes of two worlds. Corresponding variables have the same value, and still do after
-- both are assigned the same value. There is also a relation between paths at which both notes keep the same
-- value; it extends to the parts of both paths.
pub record Agree {W : Type 0} (o p : World W) (V : Variable → Variable → Type 0) (At : Path → Path → Type 0)
    (R : Note W → Note W → Type 0) : Type 0 where
  pub parts : (p q : Path) → At p q → (k : ℕ) → At (k ∷ p) (k ∷ q)
  pub kept : (t u : Note W) → R t u → (p q : Path) → At p q → t.kept p ≡ u.kept q
  pub world : (t u : Note W) → R t u → t.world ≡ u.world
  pub looks : (t u : Note W) → R t u → (r : Rate) (v w : Variable) → V v w → look o t r v ≡ look p u r w
  pub assigns : (t u : Note W) → R t u → (v w : Variable) → V v w → (x : Wave) → R (assign o v x t) (assign p w x u)
  pub keeps : (t u : Note W) → R t u → (p q : Path) → At p q → (z : ℤ) → R (put_kept p z t) (put_kept q z u)
  pub moves : (t u : Note W) → R t u → (x : W) → R (moved_to x t) (moved_to x u)

-- the condition under which kept values are read
abbrev pub Reads : When → Type 0 → Type 0
Reads beginning A = Unit {0}
Reads cycle A = A

abbrev pub place : Path → ℕ → StatementPlace
place p n = record { path = p; unit = n }

-- the output is the same if shared resources have other numbers
sent_there : {W : Type 0} (to : Res → Res) (o : World W) (c : ℕ) (ws : List Wave) (x : W)
    → sent o c ws x ≡ sent (renumbered to o) c ws x
sent_there to o c [] x = refl
sent_there to o c (w ∷ ws) x = sent_there to o (c + 1) ws (o.out c w x)

sent_at_there : {W : Type 0} (to : Res → Res) (o : World W) (ws : List Wave) (x : W)
    → sent_at o ws x ≡ sent_at (renumbered to o) ws x
sent_at_there to o (k ∷ w ∷ ws) x = sent_at_there to o ws (o.out_at k w x)
sent_at_there to o _ x = refl

-- One note is in a world, the other in the same world or in one with other numbers for shared resources.
module _ {W : Type 0} (o : World W) (to : Res → Res) (V : Variable → Variable → Type 0) (At : Path → Path → Type 0)
    (R : Note W → Note W → Type 0) (s : Agree o (renumbered to o) V At R) where
  abbrev there : World W
  there = renumbered to o

  part_same : (t u : Note W) → R t u → (w : When) (r : Rate) (p q : Path) → Reads w (At p q) → (x y : Wave) → x ≡ y
      → part w r (t.kept p) x ≡ part w r (u.kept q) y
  part_same t u h beginning r p q at x y e = e
  part_same t u h cycle r p q at x y e = λ i. if_init r (constant (s.kept t u h p q at i)) (e i)

  inner : (w : When) (p q : Path) → Reads w (At p q) → (k : ℕ) → Reads w (At (k ∷ p) (k ∷ q))
  inner beginning p q at k = tt
  inner cycle p q at k = s.parts p q at k

  pub value_same : (t u : Note W) → R t u → {a b : Expression} → Alike V a b → (w : When) (p q : Path)
      → Reads w (At p q) → value o t w p a ≡ value there u w q b
  value_same t u h (alike_var r x y g) w p q at = part_same t u h w r p q at _ _ (s.looks t u h r x y g)
  value_same t u h (alike_neg r a b g) w p q at =
      let one = value_same t u h g w (0 ∷ p) (0 ∷ q) (inner w p q at 0) in
      part_same t u h w r p q at _ _ (λ i. held o.ksmps r (λ j. negated (one i j)))
  value_same t u h (alike_pair r f a b c d g k) w p q at =
      let one = value_same t u h g w (0 ∷ p) (0 ∷ q) (inner w p q at 0) in
      let two = value_same t u h k w (1 ∷ p) (1 ∷ q) (inner w p q at 1) in
      part_same t u h w r p q at _ _ (λ i. held o.ksmps r (both f (one i) (two i)))
  value_same t u h (alike_pick r a b c d x y g k l) w p q at =
      let one = value_same t u h g w (0 ∷ p) (0 ∷ q) (inner w p q at 0) in
      let two = value_same t u h k w (1 ∷ p) (1 ∷ q) (inner w p q at 1) in
      let three = value_same t u h l w (2 ∷ p) (2 ∷ q) (inner w p q at 2) in
      part_same t u h w r p q at _ _ (λ i. held o.ksmps r (chosen (one i) (two i) (three i)))
  value_same t u h (alike_apply r f a b g) w p q at =
      let one = value_same t u h g w (0 ∷ p) (0 ∷ q) (inner w p q at 0) in
      part_same t u h w r p q at _ _ (λ i. held o.ksmps r (λ j. applied f (one i j)))
  value_same t u h _ w p q at = part_same t u h w _ p q at _ _ refl

  -- the values of expressions, as the note begins and in a cycle
  firsts_same : (t u : Note W) → R t u → {xs ys : List Expression} → AlikeAll V xs ys
      → values o t beginning [] xs ≡ values there u beginning [] ys
  firsts_same t u h alike_none = refl
  firsts_same t u h (alike_more a b xs ys g more) =
      λ i. value_same t u h g beginning [] [] tt i ∷ firsts_same t u h more i

  values_same : (t u : Note W) → R t u → {xs ys : List Expression} → AlikeAll V xs ys → (k : ℕ) (p q : Path) → At p q
      → values o t cycle (k ∷ p) xs ≡ values there u cycle (k ∷ q) ys
  values_same t u h alike_none k p q at = refl
  values_same t u h (alike_more a b xs ys g more) k p q at =
      λ i. value_same t u h g cycle (k ∷ p) (k ∷ q) (s.parts p q at k) i ∷ values_same t u h more (suc k) p q at i

  moves_to : (t u : Note W) → R t u → (x y : W) → x ≡ y → R (moved_to x t) (moved_to y u)
  moves_to t u h x y e = subst (λ z. R (moved_to x t) (moved_to z u)) e (s.moves t u h x)

  assigns_to : (t u : Note W) → R t u → (v w : Variable) → V v w → (x y : Wave) → x ≡ y
      → R (assign o v x t) (assign there w y u)
  assigns_to t u h v w g x y e = subst (λ z. R (assign o v x t) (assign there w z u)) e (s.assigns t u h v w g x)

  either : (r : Rate) (t u q p : Note W) → R t u → R q p → R (if_init r t q) (if_init r u p)
  either rate.Init t u q p h k = h
  either _ t u q p h k = k

  kept_whole : (t u : Note W) → R t u → {a b : Expression} → Alike V a b → (p q : Path) → At p q
      → R (put_kept p (first_value o t a) t) (put_kept q (first_value there u b) u)
  kept_whole t u h {a} {b} g p q at =
      subst (λ x. R (put_kept p (first_value o t a) t) (put_kept q x u))
      (λ i. value_same t u h g beginning [] [] tt i 0) (s.keeps t u h p q at (first_value o t a))

  pub keep_same : (t u : Note W) → R t u → {a b : Expression} → Alike V a b → (p q : Path) → At p q
      → R (keep o p a t) (keep there q b u)
  keep_same t u h (alike_neg r a b g) p q at =
      either _ _ _ _ _ (kept_whole _ _ h (alike_neg _ _ _ g) _ _ at) (keep_same t u h g _ _ (s.parts p q at 0))
  keep_same t u h (alike_pair r f a b c d g k) p q at =
      let one = keep_same t u h g (0 ∷ p) (0 ∷ q) (s.parts p q at 0) in
      either r _ _ _ _ (kept_whole t u h (alike_pair r f a b c d g k) p q at)
      (keep_same (keep o (0 ∷ p) a t) (keep there (0 ∷ q) b u) one k (1 ∷ p) (1 ∷ q) (s.parts p q at 1))
  keep_same t u h (alike_pick r a b c d x y g k l) p q at =
      let one = keep_same t u h g _ _ (s.parts p q at 0) in
      let two = keep_same _ _ one k _ _ (s.parts p q at 1) in
      either _ _ _ _ _ (kept_whole _ _ h (alike_pick _ _ _ _ _ _ _ g k l) _ _ at)
      (keep_same _ _ two l _ _ (s.parts p q at 2))
  keep_same t u h (alike_apply r f a b g) p q at =
      either _ _ _ _ _ (kept_whole _ _ h (alike_apply _ _ _ _ g) _ _ at) (keep_same t u h g _ _ (s.parts p q at 0))
  keep_same t u h g p q at = either _ _ _ t u (kept_whole t u h g p q at) h

  -- the values kept for several parts
  keep_all_same : (t u : Note W) → R t u → {xs ys : List Expression} → AlikeAll V xs ys → (k : ℕ) (p q : Path) → At p q
      → R (keep_all o (k ∷ p) xs t) (keep_all there (k ∷ q) ys u)
  keep_all_same t u h alike_none k p q at = h
  keep_all_same t u h (alike_more a b xs ys g more) k p q at =
      keep_all_same (keep o (k ∷ p) a t) (keep there (k ∷ q) b u)
      (keep_same t u h g (k ∷ p) (k ∷ q) (s.parts p q at k)) more (suc k) p q at

  going_same : (t u q p : Note W) → R t u → R q p → R (going o t q) (going there u p)
  going_same t u q p h k = grind (arith, common_steps)

  given_same : (t u : Note W) → R t u → {vs ws : List Variable} → AlikeVariables V vs ws → (w : Wave)
      → R (given o vs w t) (given there ws w u)
  given_same t u h no_variable w = h
  given_same t u h (more_variables x y xs ys g more) w = s.assigns t u h x y g w

  done_same : (t u : Note W) → R t u → {vs ws : List Variable} → AlikeVariables V vs ws → (r : Rate) (d e : W × Wave)
      → d ≡ e → R (done o r vs d t) (done there r ws e u)
  done_same t u h {vs} {ws} g r d e same = subst (λ z. R (done o r vs d t) (done there r ws z u)) same (by d)
    where
      by : (z : W × Wave) → R (done o r vs z t) (done there r ws z u)
      by (x, w) = given_same (moved_to x t) (moved_to x u) (s.moves t u h x) g (held o.ksmps r w)

  started_same : (t u : Note W) → R t u → (r : Rate) (q : Opcode) (n : ℕ) {xs ys : List Expression} → AlikeAll V xs ys
      → R (started o r q n xs t) (started there r q n ys u)
  started_same t u h r q n g =
      moves_to t u h _ _ (λ i. o.start q r n (first_values (firsts_same t u h g i)) (s.world t u h i))

  sought_same : (t u : Note W) → R t u → {xs ys : List Expression} → AlikeAll V xs ys
      → R (sought o xs t) (sought there ys u)
  sought_same t u h g = moves_to t u h _ _ (λ i. o.seek (first_values (firsts_same t u h g i)) (s.world t u h i))

  -- a statement at two paths, whose unit has the same number
  pub init_same : (t u : Note W) → R t u → {x y : Stmt} → AlikeStmt V x y → (p q : Path) → At p q → (n : ℕ)
      → R (init_stmt o (place p n) x t) (init_stmt there (place q n) y u)
  init_same t u h (alike_set r v w a b g k) p q at n =
      grind (arith, common_steps, assigns_to, either, going_same, keep_same, value_same)
  init_same t u h (alike_unit r vs ws f k xs ys is js g l m) p q at n =
      grind (arith, common_steps, done_same, either, firsts_same, going_same, keep_all_same, started_same)
  init_same t u h (alike_zak r vs ws f k xs ys g l) p q at n =
      going_same t u _ _ h
      (either r _ _ _ _ (done_same t u h g r _ _ (λ i. o.zak f k (firsts_same t u h l i) (s.world t u h i)))
      (keep_all_same t u h l 0 p q at))
  init_same t u h (alike_store r k xs ys is js l m) p q at n =
      grind (arith, common_steps, either, firsts_same, going_same, keep_all_same, moves_to, sought_same)
  init_same t u h (alike_out r xs ys g) p q at n = going_same t u _ _ h (keep_all_same t u h g 0 p q at)
  init_same t u h (alike_out_at r xs ys g) p q at n = going_same t u _ _ h (keep_all_same t u h g 0 p q at)
  init_same t u h (alike_ask xs ys g) p q at n =
      going_same t u _ _ h (moves_to t u h _ _ (λ i. o.ask (first_values (firsts_same t u h g i)) (s.world t u h i)))
  init_same t u h (alike_empty r) p q at n = going_same t u _ _ h (either r t u t u h h)
  init_same t u h _ p q at n = h

  pub perf_same : (t u : Note W) → R t u → {x y : Stmt} → AlikeStmt V x y → (p q : Path) → At p q → (n : ℕ)
      → R (perf_stmt o (place p n) x t) (perf_stmt there (place q n) y u)
  perf_same t u h (alike_set r v w a b g k) p q at n =
      either _ _ _ _ _ h (assigns_to _ _ h _ _ g _ _ (value_same _ _ h k cycle (0 ∷ p) (0 ∷ q) (s.parts p q at 0)))
  perf_same t u h (alike_unit r vs ws f k xs ys is js g l m) p q at n =
      either r t u _ _ h
      (done_same t u h g r _ _ (λ i. o.does f r n k (values_same t u h l 0 p q at i) (s.world t u h i)))
  perf_same t u h (alike_zak r vs ws f k xs ys g l) p q at n =
      either r t u _ _ h (done_same t u h g r _ _ (λ i. o.zak f k (values_same t u h l 0 p q at i) (s.world t u h i)))
  perf_same t u h (alike_store r k xs ys is js l m) p q at n =
      either r t u _ _ h (moves_to t u h _ _ (λ i. o.store r k (values_same t u h l 0 p q at i) (s.world t u h i)))
  perf_same t u h (alike_out r xs ys g) p q at n = grind (arith, common_steps, moves_to, sent_there, values_same)
  perf_same t u h (alike_out_at r xs ys g) p q at n = grind (arith, common_steps, moves_to, sent_at_there, values_same)
  perf_same t u h (alike_turnoff r) p q at n = moves_to t u h _ _ (λ i. o.turnoff (s.world t u h i))
  perf_same t u h _ p q at n = h
