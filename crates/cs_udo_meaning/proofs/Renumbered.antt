-- The numbers of shared names: longer lists lead to the lists whose names they contain, and an instrument has
-- the same life by either list.
use Rattle.std.proofs.Common.{◌≡◌, ◌∙◌, ℕ, zero, suc, ◌+◌, Bool, true, false, not, if◌then◌else◌, List, ◌∷◌, [], length}
use Rattle.std.proofs.Common.{map, arith, refl, sym, ap, subst}
use Rattle.std.proofs.lemmas.{Slice.Eq.bytes_eq-Decides, Grind.common_steps}
use Rattle.cs_base.specs.{Rates.res_rate, declared.resource.Rate.Rate, declared.resource.Res.Res}
use Rattle.cs_base.specs.declared.spaces.Spaces.{Spaces}
use Rattle.cs_words.specs.{NameSets.has, NameSets.place_of, Names.name_rate, Names.is_global}
use Rattle.cs_grammar.specs.{declared.tree.Callee.Callee, WellFormed.WellFormedInstrument}
use Rattle.cs_grammar.specs.Tree.{Expression, Argument, Statement, set, call, choose, Block, no_stmt, andthen, Arms}
use Rattle.cs_grammar.specs.Tree.{otherwise, arm, Definition, Instrument}
use Rattle.cs_typed.specs.declared.tree.Var.{Var as Variable}
use Rattle.cs_typed.specs.declared.tree.Var.TheVariants.{Local, Global}
use Rattle.cs_typing.specs.Known.{Shared, of_rate, place_in, global, channel_of}
use Rattle.cs_typing.specs.{Statements.choice_rate, declared.known.Channel.Channel}
use Rattle.cs_ir.specs.{Values.holds, Waves.Wave, Waves.held, Waves.if_init, Worlds.World}
use Rattle.cs_meaning.specs.{Initialising.going, Initialising.keep, Notes.value as value_of}
use Rattle.cs_meaning.specs.Notes.{Note, Path, StatementPlace, next, inside, inside_arm, past_arm, past_stmt, unit_past}
use Rattle.cs_meaning.specs.Notes.{unit_past_block, unit_past_arms, start, new_note, moved_to, look, assign, reg}
use Rattle.cs_meaning.specs.When.{When, beginning, cycle}
use Rattle.cs_udo_meaning.specs.{Frames.by_pass, Frames.stmt_done, Numbered.arms_by, Typed.IsNumberedInstrument}
use Rattle.cs_udo.specs.Expanded.{expanded_instrument}
use Rattle.cs_udo_meaning.specs.Lives.{Cycle, goes_on, life, life_with_frames, reading}
use Rattle.cs_udo_meaning.specs.Numbered.{Numbering, Tells, spelled, numbered, expression_by, statement_by, block_by}
use Rattle.cs_udo_meaning.specs.Renumbered.{renumbered, renumbered_cycle, LeadsTo, HasNames}
use Rattle.cs_udo_meaning.proofs.Alike.{Alike, AlikeStmt, Agree, units_alike, value_same, keep_same, init_same}
use Rattle.cs_udo_meaning.proofs.{Alike.perf_same, Lived.instrument_means, Numbers.spelled_tells}
use Rattle.cs_typing.proofs.Named.{any_named, any_names, any_arguments}
use Rattle.cs_udo_meaning.proofs.Standing.{expression_alike, set_alike, call_alike}
use Rattle.cs_base.specs.declared.resource.Rate.TheVariants as rate
use Rattle.cs_base.specs.declared.resource.Res.TheVariants as res
use Rattle.cs_typed.specs.TypedTree as typed
use Rattle.cs_typing.specs.declared.known.Channel.TheVariants as channel
use Rattle.cs_meaning.specs.Core as core
use Rattle.cs_meaning.specs.Initialising as initial
use Rattle.cs_meaning.specs.Performing as performing

-- ---- from place to place

-- the place in the second list of the name at place n of the first; the length of the second list if there is
-- no such name
abbrev led : List (List ℕ) → List (List ℕ) → ℕ → ℕ
led [] names n = length names
led (y ∷ hs) names zero = place_of names y
led (y ∷ hs) names (suc n) = led hs names n

place_none : (names : List (List ℕ)) (x : List ℕ) → has names x ≡ false → place_of names x ≡ length names
place_none [] x h = refl
place_none (y ∷ names) x h = grind (arith, common_steps, not, place_none names x)

none_there : (names : List (List ℕ)) (x : List ℕ) → (has names x ≡ true → false ≡ true)
    → length names ≡ place_of names x
none_there names x h = grind (arith, common_steps, place_none)

one_suc : (n : ℕ) → 1 + n ≡ suc n
one_suc n = omega arith

led_place : (hs names : List (List ℕ)) (x : List ℕ) → (has names x ≡ true → has hs x ≡ true)
    → led hs names (place_of hs x) ≡ place_of names x
led_place [] names x h = none_there names x h
led_place (y ∷ hs) names x h = grind (arith, common_steps, bytes_eq-Decides, not, one_suc, led_place hs names x)

-- ---- from resource to resource

abbrev leads : Shared → Shared → Res → Res
leads h g (res.Gi n) = res.Gi (led h.globals.init g.globals.init n)
leads h g (res.Gk n) = res.Gk (led h.globals.control g.globals.control n)
leads h g (res.Ga n) = res.Ga (led h.globals.audio g.globals.audio n)
leads h g (res.ZakK n) = res.ZakK n
leads h g (res.ZakA n) = res.ZakA n
leads h g (res.Control n) = res.Control (led h.control g.control n)
leads h g (res.Sound n) = res.Sound (led h.sound g.sound n)
leads h g (res.Table n) = res.Table n

keeps_rate : (h g : Shared) (r : Res) → res_rate (leads h g r) ≡ res_rate r
keeps_rate h g (res.Gi n) = refl
keeps_rate h g _ = refl

variable_led : (h g : Shared) (r : Rate) (x : List ℕ)
    → (has (of_rate r g.globals) x ≡ true → has (of_rate r h.globals) x ≡ true)
    → leads h g (global r (place_of (of_rate r h.globals) x)) ≡ global r (place_of (of_rate r g.globals) x)
variable_led h g rate.Init x k = ap (λ n. res.Gi n) (led_place h.globals.init g.globals.init x k)
variable_led h g rate.Control x k = ap (λ n. res.Gk n) (led_place h.globals.control g.globals.control x k)
variable_led h g rate.Audio x k = ap (λ n. res.Ga n) (led_place h.globals.audio g.globals.audio x k)

pub names_lead : (g h : Shared) → HasNames h g → (to : Res → Res) × LeadsTo to h g
names_lead g h k = (
  leads h g,
  record {
    rate = keeps_rate h g;
    globals = λ x. variable_led h g (name_rate x) x (k.globals x);
    control = λ x. ap (λ n. res.Control n) (led_place h.control g.control x (k.control x));
    sound = λ x. ap (λ n. res.Sound n) (led_place h.sound g.sound x (k.sound x));
  },
)

-- ---- statements by either numbering

-- a variable with the number that is led to, and the variable with the number that leads there
data LedVariable (to : Res → Res) : Variable → Variable → Type 0 where
  led_local : (r : Rate) (n : ℕ) → LedVariable to (Local r n) (Local r n)
  led_shared : (r : Res) → LedVariable to (Global (to r)) (Global r)

abbrev Any : List ℕ → Type 0
Any x = Unit {0}

any : (x : List ℕ) → Any x
any x = tt

module _ {W : Type 0} (to : Res → Res) (g h : Shared) (lead : LeadsTo to h g) (number : Numbering) (spaces : Spaces)
    (o : World W) where
  abbrev Same : Variable → Variable → Type 0
  Same = LedVariable to

  abbrev other : World W
  other = renumbered to o

  same_variable : (x : List ℕ) → Any x → Same (numbered g number x) (numbered h number x)
  same_variable x u = by (is_global x)
    where
      by : (b : Bool) → Same
          (if b then Global (global (name_rate x) (place_in g.globals x)) else Local (name_rate x) (number x))
          (if b then Global (global (name_rate x) (place_in h.globals x)) else Local (name_rate x) (number x))
      by true =
          let there = global (name_rate x) (place_in h.globals x) in
          subst (λ (r : Res). Same (Global r) (Global there)) (lead.globals x) (led_shared there)
      by false = led_local (name_rate x) (number x)

  same_channel : (kind : Channel) (t : List ℕ) → Same (channel_of g kind t) (channel_of h kind t)
  same_channel channel.Control t =
      subst (λ (r : Res). Same (Global r) (Global (res.Control (place_of h.control t)))) (lead.control t) (led_shared _)
  same_channel channel.Sound t =
      subst (λ (r : Res). Same (Global r) (Global (res.Sound (place_of h.sound t)))) (lead.sound t) (led_shared _)

  -- two notes that are the same
  looks_same : (t u : Note W) → t ≡ u → (r : Rate) (v w : Variable) → Same v w → look o t r v ≡ look other u r w
  looks_same t u e r _ _ (led_local q n) = ap (λ (z : Note W). z.locals (reg q n)) e
  looks_same t u e r _ _ (led_shared k) = ap (λ (z : Note W). held o.ksmps r (o.load (to k) z.world)) e

  assigns_same : (t u : Note W) → t ≡ u → (v w : Variable) → Same v w → (a : Wave) → assign o v a t ≡ assign other w a u
  assigns_same t u e _ _ (led_local q n) a = ap (assign o (Local q n) a) e
  assigns_same t u e _ _ (led_shared k) a =
      λ i. moved_to (o.save (to k) (held o.ksmps (lead.rate k i) a) (e i).world) (e i)

  notes_agree : Agree o other Same (λ p q. p ≡ q) (λ t u. t ≡ u)
  notes_agree = grind (arith, common_steps, assigns_same, looks_same)

  -- a condition, and a statement without statements in it
  abbrev here : Expression → typed.Expression
  here e = expression_by (numbered g number) e

  abbrev there : Expression → typed.Expression
  there e = expression_by (numbered h number) e

  same_expression : (e : Expression) → Alike Same (here e) (there e)
  same_expression e = expression_alike (numbered g number) (numbered h number) same_variable e (any_named Any any e)

  abbrev stmt_here : Statement → core.Stmt
  stmt_here x = core.core_stmt spaces (statement_by g (numbered g number) x)

  abbrev stmt_there : Statement → core.Stmt
  stmt_there x = core.core_stmt spaces (statement_by h (numbered h number) x)

  same_set : (line : ℕ) (x : List ℕ) (e : Expression)
      → AlikeStmt Same (stmt_here (set line x e)) (stmt_there (set line x e))
  same_set line x e = set_alike _ _ same_variable g h same_channel spaces line x e (any x) (any_named _ any e)

  same_call : (line : ℕ) (xs : List (List ℕ)) (c : Callee) (args : List Argument)
      → AlikeStmt Same (stmt_here (call line xs c args)) (stmt_there (call line xs c args))
  same_call line xs c args =
      call_alike (numbered g number) (numbered h number) same_variable g h same_channel spaces line xs c args
      (any_names Any any xs) (any_arguments Any any args)

  plain_same : (w : When) (x y : core.Stmt) → AlikeStmt Same x y → (p : StatementPlace) (t : Note W)
      → stmt_done w o p x t ≡ stmt_done w other p y t
  plain_same beginning x y a p t = init_same _ to _ _ _ notes_agree _ _ refl a _ _ refl _
  plain_same cycle x y a p t = perf_same _ to _ _ _ notes_agree _ _ refl a _ _ refl _

  condition_kept : (p : Path) (c : Expression) (t : Note W) → keep o p (here c) t ≡ keep other p (there c) t
  condition_kept p c t = keep_same _ to _ _ _ notes_agree t _ refl (same_expression c) p _ refl

  condition_now : (p : Path) (c : Expression) (t : Note W)
      → value_of o t cycle p (here c) ≡ value_of other t cycle p (there c)
  condition_now p c t = value_same o to Same (λ q r. q ≡ r) (λ t u. t ≡ u) notes_agree t t refl (same_expression c)
      cycle p p refl

  -- ---- statements with statements in them

  abbrev block_here : Block → core.Block
  block_here b = core.core spaces (block_by g (numbered g number) b)

  abbrev block_there : Block → core.Block
  block_there b = core.core spaces (block_by h (numbered h number) b)

  abbrev arms_here : Arms → core.Arms
  arms_here list = core.core_arms spaces (arms_by g (numbered g number) list)

  abbrev arms_there : Arms → core.Arms
  arms_there list = core.core_arms spaces (arms_by h (numbered h number) list)

  mutual
    units_same : (x : Statement) (n : ℕ) → unit_past n (stmt_here x) ≡ unit_past n (stmt_there x)
    units_same (set line x e) n = units_alike (same_set line x e) n
    units_same (call line xs c args) n = units_alike (same_call line xs c args) n
    units_same (choose line list) n = arms_units_same list n

    block_units_same : (b : Block) (n : ℕ) → unit_past_block n (block_here b) ≡ unit_past_block n (block_there b)
    block_units_same no_stmt n = refl
    block_units_same (andthen x rest) n =
        ap (λ k. unit_past_block k (block_here rest)) (units_same x n)
        ∙ block_units_same rest (unit_past n (stmt_there x))

    arms_units_same : (list : Arms) (n : ℕ) → unit_past_arms n (arms_here list) ≡ unit_past_arms n (arms_there list)
    arms_units_same (otherwise b) n = block_units_same b n
    arms_units_same (arm c b rest) n =
        ap (λ k. unit_past_arms k (arms_here rest)) (block_units_same b n)
        ∙ arms_units_same rest (unit_past_block n (block_there b))

  past_same : (x : Statement) (p : StatementPlace) → past_stmt p (stmt_here x) ≡ past_stmt p (stmt_there x)
  past_same x p = λ i. record { path = next p.path; unit = units_same x p.unit i }

  past_arm_same : (b : Block) (p : StatementPlace) → past_arm p (block_here b) ≡ past_arm p (block_there b)
  past_arm_same b p = λ i. record { path = next p.path; unit = block_units_same b p.unit i }

  abbrev block_does : When → World W → StatementPlace → core.Block → Note W → Note W
  block_does w k p b t = by_pass w (initial.init_block k p b t) (performing.perf_block k p b t)

  block_more : (w : When) (k : World W) (p : StatementPlace) (x : core.Stmt) (b : core.Block) (t : Note W)
      → block_does w k (past_stmt p x) b (stmt_done w k p x t) ≡ block_does w k p (core.andthen x b) t
  block_more beginning k p x b t = refl
  block_more cycle k p x b t = refl

  record ArmsSame (list : Arms) (p : StatementPlace) : Type 0 where
    pub first : (t : Note W) → initial.init_first o p (arms_here list) t ≡ initial.init_first other p
        (arms_there list) t
    pub all : (t : Note W) → initial.init_all o p (arms_here list) t ≡ initial.init_all other p (arms_there list) t
    pub now : (t : Note W)
        → performing.perf_arms o p (arms_here list) t ≡ performing.perf_arms other p (arms_there list) t

  mutual
    stmt_same : (w : When) (x : Statement) (p : StatementPlace) (t : Note W)
        → stmt_done w o p (stmt_here x) t ≡ stmt_done w other p (stmt_there x) t
    stmt_same w (set line x e) p t = plain_same w _ _ (same_set line x e) p t
    stmt_same w (call line xs c args) p t = plain_same w _ _ (same_call line xs c args) p t
    stmt_same beginning (choose line list) p t =
        let arms = arms_same list (inside p) in
        λ i. going o t (if_init (choice_rate list) (arms.first t i) (arms.all t i))
    stmt_same cycle (choose line list) p t = (arms_same list (inside p)).now t

    block_same : (w : When) (b : Block) (p : StatementPlace) (t : Note W)
        → block_does w o p (block_here b) t ≡ block_does w other p (block_there b) t
    block_same beginning no_stmt p t = refl
    block_same cycle no_stmt p t = refl
    block_same w (andthen x rest) p t =
        sym (block_more w o p (stmt_here x) (block_here rest) t)
        ∙ (λ i. block_does w o (past_same x p i) (block_here rest) (stmt_same w x p t i))
        ∙ block_same w rest (past_stmt p (stmt_there x)) (stmt_done w other p (stmt_there x) t)
        ∙ block_more w other p (stmt_there x) (block_there rest) t

    arms_same : (list : Arms) (p : StatementPlace) → ArmsSame list p
    arms_same (otherwise b) p = record {
      first = block_same beginning b (inside p);
      all = block_same beginning b (inside p);
      now = block_same cycle b (inside p);
    }
    arms_same (arm c b rest) p =
        let q = inside_arm p in
        let at = 0 ∷ p.path in
        let kept = λ (t : Note W). keep other at (there c) t in
        let more : ArmsSame rest (past_arm p (block_there b)) = arms_same rest (past_arm p (block_there b)) in
        record {
          first = λ t. (λ i. if holds ((condition_kept at c t i).kept at)
              then initial.init_block o q (block_here b) (condition_kept at c t i)
              else initial.init_first o (past_arm_same b p i) (arms_here rest) (condition_kept at c t i))
              ∙ λ i. if holds ((kept t).kept at) then block_same beginning b q (kept t) i else more.first (kept t) i;
          all = λ t. (λ i. going o t (initial.init_all o (past_arm_same b p i) (arms_here rest)
              (initial.init_block o q (block_here b) (condition_kept at c t i))))
              ∙ (λ i. going o t (initial.init_all o (past_arm p (block_there b)) (arms_here rest)
              (block_same beginning b q (kept t) i)))
              ∙ λ i. going o t (more.all (initial.init_block other q (block_there b) (kept t)) i);
          now = λ t. (λ i. if holds (condition_now at c t i 0) then performing.perf_block o q (block_here b) t
              else performing.perf_arms o (past_arm_same b p i) (arms_here rest) t)
              ∙ λ i. if holds (value_of other t cycle at (there c) 0) then block_same cycle b q t i else more.now t i;
        }

-- ---- lives

-- statements, with shared names numbered by their places in these lists
abbrev body_by : Shared → Numbering → Spaces → Block → core.Block
body_by g number spaces b = core.core spaces (block_by g (numbered g number) b)

module _ {W : Type 0} (to : Res → Res) (g h : Shared) (lead : LeadsTo to h g) (number : Numbering) (spaces : Spaces)
    (b : Block) where
  cycles_same : (cycles : List (Cycle W)) (t : Note W) → goes_on (body_by g number spaces b) cycles t
      ≡ goes_on (body_by h number spaces b) (map (renumbered_cycle to) cycles) t
  cycles_same [] t = refl
  cycles_same (c ∷ more) t =
      let moved = moved_to (c.others t.world) t in
      ap (λ l. t.world ∷ l)
      (ap (goes_on (body_by g number spaces b) more) (block_same to g h lead number spaces c.world cycle b start moved)
      ∙ cycles_same more (performing.perf_block (renumbered to c.world) start (body_by h number spaces b) moved))

  lives_same : (o : World W) (cycles : List (Cycle W)) (x : W) → life o (body_by g number spaces b) cycles x
      ≡ life (renumbered to o) (body_by h number spaces b) (map (renumbered_cycle to) cycles) x
  lives_same o cycles x =
      ap (goes_on (body_by g number spaces b) cycles)
      (block_same to g h lead number spaces o beginning b start (new_note x)) ∙ cycles_same _ _

-- the expanded instrument, typed with these lists
abbrev made_by : List Definition → Shared → Instrument → typed.Instrument
made_by ds g i = record {
  line = i.line;
  numbers = i.numbers;
  body = block_by g (numbered g spelled) (expanded_instrument ds i).body;
}

is_made : (ds : List Definition) (g : Shared) (i : Instrument)
    → IsNumberedInstrument g (expanded_instrument ds i) (made_by ds g i)
is_made ds g i = record {
  line = refl;
  numbers = refl;
  body = record { number = spelled; apart = spelled_tells; is = refl };
}

pub any_numbers : (W : Type 0) (to : Res → Res) (g h : Shared) → LeadsTo to h g
    → (ds : List Definition) (i : Instrument) → WellFormedInstrument i
    → (o : World W) (spaces : Spaces) (own : Numbering) → Tells own → (cycles : List (Cycle W)) (x : W)
    → life_with_frames (reading (renumbered to o) spaces h own) ds i (map (renumbered_cycle to) cycles) x
    ≡ life_with_frames (reading o spaces g own) ds i cycles x
any_numbers W to g h lead ds i well o spaces own tells cycles x =
    let here = instrument_means W ds g i (made_by ds g i) well (is_made ds g i) in
    let there = instrument_means W ds h i (made_by ds h i) well (is_made ds h i) in
    sym (there.lived (renumbered to o) spaces own tells (map (renumbered_cycle to) cycles) x)
    ∙ sym (lives_same to g h lead spelled spaces (expanded_instrument ds i).body o cycles x)
    ∙ here.lived o spaces own tells cycles x
