-- Each part of the expanded text that keeps values leads to a part of the original text, together with all
-- parts inside it.
use Rattle.std.proofs.Common.{◌≡◌, ◌∙◌, ℕ, suc, ◌+◌, ◌≤◌, pos, Bool, true, false, List, ◌∷◌, Option, Some, arith, sym}
use Rattle.std.proofs.Common.{[], ap, subst, length, add-one}
use Rattle.std.specs.Str.{bytes_eq}
use Rattle.cs_grammar.specs.{declared.tree.Callee.Callee, Tree.otherwise, Tree.arm, Tree.Definition}
use Rattle.cs_grammar.specs.Tree.{Argument, value, Statement, set, call, choose, Block, no_stmt, andthen, joins, Arms}
use Rattle.cs_typing.specs.Known.{Shared}
use Rattle.cs_ir.specs.{Waves.silence, Worlds.World}
use Rattle.cs_meaning.specs.Notes.{Path, StatementPlace, next, past_stmt}
use Rattle.cs_udo.specs.Expanded.{Template, Opcodes, called, alone, after, after_block, expanded, expanded_block}
use Rattle.cs_udo.specs.Expanded.{expanded_arms, whole_body, template, defining, defining_all, no_opcodes}
use Rattle.cs_udo_meaning.specs.Frames.{Reading, Action, Actions, values_in, typed_keepers, typed_keepers_of_block}
use Rattle.cs_udo_meaning.specs.Frames.{typed_keepers_of_arms, action, acting, acting_all, block_done, frames_of_block}
use Rattle.cs_udo_meaning.specs.{Frames.units_of_block, Frames.no_actions, Lives.reading, Stands.own_name, Stands.Fits}
use Rattle.cs_udo_meaning.specs.Numbered.{spelled, Variables, numbered, statement_by, block_by, arms_by}
use Rattle.cs_udo_meaning.proofs.{Alike.place, Laid.Holds, Laid.LaysOn, Laid.lays_on, Standing.Follows}
use Rattle.cs_udo_meaning.proofs.Expanding.{Texts, Led, AllLed, fits_inner, inner_name, flat_block, flat_stmt}
use Rattle.cs_udo_meaning.proofs.Expanding.{past_text, text_done, Stand, copies_of, copies_lay, Acts, ActsIf, Act}
use Rattle.cs_udo_meaning.proofs.Expanding.{acts_called, called_is, at_least, block_at_least, stmt_lays, block_lays}
use Rattle.cs_udo_meaning.proofs.Expanding.{condition_lays, arm_lays, block_unit, block_stands}
use Rattle.cs_udo_meaning.proofs.Paths.{inward, inward_twice, Each, each_joined, each_first, each_rest}
use Rattle.cs_udo_meaning.proofs.Ways.{Leads, nowhere, copies_lead, Pair, PairIf, neither, both, AllPair, called_pair}
use Rattle.cs_udo_meaning.proofs.Ways.{call_leads, stmt_leads, block_leads, arms_lead, template_pair, with_pair}
use Rattle.cs_udo_meaning.proofs.Ways.{defining_pairs, all_pair, nothing_pairs}
use Rattle.cs_typing.proofs.Named.{any_block}
use Rattle.cs_udo.specs.Names.{in_frame}
use Rattle.cs_grammar.specs.declared.tree.Callee.TheVariants as callee
use Rattle.cs_meaning.specs.Core as core

-- Places don't depend on the world, so a text is read in a world in which nothing happens.
abbrev still : {W : Type 0} → World W
still = record {
  ksmps = 1;
  field = λ k. pos 0;
  head = λ h. pos 0;
  load = λ g x. silence;
  save = λ g w x. x;
  start = λ opcode r u is x. x;
  does = λ opcode r u reach xs x. (x, silence);
  seek = λ is x. x;
  store = λ r reach es x. x;
  zak = λ opcode reach xs x. (x, silence);
  out = λ c w x. x;
  out_at = λ k w x. x;
  turnoff = λ x. x;
  ask = λ es x. x;
  refused = λ x. false;
}

abbrev pub read_still : {W : Type 0} → Shared → Reading W
read_still g = reading still (record { control = 0; audio = 0 }) g spelled

module _ {W : Type 0} (texts : Texts W) where
  open texts use {reading as m, flat, way}

  abbrev v : Variables
  v = numbered m.shared flat

  abbrev behind_text : StatementPlace → Block → StatementPlace
  behind_text p b = past_text texts p (flat_block texts b)

  led_of : (p q : Path) → Follows way p q → Led texts p
  led_of p q h y = (inward (inward y []) q, ap way.part (sym (inward_twice y [] p)) ∙ h (inward y []))

  one_led : (p : Path) (x : Statement) → Each (Led texts) (typed_keepers p (statement_by m.shared v x))
      → AllLed texts p (alone x)
  one_led p x h = each_joined (Led texts) (typed_keepers p (statement_by m.shared v x)) [] h tt

  joins_led : (p : StatementPlace) (a b : Block) → AllLed texts p.path a → AllLed texts (behind_text p a).path b
      → AllLed texts p.path (joins a b)
  joins_led p no_stmt b h k = k
  joins_led p (andthen x rest) b h k =
      each_joined _ _ _ (each_first _ _ _ h) (joins_led (past_stmt p (flat_stmt texts x)) rest b (each_rest _ _ _ h) k)

  abbrev copies : ℕ → ℕ → ℕ → List (List ℕ) → List Argument → Block
  copies line f g xs args = copies_of texts line f g xs args

  copies_led : (line f g : ℕ) (p q : Path) (xs : List (List ℕ)) (args : List Argument) (l : Leads)
      → LaysOn way p (copies_lead q xs args l) → AllLed texts p (copies line f g xs args)
  copies_led line f g p q (x ∷ xs) (value e ∷ args) l lay = (
    led_of (0 ∷ p) q (λ y. lay 0 (0 ∷ y)),
    copies_led line f g (next p) (next q) xs args l (λ k y. lay (suc k) y),
  )
  copies_led line f g p q _ _ l lay = tt

  -- ---- a call

  call_led : (f n line : ℕ) (p : StatementPlace) (q : Path) (xs : List (List ℕ)) (c : Callee) (args : List Argument)
      (t : Template) (a : Action W) (k : Pair t a) (l : Leads)
      → 1 ≤ n → Acts texts t a k → LaysOn way p.path (call_leads (both t a k) q xs args l)
      → AllLed texts p.path (called (own_name f) n line xs c args (Some t))
  call_led f n line p q xs c args t a k l h acts lay =
      let given_values = values_in a.results in
      let one = copies line f n a.inputs args in
      let two = copies line n f xs given_values in
      let last = copies_lead (0 ∷ 2 ∷ q) xs given_values l in
      let ready = behind_text p one in
      let lay1 = copies_lay texts line f n p (0 ∷ 0 ∷ q) a.inputs args (k.leads q last) lay in
      let lay2 = acts.lays n h ready q last lay1 in
      subst (AllLed texts p.path) (sym (called_is texts _ _ _ _ c _ _ _ h k))
      (joins_led p one (joins (t.block n) two) (copies_led line f n _ (0 ∷ 0 ∷ q) a.inputs args (k.leads q last) lay)
      (joins_led ready (t.block n) two (acts.led n h ready q last lay1)
      (copies_led line n f _ (0 ∷ 2 ∷ q) xs given_values l lay2)))

  plain_led : (line : ℕ) (p q : Path) (xs : List (List ℕ)) (c : Callee) (args : List Argument) → Follows way p q
      → AllLed texts p (alone (call line xs c args))
  plain_led line p q xs (callee.Opcode o) args h = (led_of p q h, tt)
  plain_led line p q xs (callee.Name name) args h = tt

  any_led : (f n line : ℕ) (p : StatementPlace) (q : Path) (xs : List (List ℕ)) (c : Callee) (args : List Argument)
      {t : Option Template} {a : Option (Action W)} (k : PairIf t a) (l : Leads) → 1 ≤ n → ActsIf texts k
      → LaysOn way p.path (call_leads k q xs args l) → AllLed texts p.path (called (own_name f) n line xs c args t)
  any_led f n line p q xs c args neither l h acts lay = plain_led line p.path q _ c _ (λ y. lay 0 y)
  any_led f n line p q xs c args (both t a k) l h acts lay = call_led f n line p q xs c args t a k l h acts lay

  -- ---- statements, in the order of the text

  module _ (opcodes : Opcodes) (env : Actions W) (k : AllPair opcodes env)
      (g : Act texts opcodes env k) (f : ℕ) where
    mutual
      stmt_led : (n : ℕ) → 1 ≤ n → (p : StatementPlace) (q : Path) (x : Statement) (l : Leads)
          → LaysOn way p.path (stmt_leads opcodes env k q x l) → AllLed texts p.path (expanded opcodes (own_name f) n x)
      stmt_led n h p q (set line x e) l lay = (led_of (0 ∷ p.path) (0 ∷ q) (λ y. lay 0 (0 ∷ y)), tt)
      stmt_led n h p q (call line xs c args) l lay =
          any_led f n line p q xs c args (called_pair opcodes env k c) l h (acts_called texts opcodes env k g c) lay
      stmt_led n h p q (choose line list) l lay =
          one_led p.path (choose line (expanded_arms opcodes (own_name f) n list))
          (arms_led n h (0 ∷ p.path) _ list (lays_on way p.path _ (λ y. lay 0 y)))

      pub block_led : (n : ℕ) → 1 ≤ n → (p : StatementPlace) (q : Path) (b : Block) (l : Leads)
          → LaysOn way p.path (block_leads opcodes env k q b l)
          → AllLed texts p.path (expanded_block opcodes (own_name f) n b)
      block_led n h p q no_stmt l lay = tt
      block_led n h p q (andthen x rest) l lay =
          let i = after opcodes n x in
          let first = expanded opcodes (own_name f) n x in
          let more = block_leads opcodes env k (next q) rest l in
          joins_led p first (expanded_block opcodes (own_name f) i rest) (stmt_led n h p q x more lay)
          (block_led i (at_least texts opcodes env k g f n x h) (behind_text p first) (next q) rest l
          (stmt_lays texts opcodes env k g f n h p q x more lay))

      arms_led : (n : ℕ) → 1 ≤ n → (p q : Path) (list : Arms) → LaysOn way p (arms_lead opcodes env k q list)
          → Each (Led texts) (typed_keepers_of_arms p (arms_by m.shared v (expanded_arms opcodes (own_name f) n list)))
      arms_led n h p q (otherwise b) lay = block_led n h (place (0 ∷ p) 0) (0 ∷ q) b nowhere
          (lays_on way p (block_leads opcodes env k (0 ∷ q) b nowhere) (λ y. lay 0 y))
      arms_led n h p q (arm c b rest) lay =
          let i = after_block opcodes n b in
          let more = arms_lead opcodes env k (next q) rest in
          let body = block_by m.shared v (expanded_block opcodes (own_name f) n b) in
          let others = arms_by m.shared v (expanded_arms opcodes (own_name f) i rest) in
          each_joined (Led texts) ((0 ∷ p) ∷ typed_keepers_of_block (0 ∷ 1 ∷ p) body)
          (typed_keepers_of_arms (next p) others) (
            led_of (0 ∷ p) (0 ∷ q) (condition_lays texts opcodes env k g f p q b more lay),
            block_led n h (place (0 ∷ 1 ∷ p) 0) (0 ∷ 1 ∷ q) b nowhere
                (arm_lays texts opcodes env k g f p q b more lay),
          ) (arms_led i (block_at_least texts opcodes env k g f n b h) (next p) (next q) rest (λ j y. lay (suc j) y))

  -- ---- definitions

  template_acts : (opcodes : Opcodes) (env : Actions W) (k : AllPair opcodes env) → Act texts opcodes env k
      → (d : Definition) → Acts texts (template opcodes d) (action env d) (template_pair opcodes env k d)
  template_acts opcodes env k g d = record {
    units = λ n h p. named_as n h (λ own. (past_text texts p (body_by n own)).unit
        ≡ p.unit + length (units_of_block m env p.unit whole))
        (block_unit texts opcodes env k g n (n + 1) (more n) p whole (any_block (Fits n) (fits_inner n h) whole));
    lays = λ n h p q l lay. named_as n h (λ own. LaysOn way (past_text texts p (body_by n own)).path l)
        (block_lays texts opcodes env k g n (n + 1) (more n) p (0 ∷ 1 ∷ q) whole l lay);
    led = λ n h p q l lay. named_as n h (λ own. AllLed texts p.path (expanded_block opcodes own (n + 1) whole))
        (block_led opcodes env k g n (n + 1) (more n) p (0 ∷ 1 ∷ q) whole l lay);
    does = λ w n h p q l lay at hold s u stand. named_as n h (λ own. Stand texts (text_done texts w p (body_by n own) s)
        (block_done m env w q (place (0 ∷ 1 ∷ q) p.unit) whole u))
        (block_stands texts opcodes env k g n q at w (n + 1) (more n) p (0 ∷ 1 ∷ q) whole l lay
        (subst (λ i. Holds way i (frames_of_block env (0 ∷ 1 ∷ q) whole)) (sym (add-one n)) hold)
        (any_block (Fits n) (fits_inner n h) whole) s u stand);
  }
    where
      whole : Block
      whole = whole_body d

      body_by : ℕ → (List ℕ → List ℕ) → core.Block
      body_by n own = flat_block texts (expanded_block opcodes own (n + 1) (whole_body d))

      more : (n : ℕ) → 1 ≤ n + 1
      more n = omega arith

      named_as : (n : ℕ) → 1 ≤ n → (P : (List ℕ → List ℕ) → Type 0) → P (own_name n) → P (in_frame n)
      named_as n h P p = subst P (inner_name n h) p

  with_acts : (opcodes : Opcodes) (env : Actions W) (k : AllPair opcodes env) → Act texts opcodes env k
      → (d : Definition) {t : Option Template} {a : Option (Action W)} (h : PairIf t a) → ActsIf texts h → (b : Bool)
      → ActsIf texts (with_pair opcodes env k d h b)
  with_acts opcodes env k g d neither acts true = template_acts opcodes env k g d
  with_acts opcodes env k g d neither acts false = tt
  with_acts opcodes env k g d (both t a h) acts b = acts

  all_act : (opcodes : Opcodes) (env : Actions W) (k : AllPair opcodes env) → Act texts opcodes env k
      → (ds : List Definition) → Act texts (defining_all opcodes ds) (acting_all env ds) (all_pair opcodes env k ds)
  all_act opcodes env k g [] = g
  all_act opcodes env k g (d ∷ ds) =
      all_act (defining opcodes d) (acting env d) (defining_pairs opcodes env k d)
      (record { each = λ name. with_acts opcodes env k g d (k.each name) (g.each name) (bytes_eq name d.name) }) ds

  pub opcodes_act : (ds : List Definition) → Act texts (defining_all no_opcodes ds) (acting_all no_actions ds)
      (all_pair no_opcodes no_actions nothing_pairs ds)
  opcodes_act ds = all_act no_opcodes no_actions nothing_pairs (record { each = λ name. tt }) ds
