-- A note that corresponds to a note with frames: the effect of a frame's statement on both.
use Rattle.std.proofs.lemmas.{Grind.common_steps, Bool.and_parts, Bool.Decides.nat_tests, Slice.Eq.bytes_eq-Decides}
use Rattle.std.proofs.Common.{◌≡◌, ◌∙◌, ℕ, ℤ, ◌==◌, Bool, true, false, if◌then◌else◌, List, ◌∷◌, map, Option, Some, []}
use Rattle.std.proofs.Common.{None, arith, refl, sym, ap, subst}
use Rattle.std.specs.Str.{bytes_eq as same_path}
use Rattle.cs_base.proofs.Tests.{some_is}
use Rattle.cs_base.specs.{declared.resource.Rate.Rate, declared.resource.Res.Res, declared.spaces.Spaces.Spaces}
use Rattle.cs_words.specs.{Catalogue.row_of, Names.name_rate, Names.is_global}
use Rattle.cs_grammar.specs.{declared.tree.Callee.Callee, Tree.set, Tree.call}
use Rattle.cs_grammar.specs.Tree.{Expression, number, var, field, head, neg, pair, pick, apply, Argument, value, text}
use Rattle.cs_typed.specs.declared.tree.Var.{Var as Variable}
use Rattle.cs_typed.specs.declared.tree.Var.TheVariants.{Local, Global}
use Rattle.cs_typing.specs.{Calls.channel_use, Expressions.rate_of, declared.known.Channel.Channel}
use Rattle.cs_typing.specs.Known.{Shared, place_in, global, channel_of}
use Rattle.cs_ir.proofs.RegisterKinds.{kind_is, local_rate, same_reg_here}
use Rattle.cs_ir.specs.{Machine.same_reg, Machine.put, Waves.Wave, Waves.held, Worlds.World}
use Rattle.cs_meaning.specs.{Core.core_stmt, Initialising.put_kept}
use Rattle.cs_meaning.specs.Notes.{Note, Path, reg, look, assign}
use Rattle.cs_udo_meaning.specs.{Frames.Framed, Frames.seen_from, Frames.put_back, Numbered.statement_by}
use Rattle.cs_udo_meaning.specs.Numbered.{Numbering, Tells, Variables, numbered, expression_by, arguments_by}
use Rattle.cs_udo_meaning.specs.Stands.{own_name, Fits, Way, IsClear, StandsForFrames}
use Rattle.cs_udo_meaning.proofs.Alike.{Alike, alike_number, alike_var, alike_field, alike_head, alike_neg, alike_pair}
use Rattle.cs_udo_meaning.proofs.Alike.{alike_pick, alike_apply, AlikeVariables, no_variable, more_variables}
use Rattle.cs_udo_meaning.proofs.Alike.{AlikeArguments, no_argument, more_values, more_texts, AlikeStmt, alike_set}
use Rattle.cs_udo_meaning.proofs.{Alike.alike_empty, Alike.core_alike, Alike.Agree, Paths.inward}
use Rattle.cs_udo_meaning.proofs.Fresh.{own_shared, own_rate, own_local, own_apart}
use Rattle.cs_typing.proofs.Named.{Named, NamedAll, NamedArguments}
use Rattle.cs_base.specs.declared.resource.Rate.TheVariants as rate
use Rattle.cs_grammar.specs.declared.tree.Callee.TheVariants as callee
use Rattle.cs_typing.specs.declared.known.Channel.TheVariants as channel

equal_tests : (i j : ℕ) → (i == j) ≡ true → i ≡ j
equal_tests i j h = grind (arith, nat_tests)

same_paths : (p q : Path) → same_path p q ≡ true → p ≡ q
same_paths p q h = (bytes_eq-Decides p q).0 h

path_here : (p : Path) → same_path p p ≡ true
path_here p = (bytes_eq-Decides p p).1 refl

same_truth : (b c : Bool) → (b ≡ true → c ≡ true) → (c ≡ true → b ≡ true) → b ≡ c
same_truth true c p q = sym (p refl)
same_truth false true p q = q refl
same_truth false false p q = refl

same_local_is : (r s : Rate) (n m : ℕ) → same_reg (reg r n) (reg s m) ≡ true → (r ≡ s) × (n ≡ m)
same_local_is r s n m h = grind (arith, common_steps, and_parts, equal_tests, kind_is, local_rate)

same_local_here : (r s : Rate) (n m : ℕ) → r ≡ s → n ≡ m → same_reg (reg r n) (reg s m) ≡ true
same_local_here r s n m e f =
    ap (λ q. same_reg (reg q n) (reg s m)) e ∙ ap (λ k. same_reg (reg s k) (reg s m)) f ∙ same_reg_here (reg s m)

-- ---- variables of a frame

pub data SameVariable (flat own : Numbering) (f : ℕ) : Variable → Variable → Type 0 where
  both_shared : (g : Res) → SameVariable flat own f (Global g) (Global g)
  both_own : (x : List ℕ) → is_global x ≡ false → Fits f x
      → SameVariable flat own f (Local (name_rate x) (flat (own_name f x))) (Local (name_rate x) (own x))

numbered_shared : (g : Shared) (s : Numbering) (x : List ℕ) → is_global x ≡ true
    → numbered g s x ≡ Global (global (name_rate x) (place_in g.globals x))
numbered_shared g s x e =
    ap (λ b. if b then Global (global (name_rate x) (place_in g.globals x)) else Local (name_rate x) (s x)) e

numbered_own : (g : Shared) (s : Numbering) (x : List ℕ) → is_global x ≡ false
    → numbered g s x ≡ Local (name_rate x) (s x)
numbered_own g s x e = ap
    (λ b. if b then Global (global (name_rate x) (place_in g.globals x)) else Local (name_rate x) (s x)) e

pub variable_alike : (g : Shared) (flat own : Numbering) (f : ℕ) (x : List ℕ) → Fits f x
    → SameVariable flat own f (numbered g flat (own_name f x)) (numbered g own x)
variable_alike g flat own f x fits = by (is_global x) refl
  where
    by : (b : Bool) → is_global x ≡ b → SameVariable flat own f (numbered g flat (own_name f x)) (numbered g own x)
    by true e =
        let there = Global (global (name_rate x) (place_in g.globals x)) in
        subst (λ v. SameVariable flat own f v (numbered g own x))
        (sym (ap (numbered g flat) (own_shared f x e) ∙ numbered_shared g flat x e))
        (subst (λ w. SameVariable flat own f there w) (sym (numbered_shared g own x e)) (both_shared _))
    by false e =
        let y = own_name f x in
        let there : numbered g flat y ≡ Local (name_rate x) (flat y) =
        numbered_own g flat y (own_local f x ∙ e) ∙ ap (λ r. Local r (flat y)) (own_rate f x) in
        subst (λ v. SameVariable flat own f v (numbered g own x)) (sym there)
        (subst (λ w. SameVariable flat own f (Local (name_rate x) (flat y)) w) (sym (numbered_own g own x e))
        (both_own x e fits))

-- ---- the typed forms with these variables

pub channel_alike : (V : Variable → Variable → Type 0) → ((g : Res) → V (Global g) (Global g))
    → (g : Shared) (kind : Channel) (t : List ℕ) → V (channel_of g kind t) (channel_of g kind t)
channel_alike V k g channel.Control t = k _
channel_alike V k g channel.Sound t = k _

module _ {V : Variable → Variable → Type 0} {P : List ℕ → Type 0} (v w : Variables)
    (h : (x : List ℕ) → P x → V (v x) (w x)) where
  pub expression_alike : (e : Expression) → Named P e → Alike V (expression_by v e) (expression_by w e)
  expression_alike (number z) n = alike_number rate.Init z
  expression_alike (var x) n = alike_var (name_rate x) (v x) (w x) (h x n)
  expression_alike (field j) n = alike_field rate.Init j
  expression_alike (head q) n = alike_head rate.Init q
  expression_alike (neg a) n = alike_neg (rate_of (neg a)) _ _ (expression_alike a n)
  expression_alike (pair o a b) n = alike_pair _ _ _ _ _ _ (expression_alike a n.0) (expression_alike b n.1)
  expression_alike (pick c a b) n =
      alike_pick (rate_of (pick c a b)) _ _ _ _ _ _ (expression_alike c n.0) (expression_alike a n.1)
      (expression_alike b n.2)
  expression_alike (apply f a) n = alike_apply (rate_of (apply f a)) f _ _ (expression_alike a n)

  results_alike : (xs : List (List ℕ)) → NamedAll P xs → AlikeVariables V (map v xs) (map w xs)
  results_alike [] n = no_variable
  results_alike (x ∷ xs) n = more_variables (v x) (w x) (map v xs) (map w xs) (h x n.0) (results_alike xs n.1)

  -- two lists of shared names, which determine the numbers of channels
  module _ (g q : Shared) (k : (kind : Channel) (t : List ℕ) → V (channel_of g kind t) (channel_of q kind t)) where
    arguments_alike : (role : Option Channel) (args : List Argument) → NamedArguments P args
        → AlikeArguments V (arguments_by g v role args) (arguments_by q w role args)
    arguments_alike role [] n = no_argument
    arguments_alike role (value e ∷ args) n =
        more_values _ _ _ _ (expression_alike e n.0) (arguments_alike role args n.1)
    arguments_alike None (text t ∷ args) n = arguments_alike None args n
    arguments_alike (Some kind) (text t ∷ args) n = more_texts _ _ _ _ (k kind t) (arguments_alike (Some kind) args n)

    pub set_alike : (spaces : Spaces) (line : ℕ) (x : List ℕ) (e : Expression) → P x → Named P e
        → AlikeStmt V (core_stmt spaces (statement_by g v (set line x e)))
        (core_stmt spaces (statement_by q w (set line x e)))
    set_alike spaces line x e n m = alike_set (name_rate x) (v x) (w x) _ _ (h x n) (expression_alike e m)

    pub call_alike : (spaces : Spaces) (line : ℕ) (xs : List (List ℕ)) (c : Callee) (args : List Argument)
        → NamedAll P xs → NamedArguments P args
        → AlikeStmt V (core_stmt spaces (statement_by g v (call line xs c args)))
        (core_stmt spaces (statement_by q w (call line xs c args)))
    call_alike spaces line xs (callee.Name name) args n m = alike_empty rate.Init
    call_alike spaces line xs (callee.Opcode o) args n m =
        core_alike _ _ _ _ (results_alike _ n) (arguments_alike (channel_use (row_of o).shape xs args) args m)

-- ---- a note, and the note as a frame sees it

-- a part of the expanded text leads to a part of the original text, and so do the parts inside it
abbrev pub Follows : Way → Path → Path → Type 0
Follows way p q = (y : Path) → way.part (inward y p) ≡ Some (inward y q)

-- the note as the frame with number f sees it, whose call is at path p
pub record Seen {W : Type 0} (way : Way) (flat own : Numbering) (f : ℕ) (p : Path) (u : Framed W) (t s : Note W)
    : Type 0 where
  pub mine : (x : List ℕ) → is_global x ≡ false → Fits f x
      → t.locals (reg (name_rate x) (flat (own_name f x))) ≡ s.locals (reg (name_rate x) (own x))
  pub others : (g : ℕ) (q : Path) → way.frame g ≡ Some q → same_path q p ≡ false → (x : List ℕ) → is_global x ≡ false
      → Fits g x → t.locals (reg (name_rate x) (flat (own_name g x))) ≡ u.frames q (reg (name_rate x) (own x))
  pub kept : (a b : Path) → way.part a ≡ Some b → t.kept a ≡ s.kept b
  pub world : t.world ≡ s.world

pub to_seen : {W : Type 0} (way : Way) (flat own : Numbering) (f : ℕ) (p : Path) → way.frame f ≡ Some p
    → (t : Note W) (u : Framed W) → StandsForFrames way flat own t u → Seen way flat own f p u t (seen_from p u)
to_seen way flat own f p at t u h = record {
  mine = h.locals f p at;
  others = λ g q there apart. h.locals g q there;
  kept = h.kept;
  world = h.world;
}

pub from_seen : {W : Type 0} (way : Way) → IsClear way → (flat own : Numbering) (f : ℕ) (p : Path)
    → way.frame f ≡ Some p
    → (t s : Note W) (u : Framed W) → Seen way flat own f p u t s → StandsForFrames way flat own t (put_back p s u)
from_seen {W} way clear flat own f p at t s u h = record { locals = each; kept = h.kept; world = h.world }
  where
    each : (g : ℕ) (q : Path) → way.frame g ≡ Some q → (x : List ℕ) → is_global x ≡ false → Fits g x
        → t.locals (reg (name_rate x) (flat (own_name g x)))
        ≡ (if same_path q p then s.locals else u.frames q) (reg (name_rate x) (own x))
    each g q there x e fits = by (same_path q p) refl
      where
        by : (b : Bool) → same_path q p ≡ b
            → t.locals (reg (name_rate x) (flat (own_name g x))) ≡ (if b then s.locals else u.frames q)
            (reg (name_rate x) (own x))
        by true same =
            let one : g ≡ f = clear.frames g f q there (at ∙ ap (λ z. Some z) (sym (same_paths q p same))) in
            ap (λ n. t.locals (reg (name_rate x) (flat (own_name n x)))) one ∙ h.mine x e (λ k. fits (one ∙ k))
        by false other = h.others g q there other x e fits

module _ {W : Type 0} (o : World W) (way : Way) (clear : IsClear way) (flat own : Numbering) (tf : Tells flat)
    (to : Tells own) (f : ℕ) (p : Path) (at : way.frame f ≡ Some p) (u : Framed W) where
  abbrev View : Note W → Note W → Type 0
  View t s = Seen way flat own f p u t s

  mine_put : (t s : Note W) → View t s → (x y : List ℕ) → is_global x ≡ false → is_global y ≡ false → Fits f x
      → Fits f y → (a : Wave)
      → put t.locals (reg (name_rate x) (flat (own_name f x))) a (reg (name_rate y) (flat (own_name f y)))
      ≡ put s.locals (reg (name_rate x) (own x)) a (reg (name_rate y) (own y))
  mine_put t s h x y ex ey fx fy a =
      λ i. if same_truth _ _ there back i then a else h.mine y ey fy i
    where
      there : same_reg (reg (name_rate y) (flat (own_name f y))) (reg (name_rate x) (flat (own_name f x))) ≡ true
          → same_reg (reg (name_rate y) (own y)) (reg (name_rate x) (own x)) ≡ true
      there e =
          let k = same_local_is (name_rate y) (name_rate x) (flat (own_name f y)) (flat (own_name f x)) e in
          let names = tf (own_name f y) (own_name f x) (own_rate f y ∙ k.0 ∙ sym (own_rate f x)) k.1 in
          let one = (own_apart f f y x ey ex fy fx names).1 in
          same_local_here (name_rate y) (name_rate x) (own y) (own x) k.0 (ap own one)

      back : same_reg (reg (name_rate y) (own y)) (reg (name_rate x) (own x)) ≡ true
          → same_reg (reg (name_rate y) (flat (own_name f y))) (reg (name_rate x) (flat (own_name f x))) ≡ true
      back e =
          let k = same_local_is _ _ _ _ e in
          let one = to y x k.0 k.1 in
          same_local_here _ _ _ _ k.0 (ap (λ z. flat (own_name f z)) one)

  others_put : (t s : Note W) → View t s → (x : List ℕ) → is_global x ≡ false → Fits f x → (a : Wave) (g : ℕ) (q : Path)
      → way.frame g ≡ Some q → same_path q p ≡ false → (y : List ℕ) → is_global y ≡ false → Fits g y
      → put t.locals (reg (name_rate x) (flat (own_name f x))) a (reg (name_rate y) (flat (own_name g y)))
      ≡ u.frames q (reg (name_rate y) (own y))
  others_put t s h x ex fx a g q there apart y ey fy = by b refl
    where
      b : Bool
      b = same_reg (reg (name_rate y) (flat (own_name g y))) (reg (name_rate x) (flat (own_name f x)))

      by : (c : Bool) → b ≡ c → (if c then a else t.locals (reg (name_rate y) (flat (own_name g y)))) ≡ u.frames q
          (reg (name_rate y) (own y))
      by true e =
          let k = same_local_is (name_rate y) (name_rate x) (flat (own_name g y)) (flat (own_name f x)) e in
          let names = tf (own_name g y) (own_name f x) (own_rate g y ∙ k.0 ∙ sym (own_rate f x)) k.1 in
          let one = (own_apart g f y x ey ex fy fx names).0 in
          let same : q ≡ p = some_is q p (sym there ∙ ap way.frame one ∙ at) in
          let never : false ≡ true = sym apart ∙ ap (λ z. same_path z p) same ∙ path_here p in absurd (cc never)
      by false e = h.others g q there apart y ey fy

  assigned : (t s : Note W) → View t s → (v w : Variable) → SameVariable flat own f v w → (a : Wave)
      → View (assign o v a t) (assign o w a s)
  assigned t s h _ _ (both_shared g) a = grind (arith, common_steps)
  assigned t s h _ _ (both_own x e fits) a = record {
    mine = λ y ey fy. mine_put t s h x y e ey fits fy (held o.ksmps (name_rate x) a);
    others = λ g q there apart y ey fy.
        others_put t s h x e fits (held o.ksmps (name_rate x) a) g q there apart y ey fy;
    kept = h.kept;
    world = h.world;
  }

  looked : (t s : Note W) → View t s → (r : Rate) (v w : Variable) → SameVariable flat own f v w
      → look o t r v ≡ look o s r w
  looked t s h r _ _ (both_shared g) = ap (λ x. held o.ksmps r (o.load g x)) h.world
  looked t s h r _ _ (both_own x e fits) = h.mine x e fits

  keeps : (t s : Note W) → View t s → (a b : Path) → Follows way a b → (z : ℤ) → View (put_kept a z t) (put_kept b z s)
  keeps t s h a b leads z = record {
    mine = h.mine;
    others = h.others;
    kept = λ c d e.
        let same = same_truth (same_path c a) (same_path d b) (there c d e) (back c d e) in
        λ i. if same i then z else h.kept c d e i;
    world = h.world;
  }
    where
      there : (c d : Path) → way.part c ≡ Some d → same_path c a ≡ true → same_path d b ≡ true
      there c d e k =
          let one : d ≡ b = some_is d b (sym e ∙ ap way.part (same_paths c a k) ∙ leads []) in
          ap (λ x. same_path x b) one ∙ path_here b

      back : (c d : Path) → way.part c ≡ Some d → same_path d b ≡ true → same_path c a ≡ true
      back c d e k =
          let one : c ≡ a = clear.parts c a b (e ∙ ap (λ x. Some x) (same_paths d b k)) (leads []) in
          ap (λ x. same_path x a) one ∙ path_here a

  pub seen_agree : Agree o o (SameVariable flat own f) (Follows way) (Seen way flat own f p u)
  seen_agree = record {
    parts = λ a b leads k y. leads (k ∷ y);
    kept = λ t s h a b leads. h.kept a b (leads []);
    world = λ t s h. h.world;
    looks = looked;
    assigns = assigned;
    keeps = keeps;
    moves = λ t s h x. record { mine = h.mine; others = h.others; kept = h.kept; world = refl };
  }
