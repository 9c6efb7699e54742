-- Facts about each op of the code that begins a note.
use Rattle.std.proofs.Common.{◌≡◌, ℕ, zero, suc, ◌+◌, ◌<◌, Bool, true, false, List, [], ◌∷◌, length, nat_lt}
use Rattle.std.proofs.Common.{nat_le, slice_get, Some, if◌then◌else◌, sym, ◌∙◌, ap, subst, arith}
use Rattle.std.specs.List.{AllByRecursion}
use Rattle.std.proofs.lemmas.{Bool.and_parts, Bool.Decides.nat_tests}
use Rattle.cs_ir.specs.{Registers.rate_at, Validity.is_fine, Validity.valid, declared.op.Act.Act, declared.op.Code.Code}
use Rattle.cs_ir.specs.{declared.op.Op.Op, declared.register.Counts.Counts}
use Rattle.cs_ir.specs.Resources.{Stock, act_uses, act_writes, writes_places, zak_uses}
use Rattle.cs_ir.proofs.Fine.{fine_at}
use Rattle.cs_base.proofs.Tests.{some_is}
use Rattle.cs_base.specs.{declared.resource.Rate.Rate, declared.resource.Res.Res}
use Rattle.cs_words.specs.Catalogue.{row_of}
use Rattle.cs_cells.specs.{Access.Access, Access.AllowsBelow, Areas.IsLaid, Areas.word_count, Cells.in_area}
use Rattle.cs_cells.specs.declared.footprint.Area.{Area}
use Rattle.cs_cells.proofs.Laid.{area_within}
use Rattle.cs_voice_meaning.specs.{Placing.HasArea, Follows.ActNamed, Follows.AreNamed, Follows.Kinds}
use Rattle.cs_voice_meaning.specs.Voices.{Sheet, IsPlayable, has_channel}
use Rattle.cs_voice_meaning.proofs.Placed.{area_at}
use Rattle.cs_machine.proofs.Gathered.{each_read}
use Rattle.cs_machine.specs.States.{CanDo, MayTouch}
use Rattle.cs_voice.specs.Passing.{IsOpOf}
use Rattle.cs_ir.specs.declared.op.Act.TheVariants as act

-- what holds for all ops holds for one
pub all_at : (P : Op → Type 0) (ops : List Op) (n : ℕ) (op : Op) → AllByRecursion P ops → slice_get ops n ≡ Some op
    → P op
all_at P [] n op h e = absurd cc
all_at P (x ∷ ops) zero op h e = subst P (some_is x op e) h.0
all_at P (x ∷ ops) (suc n) op h e = all_at P ops n op h.1 e

-- an op of the code at its index
pub fine_here : (code : Code) (n : ℕ) (op : Op) → valid code ≡ true → slice_get code.ops n ≡ Some op
    → is_fine code.counts (length code.ops) n op ≡ true
fine_here code n op fine at =
    let here : 0 + n ≡ n = omega arith in
    subst (λ k. is_fine code.counts (length code.ops) k op ≡ true) here
    (fine_at code.counts (length code.ops) 0 code.ops n op fine at)

pub op_of : (s : Sheet) (code : Code) (counts : Counts) (n : ℕ) (op : Op) → IsPlayable s → s.init ≡ code.ops
    → valid code ≡ true → counts ≡ code.counts → slice_get code.ops n ≡ Some op → IsOpOf s counts op
op_of s code counts n op playable same fine counted at = record {
  end = length code.ops;
  place = n;
  fine = subst (λ c. is_fine c (length code.ops) n op ≡ true) (sym counted) (fine_here code n op fine at);
  named = λ p. all_at (λ x. ActNamed p.stock p.kinds (HasArea s.areas) x.act (rate_at x.into)) s.init n op p.init_uses
      (ap (λ ops. slice_get ops n) same ∙ at);
  channel = each_read (λ (x : Op). has_channel s.piece.head.nchnls x.act) s.init n op playable.init_channels
      (ap (λ ops. slice_get ops n) same ∙ at);
}

-- With a bank of all cells each op may be done.
module _ (allowed : ℕ → Type 0) (count : ℕ) (areas : List Area) (laid : IsLaid areas)
    (all : (a : ℕ) → a < word_count areas → allowed a) (there : (a : ℕ) → a < word_count areas → a < count) where
  inside : (area : Area) (a : ℕ) → in_area (Some area) a ≡ true → a < area.first + area.length
  inside area a e = let p = and_parts (nat_le area.first a) (nat_lt a (area.first + area.length)) e in below p.1
    where
      below : {n : ℕ} → nat_lt a n ≡ true → a < n
      below h = grind (arith, nat_tests)

  touched : (g : Res) → HasArea areas g → MayTouch allowed count areas g
  touched g has =
      let at = area_at areas g has.0 has.1 in
      let low = area_within areas at.0 has.0 laid at.1 in (
        has.0,
        has.1,
        record {
          can = λ a e. all a (let q = inside has.0 a e in omega arith);
          within = λ a e. there a (let q = inside has.0 a e in omega arith);
        },
      )

  pub all_touched : (gs : List Res) → AreNamed (HasArea areas) gs → AreNamed (MayTouch allowed count areas) gs
  all_touched [] h = tt
  all_touched (g ∷ gs) h = (touched g h.0, all_touched gs h.1)

named_uses : (areas : List Area) (stock : Stock) (kinds : Kinds) (t : Act) (r : Rate)
    → ActNamed stock kinds (HasArea areas) t r → AreNamed (HasArea areas) (act_uses stock t)
named_uses areas stock kinds (act.Load g) r h = (h, tt)
named_uses areas stock kinds (act.Save g) r h = (h.0, tt)
named_uses areas stock kinds (act.Unit o u reach) r h = h.1
named_uses areas stock kinds (act.Store reach) r h = h
named_uses areas stock kinds (act.Zak o reach) r h = h
named_uses areas stock kinds _ r h = tt

if_named : (N : Res → Type 0) (b : Bool) (gs : List Res) → AreNamed N gs → AreNamed N (if b then gs else [])
if_named N true gs h = h
if_named N false gs h = tt

named_writes : (areas : List Area) (stock : Stock) (kinds : Kinds) (t : Act) (r : Rate)
    → ActNamed stock kinds (HasArea areas) t r → AreNamed (HasArea areas) (act_writes stock t)
named_writes areas stock kinds (act.Save g) r h = (h.0, tt)
named_writes areas stock kinds (act.Store reach) r h = h
named_writes areas stock kinds (act.Zak o reach) r h =
    if_named (HasArea areas) (writes_places (row_of o).shape) (zak_uses stock o reach) h
named_writes areas stock kinds _ r h = tt

pub can_do : (access : Access) (areas : List Area) (stock : Stock) (kinds : Kinds) (t : Act) (r : Rate)
    → IsLaid areas → AllowsBelow access (word_count areas) → ActNamed stock kinds (HasArea areas) t r
    → CanDo access areas stock t
can_do access areas stock kinds t r laid bank named = record {
  uses = all_touched access.can_get access.count areas laid bank.get bank.there (act_uses stock t)
      (named_uses areas stock kinds t r named);
  writes = all_touched access.can_set access.count areas laid bank.set bank.there (act_writes stock t)
      (named_writes areas stock kinds t r named);
}
