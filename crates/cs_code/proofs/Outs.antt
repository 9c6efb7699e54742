-- Values that are output, one register after another.
use Rattle.std.proofs.Common.{◌≡◌, ◌∙◌, ◌+◌, ◌<◌, ◌++◌, ◌∷◌, [], ℕ, List, Option, Some, None, drop, get_or, length, ap}
use Rattle.std.proofs.Common.{option_to_list, subst, sym}
use Rattle.std.proofs.lemmas.List.{drop_more}
use Rattle.cs_ir.specs.{Drafts.Draft, Drafts.Grew, declared.op.Op.Op, declared.register.Reg.Reg}
use Rattle.cs_code.specs.{inner.Code.out_at_ops, inner.Code.out_ops, inner.Spots.op_of}
use Rattle.cs_code.proofs.Growing.{Leads, leads_on}
use Rattle.cs_ir.specs.declared.op.Act.TheVariants as act

pub out_more : (old here next : Draft) (n i : ℕ) (qs : List Reg) (d : Reg) (from : List Reg) (whole : List Op)
    → i < length qs → from ≡ get_or qs i d ∷ [] → Grew here next (op_of (act.Out n) (get_or qs i d) from ∷ [])
    → Leads old here (out_ops n (drop i qs)) whole → Leads old next (out_ops (n + 1) (drop (i + 1) qs)) whole
out_more old here next n i qs d from whole lt one grew was =
    leads_on old here next (op_of (act.Out n) (get_or qs i d) (get_or qs i d ∷ []) ∷ []) (out_ops n (drop i qs))
    (out_ops (n + 1) (drop (i + 1) qs)) whole was
    (subst (λ qs'. Grew here next (op_of (act.Out n) (get_or qs i d) qs' ∷ [])) one grew)
    (ap (out_ops n) (drop_more qs i d lt))

-- the number of a channel, and the value for it
module _ (old here there : Draft) (i : ℕ) (qs : List Reg) (d : Reg) (was now : Option Reg) (whole : List Op)
    (low : i < length qs) (leads : Leads old here (out_at_ops (option_to_list was ++ drop i qs)) whole) where
  pub out_at_number : was ≡ None → now ≡ Some (get_or qs i d) → there ≡ here
      → Leads old there (out_at_ops (option_to_list now ++ drop (i + 1) qs)) whole
  out_at_number none some same =
      subst (λ x. Leads old x (out_at_ops (option_to_list now ++ drop (i + 1) qs)) whole) (sym same)
      (subst (λ l. Leads old here (out_at_ops l) whole)
      (ap (λ o. option_to_list o ++ drop i qs) none ∙ drop_more qs i d low
      ∙ sym (ap (λ o. option_to_list o ++ drop (i + 1) qs) some)) leads)

  pub out_at_value : (next : Draft) (p : Reg) (from : List Reg) → was ≡ Some p → now ≡ None → there ≡ next
      → from ≡ p ∷ get_or qs i d ∷ [] → Grew here next (op_of act.OutAt (get_or qs i d) from ∷ [])
      → Leads old there (out_at_ops (option_to_list now ++ drop (i + 1) qs)) whole
  out_at_value next p from some none same both grew =
      let q : Reg = get_or qs i d in
      let rest : List Reg = drop (i + 1) qs in
      subst (λ x. Leads old x (out_at_ops (option_to_list now ++ rest)) whole) (sym same)
      (subst (λ o. Leads old next (out_at_ops (option_to_list o ++ rest)) whole) (sym none)
      (leads_on old here next (op_of act.OutAt q (p ∷ q ∷ []) ∷ []) (out_at_ops (option_to_list was ++ drop i qs))
      (out_at_ops rest) whole leads (subst (λ l. Grew here next (op_of act.OutAt q l ∷ [])) both grew)
      (ap out_at_ops (ap (λ o. option_to_list o ++ drop i qs) some ∙ ap (λ l. p ∷ l) (drop_more qs i d low)))))

-- a channel number without a value is left over
pub out_at_end : (o : Option Reg) (rest : List Reg) → rest ≡ [] → out_at_ops (option_to_list o ++ rest) ≡ []
out_at_end None rest none = ap out_at_ops none
out_at_end (Some q) rest none = ap (λ l. out_at_ops (q ∷ l)) none
