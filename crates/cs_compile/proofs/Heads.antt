-- A head is determined by its numbers.
use Rattle.std.proofs.Common.{◌≡◌, ◌≤◌, ◌<ℤ◌, ℕ, ℤ, pos, Ok, Err, ap, sym, subst, ◌∙◌}
use Rattle.std.proofs.{Math.Bridge.le_prop, Math.Dec.T_prop}
use lib.Signed.{lt_z}
use Rattle.cs_base.specs.declared.head.Head.{Head}
use Rattle.cs_typed.specs.{Places.Header, TypedTree.header_of_head}
use Rattle.cs_compile.specs.Meaning.{HasHead}
use Rattle.cs_compile.proofs.Chains.{HasOne}

abbrev InRange : ℕ → ℕ → Type 0
InRange most n = (1 ≤ n) × (n ≤ most)

in_range-prop : (most n : ℕ) → IsProp (InRange most n)
in_range-prop most n = hlevel (le_prop {n = 1} {m = n}, le_prop {n = n} {m = most})

above-prop : (d : ℤ) → IsProp (pos 0 <ℤ d)
above-prop d = hlevel (T_prop (lt_z (pos 0) d))

abbrev pub made : (s k n : ℕ) (d : ℤ) → InRange 192000 s → InRange 4096 k → InRange 16 n → pos 0 <ℤ d → Head
made s k n d p q r t = record {
  sr = s;
  ksmps = k;
  nchnls = n;
  dbfs = d;
  sr_in_range = p;
  ksmps_in_range = q;
  nchnls_in_range = r;
  dbfs_above_zero = t;
}

same_made : (s s' k k' n n' : ℕ) (d d' : ℤ) (p : InRange 192000 s) (p' : InRange 192000 s') (q : InRange 4096 k)
    (q' : InRange 4096 k')
    (r : InRange 16 n) (r' : InRange 16 n') (t : pos 0 <ℤ d) (t' : pos 0 <ℤ d') → s ≡ s' → k ≡ k' → n ≡ n' → d ≡ d'
    → made s k n d p q r t ≡ made s' k' n' d' p' q' r' t'
same_made s s' k k' n n' d d' p p' q q' r r' t t' e f g h =
    subst (λ (x : ℕ). (y : InRange 192000 x) → made s k n d p q r t ≡ made x k n d y q r t) e
    (λ y. ap (λ (z : InRange 192000 s). made s k n d z q r t) (in_range-prop 192000 s p y)) p'
    ∙ (subst (λ (x : ℕ). (y : InRange 4096 x) → made s' k n d p' q r t ≡ made s' x n d p' y r t) f
    (λ y. ap (λ (z : InRange 4096 k). made s' k n d p' z r t) (in_range-prop 4096 k q y)) q'
    ∙ (subst (λ (x : ℕ). (y : InRange 16 x) → made s' k' n d p' q' r t ≡ made s' k' x d p' q' y t) g
    (λ y. ap (λ (z : InRange 16 n). made s' k' n d p' q' z t) (in_range-prop 16 n r y)) r'
    ∙ subst (λ (x : ℤ). (y : pos 0 <ℤ x) → made s' k' n' d p' q' r' t ≡ made s' k' n' x p' q' r' y) h
    (λ y. ap (λ (z : pos 0 <ℤ d). made s' k' n' d p' q' r' z) (above-prop d t y)) t'))

one_head : (a b : Head) → header_of_head a ≡ header_of_head b → a ≡ b
one_head a b e =
    same_made a.sr b.sr a.ksmps b.ksmps a.nchnls b.nchnls a.dbfs b.dbfs a.sr_in_range b.sr_in_range a.ksmps_in_range
    b.ksmps_in_range
    a.nchnls_in_range b.nchnls_in_range a.dbfs_above_zero b.dbfs_above_zero
    (ap (λ (x : Header). x.sr) e) (ap (λ (x : Header). x.ksmps) e) (ap (λ (x : Header). x.nchnls) e)
    (ap (λ (x : Header). x.dbfs) e)

pub head_one : (h : Header) → HasOne (HasHead h)
head_one h (Ok a) (Ok b) p q = ap (λ (x : Head). Ok x) (one_head a b (p ∙ sym q))
head_one h (Ok a) (Err e) p q = absurd q
head_one h (Err e) s p q = absurd p
