-- If header lines break no rule, the value of each is in its range.
use Rattle.std.proofs.Common.{◌≡◌, ℕ, ℤ, pos, negsuc, ◌≤◌, ◌<ℤ◌, ◌%◌, ◌/◌, ◌*◌, Bool, true, false, not, ◌&&◌, ◌==◌}
use Rattle.std.proofs.Common.{nat_le, if◌then◌else◌, List, [], ◌∷◌, ◌++◌, Option, Some, None, arith, ap, sym, subst}
use Rattle.std.proofs.Common.{◌∙◌, refl}
use Rattle.std.specs.{List.list_any, Option.is_some, Option.option_or}
use Rattle.std.proofs.lemmas.{Bool.and_parts, Bool.Decides.nat_tests, Grind.common_steps}
use Rattle.cs_base.proofs.Tests.{by_test, some_is}
use Rattle.cs_base.specs.{declared.fault.OrcFault.OrcFault, declared.fault.OrcKind.OrcKind, Heads.Header}
use Rattle.cs_words.specs.declared.word.HeadName.{HeadName}
use Rattle.cs_grammar.specs.declared.tree.HeadLine.{HeadLine}
use Rattle.cs_typing.specs.Settings.{at, whole, is_whole_to, is_above_zero, in_range, same_head, header_fault}
use Rattle.cs_typing.specs.Settings.{headers_fault, header_of, whole_or, value_or, rate_of_frames, ksmps_of, header}
use Rattle.cs_typing.specs.Settings.{is_product, kr_agrees, kr_fault}
use Rattle.cs_base.specs.declared.fault.OrcKind.TheVariants as orc
use Rattle.cs_words.specs.declared.word.HeadName.TheVariants as head

name_is : (a b : HeadName) → same_head a b ≡ true → a ≡ b
name_is head.Sr head.Sr h = refl
name_is head.Kr head.Kr h = refl
name_is head.Ksmps head.Ksmps h = refl
name_is head.Nchnls head.Nchnls h = refl
name_is head.Dbfs head.Dbfs h = refl
name_is a b h = absurd (cc h)

-- if the first of two faults is None, both are None
neither : (line : ℕ) (k : Option OrcKind) (r : Option OrcFault) → option_or (at line k) r ≡ None
    → (k ≡ None) × (r ≡ None)
neither line None r h = (refl, h)
neither line (Some k) r h = absurd (cc h)

judged : (b c : Bool) → (if not b then Some orc.HeaderValue else (if c then Some orc.HeaderTwice else None)) ≡ None
    → b ≡ true
judged true c h = refl
judged false c h = absurd (cc h)

here : (name : HeadName) (l h : HeadLine) → same_head name l.name ≡ true → Some l ≡ Some h
    → in_range l.name l.value ≡ true → in_range name h.value ≡ true
here name l h same found ok =
    ap (λ n. in_range n h.value) (name_is name l.name same)
    ∙ ap (λ x. in_range l.name x.value) (sym (some_is l h found)) ∙ ok

-- the value of the first line with a name is in the range of that name
pub found : (name : HeadName) (before hs : List HeadLine) (h : HeadLine) → headers_fault before hs ≡ None
    → header_of name hs ≡ Some h → in_range name h.value ≡ true
found name before [] h none some = absurd (cc some)
found name before (l ∷ rest) h none some =
    let both = neither l.line (header_fault before l) (headers_fault (before ++ l ∷ []) rest) none in
    by_test (same_head name l.name)
    (λ same. here name l h same (sym (ap (λ b. if b then Some l else header_of name rest) same) ∙ some)
    (judged (in_range l.name l.value) (list_any (λ b. same_head l.name b.name) before) both.0))
    (λ other. found name (before ++ l ∷ []) rest h both.1
    (sym (ap (λ b. if b then Some l else header_of name rest) other) ∙ some))

whole_to : (most : ℕ) (v : ℤ) → is_whole_to most v ≡ true → (1 ≤ whole v) × (whole v ≤ most)
whole_to most (pos raw) h =
    let parts = and_parts (raw % 65536 == 0 && nat_le 1 (raw / 65536)) (nat_le (raw / 65536) most) h in
    let first = and_parts (raw % 65536 == 0) (nat_le 1 (raw / 65536)) parts.0 in
    (grind (arith, nat_tests), grind (arith, nat_tests))
whole_to most (negsuc m) h = absurd (cc h)

whole_of : (most other : ℕ) (o : Option HeadLine) → ((h : HeadLine) → o ≡ Some h → is_whole_to most h.value ≡ true)
    → 1 ≤ other → other ≤ most → (1 ≤ whole_or other o) × (whole_or other o ≤ most)
whole_of most other None each low high = (low, high)
whole_of most other (Some h) each low high = whole_to most h.value (each h refl)

pub frames_within : (hs : List HeadLine) → headers_fault [] hs ≡ None
    → (1 ≤ rate_of_frames hs) × (rate_of_frames hs ≤ 192000)
frames_within hs none =
    whole_of 192000 44100 (header_of head.Sr hs) (λ h some. found head.Sr [] hs h none some) (omega arith) (omega arith)

pub channels_within : (hs : List HeadLine) → headers_fault [] hs ≡ None
    → (1 ≤ whole_or 1 (header_of head.Nchnls hs)) × (whole_or 1 (header_of head.Nchnls hs) ≤ 16)
channels_within hs none =
    whole_of 16 1 (header_of head.Nchnls hs) (λ h some. found head.Nchnls [] hs h none some) (omega arith) (omega arith)

above : (v : ℤ) → is_above_zero v ≡ true → pos 0 <ℤ v
above (pos raw) h = grind (arith, nat_tests)
above (negsuc m) h = absurd (cc h)

value_of : (other : ℤ) (o : Option HeadLine) → ((h : HeadLine) → o ≡ Some h → is_above_zero h.value ≡ true)
    → pos 0 <ℤ other → pos 0 <ℤ value_or other o
value_of other None each ok = ok
value_of other (Some h) each ok = above h.value (each h refl)

pub scale_within : (hs : List HeadLine) → headers_fault [] hs ≡ None
    → pos 0 <ℤ value_or (pos (32768 * 65536)) (header_of head.Dbfs hs)
scale_within hs none =
    value_of (pos (32768 * 65536)) (header_of head.Dbfs hs) (λ h some. found head.Dbfs [] hs h none some) (omega arith)

agreed : (b : Bool) (f : OrcFault) → (if b then None else Some f) ≡ None → b ≡ true
agreed true f h = refl
agreed false f h = absurd (cc h)

by_kr : (x : Header) (kr : Option HeadLine) → kr_fault x kr ≡ None → (kr ≡ None → (1 ≤ x.ksmps) × (x.ksmps ≤ 4096))
    → (1 ≤ x.ksmps) × (x.ksmps ≤ 4096)
by_kr x None none without = without refl
by_kr x (Some l) none without =
    let agrees = agreed (kr_agrees x.sr x.ksmps l.value) (record { line = l.line; kind = orc.HeaderValue }) none in
    let parts = and_parts (nat_le 1 x.ksmps && nat_le x.ksmps 4096) (is_product x.sr x.ksmps l.value) agrees in
    let first = and_parts (nat_le 1 x.ksmps) (nat_le x.ksmps 4096) parts.0 in
    (grind (arith, nat_tests), grind (arith, nat_tests))

by_ksmps : (sr : ℕ) (o : Option HeadLine) → ((h : HeadLine) → o ≡ Some h → is_whole_to 4096 h.value ≡ true)
    → (1 ≤ ksmps_of sr None o) × (ksmps_of sr None o ≤ 4096)
by_ksmps sr None each = (omega arith, omega arith)
by_ksmps sr (Some h) each = whole_to 4096 h.value (each h refl)

pub cycle_within : (hs : List HeadLine) → headers_fault [] hs ≡ None
    → kr_fault (header hs) (header_of head.Kr hs) ≡ None → (1 ≤ (header hs).ksmps) × ((header hs).ksmps ≤ 4096)
cycle_within hs none kr =
    by_kr (header hs) (header_of head.Kr hs) kr
    (λ no. subst (λ k. (1 ≤ ksmps_of (rate_of_frames hs) k (header_of head.Ksmps hs)) ×
    (ksmps_of (rate_of_frames hs) k (header_of head.Ksmps hs) ≤ 4096)) (sym no)
    (by_ksmps (rate_of_frames hs) (header_of head.Ksmps hs) (λ h some. found head.Ksmps [] hs h none some)))

-- one of these lines has the name
pub given : (name : HeadName) (hs : List HeadLine)
    → is_some (header_of name hs) ≡ list_any (λ b. same_head name b.name) hs
given name [] = refl
given name (h ∷ rest) = grind (arith, common_steps, given name rest)
