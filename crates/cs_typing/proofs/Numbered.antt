-- Names with their numbers in a map.
use Rattle.std.proofs.Common.{◌≡◌, ◌∙◌, ℕ, false, Bor, List, Some, sym, ap, if◌then◌else◌}
use Rattle.std.specs.BTreeMap.{BTreeMap, UpdatesBy, get_by}
use Rattle.std.specs.{Cmp.Lexicographic.slice_cmp, Ordering.nat_cmp, Str.bytes_eq}
use Rattle.std.proofs.lemmas.Map.Text.{btree_map_updates_str}
use Rattle.cs_base.specs.{Rates.at_rate, declared.per_rate.PerRate.PerRate}
use Rattle.cs_words.specs.Names.{name_rate}
use Rattle.cs_typing.specs.inner.Routines.{Locals, counted, has_local, with_local}

abbrev Numbers : Type 0
Numbers = BTreeMap (Bor (List ℕ)) ℕ

abbrev locals : Numbers → PerRate ℕ → Locals
locals m counts = record { number = λ x. get_by (λ k. slice_cmp nat_cmp x k.now) m; counts = counts }

-- a new local variable is inserted with the next number of its rate
pub put_in : (m more : Numbers) (x : List ℕ) (v : ℕ) (c d : PerRate ℕ) → has_local (locals m c) x ≡ false
    → UpdatesBy (λ a b. slice_cmp nat_cmp a.now b.now) (λ k. slice_cmp nat_cmp x k.now) m more (Some v)
    → v ≡ at_rate c (name_rate x) → d ≡ counted (name_rate x) c
    → ◌≡◌ {A = Locals} (locals more d) (if has_local (locals m c) x then locals m c else with_local (locals m c) x)
put_in m more x v c d new updates v_is d_is =
    let each : (y : List ℕ) → (locals more d).number y
    ≡ (if bytes_eq x y then Some (at_rate c (name_rate x)) else (locals m c).number y) =
    λ y. btree_map_updates_str x m more (Some v) updates y
    ∙ ap (λ n. if bytes_eq x y then Some n else (locals m c).number y) v_is in
    (λ i. record { number = λ y. each y i; counts = d_is i })
    ∙ sym (ap (λ b. if b then locals m c else with_local (locals m c) x) new)
