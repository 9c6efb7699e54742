-- Marks of tables, set one after another.
use Rattle.std.proofs.Common.{◌≡◌, ℕ, ◌+◌, ◌<◌, Bool, true, false, ◌||◌, List, [], ◌∷◌, length, get_or, replicate, take}
use Rattle.std.proofs.Common.{⊎_elim, arith, refl, sym, ◌∙◌, ap}
use Rattle.std.specs.List.{flat_map, list_any}
use Rattle.std.proofs.lemmas.{Bool.cases_lt, List.Folds.list_any-append, List.Folds.list_any_more}
use Rattle.std.proofs.lemmas.List.{get_or-replicate, get_or_past, length-replicate}
use Rattle.cs_base.specs.Rates.{same_res}
use Rattle.cs_ir.specs.Resources.{NameTheSame, Stock, act_writes, ops_write}
use Rattle.cs_ir.specs.{Touched.named, Touched.resources, declared.op.Op.Op, declared.touches.Touch.Touch}
use Rattle.cs_piece.specs.{Tables.only, inner.Marked.ops_store, inner.Marked.touch_stores}
use Rattle.cs_rwset.proofs.Placed.{among_alike}
use Rattle.cs_base.specs.declared.resource.Res.TheVariants as res

pub or_three : (a b c : Bool) → ((a || b) || c) ≡ (a || (b || c))
or_three true b c = refl
or_three false b c = refl

-- what is marked, with one more resource that may mark it
pub marked_more : {X : Type 0} (p : X → Bool) (xs : List X) (i : ℕ) (d : X) (old now new b : Bool)
    → b ≡ p (get_or xs i d) → i < length xs
    → now ≡ (old || list_any p (take i xs)) → new ≡ (now || b) → new ≡ (old || list_any p (take (i + 1) xs))
marked_more p xs i d old now new b here within before after =
    after ∙ ap (λ a. a || b) before ∙ or_three old (list_any p (take i xs)) b
    ∙ ap (λ y. old || (list_any p (take i xs) || y)) here ∙ ap (λ a. old || a) (sym (list_any_more p xs i d within))

-- some element of a part passes a test
pub any_of_parts : {X Y : Type 0} (p : Y → Bool) (f : X → List Y) (xs : List X)
    → list_any (λ x. list_any p (f x)) xs ≡ list_any p (flat_map f xs)
any_of_parts p f [] = refl
any_of_parts p f (x ∷ xs) =
    ap (λ b. list_any p (f x) || b) (any_of_parts p f xs) ∙ sym (list_any-append p (f x) (flat_map f xs))

-- a list of equal elements, at any index
pub all_are : {X : Type 0} (xs : List X) (count n : ℕ) (d : X) → xs ≡ replicate count d → get_or xs n d ≡ d
all_are xs count n d e = ap (λ l. get_or l n d) e ∙ ⊎_elim
    (λ l. get_or-replicate count n d d l)
    (λ g. get_or_past (replicate count d) n d (omega (arith, length-replicate count d, g))) (cases_lt n count)

-- ---- by what ops touch

pub stores_touched : (touches : List Touch) (ops : List Op)
    → ((stock : Stock) → NameTheSame (named stock touches) (ops_write stock ops))
    → (n : ℕ) → list_any (touch_stores n) touches ≡ ops_store n ops
stores_touched touches ops h n =
    any_of_parts (same_res (res.Table n)) (resources (only n)) touches
    ∙ among_alike (named (only n) touches) (ops_write (only n) ops) (h (only n)) (res.Table n)
    ∙ sym (any_of_parts (same_res (res.Table n)) (λ (o : Op). act_writes (only n) o.act) ops)
