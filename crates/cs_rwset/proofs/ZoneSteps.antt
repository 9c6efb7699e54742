-- One more area, for zones and for marks.
use Rattle.std.proofs.Common.{◌≡◌, ◌+◌, ◌-◌, ◌<◌, ◌≤◌, ◌++◌, ◌⊎◌, inl, inr, ⊎_elim, ℕ, zero, suc, Bool, true, false}
use Rattle.std.proofs.Common.{List, min, slice_get, Some, [], ◌∷◌, drop, get_or, length, take, if◌then◌else◌, refl, sym}
use Rattle.std.proofs.Common.{◌∙◌, ap, subst, arith}
use Rattle.std.specs.List.{All, AllZip}
use Rattle.std.proofs.lemmas.{Bool.cases_order, List.Sums.sum_by_more, List.length-append, List.take_more}
use Rattle.std.proofs.lemmas.Option.{get_or_from_slice_get, slice_get_within}
use Rattle.cs_cells.specs.{Areas.IsLaid, Areas.word_count, declared.footprint.Area.Area}
use Rattle.std.proofs.lemmas.List.{append_assoc, append-nil, at_drop_all, drop_more, get_or_append_left, get_or_at}
use Rattle.std.proofs.lemmas.List.Elements.{All-cons, All-nil, All-push}
use Rattle.cs_rwset.specs.declared.code.Marks.{Marks}
use Rattle.cs_rwset.specs.inner.Zoning.{AreBegins, Stay, heads, joined, zones_from}

-- the zones from an area on
zones_at : (areas : List Area) (begins : List Bool) (p : ℕ) (zone a : Area) → a ≡ get_or areas p a → p < length areas
    → p < length begins → zones_from zone (drop p areas) (drop p begins)
    ≡ (if get_or begins p false then zone ∷ zones_from a (drop (p + 1) areas) (drop (p + 1) begins)
    else zones_from (joined zone a) (drop (p + 1) areas) (drop (p + 1) begins))
zones_at areas begins p zone a read low here =
    ap (λ l. zones_from zone l (drop p begins)) (drop_more areas p a low ∙ ap (λ x. x ∷ drop (p + 1) areas) (sym read))
    ∙ ap (λ l. zones_from zone (a ∷ drop (p + 1) areas) l) (drop_more begins p false here)

pub zone_begins : (areas : List Area) (begins : List Bool) (p : ℕ) (zone a : Area) (done all : List Area)
    → a ≡ get_or areas p a → p < length areas → p < length begins → get_or begins p false ≡ true
    → done ++ zones_from zone (drop p areas) (drop p begins) ≡ all
    → (done ++ zone ∷ []) ++ zones_from a (drop (p + 1) areas) (drop (p + 1) begins) ≡ all
zone_begins areas begins p zone a done all read low here begin h =
    append_assoc done (zone ∷ []) (zones_from a (drop (p + 1) areas) (drop (p + 1) begins))
    ∙ ap (λ l. done ++ l) (sym (zones_at areas begins p zone a read low here
    ∙ ap (λ b. if b then zone ∷ zones_from a (drop (p + 1) areas) (drop (p + 1) begins)
    else zones_from (joined zone a) (drop (p + 1) areas) (drop (p + 1) begins)) begin)) ∙ h

pub zone_goes_on : (areas : List Area) (begins : List Bool) (p : ℕ) (zone a : Area) (done all : List Area)
    → a ≡ get_or areas p a → p < length areas → p < length begins → get_or begins p false ≡ false
    → done ++ zones_from zone (drop p areas) (drop p begins) ≡ all
    → done ++ zones_from (joined zone a) (drop (p + 1) areas) (drop (p + 1) begins) ≡ all
zone_goes_on areas begins p zone a done all read low here still h =
    ap (λ l. done ++ l) (sym (zones_at areas begins p zone a read low here
    ∙ ap (λ b. if b then zone ∷ zones_from a (drop (p + 1) areas) (drop (p + 1) begins)
    else zones_from (joined zone a) (drop (p + 1) areas) (drop (p + 1) begins)) still)) ∙ h

-- the marks from an area on
heads_at : (marks begins : List Bool) (p : ℕ) → p < length marks → p < length begins
    → heads (drop p marks) (drop p begins)
    ≡ (if get_or begins p false then get_or marks p false ∷ heads (drop (p + 1) marks) (drop (p + 1) begins)
    else heads (drop (p + 1) marks) (drop (p + 1) begins))
heads_at marks begins p low here =
    ap (λ l. heads l (drop p begins)) (drop_more marks p false low)
    ∙ ap (λ l. heads (get_or marks p false ∷ drop (p + 1) marks) l) (drop_more begins p false here)

pub head_taken : (marks begins : List Bool) (p : ℕ) (done all : List Bool) → p < length marks → p < length begins
    → get_or begins p false ≡ true → done ++ heads (drop p marks) (drop p begins) ≡ all
    → (done ++ get_or marks p false ∷ []) ++ heads (drop (p + 1) marks) (drop (p + 1) begins) ≡ all
head_taken marks begins p done all low here begin h =
    append_assoc done (get_or marks p false ∷ []) (heads (drop (p + 1) marks) (drop (p + 1) begins))
    ∙ ap (λ l. done ++ l) (sym (heads_at marks begins p low here
    ∙ ap (λ b. if b then get_or marks p false ∷ heads (drop (p + 1) marks) (drop (p + 1) begins)
    else heads (drop (p + 1) marks) (drop (p + 1) begins)) begin)) ∙ h

pub head_passed : (marks begins : List Bool) (p : ℕ) (done all : List Bool) → p < length marks → p < length begins
    → get_or begins p false ≡ false → done ++ heads (drop p marks) (drop p begins) ≡ all
    → done ++ heads (drop (p + 1) marks) (drop (p + 1) begins) ≡ all
head_passed marks begins p done all low here still h =
    ap (λ l. done ++ l) (sym (heads_at marks begins p low here
    ∙ ap (λ b. if b then get_or marks p false ∷ heads (drop (p + 1) marks) (drop (p + 1) begins)
    else heads (drop (p + 1) marks) (drop (p + 1) begins)) still)) ∙ h

no_begins : (marks : List Bool) → heads marks [] ≡ []
no_begins [] = refl
no_begins (m ∷ marks) = refl

pub heads_done : (marks begins : List Bool) (p : ℕ) (done all : List Bool)
    → (length marks ≤ p) ⊎ (length begins ≤ p) → done ++ heads (drop p marks) (drop p begins) ≡ all → done ≡ all
heads_done marks begins p done all (inl far) h =
    sym (append-nil done) ∙ ap (λ l. done ++ l) (sym (at_drop_all (λ l. heads l (drop p begins)) marks p far)) ∙ h
heads_done marks begins p done all (inr far) h =
    sym (append-nil done)
    ∙ ap (λ l. done ++ l) (sym (at_drop_all (λ l. heads (drop p marks) l) begins p far ∙ no_begins (drop p marks))) ∙ h

-- ---- where zones begin

-- one more area is decided
pub begins_more : (outside : Marks) (each : List Marks) (begins new : List Bool) (place : ℕ) (b : Bool)
    → AreBegins place outside each begins → new ≡ begins ++ b ∷ [] → (place ≡ 0 → b ≡ true)
    → (b ≡ false → Stay outside (place - 1) place)
    → (b ≡ false → All (λ (m : Marks). Stay m (place - 1) place) each) → AreBegins (place + 1) outside each new
begins_more outside each begins new place b is e first stays all = record {
  long = ap length e ∙ length-append begins (b ∷ []) ∙ ap (λ n. n + 1) is.long;
  first = λ some. ap (λ l. get_or l 0 false) e ∙ at_first place is first;
  outside_stays = λ p low still. by p low (λ l. is.outside_stays p l (kept p l still))
      (λ l. subst (λ n. Stay outside n (suc p)) (let o : place - 1 ≡ p = omega (arith, l) in o)
      (subst (λ n. Stay outside (place - 1) n) (sym l) (stays (last p l still))));
  each_stays = λ p low still. by p low (λ l. is.each_stays p l (kept p l still))
      (λ l. subst (λ n. All (λ (m : Marks). Stay m n (suc p)) each) (let o : place - 1 ≡ p = omega (arith, l) in o)
      (subst (λ n. All (λ (m : Marks). Stay m (place - 1) n) each) (sym l) (all (last p l still))));
}
  where
    by : {A : Type 0} (p : ℕ) → suc p < place + 1 → (suc p < place → A) → (suc p ≡ place → A) → A
    by p low before here = ⊎_elim here (⊎_elim before (λ far. absurd (omega (arith, low, far))))
        (cases_order (suc p) place)

    kept : (p : ℕ) → suc p < place → get_or new (suc p) false ≡ false → get_or begins (suc p) false ≡ false
    kept p l still =
        sym (get_or_append_left begins (b ∷ []) false (suc p) (let m = is.long in omega (arith, l, m)))
        ∙ ap (λ xs. get_or xs (suc p) false) (sym e) ∙ still

    last : (p : ℕ) → suc p ≡ place → get_or new (suc p) false ≡ false → b ≡ false
    last p l still =
        sym (get_or_at begins b [] false (suc p) (is.long ∙ sym l)) ∙ ap (λ xs. get_or xs (suc p) false) (sym e) ∙ still

    at_first : (n : ℕ) → AreBegins n outside each begins → (n ≡ 0 → b ≡ true) → get_or (begins ++ b ∷ []) 0 false ≡ true
    at_first zero is none = get_or_at begins b [] false 0 is.long ∙ none refl
    at_first (suc n) is none =
        get_or_append_left begins (b ∷ []) false 0 (let m = is.long in omega (arith, m)) ∙ is.first (omega arith)

-- ---- lists, item by item

pub all_more : {X : Type 0} (P : X → Type 0) (xs : List X) (i : ℕ) (x : X) → All P (take i xs) → x ≡ get_or xs i x
    → i < length xs → P x → All P (take (i + 1) xs)
all_more P xs i x h read low p =
    subst (All P) (sym (take_more xs i x low)) (All-push P (take i xs) (get_or xs i x) h (subst P read p))

zip_last : {X Y : Type 0} (R : X → Y → Type 0) (xs : List X) (ys : List Y) (x : X) (y : Y) → AllZip R xs ys → R x y
    → AllZip R (xs ++ x ∷ []) (ys ++ y ∷ [])
zip_last R [] [] x y h r = (r, tt)
zip_last R [] (b ∷ ys) x y h r = absurd h
zip_last R (a ∷ xs) [] x y h r = absurd h
zip_last R (a ∷ xs) (b ∷ ys) x y h r = (h.0, zip_last R xs ys x y h.1 r)

pub zip_more : {X Y : Type 0} (R : X → Y → Type 0) (xs : List X) (i : ℕ) (x : X) (ys zs : List Y) (y : Y)
    → AllZip R (take i xs) ys → x ≡ get_or xs i x → i < length xs
    → R x y → zs ≡ ys ++ y ∷ [] → AllZip R (take (i + 1) xs) zs
zip_more R xs i x ys zs y h here within r e =
    subst (AllZip R (take (i + 1) xs)) (sym e) (subst (λ l. AllZip R l (ys ++ y ∷ [])) (sym (take_more xs i x within))
    (zip_last R (take i xs) ys (get_or xs i x) y h (subst (λ z. R z y) here r)))

-- two relations, composed
pub zip_both : {X Y Z : Type 0} (R : X → Y → Type 0) (S : Y → Z → Type 0) (T : X → Z → Type 0)
    → ((x : X) (y : Y) (z : Z) → R x y → S y z → T x z)
    → (xs : List X) (ys : List Y) (zs : List Z) → AllZip R xs ys → AllZip S ys zs → AllZip T xs zs
zip_both R S T f [] [] [] r s = s
zip_both R S T f [] [] (z ∷ zs) r s = absurd s
zip_both R S T f [] (y ∷ ys) zs r s = absurd r
zip_both R S T f (x ∷ xs) [] zs r s = absurd r
zip_both R S T f (x ∷ xs) (y ∷ ys) [] r s = absurd s
zip_both R S T f (x ∷ xs) (y ∷ ys) (z ∷ zs) r s = (f x y z r.0 s.0, zip_both R S T f xs ys zs r.1 s.1)

-- a relation between two lists implies another relation
pub zip_so : {X Y : Type 0} (P : X → Type 0) (S T : X → Y → Type 0) → ((x : X) (y : Y) → P x → S x y → T x y)
    → (xs : List X) (ys : List Y) → All P xs → AllZip S xs ys → AllZip T xs ys
zip_so P S T f [] [] all s = s
zip_so P S T f [] (y ∷ ys) all s = absurd s
zip_so P S T f (x ∷ xs) [] all s = absurd s
zip_so P S T f (x ∷ xs) (y ∷ ys) all s = (
  f x y (all 0 x (omega arith)) s.0,
  zip_so P S T f xs ys (λ k d low. all (suc k) d (omega (arith, low))) s.1,
)

-- a relation between two lists implies a property of the second
pub zip_all : {X Y : Type 0} (R : X → Y → Type 0) (P : Y → Type 0) → ((x : X) (y : Y) → R x y → P y)
    → (xs : List X) (ys : List Y) → AllZip R xs ys → All P ys
zip_all R P f [] [] h = All-nil P
zip_all R P f [] (y ∷ ys) h = absurd h
zip_all R P f (x ∷ xs) [] h = absurd h
zip_all R P f (x ∷ xs) (y ∷ ys) h = All-cons P y ys (f x y h.0) (zip_all R P f xs ys h.1)

pub past_either : (m n p : ℕ) → min m n ≤ p → (m ≤ p) ⊎ (n ≤ p)
past_either m n p h =
    ⊎_elim (λ same. inl (omega (arith, same)))
    (⊎_elim (λ low. inl (omega (arith, low))) (λ high. inr (omega (arith, h, high)))) (cases_order m p)

-- an area ends where the next begins
pub words_more : (areas : List Area) (p : ℕ) (a : Area) → IsLaid areas → slice_get areas p ≡ Some a
    → a.first + a.length ≡ word_count (take (p + 1) areas)
words_more areas p a laid at =
    let first : a.first ≡ word_count (take p areas) = laid.follows p a at in
    let here : (get_or areas p a).length ≡ a.length = ap (λ x. x.length) (get_or_from_slice_get areas p a a at) in
    let more = sum_by_more (λ x. x.length) areas p a (slice_get_within areas p a at) in
    omega (arith, first, here, more)
