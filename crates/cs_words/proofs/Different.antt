-- Different names in references, with a map of their indices.
use Rattle.std.proofs.Common.{◌≡◌, ◌∙◌, ◌++◌, ◌||◌, ℕ, suc, Bool, true, false, Bor, List, [], ◌∷◌, map, not, cond, refl}
use Rattle.std.proofs.Common.{sym, ap, length, Option, Some, None, if◌then◌else◌, ◌+◌, arith}
use Rattle.std.proofs.lemmas.{List.length-map, Map.Text.btree_map_updates_str, Slice.Eq.bytes_eq-Decides}
use Rattle.std.specs.BTreeMap.{BTreeMap, UpdatesBy, get_by}
use Rattle.std.specs.{Cmp.Lexicographic.slice_cmp, Option.is_some, Option.option_map, Option.unwrap_or, Prelude.Err}
use Rattle.std.specs.{Prelude.Ok, Prelude.OnOk, Prelude.Result, Result.is_err, Ordering.nat_cmp, Str.bytes_eq}
use Rattle.cs_words.specs.NameSets.{has, place_of, seen}
use Rattle.cs_words.specs.inner.Indexes.{IsIndex, place_among}

-- the name behind a reference
abbrev pub now : Bor (List ℕ) → List ℕ
now n = n.now

-- ---- the contents of the map

stays : (o : Option ℕ) → is_some (option_map suc o) ≡ is_some o
stays None = refl
stays (Some k) = refl

is_among : (ns : List (List ℕ)) (name : List ℕ) → is_some (place_among ns name) ≡ has ns name
is_among [] name = refl
is_among (n ∷ ns) name = by (bytes_eq name n) (is_among ns name)
  where
    by : (b : Bool) → is_some (place_among ns name) ≡ has ns name
        → is_some (if b then Some 0 else option_map suc (place_among ns name)) ≡ (b || has ns name)
    by true rest = refl
    by false rest = stays (place_among ns name) ∙ rest

next : (o : Option ℕ) (len : ℕ) → unwrap_or (option_map suc o) (suc len) ≡ 1 + unwrap_or o len
next None len = omega arith
next (Some k) len = omega arith

among_or_behind : (ns : List (List ℕ)) (name : List ℕ) → unwrap_or (place_among ns name) (length ns) ≡ place_of ns name
among_or_behind [] name = refl
among_or_behind (n ∷ ns) name = by (bytes_eq name n) (among_or_behind ns name)
  where
    by : (b : Bool) → unwrap_or (place_among ns name) (length ns) ≡ place_of ns name
        → unwrap_or (if b then Some 0 else option_map suc (place_among ns name)) (suc (length ns))
        ≡ cond (not b) (1 + place_of ns name) 0
    by true rest = refl
    by false rest = next (place_among ns name) (length ns) ∙ ap (λ k. 1 + k) rest

pub has_name : (names : List (List ℕ)) (index : BTreeMap (Bor (List ℕ)) ℕ) → IsIndex names index → (name : List ℕ)
    → is_some (get_by (λ k. slice_cmp nat_cmp name k.now) index) ≡ has names name
has_name names index is name = ap is_some (is name) ∙ is_among names name

-- the index of a name in the map, or the number of names if the map has none
pub index_place : (ks : List (Bor (List ℕ))) (index : BTreeMap (Bor (List ℕ)) ℕ) → IsIndex (map now ks) index
    → (name : List ℕ) (names : List (List ℕ)) → map now ks ≡ names
    → unwrap_or (get_by (λ k. slice_cmp nat_cmp name k.now) index) (length ks) ≡ place_of names name
index_place ks index is name names e =
    ap (λ o. unwrap_or o (length ks)) (is name)
    ∙ ap (unwrap_or (place_among (map now ks) name)) (sym (length-map ks now))
    ∙ among_or_behind (map now ks) name ∙ ap (λ ns. place_of ns name) e

-- ---- one more name

map_more : (ks : List (Bor (List ℕ))) (k : Bor (List ℕ)) → map now (ks ++ k ∷ []) ≡ map now ks ++ k.now ∷ []
map_more [] k = refl
map_more (x ∷ ks) k = ap (λ ns. x.now ∷ ns) (map_more ks k)

both_ways : (x y : List ℕ) → bytes_eq x y ≡ bytes_eq y x
both_ways x y = by (bytes_eq x y) (bytes_eq y x) refl refl
  where
    by : (a b : Bool) → bytes_eq x y ≡ a → bytes_eq y x ≡ b → a ≡ b
    by true true e f = refl
    by false false e f = refl
    by true false e f = absurd (cc (sym f ∙ (bytes_eq-Decides y x).1 (sym ((bytes_eq-Decides x y).0 e))))
    by false true e f = absurd (cc (sym e ∙ (bytes_eq-Decides x y).1 (sym ((bytes_eq-Decides y x).0 f))))

none_of : (a b : Bool) → (a || b) ≡ false → (a ≡ false) × (b ≡ false)
none_of false b h = (refl, h)
none_of true b h = absurd (cc h)

-- the index of a name after x was added at the end
last_place : (ns : List (List ℕ)) (x name : List ℕ) → has ns x ≡ false
    → (if bytes_eq x name then Some (length ns) else place_among ns name) ≡ place_among (ns ++ x ∷ []) name
last_place [] x name new = ap (λ b. if b then Some 0 else None) (both_ways x name)
last_place (n ∷ ns) x name new =
    let apart = none_of (bytes_eq x n) (has ns x) new in
    by (bytes_eq x name) refl apart.0 (last_place ns x name apart.1)
  where
    by : (b : Bool) → bytes_eq x name ≡ b → bytes_eq x n ≡ false
        → (if bytes_eq x name then Some (length ns) else place_among ns name) ≡ place_among (ns ++ x ∷ []) name
        → (if b then Some (suc (length ns)) else place_among (n ∷ ns) name) ≡ place_among ((n ∷ ns) ++ x ∷ []) name
    by true e apart rest =
        let other : bytes_eq name n ≡ false = ap (λ y. bytes_eq y n) (sym ((bytes_eq-Decides x name).0 e)) ∙ apart in
        let last : Some (length ns) ≡ place_among (ns ++ x ∷ []) name =
        sym (ap (λ b. if b then Some (length ns) else place_among ns name) e) ∙ rest in
        ap (option_map suc) last
        ∙ sym (ap (λ b. if b then Some 0 else option_map suc (place_among (ns ++ x ∷ []) name)) other)
    by false e apart rest =
        let same : place_among ns name ≡ place_among (ns ++ x ∷ []) name =
        sym (ap (λ b. if b then Some (length ns) else place_among ns name) e) ∙ rest in
        ap (λ o. if bytes_eq name n then Some 0 else option_map suc o) same

-- the map is right after a new name was added at the end
pub indexed_more : (ks more : List (Bor (List ℕ))) (k : Bor (List ℕ)) (index put : BTreeMap (Bor (List ℕ)) ℕ) (v : ℕ)
    → IsIndex (map now ks) index → has (map now ks) k.now ≡ false → v ≡ length ks → more ≡ ks ++ k ∷ []
    → UpdatesBy (λ a b. slice_cmp nat_cmp a.now b.now) (λ x. slice_cmp nat_cmp k.now x.now) index put (Some v)
    → IsIndex (map now more) put
indexed_more ks more k index put v is new at m updates name =
    btree_map_updates_str k.now index put (Some v) updates name
    ∙ ap (λ o. if bytes_eq k.now name then Some v else o) (is name)
    ∙ ap (λ n. if bytes_eq k.now name then Some n else place_among (map now ks) name) (at ∙ sym (length-map ks now))
    ∙ last_place (map now ks) k.now name new
    ∙ ap (λ ns. place_among ns name) (sym (ap (map now) m ∙ map_more ks k))

-- the list after adding a name that it doesn't contain
pub name_seen : (ks more : List (Bor (List ℕ))) (k : Bor (List ℕ)) (names : List (List ℕ)) → map now ks ≡ names
    → has names k.now ≡ false → more ≡ ks ++ k ∷ [] → map now more ≡ seen names k.now
name_seen ks more k names e new m =
    ap (map now) m ∙ map_more ks k ∙ ap (λ ns. ns ++ k.now ∷ []) e
    ∙ sym (ap (λ b. if b then names else names ++ k.now ∷ []) new)

-- a fact that holds if a call succeeds, given that the call doesn't fail
pub unless_failed : {A E P : Type 0} (r : Result A E) → is_err r ≡ false → OnOk r P → P
unless_failed (Ok x) e holds = holds
unless_failed (Err x) e holds = absurd (cc e)
