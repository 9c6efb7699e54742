-- Passing frames to taps one after another, cycle by cycle.
use Rattle.std.proofs.Common.{◌≡◌, ◌<◌, ◌+◌, ℕ, ℤ, List, [], ◌∷◌, ◌++◌, length, take, drop, set, get_or, sym, ap, subst}
use Rattle.std.proofs.{Common.◌∙◌, Common.append_assoc, Common.append-nil, Common.arith, Math.Seq.take-length}
use Rattle.std.specs.List.{AllZip}
use Rattle.std.proofs.lemmas.List.{drop-drop, drop-set-lt, get_or-drop, length-set, take_more, take_more_set}
use Rattle.std.proofs.lemmas.List.Elements.{AllZip-push}
use Rattle.cs_perform.specs.Hearing.{Told}

-- The first taps have received the frames, the others not yet.
pub record ToldFirst {T : Type 0} (stands_for : T → List ℤ → Type 0) (before now : List T) (frames : List ℤ)
    (n : ℕ) : Type 0 where
  pub first : Told stands_for (take n before) (take n now) frames
  pub rest : drop n now ≡ drop n before
  pub long : length now ≡ length before

-- the element after the first i
get_here : {T : Type 0} (l : List T) (i : ℕ) (d : T) → get_or (drop i l) 0 d ≡ get_or l i d
get_here l i d = get_or-drop i l 0 d ∙ ap (λ (k : ℕ). get_or l k d) (let here : i + 0 ≡ i = omega arith in here)

-- no tap has received the frames yet
pub told_none_first : {T : Type 0} (S : T → List ℤ → Type 0) (before now : List T) (frames : List ℤ) → now ≡ before
    → ToldFirst S before now frames 0
told_none_first S before now frames e = record { first = tt; rest = e; long = ap length e }

-- one more tap has received the frames
pub told_one_more : {T : Type 0} (S : T → List ℤ → Type 0) (before now : List T) (frames : List ℤ) (i : ℕ) (x y : T)
    → i < length now → x ≡ get_or now i x → ((h : List ℤ) → S x h → S y (h ++ frames)) → ToldFirst S before now frames i
    → ToldFirst S before (set now i y) frames (i + 1)
told_one_more {T} S before now frames i x y lt is told r =
    let R : T → T → Type 0 = λ b n. (h : List ℤ) → S b h → S n (h ++ frames) in
    let same : get_or now i x ≡ get_or before i x =
    sym (get_here now i x) ∙ ap (λ (l : List T). get_or l 0 x) r.rest ∙ get_here before i x in
    let here : R (get_or before i x) y = subst (λ z. R z y) (is ∙ same) told in
    let pushed : AllZip R (take i before ++ get_or before i x ∷ []) (take i now ++ y ∷ []) =
    AllZip-push R (take i before) (take i now) (get_or before i x) y r.first here in
    let left : take (i + 1) before ≡ take i before ++ get_or before i x ∷ [] =
    take_more before i x (omega (arith, r.long)) in
    let right : take (i + 1) (set now i y) ≡ take i now ++ y ∷ [] = take_more_set now i y lt in
    record {
      first = rw (left, right) pushed;
      rest = drop-set-lt (i + 1) now i y (omega arith) ∙ sym (drop-drop 1 i now) ∙ ap (drop 1) r.rest
          ∙ drop-drop 1 i before;
      long = length-set now i y ∙ r.long;
    }

-- all taps have received the frames
pub told_all : {T : Type 0} (S : T → List ℤ → Type 0) (before now : List T) (frames : List ℤ) (i : ℕ) → i ≡ length now
    → ToldFirst S before now frames i → Told S before now frames
told_all {T} S before now frames i e r =
    let R : T → T → Type 0 = λ b n. (h : List ℤ) → S b h → S n (h ++ frames) in
    let whole : take i before ≡ before = ap (λ (k : ℕ). take k before) (e ∙ r.long) ∙ take-length before in
    let whole' : take i now ≡ now = ap (λ (k : ℕ). take k now) e ∙ take-length now in
    rw (whole, whole') at r.first

-- taps that have received nothing
pub told_nothing : {T : Type 0} (S : T → List ℤ → Type 0) (taps : List T) → Told S taps taps []
told_nothing S [] = tt
told_nothing S (t ∷ ts) = (λ h s. subst (S t) (sym (append-nil h)) s, told_nothing S ts)

-- taps that have received some frames and then others
pub told_twice : {T : Type 0} (S : T → List ℤ → Type 0) (before now after : List T) (xs ys : List ℤ)
    → Told S before now xs → Told S now after ys → Told S before after (xs ++ ys)
told_twice S [] [] [] xs ys p q = tt
told_twice S [] [] (c ∷ cs) xs ys p q = absurd q
told_twice S [] (b ∷ bs) after xs ys p q = absurd p
told_twice S (a ∷ as') [] after xs ys p q = absurd p
told_twice S (a ∷ as') (b ∷ bs) [] xs ys p q = absurd q
told_twice S (a ∷ as') (b ∷ bs) (c ∷ cs) xs ys p q =
    (λ h s. subst (S c) (append_assoc h xs ys) (q.0 (h ++ xs) (p.0 h s)), told_twice S as' bs cs xs ys p.1 q.1)
