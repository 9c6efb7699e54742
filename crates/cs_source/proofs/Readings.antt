use Rattle.std.proofs.Common.{◌≡◌, ◌≤◌, nat_lt, ℕ, ◌-◌, List, [], ◌++◌, length, take, drop, Option, None, Some, Bool}
use Rattle.std.proofs.Common.{true, false, refl, ap, sym, subst, ◌∙◌, append_assoc, append-nil, arith, length-append}
use Rattle.std.proofs.lemmas.Bool.Decides.{nat_tests}
use Rattle.std.proofs.lemmas.List.{take_all, drop_all, take-append-drop, length-take}
use Rattle.std.proofs.Math.Seq.{take-append_seam, drop-append_seam}
use Rattle.cs_edge.specs.{declared.files.NamedBytes.NamedBytes, declared.moves.Move.TheVariants.Read, Told.Follows}
use Rattle.cs_edge.specs.{Moves.Grown, Moves.GrownBy, Moves.AreAll, Files.ShelfTold, Files.TakesFront, Files.Begins}
use Rattle.cs_edge.proofs.Chains.{follows_same, all_none, all_on}
use Rattle.cs_source.specs.inner.Reading.{ReadSoFar, ReadMore, ReadOnce, IsFrontOf, IsTextOf, LeavesRest}

-- WHAT WAS READ

none_taken : (a : Option (List ℕ)) → ReadSoFar a a []
none_taken None = tt
none_taken (Some left) = (left, refl, refl)

-- nothing yet
pub read_none : (a : ShelfTold) → ReadMore a a []
read_none a = record {
  taken = none_taken a.left;
  made = follows_same (Grown (AreAll Read)) (all_none Read) a.moves a.moves refl;
  calm = refl;
  same = refl;
}

more_taken : (a b c : Option (List ℕ)) (bytes buf : List ℕ) (n : ℕ) → ReadSoFar a b bytes → TakesFront b c buf n
    → ReadSoFar a c (bytes ++ take n buf)
more_taken None b c bytes buf n r t = tt
more_taken (Some left) b c bytes buf n r t =
    let t' = subst (λ (o : Option (List ℕ)). TakesFront o c buf n) r.1 t in (
      drop n r.0,
      t'.0,
      r.2 ∙ (ap (λ (l : List ℕ). bytes ++ l) (sym (take-append-drop n r.0))
          ∙ (sym (append_assoc bytes (take n r.0) (drop n r.0))
          ∙ ap (λ (l : List ℕ). (bytes ++ l) ++ drop n r.0) (sym t'.1))),
    )

-- these bytes more
pub read_on : (a b c : ShelfTold) (bytes buf : List ℕ) (n : ℕ) → ReadMore a b bytes → TakesFront b.left c.left buf n
    → Follows b.moves c.moves (GrownBy Read) → c.faults ≡ b.faults → c.files ≡ b.files
    → ReadMore a c (bytes ++ take n buf)
read_on a b c bytes buf n r t moves calm files = record {
  taken = more_taken a.left b.left c.left bytes buf n r.taken t;
  made = all_on Read a.moves b.moves c.moves r.made moves;
  calm = calm ∙ r.calm;
  same = files ∙ r.same;
}

-- no rest
pub read_end : (most : ℕ) (a b c : Option (List ℕ)) (bytes buf : List ℕ) → length bytes ≤ most → ReadSoFar a b bytes
    → TakesFront b c buf 0 → IsFrontOf most a bytes c
read_end most None b c bytes buf h r t = tt
read_end most (Some left) b c bytes buf h r t =
    let t' = subst (λ (o : Option (List ℕ)). TakesFront o c buf 0) r.1 t in
    let all : left ≡ bytes = r.2 ∙ (ap (λ (l : List ℕ). bytes ++ l) (t'.3 refl) ∙ append-nil bytes) in
    let short : length left ≤ most = subst (λ (l : List ℕ). length l ≤ most) (sym all) h in (
      sym (take_all most left short ∙ all),
      t'.0
          ∙ ap (λ (l : List ℕ). Some l) (t'.3 refl ∙ sym (drop_all most left short)),
    )

-- the buffer is full
pub read_full : (a b : Option (List ℕ)) (bytes : List ℕ) → ReadSoFar a b bytes → IsFrontOf (length bytes) a bytes b
read_full None b bytes r = tt
read_full (Some left) b bytes r = (
  sym (ap (take (length bytes)) r.2 ∙ take-append_seam bytes r.0),
  r.1 ∙ ap (λ (l : List ℕ). Some l) (sym (ap (drop (length bytes)) r.2 ∙ drop-append_seam bytes r.0)),
)

not_lt : (n : ℕ) → nat_lt 0 n ≡ false → n ≡ 0
not_lt n e = grind (arith, nat_tests)

-- one more read
pub block_on : (most k : ℕ) (a b c : ShelfTold) (text longer : List ℕ) (any : Bool) → length text ≤ most
    → ReadMore a b text
    → k ≡ most - length text → ReadOnce b c k text longer any → (length longer ≤ most) × ReadMore a c longer
block_on most k a b c text longer any h r e o =
    let n = o.count in
    let size = ap length o.added ∙ length-append text (take n o.block) in (
      omega (arith, size, length-take n o.block, o.within.0, o.within.1, e),
      subst (λ (l : List ℕ). ReadMore a c l) (sym o.added)
          (read_on a b c text o.block n r o.taken o.made o.calm o.same),
    )

-- the last read, without any bytes
pub block_end : (most k : ℕ) (a b c : ShelfTold) (text longer : List ℕ) (any : Bool) → length text ≤ most
    → ReadMore a b text
    → any ≡ false → ReadOnce b c k text longer any → IsFrontOf most a.left longer c.left
block_end most k a b c text longer any h r e o =
    let none : o.count ≡ 0 = not_lt o.count (sym o.any_is ∙ e) in
    let t = subst (λ (k : ℕ). TakesFront b.left c.left o.block k) none o.taken in
    let same : longer ≡ text = o.added ∙ (ap (λ (k : ℕ). text ++ take k o.block) none ∙ append-nil text) in
    subst (λ (l : List ℕ). IsFrontOf most a.left l c.left) (sym same)
    (read_end most a.left b.left c.left text o.block h r.taken t)

-- THE TEXT of a file that was opened

pub text_read : (most : ℕ) (files : Option (List NamedBytes)) (name text : List ℕ) (found : Bool)
    (left now : Option (List ℕ))
    → found ≡ true → Begins files name found left → IsFrontOf most left text now → IsTextOf most files name text
text_read most None name text found left now e b f = tt
text_read most (Some files) name text found left now e b' f =
    let b = subst (λ (is : Bool). Begins (Some files) name is left) e b' in
    let f' = subst (λ (o : Option (List ℕ)). IsFrontOf most o text now) b.2 f in
    (b.0, b.1, f'.0)

pub rest_left : (most : ℕ) (files : Option (List NamedBytes)) (name text : List ℕ) (found : Bool)
    (left now : Option (List ℕ))
    → found ≡ true → Begins files name found left → IsFrontOf most left text now → LeavesRest most files name now
rest_left most None name text found left now e b f = tt
rest_left most (Some files) name text found left now e b' f =
    let b = subst (λ (is : Bool). Begins (Some files) name is left) e b' in
    let f' = subst (λ (o : Option (List ℕ)). IsFrontOf most o text now) b.2 f in
    (b.0, b.1, f'.1)
