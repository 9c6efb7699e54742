-- What is shared, by its index.
use Rattle.std.proofs.Common.{◌≡◌, ℕ, zero, suc, ◌+◌, true, false, List, [], ◌∷◌, ◌++◌, ◌==◌, length, map, arith, ap}
use Rattle.std.proofs.Common.{sym, ◌∙◌, refl, subst, slice_get, Some, if◌then◌else◌}
use Rattle.std.specs.List.{range_with_len}
use Rattle.std.proofs.lemmas.{Bool.Decides.nat_tests, List.FromFn.length-map-range_with_len}
use Rattle.cs_base.specs.{Rates.at_rate, Rates.res_rate, declared.resource.Rate.Rate, declared.resource.Res.Res}
use Rattle.cs_base.proofs.Tests.{by_test, some_is}
use Rattle.cs_base.specs.declared.spaces.Spaces.{Spaces}
use Rattle.cs_ir.specs.Validity.{has_value}
use Rattle.cs_layout.specs.Layouts.{SharedCells, numbered, of_tables, shared_by, AreApart}
use Rattle.cs_layout.proofs.Tails.{from_gk, from_ga, from_control, from_sound, from_zk, from_za}
use Rattle.cs_layout.specs.declared.areas.LiveTable.{LiveTable}
use Rattle.cs_voice_meaning.specs.Placing.{cell_count}
use Rattle.cs_typed.specs.TypedTree.{SharedNames}
use Rattle.cs_base.specs.declared.resource.Rate.TheVariants as rate
use Rattle.cs_base.specs.declared.resource.Res.TheVariants as res

-- what holds at each index of two joined lists
at_append : (P : ℕ → SharedCells → Type 0) (xs ys : List SharedCells)
    → ((p : ℕ) (s : SharedCells) → slice_get xs p ≡ Some s → P p s)
    → ((p : ℕ) (s : SharedCells) → slice_get ys p ≡ Some s → P (length xs + p) s) → (p : ℕ) (s : SharedCells)
    → slice_get (xs ++ ys) p ≡ Some s → P p s
at_append P [] ys front back p s e = subst (λ n. P n s) (let same : 0 + p ≡ p = omega arith in same) (back p s e)
at_append P (x ∷ xs) ys front back zero s e = front 0 s e
at_append P (x ∷ xs) ys front back (suc p) s e =
    at_append (λ q t. P (suc q) t) xs ys (λ q t f. front (suc q) t f)
    (λ q t f. subst (λ n. P n t) (let same : length (x ∷ xs) + q ≡ suc (length xs + q) = omega arith in same)
    (back q t f)) p s e

-- resource number n of a kind
abbrev of_kind : (ℕ → Res) → ℕ → ℕ → SharedCells
of_kind kind cells n = record { res = kind n; cells = cells }

shared_from : (kind : ℕ → Res) (a count cells p : ℕ) (s : SharedCells)
    → slice_get (map (of_kind kind cells) (range_with_len a count)) p ≡ Some s → of_kind kind cells (a + p) ≡ s
shared_from kind a zero cells p s e = absurd (cc (e))
shared_from kind a (suc count) cells zero s e = ap (of_kind kind cells) (omega arith) ∙ some_is _ s e
shared_from kind a (suc count) cells (suc p) s e =
    ap (of_kind kind cells) (omega arith) ∙ shared_from kind (a + 1) count cells p s e

-- what holds for each resource of a kind and for those after them
group_then : (P : ℕ → SharedCells → Type 0) (kind : ℕ → Res) (count cells : ℕ) (ys : List SharedCells)
    → ((n : ℕ) → P n (of_kind kind cells n))
    → ((p : ℕ) (s : SharedCells) → slice_get ys p ≡ Some s → P (count + p) s) → (p : ℕ) (s : SharedCells)
    → slice_get (numbered kind count cells ++ ys) p ≡ Some s → P p s
group_then P kind count cells ys front back =
    at_append P (numbered kind count cells) ys
    (λ p s e. subst (P p) (ap (of_kind kind cells) (let same : p ≡ 0 + p = omega arith in same)
    ∙ shared_from kind 0 count cells p s e) (front p))
    (λ p s e. subst (λ n. P (n + p) s) (sym (length-map-range_with_len (of_kind kind cells) 0 count)) (back p s e))

-- the index of a live table
abbrev pub place_among : List LiveTable → ℕ → ℕ
place_among [] n = 0
place_among (t ∷ ts) n = if t.number == n then 0 else suc (place_among ts n)

record IsAmong (live : List LiveTable) (n : ℕ) : Type 0 where
  table : LiveTable
  there : slice_get live (place_among live n) ≡ Some table
  number : table.number ≡ n

among_here : (u : LiveTable) (live : List LiveTable) (n : ℕ) → (u.number == n) ≡ true → IsAmong (u ∷ live) n
among_here u live n k = record { table = u; there = rw k refl; number = grind (arith, nat_tests, k) }

among_later : (u : LiveTable) (live : List LiveTable) (n : ℕ) → (u.number == n) ≡ false → IsAmong live n
    → IsAmong (u ∷ live) n
among_later u live n k more = record { table = more.table; there = rw k more.there; number = more.number }

among_is : (live : List LiveTable) (n p : ℕ) (t : LiveTable) → slice_get live p ≡ Some t → t.number ≡ n → IsAmong live n
among_is [] n p t e h = absurd (cc (e))
among_is (u ∷ live) n zero t e h =
    among_here u live n (let same : u.number ≡ n =
    ap (λ x. x.number) (some_is u t e) ∙ h in grind (arith, nat_tests, same))
among_is (u ∷ live) n (suc p) t e h =
    let more = among_is live n p t e h in by_test (u.number == n) (λ k. among_here u live n k)
    (λ k. among_later u live n k more)

-- the table at an index
table_at : (live : List LiveTable) (p : ℕ) (s : SharedCells) → slice_get (of_tables live) p ≡ Some s
    → (t : LiveTable) × (slice_get live p ≡ Some t) × (s ≡ record { res = res.Table t.number; cells = t.size })
table_at [] p s e = absurd (cc (e))
table_at (t ∷ live) zero s e = (t, refl, sym (some_is _ s e))
table_at (t ∷ live) (suc p) s e = table_at live p s e

place_of_table : (live : List LiveTable) → AreApart live → (p : ℕ) (t : LiveTable) → slice_get live p ≡ Some t
    → p ≡ place_among live t.number
place_of_table live apart p t e =
    let among = among_is live t.number p t e refl in
    apart p (place_among live t.number) t among.table e among.there (sym among.number)

size_of_table : (live : List LiveTable) → AreApart live → (p : ℕ) (t : LiveTable) (n q size : ℕ)
    → slice_get live p ≡ Some t
    → res.Table t.number ≡ res.Table n → slice_get live q ≡ Some (record { number = n; size = size }) → t.size ≡ size
size_of_table live apart p t n q size e r l =
    let number : t.number ≡ n = cc (r) in
    let same = apart p q t (record { number = n; size = size }) e l number in
    let here = sym e ∙ ap (slice_get live) same ∙ l in
    ap (λ u. u.size) (some_is t (record { number = n; size = size }) here)

-- the index of a resource among all
module _ (ksmps : ℕ) (names : SharedNames) (spaces : Spaces) (live : List LiveTable) where
  -- the number of global variables of a rate
  abbrev variables : Rate → ℕ
  variables r = length (at_rate names.variables r)

  abbrev pub position : Res → ℕ
  position (res.Gi n) = n
  position (res.Gk n) = variables rate.Init + n
  position (res.Ga n) = variables rate.Init + (variables rate.Control + n)
  position (res.Control n) = variables rate.Init + (variables rate.Control + (variables rate.Audio + n))
  position (res.Sound n) =
      variables rate.Init + (variables rate.Control + (variables rate.Audio + (length names.control + n)))
  position (res.ZakK n) =
      variables rate.Init + (variables rate.Control + (variables rate.Audio
      + (length names.control + (length names.sound + n))))
  position (res.ZakA n) =
      variables rate.Init + (variables rate.Control + (variables rate.Audio
      + (length names.control + (length names.sound + (spaces.control + n)))))
  position (res.Table n) =
      variables rate.Init + (variables rate.Control + (variables rate.Audio + (length names.control
      + (length names.sound + (spaces.control + (spaces.audio + place_among live n))))))

  pub record IsAt (p : ℕ) (s : SharedCells) : Type 0 where
    pub place : p ≡ position s.res
    pub cells : has_value s.res ≡ true → s.cells ≡ cell_count ksmps (res_rate s.res)
    pub size : (n q size : ℕ) → s.res ≡ res.Table n → slice_get live q ≡ Some (record { number = n; size = size })
        → s.cells ≡ size

  pub is_at : AreApart live → (p : ℕ) (s : SharedCells) → slice_get (shared_by ksmps names spaces live) p ≡ Some s
      → IsAt p s
  is_at apart =
      let a = variables rate.Init in
      let b = variables rate.Control in
      let c = variables rate.Audio in
      let d = length names.control in
      let e = length names.sound in
      group_then (λ p s. IsAt p s) res.Gi a 1 (from_gk ksmps names spaces live)
      (λ n. record { place = refl; cells = λ _. refl; size = λ m q z r l. absurd (cc (r)) })
      (group_then (λ p s. IsAt (a + p) s) res.Gk b 1 (from_ga ksmps names spaces live)
      (λ n. record { place = refl; cells = λ _. refl; size = λ m q z r l. absurd (cc (r)) })
      (group_then (λ p s. IsAt (a + (b + p)) s) res.Ga c ksmps (from_control ksmps names spaces live)
      (λ n. record { place = refl; cells = λ _. refl; size = λ m q z r l. absurd (cc (r)) })
      (group_then (λ p s. IsAt (a + (b + (c + p))) s) res.Control d 1 (from_sound ksmps names spaces live)
      (λ n. record { place = refl; cells = λ _. refl; size = λ m q z r l. absurd (cc (r)) })
      (group_then (λ p s. IsAt (a + (b + (c + (d + p)))) s) res.Sound e ksmps (from_zk ksmps names spaces live)
      (λ n. record { place = refl; cells = λ _. refl; size = λ m q z r l. absurd (cc (r)) })
      (group_then (λ p s. IsAt (a + (b + (c + (d + (e + p))))) s) res.ZakK spaces.control 1
      (from_za ksmps names spaces live)
      (λ n. record { place = refl; cells = λ _. refl; size = λ m q z r l. absurd (cc (r)) })
      (group_then (λ p s. IsAt (a + (b + (c + (d + (e + (spaces.control + p)))))) s) res.ZakA spaces.audio ksmps
      (of_tables live) (λ n. record { place = refl; cells = λ _. refl; size = λ m q z r l. absurd (cc (r)) })
      (λ p s h. let t = table_at live p s h in
      subst (IsAt (a + (b + (c + (d + (e + (spaces.control + (spaces.audio + p)))))))) (sym t.2)
      (record {
        place = ap (λ n. a + (b + (c + (d + (e + (spaces.control + (spaces.audio + n)))))))
            (place_of_table live apart p t.0 t.1);
        cells = λ k. absurd (cc (k));
        size =
            λ m q z r l. size_of_table live apart p t.0 m q z t.1 r l;
      }))))))))
