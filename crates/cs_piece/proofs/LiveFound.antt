-- The live tables of a composition, as a note finds them by their numbers.
use Rattle.std.proofs.Common.{◌≡◌, ℕ, ℤ, pos, ◌==◌, ◌&&◌, ◌||◌, Bool, true, false, not, List, [], ◌∷◌, length, map}
use Rattle.std.proofs.Common.{Option, Some, None, cond, if◌then◌else◌, refl, sym, ◌∙◌, ap, subst, arith}
use Rattle.std.specs.{Int.is_negative, List.filter, List.list_any, Option.is_some}
use Rattle.std.proofs.lemmas.{Bool.eqb-true, Bool.Decides.nat_tests}
use Rattle.cs_base.proofs.Tests.{by_test}
use Rattle.cs_layout.specs.declared.areas.LiveTable.{LiveTable}
use Rattle.cs_meaning.specs.Pieces.{Table, find_table}
use Rattle.cs_voice_meaning.specs.Placing.{IsLiveTable}
use Rattle.cs_voice.specs.{Memory.table_of, Tables.table_at, Tables.tables_of, VoiceData.made}
use Rattle.cs_voice.specs.declared.stage.PieceTable.{PieceTable}
use Rattle.cs_piece.specs.{Compositions.live_in, inner.Marked.Differ, inner.Marked.NoneHas}

abbrev as_live : Table → LiveTable
as_live t = record { number = t.number; size = t.size }

abbrev any_live : ℕ → List LiveTable → Bool
any_live n live = list_any (λ (l : LiveTable). l.number == n) live

or_rest : (a b : Bool) → a ≡ false → (a || b) ≡ true → b ≡ true
or_rest true b e h = absurd cc
or_rest false b e h = h

none_some : (o : Option (List ℤ)) → not (is_some o) ≡ true → o ≡ None
none_some None h = refl
none_some (Some x) h = absurd cc

-- if no table has a number, no live one has it
none_live : (n : ℕ) (cs : List Table) → NoneHas (λ (t : Table). t.number) n cs → any_live n (live_in cs) ≡ true → ⊥
none_live n [] h e = absurd cc
none_live n (c ∷ cs) h e = by (not (is_some c.frozen)) (none_live n cs h.1) e
  where
    rest : List Table
    rest = filter (λ (t : Table). not (is_some t.frozen)) cs

    by : (b : Bool) → (any_live n (live_in cs) ≡ true → ⊥) → any_live n (map as_live (cond b (c ∷ rest) rest)) ≡ true
        → ⊥
    by true later f = by_test (c.number == n)
        (λ hit. absurd (h.0 (eqb-true c.number n hit)))
        (λ miss. later (or_rest (c.number == n) (any_live n (live_in cs)) miss f))
    by false later f = later f

not_negative : (n : ℕ) → not (is_negative (pos n)) ≡ true
not_negative n = grind (arith, nat_tests)

pos_test : (k n : ℕ) → (not (is_negative (pos n)) && k == n) ≡ (k == n)
pos_test k n = ap (λ b. b && k == n) (not_negative n)

first_is : {X : Type 0} (x y : X) (xs ys : List X) → x ∷ xs ≡ y ∷ ys → x ≡ y
first_is x y xs ys e = cc

rest_is : {X : Type 0} (x y : X) (xs ys : List X) → x ∷ xs ≡ y ∷ ys → xs ≡ ys
rest_is x y xs ys e = cc

-- a live table of the composition is found by its number, made or not
pub live_found : (ts : List PieceTable) (flags : List Bool) (cs : List Table) (n : ℕ)
    → Differ (λ (t : Table). t.number) cs → map table_of ts ≡ map made cs
    → length flags ≡ length ts → any_live n (live_in cs) ≡ true → IsLiveTable (tables_of ts flags) n
live_found [] flags [] n d e long any = absurd cc
live_found [] flags (c ∷ cs) n d e long any = absurd cc
live_found (x ∷ ts) flags [] n d e long any = absurd cc
live_found (x ∷ ts) [] (c ∷ cs) n d e long any = absurd (omega arith)
live_found (x ∷ ts) (m ∷ flags) (c ∷ cs) n d e long any =
    by_test (x.number == n) here
    (later (live_found ts flags cs n d.1 (rest_is (table_of x) (made c) (map table_of ts) (map made cs) e)
    (omega (arith, long))))
  where
    rest : List Table
    rest = filter (λ (t : Table). not (is_some t.frozen)) cs

    same : table_of x ≡ made c
    same = first_is (table_of x) (made c) (map table_of ts) (map made cs) e

    number : c.number ≡ x.number
    number = sym (ap (λ (t : Table). t.number) same)

    found_if : Bool → Option Table
    found_if b = if b then Some (table_at x m) else find_table (tables_of ts flags) (pos n)

    here : (x.number == n) ≡ true → IsLiveTable (tables_of (x ∷ ts) (m ∷ flags)) n
    here hit = by (not (is_some c.frozen)) refl any
      where
        is : c.number ≡ n
        is = number ∙ eqb-true x.number n hit

        by : (b : Bool) → not (is_some c.frozen) ≡ b → any_live n (map as_live (cond b (c ∷ rest) rest)) ≡ true
            → IsLiveTable (tables_of (x ∷ ts) (m ∷ flags)) n
        by true live f = record {
          table = table_at x m;
          found = ap found_if (pos_test x.number n ∙ hit);
          live = ap (λ (t : Table). t.frozen) same ∙ none_some c.frozen live;
        }
        by false live f = absurd (none_live n cs (subst (λ k. NoneHas (λ (t : Table). t.number) k cs) is d.0) f)

    later : (any_live n (live_in cs) ≡ true → IsLiveTable (tables_of ts flags) n) → (x.number == n) ≡ false
        → IsLiveTable (tables_of (x ∷ ts) (m ∷ flags)) n
    later there miss =
        let r = there (by (not (is_some c.frozen)) any) in
        record { table = r.table; found = ap found_if (pos_test x.number n ∙ miss) ∙ r.found; live = r.live }
      where
        by : (b : Bool) → any_live n (map as_live (cond b (c ∷ rest) rest)) ≡ true → any_live n (live_in cs) ≡ true
        by true f = or_rest (c.number == n) (any_live n (live_in cs)) (ap (λ k. k == n) number ∙ miss) f
        by false f = f
