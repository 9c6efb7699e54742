-- Voices go on playing after more tables have been made.
use Rattle.std.proofs.Common.{◌≡◌, ℕ, ℤ, pos, suc, ◌==◌, ◌&&◌, ◌||◌, Bool, true, false, not, List, ◌∷◌, length, map, []}
use Rattle.std.proofs.Common.{unsigned_abs, Option, Some, if◌then◌else◌, refl, sym, ◌∙◌, ap, arith}
use Rattle.std.specs.{Int.is_negative, Option.is_some, List.AllZip, List.list_any}
use Rattle.std.proofs.lemmas.Bool.Decides.{nat_tests}
use Rattle.cs_cells.specs.declared.footprint.Footprint.{Footprint}
use Rattle.cs_ir.specs.Instruments.{Numbered}
use Rattle.cs_piece_meaning.specs.Moments.{Composition, Active}
use Rattle.cs_meaning.specs.Plain.{Table, find_table}
use Rattle.cs_voice.specs.{Starts.sheet_at, Tables.table_at, Tables.tables_of, Memory.table_of}
use Rattle.cs_voice.specs.{declared.stage.Stage.Stage, declared.stage.PieceTable.PieceTable}
use Rattle.cs_voice.specs.VoiceData.{VoiceData, IsOn, made}
use Rattle.cs_life.proofs.Orders.{same_length}
use Rattle.cs_life.specs.Standing.{Plays, flags_of}
use Rattle.cs_life.specs.inner.Marks.{has_cells, is_in_cells, marked}

-- ---- flags

first_of : (t : PieceTable) (c : Table) (ts : List PieceTable) (cs : List Table)
    → map table_of (t ∷ ts) ≡ map made (c ∷ cs)
    → table_of t ≡ made c
first_of t c ts cs e = cc

later_of : (t : PieceTable) (c : Table) (ts : List PieceTable) (cs : List Table)
    → map table_of (t ∷ ts) ≡ map made (c ∷ cs)
    → map table_of ts ≡ map made cs
later_of t c ts cs e = cc

flags_long : (cs : List Table) (ns : List ℕ) → length (flags_of cs ns) ≡ length cs
flags_long [] ns = refl
flags_long (c ∷ cs) ns = ap suc (flags_long cs ns)

pub flags_fit : (ts : List PieceTable) (cs : List Table) (ns : List ℕ) (flags : List Bool)
    → map table_of ts ≡ map made cs
    → flags ≡ flags_of cs ns
    → length flags ≡ length ts
flags_fit ts cs ns flags e is = ap length is ∙ flags_long cs ns ∙ sym (same_length table_of made ts cs e)

-- after the tables with a number have been made, the flags are those for one more number
pub marked_flags : (ts : List PieceTable) (cs : List Table) (n : ℕ) (ns : List ℕ) → map table_of ts ≡ map made cs
    → marked n ts (flags_of cs ns) ≡ flags_of cs (n ∷ ns)
marked_flags [] [] n ns e = refl
marked_flags (t ∷ ts) (c ∷ cs) n ns e =
    let here : t.number ≡ c.number = ap (λ (x : Table). x.number) (first_of t c ts cs e) in
    let later = marked_flags ts cs n ns (later_of t c ts cs e) in
    λ i. ((n == here i) || list_any (λ k. k == c.number) ns) ∷ later i
marked_flags _ _ n ns e = absurd cc

pub marked_long : (n : ℕ) (ts : List PieceTable) (fs : List Bool) → length fs ≡ length ts
    → length (marked n ts fs) ≡ length ts
marked_long n (t ∷ ts) (f ∷ fs) h = ap suc (marked_long n ts fs (omega arith))
marked_long n _ _ h = h

not_negative : (n : ℕ) → not (is_negative (pos n)) ≡ true
not_negative n = grind (arith, nat_tests)

pos_test : (k n : ℕ) → (not (is_negative (pos n)) && k == n) ≡ (k == n)
pos_test k n = ap (λ b. b && k == n) (not_negative n)

in_branches : (b : Bool) (c : Table) (o : Option Table)
    → (if b then not (is_some c.frozen) else is_in_cells o) ≡ is_in_cells (if b then Some c else o)
in_branches true c o = refl
in_branches false c o = refl

-- the points of the first table with a number are cells in the stage if and only if they are in the
-- composition
pub cells_of_first : (ts : List PieceTable) (cs : List Table) (n : ℕ) → map table_of ts ≡ map made cs
    → has_cells ts n ≡ is_in_cells (find_table cs (pos n))
cells_of_first [] [] n e = refl
cells_of_first (t ∷ ts) (c ∷ cs) n e =
    let head = first_of t c ts cs e in
    let number : t.number ≡ c.number = ap (λ (x : Table). x.number) head in
    let frozen : is_some t.points ≡ is_some c.frozen = ap (λ (x : Table). is_some x.frozen) head in
    (λ i. if number i == n then not (frozen i) else has_cells ts n)
    ∙ (λ i. if (sym (pos_test c.number n)) i then not (is_some c.frozen) else cells_of_first ts cs n
    (later_of t c ts cs e) i)
    ∙ in_branches (not (is_negative (pos n)) && c.number == n) c (find_table cs (pos n))
cells_of_first _ _ n e = absurd cc

-- ---- tables that notes find

-- once all have been made, both lists are the same
pub all_made : (ts : List PieceTable) (fs : List Bool) → length fs ≡ length ts
    → map made (tables_of ts fs) ≡ map table_of ts
all_made [] fs h = refl
all_made (t ∷ ts) [] h = absurd (omega arith)
all_made (t ∷ ts) (f ∷ fs) h = ap (λ rest. table_of t ∷ rest) (all_made ts fs (omega arith))

-- a table of the composition is in the stage, made or not
pub record IsFound (ts : List PieceTable) (flags : List Bool) (z : ℤ) (t : Table) : Type 0 where
  pub u : Table
  pub found : find_table (tables_of ts flags) z ≡ Some u
  pub number : u.number ≡ t.number
  pub size : u.size ≡ t.size
  pub frozen : u.frozen ≡ t.frozen

pub found_at : (ts : List PieceTable) (cs : List Table) (flags : List Bool) (z : ℤ) (t : Table)
    → map table_of ts ≡ map made cs → length flags ≡ length ts
    → find_table cs z ≡ Some t → IsFound ts flags z t
found_at [] [] flags z t e h found = absurd cc
found_at [] (c ∷ cs) flags z t e h found = absurd cc
found_at (x ∷ ts) [] flags z t e h found = absurd cc
found_at (x ∷ ts) (c ∷ cs) [] z t e h found = absurd (omega arith)
found_at (x ∷ ts) (c ∷ cs) (f ∷ flags) z t e h found =
    let head = first_of x c ts cs e in
    let same : x.number ≡ c.number = ap (λ (y : Table). y.number) head in
    let w = here_or_later (not (is_negative z) && c.number == unsigned_abs z)
    (not (is_negative z) && x.number == unsigned_abs z)
    (λ i. not (is_negative z) && same i == unsigned_abs z) head
    (λ later. found_at ts cs flags z t (later_of x c ts cs e) (omega arith) later) found in
    record { u = w.0; found = w.1; number = w.2; size = w.3; frozen = w.4 }
  where
    here_or_later : (b d : Bool) → d ≡ b → table_of x ≡ made c → (find_table cs z ≡ Some t → IsFound ts flags z t)
        → (if b then Some c else find_table cs z) ≡ Some t
        → (u : Table) × ((if d then Some (table_at x f) else find_table (tables_of ts flags) z) ≡ Some u)
        × (u.number ≡ t.number) × (u.size ≡ t.size) × (u.frozen ≡ t.frozen)
    here_or_later true true k head later is =
        let this : c ≡ t = cc in
        let same : table_of x ≡ made t = head ∙ ap made this in (
          table_at x f,
          refl,
          ap (λ (y : Table). y.number) same,
          ap (λ (y : Table). y.size) same,
          ap
              (λ (y : Table). y.frozen) same,
        )
    here_or_later false false k head later is = let w = later is in (w.u, w.found, w.number, w.size, w.frozen)
    here_or_later _ _ k head later is = absurd cc

-- ---- voices

module _ (c : Composition) (stage : Stage) (fs gs : List Bool) (long : length fs ≡ length stage.tables.now)
    (longer : length gs ≡ length stage.tables.now) where
  same_tables : map made (tables_of stage.tables.now gs) ≡ map made (tables_of stage.tables.now fs)
  same_tables = all_made stage.tables.now gs longer ∙ sym (all_made stage.tables.now fs long)

  sheet_on : (i : Numbered) (foot : Footprint) (v : VoiceData) → IsOn (sheet_at i v.age foot stage fs v.fields) v
      → IsOn (sheet_at i v.age foot stage gs v.fields) v
  sheet_on i foot v h = record {
    number = h.number;
    age = h.age;
    head = h.head;
    spaces = h.spaces;
    tables = same_tables ∙ h.tables;
    fields = h.fields;
    areas = h.areas;
    zones = h.zones;
    foot = h.foot;
    perf = h.perf;
  }

  pub plays_on : (v : VoiceData) (a : Active) → Plays c stage fs v a → Plays c stage gs v a
  plays_on v a h = record {
    i = h.i;
    foot = h.foot;
    of = h.of;
    number = h.number;
    until = h.until;
    fields = h.fields;
    on = sheet_on h.i h.foot v h.on;
    valid = h.valid;
    note = record {
      sheet = refl;
      locals = h.note.locals;
      kept = h.note.kept;
      units = h.note.units;
      delays = h.note.delays;
      outs = h.note.outs;
      ended = h.note.ended;
      plays = h.note.plays;
    };
  }

  pub all_play_on : (vs : List VoiceData) (notes : List Active) → AllZip (Plays c stage fs) vs notes
      → AllZip (Plays c stage gs) vs notes
  all_play_on [] [] h = tt
  all_play_on (v ∷ vs) (a ∷ notes) h = (plays_on v a h.0, all_play_on vs notes h.1)
  all_play_on _ _ h = absurd h
