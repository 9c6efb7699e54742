-- A table is made: the state represents the moment after it.
use Rattle.std.proofs.Common.{◌≡◌, ℕ, ℤ, pos, zero, suc, ◌+◌, ◌<◌, ◌≤◌, Bool, true, false, not, List, ◌∷◌, length, []}
use Rattle.std.proofs.Common.{slice_index_or, Option, Some, None, if◌then◌else◌, refl, sym, ◌∙◌, ap, subst, arith}
use Rattle.std.proofs.Common.{ltb-true, nat_le, nat_lt}
use Rattle.std.specs.{Global.Vec, Option.is_some}
use Rattle.std.proofs.lemmas.Bool.{and_parts}
use Rattle.cs_base.specs.declared.resource.Res.{Res}
use Rattle.cs_ir.specs.Waves.{Wave}
use Rattle.cs_cells.specs.{Access.Access, Access.AllowsBelow, Areas.IsLaid, Areas.word_count}
use Rattle.cs_cells.specs.declared.footprint.Area.{Area}
use Rattle.cs_cells.specs.Cells.{Cells, cell, in_area}
use Rattle.cs_cells.proofs.Laid.{area_within}
use Rattle.cs_meaning.specs.Plain.{Table, find_table, shared_with}
use Rattle.cs_rwset.specs.Footprints.{stock_of}
use Rattle.cs_machine.specs.Access.{CanSet, row_wave}
use Rattle.cs_voice_meaning.specs.Placing.{HasArea, area_of, with_wave}
use Rattle.cs_voice_meaning.proofs.{Naming.found_number, Placed.area_at, Shared.written_reads}
use Rattle.cs_piece.specs.VoicesOfNotes.{Hold}
use Rattle.cs_voice.specs.{Starts.piece_at, VoiceData.VoiceData}
use Rattle.cs_piece_meaning.specs.{Moments.Composition, Moments.Moment, Starts.made_table, Starts.with_points}
use Rattle.cs_life.specs.{Standing.StandsFor, declared.life.Life.Life, inner.Doing.CanBeMade}
use Rattle.cs_life.specs.inner.Marks.{PointsWritten, has_cells, is_in_cells, marked}
use Rattle.cs_life.proofs.Flags.{all_play_on, cells_of_first, flags_fit, found_at, marked_flags, marked_long}
use Rattle.cs_base.specs.declared.resource.Res.TheVariants as res

-- a row is 0 after its numbers
pub row_ends : (row : List ℤ) (n : ℕ) → length row ≡ n → (j : ℕ) → n ≤ j → row_wave row j ≡ pos 0
row_ends [] n e j h = refl
row_ends (x ∷ row) n e zero h = absurd (omega arith)
row_ends (x ∷ row) n e (suc j) h = row_ends row (length row) refl j (omega arith)

-- ---- the moment

fit : {c : Composition} {life : Life} {voices : List VoiceData} {cells : Cells} {m : Moment}
    → StandsFor c life voices cells m → length life.made.items ≡ length life.stage.tables.now
fit {c} {life} {m = m} h =
    flags_fit life.stage.tables.now c.tables m.made life.made.items h.stand.stage_is.tables h.stand.made

module _ {c : Composition} {life : Life} {v : Vec Bool} {voices : List VoiceData} {cells new : Cells} {m : Moment}
    (n : ℕ) (points : List ℤ) (flags : v.items ≡ marked n life.stage.tables.now life.made.items)
    (h : StandsFor c life voices cells m) where
  -- more flags, and cells that hold what notes share
  flagged : (s : Res → Wave) → Hold life.stage.layout.now (cell new) s → length new ≡ length cells
      → StandsFor c (record life { made = v }) voices new (record m { made = n ∷ m.made; shared = s })
  flagged s hold long = record {
    stand = record {
      stage_is = h.stand.stage_is;
      made = flags
          ∙ ap (marked n life.stage.tables.now) h.stand.made
          ∙ marked_flags life.stage.tables.now c.tables n m.made h.stand.stage_is.tables;
      hold = hold;
      long = long ∙ h.stand.long;
      play = all_play_on c life.stage life.made.items v.items (fit h)
          (ap length flags ∙ marked_long n life.stage.tables.now life.made.items (fit h)) voices m.active h.stand.play;
      in_order = h.stand.in_order;
      few = h.stand.few;
    };
    layout = h.layout;
    zones = h.zones;
    due = h.due;
    kept = h.kept;
    started = h.started;
    not_started = h.not_started;
  }

  same_cells : new ≡ cells → StandsFor c (record life { made = v }) voices new (record m { made = n ∷ m.made })
  same_cells e = flagged m.shared (subst (λ x. Hold life.stage.layout.now (cell x) m.shared) (sym e) h.stand.hold)
      (ap length e)

  by_table : length new ≡ length cells → (o : Option Table)
      → PointsWritten (is_in_cells o) life.stage.layout.now n points cells new
      → StandsFor c (record life { made = v }) voices new (with_points o n points (record m { made = n ∷ m.made }))
  by_table long None w = same_cells w
  by_table long (Some t) w = by (is_some t.frozen) w
    where
      after : Res → Wave
      after = shared_with (res.Table n) (λ j. slice_index_or points j (pos 0)) m.shared

      by : (frozen : Bool) → PointsWritten (not frozen) life.stage.layout.now n points cells new
          → StandsFor c (record life { made = v }) voices new
          (if frozen then record m { made = n ∷ m.made } else record m { made = n ∷ m.made; shared = after })
      by true w = same_cells w
      by false w = flagged after
          (subst (λ x. Hold life.stage.layout.now x after)
          (sym (w.3 ∙ ap (λ o. with_wave o (row_wave points) (cell cells)) (sym w.1)))
          (written_reads life.stage.layout.now (stock_of life.stage.layout.now)
          (piece_at life.stage life.made.items []) (HasArea life.stage.layout.now)
          (h.stand.stage_is.placed life.made.items [] (fit h)) (λ g has. has) (res.Table n) w.0 (row_wave points)
          (cell cells)
          m.shared w.1 (row_ends points w.0.length w.2) h.stand.hold))
          long

  -- a table has been made: if the points of the first one with the number are cells, they were written;
  -- otherwise all cells stay
  pub stands_made : (row : List ℤ) → row ≡ points → (b : Bool) → has_cells life.stage.tables.now n ≡ b
      → PointsWritten b life.stage.layout.now n row cells new → length new ≡ length cells
      → StandsFor c (record life { made = v }) voices new (made_table c n points m)
  stands_made row same b there w long =
      by_table long (find_table c.tables (pos n))
      (subst (λ x. PointsWritten x life.stage.layout.now n points cells new)
      (sym there ∙ cells_of_first life.stage.tables.now c.tables n h.stand.stage_is.tables)
      (subst (λ xs. PointsWritten b life.stage.layout.now n xs cells new) same w))

-- ---- its area

record IsLive (o : Option Table) : Type 0 where
  t : Table
  is : o ≡ Some t
  live : t.frozen ≡ None

live_one : (o : Option Table) → is_in_cells o ≡ true → IsLive o
live_one None h = absurd cc
live_one (Some t) h = record { t = t; is = refl; live = unfrozen t.frozen h }
  where
    unfrozen : (f : Option (List ℤ)) → not (is_some f) ≡ true → f ≡ None
    unfrozen None h = refl
    unfrozen (Some points) h = absurd cc

-- each cell of an area of the layout is one of the piece
in_piece : (access : Access) (areas : List Area) (g : Res) (a : Area) → IsLaid areas
    → area_of areas g ≡ Some a → AllowsBelow access (word_count areas) → CanSet access a
in_piece access areas g a laid at allows =
    let place = area_at areas g a at in
    let end : a.first + a.length ≤ word_count areas = area_within areas place.0 a laid place.1 in
    record {
      can = λ k inside. allows.set k (let below : k < a.first + a.length = before k inside in omega arith);
      within = λ k inside. allows.there k (let below : k < a.first + a.length = before k inside in omega arith);
    }
  where
    before : (k : ℕ) → in_area (Some a) k ≡ true → k < a.first + a.length
    before k h = ltb-true k (a.first + a.length) (and_parts (nat_le a.first k) (nat_lt k (a.first + a.length)) h).1

-- the area of a table that is defined can be written, and has a cell for each point
pub area_ready : (access : Access) (c : Composition) (life : Life) (voices : List VoiceData) (cells : Cells)
    (m : Moment) (n : ℕ) (row : List ℤ)
    (size gen : ℤ) (args : List ℤ) → StandsFor c life voices cells m → CanBeMade c n size gen args
    → has_cells life.stage.tables.now n ≡ true
    → pos (length row) ≡ size → AllowsBelow access (word_count life.setup.now.layout)
    → (x : Area) × (area_of life.stage.layout.now (res.Table n) ≡ Some x) × (length row ≡ x.length)
    × CanSet access x
area_ready access c life voices cells m n row size gen args h given there long allows =
    let ts = life.stage.tables.now in
    let e = h.stand.stage_is.tables in
    let flags = life.made.items in
    let fit : length flags ≡ length ts = flags_fit ts c.tables m.made flags e h.stand.made in
    let o = live_one (find_table c.tables (pos n)) (sym (cells_of_first ts c.tables n e) ∙ there) in
    let w = found_at ts c.tables flags (pos n) o.t e fit o.is in
    let live : w.u.frozen ≡ None = w.frozen ∙ o.live in
    let number : w.u.number ≡ n = w.number ∙ found_number c.tables (pos n) o.t o.is in
    let has : HasArea life.stage.layout.now (res.Table w.u.number) =
    (h.stand.stage_is.can_be_played flags fit (pos n) w.u w.found).area live in
    let placed = (h.stand.stage_is.placed flags [] fit).tables (pos n) w.u w.found live in
    let at : area_of life.stage.layout.now (res.Table n) ≡ Some has.0 =
    ap (λ k. area_of life.stage.layout.now (res.Table k)) (sym number) ∙ has.1 in
    let sizes : pos (length row) ≡ pos o.t.size = long ∙ sym (given.one_size o.t o.is) in
    let many : length row ≡ o.t.size = cc in (
      has.0,
      at,
      many ∙ sym w.size ∙ sym (placed.size has.0 has.1),
      in_piece access life.stage.layout.now (res.Table n) has.0 h.stand.stage_is.laid at
          (subst (λ areas. AllowsBelow access (word_count areas)) (sym h.layout) allows),
    )
