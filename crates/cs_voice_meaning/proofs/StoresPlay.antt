-- Stores into tables, in the voice's cells and in the plain world.
use Rattle.std.proofs.lemmas.{Grind.common_steps, Bool.Decides.nat_tests}
use Rattle.std.proofs.Common.{◌≡◌, ℕ, ℤ, pos, zero, suc, ◌<◌, ◌≤◌, false, ◌==◌, List, Some, refl, sym, ◌∙◌, subst}
use Rattle.std.proofs.Common.{arith}
use Rattle.cs_base.specs.declared.resource.Res.{Res}
use Rattle.cs_gen.specs.{Places.place_of_index, Points.len_of}
use Rattle.cs_ir.specs.{Resources.Stock, Waves.Wave, Waves.operand}
use Rattle.cs_cells.specs.declared.footprint.Area.{Area}
use Rattle.cs_meaning.specs.{Pieces.Piece, Pieces.Table, Pieces.stored, Pieces.places_of_indices, Plain.shared_with}
use Rattle.cs_voice_meaning.specs.Placing.{area_of, IsPlaced, IsTablePlaced}
use Rattle.cs_voice_meaning.specs.VoiceWorld.{read_cells, write_cells}
use Rattle.cs_voice_meaning.proofs.{Models.stores, Shared.Reads, Shared.written_reads, Shared.past_end}
use Rattle.cs_base.specs.declared.resource.Res.TheVariants as res

-- ---- points that are stored

within_table : (size : ℕ) (z : ℤ) → 0 < size → place_of_index (len_of size) z < size
within_table size z some = omega (arith, some)

differ : (m n len : ℕ) → m < len → len ≤ n → (m == n) ≡ false
differ m n len low high = grind (arith, nat_tests)

stored_past : (place : ℕ → ℕ) (sig w : Wave) (n j len : ℕ) → ((i : ℕ) → place i < len) → len ≤ j
    → stored place sig n w j ≡ w j
stored_past place sig w zero j len low high = refl
stored_past place sig w (suc n) j len low high =
    grind (arith, common_steps, differ, stored_past place sig w n j len low high)

module _ (areas : List Area) (stock : Stock) (piece : Piece) (N : Res → Type 0) (placed : IsPlaced areas stock piece)
    (has : (g : Res) → N g → (area : Area) × (area_of areas g ≡ Some area)) where
  read_past : (n j : ℕ) (a : Area) (c : ℕ → ℤ) → area_of areas (res.Table n) ≡ Some a → a.length ≤ j
      → read_cells areas (res.Table n) c j ≡ pos 0
  read_past n j a c at high = grind (arith, common_steps, past_end)

  pub stored_reads : (t : Table) (ws : List Wave) (n : ℕ) (c : ℕ → ℤ) (s : Res → Wave) → N (res.Table t.number)
      → IsTablePlaced areas stock t → Reads areas N c s → Reads areas N (write_cells areas (res.Table t.number)
      (stores t ws n (read_cells areas (res.Table t.number) c)) c)
      (shared_with (res.Table t.number) (stores t ws n (read_cells areas (res.Table t.number) c)) s)
  stored_reads t ws n c s named is r =
      let a = has (res.Table t.number) named in
      let g : Res = res.Table t.number in
      written_reads areas stock piece N placed has g a.0 (stores t ws n (read_cells areas g c)) c s a.1
      (λ j high. stored_past (places_of_indices t (operand 1 ws)) (operand 0 ws) (read_cells areas g c) n j a.0.length
      (λ i. subst (λ k. places_of_indices t (operand 1 ws) i < k) (sym (is.size a.0 a.1))
      (within_table t.size (operand 1 ws i) is.some)) high ∙ read_past t.number j a.0 c a.1 high) r
