-- A code of cycles does the same in a piece whose tables have all been made.
use Rattle.std.proofs.Common.{◌≡◌, ℕ, ℤ, pos, ◌+◌, ◌&&◌, ◌==◌, Bool, true, false, not, List, [], ◌∷◌, map, unsigned_abs}
use Rattle.std.proofs.Common.{Option, Some, None, if◌then◌else◌, refl, ◌∙◌, ap}
use Rattle.std.specs.{Int.is_negative, Option.option_map}
use Rattle.std.proofs.lemmas.Bool.{and_parts}
use Rattle.cs_base.specs.{declared.resource.Rate.Rate, declared.resource.Res.Res}
use Rattle.cs_words.specs.Catalogue.{row_of, takes_table}
use Rattle.cs_words.specs.{declared.catalogue.Opcode.Opcode, declared.catalogue.Shape.Shape, Generators.Generators}
use Rattle.cs_ir.specs.{Registers.rate_at, Cycles.is_of_cycle, Cycles.are_of_cycle, Resources.reaches}
use Rattle.cs_ir.specs.{declared.op.Act.Act, declared.op.Op.Op, declared.op.Reach.Reach, declared.register.Reg.Reg}
use Rattle.cs_ir.specs.Machine.{Machine, acts, in_world, is_done, step, run, written}
use Rattle.cs_ir.specs.Waves.{Wave, operand, silence}
use Rattle.cs_cells.specs.declared.footprint.Area.{Area}
use Rattle.cs_meaning.specs.Model.{has_run, store_at, store_into, unit_does, unit_points, zak_does}
use Rattle.cs_meaning.specs.Pieces.{Piece, Table, find_table, index, may_touch, read_points}
use Rattle.cs_voice_meaning.specs.VoiceWorld.{Playing, VoiceState, has_played, played, read_cells, voice_model}
use Rattle.cs_voice_meaning.specs.VoiceWorld.{voice_world}
use Rattle.cs_voice.specs.VoiceData.{made}
use Rattle.cs_words.specs.declared.catalogue.Shape.TheVariants as shape
use Rattle.cs_ir.specs.declared.op.Act.TheVariants as act

found_either : (b : Bool) (t : Table) (more less : Option Table) → more ≡ option_map made less
    → (if b then Some (made t) else more) ≡ option_map made (if b then Some t else less)
found_either true t more less h = refl
found_either false t more less h = h

pub find_made : (ts : List Table) (n : ℤ) → find_table (map made ts) n ≡ option_map made (find_table ts n)
find_made [] n = refl
find_made (t ∷ ts) n =
    found_either (not (is_negative n) && t.number == unsigned_abs n) t (find_table (map made ts) n) (find_table ts n)
    (find_made ts n)

read_made : (shared : Res → Wave) (o : Option Table) → read_points shared (option_map made o) ≡ read_points shared o
read_made shared None = refl
read_made shared (Some t) = refl

-- a piece whose tables have all been made, with any generators
abbrev pub all_made : Generators → Piece → Piece
all_made g piece = record piece { tables = map made piece.tables; generators = g }

module _ (areas : List Area) (piece : Piece) (g : Generators) where
  points_same : (opcode : Opcode) (p : Playing) (x : VoiceState)
      → unit_points (voice_model areas (all_made g piece)) opcode p x ≡ unit_points (voice_model areas piece) opcode p x
  points_same opcode p x =
      ap (λ points. if takes_table opcode then points else [])
      (ap (read_points (λ h. read_cells areas h x.shared)) (find_made piece.tables p.table)
      ∙ read_made (λ h. read_cells areas h x.shared) (find_table piece.tables p.table))

  plays_same : (opcode : Opcode) (r : Rate) (u : ℕ) (reach : Reach) (ws : List Wave) (o : Option Playing)
      (x : VoiceState)
      → unit_does (voice_model areas (all_made g piece)) opcode r u reach ws o x ≡ unit_does (voice_model areas piece)
      opcode r u reach ws o x
  plays_same opcode r u reach ws None x = refl
  plays_same opcode r u reach ws (Some p) x =
      ap (λ points. if may_touch opcode reach p.table then has_run u
      (has_played r p (played piece.head.ksmps r p ws points)) x else (x, silence)) (points_same opcode p x)

  into_same : (r : Rate) (ws : List Wave) (o : Option Table) (x : VoiceState)
      → store_into (voice_model areas (all_made g piece)) r ws (option_map made o) x ≡ store_into
      (voice_model areas piece) r ws o x
  into_same r ws None x = refl
  into_same r ws (Some t) x = refl

  store_same : (r : Rate) (reach : Reach) (ws : List Wave) (k : Option ℕ) (x : VoiceState)
      → store_at (voice_model areas (all_made g piece)) r reach ws k x ≡ store_at (voice_model areas piece) r reach ws k
      x
  store_same r reach ws None x = refl
  store_same r reach ws (Some n) x =
      ap (λ y. if reaches reach n then y else x)
      (ap (λ o. store_into (voice_model areas (all_made g piece)) r ws o x) (find_made piece.tables (pos n))
      ∙ into_same r ws (find_table piece.tables (pos n)) x)

  zak_same : (sh : Shape) (reach : Reach) (ws : List Wave) (x : VoiceState)
      → zak_does (voice_model areas (all_made g piece)) sh reach ws x ≡ zak_does (voice_model areas piece) sh reach ws x
  zak_same shape.ZakMix reach ws x = refl
  zak_same sh reach ws x = refl

  acts_same : (t : Act) (into : Reg) (ws : List Wave) (m : Machine VoiceState) → is_of_cycle t ≡ true
      → acts (voice_world areas (all_made g piece)) t into ws m ≡ acts (voice_world areas piece) t into ws m
  acts_same (act.Start opcode k) into ws m h = absurd (cc)
  acts_same act.Seek into ws m h = absurd (cc)
  acts_same act.Ask into ws m h = absurd (cc)
  acts_same (act.Unit opcode k reach) into ws m h =
      ap (λ done. written piece.head.ksmps opcode into done m)
      (plays_same opcode (rate_at into) k reach ws (m.world.units k) m.world)
  acts_same (act.Store reach) into ws m h =
      ap (λ x. in_world x m) (store_same (rate_at into) reach ws (index (operand 2 ws 0)) m.world)
  acts_same (act.Zak opcode reach) into ws m h =
      ap (λ done. written piece.head.ksmps opcode into done m) (zak_same (row_of opcode).shape reach ws m.world)
  acts_same _ into ws m h = refl

  pub run_same : (place : ℕ) (ops : List Op) (m : Machine VoiceState) → are_of_cycle ops ≡ true
      → run (voice_world areas (all_made g piece)) place ops m ≡ run (voice_world areas piece) place ops m
  run_same place [] m h = refl
  run_same place (op ∷ ops) m h =
      let both = and_parts (is_of_cycle op.act) (are_of_cycle ops) h in
      ap (λ n. run (voice_world areas (all_made g piece)) (place + 1) ops
      (if is_done (voice_world areas piece) place m then n else m))
      (acts_same op.act op.into (map m.regs op.from) m both.0)
      ∙ run_same (place + 1) ops (step (voice_world areas piece) place op m) both.1
