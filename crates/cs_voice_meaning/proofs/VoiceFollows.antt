-- The voice's world follows the plain world of the same piece.
use Rattle.std.proofs.Common.{◌≡◌, ℤ, List, Some, sym, ap, subst}
use Rattle.cs_base.specs.declared.resource.Res.{Res}
use Rattle.cs_ir.specs.Resources.{Stock}
use Rattle.cs_cells.specs.declared.footprint.Area.{Area}
use Rattle.cs_words.specs.Generators.{Generators}
use Rattle.cs_meaning.specs.{Pieces.Piece, Plain.plain, Plain.plain_model}
use Rattle.cs_ugen.specs.Generators.{pace_of, the_generators}
use Rattle.cs_voice_meaning.specs.{Placing.area_of, Placing.IsPlaced, VoiceWorld.voice_model, VoiceWorld.voice_world}
use Rattle.cs_voice_meaning.specs.Follows.{Kinds, PlaysUnit, SameState}
use Rattle.cs_voice_meaning.proofs.{Alikes.Follows, Models.ModelFollows, Models.models_follow, StoresPlay.stored_reads}
use Rattle.cs_voice_meaning.proofs.Shared.{Reads, held_reads, cleared_reads}
use Rattle.cs_voice_meaning.proofs.UnitsPlay.{starts_to_play, plays_on, result_same}

module _ (areas : List Area) (stock : Stock) (piece : Piece) (kinds : Kinds) (N : Res → Type 0)
    (earlier : List (List ℤ))
    (placed : IsPlaced areas stock piece) (generators : piece.generators ≡ the_generators (pace_of piece.head))
    (has : (g : Res) → N g → (area : Area) × (area_of areas g ≡ Some area)) where
  model_follows : ModelFollows areas stock piece kinds N (Reads areas N)
      (λ u p h. PlaysUnit (pace_of piece.head) (kinds u) p h) (voice_model areas piece) (plain_model piece)
  model_follows = record {
    load = λ g cells shared n s. s g n;
    save = held_reads areas stock piece N placed has;
    store = stored_reads areas stock piece N placed has;
    clear = cleared_reads areas stock piece N placed has;
    start = λ opcode r u is kind unit.
        subst (λ k. PlaysUnit (pace_of piece.head) k ((voice_model areas piece).start opcode r is)
        ((plain_model piece).start opcode r is)) (sym kind) (starts_to_play (pace_of piece.head) opcode r is unit);
    delay = ap (λ (g : Generators). g.delay) (sym generators);
    table = λ u p h plays. plays.table;
    plays = λ opcode r u ws points p h kind plays.
        let own : PlaysUnit (pace_of piece.head) (opcode, r) p h =
        subst (λ k. PlaysUnit (pace_of piece.head) k p h) kind plays in (
          subst (λ k. PlaysUnit (pace_of piece.head) k ((voice_model areas piece).plays r ws points p).0
              ((plain_model piece).plays r ws points h).0) (sym kind) (plays_on piece opcode r p h ws points own),
          result_same piece opcode r p h ws points own generators,
        );
  }

  pub voice_follows : Follows stock kinds N (voice_world areas piece) (plain piece)
      (SameState N areas kinds (pace_of piece.head) earlier)
  voice_follows = models_follow areas _ _ _ _ _ placed _ _ _ _ model_follows
