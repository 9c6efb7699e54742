-- The plain world refuses a note only as it begins.
use Rattle.std.proofs.Common.{◌≡◌, refl, ap}
use Rattle.std.specs.Option.{is_some}
use Rattle.cs_words.specs.Catalogue.{row_of}
use Rattle.cs_ir.specs.Waves.{operand}
use Rattle.cs_meaning.specs.{Pieces.Piece, Pieces.index, Plain.Plain, Plain.plain, Plain.plain_model}
use Rattle.cs_meaning.proofs.Rest.{Rest, rest, unit_rest, store_rest, zak_rest, numbered_rest}
use Rattle.cs_code.proofs.Parts.{Quiet}

-- two states with the same cause, if there is one
calm : (x y : Plain) → rest x ≡ rest y → is_some x.cause ≡ is_some y.cause
calm x y h = ap (λ (r : Rest). is_some r.cause) h

pub plain_quiet : (piece : Piece) → Quiet (plain piece)
plain_quiet piece = record {
  save = λ g w x. refl;
  does = λ opcode r u reach ws x. calm ((plain piece).does opcode r u reach ws x).0 x
      (unit_rest (plain_model piece) opcode r u reach ws (x.units u) x);
  store = λ r reach ws x. calm ((plain piece).store r reach ws x) x
      (store_rest (plain_model piece) r reach ws (index (operand 2 ws 0)) x);
  zak = λ opcode reach ws x. calm ((plain piece).zak opcode reach ws x).0 x
      (zak_rest (plain_model piece) (row_of opcode).shape reach ws x);
  out = λ c w x. refl;
  out_at = λ k w x. calm ((plain piece).out_at k w x) x (numbered_rest (plain_model piece) (index (k 0)) w x);
  turnoff = λ x. refl;
}
