-- A note isn't turned off as it begins, and it schedules at most as many notes as its statements do.
use Rattle.std.proofs.Common.{◌≡◌, ◌≤◌, ◌∙◌, ℕ, ℤ, pos, ◌+◌, Bool, false, ◌&&◌, List, [], ◌∷◌, length, length-append}
use Rattle.std.proofs.Common.{slice_index_or, refl, ap, arith, nat_le, if◌then◌else◌}
use Rattle.cs_base.specs.{Limits.most_delay_samples, declared.resource.Rate.Rate, declared.resource.Res.Res}
use Rattle.cs_words.specs.{Catalogue.row_of, Catalogue.takes_table, declared.catalogue.Opcode.Opcode}
use Rattle.cs_ir.specs.Waves.{Wave, operand}
use Rattle.cs_meaning.specs.{Core.Block, Initialising.init_block, Notes.new_note, Notes.start}
use Rattle.cs_meaning.specs.Model.{begun, delay_too_long, delayed, lacks_table, no_table, refused_for, starts}
use Rattle.cs_meaning.specs.Pieces.{Piece, index, is_delay, table_number}
use Rattle.cs_meaning.specs.Plain.{Plain, fresh, plain, plain_model}
use Rattle.cs_meaning.proofs.Rest.{Rest, store_rest, unit_rest, zak_rest}
use Rattle.cs_piece_meaning.specs.Bounded.{asks_in}
use Rattle.cs_piece_meaning.proofs.Initial.{Goes, block_goes, chosen_is}

-- whether a note was turned off, and the notes that it schedules
abbrev told : Plain → Bool × List (List ℤ)
told x = (x.ended, x.asks)

abbrev told_of : Rest → Bool × List (List ℤ)
told_of r = (r.ended, r.asks)

-- the note isn't turned off, and schedules at most n more notes
record Begins (n : ℕ) (x y : Plain) : Type 0 where
  on : y.ended ≡ x.ended
  few : length y.asks ≤ length x.asks + n

untold : (x y : Plain) → told y ≡ told x → Begins 0 x y
untold x y e =
    let same : length y.asks ≡ length x.asks = ap (λ (p : Bool × List (List ℤ)). length p.1) e in
    record { on = ap (λ (p : Bool × List (List ℤ)). p.0) e; few = omega (arith, same) }

module _ (piece : Piece) where
  starts_is : (q : Opcode) (r : Rate) (u : ℕ) (is : List ℤ) (x : Plain)
      → told (starts (plain_model piece) q r u is x) ≡ told x
  starts_is q r u is x =
      let far : ℕ = x.delays + piece.generators.delay (slice_index_or is 0 (pos 0)) in
      let unit : Plain = begun (plain_model piece) q r u is x in
      let late : Plain = delayed (plain_model piece) far q r u is x in
      chosen_is told (takes_table q && lacks_table (plain_model piece) is)
      (refused_for (no_table (table_number is)) x) (if is_delay q then late else unit) (told x) refl
      (chosen_is told (is_delay q) late unit (told x)
      (chosen_is told (nat_le far most_delay_samples) (begun (plain_model piece) q r u is (record x { delays = far }))
      (refused_for (delay_too_long far) x) (told x) refl refl) refl)

  sought_is : (is : List ℤ) (x : Plain) → told ((plain piece).seek is x) ≡ told x
  sought_is is x =
      chosen_is told (lacks_table (plain_model piece) is) (refused_for (no_table (table_number is)) x) x (told x) refl
      refl

  one_more : (is : List ℤ) (x : Plain) → Begins 1 x ((plain piece).ask is x)
  one_more is x = let long = length-append x.asks (is ∷ []) in record { on = refl; few = omega (arith, long) }

  goes : Goes (plain piece) Begins
  goes = record {
    none = λ x. untold x x refl;
    both = λ m n x y z p q. let a = p.few in let b = q.few in record { on = q.on ∙ p.on; few = omega (arith, a, b) };
    more = λ m n x y l p. let a = p.few in record { on = p.on; few = omega (arith, l, a) };
    save = λ g w x. untold x ((plain piece).save g w x) refl;
    start = λ q r u is x. untold x ((plain piece).start q r u is x) (starts_is q r u is x);
    does = λ q r u reach ws x. untold x ((plain piece).does q r u reach ws x).0
        (ap told_of (unit_rest (plain_model piece) q r u reach ws (x.units u) x));
    seek = λ is x. untold x ((plain piece).seek is x) (sought_is is x);
    store = λ r reach ws x. untold x ((plain piece).store r reach ws x)
        (ap told_of (store_rest (plain_model piece) r reach ws (index (operand 2 ws 0)) x));
    zak = λ q reach ws x. untold x ((plain piece).zak q reach ws x).0
        (ap told_of (zak_rest (plain_model piece) (row_of q).shape reach ws x));
    ask = one_more;
  }

  begins : (body : Block) (shared : Res → Wave)
      → Begins (asks_in body) (fresh shared) (init_block (plain piece) start body (new_note (fresh shared))).world
  begins body shared = (block_goes (plain piece) Begins goes body start (new_note (fresh shared))).worlds

  pub begins_unended : (body : Block) (shared : Res → Wave)
      → (init_block (plain piece) start body (new_note (fresh shared))).world.ended ≡ false
  begins_unended body shared = (begins body shared).on

  pub begins_asking : (body : Block) (shared : Res → Wave)
      → length (init_block (plain piece) start body (new_note (fresh shared))).world.asks ≤ asks_in body
  begins_asking body shared = let few = (begins body shared).few in omega (arith, few)
