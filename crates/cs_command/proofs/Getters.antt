-- The results of the getters if the matches hold uses.
use Rattle.std.proofs.Common.{◌≡◌, ◌∙◌, ◌≤◌, ◌<◌, ℕ, Bool, true, false, List, Option, Some, None, Result, is_some}
use Rattle.std.proofs.Common.{option_map, refl, ap, codes, bytes_eq, arith, true≢false}
use Rattle.std.specs.{Option.unwrap_or, Str.Parse.ParsesUnsigned}
use Rattle.std.proofs.lemmas.Slice.Eq.{bytes_eq-Decides}
use Rattle.clap.specs.Matches.{ReadsOne, found_of, one_text}
use Rattle.clap.specs.declared.parser.matches.ArgMatches.{ArgMatches}
use Rattle.cs_arguments.specs.Reading.{AskedPiece, Text, Use, asked_by, asked_of, has_use, number_of, piece_of}
use Rattle.cs_arguments.specs.{Reading.value_of, Reading.width_of, Ranges.most_workers, Ranges.most_demo_notes}
use Rattle.cs_base.specs.declared.width.SampleWidth.{SampleWidth}
use Rattle.cs_arguments.proofs.Values.{IsCounted, IsFlag, flag_is, number_for, number_in, number_is}
use Rattle.cs_command.specs.inner.Matched.{Holds}

-- ---- numbers

abbrev pub IsU32 : {E : Type 0} → (Text → Result ℕ E → Type 0) → Type 0
IsU32 {E} G = (u : Text) (x : Result ℕ E) → G u x → ParsesUnsigned 32 10 u x

pub workers_counted : IsCounted most_workers (codes "j")
workers_counted = (refl, refl, λ v. refl)

pub notes_counted : IsCounted most_demo_notes (codes "demo")
notes_counted = (refl, refl, λ v. refl)

pub number_given : (E : Type 0) (G : Text → Result ℕ E → Type 0) (most : ℕ) (key : Text) → IsCounted most key
    → most < 4294967296 → IsU32 G → (m : ArgMatches) (uses : List Use) → Holds uses m
    → (r : Option ℕ) → (one_text (found_of m) key ≡ None → r ≡ None)
    → ((t : Text) → one_text (found_of m) key ≡ Some t → ReadsOne G t r)
    → r ≡ option_map number_of (value_of key uses)
number_given E G most key is low only m uses holds r none some =
    number_is E G most key is low only (found_of m) uses holds.1 holds.0 r none some

pub in_range : (most : ℕ) (key : Text) → IsCounted most key → (uses : List Use) (m : ArgMatches) → Holds uses m
    → (n : ℕ) → Some n ≡ option_map number_of (value_of key uses) → (1 ≤ n) × (n ≤ most)
in_range most key is uses m holds n e = go (value_of key uses) refl e
  where
    go : (o : Option Text) → value_of key uses ≡ o → Some n ≡ option_map number_of o → (1 ≤ n) × (n ≤ most)
    go None at e = absurd (true≢false (ap is_some e))
    go (Some v) at e =
        let facts = number_in most v (number_for most key is uses holds.0 v at) in
        let same : n ≡ number_of v = ap (λ o. unwrap_or o 0) e in
        (omega (arith, facts.1), omega (arith, facts.2))

-- ---- flags

pub flag_given : (key : Text) → IsFlag key → (m : ArgMatches) (uses : List Use) → Holds uses m → (r : Bool)
    → (one_text (found_of m) key ≡ Some (codes "true") → r ≡ true)
    → (one_text (found_of m) key ≡ Some (codes "false") → r ≡ false) → r ≡ has_use key uses
flag_given key is m uses holds r when unless = flag_is key is (found_of m) uses holds.1 holds.0 r when unless

says_true : (v : Text) → bytes_eq v (codes "true") ≡ true → v ≡ codes "true"
says_true v e = (bytes_eq-Decides v (codes "true")).0 e

pub wide_flag : IsFlag (codes "3")
wide_flag = (refl, refl, says_true)

pub silent_flag : IsFlag (codes "n")
silent_flag = (refl, refl, says_true)

pub turns_flag : IsFlag (codes "turns")
turns_flag = (refl, refl, says_true)

pub pool_flag : IsFlag (codes "pool")
pool_flag = (refl, refl, says_true)

-- ---- all together

pub all_given : (uses : List Use) (w : ℕ) (f : Text) (wide silent turns pool : Bool) (width : SampleWidth)
    (piece : AskedPiece)
    → w ≡ unwrap_or (option_map number_of (value_of (codes "j") uses)) 1
    → f ≡ unwrap_or (value_of (codes "o") uses) (codes "test.wav")
    → width ≡ width_of wide → wide ≡ has_use (codes "3") uses → silent ≡ has_use (codes "n") uses
    → turns ≡ has_use (codes "turns") uses → pool ≡ has_use (codes "pool") uses
    → Some piece ≡ piece_of (option_map number_of (value_of (codes "demo") uses)) (value_of (codes "ORC") uses)
    (value_of (codes "SCO") uses)
    → Some (record {
      workers = w;
      sound_file = f;
      width = width;
      silent = silent;
      turns = turns;
      pool = pool;
      piece =
          piece;
    }) ≡ asked_by uses
all_given uses w f wide silent turns pool width piece e1 e2 e3 e4 e5 e6 e7 e8 =
    let e9 : width ≡ width_of (has_use (codes "3") uses) = e3 ∙ ap width_of e4 in
    (λ i. Some (record {
      workers = e1 i;
      sound_file = e2 i;
      width = e9 i;
      silent = e5 i;
      turns = e6 i;
      pool =
          e7 i;
      piece = piece;
    }))
    ∙ ap (option_map (asked_of uses)) e8

pub piece_given : (uses : List Use) (n : Option ℕ) (a b : Option Text)
    → n ≡ option_map number_of (value_of (codes "demo") uses) → a ≡ value_of (codes "ORC") uses
    → b ≡ value_of (codes "SCO") uses
    → piece_of n a b ≡ piece_of (option_map number_of (value_of (codes "demo") uses)) (value_of (codes "ORC") uses)
    (value_of (codes "SCO") uses)
piece_given uses n a b e1 e2 e3 = λ i. piece_of (e1 i) (e2 i) (e3 i)
